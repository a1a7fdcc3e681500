-- How far a log was read, one batch after another.
use Rattle.std.specs.Prelude.{IsSome, IfSome, IsTrue}
use Rattle.std.proofs.Common.{◌≡◌, ◌∙◌, ℕ, ◌+◌, ◌^◌, ◌≤◌, ◌<◌, true, false, Bool, List, [], ◌∷◌, ◌++◌, Option, None, Some, Result, ap, append-nil, append_assoc, arith, drop, length, length-append, refl, subst, sym}
use Rattle.std.proofs.lemmas.List.{length-drop}
use Rattle.leveldb_base.specs.declared.error.Status.{Status}
use Rattle.leveldb_env.proofs.SourceLemmas.{GivesSome-first}
use Rattle.leveldb_env.specs.Env.{File, Files, bytes_of}
use Rattle.leveldb_env.specs.EnvFile.{Opened, Reads, opened_file}
use Rattle.leveldb_env.specs.Source.{GivesFirst, GivesSome}
use Rattle.leveldb_env.specs.declared.env.Env.{Ghosts}
use Rattle.leveldb_mem.proofs.LawsLemmas.{usual_size}
use Rattle.leveldb_mem.proofs.LogLemmas.{cut_log, length-record}
use Rattle.leveldb_mem.proofs.ReaderLemmas.{HoldsOfRest-first, ReadSoFar-more, ReadSoFar-none, ReadSoFar-torn, ReadSoFar-wrong}
use Rattle.leveldb_mem.specs.Log.{End, IsLogFile, bad, clean, log_block_size, offset_after}
use Rattle.leveldb_mem.specs.Log.Reader.{FindsEnd, FindsRecord, FindsWrongChecksum, HoldsOfRest, IsTorn, ReadSoFar, ReaderState, at_end, new_reader}
use Rattle.leveldb_mem.specs.WriteBatch.{Batch, IsBatch}
use Rattle.leveldb_files.proofs.Stores.BatchesLemmas.{each_more, one_batches}
use Rattle.leveldb_files.specs.Stores.Batches.{Each, IsRecordOf}
use Rattle.leveldb_files.specs.Stores.Paths.{log_path}
use Rattle.leveldb_files.specs.Stores.Store.{ReplayedLog as StoreLog}
use Rattle.leveldb_store.specs.Logs.FoundLogs.{LogBeginsWith}
use Rattle.leveldb_store.specs.Logs.LogReplay.{HasReadBatches, IsLogAt, IsNoLog, IsReadOutAs, IsReadUpTo, LogReplayState}
use Rattle.leveldb_store.proofs.Logs.LogSourceLemmas.{all_given, checksum_plain, given_next, holds_of_rest, plain_all, plain_some, record_plain}

-- ---- none is read

module _ (models_disk : Bool) (files : Files) (log : LogReplayState) where
  pub has_read_none : log.reader ≡ new_reader true log_block_size → log.left ≡ log.size
      → log.size < 2 ^ 64
      → (IsTrue models_disk → (file : File) × (files log.path ≡ Some file)
      × (length (bytes_of file) ≡ log.size) × (log.offset ≡ 0))
      → HasReadBatches models_disk files log []
  has_read_none new left fits there =
      let start = ReadSoFar-none GivesFirst true log_block_size usual_size [] in
      record {
        front = [];
        records = [];
        read = refl;
        each = tt;
        reader = first;
        few = omega (arith, left);
        fits = fits;
        file = λ modelled. let t = there modelled in (
          t.0,
          t.1,
          record {
            size = t.2;
            parts = sym (ap (λ (r : ReaderState). r.unread ++ drop log.offset (bytes_of t.0)) new
                ∙ ap (λ n. drop n (bytes_of t.0)) t.3);
          },
        );
      }
    where
      first : log.reader ≡ record (new_reader true log_block_size) {
        offset = offset_after log_block_size 0 [];
        unread = log.reader.unread;
      }
      first = new ∙ ap (λ unread. record (new_reader true log_block_size) {
        offset = offset_after log_block_size 0 [];
        unread = unread;
      }) (sym (ap (λ (r : ReaderState). r.unread) new))

-- ---- what is known of the file

-- where the log's file is the same, as much was read of it
pub has_read_same : (models_disk : Bool) (files others : Files) (log : LogReplayState)
    (batches : List Batch) → (IsTrue models_disk → others log.path ≡ files log.path)
    → HasReadBatches models_disk files log batches → HasReadBatches models_disk others log batches
has_read_same models_disk files others log batches same has = record {
  front = has.front;
  records = has.records;
  read = has.read;
  each = has.each;
  reader = has.reader;
  few = has.few;
  fits = has.fits;
  file = λ modelled. let was = has.file modelled in (was.0, same modelled ∙ was.1, was.2);
}

-- the log of the number begins with the batches that were read
pub has_begun : (store : List ℕ) (number : ℕ) (files : Files) {models_disk : Bool}
    {log : LogReplayState} {batches : List Batch} → log.path ≡ log_path store number
    → HasReadBatches models_disk files log batches → IsTrue models_disk
    → LogBeginsWith store files number batches
has_begun store number files {log = log} path_is has modelled = let was = has.file modelled in (
  was.0,
  ap files (sym path_is) ∙ was.1,
  record {
    records = has.records;
    front = has.front;
    rest = log.reader.unread ++ drop log.offset (bytes_of was.0);
    parts = was.2.parts;
    read = has.read;
    each = has.each;
  },
)

-- a front of a list has partners that are a front of the others
each_front : {A B : Type 0} (R : A → B → Type 0) (xs ys : List A) (zs : List B)
    → Each R (xs ++ ys) zs → (front : List B) × (rest : List B) × (zs ≡ front ++ rest)
    × Each R xs front
each_front R [] ys zs e = ([], zs, refl, tt)
each_front R (x ∷ xs) ys [] e = absurd e
each_front R (x ∷ xs) ys (z ∷ zs) e = let more = each_front R xs ys zs e.1 in
    (z ∷ more.0, more.1, ap (λ bs. z ∷ bs) more.2, (e.0, more.3))

-- the file is no log but of batches that begin with those that were read
pub begins_log : (files : Files) {models_disk : Bool} {log : LogReplayState} {batches : List Batch}
    → HasReadBatches models_disk files log batches → IsTrue models_disk → (is : StoreLog)
    → IsLogAt (files log.path) is → (rest : List Batch) × (is.batches ≡ batches ++ rest)
begins_log files {log = log} {batches = batches} has modelled is (found, there, is_log) =
    let was = has.file modelled in
    let same : Some found ≡ Some was.0 = sym there ∙ was.1 in
    let here : found ≡ was.0 = cc in
    let cut = cut_log true log_block_size usual_size.most 0 has.front
    (log.reader.unread ++ drop log.offset (bytes_of was.0)) is_log.records has.records is.end clean
    (subst (λ bytes. IsLogFile bytes is_log.records is.end)
    (ap bytes_of here ∙ was.2.parts) is_log.read) has.read in
    let split = each_front IsRecordOf has.records cut.0 is.batches
    (subst (λ rs. Each IsRecordOf rs is.batches) cut.1 is_log.each) in (
      split.1,
      split.2 ∙ ap (λ front. front ++ split.1)
          (one_batches has.records split.0 batches split.3 has.each),
    )

-- ---- one more, or the end

module _ {models_disk : Bool} {files : Files} {old : LogReplayState} {batches : List Batch}
    (has : HasReadBatches models_disk files old batches) where
  -- what was read, with bytes that come after it
  so_far : (rest : List ℕ) → ReadSoFar GivesFirst true log_block_size
      (has.front ++ (old.reader.unread ++ rest)) has.records old.reader rest
  so_far rest = record {
    front = has.front;
    come = record {
      given = has.front ++ old.reader.unread;
      reads = plain_some (has.front ++ old.reader.unread) rest
          (has.front ++ (old.reader.unread ++ rest))
          (sym (append_assoc has.front old.reader.unread rest));
      bytes_are = refl;
    };
    log = has.read;
    reader = has.reader;
  }

  module _ {S : Type 0} (gives : S → ℕ → Result (List ℕ) Status → S → Type 0) {from to : S}
      {text : List ℕ} {next : ReaderState} (finds : FindsRecord gives old.reader from text next to)
    where
      abbrev given : List ℕ
      given = finds.come.given

      more : ReadSoFar GivesFirst true log_block_size (has.front ++ (old.reader.unread ++ given))
          (has.records ++ text ∷ []) next []
      more = ReadSoFar-more GivesFirst true log_block_size usual_size
          (has.front ++ (old.reader.unread ++ given)) has.records old.reader given (so_far given) next
          [] text (record_plain gives finds)

      -- what was read and what was given are what is read now
      parts : has.front ++ (old.reader.unread ++ given) ≡ more.front ++ next.unread
      parts = GivesSome-first (λ (bytes : List ℕ). bytes) more.come.reads
          ∙ append-nil more.come.given ∙ sym more.come.bytes_are

      longer : length has.front + 1 ≤ length more.front
      longer =
          let whole = ap length parts in
          let before = length-append has.front (old.reader.unread ++ given) in
          let middle = length-append old.reader.unread given in
          let after = length-append more.front next.unread in
          let come = ap length finds.come.bytes_are in
          let come_is = length-append finds.front next.unread in
          let some = length-record old.reader.checked old.reader.size old.reader.offset text
          finds.front finds.is_record in
          omega (arith, whole, before, middle, after, come, come_is, some)

      module _ (new : LogReplayState) (same_path : new.path ≡ old.path)
          (same_size : new.size ≡ old.size) (is_next : new.reader ≡ next)
          (comes : IsTrue models_disk → (file : File) → files old.path ≡ Some file
          → drop old.offset (bytes_of file) ≡ given ++ drop new.offset (bytes_of file)) where
        new_file : IsTrue models_disk
            → (file : File) × (files new.path ≡ Some file) × IsReadUpTo new more.front file
        new_file modelled = let was = has.file modelled in (
          was.0,
          ap files same_path ∙ was.1,
          record {
            size = was.2.size ∙ sym same_size;
            parts =
                let rest = drop new.offset (bytes_of was.0) in
                was.2.parts
                ∙ ap (λ z. has.front ++ (old.reader.unread ++ z)) (comes modelled was.0 was.1)
                ∙ ap (λ z. has.front ++ z) (sym (append_assoc old.reader.unread given rest))
                ∙ sym (append_assoc has.front (old.reader.unread ++ given) rest)
                ∙ ap (λ z. z ++ rest) parts
                ∙ append_assoc more.front next.unread rest
                ∙ ap (λ (r : ReaderState). more.front ++ (r.unread ++ rest)) (sym is_next);
          },
        )

        -- more may have followed
        pub some_left : IsTrue models_disk → 0 < old.left
        some_left modelled =
            let file = new_file modelled in
            let rest = new.reader.unread ++ drop new.offset (bytes_of file.0) in
            let whole = ap length file.2.parts ∙ length-append more.front rest in
            let size = file.2.size in
            let few = has.few in
            let long = longer in
            omega (arith, whole, size, few, long, same_size)

        -- a batch more
        pub has_read_more : (batch : Batch) → IsRecordOf text batch → new.left + 1 ≡ old.left
            → HasReadBatches models_disk files new (batches ++ batch ∷ [])
        has_read_more batch is fewer = record {
          front = more.front;
          records = has.records ++ text ∷ [];
          read = more.log;
          each = each_more IsRecordOf has.records batches text batch has.each is;
          reader = subst (λ (r : ReaderState). r ≡ record (new_reader true log_block_size) {
            offset = offset_after log_block_size 0 more.front;
            unread = r.unread;
          }) (sym is_next) more.reader;
          few = let few = has.few in let long = longer in
              omega (arith, few, long, fewer, same_size);
          fits = let fits = has.fits in omega (arith, fits, same_size);
          file = new_file;
        }

        -- the file begins with the record, after those before it
        pub next_in_file : IsTrue models_disk → (file : File) × (files old.path ≡ Some file)
            × (front : List ℕ) × (rest : List ℕ) × (bytes_of file ≡ front ++ rest)
            × IsLogFile front (has.records ++ text ∷ []) clean
        next_in_file modelled = let file = new_file modelled in (
          file.0,
          ap files (sym same_path) ∙ file.1,
          more.front,
          new.reader.unread ++ drop new.offset (bytes_of file.0),
          file.2.parts,
          more.log,
        )

        -- a record that is no batch isn't one of a log of batches
        pub no_log : IsTrue models_disk → (IsBatch text → ⊥) → IsNoLog (files old.path)
        no_log modelled never log (found, there, is) =
            let file = new_file modelled in
            let same : Some found ≡ Some file.0 = sym there ∙ ap files (sym same_path) ∙ file.1 in
            let here : found ≡ file.0 = cc in
            let rest = new.reader.unread ++ drop new.offset (bytes_of file.0) in
            let cut = cut_log true log_block_size usual_size.most 0 more.front rest is.records
            (has.records ++ text ∷ []) log.end clean
            (subst (λ bytes. IsLogFile bytes is.records log.end)
            (ap bytes_of here ∙ file.2.parts) is.read) more.log in
            never (is_one has.records cut.0 log.batches
            (subst (λ rs. Each IsRecordOf rs log.batches)
            (cut.1 ∙ append_assoc has.records (text ∷ []) cut.0) is.each))
          where
            is_one : (front later : List (List ℕ)) (all : List Batch)
                → Each IsRecordOf (front ++ text ∷ later) all → IsBatch text
            is_one [] later [] each = absurd each
            is_one [] later (batch ∷ all) each = (batch, each.0)
            is_one (first ∷ front) later [] each = absurd each
            is_one (first ∷ front) later (batch ∷ all) each = is_one front later all each.1

  -- ---- the end

  -- bytes that are a log of these records are that of these batches
  read_out : (end : End) (file : File) → files old.path ≡ Some file
      → length (bytes_of file) ≡ old.size → IsLogFile (bytes_of file) has.records end
      → IsLogAt (files old.path)
      (record { number = old.number; batches = batches; end = end; size = old.size })
  read_out end file there size read = (
    file,
    there,
    record { records = has.records; read = read; each = has.each; size = sym size },
  )

module _ {E F : Type 0} (env : Ghosts E F) {old : LogReplayState} {batches : List Batch}
    {from : Opened E F} (reads_on : old.offset ≡ env.offset_of from.file)
    (named : IsTrue env.models_disk → env.name_of from.file ≡ old.path)
    (has : HasReadBatches env.models_disk (env.observed from.env).disk.files old batches) where
  abbrev files : Files
  files = (env.observed from.env).disk.files

  -- the file of the log is the one that is open
  opened_is : IsTrue env.models_disk → (file : File) → files old.path ≡ Some file
      → opened_file env from ≡ Some file
  opened_is modelled file there = ap files (named modelled) ∙ there

  -- what comes of it
  pub record_comes : {text : List ℕ} {next : ReaderState} {to : Opened E F}
      (finds : FindsRecord (Reads env) old.reader from text next to) → IsTrue env.models_disk
      → (file : File) → files old.path ≡ Some file → drop old.offset (bytes_of file)
      ≡ finds.come.given ++ drop (env.offset_of to.file) (bytes_of file)
  record_comes finds modelled file there = ap (λ n. drop n (bytes_of file)) reads_on
      ∙ given_next env modelled file (opened_is modelled file there) finds.come.reads

  -- between two records
  pub read_out_clean : {next : ReaderState} {to : Opened E F}
      → FindsEnd (Reads env) old.reader from next to
      → IsReadOutAs env.models_disk files old batches clean
  read_out_clean finds modelled =
      let was = has.file modelled in
      let all = all_given env modelled was.0 (opened_is modelled was.0 was.1) finds.come.reads in
      let none : [] ≡ old.reader.unread ++ drop old.offset (bytes_of was.0) =
      finds.come.bytes_are ∙ ap (λ z. old.reader.unread ++ z)
      (all ∙ ap (λ n. drop n (bytes_of was.0)) (sym reads_on)) in
      read_out has clean was.0 was.1 was.2.size
      (subst (λ bytes. IsLogFile bytes has.records clean)
      (sym (was.2.parts ∙ ap (λ z. has.front ++ z) (sym none) ∙ append-nil has.front)) has.read)

  -- the reader is where the file's rest begins
  at_rest : IsTrue env.models_disk → (file : File) → IsReadUpTo old has.front file
      → ReadSoFar GivesFirst true log_block_size (bytes_of file) has.records old.reader
      (drop (env.offset_of from.file) (bytes_of file))
  at_rest modelled file is = subst (λ bytes. ReadSoFar GivesFirst true log_block_size bytes
      has.records old.reader (drop (env.offset_of from.file) (bytes_of file)))
      (sym (is.parts ∙ ap (λ n. has.front ++ (old.reader.unread ++ drop n (bytes_of file))) reads_on))
      (so_far has (drop (env.offset_of from.file) (bytes_of file)))

  -- in damage
  pub read_out_torn : {to : Opened E F} → HoldsOfRest (Reads env)
      (IsTorn old.reader.checked old.reader.size old.reader.offset) old.reader.unread from to
      → IsReadOutAs env.models_disk files old batches bad
  read_out_torn torn modelled =
      let was = has.file modelled in
      let rest = drop (env.offset_of from.file) (bytes_of was.0) in
      let here = holds_of_rest env modelled was.0 (opened_is modelled was.0 was.1) torn in
      let shows = ReadSoFar-torn GivesFirst true log_block_size usual_size (bytes_of was.0)
      has.records old.reader rest (at_rest modelled was.0 was.2) old.reader []
      (at_end (old.reader.unread ++ rest)
      (record { given = rest; reads = plain_all rest; bytes_are = refl }) here) in
      read_out has bad was.0 was.1 was.2.size
      (HoldsOfRest-first (λ (bytes : List ℕ). bytes) shows)

  -- and at a wrong checksum
  pub read_out_wrong : {next : ReaderState} {to : Opened E F}
      → FindsWrongChecksum (Reads env) old.reader from next to
      → IsReadOutAs env.models_disk files old batches bad
  read_out_wrong {next} {to} wrong modelled =
      let was = has.file modelled in
      let rest = drop (env.offset_of from.file) (bytes_of was.0) in
      let shows = ReadSoFar-wrong GivesFirst true log_block_size usual_size (bytes_of was.0)
      has.records old.reader rest (at_rest modelled was.0 was.2) next
      (drop (env.offset_of to.file) (bytes_of was.0))
      (checksum_plain env modelled was.0 (opened_is modelled was.0 was.1) wrong) in
      read_out has bad was.0 was.1 was.2.size
      (HoldsOfRest-first (λ (bytes : List ℕ). bytes) shows)

  -- no file of a disk that is modelled gives 2^64 bytes
  pub never_too_much : {given : List ℕ} {to : Opened E F} → GivesSome (Reads env) from given to
      → 2 ^ 64 ≤ length given → IsTrue env.models_disk → ⊥
  never_too_much {given} {to} gives many modelled =
      let was = has.file modelled in
      let next = given_next env modelled was.0 (opened_is modelled was.0 was.1) gives in
      let after = drop (env.offset_of to.file) (bytes_of was.0) in
      let long = ap length next ∙ length-append given after in
      let rest = length-drop (env.offset_of from.file) (bytes_of was.0) in
      let size = was.2.size in
      let fits = has.fits in
      absurd (omega (arith, long, rest, size, fits, many))

-- ---- what is there when a log is opened

-- a file that is there has the size that is told
pub sized_there : (at : Option File) (size : ℕ) → IsSome at
    → IfSome at (λ file. size ≡ length (bytes_of file))
    → (file : File) × (at ≡ Some file) × (length (bytes_of file) ≡ size)
sized_there None size some is = absurd (let never : false ≡ true = some in cc)
sized_there (Some file) size some is = (file, refl, sym is)
