-- The numbers that manifests name, and the greatest of a folder.
use Rattle.std.specs.Global.{Global}
use Rattle.std.specs.Prelude.{All, Any, Contains, IfErr, IfOk, IsSomeAnd, IsTrue, flat_map, string_bytes}
use Rattle.std.specs.Option.{unwrap_or}
use Rattle.std.proofs.Common.{◌≡◌, ◌∙◌, ◌⊎◌, inl, inr, ⊎_elim, ◌<◌, ◌≤◌, ◌+◌, ◌-◌, ◌^◌, ℕ, List, [], ◌∷◌, ◌++◌, Option, None, Some, Ok, Err, Result, Vec, ap, append-nil, arith, fold, get_or, length, length-append, map, max, refl, subst, sym, take}
use Rattle.std.proofs.lemmas.Bool.{cases_lt}
use Rattle.std.proofs.lemmas.List.{map-append, take_all, take_more}
use Rattle.std.proofs.lemmas.List.Concat.{flat_map-append}
use Rattle.std.proofs.lemmas.List.Elements.{All-contains, All-weaker, Contains-append_left, Contains-push, Contains-push_cases}
use Rattle.std.proofs.lemmas.List.Sums.{fold-append}
use Rattle.leveldb_base.proofs.EntriesLemmas.{in_map, map_in}
use Rattle.leveldb_base.proofs.HistoryLemmas.{in_cases, in_none, in_rest, in_front}
use Rattle.leveldb_base.proofs.NamesLemmas.{one_reading}
use Rattle.leveldb_base.specs.Error.{IsOutOfMemory}
use Rattle.leveldb_base.specs.Names.{IsFileName}
use Rattle.leveldb_base.specs.declared.error.Status.{Status}
use Rattle.leveldb_base.specs.declared.types.FileMetaData.{FileMetaData}
use Rattle.leveldb_base.specs.declared.types.FileType.TheVariants.{Descriptor}
use Rattle.leveldb_env.proofs.EnvLemmas.{Run-call, Run-trans, begun}
use Rattle.leveldb_env.proofs.SourceLemmas.{GivesAll-first, GivesSome-first}
use Rattle.leveldb_env.specs.Env.{ChangesFiles, File, Files, FilesUnchanged, HasCause, Run, SameLocks, bytes_of, in_folder, kept_file, same}
use Rattle.leveldb_env.specs.Source.{GivesFirst}
use Rattle.leveldb_env.specs.WholeFiles.{IsLost}
use Rattle.leveldb_env.specs.declared.env.Env.{Ghosts}
use Rattle.leveldb_files.proofs.Edits.EditLemmas.{one_edit}
use Rattle.leveldb_files.proofs.Stores.BatchesLemmas.{each_more, each_one}
use Rattle.leveldb_files.specs.Edits.Edit.{Edit, IsEdit, NewFile}
use Rattle.leveldb_files.specs.Stores.Batches.{Each}
use Rattle.leveldb_mem.proofs.LawsLemmas.{log_laws}
use Rattle.leveldb_mem.specs.Log.{End, IsLogFile}
use Rattle.leveldb_mem.specs.Log.Reader.{HoldsOfRest, StopsReading, at_end, whatever_follows}
use Rattle.leveldb_version.specs.Edits.VersionEdit.{new_file_of}
use Rattle.leveldb_version_set.proofs.Sets.RecoverLemmas.{cause_of_error}
use Rattle.leveldb_version_set.specs.Repairs.Repairing.{IsNumberIn, IsNumberInManifest, IsNumberOfName, numbers_in}
use Rattle.leveldb_store.proofs.Openings.OpeningFindLemmas.{listed as named, no_slash_in_name}
use Rattle.leveldb_store.specs.Logs.ReplayLog.{HasCauseOr}
use Rattle.leveldb_store.specs.Openings.Listing.{AreFilesIn, MatchesName}
use Rattle.leveldb_store.specs.declared.opening.listing.ListedFile.{ListedFile}
use Rattle.leveldb_repair.proofs.FindLogsLemmas.{alone, alone_is}
use Rattle.leveldb_repair.proofs.FoundLogsLemmas.{each_left}
use Rattle.leveldb_repair.proofs.RepairNumbersLemmas.{number_of_name}
use Rattle.leveldb_repair.specs.Numbers.{FindsGreatest, IsGreatestNumber, IsMissingManifest, IsNumberInListed, IsNumberInRecords, IsRaised, RaisesToFile, WhyNoNumbers}

-- ---- a number that is raised

-- to none
pub raised_none : {Among : ℕ → Type 0} (least : ℕ) → ((n : ℕ) → Among n → ⊥)
    → IsRaised Among least least
raised_none least none =
    record { at_least = omega arith; above = λ n c. absurd (none n c); some = inl refl }

-- to these and then to those
pub raised_twice : {These Those All : ℕ → Type 0} {first mid last : ℕ} → IsRaised These first mid
    → IsRaised Those mid last → ((n : ℕ) → All n → These n ⊎ Those n)
    → ((n : ℕ) → These n → All n) → ((n : ℕ) → Those n → All n) → IsRaised All first last
raised_twice {These} {Those} {All} {first} {mid} {last} one two either left right = record {
  at_least = let a = one.at_least in let b = two.at_least in omega (arith, a, b);
  above = λ n c. ⊎_elim
      (λ (here : These n). let a = one.above n here in let b = two.at_least in omega (arith, a, b))
      (λ (there : Those n). two.above n there) (either n c);
  some = ⊎_elim
      (λ (same : last ≡ mid). ⊎_elim
      (λ (start : mid ≡ first). inl (same ∙ start))
      (λ (here : These mid). inr (left last (subst These (sym same) here)))
      one.some)
      (λ (there : Those last). inr (right last there))
      two.some;
}

-- to the same in other words
pub raised_as : {These Those : ℕ → Type 0} {least number : ℕ} → IsRaised These least number
    → ((n : ℕ) → Those n → These n) → ((n : ℕ) → These n → Those n)
    → IsRaised Those least number
raised_as {These} {Those} {least} {number} one back on = record {
  at_least = one.at_least;
  above = λ n c. one.above n (back n c);
  some = ⊎_elim (λ (same : number ≡ least). inl same)
      (λ (here : These number). inr (on number here)) one.some;
}

-- to one more than the least one
raised_one : (least one : ℕ) → IsRaised (λ n. one ≡ n) least (max least one)
raised_one least one = record {
  at_least = omega arith;
  above = λ n c. omega (arith, c);
  some = ⊎_elim (λ (less : least < one). inr (omega (arith, less)))
      (λ (most : one ≤ least). inl (omega (arith, most))) (cases_lt least one);
}

-- to all of a list
pub raised_fold : (numbers : List ℕ) (least : ℕ)
    → IsRaised (Contains numbers) least (fold max least numbers)
raised_fold [] least = raised_none least (λ n c. in_none n c)
raised_fold (one ∷ numbers) least =
    raised_twice (raised_one least one) (raised_fold numbers (max least one))
    (λ n c. in_cases one n numbers c)
    (λ n e. subst (Contains (one ∷ numbers)) e (in_front one numbers))
    (λ n c. in_rest one n numbers c)

-- ---- files that are added

abbrev number_of : NewFile → ℕ
number_of file = file.number

abbrev added : List (ℕ × FileMetaData) → List ℕ
added files = map number_of (map new_file_of files)

pub files_raised : (files : List (ℕ × FileMetaData)) (i : ℕ) (file : ℕ × FileMetaData)
    → i < length files → file ≡ get_or files i file → (least before now : ℕ)
    → before ≡ fold max least (added (take i files)) → now ≡ max before file.1.num
    → now ≡ fold max least (added (take (i + 1) files))
files_raised files i file inside is least before now so_far now_is =
    now_is ∙ ap (λ n. max n file.1.num) so_far
    ∙ sym (ap (fold max least) more ∙ fold-append max least (added (take i files))
    (file.1.num ∷ []))
  where
    more : added (take (i + 1) files) ≡ added (take i files) ++ file.1.num ∷ []
    more = ap added (take_more files i file inside ∙ ap (λ f. take i files ++ f ∷ []) (sym is))
        ∙ ap (map number_of) (map-append new_file_of (take i files) (file ∷ []))
        ∙ map-append number_of (map new_file_of (take i files)) (new_file_of file ∷ [])

pub files_raised_all : (files : List (ℕ × FileMetaData)) (i least number : ℕ) → length files ≤ i
    → number ≡ fold max least (added (take i files)) → number ≡ fold max least (added files)
files_raised_all files i least number past is =
    is ∙ ap (λ fs. fold max least (added fs)) (take_all i files past)

-- ---- an edit

pub edit_raised : (edit : Edit) (least log previous next below first second third last : ℕ)
    → log ≡ unwrap_or edit.log_number 0 → previous ≡ unwrap_or edit.previous_log 0
    → next ≡ unwrap_or edit.next_file 0 → below ≡ next - 1 → first ≡ max least log
    → second ≡ max first previous → third ≡ max second below
    → last ≡ fold max third (map number_of edit.added)
    → last ≡ fold max least (numbers_in edit)
edit_raised edit least log previous next below first second third last log_is previous_is next_is
    below_is first_is second_is third_is last_is =
    last_is ∙ ap (λ n. fold max n (map number_of edit.added)) together
  where
    together : third ≡ max (max (max least (unwrap_or edit.log_number 0))
        (unwrap_or edit.previous_log 0)) (unwrap_or edit.next_file 0 - 1)
    together = third_is
        ∙ ap (λ n. max n below) (second_is ∙ ap (λ n. max n previous) (first_is
        ∙ ap (max least) log_is) ∙ ap (max (max least (unwrap_or edit.log_number 0))) previous_is)
        ∙ ap (max (max (max least (unwrap_or edit.log_number 0)) (unwrap_or edit.previous_log 0)))
        (below_is ∙ ap (λ n. n - 1) next_is)

-- ---- records

-- what the records of a log hold
abbrev pub texts : List (Vec ℕ Global) → List (List ℕ)
texts records = map (λ (v : Vec ℕ Global). v.items) records

-- these records are edits, to whose numbers a number is raised
pub record AreEditsTo (records : List (List ℕ)) (least number : ℕ) : Type 0 where
  pub edits : List Edit
  pub each : Each IsEdit records edits
  pub is : number ≡ fold max least (flat_map numbers_in edits)

pub edits_none : (least : ℕ) → AreEditsTo [] least least
edits_none least = record { edits = []; each = tt; is = refl }

pub edits_more : (records : List (Vec ℕ Global)) (i : ℕ) (one : Vec ℕ Global)
    → i < length records → one ≡ get_or records i one → (least before now : ℕ)
    → AreEditsTo (texts (take i records)) least before → (edit : Edit) → IsEdit one.items edit
    → now ≡ fold max before (numbers_in edit)
    → AreEditsTo (texts (take (i + 1) records)) least now
edits_more records i one inside is least before now was edit is_edit now_is = record {
  edits = was.edits ++ edit ∷ [];
  each = subst (λ ts. Each IsEdit ts (was.edits ++ edit ∷ [])) (sym more)
      (each_more IsEdit (texts (take i records)) was.edits one.items edit was.each is_edit);
  is = now_is ∙ ap (λ n. fold max n (numbers_in edit)) was.is
      ∙ sym (ap (fold max least) numbers
      ∙ fold-append max least (flat_map numbers_in was.edits) (numbers_in edit));
}
  where
    more : texts (take (i + 1) records) ≡ texts (take i records) ++ one.items ∷ []
    more = ap texts (take_more records i one inside ∙ ap (λ f. take i records ++ f ∷ []) (sym is))
        ∙ map-append (λ (v : Vec ℕ Global). v.items) (take i records) (one ∷ [])

    numbers : flat_map numbers_in (was.edits ++ edit ∷ [])
        ≡ flat_map numbers_in was.edits ++ numbers_in edit
    numbers = flat_map-append numbers_in was.edits (edit ∷ [])
        ∙ ap (λ ns. flat_map numbers_in was.edits ++ ns) (append-nil (numbers_in edit))

-- all of them are
pub edits_all : (records : List (Vec ℕ Global)) (i least number : ℕ) → length records ≤ i
    → AreEditsTo (texts (take i records)) least number
    → IsRaised (IsNumberInRecords (texts records)) least number
edits_all records i least number past was =
    raised_as (subst (IsRaised (Contains (flat_map numbers_in was.edits)) least) (sym was.is)
    (raised_fold (flat_map numbers_in was.edits) least))
    (λ n c. subst (λ es. Contains (flat_map numbers_in es) n)
    (each_one IsEdit one_edit (texts records) c.0 was.edits c.1 each) c.2)
    (λ n c. (was.edits, each, c))
  where
    each : Each IsEdit (texts records) was.edits
    each = subst (λ rs. Each IsEdit (texts rs) was.edits) (take_all i records past) was.each

-- or one is none
pub edits_never : (records : List (Vec ℕ Global)) (i : ℕ) (one : Vec ℕ Global) (least : ℕ)
    → i < length records → one ≡ get_or records i one
    → ((edit : Edit) → IsEdit one.items edit → ⊥)
    → IsRaised (IsNumberInRecords (texts records)) least least
edits_never records i one least inside is none = raised_none least (λ n c.
    let edit = each_left IsEdit (texts records) c.0 c.1 one.items
    (map_in (λ (v : Vec ℕ Global). v.items) records one (i, inside, sym is)) in
    none edit.0 edit.2)

-- ---- bytes

-- records that were read of bytes in memory are those of a log
pub read_of_bytes : {S : Type 0} (left : S → List ℕ) (records : List (List ℕ)) (end : End)
    {from to : S}
    → HoldsOfRest (λ old room result new. GivesFirst (left old) room result (left new))
    (λ text. IsLogFile text records end) [] from to
    → IsLogFile (left from) records end
read_of_bytes left records end {from} {to} (at_end bytes come holds) =
    subst (λ text. IsLogFile text records end)
    (come.bytes_are ∙ (GivesAll-first left come.reads).0) holds
read_of_bytes left records end {from} {to} (whatever_follows bytes come holds) =
    subst (λ text. IsLogFile text records end)
    (ap (λ b. b ++ left to) come.bytes_are ∙ sym (GivesSome-first left come.reads))
    (holds (left to))

-- and their reading stops where memory is out alone
pub stops_of_bytes : {S : Type 0} (left : S → List ℕ) {status : Status} {from to : S}
    → StopsReading (λ old room result new. GivesFirst (left old) room result (left new)) from
    status to → length (left from) < 2 ^ 64 → IsOutOfMemory status
stops_of_bytes left {status} {from} {to} (inl up) fits = ⊎_elim
    (λ (failed : (room : ℕ) × GivesFirst (left up.mid) room (Err status) (left to)).
    let never = failed.1.ok in absurd (cc (never)))
    (λ (memory : (to ≡ up.mid) × IsOutOfMemory status). memory.1)
    up.why
stops_of_bytes left {status} {from} {to} (inr much) fits =
    let all = GivesSome-first left much.given_before in
    let many = much.many in
    absurd (omega (arith, ap length all, length-append much.bytes (left to), fits, many))

-- a manifest of these records names what its edits name
pub manifest_raised : (text : List ℕ) (records : List (List ℕ)) (end : End) {least number : ℕ}
    → IsLogFile text records end → IsRaised (IsNumberInRecords records) least number
    → (file : File) → bytes_of file ≡ text → IsRaised (IsNumberIn file) least number
manifest_raised text records end read raised file is = raised_as raised
    (λ n c.
    let one = (log_laws.one text c.1.records records c.1.end end
    (subst (λ b. IsLogFile b c.1.records c.1.end) is c.1.read) read).0 in
    (c.0, subst (λ rs. Each IsEdit rs c.0) one c.1.each, c.2))
    (λ n c. (
      c.0,
      record {
        records = records;
        end = end;
        read = subst (λ b. IsLogFile b records end) (sym is) read;
        each = c.1;
      },
      c.2,
    ))

-- so it is of what a call returns that raises a number to theirs
pub manifest_ok : (text : List ℕ) (records : List (List ℕ)) (end : End) (least : ℕ)
    → IsLogFile text records end → (result : Result ℕ Status)
    → IfOk result (λ number. IsRaised (IsNumberInRecords records) least number)
    → IfOk result (λ number. (file : File) → bytes_of file ≡ text
    → IsRaised (IsNumberIn file) least number)
manifest_ok text records end least read (Ok number) raised =
    manifest_raised text records end read raised
manifest_ok text records end least read (Err status) raised = tt

-- ---- a listed file

module _ {E F : Type 0} (env : Ghosts E F) (store : List ℕ) (file : ListedFile) (least : ℕ)
    (from : E) where
  abbrev files : Files
  files = (env.observed from).disk.files

  abbrev Raises : Result ℕ Status → E → Type 0
  Raises = RaisesToFile env store file least from

  -- it is no manifest
  pub RaisesToFile-other : (file.kind ≡ Descriptor → ⊥) → Raises (Ok least) from
  RaisesToFile-other other = record {
    still = λ modelled. begun (env.observed from) refl;
    locks = λ modelled. refl;
    at_least = omega arith;
    raised = λ modelled. raised_none least (λ n c. other c.0);
    cause = record { later = omega arith; ok = refl; uncounted = tt; cause = tt };
  }

  -- memory is out
  pub RaisesToFile-out_of_memory : (status : Status) (to : E)
      → (IsTrue env.models_disk → Run (FilesUnchanged files) (env.observed from) (env.observed to))
      → SameLocks env.models_disk (env.observed from) (env.observed to)
      → env.failures to ≡ env.failures from → IsOutOfMemory status → Raises (Err status) to
  RaisesToFile-out_of_memory status to still locks counted memory = record {
    still = still;
    locks = locks;
    at_least = tt;
    raised = tt;
    cause = record {
      later = omega (arith, counted);
      ok = tt;
      uncounted = λ why. counted;
      cause = inl (inl memory);
    };
  }

  module _ (is_manifest : file.kind ≡ Descriptor) (path : List ℕ)
      (path_is : path ≡ in_folder store (string_bytes file.name)) {T : Type 0}
      {answer : Result T Status} {to : E}
      (does : IsTrue env.models_disk → ChangesFiles env.models_disk same FilesUnchanged
      (env.observed from) (env.observed to) answer)
      (locks : SameLocks env.models_disk (env.observed from) (env.observed to)) where
    -- it isn't read
    pub RaisesToFile-unread : (status : Status)
        → HasCause {T = T} (IsLost env.models_disk path (env.observed from) (env.failures from)
        (env.failures to)) (env.failures from) (env.failures to) (Err status)
        → Raises (Err status) to
    RaisesToFile-unread status cause = record {
      still = λ modelled. Run-call modelled (does modelled);
      locks = locks;
      at_least = tt;
      raised = tt;
      cause = cause_of_error {T = T} status why why_not cause;
    }
      where
        why : IsLost env.models_disk path (env.observed from) (env.failures from)
            (env.failures to) status
            → IsOutOfMemory status
            ⊎ (WhyNoNumbers env store from (file ∷ []) status
            × (env.failures to ≡ env.failures from))
        why (inl memory) = inl memory
        why (inr gone) = inr (
          (
            gone.0.code,
            λ modelled. alone (IsMissingManifest store files) file
                (is_manifest, ap files (sym path_is) ∙ gone.1 modelled),
          ),
          gone.2,
        )

        why_not : IsOutOfMemory status
            ⊎ (WhyNoNumbers env store from (file ∷ []) status
            × (env.failures to ≡ env.failures from))
            → IsLost env.models_disk path (env.observed from) (env.failures from)
            (env.failures to) status ⊎ (env.failures to ≡ env.failures from)
        why_not (inl memory) = inl (inl memory)
        why_not (inr other) = inr other.1

    -- it is read, and the number raised
    pub RaisesToFile-raised : (text : List ℕ)
        → (IsTrue env.models_disk → IsSomeAnd (files path) (λ it. text ≡ bytes_of it))
        → env.failures to ≡ env.failures from → (result : Result ℕ Status)
        → IfOk result (λ number. (it : File) → bytes_of it ≡ text
        → IsRaised (IsNumberIn it) least number) → IfErr result IsOutOfMemory → Raises result to
    RaisesToFile-raised text read counted (Err status) ok memory =
        RaisesToFile-out_of_memory status to (λ modelled. Run-call modelled (does modelled)) locks
        counted memory
    RaisesToFile-raised text read counted (Ok number) ok memory = record {
      still = λ modelled. Run-call modelled (does modelled);
      locks = locks;
      at_least = (ok (kept_file text) (append-nil text)).at_least;
      raised = λ modelled.
          let one = there (files path) (read modelled) in
          let at : files (in_folder store (string_bytes file.name)) ≡ Some one.0 =
          ap files (sym path_is) ∙ one.1 in
          raised_as (ok one.0 (sym one.2))
          (λ n c.
          let both : Some c.1 ≡ Some one.0 = sym c.2 ∙ at in
          let same_file : c.1 ≡ one.0 = cc in
          subst (λ (f : File). IsNumberIn f n) same_file c.3)
          (λ n c. (is_manifest, one.0, at, c));
      cause = record {
        later = omega (arith, counted);
        ok = counted;
        uncounted = tt;
        cause = tt;
      };
    }
      where
        there : (o : Option File) → IsSomeAnd o (λ (it : File). text ≡ bytes_of it)
            → (it : File) × (o ≡ Some it) × (text ≡ bytes_of it)
        there None never = absurd never
        there (Some it) is = (it, refl, is)

-- ---- all of them

module _ {E F : Type 0} (env : Ghosts E F) (store : List ℕ) (listing : List ListedFile) (first : ℕ)
    (from : E) where
  abbrev listed_files : Files
  listed_files = (env.observed from).disk.files

  -- one of the files names the number
  abbrev IsIn : List ListedFile → ℕ → Type 0
  IsIn those n =
      (file : ListedFile) × Contains those file × IsNumberInListed store listed_files file n

  -- the number is raised to those of the first files
  pub record RaisedSoFar (count number : ℕ) (at : E) : Type 0 where
    pub still : IsTrue env.models_disk
        → Run (FilesUnchanged listed_files) (env.observed from) (env.observed at)
    pub locks : SameLocks env.models_disk (env.observed from) (env.observed at)
    pub counted : env.failures at ≡ env.failures from
    pub at_least : first ≤ number
    pub raised : IsTrue env.models_disk → IsRaised (IsIn (take count listing)) first number

  pub RaisedSoFar-none : RaisedSoFar 0 first from
  RaisedSoFar-none = record {
    still = λ modelled. begun (env.observed from) refl;
    locks = λ modelled. refl;
    counted = refl;
    at_least = omega arith;
    raised = λ modelled. raised_none first (λ n c. in_none c.0 c.1);
  }

  module _ (i : ℕ) {number : ℕ} {at : E} (so_far : RaisedSoFar i number at) (file : ListedFile)
      (inside : i < length listing) (is : file ≡ get_or listing i file) where
    module _ {result : Result ℕ Status} {to : E}
        (raises : RaisesToFile env store file number at result to) where
      still_then : IsTrue env.models_disk
          → Run (FilesUnchanged listed_files) (env.observed from) (env.observed to)
      still_then modelled = let before = so_far.still modelled in
          Run-trans before (λ now same. same ∙ before.has) (raises.still modelled)

      locks_then : SameLocks env.models_disk (env.observed from) (env.observed to)
      locks_then modelled = raises.locks modelled ∙ so_far.locks modelled

    -- to those of one more
    pub RaisedSoFar-more : {new : ℕ} {to : E} → RaisesToFile env store file number at (Ok new) to
        → RaisedSoFar (i + 1) new to
    RaisedSoFar-more {new} {to} raises = record {
      still = still_then raises;
      locks = locks_then raises;
      counted = raises.cause.ok ∙ so_far.counted;
      at_least =
          let a = so_far.at_least in
          let b : number ≤ new = raises.at_least in
          omega (arith, a, b);
      raised = λ modelled.
          subst (λ fs. IsRaised (IsIn fs) first new) (sym more)
          (raised_twice (so_far.raised modelled)
          (subst (λ (fs : Files). IsRaised (IsNumberInListed store fs file) number new)
          (so_far.still modelled).has (raises.raised modelled))
          (λ n c. either n c)
          (λ n c. (c.0, Contains-append_left (take i listing) (file ∷ []) c.0 c.1, c.2))
          (λ n c. (file, Contains-push (take i listing) file, c)));
    }
      where
        more : take (i + 1) listing ≡ take i listing ++ file ∷ []
        more = take_more listing i file inside ∙ ap (λ f. take i listing ++ f ∷ []) (sym is)

        either : (n : ℕ) → IsIn (take i listing ++ file ∷ []) n
            → IsIn (take i listing) n ⊎ IsNumberInListed store listed_files file n
        either n c = ⊎_elim
            (λ (old : Contains (take i listing) c.0). inl (c.0, old, c.2))
            (λ (new_one : file ≡ c.0).
            inr (subst (λ f. IsNumberInListed store listed_files f n) (sym new_one) c.2))
            (Contains-push_cases (take i listing) file c.0 c.1)

    -- or why not
    why_one : (status : Status) → WhyNoNumbers env store at (file ∷ []) status
        → WhyNoNumbers env store from listing status
    why_one status missing = (
      missing.0,
      λ modelled. (
        i,
        file,
        inside,
        sym is,
        subst (λ (fs : Files). IsMissingManifest store fs file) (so_far.still modelled).has
            (alone_is (IsMissingManifest store (env.observed at).disk.files) file
            (missing.1 modelled)),
      ),
    )

    pub FindsGreatest-stopped : (status : Status) {to : E}
        → RaisesToFile env store file number at (Err status) to
        → FindsGreatest env store listing from (Err status) to
    FindsGreatest-stopped status {to} raises = record {
      still = still_then raises;
      locks = locks_then raises;
      above = tt;
      greatest = tt;
      cause = cause_of_error {T = ℕ} status
          (λ why. ⊎_elim (λ (memory : IsOutOfMemory status). inl memory)
          (λ other. inr (why_one status other.0, other.1)) why)
          (λ why. ⊎_elim (λ (memory : IsOutOfMemory status). inl (inl memory))
          (λ other. inr other.1) why)
          (subst (λ n. HasCauseOr {T = ℕ} (WhyNoNumbers env store at (file ∷ [])) n
          (env.failures to) (Err status)) so_far.counted raises.cause);
    }

  -- to those of all
  pub FindsGreatest-done : IsGreatestNumber listing first → (i : ℕ) {number : ℕ} {at : E}
      → RaisedSoFar i number at → length listing ≤ i
      → FindsGreatest env store listing from (Ok number) at
  FindsGreatest-done greatest_is i {number} {at} so_far past = record {
    still = so_far.still;
    locks = so_far.locks;
    above = All-weaker (λ (file : ListedFile). file.number ≤ first)
        (λ (file : ListedFile). file.number ≤ number)
        (λ file less. let most = so_far.at_least in omega (arith, less, most)) listing
        greatest_is.above;
    greatest = λ modelled are. record {
      below = λ name n kind name_is there.
          let most = so_far.at_least in
          let less = greatest_is.below store listed_files are.0 (are.1 modelled) are.2 name n kind
          name_is there in
          omega (arith, most, less);
      named = λ n has. (all modelled).above n (in_listing modelled are n has);
      is = ⊎_elim
          (λ (same : number ≡ first). ⊎_elim
          (λ (zero : first ≡ 0). inl (same ∙ zero))
          (λ (some : Any (λ (file : ListedFile). file.number ≡ first) listing).
          inr (inl (subst (IsNumberOfName store listed_files) (sym same)
          (number_of_name env store from listing first modelled are some))))
          greatest_is.some)
          (λ (one : IsIn listing number). inr (inr (in_folder_of modelled are number one)))
          (all modelled).some;
    };
    cause = record {
      later = let same = so_far.counted in omega (arith, same);
      ok = so_far.counted;
      uncounted = tt;
      cause = tt;
    };
  }
    where
      all : IsTrue env.models_disk → IsRaised (IsIn listing) first number
      all modelled = subst (λ fs. IsRaised (IsIn fs) first number) (take_all i listing past)
          (so_far.raised modelled)

      -- a manifest of the folder is listed
      in_listing : IsTrue env.models_disk → AreFilesIn env store from listing → (n : ℕ)
          → IsNumberInManifest store listed_files n → IsIn listing n
      in_listing modelled are n (name, k, name_is, file, there, has) =
          let c = named store listed_files are.0 (are.1 modelled) name
          (no_slash_in_name name k Descriptor name_is)
          (λ none. let never : Some file ≡ None = sym there ∙ none in cc) in
          let at = in_map (λ (one : ListedFile). string_bytes one.name) listing name
          (are.2.all name k Descriptor c name_is) in
          let reads : IsFileName name at.0.number at.0.kind =
          subst (λ t. IsFileName t at.0.number at.0.kind) at.2
          (All-contains MatchesName listing at.0 are.2.named at.1) in (
            at.0,
            at.1,
            (
              (one_reading name at.0.number k at.0.kind Descriptor reads name_is).1,
              file,
              ap (λ t. listed_files (in_folder store t)) at.2 ∙ there,
              has,
            ),
          )

      -- a listed one is in the folder
      in_folder_of : IsTrue env.models_disk → AreFilesIn env store from listing → (n : ℕ)
          → IsIn listing n → IsNumberInManifest store listed_files n
      in_folder_of modelled are n one =
          let file = one.0 in (
            string_bytes file.name,
            file.number,
            subst (λ kind. IsFileName (string_bytes file.name) file.number kind) one.2.0
                (All-contains MatchesName listing file are.2.named one.1),
            one.2.1,
            one.2.2,
            one.2.3,
          )
