-- A reader of a log: what a source gives, and the records of a log one after another.
use Rattle.std.proofs.Common.{Err, ◌≡◌, ℕ, List, [], ◌∷◌, ◌++◌, Result, refl, sym, subst, ◌∙◌, ap, append_assoc, append-nil, ◌+◌, ◌<◌, Bool, true, false, length, arith, suc, ◌-◌, ◌≤◌, take, drop, slice_range, zero-add, inl, inr, length-append, Ok}
use Rattle.std.specs.List.{concat}
use Rattle.std.proofs.lemmas.List.Folds.{concat-append}
use Rattle.std.specs.Prelude.{Option, None, Some, IfSome, IsTrue}
use Rattle.std.proofs.Math.Nat.{mod-lt}
use Rattle.std.proofs.lemmas.List.{length-take-le, take-append-le, take_at, drop-append-le, take-append-drop, take-take, drop-drop}
use Rattle.std.proofs.lemmas.Slice.{between_is}
use Rattle.std.proofs.lemmas.List.Edits.{length-between}
use Rattle.leveldb_base.specs.declared.error.Status.{Status}
use Rattle.leveldb_base.specs.declared.error.StatusCode.TheVariants.{Corruption}
use Rattle.leveldb_env.specs.Source.{Draws, GivesSome, GivesAll, GivesUp, GivesFirst}
use Rattle.leveldb_env.proofs.SourceLemmas.{GivesSome-none, GivesSome-first, GivesAll-first}
use Rattle.leveldb_env.specs.declared.env.Env.{Ghosts}
use Rattle.leveldb_env.specs.declared.env.env_file.EnvFile.{EnvFile}
use Rattle.leveldb_env.specs.Env.{bytes_of}
use Rattle.leveldb_env.specs.EnvFile.{opened, opened_file, ChangesBorrowedFile, ReadsBorrowed, IsFurther}
use Rattle.leveldb_env.proofs.EnvFileLemmas.{IsFurther-borrowed, IsReadOut-borrowed, IsGivenUp-borrowed}
use Rattle.leveldb_base.specs.Error.{IsOutOfMemory}
use Rattle.leveldb_mem.specs.Log.Reader.{IsUnreadThenGiven, HoldsOfRest, at_end, whatever_follows, ReaderState, IsTorn, FindsRecord, FindsEnd, FindsWrongChecksum, ReadSoFar, FailsToRead, given_up, too_long, StopsReading, ReadResult}
use Rattle.leveldb_mem.specs.Log.{IsBlockSize, log_block_size, offset_after, IsRecord, End, clean, bad, Ends, LogOf, BreaksOff}
use Rattle.leveldb_mem.specs.Log.Files.{IsReadAsLog, StopsReadingFile}
use Rattle.leveldb_mem.proofs.LogLemmas.{offset_after_both, offset_after_none, log_append}
use Rattle.leveldb_mem.proofs.CrashLemmas.{breaks_bad}
use borrow.Rule.Slice.PartMut.{put_mid, post_of}

-- ---- what comes of a source after what came before

module _ {S : Type 0} (gives : S → ℕ → Result (List ℕ) Status → S → Type 0) where
  Draws-trans : (from : S) (these those : List (List ℕ)) (mid to : S) → Draws gives from these mid → Draws gives mid those to → Draws gives from (these ++ those) to
  Draws-trans from [] those mid to first second = subst (λ s. Draws gives s those to) first second
  Draws-trans from (piece ∷ these) those mid to first second = (first.0, first.1, first.2, first.3, Draws-trans first.1 these those mid to first.4 second)

  -- reads go on
  pub GivesSome-trans : {from mid to : S} {these those : List ℕ} → GivesSome gives from these mid → GivesSome gives mid those to → GivesSome gives from (these ++ those) to
  GivesSome-trans {from} {mid} {to} {these} {those} first second = record {
    pieces = first.pieces ++ second.pieces;
    drawn = Draws-trans from first.pieces second.pieces mid to first.drawn second.drawn;
    joined = ap (λ z. z ++ those) first.joined ∙ ap (λ z. concat first.pieces ++ z) second.joined ∙ sym (concat-append first.pieces second.pieces);
  }

  pub GivesAll-after : {from mid to : S} {these those : List ℕ} → GivesSome gives from these mid → GivesAll gives mid those to → GivesAll gives from (these ++ those) to
  GivesAll-after first second = record { mid = second.mid; given_before = GivesSome-trans first second.given_before; at_end = second.at_end }

  pub GivesUp-after : {from mid to : S} {these : List ℕ} {status : Status} → GivesSome gives from these mid → GivesUp gives mid status to → GivesUp gives from status to
  GivesUp-after {these = these} first second = record { mid = second.mid; bytes = these ++ second.bytes; given_before = GivesSome-trans first second.given_before; why = second.why }

  pub StopsReading-after : {from mid to : S} {these : List ℕ} {status : Status} → GivesSome gives from these mid → StopsReading gives mid status to → StopsReading gives from status to
  StopsReading-after {these = these} first (inl up) = inl (GivesUp-after first up)
  StopsReading-after {these = these} first (inr much) =
      inr (record { code = much.code; bytes = these ++ much.bytes; given_before = GivesSome-trans first much.given_before; many = omega (arith, much.many, length-append these much.bytes) })

  -- why a read fails that stops
  pub read_stopped : {old new : ReaderState} {source to : S} {status : Status} → StopsReading gives source status to → new.failed ≡ true → FailsToRead gives old source status new to
  read_stopped (inl up) failed = given_up up failed
  read_stopped (inr much) failed = too_long much failed

  -- bytes that come after a front
  joins : (unread given front rest more whole bytes : List ℕ) → whole ≡ unread ++ given → whole ≡ front ++ rest → bytes ≡ rest ++ more → front ++ bytes ≡ unread ++ (given ++ more)
  joins unread given front rest more whole bytes came cut next =
      ap (λ z. front ++ z) next ∙ sym (append_assoc front rest more) ∙ ap (λ z. z ++ more) (sym cut ∙ came) ∙ append_assoc unread given more

  pub UnreadThenGiven-after : {from mid to : S} {unread rest bytes : List ℕ} (front : List ℕ) → IsUnreadThenGiven (GivesSome gives) unread from (front ++ rest) mid → IsUnreadThenGiven (GivesSome gives) rest mid bytes to
      → IsUnreadThenGiven (GivesSome gives) unread from (front ++ bytes) to
  UnreadThenGiven-after {unread = unread} {rest = rest} {bytes = bytes} front first second = record {
    given = first.given ++ second.given;
    reads = GivesSome-trans first.reads second.reads;
    bytes_are = joins unread first.given front rest second.given (front ++ rest) bytes first.bytes_are refl second.bytes_are;
  }

  pub UnreadThenGivenAll-after : {from mid to : S} {unread rest bytes : List ℕ} (front : List ℕ) → IsUnreadThenGiven (GivesSome gives) unread from (front ++ rest) mid → IsUnreadThenGiven (GivesAll gives) rest mid bytes to
      → IsUnreadThenGiven (GivesAll gives) unread from (front ++ bytes) to
  UnreadThenGivenAll-after {unread = unread} {rest = rest} {bytes = bytes} front first second = record {
    given = first.given ++ second.given;
    reads = GivesAll-after first.reads second.reads;
    bytes_are = joins unread first.given front rest second.given (front ++ rest) bytes first.bytes_are refl second.bytes_are;
  }

  -- what shows after a front shows of the whole
  pub HoldsOfRest-after : {P Q : List ℕ → Type 0} {from mid to : S} {unread : List ℕ} (front rest : List ℕ) → IsUnreadThenGiven (GivesSome gives) unread from (front ++ rest) mid
      → ((bytes : List ℕ) → P bytes → Q (front ++ bytes)) → HoldsOfRest gives P rest mid to → HoldsOfRest gives Q unread from to
  HoldsOfRest-after front rest first so (at_end bytes second holds) = at_end (front ++ bytes) (UnreadThenGivenAll-after front first second) (so bytes holds)
  HoldsOfRest-after {Q = Q} front rest first so (whatever_follows bytes second holds) =
      whatever_follows (front ++ bytes) (UnreadThenGiven-after front first second) (λ more. subst Q (sym (append_assoc front bytes more)) (so (bytes ++ more) (holds more)))

  -- nothing was read yet
  pub UnreadThenGiven-none : (from : S) (unread : List ℕ) → IsUnreadThenGiven (GivesSome gives) unread from unread from
  UnreadThenGiven-none from unread = record { given = []; reads = GivesSome-none gives from; bytes_are = sym (append-nil unread) }

-- ---- how readings of one record after another make up the reading of a log

-- bytes that come where none was there were given
given_all : {S : Type 0} (Gives : S → List ℕ → S → Type 0) (from to : S) (bytes : List ℕ) → IsUnreadThenGiven Gives [] from bytes to → Gives from bytes to
given_all Gives from to bytes come = subst (λ z. Gives from z to) (sym come.bytes_are) come.reads

module _ {S : Type 0} (gives : S → ℕ → Result (List ℕ) Status → S → Type 0) (checked : Bool) (size : ℕ) (block : IsBlockSize size) (from : S) where
  start : 0 < size
  start = (let large = block.least in omega arith)

  -- no record is read yet
  pub ReadSoFar-none : ReadSoFar gives checked size from [] (let r : ReaderState = record { checked = checked; size = size; offset = 0; unread = []; failed = false } in r) from
  ReadSoFar-none = record {
    front = [];
    come = UnreadThenGiven-none gives from [];
    log = refl;
    reader = ap (λ offset. record { checked = checked; size = size; offset = offset; unread = []; failed = false }) (sym (offset_after_none size 0 start [] refl));
  }

  module _ (records : List (List ℕ)) (now : ReaderState) (at : S) (has : ReadSoFar gives checked size from records now at) (new : ReaderState) (to : S) where
    abbrev front : List ℕ
    front = has.front

    -- what holds at the reader's offset
    at_offset : (P : Bool → ℕ → ℕ → Type 0) → P now.checked now.size now.offset → P checked size (offset_after size 0 front)
    at_offset P holds = subst (λ r. P r.checked r.size r.offset) has.reader holds

    inside : offset_after size 0 front < size
    inside = mod-lt (0 + length front) start

    -- a record more
    pub ReadSoFar-more : (text : List ℕ) → FindsRecord gives now at text new to → ReadSoFar gives checked size from (records ++ text ∷ []) new to
    ReadSoFar-more text finds =
        let part = finds.front in
        let is = at_offset (λ checked size offset. IsRecord checked size text offset part) finds.is_record in
        record {
          front = front ++ part;
          come = subst (λ z. IsUnreadThenGiven (GivesSome gives) [] from z to) (sym (append_assoc front part new.unread)) (UnreadThenGiven-after gives front has.come finds.come);
          log = log_append size block.least checked 0 start records (text ∷ []) front part clean has.log (record { front = part; rest = []; bytes_are = sym (append-nil part); is_front = is; is_rest = refl });
          reader = finds.reader ∙ ap {B = ReaderState} (λ r. record r { offset = offset_after r.size r.offset part; unread = new.unread }) has.reader
              ∙ ap (λ offset. record { checked = checked; size = size; offset = offset; unread = new.unread; failed = false }) (offset_after_both size 0 front part (front ++ part) refl);
        }

    -- at the end what comes is a log of these records with a clean end
    pub ReadSoFar-clean : FindsEnd gives now at new to → HoldsOfRest gives (LogOf checked size records clean 0) [] from to
    ReadSoFar-clean finds = at_end (front ++ []) (UnreadThenGivenAll-after gives front has.come finds.come) (subst (LogOf checked size records clean 0) (sym (append-nil front)) has.log)

    -- a log that ends badly after these records
    ends_badly : (rest : List ℕ) → Ends checked size bad (offset_after size 0 front) rest → LogOf checked size records bad 0 (front ++ rest)
    ends_badly rest ends = subst (λ z. LogOf checked size z bad 0 (front ++ rest)) (append-nil records) (log_append size block.least checked 0 start records [] front rest bad has.log ends)

    -- at damage it is a log of these records with a bad end
    pub ReadSoFar-torn : HoldsOfRest gives (IsTorn now.checked now.size now.offset) now.unread at to → HoldsOfRest gives (LogOf checked size records bad 0) [] from to
    ReadSoFar-torn shows = HoldsOfRest-after gives front now.unread has.come (λ bytes torn. ends_badly bytes (at_offset (λ checked size offset. Ends checked size bad offset bytes) torn.ends)) shows

    -- and so it is at a wrong checksum
    pub ReadSoFar-wrong : FindsWrongChecksum gives now at new to → HoldsOfRest gives (LogOf checked size records bad 0) [] from to
    ReadSoFar-wrong finds =
        let part = finds.front in
        let asked = sym (ap (λ r. r.checked) has.reader) ∙ finds.asked in
        let off = at_offset (λ checked size offset. BreaksOff size true offset part) finds.breaks in
        whatever_follows (front ++ (part ++ new.unread)) (UnreadThenGiven-after gives front has.come finds.come)
        (λ more. subst (LogOf checked size records bad 0) (sym (append_assoc front (part ++ new.unread) more))
        (ends_badly ((part ++ new.unread) ++ more)
        (subst (λ c. Ends c size bad (offset_after size 0 front) ((part ++ new.unread) ++ more)) (sym asked) (subst (Ends true size bad (offset_after size 0 front)) (sym (append_assoc part new.unread more)) (breaks_bad size block.most (offset_after size 0 front) part (new.unread ++ more) inside off)))))

    -- a reading that stops
    pub ReadSoFar-stopped : (status : Status) → StopsReading gives at status to → StopsReading gives from status to
    ReadSoFar-stopped status stops = StopsReading-after gives (given_all (GivesSome gives) from at (front ++ now.unread) has.come) stops

-- ---- what shows of a source

-- a source of bytes in memory
abbrev pub first_given : {S : Type 0} → (S → List ℕ) → S → ℕ → Result (List ℕ) Status → S → Type 0
first_given left old room result new = GivesFirst (left old) room result (left new)

-- of bytes in memory
pub HoldsOfRest-first : {S : Type 0} (left : S → List ℕ) {P : List ℕ → Type 0} {from to : S} → HoldsOfRest (first_given left) P [] from to → P (left from)
HoldsOfRest-first left {P = P} {from = from} {to = to} (at_end bytes come holds) = subst P (GivesAll-first left (given_all (GivesAll (first_given left)) from to bytes come)).0 holds
HoldsOfRest-first left {P = P} {from = from} {to = to} (whatever_follows bytes come holds) = subst P (sym (GivesSome-first left (given_all (GivesSome (first_given left)) from to bytes come))) (holds (left to))

if_some : {A : Type 0} {P Q : A → Type 0} (o : Option A) → ((x : A) → P x → Q x) → IfSome o P → IfSome o Q
if_some None so is = tt
if_some (Some x) so is = so x is

module _ {E F : Type 0} (env : Ghosts E F) where
  -- of a file that is borrowed, from its offset on
  pub HoldsOfRest-borrowed : {P : List ℕ → Type 0} {from to : EnvFile E F} → HoldsOfRest (ReadsBorrowed env) P [] from to
      → (bytes : List ℕ) × ChangesBorrowedFile (λ old new. IsFurther env old bytes new) from to
      × (IsTrue env.models_disk → IfSome (opened_file env (opened from.env.now from.file.now)) (λ file. P (drop (env.offset_of from.file.now) (bytes_of file))))
  HoldsOfRest-borrowed {P = P} {from = from} {to = to} (at_end bytes come holds) =
      let read = IsReadOut-borrowed env (given_all (GivesAll (ReadsBorrowed env)) from to bytes come) in (
        bytes,
        record { changes = read.changes.further; same_env = read.same_env; same_file = read.same_file },
        λ modelled. if_some (opened_file env (opened from.env.now from.file.now)) (λ file is. subst P is holds) (read.changes.all modelled),
      )
  HoldsOfRest-borrowed {P = P} {from = from} {to = to} (whatever_follows bytes come holds) =
      let read = IsFurther-borrowed env (given_all (GivesSome (ReadsBorrowed env)) from to bytes come) in
      (bytes, read, λ modelled. if_some (opened_file env (opened from.env.now from.file.now)) (λ file is. subst P (sym is) (holds (drop (env.offset_of from.file.now + length bytes) (bytes_of file)))) (read.changes.next modelled))

  -- which is a log
  pub IsReadAsLog-borrowed : {records : List (List ℕ)} {end : End} {from to : EnvFile E F} → HoldsOfRest (ReadsBorrowed env) (LogOf true log_block_size records end 0) [] from to
      → ChangesBorrowedFile (λ old new. IsReadAsLog env old records end new) from to
  IsReadAsLog-borrowed shows =
      let read = HoldsOfRest-borrowed shows in
      record { changes = record { bytes = read.0; further = read.1.changes; log = read.2 }; same_env = read.1.same_env; same_file = read.1.same_file }

  -- or isn't read to its end
  pub StopsReadingFile-borrowed : {status : Status} {from to : EnvFile E F} → StopsReading (ReadsBorrowed env) from status to → ChangesBorrowedFile (λ old new. StopsReadingFile env old status new) from to
  StopsReadingFile-borrowed (inl up) =
      let read = IsGivenUp-borrowed env up in
      record { changes = inl read.changes; same_env = read.same_env; same_file = read.same_file }
  StopsReadingFile-borrowed (inr much) =
      let read = IsFurther-borrowed env much.given_before in
      record { changes = inr (record { code = much.code; bytes = much.bytes; further = read.changes; many = much.many }); same_env = read.same_env; same_file = read.same_file }

-- ---- parts of lists: what is between two offsets of a buffer

-- a front with some of what follows it
pub take-append-add : (front rest : List ℕ) (n : ℕ) → take (length front + n) (front ++ rest) ≡ front ++ take n rest
take-append-add [] rest n = ap (λ k. take k rest) (zero-add n)
take-append-add (x ∷ front) rest n =
    let more : length (x ∷ front) + n ≡ suc (length front + n) = omega arith in
    ap (λ k. take k (x ∷ (front ++ rest))) more ∙ ap (λ z. x ∷ z) (take-append-add front rest n)

module _ (xs ys : List ℕ) (from at count : ℕ) where
  -- after a write after an offset, what was before it is there still
  pub take-appended : at ≤ length xs → from ≤ at → take from (put_mid at count xs ys) ≡ take from xs
  take-appended inside before =
      take-append-le from (take at xs) (ys ++ post_of at count xs) (omega (arith, length-take-le at xs inside)) ∙ take-take from at xs before

  -- and the first bytes that were written follow it
  pub range-appended : at ≤ length xs → from ≤ at → (n : ℕ) → n ≤ length ys → slice_range (put_mid at count xs ys) from (at + n) ≡ slice_range xs from at ++ take n ys
  range-appended inside before n few =
      let written = put_mid at count xs ys in
      let front = length-take-le at xs inside in
      between_is written from (at + n)
      ∙ ap (drop from) (ap (λ k. take (k + n) written) (sym front) ∙ take-append-add (take at xs) (ys ++ post_of at count xs) n ∙ ap (λ z. take at xs ++ z) (take-append-le n ys (post_of at count xs) few))
      ∙ drop-append-le from (take at xs) (take n ys) (omega arith) ∙ ap (λ z. z ++ take n ys) (sym (between_is xs from at))

  -- what was before the offset is the same
  pub range-appended_all : at ≤ length xs → from ≤ at → slice_range (put_mid at count xs ys) from at ≡ slice_range xs from at
  range-appended_all inside before =
      between_is (put_mid at count xs ys) from at ∙ ap (drop from) (take_at (take at xs) (ys ++ post_of at count xs) at (length-take-le at xs inside)) ∙ sym (between_is xs from at)

-- a part of a list, cut in two
pub range-split : (xs : List ℕ) (from mid to : ℕ) → from ≤ mid → mid ≤ to → mid ≤ length xs → slice_range xs from to ≡ slice_range xs from mid ++ slice_range xs mid to
range-split xs from mid to first second inside =
    let front = length-take-le mid xs inside in
    let reach : to ≡ length (take mid xs) + (to - mid) = omega arith in
    between_is xs from to
    ∙ ap (drop from) (ap (λ n. take n xs) reach ∙ ap (take (length (take mid xs) + (to - mid))) (sym (take-append-drop mid xs)) ∙ take-append-add (take mid xs) (drop mid xs) (to - mid))
    ∙ drop-append-le from (take mid xs) (take (to - mid) (drop mid xs)) (omega arith) ∙ ap (λ z. z ++ slice_range xs mid to) (sym (between_is xs from mid))

-- what comes after the same front
pub range-more : (xs ys : List ℕ) (from mid to : ℕ) → from ≤ mid → mid ≤ to → mid ≤ length ys → take mid ys ≡ take mid xs → slice_range ys from to ≡ slice_range xs from mid ++ slice_range ys mid to
range-more xs ys from mid to first second inside same =
    range-split ys from mid to first second inside ∙ ap (λ z. z ++ slice_range ys mid to) (between_is ys from mid ∙ ap (drop from) same ∙ sym (between_is xs from mid))

-- the rest of a part
pub drop-range : (xs : List ℕ) (from to n : ℕ) → drop n (slice_range xs from to) ≡ slice_range xs (from + n) to
drop-range xs from to n = ap (drop n) (between_is xs from to) ∙ drop-drop n from (take to xs) ∙ sym (between_is xs (from + n) to)

-- ---- what a reader's steps leave to be read

-- a reader at another offset with other bytes
pub same_reader : (r : ReaderState) (p q : ℕ) (these those : List ℕ) → p ≡ q → these ≡ those → (let x : ReaderState = record r { offset = p; unread = these } in x) ≡ record r { offset = q; unread = those }
same_reader r p q these those e d = ap (λ z. record r { offset = z; unread = these }) e ∙ ap (λ z. record r { offset = q; unread = z }) d

-- what was read into a buffer, whose front stays as it was
module _ (old held new stored : List ℕ) (used filled count : ℕ) (read : used ≤ filled) (more : filled ≤ count) (inside : count ≤ length new)
    (front : take filled held ≡ take filled old) (kept : take filled new ≡ take filled held) (is_stored : stored ≡ new) where
  -- comes after what was there
  pub came : {S : Type 0} (Gives : S → List ℕ → S → Type 0) (source to : S) (unread : List ℕ) → slice_range old used filled ≡ unread → Gives source (slice_range new filled count) to
      → IsUnreadThenGiven Gives unread source (slice_range stored used count) to
  came Gives source to unread unread_is gives = record {
    given = slice_range new filled count;
    reads = gives;
    bytes_are = ap (λ z. slice_range z used count) is_stored ∙ range-more old new used filled count read more (omega arith) (kept ∙ front) ∙ ap (λ z. z ++ slice_range new filled count) unread_is;
  }

  pub length-came : length (slice_range stored used count) ≡ count - used
  length-came = ap (λ z. length (slice_range z used count)) is_stored ∙ length-between new used count inside

-- memory was wanted before any read
pub wants_memory : {S : Type 0} (gives : S → ℕ → Result (List ℕ) Status → S → Type 0) (source : S) (status : Status) → IsOutOfMemory status → GivesUp gives source status source
wants_memory gives source status memory = record { mid = source; bytes = []; given_before = GivesSome-none gives source; why = inr (refl, memory) }

-- ---- a read that fails

-- what an error of a read has to say
pub read_failed : {S : Type 0} (gives : S → ℕ → Result (List ℕ) Status → S → Type 0) (old : ReaderState) (source : S) (result : Result ℕ Status) (status : Status) (text : List ℕ) (new : ReaderState) (to : S)
    → result ≡ Err status → text ≡ [] → (old.failed ≡ false → FailsToRead gives old source status new to)
    → (old.failed ≡ true → (status.code ≡ Corruption) × (new ≡ old) × (to ≡ source)) → ReadResult gives old source result text new to
read_failed gives old source result status text new to e none fails failed =
    subst (λ r. ReadResult gives old source r text new to) (sym e) (record { count = tt; found = tt; end = λ ok. absurd (cc); err = fails; failed = failed; cleared = none })

-- results that are the same hold the same
pub ok_is : {T E : Type 0} {x y : T} → ◌≡◌ {A = Result T E} (Ok x) (Ok y) → x ≡ y
ok_is same = cc
