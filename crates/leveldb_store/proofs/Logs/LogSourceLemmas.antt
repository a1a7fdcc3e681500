-- What a reader of a log finds in a file that is borrowed for each call.
use Rattle.std.specs.Prelude.{IfErr, IfOk, IfSome, IsTrue}
use Rattle.std.proofs.Common.{◌≡◌, ◌∙◌, inl, inr, ℕ, ◌+◌, true, false, Bool, Err, List, [], ◌∷◌, ◌++◌, Some, Ok, Result, ap, append-nil, append_assoc, arith, drop, length, refl, subst, sym, take}
use Rattle.std.proofs.Math.Seq.{drop-append_seam, take-append_seam}
use Rattle.leveldb_base.specs.declared.error.Status.{Status}
use Rattle.leveldb_env.proofs.EnvFileLemmas.{IsFurther-given, IsReadOut-given}
use Rattle.leveldb_env.proofs.SourceLemmas.{GivesAll-same, GivesAll-seen, GivesSome-none, GivesSome-same, GivesSome-seen, GivesUp-same, GivesUp-seen}
use Rattle.leveldb_env.specs.Env.{File, bytes_of}
use Rattle.leveldb_env.specs.EnvFile.{ChangesBorrowedFile, Opened, Reads, ReadsBorrowed, opened, opened_file}
use Rattle.leveldb_env.specs.Source.{GivesAll, GivesFirst, GivesSome}
use Rattle.leveldb_env.specs.declared.env.Env.{Ghosts}
use Rattle.leveldb_env.specs.declared.env.env_file.EnvFile.{EnvFile}
use Rattle.leveldb_mem.specs.Log.Reader.{FindsNext, FindsRecord, FindsWrongChecksum, HoldsOfRest, IsUnreadThenGiven, ReaderState, StopsReading, at_end, whatever_follows}
use Rattle.leveldb_mem.specs.declared.log.reader.Found.{Found}
use Rattle.leveldb_mem.specs.declared.log.reader.Found.TheVariants.{Damage, End, Record, WrongChecksum}

-- ---- a source that is seen as another

module _ {S T : Type 0} (gives : S → ℕ → Result (List ℕ) Status → S → Type 0)
    (seen_gives : T → ℕ → Result (List ℕ) Status → T → Type 0) (seen : S → T)
    (so : (old : S) (room : ℕ) (result : Result (List ℕ) Status) (new : S)
    → gives old room result new → seen_gives (seen old) room result (seen new)) where
  come_seen : {from to : S} {unread bytes : List ℕ}
      → IsUnreadThenGiven (GivesSome gives) unread from bytes to
      → IsUnreadThenGiven (GivesSome seen_gives) unread (seen from) bytes (seen to)
  come_seen come = record {
    given = come.given;
    reads = GivesSome-seen gives seen_gives seen so come.reads;
    bytes_are = come.bytes_are;
  }

  all_come_seen : {from to : S} {unread bytes : List ℕ}
      → IsUnreadThenGiven (GivesAll gives) unread from bytes to
      → IsUnreadThenGiven (GivesAll seen_gives) unread (seen from) bytes (seen to)
  all_come_seen come = record {
    given = come.given;
    reads = GivesAll-seen gives seen_gives seen so come.reads;
    bytes_are = come.bytes_are;
  }

  rest_seen : {P : List ℕ → Type 0} {unread : List ℕ} {from to : S}
      → HoldsOfRest gives P unread from to → HoldsOfRest seen_gives P unread (seen from) (seen to)
  rest_seen (at_end bytes come holds) = at_end bytes (all_come_seen come) holds
  rest_seen (whatever_follows bytes come holds) = whatever_follows bytes (come_seen come) holds

  finds_seen : (found : Found) (core : ReaderState) (from : S) (text : List ℕ) (next : ReaderState)
      (to : S) → FindsNext gives found core from text next to
      → FindsNext seen_gives found core (seen from) text next (seen to)
  finds_seen Record core from text next to finds = record {
    front = finds.front;
    come = come_seen finds.come;
    is_record = finds.is_record;
    reader = finds.reader;
  }
  finds_seen End core from text next to finds = (
    record { come = all_come_seen finds.0.come; reader = finds.0.reader },
    finds.1,
  )
  finds_seen WrongChecksum core from text next to finds = record {
    front = finds.front;
    asked = finds.asked;
    come = come_seen finds.come;
    breaks = finds.breaks;
    reader = finds.reader;
  }
  finds_seen (Damage cause) core from text next to finds = rest_seen finds

  stops_seen : {status : Status} {from to : S} → StopsReading gives from status to
      → StopsReading seen_gives (seen from) status (seen to)
  stops_seen (inl up) = inl (GivesUp-seen gives seen_gives seen so up)
  stops_seen (inr much) = inr (record {
    code = much.code;
    bytes = much.bytes;
    given_before = GivesSome-seen gives seen_gives seen so much.given_before;
    many = much.many;
  })

-- what each read leaves as it is stays so
module _ {S N : Type 0} (gives : S → ℕ → Result (List ℕ) Status → S → Type 0) (name : S → N)
    (so : (old : S) (room : ℕ) (result : Result (List ℕ) Status) (new : S)
    → gives old room result new → name new ≡ name old) where
  rest_same : {P : List ℕ → Type 0} {unread : List ℕ} {from to : S}
      → HoldsOfRest gives P unread from to → name to ≡ name from
  rest_same (at_end bytes come holds) = GivesAll-same gives name so come.reads
  rest_same (whatever_follows bytes come holds) = GivesSome-same gives name so come.reads

  finds_same : (found : Found) (core : ReaderState) (from : S) (text : List ℕ) (next : ReaderState)
      (to : S) → FindsNext gives found core from text next to → name to ≡ name from
  finds_same Record core from text next to finds = GivesSome-same gives name so finds.come.reads
  finds_same End core from text next to finds = GivesAll-same gives name so finds.0.come.reads
  finds_same WrongChecksum core from text next to finds = GivesSome-same gives name so finds.come.reads
  finds_same (Damage cause) core from text next to finds = rest_same finds

  stops_same : {status : Status} {from to : S} → StopsReading gives from status to
      → name to ≡ name from
  stops_same (inl up) = GivesUp-same gives name so up
  stops_same (inr much) = GivesSome-same gives name so much.given_before

-- ---- a file that is borrowed

module _ {E F : Type 0} (env : Ghosts E F) where
  abbrev seen_file : EnvFile E F → Opened E F
  seen_file borrowed = opened borrowed.env.now borrowed.file.now

  -- what is found in it, is found in the file
  pub finds_borrowed : (found : Found) (core : ReaderState) (from : EnvFile E F) (text : List ℕ)
      (next : ReaderState) (to : EnvFile E F) → FindsNext (ReadsBorrowed env) found core from text next to
      → ChangesBorrowedFile (λ old new. FindsNext (Reads env) found core old text next new) from to
  finds_borrowed found core from text next to finds = record {
    changes = finds_seen (ReadsBorrowed env) (Reads env) seen_file
        (λ old room result new read. read.changes) found core from text next to finds;
    same_env = finds_same (ReadsBorrowed env) (λ borrowed. borrowed.env.ghost_name)
        (λ old room result new read. read.same_env) found core from text next to finds;
    same_file = finds_same (ReadsBorrowed env) (λ borrowed. borrowed.file.ghost_name)
        (λ old room result new read. read.same_file) found core from text next to finds;
  }

  -- and why it isn't read on
  pub stops_borrowed : {status : Status} {from to : EnvFile E F}
      → StopsReading (ReadsBorrowed env) from status to
      → ChangesBorrowedFile (λ old new. StopsReading (Reads env) old status new) from to
  stops_borrowed stops = record {
    changes = stops_seen (ReadsBorrowed env) (Reads env) seen_file
        (λ old room result new read. read.changes) stops;
    same_env = stops_same (ReadsBorrowed env) (λ borrowed. borrowed.env.ghost_name)
        (λ old room result new read. read.same_env) stops;
    same_file = stops_same (ReadsBorrowed env) (λ borrowed. borrowed.file.ghost_name)
        (λ old room result new read. read.same_file) stops;
  }

  -- a file keeps its name
  pub finds_named : IsTrue env.models_disk → (found : Found) (core : ReaderState)
      (from : Opened E F) (text : List ℕ) (next : ReaderState) (to : Opened E F) → FindsNext (Reads env) found core from text next to
      → env.name_of to.file ≡ env.name_of from.file
  finds_named modelled found core from text next to finds =
      finds_same (Reads env) (λ state. env.name_of state.file)
      (λ old room result new read. read.file modelled) found core from text next to finds

  pub stops_named : IsTrue env.models_disk → {status : Status} {from to : Opened E F}
      → StopsReading (Reads env) from status to → env.name_of to.file ≡ env.name_of from.file
  stops_named modelled stops = stops_same (Reads env) (λ state. env.name_of state.file)
      (λ old room result new read. read.file modelled) stops

-- ---- bytes in memory

-- they give a front of them
pub plain_some : (bytes rest whole : List ℕ) → whole ≡ bytes ++ rest
    → GivesSome GivesFirst whole bytes rest
plain_some [] rest whole is =
    subst (λ from. GivesSome GivesFirst from [] rest) (sym is) (GivesSome-none GivesFirst rest)
plain_some (byte ∷ bytes) rest whole is = record {
  pieces = (byte ∷ bytes) ∷ [];
  drawn = (
    length (byte ∷ bytes),
    rest,
    omega arith,
    record {
      ok = ap (λ piece. Ok piece) (sym (ap (take (length (byte ∷ bytes))) is
          ∙ take-append_seam (byte ∷ bytes) rest));
      left = sym (ap (drop (length (byte ∷ bytes))) is ∙ drop-append_seam (byte ∷ bytes) rest);
    },
    refl,
  );
  joined = sym (append-nil (byte ∷ bytes));
}

-- and all of them
pub plain_all : (bytes : List ℕ) → GivesAll GivesFirst bytes bytes []
plain_all bytes = record {
  mid = [];
  given_before = plain_some bytes [] bytes (sym (append-nil bytes));
  at_end = (1, omega arith, record { ok = refl; left = refl });
}

-- ---- what is found in a file, is found in its bytes

module _ {E F : Type 0} (env : Ghosts E F) (modelled : IsTrue env.models_disk) (file : File)
    {from : Opened E F} (there : opened_file env from ≡ Some file) where
  abbrev rest_of : Opened E F → List ℕ
  rest_of at = drop (env.offset_of at.file) (bytes_of file)

  -- what was given comes before what is left
  pub given_next : {to : Opened E F} {given : List ℕ} → GivesSome (Reads env) from given to
      → rest_of from ≡ given ++ rest_of to
  given_next {to} {given} gives =
      let further = IsFurther-given env gives in
      let next = subst (λ at. IfSome at (λ found. drop (env.offset_of from.file) (bytes_of found)
      ≡ given ++ drop (env.offset_of from.file + length given) (bytes_of found))) there
      (further.next modelled) in
      next ∙ ap (λ n. given ++ drop n (bytes_of file)) (sym (further.offset modelled))

  -- and all that was given is all of it
  pub all_given : {to : Opened E F} {given : List ℕ} → GivesAll (Reads env) from given to
      → given ≡ rest_of from
  all_given {to} {given} gives = subst
      (λ at. IfSome at (λ found. given ≡ drop (env.offset_of from.file) (bytes_of found))) there
      ((IsReadOut-given env gives).all modelled)

  -- what holds of all that comes, holds of what was unread with what is left
  pub holds_of_rest : {P : List ℕ → Type 0} {unread : List ℕ} {to : Opened E F}
      → HoldsOfRest (Reads env) P unread from to → P (unread ++ rest_of from)
  holds_of_rest {P} {unread} (at_end bytes come holds) =
      subst P (come.bytes_are ∙ ap (λ given. unread ++ given) (all_given come.reads)) holds
  holds_of_rest {P} {unread} {to} (whatever_follows bytes come holds) =
      subst P (ap (λ z. z ++ rest_of to) come.bytes_are
      ∙ append_assoc unread come.given (rest_of to)
      ∙ ap (λ z. unread ++ z) (sym (given_next come.reads))) (holds (rest_of to))

  -- a wrong checksum
  pub checksum_plain : {core next : ReaderState} {to : Opened E F}
      → FindsWrongChecksum (Reads env) core from next to
      → FindsWrongChecksum GivesFirst core (rest_of from) next (rest_of to)
  checksum_plain {to = to} finds = record {
    front = finds.front;
    asked = finds.asked;
    come = record {
      given = finds.come.given;
      reads = plain_some finds.come.given (rest_of to) (rest_of from)
          (given_next finds.come.reads);
      bytes_are = finds.come.bytes_are;
    };
    breaks = finds.breaks;
    reader = finds.reader;
  }

-- a record that is found in any source, is found in what that gave
pub record_plain : {S : Type 0} (gives : S → ℕ → Result (List ℕ) Status → S → Type 0)
    {core next : ReaderState} {from to : S} {text : List ℕ}
    (finds : FindsRecord gives core from text next to)
    → FindsRecord GivesFirst core finds.come.given text next []
record_plain gives finds = record {
  front = finds.front;
  come = record {
    given = finds.come.given;
    reads = plain_some finds.come.given [] finds.come.given (sym (append-nil finds.come.given));
    bytes_are = finds.come.bytes_are;
  };
  is_record = finds.is_record;
  reader = finds.reader;
}

-- ---- whatever a read of a record returns

module _ {E F : Type 0} (env : Ghosts E F) (modelled : IsTrue env.models_disk)
    (core : ReaderState) (from : EnvFile E F) (text : List ℕ) (next : ReaderState)
    (to : EnvFile E F) where
  abbrev KeepsName : EnvFile E F → EnvFile E F → Type 0
  KeepsName = ChangesBorrowedFile (λ old new. env.name_of new.file ≡ env.name_of old.file)

  found_named : (found : Found) → FindsNext (ReadsBorrowed env) found core from text next to
      → KeepsName from to
  found_named found finds = let borrowed = finds_borrowed env found core from text next to finds in
      record {
        changes = finds_named env modelled found core (seen_file env from) text next
            (seen_file env to) borrowed.changes;
        same_env = borrowed.same_env;
        same_file = borrowed.same_file;
      }

  stop_named : (status : Status) → StopsReading (ReadsBorrowed env) from status to
      → KeepsName from to
  stop_named status stops = let borrowed = stops_borrowed env stops in record {
    changes = stops_named env modelled borrowed.changes;
    same_env = borrowed.same_env;
    same_file = borrowed.same_file;
  }

  -- the file keeps its name
  pub read_named : (result : Result Found Status)
      → IfOk result (λ found. FindsNext (ReadsBorrowed env) found core from text next to)
      → (core.failed ≡ false
      → IfErr result (λ status. StopsReading (ReadsBorrowed env) from status to))
      → (core.failed ≡ true → to ≡ from) → KeepsName from to
  read_named (Ok found) finds stops failed = found_named found finds
  read_named (Err status) finds stops failed = by core.failed refl
    where
      by : (b : Bool) → core.failed ≡ b → KeepsName from to
      by false is = stop_named status (stops is)
      by true is = record {
        changes = ap (λ (b : EnvFile E F). env.name_of b.file.now) (failed is);
        same_env = ap (λ (b : EnvFile E F). b.env.ghost_name) (failed is);
        same_file = ap (λ (b : EnvFile E F). b.file.ghost_name) (failed is);
      }

-- so it has it once the borrow has ended
pub name_kept : {E F : Type 0} (env : Ghosts E F) {from to : EnvFile E F} {file : F}
    → ChangesBorrowedFile (λ old new. env.name_of new.file ≡ env.name_of old.file) from to
    → (from.file.ghost_name ≡ to.file.ghost_name → file ≡ to.file.now)
    → env.name_of file ≡ env.name_of from.file.now
name_kept env keeps ends = ap env.name_of (ends (sym keeps.same_file)) ∙ keeps.changes
