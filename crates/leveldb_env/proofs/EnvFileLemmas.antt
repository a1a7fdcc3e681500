-- How reads of an open file, and appends to it, compose.
use Rattle.std.specs.Prelude.{IfSome, IsTrue, OnOk}
use Rattle.std.proofs.Common.{◌≡◌, inl, inr, ⊎_elim, ◌<◌, ◌+◌, ℕ, Bool, List, [], ◌∷◌, ◌++◌, length, drop, Option, None, Some, Result, Ok, Err, refl, sym, subst, ◌∙◌, ap, append_assoc, add-zero, arith}
use Rattle.std.specs.List.{concat}
use Rattle.std.specs.Option.{option_map}
use Rattle.std.proofs.lemmas.List.{append-nil, drop-drop, take-append-drop, length-append}
use Rattle.leveldb_base.specs.declared.error.Status.{Status}
use Rattle.leveldb_env.specs.declared.env.Env.{Ghosts}
use Rattle.leveldb_env.specs.declared.env.env_file.EnvFile.{EnvFile}
use Rattle.leveldb_env.specs.Env.{File, Files, bytes_of, longer_file, extended, Observed, ChangesFiles, PrefixAppended, IsMissing, IsGone}
use Rattle.leveldb_base.specs.Error.{IsOutOfMemory}
use Rattle.leveldb_env.specs.Source.{Draws, ReadFails, GivesSome, GivesAll, GivesUp}
use Rattle.leveldb_env.proofs.AppendedLemmas.{append_bytes, no_bytes}
use Rattle.leveldb_env.proofs.EnvLemmas.{at_same, extended-nil, extended-append, PrefixAppended-first, PrefixAppended-second, begun, call, Run-call, Run-trans, Within-trans, Within-mono, cause_after, cause_same, cause_refused}
use Rattle.leveldb_env.specs.Sink.{PutsEach, PutsAll, PutsPart}
use Rattle.leveldb_env.proofs.SinkLemmas.{PutsAll-seen, PutsAll-same, PutsPart-seen, PutsPart-same}
use Rattle.leveldb_env.proofs.SourceLemmas.{GivesSome-seen, GivesSome-same, GivesAll-seen, GivesAll-same, GivesUp-seen, GivesUp-same}
use Rattle.leveldb_env.specs.EnvFile.{Opened, opened, ChangesBorrowedFile, IsNextPieceOf, Appends, AppendsBorrowed, IsLonger, IsPartlyAppended, Reads, ReadsBorrowed, IsFurther, IsReadOut, IsGivenUp, opened_file}

-- one append, and then another of the same file
appends_join : {T U : Type 0} {x : T} {models_disk : Bool} {old mid new : Observed} {result : Result U Status} (name bytes others : List ℕ) → IsTrue models_disk
    → ChangesFiles {T = T} models_disk (extended name bytes) (PrefixAppended name bytes) old mid (Ok x) → ChangesFiles models_disk (extended name others) (PrefixAppended name others) mid new result
    → ChangesFiles models_disk (extended name (bytes ++ others)) (PrefixAppended name (bytes ++ others)) old new result
appends_join {old = old} {mid = mid} {new = new} {result = result} name bytes others modelled first second =
    let files = old.disk.files in
    let then : (m : Files) → PrefixAppended name others mid.disk.files m → PrefixAppended name (bytes ++ others) files m =
    λ m passes. PrefixAppended-second name bytes others files m (subst (λ between. PrefixAppended name others between m) (first.ok modelled) passes) in
    record {
      ok = λ t. subst (λ all. OnOk result (new.disk.files ≡ all)) (ap (extended name others) (first.ok modelled) ∙ extended-append name bytes others files) (second.ok t);
      now = λ t. then new.disk.files (second.now t);
      time = Within-trans (Within-mono (PrefixAppended-first name bytes others files) first.time) (Within-mono then second.time);
    }

gone_before : (file : Option File) (bytes : List ℕ) → option_map (longer_file bytes) file ≡ None → file ≡ None
gone_before None bytes gone = refl
gone_before (Some file) bytes gone = cc

-- from an offset on there are these bytes
abbrev Next : Option File → ℕ → List ℕ → Type 0
Next at offset bytes = IfSome at (λ file. drop offset (bytes_of file) ≡ bytes ++ drop (offset + length bytes) (bytes_of file))

next_none : (at : Option File) (offset : ℕ) → Next at offset []
next_none None offset = tt
next_none (Some file) offset = ap (λ n. drop n (bytes_of file)) (sym (add-zero offset))

next_read : (at : Option File) (offset room : ℕ) (piece : List ℕ) → IsNextPieceOf at offset room piece → Next at offset piece
next_read None offset room piece read = tt
next_read (Some file) offset room piece read =
    let left = drop offset (bytes_of file) in
    sym (take-append-drop (length piece) left) ∙ ap (λ p. p ++ drop (length piece) left) (sym read.bytes_are) ∙ ap (λ b. piece ++ b) (drop-drop (length piece) offset (bytes_of file))

next_append : (at : Option File) (offset : ℕ) (bytes others : List ℕ) → Next at offset bytes → Next at (offset + length bytes) others → Next at offset (bytes ++ others)
next_append None offset bytes others first second = tt
next_append (Some file) offset bytes others first second =
    let all = bytes_of file in
    let further : offset + length bytes + length others ≡ offset + length (bytes ++ others) = omega (arith, length-append bytes others) in
    first ∙ ap (λ b. bytes ++ b) (second ∙ ap (λ n. others ++ drop n all) further) ∙ sym (append_assoc bytes others (drop (offset + length (bytes ++ others)) all))

next_all : (at : Option File) (offset room : ℕ) (bytes : List ℕ) → 0 < room → Next at offset bytes → IsNextPieceOf at (offset + length bytes) room []
    → IfSome at (λ file. bytes ≡ drop offset (bytes_of file))
next_all None offset room bytes some next read = tt
next_all (Some file) offset room bytes some next read =
    let ended : drop (offset + length bytes) (bytes_of file) ≡ [] = ⊎_elim (λ none. absurd (omega arith)) (λ none. none) (read.none refl) in
    sym (next ∙ ap (λ b. bytes ++ b) ended ∙ append-nil bytes)

-- ---- appending

module _ {E F : Type 0} (env : Ghosts E F) where
  -- nothing was put
  pub IsLonger-none : (from : Opened E F) → IsLonger env from [] from
  IsLonger-none from =
      let observed = env.observed from.env in
      let run = begun {P = λ files. files ≡ observed.disk.files} observed refl in
      record {
        does = λ modelled. record { ok = λ t. sym (extended-nil (env.name_of from.file) observed.disk.files); now = λ t. inl refl; time = Within-mono (λ files same. inl same) run.time };
        locks = λ modelled. refl;
        file = λ modelled. refl;
        counted = refl;
        are_bytes = no_bytes;
      }

  -- one put
  pub IsLonger-put : {from to : Opened E F} {bytes : List ℕ} → Appends env from bytes (Ok tt) to → IsLonger env from bytes to
  IsLonger-put put = record { does = λ modelled. put.does; locks = put.locks; file = put.file; counted = put.cause.ok; are_bytes = put.are_bytes }

  -- the file of its name then
  under_name : {from to : Opened E F} {bytes : List ℕ} → IsLonger env from bytes to → IsTrue env.models_disk
      → opened_file env to ≡ option_map (longer_file bytes) (opened_file env from)
  under_name {from} {to} {bytes} longer modelled =
      let name = env.name_of from.file in
      let files = (env.observed from.env).disk.files in
      ap (env.observed to.env).disk.files (longer.file modelled) ∙ ap (λ (now : Files). now name) ((longer.does modelled).ok modelled) ∙ at_same name (option_map (longer_file bytes) (files name)) files

  -- puts, and then others
  pub IsLonger-trans : {from mid to : Opened E F} {bytes others : List ℕ} → IsLonger env from bytes mid → IsLonger env mid others to
      → IsLonger env from (bytes ++ others) to
  IsLonger-trans {from} {mid} {to} {bytes} {others} first second = record {
    does = λ modelled. appends_join (env.name_of from.file) bytes others modelled (first.does modelled) (rw (first.file modelled) at (second.does modelled));
    locks = λ modelled. second.locks modelled ∙ first.locks modelled;
    file = λ modelled. second.file modelled ∙ first.file modelled;
    counted = second.counted ∙ first.counted;
    are_bytes = append_bytes bytes others first.are_bytes second.are_bytes;
  }

  longer_each : (from : Opened E F) (pieces : List (List ℕ)) (to : Opened E F) → PutsEach (Appends env) from pieces to → IsLonger env from (concat pieces) to
  longer_each from [] to put = subst (IsLonger env from []) (sym put) (IsLonger-none from)
  longer_each from (piece ∷ pieces) to put = IsLonger-trans (IsLonger-put put.1) (longer_each put.0 pieces to put.2)

  -- all that was put is appended to the file
  pub IsLonger-all : {from to : Opened E F} {bytes : List ℕ} → PutsAll (Appends env) from bytes to → IsLonger env from bytes to
  IsLonger-all {from} {to} all = subst (λ b. IsLonger env from b to) (sym all.joined) (longer_each from all.pieces to all.put)

  -- the file's name is gone as it was before
  gone_same : {from to : Opened E F} {bytes : List ℕ} → IsLonger env from bytes to → (e : Status) → IsGone env.models_disk (env.name_of to.file) (env.observed to.env) e
      → IsGone env.models_disk (env.name_of from.file) (env.observed from.env) e
  gone_same {from} {to} {bytes} longer e gone = ⊎_elim (λ memory. inl memory)
      (λ none. inr (none.0, none.1, gone_before (opened_file env from) bytes (sym (under_name longer none.1) ∙ none.2))) gone

  gone_still : {from to : Opened E F} {bytes : List ℕ} → IsLonger env from bytes to → (e : Status)
      → IsGone env.models_disk (env.name_of from.file) (env.observed from.env) e → IsGone env.models_disk (env.name_of to.file) (env.observed to.env) e
  gone_still {from} {to} {bytes} longer e gone = ⊎_elim (λ memory. inl memory)
      (λ none. inr (none.0, none.1, under_name longer none.1 ∙ ap (option_map (longer_file bytes)) none.2)) gone

  -- a put that fails after others
  IsPartlyPut-put : {from mid to : Opened E F} {bytes piece : List ℕ} {status : Status} → IsLonger env from bytes mid → Appends env mid piece (Err status) to
      → IsPartlyAppended env from (bytes ++ piece) status to
  IsPartlyPut-put {from} {mid} {to} {bytes} {piece} {status} first put = record {
    passes = λ modelled. Run-call modelled (appends_join (env.name_of from.file) bytes piece modelled (first.does modelled) (rw (first.file modelled) at put.does));
    locks = λ modelled. put.locks modelled ∙ first.locks modelled;
    file = λ modelled. put.file modelled ∙ first.file modelled;
    cause = cause_after first.counted (cause_same (Err status) (gone_same first) (gone_still first) put.cause);
  }

  -- puts that break off
  pub IsPartlyAppended-any : {from to : Opened E F} {bytes : List ℕ} {status : Status} → PutsPart (Appends env) from bytes status to
      → IsPartlyAppended env from bytes status to
  IsPartlyAppended-any {from} {to} {bytes} {status} broken = subst (λ b. IsPartlyAppended env from b status to) (sym broken.joined) (IsPartlyPut-put (IsLonger-all broken.put_before) broken.failed)

  -- ---- reading

  -- nothing was read yet
  pub IsFurther-none : (from : Opened E F) → IsFurther env from [] from
  IsFurther-none from = record {
    still = λ modelled. begun (env.observed from.env) refl;
    locks = λ modelled. refl;
    next = λ modelled. next_none (opened_file env from) (env.offset_of from.file);
    offset = λ modelled. omega arith;
    file = λ modelled. refl;
    counted = refl;
  }

  -- one read
  pub IsFurther-read : {from to : Opened E F} {room : ℕ} {piece : List ℕ} → Reads env from room (Ok piece) to → IsFurther env from piece to
  IsFurther-read {from} {to} {room} {piece} read = record {
    still = λ modelled. call modelled (begun (env.observed from.env) refl) (λ files still. still) read.does;
    locks = read.locks;
    next = λ modelled. next_read (opened_file env from) (env.offset_of from.file) room piece (read.bytes modelled);
    offset = read.offset;
    file = read.file;
    counted = read.cause.ok;
  }

  -- the file of its name, further on
  same_file : {from to : Opened E F} {bytes : List ℕ} → IsTrue env.models_disk → IsFurther env from bytes to → opened_file env to ≡ opened_file env from
  same_file {from} {to} modelled further = ap (env.observed to.env).disk.files (further.file modelled) ∙ ap (λ files. files (env.name_of from.file)) ((further.still modelled).has)

  -- further and further
  pub IsFurther-trans : {from mid to : Opened E F} {bytes others : List ℕ} → IsFurther env from bytes mid → IsFurther env mid others to
      → IsFurther env from (bytes ++ others) to
  IsFurther-trans {from} {mid} {to} {bytes} {others} first second = record {
    still = λ modelled. Run-trans (first.still modelled) (λ files still. still ∙ (first.still modelled).has) (second.still modelled);
    locks = λ modelled. second.locks modelled ∙ first.locks modelled;
    next = λ modelled. next_append (opened_file env from) (env.offset_of from.file) bytes others (first.next modelled) (rw (same_file modelled first, first.offset modelled) at (second.next modelled));
    offset = λ modelled. omega (arith, first.offset modelled, second.offset modelled, length-append bytes others);
    file = λ modelled. second.file modelled ∙ first.file modelled;
    counted = second.counted ∙ first.counted;
  }

  further_drawn : (from : Opened E F) (pieces : List (List ℕ)) (to : Opened E F) → Draws (Reads env) from pieces to → IsFurther env from (concat pieces) to
  further_drawn from [] to drawn = subst (IsFurther env from []) (sym drawn) (IsFurther-none from)
  further_drawn from (piece ∷ pieces) to drawn = IsFurther-trans (IsFurther-read drawn.3) (further_drawn drawn.1 pieces to drawn.4)

  -- reads go on in the file
  pub IsFurther-given : {from to : Opened E F} {bytes : List ℕ} → GivesSome (Reads env) from bytes to → IsFurther env from bytes to
  IsFurther-given {from} {to} some = subst (λ b. IsFurther env from b to) (sym some.joined) (further_drawn from some.pieces to some.drawn)

  -- at its end the file is read out
  pub IsReadOut-given : {from to : Opened E F} {bytes : List ℕ} → GivesAll (Reads env) from bytes to → IsReadOut env from bytes to
  IsReadOut-given {from} {to} {bytes} all =
      let first = IsFurther-given all.given_before in
      let last = all.at_end.2 in
      record {
        further = subst (λ b. IsFurther env from b to) (append-nil bytes) (IsFurther-trans first (IsFurther-read last));
        all = λ modelled. next_all (opened_file env from) (env.offset_of from.file) all.at_end.0 bytes all.at_end.1 (first.next modelled) (rw (same_file modelled first, first.offset modelled) at (last.bytes modelled));
      }

  -- the name is missing as it was before
  same_missing : {from to : Opened E F} {bytes : List ℕ} → IsFurther env from bytes to → (e : Status)
      → IsMissing env.models_disk (env.name_of to.file) (env.observed to.env) e → IsMissing env.models_disk (env.name_of from.file) (env.observed from.env) e
  same_missing further e missing = ⊎_elim (λ memory. inl memory) (λ none. inr (none.0, λ modelled. sym (same_file modelled further) ∙ none.1 modelled)) missing

  missing_still : {from to : Opened E F} {bytes : List ℕ} → IsFurther env from bytes to → (e : Status)
      → IsMissing env.models_disk (env.name_of from.file) (env.observed from.env) e → IsMissing env.models_disk (env.name_of to.file) (env.observed to.env) e
  missing_still further e missing = ⊎_elim (λ memory. inl memory) (λ none. inr (none.0, λ modelled. same_file modelled further ∙ none.1 modelled)) missing

  -- a read that fails
  IsGivenUp-read : {from mid to : Opened E F} {bytes : List ℕ} {room : ℕ} {status : Status} → IsFurther env from bytes mid → Reads env mid room (Err status) to
      → IsGivenUp env from status to
  IsGivenUp-read {from} {mid} {to} {bytes} {room} {status} first read = record {
    still = λ modelled. call modelled (first.still modelled) (λ files still. still ∙ (first.still modelled).has) read.does;
    locks = λ modelled. read.locks modelled ∙ first.locks modelled;
    file = λ modelled. read.file modelled ∙ first.file modelled;
    cause = cause_after first.counted (cause_refused (cause_same (Err status) (same_missing first) (missing_still first) read.cause));
  }

  -- out of memory
  IsGivenUp-memory : {from to : Opened E F} {bytes : List ℕ} {status : Status} → IsFurther env from bytes to → IsOutOfMemory status → IsGivenUp env from status to
  IsGivenUp-memory first wants = record {
    still = first.still;
    locks = first.locks;
    file = first.file;
    cause = record { later = omega (arith, first.counted); ok = tt; uncounted = λ excused. first.counted; cause = inl (inl wants) };
  }

  -- a read that fails gives the reading up
  pub IsGivenUp-given : {from to : Opened E F} {status : Status} → GivesUp (Reads env) from status to → IsGivenUp env from status to
  IsGivenUp-given {from} {to} {status} up =
      let first = IsFurther-given up.given_before in
      ⊎_elim (λ (failed : ReadFails (Reads env) up.mid status to). IsGivenUp-read first failed.1)
      (λ (memory : (to ≡ up.mid) × IsOutOfMemory status). IsGivenUp-memory (subst (IsFurther env from up.bytes) (sym memory.0) first) memory.1) up.why

  -- ---- where the file is borrowed

  abbrev seen : EnvFile E F → Opened E F
  seen borrowed = opened borrowed.env.now borrowed.file.now

  -- all that is put is appended to the file
  pub IsLonger-borrowed : {from to : EnvFile E F} {bytes : List ℕ} → PutsAll (AppendsBorrowed env) from bytes to
      → ChangesBorrowedFile (λ old new. IsLonger env old bytes new) from to
  IsLonger-borrowed all = record {
    changes = IsLonger-all (PutsAll-seen (AppendsBorrowed env) (Appends env) seen (λ old bytes result new put. put.changes) all);
    same_env = PutsAll-same (AppendsBorrowed env) (λ borrowed. borrowed.env.ghost_name) (λ old bytes result new put. put.same_env) all;
    same_file = PutsAll-same (AppendsBorrowed env) (λ borrowed. borrowed.file.ghost_name) (λ old bytes result new put. put.same_file) all;
  }

  -- puts that break off
  pub IsPartlyAppended-borrowed : {from to : EnvFile E F} {bytes : List ℕ} {status : Status} → PutsPart (AppendsBorrowed env) from bytes status to
      → ChangesBorrowedFile (λ old new. IsPartlyAppended env old bytes status new) from to
  IsPartlyAppended-borrowed broken = record {
    changes = IsPartlyAppended-any (PutsPart-seen (AppendsBorrowed env) (Appends env) seen (λ old bytes result new put. put.changes) broken);
    same_env = PutsPart-same (AppendsBorrowed env) (λ borrowed. borrowed.env.ghost_name) (λ old bytes result new put. put.same_env) broken;
    same_file = PutsPart-same (AppendsBorrowed env) (λ borrowed. borrowed.file.ghost_name) (λ old bytes result new put. put.same_file) broken;
  }

  -- reads go on in the file
  pub IsFurther-borrowed : {from to : EnvFile E F} {bytes : List ℕ} → GivesSome (ReadsBorrowed env) from bytes to
      → ChangesBorrowedFile (λ old new. IsFurther env old bytes new) from to
  IsFurther-borrowed some = record {
    changes = IsFurther-given (GivesSome-seen (ReadsBorrowed env) (Reads env) seen (λ old room result new read. read.changes) some);
    same_env = GivesSome-same (ReadsBorrowed env) (λ borrowed. borrowed.env.ghost_name) (λ old room result new read. read.same_env) some;
    same_file = GivesSome-same (ReadsBorrowed env) (λ borrowed. borrowed.file.ghost_name) (λ old room result new read. read.same_file) some;
  }

  -- at its end the file is read out
  pub IsReadOut-borrowed : {from to : EnvFile E F} {bytes : List ℕ} → GivesAll (ReadsBorrowed env) from bytes to
      → ChangesBorrowedFile (λ old new. IsReadOut env old bytes new) from to
  IsReadOut-borrowed all = record {
    changes = IsReadOut-given (GivesAll-seen (ReadsBorrowed env) (Reads env) seen (λ old room result new read. read.changes) all);
    same_env = GivesAll-same (ReadsBorrowed env) (λ borrowed. borrowed.env.ghost_name) (λ old room result new read. read.same_env) all;
    same_file = GivesAll-same (ReadsBorrowed env) (λ borrowed. borrowed.file.ghost_name) (λ old room result new read. read.same_file) all;
  }

  -- a read that fails gives the reading up
  pub IsGivenUp-borrowed : {from to : EnvFile E F} {status : Status} → GivesUp (ReadsBorrowed env) from status to
      → ChangesBorrowedFile (λ old new. IsGivenUp env old status new) from to
  IsGivenUp-borrowed up = record {
    changes = IsGivenUp-given (GivesUp-seen (ReadsBorrowed env) (Reads env) seen (λ old room result new read. read.changes) up);
    same_env = GivesUp-same (ReadsBorrowed env) (λ borrowed. borrowed.env.ghost_name) (λ old room result new read. read.same_env) up;
    same_file = GivesUp-same (ReadsBorrowed env) (λ borrowed. borrowed.file.ghost_name) (λ old room result new read. read.same_file) up;
  }

-- What was borrowed has changed so when the borrow has ended. The proof of the function that
-- borrowed it knows its last values by such implications.
pub ends_as : {E F : Type 0} {Changes : Opened E F → Opened E F → Type 0} {old new : EnvFile E F} {env : E} {file : F} → ChangesBorrowedFile Changes old new
    → (old.env.ghost_name ≡ new.env.ghost_name → env ≡ new.env.now) → (old.file.ghost_name ≡ new.file.ghost_name → file ≡ new.file.now) → Changes (opened old.env.now old.file.now) (opened env file)
ends_as {Changes = Changes} {old = old} {new = new} {env = env} {file = file} changes env_ends file_ends =
    let before = opened old.env.now old.file.now in
    subst (λ e. Changes before (opened e file)) (sym (env_ends (sym changes.same_env)))
    (subst (λ f. Changes before (opened new.env.now f)) (sym (file_ends (sym changes.same_file))) changes.changes)
