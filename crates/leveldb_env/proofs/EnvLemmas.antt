-- How changes of files and calls of an environment compose.
use Rattle.std.specs.Prelude.{◌≢◌, ◌<◌, Result, Ok, Err, IsErr, OnOk, IsTrue}
use Rattle.std.proofs.Common.{◌≡◌, ◌⊎◌, inl, inr, ⊎_elim, ℕ, ◌+◌, ◌≤◌, min, Bool, true, false, cond, List, [], ◌∷◌, ◌++◌, length, take, Option, None, Some, refl, sym, ◌∙◌, ap, append_assoc, arith, subst}
use Rattle.std.specs.Option.{option_map}
use Rattle.std.specs.Str.{bytes_eq}
use Rattle.std.specs.Cmp.Lexicographic.{bytes_decides, nat_list_eq_equiv}
use Rattle.std.proofs.lemmas.List.{append-nil, take_all, take_min, take-append-le}
use Rattle.std.proofs.Math.Seq.{take-append_seam, take-append-add}
use Rattle.leveldb_env.specs.Env.{SameBut, Run, File, Files, with_file, kept_file, or_empty, longer_file, file_kept, FileCrashesTo, created, emptied, deleted, moved, renamed, extended, synced, BeforeOrAfter, PrefixAppended, same, Observed, Within, ChangesFiles, FilesUnchanged, HasCause}
use Rattle.std.proofs.lemmas.Bool.{cases_lt}
use Rattle.std.proofs.lemmas.Result.{IfOk-from_err}
use Rattle.leveldb_base.specs.declared.error.Status.{Status}

-- ---- names

pub bytes_eq-same : (name : List ℕ) → bytes_eq name name ≡ true
bytes_eq-same name = (bytes_decides name name).1 refl

-- two names are apart
pub bytes_eq-apart : (name other : List ℕ) → name ≢ other → bytes_eq name other ≡ false
bytes_eq-apart name other differ = by (bytes_eq name other) refl
  where
    by : (b : Bool) → bytes_eq name other ≡ b → bytes_eq name other ≡ false
    by true e = absurd (differ ((bytes_decides name other).0 e))
    by false e = e

pub bytes_eq-sym : (name other : List ℕ) → bytes_eq name other ≡ bytes_eq other name
bytes_eq-sym name other = nat_list_eq_equiv.symm name other

-- ---- one name

pub at_same : (name : List ℕ) (file : Option File) (files : Files) → with_file name file files name ≡ file
at_same name file files = ap (λ b. cond b file (files name)) (bytes_eq-same name)

pub at_other : (name : List ℕ) (file : Option File) (files : Files) (other : List ℕ) → bytes_eq name other ≡ false → with_file name file files other ≡ files other
at_other name file files other apart = ap (λ b. cond b file (files other)) apart

-- what is put under a name counts, not what was put there before
pub with_file-twice : (name : List ℕ) (file before : Option File) (files : Files) → with_file name file (with_file name before files) ≡ with_file name file files
with_file-twice name file before files = λ i other. at other (bytes_eq name other) i
  where
    at : (other : List ℕ) (b : Bool) → cond b file (cond b before (files other)) ≡ cond b file (files other)
    at other true = refl
    at other false = refl

-- what is there may be put there
pub with_file-itself : (name : List ℕ) (files : Files) → with_file name (files name) files ≡ files
with_file-itself name files = λ i other. at other (bytes_eq name other) refl i
  where
    at : (other : List ℕ) (b : Bool) → bytes_eq name other ≡ b → with_file name (files name) files other ≡ files other
    at other true e = ap (λ b. cond b (files name) (files other)) e ∙ ap files ((bytes_decides name other).0 e)
    at other false e = at_other name (files name) files other e

-- ---- what each change leaves alone

pub SameBut-refl : (name : List ℕ) (files : Files) → SameBut name files files
SameBut-refl name files = λ other apart. refl

pub SameBut-trans : (name : List ℕ) {old mid new : Files} → SameBut name old mid → SameBut name mid new → SameBut name old new
SameBut-trans name first second = λ other apart. second other apart ∙ first other apart

either_same : (name : List ℕ) (file : Option File) (old files : Files) → (files ≡ old) ⊎ (files ≡ with_file name file old) → SameBut name old files
either_same name file old files (inl is) other apart = ap (λ (f : Files). f other) is
either_same name file old files (inr is) other apart = ap (λ (f : Files). f other) is ∙ at_other name file old other apart

pub SameBut-created : (name : List ℕ) (old files : Files) → BeforeOrAfter (created name) old files → SameBut name old files
SameBut-created name old files passes = either_same name (or_empty (old name)) old files passes

pub SameBut-emptied : (name : List ℕ) (old files : Files) → BeforeOrAfter (emptied name) old files → SameBut name old files
SameBut-emptied name old files passes = either_same name (Some (kept_file [])) old files passes

pub SameBut-deleted : (name : List ℕ) (old files : Files) → BeforeOrAfter (deleted name) old files → SameBut name old files
SameBut-deleted name old files passes = either_same name None old files passes

pub SameBut-synced : (name : List ℕ) (old files : Files) → BeforeOrAfter (synced name) old files → SameBut name old files
SameBut-synced name old files passes = either_same name (option_map file_kept (old name)) old files passes

pub SameBut-appending : (name bytes : List ℕ) (old files : Files) → PrefixAppended name bytes old files → SameBut name old files
SameBut-appending name bytes old files (inl is) = either_same name None old files (inl is)
SameBut-appending name bytes old files (inr part) = either_same name (option_map (longer_file (take part.0 bytes)) (old name)) old files (inr part.1)

-- a rename leaves all but its two names alone
pub renamed-other : (from to : List ℕ) (old files : Files) → BeforeOrAfter (renamed from to) old files → (other : List ℕ) → bytes_eq from other ≡ false
    → bytes_eq to other ≡ false → files other ≡ old other
renamed-other from to old files passes other apart apart_to = ⊎_elim
    (λ is. ap (λ (f : Files). f other) is)
    (λ is. ap (λ (f : Files). f other) is ∙ moved_other (old from)) passes
  where
    moved_other : (file : Option File) → moved from to old file other ≡ old other
    moved_other None = refl
    moved_other (Some file) = at_other to (Some file) (deleted from old) other apart_to ∙ at_other from None old other apart

-- ---- the file of the name then

-- a file that is there moves
pub renamed-there : (from to : List ℕ) (files : Files) (file : File) → files from ≡ Some file → renamed from to files ≡ with_file to (Some file) (deleted from files)
renamed-there from to files file there = ap (moved from to files) there

pub extended-same : (name bytes : List ℕ) (files : Files) (file : File) → files name ≡ Some file → extended name bytes files name ≡ Some (longer_file bytes file)
extended-same name bytes files file there = at_same name (option_map (longer_file bytes) (files name)) files ∙ ap (option_map (longer_file bytes)) there

pub synced-same : (name : List ℕ) (files : Files) (file : File) → files name ≡ Some file → synced name files name ≡ Some (file_kept file)
synced-same name files file there = at_same name (option_map file_kept (files name)) files ∙ ap (option_map file_kept) there

-- ---- appends one after another

longer_none : (file : Option File) → option_map (longer_file []) file ≡ file
longer_none None = refl
longer_none (Some file) = ap (λ since. Some (record file { since = since })) (append-nil file.since)

longer_twice : (bytes others : List ℕ) (file : Option File)
    → option_map (longer_file others) (option_map (longer_file bytes) file) ≡ option_map (longer_file (bytes ++ others)) file
longer_twice bytes others None = refl
longer_twice bytes others (Some file) = ap (λ since. Some (record file { since = since })) (append_assoc file.since bytes others)

pub extended-nil : (name : List ℕ) (files : Files) → extended name [] files ≡ files
extended-nil name files = ap (λ file. with_file name file files) (longer_none (files name)) ∙ with_file-itself name files

pub extended-append : (name bytes others : List ℕ) (files : Files) → extended name others (extended name bytes files) ≡ extended name (bytes ++ others) files
extended-append name bytes others files =
    let longer = option_map (longer_file bytes) (files name) in
    with_file-twice name (option_map (longer_file others) (extended name bytes files name)) longer files
    ∙ ap (λ file. with_file name file files) (ap (option_map (longer_file others)) (at_same name longer files) ∙ longer_twice bytes others (files name))

-- an append may have put nothing, or all
pub nothing_appended : (name bytes : List ℕ) (files : Files) → PrefixAppended name bytes files files
nothing_appended name bytes files = inl refl

pub appended : (name bytes : List ℕ) (files : Files) → PrefixAppended name bytes files (extended name bytes files)
appended name bytes files = inr (length bytes, ap (λ b. extended name b files) (sym (take_all (length bytes) bytes (omega arith))))

-- what the first of two appends passes
pub PrefixAppended-first : (name bytes others : List ℕ) (old files : Files) → PrefixAppended name bytes old files → PrefixAppended name (bytes ++ others) old files
PrefixAppended-first name bytes others old files (inl is) = inl is
PrefixAppended-first name bytes others old files (inr part) =
    let count = min part.0 (length bytes) in
    let fits : count ≤ length bytes = omega arith in
    inr (count, part.1 ∙ ap (λ b. extended name b old) (sym (take-append-le count bytes others fits ∙ take_min part.0 bytes)))

-- what the second of two appends passes
pub PrefixAppended-second : (name bytes others : List ℕ) (old files : Files) → PrefixAppended name others (extended name bytes old) files
    → PrefixAppended name (bytes ++ others) old files
PrefixAppended-second name bytes others old files (inl is) = inr (length bytes, is ∙ ap (λ b. extended name b old) (sym (take-append_seam bytes others)))
PrefixAppended-second name bytes others old files (inr part) =
    inr (length bytes + part.0, part.1 ∙ extended-append name bytes (take part.0 others) old ∙ ap (λ b. extended name b old) (sym (take-append-add bytes others part.0)))

-- ---- what a crash leaves of it

no_longer : (tail : List ℕ) → length tail ≤ 0 → tail ≡ []
no_longer [] short = refl
no_longer (byte ∷ tail) short = absurd (omega arith)

-- a file whose bytes are all kept stays as it is
pub FileCrashesTo-kept : (bytes : List ℕ) (left : Option File) → FileCrashesTo (Some (kept_file bytes)) left → left ≡ Some (kept_file bytes)
FileCrashesTo-kept bytes left leaves = leaves.3 ∙ ap (λ tail. Some (kept_file (bytes ++ tail))) (no_longer leaves.0 leaves.2) ∙ ap (λ all. Some (kept_file all)) (append-nil bytes)

-- ---- parts of a time

-- no time
pub Within-refl : (observed : Observed) (P : Files → Type 0) → Within P observed observed
Within-refl observed P = record {
  later = omega arith;
  before = λ m files early was. was;
  meanwhile = λ m files from until was. absurd (omega (arith, from, until));
  kept = λ m files early was. was;
}

-- one part after another
pub Within-trans : {P : Files → Type 0} {old mid new : Observed} → Within P old mid → Within P mid new → Within P old new
Within-trans {P} {old} {mid} {new} first second = record {
  later = omega (arith, first.later, second.later);
  before = λ m files early was. first.before m files early (second.before m files (omega (arith, early, first.later)) was);
  meanwhile = λ m files from until was. ⊎_elim
      (λ (early : m < mid.moment). first.meanwhile m files from early (second.before m files early was))
      (λ (late : mid.moment ≤ m). second.meanwhile m files late until was) (cases_lt m mid.moment);
  kept = λ m files early was. second.kept m files (omega (arith, early, first.later)) (first.kept m files early was);
}

-- where less is said of the files
pub Within-mono : {P Q : Files → Type 0} {old new : Observed} → ((files : Files) → P files → Q files) → Within P old new → Within Q old new
Within-mono so part = record {
  later = part.later;
  before = part.before;
  meanwhile = λ m files from until was. so files (part.meanwhile m files from until was);
  kept = part.kept;
}

-- ---- a run of calls

-- no call yet
pub begun : {P : Files → Type 0} (observed : Observed) → P observed.disk.files → Run P observed observed
begun {P} observed has = record { has = has; time = Within-refl observed P }

-- one call more, where the files that it passes have P
pub call : {P : Files → Type 0} {T : Type 0} {models_disk : Bool} {first old new : Observed} {change : Files → Files} {Passes : Files → Files → Type 0} {result : Result T Status}
    → IsTrue models_disk → Run P first old → ((files : Files) → Passes old.disk.files files → P files) → ChangesFiles models_disk change Passes old new result → Run P first new
call modelled run keeps does = record { has = keeps _ (does.now modelled); time = Within-trans run.time (Within-mono keeps does.time) }

-- At each moment of a run the files have P. That the last has no others is the law `only_now` of an
-- environment.
pub since_start : {P : Files → Type 0} {first now : Observed} → Run P first now → ((files : Files) → now.at_moment now.moment files → files ≡ now.disk.files)
    → (m : ℕ) (files : Files) → first.moment ≤ m → m ≤ now.moment → now.at_moment m files → P files
since_start {P} {first} {now} run only m files from until stood = ⊎_elim
    (λ (early : m < now.moment). run.time.meanwhile m files from early stood)
    (λ (late : now.moment ≤ m).
    let last : m ≡ now.moment = omega (arith, late, until) in
    subst P (sym (only files (subst (λ n. now.at_moment n files) last stood))) run.has)
    (cases_lt m now.moment)

-- the run of one call
pub Run-call : {T : Type 0} {models_disk : Bool} {old new : Observed} {change : Files → Files} {Passes : Files → Files → Type 0} {result : Result T Status}
    → IsTrue models_disk → ChangesFiles models_disk change Passes old new result → Run (Passes old.disk.files) old new
Run-call modelled does = record { has = does.now modelled; time = does.time }

-- where less is said of the files
pub Run-mono : {P Q : Files → Type 0} {first now : Observed} → ((files : Files) → P files → Q files) → Run P first now → Run Q first now
Run-mono so run = record { has = so _ run.has; time = Within-mono so run.time }

-- a run within a run
pub Run-trans : {P Q : Files → Type 0} {first old new : Observed} → Run P first old → ((files : Files) → Q files → P files) → Run Q old new → Run P first new
Run-trans run keeps others = record { has = keeps _ others.has; time = Within-trans run.time (Within-mono keeps others.time) }

-- a call that fails, by the run that it made
pub ChangesFiles-refused : {T : Type 0} {models_disk : Bool} {change : Files → Files} {Passes : Files → Files → Type 0} {old new : Observed} {result : Result T Status}
    → IsErr result → Run (Passes old.disk.files) old new → ChangesFiles models_disk change Passes old new result
ChangesFiles-refused {change = change} {old = old} {new = new} {result = result} refused run = record {
  ok = λ modelled. IfOk-from_err result (λ done. new.disk.files ≡ change old.disk.files) refused;
  now = λ modelled. run.has;
  time = run.time;
}

ok_always : {T : Type 0} {P : Type 0} (result : Result T Status) → P → OnOk result P
ok_always (Ok x) p = p
ok_always (Err status) p = tt

-- what leaves the files alone is as a call that does
pub ChangesFiles-still : {T : Type 0} {models_disk : Bool} {old new : Observed} {result : Result T Status} → Run (FilesUnchanged old.disk.files) old new
    → ChangesFiles models_disk same FilesUnchanged old new result
ChangesFiles-still {result = result} run = record { ok = λ modelled. ok_always result run.has; now = λ modelled. run.has; time = run.time }

-- ---- causes

-- a call after ones that counted nothing
pub cause_after : {T : Type 0} {Excused : Status → Type 0} {before mid now : ℕ} {result : Result T Status} → mid ≡ before → HasCause Excused mid now result
    → HasCause Excused before now result
cause_after {Excused = Excused} {now = now} {result = result} same_count cause = subst (λ count. HasCause Excused count now result) same_count cause

-- an error of one type of result and of another
pub cause_refused : {T U : Type 0} {Excused : Status → Type 0} {before now : ℕ} {status : Status} → HasCause {T = T} Excused before now (Err status)
    → HasCause {T = U} Excused before now (Err status)
cause_refused cause = record { later = cause.later; ok = tt; uncounted = cause.uncounted; cause = cause.cause }

-- the same excuses in other words
pub cause_same : {T : Type 0} {P Q : Status → Type 0} {before now : ℕ} (result : Result T Status) → ((e : Status) → P e → Q e) → ((e : Status) → Q e → P e)
    → HasCause P before now result → HasCause Q before now result
cause_same (Ok x) to from cause = record { later = cause.later; ok = cause.ok; uncounted = tt; cause = tt }
cause_same (Err status) to from cause = record {
  later = cause.later;
  ok = tt;
  uncounted = λ q. cause.uncounted (from status q);
  cause = ⊎_elim (λ p. inl (to status p)) (λ counted. inr counted) cause.cause;
}
