-- The calls of a recording environment as those of any, and what a crash leaves of its moments.
use Rattle.std.proofs.Common.{◌≡◌, ◌⊎◌, inl, inr, ⊎_elim, ℕ, Bool, true, false, ◌+◌, ◌-◌, ◌*◌, ◌^◌, ◌<◌, ◌&&◌, nat_lt, List, string_bytes, codes, IfSome, IsErrAnd, IfErr, OnOk, is_some, Option, None, Some, if◌then◌else◌, not, ◌||◌, Result, Ok, Err, refl, sym, ◌∙◌, ap, subst, arith, ◌/◌, ◌%◌, ◌==◌, cond, [], ◌∷◌, filter, fold, nat_le, IsSome, String, Vec, length-append}
use Rattle.std.proofs.lemmas.Bool.Decides.{nat_tests}
use Rattle.std.proofs.lemmas.Result.{IfErr-weaker}
use Rattle.leveldb_base.specs.declared.error.Status.{Status}
use Rattle.leveldb_base.specs.Error.{status_text, annotated, IsOutOfMemory}
use Rattle.leveldb_base.specs.declared.error.StatusCode.TheVariants.{NotFound}
use Rattle.leveldb_disks.specs.declared.mem_env.journal.Journal.{Journal}
use Rattle.leveldb_disks.specs.declared.mem_env.journal.Change.TheVariants.{Emptied, Created, Extended, Synced, Deleted, Renamed, Cleared}
use Rattle.leveldb_disks.specs.declared.mem_env.record.RecordEnv.{RecordEnv}
use Rattle.leveldb_env.specs.Env.{ChangesFiles, BeforeOrAfter, PrefixAppended, FilesUnchanged, File, Files, same, created, extended, Observed, Within, with_file, deleted, moved, longer_file, is_under, without_folder, FilesCrashTo, FileCrashesTo}
use Rattle.leveldb_disks.specs.Journal.{Requested, where_done, name_in, finds_file, IsChangeError, noted, after, files_after_calls, cut_off, cut_off_if, is_append, call_after, side_of, files_at, FilesWere}
use Rattle.leveldb_env.specs.MemEnv.{files_of, IsNoSuchFile}
use Rattle.leveldb_disks.specs.Record.{record_observed, files_were, Passed, files_in, locked_in, moment_of, is_past, is_chosen, is_chosen_made, one_more_failure, FilesWereInside, CountsCall, ChangesNoFile, RequestsChange, CrashesByChoice}
use Rattle.leveldb_env.proofs.MemEnvLemmas.{PrefixAppended-from_sides, Contains-head, Contains-tail, FileMap, AreNames-there, unique_names}
use Rattle.std.specs.Cmp.Lexicographic.{bytes_decides}
use Rattle.std.specs.List.{Contains}
use Rattle.std.specs.Option.{option_map}
use Rattle.std.specs.Str.{bytes_eq}
use Rattle.std.specs.declared.alloc.Global.{Global}
use Rattle.leveldb_disks.specs.declared.mem_env.journal.Call.{Call}
use Rattle.leveldb_disks.specs.declared.mem_env.journal.Change.{Change}
use Rattle.leveldb_env.specs.Picks.{Tails, IsAllowed, picked, CrashesByTails}
use Rattle.leveldb_env.proofs.PicksLemmas.{left_by_tails}

abbrev files_by : Journal → Files
files_by journal = files_of journal.files

pub journal_after : {new : RecordEnv} {old : RecordEnv} → new ≡ old → new.journal ≡ old.journal
journal_after is = ap (λ (env : RecordEnv). env.journal) is

pub Within-weaker : {P Q : Files → Type 0} {old new : Observed} → ((files : Files) → P files → Q files) → Within P old new → Within Q old new
Within-weaker so within = record { later = within.later; before = within.before; meanwhile = λ m files from to stood. so files (within.meanwhile m files from to stood); kept = within.kept }

module _ (old new : RecordEnv) (was now : Journal) (first : was ≡ old.journal) (last : new.journal ≡ now) where
  passes : (Passes : Files → Files → Type 0) → Passed (Passes (files_by was)) was now → Within (Passes (files_in old)) (record_observed old) (record_observed new)
  passes Passes passed =
      let so_far : Passed (Passes (files_by was)) was new.journal = subst (λ (j : Journal). Passed (Passes (files_by was)) was j) (sym last) passed in
      let all : Passed (Passes (files_in old)) old.journal new.journal = subst (λ (j : Journal). Passed (Passes (files_by j)) j new.journal) first so_far in
      all (locked_in old) (locked_in new)

  pub looks : now.files ≡ was.files → Passed (FilesUnchanged (files_by was)) was now → ChangesNoFile old new
  looks same passed = record {
    files = ap files_by last ∙ ap files_of same ∙ ap files_by first;
    time = passes FilesUnchanged passed;
  }

  module _ (change : Files → Files) (may : Bool) (passed : Passed (BeforeOrAfter change (files_by was)) was now) where
    inside_of : files_were now (2 * was.count + 1) (where_done may change (files_by was)) → FilesWereInside (where_done may change (files_in old)) old new
    inside_of inside =
        let so_far : files_were new.journal (2 * was.count + 1) (where_done may change (files_by was)) = subst (λ (j : Journal). files_were j (2 * was.count + 1) (where_done may change (files_by was))) (sym last) inside in
        subst (λ (j : Journal). files_were new.journal (2 * j.count + 1) (where_done may change (files_by j))) first so_far

    -- a call that made its change
    pub asks_ok : {T : Type 0} (x : T) → files_by now ≡ change (files_by was) → files_were now (2 * was.count + 1) (where_done may change (files_by was)) → RequestsChange change may old new (Ok x)
    asks_ok x made inside = record {
      ok = ap files_by last ∙ made ∙ ap (λ (j : Journal). change (files_by j)) first;
      err = tt;
      time = passes (BeforeOrAfter change) passed;
      inside = inside_of inside;
    }

    -- one that found no memory
    pub asks_no_memory : {T : Type 0} (r : Result T Status) (e : Status) → r ≡ Err e → IsOutOfMemory e → files_by now ≡ files_by was → RequestsChange change may old new r
    asks_no_memory {T} r e is no_memory same =
        let at : RequestsChange {T = T} change may old new (Err e) = record { ok = tt; err = inl (no_memory, ap files_by last ∙ same ∙ ap files_by first); time = passes (BeforeOrAfter change) passed; inside = inl no_memory } in
        subst (λ (r : Result T Status). RequestsChange change may old new r) (sym is) at

    -- one that failed otherwise
    pub asks_err : {T : Type 0} (r : Result T Status) (e : Status) → r ≡ Err e → files_by now ≡ where_done (may && is_chosen_made old) change (files_by was) → files_were now (2 * was.count + 1) (where_done may change (files_by was)) → RequestsChange change may old new r
    asks_err {T} r e is made inside =
        let left : files_in new ≡ where_done (may && is_chosen_made old) change (files_in old) = ap files_by last ∙ made ∙ ap (λ (j : Journal). where_done (may && is_chosen_made old) change (files_by j)) first in
        let at : RequestsChange {T = T} change may old new (Err e) = record { ok = tt; err = inr left; time = passes (BeforeOrAfter change) passed; inside = inr (inr (inside_of inside)) } in
        subst (λ (r : Result T Status). RequestsChange change may old new r) (sym is) at

-- ---- what becomes of a call

-- a call that is counted, and is the chosen one or not
pub turn_taken : (past next chosen : Bool) → Some chosen ≡ (if past then None else Some next) → (past ≡ false) × (chosen ≡ next)
turn_taken true next chosen is = absurd (cc is)
turn_taken false next chosen is = (refl, cc is)

-- a chosen call's change is made where it's to be
pub chosen_made : (past next chosen field may : Bool) → past ≡ false → chosen ≡ next → chosen ≡ true → (not chosen || (may && field)) ≡ (may && ((not past && next) && field))
chosen_made past next chosen field may counted is_next is_chosen =
    ap (λ b. not b || (may && field)) is_chosen
    ∙ (λ i. may && ((not (sym counted i) && (sym is_chosen ∙ is_next) i) && field))

-- another call isn't one that is chosen
pub not_chosen : (past next chosen : Bool) → past ≡ false → chosen ≡ next → chosen ≡ false → (not past && next) ≡ false
not_chosen past next chosen counted is_next other = λ i. not (counted i) && (sym is_next ∙ other) i

-- it's counted as one
pub counted_once : (was now : Journal) (old : RecordEnv) → was ≡ old.journal → now.count ≡ was.count + 1 → is_past old ≡ false → 2 * now.count ≡ (if is_past old then moment_of old else moment_of old + 2)
counted_once was now old first one counted =
    let next : now.count ≡ old.journal.count + 1 = one ∙ ap (λ (j : Journal). j.count + 1) first in
    let twice : 2 * now.count ≡ moment_of old + 2 = omega arith in
    twice ∙ ap (λ b. if b then moment_of old else moment_of old + 2) (sym counted)

none_of : (o : Option File) → is_some o ≡ false → o ≡ None
none_of None is = refl
none_of (Some file) is = absurd (cc is)

-- the error for a missing name is one of the call's own
no_file : (change : Requested) (files : Files) (name : List ℕ) (e : Status) → name ≡ name_in change → finds_file change files ≡ false → e.code ≡ NotFound
    → IfSome e.err (λ text. string_bytes text ≡ status_text NotFound (annotated (codes "no such file") name)) → IsChangeError change files e
no_file (Emptied name) files n e same missing code text = absurd (cc missing)
no_file (Created name) files n e same missing code text = absurd (cc missing)
no_file (Extended name bytes) files n e same missing code text = inr (record { code = code; text = rw same at text; gone = none_of (files name.now) missing })
no_file (Synced name) files n e same missing code text = inr (record { code = code; text = rw same at text; gone = none_of (files name.now) missing })
no_file (Deleted name) files n e same missing code text = inr (record { code = code; text = rw same at text; gone = none_of (files name.now) missing })
no_file (Renamed from to) files n e same missing code text = inr (record { code = code; text = rw same at text; gone = none_of (files from.now) missing })
no_file (Cleared folder) files n e same missing code text = absurd (cc missing)

pub no_file_found : {T : Type 0} (change : Requested) (files : Files) (name : List ℕ) (r : Result T Status) → name ≡ name_in change → finds_file change files ≡ false → IsErrAnd r (λ e. e.code ≡ NotFound)
    → IsErrAnd r (λ e. IfSome e.err (λ text. string_bytes text ≡ status_text NotFound (annotated (codes "no such file") name))) → IfErr r (IsChangeError change files)
no_file_found change files name (Ok x) same missing code text = tt
no_file_found change files name (Err e) same missing code text = no_file change files name e same missing code text

-- a call that asks for nothing for out of memory, as one that asks for a change
pub asks_nothing : {T : Type 0} (old new : RecordEnv) (change : Files → Files) (may : Bool) (e : Status) → ChangesNoFile old new → IsOutOfMemory e → RequestsChange {T = T} change may old new (Err e)
asks_nothing old new change may e looked no_memory = record {
  ok = tt;
  err = inl (no_memory, looked.files);
  time = Within-weaker (λ files same. inl same) looked.time;
  inside = inl no_memory;
}

-- ---- what it reports as any environment

abbrev env_told : RecordEnv → Observed
env_told env = record_observed env

pub ChangesFiles-from_looks : {T : Type 0} (old new : RecordEnv) (r : Result T Status) → ChangesNoFile old new → ChangesFiles true same FilesUnchanged (record_observed old) (record_observed new) r
ChangesFiles-from_looks old new (Ok x) looked = record { ok = λ _. looked.files; now = λ _. looked.files; time = looked.time }
ChangesFiles-from_looks old new (Err e) looked = record { ok = λ _. tt; now = λ _. looked.files; time = looked.time }

either_left : (change : Files → Files) (done : Bool) (old new : Files) → new ≡ where_done done change old → BeforeOrAfter change old new
either_left change true old new left = inr left
either_left change false old new left = inl left

pub ChangesFiles-from_asks : {T : Type 0} (change : Files → Files) (may : Bool) (old new : RecordEnv) (r : Result T Status) → RequestsChange change may old new r → ChangesFiles true change (BeforeOrAfter change) (record_observed old) (record_observed new) r
ChangesFiles-from_asks change may old new (Ok x) asked = record { ok = λ _. asked.ok; now = λ _. inr asked.ok; time = asked.time }
ChangesFiles-from_asks change may old new (Err e) asked = record { ok = λ _. tt; now = λ _. ⊎_elim (λ none. inl none.1) (either_left change (may && is_chosen_made old) _ _) asked.err; time = asked.time }

-- what the result says of the count of failures
counted_failure : (failures now : ℕ) → failures < 2 ^ 64 → now ≡ one_more_failure failures → (now ≡ failures + 1) ⊎ ((failures ≡ 2 ^ 64 - 1) × (now ≡ failures))
counted_failure failures now small is = by (nat_lt (failures + 1) (2 ^ 64)) refl
  where
    by : (b : Bool) → nat_lt (failures + 1) (2 ^ 64) ≡ b → (now ≡ failures + 1) ⊎ ((failures ≡ 2 ^ 64 - 1) × (now ≡ failures))
    by true lt = inl (grind (arith, nat_tests))
    by false ge = inr (grind (arith, nat_tests))

-- ---- results of a call that asks for nothing

pub no_such_file : {T : Type 0} (files : Files) (name : List ℕ) (r : Result T Status) → files name ≡ None → IsErrAnd r (λ e. e.code ≡ NotFound)
    → IsErrAnd r (λ e. IfSome e.err (λ text. string_bytes text ≡ status_text NotFound (annotated (codes "no such file") name))) → IfErr r (IsNoSuchFile files name)
no_such_file files name (Ok x) gone code text = tt
no_such_file files name (Err e) gone code text = record { code = code; text = text; gone = gone }

-- the device let it pass
none_refused : (past chosen : Bool) → (past || chosen) ≡ false → (past ≡ false) × (chosen ≡ false)
none_refused false false is = (refl, refl)
none_refused true chosen is = absurd (cc is)
none_refused false true is = absurd (cc is)

at_ok : {T P : Type 0} (r : Result T Status) → P → OnOk r P
at_ok (Ok x) p = p
at_ok (Err e) p = tt

pub turns_own : {T : Type 0} (Own : Status → Type 0) (old new : RecordEnv) (r : Result T Status) → CountsCall {T = Unit {0}} (λ _. ⊥) old new (Ok tt) → IfErr r Own → CountsCall Own old new r
turns_own Own old new r passed why =
    let let_pass = none_refused (is_past old) (is_chosen old) passed.ok.0 in
    record {
      moment = passed.moment;
      fails_in = passed.fails_in;
      fails_done = passed.fails_done;
      ok = at_ok r passed.ok;
      err = IfErr-weaker r Own _ (λ e cause. inl (record { cause = cause; counted = let_pass.0; chosen = λ chosen. absurd (cc (sym let_pass.1 ∙ chosen)); failures = passed.ok.1 })) why;
    }

pub appends : {T : Type 0} (name bytes : List ℕ) (may : Bool) (old new : RecordEnv) (r : Result T Status) → RequestsChange (extended name bytes) may old new r → ChangesFiles true (extended name bytes) (PrefixAppended name bytes) (record_observed old) (record_observed new) r
appends name bytes may old new r asked =
    let does = ChangesFiles-from_asks (extended name bytes) may old new r asked in
    record {
      ok = does.ok;
      now = λ modelled. PrefixAppended-from_sides name bytes _ _ (does.now modelled);
      time = Within-weaker (λ files side. PrefixAppended-from_sides name bytes _ files side) does.time;
    }

-- a name that is locked stays as it is, and a free one is created
pub locks : {T : Type 0} (name : List ℕ) (may : Bool) (old new : RecordEnv) (r : Result T Status) → (locked_in old name ≡ false → RequestsChange (created name) may old new r) → (locked_in old name ≡ true → ChangesNoFile old new)
    → OnOk r (locked_in old name ≡ false) → ChangesFiles true (created name) (BeforeOrAfter (created name)) (record_observed old) (record_observed new) r
locks name may old new r asked looked was_free = by (locked_in old name) refl r asked was_free
  where
    by : {T : Type 0} (held : Bool) → locked_in old name ≡ held → (r : Result T Status) → (locked_in old name ≡ false → RequestsChange (created name) may old new r) → OnOk r (locked_in old name ≡ false)
        → ChangesFiles true (created name) (BeforeOrAfter (created name)) (record_observed old) (record_observed new) r
    by false free r asked was_free = ChangesFiles-from_asks (created name) may old new r (asked free)
    by true held (Ok x) asked was_free = absurd (cc (sym held ∙ was_free))
    by true held (Err e) asked was_free = record { ok = λ _. tt; now = λ _. inl (looked held).files; time = Within-weaker (λ files same. inl same) (looked held).time }

-- ---- at each moment there are but some names

-- some names, and each that is there is one of them
abbrev pub HasNames : Files → Type 0
HasNames files = (names : List (List ℕ)) × ((name : List ℕ) → IsSome (files name) → Contains names name)

with_file_names : (name : List ℕ) (file : Option File) (files : Files) → HasNames files → HasNames (with_file name file files)
with_file_names name file files has = (name ∷ has.0, λ other there. by other (bytes_eq name other) refl there)
  where
    by : (other : List ℕ) (b : Bool) → bytes_eq name other ≡ b → IsSome (cond b file (files other)) → Contains (name ∷ has.0) other
    by other true same there = subst (Contains (name ∷ has.0)) ((bytes_decides name other).0 same) (Contains-head name has.0)
    by other false apart there = Contains-tail name has.0 other (has.1 other there)

moved_names : (from to : List ℕ) (files : Files) (o : Option File) → HasNames files → HasNames (moved from to files o)
moved_names from to files None has = has
moved_names from to files (Some file) has = with_file_names to (Some file) (deleted from files) (with_file_names from None files has)

folder_names : (folder : List ℕ) (files : Files) → HasNames files → HasNames (without_folder folder files)
folder_names folder files has = (has.0, λ name there. by name (is_under folder name) there)
  where
    by : (name : List ℕ) (b : Bool) → IsSome (cond b None (files name)) → Contains has.0 name
    by name true there = absurd (cc there)
    by name false there = has.1 name there

noted_names : (change : Change (String Global) (Vec ℕ Global)) (files : Files) → HasNames files → HasNames (noted change files)
noted_names (Emptied name) files has = with_file_names (string_bytes name) _ files has
noted_names (Created name) files has = with_file_names (string_bytes name) _ files has
noted_names (Extended name bytes) files has = with_file_names (string_bytes name) _ files has
noted_names (Synced name) files has = with_file_names (string_bytes name) _ files has
noted_names (Deleted name) files has = with_file_names (string_bytes name) _ files has
noted_names (Renamed from to) files has = moved_names (string_bytes from) (string_bytes to) files (files (string_bytes from)) has
noted_names (Cleared folder) files has = folder_names (string_bytes folder) files has

where_done_names : (done : Bool) (change : Files → Files) (files : Files) → (HasNames files → HasNames (change files)) → HasNames files → HasNames (where_done done change files)
where_done_names true change files so has = so has
where_done_names false change files so has = has

after_names : (calls : List Call) (files : Files) → HasNames files → HasNames (fold after files calls)
after_names [] files has = has
after_names (call ∷ calls) files has = after_names calls (after files call) (where_done_names call.done (noted call.change) files (noted_names call.change files) has)

cut_off_names : (change : Change (String Global) (Vec ℕ Global)) (files : Files) → HasNames files → HasNames (cut_off change files)
cut_off_names change files has = where_done_names _ (noted change) files (noted_names change files) has

side_names : (side : Bool) (o : Option Call) (files : Files) → HasNames files → HasNames (side_of side o files)
side_names side None files has = has
side_names side (Some call) files has = where_done_names (side || is_append call.change) (cut_off call.change) files (cut_off_names call.change files) has

first_names : (map : FileMap) → HasNames (files_of map)
first_names map = let all = unique_names map in (_, λ name there. (all.there name).1 there)

names_at : (first : FileMap) (calls : List Call) (moment : ℕ) (side : Bool) → HasNames (files_at (files_of first) calls moment side)
names_at first calls moment side =
    let n = moment / 2 in
    let before : HasNames (files_after_calls (files_of first) calls n) = after_names (filter (λ call. nat_le call.number n) calls) (files_of first) (first_names first) in
    where_done_names (moment % 2 == 1) (side_of side (call_after calls n)) (files_after_calls (files_of first) calls n) (side_names side (call_after calls n) (files_after_calls (files_of first) calls n)) before

by_tails : (files : Files) → HasNames files → CrashesByTails files
by_tails files has = λ left leaves. left_by_tails files left _ (AreNames-there files has.0 has.1) leaves

-- ---- the sides of a moment

-- what a crash leaves without bytes in flight it leaves with them too
leaves_longer : (bytes : List ℕ) (o left : Option File) → FileCrashesTo o left → FileCrashesTo (option_map (longer_file bytes) o) left
leaves_longer bytes None left leaves = leaves
leaves_longer bytes (Some file) left leaves = (leaves.0, leaves.1, omega (arith, leaves.2, length-append file.since bytes), leaves.3)

Leaves-extended : (name bytes : List ℕ) (files left : Files) → FilesCrashTo files left → FilesCrashTo (extended name bytes files) left
Leaves-extended name bytes files left leaves = λ other. by other (bytes_eq name other) refl
  where
    by : (other : List ℕ) (b : Bool) → bytes_eq name other ≡ b → FileCrashesTo (cond b (option_map (longer_file bytes) (files name)) (files other)) (left other)
    by other true same = leaves_longer bytes (files name) (left other) (subst (λ (n : List ℕ). FileCrashesTo (files n) (left other)) (sym ((bytes_decides name other).0 same)) (leaves other))
    by other false apart = leaves other

-- the side before it
Leaves-before : (change : Change (String Global) (Vec ℕ Global)) (files left : Files) → FilesCrashTo files left → FilesCrashTo (where_done (false || is_append change) (cut_off change) files) left
Leaves-before (Emptied name) files left leaves = leaves
Leaves-before (Created name) files left leaves = leaves
Leaves-before (Extended name bytes) files left leaves = Leaves-extended (string_bytes name) bytes.items files left leaves
Leaves-before (Synced name) files left leaves = leaves
Leaves-before (Deleted name) files left leaves = leaves
Leaves-before (Renamed from to) files left leaves = leaves
Leaves-before (Cleared folder) files left leaves = leaves

Leaves-side : (o : Option Call) (files left : Files) → FilesCrashTo files left → FilesCrashTo (side_of false o files) left
Leaves-side None files left leaves = leaves
Leaves-side (Some call) files left leaves = Leaves-before call.change files left leaves

Leaves-then : (inside : Bool) (o : Option Call) (files left : Files) → FilesCrashTo files left → FilesCrashTo (where_done inside (side_of false o) files) left
Leaves-then true o files left leaves = Leaves-side o files left leaves
Leaves-then false o files left leaves = leaves

-- a crash at this moment leaves these files by a side and tails
abbrev pub LeftByChoice : Files → List Call → ℕ → Files → Type 0
LeftByChoice first calls moment left = (side : Bool) × (tails : Tails) × IsAllowed (files_at first calls moment side) tails × (left ≡ picked tails (files_at first calls moment side))

odd_test : (n : ℕ) → n ≡ 1 → (n == 1) ≡ true
odd_test n is = grind (arith, nat_tests)

module _ (first : FileMap) (calls : List Call) (moment : ℕ) where
  by_side : (side : Bool) (left : Files) → FilesCrashTo (files_at (files_of first) calls moment side) left → LeftByChoice (files_of first) calls moment left
  by_side side left leaves = let tails = by_tails (files_at (files_of first) calls moment side) (names_at first calls moment side) left leaves in (side, tails.0, tails.1, tails.2)

  inside_is : (o : Option Call) (files : Files) → side_of true o files ≡ cut_off_if o files
  inside_is None files = refl
  inside_is (Some call) files = refl

  pub left_by_choice : (files left : Files) → FilesWere (files_of first) calls moment files → FilesCrashTo files left → LeftByChoice (files_of first) calls moment left
  left_by_choice files left (inl is) leaves =
      let before : FilesCrashTo (files_after_calls (files_of first) calls (moment / 2)) left = subst (λ (f : Files). FilesCrashTo f left) is leaves in
      by_side false left (Leaves-then (moment % 2 == 1) (call_after calls (moment / 2)) (files_after_calls (files_of first) calls (moment / 2)) left before)
  left_by_choice files left (inr inside) leaves =
      let odd : (moment % 2 == 1) ≡ true = odd_test (moment % 2) inside.0 in
      let same : files ≡ files_at (files_of first) calls moment true =
      inside.1 ∙ sym (inside_is (call_after calls (moment / 2)) (files_after_calls (files_of first) calls (moment / 2)))
      ∙ ap (λ b. where_done b (side_of true (call_after calls (moment / 2))) (files_after_calls (files_of first) calls (moment / 2))) (sym odd) in
      by_side true left (subst (λ (f : Files). FilesCrashTo f left) same leaves)

pub leaves_by_choice : (env : RecordEnv) (moment : ℕ) → CrashesByChoice env moment
leaves_by_choice env moment = λ files left come stood leaves.
    let all = left_by_choice env.journal.first env.journal.calls.items moment files left stood leaves in
    (all.0, all.1, record { come = come; allowed = all.2 }, all.3)
