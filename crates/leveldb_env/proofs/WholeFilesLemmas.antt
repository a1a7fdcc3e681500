-- What the files are at each step of the replacement of one, and why a file that must be there
-- isn't.
use Rattle.std.specs.Prelude.{◌≢◌, IsTrue, OnOk}
use Rattle.std.proofs.Common.{◌≡◌, ◌⊎◌, inl, inr, ⊎_elim, ℕ, Bool, List, [], None, Some, Result, Ok, Err, sym, subst, ◌∙◌, ap}
use Rattle.std.specs.Option.{option_map}
use Rattle.leveldb_base.specs.declared.error.Status.{Status}
use Rattle.leveldb_base.specs.declared.error.StatusCode.TheVariants.{NotFound}
use Rattle.leveldb_base.specs.Error.{IsOutOfMemory}
use Rattle.leveldb_env.specs.Env.{Files, with_file, kept_file, longer_file, file_kept, emptied, deleted, renamed, extended, synced, Observed, ChangesFiles, BeforeOrAfter, PrefixAppended, SameBut, Run, HasCause}
use Rattle.leveldb_env.proofs.EnvLemmas.{at_same, at_other, with_file-twice, bytes_eq-apart, SameBut-refl, SameBut-trans, SameBut-emptied, SameBut-appending, SameBut-synced, extended-same, renamed-there, Run-call, Run-mono, begun, call}
use Rattle.leveldb_env.specs.WholeFiles.{replaced, Replacing, IsMissingFile, IsFoundOr}

-- ---- a file that is written and synced

module _ (name bytes : List ℕ) {T : Type 0} {x : T} {models_disk : Bool} {v0 v1 : Observed} (modelled : IsTrue models_disk) (opening : ChangesFiles {T = T} models_disk (emptied name) (BeforeOrAfter (emptied name)) v0 v1 (Ok x)) where
  abbrev first : Files
  first = v0.disk.files

  at_open : Run (SameBut name first) v0 v1
  at_open = call modelled (begun v0 (SameBut-refl name first)) (SameBut-emptied name first) opening

  pub at_append : {v2 : Observed} {result : Result (Unit {0}) Status} → ChangesFiles models_disk (extended name bytes) (PrefixAppended name bytes) v1 v2 result → Run (SameBut name first) v0 v2
  at_append append = call modelled at_open (λ files passes. SameBut-trans name at_open.has (SameBut-appending name bytes v1.disk.files files passes)) append

  pub at_sync : {v2 v3 : Observed} {appended result : Result (Unit {0}) Status} → ChangesFiles models_disk (extended name bytes) (PrefixAppended name bytes) v1 v2 appended
      → ChangesFiles models_disk (synced name) (BeforeOrAfter (synced name)) v2 v3 result → Run (SameBut name first) v0 v3
  at_sync {v2} append sync = call modelled (at_append append) (λ files passes. SameBut-trans name (at_append append).has (SameBut-synced name v2.disk.files files passes)) sync

  -- the file is made: it has its bytes, all kept
  pub file_made : {U : Type 0} {y : U} {v2 v3 : Observed} → ChangesFiles {T = Unit {0}} models_disk (extended name bytes) (PrefixAppended name bytes) v1 v2 (Ok tt)
      → ChangesFiles {T = Unit {0}} models_disk (synced name) (BeforeOrAfter (synced name)) v2 v3 (Ok tt)
      → ChangesFiles {T = U} models_disk (with_file name (Some (kept_file bytes))) (SameBut name) v0 v3 (Ok y)
  file_made {v2 = v2} append sync =
      let f1 = emptied name first in
      let f2 = extended name bytes f1 in
      let there1 : f1 name ≡ Some (kept_file []) = at_same name (Some (kept_file [])) first in
      let there2 = extended-same name bytes f1 (kept_file []) there1 in
      let made : synced name f2 ≡ with_file name (Some (kept_file bytes)) first =
      ap (λ file. with_file name (option_map file_kept file) f2) there2
      ∙ with_file-twice name (Some (kept_file bytes)) (option_map (longer_file bytes) (f1 name)) f1
      ∙ with_file-twice name (Some (kept_file bytes)) (Some (kept_file [])) first in
      let run = at_sync append sync in
      record {
        ok = λ t. sync.ok modelled ∙ ap (synced name) (append.ok modelled ∙ ap (extended name bytes) (opening.ok modelled)) ∙ made;
        now = λ t. run.has;
        time = run.time;
      }

-- ---- a file that is replaced

-- a file that is renamed takes the other's place
replaced_by : (temp name bytes : List ℕ) (files : Files)
    → renamed temp name (with_file temp (Some (kept_file bytes)) files) ≡ replaced temp name bytes files
replaced_by temp name bytes files =
    let made = with_file temp (Some (kept_file bytes)) files in
    renamed-there temp name made (kept_file bytes) (at_same temp (Some (kept_file bytes)) files)
    ∙ ap (with_file name (Some (kept_file bytes))) (with_file-twice temp None (Some (kept_file bytes)) files)

module _ (temp name bytes : List ℕ) (apart : temp ≢ name) where
  -- where the temporary file alone has changed
  aside : (old files : Files) → SameBut temp old files → Replacing temp name bytes old files
  aside old files same_but = record { either = inl (same_but name (bytes_eq-apart temp name apart)); others = λ other a b. same_but other a }

  -- and once it has its name
  in_place : (old files : Files) → files ≡ replaced temp name bytes old → Replacing temp name bytes old files
  in_place old files is = record {
    either = inr (ap (λ (f : Files). f name) is ∙ at_same name (Some (kept_file bytes)) (deleted temp old));
    others = λ other a b. ap (λ (f : Files). f other) is ∙ at_other name (Some (kept_file bytes)) (deleted temp old) other b ∙ at_other temp None old other a;
  }

  module _ {models_disk : Bool} {v0 v1 : Observed} (modelled : IsTrue models_disk) where
    -- the temporary file was written, or a part of it
    pub written_aside : {T : Type 0} {result : Result T Status} → ChangesFiles models_disk (with_file temp (Some (kept_file bytes))) (SameBut temp) v0 v1 result → Run (Replacing temp name bytes v0.disk.files) v0 v1
    written_aside writes = Run-mono (aside v0.disk.files) (Run-call modelled writes)

    -- it is there then
    pub there_at_rename : {T : Type 0} {x : T} → ChangesFiles models_disk (with_file temp (Some (kept_file bytes))) (SameBut temp) v0 v1 (Ok x) → v1.disk.files temp ≡ None → ⊥
    there_at_rename writes gone =
        let there : v1.disk.files temp ≡ Some (kept_file bytes) =
        ap (λ (f : Files). f temp) (writes.ok modelled) ∙ at_same temp (Some (kept_file bytes)) v0.disk.files in
        absurd (cc (sym gone ∙ there))

    -- and is renamed
    pub at_rename : {T : Type 0} {x : T} {v2 : Observed} {result : Result (Unit {0}) Status} → ChangesFiles models_disk (with_file temp (Some (kept_file bytes))) (SameBut temp) v0 v1 (Ok x)
        → ChangesFiles models_disk (renamed temp name) (BeforeOrAfter (renamed temp name)) v1 v2 result
        → ChangesFiles models_disk (replaced temp name bytes) (Replacing temp name bytes) v0 v2 result
    at_rename {v2 = v2} {result = result} writes rename =
        let first = v0.disk.files in
        let same : SameBut temp first v1.disk.files = (Run-call modelled writes).has in
        let done : renamed temp name v1.disk.files ≡ replaced temp name bytes first =
        ap (renamed temp name) (writes.ok modelled) ∙ replaced_by temp name bytes first in
        let last : Run (Replacing temp name bytes first) v0 v2 = call modelled (written_aside writes)
        (λ files passes. ⊎_elim (λ is. aside first files (subst (SameBut temp first) (sym is) same)) (λ is. in_place first files (is ∙ done)) passes) rename in
        record { ok = λ t. subst (λ (f : Files). OnOk result (v2.disk.files ≡ f)) done (rename.ok t); now = λ t. last.has; time = last.time }

-- ---- files that must be there

-- what is Ok was so before
pub found_ok : {T : Type 0} (name : List ℕ) (answer : Result T Status) (value : T) → IsFoundOr name answer (Ok value) → answer ≡ Ok value
found_ok name (Ok other) value is = sym is
found_ok name (Err status) value is = ⊎_elim (λ never. absurd (cc (never.1))) (λ never. absurd never.1) is

-- what a call changed is what it changed where its file is found
pub ChangesFiles-found : {T : Type 0} {models_disk : Bool} {change : Files → Files} {Passes : Files → Files → Type 0} {old new : Observed} (name : List ℕ) (answer result : Result T Status)
    → IsFoundOr name answer result → ChangesFiles models_disk change Passes old new answer → ChangesFiles models_disk change Passes old new result
ChangesFiles-found {change = change} {old = old} {new = new} name answer (Ok value) is changes = record {
  ok = λ modelled. subst (λ r. OnOk r (new.disk.files ≡ change old.disk.files)) (found_ok name answer value is) (changes.ok modelled);
  now = changes.now;
  time = changes.time;
}
ChangesFiles-found name answer (Err status) is changes = record { ok = λ modelled. tt; now = changes.now; time = changes.time }

-- a missing file is no longer the environment's error, and the others stay
pub found_cause : {T : Type 0} {Gone Kept : Type 0} {before now : ℕ} (name : List ℕ) (answer result : Result T Status) → (Gone → Kept) → IsFoundOr name answer result
    → HasCause (λ e. IsOutOfMemory e ⊎ ((e.code ≡ NotFound) × Gone)) before now answer
    → HasCause (λ e. IsOutOfMemory e ⊎ (IsMissingFile name e × Kept × (now ≡ before))) before now result
found_cause {Kept = Kept} {before = before} {now = now} name (Ok value) result kept is cause =
    subst (λ r. HasCause (λ e. IsOutOfMemory e ⊎ (IsMissingFile name e × Kept × (now ≡ before))) before now r) (sym is)
    (record { later = cause.later; ok = cause.ok; uncounted = tt; cause = tt })
found_cause {Kept = Kept} {before = before} {now = now} name (Err status) result kept (inl other) cause =
    subst (λ r. HasCause (λ e. IsOutOfMemory e ⊎ (IsMissingFile name e × Kept × (now ≡ before))) before now r) (sym other.1)
    (record {
      later = cause.later;
      ok = tt;
      uncounted = λ excused. ⊎_elim (λ memory. cause.uncounted (inl memory)) (λ lost. lost.2) excused;
      cause = ⊎_elim (λ excused. inl (⊎_elim (λ memory. inl memory) (λ gone. absurd (other.0 gone.0)) excused)) (λ counted. inr counted) cause.cause;
    })
found_cause name (Err status) (Ok value) kept (inr missing) cause = absurd missing.1
found_cause name (Err status) (Err error) kept (inr missing) cause = record {
  later = cause.later;
  ok = tt;
  uncounted = λ excused. ⊎_elim (λ memory. absurd (cc (sym missing.1.code ∙ memory.0))) (λ lost. lost.2) excused;
  cause = ⊎_elim
      (λ excused. ⊎_elim (λ memory. absurd (cc (sym missing.0 ∙ memory.0))) (λ gone. inl (inr (missing.1, kept gone.1, cause.uncounted (inr gone)))) excused)
      (λ counted. inr counted) cause.cause;
}
