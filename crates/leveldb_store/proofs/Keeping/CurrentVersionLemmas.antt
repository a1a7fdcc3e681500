-- The version of a store: the level that it picks, files of lower numbers, and what calls make of
-- it.
use Rattle.std.specs.Prelude.{◌&&◌, All, OnErr, OnOk}
use Rattle.std.proofs.Common.{◌≡◌, ◌∙◌, ◌∷◌, ◌==◌, ◌<◌, Bool, true, false, cond, List, [], Option, Result, Ok, Err, ℕ, ap, arith, not, refl, subst, sym}
use Rattle.std.proofs.lemmas.Bool.Decides.{nat_tests}
use Rattle.std.proofs.lemmas.List.Elements.{All-head, All-tail}
use Rattle.std.proofs.lemmas.Result.{on_err_weaker}
use Rattle.std.specs.declared.cmp.Ordering.{Ordering}
use Rattle.leveldb_base.specs.declared.error.Status.{Status}
use Rattle.leveldb_base.specs.declared.cmp.Cmp.{Ghosts as CmpGhosts}
use Rattle.leveldb_version.specs.Versions.Change.{IsVersionAfter}
use Rattle.leveldb_version_set.specs.Sets.CurrentVersion.{IsCurrent, VersionsValue}
use Rattle.leveldb_version.specs.Edits.FullEdit.{files_without}
use Rattle.leveldb_files.specs.Levels.Overlap.{UserRange, output_level}
use Rattle.leveldb_version.specs.Versions.Version.{VersionValue, charged, new_files_of}
use Rattle.leveldb_files.specs.Edits.Edit.{Edit, LevelFile, NewFile}
use Rattle.leveldb_files.specs.Edits.VersionSet.{is_same_file, level_file}
use Rattle.leveldb_version_set.specs.Sets.VersionSetValue.{VersionSetValue}
use Rattle.leveldb_store.proofs.Keeping.LevelForLemmas.{output_level_alike}
use Rattle.leveldb_store.specs.Keeping.OpenStore.{OpenStoreValue}

-- the version of a version set is current in the order of the store
pub current_by : {C : Type 0} (order : CmpGhosts C) {cmp : C} {set : VersionSetValue}
    {version : VersionValue C} → version.cmp ≡ cmp
    → IsCurrent (order.cmp version.cmp) version.cmp set version
    → IsCurrent (order.cmp cmp) cmp set version
current_by order {set = set} {version = version} same is =
    subst (λ k. IsCurrent (order.cmp k) k set version) same is

-- it picks the level for the set's files
pub current_level : {C : Type 0} (order : List ℕ → List ℕ → Ordering) (cmp : C)
    (set : VersionSetValue) (version : VersionValue C) (range : UserRange)
    → IsCurrent order cmp set version
    → output_level order range (new_files_of version) ≡ output_level order range set.full.added
current_level order cmp set version range is =
    sym (output_level_alike order range set.full.added (new_files_of version) is.same_files)

-- its comparator stays, whether an edit is logged or not
pub logged_cmp : {C : Type 0} (order : List ℕ → List ℕ → Ordering) (edit : Edit)
    (old new : VersionValue C) (result : Result (Unit {0}) Status)
    → OnOk result (IsVersionAfter order edit old new) → OnErr result (new ≡ old)
    → new.cmp ≡ old.cmp
logged_cmp order edit old new (Ok done) after same = after.same_cmp
logged_cmp {C} order edit old new (Err status) after same = ap (λ (v : VersionValue C). v.cmp) same

-- ---- files of lower numbers

-- neither is true if the second isn't
not_both : (a b : Bool) → b ≡ false → (a && b) ≡ false
not_both true b none = none
not_both false b none = refl

-- a file of a lower number isn't at the level and number of another
differs : (live file : NewFile) → live.number < file.number
    → is_same_file (level_file live) (level_file file) ≡ false
differs live file lower = not_both (live.level == file.level) (live.number == file.number)
    (grind (arith, nat_tests))

-- so files of lower numbers stay
pub lower_stay : (file : NewFile) (files : List NewFile)
    → All (λ (live : NewFile). live.number < file.number) files
    → files_without files (level_file file) ≡ files
lower_stay file [] below = refl
lower_stay file (live ∷ files) below =
    let lower = All-head (λ (one : NewFile). one.number < file.number) live files below in
    let rest = All-tail (λ (one : NewFile). one.number < file.number) live files below in
    ap (λ same. cond (not same) (live ∷ files_without files (level_file file))
    (files_without files (level_file file))) (differs live file lower)
    ∙ ap (λ fs. live ∷ fs) (lower_stay file files rest)

-- ---- the version set after a call

module _ {C : Type 0} (before old : OpenStoreValue C) (same : before ≡ old) (now : VersionsValue C) where
  -- the store whose version is charged with a seek
  pub charged_store : (charge : Option LevelFile)
      → now ≡ record { set = before.set; current = (charged before.current charge).0 }
      → record before { set = now.set; current = now.current }
      ≡ record old { current = (charged old.current charge).0 }
  charged_store charge is =
      ap (λ (v : VersionsValue C). record before { set = v.set; current = v.current }) is
      ∙ ap (λ (v : OpenStoreValue C). record v { current = (charged v.current charge).0 }) same

  -- the version stays where an edit isn't logged
  pub unlogged_store : (result : Result (Unit {0}) Status)
      → OnErr result (now.current ≡ before.current)
      → OnErr result (record before { set = now.set; current = now.current }
      ≡ record old { set = now.set })
  unlogged_store result stays = on_err_weaker result
      (λ is. ap (λ (v : VersionValue C). record before { set = now.set; current = v }) is
      ∙ ap (λ (v : OpenStoreValue C). record v { set = now.set }) same) stays
