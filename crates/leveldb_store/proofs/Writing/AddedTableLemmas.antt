-- The table of the entries that wait is added, whatever the other files are.
use Rattle.std.specs.Prelude.{◌≢◌, All, Contains, IsTrue}
use Rattle.std.proofs.Common.{◌≡◌, ◌∙◌, ◌∷◌, ◌++◌, ◌+◌, ◌<◌, ◌^◌, ℕ, [], map, Ok, ap, arith, refl, subst, sym}
use Rattle.std.proofs.lemmas.List.Elements.{Contains-append_cases, Contains-append_right}
use Rattle.leveldb_base.proofs.HistoryLemmas.{in_front}
use Rattle.leveldb_base.specs.Entries.{internal_pair}
use Rattle.leveldb_base.specs.declared.cmp.Cmp.{Ghosts as CmpGhosts}
use Rattle.leveldb_base.specs.declared.types.FileMetaData.{FileMetaData}
use Rattle.leveldb_base.specs.declared.types.FileType.TheVariants.{Descriptor, Table}
use Rattle.leveldb_env.specs.declared.env.Env.{Ghosts}
use Rattle.leveldb_env.specs.declared.filter.FilterPolicy.{Ghosts as FilterGhosts}
use Rattle.leveldb_files.proofs.Stores.ManagedLemmas.{same_bytes, table_on}
use Rattle.leveldb_files.specs.Stores.Batches.{Each}
use Rattle.leveldb_files.specs.Stores.Format.{IsTableOf}
use Rattle.leveldb_files.specs.Levels.Levels.{LiveTable}
use Rattle.leveldb_version_set.specs.Sets.LogEdit.{AppendsEdit}
use Rattle.leveldb_files.specs.Stores.Paths.{table_path}
use Rattle.leveldb_files.specs.Stores.Store.{HasTable, IsInternalPair}
use Rattle.leveldb_files.specs.Edits.Edit.{NewFile}
use Rattle.leveldb_version.specs.Edits.VersionEdit.{new_file_of}
use Rattle.leveldb_version_set.specs.Sets.VersionSetValue.{OpenManifest, VersionSetValue, in_use, with_number_given}
use Rattle.leveldb_version_set.specs.Engines.Writing.{table_edit}
use Rattle.leveldb_store.proofs.Keeping.CurrentVersionLemmas.{lower_stay}
use Rattle.leveldb_store.proofs.Keeping.TableKeepsLemmas.{appending_and_syncing, is_table_path, types_apart}
use Rattle.leveldb_store.proofs.Writing.Level0TableLemmas.{has_made}
use Rattle.leveldb_store.specs.Tables.BuildTable.{MakesTable, TableChoices}
use Rattle.leveldb_store.specs.Keeping.KeptEntries.{AddsTableOf, IsAddedTable}
use Rattle.leveldb_store.specs.Keeping.OpenStore.{AreNumbersGiven, HasOwnManifest, OpenStoreValue}
use Rattle.leveldb_store.specs.Keeping.Written.{imm_entries}

module _ {E F C D FP : Type 0} {order : CmpGhosts D} {filters : FilterGhosts FP} (env : Ghosts E F)
    (choices : TableChoices order filters) (old : OpenStoreValue C) (from mid : E)
    (level : ℕ) (file : FileMetaData) (some : imm_entries old.imm ≢ [])
    (each : Each IsInternalPair (map internal_pair (imm_entries old.imm))
    (imm_entries old.imm))
    (m : MakesTable choices (map internal_pair (imm_entries old.imm)) env (λ status. ⊥)
    old.set.store old.set.next_file from (Ok file) mid) where
  abbrev it : NewFile
  it = new_file_of (level, file)

  abbrev table : LiveTable
  table = record { file = it; entries = imm_entries old.imm }

  abbrev Logs : OpenManifest → VersionSetValue → E → Type 0
  Logs manifest set to = AppendsEdit env.models_disk manifest (with_number_given old.set)
      (table_edit old.log.number it) (env.observed mid) (env.failures mid) (Ok tt) set
      (env.observed to) (env.failures to)

  -- the live files are those before it, and it
  live_with_it : AreNumbersGiven old.set old.set.full.added
      → (manifest : OpenManifest) (set : VersionSetValue) (to : E) → Logs manifest set to
      → set.full.added ≡ old.set.full.added ++ it ∷ []
  live_with_it given manifest set to l =
      let lower = lower_stay it old.set.full.added
      (subst (λ n. All (λ (one : NewFile). one.number < n) old.set.full.added)
      (sym m.number_is.0) given) in
      ap (λ (s : VersionSetValue). s.full.added) l.ok ∙ ap (λ files. files ++ it ∷ []) lower

  -- once its edit is logged it has the entries that waited
  its_entries : old.set.next_file + 1 < 2 ^ 64 → AreNumbersGiven old.set old.set.full.added
      → (manifest : OpenManifest) → old.set.manifest ≡ in_use manifest
      → (IsTrue env.models_disk → HasOwnManifest old.set)
      → (set : VersionSetValue) (to : E) → Logs manifest set to
      → IsAddedTable env choices.format old.set set to table
  its_entries next_fits given manifest used own set to l = record {
    live = subst (λ files. Contains files it) (sym (live_with_it given manifest set to l))
        (Contains-append_right old.set.full.added (it ∷ []) it (in_front it []));
    fresh = omega (arith, number);
    given = let more = ap (λ (s : VersionSetValue). s.next_file) l.ok in
        omega (arith, number, more);
    fits = fits;
    there = λ modelled meaning agrees.
        let path = table_path old.set.store file.num in
        let same = appending_and_syncing manifest.path _ (env.observed mid).disk.files
        (env.observed to).disk.files ((l.does modelled).now modelled) path
        (types_apart old.set.store manifest.path path Descriptor Table
        (own modelled manifest used) (is_table_path old.set.store file.num fits)
        (λ e. cc)) in
        let f = choices.format in
        subst (λ s. HasTable s f.order (IsTableOf f.order meaning) (env.observed to).disk.files
        table) (sym (ap (λ (s : VersionSetValue). s.store) l.ok))
        (table_on old.set.store f.order (IsTableOf f.order meaning) (env.observed mid).disk.files
        (env.observed to).disk.files table
        (same_bytes ((env.observed mid).disk.files path) ((env.observed to).disk.files path) same)
        (has_made env choices old from mid level file some each m modelled f.order refl meaning
        agrees));
  }
    where
      number : file.num ≡ old.set.next_file
      number = m.number_is.0

      fits : file.num < 2 ^ 64
      fits = omega (arith, number, next_fits)

  pub imm_added : old.set.next_file + 1 < 2 ^ 64 → AreNumbersGiven old.set old.set.full.added
      → (manifest : OpenManifest) → old.set.manifest ≡ in_use manifest
      → (IsTrue env.models_disk → HasOwnManifest old.set)
      → (set : VersionSetValue) (to : E) → Logs manifest set to
      → (new : VersionSetValue) → new ≡ set
      → AddsTableOf env choices.format (imm_entries old.imm) old.set new to
  imm_added next_fits given manifest used own set to l new same =
      subst (λ s. AddsTableOf env choices.format (imm_entries old.imm) old.set s to)
      (sym same) (
        it,
        its_entries next_fits given manifest used own set to l,
        λ file there. Contains-append_cases old.set.full.added (it ∷ []) file
            (subst (λ files. Contains files file) (live_with_it given manifest set to l) there),
      )
