-- The table of the entries that wait has no new entry.
use Rattle.std.proofs.Common.{◌≡◌, ◌≢◌, ◌∙◌, ◌++◌, ◌+◌, ◌<◌, ◌^◌, ℕ, List, [], ◌∷◌, None, Ok, ap, map, refl, subst, sym}
use Rattle.std.specs.Prelude.{All, IsTrue}
use Rattle.std.specs.declared.cmp.Ordering.{Ordering}
use Rattle.leveldb_base.specs.Entries.{internal_pair}
use Rattle.leveldb_base.specs.declared.cmp.Cmp.{Ghosts as CmpGhosts}
use Rattle.leveldb_base.specs.declared.types.FileMetaData.{FileMetaData}
use Rattle.leveldb_base.specs.declared.types.FileType.TheVariants.{Descriptor, Table}
use Rattle.leveldb_env.specs.Env.{SameLocks}
use Rattle.leveldb_env.specs.declared.env.Env.{Ghosts}
use Rattle.leveldb_env.specs.declared.filter.FilterPolicy.{Ghosts as FilterGhosts}
use Rattle.leveldb_files.proofs.Stores.ManagedLemmas.{same_bytes, table_on}
use Rattle.leveldb_files.specs.Stores.Batches.{Each}
use Rattle.leveldb_files.specs.Stores.Format.{Agrees, IsTableOf, Meaning}
use Rattle.leveldb_files.specs.Levels.Levels.{LiveTable}
use Rattle.leveldb_version_set.specs.Sets.LogEdit.{AppendsEdit}
use Rattle.leveldb_files.specs.Stores.Paths.{table_path}
use Rattle.leveldb_files.specs.Stores.Store.{HasTable, IsInternalPair}
use Rattle.leveldb_version.specs.Tables.TableCache.{files_at}
use Rattle.leveldb_version.specs.Versions.Version.{VersionValue}
use Rattle.leveldb_files.specs.Edits.Edit.{NewFile}
use Rattle.leveldb_version.specs.Edits.VersionEdit.{new_file_of}
use Rattle.leveldb_version_set.specs.Sets.VersionSetValue.{OpenManifest, VersionSetValue, broken, in_use, with_number_given}
use Rattle.leveldb_version_set.specs.Engines.Writing.{table_edit}
use Rattle.leveldb_store.proofs.Keeping.CurrentVersionLemmas.{lower_stay}
use Rattle.leveldb_store.proofs.Keeping.NoNewEntriesLemmas.{adds_none_tables_made}
use Rattle.leveldb_store.proofs.Keeping.TableKeepsLemmas.{appending_and_syncing, is_table_path, types_apart}
use Rattle.leveldb_store.proofs.Writing.Level0TableLemmas.{has_made, same_logged}
use Rattle.leveldb_store.specs.Tables.BuildTable.{MakesTable, TableChoices}
use Rattle.leveldb_store.specs.Keeping.OpenStore.{AreNumbersGiven, HasOwnManifest, OpenStoreValue}
use Rattle.leveldb_store.specs.Keeping.Written.{IsWritten, imm_entries}
use Rattle.leveldb_store.specs.Keeping.WrittenFrom.{AddsNoEntry}

module _ {E F C D FP : Type 0} {order : CmpGhosts D} {filters : FilterGhosts FP} (env : Ghosts E F)
    (choices : TableChoices order filters) (old : OpenStoreValue C) (from mid : E) (level : ℕ)
    (file : FileMetaData) (some : imm_entries old.imm ≢ [])
    (each : Each IsInternalPair (map internal_pair (imm_entries old.imm))
    (imm_entries old.imm))
    (m : MakesTable choices (map internal_pair (imm_entries old.imm)) env (λ status. ⊥)
    old.set.store old.set.next_file from (Ok file) mid)
    (modelled : IsTrue env.models_disk) (cmp : List ℕ → List ℕ → Ordering)
    (same : choices.format.order ≡ cmp) (meaning : Meaning)
    (agrees : Agrees choices.format meaning) (usable : old.set.manifest ≢ broken)
    (next_fits : old.set.next_file + 1 < 2 ^ 64) (manifest : OpenManifest)
    (used : old.set.manifest ≡ in_use manifest)
    (own : IsTrue env.models_disk → HasOwnManifest old.set) (to : E)
    (locks : SameLocks env.models_disk (env.observed mid) (env.observed to))
    (set : VersionSetValue)
    (given : AreNumbersGiven old.set old.set.full.added)
    (l : AppendsEdit env.models_disk manifest (with_number_given old.set)
    (table_edit old.log.number (new_file_of (level, file))) (env.observed mid) (env.failures mid)
    (Ok tt) set (env.observed to) (env.failures to)) where
  abbrev it : NewFile
  it = new_file_of (level, file)

  abbrev table : LiveTable
  table = record { file = it; entries = imm_entries old.imm }

  added_is : set.full.added ≡ old.set.full.added ++ it ∷ []
  added_is =
      let lower = lower_stay it old.set.full.added
      (subst (λ n. All (λ (one : NewFile). one.number < n) old.set.full.added)
      (sym m.number_is.0) given) in
      ap (λ (s : VersionSetValue). s.full.added) l.ok ∙ ap (λ files. files ++ it ∷ []) lower

  abbrev path : List ℕ
  path = table_path old.set.store file.num

  -- its file stays when the edit is logged
  path_stays : files_at env to path ≡ files_at env mid path
  path_stays =
      appending_and_syncing manifest.path _ (files_at env mid) (files_at env to)
      ((l.does modelled).now modelled) path
      (types_apart old.set.store manifest.path path Descriptor Table (own modelled manifest used)
      (is_table_path old.set.store file.num (m.fits level).number) (λ e. cc))

  made : HasTable old.set.store cmp (IsTableOf cmp meaning) (files_at env to) table
  made = table_on old.set.store cmp (IsTableOf cmp meaning) (files_at env mid) (files_at env to) table
      (same_bytes (files_at env mid path) (files_at env to path) path_stays)
      (has_made env choices old from mid level file some each m modelled cmp same meaning agrees)

  pub table_adds_none : (next : VersionValue C) → IsWritten cmp meaning old (files_at env from)
      → AddsNoEntry cmp meaning old (files_at env from)
      (record old { set = set; current = next; imm = None }) (files_at env to)
  table_adds_none next w =
      adds_none_tables_made cmp meaning old (record old { set = set; current = next; imm = None })
      (files_at env from) (files_at env to) table w
      (ap (λ (s : VersionSetValue). s.store) l.ok) added_is
      (same_logged env choices old from usable next_fits mid level file m manifest used own {to = to}
      locks set (Ok tt) l modelled)
      made refl refl refl
