-- How the entries that wait become a table: its edit, the ends of the call, and what it keeps.
use Rattle.std.specs.Prelude.{◌≢◌, All, Contains, IsTrue, IfSome}
use Rattle.std.proofs.Common.{◌≡◌, ◌⊎◌, ◌∙◌, ◌∷◌, ◌++◌, ◌+◌, ◌-◌, ◌≤◌, ◌<◌, ◌^◌, inl, inr, ⊎_elim, ℕ, Bool, true, false, List, [], map, Option, None, Some, Ok, Err, Result, ap, arith, refl, subst, sym}
use Rattle.std.proofs.lemmas.List.{map-append}
use Rattle.std.proofs.lemmas.List.Elements.{All-cons, All-nil, Contains-append_left}
use Rattle.std.specs.Cmp.{IsTotalOrder}
use Rattle.std.specs.Option.{option_map}
use Rattle.std.specs.Cmp.Lexicographic.{bytes_decides}
use Rattle.std.specs.Str.{bytes_eq}
use Rattle.std.specs.declared.cmp.Ordering.{Ordering}
use Rattle.leveldb_base.specs.Entries.{internal_pair}
use Rattle.leveldb_base.specs.History.{Entry}
use Rattle.leveldb_base.specs.KeyTypes.{user_part}
use Rattle.leveldb_base.specs.Types.{Pair}
use Rattle.leveldb_base.specs.declared.cmp.Cmp.{Ghosts as CmpGhosts}
use Rattle.leveldb_base.specs.declared.error.Status.{Status}
use Rattle.leveldb_base.specs.declared.types.FileMetaData.{FileMetaData}
use Rattle.leveldb_base.specs.declared.types.FileType.{FileType}
use Rattle.leveldb_base.specs.declared.types.FileType.TheVariants.{Descriptor, Table}
use Rattle.leveldb_env.proofs.EnvLemmas.{Run-call, Run-mono, Run-trans, begun}
use Rattle.leveldb_env.specs.Compressor.{Coding, Decodes, decoded_under}
use Rattle.leveldb_env.specs.Env.{Files, Observed, Run, SameBut, SameLocks}
use Rattle.leveldb_env.specs.WholeFiles.{IsLost}
use Rattle.leveldb_env.specs.declared.env.Env.{Ghosts}
use Rattle.leveldb_env.specs.declared.filter.FilterPolicy.{Ghosts as FilterGhosts}
use Rattle.leveldb_mem.specs.Log.Writer.{frame}
use Rattle.leveldb_mem.specs.MemTable.{MemTableState}
use Rattle.leveldb_table.specs.TableBuilder.{IsMeaningOf}
use Rattle.leveldb_table.specs.TableLaws.{DecodesMore}
use Rattle.leveldb_files.proofs.Stores.StoreTablesLemmas.{held_tables_by_more}
use Rattle.leveldb_files.specs.Stores.Batches.{Each}
use Rattle.leveldb_files.specs.Stores.Contents.{Store}
use Rattle.leveldb_version.specs.Edits.FullEdit.{files_after}
use Rattle.leveldb_files.specs.Levels.Levels.{LiveTable}
use Rattle.leveldb_version_set.specs.Sets.LogEdit.{AppendsEdit, edit_record, with_bytes_kept}
use Rattle.leveldb_version_set.specs.Engines.Opening.{FitsEdit}
use Rattle.leveldb_files.specs.Levels.Overlap.{file_range, output_level}
use Rattle.leveldb_files.specs.Stores.Paths.{IsFilePath, table_path}
use Rattle.leveldb_files.specs.Stores.Store.{HasTable, IsInternalPair}
use Rattle.leveldb_files.specs.Steps.StoreSteps.{AppendedAreBytes, IsKept, KeepsHistory}
use Rattle.leveldb_files.specs.Edits.Edit.{Edit, LevelsFit, NewFile, empty_edit}
use Rattle.leveldb_version.specs.Edits.VersionEdit.{edit_of, new_file_of}
use Rattle.leveldb_version_set.specs.Sets.VersionSetValue.{AreFileNumbersUsedUp, ManifestState, OpenManifest, VersionSetValue, broken, in_use, unmade, with_number_given}
use Rattle.leveldb_version.specs.Versions.Change.{IsVersionAfter}
use Rattle.leveldb_version.specs.Versions.Version.{VersionValue}
use Rattle.leveldb_version_set.specs.Engines.Writing.{IsWrittenBy, table_edit}
use Rattle.leveldb_version.specs.declared.version_edit.VersionEdit.{VersionEdit}
use Rattle.leveldb_store.proofs.Keeping.CurrentVersionLemmas.{lower_stay}
use Rattle.leveldb_store.proofs.Keeping.GivenNumbersLemmas.{given_after, live_given}
use Rattle.leveldb_store.proofs.Keeping.KeptBytesLemmas.{kept_by_new, loses_appending, spares_kept_none, spares_kept_then}
use Rattle.leveldb_store.specs.Keeping.KeptBytes.{IsKeptPath, SparesKept}
use Rattle.leveldb_store.proofs.Keeping.GivenTablesLemmas.{SameGiven, given_same, same_beside, same_beside_new, same_or_gone, same_then}
use Rattle.leveldb_store.proofs.Keeping.TableKeepsLemmas.{KeepsHistory-refl, KeepsHistory-trans, appending_and_syncing, is_table_path, keeps_logged, keeps_made, shows_done, shows_failed, shows_made, types_apart, w_made, written_done, written_made}
use Rattle.leveldb_store.proofs.Keeping.SoundLemmas.{edit_goes_on, goes_on_then, sound_unlogged, table_goes_on}
use Rattle.leveldb_store.specs.Tables.BuildTable.{MakesTable, TableChoices}
use Rattle.leveldb_files.specs.Stores.Format.{Agrees, Format, IsTableOf, Meaning}
use Rattle.leveldb_store.specs.Keeping.OpenStore.{AreInLevels, AreNumbersGiven, HasOwnManifest, OpenStoreValue}
use Rattle.leveldb_store.specs.Keeping.SoundCall.{IsSoundCall}
use Rattle.leveldb_store.specs.Writing.Switch.{FailsToWriteLevel0Table, WritesLevel0Table}
use Rattle.leveldb_store.specs.Keeping.Written.{IsData, IsDataPath, IsWritten, KeepsStore, KeepsWritten, HasView, SparesRest, memory_of, imm_entries}

-- ---- the edit

-- the edit of one file and a log number
pub table_edit_made : (plain numbered added : VersionEdit) (log level : ℕ) (file : FileMetaData)
    → edit_of plain ≡ empty_edit → numbered ≡ record plain { log_number = Some log }
    → added.new_files.items ≡ numbered.new_files.items ++ (level, file) ∷ []
    → added ≡ record numbered { new_files = added.new_files }
    → edit_of added ≡ table_edit log (new_file_of (level, file))
table_edit_made plain numbered added log level file plain_is numbered_is items others =
    let With : Edit → List NewFile → Edit =
    λ e files. record e { log_number = Some log; added = files } in
    let files : List NewFile = map new_file_of added.new_files.items in
    let none : map new_file_of plain.new_files.items ≡ [] =
    ap (λ (e : Edit). e.added) plain_is in
    let one : files ≡ new_file_of (level, file) ∷ [] =
    ap (map new_file_of)
    (items ∙ ap (λ (e : VersionEdit). e.new_files.items ++ (level, file) ∷ []) numbered_is)
    ∙ map-append new_file_of plain.new_files.items ((level, file) ∷ [])
    ∙ ap (λ fs. fs ++ new_file_of (level, file) ∷ []) none in
    let edit : edit_of added ≡ With (edit_of plain) files =
    ap edit_of others
    ∙ ap (λ (e : VersionEdit). edit_of (record e { new_files = added.new_files })) numbered_is in
    edit ∙ ap (λ e. With e files) plain_is ∙ ap (With empty_edit) one

-- its level is one of the seven
pub table_edit_fits : (log level : ℕ) (file : FileMetaData) → level < 7
    → LevelsFit (table_edit log (new_file_of (level, file)))
table_edit_fits log level file fits = record {
  pointers = All-nil (λ it. it.level < 7);
  deleted = All-nil (λ it. it.0 < 7);
  added = All-cons (λ (it : NewFile). it.level < 7) (new_file_of (level, file)) [] fits
      (All-nil (λ (it : NewFile). it.level < 7));
}

-- ---- what waits

-- a memtable that waits has entries
pub imm_has_entries : {C : Type 0} (imm : Option (MemTableState C))
    → option_map (λ memtable. memtable.kept) imm ≢ None
    → IfSome imm (λ memtable. memtable.kept.entries ≢ [])
    → imm_entries (option_map (λ memtable. memtable.kept) imm) ≢ []
imm_has_entries None waits some = absurd (waits refl)
imm_has_entries (Some memtable) waits some = some

-- ---- the set after an edit

-- a manifest that is neither unmade nor broken is in use
pub in_use_of : (state : ManifestState) → state ≢ unmade → state ≢ broken
    → (manifest : OpenManifest) × (state ≡ in_use manifest)
in_use_of unmade made usable = absurd (made refl)
in_use_of (in_use manifest) made usable = (manifest, refl)
in_use_of broken made usable = absurd (usable refl)

-- the set's path, its manifest's and its last number stay
pub record KeepsManifest (old new : VersionSetValue) : Type 0 where
  pub store : new.store ≡ old.store
  pub last : new.last_sequence ≡ old.last_sequence
  pub made : new.manifest ≢ unmade
  pub path : (manifest : OpenManifest) → new.manifest ≡ in_use manifest
      → (before : OpenManifest) × (old.manifest ≡ in_use before) × (manifest.path ≡ before.path)

same_manifest : (a b : OpenManifest) → in_use a ≡ in_use b → a ≡ b
same_manifest a b e = cc

never_used : (manifest : OpenManifest) → broken ≡ in_use manifest → ⊥
never_used manifest e = cc

never_made : (manifest : OpenManifest) → in_use manifest ≡ unmade → ⊥
never_made manifest e = cc

module _ {old : VersionSetValue} (manifest : OpenManifest)
    (used : old.manifest ≡ in_use manifest) where
  was : KeepsManifest old old
  was = record {
    store = refl;
    last = refl;
    made = λ e. never_made manifest (sym used ∙ e);
    path = λ m e. (m, e, refl);
  }

  broke : KeepsManifest old (record old { manifest = broken })
  broke = record {
    store = refl;
    last = refl;
    made = λ e. let never : broken ≡ unmade = e in cc;
    path = λ m e. absurd (never_used m e);
  }

  pub keeps_manifest : {models_disk : Bool} {edit : Edit} {before after : Observed}
      {failed now_failed : ℕ} {new : VersionSetValue} (result : Result (Unit {0}) Status)
      → AppendsEdit models_disk manifest old edit before failed result new after now_failed
      → KeepsManifest old new
  keeps_manifest (Ok unit) a = subst (KeepsManifest old) (sym a.ok) (record {
    store = refl;
    last = refl;
    made = λ e. never_made _ e;
    path = λ m e. (manifest, used, ap (λ (x : OpenManifest). x.path) (sym (same_manifest _ m e)));
  })
  keeps_manifest (Err status) a = ⊎_elim
      (λ memory. subst (KeepsManifest old) (sym memory.1) was)
      (λ now. subst (KeepsManifest old) (sym now) broke) a.err

-- an edit that isn't logged leaves the files and their numbers
pub files_left : {models_disk : Bool} {manifest : OpenManifest} {old : VersionSetValue}
    {edit : Edit} {before after : Observed} {failed now_failed : ℕ} {new : VersionSetValue}
    {status : Status}
    → AppendsEdit models_disk manifest old edit before failed (Err status) new after now_failed
    → (new.full ≡ old.full) × (new.next_file ≡ old.next_file)
files_left a = ⊎_elim
    (λ memory. (
      ap (λ (s : VersionSetValue). s.full) memory.1,
      ap (λ (s : VersionSetValue). s.next_file) memory.1,
    ))
    (λ now. (
      ap (λ (s : VersionSetValue). s.full) now,
      ap (λ (s : VersionSetValue). s.next_file) now,
    )) a.err

-- each live file's number was given, whether an edit of files whose numbers were is logged or not
pub logged_given : {models_disk : Bool} {manifest : OpenManifest} {old : VersionSetValue}
    {edit : Edit} {before after : Observed} {failed now_failed : ℕ} {new : VersionSetValue}
    (result : Result (Unit {0}) Status)
    → AppendsEdit models_disk manifest old edit before failed result new after now_failed
    → AreNumbersGiven old old.full.added → AreNumbersGiven old edit.added
    → AreNumbersGiven new new.full.added
logged_given {old = old} {edit = edit} {new = new} (Ok done) logged given added =
    given_after old new edit (ap (λ (s : VersionSetValue). s.full.added) logged.ok)
    (ap (λ (s : VersionSetValue). s.next_file) logged.ok) given added
logged_given {old = old} {new = new} (Err status) logged given added =
    let left = files_left logged in live_given old new left.0 (omega (arith, left.1)) given

-- and live files are in levels, if those before and those that the edit leaves are
pub logged_levels : {models_disk : Bool} {manifest : OpenManifest} {old : VersionSetValue}
    {edit : Edit} {before after : Observed} {failed now_failed : ℕ} {new : VersionSetValue}
    (order : List ℕ → List ℕ → Ordering) (result : Result (Unit {0}) Status)
    → AppendsEdit models_disk manifest old edit before failed result new after now_failed
    → AreInLevels models_disk order old.full.added
    → AreInLevels models_disk order (files_after edit old.full.added)
    → AreInLevels models_disk order new.full.added
logged_levels {models_disk} order (Ok done) logged levels next =
    subst (AreInLevels models_disk order) (sym (ap (λ (s : VersionSetValue). s.full.added) logged.ok)) next
logged_levels {models_disk} order (Err status) logged levels next =
    subst (λ (full : Edit). AreInLevels models_disk order full.added) (sym (files_left logged).0) levels

-- a set of the same paths has its own manifest, too
pub own_again : (old new : VersionSetValue) → KeepsManifest old new → HasOwnManifest old
    → HasOwnManifest new
own_again old new kept own manifest used =
    let was = kept.path manifest used in
    let its = own was.0 was.1 in
    subst (λ s. IsFilePath Descriptor s manifest.path) (sym kept.store)
    (its.0, its.1, its.2, was.2 ∙ its.3)

-- ---- what is kept

-- compressors that are set in a format decode the same by what ids mean
pub agreed_decode_more : (format : Format) (meaning : Meaning) → Agrees format meaning
    → DecodesMore (Decodes format.codings) (Decodes meaning.codings)
agreed_decode_more format meaning agrees id stored text decoded =
    by (format.codings id) refl decoded
  where
    by : (o : Option Coding) → format.codings id ≡ o → decoded_under o stored ≡ Some text
        → Decodes meaning.codings id stored text
    by None e found = absurd (let never : None ≡ Some text = found in cc)
    by (Some coding) e found =
        ap (λ (o : Option Coding). decoded_under o stored) (agrees.codings id coding e) ∙ found

pub some_pairs : (entries : List Entry) → entries ≢ [] → map internal_pair entries ≢ []
some_pairs [] some e = some refl
some_pairs (entry ∷ entries) some e =
    let never : internal_pair entry ∷ map internal_pair entries ≡ [] = e in cc

module _ {C : Type 0} (cmp : List ℕ → List ℕ → Ordering) (meaning : Meaning) where
  -- where nothing is done
  pub keeps_nothing : (value : OpenStoreValue C) (observed : Observed)
      → KeepsWritten cmp meaning value observed value observed
  keeps_nothing value observed allowed is = record {
    moments = λ bound late. begun observed (KeepsHistory-refl observed.disk.files);
    written = λ unbroken. is;
    shows = λ history since s. s;
  }

  module _ (old : OpenStoreValue C) (next_fits : old.set.next_file + 1 < 2 ^ 64)
      (v0 v1 : Observed)
      (run : Run (SameBut (table_path old.set.store old.set.next_file) v0.disk.files) v0 v1)
      (bytes : AppendedAreBytes v0.disk.files → AppendedAreBytes v1.disk.files) where
    abbrev Keeps : (Store → Type 0) → ℕ → Files → Files → Type 0
    Keeps = KeepsHistory old.set.store cmp (IsTableOf cmp meaning)

    run_made : IsWritten cmp meaning old v0.disk.files → (allowed : Store → Type 0) (bound : ℕ)
        → Run (Keeps allowed bound v0.disk.files) v0 v1
    run_made is allowed bound =
        Run-mono (λ files same. keeps_made cmp meaning old v0.disk.files is next_fits files same
        allowed bound) run

    abbrev w1 : (is : IsWritten cmp meaning old v0.disk.files)
        → IsWrittenBy old.set.store cmp (IsTableOf cmp meaning) v1.disk.files is.edits
        (memory_of (record old { set = with_number_given old.set }))
    w1 is = w_made cmp meaning old v0.disk.files is next_fits v1.disk.files run.has
        (bytes is.by.tracked.bytes)

    -- where no table is made
    pub keeps_unmade : KeepsWritten cmp meaning old v0
        (record old { set = with_number_given old.set }) v1
    keeps_unmade allowed is = record {
      moments = λ bound late. run_made is (λ s. IsTrue (allowed s)) bound;
      written = λ unbroken. written_made cmp meaning old v0.disk.files is next_fits v1.disk.files
          run.has (bytes is.by.tracked.bytes);
      shows = shows_made cmp meaning old v0.disk.files is next_fits v1.disk.files run.has;
    }

    module _ (total : IsTotalOrder cmp) (file : NewFile)
        (level : file.level ≡ output_level cmp (file_range file) old.set.full.added)
        (number : file.number ≡ old.set.next_file) (edit_fits : FitsEdit file)
        (has : HasTable old.set.store cmp (IsTableOf cmp meaning) v1.disk.files
        (record { file = file; entries = imm_entries old.imm }))
        (kept : IsKept (v1.disk.files (table_path old.set.store file.number)))
        (models_disk : Bool) (modelled : IsTrue models_disk) (v2 : Observed)
        (failed now_failed : ℕ) (set : VersionSetValue) where
      -- the edit is logged, or not
      abbrev pub Logs : Result (Unit {0}) Status → Type 0
      Logs result = (manifest : OpenManifest) → old.set.manifest ≡ in_use manifest
          → AppendsEdit models_disk manifest (with_number_given old.set)
          (table_edit old.log.number file) v1 failed result set v2 now_failed

      module _ (is : IsWritten cmp meaning old v0.disk.files) (result : Result (Unit {0}) Status)
          (logs : Logs result) where
        abbrev logged : AppendsEdit models_disk (w1 is).manifest (with_number_given old.set)
            (table_edit old.log.number file) v1 failed result set v2 now_failed
        logged = logs (w1 is).manifest (w1 is).is_in_use

        -- at each moment of both each history is kept
        run_logged : (allowed : Store → Type 0) (bound : ℕ) → old.set.last_sequence ≤ bound
            → Run (Keeps allowed bound v0.disk.files) v0 v2
        run_logged allowed bound late =
            Run-trans (run_made is allowed bound)
            (λ files second. KeepsHistory-trans
            (keeps_made cmp meaning old v0.disk.files is next_fits v1.disk.files run.has allowed
            bound) second)
            (Run-mono
            (λ files passes. keeps_logged cmp meaning old v0.disk.files is next_fits
            v1.disk.files run.has (bytes is.by.tracked.bytes) total file level number edit_fits
            has kept allowed bound late files passes)
            (Run-call modelled (logged.does modelled)))

      -- where its edit isn't logged
      pub keeps_unlogged : (status : Status) → Logs (Err status)
          → KeepsWritten cmp meaning old v0 (record old { set = set }) v2
      keeps_unlogged status logs allowed is = record {
        moments = run_logged is (Err status) logs (λ s. IsTrue (allowed s));
        written = λ unbroken. ⊎_elim
            (λ memory.
            subst (λ f. IsWritten cmp meaning (record old { set = set }) f)
            (sym (memory.2 modelled))
            (subst (λ x. IsWritten cmp meaning (record old { set = x }) v1.disk.files)
            (sym memory.1)
            (written_made cmp meaning old v0.disk.files is next_fits v1.disk.files run.has
            (bytes is.by.tracked.bytes))))
            (λ broke. absurd
            (unbroken.manifest (ap (λ (s : VersionSetValue). s.manifest) broke)))
            l.err;
        shows = shows_failed cmp meaning old v0.disk.files is next_fits v1.disk.files run.has
            (bytes is.by.tracked.bytes) total file level number edit_fits has kept
            v2.disk.files ((l.does modelled).now modelled) set
            (⊎_elim (λ memory. ap (λ (s : VersionSetValue). s.store) memory.1)
            (λ broke. ap (λ (s : VersionSetValue). s.store) broke) l.err)
            (⊎_elim (λ memory. ap (λ (s : VersionSetValue). s.full) memory.1)
            (λ broke. ap (λ (s : VersionSetValue). s.full) broke) l.err);
      }
        where
          l : AppendsEdit models_disk (w1 is).manifest (with_number_given old.set)
              (table_edit old.log.number file) v1 failed (Err status) set v2 now_failed
          l = logs (w1 is).manifest (w1 is).is_in_use

      -- where it is
      pub keeps_tables_made : Logs (Ok tt)
          → KeepsWritten cmp meaning old v0 (record old { set = set; imm = None }) v2
      keeps_tables_made logs allowed is = record {
        moments = run_logged is (Ok tt) logs (λ s. IsTrue (allowed s));
        written = λ unbroken.
            subst (λ x. IsWritten cmp meaning (record old { set = x; imm = None })
            v2.disk.files) (sym l.ok)
            (written_done cmp meaning old v0.disk.files is next_fits v1.disk.files run.has
            (bytes is.by.tracked.bytes) total file level number edit_fits has kept v2.disk.files
            files);
        shows = λ history since s.
            subst (λ x. HasView cmp meaning (record old { set = x; imm = None }) v2.disk.files
            history since) (sym l.ok)
            (shows_done cmp meaning old v0.disk.files is next_fits v1.disk.files run.has
            (bytes is.by.tracked.bytes) total file level number edit_fits has kept v2.disk.files
            files history since s);
      }
        where
          l : AppendsEdit models_disk (w1 is).manifest (with_number_given old.set)
              (table_edit old.log.number file) v1 failed (Ok tt) set v2 now_failed
          l = logs (w1 is).manifest (w1 is).is_in_use

          files : v2.disk.files ≡ with_bytes_kept (w1 is).manifest.path
              (frame (w1 is).manifest.writer
              (edit_record (with_number_given old.set) (table_edit old.log.number file)))
              v1.disk.files
          files = (l.does modelled).ok modelled

-- ---- the ends of the call

-- the set is as it was but for its manifest
module _ {E F C D FP : Type 0} {order : CmpGhosts D} {filters : FilterGhosts FP} (env : Ghosts E F)
    (choices : TableChoices order filters) (old : OpenStoreValue C) (from : E) where
  abbrev pairs : List Pair
  pairs = map internal_pair (imm_entries old.imm)

  abbrev Tables : Result (Unit {0}) Status → OpenStoreValue C → E → Type 0
  Tables result new to = WritesLevel0Table env old from choices pairs result new to

  spares_nothing : SparesRest env.models_disk old (env.observed from) old (env.observed from)
  spares_nothing = record {
    store = refl;
    cmp = refl;
    last = refl;
    kept_to = refl;
    files = λ modelled path other. refl;
    numbers = omega arith;
    tables = λ modelled number fits given. same_or_gone
        ((env.observed from).disk.files (table_path old.set.store number))
        ((env.observed from).disk.files (table_path old.set.store number)) refl;
    kept = spares_kept_none old.set old.kept_to (env.observed from);
    locks = λ modelled. refl;
  }

  -- nothing was done
  pub tables_nothing : (status : Status)
      → FailsToWriteLevel0Table env old from choices pairs from status → Tables (Err status) old from
  tables_nothing status why = record {
    logged = tt;
    none_waits = tt;
    waits = refl;
    current = tt;
    same_current = refl;
    tables = record { live = λ file there. there; files = λ modelled number fits given. refl };
    err = inl (inl refl);
    broken_before = λ is. (refl, refl);
    mem = refl;
    log = refl;
    rest = spares_nothing;
    cause = record { later = omega arith; ok = tt; uncounted = λ excused. refl; cause = inl why };
  }

  module _ (usable : old.set.manifest ≢ broken) (next_fits : old.set.next_file + 1 < 2 ^ 64)
      (mid : E) where
    abbrev Makes : Result FileMetaData Status → Type 0
    Makes result = MakesTable choices pairs env (λ status. ⊥) old.set.store old.set.next_file from
        result mid

    abbrev given_set : VersionSetValue
    given_set = with_number_given old.set

    never_used_up : {P : Type 0} (status : Status) → AreFileNumbersUsedUp old.set.next_file status
        → P
    never_used_up status used = absurd (omega (arith, used.last, next_fits))

    is_new_path : IsFilePath Table old.set.store
        (table_path old.set.store old.set.next_file)
    is_new_path = is_table_path old.set.store old.set.next_file (omega (arith, next_fits))

    -- a path that isn't one of the store's data is another one
    away : (path other : List ℕ) (k : FileType) → IsData k → IsFilePath k old.set.store path
        → (IsDataPath old.set.store other → ⊥) → bytes_eq path other ≡ false
    away path other k is_data its spared = by (bytes_eq path other) refl
      where
        by : (b : Bool) → bytes_eq path other ≡ b → bytes_eq path other ≡ false
        by false e = e
        by true e = absurd (spared
            (k, is_data, subst (IsFilePath k old.set.store) ((bytes_decides path other).0 e) its))

    spares_made : (result : Result FileMetaData Status) → Makes result → IsTrue env.models_disk
        → (path : List ℕ) → (IsDataPath old.set.store path → ⊥)
        → (env.observed mid).disk.files path ≡ (env.observed from).disk.files path
    spares_made result m modelled path spared = (m.run modelled).has path
        (away (table_path old.set.store old.set.next_file) path Table tt is_new_path spared)

    same_made : (result : Result FileMetaData Status) → Makes result → IsTrue env.models_disk
        → SameGiven old.set (env.observed from).disk.files (env.observed mid).disk.files
    same_made result m modelled = same_beside_new old.set old.set.next_file
        (omega (arith, next_fits)) (omega arith) (env.observed from).disk.files
        (env.observed mid).disk.files (m.run modelled).has

    files_kept_made : (result : Result FileMetaData Status) → Makes result
        → SparesKept env.models_disk old.set old.kept_to (env.observed from) (env.observed mid)
    files_kept_made result m modelled = Run-mono
        (kept_by_new old.set old.kept_to Table old.set.next_file (omega (arith, next_fits))
        (omega arith) (env.observed from).disk.files) (m.run modelled)

    -- no table was built
    pub tables_unbuilt : (status : Status) → Makes (Err status)
        → Tables (Err status) (record old { set = given_set }) mid
    tables_unbuilt status m = record {
      logged = tt;
      none_waits = tt;
      waits = refl;
      current = tt;
      same_current = refl;
      tables = record { live = λ file there. there; files = same_made (Err status) m };
      err = inl (inr refl);
      broken_before = λ is. absurd (usable is);
      mem = refl;
      log = refl;
      rest = record {
        store = refl;
        cmp = refl;
        last = refl;
        kept_to = refl;
        files = spares_made (Err status) m;
        numbers = omega arith;
        tables = λ modelled. given_same old.set (env.observed from).disk.files
            (env.observed mid).disk.files (same_made (Err status) m modelled);
        kept = files_kept_made (Err status) m;
        locks = m.locks;
      };
      cause = record {
        later = m.cause.later;
        ok = tt;
        uncounted = uncounted;
        cause = ⊎_elim
            (λ excused. inl (inr (⊎_elim (λ memory. inl memory)
            (λ other. inr (inl (⊎_elim (λ is. is) (λ never. absurd never) other.0, other.1)))
            excused)))
            (λ counted. inr counted) m.cause.cause;
      };
    }
      where
        uncounted : FailsToWriteLevel0Table env old from choices pairs mid status
            → env.failures mid ≡ env.failures from
        uncounted (inl used) = never_used_up status used
        uncounted (inr (inl memory)) = m.cause.uncounted (inl memory)
        uncounted (inr (inr (inl built))) = built.1
        uncounted (inr (inr (inr (inl lost)))) = ⊎_elim
            (λ memory. m.cause.uncounted (inl memory)) (λ missing. missing.2) lost.2
        uncounted (inr (inr (inr (inr broke)))) = absurd (usable broke.0)

    -- ---- the edit was logged, or not

    module _ (level : ℕ) (file : FileMetaData) (m : Makes (Ok file)) (manifest : OpenManifest)
        (used : old.set.manifest ≡ in_use manifest)
        (own : IsTrue env.models_disk → HasOwnManifest old.set) {to : E}
        (locks : SameLocks env.models_disk (env.observed mid) (env.observed to))
        (set : VersionSetValue) where
      abbrev edit : Edit
      edit = table_edit old.log.number (new_file_of (level, file))

      abbrev Logged : Result (Unit {0}) Status → Type 0
      Logged result = AppendsEdit env.models_disk manifest given_set edit (env.observed mid)
          (env.failures mid) result set (env.observed to) (env.failures to)

      same_count : env.failures mid ≡ env.failures from
      same_count = m.cause.ok

      spares_logged : (result : Result (Unit {0}) Status) → Logged result
          → IsTrue env.models_disk → (path : List ℕ) → (IsDataPath old.set.store path → ⊥)
          → (env.observed to).disk.files path ≡ (env.observed from).disk.files path
      spares_logged result l modelled path spared =
          appending_and_syncing manifest.path _ (env.observed mid).disk.files
          (env.observed to).disk.files ((l.does modelled).now modelled) path
          (away manifest.path path Descriptor tt (own modelled manifest used) spared)
          ∙ spares_made (Ok file) m modelled path spared

      pub same_logged : (result : Result (Unit {0}) Status) → Logged result → IsTrue env.models_disk
          → SameGiven old.set (env.observed from).disk.files (env.observed to).disk.files
      same_logged result l modelled = same_then old.set (env.observed from).disk.files
          (env.observed mid).disk.files (env.observed to).disk.files
          (same_made (Ok file) m modelled)
          (same_beside old.set manifest.path Descriptor (own modelled manifest used) (λ e. cc)
          (env.observed mid).disk.files (env.observed to).disk.files
          (appending_and_syncing manifest.path _ (env.observed mid).disk.files
          (env.observed to).disk.files ((l.does modelled).now modelled)))

      kept_logged : (result : Result (Unit {0}) Status) → Logged result
          → SparesKept env.models_disk old.set old.kept_to (env.observed from) (env.observed to)
      kept_logged result l = spares_kept_then old.set old.set refl (omega arith) refl
          (files_kept_made (Ok file) m)
          (λ modelled. Run-mono (loses_appending (IsKeptPath old.set old.kept_to) manifest.path
          (frame manifest.writer (edit_record given_set edit)) (env.observed mid).disk.files)
          (Run-call modelled (l.does modelled)))

      locks_all : SameLocks env.models_disk (env.observed from) (env.observed to)
      locks_all modelled = locks modelled ∙ m.locks modelled

      -- what the manifest's path had before the table was made
      lost_before : (status : Status) → IsLost env.models_disk manifest.path (env.observed mid)
          (env.failures mid) (env.failures to) status
          → IsLost env.models_disk manifest.path (env.observed from) (env.failures from)
          (env.failures to) status
      lost_before status (inl memory) = inl memory
      lost_before status (inr missing) = inr (
        missing.0,
        λ modelled. sym ((m.run modelled).has manifest.path
            (types_apart old.set.store (table_path old.set.store old.set.next_file) manifest.path
            Table Descriptor is_new_path (own modelled manifest used) (λ e. cc)))
            ∙ missing.1 modelled,
        missing.2 ∙ same_count,
      )

      -- why the edit wasn't logged, said of what was there before the table
      unlogged_cause : (status : Status) → Logged (Err status)
          → IsLost env.models_disk manifest.path (env.observed from) (env.failures from)
          (env.failures to) status
          ⊎ (env.failures to ≡ env.failures from + 1)
          ⊎ ((env.failures from ≡ 2 ^ 64 - 1) × (env.failures to ≡ env.failures from))
      unlogged_cause status l = ⊎_elim (λ lost. inl (lost_before status lost))
          (λ counted. inr (subst
          (λ k. (env.failures to ≡ k + 1) ⊎ ((k ≡ 2 ^ 64 - 1) × (env.failures to ≡ k)))
          same_count counted)) l.cause.cause

      -- that breaks a store that was written only where memory was out or the device failed
      pub unlogged_sound : (cmp : List ℕ → List ℕ → Ordering) (Means : Meaning → Type 0)
          (new : OpenStoreValue C) (status : Status) → Logged (Err status)
          → IsSoundCall {T = Unit {0}} env cmp Means old from (Err status) new to
      unlogged_sound cmp Means new status l =
          sound_unlogged env cmp Means old from manifest used status new to
          (goes_on_then env (table_goes_on env m)
          (edit_goes_on env manifest given_set old.log.number (new_file_of (level, file))
          (m.fits level) mid to (Err status) set l)) (unlogged_cause status l)

      -- the edit wasn't logged
      pub tables_unlogged : (status : Status) → Logged (Err status)
          → Tables (Err status) (record old { set = set }) to
      tables_unlogged status l = record {
        logged = tt;
        none_waits = tt;
        waits = refl;
        current = tt;
        same_current = refl;
        tables = record {
          live = λ file there. subst (λ (full : Edit). Contains full.added file)
              (sym (files_left l).0) there;
          files = same_logged (Err status) l;
        };
        err = ⊎_elim (λ memory. inl (inr memory.1)) (λ broke. inr broke) l.err;
        broken_before = λ is. absurd (usable is);
        mem = refl;
        log = refl;
        rest = record {
          store = either (λ s. s.store) refl refl;
          cmp = refl;
          last = either (λ s. s.last_sequence) refl refl;
          kept_to = refl;
          files = spares_logged (Err status) l;
          numbers = rises;
          tables = λ modelled. given_same old.set (env.observed from).disk.files
              (env.observed to).disk.files (same_logged (Err status) l modelled);
          kept = kept_logged (Err status) l;
          locks = locks_all;
        };
        cause = record {
          later = omega (arith, l.cause.later, same_count);
          ok = tt;
          uncounted = λ excused. uncounted excused;
          cause = ⊎_elim (λ lost. inl (inr (inr (inr (inl (manifest, used, lost))))))
              (λ counted. inr counted) (unlogged_cause status l);
        };
      }
        where
          either : {A : Type 0} (part : VersionSetValue → A) → part given_set ≡ part old.set
              → part (record given_set { manifest = broken }) ≡ part old.set
              → part set ≡ part old.set
          either part same broke = ⊎_elim (λ memory. ap part memory.1 ∙ same)
              (λ is. ap part is ∙ broke) l.err

          rises : old.set.next_file ≤ set.next_file
          rises = ⊎_elim
              (λ memory. omega (arith, ap (λ (s : VersionSetValue). s.next_file) memory.1))
              (λ is. omega (arith, ap (λ (s : VersionSetValue). s.next_file) is)) l.err

          uncounted : FailsToWriteLevel0Table env old from choices pairs to status
              → env.failures to ≡ env.failures from
          uncounted (inl numbers) = never_used_up status numbers
          uncounted (inr (inl memory)) = l.cause.uncounted (inl memory) ∙ same_count
          uncounted (inr (inr (inl built))) = built.1
          uncounted (inr (inr (inr (inl lost)))) = ⊎_elim
              (λ memory. l.cause.uncounted (inl memory) ∙ same_count) (λ missing. missing.2) lost.2
          uncounted (inr (inr (inr (inr broke)))) = absurd (usable broke.0)

      -- it was: `next` is the version then
      pub tables_logged : AreNumbersGiven old.set old.set.full.added → (next : VersionValue C)
          → IsVersionAfter choices.format.order (table_edit old.log.number (new_file_of (level, file))) old.current next → level ≡ output_level choices.format.order (file_range (new_file_of (level, file)))
          old.set.full.added → Logged (Ok tt)
          → Tables (Ok tt) (record old { set = set; current = next; imm = None }) to
      tables_logged given next gains picked l = record {
        logged = record {
          manifest = manifest;
          was_in_use = used;
          file = new_file_of (level, file);
          level = picked;
          number = m.number_is.0;
          set = l.ok;
        };
        none_waits = refl;
        waits = tt;
        current = (new_file_of (level, file), gains);
        same_current = tt;
        tables = record { live = still_live; files = same_logged (Ok tt) l };
        err = tt;
        broken_before = λ is. absurd (usable is);
        mem = refl;
        log = refl;
        rest = record {
          store = ap (λ (s : VersionSetValue). s.store) l.ok;
          cmp = refl;
          last = ap (λ (s : VersionSetValue). s.last_sequence) l.ok;
          kept_to = refl;
          files = spares_logged (Ok tt) l;
          numbers = omega (arith, ap (λ (s : VersionSetValue). s.next_file) l.ok);
          tables = λ modelled. given_same old.set (env.observed from).disk.files
              (env.observed to).disk.files (same_logged (Ok tt) l modelled);
          kept = kept_logged (Ok tt) l;
          locks = locks_all;
        };
        cause = record {
          later = omega (arith, l.cause.later, same_count);
          ok = l.cause.ok ∙ same_count;
          uncounted = tt;
          cause = tt;
        };
      }
        where
          still_live : (live : NewFile) → Contains old.set.full.added live
              → Contains set.full.added live
          still_live live there =
              let it = new_file_of (level, file) in
              let lower = lower_stay it old.set.full.added
              (subst (λ n. All (λ (one : NewFile). one.number < n) old.set.full.added)
              (sym m.number_is.0) given) in
              subst (λ files. Contains files live)
              (sym (ap (λ (s : VersionSetValue). s.full.added) l.ok
              ∙ ap (λ files. files ++ it ∷ []) lower))
              (Contains-append_left old.set.full.added (it ∷ []) live there)

-- ---- what the call keeps, by what it made

module _ {E F C D FP : Type 0} {order : CmpGhosts D} {filters : FilterGhosts FP} (env : Ghosts E F)
    (choices : TableChoices order filters) (old : OpenStoreValue C) (from mid : E)
    (level : ℕ) (file : FileMetaData) (some : imm_entries old.imm ≢ [])
    (each : Each IsInternalPair (map internal_pair (imm_entries old.imm))
    (imm_entries old.imm))
    (m : MakesTable choices (map internal_pair (imm_entries old.imm)) env (λ status. ⊥)
    old.set.store old.set.next_file from (Ok file) mid)
    (modelled : IsTrue env.models_disk) (cmp : List ℕ → List ℕ → Ordering)
    (same : choices.format.order ≡ cmp) (meaning : Meaning)
    (agrees : Agrees choices.format meaning) where
  abbrev made_table : LiveTable
  made_table = record {
    file = new_file_of (level, file);
    entries = imm_entries old.imm;
  }

  -- the table is there by what names and ids mean
  pub has_made : HasTable old.set.store cmp (IsTableOf cmp meaning) (env.observed mid).disk.files
      made_table
  has_made =
      let f = choices.format in
      let known : IsMeaningOf meaning.filters f.policy_name (λ key. f.matches (user_part key)) =
      subst (λ (o : Option (List ℕ → List ℕ → Bool)).
      IfSome o (λ known. known ≡ (λ key. f.matches (user_part key)))) (sym agrees.filters) refl in
      let here = m.has (some_pairs (imm_entries old.imm) some) modelled meaning.filters level
      (imm_entries old.imm) known each in
      subst (λ o. HasTable old.set.store o (IsTableOf o meaning) (env.observed mid).disk.files
      made_table) same
      (held_tables_by_more (Decodes f.codings) (Decodes meaning.codings)
      (agreed_decode_more f meaning agrees) old.set.store f.order meaning.filters
      (env.observed mid).disk.files made_table here)

  -- all of it is kept
  kept_made : IsKept ((env.observed mid).disk.files (table_path old.set.store file.num))
  kept_made = subst IsKept
      (sym ((m.made (some_pairs (imm_entries old.imm) some)).kept modelled)) refl

  module _ (next_fits : old.set.next_file + 1 < 2 ^ 64) (total : IsTotalOrder cmp)
      (picked : level ≡ output_level cmp (file_range (new_file_of (level, file)))
      old.set.full.added) (to : E) (set : VersionSetValue) where
    abbrev LogsEdit : Result (Unit {0}) Status → Type 0
    LogsEdit result = (manifest : OpenManifest) → old.set.manifest ≡ in_use manifest
        → AppendsEdit env.models_disk manifest (with_number_given old.set)
        (table_edit old.log.number (new_file_of (level, file))) (env.observed mid) (env.failures mid)
        result set (env.observed to) (env.failures to)

    -- an edit that wasn't logged
    pub keeps_failed : (status : Status) → LogsEdit (Err status)
        → KeepsWritten cmp meaning old (env.observed from) (record old { set = set })
        (env.observed to)
    keeps_failed status logs =
        keeps_unlogged cmp meaning old next_fits (env.observed from) (env.observed mid)
        (m.run modelled) (m.bytes modelled) total (new_file_of (level, file)) picked m.number_is.0
        (m.fits level) has_made kept_made env.models_disk modelled (env.observed to)
        (env.failures mid) (env.failures to) set status logs

    -- one that was
    pub keeps_done : LogsEdit (Ok tt)
        → KeepsWritten cmp meaning old (env.observed from)
        (record old { set = set; imm = None }) (env.observed to)
    keeps_done logs =
        keeps_tables_made cmp meaning old next_fits (env.observed from) (env.observed mid)
        (m.run modelled) (m.bytes modelled) total (new_file_of (level, file)) picked m.number_is.0
        (m.fits level) has_made kept_made env.models_disk modelled (env.observed to)
        (env.failures mid) (env.failures to) set logs

-- ---- the files by levels

module _ {C : Type 0} (next : VersionValue C) where
  -- the store with another version
  abbrev pub with_current : OpenStoreValue C → OpenStoreValue C
  with_current value = record value { current = next }

  -- what is kept doesn't depend on it
  pub keeps_with_current : (cmp : List ℕ → List ℕ → Ordering) (meaning : Meaning)
      (old : OpenStoreValue C) (v0 : Observed) (new : OpenStoreValue C) (v1 : Observed)
      → KeepsWritten cmp meaning old v0 new v1
      → KeepsWritten cmp meaning old v0 (with_current new) v1
  keeps_with_current cmp meaning old v0 new v1 keeps allowed is =
      let kept : KeepsStore cmp meaning (λ store. IsTrue (allowed store)) old v0 new v1 =
      keeps allowed is in
      record {
        moments = kept.moments;
        written = λ unbroken.
            let w = kept.written (record { manifest = unbroken.manifest; log = unbroken.log }) in
            record { edits = w.edits; by = w.by; writer = w.writer };
        shows = λ history since shown.
            let s = kept.shows history since shown in
            record {
              tables = s.tables;
              has = record { files_are = s.has.files_are; each = s.has.each };
              shows = s.shows;
            };
      }
