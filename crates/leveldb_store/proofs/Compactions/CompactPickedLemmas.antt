-- One compaction of an open store, and the deletions after it.
use Rattle.std.proofs.Common.{◌≡◌, ◌∙◌, ◌++◌, ◌⊎◌, inl, inr, ⊎_elim, ℕ, List, Ok, Err, Result, ap, arith, refl, subst, sym}
use Rattle.std.specs.Prelude.{Contains, IsTrue, OnErr, OnOk}
use Rattle.std.proofs.lemmas.List.Elements.{Contains-append_cases, Contains-append_left, Contains-append_right}
use Rattle.std.specs.declared.cmp.Ordering.{Ordering}
use Rattle.leveldb_base.specs.History.{Entry}
use Rattle.leveldb_base.specs.declared.cmp.Cmp.{Ghosts as CmpGhosts}
use Rattle.leveldb_base.specs.declared.cmp.internal.InternalKeyCmp.{InternalKeyCmp}
use Rattle.leveldb_base.specs.declared.error.Status.{Status}
use Rattle.leveldb_env.specs.declared.env.Env.{Ghosts}
use Rattle.leveldb_env.specs.declared.filter.FilterPolicy.{Ghosts as FilterGhosts}
use Rattle.leveldb_files.proofs.Stores.OneStoreLemmas.{flat_in, in_flat}
use Rattle.leveldb_version_set.specs.Compactions.Compaction.{Compacts, MayCompact}
use Rattle.leveldb_files.specs.Stores.Format.{Agrees, Meaning}
use Rattle.leveldb_files.specs.Levels.Levels.{LiveTable, table_entries}
use Rattle.leveldb_version_set.specs.Compactions.Picking.{CompactionValue}
use Rattle.leveldb_version.specs.Tables.TableCache.{TableOptions, files_at}
use Rattle.leveldb_version.specs.Versions.Version.{new_files_of}
use Rattle.leveldb_files.specs.Edits.Edit.{Edit, NewFile}
use Rattle.leveldb_version_set.specs.Sets.VersionSetValue.{VersionSetValue}
use Rattle.leveldb_version.specs.declared.table_cache.TableCache.{TableCache}
use Rattle.leveldb_store.proofs.Keeping.NoNewEntriesLemmas.{adds_none_removed}
use Rattle.leveldb_store.proofs.Keeping.OpenTablesLemmas.{open_after_removal}
use Rattle.leveldb_store.proofs.Writing.RoomLemmas.{step_of_tidying}
use Rattle.leveldb_store.proofs.Keeping.SoundLemmas.{sound_ok, written_manifest}
use Rattle.leveldb_store.proofs.Keeping.WrittenFromLemmas.{keeps_from}
use Rattle.leveldb_store.specs.Tables.BuildTable.{TableChoices}
use Rattle.leveldb_store.specs.Compactions.Compact.{CompactsInFull, CompactsStore, CompactsTables, FailsToCompact, FailsToMerge, GivesNumbersOrBreaks, LogsCompaction}
use Rattle.leveldb_store.specs.Keeping.OpenStore.{IsUnbroken, OpenStoreValue}
use Rattle.leveldb_store.specs.Keeping.OpenTables.{ClosesObsolete}
use Rattle.leveldb_store.specs.Reading.Read.{HasOpenTables, in_memory}
use Rattle.leveldb_store.specs.Writing.Room.{FailsFor, TidiesUp}
use Rattle.leveldb_store.specs.Keeping.SoundCall.{BytesAreAppended, TimeGoesOn}
use Rattle.leveldb_store.specs.Writing.Switch.{IsManifestLost}
use Rattle.leveldb_store.specs.Keeping.Written.{IsWritten}
use Rattle.leveldb_store.specs.Keeping.WrittenFrom.{AddsNoEntry}

-- ---- the files

-- a compaction that fails leaves the files
pub failed_keeps_files : (old new : VersionSetValue) → GivesNumbersOrBreaks old new
    → new.full ≡ old.full
failed_keeps_files old new (inl gives) = ap (λ (set : VersionSetValue). set.full) gives.set
failed_keeps_files old new (inr broke) = ap (λ (set : VersionSetValue). set.full) broke.2
    ∙ ap (λ (set : VersionSetValue). set.full) broke.1.set

-- ---- one compaction

-- no entry is new: what its outputs have its inputs had
compacted_entries : {cmp : List ℕ → List ℕ → Ordering} {smallest level : ℕ}
    {before inputs outputs after : List LiveTable}
    → Compacts cmp smallest level before inputs outputs after → (entry : Entry)
    → Contains (table_entries after) entry → Contains (table_entries before) entry
compacted_entries {before = before} {inputs = inputs} {outputs = outputs} {after = after} compacts
    entry c =
    let t = in_flat (λ (x : LiveTable). x.entries) after entry c in
    ⊎_elim
    (λ (made : Contains outputs t.0).
    let was = compacts.drops.made entry
    (flat_in (λ (x : LiveTable). x.entries) outputs t.0 entry made t.2) in
    let u = in_flat (λ (x : LiveTable). x.entries) inputs entry was in
    flat_in (λ (x : LiveTable). x.entries) before u.0 entry (compacts.there u.0 u.1) u.2)
    (λ left. flat_in (λ (x : LiveTable). x.entries) before t.0 entry left.0 t.2)
    ((compacts.after_is t.0).0 t.1)

module _ {E F C FP D P : Type 0} (order : CmpGhosts (InternalKeyCmp C)) (env : Ghosts E F)
    (by : TableOptions C FP) (old : OpenStoreValue C) (from : E) (tables : TableCache E C FP F)
    {keys : CmpGhosts D} {filters : FilterGhosts P} (choices : TableChoices keys filters) where
  none_new_once : (smallest : ℕ) (it : CompactionValue C) (result : Result (Unit {0}) Status)
      (new : OpenStoreValue C) (to : E)
      → new ≡ record old { set = new.set; current = new.current }
      → OnOk result ((edit : LogsCompaction by.format.order it old new)
      × CompactsInFull order env by old from tables choices smallest it new edit to)
      → OnOk result (HasOpenTables order env by old from tables → (meaning : Meaning)
      → Agrees by.format meaning → IsWritten by.format.order meaning old (files_at env from)
      → AddsNoEntry by.format.order meaning old (files_at env from) new (files_at env to))
  none_new_once smallest it (Ok unit) new to memory logged =
      λ has meaning agrees w live has_live.
      let full = logged.1 meaning live (record {
        has_open = has;
        agrees = agrees;
        written = w;
        has_live = has_live;
      }) in
      let same : in_memory new ≡ in_memory old = ap in_memory memory in (
        full.2,
        full.3,
        λ entry c. ⊎_elim
            (λ (here : Contains (in_memory new) entry).
            Contains-append_left (in_memory old) (table_entries live) entry
            (subst (λ es. Contains es entry) same here))
            (λ (there : Contains (table_entries full.2) entry).
            Contains-append_right (in_memory old) (table_entries live) entry
            (compacted_entries full.4.compaction.compacts entry there))
            (Contains-append_cases (in_memory new) (table_entries full.2) entry c),
      )
  none_new_once smallest it (Err status) new to memory logged = tt

module _ {E F C FP D P : Type 0} {order : CmpGhosts (InternalKeyCmp C)} {env : Ghosts E F}
    {by : TableOptions C FP} {old : OpenStoreValue C} {from : E} {tables : TableCache E C FP F}
    {keys : CmpGhosts D} {filters : FilterGhosts P} {choices : TableChoices keys filters}
    (unbroken : IsUnbroken old) where
  -- why it fails
  fails_once : (new : OpenStoreValue C) (to : E) (status : Status)
      → FailsToCompact order env by old from tables choices new to status
      → FailsToMerge order env by old from tables choices new status
  fails_once new to status (inl unmerged) = unmerged
  fails_once new to status (inr (inl lost)) = ⊎_elim
      (λ memory. inl memory)
      (λ missing. inr (inr (inr (record {
        fault = inl missing.0.code;
        lacks = λ meaning live has. absurd (written_manifest by.format.order meaning old
            (files_at env from) has.written lost.0 lost.1 (missing.1 has.has_open.modelled));
      }))))
      lost.2
  fails_once new to status (inr (inr broke)) = absurd (unbroken.manifest broke.0)

  cause_once : (result : Result (Unit {0}) Status) (new : OpenStoreValue C) (to : E)
      → FailsFor (FailsToCompact order env by old from tables choices new to) (env.failures from)
      (env.failures to) result
      → FailsFor (FailsToMerge order env by old from tables choices new)
      (env.failures from) (env.failures to) result
  cause_once (Ok unit) new to cause = record { later = cause.later; cause = tt }
  cause_once (Err status) new to cause = record {
    later = cause.later;
    cause = ⊎_elim (λ excused. inl (fails_once new to status excused)) (λ counted. inr counted)
        cause.cause;
  }

  -- what one compaction keeps
  pub compacted_once : {smallest : ℕ} {it : CompactionValue C} {result : Result (Unit {0}) Status}
      {new : OpenStoreValue C} {to : E} {now : TableCache E C FP F}
      → CompactsStore order env by old from tables choices smallest it result new to now
      → CompactsTables order env by old from tables choices smallest result new to now
  compacted_once {smallest} {it} {result} {new} {to} one = record {
    keeps = record {
      keeps = one.keeps;
      usable = one.usable;
      rest = one.rest;
      still_open = one.still_open;
      none_new = none_new_once order env by old from tables choices smallest it result new to
          one.memory one.logged;
      sound = record {
        time = one.sound.time;
        bytes = one.sound.bytes;
        breaks = λ modelled meaning means w. one.sound.breaks modelled meaning means.1 w;
      };
      cause = cause_once result new to one.cause;
    };
    memory = one.memory;
  }

-- ---- deletions

module _ {E F C FP D P : Type 0} (order : CmpGhosts (InternalKeyCmp C)) (env : Ghosts E F)
    (by : TableOptions C FP) {keys : CmpGhosts D} {filters : FilterGhosts P}
    (choices : TableChoices keys filters) (smallest : ℕ) (old : OpenStoreValue C)
    (unbroken : IsUnbroken old) (from to : E) (tables now : TableCache E C FP F) where
  -- what deletions of obsolete files keep
  pub compacted_tidied : TidiesUp env by.format.order old from to
      → ClosesObsolete env old.set from tables to now → TimeGoesOn env from to
      → BytesAreAppended env from to
      → CompactsTables order env by old from tables choices smallest (Ok tt) old to now
  compacted_tidied tidied closes time bytes = record {
    keeps = record {
      keeps = λ has meaning agrees. keeps_from by.format.order meaning smallest old
          (env.observed from) old (env.observed to) (tidied.keeps has.modelled meaning);
      usable = unbroken;
      rest = (step_of_tidying env by.format.order by.format {P = λ status. ⊥} old from to unbroken
          tidied time bytes).rest;
      still_open = λ has. open_after_removal env by old.set old.kept_to (files_at env from)
          (files_at env to)
          (tidied.run has.modelled).has tables now closes.closes has.are;
      none_new = λ has meaning agrees w. adds_none_removed by.format.order meaning old
          (files_at env from) (files_at env to) w (tidied.run has.modelled).has;
      sound = sound_ok env by.format.order
          (λ meaning. HasOpenTables order env by old from tables × Agrees by.format meaning) old
          from tt old to (time, bytes);
      cause = record { later = tidied.later; cause = tt };
    };
    memory = refl;
  }
