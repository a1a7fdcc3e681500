-- What an opening that is refused under its lock leaves, before it gives the lock back: its store
-- wasn't opened, or the compaction at its end broke it.
use Rattle.std.proofs.Common.{◌≡◌, ◌∙◌, ◌⊎◌, ◌≤◌, ⊎_elim, inl, inr, Bool, List, ℕ, Ok, Err, IsTrue, arith, refl, subst, sym}
use Rattle.leveldb_base.specs.declared.cmp.Cmp.{Ghosts as CmpGhosts}
use Rattle.leveldb_base.specs.declared.cmp.internal.InternalKeyCmp.{InternalKeyCmp}
use Rattle.leveldb_base.specs.declared.error.Status.{Status}
use Rattle.leveldb_env.specs.Env.{FilesUnchanged, HasCause, Run, SameLocks}
use Rattle.leveldb_env.specs.declared.env.Env.{Ghosts}
use Rattle.leveldb_env.specs.declared.filter.FilterPolicy.{Ghosts as FilterGhosts}
use Rattle.leveldb_files.specs.Stores.Contents.{Contents}
use Rattle.leveldb_files.specs.Stores.Format.{Agrees, Format, IsTableOf, Meaning}
use Rattle.leveldb_files.specs.Steps.StoreSteps.{KeepsHistory}
use Rattle.leveldb_version.specs.Tables.TableCache.{TableOptions}
use Rattle.leveldb_version.specs.declared.table_cache.TableCache.{TableCache}
use Rattle.leveldb_store.proofs.Keeping.KeptBytesLemmas.{meanwhile_then, table_numbers_below}
use Rattle.leveldb_store.proofs.Keeping.KeptFilesLemmas.{keeping, opens_keeping}
use Rattle.leveldb_store.proofs.Openings.OpeningFrontLemmas.{keeps_found_then}
use Rattle.leveldb_store.proofs.Keeping.SoundLemmas.{failed_once}
use Rattle.leveldb_store.specs.Tables.BuildTable.{TableChoices}
use Rattle.leveldb_store.specs.Compactions.Compact.{CompactsTables}
use Rattle.leveldb_store.specs.Openings.EndsOpening.{EndsOpening}
use Rattle.leveldb_store.specs.Keeping.KeptBytes.{LosesNoBytesMeanwhile, LosesNothing, NewTablesLoseNothing, TableNumbersAreBelow}
use Rattle.leveldb_store.specs.Keeping.OpenStore.{OpenStoreValue}
use Rattle.leveldb_store.specs.Keeping.OpenTables.{AreOpenTablesOf}
use Rattle.leveldb_store.specs.Openings.OpensStore.{FailsToOpen, IsForbidden, IsSound, KeepsFound, LacksCurrent, LacksUsableEdits, OpensStore, SameBesideOwn}
use Rattle.leveldb_store.specs.Writing.Room.{FailsFor, HasFailed}
use Rattle.leveldb_store.specs.Keeping.SoundCall.{BreaksForCause, BytesAreAppended, TimeGoesOn}
use Rattle.leveldb_store.specs.Writing.Switch.{IsManifestLost}
use Rattle.leveldb_store.specs.Keeping.Written.{IsDataPath}
use Rattle.leveldb_store.specs.Keeping.WrittenFrom.{KeepsWrittenFrom}

-- What such an opening leaves since its lock was taken.
pub record LeavesUnopened {E F : Type 0} (env : Ghosts E F) (store : List ℕ) (format : Format)
    (create_if_missing error_if_exists : Bool) (from to : E) : Type 0 where
  -- of files that are sound each history is kept
  pub keeps : IsTrue env.models_disk → (meaning : Meaning) → Agrees format meaning
      → (contents : Contents)
      → IsSound format.order meaning store (env.observed from).disk.files contents
      → KeepsFound format.order meaning store format.order_name contents (env.observed from)
      (env.observed to)
  -- where it looks no further, all files stay
  pub stays : IsTrue env.models_disk
      → IsForbidden store create_if_missing error_if_exists (env.observed from).disk.files
      ⊎ LacksCurrent store (env.observed from).disk.files
      ⊎ LacksUsableEdits store format (env.observed from).disk.files
      → Run (FilesUnchanged (env.observed from).disk.files) (env.observed from) (env.observed to)
  pub others : IsTrue env.models_disk
      → SameBesideOwn store (env.observed from).disk.files (env.observed to).disk.files
  -- of a store that was there no file loses a byte, whatever the files are
  pub kept : LosesNothing env store from to
  pub time : TimeGoesOn env from to
  pub locks : SameLocks env.models_disk (env.observed from) (env.observed to)

module _ {E F C : Type 0} (env : Ghosts E F) (store : List ℕ) (format : Format)
    (create_if_missing error_if_exists : Bool) (from : E) (limit : ℕ) where
  -- one whose store wasn't opened
  pub left_unopened : (status : Status) (to : E)
      → OpensStore env store format create_if_missing error_if_exists from {C = C} limit
      (Err status) to
      → LeavesUnopened env store format create_if_missing error_if_exists from to
  left_unopened status to opens = record {
    keeps = opens.keeps;
    stays = λ modelled looks. (opens.stays modelled looks).1;
    others = λ modelled. (opens.others modelled).has;
    kept = opens.kept;
    time = λ modelled. (opens.others modelled).time.later;
    locks = opens.locks;
  }

-- its cause
pub unopened_cause : {T : Type 0} {Excused : Status → Type 0} {before after : ℕ} {status : Status}
    → HasCause {T = T} Excused before after (Err status)
    → FailsFor {T = T} Excused before after (Err status)
unopened_cause {before = before} {after = after} cause = record {
  later = cause.later;
  cause = ⊎_elim (λ excused. inl excused) (λ counted. inr (failed_once before after counted))
      cause.cause;
}

-- ---- the store broke

module _ {E F C FP D P : Type 0} (order : CmpGhosts (InternalKeyCmp C)) (env : Ghosts E F)
    (by : TableOptions C FP) {keys : CmpGhosts D} {filters : FilterGhosts P}
    (choices : TableChoices keys filters) (store : List ℕ) (format : Format)
    (create_if_missing error_if_exists : Bool) (taken opened to : E) (limit : ℕ)
    (first : OpenStoreValue C)
    (opens_first : OpensStore env store format create_if_missing error_if_exists taken limit
    (Ok first) opened)
    (opens_count : env.failures opened ≡ env.failures taken) (same : by.format ≡ format)
    (cache : TableCache E C FP F)
    (none_open : IsTrue env.models_disk
    → AreOpenTablesOf order env by first.set (env.observed opened).disk.files cache)
    (e : Status) (new : OpenStoreValue C) (now : TableCache E C FP F)
    (ends : EndsOpening order env by first opened cache choices (Err e) new to now) where
  abbrev value : OpenStoreValue C
  value = keeping first new.kept_to

  -- nothing was set aside
  compacts : CompactsTables order env by value opened cache choices first.set.last_sequence
      ends.first.compacted new to now
  compacts = subst (λ (s : E). CompactsTables order env by value opened cache choices
      first.set.last_sequence ends.first.compacted new s now) (sym ends.unmoved) ends.first.compacts

  opens : OpensStore env store format create_if_missing error_if_exists taken limit (Ok value) opened
  opens = opens_keeping first new.kept_to env store format create_if_missing error_if_exists
      taken limit opened opens_first

  keeps_in : IsTrue env.models_disk → (meaning : Meaning) → Agrees format meaning
      → KeepsWrittenFrom format.order meaning first.set.last_sequence value (env.observed opened) new
      (env.observed to)
  keeps_in modelled meaning agrees = subst (λ (f : Format). KeepsWrittenFrom f.order meaning
      first.set.last_sequence value (env.observed opened) new (env.observed to)) same
      (compacts.keeps.keeps (record { modelled = modelled; are = none_open modelled }) meaning
      (subst (λ (f : Format). Agrees f meaning) (sym same) agrees))

  found_kept : IsTrue env.models_disk → (meaning : Meaning) → Agrees format meaning
      → (contents : Contents)
      → IsSound format.order meaning store (env.observed taken).disk.files contents
      → KeepsFound format.order meaning store format.order_name contents (env.observed opened)
      (env.observed to)
  found_kept modelled meaning agrees contents sound allowed there may bound reached =
      let is = opens.opens modelled meaning agrees contents sound in
      subst (λ (s : List ℕ). Run (KeepsHistory s format.order (IsTableOf format.order meaning)
      (λ it. IsTrue (allowed it)) bound (env.observed opened).disk.files) (env.observed opened)
      (env.observed to)) opens.path
      ((keeps_in modelled meaning agrees allowed is.written).moments bound
      (subst (λ n. n ≤ bound) (sym is.last) reached))

  kept : NewTablesLoseNothing env first.set.store opened to first.set.next_file
  kept = subst (λ (s : E). NewTablesLoseNothing env first.set.store opened s first.set.next_file)
      (sym ends.unmoved) ends.first.kept

  -- the compaction loses no byte, whose tables have new numbers
  nothing_lost : LosesNothing env store taken to
  nothing_lost modelled there = meanwhile_then env store (opens_first.kept modelled there)
      (subst (λ (s : List ℕ). LosesNoBytesMeanwhile env s opened to) opens_first.path
      (kept modelled (subst (λ (s : List ℕ).
      TableNumbersAreBelow s (env.observed opened).disk.files first.set.next_file)
      (sym opens_first.path) (table_numbers_below store (env.observed opened).disk.files
      first.set.next_file (opens_first.numbers modelled)))))

  pub left_broken : LeavesUnopened env store format create_if_missing error_if_exists taken to
  left_broken = record {
    keeps = λ modelled meaning agrees contents sound.
        keeps_found_then store format.order_name format.order meaning contents contents
        (env.observed taken) (env.observed opened) (env.observed to) (inl refl)
        (opens.keeps modelled meaning agrees contents sound)
        (found_kept modelled meaning agrees contents sound);
    stays = λ modelled looks. absurd (opens.stays modelled looks).0;
    others = λ modelled path foreign. compacts.keeps.rest.files modelled path
        (λ theirs. foreign (inl (subst (λ (s : List ℕ). IsDataPath s path) opens.path theirs)))
        ∙ (opens.others modelled).has path foreign;
    kept = nothing_lost;
    time = λ modelled.
        let before = (opens.others modelled).time.later in
        let after = compacts.keeps.sound.time modelled in omega (arith, before, after);
    locks = λ modelled. compacts.keeps.rest.locks modelled ∙ opens.locks modelled;
  }

  -- what was appended are bytes
  pub broken_bytes : BytesAreAppended env taken opened → BytesAreAppended env taken to
  broken_bytes go modelled bytes = compacts.keeps.sound.bytes modelled (go modelled bytes)

  breaks : BreaksForCause {T = Unit {0}} env first opened (Err e) new to
  breaks = subst (λ (s : E). BreaksForCause {T = Unit {0}} env first opened (Err e) new s)
      (sym ends.unmoved) ends.first.breaks

  -- A manifest that is lost was there, where the disk is modelled.
  lost_fails : {OtherC OtherP : Type 0} {other_keys : CmpGhosts OtherC}
      {other_filters : FilterGhosts OtherP}
      (asked : TableChoices other_keys other_filters) → IsManifestLost env first opened to e
      → FailsToOpen env store asked create_if_missing error_if_exists taken to e
  lost_fails asked (inl lost) = ⊎_elim (λ memory. inl memory)
      (λ missing. inr (
        inl (inr (inr (inr (inl (
          missing.0.code,
          λ modelled. absurd (opens_first.manifest modelled lost.0 lost.1 (missing.1 modelled)),
        ))))),
        missing.2 ∙ opens_count,
      ))
      lost.2
  lost_fails asked (inr broke) = absurd (opens_first.unbroken.manifest broke.0)

  -- why it broke, said of the opening
  pub broken_cause : {OtherC OtherP : Type 0} {other_keys : CmpGhosts OtherC}
      {other_filters : FilterGhosts OtherP}
      (asked : TableChoices other_keys other_filters)
      → FailsFor {T = OpenStoreValue C}
      (FailsToOpen env store asked create_if_missing error_if_exists taken to)
      (env.failures taken) (env.failures to) (Err e)
  broken_cause asked = record {
    later = omega (arith, opens_count, compacts.keeps.cause.later);
    cause = ⊎_elim (λ usable. absurd (ends.first.broken.0 usable))
        (λ other. ⊎_elim (λ lost. inl (lost_fails asked lost))
        (λ counted. inr (subst (λ n. HasFailed n (env.failures to)) opens_count counted)) other)
        (breaks opens_first.unbroken);
  }
