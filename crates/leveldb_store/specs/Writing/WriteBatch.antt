-- What writing a batch to an open store returns and leaves of memory and files, and why it fails.
use Rattle.std.specs.Prelude.{true, ◌≡◌, ◌+◌, ◌⊎◌, ℕ, Bool, List, [], ◌∷◌, ◌++◌, length, Option, None, Some, Result, IfErr, OnErr, OnOk, IsTrue}
use Rattle.std.specs.declared.cmp.Ordering.{Ordering}
use Rattle.leveldb_base.specs.History.{Entry, History, Item, count_of, placed, with_batch}
use Rattle.leveldb_base.specs.declared.error.Status.{Status}
use Rattle.leveldb_env.specs.Env.{Files, HasCause, Observed, Run, SameBut, SameLocks}
use Rattle.leveldb_env.specs.declared.env.Env.{Ghosts}
use Rattle.leveldb_mem.specs.MemTable.{FailsToPrepare, IsUnion, bytes_in}
use Rattle.leveldb_files.specs.Stores.Contents.{Store}
use Rattle.leveldb_files.specs.Histories.Holds.{Holds, IsSafe}
use Rattle.leveldb_files.specs.Stores.Store.{IsStore}
use Rattle.leveldb_files.specs.Stores.Format.{IsTableOf, Meaning}
use Rattle.leveldb_store.specs.Keeping.KeptBytes.{LosesNoBytesAt}
use Rattle.leveldb_store.specs.Keeping.OpenStore.{IsUnbroken, OpenStoreValue}
use Rattle.leveldb_store.specs.Writing.Write.{AreNumbersUsedUp, HasNumbers, IsLogLost, open_log_path}
use Rattle.leveldb_store.specs.Keeping.Written.{IsWritten, KeepsShown}

-- the batch that these items make after a store's last entry
abbrev pub next_batch : {C : Type 0} → OpenStoreValue C → List Item → List Entry
next_batch value items = placed (value.set.last_sequence + 1) items

-- why no call of the device is made for a batch of these items: the numbers are used up, the
-- memtable has no room, or memory is out
abbrev pub IsNotBegun : {C : Type 0} → OpenStoreValue C → List Item → Status → Type 0
IsNotBegun value items status = AreNumbersUsedUp value.set.last_sequence (length items) status
    ⊎ FailsToPrepare value.mem (length items) (bytes_in items) status

-- ---- histories

-- `cmp` is the order of user keys, `meaning` what names and ids in the files mean, and `allowed`
-- which store may be there.
module _ {C : Type 0} (cmp : List ℕ → List ℕ → Ordering) (meaning : Meaning)
    (allowed : Store → Type 0) where
  -- the files hold the history up to the store's last number, so many batches of it durable, and
  -- perhaps one more batch is pending
  abbrev pub HoldsBatches : OpenStoreValue C → Files → History → ℕ → Option (List Entry) → Type 0
  HoldsBatches value files history durable pending =
      Holds value.set.store (IsStore value.set.store cmp (IsTableOf cmp meaning)) allowed files
      history value.set.last_sequence durable pending

  -- at each moment a crash leaves a prefix of the history and of what is pending, with so many
  -- batches at least, and no number past theirs
  abbrev pub SparesBatches : OpenStoreValue C → History → ℕ → Option (List Entry) → Observed
      → Observed → Type 0
  SparesBatches value history durable pending =
      Run (IsSafe value.set.store (IsStore value.set.store cmp (IsTableOf cmp meaning)) allowed
      (value.set.last_sequence + count_of pending) durable (with_batch history pending))

  -- a store that is written and holds this history, so many batches of it durable
  pub record IsOf (value : OpenStoreValue C) (files : Files) (history : History) (durable : ℕ)
      : Type 0 where
    pub written : IsWritten cmp meaning value files
    pub holds : HoldsBatches value files history durable None

  -- The batch is the history's last, and durable with all before it if that is asked for. What was
  -- shown is shown with it.
  pub record AddsBatch (old : OpenStoreValue C) (from : Observed) (history : History) (durable : ℕ)
      (batch : List Entry) (sync : Bool) (new : OpenStoreValue C) (to : Observed) : Type 0 where
    pub durable_now : ℕ
    pub grows : (durable_now ≡ durable) ⊎ (durable_now ≡ length (history ++ batch ∷ []))
    pub synced : IsTrue sync → durable_now ≡ length (history ++ batch ∷ [])
    pub is_of : IsOf new to.disk.files (history ++ batch ∷ []) durable_now
    pub shows : KeepsShown cmp meaning old from.disk.files history new to.disk.files
        (history ++ batch ∷ [])
    pub moments : SparesBatches new (history ++ batch ∷ []) durable None from to

  -- all batches are durable, and what was shown is shown
  pub record MakesDurable (old : OpenStoreValue C) (from : Observed) (history : History)
      (durable : ℕ) (new : OpenStoreValue C) (to : Observed) : Type 0 where
    pub is_of : IsOf new to.disk.files history (length history)
    pub shows : KeepsShown cmp meaning old from.disk.files history new to.disk.files history
    pub moments : SparesBatches new history durable None from to

  -- What a call leaves that adds no batch to the history, though one may be pending. The store is
  -- written on, unless the call broke it, and shows in either case what it showed.
  pub record LeavesHistory (old : OpenStoreValue C) (from : Observed) (history : History)
      (durable : ℕ) (pending : Option (List Entry)) (new : OpenStoreValue C) (to : Observed)
      : Type 0 where
    pub written : IsUnbroken new → (pending ≡ None) × IsWritten cmp meaning new to.disk.files
    pub shows : KeepsShown cmp meaning old from.disk.files history new to.disk.files history
    pub holds : HoldsBatches new to.disk.files history durable pending
    pub moments : SparesBatches old history durable pending from to

-- ---- the calls

module _ {E F C : Type 0} (env : Ghosts E F) (cmp : List ℕ → List ℕ → Ordering)
    (old : OpenStoreValue C) (from : E) where
  -- Where the disk is modelled, this holds of whatever history the store has: of each meaning of
  -- names, test of the stores that may be there, history, and number of batches that are durable.
  abbrev pub OfEachHistory : (Meaning → (Store → Type 0) → History → ℕ → Type 0) → Type 0
  OfEachHistory Holds = IsTrue env.models_disk → (meaning : Meaning) (allowed : Store → Bool)
      (history : History) (durable : ℕ)
      → IsOf cmp meaning (λ it. IsTrue (allowed it)) old (env.observed from).disk.files history
      durable → Holds meaning (λ it. IsTrue (allowed it)) history durable

  -- A sync makes all batches durable, or leaves them as they were.
  pub record SyncsBatches (result : Result (Unit {0}) Status) (new : OpenStoreValue C) (to : E)
      : Type 0 where
    pub ok : OnOk result (OfEachHistory (λ meaning allowed history durable.
        MakesDurable cmp meaning allowed old (env.observed from) history durable new
        (env.observed to)))
    pub err : OnErr result (OfEachHistory (λ meaning allowed history durable.
        LeavesHistory cmp meaning allowed old (env.observed from) history durable None new
        (env.observed to)))

  module _ (items : List Item) where
    -- Why a batch isn't written, where the device didn't fail: no call was made for it; out of
    -- memory; or the log is lost.
    abbrev pub FailsToWriteBatch : E → Status → Type 0
    FailsToWriteBatch to status =
        (IsNotBegun old items status × (to ≡ from)) ⊎ IsLogLost env old from to status

    -- A batch of these items is written to a store that isn't broken, and made durable if that is
    -- asked for.
    pub record WritesBatch (sync : Bool) (result : Result (Unit {0}) Status)
        (new : OpenStoreValue C) (to : E) : Type 0 where
      pub adds : OnOk result (OfEachHistory (λ meaning allowed history durable.
          AddsBatch cmp meaning allowed old (env.observed from) history durable
          (next_batch old items) sync new (env.observed to)))
      -- or it is not, and may be pending
      pub leaves : OnErr result (OfEachHistory (λ meaning allowed history durable.
          (pending : Option (List Entry))
          × ((pending ≡ None) ⊎ (pending ≡ Some (next_batch old items)))
          × LeavesHistory cmp meaning allowed old (env.observed from) history durable pending new
          (env.observed to)))
      -- the batch took the next numbers, and its entries are in the memtable
      pub numbers : OnOk result (HasNumbers old.set.last_sequence (length items)
          × (new.set.last_sequence ≡ old.set.last_sequence + length items))
      pub gains : OnOk result
          (IsUnion old.mem.entries (next_batch old items) new.mem.entries)
      pub err : OnErr result ((new.mem.entries ≡ old.mem.entries)
          × (new.set.last_sequence ≡ old.set.last_sequence))
      -- nothing else changes but the log
      pub rest : new ≡ record old {
        set = record old.set { last_sequence = new.set.last_sequence };
        log = record old.log { writer = new.log.writer };
        mem = new.mem;
      }
      pub others : IsTrue env.models_disk → SameBut (open_log_path old)
          (env.observed from).disk.files (env.observed to).disk.files
      -- and no file loses a byte, now and at each moment on the way
      pub bytes : IsTrue env.models_disk → Run (LosesNoBytesAt (λ path. Unit {0})
          (env.observed from).disk.files) (env.observed from) (env.observed to)
      -- nor is the log made where it is missing
      pub makes_none : IsTrue env.models_disk
          → (env.observed from).disk.files (open_log_path old) ≡ None
          → (env.observed to).disk.files (open_log_path old) ≡ None
      pub locks : SameLocks env.models_disk (env.observed from) (env.observed to)
      pub usable : OnOk result (IsUnbroken new)
      -- after an Err either no call was made, for a cause, or the log is broken
      pub breaks : IfErr result (λ e. (IsNotBegun old items e × (to ≡ from))
          ⊎ (new.log.writer.broken ≡ true))
      pub cause : HasCause (FailsToWriteBatch to) (env.failures from) (env.failures to) result
