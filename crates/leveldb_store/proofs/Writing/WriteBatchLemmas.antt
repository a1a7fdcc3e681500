-- What writing a batch returns and leaves, put together from its steps.
use Rattle.std.specs.Prelude.{IsTrue}
use Rattle.std.proofs.Common.{◌≡◌, ◌∙◌, ◌⊎◌, ◌+◌, inl, inr, ⊎_elim, ℕ, Bool, true, List, None, Some, Ok, Err, Result, ap, arith, length, refl, subst, sym, take}
use Rattle.std.specs.Option.{option_map}
use Rattle.std.specs.declared.cmp.Ordering.{Ordering}
use Rattle.leveldb_base.specs.Error.{IsOutOfMemory}
use Rattle.leveldb_base.specs.History.{Item}
use Rattle.leveldb_base.specs.declared.error.Status.{Status}
use Rattle.leveldb_env.proofs.EnvLemmas.{Run-mono, SameBut-refl, at_same, begun}
use Rattle.leveldb_env.specs.Env.{AreBytes, Files, Run, SameBut, extended, file_kept, longer_file}
use Rattle.leveldb_env.specs.declared.env.Env.{Ghosts}
use Rattle.leveldb_mem.specs.Log.Writer.{WriterState, after_frame}
use Rattle.leveldb_mem.specs.MemTable.{IsUnion, Kept}
use Rattle.leveldb_mem.specs.WriteBatch.{Batch, BatchOf, batch_bytes, batch_of}
use Rattle.leveldb_version_set.specs.Sets.LogEdit.{AppendingAndSyncing}
use Rattle.leveldb_store.proofs.Writing.BatchHistoryLemmas.{after_batch, batch_added, pending_leaves, room_leaves}
use Rattle.leveldb_store.proofs.Keeping.KeptBytesLemmas.{loses_appending, loses_none}
use Rattle.leveldb_store.proofs.Keeping.TableKeepsLemmas.{appending_and_syncing}
use Rattle.leveldb_store.specs.Keeping.KeptBytes.{LosesNoBytesAt}
use Rattle.leveldb_store.specs.Keeping.OpenStore.{IsUnbroken, OpenStoreValue}
use Rattle.leveldb_store.specs.Writing.Write.{CanBeInserted, HasNumbers, InsertsBatch, IsLogLost, LogsText, PreparesBatch, open_log_path, with_mem, with_writer}
use Rattle.leveldb_store.specs.Writing.WriteBatch.{FailsToWriteBatch, IsNotBegun, WritesBatch, next_batch}

-- a file that is missing isn't made by appending to it, nor by a sync of it
missing_extended : (path bytes : List ℕ) (files : Files) → files path ≡ None
    → extended path bytes files path ≡ None
missing_extended path bytes files none =
    at_same path (option_map (longer_file bytes) (files path)) files
    ∙ ap (option_map (longer_file bytes)) none

missing_appended : (path bytes : List ℕ) (old now : Files) → old path ≡ None
    → AppendingAndSyncing path bytes old now → now path ≡ None
missing_appended path bytes old now none (inl (inl same)) =
    ap (λ (f : Files). f path) same ∙ none
missing_appended path bytes old now none (inl (inr part)) =
    ap (λ (f : Files). f path) part.1 ∙ missing_extended path (take part.0 bytes) old none
missing_appended path bytes old now none (inr done) =
    ap (λ (f : Files). f path) done
    ∙ at_same path (option_map file_kept (extended path bytes old path)) (extended path bytes old)
    ∙ ap (option_map file_kept) (missing_extended path bytes old none)

module _ {E F C : Type 0} (env : Ghosts E F) (cmp : List ℕ → List ℕ → Ordering)
    (old : OpenStoreValue C) (from : E) (items : List Item) (sync : Bool) (mem : Kept)
    (same : mem.entries ≡ old.mem.entries) where
  -- the store with room for the batch
  abbrev roomy : OpenStoreValue C
  roomy = with_mem old mem

  abbrev Writes : Result (Unit {0}) Status → OpenStoreValue C → E → Type 0
  Writes = WritesBatch env cmp old from items sync

  -- ---- no call was made

  pub writes_nothing : (status : Status) → IsNotBegun old items status
      → Writes (Err status) roomy from
  writes_nothing status why = record {
    adds = tt;
    leaves = λ modelled meaning allowed history durable is_of. (
      None,
      inl refl,
      room_leaves cmp meaning (λ it. IsTrue (allowed it)) old (env.observed from) history durable
          is_of mem same,
    );
    numbers = tt;
    gains = tt;
    err = (same, refl);
    rest = refl;
    others = λ modelled. SameBut-refl (open_log_path old) (env.observed from).disk.files;
    bytes = λ modelled. begun (env.observed from) (loses_none (λ path. Unit {0})
        (env.observed from).disk.files (env.observed from).disk.files refl);
    makes_none = λ modelled none. none;
    locks = λ modelled. refl;
    usable = tt;
    breaks = inl (why, refl);
    cause = record {
      later = omega arith;
      ok = tt;
      uncounted = λ excused. refl;
      cause = inl (inl (why, refl));
    };
  }

  -- ---- the record came to the log, or a part of it

  module _ (text : List ℕ) (is_batch : BatchOf text (old.set.last_sequence + 1) items)
      (text_bytes : AreBytes text) (numbers : HasNumbers old.set.last_sequence (length items))
    where
      module _ (result : Result (Unit {0}) Status) (then : OpenStoreValue C) (to : E)
          (logs : LogsText env roomy from text sync result then to) where
        others_stay : IsTrue env.models_disk → SameBut (open_log_path old)
            (env.observed from).disk.files (env.observed to).disk.files
        others_stay modelled = appending_and_syncing (open_log_path old) _
            (env.observed from).disk.files (env.observed to).disk.files (logs.run modelled).has

        bytes_stay : IsTrue env.models_disk → Run (LosesNoBytesAt (λ path. Unit {0})
            (env.observed from).disk.files) (env.observed from) (env.observed to)
        bytes_stay modelled = Run-mono (loses_appending (λ path. Unit {0}) (open_log_path old) _
            (env.observed from).disk.files) (logs.run modelled)

        stays_missing : IsTrue env.models_disk
            → (env.observed from).disk.files (open_log_path old) ≡ None
            → (env.observed to).disk.files (open_log_path old) ≡ None
        stays_missing modelled none = missing_appended (open_log_path old) _
            (env.observed from).disk.files (env.observed to).disk.files none (logs.run modelled).has

        uncounted : (status : Status) → (IsLogLost env old from to status
            → env.failures to ≡ env.failures from) → FailsToWriteBatch env cmp old from items to status
            → env.failures to ≡ env.failures from
        uncounted status lost excused = ⊎_elim
            (λ unprepared. ap env.failures unprepared.1) lost excused

      -- it failed
      pub writes_part : (status : Status) (then : OpenStoreValue C) (to : E)
          → LogsText env roomy from text sync (Err status) then to → Writes (Err status) then to
      writes_part status then to logs = ⊎_elim
          (λ (stays : IsOutOfMemory status × (then ≡ roomy) × (to ≡ from)).
          subst (λ v. Writes (Err status) v to) (sym stays.1)
          (subst (Writes (Err status) roomy) (sym stays.2)
          (writes_nothing status (inr (inr stays.0)))))
          (λ (breaks : (then ≡ with_writer roomy then.log.writer)
          × (then.log.writer.broken ≡ true)).
          subst (λ v. Writes (Err status) v to) (sym breaks.0)
          (broken then.log.writer breaks.1)) logs.err
        where
          broken : (writer : WriterState) → writer.broken ≡ true
              → Writes (Err status) (with_writer roomy writer) to
          broken writer is = record {
            adds = tt;
            leaves = λ modelled meaning allowed history durable is_of. (
              Some (next_batch old items),
              inr refl,
              pending_leaves cmp meaning (λ it. IsTrue (allowed it)) old (env.observed from) history
                  durable is_of items text is_batch text_bytes numbers (env.observed to)
                  (logs.run modelled) writer is mem same,
            );
            numbers = tt;
            gains = tt;
            err = (same, refl);
            rest = refl;
            others = others_stay (Err status) then to logs;
            bytes = bytes_stay (Err status) then to logs;
            makes_none = stays_missing (Err status) then to logs;
            locks = logs.locks;
            usable = tt;
            breaks = inr is;
            cause = record {
              later = logs.cause.later;
              ok = tt;
              uncounted = uncounted (Err status) then to logs status logs.cause.uncounted;
              cause = ⊎_elim (λ lost. inl (inr lost)) (λ counted. inr counted) logs.cause.cause;
            };
          }

      -- it is there, and its entries come to the memtable
      pub writes_all : (then : OpenStoreValue C) (to : E)
          → LogsText env roomy from text sync (Ok tt) then to → IsUnbroken old → (entries : Kept)
          → IsUnion mem.entries (next_batch old items) entries.entries
          → Writes (Ok tt) (after_batch old items text entries) to
      writes_all then to logs unbroken entries union = record {
        adds = λ modelled meaning allowed history durable is_of.
            batch_added cmp meaning (λ it. IsTrue (allowed it)) old (env.observed from) history
            durable is_of items text is_batch text_bytes numbers (env.observed to)
            (logs.run modelled) entries gains sync (logs.done modelled);
        leaves = tt;
        numbers = (numbers, refl);
        gains = gains;
        err = tt;
        rest = refl;
        others = others_stay (Ok tt) then to logs;
        bytes = bytes_stay (Ok tt) then to logs;
        makes_none = stays_missing (Ok tt) then to logs;
        locks = logs.locks;
        usable = record { manifest = unbroken.manifest; log = unbroken.log };
        breaks = tt;
        cause = record {
          later = logs.cause.later;
          ok = logs.cause.ok;
          uncounted = tt;
          cause = tt;
        };
      }
        where
          gains : IsUnion old.mem.entries (next_batch old items) entries.entries
          gains = subst (λ es. IsUnion es (next_batch old items) entries.entries) same union

-- ---- the steps of the call

module _ {E F C : Type 0} (env : Ghosts E F) (cmp : List ℕ → List ℕ → Ordering)
    (old : OpenStoreValue C) (from : E) (batch : Batch) (sync : Bool) where
  -- no memory was taken for the batch
  pub wrote_nothing : (answer : Result (Unit {0}) Status) (value : OpenStoreValue C)
      (prepared : Batch) → PreparesBatch old batch answer value prepared → (status : Status)
      → IsNotBegun old batch.items status
      → WritesBatch env cmp old from batch.items sync (Err status) value from
  wrote_nothing answer value prepared prepares status why = subst
      (λ v. WritesBatch env cmp old from batch.items sync (Err status) v from) (sym prepares.rest)
      (writes_nothing env cmp old from batch.items sync value.mem prepares.entries status why)

  module _ (value : OpenStoreValue C) (prepared : Batch)
      (prepares : PreparesBatch old batch (Ok tt) value prepared)
      (is_batch : BatchOf (batch_bytes prepared.first prepared.items) prepared.first
      prepared.items)
      (are_bytes : AreBytes (batch_bytes prepared.first prepared.items)) (then : OpenStoreValue C)
      (to : E) where
    abbrev given : Batch
    given = batch_of (old.set.last_sequence + 1) batch.items

    abbrev text : List ℕ
    text = batch_bytes given.first given.items

    given_is : BatchOf text given.first given.items
    given_is = subst
        (λ (b : Batch). BatchOf (batch_bytes b.first b.items) b.first b.items) prepares.ok is_batch

    given_bytes : AreBytes text
    given_bytes = subst (λ (b : Batch). AreBytes (batch_bytes b.first b.items)) prepares.ok
        are_bytes

    given_logs : (result : Result (Unit {0}) Status)
        → LogsText env value from (batch_bytes prepared.first prepared.items) sync result then to
        → LogsText env (with_mem old value.mem) from text sync result then to
    given_logs result logs = subst
        (λ v. LogsText env v from text sync result then to) prepares.rest
        (subst (λ (b : Batch).
        LogsText env value from (batch_bytes b.first b.items) sync result then to) prepares.ok
        logs)

    -- the record wasn't logged
    pub wrote_part : (status : Status)
        → LogsText env value from (batch_bytes prepared.first prepared.items) sync (Err status)
        then to
        → WritesBatch env cmp old from batch.items sync (Err status) then to
    wrote_part status logs = writes_part env cmp old from batch.items sync value.mem
        prepares.entries text given_is given_bytes prepares.numbers status then to
        (given_logs (Err status) logs)

    -- it was
    module _ (logs : LogsText env value from (batch_bytes prepared.first prepared.items) sync
        (Ok tt) then to) where
      abbrev logged_store : OpenStoreValue C
      logged_store = with_writer (with_mem old value.mem)
          (after_frame old.log.writer text)

      then_is : then ≡ logged_store
      then_is = (given_logs (Ok tt) logs).ok

      pub can_be_inserted : CanBeInserted then prepared
      can_be_inserted = subst (λ v. CanBeInserted v prepared) (sym then_is)
          (subst (CanBeInserted logged_store) (sym prepares.ok) (record {
            room = prepares.room;
            first = refl;
            numbers = prepares.numbers;
          }))

      pub wrote_all : IsUnbroken old → (new : OpenStoreValue C)
          → InsertsBatch then prepared new
          → WritesBatch env cmp old from batch.items sync (Ok tt) new to
      wrote_all unbroken new inserts = subst
          (λ v. WritesBatch env cmp old from batch.items sync (Ok tt) v to) (sym here.rest)
          (writes_all env cmp old from batch.items sync value.mem prepares.entries text given_is
          given_bytes prepares.numbers then to (given_logs (Ok tt) logs) unbroken new.mem
          here.adds.gains)
        where
          here : InsertsBatch logged_store given new
          here = subst (λ v. InsertsBatch v given new) then_is
              (subst (λ b. InsertsBatch then b new) prepares.ok inserts)
