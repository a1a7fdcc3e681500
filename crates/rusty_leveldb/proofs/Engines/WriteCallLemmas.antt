-- What a write to an engine does, put together: its step, what becomes of the engine, and why it
-- fails.
use Rattle.std.specs.Prelude.{IfErr, OnErr, OnOk, Result}
use Rattle.std.proofs.Common.{◌≡◌, ◌<◌, ◌≤◌, ◌+◌, ◌⊎◌, ◌∙◌, ⊎_elim, inl, inr, ℕ, zero, suc, Bool, true, false, List, [], ◌∷◌, ◌++◌, length, refl, sym, ap, subst, arith, Some, Ok, Err}
use Rattle.std.proofs.lemmas.Bool.{cases_Bool}
use Rattle.leveldb_base.specs.Error.{IsOutOfMemory}
use Rattle.leveldb_base.specs.History.{Entry, Item, placed}
use Rattle.leveldb_base.specs.declared.error.Status.{Status}
use Rattle.leveldb_base.specs.declared.error.StatusCode.TheVariants.{InvalidArgument}
use Rattle.leveldb_env.specs.Options.{Boxed, OptionsOf}
use Rattle.leveldb_env.specs.declared.env.Env.{Ghosts}
use Rattle.leveldb_env.specs.declared.filter.FilterPolicy.{Ghosts as FilterGhosts}
use Rattle.leveldb_mem.specs.MemTable.{FailsToPrepare, IsUnion, Kept, bytes_in, memory_of_entries}
use Rattle.leveldb_mem.specs.WriteBatch.{Batch, IsTooLong, batch_bytes, batch_of, max_length, with_item}
use Rattle.leveldb_store.specs.Tables.BuildTable.{TableChoices}
use Rattle.leveldb_files.specs.Stores.Format.{Format}
use Rattle.leveldb_store.specs.Keeping.OpenStore.{IsUnbroken, OpenStoreValue}
use Rattle.leveldb_store.specs.Compactions.Compact.{AreInputsLost, FailsToCompactRange, FailsToMerge}
use Rattle.leveldb_store.specs.Writing.Room.{FailsFor, HasFailed, IsFull, ChangesLoggerOnly}
use Rattle.leveldb_store.specs.Keeping.Written.{IsWritten}
use Rattle.leveldb_store.specs.Keeping.SoundCall.{IsSoundCall, any_meaning}
use Rattle.leveldb_store.specs.Writing.WriteBatch.{FailsToWriteBatch, IsNotBegun, WritesBatch, next_batch}
use Rattle.rusty_leveldb.specs.Engines.Boxes.{EngineOf, InternalOrder}
use Rattle.rusty_leveldb.specs.Engines.EngineValue.{FollowsStore}
use Rattle.rusty_leveldb.specs.Engines.Room.{EngineMakesRoom, LogsIfDue, LogsRoom, KeepsOrCompacts, entries_added}
use Rattle.rusty_leveldb.specs.Engines.Calls.{AppendsNothing, EngineWrites, IsMemtableFull, KeepsMemory, KeepsModeOrBreaks, MakesNoImm, WritesIntoRoom}
use Rattle.rusty_leveldb.specs.Machines.Causes.{AreUsedUp, IsLongBatch}
use Rattle.rusty_leveldb.specs.Engines.Engine.{empty_memtable, Answers, IsBroken, WriteExcused, engine_options, formats_of, has_compaction_due, tables_by}
use Rattle.rusty_leveldb.specs.Engines.Serves.{done_or}
use Rattle.rusty_leveldb.specs.Machines.State as machine
use Rattle.rusty_leveldb.specs.Machines.State.{write}
use Rattle.rusty_leveldb.proofs.Engines.Batching.{IsUnmade, not_written}
use Rattle.rusty_leveldb.proofs.Engines.EngineLemmas.{follows_broken, follows_open}
use Rattle.rusty_leveldb.proofs.Engines.CallsLemmas.{open_is_neither}
use Rattle.rusty_leveldb.proofs.Engines.KeepsOrCompactsLemmas.{kept_beside_batch, kept_as_they_are}
use Rattle.rusty_leveldb.proofs.Engines.NoneDueLemmas.{none_due_again}
use Rattle.rusty_leveldb.proofs.Engines.RestLemmas.{rest_roomless, rest_still, rest_written}
use Rattle.rusty_leveldb.proofs.Engines.RowLemmas.{write_row}
use Rattle.rusty_leveldb.proofs.Engines.SyncLemmas.{log_is_there}
use Rattle.rusty_leveldb.proofs.Engines.TidyLemmas.{batch_tidied}
use Rattle.rusty_leveldb.proofs.Engines.WritingLemmas.{batch_tells, failed_later, room_fails, room_tells, write_done, write_fails}

-- ---- a memtable that is full

-- a number is up to another, or above it
up_to_or_above : (n m : ℕ) → (n ≤ m) ⊎ (m < n)
up_to_or_above zero m = inl (omega arith)
up_to_or_above (suc n) zero = inr (omega arith)
up_to_or_above (suc n) (suc m) = ⊎_elim
    (λ (up_to : n ≤ m). inl (omega (arith, up_to)))
    (λ (above : m < n). inr (omega (arith, above)))
    (up_to_or_above n m)

full_or_not : (limit : ℕ) (kept : Kept) → IsFull limit kept ⊎ (IsFull limit kept → ⊥)
full_or_not limit kept = by kept.entries refl
  where
    by : (entries : List Entry) → kept.entries ≡ entries
        → IsFull limit kept ⊎ (IsFull limit kept → ⊥)
    by [] none = inr (λ full. full.0 none)
    by (first ∷ others) some = ⊎_elim
        (λ (most : limit ≤ memory_of_entries kept.entries). inl (
          (λ none. let never : [] ≡ first ∷ others = sym none ∙ some in cc),
          most,
        ))
        (λ (less : memory_of_entries kept.entries < limit).
        inr (λ full. omega (arith, less, full.1)))
        (up_to_or_above limit (memory_of_entries kept.entries))

-- ---- a batch of one change

pub one_change : (empty batch : Batch) (item : Item) → empty ≡ batch_of 0 []
    → batch ≡ with_item empty item → batch.items ≡ item ∷ []
one_change empty batch item is changed =
    ap (λ (b : Batch). b.items) changed ∙ ap (λ (b : Batch). b.items ++ item ∷ []) is

pub unmade : (empty : Batch) (item : Item) (status : Status) → empty ≡ batch_of 0 []
    → (status.code ≡ InvalidArgument) ⊎ IsOutOfMemory status
    → (status.code ≡ InvalidArgument → IsTooLong (with_item empty item))
    → IsUnmade (item ∷ []) status
unmade empty item status is why long = ⊎_elim
    (λ (code : status.code ≡ InvalidArgument). inr (
      code,
      let past : IsTooLong (with_item (batch_of 0 []) item) =
          subst (λ (b : Batch). IsTooLong (with_item b item)) is (long code) in past,
    ))
    (λ (memory : IsOutOfMemory status). inl memory) why

module _ {E C FP F P : Type 0} {B : Boxed} {keys : InternalOrder C} {key_filters : FilterGhosts P}
    (env : Ghosts E F) (choices : OptionsOf C FP B → TableChoices keys key_filters)
    (before : EngineOf E C FP F B) (from : E) (opened : before.mode ≡ machine.open_mode)
    (items : List Item) (sync : Bool) where
  abbrev formats : OptionsOf C FP B → Format
  formats = formats_of choices

  -- the batch isn't made
  pub unmade_serves : (status : Status) → IsUnmade items status
      → EngineWrites env choices before from items sync (Err status) before from
  unmade_serves status why =
      let step = not_written env formats before opened items sync status why from in
      let row = write_row keys env formats before from before from items sync (Err status) step in
      record {
        ok = row.0;
        err = row.1;
        step = step;
        refused_by_mode = λ refused_by_mode. absurd (open_is_neither before.mode opened refused_by_mode);
        misfit = λ is long. (
          refl,
          refl,
          ⊎_elim (λ (memory : IsOutOfMemory status). inr memory)
              (λ (past : (status.code ≡ InvalidArgument) × IsLongBatch items). inl past.0) why,
        );
        written = tt;
        waits = tt;
        logs = tt;
        compacts = tt;
        looks = inr (
          refl,
          refl,
          ⊎_elim (λ (memory : IsOutOfMemory status). inr (inr memory))
              (λ (past : (status.code ≡ InvalidArgument) × IsLongBatch items). inr (inl past)) why,
        );
        again = λ room. inr refl;
        failed = (inr refl, (refl, λ room. (refl, refl)));
        entries = kept_as_they_are env (formats (engine_options before)) before.store from;
        tidy = inr (refl, tt);
        breaks = inr (inl refl);
        snapshots = refl;
        options = record { rest = refl; sink = refl };
        rest = rest_still env before from (write items sync) (Err status) (inr (status, refl));
        time = λ modelled. omega arith;
        cause = record {
          later = omega arith;
          cause = inl (⊎_elim (λ (memory : IsOutOfMemory status). inr (inr (inl memory)))
              (λ long. inr (inl long)) why);
        };
      }

  -- the mode in the end
  becomes : (after : EngineOf E C FP F B) → FollowsStore after.mode after.store
      → KeepsModeOrBreaks before after
  becomes after follows = ⊎_elim
      (λ (opens : (after.mode ≡ machine.open_mode) × IsUnbroken after.store).
      inr (opens.0 ∙ sym opened))
      (λ (broke : (after.mode ≡ machine.broken) × (IsUnbroken after.store → ⊥)). inl broke.0)
      follows

  module _ (ignores : (a b : OptionsOf C FP B) → ChangesLoggerOnly a b → formats b ≡ formats a)
      (fits : IsLongBatch items → ⊥) where
    -- no room is made
    pub room_fails_serves : (after : EngineOf E C FP F B) (to : E) (status : Status)
        → EngineMakesRoom env choices before from (Err status) after to
        → EngineWrites env choices before from items sync (Err status) after to
    room_fails_serves after to status made =
        let row = write_row keys env formats before from after to items sync (Err status) step in
        record {
          ok = row.0;
          err = row.1;
          step = step;
          refused_by_mode = λ refused_by_mode. absurd (open_is_neither before.mode opened refused_by_mode);
          misfit = λ is long. absurd (fits long);
          written = tt;
          waits = tt;
          logs = tt;
          compacts = tt;
          looks = inl made.looks;
          again = λ room. inl (none_due_again before after made.looks room memory
              (room_tells env choices before from (Err status) after to made));
          failed = (becomes after made.mode, memory);
          entries = made.makes.entries;
          tidy = made.tidy;
          breaks = inr (inr (inl made));
          snapshots = ap (λ (e : EngineOf E C FP F B). e.snapshots) made.rest;
          options = room_tells env choices before from (Err status) after to made;
          rest = rest_roomless env before from opened choices items sync after to status made;
          time = made.makes.keeps.sound.time;
          cause = record { later = made.makes.keeps.cause.later; cause = excused };
        }
      where
        memory : KeepsMemory before after
        memory = (
          made.makes.keeps.rest.last,
          λ room.
              let same = (made.makes.not_full room).memory in (
                ap (λ (v : OpenStoreValue C). v.mem.entries) same,
                ap (λ (v : OpenStoreValue C). v.imm) same,
              ),
        )

        step : Answers keys env formats (Some before) from (write items sync)
            (done_or {T = Unit {0}} (Err status)) (Some after) to
        step store meaning modelled old was = room_fails env choices store meaning before from old was
            opened modelled ignores after to items sync status made

        where_full : IsFull before.options.write_buffer_size before.store.mem
            → FailsToCompactRange keys env (tables_by formats before) before.store from
            before.tables (choices (engine_options before)) after.store status
            ⊎ HasFailed (env.failures from) (env.failures to)
            → WriteExcused env choices before from items after.store status
            ⊎ HasFailed (env.failures from) (env.failures to)
        where_full full (inl why) = inl (inr (inr (inr (inr (inr (inl (full, inl why)))))))
        where_full full (inr failed) = inr failed

        where_due : has_compaction_due before ≡ true
            → FailsToMerge keys env (tables_by formats before) before.store from before.tables
            (choices (engine_options before)) after.store status
            ⊎ HasFailed (env.failures from) (env.failures to)
            → WriteExcused env choices before from items after.store status
            ⊎ HasFailed (env.failures from) (env.failures to)
        where_due due (inl why) = inl (inr (inr (inr (inr (inr (inr (inl (due, why))))))))
        where_due due (inr failed) = inr failed

        -- where it isn't full and no compaction is due, nothing fails
        excused : WriteExcused env choices before from items after.store status
            ⊎ HasFailed (env.failures from) (env.failures to)
        excused = ⊎_elim
            (λ (full : IsFull before.options.write_buffer_size before.store.mem).
            where_full full made.makes.keeps.cause.cause)
            (λ (room : IsFull before.options.write_buffer_size before.store.mem → ⊥). ⊎_elim
            (λ (due : has_compaction_due before ≡ true).
            where_due due (made.makes.merges room).cause)
            (λ (none : has_compaction_due before ≡ false).
            absurd ((made.makes.not_full room).none none).2)
            (cases_Bool (has_compaction_due before)))
            (full_or_not before.options.write_buffer_size before.store.mem)

    module _ (roomy : EngineOf E C FP F B) (mid : E)
        (made : EngineMakesRoom env choices before from (Ok tt) roomy mid)
        (value : OpenStoreValue C) (mode : machine.Mode) (follows : FollowsStore mode value)
        (to : E) where
      -- the engine in the end
      abbrev ended : EngineOf E C FP F B
      ended = record roomy { store = value; mode = mode }

      -- a batch is written into a memtable with room
      batch_written : (result : Result (Unit {0}) Status)
          → WritesBatch env (formats (engine_options roomy)).order roomy.store mid items sync result value
          to → OnOk result ((mode ≡ before.mode) × WritesIntoRoom before items ended)
      batch_written (Ok nothing) writes = (
        follows_open mode value follows writes.usable ∙ sym opened,
        ⊎_elim
            (λ (full : IsMemtableFull before). inr (
              full,
              subst (λ entries. IsUnion entries batch value.mem.entries)
                  (made.makes.empties full).0 gains,
            ))
            (λ (room : IsMemtableFull before → ⊥). inl (
              room,
              subst (λ (v : OpenStoreValue C).
                  IsUnion v.mem.entries batch value.mem.entries)
                  (made.makes.not_full room).memory gains,
            ))
            (full_or_not before.options.write_buffer_size before.store.mem),
      )
        where
          batch : List Entry
          batch = placed (before.store.set.last_sequence + 1) items

          gains : IsUnion roomy.store.mem.entries batch value.mem.entries
          gains = subst (λ n. IsUnion roomy.store.mem.entries (placed (n + 1) items)
              value.mem.entries) made.makes.keeps.rest.last writes.gains
      batch_written (Err status) writes = tt

      -- and none waits, but for one that waited before
      batch_waits : (result : Result (Unit {0}) Status)
          → WritesBatch env (formats (engine_options roomy)).order roomy.store mid items sync result value
          to → OnOk result (MakesNoImm before ended)
      batch_waits (Ok nothing) writes =
          let waits = ap (λ (v : OpenStoreValue C). v.imm) writes.rest in ⊎_elim
          (λ (full : IsFull before.options.write_buffer_size before.store.mem).
          inl (waits ∙ (made.makes.empties full).2))
          (λ (room : IsFull before.options.write_buffer_size before.store.mem → ⊥).
          inr (
            room,
            waits ∙ ap (λ (v : OpenStoreValue C). v.imm) (made.makes.not_full room).memory,
          ))
          (full_or_not before.options.write_buffer_size before.store.mem)
      batch_waits (Err status) writes = tt

      -- a batch logs no edit
      logged_then : (result : Result (Unit {0}) Status)
          → WritesBatch env (formats (engine_options roomy)).order roomy.store mid items sync result value
          to → record value.set { last_sequence = before.store.set.last_sequence } ≡ roomy.store.set
      logged_then result writes = ap (λ (v : OpenStoreValue C).
          record v.set { last_sequence = before.store.set.last_sequence }) writes.rest
          ∙ ap (λ n. record roomy.store.set { last_sequence = n }) (sym made.makes.keeps.rest.last)

      -- and so what was logged is what room in the memtable logged
      batch_logs : (result : Result (Unit {0}) Status)
          → WritesBatch env (formats (engine_options roomy)).order roomy.store mid items sync result value
          to → OnOk result (IsMemtableFull before → LogsRoom before.store.set
          (record value.set { last_sequence = before.store.set.last_sequence }))
      batch_logs (Ok nothing) writes = λ full. subst (LogsRoom before.store.set)
          (sym (logged_then (Ok nothing) writes)) (made.makes.logs full)
      batch_logs (Err status) writes = tt

      batch_compacts : (result : Result (Unit {0}) Status)
          → WritesBatch env (formats (engine_options roomy)).order roomy.store mid items sync result value
          to → OnOk result ((IsMemtableFull before → ⊥)
          → LogsIfDue (has_compaction_due before) before.store.set
          (record value.set { last_sequence = before.store.set.last_sequence }))
      batch_compacts (Ok nothing) writes = λ room.
          subst (LogsIfDue (has_compaction_due before) before.store.set)
          (sym (logged_then (Ok nothing) writes)) (made.makes.not_full room).logs
      batch_compacts (Err status) writes = tt

      -- or it isn't written, and no answer changes
      batch_failed : (result : Result (Unit {0}) Status)
          → WritesBatch env (formats (engine_options roomy)).order roomy.store mid items sync result value
          to → OnErr result (KeepsModeOrBreaks before ended × KeepsMemory before ended)
      batch_failed (Ok nothing) writes = tt
      batch_failed (Err status) writes = (
        becomes ended follows,
        (
          writes.err.1 ∙ made.makes.keeps.rest.last,
          λ room. let same = (made.makes.not_full room).memory in (
            writes.err.0 ∙ ap (λ (v : OpenStoreValue C). v.mem.entries) same,
            ap (λ (v : OpenStoreValue C). v.imm) writes.rest
                ∙ ap (λ (v : OpenStoreValue C). v.imm) same,
          ),
        ),
      )

      -- and no compaction is due when it is made again
      batch_again : (result : Result (Unit {0}) Status)
          → WritesBatch env (formats (engine_options roomy)).order roomy.store mid items sync result value
          to → OnErr result ((IsMemtableFull before → ⊥)
          → (has_compaction_due ended ≡ false) ⊎ (ended ≡ before))
      batch_again (Ok nothing) writes = tt
      batch_again (Err status) writes = λ room. inl (none_due_again before ended made.looks room
          (batch_failed (Err status) writes).1
          (batch_tells env choices before from roomy mid made value
          (ap (λ (v : OpenStoreValue C). v.cmp) writes.rest)))

      -- then no call was made, or the log is broken
      batch_breaks : (result : Result (Unit {0}) Status)
          → WritesBatch env (formats (engine_options roomy)).order roomy.store mid items sync result value
          to → IfErr result (λ e. IsBroken mode ⊎ AppendsNothing env choices before from items e ended to)
      batch_breaks (Ok nothing) writes = tt
      batch_breaks (Err status) writes = ⊎_elim
          (λ (unbegun : IsNotBegun roomy.store items status × (to ≡ mid)). inr (inr (inr (
            roomy,
            subst (EngineMakesRoom env choices before from (Ok tt) roomy) (sym unbegun.1) made,
            unbegun.0,
          ))))
          (λ (broke : value.log.writer.broken ≡ true). inl (follows_broken mode value follows broke))
          writes.breaks

      -- where the entries are
      batch_entries : (result : Result (Unit {0}) Status)
          → WritesBatch env (formats (engine_options roomy)).order roomy.store mid items sync result value
          to → KeepsOrCompacts env (formats (engine_options before))
          (entries_added result (next_batch before.store items)) before.store from value to
      batch_entries result writes = subst (λ k. KeepsOrCompacts env (formats (engine_options before))
          (entries_added result (placed (k + 1) items)) before.store from value to)
          made.makes.keeps.rest.last
          (kept_beside_batch env (formats (engine_options before)) before.store from roomy.store mid
          made.makes.keeps.rest.store made.makes.entries (formats (engine_options roomy)).order items
          sync result value to writes)

      -- the memtable that room was made in is empty
      in_empty : IsFull before.options.write_buffer_size before.store.mem → {status : Status}
          → FailsToPrepare roomy.store.mem (length items) (bytes_in items) status
          → FailsToPrepare empty_memtable (length items) (bytes_in items) status
      in_empty full (inl large) =
          let none = ap memory_of_entries (made.makes.empties full).0 in
          let places = (made.makes.empties full).1 in
          let most = large.1 in
          inl (large.0, omega (arith, none, places, most))
      in_empty full (inr memory) = inr memory

      -- why the batch isn't written
      batch_excused : (status : Status)
          → FailsToWriteBatch env (formats (engine_options before)).order roomy.store mid items to status
          → WriteExcused env choices before from items value status
      batch_excused status (inl (inl used, still)) = inr (inr (inr (inl (
        used.code,
        subst (λ n. AreUsedUp n (length items)) made.makes.keeps.rest.last used.past,
      ))))
      batch_excused status (inl (inr fails, still)) = ⊎_elim
          (λ (full : IsFull before.options.write_buffer_size before.store.mem).
          inr (inr (inr (inr (inr (inl (full, inr (in_empty full fails))))))))
          (λ (room : IsFull before.options.write_buffer_size before.store.mem → ⊥).
          inr (inr (inr (inr (inl (subst (λ (v : OpenStoreValue C).
          FailsToPrepare v.mem (length items) (bytes_in items) status)
          (made.makes.not_full room).memory fails))))))
          (full_or_not before.options.write_buffer_size before.store.mem)
      batch_excused status (inr (inl (inl memory))) = inr (inr (inl memory))
      batch_excused status (inr (inl (inr missing))) = ⊎_elim
          (λ (full : IsFull before.options.write_buffer_size before.store.mem).
          inr (inr (inr (inr (inr (inl (full, inl (inl (inr (inr (inr lost)))))))))))
          (λ (room : IsFull before.options.write_buffer_size before.store.mem → ⊥). ⊎_elim
          (λ (due : has_compaction_due before ≡ true).
          inr (inr (inr (inr (inr (inr (inl (due, inr (inr (inr lost))))))))))
          (λ (none : has_compaction_due before ≡ false).
          let still = (made.makes.not_full room).none none in
          inr (inr (inr (inr (inr (inr (inr (
            missing.0.code,
            λ modelled meaning agrees written.
                log_is_there (formats (engine_options before)).order meaning roomy.store
                (env.observed mid).disk.files
                (subst (λ (v : OpenStoreValue C). IsWritten (formats (engine_options before)).order
                meaning v (env.observed mid).disk.files) (sym still.0)
                (subst (λ (e : E). IsWritten (formats (engine_options before)).order meaning
                before.store (env.observed e).disk.files) (sym still.1) written))
                (missing.1 modelled),
          ))))))))
          (cases_Bool (has_compaction_due before)))
          (full_or_not before.options.write_buffer_size before.store.mem)
        where
          lost : AreInputsLost keys env (tables_by formats before) before.store from before.tables
              status
          lost = record {
            fault = inl missing.0.code;
            lacks = λ meaning live has.
                let kept = made.makes.keeps.keeps has.has_open meaning has.agrees (λ it. true)
                has.written in
                absurd (log_is_there (formats (engine_options before)).order meaning roomy.store
                (env.observed mid).disk.files (kept.written made.makes.keeps.usable)
                (missing.1 has.has_open.modelled));
          }
      batch_excused status (inr (inr broke)) = absurd (let never : true ≡ false = sym broke.0
          ∙ made.makes.keeps.usable.log in cc)

      batch_cause : (result : Result (Unit {0}) Status)
          → WritesBatch env (formats (engine_options before)).order roomy.store mid items sync result value
          to → FailsFor (WriteExcused env choices before from items value) (env.failures from)
          (env.failures to) result
      batch_cause (Ok nothing) writes = record {
        later = omega (arith, made.makes.keeps.cause.later, writes.cause.later);
        cause = tt;
      }
      batch_cause (Err status) writes = record {
        later = omega (arith, made.makes.keeps.cause.later, writes.cause.later);
        cause = ⊎_elim
            (λ (why : FailsToWriteBatch env (formats (engine_options before)).order roomy.store mid items to
            status). inl (batch_excused status why))
            (λ counted. inr (failed_later (env.failures from) (env.failures mid) (env.failures to)
            made.makes.keeps.cause.later writes.cause.later (⊎_elim
            (λ (more : env.failures to ≡ env.failures mid + 1). inl (omega (arith, more)))
            (λ full. inr full.0) counted))) writes.cause.cause;
      }

      step : (result : Result (Unit {0}) Status)
          → OnOk result (length (batch_bytes 0 items) ≤ max_length)
          → WritesBatch env (formats (engine_options before)).order roomy.store mid items sync result value
          to → IsSoundCall {T = Unit {0}} env (formats (engine_options before)).order any_meaning
          roomy.store mid result value to
          → Answers keys env formats (Some before) from (write items sync) (done_or result)
          (Some (record roomy { store = value; mode = mode })) to
      step (Ok nothing) short writes sound store meaning modelled old was =
          write_done env choices store meaning before from old was opened modelled ignores roomy mid
          made items sync value mode follows to short writes sound
      step (Err status) short writes sound store meaning modelled old was =
          write_fails env choices store meaning before from old was opened modelled ignores roomy mid
          made items sync value mode follows to status writes sound

      same_format : formats (engine_options roomy) ≡ formats (engine_options before)
      same_format = ignores (engine_options before) (engine_options roomy)
          (room_tells env choices before from (Ok tt) roomy mid made)

      -- the batch is written, or isn't
      pub batch_serves : (result : Result (Unit {0}) Status)
          → OnOk result (length (batch_bytes 0 items) ≤ max_length)
          → WritesBatch env (formats (engine_options roomy)).order roomy.store mid items sync result value
          to → IsSoundCall {T = Unit {0}} env (formats (engine_options roomy)).order any_meaning
          roomy.store mid result value to
          → EngineWrites env choices before from items sync result ended to
      batch_serves result short writes_in sound_in =
          let writes = subst (λ (f : Format).
          WritesBatch env f.order roomy.store mid items sync result value to) same_format writes_in in
          let sound = subst (λ (f : Format). IsSoundCall {T = Unit {0}} env f.order any_meaning
          roomy.store mid result value to) same_format sound_in in
          let stepped = step result short writes sound in
          let row = write_row keys env formats before from ended to items sync result stepped in
          record {
            ok = row.0;
            err = row.1;
            step = stepped;
            refused_by_mode = λ refused_by_mode. absurd (open_is_neither before.mode opened refused_by_mode);
            misfit = λ is long. absurd (fits long);
            written = batch_written result writes_in;
            waits = batch_waits result writes_in;
            logs = batch_logs result writes_in;
            compacts = batch_compacts result writes_in;
            looks = inl made.looks;
            again = batch_again result writes_in;
            failed = batch_failed result writes_in;
            entries = batch_entries result writes_in;
            tidy = batch_tidied env before from roomy mid made.tidy result value mode to writes_in;
            breaks = batch_breaks result writes_in;
            snapshots = ap (λ (e : EngineOf E C FP F B). e.snapshots) made.rest;
            options = batch_tells env choices before from roomy mid made value
                (ap (λ (v : OpenStoreValue C). v.cmp) writes.rest);
            rest = rest_written env before from opened choices items sync roomy mid made value mode
                to result writes_in;
            time = λ modelled.
                let first = made.makes.keeps.sound.time modelled in
                let second = sound.time modelled in omega (arith, first, second);
            cause = batch_cause result writes;
          }
