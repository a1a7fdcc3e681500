-- What replaying one more log returns and leaves, by what its replay and its tables do.
use Rattle.std.specs.Prelude.{IfSome, IsTrue}
use Rattle.std.proofs.Common.{◌≡◌, ◌≢◌, ◌∙◌, ◌⊎◌, inl, inr, ⊎_elim, ◌+◌, ◌<◌, ◌≤◌, ℕ, Bool, true, false, List, [], ◌++◌, None, Some, Ok, Err, ap, arith, length, map, refl, subst, sym}
use Rattle.leveldb_base.proofs.HistoryLemmas.{in_none}
use Rattle.leveldb_base.specs.Error.{IsOutOfMemory}
use Rattle.leveldb_base.specs.History.{AreUpTo}
use Rattle.leveldb_base.specs.declared.cmp.Cmp.{Ghosts as CmpGhosts}
use Rattle.leveldb_base.specs.declared.error.Status.{Status}
use Rattle.leveldb_base.specs.declared.error.StatusCode.TheVariants.{Corruption}
use Rattle.leveldb_base.specs.declared.types.FileMetaData.{FileMetaData}
use Rattle.leveldb_env.specs.Env.{HasCause}
use Rattle.leveldb_env.specs.declared.env.Env.{Ghosts}
use Rattle.leveldb_env.specs.declared.filter.FilterPolicy.{Ghosts as FilterGhosts}
use Rattle.leveldb_mem.specs.MemTable.{Kept, memory_of_entries}
use Rattle.leveldb_version_set.proofs.Sets.RecoverLemmas.{cause_of_error}
use Rattle.leveldb_version_set.specs.Compactions.Inputs.{AreOrdered}
use Rattle.leveldb_version.specs.Edits.VersionEdit.{new_file_of}
use Rattle.leveldb_version_set.specs.Sets.VersionSetValue.{VersionSetValue}
use Rattle.leveldb_store.specs.Tables.BuildTable.{TableChoices}
use Rattle.leveldb_store.specs.Keeping.OpenStore.{AreNumbersGiven}
use Rattle.leveldb_store.specs.Openings.OpeningSteps.{MakesFewTables, ReplaysNext, TablesAll, entries_to_write, made_files}
use Rattle.leveldb_store.specs.Logs.ReplayLog.{FailsAtLog, FailsToBuildRest, HasCauseOr, IsNotFull, KeepsBatches, MakesTablesOnly, ReplaysFile}
use Rattle.leveldb_store.specs.Writing.Room.{IsFull}
use Rattle.leveldb_store.specs.declared.opening.replay.Replay.{Replay}
use Rattle.leveldb_store.specs.declared.opening.replay.UsedLog.{UsedLog}
use Rattle.leveldb_store.specs.declared.opening.replay_log.ReplayedLog.{ReplayedLog}
use Rattle.leveldb_store.proofs.Logs.FoundLogsLemmas.{front_few}
use Rattle.leveldb_store.proofs.Keeping.GivenNumbersLemmas.{given_append, given_later}
use Rattle.leveldb_store.proofs.Keeping.OrderedFilesLemmas.{ordered_append}
use Rattle.leveldb_store.proofs.Logs.ReplayFilesLemmas.{MakesTablesOnly-trans}
use Rattle.leveldb_store.proofs.Logs.ReplayLogLemmas.{fails_of_rest, some_last}
use Rattle.leveldb_store.proofs.Logs.ReplayMoreLemmas.{HasReplayedLogs-tables_made, HasReplayedLogs-used, damaged_after, missing_after, torn_after}

-- whether the logs end cleanly, with one more: they do, and it does
abbrev pub IsBoth : Bool → Bool → Bool → Type 0
IsBoth these it both = ((these ≡ true) × (both ≡ it)) ⊎ ((these ≡ false) × (both ≡ false))

both_clean : (these it both : Bool) → IsBoth these it both → both ≡ true
    → (these ≡ true) × (it ≡ true)
both_clean these it both (inl is) clean = (is.0, sym is.1 ∙ clean)
both_clean these it both (inr is) clean = absurd (let never : false ≡ true = sym is.1 ∙ clean in cc)

one_bad : (these it both : Bool) → IsBoth these it both → both ≡ false
    → (these ≡ false) ⊎ (it ≡ false)
one_bad these it both (inl is) torn = inr (sym is.1 ∙ torn)
one_bad these it both (inr is) torn = inl is.0

still_clean : (these it both : Bool) → IsBoth these it both → it ≡ true → both ≡ these
still_clean these it both (inl is) clean = is.1 ∙ clean ∙ sym is.0
still_clean these it both (inr is) clean = is.1 ∙ sym is.0

-- a memtable with the entries of a log that aren't too many isn't full
not_full : {C : Type 0} (limit : ℕ) (log : ReplayedLog C) → IsNotFull limit log → (kept : Kept)
    → kept.entries ≡ log.rest.kept.entries → IsFull limit kept → ⊥
not_full limit log (inl none) kept is full = full.0 (is ∙ none)
not_full limit log (inr below) kept is full =
    let same = ap memory_of_entries is in
    let least = full.1 in omega (arith, below, same, least)

module _ {E F D FP C : Type 0} (env : Ghosts E F) {order : CmpGhosts D} {filters : FilterGhosts FP}
    (choices : TableChoices order filters) (limit number : ℕ) (may_go_on : Bool) (old : Replay C)
    (set : VersionSetValue) (from : E) where
  -- the log isn't replayed
  pub ReplaysNext-unread : (status : Status) {mid : VersionSetValue} {at : E}
      → ReplaysFile env choices limit {C = C} set old.last number from (Err status) mid at
      → (new : Replay C)
      → ReplaysNext env choices limit number may_go_on old set from (Err status) new mid at
  ReplaysNext-unread status replays new = record {
    spares = replays.spares;
    ok = tt;
    used = tt;
    up_to = tt;
    room = tt;
    given = tt;
    ordered = tt;
    few = tt;
    cause = cause_of_error status
        (λ why. ⊎_elim
        (λ lost. ⊎_elim
        (λ (memory : IsOutOfMemory status). inl memory)
        (λ missing. inr (
          inr (
            missing.0.code,
            λ modelled meaning agrees first start numbers later was.
                missing_after choices.format.order meaning first set start
                (env.observed from).disk.files numbers old was number (missing.1 modelled) later,
          ),
          missing.2,
        )) lost)
        (λ other. inr (
          ⊎_elim (λ fails. inl fails)
              (λ torn. inr (
                torn.0,
                λ modelled meaning agrees first start numbers later was.
                    damaged_after choices.format.order meaning first set start
                    (env.observed from).disk.files numbers old was number (torn.1 modelled) later,
              )) other.0,
          other.1,
        )) why)
        (λ why. ⊎_elim (λ memory. inl (inl (inl memory))) (λ it. inr it.1) why)
        replays.cause;
  }

  module _ (log : ReplayedLog C) {mid : VersionSetValue} {at : E}
      (replays : ReplaysFile env choices limit set old.last number from (Ok log) mid at) where
    -- there is at most a table for each batch of it, with the one of its rest
    few_made : (now : VersionSetValue) → (now.next_file ≡ mid.next_file)
        ⊎ ((log.rest.kept.entries ≢ []) × (now.next_file ≡ mid.next_file + 1))
        → MakesFewTables env number set from now
    few_made now more = (replays.batches.batches, replays.batches.begins, by more)
      where
        kept : KeepsBatches env set number from log mid
        kept = replays.batches

        by : (now.next_file ≡ mid.next_file)
            ⊎ ((log.rest.kept.entries ≢ []) × (now.next_file ≡ mid.next_file + 1))
            → now.next_file ≤ set.next_file + length kept.batches
        by (inl same) =
            let least = front_few kept.batches kept.in_memory.front kept.in_memory.last
            kept.in_memory.parts in
            let few = kept.few in
            omega (arith, same, least, few)
        by (inr one) =
            let least = some_last kept.batches log.rest.kept.entries kept.in_memory one.0 in
            let few = kept.few in
            let next = one.1 in
            omega (arith, next, least, few)

    -- one before it ends badly, and it isn't empty
    pub ReplaysNext-torn : old.is_clean ≡ false → 0 < log.size → (status : Status)
        → status.code ≡ Corruption → (new : Replay C)
        → ReplaysNext env choices limit number may_go_on old set from (Err status) new mid at
    ReplaysNext-torn torn some status code new = record {
      spares = replays.spares;
      ok = tt;
      used = tt;
      up_to = tt;
      room = tt;
      given = tt;
      ordered = tt;
      few = tt;
      cause = record {
        later = replays.cause.later;
        ok = tt;
        uncounted = λ excused. replays.cause.ok;
        cause = inl (inr (
          inr (
            code,
            λ modelled meaning agrees first start numbers later was.
                let of = replays.replays modelled meaning agrees in
                let size = of.size in
                torn_after choices.format.order meaning first set start
                (env.observed from).disk.files numbers old was number torn of.log of.number_is
                of.has_log (omega (arith, size, some)) later,
          ),
          replays.cause.ok,
        ));
      };
    }

    module _ (none : old.used ≡ None) (empty : old.is_clean ≡ false → log.size ≡ 0) where
      -- it is used on
      pub ReplaysNext-used : IsTrue may_go_on → log.is_clean ≡ true → log.tables.items ≡ []
          → (new : Replay C) (used : UsedLog C) → used.number ≡ number → used.size ≡ log.size
          → used.entries.kept.entries ≡ log.rest.kept.entries → new.used ≡ Some used
          → new.last ≡ log.last → IsBoth old.is_clean log.is_clean new.is_clean
          → new.tables.items ≡ old.tables.items → new.leaves_log ≡ old.leaves_log
          → ReplaysNext env choices limit number may_go_on old set from (Ok tt) new mid at
      ReplaysNext-used may is_clean not_in_tables new used number_is size_is entries_is used_is last both
          items leaves = record {
            spares = replays.spares;
            ok = λ modelled meaning agrees first start numbers was.
                HasReplayedLogs-used choices.format.order meaning first set start
                (env.observed from).disk.files numbers old was number none log mid
                (env.observed at).disk.files replays.spares.numbers
                (replays.spares.run modelled).has (replays.replays modelled meaning agrees) empty new
                is_clean (ap (map (λ (file : FileMetaData). new_file_of (0, file))) not_in_tables) used
                number_is size_is entries_is used_is last
                (still_clean old.is_clean log.is_clean new.is_clean both is_clean) items leaves;
            used = subst (λ it. IfSome it (λ some. IsTrue may_go_on × (some.number ≡ number)))
                (sym used_is) (may, number_is);
            up_to = subst (AreUpTo new.last) (sym (ap entries_to_write used_is ∙ entries_is))
                (subst (λ n. AreUpTo n log.rest.kept.entries) (sym last) replays.up_to);
            room = subst (λ it. IfSome it (λ some. IsFull limit some.entries.kept → ⊥))
                (sym used_is) (not_full limit log replays.room used.entries.kept entries_is);
            given = λ before. subst (λ made. AreNumbersGiven mid (made_files made)) (sym items)
                (given_later set mid replays.spares.numbers.rises (made_files old.tables.items)
                before);
            ordered = λ before. subst (λ made. AreOrdered choices.format.order (made_files made))
                (sym items) before;
            few = few_made mid (inl refl);
            cause = record {
              later = replays.cause.later;
              ok = replays.cause.ok;
              uncounted = tt;
              cause = tt;
            };
          }

      -- ---- its rest comes to tables

      module _ {now : VersionSetValue} {to : E} (spares : MakesTablesOnly env mid at now to) where
        abbrev both : MakesTablesOnly env set from now to
        both = MakesTablesOnly-trans env replays.spares spares

        -- why no table is made of it
        abbrev NotInTables : Status → Type 0
        NotInTables status =
            (log.rest.kept.entries ≢ []) × FailsToBuildRest env choices log mid status

        fails_at_log : (status : Status) → NotInTables status
            → FailsAtLog env choices set number from status
        fails_at_log status why =
            let kept = replays.batches in (
              kept.batches,
              kept.begins,
              fails_of_rest choices kept.batches log.rest.kept.entries kept.in_memory set.next_file
                  mid.next_file kept.few why.0 status why.1,
            )

        -- none is made
        pub ReplaysNext-not_in_tables : {T : Type 0} (status : Status)
            → HasCauseOr {T = T} NotInTables (env.failures at) (env.failures to)
            (Err status) → (new : Replay C)
            → ReplaysNext env choices limit number may_go_on old set from (Err status) new now to
        ReplaysNext-not_in_tables {T} status cause new = record {
          spares = both;
          ok = tt;
          used = tt;
          up_to = tt;
          room = tt;
          given = tt;
          ordered = tt;
          few = tt;
          cause = cause_of_error status
              (λ why. ⊎_elim (λ memory. inl memory)
              (λ it. inr (inl (fails_at_log status it.0), it.1)) why)
              (λ why. ⊎_elim (λ memory. inl (inl memory)) (λ it. inr it.1) why)
              (subst (λ count. HasCause {T = T} (λ e. IsOutOfMemory e
              ⊎ (NotInTables e × (env.failures to ≡ count))) count (env.failures to)
              (Err status)) replays.cause.ok cause);
        }

        module _ (counted : env.failures to ≡ env.failures at) where
          -- there is no memory for their list
          pub ReplaysNext-unlisted : (status : Status) → IsOutOfMemory status → (new : Replay C)
              → ReplaysNext env choices limit number may_go_on old set from (Err status) new now to
          ReplaysNext-unlisted status memory new = record {
            spares = both;
            ok = tt;
            used = tt;
            up_to = tt;
            room = tt;
            given = tt;
            ordered = tt;
            few = tt;
            cause = record {
              later = let later = replays.cause.later in omega (arith, later, counted);
              ok = tt;
              uncounted = λ excused. counted ∙ replays.cause.ok;
              cause = inl (inl memory);
            };
          }

          pub ReplaysNext-tables_made : (files : List FileMetaData) → TablesAll env choices.format log mid
              (map (λ (file : FileMetaData). new_file_of (0, file)) files) now to
              → (new : Replay C) → new.used ≡ None → new.last ≡ log.last
              → IsBoth old.is_clean log.is_clean new.is_clean
              → new.tables.items ≡ old.tables.items ++ files → new.leaves_log ≡ true
              → ReplaysNext env choices limit number may_go_on old set from (Ok tt) new now to
          ReplaysNext-tables_made files all new unused last clean items leaves = record {
            spares = both;
            ok = λ modelled meaning agrees first start numbers was.
                HasReplayedLogs-tables_made choices.format.order meaning first set start
                (env.observed from).disk.files numbers old was number none log mid
                (env.observed at).disk.files replays.spares.numbers
                (replays.spares.run modelled).has (replays.replays modelled meaning agrees) empty new
                now (env.observed to).disk.files spares.numbers (spares.run modelled).has all.tables
                (all.made_tables modelled meaning agrees) all.entries files all.files_are unused last
                (both_clean old.is_clean log.is_clean new.is_clean clean)
                (one_bad old.is_clean log.is_clean new.is_clean clean) items leaves;
            used = subst (λ it. IfSome it (λ some. IsTrue may_go_on × (some.number ≡ number)))
                (sym unused) tt;
            up_to = subst (AreUpTo new.last) (sym (ap entries_to_write unused))
                (λ entry c. absurd (in_none entry c));
            room = subst (λ it. IfSome it (λ some. IsFull limit some.entries.kept → ⊥))
                (sym unused) tt;
            given = λ before. subst (λ made. AreNumbersGiven now (made_files made)) (sym items)
                (given_append now old.tables.items files
                (given_later set now both.numbers.rises (made_files old.tables.items) before)
                (all.given replays.given));
            ordered = λ before. subst (λ made. AreOrdered choices.format.order (made_files made))
                (sym items) (ordered_append choices.format.order old.tables.items files before
                (all.ordered replays.ordered));
            few = few_made now all.few;
            cause = record {
              later = let later = replays.cause.later in omega (arith, later, counted);
              ok = counted ∙ replays.cause.ok;
              uncounted = tt;
              cause = tt;
            };
          }
