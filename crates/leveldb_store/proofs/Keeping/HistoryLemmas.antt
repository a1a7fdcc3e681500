-- What an open store holds of a history from one call to the next: what it shows, what a call keeps
-- that adds no batch, and calls after each other.
use Rattle.std.specs.Prelude.{◌≤◌, All, Contains}
use Rattle.std.proofs.Common.{◌≡◌, ◌∷◌, ◌++◌, ◌+◌, ℕ, Bool, List, [], length, map, Option, None, Some, append-nil, arith, refl, subst, sym}
use Rattle.std.proofs.lemmas.List.Elements.{All-cons, All-nil}
use Rattle.std.specs.declared.cmp.Ordering.{Ordering}
use Rattle.leveldb_base.proofs.HistoryLemmas.{in_front, in_rest}
use Rattle.leveldb_base.specs.History.{Entry, History, count_of, entries_of, greatest}
use Rattle.leveldb_env.proofs.EnvLemmas.{Run-mono, Run-trans}
use Rattle.leveldb_env.specs.Env.{Files, Observed, Run}
use Rattle.leveldb_files.proofs.Steps.KeepsLemmas.{keeping_holds}
use Rattle.leveldb_files.proofs.Histories.SafeLemmas.{safe_more}
use Rattle.leveldb_version_set.proofs.Engines.ShownLemmas.{written_is_shown}
use Rattle.leveldb_files.specs.Stores.Contents.{Store}
use Rattle.leveldb_files.specs.Histories.Holds.{Holds, IsSafe}
use Rattle.leveldb_files.specs.Levels.Levels.{LiveTable}
use Rattle.leveldb_files.specs.Stores.Store.{HasTable, IsStore}
use Rattle.leveldb_files.specs.Steps.StoreSteps.{KeepsHistory}
use Rattle.leveldb_files.specs.Edits.Edit.{NewFile}
use Rattle.leveldb_store.proofs.Keeping.TableKeepsLemmas.{live_tables, one_reading_of}
use Rattle.leveldb_files.specs.Stores.Format.{IsTableOf, Meaning}
use Rattle.leveldb_store.specs.Keeping.OpenStore.{IsUnbroken, OpenStoreValue}
use Rattle.leveldb_store.specs.Writing.WriteBatch.{AddsBatch, HoldsBatches, IsOf, LeavesHistory, MakesDurable, SparesBatches}
use Rattle.leveldb_store.specs.Keeping.Written.{HasLiveTables, IsWritten, KeepsStore, HasView, memory_of}

-- ---- what is shown

-- tables of files, one for each, in their order
pub tables_for : (P : LiveTable → Type 0) (files : List NewFile)
    → ((file : NewFile) → Contains files file
    → (table : LiveTable) × P table × (table.file ≡ file))
    → (tables : List LiveTable)
    × (map (λ (table : LiveTable). table.file) tables ≡ files) × All P tables
tables_for P [] each = ([], refl, All-nil P)
tables_for P (file ∷ files) each =
    let one = each file (in_front file files) in
    let rest = tables_for P files (λ other c. each other (in_rest file other files c)) in
    (one.0 ∷ rest.0, λ i. one.2 i ∷ rest.1 i, All-cons P one.0 rest.0 one.1 rest.2)

module _ {C : Type 0} (cmp : List ℕ → List ℕ → Ordering) (meaning : Meaning) where
  -- a store that is written has its live tables
  live_tables_of : (value : OpenStoreValue C) (files : Files) → IsWritten cmp meaning value files
      → (tables : List LiveTable) × HasLiveTables cmp meaning value files tables
  live_tables_of value files w =
      let has = w.by.tracked.managed.has_tables in
      let found = tables_for
      (HasTable value.set.store cmp (IsTableOf cmp meaning) files) value.set.full.added
      (λ file c.
      let live = (w.by.tracked.tracks.left.full.added.live file).0 c in
      let table = has.all file live in
      (table.0, (has.each table.0 table.1).0, table.2)) in
      (found.0, record { files_are = found.1; each = found.2 })

  module _ (allowed : Store → Type 0) where
    -- a store that is written shows the history that it holds
    pub written_shows : (value : OpenStoreValue C) (files : Files) (history : History)
        (durable : ℕ) → IsWritten cmp meaning value files
        → HoldsBatches cmp meaning allowed value files history durable None
        → HasView cmp meaning value files history (greatest (entries_of history))
    written_shows value files history durable w holds =
        let t = live_tables_of value files w in
        record {
          tables = t.0;
          has = t.1;
          shows = written_is_shown value.set.store cmp (IsTableOf cmp meaning) allowed
              (one_reading_of cmp meaning) files w.edits (memory_of value) w.by history
              value.set.last_sequence durable holds t.0
              (live_tables cmp meaning value.set.store files w.edits (memory_of value) w.by t.0
              t.1.files_are t.1.each);
        }

    -- ---- calls that add no batch

    module _ (old new : OpenStoreValue C) (from to : Observed) (history : History) (durable : ℕ)
        (is_of : IsOf cmp meaning allowed old from.disk.files history durable)
        (keeps : KeepsStore cmp meaning allowed old from new to)
        (same_store : new.set.store ≡ old.set.store)
        (same_last : new.set.last_sequence ≡ old.set.last_sequence) where
      abbrev bound : ℕ
      bound = old.set.last_sequence + count_of None

      kept : Run
          (KeepsHistory old.set.store cmp (IsTableOf cmp meaning) allowed bound from.disk.files)
          from to
      kept = keeps.moments bound (omega arith)

      holds_then : HoldsBatches cmp meaning allowed new to.disk.files history durable None
      holds_then =
          subst (λ s. Holds s (IsStore s cmp (IsTableOf cmp meaning)) allowed to.disk.files history
          new.set.last_sequence durable None) (sym same_store)
          (subst (λ last. Holds old.set.store
          (IsStore old.set.store cmp (IsTableOf cmp meaning)) allowed to.disk.files history last
          durable None) (sym same_last)
          (keeping_holds old.set.store cmp (IsTableOf cmp meaning) allowed from.disk.files
          to.disk.files history old.set.last_sequence durable None kept.has is_of.holds))

      -- what keeps the store leaves the history
      pub keeps_history : LeavesHistory cmp meaning allowed old from history durable None new to
      keeps_history = record {
        written = λ unbroken. (refl, keeps.written unbroken);
        shows = keeps.shows history;
        holds = holds_then;
        moments = Run-mono (λ files each. each.crash durable history is_of.holds.crash) kept;
      }

      -- and the store is of it on, unless the call broke it
      pub keeps_being_of : IsUnbroken new
          → IsOf cmp meaning allowed new to.disk.files history durable
      keeps_being_of unbroken = record { written = keeps.written unbroken; holds = holds_then }

    -- a store that a call leaves unbroken is of the history on
    pub left_is_of : (old new : OpenStoreValue C) (from to : Observed) (history : History)
        (durable : ℕ) → LeavesHistory cmp meaning allowed old from history durable None new to
        → IsUnbroken new → IsOf cmp meaning allowed new to.disk.files history durable
    left_is_of old new from to history durable leaves unbroken = record {
      written = (leaves.written unbroken).1;
      holds = leaves.holds;
    }

    -- ---- a call after one that left the history

    module _ (first mid : OpenStoreValue C) (a b : Observed) (history : History) (durable : ℕ)
        (left : LeavesHistory cmp meaning allowed first a history durable None mid b) where
      -- whatever is safe for all that a second call has at risk is so from the first one's start
      spared_from : (value : OpenStoreValue C) (c : Observed) (more : History) (bound : ℕ)
          → value.set.store ≡ first.set.store → first.set.last_sequence + 0 ≤ bound
          → Run (IsSafe value.set.store (IsStore value.set.store cmp (IsTableOf cmp meaning))
          allowed bound durable (history ++ more)) b c
          → Run (IsSafe value.set.store (IsStore value.set.store cmp (IsTableOf cmp meaning))
          allowed bound durable (history ++ more)) a c
      spared_from value c more bound same most second =
          let Safe : List ℕ → Files → Type 0 =
          λ s. IsSafe s (IsStore s cmp (IsTableOf cmp meaning)) allowed bound durable
          (history ++ more) in
          let first_run : Run (Safe first.set.store) a b = Run-mono
          (λ files safe.
          safe_more first.set.store (IsStore first.set.store cmp (IsTableOf cmp meaning)) allowed
          (first.set.last_sequence + 0) bound durable durable history more files most
          (omega arith) safe) left.moments in
          Run-trans (subst (λ s. Run (Safe s) a b) (sym same) first_run) (λ files safe. safe)
          second

      module _ (last : OpenStoreValue C) (c : Observed)
          (same_store : last.set.store ≡ first.set.store)
          (later : first.set.last_sequence ≤ last.set.last_sequence) where
        -- it adds a batch
        pub adds_after : (batch : List Entry) (sync : Bool)
            → AddsBatch cmp meaning allowed mid b history durable batch sync last c
            → AddsBatch cmp meaning allowed first a history durable batch sync last c
        adds_after batch sync adds = record {
          durable_now = adds.durable_now;
          grows = adds.grows;
          synced = adds.synced;
          is_of = adds.is_of;
          shows = λ since s. adds.shows since (left.shows since s);
          moments = spared_from last c (batch ∷ []) (last.set.last_sequence + 0) same_store
              (omega (arith, later)) adds.moments;
        }

        -- it makes all durable
        pub durable_after : MakesDurable cmp meaning allowed mid b history durable last c
            → MakesDurable cmp meaning allowed first a history durable last c
        durable_after makes = record {
          is_of = makes.is_of;
          shows = λ since s. makes.shows since (left.shows since s);
          moments = subst (λ h. Run
              (IsSafe last.set.store (IsStore last.set.store cmp (IsTableOf cmp meaning)) allowed
              (last.set.last_sequence + 0) durable h) a c) (append-nil history)
              (spared_from last c [] (last.set.last_sequence + 0) same_store (omega (arith, later))
              (subst (λ h. Run
              (IsSafe last.set.store (IsStore last.set.store cmp (IsTableOf cmp meaning)) allowed
              (last.set.last_sequence + 0) durable h) b c) (sym (append-nil history))
              makes.moments));
        }

      module _ (same_store : mid.set.store ≡ first.set.store)
          (same_last : mid.set.last_sequence ≡ first.set.last_sequence) where
        abbrev SparesFrom : List ℕ → ℕ → Observed → Observed → History → Type 0
        SparesFrom s bound at now whole =
            Run (IsSafe s (IsStore s cmp (IsTableOf cmp meaning)) allowed bound durable whole) at
            now

        -- it leaves the history too, perhaps with a batch pending
        pub leaves_after : (pending : Option (List Entry)) (last : OpenStoreValue C) (c : Observed)
            → LeavesHistory cmp meaning allowed mid b history durable pending last c
            → LeavesHistory cmp meaning allowed first a history durable pending last c
        leaves_after pending last c leaves = record {
          written = leaves.written;
          shows = λ since s. leaves.shows since (left.shows since s);
          holds = leaves.holds;
          moments = by pending leaves.moments;
        }
          where
            at_first : (bound : ℕ) (more : History)
                → SparesFrom mid.set.store bound b c (history ++ more)
                → first.set.last_sequence + 0 ≤ bound
                → SparesFrom first.set.store bound a c (history ++ more)
            at_first bound more second most = subst
                (λ s. SparesFrom s bound a c (history ++ more)) same_store
                (spared_from mid c more bound same_store most second)

            numbered : (count : ℕ) (whole : History)
                → SparesFrom first.set.store (mid.set.last_sequence + count) a c whole
                → SparesFrom first.set.store (first.set.last_sequence + count) a c whole
            numbered count whole = subst
                (λ n. SparesFrom first.set.store (n + count) a c whole) same_last

            by : (batch : Option (List Entry))
                → SparesBatches cmp meaning allowed mid history durable batch b c
                → SparesBatches cmp meaning allowed first history durable batch a c
            by None second = numbered 0 history
                (subst (SparesFrom first.set.store (mid.set.last_sequence + 0) a c)
                (append-nil history)
                (at_first (mid.set.last_sequence + 0) []
                (subst (SparesFrom mid.set.store (mid.set.last_sequence + 0) b c)
                (sym (append-nil history)) second) (omega (arith, same_last))))
            by (Some batch) second = numbered (length batch) (history ++ batch ∷ [])
                (at_first (mid.set.last_sequence + length batch) (batch ∷ []) second
                (omega (arith, same_last)))
