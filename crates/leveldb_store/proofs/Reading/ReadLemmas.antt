-- What a look-up finds in memory and in tables together, and what that is of a history.
use Rattle.std.specs.Prelude.{All, Contains, IfErr, IfOk, IsPermutation, IsSome, min}
use Rattle.std.proofs.Common.{false, ◌≡◌, inl, inr, ⊎_elim, ℕ, ◌<◌, ◌≤◌, ◌^◌, List, [], ◌∷◌, ◌++◌, Option, None, Some, Result, Ok, Err, refl, sym, ◌∙◌, subst, append_assoc, arith}
use Rattle.std.specs.declared.cmp.Ordering.{Ordering}
use Rattle.std.proofs.lemmas.List.Elements.{All-contains}
use Rattle.std.proofs.lemmas.List.Sorted.{Contains-permutation, IsPermutation-sym}
use Rattle.leveldb_base.proofs.EntriesLemmas.{finds_after, in_map}
use Rattle.leveldb_base.proofs.HistoryLemmas.{in_cases, in_none}
use Rattle.leveldb_base.proofs.LayersLemmas.{finds_first, found_is_value}
use Rattle.leveldb_base.specs.CmpLaws.{sequence_part-internal_key, user_part-internal_key}
use Rattle.leveldb_base.specs.Entries.{FindsNewest, HasNewest, is_absent, value_found}
use Rattle.leveldb_base.specs.declared.types.Lookup.{Lookup}
use Rattle.leveldb_base.specs.declared.types.Lookup.TheVariants.{Value, Deleted, Absent}
use Rattle.leveldb_base.specs.Error.{IsOutOfMemory}
use Rattle.leveldb_base.specs.History.{AreUpTo, Entry, History, IsValueAt, SameView, entries_of}
use Rattle.leveldb_base.specs.KeyTypes.{greatest_sequence, sequence_part, user_part}
use Rattle.leveldb_base.specs.declared.cmp.Cmp.{Ghosts as CmpGhosts}
use Rattle.leveldb_base.specs.declared.cmp.internal.InternalKeyCmp.{InternalKeyCmp}
use Rattle.leveldb_base.specs.declared.error.Status.{Status}
use Rattle.leveldb_base.specs.declared.key_types.ValueType.TheVariants.{TypeValue}
use Rattle.leveldb_env.specs.Env.{Files}
use Rattle.leveldb_env.specs.declared.env.Env.{Ghosts as EnvGhosts}
use Rattle.leveldb_table.proofs.TableBlockLemmas.{KeepsDisk-refl, fails_ok, fails_own, fails_refused, reads_ok, reads_own, reads_refused}
use Rattle.leveldb_table.specs.TableBlock.{FailsFor, ReadsFile}
use Rattle.leveldb_files.proofs.Stores.OneStoreLemmas.{in_flat}
use Rattle.leveldb_files.specs.Stores.Batches.{Each}
use Rattle.leveldb_files.specs.Stores.Format.{Agrees, IsTableOf, Meaning}
use Rattle.leveldb_files.specs.Levels.Levels.{LevelOrder, LiveTable, table_entries}
use Rattle.leveldb_version.specs.Versions.Search.{AreDisjointLevels, AreOpenTablesMatched, AreVersionTables, LooksUpNewest}
use Rattle.leveldb_files.specs.Stores.Store.{HasTable, IsInternalPair}
use Rattle.leveldb_version.specs.Tables.TableCache.{TableOptions, files_at, table_at}
use Rattle.leveldb_version.specs.Versions.Version.{new_files_of}
use Rattle.leveldb_files.specs.Edits.Edit.{NewFile}
use Rattle.leveldb_version.specs.declared.table_cache.TableCache.{TableCache}
use Rattle.leveldb_version.specs.declared.version.GetStats.{GetStats}
use Rattle.leveldb_store.proofs.Keeping.LevelsApartLemmas.{permuted_apart}
use Rattle.leveldb_version_set.specs.Sets.CurrentVersion.{IsCurrent}
use Rattle.leveldb_store.specs.Keeping.OpenStore.{AreNumbersGiven, OpenStoreValue}
use Rattle.leveldb_store.specs.Keeping.OpenTables.{AreOpenTablesOf}
use Rattle.leveldb_store.specs.Reading.Read.{FindsInMemory, HasOpenTables, LooksUpKey, charge_of, in_memory, sought_key, value_searched, with_charge}
use Rattle.leveldb_store.specs.Keeping.Written.{HasLiveTables, HasView, imm_entries}

-- ---- what is found of a key

-- no entry is past the greatest number, so the newest up to it is the newest up to each number
-- above
newest_up_to : (entries : List Entry) (s : ℕ) (key : List ℕ) (value : Option (List ℕ)) → AreUpTo greatest_sequence entries → HasNewest entries (min s greatest_sequence) key value → HasNewest entries s key value
newest_up_to entries s key value up_to has = record {
  entry = has.entry;
  newest = record {
    there = has.newest.there;
    seen = let seen = has.newest.seen in omega (arith, seen);
    newest = λ other c k seen. has.newest.newest other c k (let most = up_to other c in omega (arith, seen, most));
  };
  key_is = has.key_is;
  value_is = has.value_is;
  only = λ other newest k. has.only other (record {
    there = newest.there;
    seen = let most = up_to other newest.there in let seen = newest.seen in omega (arith, seen, most);
    newest = λ more c l seen. newest.newest more c l (omega (arith, seen));
  }) k;
}

-- so with what is found
pub finds_up_to : (entries : List Entry) (s : ℕ) (key : List ℕ) (found : Lookup (List ℕ)) → AreUpTo greatest_sequence entries → FindsNewest entries (min s greatest_sequence) key found → FindsNewest entries s key found
finds_up_to entries s key Absent up_to none = λ entry c k seen. none entry c k (let most = up_to entry c in omega (arith, seen, most))
finds_up_to entries s key Deleted up_to has = newest_up_to entries s key None up_to has
finds_up_to entries s key (Value value) up_to has = newest_up_to entries s key (Some value) up_to has

-- ---- the live tables

-- each of the second elements has a partner
each_in : {A B : Type 0} (R : A → B → Type 0) (xs : List A) (ys : List B) (y : B) → Each R xs ys → Contains ys y → (x : A) × R x y
each_in R xs [] y each c = absurd (in_none y c)
each_in R [] (b ∷ ys) y each c = absurd each
each_in R (a ∷ xs) (b ∷ ys) y each c = ⊎_elim
    (λ (is : b ≡ y). (a, subst (R a) is each.0))
    (λ (rest : Contains ys y). each_in R xs ys y each.1 rest)
    (in_cases b y ys c)

-- no entry of a table has a number past the greatest
tables_up_to : (cmp : List ℕ → List ℕ → Ordering) (meaning : Meaning) (store : List ℕ)
    (files : Files) (live : List LiveTable)
    → All (HasTable store cmp (IsTableOf cmp meaning) files) live
    → AreUpTo greatest_sequence (table_entries live)
tables_up_to cmp meaning store files live each entry c =
    let from = in_flat (λ (t : LiveTable). t.entries) live entry c in
    let table = All-contains (HasTable store cmp (IsTableOf cmp meaning) files) live from.0 each
    from.1 in
    let pair = each_in IsInternalPair table.pairs from.0.entries entry table.each from.2 in
    let fits = pair.1.fits in
    omega (arith, fits)

-- ---- a history

-- the same view gives the same value
value_same : (these those : List Entry) (s : ℕ) (key : List ℕ) (found : Option (List ℕ)) → SameView these those s → IsValueAt these s key found → IsValueAt those s key found
value_same these those s key None same none = λ value there. none value ((same key value).1 there)
value_same these those s key (Some value) same there = (same key value).0 there

module _ {E F C FP : Type 0} (order : CmpGhosts (InternalKeyCmp C)) (env : EnvGhosts E F)
    (by : TableOptions C FP) (old : OpenStoreValue C) (from : E)
    (tables : TableCache E C FP F) (sequence : ℕ) (key : List ℕ) where
  abbrev Gets : Result (Option (List ℕ)) Status → OpenStoreValue C → E
      → TableCache E C FP F → Type 0
  Gets = LooksUpKey order env by old from tables sequence key

  -- what memory and tables have is the key's value in the history that they show
  shown : {meaning : Meaning} {files : Files} {history : History} {since : ℕ}
      → since ≤ sequence
      → (shows : HasView by.format.order meaning old files history since)
      → (found : Lookup (List ℕ))
      → FindsNewest (in_memory old ++ table_entries shows.tables) sequence key found
      → IsValueAt (entries_of history) sequence key (value_found found)
  shown {history = history} bound shows found all =
      let mem = old.mem.entries in
      let imm = imm_entries old.imm in
      let entries = table_entries shows.tables in
      value_same (mem ++ (imm ++ entries)) (entries_of history) sequence key
      (value_found found) (shows.shows.same sequence bound)
      (found_is_value (mem ++ (imm ++ entries)) sequence key found
      (subst (λ es. FindsNewest es sequence key found) (append_assoc mem imm entries) all))

  -- ---- memory has the key

  pub got_in_memory : (found : Lookup (List ℕ)) → is_absent found ≡ false
      → FindsInMemory old sequence key found → (result : Result (Option (List ℕ)) Status)
      → IfOk result (λ copy. copy ≡ value_found found)
      → IfErr result IsOutOfMemory → Gets result old from tables
  got_in_memory found some finds result copy memory = record {
    finds = λ opened meaning agrees history since bound shows. by_result history result copy
        (shown bound shows found (finds_first (in_memory old) (table_entries shows.tables) sequence key
        found some shows.shows.tables_older (finds shows.shows.imm_older)));
    reads = read result memory;
    lacks = λ meaning live has. fails_of result memory;
    still_open = λ opened. opened.are;
    way = inl (record {
      found = found;
      there = some;
      finds = finds;
      copy = copy;
      memory = memory;
      nothing_changes = (refl, refl, refl);
    });
  }
    where
      by_result : (history : History) (result : Result (Option (List ℕ)) Status)
          → IfOk result (λ copy. copy ≡ value_found found)
          → IsValueAt (entries_of history) sequence key (value_found found)
          → IfOk result (IsValueAt (entries_of history) sequence key)
      by_result history (Ok copy) same is =
          subst (IsValueAt (entries_of history) sequence key) (sym same) is
      by_result history (Err status) same is = tt

      read : {Why : Status → Type 0} (result : Result (Option (List ℕ)) Status)
          → IfErr result IsOutOfMemory → ReadsFile env Why from from result
      read (Ok copy) memory = reads_ok env (KeepsDisk-refl env from) refl
      read (Err status) memory = reads_own env {P = IsOutOfMemory} (Err status)
          (KeepsDisk-refl env from) refl memory (λ other out. inl out)

      fails_of : {Why : Status → Type 0} (result : Result (Option (List ℕ)) Status)
          → IfErr result IsOutOfMemory → FailsFor env Why from from result
      fails_of {Why} result memory = (read {Why = Why} result memory).cause

  -- ---- it is searched for in tables

  module _ {compares : List ℕ → List ℕ → Ordering} (current : IsCurrent compares old.cmp old.set old.current)
      (given : AreNumbersGiven old.set old.set.full.added)
      (apart : AreDisjointLevels by.format.order old.set.full.added)
      (none : FindsInMemory old sequence key Absent)
      (searched : Result (Lookup (List ℕ) × GetStats) Status) {to : E}
      {now : TableCache E C FP F}
      (searches : LooksUpNewest order env by (sought_key sequence key) from tables old.current searched to now)
    where
      matched : HasOpenTables order env by old from tables
          → AreOpenTablesMatched order env by (sought_key sequence key) from tables
      matched opened = record { modelled = opened.modelled; matches = opened.are.matches }

      -- the live tables are the version's
      version_tables : HasOpenTables order env by old from tables → (meaning : Meaning)
          → (live : List LiveTable)
          → HasLiveTables by.format.order meaning old (files_at env from) live
          → LevelOrder by.format.order live
          → AreVersionTables order env by (sought_key sequence key) from tables old.current meaning live
      version_tables opened meaning live has levels = record {
        files_are = subst (λ files. IsPermutation files (new_files_of old.current))
            (sym has.files_are) current.same_files;
        each = subst (λ s. All (HasTable s by.format.order (IsTableOf by.format.order meaning)
            (files_at env from)) live) (sym opened.are.path) has.each;
        levels = levels;
      }

      -- each table that is open has a number that was given
      open_given : HasOpenTables order env by old from tables → (number : ℕ) → number < 2 ^ 64
          → IsSome (table_at now number) → number < old.set.next_file
      open_given opened number fits is_open = ⊎_elim
          (λ before. opened.are.given number fits before)
          (λ there.
          let file = in_map (λ (it : NewFile). it.number) (new_files_of old.current) number there in
          let live = Contains-permutation (new_files_of old.current) old.set.full.added file.0
          (IsPermutation-sym old.set.full.added (new_files_of old.current) current.same_files)
          file.1 in
          let below = All-contains (λ (it : NewFile). it.number < old.set.next_file)
          old.set.full.added file.0 given live in
          subst (λ n. n < old.set.next_file) file.2 below)
          (searches.cache.opened number fits is_open)

      still_open : HasOpenTables order env by old from tables
          → AreOpenTablesOf order env by old.set (files_at env to) now
      still_open opened = record {
        path = searches.cache.path ∙ opened.are.path;
        given = open_given opened;
        matches = searches.cache.matches (matched opened);
      }

      -- the key's value is what memory and tables have of it
      finds_value : HasOpenTables order env by old from tables → (meaning : Meaning)
          → Agrees by.format meaning → (history : History) (since : ℕ) → since ≤ sequence
          → (shows : HasView by.format.order meaning old (files_at env from) history since)
          → (found : Lookup (List ℕ))
          → FindsNewest (table_entries shows.tables) (sequence_part (sought_key sequence key))
          (user_part (sought_key sequence key)) found
          → IsValueAt (entries_of history) sequence key (value_found found)
      finds_value opened meaning agrees history since bound shows found finds =
          let n = min sequence greatest_sequence in
          let entries = table_entries shows.tables in
          let here : FindsNewest entries n key found =
          subst (λ k. FindsNewest entries n k found) (user_part-internal_key key n TypeValue)
          (subst (λ m. FindsNewest entries m (user_part (sought_key sequence key)) found)
          (sequence_part-internal_key key n TypeValue (omega arith)) finds) in
          shown bound shows found (finds_after (in_memory old) entries sequence key found
          (none shows.shows.imm_older)
          (finds_up_to entries sequence key found (tables_up_to by.format.order meaning old.set.store
          (files_at env from) shows.tables shows.has.each) here))

      pub got_in_tables : Gets (value_searched searched)
          (with_charge old (charge_of searched)) to now
      got_in_tables = record {
        finds = λ opened meaning agrees history since bound shows. value_of
            (FindsNewest (table_entries shows.tables) (sequence_part (sought_key sequence key))
            (user_part (sought_key sequence key)))
            (IsValueAt (entries_of history) sequence key) searched
            (λ found finds. finds_value opened meaning agrees history since bound shows found
            finds)
            (searches.finds (matched opened) meaning agrees shows.tables
            (version_tables opened meaning shows.tables shows.has shows.shows.levels));
        reads = read_of searched searches.reads;
        lacks = λ meaning live has. fails_of searched (searches.lacks (matched has.has_open) meaning
            has.agrees live (version_tables has.has_open meaning live has.has_live has.levels));
        still_open = still_open;
        way = inr (record {
          none = none;
          apart = permuted_apart by.format.order old.set.full.added (new_files_of old.current)
              current.same_files apart;
          searched = searched;
          searches = searches;
          result_is = refl;
          charges = refl;
        });
      }
        where
          value_of : (P : Lookup (List ℕ) → Type 0) (Q : Option (List ℕ) → Type 0)
              (searched : Result (Lookup (List ℕ) × GetStats) Status)
              → ((found : Lookup (List ℕ)) → P found → Q (value_found found))
              → IfOk searched (λ found. P found.0)
              → IfOk (value_searched searched) Q
          value_of P Q (Ok it) to finds = to it.0 finds
          value_of P Q (Err status) to finds = tt

          read_of : {Why : Status → Type 0}
              (searched : Result (Lookup (List ℕ) × GetStats) Status)
              → ReadsFile env Why from to searched
              → ReadsFile env Why from to (value_searched searched)
          read_of (Ok it) reads = reads_ok env reads.kept_disk reads.cause.ok
          read_of (Err status) reads = reads_refused env (Err status) refl reads

          fails_of : {Why : Status → Type 0}
              (searched : Result (Lookup (List ℕ) × GetStats) Status)
              → FailsFor env Why from to searched
              → FailsFor env Why from to (value_searched searched)
          fails_of (Ok it) cause = fails_ok env cause.ok
          fails_of (Err status) cause = fails_refused env (Err status) refl cause

  -- ---- there is no memory for the key that is searched for

  pub not_searched : (status : Status) → IsOutOfMemory status
      → LooksUpNewest order env by (sought_key sequence key) from tables old.current (Err status) from tables
  not_searched status memory = record {
    finds = λ matched meaning agrees live are. tt;
    goes = λ apart. tt;
    reads = reads_own env {P = IsOutOfMemory} (Err status) (KeepsDisk-refl env from) refl memory
        (λ other out. inl out);
    unread = λ matched. fails_own env {P = IsOutOfMemory} (Err status) refl memory
        (λ other out. inl out);
    stops = λ apart matched. fails_own env {P = IsOutOfMemory} (Err status) refl memory
        (λ other out. inl out);
    lacks = λ matched meaning agrees live are. fails_own env {P = IsOutOfMemory} (Err status) refl
        memory (λ other out. inl out);
    cache = record {
      path = refl;
      room = refl;
      block_room = refl;
      matches = λ matched. matched.matches;
      opened = λ number fits is_open. inl is_open;
    };
  }
