-- The laws of a walk over the tables of files. They are in specs/ since its impl of `Walk` proves
-- them by this, and the checker takes no term of proofs/ there.
use Rattle.std.specs.Prelude.{◌<◌, ◌≤◌, ◌^◌}
use Rattle.std.proofs.Common.{◌≡◌, ℕ, List, Option, None, Some, refl, sym, ◌∙◌, ap, subst, inl, inr, arith}
use Rattle.std.specs.Borrow.{Bor}
use Rattle.std.specs.declared.cmp.Ordering.{Ordering}
use Rattle.leveldb_base.specs.Types.{IsPosition, Pair, pair_at}
use Rattle.leveldb_base.specs.declared.cmp.Cmp.{Ghosts as CmpGhosts}
use Rattle.leveldb_base.specs.declared.cmp.internal.InternalKeyCmp.{InternalKeyCmp}
use Rattle.leveldb_base.specs.declared.error.Status.{Status}
use Rattle.leveldb_base.specs.declared.error.StatusCode.TheVariants.{NotSupported}
use Rattle.leveldb_env.specs.Compressor.{Codings}
use Rattle.leveldb_env.specs.Env.{Files}
use Rattle.leveldb_env.specs.declared.env.Env.{Ghosts as EnvGhosts}
use Rattle.leveldb_env.specs.declared.filter.FilterPolicy.{Ghosts as FilterGhosts}
use Rattle.leveldb_iter.specs.Walk.{KeyOrder, WalkLaws, key_order}
use Rattle.leveldb_table.proofs.TableBlockLemmas.{KeepsDisk-refl, KeepsDisk-trans, same_files}
use Rattle.leveldb_table.proofs.TableReaderWalkLemmas.{current_at, within_in}
use Rattle.leveldb_table.specs.BlockWalk.{position_over}
use Rattle.leveldb_table.specs.Table.{Part}
use Rattle.leveldb_table.specs.TableReader.{pairs_in}
use Rattle.leveldb_table.specs.TableReaderWalk.{IsAtPairOrNone, TablePlace, inner_pairs, inner_position}
use Rattle.leveldb_files.specs.Stores.Batches.{Each}
use Rattle.leveldb_files.specs.Stores.Format.{Agrees, IsTableFault, LacksCompressor, Meaning}
use Rattle.leveldb_files.specs.Stores.Paths.{table_path}
use Rattle.leveldb_version.specs.Tables.TableCache.{TableOptions, files_at, options_by, store_of}
use Rattle.leveldb_version.specs.Tables.TableMoves.{AreTablesMatched, FileTable, IsAtInTable, IsIndexedFor, IsTableAt, KeepsTables, core_here, table_pairs}
use Rattle.leveldb_version.specs.Edits.VersionEdit.{new_file_of}
use Rattle.leveldb_version.specs.Walks.VersionIter.{AreTablesThere, FailsInTables, FailsOr, IsAtInTables, IsOverTables, KeepsReading, reading, table_in, table_parts, version_here}
use Rattle.leveldb_version.specs.declared.table_cache.moves.ReadTables.{ReadTables}
use Rattle.leveldb_version.specs.declared.version_iter.VersionIter.{VersionIter}

-- the pair of a walk over a table is the one at its position there
here_in_table : {C : Type 0} (order : CmpGhosts C) (cmp : List ℕ → List ℕ → Ordering)
    (parts : List Part) (core : Option (TablePlace C)) (inner : Option ℕ)
    → IsAtInTable order cmp parts core inner → core_here core ≡ pair_at (pairs_in parts) inner
here_in_table order cmp parts None inner at = sym (ap (pair_at (pairs_in parts)) at)
here_in_table order cmp parts (Some core) inner at =
    current_at parts (position_over core.index) (inner_pairs core.inner) (inner_position core.inner)
    inner at.at

-- a position in a list with the pairs of a table
in_range_of : (parts : List Part) (line : Option ℕ) (pairs : List Pair) (inner position : Option ℕ)
    → IsAtPairOrNone parts line pairs inner position → IsPosition (pairs_in parts) position
in_range_of parts line pairs inner None at = tt
in_range_of parts line pairs inner (Some n) at = within_in at

module _ {E C FP K F : Type 0} (env : EnvGhosts E F) (cmp : CmpGhosts C) (filters : FilterGhosts FP)
    (codings : K → Codings) where
  -- a reason in a later world is one in an earlier
  fails_or_before : (first second : E × ReadTables E C FP K F)
      → env.failures first.0 ≤ env.failures second.0
      → (These Those : Type 0) → (These → Those)
      → (later : E × ReadTables E C FP K F) (status : Status)
      → FailsOr env cmp filters codings These second later status
      → FailsOr env cmp filters codings Those first later status
  fails_or_before first second counted These Those along later status (inl out) = inl out
  fails_or_before first second counted These Those along later status (inr (inl more)) =
      inr (inl (omega (arith, counted, more)))
  fails_or_before first second counted These Those along later status (inr (inr (inl most))) =
      inr (inr (inl most))
  fails_or_before first second counted These Those along later status (inr (inr (inr why))) =
      inr (inr (inr (along why)))

module _ {E C FP K F : Type 0} {order : CmpGhosts (InternalKeyCmp C)} {env : EnvGhosts E F}
    {cmp : CmpGhosts C} {filters : FilterGhosts FP} {codings : K → Codings} where
  -- tables are read with the same options
  pub reading_stays : (first second : E × ReadTables E C FP K F)
      → KeepsReading order env cmp filters codings first second
      → reading env cmp filters codings second.1 ≡ reading env cmp filters codings first.1
  reading_stays first second kept =
      ap (λ (c : C). options_by cmp filters (codings second.1.compressors.now) c second.1.policy)
      kept.cmp_stays
      ∙ ap (λ (p : FP). options_by cmp filters (codings second.1.compressors.now) first.1.cmp p)
      kept.policy_stays
      ∙ ap (λ (k : Bor K). options_by cmp filters (codings k.now) first.1.cmp first.1.policy)
      kept.compressors_stay

  -- tables that are there stay there, for the same files
  pub there_stays : (first second : E × ReadTables E C FP K F)
      → KeepsReading order env cmp filters codings first second
      → (it : VersionIter C) (meaning : Meaning) (tables : List FileTable)
      → AreTablesThere order env cmp filters codings meaning first it tables
      → AreTablesThere order env cmp filters codings meaning second it tables
  there_stays first second kept it meaning tables there =
      let e = sym (reading_stays first second kept) in
      let keeps = kept.tables in let matched = there.matched in
      let Each-in : ℕ → TableOptions C FP → Files → List ℕ → Type 0 = λ below by files store.
      Each (λ file table. ((new_file_of file).number < 2 ^ 64)
      × ((new_file_of file).largest ≡ table.largest)
      × IsTableAt by.format.order meaning files (table_path store (new_file_of file).number) table
      × ((new_file_of file).number < below)) it.files.now tables in
      record {
        matched = subst (λ (by : TableOptions C FP).
            AreTablesMatched order env by second.0 second.1.cache.now) e (keeps.matches matched);
        agrees = subst (λ (by : TableOptions C FP). Agrees by.format meaning) e there.agrees;
        each = subst (λ (by : TableOptions C FP). Each-in second.1.below by
            (files_at env second.0) (store_of second.1.cache.now)) e
            (subst (λ (files : Files). Each-in second.1.below
            (reading env cmp filters codings first.1) files (store_of second.1.cache.now))
            (sym (same_files env keeps.disk matched.modelled))
            (subst (λ (store : List ℕ). Each-in second.1.below
            (reading env cmp filters codings first.1) (files_at env first.0) store)
            (sym keeps.path)
            (subst (λ (below : ℕ). Each-in below (reading env cmp filters codings first.1)
            (files_at env first.0) (store_of first.1.cache.now)) (sym kept.below_stays)
            there.each)));
        indexed = subst (λ (c : C). IsIndexedFor order (order.cmp (record { 0 = c }))
            (table_in tables it.at).parts it.core) (sym kept.cmp_stays) there.indexed;
      }

  -- an error that a walk may have later it may have before, if the tables of the one before are
  -- there for it
  pub fails_before : (first second : E × ReadTables E C FP K F)
      → KeepsReading order env cmp filters codings first second → (old new : VersionIter C)
      → ((meaning : Meaning) (tables : List FileTable)
      → AreTablesThere order env cmp filters codings meaning first old tables
      → AreTablesThere order env cmp filters codings meaning second new tables)
      → (later : E × ReadTables E C FP K F) (status : Status)
      → FailsInTables order env cmp filters codings second new later status
      → FailsInTables order env cmp filters codings first old later status
  fails_before first second kept old new there later status fails =
      let e = reading_stays first second kept in
      let keeps = kept.tables in
      record {
        fault = fails_or_before env cmp filters codings first second keeps.later
            (IsTableFault (reading env cmp filters codings second.1).format status.code)
            (IsTableFault (reading env cmp filters codings first.1).format status.code)
            (λ it. subst (λ (by : TableOptions C FP). IsTableFault by.format status.code) e it)
            later status fails.fault;
        lacks = λ meaning tables was.
            fails_or_before env cmp filters codings first second keeps.later
            ((status.code ≡ NotSupported)
            × LacksCompressor (reading env cmp filters codings second.1).format meaning)
            ((status.code ≡ NotSupported)
            × LacksCompressor (reading env cmp filters codings first.1).format meaning)
            (λ lacks. (
              lacks.0,
              subst (λ (by : TableOptions C FP).
                  LacksCompressor by.format meaning) e lacks.1,
            ))
            later status (fails.lacks meaning tables (there meaning tables was));
      }

  over_stays : (first second : E × ReadTables E C FP K F)
      → KeepsReading order env cmp filters codings first second → (it : VersionIter C)
      (keys : KeyOrder) (pairs : List Pair)
      → IsOverTables order env cmp filters codings first it keys pairs
      → IsOverTables order env cmp filters codings second it keys pairs
  over_stays first second kept it keys pairs over = record {
    meaning = over.meaning;
    tables = over.tables;
    there = there_stays first second kept it over.meaning over.tables over.there;
    keys_are = over.keys_are
        ∙ ap (λ (c : C). key_order order (record { 0 = c })) (sym kept.cmp_stays);
    pairs_are = over.pairs_are;
    sorted = over.sorted;
    parted = over.parted;
    accepted = over.accepted;
  }

  -- a world is kept by no move, and by two moves
  pub reading_kept : (world : E × ReadTables E C FP K F)
      → KeepsReading order env cmp filters codings world world
  reading_kept world = record {
    cmp_stays = refl;
    policy_stays = refl;
    compressors_stay = refl;
    below_stays = refl;
    reference = refl;
    tables = record {
      disk = KeepsDisk-refl env world.0;
      later = omega arith;
      path = refl;
      room = refl;
      matches = λ matched. matched;
    };
    given = λ given. given;
  }

  pub reading_kept_on : (first second third : E × ReadTables E C FP K F)
      → KeepsReading order env cmp filters codings first second
      → KeepsReading order env cmp filters codings second third
      → KeepsReading order env cmp filters codings first third
  reading_kept_on first second third one other =
      let a = one.tables in
      let b = subst (λ (by : TableOptions C FP). KeepsTables order env by second.0
      second.1.cache.now third.0 third.1.cache.now) (reading_stays first second one) other.tables in
      let counted = a.later in let later = b.later in
      record {
        cmp_stays = other.cmp_stays ∙ one.cmp_stays;
        policy_stays = other.policy_stays ∙ one.policy_stays;
        compressors_stay = other.compressors_stay ∙ one.compressors_stay;
        below_stays = other.below_stays ∙ one.below_stays;
        reference = other.reference ∙ one.reference;
        tables = record {
          disk = KeepsDisk-trans env a.disk b.disk;
          later = omega (arith, counted, later);
          path = b.path ∙ a.path;
          room = b.room ∙ a.room;
          matches = λ matched. b.matches (a.matches matched);
        };
        given = λ given. other.given (one.given given);
      }

  -- a walk over tables is a walk
  pub version_laws : WalkLaws (IsOverTables order env cmp filters codings)
      (IsAtInTables order env cmp filters codings) version_here
      (FailsInTables order env cmp filters codings)
      (KeepsReading order env cmp filters codings)
  unfolding over_stays
  version_laws = record {
    sorted = λ world it keys pairs over. over.sorted;
    over_list = λ world it keys pairs position at. at.over;
    in_range = λ world it keys pairs position at. (let over = at.over in
        subst (λ ps. IsPosition ps position) (sym over.pairs_are)
        (in_range_of (table_parts over.tables) (Some it.at)
        (table_pairs (table_in over.tables it.at)) at.inner position at.at));
    at_position = λ world it keys pairs position at. (let over = at.over in
        here_in_table order keys.cmp (table_in over.tables it.at).parts it.core at.inner at.in_table
        ∙ current_at (table_parts over.tables) (Some it.at)
        (table_pairs (table_in over.tables it.at)) at.inner position at.at
        ∙ ap (λ ps. pair_at ps position) (sym over.pairs_are));
    keeps_itself = reading_kept;
    keeps_on = reading_kept_on;
    stays_over = over_stays;
    stays = λ first second kept it keys pairs position at. record {
      over = over_stays first second kept it keys pairs at.over;
      inner = at.inner;
      in_table = at.in_table;
      at = at.at;
    };
    excuses = λ first second kept it. fails_before first second kept it it
        (λ meaning tables. there_stays first second kept it meaning tables);
  }
