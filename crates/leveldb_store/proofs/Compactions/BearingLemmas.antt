-- Walks that bear new tables: by what holds in each world that they reach, of a merge by its
-- children, and of the tables of a version.
use Rattle.std.specs.Prelude.{false}
use Rattle.std.specs.Str.{bytes_eq}
use Rattle.std.proofs.Common.{◌≡◌, ◌↔◌, ◌∙◌, ℕ, List, Option, sym, subst, arith}
use Rattle.leveldb_base.specs.Types.{Pair}
use Rattle.leveldb_base.specs.declared.cmp.Cmp.{Ghosts as CmpGhosts}
use Rattle.leveldb_base.specs.declared.cmp.internal.InternalKeyCmp.{InternalKeyCmp}
use Rattle.leveldb_base.specs.declared.error.Status.{Status}
use Rattle.leveldb_env.specs.Compressor.{Codings}
use Rattle.leveldb_env.specs.declared.env.Env.{Ghosts as EnvGhosts}
use Rattle.leveldb_env.specs.declared.filter.FilterPolicy.{Ghosts as FilterGhosts}
use Rattle.leveldb_iter.specs.MergingIter.{FailsMerged, IsMergeAt, IsMergeOver}
use Rattle.leveldb_iter.specs.MergingIterLaws.{merged_excuses, merged_stays}
use Rattle.leveldb_iter.specs.Walk.{KeyOrder}
use Rattle.leveldb_iter.specs.declared.merging_iter.MergeCore.{MergeCore}
use Rattle.leveldb_iter.specs.declared.walk.Walk.{Ghosts as WalkGhosts}
use Rattle.leveldb_version.proofs.Walks.WalksBesideLemmas.{walks_stay_beside}
use Rattle.leveldb_files.specs.Stores.Paths.{table_path}
use Rattle.leveldb_version.specs.Walks.VersionIter.{FailsInTables, IsAtInTables, IsOverTables, KeepsReading}
use Rattle.leveldb_version.specs.Walks.WalksBeside.{ChangesBesideTables}
use Rattle.leveldb_version.specs.declared.table_cache.moves.ReadTables.{ReadTables}
use Rattle.leveldb_version.specs.declared.version_iter.VersionIter.{VersionIter}
use Rattle.leveldb_store.specs.Compactions.MergeInputs.{ReadsBelow}
use Rattle.leveldb_store.specs.Compactions.Merging.{BearsNewTables, IsReachedFrom, LeavesFiles, by_move, by_writing, itself}
use Rattle.leveldb_store.specs.Tables.Outputs.{ChangesNewTables}
use Rattle.leveldb_store.proofs.Tables.OutputsLemmas.{tables_apart}

module _ {E F T W : Type 0} (env : EnvGhosts E F) (walk : WalkGhosts W E T) (store : List ℕ)
    (first : ℕ) (Given : E × T → Type 0) where
  -- what new tables leave of a walk in a world of which this holds
  pub record IsBorne (at to : E) (tables : T) : Type 0 where
    pub given : Given (to, tables)
    pub stays_over : (it : W) (order : KeyOrder) (pairs : List Pair)
        → walk.over (at, tables) it order pairs → walk.over (to, tables) it order pairs
    pub stays_at : (it : W) (order : KeyOrder) (pairs : List Pair) (position : Option ℕ)
        → walk.is_at (at, tables) it order pairs position
        → walk.is_at (to, tables) it order pairs position
    pub excuses : (it : W) (later : E × T) (status : Status)
        → walk.fails (to, tables) it later status → walk.fails (at, tables) it later status

  -- moves keep it
  abbrev pub MovesKeep : Type 0
  MovesKeep = (at to : E × T) → Given at → walk.keeps at to → Given to

  -- new tables keep it, and leave each walk where it is
  abbrev pub NewTablesKeep : Type 0
  NewTablesKeep = (at to : E) (tables : T) (next : ℕ) → Given (at, tables)
      → ChangesNewTables env store first next at to → IsBorne at to tables

  module _ (moves : MovesKeep) (bears : NewTablesKeep) where
    given_then : {start : E × T} → Given start → (world : E × T)
        → IsReachedFrom env walk store first start world → Given world
    given_then given world itself = given
    given_then given world (by_move at to come keeps) =
        moves at to (given_then given at come) keeps
    given_then given world (by_writing at to tables next come changes) =
        (bears at to tables next (given_then given (at, tables) come) changes).given

    pub bears_new_tables : (start : E × T) → Given start
        → BearsNewTables env walk store first start
    bears_new_tables start given = record {
      stays_at = λ at to tables next come changes.
          (bears at to tables next (given_then given (at, tables) come) changes).stays_at;
      excuses = λ at to tables next come changes.
          (bears at to tables next (given_then given (at, tables) come) changes).excuses;
    }

-- ---- a merge

-- the one walk is the merge of others of this kind
pub record IsMergeOf {E T I C : Type 0} (child : WalkGhosts I E T) (cmp : CmpGhosts C)
    (merge : WalkGhosts (MergeCore C I) E T) : Type 0 where
  pub over_is : (world : E × T) (it : MergeCore C I) (order : KeyOrder) (pairs : List Pair)
      → merge.over world it order pairs ↔ IsMergeOver child cmp world it order pairs
  pub at_is : (world : E × T) (it : MergeCore C I) (order : KeyOrder) (pairs : List Pair)
      (position : Option ℕ) → merge.is_at world it order pairs position
      ↔ IsMergeAt child cmp world it order pairs position
  pub fails_is : (world : E × T) (it : MergeCore C I) (later : E × T) (status : Status)
      → merge.fails world it later status ↔ FailsMerged child cmp world it later status
  pub keeps : (at to : E × T) → merge.keeps at to → child.keeps at to

module _ {E F T I C : Type 0} (env : EnvGhosts E F) {child : WalkGhosts I E T} {cmp : CmpGhosts C}
    (store : List ℕ) (first : ℕ) (Given : E × T → Type 0) {merge : WalkGhosts (MergeCore C I) E T}
    (is : IsMergeOf child cmp merge) where
  -- a merge bears what its children bear
  pub merge_borne : NewTablesKeep env child store first Given
      → NewTablesKeep env merge store first Given
  merge_borne bears at to tables next given changes =
      let borne = bears at to tables next given changes in
      record {
        given = borne.given;
        stays_over = λ it order pairs was.
            let over = (is.over_is (at, tables) it order pairs).0 was in
            (is.over_is (to, tables) it order pairs).1 (
              over.0,
              merged_stays (at, tables) (to, tables) borne.stays_over borne.stays_at it order pairs
                  over.0 over.1,
            );
        stays_at = λ it order pairs position was.
            (is.at_is (to, tables) it order pairs position).1
            (merged_stays (at, tables) (to, tables) borne.stays_over borne.stays_at it order pairs
            position ((is.at_is (at, tables) it order pairs position).0 was));
        excuses = λ it later status failed. (is.fails_is (at, tables) it later status).1
            (merged_excuses (at, tables) (to, tables) borne.stays_over borne.stays_at borne.excuses
            it later status ((is.fails_is (to, tables) it later status).0 failed));
      }

  pub merge_moves : MovesKeep env child store first Given → MovesKeep env merge store first Given
  merge_moves moves at to given kept = moves at to given (is.keeps at to kept)

-- ---- the tables of a version

-- moves that only read change no file
pub reading_leaves : {E F C FP K : Type 0} {keys : CmpGhosts (InternalKeyCmp C)}
    (env : EnvGhosts E F) {cmp : CmpGhosts C} {filters : FilterGhosts FP} {codings : K → Codings}
    {at to : E × ReadTables E C FP K F} → KeepsReading keys env cmp filters codings at to
    → LeavesFiles env at.0 to.0
reading_leaves env keeps = record {
  run = keeps.tables.disk.disk;
  locks = keeps.tables.disk.locks;
  later = keeps.tables.later;
}

module _ {E F C FP K : Type 0} (keys : CmpGhosts (InternalKeyCmp C)) (env : EnvGhosts E F)
    (cmp : CmpGhosts C) (filters : FilterGhosts FP) (codings : K → Codings) where
  -- a walk is over the tables of files
  pub record IsTableWalk (child : WalkGhosts (VersionIter C) E (ReadTables E C FP K F)) : Type 0
    where
      pub over_is : (world : E × ReadTables E C FP K F) (it : VersionIter C) (order : KeyOrder)
          (pairs : List Pair) → child.over world it order pairs
          ↔ IsOverTables keys env cmp filters codings world it order pairs
      pub at_is : (world : E × ReadTables E C FP K F) (it : VersionIter C) (order : KeyOrder)
          (pairs : List Pair) (position : Option ℕ) → child.is_at world it order pairs position
          ↔ IsAtInTables keys env cmp filters codings world it order pairs position
      pub fails_is : (world : E × ReadTables E C FP K F) (it : VersionIter C)
          (later : E × ReadTables E C FP K F) (status : Status)
          → child.fails world it later status
          ↔ FailsInTables keys env cmp filters codings world it later status
      pub keeps : (at to : E × ReadTables E C FP K F) → child.keeps at to
          → KeepsReading keys env cmp filters codings at to

  module _ (store : List ℕ) (first : ℕ)
      {child : WalkGhosts (VersionIter C) E (ReadTables E C FP K F)} (is : IsTableWalk child)
    where
      pub tables_keep : MovesKeep env child store first (ReadsBelow store first)
      tables_keep at to was kept =
          let keeps = is.keeps at to kept in
          record {
            given = keeps.given was.given;
            below = omega (arith, was.below, keeps.below_stays);
            store_is = keeps.tables.path ∙ was.store_is;
          }

      pub tables_borne : NewTablesKeep env child store first (ReadsBelow store first)
      tables_borne at to tables next was changes =
          let beside : ChangesBesideTables env tables at to = record {
            later = changes.later;
            files = λ modelled number fits below. (changes.run modelled).has _
                (λ n least below_next n_fits. subst
                (λ s. bytes_eq (table_path store n) (table_path s number) ≡ false)
                (sym was.store_is)
                (tables_apart store n number n_fits fits
                (λ same. omega (arith, same, least, below, was.below))));
          } in
          let stay = walks_stay_beside keys env cmp filters codings tables at to beside was.given in
          record {
            given = record { given = stay.given; below = was.below; store_is = was.store_is };
            stays_over = λ it order pairs over. (is.over_is (to, tables) it order pairs).1
                (stay.over it order pairs ((is.over_is (at, tables) it order pairs).0 over));
            stays_at = λ it order pairs position here.
                (is.at_is (to, tables) it order pairs position).1
                (stay.at it order pairs position
                ((is.at_is (at, tables) it order pairs position).0 here));
            excuses = λ it later status failed. (is.fails_is (at, tables) it later status).1
                (stay.excuses it later status ((is.fails_is (to, tables) it later status).0 failed));
          }
