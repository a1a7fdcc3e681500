-- How the pairs of a walk are merged into new tables: what is left of them, what the walk has to
-- bear meanwhile, and why it fails.
use Rattle.std.specs.Prelude.{◌≡◌, ◌⊎◌, ◌≤◌, ◌+◌, ℕ, Bool, true, not, length, List, [], ◌∷◌, ◌++◌, flat_map, Contains, Option, None, Some, Result, IfErr, IfOk, IsTrue, OnOk}
use Rattle.std.specs.List.{filter}
use Rattle.std.specs.declared.cmp.Ordering.{Ordering}
use Rattle.leveldb_base.specs.Entries.{entries_of_pairs, entry_of_pair}
use Rattle.leveldb_base.specs.History.{AreRising, Entry}
use Rattle.leveldb_base.specs.KeyTypes.{internal_cmp, user_part}
use Rattle.leveldb_base.specs.Thinning.{goes, thinned}
use Rattle.leveldb_base.specs.Types.{Pair}
use Rattle.leveldb_base.specs.declared.cmp.Cmp.{Ghosts as CmpGhosts}
use Rattle.leveldb_base.specs.declared.error.Status.{Status}
use Rattle.leveldb_base.specs.declared.error.StatusCode.TheVariants.{Corruption}
use Rattle.leveldb_base.specs.declared.types.FileMetaData.{FileMetaData}
use Rattle.leveldb_env.specs.Env.{FilesUnchanged, Run, SameLocks}
use Rattle.leveldb_env.specs.EnvFile.{failed}
use Rattle.leveldb_env.specs.declared.env.Env.{Ghosts as EnvGhosts}
use Rattle.leveldb_env.specs.declared.filter.FilterPolicy.{Ghosts as FilterGhosts}
use Rattle.leveldb_iter.specs.Walk.{KeyOrder, key_order}
use Rattle.leveldb_iter.specs.declared.walk.Walk.{Ghosts as WalkGhosts}
use Rattle.leveldb_version_set.specs.Sets.VersionSetValue.{AreFileNumbersUsedUp}
use Rattle.leveldb_store.specs.Tables.BuildTable.{AreSomeNotBuilt, TableChoices}
use Rattle.leveldb_store.specs.Tables.Outputs.{AreTables, ChangesNewTables, HaveOutputs, OutputsValue}
use Rattle.leveldb_store.specs.Compactions.Passing.{IsJustBefore}
use Rattle.leveldb_store.specs.Tables.TableFile.{FailsToWrite}
use Rattle.leveldb_store.specs.Tables.TableParts.{HaveTableParts, WritesParts}
use Rattle.leveldb_store.specs.declared.passing.Passing.{Passing}

-- ---- what is left of pairs

-- the pairs of all tables in turn
abbrev pub all_pairs : List (List Pair) → List Pair
all_pairs tables = flat_map (λ table. table) tables

-- a pair's entry doesn't go
abbrev pub stays : ℕ → (List ℕ → Bool) → List Pair → Pair → Bool
stays smallest is_base pairs pair =
    not (goes smallest is_base (entries_of_pairs pairs) (entry_of_pair pair))

-- the pairs whose entries don't go, as they were and in their order
abbrev pub pairs_left : ℕ → (List ℕ → Bool) → List Pair → List Pair
pairs_left smallest is_base pairs = filter (stays smallest is_base pairs) pairs

-- the entry of the last pair, or the one before them where there is none
abbrev pub last_entry : Option Entry → List Pair → Option Entry
last_entry before [] = before
last_entry before (pair ∷ pairs) = last_entry (Some (entry_of_pair pair)) pairs

-- ---- the walk meanwhile

-- the files are, and were meanwhile, as they were, no lock changed, and no failure is forgotten
pub record LeavesFiles {E F : Type 0} (env : EnvGhosts E F) (from to : E) : Type 0 where
  pub run : IsTrue env.models_disk → Run (FilesUnchanged (env.observed from).disk.files)
      (env.observed from) (env.observed to)
  pub locks : SameLocks env.models_disk (env.observed from) (env.observed to)
  pub later : env.failures from ≤ env.failures to

module _ {E F T W : Type 0} (env : EnvGhosts E F) (walk : WalkGhosts W E T) (store : List ℕ)
    (first : ℕ) where
  -- a world that comes of another by moves of the walk, and by writing tables of numbers from the
  -- first on and below some next one
  pub data IsReachedFrom (start : E × T) : E × T → Type 0 where
    itself : IsReachedFrom start start
    by_move : (at to : E × T) → IsReachedFrom start at → walk.keeps at to → IsReachedFrom start to
    by_writing : (at to : E) (tables : T) (next : ℕ) → IsReachedFrom start (at, tables)
        → ChangesNewTables env store first next at to → IsReachedFrom start (to, tables)

  -- A walk that new tables leave where it is, with no new error.
  pub record BearsNewTables (start : E × T) : Type 0 where
    pub stays_at : (at to : E) (tables : T) (next : ℕ) → IsReachedFrom start (at, tables)
        → ChangesNewTables env store first next at to → (it : W) (order : KeyOrder)
        (pairs : List Pair) (position : Option ℕ)
        → walk.is_at (at, tables) it order pairs position
        → walk.is_at (to, tables) it order pairs position
    pub excuses : (at to : E) (tables : T) (next : ℕ) → IsReachedFrom start (at, tables)
        → ChangesNewTables env store first next at to → (it : W) (later : E × T)
        (status : Status) → walk.fails (to, tables) it later status
        → walk.fails (at, tables) it later status

  -- A move failed, in a world to which the walk came; where it bears new tables, it might have
  -- failed in the beginning.
  pub record FailsOnWay (start : E × T) (it : W) (end : E × T) (status : Status) : Type 0 where
    pub at : E × T
    pub now : W
    pub come : IsReachedFrom start at
    pub kept : walk.keeps at end
    pub failed : walk.fails at now end status
    pub from_start : BearsNewTables start → walk.fails start it end status

-- moves of a walk change no file
abbrev pub MovesLeaveFiles : {E F T W : Type 0} → EnvGhosts E F → WalkGhosts W E T → Type 0
MovesLeaveFiles {E} {F} {T} env walk =
    (at to : E × T) → walk.keeps at to → LeavesFiles env at.0 to.0

-- ---- a merge

-- What a merge is made with: what tables are built with, the store's folder, the smallest held
-- number, which user keys no deeper level has, and which are within the ranges of the inputs.
pub record Merge {C FP : Type 0} (order : CmpGhosts C) (filters : FilterGhosts FP) : Type 0 where
  pub choices : TableChoices order filters
  pub store : List ℕ
  pub smallest : ℕ
  pub is_base : List ℕ → Bool
  pub is_among : List ℕ → Bool

-- the merge that is made with these
abbrev pub merge_of : {C FP : Type 0} {order : CmpGhosts C} {filters : FilterGhosts FP}
    → TableChoices order filters → List ℕ → ℕ → (List ℕ → Bool) → (List ℕ → Bool)
    → Merge order filters
merge_of choices store smallest is_base is_among = record {
  choices = choices;
  store = store;
  smallest = smallest;
  is_base = is_base;
  is_among = is_among;
}

-- the keys of pairs have tags, rise, and are within the ranges of the inputs
pub record AreInPlace (cmp : List ℕ → List ℕ → Ordering) (is_among : List ℕ → Bool)
    (pairs : List Pair) : Type 0 where
  pub tagged : (pair : Pair) → Contains pairs pair → 8 ≤ length pair.0
  pub rising : AreRising (internal_cmp cmp) pairs
  pub among : (pair : Pair) → Contains pairs pair → is_among (user_part pair.0) ≡ true

module _ {C FP : Type 0} {order : CmpGhosts C} {filters : FilterGhosts FP}
    (merge : Merge order filters) where
  -- pairs that were read one after another are in place
  abbrev pub AreRead : List Pair → Type 0
  AreRead pairs = AreInPlace merge.choices.format.order merge.is_among pairs

  -- Why pairs aren't merged that are read in turn, where the numbers of files come to this one: no
  -- table is built of some of them, the numbers are used up, or they aren't in place.
  abbrev pub IsMergeFault : (later : ℕ) → List Pair → Status → Type 0
  IsMergeFault later read status = AreSomeNotBuilt merge.choices read status
      ⊎ AreFileNumbersUsedUp later status
      ⊎ ((status.code ≡ Corruption) × (AreRead read → ⊥))

  module _ {E F : Type 0} (env : EnvGhosts E F) (first : ℕ) where
    -- These pairs were read: the outputs have what is left of them, and the last of them was the
    -- one just before.
    pub record HasMerged (read : List Pair) (next : ℕ) (at : E) (passing : Passing)
        (outputs : OutputsValue E C FP F) : Type 0 where
      pub are_read : AreRead read
      pub passed : IsJustBefore passing (last_entry None read)
      pub tables : List (List Pair)
      pub pairs : List Pair
      pub have : HaveOutputs merge.choices env merge.store first next at outputs tables pairs
      pub left : all_pairs tables ++ pairs ≡ pairs_left merge.smallest merge.is_base read

    -- what taking one pair more makes of a merge
    pub record TakesPair (read : List Pair) (pair : Pair) (next : ℕ) (from : E)
        (result : Result (Unit {0}) Status) (later : ℕ) (to : E) (passing : Passing)
        (new : OutputsValue E C FP F) : Type 0 where
      pub ok : OnOk result (HasMerged (read ++ pair ∷ []) later to passing new)
      pub changes : ChangesNewTables env merge.store first later from to
      pub parts : WritesParts merge.choices env (read ++ pair ∷ []) from to
      pub cause : FailsToWrite (IsMergeFault later (read ++ pair ∷ [])) (env.failures from)
          (env.failures to) result

    -- The files are tables of what is left of pairs that were read, in their order.
    pub record MergesInto (read : List Pair) (next : ℕ) (files : List FileMetaData) (to : E)
        : Type 0 where
      pub are_read : AreRead read
      pub tables : List (List Pair)
      pub are_tables : AreTables merge.choices env merge.store first next to files tables
      pub left : all_pairs tables ≡ pairs_left merge.smallest merge.is_base read
      -- and so they have what is left of the entries
      pub entries : entries_of_pairs (all_pairs tables)
          ≡ thinned merge.smallest merge.is_base (entries_of_pairs read)

    -- What merging the pairs of a walk leaves and returns, whatever it reads; a walk that is over a
    -- list, and bears new tables, reads that list.
    pub record MergesTables {T W X : Type 0} (walk : WalkGhosts W E T)
        (items : X → List FileMetaData) (start : E × T) (it : W) (result : Result X Status)
        (later : ℕ) (end : E × T) : Type 0 where
      pub ok : IfOk result (λ files. (read : List Pair)
          × MergesInto read later (items files) end.0
          × (BearsNewTables env walk merge.store first start → (pairs : List Pair)
          → walk.over start it (key_order order merge.choices.cmp) pairs → pairs ≡ read))
      -- now and at each moment on the way no file changes but tables of numbers that were given
      pub changes : ChangesNewTables env merge.store first later start.0 end.0
      -- a walk that is over a list, and bears new tables, has a pair for each number that was given
      pub few : BearsNewTables env walk merge.store first start → (pairs : List Pair)
          → walk.over start it (key_order order merge.choices.cmp) pairs
          → later ≤ first + length pairs
      -- now and at each moment on the way a new table is a part of one of some of the list's pairs
      pub parts : BearsNewTables env walk merge.store first start → (pairs : List Pair)
          → walk.over start it (key_order order merge.choices.cmp) pairs → IsTrue env.models_disk
          → Run (HaveTableParts merge.choices (Contains pairs) merge.store first later
          (env.observed start.0).disk.files) (env.observed start.0) (env.observed end.0)
      -- moves of the walk and new tables lead to where it ends, so that what both keep is kept
      pub comes : IsReachedFrom env walk merge.store first start end
      -- A move failed; or, after some pairs were read, at last a call that writes. Where the walk
      -- is over a list, and bears new tables, they are the first of it.
      pub cause : IfErr result (λ status.
          FailsOnWay env walk merge.store first start it end status
          ⊎ ((mid : ℕ) × (env.failures start.0 ≤ mid) × (read : List Pair)
          × (BearsNewTables env walk merge.store first start → (pairs : List Pair)
          → walk.over start it (key_order order merge.choices.cmp) pairs
          → (rest : List Pair) × (pairs ≡ read ++ rest))
          × FailsToWrite (IsMergeFault later read) mid (env.failures end.0) (failed status)))
