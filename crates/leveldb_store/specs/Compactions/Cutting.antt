-- Where the tables of a merge end: past their size, and where its cuts ask for an end.
use Rattle.std.specs.Prelude.{◌≡◌, ◌≢◌, ◌⊎◌, ◌↔◌, ◌-◌, ◌<◌, ◌^◌, ℕ, Bool, true, if◌then◌else◌, min, List, [], ◌∷◌, ◌++◌, map, Contains}
use Rattle.std.specs.declared.cmp.Ordering.{Ordering}
use Rattle.std.specs.declared.cmp.Ordering.TheVariants.{Greater, Less}
use Rattle.leveldb_base.specs.KeyTypes.{internal_cmp, user_part}
use Rattle.leveldb_base.specs.Types.{Pair}
use Rattle.leveldb_base.specs.declared.cmp.Cmp.{Ghosts as CmpGhosts}
use Rattle.leveldb_base.specs.declared.types.FileMetaData.{FileMetaData}
use Rattle.leveldb_env.specs.declared.env.Env.{Ghosts as EnvGhosts}
use Rattle.leveldb_env.specs.declared.filter.FilterPolicy.{Ghosts as FilterGhosts}
use Rattle.leveldb_iter.specs.Walk.{key_order}
use Rattle.leveldb_iter.specs.declared.walk.Walk.{Ghosts as WalkGhosts}
use Rattle.leveldb_table.specs.BlockBuilder.{last_added}
use Rattle.leveldb_table.specs.TableBuilder.{IsNewBuilder, TableBuilt, table_estimate}
use Rattle.leveldb_store.specs.Compactions.Merging.{BearsNewTables, HasMerged, Merge, MergesInto}
use Rattle.leveldb_store.specs.Tables.BuildTable.{HasTaken, TableChoices, puts_all}
use Rattle.leveldb_store.specs.Tables.Outputs.{OutputsValue}
use Rattle.leveldb_store.specs.declared.passing.Passing.{Passing}

-- ---- stops

-- Cuts were asked before each of these keys in turn, from one state to another, and asked for an
-- end of the open table before these of them, the stops.
pub data AreStops {X : Type 0} (stops_before : X → List ℕ → Bool → X → Type 0) (before : X)
    : List (List ℕ) → List (List ℕ) → X → Type 0 where
  unasked : AreStops stops_before before [] [] before
  asked : {keys stops : List (List ℕ)} {at now : X} (key : List ℕ) (told : Bool)
      → AreStops stops_before before keys stops at → stops_before at key told now
      → AreStops stops_before before (keys ++ key ∷ [])
      (stops ++ (if told then key ∷ [] else [])) now

-- one of the stops is after the first of these pairs of a table
abbrev pub HasStop : (List ℕ → List ℕ → Ordering) → List (List ℕ) → List Pair → Type 0
HasStop cmp stops [] = ⊥
HasStop cmp stops (first ∷ pairs) =
    (stop : List ℕ) × Contains stops stop × (cmp first.0 stop ≡ Less)

-- and at or before this key
abbrev pub HasStopBy : (List ℕ → List ℕ → Ordering) → List (List ℕ) → List Pair → List ℕ → Type 0
HasStopBy cmp stops [] key = ⊥
HasStopBy cmp stops (first ∷ pairs) key = (stop : List ℕ) × Contains stops stop
    × (cmp first.0 stop ≡ Less) × (cmp stop key ≢ Greater)

-- a table goes on after a stop with pairs of one user key, that of the pair just before
abbrev pub HeedsStops : (List ℕ → List ℕ → Ordering) → List (List ℕ) → List Pair → Type 0
HeedsStops cmp stops table = (front rest : List Pair) (pair : Pair)
    → table ≡ front ++ pair ∷ rest → HasStopBy cmp stops front pair.0
    → user_part (last_added front) ≡ user_part pair.0

-- ---- the limit

module _ {C FP : Type 0} {order : CmpGhosts C} {filters : FilterGhosts FP}
    (choices : TableChoices order filters) where
  -- A new builder of the choices took these pairs, and is now this one. Where its blocks end isn't
  -- said, so pairs may have several, some larger than others.
  pub record IsBuilderOf (pairs : List Pair) (core : TableBuilt C FP) : Type 0 where
    pub start : TableBuilt C FP
    pub is_new : IsNewBuilder order filters choices.cmp choices.policy choices.id
        choices.block_size choices.restarts start
    pub written : List ℕ
    pub taken : HasTaken order filters choices.format.codings puts_all start [] pairs core written

  -- the table that a builder has come to is larger than the limit
  abbrev pub IsPast : ℕ → TableBuilt C FP → Type 0
  IsPast limit core = limit < min (table_estimate core) (2 ^ 64 - 1)

  -- where each builder of its pairs is past the limit a table goes on with pairs of one user key
  abbrev pub HeedsLimit : ℕ → List Pair → Type 0
  HeedsLimit limit table = (front rest : List Pair) (pair : Pair)
      → table ≡ front ++ pair ∷ rest → front ≢ []
      → ((core : TableBuilt C FP) → IsBuilderOf front core → IsPast limit core)
      → user_part (last_added front) ≡ user_part pair.0

-- ---- where tables end

module _ {C FP : Type 0} {order : CmpGhosts C} {filters : FilterGhosts FP}
    (choices : TableChoices order filters) (limit : ℕ) (stops : List (List ℕ)) where
  -- a table ends before the first of the pairs that follow, where there is one, for a cause: a
  -- builder of its pairs is past the limit, or it has a stop by then
  abbrev pub EndsForCause : List Pair → List Pair → Type 0
  EndsForCause table [] = Unit {0}
  EndsForCause table (next ∷ pairs) =
      ((core : TableBuilt C FP) × IsBuilderOf choices table core × IsPast choices limit core)
      ⊎ HasStopBy (internal_cmp choices.format.order) stops table next.0

  -- so does each table before the next one, and the last before these pairs
  abbrev pub EachEndsForCause : List Pair → List (List Pair) → Type 0
  EachEndsForCause pairs [] = Unit {0}
  EachEndsForCause pairs (table ∷ []) = EndsForCause table pairs
  EachEndsForCause pairs (table ∷ next ∷ tables) =
      EndsForCause table next × EachEndsForCause pairs (next ∷ tables)

  -- a table goes on neither past the limit nor after a stop, but with pairs of one user key
  abbrev pub GoesOnWithinKey : List Pair → Type 0
  GoesOnWithinKey table = HeedsStops (internal_cmp choices.format.order) stops table
      × HeedsLimit choices limit table

  -- Finished tables, and the open one, which has these pairs, end where they are to.
  pub record AreCut (tables : List (List Pair)) (pairs : List Pair) : Type 0 where
    pub finished : (table : List Pair) → Contains tables table → GoesOnWithinKey table
    pub opened : GoesOnWithinKey pairs
    pub ends : EachEndsForCause pairs tables

-- ---- a merge

module _ {C FP : Type 0} {order : CmpGhosts C} {filters : FilterGhosts FP}
    (merge : Merge order filters) {E F : Type 0} (env : EnvGhosts E F) {X : Type 0}
    (stops_before : X → List ℕ → Bool → X → Type 0) (limit : ℕ) (before : X) (first : ℕ) where
  -- These pairs were read and merged, and the cuts were asked before each: the tables end where
  -- they are to, and the open one is to end where it has a stop.
  pub record HasCut (read : List Pair) (next : ℕ) (at : E) (passing : Passing)
      (outputs : OutputsValue E C FP F) (now : X) : Type 0 where
    pub merged : HasMerged merge env first read next at passing outputs
    pub stops : List (List ℕ)
    pub are_stops : AreStops stops_before before (map (λ (pair : Pair). pair.0) read) stops now
    pub from_read : (stop : List ℕ) → Contains stops stop
        → (pair : Pair) × Contains read pair × (pair.0 ≡ stop)
    pub cut : AreCut merge.choices limit stops merged.tables merged.pairs
    pub ends : (outputs.ends ≡ true)
        ↔ HasStop (internal_cmp merge.choices.format.order) stops merged.pairs

  -- The files are tables of what is left of pairs that were read, those of the walk's list if it
  -- bears new tables, and the cuts were asked before each of these: each table goes on up to the
  -- limit or a stop, and no further than the user key there. No contract of a compaction cites
  -- this.
  pub record CutsInto {T W : Type 0} (walk : WalkGhosts W E T) (start : E × T) (it : W)
      (next : ℕ) (files : List FileMetaData) (to : E) (now : X) : Type 0 where
    pub read : List Pair
    pub into : MergesInto merge env first read next files to
    pub whole : BearsNewTables env walk merge.store first start → (pairs : List Pair)
        → walk.over start it (key_order order merge.choices.cmp) pairs → pairs ≡ read
    pub stops : List (List ℕ)
    pub are_stops : AreStops stops_before before (map (λ (pair : Pair). pair.0) read) stops now
    pub cut : AreCut merge.choices limit stops into.tables []
