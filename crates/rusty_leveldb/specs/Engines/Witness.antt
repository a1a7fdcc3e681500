-- The relations that the calls of a store name (`Showing`). Who reads what a call says needs none
-- of it: any other relations of which the same is said would do.
use Rattle.std.specs.Prelude.{◌≡◌, ℕ, List, Some, Result}
use Rattle.leveldb_base.specs.declared.cmp.Cmp.{Ghosts as CmpGhosts}
use Rattle.leveldb_base.specs.declared.error.Status.{Status}
use Rattle.leveldb_env.specs.declared.env.Env.{Ghosts}
use Rattle.leveldb_env.specs.declared.compressor.CompressorList.{CompressorList}
use Rattle.leveldb_env.specs.declared.filter.FilterPolicy.{Ghosts as FilterGhosts}
use Rattle.leveldb_env.specs.Compressor.{Codings}
use Rattle.leveldb_env.specs.Env.{Disk}
use Rattle.leveldb_env.specs.Options.{Boxed, OptionsOf}
use Rattle.leveldb_iter.specs.declared.walk.Walk.{Ghosts as WalkGhosts}
use Rattle.leveldb_version.specs.declared.table_cache.moves.ReadTables.{ReadTables}
use Rattle.leveldb_files.specs.Histories.Holds.{IsHonest}
use Rattle.leveldb_store.specs.Tables.BuildTable.{TableChoices}
use Rattle.leveldb_files.specs.Stores.Format.{Format, format_of}
use Rattle.rusty_leveldb.specs.Engines.Boxes.{EngineOf, InternalOrder}
use Rattle.rusty_leveldb.specs.Engines.Calls.{EngineOpens}
use Rattle.rusty_leveldb.specs.Engines.Engine.{Recalls}
use Rattle.rusty_leveldb.specs.Engines.Serves.{Represents, StandsFor}
use Rattle.rusty_leveldb.specs.Headline.{UserStore}
use Rattle.rusty_leveldb.specs.Machines.Shown.{IsShownAs}
use Rattle.rusty_leveldb.specs.Machines.State.{Opening, State, closed}
use Rattle.rusty_leveldb.specs.Walks.Iterator.{IteratesAt, ShownStore}
use Rattle.rusty_leveldb.specs.declared.db_iter.StoreIterator.{StoreIterator}
use Rattle.rusty_leveldb.specs.Says.{AreAlike, IsShowing, Iterating, Place, SaysOpened, Showing}

-- the disk represents a closed state of the machine that shows the store
abbrev pub IsHeldBy : Place → Disk → UserStore → Type 0
IsHeldBy place disk store = (state : State) × StandsFor place.name place.meaning disk state
    × (state.mode ≡ closed) × IsShownAs state store

-- the relations of disks alone, of which runs and lives speak: no memory is told of
abbrev pub stored : Showing (Unit {0})
stored = record {
  shows = λ place order memory disk store. ⊥;
  holds = IsHeldBy;
  is_honest = IsHonest;
}

-- What an engine has in memory. A clause `says` only hands it on, so nobody has to know it who reads
-- one.
abbrev pub MemoryOf : (E C FP F : Type 0) → Boxed → Type 0
MemoryOf E C FP F B = EngineOf E C FP F B

module _ {E C FP F : Type 0} {B : Boxed} (keys : InternalOrder C) (env : Ghosts E F) where
  -- Memory and disk represent a state of the machine that shows the store, and a disk alone is as
  -- in `stored`. `formats` says of options which format they have.
  abbrev pub showing_in : (OptionsOf C FP B → Format) → Showing (MemoryOf E C FP F B)
  showing_in formats = record {
    shows = λ place order engine disk store. (state : State)
        × Represents place.name place.meaning (Recalls keys env formats place.name place.meaning)
        (Some engine) disk state × IsShownAs state store × (state.format.order ≡ order);
    holds = IsHeldBy;
    is_honest = IsHonest;
  }

  -- the same by what comparators, filter policies and compressors mean
  abbrev pub shown_by : CmpGhosts C → FilterGhosts FP
      → (CompressorList B.compressors B.compressor → Codings) → Showing (MemoryOf E C FP F B)
  shown_by cmp filters codings = showing_in (format_of cmp filters codings)

-- The iterator is over the pairs, of an open store with this order of keys.
abbrev pub iterating_in : {E F C FP K V : Type 0} → InternalOrder C → Ghosts E F → CmpGhosts C
    → FilterGhosts FP → (K → Codings) → WalkGhosts V E (ReadTables E C FP K F)
    → Iterating (StoreIterator E C FP K V F)
iterating_in {C = C} keys env cmp filters codings walk = λ order pairs position it.
    (shown : ShownStore C) × IteratesAt keys env cmp filters codings walk shown pairs position it
    × (shown.format.order ≡ order)

-- the relations of engines with such options have their laws, and say of disks what `stored` does
pub record AreShownBy {E C FP F : Type 0} {B : Boxed} (options : OptionsOf C FP B)
    (showing : Showing (EngineOf E C FP F B)) : Type 0 where
  pub laws : IsShowing showing
  pub alike : AreAlike showing stored

-- an engine's opening says what a store's does, of the environment that it is given
abbrev pub EachOpeningSays : {E C FP F P : Type 0} {B : Boxed} {keys : InternalOrder C}
    {key_filters : FilterGhosts P} → (env : Ghosts E F)
    → (OptionsOf C FP B → TableChoices keys key_filters) → OptionsOf C FP B
    → Showing (EngineOf E C FP F B) → Type 0
EachOpeningSays {E} {C} {FP} {F} {P} {B} env choices options showing =
    (name : List ℕ) (asked : Opening) (from : E) (result : Result (EngineOf E C FP F B) Status)
    (to : E) → EngineOpens env choices name options asked from result to
    → SaysOpened env showing name asked.format from result to
