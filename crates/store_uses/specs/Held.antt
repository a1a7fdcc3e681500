-- A store on a disk, as a program knows it that opens it by its name.
use Rattle.std.specs.Prelude.{◌≡◌, ℕ, List, length, Some, IsTrue}
use Rattle.leveldb_env.specs.declared.env.Env.{Ghosts}
use Rattle.leveldb_env.specs.Options.{Boxed, OptionsOf}
use Rattle.leveldb_files.specs.Stores.Format.{Agrees, Format, Meaning}
use Rattle.rusty_leveldb.specs.Engines.Boxes.{EngineOf}
use Rattle.rusty_leveldb.specs.Headline.{Batch, UserStore, fresh_store, is_closed, map_of}
use Rattle.rusty_leveldb.specs.Says.{Showing}

module _ {E F M : Type 0} (env : Ghosts E F) (showing : Showing M) (name : List ℕ)
    (format : Format) (at : E) where
  -- The disk, which is modelled, holds this store under the name, and options of this format say of
  -- names and ids what they mean in its files.
  pub record IsHeld (store : UserStore) : Type 0 where
    pub modelled : IsTrue env.models_disk
    pub meaning : Meaning
    pub agrees : Agrees format meaning
    pub held : showing.holds (record { name = name; meaning = meaning }) (env.observed at).disk
        store

  -- The disk holds a store whose map gives the key this value, and all of it is durable.
  pub record IsValueHeld (key value : List ℕ) : Type 0 where
    pub all : List Batch
    pub is_in : map_of all key ≡ Some value
    pub holds : IsHeld (fresh_store all (length all) is_closed)

module _ {E C FP F : Type 0} {B : Boxed} (env : Ghosts E F)
    (showing : Showing (EngineOf E C FP F B)) (formats : OptionsOf C FP B → Format)
    (options : OptionsOf C FP B) (name : List ℕ) (at : E) where
  -- the disk holds this store for a program with these options
  abbrev pub HoldsStore : UserStore → Type 0
  HoldsStore store = IsHeld env showing name (formats options) at store

  -- and the key has this value there, durable
  abbrev pub HoldsValue : List ℕ → List ℕ → Type 0
  HoldsValue key value = IsValueHeld env showing name (formats options) at key value
