-- What holds of reading a store alone, beside opening it.
use Rattle.std.specs.Prelude.{◌≡◌, List, None, Ok, Some, ℕ, IsTrue}
use Rattle.leveldb_env.specs.Options.{Boxed, OptionsOf}
use Rattle.leveldb_env.specs.declared.env.Env.{Ghosts}
use Rattle.leveldb_env.specs.declared.filter.FilterPolicy.{Ghosts as FilterGhosts}
use Rattle.leveldb_store.specs.Tables.BuildTable.{TableChoices}
use Rattle.leveldb_table.specs.TableBlock.{KeepsDisk}
use Rattle.leveldb_files.specs.Stores.Format.{Agrees, Meaning}
use Rattle.leveldb_version.specs.Tables.TableCache.{files_at}
use Rattle.rusty_leveldb.specs.Engines.Boxes.{EngineOf, InternalOrder, ReaderOf}
use Rattle.rusty_leveldb.specs.Engines.Calls.{EngineOpens}
use Rattle.rusty_leveldb.specs.Engines.Engine.{IsOpening, formats_of}
use Rattle.rusty_leveldb.specs.Machines.Machine.{Opens}
use Rattle.rusty_leveldb.specs.Openings.ReadAlone.{ReaderOpens, ReadsHistory}
use Rattle.rusty_leveldb.specs.Engines.Rows.{RepresentsAt}
use Rattle.rusty_leveldb.specs.Engines.Serves.{StandsFor}
use Rattle.rusty_leveldb.specs.Machines.State.{Opening, State}

-- A store is read alone, and opened then with these options: the history that the opening finds is
-- one that is read, and both have the same last number. So both have the same map.
abbrev pub ReadsWhatOpens : {E C FP F P : Type 0} {B : Boxed} {keys : InternalOrder C}
    {key_filters : FilterGhosts P} → Ghosts E F
    → (OptionsOf C FP B → TableChoices keys key_filters) → OptionsOf C FP B → Type 0
ReadsWhatOpens {E = E} {C = C} {FP = FP} {F = F} {B = B} {keys = keys} env choices options =
    (name : List ℕ) (alone : OptionsOf C FP B) (asked wanted opening : Opening)
    (from mid to : E) (reader : ReaderOf E C FP F B) (engine : EngineOf E C FP F B)
    (meaning : Meaning) (old : State)
    → ReaderOpens keys env (formats_of choices) name alone asked from (Ok reader) mid
    → EngineOpens env choices name options wanted mid (Ok engine) to
    → IsTrue env.models_disk → IsOpening name wanted opening
    → Agrees asked.format meaning → Agrees opening.format meaning
    → RepresentsAt keys env (formats_of choices) name meaning None mid old → (new : State)
    × RepresentsAt keys env (formats_of choices) name meaning (Some engine) to new
    × Opens old opening new × (reader.store.set.last_sequence ≡ new.last)
    × ReadsHistory keys env (formats_of choices) meaning reader (files_at env mid) new.history

-- a disk represents after a call that only reads what it did before it
abbrev pub ReadingKeepsStates : {E F : Type 0} → Ghosts E F → Type 0
ReadingKeepsStates {E = E} env = (store : List ℕ) (meaning : Meaning) (from to : E) (state : State)
    → KeepsDisk env from to → IsTrue env.models_disk
    → StandsFor store meaning (env.observed from).disk state
    → StandsFor store meaning (env.observed to).disk state
