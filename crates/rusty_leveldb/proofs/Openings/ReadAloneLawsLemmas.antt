-- Reading a store alone, beside opening it.
use Rattle.std.proofs.Common.{◌≡◌, subst, sym, Bool, List, ℕ}
use Rattle.leveldb_env.specs.Env.{Files}
use Rattle.leveldb_env.specs.Options.{Boxed, OptionsOf}
use Rattle.leveldb_env.specs.declared.env.Env.{Ghosts}
use Rattle.leveldb_env.specs.declared.filter.FilterPolicy.{Ghosts as FilterGhosts}
use Rattle.leveldb_store.specs.Tables.BuildTable.{TableChoices}
use Rattle.leveldb_files.specs.Histories.Holds.{Holds}
use Rattle.leveldb_files.specs.Stores.Paths.{lock_path}
use Rattle.leveldb_files.specs.Steps.StoreSteps.{AppendedAreBytes}
use Rattle.rusty_leveldb.specs.Engines.Boxes.{InternalOrder}
use Rattle.rusty_leveldb.specs.Openings.ReadAloneLaws.{ReadingKeepsStates, ReadsWhatOpens}
use Rattle.rusty_leveldb.specs.Engines.Serves.{AreReadAs, Reads}

pub reads_what_opens : {E C FP F P : Type 0} {B : Boxed} {keys : InternalOrder C}
    {key_filters : FilterGhosts P} (env : Ghosts E F)
    (choices : OptionsOf C FP B → TableChoices keys key_filters) (options : OptionsOf C FP B)
    → ReadsWhatOpens env choices options
reads_what_opens env choices options name alone asked wanted opening from mid to reader engine
    meaning old opens_alone opens modelled is agrees agrees_then was =
    let found = opens.found opening is meaning agrees_then modelled old was in
    let carried = subst (λ (files : Files). AreReadAs name meaning files found.0.history found.0.last)
    (opens_alone.still.disk modelled).has found.3 in
    let read = opens_alone.reads modelled meaning agrees found.0.history found.0.last carried in
    (found.0, found.1, found.2, read.0, read.1)

pub reading_keeps_states : {E F : Type 0} (env : Ghosts E F) → ReadingKeepsStates env
reading_keeps_states env store meaning from to state keeps modelled stands =
    let same_files = (keeps.disk modelled).has in
    record {
      is_state = stands.is_state;
      holds = subst (λ (files : Files). Holds store (Reads store meaning)
          (λ there. there ≡ state.store) files state.history state.last state.durable state.pending)
          (sym same_files) stands.holds;
      bytes = subst AppendedAreBytes (sym same_files) stands.bytes;
      locked = subst (λ (l : List ℕ → Bool). l (lock_path store) ≡ state.locked)
          (sym (keeps.locks modelled)) stands.locked;
      agrees = stands.agrees;
    }
