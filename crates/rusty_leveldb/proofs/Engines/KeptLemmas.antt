-- What a call on an engine that is open leaves of the machine's state, where it adds no batch: the
-- history is held in the end, and what was spared is spared at each moment on the way.
use Rattle.std.specs.Prelude.{is_some}
use Rattle.std.proofs.Common.{◌≡◌, ◌≤◌, ◌+◌, ◌∙◌, ℕ, Bool, List, sym, ap, subst, arith, Some, None, IsTrue}
use Rattle.std.specs.declared.cmp.Ordering.{Ordering}
use Rattle.leveldb_base.specs.History.{count_of, with_batch}
use Rattle.leveldb_base.specs.declared.types.FileType.{FileType}
use Rattle.leveldb_env.specs.Env.{Files, Run}
use Rattle.leveldb_env.specs.Options.{Boxed, OptionsOf}
use Rattle.leveldb_env.specs.declared.env.Env.{Ghosts}
use Rattle.leveldb_env.proofs.EnvLemmas.{Run-mono}
use Rattle.leveldb_files.specs.Stores.Format.{Format, IsTableOf, Meaning}
use Rattle.leveldb_files.specs.Histories.Holds.{Holds}
use Rattle.leveldb_files.specs.Stores.Paths.{IsFilePath}
use Rattle.leveldb_files.specs.Stores.Store.{IsStore}
use Rattle.leveldb_files.specs.Steps.StoreSteps.{KeepsHistory}
use Rattle.leveldb_store.specs.Keeping.OpenStore.{OpenStoreValue}
use Rattle.leveldb_store.specs.Writing.Room.{ChangesLoggerOnly}
use Rattle.leveldb_store.specs.Writing.WriteBatch.{HoldsBatches}
use Rattle.leveldb_store.specs.Keeping.Written.{IsData, SparesRest}
use Rattle.rusty_leveldb.specs.Engines.Boxes.{EngineOf, InternalOrder}
use Rattle.rusty_leveldb.specs.Compactions.Compact.{ChangesStore}
use Rattle.rusty_leveldb.specs.Engines.Engine.{Recalls, engine_options, tables_by}
use Rattle.rusty_leveldb.specs.Engines.Frame.{MayTouch, Spares, Touches}
use Rattle.rusty_leveldb.specs.Machines.Machine.{Risk}
use Rattle.rusty_leveldb.specs.Engines.Serves.{IsSpared, Represents}
use Rattle.rusty_leveldb.specs.Machines.State as machine
use Rattle.rusty_leveldb.specs.Machines.State.{Request, State, open_mode}
use Rattle.rusty_leveldb.proofs.Engines.EngineLemmas.{Stays, agreeing, is_of, name_is, none, not_closed, store_named}
use Rattle.rusty_leveldb.proofs.Engines.ReadsLemmas.{keeps_holds, spared_keeps}
use Rattle.rusty_leveldb.proofs.Engines.SyncLemmas.{risk_now, spares_data}

-- ---- a call that goes to the store

-- the options tell to a sink alone
pub store_tells : {E C FP F : Type 0} {B : Boxed} (before after : EngineOf E C FP F B)
    → ChangesStore before after → after.store.cmp ≡ before.store.cmp
    → is_some after.options.log ≡ is_some before.options.log
    → ChangesLoggerOnly (engine_options before) (engine_options after)
store_tells {E} {C} {FP} {F} {B = B} before after rest cmp sink = record {
  rest = ap (λ (e : EngineOf E C FP F B). engine_options e) rest
      ∙ ap (λ (c : C). record (engine_options before) { cmp = c; log = after.options.log }) cmp;
  sink = sink;
}

-- and what tables are opened with stays
pub tables_by_stay : {E C FP F : Type 0} {B : Boxed} (formats : OptionsOf C FP B → Format)
    → ((a b : OptionsOf C FP B) → ChangesLoggerOnly a b → formats b ≡ formats a)
    → (before after : EngineOf E C FP F B) → ChangesLoggerOnly (engine_options before) (engine_options after)
    → tables_by formats after ≡ tables_by formats before
tables_by_stay formats ignores before after tells = λ i. record {
  format = ignores (engine_options before) (engine_options after) tells i;
  cmp = (tells.rest i).cmp;
  policy = (tells.rest i).filter_policy;
}

-- ---- a call that adds no batch

module _ {E C FP F : Type 0} {B : Boxed} {keys : InternalOrder C} (env : Ghosts E F)
    (formats : OptionsOf C FP B → Format)
    (store : List ℕ) (meaning : Meaning) (before : EngineOf E C FP F B) (from : E)
    (old : State)
    (was : Represents store meaning (Recalls keys env formats store meaning) (Some before)
    (env.observed from).disk old) (opened : before.mode ≡ machine.open_mode) where
  abbrev order : List ℕ → List ℕ → Ordering
  order = old.format.order

  abbrev files : Files
  files = (env.observed from).disk.files

  last_is : before.store.set.last_sequence ≡ old.last
  last_is = was.memory_is.last (not_closed env formats store meaning before from old was opened)

  -- a crash now leaves what is at risk
  pub spared_first : IsSpared store meaning old
      (risk_now env formats store meaning before from old was opened) files
  spared_first = subst (λ p. IsSpared store meaning old (record {
    history = with_batch old.history p;
    bound = old.last + count_of p;
    opening = None;
  }) files) (none env formats store meaning before from old was opened) was.disk_is.holds.crash

  -- whatever history the files held, they hold it now and at each moment on the way
  abbrev pub KeepsMoments : OpenStoreValue C → E → Type 0
  KeepsMoments value mid = (bound : ℕ) → before.store.set.last_sequence ≤ bound
      → Run (KeepsHistory before.store.set.store order (IsTableOf order meaning) (Stays old) bound
      files) (env.observed from) (env.observed mid)

  module _ (value : OpenStoreValue C) (mid : E) (moments : KeepsMoments value mid)
      (rest : SparesRest env.models_disk before.store (env.observed from) value (env.observed mid))
    where
      pub kept_path : value.set.store ≡ store
      kept_path = rest.store ∙ was.memory_is.path

      pub kept_last : value.set.last_sequence ≡ old.last
      kept_last = rest.last ∙ last_is

      -- the history is held in the end
      pub kept_holds : HoldsBatches order meaning (Stays old) value (env.observed mid).disk.files
          old.history old.durable None
      kept_holds =
          let path = before.store.set.store in
          let last = before.store.set.last_sequence in
          let held = is_of env formats store meaning before from old was opened in
          let run = moments (last + 0) (omega arith) in
          let there = keeps_holds path (IsStore path order (IsTableOf order meaning)) (Stays old) files
          (env.observed mid).disk.files old.history last old.durable None
          (record { now = run.has.now; crash = run.has.crash }) held.holds in
          subst (λ p. Holds p (IsStore p order (IsTableOf order meaning)) (Stays old)
          (env.observed mid).disk.files old.history value.set.last_sequence old.durable None)
          (sym rest.store)
          (subst (λ l. Holds path (IsStore path order (IsTableOf order meaning)) (Stays old)
          (env.observed mid).disk.files old.history l old.durable None) (sym rest.last) there)

      -- and what was spared is spared at each moment on the way
      pub kept_run : (risk : Risk) → risk.opening ≡ None → old.last ≤ risk.bound
          → IsSpared store meaning old risk files
          → Run (IsSpared store meaning old risk) (env.observed from) (env.observed mid)
      kept_run risk no_opening most spared =
          Run-mono (λ now kept. spared_keeps store meaning old.format.order_name order
          (agreeing env formats store meaning before from old was opened).order old risk files now
          no_opening (store_named store meaning old
          (agreeing env formats store meaning before from old was opened)
          (name_is env formats store meaning before from old was opened))
          (subst (λ p. KeepsHistory p order (IsTableOf order meaning) (Stays old) risk.bound files now)
          was.memory_is.path kept) spared)
          (moments risk.bound (subst (λ n. n ≤ risk.bound) (sym last_is) most))

      -- no file changes but those of data, which the request may touch
      pub kept_spares : IsTrue env.models_disk → (request : Request)
          → ((kind : FileType) → Touches open_mode request kind → IsData kind)
          → ((kind : FileType) → IsData kind → Touches open_mode request kind)
          → Spares store (MayTouch store old.mode request) (env.observed from).disk
          (env.observed mid).disk
      kept_spares modelled request of_data touches =
          spares_data env formats store meaning before from old was opened mid request of_data
          (λ path foreign. rest.files modelled path (λ own. foreign
          (own.0, touches own.0 own.1, subst (λ p. IsFilePath own.0 p path) was.memory_is.path own.2)))
          (λ path differs. ap (λ (l : List ℕ → Bool). l path) (rest.locks modelled))
