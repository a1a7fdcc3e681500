use Rattle.std.proofs.Common.{◌≡◌, ◌++◌, map}
use Rattle.std.specs.Prelude.{IsTrue}
use Rattle.std.specs.Map.Iter.{deref}
use Rattle.leveldb_env.specs.Env.{Run, SameLocks}
use Rattle.leveldb_store.specs.Openings.OpeningSteps.{AreBeingKept, with_logs_kept}
use Rattle.leveldb_store.proofs.opening.sync.sync_logs.Given as goal

abbrev pub invariant-loop-number : goal.invariant-loop-number
invariant-loop-number g l = record {
  rest : map deref l.yielded ++ l.number-iterator ≡ l.logs.keys;
  run : IsTrue g.E.Env.models_disk → Run (AreBeingKept l.store l.logs.keys (g.E.Env.observed l.initial.env).disk.files) (g.E.Env.observed l.initial.env) (g.E.Env.observed l.env);
  now : IsTrue g.E.Env.models_disk → (g.E.Env.observed l.env).disk.files ≡ with_logs_kept l.store (map deref l.yielded) (g.E.Env.observed l.initial.env).disk.files;
  locks : SameLocks g.E.Env.models_disk (g.E.Env.observed l.initial.env) (g.E.Env.observed l.env);
  uncounted : g.E.Env.failures l.env ≡ g.E.Env.failures l.initial.env;
}
