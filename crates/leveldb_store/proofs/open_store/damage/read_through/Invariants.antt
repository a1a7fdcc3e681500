use Rattle.leveldb_files.specs.Stores.Paths.{log_path}
use Rattle.leveldb_store.proofs.Logs.WholeLogLemmas.{IsLooking}
use Rattle.leveldb_store.proofs.open_store.damage.read_through.Given as goal

-- batches were read, and nothing else was done
abbrev pub invariant-batches : goal.invariant-batches
invariant-batches g l = IsLooking g.E.Env (log_path l.fn.store l.fn.number) l.fn.env l.log l.env

abbrev pub decreases-batches : goal.decreases-batches
decreases-batches g l = l.log.left
