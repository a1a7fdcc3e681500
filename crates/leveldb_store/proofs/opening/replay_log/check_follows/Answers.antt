use Rattle.std.proofs.Common.{arith}
use Rattle.leveldb_store.specs.Logs.ReplayLog.{Follows}
use Rattle.leveldb_store.proofs.Logs.ReplayLogLemmas.{corrupt, fits_all, fits_not}
use Rattle.leveldb_store.proofs.opening.replay_log.check_follows.Goals as goal
use Rattle.leveldb_store.proofs.opening.replay_log.check_follows.Goals.{then-first-gt-MAX_SEQUENCE_NUMBER-via-then-first-gt-MAX_SEQUENCE_NUMBER, then-first-gt-MAX_SEQUENCE_NUMBER-via-else-first-gt-MAX_SEQUENCE_NUMBER+then-first-from}

pub returns-then-first-gt-MAX_SEQUENCE_NUMBER-clause-cause :
    goal.returns-then-first-gt-MAX_SEQUENCE_NUMBER-clause-cause
returns-then-first-gt-MAX_SEQUENCE_NUMBER-clause-cause c =
    corrupt (Follows c.args.last c.args.batch.now) c.err-then-first-gt-MAX_SEQUENCE_NUMBER.result c.err-then-first-gt-MAX_SEQUENCE_NUMBER.ensures.code
    (elim c.then-first-gt-MAX_SEQUENCE_NUMBER.branch [
      | then-first-gt-MAX_SEQUENCE_NUMBER-via-then-first-gt-MAX_SEQUENCE_NUMBER w ↦ λ follows. omega (arith, follows.first_fits)
      | then-first-gt-MAX_SEQUENCE_NUMBER-via-else-first-gt-MAX_SEQUENCE_NUMBER+then-first-from w ↦ λ follows. fits_not c.args.batch.now.first c.args.batch.now.items (omega (arith, follows.first_fits)) (omega arith) follows.all_fit
    ])

pub returns-clause-ok : goal.returns-clause-ok
returns-clause-ok c = record { above = omega arith; first_fits = omega arith; all_fit = fits_all c.args.batch.now.first c.args.batch.now.items (omega arith) (omega arith) }
