use Rattle.std.proofs.Common.{rules, ◌≡◌}
use Rattle.leveldb_base.specs.declared.error.StatusCode.TheVariants.{NotFound}
use Rattle.leveldb_table.proofs.TableBlockLemmas.{KeepsDisk-call, fails_missing}
use Rattle.leveldb_table.proofs.table_block.read_some.Goals as goal

pub returns-then-eq-clause-reads : goal.returns-then-eq-clause-reads
returns-then-eq-clause-reads g c =
    let answer = c.in-Err.ensures in
    let missing : c.in-Err.status.code ≡ NotFound = search rules in
    record {
      kept_disk = KeepsDisk-call g.E.Env answer.does answer.locks;
      cause = fails_missing g.E.Env c.args.file.now c.in-Err.status c.corruption.result missing c.corruption.ensures answer.cause;
    }
