use Rattle.std.proofs.Common.{◌≡◌, Some, rules, subst}
use Rattle.leveldb_env.specs.WholeFiles.{IsFoundOr}
use Rattle.leveldb_mem.proofs.LogFileLemmas.{syncs_records}
use Rattle.leveldb_mem.proofs.log.log_file.LogFile.sync.Goals as goal

pub returns : goal.returns
returns g c =
    let is : c.self.inside.file ≡ Some c.in-Some.file = search rules in
    rw (← c.self.view_is)
    (syncs_records g.E.Env _ c.args.env.now c.in-Some.file (rw is at c.self.invariant.0) c.sync_file-synced.result c.found.result
    c.sync_file-synced.ensures.usable c.sync_file-synced.ensures.broken
    (subst (λ s. IsFoundOr s c.sync_file-synced.result c.found.result) c.deref.ensures c.found.ensures))
