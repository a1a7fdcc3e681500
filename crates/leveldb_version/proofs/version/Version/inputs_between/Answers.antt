use Rattle.std.proofs.Common.{subst}
use Rattle.leveldb_files.specs.Levels.Overlap.{AreInputs, UserRange}
use Rattle.leveldb_version.specs.Versions.Version.{borrowed_files, new_files_of}
use Rattle.leveldb_files.proofs.Levels.OverlapLemmas.{if_ok_more}
use Rattle.leveldb_version.proofs.version.Version.inputs_between.Goals as goal

pub returns-clause-ok : goal.returns-clause-ok
returns-clause-ok g c =
    let version = c.args.self.now in
    if_ok_more c.inputs_of.result c.inputs_of.ensures.ok (λ inputs are.
    subst (λ (range : UserRange). AreInputs (g.C.Cmp.cmp version.cmp) c.args.level range (new_files_of version) (borrowed_files inputs.items)) c.closed.ensures are)
