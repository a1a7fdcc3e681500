use Rattle.std.proofs.Common.{◌∙◌, ap, length}
use Rattle.leveldb_version.proofs.Versions.VersionLemmas.{at_level_length}
use Rattle.leveldb_version.proofs.version.Version.num_level_files.Goals as goal

pub returns : goal.returns
returns g c = ap length c.files.ensures.files ∙ at_level_length c.args.level c.args.self.now.files
