use Rattle.std.proofs.Common.{◌∙◌, ap}
use Rattle.std.specs.List.{list_any}
use Rattle.leveldb_version.proofs.Versions.SeeksLemmas.{last_seek_at_level}
use Rattle.leveldb_version.specs.Versions.Version.{has_last_seek}
use Rattle.leveldb_version.proofs.version.seeks.has_last_seek.Goals as goal

pub returns : goal.returns
returns c =
    c.is_last_seek_among.ensures
    ∙ (ap (list_any (has_last_seek c.args.at)) c.part_of_level.ensures
    ∙ last_seek_at_level c.args.at c.args.files.now)
