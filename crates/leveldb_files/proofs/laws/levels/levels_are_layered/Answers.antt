use Rattle.leveldb_files.proofs.Levels.LevelsLemmas.{are_layered}
use Rattle.leveldb_files.proofs.laws.levels.levels_are_layered.Goals as goal

pub returns : goal.returns
returns c = λ cmp total all order bounded tables within first.
    are_layered cmp total all order bounded tables within first
