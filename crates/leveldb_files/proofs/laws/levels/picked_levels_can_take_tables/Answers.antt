use Rattle.leveldb_files.proofs.Levels.OutputLevelLemmas.{output_level_is_free}
use Rattle.leveldb_files.proofs.laws.levels.picked_levels_can_take_tables.Goals as goal

pub returns : goal.returns
returns c = λ cmp tables files there table level bounded newer number.
    output_level_is_free cmp tables files there table level bounded newer number
