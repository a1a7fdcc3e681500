use Rattle.leveldb_files.proofs.Levels.LevelsLemmas.{adding_keeps_order}
use Rattle.leveldb_files.proofs.laws.levels.added_tables_keep_the_order.Goals as goal

pub returns : goal.returns
returns c = λ cmp total tables table order bounded can.
    adding_keeps_order cmp total tables table order bounded can
