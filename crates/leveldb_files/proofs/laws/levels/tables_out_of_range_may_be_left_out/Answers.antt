use Rattle.leveldb_files.proofs.Levels.LevelsLemmas.{ranges_leave_out}
use Rattle.leveldb_files.proofs.laws.levels.tables_out_of_range_may_be_left_out.Goals as goal

pub returns : goal.returns
returns c = ranges_leave_out
