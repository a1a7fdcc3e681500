use Rattle.leveldb_mem.proofs.LawsLemmas.{log_laws}
use Rattle.leveldb_mem.proofs.laws.log_files_keep_laws.Goals as goal

pub returns : goal.returns
returns c = log_laws
