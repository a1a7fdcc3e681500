use Rattle.leveldb_files.proofs.Steps.BytesLemmas.{bytes_stay}
use Rattle.leveldb_files.proofs.laws.stores.files_stay_bytes.Goals as goal

pub returns : goal.returns
returns c = bytes_stay
