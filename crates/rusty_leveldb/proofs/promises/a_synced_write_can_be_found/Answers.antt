use Rattle.rusty_leveldb.proofs.Machines.Example.{synced_can_be_found}
use Rattle.rusty_leveldb.proofs.promises.a_synced_write_can_be_found.Goals as goal

pub returns : goal.returns
returns c = synced_can_be_found
