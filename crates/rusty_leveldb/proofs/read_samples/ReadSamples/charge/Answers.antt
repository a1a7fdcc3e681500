use Rattle.rusty_leveldb.proofs.Walks.ChargesLemmas.{charged_version}
use Rattle.rusty_leveldb.proofs.read_samples.ReadSamples.charge.Goals as goal

pub returns-clause-version : goal.returns-clause-version
returns-clause-version g c =
    rw c.charge_all.ensures (charged_version c.as_slice.result.now c.args.store.now)
