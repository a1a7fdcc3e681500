use Rattle.rusty_leveldb.proofs.Walks.ScanSaysLemmas.{scan_says}
use Rattle.rusty_leveldb.proofs.db_impl.scan.Store+E+Engine+E+C+FP.scan.Goals as goal

pub returns-clause-says : goal.returns-clause-says
returns-clause-says g c = (c.scan.ensures.0, c.scan.ensures.1, scan_says c.scan.ensures.2)
