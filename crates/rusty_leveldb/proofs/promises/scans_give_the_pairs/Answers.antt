use Rattle.rusty_leveldb.proofs.Walks.ScanLemmas.{scan_gives_pairs}
use Rattle.rusty_leveldb.proofs.promises.scans_give_the_pairs.Goals as goal

pub returns : goal.returns
returns g c = scan_gives_pairs _ g.E.Env g.C.Cmp g.FP.FilterPolicy g.K.Compressors.codings g.V.Walk
