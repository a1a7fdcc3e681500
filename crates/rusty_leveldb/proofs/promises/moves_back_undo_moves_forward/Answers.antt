use Rattle.rusty_leveldb.proofs.Walks.IteratorLawsLemmas.{prev_undoes_next}
use Rattle.rusty_leveldb.proofs.promises.moves_back_undo_moves_forward.Goals as goal

pub returns : goal.returns
returns g c = prev_undoes_next g.E.Env g.C.Cmp g.FP.FilterPolicy g.K.Compressors.codings g.V.Walk
