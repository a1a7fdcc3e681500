-- An iterator over the store's view, or no memory for it.
use Rattle.std.proofs.Common.{refl}
use Rattle.rusty_leveldb.proofs.Walks.IteratingLemmas.{made_reference}
use Rattle.rusty_leveldb.proofs.Walks.ReaderIteratingLemmas.{reader_iterates}
use Rattle.rusty_leveldb.proofs.db_impl.read_only.ReadOnlyEngine+E+C+FP.new_iter.Goals as goal

pub returns-clause-reference : goal.returns-clause-reference
returns-clause-reference g c =
    made_reference _ g.E.Env g.C.Cmp g.FP.FilterPolicy _ _ _ _ _ _ _ _ c.iter_over.result c.iter_over.ensures.made

pub returns-clause-iterates : goal.returns-clause-iterates
returns-clause-iterates g c = rw (← c.self.view_is) (reader_iterates _ g.E.Env g.C.Cmp
    g.FP.FilterPolicy _ _ _ c.args.env.now c.last_sequence-last.result c.last_sequence-last.ensures
    _ _ refl refl c.iter_over.result c.iter_over.ensures.made c.iter_over.ensures.cause)
