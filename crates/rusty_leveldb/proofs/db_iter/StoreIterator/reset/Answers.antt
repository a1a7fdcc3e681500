use Rattle.rusty_leveldb.proofs.Walks.IteratorLemmas.{moved_off}
use Rattle.rusty_leveldb.specs.Headline as headline
use Rattle.rusty_leveldb.specs.Machines.State as machine
use Rattle.rusty_leveldb.proofs.Headline.WalkRowLemmas.{same_position}
use Rattle.rusty_leveldb.proofs.Walks.SaysLemmas.{move_says}
use Rattle.rusty_leveldb.proofs.db_iter.StoreIterator.reset.Goals as goal

pub returns-clause-moves : goal.returns-clause-moves
returns-clause-moves g c = moved_off _ g.E.Env g.met.E.Env.counts g.C.Cmp g.FP.FilterPolicy g.K.Compressors.codings g.V.Walk
    c.args.self.now c.reset.new.self c.reset.ensures tt

pub returns-clause-says : goal.returns-clause-says
returns-clause-says g c = move_says headline.reset (λ order pairs position. same_position order pairs position machine.reset)
    (λ status never. absurd never) (returns-clause-moves g c)
