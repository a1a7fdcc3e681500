use Rattle.std.proofs.Common.{◌∙◌, ap, sym}
use Rattle.std.specs.Prelude.{option_and_then}
use Rattle.leveldb_iter.specs.Children.{head_of}
use Rattle.leveldb_iter.proofs.MergingIterLemmas.{current_here}
use Rattle.leveldb_iter.proofs.merging_iter.MergeCoreWalk.current.Goals as goal

pub returns-in-None : goal.returns-in-None
returns-in-None g c = ap (option_and_then (head_of g.I.Walk c.args.self.now.children.items)) (sym c.in-None.is)

pub returns-in-Some : goal.returns-in-Some
returns-in-Some g c =
    let it = c.args.self.now in
    let i = c.in-Some.i in
    c.current.ensures ∙ current_here g.I.Walk it.children.items it.current i c.index.result.now c.in-Some.is (it.within i c.in-Some.is) c.index.ensures
