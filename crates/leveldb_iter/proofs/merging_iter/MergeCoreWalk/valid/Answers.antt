use Rattle.std.proofs.Common.{◌∙◌, ap, sym}
use Rattle.std.specs.Prelude.{option_and_then, is_some}
use Rattle.leveldb_iter.specs.Children.{head_of}
use Rattle.leveldb_iter.proofs.MergingIterLemmas.{current_here}
use Rattle.leveldb_iter.proofs.merging_iter.MergeCoreWalk.valid.Goals as goal

pub returns-in-None : goal.returns-in-None
returns-in-None g c = ap (λ current. is_some (option_and_then (head_of g.I.Walk c.args.self.now.children.items) current)) (sym c.in-None.is)

pub returns-in-Some : goal.returns-in-Some
returns-in-Some g c =
    let it = c.args.self.now in
    let i = c.in-Some.i in
    c.valid.ensures ∙ ap is_some (current_here g.I.Walk it.children.items it.current i c.index.result.now c.in-Some.is (it.within i c.in-Some.is) c.index.ensures)
