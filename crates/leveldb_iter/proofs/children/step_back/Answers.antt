use Rattle.std.proofs.Common.{◌∙◌, sym}
use Rattle.leveldb_iter.proofs.ChildrenLemmas.{back_from_none}
use Rattle.leveldb_iter.proofs.children.step_back.Goals as goal

pub returns-then-not-valid : goal.returns-then-not-valid
returns-then-not-valid g c = back_from_none g.I.Walk g.met.I.Walk.laws (sym c.valid.ensures ∙ c.if-not-valid.true) c.seek_to_last.ensures.moves
