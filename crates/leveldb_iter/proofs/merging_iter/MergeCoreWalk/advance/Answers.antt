use Rattle.std.proofs.Common.{refl}
use Rattle.std.proofs.lemmas.Result.{err_from_is_err_and}
use Rattle.leveldb_iter.proofs.MergingIterLemmas.{begins_at, always_at, refused, arrives, clashes}
use Rattle.leveldb_iter.proofs.merging_iter.MergeCoreWalk.advance.Goals as goal

pub returns-in_err-ready_next-clause-moves : goal.returns-in_err-ready_next-clause-moves
returns-in_err-ready_next-clause-moves g c =
    let p = err_from_is_err_and c.from_residual.result c.from_residual.ensures.1 in
    rw p.1 (rw p.2 (refused g.I.Walk g.met.I.Walk.laws g.C.Cmp g.met.C.Cmp.preorder _ _ _ _ _ _ _ c.ready_next.new.self (begins_at g.I.Walk g.met.I.Walk.laws g.C.Cmp g.met.C.Cmp.preorder (c.args.env.now, c.args.tables.now) c.args.self.now)
    (always_at g.I.Walk g.met.I.Walk.laws g.C.Cmp g.met.C.Cmp.preorder (c.args.env.now, c.args.tables.now) c.args.self.now) c.in_err-ready_next.field-0.0 c.in_err-ready_next.ensures))

pub returns-in_err-pick_current-clause-moves : goal.returns-in_err-pick_current-clause-moves
returns-in_err-pick_current-clause-moves g c =
    let p = err_from_is_err_and c.from_residual-in_err-pick_current.result c.from_residual-in_err-pick_current.ensures.1 in
    let choice = c.in_err-pick_current.ensures in
    rw p.1 (rw p.2 (clashes g.I.Walk g.met.I.Walk.laws g.C.Cmp g.met.C.Cmp.preorder _ _ _ _ _ _ _ c.ready_next.new.self (begins_at g.I.Walk g.met.I.Walk.laws g.C.Cmp g.met.C.Cmp.preorder (c.args.env.now, c.args.tables.now) c.args.self.now)
    (always_at g.I.Walk g.met.I.Walk.laws g.C.Cmp g.met.C.Cmp.preorder (c.args.env.now, c.args.tables.now) c.args.self.now) c.pick_current.new.self c.in_ok-ready_next.ensures choice.cmp choice.children choice.direction _ choice.best c.in_err-pick_current.field-0.0 refl choice.cause choice.none))

pub returns-clause-moves : goal.returns-clause-moves
returns-clause-moves g c =
    let choice = c.in_ok-pick_current.ensures in
    arrives g.I.Walk g.met.I.Walk.laws g.C.Cmp g.met.C.Cmp.preorder _ _ _ _ _ _ _ c.ready_next.new.self (begins_at g.I.Walk g.met.I.Walk.laws g.C.Cmp g.met.C.Cmp.preorder (c.args.env.now, c.args.tables.now) c.args.self.now)
    (always_at g.I.Walk g.met.I.Walk.laws g.C.Cmp g.met.C.Cmp.preorder (c.args.env.now, c.args.tables.now) c.args.self.now) c.pick_current.new.self c.in_ok-ready_next.ensures choice.cmp choice.children choice.direction _ choice.best _ refl
