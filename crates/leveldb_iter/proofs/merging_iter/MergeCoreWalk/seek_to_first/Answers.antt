use Rattle.std.proofs.lemmas.Result.{err_from_is_err_and}
use Rattle.leveldb_iter.proofs.MergingIterLemmas.{begins_over, always_over, refused, chooses}
use Rattle.leveldb_iter.proofs.merging_iter.MergeCoreWalk.seek_to_first.Goals as goal

pub returns-in_err-ready_first : goal.returns-in_err-ready_first
returns-in_err-ready_first g c =
    let p = err_from_is_err_and c.from_residual.result c.from_residual.ensures.1 in
    rw p.1 (rw p.2 (record {
      moves = refused g.I.Walk g.met.I.Walk.laws g.C.Cmp g.met.C.Cmp.preorder _ _ _ _ _ _ _ c.ready_first.new.self (begins_over g.I.Walk g.met.I.Walk.laws g.C.Cmp g.met.C.Cmp.preorder (c.args.env.now, c.args.tables.now) c.args.self.now)
          (always_over g.I.Walk g.met.I.Walk.laws g.C.Cmp g.met.C.Cmp.preorder (c.args.env.now, c.args.tables.now) c.args.self.now) c.in_err-ready_first.field-0.0 c.in_err-ready_first.ensures;
    }))

pub returns : goal.returns
returns g c =
    let choice = c.pick_current.ensures in
    record {
      moves = chooses g.I.Walk g.met.I.Walk.laws g.C.Cmp g.met.C.Cmp.preorder _ _ _ _ _ _ _ c.ready_first.new.self (begins_over g.I.Walk g.met.I.Walk.laws g.C.Cmp g.met.C.Cmp.preorder (c.args.env.now, c.args.tables.now) c.args.self.now)
          (always_over g.I.Walk g.met.I.Walk.laws g.C.Cmp g.met.C.Cmp.preorder (c.args.env.now, c.args.tables.now) c.args.self.now) c.pick_current.new.self c.in_ok-ready_first.ensures choice.cmp choice.children choice.direction _ choice.best choice.cause choice.none;
    }
