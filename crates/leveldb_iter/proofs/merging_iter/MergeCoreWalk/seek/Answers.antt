use Rattle.std.proofs.Common.{◌∙◌, sym, refl}
use Rattle.std.proofs.lemmas.Result.{err_from_is_err_and}
use Rattle.leveldb_iter.proofs.MergingIterLemmas.{SeeksFrom, SeeksOver, begins_key, always_key, refused, chooses, unsought}
use Rattle.leveldb_iter.proofs.merging_iter.MergeCoreWalk.seek.Goals as goal

pub returns-in_err-ready_key : goal.returns-in_err-ready_key
returns-in_err-ready_key g c =
    let p = err_from_is_err_and c.from_residual.result c.from_residual.ensures.1 in
    rw p.1 (rw p.2 (record {
      moves = refused g.I.Walk g.met.I.Walk.laws g.C.Cmp g.met.C.Cmp.preorder (SeeksOver g.I.Walk g.met.I.Walk.laws g.C.Cmp g.met.C.Cmp.preorder c.args.key.now) (SeeksFrom g.I.Walk g.met.I.Walk.laws g.C.Cmp g.met.C.Cmp.preorder c.args.key.now) _ _ (c.args.env.now, c.args.tables.now) c.args.self.now _ c.ready_key.new.self (begins_key g.I.Walk g.met.I.Walk.laws g.C.Cmp g.met.C.Cmp.preorder (c.args.env.now, c.args.tables.now) c.args.self.now c.args.key.now)
          (always_key g.I.Walk g.met.I.Walk.laws g.C.Cmp g.met.C.Cmp.preorder (c.args.env.now, c.args.tables.now) c.args.self.now c.args.key.now (sym c.accepts.ensures ∙ c.if-not-accepts.false)) c.in_err-ready_key.field-0.0 c.in_err-ready_key.ensures;
    }))

pub returns : goal.returns
returns g c =
    let choice = c.pick_current.ensures in
    record {
      moves = chooses g.I.Walk g.met.I.Walk.laws g.C.Cmp g.met.C.Cmp.preorder (SeeksOver g.I.Walk g.met.I.Walk.laws g.C.Cmp g.met.C.Cmp.preorder c.args.key.now) (SeeksFrom g.I.Walk g.met.I.Walk.laws g.C.Cmp g.met.C.Cmp.preorder c.args.key.now) _ _ (c.args.env.now, c.args.tables.now) c.args.self.now _ c.ready_key.new.self (begins_key g.I.Walk g.met.I.Walk.laws g.C.Cmp g.met.C.Cmp.preorder (c.args.env.now, c.args.tables.now) c.args.self.now c.args.key.now)
          (always_key g.I.Walk g.met.I.Walk.laws g.C.Cmp g.met.C.Cmp.preorder (c.args.env.now, c.args.tables.now) c.args.self.now c.args.key.now (sym c.accepts.ensures ∙ c.if-not-accepts.false)) c.pick_current.new.self c.in_ok-ready_key.ensures choice.cmp choice.children choice.direction _ choice.best choice.cause choice.none;
    }

pub returns-then-not-accepts : goal.returns-then-not-accepts
returns-then-not-accepts g c = record { moves = unsought g.I.Walk g.met.I.Walk.laws g.C.Cmp g.met.C.Cmp.preorder (c.args.env.now, c.args.tables.now) c.args.self.now c.args.key.now _ (sym c.accepts.ensures ∙ c.if-not-accepts.true) refl refl refl }
