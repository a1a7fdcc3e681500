use Rattle.std.proofs.Common.{sym, ap, ◌∙◌, arith}
use Rattle.std.specs.Ordering.{is_lt}
use Rattle.leveldb_table.proofs.BlockWalkLemmas.{fronts, fronts_of, seeks_first, seeks_loads, seeks_ends, seeks_more, seeks_found}
use Rattle.leveldb_table.proofs.block.walk.BlockCore.seek.Goals as goal

pub loop-next-init : goal.loop-next-init
loop-next-init g c =
    seeks_first c.args.block.now.entries (fronts_of c.block.view_is (fronts c.block.inside.entries.1)) c.args.key.now c.args.self.now.key c.point_before_key-next.result c.point_before_key-next.ensures.point c.point_before_key-next.ensures.before

pub load-requires : goal.load-requires
load-requires g c = seeks_loads (fronts_of c.block.view_is (fronts c.block.inside.entries.1)) c.loop-next.invariant c.loop-next-test.true

pub returns-then-not-is_lt-clause-ok : goal.returns-then-not-is_lt-clause-ok
returns-then-not-is_lt-clause-ok g c =
    let order = c.cmp.ensures ∙ ap (λ z. g.C.Cmp.cmp c.block.inside.cmp z c.args.key.now) c.as_slice.ensures.value ∙ ap (λ place. g.C.Cmp.cmp c.block.inside.cmp place.key c.args.key.now) c.self.view_is
    ∙ ap (λ block. g.C.Cmp.cmp block.cmp c.load.new.self.key c.args.key.now) c.block.view_is in
    seeks_found (fronts_of c.block.view_is (fronts c.block.inside.entries.1)) c.loop-next.invariant c.loop-next-test.true c.load.new.self.spot c.load.new.self.key c.in_ok-next.next c.in_ok-next.ensures.ok
    (sym (c.is_lt.ensures ∙ ap is_lt order) ∙ c.if-not-is_lt.true)

pub loop-next-smaller : goal.loop-next-smaller
loop-next-smaller g c =
    let order = c.cmp.ensures ∙ ap (λ z. g.C.Cmp.cmp c.block.inside.cmp z c.args.key.now) c.as_slice.ensures.value ∙ ap (λ place. g.C.Cmp.cmp c.block.inside.cmp place.key c.args.key.now) c.self.view_is
    ∙ ap (λ block. g.C.Cmp.cmp block.cmp c.load.new.self.key c.args.key.now) c.block.view_is in
    let more = seeks_more (fronts_of c.block.view_is (fronts c.block.inside.entries.1)) c.loop-next.invariant c.loop-next-test.true c.load.new.self.spot c.load.new.self.key c.in_ok-next.next c.in_ok-next.ensures.ok
    (sym (c.is_lt.ensures ∙ ap is_lt order) ∙ c.if-not-is_lt.false) in
    let on = more.1 in
    omega (arith, on, c.loop-next-test.true)

pub loop-next-preserved : goal.loop-next-preserved
loop-next-preserved g c =
    let order = c.cmp.ensures ∙ ap (λ z. g.C.Cmp.cmp c.block.inside.cmp z c.args.key.now) c.as_slice.ensures.value ∙ ap (λ place. g.C.Cmp.cmp c.block.inside.cmp place.key c.args.key.now) c.self.view_is
    ∙ ap (λ block. g.C.Cmp.cmp block.cmp c.load.new.self.key c.args.key.now) c.block.view_is in
    let more = seeks_more (fronts_of c.block.view_is (fronts c.block.inside.entries.1)) c.loop-next.invariant c.loop-next-test.true c.load.new.self.spot c.load.new.self.key c.in_ok-next.next c.in_ok-next.ensures.ok
    (sym (c.is_lt.ensures ∙ ap is_lt order) ∙ c.if-not-is_lt.false) in
    more.0

pub returns-clause-ok : goal.returns-clause-ok
returns-clause-ok g c = seeks_ends (fronts_of c.block.view_is (fronts c.block.inside.entries.1)) c.loop-next.invariant c.loop-next-test.false
