use Rattle.std.proofs.Common.{◌≤◌, ◌<◌, length, sym, ◌∙◌, arith}
use Rattle.std.proofs.lemmas.Result.{on_ok_weaker}
use Rattle.leveldb_table.proofs.BlockWalkLemmas.{start-end, fronts, fronts_of, last_reached, no_last, point_within}
use Rattle.leveldb_table.proofs.block.walk.BlockCore.seek_to_last.Goals as goal

pub returns-then-block-eq0-clause-ok : goal.returns-then-block-eq0-clause-ok
returns-then-block-eq0-clause-ok g c = no_last c.args.block.now.entries (fronts_of c.block.view_is (fronts c.block.inside.entries.1)) c.if-block-eq0.true

pub walk-requires-clause-before : goal.walk-requires-clause-before
walk-requires-clause-before g c = point_within c.args.block.now.entries (fronts_of c.block.view_is (fronts c.block.inside.entries.1)) c.last_point.result c.last_point.ensures c.if-block-eq0.false

pub walk-requires-clause-stop : goal.walk-requires-clause-stop
walk-requires-clause-stop g c =
    let f = fronts_of c.block.view_is (fronts c.block.inside.entries.1) in
    let all : length c.args.block.now.entries ≤ length c.args.block.now.entries = omega arith in
    (length c.args.block.now.entries, all, f.ends ∙ sym (start-end c.args.block.now.entries))

pub returns-clause-ok : goal.returns-clause-ok
returns-clause-ok g c =
    let not_zero = c.if-block-eq0.false in
    let some : 0 < c.block.inside.limit = omega (arith, not_zero) in
    on_ok_weaker c.walk.result (λ h. last_reached c.args.block.now.entries (fronts_of c.block.view_is (fronts c.block.inside.entries.1)) c.walk.new.self.spot c.walk.new.self.key some h) c.walk.ensures.ok
