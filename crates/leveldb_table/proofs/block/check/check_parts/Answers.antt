use Rattle.std.proofs.Common.{◌≡◌, ◌<◌, length, arith}
use Rattle.std.proofs.lemmas.Bool.Decides.{nat_tests}
use Rattle.leveldb_table.proofs.BlockCheckLemmas.{checks_empty, checking_none, checks_no_entry, checks_no_follow, point_long, left_shrinks, checking_more, checks_whole, checks_no_whole}
use Rattle.leveldb_table.proofs.block.check.check_parts.Goals as goal

pub returns-then-is_empty-clause-found : goal.returns-then-is_empty-clause-found
returns-then-is_empty-clause-found g c =
    let none : length c.args.entries.now ≡ 0 = grind (arith, nat_tests) in
    checks_empty (g.C.Cmp.accepts c.args.cmp.now) (g.C.Cmp.cmp c.args.cmp.now) c.args.entries.now c.args.points.now none c.check_empty.result c.check_empty.ensures.some c.check_empty.ensures.none

pub loop-left-init : goal.loop-left-init
loop-left-init g c = checking_none c.in_ok-key.key.items

pub returns-in_default-clause-found : goal.returns-in_default-clause-found
returns-in_default-clause-found g c =
    let some : 0 < length c.loop-left.left.now = grind (arith, nat_tests) in
    checks_no_entry c.loop-left.invariant some c.in_default.ensures

pub returns-then-not-branch-clause-found : goal.returns-then-not-branch-clause-found
returns-then-not-branch-clause-found g c =
    let some : 0 < length c.loop-left.left.now = grind (arith, nat_tests) in
    let follows = c.in_ok-take_key.ensures.follows in
    checks_no_follow c.loop-left.invariant some c.in-Some.entry.shared c.in-Some.entry.rest.now c.in-Some.entry.value.now c.in-Some.after.now c.in-Some.ensures.0 c.in-Some.ensures.1
    c.begins_at-restart.result c.begins_at-restart.ensures
    (λ h. let t = follows.1 h in let no = c.if-not-branch.true in cc)

pub skip_point-points_left-requires : goal.skip_point-points_left-requires
skip_point-points_left-requires g c =
    let some : 0 < length c.loop-left.left.now = grind (arith, nat_tests) in
    point_long c.loop-left.invariant some c.begins_at-restart.result c.begins_at-restart.ensures

pub loop-left-smaller : goal.loop-left-smaller
loop-left-smaller g c =
    let some : 0 < length c.loop-left.left.now = grind (arith, nat_tests) in
    left_shrinks c.loop-left.invariant some c.in-Some.entry.shared c.in-Some.entry.rest.now c.in-Some.entry.value.now c.in-Some.after.now c.in-Some.ensures.0 c.in-Some.ensures.1
    c.begins_at-restart.result c.begins_at-restart.ensures

pub loop-left-preserved : goal.loop-left-preserved
loop-left-preserved g c =
    let some : 0 < length c.loop-left.left.now = grind (arith, nat_tests) in
    let follows = c.in_ok-take_key.ensures.follows in
    let put = c.in_ok-take_key.ensures.key c.if-not-branch.false in
    let still = rw c.as_slice.ensures.value at c.accepts_too-accepted.ensures in
    checking_more c.loop-left.invariant some c.in-Some.entry.shared c.in-Some.entry.rest.now c.in-Some.entry.value.now c.in-Some.after.now c.in-Some.ensures.0 c.in-Some.ensures.1
    c.begins_at-restart.result c.begins_at-restart.ensures (follows.0 c.if-not-branch.false) c.take_key.new.key.items put
    c.accepts_too-accepted.result still c.skip_point-points_left.result.now c.skip_point-points_left.ensures

pub returns-then-points_left-ge4-clause-found : goal.returns-then-points_left-ge4-clause-found
returns-then-points_left-ge4-clause-found g c =
    let some : 0 < length c.args.entries.now = grind (arith, nat_tests) in
    let end : length c.loop-left.left.now ≡ 0 = grind (arith, nat_tests) in
    checks_no_whole some c.loop-left.invariant end (omega arith)

pub returns-clause-found : goal.returns-clause-found
returns-clause-found g c =
    let some : 0 < length c.args.entries.now = grind (arith, nat_tests) in
    let end : length c.loop-left.left.now ≡ 0 = grind (arith, nat_tests) in
    checks_whole some c.loop-left.invariant end (omega arith)
