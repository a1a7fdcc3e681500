use Rattle.std.proofs.Common.{◌≤◌, [], arith, length}
use Rattle.std.specs.Prelude.{slice_index_or}
use Rattle.std.proofs.lemmas.List.Elements.{Contains-get_or}
use Rattle.std.specs.Ordering.{is_lt}
use Rattle.std.proofs.lemmas.Bool.{iff_false, OnTrue_from, OnFalse_from}
use Rattle.leveldb_mem.specs.Placed.{place_of}
use Rattle.leveldb_mem.proofs.Halving.{count-le, count_before-is}
use Rattle.leveldb_mem.proofs.Rising.{gap_at}
use Rattle.leveldb_mem.proofs.skipmap.search.is_taken.Goals as goal

pub is_equal_after-requires-clause-within : goal.is_equal_after-requires-clause-within
is_equal_after-requires-clause-within g c =
    let cmp = g.C.Cmp.cmp c.args.cmp.now in
    let pairs = c.args.pairs.now.pairs in
    let within : place_of c.args.pairs.now.order c.args.path.now ≤ length c.args.pairs.now.order =
    omega (arith, c.requires.place, count_before-is cmp c.args.key.now pairs, count-le (λ k. is_lt (cmp k c.args.key.now)) pairs, c.len.ensures.nodes) in
    within

pub returns-then-len-gt0-clause-gap : goal.returns-then-len-gt0-clause-gap
returns-then-len-gt0-clause-gap g c =
    OnFalse_from c.is_equal_after.result _ (λ f.
    gap_at (g.met.C.Cmp.preorder c.args.cmp.now) c.requires.sorted c.args.key.now c.requires.accepted (place_of c.args.pairs.now.order c.args.path.now) c.requires.place
    (λ h e. iff_false c.is_equal_after.ensures f (h, e)))

pub returns-else-len-gt0-clause-gap : goal.returns-else-len-gt0-clause-gap
returns-else-len-gt0-clause-gap g c =
    OnFalse_from _ _ (λ f.
    gap_at (g.met.C.Cmp.preorder c.args.cmp.now) c.requires.sorted c.args.key.now c.requires.accepted (place_of c.args.pairs.now.order c.args.path.now) c.requires.place
    (λ h e. omega (arith, h, c.if-len-gt0.false, c.len.ensures.value)))

pub returns-then-len-gt0-clause-taken : goal.returns-then-len-gt0-clause-taken
returns-then-len-gt0-clause-taken g c =
    OnTrue_from c.is_equal_after.result _ (λ t.
    let pairs = c.args.pairs.now.pairs in
    let i = place_of c.args.pairs.now.order c.args.path.now in
    let there = c.is_equal_after.ensures.0 t in
    (slice_index_or pairs i ([], []), Contains-get_or pairs i ([], []) there.0, there.1))
