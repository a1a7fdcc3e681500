-- what is laid stays when bytes come after it
use Rattle.std.proofs.Common.{◌≡◌, ◌++◌, true, is_ok, arith, ap, ◌∙◌, length-append, length}
use Rattle.std.proofs.lemmas.Bool.{cond-true}
use Rattle.leveldb_mem.specs.Placed.{Placed}
use Rattle.leveldb_mem.proofs.LaidLemmas.{pairs-append, laid-append}
use Rattle.leveldb_mem.proofs.skipmap.placed.PlacedPairs.append.Goals as goal

pub invariant_of-self : goal.invariant_of-self
invariant_of-self c =
    let laid = c.self.invariant in
    let text = c.self.inside.text in
    let room = ap (λ (z : Placed). z.bytes) c.self.view_is in
    let there : is_ok c.extend_from_slice.result ≡ true = c.extend_from_slice.ensures.succeeds (omega (arith, room, c.requires, laid.4, text.ok.1)) in
    let more = c.extend_from_slice.ensures.items ∙ cond-true _ (text.items ++ c.args.part.now) text.items there in
    let size = ap length more in (
      rw more (laid-append laid.0 c.args.part.now),
      laid.1,
      laid.2,
      laid.3,
      omega (arith, laid.4, room, c.requires, size, length-append text.items c.args.part.now, c.extend_from_slice.ensures.capacity, text.ok.0, c.extend_from_slice.new.self.ok.0),
      omega (arith, laid.5, room, c.requires, size, length-append text.items c.args.part.now, text.ok.0, c.extend_from_slice.new.self.ok.0),
      laid.6,
    )

pub returns-clause-pairs : goal.returns-clause-pairs
returns-clause-pairs c =
    let laid = c.self.invariant in
    let text = c.self.inside.text in
    let room = ap (λ (z : Placed). z.bytes) c.self.view_is in
    let there : is_ok c.extend_from_slice.result ≡ true = c.extend_from_slice.ensures.succeeds (omega (arith, room, c.requires, laid.4, text.ok.1)) in
    let more = c.extend_from_slice.ensures.items ∙ cond-true _ (text.items ++ c.args.part.now) text.items there in
    rw more (pairs-append laid.0 c.args.part.now) ∙ ap (λ (z : Placed). z.pairs) c.self.view_is
