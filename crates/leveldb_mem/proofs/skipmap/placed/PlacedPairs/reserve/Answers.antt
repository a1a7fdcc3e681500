use Rattle.std.proofs.Common.{◌≡◌, ◌≤◌, ◌+◌, ◌*◌, ◌^◌, ◌∙◌, inl, refl, ap, length, drop, arith, length-drop}
use Rattle.std.proofs.lemmas.Result.{err_from_is_err_and}
use Rattle.leveldb_mem.specs.Placed.{head, nodes_after, pairs_of_nodes, pairs_length, map_memory}
use Rattle.leveldb_mem.proofs.PlacedLemmas.{length-pairs_of_nodes, length-nodes_after}
use Rattle.leveldb_mem.proofs.LaidLemmas.{opens}
use Rattle.leveldb_mem.proofs.skipmap.placed.PlacedPairs.reserve.Goals as goal
use Rattle.leveldb_mem.proofs.skipmap.placed.PlacedPairs.reserve.Goals.{then-places-len-via-then-places-len, then-places-len-via-else-places-len+then-bytes-len}

pub invariant_of-self-2 : goal.invariant_of-self-2
invariant_of-self-2 c =
    let it = c.self.inside in
    let words_are = c.in_ok-reserve.ensures.items in
    let opens_now = opens c.self.invariant.0 c.reserve-2.new.self.items c.place_head.new.words.items c.in_ok-reserve-2.ensures.items
    (λ e. c.place_head.ensures.first (omega (arith, e, c.in_ok-reserve.ensures.len, it.words.ok.0)))
    (λ h. c.place_head.ensures.others (omega (arith, h, c.in_ok-reserve.ensures.len, it.words.ok.0)) ∙ words_are) in (
      opens_now.laid',
      λ _. omega (arith, opens_now.some, c.place_head.new.words.ok.0),
      omega (arith, c.in_ok-reserve.ensures.ok, c.in_ok-reserve.ensures.len, c.place_head.ensures.capacity, opens_now.most, it.words.ok.0, c.place_head.new.words.ok.0),
      omega (arith, c.if-places-len.false, c.len.ensures, opens_now.most, it.words.ok.0, c.place_head.new.words.ok.0),
      omega (arith, c.in_ok-reserve-2.ensures.ok, c.in_ok-reserve-2.ensures.len, c.in_ok-reserve-2.ensures.capacity, c.max-self-inside.ensures, c.self.invariant.4),
      omega (arith, c.if-bytes-len.false, c.len-else-places-len.ensures, c.in_ok-reserve-2.ensures.len, c.max-self-inside.ensures, c.self.invariant.5),
      omega (arith, opens_now.short (omega (arith, it.words.ok.0, c.self.invariant.6)), c.place_head.new.words.ok.0),
    )

pub returns-then-places-len : goal.returns-then-places-len
returns-then-places-len c =
    let it = c.self.inside in
    let text = it.text.items in
    let words = it.words.items in
    let nodes = nodes_after words head it.count in
    let pairs = pairs_of_nodes text words nodes in
    let more = length (drop it.end text) + c.args.bytes in
    let size : length pairs ≡ it.count = length-pairs_of_nodes text words nodes ∙ length-nodes_after words head it.count in
    let bytes : pairs_length pairs ≡ it.end = c.self.invariant.0.filled in
    let past : 2 ^ 32 ≤ map_memory pairs + (64 * c.args.places + more) =
    elim c.then-places-len.branch [
      | then-places-len-via-then-places-len w ↦ omega (arith, size, w.if-places-len.true, c.len.ensures, c.self.invariant.6)
      | then-places-len-via-else-places-len+then-bytes-len w ↦ omega (
        arith,
        bytes,
        w.if-bytes-len.true,
        w.len-else-places-len.ensures,
        length-drop it.end text,
        c.self.invariant.0.within,
        it.text.ok.0,
      )
    ] in
    let p = err_from_is_err_and c.err.result c.err.ensures.code in
    rw (p.1, ← c.self.view_is) (record {
      pairs = refl;
      order = refl;
      paths = λ path at to. to;
      tail = refl;
      ok = tt;
      err = refl;
      bytes = omega arith;
      cause = inl (p.2, past);
    })

pub returns : goal.returns
returns c =
    let it = c.self.inside in
    let words_are = c.in_ok-reserve.ensures.items in
    let opens_now = opens c.self.invariant.0 c.reserve-2.new.self.items c.place_head.new.words.items c.in_ok-reserve-2.ensures.items
    (λ e. c.place_head.ensures.first (omega (arith, e, c.in_ok-reserve.ensures.len, it.words.ok.0)))
    (λ h. c.place_head.ensures.others (omega (arith, h, c.in_ok-reserve.ensures.len, it.words.ok.0)) ∙ words_are) in
    rw (← c.self.view_is) (record {
      pairs = opens_now.pairs';
      order = opens_now.order';
      paths = opens_now.paths;
      tail = ap (drop it.end) c.in_ok-reserve-2.ensures.items;
      ok = (refl, omega (arith, c.max-self-inside.ensures), omega (arith, c.if-bytes-len.false));
      err = tt;
      bytes = omega (arith, c.max-self-inside.ensures);
      cause = tt;
    })
