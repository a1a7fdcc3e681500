use Rattle.std.proofs.Common.{⊎_elim, ◌≡◌, ◌+◌, ◌++◌, ◌∙◌, inr, ap, sym, subst, refl, length, List, arith, ap}
use Rattle.std.specs.List.{insert}
use Rattle.std.proofs.lemmas.Bool.{eqb-true, eqb-false}
use Rattle.std.proofs.lemmas.List.{nil_from_length}
use Rattle.std.proofs.lemmas.Result.{err_from_is_err_and}
use Rattle.std.proofs.lemmas.Bool.{OnTrue_at, OnFalse_at}
use Rattle.leveldb_base.specs.Types.{Pair}
use Rattle.leveldb_mem.specs.Placed.{place_of, FailsToReserve}
use Rattle.leveldb_mem.specs.SkipMap.{IsSorted}
use Rattle.leveldb_mem.proofs.Halving.{count_before-is}
use Rattle.leveldb_mem.proofs.Rising.{placed_at, inserts_at, parted_by_order}
use Rattle.leveldb_mem.proofs.SkipMapLemmas.{same_path, not_empty, not_present, refuses_empty, refuses_taken}
use Rattle.leveldb_mem.proofs.skipmap.SkipMap.insert.Goals as goal

pub path_for-path-requires : goal.path_for-path-requires
path_for-path-requires g c =
    let it = c.self.inside in
    let ok = ⊎_elim (λ none. absurd (eqb-false (length c.args.key.now) 0 (sym c.if-is_empty.ensures) (ap length none))) (λ ok. ok) (rw (← c.self.view_is) at c.requires) in
    parted_by_order (g.met.C.Cmp.preorder it.cmp) c.self.invariant.0 c.args.key.now ok

pub is_taken-requires-clause-place : goal.is_taken-requires-clause-place
is_taken-requires-clause-place g c =
    let it = c.self.inside in
    c.path_for-path.ensures.place ∙ count_before-is (g.C.Cmp.cmp it.cmp) c.args.key.now it.pairs.pairs

pub returns-in_err-reserve : goal.returns-in_err-reserve
returns-in_err-reserve g c =
    let it = c.self.inside in
    let pairs = it.pairs.pairs in
    let bytes = length c.args.key.now + length c.args.value.now in
    let p = err_from_is_err_and c.from_residual.result c.from_residual.ensures.1 in
    let failed = c.in_err-reserve.ensures in
    let none : length it.pairs.tail + bytes ≡ bytes = omega (arith, ap length c.self.invariant.1) in
    let cause = subst (λ n. FailsToReserve pairs 1 n c.in_err-reserve.field-0.0) none failed.cause in
    rw (p.1, p.2, ← c.self.view_is) (record {
      cmp = refl;
      ok = tt;
      sorted = subst (λ (ps : List Pair). IsSorted (g.C.Cmp.accepts it.cmp) (g.C.Cmp.cmp it.cmp) ps) (sym failed.pairs) c.self.invariant.0;
      err = failed.pairs;
      places = failed.err;
      bytes = failed.bytes;
      empty = (λ h. absurd (not_empty pairs 1 bytes cause h), λ none. absurd (eqb-false (length c.args.key.now) 0 (sym c.if-is_empty.ensures) (ap length none)));
      present = (λ h. absurd (not_present pairs 1 bytes cause h), λ h. absurd ((OnFalse_at c.if-is_taken.false c.is_taken.ensures.gap).alone h.1));
      cause = inr (inr cause);
    })

pub place-requires-clause-at : goal.place-requires-clause-at
place-requires-clause-at g c =
    let it = c.self.inside in
    let order_is = c.append-2.ensures.order ∙ c.append.ensures.order ∙ c.in_ok-reserve.ensures.order in
    let same = c.append-2.ensures.pairs ∙ c.append.ensures.pairs ∙ c.in_ok-reserve.ensures.pairs in
    let within = (OnFalse_at c.if-is_taken.false c.is_taken.ensures.gap).within in
    let at : place_of c.append-2.new.self.order c.path_for-path.result ≡ place_of it.pairs.order c.path_for-path.result = ap (λ o. place_of o c.path_for-path.result) order_is in
    let size : length c.append-2.new.self.pairs ≡ length it.pairs.pairs = ap length same in
    omega (arith, within, at, size)

pub place-requires-clause-path : goal.place-requires-clause-path
place-requires-clause-path g c =
    let it = c.self.inside in
    let path = c.path_for-path.result in
    same_path c.reserve.new.self.words c.append-2.new.self.words c.reserve.new.self.order c.append-2.new.self.order path (place_of it.pairs.order path)
    (c.append-2.ensures.words ∙ c.append.ensures.words) (c.append-2.ensures.order ∙ c.append.ensures.order) (ap (λ o. place_of o path) c.in_ok-reserve.ensures.order)
    (c.in_ok-reserve.ensures.paths path (place_of it.pairs.order path) c.path_for-path.ensures.path)

pub invariant_of-self-2 : goal.invariant_of-self-2
invariant_of-self-2 g c =
    let it = c.self.inside in
    let key = c.args.key.now in
    let value = c.args.value.now in
    let path = c.path_for-path.result in
    let same = c.append-2.ensures.pairs ∙ c.append.ensures.pairs ∙ c.in_ok-reserve.ensures.pairs in
    let order_is = c.append-2.ensures.order ∙ c.append.ensures.order ∙ c.in_ok-reserve.ensures.order in
    let tail : c.append-2.new.self.tail ≡ key ++ value =
    c.append-2.ensures.tail ∙ ap (λ z. z ++ value) (c.append.ensures.tail ∙ ap (λ z. z ++ key) (c.in_ok-reserve.ensures.tail ∙ c.self.invariant.1)) in
    let new : c.place.new.self.pairs ≡ insert it.pairs.pairs (place_of it.pairs.order path) (key, value) =
    placed_at it.pairs.pairs c.append-2.new.self.pairs c.place.new.self.pairs c.append-2.new.self.tail key value (place_of c.append-2.new.self.order path) (length key) same tail refl c.place.ensures.pairs
    ∙ ap (λ o. insert it.pairs.pairs (place_of o path) (key, value)) order_is in
    (subst (λ (ps : List Pair). IsSorted (g.C.Cmp.accepts it.cmp) (g.C.Cmp.cmp it.cmp) ps) (sym new) ((OnFalse_at c.if-is_taken.false c.is_taken.ensures.gap).sorted value), c.place.ensures.tail, c.place.ensures.nodes)

pub returns : goal.returns
returns g c =
    let it = c.self.inside in
    let key = c.args.key.now in
    let value = c.args.value.now in
    let path = c.path_for-path.result in
    let same = c.append-2.ensures.pairs ∙ c.append.ensures.pairs ∙ c.in_ok-reserve.ensures.pairs in
    let order_is = c.append-2.ensures.order ∙ c.append.ensures.order ∙ c.in_ok-reserve.ensures.order in
    let tail : c.append-2.new.self.tail ≡ key ++ value =
    c.append-2.ensures.tail ∙ ap (λ z. z ++ value) (c.append.ensures.tail ∙ ap (λ z. z ++ key) (c.in_ok-reserve.ensures.tail ∙ c.self.invariant.1)) in
    let new : c.place.new.self.pairs ≡ insert it.pairs.pairs (place_of it.pairs.order path) (key, value) =
    placed_at it.pairs.pairs c.append-2.new.self.pairs c.place.new.self.pairs c.append-2.new.self.tail key value (place_of c.append-2.new.self.order path) (length key) same tail refl c.place.ensures.pairs
    ∙ ap (λ o. insert it.pairs.pairs (place_of o path) (key, value)) order_is in
    rw (← c.self.view_is) (record {
      cmp = refl;
      ok = inserts_at it.pairs.pairs c.place.new.self.pairs (place_of it.pairs.order path) (key, value) new;
      sorted = subst (λ (ps : List Pair). IsSorted (g.C.Cmp.accepts it.cmp) (g.C.Cmp.cmp it.cmp) ps) (sym new) ((OnFalse_at c.if-is_taken.false c.is_taken.ensures.gap).sorted value);
      err = tt;
      places = tt;
      bytes = tt;
      empty = (λ h. absurd h, λ none. absurd (eqb-false (length key) 0 (sym c.if-is_empty.ensures) (ap length none)));
      present = (λ h. absurd h, λ h. absurd ((OnFalse_at c.if-is_taken.false c.is_taken.ensures.gap).alone h.1));
      cause = tt;
    })

pub returns-then-is_empty : goal.returns-then-is_empty
returns-then-is_empty g c =
    let p = err_from_is_err_and c.err.result c.err.ensures.code in
    let none = nil_from_length c.args.key.now (eqb-true (length c.args.key.now) 0 (sym c.if-is_empty.ensures)) in
    rw (p.1, ← c.self.view_is) (refuses_empty _ c.self.invariant.0 none p.2)

pub returns-then-is_taken : goal.returns-then-is_taken
returns-then-is_taken g c =
    let p = err_from_is_err_and c.err-then-is_taken.result c.err-then-is_taken.ensures.code in
    rw (p.1, ← c.self.view_is) (refuses_taken _ c.self.invariant.0 (λ none. eqb-false (length c.args.key.now) 0 (sym c.if-is_empty.ensures) (ap length none)) (OnTrue_at c.if-is_taken.true c.is_taken.ensures.taken) p.2)
