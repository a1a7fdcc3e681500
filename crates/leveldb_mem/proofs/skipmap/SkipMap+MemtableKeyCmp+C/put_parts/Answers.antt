use Rattle.std.proofs.Common.{◌≡◌, ◌++◌, ◌∙◌, [], ap, sym, subst, refl, length, List, arith, append-nil}
use Rattle.std.proofs.lemmas.Bool.{OnTrue_at, OnFalse_at}
use Rattle.leveldb_base.specs.Cmp.{memtable_accepts}
use Rattle.leveldb_base.specs.KeyTypes.{memtable_cmp}
use Rattle.leveldb_base.specs.CmpLaws.{memtable_preorder}
use Rattle.leveldb_base.specs.Types.{Pair, count_before}
use Rattle.leveldb_mem.specs.Placed.{place_of}
use Rattle.leveldb_mem.specs.SkipMap.{IsSorted, HasKey}
use Rattle.leveldb_mem.specs.Searching.{IsParted}
use Rattle.leveldb_mem.proofs.Halving.{count_passing, parted_passing}
use Rattle.leveldb_mem.proofs.MemTableLemmas.{as_of, as_of_key}
use Rattle.leveldb_mem.proofs.Rising.{placed_at, inserts_at, parted_by_order}
use Rattle.leveldb_mem.proofs.SkipMapLemmas.{length-five}
use Rattle.leveldb_mem.proofs.skipmap.SkipMap+MemtableKeyCmp+C.put_parts.Goals as goal

pub path_for-path-requires : goal.path_for-path-requires
path_for-path-requires g c =
    let it = c.self.inside in
    let cmp = g.C.Cmp.cmp it.cmp.0 in
    let whole_key = c.args.a.now ++ c.args.user.now ++ c.args.c.now ++ c.args.d.now ++ c.args.e.now in
    let same = c.append-5.ensures.pairs ∙ c.append-4.ensures.pairs ∙ c.append-3.ensures.pairs ∙ c.append-2.ensures.pairs ∙ c.append.ensures.pairs in
    let before = as_of_key cmp whole_key c.args.user.now c.args.sequence c.requires.user c.requires.number in
    let parted = parted_by_order (memtable_preorder (g.met.C.Cmp.preorder it.cmp.0)) c.self.invariant.0 whole_key (rw (← c.self.view_is) at c.requires.accepted) in
    subst (λ (ps : List Pair). IsParted (λ k. as_of cmp k c.args.user.now c.args.sequence) ps) (sym same) (parted_passing (memtable_cmp cmp) whole_key before it.pairs.pairs parted)

pub is_taken-requires-clause-place : goal.is_taken-requires-clause-place
is_taken-requires-clause-place g c =
    let it = c.self.inside in
    let cmp = g.C.Cmp.cmp it.cmp.0 in
    let a = c.args.a.now in
    let user = c.args.user.now in
    let d = c.args.d.now in
    let e = c.args.e.now in
    let third = c.args.c.now in
    let whole_key = a ++ user ++ third ++ d ++ e in
    let before = as_of_key cmp whole_key user c.args.sequence c.requires.user c.requires.number in
    let two = c.append-2.ensures.tail ∙ ap (λ z. z ++ user) (c.append.ensures.tail ∙ ap (λ z. z ++ a) c.self.invariant.1) in
    let four = c.append-4.ensures.tail ∙ ap (λ z. z ++ d) (c.append-3.ensures.tail ∙ ap (λ z. z ++ third) two) in
    let whole : c.append-5.new.self.tail ≡ whole_key = c.append-5.ensures.tail ∙ ap (λ z. z ++ e) four in
    let key_is : c.tail-key.result.now ≡ whole_key = c.tail-key.ensures ∙ whole in
    let pairs = c.append-5.new.self.pairs in
    c.path_for-path.ensures.place ∙ count_passing (memtable_cmp cmp) whole_key before pairs ∙ ap (λ k. count_before (memtable_cmp cmp) k pairs) (sym key_is)

pub invariant_of-self-2 : goal.invariant_of-self-2
invariant_of-self-2 g c =
    let it = c.self.inside in
    let key = c.tail-key.result.now in
    let pairs = c.append-5.new.self.pairs in
    let whole = sym c.tail-key.ensures ∙ sym (append-nil key) in
    let new = placed_at pairs pairs c.place.new.self.pairs c.append-5.new.self.tail key [] (place_of c.append-5.new.self.order c.path_for-path.result) (length key) refl whole refl c.place.ensures.pairs in
    (subst (λ (ps : List Pair). IsSorted (memtable_accepts (g.C.Cmp.accepts it.cmp.0)) (memtable_cmp (g.C.Cmp.cmp it.cmp.0)) ps) (sym new) ((OnFalse_at c.if-is_taken.false c.is_taken.ensures.gap).sorted []), c.place.ensures.tail, c.place.ensures.nodes)

pub returns : goal.returns
returns g c =
    let it = c.self.inside in
    let a = c.args.a.now in
    let b = c.args.user.now in
    let d = c.args.d.now in
    let e = c.args.e.now in
    let third = c.args.c.now in
    let key = c.tail-key.result.now in
    let whole_key = a ++ b ++ third ++ d ++ e in
    let order = memtable_cmp (g.C.Cmp.cmp it.cmp.0) in
    let same = c.append-5.ensures.pairs ∙ c.append-4.ensures.pairs ∙ c.append-3.ensures.pairs ∙ c.append-2.ensures.pairs ∙ c.append.ensures.pairs in
    let two = c.append-2.ensures.tail ∙ ap (λ z. z ++ b) (c.append.ensures.tail ∙ ap (λ z. z ++ a) c.self.invariant.1) in
    let four = c.append-4.ensures.tail ∙ ap (λ z. z ++ d) (c.append-3.ensures.tail ∙ ap (λ z. z ++ third) two) in
    let whole : c.append-5.new.self.tail ≡ whole_key = c.append-5.ensures.tail ∙ ap (λ z. z ++ e) four in
    let key_is : key ≡ whole_key = c.tail-key.ensures ∙ whole in
    let five = length-five a b third d e in
    let all = whole ∙ sym (append-nil whole_key) in
    let at = place_of c.append-5.new.self.order c.path_for-path.result in
    let new = placed_at it.pairs.pairs c.append-5.new.self.pairs c.place.new.self.pairs c.append-5.new.self.tail whole_key [] at (length key) same all (ap length key_is) c.place.ensures.pairs in
    rw (← c.self.view_is) (record {
      cmp = refl;
      bytes = omega (arith, five, c.append.ensures.bytes, c.append-2.ensures.bytes, c.append-3.ensures.bytes, c.append-4.ensures.bytes, c.append-5.ensures.bytes, c.place.ensures.bytes);
      absent = subst (λ k. HasKey order it.pairs.pairs k → ⊥) key_is (subst (λ (ps : List Pair). HasKey order ps key → ⊥) same (OnFalse_at c.if-is_taken.false c.is_taken.ensures.gap).alone);
      put = inserts_at it.pairs.pairs c.place.new.self.pairs at (whole_key, []) new;
      place = omega (arith, c.place.ensures.places, c.append.ensures.places, c.append-2.ensures.places, c.append-3.ensures.places, c.append-4.ensures.places, c.append-5.ensures.places);
      present = tt;
      left = tt;
      places = tt;
      unused = tt;
    })

pub returns-then-is_taken : goal.returns-then-is_taken
returns-then-is_taken g c =
    let it = c.self.inside in
    let a = c.args.a.now in
    let b = c.args.user.now in
    let d = c.args.d.now in
    let e = c.args.e.now in
    let third = c.args.c.now in
    let key = c.tail-key.result.now in
    let whole_key = a ++ b ++ third ++ d ++ e in
    let order = memtable_cmp (g.C.Cmp.cmp it.cmp.0) in
    let same = c.append-5.ensures.pairs ∙ c.append-4.ensures.pairs ∙ c.append-3.ensures.pairs ∙ c.append-2.ensures.pairs ∙ c.append.ensures.pairs in
    let two = c.append-2.ensures.tail ∙ ap (λ z. z ++ b) (c.append.ensures.tail ∙ ap (λ z. z ++ a) c.self.invariant.1) in
    let four = c.append-4.ensures.tail ∙ ap (λ z. z ++ d) (c.append-3.ensures.tail ∙ ap (λ z. z ++ third) two) in
    let whole : c.append-5.new.self.tail ≡ whole_key = c.append-5.ensures.tail ∙ ap (λ z. z ++ e) four in
    let key_is : key ≡ whole_key = c.tail-key.ensures ∙ whole in
    let five = length-five a b third d e in
    rw (← c.self.view_is) (record {
      cmp = refl;
      bytes = omega (arith, five, c.append.ensures.bytes, c.append-2.ensures.bytes, c.append-3.ensures.bytes, c.append-4.ensures.bytes, c.append-5.ensures.bytes, c.drop_tail.ensures.bytes);
      absent = tt;
      put = tt;
      place = tt;
      present = subst (λ k. HasKey order it.pairs.pairs k) key_is (subst (λ (ps : List Pair). HasKey order ps key) same (OnTrue_at c.if-is_taken.true c.is_taken.ensures.taken));
      left = c.drop_tail.ensures.pairs ∙ same;
      places = c.drop_tail.ensures.places ∙ c.append-5.ensures.places ∙ c.append-4.ensures.places ∙ c.append-3.ensures.places ∙ c.append-2.ensures.places ∙ c.append.ensures.places;
      unused = omega (
        arith,
        five,
        ap length whole,
        c.drop_tail.ensures.bytes,
        c.append.ensures.bytes,
        c.append-2.ensures.bytes,
        c.append-3.ensures.bytes,
        c.append-4.ensures.bytes,
        c.append-5.ensures.bytes,
      );
    })
