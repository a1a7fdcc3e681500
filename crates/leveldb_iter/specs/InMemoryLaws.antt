-- The laws of an iterator as a walk. They are in specs/ since its impl of `Walk` proves them by
-- this, and the checker takes no term of proofs/ there.
use Rattle.std.specs.Prelude.{◌≡◌, List, ℕ, Option}
use Rattle.std.proofs.Common.{sym, ap, ◌∙◌, subst, refl}
use Rattle.leveldb_base.specs.Types.{Pair, IsPosition, pair_at}
use Rattle.leveldb_base.specs.declared.types.LdbIterator.{Ghosts as IteratorGhosts}
use Rattle.leveldb_iter.specs.declared.in_memory.InMemory.{InMemory}
use Rattle.leveldb_iter.specs.Walk.{KeyOrder, WalkLaws}
use Rattle.leveldb_iter.specs.InMemory.{IsAloneOver, IsAloneAt, FailsAlone, alone_here}

module _ {W M : Type 0} {iterator : IteratorGhosts M} where
  alone_at_position : (world : W) (it : InMemory M) (order : KeyOrder) (pairs : List Pair)
      (position : Option ℕ) → IsAloneAt iterator world it order pairs position
      → alone_here iterator it ≡ pair_at pairs position
  alone_at_position world it order pairs position at =
      let over = at.over in
      ap (pair_at (iterator.pairs it.0)) (sym at.position_is)
      ∙ ap (λ list. pair_at list position) (sym over.pairs_are)

  alone_in_range : (world : W) (it : InMemory M) (order : KeyOrder) (pairs : List Pair)
      (position : Option ℕ) → IsPosition (iterator.pairs it.0) (iterator.position it.0)
      → IsAloneAt iterator world it order pairs position → IsPosition pairs position
  alone_in_range world it order pairs position within at =
      let over = at.over in
      subst (λ list. IsPosition list position) (sym over.pairs_are)
      (subst (IsPosition (iterator.pairs it.0)) (sym at.position_is) within)

  stays_alone : (first second : W) (it : InMemory M) (order : KeyOrder) (pairs : List Pair)
      → IsAloneOver iterator first it order pairs → IsAloneOver iterator second it order pairs
  stays_alone first second it order pairs over =
      record { order_is = over.order_is; pairs_are = over.pairs_are; sorted = over.sorted }

  -- an iterator whose list has its position is a walk, whatever the world is
  pub alone_laws : ((it : M) → IsPosition (iterator.pairs it) (iterator.position it))
      → WalkLaws (IsAloneOver {W = W} iterator) (IsAloneAt iterator) (alone_here iterator)
      (FailsAlone iterator) (λ first second. second ≡ first)
  alone_laws within = record {
    sorted = λ world it order pairs over. over.sorted;
    over_list = λ world it order pairs position at. at.over;
    in_range = λ world it order pairs position.
        alone_in_range world it order pairs position (within it.0);
    at_position = alone_at_position;
    keeps_itself = λ world. refl;
    keeps_on = λ first second third one other. other ∙ one;
    stays_over = λ first second same. stays_alone first second;
    stays = λ first second same it order pairs position at.
        record {
          over = stays_alone first second it order pairs at.over;
          position_is = at.position_is;
        };
    excuses = λ first second same it later status fails. fails;
  }
