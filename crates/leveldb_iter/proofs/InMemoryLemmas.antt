-- Moves of an iterator, as moves of the walk that it is.
use Rattle.std.proofs.Common.{◌≡◌, ℕ, Bool, List, refl, sym, ◌∙◌, ap, Option, Some, None, Result, Ok, Err}
use Rattle.std.specs.Prelude.{OnOk, OnErr, IfOk, IfErr, is_some}
use Rattle.std.proofs.lemmas.Result.{IfOk-weaker, IfErr-weaker}
use Rattle.leveldb_base.specs.Types.{Pair, IsPosition, SameWalk, pair_at}
use Rattle.leveldb_base.specs.declared.error.Status.{Status}
use Rattle.leveldb_base.specs.declared.types.LdbIterator.{Ghosts as IteratorGhosts}
use Rattle.leveldb_iter.specs.Walk.{KeyOrder, MovesWalk}
use Rattle.leveldb_iter.specs.InMemory.{IsAloneOver, IsAloneAt, FailsAlone, alone_here}
use Rattle.leveldb_iter.proofs.CutLemmas.{at_some}

on_ok : {R : Type 0} {P Q : Type 0} (result : Result R Status) → (P → Q) → OnOk result P → OnOk result Q
on_ok (Ok r) f p = f p
on_ok (Err status) f p = tt

on_err : {R : Type 0} {P Q : Type 0} (result : Result R Status) → (P → Q) → OnErr result P → OnErr result Q
on_err (Ok r) f p = tt
on_err (Err status) f p = f p

some_at : (pairs : List Pair) (position : Option ℕ) → IsPosition pairs position → is_some (pair_at pairs position) ≡ is_some position
some_at pairs None within = refl
some_at pairs (Some i) within = ap is_some (at_some pairs (Some i) i refl within)

module _ {W M : Type 0} (iterator : IteratorGhosts M) where
  -- the list and its order stay, so the walk is over the same list
  over_again : {world : W} {old new : M} → SameWalk iterator.pairs iterator.order iterator.fails old new → {order : KeyOrder} {pairs : List Pair}
      → IsAloneOver iterator world (record { 0 = old }) order pairs → IsAloneOver iterator world (record { 0 = new }) order pairs
  over_again same over = record {
    order_is = over.order_is ∙ sym same.same_order;
    pairs_are = over.pairs_are ∙ sym same.same_pairs;
    sorted = over.sorted;
  }

  -- a move that leads from a position of the iterator's own list
  pub moves_alone : {R : Type 0} (world : W) (to : List Pair → Option ℕ → Option ℕ) {old new : M} (result : Result R Status)
      → SameWalk iterator.pairs iterator.order iterator.fails old new
      → OnOk result (iterator.position new ≡ to (iterator.pairs old) (iterator.position old))
      → OnErr result (iterator.position new ≡ None)
      → IfErr result (iterator.fails old new)
      → MovesWalk (IsAloneOver {W = W} iterator) (IsAloneAt iterator) (alone_here iterator) (FailsAlone iterator) (λ first second. second ≡ first) (IsAloneAt iterator) (λ _. to) world (record { 0 = old }) result world (record { 0 = new })
  moves_alone world to {old} {new} result same ok err cause = record {
    ok = λ order pairs position at.
        let over = at.over in
        on_ok result (λ e. record {
          over = over_again same over;
          position_is = ap (λ list. to list position) over.pairs_are ∙ ap (to (iterator.pairs old)) at.position_is ∙ sym e;
        }) ok;
    same = λ order pairs over. over_again same over;
    err = λ order pairs over. on_err result (λ e. record { over = over_again same over; position_is = sym e }) err;
    none = on_err result (λ e. ap (pair_at (iterator.pairs new)) e) err;
    kept = refl;
    cause = IfErr-weaker result _ _ (λ status fails. (new, fails)) cause;
    excuses = λ later status fails. (fails.0, same.excuses fails.0 status fails.1);
  }

-- an iterator that is at a position of its list is at a pair
pub valid_alone : {M : Type 0} (iterator : IteratorGhosts M) (it : M) → IsPosition (iterator.pairs it) (iterator.position it) → (result : Result Bool Status)
    → IfOk result (λ is_valid. is_valid ≡ is_some (iterator.position it)) → IfOk result (λ is_valid. is_valid ≡ is_some (alone_here iterator (record { 0 = it })))
valid_alone iterator it within result valid = IfOk-weaker result _ _ (λ is_valid is. is ∙ sym (some_at (iterator.pairs it) (iterator.position it) within)) valid
