-- What holds of a builder none of whose calls failed is a proposition. This is in specs/ since a
-- ghost field cites it.
use Rattle.std.proofs.Common.{◌≡◌, ℕ, Bool, true, List, [], ◌∷◌, ◌++◌, None}
use Rattle.std.proofs.Props.{props}
use Rattle.std.specs.List.{AllByRecursion}
use Rattle.std.specs.declared.cmp.Ordering.{Ordering}
use Rattle.leveldb_base.specs.Types.{Pair}
use Rattle.leveldb_table.specs.BlockLaws.{RiseAfter-prop}
use Rattle.leveldb_table.specs.TableBuilderStage.{Stage, AreReady, IsSound}

accepted_prop : (accepts : List ℕ → Bool) (pairs : List Pair)
    → IsProp (AllByRecursion (λ pair. accepts pair.0 ≡ true) pairs)
accepted_prop accepts [] = hlevel props
accepted_prop accepts (pair ∷ pairs) = hlevel (props, accepted_prop accepts pairs)

AreReady-prop : {FP : Type 0} (accepts : List ℕ → Bool)
    (cmp index_cmp : List ℕ → List ℕ → Ordering) (stage : Stage FP)
    → IsProp (AreReady accepts cmp index_cmp stage)
AreReady-prop accepts cmp index_cmp stage =
    hlevel (
      props,
      accepted_prop accepts (stage.lines ++ stage.open_pairs),
      RiseAfter-prop cmp None (stage.lines ++ stage.open_pairs),
    )

pub IsSound-prop : {FP : Type 0} (accepts : List ℕ → Bool)
    (cmp index_cmp : List ℕ → List ℕ → Ordering) (stage : Stage FP)
    → IsProp (IsSound accepts cmp index_cmp stage)
IsSound-prop accepts cmp index_cmp stage =
    hlevel (props, AreReady-prop accepts cmp index_cmp stage)
