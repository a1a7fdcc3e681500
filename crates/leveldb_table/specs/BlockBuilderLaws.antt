-- What a block builder has is one list of entries. This is in specs/ since a ghost field cites it.
use Rattle.std.proofs.Common.{ℕ, ◌+◌, List, [], ◌∷◌, Bool, None, sym, ◌∙◌}
use Rattle.std.proofs.Props.{props}
use Rattle.std.specs.declared.cmp.Ordering.{Ordering}
use mathlib.Core.HLevel.{Σ_prop_path}
use Rattle.leveldb_table.specs.Block.{BlockEntry, pairs_of}
use Rattle.leveldb_table.specs.BlockLaws.{one_whole, AreEntries-prop, RiseAfter-prop}
use Rattle.leveldb_table.specs.BlockBuilder.{AreSpaced, AreEntriesBuilt, HasEntriesBuilt}

AreSpaced-prop : (interval i : ℕ) (entries : List BlockEntry)
    → IsProp (AreSpaced interval i entries)
AreSpaced-prop interval i [] = hlevel props
AreSpaced-prop interval i (entry ∷ entries) =
    hlevel (props, AreSpaced-prop interval (i + 1) entries)

AreEntriesBuilt-prop : (cmp : List ℕ → List ℕ → Ordering) (interval : ℕ)
    (bytes points last : List ℕ) (count : ℕ) (begun : Bool) (entries : List BlockEntry)
    → IsProp (AreEntriesBuilt cmp interval bytes points last count begun entries)
AreEntriesBuilt-prop cmp interval bytes points last count begun entries =
    hlevel (
      props,
      AreSpaced-prop interval 0 entries,
      AreEntries-prop None entries,
      RiseAfter-prop cmp None (pairs_of None entries),
    )

-- what a builder has is entries in one way
pub HasEntriesBuilt-prop : (cmp : List ℕ → List ℕ → Ordering) (interval : ℕ)
    (bytes points last : List ℕ) (count : ℕ) (begun : Bool)
    → IsProp (HasEntriesBuilt cmp interval bytes points last count begun)
HasEntriesBuilt-prop cmp interval bytes points last count begun =
    λ u v. Σ_prop_path (AreEntriesBuilt-prop cmp interval bytes points last count begun)
    (one_whole u.0 v.0 (sym u.1.encoded ∙ v.1.encoded) (sym u.1.pointed ∙ v.1.pointed))
