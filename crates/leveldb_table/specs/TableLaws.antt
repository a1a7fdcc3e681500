-- Which tables stay tables: a statement that the contracts of module `laws` name.
use Rattle.std.specs.Prelude.{ℕ, Bool, List, Option}
use Rattle.std.specs.declared.cmp.Ordering.{Ordering}
use Rattle.leveldb_base.specs.Types.{Pair}
use Rattle.leveldb_table.specs.Table.{IsTable}

-- what the first decode, the second decode to the same texts
abbrev pub DecodesMore : (Decodes More : ℕ → List ℕ → List ℕ → Type 0) → Type 0
DecodesMore Decodes More =
    (id : ℕ) (stored text : List ℕ) → Decodes id stored text → More id stored text

-- a table by some compressors is one by compressors that decode more
abbrev pub TablesByMore : (Decodes More : ℕ → List ℕ → List ℕ → Type 0) → Type 0
TablesByMore Decodes More = DecodesMore Decodes More → (accepts : List ℕ → Bool)
    (cmp : List ℕ → List ℕ → Ordering) (meaning : List ℕ → Option (List ℕ → List ℕ → Bool))
    (user : List ℕ → List ℕ) (file : List ℕ) (pairs : List Pair)
    → IsTable Decodes accepts cmp meaning user file pairs
    → IsTable More accepts cmp meaning user file pairs
