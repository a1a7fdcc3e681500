-- The parts of an open table that other crates speak of.
use Rattle.std.specs.Prelude.{◌≡◌, ℕ}
use Rattle.leveldb_table.specs.TableReader.{OpenTable, AreOfPolicy}

module _ {C FP F : Type 0} where
  -- the file that it was opened in
  abbrev pub file_of : OpenTable C FP F → F
  file_of table = table.file

  -- the number that is in the keys of its blocks in a cache
  abbrev pub id_of : OpenTable C FP F → ℕ
  id_of table = table.id

  -- its keys and those of its index have this order
  abbrev pub IsOrderedBy : C → OpenTable C FP F → Type 0
  IsOrderedBy cmp table = (table.cmp ≡ cmp) × (table.index.cmp ≡ cmp)

  -- its filters, if it has some, are of this policy
  abbrev pub IsFilteredBy : FP → OpenTable C FP F → Type 0
  IsFilteredBy policy table = AreOfPolicy policy table.filters
