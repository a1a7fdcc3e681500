-- The records of a store's logs, read as batches.
use Rattle.std.specs.Prelude.{◌<◌, ◌≤◌, ℕ, List, [], ◌∷◌, flat_map, max}
use Rattle.leveldb_base.specs.History.{Entry, placed, greatest}
use Rattle.leveldb_base.specs.KeyTypes.{greatest_sequence}
use Rattle.leveldb_mem.specs.WriteBatch.{Batch, BatchOf}

-- lists of one length whose elements are related one by one
abbrev pub Each : {A B : Type 0} → (A → B → Type 0) → List A → List B → Type 0
Each R [] [] = Unit {0}
Each R (a ∷ as') (b ∷ bs) = R a b × Each R as' bs
Each R [] (b ∷ bs) = ⊥
Each R (a ∷ as') [] = ⊥

-- a record encodes the batch
abbrev pub IsRecordOf : List ℕ → Batch → Type 0
IsRecordOf bytes batch = BatchOf bytes batch.first batch.items

-- the entries of a batch
abbrev pub batch_entries : Batch → List Entry
batch_entries batch = placed batch.first batch.items

-- the entries of batches
abbrev pub all_entries : List Batch → List Entry
all_entries batches = flat_map batch_entries batches

-- each batch begins above this number and above all entries before it, and no number is past the
-- greatest
abbrev pub AreInOrder : ℕ → List Batch → Type 0
AreInOrder low [] = Unit {0}
AreInOrder low (batch ∷ later) =
    (low < batch.first) × (batch.first ≤ greatest_sequence)
    × (greatest (batch_entries batch) ≤ greatest_sequence)
    × AreInOrder (max low (greatest (batch_entries batch))) later
