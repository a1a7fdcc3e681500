-- A write batch: changes of keys that are made together, and the bytes that encode them in the log.
use Rattle.std.specs.Prelude.{◌≡◌, ℕ, ◌^◌, ◌<◌, ◌≤◌, List, [], ◌∷◌, ◌++◌, length, flat_map, Option}
use Rattle.std.specs.Prelude.{Some, None, IfSome, option_copied, Result, OnOk, OnErr, IfErr}
use Rattle.std.specs.Prelude.{IsErrAnd, ◌↔◌, ◌⊎◌}
use Rattle.leveldb_base.specs.Error.{IsOutOfMemory}
use Rattle.leveldb_base.specs.declared.error.Status.{Status}
use Rattle.leveldb_base.specs.declared.error.StatusCode.TheVariants.{InvalidArgument}
use Rattle.std.specs.Borrow.{Bor}
use Rattle.leveldb_base.specs.History.{Item}
use Rattle.leveldb_base.specs.Varint.{little, sized}

-- ---- what a batch encodes

-- a key with its new value, or with none where it is deleted
abbrev pub item_of : List ℕ → Option (List ℕ) → Item
item_of key value = record { key = key; value = value }

-- changes in order, and the number of the first of them
pub record Batch : Type 0 where
  -- the number of the first
  pub first : ℕ
  -- the changes
  pub items : List Item

-- the batch of these changes, whose first entry has this number
abbrev pub batch_of : ℕ → List Item → Batch
batch_of first items = record { first = first; items = items }

-- one more change after the others
abbrev pub with_item : Batch → Item → Batch
with_item batch item = batch_of batch.first (batch.items ++ item ∷ [])

-- ---- bytes

-- an entry: 1, the key and the value, or 0 and the key
abbrev pub change_encoding : List ℕ → Option (List ℕ) → List ℕ
change_encoding key (Some value) = 1 ∷ (sized key ++ sized value)
change_encoding key None = 0 ∷ sized key

-- the bytes of a change in a batch
unfoldable pub change_bytes : Item → List ℕ
change_bytes item = change_encoding item.key item.value

-- the number of the first entry, how many there are, and the entries in order
unfoldable pub batch_bytes : ℕ → List Item → List ℕ
batch_bytes first items = little 8 first ++ (little 4 (length items) ++ flat_map change_bytes items)

-- the greatest length of a batch, and so of each key and each value in one
abbrev pub max_length : ℕ
max_length = 2 ^ 30

-- the bytes are these items, the first at this number, within the limit, which keeps keys and
-- values within it too
pub record BatchOf (bytes : List ℕ) (first : ℕ) (items : List Item) : Type 0 where
  -- they are the encoding
  pub encoded : bytes ≡ batch_bytes first items
  -- the number has 64 bits
  pub numbered : first < 2 ^ 64
  -- and the bytes are within the limit
  pub limited : length bytes ≤ max_length

-- the bytes are some batch
abbrev pub IsBatch : List ℕ → Type 0
IsBatch bytes = (batch : Batch) × BatchOf bytes batch.first batch.items

-- the batch is past the limit
abbrev pub IsTooLong : Batch → Type 0
IsTooLong batch = max_length < length (batch_bytes batch.first batch.items)

-- what adding a change to a batch returns, and what it leaves
pub record AddChangeResult (old : Batch) (item : Item) (result : Result (Unit {0}) Status)
    (new : Batch) : Type 0 where
  -- an Ok has one change more
  pub ok : OnOk result (new ≡ with_item old item)
  -- an error leaves the batch
  pub err : OnErr result (new ≡ old)
  -- a change for which there is no room is an error, and no other is `InvalidArgument`
  pub too_long : IsErrAnd result (λ status. status.code ≡ InvalidArgument)
      ↔ IsTooLong (with_item old item)
  -- past the limit, or out of memory
  pub cause : IfErr result (λ status. (status.code ≡ InvalidArgument) ⊎ IsOutOfMemory status)

-- key and value are within the limit
abbrev pub IsShort : Item → Type 0
IsShort item = (length item.key ≤ max_length)
    × IfSome item.value (λ value. length value ≤ max_length)

-- the bytes are some entries, one after the other
abbrev pub AreChanges : List ℕ → Type 0
AreChanges bytes = (items : List Item) × (bytes ≡ flat_map change_bytes items)

-- ---- reading

-- what counting the entries of some bytes gives: their number, or nothing where the bytes aren't
-- entries
abbrev pub CountsChanges : List ℕ → Option ℕ → Type 0
CountsChanges bytes (Some count) = (items : List Item) × (bytes ≡ flat_map change_bytes items)
    × (length items ≡ count)
CountsChanges bytes None = (items : List Item) → bytes ≡ flat_map change_bytes items → ⊥

-- what reading an entry at the front of some bytes gives: the item and what follows it, or nothing
-- where there is none
abbrev pub ReadsChange : List ℕ → Option (Item × List ℕ) → Type 0
ReadsChange bytes (Some (item, rest)) = bytes ≡ change_bytes item ++ rest
ReadsChange bytes None = (item : Item) (rest : List ℕ) → bytes ≡ change_bytes item ++ rest → ⊥

-- the item that a borrowed key and a borrowed value are
abbrev pub borrowed_item : Bor (List ℕ) × Option (Bor (List ℕ)) → Item
borrowed_item pair = item_of pair.0.now (option_copied pair.1)

-- the item, and the bytes after it
abbrev pub borrowed_entry : Option ((Bor (List ℕ) × Option (Bor (List ℕ))) × Bor (List ℕ))
    → Option (Item × List ℕ)
borrowed_entry None = None
borrowed_entry (Some entry) = Some (borrowed_item entry.0, entry.1.now)
