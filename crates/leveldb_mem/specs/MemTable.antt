-- A memtable: its entries, the room for more, and the memtable keys that encode entries.
use Rattle.std.specs.Prelude.{◌≡◌, ◌⊎◌, ◌^◌, ◌≤◌, ◌+◌, ◌*◌, ◌↔◌, ℕ, Bool, List, [], ◌∷◌, ◌++◌}
use Rattle.std.specs.Prelude.{length, drop, map, max, sum_by, slice_get, Contains, Option, Some}
use Rattle.std.specs.Prelude.{None}
use Rattle.std.specs.Prelude.{Result, OnOk, OnErr, IfErr, refl}
use Rattle.std.specs.Bool.{OnTrue, OnFalse}
use Rattle.std.specs.Coded.{Coded, code_by, coded×, coded_list, coded_option, coded_ℕ}
use Rattle.leveldb_base.specs.Error.{IsOutOfMemory}
use Rattle.leveldb_base.specs.declared.error.Status.{Status}
use Rattle.leveldb_base.specs.declared.error.StatusCode.TheVariants.{AlreadyExists, NotSupported}
use Rattle.leveldb_base.specs.Entries.{type_of, bytes_of_value, value_of}
use Rattle.leveldb_base.specs.declared.types.Lookup.{Lookup}
use Rattle.leveldb_base.specs.declared.types.Lookup.TheVariants.{Value, Deleted, Absent}
use Rattle.leveldb_base.specs.History.{Item, Entry}
use Rattle.leveldb_base.specs.KeyTypes.{user_part, sequence_part, type_part, memtable_key}
use Rattle.leveldb_base.specs.KeyTypes.{front_key}
use Rattle.leveldb_base.specs.Varint.{sized}
use Rattle.leveldb_base.specs.Types.{Pair}

-- ---- sets of entries

-- In this section a list encodes the set of its elements.

-- the last set is the union of the others
abbrev pub IsUnion : List Entry → List Entry → List Entry → Type 0
IsUnion old more new = (entry : Entry) → Contains new entry ↔ Contains (old ++ more) entry

-- no entry has this key at this sequence
abbrev pub IsNewTo : List Entry → ℕ → List ℕ → Type 0
IsNewTo entries sequence key = (entry : Entry) → Contains entries entry → entry.key ≡ key
    → entry.sequence ≡ sequence → ⊥

-- each of these is of another key or at another sequence than all entries
abbrev pub AreNewTo : List Entry → List Entry → Type 0
AreNewTo entries more = (entry : Entry) → Contains more entry
    → IsNewTo entries entry.sequence entry.key

-- ---- room

-- how many bytes a value has; a deletion has none
abbrev pub value_length : Option (List ℕ) → ℕ
value_length None = 0
value_length (Some value) = length value

-- how many bytes keys and values have together
abbrev pub bytes_in : List Item → ℕ
bytes_in [] = 0
bytes_in (item ∷ items) = length item.key + value_length item.value + bytes_in items

-- entries, and room for more: for `places` of them, whose keys and values have `bytes` bytes
pub record Kept : Type 0 where
  -- the entries, in the order of their internal keys
  pub entries : List Entry
  -- for how many more there is room
  pub places : ℕ
  -- and for how many bytes of keys and values
  pub bytes : ℕ

-- there is room for these
pub record HasRoom (kept : Kept) (items : List Item) : Type 0 where
  -- for so many
  pub places : length items ≤ kept.places
  -- and for their bytes
  pub bytes : bytes_in items ≤ kept.bytes

-- what there was room for has room still
abbrev pub KeepsRoom : Kept → Kept → Type 0
KeepsRoom old new = (items : List Item) → HasRoom old items → HasRoom new items

-- an entry has come, and took one place and no more than its bytes
pub record AddsEntry (old : Kept) (entry : Entry) (new : Kept) : Type 0 where
  -- the entries are the old ones and this one
  pub gains : IsUnion old.entries (entry ∷ []) new.entries
  -- it took one place
  pub places : old.places ≡ new.places + 1
  -- and no more room than its bytes
  pub bytes : old.bytes ≤ new.bytes + length entry.key + value_length entry.value

-- ---- the memtable

-- a comparator of users' keys, what is kept, and the nodes of the entries in the map
pub record MemTableState (C : Type 0) : Type 0 where
  -- the comparator of users' keys
  pub cmp : C
  -- the entries, and room for more
  pub kept : Kept
  -- the nodes of the entries, in their order
  pub nodes : List ℕ

-- an entry, as nested pairs of encodable parts
abbrev pub entry_code : Coded Entry
entry_code =
    code_by (ℕ × (List ℕ × Option (List ℕ)))
    (coded× coded_ℕ (coded× (coded_list coded_ℕ) (coded_option (coded_list coded_ℕ))))
    (λ e. (e.sequence, (e.key, e.value)))
    (λ p. record { sequence = p.0; key = p.1.0; value = p.1.1 }) (λ _. refl)

-- a memtable, as nested pairs of encodable parts
abbrev pub memtable_code : {C : Type 0} → Coded C → Coded (MemTableState C)
memtable_code {C} c =
    code_by (C × (List Entry × (List ℕ × (ℕ × ℕ))))
    (coded× c
    (coded× (coded_list entry_code) (coded× (coded_list coded_ℕ) (coded× coded_ℕ coded_ℕ))))
    (λ m. (m.cmp, (m.kept.entries, (m.nodes, (m.kept.places, m.kept.bytes)))))
    (λ p. record {
      cmp = p.0;
      kept = record { entries = p.1.0; places = p.1.1.1.0; bytes = p.1.1.1.1 };
      nodes = p.1.1.0;
    }) (λ _. refl)

-- an entry's number, key and value
abbrev pub entry_of : ℕ → List ℕ → Option (List ℕ) → Entry
entry_of sequence key value = record { sequence = sequence; key = key; value = value }

-- the memtable key of an entry
unfoldable pub entry_key : Entry → List ℕ
entry_key entry =
    memtable_key entry.key entry.sequence (type_of entry.value) (bytes_of_value entry.value)

-- the text after the internal key of a memtable key
abbrev pub inner_value : List ℕ → List ℕ
inner_value key = front_key (drop (length (sized (front_key key))) key)

-- the entry that a memtable key encodes
unfoldable pub entry_from : List ℕ → Entry
entry_from key =
    let internal = front_key key in
    entry_of (sequence_part internal) (user_part internal)
    (value_of (type_part internal) (inner_value key))

-- a map's pair is the memtable key of an entry, and no value
abbrev pub IsEntryPair : Pair → Type 0
IsEntryPair pair = (pair.0 ≡ entry_key (entry_from pair.0)) × (pair.1 ≡ [])

-- the entries that the keys of these pairs encode, in their order
abbrev pub entries_of_keys : List Pair → List Entry
entries_of_keys pairs = map (λ pair. entry_from pair.0) pairs

-- the entry at an index is one of the key, with this value or as a deletion
abbrev pub HasEntryAt : List Entry → ℕ → List ℕ → Option (List ℕ) → Type 0
HasEntryAt entries at key value = (sequence : ℕ)
    × (slice_get entries at ≡ Some (entry_of sequence key value))

-- what the entry at an index says of a key: nothing where it is another key's or isn't there
abbrev pub IsFoundAt : List Entry → ℕ → List ℕ → Lookup (List ℕ) → Type 0
IsFoundAt entries at key (Value value) = HasEntryAt entries at key (Some value)
IsFoundAt entries at key Deleted = HasEntryAt entries at key None
IsFoundAt entries at key Absent = (entry : Entry) → slice_get entries at ≡ Some entry
    → entry.key ≡ key → ⊥

-- the most that an entry's memtable key has beside key and value: two lengths and a tag
abbrev pub most_beside : ℕ
most_beside = 28

-- what counts as the memory of entries: 128, and for each 64 and the length of its memtable key
abbrev pub memory_of_entries : List Entry → ℕ
memory_of_entries entries =
    128 + (64 * length entries + sum_by (λ entry. length (entry_key entry)) entries)

-- one entry more, and as much more memory as counts for it
pub record Grows (old : List Entry) (entry : Entry) (new : List Entry) : Type 0 where
  -- one more
  pub count : length new ≡ length old + 1
  -- and what counts for it
  pub memory : memory_of_entries new ≡ memory_of_entries old + 64 + length (entry_key entry)

-- these entries more, and as much more memory as counts for each
pub record GrowsByAll (old more new : List Entry) : Type 0 where
  -- so many more
  pub count : length new ≡ length old + length more
  -- and what counts for each
  pub memory : memory_of_entries new ≡ memory_of_entries old
      + (64 * length more + sum_by (λ entry. length (entry_key entry)) more)

-- these entries have come, and each took one place
pub record AddsAll (old : Kept) (more : List Entry) (new : Kept) : Type 0 where
  -- the entries are the old ones and these
  pub gains : IsUnion old.entries more new.entries
  -- they count as so many, and as so much memory
  pub grows : GrowsByAll old.entries more new.entries
  -- each took one place
  pub places : old.places ≡ new.places + length more

-- ---- what calls return and leave

-- Why no memory was taken for `count` entries, whose keys and values have `bytes` bytes: memory is
-- out, or they are past the limit of a memtable: with the entries and the room that there are, they
-- count for 2^31 bytes of memory at least.
abbrev pub FailsToPrepare : Kept → ℕ → ℕ → Status → Type 0
FailsToPrepare kept count bytes status =
    ((status.code ≡ NotSupported)
    × (2 ^ 31 ≤ memory_of_entries kept.entries + (64 * (kept.places + count) + bytes)))
    ⊎ IsOutOfMemory status

-- the same of a map's memory: numbers of 32 bits would be too few for its offsets
abbrev pub FailsToNumber : Kept → ℕ → ℕ → Status → Type 0
FailsToNumber kept count bytes status =
    ((status.code ≡ NotSupported)
    × (2 ^ 32 ≤ memory_of_entries kept.entries
    + ((64 + most_beside) * (kept.places + count) + bytes)))
    ⊎ IsOutOfMemory status

-- what taking memory for items returns and leaves
pub record PrepareResult (old : Kept) (items : List Item) (result : Result (Unit {0}) Status)
    (new : Kept) : Type 0 where
  -- the entries stay
  pub entries : new.entries ≡ old.entries
  -- an Ok has room for the items
  pub ok : OnOk result (HasRoom new items)
  -- and for no more than these, or than there was room for
  pub made : OnOk result (new.places ≡ max old.places (length items))
  -- an error leaves the room
  pub places : OnErr result (new.places ≡ old.places)
  -- and so for bytes
  pub bytes : OnErr result (old.bytes ≤ new.bytes)
  -- why it failed
  pub cause : IfErr result (FailsToPrepare old (length items) (bytes_in items))

-- what making room for `count` entries with `bytes` bytes returns and leaves
pub record ReserveResult (old : Kept) (count bytes : ℕ) (result : Result (Unit {0}) Status)
    (new : Kept) : Type 0 where
  -- the entries stay
  pub entries : new.entries ≡ old.entries
  -- an Ok has the room
  pub ok : OnOk result ((new.places ≡ max old.places count) × (bytes ≤ new.bytes))
  -- room for as many is only added to
  pub room : count ≤ old.places → (new.places ≡ old.places) × (old.bytes ≤ new.bytes)
  -- an error leaves the room
  pub places : OnErr result (new.places ≡ old.places)
  -- and so for bytes
  pub kept_bytes : OnErr result (old.bytes ≤ new.bytes)
  -- why it failed
  pub cause : IfErr result (FailsToNumber old count bytes)

-- what adding an entry returns and leaves
pub record AddResult (old : Kept) (entry : Entry) (result : Result (Unit {0}) Status) (new : Kept)
    : Type 0 where
  -- no entry had its key and sequence, and it has come
  pub absent : OnOk result (IsNewTo old.entries entry.sequence entry.key)
  -- the entries are the old ones and this one
  pub ok : OnOk result (IsUnion old.entries (entry ∷ []) new.entries)
  -- one more, with the memory that counts for it
  pub grows : OnOk result (Grows old.entries entry new.entries)
  -- an error leaves the entries, and room for what there was room for
  pub err : OnErr result (new.entries ≡ old.entries)
  -- what there was room for has room still
  pub room : OnErr result (KeepsRoom old new)
  -- an entry had its key and sequence, or no memory was taken
  pub cause : IfErr result (λ status.
      ((status.code ≡ AlreadyExists) × (IsNewTo old.entries entry.sequence entry.key → ⊥))
      ⊎ FailsToPrepare old 1 (length entry.key + value_length entry.value) status)

-- what putting an entry for which there is room leaves, and whether it has come
pub record PutResult (old : Kept) (entry : Entry) (has_come : Bool) (new : Kept) : Type 0 where
  -- no entry had its key and sequence
  pub absent : OnTrue has_come (IsNewTo old.entries entry.sequence entry.key)
  -- it has come, and took one place
  pub adds : OnTrue has_come (AddsEntry old entry new)
  -- one more, with the memory that counts for it
  pub grows : OnTrue has_come (Grows old.entries entry new.entries)
  -- one had, and all stays
  pub present : OnFalse has_come (IsNewTo old.entries entry.sequence entry.key → ⊥)
  -- the entries
  pub entries : OnFalse has_come (new.entries ≡ old.entries)
  -- the room for entries
  pub places : OnFalse has_come (new.places ≡ old.places)
  -- and the room for bytes
  pub bytes : OnFalse has_come (old.bytes ≤ new.bytes)
