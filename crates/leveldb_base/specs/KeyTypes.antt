-- Keys of entries, as they are stored and as they are looked up, and their order.
use Rattle.std.specs.Prelude.{◌≡◌, ℕ, zero, suc, ◌+◌, ◌-◌, ◌*◌, ◌/◌, ◌%◌, ◌^◌, ◌<◌, nat_le, nat_lt, nat_eq, if◌then◌else◌, List, [], ◌∷◌, ◌++◌, length, take, drop, Option, Some, None, IfSome}
use Rattle.std.specs.List.{starts_with}
use Rattle.std.specs.declared.cmp.Ordering.{Ordering}
use Rattle.std.specs.Ordering.{ordering_then, nat_cmp}
use Rattle.byteorder.specs.Endian.{little_number}
use Rattle.leveldb_base.specs.Varint.{little, varint, sized}
use Rattle.leveldb_base.specs.declared.key_types.ValueType.{ValueType}
use Rattle.leveldb_base.specs.declared.key_types.ValueType.TheVariants.{TypeDeletion, TypeValue}

-- the number of an entry's type
abbrev pub type_number : ValueType → ℕ
type_number TypeDeletion = 0
type_number TypeValue = 1

-- the type that a number is read as: any but 0 is a value
abbrev pub type_from : ℕ → ValueType
type_from zero = TypeDeletion
type_from (suc n) = TypeValue

-- a tag: the sequence number, and the type in the lowest eight bits
abbrev pub tag : ℕ → ValueType → ℕ
tag sequence kind = sequence * 256 + type_number kind

-- an internal key: the user's key, and the tag in eight bytes
abbrev pub internal_key : List ℕ → ℕ → ValueType → List ℕ
internal_key user sequence kind = user ++ little 8 (tag sequence kind)

-- a user's key is longer than the greatest length
abbrev pub IsLongKey : List ℕ → Type 0
IsLongKey key = 2 ^ 30 < length key

-- the user's key of an internal key
abbrev pub user_part : List ℕ → List ℕ
user_part key = take (length key - 8) key

-- the number in the last eight bytes; fewer bytes have the number 0
abbrev pub tag_part : List ℕ → ℕ
tag_part key = if nat_le 8 (length key) then little_number 8 (drop (length key - 8) key) else 0

-- the sequence number of an internal key, of 56 bits
abbrev pub sequence_part : List ℕ → ℕ
sequence_part key = tag_part key / 256 % 2 ^ 56

-- the type of an internal key
abbrev pub type_part : List ℕ → ValueType
type_part key = type_from (tag_part key % 256)

-- by the user's key rising, then by the sequence number falling, whatever the type
abbrev pub internal_cmp : (List ℕ → List ℕ → Ordering) → List ℕ → List ℕ → Ordering
internal_cmp cmp a b =
    ordering_then (cmp (user_part a) (user_part b)) (nat_cmp (sequence_part b) (sequence_part a))

-- the key of a look-up at a sequence number: the internal key after its length
abbrev pub lookup_key : List ℕ → ℕ → ValueType → List ℕ
lookup_key user sequence kind = sized (internal_key user sequence kind)

-- an entry in memory: the internal key and the value, each after its length
abbrev pub memtable_key : List ℕ → ℕ → ValueType → List ℕ → List ℕ
memtable_key user sequence kind value = lookup_key user sequence kind ++ sized value

-- what follows the user's key of an entry in memory: its tag and its value after its length, or
-- nothing where the key is cut there
abbrev pub after_user_key : Option (ℕ × List ℕ) → List ℕ
after_user_key None = []
after_user_key (Some (number, value)) = little 8 number ++ sized value

-- the bytes are the length of an internal key, the user's key, and such a tail, with a tag of 64
-- bits
abbrev pub SplitsInto : List ℕ → List ℕ → Option (ℕ × List ℕ) → Type 0
SplitsInto bytes user parts =
    (bytes ≡ varint (length user + 8) ++ (user ++ after_user_key parts))
    × IfSome parts (λ tagged. tagged.0 < 2 ^ 64)

-- an entry in memory, whole or cut before its tag
abbrev pub IsMemtableKey : List ℕ → Type 0
IsMemtableKey bytes = (user : List ℕ) × (parts : Option (ℕ × List ℕ)) × SplitsInto bytes user parts

-- the length and offset of the user's key, the tag, and the length and offset of the value
abbrev pub offsets_of : List ℕ → Option (ℕ × List ℕ) → ℕ × ℕ × ℕ × ℕ × ℕ
offsets_of user None = (length user, length (varint (length user + 8)), 0, 0, 0)
offsets_of user (Some (number, value)) =
    let front = length (varint (length user + 8)) in
    let offset = front + length user + 8 + length (varint (length value)) in
    (length user, front, number, length value, offset)

-- the number that the bytes up to the first below 128 encode
abbrev pub front_number : List ℕ → ℕ
front_number [] = 0
front_number (b ∷ bytes) = if nat_lt b 128 then b else b - 128 + 128 * front_number bytes

-- the bytes after them
abbrev pub after_number : List ℕ → List ℕ
after_number [] = []
after_number (b ∷ bytes) = if nat_lt b 128 then bytes else after_number bytes

-- the internal key after its length at the front, or the empty text where there is none
abbrev pub front_key : List ℕ → List ℕ
front_key bytes =
    let text = take (front_number bytes) (after_number bytes) in
    if starts_with nat_eq bytes (sized text) then text else []

-- memtable keys and look-up keys are ordered by their internal keys
abbrev pub memtable_cmp : (List ℕ → List ℕ → Ordering) → List ℕ → List ℕ → Ordering
memtable_cmp cmp a b = internal_cmp cmp (front_key a) (front_key b)

-- the greatest sequence number
abbrev pub greatest_sequence : ℕ
greatest_sequence = 2 ^ 56 - 1
