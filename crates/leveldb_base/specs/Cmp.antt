-- What a comparator promises, and the orders of users' keys, of internal keys and of memtable keys.
use Rattle.std.specs.Prelude.{◌≡◌, ◌≢◌, ℕ, Bool, true, List, ◌+◌, if◌then◌else◌, nat_lt, nat_eq, [], ◌∷◌, ◌++◌, take, slice_index, Option, None, Some, unwrap_or, ◌&&◌, nat_le, length}
use Rattle.std.specs.declared.cmp.Ordering.{Ordering}
use Rattle.std.specs.declared.cmp.Ordering.TheVariants.{Less, Equal}
use Rattle.std.specs.Ordering.{ordering_reverse, is_lt, nat_cmp}
use Rattle.std.specs.Option.{option_map}
use Rattle.std.specs.Cmp.Lexicographic.{slice_cmp}
use Rattle.std.specs.Str.{bytes_eq}
use Rattle.leveldb_base.specs.declared.key_types.ValueType.TheVariants.{TypeValue}
use Rattle.leveldb_base.specs.KeyTypes.{internal_key, user_part, sequence_part, front_key, greatest_sequence}

-- ---- what a comparator promises

-- a total preorder on the keys that are accepted
pub record IsPreorderOn (accepts : List ℕ → Bool) (cmp : List ℕ → List ℕ → Ordering) : Type 0 where
  -- turned round, an answer is reversed
  pub turned : (a b : List ℕ) → accepts a ≡ true → accepts b ≡ true
      → cmp a b ≡ ordering_reverse (cmp b a)
  -- `Less` is transitive
  pub less : (a b c : List ℕ) → accepts a ≡ true → accepts b ≡ true → accepts c ≡ true
      → cmp a b ≡ Less → cmp b c ≡ Less → cmp a c ≡ Less
  -- keys that are `Equal` are compared alike with every other
  pub alike : (a b c : List ℕ) → accepts a ≡ true → accepts b ≡ true → accepts c ≡ true
      → cmp a b ≡ Equal → cmp a c ≡ cmp b c

-- A key between a and b, for a at or before b: accepted, at or after a, before b where a is, and a
-- itself where both are the same.
pub record IsSeparator (accepts : List ℕ → Bool) (cmp : List ℕ → List ℕ → Ordering)
    (a b sep : List ℕ) : Type 0 where
  -- the comparator accepts it
  pub accepted : accepts sep ≡ true
  -- it is at or after a
  pub from : cmp sep a ≢ Less
  -- it is before b where a is
  pub before : cmp a b ≡ Less → cmp sep b ≡ Less
  -- two equal keys are separated by themselves
  pub same : a ≡ b → sep ≡ a

-- an accepted key at or after a
pub record IsSuccessor (accepts : List ℕ → Bool) (cmp : List ℕ → List ℕ → Ordering)
    (a succ : List ℕ) : Type 0 where
  -- the comparator accepts it
  pub accepted : accepts succ ≡ true
  -- it is at or after a
  pub from : cmp succ a ≢ Less

-- an order of all keys in which different ones are never `Equal`
pub record IsExactOrder (cmp : List ℕ → List ℕ → Ordering) : Type 0 where
  -- it is a total preorder
  pub preorder : IsPreorderOn (λ key. true) cmp
  -- and only equal keys are `Equal`
  pub exact : (a b : List ℕ) → cmp a b ≡ Equal → a ≡ b

-- ---- the order of bytes, and its separator and successor as the Rust crate gives them

-- up to the first byte that can be raised and stay below the other key's, with that byte raised
abbrev pub raised_between : List ℕ → List ℕ → Option (List ℕ)
raised_between [] b = None
raised_between a [] = None
raised_between (x ∷ a) (y ∷ b) =
    if nat_lt (x + 1) y then Some ((x + 1) ∷ [])
    else option_map (λ key. x ∷ key) (raised_between a b)

-- the last byte that isn't 0xff raised, the others kept
abbrev pub raised_last : List ℕ → Option (List ℕ)
raised_last [] = None
raised_last (x ∷ a) =
    elim (raised_last a) [
      | Some key ↦ Some (x ∷ key)
      | None ↦ (if nat_eq x 0xff then None else Some ((x + 1) ∷ a))
    ]

-- the first byte that isn't 0xff raised, and the rest cut off
abbrev pub raised_first : List ℕ → Option (List ℕ)
raised_first [] = None
raised_first (x ∷ a) =
    if nat_eq x 0xff then option_map (λ key. x ∷ key) (raised_first a) else Some ((x + 1) ∷ [])

-- a key up to an index, with the byte there raised
abbrev pub raised_at : List ℕ → ℕ → List ℕ
raised_at key i = take i key ++ (slice_index key i + 1) ∷ []

-- by bytes, and a prefix before what it is a prefix of
abbrev pub bytewise : List ℕ → List ℕ → Ordering
bytewise = slice_cmp nat_cmp

-- whether a key is before another
abbrev pub is_before : List ℕ → List ℕ → Bool
is_before a b = is_lt (bytewise a b)

-- a key with a zero byte after it where that is before b, else the key
abbrev pub lengthened : List ℕ → List ℕ → List ℕ
lengthened a b = if is_before (a ++ 0 ∷ []) b then a ++ 0 ∷ [] else a

-- a key with its last byte that isn't 0xff raised where that is before b, else lengthened
abbrev pub raised_or_lengthened : List ℕ → List ℕ → List ℕ
raised_or_lengthened a b =
    elim (raised_last a) [
      | Some key ↦ (if is_before key b then key else lengthened a b)
      | None ↦ lengthened a b
    ]

-- The same bytes separate themselves. Else it is a up to the first byte that, raised, is still
-- below b's byte there, with it raised; else a with its last byte that isn't 0xff raised, where
-- that is before b; else a and a zero byte, where that is before b; else a. LevelDB leaves more
-- keys as they are.
abbrev pub bytewise_separator : List ℕ → List ℕ → List ℕ
bytewise_separator a b =
    if bytes_eq a b then a else unwrap_or (raised_between a b) (raised_or_lengthened a b)

-- the first byte that isn't 0xff raised and the rest cut off, or 0xff appended to them all
abbrev pub bytewise_successor : List ℕ → List ℕ
bytewise_successor a = unwrap_or (raised_first a) (a ++ 0xff ∷ [])

-- ---- internal keys and memtable keys

-- an internal key has a whole tag, and a user's key that is accepted
abbrev pub internal_accepts : (List ℕ → Bool) → List ℕ → Bool
internal_accepts accepts key = nat_le 8 (length key) && accepts (user_part key)

-- they are accepted where their internal keys are
abbrev pub memtable_accepts : (List ℕ → Bool) → List ℕ → Bool
memtable_accepts accepts key = internal_accepts accepts (front_key key)

-- The same bytes separate themselves. Else it is the separator of the users' keys: with the
-- greatest sequence number where it is shorter than a's user key and after it, so that it is the
-- first of its key, else with a's number.
abbrev pub internal_separator : (List ℕ → List ℕ → Ordering) → (List ℕ → List ℕ → List ℕ)
    → List ℕ → List ℕ → List ℕ
internal_separator cmp separator a b =
    let user = separator (user_part a) (user_part b) in
    let moved = nat_lt (length user) (length (user_part a)) && is_lt (cmp (user_part a) user) in
    let sequence = if moved then greatest_sequence else sequence_part a in
    if bytes_eq a b then a else internal_key user sequence TypeValue

-- the successor of the user's key with the key's number
abbrev pub internal_successor : (List ℕ → List ℕ) → List ℕ → List ℕ
internal_successor successor a = internal_key (successor (user_part a)) (sequence_part a) TypeValue
