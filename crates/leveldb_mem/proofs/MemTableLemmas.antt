-- A memtable: keys of entries, walks over them, their memory, and the newest of a key.
use Rattle.std.proofs.Common.{◌≡◌, ℕ, ◌+◌, ◌*◌, ◌^◌, ◌<◌, ◌≤◌, Bool, true, List, [], ◌++◌, length, drop, Option, Some, None, refl, sym, ◌∙◌, ap, arith, append_assoc, append-nil, length-append, cond, ◌∷◌, get_or, map, subst, ◌⊎◌, ⊎_elim, flat_map, ◌≢◌, inl, inr}
use Rattle.std.proofs.lemmas.List.{drop_at, length-map, get_or-map, map-append}
use Rattle.std.specs.declared.cmp.Ordering.{Ordering}
use Rattle.std.specs.Ordering.{ordering_then, nat_cmp, is_lt}
use Rattle.std.specs.Prelude.{All, Result, Ok, Err, OnOk, OnErr, IfErr, min, max, ◌-◌, slice_get, nat_eq, nat_lt, sum_by, Contains}
use Rattle.std.proofs.lemmas.Bool.{cases_order, lt-ltb, cases_lt}
use Rattle.std.proofs.lemmas.Cmp.{ranked}
use Rattle.std.proofs.lemmas.Option.{slice_get-get_or, slice_get_within}
use Rattle.std.proofs.lemmas.List.Elements.{All-head, All-tail, Contains-get_or, at_from_Contains}
use Rattle.std.specs.declared.cmp.Ordering.TheVariants.{Less, Equal, Greater}
use Rattle.std.proofs.lemmas.List.Sums.{sum_by-cons, sum_by-append}
use Rattle.byteorder.specs.Numbers.{length-bytes_low_first}
use Rattle.leveldb_base.specs.History.{Item, Entry, IsBeforeAll, AreRising, AreUpTo, IsNewest}
use Rattle.leveldb_base.proofs.HistoryLemmas.{in_cases, in_none}
use Rattle.leveldb_base.specs.Varint.{little, varint, sized}
use Rattle.leveldb_base.proofs.VarintLemmas.{length-varint_64, one_sized}
use Rattle.leveldb_base.specs.KeyTypes.{tag, greatest_sequence, internal_key, user_part, sequence_part, type_part, memtable_key, front_key, internal_cmp, memtable_cmp}
use Rattle.leveldb_base.specs.Cmp.{internal_accepts, memtable_accepts, IsPreorderOn}
use Rattle.leveldb_base.specs.CmpLaws.{length-internal_key, user_part-internal_key, sequence_part-internal_key, sequence_part-lt, internal_accepts-internal_key, alike_right, itself_equal}
use Rattle.leveldb_base.proofs.KeyTypesLemmas.{type_part-internal_key, front_key-sized, front_key-memtable_key}
use Rattle.leveldb_base.specs.declared.key_types.ValueType.{ValueType}
use Rattle.leveldb_base.specs.Types.{Pair, count_before, position_within, last_position}
use Rattle.leveldb_base.specs.declared.key_types.ValueType.TheVariants.{TypeValue}
use Rattle.leveldb_base.specs.Error.{IsOutOfMemory}
use Rattle.leveldb_base.specs.declared.error.Status.{Status}
use Rattle.leveldb_base.specs.declared.error.StatusCode.TheVariants.{NotSupported}
use Rattle.leveldb_base.specs.Entries.{type_of, bytes_of_value, value_of, internal_pair, HasNewest, FindsNewest, lookup_of}
use Rattle.leveldb_base.specs.declared.types.Lookup.{Lookup}
use Rattle.leveldb_base.specs.declared.types.Lookup.TheVariants.{Value, Deleted, Absent}
use Rattle.leveldb_mem.specs.MemTable.{FailsToPrepare, FailsToNumber, ReserveResult, most_beside, value_length, entry_of, entry_key, entry_from, inner_value, entries_of_keys, IsEntryPair, bytes_in, Kept, KeepsRoom, memory_of_entries, Grows, HasEntryAt, IsFoundAt}
use Rattle.leveldb_mem.specs.WriteBatch.{change_encoding, change_bytes, BatchOf}
use Rattle.leveldb_mem.specs.Searching.{key_at, count_while, IsParted}
use Rattle.leveldb_mem.specs.SkipMap.{IsSorted, InsertsPair}
use Rattle.leveldb_mem.proofs.Rising.{is_less, rising_at, not_less}
use Rattle.leveldb_mem.proofs.WriteBatchLemmas.{length-batch}
use Rattle.leveldb_mem.specs.Placed.{pairs_length, map_memory, FailsToReserve}
use Rattle.leveldb_mem.proofs.Halving.{before_count, at_count, count_before-is, PassesBefore}

-- ---- entries and their memtable keys

-- the five parts of a memtable key
pub whole_key : (user : List ℕ) (sequence : ℕ) (kind : ValueType) (value : List ℕ)
    → varint (length user + 8) ++ user ++ little 8 (tag sequence kind) ++ varint (length value) ++ value ≡ memtable_key user sequence kind value
whole_key user sequence kind value =
    let last = little 8 (tag sequence kind) in
    ap (λ n. varint n ++ user ++ last ++ varint (length value) ++ value) (sym (length-internal_key user sequence kind))
    ∙ append_assoc (varint (length (internal_key user sequence kind)) ++ user ++ last) (varint (length value)) value
    ∙ ap (λ z. z ++ sized value) (append_assoc (varint (length (internal_key user sequence kind))) user last)

-- a memtable key of an accepted user's key is accepted
pub accepted_key : (accepts : List ℕ → Bool) (user : List ℕ) (sequence : ℕ) (kind : ValueType) (value : List ℕ) → accepts user ≡ true
    → memtable_accepts accepts (memtable_key user sequence kind value) ≡ true
accepted_key accepts user sequence kind value ok =
    ap (internal_accepts accepts) (front_key-memtable_key user sequence kind value) ∙ internal_accepts-internal_key accepts user sequence kind ok

value_again : (value : Option (List ℕ)) → value_of (type_of value) (bytes_of_value value) ≡ value
value_again None = refl
value_again (Some bytes) = refl

-- an entry's memtable key has the entry's key
pub entry_user : (entry : Entry) → user_part (front_key (entry_key entry)) ≡ entry.key
unfolding entry_key
entry_user entry =
    let kind = type_of entry.value in
    ap user_part (front_key-memtable_key entry.key entry.sequence kind (bytes_of_value entry.value)) ∙ user_part-internal_key entry.key entry.sequence kind

-- and its number
pub entry_number : (entry : Entry) → entry.sequence < 2 ^ 56 → sequence_part (front_key (entry_key entry)) ≡ entry.sequence
unfolding entry_key
entry_number entry h =
    let kind = type_of entry.value in
    ap sequence_part (front_key-memtable_key entry.key entry.sequence kind (bytes_of_value entry.value)) ∙ sequence_part-internal_key entry.key entry.sequence kind h

-- an entry's memtable key encodes the entry
pub entry_again : (entry : Entry) → entry.sequence < 2 ^ 56 → entry_from (entry_key entry) ≡ entry
unfolding entry_from entry_key
entry_again entry h =
    let kind = type_of entry.value in
    let bytes = bytes_of_value entry.value in
    let key = memtable_key entry.key entry.sequence kind bytes in
    let internal = internal_key entry.key entry.sequence kind in
    let inner : front_key key ≡ internal = front_key-memtable_key entry.key entry.sequence kind bytes in
    let kind_is : type_part (front_key key) ≡ kind = ap type_part inner ∙ type_part-internal_key entry.key entry.sequence kind h in
    let following : drop (length (sized internal)) key ≡ sized bytes = drop_at (sized internal) (sized bytes) (length (sized internal)) refl in
    let text : inner_value key ≡ bytes =
    ap (λ z. front_key (drop (length (sized z)) key)) inner ∙ ap front_key following ∙ ap front_key (sym (append-nil (sized bytes))) ∙ front_key-sized bytes [] in
    let value : value_of (type_part (front_key key)) (inner_value key) ≡ entry.value =
    ap (λ t. value_of t (inner_value key)) kind_is ∙ ap (value_of kind) text ∙ value_again entry.value in
    λ i. entry_of (entry_number entry h i) (entry_user entry i) (value i)

length-value : (value : Option (List ℕ)) → length (bytes_of_value value) ≡ value_length value
length-value None = refl
length-value (Some bytes) = refl

-- memtable keys are ordered by the entries that they encode
pub entry_order : (cmp : List ℕ → List ℕ → Ordering) (a b : List ℕ)
    → memtable_cmp cmp a b ≡ ordering_then (cmp (entry_from a).key (entry_from b).key) (nat_cmp (entry_from b).sequence (entry_from a).sequence)
unfolding entry_from
entry_order cmp a b = refl

-- and so is what is looked up
pub lookup_order : (cmp : List ℕ → List ℕ → Ordering) (a internal : List ℕ)
    → memtable_cmp cmp a (sized internal) ≡ ordering_then (cmp (entry_from a).key (user_part internal)) (nat_cmp (sequence_part internal) (entry_from a).sequence)
unfolding entry_from
lookup_order cmp a internal = ap (λ z. internal_cmp cmp (front_key a) z) (ap front_key (sym (append-nil (sized internal))) ∙ front_key-sized internal [])

pub bytes_in-entry : (item : Item) → length item.key + value_length item.value ≤ length (change_bytes item)
unfolding change_bytes
bytes_in-entry item = by_value item.key item.value
  where
    by_value : (key : List ℕ) (value : Option (List ℕ)) → length key + value_length value ≤ length (change_encoding key value)
    by_value key None = omega (arith, length-append (varint (length key)) key)
    by_value key (Some value) = omega (arith, length-append (varint (length key)) key, length-append (varint (length value)) value, length-append (sized key) (sized value))

module _ (h u t s b : List ℕ) (sequence : ℕ) (kind : ValueType) (value : Option (List ℕ)) (kind_is : kind ≡ type_of value) (bytes_are : b ≡ bytes_of_value value)
    (head_is : h ≡ varint (length u + 8)) (tag_is : t ≡ little 8 (tag sequence kind)) (size_is : s ≡ varint (length b)) where
  -- parts that are encoded so are an entry's memtable key
  pub key_of_parts : h ++ u ++ t ++ s ++ b ≡ entry_key (entry_of sequence u value)
  unfolding entry_key
  key_of_parts =
      ap (λ z. z ++ u ++ t ++ s ++ b) head_is ∙ ap (λ z. varint (length u + 8) ++ u ++ z ++ s ++ b) tag_is
      ∙ ap (λ z. varint (length u + 8) ++ u ++ little 8 (tag sequence kind) ++ z ++ b) size_is
      ∙ whole_key u sequence kind b ∙ ap (λ k. memtable_key u sequence k b) kind_is ∙ ap (λ z. memtable_key u sequence (type_of value) z) bytes_are

  pub length-parts : length u + 8 < 2 ^ 64 → length b < 2 ^ 64 → length h + length u + length t + length s + length b ≤ 28 + (length u + value_length value)
  length-parts fits short =
      let bytes = ap length bytes_are ∙ length-value value in
      let eight = ap length tag_is ∙ length-bytes_low_first 0 8 (tag sequence kind) in
      let head : length h ≤ 10 = omega (arith, ap length head_is, length-varint_64 (length u + 8) fits) in
      let size : length s ≤ 10 = omega (arith, ap length size_is, length-varint_64 (length b) short) in
      omega (arith, bytes, eight, head, size)

-- an internal key of an entry has its tag
pub length-front_key : (key : List ℕ) → key ≡ entry_key (entry_from key) → 8 ≤ length (front_key key)
unfolding entry_key
length-front_key key e =
    let entry = entry_from key in
    let kind = type_of entry.value in
    let inner = ap front_key e ∙ front_key-memtable_key entry.key entry.sequence kind (bytes_of_value entry.value) in
    omega (arith, ap length inner, length-internal_key entry.key entry.sequence kind)

-- what comes after the internal key of an entry's memtable key, as it is read
pub read_value : (key internal rest : List ℕ) → key ≡ sized internal ++ rest → inner_value key ≡ front_key rest
read_value key internal rest e =
    let inner : front_key key ≡ internal = ap front_key e ∙ front_key-sized internal rest in
    ap (λ z. front_key (drop (length (sized z)) key)) inner ∙ ap (λ z. front_key (drop (length (sized internal)) z)) e
    ∙ ap front_key (drop_at (sized internal) rest (length (sized internal)) refl)

-- an entry's memtable key begins with a sized text, and so does what follows that
pub first_there : (key : List ℕ) → key ≡ entry_key (entry_from key) → (internal : List ℕ) × (value : List ℕ) × (key ≡ sized internal ++ sized value)
unfolding entry_key
first_there key e = let entry = entry_from key in (internal_key entry.key entry.sequence (type_of entry.value), bytes_of_value entry.value, e)

pub text_fits : (text rest whole : List ℕ) → whole ≡ sized text ++ rest → length whole < 2 ^ 64 → length text < 2 ^ 64
text_fits text rest whole e h = omega (arith, h, ap length e, length-append (sized text) rest, length-append (varint (length text)) text)

pub second_there : (key internal rest : List ℕ) → key ≡ entry_key (entry_from key) → key ≡ sized internal ++ rest → (text : List ℕ) × (more : List ℕ) × (rest ≡ sized text ++ more)
second_there key internal rest e f =
    let there = first_there key e in
    let same = one_sized internal there.0 rest (sized there.1) (sym f ∙ there.2) in
    (there.1, [], same.1 ∙ sym (append-nil (sized there.1)))

-- the value of an entry's memtable key
pub inner_value-entry_key : (entry : Entry) → inner_value (entry_key entry) ≡ bytes_of_value entry.value
unfolding entry_key
inner_value-entry_key entry =
    let kind = type_of entry.value in
    let bytes = bytes_of_value entry.value in
    let key = memtable_key entry.key entry.sequence kind bytes in
    let internal = internal_key entry.key entry.sequence kind in
    let inner : front_key key ≡ internal = front_key-memtable_key entry.key entry.sequence kind bytes in
    let following : drop (length (sized internal)) key ≡ sized bytes = drop_at (sized internal) (sized bytes) (length (sized internal)) refl in
    ap (λ z. front_key (drop (length (sized z)) key)) inner ∙ ap front_key following ∙ ap front_key (sym (append-nil (sized bytes))) ∙ front_key-sized bytes []

-- ---- a map of memtable keys as a list of internal keys with values

-- the internal key and the value of a map's pair
pub inner_is : (pair : Pair) → IsEntryPair pair → front_key pair.0 ≡ (internal_pair (entry_from pair.0)).0
unfolding entry_key
inner_is pair is =
    let entry = entry_from pair.0 in
    ap front_key is.0 ∙ front_key-memtable_key entry.key entry.sequence (type_of entry.value) (bytes_of_value entry.value)

pub value_is : (pair : Pair) → IsEntryPair pair → inner_value pair.0 ≡ (internal_pair (entry_from pair.0)).1
value_is pair is = ap inner_value is.0 ∙ inner_value-entry_key (entry_from pair.0)

-- what is walked over
abbrev pub walked : List Pair → List Pair
walked pairs = map internal_pair (entries_of_keys pairs)

pub length-walked : (pairs : List Pair) → length (walked pairs) ≡ length pairs
length-walked pairs = length-map (entries_of_keys pairs) internal_pair ∙ length-map pairs (λ (pair : Pair). entry_from pair.0)

pub within_walked : (pairs : List Pair) (i : ℕ) → position_within pairs i ≡ position_within (walked pairs) i
within_walked pairs i = ap (λ n. cond (nat_lt i n) (Some i) None) (sym (length-walked pairs))

pub last_walked : (pairs : List Pair) → last_position pairs ≡ last_position (walked pairs)
last_walked [] = refl
last_walked (pair ∷ pairs) = ap (λ n. Some n) (sym (length-walked pairs))

pub walked_at : (pairs : List Pair) (i : ℕ) → i < length pairs → All IsEntryPair pairs → slice_get (walked pairs) i ≡ Some (front_key (key_at pairs i), inner_value (key_at pairs i))
walked_at pairs i h each =
    let pair = get_or pairs i ([], []) in
    let is : IsEntryPair pair = each i ([], []) h in
    let entry = entry_from pair.0 in
    let count = length-map pairs (λ (p : Pair). entry_from p.0) in
    let long : i < length (walked pairs) = omega (arith, h, length-walked pairs) in
    let there : get_or (walked pairs) i ([], []) ≡ internal_pair entry =
    get_or-map internal_pair (entries_of_keys pairs) i entry ([], []) (omega (arith, h, count)) ∙ ap internal_pair (get_or-map (λ (p : Pair). entry_from p.0) pairs i ([], []) entry h) in
    let key = inner_is pair is in
    let value = value_is pair is in
    slice_get-get_or (walked pairs) i ([], []) long ∙ ap (λ (p : Pair). Some p) there ∙ (λ j. Some (sym key j, sym value j))

number_fits : (key : List ℕ) → (entry_from key).sequence ≤ greatest_sequence
unfolding entry_from
number_fits key = let fits = sequence_part-lt (front_key key) in omega (arith, fits)

-- no entry has a number past the greatest
pub entries_numbered : (pairs : List Pair) → AreUpTo greatest_sequence (entries_of_keys pairs)
entries_numbered [] entry there = absurd (in_none entry there)
entries_numbered (pair ∷ pairs) entry there = ⊎_elim
    (λ (is : entry_from pair.0 ≡ entry). subst (λ (e : Entry). e.sequence ≤ greatest_sequence) is (number_fits pair.0))
    (λ (rest : Contains (entries_of_keys pairs) entry). entries_numbered pairs entry rest)
    (in_cases (entry_from pair.0) entry (entries_of_keys pairs) there)

module _ (cmp : List ℕ → List ℕ → Ordering) where
  -- a count of memtable keys by their internal keys is a count of internal keys
  pub count_walked : (to : List ℕ) (pairs : List Pair) → All IsEntryPair pairs → count_while (λ k. is_lt (internal_cmp cmp (front_key k) to)) pairs ≡ count_before (internal_cmp cmp) to (walked pairs)
  count_walked to [] each = refl
  count_walked to (pair ∷ pairs) each =
      let head = inner_is pair (All-head IsEntryPair pair pairs each) in
      let rest = count_walked to pairs (All-tail IsEntryPair pair pairs each) in
      ap (λ k. cond (is_lt (internal_cmp cmp k to)) (count_while (λ k. is_lt (internal_cmp cmp (front_key k) to)) pairs + 1) 0) head
      ∙ ap (λ n. cond (is_lt (internal_cmp cmp (internal_pair (entry_from pair.0)).0 to)) (n + 1) 0) rest

  before_walked : (key : List ℕ) (pairs : List Pair) → All IsEntryPair pairs → IsBeforeAll (memtable_cmp cmp) key pairs → IsBeforeAll (internal_cmp cmp) (front_key key) (walked pairs)
  before_walked key [] each all = tt
  before_walked key (pair ∷ pairs) each all = (
    ap (λ k. internal_cmp cmp (front_key key) k) (sym (inner_is pair (All-head IsEntryPair pair pairs each))) ∙ all.0,
    before_walked key pairs (All-tail IsEntryPair pair pairs each) all.1,
  )

  -- internal keys rise as the memtable keys do
  pub rising_walked : (pairs : List Pair) → All IsEntryPair pairs → AreRising (memtable_cmp cmp) pairs → AreRising (internal_cmp cmp) (walked pairs)
  rising_walked [] each rising = tt
  rising_walked (pair ∷ pairs) each rising =
      let head = inner_is pair (All-head IsEntryPair pair pairs each) in
      let tail = All-tail IsEntryPair pair pairs each in
      (subst (λ k. IsBeforeAll (internal_cmp cmp) k (walked pairs)) head (before_walked pair.0 pairs tail rising.0), rising_walked pairs tail rising.1)

-- in two steps as in one
then_less : (ab bc ac : Ordering) (p q r : ℕ) → (ab ≡ Less → bc ≡ Less → ac ≡ Less) → (ab ≡ Equal → ac ≡ bc) → (bc ≡ Equal → ac ≡ ab)
    → ordering_then ab (nat_cmp q p) ≡ Less → ordering_then bc (nat_cmp r q) ≡ Less → ordering_then ac (nat_cmp r p) ≡ Less
then_less Less Less ac p q r both left right d e = ap (λ x. ordering_then x (nat_cmp r p)) (both refl refl)
then_less Less Equal ac p q r both left right d e = ap (λ x. ordering_then x (nat_cmp r p)) (right refl)
then_less Less Greater ac p q r both left right d e = cc
then_less Equal Less ac p q r both left right d e = ap (λ x. ordering_then x (nat_cmp r p)) (left refl)
then_less Equal Equal ac p q r both left right d e =
    let first = ranked q p Less (sym d) in
    let second = ranked r q Less (sym e) in
    let lt : r < p = omega (arith, first, second) in
    ap (λ x. ordering_then x (nat_cmp r p)) (left refl) ∙ ap (λ b. cond b Less (cond (nat_eq r p) Equal Greater)) (lt-ltb r p lt)
then_less Equal Greater ac p q r both left right d e = cc
then_less Greater bc ac p q r both left right d e = cc

module _ {accepts : List ℕ → Bool} {cmp : List ℕ → List ℕ → Ordering} (o : IsPreorderOn accepts cmp) (all : (key : List ℕ) → accepts key ≡ true) where
  -- the order of internal keys passes on, also at keys that aren't whole
  internal_less : (a b c : List ℕ) → internal_cmp cmp a b ≡ Less → internal_cmp cmp b c ≡ Less → internal_cmp cmp a c ≡ Less
  internal_less a b c =
      let ua = user_part a in
      let ub = user_part b in
      let uc = user_part c in
      then_less (cmp ua ub) (cmp ub uc) (cmp ua uc) (sequence_part a) (sequence_part b) (sequence_part c)
      (o.less ua ub uc (all ua) (all ub) (all uc)) (o.alike ua ub uc (all ua) (all ub) (all uc)) (alike_right o ua ub uc (all ua) (all ub) (all uc))

  -- the memtable keys before an internal key are all at the front
  pub parted_walked : {pairs : List Pair} → IsSorted (memtable_accepts accepts) (memtable_cmp cmp) pairs → (to : List ℕ) → IsParted (λ k. is_lt (internal_cmp cmp (front_key k) to)) pairs
  parted_walked {pairs} sorted to i j p q h =
      ⊎_elim
      (λ (e : i ≡ j). subst (λ n. is_lt (internal_cmp cmp (front_key (key_at pairs n)) to) ≡ true) (sym e) h)
      (λ (w : (i < j) ⊎ (j < i)).
      ⊎_elim
      (λ (lt : i < j).
      ap is_lt (internal_less (front_key (key_at pairs i)) (front_key (key_at pairs j)) to (rising_at (memtable_cmp cmp) pairs sorted.rising i j lt q)
      (is_less (internal_cmp cmp (front_key (key_at pairs j)) to) h)))
      (λ (gt : j < i). absurd (omega (arith, gt, p))) w)
      (cases_order i j)

-- ---- what counts as the memory of entries, and the room that a batch needs

-- pairs that are memtable keys have as many bytes as the keys of their entries
same_bytes : (pairs : List Pair) → All IsEntryPair pairs → pairs_length pairs ≡ sum_by (λ entry. length (entry_key entry)) (entries_of_keys pairs)
same_bytes [] each = refl
same_bytes (pair ∷ pairs) each =
    let head = All-head IsEntryPair pair pairs each in
    let rest = same_bytes pairs (All-tail IsEntryPair pair pairs each) in
    let size = λ (p : Pair). length p.0 + length p.1 in
    let key_size = λ (entry : Entry). length (entry_key entry) in
    omega (arith, rest, ap length head.0, ap length head.1, sum_by-cons size pair pairs, sum_by-cons key_size (entry_from pair.0) (entries_of_keys pairs))

pub same_memory : (pairs : List Pair) → All IsEntryPair pairs → map_memory pairs ≡ memory_of_entries (entries_of_keys pairs)
same_memory pairs each = omega (arith, same_bytes pairs each, length-map pairs (λ (pair : Pair). entry_from pair.0))

entry-le : (item : Item) → length (change_bytes item) < 2 ^ 64 → length (change_bytes item) ≤ 21 + length item.key + value_length item.value
unfolding change_bytes
entry-le item short = by_value item.key item.value short
  where
    by_value : (key : List ℕ) (value : Option (List ℕ)) → length (change_encoding key value) < 2 ^ 64 → length (change_encoding key value) ≤ 21 + length key + value_length value
    by_value key None short =
        let one = length-append (varint (length key)) key in
        omega (arith, short, one, length-varint_64 (length key) (omega (arith, short, one)))
    by_value key (Some value) short =
        let one = length-append (varint (length key)) key in
        let two = length-append (varint (length value)) value in
        let both = length-append (sized key) (sized value) in
        omega (arith, short, one, two, both, length-varint_64 (length key) (omega (arith, short, one, both)), length-varint_64 (length value) (omega (arith, short, two, both)))

bytes_in-le : (items : List Item) → bytes_in items ≤ length (flat_map change_bytes items)
bytes_in-le [] = omega arith
bytes_in-le (item ∷ items) = omega (arith, bytes_in-le items, bytes_in-entry item, length-append (change_bytes item) (flat_map change_bytes items))

-- a batch's bytes are more than its keys and values have
pub bytes_in-batch : {bytes : List ℕ} {first : ℕ} {items : List Item} → BatchOf bytes first items → bytes_in items ≤ length bytes
bytes_in-batch {bytes} {first} {items} batch = omega (arith, length-batch batch, bytes_in-le items)

-- and a few more for each of them
entries-le : (items : List Item) → length (flat_map change_bytes items) < 2 ^ 64 → length (flat_map change_bytes items) ≤ 21 * length items + bytes_in items
entries-le [] short = omega arith
entries-le (item ∷ items) short =
    let all = length-append (change_bytes item) (flat_map change_bytes items) in
    omega (arith, all, entries-le items (omega (arith, all, short)), entry-le item (omega (arith, all, short)))

pub batch-le : {bytes : List ℕ} {first : ℕ} {items : List Item} → BatchOf bytes first items → length bytes ≤ 12 + 21 * length items + bytes_in items
batch-le {bytes} {first} {items} batch = omega (arith, length-batch batch, batch.limited, entries-le items (omega (arith, length-batch batch, batch.limited)))

-- what is past the numbers of a map is past the limit of a memtable
past_limit : (kept : Kept) (count bytes more : ℕ) → more ≤ 12 + 21 * count + bytes
    → 2 ^ 32 ≤ memory_of_entries kept.entries + ((64 + most_beside) * (kept.places + count) + more)
    → 2 ^ 31 ≤ memory_of_entries kept.entries + (64 * (kept.places + count) + bytes)
past_limit kept count bytes more le past = omega arith

-- the causes of `reserve` are causes of `prepare`
pub prepares : (kept : Kept) (count bytes more : ℕ) → more ≤ 12 + 21 * count + bytes → (status : Status)
    → FailsToNumber kept count more status → FailsToPrepare kept count bytes status
prepares kept count bytes more le status why =
    ⊎_elim
    (λ (past : (status.code ≡ NotSupported) × (2 ^ 32 ≤ memory_of_entries kept.entries + ((64 + most_beside) * (kept.places + count) + more))). inl (past.0, past_limit kept count bytes more le past.1))
    (λ (memory : IsOutOfMemory status). inr memory) why

-- room that a map makes is room of the memtable
module _ (pairs pairs' : List Pair) (each : All IsEntryPair pairs) (old_places old_bytes new_places new_bytes count bytes places sum : ℕ)
    (places_are : places ≡ max old_places count) (sum_is : sum ≡ min (bytes + 28 * places) (2 ^ 64 - 1)) (beside : 28 * old_places ≤ old_bytes) where
  pub reserves : (r : Result (Unit {0}) Status) → pairs' ≡ pairs → OnOk r ((new_places ≡ places) × (sum ≤ new_bytes) × (sum < 2 ^ 32)) → OnErr r (new_places ≡ old_places)
      → old_bytes ≤ new_bytes → IfErr r (FailsToReserve pairs places sum)
      → ReserveResult (record { entries = entries_of_keys pairs; places = old_places; bytes = old_bytes - most_beside * old_places }) count bytes r
      (record { entries = entries_of_keys pairs'; places = new_places; bytes = new_bytes - most_beside * new_places })
  reserves (Ok x) same ok err more cause = record {
    entries = ap entries_of_keys same;
    ok = (ok.0 ∙ places_are, omega (arith, ok.0, ok.1, ok.2));
    room = λ few. (omega (arith, ok.0), omega (arith, ok.0));
    places = tt;
    kept_bytes = tt;
    cause = tt;
  }
  reserves (Err status) same ok err more cause = record {
    entries = ap entries_of_keys same;
    ok = tt;
    room = λ few. (err, omega (arith, err));
    places = err;
    kept_bytes = omega (arith, err);
    cause =
        ⊎_elim
        (λ (past : (status.code ≡ NotSupported) × (2 ^ 32 ≤ map_memory pairs + (64 * places + sum))). inl (past.0, omega (arith, past.1, same_memory pairs each)))
        (λ (memory : IsOutOfMemory status). inr memory) cause;
  }

-- memory for one entry takes no room from others
pub keeps_room : (old new : Kept) → (1 ≤ old.places → (new.places ≡ old.places) × (old.bytes ≤ new.bytes)) → KeepsRoom old new
keeps_room old new more [] has = record { places = omega arith; bytes = omega arith }
keeps_room old new more (item ∷ items) has =
    let both = more (omega (arith, has.places)) in
    record { places = omega (arith, has.places, both.0); bytes = omega (arith, has.bytes, both.1) }

-- an entry between others adds itself
entry_between : (front back : List Entry) (entry : Entry) (old new : List Entry) → old ≡ front ++ back → new ≡ front ++ entry ∷ back → Grows old entry new
entry_between front back entry old new was is =
    let size = λ (e : Entry). length (entry_key e) in
    let more = length-append front (entry ∷ back) in
    let less = length-append front back in
    let count : length new ≡ length old + 1 = omega (arith, more, less, ap length was, ap length is) in
    let all = ap (sum_by size) is ∙ sum_by-append size front (entry ∷ back) in
    let others = ap (sum_by size) was ∙ sum_by-append size front back in
    record { count = count; memory = omega (arith, count, all, others, sum_by-cons size entry back) }

-- a memtable key that has come to a map adds its entry
pub grows : {old new : List Pair} {key : List ℕ} → InsertsPair old (key, []) new → (entry : Entry) → entry_from key ≡ entry → Grows (entries_of_keys old) entry (entries_of_keys new)
grows {old} {new} {key} put entry e =
    let from_pair = λ (pair : Pair). entry_from pair.0 in
    entry_between (entries_of_keys put.front) (entries_of_keys put.back) entry (entries_of_keys old) (entries_of_keys new) (ap entries_of_keys put.before ∙ map-append from_pair put.front put.back)
    (ap entries_of_keys put.after ∙ map-append from_pair put.front ((key, []) ∷ put.back) ∙ ap (λ (z : Entry). entries_of_keys put.front ++ z ∷ entries_of_keys put.back) e)

-- ---- what a look-up among sorted memtable keys finds

-- where the first of two comparisons ties, the second decides
tied_less : (r : Ordering) (s q : ℕ) → r ≡ Equal → ordering_then r (nat_cmp s q) ≡ Less → s < q
tied_less Less s q e h = let f : ⊥ = cc in absurd f
tied_less Equal s q e h = ranked s q Less (sym h)
tied_less Greater s q e h = let f : ⊥ = cc in absurd f

tied_not_less : (r : Ordering) (s q : ℕ) → r ≡ Equal → ordering_then r (nat_cmp s q) ≢ Less → q ≤ s
tied_not_less Less s q e h = let f : ⊥ = cc in absurd f
tied_not_less Equal s q e h = ⊎_elim
    (λ (lt : s < q). absurd (h (ap (λ b. cond b Less (cond (nat_eq s q) Equal Greater)) (lt-ltb s q lt))))
    (λ (le : q ≤ s). le) (cases_lt s q)
tied_not_less Greater s q e h = let f : ⊥ = cc in absurd f

first_not_greater : (r s : Ordering) → ordering_then r s ≡ Less → (r ≡ Less) ⊎ (r ≡ Equal)
first_not_greater Less s h = inl refl
first_not_greater Equal s h = inr refl
first_not_greater Greater s h = let f : ⊥ = cc in absurd f

-- an entry that is there is at some index
pub entry_place : (pairs : List Pair) (entry : Entry) → Contains (entries_of_keys pairs) entry → (i : ℕ) × (i < length pairs) × (entry_from (key_at pairs i) ≡ entry)
entry_place pairs entry there =
    let found = at_from_Contains (entries_of_keys pairs) entry there in
    let count = length-map pairs (λ (pair : Pair). entry_from pair.0) in
    let within : found.0 < length pairs = omega (arith, found.1, count) in
    (found.0, within, sym (get_or-map (λ (pair : Pair). entry_from pair.0) pairs found.0 ([], []) entry within) ∙ found.2 entry)

pub entry_there : (pairs : List Pair) (i : ℕ) → i < length pairs → Contains (entries_of_keys pairs) (entry_from (key_at pairs i))
entry_there pairs i h =
    let count = length-map pairs (λ (pair : Pair). entry_from pair.0) in
    let e = entry_from (key_at pairs i) in
    subst (λ (x : Entry). Contains (entries_of_keys pairs) x) (get_or-map (λ (pair : Pair). entry_from pair.0) pairs i ([], []) e h)
    (Contains-get_or (entries_of_keys pairs) i e (omega (arith, h, count)))

entry_got : (pairs : List Pair) (i : ℕ) → i < length pairs → slice_get (entries_of_keys pairs) i ≡ Some (entry_from (key_at pairs i))
entry_got pairs i h =
    let count = length-map pairs (λ (pair : Pair). entry_from pair.0) in
    let e = entry_from (key_at pairs i) in
    slice_get-get_or (entries_of_keys pairs) i e (omega (arith, h, count)) ∙ ap (λ (x : Entry). Some x) (get_or-map (λ (pair : Pair). entry_from pair.0) pairs i ([], []) e h)

same_some : {a b : Entry} → Some a ≡ Some b → a ≡ b
same_some e = cc

-- what was got is within
got_within : (pairs : List Pair) (i : ℕ) (entry : Entry) → slice_get (entries_of_keys pairs) i ≡ Some entry → i < length pairs
got_within pairs i entry e = omega (arith, slice_get_within (entries_of_keys pairs) i entry e, length-map pairs (λ (pair : Pair). entry_from pair.0))

-- whether a memtable key comes before the user's key as of the number
abbrev pub as_of : (List ℕ → List ℕ → Ordering) → List ℕ → List ℕ → ℕ → Bool
as_of cmp k user number = is_lt (ordering_then (cmp (user_part (front_key k)) user) (nat_cmp number (sequence_part (front_key k))))

-- the memtable keys before the user's key of another as of its number are those before the other
pub as_of_key : (cmp : List ℕ → List ℕ → Ordering) (key user : List ℕ) (number : ℕ) → user_part (front_key key) ≡ user → sequence_part (front_key key) ≡ number
    → PassesBefore (λ k. as_of cmp k user number) (memtable_cmp cmp) key
as_of_key cmp key user number u n other =
    ap (λ z. as_of cmp other z number) (sym u) ∙ ap (as_of cmp other (user_part (front_key key))) (sym n)

-- the key's entry at an index is what is found there
found_entry : (entries : List Entry) (i : ℕ) (key : List ℕ) (value : Option (List ℕ)) → HasEntryAt entries i key value → IsFoundAt entries i key (lookup_of value)
found_entry entries i key None there = there
found_entry entries i key (Some value) there = there

-- there is no entry after the last
pub gives_nothing : (pairs : List Pair) (i : ℕ) (user : List ℕ) → length pairs ≤ i → IsFoundAt (entries_of_keys pairs) i user Absent
gives_nothing pairs i user h entry got same = let within = got_within pairs i entry got in omega (arith, within)

module _ (pairs : List Pair) (i : ℕ) (within : i < length pairs) (key : List ℕ) (key_is : key ≡ key_at pairs i) (internal : List ℕ) (internal_is : internal ≡ front_key key)
    (user : List ℕ) (user_is : user ≡ user_part internal) where
  -- the entry is another key's
  pub gives_other : (other : List ℕ) → (user ≡ other → ⊥) → IsFoundAt (entries_of_keys pairs) i other Absent
  unfolding entry_from
  gives_other other differs entry got same =
      let is : entry_from (key_at pairs i) ≡ entry = same_some (sym (entry_got pairs i within) ∙ got) in
      differs (user_is ∙ ap user_part internal_is ∙ ap (λ k. user_part (front_key k)) key_is ∙ ap (λ (x : Entry). x.key) is ∙ same)

  -- the entry is the key's
  pub gives_read : (value : List ℕ) (kind : ValueType) → kind ≡ type_part internal → value ≡ inner_value key → IsFoundAt (entries_of_keys pairs) i user (lookup_of (value_of kind value))
  unfolding entry_from
  gives_read value kind kind_is value_is =
      let number = sequence_part (front_key key) in
      found_entry (entries_of_keys pairs) i user (value_of kind value) (
        number,
        entry_got pairs i within ∙ ap (λ k. Some (entry_from k)) (sym key_is)
            ∙ ap (λ u. Some (entry_of number u (value_of (type_part (front_key key)) (inner_value key)))) (ap user_part (sym internal_is) ∙ sym user_is)
            ∙ ap (λ k. Some (entry_of number user (value_of k (inner_value key)))) (ap type_part (sym internal_is) ∙ sym kind_is)
            ∙ ap (λ v. Some (entry_of number user (value_of kind v))) (sym value_is),
      )

module _ {accepts : List ℕ → Bool} {cmp : List ℕ → List ℕ → Ordering} (o : IsPreorderOn accepts cmp) (all : (key : List ℕ) → accepts key ≡ true)
    (exact : (a b : List ℕ) → cmp a b ≡ Equal → a ≡ b) {pairs : List Pair} (sorted : IsSorted (memtable_accepts accepts) (memtable_cmp cmp) pairs) where
  abbrev entry : ℕ → Entry
  entry i = entry_from (key_at pairs i)

  tied : (a b : List ℕ) → a ≡ b → cmp a b ≡ Equal
  tied a b e = ap (λ k. cmp k b) e ∙ itself_equal o b (all b)

  ordered : (i j : ℕ) → i < j → j < length pairs → ordering_then (cmp (entry i).key (entry j).key) (nat_cmp (entry j).sequence (entry i).sequence) ≡ Less
  ordered i j p q = sym (entry_order cmp (key_at pairs i) (key_at pairs j)) ∙ rising_at (memtable_cmp cmp) pairs sorted.rising i j p q

  -- of one key's entries the newer comes first
  pub older : (i j : ℕ) → i < j → j < length pairs → (entry i).key ≡ (entry j).key → (entry j).sequence < (entry i).sequence
  older i j p q e = tied_less (cmp (entry i).key (entry j).key) (entry j).sequence (entry i).sequence (tied (entry i).key (entry j).key e) (ordered i j p q)

  module _ (internal : List ℕ) where
    abbrev place : ℕ
    place = count_before (memtable_cmp cmp) (sized internal) pairs

    abbrev user : List ℕ
    user = user_part internal

    abbrev limit : ℕ
    limit = sequence_part internal

    abbrev test : List ℕ → Bool
    test k = is_lt (memtable_cmp cmp k (sized internal))

    counted : count_while test pairs ≡ place
    counted = count_before-is (memtable_cmp cmp) (sized internal) pairs

    -- entries of the key that are looked for are at the index or after it
    seen : (i : ℕ) → (entry i).key ≡ user → (entry i).sequence ≤ limit → place ≤ i
    seen i e low = ⊎_elim
        (λ (lt : i < place).
        let less = is_less (memtable_cmp cmp (key_at pairs i) (sized internal)) (before_count test pairs i (omega (arith, lt, counted))) in
        let late = tied_less (cmp (entry i).key user) limit (entry i).sequence (tied (entry i).key user e) (sym (lookup_order cmp (key_at pairs i) internal) ∙ less) in
        absurd (omega (arith, late, low)))
        (λ (ge : place ≤ i). ge) (cases_lt i place)

    not_before : place < length pairs → ordering_then (cmp (entry place).key user) (nat_cmp limit (entry place).sequence) ≢ Less
    not_before h less =
        let fails = ap (λ n. test (key_at pairs n)) (sym counted) ∙ at_count test pairs (omega (arith, counted, h)) in
        not_less (memtable_cmp cmp (key_at pairs place) (sized internal)) fails (lookup_order cmp (key_at pairs place) internal ∙ less)

    module _ (within : place < length pairs) (same : (entry place).key ≡ user) where
      low_enough : (entry place).sequence ≤ limit
      low_enough = tied_not_less (cmp (entry place).key user) limit (entry place).sequence (tied (entry place).key user same) (not_before within)

      is_newest : IsNewest (entries_of_keys pairs) limit (entry place)
      is_newest = record {
        there = entry_there pairs place within;
        seen = low_enough;
        newest = λ other there key low.
            let found = entry_place pairs other there in
            let i = found.0 in
            let key_is : (entry i).key ≡ user = ap (λ (x : Entry). x.key) found.2 ∙ key ∙ same in
            let number = ap (λ (x : Entry). x.sequence) found.2 in
            let following = seen i key_is (omega (arith, number, low)) in
            ⊎_elim
            (λ (e : i ≡ place). let number' = ap (λ n. (entry n).sequence) e in omega (arith, number, number'))
            (λ (w : (i < place) ⊎ (place < i)).
            ⊎_elim
            (λ (lt : i < place). absurd (omega (arith, lt, following)))
            (λ (gt : place < i). let late = older place i gt found.1 (same ∙ sym key_is) in omega (arith, number, late)) w)
            (cases_order i place);
      }

      -- what is there is the key's newest entry
      pub finds_entry : HasNewest (entries_of_keys pairs) limit user (entry place).value
      finds_entry = record {
        entry = entry place;
        newest = is_newest;
        key_is = same;
        value_is = refl;
        only = λ other newest key.
            let found = entry_place pairs other newest.there in
            let i = found.0 in
            let key_is : (entry i).key ≡ user = ap (λ (x : Entry). x.key) found.2 ∙ key in
            let number = ap (λ (x : Entry). x.sequence) found.2 in
            let following = seen i key_is (omega (arith, number, newest.seen)) in
            let most = newest.newest (entry place) (entry_there pairs place within) (same ∙ sym key) low_enough in
            ⊎_elim
            (λ (e : i ≡ place). sym found.2 ∙ ap (λ n. entry n) e)
            (λ (w : (i < place) ⊎ (place < i)).
            ⊎_elim
            (λ (lt : i < place). absurd (omega (arith, lt, following)))
            (λ (gt : place < i). let late = older place i gt found.1 (same ∙ sym key_is) in absurd (omega (arith, number, late, most))) w)
            (cases_order i place);
      }

    -- where no entry of the key is there, it has none
    pub finds_none : (place < length pairs → (entry place).key ≢ user) → FindsNewest (entries_of_keys pairs) limit user Absent
    finds_none other e there key low =
        let found = entry_place pairs e there in
        let i = found.0 in
        let key_is : (entry i).key ≡ user = ap (λ (x : Entry). x.key) found.2 ∙ key in
        let number = ap (λ (x : Entry). x.sequence) found.2 in
        let following = seen i key_is (omega (arith, number, low)) in
        let within : place < length pairs = omega (arith, following, found.1) in
        ⊎_elim
        (λ (e' : i ≡ place). other within (ap (λ n. (entry n).key) (sym e') ∙ key_is))
        (λ (w : (i < place) ⊎ (place < i)).
        ⊎_elim
        (λ (lt : i < place). omega (arith, lt, following))
        (λ (gt : place < i).
        ⊎_elim
        (λ (less : cmp (entry place).key (entry i).key ≡ Less).
        let less' : cmp (entry place).key user ≡ Less = ap (λ k. cmp (entry place).key k) (sym key_is) ∙ less in
        not_before within (ap (λ r. ordering_then r (nat_cmp limit (entry place).sequence)) less'))
        (λ (equal : cmp (entry place).key (entry i).key ≡ Equal). other within (exact (entry place).key (entry i).key equal ∙ key_is))
        (first_not_greater (cmp (entry place).key (entry i).key) _ (ordered place i gt found.1))) w)
        (cases_order i place)

    -- the key's entry there is its newest
    finds_there : (n : ℕ) → n ≡ place → (value : Option (List ℕ)) → HasEntryAt (entries_of_keys pairs) n user value → HasNewest (entries_of_keys pairs) limit user value
    finds_there n n_is value given =
        let within = got_within pairs n (entry_of given.0 user value) given.1 in
        let is : entry place ≡ entry_of given.0 user value = same_some (sym (entry_got pairs place (omega (arith, within, n_is))) ∙ ap (λ i. slice_get (entries_of_keys pairs) i) (sym n_is) ∙ given.1) in
        subst (λ v. HasNewest (entries_of_keys pairs) limit user v) (ap (λ (x : Entry). x.value) is)
        (finds_entry (omega (arith, within, n_is)) (ap (λ (x : Entry). x.key) is))

    -- what is found there of the key is its newest, or nothing
    pub finds_given : (n : ℕ) → n ≡ place → (found : Lookup (List ℕ)) → IsFoundAt (entries_of_keys pairs) n user found → FindsNewest (entries_of_keys pairs) limit user found
    finds_given n n_is Absent given = finds_none (λ within same. given (entry place) (ap (λ i. slice_get (entries_of_keys pairs) i) n_is ∙ entry_got pairs place within) same)
    finds_given n n_is Deleted given = finds_there n n_is None given
    finds_given n n_is (Value value) given = finds_there n n_is (Some value) given

    -- keys before it, by their internal keys
    pub counted_inner : count_while (λ k. is_lt (internal_cmp cmp (front_key k) internal)) pairs ≡ place
    counted_inner =
        let inner : front_key (sized internal) ≡ internal = ap front_key (sym (append-nil (sized internal))) ∙ front_key-sized internal [] in
        ap (λ z. count_while (λ k. is_lt (internal_cmp cmp (front_key k) z)) pairs) (sym inner) ∙ counted

  module _ (key : List ℕ) (sequence : ℕ) (fits : sequence < 2 ^ 56) where
    abbrev looked_up : List ℕ
    looked_up = internal_key key sequence TypeValue

    pub parted_as_of : IsParted (λ k. as_of cmp k key sequence) pairs
    parted_as_of =
        subst (λ number. IsParted (λ k. as_of cmp k key number) pairs) (sequence_part-internal_key key sequence TypeValue fits)
        (subst (λ user. IsParted (λ k. as_of cmp k user (sequence_part looked_up)) pairs) (user_part-internal_key key sequence TypeValue) (parted_walked o all sorted looked_up))

    pub finds_as_of : (n : ℕ) → n ≡ count_while (λ k. as_of cmp k key sequence) pairs → (found : Lookup (List ℕ)) → IsFoundAt (entries_of_keys pairs) n key found
        → FindsNewest (entries_of_keys pairs) sequence key found
    finds_as_of n n_is found given =
        let number_is = sequence_part-internal_key key sequence TypeValue fits in
        let user_is = user_part-internal_key key sequence TypeValue in
        let there : n ≡ count_before (memtable_cmp cmp) (sized looked_up) pairs =
        n_is ∙ ap (λ number. count_while (λ k. as_of cmp k key number) pairs) (sym number_is)
        ∙ ap (λ user. count_while (λ k. as_of cmp k user (sequence_part looked_up)) pairs) (sym user_is) ∙ counted_inner looked_up in
        subst (λ number. FindsNewest (entries_of_keys pairs) number key found) number_is
        (subst (λ user. FindsNewest (entries_of_keys pairs) (sequence_part looked_up) user found) user_is
        (finds_given looked_up n there found (subst (λ user. IsFoundAt (entries_of_keys pairs) n user found) (sym user_is) given)))
