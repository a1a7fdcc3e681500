-- Keys are read as they were written, and only so.
use Rattle.std.proofs.Common.{◌≡◌, ℕ, zero, suc, ◌+◌, ◌-◌, ◌*◌, ◌/◌, ◌%◌, ◌^◌, ◌<◌, ◌≤◌, Bool, true, false, cond, nat_le, nat_eq, List, [], ◌∷◌, ◌++◌, length, take, drop, slice_index, Option, None, Some, IfSome, refl, sym, ◌∙◌, ap, arith, append_assoc, append-nil}
use Rattle.std.specs.List.{All, starts_with}
use Rattle.std.proofs.lemmas.Bool.{lt-ltb, le-ltb, le-leb}
use Rattle.std.proofs.lemmas.Bool.Decides.{Decides-eqb}
use Rattle.std.proofs.lemmas.List.Elements.{All-drop}
use Rattle.std.proofs.lemmas.Slice.Eq.{starts_is}
use Rattle.std.proofs.lemmas.List.{take-append-drop, take_all, length-append, length-drop}
use Rattle.std.proofs.Math.Seq.{take-append_seam}
use Rattle.byteorder.specs.Endian.{little_number}
use Rattle.byteorder.specs.Numbers.{little_number-reads_back, length-bytes_low_first, little_from-lt}
use Rattle.leveldb_base.specs.Varint.{little, IsVarint, varint, sized, ReadsSized}
use Rattle.leveldb_base.proofs.VarintLemmas.{IsVarint-varint, apart, one_number, one_sized, little-little_number}
use Rattle.leveldb_base.specs.declared.key_types.ValueType.{ValueType}
use Rattle.leveldb_base.specs.declared.key_types.ValueType.TheVariants.{TypeDeletion, TypeValue}
use Rattle.leveldb_base.specs.KeyTypes.{type_number, type_from, tag, internal_key, user_part, tag_part, sequence_part, type_part, lookup_key, memtable_key, after_user_key, SplitsInto, front_number, after_number, front_key}
use Rattle.leveldb_base.specs.CmpLaws.{length-internal_key, type_number-le, tag_part-internal_key}

type_from-tag : (sequence : ℕ) (kind : ValueType) → type_from (tag sequence kind % 256) ≡ kind
type_from-tag sequence TypeDeletion = let e : (sequence * 256 + 0) % 256 ≡ 0 = omega arith in ap type_from e
type_from-tag sequence TypeValue = let e : (sequence * 256 + 1) % 256 ≡ 1 = omega arith in ap type_from e

pub type_part-internal_key : (user : List ℕ) (sequence : ℕ) (kind : ValueType) → sequence < 2 ^ 56 → type_part (internal_key user sequence kind) ≡ kind
type_part-internal_key user sequence kind h = ap (λ n. type_from (n % 256)) (tag_part-internal_key user sequence kind h) ∙ type_from-tag sequence kind

type_number-from : (n : ℕ) → n < 2 → type_number (type_from n) ≡ n
type_number-from zero h = refl
type_number-from (suc n) h = omega arith

slice_index-byte : (bytes : List ℕ) → All (λ b. b < 256) bytes → (k : ℕ) → slice_index bytes k < 256
slice_index-byte [] small k = omega arith
slice_index-byte (b ∷ bytes) small zero = small 0 0 (omega arith)
slice_index-byte (b ∷ bytes) small (suc k) = slice_index-byte bytes (λ i d h. small (suc i) d (omega arith)) k

tag-parts : (n m : ℕ) → n ≡ m → m < 2 ^ 64 → type_number (type_from (n % 256)) ≡ n % 256 → tag (n / 256 % 2 ^ 56) (type_from (n % 256)) ≡ m
tag-parts n m e h kind = omega arith

-- eight bytes or more whose type is known are the internal key of their parts
pub internal_key-parts : (key : List ℕ) → 8 ≤ length key → All (λ b. b < 256) key → tag_part key % 256 < 2 → internal_key (user_part key) (sequence_part key) (type_part key) ≡ key
internal_key-parts key h small known =
    let last = drop (length key - 8) key in
    let eight : length last ≡ 8 = simp length-drop (omega arith) in
    let long : nat_le 8 (length key) ≡ true = le-leb 8 (length key) h in
    let number : tag_part key ≡ little_number 8 last = rw long refl in
    let bytes : All (λ b. b < 256) last = All-drop (λ b. b < 256) (length key - 8) key small in
    let fits : little_number 8 last < 2 ^ 64 = little_from-lt 0 8 last (slice_index-byte last bytes) in
    let kind = type_number-from (tag_part key % 256) known in
    let same : tag (sequence_part key) (type_part key) ≡ little_number 8 last = tag-parts (tag_part key) (little_number 8 last) number fits kind in
    ap (λ n. user_part key ++ little 8 n) same
    ∙ ap (λ z. user_part key ++ z) (little-little_number 8 last (omega arith) bytes ∙ take_all 8 last (omega arith))
    ∙ take-append-drop (length key - 8) key

front_number-encoding : (bytes rest : List ℕ) (n : ℕ) → IsVarint bytes n → front_number (bytes ++ rest) ≡ n
front_number-encoding [] rest n f = absurd f
front_number-encoding (b ∷ []) rest n f = let low = lt-ltb b 128 f.0 in rw low (sym f.1)
front_number-encoding (b ∷ c ∷ bytes) rest n f =
    let high = le-ltb b 128 f.0 in
    let more = front_number-encoding (c ∷ bytes) rest f.2 f.5 in
    let whole = f.4 in
    rw (high, more) (omega (arith, f.0))

after_number-encoding : (bytes rest : List ℕ) (n : ℕ) → IsVarint bytes n → after_number (bytes ++ rest) ≡ rest
after_number-encoding [] rest n f = absurd f
after_number-encoding (b ∷ []) rest n f = let low = lt-ltb b 128 f.0 in rw low refl
after_number-encoding (b ∷ c ∷ bytes) rest n f =
    let high = le-ltb b 128 f.0 in
    rw high (after_number-encoding (c ∷ bytes) rest f.2 f.5)

-- a text after its length is the text at the front
pub front_key-sized : (text rest : List ℕ) → front_key (sized text ++ rest) ≡ text
front_key-sized text rest =
    let whole = sized text ++ rest in
    let split : whole ≡ varint (length text) ++ (text ++ rest) = append_assoc (varint (length text)) text rest in
    let spells = IsVarint-varint (length text) in
    let number : front_number whole ≡ length text = ap front_number split ∙ front_number-encoding (varint (length text)) (text ++ rest) (length text) spells in
    let behind : after_number whole ≡ text ++ rest = ap after_number split ∙ after_number-encoding (varint (length text)) (text ++ rest) (length text) spells in
    let found : take (front_number whole) (after_number whole) ≡ text = ap (λ n. take n (after_number whole)) number ∙ ap (take (length text)) behind ∙ take-append_seam text rest in
    let begins : starts_with nat_eq whole (sized text) ≡ true = (starts_is Decides-eqb whole (sized text) _ refl).1 rest refl in
    ap (λ t. cond (starts_with nat_eq whole (sized t)) t []) found ∙ ap (λ t. cond t text []) begins

none_in_front : (bytes text : List ℕ) (begins : Bool) → starts_with nat_eq bytes (sized text) ≡ begins → ((rest : List ℕ) → bytes ≡ sized text ++ rest → ⊥) → cond begins text [] ≡ []
none_in_front bytes text true e none = absurd (none _ ((starts_is Decides-eqb bytes (sized text) _ (sym e)).0 refl))
none_in_front bytes text false e none = refl

-- what reading a sized text gives is the text in front, or the empty text
pub front_key-read : (bytes text rest : List ℕ) → ReadsSized bytes (Some (text, rest)) → front_key bytes ≡ text
front_key-read bytes text rest e = ap front_key e ∙ front_key-sized text rest

pub front_key-unread : (bytes : List ℕ) → length bytes < 2 ^ 64 → ReadsSized bytes None → front_key bytes ≡ []
front_key-unread bytes h none =
    let text = take (front_number bytes) (after_number bytes) in
    none_in_front bytes text (starts_with nat_eq bytes (sized text)) refl (λ rest e. none text rest (text_within bytes text rest e h) e)
  where
    text_within : (whole text rest : List ℕ) → whole ≡ sized text ++ rest → length whole < 2 ^ 64 → length text < 2 ^ 64
    text_within whole text rest e h =
        let outer = length-append (sized text) rest in
        let inner = length-append (varint (length text)) text in
        let same = ap length e in
        omega (arith, outer, inner, same)

pub front_key-lookup_key : (user : List ℕ) (sequence : ℕ) (kind : ValueType) → front_key (lookup_key user sequence kind) ≡ internal_key user sequence kind
front_key-lookup_key user sequence kind =
    ap front_key (sym (append-nil (lookup_key user sequence kind))) ∙ front_key-sized (internal_key user sequence kind) []

pub front_key-memtable_key : (user : List ℕ) (sequence : ℕ) (kind : ValueType) (value : List ℕ) → front_key (memtable_key user sequence kind value) ≡ internal_key user sequence kind
front_key-memtable_key user sequence kind value = front_key-sized (internal_key user sequence kind) (sized value)

-- what is written for an entry has the entry's parts
pub SplitsInto-memtable_key : (user : List ℕ) (sequence : ℕ) (kind : ValueType) (value : List ℕ) → sequence < 2 ^ 56 → SplitsInto (memtable_key user sequence kind value) user (Some (tag sequence kind, value))
SplitsInto-memtable_key user sequence kind value h =
    let key = internal_key user sequence kind in
    let number = tag sequence kind in
    let small = type_number-le kind in (
      append_assoc (varint (length key)) key (sized value)
          ∙ ap (λ n. varint n ++ (key ++ sized value)) (length-internal_key user sequence kind)
          ∙ ap (λ z. varint (length user + 8) ++ z) (append_assoc user (little 8 number) (sized value)),
      omega arith,
    )

-- numbers of 64 bits with the same eight bytes are the same
one_little : (m n : ℕ) → m < 2 ^ 64 → n < 2 ^ 64 → little 8 m ≡ little 8 n → m ≡ n
one_little m n h g e =
    sym (little_number-reads_back 8 m [] h) ∙ ap (λ z. little_number 8 (z ++ [])) e ∙ little_number-reads_back 8 n [] g

one_tail : (these those : Option (ℕ × List ℕ)) → IfSome these (λ tagged. tagged.0 < 2 ^ 64) → IfSome those (λ tagged. tagged.0 < 2 ^ 64) → after_user_key these ≡ after_user_key those → these ≡ those
one_tail None None h g e = refl
one_tail None (Some (n, value)) h g e =
    let size = length-append (little 8 n) (sized value) in
    let eight = length-bytes_low_first 0 8 n in
    let same = ap length e in
    absurd (omega (arith, size, eight, same))
one_tail (Some (m, value)) None h g e =
    let size = length-append (little 8 m) (sized value) in
    let eight = length-bytes_low_first 0 8 m in
    let same = ap length e in
    absurd (omega (arith, size, eight, same))
one_tail (Some (m, value)) (Some (n, other)) h g e =
    let split = apart (little 8 m) (little 8 n) (sized value) (sized other) (length-bytes_low_first 0 8 m ∙ sym (length-bytes_low_first 0 8 n)) e in
    let number : m ≡ n = one_little m n h g split.0 in
    let text : value ≡ other = (one_sized value other [] [] (append-nil (sized value) ∙ split.1 ∙ sym (append-nil (sized other)))).0 in
    cc

-- bytes have no other parts
pub one_SplitsInto : (bytes user other : List ℕ) (these those : Option (ℕ × List ℕ)) → SplitsInto bytes user these → SplitsInto bytes other those → (user ≡ other) × (these ≡ those)
one_SplitsInto bytes user other these those h g =
    let front = one_number (length user + 8) (length other + 8) (user ++ after_user_key these) (other ++ after_user_key those) (sym h.0 ∙ g.0) in
    let size = front.0 in
    let split = apart user other (after_user_key these) (after_user_key those) (omega (arith, size)) front.1 in
    (split.0, one_tail these those h.1 g.1 split.1)
