-- Bytes are a batch in one way. These lemmas are in specs/, since a ghost field of `WriteBatch`
-- cites the last two.
use Rattle.std.proofs.Common.{◌≡◌, ℕ, ◌+◌, ◌^◌, ◌<◌, ◌≤◌, List, [], ◌∷◌, ◌++◌, length, flat_map, Option, Some, None, refl, sym, ◌∙◌, ap, arith, append_assoc, length-append}
use Rattle.std.specs.Coded.{Coded-set, coded_list, coded_ℕ}
use Rattle.std.proofs.Props.{props}
use mathlib.Core.HLevel.{Σ_prop_path}
use Rattle.byteorder.specs.Endian.{little_from}
use Rattle.byteorder.specs.Numbers.{little_number-reads_back, length-bytes_low_first}
use Rattle.leveldb_base.specs.History.{Item}
use Rattle.leveldb_base.specs.Varint.{little, sized}
use Rattle.leveldb_base.proofs.VarintLemmas.{apart, one_sized, length-varint-pos}
use Rattle.leveldb_mem.specs.WriteBatch.{item_of, batch_of, change_encoding, change_bytes, batch_bytes, BatchOf, Batch, IsBatch, AreChanges}
use Rattle.leveldb_mem.specs.Laws.{OneBatchReading, OneBatchEncoding}

-- a fixed number at the front of a text, and what follows
one_fixed : (width m n : ℕ) (x y : List ℕ) → m < 256 ^ width → n < 256 ^ width
    → little width m ++ x ≡ little width n ++ y → (m ≡ n) × (x ≡ y)
one_fixed width m n x y hm hn e = (
  sym (little_number-reads_back width m x hm) ∙ ap (little_from 0 width) e
      ∙ little_number-reads_back width n y hn,
  (apart (little width m) (little width n) x y
      (length-bytes_low_first 0 width m ∙ sym (length-bytes_low_first 0 width n)) e).1,
)

one_encoding : (k j : List ℕ) (v w : Option (List ℕ)) (x y : List ℕ)
    → change_encoding k v ++ x ≡ change_encoding j w ++ y → (k ≡ j) × (v ≡ w) × (x ≡ y)
one_encoding k j (Some v) (Some w) x y e =
    let tail : (sized k ++ sized v) ++ x ≡ (sized j ++ sized w) ++ y = cc in
    let left = append_assoc (sized k) (sized v) x in
    let right = append_assoc (sized j) (sized w) y in
    let r = one_sized k j (sized v ++ x) (sized w ++ y) (sym left ∙ tail ∙ right) in
    let s = one_sized v w x y r.1 in
    (r.0, ap (λ z. Some z) s.0, s.1)
one_encoding k j (Some v) None x y e = absurd (cc)
one_encoding k j None (Some w) x y e = absurd (cc)
one_encoding k j None None x y e =
    let tail : sized k ++ x ≡ sized j ++ y = cc in
    let r = one_sized k j x y tail in
    (r.0, refl, r.1)

-- an item at the front of a text, and what follows
pub one_entry : (a b : Item) (x y : List ℕ) → change_bytes a ++ x ≡ change_bytes b ++ y
    → (a ≡ b) × (x ≡ y)
unfolding change_bytes
one_entry a b x y e =
    let r = one_encoding a.key b.key a.value b.value x y e in
    (ap (λ z. item_of z a.value) r.0 ∙ ap (λ z. item_of b.key z) r.1, r.2)

length-change_encoding-ge : (key : List ℕ) (value : Option (List ℕ))
    → 2 + length key ≤ length (change_encoding key value)
length-change_encoding-ge key (Some value) =
    let some = length-varint-pos (length key) in grind (arith, length-append)
length-change_encoding-ge key None =
    let some = length-varint-pos (length key) in grind (arith, length-append)

-- an entry has its kind, a length and its key
pub length-change_bytes-ge : (item : Item) → 2 + length item.key ≤ length (change_bytes item)
unfolding change_bytes
length-change_bytes-ge item = length-change_encoding-ge item.key item.value

-- entries have one reading
pub one_list : (xs ys : List Item) → flat_map change_bytes xs ≡ flat_map change_bytes ys → xs ≡ ys
one_list [] [] e = refl
one_list [] (y ∷ ys) e =
    let some = length-change_bytes-ge y in
    let whole = ap length e in
    let sum = length-append (change_bytes y) (flat_map change_bytes ys) in
    absurd (omega (arith, sum, some, whole))
one_list (x ∷ xs) [] e =
    let some = length-change_bytes-ge x in
    let whole = ap length e in
    let sum = length-append (change_bytes x) (flat_map change_bytes xs) in
    absurd (omega (arith, sum, some, whole))
one_list (x ∷ xs) (y ∷ ys) e =
    let r = one_entry x y (flat_map change_bytes xs) (flat_map change_bytes ys) e in
    ap (λ z. z ∷ xs) r.0 ∙ ap (λ z. y ∷ z) (one_list xs ys r.1)

-- a batch has one reading
pub one_batch : (m n : ℕ) (xs ys : List Item) → m < 2 ^ 64 → n < 2 ^ 64
    → batch_bytes m xs ≡ batch_bytes n ys → (m ≡ n) × (xs ≡ ys)
unfolding batch_bytes
one_batch m n xs ys hm hn e =
    let first = one_fixed 8 m n _ _ hm hn e in
    let rest = apart (little 4 (length xs)) (little 4 (length ys)) _ _ refl first.1 in
    (first.0, one_list xs ys rest.1)

-- the same bytes are the same batch
pub BatchOf-one : OneBatchReading
BatchOf-one bytes m n xs ys f g =
    one_batch m n xs ys f.numbered g.numbered (sym f.encoded ∙ g.encoded)

-- the same batch is the same bytes
pub BatchOf-again : OneBatchEncoding
BatchOf-again bytes again first items f g = g.encoded ∙ sym f.encoded

BatchOf-prop : (bytes : List ℕ) (batch : Batch) → IsProp (BatchOf bytes batch.first batch.items)
BatchOf-prop bytes batch = hlevel props

-- bytes are a batch in one way
pub IsBatch-prop : (bytes : List ℕ) → IsProp (IsBatch bytes)
IsBatch-prop bytes = λ u v. Σ_prop_path (BatchOf-prop bytes)
    (let same = BatchOf-one bytes u.0.first v.0.first u.0.items v.0.items u.1 v.1 in
    ap (λ z. batch_of z u.0.items) same.0 ∙ ap (λ z. batch_of v.0.first z) same.1)

-- bytes are entries in one way
pub AreChanges-prop : (bytes : List ℕ) → IsProp (AreChanges bytes)
AreChanges-prop bytes = λ u v. Σ_prop_path
    (λ items. Coded-set (coded_list coded_ℕ) bytes (flat_map change_bytes items))
    (one_list u.0 v.0 (sym u.1 ∙ v.1))
