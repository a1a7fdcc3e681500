-- Batches: their limits, their bytes, and their entries.
use Rattle.std.proofs.Common.{◌≡◌, ℕ, ◌+◌, ◌*◌, ◌^◌, ◌<◌, ◌≤◌, List, [], ◌∷◌, ◌++◌, length, flat_map, Option, Some, None, refl, sym, ◌∙◌, ap, arith, append_assoc, length-append, ◌-◌, take, drop, replicate, Result, Ok, Err, inl, inr, subst, length-drop, ◌≢◌, ◌↔◌, IsTrue, eqb, eq-eqb, get_or}
use Rattle.std.specs.List.{All}
use Rattle.std.proofs.lemmas.List.Elements.{All-nil, All-cons, All-drop, All-from_get_or}
use Rattle.std.proofs.lemmas.List.{take_at, drop_at, take-append-le, drop-append-le, append-nil, take-append-drop}
use Rattle.std.proofs.lemmas.List.Concat.{flat_map-append}
use Rattle.std.proofs.lemmas.Bool.{cases_lt, eqb-true}
use Rattle.std.specs.Prelude.{IsErrAnd, OnErr}
use Rattle.std.proofs.lemmas.List.Folds.{drop_split}
use Rattle.std.specs.Option.{option_eq}
use Rattle.byteorder.specs.Endian.{little_number}
use Rattle.byteorder.specs.Numbers.{little_number-reads_back, length-bytes_low_first, little_from-lt}
use Rattle.leveldb_base.specs.History.{Item}
use Rattle.leveldb_base.specs.Varint.{little, sized, ReadsSized}
use Rattle.leveldb_base.proofs.VarintLemmas.{one_sized, little-little_number}
use Rattle.leveldb_base.specs.Error.{IsOutOfMemory}
use Rattle.leveldb_base.specs.declared.error.Status.{Status}
use Rattle.leveldb_base.specs.declared.error.StatusCode.TheVariants.{InvalidArgument}
use Rattle.leveldb_mem.specs.WriteBatch.{item_of, batch_of, change_encoding, change_bytes, batch_bytes, BatchOf, Batch, IsBatch, IsShort, AreChanges, with_item, IsTooLong, ReadsChange, CountsChanges}
use Rattle.leveldb_mem.specs.Laws.{EachShort, CountFits}
use Rattle.leveldb_mem.specs.WriteBatchLaws.{one_list, length-change_bytes-ge, IsBatch-prop, one_entry, AreChanges-prop}

-- ---- limits

-- each entry has two bytes at least
pub length-entries-ge : (items : List Item) → 2 * length items ≤ length (flat_map change_bytes items)
length-entries-ge [] = omega arith
length-entries-ge (item ∷ items) =
    let some = length-change_bytes-ge item in
    let rest = length-entries-ge items in
    omega (arith, length-append (change_bytes item) (flat_map change_bytes items), some, rest)

-- a batch has a header of twelve bytes and its entries
pub length-batch_bytes : (first : ℕ) (items : List Item) → length (batch_bytes first items) ≡ 12 + length (flat_map change_bytes items)
unfolding batch_bytes
length-batch_bytes first items =
    omega (
      arith,
      length-append (little 8 first) (little 4 (length items) ++ flat_map change_bytes items),
      length-append (little 4 (length items)) (flat_map change_bytes items),
      length-bytes_low_first 0 8 first,
      length-bytes_low_first 0 4 (length items),
    )

pub length-batch : {bytes : List ℕ} {first : ℕ} {items : List Item} → BatchOf bytes first items → length bytes ≡ 12 + length (flat_map change_bytes items)
length-batch {bytes} {first} {items} batch = ap length batch.encoded ∙ length-batch_bytes first items

-- there are fewer items than a number of 32 bits says
pub length-items-le : {bytes : List ℕ} {first : ℕ} {items : List Item} → BatchOf bytes first items → 2 * length items + 12 ≤ 2 ^ 30
length-items-le {items = items} batch = omega (arith, length-batch batch, batch.limited, length-entries-ge items)

pub items_counted : CountFits
items_counted bytes first items batch = omega (arith, length-items-le batch)

short_encoding : (key : List ℕ) (value : Option (List ℕ)) → length (change_encoding key value) ≤ 2 ^ 30 → IsShort (item_of key value)
short_encoding key (Some value) h =
    let key_fits : length key ≤ 2 ^ 30 = omega (arith, h, length-append {A = ℕ}) in
    let value_fits : length value ≤ 2 ^ 30 = omega (arith, h, length-append {A = ℕ}) in
    (key_fits, value_fits)
short_encoding key None h = (omega (arith, h, length-append {A = ℕ}), tt)

short_entry : (item : Item) → length (change_bytes item) ≤ 2 ^ 30 → IsShort item
unfolding change_bytes
short_entry item h = short_encoding item.key item.value h

short_entries : (items : List Item) → length (flat_map change_bytes items) ≤ 2 ^ 30 → All IsShort items
short_entries [] h = All-nil IsShort
short_entries (item ∷ items) h =
    let whole = length-append (change_bytes item) (flat_map change_bytes items) in
    All-cons IsShort item items (short_entry item (omega (arith, h, whole))) (short_entries items (omega (arith, h, whole)))

-- the limit of the bytes is one of each key and value
pub items_short : EachShort
items_short bytes first items batch = short_entries items (omega (arith, length-batch batch, batch.limited))

-- ---- what a batch's bytes tell, and what a change of them makes of the batch

-- a part after two fronts
after_two : (a b x : List ℕ) (i j : ℕ) → length a ≡ i → length a + length b ≡ j → (take i (a ++ (b ++ x)) ≡ a) × (drop i (a ++ (b ++ x)) ≡ b ++ x) × (drop j (a ++ (b ++ x)) ≡ x)
after_two a b x i j e f = (
  take_at a (b ++ x) i e,
  drop_at a (b ++ x) i e,
  ap (λ z. drop j z) (sym (append_assoc a b x)) ∙ drop_at (a ++ b) x j (length-append a b ∙ f),
)

-- the parts of a batch's bytes
parts : (first : ℕ) (items : List Item) → (take 8 (batch_bytes first items) ≡ little 8 first)
    × (drop 8 (batch_bytes first items) ≡ little 4 (length items) ++ flat_map change_bytes items)
    × (drop 12 (batch_bytes first items) ≡ flat_map change_bytes items)
unfolding batch_bytes
parts first items = after_two (little 8 first) (little 4 (length items)) (flat_map change_bytes items) 8 12
    (length-bytes_low_first 0 8 first) (omega (arith, length-bytes_low_first 0 8 first, length-bytes_low_first 0 4 (length items)))

module _ {bytes : List ℕ} {first : ℕ} {items : List Item} (batch : BatchOf bytes first items) where
  -- what comes after the header
  pub entries_there : drop 12 bytes ≡ flat_map change_bytes items
  entries_there = ap (λ z. drop 12 z) batch.encoded ∙ (parts first items).2

  -- the number that the header says
  pub first_there : little_number 8 bytes ≡ first
  unfolding batch_bytes
  first_there = ap (λ z. little_number 8 z) batch.encoded
      ∙ little_number-reads_back 8 first (little 4 (length items) ++ flat_map change_bytes items) batch.numbered

  -- the count that the header says
  pub count_there : little_number 4 (drop 8 bytes) ≡ length items
  count_there = ap (λ z. little_number 4 (drop 8 z)) batch.encoded ∙ ap (λ z. little_number 4 z) (parts first items).1
      ∙ little_number-reads_back 4 (length items) (flat_map change_bytes items) (omega (arith, length-items-le batch))

  -- another number
  pub numbered_again : (n : ℕ) → n < 2 ^ 64 → BatchOf (little 8 n ++ drop 8 bytes) n items
  unfolding batch_bytes
  numbered_again n h = record {
    encoded = ap (λ z. little 8 n ++ z) (ap (λ z. drop 8 z) batch.encoded ∙ (parts first items).1);
    numbered = h;
    limited = omega (arith, length-append (little 8 n) (drop 8 bytes), length-bytes_low_first 0 8 n, length-drop 8 bytes, length-batch batch, batch.limited);
  }

  -- how long the batch is with one more item
  pub length-one_more : (item : Item) → length (batch_bytes first (items ++ item ∷ [])) ≡ length bytes + length (change_bytes item)
  length-one_more item =
      let more = flat_map-append change_bytes items (item ∷ []) ∙ ap (λ z. flat_map change_bytes items ++ z) (append-nil (change_bytes item)) in
      omega (arith, length-batch_bytes first (items ++ item ∷ []), ap length more, length-append (flat_map change_bytes items) (change_bytes item), length-batch batch)

  -- one more item, where its bytes come after the others and the header counts it
  pub one_more : (item : Item) → length bytes + length (change_bytes item) ≤ 2 ^ 30
      → BatchOf (take 8 (bytes ++ change_bytes item) ++ (little 4 (length items + 1) ++ drop 12 (bytes ++ change_bytes item))) first (items ++ item ∷ [])
  unfolding batch_bytes
  one_more item h =
      let long = length-batch batch in
      let front = take-append-le 8 bytes (change_bytes item) (omega arith) ∙ ap (λ z. take 8 z) batch.encoded ∙ (parts first items).0 in
      let back = drop-append-le 12 bytes (change_bytes item) (omega arith) ∙ ap (λ z. z ++ change_bytes item) entries_there in
      let more = flat_map-append change_bytes items (item ∷ []) ∙ ap (λ z. flat_map change_bytes items ++ z) (append-nil (change_bytes item)) in
      let count : length (items ++ item ∷ []) ≡ length items + 1 = length-append items (item ∷ []) in
      let encoded : take 8 (bytes ++ change_bytes item) ++ (little 4 (length items + 1) ++ drop 12 (bytes ++ change_bytes item)) ≡ batch_bytes first (items ++ item ∷ []) =
      ap (λ z. z ++ (little 4 (length items + 1) ++ drop 12 (bytes ++ change_bytes item))) front
      ∙ ap (λ z. little 8 first ++ (little 4 (length items + 1) ++ z)) (back ∙ sym more)
      ∙ ap (λ z. little 8 first ++ (little 4 z ++ flat_map change_bytes (items ++ item ∷ []))) (sym count) in
      record {
        encoded = encoded;
        numbered = batch.numbered;
        limited = omega (arith, ap length encoded, length-one_more item, h);
      }

-- a vector of so many bytes whose bytes were borrowed and are now these
refilled : (len : ℕ) (written bytes : List ℕ) → length written ≡ len → take len (written ++ drop (length written) bytes) ≡ written
refilled len written bytes e = take_at written (drop (length written) bytes) len e

-- a batch whose bytes were borrowed to write another number
pub renumbered : {bytes lent written : List ℕ} {first : ℕ} {items : List Item} (len n : ℕ) → BatchOf bytes first items → n < 2 ^ 64 → len ≡ length bytes
    → lent ≡ bytes → written ≡ little 8 n ++ drop 8 lent → BatchOf (take len (written ++ drop (length written) bytes)) n items
renumbered {bytes} {lent} {written} {first} {items} len n batch h size e f =
    let whole : written ≡ little 8 n ++ drop 8 bytes = f ∙ ap (λ z. little 8 n ++ drop 8 z) e in
    let long : length written ≡ len = omega (arith, ap length whole, length-append (little 8 n) (drop 8 bytes), length-bytes_low_first 0 8 n, length-drop 8 bytes, length-batch batch, size) in
    let same = refilled len written bytes long ∙ whole in
    subst (λ z. BatchOf z n items) (sym same) (numbered_again batch n h)

-- twelve zeros are the empty batch at number 0
pub empty_batch : {bytes : List ℕ} → bytes ≡ replicate 12 0 → BatchOf bytes 0 []
unfolding batch_bytes
empty_batch e = record { encoded = e; numbered = omega arith; limited = omega (arith, ap length e) }

-- bytes encode the batch that they are
pub batch_is : {bytes : List ℕ} (read : IsBatch bytes) (batch : Batch) → BatchOf bytes batch.first batch.items → read.0 ≡ batch
batch_is {bytes} read batch encoded = ap (λ z. z.0) (IsBatch-prop bytes read (batch, encoded))

-- the same, by the value that is seen
pub batch_seen : {bytes : List ℕ} (read : IsBatch bytes) {batch : Batch} → read.0 ≡ batch → BatchOf bytes batch.first batch.items
batch_seen {bytes} read e = subst (λ (z : Batch). BatchOf bytes z.first z.items) e read.1

module _ {bytes : List ℕ} {batch : Batch} (read : BatchOf bytes batch.first batch.items) (item : Item) (len : ℕ) (whole : len ≡ length bytes) where
  -- an item that there is no room for makes the batch too long
  pub too_long : (length (change_bytes item) ≤ 2 ^ 30 - len → ⊥) → IsTooLong (with_item batch item)
  too_long h = elim (cases_lt (2 ^ 30 - len) (length (change_bytes item))) [
    | inl more ↦ omega (arith, more, whole, read.limited, length-one_more read item)
    | inr fits ↦ absurd (h fits)
  ]

  -- an item that there is room for doesn't
  pub not_too_long : length (change_bytes item) ≤ 2 ^ 30 - len → IsTooLong (with_item batch item) → ⊥
  not_too_long h long = omega (arith, h, long, whole, read.limited, length-one_more read item)

-- a batch whose bytes were borrowed to count one more item, which comes after the others
pub counted : {bytes grown lent written : List ℕ} {batch : Batch} (len count : ℕ) (item : Item) → BatchOf bytes batch.first batch.items
    → length bytes + length (change_bytes item) ≤ 2 ^ 30 → count ≡ length batch.items → grown ≡ bytes ++ change_bytes item → len ≡ length grown → lent ≡ grown
    → written ≡ take 8 lent ++ (little 4 (count + 1) ++ drop 12 lent) → BatchOf (take len (written ++ drop (length written) grown)) batch.first (batch.items ++ item ∷ [])
counted {bytes} {grown} {lent} {written} {batch} len count item read fits n g size l f =
    let e : lent ≡ bytes ++ change_bytes item = l ∙ g in
    let made = one_more read item fits in
    let whole : written ≡ take 8 (bytes ++ change_bytes item) ++ (little 4 (length batch.items + 1) ++ drop 12 (bytes ++ change_bytes item)) =
    f ∙ ap (λ z. take 8 z ++ (little 4 (count + 1) ++ drop 12 z)) e ∙ ap (λ z. take 8 (bytes ++ change_bytes item) ++ (little 4 (z + 1) ++ drop 12 (bytes ++ change_bytes item))) n in
    let long : length written ≡ len =
    omega (arith, ap length whole, ap length made.encoded, length-one_more read item, ap length g, length-append bytes (change_bytes item), size) in
    subst (λ z. BatchOf z batch.first (batch.items ++ item ∷ [])) (sym (refilled len written grown long ∙ whole)) made

-- out of memory is no wrong argument
pub other_cause : {T : Type 0} (r : Result T Status) → IsErrAnd r IsOutOfMemory → IsErrAnd r (λ status. status.code ≡ InvalidArgument) → ⊥
other_cause (Ok x) h k = absurd h
other_cause (Err e) h k = let a = h.0 in cc

-- what holds anyway holds at an error
pub OnErr-always : {T E P : Type 0} (r : Result T E) → P → OnErr r P
OnErr-always (Ok x) h = tt
OnErr-always (Err e) h = h

-- ---- what reading entries, one after the other, finds

-- a text that is there is no longer than the bytes
length-sized-le : (text more bytes : List ℕ) → bytes ≡ sized text ++ more → length text ≤ length bytes
length-sized-le text more bytes e = omega (arith, ap length e, length-append {A = ℕ})

-- where no key comes after the kind, there is no entry
no_key : (kind : ℕ) (rest : List ℕ) → length rest < 2 ^ 64 → ReadsSized rest None → (key : List ℕ) (value : Option (List ℕ)) (more : List ℕ) → kind ∷ rest ≡ change_encoding key value ++ more → ⊥
no_key kind rest fits none key (Some value) more e =
    let tail : rest ≡ (sized key ++ sized value) ++ more = cc in
    let whole = tail ∙ append_assoc (sized key) (sized value) more in
    none key (sized value ++ more) (omega (arith, fits, length-sized-le key (sized value ++ more) rest whole)) whole
no_key kind rest fits none key None more e =
    let tail : rest ≡ sized key ++ more = cc in
    none key more (omega (arith, fits, length-sized-le key more rest tail)) tail

-- where no value comes after the key, there is no entry that has one
no_value : (key rest after : List ℕ) → length rest < 2 ^ 64 → rest ≡ sized key ++ after → ReadsSized after None → (j : List ℕ) (value : Option (List ℕ)) (more : List ℕ) → 1 ∷ rest ≡ change_encoding j value ++ more → ⊥
no_value key rest after fits front none j (Some value) more e =
    let tail : rest ≡ (sized j ++ sized value) ++ more = cc in
    let whole = tail ∙ append_assoc (sized j) (sized value) more in
    let following = (one_sized key j after (sized value ++ more) (sym front ∙ whole)).1 in
    none value more (omega (arith, fits, ap length front, length-append (sized key) after, length-sized-le value more after following)) following
no_value key rest after fits front none j None more e = cc

-- there are no other kinds
no_kind : (kind : ℕ) (rest : List ℕ) → kind ≢ 0 → kind ≢ 1 → (key : List ℕ) (value : Option (List ℕ)) (more : List ℕ) → kind ∷ rest ≡ change_encoding key value ++ more → ⊥
no_kind kind rest a b key (Some value) more e = let h : kind ≡ 1 = cc in b h
no_kind kind rest a b key None more e = let h : kind ≡ 0 = cc in a h

pub reads_nothing : (bytes : List ℕ) → length bytes ≡ 0 → ReadsChange bytes None
reads_nothing bytes e item more f = omega (arith, e, ap length f, length-append (change_bytes item) more, length-change_bytes-ge item)

pub reads_no_key : {bytes : List ℕ} (kind : ℕ) (rest : List ℕ) → bytes ≡ kind ∷ rest → length rest < 2 ^ 64 → ReadsSized rest None → ReadsChange bytes None
unfolding change_bytes
reads_no_key kind rest e fits none item more f = no_key kind rest fits none item.key item.value more (sym e ∙ f)

pub reads_no_value : {bytes : List ℕ} (kind : ℕ) (rest key after : List ℕ) → bytes ≡ kind ∷ rest → length rest < 2 ^ 64 → rest ≡ sized key ++ after → kind ≡ 1 → ReadsSized after None → ReadsChange bytes None
unfolding change_bytes
reads_no_value kind rest key after e fits front one none item more f =
    no_value key rest after fits front none item.key item.value more (ap (λ z. z ∷ rest) (sym one) ∙ sym e ∙ f)

pub reads_no_kind : {bytes : List ℕ} (kind : ℕ) (rest : List ℕ) → bytes ≡ kind ∷ rest → kind ≢ 0 → kind ≢ 1 → ReadsChange bytes None
unfolding change_bytes
reads_no_kind kind rest e a b item more f = no_kind kind rest a b item.key item.value more (sym e ∙ f)

pub reads_deletion : {bytes : List ℕ} (kind : ℕ) (rest key after : List ℕ) → bytes ≡ kind ∷ rest → rest ≡ sized key ++ after → kind ≡ 0 → ReadsChange bytes (Some (item_of key None, after))
unfolding change_bytes
reads_deletion kind rest key after e front zero = e ∙ ap (λ z. z ∷ rest) zero ∙ ap (λ z. 0 ∷ z) front

pub reads_value : {bytes : List ℕ} (kind : ℕ) (rest key following value after : List ℕ) → bytes ≡ kind ∷ rest → rest ≡ sized key ++ following → kind ≡ 1 → following ≡ sized value ++ after → ReadsChange bytes (Some (item_of key (Some value), after))
unfolding change_bytes
reads_value kind rest key following value after e front one back =
    e ∙ ap (λ z. z ∷ rest) one ∙ ap (λ z. 1 ∷ z) (front ∙ ap (λ z. sized key ++ z) back ∙ sym (append_assoc (sized key) (sized value) after))

-- entries that begin with these go on with others
after_entries : (done items : List Item) (rest : List ℕ) → flat_map change_bytes done ++ rest ≡ flat_map change_bytes items → (more : List Item) × (rest ≡ flat_map change_bytes more)
after_entries [] items rest e = (items, e)
after_entries (item ∷ done) [] rest e =
    let empty = ap length e in
    absurd (omega (arith, empty, length-append (change_bytes item ++ flat_map change_bytes done) rest, length-append (change_bytes item) (flat_map change_bytes done), length-change_bytes-ge item))
after_entries (item ∷ done) (first ∷ items) rest e =
    after_entries done items rest (one_entry item first _ _ (sym (append_assoc (change_bytes item) (flat_map change_bytes done) rest) ∙ e)).1

no_more : {rest : List ℕ} (more : List Item) → rest ≡ flat_map change_bytes more → 0 < length rest → ReadsChange rest None → ⊥
no_more [] e some none = omega (arith, ap length e, some)
no_more (item ∷ more) e some none = none item (flat_map change_bytes more) e

-- so many entries have been read, and the rest is left
pub record HasRead (bytes rest : List ℕ) (count : ℕ) : Type 0 where
  pub done : List Item
  pub front : bytes ≡ flat_map change_bytes done ++ rest
  pub counted : length done ≡ count

module _ {bytes rest : List ℕ} {count : ℕ} (read : HasRead bytes rest count) where
  pub count_within : 2 * count + length rest ≤ length bytes
  count_within = omega (arith, read.counted, ap length read.front, length-append (flat_map change_bytes read.done) rest, length-entries-ge read.done)

  -- one more entry
  pub read_more : (item : Item) (others : List ℕ) → rest ≡ change_bytes item ++ others → HasRead bytes others (count + 1)
  read_more item others e = record {
    done = read.done ++ item ∷ [];
    front = read.front ∙ ap (λ z. flat_map change_bytes read.done ++ z) e ∙ sym (append_assoc (flat_map change_bytes read.done) (change_bytes item) others)
        ∙ ap (λ z. z ++ others) (sym (flat_map-append change_bytes read.done (item ∷ []) ∙ ap (λ z. flat_map change_bytes read.done ++ z) (append-nil (change_bytes item))));
    counted = length-append read.done (item ∷ []) ∙ ap (λ z. z + 1) read.counted;
  }

  -- something is left that doesn't begin with an entry
  pub counts_none : 0 < length rest → ReadsChange rest None → CountsChanges bytes None
  counts_none some none items e =
      let more = after_entries read.done items rest (sym read.front ∙ e) in
      no_more more.0 more.1 some none

pub shorter : {rest : List ℕ} (item : Item) (others : List ℕ) → rest ≡ change_bytes item ++ others → length others < length rest
shorter item others e = omega (arith, ap length e, length-append (change_bytes item) others, length-change_bytes-ge item)

-- bytes with a header are the numbers that it says, and what comes after it
header_again : (bytes : List ℕ) → 12 ≤ length bytes → All (λ b. b < 256) bytes → bytes ≡ little 8 (little_number 8 bytes) ++ (little 4 (little_number 4 (drop 8 bytes)) ++ drop 12 bytes)
header_again bytes long small =
    sym (take-append-drop 8 bytes)
    ∙ ap (λ z. take 8 bytes ++ z) (drop_split bytes 8 12 (omega arith))
    ∙ ap (λ z. z ++ (take 4 (drop 8 bytes) ++ drop 12 bytes)) (sym (little-little_number 8 bytes (omega (arith, long)) small))
    ∙ ap (λ z. little 8 (little_number 8 bytes) ++ (z ++ drop 12 bytes))
    (sym (little-little_number 4 (drop 8 bytes) (omega (arith, long, length-drop 8 bytes)) (All-drop (λ b. b < 256) 8 bytes small)))

-- where entries come after the header, as many as it counts, the bytes are a batch
batch_by_count : (bytes : List ℕ) → 12 ≤ length bytes → length bytes ≤ 2 ^ 30 → ((i : ℕ) → get_or bytes i 0 < 256)
    → CountsChanges (drop 12 bytes) (Some (little_number 4 (drop 8 bytes))) → IsBatch bytes
unfolding batch_bytes
batch_by_count bytes long short small h =
    let each = All-from_get_or (λ b. b < 256) bytes 0 (λ i _. small i) in (
      batch_of (little_number 8 bytes) h.0,
      record {
        encoded = header_again bytes long each ∙ ap (λ z. little 8 (little_number 8 bytes) ++ (little 4 (little_number 4 (drop 8 bytes)) ++ z)) h.1
            ∙ ap (λ z. little 8 (little_number 8 bytes) ++ (little 4 z ++ flat_map change_bytes h.0)) (sym h.2);
        numbered = little_from-lt 0 8 bytes small;
        limited = short;
      },
    )

-- a batch's entries are counted right
count_by_batch : {bytes : List ℕ} (read : IsBatch bytes) (r : Option ℕ) → CountsChanges (drop 12 bytes) r → r ≡ Some (little_number 4 (drop 8 bytes))
count_by_batch read None h = absurd (h read.0.items (entries_there read.1))
count_by_batch read (Some count) h =
    ap (λ z. Some z) (sym h.2 ∙ ap (λ z. length z) (one_list h.0 read.0.items (sym h.1 ∙ entries_there read.1)) ∙ sym (count_there read.1))

same_some : (r : Option ℕ) (n : ℕ) → IsTrue (option_eq eqb r (Some n)) → r ≡ Some n
same_some None n h = cc
same_some (Some m) n h = ap (λ z. Some z) (eqb-true m n h)

-- the test of a batch
pub batch_tested : (bytes : List ℕ) (r : Option ℕ) (n : ℕ) → 12 ≤ length bytes → length bytes ≤ 2 ^ 30 → ((i : ℕ) → get_or bytes i 0 < 256)
    → CountsChanges (drop 12 bytes) r → n ≡ little_number 4 (drop 8 bytes) → IsTrue (option_eq eqb r (Some n)) ↔ IsBatch bytes
batch_tested bytes r n long short small h e = (
  λ t. batch_by_count bytes long short small (subst (λ z. CountsChanges (drop 12 bytes) z) (same_some r n t ∙ ap (λ z. Some z) e) h),
  λ read. subst (λ z. IsTrue (option_eq eqb z (Some n))) (sym (count_by_batch read r h ∙ ap (λ z. Some z) (sym e))) (eq-eqb n n refl),
)

-- bytes of another length are no batch
pub batch_fits : {bytes : List ℕ} → IsBatch bytes → (12 ≤ length bytes) × (length bytes ≤ 2 ^ 30)
batch_fits read = (omega (arith, length-batch read.1), read.1.limited)

-- the bytes of entries, by the value that is seen
pub entries_seen : {bytes : List ℕ} (read : AreChanges bytes) {items : List Item} → read.0 ≡ items → bytes ≡ flat_map change_bytes items
entries_seen read e = read.1 ∙ ap (λ z. flat_map change_bytes z) e

-- bytes encode the entries that they are
pub entries_are : {bytes : List ℕ} (read : AreChanges bytes) (items : List Item) → bytes ≡ flat_map change_bytes items → read.0 ≡ items
entries_are {bytes} read items e = ap (λ z. z.0) (AreChanges-prop bytes read (items, e))

pub entries_counted : {bytes : List ℕ} (read : AreChanges bytes) (items : List Item) → bytes ≡ flat_map change_bytes items → length items < 2 ^ 32 → length read.0 < 2 ^ 32
entries_counted read items e fits = omega (arith, ap length (entries_are read items e), fits)

-- where no entry is read, none is left
pub none_left : {bytes : List ℕ} (items : List Item) → bytes ≡ flat_map change_bytes items → ReadsChange bytes None → items ≡ []
none_left [] e none = refl
none_left (item ∷ items) e none = absurd (none item (flat_map change_bytes items) e)

-- the entry that is read is the first, and what follows it are the others
pub first_left : {bytes : List ℕ} (items : List Item) → bytes ≡ flat_map change_bytes items → (item : Item) (others : List ℕ) → bytes ≡ change_bytes item ++ others
    → (more : List Item) × (others ≡ flat_map change_bytes more) × (items ≡ item ∷ more)
first_left [] e item others f = absurd (omega (arith, ap length (sym e ∙ f), length-append (change_bytes item) others, length-change_bytes-ge item))
first_left (first ∷ items) e item others f =
    let same = one_entry first item (flat_map change_bytes items) others (sym e ∙ f) in
    (items, sym same.1, ap (λ z. z ∷ items) same.0)

-- the others are what an iterator over what follows encodes
pub others_left : {others : List ℕ} {items more : List Item} {item : Item} → items ≡ item ∷ more → others ≡ flat_map change_bytes more → (read : AreChanges others) → items ≡ item ∷ read.0
others_left {others} {items} {more} {item} e f read = e ∙ ap (λ z. item ∷ z) (sym (entries_are read more f))

pub length-others_left : {others : List ℕ} {items more : List Item} {item : Item} → items ≡ item ∷ more → others ≡ flat_map change_bytes more → (read : AreChanges others) → length read.0 < length items
length-others_left {others} {items} {more} {item} e f read = let left = others_left e f read in omega (arith, ap length left)
