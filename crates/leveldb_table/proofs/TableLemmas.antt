-- Where blocks are in a file: one handle has one stored block.
use Rattle.std.proofs.Common.{◌≡◌, ℕ, ◌+◌, List, [], ◌∷◌, ◌++◌, Some, length, get_or, take, drop, refl, sym, ◌∙◌, ap, arith, append_assoc, length-append, ◌≢◌, Bool, true, ◌<◌, ◌≤◌, Result, Ok, Err, inl, inr}
use Rattle.std.proofs.lemmas.List.{length-drop, length-take, length-take-le, take-append-drop, take_at, take_more, get_or_at, drop_at}
use Rattle.std.specs.List.{AllByRecursion}
use Rattle.std.specs.declared.cmp.Ordering.{Ordering}
use Rattle.std.specs.declared.cmp.Ordering.TheVariants.{Less, Equal, Greater}
use Rattle.std.specs.Ordering.{ordering_reverse}
use Rattle.std.proofs.Math.Nat.{eq-or-lt_of_le}
use Rattle.std.specs.Prelude.{OnOk, OnErr, IfErr, IsOk}
use Rattle.leveldb_base.specs.Crc.{crc_of, masked}
use Rattle.leveldb_base.specs.BlockHandle.{Handle, HandleFits}
use Rattle.leveldb_base.specs.Varint.{little}
use Rattle.leveldb_base.specs.Cmp.{IsPreorderOn, IsSeparator}
use Rattle.leveldb_base.specs.CmpLaws.{alike_right}
use Rattle.leveldb_base.specs.Types.{Pair}
use Rattle.leveldb_env.specs.Compressor.{Codings, Decodes, decoded_by}
use Rattle.leveldb_table.specs.Table.{StoresAt, HasBlockAt, with_trailer}
use Rattle.leveldb_table.specs.Block.{RiseAfter, KeysRise}
use Rattle.leveldb_table.specs.BlockBuilder.{last_added}

-- ---- a block and its trailer

-- the checksum that is put after a text
abbrev pub sum_of : List ℕ → List ℕ
sum_of text = little 4 (masked (crc_of text))

-- the checksum is after the block and the id
trailer_is : (id : ℕ) (stored : List ℕ) → with_trailer id stored ≡ (stored ++ id ∷ []) ++ sum_of (stored ++ id ∷ [])
trailer_is id stored = sym (append_assoc stored (id ∷ []) (sum_of (stored ++ id ∷ [])))

pub length-with_trailer : (id : ℕ) (stored : List ℕ) → length (with_trailer id stored) ≡ length stored + 5
length-with_trailer id stored = length-append stored (id ∷ sum_of (stored ++ id ∷ []))

-- in what a block with its trailer is, the checksum is right
pub right_sum : (bytes : List ℕ) (size id : ℕ) (stored : List ℕ) → length stored ≡ size → bytes ≡ with_trailer id stored → drop (size + 1) bytes ≡ sum_of (take (size + 1) bytes)
right_sum bytes size id stored long is =
    let text = stored ++ id ∷ [] in
    let whole = is ∙ trailer_is id stored in
    let count : length text ≡ size + 1 = omega (arith, length-append stored (id ∷ []), long) in
    ap (drop (size + 1)) whole ∙ drop_at text (sum_of text) (size + 1) count
    ∙ ap sum_of (sym (ap (take (size + 1)) whole ∙ take_at text (sum_of text) (size + 1) count))

-- and where it is right, they are a block with its trailer
pub trailer_from : (bytes : List ℕ) (size : ℕ) → length bytes ≡ size + 5 → drop (size + 1) bytes ≡ sum_of (take (size + 1) bytes) → bytes ≡ with_trailer (get_or bytes size 0) (take size bytes)
trailer_from bytes size long right =
    let text = take_more bytes size 0 (omega (arith, long)) in
    sym (take-append-drop (size + 1) bytes) ∙ ap (λ z. take (size + 1) bytes ++ z) right ∙ ap (λ z. z ++ sum_of z) text
    ∙ sym (trailer_is (get_or bytes size 0) (take size bytes))

-- a block and its id are known by the two with their trailer
pub one_trailer : (id other : ℕ) (stored found : List ℕ) → length stored ≡ length found → with_trailer id stored ≡ with_trailer other found → (id ≡ other) × (stored ≡ found)
one_trailer id other stored found same e =
    let sum = sum_of (stored ++ id ∷ []) in
    let after = sum_of (found ++ other ∷ []) in
    let first : get_or (with_trailer id stored) (length stored) 0 ≡ id = get_or_at stored id sum 0 (length stored) refl in
    let second : get_or (with_trailer other found) (length stored) 0 ≡ other = get_or_at found other after 0 (length stored) (sym same) in (
      sym first ∙ ap (λ z. get_or z (length stored) 0) e ∙ second,
      sym (take_at stored (id ∷ sum) (length stored) refl) ∙ ap (take (length stored)) e ∙ take_at found (other ∷ after) (length stored) (sym same),
    )

-- ---- at a handle

-- what was read of the file at the handle
pub read_as : (bytes : List ℕ) (handle : Handle) {read : List ℕ} {start size total : ℕ} → read ≡ take total (drop start bytes) → start ≡ handle.offset → size ≡ handle.size → total ≡ size + 5
    → read ≡ take (handle.size + 5) (drop handle.offset bytes)
read_as bytes handle {total = total} is position size whole =
    is ∙ ap (λ n. take total (drop n bytes)) position ∙ ap (λ n. take n (drop handle.offset bytes)) (whole ∙ ap (λ n. n + 5) size)

-- the file's bytes at the handle
pub is_there_as : {file : List ℕ} {handle : Handle} {id : ℕ} {stored : List ℕ} → StoresAt file handle id stored → take (handle.size + 5) (drop handle.offset file) ≡ with_trailer id stored
is_there_as {file} {handle} {id} {stored} there =
    let count : length (with_trailer id stored) ≡ handle.size + 5 = omega (arith, length-with_trailer id stored, there.size) in
    ap (λ z. take (handle.size + 5) (drop handle.offset z)) there.whole
    ∙ ap (take (handle.size + 5)) (drop_at there.before (with_trailer id stored ++ there.after) handle.offset there.offset)
    ∙ take_at (with_trailer id stored) there.after (handle.size + 5) count

-- what is at a position is stored at the handle of it
pub stores_from : (file : List ℕ) (handle : Handle) (id : ℕ) (stored : List ℕ) → HandleFits handle → length stored ≡ handle.size → take (handle.size + 5) (drop handle.offset file) ≡ with_trailer id stored → StoresAt file handle id stored
stores_from file handle id stored fits size is =
    let count : length (take (handle.size + 5) (drop handle.offset file)) ≡ handle.size + 5 = omega (arith, ap length is, length-with_trailer id stored, size) in
    record {
      before = take handle.offset file;
      after = drop (handle.size + 5) (drop handle.offset file);
      whole =
          sym (take-append-drop handle.offset file)
          ∙ ap (λ z. take handle.offset file ++ z) (sym (take-append-drop (handle.size + 5) (drop handle.offset file)) ∙ ap (λ z. z ++ drop (handle.size + 5) (drop handle.offset file)) is);
      offset = length-take-le handle.offset file (omega (arith, count, length-take (handle.size + 5) (drop handle.offset file), length-drop handle.offset file));
      size = size;
      fits = fits;
    }

-- one handle has one id and one stored block
pub stores_one : {file : List ℕ} {handle : Handle} {id other : ℕ} {stored found : List ℕ} → StoresAt file handle id stored → StoresAt file handle other found → (id ≡ other) × (stored ≡ found)
stores_one {id = id} {other = other} {stored = stored} {found = found} first second =
    one_trailer id other stored found (first.size ∙ sym second.size) (sym (is_there_as first) ∙ is_there_as second)

-- and one block, under codings that are known
pub has_one_block : (codings : Codings) {file : List ℕ} {handle : Handle} {text other : List ℕ} → HasBlockAt (Decodes codings) file handle text → HasBlockAt (Decodes codings) file handle other → text ≡ other
has_one_block codings {text = text} {other = other} first second =
    let same = stores_one first.is_there second.is_there in
    let e : Some text ≡ Some other =
    sym first.decoded ∙ ap (λ z. decoded_by codings z first.stored) same.0 ∙ ap (decoded_by codings second.id) same.1 ∙ second.decoded in
    cc

-- Keys that rise, with one more key or with a separator instead of some.

-- ---- facts of each element

pub all_append : {X : Type 0} (P : X → Type 0) (xs ys : List X) → AllByRecursion P xs → AllByRecursion P ys → AllByRecursion P (xs ++ ys)
all_append P [] ys h k = k
all_append P (x ∷ xs) ys h k = (h.0, all_append P xs ys h.1 k)

pub all_left : {X : Type 0} (P : X → Type 0) (xs ys : List X) → AllByRecursion P (xs ++ ys) → AllByRecursion P xs
all_left P [] ys h = tt
all_left P (x ∷ xs) ys h = (h.0, all_left P xs ys h.1)

pub all_right : {X : Type 0} (P : X → Type 0) (xs ys : List X) → AllByRecursion P (xs ++ ys) → AllByRecursion P ys
all_right P [] ys h = h
all_right P (x ∷ xs) ys h = all_right P xs ys h.1

pub all_with : {X : Type 0} (P Q : X → Type 0) → ((x : X) → P x → Q x) → (xs : List X) → AllByRecursion P xs → AllByRecursion Q xs
all_with P Q f [] h = tt
all_with P Q f (x ∷ xs) h = (f x h.0, all_with P Q f xs h.1)

-- ---- the last key

pub last_after : (xs : List Pair) (first : Pair) (ys : List Pair) → last_added (xs ++ first ∷ ys) ≡ last_added (first ∷ ys)
last_after [] first ys = refl
last_after (x ∷ []) first ys = refl
last_after (x ∷ y ∷ xs) first ys = last_after (y ∷ xs) first ys

pub last_pushed : (xs : List Pair) (pair : Pair) → last_added (xs ++ pair ∷ []) ≡ pair.0
last_pushed xs pair = last_after xs pair []

pub last_holds : (P : List ℕ → Type 0) (first : Pair) (pairs : List Pair) → AllByRecursion (λ pair. P pair.0) (first ∷ pairs) → P (last_added (first ∷ pairs))
last_holds P first [] h = h.0
last_holds P first (next ∷ pairs) h = last_holds P next pairs h.1

-- ---- one more key

push_after : (cmp : List ℕ → List ℕ → Ordering) (first : Pair) (pairs : List Pair) (pair : Pair) → RiseAfter cmp (Some first.0) pairs → cmp (last_added (first ∷ pairs)) pair.0 ≡ Less
    → RiseAfter cmp (Some first.0) (pairs ++ pair ∷ [])
push_after cmp first [] pair h e = (e, tt)
push_after cmp first (next ∷ pairs) pair h e = (h.0, push_after cmp next pairs pair h.1 e)

some_of : (first : Pair) (pairs : List Pair) → first ∷ pairs ≢ []
some_of first pairs e = cc

pub rise_push : (cmp : List ℕ → List ℕ → Ordering) (pairs : List Pair) (pair : Pair) → KeysRise cmp pairs → (pairs ≢ [] → cmp (last_added pairs) pair.0 ≡ Less) → KeysRise cmp (pairs ++ pair ∷ [])
rise_push cmp [] pair h e = tt
rise_push cmp (first ∷ pairs) pair h e = push_after cmp first pairs pair h (e (some_of first pairs))

rise_after : (cmp : List ℕ → List ℕ → Ordering) (key : List ℕ) (pairs : List Pair) → RiseAfter cmp (Some key) pairs → KeysRise cmp pairs
rise_after cmp key [] h = tt
rise_after cmp key (first ∷ pairs) h = h.1

pub rise_right : (cmp : List ℕ → List ℕ → Ordering) (xs ys : List Pair) → KeysRise cmp (xs ++ ys) → KeysRise cmp ys
rise_right cmp [] ys h = h
rise_right cmp (x ∷ xs) ys h = rise_right cmp xs ys (rise_after cmp x.0 (xs ++ ys) h)

-- ---- a separator

module _ {accepts : List ℕ → Bool} {cmp : List ℕ → List ℕ → Ordering} (order : IsPreorderOn accepts cmp) where
  less_by : (a b c : List ℕ) → accepts a ≡ true → accepts b ≡ true → accepts c ≡ true → cmp a b ≡ Less → cmp b c ≢ Greater → (o : Ordering) → cmp b c ≡ o → cmp a c ≡ Less
  less_by a b c ha hb hc e h Less f = order.less a b c ha hb hc e f
  less_by a b c ha hb hc e h Equal f = alike_right order a b c ha hb hc f ∙ e
  less_by a b c ha hb hc e h Greater f = absurd (h f)

  -- before a key that is at or before another
  pub less_then : (a b c : List ℕ) → accepts a ≡ true → accepts b ≡ true → accepts c ≡ true → cmp a b ≡ Less → cmp b c ≢ Greater → cmp a c ≡ Less
  less_then a b c ha hb hc e h = less_by a b c ha hb hc e h (cmp b c) refl

  first_by : (a b c : List ℕ) → accepts a ≡ true → accepts b ≡ true → accepts c ≡ true → cmp a b ≢ Greater → cmp b c ≡ Less → (o : Ordering) → cmp a b ≡ o → cmp a c ≡ Less
  first_by a b c ha hb hc h e Less f = order.less a b c ha hb hc f e
  first_by a b c ha hb hc h e Equal f = order.alike a b c ha hb hc f ∙ e
  first_by a b c ha hb hc h e Greater f = absurd (h f)

  -- at or before a key that is before another
  pub then_less : (a b c : List ℕ) → accepts a ≡ true → accepts b ≡ true → accepts c ≡ true → cmp a b ≢ Greater → cmp b c ≡ Less → cmp a c ≡ Less
  then_less a b c ha hb hc h e = first_by a b c ha hb hc h e (cmp a b) refl

  turn_by : (o : Ordering) → o ≢ Less → ordering_reverse o ≡ Greater → ⊥
  turn_by Less h e = h refl
  turn_by Equal h e = cc
  turn_by Greater h e = cc

  -- what isn't before a key has that key at or before it
  pub turned_from : (a b : List ℕ) → accepts a ≡ true → accepts b ≡ true → cmp b a ≢ Less → cmp a b ≢ Greater
  turned_from a b ha hb h e = turn_by (cmp b a) h (sym (order.turned a b ha hb) ∙ e)

  -- a key is before the last of those that rise after it
  pub reaches : (key : List ℕ) (first : Pair) (pairs : List Pair) → accepts key ≡ true → AllByRecursion (λ pair. accepts pair.0 ≡ true) (first ∷ pairs) → RiseAfter cmp (Some key) (first ∷ pairs)
      → cmp key (last_added (first ∷ pairs)) ≡ Less
  reaches key first [] hk all h = h.0
  reaches key first (next ∷ pairs) hk all h =
      order.less key first.0 (last_added (next ∷ pairs)) hk all.0 (last_holds (λ k. accepts k ≡ true) next pairs all.1) h.0 (reaches first.0 next pairs all.0 all.1 h.1)

  line_after : (key : List ℕ) (lines : List Pair) (first : Pair) (pairs : List Pair) (line : Pair) → accepts key ≡ true → accepts line.0 ≡ true → AllByRecursion (λ pair. accepts pair.0 ≡ true) (lines ++ first ∷ pairs)
      → RiseAfter cmp (Some key) (lines ++ first ∷ pairs) → cmp (last_added (first ∷ pairs)) line.0 ≢ Greater → RiseAfter cmp (Some key) (lines ++ line ∷ [])
  line_after key [] first pairs line hk hl all h e =
      (less_then key (last_added (first ∷ pairs)) line.0 hk (last_holds (λ k. accepts k ≡ true) first pairs all) hl (reaches key first pairs hk all h) e, tt)
  line_after key (other ∷ lines) first pairs line hk hl all h e = (h.0, line_after other.0 lines first pairs line all.0 hl all.1 h.1 e)

  -- a key at or after the last of some keys may be instead of them
  pub line_rises : (lines : List Pair) (first : Pair) (pairs : List Pair) (line : Pair) → accepts line.0 ≡ true → AllByRecursion (λ pair. accepts pair.0 ≡ true) (lines ++ first ∷ pairs)
      → KeysRise cmp (lines ++ first ∷ pairs) → cmp (last_added (first ∷ pairs)) line.0 ≢ Greater → KeysRise cmp (lines ++ line ∷ [])
  line_rises [] first pairs line hl all h e = tt
  line_rises (other ∷ lines) first pairs line hl all h e = line_after other.0 lines first pairs line all.0 hl all.1 h e

-- The steps of a table builder: a block that is closed, and a pair that is added.

-- ---- returns

pub IfErr-with : {T E : Type 0} (result : Result T E) (P Q : E → Type 0) → ((error : E) → P error → Q error) → IfErr result P → IfErr result Q
IfErr-with (Ok value) P Q f h = tt
IfErr-with (Err error) P Q f h = f error h

-- what is refused only where one number is below another
pub IfErr-below : {T E : Type 0} (result : Result T E) (P Q : E → Type 0) (few many : ℕ) → few ≤ many → (many ≡ few → IsOk result) → (few < many → (error : E) → P error → Q error) → IfErr result P → IfErr result Q
IfErr-below (Ok value) P Q few many within none f h = tt
IfErr-below (Err error) P Q few many within none f h = elim (eq-or-lt_of_le within) [ inl same ↦ let clash = none (sym same) in cc | inr below ↦ f below error h ]

pub OnErr-with : {T E : Type 0} (result : Result T E) (P : E → Type 0) (Q : Type 0) → ((error : E) → P error → Q) → IfErr result P → OnErr result Q
OnErr-with (Ok value) P Q f h = tt
OnErr-with (Err error) P Q f h = f error h

pub OnOk-with : {T E : Type 0} (result : Result T E) (P Q : Type 0) → (P → Q) → OnOk result P → OnOk result Q
OnOk-with (Ok value) P Q f h = f h
OnOk-with (Err error) P Q f h = tt

pub OnOk-both : {T E : Type 0} (result : Result T E) (P Q R : Type 0) → (P → Q → R) → OnOk result P → OnOk result Q → OnOk result R
OnOk-both (Ok value) P Q R f h k = f h k
OnOk-both (Err error) P Q R f h k = tt

-- ---- a block is closed

module _ {accepts : List ℕ → Bool} {cmp : List ℕ → List ℕ → Ordering} (order : IsPreorderOn accepts cmp) (sep : List ℕ → List ℕ → List ℕ)
    (separates : (a b : List ℕ) → accepts a ≡ true → accepts b ≡ true → cmp a b ≢ Greater → IsSeparator accepts cmp a b (sep a b)) where
  -- the line of an open block rises after the others
  pub record IsLine (lines open_pairs : List Pair) (next value : List ℕ) : Type 0 where
    pub rise : KeysRise cmp (lines ++ (sep (last_added open_pairs) next, value) ∷ [])
    pub accepted : AllByRecursion (λ pair. accepts pair.0 ≡ true) (lines ++ (sep (last_added open_pairs) next, value) ∷ [])
    pub before : cmp (last_added open_pairs) next ≡ Less → cmp (sep (last_added open_pairs) next) next ≡ Less

  pub is_line : (lines open_pairs : List Pair) (next value : List ℕ) → open_pairs ≢ [] → KeysRise cmp (lines ++ open_pairs) → AllByRecursion (λ pair. accepts pair.0 ≡ true) (lines ++ open_pairs)
      → accepts next ≡ true → cmp (last_added open_pairs) next ≢ Greater → IsLine lines open_pairs next value
  is_line lines [] next value some rise all hn after = absurd (some refl)
  is_line lines (first ∷ pairs) next value some rise all hn after =
      let P : Pair → Type 0 = λ pair. accepts pair.0 ≡ true in
      let last = last_added (first ∷ pairs) in
      let ha = last_holds (λ k. accepts k ≡ true) first pairs (all_right P lines (first ∷ pairs) all) in
      let between = separates last next ha hn after in
      record {
        rise = line_rises order lines first pairs (sep last next, value) between.accepted all rise (turned_from order last (sep last next) ha between.accepted between.from);
        accepted = all_append P lines ((sep last next, value) ∷ []) (all_left P lines (first ∷ pairs) all) (between.accepted, tt);
        before = between.before;
      }
