-- What is left out of a log's bytes, fragment by fragment.
use Rattle.std.specs.Prelude.{IfNone, IsTrue, Option, None, Some, not, if◌then◌else◌, slice_index}
use Rattle.std.specs.List.{concat}
use Rattle.std.proofs.Common.{◌≡◌, ◌≢◌, ◌∙◌, ◌⊎◌, ◌↔◌, ◌==◌, ◌||◌, inl, inr, ⊎_elim, nat_le, Bool, ◌≤◌, ◌<◌, ◌+◌, ◌*◌, ◌-◌, ◌%◌, ℕ, List, [], ◌∷◌, ◌++◌, length, take, drop, replicate, ap, append_assoc, arith, length-append, refl, subst, sym, false, true}
use Rattle.std.specs.List.{All}
use Rattle.std.proofs.Math.Seq.{take-add, take-append_seam}
use Rattle.std.proofs.lemmas.List.{append_cancel_left, drop_all, length-replicate, length-take-le, take-append-drop}
use Rattle.std.proofs.lemmas.List.Elements.{All-head, All-replicate, All-same, All-tail}
use Rattle.std.proofs.lemmas.Bool.{eqb-true, leb-false, leb-true}
use Rattle.leveldb_base.specs.Crc.{crc_of, masked}
use Rattle.leveldb_base.specs.Varint.{little}
use Rattle.leveldb_mem.proofs.FragmentLemmas.{filler-ends, filler-fits, headed_fragment, length-checksum, length-fragment, none_cut_short, none_past_block, none_short, none_unfilled, one_fragment, unchecked}
use Rattle.leveldb_mem.specs.Log.{AreFragments, Fragment, IsFragment, NoFragment, checksum, filler, fragment_bytes, fragment_of, log_block_size, offset_after, room}
use Rattle.leveldb_mem.specs.Log.Taking.{HasRightChecksum, declared_length}
use Rattle.leveldb_store.proofs.Logs.PlacedFragmentsLemmas.{begun_placed, concat_more, continue_then, log_placed, placed_then, records_placed, whole_more, within_placed}
use Rattle.leveldb_store.specs.Logs.Damage.{AreWholeUpTo, ContinuesRecord, EndsRecord, HasBegun, HasEndFrom, IsHeaded, IsOfKind, IsWholeFront, LosesRecords, NoneContinues, NoneGoesOn, StartsWithEnd, parts_after}

abbrev block : ℕ
block = log_block_size

fits : block ≤ 32768
fits = omega arith

-- ---- filler

-- zeros alone are as many zeros
zeros_are : (bytes : List ℕ) → All (λ byte. byte ≡ 0) bytes → bytes ≡ replicate (length bytes) 0
zeros_are [] zeros = refl
zeros_are (byte ∷ bytes) zeros =
    let rest = zeros_are bytes (All-tail (λ z. z ≡ 0) byte bytes zeros) in
    ap (λ b. b ∷ bytes) (All-head (λ z. z ≡ 0) byte bytes zeros) ∙ ap (λ bs. 0 ∷ bs) rest

module _ (offset : ℕ) (narrow : block - offset < 7) where
  length-filler : length (filler block offset) ≡ block - offset
  length-filler = ap length (filler-ends block offset narrow) ∙ length-replicate (block - offset) 0

  -- fewer bytes than the filler
  pub none_in_filler : (bytes : List ℕ) → length bytes < block - offset → NoFragment false block offset bytes
  none_in_filler bytes few = none_short false block offset bytes (let long = length-filler in omega arith)

  -- other bytes than zeros
  pub none_after_others : (before rest bytes : List ℕ) → bytes ≡ before ++ rest → length before ≡ block - offset
      → (All (λ byte. byte ≡ 0) before → ⊥) → NoFragment false block offset bytes
  none_after_others before rest bytes is count other = subst (NoFragment false block offset) (sym is)
      (none_unfilled false block offset before rest (count ∙ sym length-filler)
      (λ e. other (All-same (λ z. z ≡ 0) before (replicate (block - offset) 0) (e ∙ filler-ends block offset narrow)
      (All-replicate (λ z. z ≡ 0) (block - offset) 0 refl))))

  -- zeros
  pub after_zeros : (before rest bytes : List ℕ) → bytes ≡ before ++ rest → length before ≡ block - offset
      → All (λ byte. byte ≡ 0) before → bytes ≡ filler block offset ++ rest
  after_zeros before rest bytes is count zeros = is ∙ ap (λ z. z ++ rest)
      (zeros_are before zeros ∙ ap (λ n. replicate n 0) count ∙ sym (filler-ends block offset narrow))

-- there is no filler
pub after_nothing : (offset : ℕ) → 7 ≤ block - offset → (bytes : List ℕ) → bytes ≡ filler block offset ++ bytes
after_nothing offset wide bytes = ap (λ z. z ++ bytes) (sym (filler-fits block offset wide))

-- ---- a header

pub none_headless : (offset : ℕ) (body : List ℕ) → length body < 7 → NoFragment false block offset (filler block offset ++ body)
none_headless offset body few = none_short false block offset (filler block offset ++ body)
    (let both = length-append (filler block offset) body in omega arith)

pub none_past : (offset : ℕ) (body : List ℕ) → 7 ≤ length body → room block offset < declared_length body
    → NoFragment false block offset (filler block offset ++ body)
none_past offset (a ∷ b ∷ c ∷ d ∷ low ∷ high ∷ type ∷ part) long past =
    none_past_block block offset (a ∷ b ∷ c ∷ d ∷ []) part low high type false fits refl past
none_past offset body long past = absurd (omega arith)

pub none_cut : (offset : ℕ) (body : List ℕ) → 7 ≤ length body → length body < 7 + declared_length body
    → NoFragment false block offset (filler block offset ++ body)
none_cut offset (a ∷ b ∷ c ∷ d ∷ low ∷ high ∷ type ∷ part) long few =
    none_cut_short block offset (a ∷ b ∷ c ∷ d ∷ []) part low high type false fits refl (omega (arith, few))
none_cut offset body long few = absurd (omega arith)

pub headed_by : (offset : ℕ) (body fragment more : List ℕ) → body ≡ fragment ++ more → length fragment ≡ 7 + declared_length body
    → slice_index body 4 < 256 → slice_index body 5 < 256 → declared_length body ≤ room block offset → IsHeaded offset body fragment
headed_by offset body (a ∷ b ∷ c ∷ d ∷ low ∷ high ∷ type ∷ part) more is count low_byte high_byte within =
    let low_is : slice_index body 4 ≡ low = ap (λ z. slice_index z 4) is in
    let high_is : slice_index body 5 ≡ high = ap (λ z. slice_index z 5) is in
    let counted : length part ≡ low + 256 * high = omega (arith, count, low_is, high_is) in
    record {
      header = fragment_of type part;
      more = more;
      bytes_are = is;
      unchecked = headed_fragment block offset (a ∷ b ∷ c ∷ d ∷ []) part low high type false counted
          (subst (λ n. n < 256) low_is low_byte) (subst (λ n. n < 256) high_is high_byte)
          (omega (arith, counted, within, low_is, high_is)) refl;
    }
headed_by offset body fragment more is count low_byte high_byte within = absurd (omega arith)

-- what holds in each case holds where there is none
pub if_none : {X P : Type 0} (found : Option X) → P → IfNone found P
if_none None holds = holds
if_none (Some x) holds = tt

-- ---- the parts of a fragment

-- a fragment's bytes: its checksum, and from the type on what that is of
parts_of : (sum : List ℕ) (f : Fragment) → length sum ≡ 4 → (slice_index (fragment_bytes sum f) 6 ≡ f.type)
    × (take 4 (fragment_bytes sum f) ≡ sum) × (drop 6 (fragment_bytes sum f) ≡ f.type ∷ f.part)
unfolding fragment_bytes
parts_of (a ∷ b ∷ c ∷ d ∷ []) f four = (refl, refl, refl)
parts_of sum f four = absurd (omega arith)

module _ (offset : ℕ) (body fragment : List ℕ) (h : IsHeaded offset body fragment) where
  bytes_are : fragment ≡ fragment_bytes h.unchecked.sum h.header
  bytes_are = append_cancel_left (filler block offset) fragment (fragment_bytes h.unchecked.sum h.header) h.unchecked.bytes_are

  pub headed_type : slice_index fragment 6 ≡ h.header.type
  headed_type = ap (λ z. slice_index z 6) bytes_are ∙ (parts_of h.unchecked.sum h.header h.unchecked.summed).0

  sum_is : take 4 fragment ≡ h.unchecked.sum
  sum_is = ap (take 4) bytes_are ∙ (parts_of h.unchecked.sum h.header h.unchecked.summed).1

  summed_is : drop 6 fragment ≡ h.header.type ∷ h.header.part
  summed_is = ap (drop 6) bytes_are ∙ (parts_of h.unchecked.sum h.header h.unchecked.summed).2

  right_sum : HasRightChecksum fragment → h.unchecked.sum ≡ checksum h.header
  unfolding checksum
  right_sum right = sym sum_is ∙ right ∙ ap (λ z. little 4 (masked (crc_of z))) summed_is

  sum_right : h.unchecked.sum ≡ checksum h.header → HasRightChecksum fragment
  unfolding checksum
  sum_right e = sum_is ∙ e ∙ ap (λ z. little 4 (masked (crc_of z))) (sym summed_is)

  -- its checksum is right, and so it is whole
  headed_whole : HasRightChecksum fragment → IsFragment true block h.header offset (filler block offset ++ fragment)
  headed_whole right = record {
    sum = h.unchecked.sum;
    within = h.unchecked.within;
    summed = right_sum right;
    bytes_are = h.unchecked.bytes_are;
  }

  -- the one with which the bytes begin that are the filler and these
  module _ (rest : List ℕ) (rest_is : rest ≡ filler block offset ++ body) where
    rest_goes : rest ≡ (filler block offset ++ fragment) ++ h.more
    rest_goes = rest_is ∙ ap (λ z. filler block offset ++ z) h.bytes_are ∙ sym (append_assoc (filler block offset) fragment h.more)

    headed_as : (f : Fragment) (front more : List ℕ) → rest ≡ front ++ more → (whole : IsFragment true block f offset front)
        → (f ≡ h.header) × HasRightChecksum fragment
    headed_as f front more is whole =
        let same = one_fragment false block fits offset f h.header front (filler block offset ++ fragment) more h.more
        (unchecked true block f offset front whole) h.unchecked (sym is ∙ rest_goes) in
        let bytes : filler block offset ++ fragment_bytes whole.sum f ≡ filler block offset ++ fragment_bytes h.unchecked.sum h.header =
        sym whole.bytes_are ∙ same.1 ∙ h.unchecked.bytes_are in
        let sums : whole.sum ≡ h.unchecked.sum =
        sym (parts_of whole.sum f (ap length whole.summed ∙ length-checksum f)).1
        ∙ ap (take 4) (append_cancel_left (filler block offset) _ _ bytes)
        ∙ (parts_of h.unchecked.sum h.header h.unchecked.summed).1 in
        (same.0, sum_right (sym sums ∙ whole.summed ∙ ap checksum same.0))

    pub headed_end : (it : StartsWithEnd offset rest) → EndsRecord h.header × HasRightChecksum fragment
    headed_end it =
        let is = headed_as it.fragment it.front it.more it.bytes_are it.whole in
        (subst EndsRecord is.0 it.ends, is.1)

    -- it is whole and ends a record
    pub headed_starts : EndsRecord h.header → HasRightChecksum fragment → StartsWithEnd offset rest
    headed_starts ends right = record {
      fragment = h.header;
      ends = ends;
      front = filler block offset ++ fragment;
      more = h.more;
      bytes_are = rest_goes;
      whole = headed_whole right;
    }

    -- none is whole where its checksum is wrong
    pub none_headed : (HasRightChecksum fragment → ⊥) → NoFragment true block offset rest
    none_headed wrong f front more is whole = wrong (headed_as f front more is whole).1

    -- how far it goes
    headed_count : (count : ℕ) → count ≡ length rest - length body + length fragment → (count ≤ length rest) × (take count rest ≡ filler block offset ++ fragment)
    headed_count count is =
        let all = ap length rest_is in
        let both = length-append (filler block offset) body in
        let parts = ap length h.bytes_are in
        let body_parts = length-append fragment h.more in
        let front = length-append (filler block offset) fragment in
        let n : count ≡ length (filler block offset ++ fragment) = omega arith in
        (omega arith, ap (λ k. take k rest) n ∙ ap (take (length (filler block offset ++ fragment))) rest_goes ∙ take-append_seam (filler block offset ++ fragment) h.more)

-- of which kind it is
kind_of : (offset : ℕ) (body fragment : List ℕ) (h : IsHeaded offset body fragment) (has_data : Bool)
    → (IsTrue has_data ↔ (7 < length fragment)) → IsOfKind h.header (slice_index fragment 6) has_data
kind_of offset body fragment h has_data long = record {
  type = sym (headed_type offset body fragment h);
  filled = (
    λ has none. (let more = long.0 has in
        let empty = ap length none in
        omega (arith, more, empty, counted)),
    λ some. long.1 (by h.header.part refl some),
  );
}
  where
    counted : length fragment ≡ 7 + length h.header.part
    counted =
        let all = length-fragment false block h.header offset (filler block offset ++ fragment) h.unchecked in
        let both = length-append (filler block offset) fragment in
        omega arith

    by : (part : List ℕ) → h.header.part ≡ part → h.header.part ≢ [] → 7 < length fragment
    by [] is some = absurd (some is)
    by (byte ∷ part) is some = let long = ap length is in omega (arith, counted, long)

-- a whole fragment is at the front
pub whole_front : (offset : ℕ) (body fragment : List ℕ) → IsHeaded offset body fragment → (rest : List ℕ)
    → rest ≡ filler block offset ++ body → (count : ℕ) → count ≡ length rest - length body + length fragment
    → HasRightChecksum fragment → (has_data : Bool) → (IsTrue has_data ↔ (7 < length fragment))
    → IsWholeFront offset rest count (slice_index fragment 6) has_data
whole_front offset body fragment h rest rest_is count is right has_data long =
    let front = headed_count offset body fragment h rest rest_is count is in
    record {
      fragment = h.header;
      whole = subst (IsFragment true block h.header offset) (sym front.1) (headed_whole offset body fragment h right);
      is_kind = kind_of offset body fragment h has_data long;
    }

-- nor is one where none begins without a checksum
pub none_checked : (offset : ℕ) (rest : List ℕ) → NoFragment false block offset rest → NoFragment true block offset rest
none_checked offset rest none f front more is whole = none f front more is (unchecked true block f offset front whole)

-- no fragment begins where none does without a checksum
pub no_end : (offset : ℕ) (rest : List ℕ) → NoFragment false block offset rest → StartsWithEnd offset rest → ⊥
no_end offset rest none it = none it.fragment it.front it.more it.bytes_are (unchecked true block it.fragment offset it.front it.whole)

-- ---- fragments in a row

-- no record is open
pub none_begun : HasBegun [] false false
none_begun = record {
  opened = ((λ never. absurd cc), λ some. absurd (some refl));
  filled = ((λ never. absurd cc), λ some. absurd (some refl));
}

pub whole_from : (text : List ℕ) → AreWholeUpTo text 0 false false
whole_from text = record { fragments = []; whole = refl; parts = []; placed = refl; begun = none_begun }

-- one that may be taken is taken
pub whole_on : (text : List ℕ) (end count kind : ℕ) (is_open has_data has open_then data_then : Bool) → end ≤ length text
    → AreWholeUpTo text end is_open has_data → IsWholeFront (end % block) (drop end text) count kind has
    → ((parts : List (List ℕ)) → HasBegun parts is_open has_data → (f : Fragment) → IsOfKind f kind has → ContinuesRecord parts f)
    → ((parts : List (List ℕ)) → HasBegun parts is_open has_data → (f : Fragment) → IsOfKind f kind has → HasBegun (parts_after parts f) open_then data_then)
    → AreWholeUpTo text (end + count) open_then data_then
whole_on text end count kind is_open has_data has open_then data_then within whole next may takes =
    let zero_end : 0 + end ≡ end = omega arith in
    let here : offset_after block 0 (take end text) ≡ end % block = ap (λ n. (0 + n) % block) (length-take-le end text within) ∙ ap (λ n. n % block) zero_end in
    record {
      fragments = whole.fragments ++ next.fragment ∷ [];
      whole = subst (AreFragments true block (whole.fragments ++ next.fragment ∷ []) 0) (sym (take-add end count text))
          (whole_more 0 (omega arith) whole.fragments (take end text) (take count (drop end text)) next.fragment whole.whole
          (subst (λ o. IsFragment true block next.fragment o (take count (drop end text))) (sym here) next.whole));
      parts = parts_after whole.parts next.fragment;
      placed = continue_then whole.fragments (next.fragment ∷ []) [] whole.parts (parts_after whole.parts next.fragment) whole.placed
          (may whole.parts whole.begun next.fragment next.is_kind, refl);
      begun = takes whole.parts whole.begun next.fragment next.is_kind;
    }

-- what comes after the first bad end comes after whole fragments before it
pub lost_later : (text : List ℕ) (end : ℕ) (is_open has_data : Bool) → end ≤ length text → AreWholeUpTo text end is_open has_data
    → LosesRecords text → HasEndFrom text end
lost_later text end is_open has_data within whole loses =
    let all = placed_then 0 (omega arith) loses.front loses.begun [] [] loses.parts
    (log_placed 0 (omega arith) loses.records loses.front loses.read)
    (begun_placed (offset_after block 0 loses.front) loses.parts loses.begun loses.laid) in
    let least = within_placed 0 (omega arith) whole.fragments all.fragments [] whole.parts loses.parts (take end text) (drop end text) (loses.front ++ loses.begun) loses.rest
    whole.whole whole.placed all.whole all.placed (take-append-drop end text ∙ loses.bytes_are) loses.none in
    let count = length-take-le end text within in
    (loses.later.0, omega (arith, least, count, loses.later.1), loses.later.2)

-- and so bytes whose whole fragments go no further lose records if an end comes after them
pub loses_there : (text : List ℕ) (end : ℕ) (is_open has_data : Bool) → end ≤ length text → AreWholeUpTo text end is_open has_data
    → NoneGoesOn text end is_open has_data → HasEndFrom text end → LosesRecords text
loses_there text end is_open has_data within whole none later =
    let all = records_placed whole.fragments whole.parts (take end text) whole.whole whole.placed in
    let count : length (all.front ++ all.begun) ≡ end = ap length (sym all.bytes_are) ∙ length-take-le end text within in
    let zero_end : 0 + end ≡ end = omega arith in
    let here : offset_after block 0 (all.front ++ all.begun) ≡ end % block = ap (λ n. (0 + n) % block) count ∙ ap (λ n. n % block) zero_end in
    record {
      records = all.records;
      front = all.front;
      read = all.read;
      parts = whole.parts;
      begun = all.begun;
      laid = all.laid;
      rest = drop end text;
      bytes_are = sym (take-append-drop end text) ∙ ap (λ z. z ++ drop end text) all.bytes_are;
      none = subst (λ o. NoneContinues whole.parts o (drop end text)) (sym here) (none whole.parts whole.begun);
      later = subst (HasEndFrom text) (sym count) later;
    }

-- no fragment goes on where none begins
pub none_goes_on : (text : List ℕ) (end : ℕ) (is_open has_data : Bool) → NoFragment true block (end % block) (drop end text)
    → NoneGoesOn text end is_open has_data
none_goes_on text end is_open has_data none parts begun f continues front more is whole = none f front more is whole

-- nor where the one that begins doesn't
pub other_goes_on : (text : List ℕ) (end count kind : ℕ) (is_open has_data has : Bool) → IsWholeFront (end % block) (drop end text) count kind has
    → ((parts : List (List ℕ)) → HasBegun parts is_open has_data → (f : Fragment) → IsOfKind f kind has → ContinuesRecord parts f → ⊥)
    → NoneGoesOn text end is_open has_data
other_goes_on text end count kind is_open has_data has found other parts begun f continues front more is whole =
    let same = one_fragment true block fits (end % block) f found.fragment front (take count (drop end text)) more (drop count (drop end text))
    whole found.whole (sym is ∙ sym (take-append-drop count (drop end text))) in
    other parts begun found.fragment found.is_kind (subst (ContinuesRecord parts) same.0 continues)

-- ---- what may come next

-- a number by a bool is one at most if both are
pub at_most_one : (number : Bool → ℕ) → number true ≤ 1 → number false ≤ 1 → (b : Bool) → number b ≤ 1
at_most_one number one other true = one
at_most_one number one other false = other

-- a fragment of this type, with data or without, may come where a record is open or isn't, and has
-- data or hasn't
abbrev pub MayCome : ℕ → Bool → Bool → Bool → Type 0
MayCome kind is_open has_data has = ((kind ≡ 1) × (is_open ≡ false) × IsTrue has) ⊎ ((kind ≡ 2) × (is_open ≡ false))
    ⊎ ((kind ≡ 3) × IsTrue is_open) ⊎ ((kind ≡ 4) × IsTrue is_open × (IsTrue has_data ⊎ IsTrue has))

module _ (kind : ℕ) (is_open has_data has : Bool) where
  pub full_comes : MayCome kind is_open has_data has → kind ≡ 1 → (is_open ≡ false) × IsTrue has
  full_comes (inl one) e = (one.1, one.2)
  full_comes (inr (inl two)) e = absurd (omega (arith, two.0, e))
  full_comes (inr (inr (inl three))) e = absurd (omega (arith, three.0, e))
  full_comes (inr (inr (inr four))) e = absurd (omega (arith, four.0, e))

  pub first_comes : MayCome kind is_open has_data has → kind ≡ 2 → is_open ≡ false
  first_comes (inl one) e = absurd (omega (arith, one.0, e))
  first_comes (inr (inl two)) e = two.1
  first_comes (inr (inr (inl three))) e = absurd (omega (arith, three.0, e))
  first_comes (inr (inr (inr four))) e = absurd (omega (arith, four.0, e))

  pub middle_comes : MayCome kind is_open has_data has → kind ≡ 3 → IsTrue is_open
  middle_comes (inl one) e = absurd (omega (arith, one.0, e))
  middle_comes (inr (inl two)) e = absurd (omega (arith, two.0, e))
  middle_comes (inr (inr (inl three))) e = three.1
  middle_comes (inr (inr (inr four))) e = absurd (omega (arith, four.0, e))

  pub last_comes : MayCome kind is_open has_data has → kind ≡ 4 → IsTrue is_open × (IsTrue has_data ⊎ IsTrue has)
  last_comes (inl one) e = absurd (omega (arith, one.0, e))
  last_comes (inr (inl two)) e = absurd (omega (arith, two.0, e))
  last_comes (inr (inr (inl three))) e = absurd (omega (arith, three.0, e))
  last_comes (inr (inr (inr four))) e = (four.1, four.2)

  pub no_other_comes : MayCome kind is_open has_data has → kind ≢ 1 → kind ≢ 2 → kind ≢ 3 → kind ≢ 4 → ⊥
  no_other_comes (inl one) a b c d = a one.0
  no_other_comes (inr (inl two)) a b c d = b two.0
  no_other_comes (inr (inr (inl three))) a b c d = c three.0
  no_other_comes (inr (inr (inr four))) a b c d = d four.0

pub opened_not : (b : Bool) → IsTrue (not b) → b ≡ false
opened_not true is = absurd (let never : false ≡ true = is in cc)
opened_not false is = refl

pub not_opened : (b : Bool) → b ≡ false → IsTrue (not b)
not_opened true is = absurd (let never : true ≡ false = is in cc)
not_opened false is = refl

-- a record is open or isn't, by a fragment that may come next
module _ (parts : List (List ℕ)) (is_open has_data : Bool) (begun : HasBegun parts is_open has_data) (f : Fragment) (kind : ℕ) (has : Bool) (is : IsOfKind f kind has) where
  closed_parts : is_open ≡ false → parts ≡ []
  closed_parts closed = by parts refl
    where
      by : (those : List (List ℕ)) → parts ≡ those → those ≡ []
      by [] same = refl
      by (first ∷ more) same = absurd (let opened : is_open ≡ true = begun.opened.1 (λ none. (let never : first ∷ more ≡ [] = sym same ∙ none in cc)) in cc)

  pub first_continues : is_open ≡ false → kind ≡ 2 → ContinuesRecord parts f
  first_continues closed two = subst (λ p. ContinuesRecord p f) (sym (closed_parts closed)) (inl (is.type ∙ two))

  pub full_continues : is_open ≡ false → IsTrue has → kind ≡ 1 → ContinuesRecord parts f
  full_continues closed filled one = subst (λ p. ContinuesRecord p f) (sym (closed_parts closed)) (inr (is.type ∙ one, is.filled.0 filled))

  open_by : (those : List (List ℕ)) → parts ≡ those → is_open ≡ true → (f.type ≡ 3) ⊎ ((f.type ≡ 4) × (concat parts ++ f.part ≢ [])) → ContinuesRecord those f
  open_by [] same opened continues = absurd (begun.opened.0 opened same)
  open_by (first ∷ more) same opened continues = ⊎_elim
      (λ (middle : f.type ≡ 3). inl middle)
      (λ (last : (f.type ≡ 4) × (concat parts ++ f.part ≢ [])). inr (last.0, subst (λ p. concat p ++ f.part ≢ []) same last.1))
      continues

  pub middle_continues : is_open ≡ true → kind ≡ 3 → ContinuesRecord parts f
  middle_continues opened three = open_by parts refl opened (inl (is.type ∙ three))

  pub last_continues : is_open ≡ true → IsTrue has_data ⊎ IsTrue has → kind ≡ 4 → ContinuesRecord parts f
  last_continues opened filled four = open_by parts refl opened (inr (
    is.type ∙ four,
    λ none. ⊎_elim
        (λ (before : IsTrue has_data). begun.filled.0 before (both (concat parts) f.part none).0)
        (λ (now : IsTrue has). is.filled.0 now (both (concat parts) f.part none).1) filled,
  ))
    where
      both : (a b : List ℕ) → a ++ b ≡ [] → (a ≡ []) × (b ≡ [])
      both [] b none = (refl, none)
      both (x ∷ a) b none = absurd cc

  -- and it goes on only so
  continues_so : ContinuesRecord parts f → MayCome kind is_open has_data has
  continues_so continues = by parts refl continues
    where
      closed : parts ≡ [] → is_open ≡ false
      closed none = of is_open refl
        where
          of : (b : Bool) → is_open ≡ b → is_open ≡ false
          of true opened = absurd (begun.opened.0 opened none)
          of false same = same

      filled : concat parts ++ f.part ≢ [] → IsTrue has_data ⊎ IsTrue has
      filled some = of (concat parts) refl
        where
          of : (a : List ℕ) → concat parts ≡ a → IsTrue has_data ⊎ IsTrue has
          of [] same = inr (is.filled.1 (λ none. some (ap (λ z. z ++ f.part) same ∙ none)))
          of (x ∷ a) same = inl (begun.filled.1 (λ none. (let never : x ∷ a ≡ [] = sym same ∙ none in cc)))

      by : (those : List (List ℕ)) → parts ≡ those → ContinuesRecord those f → MayCome kind is_open has_data has
      by [] same (inl two) = inr (inl (sym is.type ∙ two, closed same))
      by [] same (inr full) = inl (sym is.type ∙ full.0, closed same, is.filled.1 full.1)
      by (first ∷ more) same (inl three) = inr (inr (inl (
        sym is.type ∙ three,
        begun.opened.1 (λ none. (let never : first ∷ more ≡ [] = sym same ∙ none in cc)),
      )))
      by (first ∷ more) same (inr last) = inr (inr (inr (
        sym is.type ∙ last.0,
        begun.opened.1 (λ none. (let never : first ∷ more ≡ [] = sym same ∙ none in cc)),
        filled (λ none. last.1 (ap (λ p. concat p ++ f.part) (sym same) ∙ none)),
      )))

  so_continues : MayCome kind is_open has_data has → ContinuesRecord parts f
  so_continues (inl one) = full_continues one.1 one.2 one.0
  so_continues (inr (inl two)) = first_continues two.1 two.0
  so_continues (inr (inr (inl three))) = middle_continues three.1 three.0
  so_continues (inr (inr (inr four))) = last_continues four.1 four.2 four.0

  pub continues_if : (result : Bool) → (IsTrue result → MayCome kind is_open has_data has)
      → (MayCome kind is_open has_data has → IsTrue result) → IsTrue result ↔ ContinuesRecord parts f
  continues_if result comes may = (λ yes. so_continues (comes yes), λ continues. may (continues_so continues))

  -- after one that ends the record none is open
  pub begun_ended : (kind ≡ 1) ⊎ (kind ≡ 4) → HasBegun (parts_after parts f) false false
  begun_ended last = subst (λ t. HasBegun (if (t == 1) || (t == 4) then [] else parts ++ f.part ∷ []) false false) (sym is.type)
      (⊎_elim (λ (one : kind ≡ 1). subst (λ t. HasBegun (if (t == 1) || (t == 4) then [] else parts ++ f.part ∷ []) false false) (sym one) none_begun)
      (λ (four : kind ≡ 4). subst (λ t. HasBegun (if (t == 1) || (t == 4) then [] else parts ++ f.part ∷ []) false false) (sym four) none_begun) last)

  -- after another one is, which has the data of both
  pub begun_on : ((kind ≡ 1) ⊎ (kind ≡ 4) → ⊥) → (filled : Bool) → (IsTrue filled ↔ (IsTrue has_data ⊎ IsTrue has))
      → HasBegun (parts_after parts f) true filled
  begun_on other filled holds = by (kind == 1) (kind == 4) refl refl
    where
      on : HasBegun (parts ++ f.part ∷ []) true filled
      on = record {
        opened = ((λ yes none. nonempty parts none), λ some. refl);
        filled = (
          λ yes none. (let split = both (concat parts) f.part (sym (concat_more parts f.part) ∙ none) in
              ⊎_elim (λ (before : IsTrue has_data). begun.filled.0 before split.0) (λ (now : IsTrue has). is.filled.0 now split.1) (holds.0 yes)),
          λ some. holds.1 (either (concat parts) refl (λ none. some (concat_more parts f.part ∙ none))),
        );
      }
        where
          nonempty : (those : List (List ℕ)) → those ++ f.part ∷ [] ≡ [] → ⊥
          nonempty [] none = cc
          nonempty (first ∷ more) none = cc

          both : (a b : List ℕ) → a ++ b ≡ [] → (a ≡ []) × (b ≡ [])
          both [] b none = (refl, none)
          both (x ∷ a) b none = absurd cc

          either : (a : List ℕ) → concat parts ≡ a → concat parts ++ f.part ≢ [] → IsTrue has_data ⊎ IsTrue has
          either [] same some = inr (is.filled.1 (λ none. some (ap (λ z. z ++ f.part) same ∙ none)))
          either (x ∷ a) same some = inl (begun.filled.1 (λ none. (let never : x ∷ a ≡ [] = sym same ∙ none in cc)))

      by : (one four : Bool) → (kind == 1) ≡ one → (kind == 4) ≡ four → HasBegun (parts_after parts f) true filled
      by true four is_one is_four = absurd (other (inl (eqb-true kind 1 is_one)))
      by false true is_one is_four = absurd (other (inr (eqb-true kind 4 is_four)))
      by false false is_one is_four = subst (λ t. HasBegun (if (t == 1) || (t == 4) then [] else parts ++ f.part ∷ []) true filled) (sym is.type)
          (subst (λ b. HasBegun (if b || (kind == 4) then [] else parts ++ f.part ∷ []) true filled) (sym is_one)
          (subst (λ b. HasBegun (if b then [] else parts ++ f.part ∷ []) true filled) (sym is_four) on))

-- at the end of the bytes no fragment begins
pub no_end_past : (text : List ℕ) (at : ℕ) → length text ≤ at → StartsWithEnd (at % block) (drop at text) → ⊥
no_end_past text at past it =
    let none = ap length (drop_all at text past) in
    let all = ap length it.bytes_are ∙ length-append it.front it.more in
    let long = length-fragment true block it.fragment (at % block) it.front it.whole in
    omega arith

-- so none begins from an offset on, if none does below one at or past the end
pub no_end_before : (text : List ℕ) (from end : ℕ) → length text ≤ end
    → ((k : ℕ) → from ≤ k → k < end → StartsWithEnd (k % block) (drop k text) → ⊥) → HasEndFrom text from → ⊥
no_end_before text from end past none has = by (nat_le end has.0) refl
  where
    by : (after : Bool) → nat_le end has.0 ≡ after → ⊥
    by true after = no_end_past text has.0 (omega (arith, past, leb-true end has.0 after)) has.2
    by false before = none has.0 has.1 (leb-false end has.0 before) has.2
