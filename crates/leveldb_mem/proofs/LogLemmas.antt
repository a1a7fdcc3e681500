-- Records and logs: bytes are read in one way, and what is framed is read again.
use Rattle.std.proofs.Common.{◌≡◌, ◌≢◌, ℕ, ◌≤◌, Bool, true, false, List, [], ◌∷◌, ◌++◌, length, sym, ◌∙◌, ap, subst, arith, length-append, ◌⊎◌, inl, inr, ⊎_elim, refl, append-nil, zero, suc, take, append_assoc, ◌+◌, ◌-◌, ◌%◌, ◌<◌, if◌then◌else◌, nat_lt, replicate, nat_le, drop, length-take, length-drop, ◌*◌}
use Rattle.std.specs.List.{concat, All}
use Rattle.std.proofs.lemmas.List.{nil_from_length, length-replicate, take-append-drop, drop_at, take_at}
use Rattle.std.proofs.lemmas.Bool.{ltb-false, leb-true, leb-false}
use Rattle.std.proofs.Math.Nat.{mod_self, add-mod_left, mod-add-mod, mod-eq_of_lt, mod-lt}
use Rattle.std.proofs.lemmas.List.Elements.{All-head, All-tail}
use Rattle.std.specs.Str.{bytes_eq}
use Rattle.std.proofs.lemmas.Bool.Decides.{eqb_tells, leb_tells}
use Rattle.std.proofs.lemmas.Slice.Eq.{bytes_eq-Decides}
use Rattle.leveldb_base.proofs.VarintLemmas.{apart}
use Rattle.leveldb_mem.specs.Log.{offset_after, Fragment, IsFragment, IsFrontAndRest, AreFragments, record_type, fragments_of, IsRemainder, IsRecord, fragment_of, End, clean, bad, Ends, LogOf, filler, room, FillBlocks, IsFramedRecord, IsFramed, checksum, IsFramedRemainder, fragment_at, framed_within, framed_record, framed, IsChecksum, fragment_bytes, NoFragment}
use Rattle.leveldb_mem.proofs.FragmentLemmas.{in_front, one_fragment, length-fragment, unchecked, same_fragment, header_says, none_short}

-- ---- one record begins no other

pub not_both : (first : Bool) → record_type first true ≢ record_type first false
not_both true e = cc
not_both false e = cc

module _ (checked : Bool) (size : ℕ) (fits : size ≤ 32768) where
  -- bytes that begin with a fragment have one rest after it
  pub same_first : (offset : ℕ) (f g : Fragment) (P Q : ℕ → List ℕ → Type 0) (a b x y : List ℕ) (these : IsFrontAndRest size (IsFragment checked size f) P offset a) (those : IsFrontAndRest size (IsFragment checked size g) Q offset b)
      → a ++ x ≡ b ++ y → (f ≡ g) × (these.front ≡ those.front) × (these.rest ++ x ≡ those.rest ++ y)
  same_first offset f g P Q a b x y these those e =
      let joined = in_front a these.front these.rest x (those.front ++ (those.rest ++ y)) these.bytes_are (sym (in_front b those.front those.rest y (a ++ x) those.bytes_are (sym e))) in
      one_fragment checked size fits offset f g these.front those.front (these.rest ++ x) (those.rest ++ y) these.is_front those.is_front joined

  pub one_cutting : (offset : ℕ) (first : Bool) (p : List ℕ) (ps : List (List ℕ)) (q : List ℕ) (qs : List (List ℕ)) (a b x y : List ℕ)
      → AreFragments checked size (fragments_of first p ps) offset a → AreFragments checked size (fragments_of first q qs) offset b
      → a ++ x ≡ b ++ y → (p ∷ ps ≡ q ∷ qs) × (a ≡ b) × (x ≡ y)
  one_cutting offset first p [] q [] a b x y f g e =
      let same = same_first offset _ _ _ _ a b x y f g e in
      let fronts = f.bytes_are ∙ ap (λ z. f.front ++ z) (f.is_rest ∙ sym g.is_rest) ∙ ap (λ z. z ++ g.rest) same.1 ∙ sym g.bytes_are in
      (ap (λ fragment. fragment.part ∷ []) same.0, fronts, ap (λ z. z ++ x) (sym f.is_rest) ∙ same.2 ∙ ap (λ z. z ++ y) g.is_rest)
  one_cutting offset first p [] q (q' ∷ qs) a b x y f g e = absurd (not_both first (ap (λ fragment. fragment.type) (same_first offset _ _ _ _ a b x y f g e).0))
  one_cutting offset first p (p' ∷ ps) q [] a b x y f g e = absurd (not_both first (sym (ap (λ fragment. fragment.type) (same_first offset _ _ _ _ a b x y f g e).0)))
  one_cutting offset first p (p' ∷ ps) q (q' ∷ qs) a b x y f g e =
      let same = same_first offset _ _ _ _ a b x y f g e in
      let moved = subst (λ z. AreFragments checked size (fragments_of false p' ps) (offset_after size offset z) f.rest) same.1 f.is_rest in
      let rest = one_cutting (offset_after size offset g.front) false p' ps q' qs f.rest g.rest x y moved g.is_rest same.2 in
      let parts : p ∷ (p' ∷ ps) ≡ q ∷ (q' ∷ qs) = ap (λ fragment. fragment.part ∷ (p' ∷ ps)) same.0 ∙ ap (λ z. q ∷ z) rest.0 in
      (parts, f.bytes_are ∙ ap (λ z. z ++ f.rest) same.1 ∙ ap (λ z. g.front ++ z) rest.1 ∙ sym g.bytes_are, rest.2)

  -- what is left of a record begins nothing else that is
  pub one_remainder : (offset : ℕ) (first : Bool) (r s a b x y : List ℕ) → IsRemainder checked size first r offset a → IsRemainder checked size first s offset b
      → a ++ x ≡ b ++ y → (r ≡ s) × (a ≡ b) × (x ≡ y)
  one_remainder offset first r s a b x y f g e =
      let same = one_cutting offset first f.part f.parts g.part g.parts a b x y f.laid g.laid e in
      let texts : concat (f.part ∷ f.parts) ≡ concat (g.part ∷ g.parts) = ap concat same.0 in
      (sym f.text_is ∙ texts ∙ g.text_is, same.1, same.2)

  -- one record begins no other
  pub one_record : (offset : ℕ) (r s a b x y : List ℕ) → IsRecord checked size r offset a → IsRecord checked size s offset b
      → a ++ x ≡ b ++ y → (r ≡ s) × (a ≡ b) × (x ≡ y)
  one_record offset r s a b x y f g e = one_remainder offset true r s a b x y f.whole g.whole e

-- a record has at least a header
pub length-record : (checked : Bool) (size offset : ℕ) (r a : List ℕ) → IsRecord checked size r offset a → 7 ≤ length a
length-record checked size offset r a is = by_parts is.whole.parts is.whole.laid
  where
    begins : (f : Fragment) (P : ℕ → List ℕ → Type 0) → IsFrontAndRest size (IsFragment checked size f) P offset a → 7 ≤ length a
    begins f P laid =
        let front = length-fragment checked size f offset laid.front laid.is_front in
        let whole = ap length laid.bytes_are in
        let both = length-append laid.front laid.rest in
        omega arith

    by_parts : (parts : List (List ℕ)) → AreFragments checked size (fragments_of true is.whole.part parts) offset a → 7 ≤ length a
    by_parts [] laid = begins _ _ laid
    by_parts (next ∷ parts) laid = begins _ _ laid

-- ---- what is left of a record, by its first fragment

-- no front of the bytes is the rest of a record at this offset
abbrev pub NoRemainder : Bool → ℕ → Bool → ℕ → List ℕ → Type 0
NoRemainder checked size first offset bytes = (text front more : List ℕ) → bytes ≡ front ++ more → IsRemainder checked size first text offset front → ⊥

-- no front of the bytes is a whole record at this offset
abbrev pub NoRecord : Bool → ℕ → ℕ → List ℕ → Type 0
NoRecord checked size offset bytes = (text front more : List ℕ) → bytes ≡ front ++ more → IsRecord checked size text offset front → ⊥

module _ (checked : Bool) (size : ℕ) where
  -- a record's last fragment is what is left of it
  pub last_fragment : (first : Bool) (f : Fragment) (offset : ℕ) (bytes : List ℕ) → f.type ≡ record_type first true → IsFragment checked size f offset bytes → IsRemainder checked size first f.part offset bytes
  last_fragment first f offset bytes is_last is = record {
    part = f.part;
    parts = [];
    text_is = append-nil f.part;
    laid = record { front = bytes; rest = []; bytes_are = sym (append-nil bytes); is_front = subst (λ type. IsFragment checked size (fragment_of type f.part) offset bytes) is_last is; is_rest = refl };
  }

  -- another fragment comes before what is left
  pub next_fragment : (first : Bool) (f : Fragment) (text : List ℕ) (offset : ℕ) (front rest : List ℕ) → f.type ≡ record_type first false → IsFragment checked size f offset front
      → IsRemainder checked size false text (offset_after size offset front) rest → IsRemainder checked size first (f.part ++ text) offset (front ++ rest)
  next_fragment first f text offset front rest goes_on is others = record {
    part = f.part;
    parts = others.part ∷ others.parts;
    text_is = ap (λ z. f.part ++ z) others.text_is;
    laid = record { front = front; rest = rest; bytes_are = refl; is_front = subst (λ type. IsFragment checked size (fragment_of type f.part) offset front) goes_on is; is_rest = others.laid };
  }

  -- what is left of a record, as its first fragment and either nothing or what is left after that
  pub record Start (first : Bool) (text : List ℕ) (offset : ℕ) (bytes : List ℕ) : Type 0 where
    pub fragment : Fragment
    pub front : List ℕ
    pub rest : List ℕ
    pub bytes_are : bytes ≡ front ++ rest
    pub is_front : IsFragment checked size fragment offset front
    pub goes_on : (fragment.type ≡ record_type first true) ⊎ ((fragment.type ≡ record_type first false) × (others : List ℕ) × IsRemainder checked size false others (offset_after size offset front) rest)

  pub start_of : (first : Bool) (text : List ℕ) (offset : ℕ) (bytes : List ℕ) → IsRemainder checked size first text offset bytes → Start first text offset bytes
  start_of first text offset bytes is = by_parts is.part is.parts is.laid
    where
      by_parts : (part : List ℕ) (parts : List (List ℕ)) → AreFragments checked size (fragments_of first part parts) offset bytes → Start first text offset bytes
      by_parts part [] laid = record { fragment = fragment_of (record_type first true) part; front = laid.front; rest = laid.rest; bytes_are = laid.bytes_are; is_front = laid.is_front; goes_on = inl refl }
      by_parts part (next ∷ parts) laid = record {
        fragment = fragment_of (record_type first false) part;
        front = laid.front;
        rest = laid.rest;
        bytes_are = laid.bytes_are;
        is_front = laid.is_front;
        goes_on = inr (refl, next ++ concat parts, record { part = next; parts = parts; text_is = refl; laid = laid.is_rest });
      }

  -- where there is no fragment there is nothing of a record
  pub none_without : (first : Bool) (offset : ℕ) (bytes : List ℕ) → NoFragment checked size offset bytes → NoRemainder checked size first offset bytes
  none_without first offset bytes none text front more e is =
      let s = start_of first text offset front is in
      none s.fragment s.front (s.rest ++ more) (e ∙ sym (in_front front s.front s.rest more (front ++ more) s.bytes_are refl)) s.is_front

  -- nor where nothing of a record does a record
  pub no_record_without : (offset : ℕ) (bytes : List ℕ) → NoRemainder checked size true offset bytes → NoRecord checked size offset bytes
  no_record_without offset bytes none text front more e is = none text front more e is.whole

  module _ (fits : size ≤ 32768) where
    -- after a fragment that isn't the last, there is nothing of a record unless the fragment goes
    -- on with a record and its rest is there
    pub none_after : (first : Bool) (f : Fragment) (offset : ℕ) (bytes front rest : List ℕ) → bytes ≡ front ++ rest → IsFragment checked size f offset front → f.type ≢ record_type first true
        → (f.type ≡ record_type first false → NoRemainder checked size false (offset_after size offset front) rest) → NoRemainder checked size first offset bytes
    none_after first f offset bytes front rest e is not_last none text found more h remainder =
        let s = start_of first text offset found remainder in
        let joined : s.front ++ (s.rest ++ more) ≡ front ++ rest = in_front found s.front s.rest more (front ++ rest) s.bytes_are (sym h ∙ e) in
        let same = one_fragment checked size fits offset s.fragment f s.front front (s.rest ++ more) rest s.is_front is joined in
        let type = ap (λ fragment. fragment.type) same.0 in
        ⊎_elim
        (λ (last : s.fragment.type ≡ record_type first true). not_last (sym type ∙ last))
        (λ (goes : (s.fragment.type ≡ record_type first false) × (others : List ℕ) × IsRemainder checked size false others (offset_after size offset s.front) s.rest).
        none (sym type ∙ goes.0) goes.1 s.rest more (sym same.2) (subst (λ z. IsRemainder checked size false goes.1 (offset_after size offset z) s.rest) same.1 goes.2))
        s.goes_on

    -- a record without data is none
    pub none_without_data : (offset : ℕ) (bytes front more : List ℕ) → bytes ≡ front ++ more → IsRemainder checked size true [] offset front → NoRecord checked size offset bytes
    none_without_data offset bytes front more e is text found others h is_record =
        is_record.some (one_remainder checked size fits offset true text [] found front others more is_record.whole is (sym h ∙ e)).0

-- ---- two readings of one log are one, and a log cut anywhere reads as a prefix of its records

module _ (checked : Bool) (size : ℕ) (fits : size ≤ 32768) where
  none_in_nothing : (offset : ℕ) (text front rest : List ℕ) → IsRecord checked size text offset front → [] ≡ front ++ rest → ⊥
  none_in_nothing offset text front rest is e =
      let some = length-record checked size offset text front is in
      let both = length-append front rest in
      let whole = ap length e in
      omega arith

  -- at an end there is no record
  pub no_record : (offset : ℕ) (end : End) (bytes text front rest : List ℕ) → Ends checked size end offset bytes → bytes ≡ front ++ rest → IsRecord checked size text offset front → ⊥
  no_record offset clean bytes text front rest ends e is = none_in_nothing offset text front rest is (sym ends ∙ e)
  no_record offset bad bytes text front rest ends e is = ends.1 text front rest e is

  one_end : (offset : ℕ) (bytes : List ℕ) (e d : End) → Ends checked size e offset bytes → Ends checked size d offset bytes → e ≡ d
  one_end offset bytes clean clean f g = refl
  one_end offset bytes clean bad f g = absurd (g.0 f)
  one_end offset bytes bad clean f g = absurd (f.0 g)
  one_end offset bytes bad bad f g = refl

  -- where one log goes on after another, their first records are the same, and so is the offset
  -- after them
  same_record : (offset : ℕ) (r s : List ℕ) (rs ss : List (List ℕ)) (e d : End) (a b more : List ℕ) (these : IsFrontAndRest size (IsRecord checked size r) (LogOf checked size rs e) offset a)
      (those : IsFrontAndRest size (IsRecord checked size s) (LogOf checked size ss d) offset b) → a ≡ b ++ more
      → (r ≡ s) × LogOf checked size rs e (offset_after size offset those.front) (those.rest ++ more)
  same_record offset r s rs ss e d a b more these those h =
      let joined = sym these.bytes_are ∙ h ∙ sym (in_front b those.front those.rest more (b ++ more) those.bytes_are refl) in
      let same = one_record checked size fits offset r s these.front those.front these.rest (those.rest ++ more) these.is_front those.is_front joined in
      (same.0, subst (LogOf checked size rs e (offset_after size offset those.front)) same.2 (subst (λ z. LogOf checked size rs e (offset_after size offset z) these.rest) same.1 these.is_rest))

  -- a log cut anywhere reads as a prefix of its records
  pub cut_log : (offset : ℕ) (bytes more : List ℕ) (rs cut : List (List ℕ)) (e d : End)
      → LogOf checked size rs e offset (bytes ++ more) → LogOf checked size cut d offset bytes → (others : List (List ℕ)) × (rs ≡ cut ++ others)
  cut_log offset bytes more rs [] e d f g = (rs, refl)
  cut_log offset bytes more [] (s ∷ cut) e d f g =
      absurd (no_record offset e (bytes ++ more) s g.front (g.rest ++ more) f (sym (in_front bytes g.front g.rest more (bytes ++ more) g.bytes_are refl)) g.is_front)
  cut_log offset bytes more (r ∷ rs) (s ∷ cut) e d f g =
      let same = same_record offset r s rs cut e d (bytes ++ more) bytes more f g refl in
      let rest = cut_log (offset_after size offset g.front) g.rest more rs cut e d same.1 g.is_rest in
      (rest.0, ap (λ z. z ∷ rs) same.0 ∙ ap (λ z. s ∷ z) rest.1)

  -- what comes after a log and adds no record to it is nothing, if the end after it is clean
  pub nothing_more : (offset : ℕ) (bytes more : List ℕ) (rs : List (List ℕ)) (d : End) → LogOf checked size rs clean offset (bytes ++ more) → LogOf checked size rs d offset bytes → more ≡ []
  nothing_more offset bytes more [] d f g =
      let whole = ap length f in
      let both = length-append bytes more in
      nil_from_length more (omega arith)
  nothing_more offset bytes more (r ∷ rs) d f g =
      let same = same_record offset r r rs rs clean d (bytes ++ more) bytes more f g refl in
      nothing_more (offset_after size offset g.front) g.rest more rs d same.1 g.is_rest

  -- two readings of one log are one
  pub one_log : (offset : ℕ) (bytes : List ℕ) (rs ss : List (List ℕ)) (e d : End) → LogOf checked size rs e offset bytes → LogOf checked size ss d offset bytes → (rs ≡ ss) × (e ≡ d)
  one_log offset bytes [] [] e d f g = (refl, one_end offset bytes e d f g)
  one_log offset bytes [] (s ∷ ss) e d f g = absurd (no_record offset e bytes s g.front g.rest f g.bytes_are g.is_front)
  one_log offset bytes (r ∷ rs) [] e d f g = absurd (no_record offset d bytes r f.front f.rest g f.bytes_are f.is_front)
  one_log offset bytes (r ∷ rs) (s ∷ ss) e d f g =
      let same = same_record offset r s rs ss e d bytes bytes [] f g (sym (append-nil bytes)) in
      let rest = one_log (offset_after size offset g.front) g.rest rs ss e d (subst (LogOf checked size rs e (offset_after size offset g.front)) (append-nil g.rest) same.1) g.is_rest in
      (ap (λ z. z ∷ rs) same.0 ∙ ap (λ z. s ∷ z) rest.0, rest.1)

-- the first records of a log are a front of it, with a clean end
pub first_records : (checked : Bool) (size offset : ℕ) (bytes : List ℕ) (records : List (List ℕ)) (end : End) (n : ℕ) → n ≤ length records → LogOf checked size records end offset bytes
    → (front rest : List ℕ) × (bytes ≡ front ++ rest) × LogOf checked size (take n records) clean offset front
first_records checked size offset bytes records end zero few is = ([], bytes, refl, refl)
first_records checked size offset bytes [] end (suc n) few is = absurd (omega arith)
first_records checked size offset bytes (r ∷ records) end (suc n) few is =
    let others = first_records checked size (offset_after size offset is.front) is.rest records end n (omega arith) is.is_rest in
    let whole = is.bytes_are ∙ ap (λ z. is.front ++ z) others.2 ∙ sym (append_assoc is.front others.0 others.1) in
    (is.front ++ others.0, others.1, whole, record { front = is.front; rest = others.0; bytes_are = refl; is_front = is.is_front; is_rest = others.3 })

-- ---- records have one framing, it reads as these records, and logs come one after the other

-- filler, a header and data that fills the block reach to the block's end
block_end : (size offset : ℕ) → 8 ≤ size → offset < size → (offset + (length (filler size offset) + (7 + room size offset))) % size ≡ 0
block_end size offset large inside =
    elim (nat_lt (size - offset) 7)
    as (λ t. nat_lt (size - offset) 7 ≡ t
    → (offset + (length (elim t as (λ b. List ℕ) [ true ↦ replicate (size - offset) 0 | false ↦ [] ]) + (7 + ((if t then size else size - offset) - 7)))) % size ≡ 0) [
      | true ↦ λ e.
          let count = length-replicate {A = ℕ} (size - offset) 0 in
          let total : offset + (length {A = ℕ} (replicate (size - offset) 0) + (7 + (size - 7))) ≡ size + size = omega arith in
          ap (λ n. n % size) total ∙ add-mod_left size size ∙ mod_self size
      | false ↦ λ e.
          let wide = ltb-false (size - offset) 7 e in
          let total : offset + (0 + (7 + (size - offset - 7))) ≡ size = omega arith in
          ap (λ n. n % size) total ∙ mod_self size
    ] refl

some_data : (size : ℕ) (part : List ℕ) (parts : List (List ℕ)) (offset : ℕ) → FillBlocks size part parts offset → 1 ≤ length (part ++ concat parts)
some_data size [] [] offset full = absurd (full refl)
some_data size (x ∷ xs) [] offset full = omega arith
some_data size part (next ∷ parts) offset full =
    let rest = some_data size next parts 0 full.1 in
    let both = length-append part (concat (next ∷ parts)) in
    omega arith

pub offset_after_both : (size offset : ℕ) (a b c : List ℕ) → c ≡ a ++ b → offset_after size (offset_after size offset a) b ≡ offset_after size offset c
offset_after_both size offset a b c e =
    let both = length-append a b in
    let whole = ap length e in
    let total : offset + length a + length b ≡ offset + length c = omega arith in
    mod-add-mod (offset + length a) size (length b) ∙ ap (λ n. n % size) total

pub offset_after_none : (size offset : ℕ) → offset < size → (a : List ℕ) → a ≡ [] → offset_after size offset a ≡ offset
offset_after_none size offset inside a e =
    let none = ap length e in
    let total : offset + length a ≡ offset = omega arith in
    ap (λ n. n % size) total ∙ mod-eq_of_lt inside

too_short : (most : ℕ) (p q rest : List ℕ) → length p ≤ most → length q ≡ most → 1 ≤ length rest → p ≡ q ++ rest → ⊥
too_short most p q rest short full some e =
    let whole = ap length e in
    let both = length-append q rest in
    omega arith

-- a fragment with the right checksum is one whether checksums are asked for or not
asked_or_not : (checked : Bool) (size : ℕ) (f : Fragment) (offset : ℕ) (a : List ℕ) → IsFragment true size f offset a → IsFragment checked size f offset a
asked_or_not true size f offset a is = is
asked_or_not false size f offset a is = unchecked true size f offset a is

all_asked_or_not : (checked : Bool) (size : ℕ) (fs : List Fragment) (offset : ℕ) (a : List ℕ) → AreFragments true size fs offset a → AreFragments checked size fs offset a
all_asked_or_not checked size [] offset a are = are
all_asked_or_not checked size (f ∷ fs) offset a are = record {
  front = are.front;
  rest = are.rest;
  bytes_are = are.bytes_are;
  is_front = asked_or_not checked size f offset are.front are.is_front;
  is_rest = all_asked_or_not checked size fs (offset_after size offset are.front) are.rest are.is_rest;
}

-- a framing is a record
pub framed_reads : (checked : Bool) (size : ℕ) (text : List ℕ) (offset : ℕ) (a : List ℕ) → IsFramedRecord size text offset a → IsRecord checked size text offset a
framed_reads checked size text offset a is =
    let whole = is.whole in
    let filled = some_data size whole.part whole.parts offset is.full in
    let count = ap length whole.text_is in
    record {
      some = λ e. (let none = ap length e in omega arith);
      whole = record { part = whole.part; parts = whole.parts; text_is = whole.text_is; laid = all_asked_or_not checked size (fragments_of true whole.part whole.parts) offset a whole.laid };
    }

-- what is written reads as these records, with a clean end
pub framing_reads : (checked : Bool) (size : ℕ) (texts : List (List ℕ)) (offset : ℕ) (a : List ℕ) → IsFramed size texts offset a → LogOf checked size texts clean offset a
framing_reads checked size [] offset a is = is
framing_reads checked size (text ∷ texts) offset a is = record {
  front = is.front;
  rest = is.rest;
  bytes_are = is.bytes_are;
  is_front = framed_reads checked size text offset is.front is.is_front;
  is_rest = framing_reads checked size texts (offset_after size offset is.front) is.rest is.is_rest;
}

module _ (size : ℕ) (large : 8 ≤ size) where
  pub start : 0 < size
  start = omega arith

  pub offset_after-lt : (offset : ℕ) (a : List ℕ) → offset_after size offset a < size
  offset_after-lt offset a = mod-lt (offset + length a) start

  -- after a fragment that fills its block a block begins
  pub fills : (offset : ℕ) (f : Fragment) (a : List ℕ) → offset < size → IsFragment true size f offset a → length f.part ≡ room size offset → offset_after size offset a ≡ 0
  fills offset f a inside is full =
      let whole = length-fragment true size f offset a is ∙ ap (λ n. length (filler size offset) + (7 + n)) full in
      ap (λ n. (offset + n) % size) whole ∙ block_end size offset large inside

  -- the fragments of a framing are those of no other
  one_cut : (offset : ℕ) → offset < size → (first : Bool) (p : List ℕ) (ps : List (List ℕ)) (q : List ℕ) (qs : List (List ℕ)) (a b : List ℕ)
      → FillBlocks size p ps offset → FillBlocks size q qs offset → AreFragments true size (fragments_of first p ps) offset a → AreFragments true size (fragments_of first q qs) offset b
      → p ++ concat ps ≡ q ++ concat qs → a ≡ b
  one_cut offset inside first p [] q [] a b full_p full_q f g e =
      let same = sym (append-nil p) ∙ e ∙ append-nil q in
      let fronts = same_fragment size _ offset f.front g.front (subst (λ z. IsFragment true size (fragment_of (record_type first true) z) offset f.front) same f.is_front) g.is_front in
      f.bytes_are ∙ ap (λ z. f.front ++ z) (f.is_rest ∙ sym g.is_rest) ∙ ap (λ z. z ++ g.rest) fronts ∙ sym g.bytes_are
  one_cut offset inside first p [] q (q' ∷ qs) a b full_p full_q f g e = absurd (too_short (room size offset) p q (concat (q' ∷ qs)) f.is_front.within full_q.0 (some_data size q' qs 0 full_q.1) (sym (append-nil p) ∙ e))
  one_cut offset inside first p (p' ∷ ps) q [] a b full_p full_q f g e = absurd (too_short (room size offset) q p (concat (p' ∷ ps)) g.is_front.within full_p.0 (some_data size p' ps 0 full_p.1) (sym (append-nil q) ∙ sym e))
  one_cut offset inside first p (p' ∷ ps) q (q' ∷ qs) a b full_p full_q f g e =
      let same = apart p q (concat (p' ∷ ps)) (concat (q' ∷ qs)) (full_p.0 ∙ sym full_q.0) e in
      let fronts = same_fragment size _ offset f.front g.front (subst (λ z. IsFragment true size (fragment_of (record_type first false) z) offset f.front) same.0 f.is_front) g.is_front in
      let rest = one_cut 0 start false p' ps q' qs f.rest g.rest full_p.1 full_q.1
      (subst (λ z. AreFragments true size (fragments_of false p' ps) z f.rest) (fills offset _ f.front inside f.is_front full_p.0) f.is_rest)
      (subst (λ z. AreFragments true size (fragments_of false q' qs) z g.rest) (fills offset _ g.front inside g.is_front full_q.0) g.is_rest) same.1 in
      f.bytes_are ∙ ap (λ z. z ++ f.rest) fronts ∙ ap (λ z. g.front ++ z) rest ∙ sym g.bytes_are

  -- a record has one framing
  pub one_record_framing : (offset : ℕ) → offset < size → (text a b : List ℕ) → IsFramedRecord size text offset a → IsFramedRecord size text offset b → a ≡ b
  one_record_framing offset inside text a b f g = one_cut offset inside true f.whole.part f.whole.parts g.whole.part g.whole.parts a b f.full g.full f.whole.laid g.whole.laid (f.whole.text_is ∙ sym g.whole.text_is)

  -- records have one framing
  pub one_framing : (offset : ℕ) → offset < size → (texts : List (List ℕ)) (a b : List ℕ) → IsFramed size texts offset a → IsFramed size texts offset b → a ≡ b
  one_framing offset inside [] a b f g = f ∙ sym g
  one_framing offset inside (text ∷ texts) a b f g =
      let fronts = one_record_framing offset inside text f.front g.front f.is_front g.is_front in
      let moved = subst (λ z. IsFramed size texts (offset_after size offset z) f.rest) fronts f.is_rest in
      let rest = one_framing (offset_after size offset g.front) (offset_after-lt offset g.front) texts f.rest g.rest moved g.is_rest in
      f.bytes_are ∙ ap (λ z. z ++ f.rest) fronts ∙ ap (λ z. g.front ++ z) rest ∙ sym g.bytes_are

  -- a log after one that ends cleanly
  pub log_append : (checked : Bool) (offset : ℕ) → offset < size → (rs ss : List (List ℕ)) (a b : List ℕ) (e : End)
      → LogOf checked size rs clean offset a → LogOf checked size ss e (offset_after size offset a) b → LogOf checked size (rs ++ ss) e offset (a ++ b)
  log_append checked offset inside [] ss a b e f g =
      subst (LogOf checked size ss e offset) (ap (λ z. z ++ b) (sym f)) (subst (λ z. LogOf checked size ss e z b) (offset_after_none size offset inside a f) g)
  log_append checked offset inside (r ∷ rs) ss a b e f g = record {
    front = f.front;
    rest = f.rest ++ b;
    bytes_are = ap (λ z. z ++ b) f.bytes_are ∙ append_assoc f.front f.rest b;
    is_front = f.is_front;
    is_rest = log_append checked (offset_after size offset f.front) (offset_after-lt offset f.front) rs ss f.rest b e f.is_rest (subst (λ z. LogOf checked size ss e z b) (sym (offset_after_both size offset f.front f.rest a f.bytes_are)) g);
  }

  -- a framing after another
  pub framing_append : (offset : ℕ) → offset < size → (rs ss : List (List ℕ)) (a b : List ℕ)
      → IsFramed size rs offset a → IsFramed size ss (offset_after size offset a) b → IsFramed size (rs ++ ss) offset (a ++ b)
  framing_append offset inside [] ss a b f g =
      subst (IsFramed size ss offset) (ap (λ z. z ++ b) (sym f)) (subst (λ z. IsFramed size ss z b) (offset_after_none size offset inside a f) g)
  framing_append offset inside (r ∷ rs) ss a b f g = record {
    front = f.front;
    rest = f.rest ++ b;
    bytes_are = ap (λ z. z ++ b) f.bytes_are ∙ append_assoc f.front f.rest b;
    is_front = f.is_front;
    is_rest = framing_append (offset_after size offset f.front) (offset_after-lt offset f.front) rs ss f.rest b f.is_rest (subst (λ z. IsFramed size ss z b) (sym (offset_after_both size offset f.front f.rest a f.bytes_are)) g);
  }

-- ---- each list of records that aren't empty has a framing, which a function gives

right_fragment : (size : ℕ) (f : Fragment) (offset : ℕ) → length f.part ≤ room size offset → IsFragment true size f offset (fragment_at size f offset)
unfolding fragment_at
right_fragment size f offset short = record { sum = checksum f; within = short; summed = refl; bytes_are = refl }

module _ (size : ℕ) (large : 8 ≤ size) where
  room_start : 1 ≤ room size 0
  room_start = elim (nat_lt (size - 0) 7) as (λ t. nat_lt (size - 0) 7 ≡ t → 1 ≤ (if t then size else size - 0) - 7) [ true ↦ λ e. omega arith | false ↦ λ e. omega arith ] refl

  -- data that fits is one fragment, the last
  pub last_framed : (first : Bool) (text : List ℕ) (offset : ℕ) → 1 ≤ length text → length text ≤ room size offset → IsFramedRemainder size first text offset (fragment_at size (fragment_of (record_type first true) text) offset)
  last_framed first text offset some short =
      let front = fragment_at size (fragment_of (record_type first true) text) offset in
      record {
        whole = record {
          part = text;
          parts = [];
          text_is = append-nil text;
          laid = record { front = front; rest = []; bytes_are = sym (append-nil front); is_front = right_fragment size _ offset short; is_rest = refl };
        };
        full = λ e. (let none = ap length e in omega arith);
      }

  -- a fragment that fills its block comes before what is left
  pub next_framed : (first : Bool) (part text : List ℕ) (offset : ℕ) (bytes : List ℕ) → offset < size → length part ≡ room size offset → IsFramedRemainder size false text 0 bytes
      → IsFramedRemainder size first (part ++ text) offset (fragment_at size (fragment_of (record_type first false) part) offset ++ bytes)
  next_framed first part text offset bytes inside full rest =
      let front = fragment_at size (fragment_of (record_type first false) part) offset in
      let is_front = right_fragment size (fragment_of (record_type first false) part) offset (omega arith) in
      record {
        whole = record {
          part = part;
          parts = rest.whole.part ∷ rest.whole.parts;
          text_is = ap (λ z. part ++ z) rest.whole.text_is;
          laid = record {
            front = front;
            rest = bytes;
            bytes_are = refl;
            is_front = is_front;
            is_rest = subst (λ z. AreFragments true size (fragments_of false rest.whole.part rest.whole.parts) z bytes) (sym (fills size large offset _ front inside is_front full)) rest.whole.laid;
          };
        };
        full = (full, rest.full);
      }

  step : (fragments : ℕ) (first : Bool) (text : List ℕ) (offset : ℕ) → offset < size → 1 ≤ length text
      → ((rest : List ℕ) → 1 ≤ length rest → length rest + room size offset ≡ length text → IsFramedRemainder size false rest 0 (framed_within fragments size false rest 0))
      → IsFramedRemainder size first text offset (framed_within (suc fragments) size first text offset)
  step fragments first text offset inside some later =
      elim (nat_le (length text) (room size offset)) as (λ t. nat_le (length text) (room size offset) ≡ t → IsFramedRemainder size first text offset (elim t as (λ b. List ℕ) [
        | true ↦ fragment_at size (fragment_of (record_type first true) text) offset
        | false ↦ fragment_at size (fragment_of (record_type first false) (take (room size offset) text)) offset ++ framed_within fragments size false (drop (room size offset) text) 0
      ])) [
        | true ↦ λ e. last_framed first text offset some (leb-true _ _ e)
        | false ↦ λ e.
            let more = leb-false (length text) (room size offset) e in
            let n = length-take (room size offset) text in
            let m = length-drop (room size offset) text in
            let rest = later (drop (room size offset) text) (omega arith) (omega arith) in
            subst (λ z. IsFramedRemainder size first z offset (fragment_at size (fragment_of (record_type first false) (take (room size offset) text)) offset ++ framed_within fragments size false (drop (room size offset) text) 0))
            (take-append-drop (room size offset) text) (next_framed first (take (room size offset) text) (drop (room size offset) text) offset _ inside (omega arith) rest)
      ] refl

  from_start : (fragments : ℕ) (first : Bool) (text : List ℕ) → 1 ≤ length text → length text ≤ fragments → IsFramedRemainder size first text 0 (framed_within fragments size first text 0)
  from_start zero first text some few = absurd (omega arith)
  from_start (suc fragments) first text some few =
      step fragments first text 0 (start size large) some (λ rest l e. (let r = room_start in from_start fragments false rest l (omega arith)))

  -- the function gives the framing of a record that isn't empty
  pub framed_record_is : (text : List ℕ) (offset : ℕ) → offset < size → text ≢ [] → IsFramedRecord size text offset (framed_record size text offset)
  unfolding framed_record
  framed_record_is [] offset inside some = absurd (some refl)
  framed_record_is (byte ∷ text) offset inside some =
      step (suc (length text)) true (byte ∷ text) offset inside (omega arith) (λ t l e. from_start (suc (length text)) false t l (omega arith))

  -- and of records none of which is empty
  pub framed_is : (texts : List (List ℕ)) (offset : ℕ) → offset < size → All (λ text. text ≢ []) texts → IsFramed size texts offset (framed size texts offset)
  framed_is [] offset inside some = refl
  framed_is (text ∷ texts) offset inside some =
      let front = framed_record size text offset in
      record {
        front = front;
        rest = framed size texts (offset_after size offset front);
        bytes_are = refl;
        is_front = framed_record_is text offset inside (All-head (λ z. z ≢ []) text texts some);
        is_rest = framed_is texts (offset_after size offset front) (offset_after-lt size large offset front) (All-tail (λ z. z ≢ []) text texts some);
      }

-- ---- each text of bytes reads as a log

-- ---- facts that hold or don't

abbrev OrNot : Type 0 → Type 0
OrNot P = P ⊎ (P → ⊥)

tested : (b : Bool) {P : Type 0} → (b ≡ true → P) → (P → b ≡ true) → OrNot P
tested true so back = inl (so refl)
tested false so back = inr (λ p. (let e : false ≡ true = back p in cc))

both_or_not : {P Q : Type 0} → OrNot P → OrNot Q → OrNot (P × Q)
both_or_not {P = P} {Q = Q} p q =
    ⊎_elim (λ (a : P). ⊎_elim (λ (b : Q). inl (a, b)) (λ (no_b : Q → ⊥). inr (λ both. no_b both.1)) q) (λ (no_a : P → ⊥). inr (λ both. no_a both.0)) p

same_or_not : (a b : List ℕ) → OrNot (a ≡ b)
same_or_not a b = tested (bytes_eq a b) (bytes_eq-Decides a b).0 (bytes_eq-Decides a b).1

equal_or_not : (m n : ℕ) → OrNot (m ≡ n)
equal_or_not m n = ⊎_elim (λ (yes_so : (_ ≡ true) × (m ≡ n)). inl yes_so.1) (λ (other : (_ ≡ false) × (m ≢ n)). inr other.1) (eqb_tells m n)

at_most_or_not : (m n : ℕ) → OrNot (m ≤ n)
at_most_or_not m n = ⊎_elim (λ (less : (_ ≡ true) × (m ≤ n)). inl less.1) (λ (more : (_ ≡ false) × (n < m)). inr (λ less. omega arith)) (leb_tells m n)

checksum_or_not : (checked : Bool) (f : Fragment) (sum : List ℕ) → OrNot (IsChecksum checked f sum)
checksum_or_not true f sum = same_or_not sum (checksum f)
checksum_or_not false f sum = equal_or_not (length sum) 4

-- ---- a fragment in front

front_again : (bytes front more : List ℕ) → bytes ≡ front ++ more → bytes ≡ front ++ drop (length front) bytes
front_again bytes front more e = e ∙ ap (λ z. front ++ z) (sym (drop_at front more (length front) refl) ∙ ap (drop (length front)) (sym e))

module _ (checked : Bool) (size : ℕ) (fits : size ≤ 32768) where
  record First (offset : ℕ) (bytes : List ℕ) : Type 0 where
    fragment : Fragment
    front : List ℕ
    rest : List ℕ
    bytes_are : bytes ≡ front ++ rest
    is : IsFragment checked size fragment offset front

  -- after the filler come a fragment's bytes and what follows it
  after_filler : (offset : ℕ) (bytes : List ℕ) (f : Fragment) (front more : List ℕ) → bytes ≡ front ++ more → (is : IsFragment checked size f offset front)
      → bytes ≡ filler size offset ++ drop (length (filler size offset)) bytes
  after_filler offset bytes f front more e is =
      front_again bytes (filler size offset) (fragment_bytes is.sum f ++ more) (e ∙ ap (λ z. z ++ more) is.bytes_are ∙ append_assoc (filler size offset) (fragment_bytes is.sum f) more)

  module _ (offset : ℕ) (bytes sum rest : List ℕ) (low high type : ℕ) (four : length sum ≡ 4) (header : sum ++ low ∷ high ∷ type ∷ rest ≡ drop (length (filler size offset)) bytes) where
    -- the fragment of which the header gives
    abbrev told : Fragment
    told = fragment_of type (take (low + 256 * high) rest)

    abbrev IsEntryAt : Type 0
    IsEntryAt = (length told.part ≤ room size offset) × (IsChecksum checked told sum × (bytes ≡ (filler size offset ++ fragment_bytes sum told) ++ drop (length (filler size offset ++ fragment_bytes sum told)) bytes))

    declared_or_none : First offset bytes ⊎ NoFragment checked size offset bytes
    declared_or_none =
        ⊎_elim (λ (stands : IsEntryAt). inl (found stands)) (λ (no : IsEntryAt → ⊥). inr (λ f front more e is. no (stands f front more e is)))
        (both_or_not (at_most_or_not (length told.part) (room size offset)) (both_or_not (checksum_or_not checked told sum) (same_or_not _ _)))
      where
        found : IsEntryAt → First offset bytes
        found stands = record {
          fragment = told;
          front = filler size offset ++ fragment_bytes sum told;
          rest = drop (length (filler size offset ++ fragment_bytes sum told)) bytes;
          bytes_are = stands.1.1;
          is = record { sum = sum; within = stands.0; summed = stands.1.0; bytes_are = refl };
        }

        stands : (f : Fragment) (front more : List ℕ) → bytes ≡ front ++ more → IsFragment checked size f offset front → IsEntryAt
        stands f front more e is =
            let there = sym e ∙ after_filler offset bytes f front more e is ∙ ap (λ z. filler size offset ++ z) (sym header) in
            let tells = header_says checked size fits f offset front more is sum rest low high type four there in
            let part : f.part ≡ take (low + 256 * high) rest = sym (take_at f.part more (low + 256 * high) tells.1) ∙ ap (take (low + 256 * high)) tells.3 in
            let same : f ≡ told = ap (λ z. fragment_of z f.part) tells.2 ∙ ap (fragment_of type) part in
            let summed = subst (λ z. IsChecksum checked z sum) same (subst (IsChecksum checked f) tells.0 is.summed) in
            let bytes_are = is.bytes_are ∙ ap (λ z. filler size offset ++ fragment_bytes z f) tells.0 ∙ ap (λ z. filler size offset ++ fragment_bytes sum z) same in
            (subst (λ z. length z.part ≤ room size offset) same is.within, (summed, front_again bytes _ more (e ∙ ap (λ z. z ++ more) bytes_are)))

  first_or_none : (offset : ℕ) (bytes : List ℕ) → First offset bytes ⊎ NoFragment checked size offset bytes
  first_or_none offset bytes = by_header (drop (length (filler size offset)) bytes) refl
    where
      by_header : (left : List ℕ) → left ≡ drop (length (filler size offset)) bytes → First offset bytes ⊎ NoFragment checked size offset bytes
      by_header (a ∷ b ∷ c ∷ d ∷ low ∷ high ∷ type ∷ rest) e = declared_or_none offset bytes (a ∷ b ∷ c ∷ d ∷ []) rest low high type refl e
      by_header left e =
          let few : length left < 7 = omega arith in
          let whole = ap length e in
          let n = length-drop (length (filler size offset)) bytes in
          inr (none_short checked size offset bytes (omega arith))

  -- ---- what is left of a record, and a record

  record Left (first : Bool) (offset : ℕ) (bytes : List ℕ) : Type 0 where
    text : List ℕ
    front : List ℕ
    rest : List ℕ
    bytes_are : bytes ≡ front ++ rest
    is : IsRemainder checked size first text offset front

  left_or_none : (steps : ℕ) (first : Bool) (offset : ℕ) (bytes : List ℕ) → length bytes < steps → Left first offset bytes ⊎ NoRemainder checked size first offset bytes
  left_or_none zero first offset bytes few = absurd (omega arith)
  left_or_none (suc steps) first offset bytes few =
      ⊎_elim (λ (f : First offset bytes). by_type f (left_or_none steps false (offset_after size offset f.front) f.rest (shorter f)) (equal_or_not f.fragment.type (record_type first true)))
      (λ (none : NoFragment checked size offset bytes). inr (none_without checked size first offset bytes none))
      (first_or_none offset bytes)
    where
      shorter : (f : First offset bytes) → length f.rest < steps
      shorter f =
          let whole = ap length f.bytes_are in
          let both = length-append f.front f.rest in
          let long = length-fragment checked size f.fragment offset f.front f.is in
          omega arith

      by_rest : (f : First offset bytes) → f.fragment.type ≢ record_type first true → f.fragment.type ≡ record_type first false
          → Left false (offset_after size offset f.front) f.rest ⊎ NoRemainder checked size false (offset_after size offset f.front) f.rest → Left first offset bytes ⊎ NoRemainder checked size first offset bytes
      by_rest f not_last goes_on rest =
          ⊎_elim
          (λ (l : Left false (offset_after size offset f.front) f.rest). inl (record {
            text = f.fragment.part ++ l.text;
            front = f.front ++ l.front;
            rest = l.rest;
            bytes_are = f.bytes_are ∙ ap (λ z. f.front ++ z) l.bytes_are ∙ sym (append_assoc f.front l.front l.rest);
            is = next_fragment checked size first f.fragment l.text offset f.front l.front goes_on f.is l.is;
          }))
          (λ (none : NoRemainder checked size false (offset_after size offset f.front) f.rest). inr (none_after checked size fits first f.fragment offset bytes f.front f.rest f.bytes_are f.is not_last (λ goes. none)))
          rest

      by_type : (f : First offset bytes) → Left false (offset_after size offset f.front) f.rest ⊎ NoRemainder checked size false (offset_after size offset f.front) f.rest
          → OrNot (f.fragment.type ≡ record_type first true) → Left first offset bytes ⊎ NoRemainder checked size first offset bytes
      by_type f rest test =
          ⊎_elim
          (λ (is_last : f.fragment.type ≡ record_type first true).
          inl (record { text = f.fragment.part; front = f.front; rest = f.rest; bytes_are = f.bytes_are; is = last_fragment checked size first f.fragment offset f.front is_last f.is }))
          (λ (not_last : f.fragment.type ≢ record_type first true).
          ⊎_elim
          (λ (goes_on : f.fragment.type ≡ record_type first false). by_rest f not_last goes_on rest)
          (λ (other : f.fragment.type ≢ record_type first false). inr (none_after checked size fits first f.fragment offset bytes f.front f.rest f.bytes_are f.is not_last (λ goes. absurd (other goes))))
          (equal_or_not f.fragment.type (record_type first false)))
          test

  record Next (offset : ℕ) (bytes : List ℕ) : Type 0 where
    text : List ℕ
    front : List ℕ
    rest : List ℕ
    bytes_are : bytes ≡ front ++ rest
    is : IsRecord checked size text offset front

  next_or_none : (offset : ℕ) (bytes : List ℕ) → Next offset bytes ⊎ NoRecord checked size offset bytes
  next_or_none offset bytes =
      ⊎_elim (λ (l : Left true offset bytes). by_text l.text l.front l.rest l.bytes_are l.is)
      (λ (none : NoRemainder checked size true offset bytes). inr (no_record_without checked size offset bytes none))
      (left_or_none (suc (length bytes)) true offset bytes (omega arith))
    where
      by_text : (text front rest : List ℕ) → bytes ≡ front ++ rest → IsRemainder checked size true text offset front → Next offset bytes ⊎ NoRecord checked size offset bytes
      by_text [] front rest e is = inr (none_without_data checked size fits offset bytes front rest e is)
      by_text (byte ∷ text) front rest e is = inl (record {
        text = byte ∷ text;
        front = front;
        rest = rest;
        bytes_are = e;
        is = record { some = λ none. (let n = ap length none in omega arith); whole = is };
      })

  -- ---- a log

  abbrev Reads : ℕ → List ℕ → Type 0
  Reads offset bytes = (records : List (List ℕ)) × (end : End) × LogOf checked size records end offset bytes

  reads : (steps offset : ℕ) (bytes : List ℕ) → length bytes < steps → Reads offset bytes
  reads zero offset bytes few = absurd (omega arith)
  reads (suc steps) offset [] few = ([], clean, refl)
  reads (suc steps) offset (byte ∷ bytes) few =
      ⊎_elim
      (λ (r : Next offset (byte ∷ bytes)).
      let some = length-record checked size offset r.text r.front r.is in
      let whole = ap length r.bytes_are in
      let both = length-append r.front r.rest in
      let others = reads steps (offset_after size offset r.front) r.rest (omega arith) in
      (r.text ∷ others.0, others.1, record { front = r.front; rest = r.rest; bytes_are = r.bytes_are; is_front = r.is; is_rest = others.2 }))
      (λ (none : NoRecord checked size offset (byte ∷ bytes)). ([], bad, ((λ e. (let n = ap length e in omega arith)), none)))
      (next_or_none offset (byte ∷ bytes))

  -- each text of bytes reads as some records and an end
  pub log_reads : (offset : ℕ) (bytes : List ℕ) → Reads offset bytes
  log_reads offset bytes = reads (suc (length bytes)) offset bytes (omega arith)
