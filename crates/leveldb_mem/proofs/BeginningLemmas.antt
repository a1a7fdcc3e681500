-- How a record goes on after some of its parts.
use Rattle.std.proofs.Common.{◌≡◌, ◌≢◌, ℕ, ◌<◌, ◌≤◌, Bool, true, false, List, [], ◌∷◌, ◌++◌, length, refl, sym, subst, ◌∙◌, ap, arith, append_assoc, length-append}
use Rattle.leveldb_mem.specs.Log.{offset_after, Fragment, checksum, IsFragment, IsFrontAndRest, AreFragments, record_type, IsRemainder, IsDamagedFragment, begun_of, BreaksOff, fragment_of, NoFragment}
use Rattle.leveldb_mem.proofs.FragmentLemmas.{in_front, unchecked, alike, one_fragment, length-fragment}
use Rattle.leveldb_mem.proofs.LogLemmas.{NoRemainder, next_fragment, none_after, none_without, no_record_without, none_without_data, not_both, offset_after_both, offset_after_none}
use Rattle.leveldb_mem.proofs.CrashLemmas.{breaks_after}
use Rattle.leveldb_mem.specs.Log.Reader.{NeverBreaks, IsTorn}

-- ---- a wrong checksum

-- what breaks off begins with a damaged fragment, or with one that goes on and then breaks off
record Broken (size : ℕ) (first : Bool) (offset : ℕ) (bytes : List ℕ) : Type 0 where
  fragment : Fragment
  front : List ℕ
  rest : List ℕ
  bytes_are : bytes ≡ front ++ rest
  is_front : IsFragment true size fragment offset front
  goes_on : fragment.type ≡ record_type first false
  off : BreaksOff size false (offset_after size offset front) rest

data Break (size : ℕ) (first : Bool) (offset : ℕ) (bytes : List ℕ) : Type 0 where
  at_once : (f : Fragment) → IsDamagedFragment size f offset bytes → Break size first offset bytes
  later : Broken size first offset bytes → Break size first offset bytes

break_of : (size : ℕ) (first : Bool) (offset : ℕ) (bytes : List ℕ) → offset < size → BreaksOff size first offset bytes → Break size first offset bytes
break_of size first offset bytes inside off = by_parts off.parts off.laid
  where
    by_parts : (parts : List (List ℕ)) → IsFrontAndRest size (AreFragments true size (begun_of first parts)) (IsDamagedFragment size off.fragment) offset bytes → Break size first offset bytes
    by_parts [] laid =
        let here = subst (λ z. IsDamagedFragment size off.fragment z laid.rest) (offset_after_none size offset inside laid.front laid.is_front) laid.is_rest in
        at_once off.fragment (subst (IsDamagedFragment size off.fragment offset) (sym (laid.bytes_are ∙ ap (λ z. z ++ laid.rest) laid.is_front)) here)
    by_parts (part ∷ parts) laid =
        let these = laid.is_front in
        later (record {
          fragment = fragment_of (record_type first false) part;
          front = these.front;
          rest = these.rest ++ laid.rest;
          bytes_are = laid.bytes_are ∙ ap (λ z. z ++ laid.rest) these.bytes_are ∙ append_assoc these.front these.rest laid.rest;
          is_front = these.is_front;
          goes_on = refl;
          off = record {
            parts = parts;
            fragment = off.fragment;
            laid = record {
              front = these.rest;
              rest = laid.rest;
              bytes_are = refl;
              is_front = these.is_rest;
              is_rest = subst (λ z. IsDamagedFragment size off.fragment z laid.rest) (sym (offset_after_both size offset these.front these.rest laid.front these.bytes_are)) laid.is_rest;
            };
          };
        })

module _ (size : ℕ) (fits : size ≤ 32768) where
  -- where there is no fragment none has a wrong checksum
  pub never_without : (first : Bool) (offset : ℕ) (bytes : List ℕ) → offset < size → NoFragment false size offset bytes → NeverBreaks size first offset bytes
  never_without first offset bytes inside none front more e off = by_break (break_of size first offset front inside off)
    where
      by_break : Break size first offset front → ⊥
      by_break (at_once f damaged) = none f front more e damaged.unchecked
      by_break (later b) = none b.fragment b.front (b.rest ++ more) (e ∙ sym (in_front front b.front b.rest more (front ++ more) b.bytes_are refl)) (unchecked true size b.fragment offset b.front b.is_front)

  -- after a fragment with a right checksum a record breaks off only where the fragment goes on
  pub never_after : (first : Bool) (f : Fragment) (offset : ℕ) (part rest : List ℕ) → offset < size → IsFragment true size f offset part
      → (f.type ≡ record_type first false → NeverBreaks size false (offset_after size offset part) rest) → NeverBreaks size first offset (part ++ rest)
  never_after first f offset part rest inside is never front more e off = by_break (break_of size first offset front inside off)
    where
      by_break : Break size first offset front → ⊥
      by_break (at_once g damaged) =
          let same = alike false size fits offset g f front part more rest damaged.unchecked (unchecked true size f offset part is) (sym e) in
          damaged.wrong (same.0 ∙ is.summed ∙ ap checksum (sym same.1))
      by_break (later b) =
          let joined : b.front ++ (b.rest ++ more) ≡ part ++ rest = in_front front b.front b.rest more (part ++ rest) b.bytes_are (sym e) in
          let same = one_fragment true size fits offset b.fragment f b.front part (b.rest ++ more) rest b.is_front is joined in
          never (ap (λ g. g.type) (sym same.0) ∙ b.goes_on) b.rest more (sym same.2) (subst (λ z. BreaksOff size false (offset_after size offset z) b.rest) same.1 b.off)

-- ---- parts

-- after this front, which has the parts with this text, what is left of the record decides on the
-- whole
pub record BeginsRecord (checked : Bool) (size offset : ℕ) (first : Bool) (front text : List ℕ) : Type 0 where
  pub whole : (others rest : List ℕ) → IsRemainder checked size first others (offset_after size offset front) rest → IsRemainder checked size true (text ++ others) offset (front ++ rest)
  pub none : (rest : List ℕ) → NoRemainder checked size first (offset_after size offset front) rest → NoRemainder checked size true offset (front ++ rest)
  pub breaks : checked ≡ true → (rest : List ℕ) → BreaksOff size first (offset_after size offset front) rest → BreaksOff size true offset (front ++ rest)
  pub never : checked ≡ true → (rest : List ℕ) → NeverBreaks size first (offset_after size offset front) rest → NeverBreaks size true offset (front ++ rest)

module _ (checked : Bool) (size offset : ℕ) (inside : offset < size) where
  here : offset_after size offset [] ≡ offset
  here = offset_after_none size offset inside [] refl

  -- before its first part
  pub begins_none : BeginsRecord checked size offset true [] []
  begins_none = record {
    whole = λ others rest is. subst (λ z. IsRemainder checked size true others z rest) here is;
    none = λ rest none. subst (λ z. NoRemainder checked size true z rest) here none;
    breaks = λ asked rest off. subst (λ z. BreaksOff size true z rest) here off;
    never = λ asked rest never. subst (λ z. NeverBreaks size true z rest) here never;
  }

  module _ (fits : size ≤ 32768) (first : Bool) (front text : List ℕ) (leads : BeginsRecord checked size offset first front text) (there : offset_after size offset front < size) where
    -- after one part more
    pub begins_more : (f : Fragment) (part : List ℕ) → IsFragment checked size f (offset_after size offset front) part → f.type ≡ record_type first false → BeginsRecord checked size offset false (front ++ part) (text ++ f.part)
    begins_more f part is goes_on =
        let further = offset_after_both size offset front part (front ++ part) refl in
        let right : checked ≡ true → IsFragment true size f (offset_after size offset front) part = λ asked. subst (λ c. IsFragment c size f (offset_after size offset front) part) asked is in
        record {
          whole = λ others rest rem.
              subst (λ z. IsRemainder checked size true z offset ((front ++ part) ++ rest)) (sym (append_assoc text f.part others)) (subst (IsRemainder checked size true (text ++ (f.part ++ others)) offset) (sym (append_assoc front part rest))
              (leads.whole (f.part ++ others) (part ++ rest) (next_fragment checked size first f others (offset_after size offset front) part rest goes_on is (subst (λ z. IsRemainder checked size false others z rest) (sym further) rem))));
          none = λ rest none.
              subst (NoRemainder checked size true offset) (sym (append_assoc front part rest))
              (leads.none (part ++ rest) (none_after checked size fits first f (offset_after size offset front) (part ++ rest) part rest refl is (λ last. not_both first (sym last ∙ goes_on)) (λ goes. subst (λ z. NoRemainder checked size false z rest) (sym further) none)));
          breaks = λ asked rest off.
              subst (BreaksOff size true offset) (sym (append_assoc front part rest))
              (leads.breaks asked (part ++ rest) (breaks_after size first f (offset_after size offset front) part rest goes_on (right asked) (subst (λ z. BreaksOff size false z rest) (sym further) off)));
          never = λ asked rest never.
              subst (NeverBreaks size true offset) (sym (append_assoc front part rest))
              (leads.never asked (part ++ rest) (never_after size fits first f (offset_after size offset front) part rest there (right asked) (λ goes. subst (λ z. NeverBreaks size false z rest) (sym further) never)));
        }

    -- where nothing of the record is left
    pub torn_without : (rest : List ℕ) → front ++ rest ≢ [] → NoRemainder checked size first (offset_after size offset front) rest → (checked ≡ true → NeverBreaks size first (offset_after size offset front) rest) → IsTorn checked size offset (front ++ rest)
    torn_without rest some none never = record {
      ends = (some, no_record_without checked size offset (front ++ rest) (leads.none rest none));
      never_breaks = λ asked. leads.never asked rest (never asked);
    }

    -- where no fragment comes
    pub torn_at_none : (rest : List ℕ) → front ++ rest ≢ [] → NoFragment false size (offset_after size offset front) rest → IsTorn checked size offset (front ++ rest)
    torn_at_none rest some none =
        let asked_or_not : NoFragment checked size (offset_after size offset front) rest = λ f found more e is. none f found more e (unchecked checked size f (offset_after size offset front) found is) in
        torn_without rest some (none_without checked size first (offset_after size offset front) rest asked_or_not) (λ asked. never_without size fits first (offset_after size offset front) rest there none)

    module _ (f : Fragment) (part : List ℕ) (is : IsFragment checked size f (offset_after size offset front) part) where
      never_here : (f.type ≡ record_type first false → ⊥) → (more : List ℕ) → checked ≡ true → NeverBreaks size first (offset_after size offset front) (part ++ more)
      never_here other more asked = never_after size fits first f (offset_after size offset front) part more there (subst (λ c. IsFragment c size f (offset_after size offset front) part) asked is) (λ goes. absurd (other goes))

      some_here : (more : List ℕ) → front ++ (part ++ more) ≢ []
      some_here more e =
          let n = ap length e in
          let a = length-append front (part ++ more) in
          let b = length-append part more in
          let long = length-fragment checked size f (offset_after size offset front) part is in
          omega arith

      -- where a part comes that has no place
      pub torn_at_other : f.type ≢ record_type first true → f.type ≢ record_type first false → (more : List ℕ) → IsTorn checked size offset (front ++ (part ++ more))
      torn_at_other not_last not_more more =
          torn_without (part ++ more) (some_here more)
          (none_after checked size fits first f (offset_after size offset front) (part ++ more) part more refl is not_last (λ goes. absurd (not_more goes))) (never_here not_more more)

      -- where a record ends that has no data
      pub torn_without_data : f.type ≡ record_type first true → IsRemainder checked size true [] offset (front ++ part) → (more : List ℕ) → IsTorn checked size offset (front ++ (part ++ more))
      torn_without_data last empty more = record {
        ends = (some_here more, none_without_data checked size fits offset (front ++ (part ++ more)) (front ++ part) more (sym (append_assoc front part more)) empty);
        never_breaks = λ asked. leads.never asked (part ++ more) (never_here (λ goes. not_both first (sym last ∙ goes)) more asked);
      }
