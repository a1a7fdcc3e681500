-- Damaged logs: wrong checksums, and what a crash leaves.
use Rattle.std.proofs.Common.{◌≡◌, ◌≢◌, ℕ, ◌+◌, ◌<◌, ◌≤◌, Bool, true, false, List, [], ◌∷◌, ◌++◌, length, refl, sym, ◌∙◌, ap, subst, arith, append_assoc, length-append, ◌%◌, take, drop, append-nil, ◌⊎◌, inl, inr, ⊎_elim, nat_le, length-take, length-drop}
use Rattle.std.proofs.Math.Nat.{mod-lt}
use Rattle.std.proofs.lemmas.List.{take_at, drop_at, take-append-drop, take-append-le}
use Rattle.std.proofs.lemmas.Bool.{leb-true, leb-false}
use Rattle.leveldb_mem.specs.Log.{offset_after, Fragment, checksum, IsFragment, IsFrontAndRest, AreFragments, record_type, bad, Ends, IsDamagedFragment, begun_of, BreaksOff, fragment_of, NoFragment, fragments_of, End, clean, LogOf, FragmentBegins, FragmentAt, HonestTail, IsBlockSize, framed_record}
use Rattle.leveldb_mem.proofs.FragmentLemmas.{in_front, unchecked, alike, one_fragment, length-fragment, split}
use Rattle.leveldb_mem.proofs.LogLemmas.{NoRemainder, none_without, none_after, no_record_without, not_both, same_first, offset_after_both, offset_after_none, length-record, cut_log, start, offset_after-lt, nothing_more, first_records, framed_reads, log_append, framed_record_is, log_reads}

-- ---- a log that breaks off with a wrong checksum has a bad end there, and does so at one offset at most

-- a fragment with a wrong checksum breaks a log off
pub breaks_here : (size : ℕ) (first : Bool) (f : Fragment) (offset : ℕ) (bytes : List ℕ) → offset < size → IsDamagedFragment size f offset bytes → BreaksOff size first offset bytes
breaks_here size first f offset bytes inside is = record {
  parts = [];
  fragment = f;
  laid = record { front = []; rest = bytes; bytes_are = refl; is_front = refl; is_rest = subst (λ z. IsDamagedFragment size f z bytes) (sym (offset_after_none size offset inside [] refl)) is };
}

-- so does one after a part of the record
pub breaks_after : (size : ℕ) (first : Bool) (f : Fragment) (offset : ℕ) (front rest : List ℕ) → f.type ≡ record_type first false → IsFragment true size f offset front
    → BreaksOff size false (offset_after size offset front) rest → BreaksOff size first offset (front ++ rest)
breaks_after size first f offset front rest goes_on is off =
    let laid = off.laid in
    record {
      parts = f.part ∷ off.parts;
      fragment = off.fragment;
      laid = record {
        front = front ++ laid.front;
        rest = laid.rest;
        bytes_are = ap (λ z. front ++ z) laid.bytes_are ∙ sym (append_assoc front laid.front laid.rest);
        is_front = record { front = front; rest = laid.front; bytes_are = refl; is_front = subst (λ type. IsFragment true size (fragment_of type f.part) offset front) goes_on is; is_rest = laid.is_front };
        is_rest = subst (λ z. IsDamagedFragment size off.fragment z laid.rest) (offset_after_both size offset front laid.front (front ++ laid.front) refl) laid.is_rest;
      };
    }

module _ (size : ℕ) (fits : size ≤ 32768) where
  -- where a wrong checksum is there is no fragment
  no_fragment : (f : Fragment) (offset : ℕ) (front more : List ℕ) → IsDamagedFragment size f offset front → NoFragment true size offset (front ++ more)
  no_fragment f offset front more damaged g found others e is =
      let same = alike false size fits offset g f found front others more (unchecked true size g offset found is) damaged.unchecked (sym e) in
      damaged.wrong (sym same.0 ∙ is.summed ∙ ap checksum same.1)

  -- these parts of a record, and then this fragment with a wrong checksum
  abbrev Broken : Bool → List (List ℕ) → Fragment → ℕ → List ℕ → Type 0
  Broken first parts f offset bytes = IsFrontAndRest size (AreFragments true size (begun_of first parts)) (IsDamagedFragment size f) offset bytes

  -- without parts the bytes are the damaged fragment
  damaged_here : (first : Bool) (f : Fragment) (offset : ℕ) (bytes : List ℕ) → offset < size → Broken first [] f offset bytes → IsDamagedFragment size f offset bytes
  damaged_here first f offset bytes inside laid =
      let here = subst (λ z. IsDamagedFragment size f z laid.rest) (offset_after_none size offset inside laid.front laid.is_front) laid.is_rest in
      subst (IsDamagedFragment size f offset) (sym (laid.bytes_are ∙ ap (λ z. z ++ laid.rest) laid.is_front)) here

  -- otherwise a part comes before the others
  next_part : (first : Bool) (part : List ℕ) (parts : List (List ℕ)) (f : Fragment) (offset : ℕ) (bytes : List ℕ) → Broken first (part ∷ parts) f offset bytes
      → IsFrontAndRest size (IsFragment true size (fragment_of (record_type first false) part)) (Broken false parts f) offset bytes
  next_part first part parts f offset bytes laid =
      let these = laid.is_front in
      record {
        front = these.front;
        rest = these.rest ++ laid.rest;
        bytes_are = laid.bytes_are ∙ ap (λ z. z ++ laid.rest) these.bytes_are ∙ append_assoc these.front these.rest laid.rest;
        is_front = these.is_front;
        is_rest = record {
          front = these.rest;
          rest = laid.rest;
          bytes_are = refl;
          is_front = these.is_rest;
          is_rest = subst (λ z. IsDamagedFragment size f z laid.rest) (sym (offset_after_both size offset these.front these.rest laid.front these.bytes_are)) laid.is_rest;
        };
      }

  -- where bytes break off there is nothing of a record
  none_left : (first : Bool) (offset : ℕ) (parts : List (List ℕ)) (f : Fragment) (front more : List ℕ) → offset < size → Broken first parts f offset front → NoRemainder true size first offset (front ++ more)
  none_left first offset [] f front more inside laid = none_without true size first offset (front ++ more) (no_fragment f offset front more (damaged_here first f offset front inside laid))
  none_left first offset (part ∷ parts) f front more inside laid =
      let next = next_part first part parts f offset front laid in
      let none = none_left false (offset_after size offset next.front) parts f next.rest more (mod-lt (offset + length next.front) (omega arith)) next.is_rest in
      let whole = ap (λ z. z ++ more) next.bytes_are ∙ append_assoc next.front next.rest more in
      none_after true size fits first (fragment_of (record_type first false) part) offset (front ++ more) next.front (next.rest ++ more) whole next.is_front (λ e. not_both first (sym e)) (λ goes. none)

  -- bytes that break off have a bad end
  pub breaks_bad : (offset : ℕ) (front more : List ℕ) → offset < size → BreaksOff size true offset front → Ends true size bad offset (front ++ more)
  breaks_bad offset front more inside off =
      let none = none_left true offset off.parts off.fragment front more inside off.laid in
      let damaged = length-fragment false size off.fragment _ off.laid.rest off.laid.is_rest.unchecked in
      let whole = ap length off.laid.bytes_are in
      let both = length-append off.laid.front off.laid.rest in
      let all = length-append front more in
      ((λ e. (let n = ap length e in omega arith)), no_record_without true size offset (front ++ more) none)

  -- no part of a record is where a damaged fragment does
  not_here : (first : Bool) (part : List ℕ) (parts : List (List ℕ)) (f g : Fragment) (offset : ℕ) (a b x y : List ℕ) → offset < size → Broken first [] f offset a → Broken first (part ∷ parts) g offset b → a ++ x ≢ b ++ y
  not_here first part parts f g offset a b x y inside these those e =
      let next = next_part first part parts g offset b those in
      no_fragment f offset a x (damaged_here first f offset a inside these) _ next.front (next.rest ++ y) (sym (in_front b next.front next.rest y (a ++ x) next.bytes_are (sym e))) next.is_front

  -- bytes that break off in one text do so at the same offset
  same_break : (first : Bool) (offset : ℕ) (ps qs : List (List ℕ)) (f g : Fragment) (a b x y : List ℕ) → offset < size → Broken first ps f offset a → Broken first qs g offset b → a ++ x ≡ b ++ y → a ≡ b
  same_break first offset [] [] f g a b x y inside these those e =
      (one_fragment false size fits offset f g a b x y (damaged_here first f offset a inside these).unchecked (damaged_here first g offset b inside those).unchecked e).1
  same_break first offset [] (q ∷ qs) f g a b x y inside these those e = absurd (not_here first q qs f g offset a b x y inside these those e)
  same_break first offset (p ∷ ps) [] f g a b x y inside these those e = absurd (not_here first p ps g f offset b a y x inside those these (sym e))
  same_break first offset (p ∷ ps) (q ∷ qs) f g a b x y inside these those e =
      let next = next_part first p ps f offset a these in
      let other = next_part first q qs g offset b those in
      let same = same_first true size fits offset _ _ _ _ a b x y next other e in
      let moved = subst (λ z. Broken false ps f (offset_after size offset z) next.rest) same.1 next.is_rest in
      let rest = same_break false (offset_after size offset other.front) ps qs f g next.rest other.rest x y (mod-lt (offset + length other.front) (omega arith)) moved other.is_rest same.2 in
      next.bytes_are ∙ ap (λ z. z ++ next.rest) same.1 ∙ ap (λ z. other.front ++ z) rest ∙ sym other.bytes_are

  -- bytes break off at one offset at most
  pub breaks_once : (offset : ℕ) (these those more others : List ℕ) → offset < size → BreaksOff size true offset these → BreaksOff size true offset those → these ++ more ≡ those ++ others → these ≡ those
  breaks_once offset these those more others inside off other e = same_break true offset off.parts other.parts off.fragment other.fragment these those more others inside off.laid other.laid e

-- ---- what a crash leaves of a log reads as a prefix of the records that were there

-- Wherever whole fragments are followed by one, and what is left has one there too, the two are the
-- same.
abbrev Unforged : ℕ → ℕ → List ℕ → List ℕ → Type 0
Unforged size offset written left =
    (fragments : List Fragment) (before front more begin other rest : List ℕ) (f g : Fragment)
    → AreFragments true size fragments offset before → written ≡ before ++ (front ++ more) → IsFragment true size f (offset_after size offset before) front
    → left ≡ begin ++ (other ++ rest) → length begin ≡ length before → IsFragment true size g (offset_after size offset before) other → front ≡ other

-- a front that goes on with a front of the rest
longer_front : (whole front rest these more others : List ℕ) → whole ≡ front ++ rest → front ≡ these → rest ≡ more ++ others → whole ≡ (these ++ more) ++ others
longer_front whole front rest these more others e same d = e ∙ ap (λ z. z ++ rest) same ∙ ap (λ z. these ++ z) d ∙ sym (append_assoc these more others)

module _ (size : ℕ) (large : 8 ≤ size) (fits : size ≤ 32768) where
  -- the first fragments are the same, and what comes after them is unforged too
  first_same : (offset : ℕ) → offset < size → (f g : Fragment) (a b x y w l : List ℕ) → IsFragment true size f offset a → IsFragment true size g offset b
      → w ≡ a ++ x → l ≡ b ++ y → Unforged size offset w l → (f ≡ g) × (a ≡ b) × Unforged size (offset_after size offset b) x y
  first_same offset inside f g a b x y w l is_a is_b e d unforged =
      let here : offset_after size offset [] ≡ offset = offset_after_none size offset inside [] refl in
      let same = unforged [] [] a x [] b y f g refl e (subst (λ z. IsFragment true size f z a) (sym here) is_a) d refl (subst (λ z. IsFragment true size g z b) (sym here) is_b) in
      let fragments = one_fragment true size fits offset f g a b [] [] is_a is_b (ap (λ z. z ++ []) same) in (
        fragments.0,
        same,
        λ chain before front more begin other rest h k are xs there ys lengths here'.
            (let moved : offset_after size (offset_after size offset b) before ≡ offset_after size offset (a ++ before) =
            ap (λ z. offset_after size (offset_after size offset z) before) (sym same) ∙ offset_after_both size offset a before (a ++ before) refl in
            let n = length-append b begin in
            let m = length-append a before in
            let whole = ap length same in
            unforged (f ∷ chain) (a ++ before) front more (b ++ begin) other rest h k
            (record { front = a; rest = before; bytes_are = refl; is_front = is_a; is_rest = subst (λ z. AreFragments true size chain (offset_after size offset z) before) (sym same) are })
            (e ∙ ap (λ z. a ++ z) xs ∙ sym (append_assoc a before (front ++ more)))
            (subst (λ z. IsFragment true size h z front) moved there)
            (d ∙ ap (λ z. b ++ z) ys ∙ sym (append_assoc b begin (other ++ rest)))
            (omega arith)
            (subst (λ z. IsFragment true size k z other) moved here')),
      )

  same_start : (offset : ℕ) → offset < size → (f g : Fragment) (P Q : ℕ → List ℕ → Type 0) (a b x y w l : List ℕ) (these : IsFrontAndRest size (IsFragment true size f) P offset a) (those : IsFrontAndRest size (IsFragment true size g) Q offset b)
      → w ≡ a ++ x → l ≡ b ++ y → Unforged size offset w l → (f ≡ g) × (these.front ≡ those.front) × Unforged size (offset_after size offset those.front) (these.rest ++ x) (those.rest ++ y)
  same_start offset inside f g P Q a b x y w l these those e d unforged =
      first_same offset inside f g these.front those.front (these.rest ++ x) (those.rest ++ y) w l these.is_front those.is_front
      (e ∙ sym (in_front a these.front these.rest x (a ++ x) these.bytes_are refl)) (d ∙ sym (in_front b those.front those.rest y (b ++ y) those.bytes_are refl)) unforged

  at_end : (offset : ℕ) (b front f g x y : List ℕ) → f ≡ [] → g ≡ [] → b ≡ front ++ g → Unforged size (offset_after size offset front) (f ++ x) (g ++ y) → Unforged size (offset_after size offset b) x y
  at_end offset b front f g x y none_f none_g is unforged =
      let whole : b ≡ front = is ∙ ap (λ z. front ++ z) none_g ∙ append-nil front in
      subst (λ z. Unforged size (offset_after size offset z) x y) (sym whole)
      (subst (λ z. Unforged size (offset_after size offset front) x (z ++ y)) none_g (subst (λ z. Unforged size (offset_after size offset front) (z ++ x) (g ++ y)) none_f unforged))

  -- what is left of a record is the same, and what comes after it is unforged too
  same_parts : (offset : ℕ) → offset < size → (first : Bool) (p : List ℕ) (ps : List (List ℕ)) (q : List ℕ) (qs : List (List ℕ)) (a b x y w l : List ℕ)
      → AreFragments true size (fragments_of first p ps) offset a → AreFragments true size (fragments_of first q qs) offset b → w ≡ a ++ x → l ≡ b ++ y → Unforged size offset w l
      → (a ≡ b) × Unforged size (offset_after size offset b) x y
  same_parts offset inside first p [] q [] a b x y w l f g e d unforged =
      let same = same_start offset inside _ _ _ _ a b x y w l f g e d unforged in
      let bytes = f.bytes_are ∙ ap (λ z. f.front ++ z) (f.is_rest ∙ sym g.is_rest) ∙ ap (λ z. z ++ g.rest) same.1 ∙ sym g.bytes_are in
      (bytes, at_end offset b g.front f.rest g.rest x y f.is_rest g.is_rest g.bytes_are same.2)
  same_parts offset inside first p [] q (q' ∷ qs) a b x y w l f g e d unforged =
      absurd (not_both first (ap (λ fragment. fragment.type) (same_start offset inside _ _ _ _ a b x y w l f g e d unforged).0))
  same_parts offset inside first p (p' ∷ ps) q [] a b x y w l f g e d unforged =
      absurd (not_both first (sym (ap (λ fragment. fragment.type) (same_start offset inside _ _ _ _ a b x y w l f g e d unforged).0)))
  same_parts offset inside first p (p' ∷ ps) q (q' ∷ qs) a b x y w l f g e d unforged =
      let same = same_start offset inside _ _ _ _ a b x y w l f g e d unforged in
      let moved = subst (λ z. AreFragments true size (fragments_of false p' ps) (offset_after size offset z) f.rest) same.1 f.is_rest in
      let rest = same_parts (offset_after size offset g.front) (offset_after-lt size large offset g.front) false p' ps q' qs f.rest g.rest x y (f.rest ++ x) (g.rest ++ y) moved g.is_rest refl refl same.2 in
      let bytes = f.bytes_are ∙ ap (λ z. z ++ f.rest) same.1 ∙ ap (λ z. g.front ++ z) rest.0 ∙ sym g.bytes_are in
      (bytes, subst (λ z. Unforged size z x y) (offset_after_both size offset g.front g.rest b g.bytes_are) rest.1)

  -- the records of what is left are a front of what was written
  unforged_log : (offset : ℕ) → offset < size → (rs ss : List (List ℕ)) (w l : List ℕ) (e : End) → LogOf true size rs clean offset w → LogOf true size ss e offset l
      → Unforged size offset w l → length l ≤ length w → (front more : List ℕ) × (w ≡ front ++ more) × (length front ≤ length l) × LogOf true size ss clean offset front
  unforged_log offset inside rs [] w l e f g unforged short = ([], w, refl, omega arith, refl)
  unforged_log offset inside [] (s ∷ ss) w l e f g unforged short =
      let some = length-record true size offset s g.front g.is_front in
      let both = length-append g.front g.rest in
      let whole = ap length g.bytes_are in
      let none = ap length f in
      absurd (omega arith)
  unforged_log offset inside (r ∷ rs) (s ∷ ss) w l e f g unforged short =
      let u = f.is_front.whole in
      let v = g.is_front.whole in
      let same = same_parts offset inside true u.part u.parts v.part v.parts f.front g.front f.rest g.rest w l u.laid v.laid f.bytes_are g.bytes_are unforged in
      let n = length-append f.front f.rest in
      let m = length-append g.front g.rest in
      let front = ap length same.0 in
      let wn = ap length f.bytes_are in
      let ln = ap length g.bytes_are in
      let moved = subst (λ z. LogOf true size rs clean (offset_after size offset z) f.rest) same.0 f.is_rest in
      let others = unforged_log (offset_after size offset g.front) (offset_after-lt size large offset g.front) rs ss f.rest g.rest e moved g.is_rest same.1 (omega arith) in
      let k = length-append g.front others.0 in
      let whole = longer_front w f.front f.rest g.front others.0 others.1 f.bytes_are same.0 others.2 in
      (g.front ++ others.0, others.1, whole, omega arith, record { front = g.front; rest = others.0; bytes_are = refl; is_front = g.is_front; is_rest = others.4 })

  -- an honest tail of what is written forges nothing of it, nor of what would be written after it
  honest_unforged : (written more left : List ℕ) → length left ≤ length written → HonestTail size written left → Unforged size 0 (written ++ more) left
  honest_unforged written more left short honest fragments before front others begin other rest f g chain e is d l found =
      let n = length-append begin (other ++ rest) in
      let m = length-append other rest in
      let t = ap length d in
      let w = split written more before (front ++ others) (omega arith) e in
      let long = length-fragment true size g (offset_after size 0 before) other found in
      let left_of_w = ap length w.1 ∙ length-append before w.0 in
      let began : FragmentBegins size written (length before) = record {
        before = before;
        rest = w.0;
        bytes_are = w.1;
        offset_is = refl;
        fragments = fragments;
        whole = chain;
        fragment = f;
        written = front;
        is_fragment = is;
        agree = record { more = more; others = others; same = w.2 };
        begun = omega arith;
      } in
      let stands : FragmentAt size left (length before) (length other) = record {
        before = begin;
        found = other;
        rest = rest;
        bytes_are = d;
        offset_is = l;
        length_is = refl;
        fragment = g;
        is_fragment = subst (λ z. IsFragment true size g ((0 + z) % size) other) (sym l) found;
      } in
      let same = honest (length before) (length other) began stands in
      let found_there : take (length other) (drop (length before) left) ≡ other =
      ap (λ z. take (length other) (drop (length before) z)) d ∙ ap (take (length other)) (drop_at begin (other ++ rest) (length before) l) ∙ take_at other rest (length other) refl in
      let written_there : take (length other) (drop (length before) written) ≡ take (length other) w.0 =
      ap (λ z. take (length other) (drop (length before) z)) w.1 ∙ ap (take (length other)) (drop_at before w.0 (length before) refl) in
      let begins : w.0 ≡ other ++ drop (length other) w.0 =
      sym (take-append-drop (length other) w.0) ∙ ap (λ z. z ++ drop (length other) w.0) (sym written_there ∙ sym same ∙ found_there) in
      let joined : front ++ others ≡ other ++ (drop (length other) w.0 ++ more) = sym w.2 ∙ ap (λ z. z ++ more) begins ∙ append_assoc other (drop (length other) w.0) more in
      (one_fragment true size fits (offset_after size 0 before) f g front other others (drop (length other) w.0 ++ more) is found joined).1

  -- The records of what an honest crash leaves are a front of the bytes: of a log, or of a log of
  -- which the last bytes weren't appended.
  pub honest_front : (written more left : List ℕ) (rs ss : List (List ℕ)) (e : End) → LogOf true size rs clean 0 (written ++ more) → LogOf true size ss e 0 left
      → length left ≤ length written → HonestTail size written left → (front rest : List ℕ) × (written ≡ front ++ rest) × LogOf true size ss clean 0 front
  honest_front written more left rs ss e f g short honest =
      let longer = length-append written more in
      let same = unforged_log 0 (start size large) rs ss (written ++ more) left e f g (honest_unforged written more left short honest) (omega arith) in
      let cut = split written more same.0 same.1 (omega arith) same.2 in
      (same.0, cut.0, cut.1, same.4)

  -- so they are a prefix of the records that were there
  pub honest_stood : (written more left : List ℕ) (rs stood ss : List (List ℕ)) (d e : End) → LogOf true size rs clean 0 (written ++ more) → LogOf true size stood d 0 written → LogOf true size ss e 0 left
      → length left ≤ length written → HonestTail size written left → (others : List (List ℕ)) × (stood ≡ ss ++ others)
  honest_stood written more left rs stood ss d e f is g short honest =
      let same = honest_front written more left rs ss e f g short honest in
      cut_log true size fits 0 same.0 same.1 stood ss d clean (subst (LogOf true size stood d 0) same.2 is) same.3

  -- and of those that would have stood with the bytes that weren't appended
  pub honest_log : (written more left : List ℕ) (rs ss : List (List ℕ)) (e : End) → LogOf true size rs clean 0 (written ++ more) → LogOf true size ss e 0 left
      → length left ≤ length written → HonestTail size written left → (others : List (List ℕ)) × (rs ≡ ss ++ others)
  honest_log written more left rs ss e f g short honest =
      let same = honest_front written more left rs ss e f g short honest in
      let whole = ap (λ z. z ++ more) same.2 ∙ append_assoc same.0 same.1 more in
      cut_log true size fits 0 same.0 (same.1 ++ more) rs ss clean clean (subst (LogOf true size rs clean 0) whole f) same.3

-- ---- a log's file: one record more, a record that is cut short, and a crash

-- a prefix of some records and one more
pub beginning : (records found others : List (List ℕ)) (one : List ℕ) → records ++ one ∷ [] ≡ found ++ others
    → ((length found ≤ length records) × (found ≡ take (length found) records)) ⊎ (found ≡ records ++ one ∷ [])
beginning records found [] one e = inr (sym (e ∙ append-nil found))
beginning records found (other ∷ others) one e =
    let whole = ap length e in
    let n = length-append records (one ∷ []) in
    let m = length-append found (other ∷ others) in
    let few : length found ≤ length records = omega arith in
    inl (few, sym (take_at found (other ∷ others) (length found) refl) ∙ ap (take (length found)) (sym e) ∙ take-append-le (length found) records (one ∷ []) few)

-- records that go on with others, and are no more than they
pub all_of : (records found others : List (List ℕ)) → found ≡ records ++ others → length found ≤ length records → found ≡ records
all_of records found [] e few = e ∙ append-nil records
all_of records found (other ∷ others) e few =
    let whole = ap length e in
    let n = length-append records (other ∷ others) in
    absurd (omega arith)

-- a fragment is within the bytes
pub within : (size : ℕ) (bytes : List ℕ) (offset n : ℕ) → FragmentAt size bytes offset n → offset + n ≤ length bytes
within size bytes offset n there =
    let whole = ap length there.bytes_are in
    let a = length-append there.before (there.found ++ there.rest) in
    let b = length-append there.found there.rest in
    let at = there.offset_is in
    let many = there.length_is in
    omega arith

module _ (size : ℕ) (block : IsBlockSize size) where
  abbrev LogFile : List ℕ → List (List ℕ) → End → Type 0
  LogFile bytes records end = LogOf true size records end 0 bytes

  abbrev frame : ℕ → List ℕ → List ℕ
  frame offset text = framed_record size text (offset % size)

  -- after a clean end the frame of a record is one record more
  pub one_more : (bytes : List ℕ) (records : List (List ℕ)) (text : List ℕ) → text ≢ [] → LogFile bytes records clean → LogFile (bytes ++ frame (length bytes) text) (records ++ text ∷ []) clean
  one_more bytes records text some is =
      let offset = offset_after size 0 bytes in
      let at : length bytes % size ≡ offset = (let z : length bytes ≡ 0 + length bytes = omega arith in ap (λ n. n % size) z) in
      let front = frame (length bytes) text in
      let inside = mod-lt (length bytes) (start size block.least) in
      let is_frame = framed_reads true size text (length bytes % size) front (framed_record_is size block.least text (length bytes % size) inside some) in
      let one : LogOf true size (text ∷ []) clean (length bytes % size) front = record { front = front; rest = []; bytes_are = sym (append-nil front); is_front = is_frame; is_rest = refl } in
      log_append size block.least true 0 (start size block.least) records (text ∷ []) bytes front clean is (subst (λ z. LogOf true size (text ∷ []) clean z front) at one)

  -- the same, with the frame in two
  in_two : (bytes : List ℕ) (records : List (List ℕ)) (text : List ℕ) (n : ℕ) → text ≢ [] → LogFile bytes records clean
      → LogFile ((bytes ++ take n (frame (length bytes) text)) ++ drop n (frame (length bytes) text)) (records ++ text ∷ []) clean
  in_two bytes records text n some is =
      let f = frame (length bytes) text in
      let whole : (bytes ++ take n f) ++ drop n f ≡ bytes ++ f = append_assoc bytes (take n f) (drop n f) ∙ ap (λ z. bytes ++ z) (take-append-drop n f) in
      subst (λ z. LogFile z (records ++ text ∷ []) clean) (sym whole) (one_more bytes records text some is)

  -- a prefix of the frame is no record, or that one, and one that isn't whole is none
  pub cut_short : (bytes : List ℕ) (records : List (List ℕ)) (text : List ℕ) (n : ℕ) → text ≢ [] → LogFile bytes records clean
      → (found : List (List ℕ)) × (end : End) × LogFile (bytes ++ take n (frame (length bytes) text)) found end × ((found ≡ records) ⊎ (found ≡ records ++ text ∷ []))
      × (n < length (frame (length bytes) text) → found ≡ records)
  cut_short bytes records text n some is =
      let f = frame (length bytes) text in
      let whole = in_two bytes records text n some is in
      let read = log_reads true size block.most 0 (bytes ++ take n f) in
      let upper = cut_log true size block.most 0 (bytes ++ take n f) (drop n f) (records ++ text ∷ []) read.0 clean read.1 whole read.2 in
      let lower = cut_log true size block.most 0 bytes (take n f) read.0 records read.1 clean read.2 is in
      let one_or_none : (read.0 ≡ records) ⊎ (read.0 ≡ records ++ text ∷ []) = ⊎_elim
      (λ (few : (length read.0 ≤ length records) × (read.0 ≡ take (length read.0) records)). inl (all_of records read.0 lower.0 lower.1 few.0))
      (λ (all : read.0 ≡ records ++ text ∷ []). inr all)
      (beginning records read.0 upper.0 text upper.1) in (
        read.0,
        read.1,
        read.2,
        one_or_none,
        λ few. ⊎_elim
            (λ (none : read.0 ≡ records). none)
            (λ (all : read.0 ≡ records ++ text ∷ []).
            let nothing = ap length (nothing_more true size block.most 0 (bytes ++ take n f) (drop n f) (records ++ text ∷ []) read.1 whole (subst (λ z. LogFile (bytes ++ take n f) z read.1) all read.2)) in
            let left = length-drop n f in
            absurd (omega arith))
            one_or_none,
      )

  -- for each number of records, from those that a front has on, a longer front has exactly these
  pub cut_at : (front rest : List ℕ) (first records : List (List ℕ)) (first_end end : End) (n : ℕ) → LogFile front first first_end → LogFile (front ++ rest) records end
      → length first ≤ n → n ≤ length records → (k : ℕ) × (cut_end : End) × LogFile (front ++ take k rest) (take n records) cut_end
  cut_at front rest first records first_end end n is_first is low high =
      let p = first_records true size 0 (front ++ rest) records end n high is in
      elim (nat_le (length p.0) (length front)) as (λ t. nat_le (length p.0) (length front) ≡ t → (k : ℕ) × (cut_end : End) × LogFile (front ++ take k rest) (take n records) cut_end) [
        | true ↦ λ t.
            let c = split front rest p.0 p.1 (leb-true _ _ t) p.2 in
            let lower = cut_log true size block.most 0 p.0 c.0 first (take n records) first_end clean (subst (λ z. LogFile z first first_end) c.1 is_first) p.3 in
            let count = length-take n records in
            let same = all_of (take n records) first lower.0 lower.1 (omega arith) in
            (0, first_end, subst (λ z. LogFile (front ++ []) z first_end) same (subst (λ z. LogFile z first first_end) (sym (append-nil front)) is_first))
        | false ↦ λ t.
            let more = leb-false (length p.0) (length front) t in
            let c = split p.0 p.1 front rest (omega arith) (sym p.2) in
            let there : p.0 ≡ front ++ take (length c.0) rest = c.1 ∙ ap (λ z. front ++ z) (sym (take_at c.0 p.1 (length c.0) refl) ∙ ap (take (length c.0)) c.2) in
            (length c.0, clean, subst (λ z. LogFile z (take n records) clean) there p.3)
      ] refl

  -- an honest tail after a front reads as a prefix of the records that were there, and goes on with
  -- those of the front
  pub torn : (front rest tail : List ℕ) (first records stood : List (List ℕ)) (text : List ℕ) (n : ℕ) (first_end end : End) → text ≢ [] → LogFile front first first_end → LogFile (front ++ rest) records clean
      → let whole = front ++ rest ++ take n (frame (length (front ++ rest)) text) in
      LogFile whole stood end → length (front ++ tail) ≤ length whole → HonestTail size whole (front ++ tail)
      → (found : List (List ℕ)) × (found_end : End) × LogFile (front ++ tail) found found_end × ((others : List (List ℕ)) × (stood ≡ found ++ others)) × ((others : List (List ℕ)) × (found ≡ first ++ others))
  torn front rest tail first records stood text n first_end end some is_first is is_stood short honest =
      let f = frame (length (front ++ rest)) text in
      let whole = in_two (front ++ rest) records text n some is in
      let read = log_reads true size block.most 0 (front ++ tail) in
      let upper = honest_stood size block.least block.most (front ++ rest ++ take n f) (drop n f) (front ++ tail) (records ++ text ∷ []) stood read.0 end read.1 whole is_stood read.2 short honest in
      let lower = cut_log true size block.most 0 front tail read.0 first read.1 first_end read.2 is_first in
      (read.0, read.1, read.2, upper, lower)
