-- The texts of a filter block's builder, the block that is made of them, and how it is read.
use Rattle.std.proofs.Common.{◌≡◌, ℕ, zero, suc, ◌+◌, ◌-◌, ◌<◌, ◌≤◌, List, [], ◌∷◌, ◌++◌, length, take, drop, get_or, replicate, slice_range, refl, sym, ◌∙◌, ap, subst, arith, append_assoc, length-append, ◌*◌, ◌/◌, ◌^◌, flat_map, length-drop, inl, inr, Bool, true, slice_get, Option, None, Some, Contains, ◌≢◌, ◌%◌, ◌⊎◌, Result, Ok, Err}
use Rattle.std.specs.List.{All, concat}
use Rattle.std.proofs.lemmas.List.{take_at, drop_at, append-nil, take_all, take-append-drop, drop-drop, nil_from_length, length-replicate, length-take-le, get_or-append-add}
use Rattle.std.proofs.lemmas.List.Elements.{All-nil, All-cons, All-head, All-tail, All-drop, Contains-push, Contains-append_left, All-take}
use Rattle.std.proofs.lemmas.List.Folds.{concat-append}
use Rattle.leveldb_env.specs.Filter.{first_offset, keys_at, IsFilterError}
use Rattle.leveldb_env.specs.FilterBlock.{offsets_from, AreTexts, numbers, numbers_in, filter_block, FilterBlocksAreUnique, FiltersBuilt, filter_of, with_filters, started, finished, IsKeyKept, KeepsKeys, places_from, HasFiltersEndingAt, IsFilterBlock, FiltersRead, BeginsAt, RiseFrom, IsFilterTooLarge, IsFilterNotMade}
use Rattle.byteorder.specs.Endian.{little_number}
use Rattle.byteorder.specs.Numbers.{little_from-lt, little_number-reads_back}
use Rattle.leveldb_base.specs.Varint.{little}
use Rattle.leveldb_base.proofs.VarintLemmas.{little-little_number}
use Rattle.std.specs.Prelude.{IsSomeAnd, OnOk, OnErr, IfErr, IsErrAnd}
use Rattle.std.specs.Option.{option_map_or}
use Rattle.leveldb_env.specs.FilterBlockLaws.{length-places, first_place, places_small, by_places}
use Rattle.leveldb_base.specs.declared.error.Status.{Status}
use Rattle.leveldb_base.specs.declared.error.StatusCode.TheVariants.{NotSupported}

next_offset : (at end : ℕ) (texts : List (List ℕ)) → at + length (concat texts) ≡ end → first_offset (offsets_from at texts) end ≡ at
next_offset at end [] e = let same : end ≡ at = omega (arith, e) in same
next_offset at end (text ∷ texts) e = refl

cut_after : (front : List ℕ) (at : ℕ) (texts : List (List ℕ)) → length front ≡ at → keys_at (offsets_from at texts) (front ++ concat texts) ≡ texts
cut_after front at [] e = refl
cut_after front at (text ∷ texts) e =
    let whole = front ++ (text ++ concat texts) in
    let end : (at + length text) + length (concat texts) ≡ length whole = omega (arith, e, length-append front (text ++ concat texts), length-append text (concat texts)) in
    let next = next_offset (at + length text) (length whole) texts end in
    let size : length text ≡ (at + length text) - at = omega arith in
    let first : slice_range whole at (first_offset (offsets_from (at + length text) texts) (length whole)) ≡ text =
    ap (λ z. take (z - at) (drop at whole)) next
    ∙ ap (take ((at + length text) - at)) (drop_at front (text ++ concat texts) at e)
    ∙ take_at text (concat texts) ((at + length text) - at) size in
    let others = ap (keys_at (offsets_from (at + length text) texts)) (sym (append_assoc front text (concat texts)))
    ∙ cut_after (front ++ text) (at + length text) texts (omega (arith, e, length-append front text)) in
    ap (λ z. z ∷ keys_at (offsets_from (at + length text) texts) whole) first ∙ ap (λ z. text ∷ z) others

-- the texts are what their offsets cut out of their bytes
pub cut_texts : {bytes offsets : List ℕ} {texts : List (List ℕ)} → AreTexts bytes offsets texts → keys_at offsets bytes ≡ texts
cut_texts {bytes} {offsets} {texts} h = ap (λ z. keys_at z bytes) h.placed ∙ ap (keys_at (offsets_from 0 texts)) h.joined ∙ cut_after [] 0 texts refl

pub cut_again : {bytes offsets : List ℕ} {texts : List (List ℕ)} → AreTexts bytes offsets texts → AreTexts bytes offsets (keys_at offsets bytes)
cut_again {bytes} {offsets} h = subst (λ z. AreTexts bytes offsets z) (sym (cut_texts h)) h

pub length-offsets : (at : ℕ) (texts : List (List ℕ)) → length (offsets_from at texts) ≡ length texts
length-offsets at [] = refl
length-offsets at (text ∷ texts) = ap (λ z. suc z) (length-offsets (at + length text) texts)

-- ---- more texts

offsets-append : (at : ℕ) (xs ys : List (List ℕ)) → offsets_from at (xs ++ ys) ≡ offsets_from at xs ++ offsets_from (at + length (concat xs)) ys
offsets-append at [] ys = let same : at ≡ at + 0 = omega arith in ap (λ z. offsets_from z ys) same
offsets-append at (x ∷ xs) ys =
    let size : (at + length x) + length (concat xs) ≡ at + length (x ++ concat xs) = omega (arith, length-append x (concat xs)) in
    ap (λ z. at ∷ z) (offsets-append (at + length x) xs ys ∙ ap (λ z. offsets_from (at + length x) xs ++ offsets_from z ys) size)

empty_offsets : (at n : ℕ) → offsets_from at (replicate n []) ≡ replicate n at
empty_offsets at zero = refl
empty_offsets at (suc n) = let same : at + 0 ≡ at = omega arith in ap (λ z. at ∷ z) (ap (λ z. offsets_from z (replicate n [])) same ∙ empty_offsets at n)

empty_bytes : (n : ℕ) → concat (replicate n []) ≡ []
empty_bytes zero = refl
empty_bytes (suc n) = empty_bytes n

-- a text after the others, and `count` empty ones after it
pub more_texts : {bytes offsets : List ℕ} {texts : List (List ℕ)} → AreTexts bytes offsets texts → (text : List ℕ) (others : ℕ) (after places : List ℕ)
    → after ≡ bytes ++ text → places ≡ (offsets ++ length bytes ∷ []) ++ replicate others (length after) → AreTexts after places (texts ++ text ∷ replicate others [])
more_texts {bytes} {offsets} {texts} h text others after places e f =
    let begin : length bytes ≡ 0 + length (concat texts) = omega (arith, ap length h.joined) in
    let end : length after ≡ (0 + length (concat texts)) + length text = omega (arith, ap length e, length-append bytes text, begin) in
    record {
      joined =
          e ∙ ap (λ z. z ++ text) h.joined
          ∙ sym (concat-append texts (text ∷ replicate others []) ∙ ap (λ z. concat texts ++ (text ++ z)) (empty_bytes others) ∙ ap (λ z. concat texts ++ z) (append-nil text));
      placed =
          f ∙ append_assoc offsets (length bytes ∷ []) (replicate others (length after))
          ∙ ap (λ z. z ++ (length bytes ∷ replicate others (length after))) h.placed
          ∙ ap (λ z. offsets_from 0 texts ++ (z ∷ replicate others (length after))) begin
          ∙ ap (λ z. offsets_from 0 texts ++ ((0 + length (concat texts)) ∷ replicate others z)) end
          ∙ sym (offsets-append 0 texts (text ∷ replicate others [])
          ∙ ap (λ z. offsets_from 0 texts ++ ((0 + length (concat texts)) ∷ z)) (empty_offsets ((0 + length (concat texts)) + length text) others));
    }

-- `count` offsets more, the first of them this one
pub more_offsets : (offsets : List ℕ) (begin end count : ℕ) (pushed after : List ℕ) (total room : ℕ) → 1 ≤ count → total ≡ length offsets + count → room ≡ length pushed → pushed ≡ offsets ++ begin ∷ []
    → after ≡ take total pushed ++ replicate (total - room) end → after ≡ (offsets ++ begin ∷ []) ++ replicate (count - 1) end
more_offsets offsets begin end count pushed after total room some t r e f =
    let size = length-append offsets (begin ∷ []) in
    let whole : take total pushed ≡ pushed = take_all total pushed (omega (arith, some, t, ap length e, size)) in
    let left : total - room ≡ count - 1 = omega (arith, some, t, r, ap length e, size) in
    f ∙ ap (λ z. z ++ replicate (total - room) end) (whole ∙ e) ∙ ap (λ z. (offsets ++ begin ∷ []) ++ replicate z end) left

-- ---- offsets lie in the bytes

pub offsets_small : (at limit : ℕ) (texts : List (List ℕ)) → at + length (concat texts) < limit → All (λ offset. offset < limit) (offsets_from at texts)
offsets_small at limit [] h = All-nil (λ offset. offset < limit)
offsets_small at limit (text ∷ texts) h =
    let size = length-append text (concat texts) in
    All-cons (λ offset. offset < limit) at (offsets_from (at + length text) texts) (omega (arith, h)) (offsets_small (at + length text) limit texts (omega (arith, h, size)))

-- ---- numbers of four bytes each

pub length-fours : (ns : List ℕ) → length (flat_map (little 4) ns) ≡ 4 * length ns
length-fours [] = refl
length-fours (n ∷ ns) = let rest = length-fours ns in omega (arith, rest)

step_count : (bytes : List ℕ) → 4 ≤ length bytes → (n : ℕ) × (length bytes / 4 ≡ suc n) × (length (drop 4 bytes) / 4 ≡ n)
step_count bytes h = (length bytes / 4 - 1, omega arith, omega (arith, length-drop 4 bytes))

-- the first number, and the others
pub numbers_more : (bytes : List ℕ) → 4 ≤ length bytes → numbers_in bytes ≡ little_number 4 bytes ∷ numbers_in (drop 4 bytes)
unfolding numbers_in
numbers_more bytes h =
    let step = step_count bytes h in
    ap (λ z. numbers z bytes) step.1 ∙ ap (λ z. little_number 4 bytes ∷ numbers z (drop 4 bytes)) (sym step.2)

-- too few bytes for a number
pub numbers_none : (bytes : List ℕ) → length bytes < 4 → numbers_in bytes ≡ []
unfolding numbers_in
numbers_none bytes h = let none : length bytes / 4 ≡ 0 = omega arith in ap (λ z. numbers z bytes) none

-- numbers that were written are read
pub numbers_written : (ns : List ℕ) → All (λ n. n < 2 ^ 32) ns → numbers_in (flat_map (little 4) ns) ≡ ns
numbers_written [] h = numbers_none [] (omega arith)
numbers_written (n ∷ ns) h =
    let long : 4 ≤ length (little 4 n ++ flat_map (little 4) ns) = omega (arith, length-fours (n ∷ ns)) in
    numbers_more (little 4 n ++ flat_map (little 4) ns) long
    ∙ ap (λ z. z ∷ numbers_in (drop 4 (little 4 n ++ flat_map (little 4) ns))) (little_number-reads_back 4 n (flat_map (little 4) ns) (omega (arith, All-head (λ z. z < 2 ^ 32) n ns h)))
    ∙ ap (λ z. n ∷ numbers_in z) (drop_at (little 4 n) (flat_map (little 4) ns) 4 refl)
    ∙ ap (λ z. n ∷ z) (numbers_written ns (All-tail (λ z. z < 2 ^ 32) n ns h))

pub small_at : (bytes : List ℕ) → All (λ b. b < 256) bytes → (i : ℕ) → get_or bytes i 0 < 256
small_at [] h i = omega arith
small_at (b ∷ bytes) h zero = All-head (λ z. z < 256) b bytes h
small_at (b ∷ bytes) h (suc i) = small_at bytes (All-tail (λ z. z < 256) b bytes h) i

-- what bytes of `count` numbers are
pub record AreNumbers (bytes : List ℕ) (count : ℕ) : Type 0 where
  pub written : flat_map (little 4) (numbers_in bytes) ≡ bytes
  pub fit : All (λ n. n < 2 ^ 32) (numbers_in bytes)
  pub counted : length (numbers_in bytes) ≡ count

pub are_numbers : (count : ℕ) (bytes : List ℕ) → length bytes ≡ 4 * count → All (λ b. b < 256) bytes → AreNumbers bytes count
are_numbers zero bytes e small =
    let none = numbers_none bytes (omega (arith, e)) in
    record {
      written = ap (flat_map (little 4)) none ∙ sym (nil_from_length bytes (omega (arith, e)));
      fit = subst (λ z. All (λ n. n < 2 ^ 32) z) (sym none) (All-nil (λ n. n < 2 ^ 32));
      counted = ap length none;
    }
are_numbers (suc count) bytes e small =
    let more = numbers_more bytes (omega (arith, e)) in
    let rest = are_numbers count (drop 4 bytes) (omega (arith, e, length-drop 4 bytes)) (All-drop (λ b. b < 256) 4 bytes small) in
    record {
      written =
          ap (flat_map (little 4)) more ∙ ap (λ z. little 4 (little_number 4 bytes) ++ z) rest.written
          ∙ ap (λ z. z ++ drop 4 bytes) (little-little_number 4 bytes (omega (arith, e)) small) ∙ take-append-drop 4 bytes;
      fit = subst (λ z. All (λ n. n < 2 ^ 32) z) (sym more) (All-cons (λ n. n < 2 ^ 32) (little_number 4 bytes) (numbers_in (drop 4 bytes)) (omega (arith, little_from-lt 0 4 bytes (small_at bytes small))) rest.fit);
      counted = ap length more ∙ ap (λ z. suc z) rest.counted;
    }

-- the number at a place
pub number_at : (ns last : List ℕ) (j : ℕ) → j < length ns → All (λ n. n < 2 ^ 32) ns → little_number 4 (drop (4 * j) (flat_map (little 4) ns ++ last)) ≡ get_or ns j 0
number_at [] last j h fit = absurd (omega (arith, h))
number_at (n ∷ ns) last zero h fit =
    ap (little_number 4) (append_assoc (little 4 n) (flat_map (little 4) ns) last)
    ∙ little_number-reads_back 4 n (flat_map (little 4) ns ++ last) (omega (arith, All-head (λ z. z < 2 ^ 32) n ns fit))
number_at (n ∷ ns) last (suc j) h fit =
    let far : 4 * suc j ≡ 4 + 4 * j = omega arith in
    ap (λ z. little_number 4 (drop z ((little 4 n ++ flat_map (little 4) ns) ++ last))) far
    ∙ ap (little_number 4) (sym (drop-drop (4 * j) 4 ((little 4 n ++ flat_map (little 4) ns) ++ last)))
    ∙ ap (λ z. little_number 4 (drop (4 * j) (drop 4 z))) (append_assoc (little 4 n) (flat_map (little 4) ns) last)
    ∙ ap (λ z. little_number 4 (drop (4 * j) z)) (drop_at (little 4 n) (flat_map (little 4) ns ++ last) 4 refl)
    ∙ number_at ns last j (omega (arith, h)) (All-tail (λ z. z < 2 ^ 32) n ns fit)

pub one_block : FilterBlocksAreUnique
one_block bytes others filters f g = f.encoded ∙ sym g.encoded

-- ---- what was added is found

-- what holds of an element holds of it in a longer list
left_get : {X : Type 0} (P : X → Type 0) (xs ys : List X) (i : ℕ) → IsSomeAnd (slice_get xs i) P → IsSomeAnd (slice_get (xs ++ ys) i) P
left_get P [] ys i h = absurd h
left_get P (x ∷ xs) ys zero h = h
left_get P (x ∷ xs) ys (suc i) h = left_get P xs ys i h

here_get : {X : Type 0} (P : X → Type 0) (xs : List X) (y : X) (ys : List X) → P y → IsSomeAnd (slice_get (xs ++ y ∷ ys) (length xs)) P
here_get P [] y ys h = h
here_get P (x ∷ xs) y ys h = here_get P xs y ys h

some_pass : {X : Type 0} (test : X → Bool) (o : Option X) → IsSomeAnd o (λ x. test x ≡ true) → option_map_or test o true ≡ true
some_pass test None h = absurd h
some_pass test (Some x) h = h

module _ {FP : Type 0} (make : List (List ℕ) → List ℕ) where
  policy-with : (count : ℕ) (building : FiltersBuilt FP) → (with_filters make count building).policy ≡ building.policy
  policy-with zero building = refl
  policy-with (suc others) building = refl

  -- the policy stays when a block begins
  pub policy-started : (offset : ℕ) (building : FiltersBuilt FP) → (started make offset building).policy ≡ building.policy
  policy-started offset building = policy-with (offset / 2048 - length building.filters) building

module _ {FP : Type 0} (make : FP → List (List ℕ) → List ℕ) (matches : FP → List ℕ → List ℕ → Bool) (finds : (policy : FP) (keys : List (List ℕ)) (key : List ℕ) → Contains keys key → matches policy key (make policy keys) ≡ true) where
  made : (policy : FP) (keys : List (List ℕ)) (key : List ℕ) → Contains keys key → matches policy key (filter_of (make policy) keys) ≡ true
  made policy [] key h = absurd (omega (arith, h.1))
  made policy (first ∷ keys) key h = finds policy (first ∷ keys) key h

  -- a filter that is made of the keys matches each of them
  closed : (policy : FP) (filters keys more : List (List ℕ)) (offset : ℕ) (key : List ℕ) → IsKeyKept (matches policy) filters keys offset key
      → IsSomeAnd (slice_get (filters ++ filter_of (make policy) keys ∷ more) (offset / 2048)) (λ filter. matches policy key filter ≡ true)
  closed policy filters keys more offset key (inl open_yet) =
      subst (λ i. IsSomeAnd (slice_get (filters ++ filter_of (make policy) keys ∷ more) i) (λ filter. matches policy key filter ≡ true)) (sym open_yet.0)
      (here_get (λ filter. matches policy key filter ≡ true) filters (filter_of (make policy) keys) more (made policy keys key open_yet.1))
  closed policy filters keys more offset key (inr there) = left_get (λ filter. matches policy key filter ≡ true) filters (filter_of (make policy) keys ∷ more) (offset / 2048) there

  length-with : (building : FiltersBuilt FP) (count : ℕ) → length (with_filters (make building.policy) count building).filters ≡ length building.filters + count
  length-with building zero = omega arith
  length-with building (suc others) =
      omega (arith, length-append building.filters (filter_of (make building.policy) building.keys ∷ replicate others []), length-replicate others (let none : List ℕ = [] in none))

  kept_with : (building : FiltersBuilt FP) (offset count : ℕ) (key : List ℕ) → IsKeyKept (matches building.policy) building.filters building.keys offset key
      → (let more = with_filters (make building.policy) count building in IsKeyKept (matches more.policy) more.filters more.keys offset key)
  kept_with building offset zero key h = h
  kept_with building offset (suc others) key h = inr (closed building.policy building.filters building.keys (replicate others []) offset key h)

  kept_more : (policy : FP) (filters keys : List (List ℕ)) (offset : ℕ) (key other : List ℕ) → IsKeyKept (matches policy) filters keys offset key → IsKeyKept (matches policy) filters (keys ++ other ∷ []) offset key
  kept_more policy filters keys offset key other (inl open_yet) = inl (open_yet.0, Contains-append_left keys (other ∷ []) key open_yet.1)
  kept_more policy filters keys offset key other (inr there) = inr there

  kept_end : (policy : FP) (filters keys : List (List ℕ)) (offset : ℕ) (key : List ℕ) → IsKeyKept (matches policy) filters keys offset key
      → IsSomeAnd (slice_get (finished (make policy) filters keys) (offset / 2048)) (λ filter. matches policy key filter ≡ true)
  kept_end policy filters [] offset key (inl open_yet) = absurd (omega (arith, open_yet.1.1))
  kept_end policy filters [] offset key (inr there) = there
  kept_end policy filters (first ∷ keys) offset key h = closed policy filters (first ∷ keys) [] offset key h

  pub keeps_keys : KeepsKeys FP make matches
  keeps_keys = record {
    opens = λ building offset h. omega (arith, h, length-with building (offset / 2048 - length building.filters));
    adds = λ building offset key e. inl (e, Contains-push building.keys key);
    goes_on = λ building offset key other h. kept_more building.policy building.filters building.keys offset key other h;
    starts = λ building offset next key h. kept_with building offset (next / 2048 - length building.filters) key h;
    finishes = λ building offset key h. some_pass (matches building.policy key) (slice_get (finished (make building.policy) building.filters building.keys) (offset / 2048))
        (kept_end building.policy building.filters building.keys offset key h);
  }

-- ---- numbers that rise

-- the first number isn't 0
pub begins_elsewhere : (bytes : List ℕ) (n : ℕ) → 4 ≤ length bytes → n ≡ little_number 4 bytes → n ≢ 0 → BeginsAt 0 (numbers_in bytes) → ⊥
begins_elsewhere bytes n long e other h = other (e ∙ subst (λ z. BeginsAt 0 z) (numbers_more bytes long) h)

pub begins_here : (bytes : List ℕ) (n : ℕ) → 4 ≤ length bytes → n ≡ little_number 4 bytes → n ≡ 0 → BeginsAt 0 (numbers_in bytes)
begins_here bytes n long e zero_first = subst (λ z. BeginsAt 0 z) (sym (numbers_more bytes long)) (sym e ∙ zero_first)

-- a number below the one before it
pub falls : (low n : ℕ) (bytes : List ℕ) → 4 ≤ length bytes → n ≡ little_number 4 bytes → n < low → RiseFrom low (numbers_in bytes) → ⊥
falls low n bytes long e below h = let first = (subst (λ z. RiseFrom low z) (numbers_more bytes long) h).0 in omega (arith, first, e, below)

pub rise_on : (low n : ℕ) (bytes : List ℕ) → 4 ≤ length bytes → n ≡ little_number 4 bytes → RiseFrom low (numbers_in bytes) → RiseFrom n (numbers_in (drop 4 bytes))
rise_on low n bytes long e h = subst (λ z. RiseFrom z (numbers_in (drop 4 bytes))) (sym e) (subst (λ z. RiseFrom low z) (numbers_more bytes long) h).1

pub rise_back : (low n : ℕ) (bytes : List ℕ) → 4 ≤ length bytes → n ≡ little_number 4 bytes → low ≤ n → RiseFrom n (numbers_in (drop 4 bytes)) → RiseFrom low (numbers_in bytes)
rise_back low n bytes long e up h =
    subst (λ z. RiseFrom low z) (sym (numbers_more bytes long)) (omega (arith, e, up), subst (λ z. RiseFrom z (numbers_in (drop 4 bytes))) e h)

pub rise_end : (low : ℕ) (bytes : List ℕ) → length bytes < 4 → RiseFrom low (numbers_in bytes)
rise_end low bytes short = subst (λ z. RiseFrom low z) (sym (numbers_none bytes short)) tt

-- ---- one filter

place_above : (at : ℕ) (texts : List (List ℕ)) (j : ℕ) → j ≤ length texts → at ≤ get_or (places_from at texts) j 0
place_above at [] zero h = omega arith
place_above at [] (suc j) h = absurd (omega (arith, h))
place_above at (text ∷ texts) zero h = omega arith
place_above at (text ∷ texts) (suc j) h = let rest = place_above (at + length text) texts j (omega (arith, h)) in omega (arith, rest)

place_below : (at : ℕ) (texts : List (List ℕ)) (j : ℕ) → j ≤ length texts → get_or (places_from at texts) j 0 ≤ at + length (concat texts)
place_below at [] zero h = omega arith
place_below at [] (suc j) h = absurd (omega (arith, h))
place_below at (text ∷ texts) zero h = omega arith
place_below at (text ∷ texts) (suc j) h =
    let rest = place_below (at + length text) texts j (omega (arith, h)) in
    omega (arith, rest, length-append text (concat texts))

places_rise : (at : ℕ) (texts : List (List ℕ)) (j : ℕ) → j < length texts → get_or (places_from at texts) j 0 ≤ get_or (places_from at texts) (suc j) 0
places_rise at [] j h = absurd (omega (arith, h))
places_rise at (text ∷ texts) zero h = place_above at (text ∷ texts) 1 (omega (arith, h))
places_rise at (text ∷ texts) (suc j) h = places_rise (at + length text) texts j (omega (arith, h))

last_place : (at : ℕ) (texts : List (List ℕ)) → get_or (places_from at texts) (length texts) 0 ≡ at + length (concat texts)
last_place at [] = omega arith
last_place at (text ∷ texts) = last_place (at + length text) texts ∙ (let size : (at + length text) + length (concat texts) ≡ at + length (text ++ concat texts) = omega (arith, length-append text (concat texts)) in size)

-- a text lies between its place and the next
text_between : (at : ℕ) (texts : List (List ℕ)) (rest : List ℕ) (j p q : ℕ) → j < length texts → p + at ≡ get_or (places_from at texts) j 0 → q + p + at ≡ get_or (places_from at texts) (suc j) 0
    → slice_get texts j ≡ Some (take q (drop p (concat texts ++ rest)))
text_between at [] rest j p q h e f = absurd (omega (arith, h))
text_between at (text ∷ texts) rest zero p q h e f =
    let begin : p + at ≡ at = e in
    let none : p ≡ 0 = omega (arith, begin) in
    let end : q + p + at ≡ get_or (places_from (at + length text) texts) 0 0 = f in
    let size : length text ≡ q = omega (arith, begin, end, first_place (at + length text) texts) in
    ap (λ z. Some z)
    (sym (ap (λ z. take q (drop z ((text ++ concat texts) ++ rest))) none ∙ ap (take q) (append_assoc text (concat texts) rest) ∙ take_at text (concat texts ++ rest) q size))
text_between at (text ∷ texts) rest (suc j) p q h e f =
    let far = place_above (at + length text) texts j (omega (arith, h)) in
    let begin : p + at ≡ get_or (places_from (at + length text) texts) j 0 = e in
    let end : q + p + at ≡ get_or (places_from (at + length text) texts) (suc j) 0 = f in
    let back : length text + (p - length text) ≡ p = omega (arith, begin, far) in
    let here = text_between (at + length text) texts rest j (p - length text) q (omega (arith, h)) (omega (arith, begin, far)) (omega (arith, begin, end, far)) in
    here
    ∙ ap (λ z. Some (take q z))
    (sym
    (ap (λ z. drop z ((text ++ concat texts) ++ rest)) (sym back)
    ∙ sym (drop-drop (p - length text) (length text) ((text ++ concat texts) ++ rest))
    ∙ ap (λ z. drop (p - length text) (drop (length text) z)) (append_assoc text (concat texts) rest)
    ∙ ap (drop (p - length text)) (drop_at text (concat texts ++ rest) (length text) refl)))

-- ---- the parts of a block

pub same_filters : {FP : Type 0} {a b : FiltersRead FP} → a ≡ b → a.filters ≡ b.filters
same_filters e = ap (λ z. z.filters) e

pub same_policy : {FP : Type 0} {a b : FiltersRead FP} → a ≡ b → a.policy ≡ b.policy
same_policy e = ap (λ z. z.policy) e

module _ {bytes : List ℕ} {filters : List (List ℕ)} (block : IsFilterBlock bytes filters) where
  ends : List ℕ
  ends = flat_map (little 4) (places_from 0 filters)

  in_parts : bytes ≡ concat filters ++ (flat_map (little 4) (places_from 0 filters) ++ 11 ∷ [])
  in_parts = block.encoded ∙ by_places filters

  fitting : All (λ n. n < 2 ^ 32) (places_from 0 filters)
  fitting = places_small 0 (2 ^ 32) filters (omega (arith, block.fits))

  -- how long it is
  pub whole_size : length bytes ≡ length (concat filters) + 4 * length filters + 5
  whole_size =
      omega (
        arith,
        ap length in_parts,
        length-append (concat filters) (flat_map (little 4) (places_from 0 filters) ++ 11 ∷ []),
        length-append (flat_map (little 4) (places_from 0 filters)) (11 ∷ []),
        length-fours (places_from 0 filters),
        length-places 0 filters,
      )

  -- the number at which a filter begins, or the last one ends
  pub place_read : (index at : ℕ) → index ≤ length filters → at ≡ length (concat filters) + 4 * index → little_number 4 (drop at bytes) ≡ get_or (places_from 0 filters) index 0
  place_read index at h e =
      ap (λ z. little_number 4 (drop z bytes)) e
      ∙ ap (little_number 4) (sym (drop-drop (4 * index) (length (concat filters)) bytes))
      ∙ ap (λ z. little_number 4 (drop (4 * index) (drop (length (concat filters)) z))) in_parts
      ∙ ap (λ z. little_number 4 (drop (4 * index) z)) (drop_at (concat filters) (flat_map (little 4) (places_from 0 filters) ++ 11 ∷ []) (length (concat filters)) refl)
      ∙ number_at (places_from 0 filters) (11 ∷ []) index (omega (arith, h, length-places 0 filters)) fitting

  -- the number before the last byte
  pub end_read : (tail : ℕ) → tail + 5 ≡ length bytes → little_number 4 (drop tail bytes) ≡ length (concat filters)
  end_read tail e =
      let last = last_place 0 filters in
      place_read (length filters) tail (omega arith) (omega (arith, e, whole_size)) ∙ (let same : get_or (places_from 0 filters) (length filters) 0 ≡ length (concat filters) = omega (arith, last) in same)

  -- the last byte
  pub last_read : (at : ℕ) → at + 1 ≡ length bytes → get_or bytes at 0 ≡ 11
  last_read at e =
      let p = flat_map (little 4) (places_from 0 filters) in
      let front = concat filters ++ p in
      let size : at ≡ length front + 0 = omega (arith, e, whole_size, length-append (concat filters) p, length-fours (places_from 0 filters), length-places 0 filters) in
      ap (λ z. get_or bytes z 0) size ∙ ap (λ z. get_or z (length front + 0) 0) (in_parts ∙ sym (append_assoc (concat filters) p (11 ∷ [])))
      ∙ get_or-append-add front (11 ∷ []) 0 0

  -- the places
  pub places_read : (size : ℕ) → size ≡ 4 * length filters + 4 → numbers_in (take size (drop (length (concat filters)) bytes)) ≡ places_from 0 filters
  places_read size e =
      let p = flat_map (little 4) (places_from 0 filters) in
      ap (λ z. numbers_in (take size (drop (length (concat filters)) z))) in_parts
      ∙ ap (λ z. numbers_in (take size z)) (drop_at (concat filters) (p ++ 11 ∷ []) (length (concat filters)) refl)
      ∙ ap numbers_in (take_at p (11 ∷ []) size (omega (arith, e, length-fours (places_from 0 filters), length-places 0 filters)))
      ∙ numbers_written (places_from 0 filters) fitting

  -- a filter in the bytes
  pub filter_read : (index p q : ℕ) → index < length filters → p ≡ get_or (places_from 0 filters) index 0 → q ≡ get_or (places_from 0 filters) (index + 1) 0
      → (p ≤ q) × (q ≤ length bytes) × (slice_get filters index ≡ Some (take (q - p) (drop p bytes)))
  filter_read index p q h e f =
      let rise = places_rise 0 filters index h in
      let below = place_below 0 filters (suc index) (omega (arith, h)) in
      let next : index + 1 ≡ suc index = omega arith in
      let end = f ∙ ap (λ z. get_or (places_from 0 filters) z 0) next in (
        omega (arith, e, end, rise),
        omega (arith, end, below, whole_size),
        text_between 0 filters (flat_map (little 4) (places_from 0 filters) ++ 11 ∷ []) index p (q - p) h (omega (arith, e)) (omega (arith, e, end, rise))
            ∙ ap (λ z. Some (take (q - p) (drop p z))) (sym in_parts),
      )

-- ---- what the check finds

-- places rise
pub places_are : (at : ℕ) (texts : List (List ℕ)) → BeginsAt at (places_from at texts)
places_are at [] = refl
places_are at (text ∷ texts) = refl

rise_places : (low at : ℕ) (texts : List (List ℕ)) → low ≤ at → RiseFrom low (places_from at texts)
rise_places low at [] h = (h, tt)
rise_places low at (text ∷ texts) h = (h, rise_places at (at + length text) texts (omega arith))

pub places_rise_from : (texts : List (List ℕ)) → BeginsAt 0 (places_from 0 texts) × RiseFrom 0 (places_from 0 texts)
places_rise_from texts = (places_are 0 texts, rise_places 0 0 texts (omega arith))

-- texts cut out of bytes at these places
cut : ℕ → List ℕ → List ℕ → List (List ℕ)
cut at [] bytes = []
cut at (n ∷ ns) bytes = take (n - at) bytes ∷ cut n ns (drop (n - at) bytes)

rise_last : (at : ℕ) (ns : List ℕ) → RiseFrom at ns → at ≤ get_or (at ∷ ns) (length ns) 0
rise_last at [] h = omega arith
rise_last at (n ∷ ns) h = let rest = rise_last n ns h.1 in let first = h.0 in omega (arith, rest, first)

cut_are : (at : ℕ) (ns bytes : List ℕ) → RiseFrom at ns → get_or (at ∷ ns) (length ns) 0 ≡ at + length bytes → (places_from at (cut at ns bytes) ≡ at ∷ ns) × (concat (cut at ns bytes) ≡ bytes)
unfolding cut
cut_are at [] bytes h e = (refl, sym (nil_from_length bytes (omega (arith, e))))
cut_are at (n ∷ ns) bytes h e =
    let first = h.0 in
    let far = rise_last n ns h.1 in
    let size : length (take (n - at) bytes) ≡ n - at = length-take-le (n - at) bytes (omega (arith, first, far, e)) in
    let next : at + length (take (n - at) bytes) ≡ n = omega (arith, size, first) in
    let rest = cut_are n ns (drop (n - at) bytes) h.1 (omega (arith, first, far, e, length-drop (n - at) bytes)) in (
      ap (λ z. at ∷ places_from z (cut n ns (drop (n - at) bytes))) next ∙ ap (λ z. at ∷ z) rest.0,
      ap (λ z. take (n - at) bytes ++ z) rest.1 ∙ take-append-drop (n - at) bytes,
    )

begin_places : (ns : List ℕ) → BeginsAt 0 ns → (others : List ℕ) × (ns ≡ 0 ∷ others)
begin_places [] h = absurd h
begin_places (n ∷ ns) h = (ns, ap (λ z. z ∷ ns) h)

module _ (bytes : List ℕ) (small : All (λ b. b < 256) bytes) (tail limit : ℕ) (size : tail + 5 ≡ length bytes) (last : get_or bytes (tail + 4) 0 ≡ 11) (limit_is : little_number 4 (drop tail bytes) ≡ limit) (within : limit ≤ tail) (whole : (tail - limit) % 4 ≡ 0) where
  middle : List ℕ
  middle = take (tail + 4 - limit) (drop limit bytes)

  count : ℕ
  count = (tail - limit) / 4

  middle_size : length (take (tail + 4 - limit) (drop limit bytes)) ≡ 4 * ((tail - limit) / 4 + 1)
  middle_size =
      length-take-le (tail + 4 - limit) (drop limit bytes) (omega (arith, within, size, length-drop limit bytes))
      ∙ (let long : tail + 4 - limit ≡ 4 * ((tail - limit) / 4 + 1) = omega (arith, within, whole) in long)

  middle_numbers : AreNumbers (take (tail + 4 - limit) (drop limit bytes)) ((tail - limit) / 4 + 1)
  middle_numbers =
      are_numbers ((tail - limit) / 4 + 1) (take (tail + 4 - limit) (drop limit bytes)) middle_size
      (All-take (λ b. b < 256) (tail + 4 - limit) (drop limit bytes) (All-drop (λ b. b < 256) limit bytes small))

  one_left : (xs : List ℕ) → length xs ≡ 1 → get_or xs 0 0 ≡ 11 → xs ≡ 11 ∷ []
  one_left [] e f = absurd (omega (arith, e))
  one_left (x ∷ []) e f = ap (λ z. z ∷ []) f
  one_left (x ∷ y ∷ xs) e f = absurd (omega (arith, e))

  get_after : (n : ℕ) (xs : List ℕ) → n ≤ length xs → get_or (drop n xs) 0 0 ≡ get_or xs n 0
  get_after zero xs h = refl
  get_after (suc n) [] h = refl
  get_after (suc n) (x ∷ xs) h = get_after n xs (omega (arith, h))

  three_parts : bytes ≡ take limit bytes ++ (take (tail + 4 - limit) (drop limit bytes) ++ 11 ∷ [])
  three_parts =
      let far : limit + (tail + 4 - limit) ≡ tail + 4 = omega (arith, within) in
      let end : drop (tail + 4 - limit) (drop limit bytes) ≡ 11 ∷ [] =
      drop-drop (tail + 4 - limit) limit bytes ∙ ap (λ z. drop z bytes) far
      ∙ one_left (drop (tail + 4) bytes) (omega (arith, size, length-drop (tail + 4) bytes)) (get_after (tail + 4) bytes (omega (arith, size)) ∙ last) in
      sym (ap (λ z. take limit bytes ++ (take (tail + 4 - limit) (drop limit bytes) ++ z)) (sym end)
      ∙ ap (λ z. take limit bytes ++ z) (take-append-drop (tail + 4 - limit) (drop limit bytes)) ∙ take-append-drop limit bytes)

  front_size : length (take limit bytes) ≡ limit
  front_size = length-take-le limit bytes (omega (arith, within, size))

  last_number : get_or (numbers_in (take (tail + 4 - limit) (drop limit bytes))) ((tail - limit) / 4) 0 ≡ limit
  last_number =
      let mid = take (tail + 4 - limit) (drop limit bytes) in
      let n = (tail - limit) / 4 in
      let there = middle_numbers in
      let counted = there.counted in
      let far : tail ≡ limit + 4 * n = omega (arith, within, whole) in
      sym (number_at (numbers_in mid) (11 ∷ []) n (omega (arith, counted)) there.fit)
      ∙ ap (λ z. little_number 4 (drop (4 * n) (z ++ 11 ∷ []))) there.written
      ∙ ap (λ z. little_number 4 (drop (4 * n) z)) (sym (drop_at (take limit bytes) (mid ++ 11 ∷ []) limit front_size))
      ∙ ap (little_number 4) (drop-drop (4 * n) limit (take limit bytes ++ (mid ++ 11 ∷ [])))
      ∙ ap (λ z. little_number 4 (drop z (take limit bytes ++ (mid ++ 11 ∷ [])))) (sym far)
      ∙ ap (λ z. little_number 4 (drop tail z)) (sym three_parts) ∙ limit_is

  -- bytes with these parts are a filter block
  pub is_held : BeginsAt 0 (numbers_in (take (tail + 4 - limit) (drop limit bytes))) → RiseFrom 0 (numbers_in (take (tail + 4 - limit) (drop limit bytes))) → HasFiltersEndingAt bytes limit
  is_held begin rise =
      let mid = take (tail + 4 - limit) (drop limit bytes) in
      let first = begin_places (numbers_in mid) begin in
      let ns = first.0 in
      let there = middle_numbers in
      let counted = there.counted in
      let many : (tail - limit) / 4 ≡ length ns = omega (arith, counted, ap length first.1) in
      let end : get_or (0 ∷ ns) (length ns) 0 ≡ 0 + length (take limit bytes) =
      ap (λ z. get_or z (length ns) 0) (sym first.1) ∙ ap (λ z. get_or (numbers_in mid) z 0) (sym many) ∙ last_number ∙ sym front_size ∙ (let same : length (take limit bytes) ≡ 0 + length (take limit bytes) = omega arith in same) in
      let risen : RiseFrom 0 ns = (subst (λ z. RiseFrom 0 z) first.1 rise).1 in
      let texts = cut 0 ns (take limit bytes) in
      let made = cut_are 0 ns (take limit bytes) risen end in (
        texts,
        record {
          block = record {
            encoded =
                three_parts ∙ ap (λ z. z ++ (mid ++ 11 ∷ [])) (sym made.1)
                ∙ ap (λ z. concat texts ++ (z ++ 11 ∷ [])) (sym there.written ∙ ap (flat_map (little 4)) (first.1 ∙ sym made.0))
                ∙ sym (by_places texts);
            fits = omega (arith, ap length made.1, front_size, limit_is, little_from-lt 0 4 (drop tail bytes) (small_at (drop tail bytes) (All-drop (λ b. b < 256) tail bytes small)));
          };
          ends = omega (arith, ap length made.1, front_size);
        },
      )

no_bytes : (n : ℕ) → concat (replicate n []) ≡ []
no_bytes zero = refl
no_bytes (suc n) = no_bytes n

-- how many bytes filters have with one more, and empty ones after it
size_with : (filters : List (List ℕ)) (filter : List ℕ) (others : ℕ) → length (concat (filters ++ filter ∷ replicate others [])) ≡ length (concat filters) + length filter
size_with filters filter others =
    ap length (concat-append filters (filter ∷ replicate others []) ∙ ap (λ z. concat filters ++ (filter ++ z)) (no_bytes others) ∙ ap (λ z. concat filters ++ z) (append-nil filter))
    ∙ length-append (concat filters) filter

pub pushed_size : {T E : Type 0} (r : Result T E) (filters after : List (List ℕ)) (filter : List ℕ) (others limit : ℕ) → OnOk r (after ≡ filters ++ filter ∷ replicate others []) → OnErr r (after ≡ filters)
    → length (concat filters) + length filter < limit → length (concat after) < limit
pushed_size (Ok v) filters after filter others limit f g h = omega (arith, h, ap (λ z. length (concat z)) f, size_with filters filter others)
pushed_size (Err e) filters after filter others limit f g h = omega (arith, h, ap (λ z. length (concat z)) g)

pub some_made : (make : List (List ℕ) → List ℕ) (keys : List (List ℕ)) → 0 < length keys → filter_of make keys ≡ make keys
some_made make [] h = absurd (omega (arith, h))
some_made make (key ∷ keys) h = refl

too_large_some : (too_large : List (List ℕ) → Type 0) (make : List (List ℕ) → List ℕ) (filters keys : List (List ℕ)) → 0 < length keys → too_large keys ⊎ (2 ^ 32 ≤ length (concat filters) + length (make keys)) → IsFilterTooLarge too_large make filters keys
too_large_some too_large make filters [] some h = absurd (omega (arith, some))
too_large_some too_large make filters (key ∷ keys) some h = h

pub not_made : (too_large : List (List ℕ) → Type 0) (make : List (List ℕ) → List ℕ) (filters keys again : List (List ℕ)) (status : Status) → 0 < length keys → again ≡ keys → IsFilterError (too_large again) status → IsFilterNotMade too_large make filters keys status
not_made too_large make filters keys again status some e (inl memory) = inl memory
not_made too_large make filters keys again status some e (inr h) = inr (h.0, too_large_some too_large make filters keys some (inl (subst too_large e h.1)))

pub too_many : {T : Type 0} (r : Result T Status) (too_large : List (List ℕ) → Type 0) (make : List (List ℕ) → List ℕ) (filters keys : List (List ℕ)) → 0 < length keys → IsErrAnd r (λ status. status.code ≡ NotSupported)
    → 2 ^ 32 ≤ length (concat filters) + length (make keys) → IfErr r (IsFilterNotMade too_large make filters keys)
too_many (Ok v) too_large make filters keys some h wide = absurd h
too_many (Err status) too_large make filters keys some h wide = inr (h, too_large_some too_large make filters keys some (inr wide))

-- a filter that was made, and fits after the others, isn't too large
pub made_fits : (too_large : List (List ℕ) → Type 0) (make : List (List ℕ) → List ℕ) (filters keys : List (List ℕ)) → (too_large keys → ⊥) → length (concat filters) + length (make keys) < 2 ^ 32 → IsFilterTooLarge too_large make filters keys → ⊥
made_fits too_large make filters [] small few h = h
made_fits too_large make filters (key ∷ keys) small few (inl h) = small h
made_fits too_large make filters (key ∷ keys) small few (inr h) = omega (arith, few, h)

pub on_ok : {T E A : Type 0} (r : Result T E) → A → OnOk r A
on_ok (Ok v) a = a
on_ok (Err e) a = tt

-- the bytes of a block, put one after another
pub put_block : (bytes : List ℕ) (filters : List (List ℕ)) → bytes ≡ ((concat filters ++ flat_map (little 4) (offsets_from 0 filters)) ++ little 4 (length (concat filters))) ++ 11 ∷ [] → length (concat filters) < 2 ^ 32 → IsFilterBlock bytes filters
unfolding filter_block
put_block bytes filters e h =
    let begin = flat_map (little 4) (offsets_from 0 filters) in
    let end = little 4 (length (concat filters)) in
    record {
      encoded =
          e ∙ append_assoc (concat filters ++ begin) end (11 ∷ [])
          ∙ append_assoc (concat filters) begin (end ++ 11 ∷ []);
      fits = h;
    }
