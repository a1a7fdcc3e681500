-- What holds of every view.
use Rattle.std.proofs.Common.{◌≡◌, ◌⊎◌, inl, inr, ⊎_elim, List, [], ◌∷◌, arith, ◌≢◌, ◌≤◌, ◌<◌, ◌+◌, ℕ, Bool, true, false, ◌++◌, refl, sym, ◌∙◌, ap, subst, Option, Some, None, append-nil, append_assoc}
use Rattle.std.specs.Prelude.{Contains, ◌↔◌, if◌then◌else◌, nat_le}
use Rattle.std.proofs.lemmas.List.Elements.{Contains-append_left, Contains-append_right, Contains-append_cases, Contains-push, Contains-push_cases}
use Rattle.std.specs.Str.{bytes_eq}
use Rattle.std.specs.Cmp.Lexicographic.{bytes_decides}
use Rattle.std.proofs.lemmas.Bool.{leb-true, leb-false}
use Rattle.leveldb_base.specs.History.{Entry, RiseAbove, HasValueAt, IsValueAt, IsBeforeAll, AreRising, IsView, OneRisingList, OneView, SameView, ViewPasses, SharedViewIsSame, AreUpTo, AreAbove, SameWithMore}
use Rattle.std.specs.declared.cmp.Ordering.{Ordering}
use Rattle.std.specs.declared.cmp.Ordering.TheVariants.{Less, Equal, Greater}
use Rattle.std.specs.Ordering.{ordering_reverse, is_lt}
use Rattle.std.specs.Cmp.{IsTotalOrder}
use Rattle.leveldb_base.specs.Cmp.{IsExactOrder, IsPreorderOn}
use Rattle.leveldb_base.specs.Types.{Pair}
use Rattle.leveldb_base.specs.View.{pair_for}
use Rattle.leveldb_base.proofs.OrderLemmas.{both, lt_turn, lt_itself, exact_total}

-- ---- the elements of a list by its first

pub in_none : {A : Type 0} (x : A) → Contains [] x → ⊥
in_none x c = omega (arith, c.1)

pub in_front : {A : Type 0} (x : A) (xs : List A) → Contains (x ∷ xs) x
in_front x xs = Contains-append_left (x ∷ []) xs x (Contains-push [] x)

pub in_rest : {A : Type 0} (y x : A) (xs : List A) → Contains xs x → Contains (y ∷ xs) x
in_rest y x xs c = Contains-append_right (y ∷ []) xs x c

one_only : {A : Type 0} (y x : A) → Contains [] x ⊎ (y ≡ x) → y ≡ x
one_only y x (inl c) = absurd (in_none x c)
one_only y x (inr e) = e

pub in_cases : {A : Type 0} (y x : A) (xs : List A) → Contains (y ∷ xs) x → (y ≡ x) ⊎ Contains xs x
in_cases y x xs c = ⊎_elim (λ one. inl (one_only y x (Contains-push_cases [] y x one))) (λ rest. inr rest) (Contains-append_cases (y ∷ []) xs x c)

-- ---- the values of keys when a newer entry is added to a set, and the look-up of a key then

-- every entry is below this number
abbrev pub AreBelow : ℕ → List Entry → Type 0
AreBelow n entries = (entry : Entry) → Contains entries entry → entry.sequence < n

-- the entry is the last, or was there before it
pub last_or : (es : List Entry) (last entry : Entry) → Contains (es ++ last ∷ []) entry → (last ≡ entry) ⊎ Contains es entry
last_or es last entry c = ⊎_elim (λ (old : Contains es entry). inr old) (λ (e : last ≡ entry). inl e) (Contains-push_cases es last entry c)

pub below_more : (low : ℕ) (es : List Entry) (last : Entry) → AreBelow (low + 1) es → low < last.sequence → AreBelow (last.sequence + 1) (es ++ last ∷ [])
below_more low es last below above entry c =
    ⊎_elim
    (λ (e : last ≡ entry). let n = ap (λ (x : Entry). x.sequence) e in omega arith)
    (λ (old : Contains es entry). let under = below entry old in omega arith)
    (last_or es last entry c)

module _ (es : List Entry) (last : Entry) (low : AreBelow last.sequence es) (s : ℕ) where
  -- an entry past s isn't seen
  pub unseen : s < last.sequence → (key value : List ℕ) → HasValueAt (es ++ last ∷ []) s key value ↔ HasValueAt es s key value
  unseen past key value = (there, back)
    where
      there : HasValueAt (es ++ last ∷ []) s key value → HasValueAt es s key value
      there shows = record {
        entry = shows.entry;
        newest = record {
          there = ⊎_elim
              (λ (e : last ≡ shows.entry). let n = ap (λ (x : Entry). x.sequence) e in let seen = shows.newest.seen in absurd (omega arith))
              (λ (c : Contains es shows.entry). c)
              (last_or es last shows.entry shows.newest.there);
          seen = shows.newest.seen;
          newest = λ other c. shows.newest.newest other (Contains-append_left es (last ∷ []) other c);
        };
        key_is = shows.key_is;
        value_is = shows.value_is;
      }

      back : HasValueAt es s key value → HasValueAt (es ++ last ∷ []) s key value
      back shows = record {
        entry = shows.entry;
        newest = record {
          there = Contains-append_left es (last ∷ []) shows.entry shows.newest.there;
          seen = shows.newest.seen;
          newest = λ other c k seen. ⊎_elim
              (λ (e : last ≡ other). let n = ap (λ (x : Entry). x.sequence) e in absurd (omega arith))
              (λ (c' : Contains es other). shows.newest.newest other c' k seen)
              (last_or es last other c);
        };
        key_is = shows.key_is;
        value_is = shows.value_is;
      }

  -- what the last entry says of its key, and of the others what was shown
  abbrev pub Said : List ℕ → List ℕ → Type 0
  Said key value = ((key ≡ last.key) × (last.value ≡ Some value)) ⊎ ((key ≢ last.key) × HasValueAt es s key value)

  pub said_of : (key value : List ℕ) → last.sequence ≤ s → HasValueAt (es ++ last ∷ []) s key value → Said key value
  said_of key value seen shows = ⊎_elim newest older (last_or es last shows.entry shows.newest.there)
    where
      newest : last ≡ shows.entry → Said key value
      newest e = inl (sym shows.key_is ∙ ap (λ (x : Entry). x.key) (sym e), ap (λ (x : Entry). x.value) e ∙ shows.value_is)

      older : Contains es shows.entry → Said key value
      older c = inr (
        (λ k. let high = shows.newest.newest last (Contains-push es last) (sym (shows.key_is ∙ k)) seen in let below = low shows.entry c in omega arith),
        record {
          entry = shows.entry;
          newest = record { there = c; seen = shows.newest.seen; newest = λ other c'. shows.newest.newest other (Contains-append_left es (last ∷ []) other c') };
          key_is = shows.key_is;
          value_is = shows.value_is;
        },
      )

  pub of_said : (key value : List ℕ) → last.sequence ≤ s → Said key value → HasValueAt (es ++ last ∷ []) s key value
  of_said key value seen (inl is) = record {
    entry = last;
    newest = record {
      there = Contains-push es last;
      seen = seen;
      newest = λ other c k seen'. ⊎_elim
          (λ (e : last ≡ other). let n = ap (λ (x : Entry). x.sequence) e in omega arith)
          (λ (c' : Contains es other). let below = low other c' in omega arith)
          (last_or es last other c);
    };
    key_is = sym is.0;
    value_is = is.1;
  }
  of_said key value seen (inr was) = record {
    entry = was.1.entry;
    newest = record {
      there = Contains-append_left es (last ∷ []) was.1.entry was.1.newest.there;
      seen = was.1.newest.seen;
      newest = λ other c k seen'. ⊎_elim
          (λ (e : last ≡ other). absurd (was.0 (sym was.1.key_is ∙ sym k ∙ ap (λ (x : Entry). x.key) (sym e))))
          (λ (c' : Contains es other). was.1.newest.newest other c' k seen')
          (last_or es last other c);
    };
    key_is = was.1.key_is;
    value_is = was.1.value_is;
  }

-- ---- a look-up

-- what entries up to a sequence make of what was found for a key, one after another
abbrev pub look_from : ℕ → List ℕ → Option (List ℕ) → List Entry → Option (List ℕ)
look_from s key found [] = found
look_from s key found (entry ∷ entries) = look_from s key (if nat_le entry.sequence s then (if bytes_eq entry.key key then entry.value else found) else found) entries

module _ (es : List Entry) (last : Entry) (low : AreBelow last.sequence es) (s : ℕ) (key : List ℕ) where
  look_unseen : (found : Option (List ℕ)) → s < last.sequence → IsValueAt es s key found → IsValueAt (es ++ last ∷ []) s key found
  look_unseen (Some value) past looks = (unseen es last low s past key value).1 looks
  look_unseen None past looks = λ value shows. looks value ((unseen es last low s past key value).0 shows)

  look_other : (found : Option (List ℕ)) → last.sequence ≤ s → key ≢ last.key → IsValueAt es s key found → IsValueAt (es ++ last ∷ []) s key found
  look_other (Some value) seen other looks = of_said es last low s key value seen (inr (other, looks))
  look_other None seen other looks = λ value shows. none value (said_of es last low s key value seen shows)
    where
      none : (value : List ℕ) → Said es last low s key value → ⊥
      none value (inl is) = other is.0
      none value (inr was) = looks value was.1

  look_last : (value : Option (List ℕ)) → last.value ≡ value → last.sequence ≤ s → key ≡ last.key → IsValueAt (es ++ last ∷ []) s key value
  look_last (Some value) is seen same = of_said es last low s key value seen (inl (same, is))
  look_last None is seen same = λ value shows. none value (said_of es last low s key value seen shows)
    where
      none : (value : List ℕ) → Said es last low s key value → ⊥
      none value (inl said) = let f : None ≡ Some value = sym is ∙ said.1 in cc
      none value (inr was) = was.0 same

  look_step : (found : Option (List ℕ)) → IsValueAt es s key found → IsValueAt (es ++ last ∷ []) s key (if nat_le last.sequence s then (if bytes_eq last.key key then last.value else found) else found)
  look_step found looks = by_number (nat_le last.sequence s) refl
    where
      by_key : last.sequence ≤ s → (b : Bool) → bytes_eq last.key key ≡ b → IsValueAt (es ++ last ∷ []) s key (if b then last.value else found)
      by_key seen true e = look_last last.value refl seen (sym ((bytes_decides last.key key).0 e))
      by_key seen false e = look_other found seen (λ same. let f : false ≡ true = sym e ∙ (bytes_decides last.key key).1 (sym same) in cc) looks

      by_number : (b : Bool) → nat_le last.sequence s ≡ b → IsValueAt (es ++ last ∷ []) s key (if b then (if bytes_eq last.key key then last.value else found) else found)
      by_number true e = by_key (leb-true last.sequence s e) (bytes_eq last.key key) refl
      by_number false e = look_unseen found (leb-false last.sequence s e) looks

look_onward : (low : ℕ) (es more : List Entry) (s : ℕ) (key : List ℕ) (found : Option (List ℕ)) → AreBelow (low + 1) es → RiseAbove low more → IsValueAt es s key found
    → IsValueAt (es ++ more) s key (look_from s key found more)
look_onward low es [] s key found below rising looks = subst (λ x. IsValueAt x s key found) (sym (append-nil es)) looks
look_onward low es (entry ∷ more) s key found below rising looks =
    subst (λ x. IsValueAt x s key (look_from s key found (entry ∷ more))) (append_assoc es (entry ∷ []) more)
    (look_onward entry.sequence (es ++ entry ∷ []) more s key _ (below_more low es entry below rising.0) rising.1
    (look_step es entry (λ other c. let under = below other c in let above = rising.0 in omega arith) s key found looks))

-- the function finds what entries whose sequences rise show of the key
pub look_from_looks_up : (entries : List Entry) (s : ℕ) (key : List ℕ) → RiseAbove 0 entries → IsValueAt entries s key (look_from s key None entries)
look_from_looks_up entries s key rising = look_onward 0 [] entries s key None (λ entry c. absurd (in_none entry c)) rising (λ value shows. in_none shows.entry shows.newest.there)

-- ---- the view of entries that come one after another, as a function, and that it is the view

-- a pair before the key's stays in front, that of the key goes, and the key's comes before those
-- after it
abbrev pub turn : Ordering → List ℕ → Option (List ℕ) → Pair → List Pair → List Pair → List Pair
turn Less key value pair with without = pair ∷ with
turn Equal key value pair with without = with
turn Greater key value pair with without = pair_for key value ++ pair ∷ without

module _ (cmp : List ℕ → List ℕ → Ordering) where
  -- sorted pairs in which the key has this value, or none
  abbrev pub with_value : List ℕ → Option (List ℕ) → List Pair → List Pair
  with_value key value [] = pair_for key value
  with_value key value (pair ∷ pairs) = turn (cmp pair.0 key) key value pair (with_value key value pairs) (with_value key None pairs)

  -- what entries up to a sequence make of sorted pairs, one after another
  abbrev pub view_from : ℕ → List Pair → List Entry → List Pair
  view_from s pairs [] = pairs
  view_from s pairs (entry ∷ entries) = view_from s (if nat_le entry.sequence s then with_value entry.key entry.value pairs else pairs) entries

module _ (cmp : List ℕ → List ℕ → Ordering) (order : IsExactOrder cmp) where
  turned : (a b : List ℕ) → cmp a b ≡ ordering_reverse (cmp b a)
  turned a b = order.preorder.turned a b refl refl

  less : (a b c : List ℕ) → cmp a b ≡ Less → cmp b c ≡ Less → cmp a c ≡ Less
  less a b c = order.preorder.less a b c refl refl refl

  -- a key is Equal to itself alone
  itself : (a : List ℕ) → cmp a a ≡ Equal
  itself a = by (cmp a a) refl
    where
      by : (o : Ordering) → cmp a a ≡ o → cmp a a ≡ Equal
      by Less e = let t = turned a a in absurd (let f : Less ≡ Greater = sym e ∙ t ∙ ap ordering_reverse e in cc)
      by Equal e = e
      by Greater e = let t = turned a a in absurd (let f : Greater ≡ Less = sym e ∙ t ∙ ap ordering_reverse e in cc)

  apart : (a b : List ℕ) → (cmp a b ≡ Equal → ⊥) → a ≢ b
  apart a b differ e = differ (ap (λ x. cmp x b) e ∙ itself b)

  -- ---- the sorted pairs

  -- the key is before the one that has a value
  abbrev BeforeValue : List ℕ → List ℕ → Option (List ℕ) → Type 0
  BeforeValue q key None = Unit {0}
  BeforeValue q key (Some value) = cmp q key ≡ Less

  before_pair : (q key : List ℕ) (value : Option (List ℕ)) (rest : List Pair) → BeforeValue q key value → IsBeforeAll cmp q rest → IsBeforeAll cmp q (pair_for key value ++ rest)
  before_pair q key None rest l all = all
  before_pair q key (Some value) rest l all = (l, all)

  before_with : (q key : List ℕ) (value : Option (List ℕ)) (ps : List Pair) → BeforeValue q key value → IsBeforeAll cmp q ps → IsBeforeAll cmp q (with_value cmp key value ps)
  before_with q key None [] l all = tt
  before_with q key (Some value) [] l all = (l, tt)
  before_with q key value (p ∷ ps) l all = by (cmp p.0 key) refl (before_with q key value ps l all.1) (before_with q key None ps tt all.1)
    where
      by : (o : Ordering) → cmp p.0 key ≡ o → IsBeforeAll cmp q (with_value cmp key value ps) → IsBeforeAll cmp q (with_value cmp key None ps) → IsBeforeAll cmp q (turn o key value p (with_value cmp key value ps) (with_value cmp key None ps))
      by Less e kept gone = (all.0, kept)
      by Equal e kept gone = kept
      by Greater e kept gone = (before_pair q key value (p ∷ with_value cmp key None ps) l (all.0, gone))

  -- what all of these are after, a key before it is before all of them too
  before_less : (q key : List ℕ) (ps : List Pair) → cmp q key ≡ Less → IsBeforeAll cmp key ps → IsBeforeAll cmp q ps
  before_less q key [] l all = tt
  before_less q key (p ∷ ps) l all = (less q key p.0 l all.0, before_less q key ps l all.1)

  rising_pair : (key : List ℕ) (value : Option (List ℕ)) (rest : List Pair) → IsBeforeAll cmp key rest → AreRising cmp rest → AreRising cmp (pair_for key value ++ rest)
  rising_pair key None rest all rising = rising
  rising_pair key (Some value) rest all rising = (all, rising)

  before_self : (q key : List ℕ) (value : Option (List ℕ)) → cmp q key ≡ Less → BeforeValue q key value
  before_self q key None l = tt
  before_self q key (Some value) l = l

  rising_with : (key : List ℕ) (value : Option (List ℕ)) (ps : List Pair) → AreRising cmp ps → AreRising cmp (with_value cmp key value ps)
  rising_with key None [] rising = tt
  rising_with key (Some value) [] rising = (tt, tt)
  rising_with key value (p ∷ ps) rising = by (cmp p.0 key) refl (rising_with key value ps rising.1) (rising_with key None ps rising.1)
    where
      by : (o : Ordering) → cmp p.0 key ≡ o → AreRising cmp (with_value cmp key value ps) → AreRising cmp (with_value cmp key None ps) → AreRising cmp (turn o key value p (with_value cmp key value ps) (with_value cmp key None ps))
      by Less e kept gone = (before_with p.0 key value ps (before_self p.0 key value e) rising.0, kept)
      by Equal e kept gone = kept
      by Greater e kept gone =
          let l : cmp key p.0 ≡ Less = turned key p.0 ∙ ap ordering_reverse e in
          (rising_pair key value (p ∷ with_value cmp key None ps)
          (l, before_with key key None ps tt (before_less key p.0 ps l rising.0))
          (before_with p.0 key None ps tt rising.0, gone))

  -- the pair is the key's with its value, or it was there under another key
  abbrev IsOf : List ℕ → Option (List ℕ) → List Pair → Pair → Type 0
  IsOf key value ps pair = ((pair.0 ≡ key) × (value ≡ Some pair.1)) ⊎ ((pair.0 ≢ key) × Contains ps pair)

  later_of : (key : List ℕ) (value : Option (List ℕ)) (p : Pair) (ps : List Pair) (pair : Pair) → IsOf key value ps pair → IsOf key value (p ∷ ps) pair
  later_of key value p ps pair (inl e) = inl e
  later_of key value p ps pair (inr c) = inr (c.0, in_rest p pair ps c.1)

  front_of : (key : List ℕ) (value : Option (List ℕ)) (p : Pair) (ps : List Pair) (pair : Pair) → (cmp p.0 key ≡ Equal → ⊥) → p ≡ pair → IsOf key value (p ∷ ps) pair
  front_of key value p ps pair differ e = inr (subst (λ (x : Pair). x.0 ≢ key) e (apart p.0 key differ), subst (λ x. Contains (p ∷ ps) x) e (in_front p ps))

  in_pair : (key : List ℕ) (value : Option (List ℕ)) (rest : List Pair) (pair : Pair) → Contains (pair_for key value ++ rest) pair → ((pair.0 ≡ key) × (value ≡ Some pair.1)) ⊎ Contains rest pair
  in_pair key None rest pair c = inr c
  in_pair key (Some value) rest pair c =
      ⊎_elim
      (λ (e : (key, value) ≡ pair). inl (ap (λ (x : Pair). x.0) (sym e), ap (λ (x : Pair). Some x.1) e))
      (λ (rest' : Contains rest pair). inr rest')
      (in_cases (key, value) pair rest c)

  none_is_some : (pair : Pair) (key : List ℕ) → (pair.0 ≡ key) × (None ≡ Some pair.1) → ⊥
  none_is_some pair key e = let no = e.1 in cc

  from_none : (key : List ℕ) (value : Option (List ℕ)) (ps : List Pair) (pair : Pair) → IsOf key None ps pair → IsOf key value ps pair
  from_none key value ps pair (inl e) = absurd (none_is_some pair key e)
  from_none key value ps pair (inr c) = inr c

  of_with : (key : List ℕ) (value : Option (List ℕ)) (ps : List Pair) (pair : Pair) → Contains (with_value cmp key value ps) pair → IsOf key value ps pair
  of_with key value [] pair c =
      ⊎_elim
      (λ (e : (pair.0 ≡ key) × (value ≡ Some pair.1)). inl e)
      (λ (none : Contains [] pair). absurd (in_none pair none))
      (in_pair key value [] pair (subst (λ x. Contains x pair) (sym (append-nil (pair_for key value))) c))
  of_with key value (p ∷ ps) pair c = by (cmp p.0 key) refl (of_with key value ps pair) (of_with key None ps pair) c
    where
      by : (o : Ordering) → cmp p.0 key ≡ o → (Contains (with_value cmp key value ps) pair → IsOf key value ps pair) → (Contains (with_value cmp key None ps) pair → IsOf key None ps pair)
          → Contains (turn o key value p (with_value cmp key value ps) (with_value cmp key None ps)) pair → IsOf key value (p ∷ ps) pair
      by Less e kept gone there =
          ⊎_elim
          (λ (is : p ≡ pair). front_of key value p ps pair (λ f. let g : Less ≡ Equal = sym e ∙ f in cc) is)
          (λ (rest : Contains (with_value cmp key value ps) pair). later_of key value p ps pair (kept rest))
          (in_cases p pair (with_value cmp key value ps) there)
      by Equal e kept gone there = later_of key value p ps pair (kept there)
      by Greater e kept gone there =
          ⊎_elim
          (λ (is : (pair.0 ≡ key) × (value ≡ Some pair.1)). inl is)
          (λ (rest : Contains (p ∷ with_value cmp key None ps) pair).
          ⊎_elim
          (λ (is : p ≡ pair). front_of key value p ps pair (λ f. let g : Greater ≡ Equal = sym e ∙ f in cc) is)
          (λ (later : Contains (with_value cmp key None ps) pair). later_of key value p ps pair (from_none key value ps pair (gone later)))
          (in_cases p pair (with_value cmp key None ps) rest))
          (in_pair key value (p ∷ with_value cmp key None ps) pair there)

  -- and the other way round
  pair_in : (key : List ℕ) (value : Option (List ℕ)) (rest : List Pair) (pair : Pair) → (pair.0 ≡ key) × (value ≡ Some pair.1) → Contains (pair_for key value ++ rest) pair
  pair_in key None rest pair e = absurd (none_is_some pair key e)
  pair_in key (Some value) rest pair e =
      let v : value ≡ pair.1 = let h = e.1 in cc in
      subst (λ x. Contains ((key, value) ∷ rest) x) (λ i. (sym e.0 i, v i)) (in_front (key, value) rest)

  behind_pair : (key : List ℕ) (value : Option (List ℕ)) (rest : List Pair) (pair : Pair) → Contains rest pair → Contains (pair_for key value ++ rest) pair
  behind_pair key None rest pair c = c
  behind_pair key (Some value) rest pair c = in_rest (key, value) pair rest c

  -- there in what is left where the key isn't the first's
  of_rest : (key : List ℕ) (value : Option (List ℕ)) (p : Pair) (ps : List Pair) (pair : Pair) → (pair.0 ≢ key) → p ≡ pair ⊎ Contains ps pair → cmp p.0 key ≡ Equal → Contains ps pair
  of_rest key value p ps pair other (inl e) same = absurd (other (ap (λ (x : Pair). x.0) (sym e) ∙ order.exact p.0 key same))
  of_rest key value p ps pair other (inr c) same = c

  with_of : (key : List ℕ) (value : Option (List ℕ)) (ps : List Pair) (pair : Pair) → IsOf key value ps pair → Contains (with_value cmp key value ps) pair
  with_of key value [] pair (inl e) = subst (λ x. Contains x pair) (append-nil (pair_for key value)) (pair_in key value [] pair e)
  with_of key value [] pair (inr c) = absurd (in_none pair c.1)
  with_of key value (p ∷ ps) pair is = by (cmp p.0 key) refl (with_of key value ps pair) (with_of key None ps pair) is
    where
      by : (o : Ordering) → cmp p.0 key ≡ o → (IsOf key value ps pair → Contains (with_value cmp key value ps) pair) → (IsOf key None ps pair → Contains (with_value cmp key None ps) pair) → IsOf key value (p ∷ ps) pair → Contains (turn o key value p (with_value cmp key value ps) (with_value cmp key None ps)) pair
      by Less e kept gone (inl k) = (in_rest p pair (with_value cmp key value ps) (kept (inl k)))
      by Less e kept gone (inr c) = (
          ⊎_elim
          (λ (f : p ≡ pair). subst (λ x. Contains (p ∷ with_value cmp key value ps) x) f (in_front p (with_value cmp key value ps)))
          (λ (rest : Contains ps pair). in_rest p pair (with_value cmp key value ps) (kept (inr (c.0, rest))))
          (in_cases p pair ps c.1))
      by Equal e kept gone (inl k) = (kept (inl k))
      by Equal e kept gone (inr c) = (kept (inr (c.0, of_rest key value p ps pair c.0 (in_cases p pair ps c.1) e)))
      by Greater e kept gone (inl k) = (pair_in key value (p ∷ with_value cmp key None ps) pair k)
      by Greater e kept gone (inr c) = (behind_pair key value (p ∷ with_value cmp key None ps) pair (
          ⊎_elim
          (λ (f : p ≡ pair). subst (λ x. Contains (p ∷ with_value cmp key None ps) x) f (in_front p (with_value cmp key None ps)))
          (λ (rest : Contains ps pair). in_rest p pair (with_value cmp key None ps) (gone (inr (c.0, rest))))
          (in_cases p pair ps c.1)))

  module _ (es : List Entry) (last : Entry) (low : AreBelow last.sequence es) (s : ℕ) where
    -- ---- the view with one entry more

    seen_view : (ps : List Pair) → last.sequence ≤ s → IsView cmp es s ps → IsView cmp (es ++ last ∷ []) s (with_value cmp last.key last.value ps)
    seen_view ps seen view = record {
      sorted = rising_with last.key last.value ps view.sorted;
      exactly = λ key value. (
        (λ c. of_said es last low s key value seen (shown key value (of_with last.key last.value ps (key, value) c))),
        (λ shows. with_of last.key last.value ps (key, value) (paired key value (said_of es last low s key value seen shows))),
      );
    }
      where
        shown : (key value : List ℕ) → IsOf last.key last.value ps (key, value) → Said es last low s key value
        shown key value (inl is) = inl is
        shown key value (inr was) = inr (was.0, (view.exactly key value).0 was.1)

        paired : (key value : List ℕ) → Said es last low s key value → IsOf last.key last.value ps (key, value)
        paired key value (inl is) = inl is
        paired key value (inr was) = inr (was.0, (view.exactly key value).1 was.1)

    unseen_view : (ps : List Pair) → s < last.sequence → IsView cmp es s ps → IsView cmp (es ++ last ∷ []) s ps
    unseen_view ps past view = record {
      sorted = view.sorted;
      exactly = λ key value. (
        (λ c. (unseen es last low s past key value).1 ((view.exactly key value).0 c)),
        (λ shows. (view.exactly key value).1 ((unseen es last low s past key value).0 shows)),
      );
    }

    step_view : (ps : List Pair) → IsView cmp es s ps → IsView cmp (es ++ last ∷ []) s (if nat_le last.sequence s then with_value cmp last.key last.value ps else ps)
    step_view ps view = by (nat_le last.sequence s) refl
      where
        by : (b : Bool) → nat_le last.sequence s ≡ b → IsView cmp (es ++ last ∷ []) s (if b then with_value cmp last.key last.value ps else ps)
        by true e = seen_view ps (leb-true last.sequence s e) view
        by false e = unseen_view ps (leb-false last.sequence s e) view

  -- ---- the view of all

  onward : (low : ℕ) (es more : List Entry) (s : ℕ) (ps : List Pair) → AreBelow (low + 1) es → RiseAbove low more → IsView cmp es s ps → IsView cmp (es ++ more) s (view_from cmp s ps more)
  onward low es [] s ps below rising view = subst (λ x. IsView cmp x s ps) (sym (append-nil es)) view
  onward low es (entry ∷ more) s ps below rising view =
      subst (λ x. IsView cmp x s (view_from cmp s ps (entry ∷ more))) (append_assoc es (entry ∷ []) more)
      (onward entry.sequence (es ++ entry ∷ []) more s _ (below_more low es entry below rising.0) rising.1
      (step_view es entry (λ other c. let under = below other c in let above = rising.0 in omega arith) s ps view))

  -- the function gives the view of entries whose sequences rise
  pub view_from_is_view : (entries : List Entry) (s : ℕ) → RiseAbove 0 entries → IsView cmp entries s (view_from cmp s [] entries)
  view_from_is_view entries s rising = onward 0 [] entries s [] (λ entry c. absurd (in_none entry c)) rising none
    where
      none : IsView cmp [] s []
      none = record { sorted = tt; exactly = λ key value. ((λ c. absurd (in_none (key, value) c)), (λ shows. absurd (in_none shows.entry shows.newest.there))) }

-- ---- orders

-- an order of a comparator that accepts all keys and by which different ones are never `Equal`
pub exact_order : (accepts : List ℕ → Bool) (cmp : List ℕ → List ℕ → Ordering) → ((key : List ℕ) → accepts key ≡ true) → IsPreorderOn accepts cmp
    → ((a b : List ℕ) → cmp a b ≡ Equal → a ≡ b) → IsExactOrder cmp
exact_order accepts cmp all preorder exact = record {
  preorder = record {
    turned = λ a b p q. preorder.turned a b (all a) (all b);
    less = λ a b c p q r. preorder.less a b c (all a) (all b) (all c);
    alike = λ a b c p q r. preorder.alike a b c (all a) (all b) (all c);
  };
  exact = exact;
}

-- ---- one list, and one view

module _ (cmp : List ℕ → List ℕ → Ordering) where
  -- what is before all pairs is before each
  pub each_after : (key : List ℕ) (pairs : List Pair) (q : Pair) → IsBeforeAll cmp key pairs → Contains pairs q → is_lt (cmp key q.0) ≡ true
  each_after key [] q all c = absurd (in_none q c)
  each_after key (pair ∷ pairs) q all c =
      ⊎_elim
      (λ (e : pair ≡ q). ap (λ (x : Pair). is_lt (cmp key x.0)) (sym e) ∙ ap is_lt all.0)
      (λ (rest : Contains pairs q). each_after key pairs q all.1 rest)
      (in_cases pair q pairs c)

  -- and the other way round
  pub all_after : (key : List ℕ) (pairs : List Pair) → ((q : Pair) → Contains pairs q → cmp key q.0 ≡ Less) → IsBeforeAll cmp key pairs
  all_after key [] each = tt
  all_after key (pair ∷ pairs) each = (each pair (in_front pair pairs), all_after key pairs (λ q c. each q (in_rest pair q pairs c)))

module _ (cmp : List ℕ → List ℕ → Ordering) (total : IsTotalOrder cmp) where
  -- lists that rise and have the same pairs are one list
  pub one_list : (ps qs : List Pair) → AreRising cmp ps → AreRising cmp qs
      → ((q : Pair) → Contains ps q → Contains qs q) → ((q : Pair) → Contains qs q → Contains ps q) → ps ≡ qs
  one_list [] [] rp rq to from = refl
  one_list [] (q ∷ qs) rp rq to from = absurd (in_none q (from q (in_front q qs)))
  one_list (p ∷ ps) [] rp rq to from = absurd (in_none p (to p (in_front p ps)))
  one_list (p ∷ ps) (q ∷ qs) rp rq to from = joined heads (one_list ps qs rp.1 rq.1 to_rest from_rest)
    where
      heads : p ≡ q
      heads = by (in_cases q p qs (to p (in_front p ps))) (in_cases p q ps (from q (in_front q qs)))
        where
          by : (q ≡ p) ⊎ Contains qs p → (p ≡ q) ⊎ Contains ps q → p ≡ q
          by (inl e) other = sym e
          by (inr c) (inl e) = e
          by (inr c) (inr d) = both (is_lt (cmp p.0 q.0)) (each_after cmp p.0 ps q rp.0 d) (lt_turn total q.0 p.0 (each_after cmp q.0 qs p rq.0 c))

      rest_of : (x y r : Pair) (xs ys : List Pair) → IsBeforeAll cmp x.0 xs → y ≡ x → Contains xs r → (y ≡ r) ⊎ Contains ys r → Contains ys r
      rest_of x y r xs ys all e c (inr d) = d
      rest_of x y r xs ys all e c (inl f) = both (is_lt (cmp x.0 x.0)) (ap (λ (z : Pair). is_lt (cmp x.0 z.0)) (sym e ∙ f) ∙ each_after cmp x.0 xs r all c) (lt_itself total x.0)

      to_rest : (r : Pair) → Contains ps r → Contains qs r
      to_rest r c = rest_of p q r ps qs rp.0 (sym heads) c (in_cases q r qs (to r (in_rest p r ps c)))

      from_rest : (r : Pair) → Contains qs r → Contains ps r
      from_rest r c = rest_of q p r qs ps rq.0 heads c (in_cases p r ps (from r (in_rest q r qs c)))

      joined : p ≡ q → ps ≡ qs → p ∷ ps ≡ q ∷ qs
      joined e es = λ i. e i ∷ es i

pub one_rising_list : OneRisingList
one_rising_list cmp total these those p q same = one_list cmp total these those p q (λ pair. (same pair).0) (λ pair. (same pair).1)

pub one_view : OneView
one_view cmp order entries s these those v w =
    one_list cmp (exact_total order) these those v.sorted w.sorted
    (λ pair c. (w.exactly pair.0 pair.1).1 ((v.exactly pair.0 pair.1).0 c))
    (λ pair c. (v.exactly pair.0 pair.1).1 ((w.exactly pair.0 pair.1).0 c))

-- ---- views of sets that give the same values

-- what a set shows, each set of the same entries shows
value_too : (these those : List Entry) → ((entry : Entry) → Contains these entry ↔ Contains those entry)
    → (s : ℕ) (key value : List ℕ) → HasValueAt these s key value → HasValueAt those s key value
value_too these those same s key value shows = record {
  entry = shows.entry;
  newest = record {
    there = (same shows.entry).0 shows.newest.there;
    seen = shows.newest.seen;
    newest = λ other c k seen. shows.newest.newest other ((same other).1 c) k seen;
  };
  key_is = shows.key_is;
  value_is = shows.value_is;
}

pub same_sets : (these those : List Entry) → ((entry : Entry) → Contains these entry ↔ Contains those entry)
    → (s : ℕ) → SameView these those s
same_sets these those same s key value = (
  value_too these those same s key value,
  value_too those these (λ entry. ((same entry).1, (same entry).0)) s key value,
)

pub view_passes : ViewPasses
view_passes cmp these those s pairs same v = record {
  sorted = v.sorted;
  exactly = λ key value. (λ c. (same key value).0 ((v.exactly key value).0 c), λ shows. (v.exactly key value).1 ((same key value).1 shows));
}

pub shared_view_is_same : SharedViewIsSame
shared_view_is_same cmp these those s pairs v w = λ key value.
    (λ shows. (w.exactly key value).0 ((v.exactly key value).1 shows), λ shows. (v.exactly key value).0 ((w.exactly key value).1 shows))

-- what one set shows and another too, it still shows with newer entries that come to both
with_more : (es fs more : List Entry) (last s : ℕ) → AreUpTo last es → AreUpTo last fs → AreAbove last more
    → ((key value : List ℕ) → HasValueAt es s key value → HasValueAt fs s key value) → (key value : List ℕ) → HasValueAt (es ++ more) s key value → HasValueAt (fs ++ more) s key value
with_more es fs more last s low_es low_fs above so key value shows = ⊎_elim old new (Contains-append_cases es more shows.entry shows.newest.there)
  where
    new : Contains more shows.entry → HasValueAt (fs ++ more) s key value
    new there = record {
      entry = shows.entry;
      newest = record {
        there = Contains-append_right fs more shows.entry there;
        seen = shows.newest.seen;
        newest = λ other c k seen.
            ⊎_elim
            (λ (in_old : Contains fs other). omega (arith, low_fs other in_old, above shows.entry there))
            (λ (in_more : Contains more other). shows.newest.newest other (Contains-append_right es more other in_more) k seen)
            (Contains-append_cases fs more other c);
      };
      key_is = shows.key_is;
      value_is = shows.value_is;
    }

    old : Contains es shows.entry → HasValueAt (fs ++ more) s key value
    old there =
        let before : HasValueAt es s key value = record {
          entry = shows.entry;
          newest = record { there = there; seen = shows.newest.seen; newest = λ other c k seen. shows.newest.newest other (Contains-append_left es more other c) k seen };
          key_is = shows.key_is;
          value_is = shows.value_is;
        } in
        let found : HasValueAt fs s key value = so key value before in
        record {
          entry = found.entry;
          newest = record {
            there = Contains-append_left fs more found.entry found.newest.there;
            seen = found.newest.seen;
            newest = λ other c k seen.
                ⊎_elim
                (λ (in_old : Contains fs other). found.newest.newest other in_old k seen)
                (λ (in_more : Contains more other).
                let high = shows.newest.newest other (Contains-append_right es more other in_more) (k ∙ found.key_is ∙ sym shows.key_is) seen in
                let low = low_es shows.entry there in
                let up = above other in_more in
                omega (arith, high, low, up))
                (Contains-append_cases fs more other c);
          };
          key_is = found.key_is;
          value_is = found.value_is;
        }

pub same_with_more : SameWithMore
same_with_more these those more last s low high above same = λ key value. (
  with_more these those more last s low high above (λ k v. (same k v).0) key value,
  with_more those these more last s high low above (λ k v. (same k v).1) key value,
)
