-- Fragments in their places: those of records, one after another, and those of a record that has
-- begun.
use Rattle.std.proofs.Common.{◌≡◌, ◌≢◌, ◌∙◌, ◌⊎◌, inl, inr, ⊎_elim, ◌≤◌, ◌<◌, ℕ, Bool, List, [], ◌∷◌, ◌++◌, length, ap, append-nil, append_assoc, arith, length-append, refl, subst, sym, false, true}
use Rattle.std.specs.List.{concat}
use Rattle.std.proofs.lemmas.List.Folds.{concat-append}
use Rattle.leveldb_mem.proofs.FragmentLemmas.{in_front, one_fragment}
use Rattle.leveldb_mem.proofs.LogLemmas.{offset_after_both, offset_after_none}
use Rattle.leveldb_mem.specs.Log.{AreFragments, Fragment, IsFragment, LogOf, begun_of, clean, fragment_of, fragments_of, log_block_size, offset_after, record_type}
use Rattle.leveldb_store.specs.Logs.Damage.{ContinueInTurn, ContinuesRecord, NoneContinues, parts_after}

abbrev block : ℕ
block = log_block_size

fits : block ≤ 32768
fits = omega arith

inside : (offset : ℕ) (bytes : List ℕ) → offset_after block offset bytes < block
inside offset bytes = omega arith

-- ---- a record that has begun

-- no part has begun one
abbrev is_new : List (List ℕ) → Bool
is_new [] = true
is_new (part ∷ parts) = false

-- a part that isn't the last
next_continues : (before : List (List ℕ)) (part : List ℕ)
    → ContinuesRecord before (fragment_of (record_type (is_new before) false) part)
next_continues [] part = inl refl
next_continues (first ∷ parts) part = inl refl

-- and the last one, of a record that has a byte
last_continues : (before : List (List ℕ)) (part : List ℕ) → concat before ++ part ≢ []
    → ContinuesRecord before (fragment_of (record_type (is_new before) true) part)
last_continues [] part some = inr (refl, some)
last_continues (first ∷ parts) part some = inr (refl, some)

after_next : (before : List (List ℕ)) (part : List ℕ)
    → parts_after before (fragment_of (record_type (is_new before) false) part) ≡ before ++ part ∷ []
after_next [] part = refl
after_next (first ∷ parts) part = refl

after_last : (before : List (List ℕ)) (part : List ℕ)
    → parts_after before (fragment_of (record_type (is_new before) true) part) ≡ []
after_last [] part = refl
after_last (first ∷ parts) part = refl

one_more_old : (before : List (List ℕ)) (part : List ℕ) → is_new (before ++ part ∷ []) ≡ false
one_more_old [] part = refl
one_more_old (first ∷ parts) part = refl

pub concat_more : (before : List (List ℕ)) (part : List ℕ) → concat (before ++ part ∷ []) ≡ concat before ++ part
concat_more before part = concat-append before (part ∷ []) ∙ ap (λ z. concat before ++ z) (append-nil part)

-- ---- fragments, one after another

pub continue_then : (fs gs : List Fragment) (a b c : List (List ℕ)) → ContinueInTurn a fs b
    → ContinueInTurn b gs c → ContinueInTurn a (fs ++ gs) c
continue_then [] gs a b c none those = subst (λ s. ContinueInTurn s gs c) none those
continue_then (f ∷ fs) gs a b c one those =
    (one.0, continue_then fs gs (parts_after a f) b c one.1 those)

-- the parts of a record that has begun
begun_continue : (first : Bool) (before parts : List (List ℕ)) → is_new before ≡ first
    → ContinueInTurn before (begun_of first parts) (before ++ parts)
begun_continue first before [] is = append-nil before
begun_continue first before (part ∷ parts) is =
    let f = fragment_of (record_type first false) part in (
      subst (λ b. ContinuesRecord before (fragment_of (record_type b false) part)) is (next_continues before part),
      subst (λ s. ContinueInTurn s (begun_of false parts) (before ++ part ∷ parts))
          (sym (subst (λ b. parts_after before (fragment_of (record_type b false) part) ≡ before ++ part ∷ []) is (after_next before part)))
          (subst (λ those. ContinueInTurn (before ++ part ∷ []) (begun_of false parts) those)
          (append_assoc before (part ∷ []) parts)
          (begun_continue false (before ++ part ∷ []) parts (one_more_old before part))),
    )

-- the parts of a whole record
record_continues : (first : Bool) (before : List (List ℕ)) (part : List ℕ) (parts : List (List ℕ)) → is_new before ≡ first
    → concat before ++ (part ++ concat parts) ≢ [] → ContinueInTurn before (fragments_of first part parts) []
record_continues first before part [] is some = (
  subst (λ b. ContinuesRecord before (fragment_of (record_type b true) part)) is
      (last_continues before part (λ none. some (ap (λ z. concat before ++ z) (append-nil part) ∙ none))),
  sym (subst (λ b. parts_after before (fragment_of (record_type b true) part) ≡ []) is (after_last before part)),
)
record_continues first before part (next ∷ parts) is some = (
  subst (λ b. ContinuesRecord before (fragment_of (record_type b false) part)) is (next_continues before part),
  subst (λ s. ContinueInTurn s (fragments_of false next parts) [])
      (sym (subst (λ b. parts_after before (fragment_of (record_type b false) part) ≡ before ++ part ∷ []) is (after_next before part)))
      (record_continues false (before ++ part ∷ []) next parts (one_more_old before part)
      (λ none. some (sym (append_assoc (concat before) part (next ++ concat parts))
      ∙ ap (λ z. z ++ (next ++ concat parts)) (sym (concat_more before part)) ∙ none))),
)

-- ---- in a log's bytes

-- one more fragment
pub whole_more : (offset : ℕ) → offset < block → (fs : List Fragment) (a b : List ℕ) (f : Fragment) → AreFragments true block fs offset a
    → IsFragment true block f (offset_after block offset a) b → AreFragments true block (fs ++ f ∷ []) offset (a ++ b)
whole_more offset small [] a b f are is = record {
  front = b;
  rest = [];
  bytes_are = ap (λ z. z ++ b) are ∙ sym (append-nil b);
  is_front = subst (λ o. IsFragment true block f o b) (offset_after_none block offset small a are) is;
  is_rest = refl;
}
whole_more offset small (g ∷ fs) a b f are is = record {
  front = are.front;
  rest = are.rest ++ b;
  bytes_are = ap (λ z. z ++ b) are.bytes_are ∙ append_assoc are.front are.rest b;
  is_front = are.is_front;
  is_rest = whole_more (offset_after block offset are.front) (inside offset are.front) fs are.rest b f are.is_rest
      (subst (λ o. IsFragment true block f o b) (sym (offset_after_both block offset are.front are.rest a are.bytes_are)) is);
}

-- fragments, and then others
pub fragments_then : (offset : ℕ) → offset < block → (fs gs : List Fragment) (a b : List ℕ)
    → AreFragments true block fs offset a → AreFragments true block gs (offset_after block offset a) b
    → AreFragments true block (fs ++ gs) offset (a ++ b)
fragments_then offset small [] gs a b none those =
    subst (λ z. AreFragments true block gs offset (z ++ b)) (sym none)
    (subst (λ o. AreFragments true block gs o b) (offset_after_none block offset small a none) those)
fragments_then offset small (f ∷ fs) gs a b are those = record {
  front = are.front;
  rest = are.rest ++ b;
  bytes_are = ap (λ z. z ++ b) are.bytes_are ∙ append_assoc are.front are.rest b;
  is_front = are.is_front;
  is_rest = fragments_then (offset_after block offset are.front) (inside offset are.front) fs gs
      are.rest b are.is_rest
      (subst (λ o. AreFragments true block gs o b)
      (sym (offset_after_both block offset are.front are.rest a are.bytes_are)) those);
}

-- bytes that are whole fragments, each of which goes on with the record that those before have
-- begun
pub record ArePlacedIn (offset : ℕ) (bytes : List ℕ) (parts those : List (List ℕ)) : Type 0 where
  pub fragments : List Fragment
  pub whole : AreFragments true block fragments offset bytes
  pub placed : ContinueInTurn parts fragments those

pub placed_then : (offset : ℕ) → offset < block → (a b : List ℕ) (s t u : List (List ℕ)) → ArePlacedIn offset a s t
    → ArePlacedIn (offset_after block offset a) b t u → ArePlacedIn offset (a ++ b) s u
placed_then offset small a b s t u first second = record {
  fragments = first.fragments ++ second.fragments;
  whole = fragments_then offset small first.fragments second.fragments a b first.whole second.whole;
  placed = continue_then first.fragments second.fragments s t u first.placed second.placed;
}

-- a log with a clean end is so
pub log_placed : (offset : ℕ) → offset < block → (records : List (List ℕ)) (bytes : List ℕ)
    → LogOf true block records clean offset bytes → ArePlacedIn offset bytes [] []
log_placed offset small [] bytes none = record { fragments = []; whole = none; placed = refl }
log_placed offset small (text ∷ texts) bytes log =
    let one = log.is_front in
    let whole = one.whole in
    subst (λ z. ArePlacedIn offset z [] []) (sym log.bytes_are)
    (placed_then offset small log.front log.rest [] [] []
    (record {
      fragments = fragments_of true whole.part whole.parts;
      whole = whole.laid;
      placed = record_continues true [] whole.part whole.parts refl (λ none. one.some (sym whole.text_is ∙ none));
    })
    (log_placed (offset_after block offset log.front) (inside offset log.front) texts log.rest log.is_rest))

-- and so are the parts of a record that has begun
pub begun_placed : (offset : ℕ) (parts : List (List ℕ)) (bytes : List ℕ) → AreFragments true block (begun_of true parts) offset bytes
    → ArePlacedIn offset bytes [] parts
begun_placed offset parts bytes laid =
    record { fragments = begun_of true parts; whole = laid; placed = begun_continue true [] parts refl }

-- such bytes go no further than to where no fragment goes on
pub within_placed : (offset : ℕ) → offset < block → (fs gs : List Fragment) (s now those : List (List ℕ)) (a x front rest : List ℕ)
    → AreFragments true block fs offset a → ContinueInTurn s fs now → AreFragments true block gs offset front → ContinueInTurn s gs those
    → a ++ x ≡ front ++ rest → NoneContinues those (offset_after block offset front) rest → length a ≤ length front
within_placed offset small [] gs s now those a x front rest none go are goes e stops = let nothing = ap length none in omega arith
within_placed offset small (f ∷ fs) [] s now those a x front rest are go none goes e stops =
    absurd (stops f (subst (λ p. ContinuesRecord p f) (sym goes) go.0) are.front (are.rest ++ x)
    (sym (in_front a are.front are.rest x (front ++ rest) are.bytes_are e ∙ ap (λ z. z ++ rest) none))
    (subst (λ o. IsFragment true block f o are.front) (sym (offset_after_none block offset small front none)) are.is_front))
within_placed offset small (f ∷ fs) (g ∷ gs) s now those a x front rest are go others goes e stops =
    let both : are.front ++ (are.rest ++ x) ≡ others.front ++ (others.rest ++ rest) =
    in_front a are.front are.rest x (front ++ rest) are.bytes_are e ∙ sym (in_front front others.front others.rest rest (front ++ rest) others.bytes_are refl) in
    let same = one_fragment true block fits offset f g are.front others.front (are.rest ++ x) (others.rest ++ rest) are.is_front others.is_front both in
    let moved = offset_after_both block offset others.front others.rest front others.bytes_are in
    let further = within_placed (offset_after block offset are.front) (inside offset are.front) fs gs (parts_after s f) now those are.rest x others.rest rest are.is_rest go.1
    (subst (λ z. AreFragments true block gs (offset_after block offset z) others.rest) (sym same.1) others.is_rest)
    (subst (λ h. ContinueInTurn (parts_after s h) gs those) (sym same.0) goes.1) same.2
    (subst (λ o. NoneContinues those o rest) (sym moved ∙ ap (λ z. offset_after block (offset_after block offset z) others.rest) (sym same.1)) stops) in
    let heads = ap length same.1 in
    let all = ap length are.bytes_are ∙ length-append are.front are.rest in
    let mine = ap length others.bytes_are ∙ length-append others.front others.rest in
    omega arith

-- ---- the records of fragments in their places

-- how a fragment goes on: it is the next part of the record, or the last one
continues_as : (before : List (List ℕ)) (f : Fragment) → ContinuesRecord before f
    → (f ≡ fragment_of (record_type (is_new before) false) f.part)
    ⊎ ((f ≡ fragment_of (record_type (is_new before) true) f.part) × (concat before ++ f.part ≢ []))
continues_as [] f (inl next) = inl (ap (λ t. fragment_of t f.part) next)
continues_as [] f (inr last) = inr (ap (λ t. fragment_of t f.part) last.0, last.1)
continues_as (first ∷ parts) f (inl next) = inl (ap (λ t. fragment_of t f.part) next)
continues_as (first ∷ parts) f (inr last) = inr (ap (λ t. fragment_of t f.part) last.0, last.1)

-- the bytes are parts alone, which go on with the record that those before have begun
record OnlyGoesOn (offset : ℕ) (before : List (List ℕ)) (bytes : List ℕ) (those : List (List ℕ)) : Type 0 where
  more : List (List ℕ)
  those_are : those ≡ before ++ more
  laid : AreFragments true block (begun_of (is_new before) more) offset bytes

-- the bytes begin with what is left of that record; then come whole records, and then parts that
-- have begun one
record EndsFirst (offset : ℕ) (before : List (List ℕ)) (bytes : List ℕ) (those : List (List ℕ)) : Type 0 where
  part : List ℕ
  parts : List (List ℕ)
  some : concat before ++ (part ++ concat parts) ≢ []
  head : List ℕ
  front : List ℕ
  begun : List ℕ
  records : List (List ℕ)
  bytes_are : bytes ≡ head ++ (front ++ begun)
  ended : AreFragments true block (fragments_of (is_new before) part parts) offset head
  read : LogOf true block records clean (offset_after block offset head) front
  laid : AreFragments true block (begun_of true those) (offset_after block offset (head ++ front)) begun

abbrev Splits : ℕ → List (List ℕ) → List ℕ → List (List ℕ) → Type 0
Splits offset before bytes those = OnlyGoesOn offset before bytes those ⊎ EndsFirst offset before bytes those

module _ (offset : ℕ) (before those : List (List ℕ)) (bytes : List ℕ) (f : Fragment) (fs : List Fragment)
    (are : AreFragments true block (f ∷ fs) offset bytes) where
  abbrev after : ℕ
  after = offset_after block offset are.front

  -- one part before what is left
  split_next : f ≡ fragment_of (record_type (is_new before) false) f.part
      → Splits after (before ++ f.part ∷ []) are.rest those → Splits offset before bytes those
  split_next is (inl only) = inl (record {
    more = f.part ∷ only.more;
    those_are = only.those_are ∙ append_assoc before (f.part ∷ []) only.more;
    laid = record {
      front = are.front;
      rest = are.rest;
      bytes_are = are.bytes_are;
      is_front = subst (λ g. IsFragment true block g offset are.front) is are.is_front;
      is_rest = subst (λ b. AreFragments true block (begun_of b only.more) after are.rest) (one_more_old before f.part) only.laid;
    };
  })
  split_next is (inr ends) = inr (record {
    part = f.part;
    parts = ends.part ∷ ends.parts;
    some = λ none. ends.some (ap (λ z. z ++ (ends.part ++ concat ends.parts)) (concat_more before f.part)
        ∙ append_assoc (concat before) f.part (ends.part ++ concat ends.parts) ∙ none);
    head = are.front ++ ends.head;
    front = ends.front;
    begun = ends.begun;
    records = ends.records;
    bytes_are = are.bytes_are ∙ ap (λ z. are.front ++ z) ends.bytes_are
        ∙ sym (append_assoc are.front ends.head (ends.front ++ ends.begun));
    ended = record {
      front = are.front;
      rest = ends.head;
      bytes_are = refl;
      is_front = subst (λ g. IsFragment true block g offset are.front) is are.is_front;
      is_rest = subst (λ b. AreFragments true block (fragments_of b ends.part ends.parts) after ends.head) (one_more_old before f.part) ends.ended;
    };
    read = subst (λ o. LogOf true block ends.records clean o ends.front)
        (offset_after_both block offset are.front ends.head (are.front ++ ends.head) refl) ends.read;
    laid = subst (λ o. AreFragments true block (begun_of true those) o ends.begun)
        (offset_after_both block offset are.front (ends.head ++ ends.front) ((are.front ++ ends.head) ++ ends.front)
        (append_assoc are.front ends.head ends.front)) ends.laid;
  })

  -- the last part before what comes after the record
  split_last : f ≡ fragment_of (record_type (is_new before) true) f.part → concat before ++ f.part ≢ []
      → Splits after [] are.rest those → Splits offset before bytes those
  split_last is filled sub = inr (by sub)
    where
      some : concat before ++ (f.part ++ concat []) ≢ []
      some none = filled (ap (λ z. concat before ++ z) (sym (append-nil f.part)) ∙ none)

      ended : AreFragments true block (fragments_of (is_new before) f.part []) offset are.front
      ended = record {
        front = are.front;
        rest = [];
        bytes_are = sym (append-nil are.front);
        is_front = subst (λ g. IsFragment true block g offset are.front) is are.is_front;
        is_rest = refl;
      }

      by : Splits after [] are.rest those → EndsFirst offset before bytes those
      by (inl only) = record {
        part = f.part;
        parts = [];
        some = some;
        head = are.front;
        front = [];
        begun = are.rest;
        records = [];
        bytes_are = are.bytes_are;
        ended = ended;
        read = refl;
        laid = subst (λ z. AreFragments true block (begun_of true those) (offset_after block offset z) are.rest) (sym (append-nil are.front))
            (subst (λ m. AreFragments true block (begun_of true m) after are.rest) (sym only.those_are) only.laid);
      }
      by (inr ends) = record {
        part = f.part;
        parts = [];
        some = some;
        head = are.front;
        front = ends.head ++ ends.front;
        begun = ends.begun;
        records = (ends.part ++ concat ends.parts) ∷ ends.records;
        bytes_are = are.bytes_are ∙ ap (λ z. are.front ++ z) (ends.bytes_are ∙ sym (append_assoc ends.head ends.front ends.begun));
        ended = ended;
        read = record {
          front = ends.head;
          rest = ends.front;
          bytes_are = refl;
          is_front = record {
            some = ends.some;
            whole = record { part = ends.part; parts = ends.parts; text_is = refl; laid = ends.ended };
          };
          is_rest = ends.read;
        };
        laid = subst (λ o. AreFragments true block (begun_of true those) o ends.begun)
            (offset_after_both block offset are.front (ends.head ++ ends.front) (are.front ++ (ends.head ++ ends.front)) refl) ends.laid;
      }

split_placed : (offset : ℕ) → (fs : List Fragment) (before those : List (List ℕ)) (bytes : List ℕ)
    → AreFragments true block fs offset bytes → ContinueInTurn before fs those → Splits offset before bytes those
split_placed offset [] before those bytes none go =
    inl (record { more = []; those_are = go ∙ sym (append-nil before); laid = none })
split_placed offset (f ∷ fs) before those bytes are go = ⊎_elim
    (λ (next : f ≡ fragment_of (record_type (is_new before) false) f.part).
    split_next offset before those bytes f fs are next
    (split_placed (offset_after block offset are.front) fs (before ++ f.part ∷ []) those are.rest are.is_rest
    (subst (λ s. ContinueInTurn s fs those) (ap (parts_after before) next ∙ after_next before f.part) go.1)))
    (λ (last : (f ≡ fragment_of (record_type (is_new before) true) f.part) × (concat before ++ f.part ≢ [])).
    split_last offset before those bytes f fs are last.0 last.1
    (split_placed (offset_after block offset are.front) fs [] those are.rest are.is_rest
    (subst (λ s. ContinueInTurn s fs those) (ap (parts_after before) last.0 ∙ after_last before f.part) go.1)))
    (continues_as before f go.0)

-- bytes that are whole records, and then parts that have begun one
pub record AreRecordsAndParts (bytes : List ℕ) (parts : List (List ℕ)) : Type 0 where
  pub records : List (List ℕ)
  pub front : List ℕ
  pub begun : List ℕ
  pub bytes_are : bytes ≡ front ++ begun
  pub read : LogOf true block records clean 0 front
  pub laid : AreFragments true block (begun_of true parts) (offset_after block 0 front) begun

-- fragments in their places are so
pub records_placed : (fs : List Fragment) (parts : List (List ℕ)) (bytes : List ℕ) → AreFragments true block fs 0 bytes
    → ContinueInTurn [] fs parts → AreRecordsAndParts bytes parts
records_placed fs parts bytes are go = by (split_placed 0 fs [] parts bytes are go)
  where
    by : Splits 0 [] bytes parts → AreRecordsAndParts bytes parts
    by (inl only) = record {
      records = [];
      front = [];
      begun = bytes;
      bytes_are = refl;
      read = refl;
      laid = subst (λ m. AreFragments true block (begun_of true m) 0 bytes) (sym only.those_are) only.laid;
    }
    by (inr ends) = record {
      records = (ends.part ++ concat ends.parts) ∷ ends.records;
      front = ends.head ++ ends.front;
      begun = ends.begun;
      bytes_are = ends.bytes_are ∙ sym (append_assoc ends.head ends.front ends.begun);
      read = record {
        front = ends.head;
        rest = ends.front;
        bytes_are = refl;
        is_front = record {
          some = ends.some;
          whole = record { part = ends.part; parts = ends.parts; text_is = refl; laid = ends.ended };
        };
        is_rest = ends.read;
      };
      laid = ends.laid;
    }
