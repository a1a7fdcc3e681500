-- The laws of the comparators of this crate. They are in specs/ since the impls of `Cmp` prove
-- their laws by them, and the checker takes no term of proofs/ there.
use Rattle.std.specs.Prelude.{◌≡◌, ◌≢◌, ℕ, Bool, true, List, refl, ◌+◌, false, nat_lt, nat_eq, if◌then◌else◌, [], ◌∷◌, ◌++◌, Option, Some, None, unwrap_or, ◌&&◌}
use Rattle.std.proofs.Common.{sym, ◌∙◌, ap, arith, cond, ◌-◌, ◌^◌, ◌<◌, ◌≤◌, nat_le, length, take, drop, append-nil}
use Rattle.std.specs.declared.cmp.Ordering.{Ordering}
use Rattle.std.specs.declared.cmp.Ordering.TheVariants.{Less, Equal, Greater}
use Rattle.std.specs.Ordering.{ordering_reverse, nat_cmp, is_lt, ordering_then}
use Rattle.std.specs.Cmp.{IsTotalOrder, tied_itself, nat_cmp_total, nat_cmp_is}
use Rattle.leveldb_base.specs.Cmp.{IsPreorderOn, IsSeparator, IsSuccessor, bytewise, bytewise_separator, bytewise_successor, raised_between, raised_last, raised_first, raised_or_lengthened, lengthened, is_before, internal_accepts, internal_separator, internal_successor, memtable_accepts}
use Rattle.std.specs.Option.{option_map}
use Rattle.std.specs.Cmp.Lexicographic.{nat_list_cmp_total}
use Rattle.std.specs.Str.{bytes_eq}
use Rattle.std.proofs.lemmas.Map.Lookups.{exact_bytes}
use Rattle.std.proofs.lemmas.Slice.Eq.{bytes_eq-Decides}
use Rattle.std.proofs.lemmas.Bool.{and_from, le-leb, and_parts}
use Rattle.std.proofs.lemmas.List.{length-append}
use Rattle.std.proofs.Math.Seq.{take-append_seam, drop-append_seam}
use Rattle.byteorder.specs.Endian.{little_number}
use Rattle.byteorder.specs.Numbers.{little_number-reads_back, length-bytes_low_first}
use Rattle.leveldb_base.specs.Varint.{little}
use Rattle.leveldb_base.specs.declared.key_types.ValueType.{ValueType}
use Rattle.leveldb_base.specs.declared.key_types.ValueType.TheVariants.{TypeDeletion, TypeValue}
use Rattle.leveldb_base.specs.KeyTypes.{type_number, tag, internal_key, user_part, tag_part, sequence_part, internal_cmp, front_key, greatest_sequence, memtable_cmp}

-- ---- what follows from the laws of a comparator

own_turn : (r : Ordering) → r ≡ ordering_reverse r → r ≡ Equal
own_turn Less e = cc
own_turn Equal e = refl
own_turn Greater e = cc

equal_not_less : (r : Ordering) → r ≡ Equal → r ≢ Less
equal_not_less r e l = cc

module _ {accepts : List ℕ → Bool} {cmp : List ℕ → List ℕ → Ordering}
    (o : IsPreorderOn accepts cmp) where
  -- an accepted key and itself
  pub itself_equal : (a : List ℕ) → accepts a ≡ true → cmp a a ≡ Equal
  itself_equal a h = own_turn (cmp a a) (o.turned a a h h)

  -- a key is compared alike with keys that are Equal
  pub alike_right : (a b c : List ℕ) → accepts a ≡ true → accepts b ≡ true → accepts c ≡ true
      → cmp b c ≡ Equal → cmp a c ≡ cmp a b
  alike_right a b c ha hb hc e = o.turned a c ha hc
      ∙ ap ordering_reverse (sym (o.alike b c a hb hc ha e)) ∙ sym (o.turned a b ha hb)

  -- a key separates itself from what isn't before it
  pub itself_separates : (a b : List ℕ) → accepts a ≡ true → IsSeparator accepts cmp a b a
  itself_separates a b h =
      record {
        accepted = h;
        from = equal_not_less (cmp a a) (itself_equal a h);
        before = λ e. e;
        same = λ e. refl;
      }

  -- a key is at or after itself
  pub itself_succeeds : (a : List ℕ) → accepts a ≡ true → IsSuccessor accepts cmp a a
  itself_succeeds a h = record { accepted = h; from = equal_not_less (cmp a a) (itself_equal a h) }

  -- where all keys are accepted, the order is total in std's sense
  pub total_order : ((key : List ℕ) → accepts key ≡ true) → IsTotalOrder cmp
  total_order all = record {
    antisymm = λ a b. o.turned a b (all a) (all b);
    trans = λ a b c. o.less a b c (all a) (all b) (all c);
    congr = λ a b c. o.alike a b c (all a) (all b) (all c);
  }

  -- keys that are ordered by a part of theirs
  pub preorder_by : (part : List ℕ → List ℕ)
      → IsPreorderOn (λ a. accepts (part a)) (λ a b. cmp (part a) (part b))
  preorder_by part = record {
    turned = λ a b. o.turned (part a) (part b);
    less = λ a b c. o.less (part a) (part b) (part c);
    alike = λ a b c. o.alike (part a) (part b) (part c);
  }

-- ---- the laws of the order of bytes, of its separator and of its successor

-- the order of bytes is a total preorder on all keys
pub bytewise_preorder : IsPreorderOn (λ _. true) bytewise
bytewise_preorder =
    let t : IsTotalOrder bytewise = nat_list_cmp_total in
    record {
      turned = λ a b _ _. t.antisymm a b;
      less = λ a b c _ _ _. t.trans a b c;
      alike = λ a b c _ _ _. t.congr a b c;
    }

-- in which different keys are never `Equal`
pub bytewise_exact : (a b : List ℕ) → bytewise a b ≡ Equal → a ≡ b
bytewise_exact = exact_bytes

itself : (a : List ℕ) → bytewise a a ≡ Equal
itself = tied_itself nat_list_cmp_total

-- a key is before itself with any bytes after it
longer_after : (a : List ℕ) (x : ℕ) (rest : List ℕ) → bytewise (a ++ x ∷ rest) a ≡ Greater
longer_after [] x rest = refl
longer_after (y ∷ a) x rest = rw (tied_itself nat_cmp_total y) (longer_after a x rest)

raised_number : (x : ℕ) → nat_cmp (x + 1) x ≡ Greater
raised_number x = sym (nat_cmp_is (x + 1) x Greater (omega arith))

-- what is raised to come after a key: nothing, or a key after it
abbrev IsAfter : List ℕ → Option (List ℕ) → Type 0
IsAfter a None = Unit {0}
IsAfter a (Some key) = bytewise key a ≡ Greater

-- the same after one byte more
after_cons : (x : ℕ) (a : List ℕ) (raised : Option (List ℕ)) → IsAfter a raised
    → IsAfter (x ∷ a) (option_map (λ key. x ∷ key) raised)
after_cons x a None h = tt
after_cons x a (Some key) h = rw (tied_itself nat_cmp_total x) h

raised_first_after : (a : List ℕ) → IsAfter a (raised_first a)
raised_first_after [] = tt
raised_first_after (x ∷ a) =
    elim (nat_eq x 0xff) as (λ t. IsAfter (x ∷ a)
    (cond t (option_map (λ key. x ∷ key) (raised_first a)) (Some ((x + 1) ∷ []))))
    [ true ↦ after_cons x a _ (raised_first_after a) | false ↦ rw (raised_number x) refl ]

raised_between_after : (a b : List ℕ) → IsAfter a (raised_between a b)
raised_between_after [] b = tt
raised_between_after (x ∷ a) [] = tt
raised_between_after (x ∷ a) (y ∷ b) =
    elim (nat_lt (x + 1) y) as (λ t. IsAfter (x ∷ a)
    (cond t (Some ((x + 1) ∷ [])) (option_map (λ key. x ∷ key) (raised_between a b))))
    [ true ↦ rw (raised_number x) refl | false ↦ after_cons x a _ (raised_between_after a b) ]

last_after_cons : (x : ℕ) (a : List ℕ) (raised : Option (List ℕ)) → IsAfter a raised
    → IsAfter (x ∷ a) (elim raised [
      | Some key ↦ Some (x ∷ key)
      | None ↦ (if nat_eq x 0xff then None else Some ((x + 1) ∷ a))
    ])
last_after_cons x a None h =
    elim (nat_eq x 0xff) as (λ t. IsAfter (x ∷ a) (cond t None (Some ((x + 1) ∷ a))))
    [ true ↦ tt | false ↦ rw (raised_number x) refl ]
last_after_cons x a (Some key) h = rw (tied_itself nat_cmp_total x) h

raised_last_after : (a : List ℕ) → IsAfter a (raised_last a)
raised_last_after [] = tt
raised_last_after (x ∷ a) = last_after_cons x a (raised_last a) (raised_last_after a)

-- what is raised to stay before a key: nothing, or a key before it
abbrev IsBefore : List ℕ → Option (List ℕ) → Type 0
IsBefore b None = Unit {0}
IsBefore b (Some key) = bytewise key b ≡ Less

before_cons : (x y : ℕ) (a b : List ℕ) (raised : Option (List ℕ)) (o : Ordering) → nat_cmp x y ≡ o
    → ordering_then o (bytewise a b) ≢ Greater
    → (bytewise a b ≢ Greater → IsBefore b raised)
    → IsBefore (y ∷ b) (option_map (λ key. x ∷ key) raised)
before_cons x y a b None o e h more = tt
before_cons x y a b (Some key) Less e h more = rw e refl
before_cons x y a b (Some key) Equal e h more = rw e (more h)
before_cons x y a b (Some key) Greater e h more = absurd (h refl)

raised_between_before : (a b : List ℕ) → bytewise a b ≢ Greater → IsBefore b (raised_between a b)
raised_between_before [] b h = tt
raised_between_before (x ∷ a) [] h = tt
raised_between_before (x ∷ a) (y ∷ b) h =
    elim (nat_lt (x + 1) y) as (λ t. nat_lt (x + 1) y ≡ t → IsBefore (y ∷ b)
    (cond t (Some ((x + 1) ∷ [])) (option_map (λ key. x ∷ key) (raised_between a b)))) [
      | true ↦ (λ e. rw e refl)
      | false ↦ (λ e. before_cons x y a b (raised_between a b) (nat_cmp x y) refl h
          (raised_between_before a b))
    ] refl

-- at or after one key, and before the other where the one is
record IsBetween (a b key : List ℕ) : Type 0 where
  -- at or after a
  from : bytewise key a ≢ Less
  -- before b, where a is
  before : bytewise a b ≡ Less → bytewise key b ≡ Less

own_between : (a b : List ℕ) → IsBetween a b a
own_between a b = record { from = λ e. let q = itself a in cc; before = λ e. e }

is_lt-true : (o : Ordering) → is_lt o ≡ true → o ≡ Less
is_lt-true Less e = refl
is_lt-true Equal e = cc
is_lt-true Greater e = cc

-- a key after a that a test finds before b, or another key
tested_between : (a b key other : List ℕ) → bytewise key a ≡ Greater → IsBetween a b other
    → IsBetween a b (if is_before key b then key else other)
tested_between a b key other after h =
    elim (is_before key b) as (λ t. is_before key b ≡ t → IsBetween a b (cond t key other)) [
      | true ↦ (λ e. record { from = λ l. cc; before = λ _. is_lt-true (bytewise key b) e })
      | false ↦ (λ e. h)
    ] refl

lengthened_between : (a b : List ℕ) → IsBetween a b (lengthened a b)
lengthened_between a b = tested_between a b (a ++ 0 ∷ []) a (longer_after a 0 []) (own_between a b)

raised_or_lengthened_between : (a b : List ℕ) → IsBetween a b (raised_or_lengthened a b)
raised_or_lengthened_between a b = by (raised_last a) (raised_last_after a)
  where
    by : (raised : Option (List ℕ)) → IsAfter a raised
        → IsBetween a b (elim raised [
          | Some key ↦ (if is_before key b then key else lengthened a b)
          | None ↦ lengthened a b
        ])
    by None after = lengthened_between a b
    by (Some key) after = tested_between a b key (lengthened a b) after (lengthened_between a b)

separator_between : (a b : List ℕ) (t : Bool) → bytewise a b ≢ Greater
    → IsBetween a b (if t then a else unwrap_or (raised_between a b) (raised_or_lengthened a b))
separator_between a b true h = own_between a b
separator_between a b false h =
    by (raised_between a b) (raised_between_after a b) (raised_between_before a b h)
  where
    by : (raised : Option (List ℕ)) → IsAfter a raised → IsBefore b raised
        → IsBetween a b (unwrap_or raised (raised_or_lengthened a b))
    by None after before = raised_or_lengthened_between a b
    by (Some key) after before = record { from = λ l. cc; before = λ _. before }

-- its separator is one
pub bytewise_separates : (a b : List ℕ) → bytewise a b ≢ Greater
    → IsSeparator (λ _. true) bytewise a b (bytewise_separator a b)
bytewise_separates a b h =
    let between = separator_between a b (bytes_eq a b) h in
    record {
      accepted = refl;
      from = between.from;
      before = between.before;
      same = λ e. let t : bytes_eq a b ≡ true = (bytes_eq-Decides a b).1 e in rw t refl;
    }

-- and its successor is one
pub bytewise_succeeds : (a : List ℕ) → IsSuccessor (λ _. true) bytewise a (bytewise_successor a)
bytewise_succeeds a = record { accepted = refl; from = by (raised_first a) (raised_first_after a) }
  where
    by : (raised : Option (List ℕ)) → IsAfter a raised
        → bytewise (unwrap_or raised (a ++ 0xff ∷ [])) a ≢ Less
    by None after = λ l. let longer = longer_after a 0xff [] in cc
    by (Some key) after = λ l. cc

-- ---- keys are read as they were written, and only so

-- an internal key has eight bytes more than the user's key
pub length-internal_key : (user : List ℕ) (sequence : ℕ) (kind : ValueType)
    → length (internal_key user sequence kind) ≡ length user + 8
length-internal_key user sequence kind = length-append user (little 8 (tag sequence kind))
    ∙ ap (λ n. length user + n) (length-bytes_low_first 0 8 (tag sequence kind))

-- the last eight bytes are the tag
pub user_part-append : (user last : List ℕ) → length last ≡ 8 → user_part (user ++ last) ≡ user
user_part-append user last e =
    let total = length-append user last in
    let place : length (user ++ last) - 8 ≡ length user = omega arith in
    ap (λ n. take n (user ++ last)) place ∙ take-append_seam user last

-- and the tag is their number
pub tag_part-append : (user last : List ℕ) → length last ≡ 8
    → tag_part (user ++ last) ≡ little_number 8 last
tag_part-append user last e =
    let total = length-append user last in
    let long : nat_le 8 (length (user ++ last)) ≡ true =
    le-leb 8 (length (user ++ last)) (omega arith) in
    let place : length (user ++ last) - 8 ≡ length user = omega arith in
    ap (λ t. cond t (little_number 8 (drop (length (user ++ last) - 8) (user ++ last))) 0) long
    ∙ ap (λ n. little_number 8 (drop n (user ++ last))) place
    ∙ ap (little_number 8) (drop-append_seam user last)

-- an internal key has the user's key that it was made of
pub user_part-internal_key : (user : List ℕ) (sequence : ℕ) (kind : ValueType)
    → user_part (internal_key user sequence kind) ≡ user
user_part-internal_key user sequence kind =
    user_part-append user (little 8 (tag sequence kind))
    (length-bytes_low_first 0 8 (tag sequence kind))

-- types are 0 and 1
pub type_number-le : (kind : ValueType) → type_number kind ≤ 1
type_number-le TypeDeletion = omega arith
type_number-le TypeValue = omega arith

-- its tag
pub tag_part-internal_key : (user : List ℕ) (sequence : ℕ) (kind : ValueType) → sequence < 2 ^ 56
    → tag_part (internal_key user sequence kind) ≡ tag sequence kind
tag_part-internal_key user sequence kind h =
    let number = tag sequence kind in
    let small = type_number-le kind in
    tag_part-append user (little 8 number) (length-bytes_low_first 0 8 number)
    ∙ ap (little_number 8) (sym (append-nil (little 8 number)))
    ∙ little_number-reads_back 8 number [] (omega arith)

-- and its sequence number
pub sequence_part-internal_key : (user : List ℕ) (sequence : ℕ) (kind : ValueType)
    → sequence < 2 ^ 56 → sequence_part (internal_key user sequence kind) ≡ sequence
sequence_part-internal_key user sequence kind h =
    let number = tag_part-internal_key user sequence kind h in
    let small = type_number-le kind in
    omega arith

-- a sequence number has 56 bits
pub sequence_part-lt : (key : List ℕ) → sequence_part key < 2 ^ 56
sequence_part-lt key = omega arith

-- an internal key of an accepted user's key is accepted
pub internal_accepts-internal_key : (accepts : List ℕ → Bool) (user : List ℕ) (sequence : ℕ)
    (kind : ValueType) → accepts user ≡ true
    → internal_accepts accepts (internal_key user sequence kind) ≡ true
internal_accepts-internal_key accepts user sequence kind h =
    let key = internal_key user sequence kind in
    let size = length-internal_key user sequence kind in
    let long : nat_le 8 (length key) ≡ true = le-leb 8 (length key) (omega (arith, size)) in
    and_from (nat_le 8 (length key)) (accepts (user_part key)) long
    (ap accepts (user_part-internal_key user sequence kind) ∙ h)

-- how an internal key is ordered
pub internal_cmp-internal_key : (cmp : List ℕ → List ℕ → Ordering) (user : List ℕ) (sequence : ℕ)
    (kind : ValueType) (b : List ℕ) → sequence < 2 ^ 56
    → internal_cmp cmp (internal_key user sequence kind) b
    ≡ ordering_then (cmp user (user_part b)) (nat_cmp (sequence_part b) sequence)
internal_cmp-internal_key cmp user sequence kind b h =
    ap (λ u. ordering_then (cmp u (user_part b))
    (nat_cmp (sequence_part b) (sequence_part (internal_key user sequence kind))))
    (user_part-internal_key user sequence kind)
    ∙ ap (λ n. ordering_then (cmp user (user_part b)) (nat_cmp (sequence_part b) n))
    (sequence_part-internal_key user sequence kind h)

-- ---- internal keys and memtable keys have a comparator's laws where the user's keys have them

then_turned : (r r' s s' : Ordering) → r ≡ ordering_reverse r' → s ≡ ordering_reverse s'
    → ordering_then r s ≡ ordering_reverse (ordering_then r' s')
then_turned r Less s s' p q = ap (λ x. ordering_then x s) p
then_turned r Equal s s' p q = ap (λ x. ordering_then x s) p ∙ q
then_turned r Greater s s' p q = ap (λ x. ordering_then x s) p

-- what is first by two orderings, one after the other
then_less : (xy yz xz s t u : Ordering) → (xy ≡ Less → yz ≡ Less → xz ≡ Less)
    → (xy ≡ Equal → xz ≡ yz) → (yz ≡ Equal → xz ≡ xy)
    → (s ≡ Less → t ≡ Less → u ≡ Less) → ordering_then xy s ≡ Less → ordering_then yz t ≡ Less
    → ordering_then xz u ≡ Less
then_less Less Less xz s t u both left right last p q = ap (λ r. ordering_then r u) (both refl refl)
then_less Less Equal xz s t u both left right last p q = ap (λ r. ordering_then r u) (right refl)
then_less Less Greater xz s t u both left right last p q = cc
then_less Equal Less xz s t u both left right last p q = ap (λ r. ordering_then r u) (left refl)
then_less Equal Equal xz s t u both left right last p q =
    ap (λ r. ordering_then r u) (left refl) ∙ last p q
then_less Equal Greater xz s t u both left right last p q = cc
then_less Greater yz xz s t u both left right last p q = cc

then_alike : (xy xz yz s u v : Ordering) → (xy ≡ Equal → xz ≡ yz) → (s ≡ Equal → u ≡ v)
    → ordering_then xy s ≡ Equal → ordering_then xz u ≡ ordering_then yz v
then_alike Less xz yz s u v f g p = cc
then_alike Greater xz yz s u v f g p = cc
then_alike Equal xz yz s u v f g p =
    ap (λ r. ordering_then r u) (f refl) ∙ ap (ordering_then yz) (g p)

same_number : (x y z : ℕ) → nat_cmp y x ≡ Equal → nat_cmp z x ≡ nat_cmp z y
same_number x y z e = nat_cmp_total.antisymm z x
    ∙ ap ordering_reverse (sym (nat_cmp_total.congr y x z e)) ∙ sym (nat_cmp_total.antisymm z y)

user_accepted : (accepts : List ℕ → Bool) (a : List ℕ) → internal_accepts accepts a ≡ true
    → accepts (user_part a) ≡ true
user_accepted accepts a h = (and_parts (nat_le 8 (length a)) (accepts (user_part a)) h).1

module _ {accepts : List ℕ → Bool} {cmp : List ℕ → List ℕ → Ordering}
    (o : IsPreorderOn accepts cmp) where
  -- a total preorder on users' keys makes one on internal keys
  pub internal_preorder : IsPreorderOn (internal_accepts accepts) (internal_cmp cmp)
  internal_preorder = record {
    turned = λ a b ha hb.
        then_turned _ _ _ _ (o.turned _ _ (user_accepted accepts a ha) (user_accepted accepts b hb))
        (nat_cmp_total.antisymm (sequence_part b) (sequence_part a));
    less = λ a b c ha hb hc p q.
        then_less (cmp (user_part a) (user_part b)) (cmp (user_part b) (user_part c))
        (cmp (user_part a) (user_part c)) _ _ _
        (o.less _ _ _ (user_accepted accepts a ha) (user_accepted accepts b hb)
        (user_accepted accepts c hc))
        (o.alike _ _ _ (user_accepted accepts a ha) (user_accepted accepts b hb)
        (user_accepted accepts c hc))
        (alike_right o _ _ _ (user_accepted accepts a ha) (user_accepted accepts b hb)
        (user_accepted accepts c hc))
        (λ s t. nat_cmp_total.trans (sequence_part c) (sequence_part b) (sequence_part a) t s) p q;
    alike = λ a b c ha hb hc p.
        then_alike (cmp (user_part a) (user_part b)) _ _
        (nat_cmp (sequence_part b) (sequence_part a)) _ _
        (o.alike _ _ _ (user_accepted accepts a ha) (user_accepted accepts b hb)
        (user_accepted accepts c hc))
        (same_number (sequence_part a) (sequence_part b) (sequence_part c)) p;
  }

  -- and one on memtable keys
  pub memtable_preorder : IsPreorderOn (memtable_accepts accepts) (memtable_cmp cmp)
  memtable_preorder = preorder_by internal_preorder front_key

  -- memtable keys are their own separators and successors
  pub memtable_separates : (a b : List ℕ) → memtable_accepts accepts a ≡ true
      → IsSeparator (memtable_accepts accepts) (memtable_cmp cmp) a b a
  memtable_separates = itself_separates memtable_preorder

  pub memtable_succeeds : (a : List ℕ) → memtable_accepts accepts a ≡ true
      → IsSuccessor (memtable_accepts accepts) (memtable_cmp cmp) a a
  memtable_succeeds = itself_succeeds memtable_preorder

  then_not_greater : (r s : Ordering) → ordering_then r s ≢ Greater → r ≢ Greater
  then_not_greater Less s h e = cc
  then_not_greater Equal s h e = cc
  then_not_greater Greater s h e = h refl

  -- with the same number, what isn't before a user's key isn't before its internal key
  same_then : (r : Ordering) (n : ℕ) → r ≢ Less → ordering_then r (nat_cmp n n) ≢ Less
  same_then Less n h e = h refl
  same_then Equal n h e = let own = tied_itself nat_cmp_total n in cc
  same_then Greater n h e = cc

  -- a successor of users' keys makes one of internal keys
  pub internal_succeeds : (successor : List ℕ → List ℕ)
      → ((a : List ℕ) → accepts a ≡ true → IsSuccessor accepts cmp a (successor a))
      → (a : List ℕ) → internal_accepts accepts a ≡ true
      → IsSuccessor (internal_accepts accepts) (internal_cmp cmp) a (internal_successor successor a)
  internal_succeeds successor law a h =
      let user = successor (user_part a) in
      let number = sequence_part a in
      let small = sequence_part-lt a in
      let succeeds = law (user_part a) (user_accepted accepts a h) in
      record {
        accepted = internal_accepts-internal_key accepts user number TypeValue succeeds.accepted;
        from = λ e. same_then (cmp user (user_part a)) number succeeds.from
            (sym (internal_cmp-internal_key cmp user number TypeValue a small) ∙ e);
      }

  module _ (exact : (a b : List ℕ) → cmp a b ≡ Equal → a ≡ b) (a b : List ℕ)
      (ha : internal_accepts accepts a ≡ true) (hb : internal_accepts accepts b ≡ true)
      (s : List ℕ) (separates : IsSeparator accepts cmp (user_part a) (user_part b) s) where
    -- the separator with a's number
    kept_before : (r : Ordering) → cmp (user_part a) (user_part b) ≡ r
        → ordering_then r (nat_cmp (sequence_part b) (sequence_part a)) ≡ Less
        → ordering_then (cmp s (user_part b)) (nat_cmp (sequence_part b) (sequence_part a)) ≡ Less
    kept_before Less e h =
        ap (λ x. ordering_then x (nat_cmp (sequence_part b) (sequence_part a))) (separates.before e)
    kept_before Equal e h =
        let same = separates.same (exact (user_part a) (user_part b) e) in
        ap (λ x. ordering_then (cmp x (user_part b))
        (nat_cmp (sequence_part b) (sequence_part a))) same
        ∙ ap (λ x. ordering_then x (nat_cmp (sequence_part b) (sequence_part a))) e ∙ h
    kept_before Greater e h = cc

    -- the separator with the greatest number, where it is after a's user key
    moved_before : (r : Ordering) → cmp (user_part a) (user_part b) ≡ r → cmp (user_part a) s ≡ Less
        → ordering_then r (nat_cmp (sequence_part b) (sequence_part a)) ≡ Less
        → cmp s (user_part b) ≡ Less
    moved_before Less e after h = separates.before e
    moved_before Equal e after h =
        let same = separates.same (exact (user_part a) (user_part b) e) in
        let own = itself_equal o (user_part a) (user_accepted accepts a ha) in
        let tied : cmp (user_part a) s ≡ Equal = ap (cmp (user_part a)) same ∙ own in
        cc
    moved_before Greater e after h = cc

    separator_by : (moved : Bool) → (moved ≡ true → cmp (user_part a) s ≡ Less) → (a ≡ b → ⊥)
        → IsSeparator (internal_accepts accepts) (internal_cmp cmp) a b
        (internal_key s (if moved then greatest_sequence else sequence_part a) TypeValue)
    separator_by true after other =
        let less = after refl in
        let turned = o.turned s (user_part a) separates.accepted (user_accepted accepts a ha) in
        let greater : cmp s (user_part a) ≡ Greater = turned ∙ ap ordering_reverse less in
        let top : greatest_sequence < 2 ^ 56 = omega arith in
        record {
          accepted = internal_accepts-internal_key accepts s greatest_sequence TypeValue
              separates.accepted;
          from = λ e.
              let made = internal_cmp-internal_key cmp s greatest_sequence TypeValue a top in
              let first = sym made ∙ e in
              let second =
              ap (λ r. ordering_then r (nat_cmp (sequence_part a) greatest_sequence)) greater in
              cc;
          before = λ e.
              internal_cmp-internal_key cmp s greatest_sequence TypeValue b top
              ∙ ap (λ r. ordering_then r (nat_cmp (sequence_part b) greatest_sequence))
              (moved_before (cmp (user_part a) (user_part b)) refl less e);
          same = λ e. absurd (other e);
        }
    separator_by false after other =
        let small = sequence_part-lt a in
        record {
          accepted = internal_accepts-internal_key accepts s (sequence_part a) TypeValue
              separates.accepted;
          from = λ e. same_then (cmp s (user_part a)) (sequence_part a) separates.from
              (sym (internal_cmp-internal_key cmp s (sequence_part a) TypeValue a small) ∙ e);
          before = λ e. internal_cmp-internal_key cmp s (sequence_part a) TypeValue b small
              ∙ kept_before (cmp (user_part a) (user_part b)) refl e;
          same = λ e. absurd (other e);
        }

  -- a separator in an exact order of users' keys makes one of internal keys
  pub internal_separates : ((a b : List ℕ) → cmp a b ≡ Equal → a ≡ b)
      → (separator : List ℕ → List ℕ → List ℕ)
      → ((a b : List ℕ) → accepts a ≡ true → accepts b ≡ true → cmp a b ≢ Greater
      → IsSeparator accepts cmp a b (separator a b))
      → (a b : List ℕ) → internal_accepts accepts a ≡ true → internal_accepts accepts b ≡ true
      → internal_cmp cmp a b ≢ Greater
      → IsSeparator (internal_accepts accepts) (internal_cmp cmp) a b
      (internal_separator cmp separator a b)
  internal_separates exact separator law a b ha hb h =
      let user_a = user_part a in
      let user_b = user_part b in
      let s = separator user_a user_b in
      let separates = law user_a user_b (user_accepted accepts a ha) (user_accepted accepts b hb)
      (then_not_greater (cmp user_a user_b) _ h) in
      let moved = nat_lt (length s) (length user_a) && is_lt (cmp user_a s) in
      let key = internal_key s (if moved then greatest_sequence else sequence_part a) TypeValue in
      let Q : Bool → Type 0 =
      λ t. IsSeparator (internal_accepts accepts) (internal_cmp cmp) a b (cond t a key) in
      elim (bytes_eq a b) as (λ t. bytes_eq a b ≡ t → Q t) [
        | true ↦ (λ e. itself_separates internal_preorder a b ha)
        | false ↦ (λ e.
            separator_by exact a b ha hb s separates moved
            (λ m. is_lt-true (cmp user_a s)
            (and_parts (nat_lt (length s) (length user_a)) (is_lt (cmp user_a s)) m).1)
            (λ same. let told = (bytes_eq-Decides a b).1 same in cc))
      ] refl
