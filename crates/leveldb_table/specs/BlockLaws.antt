-- A block has one reading, and a position in it is one of its pairs. This is in specs/ since ghost
-- fields cite it.
use Rattle.std.proofs.Common.{◌≡◌, ℕ, ◌+◌, ◌*◌, ◌^◌, ◌<◌, ◌≤◌, Bool, true, false, nat_lt, if◌then◌else◌, List, [], ◌∷◌, ◌++◌, length, flat_map, Option, None, Some, refl, sym, ◌∙◌, ap, arith, append_assoc, length-append}
use Rattle.std.proofs.Props.{props}
use Rattle.std.proofs.lemmas.Bool.Decides.{nat_tests}
use Rattle.std.specs.declared.cmp.Ordering.{Ordering}
use Rattle.std.specs.Prelude.{slice_range}
use Rattle.std.proofs.lemmas.Option.{slice_get_within}
use mathlib.Core.HLevel.{Σ_prop_path}
use Rattle.leveldb_base.specs.Types.{Pair, IsPosition, position_within}
use Rattle.leveldb_base.specs.Varint.{little, varint}
use Rattle.leveldb_base.proofs.VarintLemmas.{apart, apart_right, one_number, length-varint-pos}
use Rattle.leveldb_env.proofs.FilterBlockLemmas.{length-fours}
use Rattle.leveldb_env.specs.FilterBlockLaws.{one_fixed, one_numbers}
use Rattle.leveldb_table.specs.BlockCheck.{begins, points_after}
use Rattle.leveldb_table.specs.Block.{BlockEntry, parts_bytes, entry_bytes, key_of, pairs_of, SharesFrom, AreEntries, RiseAfter, points_from, restart_points, block_bytes, HasEntries, AreEntriesEndingAt, HasEntriesEndingAt}
use Rattle.leveldb_table.specs.BlockWalk.{entries_before, IsSpot, IsWithin, number_of, position_of}
use Rattle.leveldb_table.specs.declared.block.walk.Spot.{Spot}

-- ---- one entry

length-parts_bytes : (shared : ℕ) (rest value : List ℕ)
    → 3 + length rest + length value ≤ length (parts_bytes shared rest value)
length-parts_bytes shared rest value =
    omega (
      arith,
      length-varint-pos shared,
      length-varint-pos (length rest),
      length-varint-pos (length value),
      length-append {A = ℕ},
    )

-- an entry has three lengths at least
pub length-entry_bytes-ge : (entry : BlockEntry)
    → 3 + length entry.rest + length entry.value ≤ length (entry_bytes entry)
unfolding entry_bytes
length-entry_bytes-ge entry = length-parts_bytes entry.shared entry.rest entry.value

-- an entry's parts, with what follows
pub spread : (shared : ℕ) (rest value x : List ℕ) → parts_bytes shared rest value ++ x
    ≡ varint shared ++ (varint (length rest) ++ (varint (length value) ++ (rest ++ (value ++ x))))
spread shared rest value x = simp append_assoc

pub one_parts_bytes : (s t : ℕ) (r q v w x y : List ℕ)
    → parts_bytes s r v ++ x ≡ parts_bytes t q w ++ y → (s ≡ t) × (r ≡ q) × (v ≡ w) × (x ≡ y)
one_parts_bytes s t r q v w x y e =
    let one = one_number s t _ _ (sym (spread s r v x) ∙ e ∙ spread t q w y) in
    let two = one_number (length r) (length q) _ _ one.1 in
    let three = one_number (length v) (length w) _ _ two.1 in
    let four = apart r q (v ++ x) (w ++ y) two.0 three.1 in
    let five = apart v w x y three.0 four.1 in
    (one.0, four.0, five.0, five.1)

-- an entry at the front of a text, and what follows
pub one_entry : (a b : BlockEntry) (x y : List ℕ) → entry_bytes a ++ x ≡ entry_bytes b ++ y
    → (a.shared ≡ b.shared) × (a.rest ≡ b.rest) × (a.value ≡ b.value) × (x ≡ y)
unfolding entry_bytes
one_entry a b x y e = one_parts_bytes a.shared b.shared a.rest b.rest a.value b.value x y e

pub same_parts : (a b : BlockEntry) → a.restart ≡ b.restart → a.shared ≡ b.shared → a.rest ≡ b.rest
    → a.value ≡ b.value → a ≡ b
same_parts a b e f g h =
    let made : Bool → ℕ → List ℕ → List ℕ
    → BlockEntry = λ k l m n. record { restart = k; shared = l; rest = m; value = n } in
    ap (λ z. made z a.shared a.rest a.value) e ∙ ap (λ z. made b.restart z a.rest a.value) f
    ∙ ap (λ z. made b.restart b.shared z a.value) g
    ∙ ap (λ z. made b.restart b.shared b.rest z) h

-- ---- restart points

begins_if : (b : Bool) (offset point : ℕ) (points : List ℕ) → offset < point
    → begins offset points ≡ false → begins offset (if b then point ∷ points else points) ≡ false
begins_if true offset point points h e = grind (arith, nat_tests)
begins_if false offset point points h e = e

begins_later : (offset later : ℕ) (entries : List BlockEntry) → offset < later
    → begins offset (points_from later entries) ≡ false
begins_later offset later [] h = refl
begins_later offset later (entry ∷ entries) h =
    begins_if entry.restart offset later
    (points_from (later + length (entry_bytes entry)) entries) h
    (begins_later offset (later + length (entry_bytes entry)) entries (omega (arith, h)))

begins_here : (b : Bool) (offset : ℕ) (points : List ℕ) → begins offset points ≡ false
    → begins offset (if b then offset ∷ points else points) ≡ b
begins_here true offset points e = grind (arith, nat_tests)
begins_here false offset points e = e

-- the points say whether the first entry is one
pub restart_known : (offset : ℕ) (entry : BlockEntry) (entries : List BlockEntry)
    → begins offset (points_from offset (entry ∷ entries)) ≡ entry.restart
restart_known offset entry entries =
    begins_here entry.restart offset (points_from (offset + length (entry_bytes entry)) entries)
    (begins_later offset (offset + length (entry_bytes entry)) entries
    (omega (arith, length-entry_bytes-ge entry)))

after_here : (b : Bool) (offset : ℕ) (points : List ℕ)
    → points_after b (if b then offset ∷ points else points) ≡ points
after_here true offset points = refl
after_here false offset points = refl

-- the points that are left are those of the entries after
pub points_left : (offset : ℕ) (entry : BlockEntry) (entries : List BlockEntry)
    → points_after entry.restart (points_from offset (entry ∷ entries))
    ≡ points_from (offset + length (entry_bytes entry)) entries
points_left offset entry entries =
    after_here entry.restart offset (points_from (offset + length (entry_bytes entry)) entries)

-- entries have one reading
one_list : (offset at : ℕ) (xs ys : List BlockEntry) → offset ≡ at
    → flat_map entry_bytes xs ≡ flat_map entry_bytes ys → points_from offset xs ≡ points_from at ys
    → xs ≡ ys
one_list offset at [] [] o e p = refl
one_list offset at [] (y ∷ ys) o e p =
    absurd (omega (
      arith,
      ap length e,
      length-append (entry_bytes y) (flat_map entry_bytes ys),
      length-entry_bytes-ge y,
    ))
one_list offset at (x ∷ xs) [] o e p =
    absurd (omega (
      arith,
      ap length e,
      length-append (entry_bytes x) (flat_map entry_bytes xs),
      length-entry_bytes-ge x,
    ))
one_list offset at (x ∷ xs) (y ∷ ys) o e p =
    let parts = one_entry x y (flat_map entry_bytes xs) (flat_map entry_bytes ys) e in
    let restart = sym (restart_known offset x xs) ∙ ap (λ z.
    begins z (points_from offset (x ∷ xs))) o ∙ ap (begins at) p ∙ restart_known at y ys in
    let first = same_parts x y restart parts.0 parts.1 parts.2 in
    let left = sym (points_left offset x xs) ∙ ap (λ z. points_after z
    (points_from offset (x ∷ xs))) restart ∙ ap (points_after y.restart) p
    ∙ points_left at y ys in
    let after = ap (λ z. length (entry_bytes z)) first in
    ap (λ z. z ∷ xs) first ∙ ap (λ z. y ∷ z) (one_list (offset + length (entry_bytes x))
    (at + length (entry_bytes y)) xs ys (omega (arith, o, after)) parts.3 left)

-- the same bytes and restart points are the same entries
pub one_whole : (xs ys : List BlockEntry) → flat_map entry_bytes xs ≡ flat_map entry_bytes ys
    → restart_points xs ≡ restart_points ys → xs ≡ ys
one_whole [] [] e p = refl
one_whole [] (y ∷ ys) e p =
    absurd (omega (
      arith,
      ap length e,
      length-append (entry_bytes y) (flat_map entry_bytes ys),
      length-entry_bytes-ge y,
    ))
one_whole (x ∷ xs) [] e p =
    absurd (omega (
      arith,
      ap length e,
      length-append (entry_bytes x) (flat_map entry_bytes xs),
      length-entry_bytes-ge x,
    ))
one_whole (x ∷ xs) (y ∷ ys) e p = one_list 0 0 (x ∷ xs) (y ∷ ys) refl e p

-- the three parts of a block
pub three_parts : (a b x y c d : List ℕ) (m n : ℕ) → m < 2 ^ 32 → n < 2 ^ 32 → length x ≡ 4 * m
    → length y ≡ 4 * n
    → a ++ (x ++ little 4 m) ≡ b ++ (y ++ little 4 n) → (a ≡ b) × (x ≡ y) × (m ≡ n)
three_parts a b x y c d m n hm hn lx ly e =
    let last = apart_right (a ++ x) (b ++ y) (little 4 m) (little 4 n) refl
    (append_assoc a x (little 4 m) ∙ e ∙ sym (append_assoc b y (little 4 n))) in
    let count = (one_fixed m n [] [] hm hn (ap (λ z. z ++ []) last.1)).0 in
    let front = apart_right a b x y (omega (arith, lx, ly, count)) last.0 in
    (front.0, front.1, count)

-- a block has one reading
pub one_block : {cmp : List ℕ → List ℕ → Ordering} {bytes : List ℕ} {xs ys : List BlockEntry}
    → HasEntries cmp bytes xs → HasEntries cmp bytes ys → xs ≡ ys
unfolding block_bytes
one_block {cmp} {bytes} {xs} {ys} f g =
    let parts = three_parts (flat_map entry_bytes xs) (flat_map entry_bytes ys)
    (flat_map (little 4) (restart_points xs)) (flat_map (little 4) (restart_points ys)) [] []
    (length (restart_points xs)) (length (restart_points ys)) f.count_fits g.count_fits
    (length-fours (restart_points xs)) (length-fours (restart_points ys))
    (sym f.encoded ∙ g.encoded) in
    one_whole xs ys parts.0
    (one_numbers (restart_points xs) (restart_points ys) f.points_fit g.points_fit parts.1)

-- ---- one proof

SharesFrom-prop : (last : Option (List ℕ)) (entry : BlockEntry) → IsProp (SharesFrom last entry)
SharesFrom-prop None entry = hlevel props
SharesFrom-prop (Some last) entry = hlevel props

-- and in one way
pub AreEntries-prop : (last : Option (List ℕ)) (entries : List BlockEntry)
    → IsProp (AreEntries last entries)
AreEntries-prop last [] = hlevel props
AreEntries-prop last (entry ∷ entries) =
    hlevel (props, SharesFrom-prop last entry, AreEntries-prop (Some (key_of last entry)) entries)

pub RiseAfter-prop : (cmp : List ℕ → List ℕ → Ordering) (last : Option (List ℕ))
    (pairs : List Pair) → IsProp (RiseAfter cmp last pairs)
RiseAfter-prop cmp last [] = hlevel props
RiseAfter-prop cmp None (pair ∷ pairs) = RiseAfter-prop cmp (Some pair.0) pairs
RiseAfter-prop cmp (Some last) (pair ∷ pairs) =
    hlevel (props, RiseAfter-prop cmp (Some pair.0) pairs)

HasEntries-prop : (cmp : List ℕ → List ℕ → Ordering) (bytes : List ℕ) (entries : List BlockEntry)
    → IsProp (HasEntries cmp bytes entries)
HasEntries-prop cmp bytes entries =
    hlevel (props, AreEntries-prop None entries, RiseAfter-prop cmp None (pairs_of None entries))

AreEntriesEndingAt-prop : (accepts : List ℕ → Bool) (cmp : List ℕ → List ℕ → Ordering)
    (bytes : List ℕ) (limit : ℕ) (accepted : Bool) (entries : List BlockEntry)
    → IsProp (AreEntriesEndingAt accepts cmp bytes limit accepted entries)
AreEntriesEndingAt-prop accepts cmp bytes limit accepted entries =
    hlevel (props, HasEntries-prop cmp bytes entries)

-- a block is held in one way
pub HasEntriesEndingAt-prop : (accepts : List ℕ → Bool) (cmp : List ℕ → List ℕ → Ordering)
    (bytes : List ℕ) (limit : ℕ) (accepted : Bool)
    → IsProp (HasEntriesEndingAt accepts cmp bytes limit accepted)
HasEntriesEndingAt-prop accepts cmp bytes limit accepted =
    λ u v. Σ_prop_path (AreEntriesEndingAt-prop accepts cmp bytes limit accepted)
    (one_block u.1.encoded v.1.encoded)

-- A position in a block is one in one way.

IsSpot-prop : (bytes : List ℕ) (entries : List BlockEntry) (key : List ℕ) (spot : Spot)
    → IsProp (IsSpot bytes entries key spot)
IsSpot-prop bytes entries key spot = hlevel props

pub IsWithin-prop : (bytes : List ℕ) (entries : List BlockEntry) (key : List ℕ)
    (spot : Option Spot) → IsProp (IsWithin bytes entries key spot)
IsWithin-prop bytes entries key None = hlevel props
IsWithin-prop bytes entries key (Some spot) = IsSpot-prop bytes entries key spot

-- The position as a number of pairs before it.

number_within : (pairs : List Pair) (i : ℕ) → i < length pairs
    → position_within pairs i ≡ Some i
number_within pairs i h = grind (arith, nat_tests)

number_past : (pairs : List Pair) → position_within pairs (length pairs) ≡ None
number_past pairs = grind (arith, nat_tests)

position_within-if : (b : Bool) (pairs : List Pair) (i : ℕ) → (b ≡ true → i < length pairs)
    → IsPosition pairs (if b then Some i else None)
position_within-if true pairs i h = h refl
position_within-if false pairs i h = tt

-- each number is at no position, or at one that the list has
pub position_within-is : (pairs : List Pair) (i : ℕ) → IsPosition pairs (position_within pairs i)
position_within-is pairs i =
    position_within-if (nat_lt i (length pairs)) pairs i (λ h. grind (h, arith, nat_tests))

-- the position of what is within a block is that of its number
pub IsWithin-number : (bytes : List ℕ) (entries : List BlockEntry) (key : List ℕ)
    (spot : Option Spot) → IsWithin bytes entries key spot
    → position_within (pairs_of None entries) (number_of entries spot) ≡ position_of entries spot
IsWithin-number bytes entries key None h = number_past (pairs_of None entries)
IsWithin-number bytes entries key (Some spot) h =
    number_within (pairs_of None entries) (entries_before spot.start entries)
    (slice_get_within (pairs_of None entries) (entries_before spot.start entries)
    (key, slice_range bytes spot.value spot.next) h.pair)
