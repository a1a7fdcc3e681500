-- Where entries begin and end, and what is there.
use Rattle.std.proofs.Common.{slice_index, Result, OnOk, ◌≡◌, ℕ, zero, suc, ◌+◌, ◌-◌, ◌<◌, ◌≤◌, Bool, true, false, nat_lt, if◌then◌else◌, List, [], ◌∷◌, ◌++◌, length, take, drop, get_or, flat_map, slice_get, Option, None, Some, inl, inr, refl, sym, ◌∙◌, ap, subst, arith, append_assoc, length-append, slice_range, IsSome, ◌*◌}
use Rattle.std.proofs.lemmas.Bool.{cases_lt}
use Rattle.std.proofs.lemmas.Bool.Decides.{nat_tests}
use Rattle.std.proofs.lemmas.List.{take_at, drop_at, take_all, append-nil, length-take-le, drop-drop}
use Rattle.std.proofs.lemmas.List.Concat.{flat_map-append}
use Rattle.std.specs.Prelude.{MatchOption, is_some}
use Rattle.std.specs.Borrow.{Bor}
use Rattle.std.specs.Ordering.{is_lt}
use Rattle.std.specs.declared.cmp.Ordering.{Ordering}
use Rattle.std.proofs.lemmas.Option.{slice_get_within}
use Rattle.std.specs.List.{All}
use Rattle.std.specs.declared.cmp.Ordering.TheVariants.{Less, Equal, Greater}
use Rattle.std.proofs.lemmas.List.Elements.{All-head, All-tail}
use Rattle.byteorder.specs.Endian.{little_number}
use Rattle.leveldb_base.specs.Types.{Pair, position_within, next_position, previous_position, count_before, seek_position, last_position}
use Rattle.leveldb_base.specs.Varint.{little, varint}
use Rattle.leveldb_base.specs.Cmp.{IsPreorderOn}
use Rattle.leveldb_env.proofs.FilterBlockLemmas.{length-fours, number_at}
use Rattle.leveldb_table.specs.Block.{BlockEntry, BlockRead, entry_bytes, key_of, pairs_of, SharesFrom, AreEntries, points_from, restart_points, parts_bytes, LengthsFit, block_bytes, AreEntriesEndingAt, RiseAfter, KeysRise}
use Rattle.leveldb_table.specs.BlockLaws.{length-entry_bytes-ge, one_entry}
use Rattle.leveldb_table.specs.BlockWalk.{last_key, start_of, entries_before, IsRestartPoint, SharesPrefixOf, CanLoad, CanSeekFrom, IsSpot, IsWithin, position_of, IsEntryBetween, IsEntryEndingAt, HasKeyAt}
use Rattle.leveldb_table.specs.BlockCheck.{ReadsEntry, entry_in}
use Rattle.leveldb_table.specs.declared.block.entry.EntryParts.{EntryParts}
use Rattle.leveldb_table.specs.declared.block.walk.Spot.{Spot}
use Rattle.leveldb_table.proofs.BlockLemmas.{last_key-append, pairs_of-append, length-pairs_of, AreEntries-after}

-- ---- where entries begin

pub start-cons : (entry : BlockEntry) (entries : List BlockEntry) (i : ℕ) → start_of (entry ∷ entries) (suc i) ≡ length (entry_bytes entry) + start_of entries i
start-cons entry entries i = length-append (entry_bytes entry) (flat_map entry_bytes (take i entries))

-- the last entry ends where all end
pub start-end : (entries : List BlockEntry) → start_of entries (length entries) ≡ length (flat_map entry_bytes entries)
start-end entries = ap (λ z. length (flat_map entry_bytes z)) (take_all (length entries) entries (omega arith))

-- entries begin one after the other
pub start-lt : (entries : List BlockEntry) (i j : ℕ) → i < j → j ≤ length entries → start_of entries i < start_of entries j
start-lt [] i j h k = absurd (omega (arith, h, k))
start-lt (entry ∷ entries) i zero h k = absurd (omega (arith, h))
start-lt (entry ∷ entries) zero (suc j) h k = omega (arith, start-cons entry entries j, length-entry_bytes-ge entry)
start-lt (entry ∷ entries) (suc i) (suc j) h k =
    let rest = start-lt entries i j (omega (arith, h)) (omega (arith, k)) in
    omega (arith, rest, start-cons entry entries i, start-cons entry entries j)

pub start-le : (entries : List BlockEntry) (i j : ℕ) → i ≤ j → j ≤ length entries → start_of entries i ≤ start_of entries j
start-le entries i j h k =
    elim (cases_lt i j) [
      | inl less ↦ let there = start-lt entries i j less k in omega (arith, there)
      | inr more ↦ let same : i ≡ j = omega (arith, h, more) in let e = ap (start_of entries) same in omega (arith, e)
    ]

lt_true : (m n : ℕ) → m < n → nat_lt m n ≡ true
lt_true m n h = grind (arith, nat_tests)

zero_plus : (n : ℕ) → 0 + n ≡ n
zero_plus n = omega arith

begun-pos : (offset : ℕ) (entry : BlockEntry) (entries : List BlockEntry) → 0 < offset → entries_before offset (entry ∷ entries) ≡ suc (entries_before (offset - length (entry_bytes entry)) entries)
begun-pos offset entry entries h =
    let test : nat_lt 0 offset ≡ true = lt_true 0 offset h in
    ap (λ b. if b then suc (entries_before (offset - length (entry_bytes entry)) entries) else 0) test

-- so many entries begin before an entry
pub begun-start : (entries : List BlockEntry) (i : ℕ) → i ≤ length entries → entries_before (start_of entries i) entries ≡ i
begun-start [] i h = omega (arith, h)
begun-start (entry ∷ entries) zero h = refl
begun-start (entry ∷ entries) (suc i) h =
    let size = start-cons entry entries i in
    let left : start_of (entry ∷ entries) (suc i) - length (entry_bytes entry) ≡ start_of entries i = omega (arith, size) in
    begun-pos (start_of (entry ∷ entries) (suc i)) entry entries (omega (arith, size, length-entry_bytes-ge entry))
    ∙ ap (λ z. suc (entries_before z entries)) left ∙ ap suc (begun-start entries i (omega (arith, h)))

-- the positions of two entries are told apart by where they begin
pub same_start : (entries : List BlockEntry) (i j : ℕ) → i ≤ length entries → j ≤ length entries → start_of entries i ≡ start_of entries j → i ≡ j
same_start entries i j h k e = sym (begun-start entries i h) ∙ ap (λ z. entries_before z entries) e ∙ begun-start entries j k

pub before_start : (entries : List BlockEntry) (i j : ℕ) → i ≤ length entries → j ≤ length entries → start_of entries i < start_of entries j → i < j
before_start entries i j h k less =
    elim (cases_lt i j) [
      | inl lt ↦ lt
      | inr ge ↦ let back = start-le entries j i ge h in absurd (omega (arith, back, less))
    ]

-- ---- what is there

-- an entry, what is before it and what is after it
pub record IsEntryAt (entries : List BlockEntry) (i : ℕ) (entry : BlockEntry) (tail : List BlockEntry) : Type 0 where
  pub whole : entries ≡ take i entries ++ entry ∷ tail
  pub after : drop i entries ≡ entry ∷ tail
  pub with_it : take (suc i) entries ≡ take i entries ++ entry ∷ []
  pub after_it : drop (suc i) entries ≡ tail

pub entry_at : (entries : List BlockEntry) (i : ℕ) → i < length entries → (entry : BlockEntry) × (tail : List BlockEntry) × IsEntryAt entries i entry tail
entry_at [] i h = absurd (omega (arith, h))
entry_at (entry ∷ entries) zero h = (entry, entries, record { whole = refl; after = refl; with_it = refl; after_it = refl })
entry_at (first ∷ entries) (suc i) h =
    let r = entry_at entries i (omega (arith, h)) in
    let at = r.2 in
    (r.0, r.1, record { whole = ap (λ z. first ∷ z) at.whole; after = at.after; with_it = ap (λ z. first ∷ z) at.with_it; after_it = at.after_it })

slice_get_at : (xs : List Pair) (y : Pair) (ys : List Pair) (n : ℕ) → length xs ≡ n → slice_get (xs ++ y ∷ ys) n ≡ Some y
slice_get_at [] y ys n e = subst (λ z. slice_get (y ∷ ys) z ≡ Some y) e refl
slice_get_at (x ∷ xs) y ys zero e = absurd (omega (arith, e))
slice_get_at (x ∷ xs) y ys (suc n) e = slice_get_at xs y ys n (omega (arith, e))

module _ {entries : List BlockEntry} {i : ℕ} {entry : BlockEntry} {tail : List BlockEntry} (within : i < length entries) (at : IsEntryAt entries i entry tail) where
  -- the pair of the entry
  pub pair_there : slice_get (pairs_of None entries) i ≡ Some (key_of (last_key None (take i entries)) entry, entry.value)
  pair_there =
      let front = take i entries in
      let size : length (pairs_of None front) ≡ i = length-pairs_of None front ∙ length-take-le i entries (omega (arith, within)) in
      ap (λ z. slice_get (pairs_of None z) i) at.whole
      ∙ ap (λ z. slice_get z i) (pairs_of-append None front (entry ∷ tail))
      ∙ slice_get_at (pairs_of None front) (key_of (last_key None front) entry, entry.value) (pairs_of (Some (key_of (last_key None front) entry)) tail) i size

  pub allowed_there : AreEntries None entries → AreEntries (last_key None (take i entries)) (entry ∷ tail)
  allowed_there h = AreEntries-after None (take i entries) (entry ∷ tail) (subst (λ z. AreEntries None z) at.whole h)

  -- the key after the entry
  pub key_after : last_key None (take (suc i) entries) ≡ Some (key_of (last_key None (take i entries)) entry)
  key_after = ap (last_key None) at.with_it ∙ last_key-append None (take i entries) (entry ∷ [])

  -- the bytes of the entry, and those around it
  pub bytes_there : flat_map entry_bytes entries ≡ flat_map entry_bytes (take i entries) ++ (entry_bytes entry ++ flat_map entry_bytes tail)
  bytes_there = ap (flat_map entry_bytes) at.whole ∙ flat_map-append entry_bytes (take i entries) (entry ∷ tail)

  pub next_start : start_of entries (suc i) ≡ start_of entries i + length (entry_bytes entry)
  next_start =
      ap (λ z. length (flat_map entry_bytes z)) at.with_it
      ∙ ap length (flat_map-append entry_bytes (take i entries) (entry ∷ []) ∙ ap (λ z. flat_map entry_bytes (take i entries) ++ z) (append-nil (entry_bytes entry)))
      ∙ length-append (flat_map entry_bytes (take i entries)) (entry_bytes entry)

  -- what is left of the entries' bytes from there on
  pub left_there : (bytes rest : List ℕ) → bytes ≡ flat_map entry_bytes entries ++ rest → (limit start : ℕ) → limit ≡ length (flat_map entry_bytes entries) → start ≡ start_of entries i
      → take (limit - start) (drop start bytes) ≡ entry_bytes entry ++ flat_map entry_bytes tail
  left_there bytes rest e limit start f g =
      let front = flat_map entry_bytes (take i entries) in
      let after = entry_bytes entry ++ flat_map entry_bytes tail in
      let whole : bytes ≡ front ++ (after ++ rest) = e ∙ ap (λ z. z ++ rest) bytes_there ∙ append_assoc front after rest in
      let size : length after ≡ limit - start = omega (arith, f, g, ap length bytes_there, length-append front after) in
      ap (λ z. take (limit - start) (drop start z)) whole
      ∙ ap (take (limit - start)) (drop_at front (after ++ rest) start (sym g))
      ∙ take_at after rest (limit - start) size

-- ---- putting keys together

some_key : (p q : Pair) → Some p ≡ Some q → p.0 ≡ q.0
some_key p q e = let same : p ≡ q = cc in ap (λ z. z.0) same

serves_zero : (key : List ℕ) (last : Option (List ℕ)) (entry : BlockEntry) (tail : List BlockEntry) → entry.shared ≡ 0 → SharesPrefixOf key last (entry ∷ tail)
serves_zero key None entry tail e = (omega (arith, e), ap (λ z. take z key ++ entry.rest) e)
serves_zero key (Some last) entry tail e = (omega (arith, e), ap (λ z. take z key ++ entry.rest) e ∙ sym (ap (λ z. take z last ++ entry.rest) e))

serves_last : (key : List ℕ) (entries : List BlockEntry) → AreEntries (Some key) entries → SharesPrefixOf key (Some key) entries
serves_last key [] h = tt
serves_last key (entry ∷ entries) h = let shares = h.1 in (shares.0, refl)

shares_nothing : (last : Option (List ℕ)) (entry : BlockEntry) → entry.restart ≡ true → SharesFrom last entry → entry.shared ≡ 0
shares_nothing None entry e h = h.1
shares_nothing (Some last) entry e h = h.1 e

module _ {entries : List BlockEntry} (allowed : AreEntries None entries) (key : List ℕ) where
  -- an entry that a restart point names can be loaded after any key
  pub loads_restart : (i start : ℕ) → i < length entries → start ≡ start_of entries i → ((entry : BlockEntry) (tail : List BlockEntry) → IsEntryAt entries i entry tail → entry.restart ≡ true) → CanLoad entries key start
  loads_restart i start within e marked =
      let r = entry_at entries i within in
      let there = allowed_there within r.2 allowed in
      let last = last_key None (take i entries) in
      record {
        index = i;
        within = within;
        begins = e;
        serves = subst (λ z. SharesPrefixOf key last z) (sym r.2.after) (serves_zero key last r.0 r.1 (shares_nothing last r.0 (marked r.0 r.1 r.2) there.1));
      }

  -- the entry after one whose key this is
  pub loads_next : (i start : ℕ) (value : List ℕ) → suc i < length entries → start ≡ start_of entries (suc i) → slice_get (pairs_of None entries) i ≡ Some (key, value) → CanLoad entries key start
  loads_next i start value within e pair =
      let before : i < length entries = omega (arith, within) in
      let r = entry_at entries i before in
      let same = sym pair ∙ pair_there before r.2 in
      let key_is = some_key (key, value) (key_of (last_key None (take i entries)) r.0, r.0.value) same in
      let last : last_key None (take (suc i) entries) ≡ Some key = key_after before r.2 ∙ ap (λ z. Some z) (sym key_is) in
      let left = (allowed_there before r.2 allowed).2 in
      let allowed_left : AreEntries (Some key) (drop (suc i) entries) =
      subst (λ z. AreEntries (Some key) z) (sym r.2.after_it) (subst (λ z. AreEntries (Some z) r.1) (sym key_is) left) in
      record {
        index = suc i;
        within = within;
        begins = e;
        serves = subst (λ z. SharesPrefixOf key z (drop (suc i) entries)) (sym last) (serves_last key (drop (suc i) entries) allowed_left);
      }

-- the first entry is at a restart point
first_marked : (entries : List BlockEntry) → AreEntries None entries → (entry : BlockEntry) (tail : List BlockEntry) → IsEntryAt entries 0 entry tail → entry.restart ≡ true
first_marked [] h entry tail at = cc
first_marked (first ∷ entries) h entry tail at =
    let same : first ∷ entries ≡ entry ∷ tail = at.after in
    let first_is : first ≡ entry = cc in
    let marked = h.1 in
    ap (λ z. z.restart) (sym first_is) ∙ marked.0

pub loads_first : {entries : List BlockEntry} → AreEntries None entries → (key : List ℕ) → 0 < length entries → CanLoad entries key 0
loads_first {entries} allowed key some = loads_restart allowed key 0 0 some refl (first_marked entries allowed)

-- ---- restart points

-- a restart point names an entry
pub record NamesEntry (offset : ℕ) (entries : List BlockEntry) (point : ℕ) : Type 0 where
  pub index : ℕ
  pub within : index < length entries
  pub there : point ≡ offset + start_of entries index
  pub marked : (entry : BlockEntry) (tail : List BlockEntry) → IsEntryAt entries index entry tail → entry.restart ≡ true

named_later : (offset point : ℕ) (first : BlockEntry) (entries : List BlockEntry) → NamesEntry (offset + length (entry_bytes first)) entries point → NamesEntry offset (first ∷ entries) point
named_later offset point first entries n = record {
  index = suc n.index;
  within = let w = n.within in omega (arith, w);
  there = let t = n.there in omega (arith, t, start-cons first entries n.index);
  marked = λ entry tail at.
      let parts = at.whole in
      let rest : entries ≡ take n.index entries ++ entry ∷ tail = cc in
      let with_parts = at.with_it in
      let with_rest : take (suc n.index) entries ≡ take n.index entries ++ entry ∷ [] = cc in
      n.marked entry tail (record { whole = rest; after = at.after; with_it = with_rest; after_it = at.after_it });
}

named_here : (offset : ℕ) (first : BlockEntry) (entries : List BlockEntry) → first.restart ≡ true → NamesEntry offset (first ∷ entries) offset
named_here offset first entries e = record {
  index = 0;
  within = omega arith;
  there = omega arith;
  marked = λ entry tail at.
      let same : first ∷ entries ≡ entry ∷ tail = at.after in
      let first_is : first ≡ entry = cc in
      ap (λ z. z.restart) (sym first_is) ∙ e;
}

names_if : (b : Bool) (offset : ℕ) (first : BlockEntry) (entries : List BlockEntry) (points : List ℕ) → first.restart ≡ b → ((j : ℕ) → j < length points → NamesEntry (offset + length (entry_bytes first)) entries (get_or points j 0))
    → (j : ℕ) → j < length (if b then offset ∷ points else points) → NamesEntry offset (first ∷ entries) (get_or (if b then offset ∷ points else points) j 0)
names_if true offset first entries points e each zero h = named_here offset first entries e
names_if true offset first entries points e each (suc j) h = named_later offset (get_or points j 0) first entries (each j (omega (arith, h)))
names_if false offset first entries points e each j h = named_later offset (get_or points j 0) first entries (each j h)

names_from : (offset : ℕ) (entries : List BlockEntry) (j : ℕ) → j < length (points_from offset entries) → NamesEntry offset entries (get_or (points_from offset entries) j 0)
names_from offset [] j h = absurd (omega (arith, h))
names_from offset (first ∷ entries) j h =
    names_if first.restart offset first entries (points_from (offset + length (entry_bytes first)) entries) refl (names_from (offset + length (entry_bytes first)) entries) j h

-- each restart point of a block that has entries names one
pub point_names : (entries : List BlockEntry) (j : ℕ) → 0 < length entries → j < length (restart_points entries) → NamesEntry 0 entries (get_or (restart_points entries) j 0)
point_names [] j some h = absurd (omega (arith, some))
point_names (first ∷ entries) j some h = names_from 0 (first ∷ entries) j h

-- where a restart point before an end is, an entry can be loaded
pub loads_point : {entries : List BlockEntry} → AreEntries None entries → (key : List ℕ) (point : ℕ) → IsRestartPoint entries point → 0 < length entries → CanLoad entries key point
loads_point {entries} allowed key point p some =
    let named = point_names entries p.0 some p.1 in
    loads_restart allowed key named.index point named.within (sym p.2 ∙ named.there ∙ zero_plus (start_of entries named.index)) named.marked

-- What the moves of a walk over a block reach.

-- ---- loading an entry

-- what is after the entries
pub record Fronts (bytes : List ℕ) (limit : ℕ) (entries : List BlockEntry) : Type 0 where
  pub rest : List ℕ
  pub whole : bytes ≡ flat_map entry_bytes entries ++ rest
  pub ends : limit ≡ length (flat_map entry_bytes entries)
  pub allowed : AreEntries None entries

pub fronts : {accepts : List ℕ → Bool} {cmp : List ℕ → List ℕ → Ordering} {bytes : List ℕ} {limit : ℕ} {accepted : Bool} {entries : List BlockEntry} → AreEntriesEndingAt accepts cmp bytes limit accepted entries → Fronts bytes limit entries
unfolding block_bytes
fronts {entries = entries} held = record {
  rest = flat_map (little 4) (restart_points entries) ++ little 4 (length (restart_points entries));
  whole = held.encoded.encoded;
  ends = held.ends;
  allowed = held.encoded.allowed;
}

-- by the value of a block
pub fronts_of : {C : Type 0} {limit : ℕ} {view block : BlockRead C} → view ≡ block → Fronts view.contents limit view.entries → Fronts block.contents limit block.entries
fronts_of {limit = limit} is f = subst (λ (b : BlockRead _). Fronts b.contents limit b.entries) is f

pub limit_within : {bytes : List ℕ} {limit : ℕ} {entries : List BlockEntry} → Fronts bytes limit entries → limit ≤ length bytes
limit_within {bytes} {limit} {entries} f = omega (arith, f.ends, ap length f.whole, length-append (flat_map entry_bytes entries) f.rest)

pub start_within : {bytes : List ℕ} {limit : ℕ} {entries : List BlockEntry} {key : List ℕ} {start : ℕ} → Fronts bytes limit entries → CanLoad entries key start → start < limit
start_within {entries = entries} f loads =
    omega (arith, f.ends, loads.begins, start-lt entries loads.index (length entries) loads.within (omega arith), start-end entries)

some_read : (bytes : List ℕ) (entry : BlockEntry) (left : List ℕ) → LengthsFit entry → bytes ≡ entry_bytes entry ++ left → (r : Option (EntryParts × Bor (List ℕ))) → ReadsEntry bytes r → IsSome r
some_read bytes entry left short e None h = absurd (h entry left short e)
some_read bytes entry left short e (Some read) h = refl

-- an entry is read there
pub loads_some : {bytes : List ℕ} {limit : ℕ} {entries : List BlockEntry} {key : List ℕ} {start : ℕ} → Fronts bytes limit entries → CanLoad entries key start
    → (r : Option (EntryParts × Bor (List ℕ))) → ReadsEntry (take (limit - start) (drop start bytes)) r → IsSome r
loads_some {bytes} {limit} {entries} {key} {start} f loads r h =
    let at = entry_at entries loads.index loads.within in
    let there = allowed_there loads.within at.2 f.allowed in
    some_read (take (limit - start) (drop start bytes)) at.0 (flat_map entry_bytes at.1) there.0 (left_there loads.within at.2 bytes f.rest f.whole limit start f.ends loads.begins) r h

-- the value of an entry, by its end
value_there : (front : List ℕ) (shared : ℕ) (rest value after : List ℕ) (bytes : List ℕ) (next : ℕ) → bytes ≡ front ++ (parts_bytes shared rest value ++ after) → next ≡ length front + length (parts_bytes shared rest value)
    → slice_range bytes (next - length value) next ≡ value
value_there front shared rest value after bytes next e size =
    let head = front ++ (varint shared ++ (varint (length rest) ++ (varint (length value) ++ rest))) in
    let parts : front ++ (parts_bytes shared rest value ++ after) ≡ head ++ (value ++ after) = simp append_assoc in
    let whole : bytes ≡ head ++ (value ++ after) = e ∙ parts in
    let total : length (parts_bytes shared rest value) ≡ length (varint shared ++ (varint (length rest) ++ (varint (length value) ++ rest))) + length value = omega (arith, length-append {A = ℕ}) in
    let at : length head ≡ next - length value = omega (arith, size, total, length-append front (varint shared ++ (varint (length rest) ++ (varint (length value) ++ rest)))) in
    let long : length value ≡ next - (next - length value) = omega (arith, size, total) in
    ap (λ z. slice_range z (next - length value) next) whole
    ∙ ap (take (next - (next - length value))) (drop_at head (value ++ after) (next - length value) at)
    ∙ take_at value after (next - (next - length value)) long

-- what was read is the entry that is there
pub record IsLoaded (bytes : List ℕ) (entries : List BlockEntry) (key : List ℕ) (start limit : ℕ) (shared : ℕ) (rest value left : List ℕ) : Type 0 where
  pub index : ℕ
  pub within : index < length entries
  pub begins : start ≡ start_of entries index
  pub ends : limit - length left ≡ start_of entries (suc index)
  pub shares : shared ≤ length key
  pub pair : slice_get (pairs_of None entries) index ≡ Some (take shared key ++ rest, value)
  pub value_is : slice_range bytes ((limit - length left) - length value) (limit - length left) ≡ value
  pub value_fits : length value ≤ limit - length left
  pub left_fits : length left ≤ limit

pub is_loaded : {bytes : List ℕ} {limit : ℕ} {entries : List BlockEntry} {key : List ℕ} {start : ℕ} → Fronts bytes limit entries → CanLoad entries key start
    → (parts : EntryParts) (left : Bor (List ℕ)) → ReadsEntry (take (limit - start) (drop start bytes)) (Some (parts, left)) → IsLoaded bytes entries key start limit parts.shared parts.rest.now parts.value.now left.now
unfolding entry_bytes
is_loaded {bytes} {limit} {entries} {key} {start} f loads parts left h =
    let at = entry_at entries loads.index loads.within in
    let entry = at.0 in
    let last = last_key None (take loads.index entries) in
    let front = flat_map entry_bytes (take loads.index entries) in
    let slice = left_there loads.within at.2 bytes f.rest f.whole limit start f.ends loads.begins in
    let same = one_entry entry (entry_in false parts) (flat_map entry_bytes at.1) left.now (sym slice ∙ h.1) in
    let serves = subst (λ z. SharesPrefixOf key last z) at.2.after loads.serves in
    let shared_is = same.0 in let rest_is = same.1 in let value_is = same.2 in
    let size = next_start loads.within at.2 in
    let around = bytes_there loads.within at.2 in
    let whole_length = ap length around in
    let after_length = ap length same.3 in
    let next : limit - length left.now ≡ start_of entries (suc loads.index) =
    omega (arith, size, whole_length, after_length, f.ends, length-append front (entry_bytes entry ++ flat_map entry_bytes at.1), length-append (entry_bytes entry) (flat_map entry_bytes at.1)) in
    let key_is : key_of last entry ≡ take parts.shared key ++ parts.rest.now = sym serves.1 ∙ ap (λ z. take z key ++ entry.rest) shared_is ∙ ap (λ z. take parts.shared key ++ z) rest_is in
    let there : bytes ≡ front ++ (entry_bytes entry ++ (flat_map entry_bytes at.1 ++ f.rest)) =
    f.whole ∙ ap (λ z. z ++ f.rest) around ∙ append_assoc front (entry_bytes entry ++ flat_map entry_bytes at.1) f.rest
    ∙ ap (λ z. front ++ z) (append_assoc (entry_bytes entry) (flat_map entry_bytes at.1) f.rest) in
    let value_there_is = value_there front entry.shared entry.rest entry.value (flat_map entry_bytes at.1 ++ f.rest) bytes (limit - length left.now) there (next ∙ size) in
    let value_size = ap length value_is in
    record {
      index = loads.index;
      within = loads.within;
      begins = loads.begins;
      ends = next;
      shares = omega (arith, serves.0, shared_is);
      pair = pair_there loads.within at.2 ∙ ap (λ z. Some (z, entry.value)) key_is ∙ ap (λ z. Some (take parts.shared key ++ parts.rest.now, z)) value_is;
      value_is = ap (λ z. slice_range bytes ((limit - length left.now) - length z) (limit - length left.now)) (sym value_is) ∙ value_there_is ∙ value_is;
      value_fits = omega (arith, value_size, next, size, length-entry_bytes-ge entry);
      left_fits = omega (arith, after_length, whole_length, f.ends, length-append front (entry_bytes entry ++ flat_map entry_bytes at.1), length-append (entry_bytes entry) (flat_map entry_bytes at.1));
    }

-- the position that is then reached
pub spot_loaded : {bytes : List ℕ} {entries : List BlockEntry} {key : List ℕ} {start limit shared : ℕ} {rest value left : List ℕ} → IsLoaded bytes entries key start limit shared rest value left
    → (next_key : List ℕ) → next_key ≡ take shared key ++ rest → (spot : Spot) → spot.start ≡ start → spot.next ≡ limit - length left → spot.value ≡ (limit - length left) - length value → IsSpot bytes entries next_key spot
spot_loaded {bytes} {entries} {key} {start} {limit} {shared} {rest} {value} {left} at next_key k spot s n v =
    let here : entries_before spot.start entries ≡ at.index = ap (λ z. entries_before z entries) (s ∙ at.begins) ∙ begun-start entries at.index (omega (arith, at.within)) in
    let value_is : slice_range bytes spot.value spot.next ≡ value = ap (λ z. slice_range bytes z spot.next) v ∙ ap (λ z. slice_range bytes ((limit - length left) - length value) z) n ∙ at.value_is in
    record {
      pair =
          ap (slice_get (pairs_of None entries)) here ∙ at.pair ∙ ap (λ z. Some (z, value)) (sym k) ∙ ap (λ z. Some (next_key, z)) (sym value_is);
      begins = s ∙ at.begins ∙ ap (start_of entries) (sym here);
      ends = n ∙ at.ends ∙ ap (λ z. start_of entries (suc z)) (sym here);
      ordered = omega (arith, n, v);
    }

-- ---- steps

module _ {bytes : List ℕ} {limit : ℕ} {entries : List BlockEntry} (f : Fronts bytes limit entries) (key : List ℕ) where
  pub index_within : {spot : Spot} → IsSpot bytes entries key spot → entries_before spot.start entries < length entries
  index_within {spot} h = omega (arith, length-pairs_of None entries, slice_get_within (pairs_of None entries) (entries_before spot.start entries) (key, slice_range bytes spot.value spot.next) h.pair)

  -- a position's entry ends within the entries
  pub next_within : {spot : Spot} → IsSpot bytes entries key spot → spot.next ≤ limit
  next_within {spot} h =
      let inside = index_within h in
      let le = start-le entries (suc (entries_before spot.start entries)) (length entries) (omega (arith, inside)) (omega arith) in
      omega (arith, h.ends, f.ends, start-end entries, le)

  -- a position's entry is before the one where a walk stops
  pub is_there_step : (spot : Option Spot) {start next : ℕ} (stop m : ℕ) → IsEntryBetween bytes entries key spot start next → start < stop → m ≤ length entries → stop ≡ start_of entries m
      → IsEntryEndingAt bytes entries key spot next × (next ≤ stop) × (start < next)
  is_there_step None stop m h less within e = absurd h
  is_there_step (Some spot) stop m h less within e =
      let there = h.0 in
      let i = entries_before spot.start entries in
      let inside = index_within there in
      let s = h.1 in let n = h.2 in let b = there.begins in let d = there.ends in
      let before = before_start entries i m (omega (arith, inside)) within (omega (arith, s, b, less, e)) in
      let le = start-le entries (suc i) m (omega (arith, before)) within in
      let lt = start-lt entries i (suc i) (omega arith) (omega (arith, inside)) in
      ((there, n), omega (arith, n, d, le, e), omega (arith, s, n, b, d, lt))

  -- the next entry before the stop can be loaded
  pub is_there_loads : (spot : Option Spot) {next : ℕ} (stop m : ℕ) → IsEntryEndingAt bytes entries key spot next → next < stop → m ≤ length entries → stop ≡ start_of entries m → CanLoad entries key next
  is_there_loads None stop m h less within e = absurd h
  is_there_loads (Some spot) stop m h less within e =
      let there = h.0 in
      let i = entries_before spot.start entries in
      let inside = index_within there in
      let n = h.1 in let d = there.ends in
      let before = before_start entries (suc i) m (omega (arith, inside)) within (omega (arith, n, d, less, e)) in
      loads_next f.allowed key i _ (slice_range bytes spot.value spot.next) (omega (arith, before, within)) (sym n ∙ d) there.pair

-- a restart point's entry can be loaded where it is before some end
pub point_loads : {bytes : List ℕ} {limit : ℕ} (entries : List BlockEntry) → Fronts bytes limit entries → (key : List ℕ) (point stop m : ℕ) → IsRestartPoint entries point → point < stop → m ≤ length entries → stop ≡ start_of entries m → CanLoad entries key point
point_loads [] f key point stop m p less within e =
    let none : m ≡ 0 = omega (arith, within) in absurd (omega (arith, less, e, ap (start_of []) none))
point_loads (entry ∷ entries) f key point stop m p less within e = loads_point f.allowed key point p (omega arith)

-- a position's entry ends within the block
pub ends_within : {bytes : List ℕ} {limit : ℕ} {entries : List BlockEntry} → Fronts bytes limit entries → (key : List ℕ) (position : Option Spot) (spot : Spot) → IsWithin bytes entries key position → position ≡ Some spot → spot.next ≤ length bytes
ends_within {bytes} {limit} {entries} f key position spot h e =
    let there : IsSpot bytes entries key spot = subst (λ z. IsWithin bytes entries key z) e h in
    omega (arith, next_within f key there, limit_within f)

-- a restart point is within the entries where there are some
pub point_within : {bytes : List ℕ} {limit : ℕ} (entries : List BlockEntry) → Fronts bytes limit entries → (point : ℕ) → IsRestartPoint entries point → (limit ≡ 0 → ⊥) → point < limit
point_within [] f point p some = absurd (some f.ends)
point_within (entry ∷ entries) f point p some = start_within f (loads_point f.allowed [] point p (omega arith))

-- ---- positions

position_in : (pairs : List Pair) (n : ℕ) → n < length pairs → position_within pairs n ≡ Some n
position_in pairs n h = let t : nat_lt n (length pairs) ≡ true = grind (arith, nat_tests) in ap (λ b. if b then Some n else None) t

position_out : (pairs : List Pair) (n : ℕ) → length pairs ≤ n → position_within pairs n ≡ None
position_out pairs n h = let t : nat_lt n (length pairs) ≡ false = grind (arith, nat_tests) in ap (λ b. if b then Some n else None) t

-- the position of an entry, by where it begins
pub position_at : (bytes : List ℕ) (entries : List BlockEntry) (key : List ℕ) (spot : Option Spot) (start next n : ℕ) → IsEntryBetween bytes entries key spot start next → n ≤ length entries → start ≡ start_of entries n → position_of entries spot ≡ Some n
position_at bytes entries key None start next n h within e = absurd h
position_at bytes entries key (Some spot) start next n h within e =
    ap (λ z. Some z) (ap (λ z. entries_before z entries) (h.1 ∙ e) ∙ begun-start entries n within)

-- the position of an entry, by where it ends
pub position_before : {bytes : List ℕ} {limit : ℕ} {entries : List BlockEntry} → Fronts bytes limit entries → (key : List ℕ) (spot : Option Spot) (next n : ℕ) → IsEntryEndingAt bytes entries key spot next → suc n ≤ length entries → next ≡ start_of entries (suc n) → position_of entries spot ≡ Some n
position_before f key None next n h within e = absurd h
position_before {entries = entries} f key (Some spot) next n h within e =
    let there = h.0 in
    let inside = index_within f key there in
    let d = there.ends in let m = h.1 in
    let same = same_start entries (suc (entries_before spot.start entries)) (suc n) (omega (arith, inside)) within (sym d ∙ m ∙ e) in
    let index : entries_before spot.start entries ≡ n = omega (arith, same) in
    ap (λ z. Some z) index

-- ---- forward

-- where the next entry begins, which is the end where there is none
pub record IsNext (entries : List BlockEntry) (key : List ℕ) (limit : ℕ) (spot : Option Spot) (next : ℕ) : Type 0 where
  pub index : ℕ
  pub within : index ≤ length entries
  pub begins : next ≡ start_of entries index
  pub position : next_position (pairs_of None entries) (position_of entries spot) ≡ position_within (pairs_of None entries) index
  pub loads : index < length entries → CanLoad entries key next

pub is_next : {bytes : List ℕ} {limit : ℕ} {entries : List BlockEntry} → Fronts bytes limit entries → (key : List ℕ) (spot : Option Spot) (next : ℕ) → IsWithin bytes entries key spot → MatchOption spot (next ≡ 0) (λ there. next ≡ there.next) → IsNext entries key limit spot next
is_next {entries = entries} f key None next h e = record {
  index = 0;
  within = omega arith;
  begins = e;
  position = refl;
  loads = λ some. subst (λ z. CanLoad entries key z) (sym e) (loads_first f.allowed key some);
}
is_next {bytes} {limit} {entries} f key (Some spot) next h e =
    let i = entries_before spot.start entries in
    let inside = index_within f key h in
    record {
      index = suc i;
      within = omega (arith, inside);
      begins = e ∙ h.ends;
      position = let more : i + 1 ≡ suc i = omega arith in ap (position_within (pairs_of None entries)) more;
      loads = λ some. loads_next f.allowed key i next (slice_range bytes spot.value spot.next) some (e ∙ h.ends) h.pair;
    }

module _ {bytes : List ℕ} {limit : ℕ} {entries : List BlockEntry} (f : Fronts bytes limit entries) {key : List ℕ} {spot : Option Spot} {next : ℕ} (n : IsNext entries key limit spot next) where
  -- not at the end there is an entry
  pub next_loads : (next ≡ limit → ⊥) → CanLoad entries key next
  next_loads not_end =
      elim (cases_lt n.index (length entries)) [
        | inl less ↦ n.loads less
        | inr more ↦
            let w = n.within in let b = n.begins in
            let same : n.index ≡ length entries = omega (arith, w, more) in
            absurd (not_end (b ∙ ap (start_of entries) same ∙ start-end entries ∙ sym f.ends))
      ]

  -- at the end there is no position
  pub next_ends : next ≡ limit → None ≡ next_position (pairs_of None entries) (position_of entries spot)
  next_ends e =
      let b = n.begins in
      let same = same_start entries n.index (length entries) n.within (omega arith) (sym b ∙ e ∙ f.ends ∙ sym (start-end entries)) in
      sym (n.position ∙ position_out (pairs_of None entries) n.index (omega (arith, same, length-pairs_of None entries)))

  -- the entry that is loaded is the next position
  pub next_reached : (reached : Option Spot) (next_key : List ℕ) (after : ℕ) → (next ≡ limit → ⊥) → IsEntryBetween bytes entries next_key reached next after → position_of entries reached ≡ next_position (pairs_of None entries) (position_of entries spot)
  next_reached reached next_key after not_end h =
      elim (cases_lt n.index (length entries)) [
        | inl less ↦
            position_at bytes entries next_key reached next after n.index h n.within n.begins
            ∙ sym (n.position ∙ position_in (pairs_of None entries) n.index (omega (arith, less, length-pairs_of None entries)))
        | inr more ↦
            let w = n.within in let b = n.begins in
            let same : n.index ≡ length entries = omega (arith, w, more) in
            absurd (not_end (b ∙ ap (start_of entries) same ∙ start-end entries ∙ sym f.ends))
      ]

-- ---- backward

-- where a position's entry begins, or 0 at none
pub record IsHere (entries : List BlockEntry) (spot : Option Spot) (start : ℕ) : Type 0 where
  pub index : ℕ
  pub within : index ≤ length entries
  pub begins : start ≡ start_of entries index
  pub position : 0 < start → position_of entries spot ≡ Some index
  pub none : start ≡ 0 → previous_position (position_of entries spot) ≡ None

begun-zero : (entries : List BlockEntry) → entries_before 0 entries ≡ 0
begun-zero [] = refl
begun-zero (entry ∷ entries) = refl

pub is_here : {bytes : List ℕ} {limit : ℕ} {entries : List BlockEntry} → Fronts bytes limit entries → (key : List ℕ) (spot : Option Spot) (start : ℕ) → IsWithin bytes entries key spot → MatchOption spot (start ≡ 0) (λ there. start ≡ there.start) → IsHere entries spot start
is_here f key None start h e = record {
  index = 0;
  within = omega arith;
  begins = e;
  position = λ some. absurd (omega (arith, some, e));
  none = λ _. refl;
}
is_here {bytes} {limit} {entries} f key (Some spot) start h e =
    let inside = index_within f key h in
    record {
      index = entries_before spot.start entries;
      within = omega (arith, inside);
      begins = e ∙ h.begins;
      position = λ _. refl;
      none = λ zero_start.
          let first : entries_before spot.start entries ≡ 0 = ap (λ z. entries_before z entries) (sym e ∙ zero_start) ∙ begun-zero entries in
          ap (λ z. previous_position (Some z)) first;
    }

module _ {bytes : List ℕ} {limit : ℕ} {entries : List BlockEntry} (f : Fronts bytes limit entries) {spot : Option Spot} {start : ℕ} (h : IsHere entries spot start) (some : 0 < start) where
  positive : (i : ℕ) → start ≡ start_of entries i → (n : ℕ) × (i ≡ suc n)
  positive zero e = absurd (omega (arith, some, e))
  positive (suc n) e = (n, refl)

  previous : (n : ℕ) → previous_position (Some (suc n)) ≡ Some n
  previous n =
      let t : nat_lt 0 (suc n) ≡ true = grind (arith, nat_tests) in
      let back : suc n - 1 ≡ n = omega arith in
      ap (λ b. if b then Some (suc n - 1) else None) t ∙ ap (λ z. Some z) back

  -- the entry that ends there is the position before
  pub previous_reached : (reached : Option Spot) (key : List ℕ) → IsEntryEndingAt bytes entries key reached start → position_of entries reached ≡ previous_position (position_of entries spot)
  previous_reached reached key there =
      let b = h.begins in let w = h.within in
      let index = positive h.index b in
      let n = index.0 in let is = index.1 in
      position_before f key reached start n there (omega (arith, is, w)) (b ∙ ap (start_of entries) is)
      ∙ sym (ap previous_position (h.position some ∙ ap (λ z. Some z) is) ∙ previous n)

-- ---- the last

pub last_reached : {bytes : List ℕ} {limit : ℕ} (entries : List BlockEntry) → Fronts bytes limit entries → (spot : Option Spot) (key : List ℕ) → 0 < limit → IsEntryEndingAt bytes entries key spot limit → position_of entries spot ≡ last_position (pairs_of None entries)
last_reached {limit = limit} [] f spot key some h = let e = f.ends in absurd (omega (arith, some, e))
last_reached {limit = limit} (entry ∷ entries) f spot key some h =
    position_before f key spot limit (length entries) h (omega arith) (f.ends ∙ sym (start-end (entry ∷ entries)))
    ∙ ap (λ z. Some z) (sym (length-pairs_of (Some (key_of None entry)) entries))

pub no_last : {bytes : List ℕ} {limit : ℕ} (entries : List BlockEntry) → Fronts bytes limit entries → limit ≡ 0 → None ≡ last_position (pairs_of None entries)
no_last [] f e = refl
no_last (entry ∷ entries) f e =
    let ends = f.ends in absurd (omega (arith, e, ends, length-append (entry_bytes entry) (flat_map entry_bytes entries), length-entry_bytes-ge entry))

-- ---- seeking

-- a seek's next entry: all before it have keys before the key that is sought
pub record IsSeeking (cmp : List ℕ → List ℕ → Ordering) (entries : List BlockEntry) (target key : List ℕ) (next : ℕ) : Type 0 where
  pub index : ℕ
  pub within : index ≤ length entries
  pub begins : next ≡ start_of entries index
  pub before : index ≤ count_before cmp target (pairs_of None entries)
  pub loads : index < length entries → CanLoad entries key next

if_true : (b : Bool) (n : ℕ) → b ≡ true → (if b then n + 1 else 0) ≡ n + 1
if_true true n e = refl
if_true false n e = cc

if_false : (b : Bool) (n : ℕ) → b ≡ false → (if b then n + 1 else 0) ≡ 0
if_false false n e = refl
if_false true n e = cc

if_pos : (b : Bool) (n m : ℕ) → suc m ≤ (if b then n + 1 else 0) → (b ≡ true) × (m ≤ n)
if_pos true n m h = (refl, omega (arith, h))
if_pos false n m h = absurd (omega (arith, h))

some_pair : (p q : Pair) → Some p ≡ Some q → p ≡ q
some_pair p q e = cc

-- a key before the target is counted
count_more : (cmp : List ℕ → List ℕ → Ordering) (target : List ℕ) (pairs : List Pair) (i : ℕ) (key value : List ℕ) → i ≤ count_before cmp target pairs → slice_get pairs i ≡ Some (key, value) → is_lt (cmp key target) ≡ true → suc i ≤ count_before cmp target pairs
count_more cmp target [] i key value h e less = cc
count_more cmp target (pair ∷ pairs) zero key value h e less =
    let same = some_pair pair (key, value) e in
    let test : is_lt (cmp pair.0 target) ≡ true = ap (λ z. is_lt (cmp z.0 target)) same ∙ less in
    omega (arith, if_true (is_lt (cmp pair.0 target)) (count_before cmp target pairs) test)
count_more cmp target (pair ∷ pairs) (suc i) key value h e less =
    let parts = if_pos (is_lt (cmp pair.0 target)) (count_before cmp target pairs) i h in
    let rest = count_more cmp target pairs i key value parts.1 e less in
    omega (arith, rest, if_true (is_lt (cmp pair.0 target)) (count_before cmp target pairs) parts.0)

-- a key that isn't before the target ends the count
count_stops : (cmp : List ℕ → List ℕ → Ordering) (target : List ℕ) (pairs : List Pair) (i : ℕ) (key value : List ℕ) → i ≤ count_before cmp target pairs → slice_get pairs i ≡ Some (key, value) → is_lt (cmp key target) ≡ false → count_before cmp target pairs ≡ i
count_stops cmp target [] i key value h e less = cc
count_stops cmp target (pair ∷ pairs) zero key value h e less =
    let same = some_pair pair (key, value) e in
    let test : is_lt (cmp pair.0 target) ≡ false = ap (λ z. is_lt (cmp z.0 target)) same ∙ less in
    if_false (is_lt (cmp pair.0 target)) (count_before cmp target pairs) test
count_stops cmp target (pair ∷ pairs) (suc i) key value h e less =
    let parts = if_pos (is_lt (cmp pair.0 target)) (count_before cmp target pairs) i h in
    let rest = count_stops cmp target pairs i key value parts.1 e less in
    omega (arith, rest, if_true (is_lt (cmp pair.0 target)) (count_before cmp target pairs) parts.0)

pub seeks_first : {cmp : List ℕ → List ℕ → Ordering} {bytes : List ℕ} {limit : ℕ} (entries : List BlockEntry) → Fronts bytes limit entries → (target key : List ℕ) (point : ℕ) → IsRestartPoint entries point → CanSeekFrom cmp entries target point → IsSeeking cmp entries target key point
seeks_first [] f target key point p starts = record {
  index = 0;
  within = omega arith;
  begins = let first : p.0 ≡ 0 = omega (arith, p.1) in sym p.2 ∙ ap (λ z. get_or (0 ∷ []) z 0) first;
  before = omega arith;
  loads = λ h. absurd (omega (arith, h));
}
seeks_first {cmp} (entry ∷ entries) f target key point p starts =
    let named = point_names (entry ∷ entries) p.0 (omega arith) p.1 in
    let at : point ≡ start_of (entry ∷ entries) named.index = let t = named.there in omega (arith, t, p.2) in
    let w = named.within in
    let index : entries_before point (entry ∷ entries) ≡ named.index = ap (λ z. entries_before z (entry ∷ entries)) at ∙ begun-start (entry ∷ entries) named.index (omega (arith, w)) in
    record {
      index = named.index;
      within = omega (arith, w);
      begins = at;
      before = subst (λ z. z ≤ count_before cmp target (pairs_of None (entry ∷ entries))) index starts;
      loads = λ _. loads_point f.allowed key point p (omega arith);
    }

module _ {cmp : List ℕ → List ℕ → Ordering} {bytes : List ℕ} {limit : ℕ} {entries : List BlockEntry} (f : Fronts bytes limit entries) {target key : List ℕ} {next : ℕ} (seeks : IsSeeking cmp entries target key next) where
  inside : next < limit → seeks.index < length entries
  inside less = let b = seeks.begins in let e = f.ends in before_start entries seeks.index (length entries) seeks.within (omega arith) (omega (arith, b, e, less, start-end entries))

  pub seeks_loads : next < limit → CanLoad entries key next
  seeks_loads less = seeks.loads (inside less)

  -- no entry is left
  pub seeks_ends : limit ≤ next → None ≡ seek_position cmp (pairs_of None entries) target
  seeks_ends ends =
      let b = seeks.begins in let e = f.ends in let w = seeks.within in let c = seeks.before in
      let all : length entries ≤ seeks.index = elim (cases_lt seeks.index (length entries)) [
        | inl less ↦ let lt = start-lt entries seeks.index (length entries) less (omega arith) in absurd (omega (arith, b, e, ends, lt, start-end entries))
        | inr more ↦ more
      ] in
      sym (position_out (pairs_of None entries) (count_before cmp target (pairs_of None entries)) (omega (arith, all, c, length-pairs_of None entries)))

  module _ (less : next < limit) (spot : Option Spot) (next_key : List ℕ) (reached : ℕ) where
    at_spot : (spot : Option Spot) → IsEntryBetween bytes entries next_key spot next reached → (value : List ℕ) × (slice_get (pairs_of None entries) seeks.index ≡ Some (next_key, value)) × (reached ≡ start_of entries (suc seeks.index))
    at_spot None h = absurd h
    at_spot (Some there) h =
        let s = h.0 in
        let b = seeks.begins in
        let index : entries_before there.start entries ≡ seeks.index = ap (λ z. entries_before z entries) (h.1 ∙ b) ∙ begun-start entries seeks.index seeks.within in (
          slice_range bytes there.value there.next,
          ap (slice_get (pairs_of None entries)) (sym index) ∙ s.pair,
          sym h.2 ∙ s.ends ∙ ap (λ z. start_of entries (suc z)) index,
        )

    -- the entry's key is before the target: on to the next
    pub seeks_more : IsEntryBetween bytes entries next_key spot next reached → is_lt (cmp next_key target) ≡ true → IsSeeking cmp entries target next_key reached × (next < reached)
    seeks_more h lt =
        let at = at_spot spot h in
        let i = inside less in
        let b = seeks.begins in
        let a = at.2 in
        let step = start-lt entries seeks.index (suc seeks.index) (omega arith) (omega (arith, i)) in (
          record {
            index = suc seeks.index;
            within = omega (arith, i);
            begins = a;
            before = count_more cmp target (pairs_of None entries) seeks.index next_key at.0 seeks.before at.1 lt;
            loads = λ some. loads_next f.allowed next_key seeks.index reached at.0 some a at.1;
          },
          omega (arith, a, b, step),
        )

    -- the entry's key isn't before the target: it is found
    pub seeks_found : IsEntryBetween bytes entries next_key spot next reached → is_lt (cmp next_key target) ≡ false → position_of entries spot ≡ seek_position cmp (pairs_of None entries) target
    seeks_found h ge =
        let at = at_spot spot h in
        let i = inside less in
        let count = count_stops cmp target (pairs_of None entries) seeks.index next_key at.0 seeks.before at.1 ge in
        position_at bytes entries next_key spot next reached seeks.index h seeks.within seeks.begins
        ∙ sym (position_in (pairs_of None entries) seeks.index (omega (arith, i, length-pairs_of None entries)))
        ∙ ap (position_within (pairs_of None entries)) (sym count)

-- The restart points of a block in memory.

-- there is a restart point
pub points_some : (entries : List BlockEntry) → AreEntries None entries → 0 < length (restart_points entries)
points_some [] allowed = omega arith
points_some (entry ∷ entries) allowed = rw allowed.1.0 (omega arith)

-- and the first one is at the front
pub points_first : (entries : List BlockEntry) → AreEntries None entries → slice_index (restart_points entries) 0 ≡ 0
points_first [] allowed = refl
points_first (entry ∷ entries) allowed = rw allowed.1.0 refl

module _ {accepts : List ℕ → Bool} {cmp : List ℕ → List ℕ → Ordering} {bytes : List ℕ} {limit : ℕ} {accepted : Bool} {entries : List BlockEntry} (held : AreEntriesEndingAt accepts cmp bytes limit accepted entries) where
  -- how long a block is
  pub sizes : length bytes ≡ limit + (4 * length (restart_points entries) + 4)
  unfolding block_bytes
  sizes =
      let points = restart_points entries in
      let last : length (little 4 (length points)) ≡ 4 = refl in
      omega (
        arith,
        ap length held.encoded.encoded,
        held.ends,
        length-fours points,
        last,
        length-append (flat_map entry_bytes entries) (flat_map (little 4) points ++ little 4 (length points)),
        length-append (flat_map (little 4) points) (little 4 (length points)),
      )

  -- the number at a restart point's position
  pub point_there : (j at : ℕ) → j < length (restart_points entries) → at ≡ limit + 4 * j → little_number 4 (drop at bytes) ≡ get_or (restart_points entries) j 0
  unfolding block_bytes
  point_there j at h e =
      let points = restart_points entries in
      let front = flat_map entry_bytes entries in
      ap (λ z. little_number 4 (drop z bytes)) e
      ∙ ap (little_number 4) (sym (drop-drop (4 * j) limit bytes))
      ∙ ap (λ z. little_number 4 (drop (4 * j) (drop limit z))) held.encoded.encoded
      ∙ ap (λ z. little_number 4 (drop (4 * j) z)) (drop_at front (flat_map (little 4) points ++ little 4 (length points)) limit (sym held.ends))
      ∙ number_at points (little 4 (length points)) j h held.encoded.points_fit

-- a restart point's entry has its whole key there
pub point_key_there : {bytes : List ℕ} {limit : ℕ} {entries : List BlockEntry} {start : ℕ} → Fronts bytes limit entries → CanLoad entries [] start
    → (parts : EntryParts) (left : Bor (List ℕ)) → ReadsEntry (take (limit - start) (drop start bytes)) (Some (parts, left)) → HasKeyAt entries start parts.rest.now
point_key_there {bytes} {limit} {entries} {start} f loads parts left h =
    let at = is_loaded f loads parts left h in
    let w = at.within in
    let s = at.shares in
    let none : parts.shared ≡ 0 = omega (arith, s) in
    let index : entries_before start entries ≡ at.index = ap (λ z. entries_before z entries) at.begins ∙ begun-start entries at.index (omega (arith, w)) in (
      parts.value.now,
      ap (slice_get (pairs_of None entries)) index ∙ at.pair ∙ ap (λ z. Some (take z [] ++ parts.rest.now, parts.value.now)) none,
    )

-- ---- keys before a key

lt_less : (o : Ordering) → is_lt o ≡ true → o ≡ Less
lt_less Less e = refl
lt_less Equal e = cc
lt_less Greater e = cc

less_lt : (o : Ordering) → o ≡ Less → is_lt o ≡ true
less_lt o e = ap is_lt e

module _ {accepts : List ℕ → Bool} {cmp : List ℕ → List ℕ → Ordering} (o : IsPreorderOn accepts cmp) (target : List ℕ) (accepts_it : accepts target ≡ true) where
  -- a key before a key that is before the target
  less_front : (last : List ℕ) (pairs : List Pair) (i : ℕ) (key value : List ℕ) → RiseAfter cmp (Some last) pairs → accepts last ≡ true → All (λ pair. accepts pair.0 ≡ true) pairs
      → slice_get pairs i ≡ Some (key, value) → cmp key target ≡ Less → cmp last target ≡ Less
  less_front last [] i key value rise a all e less = cc
  less_front last (pair ∷ pairs) zero key value rise a all e less =
      let same : pair ≡ (key, value) = cc in
      o.less last pair.0 target a (All-head (λ p. accepts p.0 ≡ true) pair pairs all) accepts_it rise.0 (ap (λ z. cmp z.0 target) same ∙ less)
  less_front last (pair ∷ pairs) (suc i) key value rise a all e less =
      let head = All-head (λ p. accepts p.0 ≡ true) pair pairs all in
      o.less last pair.0 target a head accepts_it rise.0
      (less_front pair.0 pairs i key value rise.1 head (All-tail (λ p. accepts p.0 ≡ true) pair pairs all) e less)

  rise_on : (last : List ℕ) (pairs : List Pair) → RiseAfter cmp (Some last) pairs → RiseAfter cmp None pairs
  rise_on last [] h = tt
  rise_on last (pair ∷ pairs) h = h.1

  one_more : (b : Bool) (n i : ℕ) → b ≡ true → i ≤ n → suc i ≤ (if b then n + 1 else 0)
  one_more true n i e h = omega (arith, h)
  one_more false n i e h = cc

  -- all before a key that is before the target are counted
  pub count_front : (pairs : List Pair) (i : ℕ) (key value : List ℕ) → KeysRise cmp pairs → All (λ pair. accepts pair.0 ≡ true) pairs → slice_get pairs i ≡ Some (key, value) → cmp key target ≡ Less → i ≤ count_before cmp target pairs
  count_front [] i key value rise all e less = cc
  count_front (pair ∷ pairs) zero key value rise all e less = omega arith
  count_front (pair ∷ pairs) (suc i) key value rise all e less =
      let head = All-head (λ p. accepts p.0 ≡ true) pair pairs all in
      let tail = All-tail (λ p. accepts p.0 ≡ true) pair pairs all in
      one_more (is_lt (cmp pair.0 target)) (count_before cmp target pairs) i
      (less_lt (cmp pair.0 target) (less_front pair.0 pairs i key value rise head tail e less))
      (count_front pairs i key value (rise_on pair.0 pairs rise) tail e less)

-- a restart point whose key is before the target
pub starts_by : {accepts : List ℕ → Bool} {cmp : List ℕ → List ℕ → Ordering} {bytes : List ℕ} {limit : ℕ} {entries : List BlockEntry} → IsPreorderOn accepts cmp → {accepted : Bool} → accepted ≡ true → AreEntriesEndingAt accepts cmp bytes limit accepted entries
    → (target : List ℕ) → accepts target ≡ true → (point : ℕ) (key : List ℕ) → HasKeyAt entries point key → is_lt (cmp key target) ≡ true → CanSeekFrom cmp entries target point
starts_by {cmp = cmp} {entries = entries} o known held target a point key there lt =
    count_front o target a (pairs_of None entries) (entries_before point entries) key there.0 held.encoded.sorted (held.each_accepted known) there.1 (lt_less (cmp key target) lt)

-- a move from one position to another, said of positions that are the same
pub moved : {T E : Type 0} (result : Result T E) (to : Option ℕ → Option ℕ) {old new from there : Option ℕ} → old ≡ from → new ≡ there → OnOk result (there ≡ to from) → OnOk result (new ≡ to old)
moved result to {old = old} {there = there} same_old same_new ok = subst (λ z. OnOk result (z ≡ to old)) (sym same_new) (subst (λ z. OnOk result (there ≡ to z)) (sym same_old) ok)

-- a position is one of a pair exactly if it has a spot
pub some_position : (entries : List BlockEntry) (spot : Option Spot) → is_some (position_of entries spot) ≡ is_some spot
some_position entries None = refl
some_position entries (Some spot) = refl
