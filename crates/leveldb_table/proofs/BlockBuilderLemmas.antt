-- One more entry of a block builder.
use Rattle.std.proofs.Common.{◌≡◌, ℕ, zero, suc, ◌+◌, ◌*◌, ◌%◌, ◌^◌, ◌<◌, ◌≤◌, Bool, true, false, nat_eq, if◌then◌else◌, List, [], ◌∷◌, ◌++◌, length, take, drop, flat_map, get_or, min, None, Some, refl, sym, ◌∙◌, ap, subst, arith, length-append, length-drop, Result, Ok, Err, inl, inr}
use Rattle.std.specs.List.{All}
use Rattle.std.specs.Prelude.{OnErr, unwrap_or}
use Rattle.std.proofs.lemmas.Bool.{cases_lt, eqb-true, ne_eqb, eq-eqb}
use Rattle.std.proofs.lemmas.List.{append-nil, take-append-drop, length_push}
use Rattle.std.proofs.lemmas.List.Concat.{flat_map-append}
use Rattle.std.proofs.lemmas.List.Elements.{All-cons, All-push}
use Rattle.std.specs.declared.cmp.Ordering.{Ordering}
use Rattle.leveldb_base.specs.Types.{Pair}
use Rattle.leveldb_base.specs.Varint.{little}
use Rattle.leveldb_base.proofs.VarintLemmas.{length-varint_32}
use Rattle.leveldb_env.proofs.FilterBlockLemmas.{length-fours}
use Rattle.leveldb_table.specs.Block.{BlockEntry, parts_bytes, entry_bytes, key_of, pairs_of, LengthsFit, SharesFrom, KeysRise, points_from, restart_points, block_bytes, HasEntries}
use Rattle.leveldb_table.specs.BlockLaws.{length-entry_bytes-ge, one_whole}
use Rattle.leveldb_table.specs.BlockCheck.{block_entry, key_before}
use Rattle.leveldb_table.specs.BlockWalk.{last_key}
use Rattle.leveldb_table.specs.BlockBuilder.{AreSpaced, IsEntryTooLarge, AreEntriesBuilt, HasEntriesBuilt, estimate, points_more, last_added, shared_len, entry_after, entries_after, IsMade}
use Rattle.leveldb_table.proofs.BlockLemmas.{last_key-append, pairs_of-append, AreEntries-append}

spaced_push : (interval i : ℕ) (entries : List BlockEntry) (entry : BlockEntry) → AreSpaced interval i entries → entry.restart ≡ nat_eq ((i + length entries) % interval) 0 → AreSpaced interval i (entries ++ entry ∷ [])
spaced_push interval i [] entry h e = let same : i + 0 ≡ i = omega arith in (e ∙ ap (λ z. nat_eq (z % interval) 0) same, tt)
spaced_push interval i (first ∷ entries) entry h e =
    let same : i + suc (length entries) ≡ (i + 1) + length entries = omega arith in
    (h.0, spaced_push interval (i + 1) entries entry h.1 (e ∙ ap (λ z. nat_eq (z % interval) 0) same))

if_point : (b : Bool) (offset : ℕ) → (if b then offset ∷ [] else []) ≡ points_more b offset
if_point true offset = refl
if_point false offset = refl

if_append : (b : Bool) (offset : ℕ) (points more : List ℕ) → (if b then offset ∷ (points ++ more) else (points ++ more)) ≡ (if b then offset ∷ points else points) ++ more
if_append true offset points more = refl
if_append false offset points more = refl

points_push : (offset : ℕ) (entries : List BlockEntry) (entry : BlockEntry) → points_from offset (entries ++ entry ∷ []) ≡ points_from offset entries ++ points_more entry.restart (offset + length (flat_map entry_bytes entries))
points_push offset [] entry = let same : offset ≡ offset + 0 = omega arith in if_point entry.restart offset ∙ ap (points_more entry.restart) same
points_push offset (first ∷ entries) entry =
    let size : (offset + length (entry_bytes first)) + length (flat_map entry_bytes entries) ≡ offset + length (entry_bytes first ++ flat_map entry_bytes entries) =
    omega (arith, length-append (entry_bytes first) (flat_map entry_bytes entries)) in
    ap (λ z. if first.restart then offset ∷ z else z)
    (points_push (offset + length (entry_bytes first)) entries entry
    ∙ ap (λ z. points_from (offset + length (entry_bytes first)) entries ++ points_more entry.restart z) size)
    ∙ if_append first.restart offset (points_from (offset + length (entry_bytes first)) entries) (points_more entry.restart (offset + length (entry_bytes first ++ flat_map entry_bytes entries)))

-- entries have three bytes each at least
pub count_small : (entries : List BlockEntry) → 3 * length entries ≤ length (flat_map entry_bytes entries)
count_small [] = omega arith
count_small (entry ∷ entries) = let rest = count_small entries in omega (arith, rest, length-append (entry_bytes entry) (flat_map entry_bytes entries), length-entry_bytes-ge entry)

if_suc : (b : Bool) (points : List ℕ) (offset n : ℕ) → length points ≤ n → length (if b then offset ∷ points else points) ≤ suc n
if_suc true points offset n h = omega (arith, h)
if_suc false points offset n h = omega (arith, h)

points_few : (offset : ℕ) (entries : List BlockEntry) → length (points_from offset entries) ≤ length entries
points_few offset [] = omega arith
points_few offset (entry ∷ entries) = if_suc entry.restart (points_from (offset + length (entry_bytes entry)) entries) offset (length entries) (points_few (offset + length (entry_bytes entry)) entries)

-- there are no more restart points than entries, or one
pub restarts_few : (entries : List BlockEntry) → length (restart_points entries) ≤ length entries + 1
restarts_few [] = omega arith
restarts_few (entry ∷ entries) = let few = points_few 0 (entry ∷ entries) in omega (arith, few)

zero_plus : (n : ℕ) → n ≡ 0 + n
zero_plus n = omega arith

-- the restart points with one more entry; the first is at 0
restarts_push : (entries : List BlockEntry) (entry : BlockEntry) (points more : List ℕ) → 0 ∷ points ≡ restart_points entries → (length entries ≡ 0 → entry.restart ≡ true) → (length entries ≡ 0 → more ≡ points)
    → (0 < length entries → more ≡ points ++ points_more entry.restart (length (flat_map entry_bytes entries))) → 0 ∷ more ≡ restart_points (entries ++ entry ∷ [])
restarts_push [] entry points more e f g h =
    ap (λ z. 0 ∷ z) (g refl) ∙ e ∙ sym (if_point entry.restart 0 ∙ ap (λ z. points_more z 0) (f refl))
restarts_push (first ∷ entries) entry points more e f g h =
    ap (λ z. 0 ∷ z) (h (omega arith)) ∙ ap (λ z. z ++ points_more entry.restart (length (flat_map entry_bytes (first ∷ entries)))) e
    ∙ ap (λ z. points_from 0 (first ∷ entries) ++ points_more entry.restart z) (zero_plus (length (flat_map entry_bytes (first ∷ entries))))
    ∙ sym (points_push 0 (first ∷ entries) entry)

key_shared : (none : Bool) (last key : List ℕ) (restart : Bool) (shared : ℕ) (value : List ℕ) → take shared last ≡ take shared key → (none ≡ true → shared ≡ 0)
    → key_of (key_before none last) (block_entry restart shared (drop shared key) value) ≡ key
key_shared true last key restart shared value e f = ap (λ z. drop z key) (f refl)
key_shared false last key restart shared value e f = ap (λ z. z ++ drop shared key) e ∙ take-append-drop shared key

shares_last : (none : Bool) (last rest : List ℕ) (restart : Bool) (shared : ℕ) (value : List ℕ) → shared ≤ length last → (none ≡ true → restart ≡ true) → (restart ≡ true → shared ≡ 0) → SharesFrom (key_before none last) (block_entry restart shared rest value)
shares_last true last rest restart shared value h f g = (f refl, g (f refl))
shares_last false last rest restart shared value h f g = (h, g)

zero_test : (count : ℕ) → nat_eq count 0 ≡ true → count ≡ 0
zero_test count e = eqb-true count 0 e

suc_test : (count : ℕ) → nat_eq (suc count) 0 ≡ false
suc_test count = ne_eqb (suc count) 0 (λ e. omega (arith, e))

zero_rest : (count interval : ℕ) → 1 ≤ interval → count ≡ 0 → nat_eq (count % interval) 0 ≡ true
zero_rest count interval some e =
    let none : count % interval ≡ 0 = omega (arith, some, e) in ap (λ z. nat_eq z 0) none

fit_push : (b : Bool) (points : List ℕ) (offset : ℕ) → offset < 2 ^ 32 → All (λ z. z < 2 ^ 32) points → All (λ z. z < 2 ^ 32) (points ++ points_more b offset)
fit_push true points offset h all = All-push (λ z. z < 2 ^ 32) points offset all h
fit_push false points offset h all = subst (λ z. All (λ z. z < 2 ^ 32) z) (sym (append-nil points)) all

same_last : (last : List ℕ) (entries : List BlockEntry) (before : Pair) → before.0 ≡ last → last_added (before ∷ pairs_of (Some last) entries) ≡ unwrap_or (last_key (Some last) entries) []
same_last last [] before e = e
same_last last (entry ∷ entries) before e = same_last (key_of (Some last) entry) entries (key_of (Some last) entry, entry.value) refl

last_pair : (entries : List BlockEntry) → last_added (pairs_of None entries) ≡ unwrap_or (last_key None entries) []
last_pair [] = refl
last_pair (entry ∷ entries) = same_last (key_of None entry) entries (key_of None entry, entry.value) refl

-- the key that was added last
pub last_there : {cmp : List ℕ → List ℕ → Ordering} {interval : ℕ} {bytes points last : List ℕ} {begun : Bool} {entries : List BlockEntry} (count : ℕ) → AreEntriesBuilt cmp interval bytes points last count begun entries → last ≡ last_added (pairs_of None entries)
last_there {last = last} {entries = entries} zero built = built.cleared refl ∙ sym (last_pair entries ∙ ap (λ z. unwrap_or z []) built.reached)
last_there {last = last} {entries = entries} (suc count) built = sym (last_pair entries ∙ ap (λ z. unwrap_or z []) built.reached ∙ ap (λ z. unwrap_or (key_before z last) []) (suc_test count))

chosen : (restart : Bool) (shared front : ℕ) → (restart ≡ true → shared ≡ 0) → (restart ≡ false → shared ≡ front) → shared ≡ (if restart then 0 else front)
chosen true shared front none longest = none refl
chosen false shared front none longest = longest refl

entry_by : ℕ → List ℕ → List ℕ → ℕ → List ℕ → BlockEntry
entry_by interval key value count last =
    let restart = nat_eq (count % interval) 0 in
    let shared = if restart then 0 else shared_len last key in
    record { restart = restart; shared = shared; rest = drop shared key; value = value }

-- what is put is the entry after the others
pub entry_is : {cmp : List ℕ → List ℕ → Ordering} {interval : ℕ} {bytes points last : List ℕ} {begun : Bool} {entries : List BlockEntry} (count : ℕ) (built : AreEntriesBuilt cmp interval bytes points last count begun entries)
    → (key value : List ℕ) (shared : ℕ) → (nat_eq (count % interval) 0 ≡ true → shared ≡ 0) → (nat_eq (count % interval) 0 ≡ false → shared ≡ shared_len last key)
    → block_entry (nat_eq (count % interval) 0) shared (drop shared key) value ≡ entry_after interval entries key value
unfolding entry_by
entry_is {interval = interval} {last = last} {entries = entries} count built key value shared none longest =
    ap (λ n. block_entry (nat_eq (count % interval) 0) n (drop n key) value) (chosen (nat_eq (count % interval) 0) shared (shared_len last key) none longest)
    ∙ ap (λ n. entry_by interval key value n last) built.counted
    ∙ ap (λ z. entry_by interval key value (length entries) z) (last_there count built)

-- one more pair after others
entries_push : (interval : ℕ) (before : List BlockEntry) (pairs : List Pair) (pair : Pair)
    → entries_after interval before (pairs ++ pair ∷ []) ≡ entries_after interval before pairs ++ entry_after interval (entries_after interval before pairs) pair.0 pair.1 ∷ []
entries_push interval before [] pair = refl
entries_push interval before (first ∷ pairs) pair = entries_push interval (before ++ entry_after interval before first.0 first.1 ∷ []) pairs pair

module _ {cmp : List ℕ → List ℕ → Ordering} {interval : ℕ} {bytes points last : List ℕ} {count : ℕ} {begun : Bool} {entries : List BlockEntry} (built : AreEntriesBuilt cmp interval bytes points last count begun entries) where
  module _ (restart : Bool) (key value : List ℕ) (shared : ℕ) (restart_is : restart ≡ nat_eq (count % interval) 0) (within : shared ≤ length last) (shares : take shared last ≡ take shared key) (none : restart ≡ true → shared ≡ 0)
      (key_fits : length key < 2 ^ 32) (value_fits : length value < 2 ^ 32) (within_key : shared ≤ length key) (offset_fits : length bytes < 2 ^ 32) (all_rise : KeysRise cmp (pairs_of None entries ++ (key, value) ∷ [])) where
    abbrev pub new_entry : BlockEntry
    new_entry = block_entry restart shared (drop shared key) value

    first_restart : nat_eq count 0 ≡ true → restart ≡ true
    first_restart e = restart_is ∙ zero_rest count interval built.some_interval (zero_test count e)

    pub new_key : key_of (last_key None entries) new_entry ≡ key
    new_key =
        ap (λ z. key_of z new_entry) built.reached
        ∙ key_shared (nat_eq count 0) last key restart shared value shares (λ e. none (first_restart e))

    pub new_pairs : pairs_of None (entries ++ new_entry ∷ []) ≡ pairs_of None entries ++ (key, value) ∷ []
    new_pairs = pairs_of-append None entries (new_entry ∷ []) ∙ ap (λ z. pairs_of None entries ++ (z, value) ∷ []) new_key

    short : LengthsFit new_entry
    short = record { shared_fits = omega (arith, within_key, key_fits); rest_fits = omega (arith, key_fits, length-drop shared key); value_fits = value_fits }

    zero_is : count ≡ 0 → nat_eq count 0 ≡ true
    zero_is e = ap (λ z. nat_eq z 0) e

    after_zero : Some key ≡ key_before (nat_eq (count + 1) 0) key
    after_zero =
        let more : count + 1 ≡ suc count = omega arith in
        sym (ap (λ z. key_before (nat_eq z 0) key) more ∙ ap (λ z. key_before z key) (suc_test count))

    fit_by : (n : ℕ) (more : List ℕ) → (n ≡ 0 → more ≡ points) → (0 < n → more ≡ points ++ points_more restart (length bytes)) → All (λ offset. offset < 2 ^ 32) more
    fit_by zero more f g = subst (λ z. All (λ offset. offset < 2 ^ 32) z) (sym (f refl)) built.points_fit
    fit_by (suc n) more f g = subst (λ z. All (λ offset. offset < 2 ^ 32) z) (sym (g (omega arith))) (fit_push restart points (length bytes) offset_fits built.points_fit)

    -- the entry that is put is the one after the others
    new_is : (restart ≡ false → shared ≡ shared_len last key) → new_entry ≡ entry_after interval entries key value
    new_is longest =
        ap (λ b. block_entry b shared (drop shared key) value) restart_is
        ∙ entry_is count built key value shared (λ yes. none (restart_is ∙ yes)) (λ no. longest (restart_is ∙ no))

    new_exact : (restart ≡ false → shared ≡ shared_len last key) → entries_after interval [] (pairs_of None (entries ++ new_entry ∷ [])) ≡ entries ++ new_entry ∷ []
    new_exact longest =
        ap (entries_after interval []) new_pairs ∙ entries_push interval [] (pairs_of None entries) (key, value)
        ∙ ap (λ z. z ++ entry_after interval z key value ∷ []) built.exact ∙ ap (λ e. entries ++ e ∷ []) (sym (new_is longest))

    pub built_more : (restart ≡ false → shared ≡ shared_len last key) → (more : List ℕ) → (count ≡ 0 → more ≡ points) → (0 < count → more ≡ points ++ points_more restart (length bytes)) → (longer : List ℕ) → longer ≡ bytes ++ parts_bytes shared (drop shared key) value
        → AreEntriesBuilt cmp interval longer more key (count + 1) true (entries ++ new_entry ∷ [])
    unfolding entry_bytes
    built_more longest more first_more other_more longer e =
        let counted = built.counted in
        let size = ap length built.encoded in
        let pointed = restarts_push entries new_entry points more built.pointed
        (λ h. first_restart (zero_is (omega (arith, counted, h)))) (λ h. first_more (omega (arith, counted, h)))
        (λ h. other_more (omega (arith, counted, h)) ∙ ap (λ z. points ++ points_more restart z) size) in
        let whole = flat_map-append entry_bytes entries (new_entry ∷ []) ∙ ap (λ z. flat_map entry_bytes entries ++ z) (append-nil (entry_bytes new_entry)) in
        record {
          some_interval = built.some_interval;
          encoded = e ∙ ap (λ z. z ++ parts_bytes shared (drop shared key) value) built.encoded ∙ sym whole;
          pointed = pointed;
          spaced = spaced_push interval 0 entries new_entry built.spaced
              (restart_is ∙ ap (λ z. nat_eq (z % interval) 0) (counted ∙ zero_plus (length entries)));
          exact = new_exact longest;
          allowed = AreEntries-append None entries (new_entry ∷ []) built.allowed
              (short, subst (λ z. SharesFrom z new_entry) (sym built.reached) (shares_last (nat_eq count 0) last (drop shared key) restart shared value within first_restart none), tt);
          sorted = subst (λ z. KeysRise cmp z) (sym new_pairs) all_rise;
          reached = last_key-append None entries (new_entry ∷ []) ∙ ap (λ z. Some z) new_key ∙ after_zero;
          cleared = λ h. absurd (omega (arith, h));
          counted = let n = length_push entries new_entry in omega (arith, n, counted);
          begins = λ _. refl;
          points_fit = fit_by count more first_more other_more;
          count_fits =
              let few = restarts_few (entries ++ new_entry ∷ []) in
              let n = length_push entries new_entry in
              let small = count_small entries in
              omega (arith, few, n, small, size, offset_fits, ap length pointed);
        }

-- how many bytes an entry takes at most
pub parts_room : (shared : ℕ) (rest value : List ℕ) → shared < 2 ^ 32 → length rest < 2 ^ 32 → length value < 2 ^ 32 → length (parts_bytes shared rest value) ≤ 15 + length rest + length value
parts_room shared rest value a b c =
    omega (arith, length-varint_32 shared a, length-varint_32 (length rest) b, length-varint_32 (length value) c, length-append {A = ℕ})

-- what is finished is a block of what was added
pub built_encoded : {cmp : List ℕ → List ℕ → Ordering} {interval : ℕ} {bytes points last : List ℕ} {count : ℕ} {begun : Bool} {entries : List BlockEntry} → AreEntriesBuilt cmp interval bytes points last count begun entries
    → (whole : List ℕ) → whole ≡ bytes ++ (flat_map (little 4) (0 ∷ points) ++ little 4 (length points + 1)) → HasEntries cmp whole entries
unfolding block_bytes
built_encoded {bytes = bytes} {points = points} {entries = entries} built whole e =
    let pointed = built.pointed in
    let size : length points + 1 ≡ length (restart_points entries) = omega (arith, ap length pointed) in
    record {
      encoded =
          e ∙ ap (λ z. z ++ (flat_map (little 4) (0 ∷ points) ++ little 4 (length points + 1))) built.encoded
          ∙ ap (λ z. flat_map entry_bytes entries ++ (flat_map (little 4) z ++ little 4 (length points + 1))) pointed
          ∙ ap (λ z. flat_map entry_bytes entries ++ (flat_map (little 4) (restart_points entries) ++ little 4 z)) size;
      allowed = built.allowed;
      sorted = built.sorted;
      points_fit = subst (λ z. All (λ offset. offset < 2 ^ 32) z) pointed (All-cons (λ offset. offset < 2 ^ 32) 0 points (omega arith) built.points_fit);
      count_fits = let few = built.count_fits in omega (arith, few, size);
    }

-- and it is as it is made of their pairs
pub built_made : {cmp : List ℕ → List ℕ → Ordering} {interval : ℕ} {bytes points last : List ℕ} {count : ℕ} {begun : Bool} {entries : List BlockEntry} → AreEntriesBuilt cmp interval bytes points last count begun entries
    → {whole : List ℕ} → HasEntries cmp whole entries → IsMade cmp interval (pairs_of None entries) whole
built_made {entries = entries} built encoded = record {
  block = record { entries = entries; encoded = encoded; pairs_are = refl };
  exact = encoded.encoded ∙ ap block_bytes (sym built.exact);
}

-- a block has as many bytes as were estimated
pub block_size : (entries : List BlockEntry) → length (block_bytes entries) ≡ estimate entries true
unfolding block_bytes
block_size entries =
    let points = restart_points entries in
    let last : length (little 4 (length points)) ≡ 4 = refl in
    omega (arith, last, length-append (flat_map entry_bytes entries) (flat_map (little 4) points ++ little 4 (length points)), length-append (flat_map (little 4) points) (little 4 (length points)), length-fours points)

-- what fits isn't too large, and what doesn't fit is
pub too_large : (entries : List BlockEntry) (bytes key value : List ℕ) → bytes ≡ flat_map entry_bytes entries → ((length bytes < 2 ^ 32) × (length key < 2 ^ 32) × (length value < 2 ^ 32) → ⊥) → IsEntryTooLarge entries key value
too_large entries bytes key value e h =
    elim (cases_lt (length bytes) (2 ^ 32)) [
      | inr a ↦ inl (omega (arith, a, ap length e))
      | inl a ↦
          elim (cases_lt (length key) (2 ^ 32)) [
            | inr b ↦ inr (inl b)
            | inl b ↦
                elim (cases_lt (length value) (2 ^ 32)) [
                  | inr d ↦ inr (inr d)
                  | inl d ↦ absurd (h (a, b, d))
                ]
          ]
    ]

-- what a builder has are the entries that its bytes and points are
pub built_are : {cmp : List ℕ → List ℕ → Ordering} {interval : ℕ} {bytes points last : List ℕ} {count : ℕ} {begun : Bool} (built : HasEntriesBuilt cmp interval bytes points last count begun) (entries : List BlockEntry)
    → bytes ≡ flat_map entry_bytes entries → 0 ∷ points ≡ restart_points entries → built.0 ≡ entries
built_are built entries e f = one_whole built.0 entries (sym built.1.encoded ∙ e) (sym built.1.pointed ∙ f)

-- and are those that these are
pub entries_are : {cmp : List ℕ → List ℕ → Ordering} {interval : ℕ} {bytes points last : List ℕ} {count : ℕ} {begun : Bool} (built : HasEntriesBuilt cmp interval bytes points last count begun) (entries : List BlockEntry)
    → bytes ≡ flat_map entry_bytes entries → 0 ∷ points ≡ restart_points entries → (whole : List BlockEntry) → entries ≡ whole → built.0 ≡ whole
entries_are built entries e f whole g = built_are built entries e f ∙ g

-- and their pairs
pub pairs_are : {cmp : List ℕ → List ℕ → Ordering} {interval : ℕ} {bytes points last : List ℕ} {count : ℕ} {begun : Bool} (built : HasEntriesBuilt cmp interval bytes points last count begun) (entries : List BlockEntry)
    → bytes ≡ flat_map entry_bytes entries → 0 ∷ points ≡ restart_points entries → (pairs : List Pair) → pairs_of None entries ≡ pairs → pairs_of None built.0 ≡ pairs
pairs_are built entries e f pairs g = ap (pairs_of None) (built_are built entries e f) ∙ g

pub OnErr-always : {T E P : Type 0} (r : Result T E) → P → OnErr r P
OnErr-always (Ok x) h = tt
OnErr-always (Err e) h = h

-- ---- how much of a key is shared

-- where the keys differ first
pub front_differs : (last key : List ℕ) (i : ℕ) → take i last ≡ take i key → i < length last → i < length key → (get_or last i 0 ≡ get_or key i 0 → ⊥) → i ≡ shared_len last key
front_differs [] key i e h g other = absurd (omega (arith, h))
front_differs (b ∷ last) [] i e h g other = absurd (omega (arith, g))
front_differs (b ∷ last) (c ∷ key) zero e h g other = rw (ne_eqb b c other)
front_differs (b ∷ last) (c ∷ key) (suc i) e h g other =
    let first : b ≡ c = cc in
    let after : take i last ≡ take i key = cc in
    rw (eq-eqb b c first) (ap suc (front_differs last key i after (omega (arith, h)) (omega (arith, g)) other))

-- one of the keys is all shared
pub front_whole : (last key : List ℕ) (i : ℕ) → take i last ≡ take i key → i ≡ min (length last) (length key) → i ≡ shared_len last key
front_whole [] key i e h = omega (arith, h)
front_whole (b ∷ last) [] i e h = omega (arith, h)
front_whole (b ∷ last) (c ∷ key) zero e h = absurd (omega (arith, h))
front_whole (b ∷ last) (c ∷ key) (suc i) e h =
    let first : b ≡ c = cc in
    let after : take i last ≡ take i key = cc in
    rw (eq-eqb b c first) (ap suc (front_whole last key i after (omega (arith, h))))
