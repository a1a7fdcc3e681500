-- The laws of batches, durability and snapshots follow from the rows of the headline.
use Rattle.std.proofs.Common.{◌≡◌, ◌≤◌, ◌+◌, ◌⊎◌, ⊎_elim, inl, inr, ℕ, Bool, true, false, List, [], ◌∷◌, ◌++◌, length, take, refl, sym, ◌∙◌, ap, subst, arith, Option, Some, None, All, Contains, append-nil, length-append, length-take}
use Rattle.std.specs.Prelude.{Result, ◌≢◌, fold, bytes_eq, nat_le, if◌then◌else◌, option_to_list}
use Rattle.std.specs.Cmp.Lexicographic.{bytes_decides}
use Rattle.std.specs.declared.cmp.Ordering.{Ordering}
use Rattle.std.proofs.lemmas.Bool.{leb-true, leb-false}
use Rattle.std.proofs.lemmas.List.{take_all, take-take, take-append-le}
use Rattle.std.proofs.lemmas.List.Elements.{All-head, All-tail, Contains-append_left, Contains-append_right, Contains-append_cases, Contains-push_cases}
use Rattle.std.proofs.lemmas.List.Sums.{fold-append}
use Rattle.leveldb_base.proofs.HistoryLemmas.{in_none, in_rest, in_cases}
use Rattle.rusty_leveldb.specs.Headline.{KeyChange, Batch, Map, with_change, map_of, Pair, IsListing, UserStore, StoreMode, fresh_store, is_open, is_broken, is_closed, Call, open_store, abandon, close, write, get, walk, WalkMove, get_snapshot, release_snapshot, flush, compact_range, Why, CallOutcome, done, found, walked, snapshot, failed, barred, handed_on, CrashRow, IsShown, broken_with, MayLeaveBroken, at_rest, StoryEvent, returned, crash, AllowedRow, CallRow, IsStory}
use Rattle.rusty_leveldb.proofs.Headline.OwnLemmas.{number_held}
use Rattle.rusty_leveldb.specs.HeadlineLaws.{IsReached, BatchesAreReadWhole, BatchIsLeftWhole, LaterEntryWins, DurableIsKept, AbandonedIsWhole, KeepsSnapshot, SnapshotReadsTheSame}

-- ---- what a row does to the store

data RowChange (old : UserStore) (call : Call) (new : UserStore) : Type 0 where
  same : new ≡ old → RowChange old call new
  opens : (all : List Batch) → call ≡ open_store
      → (all ≡ old.batches) ⊎ (all ≡ old.batches ++ option_to_list old.pending)
      → new ≡ fresh_store all old.durable is_open → RowChange old call new
  adds : (batch : Batch) (durable : ℕ)
      → (durable ≡ old.durable) ⊎ (durable ≡ length old.batches + 1)
      → new ≡ record old { batches = old.batches ++ batch ∷ []; durable = durable }
      → RowChange old call new
  covers : new ≡ record old { durable = length old.batches } → RowChange old call new
  gives : (number : ℕ) → (Contains old.given number → ⊥)
      → new ≡ record old {
        held = old.held ++ (number, length old.batches) ∷ [];
        given = old.given ++ number ∷ [];
      } → RowChange old call new
  releases : (front back : List (ℕ × ℕ)) (number count : ℕ) → call ≡ release_snapshot number
      → old.held ≡ front ++ (number, count) ∷ back → new ≡ record old { held = front ++ back }
      → RowChange old call new
  breaks : (batch : Option Batch) → new ≡ broken_with old batch → RowChange old call new
  rests : call ≡ abandon → new ≡ at_rest old → RowChange old call new
  closes : call ≡ close → new ≡ record (at_rest old) { durable = length old.batches }
      → RowChange old call new

module _ (cmp : List ℕ → List ℕ → Ordering) (old new : UserStore) where
  may_break : (call : Call) (batch : Option Batch) (why : Why) → MayLeaveBroken old batch why new
      → RowChange old call new
  may_break call batch why (inl e) = same e
  may_break call batch why (inr broken) =
      ⊎_elim (λ (e : new ≡ broken_with old None). breaks None e)
      (λ (e : new ≡ broken_with old batch). breaks batch e) broken.1

  allowed : (call : Call) (outcome : CallOutcome) → AllowedRow cmp old call outcome new
      → RowChange old call new
  allowed open_store done row = opens row.0 refl row.1 row.2
  allowed open_store (failed why) row = same row
  allowed (write batch true) done row = adds batch (length old.batches + 1) (inr refl) row
  allowed (write batch false) done row = adds batch old.durable (inl refl) row
  allowed (write batch sync) (failed why) row =
      may_break (write batch sync) (Some batch) why row
  allowed (get at key) (found value) row = same row.0
  allowed (get at key) (failed why) row = same row
  allowed (walk at moves) (walked results) row = same row.0
  allowed (walk at moves) (failed why) row = same row
  allowed get_snapshot (snapshot number) row = gives number row.0 row.1
  allowed get_snapshot (failed why) row = same row
  allowed (release_snapshot number) done row = releases row.0 row.1 number row.2 refl row.3 row.4
  allowed (release_snapshot number) (failed why) row = same row.1
  allowed flush done row = covers row
  allowed flush (failed why) row = may_break flush None why row
  allowed compact_range done row = same row
  allowed compact_range (failed why) row = may_break compact_range None why row
  allowed close done row = closes refl row
  allowed close (failed why) row = breaks None row
  allowed abandon done row = rests refl row
  allowed abandon (failed why) row = rests refl row
  allowed call outcome row = absurd row

  change : (mode : StoreMode) (call : Call) (outcome : CallOutcome)
      → CallRow cmp mode old call outcome new → RowChange old call new
  change is_closed open_store outcome row = allowed open_store outcome row.1
  change is_closed (write batch sync) outcome row = same row.1
  change is_closed (get at key) outcome row = same row.1
  change is_closed (walk at moves) outcome row = same row.1
  change is_closed get_snapshot outcome row = same row.1
  change is_closed (release_snapshot number) outcome row = same row.1
  change is_closed flush outcome row = same row.1
  change is_closed compact_range outcome row = same row.1
  change is_closed close outcome row = same row.1
  change is_closed abandon outcome row = same row.1
  change is_broken open_store done row = absurd row
  change is_broken open_store (found value) row = absurd row.1
  change is_broken open_store (walked results) row = absurd row.1
  change is_broken open_store (snapshot number) row = absurd row.1
  change is_broken open_store (barred mode) row = absurd row.1
  change is_broken open_store (failed why) row = same row.1
  change is_broken (write batch sync) outcome row = same row.1
  change is_broken (get at key) outcome row = allowed (get at key) outcome row.1
  change is_broken (walk at moves) outcome row = allowed (walk at moves) outcome row.1
  change is_broken get_snapshot outcome row = allowed get_snapshot outcome row.1
  change is_broken (release_snapshot number) outcome row =
      allowed (release_snapshot number) outcome row.1
  change is_broken flush outcome row = same row.1
  change is_broken compact_range outcome row = same row.1
  change is_broken close outcome row = same row.1
  change is_broken abandon outcome row = allowed abandon outcome row.1
  change is_open open_store done row = absurd row
  change is_open open_store (found value) row = absurd row.1
  change is_open open_store (walked results) row = absurd row.1
  change is_open open_store (snapshot number) row = absurd row.1
  change is_open open_store (barred mode) row = absurd row.1
  change is_open open_store (failed why) row = same row.1
  change is_open (write batch sync) outcome row = allowed (write batch sync) outcome row.1
  change is_open (get at key) outcome row = allowed (get at key) outcome row.1
  change is_open (walk at moves) outcome row = allowed (walk at moves) outcome row.1
  change is_open get_snapshot outcome row = allowed get_snapshot outcome row.1
  change is_open (release_snapshot number) outcome row =
      allowed (release_snapshot number) outcome row.1
  change is_open flush outcome row = allowed flush outcome row.1
  change is_open compact_range outcome row = allowed compact_range outcome row.1
  change is_open close outcome row = allowed close outcome row.1
  change is_open abandon outcome row = allowed abandon outcome row.1

-- ---- what holds of each store that is reached

record Fits (store : UserStore) : Type 0 where
  pub durable : store.durable ≤ length store.batches
  pub none_pending : store.mode ≡ is_open → store.pending ≡ None
  pub held_given : (number count : ℕ) → Contains store.held (number, count)
      → Contains store.given number
  pub within : (number count : ℕ) → Contains store.held (number, count)
      → count ≤ length store.batches
  pub once : (number one two : ℕ) → Contains store.held (number, one)
      → Contains store.held (number, two) → one ≡ two

fresh_fits : (all : List Batch) (durable : ℕ) (mode : StoreMode) → durable ≤ length all
    → Fits (fresh_store all durable mode)
fresh_fits all durable mode le = record {
  durable = le;
  none_pending = λ is. refl;
  held_given = λ number count held. absurd (in_none (number, count) held);
  within = λ number count held. absurd (in_none (number, count) held);
  once = λ number one two held other. absurd (in_none (number, one) held);
}

-- what is held after one was released was held before
still_held : (held front back : List (ℕ × ℕ)) (one other : ℕ × ℕ) → held ≡ front ++ one ∷ back
    → Contains (front ++ back) other → Contains held other
still_held held front back one other was there =
    subst (λ h. Contains h other) (sym was)
    (⊎_elim (λ (c : Contains front other). Contains-append_left front (one ∷ back) other c)
    (λ (c : Contains back other).
    Contains-append_right front (one ∷ back) other (in_rest one other back c))
    (Contains-append_cases front back other there))

module _ (old : UserStore) (call : Call) (new : UserStore) (fits : Fits old) where
  -- one more is held
  module _ (number : ℕ) (fresh : Contains old.given number → ⊥) where
    abbrev more : List (ℕ × ℕ)
    more = old.held ++ (number, length old.batches) ∷ []

    was_or_is : (n count : ℕ) → Contains more (n, count)
        → Contains old.held (n, count) ⊎ ((number ≡ n) × (length old.batches ≡ count))
    was_or_is n count there = ⊎_elim inl
        (λ (e : (number, length old.batches) ≡ (n, count)).
        inr (ap (λ (p : ℕ × ℕ). p.0) e, ap (λ (p : ℕ × ℕ). p.1) e))
        (Contains-push_cases old.held (number, length old.batches) (n, count) there)

    never_both : (n count : ℕ) → Contains old.held (n, count) → number ≡ n → ⊥
    never_both n count held e =
        fresh (subst (Contains old.given) (sym e) (fits.held_given n count held))

    more_once : (n one two : ℕ) → Contains more (n, one) → Contains more (n, two) → one ≡ two
    more_once n one two first second = ⊎_elim
        (λ (a : Contains old.held (n, one)). ⊎_elim
        (λ (b : Contains old.held (n, two)). fits.once n one two a b)
        (λ (b : (number ≡ n) × (length old.batches ≡ two)). absurd (never_both n one a b.0))
        (was_or_is n two second))
        (λ (a : (number ≡ n) × (length old.batches ≡ one)). ⊎_elim
        (λ (b : Contains old.held (n, two)). absurd (never_both n two b a.0))
        (λ (b : (number ≡ n) × (length old.batches ≡ two)). sym a.1 ∙ b.1)
        (was_or_is n two second))
        (was_or_is n one first)

    more_given : (n count : ℕ) → Contains more (n, count) → Contains (old.given ++ number ∷ []) n
    more_given n count there = ⊎_elim
        (λ (a : Contains old.held (n, count)).
        Contains-append_left old.given (number ∷ []) n (fits.held_given n count a))
        (λ (a : (number ≡ n) × (length old.batches ≡ count)).
        subst (Contains (old.given ++ number ∷ [])) a.0
        (Contains-append_right old.given (number ∷ []) number (0, omega arith, refl)))
        (was_or_is n count there)

    more_within : (n count : ℕ) → Contains more (n, count) → count ≤ length old.batches
    more_within n count there = ⊎_elim
        (λ (a : Contains old.held (n, count)). fits.within n count a)
        (λ (a : (number ≡ n) × (length old.batches ≡ count)). omega (arith, a.1))
        (was_or_is n count there)

  fits_then : RowChange old call new → Fits new
  fits_then (same e) = subst Fits (sym e) fits
  fits_then (opens all asked is e) = subst Fits (sym e)
      (fresh_fits all old.durable is_open (⊎_elim
      (λ (s : all ≡ old.batches). omega (arith, fits.durable, ap length s))
      (λ (s : all ≡ old.batches ++ option_to_list old.pending). omega (
        arith,
        fits.durable,
        ap length s,
        length-append old.batches (option_to_list old.pending),
      ))
      is))
  fits_then (adds batch durable is e) =
      let longer = length-append old.batches (batch ∷ []) in
      subst Fits (sym e) (record {
        durable = ⊎_elim
            (λ (s : durable ≡ old.durable). omega (arith, fits.durable, s, longer))
            (λ (s : durable ≡ length old.batches + 1). omega (arith, s, longer)) is;
        none_pending = fits.none_pending;
        held_given = fits.held_given;
        within = λ number count held. let le = fits.within number count held in
            omega (arith, le, longer);
        once = fits.once;
      })
  fits_then (covers e) = subst Fits (sym e) (record {
    durable = omega arith;
    none_pending = fits.none_pending;
    held_given = fits.held_given;
    within = fits.within;
    once = fits.once;
  })
  fits_then (gives number fresh e) = subst Fits (sym e) (record {
    durable = fits.durable;
    none_pending = fits.none_pending;
    held_given = more_given number fresh;
    within = more_within number fresh;
    once = more_once number fresh;
  })
  fits_then (releases front back number count asked was e) =
      let held : (n c : ℕ) → Contains (front ++ back) (n, c) → Contains old.held (n, c) =
      λ n c there. still_held old.held front back (number, count) (n, c) was there in
      subst Fits (sym e) (record {
        durable = fits.durable;
        none_pending = fits.none_pending;
        held_given = λ n c there. fits.held_given n c (held n c there);
        within = λ n c there. fits.within n c (held n c there);
        once = λ n one two first second. fits.once n one two (held n one first) (held n two second);
      })
  fits_then (breaks batch e) = subst Fits (sym e) (record {
    durable = fits.durable;
    none_pending = λ (opened : is_broken ≡ is_open). absurd (cc);
    held_given = fits.held_given;
    within = fits.within;
    once = fits.once;
  })
  fits_then (rests asked e) = subst Fits (sym e) (record {
    durable = fits.durable;
    none_pending = λ (opened : is_closed ≡ is_open). absurd (cc);
    held_given = λ number count held. absurd (in_none (number, count) held);
    within = λ number count held. absurd (in_none (number, count) held);
    once = λ number one two held other. absurd (in_none (number, one) held);
  })
  fits_then (closes asked e) = subst Fits (sym e) (record {
    durable = omega arith;
    none_pending = λ (opened : is_closed ≡ is_open). absurd (cc);
    held_given = λ number count held. absurd (in_none (number, count) held);
    within = λ number count held. absurd (in_none (number, count) held);
    once = λ number one two held other. absurd (in_none (number, one) held);
  })

crash_fits : (old : UserStore) (cut : Option Batch) (new : UserStore) → CrashRow old cut new
    → Fits new
crash_fits old cut new row = subst Fits (sym row.rest)
    (fresh_fits (take row.count (handed_on old cut)) row.count is_closed
    (omega (arith, row.there, length-take row.count (handed_on old cut))))

module _ (cmp : List ℕ → List ℕ → Ordering) where
  story_fits : (events : List StoryEvent) (old new : UserStore) → Fits old
      → IsStory cmp old events new → Fits new
  story_fits [] old new fits story = subst Fits (sym story) fits
  story_fits (returned call outcome ∷ events) old new fits story =
      story_fits events story.0 new
      (fits_then old call story.0 fits (change cmp old story.0 old.mode call outcome story.1))
      story.2
  story_fits (crash cut ∷ events) old new fits story =
      story_fits events story.0 new (crash_fits old cut story.0 story.1) story.2

  reached_fits : (store : UserStore) → IsReached cmp store → Fits store
  reached_fits store reached = story_fits reached.0 (fresh_store [] 0 is_closed) store
      (fresh_fits [] 0 is_closed (omega arith)) reached.1

-- ---- batches are atomic

module _ (cmp : List ℕ → List ℕ → Ordering) (store new : UserStore) where
  -- a look-up that found something was allowed
  found_row : (mode : StoreMode) (at : Option ℕ) (key : List ℕ) (value : Option (List ℕ))
      → CallRow cmp mode store (get at key) (found value) new
      → AllowedRow cmp store (get at key) (found value) new
  found_row is_closed at key value row =
      absurd (let never : found value ≡ barred is_closed = row.0 in cc)
  found_row is_broken at key value row = row.1
  found_row is_open at key value row = row.1

  -- so was a walk that was made
  walked_row : (mode : StoreMode) (at : Option ℕ) (moves : List WalkMove)
      (results : List (Result (Option Pair) Why))
      → CallRow cmp mode store (walk at moves) (walked results) new
      → AllowedRow cmp store (walk at moves) (walked results) new
  walked_row is_closed at moves results row =
      absurd (let never : walked results ≡ barred is_closed = row.0 in cc)
  walked_row is_broken at moves results row = row.1
  walked_row is_open at moves results row = row.1

-- how many batches a read shows
shows_first : (store : UserStore) (at : Option ℕ) → Fits store
    → (n : ℕ) × (at ≡ None → n ≡ length store.batches)
    × ((shown : List Batch) → IsShown store at shown → shown ≡ take n store.batches)
shows_first store None fits = (
  length store.batches,
  λ now. refl,
  λ shown is. is ∙ sym (take_all (length store.batches) store.batches (omega arith)),
)
shows_first store (Some number) fits = by (number_held store.held number)
  where
    by : ((count : ℕ) × Contains store.held (number, count))
        ⊎ ((count : ℕ) → Contains store.held (number, count) → ⊥)
        → (n : ℕ) × (Some number ≡ None → n ≡ length store.batches)
        × ((shown : List Batch) → IsShown store (Some number) shown
        → shown ≡ take n store.batches)
    by (inl there) = (
      there.0,
      λ (now : Some number ≡ None). absurd (cc),
      λ shown is. is.2
          ∙ ap (λ n. take n store.batches) (fits.once number is.0 there.0 is.1 there.1),
    )
    by (inr none) = (
      0,
      λ (now : Some number ≡ None). absurd (cc),
      λ shown is. absurd (none is.0 is.1),
    )

pub batches_are_read_whole : BatchesAreReadWhole
batches_are_read_whole cmp store at reached =
    let first = shows_first store at (reached_fits cmp store reached) in (
      first.0,
      first.1,
      λ key value new row.
          let r = found_row cmp store new store.mode at key value row in
          r.3 ∙ ap (λ shown. map_of shown key) (first.2 r.1 r.2),
      λ moves results new row.
          let r = walked_row cmp store new store.mode at moves results row in
          (r.2, subst (λ shown. IsListing cmp (map_of shown) r.2) (first.2 r.1 r.3) r.4, r.5),
    )

-- the first of some batches and one more are the first of them, or all
first_or_all : (batches : List Batch) (batch : Batch) (n : ℕ)
    → (take n (batches ++ batch ∷ []) ≡ take n batches)
    ⊎ (take n (batches ++ batch ∷ []) ≡ batches ++ batch ∷ [])
first_or_all batches batch n = by (nat_le n (length batches)) refl
  where
    by : (b : Bool) → nat_le n (length batches) ≡ b
        → (take n (batches ++ batch ∷ []) ≡ take n batches)
        ⊎ (take n (batches ++ batch ∷ []) ≡ batches ++ batch ∷ [])
    by true e = inl (take-append-le n batches (batch ∷ []) (leb-true n (length batches) e))
    by false e = inr (take_all n (batches ++ batch ∷ []) (omega (
      arith,
      leb-false n (length batches) e,
      length-append batches (batch ∷ []),
    )))

pub batch_is_left_whole : BatchIsLeftWhole
batch_is_left_whole cmp old batch new reached row =
    let none = (reached_fits cmp old reached).none_pending (row.writing refl) in
    let all : handed_on old (Some batch) ≡ old.batches ++ batch ∷ [] =
    ap (λ p. old.batches ++ option_to_list p ++ batch ∷ []) none
    ∙ ap (λ b. b ++ batch ∷ []) (append-nil old.batches) in
    let left : new.batches ≡ take row.count (old.batches ++ batch ∷ []) =
    ap (λ (s : UserStore). s.batches) row.rest ∙ ap (take row.count) all in
    ⊎_elim
    (λ (e : take row.count (old.batches ++ batch ∷ []) ≡ take row.count old.batches).
    inl (row.count, left ∙ e))
    (λ (e : take row.count (old.batches ++ batch ∷ []) ≡ old.batches ++ batch ∷ []).
    inr (left ∙ e)) (first_or_all old.batches batch row.count)

-- ---- the later entry of a key wins

-- changes of other keys leave a key's value
untouched : (values : Map) (changes : Batch) (key : List ℕ)
    → All (λ later. later.key ≢ key) changes → fold with_change values changes key ≡ values key
untouched values [] key all = refl
untouched values (change ∷ changes) key all =
    untouched (with_change values change) changes key
    (All-tail (λ (later : KeyChange). later.key ≢ key) change changes all)
    ∙ by (bytes_eq change.key key) refl
  where
    by : (b : Bool) → bytes_eq change.key key ≡ b
        → (if bytes_eq change.key key then change.value else values key) ≡ values key
    by true e = absurd (All-head (λ (later : KeyChange). later.key ≢ key) change changes all
        ((bytes_decides change.key key).0 e))
    by false e = ap (λ b. if b then change.value else values key) e

pub later_entry_wins : LaterEntryWins
later_entry_wins batches front back change others =
    let whole = map_of batches in
    let batch = front ++ change ∷ back in
    let before = fold with_change whole front in
    ap (λ (m : Map). m change.key) (fold-append (λ map batch. fold with_change map batch)
    (λ key. None) batches (batch ∷ []))
    ∙ ap (λ (m : Map). m change.key) (fold-append with_change whole front (change ∷ back))
    ∙ untouched (with_change before change) back change.key others
    ∙ ap (λ b. if b then change.value else before change.key)
    ((bytes_decides change.key change.key).1 refl)

-- ---- durability

-- what is durable is kept
record Kept (old new : UserStore) : Type 0 where
  pub more : old.durable ≤ new.durable
  pub first : take old.durable new.batches ≡ take old.durable old.batches

module _ (old : UserStore) (call : Call) (new : UserStore) (fits : Fits old) where
  kept_as : (new' : UserStore) → new ≡ new' → old.durable ≤ new'.durable
      → take old.durable new'.batches ≡ take old.durable old.batches → Kept old new
  kept_as new' e more first = subst (Kept old) (sym e) (record { more = more; first = first })

  kept : RowChange old call new → Kept old new
  kept (same e) = kept_as old e (omega arith) refl
  kept (opens all asked is e) = kept_as (fresh_store all old.durable is_open) e (omega arith)
      (⊎_elim (λ (s : all ≡ old.batches). ap (take old.durable) s)
      (λ (s : all ≡ old.batches ++ option_to_list old.pending). ap (take old.durable) s
      ∙ take-append-le old.durable old.batches (option_to_list old.pending) fits.durable) is)
  kept (adds batch durable is e) =
      kept_as (record old { batches = old.batches ++ batch ∷ []; durable = durable }) e
      (⊎_elim (λ (s : durable ≡ old.durable). omega (arith, s))
      (λ (s : durable ≡ length old.batches + 1). omega (arith, s, fits.durable)) is)
      (take-append-le old.durable old.batches (batch ∷ []) fits.durable)
  kept (covers e) = kept_as (record old { durable = length old.batches }) e fits.durable refl
  kept (gives number fresh e) = kept_as (record old {
    held = old.held ++ (number, length old.batches) ∷ [];
    given = old.given ++ number ∷ [];
  }) e (omega arith) refl
  kept (releases front back number count asked was e) =
      kept_as (record old { held = front ++ back }) e (omega arith) refl
  kept (breaks batch e) = kept_as (broken_with old batch) e (omega arith) refl
  kept (rests asked e) = kept_as (at_rest old) e (omega arith) refl
  kept (closes asked e) =
      kept_as (record (at_rest old) { durable = length old.batches }) e fits.durable refl

crash_keeps : (old : UserStore) (cut : Option Batch) (new : UserStore) → Fits old
    → CrashRow old cut new → Kept old new
crash_keeps old cut new fits row = subst (Kept old) (sym row.rest) (record {
  more = row.enough;
  first = take-take old.durable row.count (handed_on old cut) row.enough
      ∙ take-append-le old.durable (old.batches ++ option_to_list old.pending)
      (option_to_list cut)
      (omega (arith, fits.durable, length-append old.batches (option_to_list old.pending)))
      ∙ take-append-le old.durable old.batches (option_to_list old.pending) fits.durable;
})

both_kept : (old mid new : UserStore) → Kept old mid → Kept mid new → Kept old new
both_kept old mid new one two =
    let more = one.more in record {
      more = omega (arith, one.more, two.more);
      first = sym (take-take old.durable mid.durable new.batches more)
          ∙ ap (take old.durable) two.first
          ∙ take-take old.durable mid.durable mid.batches more ∙ one.first;
    }

module _ (cmp : List ℕ → List ℕ → Ordering) where
  story_keeps : (events : List StoryEvent) (old new : UserStore) → Fits old
      → IsStory cmp old events new → Kept old new
  story_keeps [] old new fits story =
      subst (Kept old) (sym story) (record { more = omega arith; first = refl })
  story_keeps (returned call outcome ∷ events) old new fits story =
      let row = change cmp old story.0 old.mode call outcome story.1 in
      both_kept old story.0 new (kept old call story.0 fits row)
      (story_keeps events story.0 new (fits_then old call story.0 fits row) story.2)
  story_keeps (crash cut ∷ events) old new fits story =
      both_kept old story.0 new (crash_keeps old cut story.0 fits story.1)
      (story_keeps events story.0 new (crash_fits old cut story.0 story.1) story.2)

pub durable_is_kept : DurableIsKept
durable_is_kept cmp old events last reached story =
    let all = story_keeps cmp events old last (reached_fits cmp old reached) story in
    (all.more, all.first)

-- ---- abandoned and opened

pub abandoned_is_whole : AbandonedIsWhole
abandoned_is_whole cmp old new reached mode_is story =
    let none = (reached_fits cmp old reached).none_pending mode_is in
    let abandoned = subst (λ mode. CallRow cmp mode old abandon done story.0) mode_is story.1 in
    let rest : story.0 ≡ at_rest old = abandoned.1 in
    let opened = subst (λ mode. CallRow cmp mode story.0 open_store done story.2.0)
    (ap (λ (s : UserStore). s.mode) rest) story.2.1 in
    let row = opened.1 in
    let batches : story.0.batches ≡ old.batches = ap (λ (s : UserStore). s.batches) rest in
    let nothing : story.0.batches ++ option_to_list story.0.pending ≡ old.batches =
    ap (λ (s : UserStore). s.batches ++ option_to_list s.pending) rest
    ∙ ap (λ p. old.batches ++ option_to_list p) none ∙ append-nil old.batches in
    let all : row.0 ≡ old.batches =
    ⊎_elim (λ (e : row.0 ≡ story.0.batches). e ∙ batches)
    (λ (e : row.0 ≡ story.0.batches ++ option_to_list story.0.pending). e ∙ nothing) row.1 in (
      ap (λ (s : UserStore). s.batches) (story.2.2 ∙ row.2) ∙ all,
      ap (λ (s : UserStore). s.mode) (story.2.2 ∙ row.2),
    )

-- ---- snapshots

-- a snapshot of this number is held, and shows these batches
abbrev HasShown : UserStore → ℕ → List Batch → Type 0
HasShown store number shown =
    (count : ℕ) × Contains store.held (number, count) × (shown ≡ take count store.batches)

module _ (old : UserStore) (call : Call) (new : UserStore) (outcome : CallOutcome)
    (number : ℕ) (shown : List Batch) (fits : Fits old)
    (keeps : KeepsSnapshot number (returned call outcome)) (has : HasShown old number shown) where
  still_shown : RowChange old call new → HasShown new number shown
  still_shown (same e) = subst (λ s. HasShown s number shown) (sym e) has
  still_shown (opens all asked is e) =
      absurd (subst (λ c. KeepsSnapshot number (returned c outcome)) asked keeps)
  still_shown (adds batch durable is e) = subst (λ s. HasShown s number shown) (sym e) (
    has.0,
    has.1,
    has.2 ∙ sym (take-append-le has.0 old.batches (batch ∷ []) (fits.within number has.0 has.1)),
  )
  still_shown (covers e) = subst (λ s. HasShown s number shown) (sym e) has
  still_shown (gives other fresh e) = subst (λ s. HasShown s number shown) (sym e) (
    has.0,
    Contains-append_left old.held ((other, length old.batches) ∷ []) (number, has.0) has.1,
    has.2,
  )
  still_shown (releases front back other count asked was e) =
      subst (λ s. HasShown s number shown) (sym e) (
        has.0,
        ⊎_elim
            (λ (c : Contains front (number, has.0)). Contains-append_left front back (number, has.0) c)
            (λ (c : Contains ((other, count) ∷ back) (number, has.0)). ⊎_elim
            (λ (s : (other, count) ≡ (number, has.0)). absurd (apart (ap (λ (p : ℕ × ℕ). p.0) s)))
            (λ (c : Contains back (number, has.0)).
            Contains-append_right front back (number, has.0) c)
            (in_cases (other, count) (number, has.0) back c))
            (Contains-append_cases front ((other, count) ∷ back) (number, has.0)
            (subst (λ h. Contains h (number, has.0)) was has.1)),
        has.2,
      )
    where
      apart : other ≢ number
      apart = subst (λ c. KeepsSnapshot number (returned c outcome)) asked keeps
  still_shown (breaks batch e) = subst (λ s. HasShown s number shown) (sym e) has
  still_shown (rests asked e) =
      absurd (subst (λ c. KeepsSnapshot number (returned c outcome)) asked keeps)
  still_shown (closes asked e) =
      absurd (subst (λ c. KeepsSnapshot number (returned c outcome)) asked keeps)

module _ (cmp : List ℕ → List ℕ → Ordering) (number : ℕ) (shown : List Batch) where
  shown_then : (events : List StoryEvent) (old new : UserStore) → Fits old
      → All (KeepsSnapshot number) events → HasShown old number shown
      → IsStory cmp old events new → HasShown new number shown
  shown_then [] old new fits keeps has story = subst (λ s. HasShown s number shown) (sym story) has
  shown_then (returned call outcome ∷ events) old new fits keeps has story =
      let row = change cmp old story.0 old.mode call outcome story.1 in
      shown_then events story.0 new (fits_then old call story.0 fits row)
      (All-tail (KeepsSnapshot number) (returned call outcome) events keeps)
      (still_shown old call story.0 outcome number shown fits
      (All-head (KeepsSnapshot number) (returned call outcome) events keeps) has row) story.2
  shown_then (crash cut ∷ events) old new fits keeps has story =
      absurd (All-head (KeepsSnapshot number) (crash cut) events keeps)

pub snapshot_reads_the_same : SnapshotReadsTheSame
snapshot_reads_the_same cmp old last number key before after events reached first keeps story second =
    let fits = reached_fits cmp old reached in
    let was = found_row cmp old old old.mode (Some number) key before first in
    let is = found_row cmp last last last.mode (Some number) key after second in
    let has = shown_then cmp number was.1 events old last fits keeps was.2 story in
    let same = (story_fits cmp events old last fits story).once number is.2.0 has.0 is.2.1 has.1 in
    is.3
    ∙ ap (λ shown. map_of shown key) (is.2.2 ∙ ap (λ n. take n last.batches) same ∙ sym has.2)
    ∙ sym was.3
