-- Scans of a walk: the pairs at the positions to which it goes, one after another.
use Rattle.std.specs.Prelude.{drop, reverse, take, slice_get, nat_lt, if◌then◌else◌, is_some, map, IfErr, OnErr, OnOk}
use Rattle.std.specs.Global.{Vec}
use Rattle.std.specs.Result.{is_err}
use Rattle.std.proofs.Common.{◌≡◌, ◌∙◌, ◌<◌, ◌≤◌, ◌+◌, ◌-◌, ⊎_elim, inl, inr, ℕ, Bool, true, false, List, [], ◌∷◌, ◌++◌, length, get_or, min, refl, sym, ap, subst, arith, Option, Some, None, Result, Ok, Err}
use Rattle.std.proofs.lemmas.Bool.{cases_lt}
use Rattle.std.proofs.lemmas.Grind.{common_steps}
use Rattle.std.proofs.lemmas.List.{get_or-drop, get_or-reverse, get_or-take, length-drop, length-reverse, length-take-le, take_all, take_more}
use Rattle.std.proofs.lemmas.Option.{get_or_from_slice_get, slice_get-get_or, slice_get_past, slice_get_within}
use Rattle.std.specs.Ordering.{is_lt}
use Rattle.std.specs.declared.cmp.Ordering.{Ordering}
use Rattle.leveldb_base.proofs.PositionLemmas.{at_within, last_before_end}
use Rattle.leveldb_base.specs.Types.{Pair, count_before, last_position, next_position, pair_at, position_within, previous_position, seek_position}
use Rattle.leveldb_base.specs.declared.error.Status.{Status}
use Rattle.leveldb_iter.specs.Walk.{KeyOrder, MovesWalk, WalkLaws, Way}
use Rattle.leveldb_iter.specs.declared.walk.Walk.{Ghosts as WalkGhosts}
use Rattle.rusty_leveldb.specs.Walks.Scan.{BeginsScan, ScansWalk, begin_position, bytes_of_copy, scan_key, next_in_scan, scanned}
use Rattle.rusty_leveldb.specs.declared.scan.Scan.{Scan}
use Rattle.rusty_leveldb.specs.declared.scan.Scan.TheVariants.{First, From, Before, Last}

-- ---- positions

within_in : (pairs : List Pair) (n : ℕ) → n < length pairs → position_within pairs n ≡ Some n
within_in pairs n small = grind (arith, common_steps)

within_past : (pairs : List Pair) (n : ℕ) → length pairs ≤ n → position_within pairs n ≡ None
within_past pairs n great = grind (arith, common_steps)

previous_in : (n : ℕ) → 0 < n → previous_position (Some n) ≡ Some (n - 1)
previous_in n some = grind (arith, common_steps)

count_bound : (cmp : List ℕ → List ℕ → Ordering) (key : List ℕ) (pairs : List Pair)
    → count_before cmp key pairs ≤ length pairs
count_bound cmp key [] = omega arith
count_bound cmp key (pair ∷ pairs) = by (is_lt (cmp pair.0 key)) (count_bound cmp key pairs)
  where
    by : (b : Bool) → count_before cmp key pairs ≤ length pairs
        → (if b then count_before cmp key pairs + 1 else 0) ≤ length (pair ∷ pairs)
    by true low = omega (arith, low)
    by false low = omega arith

-- the position of the i-th pair of a scan
abbrev pub place : Scan → KeyOrder → List Pair → ℕ → Option ℕ
place First order pairs i = position_within pairs i
place (From key) order pairs i =
    position_within pairs (count_before order.cmp key.now pairs + i)
place (Before key) order pairs i =
    previous_position (Some (count_before order.cmp key.now pairs - i))
place Last order pairs i = previous_position (Some (length pairs - i))

pub begins : (scan : Scan) (order : KeyOrder) (pairs : List Pair) (position : Option ℕ)
    → begin_position scan order pairs position ≡ place scan order pairs 0
begins First order pairs position = refl
begins (From key) order pairs position = ap (λ n. position_within pairs n) (omega arith)
begins (Before key) order pairs position = ap (λ n. previous_position (Some n)) (omega arith)
begins Last order pairs position =
    last_before_end pairs ∙ ap (λ n. previous_position (Some n)) (omega arith)

-- after a pair at a position within the list comes the next
next_within : (pairs : List Pair) (n p : ℕ) → position_within pairs n ≡ Some p
    → next_position pairs (position_within pairs n) ≡ position_within pairs (n + 1)
next_within pairs n p is = ⊎_elim
    (λ (low : n < length pairs). ap (next_position pairs) (within_in pairs n low))
    (λ (high : length pairs ≤ n). absurd
    (let never : None ≡ Some p = sym (within_past pairs n high) ∙ is in cc)) (cases_lt n (length pairs))

-- and before one at a position comes the previous
previous_before : (n i p : ℕ) → previous_position (Some (n - i)) ≡ Some p
    → previous_position (previous_position (Some (n - i))) ≡ previous_position (Some (n - (i + 1)))
previous_before n i p is = ⊎_elim
    (λ (some : 0 < n - i). ap previous_position (previous_in (n - i) some)
    ∙ ap (λ k. previous_position (Some k)) (omega arith))
    (λ (none : n - i ≤ 0). absurd (
    let zero_so : n - i ≡ 0 = omega (arith, none) in
    let never : None ≡ Some p = sym (ap (λ k. previous_position (Some k)) zero_so) ∙ is in cc))
    (cases_lt 0 (n - i))

pub goes_on : (scan : Scan) (order : KeyOrder) (pairs : List Pair) (i p : ℕ)
    → place scan order pairs i ≡ Some p
    → next_in_scan scan order pairs (place scan order pairs i) ≡ place scan order pairs (i + 1)
goes_on First order pairs i p is = next_within pairs i p is
goes_on (From key) order pairs i p is =
    next_within pairs (count_before order.cmp key.now pairs + i) p is
    ∙ ap (λ n. position_within pairs n) (omega arith)
goes_on (Before key) order pairs i p is =
    previous_before (count_before order.cmp key.now pairs) i p is
goes_on Last order pairs i p is = previous_before (length pairs) i p is

-- ---- the pairs there

no_pair : Pair
no_pair = ([], [])

dropped : (pairs : List Pair) (n i : ℕ) → slice_get pairs (n + i) ≡ slice_get (drop n pairs) i
dropped pairs n i = ⊎_elim
    (λ (low : n + i < length pairs).
    let short : i < length (drop n pairs) = let len = length-drop n pairs in omega (arith, len, low) in
    slice_get-get_or pairs (n + i) no_pair low ∙ ap (λ one. Some one) (sym (get_or-drop n pairs i no_pair))
    ∙ sym (slice_get-get_or (drop n pairs) i no_pair short))
    (λ (high : length pairs ≤ n + i).
    let past : length (drop n pairs) ≤ i = let len = length-drop n pairs in omega (arith, len, high) in
    slice_get_past pairs (n + i) high ∙ sym (slice_get_past (drop n pairs) i past))
    (cases_lt (n + i) (length pairs))

turned : (pairs : List Pair) (n i : ℕ) → n ≤ length pairs
    → pair_at pairs (previous_position (Some (n - i))) ≡ slice_get (reverse (take n pairs)) i
turned pairs n i fits =
    let taken : length (take n pairs) ≡ n = length-take-le n pairs fits in
    let len : length (reverse (take n pairs)) ≡ n = length-reverse (take n pairs) ∙ taken in
    ⊎_elim
    (λ (low : i < n).
    let some : 0 < n - i = omega (arith, low) in
    let k : length (take n pairs) - 1 - i ≡ n - i - 1 = omega (arith, taken) in
    let inside : n - i - 1 < length pairs = omega (arith, fits, low) in
    ap (pair_at pairs) (previous_in (n - i) some)
    ∙ slice_get-get_or pairs (n - i - 1) no_pair inside
    ∙ ap (λ one. Some one) (sym (get_or-take n pairs (n - i - 1) no_pair (omega (arith, low))))
    ∙ ap (λ j. Some (get_or (take n pairs) j no_pair)) (sym k)
    ∙ ap (λ one. Some one) (sym (get_or-reverse (take n pairs) i no_pair (omega (arith, low, taken))))
    ∙ sym (slice_get-get_or (reverse (take n pairs)) i no_pair (omega (arith, low, len))))
    (λ (high : n ≤ i).
    let none : n - i ≡ 0 = omega (arith, high) in
    ap (λ k. pair_at pairs (previous_position (Some k))) none
    ∙ sym (slice_get_past (reverse (take n pairs)) i (omega (arith, high, len))))
    (cases_lt i n)

all_taken : (pairs : List Pair) → take (length pairs) pairs ≡ pairs
all_taken [] = refl
all_taken (pair ∷ pairs) = ap (λ rest. pair ∷ rest) (all_taken pairs)

pub at_place : (scan : Scan) (order : KeyOrder) (pairs : List Pair) (i : ℕ)
    → pair_at pairs (place scan order pairs i) ≡ slice_get (scanned order.cmp scan pairs) i
at_place First order pairs i = at_within pairs i
at_place (From key) order pairs i = at_within pairs (count_before order.cmp key.now pairs + i)
    ∙ dropped pairs (count_before order.cmp key.now pairs) i
at_place (Before key) order pairs i = turned pairs (count_before order.cmp key.now pairs) i
    (count_bound order.cmp key.now pairs)
at_place Last order pairs i = turned pairs (length pairs) i (omega arith)
    ∙ ap (λ list. slice_get (reverse list) i) (all_taken pairs)

-- ---- a scan

module _ {E T W : Type 0} (walk : WalkGhosts W E T) (scan : Scan) (old_world : E × T) (old : W) where
  -- where a scan is that has come to so many pairs of a list: at the last of them
  pub record IsAfter (order : KeyOrder) (pairs : List Pair) (i : ℕ) (given : List Pair)
      (world : E × T) (it : W) : Type 0 where
    pub given_are : given ≡ take i (scanned order.cmp scan pairs)
    pub at_last : 0 < i → (p : ℕ) × (place scan order pairs (i - 1) ≡ Some p)
        × walk.is_at world it order pairs (place scan order pairs (i - 1))

  -- so many pairs came
  pub record HaveCome (i : ℕ) (given : List Pair) (world : E × T) (it : W) : Type 0 where
    pub kept : walk.keeps old_world world
    pub excuses : (later : E × T) (status : Status) → walk.fails world it later status
        → walk.fails old_world old later status
    pub over : (order : KeyOrder) (pairs : List Pair) → walk.over old_world old order pairs
        → walk.over world it order pairs
    pub after : (order : KeyOrder) (pairs : List Pair) → walk.over old_world old order pairs
        → order.accepts (scan_key scan) ≡ true → IsAfter order pairs i given world it

-- ---- moves

module _ {E T W : Type 0} (walk : WalkGhosts W E T)
    (laws : WalkLaws walk.over walk.is_at walk.here walk.fails walk.keeps) where
  -- from where a move leads
  abbrev Origin : Type 1
  Origin = E × T → W → KeyOrder → List Pair → Option ℕ → Type 0

  abbrev Moves : {R : Type 0} → Origin → Way → E × T → W → Result R Status → E × T → W → Type 0
  Moves = MovesWalk walk.over walk.is_at walk.here walk.fails walk.keeps

  module _ {R : Type 0} {From Other : Origin} {way other : Way} {old_world : E × T} {old : W}
      {result : Result R Status} {new_world : E × T} {new : W} where
    -- a move that leads from some places leads from fewer, the same way
    pub from_fewer : ((order : KeyOrder) (pairs : List Pair) (position : Option ℕ)
        → Other old_world old order pairs position → From old_world old order pairs position
        × (way order pairs position ≡ other order pairs position))
        → Moves From way old_world old result new_world new
        → Moves Other other old_world old result new_world new
    from_fewer link m = record {
      ok = λ order pairs position at. let from = link order pairs position at in
          subst (λ p. OnOk result (walk.is_at new_world new order pairs p)) from.1
          (m.ok order pairs position from.0);
      same = m.same;
      err = m.err;
      none = m.none;
      kept = m.kept;
      cause = m.cause;
      excuses = m.excuses;
    }

  module _ {R S : Type 0} {From : Origin} {way : Way} {old_world : E × T} {old : W}
      {new_world : E × T} {new : W} where
    -- what a move returns beside where it led doesn't matter
    pub done : {u : R} {v : S} → Moves From way old_world old (Ok u) new_world new
        → Moves From way old_world old (Ok v) new_world new
    done m = record {
      ok = m.ok;
      same = m.same;
      err = m.err;
      none = m.none;
      kept = m.kept;
      cause = m.cause;
      excuses = m.excuses;
    }

    pub failed : {status : Status} → Moves {R = R} From way old_world old (Err status) new_world new
        → Moves {R = S} From way old_world old (Err status) new_world new
    failed m = record {
      ok = m.ok;
      same = m.same;
      err = m.err;
      none = m.none;
      kept = m.kept;
      cause = m.cause;
      excuses = m.excuses;
    }

  -- one move and then another
  pub two_moves : {R S : Type 0} {From Other : Origin} {first second both : Way}
      {old_world mid_world new_world : E × T} {old mid new : W} {u : R} {result : Result S Status}
      → ((order : KeyOrder) (pairs : List Pair) (position : Option ℕ)
      → From old_world old order pairs position
      → walk.is_at mid_world mid order pairs (first order pairs position)
      → Other mid_world mid order pairs (first order pairs position)
      × (second order pairs (first order pairs position) ≡ both order pairs position))
      → Moves From first old_world old (Ok u) mid_world mid
      → Moves Other second mid_world mid result new_world new
      → Moves From both old_world old result new_world new
  two_moves {S = S} {old_world = old_world} {mid_world = mid_world} {new_world = new_world} {old = old} {mid = mid} {new = new} {result = result} link m n = record {
    ok = λ order pairs position at.
        let to = link order pairs position at (m.ok order pairs position at) in
        subst (λ p. OnOk result (walk.is_at new_world new order pairs p)) to.1
        (n.ok order pairs _ to.0);
    same = λ order pairs over. n.same order pairs (m.same order pairs over);
    err = λ order pairs over. n.err order pairs (m.same order pairs over);
    none = n.none;
    kept = laws.keeps_on old_world mid_world new_world m.kept n.kept;
    cause = by result n.cause;
    excuses = λ later status fails. m.excuses later status (n.excuses later status fails);
  }
    where
      by : (r : Result S Status) → IfErr r (walk.fails mid_world mid new_world)
          → IfErr r (walk.fails old_world old new_world)
      by (Ok v) none = tt
      by (Err status) fails = m.excuses new_world status fails

  -- failing in the second
  pub first_fails : {R S : Type 0} {From : Origin} {first both : Way} {old_world new_world : E × T}
      {old new : W} {status : Status}
      → Moves {R = R} From first old_world old (Err status) new_world new
      → Moves {R = S} From both old_world old (Err status) new_world new
  first_fails m = record {
    ok = λ order pairs position at. tt;
    same = m.same;
    err = m.err;
    none = m.none;
    kept = m.kept;
    cause = m.cause;
    excuses = m.excuses;
  }

  -- ---- the last pair before a key

  -- where the pair at or after the key is the first that isn't before it, or there is none
  pub sought : (order : KeyOrder) (pairs : List Pair) (key : List ℕ) (world : E × T) (it : W)
      → walk.is_at world it order pairs (seek_position order.cmp pairs key)
      → ((b : Bool) → b ≡ is_some (walk.here it) → b ≡ true
      → previous_position (seek_position order.cmp pairs key)
      ≡ previous_position (Some (count_before order.cmp key pairs)))
      × ((b : Bool) → b ≡ is_some (walk.here it) → b ≡ false
      → last_position pairs ≡ previous_position (Some (count_before order.cmp key pairs)))
  sought order pairs key world it at =
      let n = count_before order.cmp key pairs in
      let here : walk.here it ≡ pair_at pairs (position_within pairs n) =
      laws.at_position world it order pairs (position_within pairs n) at in ⊎_elim
      (λ (low : n < length pairs). let within = within_in pairs n low in (
        λ b is so. ap previous_position within,
        λ b is so. absurd (let some : is_some (walk.here it) ≡ true = ap is_some (here
            ∙ ap (pair_at pairs) within ∙ slice_get-get_or pairs n no_pair low) in
            let never : false ≡ true = sym so ∙ is ∙ some in cc),
      ))
      (λ (high : length pairs ≤ n). let past = within_past pairs n high in (
        λ b is so. absurd (let none : is_some (walk.here it) ≡ false =
            ap is_some (here ∙ ap (pair_at pairs) past) in
            let never : true ≡ false = sym so ∙ is ∙ none in cc),
        λ b is so. last_before_end pairs ∙ ap (λ k. previous_position (Some k))
            (let bound = count_bound order.cmp key pairs in omega (arith, bound, high)),
      ))
      (cases_lt n (length pairs))

  -- ---- the moves of a scan

  module _ (scan : Scan) (old_world : E × T) (old : W) where
    pub none_came : HaveCome walk scan old_world old 0 [] old_world old
    none_came = record {
      kept = laws.keeps_itself old_world;
      excuses = λ later status fails. fails;
      over = λ order pairs over. over;
      after = λ order pairs over accepts. record {
        given_are = refl;
        at_last = λ never. absurd (omega (arith, never));
      };
    }

    module _ (i : ℕ) (given : List Pair) {world : E × T} {it : W} (came : HaveCome walk scan old_world old i given world it)
        {result : Result (Unit {0}) Status} {next_world : E × T} {next : W}
        (first : i ≡ 0 → Moves (BeginsScan walk scan) (begin_position scan) world it result
        next_world next)
        (further : 0 < i → Moves walk.is_at (next_in_scan scan) world it result next_world next)
      where
        any : (P : Type 0) → (i ≡ 0 → P) → (0 < i → P) → P
        any P zero_so more_so =
            ⊎_elim more_so (λ (none : i ≤ 0). zero_so (omega (arith, none))) (cases_lt 0 i)

        pub kept_on : walk.keeps old_world next_world
        kept_on = laws.keeps_on old_world world next_world came.kept
            (any _ (λ none. (first none).kept) (λ some. (further some).kept))

        excuses_on : (later : E × T) (status : Status) → walk.fails next_world next later status
            → walk.fails old_world old later status
        excuses_on later status fails = came.excuses later status
            (any _ (λ none. (first none).excuses later status fails)
            (λ some. (further some).excuses later status fails))

        -- the move that fails ends the scan
        pub move_failed : (status : Status) → result ≡ Err status
            → walk.keeps old_world next_world × walk.fails old_world old next_world status
        move_failed status is = (
          kept_on,
          came.excuses next_world status
              (any _ (λ none. subst (λ r. IfErr r (walk.fails world it next_world)) is (first none).cause)
              (λ some. subst (λ r. IfErr r (walk.fails world it next_world)) is (further some).cause)),
        )

        module _ {u : Unit {0}} (is_ok : result ≡ Ok u) where
          over_on : (order : KeyOrder) (pairs : List Pair) → walk.over old_world old order pairs
              → walk.over next_world next order pairs
          over_on order pairs over = any _
              (λ none. (first none).same order pairs (came.over order pairs over))
              (λ some. (further some).same order pairs (came.over order pairs over))

          -- it is at the next pair of the scan, or at none
          at_next : (order : KeyOrder) (pairs : List Pair) → walk.over old_world old order pairs
              → order.accepts (scan_key scan) ≡ true
              → walk.is_at next_world next order pairs (place scan order pairs i)
          at_next order pairs over accepts = any _
              (λ none. subst (λ p. walk.is_at next_world next order pairs p)
              (begins scan order pairs None ∙ ap (place scan order pairs) (sym none))
              (subst (λ r. OnOk r (walk.is_at next_world next order pairs
              (begin_position scan order pairs None))) is_ok
              ((first none).ok order pairs None (came.over order pairs over, accepts))))
              (λ some. let last = (came.after order pairs over accepts).at_last some in
              subst (λ p. walk.is_at next_world next order pairs p)
              (goes_on scan order pairs (i - 1) last.0 last.1
              ∙ ap (place scan order pairs) (omega (arith, some)))
              (subst (λ r. OnOk r (walk.is_at next_world next order pairs
              (next_in_scan scan order pairs (place scan order pairs (i - 1))))) is_ok
              ((further some).ok order pairs (place scan order pairs (i - 1)) last.2)))

          here_next : (order : KeyOrder) (pairs : List Pair) → walk.over old_world old order pairs
              → order.accepts (scan_key scan) ≡ true
              → walk.here next ≡ slice_get (scanned order.cmp scan pairs) i
          here_next order pairs over accepts =
              laws.at_position next_world next order pairs (place scan order pairs i)
              (at_next order pairs over accepts) ∙ at_place scan order pairs i

          -- one more pair
          pub one_more : (pair : Pair) → walk.here next ≡ Some pair
              → HaveCome walk scan old_world old (i + 1) (given ++ pair ∷ []) next_world next
          one_more pair here = record {
            kept = kept_on;
            excuses = excuses_on;
            over = over_on;
            after = λ order pairs over accepts.
                let list = scanned order.cmp scan pairs in
                let there : slice_get list i ≡ Some pair =
                sym (here_next order pairs over accepts) ∙ here in
                let inside = slice_get_within list i pair there in
                let back : i + 1 - 1 ≡ i = omega arith in
                let at = is_some_place pairs (place scan order pairs i)
                (at_place scan order pairs i ∙ there) in record {
                  given_are = ap (λ g. g ++ pair ∷ []) (came.after order pairs over accepts).given_are
                      ∙ ap (λ one. take i list ++ one ∷ [])
                      (sym (get_or_from_slice_get list i pair pair there))
                      ∙ sym (take_more list i pair inside);
                  at_last = λ more. rw back (at.0, at.1, at_next order pairs over accepts);
                };
          }
            where
              is_some_place : (pairs : List Pair) (position : Option ℕ)
                  → pair_at pairs position ≡ Some pair → (p : ℕ) × (position ≡ Some p)
              is_some_place pairs None is = absurd (let never : None ≡ Some pair = is in cc)
              is_some_place pairs (Some p) is = (p, refl)

          -- no pair is left
          pub none_left : walk.here next ≡ None → (order : KeyOrder) (pairs : List Pair)
              → walk.over old_world old order pairs → order.accepts (scan_key scan) ≡ true
              → (count : ℕ) → i < count → given ≡ take count (scanned order.cmp scan pairs)
          none_left here order pairs over accepts count low =
              let list = scanned order.cmp scan pairs in
              let past : length list ≤ i = past_end list i
              (sym (here_next order pairs over accepts) ∙ here) in
              (came.after order pairs over accepts).given_are ∙ take_all i list past
              ∙ sym (take_all count list (omega (arith, past, low)))
            where
              past_end : (list : List Pair) (n : ℕ) → slice_get list n ≡ None → length list ≤ n
              past_end list n none = ⊎_elim
                  (λ (inside : n < length list). absurd (let never : None ≡ Some (get_or list n no_pair)
                  = sym none ∙ slice_get-get_or list n no_pair inside in cc))
                  (λ (past : length list ≤ n). past) (cases_lt n (length list))

-- a list of copies with one more
pub one_copied : (copies : List (Vec ℕ × Vec ℕ)) (copy : Vec ℕ × Vec ℕ)
    → map bytes_of_copy copies ++ bytes_of_copy copy ∷ [] ≡ map bytes_of_copy (copies ++ copy ∷ [])
one_copied [] copy = refl
one_copied (first ∷ copies) copy =
    ap (λ rest. bytes_of_copy first ∷ rest) (one_copied copies copy)

-- where no copies came no pairs did
pub none_copied : (result : Result (Unit {0}) Status) (copies : List (Vec ℕ × Vec ℕ))
    → OnErr result (copies ≡ []) → OnErr result (map bytes_of_copy copies ≡ [])
none_copied (Ok nothing) copies none = tt
none_copied (Err status) copies none = ap (map bytes_of_copy) none

-- a scan that failed is one to which nothing came
pub failed_scan : {E T W : Type 0} (walk : WalkGhosts W E T) (scan : Scan) (old_world : E × T)
    (old : W) {count : ℕ} {given : List Pair} {new_world : E × T}
    (result : Result (Unit {0}) Status) → is_err result ≡ true
    → ScansWalk walk scan count given old_world old result new_world
    → ScansWalk walk scan count [] old_world old result new_world
    × (let none : List (Vec ℕ × Vec ℕ) = [] in OnErr result (none ≡ []))
failed_scan walk scan old_world old (Ok nothing) is_error scans =
    absurd (let never : false ≡ true = is_error in cc)
failed_scan walk scan old_world old (Err status) is_error scans = (
  record { ok = λ order pairs over accepts. tt; kept = scans.kept; cause = scans.cause },
  refl,
)
