-- The loop of a look over a walk's pairs: which were read, and what was found in them.
use Rattle.std.proofs.Common.{◌≡◌, ◌≢◌, ◌<◌, ◌≤◌, ◌+◌, ◌/◌, ◌^◌, inl, inr, ⊎_elim, ℕ, List, [], ◌∷◌, ◌++◌, length, true, false, Option, None, Some, Ok, Err, refl, sym, ◌∙◌, ap, subst, arith, append_assoc, append-nil}
use Rattle.std.specs.Prelude.{Contains, max}
use Rattle.std.proofs.Math.Nat.{mod-lt}
use Rattle.std.proofs.lemmas.List.{length-append, map-append}
use Rattle.std.proofs.lemmas.List.Elements.{Contains-append_right, Contains-push, Contains-push_cases}
use Rattle.leveldb_base.proofs.HistoryLemmas.{in_front, in_none}
use Rattle.leveldb_base.proofs.PositionLemmas.{at_seam, at_within, position_in, position_out}
use Rattle.leveldb_base.specs.Entries.{entries_of_pairs, entry_of_pair}
use Rattle.leveldb_base.specs.Error.{IsOutOfMemory}
use Rattle.leveldb_base.specs.History.{Entry, greatest}
use Rattle.leveldb_base.specs.KeyTypes.{sequence_part, tag_part}
use Rattle.leveldb_base.specs.Types.{Pair, next_position, pair_at, position_within}
use Rattle.leveldb_base.specs.declared.error.Status.{Status}
use Rattle.leveldb_base.specs.declared.error.StatusCode.TheVariants.{Corruption}
use Rattle.leveldb_iter.specs.Walk.{KeyOrder, WalkLaws}
use Rattle.leveldb_iter.specs.declared.walk.Walk.{Ghosts as WalkGhosts}
use Rattle.leveldb_repair.specs.LookOver.{AreLookedOver, LooksOver}
use Rattle.leveldb_repair.specs.declared.look_over.LookedOver.{LookedOver}
use Rattle.leveldb_repair.proofs.OneMergeLemmas.{one_merge_one_pair}

-- ---- what was found

greatest_push : (entries : List Entry) (entry : Entry)
    → greatest (entries ++ entry ∷ []) ≡ max (greatest entries) entry.sequence
greatest_push [] entry = omega arith
greatest_push (first ∷ entries) entry =
    ap (max first.sequence) (greatest_push entries entry) ∙ omega arith

some_pushed : (pairs : List Pair) (pair : Pair) → pairs ++ pair ∷ [] ≢ []
some_pushed pairs pair e =
    in_none pair (subst (λ (ps : List Pair). Contains ps pair) e (Contains-push pairs pair))

-- no pair
pub looked_none : AreLookedOver [] (record { last = 0; any = false })
looked_none = record {
  tagged = λ pair c. absurd (in_none pair c);
  last = refl;
  any = ((λ is. absurd (let f : false ≡ true = is in cc)), (λ some. absurd (some refl)));
}

-- and one more
pub looked_more : {read : List Pair} {found : LookedOver} (pair : Pair) → AreLookedOver read found
    → 8 ≤ length pair.0 → {sequence last : ℕ} → sequence ≡ sequence_part pair.0
    → last ≡ max found.last sequence
    → AreLookedOver (read ++ pair ∷ []) (record { last = last; any = true })
looked_more {read} {found} pair so_far tag {sequence} {last} number is = record {
  tagged = λ other c. ⊎_elim
      (λ (was : Contains read other). so_far.tagged other was)
      (λ (e : pair ≡ other). subst (λ (p : Pair). 8 ≤ length p.0) e tag)
      (Contains-push_cases read pair other c);
  last = is ∙ ap (λ n. max n sequence) so_far.last
      ∙ ap (max (greatest (entries_of_pairs read))) number
      ∙ sym (greatest_push (entries_of_pairs read) (entry_of_pair pair))
      ∙ ap greatest (sym (map-append entry_of_pair read (pair ∷ [])));
  any = ((λ is. some_pushed read pair), (λ some. refl));
}

-- the numbers of entries of pairs have 56 bits, and so has the greatest
greatest_fits : (pairs : List Pair) → greatest (entries_of_pairs pairs) < 2 ^ 56
greatest_fits [] = omega arith
greatest_fits (pair ∷ pairs) =
    let one : sequence_part pair.0 < 2 ^ 56 = mod-lt (tag_part pair.0 / 256) (omega arith) in
    let rest = greatest_fits pairs in omega (arith, one, rest)

pub looked_fits : {pairs : List Pair} {found : LookedOver} → AreLookedOver pairs found
    → found.last < 2 ^ 64
looked_fits {pairs} looked =
    let last = looked.last in let fits = greatest_fits pairs in omega (arith, last, fits)

-- ---- positions

some_none : {A : Type 0} {x : A} → Some x ≡ None → ⊥
some_none e = cc

-- the pair at the position after these is the next one
next_pair : (read rest : List Pair) (pair : Pair)
    → Some pair ≡ pair_at (read ++ rest) (position_within (read ++ rest) (length read))
    → (more : List Pair) × (rest ≡ pair ∷ more)
next_pair read [] pair there =
    let none : position_within (read ++ []) (length read) ≡ None =
    position_out (read ++ []) (length read) (omega (arith, length-append read [])) in
    absurd (some_none (there ∙ ap (pair_at (read ++ [])) none))
next_pair read (first ∷ rest) pair there =
    let is : Some pair ≡ Some first =
    there ∙ at_within (read ++ first ∷ rest) (length read) ∙ at_seam read rest first in
    (rest, ap (λ (p : Pair). p ∷ rest) (by is))
  where
    by : Some pair ≡ Some first → first ≡ pair
    by e = cc

-- and where there is none, these are all
no_pair : (read rest : List Pair)
    → None ≡ pair_at (read ++ rest) (position_within (read ++ rest) (length read)) → rest ≡ []
no_pair read [] none = refl
no_pair read (first ∷ rest) none =
    absurd (some_none (sym (at_seam read rest first)
    ∙ sym (at_within (read ++ first ∷ rest) (length read)) ∙ sym none))

-- the position after it is the next one
next_after : (read more : List Pair) (pair : Pair) → let pairs = read ++ pair ∷ more in
    next_position pairs (position_within pairs (length read))
    ≡ position_within pairs (length (read ++ pair ∷ []))
next_after read more pair =
    let pairs = read ++ pair ∷ more in
    let here : position_within pairs (length read) ≡ Some (length read) =
    position_in pairs (length read) (omega (arith, length-append read (pair ∷ more))) in
    let count : length (read ++ pair ∷ []) ≡ length read + 1 =
    omega (arith, length-append read (pair ∷ [])) in
    ap (next_position pairs) here ∙ ap (position_within pairs) (sym count)

-- ---- the loop

module _ {E T W : Type 0} (walk : WalkGhosts W E T) (start : E × T) (from : W) where
  -- the walk is in this list after these pairs, the first of it
  pub record HasRead (order : KeyOrder) (pairs read : List Pair) (at : E × T) (it : W) : Type 0 where
    pub rest : List Pair
    pub whole : pairs ≡ read ++ rest
    pub here : walk.is_at at it order pairs (position_within pairs (length read))

  -- These pairs were read, and this was found in them.
  pub record LooksSoFar (at : E × T) (it : W) (found : LookedOver) : Type 0 where
    pub read : List Pair
    pub looked : AreLookedOver read found
    pub walked : (order : KeyOrder) (pairs : List Pair) → walk.over start from order pairs
        → HasRead order pairs read at it
    pub kept : walk.keeps start at
    pub excuses : (later : E × T) (status : Status) → walk.fails at it later status
        → walk.fails start from later status

  -- the walk is at its first pair
  pub looks_begun : {at : E × T} {it : W} {found : LookedOver} → AreLookedOver [] found
      → walk.keeps start at
      → ((order : KeyOrder) (pairs : List Pair) → walk.over start from order pairs
      → walk.is_at at it order pairs (position_within pairs 0))
      → ((later : E × T) (status : Status) → walk.fails at it later status
      → walk.fails start from later status)
      → LooksSoFar at it found
  looks_begun looked kept begins excuses = record {
    read = [];
    looked = looked;
    walked = λ order pairs over. record { rest = pairs; whole = refl; here = begins order pairs over };
    kept = kept;
    excuses = excuses;
  }

  -- it doesn't come to it
  pub looks_unbegun : {end : E × T} {now : W} {status : Status}
      → ((order : KeyOrder) (pairs : List Pair) → walk.over start from order pairs
      → walk.over end now order pairs)
      → walk.keeps start end → walk.fails start from end status
      → ((later : E × T) (why : Status) → walk.fails end now later why
      → walk.fails start from later why)
      → LooksOver walk start from (Err status) end now
  looks_unbegun same kept failed excuses = record {
    ok = tt;
    one = tt;
    same = same;
    kept = kept;
    cause = inl failed;
    excuses = excuses;
  }

  module _ (laws : WalkLaws walk.over walk.is_at walk.here walk.fails walk.keeps) {at : E × T}
      {it : W} {found : LookedOver} (so_far : LooksSoFar at it found) where
    same_lists : (order : KeyOrder) (pairs : List Pair) → walk.over start from order pairs
        → walk.over at it order pairs
    same_lists order pairs over =
        let past = so_far.walked order pairs over in
        laws.over_list at it order pairs (position_within pairs (length so_far.read)) past.here

    module _ {pair : Pair} (here : Some pair ≡ walk.here it) (order : KeyOrder) (pairs : List Pair)
        (over : walk.over start from order pairs) where
      more_of : (more : List Pair) × (pairs ≡ so_far.read ++ pair ∷ more)
      more_of =
          let past = so_far.walked order pairs over in
          let position = position_within pairs (length so_far.read) in
          let there : Some pair ≡ pair_at pairs position =
          here ∙ laws.at_position at it order pairs position past.here in
          let next = next_pair so_far.read past.rest pair
          (subst (λ ps. Some pair ≡ pair_at ps (position_within ps (length so_far.read))) past.whole there) in
          (next.0, past.whole ∙ ap (λ rest. so_far.read ++ rest) next.1)

    -- one pair more was read, and the walk is at the next
    pub looks_next : {end : E × T} {now : W} {pair : Pair} {new : LookedOver}
        → Some pair ≡ walk.here it → AreLookedOver (so_far.read ++ pair ∷ []) new
        → walk.keeps at end
        → ((order : KeyOrder) (pairs : List Pair) (position : Option ℕ)
        → walk.is_at at it order pairs position
        → walk.is_at end now order pairs (next_position pairs position))
        → ((later : E × T) (status : Status) → walk.fails end now later status
        → walk.fails at it later status)
        → LooksSoFar end now new
    looks_next {end} {now} {pair} here looked kept moved excuses = record {
      read = so_far.read ++ pair ∷ [];
      looked = looked;
      walked = λ order pairs over.
          let past = so_far.walked order pairs over in
          let more = more_of here order pairs over in
          let whole = more.1 in
          let after : next_position pairs (position_within pairs (length so_far.read))
          ≡ position_within pairs (length (so_far.read ++ pair ∷ []))
          = subst (λ ps. next_position ps (position_within ps (length so_far.read))
          ≡ position_within ps (length (so_far.read ++ pair ∷ []))) (sym whole)
          (next_after so_far.read more.0 pair) in
          record {
            rest = more.0;
            whole = whole ∙ sym (append_assoc so_far.read (pair ∷ []) more.0);
            here = subst (walk.is_at end now order pairs) after
                (moved order pairs (position_within pairs (length so_far.read)) past.here);
          };
      kept = laws.keeps_on start at end so_far.kept kept;
      excuses = λ later status failed. so_far.excuses later status (excuses later status failed);
    }

    -- the walk doesn't go on
    pub looks_unmoved : {end : E × T} {now : W} {status : Status}
        → ((order : KeyOrder) (pairs : List Pair) → walk.over at it order pairs
        → walk.over end now order pairs)
        → walk.keeps at end → walk.fails at it end status
        → ((later : E × T) (why : Status) → walk.fails end now later why
        → walk.fails at it later why)
        → LooksOver walk start from (Err status) end now
    looks_unmoved {end} {status = status} same kept failed excuses = record {
      ok = tt;
      one = tt;
      same = λ order pairs over. same order pairs (same_lists order pairs over);
      kept = laws.keeps_on start at end so_far.kept kept;
      cause = inl (so_far.excuses end status failed);
      excuses = λ later why failing. so_far.excuses later why (excuses later why failing);
    }

    -- a key has no tag
    pub looks_tagless : {pair : Pair} {status : Status} → Some pair ≡ walk.here it
        → length pair.0 < 8 → status.code ≡ Corruption
        → LooksOver walk start from (Err status) at it
    looks_tagless {pair} here short code = record {
      ok = tt;
      one = tt;
      same = same_lists;
      kept = so_far.kept;
      cause = inr (inr (
        code,
        (
          pair,
          short,
          λ order pairs over.
              let more = more_of here order pairs over in
              subst (λ ps. Contains ps pair) (sym more.1)
              (Contains-append_right so_far.read (pair ∷ more.0) pair (in_front pair more.0)),
        ),
      ));
      excuses = so_far.excuses;
    }

    -- memory is out before the walk comes to its end
    pub looks_endless : {status : Status} → IsOutOfMemory status
        → LooksOver walk start from (Err status) at it
    looks_endless memory = record {
      ok = tt;
      one = tt;
      same = same_lists;
      kept = so_far.kept;
      cause = inr (inl memory);
      excuses = so_far.excuses;
    }

    -- the walk is at its end
    pub looks_ended : None ≡ walk.here it → LooksOver walk start from (Ok found) at it
    looks_ended here =
        let whole : (order : KeyOrder) (pairs : List Pair) → walk.over start from order pairs
        → pairs ≡ so_far.read = λ order pairs over.
        let past = so_far.walked order pairs over in
        let position = position_within pairs (length so_far.read) in
        let none : None ≡ pair_at pairs position =
        here ∙ laws.at_position at it order pairs position past.here in
        past.whole ∙ ap (λ rest. so_far.read ++ rest) (no_pair so_far.read past.rest
        (subst (λ ps. None ≡ pair_at ps (position_within ps (length so_far.read))) past.whole none))
        ∙ append-nil so_far.read in
        record {
          ok = (so_far.read, so_far.looked, whole);
          one = λ order lists pairs o merge over. one_merge_one_pair o lists pairs merge
              (λ those is. whole order those (over those is)
              ∙ sym (whole order pairs (over pairs merge)));
          same = same_lists;
          kept = so_far.kept;
          cause = tt;
          excuses = so_far.excuses;
        }
