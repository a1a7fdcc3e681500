-- A position among all pairs of a table, by the line of the index and the position in that line's
-- block.
use Rattle.std.proofs.Common.{◌≡◌, ◌≢◌, ℕ, zero, suc, ◌+◌, ◌-◌, ◌<◌, ◌≤◌, Bool, true, false, nat_lt, if◌then◌else◌, List, [], ◌∷◌, ◌++◌, length, map, slice_get, Option, None, Some, inl, inr, refl, sym, ◌∙◌, ap, subst, arith, append_assoc, length-append, get_or, Result, Ok, Err}
use Rattle.std.proofs.lemmas.Bool.{cases_lt}
use Rattle.std.proofs.lemmas.Bool.Decides.{nat_tests}
use Rattle.std.proofs.lemmas.Grind.{flat_map-append}
use Rattle.std.proofs.lemmas.List.{length-map}
use Rattle.std.proofs.lemmas.Option.{slice_get_past, slice_get-get_or}
use Rattle.std.specs.List.{AllByRecursion}
use Rattle.std.specs.Ordering.{is_lt, ordering_reverse}
use Rattle.std.specs.declared.cmp.Ordering.{Ordering}
use Rattle.std.specs.declared.cmp.Ordering.TheVariants.{Less, Equal, Greater}
use Rattle.std.specs.Prelude.{OnOk, OnErr, IsErrAnd, is_some, IfOk}
use Rattle.leveldb_base.specs.Cmp.{IsPreorderOn}
use Rattle.leveldb_base.specs.Types.{Pair, position_within, next_position, previous_position, count_before, seek_position, pair_at, IsPosition, last_position}
use Rattle.leveldb_base.specs.BlockHandle.{Handle, handle_bytes}
use Rattle.leveldb_base.proofs.BlockHandleLemmas.{one_handle}
use Rattle.leveldb_base.specs.declared.cmp.Cmp.{Ghosts as CmpGhosts}
use Rattle.leveldb_base.specs.declared.error.Status.{Status}
use Rattle.leveldb_env.specs.Compressor.{Codings, Decodes}
use Rattle.leveldb_env.specs.declared.env.Env.{Ghosts as EnvGhosts}
use Rattle.leveldb_table.specs.Table.{Part, IsPart, AreParted, IsAtOrAfterAll, IsBeforeAll, index_pair, first_from, named_part, AreAccepted, HasBlockAt}
use Rattle.leveldb_table.specs.TableReaderBlocks.{IsAfterLine, IsBlockOf, line_of, IsIndexed, MovesFromLine, let_position}
use Rattle.leveldb_table.specs.TableReader.{pairs_in, HasParts, found_in}
use Rattle.leveldb_table.specs.BlockWalk.{pairs_over, position_over, BlockPosition}
use Rattle.leveldb_table.specs.TableReaderWalk.{TablePlace, IsAtPair, IsAtPairOrNone, IsAtPosition, MovesInTable, Outcome, inner_block, inner_pairs, inner_position, table_position, current_of}
use Rattle.leveldb_table.specs.Cache.{Cached}
use Rattle.leveldb_table.specs.Block.{BlockRead, HasEntries, pairs_of}
use Rattle.leveldb_table.specs.BlockLaws.{one_block, position_within-is}
use Rattle.leveldb_table.specs.TableBlock.{LacksBlock, LacksLine, unnamed, lacking, IsNamedBy, NamesNone}
use Rattle.leveldb_table.specs.declared.block_cache.CachedBlock.{CachedBlock}
use Rattle.leveldb_table.proofs.TableLemmas.{all_left, all_right, all_with, then_less, turned_from, has_one_block, OnOk-with}
use Rattle.leveldb_table.proofs.TableBlockLemmas.{lacks_none, reads_weaker}

-- ---- positions

pub position_in : (pairs : List Pair) (n : ℕ) → n < length pairs → position_within pairs n ≡ Some n
position_in pairs n h = let t : nat_lt n (length pairs) ≡ true = grind (arith, nat_tests) in ap (λ b. if b then Some n else None) t

pub position_out : (pairs : List Pair) (n : ℕ) → length pairs ≤ n → position_within pairs n ≡ None
position_out pairs n h = let t : nat_lt n (length pairs) ≡ false = grind (arith, nat_tests) in ap (λ b. if b then Some n else None) t

pub position_some : (pairs : List Pair) (n k : ℕ) → position_within pairs n ≡ Some k → (k ≡ n) × (n < length pairs)
position_some pairs n k e =
    elim (cases_lt n (length pairs)) [
      | inl less ↦ let there = position_in pairs n less in (cc, less)
      | inr more ↦ let none = position_out pairs n more in cc
    ]

pub position_none : (pairs : List Pair) (n : ℕ) → position_within pairs n ≡ None → length pairs ≤ n
position_none pairs n e =
    elim (cases_lt n (length pairs)) [
      | inl less ↦ let there = position_in pairs n less in cc
      | inr more ↦ more
    ]

-- ---- lines

-- the data block at a line, with those before it and after it
pub record IsLineOfPart (parts : List Part) (i : ℕ) (part : Part) : Type 0 where
  pub before : List Part
  pub after : List Part
  pub parted : parts ≡ before ++ part ∷ after
  pub count : length before ≡ i

-- a line of the index is that of a data block
pub part_at : (parts : List Part) (i : ℕ) (line : Pair) → slice_get (map index_pair parts) i ≡ Some line → (part : Part) × (slice_get parts i ≡ Some part) × (line ≡ index_pair part)
part_at [] i line e = absurd cc
part_at (part ∷ parts) zero line e = (part, refl, cc)
part_at (part ∷ parts) (suc i) line e = part_at parts i line e

pub split_at : (parts : List Part) (i : ℕ) (part : Part) → slice_get parts i ≡ Some part → IsLineOfPart parts i part
split_at [] i part e = absurd cc
split_at (first ∷ parts) zero part e = record { before = []; after = parts; parted = let same : first ≡ part = cc in ap (λ z. z ∷ parts) same; count = refl }
split_at (first ∷ parts) (suc i) part e =
    let rest = split_at parts i part e in
    record { before = first ∷ rest.before; after = rest.after; parted = ap (λ z. first ∷ z) rest.parted; count = ap suc rest.count }

pub all_at : (P : Part → Type 0) (parts : List Part) (i : ℕ) (part : Part) → slice_get parts i ≡ Some part → AllByRecursion P parts → P part
all_at P [] i part e all = absurd cc
all_at P (first ∷ parts) zero part e all = let same : first ≡ part = cc in subst P same all.0
all_at P (first ∷ parts) (suc i) part e all = all_at P parts i part e all.1

-- none of a file's data blocks is empty
pub parts_some : {codings : Codings} {accepts : List ℕ → Bool} {cmp : List ℕ → List ℕ → Ordering} {bytes : List ℕ} {parts : List Part} → HasParts codings accepts cmp bytes parts → AllByRecursion (λ part. part.pairs ≢ []) parts
parts_some {codings} {cmp} {bytes} {parts} has = all_with (IsPart (Decodes codings) cmp bytes) (λ part. part.pairs ≢ []) (λ part is. is.some) parts has.each

-- ---- where a walk is

slice_left : {X : Type 0} (xs ys : List X) (i : ℕ) → i < length xs → slice_get (xs ++ ys) i ≡ slice_get xs i
slice_left [] ys i less = absurd (omega (arith, less))
slice_left (x ∷ xs) ys zero less = refl
slice_left (x ∷ xs) ys (suc i) less = slice_left xs ys i (omega (arith, less))

slice_after : {X : Type 0} (xs ys : List X) (i : ℕ) → slice_get (xs ++ ys) (length xs + i) ≡ slice_get ys i
slice_after [] ys i = let e : 0 + i ≡ i = omega arith in ap (slice_get ys) e
slice_after (x ∷ xs) ys i = let e : suc (length xs) + i ≡ suc (length xs + i) = omega arith in ap (slice_get (x ∷ (xs ++ ys))) e ∙ slice_after xs ys i

-- all pairs, cut at a data block
pub pairs_cut : (before after : List Part) → pairs_in (before ++ after) ≡ pairs_in before ++ pairs_in after
pairs_cut before after = flat_map-append (λ part. part.pairs) before after

module _ {parts : List Part} {line : Option ℕ} {pairs : List Pair} {position : Option ℕ} {n : ℕ} (s : IsAtPair parts line pairs position n) where
  all_pairs : pairs_in parts ≡ pairs_in s.before ++ (s.part.pairs ++ pairs_in s.after)
  all_pairs = ap pairs_in s.parted ∙ pairs_cut s.before (s.part ∷ s.after)

  count_all : length (pairs_in parts) ≡ length (pairs_in s.before) + (length s.part.pairs + length (pairs_in s.after))
  count_all = omega (arith, ap length all_pairs, length-append (pairs_in s.before) (s.part.pairs ++ pairs_in s.after), length-append s.part.pairs (pairs_in s.after))

  pub within_in : n < length (pairs_in parts)
  within_in = let within = s.within in let counts = s.counts in omega (arith, within, counts, count_all)

  -- the pair of the block is that of the table
  pub current_in : pair_at pairs position ≡ pair_at (pairs_in parts) (Some n)
  current_in =
      let inner : pair_at pairs position ≡ slice_get s.part.pairs s.inner = ap (λ z. pair_at z position) s.same ∙ ap (pair_at s.part.pairs) s.at_position in
      let outer : slice_get (pairs_in parts) n ≡ slice_get (s.part.pairs ++ pairs_in s.after) s.inner =
      ap (λ z. slice_get z n) all_pairs ∙ ap (slice_get (pairs_in s.before ++ (s.part.pairs ++ pairs_in s.after))) s.counts ∙ slice_after (pairs_in s.before) (s.part.pairs ++ pairs_in s.after) s.inner in
      inner ∙ sym (slice_left s.part.pairs (pairs_in s.after) s.inner s.within) ∙ sym outer

pub current_at : (parts : List Part) (line : Option ℕ) (pairs : List Pair) (position at : Option ℕ) → IsAtPairOrNone parts line pairs position at → pair_at pairs position ≡ pair_at (pairs_in parts) at
current_at parts line pairs position None s = ap (pair_at pairs) s
current_at parts line pairs position (Some n) s = current_in s

-- ---- forward

split_first : (parts : List Part) (part : Part) → slice_get parts 0 ≡ Some part → (rest : List Part) × (parts ≡ part ∷ rest)
split_first [] part e = absurd cc
split_first (first ∷ parts) part e = (parts, let same : first ≡ part = cc in ap (λ z. z ∷ parts) same)

some_long : (pairs : List Pair) → pairs ≢ [] → 0 < length pairs
some_long [] some = absurd (some refl)
some_long (pair ∷ pairs) some = omega arith

long_none : (parts : List Part) → length parts ≡ 0 → parts ≡ []
long_none [] e = refl
long_none (part ∷ parts) e = cc

module _ {parts : List Part} {line : Option ℕ} {pairs : List Pair} {position : Option ℕ} {n : ℕ} (s : IsAtPair parts line pairs position n) where
  -- the next position of the block, by the position in it
  next_inner : next_position pairs position ≡ position_within s.part.pairs (s.inner + 1)
  next_inner = ap (λ z. next_position z position) s.same ∙ ap (next_position s.part.pairs) s.at_position

  -- after the last pair of a block is the position after that block
  pub after_block : next_position pairs position ≡ None → IsAfterLine parts line (next_position (pairs_in parts) (Some n))
  after_block e =
      let past = position_none s.part.pairs (s.inner + 1) (sym next_inner ∙ e) in
      let within = s.within in
      let counts = s.counts in
      let front = s.before ++ s.part ∷ [] in
      let more : length front ≡ length s.before + 1 = length-append s.before (s.part ∷ []) in
      let here : pairs_in front ≡ pairs_in s.before ++ (s.part.pairs ++ []) = pairs_cut s.before (s.part ∷ []) in
      let passed : n + 1 ≡ length (pairs_in front) =
      omega (arith, past, within, counts, ap length here, length-append (pairs_in s.before) (s.part.pairs ++ []), length-append s.part.pairs []) in
      record {
        before = front;
        after = s.after;
        parted = s.parted ∙ sym (append_assoc s.before (s.part ∷ []) s.after);
        next = ap (next_position (map index_pair parts)) s.at_line ∙ ap (position_within (map index_pair parts)) (sym more);
        to = ap (position_within (pairs_in parts)) passed;
      }

  pub next_in : (k : ℕ) → next_position pairs position ≡ Some k → IsAtPairOrNone parts line pairs (Some k) (next_position (pairs_in parts) (Some n))
  next_in k e =
      let there = position_some s.part.pairs (s.inner + 1) k (sym next_inner ∙ e) in
      let same = there.0 in
      let less = there.1 in
      let counts = s.counts in
      let is_there : IsAtPair parts line pairs (Some k) (n + 1) = record {
        before = s.before;
        part = s.part;
        after = s.after;
        inner = s.inner + 1;
        parted = s.parted;
        at_line = s.at_line;
        same = s.same;
        at_position = ap (λ z. Some z) same;
        within = less;
        counts = omega (arith, counts);
      } in
      subst (IsAtPairOrNone parts line pairs (Some k)) (sym (position_in (pairs_in parts) (n + 1) (within_in is_there))) is_there

-- no data blocks have no pairs
no_pairs : (parts : List Part) → length parts ≡ 0 → length (pairs_in parts) ≡ 0
no_pairs [] e = refl
no_pairs (part ∷ parts) e = absurd (omega (arith, e))

module _ {parts : List Part} {line position : Option ℕ} (p : IsAfterLine parts line position) where
  -- the next line is that of the first block after
  at_after : (i : ℕ) → next_position (map index_pair parts) line ≡ Some i → (i ≡ length p.before) × (i < length parts)
  at_after i e =
      let there = position_some (map index_pair parts) (length p.before) i (sym p.next ∙ e) in
      let same = there.0 in
      let less = there.1 in
      (same, omega (arith, same, less, length-map parts index_pair))

  -- to the first pair of the next block
  pub to_block : (i : ℕ) (part : Part) → next_position (map index_pair parts) line ≡ Some i → slice_get parts i ≡ Some part → part.pairs ≢ [] → IsAtPairOrNone parts (Some i) part.pairs (Some 0) position
  to_block i part e there some =
      let at = at_after i e in
      let first : slice_get p.after 0 ≡ Some part =
      sym (slice_after p.before p.after 0) ∙ (let same : length p.before + 0 ≡ i = let m = at.0 in omega (arith, m) in ap (slice_get (p.before ++ p.after)) same)
      ∙ ap (λ z. slice_get z i) (sym p.parted) ∙ there in
      let rest = split_first p.after part first in
      let is_there : IsAtPair parts (Some i) part.pairs (Some 0) (length (pairs_in p.before)) = record {
        before = p.before;
        part = part;
        after = rest.0;
        inner = 0;
        parted = p.parted ∙ ap (λ z. p.before ++ z) rest.1;
        at_line = ap (λ z. Some z) at.0;
        same = refl;
        at_position = refl;
        within = some_long part.pairs some;
        counts = omega arith;
      } in
      subst (IsAtPairOrNone parts (Some i) part.pairs (Some 0)) (sym (p.to ∙ position_in (pairs_in parts) (length (pairs_in p.before)) (within_in is_there))) is_there

  -- without a next line there is no pair after
  pub no_block_after : next_position (map index_pair parts) line ≡ None → position ≡ None
  no_block_after e =
      let past = position_none (map index_pair parts) (length p.before) (sym p.next ∙ e) in
      let all : length (pairs_in p.after) ≡ 0 = no_pairs p.after (omega (arith, past, length-map parts index_pair, ap length p.parted, length-append p.before p.after)) in
      let many = ap length (ap pairs_in p.parted ∙ pairs_cut p.before p.after) in
      p.to ∙ position_out (pairs_in parts) (length (pairs_in p.before)) (omega (arith, all, many, length-append (pairs_in p.before) (pairs_in p.after)))

-- ---- looking up

-- the pair at a position, if there is one
at_within : (pairs : List Pair) (n : ℕ) → pair_at pairs (position_within pairs n) ≡ slice_get pairs n
at_within pairs n =
    elim (cases_lt n (length pairs)) [
      | inl less ↦ ap (pair_at pairs) (position_in pairs n less)
      | inr more ↦ ap (pair_at pairs) (position_out pairs n more) ∙ sym (slice_get_past pairs n more)
    ]

step_first : (cmp : List ℕ → List ℕ → Ordering) (key : List ℕ) (pair : Pair) (pairs : List Pair) (b : Bool) → first_from cmp key pairs ≡ slice_get pairs (count_before cmp key pairs)
    → elim b [ true ↦ first_from cmp key pairs | false ↦ Some pair ] ≡ slice_get (pair ∷ pairs) (if b then count_before cmp key pairs + 1 else 0)
step_first cmp key pair pairs true e = let more : count_before cmp key pairs + 1 ≡ suc (count_before cmp key pairs) = omega arith in e ∙ ap (slice_get (pair ∷ pairs)) (sym more)
step_first cmp key pair pairs false e = refl

first_counted : (cmp : List ℕ → List ℕ → Ordering) (key : List ℕ) (pairs : List Pair) → first_from cmp key pairs ≡ slice_get pairs (count_before cmp key pairs)
first_counted cmp key [] = refl
first_counted cmp key (pair ∷ pairs) = step_first cmp key pair pairs (is_lt (cmp pair.0 key)) (first_counted cmp key pairs)

pub first_is : (cmp : List ℕ → List ℕ → Ordering) (key : List ℕ) (pairs : List Pair) → first_from cmp key pairs ≡ pair_at pairs (seek_position cmp pairs key)
first_is cmp key pairs = first_counted cmp key pairs ∙ sym (at_within pairs (count_before cmp key pairs))

step_named : (cmp : List ℕ → List ℕ → Ordering) (key : List ℕ) (part : Part) (parts : List Part) (b : Bool) → named_part cmp key parts ≡ slice_get parts (count_before cmp key (map index_pair parts))
    → elim b [ true ↦ named_part cmp key parts | false ↦ Some part ] ≡ slice_get (part ∷ parts) (if b then count_before cmp key (map index_pair parts) + 1 else 0)
step_named cmp key part parts true e =
    let more : count_before cmp key (map index_pair parts) + 1 ≡ suc (count_before cmp key (map index_pair parts)) = omega arith in e ∙ ap (slice_get (part ∷ parts)) (sym more)
step_named cmp key part parts false e = refl

pub named_counted : (cmp : List ℕ → List ℕ → Ordering) (key : List ℕ) (parts : List Part) → named_part cmp key parts ≡ slice_get parts (count_before cmp key (map index_pair parts))
named_counted cmp key [] = refl
named_counted cmp key (part ∷ parts) = step_named cmp key part parts (is_lt (cmp part.index_key key)) (named_counted cmp key parts)

pub named_at : (cmp : List ℕ → List ℕ → Ordering) (key : List ℕ) (parts : List Part) (i : ℕ) (part : Part) → seek_position cmp (map index_pair parts) key ≡ Some i → slice_get parts i ≡ Some part → named_part cmp key parts ≡ Some part
named_at cmp key parts i part e there =
    let same = (position_some (map index_pair parts) (count_before cmp key (map index_pair parts)) i e).0 in
    named_counted cmp key parts ∙ ap (slice_get parts) (sym same) ∙ there

pub named_none : (cmp : List ℕ → List ℕ → Ordering) (key : List ℕ) (parts : List Part) → seek_position cmp (map index_pair parts) key ≡ None → named_part cmp key parts ≡ None
named_none cmp key parts e =
    let past = position_none (map index_pair parts) (count_before cmp key (map index_pair parts)) e in
    named_counted cmp key parts ∙ slice_get_past parts (count_before cmp key (map index_pair parts)) (omega (arith, past, length-map parts index_pair))

-- ---- counting keys before one

less_lt : (r : Ordering) → r ≡ Less → is_lt r ≡ true
less_lt Less e = refl
less_lt Equal e = cc
less_lt Greater e = cc

lt_less : (r : Ordering) → is_lt r ≡ true → r ≡ Less
lt_less Less e = refl
lt_less Equal e = cc
lt_less Greater e = cc

not_lt : (r : Ordering) → is_lt r ≡ false → r ≢ Less
not_lt Less e f = cc
not_lt Equal e f = cc
not_lt Greater e f = cc

count_true : (b : Bool) (n : ℕ) → b ≡ true → (if b then n + 1 else 0) ≡ n + 1
count_true true n e = refl
count_true false n e = cc

less_not_before : {accepts : List ℕ → Bool} {cmp : List ℕ → List ℕ → Ordering} → IsPreorderOn accepts cmp → (a b : List ℕ) → accepts a ≡ true → accepts b ≡ true → cmp a b ≡ Less → is_lt (cmp b a) ≡ false
less_not_before {cmp = cmp} order a b ha hb e = ap is_lt (order.turned b a hb ha ∙ ap ordering_reverse e)

module _ (cmp : List ℕ → List ℕ → Ordering) (key : List ℕ) where
  -- keys before the key, and others after them
  count_over : (xs ys : List Pair) → AllByRecursion (λ pair. is_lt (cmp pair.0 key) ≡ true) xs → count_before cmp key (xs ++ ys) ≡ length xs + count_before cmp key ys
  count_over [] ys all = omega arith
  count_over (x ∷ xs) ys all = omega (arith, count_true (is_lt (cmp x.0 key)) (count_before cmp key (xs ++ ys)) all.0, count_over xs ys all.1)

  step_left : (x : Pair) (xs ys : List Pair) (b : Bool) → (count_before cmp key xs < length xs → count_before cmp key (xs ++ ys) ≡ count_before cmp key xs)
      → (if b then count_before cmp key xs + 1 else 0) < suc (length xs) → (if b then count_before cmp key (xs ++ ys) + 1 else 0) ≡ (if b then count_before cmp key xs + 1 else 0)
  step_left x xs ys true rest less = ap (λ z. z + 1) (rest (omega (arith, less)))
  step_left x xs ys false rest less = refl

  -- where one isn't before it, those after aren't counted
  count_left : (xs ys : List Pair) → count_before cmp key xs < length xs → count_before cmp key (xs ++ ys) ≡ count_before cmp key xs
  count_left [] ys less = absurd (omega (arith, less))
  count_left (x ∷ xs) ys less = step_left x xs ys (is_lt (cmp x.0 key)) (count_left xs ys) less

  step_all : (x : Pair) (xs : List Pair) (b : Bool) → (length xs ≤ count_before cmp key xs → AllByRecursion (λ pair. is_lt (cmp pair.0 key) ≡ true) xs) → is_lt (cmp x.0 key) ≡ b
      → suc (length xs) ≤ (if b then count_before cmp key xs + 1 else 0) → AllByRecursion (λ pair. is_lt (cmp pair.0 key) ≡ true) (x ∷ xs)
  step_all x xs true rest e more = (e, rest (omega (arith, more)))
  step_all x xs false rest e more = absurd (omega (arith, more))

  -- all are counted where none is at or after it
  all_counted : (xs : List Pair) → length xs ≤ count_before cmp key xs → AllByRecursion (λ pair. is_lt (cmp pair.0 key) ≡ true) xs
  all_counted [] more = tt
  all_counted (x ∷ xs) more = step_all x xs (is_lt (cmp x.0 key)) (all_counted xs) refl more

  count_none : (xs : List Pair) → xs ≢ [] → AllByRecursion (λ pair. is_lt (cmp pair.0 key) ≡ false) xs → (ys : List Pair) → count_before cmp key (xs ++ ys) ≡ 0
  count_none [] some all ys = absurd (some refl)
  count_none (x ∷ xs) some all ys = ap (λ b. if b then count_before cmp key (xs ++ ys) + 1 else 0) all.0

module _ {accepts : List ℕ → Bool} {cmp : List ℕ → List ℕ → Ordering} (order : IsPreorderOn accepts cmp) (key : List ℕ) (fit : accepts key ≡ true) where
  -- keys up to an index key before the key are before it too
  before_by : (index_key : List ℕ) (pairs : List Pair) → accepts index_key ≡ true → AllByRecursion (λ pair. accepts pair.0 ≡ true) pairs → IsAtOrAfterAll cmp index_key pairs → cmp index_key key ≡ Less
      → AllByRecursion (λ pair. is_lt (cmp pair.0 key) ≡ true) pairs
  before_by index_key [] hi all up e = tt
  before_by index_key (pair ∷ pairs) hi all up e =
      (less_lt (cmp pair.0 key) (then_less order pair.0 index_key key all.0 hi fit (turned_from order pair.0 index_key all.0 hi up.0) e), before_by index_key pairs hi all.1 up.1 e)

  -- keys after an index key at or after the key are after it
  after_by : (index_key : List ℕ) (pairs : List Pair) → accepts index_key ≡ true → AllByRecursion (λ pair. accepts pair.0 ≡ true) pairs → IsBeforeAll cmp index_key pairs → cmp index_key key ≢ Less
      → AllByRecursion (λ pair. is_lt (cmp pair.0 key) ≡ false) pairs
  after_by index_key [] hi all beyond e = tt
  after_by index_key (pair ∷ pairs) hi all beyond e =
      (less_not_before order key pair.0 fit all.0 (then_less order key index_key pair.0 fit hi all.0 (turned_from order key index_key fit hi e) beyond.0), after_by index_key pairs hi all.1 beyond.1 e)

-- ---- seeking

parted_rest : (cmp : List ℕ → List ℕ → Ordering) (part : Part) (parts : List Part) → AreParted cmp (part ∷ parts) → AreParted cmp parts
parted_rest cmp part [] h = tt
parted_rest cmp part (next ∷ parts) h = h.2

parted_here : (cmp : List ℕ → List ℕ → Ordering) (part : Part) (parts : List Part) → AreParted cmp (part ∷ parts) → IsAtOrAfterAll cmp part.index_key part.pairs
parted_here cmp part [] h = h
parted_here cmp part (next ∷ parts) h = h.0

-- the index key of the first of these blocks is at or after the key
abbrev Stops : (List ℕ → List ℕ → Ordering) → List ℕ → List Part → Type 0
Stops cmp key [] = Unit {0}
Stops cmp key (part ∷ parts) = is_lt (cmp part.index_key key) ≡ false

-- the blocks whose index keys are before the key have no key at or after it
record IsSoughtIn (accepts : List ℕ → Bool) (cmp : List ℕ → List ℕ → Ordering) (key : List ℕ) (parts : List Part) : Type 0 where
  before : List Part
  after : List Part
  whole : parts ≡ before ++ after
  count : length before ≡ count_before cmp key (map index_pair parts)
  passed : count_before cmp key (pairs_in parts) ≡ length (pairs_in before) + count_before cmp key (pairs_in after)
  parted : AreParted cmp after
  accepted : AreAccepted accepts after
  stops : Stops cmp key after

module _ {accepts : List ℕ → Bool} {cmp : List ℕ → List ℕ → Ordering} (order : IsPreorderOn accepts cmp) (key : List ℕ) (fit : accepts key ≡ true) where
  accepted_rest : (part : Part) (parts : List Part) → AreAccepted accepts (part ∷ parts) → AreAccepted accepts parts
  accepted_rest part parts a = record { pairs = all_right (λ pair. accepts pair.0 ≡ true) part.pairs (pairs_in parts) a.pairs; lines = a.lines.1 }

  sought_by : (part : Part) (parts : List Part) → AreParted cmp (part ∷ parts) → AreAccepted accepts (part ∷ parts) → IsSoughtIn accepts cmp key parts → (b : Bool) → is_lt (cmp part.index_key key) ≡ b
      → IsSoughtIn accepts cmp key (part ∷ parts)
  sought_by part parts parted a rest true e =
      let all = before_by order key fit part.index_key part.pairs a.lines.0 (all_left (λ pair. accepts pair.0 ≡ true) part.pairs (pairs_in parts) a.pairs) (parted_here cmp part parts parted)
      (lt_less (cmp part.index_key key) e) in
      let counted = rest.count in
      let passed = rest.passed in
      record {
        before = part ∷ rest.before;
        after = rest.after;
        whole = ap (λ z. part ∷ z) rest.whole;
        count = omega (arith, counted, count_true (is_lt (cmp part.index_key key)) (count_before cmp key (map index_pair parts)) e);
        passed = omega (arith, passed, count_over cmp key part.pairs (pairs_in parts) all, length-append part.pairs (pairs_in rest.before));
        parted = rest.parted;
        accepted = rest.accepted;
        stops = rest.stops;
      }
  sought_by part parts parted a rest false e = record {
    before = [];
    after = part ∷ parts;
    whole = refl;
    count = ap (λ b. if b then count_before cmp key (map index_pair parts) + 1 else 0) (sym e);
    passed = omega arith;
    parted = parted;
    accepted = a;
    stops = e;
  }

  sought : (parts : List Part) → AreParted cmp parts → AreAccepted accepts parts → IsSoughtIn accepts cmp key parts
  sought [] parted a = record { before = []; after = []; whole = refl; count = refl; passed = refl; parted = tt; accepted = a; stops = tt }
  sought (part ∷ parts) parted a = sought_by part parts parted a (sought parts (parted_rest cmp part parts parted) (accepted_rest part parts a)) (is_lt (cmp part.index_key key)) refl

  -- no key of the blocks after one whose index key is at or after the key is before it
  none_after : (part : Part) (parts : List Part) → AreParted cmp (part ∷ parts) → AreAccepted accepts (part ∷ parts) → AllByRecursion (λ part. part.pairs ≢ []) parts → is_lt (cmp part.index_key key) ≡ false
      → count_before cmp key (pairs_in parts) ≡ 0
  none_after part [] parted a some e = refl
  none_after part (next ∷ parts) parted a some e =
      let next_accepted = all_left (λ pair. accepts pair.0 ≡ true) next.pairs (pairs_in parts) (accepted_rest part (next ∷ parts) a).pairs in
      count_none cmp key next.pairs some.0 (after_by order key fit part.index_key next.pairs a.lines.0 next_accepted parted.1 (not_lt (cmp part.index_key key) e)) (pairs_in parts)

module _ {accepts : List ℕ → Bool} {cmp : List ℕ → List ℕ → Ordering} (order : IsPreorderOn accepts cmp) {parts : List Part} (parted : AreParted cmp parts) (accepted : AreAccepted accepts parts) (key : List ℕ) (fit : accepts key ≡ true) where
  it : IsSoughtIn accepts cmp key parts
  it = sought order key fit parts parted accepted

  -- where the key is after all index keys, it is after all keys
  pub seek_none : seek_position cmp (map index_pair parts) key ≡ None → seek_position cmp (pairs_in parts) key ≡ None
  seek_none e =
      let past = position_none (map index_pair parts) (count_before cmp key (map index_pair parts)) e in
      let count = it.count in
      let passed = it.passed in
      let none : it.after ≡ [] = long_none it.after (omega (arith, past, count, ap length it.whole, length-append it.before it.after, length-map parts index_pair)) in
      let last : length (pairs_in it.after) ≡ 0 = ap (λ z. length (pairs_in z)) none in
      let all : length (pairs_in parts) ≡ length (pairs_in it.before) + length (pairs_in it.after) =
      ap length (ap pairs_in it.whole ∙ pairs_cut it.before it.after) ∙ length-append (pairs_in it.before) (pairs_in it.after) in
      position_out (pairs_in parts) (count_before cmp key (pairs_in parts)) (omega (arith, passed, all, last))

  -- the block that the index names for the key, and those after it
  named_here : (i : ℕ) (part : Part) → seek_position cmp (map index_pair parts) key ≡ Some i → slice_get parts i ≡ Some part → (i ≡ length it.before) × (rest : List Part) × (it.after ≡ part ∷ rest)
  named_here i part e there =
      let same : i ≡ length it.before = (position_some (map index_pair parts) (count_before cmp key (map index_pair parts)) i e).0 ∙ sym it.count in
      let more : length it.before + 0 ≡ i = omega (arith, same) in
      let rest = split_first it.after part (sym (slice_after it.before it.after 0) ∙ ap (slice_get (it.before ++ it.after)) more ∙ ap (λ z. slice_get z i) (sym it.whole) ∙ there) in
      (same, rest.0, rest.1)

  -- a key of that block
  pub seek_in : (i : ℕ) (part : Part) (j : ℕ) → seek_position cmp (map index_pair parts) key ≡ Some i → slice_get parts i ≡ Some part → seek_position cmp part.pairs key ≡ Some j
      → IsAtPairOrNone parts (Some i) part.pairs (Some j) (seek_position cmp (pairs_in parts) key)
  seek_in i part j e there found =
      let here = named_here i part e there in
      let position = position_some part.pairs (count_before cmp key part.pairs) j found in
      let same = position.0 in
      let less = position.1 in
      let passed = it.passed in
      let inner : count_before cmp key (pairs_in it.after) ≡ count_before cmp key part.pairs =
      ap (λ z. count_before cmp key (pairs_in z)) here.2 ∙ count_left cmp key part.pairs (pairs_in here.1) less in
      let is_there : IsAtPair parts (Some i) part.pairs (Some j) (count_before cmp key (pairs_in parts)) = record {
        before = it.before;
        part = part;
        after = here.1;
        inner = j;
        parted = it.whole ∙ ap (λ z. it.before ++ z) here.2;
        at_line = ap (λ z. Some z) here.0;
        same = refl;
        at_position = refl;
        within = omega (arith, same, less);
        counts = omega (arith, passed, inner, same);
      } in
      subst (IsAtPairOrNone parts (Some i) part.pairs (Some j)) (sym (position_in (pairs_in parts) (count_before cmp key (pairs_in parts)) (within_in is_there))) is_there

  -- or it has none, and the first key of the next block is the one
  pub seek_after : AllByRecursion (λ part. part.pairs ≢ []) parts → (i : ℕ) (part : Part) → seek_position cmp (map index_pair parts) key ≡ Some i → slice_get parts i ≡ Some part → seek_position cmp part.pairs key ≡ None
      → IsAfterLine parts (Some i) (seek_position cmp (pairs_in parts) key)
  seek_after some i part e there none =
      let here = named_here i part e there in
      let rest = here.1 in
      let whole : parts ≡ it.before ++ part ∷ rest = it.whole ∙ ap (λ z. it.before ++ z) here.2 in
      let all = all_counted cmp key part.pairs (position_none part.pairs (count_before cmp key part.pairs) none) in
      let some_rest = all_right (λ part. part.pairs ≢ []) it.before (part ∷ rest) (subst (AllByRecursion (λ part. part.pairs ≢ [])) whole some) in
      let last : count_before cmp key (pairs_in rest) ≡ 0 =
      none_after order key fit part rest (subst (AreParted cmp) here.2 it.parted) (subst (AreAccepted accepts) here.2 it.accepted) some_rest.1 (subst (Stops cmp key) here.2 it.stops) in
      let inner : count_before cmp key (pairs_in it.after) ≡ length part.pairs + count_before cmp key (pairs_in rest) =
      ap (λ z. count_before cmp key (pairs_in z)) here.2 ∙ count_over cmp key part.pairs (pairs_in rest) all in
      let passed = it.passed in
      let front = it.before ++ part ∷ [] in
      let more : i + 1 ≡ length front = let same = here.0 in omega (arith, same, length-append it.before (part ∷ [])) in
      let cut : pairs_in front ≡ pairs_in it.before ++ (part.pairs ++ []) = pairs_cut it.before (part ∷ []) in
      let counts : count_before cmp key (pairs_in parts) ≡ length (pairs_in front) =
      omega (arith, passed, inner, last, ap length cut, length-append (pairs_in it.before) (part.pairs ++ []), length-append part.pairs []) in
      record {
        before = front;
        after = rest;
        parted = whole ∙ sym (append_assoc it.before (part ∷ []) rest);
        next = ap (position_within (map index_pair parts)) more;
        to = ap (position_within (pairs_in parts)) counts;
      }

-- ---- back

prev_is : (n m : ℕ) → n ≡ m + 1 → previous_position (Some n) ≡ Some m
prev_is n m e =
    let t : nat_lt 0 n ≡ true = grind (arith, nat_tests) in
    let back : n - 1 ≡ m = omega (arith, e) in
    ap (λ b. if b then Some (n - 1) else None) t ∙ ap (λ z. Some z) back

prev_some : (n k : ℕ) → previous_position (Some n) ≡ Some k → n ≡ k + 1
prev_some zero k e = cc
prev_some (suc n) k e = let there = prev_is (suc n) n (omega arith) in let same : n ≡ k = cc in omega (arith, same)

prev_none : (n : ℕ) → previous_position (Some n) ≡ None → n ≡ 0
prev_none zero e = refl
prev_none (suc n) e = let there = prev_is (suc n) n (omega arith) in cc

last_some : (pairs : List Pair) (k : ℕ) → last_position pairs ≡ Some k → length pairs ≡ k + 1
last_some [] k e = cc
last_some (pair ∷ pairs) k e = let same : length pairs ≡ k = cc in omega (arith, same)

module _ {parts : List Part} {line : Option ℕ} {pairs : List Pair} {position : Option ℕ} {n : ℕ} (s : IsAtPair parts line pairs position n) where
  -- the line before
  line_back : (i : ℕ) → previous_position line ≡ Some i → length s.before ≡ i + 1
  line_back i e = prev_some (length s.before) i (ap previous_position (sym s.at_line) ∙ e)

  -- to the last pair of the block before
  pub previous_block : previous_position position ≡ None → (i : ℕ) (part : Part) (k : ℕ) → previous_position line ≡ Some i → slice_get parts i ≡ Some part → last_position part.pairs ≡ Some k
      → IsAtPairOrNone parts (Some i) part.pairs (Some k) (previous_position (Some n))
  previous_block e i part k l there last =
      let first = prev_none s.inner (ap previous_position (sym s.at_position) ∙ e) in
      let back = line_back i l in
      let counts = s.counts in
      let long = last_some part.pairs k last in
      let there_before : slice_get s.before i ≡ Some part = sym (slice_left s.before (s.part ∷ s.after) i (omega (arith, back))) ∙ ap (λ z. slice_get z i) (sym s.parted) ∙ there in
      let cut = split_at s.before i part there_before in
      let count = cut.count in
      let none : cut.after ≡ [] = long_none cut.after (omega (arith, back, count, ap length cut.parted, length-append cut.before (part ∷ cut.after))) in
      let front : s.before ≡ cut.before ++ part ∷ [] = cut.parted ∙ ap (λ z. cut.before ++ part ∷ z) none in
      let all : pairs_in s.before ≡ pairs_in cut.before ++ (part.pairs ++ []) = ap pairs_in front ∙ pairs_cut cut.before (part ∷ []) in
      let many : n ≡ length (pairs_in cut.before) + k + 1 = omega (arith, counts, first, long, ap length all, length-append (pairs_in cut.before) (part.pairs ++ []), length-append part.pairs []) in
      let is_there : IsAtPair parts (Some i) part.pairs (Some k) (length (pairs_in cut.before) + k) = record {
        before = cut.before;
        part = part;
        after = s.part ∷ s.after;
        inner = k;
        parted = s.parted ∙ ap (λ z. z ++ s.part ∷ s.after) front ∙ append_assoc cut.before (part ∷ []) (s.part ∷ s.after);
        at_line = ap (λ z. Some z) (sym count);
        same = refl;
        at_position = refl;
        within = omega (arith, long);
        counts = refl;
      } in
      subst (IsAtPairOrNone parts (Some i) part.pairs (Some k)) (sym (prev_is n (length (pairs_in cut.before) + k) many)) is_there

  -- without a line before there is no pair before
  pub no_block_before : previous_position position ≡ None → previous_position line ≡ None → previous_position (Some n) ≡ None
  no_block_before e l =
      let counts = s.counts in
      let first = prev_none s.inner (ap previous_position (sym s.at_position) ∙ e) in
      let none = no_pairs s.before (prev_none (length s.before) (ap previous_position (sym s.at_line) ∙ l)) in
      let is : n ≡ 0 = omega (arith, counts, first, none) in
      ap (λ m. previous_position (Some m)) is

-- the last position of so many pairs
last_is : (pairs : List Pair) (n : ℕ) → length pairs ≡ n + 1 → last_position pairs ≡ Some n
last_is [] n e = absurd (omega (arith, e))
last_is (pair ∷ pairs) n e = let same : length pairs ≡ n = omega (arith, e) in ap (λ z. Some z) same

-- to the last pair of the last block
pub last_block : (parts : List Part) (i : ℕ) (part : Part) (k : ℕ) → last_position (map index_pair parts) ≡ Some i → slice_get parts i ≡ Some part → last_position part.pairs ≡ Some k
    → IsAtPairOrNone parts (Some i) part.pairs (Some k) (last_position (pairs_in parts))
last_block parts i part k line there last =
    let many = last_some (map index_pair parts) i line in
    let long = last_some part.pairs k last in
    let cut = split_at parts i part there in
    let count = cut.count in
    let none : cut.after ≡ [] = long_none cut.after (omega (arith, many, count, length-map parts index_pair, ap length cut.parted, length-append cut.before (part ∷ cut.after))) in
    let all : pairs_in parts ≡ pairs_in cut.before ++ (part.pairs ++ []) = ap pairs_in (cut.parted ∙ ap (λ z. cut.before ++ part ∷ z) none) ∙ pairs_cut cut.before (part ∷ []) in
    let counts : length (pairs_in parts) ≡ length (pairs_in cut.before) + k + 1 = omega (arith, long, ap length all, length-append (pairs_in cut.before) (part.pairs ++ []), length-append part.pairs []) in
    let is_there : IsAtPair parts (Some i) part.pairs (Some k) (length (pairs_in cut.before) + k) = record {
      before = cut.before;
      part = part;
      after = cut.after;
      inner = k;
      parted = cut.parted;
      at_line = ap (λ z. Some z) (sym count);
      same = refl;
      at_position = refl;
      within = omega (arith, long);
      counts = refl;
    } in
    subst (IsAtPairOrNone parts (Some i) part.pairs (Some k)) (sym (last_is (pairs_in parts) (length (pairs_in cut.before) + k) counts)) is_there

-- without blocks there is none
pub last_of_none : (parts : List Part) → last_position (map index_pair parts) ≡ None → last_position (pairs_in parts) ≡ None
last_of_none [] e = refl
last_of_none (part ∷ parts) e = absurd (cc)

-- Moves of a walk over a table: into which block they lead, and where the walk then is.

-- ---- returns

-- a refusal has nothing to show of an Ok
pub ok_refused : {T E : Type 0} (P : E → Type 0) (Q : Type 0) (result : Result T E) → IsErrAnd result P → OnOk result Q
ok_refused P Q (Ok value) refused = absurd refused
ok_refused P Q (Err error) refused = tt

pub err_holds : {T E Q : Type 0} (result : Result T E) → Q → OnErr result Q
err_holds (Ok value) h = tt
err_holds (Err error) h = h

pub some_none : {T : Type 0} {x : T} → Some x ≡ None → ⊥
some_none e = cc

pub some_there : {T : Type 0} (o : Option T) → is_some o ≡ true → (x : T) × (o ≡ Some x)
some_there None h = cc
some_there (Some x) h = (x, refl)

pub not_none : {T : Type 0} (o : Option T) → is_some o ≡ true → o ≢ None
not_none None h = cc
not_none (Some x) h = λ e. absurd (some_none e)

pub none_there : {T : Type 0} (o : Option T) → is_some o ≡ false → o ≡ None
none_there None h = refl
none_there (Some x) h = cc

-- ---- lines

pub same_handle : (g h : Handle) → handle_bytes g ≡ handle_bytes h → g ≡ h
same_handle g h e = (one_handle g h [] [] (ap (λ z. z ++ []) e)).0

pub same_value : (p q : Pair) → Some p ≡ Some q → p.1 ≡ q.1
same_value p q e = let same : p ≡ q = cc in ap (λ z. z.1) same

-- a line whose block is lacking is there
pub lacks_some : {codings : Codings} {cmp : List ℕ → List ℕ → Ordering} {bytes : List ℕ} {status : Status} → LacksLine codings cmp bytes None status → ⊥
lacks_some (unnamed none code) = absurd none
lacks_some (lacking handle names lacks) = absurd names

lacks_there : {codings : Codings} {cmp : List ℕ → List ℕ → Ordering} {bytes : List ℕ} {status : Status} (lines : List Pair) (position : Option ℕ) → LacksLine codings cmp bytes (pair_at lines position) status → is_some position ≡ true
lacks_there lines None lacks = absurd (lacks_some lacks)
lacks_there lines (Some i) lacks = refl

-- and is no data block
lacks_part : {codings : Codings} {cmp : List ℕ → List ℕ → Ordering} {bytes : List ℕ} {line : Option Pair} {status : Status} (part : Part) → LacksLine codings cmp bytes line status → line ≡ Some (index_pair part) → IsPart (Decodes codings) cmp bytes part → ⊥
lacks_part part (unnamed none code) is there = subst NamesNone is none part.handle there.is_there.is_there.fits refl
lacks_part {codings} {cmp} {bytes} {status = status} part (lacking handle names lacks) is there =
    let same = same_handle handle part.handle (sym (subst (λ z. IsNamedBy z handle) is names)) in
    lacks_none (subst (λ h. LacksBlock codings cmp bytes h status) same lacks) there.text part.pairs there.is_there there.block

-- ---- positions

first_in : (pairs : List Pair) → pairs ≢ [] → position_within pairs 0 ≡ Some 0
first_in [] some = absurd (some refl)
first_in (pair ∷ pairs) some = position_in (pair ∷ pairs) 0 (omega arith)

pub first_none : (pairs : List Pair) → position_within pairs 0 ≡ None → pairs ≡ []
first_none [] none = refl
first_none (pair ∷ pairs) none = absurd (some_none (sym (position_in (pair ∷ pairs) 0 (omega arith)) ∙ none))

pub is_there_along : (parts : List Part) (position : Option ℕ) {line other : Option ℕ} {pairs others : List Pair} {inner spot : Option ℕ} → line ≡ other → pairs ≡ others → inner ≡ spot → IsAtPairOrNone parts other others spot position → IsAtPairOrNone parts line pairs inner position
is_there_along parts position {line} {other} {pairs} {others} {inner} {spot} l p i s =
    subst (λ z. IsAtPairOrNone parts z pairs inner position) (sym l) (subst (λ z. IsAtPairOrNone parts other z inner position) (sym p) (subst (λ z. IsAtPairOrNone parts other others z position) (sym i) s))

-- from no position, the next block is the first
pub after_none : (parts : List Part) (line at : Option ℕ) (pairs : List Pair) (inner position : Option ℕ) → line ≡ None → inner ≡ None → IsAtPairOrNone parts at pairs inner position → IsAfterLine parts line (next_position (pairs_in parts) position)
after_none parts line at pairs inner None none out is_there = record { before = []; after = parts; parted = refl; next = ap (next_position (map index_pair parts)) none; to = refl }
after_none parts line at pairs inner (Some n) none out is_there = absurd (some_none (sym is_there.at_position ∙ out))

-- and from the last pair of a block, the one after it
pub after_last : (parts : List Part) (line : Option ℕ) (pairs : List Pair) (inner position : Option ℕ) → inner ≢ None → next_position pairs inner ≡ None → IsAtPairOrNone parts line pairs inner position → IsAfterLine parts line (next_position (pairs_in parts) position)
after_last parts line pairs inner None some last at = absurd (some at)
after_last parts line pairs inner (Some n) some last at = after_block at last

module _ {C : Type 0} where
  -- the line of the index is that of a data block of the file
  pub record IsLineOf (codings : Codings) (cmp : List ℕ → List ℕ → Ordering) (bytes : List ℕ) (parts : List Part) (index : BlockPosition C) : Type 0 where
    pub i : ℕ
    pub part : Part
    pub at_line : position_over index ≡ Some i
    pub there : slice_get parts i ≡ Some part
    pub line : pair_at (pairs_over index) (position_over index) ≡ Some (index_pair part)
    pub is : IsPart (Decodes codings) cmp bytes part

  -- the pairs stay with the block
  pub block_lines : (walk other : BlockPosition C) → walk.block ≡ other.block → pairs_over walk ≡ pairs_over other
  block_lines walk other e = ap (λ (b : BlockRead C). pairs_of None b.entries) e

  within_lines : (index : BlockPosition C) (i : ℕ) → position_over index ≡ Some i → i < length (pairs_over index)
  within_lines index i e = let P : Option ℕ → Type 0 = IsPosition (pairs_over index) in subst P e (position_within-is (pairs_over index) index.at)

  pub line_is_of : {codings : Codings} {accepts : List ℕ → Bool} {cmp : List ℕ → List ℕ → Ordering} {bytes : List ℕ} {parts : List Part} (index : BlockPosition C) → HasParts codings accepts cmp bytes parts → pairs_over index ≡ map index_pair parts
      → is_some (position_over index) ≡ true → IsLineOf codings cmp bytes parts index
  line_is_of {codings} {cmp} {bytes} {parts} index has lines there =
      let at = some_there (position_over index) there in
      let here = slice_get-get_or (pairs_over index) at.0 ([], []) (within_lines index at.0 at.1) in
      let found = part_at parts at.0 (get_or (pairs_over index) at.0 ([], [])) (ap (λ z. slice_get z at.0) (sym lines) ∙ here) in
      record {
        i = at.0;
        part = found.0;
        at_line = at.1;
        there = found.1;
        line = ap (pair_at (pairs_over index)) at.1 ∙ here ∙ ap (λ z. Some z) found.2;
        is = all_at (IsPart (Decodes codings) cmp bytes) parts at.0 found.0 found.1 has.each;
      }

  -- where the line's block is lacking, the file isn't as it is said
  pub line_lacks : {codings : Codings} {accepts : List ℕ → Bool} {cmp : List ℕ → List ℕ → Ordering} {bytes : List ℕ} {parts : List Part} {status : Status} (index : BlockPosition C) → HasParts codings accepts cmp bytes parts → pairs_over index ≡ map index_pair parts
      → LacksLine codings cmp bytes (pair_at (pairs_over index) (position_over index)) status → ⊥
  line_lacks index has lines lacks =
      let at = line_is_of index has lines (lacks_there (pairs_over index) (position_over index) lacks) in
      lacks_part at.part lacks at.line at.is

module _ {C : Type 0} (order : CmpGhosts C) where
  -- ---- blocks

  -- the block that the file has for a data block has its pairs
  pub part_pairs : (codings : Codings) {cmp : List ℕ → List ℕ → Ordering} {bytes : List ℕ} {part : Part} (inner : Option (BlockPosition C)) → IsPart (Decodes codings) cmp bytes part
      → IsBlockOf order codings cmp bytes (Some (index_pair part)) (inner_block inner) → inner_pairs inner ≡ part.pairs
  part_pairs codings None is of = absurd of
  part_pairs codings {cmp} {bytes} {part} (Some walk) is of =
      let named = of.0 in
      let block = walk.block in
      let same : part.handle ≡ named.handle = same_handle part.handle named.handle (same_value (index_pair part) (named.key, handle_bytes named.handle) named.names) in
      let text = has_one_block codings is.is_there (subst (λ h. HasBlockAt (Decodes codings) bytes h block.contents) (sym same) named.is_there) in
      let encoded = of.2 in
      sym (is.block.pairs_are ∙ ap (pairs_of None) (one_block is.block.encoded (subst (λ t. HasEntries cmp t block.entries) (sym text) encoded)))

  -- ---- into the next block

  -- the walk went to a line, and has its block, at a position of it
  pub record IsInto (codings : Codings) (cmp : List ℕ → List ℕ → Ordering) (bytes : List ℕ) (line : Option ℕ) (to : List Pair → Option ℕ) (old new : TablePlace C) : Type 0 where
    pub lines : pairs_over new.index ≡ pairs_over old.index
    pub same_order : new.index.block.cmp ≡ old.index.block.cmp
    pub at_line : position_over new.index ≡ line
    pub some : is_some (position_over new.index) ≡ true
    pub block : IsBlockOf order codings cmp bytes (line_of new) (inner_block new.inner)
    pub position : inner_position new.inner ≡ to (inner_pairs new.inner)

  -- by reading what the line names, and a step
  pub is_into : (codings : Codings) (cmp : List ℕ → List ℕ → Ordering) (bytes : List ℕ) (line : Option ℕ) (to : List Pair → Option ℕ) (old loaded new : TablePlace C) (index : BlockPosition C) → index.block ≡ old.index.block
      → position_over index ≡ line → is_some (position_over index) ≡ true → loaded.index ≡ index → IsBlockOf order codings cmp bytes (pair_at (pairs_over index) (position_over index)) (inner_block loaded.inner)
      → new.index ≡ loaded.index → inner_block new.inner ≡ inner_block loaded.inner → inner_pairs new.inner ≡ inner_pairs loaded.inner → inner_position new.inner ≡ to (inner_pairs loaded.inner) → IsInto codings cmp bytes line to old new
  is_into codings cmp bytes line to old loaded new index block at some same of kept inner pairs position =
      let all = kept ∙ same in
      record {
        lines = ap pairs_over all ∙ block_lines index old.index block;
        same_order = ap (λ (z : BlockPosition C). z.block.cmp) all ∙ ap (λ (b : BlockRead C). b.cmp) block;
        at_line = ap position_over all ∙ at;
        some = ap (λ (z : BlockPosition C). is_some (position_over z)) all ∙ some;
        block = subst (λ (z : BlockPosition C). IsBlockOf order codings cmp bytes (pair_at (pairs_over z) (position_over z)) (inner_block new.inner)) (sym all) (subst (λ b. IsBlockOf order codings cmp bytes (pair_at (pairs_over index) (position_over index)) b) (sym inner) of);
        position = position ∙ ap to (sym pairs);
      }

module _ {C : Type 0} {order : CmpGhosts C} where
  module _ {codings : Codings} {accepts : List ℕ → Bool} {cmp : List ℕ → List ℕ → Ordering} {bytes : List ℕ} {parts : List Part} {position : Option ℕ} {old : TablePlace C} (has : HasParts codings accepts cmp bytes parts)
      (after : IsAfterLine parts (position_over old.index) position) (indexed : IsIndexed order cmp parts old) where
    -- to its first pair
    pub next_is_there : (new : TablePlace C) → IsInto order codings cmp bytes (next_position (pairs_over old.index) (position_over old.index)) (λ pairs. position_within pairs 0) old new → (inner_position new.inner ≡ Some 0) × IsAtPosition order cmp parts new position
    next_is_there new next =
        let lines = next.lines ∙ indexed.lines in
        let at = line_is_of new.index has lines next.some in
        let line : next_position (map index_pair parts) (position_over old.index) ≡ Some at.i = ap (λ z. next_position z (position_over old.index)) (sym indexed.lines) ∙ sym next.at_line ∙ at.at_line in
        let pairs = part_pairs order codings new.inner at.is (subst (λ l. IsBlockOf order codings cmp bytes l (inner_block new.inner)) at.line next.block) in
        let first : inner_position new.inner ≡ Some 0 = next.position ∙ ap (λ z. position_within z 0) pairs ∙ first_in at.part.pairs at.is.some in (
          first,
          record {
            lines = lines;
            ordered = ap order.cmp next.same_order ∙ indexed.ordered;
            at = is_there_along parts position at.at_line pairs first (to_block after at.i at.part line at.there at.is.some);
          },
        )

  -- ---- moves by entering a block

  pub moves_enters : {E F T : Type 0} {env : EnvGhosts E F} {codings : Codings} {accepts : List ℕ → Bool} {cmp : List ℕ → List ℕ → Ordering} {id : ℕ} {file : F} {Fit : List Part → Type 0} {Way : List Part → Option ℕ → Type 0} {to : List Pair → Option ℕ → Option ℕ}
      {Part_step Step : Codings → (List ℕ → List ℕ → Ordering) → List ℕ → TablePlace C → Outcome → Type 0} {old_env new_env : E} {old_cache new_cache : Cached (CachedBlock C)} {mid new : TablePlace C} {result : Result T Status} (old : TablePlace C)
      → pairs_over mid.index ≡ pairs_over old.index → mid.index.block.cmp ≡ old.index.block.cmp
      → ((parts : List Part) (position : Option ℕ) → Fit parts → IsAtPosition order cmp parts old position → Way parts (to (pairs_in parts) position))
      → ((bytes : List ℕ) (out : Outcome) → Part_step codings cmp bytes mid out → Step codings cmp bytes old out)
      → MovesFromLine order env codings accepts cmp id file Way Part_step old_env old_cache mid result new_env new_cache new → MovesInTable order env codings accepts cmp id file Fit to Step old_env old_cache old result new_env new_cache new
  moves_enters {env = env} {codings = codings} {cmp = cmp} {to = to} {Part_step = Part_step} {Step = Step} {mid = mid} {new = new} {result = result} old lines same way step enters =
      let indexed : (parts : List Part) (position : Option ℕ) → IsAtPosition order cmp parts old position → IsIndexed order cmp parts mid = λ parts position is_there. record { lines = lines ∙ is_there.lines; ordered = ap order.cmp same ∙ is_there.ordered } in
      record {
        reads = reads_weaker env result (λ status lacks. (
          lacks.0,
          λ bytes has. (
            λ parts position right fit holds is_there. (lacks.1 bytes has).0 parts (to (pairs_in parts) position) right (way parts position fit is_there) holds (indexed parts position is_there),
            λ holds. step bytes (Err status) ((lacks.1 bytes has).1 holds),
          ),
        )) enters.reads;
        ok = λ bytes has parts position right fit holds is_there. enters.ok bytes has parts (to (pairs_in parts) position) right (way parts position fit is_there) holds (indexed parts position is_there);
        steps = λ bytes has holds. OnOk-with result (Part_step codings cmp bytes mid (Ok (table_position new))) (Step codings cmp bytes old (Ok (table_position new))) (step bytes (Ok (table_position new))) (enters.steps bytes has holds);
        err = enters.err;
        gathers = enters.gathers;
        same_lines = enters.same_lines ∙ lines;
        same_order = enters.same_order ∙ same;
      }

-- What a look-up in a table gives: the pair on which a walk is.

-- what an answer says, said otherwise
pub ok_says : {T E : Type 0} {P Q : T → Type 0} (result : Result T E) → ((answer : T) → P answer → Q answer) → IfOk result P → IfOk result Q
ok_says (Ok answer) says h = says answer h
ok_says (Err error) says h = tt

module _ (cmp : List ℕ → List ℕ → Ordering) (may_contain : ℕ → List ℕ → Bool) (key : List ℕ) (parts : List Part) where
  at_passed : (b : Bool) → pair_at (pairs_in parts) (if b then seek_position cmp (pairs_in parts) key else None) ≡ (if b then first_from cmp key (pairs_in parts) else None)
  at_passed true = sym (first_is cmp key (pairs_in parts))
  at_passed false = refl

  at_named : (named : Option Part) → pair_at (pairs_in parts) (elim named [ None ↦ None | Some part ↦ if may_contain part.handle.offset key then seek_position cmp (pairs_in parts) key else None ])
      ≡ elim named [ None ↦ None | Some part ↦ if may_contain part.handle.offset key then first_from cmp key (pairs_in parts) else None ]
  at_named None = refl
  at_named (Some part) = at_passed (may_contain part.handle.offset key)

  -- the pair at a look-up's position is what it finds
  pub found_at : pair_at (pairs_in parts) (let_position cmp may_contain key parts) ≡ found_in cmp may_contain key parts
  found_at = at_named (named_part cmp key parts)

module _ {C : Type 0} {order : CmpGhosts C} where
  -- so a walk that is there has found it
  pub found_by : {cmp : List ℕ → List ℕ → Ordering} {parts : List Part} (may_contain : ℕ → List ℕ → Bool) (key : List ℕ) (core : TablePlace C) → IsAtPosition order cmp parts core (let_position cmp may_contain key parts) → current_of core ≡ found_in cmp may_contain key parts
  found_by {cmp} {parts} may_contain key core is_there =
      current_at parts (position_over core.index) (inner_pairs core.inner) (inner_position core.inner) (let_position cmp may_contain key parts) is_there.at ∙ found_at cmp may_contain key parts
