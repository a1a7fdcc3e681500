-- Where a step by the compressors of a format leads in a table that is one by what its ids mean,
-- and why it fails there.
use Rattle.std.specs.Prelude.{◌≢◌}
use Rattle.std.proofs.Common.{◌≡◌, inl, inr, ℕ, zero, suc, ◌+◌, ◌-◌, ◌<◌, if◌then◌else◌, nat_lt, Bool, true, List, [], ◌∷◌, ◌++◌, length, map, Option, None, Some, Ok, Err, refl, sym, ◌∙◌, ap, subst, arith}
use Rattle.std.proofs.lemmas.Bool.Decides.{nat_tests}
use Rattle.std.proofs.lemmas.List.{length-append, length-map}
use Rattle.std.specs.declared.cmp.Ordering.{Ordering}
use Rattle.leveldb_base.specs.BlockHandle.{Handle, HandleFits, handle_bytes}
use Rattle.leveldb_base.specs.Cmp.{IsPreorderOn, internal_accepts}
use Rattle.leveldb_base.specs.Types.{Pair, last_position, next_position, pair_at, position_within, previous_position, seek_position}
use Rattle.leveldb_base.specs.declared.cmp.Cmp.{Ghosts as CmpGhosts}
use Rattle.leveldb_base.specs.declared.error.Status.{Status}
use Rattle.leveldb_table.proofs.TableReaderWalkLemmas.{after_none, is_there_along, last_block, last_of_none, pairs_cut, parts_some, position_in, position_none, position_out, previous_block, seek_after, seek_in, seek_none, to_block}
use Rattle.leveldb_table.specs.BlockWalk.{pairs_over, position_over}
use Rattle.leveldb_table.specs.Table.{Part, index_pair}
use Rattle.leveldb_table.specs.TableBlock.{LacksBlock, LacksLine, lacking, unnamed}
use Rattle.leveldb_table.specs.TableReader.{HasParts, pairs_in}
use Rattle.leveldb_table.specs.TableReaderBlocks.{IsAfterLine, IsBeforeBlock, IsIndexed}
use Rattle.leveldb_table.specs.TableReaderMoves.{InsideOr, ToBlock, ToFirstPair, ToKeyByLine, ToLastPair}
use Rattle.leveldb_table.specs.TableReaderSteps.{step_to}
use Rattle.leveldb_table.specs.TableReaderWalk.{IsAtPair, IsAtPairOrNone, TablePlace, TablePosition}
use Rattle.leveldb_table.specs.declared.table_reader.walk.TableStep.{TableStep}
use Rattle.leveldb_table.specs.declared.table_reader.walk.TableStep.TheVariants.{First, Last, NextBlock, BlockBefore, Seek}
use Rattle.leveldb_version.proofs.Tables.ReadTableLemmas.{AtLine, Wants, at_line, lacks_block, line_pairs, named_handle, same_outcome, value_of}
use Rattle.leveldb_files.specs.Stores.Format.{Agrees, Format, Meaning}
use Rattle.leveldb_files.specs.Stores.Store.{any_user_key}
use Rattle.leveldb_version.specs.Tables.TableMoves.{IsLedTo}

some_long : (xs : List Pair) → xs ≢ [] → 0 < length xs
some_long [] some = absurd (some refl)
some_long (x ∷ xs) some = omega arith

last_some_of : (xs : List Pair) → xs ≢ [] → (k : ℕ) × (last_position xs ≡ Some k)
last_some_of [] some = absurd (some refl)
last_some_of (x ∷ xs) some = (length xs, refl)

-- nothing is before the first
first_of_all : (n : ℕ) → previous_position (Some n) ≡ None → n ≡ 0
first_of_all zero e = refl
first_of_all (suc n) e = let test : nat_lt 0 (suc n) ≡ true = grind (arith, nat_tests) in never (sym (ap (λ b. if b then Some (suc n - 1) else None) test) ∙ e)
  where
    never : {m : ℕ} → Some m ≡ None → suc n ≡ 0
    never some = cc

no_previous : {parts : List Part} {line : Option ℕ} {pairs : List Pair} {inner : Option ℕ} {n : ℕ} → IsAtPair parts line pairs inner n → previous_position inner ≡ None → previous_position line ≡ None → previous_position (Some n) ≡ None
no_previous {n = n} s first none =
    let line = first_of_all (length s.before) (ap previous_position (sym s.at_line) ∙ none) in
    let inner = first_of_all s.inner (ap previous_position (sym s.at_position) ∙ first) in
    let empty = no_pairs s.before line in
    let none_before : length (pairs_in s.before) ≡ 0 = ap (λ (ps : List Part). length (pairs_in ps)) empty in
    let counts = s.counts in
    let zero : n ≡ 0 = omega (arith, counts, none_before, inner) in
    ap (λ m. previous_position (Some m)) zero
  where
    no_pairs : (ps : List Part) → length ps ≡ 0 → ps ≡ []
    no_pairs [] e = refl
    no_pairs (p ∷ ps) e = absurd (omega (arith, e))

module _ {format : Format} {meaning : Meaning} (agrees : Agrees format meaning) {accepts : List ℕ → Bool} {cmp : List ℕ → List ℕ → Ordering} (order : IsPreorderOn accepts cmp) {bytes : List ℕ} {parts : List Part}
    (has : HasParts meaning.codings accepts cmp bytes parts) where
  abbrev lines : List Pair
  lines = map index_pair parts

  -- ---- where it leads

  -- where no line follows, no pair does
  after_end : {line position : Option ℕ} → IsAfterLine parts line position → next_position lines line ≡ None → position ≡ None
  after_end after none =
      let past = position_none lines (length after.before) (sym after.next ∙ none) in
      let all : length parts ≡ length after.before + length after.after = ap length after.parted ∙ length-append after.before after.after in
      let rest : after.after ≡ [] = empty after.after (omega (arith, past, all, length-map parts index_pair)) in
      let pairs : pairs_in parts ≡ pairs_in after.before ++ pairs_in after.after = ap pairs_in after.parted ∙ pairs_cut after.before after.after in
      let last : length (pairs_in after.after) ≡ 0 = ap (λ z. length (pairs_in z)) rest in
      after.to ∙ position_out (pairs_in parts) (length (pairs_in after.before)) (omega (arith, ap length pairs, length-append (pairs_in after.before) (pairs_in after.after), last))
    where
      empty : (xs : List Part) → length xs ≡ 0 → xs ≡ []
      empty [] e = refl
      empty (x ∷ xs) e = absurd (omega (arith, e))

  nowhere_at : (new : TablePosition) {position : Option ℕ} → position ≡ None → new.inner ≡ None → IsAtPairOrNone parts new.line new.pairs new.inner position
  nowhere_at new none nowhere = subst (λ p. IsAtPairOrNone parts new.line new.pairs new.inner p) (sym none) nowhere

  -- to the first pair of the line after
  to_first : (from next position : Option ℕ) (new : TablePosition) → IsAfterLine parts from position → next_position lines from ≡ next → ToFirstPair format.codings cmp bytes lines next (Ok new)
      → IsAtPairOrNone parts new.line new.pairs new.inner position
  to_first from None position new after is nowhere = nowhere_at new (after_end after is) nowhere.1
  to_first from (Some k) position new after is into =
      let at = line_pairs agrees has k new.pairs into.block in
      let first : position_within new.pairs 0 ≡ Some 0 = position_in new.pairs 0 (some_long new.pairs into.some) in
      is_there_along parts position into.at_line at.1 (into.position ∙ first) (to_block after k at.0.part is at.0.there at.0.is.some)

  -- to the last pair of the last line
  to_last : (line : Option ℕ) (new : TablePosition) → last_position lines ≡ line → ToLastPair format.codings cmp bytes lines line (Ok new) → IsAtPairOrNone parts new.line new.pairs new.inner (last_position (pairs_in parts))
  to_last None new is nowhere = nowhere_at new (last_of_none parts is) nowhere.1
  to_last (Some i) new is into =
      let at = line_pairs agrees has i new.pairs into.block in
      let last = last_some_of at.0.part.pairs at.0.is.some in
      is_there_along parts (last_position (pairs_in parts)) into.at_line at.1 (into.position ∙ ap last_position at.1 ∙ last.1) (last_block parts i at.0.part last.0 is at.0.there last.1)

  -- to the last pair of the line before
  to_previous : (from line position : Option ℕ) (new : TablePosition) → IsBeforeBlock parts from position → previous_position from ≡ line → ToLastPair format.codings cmp bytes lines line (Ok new)
      → IsAtPairOrNone parts new.line new.pairs new.inner position
  to_previous from None position new before is nowhere = nowhere_at new (before.to ∙ no_previous before.is_there before.first is) nowhere.1
  to_previous from (Some i) position new before is into =
      let at = line_pairs agrees has i new.pairs into.block in
      let last = last_some_of at.0.part.pairs at.0.is.some in
      subst (λ z. IsAtPairOrNone parts new.line new.pairs new.inner z) (sym before.to)
      (is_there_along parts (previous_position (Some before.n)) into.at_line at.1 (into.position ∙ ap last_position at.1 ∙ last.1) (previous_block before.is_there before.first i at.0.part last.0 is at.0.there last.1))

  -- to the first pair at or after a key
  to_key : (key : List ℕ) → accepts key ≡ true → (line : Option ℕ) (new : TablePosition) → seek_position cmp lines key ≡ line → ToKeyByLine format.codings cmp bytes lines key line (Ok new)
      → IsAtPairOrNone parts new.line new.pairs new.inner (seek_position cmp (pairs_in parts) key)
  to_key key fit None new is nowhere = nowhere_at new (seek_none order has.parted has.accepted key fit is) nowhere.1
  to_key key fit (Some i) new is to = by (seek_position cmp to.pairs key) refl to.outcome
    where
      at : (at : AtLine agrees has i) × (to.pairs ≡ at.part.pairs)
      at = line_pairs agrees has i to.pairs to.block

      by : (o : Option ℕ) → seek_position cmp to.pairs key ≡ o
          → InsideOr o (record { line = Some i; pairs = to.pairs; inner = None }) (Ok new) (ToFirstPair format.codings cmp bytes lines (next_position lines (Some i)) (Ok new))
          → IsAtPairOrNone parts new.line new.pairs new.inner (seek_position cmp (pairs_in parts) key)
      by (Some j) found inside =
          let same = same_outcome (Ok new) inside refl in
          is_there_along parts (seek_position cmp (pairs_in parts) key) (ap (λ (p : TablePosition). p.line) same) (ap (λ (p : TablePosition). p.pairs) same ∙ at.1) (ap (λ (p : TablePosition). p.inner) same)
          (seek_in order has.parted has.accepted key fit i at.0.part j is at.0.there (ap (λ ps. seek_position cmp ps key) (sym at.1) ∙ found))
      by None none after =
          to_first (Some i) (next_position lines (Some i)) (seek_position cmp (pairs_in parts) key) new
          (seek_after order has.parted has.accepted key fit (parts_some has) i at.0.part is at.0.there (ap (λ ps. seek_position cmp ps key) (sym at.1) ∙ none)) refl after

  -- ---- why it fails

  -- a line of a data block leads nowhere only where a compressor is wanting
  line_wants : (i : ℕ) (status : Status) → LacksLine format.codings cmp bytes (pair_at lines (Some i)) status → Wants agrees status
  line_wants i status (unnamed none code) =
      let line = value_of (λ (pair : Pair). (handle : Handle) → HandleFits handle → pair.1 ≡ handle_bytes handle → ⊥) (pair_at lines (Some i)) none in
      let at = at_line agrees has i line.0 line.1 in
      absurd (line.2 at.0.part.handle at.0.is.is_there.is_there.fits (ap (λ (z : Pair). z.1) at.1))
  line_wants i status (lacking handle names lacks) =
      let at = named_handle agrees has i handle names in
      lacks_block agrees at.0.is.is_there at.0.is.block (subst (λ h. LacksBlock format.codings cmp bytes h status) at.1 lacks)

  block_wants : (to : List Pair → Option ℕ) (line : Option ℕ) (status : Status) → ToBlock format.codings cmp bytes lines to line (Err status) → Wants agrees status
  block_wants to None status nowhere = absurd nowhere
  block_wants to (Some i) status (inl lacks) = line_wants i status lacks
  block_wants to (Some i) status (inr (empty, code)) =
      let at = line_pairs agrees has i [] empty in absurd (at.0.is.some (sym at.1))

  key_wants : (key : List ℕ) (line : Option ℕ) (status : Status) → ToKeyByLine format.codings cmp bytes lines key line (Err status) → Wants agrees status
  key_wants key None status nowhere = absurd nowhere
  key_wants key (Some i) status (inl lacks) = line_wants i status lacks
  key_wants key (Some i) status (inr to) = by (seek_position cmp to.pairs key) to.outcome
    where
      by : (o : Option ℕ) → InsideOr o (record { line = Some i; pairs = to.pairs; inner = None }) (Err status) (ToFirstPair format.codings cmp bytes lines (next_position lines (Some i)) (Err status)) → Wants agrees status
      by (Some j) inside = absurd (cc)
      by None after = block_wants (λ pairs. position_within pairs 0) (next_position lines (Some i)) status after

  -- ---- the steps of a walk

  module _ {C : Type 0} {ordered : CmpGhosts C} (old : TablePlace C) (indexed : IsIndexed ordered cmp parts old) where
    -- by the lines of the data blocks
    along : (P : List Pair → (List ℕ → List ℕ → Ordering) → Type 0) → P (pairs_over old.index) (ordered.cmp old.index.block.cmp) → P lines cmp
    along P is = subst (λ ls. P ls cmp) indexed.lines (subst (λ (o : List ℕ → List ℕ → Ordering). P (pairs_over old.index) o) indexed.ordered is)

    pub step_leads : (accepts_is : (key : List ℕ) → internal_accepts any_user_key key ≡ true → accepts key ≡ true) (to : TableStep) (new : TablePosition) (position : Option ℕ) → step_to ordered to format.codings cmp bytes old (Ok new)
        → IsLedTo to cmp parts (Some old) position → IsAtPairOrNone parts new.line new.pairs new.inner position
    step_leads accepts_is First new position step led =
        subst (λ p. IsAtPairOrNone parts new.line new.pairs new.inner p) (sym led)
        (to_first None (position_within lines 0) (position_within (pairs_in parts) 0) new (after_none parts None None [] None None refl refl refl) refl
        (along (λ ls o. ToFirstPair format.codings cmp bytes ls (position_within ls 0) (Ok new)) step))
    step_leads accepts_is Last new position step led =
        subst (λ p. IsAtPairOrNone parts new.line new.pairs new.inner p) (sym led)
        (to_last (last_position lines) new refl (along (λ ls o. ToLastPair format.codings cmp bytes ls (last_position ls) (Ok new)) step))
    step_leads accepts_is NextBlock new position step led =
        to_first (position_over old.index) (next_position lines (position_over old.index)) position new led refl
        (along (λ ls o. ToFirstPair format.codings cmp bytes ls (next_position ls (position_over old.index)) (Ok new)) step)
    step_leads accepts_is BlockBefore new position step led =
        to_previous (position_over old.index) (previous_position (position_over old.index)) position new led refl
        (along (λ ls o. ToLastPair format.codings cmp bytes ls (previous_position (position_over old.index)) (Ok new)) step)
    step_leads accepts_is (Seek key) new position step led =
        subst (λ p. IsAtPairOrNone parts new.line new.pairs new.inner p) (sym led.0)
        (to_key key.now (accepts_is key.now led.1) (seek_position cmp lines key.now) new refl
        (along (λ ls o. ToKeyByLine format.codings cmp bytes ls key.now (seek_position o ls key.now) (Ok new)) step))

    pub step_wants : (to : TableStep) (status : Status) → step_to ordered to format.codings cmp bytes old (Err status) → Wants agrees status
    step_wants First status step =
        block_wants (λ pairs. position_within pairs 0) (position_within lines 0) status (along (λ ls o. ToFirstPair format.codings cmp bytes ls (position_within ls 0) (Err status)) step)
    step_wants Last status step = block_wants last_position (last_position lines) status (along (λ ls o. ToLastPair format.codings cmp bytes ls (last_position ls) (Err status)) step)
    step_wants NextBlock status step =
        block_wants (λ pairs. position_within pairs 0) (next_position lines (position_over old.index)) status
        (along (λ ls o. ToFirstPair format.codings cmp bytes ls (next_position ls (position_over old.index)) (Err status)) step)
    step_wants BlockBefore status step =
        block_wants last_position (previous_position (position_over old.index)) status
        (along (λ ls o. ToLastPair format.codings cmp bytes ls (previous_position (position_over old.index)) (Err status)) step)
    step_wants (Seek key) status step =
        key_wants key.now (seek_position cmp lines key.now) status (along (λ ls o. ToKeyByLine format.codings cmp bytes ls key.now (seek_position o ls key.now) (Err status)) step)
