-- What the steps of a walk over the tables of files come to, and its moves.
use Rattle.std.specs.Prelude.{IfErr, IfOk, IsErrAnd, IsSome, IsTrue, OnErr, OnOk, is_some, slice_get}
use Rattle.std.proofs.Common.{◌≡◌, ◌≢◌, ◌⊎◌, inl, inr, ⊎_elim, ℕ, zero, suc, ◌+◌, ◌-◌, ◌<◌, ◌≤◌, ◌^◌, Bool, true, false, List, [], ◌∷◌, ◌++◌, length, map, Option, None, Some, Result, Ok, Err, refl, sym, ◌∙◌, ap, subst, arith}
use Rattle.std.proofs.lemmas.Bool.{cases_lt}
use Rattle.std.proofs.lemmas.List.{length-append, length-map}
use Rattle.std.proofs.lemmas.Option.{slice_get-get_or}
use Rattle.std.proofs.lemmas.Result.{IfOk-at_ok, on_ok_weaker}
use Rattle.std.specs.declared.cmp.Ordering.{Ordering}
use Rattle.leveldb_base.specs.Error.{IsOutOfMemory}
use Rattle.leveldb_base.specs.KeyTypes.{internal_cmp}
use Rattle.leveldb_base.specs.Types.{Pair, last_position, next_position, pair_at, position_within}
use Rattle.leveldb_base.specs.declared.cmp.Cmp.{Ghosts as CmpGhosts}
use Rattle.leveldb_base.specs.declared.cmp.internal.InternalKeyCmp.{InternalKeyCmp}
use Rattle.leveldb_base.specs.declared.error.Status.{Status}
use Rattle.leveldb_base.specs.declared.error.StatusCode.TheVariants.{Corruption, NotSupported}
use Rattle.leveldb_base.specs.declared.types.FileMetaData.{FileMetaData}
use Rattle.leveldb_env.specs.Compressor.{Codings}
use Rattle.leveldb_env.specs.declared.env.Env.{Ghosts as EnvGhosts}
use Rattle.leveldb_env.specs.declared.filter.FilterPolicy.{Ghosts as FilterGhosts}
use Rattle.leveldb_iter.specs.Walk.{KeyOrder, MovesWalk, Resets, key_order}
use Rattle.leveldb_table.proofs.TableReaderWalkLemmas.{after_none, is_there_along, last_block, next_in, pairs_cut, position_in, position_none, position_out, some_none, some_there, to_block}
use Rattle.leveldb_table.specs.BlockWalk.{BlockPosition, pairs_over, position_over}
use Rattle.leveldb_table.specs.Table.{Part, index_pair}
use Rattle.leveldb_table.specs.TableReader.{pairs_in}
use Rattle.leveldb_table.specs.TableReaderBlocks.{IsAfterLine}
use Rattle.leveldb_table.specs.TableBlock.{FailsFor}
use Rattle.leveldb_table.specs.TableReaderWalk.{IsAtPairOrNone, TablePlace, inner_pairs, inner_position}
use Rattle.leveldb_table.specs.declared.table_reader.walk.TableStep.{TableStep}
use Rattle.leveldb_table.specs.declared.table_reader.walk.TableStep.TheVariants.{First, Last, NextBlock, BlockBefore, Seek}
use Rattle.leveldb_version.proofs.Versions.SearchLemmas.{same_or_not}
use Rattle.leveldb_version.proofs.Tables.TableCacheLemmas.{on_ok, refused_ok}
use Rattle.leveldb_version.proofs.Tables.TableMoveLemmas.{left_indexed, left_position}
use Rattle.leveldb_files.specs.Stores.Batches.{Each}
use Rattle.leveldb_files.specs.Stores.Format.{IsTableFault, LacksCompressor, Meaning}
use Rattle.leveldb_files.specs.Stores.Store.{IsLastKey}
use Rattle.leveldb_version.specs.Tables.TableCache.{IsSameOrClosed, files_at, path_at, table_at}
use Rattle.leveldb_version.specs.Tables.TableMoves.{FileTable, IsAtInTable, IsIndexedFor, IsLedTo, IsTableAt, IsToEnd, LeavesPairs, MovesInNumbered, StepsInBlock, core_here, core_position, table_pairs}
use Rattle.leveldb_version.specs.Edits.VersionEdit.{new_file_of}
use Rattle.leveldb_version.specs.Walks.VersionIter.{AreOpenGiven, AreTablesThere, FailsInTables, FailsOr, IsAtInTables, IsOverTables, KeepsReading, MovesThere, MovesToFile, StaysThere, StepsInFile, KeepsTableOrNone, reading, table_in, table_part, table_parts, version_here}
use Rattle.leveldb_version.specs.Walks.VersionIterLaws.{fails_before, reading_kept, there_stays}
use Rattle.leveldb_version.specs.declared.table_cache.moves.ReadTables.{ReadTables}
use Rattle.leveldb_version.specs.declared.version_iter.VersionIter.{VersionIter}

-- the table of a file
each_at : (R : ℕ × FileMetaData → FileTable → Type 0) (files : List (ℕ × FileMetaData)) (tables : List FileTable) (i : ℕ) (file : ℕ × FileMetaData) → slice_get files i ≡ Some file → Each R files tables → R file (table_in tables i)
each_at R [] tables i file is each = absurd (never is)
  where
    never : None ≡ Some file → ⊥
    never e = cc
each_at R (x ∷ files) [] i file is each = absurd each
each_at R (x ∷ files) (t ∷ tables) zero file is each = subst (λ f. R f t) (same is) each.0
  where
    same : Some x ≡ Some file → x ≡ file
    same e = cc
each_at R (x ∷ files) (t ∷ tables) (suc i) file is each = each_at R files tables i file is each.1

-- there are as many tables as files
pub each_long : (R : ℕ × FileMetaData → FileTable → Type 0) (files : List (ℕ × FileMetaData)) (tables : List FileTable) → Each R files tables → length files ≡ length tables
each_long R [] [] each = refl
each_long R [] (t ∷ tables) each = absurd each
each_long R (x ∷ files) [] each = absurd each
each_long R (x ∷ files) (t ∷ tables) each = let rest = each_long R files tables each.1 in omega (arith, rest)

-- no pair is where no position is
pub here_none : {C : Type 0} (core : Option (TablePlace C)) → core_position core ≡ None → core_here core ≡ None
here_none None none = refl
here_none (Some core) none = ap (pair_at (inner_pairs core.inner)) none

-- it is at a pair where it has a position
pub here_some : {C : Type 0} (core : Option (TablePlace C)) → is_some (core_here core) ≡ is_some (core_position core)
here_some None = refl
here_some {C = C} (Some core) = by core.inner
  where
    within : (pairs : List Pair) (n : ℕ) → is_some (pair_at pairs (position_within pairs n)) ≡ is_some (position_within pairs n)
    within pairs n = ⊎_elim
        (λ (inside : n < length pairs).
        let is = position_in pairs n inside in
        ap (λ p. is_some (pair_at pairs p)) is ∙ ap is_some (slice_get-get_or pairs n ([], []) inside) ∙ sym (ap is_some is))
        (λ (past : length pairs ≤ n).
        let is = position_out pairs n past in
        ap (λ p. is_some (pair_at pairs p)) is ∙ sym (ap is_some is)) (cases_lt n (length pairs))

    by : (inner : Option (BlockPosition C)) → is_some (pair_at (inner_pairs inner) (inner_position inner)) ≡ is_some (inner_position inner)
    by None = refl
    by (Some walk) = within (pairs_over walk) walk.at

-- so a result that tells of its position tells of its pair
pub told_here : {C : Type 0} (core : Option (TablePlace C)) (result : Result Bool Status) → IfOk result (λ there. there ≡ is_some (core_position core))
    → IfOk result (λ there. there ≡ is_some (core_here core))
told_here core (Ok there) told = told ∙ sym (here_some core)
told_here core (Err status) told = tt

pub told_moved : {C : Type 0} (core : Option (TablePlace C)) {result : Result Bool Status} {there : Bool} → result ≡ Ok there
    → IfOk result (λ it. it ≡ is_some (core_position core)) → there ≡ is_some (core_here core)
told_moved core is told = IfOk-at_ok (λ it. it ≡ is_some (core_position core)) is told ∙ sym (here_some core)

-- after a step in its block
pub told_inside : {C : Type 0} (to : List Pair → Option ℕ → Option ℕ) (old : Option (TablePlace C)) (result : Result Bool Status) (new : Option (TablePlace C)) → StepsInBlock to old result new
    → result ≡ Ok true → true ≡ is_some (core_here new)
told_inside to None result new step made =
    absurd (cc (sym step.1 ∙ made))
told_inside to (Some old) result None step made = absurd step
told_inside to (Some old) result (Some new) step made = told_moved (Some new) made step.there

-- a walk at no pair of its table
pub at_none : {C : Type 0} (order : CmpGhosts C) (cmp : List ℕ → List ℕ → Ordering) (parts : List Part) (core : Option (TablePlace C)) → IsIndexedFor order cmp parts core → core_position core ≡ None → IsAtInTable order cmp parts core None
at_none order cmp parts None indexed none = refl
at_none order cmp parts (Some core) indexed none = record { lines = indexed.lines; ordered = indexed.ordered; at = none }

no_cons : {T : Type 0} {x : T} {xs : List T} → x ∷ xs ≡ [] → ⊥
no_cons e = cc

pub not_true : false ≡ true → ⊥
not_true e = cc

-- a move to an end leads there from wherever the walk is
led_any : {C : Type 0} (to : TableStep) → IsToEnd to → (cmp : List ℕ → List ℕ → Ordering) (parts : List Part) (core : Option (TablePlace C)) (position : Option ℕ) → IsLedTo {C = C} to cmp parts None position → IsLedTo to cmp parts core position
led_any First ends cmp parts core position led = led
led_any Last ends cmp parts core position led = led
led_any NextBlock ends cmp parts core position led = absurd ends
led_any BlockBefore ends cmp parts core position led = absurd ends
led_any (Seek key) ends cmp parts core position led = absurd ends

-- to a pair, where there is one
end_led : (C : Type 0) (to : TableStep) → IsToEnd to → (cmp : List ℕ → List ℕ → Ordering) (parts : List Part) → pairs_in parts ≢ [] → (n : ℕ) × IsLedTo {C = C} to cmp parts None (Some n)
end_led C First ends cmp parts some = (0, sym (position_in (pairs_in parts) 0 (some_long (pairs_in parts) some)))
  where
    some_long : (xs : List Pair) → xs ≢ [] → 0 < length xs
    some_long [] some = absurd (some refl)
    some_long (x ∷ xs) some = omega arith
end_led C Last ends cmp parts some = by (pairs_in parts) some
  where
    by : (xs : List Pair) → xs ≢ [] → (n : ℕ) × (Some n ≡ last_position xs)
    by [] some = absurd (some refl)
    by (x ∷ xs) some = (length xs, refl)
end_led C NextBlock ends cmp parts some = absurd ends
end_led C BlockBefore ends cmp parts some = absurd ends
end_led C (Seek key) ends cmp parts some = absurd ends

-- a list with a last key has a pair
pub last_key_some : {key : List ℕ} {pairs : List Pair} → IsLastKey key pairs → pairs ≢ []
last_key_some {key} {pairs} last none = by last.0 (sym last.2 ∙ none)
  where
    by : (front : List Pair) → front ++ (key, last.1) ∷ [] ≡ [] → ⊥
    by [] e = no_cons e
    by (x ∷ front) e = no_cons e

long_some : (xs : List Pair) → xs ≢ [] → 0 < length xs
long_some [] some = absurd (some refl)
long_some (x ∷ xs) some = omega arith

some_last : (xs : List Pair) → xs ≢ [] → (k : ℕ) × (last_position xs ≡ Some k)
some_last [] some = absurd (some refl)
some_last (x ∷ xs) some = (length xs, refl)

last_line : (xs : List Pair) (i : ℕ) → length xs ≡ i + 1 → last_position xs ≡ Some i
last_line [] i count = absurd (omega (arith, count))
last_line (x ∷ xs) i count = ap Some (omega (arith, count))

no_tables : (xs : List FileTable) → length xs ≡ 0 → xs ≡ []
no_tables [] none = refl
no_tables (x ∷ xs) none = absurd (omega (arith, none))

pub no_some : {T : Type 0} (o : Option T) → false ≡ is_some o → o ≡ None
no_some None e = refl
no_some (Some x) e = absurd (not_true e)

-- a walk at a pair of its table is at a position
at_some : {C : Type 0} (order : CmpGhosts C) (cmp : List ℕ → List ℕ → Ordering) (parts : List Part) (core : Option (TablePlace C)) (n : ℕ) → IsAtInTable order cmp parts core (Some n) → core_position core ≡ None → ⊥
at_some order cmp parts None n at none = some_none at
at_some order cmp parts (Some core) n at none = let pair = at.at in some_none (sym pair.at_position ∙ none)

-- a walk at no pair is at no position
pub inner_none : {C : Type 0} (order : CmpGhosts C) (cmp : List ℕ → List ℕ → Ordering) (parts : List Part) (core : Option (TablePlace C)) (inner : Option ℕ) → IsAtInTable order cmp parts core inner → core_position core ≡ None → inner ≡ None
inner_none order cmp parts core None at none = refl
inner_none order cmp parts core (Some n) at none = absurd (at_some order cmp parts core n at none)

outer_none : (parts : List Part) (line : Option ℕ) (pairs : List Pair) (inner position : Option ℕ) → inner ≡ None → IsAtPairOrNone parts line pairs inner position → position ≡ None
outer_none parts line pairs inner None none at = refl
outer_none parts line pairs inner (Some n) none at = absurd (some_none (sym at.at_position ∙ none))

-- a pair of a block is one of all
some_position : (parts : List Part) (line : Option ℕ) (pairs : List Pair) (inner : Option ℕ) (k : ℕ) (position : Option ℕ) → inner ≡ Some k → IsAtPairOrNone parts line pairs inner position → (n : ℕ) × (position ≡ Some n)
some_position parts line pairs inner k None is at = absurd (some_none (sym is ∙ at))
some_position parts line pairs inner k (Some n) is at = (n, refl)

-- a step inside a block to its next pair
inside_next : {C : Type 0} (order : CmpGhosts C) (cmp : List ℕ → List ℕ → Ordering) (parts : List Part) (old : Option (TablePlace C)) (result : Result Bool Status) (new : Option (TablePlace C)) (inner : Option ℕ) → StepsInBlock next_position old result new → result ≡ Ok true
    → is_some (core_position old) ≡ true → IsAtInTable order cmp parts old inner → IsAtInTable order cmp parts new (next_position (pairs_in parts) inner) × ((k : ℕ) × (next_position (pairs_in parts) inner ≡ Some k) × (inner ≡ None → ⊥))
inside_next order cmp parts None result new inner step made valid at = absurd (not_true valid)
inside_next order cmp parts (Some old) result None inner step made valid at = absurd step
inside_next order cmp parts (Some old) result (Some new) None step made valid at = absurd (not_true (sym (ap is_some at.at) ∙ valid))
inside_next order cmp parts (Some old) result (Some new) (Some n) step made valid at =
    let moved = subst (λ r. OnOk r (inner_position new.inner ≡ next_position (inner_pairs old.inner) (inner_position old.inner))) made step.ok in
    let there = subst (λ r. IfOk r (λ there. there ≡ is_some (inner_position new.inner))) made step.there in
    let k = some_there (inner_position new.inner) (sym there) in
    let landed = next_in at.at k.0 (sym moved ∙ k.1) in
    let lands = is_there_along parts (next_position (pairs_in parts) (Some n)) (ap position_over step.index) step.pairs k.1 landed in
    let some = some_position parts (position_over new.index) (inner_pairs new.inner) (inner_position new.inner) k.0 (next_position (pairs_in parts) (Some n)) k.1 lands in
    (record { lines = ap pairs_over step.index ∙ at.lines; ordered = ap (λ z. order.cmp z.block.cmp) step.index ∙ at.ordered; at = lands }, (some.0, some.1, λ none. some_none none))

-- the next pair of a table is the next of all
pub outer_next : (parts : List Part) (line : Option ℕ) (pairs : List Pair) (inner position : Option ℕ) (k : ℕ) → next_position pairs inner ≡ Some k → IsAtPairOrNone parts line pairs inner position → (inner ≡ None → ⊥) → IsAtPairOrNone parts line pairs (next_position pairs inner) (next_position (pairs_in parts) position)
outer_next parts line pairs inner None k is at some = absurd (some at)
outer_next parts line pairs inner (Some n) k is at some = subst (λ z. IsAtPairOrNone parts line pairs z (next_position (pairs_in parts) (Some n))) (sym is) (next_in at k is)

-- what a step inside a block leaves
inside_indexed : {C : Type 0} (order : CmpGhosts C) (to : List Pair → Option ℕ → Option ℕ) (cmp : List ℕ → List ℕ → Ordering) (parts : List Part) (old : Option (TablePlace C)) (result : Result Bool Status) (new : Option (TablePlace C))
    → StepsInBlock to old result new → IsIndexedFor order cmp parts old → IsIndexedFor order cmp parts new
inside_indexed order to cmp parts None result new step indexed = subst (IsIndexedFor order cmp parts) (sym step.0) tt
inside_indexed order to cmp parts (Some old) result None step indexed = absurd step
inside_indexed order to cmp parts (Some old) result (Some new) step indexed = record { lines = ap pairs_over step.index ∙ indexed.lines; ordered = ap (λ z. order.cmp z.block.cmp) step.index ∙ indexed.ordered }

inside_memory : {C : Type 0} (to : List Pair → Option ℕ → Option ℕ) (old : Option (TablePlace C)) (result : Result Bool Status) (new : Option (TablePlace C)) → StepsInBlock to old result new → IfErr result IsOutOfMemory
inside_memory to None result new step = subst (λ r. IfErr r IsOutOfMemory) (sym step.1) tt
inside_memory to (Some old) result None step = absurd step
inside_memory to (Some old) result (Some new) step = step.memory

inside_err : {C : Type 0} (to : List Pair → Option ℕ → Option ℕ) (old : Option (TablePlace C)) (result : Result Bool Status) (new : Option (TablePlace C)) → StepsInBlock to old result new → OnErr result (core_position new ≡ None)
inside_err to None result new step = subst (λ r. OnErr r (core_position new ≡ None)) (sym step.1) tt
inside_err to (Some old) result None step = absurd step
inside_err to (Some old) result (Some new) step = step.err

-- the table of a file that is there
pub each_in : (R : ℕ × FileMetaData → FileTable → Type 0) (files : List (ℕ × FileMetaData)) (tables : List FileTable) (i : ℕ) → i < length files → Each R files tables → (file : ℕ × FileMetaData) × R file (table_in tables i)
each_in R [] tables i within each = absurd (omega (arith, within))
each_in R (x ∷ files) [] i within each = absurd each
each_in R (x ∷ files) (t ∷ tables) zero within each = (x, each.0)
each_in R (x ∷ files) (t ∷ tables) (suc i) within each = each_in R files tables i (omega (arith, within)) each.1

-- after the last table is no position
past_tables : (parts : List Part) (line position : Option ℕ) (i : ℕ) → IsAfterLine parts line position → next_position (map index_pair parts) line ≡ position_within (map index_pair parts) i → length parts ≤ i → position ≡ None
past_tables parts line position i after is past =
    let out = position_out (map index_pair parts) i (let long = length-map parts index_pair in omega (arith, long, past)) in
    let behind = position_none (map index_pair parts) (length after.before) (sym after.next ∙ is ∙ out) in
    let all : length parts ≡ length after.before + length after.after = ap length after.parted ∙ length-append after.before after.after in
    let rest : after.after ≡ [] = empty after.after (omega (arith, behind, all, length-map parts index_pair)) in
    let pairs : pairs_in parts ≡ pairs_in after.before ++ pairs_in after.after = ap pairs_in after.parted ∙ pairs_cut after.before after.after in
    let last : length (pairs_in after.after) ≡ 0 = ap (λ z. length (pairs_in z)) rest in
    after.to ∙ position_out (pairs_in parts) (length (pairs_in after.before)) (omega (arith, ap length pairs, length-append (pairs_in after.before) (pairs_in after.after), last))
  where
    empty : (xs : List Part) → length xs ≡ 0 → xs ≡ []
    empty [] e = refl
    empty (x ∷ xs) e = absurd (omega (arith, e))

pub part_in : (tables : List FileTable) (i : ℕ) → i < length tables → slice_get (table_parts tables) i ≡ Some (table_part (table_in tables i))
part_in [] i within = absurd (omega (arith, within))
part_in (t ∷ tables) zero within = refl
part_in (t ∷ tables) (suc i) within = part_in tables i (omega (arith, within))

module _ {E C FP K F : Type 0} (order : CmpGhosts (InternalKeyCmp C)) (env : EnvGhosts E F) (cmp : CmpGhosts C) (filters : FilterGhosts FP) (codings : K → Codings) where
  -- ---- why it fails

  fails_or : {Why : Status → Type 0} {These : Type 0} (first later : E × ReadTables E C FP K F) {R : Type 0} (status : Status) (along : Why status → These) → FailsFor env {T = R} Why first.0 later.0 (Err status)
      → FailsOr env cmp filters codings These first later status
  fails_or {Why} {These} first later status along fails = by fails.cause
    where
      by : (IsOutOfMemory status ⊎ ((env.failures later.0 ≡ env.failures first.0) × Why status)) ⊎ (env.failures later.0 ≡ env.failures first.0 + 1) ⊎ ((env.failures first.0 ≡ 2 ^ 64 - 1) × (env.failures later.0 ≡ env.failures first.0))
          → FailsOr env cmp filters codings These first later status
      by (inl (inl out)) = inl out
      by (inl (inr why)) = inr (inr (inr (along why.1)))
      by (inr (inl counted)) = inr (inl (omega (arith, counted)))
      by (inr (inr most)) = inr (inr (inl (most.1 ∙ most.0)))

  -- ---- a move in the table of a file

  module _ (order_is : (c : C) → order.cmp (record { 0 = c }) ≡ internal_cmp (cmp.cmp c)) (to : TableStep) (world : E × ReadTables E C FP K F) (old : VersionIter C) (result : Result Bool Status) (later : E × ReadTables E C FP K F)
      (core : Option (TablePlace (InternalKeyCmp C))) (file : ℕ × FileMetaData) (is : slice_get old.files.now old.at ≡ Some file) (kept : KeepsReading order env cmp filters codings world later)
      (moves : MovesInNumbered order env (reading env cmp filters codings world.1) (new_file_of file).number to world.0 world.1.cache.now old.core result later.0 later.1.cache.now core) where
    abbrev Keys : List ℕ → List ℕ → Ordering
    Keys = internal_cmp (cmp.cmp world.1.cmp)

    landed : (meaning : Meaning) (tables : List FileTable) → AreTablesThere order env cmp filters codings meaning world old tables
        → ((position : Option ℕ) → IsLedTo to Keys (table_in tables old.at).parts old.core position → OnOk result (IsAtInTable order Keys (table_in tables old.at).parts core position))
        × IsIndexedFor order Keys (table_in tables old.at).parts core
        × FailsFor env (λ status. (status.code ≡ NotSupported) × LacksCompressor (reading env cmp filters codings world.1).format meaning) world.0 later.0 result
    landed meaning tables there =
        let one = each_at (λ file table. ((new_file_of file).number < 2 ^ 64) × ((new_file_of file).largest ≡ table.largest)
        × IsTableAt (cmp.cmp world.1.cmp) meaning (files_at env world.0) (path_at world.1.cache.now (new_file_of file).number) table × ((new_file_of file).number < world.1.below)) old.files.now tables old.at file is there.each in
        moves.table there.matched meaning there.agrees (table_in tables old.at) one.2
        (subst (λ (o : List ℕ → List ℕ → Ordering). IsIndexedFor order o (table_in tables old.at).parts old.core) (order_is world.1.cmp) there.indexed)

    there_after : (meaning : Meaning) (tables : List FileTable) → AreTablesThere order env cmp filters codings meaning world old tables → AreTablesThere order env cmp filters codings meaning later (record old { core = core }) tables
    there_after meaning tables there =
        let stays = there_stays world later kept old meaning tables there in record {
          matched = stays.matched;
          agrees = stays.agrees;
          each = stays.each;
          indexed = subst (λ (c : C). IsIndexedFor order (order.cmp (record { 0 = c })) (table_in tables old.at).parts core) (sym kept.cmp_stays)
              (subst (λ (o : List ℕ → List ℕ → Ordering). IsIndexedFor order o (table_in tables old.at).parts core) (sym (order_is world.1.cmp)) (landed meaning tables there).1);
        }

    caused : (r : Result Bool Status) → FailsFor env (λ status. IsTableFault (reading env cmp filters codings world.1).format status.code) world.0 later.0 r
        → ((meaning : Meaning) (tables : List FileTable) → AreTablesThere order env cmp filters codings meaning world old tables
        → FailsFor env (λ status. (status.code ≡ NotSupported) × LacksCompressor (reading env cmp filters codings world.1).format meaning) world.0 later.0 r)
        → IfErr r (FailsInTables order env cmp filters codings world old later)
    caused (Ok there) fails lacks = tt
    caused (Err status) fails lacks = record {
      fault = fails_or world later status (λ fault. fault) fails;
      lacks = λ meaning tables there. fails_or world later status (λ wants. wants) (lacks meaning tables there);
    }

    pub steps_in_file : StepsInFile order env cmp filters codings to world old result later (record old { core = core })
    steps_in_file = record {
      moves = record {
        stays = record { kept = kept; files = refl; there = there_after };
        cause = caused result moves.reads.cause (λ meaning tables there. (landed meaning tables there).2);
        err = moves.err;
      };
      there = moves.there;
      at = refl;
      ok = λ meaning tables there within position led.
          subst (λ (o : List ℕ → List ℕ → Ordering). OnOk result (IsAtInTable order o (table_in tables old.at).parts core position)) (sym (order_is world.1.cmp))
          ((landed meaning tables there).0 position (subst (λ (o : List ℕ → List ℕ → Ordering). IsLedTo to o (table_in tables old.at).parts old.core position) (order_is world.1.cmp) led));
    }

  -- no table is opened whose number wasn't given
  given_still : (world later : E × ReadTables E C FP K F) (number : ℕ) → number < world.1.below → later.1.below ≡ world.1.below
      → ((other : ℕ) → other < 2 ^ 64 → other ≢ number → IsSameOrClosed other world.1.cache.now later.1.cache.now) → AreOpenGiven world → AreOpenGiven later
  given_still world later number below same others given n fits is_open = subst (λ b. n < b) (sym same) (⊎_elim
      (λ (one : n ≡ number). subst (λ m. m < world.1.below) (sym one) below)
      (λ (apart : n ≢ number). given n fits (⊎_elim
      (λ (closed : table_at later.1.cache.now n ≡ None). absurd (not_true (subst IsSome closed is_open)))
      (λ (was : table_at later.1.cache.now n ≡ table_at world.1.cache.now n). subst IsSome was is_open)
      (others n fits apart)))
      (same_or_not n number))

  -- what a move in the table of a number that was given leaves of the world
  pub kept_given : (world later : E × ReadTables E C FP K F) {number : ℕ} {to : TableStep} {core new_core : Option (TablePlace (InternalKeyCmp C))} {result : Result Bool Status} → number < world.1.below
      → later.1.cmp ≡ world.1.cmp → later.1.policy ≡ world.1.policy → later.1.compressors ≡ world.1.compressors → later.1.below ≡ world.1.below → later.1.cache.ghost_name ≡ world.1.cache.ghost_name
      → MovesInNumbered order env (reading env cmp filters codings world.1) number to world.0 world.1.cache.now core result later.0 later.1.cache.now new_core → KeepsReading order env cmp filters codings world later
  kept_given world later {number} below same_cmp same_policy same_compressors same_below same_reference moves = record {
    cmp_stays = same_cmp;
    policy_stays = same_policy;
    compressors_stay = same_compressors;
    below_stays = same_below;
    reference = same_reference;
    tables = moves.keeps;
    given = given_still world later number below same_below moves.others;
  }

  pub there_left : (world : E × ReadTables E C FP K F) (old new : VersionIter C) → LeavesPairs old.core new.core → new.at ≡ old.at → new.files.now ≡ old.files.now → (meaning : Meaning) (tables : List FileTable)
      → AreTablesThere order env cmp filters codings meaning world old tables → AreTablesThere order env cmp filters codings meaning world new tables
  there_left world old new left at files meaning tables there = record {
    matched = there.matched;
    agrees = there.agrees;
    each = subst (λ (fs : List (ℕ × FileMetaData)). Each (λ file table. ((new_file_of file).number < 2 ^ 64) × ((new_file_of file).largest ≡ table.largest)
        × IsTableAt (cmp.cmp world.1.cmp) meaning (files_at env world.0) (path_at world.1.cache.now (new_file_of file).number) table × ((new_file_of file).number < world.1.below)) fs tables) (sym files) there.each;
    indexed = subst (λ i. IsIndexedFor order (order.cmp (record { 0 = world.1.cmp })) (table_in tables i).parts new.core) (sym at)
        (left_indexed order (order.cmp (record { 0 = world.1.cmp })) (table_in tables old.at).parts old.core new.core left there.indexed);
  }

  -- past the last file
  pub steps_past : (to : TableStep) (world : E × ReadTables E C FP K F) (old new : VersionIter C) → LeavesPairs old.core new.core → new.at ≡ old.at → new.files.now ≡ old.files.now → length old.files.now ≤ old.at
      → StepsInFile order env cmp filters codings to world old (Ok false) world new
  steps_past to world old new left at files none = record {
    moves = record {
      stays = record { kept = reading_kept world; files = files; there = λ meaning tables there. there_left world old new left at files meaning tables there };
      cause = tt;
      err = tt;
    };
    there = sym (ap is_some (left_position old.core new.core left));
    at = at;
    ok = λ meaning tables there within position led. absurd (let long = each_long (λ file table. ((new_file_of file).number < 2 ^ 64) × ((new_file_of file).largest ≡ table.largest)
        × IsTableAt (cmp.cmp world.1.cmp) meaning (files_at env world.0) (path_at world.1.cache.now (new_file_of file).number) table × ((new_file_of file).number < world.1.below)) old.files.now tables there.each in omega (arith, long, none, within));
  }

  -- a file's number was never given
  pub steps_ungiven : (to : TableStep) (world : E × ReadTables E C FP K F) (old new : VersionIter C) → LeavesPairs old.core new.core → new.at ≡ old.at → new.files.now ≡ old.files.now → (file : ℕ × FileMetaData) → slice_get old.files.now old.at ≡ Some file
      → world.1.below ≤ (new_file_of file).number → (result : Result Bool Status) → IsErrAnd result (λ status. status.code ≡ Corruption) → StepsInFile order env cmp filters codings to world old result world new
  steps_ungiven to world old new left at files file is above (Ok there) damaged = absurd damaged
  steps_ungiven to world old new left at files file is above (Err status) damaged = record {
    moves = record {
      stays = record { kept = reading_kept world; files = files; there = λ meaning tables there. there_left world old new left at files meaning tables there };
      cause = record {
        fault = inr (inr (inr (inl damaged)));
        lacks = λ meaning tables there. absurd (not_there meaning tables there);
      };
      err = left_position old.core new.core left;
    };
    there = tt;
    at = at;
    ok = λ meaning tables there within position led. tt;
  }
    where
      not_there : (meaning : Meaning) (tables : List FileTable) → AreTablesThere order env cmp filters codings meaning world old tables → ⊥
      not_there meaning tables there =
          let one = each_at (λ file table. ((new_file_of file).number < 2 ^ 64) × ((new_file_of file).largest ≡ table.largest)
          × IsTableAt (cmp.cmp world.1.cmp) meaning (files_at env world.0) (path_at world.1.cache.now (new_file_of file).number) table × ((new_file_of file).number < world.1.below)) old.files.now tables old.at file is there.each in
          let below = one.3 in omega (arith, below, above)

  -- ---- a move to the end of a file's table

  module _ (world : E × ReadTables E C FP K F) (old turned : VersionIter C) (turns : KeepsTableOrNone old.at old.core turned.at turned.core) (files : turned.files.now ≡ old.files.now) where
    pub there_turned : (meaning : Meaning) (tables : List FileTable) → AreTablesThere order env cmp filters codings meaning world old tables → AreTablesThere order env cmp filters codings meaning world turned tables
    there_turned meaning tables there = record {
      matched = there.matched;
      agrees = there.agrees;
      each = subst (λ (fs : List (ℕ × FileMetaData)). Each (λ file table. ((new_file_of file).number < 2 ^ 64) × ((new_file_of file).largest ≡ table.largest)
          × IsTableAt (cmp.cmp world.1.cmp) meaning (files_at env world.0) (path_at world.1.cache.now (new_file_of file).number) table × ((new_file_of file).number < world.1.below)) fs tables) (sym files) there.each;
      indexed = ⊎_elim
          (λ (anew : turned.core ≡ None). subst (IsIndexedFor order (order.cmp (record { 0 = world.1.cmp })) (table_in tables turned.at).parts) (sym anew) tt)
          (λ (same : (old.at ≡ turned.at) × (turned.core ≡ old.core)). subst (λ i. IsIndexedFor order (order.cmp (record { 0 = world.1.cmp })) (table_in tables i).parts turned.core) same.0
          (subst (IsIndexedFor order (order.cmp (record { 0 = world.1.cmp })) (table_in tables old.at).parts) (sym same.1) there.indexed))
          turns;
    }

    module _ (to : TableStep) (ends : IsToEnd to) (r : Result Bool Status) (later : E × ReadTables E C FP K F) (new : VersionIter C) (step : StepsInFile order env cmp filters codings to world turned r later new) (within : turned.at < length old.files.now) where
      stays_turned : StaysThere order env cmp filters codings world old later new
      stays_turned = let stays = step.moves.stays in record {
        kept = stays.kept;
        files = stays.files ∙ files;
        there = λ meaning tables there. stays.there meaning tables (there_turned meaning tables there);
      }

      fails_turned : (q : Result Bool Status) → IfErr q (FailsInTables order env cmp filters codings world turned later) → IfErr q (FailsInTables order env cmp filters codings world old later)
      fails_turned (Ok there) fails = tt
      fails_turned (Err status) fails = fails_before world world (reading_kept world) old turned there_turned later status fails

      ok_turned : (meaning : Meaning) (tables : List FileTable) → AreTablesThere order env cmp filters codings meaning world old tables → turned.at < length tables → (position : Option ℕ)
          → IsLedTo {C = InternalKeyCmp C} to (order.cmp (record { 0 = world.1.cmp })) (table_in tables turned.at).parts None position → OnOk r (IsAtInTable order (order.cmp (record { 0 = world.1.cmp })) (table_in tables turned.at).parts new.core position)
      ok_turned meaning tables there in_tables position led = step.ok meaning tables (there_turned meaning tables there) in_tables position (led_any to ends (order.cmp (record { 0 = world.1.cmp })) (table_in tables turned.at).parts turned.core position led)

      pub to_file_made : IfOk r IsTrue → MovesToFile order env cmp filters codings turned.at to world old r later new
      to_file_made made = record {
        moves = record { stays = stays_turned; cause = fails_turned r step.moves.cause; err = step.moves.err };
        there = step.there;
        past = λ past. absurd (omega (arith, past, within));
        at_file = λ inside. step.at;
        some = λ inside. made;
        ok = ok_turned;
      }

      pub to_file_refused : {status : Status} → r ≡ Err status → (result : Result Bool Status) → IsErrAnd result (λ other. other ≡ status) → MovesToFile order env cmp filters codings turned.at to world old result later new
      to_file_refused r_is (Ok there) refused = absurd refused
      to_file_refused r_is (Err other) refused = subst (λ (q : Result Bool Status). MovesToFile order env cmp filters codings turned.at to world old q later new) (r_is ∙ ap Err (sym refused))
          (to_file_made (subst (λ (q : Result Bool Status). IfOk q IsTrue) (sym r_is) tt))

      -- a table without a pair is damaged
      pub to_file_empty : r ≡ Ok false → (result : Result Bool Status) → IsErrAnd result (λ status. status.code ≡ Corruption) → MovesToFile order env cmp filters codings turned.at to world old result later new
      to_file_empty r_is (Ok there) damaged = absurd damaged
      to_file_empty r_is (Err status) damaged = record {
        moves = record {
          stays = stays_turned;
          cause = record {
            fault = inr (inr (inr (inl damaged)));
            lacks = λ meaning tables there. absurd (not_empty meaning tables there);
          };
          err = nowhere;
        };
        there = tt;
        past = λ past. absurd (omega (arith, past, within));
        at_file = λ inside. step.at;
        some = λ inside. tt;
        ok = λ meaning tables there in_tables position led. tt;
      }
        where
          nowhere : core_position new.core ≡ None
          nowhere = no_some (core_position new.core) (subst (λ q. IfOk q (λ there. there ≡ is_some (core_position new.core))) r_is step.there)

          not_empty : (meaning : Meaning) (tables : List FileTable) → AreTablesThere order env cmp filters codings meaning world old tables → ⊥
          not_empty meaning tables there =
              let long = each_long (λ file table. ((new_file_of file).number < 2 ^ 64) × ((new_file_of file).largest ≡ table.largest)
              × IsTableAt (cmp.cmp world.1.cmp) meaning (files_at env world.0) (path_at world.1.cache.now (new_file_of file).number) table × ((new_file_of file).number < world.1.below)) old.files.now tables there.each in
              let some = each_in (λ file table. ((new_file_of file).number < 2 ^ 64) × ((new_file_of file).largest ≡ table.largest)
              × IsTableAt (cmp.cmp world.1.cmp) meaning (files_at env world.0) (path_at world.1.cache.now (new_file_of file).number) table × ((new_file_of file).number < world.1.below)) old.files.now tables turned.at within there.each in
              let led = end_led (InternalKeyCmp C) to ends (order.cmp (record { 0 = world.1.cmp })) (table_in tables turned.at).parts (last_key_some some.1.2.last) in
              let at = subst (λ q. OnOk q (IsAtInTable order (order.cmp (record { 0 = world.1.cmp })) (table_in tables turned.at).parts new.core (Some led.0))) r_is
              (ok_turned meaning tables there (omega (arith, long, within)) (Some led.0) led.1) in
              at_some order (order.cmp (record { 0 = world.1.cmp })) (table_in tables turned.at).parts new.core led.0 at nowhere

  -- past the last file
  pub to_file_past : (at : ℕ) (to : TableStep) (world : E × ReadTables E C FP K F) (old new : VersionIter C) → LeavesPairs old.core new.core → new.at ≡ old.at → new.files.now ≡ old.files.now → length old.files.now ≤ at
      → MovesToFile order env cmp filters codings at to world old (Ok false) world new
  to_file_past at to world old new left same files past = record {
    moves = record {
      stays = record { kept = reading_kept world; files = files; there = λ meaning tables there. there_left world old new left same files meaning tables there };
      cause = tt;
      err = tt;
    };
    there = sym (ap is_some (left_position old.core new.core left));
    past = λ more. left_position old.core new.core left;
    at_file = λ inside. absurd (omega (arith, inside, past));
    some = λ inside. absurd (omega (arith, inside, past));
    ok = λ meaning tables there within position led. absurd (let long = each_long (λ file table. ((new_file_of file).number < 2 ^ 64) × ((new_file_of file).largest ≡ table.largest)
        × IsTableAt (cmp.cmp world.1.cmp) meaning (files_at env world.0) (path_at world.1.cache.now (new_file_of file).number) table × ((new_file_of file).number < world.1.below)) old.files.now tables there.each in omega (arith, long, past, within));
  }

  -- ---- the moves of the walk

  abbrev Over : E × ReadTables E C FP K F → VersionIter C → KeyOrder → List Pair → Type 0
  Over = IsOverTables order env cmp filters codings

  abbrev At : E × ReadTables E C FP K F → VersionIter C → KeyOrder → List Pair → Option ℕ → Type 0
  At = IsAtInTables order env cmp filters codings

  -- the list stays
  unfoldable pub over_after : (world : E × ReadTables E C FP K F) (old : VersionIter C) (later : E × ReadTables E C FP K F) (new : VersionIter C) → StaysThere order env cmp filters codings world old later new
      → (keys : KeyOrder) (pairs : List Pair) → Over world old keys pairs → Over later new keys pairs
  over_after world old later new stays keys pairs over = let kept = stays.kept in record {
    meaning = over.meaning;
    tables = over.tables;
    there = stays.there over.meaning over.tables over.there;
    keys_are = over.keys_are ∙ ap (λ (c : C). key_order order (record { 0 = c })) (sym kept.cmp_stays);
    pairs_are = over.pairs_are;
    sorted = over.sorted;
    parted = over.parted;
    accepted = over.accepted;
  }

  -- at no pair it is at no position
  pub none_after : (world : E × ReadTables E C FP K F) (it : VersionIter C) → core_position it.core ≡ None → (keys : KeyOrder) (pairs : List Pair) → Over world it keys pairs → At world it keys pairs None
  none_after world it none keys pairs over = record {
    over = over;
    inner = None;
    in_table = at_none order keys.cmp (table_in over.tables it.at).parts it.core
        (let there = over.there in subst (λ (o : KeyOrder). IsIndexedFor order o.cmp (table_in over.tables it.at).parts it.core) (sym over.keys_are) there.indexed) none;
    at = refl;
  }

  -- what a move comes to, where it is said to which position it leads
  pub walk_moves : {R : Type 0} (From : E × ReadTables E C FP K F → VersionIter C → KeyOrder → List Pair → Option ℕ → Type 0) (to : KeyOrder → List Pair → Option ℕ → Option ℕ)
      (world : E × ReadTables E C FP K F) (old : VersionIter C) (result : Result R Status) (later : E × ReadTables E C FP K F) (new : VersionIter C)
      → MovesThere order env cmp filters codings world old result later new
      → ((keys : KeyOrder) (pairs : List Pair) (position : Option ℕ) → From world old keys pairs position → OnOk result (At later new keys pairs (to keys pairs position)))
      → MovesWalk Over At version_here (FailsInTables order env cmp filters codings) (KeepsReading order env cmp filters codings) From to world old result later new
  walk_moves From to world old result later new moves ok = let stays = moves.stays in record {
    ok = ok;
    same = over_after world old later new stays;
    err = λ keys pairs over. on_err_weaker result (λ none. none_after later new none keys pairs (over_after world old later new stays keys pairs over)) moves.err;
    none = on_err_weaker result (here_none new.core) moves.err;
    kept = stays.kept;
    cause = moves.cause;
    excuses = fails_before world later stays.kept old new stays.there;
  }
    where
      on_err_weaker : {R P Q : Type 0} (r : Result R Status) → (P → Q) → OnErr r P → OnErr r Q
      on_err_weaker (Ok x) f is = tt
      on_err_weaker (Err s) f is = f is

  pub moves_made : {R S : Type 0} {x : R} {world later : E × ReadTables E C FP K F} {old new : VersionIter C} (y : S) → MovesThere order env cmp filters codings world old (Ok x) later new → MovesThere order env cmp filters codings world old (Ok y) later new
  moves_made y moves = record { stays = moves.stays; cause = tt; err = tt }

  moves_refused : {R S : Type 0} {status : Status} {world later : E × ReadTables E C FP K F} {old new : VersionIter C} (result : Result S Status) → IsErrAnd result (λ other. other ≡ status)
      → MovesThere order env cmp filters codings {R = R} world old (Err status) later new → MovesThere order env cmp filters codings world old result later new
  moves_refused (Ok x) refused moves = absurd refused
  moves_refused {world = world} {later} {old} (Err other) refused moves = record {
    stays = moves.stays;
    cause = subst (FailsInTables order env cmp filters codings world old later) (sym refused) moves.cause;
    err = moves.err;
  }

  -- a move that is refused
  pub walk_refused : {R S : Type 0} {status : Status} (From : E × ReadTables E C FP K F → VersionIter C → KeyOrder → List Pair → Option ℕ → Type 0) (to : KeyOrder → List Pair → Option ℕ → Option ℕ)
      (world : E × ReadTables E C FP K F) (old : VersionIter C) (result : Result S Status) (later : E × ReadTables E C FP K F) (new : VersionIter C) → IsErrAnd result (λ other. other ≡ status)
      → MovesThere order env cmp filters codings {R = R} world old (Err status) later new
      → MovesWalk Over At version_here (FailsInTables order env cmp filters codings) (KeepsReading order env cmp filters codings) From to world old result later new
  walk_refused {status = status} From to world old result later new refused moves =
      walk_moves From to world old result later new (moves_refused result refused moves) (λ keys pairs position from. refused_ok (λ other. other ≡ status) _ result refused)

  -- to no position
  pub walk_resets : (old new : VersionIter C) → LeavesPairs old.core new.core → new.at ≡ old.at → new.files.now ≡ old.files.now
      → Resets Over At version_here (FailsInTables order env cmp filters codings) (KeepsReading order env cmp filters codings) old new
  walk_resets old new left same files = record {
    at_none = λ world keys pairs over. none_after world new (left_position old.core new.core left) keys pairs (over_after world old world new (stays world) keys pairs over);
    none = here_none new.core (left_position old.core new.core left);
    excuses = λ world later status. fails_before world world (reading_kept world) old new (λ meaning tables there. there_left world old new left same files meaning tables there) later status;
  }
    where
      stays : (world : E × ReadTables E C FP K F) → StaysThere order env cmp filters codings world old world new
      stays world = record { kept = reading_kept world; files = files; there = λ meaning tables there. there_left world old new left same files meaning tables there }

  -- ---- to the first pair of a file's table

  module _ {world : E × ReadTables E C FP K F} {old : VersionIter C} {keys : KeyOrder} {pairs : List Pair} (over : Over world old keys pairs) where
    pub tables_long : length old.files.now ≡ length over.tables
    tables_long = let there = over.there in each_long (λ file table. ((new_file_of file).number < 2 ^ 64) × ((new_file_of file).largest ≡ table.largest)
        × IsTableAt (cmp.cmp world.1.cmp) over.meaning (files_at env world.0) (path_at world.1.cache.now (new_file_of file).number) table × ((new_file_of file).number < world.1.below)) old.files.now over.tables there.each

    table_some : (i : ℕ) → i < length over.tables → table_pairs (table_in over.tables i) ≢ []
    table_some i within =
        let there = over.there in let long = tables_long in
        let one = each_in (λ file table. ((new_file_of file).number < 2 ^ 64) × ((new_file_of file).largest ≡ table.largest)
        × IsTableAt (cmp.cmp world.1.cmp) over.meaning (files_at env world.0) (path_at world.1.cache.now (new_file_of file).number) table × ((new_file_of file).number < world.1.below)) old.files.now over.tables i (omega (arith, long, within)) there.each in
        last_key_some one.1.2.last

    pub file_first : (i : ℕ) (result : Result Bool Status) (later : E × ReadTables E C FP K F) (new : VersionIter C) → MovesToFile order env cmp filters codings i First world old result later new
        → (line position : Option ℕ) → IsAfterLine (table_parts over.tables) line position → next_position (map index_pair (table_parts over.tables)) line ≡ position_within (map index_pair (table_parts over.tables)) i
        → OnOk result (At later new keys pairs position)
    unfolding over_after
    file_first i result later new moves line position after is = ⊎_elim inside past (cases_lt i (length over.tables))
      where
        stays : StaysThere order env cmp filters codings world old later new
        stays = let m = moves.moves in m.stays

        lines_long : length (map index_pair (table_parts over.tables)) ≡ length over.tables
        lines_long = length-map (table_parts over.tables) index_pair ∙ length-map over.tables table_part

        past : length over.tables ≤ i → OnOk result (At later new keys pairs position)
        past more =
            let long = tables_long in
            let none = past_tables (table_parts over.tables) line position i after is (let parts = length-map over.tables table_part in omega (arith, parts, more)) in
            on_ok result (subst (At later new keys pairs) (sym none) (none_after later new (moves.past (omega (arith, long, more))) keys pairs (over_after world old later new stays keys pairs over)))

        inside : i < length over.tables → OnOk result (At later new keys pairs position)
        inside within =
            let long = tables_long in
            let at = moves.at_file (omega (arith, long, within)) in
            let keys_is : order.cmp (record { 0 = world.1.cmp }) ≡ keys.cmp = ap (λ (o : KeyOrder). o.cmp) (sym over.keys_are) in
            on_ok_weaker result (λ landed. record {
              over = over_after world old later new stays keys pairs over;
              inner = position_within (table_pairs (table_in over.tables i)) 0;
              in_table = subst (λ n. IsAtInTable order keys.cmp (table_in over.tables n).parts new.core (position_within (table_pairs (table_in over.tables i)) 0)) (sym at)
                  (subst (λ (o : List ℕ → List ℕ → Ordering). IsAtInTable order o (table_in over.tables i).parts new.core (position_within (table_pairs (table_in over.tables i)) 0)) keys_is landed);
              at = subst (λ n. IsAtPairOrNone (table_parts over.tables) (Some n) (table_pairs (table_in over.tables n)) (position_within (table_pairs (table_in over.tables i)) 0) position) (sym at)
                  (subst (λ inner. IsAtPairOrNone (table_parts over.tables) (Some i) (table_pairs (table_in over.tables i)) inner position)
                  (sym (position_in (table_pairs (table_in over.tables i)) 0 (long_some (table_pairs (table_in over.tables i)) (table_some i within))))
                  (to_block after i (table_part (table_in over.tables i)) (is ∙ position_in (map index_pair (table_parts over.tables)) i (omega (arith, lines_long, within))) (part_in over.tables i within) (table_some i within)));
            }) (moves.ok over.meaning over.tables over.there within (position_within (table_pairs (table_in over.tables i)) 0) refl)

    -- to the first pair of all
    pub first_of : (result : Result Bool Status) (later : E × ReadTables E C FP K F) (new : VersionIter C) → MovesToFile order env cmp filters codings 0 First world old result later new → OnOk result (At later new keys pairs (position_within pairs 0))
    first_of result later new moves =
        subst (λ ps. OnOk result (At later new keys pairs (position_within ps 0))) (sym over.pairs_are)
        (file_first 0 result later new moves None (position_within (pairs_in (table_parts over.tables)) 0) (after_none (table_parts over.tables) None None [] None None refl refl refl) refl)

  -- a move to the first pair
  pub walk_first : {there : Bool} (world : E × ReadTables E C FP K F) (old : VersionIter C) (later : E × ReadTables E C FP K F) (new : VersionIter C) → MovesToFile order env cmp filters codings 0 First world old (Ok there) later new
      → MovesWalk Over At version_here (FailsInTables order env cmp filters codings) (KeepsReading order env cmp filters codings) {R = Unit {0}} (λ world it keys pairs position. Over world it keys pairs) (λ keys pairs position. position_within pairs 0) world old (Ok tt) later new
  walk_first {there} world old later new moves =
      walk_moves (λ world it keys pairs position. Over world it keys pairs) (λ keys pairs position. position_within pairs 0) world old (Ok tt) later new (moves_made tt moves.moves) (λ keys pairs position over. first_of over (Ok there) later new moves)

  -- ---- to the last pair of a file's table

  module _ {world : E × ReadTables E C FP K F} {old : VersionIter C} {keys : KeyOrder} {pairs : List Pair} (over : Over world old keys pairs) where
    pub file_last : (i : ℕ) (result : Result Bool Status) (later : E × ReadTables E C FP K F) (new : VersionIter C) → MovesToFile order env cmp filters codings i Last world old result later new → i < length over.tables → (position : Option ℕ)
        → ((k : ℕ) → last_position (table_pairs (table_in over.tables i)) ≡ Some k → IsAtPairOrNone (table_parts over.tables) (Some i) (table_pairs (table_in over.tables i)) (Some k) position)
        → OnOk result (At later new keys pairs position)
    unfolding over_after
    file_last i result later new moves within position leads =
        on_ok_weaker result (λ landed. record {
          over = over_after world old later new stays keys pairs over;
          inner = last_position (table_pairs (table_in over.tables i));
          in_table = subst (λ n. IsAtInTable order keys.cmp (table_in over.tables n).parts new.core (last_position (table_pairs (table_in over.tables i)))) (sym at)
              (subst (λ (o : List ℕ → List ℕ → Ordering). IsAtInTable order o (table_in over.tables i).parts new.core (last_position (table_pairs (table_in over.tables i)))) keys_is landed);
          at = subst (λ n. IsAtPairOrNone (table_parts over.tables) (Some n) (table_pairs (table_in over.tables n)) (last_position (table_pairs (table_in over.tables i))) position) (sym at)
              (subst (λ inner. IsAtPairOrNone (table_parts over.tables) (Some i) (table_pairs (table_in over.tables i)) inner position) (sym last.1) (leads last.0 last.1));
        }) (moves.ok over.meaning over.tables over.there within (last_position (table_pairs (table_in over.tables i))) refl)
      where
        stays : StaysThere order env cmp filters codings world old later new
        stays = let m = moves.moves in m.stays

        last : (k : ℕ) × (last_position (table_pairs (table_in over.tables i)) ≡ Some k)
        last = some_last (table_pairs (table_in over.tables i)) (table_some over i within)

        at : new.at ≡ i
        at = let long = tables_long over in moves.at_file (omega (arith, long, within))

        keys_is : order.cmp (record { 0 = world.1.cmp }) ≡ keys.cmp
        keys_is = ap (λ (o : KeyOrder). o.cmp) (sym over.keys_are)

    -- to the last pair of all
    pub last_of : (i : ℕ) → length old.files.now ≡ i + 1 → (result : Result Bool Status) (later : E × ReadTables E C FP K F) (new : VersionIter C) → MovesToFile order env cmp filters codings i Last world old result later new
        → OnOk result (At later new keys pairs (last_position pairs))
    last_of i count result later new moves =
        let long = tables_long over in
        let within : i < length over.tables = omega (arith, long, count) in
        subst (λ ps. OnOk result (At later new keys pairs (last_position ps))) (sym over.pairs_are)
        (file_last i result later new moves within (last_position (pairs_in (table_parts over.tables)))
        (λ k last. last_block (table_parts over.tables) i (table_part (table_in over.tables i)) k
        (last_line (map index_pair (table_parts over.tables)) i (let lines = length-map (table_parts over.tables) index_pair in let parts = length-map over.tables table_part in omega (arith, lines, parts, long, count)))
        (part_in over.tables i within) last))

    -- without files there is none
    none_of_all : length old.files.now ≡ 0 → pairs ≡ []
    none_of_all none = over.pairs_are ∙ ap (λ (ts : List FileTable). pairs_in (table_parts ts)) (no_tables over.tables (let long = tables_long over in omega (arith, long, none)))

  -- a move to the last pair
  pub walk_last : {there : Bool} (i : ℕ) (world : E × ReadTables E C FP K F) (old : VersionIter C) → length old.files.now ≡ i + 1 → (later : E × ReadTables E C FP K F) (new : VersionIter C)
      → MovesToFile order env cmp filters codings i Last world old (Ok there) later new
      → MovesWalk Over At version_here (FailsInTables order env cmp filters codings) (KeepsReading order env cmp filters codings) {R = Unit {0}} (λ world it keys pairs position. Over world it keys pairs) (λ keys pairs position. last_position pairs) world old (Ok tt) later new
  walk_last {there} i world old count later new moves =
      walk_moves (λ world it keys pairs position. Over world it keys pairs) (λ keys pairs position. last_position pairs) world old (Ok tt) later new (moves_made tt moves.moves) (λ keys pairs position over. last_of over i count (Ok there) later new moves)

  -- where there is no file
  pub walk_last_none : (world : E × ReadTables E C FP K F) (old new : VersionIter C) → LeavesPairs old.core new.core → new.at ≡ old.at → new.files.now ≡ old.files.now → length old.files.now ≡ 0
      → MovesWalk Over At version_here (FailsInTables order env cmp filters codings) (KeepsReading order env cmp filters codings) {R = Unit {0}} (λ world it keys pairs position. Over world it keys pairs) (λ keys pairs position. last_position pairs) world old (Ok tt) world new
  walk_last_none world old new left same files none =
      walk_moves (λ world it keys pairs position. Over world it keys pairs) (λ keys pairs position. last_position pairs) world old (Ok tt) world new (record { stays = stays; cause = tt; err = tt })
      (λ keys pairs position over. subst (λ ps. At world new keys pairs (last_position ps)) (sym (none_of_all over none)) (none_after world new (left_position old.core new.core left) keys pairs (over_after world old world new stays keys pairs over)))
    where
      stays : StaysThere order env cmp filters codings world old world new
      stays = record { kept = reading_kept world; files = files; there = λ meaning tables there. there_left world old new left same files meaning tables there }

  -- ---- a step inside a block

  module _ (to : List Pair → Option ℕ → Option ℕ) (world : E × ReadTables E C FP K F) (old : VersionIter C) (result : Result Bool Status) (core : Option (TablePlace (InternalKeyCmp C))) (step : StepsInBlock to old.core result core) where
    pub stays_inside : StaysThere order env cmp filters codings world old world (record old { core = core })
    stays_inside = record {
      kept = reading_kept world;
      files = refl;
      there = λ meaning tables there. record {
        matched = there.matched;
        agrees = there.agrees;
        each = there.each;
        indexed = inside_indexed order to (order.cmp (record { 0 = world.1.cmp })) (table_in tables old.at).parts old.core result core step there.indexed;
      };
    }

    pub moves_inside : MovesThere order env cmp filters codings world old result world (record old { core = core })
    moves_inside = record {
      stays = stays_inside;
      cause = caused_inside result (inside_memory to old.core result core step);
      err = inside_err to old.core result core step;
    }
      where
        caused_inside : (r : Result Bool Status) → IfErr r IsOutOfMemory → IfErr r (FailsInTables order env cmp filters codings world old world)
        caused_inside (Ok there) out = tt
        caused_inside (Err status) out = record { fault = inl out; lacks = λ meaning tables there. inl out }

    -- and then another move
    pub moves_then : {R : Type 0} (second : Result R Status) (later : E × ReadTables E C FP K F) (new : VersionIter C) → MovesThere order env cmp filters codings world (record old { core = core }) second later new → MovesThere order env cmp filters codings world old second later new
    moves_then second later new moves = let stays = moves.stays in record {
      stays = record { kept = stays.kept; files = stays.files; there = λ meaning tables there. stays.there meaning tables (mid.there meaning tables there) };
      cause = before second moves.cause;
      err = moves.err;
    }
      where
        mid : StaysThere order env cmp filters codings world old world (record old { core = core })
        mid = stays_inside

        before : {R : Type 0} (r : Result R Status) → IfErr r (FailsInTables order env cmp filters codings world (record old { core = core }) later) → IfErr r (FailsInTables order env cmp filters codings world old later)
        before (Ok x) fails = tt
        before (Err status) fails = fails_before world world (reading_kept world) old (record old { core = core }) mid.there later status fails

  -- a walk at no pair moves to the first
  pub walk_begins : (world : E × ReadTables E C FP K F) (old : VersionIter C) (result : Result Bool Status) (later : E × ReadTables E C FP K F) (new : VersionIter C) → core_position old.core ≡ None
      → MovesToFile order env cmp filters codings 0 First world old result later new
      → MovesWalk Over At version_here (FailsInTables order env cmp filters codings) (KeepsReading order env cmp filters codings) At (λ keys. next_position) world old result later new
  walk_begins world old result later new nowhere moves =
      walk_moves At (λ keys. next_position) world old result later new moves.moves (λ keys pairs position at. (let over = at.over in
      let inner = inner_none order keys.cmp (table_in over.tables old.at).parts old.core at.inner at.in_table nowhere in
      let none = outer_none (table_parts over.tables) (Some old.at) (table_pairs (table_in over.tables old.at)) at.inner position inner at.at in
      subst (λ p. OnOk result (At later new keys pairs (next_position pairs p))) (sym none) (first_of over result later new moves)))

  -- to the next pair of the block where it is
  pub walk_inside : (world : E × ReadTables E C FP K F) (old : VersionIter C) (result : Result Bool Status) (core : Option (TablePlace (InternalKeyCmp C))) → StepsInBlock next_position old.core result core → result ≡ Ok true
      → is_some (core_position old.core) ≡ true
      → MovesWalk Over At version_here (FailsInTables order env cmp filters codings) (KeepsReading order env cmp filters codings) At (λ keys. next_position) world old (Ok true) world (record old { core = core })
  unfolding over_after
  walk_inside world old result core step made valid =
      walk_moves At (λ keys. next_position) world old (Ok true) world (record old { core = core }) (moves_made true (subst (λ (r : Result Bool Status). MovesThere order env cmp filters codings world old r world (record old { core = core })) made moves))
      (λ keys pairs position at. (let over = at.over in
      let here = inside_next order keys.cmp (table_in over.tables old.at).parts old.core result core at.inner step made valid at.in_table in
      record {
        over = over_after world old world (record old { core = core }) stays keys pairs over;
        inner = next_position (table_pairs (table_in over.tables old.at)) at.inner;
        in_table = here.0;
        at = subst (λ ps. IsAtPairOrNone (table_parts over.tables) (Some old.at) (table_pairs (table_in over.tables old.at)) (next_position (table_pairs (table_in over.tables old.at)) at.inner) (next_position ps position)) (sym over.pairs_are)
            (outer_next (table_parts over.tables) (Some old.at) (table_pairs (table_in over.tables old.at)) at.inner position here.1.0 here.1.1 at.at (λ none. here.1.2 none));
      }))
    where
      moves : MovesThere order env cmp filters codings world old result world (record old { core = core })
      moves = moves_inside next_position world old result core step

      stays : StaysThere order env cmp filters codings world old world (record old { core = core })
      stays = let m = moves in m.stays
