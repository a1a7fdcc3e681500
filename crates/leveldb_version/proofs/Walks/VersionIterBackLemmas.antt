-- Steps of a walk over the tables of files to the pair before: in its block, in the block before,
-- and in the file before.
use Rattle.std.specs.Prelude.{IfOk, OnOk, is_some, nat_lt, slice_get}
use Rattle.std.proofs.Common.{◌≡◌, ◌≢◌, ℕ, zero, suc, ◌+◌, ◌-◌, ◌<◌, Bool, true, false, if◌then◌else◌, List, [], ◌∷◌, length, Option, None, Some, Result, Ok, refl, sym, ◌∙◌, ap, subst, arith}
use Rattle.std.proofs.lemmas.Bool.Decides.{nat_tests}
use Rattle.std.specs.declared.cmp.Ordering.{Ordering}
use Rattle.leveldb_base.specs.Types.{Pair, last_position, previous_position}
use Rattle.leveldb_base.specs.declared.cmp.Cmp.{Ghosts as CmpGhosts}
use Rattle.leveldb_base.specs.declared.cmp.internal.InternalKeyCmp.{InternalKeyCmp}
use Rattle.leveldb_base.specs.declared.error.Status.{Status}
use Rattle.leveldb_env.specs.Compressor.{Codings}
use Rattle.leveldb_env.specs.declared.env.Env.{Ghosts as EnvGhosts}
use Rattle.leveldb_env.specs.declared.filter.FilterPolicy.{Ghosts as FilterGhosts}
use Rattle.leveldb_iter.specs.Walk.{KeyOrder, MovesWalk}
use Rattle.leveldb_table.proofs.TableReaderMovesLemmas.{before_first}
use Rattle.leveldb_table.proofs.TableReaderWalkLemmas.{is_there_along, previous_block, some_none, some_there}
use Rattle.leveldb_table.specs.BlockWalk.{pairs_over, position_over}
use Rattle.leveldb_table.specs.Table.{Part}
use Rattle.leveldb_table.specs.TableReader.{pairs_in}
use Rattle.leveldb_table.specs.TableReaderBlocks.{IsBeforeBlock}
use Rattle.leveldb_table.specs.TableReaderWalk.{IsAtPair, IsAtPairOrNone, TablePlace, inner_pairs, inner_position}
use Rattle.leveldb_table.specs.declared.table_reader.walk.TableStep.TheVariants.{Last, BlockBefore}
use Rattle.leveldb_version.proofs.Walks.VersionIterForwardLemmas.{file_within, moves_on, pair_some}
use Rattle.leveldb_version.proofs.Walks.VersionIterLemmas.{file_last, inner_none, no_some, none_after, not_true, over_after, part_in, stays_inside, walk_moves}
use Rattle.leveldb_version.specs.Tables.TableMoves.{IsAtInTable, IsLedTo, StepsInBlock, core_position, table_pairs}
use Rattle.leveldb_version.specs.Walks.VersionIter.{FailsInTables, IsAtInTables, IsOverTables, KeepsReading, MovesToFile, StaysThere, StepsInFile, table_in, table_part, table_parts, version_here}
use Rattle.leveldb_version.specs.declared.table_cache.moves.ReadTables.{ReadTables}
use Rattle.leveldb_version.specs.declared.version_iter.VersionIter.{VersionIter}

-- ---- positions

-- the position before one
prev_is : (n m : ℕ) → n ≡ m + 1 → previous_position (Some n) ≡ Some m
prev_is n m e =
    let t : nat_lt 0 n ≡ true = grind (arith, nat_tests) in
    let back : n - 1 ≡ m = omega (arith, e) in
    ap (λ b. if b then Some (n - 1) else None) t ∙ ap (λ z. Some z) back

prev_some : (n k : ℕ) → previous_position (Some n) ≡ Some k → n ≡ k + 1
prev_some zero k e = cc
prev_some (suc n) k e = let there = prev_is (suc n) n (omega arith) in let same : n ≡ k = cc in omega (arith, same)

prev_none : (n : ℕ) → previous_position (Some n) ≡ None → n ≡ 0
prev_none zero e = refl
prev_none (suc n) e = let there = prev_is (suc n) n (omega arith) in cc

-- the pair before in a block is the one before of all
prev_in : {parts : List Part} {line : Option ℕ} {pairs : List Pair} {inner : Option ℕ} {n : ℕ} → IsAtPair parts line pairs inner n → (k : ℕ) → previous_position inner ≡ Some k → IsAtPairOrNone parts line pairs (Some k) (previous_position (Some n))
prev_in {parts} {line} {pairs} {inner} {n} s k e =
    let back = prev_some s.inner k (ap previous_position (sym s.at_position) ∙ e) in
    let counts = s.counts in
    let within = s.within in
    let is_there : IsAtPair parts line pairs (Some k) (length (pairs_in s.before) + k) = record {
      before = s.before;
      part = s.part;
      after = s.after;
      inner = k;
      parted = s.parted;
      at_line = s.at_line;
      same = s.same;
      at_position = refl;
      within = omega (arith, back, within);
      counts = refl;
    } in
    subst (IsAtPairOrNone parts line pairs (Some k)) (sym (prev_is n (length (pairs_in s.before) + k) (omega (arith, back, counts)))) is_there

-- the pair before of a table is the one before of all
outer_prev : (parts : List Part) (line : Option ℕ) (pairs : List Pair) (inner position : Option ℕ) (k : ℕ) → previous_position inner ≡ Some k → IsAtPairOrNone parts line pairs inner position → IsAtPairOrNone parts line pairs (previous_position inner) (previous_position position)
outer_prev parts line pairs inner None k is at = absurd (some_none (sym is ∙ ap previous_position at))
outer_prev parts line pairs inner (Some n) k is at = subst (λ z. IsAtPairOrNone parts line pairs z (previous_position (Some n))) (sym is) (prev_in at k is)

-- before the first pair of the first block is none
outer_first : (parts : List Part) (pairs : List Pair) (inner position : Option ℕ) → previous_position inner ≡ None → IsAtPairOrNone parts (Some 0) pairs inner position → previous_position position ≡ None
outer_first parts pairs inner None first at = refl
outer_first parts pairs inner (Some n) first at =
    let front = none at.before (sym (same at.at_line)) in
    let zero_in = prev_none at.inner (ap previous_position (sym at.at_position) ∙ first) in
    let counts = at.counts in
    let count : n ≡ 0 = omega (arith, counts, zero_in, ap (λ z. length (pairs_in z)) front) in
    ap (λ z. previous_position (Some z)) count
  where
    same : {x y : ℕ} → Some x ≡ Some y → x ≡ y
    same e = cc

    none : (xs : List Part) → length xs ≡ 0 → xs ≡ []
    none [] e = refl
    none (x ∷ xs) e = absurd (omega (arith, e))

-- before the first pair of a block is the last pair of the one before
outer_last : (parts : List Part) (line : Option ℕ) (pairs : List Pair) (inner position : Option ℕ) → inner ≢ None → previous_position inner ≡ None → IsAtPairOrNone parts line pairs inner position → (i : ℕ) (part : Part) (k : ℕ) → previous_position line ≡ Some i
    → slice_get parts i ≡ Some part → last_position part.pairs ≡ Some k → IsAtPairOrNone parts (Some i) part.pairs (Some k) (previous_position position)
outer_last parts line pairs inner None some first at i part k back there last = absurd (some at)
outer_last parts line pairs inner (Some n) some first at i part k back there last = previous_block at first i part k back there last

-- a step inside a block to the pair before
inside_prev : {C : Type 0} (order : CmpGhosts C) (cmp : List ℕ → List ℕ → Ordering) (parts : List Part) (old : Option (TablePlace C)) (result : Result Bool Status) (new : Option (TablePlace C)) (inner : Option ℕ) → StepsInBlock (λ _. previous_position) old result new → result ≡ Ok true
    → is_some (core_position old) ≡ true → IsAtInTable order cmp parts old inner → IsAtInTable order cmp parts new (previous_position inner)
inside_prev order cmp parts None result new inner step made valid at = absurd (not_true valid)
inside_prev order cmp parts (Some old) result None inner step made valid at = absurd step
inside_prev order cmp parts (Some old) result (Some new) None step made valid at = absurd (not_true (sym (ap is_some at.at) ∙ valid))
inside_prev order cmp parts (Some old) result (Some new) (Some n) step made valid at =
    let moved = subst (λ (r : Result Bool Status). OnOk r (inner_position new.inner ≡ previous_position (inner_position old.inner))) made step.ok in
    let there = subst (λ (r : Result Bool Status). IfOk r (λ there. there ≡ is_some (inner_position new.inner))) made step.there in
    let k = some_there (inner_position new.inner) (sym there) in
    let landed = prev_in at.at k.0 (sym moved ∙ k.1) in
    let lands = is_there_along parts (previous_position (Some n)) (ap position_over step.index) step.pairs k.1 landed in
    record { lines = ap pairs_over step.index ∙ at.lines; ordered = ap (λ z. order.cmp z.block.cmp) step.index ∙ at.ordered; at = lands }

-- from the first pair of a block the block before leads on
led_prev : {C : Type 0} (order : CmpGhosts C) (cmp : List ℕ → List ℕ → Ordering) (parts : List Part) (old : Option (TablePlace C)) (result : Result Bool Status) (new : Option (TablePlace C)) (inner : Option ℕ) → StepsInBlock (λ _. previous_position) old result new → result ≡ Ok false
    → is_some (core_position old) ≡ true → IsAtInTable order cmp parts old inner → IsLedTo BlockBefore cmp parts new (previous_position inner) × (inner ≢ None)
led_prev order cmp parts None result new inner step made valid at = absurd (not_true valid)
led_prev order cmp parts (Some old) result None inner step made valid at = absurd step
led_prev order cmp parts (Some old) result (Some new) None step made valid at = absurd (not_true (sym (ap is_some at.at) ∙ valid))
led_prev order cmp parts (Some old) result (Some new) (Some n) step made valid at =
    let moved = subst (λ (r : Result Bool Status). OnOk r (inner_position new.inner ≡ previous_position (inner_position old.inner))) made step.ok in
    let there = subst (λ (r : Result Bool Status). IfOk r (λ there. there ≡ is_some (inner_position new.inner))) made step.there in
    let first = sym moved ∙ no_some (inner_position new.inner) there in
    let before = before_first parts (position_over old.index) (inner_pairs old.inner) (inner_position old.inner) (Some n) (λ none. not_true (sym (ap is_some none) ∙ valid)) first at.at in
    (subst (λ l. IsBeforeBlock parts l (previous_position (Some n))) (sym (ap position_over step.index)) before, λ none. some_none none)

module _ {E C FP K F : Type 0} (order : CmpGhosts (InternalKeyCmp C)) (env : EnvGhosts E F) (cmp : CmpGhosts C) (filters : FilterGhosts FP) (codings : K → Codings) where
  abbrev At : E × ReadTables E C FP K F → VersionIter C → KeyOrder → List Pair → Option ℕ → Type 0
  At = IsAtInTables order env cmp filters codings

  abbrev StepsBack : {R : Type 0} → E × ReadTables E C FP K F → VersionIter C → Result R Status → E × ReadTables E C FP K F → VersionIter C → Type 0
  StepsBack = MovesWalk (IsOverTables order env cmp filters codings) At version_here (FailsInTables order env cmp filters codings) (KeepsReading order env cmp filters codings) At (λ keys pairs. previous_position)

  -- ---- in a block

  module _ (world : E × ReadTables E C FP K F) (old : VersionIter C) (result : Result Bool Status) (core : Option (TablePlace (InternalKeyCmp C))) (step : StepsInBlock (λ _. previous_position) old.core result core) (made : result ≡ Ok true) (valid : is_some (core_position old.core) ≡ true) where
    stays_block : StaysThere order env cmp filters codings world old world (record old { core = core })
    stays_block = stays_inside order env cmp filters codings (λ _. previous_position) world old result core step

    at_before : {keys : KeyOrder} {pairs : List Pair} {position : Option ℕ} → At world old keys pairs position → At world (record old { core = core }) keys pairs (previous_position position)
    unfolding over_after
    at_before {keys} {pairs} {position} at =
        let over = at.over in
        let table = table_in over.tables old.at in
        let here = inside_prev order keys.cmp table.parts old.core result core at.inner step made valid at.in_table in
        let there = inside_there old.core core step made in
        let k = pair_some order keys.cmp table.parts core (previous_position at.inner) here there in
        record {
          over = over_after order env cmp filters codings world old world (record old { core = core }) stays_block keys pairs over;
          inner = previous_position at.inner;
          in_table = here;
          at = outer_prev (table_parts over.tables) (Some old.at) (table_pairs table) at.inner position k.0 k.1 at.at;
        }
      where
        inside_there : (before after : Option (TablePlace (InternalKeyCmp C))) → StepsInBlock (λ _. previous_position) before result after → result ≡ Ok true → true ≡ is_some (core_position after)
        inside_there None after step made = absurd (never result step.1 made)
          where
            never : (r : Result Bool Status) → r ≡ Ok false → r ≡ Ok true → ⊥
            never r is made = cc
        inside_there (Some before) None step made = absurd step
        inside_there (Some before) (Some after) step made = subst (λ (r : Result Bool Status). IfOk r (λ there. there ≡ is_some (inner_position after.inner))) made step.there

    -- to the pair before of the block where it is
    pub walk_back_inside : StepsBack world old (Ok true) world (record old { core = core })
    walk_back_inside =
        walk_moves order env cmp filters codings At (λ keys pairs. previous_position) world old (Ok true) world (record old { core = core }) (record { stays = stays_block; cause = tt; err = tt }) (λ keys pairs position at. at_before at)

  -- ---- from the first pair of a block

  module _ (world : E × ReadTables E C FP K F) (old : VersionIter C) (result : Result Bool Status) (core : Option (TablePlace (InternalKeyCmp C))) (step : StepsInBlock (λ _. previous_position) old.core result core) (made : result ≡ Ok false) (valid : is_some (core_position old.core) ≡ true)
      (stepped : Result Bool Status) (later : E × ReadTables E C FP K F) (new : VersionIter C) (back : StepsInFile order env cmp filters codings BlockBefore world (record old { core = core }) stepped later new) where
    -- what two steps leave
    stays_back : StaysThere order env cmp filters codings world old later new
    stays_back =
        let inside = stays_inside order env cmp filters codings (λ _. previous_position) world old result core step in
        let out = moves_on order env cmp filters codings world old world (record old { core = core }) stepped later new inside back.moves in
        out.stays

    module _ {keys : KeyOrder} {pairs : List Pair} {position : Option ℕ} (at : At world old keys pairs position) where
      -- where it is in the table then
      landed_back : (OnOk stepped (let over = at.over in IsAtInTable order keys.cmp (table_in over.tables old.at).parts new.core (previous_position at.inner))) × (at.inner ≢ None)
      landed_back =
          let over = at.over in
          let table = table_in over.tables old.at in
          let inside = stays_inside order env cmp filters codings (λ _. previous_position) world old result core step in
          let keys_is : order.cmp (record { 0 = world.1.cmp }) ≡ keys.cmp = ap (λ (o : KeyOrder). o.cmp) (sym over.keys_are) in
          let led = led_prev order keys.cmp table.parts old.core result core at.inner step made valid at.in_table in
          let within = file_within over.tables old.at (table_pairs table) at.inner position led.1 at.at in
          let to = previous_position at.inner in (
            subst (λ (o : List ℕ → List ℕ → Ordering). OnOk stepped (IsAtInTable order o table.parts new.core to)) keys_is
                (back.ok over.meaning over.tables (inside.there over.meaning over.tables over.there) within to
                (subst (λ (o : List ℕ → List ℕ → Ordering). IsLedTo BlockBefore o table.parts core to) (sym keys_is) led.0)),
            led.1,
          )

      -- in the block before
      at_block_before : stepped ≡ Ok true → At later new keys pairs (previous_position position)
      unfolding over_after
      at_block_before is =
          let over = at.over in
          let table = table_in over.tables old.at in
          let to = previous_position at.inner in
          let landed = landed_back in
          let here = subst (λ (r : Result Bool Status). OnOk r (IsAtInTable order keys.cmp table.parts new.core to)) is landed.0 in
          let there = subst (λ (r : Result Bool Status). IfOk r (λ there. there ≡ is_some (core_position new.core))) is back.there in
          let k = pair_some order keys.cmp table.parts new.core to here there in
          let outer = outer_prev (table_parts over.tables) (Some old.at) (table_pairs table) at.inner position k.0 k.1 at.at in
          record {
            over = over_after order env cmp filters codings world old later new stays_back keys pairs over;
            inner = to;
            in_table = subst (λ n. IsAtInTable order keys.cmp (table_in over.tables n).parts new.core to) (sym back.at) here;
            at = subst (λ n. IsAtPairOrNone (table_parts over.tables) (Some n) (table_pairs (table_in over.tables n)) to (previous_position position)) (sym back.at) outer;
          }

      -- no pair is before in the file
      first_in_file : stepped ≡ Ok false → previous_position at.inner ≡ None
      first_in_file is =
          let over = at.over in
          let table = table_in over.tables old.at in
          let to = previous_position at.inner in
          let landed = landed_back in
          let here = subst (λ (r : Result Bool Status). OnOk r (IsAtInTable order keys.cmp table.parts new.core to)) is landed.0 in
          let there = subst (λ (r : Result Bool Status). IfOk r (λ there. there ≡ is_some (core_position new.core))) is back.there in
          inner_none order keys.cmp table.parts new.core to here (no_some (core_position new.core) there)

      -- nor before the first file
      at_no_pair : stepped ≡ Ok false → old.at ≡ 0 → At later new keys pairs (previous_position position)
      at_no_pair is first =
          let over = at.over in
          let table = table_in over.tables old.at in
          let none = outer_first (table_parts over.tables) (table_pairs table) at.inner position (first_in_file is) (subst (λ n. IsAtPairOrNone (table_parts over.tables) (Some n) (table_pairs table) at.inner position) first at.at) in
          let there = subst (λ (r : Result Bool Status). IfOk r (λ there. there ≡ is_some (core_position new.core))) is back.there in
          subst (At later new keys pairs) (sym none) (none_after order env cmp filters codings later new (no_some (core_position new.core) there) keys pairs (over_after order env cmp filters codings world old later new stays_back keys pairs over))

      -- in the file before
      at_file_before : stepped ≡ Ok false → (i : ℕ) → old.at ≡ i + 1 → (last : Result Bool Status) (end : E × ReadTables E C FP K F) (it : VersionIter C) → MovesToFile order env cmp filters codings i Last later new last end it
          → OnOk last (At end it keys pairs (previous_position position))
      unfolding over_after
      at_file_before is i i_is last end it moves =
          let over = at.over in
          let table = table_in over.tables old.at in
          let landed = landed_back in
          let none = first_in_file is in
          let there = file_within over.tables old.at (table_pairs table) at.inner position landed.1 at.at in
          let within : i < length over.tables = omega (arith, there, i_is) in
          file_last order env cmp filters codings (over_after order env cmp filters codings world old later new stays_back keys pairs over) i last end it moves within (previous_position position)
          (λ k ends. outer_last (table_parts over.tables) (Some old.at) (table_pairs table) at.inner position landed.1 none at.at i (table_part (table_in over.tables i)) k (prev_is old.at i i_is) (part_in over.tables i within) ends)

    -- to the last pair of the block before
    pub walk_block_before : stepped ≡ Ok true → StepsBack world old (Ok true) later new
    walk_block_before is =
        walk_moves order env cmp filters codings At (λ keys pairs. previous_position) world old (Ok true) later new (record { stays = stays_back; cause = tt; err = tt }) (λ keys pairs position at. at_block_before at is)

    -- to no pair, from the first
    pub walk_no_pair : stepped ≡ Ok false → old.at ≡ 0 → StepsBack world old (Ok false) later new
    walk_no_pair is first =
        walk_moves order env cmp filters codings At (λ keys pairs. previous_position) world old (Ok false) later new (record { stays = stays_back; cause = tt; err = tt }) (λ keys pairs position at. at_no_pair at is first)

    -- to the last pair of the file before
    pub walk_file_before : stepped ≡ Ok false → (i : ℕ) → old.at ≡ i + 1 → (last : Result Bool Status) (end : E × ReadTables E C FP K F) (it : VersionIter C) → MovesToFile order env cmp filters codings i Last later new last end it → StepsBack world old last end it
    walk_file_before is i i_is last end it moves =
        walk_moves order env cmp filters codings At (λ keys pairs. previous_position) world old last end it (moves_on order env cmp filters codings world old later new last end it stays_back moves.moves) (λ keys pairs position at. at_file_before at is i i_is last end it moves)
