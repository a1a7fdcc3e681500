-- Steps of a walk over the tables of files out of a block: to the next block, and to the next file.
use Rattle.std.specs.Prelude.{IfErr, IfOk, OnOk, is_some}
use Rattle.std.proofs.Common.{◌≡◌, ◌≢◌, ℕ, ◌+◌, ◌<◌, Bool, true, false, List, ◌∷◌, length, map, Option, None, Some, Result, Ok, Err, refl, sym, ◌∙◌, ap, subst, arith}
use Rattle.std.proofs.lemmas.List.{length-append, length-map}
use Rattle.std.specs.declared.cmp.Ordering.{Ordering}
use Rattle.leveldb_base.specs.Types.{Pair, next_position, position_within}
use Rattle.leveldb_base.specs.declared.cmp.Cmp.{Ghosts as CmpGhosts}
use Rattle.leveldb_base.specs.declared.cmp.internal.InternalKeyCmp.{InternalKeyCmp}
use Rattle.leveldb_base.specs.declared.error.Status.{Status}
use Rattle.leveldb_env.specs.Compressor.{Codings}
use Rattle.leveldb_env.specs.declared.env.Env.{Ghosts as EnvGhosts}
use Rattle.leveldb_env.specs.declared.filter.FilterPolicy.{Ghosts as FilterGhosts}
use Rattle.leveldb_iter.specs.Walk.{KeyOrder, MovesWalk}
use Rattle.leveldb_table.proofs.TableReaderWalkLemmas.{after_last, some_none}
use Rattle.leveldb_table.specs.BlockWalk.{position_over}
use Rattle.leveldb_table.specs.Table.{Part, index_pair}
use Rattle.leveldb_table.specs.TableReader.{pairs_in}
use Rattle.leveldb_table.specs.TableReaderBlocks.{IsAfterLine}
use Rattle.leveldb_table.specs.TableReaderWalk.{IsAtPairOrNone, TablePlace, inner_pairs, inner_position}
use Rattle.leveldb_table.specs.declared.table_reader.walk.TableStep.TheVariants.{First, NextBlock}
use Rattle.leveldb_version.proofs.Walks.VersionIterLemmas.{file_first, inner_none, no_some, not_true, outer_next, over_after, stays_inside, tables_long, walk_moves}
use Rattle.leveldb_version.specs.Tables.TableMoves.{FileTable, IsAtInTable, IsLedTo, StepsInBlock, core_position, table_pairs}
use Rattle.leveldb_version.specs.Walks.VersionIter.{FailsInTables, IsAtInTables, IsOverTables, KeepsReading, MovesThere, MovesToFile, StaysThere, StepsInFile, table_in, table_part, table_parts, version_here}
use Rattle.leveldb_version.specs.Walks.VersionIterLaws.{fails_before, reading_kept_on}
use Rattle.leveldb_version.specs.declared.table_cache.moves.ReadTables.{ReadTables}
use Rattle.leveldb_version.specs.declared.version_iter.VersionIter.{VersionIter}

-- a walk at a pair of its table is at a position
pub pair_some : {C : Type 0} (order : CmpGhosts C) (cmp : List ℕ → List ℕ → Ordering) (parts : List Part) (core : Option (TablePlace C)) (inner : Option ℕ) → IsAtInTable order cmp parts core inner → true ≡ is_some (core_position core) → (k : ℕ) × (inner ≡ Some k)
pair_some order cmp parts core (Some k) at there = (k, refl)
pair_some order cmp parts None None at there = absurd (not_true (sym there))
pair_some order cmp parts (Some core) None at there = absurd (not_true (sym (there ∙ ap is_some at.at)))

-- the file of a pair is there
pub file_within : (tables : List FileTable) (i : ℕ) (pairs : List Pair) (inner position : Option ℕ) → inner ≢ None → IsAtPairOrNone (table_parts tables) (Some i) pairs inner position → i < length tables
file_within tables i pairs inner None some at = absurd (some at)
file_within tables i pairs inner (Some n) some at =
    omega (arith, same at.at_line, ap length at.parted, length-append at.before (at.part ∷ at.after), length-map tables table_part)
  where
    same : {x y : ℕ} → Some x ≡ Some y → x ≡ y
    same e = cc

-- from the last pair of a block the next block leads on
led_next : {C : Type 0} (order : CmpGhosts C) (cmp : List ℕ → List ℕ → Ordering) (parts : List Part) (old : Option (TablePlace C)) (result : Result Bool Status) (new : Option (TablePlace C)) (inner : Option ℕ) → StepsInBlock next_position old result new → result ≡ Ok false
    → is_some (core_position old) ≡ true → IsAtInTable order cmp parts old inner → IsLedTo NextBlock cmp parts new (next_position (pairs_in parts) inner) × (inner ≢ None)
led_next order cmp parts None result new inner step made valid at = absurd (not_true valid)
led_next order cmp parts (Some old) result None inner step made valid at = absurd step
led_next order cmp parts (Some old) result (Some new) None step made valid at = absurd (not_true (sym (ap is_some at.at) ∙ valid))
led_next order cmp parts (Some old) result (Some new) (Some n) step made valid at =
    let moved = subst (λ (r : Result Bool Status). OnOk r (inner_position new.inner ≡ next_position (inner_pairs old.inner) (inner_position old.inner))) made step.ok in
    let there = subst (λ (r : Result Bool Status). IfOk r (λ there. there ≡ is_some (inner_position new.inner))) made step.there in
    let last = sym moved ∙ no_some (inner_position new.inner) there in
    let after = after_last parts (position_over old.index) (inner_pairs old.inner) (inner_position old.inner) (Some n) (λ none. not_true (sym (ap is_some none) ∙ valid)) last at.at in
    (subst (λ l. IsAfterLine parts l (next_position (pairs_in parts) (Some n))) (sym (ap position_over step.index)) after, λ none. some_none none)

module _ {E C FP K F : Type 0} (order : CmpGhosts (InternalKeyCmp C)) (env : EnvGhosts E F) (cmp : CmpGhosts C) (filters : FilterGhosts FP) (codings : K → Codings) where
  abbrev At : E × ReadTables E C FP K F → VersionIter C → KeyOrder → List Pair → Option ℕ → Type 0
  At = IsAtInTables order env cmp filters codings

  -- a move, and then another
  pub moves_on : {R : Type 0} (world : E × ReadTables E C FP K F) (old : VersionIter C) (mid_world : E × ReadTables E C FP K F) (mid : VersionIter C) (result : Result R Status) (later : E × ReadTables E C FP K F) (new : VersionIter C)
      → StaysThere order env cmp filters codings world old mid_world mid → MovesThere order env cmp filters codings mid_world mid result later new → MovesThere order env cmp filters codings world old result later new
  moves_on {R} world old mid_world mid result later new first moves = let stays = moves.stays in record {
    stays = record {
      kept = reading_kept_on world mid_world later first.kept stays.kept;
      files = stays.files ∙ first.files;
      there = λ meaning tables there. stays.there meaning tables (first.there meaning tables there);
    };
    cause = before result moves.cause;
    err = moves.err;
  }
    where
      before : (r : Result R Status) → IfErr r (FailsInTables order env cmp filters codings mid_world mid later) → IfErr r (FailsInTables order env cmp filters codings world old later)
      before (Ok x) fails = tt
      before (Err status) fails = fails_before world mid_world first.kept old mid first.there later status fails

  -- ---- from the last pair of a block

  module _ (world : E × ReadTables E C FP K F) (old : VersionIter C) (result : Result Bool Status) (core : Option (TablePlace (InternalKeyCmp C))) (step : StepsInBlock next_position old.core result core) (made : result ≡ Ok false) (valid : is_some (core_position old.core) ≡ true)
      (stepped : Result Bool Status) (later : E × ReadTables E C FP K F) (new : VersionIter C) (next : StepsInFile order env cmp filters codings NextBlock world (record old { core = core }) stepped later new) where
    -- what two steps leave
    stays_next : StaysThere order env cmp filters codings world old later new
    stays_next =
        let inside = stays_inside order env cmp filters codings next_position world old result core step in
        let out = moves_on world old world (record old { core = core }) stepped later new inside next.moves in
        out.stays

    module _ {keys : KeyOrder} {pairs : List Pair} {position : Option ℕ} (at : At world old keys pairs position) where
      -- where it is in the table then
      landed_next : (OnOk stepped (let over = at.over in IsAtInTable order keys.cmp (table_in over.tables old.at).parts new.core (next_position (table_pairs (table_in over.tables old.at)) at.inner))) × (at.inner ≢ None)
      landed_next =
          let over = at.over in
          let table = table_in over.tables old.at in
          let inside = stays_inside order env cmp filters codings next_position world old result core step in
          let keys_is : order.cmp (record { 0 = world.1.cmp }) ≡ keys.cmp = ap (λ (o : KeyOrder). o.cmp) (sym over.keys_are) in
          let led = led_next order keys.cmp table.parts old.core result core at.inner step made valid at.in_table in
          let within = file_within over.tables old.at (table_pairs table) at.inner position led.1 at.at in
          let to = next_position (table_pairs table) at.inner in (
            subst (λ (o : List ℕ → List ℕ → Ordering). OnOk stepped (IsAtInTable order o table.parts new.core to)) keys_is
                (next.ok over.meaning over.tables (inside.there over.meaning over.tables over.there) within to
                (subst (λ (o : List ℕ → List ℕ → Ordering). IsLedTo NextBlock o table.parts core to) (sym keys_is) led.0)),
            led.1,
          )

      -- in the next block
      at_next_block : stepped ≡ Ok true → At later new keys pairs (next_position pairs position)
      unfolding over_after
      at_next_block is =
          let over = at.over in
          let table = table_in over.tables old.at in
          let to = next_position (table_pairs table) at.inner in
          let landed = landed_next in
          let here = subst (λ (r : Result Bool Status). OnOk r (IsAtInTable order keys.cmp table.parts new.core to)) is landed.0 in
          let there = subst (λ (r : Result Bool Status). IfOk r (λ there. there ≡ is_some (core_position new.core))) is next.there in
          let k = pair_some order keys.cmp table.parts new.core to here there in
          let outer = subst (λ ps. IsAtPairOrNone (table_parts over.tables) (Some old.at) (table_pairs table) to (next_position ps position)) (sym over.pairs_are)
          (outer_next (table_parts over.tables) (Some old.at) (table_pairs table) at.inner position k.0 k.1 at.at landed.1) in
          record {
            over = over_after order env cmp filters codings world old later new stays_next keys pairs over;
            inner = to;
            in_table = subst (λ n. IsAtInTable order keys.cmp (table_in over.tables n).parts new.core to) (sym next.at) here;
            at = subst (λ n. IsAtPairOrNone (table_parts over.tables) (Some n) (table_pairs (table_in over.tables n)) to (next_position pairs position)) (sym next.at) outer;
          }

      -- in the next file
      at_next_file : stepped ≡ Ok false → (i : ℕ) → i ≡ old.at + 1 → (last : Result Bool Status) (end : E × ReadTables E C FP K F) (it : VersionIter C) → MovesToFile order env cmp filters codings i First later new last end it
          → OnOk last (At end it keys pairs (next_position pairs position))
      unfolding over_after
      at_next_file is i i_is last end it moves =
          let over = at.over in
          let table = table_in over.tables old.at in
          let to = next_position (table_pairs table) at.inner in
          let landed = landed_next in
          let here = subst (λ (r : Result Bool Status). OnOk r (IsAtInTable order keys.cmp table.parts new.core to)) is landed.0 in
          let there = subst (λ (r : Result Bool Status). IfOk r (λ there. there ≡ is_some (core_position new.core))) is next.there in
          let none = inner_none order keys.cmp table.parts new.core to here (no_some (core_position new.core) there) in
          let after = after_last (table_parts over.tables) (Some old.at) (table_pairs table) at.inner position landed.1 none at.at in
          subst (λ ps. OnOk last (At end it keys pairs (next_position ps position))) (sym over.pairs_are)
          (file_first order env cmp filters codings (over_after order env cmp filters codings world old later new stays_next keys pairs over) i last end it moves (Some old.at) (next_position (pairs_in (table_parts over.tables)) position) after
          (ap (position_within (map index_pair (table_parts over.tables))) (sym i_is)))

    -- to the first pair of the next block
    pub walk_next_block : stepped ≡ Ok true
        → MovesWalk (IsOverTables order env cmp filters codings) At version_here (FailsInTables order env cmp filters codings) (KeepsReading order env cmp filters codings) At (λ keys. next_position) world old (Ok true) later new
    walk_next_block is =
        walk_moves order env cmp filters codings At (λ keys. next_position) world old (Ok true) later new (record { stays = stays_next; cause = tt; err = tt }) (λ keys pairs position at. at_next_block at is)

    -- to the first pair of the next file
    pub walk_next_file : stepped ≡ Ok false → (i : ℕ) → (old.at < length old.files.now → i ≡ old.at + 1) → (last : Result Bool Status) (end : E × ReadTables E C FP K F) (it : VersionIter C)
        → MovesToFile order env cmp filters codings i First later new last end it
        → MovesWalk (IsOverTables order env cmp filters codings) At version_here (FailsInTables order env cmp filters codings) (KeepsReading order env cmp filters codings) At (λ keys. next_position) world old last end it
    walk_next_file is i i_is last end it moves =
        walk_moves order env cmp filters codings At (λ keys. next_position) world old last end it (moves_on world old later new last end it stays_next moves.moves) (λ keys pairs position at. at_next_file at is i (i_is (within at)) last end it moves)
      where
        within : {keys : KeyOrder} {pairs : List Pair} {position : Option ℕ} → At world old keys pairs position → old.at < length old.files.now
        within at =
            let over = at.over in
            let long = tables_long order env cmp filters codings over in
            let there = file_within over.tables old.at (table_pairs (table_in over.tables old.at)) at.inner _ (landed_next at).1 at.at in
            omega (arith, long, there)
