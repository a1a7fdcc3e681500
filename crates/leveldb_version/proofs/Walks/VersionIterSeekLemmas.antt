-- Where a walk over the tables of files goes for a key.
use Rattle.std.specs.Prelude.{IfErr, OnOk, is_some, slice_index_or}
use Rattle.std.proofs.Common.{◌≡◌, ◌≢◌, ℕ, zero, suc, ◌+◌, ◌<◌, ◌≤◌, ◌^◌, if◌then◌else◌, Bool, true, false, List, [], ◌∷◌, length, map, Option, None, Some, Result, Ok, Err, refl, sym, ◌∙◌, ap, subst, arith}
use Rattle.std.proofs.lemmas.List.{length-map}
use Rattle.std.specs.Borrow.{Bor}
use Rattle.std.specs.Cmp.{IsTotalOrder}
use Rattle.std.specs.List.{AllByRecursion}
use Rattle.std.specs.List.Sorted.{IsPartitionPoint, IsPartitionedBy}
use Rattle.std.specs.Ordering.{is_lt}
use Rattle.std.specs.declared.cmp.Ordering.{Ordering}
use Rattle.leveldb_base.proofs.OrderLemmas.{le_lt, lt_le, lt_turn, not_less}
use Rattle.leveldb_base.specs.Cmp.{IsPreorderOn, internal_accepts}
use Rattle.leveldb_base.specs.KeyTypes.{internal_cmp}
use Rattle.leveldb_base.specs.Types.{Pair, count_before, position_within, seek_position}
use Rattle.leveldb_base.specs.declared.cmp.Cmp.{Ghosts as CmpGhosts}
use Rattle.leveldb_base.specs.declared.cmp.internal.InternalKeyCmp.{InternalKeyCmp}
use Rattle.leveldb_base.specs.declared.error.Status.{Status}
use Rattle.leveldb_base.specs.declared.types.FileMetaData.{FileMetaData}
use Rattle.leveldb_env.specs.Compressor.{Codings}
use Rattle.leveldb_env.specs.declared.env.Env.{Ghosts as EnvGhosts}
use Rattle.leveldb_env.specs.declared.filter.FilterPolicy.{Ghosts as FilterGhosts}
use Rattle.leveldb_iter.specs.Walk.{KeyOrder, MovesWalk}
use Rattle.leveldb_table.proofs.TableReaderWalkLemmas.{position_in, position_out, seek_after, seek_in, seek_none}
use Rattle.leveldb_table.specs.Table.{AreParted, IsAtOrAfterAll, IsBeforeAll, Part, index_pair}
use Rattle.leveldb_table.specs.TableReader.{pairs_in}
use Rattle.leveldb_table.specs.TableReaderWalk.{IsAtPairOrNone, TablePlace}
use Rattle.leveldb_table.specs.declared.table_reader.walk.TableStep.TheVariants.{First, Seek}
use Rattle.leveldb_version.proofs.Tables.TableMoveLemmas.{left_position}
use Rattle.leveldb_version.proofs.Walks.VersionIterLemmas.{each_in, file_first, inner_none, last_key_some, moves_made, no_some, none_after, over_after, part_in, tables_long, there_left, there_turned, walk_moves}
use Rattle.leveldb_version.proofs.Versions.VersionLemmas.{internal_total}
use Rattle.leveldb_files.specs.Stores.Batches.{Each}
use Rattle.leveldb_files.specs.Stores.Store.{any_user_key}
use Rattle.leveldb_version.specs.Tables.TableCache.{files_at, path_at}
use Rattle.leveldb_version.specs.Tables.TableMoves.{FileTable, IsAtInTable, IsTableAt, LeavesPairs, core_position, table_pairs}
use Rattle.leveldb_version.specs.Edits.VersionEdit.{new_file_of}
use Rattle.leveldb_version.specs.Walks.VersionIter.{FailsInTables, IsAtInTables, IsOverTables, KeepsReading, MovesThere, MovesToFile, StaysThere, StepsInFile, KeepsTableOrNone, ends_before_key, table_in, table_part, table_parts, version_here}
use Rattle.leveldb_version.specs.Walks.VersionIterLaws.{fails_before, reading_kept, reading_kept_on}
use Rattle.leveldb_version.specs.declared.table_cache.moves.ReadTables.{ReadTables}
use Rattle.leveldb_version.specs.declared.version_iter.VersionIter.{VersionIter}

-- ---- tables whose last keys rise

module _ {cmp : List ℕ → List ℕ → Ordering} (total : IsTotalOrder cmp) (key : List ℕ) where
  -- a table before one that ends before the key does too
  ends_earlier : (a b : List ℕ) (pairs : List Pair) → pairs ≢ [] → IsBeforeAll cmp a pairs → IsAtOrAfterAll cmp b pairs → is_lt (cmp b key) ≡ true → is_lt (cmp a key) ≡ true
  ends_earlier a b [] some before after ends = absurd (some refl)
  ends_earlier a b (p ∷ pairs) some before after ends = le_lt total a b key (lt_turn total a b (lt_le total a p.0 b (ap is_lt before.0) (not_less (cmp b p.0) after.0))) ends

  parted_first : (t : FileTable) (ts : List FileTable) → AreParted cmp (table_parts (t ∷ ts)) → IsAtOrAfterAll cmp t.largest (table_pairs t)
  parted_first t [] parted = parted
  parted_first t (u ∷ ts) parted = parted.0

  rising : (ts : List FileTable) → AreParted cmp (table_parts ts) → AllByRecursion (λ (part : Part). part.pairs ≢ []) (table_parts ts) → IsPartitionedBy (λ (t : FileTable). is_lt (cmp t.largest key)) ts
  rising [] parted some i j d order within ends = absurd (omega (arith, within))
  rising (t ∷ []) parted some zero zero d order within ends = ends
  rising (t ∷ []) parted some (suc i) zero d order within ends = absurd (omega (arith, order))
  rising (t ∷ []) parted some i (suc j) d order within ends = absurd (omega (arith, within))
  rising (t ∷ u ∷ ts) parted some zero zero d order within ends = ends
  rising (t ∷ u ∷ ts) parted some (suc i) zero d order within ends = absurd (omega (arith, order))
  rising (t ∷ u ∷ ts) parted some zero (suc j) d order within ends =
      ends_earlier t.largest u.largest (table_pairs u) some.1.0 parted.1 (parted_first u ts parted.2) (rising (u ∷ ts) parted.2 some.1 zero j d (omega arith) (omega (arith, within)) ends)
  rising (t ∷ u ∷ ts) parted some (suc i) (suc j) d order within ends = rising (u ∷ ts) parted.2 some.1 i j d (omega (arith, order)) (omega (arith, within)) ends

  -- how many end before the key
  counted : (ts : List FileTable) (i : ℕ) → i ≤ length ts → ((k : ℕ) → k < i → is_lt (cmp (table_in ts k).largest key) ≡ true) → ((k : ℕ) → i ≤ k → k < length ts → is_lt (cmp (table_in ts k).largest key) ≡ false)
      → count_before cmp key (map index_pair (table_parts ts)) ≡ i
  counted [] zero bound below from = refl
  counted [] (suc i) bound below from = absurd (omega (arith, bound))
  counted (t ∷ ts) zero bound below from = ap (λ b. if b then count_before cmp key (map index_pair (table_parts ts)) + 1 else 0) (from 0 (omega arith) (omega arith))
  counted (t ∷ ts) (suc i) bound below from =
      let rest = counted ts i (omega (arith, bound)) (λ k less. below (suc k) (omega (arith, less))) (λ k more less. from (suc k) (omega (arith, more)) (omega (arith, less))) in
      ap (λ b. if b then count_before cmp key (map index_pair (table_parts ts)) + 1 else 0) (below 0 (omega arith)) ∙ omega (arith, rest)

-- a file ends where its table does
same_ends : (cmp : List ℕ → List ℕ → Ordering) (key : List ℕ) (R : ℕ × FileMetaData → FileTable → Type 0) → ((file : ℕ × FileMetaData) (table : FileTable) → R file table → (new_file_of file).largest ≡ table.largest) → (files : List (ℕ × FileMetaData)) (tables : List FileTable) → Each R files tables
    → (i : ℕ) (d : ℕ × FileMetaData) → i < length files → is_lt (cmp (new_file_of (slice_index_or files i d)).largest key) ≡ is_lt (cmp (table_in tables i).largest key)
same_ends cmp key R link [] tables each i d within = absurd (omega (arith, within))
same_ends cmp key R link (x ∷ files) [] each i d within = absurd each
same_ends cmp key R link (x ∷ files) (t ∷ tables) each zero d within = ap (λ l. is_lt (cmp l key)) (link x t each.0)
same_ends cmp key R link (x ∷ files) (t ∷ tables) each (suc i) d within = same_ends cmp key R link files tables each.1 i d (omega (arith, within))

-- each table has pairs
all_some : (R : ℕ × FileMetaData → FileTable → Type 0) → ((file : ℕ × FileMetaData) (table : FileTable) → R file table → table_pairs table ≢ []) → (files : List (ℕ × FileMetaData)) (tables : List FileTable) → Each R files tables
    → AllByRecursion (λ (part : Part). part.pairs ≢ []) (table_parts tables)
all_some R link [] [] each = tt
all_some R link [] (t ∷ tables) each = absurd each
all_some R link (x ∷ files) [] each = absurd each
all_some R link (x ∷ files) (t ∷ tables) each = (link x t each.0, all_some R link files tables each.1)

-- a walk that has a pair is at a position
is_there : {C : Type 0} (order : CmpGhosts C) (cmp : List ℕ → List ℕ → Ordering) (parts : List Part) (core : Option (TablePlace C)) (inner : Option ℕ) → IsAtInTable order cmp parts core inner → true ≡ is_some (core_position core) → (j : ℕ) × (inner ≡ Some j)
is_there order cmp parts None inner at there = absurd (never there)
  where
    never : true ≡ false → ⊥
    never e = cc
is_there order cmp parts (Some core) None at there = absurd (never (there ∙ ap is_some at.at))
  where
    never : true ≡ false → ⊥
    never e = cc
is_there order cmp parts (Some core) (Some n) at there = (n, refl)

-- what holds of three values holds of what is the same
pub at_same : {A B C : Type 0} (P : A → B → C → Type 0) {a x : A} {b y : B} {c z : C} → a ≡ x → b ≡ y → c ≡ z → P x y z → P a b c
at_same P {a} {x} {b} {y} {c} {z} one two three is = subst (λ k. P k b c) (sym one) (subst (λ k. P x k c) (sym two) (subst (λ k. P x y k) (sym three) is))

module _ {E C FP K F : Type 0} (order : CmpGhosts (InternalKeyCmp C)) (env : EnvGhosts E F) (cmp : CmpGhosts C) (filters : FilterGhosts FP) (codings : K → Codings) where
  -- ---- moves that follow each other

  -- after a turn to a file
  pub moves_turned : {R : Type 0} (world : E × ReadTables E C FP K F) (old turned : VersionIter C) → KeepsTableOrNone old.at old.core turned.at turned.core → turned.files.now ≡ old.files.now
      → (result : Result R Status) (later : E × ReadTables E C FP K F) (new : VersionIter C) → MovesThere order env cmp filters codings world turned result later new → MovesThere order env cmp filters codings world old result later new
  moves_turned {R} world old turned turns files result later new moves = let stays = moves.stays in record {
    stays = record {
      kept = stays.kept;
      files = stays.files ∙ files;
      there = λ meaning tables there. stays.there meaning tables (there_turned order env cmp filters codings world old turned turns files meaning tables there);
    };
    cause = before result moves.cause;
    err = moves.err;
  }
    where
      before : (r : Result R Status) → IfErr r (FailsInTables order env cmp filters codings world turned later) → IfErr r (FailsInTables order env cmp filters codings world old later)
      before (Ok x) fails = tt
      before (Err status) fails = fails_before world world (reading_kept world) old turned (λ meaning tables there. there_turned order env cmp filters codings world old turned turns files meaning tables there) later status fails

  -- one after the other
  pub moves_on : {R S : Type 0} (world : E × ReadTables E C FP K F) (old : VersionIter C) (first : Result R Status) (mid : E × ReadTables E C FP K F) (between : VersionIter C) → MovesThere order env cmp filters codings world old first mid between
      → (result : Result S Status) (later : E × ReadTables E C FP K F) (new : VersionIter C) → MovesThere order env cmp filters codings mid between result later new → MovesThere order env cmp filters codings world old result later new
  moves_on {S = S} world old first mid between one result later new two = let a = one.stays in let b = two.stays in record {
    stays = record {
      kept = reading_kept_on world mid later a.kept b.kept;
      files = b.files ∙ a.files;
      there = λ meaning tables there. b.there meaning tables (a.there meaning tables there);
    };
    cause = before result two.cause;
    err = two.err;
  }
    where
      before : (r : Result S Status) → IfErr r (FailsInTables order env cmp filters codings mid between later) → IfErr r (FailsInTables order env cmp filters codings world old later)
      before (Ok x) fails = tt
      before (Err status) fails = let a = one.stays in fails_before world mid a.kept old between a.there later status fails

  -- ---- to a key

  module _ (order_is : (c : C) → order.cmp (record { 0 = c }) ≡ internal_cmp (cmp.cmp c)) (total : (c : C) → IsTotalOrder (cmp.cmp c)) (preorder : (c : C) → IsPreorderOn (order.accepts (record { 0 = c })) (order.cmp (record { 0 = c })))
      (any_accepted : (c : C) (key : List ℕ) → order.accepts (record { 0 = c }) key ≡ true → internal_accepts any_user_key key ≡ true) where
    module _ {world : E × ReadTables E C FP K F} {old : VersionIter C} {keys : KeyOrder} {pairs : List Pair} (over : IsOverTables order env cmp filters codings world old keys pairs) (sought : Bor (List ℕ)) (fit : keys.accepts sought.now ≡ true)
        (i : ℕ) (bound : i ≤ length old.files.now)
        (point : IsPartitionedBy (ends_before_key (cmp.cmp world.1.cmp) sought.now) old.files.now
        → IsPartitionPoint (λ file. ends_before_key (cmp.cmp world.1.cmp) sought.now file ≡ true) (λ file. ends_before_key (cmp.cmp world.1.cmp) sought.now file ≡ false) old.files.now i) where
      abbrev Row : ℕ × FileMetaData → FileTable → Type 0
      Row file table = ((new_file_of file).number < 2 ^ 64) × ((new_file_of file).largest ≡ table.largest)
          × IsTableAt (cmp.cmp world.1.cmp) over.meaning (files_at env world.0) (path_at world.1.cache.now (new_file_of file).number) table × ((new_file_of file).number < world.1.below)

      abbrev Lines : List Pair
      Lines = map index_pair (table_parts over.tables)

      rows : Each Row old.files.now over.tables
      rows = let there = over.there in there.each

      long : length old.files.now ≡ length over.tables
      long = tables_long order env cmp filters codings over

      lines_long : length Lines ≡ length over.tables
      lines_long = length-map (table_parts over.tables) index_pair ∙ length-map over.tables table_part

      cmp_is : keys.cmp ≡ internal_cmp (cmp.cmp world.1.cmp)
      cmp_is = ap (λ (o : KeyOrder). o.cmp) over.keys_are ∙ order_is world.1.cmp

      pre : IsPreorderOn keys.accepts keys.cmp
      pre = subst (λ (o : KeyOrder). IsPreorderOn o.accepts o.cmp) (sym over.keys_are) (preorder world.1.cmp)

      some : AllByRecursion (λ (part : Part). part.pairs ≢ []) (table_parts over.tables)
      some = all_some Row (λ file table row. last_key_some row.2.last) old.files.now over.tables rows

      ends : (k : ℕ) (d : ℕ × FileMetaData) → k < length old.files.now → ends_before_key (cmp.cmp world.1.cmp) sought.now (slice_index_or old.files.now k d) ≡ is_lt (internal_cmp (cmp.cmp world.1.cmp) (table_in over.tables k).largest sought.now)
      ends k d within = same_ends (internal_cmp (cmp.cmp world.1.cmp)) sought.now Row (λ file table row. row.1) old.files.now over.tables rows k d within

      -- the files that end before the key come first
      parted : IsPartitionedBy (ends_before_key (cmp.cmp world.1.cmp) sought.now) old.files.now
      parted j k d before within passes =
          let same = long in
          ends j d (omega (arith, before, within))
          ∙ rising (internal_total (total world.1.cmp)) sought.now over.tables (subst (λ (o : List ℕ → List ℕ → Ordering). AreParted o (table_parts over.tables)) cmp_is over.parted) some
          j k (record { bytes = []; parts = []; largest = [] }) before (omega (arith, within, same)) (sym (ends k d within) ∙ passes)

      -- and the table of the first that doesn't is the one for the key
      line_at : seek_position keys.cmp Lines sought.now ≡ position_within Lines i
      line_at = ap (position_within Lines) (subst (λ (o : List ℕ → List ℕ → Ordering). count_before o sought.now Lines ≡ i) (sym cmp_is)
          (counted (internal_total (total world.1.cmp)) sought.now over.tables i (let same = long in omega (arith, bound, same)) below from))
        where
          file_at : (k : ℕ) → k < length old.files.now → ℕ × FileMetaData
          file_at k within = (each_in Row old.files.now over.tables k within rows).0

          below : (k : ℕ) → k < i → is_lt (internal_cmp (cmp.cmp world.1.cmp) (table_in over.tables k).largest sought.now) ≡ true
          below k less =
              let within : k < length old.files.now = omega (arith, less, bound) in
              sym (ends k (file_at k within) within) ∙ (point parted).0 k (file_at k within) (omega arith) less

          from : (k : ℕ) → i ≤ k → k < length over.tables → is_lt (internal_cmp (cmp.cmp world.1.cmp) (table_in over.tables k).largest sought.now) ≡ false
          from k more less =
              let same = long in
              let within : k < length old.files.now = omega (arith, less, same) in
              sym (ends k (file_at k within) within) ∙ (point parted).1 k (file_at k within) more within

      -- past the last file no pair is at or after the key
      pub sought_none : length old.files.now ≤ i → seek_position keys.cmp pairs sought.now ≡ None
      sought_none past =
          ap (λ ps. seek_position keys.cmp ps sought.now) over.pairs_are
          ∙ seek_none pre over.parted over.accepted sought.now fit (line_at ∙ position_out Lines i (let same = long in let lines = lines_long in omega (arith, same, lines, past)))

      module _ (inside : i < length old.files.now) (turned : VersionIter C) (turns : KeepsTableOrNone old.at old.core turned.at turned.core) (turned_at : turned.at ≡ i) (files : turned.files.now ≡ old.files.now)
          (there : Bool) (later : E × ReadTables E C FP K F) (new : VersionIter C) (step : StepsInFile order env cmp filters codings (Seek sought) world turned (Ok there) later new) where
        within : i < length over.tables
        within = let same = long in omega (arith, inside, same)

        stays : StaysThere order env cmp filters codings world old later new
        stays = let moves = moves_turned world old turned turns files (Ok there) later new step.moves in moves.stays

        line_is : seek_position keys.cmp Lines sought.now ≡ Some i
        line_is = line_at ∙ position_in Lines i (let lines = lines_long in let less = within in omega (arith, lines, less))

        landed : IsAtInTable order keys.cmp (table_in over.tables i).parts new.core (seek_position keys.cmp (table_pairs (table_in over.tables i)) sought.now)
        landed =
            subst (λ (n : ℕ). IsAtInTable order keys.cmp (table_in over.tables n).parts new.core (seek_position keys.cmp (table_pairs (table_in over.tables n)) sought.now)) turned_at
            (subst (λ (o : List ℕ → List ℕ → Ordering). IsAtInTable order o (table_in over.tables turned.at).parts new.core (seek_position o (table_pairs (table_in over.tables turned.at)) sought.now)) (ap (λ (o : KeyOrder). o.cmp) (sym over.keys_are))
            (step.ok over.meaning over.tables (there_turned order env cmp filters codings world old turned turns files over.meaning over.tables over.there) (let less = within in omega (arith, less, turned_at))
            (seek_position (order.cmp (record { 0 = world.1.cmp })) (table_pairs (table_in over.tables turned.at)) sought.now)
            (refl, any_accepted world.1.cmp sought.now (subst (λ (o : KeyOrder). o.accepts sought.now ≡ true) over.keys_are fit))))

        -- a pair of the file's table
        pub sought_there : there ≡ true → IsAtInTables order env cmp filters codings later new keys pairs (seek_position keys.cmp pairs sought.now)
        unfolding over_after
        sought_there is =
            let inner = seek_position keys.cmp (table_pairs (table_in over.tables i)) sought.now in
            let j = is_there order keys.cmp (table_in over.tables i).parts new.core inner landed (sym is ∙ step.there) in
            let at = step.at ∙ turned_at in
            record {
              over = over_after order env cmp filters codings world old later new stays keys pairs over;
              inner = inner;
              in_table = subst (λ (n : ℕ). IsAtInTable order keys.cmp (table_in over.tables n).parts new.core inner) (sym at) landed;
              at = subst (λ (n : ℕ). IsAtPairOrNone (table_parts over.tables) (Some n) (table_pairs (table_in over.tables n)) inner (seek_position keys.cmp pairs sought.now)) (sym at)
                  (subst (λ (ps : List Pair). IsAtPairOrNone (table_parts over.tables) (Some i) (table_pairs (table_in over.tables i)) inner (seek_position keys.cmp ps sought.now)) (sym over.pairs_are)
                  (subst (λ (o : Option ℕ). IsAtPairOrNone (table_parts over.tables) (Some i) (table_pairs (table_in over.tables i)) o (seek_position keys.cmp (pairs_in (table_parts over.tables)) sought.now)) (sym j.1)
                  (seek_in pre over.parted over.accepted sought.now fit i (table_part (table_in over.tables i)) j.0 line_is (part_in over.tables i within) j.1)));
            }

        -- or the first pair of the next file's
        pub sought_after : there ≡ false → (result : Result Bool Status) (last_world : E × ReadTables E C FP K F) (last : VersionIter C) → MovesToFile order env cmp filters codings (i + 1) First later new result last_world last
            → OnOk result (IsAtInTables order env cmp filters codings last_world last keys pairs (seek_position keys.cmp pairs sought.now))
        unfolding over_after
        sought_after is result last_world last moves =
            let none = inner_none order keys.cmp (table_in over.tables i).parts new.core (seek_position keys.cmp (table_pairs (table_in over.tables i)) sought.now) landed (no_some (core_position new.core) (sym is ∙ step.there)) in
            subst (λ (ps : List Pair). OnOk result (IsAtInTables order env cmp filters codings last_world last keys pairs (seek_position keys.cmp ps sought.now))) (sym over.pairs_are)
            (file_first order env cmp filters codings (over_after order env cmp filters codings world old later new stays keys pairs over) (i + 1) result last_world last moves (Some i) (seek_position keys.cmp (pairs_in (table_parts over.tables)) sought.now)
            (seek_after pre over.parted over.accepted sought.now fit some i (table_part (table_in over.tables i)) line_is (part_in over.tables i within) none) refl)

    -- ---- the move

    module _ (world : E × ReadTables E C FP K F) (old : VersionIter C) (sought : Bor (List ℕ)) (i : ℕ) (bound : i ≤ length old.files.now)
        (point : IsPartitionedBy (ends_before_key (cmp.cmp world.1.cmp) sought.now) old.files.now
        → IsPartitionPoint (λ file. ends_before_key (cmp.cmp world.1.cmp) sought.now file ≡ true) (λ file. ends_before_key (cmp.cmp world.1.cmp) sought.now file ≡ false) old.files.now i) where
      -- what such a move comes to
      abbrev pub Sought : E × ReadTables E C FP K F → VersionIter C → Type 0
      Sought later new =
          MovesWalk (IsOverTables order env cmp filters codings) (IsAtInTables order env cmp filters codings) version_here (FailsInTables order env cmp filters codings) (KeepsReading order env cmp filters codings) {R = Unit {0}}
          (λ world it keys pairs position. IsOverTables order env cmp filters codings world it keys pairs × (keys.accepts sought.now ≡ true)) (λ keys pairs position. seek_position keys.cmp pairs sought.now) world old (Ok tt) later new

      pub seeks_none : (new : VersionIter C) → LeavesPairs old.core new.core → new.at ≡ old.at → new.files.now ≡ old.files.now → i ≡ length old.files.now → Sought world new
      seeks_none new left same files past =
          walk_moves order env cmp filters codings (λ world it keys pairs position. IsOverTables order env cmp filters codings world it keys pairs × (keys.accepts sought.now ≡ true)) (λ keys pairs position. seek_position keys.cmp pairs sought.now) world old (Ok tt) world new
          (record { stays = stays_left; cause = tt; err = tt })
          (λ keys pairs position from. subst (IsAtInTables order env cmp filters codings world new keys pairs) (sym (sought_none from.0 sought from.1 i bound point (omega (arith, past))))
          (none_after order env cmp filters codings world new (left_position old.core new.core left) keys pairs (over_after order env cmp filters codings world old world new stays_left keys pairs from.0)))
        where
          stays_left : StaysThere order env cmp filters codings world old world new
          stays_left = record { kept = reading_kept world; files = files; there = λ meaning tables there. there_left order env cmp filters codings world old new left same files meaning tables there }

      module _ (inside : i < length old.files.now) (turned : VersionIter C) (turns : KeepsTableOrNone old.at old.core turned.at turned.core) (turned_at : turned.at ≡ i) (files : turned.files.now ≡ old.files.now)
          (there : Bool) (later : E × ReadTables E C FP K F) (new : VersionIter C) (step : StepsInFile order env cmp filters codings (Seek sought) world turned (Ok there) later new) where
        pub seeks_in : there ≡ true → Sought later new
        seeks_in is =
            walk_moves order env cmp filters codings (λ world it keys pairs position. IsOverTables order env cmp filters codings world it keys pairs × (keys.accepts sought.now ≡ true)) (λ keys pairs position. seek_position keys.cmp pairs sought.now) world old (Ok tt) later new
            (moves_made order env cmp filters codings tt (moves_turned world old turned turns files (Ok there) later new step.moves))
            (λ keys pairs position from. sought_there from.0 sought from.1 i bound point inside turned turns turned_at files there later new step is)

        pub seeks_after : there ≡ false → (any : Bool) (last_world : E × ReadTables E C FP K F) (last : VersionIter C) → MovesToFile order env cmp filters codings (i + 1) First later new (Ok any) last_world last → Sought last_world last
        seeks_after is any last_world last moves =
            walk_moves order env cmp filters codings (λ world it keys pairs position. IsOverTables order env cmp filters codings world it keys pairs × (keys.accepts sought.now ≡ true)) (λ keys pairs position. seek_position keys.cmp pairs sought.now) world old (Ok tt) last_world last
            (moves_made order env cmp filters codings tt (moves_on world old (Ok there) later new (moves_turned world old turned turns files (Ok there) later new step.moves) (Ok any) last_world last moves.moves))
            (λ keys pairs position from. sought_after from.0 sought from.1 i bound point inside turned turns turned_at files there later new step is (Ok any) last_world last moves)
