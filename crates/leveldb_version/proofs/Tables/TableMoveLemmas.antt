-- A move in the table of a number, through a cache of open tables: where it leads, why it fails,
-- and what it leaves.
use Rattle.std.specs.Prelude.{IfOk, IsErrAnd, IsSomeAnd, IsTrue, OnErr, OnOk, is_some}
use Rattle.std.proofs.Common.{◌≡◌, ◌≢◌, inl, inr, ⊎_elim, ℕ, ◌<◌, ◌^◌, Bool, List, map, Option, None, Some, Result, Ok, Err, refl, sym, ◌∙◌, ap, subst, arith}
use Rattle.std.specs.declared.cmp.Ordering.{Ordering}
use Rattle.std.proofs.lemmas.Result.{on_ok_weaker}
use Rattle.leveldb_base.specs.Cmp.{IsExactOrder, internal_accepts}
use Rattle.leveldb_base.specs.Error.{IsOutOfMemory}
use Rattle.leveldb_base.specs.declared.cmp.Cmp.{Ghosts as CmpGhosts}
use Rattle.leveldb_base.specs.declared.cmp.internal.InternalKeyCmp.{InternalKeyCmp}
use Rattle.leveldb_base.specs.declared.error.Status.{Status}
use Rattle.leveldb_env.specs.declared.env.Env.{Ghosts as EnvGhosts}
use Rattle.leveldb_env.specs.Env.{File, bytes_of}
use Rattle.leveldb_table.proofs.BlockCacheLemmas.{GainsBlocks-refl, HoldsOnlyOf-after, HoldsOnlyOf-new, HoldsOnlyOf-other, IsNumbered-after}
use Rattle.leveldb_table.proofs.TableBlockLemmas.{KeepsDisk-refl, KeepsDisk-trans, reads_own, reads_refused, reads_then, reads_weaker, same_files}
use Rattle.leveldb_table.proofs.TableReaderLemmas.{index_read, parts_there}
use Rattle.leveldb_table.specs.BlockCache.{GainsBlocks, HoldsOnlyOf, IsBlockOfFile}
use Rattle.leveldb_table.specs.BlockWalk.{pairs_over}
use Rattle.leveldb_table.specs.Cache.{Cached}
use Rattle.leveldb_table.specs.OpenTable.{file_of, id_of}
use Rattle.leveldb_table.specs.Table.{Part, index_pair}
use Rattle.leveldb_table.specs.TableBlock.{FileHas, ForBytesOf, ReadsFile}
use Rattle.leveldb_table.specs.TableReader.{HasParts, OpenTable, lines_of}
use Rattle.leveldb_table.specs.TableReaderBlocks.{IsIndexed}
use Rattle.leveldb_table.specs.TableReaderSteps.{StepsInTable, step_to}
use Rattle.leveldb_table.specs.TableReaderWalk.{TablePlace, inner_position, table_position}
use Rattle.leveldb_table.specs.declared.block_cache.CachedBlock.{CachedBlock}
use Rattle.leveldb_table.specs.declared.table_reader.walk.TableStep.{TableStep}
use Rattle.leveldb_table.specs.declared.table_reader.walk.TableStep.TheVariants.{First, Last, NextBlock, BlockBefore, Seek}
use Rattle.leveldb_version.proofs.Tables.NewestLemmas.{store_order}
use Rattle.leveldb_version.proofs.Tables.ReadTableLemmas.{Wants, opens_more}
use Rattle.leveldb_version.proofs.Tables.SearchTableLemmas.{fault_of, unopened_wants}
use Rattle.leveldb_version.proofs.Versions.SearchLemmas.{same_or_not}
use Rattle.leveldb_version.proofs.Tables.TableCacheCallLemmas.{matches_opened, matches_unopened, own_blocks, uses_unopened}
use Rattle.leveldb_version.proofs.Tables.TableCacheLemmas.{FileHas-at, matches_blocks, matches_later, matches_renewed, refused_ok, renewed_closes, renewed_room, renewed_store}
use Rattle.leveldb_version.proofs.Tables.TableStepLemmas.{step_leads, step_wants}
use Rattle.leveldb_files.specs.Stores.Format.{Agrees, IsTableFault, IsTableOf, Meaning}
use Rattle.leveldb_files.specs.Stores.Paths.{table_path}
use Rattle.leveldb_files.specs.Stores.Store.{any_user_key}
use Rattle.leveldb_version.specs.Tables.TableCache.{HasBytesAt, IsNotOpened, IsOpenedWith, IsSameOrClosed, IsTableUnopened, IsUnopened, MatchesFiles, OpensNumbered, OpensTableAt, StoreTable, TableOptions, UsesTable, blocks_of, files_at, found_key, key_order, missing, no_table, path_at, renewed, store_of, table_at, tables_of}
use Rattle.leveldb_version.specs.Tables.TableMoves.{AreTablesMatched, FileTable, IsAtInTable, IsIndexedFor, IsLedTo, IsTableAt, IsWalkIn, KeepsTables, LeavesPairs, MovesInNumbered, StepsInOpen, core_position, not_begun, stepped, table_pairs}
use Rattle.leveldb_version.specs.declared.table_cache.TableCache.{TableCache}

-- ---- in an open table

-- where a move leads from the walk that makes it
led_by : {C FP F : Type 0} (table : OpenTable C FP F) (to : TableStep) (cmp : List ℕ → List ℕ → Ordering) (parts : List Part) (old : Option (TablePlace C)) (from : TablePlace C) (position : Option ℕ)
    → IsWalkIn table old from → IsLedTo to cmp parts old position → IsLedTo to cmp parts (Some from) position
led_by table to cmp parts (Some core) from position is led = subst (λ c. IsLedTo to cmp parts (Some c) position) (sym is) led
led_by table First cmp parts None from position is led = led
led_by table Last cmp parts None from position is led = led
led_by table (Seek key) cmp parts None from position is led = led
led_by table NextBlock cmp parts None from position is led = absurd led
led_by table BlockBefore cmp parts None from position is led = absurd led

refused_if : {T : Type 0} (Q : Status → Type 0) (P : T → Type 0) (result : Result T Status) → IsErrAnd result Q → IfOk result P
refused_if Q P (Ok value) refused = absurd refused
refused_if Q P (Err status) refused = tt

on_err : {T P : Type 0} (result : Result T Status) → P → OnErr result P
on_err (Ok value) is = tt
on_err (Err status) is = is

-- what holds of a walk at no pair
pub left_position : {C : Type 0} (old new : Option (TablePlace C)) → LeavesPairs old new → core_position new ≡ None
left_position None new left = ap core_position left
left_position (Some old) None left = absurd left
left_position (Some old) (Some new) left = ap inner_position left.0

pub left_indexed : {C : Type 0} (order : CmpGhosts C) (cmp : List ℕ → List ℕ → Ordering) (parts : List Part) (old new : Option (TablePlace C)) → LeavesPairs old new → IsIndexedFor order cmp parts old → IsIndexedFor order cmp parts new
left_indexed order cmp parts None new left indexed = subst (IsIndexedFor order cmp parts) (sym left) tt
left_indexed order cmp parts (Some old) None left indexed = absurd left
left_indexed order cmp parts (Some old) (Some new) left indexed = record { lines = ap pairs_over left.1 ∙ indexed.lines; ordered = ap (λ z. order.cmp z.block.cmp) left.1 ∙ indexed.ordered }

module _ {E C FP F : Type 0} (order : CmpGhosts (InternalKeyCmp C)) (env : EnvGhosts E F) (by : TableOptions C FP) (exact : IsExactOrder by.format.order) (order_is : order.cmp (record { 0 = by.cmp }) ≡ key_order by.format) where
  -- what a move comes to in a table by what its ids mean
  abbrev Lands : {meaning : Meaning} → Agrees by.format meaning → TableStep → List Part → E → Option (TablePlace (InternalKeyCmp C)) → Result Bool Status → E → Option (TablePlace (InternalKeyCmp C)) → Type 0
  Lands agrees to parts state old result after new = ((position : Option ℕ) → IsLedTo to (key_order by.format) parts old position → OnOk result (IsAtInTable order (key_order by.format) parts new position))
      × IsIndexedFor order (key_order by.format) parts new × ReadsFile env (Wants agrees) state after result

  module _ (table : StoreTable C FP F) (to : TableStep) (state : E) (blocks : Cached (CachedBlock (InternalKeyCmp C))) (old : Option (TablePlace (InternalKeyCmp C))) (result : Result Bool Status)
      (after : E) (gained : Cached (CachedBlock (InternalKeyCmp C))) (new : Option (TablePlace (InternalKeyCmp C))) where
    abbrev Steps : Type 0
    Steps = StepsInOpen order env by.format.codings table to state blocks old result after gained new

    step_there : Steps → IfOk result (λ there. there ≡ is_some (core_position new))
    step_there (stepped from at is new_is steps) = subst (λ o. IfOk result (λ there. there ≡ is_some (core_position o))) (sym new_is) steps.there
    step_there (not_begun none new_none env_is blocks_is out) = refused_if IsOutOfMemory _ result out

    step_err : Steps → OnErr result (core_position new ≡ None)
    step_err (stepped from at is new_is steps) = subst (λ o. OnErr result (core_position o ≡ None)) (sym new_is) steps.err
    step_err (not_begun none new_none env_is blocks_is out) = on_err result (ap core_position new_none)

    unbegun_reads : (Why : Status → Type 0) → after ≡ state → IsErrAnd result IsOutOfMemory → ReadsFile env Why state after result
    unbegun_reads Why env_is out = subst (λ e. ReadsFile env Why state e result) (sym env_is) (reads_own env {Why = Why} {P = IsOutOfMemory} result (KeepsDisk-refl env state) refl out (λ status memory. inl memory))

    step_reads : Steps → ReadsFile env (λ status. IsTableFault by.format status.code) state after result
    step_reads (stepped from at is new_is steps) = reads_weaker env result (λ status lack. fault_of env by.format status lack.0) steps.reads
    step_reads (not_begun none new_none env_is blocks_is out) = unbegun_reads (λ status. IsTableFault by.format status.code) env_is out

    abbrev Right : ℕ → CachedBlock (InternalKeyCmp C) → Type 0
    Right offset held = ForBytesOf env state (file_of table) (λ bytes. IsBlockOfFile order by.format.codings (order.cmp table.cmp) bytes offset held)

    step_gains : Steps → GainsBlocks (id_of table) Right blocks gained
    step_gains (stepped from at is new_is steps) = steps.gathers
    step_gains (not_begun none new_none env_is blocks_is out) = subst (λ b. GainsBlocks (id_of table) Right blocks b) (sym blocks_is) (GainsBlocks-refl (id_of table) Right blocks)

    module _ {meaning : Meaning} (agrees : Agrees by.format meaning) (one : FileTable) (is : IsTableOf by.format.order meaning one.bytes (table_pairs one)) (parted : is.parts ≡ one.parts) (opened : IsOpenedWith by table one.bytes)
        (has : FileHas env state (file_of table) one.bytes) (holds : HoldsOnlyOf order by.format.codings (key_order by.format) (id_of table) one.bytes blocks) (indexed : IsIndexedFor order (key_order by.format) one.parts old) where
      has_parts : HasParts meaning.codings (internal_accepts any_user_key) (key_order by.format) one.bytes one.parts
      has_parts = subst (λ ps. HasParts meaning.codings (internal_accepts any_user_key) (key_order by.format) one.bytes ps) parted (parts_there is)

      lines_are : lines_of table ≡ map index_pair one.parts
      lines_are = (index_read is.tabled (opens_more agrees opened.opened).indexed).0 ∙ ap (λ (ps : List Part). map index_pair ps) parted

      walk_indexed : (o : Option (TablePlace (InternalKeyCmp C))) (from : TablePlace (InternalKeyCmp C)) → IsIndexedFor order (key_order by.format) one.parts o → IsWalkIn table o from → IsIndexed order (key_order by.format) one.parts from
      walk_indexed None from at starts = record { lines = starts.lines ∙ lines_are; ordered = ap order.cmp starts.ordered ∙ ap order.cmp opened.ordered.1 ∙ order_is }
      walk_indexed (Some core) from at same = subst (IsIndexed order (key_order by.format) one.parts) (sym same) at

      pub step_lands : Steps → Lands agrees to one.parts state old result after new
      step_lands (not_begun none new_none env_is blocks_is out) =
          (λ position led. refused_ok IsOutOfMemory _ result out, subst (IsIndexedFor order (key_order by.format) one.parts) (sym new_none) tt, unbegun_reads (Wants agrees) env_is out)
      step_lands (stepped from at is_walk new_is in_cmp) =
          subst (λ o. Lands agrees to one.parts state old result after o) (sym new_is) (
            (λ position led. on_ok_weaker result (λ step. record {
              lines = lines_after;
              ordered = order_after;
              at = step_leads agrees (store_order exact) has_parts from begun (λ key fit. fit) to (table_position at) position step (led_by table to (key_order by.format) one.parts old from position is_walk led);
            }) (steps.steps one.bytes has holds)),
            record { lines = lines_after; ordered = order_after },
            reads_weaker env result (λ status lack. step_wants agrees (store_order exact) has_parts from begun to status (lack.1 one.bytes has holds)) steps.reads,
          )
        where
          steps : StepsInTable order env by.format.codings (key_order by.format) (id_of table) (file_of table) (step_to order to) state blocks from result after gained at
          steps = subst (λ (o : List ℕ → List ℕ → Ordering). StepsInTable order env by.format.codings o (id_of table) (file_of table) (step_to order to) state blocks from result after gained at) (ap order.cmp opened.ordered.0 ∙ order_is) in_cmp

          begun : IsIndexed order (key_order by.format) one.parts from
          begun = walk_indexed old from indexed is_walk

          lines_after : pairs_over at.index ≡ map index_pair one.parts
          lines_after = steps.same_lines ∙ begun.lines

          order_after : order.cmp at.index.block.cmp ≡ key_order by.format
          order_after = ap order.cmp steps.same_order ∙ begun.ordered

  -- ---- the cache

  same_or_closed : (number : ℕ) (first second third : TableCache E C FP F) → IsSameOrClosed number first second → IsSameOrClosed number second third → IsSameOrClosed number first third
  same_or_closed number first second third one other =
      ⊎_elim (λ (closed : table_at third number ≡ None). inl closed) (λ (same : table_at third number ≡ table_at second number). ⊎_elim (λ (gone : table_at second number ≡ None). inl (same ∙ gone)) (λ (was : table_at second number ≡ table_at first number). inr (same ∙ was)) one) other

  pub KeepsTables-trans : {first second third : E} {a b c : TableCache E C FP F} → KeepsTables order env by first a second b → KeepsTables order env by second b third c → KeepsTables order env by first a third c
  KeepsTables-trans one other = let counted = one.later in let later = other.later in record {
    disk = KeepsDisk-trans env one.disk other.disk;
    later = omega (arith, counted, later);
    path = other.path ∙ one.path;
    room = other.room ∙ one.room;
    matches = λ matched. other.matches (one.matches matched);
  }

  module _ (number : ℕ) (fits : number < 2 ^ 64) (to : TableStep) (state : E) (old : TableCache E C FP F) (core : Option (TablePlace (InternalKeyCmp C))) where
    -- the table isn't opened for a fault of its own
    unopened_by : {mid : E} (cache : TableCache E C FP F) {meaning : Meaning} (agrees : Agrees by.format meaning) (modelled : IsTrue env.models_disk) (one : FileTable)
        → IsTableAt by.format.order meaning (files_at env mid) (path_at cache number) one → (status : Status) → IsUnopened env by.format mid (path_at cache number) status → Wants agrees status
    unopened_by {mid} cache agrees modelled one it status why = by_case (why.cause modelled)
      where
        by_case : IsTableUnopened by.format (files_at env mid) (path_at cache number) status → Wants agrees status
        by_case (missing none code) = let there = it.there in absurd (subst (λ (o : Option File). IsSomeAnd o (λ file. bytes_of file ≡ one.bytes)) none there.there)
        by_case (no_table some lacks) = unopened_wants by.format agrees it.is status (lacks one.bytes it.there)

    -- it isn't opened
    pub moves_unopened : {status : Status} {after : E} {new : TableCache E C FP F} (new_core : Option (TablePlace (InternalKeyCmp C))) → LeavesPairs core new_core
        → OpensTableAt order env by number state old (Err status) after new → MovesInNumbered order env by number to state old core (Err status) after new new_core
    moves_unopened {status} {after} {new} new_core left opens = let uses = opens.uses in record {
      table = λ matched meaning agrees one it indexed. (
        λ position led. tt,
        left_indexed order (key_order by.format) one.parts core new_core left indexed,
        (reads_refused env {T = Unit {0}} {Why = Wants agrees} (Err status) refl (reads_weaker env {Why = Wants agrees} (Err status) (λ other why. unopened_by old agrees matched.modelled one it other why.1) uses.reads)).cause,
      );
      there = tt;
      err = left_position core new_core left;
      reads = reads_refused env {T = Unit {0}} (Err status) refl (reads_weaker env (Err status) (λ other why. fault_of env by.format other why.1.code) uses.reads);
      keeps = record {
        disk = uses.reads.kept_disk;
        later = uses.reads.cause.later;
        path = uses.path;
        room = uses.room;
        matches = λ matched. record { modelled = matched.modelled; matches = opens.matches matched.modelled matched.matches };
      };
      others = uses.others;
    }

    -- it is opened, or was open
    module _ {mid : E} {cache : TableCache E C FP F} (opens : OpensTableAt order env by number state old (Ok tt) mid cache) where
      keeps_mid : KeepsTables order env by state old mid cache
      keeps_mid = let uses = opens.uses in record {
        disk = uses.reads.kept_disk;
        later = uses.reads.cause.later;
        path = uses.path;
        room = uses.room;
        matches = λ matched. record { modelled = matched.modelled; matches = opens.matches matched.modelled matched.matches };
      }

      at_mid : {meaning : Meaning} {one : FileTable} → IsTrue env.models_disk → IsTableAt by.format.order meaning (files_at env state) (path_at old number) one → IsTableAt by.format.order meaning (files_at env mid) (path_at cache number) one
      at_mid {meaning} {one} modelled it =
          subst (λ files. IsTableAt by.format.order meaning files (path_at cache number) one) (sym (same_files env opens.uses.reads.kept_disk modelled))
          (subst (λ store. IsTableAt by.format.order meaning (files_at env state) (table_path store number) one) (sym opens.uses.path) it)

      -- what follows it, from there on
      module _ (result : Result Bool Status) {after : E} {new : TableCache E C FP F} (new_core : Option (TablePlace (InternalKeyCmp C))) where
        moves_from : (AreTablesMatched order env by mid cache → (meaning : Meaning) (agrees : Agrees by.format meaning) (one : FileTable) → IsTableAt by.format.order meaning (files_at env mid) (path_at cache number) one
            → IsIndexedFor order (key_order by.format) one.parts core → Lands agrees to one.parts mid core result after new_core)
            → IfOk result (λ there. there ≡ is_some (core_position new_core)) → OnErr result (core_position new_core ≡ None) → ReadsFile env (λ status. IsTableFault by.format status.code) mid after result
            → KeepsTables order env by mid cache after new → ((other : ℕ) → other < 2 ^ 64 → other ≢ number → IsSameOrClosed other cache new) → MovesInNumbered order env by number to state old core result after new new_core
        moves_from lands there err reads keeps others = record {
          table = λ matched meaning agrees one it indexed. (let land = lands (keeps_mid.matches matched) meaning agrees one (at_mid matched.modelled it) indexed in
              (land.0, land.1, (reads_then env {Why = Wants agrees} result opens.uses.reads.kept_disk opens.uses.reads.cause.ok (λ status wants. wants) land.2).cause));
          there = there;
          err = err;
          reads = reads_then env result opens.uses.reads.kept_disk opens.uses.reads.cause.ok (λ status fault. fault) reads;
          keeps = KeepsTables-trans keeps_mid keeps;
          others = λ other other_fits apart. same_or_closed other old cache new (opens.uses.others other other_fits apart) (others other other_fits apart);
        }

        -- a move in the open table
        pub moves_open : (table : StoreTable C FP F) → table_at cache number ≡ Some table → {gained : Cached (CachedBlock (InternalKeyCmp C))} → new ≡ record cache { blocks = gained }
            → StepsInOpen order env by.format.codings table to mid (blocks_of cache) core result after gained new_core → MovesInNumbered order env by number to state old core result after new new_core
        moves_open table is_open {gained} new_is steps =
            moves_from (λ matched meaning agrees one it indexed. (let file = matched.matches.each number table fits is_open in
            step_lands table to mid (blocks_of cache) core result after gained new_core agrees one it.is it.parted (file.opened one.bytes it.there)
            (FileHas-at env matched.modelled (file.path matched.modelled) (KeepsDisk-refl env mid) it.there) (file.blocks one.bytes it.there) indexed steps))
            (step_there table to mid (blocks_of cache) core result after gained new_core steps) (step_err table to mid (blocks_of cache) core result after gained new_core steps)
            reads (subst (λ c. KeepsTables order env by mid cache after c) (sym new_is) (record {
              disk = reads.kept_disk;
              later = reads.cause.later;
              path = refl;
              room = refl;
              matches = λ matched. record { modelled = matched.modelled; matches = matches_later env by (record cache { blocks = gained }) matched.modelled reads.kept_disk (gained_open matched) };
            }))
            (λ other other_fits apart. inr (ap (λ (c : TableCache E C FP F). table_at c other) new_is))
          where
            reads : ReadsFile env (λ status. IsTableFault by.format status.code) mid after result
            reads = step_reads table to mid (blocks_of cache) core result after gained new_core steps

            gains : GainsBlocks (id_of table) (Right table to mid (blocks_of cache) core result after gained new_core) (blocks_of cache) gained
            gains = step_gains table to mid (blocks_of cache) core result after gained new_core steps

            gained_open : AreTablesMatched order env by mid cache → MatchesFiles order env by (files_at env mid) (record cache { blocks = gained })
            gained_open matched =
                let was = matched.matches in
                let own = was.each number table fits is_open in
                let given = gains.given in let ids = was.ids in let own_given = own.given in
                matches_blocks env by cache gained (files_at env mid) was (omega (arith, given, ids)) (omega (arith, given)) (IsNumbered-after own_given gains was.numbered)
                (λ n other n_fits at bytes has. (let it = was.each n other n_fits at in let it_given = it.given in
                ⊎_elim
                (λ (same : id_of other ≡ id_of table). (let one = was.apart n number other table n_fits fits at is_open same in
                let here = subst (λ m. HasBytesAt (files_at env mid) (path_at cache m) bytes) one has in
                subst (λ i. HoldsOnlyOf order by.format.codings (key_order by.format) i bytes gained) (sym same)
                (HoldsOnlyOf-after (own_blocks order env by order_is table (own.opened bytes here) (FileHas-at env matched.modelled (own.path matched.modelled) (KeepsDisk-refl env mid) here)) gains (own.blocks bytes here))))
                (λ (apart : id_of other ≢ id_of table). HoldsOnlyOf-other (omega (arith, own_given, ids)) (omega (arith, it_given, ids)) (λ same. apart (sym same)) gains (it.blocks bytes has))
                (same_or_not (id_of other) (id_of table))))

      -- there is room for no table: it is opened for the move alone
      pub moves_reopened : (none : table_at cache number ≡ None) (table : StoreTable C FP F) {then : E} {now : TableCache E C FP F} → OpensNumbered env by number mid cache (Ok table) then now
          → (result : Result Bool Status) {after : E} {gained : Cached (CachedBlock (InternalKeyCmp C))} (new_core : Option (TablePlace (InternalKeyCmp C)))
          → StepsInOpen order env by.format.codings table to then (blocks_of now) core result after gained new_core → MovesInNumbered order env by number to state old core result after (record now { blocks = gained }) new_core
      moves_reopened none table {then} {now} reopens result {after} {gained} new_core steps =
          moves_from result new_core (λ matched meaning agrees one it indexed. (let opened = reopens.opened matched.modelled one.bytes it.there in
          let land = step_lands table to then (blocks_of now) core result after gained new_core agrees one it.is it.parted opened
          (FileHas-at env matched.modelled (reopens.path matched.modelled) reopens.reads.kept_disk it.there)
          (subst (λ (b : Cached (CachedBlock (InternalKeyCmp C))). HoldsOnlyOf order by.format.codings (key_order by.format) (id_of table) one.bytes b) (sym (ap blocks_of reopens.cache))
          (let own = reopens.id.0 in HoldsOnlyOf-new (blocks_of (renewed cache)) reopens.id.1 (omega (arith, own)) (matches_renewed env by cache (files_at env mid) matched.matches).numbered))
          indexed steps in
          (land.0, land.1, reads_then env {Why = Wants agrees} result reopens.reads.kept_disk reopens.reads.cause.ok (λ status wants. wants) land.2)))
          (step_there table to then (blocks_of now) core result after gained new_core steps) (step_err table to then (blocks_of now) core result after gained new_core steps)
          reads (record {
            disk = reads.kept_disk;
            later = reads.cause.later;
            path = ap store_of reopens.cache ∙ renewed_store cache;
            room = ap (λ c. (tables_of c).capacity) reopens.cache ∙ renewed_room cache;
            matches = λ matched. record {
              modelled = matched.modelled;
              matches = matches_opened order env by order_is cache mid number fits none table now reopens gains (found_key now) (tables_of now) (inl refl) matched.modelled matched.matches
                  (λ bytes opened has. own_blocks order env by order_is table opened has) reads.kept_disk;
            };
          })
          (λ other other_fits apart. subst (λ (c : TableCache E C FP F). IsSameOrClosed other cache c) (sym reopens.cache) (renewed_closes cache other))
        where
          reads : ReadsFile env (λ status. IsTableFault by.format status.code) mid after result
          reads = reads_then env result reopens.reads.kept_disk reopens.reads.cause.ok (λ status fault. fault) (step_reads table to then (blocks_of now) core result after gained new_core steps)

          gains : GainsBlocks (id_of table) (Right table to then (blocks_of now) core result after gained new_core) (blocks_of now) gained
          gains = step_gains table to then (blocks_of now) core result after gained new_core steps

      -- or isn't opened then
      pub moves_unreopened : (none : table_at cache number ≡ None) {status : Status} {after : E} {new : TableCache E C FP F} → OpensNumbered env by number mid cache (Err status) after new
          → (new_core : Option (TablePlace (InternalKeyCmp C))) → LeavesPairs core new_core → MovesInNumbered order env by number to state old core (Err status) after new new_core
      moves_unreopened none {status} {after} {new} reopens new_core left =
          moves_from (Err status) new_core (λ matched meaning agrees one it indexed. (
            λ position led. tt,
            left_indexed order (key_order by.format) one.parts core new_core left indexed,
            reads_refused env {T = StoreTable C FP F} {Why = Wants agrees} (Err status) refl (reads_weaker env {Why = Wants agrees} (Err status) (λ other why. unopened_by cache agrees matched.modelled one it other why) reopens.reads),
          ))
          tt (left_position core new_core left) reads (record {
            disk = reads.kept_disk;
            later = reads.cause.later;
            path = uses.path;
            room = uses.room;
            matches = λ matched. record { modelled = matched.modelled; matches = matches_unopened order env by order_is cache mid number fits none (let r : Result Bool Status = Err status in r) refl reopens matched.modelled matched.matches };
          })
          uses.others
        where
          reads : ReadsFile env {T = Bool} (λ status. IsTableFault by.format status.code) mid after (Err status)
          reads = reads_refused env {T = StoreTable C FP F} (Err status) refl (reads_weaker env (Err status) (λ other why. fault_of env by.format other why.code) reopens.reads)

          uses : UsesTable env {T = Bool} (λ other. IsNotOpened env by mid cache number other) number mid cache (Err status) after new
          uses = uses_unopened order env by order_is cache mid number fits none (let r : Result Bool Status = Err status in r) refl reopens (λ other. IsNotOpened env by mid cache number other) (λ other why. why)
