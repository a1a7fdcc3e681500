-- Moves of a walk over a table that seek a key, and moves to the block before.
use Rattle.std.proofs.Common.{◌≡◌, ◌≢◌, ◌⊎◌, ℕ, Bool, true, if◌then◌else◌, List, [], ◌∷◌, length, map, Option, None, Some, Result, Ok, Err, refl, sym, ◌∙◌, ap, subst, inl, inr, ⊎_elim, ◌+◌, ◌<◌, false, arith}
use Rattle.std.specs.Prelude.{IfSome, IfOk, IfErr, IsErrAnd, is_some}
use Rattle.std.specs.Option.{IsSomeAnd}
use Rattle.std.specs.declared.cmp.Ordering.{Ordering}
use Rattle.std.proofs.lemmas.Option.{slice_get-get_or}
use Rattle.leveldb_base.specs.BlockHandle.{Handle, handle_bytes, HandleFits}
use Rattle.leveldb_base.specs.Cmp.{IsPreorderOn}
use Rattle.leveldb_base.specs.Types.{Pair, IsPosition, position_within, next_position, previous_position, seek_position, pair_at, last_position}
use Rattle.leveldb_base.specs.declared.cmp.Cmp.{Ghosts as CmpGhosts}
use Rattle.leveldb_base.specs.declared.error.Status.{Status}
use Rattle.leveldb_base.specs.declared.error.StatusCode.TheVariants.{Corruption}
use Rattle.leveldb_base.specs.Error.{IsOutOfMemory}
use Rattle.leveldb_env.specs.declared.env.Env.{Ghosts as EnvGhosts}
use Rattle.leveldb_env.specs.Compressor.{Codings}
use Rattle.leveldb_table.specs.BlockWalk.{pair_with, pairs_over, position_over, BlockPosition}
use Rattle.leveldb_table.specs.Cache.{Cached}
use Rattle.leveldb_table.specs.Table.{Part, index_pair, named_part}
use Rattle.leveldb_table.specs.BlockCache.{HoldsOnlyOf, IsBlockOfFile, GainsBlocks}
use Rattle.leveldb_table.specs.TableReaderBlocks.{IsAfterLine, IsBeforeBlock, let_position, IsBlockAt, IsBlockOf, line_of, IsIndexed, MovesFromLine}
use Rattle.leveldb_table.specs.TableReader.{OpenTable, pairs_in, lines_of, HasParts}
use Rattle.leveldb_table.specs.TableBlock.{KeepsDisk, FileHas, ForBytesOf, IsNamedBy, NamesNone, LacksLine, IsLackError, ReadsFile}
use Rattle.leveldb_table.specs.TableReaderWalk.{TablePlace, IsAtPairOrNone, IsAtPosition, MovesInTable, Outcome, inner_block, inner_pairs, inner_position, table_position, TablePosition, IsNamed}
use Rattle.leveldb_table.specs.BlockLaws.{position_within-is}
use Rattle.leveldb_table.specs.declared.block_cache.CachedBlock.{CachedBlock}
use Rattle.leveldb_table.specs.Block.{BlockRead}
use Rattle.leveldb_table.specs.TableReaderMoves.{LooksUp, found_with, LookUpInTable, HasLine, InsideOr, ToBlock, ToFirstPair, ToLastPair, ToNextPair, ToPreviousPair, ToKeyInBlock, ToKeyByLine, ToKeyByLineIfLet, LookUpByLine, LookUpFromLine, line_for, Forward, Backward, ToFirst, ToNextBlock, ToPreviousBlock, ToKey, ToKeyIfLet}
use Rattle.leveldb_table.proofs.BlockCacheLemmas.{GainsBlocks-refl, GainsBlocks-trans, GainsBlocks-weaker, HoldsOnlyOf-after}
use Rattle.leveldb_table.proofs.TableBlockLemmas.{KeepsDisk-refl, FileHas-after, ForBytesOf-before, reads_then, reads_weaker, reads_own, reads_ok, reads_refused}
use Rattle.leveldb_table.proofs.TableReaderWalkLemmas.{ok_refused, err_holds, some_none, some_there, same_handle, same_value, line_is_of, part_pairs, IsInto, is_there_along, parts_some, named_at, named_none, seek_in, seek_after, previous_block, last_block, lacks_some, next_in}
use Rattle.leveldb_table.proofs.TableLemmas.{OnOk-with}

-- for a block that the index names, and where it names none
let_named : (cmp : List ℕ → List ℕ → Ordering) (may_contain : ℕ → List ℕ → Bool) (key : List ℕ) (parts : List Part) (part : Part) (b : Bool) → named_part cmp key parts ≡ Some part → may_contain part.handle.offset key ≡ b
    → let_position cmp may_contain key parts ≡ (if b then seek_position cmp (pairs_in parts) key else None)
let_named cmp may_contain key parts part b named is =
    ap (λ o. elim o [ None ↦ None | Some part ↦ if may_contain part.handle.offset key then seek_position cmp (pairs_in parts) key else None ]) named ∙ ap (λ z. if z then seek_position cmp (pairs_in parts) key else None) is

pub let_none : (cmp : List ℕ → List ℕ → Ordering) (may_contain : ℕ → List ℕ → Bool) (key : List ℕ) (parts : List Part) → seek_position cmp (map index_pair parts) key ≡ None → let_position cmp may_contain key parts ≡ None
let_none cmp may_contain key parts none = ap (λ o. elim o [ None ↦ None | Some part ↦ if may_contain part.handle.offset key then seek_position cmp (pairs_in parts) key else None ]) (named_none cmp key parts none)

-- ---- lines

-- a line whose value is a handle's bytes has a key
named_line : (line : Option Pair) (handle : Handle) → IsSomeAnd line (λ pair. pair.1 ≡ handle_bytes handle) → (key : List ℕ) × (line ≡ Some (key, handle_bytes handle))
named_line None handle names = absurd names
named_line (Some pair) handle names = (pair.0, ap (λ z. Some (pair.0, z)) names)

-- a line names what its value encodes, and one whose value is no handle's names none
pub names_one : (handle : Handle) {line : Option Pair} {key value : List ℕ} → line ≡ Some (key, value) → value ≡ handle_bytes handle → IsNamedBy line handle
names_one handle is names = subst (λ z. IsNamedBy z handle) (sym is) names

pub names_none : {line : Option Pair} {key value : List ℕ} → line ≡ Some (key, value) → ((handle : Handle) → HandleFits handle → value ≡ handle_bytes handle → ⊥) → NamesNone line
names_none is none = subst NamesNone (sym is) none

-- a line is there only at a position
pub line_there : (lines : List Pair) (position : Option ℕ) (handle : Handle) → IsSomeAnd (pair_at lines position) (λ pair. pair.1 ≡ handle_bytes handle) → is_some position ≡ true
line_there lines None handle names = absurd names
line_there lines (Some i) handle names = refl

-- where a line is, there is a position
position_there : (lines : List Pair) (position : Option ℕ) {pair : Pair} → pair_at lines position ≡ Some pair → is_some position ≡ true
position_there lines None is = absurd (some_none (sym is))
position_there lines (Some i) is = refl

position_none_at : (lines : List Pair) (position : Option ℕ) → IsPosition lines position → pair_at lines position ≡ None → position ≡ None
position_none_at lines None within is = refl
position_none_at lines (Some i) within is = absurd (some_none (sym (slice_get-get_or lines i ([], []) within) ∙ is))

-- at the first pair of a block
pub before_first : (parts : List Part) (line : Option ℕ) (pairs : List Pair) (inner position : Option ℕ) → inner ≢ None → previous_position inner ≡ None → IsAtPairOrNone parts line pairs inner position → IsBeforeBlock parts line (previous_position position)
before_first parts line pairs inner None some first at = absurd (some at)
before_first parts line pairs inner (Some n) some first at = record { pairs = pairs; inner = inner; n = n; is_there = at; first = first; to = refl }

last_there : (pairs : List Pair) → pairs ≢ [] → (k : ℕ) × (last_position pairs ≡ Some k)
last_there [] some = absurd (some refl)
last_there (pair ∷ pairs) some = (length pairs, refl)

pub last_none : (pairs : List Pair) → last_position pairs ≡ None → pairs ≡ []
last_none [] none = refl
last_none (pair ∷ pairs) none = absurd (some_none none)

module _ {C : Type 0} where
  -- the block at the handle is that of the line
  block_of : (order : CmpGhosts C) (codings : Codings) (cmp : List ℕ → List ℕ → Ordering) (bytes : List ℕ) (line : Option Pair) (handle : Handle) (block : Option (BlockRead C)) → HandleFits handle → IsSomeAnd line (λ pair. pair.1 ≡ handle_bytes handle)
      → IsBlockAt order codings cmp bytes handle block → IsBlockOf order codings cmp bytes line block
  block_of order codings cmp bytes line handle None fits names at = absurd at
  block_of order codings cmp bytes line handle (Some block) fits names at =
      let is = named_line line handle names in
      (record { key = is.0; handle = handle; fits = fits; names = is.1; is_there = at.0 }, at.1, at.2)

module _ {C : Type 0} (order : CmpGhosts C) where
  -- a position of the block in the table's order
  sought_inner : (codings : Codings) (cmp : List ℕ → List ℕ → Ordering) (bytes : List ℕ) (line : Option Pair) (inner : Option (BlockPosition C)) (position : Option ℕ) (key : List ℕ)
      → IfSome inner (λ walk. position ≡ seek_position (order.cmp walk.block.cmp) (pairs_over walk) key) → IsBlockOf order codings cmp bytes line (inner_block inner) → position ≡ seek_position cmp (inner_pairs inner) key
  sought_inner codings cmp bytes line None position key sought of = absurd of
  sought_inner codings cmp bytes line (Some walk) position key sought of = sought ∙ ap (λ (o : List ℕ → List ℕ → Ordering). seek_position o (pairs_over walk) key) of.1

  -- the walk has the block of its line, and sought a key there
  pub record IsSought (codings : Codings) (cmp : List ℕ → List ℕ → Ordering) (bytes key : List ℕ) (old new : TablePlace C) : Type 0 where
    pub index : new.index ≡ old.index
    pub block : IsBlockOf order codings cmp bytes (line_of old) (inner_block new.inner)
    pub position : inner_position new.inner ≡ seek_position cmp (inner_pairs new.inner) key

  -- by reading what is at the line's handle, and a search
  pub is_sought : (codings : Codings) (cmp : List ℕ → List ℕ → Ordering) (bytes key : List ℕ) (old loaded new : TablePlace C) (handle : Handle) → HandleFits handle → IsSomeAnd (line_of old) (λ pair. pair.1 ≡ handle_bytes handle)
      → loaded.index ≡ old.index → IsBlockAt order codings cmp bytes handle (inner_block loaded.inner) → new.index ≡ loaded.index → inner_block new.inner ≡ inner_block loaded.inner → inner_pairs new.inner ≡ inner_pairs loaded.inner
      → IfSome loaded.inner (λ walk. inner_position new.inner ≡ seek_position (order.cmp walk.block.cmp) (pairs_over walk) key) → IsSought codings cmp bytes key old new
  is_sought codings cmp bytes key old loaded new handle fits names same at kept inner pairs sought =
      let of = block_of order codings cmp bytes (line_of old) handle (inner_block loaded.inner) fits names at in
      record {
        index = kept ∙ same;
        block = subst (λ b. IsBlockOf order codings cmp bytes (line_of old) b) (sym inner) of;
        position = sought_inner codings cmp bytes (line_of old) loaded.inner (inner_position new.inner) key sought of ∙ ap (λ z. seek_position cmp z key) (sym pairs);
      }

module _ {C : Type 0} {order : CmpGhosts C} where
  -- ---- one call after another

  module _ {E F : Type 0} {env : EnvGhosts E F} {codings : Codings} {accepts : List ℕ → Bool} {cmp : List ℕ → List ℕ → Ordering} {id : ℕ} {file : F} where
    -- after Ok calls that leave the index
    pub enters_then : {T : Type 0} {Fit Way : List Part → Option ℕ → Type 0} {Part_step Step : Codings → (List ℕ → List ℕ → Ordering) → List ℕ → TablePlace C → Outcome → Type 0} {old_env mid_env new_env : E} {old_cache mid_cache new_cache : Cached (CachedBlock C)} {mid new : TablePlace C} {result : Result T Status} (old : TablePlace C)
        → KeepsDisk env old_env mid_env → env.failures mid_env ≡ env.failures old_env → GainsBlocks id (λ offset held. ForBytesOf env old_env file (λ bytes. IsBlockOfFile order codings cmp bytes offset held)) old_cache mid_cache → pairs_over mid.index ≡ pairs_over old.index → mid.index.block.cmp ≡ old.index.block.cmp
        → ((bytes : List ℕ) → FileHas env old_env file bytes → (parts : List Part) (position : Option ℕ) → HasParts codings accepts cmp bytes parts → Fit parts position → HoldsOnlyOf order codings cmp id bytes old_cache → IsIndexed order cmp parts old → Way parts position)
        → ((bytes : List ℕ) → FileHas env old_env file bytes → HoldsOnlyOf order codings cmp id bytes old_cache → (out : Outcome) → Part_step codings cmp bytes mid out → Step codings cmp bytes old out)
        → MovesFromLine order env codings accepts cmp id file Way Part_step mid_env mid_cache mid result new_env new_cache new → MovesFromLine order env codings accepts cmp id file Fit Step old_env old_cache old result new_env new_cache new
    enters_then {Part_step = Part_step} {Step = Step} {old_env = old_env} {old_cache = old_cache} {mid_cache = mid_cache} {mid = mid} {new = new} {result = result} old kept_disk counted gathers lines same way step enters =
        let held : (bytes : List ℕ) → FileHas env old_env file bytes → HoldsOnlyOf order codings cmp id bytes old_cache → HoldsOnlyOf order codings cmp id bytes mid_cache = λ bytes has. HoldsOnlyOf-after (λ offset held right. right bytes has) gathers in
        let indexed : (parts : List Part) → IsIndexed order cmp parts old → IsIndexed order cmp parts mid = λ parts is. record { lines = lines ∙ is.lines; ordered = ap order.cmp same ∙ is.ordered } in
        record {
          reads = reads_then env result kept_disk counted (λ status lacks. (
            lacks.0,
            λ bytes has. (
              λ parts position right fit holds is. (lacks.1 bytes (FileHas-after env kept_disk has)).0 parts position right (way bytes has parts position right fit holds is) (held bytes has holds) (indexed parts is),
              λ holds. step bytes has holds (Err status) ((lacks.1 bytes (FileHas-after env kept_disk has)).1 (held bytes has holds)),
            ),
          )) enters.reads;
          ok = λ bytes has parts position right fit holds is. enters.ok bytes (FileHas-after env kept_disk has) parts position right (way bytes has parts position right fit holds is) (held bytes has holds) (indexed parts is);
          steps = λ bytes has holds. OnOk-with result (Part_step codings cmp bytes mid (Ok (table_position new))) (Step codings cmp bytes old (Ok (table_position new))) (step bytes has holds (Ok (table_position new))) (enters.steps bytes (FileHas-after env kept_disk has) (held bytes has holds));
          err = enters.err;
          gathers = GainsBlocks-trans gathers (GainsBlocks-weaker (λ offset held right. ForBytesOf-before env file _ kept_disk right) enters.gathers);
          same_lines = enters.same_lines ∙ lines;
          same_order = enters.same_order ∙ same;
        }

    -- with another answer
    pub enters_ok : {T U : Type 0} {Fit : List Part → Option ℕ → Type 0} {Step : Codings → (List ℕ → List ℕ → Ordering) → List ℕ → TablePlace C → Outcome → Type 0} {old_env new_env : E} {old_cache new_cache : Cached (CachedBlock C)} {old new : TablePlace C} {answer : T} (other : U)
        → MovesFromLine order env codings accepts cmp id file Fit Step old_env old_cache old (Ok answer) new_env new_cache new → MovesFromLine order env codings accepts cmp id file Fit Step old_env old_cache old (Ok other) new_env new_cache new
    enters_ok other enters = record {
      reads = reads_ok env enters.reads.kept_disk enters.reads.cause.ok;
      ok = enters.ok;
      steps = enters.steps;
      err = tt;
      gathers = enters.gathers;
      same_lines = enters.same_lines;
      same_order = enters.same_order;
    }

    -- or a refusal that is passed on
    pub enters_refused : {T U : Type 0} {Fit : List Part → Option ℕ → Type 0} {Step : Codings → (List ℕ → List ℕ → Ordering) → List ℕ → TablePlace C → Outcome → Type 0} {old_env new_env : E} {old_cache new_cache : Cached (CachedBlock C)} {old new : TablePlace C} {status : Status} (result : Result U Status) → IsErrAnd result (λ other. other ≡ status)
        → MovesFromLine order {T = T} env codings accepts cmp id file Fit Step old_env old_cache old (Err status) new_env new_cache new → MovesFromLine order env codings accepts cmp id file Fit Step old_env old_cache old result new_env new_cache new
    enters_refused result same enters = record {
      reads = reads_refused env result same enters.reads;
      ok = λ bytes has parts position right fit holds is. ok_refused _ _ result same;
      steps = λ bytes has holds. ok_refused _ _ result same;
      err = err_holds result enters.err;
      gathers = enters.gathers;
      same_lines = enters.same_lines;
      same_order = enters.same_order;
    }

    -- no call, and no position
    pub enters_ends : {T : Type 0} {Fit : List Part → Option ℕ → Type 0} {Step : Codings → (List ℕ → List ℕ → Ordering) → List ℕ → TablePlace C → Outcome → Type 0} {state : E} {cache : Cached (CachedBlock C)} (old new : TablePlace C) (answer : T) → pairs_over new.index ≡ pairs_over old.index → new.index.block.cmp ≡ old.index.block.cmp
        → inner_position new.inner ≡ None → ((bytes : List ℕ) → (parts : List Part) (position : Option ℕ) → HasParts codings accepts cmp bytes parts → Fit parts position → IsIndexed order cmp parts old → position ≡ None)
        → ((bytes : List ℕ) → Step codings cmp bytes old (Ok (table_position new))) → MovesFromLine order env codings accepts cmp id file Fit Step state cache old (Ok answer) state cache new
    enters_ends {state = state} {cache = cache} old new answer lines same none way step = record {
      reads = reads_ok env (KeepsDisk-refl env state) refl;
      ok = λ bytes has parts position right fit holds is. record {
        lines = lines ∙ is.lines;
        ordered = ap order.cmp same ∙ is.ordered;
        at = subst (λ z. IsAtPairOrNone parts (position_over new.index) (inner_pairs new.inner) (inner_position new.inner) z) (sym (way bytes parts position right fit is)) none;
      };
      steps = λ bytes has holds. step bytes;
      err = tt;
      gathers = GainsBlocks-refl id _ cache;
      same_lines = lines;
      same_order = same;
    }

    -- no call, and a refusal
    pub enters_own : {T : Type 0} {P : Status → Type 0} {Fit : List Part → Option ℕ → Type 0} {Step : Codings → (List ℕ → List ℕ → Ordering) → List ℕ → TablePlace C → Outcome → Type 0} {state : E} {cache : Cached (CachedBlock C)} (old new : TablePlace C) (result : Result T Status) → pairs_over new.index ≡ pairs_over old.index → new.index.block.cmp ≡ old.index.block.cmp
        → inner_position new.inner ≡ None → IsErrAnd result P
        → ((status : Status) → P status → IsOutOfMemory status ⊎ ((status.code ≡ Corruption) × ((bytes : List ℕ) → ((parts : List Part) (position : Option ℕ) → HasParts codings accepts cmp bytes parts → Fit parts position → IsIndexed order cmp parts old → ⊥) × Step codings cmp bytes old (Err status))))
        → MovesFromLine order env codings accepts cmp id file Fit Step state cache old result state cache new
    enters_own {state = state} {cache = cache} old new result lines same none refused why = record {
      reads = reads_own env result (KeepsDisk-refl env state) refl refused (λ status is. ⊎_elim inl (λ lacks. inr (inl lacks.0, λ bytes has. (λ parts position right fit holds indexed. (lacks.1 bytes).0 parts position right fit indexed, λ holds. (lacks.1 bytes).1))) (why status is));
      ok = λ bytes has parts position right fit holds is. ok_refused _ _ result refused;
      steps = λ bytes has holds. ok_refused _ _ result refused;
      err = err_holds result none;
      gathers = GainsBlocks-refl id _ cache;
      same_lines = lines;
      same_order = same;
    }

    -- from no position to the first pair is by a step
    pub moves_first : {T : Type 0} {Part_step Step : Codings → (List ℕ → List ℕ → Ordering) → List ℕ → TablePlace C → Outcome → Type 0} {old_env new_env : E} {old_cache new_cache : Cached (CachedBlock C)} {mid new : TablePlace C} {result : Result T Status} (old : TablePlace C) → mid.index ≡ old.index → mid.inner ≡ None
        → ((bytes : List ℕ) (out : Outcome) → Part_step codings cmp bytes mid out → Step codings cmp bytes old out) → MovesInTable order env codings accepts cmp id file (λ _. Unit {0}) next_position Part_step old_env old_cache mid result new_env new_cache new
        → MovesInTable order env codings accepts cmp id file (λ _. Unit {0}) (λ pairs _. position_within pairs 0) Step old_env old_cache old result new_env new_cache new
    moves_first {Part_step = Part_step} {Step = Step} {mid = mid} {new = new} {result = result} old index none step moves =
        let at : (parts : List Part) (position : Option ℕ) → IsAtPosition order cmp parts old position → IsAtPosition order cmp parts mid None = λ parts position is_there. record {
          lines = ap pairs_over index ∙ is_there.lines;
          ordered = ap (λ (z : BlockPosition C). order.cmp z.block.cmp) index ∙ is_there.ordered;
          at = ap inner_position none;
        } in
        record {
          reads = reads_weaker env result (λ status lacks. (
            lacks.0,
            λ bytes has. (
              λ parts position right fit holds is_there. (lacks.1 bytes has).0 parts None right fit holds (at parts position is_there),
              λ holds. step bytes (Err status) ((lacks.1 bytes has).1 holds),
            ),
          )) moves.reads;
          ok = λ bytes has parts position right fit holds is_there. moves.ok bytes has parts None right fit holds (at parts position is_there);
          steps = λ bytes has holds. OnOk-with result (Part_step codings cmp bytes mid (Ok (table_position new))) (Step codings cmp bytes old (Ok (table_position new))) (step bytes (Ok (table_position new))) (moves.steps bytes has holds);
          err = moves.err;
          gathers = moves.gathers;
          same_lines = moves.same_lines ∙ ap pairs_over index;
          same_order = moves.same_order ∙ ap (λ (z : BlockPosition C). z.block.cmp) index;
        }

    pub moves_ok : {T U : Type 0} {Fit : List Part → Type 0} {to : List Pair → Option ℕ → Option ℕ} {Step : Codings → (List ℕ → List ℕ → Ordering) → List ℕ → TablePlace C → Outcome → Type 0} {old_env new_env : E} {old_cache new_cache : Cached (CachedBlock C)} {old new : TablePlace C} {answer : T} (other : U)
        → MovesInTable order env codings accepts cmp id file Fit to Step old_env old_cache old (Ok answer) new_env new_cache new → MovesInTable order env codings accepts cmp id file Fit to Step old_env old_cache old (Ok other) new_env new_cache new
    moves_ok other moves = record {
      reads = reads_ok env moves.reads.kept_disk moves.reads.cause.ok;
      ok = moves.ok;
      steps = moves.steps;
      err = tt;
      gathers = moves.gathers;
      same_lines = moves.same_lines;
      same_order = moves.same_order;
    }

    pub moves_refused : {T U : Type 0} {Fit : List Part → Type 0} {to : List Pair → Option ℕ → Option ℕ} {Step : Codings → (List ℕ → List ℕ → Ordering) → List ℕ → TablePlace C → Outcome → Type 0} {old_env new_env : E} {old_cache new_cache : Cached (CachedBlock C)} {old new : TablePlace C} {status : Status} (result : Result U Status)
        → IsErrAnd result (λ other. other ≡ status) → MovesInTable order {T = T} env codings accepts cmp id file Fit to Step old_env old_cache old (Err status) new_env new_cache new → MovesInTable order env codings accepts cmp id file Fit to Step old_env old_cache old result new_env new_cache new
    moves_refused result same moves = record {
      reads = reads_refused env result same moves.reads;
      ok = λ bytes has parts position right fit holds is_there. ok_refused _ _ result same;
      steps = λ bytes has holds. ok_refused _ _ result same;
      err = err_holds result moves.err;
      gathers = moves.gathers;
      same_lines = moves.same_lines;
      same_order = moves.same_order;
    }

module _ {C : Type 0} where
  -- ---- the line for a key

  -- no line is at no position alone
  pub none_at : (index : BlockPosition C) → pair_at (pairs_over index) (position_over index) ≡ None → position_over index ≡ None
  none_at index is = position_none_at (pairs_over index) (position_over index) (position_within-is (pairs_over index) index.at) is

  -- the line for a key, by the order and the lines of the data blocks
  pub index_line : (order : CmpGhosts C) {cmp : List ℕ → List ℕ → Ordering} (parts : List Part) (index : BlockPosition C) (key : List ℕ) (position : Option ℕ) → pairs_over index ≡ map index_pair parts → order.cmp index.block.cmp ≡ cmp
      → position ≡ seek_position (order.cmp index.block.cmp) (pairs_over index) key → seek_position cmp (map index_pair parts) key ≡ position
  index_line order parts index key position lines ordered line =
      ap (λ (o : List ℕ → List ℕ → Ordering). seek_position o (map index_pair parts) key) (sym ordered) ∙ ap (λ z. seek_position (order.cmp index.block.cmp) z key) (sym lines) ∙ sym line

module _ {C : Type 0} {order : CmpGhosts C} where
  module _ {codings : Codings} {accepts : List ℕ → Bool} {cmp : List ℕ → List ℕ → Ordering} {bytes : List ℕ} {parts : List Part} {old : TablePlace C} (key : List ℕ) (has : HasParts codings accepts cmp bytes parts) (indexed : IsIndexed order cmp parts old)
      (line : position_over old.index ≡ seek_position (order.cmp old.index.block.cmp) (pairs_over old.index) key) where
    sought_line : seek_position cmp (map index_pair parts) key ≡ position_over old.index
    sought_line = index_line order parts old.index key (position_over old.index) indexed.lines indexed.ordered line

    module _ (preorder : IsPreorderOn accepts cmp) (fit : accepts key ≡ true) where
      -- in the line's block
      pub sought_in : (new : TablePlace C) → is_some (position_over old.index) ≡ true → IsSought order codings cmp bytes key old new → is_some (inner_position new.inner) ≡ true → IsAtPosition order cmp parts new (seek_position cmp (pairs_in parts) key)
      sought_in new some sought there =
          let at = line_is_of old.index has indexed.lines some in
          let pairs = part_pairs order codings new.inner at.is (subst (λ l. IsBlockOf order codings cmp bytes l (inner_block new.inner)) at.line sought.block) in
          let found = some_there (inner_position new.inner) there in
          record {
            lines = ap pairs_over sought.index ∙ indexed.lines;
            ordered = ap (λ (z : BlockPosition C). order.cmp z.block.cmp) sought.index ∙ indexed.ordered;
            at = is_there_along parts (seek_position cmp (pairs_in parts) key) (ap position_over sought.index ∙ at.at_line) pairs found.1
                (seek_in preorder has.parted has.accepted key fit at.i at.part found.0 (sought_line ∙ at.at_line) at.there (ap (λ z. seek_position cmp z key) (sym pairs) ∙ sym sought.position ∙ found.1));
          }

      -- or in the next one
      pub sought_after : (new : TablePlace C) → is_some (position_over old.index) ≡ true → IsSought order codings cmp bytes key old new → inner_position new.inner ≡ None → IsAfterLine parts (position_over new.index) (seek_position cmp (pairs_in parts) key)
      sought_after new some sought none =
          let at = line_is_of old.index has indexed.lines some in
          let pairs = part_pairs order codings new.inner at.is (subst (λ l. IsBlockOf order codings cmp bytes l (inner_block new.inner)) at.line sought.block) in
          let found_after = seek_after preorder has.parted has.accepted key fit (parts_some has) at.i at.part (sought_line ∙ at.at_line) at.there (ap (λ z. seek_position cmp z key) (sym pairs) ∙ sym sought.position ∙ none) in
          record {
            before = found_after.before;
            after = found_after.after;
            parted = found_after.parted;
            next = ap (next_position (map index_pair parts)) (ap position_over sought.index ∙ at.at_line) ∙ found_after.next;
            to = found_after.to;
          }

module _ {C : Type 0} where
  -- where the filters let the key pass or not at the handle of the line
  pub let_by : {codings : Codings} {accepts : List ℕ → Bool} {cmp : List ℕ → List ℕ → Ordering} {bytes : List ℕ} {parts : List Part} (index : BlockPosition C) (key line_key value : List ℕ) (handle : Handle) (may_contain : ℕ → List ℕ → Bool) (b : Bool)
      → HasParts codings accepts cmp bytes parts → pairs_over index ≡ map index_pair parts → seek_position cmp (map index_pair parts) key ≡ position_over index → pair_at (pairs_over index) (position_over index) ≡ Some (line_key, value)
      → value ≡ handle_bytes handle → may_contain handle.offset key ≡ b → let_position cmp may_contain key parts ≡ (if b then seek_position cmp (pairs_in parts) key else None)
  let_by {cmp = cmp} {parts = parts} index key line_key value handle may_contain b has lines sought is names passes =
      let at = line_is_of index has lines (position_there (pairs_over index) (position_over index) is) in
      let same : at.part.handle ≡ handle = same_handle at.part.handle handle (same_value (index_pair at.part) (line_key, value) (sym at.line ∙ is) ∙ names) in
      let_named cmp may_contain key parts at.part b (named_at cmp key parts at.i at.part (sought ∙ at.at_line) at.there) (ap (λ h. may_contain h.offset key) same ∙ passes)

module _ {C : Type 0} {order : CmpGhosts C} where
  -- ---- back

  module _ {codings : Codings} {accepts : List ℕ → Bool} {cmp : List ℕ → List ℕ → Ordering} {bytes : List ℕ} {parts : List Part} {position : Option ℕ} {old : TablePlace C} (has : HasParts codings accepts cmp bytes parts)
      (before : IsBeforeBlock parts (position_over old.index) position) (indexed : IsIndexed order cmp parts old) where
    -- to its last pair
    pub previous_is_there : (new : TablePlace C) → IsInto order codings cmp bytes (previous_position (position_over old.index)) last_position old new → ((k : ℕ) × (inner_position new.inner ≡ Some k)) × IsAtPosition order cmp parts new position
    previous_is_there new next =
        let lines = next.lines ∙ indexed.lines in
        let at = line_is_of new.index has lines next.some in
        let pairs = part_pairs order codings new.inner at.is (subst (λ l. IsBlockOf order codings cmp bytes l (inner_block new.inner)) at.line next.block) in
        let last = last_there at.part.pairs at.is.some in
        let there : inner_position new.inner ≡ Some last.0 = next.position ∙ ap last_position pairs ∙ last.1 in (
          (last.0, there),
          record {
            lines = lines;
            ordered = ap order.cmp next.same_order ∙ indexed.ordered;
            at = subst (λ z. IsAtPairOrNone parts (position_over new.index) (inner_pairs new.inner) (inner_position new.inner) z) (sym before.to) (is_there_along parts (previous_position (Some before.n)) at.at_line pairs there
                (previous_block before.is_there before.first at.i at.part last.0 (sym next.at_line ∙ at.at_line) at.there last.1));
          },
        )

  -- ---- to the end

  module _ {codings : Codings} {accepts : List ℕ → Bool} {cmp : List ℕ → List ℕ → Ordering} {bytes : List ℕ} {parts : List Part} {old : TablePlace C} (has : HasParts codings accepts cmp bytes parts) (indexed : IsIndexed order cmp parts old) where
    -- to the last pair of the last block
    pub last_is_there : (new : TablePlace C) → IsInto order codings cmp bytes (last_position (pairs_over old.index)) last_position old new
        → ((k : ℕ) × (inner_position new.inner ≡ Some k)) × IsAtPosition order cmp parts new (last_position (pairs_in parts))
    last_is_there new into =
        let lines = into.lines ∙ indexed.lines in
        let at = line_is_of new.index has lines into.some in
        let pairs = part_pairs order codings new.inner at.is (subst (λ l. IsBlockOf order codings cmp bytes l (inner_block new.inner)) at.line into.block) in
        let last = last_there at.part.pairs at.is.some in
        let there : inner_position new.inner ≡ Some last.0 = into.position ∙ ap last_position pairs ∙ last.1 in (
          (last.0, there),
          record {
            lines = lines;
            ordered = ap order.cmp into.same_order ∙ indexed.ordered;
            at = is_there_along parts (last_position (pairs_in parts)) at.at_line pairs there (last_block parts at.i at.part last.0 (ap last_position (sym indexed.lines) ∙ sym into.at_line ∙ at.at_line) at.there last.1);
          },
        )

-- Moves of a walk over a table from block to block, whatever its file is.

-- ---- inside a block

-- by the position of all pairs
is_there_on : (parts : List Part) (line : Option ℕ) (pairs : List Pair) (inner position : Option ℕ) (k : ℕ) → inner ≢ None → next_position pairs inner ≡ Some k → IsAtPairOrNone parts line pairs inner position → IsAtPairOrNone parts line pairs (Some k) (next_position (pairs_in parts) position)
is_there_on parts line pairs inner None k some on at = absurd (some at)
is_there_on parts line pairs inner (Some n) k some on at = next_in at k on

module _ {C E F T : Type 0} {order : CmpGhosts C} {env : EnvGhosts E F} {codings : Codings} {accepts : List ℕ → Bool} {cmp : List ℕ → List ℕ → Ordering} {id : ℕ} {file : F} {Fit : List Part → Type 0}
    {Step : Codings → (List ℕ → List ℕ → Ordering) → List ℕ → TablePlace C → Outcome → Type 0} {state : E} {cache : Cached (CachedBlock C)} where
  -- a step to the next pair of the block
  pub moves_inside : (old new : TablePlace C) (answer : T) → inner_position old.inner ≢ None → new.index ≡ old.index → inner_pairs new.inner ≡ inner_pairs old.inner
      → inner_position new.inner ≡ next_position (inner_pairs old.inner) (inner_position old.inner) → is_some (inner_position new.inner) ≡ true → ((bytes : List ℕ) → Step codings cmp bytes old (Ok (table_position new)))
      → MovesInTable order env codings accepts cmp id file Fit next_position Step state cache old (Ok answer) state cache new
  moves_inside old new answer some index pairs on there step =
      let found = some_there (inner_position new.inner) there in
      record {
        reads = reads_ok env (KeepsDisk-refl env state) refl;
        ok = λ bytes has parts position right fit holds is_there. record {
          lines = ap pairs_over index ∙ is_there.lines;
          ordered = ap (λ (z : BlockPosition C). order.cmp z.block.cmp) index ∙ is_there.ordered;
          at = is_there_along parts (next_position (pairs_in parts) position) (ap position_over index) pairs found.1 (is_there_on parts (position_over old.index) (inner_pairs old.inner) (inner_position old.inner) position found.0 some (sym on ∙ found.1) is_there.at);
        };
        steps = λ bytes has holds. step bytes;
        err = tt;
        gathers = GainsBlocks-refl id _ cache;
        same_lines = ap pairs_over index;
        same_order = ap (λ (z : BlockPosition C). z.block.cmp) index;
      }

-- ---- positions

-- a position by its three parts
same_position : (a b : TablePosition) → a.line ≡ b.line → a.pairs ≡ b.pairs → a.inner ≡ b.inner → a ≡ b
same_position a b line pairs inner =
    let by_line : a ≡ record a { line = b.line } = ap (λ (z : Option ℕ). record a { line = z }) line in
    let by_pairs : record a { line = b.line } ≡ record b { inner = a.inner } = ap (λ (z : List Pair). record b { pairs = z; inner = a.inner }) pairs in
    let by_inner : record b { inner = a.inner } ≡ b = ap (λ (z : Option ℕ). record b { inner = z }) inner in
    by_line ∙ by_pairs ∙ by_inner

-- a step inside a block, and one out of it
inside : (to : Option ℕ) (old new : TablePosition) (Else : Type 0) → new.line ≡ old.line → new.pairs ≡ old.pairs → new.inner ≡ to → is_some new.inner ≡ true → InsideOr to old (Ok new) Else
inside None old new Else line pairs inner there = let found = some_there new.inner there in absurd (some_none (sym found.1 ∙ inner))
inside (Some i) old new Else line pairs inner there = ap (λ z. Ok z) (same_position new (record old { inner = Some i }) line pairs inner)

outside : (to : Option ℕ) (old : TablePosition) (out : Outcome) (Else : Type 0) → to ≡ None → Else → InsideOr to old out Else
outside None old out Else none h = h
outside (Some i) old out Else none h = absurd (some_none none)

module _ (codings : Codings) (cmp : List ℕ → List ℕ → Ordering) (bytes : List ℕ) (lines : List Pair) where
  on_inside : (at : Option ℕ) (old new : TablePosition) → at ≢ None → new.line ≡ old.line → new.pairs ≡ old.pairs → new.inner ≡ next_position old.pairs at → is_some new.inner ≡ true → ToNextPair codings cmp bytes lines at old (Ok new)
  on_inside None old new some line pairs inner there = absurd (some refl)
  on_inside (Some i) old new some line pairs inner there = inside (position_within old.pairs (i + 1)) old new (ToFirstPair codings cmp bytes lines (next_position lines old.line) (Ok new)) line pairs inner there

  on_outside : (at : Option ℕ) (old : TablePosition) (out : Outcome) → at ≢ None → next_position old.pairs at ≡ None → ToFirstPair codings cmp bytes lines (next_position lines old.line) out → ToNextPair codings cmp bytes lines at old out
  on_outside None old out some last first = absurd (some refl)
  on_outside (Some i) old out some last first = outside (position_within old.pairs (i + 1)) old out (ToFirstPair codings cmp bytes lines (next_position lines old.line) out) last first

  on_from_none : (at : Option ℕ) (old : TablePosition) (out : Outcome) → at ≡ None → ToFirstPair codings cmp bytes lines (position_within lines 0) out → ToNextPair codings cmp bytes lines at old out
  on_from_none None old out none first = first
  on_from_none (Some i) old out none first = absurd (some_none none)

  on_to_first : (at : Option ℕ) (old : TablePosition) (out : Outcome) → at ≡ None → ToNextPair codings cmp bytes lines at old out → ToFirstPair codings cmp bytes lines (position_within lines 0) out
  on_to_first None old out none on = on
  on_to_first (Some i) old out none on = absurd (some_none none)

  back_outside : (at : Option ℕ) (old : TablePosition) (out : Outcome) → at ≢ None → previous_position at ≡ None → ToLastPair codings cmp bytes lines (previous_position old.line) out → ToPreviousPair codings cmp bytes lines at old out
  back_outside None old out some first last = absurd (some refl)
  back_outside (Some i) old out some first last = outside (previous_position (Some i)) old out (ToLastPair codings cmp bytes lines (previous_position old.line) out) first last

  -- without a line it comes nowhere
  pub to_no_block : (to : List Pair → Option ℕ) (line : Option ℕ) (new : TablePosition) → line ≡ None → new.line ≡ None → new.inner ≡ None → ToBlock codings cmp bytes lines to line (Ok new)
  to_no_block to None new none at inner = (at, inner)
  to_no_block to (Some i) new none at inner = absurd (some_none none)

  pub seeks_none : (key : List ℕ) (line : Option ℕ) (new : TablePosition) → line ≡ None → new.line ≡ line → new.inner ≡ None → ToKeyByLine codings cmp bytes lines key line (Ok new)
  seeks_none key None new none at inner = (at, inner)
  seeks_none key (Some i) new none at inner = absurd (some_none none)

  pub looks_none : (may_contain : ℕ → List ℕ → Bool) (key : List ℕ) (line : Option ℕ) (new : TablePosition) → line ≡ None → new.line ≡ line → new.inner ≡ None → LookUpFromLine codings cmp bytes lines may_contain key line (Ok new)
  looks_none may_contain key None new none at inner = (at, inner)
  looks_none may_contain key (Some i) new none at inner = absurd (some_none none)

  -- a line's block that is lacking shuts the way
  shut_lacking : (to : List Pair → Option ℕ) (line : Option ℕ) {status : Status} → LacksLine codings cmp bytes (pair_at lines line) status → ToBlock codings cmp bytes lines to line (Err status)
  shut_lacking to None lacks = absurd (lacks_some lacks)
  shut_lacking to (Some i) lacks = inl lacks

  pub seeks_lacking : (key : List ℕ) (line : Option ℕ) {status : Status} → LacksLine codings cmp bytes (pair_at lines line) status → ToKeyByLine codings cmp bytes lines key line (Err status)
  seeks_lacking key None lacks = absurd (lacks_some lacks)
  seeks_lacking key (Some i) lacks = inl lacks

  -- and so does a line that names no handle
  pub looks_unnamed : (may_contain : ℕ → List ℕ → Bool) (key : List ℕ) (line : Option ℕ) (status : Status) → NamesNone (pair_at lines line) → status.code ≡ Corruption → LookUpFromLine codings cmp bytes lines may_contain key line (Err status)
  looks_unnamed may_contain key None status none code = absurd none
  looks_unnamed may_contain key (Some i) status none code = inl (none, code)

  -- in the line's block, whatever comes of it
  seeks_in : (key : List ℕ) (i : ℕ) (out : Outcome) → ToKeyInBlock codings cmp bytes lines key i out → ToKeyByLine codings cmp bytes lines key (Some i) out
  seeks_in key i (Ok new) seeks = seeks
  seeks_in key i (Err status) seeks = inr seeks

  looks_in : (may_contain : ℕ → List ℕ → Bool) (key : List ℕ) (i : ℕ) (out : Outcome) → LookUpByLine codings cmp bytes lines may_contain key i out → LookUpFromLine codings cmp bytes lines may_contain key (Some i) out
  looks_in may_contain key i (Ok new) kept_disk = kept_disk
  looks_in may_contain key i (Err status) kept_disk = inr kept_disk

  -- where the filters let the key pass, and where they don't
  looks_passed : (may_contain : ℕ → List ℕ → Bool) (key : List ℕ) (line : Option ℕ) (out : Outcome) (handle : Handle) → HandleFits handle → IsNamedBy (pair_at lines line) handle → may_contain handle.offset key ≡ true → ToKeyByLine codings cmp bytes lines key line out
      → LookUpFromLine codings cmp bytes lines may_contain key line out
  looks_passed may_contain key None out handle fits names passes seeks = absurd names
  looks_passed may_contain key (Some i) out handle fits names passes seeks =
      looks_in may_contain key i out (record { handle = handle; fits = fits; names = names; outcome = subst (λ b. ToKeyByLineIfLet codings cmp bytes lines b key i out) (sym passes) seeks })

  pub looks_refused : (may_contain : ℕ → List ℕ → Bool) (key : List ℕ) (line : Option ℕ) (new : TablePosition) (handle : Handle) → HandleFits handle → IsNamedBy (pair_at lines line) handle → may_contain handle.offset key ≡ false → new.inner ≡ None
      → LookUpFromLine codings cmp bytes lines may_contain key line (Ok new)
  looks_refused may_contain key None new handle fits names refuses none = absurd names
  looks_refused may_contain key (Some i) new handle fits names refuses none =
      record { handle = handle; fits = fits; names = names; outcome = subst (λ b. ToKeyByLineIfLet codings cmp bytes lines b key i (Ok new)) (sym refuses) none }

  -- the next line's block, by another list of the same lines
  next_along : {others : List Pair} {line other : Option ℕ} (out : Outcome) → others ≡ lines → other ≡ line → ToFirstPair codings cmp bytes others (next_position others other) out → ToFirstPair codings cmp bytes lines (next_position lines line) out
  next_along {others} {line} {other} out same at first =
      subst (λ z. ToFirstPair codings cmp bytes z (next_position z line) out) same (subst (λ z. ToFirstPair codings cmp bytes others (next_position others z) out) at first)

  previous_along : {others : List Pair} {line other : Option ℕ} (out : Outcome) → others ≡ lines → other ≡ line → ToLastPair codings cmp bytes others (previous_position other) out → ToLastPair codings cmp bytes lines (previous_position line) out
  previous_along {others} {line} {other} out same at last =
      subst (λ z. ToLastPair codings cmp bytes z (previous_position line) out) same (subst (λ z. ToLastPair codings cmp bytes others (previous_position z) out) at last)

  -- the block of a line of this list that is lacking, by another list of the same lines
  pub into_lacking : {others : List Pair} (to : List Pair → Option ℕ) {line other : Option ℕ} {status : Status} → others ≡ lines → other ≡ line → LacksLine codings cmp bytes (pair_at others other) status
      → ToBlock codings cmp bytes lines to line (Err status)
  into_lacking {others} to {line} {other} {status} same at lacks =
      shut_lacking to line (subst (λ z. LacksLine codings cmp bytes (pair_at z line) status) same (subst (λ z. LacksLine codings cmp bytes (pair_at others z) status) at lacks))

-- a line by the one of another list of the same lines
pub line_by : {lines others : List Pair} {line other : Option ℕ} {pair : Pair} → others ≡ lines → other ≡ line → pair_at others other ≡ Some pair → pair_at lines line ≡ Some pair
line_by {lines} {others} {line} {other} same at is = sym (ap (λ z. pair_at z other) same ∙ ap (pair_at lines) at) ∙ is

-- ---- blocks

no_position_in : (pairs : List Pair) (i : ℕ) → i < length pairs → pairs ≢ []
no_position_in [] i within = absurd (omega (arith, within))
no_position_in (pair ∷ pairs) i within = λ e. cc

module _ {C : Type 0} where
  -- where a walk is at a pair, its block has some
  some_pairs : (inner : Option (BlockPosition C)) → is_some (inner_position inner) ≡ true → inner_pairs inner ≢ []
  some_pairs None there = cc
  some_pairs (Some walk) there =
      let at = some_there (position_over walk) there in
      let P : Option ℕ → Type 0 = IsPosition (pairs_over walk) in
      no_position_in (pairs_over walk) at.0 (subst P at.1 (position_within-is (pairs_over walk) walk.at))

module _ {C : Type 0} (order : CmpGhosts C) (codings : Codings) (cmp : List ℕ → List ℕ → Ordering) (bytes : List ℕ) where
  -- the block of a line has the walk's pairs
  has_line : (lines : List Pair) (line : Option ℕ) (i : ℕ) (inner : Option (BlockPosition C)) → line ≡ Some i → IsBlockOf order codings cmp bytes (pair_at lines line) (inner_block inner) → HasLine codings cmp bytes lines i (inner_pairs inner)
  has_line lines line i None at of = absurd of
  has_line lines line i (Some walk) at of =
      let block = walk.block in
      record {
        text = block.contents;
        named = subst (λ z. IsNamed codings bytes (pair_at lines z) block.contents) at of.0;
        block = record {
          entries = block.entries;
          encoded = of.2;
          pairs_are = refl;
        };
      }

  -- ---- to a line's block

  into_line : (lines : List Pair) (to : List Pair → Option ℕ) (line : Option ℕ) (new : TablePlace C) → is_some line ≡ true → position_over new.index ≡ line → IsBlockOf order codings cmp bytes (pair_at lines line) (inner_block new.inner)
      → inner_position new.inner ≡ to (inner_pairs new.inner) → is_some (inner_position new.inner) ≡ true → ToBlock codings cmp bytes lines to line (Ok (table_position new))
  into_line lines to None new some at of position there = cc
  into_line lines to (Some i) new some at of position there =
      record { at_line = at; block = has_line lines (Some i) i new.inner refl of; some = some_pairs new.inner there; position = position }

  -- an empty one shuts the way
  empty_line : (lines : List Pair) (to : List Pair → Option ℕ) (line : Option ℕ) (inner : Option (BlockPosition C)) (status : Status) → is_some line ≡ true → IsBlockOf order codings cmp bytes (pair_at lines line) (inner_block inner) → inner_pairs inner ≡ []
      → status.code ≡ Corruption → ToBlock codings cmp bytes lines to line (Err status)
  empty_line lines to None inner status some of empty code = cc
  empty_line lines to (Some i) inner status some of empty code = inr (subst (HasLine codings cmp bytes lines i) empty (has_line lines (Some i) i inner refl of), code)

  module _ {line : Option ℕ} {to : List Pair → Option ℕ} (old new : TablePlace C) (into : IsInto order codings cmp bytes line to old new) where
    into_some : is_some line ≡ true
    into_some = ap is_some (sym into.at_line) ∙ into.some

    into_block : IsBlockOf order codings cmp bytes (pair_at (pairs_over old.index) line) (inner_block new.inner)
    into_block = subst (λ z. IsBlockOf order codings cmp bytes (pair_at z line) (inner_block new.inner)) into.lines (subst (λ z. IsBlockOf order codings cmp bytes (pair_at (pairs_over new.index) z) (inner_block new.inner)) into.at_line into.block)

    pub into_at : is_some (inner_position new.inner) ≡ true → ToBlock codings cmp bytes (pairs_over old.index) to line (Ok (table_position new))
    into_at there = into_line (pairs_over old.index) to line new into_some into.at_line into_block into.position there

    pub into_empty : (status : Status) → inner_pairs new.inner ≡ [] → status.code ≡ Corruption → ToBlock codings cmp bytes (pairs_over old.index) to line (Err status)
    into_empty status empty code = empty_line (pairs_over old.index) to line new.inner status into_some into_block empty code

  -- ---- moves

  pub forward_first : (old mid : TablePlace C) (out : Outcome) → pairs_over mid.index ≡ pairs_over old.index → position_over mid.index ≡ None → inner_position old.inner ≡ None → ToNextBlock codings cmp bytes mid out → Forward codings cmp bytes old out
  forward_first old mid out lines line none next =
      on_from_none codings cmp bytes (pairs_over old.index) (inner_position old.inner) (table_position old) out none (next_along codings cmp bytes (pairs_over old.index) {line = None} out lines line next)

  pub forward_inside : (old new : TablePlace C) → inner_position old.inner ≢ None → new.index ≡ old.index → inner_pairs new.inner ≡ inner_pairs old.inner
      → inner_position new.inner ≡ next_position (inner_pairs old.inner) (inner_position old.inner) → is_some (inner_position new.inner) ≡ true → Forward codings cmp bytes old (Ok (table_position new))
  forward_inside old new some index pairs on there = on_inside codings cmp bytes (pairs_over old.index) (inner_position old.inner) (table_position old) (table_position new) some (ap position_over index) pairs on there

  pub forward_next : (old mid : TablePlace C) (out : Outcome) → mid.index ≡ old.index → inner_position old.inner ≢ None → next_position (inner_pairs old.inner) (inner_position old.inner) ≡ None → ToNextBlock codings cmp bytes mid out → Forward codings cmp bytes old out
  forward_next old mid out index some last next =
      on_outside codings cmp bytes (pairs_over old.index) (inner_position old.inner) (table_position old) out some last (next_along codings cmp bytes (pairs_over old.index) out (ap pairs_over index) (ap position_over index) next)

  pub forward_to_first : (old mid : TablePlace C) (out : Outcome) → mid.index ≡ old.index → mid.inner ≡ None → Forward codings cmp bytes mid out → ToFirst codings cmp bytes old out
  forward_to_first old mid out index none forward =
      subst (λ (z : BlockPosition C). ToFirstPair codings cmp bytes (pairs_over z) (position_within (pairs_over z) 0) out) index
      (on_to_first codings cmp bytes (pairs_over mid.index) (inner_position mid.inner) (table_position mid) out (ap inner_position none) forward)

  pub backward_previous : (old mid : TablePlace C) (out : Outcome) → mid.index ≡ old.index → inner_position old.inner ≢ None → previous_position (inner_position old.inner) ≡ None → ToPreviousBlock codings cmp bytes mid out → Backward codings cmp bytes old out
  backward_previous old mid out index some first previous =
      back_outside codings cmp bytes (pairs_over old.index) (inner_position old.inner) (table_position old) out some first (previous_along codings cmp bytes (pairs_over old.index) out (ap pairs_over index) (ap position_over index) previous)

  -- ---- a key

  seeks_along : (lines : List Pair) (line : Option ℕ) (key : List ℕ) (old mid : TablePlace C) (out : Outcome) → pairs_over old.index ≡ lines → is_some line ≡ true → position_over old.index ≡ line → IsSought order codings cmp bytes key old mid
      → InsideOr (seek_position cmp (inner_pairs mid.inner) key) (record { line = line; pairs = inner_pairs mid.inner; inner = None }) out (ToFirstPair codings cmp bytes lines (next_position lines line) out)
      → ToKeyByLine codings cmp bytes lines key line out
  seeks_along lines None key old mid out same some at sought outcome = cc
  seeks_along lines (Some i) key old mid out same some at sought outcome = seeks_in codings cmp bytes lines key i out (record {
    pairs = inner_pairs mid.inner;
    block = has_line lines (position_over old.index) i mid.inner at (subst (λ z. IsBlockOf order codings cmp bytes (pair_at z (position_over old.index)) (inner_block mid.inner)) same sought.block);
    outcome = outcome;
  })

  -- in its line's block, and in the next
  pub sought_inside : (key : List ℕ) (old new : TablePlace C) → position_over old.index ≡ line_for order key old → is_some (position_over old.index) ≡ true → IsSought order codings cmp bytes key old new → is_some (inner_position new.inner) ≡ true
      → ToKey order key codings cmp bytes old (Ok (table_position new))
  sought_inside key old new line some sought there =
      let lines = pairs_over old.index in
      seeks_along lines (line_for order key old) key old new (Ok (table_position new)) refl (ap is_some (sym line) ∙ some) line sought
      (inside (seek_position cmp (inner_pairs new.inner) key) (record { line = line_for order key old; pairs = inner_pairs new.inner; inner = None }) (table_position new) (ToFirstPair codings cmp bytes lines (next_position lines (line_for order key old)) (Ok (table_position new)))
      (ap position_over sought.index ∙ line) refl sought.position there)

  pub sought_next : (key : List ℕ) (old mid : TablePlace C) (out : Outcome) → position_over old.index ≡ line_for order key old → is_some (position_over old.index) ≡ true → IsSought order codings cmp bytes key old mid → inner_position mid.inner ≡ None
      → ToNextBlock codings cmp bytes mid out → ToKey order key codings cmp bytes old out
  sought_next key old mid out line some sought none next =
      let lines = pairs_over old.index in
      seeks_along lines (line_for order key old) key old mid out refl (ap is_some (sym line) ∙ some) line sought
      (outside (seek_position cmp (inner_pairs mid.inner) key) (record { line = line_for order key old; pairs = inner_pairs mid.inner; inner = None }) out (ToFirstPair codings cmp bytes lines (next_position lines (line_for order key old)) out)
      (sym sought.position ∙ none) (next_along codings cmp bytes lines out (ap pairs_over sought.index) (ap position_over sought.index ∙ line) next))

  -- refused at its line
  pub sought_lacking : (key : List ℕ) (old : TablePlace C) {status : Status} → position_over old.index ≡ line_for order key old → LacksLine codings cmp bytes (line_of old) status → ToKey order key codings cmp bytes old (Err status)
  sought_lacking key old {status} line lacks =
      seeks_lacking codings cmp bytes (pairs_over old.index) key (line_for order key old) (subst (λ z. LacksLine codings cmp bytes (pair_at (pairs_over old.index) z) status) line lacks)

  -- by another walk's index of the same lines and order
  pub sought_along : (key : List ℕ) (old mid : TablePlace C) (out : Outcome) → pairs_over mid.index ≡ pairs_over old.index → mid.index.block.cmp ≡ old.index.block.cmp → ToKey order key codings cmp bytes mid out → ToKey order key codings cmp bytes old out
  sought_along key old mid out lines same sought =
      subst (λ (o : C). ToKeyByLine codings cmp bytes (pairs_over old.index) key (seek_position (order.cmp o) (pairs_over old.index) key) out) same
      (subst (λ z. ToKeyByLine codings cmp bytes z key (seek_position (order.cmp mid.index.block.cmp) z key) out) lines sought)

  -- ---- a look-up

  -- where the filters let the key pass
  pub looked_up : (may_contain : ℕ → List ℕ → Bool) (key : List ℕ) (handle : Handle) (old mid : TablePlace C) (out : Outcome) → pairs_over mid.index ≡ pairs_over old.index → mid.index.block.cmp ≡ old.index.block.cmp
      → HandleFits handle → IsNamedBy (pair_at (pairs_over old.index) (line_for order key old)) handle → may_contain handle.offset key ≡ true → ToKey order key codings cmp bytes mid out → ToKeyIfLet order may_contain key codings cmp bytes old out
  looked_up may_contain key handle old mid out lines same fits names passes sought =
      looks_passed codings cmp bytes (pairs_over old.index) may_contain key (line_for order key old) out handle fits names passes (sought_along key old mid out lines same sought)

  -- by other lines and another order that are the same
  pub looked_along : (may_contain : ℕ → List ℕ → Bool) (key : List ℕ) {lines : List Pair} {index_cmp : List ℕ → List ℕ → Ordering} (old : TablePlace C) (out : Outcome) → pairs_over old.index ≡ lines → order.cmp old.index.block.cmp ≡ index_cmp
      → ToKeyIfLet order may_contain key codings cmp bytes old out → LookUpFromLine codings cmp bytes lines may_contain key (seek_position index_cmp lines key) out
  looked_along may_contain key {lines} {index_cmp} old out same ordered looked =
      subst (λ (o : List ℕ → List ℕ → Ordering). LookUpFromLine codings cmp bytes lines may_contain key (seek_position o lines key) out) ordered
      (subst (λ z. LookUpFromLine codings cmp bytes z may_contain key (seek_position (order.cmp old.index.block.cmp) z key) out) same looked)

module _ {E C FP F : Type 0} {order : CmpGhosts C} {env : EnvGhosts E F} {codings : Codings} {matches : FP → List ℕ → List ℕ → Bool} {table : OpenTable C FP F} {key : List ℕ} {old_env new_env : E} {old_cache new_cache : Cached (CachedBlock C)} where
  -- a look-up that fails
  pub looks_up_err : (P : Status → Type 0) (result : Result (Option Pair) Status) → IsErrAnd result P
      → ReadsFile env (IsLackError env codings (λ bytes status.
      ((parts : List Part) → lines_of table ≡ map index_pair parts → order.cmp table.index.cmp ≡ order.cmp table.cmp → HasParts codings (order.accepts table.cmp) (order.cmp table.cmp) bytes parts → order.accepts table.cmp key ≡ true
      → HoldsOnlyOf order codings (order.cmp table.cmp) table.id bytes old_cache → ⊥)
      × (HoldsOnlyOf order codings (order.cmp table.cmp) table.id bytes old_cache → LookUpInTable order codings matches table key bytes (Err status))) old_env table.file) old_env new_env result
      → GainsBlocks table.id (λ offset held. ForBytesOf env old_env table.file (λ bytes. IsBlockOfFile order codings (order.cmp table.cmp) bytes offset held)) old_cache new_cache
      → LooksUp order env codings matches table key old_env old_cache result new_env new_cache
  looks_up_err P (Ok found) none reads gathers = absurd none
  looks_up_err P (Err status) some reads gathers =
      record { reads = reads; ok = λ bytes has parts lines ordered right fit holds. tt; finds = λ bytes has holds. tt; gathers = gathers }

-- A look-up with a finder: its value is under the finder's key.

-- it found what is said of the pair
pub found_says : (P : Option Pair → Type 0) (key : List ℕ) (result : Result (Option (List ℕ)) Status) → IfOk result (λ value. P (pair_with key value)) → IfOk (found_with key result) P
found_says P key (Ok value) says = says
found_says P key (Err status) says = tt

-- its error is the result's
pub found_fails : (P : Status → Type 0) (key : List ℕ) (result : Result (Option (List ℕ)) Status) → IfErr result P → IfErr (found_with key result) P
found_fails P key (Ok value) fails = tt
found_fails P key (Err status) fails = fails

-- it fails where the result is an error
pub found_refused : (P : Status → Type 0) (key : List ℕ) (result : Result (Option (List ℕ)) Status) → IsErrAnd result P → IsErrAnd (found_with key result) P
found_refused P key (Ok value) refused = absurd refused
found_refused P key (Err status) refused = refused
