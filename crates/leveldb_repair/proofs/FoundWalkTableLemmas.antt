-- What the moves of a walk over a found table come to, and over which list it is.
use Rattle.std.specs.Prelude.{◌&&◌, nat_le, IfErr, IsErrAnd, IsSome, IsSomeAnd, OnErr, OnOk}
use Rattle.std.proofs.Common.{◌≡◌, ◌⊎◌, inl, inr, ℕ, ◌+◌, ◌-◌, ◌^◌, Bool, true, false, List, [], ◌∷◌, ◌++◌, length, map, Option, None, Some, Result, Ok, Err, refl, sym, ◌∙◌, ap, subst, arith}
use Rattle.std.proofs.lemmas.Result.{on_ok_weaker}
use Rattle.std.specs.Borrow.{Bor}
use Rattle.std.specs.List.{AllByRecursion}
use Rattle.std.specs.declared.cmp.Ordering.{Ordering}
use Rattle.leveldb_base.specs.Error.{IsOutOfMemory}
use Rattle.leveldb_base.specs.Cmp.{IsPreorderOn, bytewise, internal_accepts}
use Rattle.leveldb_base.specs.CmpLaws.{internal_preorder}
use Rattle.leveldb_base.specs.KeyTypes.{internal_cmp, user_part}
use Rattle.leveldb_base.specs.Types.{Pair, last_position, next_position, pair_at, position_within, previous_position, seek_position}
use Rattle.leveldb_base.specs.declared.cmp.Cmp.{Ghosts as CmpGhosts}
use Rattle.leveldb_base.specs.declared.cmp.internal.InternalKeyCmp.{InternalKeyCmp}
use Rattle.leveldb_base.specs.declared.error.Status.{Status}
use Rattle.leveldb_env.specs.Compressor.{Codings, Decodes}
use Rattle.leveldb_env.specs.Env.{File, bytes_of}
use Rattle.leveldb_env.specs.declared.env.Env.{Ghosts as EnvGhosts}
use Rattle.leveldb_env.specs.declared.filter.NoFilterPolicy.{NoFilterPolicy}
use Rattle.leveldb_iter.specs.Walk.{IsSortedIn, KeyOrder, MovesWalk, Resets, Way, key_order}
use Rattle.leveldb_table.proofs.BlockCacheLemmas.{HoldsOnlyOf-after}
use Rattle.leveldb_table.proofs.TableBlockLemmas.{FileHas-after}
use Rattle.leveldb_table.proofs.TableLemmas.{has_one_block}
use Rattle.leveldb_table.proofs.TableReaderLemmas.{blocks_one, one_encoded}
use Rattle.leveldb_table.specs.BlockCache.{HoldsOnlyOf}
use Rattle.leveldb_table.specs.BlockWalk.{pairs_over, position_over}
use Rattle.leveldb_table.specs.OpenTable.{file_of, id_of}
use Rattle.leveldb_table.specs.Table.{HasBlockAt, IsPart, Part, index_pair}
use Rattle.leveldb_table.specs.TableBlock.{FailsFor, FileHas, HasLackCode, IsLackError}
use Rattle.leveldb_table.specs.TableReader.{HasParts, OpenTable, pairs_in}
use Rattle.leveldb_table.specs.TableReaderBlocks.{IsIndexed}
use Rattle.leveldb_table.specs.TableReaderMoves.{InsideOr, ToFirstPair, ToLastPair, ToNextPair, ToPreviousPair}
use Rattle.leveldb_table.specs.TableReaderSteps.{step_to}
use Rattle.leveldb_table.specs.TableReaderWalk.{GivenParts, IsAtPosition, Outcome, TablePlace, inner_pairs, inner_position, table_position}
use Rattle.leveldb_table.specs.declared.table_reader.walk.TableStep.{TableStep}
use Rattle.leveldb_table.specs.declared.table_reader.walk.TableStep.TheVariants.{First as FirstStep, Last as LastStep, NextBlock, BlockBefore, Seek as SeekStep}
use Rattle.leveldb_version.proofs.Tables.ReadTableLemmas.{Wants}
use Rattle.leveldb_version.proofs.Tables.TableStepLemmas.{step_leads, step_wants}
use Rattle.leveldb_files.specs.Stores.Format.{Agrees, Format, Meaning}
use Rattle.leveldb_files.specs.Stores.Store.{IsStoreTable, any_user_key}
use Rattle.leveldb_version.specs.Tables.TableMoves.{IsLedTo}
use Rattle.leveldb_repair.specs.FoundWalkLaws.{found_fails_before, found_kept}
use Rattle.leveldb_repair.specs.FoundWalkTable.{FailsBetweenOr, FailsInFound, IsFoundAt, IsFoundOver, IsFoundThere, IsNewFound, IsNoNewTable, KeepsFound, MovesInFound, IsFit, found_here, found_step, way_of}
use Rattle.leveldb_repair.specs.declared.found_walk.files.ReadFiles.{ReadFiles}
use Rattle.leveldb_repair.specs.declared.found_walk.table.FoundMove.{FoundMove}
use Rattle.leveldb_repair.specs.declared.found_walk.table.FoundMove.TheVariants.{Before, First, Last, Next, Seek}
use Rattle.leveldb_repair.specs.declared.found_walk.table.FoundTable.{FoundTable}

-- ---- steps by compressors that decode all blocks

not_true : false ≡ true → ⊥
not_true e = cc

module _ (codings : Codings) where
  -- what ids mean where they mean these compressors
  abbrev format_by : Format
  format_by = record {
    order = bytewise;
    order_name = [];
    codings = codings;
    policy_name = [];
    matches = λ key filter. true;
  }

  abbrev meaning_by : Meaning
  meaning_by = record {
    orders = λ name. bytewise;
    codings = codings;
    filters = λ name. Some (λ key filter. true);
  }

  agrees_by : Agrees format_by meaning_by
  agrees_by = record { order = refl; codings = λ id coding is. is; filters = refl }

  -- no compressor is missing then
  none_wants : (status : Status) → Wants agrees_by status → ⊥
  none_wants status wants = not_true (subst IsSome wants.1.2 wants.1.1)

module _ {C : Type 0} (order : CmpGhosts C) (codings : Codings) {accepts : List ℕ → Bool}
    {cmp : List ℕ → List ℕ → Ordering} (preorder : IsPreorderOn accepts cmp) {bytes : List ℕ}
    {parts : List Part} (has : HasParts codings accepts cmp bytes parts) (old : TablePlace C)
    (indexed : IsIndexed order cmp parts old) where
  never : (to : TableStep) (status : Status) → step_to order to codings cmp bytes old (Err status)
      → ⊥
  never to status step = none_wants codings status
      (step_wants (agrees_by codings) preorder has old indexed to status step)

  never_forward : (status : Status) (at : Option ℕ)
      → ToNextPair codings cmp bytes (pairs_over old.index) at (table_position old) (Err status) → ⊥
  never_forward status None step = never FirstStep status step
  never_forward status (Some i) step =
      inside (position_within (inner_pairs old.inner) (i + 1)) step
    where
      inside : (o : Option ℕ) → InsideOr o (table_position old) (Err status)
          (ToFirstPair codings cmp bytes (pairs_over old.index)
          (next_position (pairs_over old.index) (position_over old.index)) (Err status)) → ⊥
      inside None step = never NextBlock status step
      inside (Some j) step = cc

  never_back : (status : Status) (at : Option ℕ)
      → ToPreviousPair codings cmp bytes (pairs_over old.index) at (table_position old) (Err status)
      → ⊥
  never_back status None step = cc
  never_back status (Some i) step = inside (previous_position (Some i)) step
    where
      inside : (o : Option ℕ) → InsideOr o (table_position old) (Err status)
          (ToLastPair codings cmp bytes (pairs_over old.index)
          (previous_position (position_over old.index)) (Err status)) → ⊥
      inside None step = never BlockBefore status step
      inside (Some j) step = cc

  -- a move that is such a step doesn't fail for a block
  step_never : (to : FoundMove) (status : Status)
      → found_step order to codings cmp bytes old (Err status) → ⊥
  step_never Next status step = never_forward status (inner_position old.inner) step
  step_never Before status step = never_back status (inner_position old.inner) step
  step_never (Seek key) status step = never (SeekStep key) status step
  step_never First status step = never FirstStep status step
  step_never Last status step = never LastStep status step

-- ---- one list

-- data blocks with the same lines have the same pairs
same_pairs : (codings : Codings) (cmp : List ℕ → List ℕ → Ordering) (bytes : List ℕ)
    (parts others : List Part) → map index_pair parts ≡ map index_pair others
    → AllByRecursion (IsPart (Decodes codings) cmp bytes) parts
    → AllByRecursion (IsPart (Decodes codings) cmp bytes) others
    → pairs_in parts ≡ pairs_in others
same_pairs codings cmp bytes [] [] e first second = refl
same_pairs codings cmp bytes [] (other ∷ others) e first second = cc
same_pairs codings cmp bytes (part ∷ parts) [] e first second = cc
same_pairs codings cmp bytes (part ∷ parts) (other ∷ others) e first second =
    let line : index_pair part ≡ index_pair other = cc in
    let rest : map index_pair parts ≡ map index_pair others = cc in
    let handles = one_encoded part.handle other.handle (ap (λ (p : Pair). p.1) line) in
    let text = has_one_block codings (subst (λ h. HasBlockAt (Decodes codings) bytes h first.0.text)
    handles
    first.0.is_there) second.0.is_there in
    let here = blocks_one text first.0.block second.0.block in
    ap (λ ps. ps ++ pairs_in parts) here
    ∙ ap (λ ps. other.pairs ++ ps) (same_pairs codings cmp bytes parts others rest first.1 second.1)

same_bytes : (found : Option File) (these those : List ℕ)
    → IsSomeAnd found (λ file. bytes_of file ≡ these)
    → IsSomeAnd found (λ file. bytes_of file ≡ those) → these ≡ those
same_bytes None these those first second = absurd first
same_bytes (Some file) these those first second = sym first ∙ second

module _ {E C K F : Type 0} {order : CmpGhosts (InternalKeyCmp C)} {env : EnvGhosts E F}
    {codings : K → Codings} where
  -- in a world a walk over a found table is over one list
  pub found_one_list : (world : E × ReadFiles K) (it : FoundTable E C F) (keys others : KeyOrder)
      (these those : List Pair) → IsFoundOver order env codings world it keys these
      → IsFoundOver order env codings world it others those → these ≡ those
  found_one_list world it keys others these those first second =
      let one = first.there in let two = second.there in
      let a = one.has in let b = two.has in
      let bytes = same_bytes _ first.bytes second.bytes a.there b.there in
      let lines = sym one.indexed.lines ∙ two.indexed.lines in
      first.pairs_are
      ∙ same_pairs (codings world.1.compressors.now) (order.cmp it.table.cmp) second.bytes
      first.parts second.parts lines
      (subst (λ z. AllByRecursion (IsPart (Decodes (codings world.1.compressors.now))
      (order.cmp it.table.cmp) z) first.parts) bytes one.parts_are.each) two.parts_are.each
      ∙ sym second.pairs_are

-- ---- a walk that is new

module _ {E C K F : Type 0} {order : CmpGhosts (InternalKeyCmp C)} {env : EnvGhosts E F}
    {codings : K → Codings} where
  -- a walk over a table that was opened is over its pairs, at no position
  pub new_found_at : {cmp : CmpGhosts C} {compares : C} {Has : List ℕ → Type 0}
      (world : E × ReadFiles K) (it : FoundTable E C F)
      → IsNewFound order env cmp (codings world.1.compressors.now) compares Has world.0 it
      → IsNoNewTable env world.1 (file_of it.table) → (bytes : List ℕ) (pairs : List Pair)
      → Has bytes → IsStoreTable (Decodes (codings world.1.compressors.now)) (cmp.cmp compares)
      (λ name. None) bytes pairs
      → IsFoundAt order env codings world it (key_order order (record { 0 = compares })) pairs None
  new_found_at {compares = compares} world it new old bytes pairs has is =
      let found = new.there bytes pairs has is in
      let there = found.2 in
      record {
        over = record {
          bytes = bytes;
          parts = found.0;
          there = there;
          old = old;
          keys_are = ap (key_order order) (sym new.ordered);
          pairs_are = found.1;
        };
        at = record {
          lines = there.indexed.lines;
          ordered = there.indexed.ordered
              ∙ ap (λ (c : InternalKeyCmp C). order.cmp c) new.ordered;
          at = ap inner_position new.left;
        };
      }

-- ---- what a move leaves

-- an order of internal keys, which accepts each key that has a whole tag
pub record IsInternalOrder {C : Type 0} (order : CmpGhosts (InternalKeyCmp C)) : Type 0 where
  pub preorder : (c : InternalKeyCmp C) → IsPreorderOn (order.accepts c) (order.cmp c)
  pub accepts_is : (c : InternalKeyCmp C) (key : List ℕ)
      → order.accepts c key ≡ internal_accepts any_user_key key

-- that of internal keys is one
pub internal_laws : {C : Type 0} (order : CmpGhosts (InternalKeyCmp C)) (cmp : CmpGhosts C)
    → ((c : InternalKeyCmp C) → order.cmp c ≡ internal_cmp (cmp.cmp c.0))
    → ((c : InternalKeyCmp C) → order.accepts c ≡ internal_accepts (cmp.accepts c.0))
    → ((c : C) → IsPreorderOn (cmp.accepts c) (cmp.cmp c))
    → ((c : C) (key : List ℕ) → cmp.accepts c key ≡ true) → IsInternalOrder order
internal_laws {C} order cmp cmp_is accepts_is preorder all = record {
  preorder = λ (c : InternalKeyCmp C).
      subst (λ (o : List ℕ → List ℕ → Ordering). IsPreorderOn (order.accepts c) o) (sym (cmp_is c))
      (subst (λ (a : List ℕ → Bool). IsPreorderOn a (internal_cmp (cmp.cmp c.0)))
      (sym (accepts_is c)) (internal_preorder (preorder c.0)));
  accepts_is = λ (c : InternalKeyCmp C) key. ap (λ (a : List ℕ → Bool). a key) (accepts_is c)
      ∙ ap (λ b. nat_le 8 (length key) && b) (all c.0 (user_part key));
}

on_err_weaker : {R P Q : Type 0} (result : Result R Status) → (P → Q) → OnErr result P
    → OnErr result Q
on_err_weaker (Ok x) along is = tt
on_err_weaker (Err status) along is = along is

refused_ok : {R : Type 0} (P : Type 0) (status : Status) (result : Result R Status)
    → IsErrAnd result (λ other. other ≡ status) → OnOk result P
refused_ok P status (Ok x) refused = absurd refused
refused_ok P status (Err other) refused = tt

module _ {E F : Type 0} (env : EnvGhosts E F) where
  -- the reason of a call that reads is one between its environments
  between_or : {R : Type 0} {Why : Status → Type 0} (Or : Type 0) (state later : E)
      (status : Status) → (Why status → Or) → FailsFor env {T = R} Why state later (Err status)
      → FailsBetweenOr env Or state later status
  between_or {Why = Why} Or state later status along fails = by fails.cause
    where
      by : (IsOutOfMemory status
          ⊎ ((env.failures later ≡ env.failures state) × Why status))
          ⊎ (env.failures later ≡ env.failures state + 1)
          ⊎ ((env.failures state ≡ 2 ^ 64 - 1) × (env.failures later ≡ env.failures state))
          → FailsBetweenOr env Or state later status
      by (inl (inl out)) = inl out
      by (inl (inr why)) = inr (inr (inr (along why.1)))
      by (inr (inl one)) = inr (inl (omega (arith, one)))
      by (inr (inr full)) = inr (inr (inl (full.1 ∙ full.0)))

module _ {E C K F : Type 0} (order : CmpGhosts (InternalKeyCmp C)) (env : EnvGhosts E F)
    (codings : K → Codings) where
  -- What a move leaves of a walk and its world, and why it fails, wherever it leads.
  pub record HasMoved {R : Type 0} (world : E × ReadFiles K) (old : FoundTable E C F)
      (result : Result R Status) (later : E × ReadFiles K) (new : FoundTable E C F) : Type 0 where
    pub kept : KeepsFound env world later
    pub table : new.table ≡ old.table
    pub there : (bytes : List ℕ) (parts : List Part)
        → IsFoundThere order env (codings world.1.compressors.now) world.0 old bytes parts
        → IsFoundThere order env (codings world.1.compressors.now) later.0 new bytes parts
    pub cause : IfErr result (FailsInFound order env codings world old later)
    pub err : OnErr result (inner_position new.core.inner ≡ None)

  -- another result of the same kind
  pub moved_ok : {R S : Type 0} {x : R} {world later : E × ReadFiles K}
      {old new : FoundTable E C F} (y : S) → HasMoved world old (Ok x) later new
      → HasMoved world old (Ok y) later new
  moved_ok y moved = record {
    kept = moved.kept;
    table = moved.table;
    there = moved.there;
    cause = tt;
    err = tt;
  }

  pub moved_refused : {R S : Type 0} {status : Status} {world later : E × ReadFiles K}
      {old new : FoundTable E C F} (result : Result S Status)
      → IsErrAnd result (λ other. other ≡ status)
      → HasMoved {R = R} world old (Err status) later new → HasMoved world old result later new
  moved_refused (Ok x) refused moved = absurd refused
  moved_refused {world = world} {later} {old} (Err other) refused moved = record {
    kept = moved.kept;
    table = moved.table;
    there = moved.there;
    cause = subst (FailsInFound order env codings world old later) (sym refused) moved.cause;
    err = moved.err;
  }

  -- the list stays
  unfoldable pub over_after : {R : Type 0} {world : E × ReadFiles K} {old : FoundTable E C F}
      {result : Result R Status} {later : E × ReadFiles K} {new : FoundTable E C F}
      → HasMoved world old result later new → (keys : KeyOrder) (pairs : List Pair)
      → IsFoundOver order env codings world old keys pairs
      → IsFoundOver order env codings later new keys pairs
  over_after {world = world} {old} {later = later} {new} moved keys pairs over =
      let kept = moved.kept in
      record {
        bytes = over.bytes;
        parts = over.parts;
        there = subst (λ (files : ReadFiles K). IsFoundThere order env
            (codings files.compressors.now) later.0 new over.bytes over.parts)
            (sym kept.files_stay) (moved.there over.bytes over.parts over.there);
        old = subst (λ (files : ReadFiles K). IsNoNewTable env files (file_of new.table))
            (sym kept.files_stay)
            (subst (λ (t : OpenTable (InternalKeyCmp C) NoFilterPolicy F).
            IsNoNewTable env world.1 (file_of t)) (sym moved.table) over.old);
        keys_are = over.keys_are
            ∙ ap (λ (t : OpenTable (InternalKeyCmp C) NoFilterPolicy F). key_order order t.cmp)
            (sym moved.table);
        pairs_are = over.pairs_are;
      }

  -- at a position of the list's data blocks it is at that of the list
  at_after : {R : Type 0} {world : E × ReadFiles K} {old : FoundTable E C F}
      {result : Result R Status} {later : E × ReadFiles K} {new : FoundTable E C F}
      (moved : HasMoved world old result later new) (keys : KeyOrder) (pairs : List Pair)
      (over : IsFoundOver order env codings world old keys pairs) (position : Option ℕ)
      → IsAtPosition order (order.cmp old.table.cmp) over.parts new.core position
      → IsFoundAt order env codings later new keys pairs position
  unfolding over_after
  at_after {new = new} moved keys pairs over position at = record {
    over = over_after moved keys pairs over;
    at = subst (λ (o : KeyOrder). IsAtPosition order o.cmp over.parts new.core position)
        (sym over.keys_are) at;
  }

  -- at no pair it is at no position
  none_after : {R : Type 0} {world : E × ReadFiles K} {old : FoundTable E C F}
      {result : Result R Status} {later : E × ReadFiles K} {new : FoundTable E C F}
      (moved : HasMoved world old result later new) (keys : KeyOrder) (pairs : List Pair)
      → IsFoundOver order env codings world old keys pairs
      → inner_position new.core.inner ≡ None
      → IsFoundAt order env codings later new keys pairs None
  none_after {world = world} {old} {later = later} {new} moved keys pairs over none =
      let there = moved.there over.bytes over.parts over.there in
      at_after moved keys pairs over None (record {
        lines = there.indexed.lines;
        ordered = there.indexed.ordered
            ∙ ap (λ (t : OpenTable (InternalKeyCmp C) NoFilterPolicy F). order.cmp t.cmp)
            moved.table;
        at = none;
      })

  -- no pair is where no position is
  here_none : (it : FoundTable E C F) → inner_position it.core.inner ≡ None → found_here it ≡ None
  here_none it none = ap (pair_at (inner_pairs it.core.inner)) none

  -- what a move comes to, where it is said to which position it leads
  pub walk_moves : {R : Type 0}
      (From : E × ReadFiles K → FoundTable E C F → KeyOrder → List Pair → Option ℕ → Type 0)
      (to : Way) (world : E × ReadFiles K) (old : FoundTable E C F) (result : Result R Status)
      (later : E × ReadFiles K) (new : FoundTable E C F) → HasMoved world old result later new
      → ((keys : KeyOrder) (pairs : List Pair) (position : Option ℕ)
      → From world old keys pairs position
      → OnOk result (IsFoundAt order env codings later new keys pairs (to keys pairs position)))
      → MovesWalk (IsFoundOver order env codings) (IsFoundAt order env codings) found_here
      (FailsInFound order env codings) (KeepsFound env) From to world old result later new
  walk_moves From to world old result later new moved ok = record {
    ok = ok;
    same = over_after moved;
    err = λ keys pairs over. on_err_weaker result (none_after moved keys pairs over) moved.err;
    none = on_err_weaker result (here_none new) moved.err;
    kept = moved.kept;
    cause = moved.cause;
    excuses = let kept = moved.kept in
        found_fails_before world later kept.later kept.files_stay old new (over_after moved);
  }

  -- a move that is refused
  pub walk_refused : {R S : Type 0} {status : Status}
      (From : E × ReadFiles K → FoundTable E C F → KeyOrder → List Pair → Option ℕ → Type 0)
      (to : Way) (world : E × ReadFiles K) (old : FoundTable E C F) (result : Result S Status)
      (later : E × ReadFiles K) (new : FoundTable E C F)
      → IsErrAnd result (λ other. other ≡ status)
      → HasMoved {R = R} world old (Err status) later new
      → MovesWalk (IsFoundOver order env codings) (IsFoundAt order env codings) found_here
      (FailsInFound order env codings) (KeepsFound env) From to world old result later new
  walk_refused {status = status} From to world old result later new refused moved =
      walk_moves From to world old result later new (moved_refused result refused moved)
      (λ keys pairs position from. refused_ok
      (IsFoundAt order env codings later new keys pairs (to keys pairs position)) status result
      refused)

  -- to no position
  pub walk_resets : (old new : FoundTable E C F)
      → new ≡ record old { core = record old.core { inner = None } }
      → Resets {W = E × ReadFiles K} (IsFoundOver order env codings) (IsFoundAt order env codings)
      found_here (FailsInFound order env codings) (KeepsFound env) old new
  walk_resets old new is = subst (λ (it : FoundTable E C F). Resets {W = E × ReadFiles K}
      (IsFoundOver order env codings) (IsFoundAt order env codings) found_here
      (FailsInFound order env codings) (KeepsFound env) old it) (sym is) (record {
        at_none = λ world keys pairs over. none_after (moved world) keys pairs over refl;
        none = refl;
        excuses = λ world. found_fails_before world world (omega arith) refl old left
            (over_after (moved world));
      })
    where
      left : FoundTable E C F
      left = record old { core = record old.core { inner = None } }

      there : (world : E × ReadFiles K) (bytes : List ℕ) (parts : List Part)
          → IsFoundThere order env (codings world.1.compressors.now) world.0 old bytes parts
          → IsFoundThere order env (codings world.1.compressors.now) world.0 left bytes parts
      there world bytes parts was = record {
        has = was.has;
        parts_are = was.parts_are;
        holds = was.holds;
        indexed = record { lines = was.indexed.lines; ordered = was.indexed.ordered };
        sorted = was.sorted;
      }

      moved : (world : E × ReadFiles K) → HasMoved {R = Unit {0}} world old (Ok tt) world left
      moved world = record {
        kept = found_kept env world;
        table = refl;
        there = there world;
        cause = tt;
        err = tt;
      }

  -- ---- the moves

  module _ (laws : IsInternalOrder order) (to : FoundMove) (world : E × ReadFiles K)
      (old : FoundTable E C F) (result : Result Bool Status) (later : E × ReadFiles K)
      (new : FoundTable E C F) (same : later.1 ≡ world.1)
      (made : MovesInFound order env (codings world.1.compressors.now) to world.0 old result later.0
      new) where
    abbrev Set : Codings
    Set = codings world.1.compressors.now

    there_after : (bytes : List ℕ) (parts : List Part)
        → IsFoundThere order env Set world.0 old bytes parts
        → IsFoundThere order env Set later.0 new bytes parts
    there_after bytes parts was = let moves = made.moves in record {
      has = subst (λ (t : OpenTable (InternalKeyCmp C) NoFilterPolicy F).
          FileHas env later.0 (file_of t) bytes) (sym made.table)
          (FileHas-after env moves.reads.kept_disk was.has);
      parts_are = subst (λ (t : OpenTable (InternalKeyCmp C) NoFilterPolicy F).
          HasParts Set (order.accepts t.cmp) (order.cmp t.cmp) bytes parts) (sym made.table)
          was.parts_are;
      holds = subst (λ (t : OpenTable (InternalKeyCmp C) NoFilterPolicy F).
          HoldsOnlyOf order Set (order.cmp t.cmp) (id_of t) bytes new.blocks) (sym made.table)
          (HoldsOnlyOf-after (λ offset held right. right bytes was.has) moves.gathers was.holds);
      indexed = subst (λ (t : OpenTable (InternalKeyCmp C) NoFilterPolicy F).
          IsIndexed order (order.cmp t.cmp) parts new.core) (sym made.table) (record {
            lines = moves.same_lines ∙ was.indexed.lines;
            ordered = ap order.cmp moves.same_order ∙ was.indexed.ordered;
          });
      sorted = subst (λ (t : OpenTable (InternalKeyCmp C) NoFilterPolicy F).
          IsSortedIn (key_order order t.cmp) (pairs_in parts)) (sym made.table) was.sorted;
    }

    caused : (r : Result Bool Status)
        → FailsFor env (IsLackError env Set (λ bytes status.
        GivenParts order Set (order.accepts old.table.cmp) (order.cmp old.table.cmp)
        (id_of old.table) bytes old.blocks
        (λ parts position. IsFit (order.accepts old.table.cmp) to)
        (λ parts position. IsAtPosition order (order.cmp old.table.cmp) parts old.core position)
        (λ parts position. ⊥)
        × (HoldsOnlyOf order Set (order.cmp old.table.cmp) (id_of old.table) bytes old.blocks
        → found_step order to Set (order.cmp old.table.cmp) bytes old.core (Err status)))
        world.0 (file_of old.table)) world.0 later.0 r
        → IfErr r (FailsInFound order env codings world old later)
    caused (Ok there) fails = tt
    caused (Err status) fails = record {
      fault = between_or env (HasLackCode env Set status) world.0 later.0 status
          (λ lacks. lacks.0) fails;
      sound = λ keys pairs over. (let was = over.there in between_or env ⊥ world.0 later.0 status
          (λ lacks. step_never order Set (laws.preorder old.table.cmp) was.parts_are old.core
          was.indexed to status ((lacks.1 over.bytes was.has).1 was.holds)) fails);
    }

    pub has_moved : HasMoved world old result later new
    has_moved = let moves = made.moves in record {
      kept = record {
        files_stay = same;
        disk = moves.reads.kept_disk;
        later = let cause = moves.reads.cause in cause.later;
      };
      table = made.table;
      there = there_after;
      cause = caused result (let reads = moves.reads in reads.cause);
      err = moves.err;
    }

    -- where it leads from where it is
    pub led_from : (keys : KeyOrder) (pairs : List Pair) (position : Option ℕ)
        → IsFoundAt order env codings world old keys pairs position
        → IsFit (order.accepts old.table.cmp) to
        → OnOk result (IsFoundAt order env codings later new keys pairs
        (way_of to keys.cmp pairs position))
    led_from keys pairs position at fit =
        let over = at.over in let was = over.there in let moves = made.moves in
        on_ok_weaker result (λ here. at_after has_moved keys pairs over
        (way_of to keys.cmp pairs position) (subst (λ (o : KeyOrder).
        IsAtPosition order (order.cmp old.table.cmp) over.parts new.core
        (way_of to o.cmp pairs position)) (sym over.keys_are) (subst (λ ps.
        IsAtPosition order (order.cmp old.table.cmp) over.parts new.core
        (way_of to (order.cmp old.table.cmp) ps position)) (sym over.pairs_are) here)))
        (moves.ok over.bytes was.has over.parts position was.parts_are fit was.holds
        (subst (λ (o : KeyOrder). IsAtPosition order o.cmp over.parts old.core position)
        over.keys_are at.at))

    -- and from wherever it is, if the move is a step of the kind that leads to a line of the index
    module _ (by : TableStep) (step_is : (bytes : List ℕ) (out : Outcome)
        → found_step order to Set (order.cmp old.table.cmp) bytes old.core out
        → step_to order by Set (order.cmp old.table.cmp) bytes old.core out) where
      pub led_anywhere : (keys : KeyOrder) (pairs : List Pair) (position : Option ℕ)
          → (over : IsFoundOver order env codings world old keys pairs)
          → IsLedTo by (order.cmp old.table.cmp) over.parts (Some old.core) position
          → OnOk result (IsFoundAt order env codings later new keys pairs position)
      led_anywhere keys pairs position over led =
          let was = over.there in let moves = made.moves in
          on_ok_weaker result (λ step. at_after has_moved keys pairs over position (record {
            lines = moves.same_lines ∙ was.indexed.lines;
            ordered = ap order.cmp moves.same_order ∙ was.indexed.ordered;
            at = step_leads (agrees_by Set) (laws.preorder old.table.cmp) was.parts_are old.core
                was.indexed
                (λ key fit. laws.accepts_is old.table.cmp key ∙ fit) by
                (table_position new.core) position
                (step_is over.bytes (Ok (table_position new.core)) step) led;
          })) (moves.steps over.bytes was.has was.holds)

  module _ (laws : IsInternalOrder order) (world : E × ReadFiles K) (old : FoundTable E C F)
      (later : E × ReadFiles K) (new : FoundTable E C F) (same : later.1 ≡ world.1) where
    abbrev Made : FoundMove → Result Bool Status → Type 0
    Made to result =
        MovesInFound order env (codings world.1.compressors.now) to world.0 old result later.0 new

    abbrev Moves : {R : Type 0}
        → (E × ReadFiles K → FoundTable E C F → KeyOrder → List Pair → Option ℕ → Type 0) → Way
        → Result R Status → Type 0
    Moves From to result = MovesWalk (IsFoundOver order env codings) (IsFoundAt order env codings)
        found_here (FailsInFound order env codings) (KeepsFound env) From to world old result later
        new

    -- to the next pair
    pub advances : (result : Result Bool Status) → Made Next result
        → Moves (IsFoundAt order env codings) (λ keys. next_position) result
    advances result made =
        walk_moves (IsFoundAt order env codings) (λ keys. next_position) world old result later new
        (has_moved laws Next world old result later new same made) (λ keys pairs position at.
        led_from laws Next world old result later new same made keys pairs position at tt)

    -- to the pair before
    pub steps_back : (result : Result Bool Status) → Made Before result
        → Moves (IsFoundAt order env codings) (λ keys pairs. previous_position) result
    steps_back result made =
        walk_moves (IsFoundAt order env codings) (λ keys pairs. previous_position) world old result
        later new (has_moved laws Before world old result later new same made)
        (λ keys pairs position at.
        led_from laws Before world old result later new same made keys pairs position at tt)

    -- to the first pair at or after a key
    pub seeks_key : (key : Bor (List ℕ)) (there : Bool) → Made (Seek key) (Ok there)
        → Moves {R = Unit {0}} (λ world it keys pairs position.
        IsFoundOver order env codings world it keys pairs × (keys.accepts key.now ≡ true))
        (λ keys pairs position. seek_position keys.cmp pairs key.now) (Ok tt)
    seeks_key key there made =
        walk_moves (λ world it keys pairs position.
        IsFoundOver order env codings world it keys pairs × (keys.accepts key.now ≡ true))
        (λ keys pairs position. seek_position keys.cmp pairs key.now) world old (Ok tt) later new
        (moved_ok tt (has_moved laws (Seek key) world old (Ok there) later new same made))
        (λ keys pairs position from. led_anywhere laws (Seek key) world old (Ok there) later new
        same made (SeekStep key) (λ bytes out step. step) keys pairs
        (seek_position keys.cmp pairs key.now) from.0 (let over = from.0 in (
          ap (λ ps. seek_position keys.cmp ps key.now) over.pairs_are
              ∙ ap (λ (o : KeyOrder). seek_position o.cmp (pairs_in over.parts) key.now)
              over.keys_are,
          sym (laws.accepts_is old.table.cmp key.now)
              ∙ subst (λ (o : KeyOrder). o.accepts key.now ≡ true) over.keys_are from.1,
        )))

    -- to the first pair
    pub seeks_first : (there : Bool) → Made First (Ok there)
        → Moves {R = Unit {0}} (λ world it keys pairs position.
        IsFoundOver order env codings world it keys pairs)
        (λ keys pairs position. position_within pairs 0) (Ok tt)
    seeks_first there made =
        walk_moves (λ world it keys pairs position.
        IsFoundOver order env codings world it keys pairs)
        (λ keys pairs position. position_within pairs 0) world old (Ok tt) later new
        (moved_ok tt (has_moved laws First world old (Ok there) later new same made))
        (λ keys pairs position over. led_anywhere laws First world old (Ok there) later new same
        made FirstStep (λ bytes out step. step) keys pairs (position_within pairs 0) over
        (ap (λ ps. position_within ps 0) over.pairs_are))

    -- to the last pair
    pub seeks_last : (there : Bool) → Made Last (Ok there)
        → Moves {R = Unit {0}} (λ world it keys pairs position.
        IsFoundOver order env codings world it keys pairs)
        (λ keys pairs position. last_position pairs) (Ok tt)
    seeks_last there made =
        walk_moves (λ world it keys pairs position.
        IsFoundOver order env codings world it keys pairs)
        (λ keys pairs position. last_position pairs) world old (Ok tt) later new
        (moved_ok tt (has_moved laws Last world old (Ok there) later new same made))
        (λ keys pairs position over. led_anywhere laws Last world old (Ok there) later new same
        made LastStep (λ bytes out step. step) keys pairs (last_position pairs) over
        (ap last_position over.pairs_are))
