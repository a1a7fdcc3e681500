-- Why a repair's merge fails: out of memory, at a failure of the device that was counted, or since
-- two pairs clash; never since a block is lacking, where its walks are over readable tables.
use Rattle.std.proofs.Common.{◌≡◌, ⊎_elim, inl, inr, ◌&&◌, ◌≤◌, nat_le, ℕ, true, List, Err, None, Ok, arith, length, subst}
use Rattle.std.proofs.lemmas.Bool.{and_parts, leb-true}
use Rattle.std.proofs.lemmas.List.Elements.{All-contains}
use Rattle.std.specs.Prelude.{Contains}
use Rattle.leveldb_base.specs.Cmp.{IsExactOrder}
use Rattle.leveldb_base.specs.Error.{IsOutOfMemory}
use Rattle.leveldb_base.specs.Types.{Pair}
use Rattle.leveldb_base.specs.declared.cmp.Cmp.{Ghosts as CmpGhosts}
use Rattle.leveldb_base.specs.declared.cmp.internal.InternalKeyCmp.{InternalKeyCmp}
use Rattle.leveldb_base.specs.declared.error.Status.{Status}
use Rattle.leveldb_base.specs.declared.error.StatusCode.TheVariants.{Corruption}
use Rattle.leveldb_base.specs.declared.types.LdbIterator.{Ghosts as IteratorGhosts}
use Rattle.leveldb_env.specs.Compressor.{Codings}
use Rattle.leveldb_env.specs.declared.env.Env.{Ghosts as EnvGhosts}
use Rattle.leveldb_iter.specs.Children.{AnyFails}
use Rattle.leveldb_iter.specs.Merge.{HaveOnePairAKey, IsMerge}
use Rattle.leveldb_iter.specs.MergedEntries.{internal_order}
use Rattle.leveldb_iter.specs.MergingIter.{AreMerged, FailsMerged, FailsOrClashes, IsMergeAt}
use Rattle.leveldb_iter.specs.Walk.{KeyOrder, key_order}
use Rattle.leveldb_iter.specs.declared.merging_iter.MergeCore.{MergeCore}
use Rattle.leveldb_iter.specs.declared.walk.Walk.{Ghosts as WalkGhosts}
use Rattle.leveldb_table.specs.TableBlock.{HasLackCode}
use Rattle.leveldb_version.proofs.Versions.PairwiseLemmas.{each_first}
use Rattle.leveldb_files.specs.Stores.Batches.{Each}
use Rattle.leveldb_store.proofs.Compactions.BearingLemmas.{IsMergeOf}
use Rattle.leveldb_store.specs.Compactions.Merging.{BearsNewTables, FailsOnWay}
use Rattle.leveldb_store.specs.Reading.View.{any_in_order}
use Rattle.leveldb_repair.proofs.FoundWalkBearingLemmas.{IsFoundChild}
use Rattle.leveldb_repair.proofs.RepairChildrenLemmas.{Over, children_have_merge, children_merged, keys, merge_over}
use Rattle.leveldb_repair.proofs.RepairClashLemmas.{HaveClash, clash_of}
use Rattle.leveldb_repair.specs.FoundWalk.{FailsInWalk}
use Rattle.leveldb_repair.specs.FoundWalkTable.{FailsBetweenOr, codings_in}
use Rattle.leveldb_repair.specs.LookOver.{IsOverTagless, LooksOver}
use Rattle.leveldb_repair.specs.FoundWalkOf.{FoundWalk}
use Rattle.leveldb_repair.specs.declared.found_walk.FoundWalk.TheVariants.{Memory, Table}
use Rattle.leveldb_repair.specs.declared.found_walk.files.ReadFiles.{ReadFiles}
use Rattle.leveldb_repair.specs.declared.look_over.LookedOver.{LookedOver}

-- ---- reasons

module _ {E F : Type 0} (env : EnvGhosts E F) where
  -- a reason that leads to another
  pub fails_weaker : {These Those : Type 0} (from to : E) (status : Status) → (These → Those)
      → FailsBetweenOr env These from to status → FailsBetweenOr env Those from to status
  fails_weaker from to status along (inl out) = inl out
  fails_weaker from to status along (inr (inl more)) = inr (inl more)
  fails_weaker from to status along (inr (inr (inl most))) = inr (inr (inl most))
  fails_weaker from to status along (inr (inr (inr why))) = inr (inr (inr (along why)))

  -- between later environments it is one between earlier ones
  pub fails_earlier : {Why : Type 0} (from at to : E) (status : Status)
      → env.failures from ≤ env.failures at → FailsBetweenOr env Why at to status
      → FailsBetweenOr env Why from to status
  fails_earlier from at to status counted (inl out) = inl out
  fails_earlier from at to status counted (inr (inl more)) =
      inr (inl (omega (arith, counted, more)))
  fails_earlier from at to status counted (inr (inr (inl most))) = inr (inr (inl most))
  fails_earlier from at to status counted (inr (inr (inr why))) = inr (inr (inr why))

-- ---- children

module _ {E C K M F : Type 0} (order : CmpGhosts (InternalKeyCmp C)) (env : EnvGhosts E F)
    (codings : K → Codings) (iterator : IteratorGhosts M)
    (never : (it after : M) (status : Status) → iterator.fails it after status → ⊥) where
  -- A child fails for a block that is lacking at most, whatever its file is.
  pub child_fails : (world : E × ReadFiles K) (it : FoundWalk E C M F) (later : E × ReadFiles K)
      (status : Status) → FailsInWalk order env codings iterator world it later status
      → FailsBetweenOr env (HasLackCode env (codings_in order env codings world) status) world.0
      later.0 status
  child_fails world (Memory it) later status fails = absurd (never it.0 fails.0 status fails.1)
  child_fails world (Table it) later status fails = fails.fault

  module _ {child : WalkGhosts (FoundWalk E C M F) E (ReadFiles K)}
      (is : IsFoundChild order env codings iterator child) where
    -- so does a merge, or with the code of a clash, which is one of those
    pub merge_fails_anyhow : (world later : E × ReadFiles K)
        (it : MergeCore (InternalKeyCmp C) (FoundWalk E C M F)) (status : Status)
        → FailsMerged child order world it later status
        → FailsBetweenOr env (HasLackCode env (codings_in order env codings world) status) world.0
        later.0 status
    merge_fails_anyhow world later it status (inl any) = child_fails world any.1 later status
        ((is.fails_is world any.1 later status).0 any.4)
    merge_fails_anyhow world later it status (inr clash) = inr (inr (inr (inl clash.0)))

-- ---- a merge over lists

module _ {E C K M F : Type 0} (order : CmpGhosts (InternalKeyCmp C)) (env : EnvGhosts E F)
    (codings : K → Codings) (iterator : IteratorGhosts M)
    (never : (it after : M) (status : Status) → iterator.fails it after status → ⊥)
    (cmp : CmpGhosts C)
    (keys_are : (c : C)
    → key_order order (record { 0 = c }) ≡ internal_order (any_in_order (cmp.cmp c)))
    (compares : C) (exact : IsExactOrder (cmp.cmp compares))
    {child : WalkGhosts (FoundWalk E C M F) E (ReadFiles K)}
    (is : IsFoundChild order env codings iterator child)
    {merge : WalkGhosts (MergeCore (InternalKeyCmp C) (FoundWalk E C M F)) E (ReadFiles K)}
    (merges : IsMergeOf child order merge) (children : List (FoundWalk E C M F))
    (it : MergeCore (InternalKeyCmp C) (FoundWalk E C M F))
    (made : (world : E × ReadFiles K) (by : KeyOrder) (lists : List (List Pair))
    (pairs : List Pair)
    → AreMerged child order world (record { 0 = compares }) children by lists pairs
    → IsMergeAt child order world it by pairs None)
    (fails : (world later : E × ReadFiles K) (status : Status)
    → FailsMerged child order world it later status
    → FailsOrClashes child order world (record { 0 = compares }) children later status)
    (world : E × ReadFiles K) (lists : List (List Pair))
    (over : Each (Over order env codings iterator cmp keys_are compares exact world) children lists)
  where
    abbrev by_keys : KeyOrder
    by_keys = keys order env codings iterator cmp keys_are compares exact

    abbrev OverList : FoundWalk E C M F → List Pair → Type 0
    OverList = Over order env codings iterator cmp keys_are compares exact world

    -- a walk over a list doesn't fail for a lacking block
    one_fails : (one : FoundWalk E C M F) (pairs : List Pair) → OverList one pairs
        → (later : E × ReadFiles K) (status : Status)
        → FailsInWalk order env codings iterator world one later status
        → FailsBetweenOr env ⊥ world.0 later.0 status
    one_fails (Memory one) pairs is_over later status failed =
        absurd (never one.0 failed.0 status failed.1)
    one_fails (Table one) pairs is_over later status failed =
        failed.sound by_keys pairs is_over

    any_fails : (later : E × ReadFiles K) (status : Status)
        → AnyFails child world children later status → FailsBetweenOr env ⊥ world.0 later.0 status
    any_fails later status any =
        let list = each_first OverList children lists any.1 over (any.0, any.2, any.3) in
        one_fails any.1 list.0 list.2 later status
        ((is.fails_is world any.1 later status).0 any.4)

    -- the merge fails since the lists have not one pair of each key at most
    pub merge_fails_unless_one : (later : E × ReadFiles K) (status : Status)
        → merge.fails world it later status
        → FailsBetweenOr env ((status.code ≡ Corruption) × (HaveOnePairAKey by_keys lists → ⊥))
        world.0 later.0 status
    merge_fails_unless_one later status failed = ⊎_elim
        (λ (any : AnyFails child world children later status).
        fails_weaker env world.0 later.0 status (λ none. absurd none) (any_fails later status any))
        (λ clash. inr (inr (inr (clash.0, clash.1 by_keys lists has.0 merged))))
        (fails world later status ((merges.fails_is world it later status).0 failed))
      where
        has : (pairs : List Pair) × IsMerge by_keys lists pairs
        has = children_have_merge order env codings iterator cmp keys_are compares exact world
            children lists over

        merged : AreMerged child order world (record { 0 = compares }) children by_keys lists has.0
        merged = children_merged order env codings iterator cmp keys_are compares exact world
            children lists over is has.0 has.1

    -- that is, since two pairs clash
    pub merge_fails : (later : E × ReadFiles K) (status : Status)
        → merge.fails world it later status
        → FailsBetweenOr env ((status.code ≡ Corruption) × HaveClash by_keys lists) world.0 later.0
        status
    merge_fails later status failed = fails_weaker env world.0 later.0 status
        (λ why. (why.0, clash_of by_keys lists why.1))
        (merge_fails_unless_one later status failed)

    -- and where they have one pair of each key for none of these reasons
    pub one_merge_fails : HaveOnePairAKey by_keys lists → (later : E × ReadFiles K)
        (status : Status) → merge.fails world it later status
        → FailsBetweenOr env ⊥ world.0 later.0 status
    one_merge_fails one later status failed = fails_weaker env world.0 later.0 status
        (λ why. why.1 one) (merge_fails_unless_one later status failed)

    -- each key of a merge has a tag
    tagged : IsOverTagless merge world it → ⊥
    tagged none =
        let has = children_have_merge order env codings iterator cmp keys_are compares exact world
        children lists over in
        let pairs = has.0 in
        let there : Contains pairs none.0 = none.2 by_keys pairs
        (merge_over order env codings iterator cmp keys_are compares exact is merges children it
        made world lists over pairs has.1) in
        let accepted = All-contains (λ (p : Pair). by_keys.accepts p.0 ≡ true) pairs none.0
        has.1.sorted.accepted there in
        let takes : (nat_le 8 (length none.0.0) && true) ≡ true =
        subst (λ (o : KeyOrder). o.accepts none.0.0 ≡ true) (keys_are compares) accepted in
        let long = leb-true 8 (length none.0.0) (and_parts _ _ takes).0 in
        let short = none.1 in omega (arith, long, short)

    -- so a look over it fails since two pairs clash at most
    pub look_fails : {status : Status} {end : E × ReadFiles K}
        {now : MergeCore (InternalKeyCmp C) (FoundWalk E C M F)}
        → LooksOver merge world it (Err status) end now
        → FailsBetweenOr env ((status.code ≡ Corruption) × HaveClash by_keys lists) world.0 end.0
        status
    look_fails {status} {end} looks = ⊎_elim
        (λ (failed : merge.fails world it end status). merge_fails end status failed)
        (λ rest. ⊎_elim
        (λ (memory : IsOutOfMemory status). inl memory)
        (λ (short : (status.code ≡ Corruption) × IsOverTagless merge world it).
        absurd (tagged short.1)) rest)
        looks.cause

    -- After a look over it that ended, and moves that lead to another end: why a move failed when
    -- its pairs were written, where it bears new tables.
    pub write_fails : (store : List ℕ) (first : ℕ) {found : LookedOver} {mid end : E × ReadFiles K}
        {now : MergeCore (InternalKeyCmp C) (FoundWalk E C M F)} {status : Status}
        → HaveOnePairAKey by_keys lists → LooksOver merge world it (Ok found) mid now
        → BearsNewTables env merge store first mid
        → FailsOnWay env merge store first mid now end status
        → FailsBetweenOr env ⊥ world.0 end.0 status
    write_fails store first {end = end} {status = status} one looks bears failed =
        one_merge_fails one end status (looks.excuses end status (failed.from_start bears))
