-- The merge of walks over all that is found is over it, and what a look over that leaves.
use Rattle.std.proofs.Common.{◌≡◌, ◌∙◌, ◌⊎◌, ⊎_elim, inl, inr, ◌+◌, Bool, false, true, ℕ, List, Err, None, Ok, arith, length, refl, subst, sym}
use Rattle.std.proofs.lemmas.Bool.{and_parts, leb-true}
use Rattle.std.proofs.lemmas.List.Elements.{All-contains}
use Rattle.std.specs.Prelude.{◌↔◌, Contains, IsTrue}
use Rattle.std.specs.declared.cmp.Ordering.{Ordering}
use Rattle.leveldb_base.specs.Cmp.{IsExactOrder, IsPreorderOn, internal_accepts}
use Rattle.leveldb_base.specs.CmpLaws.{internal_accepts-internal_key}
use Rattle.leveldb_base.specs.Entries.{entries_of_pairs, entry_of_pair}
use Rattle.leveldb_base.specs.Error.{IsOutOfMemory}
use Rattle.leveldb_base.specs.History.{AreRising, Entry}
use Rattle.leveldb_base.specs.KeyTypes.{internal_cmp}
use Rattle.leveldb_base.specs.Types.{Pair}
use Rattle.leveldb_base.specs.declared.cmp.Cmp.{Ghosts as CmpGhosts}
use Rattle.leveldb_base.specs.declared.cmp.internal.InternalKeyCmp.{InternalKeyCmp}
use Rattle.leveldb_base.specs.declared.error.Status.{Status}
use Rattle.leveldb_base.specs.declared.error.StatusCode.TheVariants.{Corruption}
use Rattle.leveldb_base.specs.declared.types.LdbIterator.{Ghosts as IteratorGhosts}
use Rattle.leveldb_env.specs.Compressor.{Codings}
use Rattle.leveldb_env.specs.declared.env.Env.{Ghosts as EnvGhosts}
use Rattle.leveldb_env.specs.declared.filter.FilterPolicy.{Ghosts as FilterGhosts}
use Rattle.leveldb_iter.specs.Merge.{HaveOnePairAKey, IsMerge}
use Rattle.leveldb_iter.specs.MergedEntries.{internal_order}
use Rattle.leveldb_iter.specs.MergingIter.{AreMerged, FailsMerged, FailsOrClashes, IsMergeAt}
use Rattle.leveldb_iter.specs.Walk.{KeyOrder, key_order}
use Rattle.leveldb_iter.specs.declared.merging_iter.MergeCore.{MergeCore}
use Rattle.leveldb_iter.specs.declared.walk.Walk.{Ghosts as WalkGhosts}
use Rattle.leveldb_table.specs.TableBlock.{HasLackCode}
use Rattle.leveldb_files.proofs.Stores.OneStoreLemmas.{in_flat}
use Rattle.leveldb_store.proofs.Compactions.BearingLemmas.{IsMergeOf}
use Rattle.leveldb_store.specs.Tables.BuildTable.{TableChoices}
use Rattle.leveldb_store.specs.Reading.View.{any_in_order}
use Rattle.leveldb_repair.proofs.FoundWalkBearingLemmas.{IsFoundChild, merge_bears_new_tables, merge_leaves_files}
use Rattle.leveldb_repair.proofs.LookOverLemmas.{looked_fits}
use Rattle.leveldb_repair.proofs.RepairBearsLemmas.{still_makes}
use Rattle.leveldb_repair.proofs.RepairChildrenLemmas.{children_have_merge, merge_over}
use Rattle.leveldb_repair.proofs.RepairClashLemmas.{HaveClash, clash_of}
use Rattle.leveldb_repair.proofs.RepairFailsLemmas.{fails_weaker, merge_fails_anyhow, merge_fails_unless_one}
use Rattle.leveldb_repair.proofs.RepairMergeLemmas.{merge_has_entries, merged_of_entries, pair_of_entry}
use Rattle.leveldb_repair.specs.FoundTables.{AreNumberedPairs, entries_of_lists}
use Rattle.leveldb_repair.specs.FoundWalkTable.{FailsBetweenOr}
use Rattle.leveldb_repair.specs.LookOver.{AreLookedOver, IsOverTagless, LooksOver}
use Rattle.leveldb_repair.specs.RepairSteps.{AreAllFound, AreOverFound, HaveFound, IsOverAll, IsOverFound}
use Rattle.leveldb_repair.specs.FoundWalkOf.{FoundWalk}
use Rattle.leveldb_repair.specs.declared.found_walk.files.ReadFiles.{ReadFiles}
use Rattle.leveldb_repair.specs.declared.look_over.LookedOver.{LookedOver}

-- ---- the merge of walks

module _ {E C K M F FP : Type 0} {order : CmpGhosts (InternalKeyCmp C)} {filters : FilterGhosts FP}
    (choices : TableChoices order filters) (env : EnvGhosts E F) (codings : K → Codings)
    (iterator : IteratorGhosts M) (cmp : CmpGhosts C)
    (keys_are : (c : C)
    → key_order order (record { 0 = c }) ≡ internal_order (any_in_order (cmp.cmp c)))
    (exact : IsExactOrder (cmp.cmp choices.cmp.0))
    {child : WalkGhosts (FoundWalk E C M F) E (ReadFiles K)}
    (is : IsFoundChild order env codings iterator child)
    {merge : WalkGhosts (MergeCore (InternalKeyCmp C) (FoundWalk E C M F)) E (ReadFiles K)}
    (merges : IsMergeOf child order merge) where
  -- a new merge of walks over all that is found is over it
  pub walks_over_found : (store : List ℕ) (taken : ℕ) (world : E × ReadFiles K)
      (children : List (FoundWalk E C M F))
      (it : MergeCore (InternalKeyCmp C) (FoundWalk E C M F))
      → ((at : E × ReadFiles K) (by : KeyOrder) (lists : List (List Pair)) (pairs : List Pair)
      → AreMerged child order at choices.cmp children by lists pairs
      → IsMergeAt child order at it by pairs None)
      → ((at later : E × ReadFiles K) (status : Status)
      → FailsMerged child order at it later status
      → FailsOrClashes child order at choices.cmp children later status)
      → AreOverFound choices env codings iterator store taken world children
      → IsOverFound choices env store taken merge world it
  walks_over_found store taken world children it made fails are = record {
    moves = merge_leaves_files order env codings iterator is merges;
    bears = λ at kept. merge_bears_new_tables order env codings iterator is merges store
        (taken + 2) at (still_makes env store (taken + 2) world at
        (is.keeps world at (merges.keeps world at kept)) are.makes);
    fails = λ later status failed. subst (λ (c : Codings).
        FailsBetweenOr env (HasLackCode env c status) world.0 later.0 status) are.codings_are
        (merge_fails_anyhow order env codings iterator are.never is world later it status
        ((merges.fails_is world it later status).0 failed));
    over = λ modelled.
        let has = are.over modelled in
        let lists = has.1 in
        let merged = children_have_merge order env codings iterator cmp keys_are choices.cmp.0 exact
        world children lists has.3 in (
          has.0,
          lists,
          has.2,
          record {
            pairs = merged.0;
            merge = merged.1;
            over = merge_over order env codings iterator cmp keys_are choices.cmp.0 exact is merges
                children it made world lists has.3;
            fails = merge_fails_unless_one order env codings iterator are.never cmp keys_are
                choices.cmp.0 exact is merges children it made fails world lists has.3;
          },
        );
  }

-- ---- a look over a walk over all that is found

module _ {C FP : Type 0} {order : CmpGhosts C} {filters : FilterGhosts FP}
    (choices : TableChoices order filters) {E F T W : Type 0} (env : EnvGhosts E F)
    (store : List ℕ) (taken : ℕ) (walk : WalkGhosts W E T)
    (preorder : IsPreorderOn (order.accepts choices.cmp) (order.cmp choices.cmp))
    (cmp_is : order.cmp choices.cmp ≡ internal_cmp choices.format.order) {start : E × T} {it : W}
    (found : IsOverFound choices env store taken walk start it) where
  abbrev keys : KeyOrder
  keys = key_order order choices.cmp

  either_disk : (IsTrue env.models_disk) ⊎ (IsTrue env.models_disk → ⊥)
  either_disk = by env.models_disk refl
    where
      by : (b : Bool) → env.models_disk ≡ b
          → (IsTrue env.models_disk) ⊎ (IsTrue env.models_disk → ⊥)
      by true e = inl e
      by false e = inr (λ is. let never : false ≡ true = sym e ∙ is in cc)

  -- all that is found of lists is found of a merge that has one pair of each key
  merged_found : {lists : List (List Pair)} {pairs : List Pair} {result : LookedOver}
      → HaveFound store choices.format (env.observed start.0).disk.files lists
      → IsMerge keys lists pairs → HaveOnePairAKey keys lists → AreLookedOver pairs result
      → AreAllFound store choices.format (env.observed start.0).disk.files pairs result
  merged_found {lists} {pairs} have merged one looked = record {
    looked = looked;
    numbered = record {
      each = merged_of_entries keys lists pairs merged (λ list there.
          (All-contains AreNumberedPairs lists list have.numbered there).each);
      numbered = λ entry there.
          let from = in_flat entries_of_pairs lists entry ((same entry).0 there) in
          (All-contains AreNumberedPairs lists from.0 have.numbered from.1).numbered entry from.2;
    };
    rising = subst (λ (o : List ℕ → List ℕ → Ordering). AreRising o pairs) cmp_is
        merged.sorted.rising;
    found_is = λ more decodes entry.
        let is = have.found more decodes entry in
        (λ c. is.0 ((same entry).0 c), λ f. (same entry).1 (is.1 f));
  }
    where
      same : (entry : Entry) → Contains (entries_of_pairs pairs) entry
          ↔ Contains (entries_of_lists lists) entry
      same = merge_has_entries keys lists pairs merged one

  -- where it ends, the walk is over pairs that are all that is found
  pub looked_over_all : {result : LookedOver} {mid : E × T} {now : W}
      → LooksOver walk start it (Ok result) mid now
      → IsOverAll choices env store taken walk mid now start.0 result
  looked_over_all {result} looks =
      record {
        moves = found.moves;
        bears = found.bears _ looks.kept;
        fails = λ later status failed. ⊎_elim
            (λ (modelled : IsTrue env.models_disk).
            let has = found.over modelled in
            let lists = has.3 in
            fails_weaker env start.0 later.0 status
            (λ why. absurd (why.1 (looks.one keys has.1 lists.pairs preorder lists.merge
            lists.over)))
            (lists.fails later status (looks.excuses later status failed)))
            (λ (none : IsTrue env.models_disk → ⊥). fails_weaker env start.0 later.0 status
            (λ lacks. (lacks, none))
            (found.fails later status (looks.excuses later status failed)))
            either_disk;
        fits = let ok = looks.ok in looked_fits ok.1;
        over = λ modelled.
            let has = found.over modelled in
            let lists = has.3 in
            let was = lists.over lists.pairs lists.merge in
            let ok = looks.ok in (
              has.0,
              lists.pairs,
              looks.same keys lists.pairs was,
              merged_found has.2 lists.merge
                  (looks.one keys has.1 lists.pairs preorder lists.merge lists.over)
                  (subst (λ ps. AreLookedOver ps result) (sym (ok.2 keys lists.pairs was)) ok.1),
            );
      }

  -- where it fails, two pairs of lists that have all that is found clash, or a block is lacking where
  -- no disk is modelled
  pub look_over_fails : {status : Status} {end : E × T} {now : W}
      → LooksOver walk start it (Err status) end now
      → FailsBetweenOr env (((status.code ≡ Corruption) × (lists : List (List Pair))
      × HaveFound store choices.format (env.observed start.0).disk.files lists
      × HaveClash keys lists)
      ⊎ (HasLackCode env choices.format.codings status × (IsTrue env.models_disk → ⊥))) start.0
      end.0 status
  look_over_fails {status} {end} looks = ⊎_elim
      (λ (failed : walk.fails start it end status). ⊎_elim
      (λ (modelled : IsTrue env.models_disk).
      let has = found.over modelled in
      fails_weaker env start.0 end.0 status
      (λ why. inl (why.0, has.1, has.2, clash_of keys has.1 why.1))
      (has.3.fails end status failed))
      (λ (none : IsTrue env.models_disk → ⊥). fails_weaker env start.0 end.0 status
      (λ lacks. inr (lacks, none)) (found.fails end status failed))
      either_disk)
      (λ rest. ⊎_elim
      (λ (memory : IsOutOfMemory status). inl memory)
      (λ (short : (status.code ≡ Corruption) × IsOverTagless walk start it). ⊎_elim
      (λ (modelled : IsTrue env.models_disk). absurd (tagless modelled short.1))
      (λ (none : IsTrue env.models_disk → ⊥). inr (inr (inr (inr (inl short.0, none)))))
      either_disk) rest)
      looks.cause
    where
      -- the pairs of a merge have keys with tags
      tagless : IsTrue env.models_disk → IsOverTagless walk start it → ⊥
      tagless modelled none =
          let has = found.over modelled in
          let lists = has.3 in
          let there = none.2 keys lists.pairs (lists.over lists.pairs lists.merge) in
          let internal = pair_of_entry lists.pairs (merged_of_entries keys has.1 lists.pairs
          lists.merge (λ list at. (All-contains AreNumberedPairs has.1 list has.2.numbered at).each))
          none.0 there in
          let of = entry_of_pair none.0 in
          let takes : internal_accepts (λ key. true) none.0.0 ≡ true =
          subst (λ k. internal_accepts (λ key. true) k ≡ true) (sym internal.key)
          (internal_accepts-internal_key (λ key. true) of.key of.sequence internal.kind refl) in
          let long = leb-true 8 (length none.0.0) (and_parts _ _ takes).0 in
          let short = none.1 in omega (arith, long, short)
