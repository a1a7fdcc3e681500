-- The children of a repair's merge, walks over tables that are found and then walks over memtables:
-- which lists they are over, that these have a merge, and what a look over it and its writing read.
use Rattle.std.proofs.Common.{◌≡◌, Bool, ℕ, zero, suc, true, List, [], ◌∷◌, ◌++◌, None, Ok, Some, ap, map, refl, subst, sym}
use Rattle.std.specs.Cmp.{IsTotalOrder}
use Rattle.std.specs.Prelude.{All, slice_get, slice_index_or}
use Rattle.leveldb_base.proofs.EntriesLemmas.{in_map, internal_is_total}
use Rattle.leveldb_base.specs.Cmp.{IsExactOrder, IsPreorderOn, internal_accepts}
use Rattle.leveldb_base.specs.CmpLaws.{internal_accepts-internal_key}
use Rattle.leveldb_base.specs.Entries.{internal_pair, type_of}
use Rattle.leveldb_base.specs.History.{Entry}
use Rattle.leveldb_base.specs.KeyTypes.{internal_cmp}
use Rattle.leveldb_base.specs.Types.{Pair}
use Rattle.leveldb_base.specs.declared.cmp.Cmp.{Ghosts as CmpGhosts}
use Rattle.leveldb_base.specs.declared.cmp.internal.InternalKeyCmp.{InternalKeyCmp}
use Rattle.leveldb_base.specs.declared.types.LdbIterator.{Ghosts as IteratorGhosts}
use Rattle.leveldb_env.specs.Compressor.{Codings}
use Rattle.leveldb_env.specs.declared.env.Env.{Ghosts as EnvGhosts}
use Rattle.leveldb_iter.proofs.MergedLemmas.{each_has_merge}
use Rattle.leveldb_iter.specs.Merge.{HaveOnePairAKey, IsMerge}
use Rattle.leveldb_iter.specs.MergedEntries.{internal_order}
use Rattle.leveldb_iter.specs.MergingIter.{AreMerged, IsMergeAt}
use Rattle.leveldb_iter.specs.InMemory.{IsAloneOver}
use Rattle.leveldb_iter.specs.Walk.{IsSortedIn, KeyOrder, key_order}
use Rattle.leveldb_iter.specs.declared.merging_iter.MergeCore.{MergeCore}
use Rattle.leveldb_iter.specs.declared.in_memory.InMemory.{InMemory}
use Rattle.leveldb_iter.specs.declared.walk.Walk.{Ghosts as WalkGhosts}
use Rattle.leveldb_mem.specs.MemTable.{MemTableState}
use Rattle.leveldb_version.proofs.Versions.PairwiseLemmas.{as_long, each_of_map, each_second}
use Rattle.leveldb_version.proofs.Versions.SearchLemmas.{all_from_contains}
use Rattle.leveldb_files.specs.Stores.Batches.{Each}
use Rattle.leveldb_store.proofs.Compactions.BearingLemmas.{IsMergeOf}
use Rattle.leveldb_store.specs.Reading.View.{IsOverMemory, any_in_order}
use Rattle.leveldb_repair.proofs.FoundWalkBearingLemmas.{IsFoundChild}
use Rattle.leveldb_repair.proofs.RepairMergeLemmas.{memory_lists}
use Rattle.leveldb_repair.specs.FoundWalk.{IsWalkOver}
use Rattle.leveldb_repair.specs.FoundWalkLaws.{found_laws}
use Rattle.leveldb_repair.specs.FoundWalkTable.{IsFoundOver}
use Rattle.leveldb_repair.specs.LookOver.{AreLookedOver, LooksOver}
use Rattle.leveldb_repair.specs.FoundWalkOf.{FoundWalk}
use Rattle.leveldb_repair.specs.declared.found_walk.FoundWalk.TheVariants.{Memory, Table}
use Rattle.leveldb_repair.specs.declared.found_walk.files.ReadFiles.{ReadFiles}
use Rattle.leveldb_repair.specs.declared.found_walk.table.FoundTable.{FoundTable}
use Rattle.leveldb_repair.specs.declared.look_over.LookedOver.{LookedOver}

-- ---- two lists side by side

module _ {A B : Type 0} (R : A → B → Type 0) where
  each_append : (xs more : List A) (ys others : List B) → Each R xs ys → Each R more others
      → Each R (xs ++ more) (ys ++ others)
  each_append [] more [] others first second = second
  each_append [] more (y ∷ ys) others first second = absurd first
  each_append (x ∷ xs) more [] others first second = absurd first
  each_append (x ∷ xs) more (y ∷ ys) others first second =
      (first.0, each_append xs more ys others first.1 second)

  each_at : (xs : List A) (ys : List B) (k : ℕ) (x : A) (otherwise : B) → Each R xs ys
      → slice_get xs k ≡ Some x → R x (slice_index_or ys k otherwise)
  each_at [] ys k x otherwise each at = absurd cc
  each_at (a ∷ xs) [] k x otherwise each at = absurd each
  each_at (a ∷ xs) (b ∷ ys) zero x otherwise each at =
      let is : a ≡ x = cc in subst (λ one. R one b) is each.0
  each_at (a ∷ xs) (b ∷ ys) (suc k) x otherwise each at = each_at xs ys k x otherwise each.1 at

-- ---- the order of internal keys

-- an order of users' keys that accepts each makes one of internal keys that accepts each that has a
-- tag
pub found_keys : {C : Type 0} (cmp : CmpGhosts C)
    → ((c : C) (key : List ℕ) → cmp.accepts c key ≡ true) → (c : C)
    → (let own : KeyOrder = record {
      accepts = internal_accepts (cmp.accepts c);
      cmp = internal_cmp (cmp.cmp c);
    } in own ≡ internal_order (any_in_order (cmp.cmp c)))
found_keys cmp all c = ap (λ (accepts : List ℕ → Bool).
    record { accepts = internal_accepts accepts; cmp = internal_cmp (cmp.cmp c) })
    (λ i key. all c key i)

module _ {E C K M F : Type 0} (order : CmpGhosts (InternalKeyCmp C)) (env : EnvGhosts E F)
    (codings : K → Codings) (iterator : IteratorGhosts M) (cmp : CmpGhosts C)
    (keys_are : (c : C)
    → key_order order (record { 0 = c }) ≡ internal_order (any_in_order (cmp.cmp c)))
    (compares : C) (exact : IsExactOrder (cmp.cmp compares)) where
  abbrev pub keys : KeyOrder
  keys = key_order order (record { 0 = compares })

  abbrev those : KeyOrder
  those = internal_order (any_in_order (cmp.cmp compares))

  pub keys_total : IsTotalOrder keys.cmp
  keys_total = subst (λ (o : KeyOrder). IsTotalOrder o.cmp) (sym (keys_are compares))
      (internal_is_total (cmp.cmp compares) exact)

  pub keys_preorder : IsPreorderOn keys.accepts keys.cmp
  keys_preorder = record {
    turned = λ a b p q. keys_total.antisymm a b;
    less = λ a b c p q r. keys_total.trans a b c;
    alike = λ a b c p q r. keys_total.congr a b c;
  }

  -- ---- the lists of children

  module _ (world : E × ReadFiles K) where
    -- a child is over this list
    abbrev pub Over : FoundWalk E C M F → List Pair → Type 0
    Over it pairs = IsWalkOver order env codings iterator world it keys pairs

    -- walks over memtables are over their entries
    pub memory_over : (memory : List (InMemory M)) (tables : List (MemTableState C))
        → Each (λ it (table : MemTableState C).
        IsOverMemory iterator (cmp.cmp compares) it table.kept.entries) memory tables
        → Each (λ it pairs. IsAloneOver iterator world it keys pairs) memory (memory_lists tables)
    memory_over [] [] each = tt
    memory_over [] (table ∷ tables) each = absurd each
    memory_over (it ∷ memory) [] each = absurd each
    memory_over (it ∷ memory) (table ∷ tables) each =
        let is = each.0 in
        let entries = table.kept.entries in (
          subst (λ o. IsAloneOver iterator world it o (map internal_pair entries))
              (sym (keys_are compares)) (record {
                order_is = sym is.order_is;
                pairs_are = sym is.pairs_are;
                sorted = record { rising = is.sorted; accepted = accepted entries };
              }),
          memory_over memory tables each.1,
        )
      where
        accepted : (entries : List Entry)
            → All (λ pair. those.accepts pair.0 ≡ true) (map internal_pair entries)
        accepted entries = all_from_contains (λ pair. those.accepts pair.0 ≡ true)
            (map internal_pair entries) (λ pair c.
            let from = in_map internal_pair entries pair c in
            subst (λ (p : Pair). those.accepts p.0 ≡ true) from.2
            (internal_accepts-internal_key (λ key. true) from.0.key from.0.sequence
            (type_of from.0.value) refl))

    -- the children are over the lists of tables and of memtables
    pub children_over : (tables : List (FoundTable E C F)) (lists : List (List Pair))
        (memory : List (InMemory M)) (logs : List (MemTableState C))
        → Each (λ it pairs. IsFoundOver order env codings world it keys pairs) tables lists
        → Each (λ it (table : MemTableState C).
        IsOverMemory iterator (cmp.cmp compares) it table.kept.entries) memory logs
        → Each Over (map Table tables ++ map Memory memory) (lists ++ memory_lists logs)
    children_over tables lists memory logs over_tables over_memory =
        each_append Over (map Table tables) (map Memory memory) lists (memory_lists logs)
        (each_of_map Over Table tables lists over_tables)
        (each_of_map Over Memory memory (memory_lists logs)
        (memory_over memory logs over_memory))

    module _ (children : List (FoundWalk E C M F)) (lists : List (List Pair))
        (over : Each Over children lists) where
      sorted_one : (it : FoundWalk E C M F) (pairs : List Pair) → Over it pairs
          → IsSortedIn keys pairs
      sorted_one (Memory it) pairs is = is.sorted
      sorted_one (Table it) pairs is =
          (found_laws {order = order} {env = env} {codings = codings}).sorted world it keys pairs is

      -- which are sorted
      pub lists_sorted : All (IsSortedIn keys) lists
      lists_sorted = all_from_contains (IsSortedIn keys) lists (λ pairs there.
          let it = each_second Over children lists pairs over there in
          sorted_one it.0 pairs it.2)

      -- and so have a merge
      pub children_have_merge : (pairs : List Pair) × IsMerge keys lists pairs
      children_have_merge = each_has_merge keys keys_total lists lists_sorted

      -- the merge of the children is over each merge of the lists
      pub children_merged : {child : WalkGhosts (FoundWalk E C M F) E (ReadFiles K)}
          → IsFoundChild order env codings iterator child → (pairs : List Pair)
          → IsMerge keys lists pairs
          → AreMerged child order world (record { 0 = compares }) children keys lists pairs
      children_merged is pairs merge = record {
        counted = as_long Over children lists over;
        over = λ k it at. (is.over_is world it keys (slice_index_or lists k [])).1
            (each_at Over children lists k it [] over at);
        merge = merge;
        ordered = refl;
      }

  -- ---- a look over the merge

  module _ {child : WalkGhosts (FoundWalk E C M F) E (ReadFiles K)}
      (is : IsFoundChild order env codings iterator child)
      {merge : WalkGhosts (MergeCore (InternalKeyCmp C) (FoundWalk E C M F)) E (ReadFiles K)}
      (merges : IsMergeOf child order merge) (children : List (FoundWalk E C M F))
      (it : MergeCore (InternalKeyCmp C) (FoundWalk E C M F))
      (made : (world : E × ReadFiles K) (by : KeyOrder) (lists : List (List Pair))
      (pairs : List Pair)
      → AreMerged child order world (record { 0 = compares }) children by lists pairs
      → IsMergeAt child order world it by pairs None)
      (world : E × ReadFiles K) (lists : List (List Pair))
      (over : Each (Over world) children lists) where
    -- the new merge is over each merge of the lists
    pub merge_over : (pairs : List Pair) → IsMerge keys lists pairs
        → merge.over world it keys pairs
    merge_over pairs merged = (merges.over_is world it keys pairs).1 (
      None,
      made world keys lists pairs
          (children_merged world children lists over is pairs merged),
    )

    -- What a look over the merge comes to that ends: the lists have one pair of each key, and the
    -- walk is over their merge, which was looked over.
    pub record AreLooked (found : LookedOver) (end : E × ReadFiles K)
        (now : MergeCore (InternalKeyCmp C) (FoundWalk E C M F)) : Type 0 where
      pub pairs : List Pair
      pub merged : IsMerge keys lists pairs
      pub one : HaveOnePairAKey keys lists
      pub looked : AreLookedOver pairs found
      pub over_then : merge.over end now keys pairs

    pub look_reads : {found : LookedOver} {end : E × ReadFiles K}
        {now : MergeCore (InternalKeyCmp C) (FoundWalk E C M F)}
        → LooksOver merge world it (Ok found) end now → AreLooked found end now
    look_reads {found} looks =
        let has = children_have_merge world children lists over in
        let was = merge_over has.0 has.1 in
        let ok = looks.ok in
        record {
          pairs = has.0;
          merged = has.1;
          one = looks.one keys lists has.0 keys_preorder has.1 merge_over;
          looked = subst (λ ps. AreLookedOver ps found) (sym (ok.2 keys has.0 was)) ok.1;
          over_then = looks.same keys has.0 was;
        }
