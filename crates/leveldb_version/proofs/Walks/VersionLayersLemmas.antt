-- A version's walks are over layers of entries, the newer first.
use Rattle.std.specs.Prelude.{Contains, slice_get}
use Rattle.std.proofs.Common.{◌≡◌, inl, inr, ℕ, zero, suc, ◌<◌, ◌^◌, List, [], ◌∷◌, None, Some, map, refl, sym, ◌∙◌, ap, subst, arith}
use Rattle.std.proofs.lemmas.List.Elements.{All-contains}
use Rattle.leveldb_base.proofs.EntriesLemmas.{in_map, map_in}
use Rattle.leveldb_base.proofs.HistoryLemmas.{in_front, in_rest}
use Rattle.leveldb_base.specs.Cmp.{IsExactOrder}
use Rattle.leveldb_base.specs.Entries.{entries_of_pairs}
use Rattle.leveldb_base.specs.History.{Entry, entries_of}
use Rattle.leveldb_base.specs.Layers.{IsOlder}
use Rattle.leveldb_base.specs.Types.{Pair}
use Rattle.leveldb_base.specs.declared.cmp.Cmp.{Ghosts as CmpGhosts}
use Rattle.leveldb_base.specs.declared.cmp.internal.InternalKeyCmp.{InternalKeyCmp}
use Rattle.leveldb_base.specs.declared.types.FileMetaData.{FileMetaData}
use Rattle.leveldb_env.specs.Compressor.{Codings}
use Rattle.leveldb_env.specs.declared.env.Env.{Ghosts as EnvGhosts}
use Rattle.leveldb_env.specs.declared.filter.FilterPolicy.{Ghosts as FilterGhosts}
use Rattle.leveldb_version.proofs.Tables.NewestTablesLemmas.{file_of}
use Rattle.leveldb_files.proofs.Stores.OneStoreLemmas.{flat_in, in_flat}
use Rattle.leveldb_version.proofs.Versions.PairwiseLemmas.{all_pairs, as_long, choose, each_first, each_second, pairwise_each, pairwise_map}
use Rattle.leveldb_version.proofs.Walks.WalkFilesLemmas.{AreWalkedBefore, IsWalkedBefore, walk_of, walks_layered}
use Rattle.leveldb_version.proofs.Walks.WalkOrderLemmas.{numbers_rise}
use Rattle.leveldb_version.proofs.Walks.WalkTablesLemmas.{HasPairs, entry_from, entry_to, in_order, pairs_internal, walk_over, walk_pairs}
use Rattle.leveldb_files.specs.Stores.Batches.{Each}
use Rattle.leveldb_files.specs.Stores.Format.{Meaning}
use Rattle.leveldb_files.specs.Levels.Levels.{LiveTable, table_entries}
use Rattle.leveldb_version.specs.Tables.TableCache.{files_at, store_of}
use Rattle.leveldb_version.specs.Versions.Version.{VersionValue, new_files_of}
use Rattle.leveldb_files.specs.Edits.Edit.{NewFile}
use Rattle.leveldb_version.specs.Edits.VersionEdit.{new_file_of}
use Rattle.leveldb_version.specs.Walks.VersionIters.{AreOverLayers, AreTablesToWalk, AreVersionIters, OrdersInternalKeys, VersionItersAreLayers, files_of_walks}
use Rattle.leveldb_version.specs.declared.table_cache.moves.ReadTables.{ReadTables}
use Rattle.leveldb_version.specs.declared.version_iter.VersionIter.{VersionIter}

each_from_map : {A B D : Type 0} (R : D → B → Type 0) (f : A → D) (xs : List A) (ys : List B) → Each R (map f xs) ys → Each (λ x y. R (f x) y) xs ys
each_from_map R f [] [] e = tt
each_from_map R f [] (b ∷ ys) e = absurd e
each_from_map R f (a ∷ xs) [] e = absurd e
each_from_map R f (a ∷ xs) (b ∷ ys) e = (e.0, each_from_map R f xs ys e.1)

never_some : {A T : Type 0} {x : A} → None ≡ Some x → T
never_some e = cc

same_some : {A : Type 0} {x y : A} → Some x ≡ Some y → x ≡ y
same_some e = cc

-- elements at one place of two lists
each_here : {A B : Type 0} (R : A → B → Type 0) (xs : List A) (ys : List B) (k : ℕ) (x : A) (y : B) → Each R xs ys → slice_get xs k ≡ Some x → slice_get ys k ≡ Some y → Contains xs x × R x y
each_here R [] ys k x y e p q = never_some p
each_here R (a ∷ xs) [] k x y e p q = never_some q
each_here {A} {B} R (a ∷ xs) (b ∷ ys) zero x y e p q = (subst (Contains (a ∷ xs)) (same_some p) (in_front a xs), subst (R x) (same_some q) (subst (λ z. R z b) (same_some p) e.0))
each_here R (a ∷ xs) (b ∷ ys) (suc k) x y e p q = let rest = each_here R xs ys k x y e.1 p q in (in_rest a x xs rest.0, rest.1)

module _ {E C FP K F : Type 0} {order : CmpGhosts (InternalKeyCmp C)} (env : EnvGhosts E F) (cmp : CmpGhosts C) (filters : FilterGhosts FP) (codings : K → Codings)
    (version : VersionValue C) (world : E × ReadTables E C FP K F) (exact : IsExactOrder (cmp.cmp world.1.cmp)) (orders : OrdersInternalKeys order (cmp.cmp world.1.cmp) world.1.cmp)
    (meaning : Meaning) (tables : List LiveTable) (are : AreTablesToWalk order env cmp filters codings version meaning world tables) where
  abbrev parts : List (List (ℕ × FileMetaData))
  parts = files_of_walks version.files

  abbrev Has : List (ℕ × FileMetaData) → List Pair → Type 0
  Has = HasPairs env cmp filters codings version world exact orders meaning tables are

  from : (part : List (ℕ × FileMetaData)) (pairs : List Pair) → Has part pairs → (entry : Entry) → Contains (entries_of_pairs pairs) entry
      → (file : ℕ × FileMetaData) × (live : LiveTable) × Contains part file × Contains tables live × (live.file ≡ new_file_of file) × Contains live.entries entry
  from part pairs has entry c = entry_from env cmp filters codings version world exact orders meaning tables are part pairs has entry c

  -- of one key an earlier walk has the newer entries
  older : (a x : List (ℕ × FileMetaData)) (b y : List Pair) → Has a b → Has x y → AreWalkedBefore a x → IsOlder (entries_of_pairs y) (entries_of_pairs b)
  older a x b y has_b has_y before p q in_p in_q same =
      let p_from = from x y has_y p in_p in
      let q_from = from a b has_b q in_q in
      by p_from.1 q_from.1 (new_file_of p_from.0) (new_file_of q_from.0) p_from.3 q_from.3 p_from.4 q_from.4 p_from.5 q_from.5 (before q_from.0 p_from.0 q_from.2 p_from.2)
    where
      by : (old new : LiveTable) (old_file new_file : NewFile) → Contains tables old → Contains tables new → old.file ≡ old_file → new.file ≡ new_file → Contains old.entries p → Contains new.entries q
          → IsWalkedBefore new_file old_file → p.sequence < q.sequence
      by old new old_file new_file c d is_old is_new e f (inl above) =
          let level_old = ap (λ (file : NewFile). file.level) is_old in
          let level_new = ap (λ (file : NewFile). file.level) is_new in
          are.levels.deeper new old d c (omega (arith, level_old, level_new, above)) p q e f same
      by old new old_file new_file c d is_old is_new e f (inr (zero_new, zero_old, less)) =
          let number_old = ap (λ (file : NewFile). file.number) is_old in
          let number_new = ap (λ (file : NewFile). file.number) is_new in
          are.levels.newer old new c d (ap (λ (file : NewFile). file.level) is_old ∙ zero_old) (ap (λ (file : NewFile). file.level) is_new ∙ zero_new) (omega (arith, number_old, number_new, less)) p q e f same

  module _ (lists : List (List Pair)) (each : Each Has parts lists) where
    entries_to : (entry : Entry) → Contains (entries_of (map entries_of_pairs lists)) entry → Contains (table_entries tables) entry
    entries_to entry c =
        let layer = in_flat (λ (batch : List Entry). batch) (map entries_of_pairs lists) entry c in
        let list = in_map entries_of_pairs lists layer.0 layer.1 in
        let part = each_second Has parts lists list.0 each list.1 in
        let it = from part.0 list.0 part.2 entry (subst (λ es. Contains es entry) (sym list.2) layer.2) in
        flat_in (λ (t : LiveTable). t.entries) tables it.1 entry it.3 it.5

    entries_back : (entry : Entry) → Contains (table_entries tables) entry → Contains (entries_of (map entries_of_pairs lists)) entry
    entries_back entry c =
        let table = in_flat (λ (t : LiveTable). t.entries) tables entry c in
        let fits = All-contains (λ (t : LiveTable). (t.file.level < 7) × (t.file.number < 2 ^ 64) × (t.file.size < 2 ^ 64) × (t.file.number < world.1.below)) tables table.0 are.fit table.1 in
        let file = in_map new_file_of version.files table.0.file
        (file_of exact meaning (store_of world.1.cache.now) (files_at env world.0) tables are.each (new_files_of version) are.files_are table.0 table.1) in
        let part = walk_of version.files file.0 file.1 (subst (λ (f : NewFile). f.level < 7) (sym file.2) fits.0) in
        let list = each_first Has parts lists part.0 each part.1 in
        flat_in (λ (batch : List Entry). batch) (map entries_of_pairs lists) (entries_of_pairs list.0) entry (map_in entries_of_pairs lists list.0 list.1)
        (entry_to env cmp filters codings version world exact orders meaning tables are part.0 list.0 list.2 file.0 part.2 table.0 table.1 (sym file.2) entry table.2)

    module _ (iters : List (VersionIter C)) (walks : AreVersionIters version iters) where
      each_iter : Each (λ (it : VersionIter C) pairs. Has it.files.now pairs) iters lists
      each_iter = each_from_map Has (λ (it : VersionIter C). it.files.now) iters lists (subst (λ ps. Each Has ps lists) (sym walks.files) each)

      pub are_layers : AreOverLayers order env cmp filters codings world iters tables
      are_layers = record {
        lists = lists;
        counted = as_long (λ (it : VersionIter C) pairs. Has it.files.now pairs) iters lists each_iter;
        over = λ k it pairs at_it at_pairs.
            let here = each_here (λ (one : VersionIter C) ps. Has one.files.now ps) iters lists k it pairs each_iter at_it at_pairs in
            walk_over env cmp filters codings version world exact orders meaning tables are it.files.now pairs here.1 it refl
            (All-contains (λ (one : VersionIter C). one.core ≡ None) iters it walks.not_begun here.0);
        layered = all_pairs (λ newer old. IsOlder old newer) (map entries_of_pairs lists)
            (pairwise_map (λ newer old. IsOlder old newer) entries_of_pairs lists
            (pairwise_each Has AreWalkedBefore (λ b y. IsOlder (entries_of_pairs y) (entries_of_pairs b)) parts lists each
            (walks_layered version.files (numbers_rise exact meaning (store_of world.1.cache.now) (files_at env world.0) tables are.each (new_files_of version) are.files_are are.once
            (in_order env cmp filters codings version world exact orders meaning tables are))) older));
        internal = λ pairs c. let part = each_second Has parts lists pairs each c in
            pairs_internal env cmp filters codings version world exact orders meaning tables are part.0 pairs part.2;
        exactly = λ entry. (entries_to entry, entries_back entry);
      }

-- The law of a version's walks.
pub version_iters_are_layers : {E C FP K F : Type 0} (order : CmpGhosts (InternalKeyCmp C)) (env : EnvGhosts E F) (cmp : CmpGhosts C) (filters : FilterGhosts FP) (codings : K → Codings)
    → VersionItersAreLayers order env cmp filters codings
version_iters_are_layers order env cmp filters codings version iters walks world exact orders meaning tables are =
    let lists = choose (HasPairs env cmp filters codings version world exact orders meaning tables are) (files_of_walks version.files) (walk_pairs env cmp filters codings version world exact orders meaning tables are) in
    are_layers env cmp filters codings version world exact orders meaning tables are lists.0 lists.1 iters walks
