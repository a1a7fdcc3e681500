-- A scan of an iterator gives its pairs.
use Rattle.std.specs.Prelude.{length, slice_get, ◌+◌}
use Rattle.std.proofs.Common.{◌≡◌, ◌∙◌, ℕ, suc, List, [], ◌∷◌, ◌++◌, refl, sym, ap, subst, arith, append_assoc, Option, Some}
use Rattle.leveldb_base.specs.Types.{Pair, pair_at}
use Rattle.leveldb_base.specs.declared.cmp.Cmp.{Ghosts as CmpGhosts}
use Rattle.leveldb_env.specs.Compressor.{Codings}
use Rattle.leveldb_env.specs.declared.env.Env.{Ghosts}
use Rattle.leveldb_env.specs.declared.filter.FilterPolicy.{Ghosts as FilterGhosts}
use Rattle.leveldb_iter.proofs.DbIterLemmas.{at_front}
use Rattle.leveldb_iter.specs.declared.walk.Walk.{Ghosts as WalkGhosts}
use Rattle.leveldb_version.specs.declared.table_cache.moves.ReadTables.{ReadTables}
use Rattle.rusty_leveldb.specs.Engines.Boxes.{InternalOrder}
use Rattle.rusty_leveldb.specs.Walks.Iterator.{IteratesAt, ScanGivesPairs, Scans, ShownStore}
use Rattle.rusty_leveldb.specs.declared.db_iter.StoreIterator.{StoreIterator}
use Rattle.rusty_leveldb.proofs.Machines.WalkLawsLemmas.{after_pairs, length_seam, next_after, one_some, some_is_not_none, within_in, within_past}

module _ {E F C FP K V : Type 0} (keys : InternalOrder C) (env : Ghosts E F) (cmp : CmpGhosts C) (filters : FilterGhosts FP) (codings : K → Codings)
    (walk : WalkGhosts V E (ReadTables E C FP K F)) where
  module _ (shown : ShownStore C) (pairs : List Pair) where
    abbrev At : Option ℕ → StoreIterator E C FP K V F → Type 0
    At = IteratesAt keys env cmp filters codings walk shown pairs

    -- after the pairs that are gone, the scan is at those that are left
    scan : (gone left found : List Pair) (it end : StoreIterator E C FP K V F) → pairs ≡ gone ++ left
        → At (after_pairs (length gone)) it → Scans keys env cmp filters codings walk it found end → found ≡ left
    unfolding after_pairs
    scan gone [] [] it end parted at scans = refl
    scan gone [] (pair ∷ found) it end parted at scans =
        let size : length pairs ≡ length gone + 0 = ap length parted ∙ length_seam gone [] in
        let there = scans.1.moves shown pairs (after_pairs (length gone)) at in
        let past = next_after pairs (length gone) ∙ within_past pairs (length gone) (omega (arith, size)) in
        absurd (some_is_not_none (sym scans.2 ∙ there.pair_is ∙ ap (pair_at pairs) past))
    scan gone (x ∷ left) [] it end parted at scans =
        let size : length pairs ≡ length gone + suc (length left) = ap length parted ∙ length_seam gone (x ∷ left) in
        let there = scans.0.moves shown pairs (after_pairs (length gone)) at in
        let next = next_after pairs (length gone) ∙ within_in pairs (length gone) (omega (arith, size)) in
        let here : pair_at pairs (Some (length gone)) ≡ Some x = ap (λ list. slice_get list (length gone)) parted ∙ at_front gone (x ∷ left) in
        absurd (some_is_not_none (sym here ∙ sym (ap (pair_at pairs) next) ∙ sym there.pair_is ∙ scans.1))
    scan gone (x ∷ left) (pair ∷ found) it end parted at scans =
        let size : length pairs ≡ length gone + suc (length left) = ap length parted ∙ length_seam gone (x ∷ left) in
        let there = scans.1.moves shown pairs (after_pairs (length gone)) at in
        let next = next_after pairs (length gone) ∙ within_in pairs (length gone) (omega (arith, size)) in
        let here : pair_at pairs (Some (length gone)) ≡ Some x = ap (λ list. slice_get list (length gone)) parted ∙ at_front gone (x ∷ left) in
        let same : pair ≡ x = one_some (sym scans.2 ∙ there.pair_is ∙ ap (pair_at pairs) next ∙ here) in
        let longer : suc (length gone) ≡ length (gone ++ x ∷ []) = omega (arith, length_seam gone (x ∷ [])) in
        let on = subst (λ position. At position scans.0) (next ∙ ap after_pairs longer) there in
        let rest = scan (gone ++ x ∷ []) left found scans.0 end (parted ∙ sym (append_assoc gone (x ∷ []) left)) on scans.3 in
        ap (λ (p : Pair). p ∷ found) same ∙ ap (λ l. x ∷ l) rest

  pub scan_gives_pairs : ScanGivesPairs keys env cmp filters codings walk
  unfolding after_pairs
  scan_gives_pairs shown pairs found it end at scans = scan shown pairs [] pairs found it end refl at scans
