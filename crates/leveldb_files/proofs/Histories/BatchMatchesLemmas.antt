-- A history and contents that match it, with one batch more on both sides.
use Rattle.leveldb_base.proofs.HistoryLemmas.{same_with_more}
use Rattle.leveldb_base.specs.History.{History, Item, SameView, entries_of, greatest, placed}
use Rattle.leveldb_mem.specs.WriteBatch.{BatchOf, batch_bytes, batch_of}
use Rattle.leveldb_files.proofs.Stores.LastLogLemmas.{with_batches}
use Rattle.leveldb_files.proofs.Histories.NumbersLemmas.{entries_more, greatest_append, placed_above, placed_greatest, up_to_greatest}
use Rattle.leveldb_files.specs.Stores.Batches.{all_entries}
use Rattle.leveldb_files.specs.Stores.Contents.{Contents, Store}
use Rattle.leveldb_files.specs.Histories.Holds.{MatchesHistory}
use Rattle.std.proofs.Common.{◌++◌, ◌+◌, ◌∙◌, ◌∷◌, ◌≡◌, List, [], ap, append-nil, arith, length, subst, sym, ℕ, ⊎_elim}
use Rattle.std.proofs.lemmas.List.Elements.{Contains-append_cases}
use Rattle.std.specs.Prelude.{◌≢◌, Contains, max}

-- a batch is encoded by some bytes
pub batch_some : (bytes : List ℕ) (first : ℕ) (items : List Item) → BatchOf bytes first items
    → bytes ≢ []
unfolding batch_bytes
batch_some bytes first items is e =
    let whole : batch_bytes first items ≡ [] = sym is.encoded ∙ e in cc

-- one batch more on both sides
pub matches_batch :
    (allowed : Store → Type 0) (last : ℕ) (contents : Contents) (history : History)
    (items : List Item) → MatchesHistory allowed last contents history
    → MatchesHistory allowed (last + length items)
    (with_batches contents (batch_of (last + 1) items ∷ []))
    (history ++ placed (last + 1) items ∷ [])
matches_batch allowed last contents history items t = record {
  same =
      λ at most.
      both at
      (same_with_more contents.entries (entries_of history) (placed (last + 1) items)
      (greatest (entries_of history)) at t.up_to (up_to_greatest (entries_of history))
      (placed_above (last + 1) items (greatest (entries_of history))
      (omega (arith, t.reached, t.bounded))) (t.same at (omega (arith, most, g1))));
  up_to = λ entry c. ⊎_elim
      (λ (old : Contains contents.entries entry). let low = t.up_to entry old in
      omega (arith, low, g1))
      (λ (new : Contains (all_entries (batch_of (last + 1) items ∷ [])) entry). let low =
      up_to_greatest (all_entries (batch_of (last + 1) items ∷ [])) entry new in
      omega (arith, low, g1, g2))
      (Contains-append_cases contents.entries
      (all_entries (batch_of (last + 1) items ∷ [])) entry c);
  reached = omega (arith, g1, g2, t.reached);
  bounded = omega (arith, g2, t.bounded, placed_greatest last items);
  store = t.store;
}
  where
    both : (at : ℕ)
        → SameView (contents.entries ++ (placed (last + 1) items))
        (entries_of history ++ (placed (last + 1) items)) at
        → SameView (contents.entries ++ all_entries (batch_of (last + 1) items ∷ []))
        (entries_of (history ++ (placed (last + 1) items) ∷ [])) at
    both at s =
        subst
        (λ es. SameView (contents.entries ++ all_entries (batch_of (last + 1) items ∷ [])) es at)
        (sym (entries_more history (placed (last + 1) items)))
        (subst
        (λ es.
        SameView (contents.entries ++ es) (entries_of history ++ (placed (last + 1) items)) at)
        (sym (append-nil (placed (last + 1) items))) s)

    g1 :
        greatest (entries_of (history ++ (placed (last + 1) items) ∷ []))
        ≡ max (greatest (entries_of history)) (greatest (placed (last + 1) items))
    g1 = ap greatest (entries_more history (placed (last + 1) items))
        ∙ greatest_append (entries_of history) (placed (last + 1) items)

    g2 :
        greatest (all_entries (batch_of (last + 1) items ∷ [])) ≡ greatest (placed (last + 1) items)
    g2 = ap greatest (append-nil (placed (last + 1) items))
