-- Histories that contents match: where no store is, with an empty batch more or less, and a set of
-- entries as one batch.
use Rattle.leveldb_base.proofs.HistoryLemmas.{in_none}
use Rattle.leveldb_base.specs.History.{AreUpTo, Entry, History, SameView, entries_of, greatest}
use Rattle.leveldb_files.proofs.Histories.NumbersLemmas.{entries_more, up_to_greatest}
use Rattle.leveldb_files.proofs.Histories.ViewsLemmas.{same_sets}
use Rattle.leveldb_files.specs.Stores.Contents.{Contents, Store, missing, no_contents}
use Rattle.leveldb_files.specs.Histories.Holds.{MatchesHistory}
use Rattle.leveldb_files.specs.Stores.Store.{SameEntries}
use Rattle.std.proofs.Common.{◌++◌, ◌∙◌, ◌∷◌, ◌≡◌, ◌≤◌, List, [], append-nil, arith, subst, sym, ℕ}

-- the last number of the contents may be greater, as where an edit's is above the batches that a
-- crash left
pub matches_above :
    (allowed : Store → Type 0) (bound last : ℕ) (contents : Contents) (history : History)
    → contents.last ≤ last → last ≤ bound → MatchesHistory allowed bound contents history
    → MatchesHistory allowed bound (record contents { last = last }) history
matches_above allowed bound last contents history more most t =
    record {
      same = t.same;
      up_to = t.up_to;
      reached = omega (arith, t.reached, more);
      bounded = most;
      store = t.store;
    }

-- histories with the same entries match alike
matches_as : (allowed : Store → Type 0) (bound : ℕ) (contents : Contents) (history other : History)
    → entries_of history ≡ entries_of other → MatchesHistory allowed bound contents history
    → MatchesHistory allowed bound contents other
matches_as allowed bound contents history other same t = record {
  same = subst (λ es. (t : ℕ) → greatest es ≤ t → SameView contents.entries es t) same t.same;
  up_to = subst (λ es. AreUpTo (greatest es) contents.entries) same t.up_to;
  reached = subst (λ es. greatest es ≤ contents.last) same t.reached;
  bounded = t.bounded;
  store = t.store;
}

-- so an empty batch makes no difference
pub matches_with_empty :
    (allowed : Store → Type 0) (bound : ℕ) (contents : Contents) (history : History)
    → MatchesHistory allowed bound contents history
    → MatchesHistory allowed bound contents (history ++ [] ∷ [])
matches_with_empty allowed bound contents history =
    matches_as allowed bound contents history (history ++ [] ∷ [])
    (sym (entries_more history [] ∙ append-nil (entries_of history)))

pub matches_without_empty :
    (allowed : Store → Type 0) (bound : ℕ) (contents : Contents) (history : History)
    → MatchesHistory allowed bound contents (history ++ [] ∷ [])
    → MatchesHistory allowed bound contents history
matches_without_empty allowed bound contents history =
    matches_as allowed bound contents (history ++ [] ∷ []) history
    (entries_more history [] ∙ append-nil (entries_of history))

-- where no store is
pub matches_nothing : (allowed : Store → Type 0) → allowed missing → (bound : ℕ)
    → MatchesHistory allowed bound no_contents []
matches_nothing allowed may bound = record {
  same = λ t late key value. (λ s. s, λ s. s);
  up_to = λ entry c. absurd (in_none entry c);
  reached = omega arith;
  bounded = omega arith;
  store = may;
}

-- A set of entries matches the history of that set alone, whatever numbers its entries have.
pub matches_set : (allowed : Store → Type 0) (bound : ℕ) (contents : Contents) (found : List Entry)
    → SameEntries contents.entries found → greatest found ≤ contents.last → contents.last ≤ bound
    → allowed contents.store
    → MatchesHistory allowed bound contents (found ∷ [])
matches_set allowed bound contents found same reached bounded store = record {
  same = λ t late. same_sets contents.entries (found ++ []) all t;
  up_to = λ entry c. up_to_greatest (found ++ []) entry ((all entry).0 c);
  reached = subst (λ es. greatest es ≤ contents.last) (sym (append-nil found)) reached;
  bounded = bounded;
  store = store;
}
  where
    all : SameEntries contents.entries (found ++ [])
    all = subst (SameEntries contents.entries) (sym (append-nil found)) same
