-- Contents that match a history: it is enough that the two show the same from the contents' last
-- number on, where none of the contents' entries is past the history's end.
use Rattle.leveldb_base.specs.History.{AreUpTo, Entry, HasValueAt, History, SameView, entries_of, greatest}
use Rattle.leveldb_files.proofs.Histories.NumbersLemmas.{up_to_greatest}
use Rattle.leveldb_files.proofs.Histories.ViewsLemmas.{view_trans}
use Rattle.leveldb_files.specs.Stores.Contents.{Contents, Store}
use Rattle.leveldb_files.specs.Histories.Holds.{MatchesHistory}
use Rattle.leveldb_files.specs.Steps.StoreSteps.{Refines}
use Rattle.std.proofs.Common.{◌≤◌, List, arith, subst, sym, ℕ}
use Rattle.std.specs.Prelude.{Contains}

-- entries up to a number show the same from there on
value_at : (entries : List Entry) (n s t : ℕ) → AreUpTo n entries → n ≤ t → (key value : List ℕ)
    → HasValueAt entries s key value → n ≤ s → HasValueAt entries t key value
value_at entries n s t up late key value shows from = record {
  entry = shows.entry;
  newest = record {
    there = shows.newest.there;
    seen = omega (arith, up shows.entry shows.newest.there, late);
    newest =
        λ other c same seen. shows.newest.newest other c same (omega (arith, up other c, from));
  };
  key_is = shows.key_is;
  value_is = shows.value_is;
}

-- so two sets that show the same at one number do so at all others past both ends
pub same_at : (these those : List Entry) (n s t : ℕ) → AreUpTo n these → AreUpTo n those → n ≤ s
    → n ≤ t → SameView these those s → SameView these those t
same_at these those n s t up_these up_those from late same key value = (
  λ shows.
      value_at those n s t up_those late key value
      ((same key value).0 (value_at these n t s up_these from key value shows late)) from,
  λ shows.
      value_at these n s t up_these late key value
      ((same key value).1 (value_at those n t s up_those from key value shows late)) from,
)

-- Of entries that show what a history shows, from its end on, some may be dropped if what is shown
-- at one number past the end stays: so a compaction keeps what memory matches.
pub same_with_fewer : (old new those : List Entry) (n s : ℕ) → AreUpTo n old → AreUpTo n those
    → ((entry : Entry) → Contains new entry → Contains old entry) → n ≤ s → SameView new old s
    → ((t : ℕ) → n ≤ t → SameView old those t) → (t : ℕ) → n ≤ t → SameView new those t
same_with_fewer old new those n s up_old up_those fewer from kept same t late =
    view_trans new old those t
    (same_at new old n s t (λ entry c. up_old entry (fewer entry c)) up_old from late kept)
    (same t late)

-- between the history's end and the contents' last number there is no entry on either side
pub same_from_end : (contents : Contents) (history : History)
    → ((t : ℕ) → contents.last ≤ t → SameView contents.entries (entries_of history) t)
    → AreUpTo (greatest (entries_of history)) contents.entries
    → greatest (entries_of history) ≤ contents.last
    → (t : ℕ) → greatest (entries_of history) ≤ t → SameView contents.entries (entries_of history) t
same_from_end contents history same up reached t late =
    same_at contents.entries (entries_of history) (greatest (entries_of history)) contents.last t up
    (up_to_greatest (entries_of history)) reached late
    (same contents.last (omega arith))

pub matches_from_last :
    (allowed : Store → Type 0) (bound : ℕ) (contents : Contents) (history : History)
    → ((t : ℕ) → contents.last ≤ t → SameView contents.entries (entries_of history) t)
    → AreUpTo (greatest (entries_of history)) contents.entries
    → greatest (entries_of history) ≤ contents.last → contents.last ≤ bound
    → allowed contents.store → MatchesHistory allowed bound contents history
matches_from_last allowed bound contents history same up reached bounded store = record {
  same = same_from_end contents history same up reached;
  up_to = up;
  reached = reached;
  bounded = bounded;
  store = store;
}

-- contents that refine others match what these match
pub matches_refined :
    (allowed : Store → Type 0) (bound : ℕ) (old new : Contents) (history : History)
    → Refines bound old new → MatchesHistory allowed bound old history
    → MatchesHistory allowed bound new history
matches_refined allowed bound old new history r t = matches_from_last allowed bound new history
    (λ at most.
    view_trans new.entries old.entries (entries_of history) at (r.same at most)
    (t.same at (omega (arith, t.reached, r.later, most))))
    (λ entry c. t.up_to entry (r.none_new entry c)) (omega (arith, t.reached, r.later)) r.bounded
    (subst (allowed) (sym r.store) t.store)
