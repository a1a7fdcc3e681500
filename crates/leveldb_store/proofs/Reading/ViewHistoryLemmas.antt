-- The view of a store's entries is that of the history that they show, and the errors of a view are
-- counted as those below it.
use Rattle.std.proofs.Common.{◌≡◌, ◌≤◌, ◌⊎◌, ⊎_elim, inl, inr, ℕ, List, subst, arith}
use Rattle.std.specs.Prelude.{◌↔◌, Any, Contains, min}
use Rattle.std.specs.declared.cmp.Ordering.{Ordering}
use Rattle.std.proofs.Math.Nat.{le-min, min-le_left}
use Rattle.leveldb_base.proofs.EntriesLemmas.{in_map}
use Rattle.leveldb_base.proofs.ViewLemmas.{sorted_has_view}
use Rattle.leveldb_base.specs.Cmp.{IsExactOrder}
use Rattle.leveldb_base.specs.Entries.{AreSorted, entries_of_pairs, entry_of_pair}
use Rattle.leveldb_base.specs.Error.{IsOutOfMemory}
use Rattle.leveldb_base.specs.History.{Entry, HasValueAt, History, IsView, SameView, entries_of}
use Rattle.leveldb_base.specs.KeyTypes.{greatest_sequence, sequence_part}
use Rattle.leveldb_base.specs.Types.{Pair}
use Rattle.leveldb_base.specs.View.{view_of}
use Rattle.leveldb_base.specs.declared.error.Status.{Status}
use Rattle.leveldb_base.specs.declared.error.StatusCode.TheVariants.{Corruption}
use Rattle.leveldb_env.specs.declared.env.Env.{Ghosts}
use Rattle.leveldb_iter.specs.DbIter.{FailsView, IsViewOver}
use Rattle.leveldb_iter.specs.Walk.{KeyOrder}
use Rattle.leveldb_iter.specs.declared.db_iter.ViewWalk.{ViewWalk}
use Rattle.leveldb_iter.specs.declared.merging_iter.MergeCore.{MergeCore}
use Rattle.leveldb_iter.specs.declared.walk.Walk.{Ghosts as WalkGhosts}
use Rattle.leveldb_store.specs.Writing.Room.{HasFailed}
use Rattle.leveldb_store.specs.Reading.View.{CountsErrors, FailsBetween}

-- ---- the history

-- Pairs represent the same entries as these, sorted, and these show the history at the number.
module _ (cmp : List ℕ → List ℕ → Ordering) (exact : IsExactOrder cmp) (below : List Pair) (sorted : AreSorted cmp (entries_of_pairs below))
    (all : List Entry) (exactly : (entry : Entry) → Contains (entries_of_pairs below) entry ↔ Contains all entry)
    (history : History) (sequence : ℕ) (same : SameView all (entries_of history) sequence) where
  -- a number of 56 bits
  small : (pair : Pair) → sequence_part pair.0 ≤ greatest_sequence
  small pair = omega arith

  low : (entry : Entry) → Contains (entries_of_pairs below) entry → entry.sequence ≤ greatest_sequence
  low entry there =
      let of = in_map entry_of_pair below entry there in
      subst (λ (e : Entry). e.sequence ≤ greatest_sequence) of.2 (small of.0)

  to_all : (key value : List ℕ) → HasValueAt (entries_of_pairs below) (min sequence greatest_sequence) key value → HasValueAt all sequence key value
  to_all key value shows = record {
    entry = shows.entry;
    newest = record {
      there = (exactly shows.entry).0 shows.newest.there;
      seen = let seen = shows.newest.seen in let least = min-le_left sequence greatest_sequence in omega (arith, seen, least);
      newest = λ other there key_is seen.
          let is_below = (exactly other).1 there in
          shows.newest.newest other is_below key_is (le-min seen (low other is_below));
    };
    key_is = shows.key_is;
    value_is = shows.value_is;
  }

  of_all : (key value : List ℕ) → HasValueAt all sequence key value → HasValueAt (entries_of_pairs below) (min sequence greatest_sequence) key value
  of_all key value shows =
      let is_below = (exactly shows.entry).1 shows.newest.there in record {
        entry = shows.entry;
        newest = record {
          there = is_below;
          seen = le-min shows.newest.seen (low shows.entry is_below);
          newest = λ other there key_is seen.
              shows.newest.newest other ((exactly other).0 there) key_is (let least = min-le_left sequence greatest_sequence in omega (arith, seen, least));
        };
        key_is = shows.key_is;
        value_is = shows.value_is;
      }

  -- the view of the pairs is that of the history
  pub view_of_history : IsView cmp (entries_of history) sequence (view_of (min sequence greatest_sequence) (entries_of_pairs below))
  view_of_history =
      let view = sorted_has_view cmp exact (entries_of_pairs below) (min sequence greatest_sequence) sorted in record {
        sorted = view.sorted;
        exactly = λ key value. (
          (λ there. (same key value).0 (to_all key value ((view.exactly key value).0 there))),
          (λ shows. (view.exactly key value).1 (of_all key value ((same key value).1 shows))),
        );
      }

-- ---- errors

module _ {E F T : Type 0} (env : Ghosts E F) where
  -- the errors of a merge are counted where its children's are, but a clash, which may come at any
  -- time
  pub merged_counts : {I C : Type 0} (fails : E × T → I → E × T → Status → Type 0) (clashes : E × T → MergeCore C I → Status → Type 0) → CountsErrors env fails
      → CountsErrors env (λ world (it : MergeCore C I) later status. Any (λ child. fails world child later status) it.children.items ⊎ clashes world it status)
  merged_counts fails clashes counts from to it status = ⊎_elim
      (λ (any : Any (λ child. fails from child to status) it.children.items). ⊎_elim
      (λ (out : IsOutOfMemory status). inl out)
      (⊎_elim
      (λ (failed : HasFailed (env.failures from.0) (env.failures to.0)). inr (inl failed))
      (λ (ever : (other : E × T) → fails from any.1 other status).
      inr (inr (λ other. inl (any.0, any.1, any.2, any.3, ever other)))))
      (counts from to any.1 status any.4))
      (λ (clash : clashes from it status). inr (inr (λ other. inr clash)))

  -- and those of a view where the walk below has such
  pub view_counts : {M : Type 0} (walk : WalkGhosts M E T) → CountsErrors env walk.fails → CountsErrors env (FailsView walk)
  view_counts walk counts from to it status fails = ⊎_elim
      (λ (own : walk.fails from it.walk to status). ⊎_elim
      (λ (out : IsOutOfMemory status). inl out)
      (⊎_elim
      (λ (failed : HasFailed (env.failures from.0) (env.failures to.0)). inr (inl failed))
      (λ (ever : (other : E × T) → walk.fails from it.walk other status). inr (inr (λ other. inl (ever other)))))
      (counts from to it.walk status own))
      (⊎_elim
      (λ (out : IsOutOfMemory status). inl out)
      (λ lost. inr (inr (λ other. inr (inr lost)))))
      fails
