-- What files hold after a crash, and with more or fewer stores allowed, however they are read.
use Rattle.leveldb_base.specs.History.{Entry, History, IsPrefixAtLeast, count_of, with_batch}
use Rattle.leveldb_env.proofs.EnvLemmas.{FileCrashesTo-kept}
use Rattle.leveldb_env.specs.Env.{File, FileCrashesTo, Files, FilesCrashTo}
use Rattle.leveldb_files.specs.Stores.Contents.{Contents, Store}
use Rattle.leveldb_files.specs.Histories.Holds.{Carries, Holds, HoldsPrefix, IsHonest, IsSafe, MatchesHistory, ReadsAre}
use Rattle.std.proofs.Common.{◌++◌, ◌+◌, ◌∙◌, ◌≡◌, List, None, Option, Some, arith, inl, inr, length, subst, sym, ℕ, ⊎_elim}
use Rattle.std.proofs.lemmas.List.{take_all}

-- a crash of what a crash left leaves the same
file_again : (file left again : Option File) → FileCrashesTo file left → FileCrashesTo left again
    → again ≡ left
file_again None left again leaves more =
    subst (λ f. FileCrashesTo f again) leaves more ∙ sym leaves
file_again (Some file) left again leaves more =
    FileCrashesTo-kept (file.kept ++ leaves.0) again
    (subst (λ f. FileCrashesTo f again) leaves.3 more) ∙ sym leaves.3

pub crash_again : (files left again : Files) → FilesCrashTo files left → FilesCrashTo left again
    → again ≡ left
crash_again files left again leaves more =
    λ i name. file_again (files name) (left name) (again name) (leaves name) (more name) i

-- a history is the prefix of itself that has all its batches
pub whole_prefix : (history : History) → IsPrefixAtLeast (length history) history history
whole_prefix history =
    record {
      count = length history;
      enough = omega arith;
      there = omega arith;
      first = sym (take_all (length history) history (omega arith));
    }

-- the same contents match where their store is allowed
pub matches_allowed : (allowed others : Store → Type 0) (bound : ℕ) (contents : Contents)
    (history : History) → others contents.store → MatchesHistory allowed bound contents history
    → MatchesHistory others bound contents history
matches_allowed allowed others bound contents history may t =
    record {
      same = t.same;
      up_to = t.up_to;
      reached = t.reached;
      bounded = t.bounded;
      store = may;
    }

module _ (store : List ℕ) (reads : Files → Contents → Type 0) (allowed : Store → Type 0) where
  -- what a crash left is safe with all that it carries
  left_safe : (files left : Files) (bound : ℕ) (part : History) → FilesCrashTo files left
      → Carries store reads allowed bound part left
      → IsSafe store reads allowed bound (length part) part left
  left_safe files left bound part leaves carries again more honest =
      record {
        part = part;
        prefix = whole_prefix part;
        carries = subst (Carries store reads allowed bound part)
            (sym (crash_again files left again leaves more)) carries;
      }

  pub crashes_hold : (files left : Files) (history : History) (last durable : ℕ)
      (pending : Option (List Entry)) → Holds store reads allowed files history last durable pending
      → FilesCrashTo files left → IsHonest store files left
      → HoldsPrefix store reads allowed left (with_batch history pending) (last + count_of pending)
      durable
  crashes_hold files left history last durable pending holds leaves honest =
      let c = holds.crash left leaves honest in
      let more : last + count_of pending ≡ (last + count_of pending) + 0 = omega arith in
      let carries : Carries store reads allowed ((last + count_of pending) + 0) c.part left = subst
      (λ b. Carries store reads allowed b c.part left) more c.carries in
      record {
        part = c.part;
        prefix = c.prefix;
        holds = record {
          now = inl carries;
          crash = left_safe files left ((last + count_of pending) + 0) c.part leaves carries;
        };
      }

  -- ---- more stores, or fewer

  module _ (others : Store → Type 0) where
    carries_allowed : (bound : ℕ) (history : History) (files : Files)
        → ((contents : Contents) → reads files contents → allowed contents.store
        → others contents.store)
        → Carries store reads allowed bound history files
        → Carries store reads others bound history files
    carries_allowed bound history files may c =
        record {
          contents = c.contents;
          read = c.read;
          matches = matches_allowed allowed others bound c.contents history
              (may c.contents c.read c.matches.store) c.matches;
        }

    holds_allowed : (files : Files)
        → ((contents : Contents) → reads files contents → allowed contents.store
        → others contents.store)
        → ((left : Files) (contents : Contents) → FilesCrashTo files left
        → IsHonest store files left → reads left contents → allowed contents.store
        → others contents.store)
        → (history : History) (last durable : ℕ) (pending : Option (List Entry))
        → Holds store reads allowed files history last durable pending
        → Holds store reads others files history last durable pending
    holds_allowed files now crash history last durable pending holds = record {
      now = ⊎_elim
          (λ (c : Carries store reads allowed (last + count_of pending) history files).
          inl (carries_allowed (last + count_of pending) history files now c))
          (λ (c : Carries store reads allowed (last + count_of pending)
          (with_batch history pending) files).
          inr (carries_allowed (last + count_of pending) (with_batch history pending) files now c))
          holds.now;
      crash = λ left leaves honest.
          let c = holds.crash left leaves honest in
          record {
            part = c.part;
            prefix = c.prefix;
            carries = carries_allowed (last + count_of pending) c.part left
                (λ contents read. crash left contents leaves honest read) c.carries;
          };
    }

    pub wider_holds : ((found : Store) → allowed found → others found) → (files : Files)
        (history : History) (last durable : ℕ) (pending : Option (List Entry))
        → Holds store reads allowed files history last durable pending
        → Holds store reads others files history last durable pending
    wider_holds wider files = holds_allowed files
        (λ contents read may. wider contents.store may)
        (λ left contents leaves honest read may. wider contents.store may)

    pub narrower_holds : (files : Files) → ReadsAre store reads others files
        → (history : History) (last durable : ℕ) (pending : Option (List Entry))
        → Holds store reads allowed files history last durable pending
        → Holds store reads others files history last durable pending
    narrower_holds files are = holds_allowed files
        (λ contents read may. are.now contents read)
        (λ left contents leaves honest read may. are.crash left contents leaves honest read)
