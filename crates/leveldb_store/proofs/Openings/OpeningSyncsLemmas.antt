-- Syncs of logs, one after another.
use Rattle.std.proofs.Common.{◌≡◌, inl, inr, ℕ, List, [], ◌∷◌, ◌++◌, map, Bor, refl, sym, ◌∙◌, ap, subst, append_assoc}
use Rattle.std.proofs.lemmas.List.{append-nil, map-append}
use Rattle.std.specs.Map.Iter.{deref}
use Rattle.leveldb_env.proofs.EnvLemmas.{Run-trans}
use Rattle.leveldb_env.specs.Env.{Files, Observed, Run, created}
use Rattle.leveldb_files.specs.Stores.Paths.{log_path}
use Rattle.leveldb_store.specs.Openings.OpeningSteps.{AreBeingKept, IsBeingKept, with_log_kept, with_logs_kept}

-- a walk over numbers goes one on
pub walked_on : (passed : List (Bor ℕ)) (x : Bor ℕ) (old new all : List ℕ) → map deref passed ++ old ≡ all → old ≡ deref x ∷ new → map deref (passed ++ x ∷ []) ++ new ≡ all
walked_on passed x old new all is step =
    ap (λ front. front ++ new) (map-append deref passed (x ∷ [])) ∙ append_assoc (map deref passed) (deref x ∷ []) new ∙ ap (λ rest. map deref passed ++ rest) (sym step) ∙ is

-- and at its end it has passed all
pub walked_all : (passed : List (Bor ℕ)) (rest all : List ℕ) → map deref passed ++ rest ≡ all → rest ≡ [] → map deref passed ≡ all
walked_all passed rest all is none = sym (append-nil (map deref passed)) ∙ ap (λ end. map deref passed ++ end) (sym none) ∙ is

module _ (store : List ℕ) where
  -- one more log is kept
  pub kept_more : (front : List ℕ) (n : ℕ) (files : Files) → with_logs_kept store (front ++ n ∷ []) files ≡ with_log_kept store n (with_logs_kept store front files)
  kept_more [] n files = refl
  kept_more (first ∷ front) n files = kept_more front n (with_log_kept store first files)

  -- at no log's sync yet
  pub none_kept : (logs : List ℕ) (files : Files) → AreBeingKept store logs files files
  none_kept logs files = record { front = []; rest = logs; logs_are = refl; now = inl refl }

  module _ (logs front : List ℕ) (n : ℕ) (more : List ℕ) (are : logs ≡ front ++ n ∷ more) (start mid : Files) (now : mid ≡ with_logs_kept store front start) where
    -- on the way to the next log kept
    being_kept : (files : Files) → IsBeingKept store n mid files → AreBeingKept store logs start files
    being_kept files (inl same) = record { front = front; rest = n ∷ more; logs_are = are; now = inl (same ∙ now) }
    being_kept files (inr (inl made)) = record {
      front = front;
      rest = n ∷ more;
      logs_are = are;
      now = inr (n, more, refl, made ∙ ap (created (log_path store n)) now);
    }
    being_kept files (inr (inr kept)) = record {
      front = front ++ n ∷ [];
      rest = more;
      logs_are = are ∙ sym (append_assoc front (n ∷ []) more);
      now = inl (kept ∙ ap (with_log_kept store n) now ∙ sym (kept_more front n start));
    }

    pub run_on : (first old new : Observed) → old.disk.files ≡ mid → Run (AreBeingKept store logs start) first old → Run (IsBeingKept store n old.disk.files) old new
        → Run (AreBeingKept store logs start) first new
    run_on first old new same before after = Run-trans before (λ files being. being_kept files (subst (λ f. IsBeingKept store n f files) same being)) after

    pub kept_then : (files : Files) → files ≡ with_log_kept store n mid → files ≡ with_logs_kept store (front ++ n ∷ []) start
    kept_then files is = is ∙ ap (with_log_kept store n) now ∙ sym (kept_more front n start)
