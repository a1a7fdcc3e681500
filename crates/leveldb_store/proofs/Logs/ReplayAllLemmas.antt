-- What is replayed of logs, one after another.
use Rattle.std.specs.Prelude.{Contains}
use Rattle.std.proofs.Common.{◌≡◌, ◌≢◌, ◌∙◌, inl, inr, ⊎_elim, [], ◌∷◌, ap, arith, refl, subst, sym}
use Rattle.std.proofs.lemmas.List.{append-nil}
use Rattle.leveldb_base.proofs.HistoryLemmas.{in_cases, in_none}
use Rattle.leveldb_env.specs.declared.env.Env.{Ghosts}
use Rattle.leveldb_files.specs.Levels.Levels.{LiveTable, table_entries}
use Rattle.leveldb_version_set.specs.Compactions.Inputs.{AreOrdered}
use Rattle.leveldb_version_set.specs.Sets.VersionSetValue.{VersionSetValue}
use Rattle.leveldb_files.specs.Stores.Format.{Format}
use Rattle.leveldb_store.specs.Openings.Opening.{IsMadeTable}
use Rattle.leveldb_store.specs.Openings.OpeningSteps.{TablesAll}
use Rattle.leveldb_store.proofs.Keeping.GivenNumbersLemmas.{one_more_given}
use Rattle.leveldb_store.proofs.Keeping.OrderedFilesLemmas.{ordered_push}
use Rattle.leveldb_store.specs.Logs.ReplayLog.{TablesRest, table_files}
use Rattle.leveldb_store.specs.declared.opening.replay_log.ReplayedLog.{ReplayedLog}

-- ---- the entries of one log that are in no table

module _ {E F C : Type 0} (env : Ghosts E F) (format : Format) (log : ReplayedLog C) (set : VersionSetValue) where
  -- there is none
  pub TablesAll-none : (at : E) → log.rest.kept.entries ≡ [] → TablesAll env format log set (table_files log) set at
  TablesAll-none at none = record {
    tables = [];
    files_are = sym (append-nil (table_files log));
    made_tables = λ modelled meaning agrees. record {
      each = λ table c. absurd (in_none table c);
      numbers = λ table c. absurd (in_none table c);
      rising = λ i j d less within. absurd (omega (arith, within));
    };
    entries = λ entry. (λ c. absurd (in_none entry c), λ c. subst (λ es. Contains es entry) none c);
    given = λ before. before;
    ordered = λ before. before;
    few = inl refl;
  }

  -- they are in one that was made
  pub TablesAll-made : log.rest.kept.entries ≢ [] → (new : ReplayedLog C) (now : VersionSetValue) (at : E) → TablesRest env format log set new now at → TablesAll env format log set (table_files new) now at
  TablesAll-made some new now at made = record {
    tables = made.table ∷ [];
    files_are = made.files;
    made_tables = λ modelled meaning agrees. record {
      each = λ table c. subst (IsMadeTable format.order meaning set.store (env.observed at).disk.files) (only table c) (made.made modelled meaning agrees);
      numbers = λ table c.
          let number = sym (ap (λ (t : LiveTable). t.file.number) (only table c)) ∙ made.number in
          let next = ap (λ (v : VersionSetValue). v.next_file) made.given in
          (omega (arith, number), omega (arith, number, next));
      rising = λ i j d less within. absurd (omega (arith, less, within));
    };
    entries = λ entry. (
      λ c. subst (λ es. Contains es entry) is c,
      λ c. subst (λ es. Contains es entry) (sym is) c,
    );
    given = one_more_given env format log set new now at made;
    ordered = λ before. subst (AreOrdered format.order) (sym made.files)
        (ordered_push format.order (table_files log) made.table.file made.ordered before);
    few = inr (some, ap (λ (v : VersionSetValue). v.next_file) made.given);
  }
    where
      only : (table : LiveTable) → Contains (made.table ∷ []) table → made.table ≡ table
      only table c = ⊎_elim (λ e. e) (λ none. absurd (in_none table none)) (in_cases made.table table [] c)

      is : table_entries (made.table ∷ []) ≡ log.rest.kept.entries
      is = append-nil made.table.entries ∙ made.entries
