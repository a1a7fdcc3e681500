-- Steps after which the files are the same store, and what is open after a new `CURRENT`.
use Rattle.leveldb_base.proofs.NamesLemmas.{made_name}
use Rattle.leveldb_base.specs.Names.{file_name}
use Rattle.leveldb_base.specs.Types.{Pair}
use Rattle.leveldb_base.specs.declared.types.FileType.TheVariants.{Current, Descriptor, Log}
use Rattle.leveldb_env.proofs.EnvLemmas.{at_other}
use Rattle.leveldb_env.specs.Env.{Files, SameBut, bytes_of, file_kept, in_folder, kept_file, or_empty, synced, with_file}
use Rattle.leveldb_files.proofs.Histories.HonestCrashLemmas.{all_honest, all_kept, all_leaves, all_same}
use Rattle.leveldb_files.proofs.Stores.ManagedLemmas.{kinds_apart, managed_on}
use Rattle.leveldb_files.proofs.Stores.ManifestLemmas.{edits_on, edits_same}
use Rattle.leveldb_files.proofs.Steps.NewLogLemmas.{with_new_log}
use Rattle.leveldb_files.proofs.Steps.StaysLemmas.{synced_same}
use Rattle.leveldb_files.proofs.Steps.UnreadLemmas.{unnamed_on}
use Rattle.leveldb_files.specs.Edits.Current.{IsCurrentText}
use Rattle.leveldb_files.specs.Stores.Paths.{log_path, table_path}
use Rattle.leveldb_files.specs.Stores.Store.{HasEdits}
use Rattle.leveldb_files.specs.Steps.StoreStays.{IsSameStore}
use Rattle.leveldb_files.specs.Steps.StoreSteps.{AppendedAreBytes, IsAboveLogs, IsUnread, MakesFile}
use Rattle.leveldb_files.specs.Edits.Edit.{Edit}
use Rattle.leveldb_files.specs.Edits.VersionSet.{live_after}
use Rattle.std.proofs.Common.{◌<◌, ◌^◌, ◌∙◌, ◌≡◌, ◌⊎◌, List, None, Some, [], ap, append-nil, inl, inr, refl, subst, sym, ℕ}
use Rattle.std.specs.Option.{option_map}
use Rattle.std.specs.declared.cmp.Ordering.{Ordering}

-- ---- a file that is made

-- what was missing is made the same whether one that was there would have been kept or not
pub made_is : (path : List ℕ) (files now : Files) → files path ≡ None → MakesFile path files now
    → (now ≡ files) ⊎ (now ≡ with_file path (Some (kept_file [])) files)
made_is path files now gone (inl (inl is)) = inl is
made_is path files now gone (inl (inr is)) =
    inr (is ∙ ap (λ f. with_file path f files) (ap or_empty gone))
made_is path files now gone (inr (inl is)) = inl is
made_is path files now gone (inr (inr is)) = inr is

module _ (store : List ℕ) (cmp : List ℕ → List ℕ → Ordering)
    (IsTableOf : List ℕ → List Pair → Type 0) where
  itself : (files : Files) → IsSameStore store cmp IsTableOf files files
  itself files = record { edits = λ edits e. e; managed = λ edits contents e m. m }

  pub same_after_sync : (name : List ℕ) (files : Files)
      → IsSameStore store cmp IsTableOf files (synced name files)
  same_after_sync name files = record {
    edits = λ edits e.
        edits_same store files (synced name files) edits
        (synced_same store cmp IsTableOf name files) e;
    managed = λ edits contents e m.
        managed_on store cmp IsTableOf files (synced name files) edits contents (record {
          tables = λ file fits live.
              synced_same store cmp IsTableOf name files (table_path store file.number);
          logs = λ other n is replayed.
              synced_same store cmp IsTableOf name files (in_folder store other);
        }) m;
  }

  pub same_after_new_log : (files : Files) (n : ℕ) → n < 2 ^ 64 → IsAboveLogs store files n
      → files (log_path store n) ≡ None → (now : Files) → MakesFile (log_path store n) files now
      → IsSameStore store cmp IsTableOf files now
  same_after_new_log files n fits newest gone now makes = by (made_is path files now gone makes)
    where
      path : List ℕ
      path = log_path store n

      with_it : Files
      with_it = with_file path (Some (kept_file [])) files

      new_edits : (edits : List Edit) → HasEdits store files edits → HasEdits store with_it edits
      new_edits edits e =
          edits_on store cmp IsTableOf path files with_it edits e
          (λ other away. at_other path (Some (kept_file [])) files other away)
          (kinds_apart store (file_name Log n) (file_name Current 0) n 0 Log Current
          (made_name Log n fits) (made_name Current 0 refl) (λ d. cc))
          (kinds_apart store (file_name Log n) e.name n e.number Log Descriptor
          (made_name Log n fits) e.named.0 (λ d. cc))

      by : (now ≡ files) ⊎ (now ≡ with_it) → IsSameStore store cmp IsTableOf files now
      by (inl is) = subst (IsSameStore store cmp IsTableOf files) (sym is) (itself files)
      by (inr is) = subst (IsSameStore store cmp IsTableOf files) (sym is) (record {
        edits = new_edits;
        managed = λ edits contents e m.
            with_new_log store cmp IsTableOf files edits contents m n fits newest;
      })

  pub same_after_unread : (path : List ℕ) (old new : Files) → SameBut path old new
      → AppendedAreBytes old → IsUnread store old path → IsSameStore store cmp IsTableOf old new
  same_after_unread path old new same bytes un = record {
    edits = λ edits e.
        edits_on store cmp IsTableOf path old new edits e same un.not_current
        (un.not_manifest (all_kept old) (file_kept e.current) e.name e.number
        (all_leaves old bytes) (all_honest store old)
        (ap (option_map file_kept) e.current_there)
        (subst (λ b. IsCurrentText b e.name e.number)
        (sym (append-nil (bytes_of e.current))) e.named));
    managed = λ edits contents e m.
        managed_on store cmp IsTableOf old new edits contents
        (unnamed_on store cmp IsTableOf path old new (live_after edits) same
        (un.unnamed (all_kept old) edits (all_leaves old bytes) (all_honest store old)
        (edits_same store old (all_kept old) edits (λ p. all_same (old p)) e))) m;
  }
