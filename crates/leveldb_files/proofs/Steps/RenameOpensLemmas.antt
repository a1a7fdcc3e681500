-- What a rename onto `CURRENT` opens: the manifest that the new text names.
use Rattle.leveldb_base.proofs.NamesLemmas.{made_name}
use Rattle.leveldb_base.specs.Names.{IsFileName, file_name}
use Rattle.leveldb_base.specs.Types.{Pair}
use Rattle.leveldb_base.specs.declared.types.FileType.{FileType}
use Rattle.leveldb_base.specs.declared.types.FileType.TheVariants.{Current, Descriptor, Log, Table, Temp}
use Rattle.leveldb_env.proofs.EnvLemmas.{at_other, at_same, renamed-there}
use Rattle.leveldb_env.specs.Env.{Files, bytes_of, deleted, in_folder, renamed, with_file}
use Rattle.leveldb_mem.specs.Log.{IsLogFile, clean}
use Rattle.leveldb_files.proofs.Stores.ManagedLemmas.{SameFor, kinds_apart, managed_on, same_bytes}
use Rattle.leveldb_files.specs.Stores.Paths.{current_path, table_path}
use Rattle.leveldb_files.specs.Stores.Store.{HasEdits, IsManagedBy}
use Rattle.leveldb_files.specs.Steps.StoreStays.{HasKeptEdits, OpensManifest}
use Rattle.leveldb_files.specs.Steps.StoreSteps.{HasNextCurrent, IsManifestOpen}
use Rattle.leveldb_files.specs.Edits.Edit.{Edit}
use Rattle.leveldb_files.specs.Edits.VersionSet.{FileSet, live_after}
use Rattle.std.proofs.Common.{◌∙◌, ◌≡◌, List, None, Some, refl, subst, sym, ℕ}
use Rattle.std.specs.Prelude.{◌≢◌}
use Rattle.std.specs.declared.cmp.Ordering.{Ordering}

module _ (store : List ℕ) (cmp : List ℕ → List ℕ → Ordering)
    (IsTableOf : List ℕ → List Pair → Type 0) where
  module _ (files : Files) (temp : List ℕ) (edits : List Edit)
      (h : HasNextCurrent store files temp edits) where
    abbrev from : List ℕ
    from = in_folder store temp

    abbrev to : List ℕ
    to = current_path store

    abbrev moved_files : Files
    moved_files = with_file to (Some h.text) (deleted from files)

    moved_is : renamed from to files ≡ moved_files
    moved_is = renamed-there from to files h.text h.text_there

    current_named : IsFileName (file_name Current 0) 0 Current
    current_named = made_name Current 0 refl

    -- a file of another type stays
    elsewhere : (name : List ℕ) (n : ℕ) (kind : FileType) → IsFileName name n kind
        → Current ≢ kind → Temp ≢ kind
        → moved_files (in_folder store name) ≡ files (in_folder store name)
    elsewhere name n kind is no_current no_temp =
        at_other to (Some h.text) (deleted from files) (in_folder store name)
        (kinds_apart store (file_name Current 0) name 0 n Current kind current_named is no_current)
        ∙ at_other from None files (in_folder store name)
        (kinds_apart store temp name h.temp_number n Temp kind h.temp_name is no_temp)

    manifest_there : moved_files (in_folder store h.name) ≡ Some h.manifest
    manifest_there = elsewhere h.name h.number Descriptor h.named.0 (λ d. cc) (λ d. cc)
        ∙ h.manifest_there

    abbrev new_edits : HasEdits store moved_files edits
    new_edits = record {
      current = h.text;
      current_there = at_same to (Some h.text) (deleted from files);
      name = h.name;
      number = h.number;
      named = h.named;
      manifest = h.manifest;
      there = manifest_there;
      is = h.is;
    }

    kept_edits : HasKeptEdits store moved_files edits
    kept_edits =
        record { has_edits = new_edits; current = h.text_kept; manifest = h.manifest_kept }

    open_manifest : h.is.end ≡ clean → IsManifestOpen store moved_files edits
    open_manifest ends = record {
      has_edits = new_edits;
      current_kept = h.text_kept;
      clean_end = subst (IsLogFile (bytes_of h.manifest) h.is.records) ends h.is.read;
    }

    same_then : (set : FileSet) → SameFor store set files moved_files
    same_then set = record {
      tables = λ file fits live.
          same_bytes (files (table_path store file.number))
          (moved_files (table_path store file.number))
          (elsewhere (file_name Table file.number) file.number Table
          (made_name Table file.number fits) (λ d. cc) (λ d. cc));
      logs = λ name n is replayed.
          same_bytes (files (in_folder store name)) (moved_files (in_folder store name))
          (elsewhere name n Log is (λ d. cc) (λ d. cc));
    }

    pub rename_opens : OpensManifest store cmp IsTableOf files temp edits h
    rename_opens = record {
      kept = subst (λ f. HasKeptEdits store f edits) (sym moved_is) kept_edits;
      opened = λ ends.
          subst (λ f. IsManifestOpen store f edits) (sym moved_is) (open_manifest ends);
      managed = λ contents m.
          subst (λ f. IsManagedBy store cmp IsTableOf f edits contents) (sym moved_is)
          (managed_on store cmp IsTableOf files moved_files edits contents
          (same_then (live_after edits)) m);
    }
