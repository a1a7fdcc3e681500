-- Files that aren't read: whatever is done to them, what is safe stays so.
use Rattle.leveldb_base.proofs.NamesLemmas.{made_name}
use Rattle.leveldb_base.specs.History.{History}
use Rattle.leveldb_base.specs.Names.{IsFileName, file_name}
use Rattle.leveldb_base.specs.Types.{Pair}
use Rattle.leveldb_base.specs.declared.types.FileType.{FileType}
use Rattle.leveldb_base.specs.declared.types.FileType.TheVariants.{Current, Descriptor, Log, Table}
use Rattle.leveldb_env.proofs.EnvLemmas.{at_other}
use Rattle.leveldb_env.specs.Env.{File, FileCrashesTo, Files, FilesCrashTo, SameBut, in_folder, with_file}
use Rattle.leveldb_files.proofs.Stores.ManagedLemmas.{SameFor, kinds_apart, managed_on, same_bytes}
use Rattle.leveldb_files.proofs.Stores.ManifestLemmas.{edits_on}
use Rattle.leveldb_files.proofs.Histories.SafeLemmas.{unread_safe}
use Rattle.leveldb_files.specs.Stores.Contents.{Contents, Store}
use Rattle.leveldb_files.specs.Histories.Holds.{IsHonest, IsSafe}
use Rattle.leveldb_files.specs.Stores.Paths.{current_path, table_path}
use Rattle.leveldb_files.specs.Stores.Store.{IsStore}
use Rattle.leveldb_files.specs.Steps.StoreSteps.{IsUnnamed, IsUnread}
use Rattle.leveldb_files.specs.Edits.VersionSet.{FileSet, live_after}
use Rattle.std.proofs.Common.{◌∙◌, ◌≡◌, ◌⊎◌, List, None, Option, Some, false, inl, inr, refl, subst, sym, ℕ, ⊎_elim}
use Rattle.std.specs.Prelude.{◌≢◌}
use Rattle.std.specs.Str.{bytes_eq}
use Rattle.std.specs.declared.cmp.Ordering.{Ordering}

module _ (store : List ℕ) (cmp : List ℕ → List ℕ → Ordering)
    (IsTableOf : List ℕ → List Pair → Type 0) where
  abbrev reads : Files → Contents → Type 0
  reads = IsStore store cmp IsTableOf

  pub unnamed_on : (path : List ℕ) (old new : Files) (set : FileSet) → SameBut path old new
      → IsUnnamed store set path → SameFor store set old new
  unnamed_on path old new set same un = record {
    tables =
        λ file fits live.
        same_bytes (old (table_path store file.number)) (new (table_path store file.number))
        (same (table_path store file.number) (un.tables file fits live));
    logs =
        λ name n is replayed.
        same_bytes (old (in_folder store name)) (new (in_folder store name))
        (same (in_folder store name) (un.logs name n is replayed));
  }

  -- whether such a file is made, appended to, synced or deleted
  pub unread_stays_safe : (path : List ℕ) (old new : Files) → SameBut path old new
      → IsUnread store old path
      → (allowed : Store → Type 0) (bound durable : ℕ) (history : History)
      → IsSafe store reads allowed bound durable history old
      → IsSafe store reads allowed bound durable history new
  unread_stays_safe path old new same un allowed bound durable history safe =
      unread_safe store reads allowed bound durable history path old new same
      (λ left contents file leaves honest here is. still left contents file leaves honest is)
      safe
    where
      still : (left : Files) (contents : Contents) (file : Option File) → FilesCrashTo old left
          → IsHonest store old left → reads left contents
          → reads (with_file path file left) contents
      still left contents file leaves honest (inr m) =
          let e = m.has_edits in
          let u = un.unnamed left m.edits leaves honest e in
          let no_manifest = un.not_manifest left e.current e.name e.number leaves honest
          e.current_there e.named in
          let but : SameBut path left (with_file path file left) = λ other away.
          at_other path file left other away in
          inr (record {
            edits = m.edits;
            has_edits =
                edits_on store cmp IsTableOf path left
                (with_file path file left) m.edits e but un.not_current no_manifest;
            managed =
                managed_on store cmp IsTableOf left (with_file path file left) m.edits contents
                (unnamed_on path left (with_file path file left) (live_after m.edits) but u)
                m.managed;
          })
      still left contents file leaves honest (inl bare) = ⊎_elim
          (λ (there : old (current_path store) ≢ None). absurd
          (there (missing_left (old (current_path store)) (leaves (current_path store)))))
          (λ (apart : (name : List ℕ) (n : ℕ) → (IsFileName name n Table ⊎ IsFileName name n Log)
          → bytes_eq path (in_folder store name) ≡ false).
          inl (
            record {
              no_current = at_other path file left (current_path store) un.not_current
                  ∙ bare.0.no_current;
              no_table =
                  λ name n is.
                  at_other path file left (in_folder store name) (apart name n (inl is))
                  ∙ bare.0.no_table name n is;
              no_log =
                  λ name n is.
                  at_other path file left (in_folder store name) (apart name n (inr is))
                  ∙ bare.0.no_log name n is;
            },
            bare.1,
          )) un.bare
        where
          missing_left : (f : Option File) → FileCrashesTo f (left (current_path store)) → f ≡ None
          missing_left None l = refl
          missing_left (Some f) l = absurd (let never : _ = sym l.3 ∙ bare.0.no_current in cc)

  -- a file of another type than `CURRENT`, manifests, tables and logs is never read
  pub other_unread : (files : Files) (name : List ℕ) (n : ℕ) (kind : FileType)
      → IsFileName name n kind → kind ≢ Current → kind ≢ Descriptor → kind ≢ Table → kind ≢ Log
      → IsUnread store files (in_folder store name)
  other_unread files name n kind is no_current no_manifest no_table no_log = record {
    not_current =
        kinds_apart store name (file_name Current 0) n 0 kind Current is
        (made_name Current 0 refl) no_current;
    not_manifest =
        λ left file other m leaves honest there text.
        kinds_apart store name other n m kind Descriptor is text.0 no_manifest;
    unnamed = λ left edits leaves honest e. record {
      tables =
          λ file fits live.
          kinds_apart store name (file_name Table file.number) n file.number kind Table is
          (made_name Table file.number fits) no_table;
      logs =
          λ other m is_other replayed. kinds_apart store name other n m kind Log is is_other no_log;
    };
    bare = inr (λ other m is_other. ⊎_elim
        (λ (t : IsFileName other m Table). kinds_apart store name other n m kind Table is t
        no_table)
        (λ (l : IsFileName other m Log). kinds_apart store name other n m kind Log is l no_log)
        is_other);
  }

  -- where there is no `CURRENT`, a crash leaves none, so no manifest is named
  pub manifest_unread : (files : Files) → files (current_path store) ≡ None → (name : List ℕ)
      (n : ℕ) → IsFileName name n Descriptor → IsUnread store files (in_folder store name)
  manifest_unread files gone name n is = record {
    not_current =
        kinds_apart store name (file_name Current 0) n 0 Descriptor Current is
        (made_name Current 0 refl) (λ d. cc);
    not_manifest =
        λ left file other m leaves honest there text. absurd (none_left left leaves file there);
    unnamed = λ left edits leaves honest e.
        absurd (none_left left leaves e.current e.current_there);
    bare = inr (λ other m is_other. ⊎_elim
        (λ (t : IsFileName other m Table). kinds_apart store name other n m Descriptor Table is t
        (λ d. cc))
        (λ (l : IsFileName other m Log). kinds_apart store name other n m Descriptor Log is l
        (λ d. cc)) is_other);
  }
    where
      none_left : (left : Files) → FilesCrashTo files left → (file : File)
          → left (current_path store) ≡ Some file → ⊥
      none_left left leaves file there =
          let never : None ≡ Some file =
          sym (subst (λ f. FileCrashesTo f (left (current_path store))) gone
          (leaves (current_path store))) ∙ there in cc
