-- A sync of the last log makes all durable.
use Rattle.leveldb_base.proofs.NamesLemmas.{made_name}
use Rattle.leveldb_base.specs.History.{History}
use Rattle.leveldb_base.specs.Names.{IsFileName, file_name}
use Rattle.leveldb_base.specs.Types.{Pair}
use Rattle.leveldb_base.specs.declared.types.FileType.TheVariants.{Current, Descriptor, Log}
use Rattle.leveldb_env.proofs.EnvLemmas.{at_other, at_same}
use Rattle.leveldb_env.specs.Env.{File, Files, file_kept, in_folder, synced}
use Rattle.leveldb_files.proofs.Stores.KeptLemmas.{kept_safe}
use Rattle.leveldb_files.proofs.Stores.ManagedLemmas.{kinds_apart, managed_on}
use Rattle.leveldb_files.proofs.Steps.StaysLemmas.{synced_same}
use Rattle.leveldb_files.specs.Stores.Contents.{Contents, Store}
use Rattle.leveldb_files.specs.Histories.Holds.{Holds, MatchesHistory}
use Rattle.leveldb_files.specs.Stores.Paths.{current_path, log_path, table_path}
use Rattle.leveldb_files.specs.Stores.Store.{HasEdits, IsManaged, LogIsReplayed, IsStore}
use Rattle.leveldb_files.specs.Steps.StoreSteps.{IsAllKept, IsKept, IsLastLog, TablesAreKept}
use Rattle.leveldb_files.specs.Edits.VersionSet.{live_after}
use Rattle.std.proofs.Common.{◌+◌, ◌<◌, ◌^◌, ◌∙◌, ◌≡◌, Bool, List, None, Option, Some, [], ap, arith, false, inl, inr, length, refl, subst, sym, true, ℕ}
use Rattle.std.specs.Cmp.Lexicographic.{bytes_decides}
use Rattle.std.specs.Option.{option_map}
use Rattle.std.specs.Str.{bytes_eq}
use Rattle.std.specs.declared.cmp.Ordering.{Ordering}

module _ (store : List ℕ) (cmp : List ℕ → List ℕ → Ordering)
    (IsTableOf : List ℕ → List Pair → Type 0) where
  abbrev reads : Files → Contents → Type 0
  reads = IsStore store cmp IsTableOf

  -- ---- a sync of the last log, all else that is read being kept

  pub sync_keeps_all :
      (files : Files) (contents : Contents) (m : IsManaged store cmp IsTableOf files contents)
      → m.has_edits.current.since ≡ [] → m.has_edits.manifest.since ≡ []
      → TablesAreKept store files (live_after m.edits)
      → (number : ℕ) → number < 2 ^ 64 → IsLastLog store files (live_after m.edits) number
      → IsAllKept store cmp IsTableOf (synced (log_path store number) files) contents
  sync_keeps_all files contents m current_kept manifest_kept tables number fits last = record {
    managed = record {
      edits = m.edits;
      has_edits = record {
        current = e.current;
        current_there =
            at_other path (option_map file_kept (files path)) files (current_path store)
            (kinds_apart store (file_name Log number)
            (file_name Current 0) number 0 Log Current named (made_name Current 0 refl) (λ d. cc))
            ∙ e.current_there;
        name = e.name;
        number = e.number;
        named = e.named;
        manifest = e.manifest;
        there =
            at_other path (option_map file_kept (files path)) files (in_folder store e.name)
            (kinds_apart store
            (file_name Log number) e.name number e.number Log Descriptor named e.named.0 (λ d. cc))
            ∙ e.there;
        is = e.is;
      };
      managed = managed_on store cmp IsTableOf files (synced path files) m.edits contents (record {
        tables =
            λ file file_fits live.
            synced_same store cmp IsTableOf path files (table_path store file.number);
        logs =
            λ name n is replayed. synced_same store cmp IsTableOf path files (in_folder store name);
      }) m.managed;
    };
    current = current_kept;
    manifest = manifest_kept;
    kept = record {
      tables = λ file file_fits live.
          kept_on (table_path store file.number) (tables file file_fits live);
      logs = λ name n is replayed. log_kept name n is replayed;
    };
  }
    where
      path : List ℕ
      path = log_path store number

      e : HasEdits store files m.edits
      e = m.has_edits

      named : IsFileName (file_name Log number) number Log
      named = made_name Log number fits

      kept_is : (file : Option File) → IsKept (option_map file_kept file)
      kept_is None = tt
      kept_is (Some file) = refl

      kept_on : (other : List ℕ) → IsKept (files other) → IsKept (synced path files other)
      kept_on other is = by (bytes_eq path other) refl
        where
          by : (b : Bool) → bytes_eq path other ≡ b → IsKept (synced path files other)
          by true d =
              subst (λ p. IsKept (synced path files p)) ((bytes_decides path other).0 d)
              (subst IsKept (sym (at_same path (option_map file_kept (files path)) files))
              (kept_is (files path)))
          by false d =
              subst IsKept
              (sym (at_other path (option_map file_kept (files path)) files other d)) is

      log_kept : (name : List ℕ) (n : ℕ) → IsFileName name n Log → LogIsReplayed (live_after m.edits) n
          → IsKept (synced path files (in_folder store name))
      log_kept name n is replayed = by (bytes_eq path (in_folder store name)) refl
        where
          by : (b : Bool) → bytes_eq path (in_folder store name) ≡ b
              → IsKept (synced path files (in_folder store name))
          by true d =
              subst (λ p. IsKept (synced path files p))
              ((bytes_decides path (in_folder store name)).0 d)
              (subst IsKept (sym (at_same path (option_map file_kept (files path)) files))
              (kept_is (files path)))
          by false d =
              kept_on (in_folder store name)
              (last.others_kept name n is replayed
              (λ same_name. let is_it : false ≡ true = sym d
              ∙ (bytes_decides path (in_folder store name)).1
              (ap (in_folder store) (sym same_name)) in cc))

  -- after the sync all is durable
  pub sync_makes_durable :
      (files : Files) (contents : Contents) (m : IsManaged store cmp IsTableOf files contents)
      → m.has_edits.current.since ≡ [] → m.has_edits.manifest.since ≡ []
      → TablesAreKept store files (live_after m.edits)
      → (number : ℕ) → number < 2 ^ 64 → IsLastLog store files (live_after m.edits) number
      → (allowed : Store → Type 0) (last : ℕ) (history : History)
      → MatchesHistory allowed last contents history
      → Holds store reads allowed (synced (log_path store number) files) history last
      (length history) None
  sync_makes_durable files contents m current_kept manifest_kept tables number fits log allowed last
      history matches =
      let all = sync_keeps_all files contents m current_kept manifest_kept tables number fits log in
      let more : MatchesHistory allowed (last + 0) contents history = subst
      (λ b. MatchesHistory allowed b contents history) (omega arith) matches in
      record {
        now = inl (record { contents = contents; read = inr all.managed; matches = more });
        crash =
            kept_safe store cmp IsTableOf allowed (last + 0) history
            (synced (log_path store number) files) contents all more;
      }
