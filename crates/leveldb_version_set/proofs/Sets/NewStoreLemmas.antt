-- A new store's manifest: what is done on the way keeps each history, and then all of it is kept.
use Rattle.leveldb_base.proofs.HistoryLemmas.{in_cases, in_none}
use Rattle.leveldb_base.specs.Names.{IsFileName, file_name}
use Rattle.leveldb_base.specs.Types.{Pair}
use Rattle.leveldb_base.specs.declared.types.FileType.{FileType}
use Rattle.leveldb_base.specs.declared.types.FileType.TheVariants.{Current, Descriptor, Log, Table, Temp}
use Rattle.leveldb_env.proofs.EnvLemmas.{at_other}
use Rattle.leveldb_env.specs.Env.{Files, in_folder, kept_file}
use Rattle.leveldb_files.proofs.Steps.FirstCurrentLemmas.{first_current_kept, no_store_read}
use Rattle.leveldb_files.proofs.Steps.KeepsLemmas.{first_current_keeps, unread_keeps}
use Rattle.leveldb_version_set.proofs.Sets.LogKeepsLemmas.{bytes_of_some, keeps_then}
use Rattle.leveldb_files.proofs.Stores.ManagedLemmas.{kinds_apart}
use Rattle.leveldb_version_set.proofs.Sets.NewManifestKeepsLemmas.{current_named, elsewhere, framed_is_manifest, half_same, half_way, manifest_named, next_current, one_bytes, renamed_is, step_one, step_three, step_three_is, step_two, temp_named, text_file, then_same, three_bytes, three_same}
use Rattle.leveldb_files.proofs.Histories.SafeLemmas.{some_is}
use Rattle.leveldb_files.proofs.Steps.UnreadLemmas.{manifest_unread, other_unread, unread_stays_safe}
use Rattle.leveldb_files.proofs.Edits.EditLemmas.{written_is_read}
use Rattle.leveldb_files.proofs.Edits.VersionSetLemmas.{none_is_some}
use Rattle.leveldb_files.specs.Stores.Contents.{Contents, Store, made}
use Rattle.leveldb_version_set.specs.Sets.CurrentFile.{temp_path}
use Rattle.leveldb_version_set.specs.Sets.NewManifest.{MakingManifest}
use Rattle.leveldb_version_set.specs.Sets.NewStore.{first_edit, first_manifest}
use Rattle.leveldb_files.specs.Stores.Paths.{current_path, manifest_path}
use Rattle.leveldb_files.specs.Stores.Store.{HasNoStore, IsManifest, IsStore, LastNumbersFit, contents_of}
use Rattle.leveldb_files.specs.Steps.StoreSteps.{AppendedAreBytes, IsAllKept, IsNew, IsUnread, KeepsHistory}
use Rattle.leveldb_files.specs.Edits.Edit.{Edit, IsEncodable, edit_bytes}
use Rattle.leveldb_files.specs.Edits.VersionSet.{live_after}
use Rattle.leveldb_version_set.specs.Sets.VersionSetLaws.{NewStoreIsKept}
use Rattle.std.proofs.Common.{◌<◌, ◌^◌, ◌∙◌, ◌∷◌, ◌≡◌, List, None, Some, [], ap, arith, inl, inr, refl, subst, sym, ⊎_elim, ℕ}
use Rattle.std.proofs.lemmas.List.Elements.{All-cons, All-nil}
use Rattle.std.specs.Prelude.{◌≢◌, Contains}
use Rattle.std.specs.declared.cmp.Ordering.{Ordering}

module _ (store : List ℕ) (cmp : List ℕ → List ℕ → Ordering)
    (IsTableOf : List ℕ → List Pair → Type 0) (allowed : Store → Type 0) where
  abbrev reads : Files → Contents → Type 0
  reads = IsStore store cmp IsTableOf

  module _ (comparator : List ℕ) (files : Files) (bare : HasNoStore store files)
      (old_bytes : AppendedAreBytes files) (can : IsEncodable (first_edit comparator))
      (may : allowed (made (Some comparator))) where
    fits : 1 < 2 ^ 64
    fits = omega arith

    abbrev bytes : List ℕ
    bytes = first_manifest comparator

    abbrev edits : List Edit
    edits = first_edit comparator ∷ []

    abbrev one : Files
    one = step_one store 1 fits bytes files

    abbrev two : Files
    two = step_two store 1 fits bytes files

    abbrev three : Files
    three = step_three store 1 fits bytes files

    is_manifest : IsManifest (kept_file bytes) edits
    is_manifest = framed_is_manifest (edit_bytes (first_edit comparator) ∷ []) edits
        (written_is_read (first_edit comparator) can, tt)
        (All-cons (λ text. text ≢ []) (edit_bytes (first_edit comparator)) []
        (bytes_of_some (first_edit comparator) can
        (λ e. let never : Some comparator ≡ None = ap (λ (it : Edit). it.comparator) e in cc))
        (All-nil (λ text. text ≢ [])))

    abbrev is_new : IsNew (live_after edits)
    is_new = record {
      comparator = comparator;
      comparator_is = refl;
      log_is = refl;
      next_file_is = refl;
      last_is = refl;
      no_table = λ file live. none_is_some live;
    }

    numbers_fit : LastNumbersFit edits
    numbers_fit one_edit n c is = ⊎_elim
        (λ (same : first_edit comparator ≡ one_edit).
        let zero : 0 ≡ n = some_is 0 n
        (subst (λ (it : Edit). it.last_sequence ≡ Some n) (sym same) is) in
        omega (arith, zero))
        (λ (none : Contains [] one_edit). absurd (in_none one_edit none))
        (in_cases (first_edit comparator) one_edit [] c)

    -- no table and no log is there meanwhile
    two_elsewhere : (name : List ℕ) (k : ℕ) (kind : FileType) → IsFileName name k kind
        → Descriptor ≢ kind → Temp ≢ kind
        → two (in_folder store name) ≡ files (in_folder store name)
    two_elsewhere name k kind is no_manifest no_temp =
        at_other (temp_path store 1) (text_file store 1 fits) one (in_folder store name)
        (kinds_apart store (file_name Temp 1) name 1 k Temp kind (temp_named store 1 fits) is
        no_temp)
        ∙ at_other (manifest_path store 1) (Some (kept_file bytes)) files (in_folder store name)
        (kinds_apart store (file_name Descriptor 1) name 1 k Descriptor kind
        (manifest_named store 1 fits) is no_manifest)

    two_bare : HasNoStore store two
    two_bare = record {
      no_current = two_elsewhere (file_name Current 0) 0 Current (current_named store 1 fits)
          (λ d. cc) (λ d. cc) ∙ bare.no_current;
      no_table = λ name k is.
          two_elsewhere name k Table is (λ d. cc) (λ d. cc) ∙ bare.no_table name k is;
      no_log = λ name k is.
          two_elsewhere name k Log is (λ d. cc) (λ d. cc) ∙ bare.no_log name k is;
    }

    new_unread : IsUnread store files (manifest_path store 1)
    new_unread = manifest_unread store cmp IsTableOf files bare.no_current (file_name Descriptor 1) 1
        (manifest_named store 1 fits)

    temp_unread : (any : Files) → IsUnread store any (temp_path store 1)
    temp_unread any = other_unread store cmp IsTableOf any (file_name Temp 1) 1 Temp
        (temp_named store 1 fits) (λ d. cc) (λ d. cc) (λ d. cc) (λ d. cc)

    module _ (bound : ℕ) where
      keeps_three : KeepsHistory store cmp IsTableOf allowed bound files three
      keeps_three =
          keeps_then store cmp IsTableOf allowed bound files one three
          (unread_keeps store cmp IsTableOf allowed (manifest_path store 1) files one
          (λ other away.
          at_other (manifest_path store 1) (Some (kept_file bytes)) files other away) old_bytes
          new_unread bound)
          (keeps_then store cmp IsTableOf allowed bound one two three
          (unread_keeps store cmp IsTableOf allowed (temp_path store 1) one two
          (λ other away. at_other (temp_path store 1) (text_file store 1 fits) one other away)
          (one_bytes store 1 fits bytes files old_bytes) (temp_unread one) bound)
          (first_current_keeps store cmp IsTableOf allowed two two_bare (file_name Temp 1) edits
          (next_current store 1 fits bytes files edits is_manifest) is_new numbers_fit may bound
          three (inr (sym (renamed_is store 1 fits bytes files)))))

      module _ (now : Files) (making : MakingManifest store 1 bytes files now) where
        half_bare : now (current_path store) ≡ files (current_path store) → HasNoStore store now
        half_bare same = record {
          no_current = same ∙ bare.no_current;
          no_table = λ name k is.
              elsewhere store 1 fits bytes files now making name k Table is (λ d. cc) (λ d. cc)
              (λ d. cc) ∙ bare.no_table name k is;
          no_log = λ name k is.
              elsewhere store 1 fits bytes files now making name k Log is (λ d. cc) (λ d. cc)
              (λ d. cc) ∙ bare.no_log name k is;
        }

        half_keeps : now (current_path store) ≡ files (current_path store)
            → KeepsHistory store cmp IsTableOf allowed bound files now
        half_keeps same =
            let half = half_way store 1 fits bytes files now making in
            record {
              now = λ history c. record {
                contents = c.contents;
                read = inl (
                  half_bare same,
                  no_store_read store cmp IsTableOf files c.contents bare c.read,
                );
                matches = c.matches;
              };
              crash = λ durable history safe.
                  unread_stays_safe store cmp IsTableOf (temp_path store 1) half now
                  (then_same store 1 fits bytes files now making same) (temp_unread half) allowed
                  bound durable history
                  (unread_stays_safe store cmp IsTableOf (manifest_path store 1) files half
                  (half_same store 1 fits bytes files now making) new_unread allowed bound durable
                  history safe);
            }

        making_keeps : KeepsHistory store cmp IsTableOf allowed bound files now
        making_keeps = ⊎_elim half_keeps
            (λ (both : (now (current_path store) ≡ text_file store 1 fits)
            × (now (manifest_path store 1) ≡ Some (kept_file bytes))).
            keeps_then store cmp IsTableOf allowed bound files three now keeps_three
            (unread_keeps store cmp IsTableOf allowed (temp_path store 1) three now
            (three_same store 1 fits bytes files now making both.0 both.1)
            (three_bytes store 1 fits bytes files old_bytes) (temp_unread three) bound))
            making.current

    pub new_store_is_kept : NewStoreIsKept store cmp IsTableOf allowed comparator files
    new_store_is_kept = record {
      meanwhile = λ bound now making. making_keeps bound now making;
      after = subst (λ f. IsAllKept store cmp IsTableOf f (contents_of comparator [] [] 0))
          (renamed_is store 1 fits bytes files ∙ step_three_is store 1 fits bytes files)
          (first_current_kept store cmp IsTableOf two two_bare (file_name Temp 1) edits
          (next_current store 1 fits bytes files edits is_manifest) is_new numbers_fit);
    }
