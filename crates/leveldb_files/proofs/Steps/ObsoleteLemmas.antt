-- Which files aren't read: those that were missing, those that the kept manifest doesn't name, and
-- those that were unread before.
use Rattle.leveldb_base.proofs.NamesLemmas.{made_name}
use Rattle.leveldb_base.specs.History.{History}
use Rattle.leveldb_base.specs.Names.{IsFileName, file_name}
use Rattle.leveldb_base.specs.Types.{Pair}
use Rattle.leveldb_base.specs.declared.types.FileType.{FileType}
use Rattle.leveldb_base.specs.declared.types.FileType.TheVariants.{Current, Log}
use Rattle.leveldb_env.proofs.EnvLemmas.{at_other}
use Rattle.leveldb_env.specs.Env.{File, FileCrashesTo, Files, FilesCrashTo, SameBut, bytes_of, in_folder, with_file}
use Rattle.leveldb_files.proofs.Edits.CurrentLemmas.{one_current}
use Rattle.leveldb_files.proofs.Stores.KeptLemmas.{edits_left}
use Rattle.leveldb_files.proofs.Stores.ManagedLemmas.{kinds_apart}
use Rattle.leveldb_files.proofs.Stores.ManifestLemmas.{edits_on, kept_name, left_whole, managed_of, missing_left, one_has_edits}
use Rattle.leveldb_files.proofs.Histories.SafeLemmas.{cut_honest, cut_leaves, cut_off, honest_with, leaves_with, some_is}
use Rattle.leveldb_files.specs.Stores.Contents.{Contents, Store}
use Rattle.leveldb_files.specs.Edits.Current.{IsCurrentText}
use Rattle.leveldb_files.specs.Histories.Holds.{IsHonest, IsSafe}
use Rattle.leveldb_files.specs.Stores.Paths.{current_path, table_path}
use Rattle.leveldb_files.specs.Stores.Store.{HasEdits, IsStore}
use Rattle.leveldb_files.specs.Steps.StoreSteps.{IsUnnamed, IsUnread}
use Rattle.leveldb_files.specs.Edits.Edit.{Edit, NewFile}
use Rattle.leveldb_files.specs.Edits.VersionSet.{live_after}
use Rattle.std.proofs.Common.{◌∙◌, ◌≡◌, Bool, List, None, Some, [], ap, false, inl, inr, refl, subst, sym, true, ℕ, ⊎_elim}
use Rattle.std.specs.Cmp.Lexicographic.{bytes_decides}
use Rattle.std.specs.Prelude.{◌≢◌}
use Rattle.std.specs.Str.{bytes_eq}
use Rattle.std.specs.declared.cmp.Ordering.{Ordering}

module _ (store : List ℕ) (cmp : List ℕ → List ℕ → Ordering)
    (IsTableOf : List ℕ → List Pair → Type 0) where
  abbrev reads : Files → Contents → Type 0
  reads = IsStore store cmp IsTableOf

  -- ---- unread before

  -- what a crash leaves of the new files, with what it could leave of the old one under the path
  abbrev before : List ℕ → Files → Files → Files
  before path old left = with_file path (cut_off (old path)) left

  pub unread_again : (path kept : List ℕ) (old new : Files) → SameBut path old new
      → IsUnread store old path → IsUnread store old kept → IsUnread store new kept
  unread_again path kept old new same un stays = record {
    not_current = stays.not_current;
    not_manifest =
        λ left file name n leaves honest there text.
        stays.not_manifest (before path old left) file name n (was_left left leaves)
        (was_honest left honest)
        (at_other path (cut_off (old path)) left (current_path store) un.not_current ∙ there) text;
    unnamed =
        λ left edits leaves honest e.
        stays.unnamed (before path old left) edits (was_left left leaves) (was_honest left honest)
        (edits_on store cmp IsTableOf path left (before path old left) edits e
        (λ other away. at_other path (cut_off (old path)) left other away) un.not_current
        (un.not_manifest (before path old left) e.current e.name e.number (was_left left leaves)
        (was_honest left honest)
        (at_other path (cut_off (old path)) left (current_path store) un.not_current
        ∙ e.current_there) e.named));
    bare = ⊎_elim
        (λ (there : old (current_path store) ≢ None). inl
        (λ gone. there (sym (same (current_path store) un.not_current) ∙ gone)))
        (λ apart. inr apart) stays.bare;
  }
    where
      was_left : (left : Files) → FilesCrashTo new left → FilesCrashTo old (before path old left)
      was_left left leaves =
          leaves_with path old new left (cut_off (old path)) same leaves (cut_leaves (old path))

      was_honest : (left : Files) → IsHonest store new left
          → IsHonest store old (before path old left)
      was_honest left honest =
          honest_with store path old new left (cut_off (old path)) same honest
          (cut_honest (old path))

  -- ---- missing

  -- what is missing and is no log's, under the name of a table or a manifest, isn't read
  pub missing_unread : (files : Files) (name : List ℕ) (n : ℕ) (kind : FileType)
      → IsFileName name n kind → kind ≢ Current → kind ≢ Log → files (in_folder store name) ≡ None
      → files (current_path store) ≢ None
      → (allowed : Store → Type 0) (bound durable : ℕ) (history : History)
      → IsSafe store reads allowed bound durable history files
      → IsUnread store files (in_folder store name)
  missing_unread files name n kind is no_current no_log gone has_current allowed bound durable
      history safe = record {
        not_current =
            kinds_apart store name (file_name Current 0) n 0 kind Current is
            (made_name Current 0 refl) no_current;
        not_manifest =
            λ left file other k leaves honest there text.
            by_store left file other k there text leaves (safe left leaves honest).carries.read;
        unnamed = λ left edits leaves honest e.
            let c = safe left leaves honest in
            let m = managed_of store cmp IsTableOf left edits c.carries.contents e c.carries.read in
            let left_gone = missing_left (files (in_folder store name))
            (left (in_folder store name)) (leaves (in_folder store name)) gone in
            record {
              tables = λ file fits live.
                  let t = m.has_tables.all file live in
                  let h = (m.has_tables.each t.0 t.1).0 in
                  apart_from left left_gone (table_path store file.number) h.file
                  (ap (λ (f : NewFile). left (table_path store f.number)) (sym t.2) ∙ h.there);
              logs =
                  λ other k is_other replayed.
                  kinds_apart store name other n k kind Log is is_other no_log;
            };
        bare = inl has_current;
      }
    where
      apart_from : (left : Files) → left (in_folder store name) ≡ None
          → (other : List ℕ) (file : File) → left other ≡ Some file
          → bytes_eq (in_folder store name) other ≡ false
      apart_from left none other file there = by (bytes_eq (in_folder store name) other) refl
        where
          by : (b : Bool) → bytes_eq (in_folder store name) other ≡ b
              → bytes_eq (in_folder store name) other ≡ false
          by false e = e
          by true e =
              absurd
              (let never : None ≡ Some file = sym none
              ∙ ap left ((bytes_decides (in_folder store name) other).0 e) ∙ there in cc)

      by_store : (left : Files) (file : File) (other : List ℕ) (k : ℕ)
          → left (current_path store) ≡ Some file → IsCurrentText (bytes_of file) other k
          → FilesCrashTo files left → {contents : Contents} → reads left contents
          → bytes_eq (in_folder store name) (in_folder store other) ≡ false
      by_store left file other k there text leaves (inl bare) =
          absurd
          (has_current
          (kept_name (files (current_path store)) (left (current_path store))
          (leaves (current_path store)) bare.0.no_current))
      by_store left file other k there text leaves (inr m) =
          let e = m.has_edits in
          let current = some_is e.current file (sym e.current_there ∙ there) in
          let same =
          (one_current (bytes_of file) e.name other e.number k
          (subst (λ f. IsCurrentText (bytes_of f) e.name e.number) current e.named) text).0 in
          apart_from left
          (missing_left (files (in_folder store name)) (left (in_folder store name))
          (leaves (in_folder store name)) gone) (in_folder store other) e.manifest
          (ap (λ z. left (in_folder store z)) (sym same) ∙ e.there)

  -- ---- obsolete

  -- what the manifest's edits don't name, where the manifest is kept
  pub obsolete_unread : (files : Files) (edits : List Edit) (e : HasEdits store files edits)
      → e.current.since ≡ [] → e.manifest.since ≡ [] → (path : List ℕ)
      → bytes_eq path (current_path store) ≡ false
      → bytes_eq path (in_folder store e.name) ≡ false → IsUnnamed store (live_after edits) path
      → IsUnread store files path
  obsolete_unread files edits e kept_current kept_manifest path no_current no_manifest un = record {
    not_current = no_current;
    not_manifest = λ left file name n leaves honest there text.
        let c = left_whole e.current (left (current_path store)) kept_current
        (subst (λ f. FileCrashesTo f (left (current_path store))) e.current_there
        (leaves (current_path store))) in
        let same_file = some_is c.now file (sym c.there ∙ there) in
        let mine : IsCurrentText (bytes_of file) e.name e.number = subst
        (λ b. IsCurrentText b e.name e.number) (sym c.bytes ∙ ap bytes_of same_file) e.named in
        subst (λ z. bytes_eq path (in_folder store z) ≡ false)
        (one_current (bytes_of file) e.name name e.number n mine text).0 no_manifest;
    unnamed = λ left others leaves honest o.
        let mine = edits_left store files left edits e kept_current kept_manifest leaves in
        subst (λ es. IsUnnamed store (live_after es) path)
        (one_has_edits store left edits others mine o).1 un;
    bare = inl (λ gone. let never : Some e.current ≡ None = sym e.current_there ∙ gone in cc);
  }
