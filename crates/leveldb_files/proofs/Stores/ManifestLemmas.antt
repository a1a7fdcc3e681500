-- What is read of a manifest: one list of edits, by which alone the files are a store.
use Rattle.leveldb_base.specs.Types.{Pair}
use Rattle.leveldb_env.specs.Env.{File, FileCrashesTo, Files, SameBut, bytes_of, in_folder, kept_file}
use Rattle.leveldb_mem.proofs.LawsLemmas.{log_laws}
use Rattle.leveldb_mem.specs.Log.{End, IsLogFile}
use Rattle.leveldb_files.proofs.Stores.BatchesLemmas.{each_one}
use Rattle.leveldb_files.proofs.Edits.CurrentLemmas.{one_current}
use Rattle.leveldb_files.proofs.Stores.ManagedLemmas.{IsFoundAgain, SameBytes, found_again}
use Rattle.leveldb_files.proofs.Histories.SafeLemmas.{some_is}
use Rattle.leveldb_files.proofs.Edits.EditLemmas.{one_edit}
use Rattle.leveldb_files.specs.Stores.Batches.{Each}
use Rattle.leveldb_files.specs.Stores.Contents.{Contents}
use Rattle.leveldb_files.specs.Edits.Current.{IsCurrentText}
use Rattle.leveldb_files.specs.Stores.Paths.{current_path}
use Rattle.leveldb_files.specs.Stores.Store.{HasEdits, IsManagedBy, IsManifest, IsStore}
use Rattle.leveldb_files.specs.Edits.Edit.{Edit, IsEdit}
use Rattle.std.proofs.Common.{◌++◌, ◌∙◌, ◌≡◌, List, None, Option, Some, [], ap, append-nil, arith, false, inl, inr, length, refl, subst, sym, ℕ}
use Rattle.std.proofs.lemmas.List.{nil_from_length}
use Rattle.std.specs.Str.{bytes_eq}
use Rattle.std.specs.declared.cmp.Ordering.{Ordering}

-- ---- a kept file

pub record IsLeftWhole (file : File) (left : Option File) : Type 0 where
  pub now : File
  pub there : left ≡ Some now
  pub kept : now.since ≡ []
  pub bytes : bytes_of now ≡ bytes_of file

-- a file of which all is kept is left whole by a crash
pub left_whole : (file : File) (left : Option File) → file.since ≡ []
    → FileCrashesTo (Some file) left → IsLeftWhole file left
left_whole file left is leaves =
    let few = ap length is in
    let none : leaves.0 ≡ [] = nil_from_length leaves.0 (omega (arith, leaves.2, few)) in
    record {
      now = kept_file (file.kept ++ leaves.0);
      there = leaves.3;
      kept = refl;
      bytes = append-nil (file.kept ++ leaves.0) ∙ ap (λ b. file.kept ++ b) (none ∙ sym is);
    }

-- ---- what is missing

-- a crash leaves no file where none was
pub missing_left : (file left : Option File) → FileCrashesTo file left → file ≡ None → left ≡ None
missing_left None left leaves e = leaves
missing_left (Some file) left leaves e = absurd (let never : Some file ≡ None = e in cc)

pub kept_name : (file left : Option File) → FileCrashesTo file left → left ≡ None → file ≡ None
kept_name None left leaves e = refl
kept_name (Some file) left leaves e = absurd (let never : _ = sym leaves.3 ∙ e in cc)

-- ---- edits

-- `CURRENT` names one manifest, which has one list of edits
pub one_has_edits :
    (store : List ℕ) (files : Files) (these those : List Edit) (a : HasEdits store files these)
    (b : HasEdits store files those) → (a.name ≡ b.name) × (these ≡ those)
one_has_edits store files these those a b =
    let current = some_is a.current b.current (sym a.current_there ∙ b.current_there) in
    let name =
    (one_current (bytes_of b.current) a.name b.name a.number b.number
    (subst (λ f. IsCurrentText (bytes_of f) a.name a.number) current a.named) b.named).0 in
    let file = some_is a.manifest b.manifest
    (sym a.there ∙ ap (λ n. files (in_folder store n)) name ∙ b.there) in
    let moved = subst (λ f. IsManifest f these) file a.is in
    let records = (log_laws.one
    (bytes_of b.manifest) moved.records b.is.records moved.end b.is.end moved.read b.is.read).0
    in (
      name,
      each_one IsEdit (λ t x y p q. one_edit t x y p q) b.is.records these those
          (subst (λ rs. Each IsEdit rs these) records moved.each) b.is.each,
    )

-- the same edits are there where `CURRENT` and the manifest are found again with their bytes
pub edits_again : (store : List ℕ) (old new : Files) (edits : List Edit)
    (e : HasEdits store old edits) → IsFoundAgain e.current (new (current_path store))
    → IsFoundAgain e.manifest (new (in_folder store e.name)) → HasEdits store new edits
edits_again store old new edits e c m = record {
  current = c.now;
  current_there = c.there;
  name = e.name;
  number = e.number;
  named = subst (λ b. IsCurrentText b e.name e.number) (sym c.bytes) e.named;
  manifest = m.now;
  there = m.there;
  is = record {
    records = e.is.records;
    end = e.is.end;
    read = subst (λ b. IsLogFile b e.is.records e.is.end) (sym m.bytes) e.is.read;
    each = e.is.each;
  };
}

-- files of the same bytes have the same edits
pub edits_same : (store : List ℕ) (old new : Files) (edits : List Edit)
    → ((path : List ℕ) → SameBytes (old path) (new path)) → HasEdits store old edits
    → HasEdits store new edits
edits_same store old new edits same e = edits_again store old new edits e
    (found_again (old (current_path store)) (new (current_path store)) e.current
    (same (current_path store)) e.current_there)
    (found_again (old (in_folder store e.name)) (new (in_folder store e.name)) e.manifest
    (same (in_folder store e.name)) e.there)

module _ (store : List ℕ) (cmp : List ℕ → List ℕ → Ordering)
    (IsTableOf : List ℕ → List Pair → Type 0) where
  abbrev reads : Files → Contents → Type 0
  reads = IsStore store cmp IsTableOf

  -- ---- what is read of a manifest

  module _ (name : List ℕ) (number : ℕ) (current : File)
      (named : IsCurrentText (bytes_of current) name number) where
    -- the edits that a store is read by are those of the manifest's records
    pub record ReadBy (left : Files) (records : List (List ℕ)) (contents : Contents) : Type 0 where
      pub edits : List Edit
      pub each : Each IsEdit records edits
      pub managed : IsManagedBy store cmp IsTableOf left edits contents

    pub read_by :
        (left : Files) (file : File) (records : List (List ℕ)) (end : End) (contents : Contents)
        → left (current_path store) ≡ Some current → left (in_folder store name) ≡ Some file
        → IsLogFile (bytes_of file) records end → reads left contents → ReadBy left records contents
    read_by left file records end contents here there read (inl bare) =
        absurd (let never : None ≡ Some current = sym bare.0.no_current ∙ here in cc)
    read_by left file records end contents here there read (inr m) =
        let e = m.has_edits in
        let same_current : e.current
        ≡ current = some_is e.current current (sym e.current_there ∙ here) in
        let same_name =
        (one_current (bytes_of current) e.name name e.number number
        (subst (λ f. IsCurrentText (bytes_of f) e.name e.number) same_current e.named) named).0
        in
        let same_file : e.manifest
        ≡ file =
        some_is e.manifest file
        (sym e.there ∙ ap (λ n. left (in_folder store n)) same_name ∙ there) in
        let same_records =
        (log_laws.one (bytes_of file) e.is.records records e.is.end end
        (subst (λ f. IsLogFile (bytes_of f) e.is.records e.is.end) same_file e.is.read) read).0
        in
        record {
          edits = m.edits;
          each = subst (λ rs. Each IsEdit rs m.edits) same_records e.is.each;
          managed = m.managed;
        }

    pub has_edits :
        (left : Files) (file : File) (records : List (List ℕ)) (end : End) (edits : List Edit)
        → left (current_path store) ≡ Some current → left (in_folder store name) ≡ Some file
        → IsLogFile (bytes_of file) records end → Each IsEdit records edits
        → HasEdits store left edits
    has_edits left file records end edits here there read each = record {
      current = current;
      current_there = here;
      name = name;
      number = number;
      named = named;
      manifest = file;
      there = there;
      is = record { records = records; end = end; read = read; each = each };
    }

  -- a store is read by its manifest's edits
  pub managed_of : (files : Files) (edits : List Edit) (contents : Contents)
      → HasEdits store files edits → reads files contents
      → IsManagedBy store cmp IsTableOf files edits contents
  managed_of files edits contents e is =
      let by = read_by e.name e.number e.current e.named files e.manifest
      e.is.records e.is.end contents e.current_there e.there e.is.read is in
      let same : by.edits
      ≡ edits =
      each_one IsEdit
      (λ t x y p q. one_edit t x y p q) e.is.records by.edits edits by.each e.is.each in
      subst (λ es. IsManagedBy store cmp IsTableOf files es contents) same by.managed

  -- where only one file differs that is neither `CURRENT` nor the manifest, the edits are the same
  pub edits_on :
      (path : List ℕ) (old new : Files) (edits : List Edit) (e : HasEdits store old edits)
      → SameBut path old new → bytes_eq path (current_path store) ≡ false
      → bytes_eq path (in_folder store e.name) ≡ false
      → HasEdits store new edits
  edits_on path old new edits e same no_current no_manifest = record {
    current = e.current;
    current_there = same (current_path store) no_current ∙ e.current_there;
    name = e.name;
    number = e.number;
    named = e.named;
    manifest = e.manifest;
    there = same (in_folder store e.name) no_manifest ∙ e.there;
    is = e.is;
  }
