-- What files carry after steps that change nothing that is read, and which files a safe store
-- keeps.
use Rattle.leveldb_base.proofs.NamesLemmas.{made_name}
use Rattle.leveldb_base.specs.History.{History}
use Rattle.leveldb_base.specs.Names.{IsFileName, file_name}
use Rattle.leveldb_base.specs.Types.{Pair}
use Rattle.leveldb_base.specs.declared.types.FileType.TheVariants.{Current, Descriptor, Table}
use Rattle.leveldb_env.proofs.EnvLemmas.{at_other, at_same}
use Rattle.leveldb_env.specs.Env.{File, FileCrashesTo, Files, FilesCrashTo, SameBut, bytes_of, file_kept, in_folder, kept_file, synced, with_file}
use Rattle.leveldb_files.proofs.Histories.HonestCrashLemmas.{all_honest, all_kept, all_leaves, all_same}
use Rattle.leveldb_files.proofs.Stores.ManagedLemmas.{SameBytes, kinds_apart, managed_on}
use Rattle.leveldb_files.proofs.Stores.ManifestLemmas.{edits_on, edits_same, managed_of}
use Rattle.leveldb_files.proofs.Histories.SafeLemmas.{Honest, front_honest, honest_with, leaves_with, some_is}
use Rattle.leveldb_files.proofs.Steps.SwapEditLemmas.{replayed_by}
use Rattle.leveldb_files.proofs.Steps.UnreadLemmas.{unnamed_on}
use Rattle.leveldb_files.specs.Stores.Contents.{Contents, Store}
use Rattle.leveldb_files.specs.Edits.Current.{IsCurrentText}
use Rattle.leveldb_files.specs.Histories.Holds.{IsHonest, IsSafe}
use Rattle.leveldb_files.specs.Stores.Paths.{table_path}
use Rattle.leveldb_files.specs.Stores.Store.{HasEdits, IsManaged, IsStore, LastNumbersFit}
use Rattle.leveldb_files.specs.Steps.StoreSteps.{EditsRefine, AppendedAreBytes, IsKept, IsUnread, SameButNextFile, TablesAreKept}
use Rattle.leveldb_files.specs.Edits.Edit.{Edit, NewFile}
use Rattle.leveldb_files.specs.Edits.VersionSet.{level_file, live_after}
use Rattle.std.proofs.Common.{◌++◌, ◌<◌, ◌^◌, ◌∙◌, ◌≡◌, Bool, List, None, Option, Some, [], ap, append-nil, arith, false, length, length-append, refl, subst, sym, true, ℕ}
use Rattle.std.proofs.lemmas.List.{nil_from_length}
use Rattle.std.specs.Cmp.Lexicographic.{bytes_decides}
use Rattle.std.specs.Option.{option_map}
use Rattle.std.specs.Prelude.{IsSome}
use Rattle.std.specs.Str.{bytes_eq}
use Rattle.std.specs.declared.cmp.Ordering.{Ordering}

module _ (store : List ℕ) (cmp : List ℕ → List ℕ → Ordering)
    (IsTableOf : List ℕ → List Pair → Type 0) where
  abbrev reads : Files → Contents → Type 0
  reads = IsStore store cmp IsTableOf

  pub managed_same : (old new : Files) (contents : Contents)
      → ((path : List ℕ) → SameBytes (old path) (new path))
      → IsManaged store cmp IsTableOf old contents → IsManaged store cmp IsTableOf new contents
  managed_same old new contents same m = record {
    edits = m.edits;
    has_edits = edits_same store old new m.edits same m.has_edits;
    managed = managed_on store cmp IsTableOf old new m.edits contents (record {
      tables = λ file fits live. same (table_path store file.number);
      logs = λ name n is replayed. same (in_folder store name);
    }) m.managed;
  }

  -- a sync changes nothing that is read
  pub synced_same : (name : List ℕ) (files : Files) (path : List ℕ)
      → SameBytes (files path) (synced name files path)
  synced_same name files path = by (bytes_eq name path) refl
    where
      by : (b : Bool) → bytes_eq name path ≡ b → SameBytes (files path) (synced name files path)
      by true e =
          subst (λ p. SameBytes (files p) (synced name files p)) ((bytes_decides name path).0 e)
          (ap (option_map bytes_of) (at_same name (option_map file_kept (files name)) files)
          ∙ all_same (files name))
      by false e =
          ap (option_map bytes_of) (at_other name (option_map file_kept (files name)) files path e)

  pub synced_managed : (name : List ℕ) (files : Files) (contents : Contents)
      → IsManaged store cmp IsTableOf files contents
      → IsManaged store cmp IsTableOf (synced name files) contents
  synced_managed name files contents m =
      managed_same files (synced name files) contents (synced_same name files) m

  -- ---- a file that isn't read

  pub unread_managed : (path : List ℕ) (old new : Files) (contents : Contents)
      → SameBut path old new → IsUnread store old path → AppendedAreBytes old
      → IsManaged store cmp IsTableOf old contents → IsManaged store cmp IsTableOf new contents
  unread_managed path old new contents same un bytes m =
      let e = m.has_edits in
      let left = all_kept old in
      let there = edits_same store old left m.edits (λ p. all_same (old p)) e in
      let named = un.unnamed left m.edits (all_leaves old bytes) (all_honest store old) there in
      let no_manifest = un.not_manifest left there.current there.name there.number
      (all_leaves old bytes) (all_honest store old) there.current_there there.named in
      record {
        edits = m.edits;
        has_edits = edits_on store cmp IsTableOf path old new m.edits e same un.not_current
            (un.not_manifest left (file_kept e.current) e.name e.number (all_leaves old bytes)
            (all_honest store old) (ap (option_map file_kept) e.current_there)
            (subst (λ b. IsCurrentText b e.name e.number)
            (sym (append-nil (bytes_of e.current))) e.named));
        managed =
            managed_on store cmp IsTableOf old new m.edits contents
            (unnamed_on store cmp IsTableOf path old new (live_after m.edits) same named) m.managed;
      }

  -- ---- a snapshot of the edits

  pub full_edits_refine : (bound : ℕ) (files : Files) (edits others : List Edit)
      → SameButNextFile (live_after edits) (live_after others) → LastNumbersFit others
      → EditsRefine store cmp IsTableOf bound files edits others
  full_edits_refine bound files edits others s fits left contents leaves honest most m = (
    contents,
    record {
      comparator = m.comparator;
      comparator_is = s.comparator ∙ m.comparator_is;
      log_is = subst IsSome (sym s.log_number) m.log_is;
      next_file_is = s.next_file;
      last = m.last;
      last_is = s.last_sequence ∙ m.last_is;
      numbers_fit = fits;
      tables = m.tables;
      has_tables = record {
        each = λ table c. let h = m.has_tables.each table c in (h.0, s.file table.file ∙ h.1, h.2);
        all = λ file live. m.has_tables.all file (sym (s.file file) ∙ live);
      };
      logs = m.logs;
      has_logs = record {
        each = λ log c. let h = m.has_logs.each log c in (
          h.0,
          replayed_by (live_after edits)
              (live_after others) log.number s.log_number s.previous_log h.1,
          h.2,
        );
        all =
            λ name n is replayed some.
            m.has_logs.all name n is
            (replayed_by (live_after others) (live_after edits) n (sym s.log_number)
            (sym s.previous_log) replayed) some;
        rising = m.has_logs.rising;
      };
      fit = m.fit;
      is = m.is;
    },
    record {
      later = omega arith;
      bounded = most;
      store = refl;
      same = λ t late key value. (λ x. x, λ x. x);
      none_new = λ entry c. c;
    },
  )

  -- ---- edits one after another

  pub refine_onwards : (bound : ℕ) (files : Files) (edits others last : List Edit)
      → EditsRefine store cmp IsTableOf bound files edits others
      → EditsRefine store cmp IsTableOf bound files others last
      → EditsRefine store cmp IsTableOf bound files edits last
  refine_onwards bound files edits others last first second left contents leaves honest most m =
      let one = first left contents leaves honest most m in
      let two = second left one.0 leaves honest one.2.bounded one.1 in (
        two.0,
        two.1,
        record {
          later = omega (arith, one.2.later, two.2.later);
          bounded = two.2.bounded;
          store = two.2.store ∙ one.2.store;
          same = λ t late key value.
              let a = one.2.same t (omega (arith, late, two.2.later)) key value in
              let b = two.2.same t late key value in
              (λ x. a.0 (b.0 x), λ x. b.1 (a.1 x));
          none_new = λ entry c. one.2.none_new entry (two.2.none_new entry c);
        },
      )

  -- ---- what is kept

  -- The live tables of safe files are kept, since a crash could cut them to another size.
  pub safe_tables_kept :
      (files : Files) (bytes : AppendedAreBytes files) (allowed : Store → Type 0) (bound durable : ℕ)
      (history : History) (contents : Contents)
      → IsSafe store reads allowed bound durable history files
      → (m : IsManaged store cmp IsTableOf files contents)
      → (file : NewFile) (fits : file.number < 2 ^ 64)
      → (live_after m.edits).file (level_file file) ≡ Some file
      → IsKept (files (table_path store file.number))
  safe_tables_kept files bytes allowed bound durable history contents safe m file fits live =
      by (files (table_path store file.number)) refl
    where
      by : (f : Option File) → files (table_path store file.number) ≡ f → IsKept f
      by None e = tt
      by (Some f) e = whole
        where
          abbrev_path : List ℕ
          abbrev_path = table_path store file.number

          cut_one : File
          cut_one = kept_file (f.kept ++ [])

          left : Files
          left = with_file (table_path store file.number) (Some cut_one) (all_kept files)

          leaves : FilesCrashTo files left
          leaves =
              leaves_with (table_path store file.number) files files (all_kept files) (Some cut_one)
              (λ other away. refl) (all_leaves files bytes)
              (subst (λ x. FileCrashesTo x (Some cut_one)) (sym e)
              ([], (λ i. omega arith), omega arith, refl))

          honest : IsHonest store files left
          honest = honest_with store (table_path store file.number) files files (all_kept files)
              (Some cut_one) (λ other away. refl) (all_honest store files)
              (subst (λ x. Honest x (Some cut_one)) (sym e) (front_honest f [] f.since refl))

          named : IsFileName (file_name Table file.number) file.number Table
          named = made_name Table file.number fits

          edits : HasEdits store left m.edits
          edits = let kept =
              edits_same store files (all_kept files) m.edits
              (λ p. all_same (files p)) m.has_edits in
              edits_on store cmp IsTableOf (table_path store file.number)
              (all_kept files) left m.edits kept
              (λ other away.
              at_other (table_path store file.number) (Some cut_one)
              (all_kept files) other away)
              (kinds_apart store (file_name Table file.number)
              (file_name Current 0) file.number 0 Table Current named (made_name Current 0 refl)
              (λ d. cc))
              (kinds_apart store
              (file_name Table file.number) kept.name file.number kept.number Table Descriptor
              named kept.named.0 (λ d. cc))

          whole : f.since ≡ []
          whole = let c = safe left leaves honest in
              let there = managed_of store cmp IsTableOf left m.edits c.carries.contents edits
              c.carries.read in
              let t = there.has_tables.all file live in
              let h = (there.has_tables.each t.0 t.1).0 in
              let is_cut : h.file
              ≡ cut_one =
              some_is h.file cut_one
              (sym h.there ∙ ap (λ (x : NewFile). left (table_path store x.number)) t.2
              ∙ at_same (table_path store file.number) (Some cut_one) (all_kept files)) in
              let u = m.managed.has_tables.all file live in
              let g = (m.managed.has_tables.each u.0 u.1).0 in
              let is_whole : g.file
              ≡ f =
              some_is g.file f
              (sym g.there ∙ ap (λ (x : NewFile). files (table_path store x.number)) u.2 ∙ e) in
              let size : length (bytes_of cut_one)
              ≡ length (bytes_of f) = sym (ap (λ x. length (bytes_of x)) is_cut) ∙ h.size
              ∙ ap (λ (x : NewFile). x.size) (t.2 ∙ sym u.2) ∙ sym g.size
              ∙ ap (λ x. length (bytes_of x)) is_whole in
              let one = length-append (f.kept ++ []) [] in
              let two = length-append f.kept [] in
              let three = length-append f.kept f.since in
              nil_from_length f.since (omega (arith, size, one, two, three))

  pub tables_kept : (files : Files) (bytes : AppendedAreBytes files) (allowed : Store → Type 0)
      (bound durable : ℕ) (history : History) (contents : Contents)
      → IsSafe store reads allowed bound durable history files
      → (m : IsManaged store cmp IsTableOf files contents)
      → TablesAreKept store files (live_after m.edits)
  tables_kept files bytes allowed bound durable history contents safe m file fits live =
      safe_tables_kept files bytes allowed bound durable history contents safe m file fits live
