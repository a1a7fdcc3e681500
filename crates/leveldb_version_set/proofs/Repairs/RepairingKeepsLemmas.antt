-- While a repair is made it only adds files, none of which is read: each history is kept.
use Rattle.leveldb_base.proofs.NamesLemmas.{made_name}
use Rattle.leveldb_base.specs.Names.{IsFileName, MayHaveNumber, file_name}
use Rattle.leveldb_base.specs.Types.{Pair}
use Rattle.leveldb_base.specs.declared.types.FileType.{FileType}
use Rattle.leveldb_base.specs.declared.types.FileType.TheVariants.{Current, DBLock, Descriptor, Log, Table, Temp}
use Rattle.leveldb_env.proofs.EnvLemmas.{bytes_eq-apart}
use Rattle.leveldb_env.specs.Env.{File, FileCrashesTo, Files, FilesCrashTo, in_folder, kept_file, or_empty}
use Rattle.leveldb_files.proofs.Stores.ManagedLemmas.{kinds_apart, managed_on, same_bytes}
use Rattle.leveldb_files.proofs.Stores.ManifestLemmas.{kept_name, missing_left}
use Rattle.leveldb_files.proofs.Histories.SafeLemmas.{by_name}
use Rattle.leveldb_files.specs.Stores.Contents.{Contents, Store}
use Rattle.leveldb_files.specs.Edits.Current.{current_text}
use Rattle.leveldb_version_set.specs.Repairs.Found.{HasNoTableNorLog}
use Rattle.leveldb_files.specs.Histories.Holds.{IsHonest}
use Rattle.leveldb_files.specs.Stores.Paths.{current_path, lock_path, manifest_path, table_path}
use Rattle.leveldb_version_set.specs.Repairs.Repairing.{IsAmidRepair, ManifestsGoOn}
use Rattle.leveldb_files.specs.Stores.Store.{HasNoStore, IsManaged, IsStore}
use Rattle.leveldb_files.specs.Steps.StoreSteps.{IsAboveLogs, KeepsHistory}
use Rattle.leveldb_files.specs.Edits.Edit.{NewFile}
use Rattle.std.proofs.Common.{◌+◌, ◌<◌, ◌^◌, ◌∙◌, ◌≡◌, List, None, Option, Some, ap, arith, false, inl, inr, refl, subst, sym, ℕ, ⊎_elim}
use Rattle.std.specs.Str.{bytes_eq}
use Rattle.std.specs.declared.cmp.Ordering.{Ordering}

-- what a crash left is there where something was there before, and else nothing is
abbrev pub where_there : Option File → Option File → Option File
where_there None left = None
where_there (Some file) left = left

-- ---- what a repair leaves alone

module _ (store : List ℕ) (taken next : ℕ) (old now : Files)
    (r : IsAmidRepair store taken next old now) where
  -- the manifest's number has 64 bits, and so do those of tables
  pub manifest_fits : taken + 1 < 2 ^ 64
  manifest_fits = let begun = r.begun in let fits = r.fits in omega (arith, begun, fits)

  pub number_fits : (n : ℕ) → n < next → n < 2 ^ 64
  number_fits n below = let fits = r.fits in omega (arith, below, fits)

  -- a path of a number past all others has no file
  fresh : (kind : FileType) (n : ℕ) → MayHaveNumber kind n → taken < n → (file : File)
      → old (in_folder store (file_name kind n)) ≡ Some file → ⊥
  fresh kind n may late file there =
      let below = r.taken_is.below (file_name kind n) n kind (made_name kind n may)
      (λ none. let never : Some file ≡ None = sym there ∙ none in cc) in
      omega (arith, below, late)

  fresh_apart : (kind : FileType) (n : ℕ) → MayHaveNumber kind n → taken < n → (path : List ℕ)
      (file : File) → old path ≡ Some file
      → bytes_eq (in_folder store (file_name kind n)) path ≡ false
  fresh_apart kind n may late path file there =
      bytes_eq-apart (in_folder store (file_name kind n)) path
      (λ e. fresh kind n may late file (ap old e ∙ there))

  -- the lock's file is as it was where it was there
  lock_there : (file : File) → old (lock_path store) ≡ Some file
      → now (lock_path store) ≡ old (lock_path store)
  lock_there file there = ⊎_elim
      (λ (same : now (lock_path store) ≡ old (lock_path store)). same)
      (λ (made : now (lock_path store) ≡ or_empty (old (lock_path store))).
      made ∙ ap or_empty there ∙ sym there)
      r.lock

  -- what was there is there, but perhaps `CURRENT`
  pub still_there : (path : List ℕ) (file : File) → old path ≡ Some file
      → bytes_eq (current_path store) path ≡ false → now path ≡ old path
  still_there path file there far =
      by_name
      (λ p. old p ≡ Some file → bytes_eq (current_path store) p ≡ false → now p ≡ old p)
      (lock_path store) path
      (λ is away. lock_there file is)
      (λ free is away. r.others path
      (λ n from below. fresh_apart Table n (number_fits n below) (omega (arith, from)) path file is)
      (fresh_apart Descriptor (taken + 1) manifest_fits (omega arith) path file is)
      (fresh_apart Temp (taken + 1) manifest_fits (omega arith) path file is) away free)
      there far

  -- a log is as it was
  pub same_log : (name : List ℕ) (k : ℕ) → IsFileName name k Log
      → now (in_folder store name) ≡ old (in_folder store name)
  same_log name k is = r.others (in_folder store name)
      (λ n from below. kinds_apart store (file_name Table n) name n k Table Log
      (made_name Table n (number_fits n below)) is (λ d. cc))
      (kinds_apart store (file_name Descriptor (taken + 1)) name (taken + 1) k Descriptor Log
      (made_name Descriptor (taken + 1) manifest_fits) is (λ d. cc))
      (kinds_apart store (file_name Temp (taken + 1)) name (taken + 1) k Temp Log
      (made_name Temp (taken + 1) manifest_fits) is (λ d. cc))
      (kinds_apart store (file_name Current 0) name 0 k Current Log (made_name Current 0 refl) is
      (λ d. cc))
      (kinds_apart store (file_name DBLock 0) name 0 k DBLock Log (made_name DBLock 0 refl) is
      (λ d. cc))

  -- no log has the next number or a greater one
  pub still_above_logs : IsAboveLogs store now next
  still_above_logs name k is some =
      let below = r.taken_is.below name k Log is (λ none. some (same_log name k is ∙ none)) in
      let begun = r.begun in omega (arith, below, begun)

-- making the manifest is a part of the repair
pub manifests_go_on : (store : List ℕ) → ManifestsGoOn store
manifests_go_on store taken next bytes old files now r making = record {
  taken_is = r.taken_is;
  others = λ path tables away apart far free.
      making.others path away apart far ∙ r.others path tables away apart far free;
  current = ⊎_elim
      (λ (same : now (current_path store) ≡ files (current_path store)). ⊎_elim
      (λ (still : files (current_path store) ≡ old (current_path store)). inl (same ∙ still))
      (λ (named : files (current_path store) ≡ Some (kept_file (current_text (taken + 1)))).
      inr (same ∙ named)) r.current)
      (λ (made : (now (current_path store) ≡ Some (kept_file (current_text (taken + 1))))
      × (now (manifest_path store (taken + 1)) ≡ Some (kept_file bytes))). inr made.0)
      making.current;
  lock = ⊎_elim
      (λ (same : files (lock_path store) ≡ old (lock_path store)). inl (lock_is ∙ same))
      (λ (made : files (lock_path store) ≡ or_empty (old (lock_path store))). inr (lock_is ∙ made))
      r.lock;
  begun = r.begun;
  fits = r.fits;
}
  where
    named : IsFileName (file_name Descriptor (taken + 1)) (taken + 1) Descriptor
    named = made_name Descriptor (taken + 1) (manifest_fits store taken next old files r)

    temp : IsFileName (file_name Temp (taken + 1)) (taken + 1) Temp
    temp = made_name Temp (taken + 1) (manifest_fits store taken next old files r)

    lock_is : now (lock_path store) ≡ files (lock_path store)
    lock_is = making.others (lock_path store)
        (kinds_apart store (file_name Descriptor (taken + 1)) (file_name DBLock 0) (taken + 1) 0
        Descriptor DBLock named (made_name DBLock 0 refl) (λ d. cc))
        (kinds_apart store (file_name Temp (taken + 1)) (file_name DBLock 0) (taken + 1) 0 Temp
        DBLock temp (made_name DBLock 0 refl) (λ d. cc))
        (kinds_apart store (file_name Current 0) (file_name DBLock 0) 0 0 Current DBLock
        (made_name Current 0 refl) (made_name DBLock 0 refl) (λ d. cc))

-- ---- more files

module _ (store : List ℕ) (cmp : List ℕ → List ℕ → Ordering)
    (IsTableOf : List ℕ → List Pair → Type 0) where
  abbrev reads : Files → Contents → Type 0
  reads = IsStore store cmp IsTableOf

  -- files that are a store are one with more files, if none of these is a log
  with_more : (few many : Files)
      → ((path : List ℕ) (file : File) → few path ≡ Some file → many path ≡ few path)
      → ((name : List ℕ) (k : ℕ) → IsFileName name k Log
      → many (in_folder store name) ≡ few (in_folder store name))
      → (contents : Contents) → IsManaged store cmp IsTableOf few contents
      → IsManaged store cmp IsTableOf many contents
  with_more few many more same contents m =
      let e = m.has_edits in
      record {
        edits = m.edits;
        has_edits = record {
          current = e.current;
          current_there = more (current_path store) e.current e.current_there ∙ e.current_there;
          name = e.name;
          number = e.number;
          named = e.named;
          manifest = e.manifest;
          there = more (in_folder store e.name) e.manifest e.there ∙ e.there;
          is = e.is;
        };
        managed = managed_on store cmp IsTableOf few many m.edits contents (record {
          tables = λ file fits live.
              let t = m.managed.has_tables.all file live in
              let h = (m.managed.has_tables.each t.0 t.1).0 in
              same_bytes (few (table_path store file.number)) (many (table_path store file.number))
              (more (table_path store file.number) h.file
              (ap (λ (f : NewFile). few (table_path store f.number)) (sym t.2) ∙ h.there));
          logs = λ name k is replayed.
              same_bytes (few (in_folder store name)) (many (in_folder store name))
              (same name k is);
        }) m.managed;
      }

  module _ (allowed : Store → Type 0) (taken next : ℕ) (old now : Files)
      (r : IsAmidRepair store taken next old now)
      (still : now (current_path store) ≡ old (current_path store))
      (some : HasNoTableNorLog store old → ⊥) where
    -- what was there is there
    there_now : (path : List ℕ) (file : File) → old path ≡ Some file → now path ≡ old path
    there_now path file there =
        by_name (λ p. old p ≡ Some file → now p ≡ old p) (current_path store) path (λ is. still)
        (λ far is. still_there store taken next old now r path file is far) there

    -- a crash of the old files leaves a table or a log
    some_left : (left : Files) → FilesCrashTo old left → HasNoStore store left → ⊥
    some_left left leaves bare = some (record {
      no_table = λ name k is. kept_name (old (in_folder store name)) (left (in_folder store name))
          (leaves (in_folder store name)) (bare.no_table name k is);
      no_log = λ name k is. kept_name (old (in_folder store name)) (left (in_folder store name))
          (leaves (in_folder store name)) (bare.no_log name k is);
    })

    read_now : (contents : Contents) → reads old contents → reads now contents
    read_now contents (inl bare) = absurd (some (record {
      no_table = bare.0.no_table;
      no_log = bare.0.no_log;
    }))
    read_now contents (inr m) =
        inr (with_more old now there_now (same_log store taken next old now r) contents m)

    -- ---- after a crash

    module _ (left : Files) (leaves : FilesCrashTo now left)
        (honest : IsHonest store now left) where
      -- what it left of the old files alone
      abbrev before : Files
      before path = where_there (old path) (left path)

      before_leaves : FilesCrashTo old before
      before_leaves path = by (old path) refl
        where
          by : (file : Option File) → old path ≡ file
              → FileCrashesTo file (where_there file (left path))
          by None is = refl
          by (Some file) is =
              subst (λ f. FileCrashesTo f (left path)) (there_now path file is ∙ is) (leaves path)

      before_is : (path : List ℕ) (file : File) → old path ≡ Some file → before path ≡ left path
      before_is path file there = ap (λ f. where_there f (left path)) there

      before_honest : IsHonest store old before
      before_honest path was is journal there found =
          honest path was is journal (there_now path was there ∙ there)
          (sym (before_is path was there) ∙ found)

      left_has : (path : List ℕ) (file : File) → before path ≡ Some file → left path ≡ before path
      left_has path file = by (old path) refl
        where
          by : (was : Option File) → old path ≡ was → where_there was (left path) ≡ Some file
              → left path ≡ before path
          by None is found = absurd (let never : None ≡ Some file = found in cc)
          by (Some was) is found = sym (before_is path was is)

      left_log : (name : List ℕ) (k : ℕ) → IsFileName name k Log
          → left (in_folder store name) ≡ before (in_folder store name)
      left_log name k is = by (old (in_folder store name)) refl
        where
          by : (was : Option File) → old (in_folder store name) ≡ was
              → left (in_folder store name) ≡ before (in_folder store name)
          by None none =
              missing_left (now (in_folder store name)) (left (in_folder store name))
              (leaves (in_folder store name))
              (same_log store taken next old now r name k is ∙ none)
              ∙ sym (ap (λ f. where_there f (left (in_folder store name))) none)
          by (Some was) there = sym (before_is (in_folder store name) was there)

      read_left : (contents : Contents) → reads before contents → reads left contents
      read_left contents (inl bare) = absurd (some_left before before_leaves bare.0)
      read_left contents (inr m) = inr (with_more before left left_has left_log contents m)

    pub repair_keeps : (bound : ℕ) → KeepsHistory store cmp IsTableOf allowed bound old now
    repair_keeps bound = record {
      now = λ history c. record {
        contents = c.contents;
        read = read_now c.contents c.read;
        matches = c.matches;
      };
      crash = λ durable history safe left leaves honest.
          let c = safe (before left leaves honest) (before_leaves left leaves honest)
          (before_honest left leaves honest) in
          record {
            part = c.part;
            prefix = c.prefix;
            carries = record {
              contents = c.carries.contents;
              read = read_left left leaves honest c.carries.contents c.carries.read;
              matches = c.carries.matches;
            };
          };
    }
