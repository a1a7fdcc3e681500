-- Which numbers of files a version set has given.
use Rattle.std.specs.Prelude.{All, fold, map}
use Rattle.std.proofs.Common.{◌≡◌, ◌∷◌, ◌++◌, ◌≤◌, ◌<◌, ◌+◌, ℕ, List, [], ap, arith, subst, sym}
use Rattle.std.proofs.lemmas.List.{map-append}
use Rattle.std.proofs.lemmas.List.Elements.{All-append, All-cons, All-filter, All-head, All-map, All-nil, All-push, All-tail, All-weaker}
use Rattle.leveldb_base.specs.declared.types.FileMetaData.{FileMetaData}
use Rattle.leveldb_env.specs.declared.env.Env.{Ghosts}
use Rattle.leveldb_files.specs.Stores.Format.{Format}
use Rattle.leveldb_version.specs.Edits.FullEdit.{files_after, files_with, files_without}
use Rattle.leveldb_files.specs.Edits.Edit.{Edit, LevelFile, NewFile}
use Rattle.leveldb_version.specs.Edits.VersionEdit.{new_file_of}
use Rattle.leveldb_version_set.specs.Sets.VersionSetValue.{VersionSetValue}
use Rattle.leveldb_store.specs.Keeping.OpenStore.{AreNumbersGiven}
use Rattle.leveldb_store.specs.Openings.OpeningSteps.{made_files}
use Rattle.leveldb_store.specs.Logs.ReplayLog.{TablesRest, table_files}
use Rattle.leveldb_store.specs.declared.opening.replay_log.ReplayedLog.{ReplayedLog}

-- numbers below one are below a greater one
pub below_later : (next later : ℕ) → next ≤ later → (files : List NewFile)
    → All (λ (file : NewFile). file.number < next) files
    → All (λ (file : NewFile). file.number < later) files
below_later next later least files below = All-weaker (λ (file : NewFile). file.number < next)
    (λ (file : NewFile). file.number < later)
    (λ file less. let here : file.number < next = less in omega (arith, here, least)) files below

-- numbers that were given stay so
pub given_later : (old new : VersionSetValue) → old.next_file ≤ new.next_file
    → (files : List NewFile) → AreNumbersGiven old files → AreNumbersGiven new files
given_later old new least = below_later old.next_file new.next_file least

-- and those of live files, if these are the same
pub live_given : (old new : VersionSetValue) → new.full ≡ old.full
    → old.next_file ≤ new.next_file → AreNumbersGiven old old.full.added
    → AreNumbersGiven new new.full.added
live_given old new same least given = subst (λ (full : Edit). AreNumbersGiven new full.added)
    (sym same) (given_later old new least old.full.added given)

-- what holds of what elements are made into
unmapped : {A B : Type 0} (P : B → Type 0) (f : A → B) (xs : List A) → All P (map f xs)
    → All (λ x. P (f x)) xs
unmapped P f [] all = All-nil (λ x. P (f x))
unmapped P f (x ∷ xs) all = All-cons (λ y. P (f y)) x xs (All-head P (f x) (map f xs) all)
    (unmapped P f xs (All-tail P (f x) (map f xs) all))

module _ (set : VersionSetValue) (next : ℕ) (is_next : next ≡ set.next_file)
    (files : List (ℕ × FileMetaData)) (live : map new_file_of files ≡ set.full.added) where
  -- the live files' numbers are given if they are below the next one, and only then
  pub given_of_below : All (λ (file : ℕ × FileMetaData). file.1.num < next) files
      → AreNumbersGiven set set.full.added
  given_of_below below = subst (AreNumbersGiven set) live
      (All-map (λ (file : NewFile). file.number < set.next_file) new_file_of files
      (subst (λ n. All (λ (file : ℕ × FileMetaData). file.1.num < n) files) is_next below))

  pub below_of_given : AreNumbersGiven set set.full.added
      → All (λ (file : ℕ × FileMetaData). file.1.num < next) files
  below_of_given given = subst (λ n. All (λ (file : ℕ × FileMetaData). file.1.num < n) files)
      (sym is_next) (unmapped (λ (file : NewFile). file.number < set.next_file) new_file_of files
      (subst (AreNumbersGiven set) (sym live) given))

module _ (P : NewFile → Type 0) where
  -- what holds of files and of one more
  pub all_with : (files : List NewFile) (file : NewFile) → All P files → P file
      → All P (files_with files file)
  all_with files file all is = All-push P (files_without files (file.level, file.number)) file
      (All-filter _ P files all) is

  -- of files without some
  pub all_without_each : (deleted : List LevelFile) (files : List NewFile) → All P files
      → All P (fold files_without files deleted)
  all_without_each [] files all = all
  all_without_each (at ∷ deleted) files all =
      all_without_each deleted (files_without files at) (All-filter _ P files all)

  -- and of several more
  pub all_with_each : (added files : List NewFile) → All P files → All P added
      → All P (fold files_with files added)
  all_with_each [] files all more = all
  all_with_each (file ∷ added) files all more = all_with_each added (files_with files file)
      (all_with files file all (All-head P file added more)) (All-tail P file added more)

-- after an edit whose files' numbers were given, each live file's number was
pub given_after : (old new : VersionSetValue) (edit : Edit)
    → new.full.added ≡ files_after edit old.full.added → new.next_file ≡ old.next_file
    → AreNumbersGiven old old.full.added → AreNumbersGiven old edit.added
    → AreNumbersGiven new new.full.added
given_after old new edit more next given added =
    let Given : NewFile → Type 0 = λ one. one.number < old.next_file in
    subst (AreNumbersGiven new) (sym more)
    (given_later old new (omega (arith, next)) (files_after edit old.full.added)
    (all_with_each Given edit.added (fold files_without old.full.added edit.deleted)
    (all_without_each Given edit.deleted old.full.added given) added))

-- the files of some tables and of others
pub given_append : (set : VersionSetValue) (these those : List FileMetaData)
    → AreNumbersGiven set (made_files these) → AreNumbersGiven set (made_files those)
    → AreNumbersGiven set (made_files (these ++ those))
given_append set these those given others = subst (AreNumbersGiven set)
    (sym (map-append (λ (file : FileMetaData). new_file_of (0, file)) these those))
    (All-append (λ (file : NewFile). file.number < set.next_file) (made_files these)
    (made_files those) given others)

-- ---- tables of a log that is replayed

-- of no table each number is given
pub none_given : {C : Type 0} (set : VersionSetValue) (log : ReplayedLog C) → log.tables.items ≡ []
    → AreNumbersGiven set (table_files log)
none_given set log none = subst (λ files. AreNumbersGiven set
    (map (λ (file : FileMetaData). new_file_of (0, file)) files)) (sym none)
    (All-nil (λ (file : NewFile). file.number < set.next_file))

-- a table more, of the number that was given last
pub one_more_given : {E F : Type 0} (env : Ghosts E F) (format : Format) {C : Type 0}
    (old : ReplayedLog C) (set : VersionSetValue) (new : ReplayedLog C) (now : VersionSetValue)
    (at : E) → TablesRest env format old set new now at → AreNumbersGiven set (table_files old)
    → AreNumbersGiven now (table_files new)
one_more_given env format old set new now at made given =
    let next : now.next_file ≡ set.next_file + 1 =
    ap (λ (v : VersionSetValue). v.next_file) made.given in
    let number = made.number in
    subst (AreNumbersGiven now) (sym made.files)
    (All-push (λ (file : NewFile). file.number < now.next_file) (table_files old) made.table.file
    (given_later set now (omega (arith, next)) (table_files old) given)
    (omega (arith, number, next)))
