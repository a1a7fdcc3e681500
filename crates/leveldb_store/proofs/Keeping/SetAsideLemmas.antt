-- Logs and manifests that are set aside: their names are none of a store's then, so that nothing
-- reads them and the store stays as it is.
use Rattle.std.proofs.Common.{◌≡◌, ◌≢◌, ◌⊎◌, ◌∙◌, ◌++◌, ◌<◌, ◌≤◌, ◌^◌, inl, inr, ⊎_elim, ℕ, Bool, true, false, cond, eqb, List, [], ◌∷◌, None, Option, Some, Ok, Err, Result, ap, append_assoc, arith, get_or, refl, subst, sym}
use Rattle.std.specs.Prelude.{All, Contains, IfSome, IsSome, IsTrue, OnOk, codes, length}
use Rattle.std.specs.Cmp.Lexicographic.{bytes_decides}
use Rattle.std.specs.Option.{unwrap_or}
use Rattle.std.specs.Str.{bytes_eq}
use Rattle.std.specs.Str.Parse.{AllDigits, digits_value}
use Rattle.std.specs.declared.cmp.Ordering.{Ordering}
use Rattle.std.proofs.lemmas.List.{get_or_default}
use Rattle.std.proofs.lemmas.List.Elements.{Contains-append_cases, Contains-append_left, Contains-append_right, Contains-push_cases}
use Rattle.std.proofs.lemmas.Str.Parse.{IsNumeralModel, not_in_digits, numerals_by_value, tells_digits}
use Rattle.leveldb_base.proofs.HistoryLemmas.{in_cases, in_front, in_none, in_rest}
use Rattle.leveldb_base.proofs.NamesLemmas.{made_name}
use Rattle.leveldb_base.specs.History.{History}
use Rattle.leveldb_base.specs.Names.{IsFileName, IsNumber, IsNumbered, file_name}
use Rattle.leveldb_base.specs.declared.error.Status.{Status}
use Rattle.leveldb_base.specs.declared.types.FileType.{FileType}
use Rattle.leveldb_base.specs.declared.types.FileType.TheVariants.{Current, DBLock, Descriptor, InfoLog, Log, Table, Temp}
use Rattle.leveldb_env.proofs.EnvLemmas.{Run-mono, SameBut-deleted, at_other, at_same, begun, bytes_eq-apart, renamed-there}
use Rattle.leveldb_env.specs.Env.{BeforeOrAfter, File, Files, Observed, Run, SameBut, deleted, in_folder, moved, renamed, with_file}
use Rattle.leveldb_files.proofs.Steps.BytesLemmas.{bytes_stay}
use Rattle.leveldb_files.proofs.Steps.KeepsLemmas.{unread_keeps}
use Rattle.leveldb_files.proofs.Stores.ManagedLemmas.{same_name}
use Rattle.leveldb_files.specs.Edits.Edit.{NewFile}
use Rattle.leveldb_files.specs.Edits.VersionSet.{live_after}
use Rattle.leveldb_files.specs.Steps.StoreSteps.{AppendedAreBytes, IsUnread}
use Rattle.leveldb_files.specs.Stores.Contents.{Store}
use Rattle.leveldb_files.specs.Stores.Format.{IsTableOf, Meaning}
use Rattle.leveldb_files.specs.Stores.Paths.{IsFilePath, IsJournal, log_path, table_path}
use Rattle.leveldb_version_set.proofs.Engines.WrittenLemmas.{written_unread}
use Rattle.leveldb_version_set.proofs.Sets.LogKeepsLemmas.{keeps_then}
use Rattle.leveldb_version_set.specs.Compactions.Picking.{CompactionValue}
use Rattle.leveldb_version_set.specs.Engines.Writing.{IsNumberedUpTo, IsObsolete}
use Rattle.leveldb_version_set.specs.Sets.VersionSetValue.{VersionSetValue}
use Rattle.leveldb_store.proofs.Keeping.RemoveLemmas.{KeepsFiles, one_removed}
use Rattle.leveldb_store.proofs.Writing.SwitchLemmas.{keeps_same, shows_stay, written_as}
use Rattle.leveldb_store.specs.Keeping.KeptEntries.{CompactsOnceAtMost}
use Rattle.leveldb_store.specs.Keeping.OpenStore.{OpenStoreValue}
use Rattle.leveldb_store.specs.Keeping.SetAside.{AreSetAside, IsAsidePath, aside_path, with_aside}
use Rattle.leveldb_store.specs.Keeping.Written.{HasView, IsWritten, KeepsStore, memory_of}
use Rattle.leveldb_store.specs.Compactions.Compact.{GivesNumbersOrBreaks, LogsCompaction}
use Rattle.leveldb_store.specs.Logs.Damage.{IsLeftAside}

-- ---- names: none of a store's has an `a`

own : IsNumeralModel (AllDigits 10) (digits_value 10)
own = numerals_by_value (AllDigits 10) tells_digits

digits_without : (text : List ℕ) (n : ℕ) → IsNumber text n → Contains text 97 → ⊥
digits_without text n number c = not_in_digits own text 97 number.digits.1 (λ h. omega (arith, h)) c.0 c.1 (get_or_default text c.0 0 97 c.1 ∙ c.2)

-- whether a text has an `a`
has_a : List ℕ → Bool
has_a [] = false
has_a (x ∷ text) = cond (eqb x 97) true (has_a text)

without : (text : List ℕ) → has_a text ≡ false → Contains text 97 → ⊥
unfolding has_a
without [] e c = in_none 97 c
without (x ∷ text) e c = by (eqb x 97) refl e (λ rest. without text rest)
  where
    by : (b : Bool) → eqb x 97 ≡ b → cond b true (has_a text) ≡ false
        → (has_a text ≡ false → Contains text 97 → ⊥) → ⊥
    by true is never later = let wrong : true ≡ false = never in absurd (cc wrong)
    by false is rest later = ⊎_elim
        (λ (same : x ≡ 97). let wrong : true ≡ false = sym (ap (λ y. eqb y 97) same) ∙ is in absurd (cc wrong))
        (λ (more : Contains text 97). later rest more)
        (in_cases x 97 text c)

numbered_without : (front back name : List ℕ) (n : ℕ) → has_a front ≡ false → has_a back ≡ false
    → IsNumbered front back name n → Contains name 97 → ⊥
numbered_without front back name n plain_front plain_back is c = ⊎_elim
    (λ (there : Contains (front ++ is.0) 97). ⊎_elim
    (λ (before : Contains front 97). without front plain_front before)
    (λ (digit : Contains is.0 97). digits_without is.0 n is.1 digit)
    (Contains-append_cases front is.0 97 there))
    (λ (after : Contains back 97). without back plain_back after)
    (Contains-append_cases (front ++ is.0) back 97 (subst (λ z. Contains z 97) is.2 c))

name_without : (name : List ℕ) (n : ℕ) (kind : FileType) → IsFileName name n kind
    → Contains name 97 → ⊥
unfolding has_a
name_without name n Log is c = numbered_without [] (codes ".log") name n refl refl is c
name_without name n DBLock is c = without (codes "LOCK") refl (subst (λ z. Contains z 97) is.0 c)
name_without name n Table (inl is) c = numbered_without [] (codes ".ldb") name n refl refl is c
name_without name n Table (inr is) c = numbered_without [] (codes ".sst") name n refl refl is c
name_without name n Descriptor is c = numbered_without (codes "MANIFEST-") [] name n refl refl is c
name_without name n Current is c = without (codes "CURRENT") refl (subst (λ z. Contains z 97) is.0 c)
name_without name n Temp is c = numbered_without [] (codes ".dbtmp") name n refl refl is c
name_without name n InfoLog (inl is, none) c = without (codes "LOG") refl (subst (λ z. Contains z 97) is c)
name_without name n InfoLog (inr is, none) c = without (codes "LOG.old") refl (subst (λ z. Contains z 97) is c)

-- what follows a name that is set aside has one
ends_with_a : Contains (codes ".damaged") 97
ends_with_a =
    in_rest 46 97 (100 ∷ 97 ∷ rest) (in_rest 100 97 (97 ∷ rest) (in_front 97 rest))
  where
    rest : List ℕ
    rest = codes "maged"

module _ (store : List ℕ) where
  -- no file of a store has the path of one that is set aside
  pub aside_is_none : (path : List ℕ) → IsAsidePath store path → (name : List ℕ) (n : ℕ)
      (kind : FileType) → IsFileName name n kind → path ≡ in_folder store name → ⊥
  aside_is_none path (at, journal, is) name n kind named same =
      name_without name n kind named (subst (λ z. Contains z 97) (same_name store (own_name ++ codes ".damaged") name (joined ∙ sym is ∙ same))
      (Contains-append_right own_name (codes ".damaged") 97 ends_with_a))
    where
      own_name : List ℕ
      own_name = ⊎_elim (λ (log : IsFilePath Log store at). log.0)
          (λ (manifest : IsFilePath Descriptor store at). manifest.0) journal

      own_is : at ≡ in_folder store own_name
      own_is = by journal
        where
          by : (j : IsJournal store at) → at ≡ in_folder store (⊎_elim (λ (log : IsFilePath Log store at). log.0)
              (λ (manifest : IsFilePath Descriptor store at). manifest.0) j)
          by (inl log) = log.3
          by (inr manifest) = manifest.3

      joined : in_folder store (own_name ++ codes ".damaged") ≡ aside_path at
      joined = sym (append_assoc store (47 ∷ own_name) (codes ".damaged")) ∙ ap aside_path (sym own_is)

  pub aside_apart : (path : List ℕ) → IsAsidePath store path → (name : List ℕ) (n : ℕ)
      (kind : FileType) → IsFileName name n kind → bytes_eq path (in_folder store name) ≡ false
  aside_apart path is name n kind named =
      bytes_eq-apart path (in_folder store name) (aside_is_none path is name n kind named)

  -- nor is it a journal
  pub journal_not_aside : (path : List ℕ) → IsJournal store path → IsAsidePath store path → ⊥
  journal_not_aside path (inl log) is =
      aside_is_none path is log.0 log.1 Log log.2 log.3
  journal_not_aside path (inr manifest) is =
      aside_is_none path is manifest.0 manifest.1 Descriptor manifest.2 manifest.3

  aside_unread : (files : Files) (path : List ℕ) → IsAsidePath store path
      → IsUnread store files path
  aside_unread files path is = record {
    not_current = aside_apart path is (file_name Current 0) 0 Current (made_name Current 0 refl);
    not_manifest = λ left file name n leaves honest there text.
        aside_apart path is name n Descriptor text.0;
    unnamed = λ left edits leaves honest has. record {
      tables = λ file fits live. aside_apart path is (file_name Table file.number) file.number Table
          (made_name Table file.number fits);
      logs = λ name n named replayed. aside_apart path is name n Log named;
    };
    bare = inr (λ name n named. ⊎_elim (λ table. aside_apart path is name n Table table)
        (λ log. aside_apart path is name n Log log) named);
  }

-- ---- one file is set aside

module _ {C : Type 0} (cmp : List ℕ → List ℕ → Ordering) (meaning : Meaning)
    (allowed : Store → Type 0) (old : OpenStoreValue C) where
  abbrev folder : List ℕ
  folder = old.set.store

  abbrev KeepsAll : Files → Files → Type 0
  KeepsAll = KeepsFiles cmp meaning allowed old

  nothing_kept : (files now : Files) → now ≡ files → IsWritten cmp meaning old files
      → KeepsAll files now
  nothing_kept files now is w = record {
    moments = λ bound. keeps_same cmp meaning allowed folder bound files now is;
    written = subst (IsWritten cmp meaning old) (sym is) w;
    shows = λ history since s.
        subst (λ f. HasView cmp meaning old f history since) (sym is) s;
  }

  then_kept : (files mid now : Files) → KeepsAll files mid → KeepsAll mid now → KeepsAll files now
  then_kept files mid now first second = record {
    moments = λ bound. keeps_then folder cmp (IsTableOf cmp meaning) allowed bound files mid now
        (first.moments bound) (second.moments bound);
    written = second.written;
    shows = λ history since s. second.shows history since (first.shows history since s);
  }

  -- what is put under such a path isn't read
  put_aside : (files now : Files) → IsWritten cmp meaning old files → (path : List ℕ)
      → IsAsidePath folder path → SameBut path files now → AppendedAreBytes now → KeepsAll files now
  put_aside files now w path is same bytes =
      let unread = aside_unread folder files path is in
      let log_there : now (log_path folder w.by.writable.log.number) ≡ Some w.by.writable.log.file =
      same (log_path folder w.by.writable.log.number)
      (aside_apart folder path is (file_name Log w.by.writable.log.number) w.by.writable.log.number Log
      (made_name Log w.by.writable.log.number w.by.writable.log.fits)) ∙ w.by.writable.log.there in
      record {
        moments = λ bound. unread_keeps folder cmp (IsTableOf cmp meaning) allowed path files now same
            w.by.tracked.bytes unread bound;
        written = written_as cmp meaning old now w.edits
            (written_unread folder cmp (IsTableOf cmp meaning) files w.edits (memory_of old) w.by path
            unread (λ name n kind at named. absurd (aside_is_none folder path is name n kind named at))
            now same bytes)
            w.by.writable.log.file (subst (λ k. now (log_path folder k) ≡ Some w.by.writable.log.file)
            w.by.log_is log_there) w.writer;
        shows = λ history since s. shows_stay cmp meaning old old files now history since refl refl
            refl refl table_there s;
      }
    where
      table_there : (file : NewFile) → Contains old.set.full.added file
          → now (table_path folder file.number) ≡ files (table_path folder file.number)
      table_there file added =
          let live = (w.by.tracked.tracks.left.full.added.live file).0 added in
          let found = w.by.tracked.managed.has_tables.all file live in
          let fits : file.number < 2 ^ 64 = subst (λ (f : NewFile). f.number < 2 ^ 64) found.2
          (w.by.tracked.managed.has_tables.each found.0 found.1).2 in
          same (table_path folder file.number) (aside_apart folder path is (file_name Table file.number)
          file.number Table (made_name Table file.number fits))

  -- one file that is left aside gets its other name
  renamed_kept : (files : Files) → IsWritten cmp meaning old files → (name : List ℕ) (n : ℕ)
      (kind : FileType) → IsFileName name n kind → IsLeftAside old.set kind n
      → KeepsAll files (renamed (in_folder folder name) (aside_path (in_folder folder name)) files)
  renamed_kept files w name n kind is aside = by (files path) refl
    where
      path : List ℕ
      path = in_folder folder name

      other : IsAsidePath folder (aside_path path)
      other = (
        path,
        ⊎_elim
            (λ (log : kind ≡ Log). inl (name, n, subst (IsFileName name n) log is, refl))
            (λ (manifest : kind ≡ Descriptor). inr (name, n, subst (IsFileName name n) manifest is, refl))
            aside.0,
        refl,
      )

      by : (file : Option File) → files path ≡ file
          → KeepsAll files (renamed path (aside_path path) files)
      by None none = nothing_kept files (renamed path (aside_path path) files)
          (ap (moved path (aside_path path) files) none) w
      by (Some file) some =
          let first = one_removed cmp meaning allowed old files w name n kind is aside.1 in
          let is_moved = renamed-there path (aside_path path) files file some in
          subst (KeepsAll files) (sym is_moved)
          (then_kept files (deleted path files)
          (with_file (aside_path path) (Some file) (deleted path files)) first
          (put_aside (deleted path files) (with_file (aside_path path) (Some file) (deleted path files))
          first.written (aside_path path) other
          (λ at apart. at_other (aside_path path) (Some file) (deleted path files) at apart)
          (subst AppendedAreBytes is_moved
          ((bytes_stay files w.by.tracked.bytes).rename path (aside_path path)))))

  -- ---- one after the other

  -- the path of a file that is left aside
  abbrev IsAsides : List ℕ → Type 0
  IsAsides path = (name : List ℕ) × (n : ℕ) × (kind : FileType) × IsFileName name n kind
      × IsLeftAside old.set kind n × (path ≡ in_folder folder name)

  all_aside : (paths : List (List ℕ)) → ((path : List ℕ) → Contains paths path → IsAsides path)
      → (files : Files) → IsWritten cmp meaning old files → KeepsAll files (with_aside paths files)
  all_aside [] each files w = nothing_kept files files refl w
  all_aside (path ∷ paths) each files w =
      let first = all_aside paths (λ other there. each other (in_rest path other paths there)) files w in
      let it = each path (in_front path paths) in
      let mid = with_aside paths files in
      subst (λ p. KeepsAll files (renamed p (aside_path p) mid)) (sym it.5)
      (then_kept files mid (renamed (in_folder folder it.0) (aside_path (in_folder folder it.0)) mid) first
      (renamed_kept mid first.written it.0 it.1 it.2 it.3 it.4))

  -- a store is kept of which files that are left aside are set aside
  pub aside_keeps : (IsOne : List ℕ → Type 0) → ((path : List ℕ) → IsOne path → IsAsides path)
      → (from to : Observed) → Run (AreSetAside IsOne from.disk.files) from to
      → IsWritten cmp meaning old from.disk.files → KeepsStore cmp meaning allowed old from old to
  aside_keeps IsOne each from to run w = record {
    moments = λ bound reached. Run-mono (λ files aside. (kept files aside).moments bound) run;
    written = λ unbroken. (kept to.disk.files run.has).written;
    shows = (kept to.disk.files run.has).shows;
  }
    where
      kept : (files : Files) → AreSetAside IsOne from.disk.files files → KeepsAll from.disk.files files
      kept files aside = subst (KeepsAll from.disk.files) (sym aside.files)
          (all_aside aside.paths (λ path there. each path (aside.each path there)) from.disk.files w)

-- ---- what changes

-- a file stays whose path is neither of those of a file that is set aside
renamed_elsewhere : (path other : List ℕ) (files : Files) → bytes_eq path other ≡ false
    → bytes_eq (aside_path path) other ≡ false
    → renamed path (aside_path path) files other ≡ files other
renamed_elsewhere path other files apart apart_aside = by (files path)
  where
    by : (file : Option File) → moved path (aside_path path) files file other ≡ files other
    by None = refl
    by (Some file) = at_other (aside_path path) (Some file) (deleted path files) other apart_aside
        ∙ at_other path None files other apart

elsewhere_aside : (paths : List (List ℕ)) (before : Files) (other : List ℕ)
    → ((path : List ℕ) → Contains paths path → path ≢ other)
    → ((path : List ℕ) → Contains paths path → aside_path path ≢ other)
    → with_aside paths before other ≡ before other
elsewhere_aside [] before other apart apart_aside = refl
elsewhere_aside (path ∷ paths) before other apart apart_aside =
    let here = in_front path paths in
    renamed_elsewhere path other (with_aside paths before)
    (bytes_eq-apart path other (apart path here))
    (bytes_eq-apart (aside_path path) other (apart_aside path here))
    ∙ elsewhere_aside paths before other (λ at there. apart at (in_rest path at paths there))
    (λ at there. apart_aside at (in_rest path at paths there))

pub others_aside : (IsOne : List ℕ → Type 0) (before after : Files) → AreSetAside IsOne before after
    → (other : List ℕ) → (IsOne other → ⊥) → ((path : List ℕ) → IsOne path → aside_path path ≢ other)
    → after other ≡ before other
others_aside IsOne before after aside other no_one no_aside =
    ap (λ (f : Files). f other) aside.files ∙ elsewhere_aside aside.paths before other
    (λ path there is. no_one (subst IsOne is (aside.each path there)))
    (λ path there. no_aside path (aside.each path there))

-- a file that was set aside before stays
pub aside_stays : (IsOne : List ℕ → Type 0) (before after : Files) → AreSetAside IsOne before after
    → (other : List ℕ) → (IsOne other → ⊥) → before other ≢ None → after other ≡ before other
aside_stays IsOne before after aside other no_one some =
    ap (λ (f : Files). f other) aside.files ∙ elsewhere_aside aside.paths before other
    (λ path there is. no_one (subst IsOne is (aside.each path there)))
    (λ path there is. some (ap before (sym is) ∙ aside.free path there))

-- what was appended are bytes
pub aside_bytes : (IsOne : List ℕ → Type 0) (before after : Files) → AreSetAside IsOne before after
    → AppendedAreBytes before → AppendedAreBytes after
aside_bytes IsOne before after aside bytes =
    subst AppendedAreBytes (sym aside.files) (by aside.paths)
  where
    by : (paths : List (List ℕ)) → AppendedAreBytes (with_aside paths before)
    by [] = bytes
    by (path ∷ paths) = (bytes_stay (with_aside paths before) (by paths)).rename path (aside_path path)

-- ---- one step more

-- no file is set aside
pub none_aside : (IsOne : List ℕ → Type 0) (files now : Files) → now ≡ files
    → AreSetAside IsOne files now
none_aside IsOne files now is = record {
  paths = [];
  each = λ path never. absurd (in_none path never);
  free = λ path never. absurd (in_none path never);
  files = is;
}

-- what is missing was missing before, where it isn't one of these
pub missing_before : (IsOne : List ℕ → Type 0) (before after : Files)
    → AreSetAside IsOne before after → (other : List ℕ) → (IsOne other → ⊥)
    → after other ≡ None → before other ≡ None
missing_before IsOne before after aside other no_one none =
    by aside.paths aside.each (sym (ap (λ (f : Files). f other) aside.files) ∙ none)
  where
    step : (path : List ℕ) (files : Files) → bytes_eq path other ≡ false
        → renamed path (aside_path path) files other ≡ None → files other ≡ None
    step path files apart gone = over (files path) refl
      where
        over : (file : Option File) → files path ≡ file → files other ≡ None
        over None is = sym (ap (λ (m : Option File). moved path (aside_path path) files m other) is) ∙ gone
        over (Some file) is = at (bytes_eq (aside_path path) other) refl
          where
            moved_gone : with_file (aside_path path) (Some file) (deleted path files) other ≡ None
            moved_gone = sym (ap (λ (f : Files). f other) (renamed-there path (aside_path path) files file is)) ∙ gone

            at : (b : Bool) → bytes_eq (aside_path path) other ≡ b → files other ≡ None
            at true e = let same = (bytes_decides (aside_path path) other).0 e in
                let never : Some file ≡ None =
                sym (at_same (aside_path path) (Some file) (deleted path files))
                ∙ ap (with_file (aside_path path) (Some file) (deleted path files)) same ∙ moved_gone in absurd (cc never)
            at false e = sym (at_other path None files other apart)
                ∙ sym (at_other (aside_path path) (Some file) (deleted path files) other e) ∙ moved_gone

    by : (paths : List (List ℕ)) → ((path : List ℕ) → Contains paths path → IsOne path)
        → with_aside paths before other ≡ None → before other ≡ None
    by [] each gone = gone
    by (path ∷ paths) each gone = by paths (λ at there. each at (in_rest path at paths there))
        (step path (with_aside paths before) (bytes_eq-apart path other
        (λ is. no_one (subst IsOne is (each path (in_front path paths))))) gone)

with_append : (more paths : List (List ℕ)) (files : Files)
    → with_aside (more ++ paths) files ≡ with_aside more (with_aside paths files)
with_append [] paths files = refl
with_append (path ∷ more) paths files =
    ap (renamed path (aside_path path)) (with_append more paths files)

-- where less is said of them
pub aside_more : (P Q : List ℕ → Type 0) → ((path : List ℕ) → P path → Q path)
    → (before after : Files) → AreSetAside P before after → AreSetAside Q before after
aside_more P Q so before after aside = record {
  paths = aside.paths;
  each = λ path there. so path (aside.each path there);
  free = aside.free;
  files = aside.files;
}

-- one after the other
pub aside_then : (IsOne : List ℕ → Type 0) (store : List ℕ)
    → ((path : List ℕ) → IsOne path → IsJournal store path) → (before mid after : Files)
    → AreSetAside IsOne before mid → AreSetAside IsOne mid after → AreSetAside IsOne before after
aside_then IsOne store journals before mid after first second = record {
  paths = second.paths ++ first.paths;
  each = λ path there. ⊎_elim (λ late. second.each path late) (λ early. first.each path early)
      (Contains-append_cases second.paths first.paths path there);
  free = λ path there. ⊎_elim
      (λ late. let one = second.each path late in
      missing_before IsOne before mid first (aside_path path)
      (λ is. journal_not_aside store (aside_path path) (journals (aside_path path) is)
      (path, journals path one, refl)) (second.free path late))
      (λ early. first.free path early)
      (Contains-append_cases second.paths first.paths path there);
  files = second.files ∙ ap (with_aside second.paths) first.files
      ∙ sym (with_append second.paths first.paths before);
}

-- a call that renames one, whose other name no file has
pub one_aside : (path : List ℕ) (before after : Files) → before (aside_path path) ≡ None
    → BeforeOrAfter (renamed path (aside_path path)) before after
    → AreSetAside (λ at. at ≡ path) before after
one_aside path before after free (inl is) = none_aside (λ at. at ≡ path) before after is
one_aside path before after free (inr is) = record {
  paths = path ∷ [];
  each = λ at there. sym (only at there);
  free = λ at there. subst (λ p. before (aside_path p) ≡ None) (only at there) free;
  files = is;
}
  where
    only : (at : List ℕ) → Contains (path ∷ []) at → path ≡ at
    only at there = ⊎_elim (λ (same : path ≡ at). same) (λ never. absurd (in_none at never))
        (in_cases path at [] there)

-- its own name is gone then, and what was gone before is gone still
module _ (store path : List ℕ) (journal : IsJournal store path) (mid : Files) where
  abbrev other : List ℕ
  other = aside_path path

  abbrev over : Files
  over = renamed path other mid

  not_aside_at : (at : List ℕ) → IsJournal store at → bytes_eq other at ≡ false
  not_aside_at at is = bytes_eq-apart other at
      (λ same. journal_not_aside store other (subst (IsJournal store) (sym same) is)
      (path, journal, refl))

  pub own_gone : IsSome (mid path) → over path ≡ None
  own_gone there = by (mid path) refl there
    where
      by : (file : Option File) → mid path ≡ file → IsSome file → over path ≡ None
      by None none some = let never : false ≡ true = some in absurd (cc never)
      by (Some file) is some = ap (λ (f : Files). f path) (renamed-there path other mid file is)
          ∙ at_other other (Some file) (deleted path mid) path (not_aside_at path journal)
          ∙ at_same path None mid

  pub gone_still : (at : List ℕ) → IsJournal store at → mid at ≡ None → over at ≡ None
  gone_still at is none = by (mid path) refl
    where
      by : (file : Option File) → mid path ≡ file → over at ≡ None
      by None gone = ap (λ (m : Option File). moved path other mid m at) gone ∙ none
      by (Some file) there = ap (λ (f : Files). f at) (renamed-there path other mid file there)
          ∙ at_other other (Some file) (deleted path mid) at (not_aside_at at is)
          ∙ deleted_at (bytes_eq path at) refl
        where
          deleted_at : (b : Bool) → bytes_eq path at ≡ b → deleted path mid at ≡ None
          deleted_at true e = subst (λ p. deleted path mid p ≡ None) ((bytes_decides path at).0 e) (at_same path None mid)
          deleted_at false e = at_other path None mid at e ∙ none

-- where several are set aside, what is gone stays so
pub gone_aside : (store : List ℕ) (IsOne : List ℕ → Type 0)
    → ((path : List ℕ) → IsOne path → IsJournal store path) → (before after : Files)
    → AreSetAside IsOne before after → (at : List ℕ) → IsJournal store at → before at ≡ None
    → after at ≡ None
gone_aside store IsOne journals before after aside at is none =
    ap (λ (f : Files). f at) aside.files ∙ by aside.paths aside.each
  where
    by : (paths : List (List ℕ)) → ((path : List ℕ) → Contains paths path → IsOne path)
        → with_aside paths before at ≡ None
    by [] each = none
    by (path ∷ paths) each =
        gone_still store path (journals path (each path (in_front path paths)))
        (with_aside paths before) at is
        (by paths (λ other there. each other (in_rest path other paths there)))

-- and what has such a name keeps it
pub taken_aside : (store : List ℕ) (IsOne : List ℕ → Type 0)
    → ((path : List ℕ) → IsOne path → IsJournal store path) → (before after : Files)
    → AreSetAside IsOne before after → (at : List ℕ) → IsJournal store at
    → IsSome (before (aside_path at)) → IsSome (after (aside_path at))
taken_aside store IsOne journals before after aside at is some =
    subst IsSome (sym (aside_stays IsOne before after aside (aside_path at)
    (λ one. journal_not_aside store (aside_path at) (journals (aside_path at) one) (at, is, refl))
    (λ none. let never : false ≡ true = subst IsSome none some in cc))) some

-- ---- what is left aside

aside_by : (old new : VersionSetValue) (n : ℕ) → old.log_number ≤ new.log_number
    → ((n ≡ old.previous_log → n ≡ 0) → n ≡ new.previous_log → n ≡ 0)
    → old.manifest_number ≤ new.manifest_number → (kind : FileType) → IsLeftAside old kind n
    → IsLeftAside new kind n
aside_by old new n least previous manifest kind (inl is, gone) = (
  inl is,
  subst (λ k. IsObsolete new k n) (sym is)
      (let was : IsObsolete old Log n = subst (λ k. IsObsolete old k n) is gone in
      (omega (arith, was.0, least), previous was.1)),
)
aside_by old new n least previous manifest kind (inr is, gone) = (
  inr is,
  subst (λ k. IsObsolete new k n) (sym is)
      (let was : n < old.manifest_number = subst (λ k. IsObsolete old k n) is gone in
      omega (arith, was, manifest)),
)

-- a log or a manifest that is left aside is so still after one compaction
pub still_aside : {C : Type 0} (cmp : List ℕ → List ℕ → Ordering) (models_disk : Bool)
    (old : OpenStoreValue C) (from : Observed) (new : OpenStoreValue C) (to : Observed)
    → CompactsOnceAtMost cmp models_disk old from new to
    → old.set.log_number ≤ old.log.number → (kind : FileType) (n : ℕ)
    → IsLeftAside old.set kind n → IsLeftAside new.set kind n
still_aside {C} cmp models_disk old from new to once least kind n aside = by once.picked refl
  where
    none_done : GivesNumbersOrBreaks old.set new.set → IsLeftAside new.set kind n
    none_done (inl gives) =
        let log = ap (λ (s : VersionSetValue). s.log_number) gives.set in
        let manifest = ap (λ (s : VersionSetValue). s.manifest_number) gives.set in
        let previous = ap (λ (s : VersionSetValue). s.previous_log) gives.set in
        aside_by old.set new.set n (omega (arith, log)) (λ was e. was (e ∙ previous))
        (omega (arith, manifest)) kind aside
    none_done (inr broke) =
        let log = ap (λ (s : VersionSetValue). s.log_number) broke.2
        ∙ ap (λ (s : VersionSetValue). s.log_number) broke.1.set in
        let manifest = ap (λ (s : VersionSetValue). s.manifest_number) broke.2
        ∙ ap (λ (s : VersionSetValue). s.manifest_number) broke.1.set in
        let previous = ap (λ (s : VersionSetValue). s.previous_log) broke.2
        ∙ ap (λ (s : VersionSetValue). s.previous_log) broke.1.set in
        aside_by old.set new.set n (omega (arith, log)) (λ was e. was (e ∙ previous))
        (omega (arith, manifest)) kind aside

    one_done : (it : CompactionValue C) → LogsCompaction cmp it old new
        → IsLeftAside new.set kind n
    one_done it logs =
        let log : new.set.log_number ≡ old.log.number =
        ap (λ (s : VersionSetValue). s.log_number) logs.set
        ∙ ap (λ o. unwrap_or o logs.given.log_number) logs.replaces.log_number in
        let manifest = ap (λ (s : VersionSetValue). s.manifest_number) logs.set
        ∙ ap (λ (s : VersionSetValue). s.manifest_number) logs.gives.set in
        let previous = ap (λ (s : VersionSetValue). s.previous_log) logs.set in
        aside_by old.set new.set n (omega (arith, log, least)) (λ was e. e ∙ previous)
        (omega (arith, manifest)) kind aside

    by : (picked : Option (CompactionValue C)) → once.picked ≡ picked → IsLeftAside new.set kind n
    by None none = none_done (once.none none).set
    by (Some it) some =
        one_done it (subst (λ p. IfSome p (λ it. LogsCompaction cmp it old new)) some once.logged)
