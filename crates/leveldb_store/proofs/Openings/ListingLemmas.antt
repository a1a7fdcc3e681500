-- The files of a store among the names of its folder.
use Rattle.std.specs.Prelude.{All, Any, Contains, IfErr, IfOk, codes, string_bytes, ◌↔◌}
use Rattle.std.specs.BTreeSet.{BTreeSet}
use Rattle.std.specs.Global.{Global}
use Rattle.std.proofs.Common.{◌≡◌, ◌⊎◌, inl, inr, ⊎_elim, ℕ, ◌<◌, ◌≤◌, ◌+◌, List, [], ◌∷◌, ◌++◌, length, take, get_or, Result, Ok, Err, Vec, refl, sym, ◌∙◌, subst, arith}
use Rattle.std.proofs.lemmas.List.{map-append, take_all, take_more}
use Rattle.std.proofs.lemmas.List.Elements.{All-contains, All-nil, All-push, Contains-append_left, Contains-push, Contains-push_cases}
use Rattle.leveldb_base.proofs.EntriesLemmas.{in_map, map_in}
use Rattle.leveldb_base.proofs.HistoryLemmas.{in_none}
use Rattle.leveldb_base.proofs.NamesLemmas.{one_reading}
use Rattle.leveldb_base.specs.Error.{IsOutOfMemory}
use Rattle.leveldb_base.specs.Names.{IsFileName, file_name}
use Rattle.leveldb_base.specs.declared.error.Status.{Status}
use Rattle.leveldb_base.specs.declared.types.FileType.{FileType}
use Rattle.leveldb_base.specs.declared.types.FileType.TheVariants.{Current, Log, Table}
use Rattle.leveldb_env.specs.declared.env.Env.{Ghosts}
use Rattle.leveldb_version_set.proofs.Sets.RecoverLemmas.{cause_of_error}
use Rattle.leveldb_version_set.specs.Sets.VersionSetValue.{AreFileNumbersUsedUp, VersionSetValue}
use Rattle.leveldb_store.specs.Openings.Listing.{AddsFile, AreFilesIn, AreFilesOf, AreNamesIn, MatchesName, names_of}
use Rattle.leveldb_store.specs.Logs.ReplayLog.{HasCauseOr}
use Rattle.leveldb_store.specs.Openings.OpeningSteps.{AreReplayedLogs, ChecksSet, HasMisnamedLog, HasNumber, HasTableOrLog, MarksNames, WhyUnchecked}
use Rattle.leveldb_store.specs.declared.opening.listing.ListedFile.{ListedFile}

abbrev name_text : ListedFile → List ℕ
name_text file = string_bytes file.name

-- ---- one more name

-- no name, no file
pub no_files : AreFilesOf [] []
no_files = record {
  named = All-nil MatchesName;
  there = λ name c. absurd (in_none name c);
  all = λ name n kind c is. absurd (in_none name c);
}

-- the files of names with one more
pub files_more : (names : List (List ℕ)) (name : List ℕ) (old new : List ListedFile) → AreFilesOf names old → AddsFile name old new → AreFilesOf (names ++ name ∷ []) new
files_more names name old new are (inl (foreign, same)) = subst (AreFilesOf (names ++ name ∷ [])) (sym same) (record {
  named = are.named;
  there = λ a c. Contains-append_left names (name ∷ []) a (are.there a c);
  all = λ a n kind c is. ⊎_elim
      (λ (front : Contains names a). are.all a n kind front is)
      (λ (last : name ≡ a). absurd (foreign n kind (subst (λ t. IsFileName t n kind) (sym last) is)))
      (Contains-push_cases names name a c);
})
files_more names name old new are (inr (file, matches, text, one_more)) = subst (AreFilesOf (names ++ name ∷ [])) (sym one_more) (record {
  named = All-push MatchesName old file are.named matches;
  there = λ a c. ⊎_elim
      (λ (front : Contains (names_of old) a). Contains-append_left names (name ∷ []) a (are.there a front))
      (λ (last : string_bytes file.name ≡ a). subst (Contains (names ++ name ∷ [])) (sym text ∙ last) (Contains-push names name))
      (Contains-push_cases (names_of old) (string_bytes file.name) a (subst (λ ns. Contains ns a) more c));
  all = λ a n kind c is. subst (λ ns. Contains ns a) (sym more) (⊎_elim
      (λ (front : Contains names a). Contains-append_left (names_of old) (string_bytes file.name ∷ []) a (are.all a n kind front is))
      (λ (last : name ≡ a). subst (Contains (names_of old ++ string_bytes file.name ∷ [])) (text ∙ last) (Contains-push (names_of old) (string_bytes file.name)))
      (Contains-push_cases names name a c));
})
  where
    more : names_of (old ++ file ∷ []) ≡ names_of old ++ string_bytes file.name ∷ []
    more = map-append name_text old (file ∷ [])

-- ---- what is listed

-- a file among others of which something holds
any_in : {X : Type 0} (P : X → Type 0) (xs : List X) → Any P xs → (x : X) × Contains xs x × P x
any_in P xs (k, x, inside, is, holds) = (x, (k, inside, is), holds)

in_any : {X : Type 0} (P : X → Type 0) (xs : List X) (x : X) → Contains xs x → P x → Any P xs
in_any P xs x (k, inside, is) holds = (k, x, inside, is, holds)

-- what holds of each file up to one and of that one
pub all_more : (P : ListedFile → Type 0) (files : List ListedFile) (i : ℕ) (file : ListedFile) → i < length files → file ≡ get_or files i file → All P (take i files) → P file → All P (take (i + 1) files)
all_more P files i file inside is before here = subst (All P) (sym (take_more files i file inside)) (All-push P (take i files) (get_or files i file) before (subst P is here))

-- one of the files of which it holds
pub any_one : (P : ListedFile → Type 0) (files : List ListedFile) (i : ℕ) (file : ListedFile) → i < length files → file ≡ get_or files i file → P file → Any P files
any_one P files i file inside is holds = (i, file, inside, sym is, holds)

-- there is none where it holds of none up to the end
pub none_at_all : (P : ListedFile → Type 0) (files : List ListedFile) (i : ℕ) → length files ≤ i → All (λ file. P file → ⊥) (take i files) → Any P files → ⊥
none_at_all P files i past none some =
    let it = any_in P files some in
    All-contains (λ file. P file → ⊥) files it.0 (subst (All (λ file. P file → ⊥)) (take_all i files past) none) it.1 it.2

module _ (names : List (List ℕ)) (files : List ListedFile) (are : AreFilesOf names files) where
  -- a listed file's name is there
  name_there : (file : ListedFile) → Contains files file → Contains names (string_bytes file.name)
  name_there file c = are.there (string_bytes file.name) (map_in name_text files file c)

  matches : (file : ListedFile) → Contains files file → MatchesName file
  matches file c = All-contains MatchesName files file are.named c

  -- a name of a store's file is that of a listed one, of that number and type
  listed_as : (name : List ℕ) (n : ℕ) (kind : FileType) → Contains names name → IsFileName name n kind → (file : ListedFile) × Contains files file × (file.number ≡ n) × (file.kind ≡ kind)
  listed_as name n kind c is =
      let at = in_map name_text files name (are.all name n kind c is) in
      let reads : IsFileName name at.0.number at.0.kind = subst (λ t. IsFileName t at.0.number at.0.kind) at.2 (matches at.0 at.1) in
      let same = one_reading name at.0.number n at.0.kind kind reads is in
      (at.0, at.1, same.0, same.1)

  -- `CURRENT` is there exactly if a file of its type is listed
  pub current_listed : Any (λ (file : ListedFile). file.kind ≡ Current) files ↔ Contains names (codes "CURRENT")
  current_listed = (
    λ some.
        let it = any_in (λ (file : ListedFile). file.kind ≡ Current) files some in
        let is : IsFileName (string_bytes it.0.name) it.0.number Current = subst (IsFileName (string_bytes it.0.name) it.0.number) it.2 (matches it.0 it.1) in
        subst (Contains names) is.0 (name_there it.0 it.1),
    λ c.
        let it = listed_as (codes "CURRENT") 0 Current c (refl, refl) in
        in_any (λ (file : ListedFile). file.kind ≡ Current) files it.0 it.1 it.3,
  )

  -- a table or a log is there exactly if a file of these types is listed
  pub entries_listed : Any (λ (file : ListedFile). (file.kind ≡ Table) ⊎ (file.kind ≡ Log)) files ↔ HasTableOrLog names
  entries_listed = (
    λ some.
        let it = any_in (λ (file : ListedFile). (file.kind ≡ Table) ⊎ (file.kind ≡ Log)) files some in
        let text = string_bytes it.0.name in
        let either : IsFileName text it.0.number Table ⊎ IsFileName text it.0.number Log = ⊎_elim
        (λ (table : it.0.kind ≡ Table). inl (subst (IsFileName text it.0.number) table (matches it.0 it.1)))
        (λ (log : it.0.kind ≡ Log). inr (subst (IsFileName text it.0.number) log (matches it.0 it.1)))
        it.2 in
        (text, name_there it.0 it.1, (it.0.number, either)),
    λ has. ⊎_elim
        (λ (table : IsFileName has.0 has.2.0 Table).
        let it = listed_as has.0 has.2.0 Table has.1 table in
        in_any (λ (file : ListedFile). (file.kind ≡ Table) ⊎ (file.kind ≡ Log)) files it.0 it.1 (inl it.3))
        (λ (log : IsFileName has.0 has.2.0 Log).
        let it = listed_as has.0 has.2.0 Log has.1 log in
        in_any (λ (file : ListedFile). (file.kind ≡ Table) ⊎ (file.kind ≡ Log)) files it.0 it.1 (inr it.3))
        has.2.1,
  )

  -- ---- what holds of the names of listed files holds of all

  pub number_listed : (n : ℕ) → HasNumber (names_of files) n → HasNumber names n
  number_listed n (name, kind, c, is) = (name, kind, are.there name c, is)

  -- no set has the names of these files
  pub numbers_listed : (shown : List ListedFile) (status : Status) → shown ≡ files
      → IsOutOfMemory status ⊎ ((n : ℕ) × HasNumber (names_of shown) n × AreFileNumbersUsedUp n status)
      → IsOutOfMemory status ⊎ ((n : ℕ) × HasNumber names n × AreFileNumbersUsedUp n status)
  numbers_listed shown status same (inl memory) = inl memory
  numbers_listed shown status same (inr used) = inr (used.0, number_listed used.0 (subst (λ fs. HasNumber (names_of fs) used.0) same used.1), used.2)

  pub marks_listed : (old new : VersionSetValue) → MarksNames old (names_of files) new → MarksNames old names new
  marks_listed old new marks = record {
    gives = marks.gives;
    used = λ name n kind c is. marks.used name n kind (are.all name n kind c is) is;
    reached = ⊎_elim
        (λ (same : new.next_file ≡ old.next_file). inl same)
        (λ (it : (n : ℕ) × HasNumber (names_of files) n × (new.next_file ≡ n + 1)). inr (it.0, number_listed it.0 it.1, it.2))
        marks.reached;
  }

  module _ (log previous : ℕ) where
    pub logs_listed : (numbers : List ℕ) → AreReplayedLogs (names_of files) log previous numbers → AreReplayedLogs names log previous numbers
    logs_listed numbers logs = record {
      each = λ n c. let it = logs.each n c in (it.0, are.there (file_name Log n) it.1, it.2);
      all = λ name n c is replayed. logs.all name n (are.all name n Log c is) is replayed;
      rising = logs.rising;
    }

    pub misnamed_listed : HasMisnamedLog (names_of files) log previous → HasMisnamedLog names log previous
    misnamed_listed it = record {
      name = it.name;
      n = it.n;
      is_there = are.there it.name it.is_there;
      is_log = it.is_log;
      replayed = it.replayed;
      misnamed = it.misnamed;
    }

-- ---- a set that is checked

module _ {E F : Type 0} (env : Ghosts E F) (store : List ℕ) (names : List (List ℕ)) (files : List ListedFile) (are : AreFilesOf names files) (set : VersionSetValue) (from : E) where
  why_listed : (status : Status) → WhyUnchecked env store set (names_of files) from status → WhyUnchecked env store set names from status
  why_listed status (code, inl missing) = (code, inl missing)
  why_listed status (code, inr (inl not)) = (code, inr (inl not))
  why_listed status (code, inr (inr misnamed)) = (code, inr (inr (misnamed_listed names files are set.log_number set.previous_log misnamed)))

  -- by the names of listed files it is checked by all
  pub checks_listed : (result : Result (BTreeSet ℕ) Status) (to : E) → ChecksSet env store set (names_of files) from result to → ChecksSet env store set names from result to
  checks_listed (Ok logs) to checks = record {
    ok = record { tables = checks.ok.tables; given = checks.ok.given; fits = checks.ok.fits; logs_are = logs_listed names files are set.log_number set.previous_log logs.keys checks.ok.logs_are };
    still = checks.still;
    locks = checks.locks;
    cause = record { later = checks.cause.later; ok = checks.cause.ok; uncounted = tt; cause = tt };
  }
  checks_listed (Err status) to checks = record {
    ok = tt;
    still = checks.still;
    locks = checks.locks;
    cause = cause_of_error status
        (λ why. ⊎_elim (λ memory. inl memory) (λ it. inr (why_listed status it.0, it.1)) why)
        (λ why. ⊎_elim (λ memory. inl (inl memory)) (λ it. inr it.1) why) checks.cause;
  }

-- ---- a listing

-- the files of the names that were listed are those of the folder
pub lists_of : {E F : Type 0} (env : Ghosts E F) (store : List ℕ) (at : E) (result : Result (Vec ListedFile Global) Status) (names : List (List ℕ)) → AreNamesIn env store at names
    → IfOk result (λ files. AreFilesOf names files.items) → IfOk result (λ files. AreFilesIn env store at files.items)
lists_of env store at (Ok files) names lists are = (names, lists, are)
lists_of env store at (Err status) names lists are = tt

-- nothing was counted, so memory alone is a cause
pub uncounted_memory : {T : Type 0} {Why : Status → Type 0} {f0 f1 : ℕ} (result : Result T Status) → f1 ≡ f0 → IfErr result IsOutOfMemory → HasCauseOr Why f0 f1 result
uncounted_memory (Ok value) same memory = record { later = omega (arith, same); ok = same; uncounted = tt; cause = tt }
uncounted_memory (Err status) same memory = record { later = omega (arith, same); ok = tt; uncounted = λ why. same; cause = inl (inl memory) }
