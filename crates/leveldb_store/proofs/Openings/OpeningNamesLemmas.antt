-- Names of a store's folder, one after another, and what is read of them.
use Rattle.std.specs.Prelude.{All, Contains, IsTrue, string_bytes, ◌↔◌, ◌≢◌, ◌^◌}
use Rattle.std.proofs.Common.{◌≡◌, ◌⊎◌, inl, inr, ⊎_elim, ℕ, ◌≤◌, ◌<◌, ◌+◌, Bool, true, false, List, [], ◌∷◌, ◌++◌, length, max, take, drop, get_or, refl, sym, ◌∙◌, ap, subst, arith}
use Rattle.std.proofs.lemmas.List.{map_more, map-append, take-append-drop, take_all}
use Rattle.std.proofs.lemmas.List.Elements.{All-contains, Contains-append_left, Contains-push, Contains-push_cases}
use Rattle.std.proofs.lemmas.Bool.{cases_lt}
use Rattle.std.proofs.lemmas.Cmp.{nat_cmp_total}
use Rattle.std.proofs.lemmas.Map.Lookups.{exact_unsigned}
use Rattle.std.proofs.lemmas.Map.Views.{btree_set_contains_iff}
use Rattle.std.proofs.Math.Bool.{cond}
use Rattle.std.specs.BTreeSet.{BTreeSet, Updates, contains}
use Rattle.std.specs.Cmp.{Equal-is}
use Rattle.std.specs.List.Sorted.{IsStrictlySortedBy}
use Rattle.std.specs.Ordering.{is_eq, nat_cmp}
use Rattle.leveldb_base.proofs.HistoryLemmas.{in_none}
use Rattle.leveldb_base.proofs.NamesLemmas.{one_reading}
use Rattle.leveldb_base.specs.Names.{IsFileName, file_name}
use Rattle.leveldb_base.specs.Error.{IsOutOfMemory}
use Rattle.leveldb_base.specs.declared.error.Status.{Status}
use Rattle.leveldb_base.specs.declared.error.StatusCode.TheVariants.{Corruption}
use Rattle.leveldb_base.specs.declared.types.FileType.{FileType}
use Rattle.leveldb_base.specs.declared.types.FileType.TheVariants.{Log}
use Rattle.leveldb_version_set.specs.Sets.VersionSetValue.{VersionSetValue, with_numbers_used}
use Rattle.leveldb_store.specs.Openings.Opening.{GivesNumbers}
use Rattle.leveldb_store.specs.Openings.OpeningSteps.{AddsLog, AreReplayedLogs, HasMisnamedLog, HasNumber, IsReplayed, MarksNames}
use Rattle.leveldb_store.specs.Openings.Listing.{MatchesName, names_of}
use Rattle.leveldb_store.specs.declared.opening.listing.ListedFile.{ListedFile}

-- ---- one more name

-- the text of a listed file's name
abbrev file_name_text : ListedFile → List ℕ
file_name_text file = string_bytes file.name

pub names_more : (files : List ListedFile) (i : ℕ) (file : ListedFile) → i < length files → file ≡ get_or files i file
    → names_of (take (i + 1) files) ≡ names_of (take i files) ++ string_bytes file.name ∷ []
names_more files i file inside is = map_more file_name_text files i file inside ∙ ap (λ n. names_of (take i files) ++ string_bytes n.name ∷ []) (sym is)

pub name_is_one : (files : List ListedFile) (i : ℕ) (file : ListedFile) → i < length files → file ≡ get_or files i file → Contains (names_of files) (string_bytes file.name)
name_is_one files i file inside is =
    let P : List (List ℕ) → Type 0 = λ ns. Contains ns (string_bytes file.name) in
    let front : Contains (names_of (take (i + 1) files)) (string_bytes file.name) = subst P (sym (names_more files i file inside is)) (Contains-push (names_of (take i files)) (string_bytes file.name)) in
    let split : names_of files ≡ names_of (take (i + 1) files) ++ names_of (drop (i + 1) files) =
    ap names_of (sym (take-append-drop (i + 1) files)) ∙ map-append file_name_text (take (i + 1) files) (drop (i + 1) files) in
    subst P (sym split) (Contains-append_left (names_of (take (i + 1) files)) (names_of (drop (i + 1) files)) (string_bytes file.name) front)

-- a name among those before is among those with one more, and so is that one
among_more : (files : List ListedFile) (i : ℕ) (file : ListedFile) → i < length files → file ≡ get_or files i file → (a : List ℕ) → Contains (names_of (take i files)) a → Contains (names_of (take (i + 1) files)) a
among_more files i file inside is a there = subst (λ ns. Contains ns a) (sym (names_more files i file inside is)) (Contains-append_left (names_of (take i files)) (string_bytes file.name ∷ []) a there)

last_of_more : (files : List ListedFile) (i : ℕ) (file : ListedFile) → i < length files → file ≡ get_or files i file → Contains (names_of (take (i + 1) files)) (string_bytes file.name)
last_of_more files i file inside is = subst (λ ns. Contains ns (string_bytes file.name)) (sym (names_more files i file inside is)) (Contains-push (names_of (take i files)) (string_bytes file.name))

-- what holds of each name before the first one
pub none_yet : (P : List ℕ → Type 0) (files : List ListedFile) (name : List ℕ) → Contains (names_of (take 0 files)) name → P name
none_yet P names name there = absurd (in_none name there)

-- what holds of each name up to one and of that one
pub each_name_more : (P : List ℕ → Type 0) (files : List ListedFile) (i : ℕ) (file : ListedFile) → i < length files → file ≡ get_or files i file
    → ((a : List ℕ) → Contains (names_of (take i files)) a → P a) → P (string_bytes file.name) → (a : List ℕ) → Contains (names_of (take (i + 1) files)) a → P a
each_name_more P files i file inside is each it a there = ⊎_elim
    (λ (old : Contains (names_of (take i files)) a). each a old)
    (λ (same : string_bytes file.name ≡ a). subst P same it)
    (Contains-push_cases (names_of (take i files)) (string_bytes file.name) a (subst (λ ns. Contains ns a) (names_more files i file inside is) there))

-- what holds of each name at the end
pub each_name : (P : List ℕ → Type 0) (files : List ListedFile) (i : ℕ) → length files ≤ i
    → ((a : List ℕ) → Contains (names_of (take i files)) a → P a) → (a : List ℕ) → Contains (names_of files) a → P a
each_name P files i past each a there = each a (subst (λ ns. Contains (names_of ns) a) (sym (take_all i files past)) there)

-- a file among those that match their names does
pub matches_one : (files : List ListedFile) (i : ℕ) (file : ListedFile) → i < length files → file ≡ get_or files i file → All MatchesName files → MatchesName file
matches_one files i file inside is all = All-contains MatchesName files file all (i, inside, sym is)

-- ---- names and their numbers

-- the number of one more file is used
pub marks_more : (old mid new : VersionSetValue) (files : List ListedFile) (i : ℕ) (file : ListedFile) → i < length files → file ≡ get_or files i file
    → MarksNames old (names_of (take i files)) mid → MatchesName file → new ≡ with_numbers_used mid file.number
    → MarksNames old (names_of (take (i + 1) files)) new
marks_more old mid new files i file inside is marks matches marked = record {
  gives = record {
    set = let moved : VersionSetValue → VersionSetValue = λ set. record set { next_file = new.next_file; given = new.given } in gives.set ∙ ap moved marks.gives.set;
    rises = omega (arith, marks.gives.rises, gives.rises);
  };
  used = λ a n kind there is_name. each_name_more (λ a. (n : ℕ) (kind : FileType) → IsFileName a n kind → n < new.next_file) files i file inside is
      (λ a there n kind is_name. let below = marks.used a n kind there is_name in omega (arith, below, gives.rises)) used a there n kind is_name;
  reached = ⊎_elim
      (λ (less : mid.next_file < file.number + 1).
      inr (file.number, (string_bytes file.name, file.kind, last_of_more files i file inside is, matches), omega (arith, next, less)))
      (λ (more : file.number + 1 ≤ mid.next_file). ⊎_elim
      (λ (old_same : mid.next_file ≡ old.next_file). inl (omega (arith, next, more, old_same)))
      (λ (it : (n : ℕ) × HasNumber (names_of (take i files)) n × (mid.next_file ≡ n + 1)).
      inr (it.0, (it.1.0, it.1.1, among_more files i file inside is it.1.0 it.1.2, it.1.3), omega (arith, next, more, it.2)))
      marks.reached)
      (cases_lt mid.next_file (file.number + 1));
}
  where
    next : new.next_file ≡ max mid.next_file (file.number + 1)
    next = ap (λ (set : VersionSetValue). set.next_file) marked

    gives : GivesNumbers mid new
    gives = subst (GivesNumbers mid) (sym marked) (record { set = refl; rises = omega arith })

    -- however its name is read
    used : (n : ℕ) (kind : FileType) → IsFileName (string_bytes file.name) n kind → n < new.next_file
    used n kind read =
        let same = (one_reading (string_bytes file.name) n file.number kind file.kind read matches).0 in
        rw same (rw next (omega arith))

-- none is there at first
pub marks_none : (set : VersionSetValue) (files : List ListedFile) → MarksNames set (names_of (take 0 files)) set
marks_none set names = record {
  gives = record { set = refl; rises = omega arith };
  used = λ name n kind there is_name. absurd (in_none name there);
  reached = inl refl;
}

-- the keys of a set with one more
pub added_key : (old new : BTreeSet ℕ) (k : ℕ) → Updates nat_cmp old new k true → (q : ℕ) → Contains new.keys q ↔ ((q ≡ k) ⊎ Contains old.keys q)
added_key old new k updates q = (to, from)
  where
    old_has : IsTrue (contains nat_cmp old q) ↔ Contains old.keys q
    old_has = btree_set_contains_iff nat_cmp_total exact_unsigned old q

    new_has : IsTrue (contains nat_cmp new q) ↔ Contains new.keys q
    new_has = btree_set_contains_iff nat_cmp_total exact_unsigned new q

    by : (b : Bool) → is_eq (nat_cmp k q) ≡ b → contains nat_cmp new q ≡ true → (q ≡ k) ⊎ Contains old.keys q
    by true is has = inl (sym (exact_unsigned k q ((Equal-is (nat_cmp k q)).0 is)))
    by false is has = inr (old_has.0 (sym (updates.2 q is) ∙ has))

    to : Contains new.keys q → (q ≡ k) ⊎ Contains old.keys q
    to there = by (is_eq (nat_cmp k q)) refl (new_has.1 there)

    back : (b : Bool) → is_eq (nat_cmp k q) ≡ b → Contains old.keys q → Contains new.keys q
    back true is there = new_has.0 (updates.0 q ∙ ap (λ b. cond b true (contains nat_cmp old q)) is)
    back false is there = new_has.0 (updates.2 q is ∙ old_has.1 there)

    from : (q ≡ k) ⊎ Contains old.keys q → Contains new.keys q
    from (inl same) = subst (Contains new.keys) (sym same) ((btree_set_contains_iff nat_cmp_total exact_unsigned new k).0 updates.1)
    from (inr there) = back (is_eq (nat_cmp k q)) refl there

-- a log's number is added
pub adds_log : (log previous : ℕ) (name : List ℕ) (n : ℕ) (old new : BTreeSet ℕ) → IsFileName name n Log → IsReplayed log previous n → name ≡ file_name Log n → n < 2 ^ 64
    → Updates nat_cmp old new n true → IsStrictlySortedBy nat_cmp new.keys → AddsLog log previous name old.keys new.keys
adds_log log previous name n old new is replayed named fits updates ordered = record {
  kept = λ m there. (added_key old new n updates m).1 (inr there);
  added = λ m other it.
      let same = (one_reading name n m Log Log is other).0 in
      (subst (λ k. name ≡ file_name Log k) same named, (added_key old new n updates m).1 (inl (sym same)));
  no_other = λ m there. ⊎_elim
      (λ (same : m ≡ n). inr (subst (λ k. IsReplayed log previous k × (name ≡ file_name Log k) × (k < 2 ^ 64)) (sym same) (replayed, named, fits)))
      (λ (before : Contains old.keys m). inl before)
      ((added_key old new n updates m).0 there);
  rising = λ before. ordered;
}

-- none is, where the file is no log that is replayed
pub adds_none : (log previous : ℕ) (file : ListedFile) (numbers : List ℕ) → MatchesName file → (file.kind ≡ Log → IsReplayed log previous file.number → ⊥) → AddsLog log previous (string_bytes file.name) numbers numbers
adds_none log previous file numbers matches none = record {
  kept = λ n there. there;
  added = λ n is replayed.
      let same = one_reading (string_bytes file.name) file.number n file.kind Log matches is in
      absurd (none same.1 (subst (IsReplayed log previous) (sym same.0) replayed));
  no_other = λ n there. inl there;
  rising = λ before. before;
}

pub sorted_none : IsStrictlySortedBy nat_cmp []
unfolding IsStrictlySortedBy
sorted_none = tt

module _ (log previous : ℕ) (files : List ListedFile) where
  -- at first there is none
  pub no_logs : (numbers : List ℕ) → numbers ≡ [] → AreReplayedLogs (names_of (take 0 files)) log previous numbers
  no_logs numbers none = subst (AreReplayedLogs (names_of (take 0 files)) log previous) (sym none) (record {
    each = λ n there. absurd (in_none n there);
    all = λ name n there is replayed. absurd (in_none name there);
    rising = sorted_none;
  })

  -- and then those of one more name
  pub logs_more : (i : ℕ) (file : ListedFile) → i < length files → file ≡ get_or files i file → (old new : List ℕ)
      → AreReplayedLogs (names_of (take i files)) log previous old → AddsLog log previous (string_bytes file.name) old new
      → AreReplayedLogs (names_of (take (i + 1) files)) log previous new
  logs_more i file inside is old new are adds = record {
    each = λ n there. ⊎_elim
        (λ (before : Contains old n). let each = are.each n before in (each.0, front (file_name Log n) each.1, each.2))
        (λ (it : IsReplayed log previous n × (string_bytes file.name ≡ file_name Log n) × (n < 2 ^ 64)). (it.0, subst (Contains (names_of (take (i + 1) files))) it.1 here, it.2))
        (adds.no_other n there);
    all = λ a n there is_name it. each_name_more (λ a. (n : ℕ) → IsFileName a n Log → IsReplayed log previous n → (a ≡ file_name Log n) × Contains new n) files i file inside is
        (λ a there n is_name it. let all = are.all a n there is_name it in (all.0, adds.kept n all.1)) adds.added a there n is_name it;
    rising = adds.rising are.rising;
  }
    where
      more : names_of (take (i + 1) files) ≡ names_of (take i files) ++ string_bytes file.name ∷ []
      more = names_more files i file inside is

      here : Contains (names_of (take (i + 1) files)) (string_bytes file.name)
      here = subst (λ ns. Contains ns (string_bytes file.name)) (sym more) (Contains-push (names_of (take i files)) (string_bytes file.name))

      front : (a : List ℕ) → Contains (names_of (take i files)) a → Contains (names_of (take (i + 1) files)) a
      front a there = subst (λ ns. Contains ns a) (sym more) (Contains-append_left (names_of (take i files)) (string_bytes file.name ∷ []) a there)

-- a name that is misnamed alone is so among all
pub misnamed_among : (log previous : ℕ) (names : List (List ℕ)) (name : List ℕ) → Contains names name → HasMisnamedLog (name ∷ []) log previous → HasMisnamedLog names log previous
misnamed_among log previous names name there it = record {
  name = it.name;
  n = it.n;
  is_there = subst (Contains names) (only name it.name it.is_there) there;
  is_log = it.is_log;
  replayed = it.replayed;
  misnamed = it.misnamed;
}
  where
    only : (a b : List ℕ) → Contains (a ∷ []) b → a ≡ b
    only a b at = ⊎_elim (λ (none : Contains [] b). absurd (in_none b none)) (λ (same : a ≡ b). same) (Contains-push_cases [] a b at)

-- why a log's name was refused
pub misnamed_alone : (log previous : ℕ) (name : List ℕ) (n : ℕ) (status : Status) → IsFileName name n Log → IsReplayed log previous n
    → IsOutOfMemory status ⊎ ((status.code ≡ Corruption) × (name ≢ file_name Log n))
    → IsOutOfMemory status ⊎ ((status.code ≡ Corruption) × HasMisnamedLog (name ∷ []) log previous)
misnamed_alone log previous name n status is replayed (inl memory) = inl memory
misnamed_alone log previous name n status is replayed (inr it) = inr (
  it.0,
  record {
    name = name;
    n = n;
    is_there = Contains-push [] name;
    is_log = is;
    replayed = replayed;
    misnamed = it.1;
  },
)
