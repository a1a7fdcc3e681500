-- Which compaction a version asks for: where a level or a range asks for one, there are files to
-- take.
use Rattle.std.specs.Prelude.{◌≢◌, Contains, IfSome, IsSomeAnd, IfOk, find, is_some, nat_lt, not, option_and_then, ◌||◌, if◌then◌else◌, slice_get, sum_by}
use Rattle.std.proofs.Common.{◌≡◌, ◌∙◌, ◌↔◌, ◌<◌, ◌≤◌, ◌*◌, ◌^◌, ◌⊎◌, ◌++◌, inl, inr, ⊎_elim, ap, ◌∷◌, ℕ, zero, suc, Bool, true, false, cond, List, [], Err, Ok, Option, Result, None, Some, arith, length, map, ◌==◌, refl, subst, sym, take}
use Rattle.std.proofs.lemmas.Bool.{and_from, and_parts, eq-eqb, eqb-true, lt-ltb}
use Rattle.std.specs.Borrow.{Bor}
use Rattle.std.specs.Cmp.{IsTotalOrder}
use Rattle.std.proofs.lemmas.List.{take_all}
use Rattle.std.proofs.lemmas.List.Elements.{filter_map-append}
use Rattle.std.proofs.lemmas.Option.{slice_get-map}
use Rattle.std.specs.List.{cons_option, filter, filter_map, last_or, list_any}
use Rattle.std.specs.Option.{option_copied, option_map, option_map_or, option_or}
use Rattle.std.specs.Ordering.{is_lt}
use Rattle.std.specs.declared.cmp.Ordering.{Ordering}
use Rattle.std.specs.declared.cmp.Ordering.TheVariants.{Less}
use Rattle.leveldb_base.proofs.EntriesLemmas.{map_in}
use Rattle.leveldb_base.proofs.HistoryLemmas.{in_cases, in_front, in_none, in_rest}
use Rattle.leveldb_base.proofs.OrderLemmas.{both, is_false, is_true, le_le, lt_itself, not_less}
use Rattle.leveldb_base.specs.KeyTypes.{internal_cmp, user_part}
use Rattle.leveldb_base.specs.declared.types.FileMetaData.{FileMetaData}
use Rattle.leveldb_version_set.proofs.Compactions.InputsLemmas.{user_up}
use Rattle.leveldb_files.proofs.Levels.OverlapLemmas.{covers_itself}
use Rattle.leveldb_version.proofs.Versions.ScoresLemmas.{scores_tell_level}
use Rattle.leveldb_version.proofs.Versions.SearchLemmas.{kept_passes, passes_kept}
use Rattle.leveldb_version.proofs.Versions.VersionLemmas.{at_level_map}
use Rattle.leveldb_files.proofs.Edits.VersionSetLemmas.{last_or-append, last_or-single}
use Rattle.leveldb_version.specs.Versions.DeeperLevels.{closed_range}
use Rattle.leveldb_version_set.specs.Compactions.Inputs.{AreOrdered, AreWithin, IsCountPast}
use Rattle.leveldb_files.specs.Levels.Overlap.{AreInputs, Covers, UserRange, is_above, is_below, is_overlapped, overlapping, overlaps}
use Rattle.leveldb_version.specs.Versions.Scores.{level_by_score, level_limit, level_load}
use Rattle.leveldb_files.specs.Levels.Summary.{files_of_level, total_size}
use Rattle.leveldb_version_set.specs.Compactions.Picking.{CompactionValue, IsCompactionOf, IsOfFile, IsOfRange, file_by_reads}
use Rattle.leveldb_version.specs.Versions.Version.{VersionValue, at_level, borrowed_files, new_files_of}
use Rattle.leveldb_files.specs.Edits.Edit.{LevelFile, NewFile, Pointer}
use Rattle.leveldb_version.specs.Edits.VersionEdit.{new_file_of}
use Rattle.leveldb_files.specs.Edits.VersionSet.{key_for, pointer_at}

-- ---- tests of lists

any_none : {A : Type 0} (p : A → Bool) (xs : List A) → ((x : A) → Contains xs x → p x ≡ false) → list_any p xs ≡ false
any_none p [] each = refl
any_none {A} p (x ∷ xs) each = by (p x) (each x (in_front x xs)) (any_none p xs (λ y c. each y (in_rest x y xs c)))
  where
    by : (b : Bool) → b ≡ false → list_any p xs ≡ false → (b || list_any p xs) ≡ false
    by true e rest = absurd cc
    by false e rest = rest

any_has : {A : Type 0} (p : A → Bool) (xs : List A) (x : A) → Contains xs x → p x ≡ true → list_any p xs ≡ true
any_has p [] x c e = absurd (in_none x c)
any_has {A} p (y ∷ xs) x c e = by (p y) (⊎_elim
    (λ (same : y ≡ x). inl (subst (λ (z : A). p z ≡ true) (sym same) e))
    (λ (d : Contains xs x). inr (any_has p xs x d e)) (in_cases y x xs c))
  where
    by : (b : Bool) → (b ≡ true) ⊎ (list_any p xs ≡ true) → (b || list_any p xs) ≡ true
    by true either = refl
    by false (inl e) = absurd cc
    by false (inr e) = e

is_open : (b : Bool) → not b ≡ true → b ≡ false
is_open true e = cc
is_open false e = refl

is_closed : (b : Bool) → b ≡ false → not b ≡ true
is_closed true e = cc
is_closed false e = refl

-- the first of files past a limit are none only where there are none
pub none_past : (limit n : ℕ) (files : List NewFile) → IsCountPast limit files n → take n files ≡ [] → files ≡ []
none_past limit n files counted none = ⊎_elim
    (λ (past : limit < sum_by (λ (file : NewFile). file.size) (take n files)).
    let zero_is : sum_by (λ (file : NewFile). file.size) (take n files) ≡ 0 = ap (sum_by (λ (file : NewFile). file.size)) none in absurd (omega (arith, past, zero_is)))
    (λ (all : length files ≤ n). sym (take_all n files all) ∙ none)
    counted.past

-- ---- ranges and what overlaps them

module _ (cmp : List ℕ → List ℕ → Ordering) (total : IsTotalOrder cmp) where
  below_kept : (wide narrow : Option (List ℕ)) (key : List ℕ) → IfSome wide (λ k. IsSomeAnd narrow (λ first. cmp first k ≢ Less))
      → option_map_or (λ begin. is_lt (cmp key begin)) narrow false ≡ false → option_map_or (λ begin. is_lt (cmp key begin)) wide false ≡ false
  below_kept None narrow key covers e = refl
  below_kept (Some k) None key covers e = absurd covers
  below_kept (Some k) (Some first) key covers e = le_le total k first key (not_less (cmp first k) covers) e

  above_kept : (wide narrow : Option (List ℕ)) (key : List ℕ) → IfSome wide (λ k. IsSomeAnd narrow (λ last. cmp k last ≢ Less))
      → option_map_or (λ end. is_lt (cmp end key)) narrow false ≡ false → option_map_or (λ end. is_lt (cmp end key)) wide false ≡ false
  above_kept None narrow key covers e = refl
  above_kept (Some k) None key covers e = absurd covers
  above_kept (Some k) (Some last) key covers e = le_le total key last k e (not_less (cmp k last) covers)

  -- what overlaps a range overlaps each that covers it
  covers_keep : (range narrow : UserRange) → Covers cmp range narrow → (file : NewFile) → overlaps cmp narrow file ≡ true → overlaps cmp range file ≡ true
  covers_keep range narrow covers file meets =
      let parts = and_parts (not (is_below cmp narrow (user_part file.largest))) (not (is_above cmp narrow (user_part file.smallest))) meets in
      and_from (not (is_below cmp range (user_part file.largest))) (not (is_above cmp range (user_part file.smallest)))
      (is_closed (is_below cmp range (user_part file.largest)) (below_kept range.begin narrow.begin (user_part file.largest) covers.begin (is_open (is_below cmp narrow (user_part file.largest)) parts.0)))
      (is_closed (is_above cmp range (user_part file.smallest)) (above_kept range.end narrow.end (user_part file.smallest) covers.end (is_open (is_above cmp narrow (user_part file.smallest)) parts.1)))

  wider : (level : ℕ) (narrow : UserRange) (files inputs : List NewFile) (are : AreInputs cmp level narrow files inputs) (file : NewFile) → overlaps cmp narrow file ≡ true → overlaps cmp are.range file ≡ true
  wider zero narrow files inputs are file meets = covers_keep are.range narrow (are.widened refl).covers file meets
  wider (suc level) narrow files inputs are file meets = subst (λ (range : UserRange). overlaps cmp range file ≡ true) (sym (are.kept (omega arith))) meets

  -- a file of the level that overlaps the range is among the inputs
  pub overlapping_is_input : (level : ℕ) (narrow : UserRange) (files inputs : List NewFile) → AreInputs cmp level narrow files inputs → (file : NewFile) → Contains (files_of_level level files) file
      → overlaps cmp narrow file ≡ true → Contains inputs file
  overlapping_is_input level narrow files inputs are file at meets =
      subst (λ (fs : List NewFile). Contains fs file) (sym are.inputs_are)
      (passes_kept (overlaps cmp are.range) (files_of_level level files) file at (wider level narrow files inputs are file meets))

  -- where there are no inputs nothing overlaps the range
  pub none_overlaps : (level : ℕ) (narrow : UserRange) (files : List NewFile) → AreInputs cmp level narrow files [] → is_overlapped cmp level narrow files ≡ false
  none_overlaps level narrow files are =
      any_none (overlaps cmp narrow) (files_of_level level files) (λ file c. is_false (overlaps cmp narrow file) (λ meets.
      in_none file (overlapping_is_input level narrow files [] are file c meets)))

  -- and where nothing overlaps it there are none
  pub none_are_inputs : (level : ℕ) (narrow : UserRange) (files inputs : List NewFile) → AreInputs cmp level narrow files inputs → is_overlapped cmp level narrow files ≡ false → inputs ≡ []
  none_are_inputs level narrow files inputs are none =
      are.inputs_are ∙ no_pass (overlaps cmp are.range) (files_of_level level files) (λ file c. is_false (overlaps cmp are.range file) (λ meets.
      not_there file c (back level files inputs narrow are not_there file meets)))
    where
      not_there : (file : NewFile) → Contains (files_of_level level files) file → overlaps cmp narrow file ≡ true → ⊥
      not_there file c meets = both (is_overlapped cmp level narrow files) (any_has (overlaps cmp narrow) (files_of_level level files) file c meets) none

      no_pass : (p : NewFile → Bool) (xs : List NewFile) → ((x : NewFile) → Contains xs x → p x ≡ false) → filter p xs ≡ []
      no_pass p [] each = refl
      no_pass p (x ∷ xs) each = by (p x) (each x (in_front x xs)) (no_pass p xs (λ y c. each y (in_rest x y xs c)))
        where
          by : (b : Bool) → b ≡ false → filter p xs ≡ [] → cond b (x ∷ filter p xs) (filter p xs) ≡ []
          by true e rest = absurd cc
          by false e rest = rest

      back : (n : ℕ) (all those : List NewFile) (range : UserRange) (it : AreInputs cmp n range all those) → ((file : NewFile) → Contains (files_of_level n all) file → overlaps cmp range file ≡ true → ⊥)
          → (file : NewFile) → overlaps cmp it.range file ≡ true → overlaps cmp range file ≡ true
      back zero all those range it out file meets =
          covers_keep range it.range ((it.widened refl).least range (covers_itself total range) (λ one c over. absurd (out one c over))) file meets
      back (suc n) all those range it out file meets = subst (λ (r : UserRange). overlaps cmp r file ≡ true) (it.kept (omega arith)) meets

  -- a file that isn't turned round overlaps a range that begins no later and ends no earlier
  within_overlaps : (low high : List ℕ) (file : NewFile) → cmp (user_part file.largest) (user_part file.smallest) ≢ Less
      → is_lt (cmp (user_part file.smallest) low) ≡ false → is_lt (cmp high (user_part file.largest)) ≡ false → overlaps cmp (closed_range low high) file ≡ true
  within_overlaps low high file ordered from to =
      let up = not_less (cmp (user_part file.largest) (user_part file.smallest)) ordered in
      and_from (not (is_below cmp (closed_range low high) (user_part file.largest))) (not (is_above cmp (closed_range low high) (user_part file.smallest)))
      (is_closed (is_below cmp (closed_range low high) (user_part file.largest)) (le_le total low (user_part file.smallest) (user_part file.largest) from up))
      (is_closed (is_above cmp (closed_range low high) (user_part file.smallest)) (le_le total (user_part file.smallest) (user_part file.largest) high up to))

  -- so a file of a level is among the inputs of its own range
  pub own_is_input : (level : ℕ) (files inputs : List NewFile) (file : NewFile) → AreInputs cmp level (closed_range (user_part file.smallest) (user_part file.largest)) files inputs
      → AreOrdered cmp files → Contains files file → Contains (files_of_level level files) file → Contains inputs file
  own_is_input level files inputs file are ordered there at =
      overlapping_is_input level (closed_range (user_part file.smallest) (user_part file.largest)) files inputs are file at
      (within_overlaps (user_part file.smallest) (user_part file.largest) file (ordered file there) (lt_itself total (user_part file.smallest)) (lt_itself total (user_part file.largest)))

  -- and files of a level are among the inputs of a range that is no narrower than they are
  pub seen_is_input : (level : ℕ) (files inputs seen : List NewFile) (low high : List ℕ) → AreInputs cmp level (closed_range (user_part low) (user_part high)) files inputs
      → AreOrdered cmp files → AreWithin cmp seen low high → (file : NewFile) → Contains seen file → Contains files file → file.level ≡ level → Contains inputs file
  seen_is_input level files inputs seen low high are ordered wide file c there at =
      overlapping_is_input level (closed_range (user_part low) (user_part high)) files inputs are file (passes_kept (λ (f : NewFile). f.level == level) files file there (eq-eqb file.level level at))
      (within_overlaps (user_part low) (user_part high) file (ordered file there)
      (user_up cmp file.smallest low (not_less (internal_cmp cmp file.smallest low) (wide file c).0)) (user_up cmp high file.largest (not_less (internal_cmp cmp high file.largest) (wide file c).1)))

-- ---- a level that asks has files

-- a level that asks for a compaction by its score has a file
pub asking_has_files : (files : List NewFile) (level : ℕ) → level_by_score files ≡ Some level → files_of_level level files ≡ [] → ⊥
asking_has_files files level asks none =
    let told = (scores_tell_level files level).0 asks in
    by level told.0.known none told.1
  where
    by : (level : ℕ) → level < 6 → files_of_level level files ≡ [] → level_limit level ≤ level_load files level → ⊥
    by zero known none most = let has : 4 ≤ length (files_of_level 0 files) = most in let zero_is : length (files_of_level 0 files) ≡ 0 = ap length none in omega (arith, has, zero_is)
    by (suc level) known none most =
        let zero_is : total_size (files_of_level (suc level) files) ≡ 0 = ap total_size none in
        let at_least : 10 * 2 ^ 20 * 10 ^ level ≤ total_size (files_of_level (suc level) files) = most in
        deep level (subst (λ n. 10 * 2 ^ 20 * 10 ^ level ≤ n) zero_is at_least) known
      where
        deep : (level : ℕ) → 10 * 2 ^ 20 * 10 ^ level ≤ 0 → suc level < 6 → ⊥
        deep zero most known = omega (arith, most)
        deep (suc zero) most known = omega (arith, most)
        deep (suc (suc zero)) most known = omega (arith, most)
        deep (suc (suc (suc zero))) most known = omega (arith, most)
        deep (suc (suc (suc (suc zero)))) most known = omega (arith, most)
        deep (suc (suc (suc (suc (suc level))))) most known = omega (arith, known)

pub known_level : (files : List NewFile) (level : ℕ) → level_by_score files ≡ Some level → level < 6
known_level files level asks = let told = (scores_tell_level files level).0 asks in told.0.known

-- a file of a level of a version, as an edit says it
pub file_in_level : (level : ℕ) (files : List (ℕ × FileMetaData)) (file : ℕ × FileMetaData) → Contains (at_level level files) file
    → Contains (map new_file_of files) (new_file_of file) × Contains (files_of_level level (map new_file_of files)) (new_file_of file)
file_in_level level files file c = (
  map_in new_file_of files file (kept_passes (λ (f : ℕ × FileMetaData). f.0 == level) files file c).0,
  subst (λ (fs : List NewFile). Contains fs (new_file_of file)) (at_level_map level files) (map_in new_file_of (at_level level files) file c),
)

-- ---- options of borrowed files

pub copied_or : (a b : Option (Bor (ℕ × FileMetaData))) → option_map new_file_of (option_copied (option_or a b))
    ≡ option_or (option_map new_file_of (option_copied a)) (option_map new_file_of (option_copied b))
copied_or None b = refl
copied_or (Some a) b = refl

pub either_there : (files : List (ℕ × FileMetaData)) (a b : Option (Bor (ℕ × FileMetaData))) → IfSome a (λ file. Contains files file.now)
    → IfSome b (λ file. Contains files file.now) → IfSome (option_or a b) (λ file. Contains files file.now)
either_there files None b left right = right
either_there files (Some a) b left right = left

-- the first file is one of them
pub first_there : (files : List (ℕ × FileMetaData)) (file : Option (Bor (ℕ × FileMetaData))) → option_copied file ≡ slice_get files 0 → IfSome file (λ one. Contains files one.now)
first_there files None is = tt
first_there [] (Some file) is = cc
first_there (x ∷ files) (Some file) is = let same : file.now ≡ x = cc in subst (Contains (x ∷ files)) (sym same) (in_front x files)

pub first_is : (files : List (ℕ × FileMetaData)) (file : Option (ℕ × FileMetaData)) → file ≡ slice_get files 0 → option_map new_file_of file ≡ slice_get (map new_file_of files) 0
first_is files file is = ap (option_map new_file_of) is ∙ sym (slice_get-map new_file_of files 0)

-- ---- pointers

pub pointer_more : (pointers : List Pointer) (pointer : Pointer) (level : ℕ)
    → pointer_at (pointers ++ pointer ∷ []) level ≡ (if pointer.level == level then Some pointer.key else pointer_at pointers level)
pointer_more pointers pointer level =
    ap (last_or None) (filter_map-append (key_for level) pointers (pointer ∷ []))
    ∙ last_or-append None (filter_map (key_for level) pointers) (cons_option (key_for level pointer) [])
    ∙ last_or-single (key_for level pointer) (pointer_at pointers level)
    ∙ by (pointer.level == level)
  where
    by : (b : Bool) → option_or (if b then Some pointer.key else None) (pointer_at pointers level) ≡ (if b then Some pointer.key else pointer_at pointers level)
    by true = refl
    by false = refl

-- ---- the file that reads have chosen

pub there_in_level : (level : ℕ) (files : List (ℕ × FileMetaData)) (found : Option (Bor (ℕ × FileMetaData))) → level < 6
    → IfSome found (λ file. Contains (at_level level files) file.now) → IfSome found (λ file. Contains (at_level file.now.0 files) file.now × (file.now.0 < 6))
there_in_level level files None less there = tt
there_in_level level files (Some file) less there =
    let at = eqb-true file.now.0 level (kept_passes (λ (f : ℕ × FileMetaData). f.0 == level) files file.now there).1 in (
      subst (λ (n : ℕ). Contains (at_level n files) file.now) (sym at) there,
      omega (arith, at, less),
    )

pub reads_choose : {C : Type 0} (version : VersionValue C) (level number : ℕ) → version.chosen ≡ Some (level, number) → level < 6
    → file_by_reads version ≡ find (λ file. file.number == number) (files_of_level level (new_files_of version))
reads_choose version level number is less =
    ap (option_and_then (λ (at : LevelFile). if nat_lt at.0 6 then find (λ file. file.number == at.1) (files_of_level at.0 (new_files_of version)) else None)) is
    ∙ ap (λ b. cond b (find (λ file. file.number == number) (files_of_level level (new_files_of version))) None) (lt-ltb level 6 less)

pub if_some_more : {A : Type 0} {P Q : A → Type 0} (o : Option A) → IfSome o P → ((a : A) → P a → Q a) → IfSome o Q
if_some_more None p more = tt
if_some_more (Some a) p more = more a p

-- ---- compactions that are picked

-- the compaction that begins with a file is the one of that file
pub of_file : {C E : Type 0} (cmp : List ℕ → List ℕ → Ordering) (version : VersionValue C) (size : ℕ) (first : NewFile) (chosen : List (Bor (ℕ × FileMetaData)))
    (result : Result (Option (CompactionValue C)) E) → (AreOrdered cmp (new_files_of version) → Contains (borrowed_files chosen) first)
    → IfOk result (λ picked. IfSome picked (IsCompactionOf cmp version false size)) → IfOk result (λ picked. IfSome picked (λ it. it.level ≡ first.level))
    → (AreOrdered cmp (new_files_of version) → IfOk result (λ picked. IfSome picked (λ it. (file : NewFile) → Contains (borrowed_files chosen) file → Contains (new_files_of it.inputs) file)))
    → IfOk result (λ picked. (picked ≡ None) ↔ (chosen ≡ [])) → IfOk result (IsOfFile cmp version (Some first) size)
of_file cmp version size first chosen (Err e) has each level keeps none = tt
of_file cmp version size first chosen (Ok None) has each level keeps none = record {
  each = tt;
  some = λ ordered file is. absurd (in_none first (subst (λ (fs : List (Bor (ℕ × FileMetaData))). Contains (borrowed_files fs) first) (none.0 refl) (has ordered)));
  none = λ is. refl;
}
of_file cmp version size first chosen (Ok (Some it)) has each level keeps none = record {
  each = each;
  some = λ ordered file is.
      let same : first ≡ file = same_some is in (
        level ∙ ap (λ (f : NewFile). f.level) same,
        subst (Contains (new_files_of it.inputs)) same (keeps ordered first (has ordered)),
      );
  none = λ is. absurd (let never : Some first ≡ None = is in cc);
}
  where
    same_some : {a b : NewFile} → Some a ≡ Some b → a ≡ b
    same_some e = cc

-- ---- compactions of ranges

pub borrowed_none : (files : List (Bor (ℕ × FileMetaData))) → borrowed_files files ≡ [] → files ≡ []
borrowed_none [] e = refl
borrowed_none (x ∷ files) e = absurd cc

pub taken_borrowed : (n : ℕ) (files : List (Bor (ℕ × FileMetaData))) → take n files ≡ [] → take n (borrowed_files files) ≡ []
taken_borrowed zero [] e = refl
taken_borrowed (suc n) [] e = refl
taken_borrowed zero (x ∷ files) e = refl
taken_borrowed (suc n) (x ∷ files) e = absurd cc

pub none_taken : (n : ℕ) (files : List (Bor (ℕ × FileMetaData))) → files ≡ [] → take n files ≡ []
none_taken zero [] e = refl
none_taken (suc n) [] e = refl
none_taken n (x ∷ files) e = absurd cc

pub some_exactly : {A P : Type 0} (picked : Option A) (asks : Bool) → (picked ≡ None) ↔ P → (P → asks ≡ false) → (asks ≡ false → P) → is_some picked ≡ asks
some_exactly None asks iff to back = sym (to (iff.0 refl))
some_exactly (Some a) asks iff to back = sym (is_true asks (λ no. let never : Some a ≡ None = iff.1 (back no) in cc))

-- the facts of a compaction of a range, together
pub of_range : {C E : Type 0} (cmp : List ℕ → List ℕ → Ordering) (version : VersionValue C) (level : ℕ) (range : UserRange) (size : ℕ) (chosen : List NewFile) (result : Result (Option (CompactionValue C)) E)
    → IfOk result (λ picked. IfSome picked (IsCompactionOf cmp version true size)) → IfOk result (λ picked. IfSome picked (λ it. it.level ≡ level))
    → IfOk result (λ picked. is_some picked ≡ is_overlapped cmp level range (new_files_of version))
    → (AreOrdered cmp (new_files_of version) → IfOk result (λ picked. IfSome picked (λ it. (file : NewFile) → Contains chosen file → Contains (new_files_of it.inputs) file)))
    → ((file : NewFile) → slice_get (overlapping cmp level range (new_files_of version)) 0 ≡ Some file → Contains chosen file)
    → IfOk result (IsOfRange cmp version level range size)
of_range cmp version level range size chosen (Err e) each of_level some keeps has = tt
of_range cmp version level range size chosen (Ok None) each of_level some keeps has = record { each = tt; of_level = tt; some = some; first = λ ordered file is. tt }
of_range cmp version level range size chosen (Ok (Some it)) each of_level some keeps has = record {
  each = each;
  of_level = of_level;
  some = some;
  first = λ ordered file is. keeps ordered file (has file is);
}

-- the first of a list is one of it
pub first_in : {A : Type 0} (xs : List A) (x : A) → slice_get xs 0 ≡ Some x → Contains xs x
first_in [] x is = cc
first_in {A} (y ∷ xs) x is = let same : y ≡ x = cc in subst (λ (z : A). Contains (y ∷ xs) z) same (in_front y xs)

-- the first of files is among those that are counted to a limit
pub first_taken : (limit n : ℕ) (files : List NewFile) (file : NewFile) → IsCountPast limit files n → slice_get files 0 ≡ Some file → Contains (take n files) file
first_taken limit n [] file counted is = cc
first_taken limit zero (x ∷ files) file counted is = absurd (let never : x ∷ files ≡ [] = none_past limit zero (x ∷ files) counted refl in cc)
first_taken limit (suc n) (x ∷ files) file counted is = let same : x ≡ file = cc in subst (Contains (x ∷ take n files)) same (in_front x (take n files))

-- the first files as borrowed ones
pub borrowed_taken : (n : ℕ) (files : List (Bor (ℕ × FileMetaData))) → borrowed_files (take n files) ≡ take n (borrowed_files files)
borrowed_taken zero files = refl
borrowed_taken (suc n) [] = refl
borrowed_taken (suc n) (x ∷ files) = ap (λ (fs : List NewFile). new_file_of x.now ∷ fs) (borrowed_taken n files)
