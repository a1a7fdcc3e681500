-- Which files of a level are chosen for a compaction.
use Rattle.std.specs.Prelude.{Contains, if◌then◌else◌, sum_by}
use Rattle.std.proofs.Common.{◌≡◌, ◌∙◌, ◌++◌, ◌∷◌, ◌==◌, inl, inr, ⊎_elim, ℕ, zero, suc, ◌+◌, ◌-◌, ◌<◌, ◌≤◌, Bool, true, false, cond, List, [], arith, ap, get_or, length, map, refl, subst, sym, take}
use Rattle.std.proofs.lemmas.Bool.{cases_lt, eqb-true}
use Rattle.std.proofs.lemmas.List.{get_or-map, length-map, map_push, take_more}
use Rattle.std.proofs.lemmas.List.Elements.{Contains-append_cases, Contains-append_left, Contains-get_or, Contains-push_cases}
use Rattle.std.proofs.lemmas.List.Sums.{sum_by_more}
use Rattle.std.specs.Borrow.{Bor}
use Rattle.std.specs.Cmp.{IsTotalOrder}
use Rattle.std.specs.List.{AllByRecursion, IsDistinct}
use Rattle.std.specs.Ordering.{is_lt, nat_cmp, ordering_then}
use Rattle.std.specs.declared.cmp.Ordering.{Ordering}
use Rattle.std.specs.declared.cmp.Ordering.TheVariants.{Equal, Greater, Less}
use Rattle.leveldb_base.proofs.EntriesLemmas.{map_in}
use Rattle.leveldb_base.proofs.HistoryLemmas.{in_cases, in_front, in_none, in_rest}
use Rattle.leveldb_base.proofs.OrderLemmas.{le_le, lt_itself, lt_turn, not_less, not_lt}
use Rattle.leveldb_base.specs.KeyTypes.{internal_cmp, sequence_part, user_part}
use Rattle.leveldb_base.specs.declared.types.FileMetaData.{FileMetaData}
use Rattle.leveldb_version_set.proofs.Compactions.ChoosingLemmas.{chosen_may_be_compacted, widened_are_closed}
use Rattle.leveldb_version.proofs.Edits.FullEditLemmas.{once_then, still_once}
use Rattle.leveldb_version.proofs.Versions.SearchLemmas.{kept_passes}
use Rattle.leveldb_version.proofs.Versions.VersionLemmas.{internal_total}
use Rattle.leveldb_version_set.specs.Compactions.Choosing.{AreEnds}
use Rattle.leveldb_version_set.specs.Compactions.Compaction.{AreOnce, MayCompact}
use Rattle.leveldb_version.specs.Versions.DeeperLevels.{closed_range}
use Rattle.leveldb_version_set.specs.Compactions.Inputs.{AreChosen, AreKeyEnds, AreWithin, IsCountPast, MayTake}
use Rattle.leveldb_files.specs.Levels.Overlap.{AreInputs, UserRange, overlapping, overlaps}
use Rattle.leveldb_files.specs.Levels.Summary.{files_of_level}
use Rattle.leveldb_version.specs.Versions.Version.{at_level, borrowed_files}
use Rattle.leveldb_files.specs.Edits.Edit.{LevelFile, NewFile}
use Rattle.leveldb_version.specs.Edits.VersionEdit.{new_file_of}
use Rattle.leveldb_files.specs.Edits.VersionSet.{is_same_file, level_file}
use Rattle.leveldb_version_set.specs.declared.compaction.inputs.Inputs.{Inputs}

-- ---- ends of files

-- the ends of the files that were seen, which are keys of some of all
pub record AreKeyEndsSoFar (icmp : List ℕ → List ℕ → Ordering) (all seen : List NewFile) (low high : List ℕ) : Type 0 where
  pub from : (file : NewFile) → Contains seen file → is_lt (icmp file.smallest low) ≡ false
  pub to : (file : NewFile) → Contains seen file → is_lt (icmp high file.largest) ≡ false
  pub first : (file : NewFile) × Contains all file × (file.smallest ≡ low)
  pub last : (file : NewFile) × Contains all file × (file.largest ≡ high)

pub key_ends_at_last : (cmp : List ℕ → List ℕ → Ordering) (all : List NewFile) (low high : List ℕ) → AreKeyEndsSoFar (internal_cmp cmp) all all low high → AreKeyEnds cmp all low high
key_ends_at_last cmp all low high are = record {
  from = λ file c. not_lt (internal_cmp cmp file.smallest low) (are.from file c);
  to = λ file c. not_lt (internal_cmp cmp high file.largest) (are.to file c);
  first = are.first;
  last = are.last;
}

module _ (icmp : List ℕ → List ℕ → Ordering) (total : IsTotalOrder icmp) where
  -- a key that is at or after the least so far is at or after the lesser of it and another
  still_from : (low key x : List ℕ) → is_lt (icmp x low) ≡ false → is_lt (icmp x (if is_lt (icmp key low) then key else low)) ≡ false
  still_from low key x up = by (is_lt (icmp key low)) refl
    where
      by : (b : Bool) → is_lt (icmp key low) ≡ b → is_lt (icmp x (cond b key low)) ≡ false
      by true less = le_le total key low x (lt_turn total key low less) up
      by false more = up

  own_from : (low key : List ℕ) → is_lt (icmp key (if is_lt (icmp key low) then key else low)) ≡ false
  own_from low key = by (is_lt (icmp key low)) refl
    where
      by : (b : Bool) → is_lt (icmp key low) ≡ b → is_lt (icmp key (cond b key low)) ≡ false
      by true less = lt_itself total key
      by false more = more

  still_to : (high key x : List ℕ) → is_lt (icmp high x) ≡ false → is_lt (icmp (if is_lt (icmp high key) then key else high) x) ≡ false
  still_to high key x up = by (is_lt (icmp high key)) refl
    where
      by : (b : Bool) → is_lt (icmp high key) ≡ b → is_lt (icmp (cond b key high) x) ≡ false
      by true less = le_le total x high key up (lt_turn total high key less)
      by false more = up

  own_to : (high key : List ℕ) → is_lt (icmp (if is_lt (icmp high key) then key else high) key) ≡ false
  own_to high key = by (is_lt (icmp high key)) refl
    where
      by : (b : Bool) → is_lt (icmp high key) ≡ b → is_lt (icmp (cond b key high) key) ≡ false
      by true less = lt_itself total key
      by false more = more

  one_of : (P : List ℕ → Type 0) (b : Bool) (x y : List ℕ) → P x → P y → P (if b then x else y)
  one_of P true x y p q = p
  one_of P false x y p q = q

  -- one file more is seen
  pub key_ends_go_on : (all seen : List NewFile) (file : NewFile) (low high new_low new_high : List ℕ) → AreKeyEndsSoFar icmp all seen low high → Contains all file
      → new_low ≡ (if is_lt (icmp file.smallest low) then file.smallest else low)
      → new_high ≡ (if is_lt (icmp high file.largest) then file.largest else high)
      → AreKeyEndsSoFar icmp all (seen ++ file ∷ []) new_low new_high
  key_ends_go_on all seen file low high new_low new_high are there low_is high_is = record {
    from = λ x c. subst (λ k. is_lt (icmp x.smallest k) ≡ false) (sym low_is) (⊎_elim
        (λ (d : Contains seen x). still_from low file.smallest x.smallest (are.from x d))
        (λ (same : file ≡ x). subst (λ (z : NewFile). is_lt (icmp z.smallest (if is_lt (icmp file.smallest low) then file.smallest else low)) ≡ false) same (own_from low file.smallest))
        (Contains-push_cases seen file x c));
    to = λ x c. subst (λ k. is_lt (icmp k x.largest) ≡ false) (sym high_is) (⊎_elim
        (λ (d : Contains seen x). still_to high file.largest x.largest (are.to x d))
        (λ (same : file ≡ x). subst (λ (z : NewFile). is_lt (icmp (if is_lt (icmp high file.largest) then file.largest else high) z.largest) ≡ false) same (own_to high file.largest))
        (Contains-push_cases seen file x c));
    first = subst (λ k. (one : NewFile) × Contains all one × (one.smallest ≡ k)) (sym low_is)
        (one_of (λ k. (one : NewFile) × Contains all one × (one.smallest ≡ k)) (is_lt (icmp file.smallest low)) file.smallest low (file, there, refl) are.first);
    last = subst (λ k. (one : NewFile) × Contains all one × (one.largest ≡ k)) (sym high_is)
        (one_of (λ k. (one : NewFile) × Contains all one × (one.largest ≡ k)) (is_lt (icmp high file.largest)) file.largest high (file, there, refl) are.last);
  }

-- where none was seen, the ends are those of any file
pub key_ends_begin : (icmp : List ℕ → List ℕ → Ordering) (all : List NewFile) (file : NewFile) (low high : List ℕ) → Contains all file
    → low ≡ file.smallest → high ≡ file.largest → AreKeyEndsSoFar icmp all [] low high
key_ends_begin icmp all file low high there low_is high_is = record {
  from = λ x c. absurd (in_none x c);
  to = λ x c. absurd (in_none x c);
  first = (file, there, sym low_is);
  last = (file, there, sym high_is);
}

module _ (cmp : List ℕ → List ℕ → Ordering) where
  -- where an internal key isn't before another, neither is its user key
  pub user_up : (a b : List ℕ) → is_lt (internal_cmp cmp a b) ≡ false → is_lt (cmp (user_part a) (user_part b)) ≡ false
  user_up a b = by (cmp (user_part a) (user_part b)) (nat_cmp (sequence_part b) (sequence_part a))
    where
      by : (o rest : Ordering) → is_lt (ordering_then o rest) ≡ false → is_lt o ≡ false
      by Less rest e = absurd cc
      by Equal rest e = refl
      by Greater rest e = refl

  -- ends of internal keys are ends of user keys
  pub key_ends_are_ends : (files : List NewFile) (low high : List ℕ) → AreKeyEnds cmp files low high → AreEnds cmp files (user_part low) (user_part high)
  key_ends_are_ends files low high are = record {
    from = λ file c. not_lt (cmp (user_part file.smallest) (user_part low)) (user_up file.smallest low (not_less (internal_cmp cmp file.smallest low) (are.from file c)));
    to = λ file c. not_lt (cmp (user_part high) (user_part file.largest)) (user_up high file.largest (not_less (internal_cmp cmp high file.largest) (are.to file c)));
    first = (are.first.0, are.first.1, ap user_part are.first.2);
    last = (are.last.0, are.last.1, ap user_part are.last.2);
  }

-- ---- borrowed files

-- a borrowed file is among its like
pub in_borrowed : (files : List (Bor (ℕ × FileMetaData))) (i : ℕ) (file : Bor (ℕ × FileMetaData)) → i < length files → file ≡ get_or files i file
    → Contains (borrowed_files files) (new_file_of file.now)
in_borrowed files i file inside is =
    map_in (λ (f : Bor (ℕ × FileMetaData)). new_file_of f.now) files file (subst (Contains files) (sym is) (Contains-get_or files i file inside))

-- one borrowed file more
pub borrowed_more : (files : List (Bor (ℕ × FileMetaData))) (i : ℕ) (file : Bor (ℕ × FileMetaData)) → i < length files → file ≡ get_or files i file
    → borrowed_files (take (i + 1) files) ≡ borrowed_files (take i files) ++ new_file_of file.now ∷ []
borrowed_more files i file inside is =
    ap borrowed_files (take_more files i file inside ∙ ap (λ f. take i files ++ f ∷ []) (sym is))
    ∙ map_push (λ (f : Bor (ℕ × FileMetaData)). new_file_of f.now) (take i files) file

-- one file more
pub mapped_more : (files : List (ℕ × FileMetaData)) (i : ℕ) (file : ℕ × FileMetaData) → i < length files → file ≡ get_or files i file
    → map new_file_of (take (i + 1) files) ≡ map new_file_of (take i files) ++ new_file_of file ∷ []
mapped_more files i file inside is =
    ap (map new_file_of) (take_more files i file inside ∙ ap (λ f. take i files ++ f ∷ []) (sym is))
    ∙ map_push new_file_of (take i files) file

-- the ends of the files of two levels reach as far as those of each
pub within_both : (cmp : List ℕ → List ℕ → Ordering) → IsTotalOrder cmp → (files others : List NewFile) (low high first last new_low new_high : List ℕ) → AreKeyEnds cmp files low high
    → AreKeyEnds cmp others first last
    → new_low ≡ (if is_lt (internal_cmp cmp first low) then first else low) → new_high ≡ (if is_lt (internal_cmp cmp high last) then last else high)
    → AreWithin cmp (files ++ others) new_low new_high
within_both cmp total files others low high first last new_low new_high ends its low_is high_is file c =
    let icmp = internal_cmp cmp in
    let keys = internal_total total in (
      not_lt (icmp file.smallest new_low) (subst (λ k. is_lt (icmp file.smallest k) ≡ false) (sym low_is) (⊎_elim
          (λ (here : Contains files file). still_from icmp keys low first file.smallest (not_less (icmp file.smallest low) (ends.from file here)))
          (λ (there : Contains others file). le_le keys (if is_lt (icmp first low) then first else low) first file.smallest
          (own_from icmp keys low first) (not_less (icmp file.smallest first) (its.from file there)))
          (Contains-append_cases files others file c))),
      not_lt (icmp new_high file.largest) (subst (λ k. is_lt (icmp k file.largest) ≡ false) (sym high_is) (⊎_elim
          (λ (here : Contains files file). still_to icmp keys high last file.largest (not_less (icmp high file.largest) (ends.to file here)))
          (λ (there : Contains others file). le_le keys file.largest last (if is_lt (icmp high last) then last else high)
          (not_less (icmp last file.largest) (its.to file there)) (own_to icmp keys high last))
          (Contains-append_cases files others file c))),
    )

-- and where there are none of the other
pub within_one : (cmp : List ℕ → List ℕ → Ordering) (files others : List NewFile) (low high : List ℕ) → AreKeyEnds cmp files low high → others ≡ [] → AreWithin cmp (files ++ others) low high
within_one cmp files others low high ends none file c = ⊎_elim
    (λ (here : Contains files file). (ends.from file here, ends.to file here))
    (λ (there : Contains others file). absurd (in_none file (subst (λ (fs : List NewFile). Contains fs file) none there)))
    (Contains-append_cases files others file c)

-- what holds of the files of both holds of those of one
pub within_left : (cmp : List ℕ → List ℕ → Ordering) (files others : List NewFile) (low high : List ℕ) → AreWithin cmp (files ++ others) low high → AreWithin cmp files low high
within_left cmp files others low high wide file c = wide file (Contains-append_left files others file c)

-- ---- files that are there once

none_once : AreOnce []
unfolding IsDistinct
none_once = tt

one_once : (file : NewFile) → AreOnce (file ∷ [])
one_once file = once_then [] file none_once (λ one c. absurd (in_none one c))

first_others : (P : LevelFile → Type 0) (n : ℕ) (files : List (Bor (ℕ × FileMetaData))) → AllByRecursion P (map level_file (borrowed_files files))
    → AllByRecursion P (map level_file (borrowed_files (take n files)))
first_others P zero files all = tt
first_others P (suc n) [] all = tt
first_others P (suc n) (x ∷ files) all = (all.0, first_others P n files all.1)

first_once : (n : ℕ) (files : List (Bor (ℕ × FileMetaData))) → AreOnce (borrowed_files files) → AreOnce (borrowed_files (take n files))
unfolding IsDistinct
first_once zero files once = tt
first_once (suc n) [] once = tt
first_once (suc n) (x ∷ files) once =
    (first_others (λ other. is_same_file (level_file (new_file_of x.now)) other ≡ false) n files once.0, first_once n files once.1)

-- ---- files that are chosen

module _ (cmp : List ℕ → List ℕ → Ordering) (total : IsTotalOrder cmp) where
  -- what overlaps a range, widened in level 0, is chosen
  pub inputs_are_chosen : (level : ℕ) (narrow : UserRange) (files inputs : List NewFile) → AreInputs cmp level narrow files inputs → AreChosen cmp files level inputs
  inputs_are_chosen level narrow files inputs are = record {
    each = λ file c.
        let meets = kept_passes (overlaps cmp are.range) (files_of_level level files) file (subst (λ fs. Contains fs file) are.inputs_are c) in
        let at = kept_passes (λ (f : NewFile). f.level == level) files file meets.0 in
        (at.0, eqb-true file.level level at.1);
    once = λ once. subst AreOnce (sym are.inputs_are) (still_once (overlaps cmp are.range) (files_of_level level files) (still_once (λ (f : NewFile). f.level == level) files once));
    closed = λ low high ends. widened_are_closed cmp total files level narrow inputs low high are ends;
  }

module _ (cmp : List ℕ → List ℕ → Ordering) (level : ℕ) (deep : level ≡ 0 → ⊥) where
  -- from level 1 on any files of the level are
  any_are_chosen : (files chosen : List NewFile) → ((file : NewFile) → Contains chosen file → Contains files file × (file.level ≡ level)) → (AreOnce files → AreOnce chosen) → AreChosen cmp files level chosen
  any_are_chosen files chosen each once = record {
    each = each;
    once = once;
    closed = λ low high ends zero_is. absurd (deep zero_is);
  }

  pub one_is_chosen : (files : List (ℕ × FileMetaData)) (file : Bor (ℕ × FileMetaData)) → Contains (at_level level files) file.now
      → AreChosen cmp (map new_file_of files) level (borrowed_files (file ∷ []))
  one_is_chosen files file there =
      let at = kept_passes (λ (f : ℕ × FileMetaData). f.0 == level) files file.now there in
      any_are_chosen (map new_file_of files) (borrowed_files (file ∷ [])) (λ one c. ⊎_elim
      (λ (same : new_file_of file.now ≡ one). subst (λ (f : NewFile). Contains (map new_file_of files) f × (f.level ≡ level)) same
      (map_in new_file_of files file.now at.0, eqb-true file.now.0 level at.1))
      (λ (none : Contains [] one). absurd (in_none one none))
      (in_cases (new_file_of file.now) one [] c))
      (λ once. one_once (new_file_of file.now))

  pub first_are_chosen : (files : List NewFile) (n : ℕ) (chosen : List (Bor (ℕ × FileMetaData))) → AreChosen cmp files level (borrowed_files chosen)
      → AreChosen cmp files level (borrowed_files (take n chosen))
  first_are_chosen files n chosen are = any_are_chosen files (borrowed_files (take n chosen)) (λ file c. are.each file (among n chosen file c)) (λ once. first_once n chosen (are.once once))
    where
      among : (n : ℕ) (chosen : List (Bor (ℕ × FileMetaData))) (file : NewFile) → Contains (borrowed_files (take n chosen)) file → Contains (borrowed_files chosen) file
      among zero chosen file c = absurd (in_none file c)
      among (suc n) [] file c = absurd (in_none file c)
      among (suc n) (x ∷ chosen) file c = ⊎_elim
          (λ (same : new_file_of x.now ≡ file). subst (λ (f : NewFile). Contains (new_file_of x.now ∷ borrowed_files chosen) f) same (in_front (new_file_of x.now) (borrowed_files chosen)))
          (λ (rest : Contains (borrowed_files (take n chosen)) file). in_rest (new_file_of x.now) file (borrowed_files chosen) (among n chosen file rest))
          (in_cases (new_file_of x.now) file (borrowed_files (take n chosen)) c)

-- ---- with those of the next level

-- the level of each file that overlaps a range in a level
level_of_overlapping : (cmp : List ℕ → List ℕ → Ordering) (level : ℕ) (range : UserRange) (files : List NewFile) (file : NewFile) → Contains (overlapping cmp level range files) file → file.level ≡ level
level_of_overlapping cmp level range files file c =
    eqb-true file.level level (kept_passes (λ (f : NewFile). f.level == level) files file (kept_passes (overlaps cmp range) (files_of_level level files) file c).0).1

pub taken_with_next : (cmp : List ℕ → List ℕ → Ordering) (files : List NewFile) (level : ℕ) (inputs : Inputs) (low high : List ℕ) → level < 6
    → AreChosen cmp files level (borrowed_files inputs.of_level.items) → AreKeyEnds cmp (borrowed_files inputs.of_level.items) low high
    → borrowed_files inputs.of_next.items ≡ overlapping cmp (level + 1) (closed_range (user_part low) (user_part high)) files
    → MayTake cmp files level inputs
taken_with_next cmp files level inputs low high shallow chosen key_ends next =
    let ends = key_ends_are_ends cmp (borrowed_files inputs.of_level.items) low high key_ends in
    record {
      may = subst (λ (n : List NewFile). MayCompact cmp files level (borrowed_files inputs.of_level.items ++ n)) (sym next)
          (chosen_may_be_compacted cmp files level (borrowed_files inputs.of_level.items) (user_part low) (user_part high) shallow chosen.each chosen.once ends (chosen.closed (user_part low) (user_part high) ends));
      of_level = λ file c. (chosen.each file c).1;
      of_next = λ file c. level_of_overlapping cmp (level + 1) (closed_range (user_part low) (user_part high)) files file (subst (λ (fs : List NewFile). Contains fs file) next c);
    }

-- ---- the first files past a limit

-- how many bytes files have together
abbrev pub bytes_of : List NewFile → ℕ
bytes_of = sum_by (λ (file : NewFile). file.size)

-- the first files so far are within the limit, and so much of it is left
pub record AreCountedTo (limit left i : ℕ) (files : List NewFile) : Type 0 where
  pub fits : bytes_of (take i files) + left ≡ limit
  pub most : (fewer : ℕ) → fewer < i → bytes_of (take fewer files) ≤ limit

most_more : {limit left i : ℕ} {files : List NewFile} → AreCountedTo limit left i files → (fewer : ℕ) → fewer < i + 1 → bytes_of (take fewer files) ≤ limit
most_more {limit} {left} {i} {files} so_far fewer less = ⊎_elim (so_far.most fewer)
    (λ (least : i ≤ fewer). let same : i ≡ fewer = omega (arith, less, least) in
    subst (λ (n : ℕ). bytes_of (take n files) ≤ limit) same (let fits = so_far.fits in omega (arith, fits)))
    (cases_lt fewer i)

-- one file more is within it
pub counted_on : {limit left i : ℕ} {files : List NewFile} (file : NewFile) → AreCountedTo limit left i files → i < length files → get_or files i file ≡ file
    → file.size ≤ left → AreCountedTo limit (left - file.size) (i + 1) files
counted_on {limit} {left} {i} {files} file so_far inside is small = record {
  fits =
      let fits = so_far.fits in
      let more = sum_by_more (λ (f : NewFile). f.size) files i file inside in
      let same = ap (λ (f : NewFile). f.size) is in
      omega (arith, fits, more, same, small);
  most = most_more so_far;
}

-- one file more is past it
pub counted_past : {limit left i : ℕ} {files : List NewFile} (file : NewFile) → AreCountedTo limit left i files → i < length files → get_or files i file ≡ file
    → left < file.size → IsCountPast limit files (i + 1)
counted_past {limit} {left} {i} {files} file so_far inside is great = record {
  most = most_more so_far;
  past = inl (
      let fits = so_far.fits in
      let more = sum_by_more (λ (f : NewFile). f.size) files i file inside in
      let same = ap (λ (f : NewFile). f.size) is in
      omega (arith, fits, more, same, great));
}

-- all are within it
pub counted_all : {limit left i : ℕ} {files : List NewFile} → AreCountedTo limit left i files → length files ≤ i → IsCountPast limit files i
counted_all so_far all = record { most = so_far.most; past = inr all }

-- a file of borrowed ones
pub borrowed_at : (files : List (Bor (ℕ × FileMetaData))) (i : ℕ) (file : Bor (ℕ × FileMetaData)) → i < length files → file ≡ get_or files i file
    → get_or (borrowed_files files) i (new_file_of file.now) ≡ new_file_of file.now
borrowed_at files i file inside is =
    get_or-map (λ (f : Bor (ℕ × FileMetaData)). new_file_of f.now) files i file (new_file_of file.now) inside
    ∙ ap (λ (f : Bor (ℕ × FileMetaData)). new_file_of f.now) (sym is)

pub borrowed_length : (files : List (Bor (ℕ × FileMetaData))) → length (borrowed_files files) ≡ length files
borrowed_length files = length-map files (λ (f : Bor (ℕ × FileMetaData)). new_file_of f.now)
