-- Files that are chosen by the rules may be compacted, and what an edit leaves of a set's files.
use Rattle.std.proofs.Common.{◌≡◌, ◌⊎◌, inl, inr, ⊎_elim, ℕ, ◌+◌, ◌==◌, Bool, true, false, not, ◌&&◌, ◌||◌, List, [], ◌∷◌, refl, rules, sym, ◌∙◌, ap, subst, arith, Option, Some, None}
use Rattle.std.specs.Prelude.{Contains, fold}
use Rattle.std.specs.Cmp.{IsTotalOrder}
use Rattle.std.specs.Option.{option_map_or}
use Rattle.std.specs.Ordering.{is_lt}
use Rattle.std.specs.declared.cmp.Ordering.{Ordering}
use Rattle.std.proofs.lemmas.Bool.{and_parts, and_from, eqb-true}
use Rattle.std.proofs.lemmas.List.Elements.{Contains-append_left, Contains-append_right, Contains-append_cases, Contains-push_cases}
use Rattle.leveldb_base.specs.KeyTypes.{user_part}
use Rattle.leveldb_base.proofs.HistoryLemmas.{in_cases, in_front, in_none, in_rest}
use Rattle.leveldb_base.proofs.OrderLemmas.{le_le, not_less}
use Rattle.leveldb_version_set.proofs.Compactions.CompactedFilesLemmas.{compacted_files_stay_apart}
use Rattle.leveldb_version_set.proofs.Compactions.CompactionLemmas.{neither}
use Rattle.leveldb_version.proofs.Versions.DeeperLevelsLemmas.{not_so}
use Rattle.leveldb_version.proofs.Edits.FullEditLemmas.{first_is_other, kept_was_there, once_rest, once_then, once_together, still_once}
use Rattle.leveldb_version.proofs.Versions.SearchLemmas.{kept_passes, passes_kept}
use Rattle.leveldb_files.proofs.Edits.VersionSetLemmas.{is_same_file-refl, not_same}
use Rattle.leveldb_version_set.specs.Compactions.Choosing.{ChoicesGoBySets, ChosenMayBeCompacted, EditedFilesStayApart, FilesAreEdited, WidenedAreClosed}
use Rattle.leveldb_version_set.specs.Compactions.Compaction.{AreOnce}
use Rattle.leveldb_version.specs.Versions.DeeperLevels.{closed_range}
use Rattle.leveldb_version.specs.Edits.FullEdit.{files_after, files_with, files_without}
use Rattle.leveldb_files.specs.Levels.Overlap.{UserRange, is_above, is_below, overlapping, overlaps, sticks_out}
use Rattle.leveldb_files.specs.Levels.Summary.{files_of_level}
use Rattle.leveldb_files.specs.Edits.Edit.{LevelFile, NewFile}
use Rattle.leveldb_files.specs.Edits.VersionSet.{is_same_file, level_file}

equal : (n : ℕ) → (n == n) ≡ true
equal n = search rules

module _ (cmp : List ℕ → List ℕ → Ordering) where
  in_overlapping : (level : ℕ) (range : UserRange) (files : List NewFile) (file : NewFile)
      → Contains files file → file.level ≡ level → overlaps cmp range file ≡ true
      → Contains (overlapping cmp level range files) file
  in_overlapping level range files file there at meets =
      passes_kept (overlaps cmp range) (files_of_level level files) file
      (passes_kept (λ (f : NewFile). f.level == level) files file there
      (ap (λ k. k == level) at ∙ equal level)) meets

  of_overlapping : (level : ℕ) (range : UserRange) (files : List NewFile) (file : NewFile)
      → Contains (overlapping cmp level range files) file
      → Contains files file × (file.level ≡ level) × (overlaps cmp range file ≡ true)
  of_overlapping level range files file c =
      let meets = kept_passes (overlaps cmp range) (files_of_level level files) file c in
      let at = kept_passes (λ (f : NewFile). f.level == level) files file meets.0 in
      (at.0, eqb-true file.level level at.1, meets.1)

-- files of two levels aren't one
other_level : (a b : NewFile) → (a.level ≡ b.level → ⊥)
    → is_same_file (level_file a) (level_file b) ≡ false
other_level a b never = by (a.level == b.level) refl
  where
    by : (k : Bool) → (a.level == b.level) ≡ k
        → is_same_file (level_file a) (level_file b) ≡ false
    by true e = absurd (never (eqb-true a.level b.level e))
    by false e = ap (λ k. k && (a.number == b.number)) e

pub chosen_may_be_compacted : ChosenMayBeCompacted
chosen_may_be_compacted cmp files level chosen low high shallow of_level once ends closed = record {
  shallow = shallow;
  there = λ file c. ⊎_elim
      (λ (x : Contains chosen file). (of_level file x).0)
      (λ (x : Contains others file). (of_others file x).0)
      (Contains-append_cases chosen others file c);
  some = let first = ends.first in
      (first.0, Contains-append_left chosen others first.0 first.1, (of_level first.0 first.1).1);
  levels = λ file c. ⊎_elim
      (λ (x : Contains chosen file). inl (of_level file x).1)
      (λ (x : Contains others file). inr (of_others file x).1)
      (Contains-append_cases chosen others file c);
  low = low;
  high = high;
  covered = λ file c at. ⊎_elim
      (λ (x : Contains chosen file). in_ends file x)
      (λ (x : Contains others file).
      let e = (of_others file x).1 in absurd (omega (arith, e, at)))
      (Contains-append_cases chosen others file c);
  next = λ file there at. (
    λ c. ⊎_elim
        (λ (x : Contains chosen file).
        let e = (of_level file x).1 in absurd (omega (arith, e, at)))
        (λ (x : Contains others file). (of_others file x).2)
        (Contains-append_cases chosen others file c),
    λ meets. Contains-append_right chosen others file
        (in_overlapping cmp (level + 1) (closed_range low high) files file there at meets),
  );
  zero = λ zero_is file there at meets.
      Contains-append_left chosen others file (closed zero_is file there at meets);
  once = λ of_files. once_together chosen others (once of_files)
      (still_once (overlaps cmp (closed_range low high)) (files_of_level (level + 1) files)
      (still_once (λ (f : NewFile). f.level == level + 1) files of_files))
      (λ a b c d. other_level a b
      (let e = (of_level a c).1 in let f = (of_others b d).1 in λ same. omega (arith, e, f, same)));
}
  where
    others : List NewFile
    others = overlapping cmp (level + 1) (closed_range low high) files

    of_others : (file : NewFile) → Contains others file → Contains files file
        × (file.level ≡ level + 1) × (overlaps cmp (closed_range low high) file ≡ true)
    of_others file x = of_overlapping cmp (level + 1) (closed_range low high) files file x

    in_ends : (file : NewFile) → Contains chosen file
        → sticks_out cmp (closed_range low high) file ≡ false
    in_ends file x = neither_is (is_lt (cmp (user_part file.smallest) low))
        (is_lt (cmp high (user_part file.largest))) (not_less _ (ends.from file x))
        (not_less _ (ends.to file x))
      where
        neither_is : (a b : Bool) → a ≡ false → b ≡ false → (a || b) ≡ false
        neither_is true b e f = cc
        neither_is false b e f = f

pub choices_go_by_sets : ChoicesGoBySets
choices_go_by_sets cmp level files others inputs those same taken once may = record {
  shallow = may.shallow;
  there = λ file c. (same file).0 (may.there file ((taken file).1 c));
  some = let some = may.some in (some.0, (taken some.0).0 some.1, some.2);
  levels = λ file c. may.levels file ((taken file).1 c);
  low = may.low;
  high = may.high;
  covered = λ file c. may.covered file ((taken file).1 c);
  next = λ file c at.
      let exactly = may.next file ((same file).1 c) at in (
        λ d. exactly.0 ((taken file).1 d),
        λ meets. (taken file).0 (exactly.1 meets),
      );
  zero = λ zero_is file c at meets.
      (taken file).0 (may.zero zero_is file ((same file).1 c) at meets);
  once = once;
}

-- ---- level 0

module _ (cmp : List ℕ → List ℕ → Ordering) (total : IsTotalOrder cmp) where
  -- what is after a key that isn't below an end isn't below it either
  still_from : (end : Option (List ℕ)) (low key : List ℕ)
      → option_map_or (λ begin. is_lt (cmp low begin)) end false ≡ false
      → is_lt (cmp key low) ≡ false
      → option_map_or (λ begin. is_lt (cmp key begin)) end false ≡ false
  still_from None low key e up = refl
  still_from (Some begin) low key e up = le_le total begin low key e up

  still_to : (end : Option (List ℕ)) (high key : List ℕ)
      → option_map_or (λ last. is_lt (cmp last high)) end false ≡ false
      → is_lt (cmp high key) ≡ false
      → option_map_or (λ last. is_lt (cmp last key)) end false ≡ false
  still_to None high key e up = refl
  still_to (Some last) high key e up = le_le total key high last up e

pub widened_are_closed : WidenedAreClosed
widened_are_closed cmp total files level narrow chosen low high inputs ends zero_is file there at
    meets = subst (λ fs. Contains fs file) (sym inputs.inputs_are)
    (in_overlapping cmp level inputs.range files file there (at ∙ sym zero_is)
    (and_from (not (is_below cmp inputs.range (user_part file.largest)))
    (not (is_above cmp inputs.range (user_part file.smallest)))
    (ap not (still_from cmp total inputs.range.begin low (user_part file.largest) low_in parts.0))
    (ap not (still_to cmp total inputs.range.end high (user_part file.smallest) high_in
    parts.1))))
  where
    within : (one : NewFile) → Contains chosen one
        → (is_below cmp inputs.range (user_part one.smallest) ≡ false)
        × (is_above cmp inputs.range (user_part one.largest) ≡ false)
    within one c =
        let o = of_overlapping cmp level inputs.range files one
        (subst (λ fs. Contains fs one) inputs.inputs_are c) in
        neither (is_below cmp inputs.range (user_part one.smallest))
        (is_above cmp inputs.range (user_part one.largest))
        ((inputs.widened zero_is).closed one
        (passes_kept (λ (f : NewFile). f.level == level) files one o.0
        (ap (λ k. k == level) o.1 ∙ equal level)) o.2)

    low_in : is_below cmp inputs.range low ≡ false
    low_in = let first = ends.first in
        subst (λ k. is_below cmp inputs.range k ≡ false) first.2 (within first.0 first.1).0

    high_in : is_above cmp inputs.range high ≡ false
    high_in = let last = ends.last in
        subst (λ k. is_above cmp inputs.range k ≡ false) last.2 (within last.0 last.1).1

    parts : (is_lt (cmp (user_part file.largest) low) ≡ false)
        × (is_lt (cmp high (user_part file.smallest)) ≡ false)
    parts = let both_are = and_parts (not (is_lt (cmp (user_part file.largest) low)))
        (not (is_lt (cmp high (user_part file.smallest)))) meets in
        (not_so _ both_are.0, not_so _ both_are.1)

-- ---- files

of_without : (deleted : List LevelFile) (files : List NewFile) (file : NewFile)
    → Contains (fold files_without files deleted) file → Contains files file
    × ((at : LevelFile) → Contains deleted at → is_same_file (level_file file) at ≡ false)
of_without [] files file c = (c, λ at d. absurd (in_none at d))
of_without (first ∷ deleted) files file c =
    let rest = of_without deleted (files_without files first) file c in
    let kept = kept_was_there (λ (f : NewFile). not (is_same_file (level_file f) first)) files file
    rest.0 in (
      kept.0,
      λ at d. ⊎_elim
          (λ (e : first ≡ at). subst (λ x. is_same_file (level_file file) x ≡ false) e
          (not_so (is_same_file (level_file file) first) kept.1))
          (λ (there : Contains deleted at). rest.1 at there) (in_cases first at deleted d),
    )

of_with : (added files : List NewFile) (file : NewFile)
    → Contains (fold files_with files added) file → Contains added file ⊎ Contains files file
of_with [] files file c = inr c
of_with (first ∷ added) files file c = ⊎_elim
    (λ (a : Contains added file). inl (in_rest first file added a))
    (λ (b : Contains (files_with files first) file). ⊎_elim
    (λ (d : Contains (files_without files (level_file first)) file). inr (kept_was_there
    (λ (f : NewFile). not (is_same_file (level_file f) (level_file first))) files file d).0)
    (λ (e : first ≡ file). inl (subst (Contains (first ∷ added)) e (in_front first added)))
    (Contains-push_cases (files_without files (level_file first)) first file b))
    (of_with added (files_with files first) file c)

-- a file stays that is neither deleted
stays_without : (deleted : List LevelFile) (files : List NewFile) (file : NewFile)
    → Contains files file
    → ((at : LevelFile) → Contains deleted at → is_same_file at (level_file file) ≡ false)
    → Contains (fold files_without files deleted) file
stays_without [] files file there other = there
stays_without (at ∷ deleted) files file there other =
    stays_without deleted (files_without files at) file
    (passes_kept (λ (f : NewFile). not (is_same_file (level_file f) at)) files file there
    (ap not (not_same at (level_file file) (other at (in_front at deleted)))))
    (λ one c. other one (in_rest at one deleted c))

-- nor replaced
stays_with : (added files : List NewFile) (file : NewFile) → Contains files file
    → ((one : NewFile) → Contains added one
    → is_same_file (level_file one) (level_file file) ≡ false)
    → Contains (fold files_with files added) file
stays_with [] files file there other = there
stays_with (x ∷ added) files file there other = stays_with added (files_with files x) file
    (Contains-append_left (files_without files (level_file x)) (x ∷ []) file
    (passes_kept (λ (f : NewFile). not (is_same_file (level_file f) (level_file x))) files file there
    (ap not (not_same (level_file x) (level_file file) (other x (in_front x added))))))
    (λ one c. other one (in_rest x one added c))

-- each that is added is there, where each level and number is added once
added_with : (added files : List NewFile) (file : NewFile) → AreOnce added
    → Contains added file → Contains (fold files_with files added) file
added_with [] files file once c = absurd (in_none file c)
added_with (x ∷ added) files file once c = ⊎_elim
    (λ (e : x ≡ file). stays_with added (files_with files x) file
    (subst (Contains (files_with files x)) e
    (Contains-append_right (files_without files (level_file x)) (x ∷ []) x (in_front x [])))
    (λ one d. not_same (level_file file) (level_file one)
    (subst (λ (f : NewFile). is_same_file (level_file f) (level_file one) ≡ false) e
    (first_is_other x added once one d))))
    (λ (there : Contains added file).
    added_with added (files_with files x) file (once_rest x added once) there)
    (in_cases x file added c)

once_without : (deleted : List LevelFile) (files : List NewFile) → AreOnce files
    → AreOnce (fold files_without files deleted)
once_without [] files once = once
once_without (at ∷ deleted) files once = once_without deleted (files_without files at)
    (still_once (λ (f : NewFile). not (is_same_file (level_file f) at)) files once)

once_with : (added files : List NewFile) → AreOnce files → AreOnce (fold files_with files added)
once_with [] files once = once
once_with (x ∷ added) files once = once_with added (files_with files x)
    (once_then (files_without files (level_file x)) x
    (still_once (λ (f : NewFile). not (is_same_file (level_file f) (level_file x))) files once)
    (λ file c. not_so (is_same_file (level_file file) (level_file x)) (kept_was_there
    (λ (f : NewFile). not (is_same_file (level_file f) (level_file x))) files file c).1))

pub files_are_edited : FilesAreEdited
files_are_edited edit files = record {
  among = λ file c. ⊎_elim
      (λ (a : Contains edit.added file). inl a)
      (λ (b : Contains (fold files_without files edit.deleted) file).
      inr (of_without edit.deleted files file b))
      (of_with edit.added (fold files_without files edit.deleted) file c);
  added = λ once file c.
      added_with edit.added (fold files_without files edit.deleted) file once c;
  stays = λ file there alone. stays_with edit.added (fold files_without files edit.deleted) file
      (stays_without edit.deleted files file there (λ at d. alone.deleted at d))
      (λ one d. alone.added one d);
  once = λ once. once_with edit.added (fold files_without files edit.deleted)
      (once_without edit.deleted files once);
}

pub edited_files_stay_apart : EditedFilesStayApart
edited_files_stay_apart cmp total level files inputs edit levels may deletes made apart =
    compacted_files_stay_apart cmp total level files inputs edit.added (files_after edit files) levels
    may made apart (λ file c. ⊎_elim
    (λ (a : Contains edit.added file). inl a)
    (λ (b : Contains files file × ((at : LevelFile) → Contains edit.deleted at
    → is_same_file (level_file file) at ≡ false)). inr (
      b.0,
      λ taken. never (is_same_file-refl (level_file file))
          (b.1 (level_file file) (deletes file taken)),
    ))
    ((files_are_edited edit files).among file c))
  where
    never : {b : Bool} → b ≡ true → b ≡ false → ⊥
    never t f = let e : true ≡ false = sym t ∙ f in cc
