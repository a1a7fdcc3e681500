-- What the calls of a compaction say of its files and its edit.
use Rattle.std.specs.Prelude.{Contains, IsPermutation, nat_lt, slice_get}
use Rattle.std.proofs.Common.{◌≡◌, ◌∙◌, ◌++◌, ◌+◌, ◌*◌, ◌<◌, ◌↔◌, ◌⊎◌, inl, inr, ⊎_elim, ℕ, Bool, true, false, List, [], ◌∷◌, None, Some, ap, arith, length, map, refl, subst, sym}
use Rattle.std.proofs.lemmas.Bool.{lt-ltb, ltb-true}
use Rattle.std.proofs.lemmas.Bool.Decides.{nat_tests}
use Rattle.std.proofs.lemmas.List.Sorted.{Contains-permutation, IsPermutation-map, IsPermutation-sym}
use Rattle.std.proofs.lemmas.List.Elements.{Contains-append_cases, Contains-append_left, Contains-push, Contains-push_cases}
use Rattle.std.proofs.lemmas.Map.Keys.{IsDistinct-IsPermutation}
use Rattle.std.specs.BTreeSet.{insert_key}
use Rattle.std.specs.List.Sorted.{IsStrictlySortedBy}
use Rattle.std.specs.Ordering.{match_ordering}
use Rattle.std.specs.declared.cmp.Ordering.{Ordering}
use Rattle.std.specs.declared.cmp.Ordering.TheVariants.{Equal, Greater, Less}
use Rattle.leveldb_base.proofs.HistoryLemmas.{in_cases, in_front, in_none, in_rest}
use Rattle.leveldb_base.proofs.OrderLemmas.{both}
use Rattle.leveldb_base.specs.KeyTypes.{user_part}
use Rattle.leveldb_base.specs.declared.types.FileMetaData.{FileMetaData}
use Rattle.leveldb_version_set.proofs.Compactions.ChoosingLemmas.{choices_go_by_sets}
use Rattle.leveldb_files.proofs.Edits.VersionSetLemmas.{not_same}
use Rattle.leveldb_version_set.specs.Compactions.Compaction.{MayCompact, MayMove}
use Rattle.leveldb_version.specs.Versions.DeeperLevels.{closed_range}
use Rattle.leveldb_version_set.specs.Compactions.CompactionEdit.{SetsPointer}
use Rattle.leveldb_version_set.specs.Compactions.Inputs.{AreKeyEnds, KeepsFiles, MayTake, input_files}
use Rattle.leveldb_version_set.specs.Compactions.Picking.{DeletesFiles}
use Rattle.leveldb_files.specs.Levels.Overlap.{overlapping}
use Rattle.leveldb_files.specs.Levels.Summary.{total_size}
use Rattle.leveldb_version.specs.Versions.Version.{IsVersionOf, VersionValue, borrowed_files, new_files_of, with_first_seeks}
use Rattle.leveldb_files.specs.Edits.Edit.{Edit, LevelFile, NewFile, file_order}
use Rattle.leveldb_version.specs.Edits.VersionEdit.{new_file_of}
use Rattle.leveldb_files.specs.Edits.VersionSet.{is_same_file, level_file}
use Rattle.leveldb_version_set.specs.declared.compaction.inputs.Inputs.{Inputs}

-- ---- the files that it takes, as a version

same_with_seeks : (files : List (ℕ × FileMetaData)) → map new_file_of (map with_first_seeks files) ≡ map new_file_of files
same_with_seeks [] = refl
same_with_seeks (file ∷ files) = ap (λ fs. new_file_of file ∷ fs) (same_with_seeks files)

pub copies_made : {C : Type 0} (order : List ℕ → List ℕ → Ordering) (cmp : C) (files : List (ℕ × FileMetaData)) (version : VersionValue C) (inputs : List NewFile)
    → IsVersionOf order cmp files version → map new_file_of files ≡ inputs → IsPermutation inputs (new_files_of version)
copies_made order cmp files version inputs is same =
    subst (λ (all : List NewFile). IsPermutation all (new_files_of version)) (same_with_seeks files ∙ same)
    (IsPermutation-map new_file_of (map with_first_seeks files) version.files is.files_are)

flips : (a b : LevelFile) → is_same_file a b ≡ is_same_file b a
flips a b = by (is_same_file a b) refl (is_same_file b a) refl
  where
    by : (x : Bool) → is_same_file a b ≡ x → (y : Bool) → is_same_file b a ≡ y → x ≡ y
    by true e true f = refl
    by false e false f = refl
    by true e false f = both (is_same_file a b) e (not_same b a f)
    by false e true f = both (is_same_file b a) f (not_same a b e)

pub may_in_any_order : (cmp : List ℕ → List ℕ → Ordering) (files : List NewFile) (level : ℕ) (inputs those : List NewFile) → IsPermutation inputs those
    → MayCompact cmp files level inputs → MayCompact cmp files level those
may_in_any_order cmp files level inputs those same may =
    choices_go_by_sets cmp level files files inputs those (λ file. ((λ c. c), (λ c. c)))
    (λ file. (Contains-permutation inputs those file same, Contains-permutation those inputs file (IsPermutation-sym inputs those same)))
    (λ once. IsDistinct-IsPermutation is_same_file flips (map level_file inputs) (map level_file those) (IsPermutation-map level_file inputs those same) (may.once once)) may

-- ---- the pointer

-- an edit that sets the pointer of a level to the end of its files
pub pointer_is_set : (cmp : List ℕ → List ℕ → Ordering) (level : ℕ) (inputs : Inputs) (low high : List ℕ) (edit : Edit)
    → AreKeyEnds cmp (borrowed_files inputs.of_level.items) low high → edit.pointers ≡ record { level = level; key = high } ∷ []
    → (files : List NewFile) → MayTake cmp files level inputs → SetsPointer cmp level (input_files inputs) edit
pointer_is_set cmp level inputs low high edit ends points files may = record {
  key = high;
  pointers = points;
  there = (ends.last.0, Contains-append_left (borrowed_files inputs.of_level.items) (borrowed_files inputs.of_next.items) ends.last.0 ends.last.1, may.of_level ends.last.0 ends.last.1, ends.last.2);
  greatest = λ input c at. ⊎_elim
      (λ (d : Contains (borrowed_files inputs.of_level.items) input). ends.to input d)
      (λ (d : Contains (borrowed_files inputs.of_next.items) input). let below = may.of_next input d in absurd (omega (arith, at, below)))
      (Contains-append_cases (borrowed_files inputs.of_level.items) (borrowed_files inputs.of_next.items) input c);
}

-- it takes a file of the level
pub none_of_level : (cmp : List ℕ → List ℕ → Ordering) (files : List NewFile) (level : ℕ) (inputs : Inputs) → MayTake cmp files level inputs → borrowed_files inputs.of_level.items ≡ [] → ⊥
none_of_level cmp files level inputs take none =
    let one = take.may.some in
    ⊎_elim
    (λ (d : Contains (borrowed_files inputs.of_level.items) one.0). in_none one.0 (subst (λ (fs : List NewFile). Contains fs one.0) none d))
    (λ (d : Contains (borrowed_files inputs.of_next.items) one.0). let below = take.of_next one.0 d in let at = one.2 in omega (arith, at, below))
    (Contains-append_cases (borrowed_files inputs.of_level.items) (borrowed_files inputs.of_next.items) one.0 one.1)

pub pointer_in_any_order : (cmp : List ℕ → List ℕ → Ordering) (level : ℕ) (inputs those : List NewFile) (edit : Edit) → IsPermutation inputs those
    → SetsPointer cmp level inputs edit → SetsPointer cmp level those edit
pointer_in_any_order cmp level inputs those edit same sets = record {
  key = sets.key;
  pointers = sets.pointers;
  there = (sets.there.0, Contains-permutation inputs those sets.there.0 same sets.there.1, sets.there.2, sets.there.3);
  greatest = λ input c at. sets.greatest input (Contains-permutation those inputs input (IsPermutation-sym inputs those same) c) at;
}

-- ---- the files that are deleted

same_file : (a b : LevelFile) → file_order a b ≡ Equal → a ≡ b
same_file a b e = by a b (levels a b e) (numbers a b e)
  where
    levels : (a b : LevelFile) → file_order a b ≡ Equal → a.0 ≡ b.0
    levels a b e = grind (arith, nat_tests)

    numbers : (a b : LevelFile) → file_order a b ≡ Equal → a.1 ≡ b.1
    numbers a b e = grind (arith, nat_tests)

    by : (a b : LevelFile) → a.0 ≡ b.0 → a.1 ≡ b.1 → a ≡ b
    by (a0, a1) (b0, b1) p q = ap (λ (n : ℕ). (n, a1)) p ∙ ap (λ (n : ℕ). (b0, n)) q

-- a set after one more was put into it
inserted_has : (ks : List LevelFile) (k at : LevelFile) → Contains (insert_key file_order ks k) at → Contains ks at ⊎ (k ≡ at)
inserted_has [] k at c = ⊎_elim (λ (same : k ≡ at). inr same) (λ (none : Contains [] at). inl none) (in_cases k at [] c)
inserted_has (x ∷ ks) k at c = by (file_order k x) c (inserted_has ks k at)
  where
    by : (o : Ordering) → Contains (match_ordering o (k ∷ x ∷ ks) (x ∷ ks) (x ∷ insert_key file_order ks k)) at
        → (Contains (insert_key file_order ks k) at → Contains ks at ⊎ (k ≡ at)) → Contains (x ∷ ks) at ⊎ (k ≡ at)
    by Less d rest = ⊎_elim (λ (same : k ≡ at). inr same) (λ (there : Contains (x ∷ ks) at). inl there) (in_cases k at (x ∷ ks) d)
    by Equal d rest = inl d
    by Greater d rest = ⊎_elim
        (λ (same : x ≡ at). inl (subst (Contains (x ∷ ks)) same (in_front x ks)))
        (λ (there : Contains (insert_key file_order ks k) at). ⊎_elim (λ (old : Contains ks at). inl (in_rest x at ks old)) (λ (same : k ≡ at). inr same) (rest there))
        (in_cases x at (insert_key file_order ks k) d)

has_inserted : (ks : List LevelFile) (k at : LevelFile) → Contains ks at ⊎ (k ≡ at) → Contains (insert_key file_order ks k) at
has_inserted [] k at (inl c) = absurd (in_none at c)
has_inserted [] k at (inr same) = subst (Contains (k ∷ [])) same (in_front k [])
has_inserted (x ∷ ks) k at either = by (file_order k x) refl either (has_inserted ks k at)
  where
    by : (o : Ordering) → file_order k x ≡ o → Contains (x ∷ ks) at ⊎ (k ≡ at)
        → (Contains ks at ⊎ (k ≡ at) → Contains (insert_key file_order ks k) at)
        → Contains (match_ordering o (k ∷ x ∷ ks) (x ∷ ks) (x ∷ insert_key file_order ks k)) at
    by Less e (inl old) rest = in_rest k at (x ∷ ks) old
    by Less e (inr same) rest = subst (Contains (k ∷ x ∷ ks)) same (in_front k (x ∷ ks))
    by Equal e (inl old) rest = old
    by Equal e (inr same) rest = subst (Contains (x ∷ ks)) (sym (same_file k x e) ∙ same) (in_front x ks)
    by Greater e (inl old) rest = ⊎_elim
        (λ (first : x ≡ at). subst (Contains (x ∷ insert_key file_order ks k)) first (in_front x (insert_key file_order ks k)))
        (λ (d : Contains ks at). in_rest x at (insert_key file_order ks k) (rest (inl d)))
        (in_cases x at ks old)
    by Greater e (inr same) rest = in_rest x at (insert_key file_order ks k) (rest (inr same))

pub none_deleted : (old : List LevelFile) → DeletesFiles [] old old
none_deleted old = record {
  deleted = λ at. (
    (λ c. inl c),
    (λ either. ⊎_elim (λ (c : Contains old at). c) (λ (new : (file : NewFile) × Contains [] file × (level_file file ≡ at)). absurd (in_none new.0 new.1)) either),
  );
  in_order = λ sorted. sorted;
}

pub one_more_deleted : (files : List NewFile) (file : NewFile) (old now new : List LevelFile) → DeletesFiles files old now
    → new ≡ insert_key file_order now (level_file file) → IsStrictlySortedBy file_order new → DeletesFiles (files ++ file ∷ []) old new
one_more_deleted files file old now new deletes is sorted = record {
  deleted = λ at. (
    (λ c. ⊎_elim
        (λ (d : Contains now at). ⊎_elim
        (λ (o : Contains old at). inl o)
        (λ (f : (one : NewFile) × Contains files one × (level_file one ≡ at)). inr (f.0, Contains-append_left files (file ∷ []) f.0 f.1, f.2))
        ((deletes.deleted at).0 d))
        (λ (same : level_file file ≡ at). inr (file, Contains-push files file, same))
        (inserted_has now (level_file file) at (subst (λ (ks : List LevelFile). Contains ks at) is c))),
    (λ either. subst (λ (ks : List LevelFile). Contains ks at) (sym is) (has_inserted now (level_file file) at (⊎_elim
        (λ (o : Contains old at). inl ((deletes.deleted at).1 (inl o)))
        (λ (f : (one : NewFile) × Contains (files ++ file ∷ []) one × (level_file one ≡ at)). ⊎_elim
        (λ (d : Contains files f.0). inl ((deletes.deleted at).1 (inr (f.0, d, f.2))))
        (λ (same : file ≡ f.0). inr (ap level_file same ∙ f.2))
        (Contains-push_cases files file f.0 f.1))
        either))),
  );
  in_order = λ _. sorted;
}

-- ---- one file alone

-- the one file that is taken
pub only_file : (files : List (ℕ × FileMetaData)) (file : ℕ × FileMetaData) → slice_get files 0 ≡ Some file → length files ≡ 1 → map new_file_of files ≡ new_file_of file ∷ []
only_file [] file is one = absurd (omega (arith, one))
only_file (x ∷ []) file is one = let same : x ≡ file = cc in ap (λ f. new_file_of f ∷ []) same
only_file (x ∷ (y ∷ files)) file is one = absurd (omega (arith, one))

pub no_first_file : (files : List (ℕ × FileMetaData)) (file : NewFile) → slice_get files 0 ≡ None → map new_file_of files ≡ file ∷ [] → ⊥
no_first_file [] file none is = cc
no_first_file (x ∷ files) file none is = cc

pub one_file : (files : List (ℕ × FileMetaData)) (file : NewFile) → map new_file_of files ≡ file ∷ [] → length files ≡ 1
one_file [] file is = absurd cc
one_file (x ∷ []) file is = refl
one_file (x ∷ (y ∷ files)) file is = absurd cc

pub same_one : (files : List (ℕ × FileMetaData)) (first : ℕ × FileMetaData) (file : NewFile) → slice_get files 0 ≡ Some first → map new_file_of files ≡ file ∷ [] → first.0 ≡ file.level
same_one [] first file is one = absurd cc
same_one (x ∷ files) first file is one =
    let same : x ≡ first = cc in
    let head : new_file_of x ≡ file = cc in
    ap (λ (f : ℕ × FileMetaData). f.0) (sym same) ∙ ap (λ (f : NewFile). f.level) head

-- ---- files that stay taken

pub kept_through : (chosen taken : List NewFile) (narrow wide : Inputs) → borrowed_files narrow.of_level.items ≡ chosen → KeepsFiles narrow wide → IsPermutation (input_files wide) taken
    → (file : NewFile) → Contains chosen file → Contains taken file
kept_through chosen taken narrow wide same keeps order file c =
    Contains-permutation (input_files wide) taken file order
    (Contains-append_left (borrowed_files wide.of_level.items) (borrowed_files wide.of_next.items) file
    (keeps file (subst (λ (fs : List NewFile). Contains fs file) (sym same) c)))

-- ---- moves

-- a compaction that takes one file moves it exactly if little overlaps it two levels down
pub moves_if_small : (cmp : List ℕ → List ℕ → Ordering) (file_size level : ℕ) (manual : Bool) (files inputs : List NewFile) (file : NewFile) (small : Bool) → manual ≡ false
    → inputs ≡ file ∷ [] → file.level ≡ level
    → small ≡ nat_lt (total_size (overlapping cmp (level + 2) (closed_range (user_part file.smallest) (user_part file.largest)) files)) (10 * file_size)
    → (small ≡ true) ↔ MayMove cmp file_size level manual files inputs
moves_if_small cmp file_size level manual files inputs file small unasked alone at is = (
  (λ yes. record {
    unasked = unasked;
    file = file;
    alone = alone;
    at = at;
    light = ltb-true (size file) (10 * file_size) (sym is ∙ yes);
  }),
  (λ moves. is ∙ lt-ltb (size file) (10 * file_size) (subst (λ (f : NewFile). size f < 10 * file_size) (same_first (sym moves.alone ∙ alone)) moves.light)),
)
  where
    size : NewFile → ℕ
    size f = total_size (overlapping cmp (level + 2) (closed_range (user_part f.smallest) (user_part f.largest)) files)

    same_first : {a b : NewFile} → a ∷ [] ≡ b ∷ [] → a ≡ b
    same_first e = cc
