-- What an edit leaves of a version.
use Rattle.std.specs.Prelude.{IsPermutation, not}
use Rattle.std.proofs.Common.{◌≡◌, ◌∙◌, ◌+◌, ◌<◌, ℕ, zero, suc, Bool, true, false, cond, List, [], ◌∷◌, ◌++◌, ap, arith, fold, get_or, length, map, set, subst, sym, take, refl}
use Rattle.std.proofs.lemmas.List.{map-append}
use Rattle.std.proofs.lemmas.List.Edits.{swap_is}
use Rattle.std.proofs.lemmas.List.Sums.{fold_more}
use Rattle.std.proofs.lemmas.List.Sorted.{IsPermutation-append_left, IsPermutation-cons, IsPermutation-keeps, IsPermutation-map, IsPermutation-middle, IsPermutation-refl, IsPermutation-trans, length_permutation}
use Rattle.std.specs.List.{filter}
use Rattle.leveldb_base.specs.declared.types.FileMetaData.{FileMetaData}
use Rattle.leveldb_version.proofs.Edits.FullEditLemmas.{map-filter}
use Rattle.leveldb_version.specs.Versions.Change.{VersionsFollowEdits, added_file, version_files_after, version_files_with, version_files_without}
use Rattle.leveldb_version.specs.Edits.FullEdit.{files_after, files_with, files_without}
use Rattle.leveldb_version.specs.Versions.Version.{new_files_of}
use Rattle.leveldb_files.specs.Edits.Edit.{Edit, LevelFile, NewFile}
use Rattle.leveldb_version.specs.Edits.VersionEdit.{new_file_of}
use Rattle.leveldb_files.specs.Edits.VersionSet.{is_same_file, level_file}

-- ---- one value more in a fold over mapped values

fold_mapped : {A B C : Type 0} (f : B → C → B) (g : A → C) (b : B) (xs : List A)
    → fold f b (map g xs) ≡ fold (λ b x. f b (g x)) b xs
fold_mapped f g b [] = refl
fold_mapped f g b (x ∷ xs) = fold_mapped f g (f b (g x)) xs

-- one element more at the end
pub mapped_push : {A B C : Type 0} (f : B → C → B) (g : A → C) (b : B) (xs : List A) (x : A) → fold f b (map g (xs ++ x ∷ [])) ≡ f (fold f b (map g xs)) (g x)
mapped_push f g b [] x = refl
mapped_push f g b (y ∷ xs) x = mapped_push f g (f b (g y)) xs x

pub more_mapped : {A B C : Type 0} (f : B → C → B) (g : A → C) (b : B) (xs : List A) (i : ℕ) (x : A)
    → i < length xs → x ≡ get_or xs i x
    → fold f b (map g (take (i + 1) xs)) ≡ f (fold f b (map g (take i xs))) (g x)
more_mapped f g b xs i x inside is =
    fold_mapped f g b (take (i + 1) xs)
    ∙ (fold_more (λ b x. f b (g x)) b xs i x inside
    ∙ (ap (λ y. f (fold (λ b x. f b (g x)) b (take i xs)) (g y)) (sym is)
    ∙ ap (λ z. f z (g x)) (sym (fold_mapped f g b (take i xs)))))

-- ---- a filter takes the same elements of a list in another order

module _ {X : Type 0} (p : X → Bool) where
  with_head : (x : X) (xs ys : List X) (keeps : Bool) → IsPermutation (filter p xs) (filter p ys)
      → IsPermutation (cond keeps (x ∷ filter p xs) (filter p xs))
      (cond keeps (x ∷ filter p ys) (filter p ys))
  with_head x xs ys true same = IsPermutation-cons x (filter p xs) (filter p ys) same
  with_head x xs ys false same = same

  first_two : (x y : X) (us : List X) (b c : Bool)
      → IsPermutation (cond b (x ∷ cond c (y ∷ us) us) (cond c (y ∷ us) us))
      (cond c (y ∷ cond b (x ∷ us) us) (cond b (x ∷ us) us))
  first_two x y us true true = IsPermutation-middle (x ∷ []) y us
  first_two x y us true false = IsPermutation-refl (x ∷ us)
  first_two x y us false true = IsPermutation-refl (y ∷ us)
  first_two x y us false false = IsPermutation-refl us

  with_first : (x : X) (xs : List X) (k : ℕ) (d : X) → k < length xs
      → IsPermutation (filter p (x ∷ xs)) (filter p (get_or xs k d ∷ set xs k x))
  with_first x [] k d inside = absurd (omega (arith, inside))
  with_first x (y ∷ xs) zero d inside = first_two x y (filter p xs) (p x) (p y)
  with_first x (y ∷ xs) (suc k) d inside =
      let it = get_or xs k d in
      IsPermutation-trans (filter p (x ∷ y ∷ xs)) (filter p (y ∷ x ∷ xs)) (filter p (it ∷ y ∷ set xs k x))
      (first_two x y (filter p xs) (p x) (p y))
      (IsPermutation-trans (filter p (y ∷ x ∷ xs)) (filter p (y ∷ it ∷ set xs k x)) (filter p (it ∷ y ∷ set xs k x))
      (with_head y (x ∷ xs) (it ∷ set xs k x) (p y) (with_first x xs k d (omega (arith, inside))))
      (first_two y it (filter p (set xs k x)) (p y) (p it)))

  exchanged : (xs : List X) (i j : ℕ) (d : X) → i < length xs → j < length xs
      → IsPermutation (filter p xs) (filter p (set (set xs i (get_or xs j d)) j (get_or xs i d)))
  exchanged [] i j d in_i in_j = absurd (omega (arith, in_i))
  exchanged (x ∷ xs) zero zero d in_i in_j = IsPermutation-refl (filter p (x ∷ xs))
  exchanged (x ∷ xs) zero (suc j) d in_i in_j = with_first x xs j d (omega (arith, in_j))
  exchanged (x ∷ xs) (suc i) zero d in_i in_j = with_first x xs i d (omega (arith, in_i))
  exchanged (x ∷ xs) (suc i) (suc j) d in_i in_j =
      with_head x xs (set (set xs i (get_or xs j d)) j (get_or xs i d)) (p x)
      (exchanged xs i j d (omega (arith, in_i)) (omega (arith, in_j)))

  pub IsPermutation-filter : (xs ys : List X) → IsPermutation xs ys → IsPermutation (filter p xs) (filter p ys)
  IsPermutation-filter [] [] same = IsPermutation-refl []
  IsPermutation-filter [] (y ∷ ys) same = let long = length_permutation [] (y ∷ ys) same in absurd (omega (arith, long))
  IsPermutation-filter (d ∷ xs) ys same =
      IsPermutation-keeps (d ∷ xs) (λ zs. IsPermutation (filter p (d ∷ xs)) (filter p zs))
      (IsPermutation-refl (filter p (d ∷ xs)))
      (λ zs i j in_i in_j so_far. IsPermutation-trans (filter p (d ∷ xs)) (filter p zs) _ so_far
      (subst (λ ws. IsPermutation (filter p zs) (filter p ws)) (swap_is zs i j d in_i in_j)
      (exchanged zs i j d in_i in_j))) ys same

-- ---- the files of a set

same_without : (files : List (ℕ × FileMetaData)) (at : LevelFile)
    → map new_file_of (version_files_without files at) ≡ files_without (map new_file_of files) at
same_without files at = map-filter new_file_of (λ file. not (is_same_file (level_file file) at)) files

same_with : (files : List (ℕ × FileMetaData)) (file : NewFile)
    → map new_file_of (version_files_with files file) ≡ files_with (map new_file_of files) file
same_with files file =
    map-append new_file_of (version_files_without files (level_file file)) (added_file file ∷ [])
    ∙ ap (λ fs. fs ++ file ∷ []) (same_without files (level_file file))

-- a fold that goes along with another
fold_along : {A B C : Type 0} (h : B → C) (f : B → A → B) (g : C → A → C)
    → ((b : B) (x : A) → h (f b x) ≡ g (h b) x) → (b : B) (xs : List A) → h (fold f b xs) ≡ fold g (h b) xs
fold_along h f g step b [] = refl
fold_along h f g step b (x ∷ xs) = fold_along h f g step (f b x) xs ∙ ap (λ c. fold g c xs) (step b x)

same_after : (edit : Edit) (files : List (ℕ × FileMetaData))
    → map new_file_of (version_files_after edit files) ≡ files_after edit (map new_file_of files)
same_after edit files =
    fold_along (map new_file_of) version_files_with files_with same_with
    (fold version_files_without files edit.deleted) edit.added
    ∙ ap (λ fs. fold files_with fs edit.added)
    (fold_along (map new_file_of) version_files_without files_without same_without files edit.deleted)

-- ---- files in another order

-- a fold whose steps keep a permutation
fold_permuted : {A X : Type 0} (f : List X → A → List X)
    → ((xs ys : List X) (a : A) → IsPermutation xs ys → IsPermutation (f xs a) (f ys a))
    → (xs ys : List X) (values : List A) → IsPermutation xs ys
    → IsPermutation (fold f xs values) (fold f ys values)
fold_permuted f step xs ys [] same = same
fold_permuted f step xs ys (a ∷ values) same =
    fold_permuted f step (f xs a) (f ys a) values (step xs ys a same)

permuted_without : (xs ys : List NewFile) (at : LevelFile) → IsPermutation xs ys
    → IsPermutation (files_without xs at) (files_without ys at)
permuted_without xs ys at same =
    IsPermutation-filter (λ file. not (is_same_file (level_file file) at)) xs ys same

permuted_with : (xs ys : List NewFile) (file : NewFile) → IsPermutation xs ys
    → IsPermutation (files_with xs file) (files_with ys file)
permuted_with xs ys file same =
    IsPermutation-append_left (file ∷ []) (files_without xs (level_file file))
    (files_without ys (level_file file)) (permuted_without xs ys (level_file file) same)

-- an edit leaves the same files of the same files in another order
pub files_after_permuted : (edit : Edit) (xs ys : List NewFile) → IsPermutation xs ys
    → IsPermutation (files_after edit xs) (files_after edit ys)
files_after_permuted edit xs ys same =
    fold_permuted files_with permuted_with (fold files_without xs edit.deleted)
    (fold files_without ys edit.deleted) edit.added
    (fold_permuted files_without permuted_without xs ys edit.deleted same)

pub versions_follow_edits : {C : Type 0} → VersionsFollowEdits C
versions_follow_edits order edit files old new same after =
    IsPermutation-trans (files_after edit files) (files_after edit (new_files_of old)) (new_files_of new)
    (files_after_permuted edit files (new_files_of old) same)
    (subst (λ fs. IsPermutation fs (new_files_of new)) (same_after edit old.files)
    (IsPermutation-map new_file_of (version_files_after edit old.files) new.files after.files_are))
