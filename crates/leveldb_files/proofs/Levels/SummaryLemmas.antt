-- The text of levels, one file and one level after another.
use Rattle.std.specs.Prelude.{◌≢◌, codes, sum_by, min}
use Rattle.std.proofs.Common.{◌≡◌, ◌∙◌, ◌++◌, ◌∷◌, ◌<◌, ◌+◌, ◌-◌, ◌^◌, ◌==◌, ℕ, zero, suc, Bool, true, false, cond, List, [], append-nil, append_assoc, ap, arith, get_or, length, map, refl, sym, take}
use Rattle.std.specs.Fmt.{decimal}
use Rattle.std.specs.List.{filter}
use Rattle.std.proofs.lemmas.Bool.{eq-eqb, eqb-true}
use Rattle.std.proofs.lemmas.List.{take_more}
use Rattle.std.proofs.lemmas.List.Sums.{sum_by_push}
use Rattle.std.proofs.lemmas.Grind.{flat_map-append}
use Rattle.leveldb_files.specs.Levels.Summary.{file_text, files_of_level, files_text, level_text, levels_text, total_size}
use Rattle.leveldb_files.specs.Edits.Edit.{NewFile}

-- ---- one file more

kept_both : {A : Type 0} (x : A) (xs ys both : List A) (kept : Bool) → both ≡ xs ++ ys → cond kept (x ∷ both) both ≡ cond kept (x ∷ xs) xs ++ ys
kept_both x xs ys both true e = ap (λ z. x ∷ z) e
kept_both x xs ys both false e = e

filter-append : {A : Type 0} (keeps : A → Bool) (xs ys : List A) → filter keeps (xs ++ ys) ≡ filter keeps xs ++ filter keeps ys
filter-append keeps [] ys = refl
filter-append keeps (x ∷ xs) ys = kept_both x (filter keeps xs) (filter keeps ys) (filter keeps (xs ++ ys)) (keeps x) (filter-append keeps xs ys)

pub map-append : {A B : Type 0} (f : A → B) (xs ys : List A) → map f (xs ++ ys) ≡ map f xs ++ map f ys
map-append f [] ys = refl
map-append f (x ∷ xs) ys = ap (λ z. f x ∷ z) (map-append f xs ys)

not_equal : (a b : ℕ) (same : Bool) → (a == b) ≡ same → (a ≡ b → ⊥) → same ≡ false
not_equal a b true e differ = absurd (differ (eqb-true a b e))
not_equal a b false e differ = refl

module _ {A : Type 0} (f : A → NewFile) (level : ℕ) (xs : List A) (i : ℕ) (x : A) (there : i < length xs) (is : get_or xs i x ≡ x) where
  -- the files of the level among the first
  abbrev first : ℕ → List NewFile
  first n = files_of_level level (map f (take n xs))

  split : first (i + 1) ≡ first i ++ cond ((f x).level == level) (f x ∷ []) []
  split =
      ap (λ z. files_of_level level (map f z)) (take_more xs i x there ∙ ap (λ z. take i xs ++ z ∷ []) is)
      ∙ ap (files_of_level level) (map-append f (take i xs) (x ∷ []))
      ∙ filter-append (λ file. file.level == level) (map f (take i xs)) (f x ∷ [])

  pub one_more : (f x).level ≡ level → first (i + 1) ≡ first i ++ f x ∷ []
  one_more e = split ∙ ap (λ b. first i ++ cond b (f x ∷ []) []) (eq-eqb (f x).level level e)

  pub none_more : ((f x).level ≡ level → ⊥) → first (i + 1) ≡ first i
  none_more differ = split
      ∙ ap (λ b. first i ++ cond b (f x ∷ []) []) (not_equal (f x).level level ((f x).level == level) refl differ)
      ∙ append-nil (first i)

-- what comes before the next file
abbrev pub lead_after : List NewFile → List ℕ
lead_after [] = []
lead_after (file ∷ files) = codes ", "

-- what comes before the next file, where the first has this before it
abbrev lead_from : List ℕ → List NewFile → List ℕ
lead_from lead [] = lead
lead_from lead (file ∷ files) = codes ", "

text_from : (lead : List ℕ) (files : List NewFile) (file : NewFile) → files_text lead (files ++ file ∷ []) ≡ files_text lead files ++ (lead_from lead files ++ file_text file)
text_from lead [] file = ap (λ z. lead ++ z) (append-nil (file_text file))
text_from lead (x ∷ files) file =
    ap (λ z. lead ++ (file_text x ++ z)) (text_from (codes ", ") files file ∙ ap (λ z. files_text (codes ", ") files ++ (z ++ file_text file)) (always files))
    ∙ ap (λ z. lead ++ z) (sym (append_assoc (file_text x) (files_text (codes ", ") files) (codes ", " ++ file_text file)))
    ∙ sym (append_assoc lead (file_text x ++ files_text (codes ", ") files) (codes ", " ++ file_text file))
  where
    always : (more : List NewFile) → lead_from (codes ", ") more ≡ codes ", "
    always [] = refl
    always (y ∷ more) = refl

lead_is : (files : List NewFile) → lead_from [] files ≡ lead_after files
lead_is [] = refl
lead_is (file ∷ files) = refl

-- one file more in the text
pub text_more : (files : List NewFile) (file : NewFile) → files_text [] (files ++ file ∷ []) ≡ files_text [] files ++ (lead_after files ++ file_text file)
text_more files file = text_from [] files file ∙ ap (λ z. files_text [] files ++ (z ++ file_text file)) (lead_is files)

pub lead_more : (files : List NewFile) (file : NewFile) → lead_after (files ++ file ∷ []) ≡ codes ", "
lead_more [] file = refl
lead_more (x ∷ files) file = refl

-- ---- sizes

pub total_more : (files : List NewFile) (file : NewFile) → total_size (files ++ file ∷ []) ≡ min (total_size files + file.size) (2 ^ 64 - 1)
total_more files file =
    let sum : sum_by (λ (it : NewFile). it.size) (files ++ file ∷ []) ≡ sum_by (λ (it : NewFile). it.size) files + file.size = sum_by_push (λ it. it.size) files file in
    omega arith

-- ---- a level

pub level_some : (level : ℕ) (files : List NewFile) → length files ≢ 0
    → level_text level files ≡ codes "level " ++ (decimal level ++ (codes ": " ++ (decimal (length files) ++ (codes " files, " ++ (decimal (total_size files) ++ (codes " bytes ([" ++ (files_text [] files ++ codes "]); ")))))))
level_some level [] some = absurd (some refl)
level_some level (file ∷ files) some = refl

pub level_none : (level : ℕ) (files : List NewFile) → length files ≡ 0 → level_text level files ≡ []
level_none level [] none = refl
level_none level (file ∷ files) none = absurd (omega arith)

-- ---- levels

-- the seven levels
abbrev pub seven : List ℕ
seven = 0 ∷ 1 ∷ 2 ∷ 3 ∷ 4 ∷ 5 ∷ 6 ∷ []

seven_more : (i : ℕ) → i < 7 → take (i + 1) seven ≡ take i seven ++ i ∷ []
seven_more zero l = refl
seven_more (suc zero) l = refl
seven_more (suc (suc zero)) l = refl
seven_more (suc (suc (suc zero))) l = refl
seven_more (suc (suc (suc (suc zero)))) l = refl
seven_more (suc (suc (suc (suc (suc zero))))) l = refl
seven_more (suc (suc (suc (suc (suc (suc zero)))))) l = refl
seven_more (suc (suc (suc (suc (suc (suc (suc i))))))) l = absurd (omega arith)

pub levels_more : (files : List NewFile) (i : ℕ) → i < 7 → levels_text files (take (i + 1) seven) ≡ levels_text files (take i seven) ++ level_text i (files_of_level i files)
levels_more files i l =
    ap (levels_text files) (seven_more i l)
    ∙ flat_map-append (λ level. level_text level (files_of_level level files)) (take i seven) (i ∷ [])
    ∙ ap (λ z. levels_text files (take i seven) ++ z) (append-nil (level_text i (files_of_level i files)))
