-- A charge of a seek: the file that it names is among those of its level.
use Rattle.std.specs.Prelude.{All, ◌&&◌}
use Rattle.std.proofs.Common.{◌≡◌, ◌≢◌, ◌∙◌, ◌-◌, ◌<◌, ◌==◌, ◌||◌, ℕ, Bool, true, false, cond, List, [], ◌∷◌, ◌++◌, ap, arith, drop, map, refl, sym, take}
use Rattle.std.proofs.lemmas.Bool.{eqb-true}
use Rattle.std.proofs.lemmas.List.{drop-drop, map-append, take-append-drop}
use Rattle.std.proofs.lemmas.List.Elements.{All-head, All-tail}
use Rattle.std.specs.List.{filter, list_any}
use Rattle.leveldb_base.proofs.OrderLemmas.{is_false}
use Rattle.leveldb_base.specs.declared.types.FileMetaData.{FileMetaData}
use Rattle.leveldb_version.specs.Versions.Version.{IsRangeOfLevel, after_seek, at_level, has_last_seek, is_named}
use Rattle.leveldb_files.specs.Edits.Edit.{LevelFile}
use borrow.Rule.Slice.PartMut.{mid_of, put_mid}

-- ---- one that may take one more seek at most

-- what passes a test is among those that pass a weaker one
among_kept : {A : Type 0} (p q : A → Bool) → ((x : A) → q x ≡ true → p x ≡ true)
    → (xs : List A) → list_any q (filter p xs) ≡ list_any q xs
among_kept p q weaker [] = refl
among_kept {A} p q weaker (x ∷ xs) = by (p x) (q x) refl (weaker x) (among_kept p q weaker xs)
  where
    by : (kept here : Bool) → q x ≡ here → (q x ≡ true → kept ≡ true)
        → list_any q (filter p xs) ≡ list_any q xs
        → list_any q (cond kept (x ∷ filter p xs) (filter p xs)) ≡ (here || list_any q xs)
    by true here is more rest = ap (λ b. b || list_any q (filter p xs)) is ∙ ap (λ b. here || b) rest
    by false false is more rest = rest
    by false true is more rest = absurd (let never : false ≡ true = more is in cc)

both_first : (a b : Bool) → (a && b) ≡ true → a ≡ true
both_first true b both = refl
both_first false b both = both

pub last_seek_at_level : (at : LevelFile) (files : List (ℕ × FileMetaData))
    → list_any (has_last_seek at) (at_level at.0 files) ≡ list_any (has_last_seek at) files
last_seek_at_level at files =
    among_kept (λ (file : ℕ × FileMetaData). file.0 == at.0) (has_last_seek at) (λ file last.
    both_first (file.0 == at.0) (file.1.num == at.1) (both_first (is_named at file) _ last)) files

-- ---- the seek of one

-- a file of another level takes no seek
other_level_keeps : (at : LevelFile) (file : ℕ × FileMetaData) → (file.0 == at.0) ≡ false
    → after_seek at file ≡ file
other_level_keeps at file other =
    ap (λ b. cond (b && (file.1.num == at.1))
    (file.0, record file.1 { allowed_seeks = file.1.allowed_seeks - 1 }) file) other

unchanged : {A : Type 0} (P : A → Type 0) (f : A → A) → ((x : A) → P x → f x ≡ x)
    → (xs : List A) → All P xs → map f xs ≡ xs
unchanged P f keeps [] all = refl
unchanged P f keeps (x ∷ xs) all =
    λ i. keeps x (All-head P x xs all) i ∷ unchanged P f keeps xs (All-tail P x xs all) i

pub seek_in_range : (at : LevelFile) (files part : List (ℕ × FileMetaData)) (start end : ℕ)
    → IsRangeOfLevel at.0 files start end → part ≡ map (after_seek at) (mid_of start (end - start) files)
    → put_mid start (end - start) files part ≡ map (after_seek at) files
seek_in_range at files part start end range is =
    let f = after_seek at in
    let count = end - start in
    let other : (file : ℕ × FileMetaData) → file.0 ≢ at.0 → f file ≡ file =
    λ file away. other_level_keeps at file (is_false (file.0 == at.0) (λ same. away (eqb-true file.0 at.0 same))) in
    let rest : drop count (drop start files) ≡ drop end files =
    drop-drop _ _ files ∙ ap (λ n. drop n files) (omega (arith, range.ordered)) in
    let first = unchanged (λ (file : ℕ × FileMetaData). file.0 < at.0) f
    (λ file less. other file (λ same. omega (arith, less, same))) (take start files) range.lesser in
    let last = unchanged (λ (file : ℕ × FileMetaData). at.0 < file.0) f
    (λ file more. other file (λ same. omega (arith, more, same))) (drop end files) range.greater in
    let split : map f files ≡ map f (take start files)
    ++ (map f (take count (drop start files)) ++ map f (drop count (drop start files))) =
    ap (map f) (sym (take-append-drop start files)) ∙ map-append f (take start files) (drop start files)
    ∙ ap (λ fs. map f (take start files) ++ fs) (ap (map f) (sym (take-append-drop count (drop start files)))
    ∙ map-append f (take count (drop start files)) (drop count (drop start files))) in
    sym (split
    ∙ ap (λ fs. fs ++ (map f (take count (drop start files)) ++ map f (drop count (drop start files)))) first
    ∙ ap (λ fs. take start files ++ (fs ++ map f (drop count (drop start files)))) (sym is)
    ∙ ap (λ fs. take start files ++ (part ++ fs)) (ap (map f) rest ∙ last ∙ sym rest))
