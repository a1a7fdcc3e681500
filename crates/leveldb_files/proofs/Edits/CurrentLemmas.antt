-- The text of `CURRENT` has one reading, and what is written is read.
use Rattle.std.proofs.Common.{◌≡◌, ℕ, ◌-◌, ◌^◌, ◌<◌, List, [], ◌∷◌, ◌++◌, length, take, refl, sym, ◌∙◌, ap, subst, arith, append-nil, length-append, Some, None, Result, Ok, Err, MatchResult}
use Rattle.std.proofs.Math.Seq.{take-append_seam}
use Rattle.std.specs.Prelude.{IsUtf8, codes}
use Rattle.std.proofs.lemmas.Str.{IsUtf8-append, IsUtf8-from_ascii}
use Rattle.std.proofs.lemmas.Fmt.{IsAscii-from_digits}
use Rattle.leveldb_base.specs.declared.types.FileType.{FileType}
use Rattle.std.proofs.lemmas.List.{append_cancel_right}
use Rattle.leveldb_base.specs.Names.{IsFileName, file_name, ReadsName}
use Rattle.leveldb_base.proofs.NamesLemmas.{one_reading, made_name}
use Rattle.leveldb_base.specs.declared.types.FileType.TheVariants.{Descriptor}
use Rattle.leveldb_files.specs.Edits.Current.{IsCurrentText, current_text}
use Rattle.std.specs.Result.{result_ok}
use Rattle.leveldb_base.specs.declared.error.Status.{Status}

pub one_current : (text x y : List ℕ) (m n : ℕ) → IsCurrentText text x m → IsCurrentText text y n → (x ≡ y) × (m ≡ n)
one_current text x y m n a b =
    let same = append_cancel_right x y (10 ∷ []) (sym a.1 ∙ b.1) in
    let P : List ℕ → Type 0 = λ z. IsFileName z m Descriptor in
    (same, (one_reading y m n Descriptor Descriptor (subst P same a.0) b.0).0)

pub written_current : (n : ℕ) → n < 2 ^ 64 → IsCurrentText (current_text n) (file_name Descriptor n) n
written_current n fits = (made_name Descriptor n fits, refl)

-- a manifest's name is text
pub manifest_name_is_utf8 : (name : List ℕ) (n : ℕ) → IsFileName name n Descriptor → IsUtf8 name
unfolding lib.Utf8.encode
manifest_name_is_utf8 name n (text, number, e) =
    let digits = IsUtf8-from_ascii text (IsAscii-from_digits text number.digits.1) in
    let front : IsUtf8 (codes "MANIFEST-") = (codes "MANIFEST-", (refl, refl)) in
    let whole = IsUtf8-append (codes "MANIFEST-") text front digits in
    let P : List ℕ → Type 0 = IsUtf8 in
    subst P (sym (e ∙ append-nil (codes "MANIFEST-" ++ text))) whole

-- a name of another use is no manifest's
pub other_use : (name : List ℕ) (n m : ℕ) (kind : FileType) → (kind ≡ Descriptor → ⊥) → IsFileName name n kind → IsFileName name m Descriptor → ⊥
other_use name n m kind other a b = other (one_reading name n m kind Descriptor a b).1

-- the bytes before the newline are the name
pub line_is_name : (text name : List ℕ) (n : ℕ) → IsCurrentText text name n → IsFileName (take (length text - 1) text) n Descriptor
line_is_name text name n h =
    let short : length (name ++ 10 ∷ []) - 1 ≡ length name = simp length-append (omega arith) in
    let line : take (length text - 1) text ≡ name =
    ap (λ z. take (length z - 1) z) h.1 ∙ ap (λ k. take k (name ++ 10 ∷ [])) short ∙ take-append_seam name (10 ∷ []) in
    let P : List ℕ → Type 0 = λ z. IsFileName z n Descriptor in
    subst P (sym line) h.0

-- ---- what reading a name and a text finds

-- a result that is kept only if it is Ok
pub kept_ok : {X E : Type 0} (r : Result X E) (P : X → Type 0) (Q : E → Type 0) (x : X) → MatchResult r P Q → Some x ≡ result_ok r → P x
kept_ok (Ok y) P Q x m e = let same : y ≡ x = cc in subst P same m
kept_ok (Err y) P Q x m e = let no : ⊥ = cc in absurd no

pub kept_err : {X E : Type 0} (r : Result X E) (P : X → Type 0) (Q : E → Type 0) → MatchResult r P Q → None ≡ result_ok r → (y : E) × Q y
kept_err (Ok y) P Q m e = let no : ⊥ = cc in absurd no
kept_err (Err y) P Q m e = (y, m)

-- the same of the reading of a name
pub name_read : (name : List ℕ) (answer : Result (ℕ × FileType) Status) (n : ℕ) (kind : FileType) → ReadsName name answer → Some (n, kind) ≡ result_ok answer
    → IsFileName name n kind
name_read name (Ok found) n kind h e =
    let same : found ≡ (n, kind) = cc in
    let P : ℕ × FileType → Type 0 = λ z. IsFileName name z.0 z.1 in
    subst P same h
name_read name (Err status) n kind h e = let no : ⊥ = cc in absurd no

pub name_refused : (name : List ℕ) (answer : Result (ℕ × FileType) Status) → ReadsName name answer → None ≡ result_ok answer
    → (n : ℕ) (kind : FileType) → IsFileName name n kind → ⊥
name_refused name (Ok found) h e = let no : ⊥ = cc in absurd no
name_refused name (Err status) h e = h.1
