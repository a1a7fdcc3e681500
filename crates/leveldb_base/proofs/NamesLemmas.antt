-- What a name of a store's file looks like, and that it has one reading.
use Rattle.std.proofs.Common.{◌≡◌, ◌≢◌, ◌⊎◌, inl, inr, ℕ, zero, suc, ◌-◌, ◌^◌, ◌<◌, ◌≤◌, ◌==◌, cond, List, [], ◌∷◌, ◌++◌, Result, Ok, Err, length, drop, replicate, get_or, refl, sym, ◌∙◌, ap, subst, arith, append-nil, lit≤, lit<, length-append, None, Some, Bor}
use Rattle.std.specs.Fmt.{decimal, styled_decimal, padded_integral, format_spec, char_count}
use Rattle.std.proofs.lemmas.Fmt.{decimal_is_IsNumeral}
use Rattle.std.proofs.lemmas.List.{append_cancel_left}
use Rattle.leveldb_base.specs.declared.error.Status.{Status}
use Rattle.std.specs.Prelude.{codes}
use Rattle.std.specs.Str.Parse.{AllDigits, digits_value}
use Rattle.std.proofs.lemmas.Str.Parse.{IsNumeralModel, numerals_by_value, tells_digits, digit_from_value, not_in_digits}
use Rattle.leveldb_base.specs.declared.types.FileType.{FileType}
use Rattle.leveldb_base.specs.declared.types.FileType.TheVariants.{Log, DBLock, Table, Descriptor, Current, Temp, InfoLog}
use Rattle.leveldb_base.specs.Names.{IsNumber, IsWord, IsExtension, IsFileName, ReadsName, MayHaveNumber, six_digits, file_name, file_path}
use Rattle.std.proofs.lemmas.Str.Pattern.{IsSplitOnceResult, split_after}

-- ---- what a name of a store's file looks like, and that it has one reading

-- a manifest's name: a word and its number
abbrev pub IsManifestName : List ℕ → ℕ → FileType → Type 0
IsManifestName name n kind = (text : List ℕ) × IsNumber text n × (kind ≡ Descriptor) × (name ≡ codes "MANIFEST-" ++ text)

-- a number, a dot, and an extension
abbrev pub IsDotted : List ℕ → ℕ → FileType → Type 0
IsDotted name n kind = (text : List ℕ) × (extension : List ℕ) × IsNumber text n × IsExtension extension kind × (name ≡ text ++ 46 ∷ extension)

-- a fixed word without a number, a manifest's name, or a number before a dot
abbrev pub HasForm : List ℕ → ℕ → FileType → Type 0
HasForm name n kind = (IsWord name kind × (n ≡ 0)) ⊎ (IsManifestName name n kind ⊎ IsDotted name n kind)

-- each name has one of the three forms
pub name_form : (name : List ℕ) (n : ℕ) (kind : FileType) → IsFileName name n kind → HasForm name n kind
name_form name n Log (text, number, e) = inr (inr (text, codes "log", number, refl, e))
name_form name n DBLock h = inl h
name_form name n Table (inl (text, number, e)) = inr (inr (text, codes "ldb", number, inl refl, e))
name_form name n Table (inr (text, number, e)) = inr (inr (text, codes "sst", number, inr refl, e))
name_form name n Descriptor (text, number, e) = inr (inl (text, number, refl, e ∙ append-nil (codes "MANIFEST-" ++ text)))
name_form name n Current h = inl h
name_form name n Temp (text, number, e) = inr (inr (text, codes "dbtmp", number, refl, e))
name_form name n InfoLog h = inl h

-- decimal digits, by std's words
own : IsNumeralModel (AllDigits 10) (digits_value 10)
own = numerals_by_value (AllDigits 10) tells_digits

-- no digit is a dot
pub no_dot : (text : List ℕ) (n : ℕ) → IsNumber text n → (i : ℕ) → i < length text → get_or text i 0 ≢ 46
no_dot text n number = not_in_digits own text 46 number.digits.1 (λ h. omega (arith, h))

-- a number begins with no other letter than a digit
pub first_digit : (text more behind : List ℕ) (n first : ℕ) → IsNumber text n → 58 ≤ first → text ++ more ≡ first ∷ behind → ⊥
first_digit [] more behind n first number high e = let some = number.digits.0 in omega (arith, some)
first_digit (digit ∷ text) more behind n first number high e =
    let range = digit_from_value digit number.digits.1.0 in
    let same = ap (λ z. get_or z 0 0) e in
    omega (arith, range, same, high)

-- a name begins with a fixed text, which no number does, or with a number
pub manifest_is_undotted : (name rest : List ℕ) (n : ℕ) (kind : FileType) → name ≡ codes "MANIFEST-" ++ rest → IsDotted name n kind → ⊥
manifest_is_undotted name rest n kind e (text, extension, number, known, spelled) =
    first_digit text (46 ∷ extension) (codes "ANIFEST-" ++ rest) n 77 number (lit≤ tt) (sym spelled ∙ e)

-- what has none of the three forms is no name
pub no_name : (name : List ℕ) → ((kind : FileType) → IsWord name kind → ⊥) → ((n : ℕ) (kind : FileType) → IsManifestName name n kind → ⊥)
    → ((n : ℕ) (kind : FileType) → IsDotted name n kind → ⊥) → (n : ℕ) (kind : FileType) → IsFileName name n kind → ⊥
no_name name words manifests dotted n kind h =
    elim (name_form name n kind h) [ inl word ↦ words kind word.0 | inr other ↦ elim other [ inl manifest ↦ manifests n kind manifest | inr dot ↦ dotted n kind dot ] ]

-- where a name of each form begins
word_first : (name : List ℕ) (kind : FileType) → IsWord name kind → (58 ≤ get_or name 0 0) × (get_or name 0 0 < 77)
word_first name DBLock e = let first = ap (λ z. get_or z 0 0) e in (omega (arith, first), omega (arith, first))
word_first name Current e = let first = ap (λ z. get_or z 0 0) e in (omega (arith, first), omega (arith, first))
word_first name InfoLog (inl e) = let first = ap (λ z. get_or z 0 0) e in (omega (arith, first), omega (arith, first))
word_first name InfoLog (inr e) = let first = ap (λ z. get_or z 0 0) e in (omega (arith, first), omega (arith, first))
word_first name Log h = absurd h
word_first name Table h = absurd h
word_first name Descriptor h = absurd h
word_first name Temp h = absurd h

manifest_first : (name : List ℕ) (n : ℕ) (kind : FileType) → IsManifestName name n kind → get_or name 0 0 ≡ 77
manifest_first name n kind h = ap (λ z. get_or z 0 0) h.3

number_first : (text behind : List ℕ) (n : ℕ) → IsNumber text n → get_or (text ++ behind) 0 0 < 58
number_first [] behind n number = let some = number.digits.0 in omega (arith, some)
number_first (digit ∷ text) behind n number = let range = digit_from_value digit number.digits.1.0 in omega (arith, range)

dotted_first : (name : List ℕ) (n : ℕ) (kind : FileType) → IsDotted name n kind → get_or name 0 0 < 58
dotted_first name n kind (text, extension, number, known, spelled) =
    let first = number_first text (46 ∷ extension) n number in
    let P : List ℕ → Type 0 = λ z. get_or z 0 0 < 58 in
    subst P (sym spelled) first

-- the type of a word, by its first letters, and of an extension
word_use : List ℕ → FileType
word_use name = cond (get_or name 0 0 == 67) Current (cond (get_or name 2 0 == 67) DBLock InfoLog)

extension_use : List ℕ → FileType
extension_use text = cond (get_or text 1 0 == 111) Log (cond (get_or text 1 0 == 98) Temp Table)

word_tells : (name : List ℕ) (kind : FileType) → IsWord name kind → word_use name ≡ kind
unfolding word_use
word_tells name DBLock e = ap word_use e
word_tells name Current e = ap word_use e
word_tells name InfoLog (inl e) = ap word_use e
word_tells name InfoLog (inr e) = ap word_use e
word_tells name Log h = absurd h
word_tells name Table h = absurd h
word_tells name Descriptor h = absurd h
word_tells name Temp h = absurd h

extension_tells : (text : List ℕ) (kind : FileType) → IsExtension text kind → extension_use text ≡ kind
unfolding extension_use
extension_tells text Log e = ap extension_use e
extension_tells text Table (inl e) = ap extension_use e
extension_tells text Table (inr e) = ap extension_use e
extension_tells text Temp e = ap extension_use e
extension_tells text DBLock h = absurd h
extension_tells text Descriptor h = absurd h
extension_tells text Current h = absurd h
extension_tells text InfoLog h = absurd h

-- two names of one form that are equal have the same number
one_word : (name : List ℕ) (m n : ℕ) (k l : FileType) → IsWord name k × (m ≡ 0) → IsWord name l × (n ≡ 0) → (m ≡ n) × (k ≡ l)
one_word name m n k l a b = (a.1 ∙ sym b.1, sym (word_tells name k a.0) ∙ word_tells name l b.0)

one_manifest : (name : List ℕ) (m n : ℕ) (k l : FileType) → IsManifestName name m k → IsManifestName name n l → (m ≡ n) × (k ≡ l)
one_manifest name m n k l a b =
    let same = append_cancel_left (codes "MANIFEST-") a.0 b.0 (sym a.3 ∙ b.3) in
    (a.1.value ∙ ap (digits_value 10) same ∙ sym b.1.value, a.2 ∙ sym b.2)

-- where two texts without a dot come before one, they are the same, and so is what follows
one_parting : (x y behind more : List ℕ) → ((i : ℕ) → i < length x → get_or x i 0 ≢ 46) → ((i : ℕ) → i < length y → get_or y i 0 ≢ 46)
    → x ++ 46 ∷ behind ≡ y ++ 46 ∷ more → (x ≡ y) × (behind ≡ more)
one_parting [] [] behind more p q e = (refl, ap (drop 1) e)
one_parting [] (b ∷ y) behind more p q e = absurd (q 0 (omega arith) (sym (ap (λ z. get_or z 0 0) e)))
one_parting (a ∷ x) [] behind more p q e = absurd (p 0 (omega arith) (ap (λ z. get_or z 0 0) e))
one_parting (a ∷ x) (b ∷ y) behind more p q e =
    let rest = one_parting x y behind more (λ i lt. p (suc i) (omega (arith, lt))) (λ i lt. q (suc i) (omega (arith, lt))) (ap (drop 1) e) in
    let first : a ≡ b = ap (λ z. get_or z 0 0) e in
    (ap (λ z. z ∷ x) first ∙ ap (λ z. b ∷ z) rest.0, rest.1)

one_dotted : (name : List ℕ) (m n : ℕ) (k l : FileType) → IsDotted name m k → IsDotted name n l → (m ≡ n) × (k ≡ l)
one_dotted name m n k l a b =
    let same = one_parting a.0 b.0 a.1 b.1 (no_dot a.0 m a.2) (no_dot b.0 n b.2) (sym a.4 ∙ b.4) in
    (a.2.value ∙ ap (digits_value 10) same.0 ∙ sym b.2.value, sym (extension_tells a.1 k a.3) ∙ ap extension_use same.1 ∙ extension_tells b.1 l b.3)

one_form : (name : List ℕ) (m n : ℕ) (k l : FileType) → HasForm name m k → HasForm name n l → (m ≡ n) × (k ≡ l)
one_form name m n k l (inl a) (inl b) = one_word name m n k l a b
one_form name m n k l (inl a) (inr (inl b)) = let p = word_first name k a.0 in let q = manifest_first name n l b in absurd (omega (arith, p, q))
one_form name m n k l (inl a) (inr (inr b)) = let p = word_first name k a.0 in let q = dotted_first name n l b in absurd (omega (arith, p, q))
one_form name m n k l (inr (inl a)) (inl b) = let p = word_first name l b.0 in let q = manifest_first name m k a in absurd (omega (arith, p, q))
one_form name m n k l (inr (inl a)) (inr (inl b)) = one_manifest name m n k l a b
one_form name m n k l (inr (inl a)) (inr (inr b)) = let p = manifest_first name m k a in let q = dotted_first name n l b in absurd (omega (arith, p, q))
one_form name m n k l (inr (inr a)) (inl b) = let p = word_first name l b.0 in let q = dotted_first name m k a in absurd (omega (arith, p, q))
one_form name m n k l (inr (inr a)) (inr (inl b)) = let p = manifest_first name n l b in let q = dotted_first name m k a in absurd (omega (arith, p, q))
one_form name m n k l (inr (inr a)) (inr (inr b)) = one_dotted name m n k l a b

-- a name has one number and one type
pub one_reading : (name : List ℕ) (m n : ℕ) (k l : FileType) → IsFileName name m k → IsFileName name n l → (m ≡ n) × (k ≡ l)
one_reading name m n k l a b = one_form name m n k l (name_form name m k a) (name_form name n l b)

-- zeros before digits are digits, and change no value
zeros_are_digits : (k : ℕ) (digits : List ℕ) → AllDigits 10 digits → AllDigits 10 (replicate k 48 ++ digits)
zeros_are_digits zero digits h = h
zeros_are_digits (suc k) digits h = (lit< tt, zeros_are_digits k digits h)

zeros_change_nothing : (k : ℕ) (digits : List ℕ) → digits_value 10 (replicate k 48 ++ digits) ≡ digits_value 10 digits
zeros_change_nothing zero digits = refl
zeros_change_nothing (suc k) digits = zeros_change_nothing k digits

pub six_digits_are_a_number : (n : ℕ) → n < 2 ^ 64 → IsNumber (six_digits n) n
six_digits_are_a_number n fits =
    let plain = decimal_is_IsNumeral n fits in
    let zeros = 6 - length (decimal n) in
    let some = plain.0.0 in
    record {
      digits = (simp length-append (omega (arith, some)), zeros_are_digits zeros (decimal n) plain.0.1);
      value = sym (zeros_change_nothing zeros (decimal n) ∙ plain.1);
      fits = fits;
    }

-- a name that a store gives is read as what it was given for
pub made_name : (kind : FileType) (n : ℕ) → MayHaveNumber kind n → IsFileName (file_name kind n) n kind
made_name Log n h = (six_digits n, six_digits_are_a_number n h, refl)
made_name DBLock n h = (refl, h)
made_name Table n h = inl (six_digits n, six_digits_are_a_number n h, refl)
made_name Descriptor n h = (six_digits n, six_digits_are_a_number n h, sym (append-nil (codes "MANIFEST-" ++ six_digits n)))
made_name Current n h = (refl, h)
made_name Temp n h = (six_digits n, six_digits_are_a_number n h, refl)
made_name InfoLog n h = (inl refl, h)

pub read_made_name : (kind : FileType) (n : ℕ) (answer : Result (ℕ × FileType) Status) → MayHaveNumber kind n → ReadsName (file_name kind n) answer → answer ≡ Ok (n, kind)
read_made_name kind n (Ok found) h reads =
    let same = one_reading (file_name kind n) found.0 n found.1 kind reads (made_name kind n h) in
    let make : ℕ → FileType → Result (ℕ × FileType) Status = λ number told. Ok (number, told) in
    ap (λ z. make z found.1) same.0 ∙ ap (make n) same.1
read_made_name kind n (Err status) h reads = absurd (reads.1 n kind (made_name kind n h))

-- different files have different names
pub made_names_apart : (m n : ℕ) (k l : FileType) → MayHaveNumber k m → MayHaveNumber l n → file_name k m ≡ file_name l n → (m ≡ n) × (k ≡ l)
made_names_apart m n k l a b e =
    let P : List ℕ → Type 0 = λ z. IsFileName z m k in
    one_reading (file_name l n) m n k l (subst P e (made_name k m a)) (made_name l n b)

pub made_paths_apart : (store : List ℕ) (m n : ℕ) (k l : FileType) → MayHaveNumber k m → MayHaveNumber l n → file_path store k m ≡ file_path store l n → (m ≡ n) × (k ≡ l)
made_paths_apart store m n k l a b e = made_names_apart m n k l a b (ap (drop 1) (append_cancel_left store (codes "/" ++ file_name k m) (codes "/" ++ file_name l n) e))

-- what `{:06}` writes
pub padded_is_six_digits : (n : ℕ) → styled_decimal (format_spec 32 0 4 6 (2 ^ 64 - 1)) n ≡ six_digits n
unfolding padded_integral char_count
padded_is_six_digits n =
    let zeros : 6 - length (decimal n) - 0 - 0 ≡ 6 - length (decimal n) = omega arith in
    ap (λ z. replicate z 48 ++ (decimal n ++ [])) zeros ∙ ap (λ z. replicate (6 - length (decimal n)) 48 ++ z) (append-nil (decimal n))

-- ---- what cutting a name at a fixed front or at its first dot says of its readings

-- no word is it
abbrev pub NoWord : List ℕ → Type 0
NoWord name = (kind : FileType) → IsWord name kind → ⊥

-- it begins as a manifest's name, and no number follows
pub manifest_without_number : (name digits : List ℕ) → NoWord name → name ≡ codes "MANIFEST-" ++ digits → ((n : ℕ) → IsNumber digits n → ⊥)
    → (n : ℕ) (kind : FileType) → IsFileName name n kind → ⊥
manifest_without_number name digits words e none =
    no_name name words
    (λ n kind h. let same = append_cancel_left (codes "MANIFEST-") h.0 digits (sym h.3 ∙ e) in none n (let P : List ℕ → Type 0 = λ z. IsNumber z n in subst P same h.1))
    (λ n kind h. manifest_is_undotted name digits n kind e h)

-- it does not begin so
abbrev pub NoManifest : List ℕ → Type 0
NoManifest name = (rest : List ℕ) → name ≢ codes "MANIFEST-" ++ rest

-- it has no dot
pub undotted : (name : List ℕ) → NoWord name → NoManifest name → IsSplitOnceResult 46 name None → (n : ℕ) (kind : FileType) → IsFileName name n kind → ⊥
undotted name words manifest h =
    no_name name words (λ n kind m. manifest m.0 m.3) (λ n kind d. split_after 46 name d.0 d.1 None h (lit< tt) d.4 (no_dot d.0 n d.2))

-- after its first dot is no extension
pub unknown_extension : (name : List ℕ) (x : Bor (List ℕ) × Bor (List ℕ)) → NoWord name → NoManifest name → IsSplitOnceResult 46 name (Some x)
    → ((kind : FileType) → IsExtension x.1.now kind → ⊥) → (n : ℕ) (kind : FileType) → IsFileName name n kind → ⊥
unknown_extension name x words manifest h none =
    no_name name words (λ n kind m. manifest m.0 m.3)
    (λ n kind d. let same = split_after 46 name d.0 d.1 (Some x) h (lit< tt) d.4 (no_dot d.0 n d.2) in
    none kind (let P : List ℕ → Type 0 = λ z. IsExtension z kind in subst P (sym same.1) d.3))

-- before its first dot is no number
pub unnumbered : (name : List ℕ) (x : Bor (List ℕ) × Bor (List ℕ)) → NoWord name → NoManifest name → IsSplitOnceResult 46 name (Some x)
    → ((n : ℕ) → IsNumber x.0.now n → ⊥) → (n : ℕ) (kind : FileType) → IsFileName name n kind → ⊥
unnumbered name x words manifest h none =
    no_name name words (λ n kind m. manifest m.0 m.3)
    (λ n kind d. let same = split_after 46 name d.0 d.1 (Some x) h (lit< tt) d.4 (no_dot d.0 n d.2) in
    none n (let P : List ℕ → Type 0 = λ z. IsNumber z n in subst P (sym same.0) d.2))
