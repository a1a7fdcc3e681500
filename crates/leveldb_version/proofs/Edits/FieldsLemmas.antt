-- What reading an edit's fields finds.
use Rattle.std.proofs.Common.{◌≡◌, ℕ, ◌^◌, ◌<◌, ◌≤◌, List, ◌∷◌, ◌++◌, length, None, IsUtf8, sym, ◌∙◌, ap, subst, arith, append_assoc, length-append}
use Rattle.leveldb_base.specs.Varint.{varint, sized, ReadsSized}
use Rattle.leveldb_base.proofs.VarintLemmas.{one_number, one_sized}
use Rattle.leveldb_files.specs.Edits.Edit.{Pointer, NewFile, LevelFile, Field, comparator_is, log_is, previous_log_is, next_file_is, last_sequence_is, points, deletes, adds, field_bytes, FieldFits}
use Rattle.leveldb_version.specs.Edits.Fields.{ReadsFront}

-- what follows a number that is read, where the number is read again
after_number : {bytes rest : List ℕ} (n : ℕ) → bytes ≡ varint n ++ rest → (m : ℕ) (more : List ℕ) → bytes ≡ varint m ++ more → rest ≡ more
after_number {bytes} {rest} n front m more e = (one_number n m rest more (sym front ∙ e)).1

-- what follows a text that is read, where the text is read again
after_text : {bytes rest : List ℕ} (text : List ℕ) → bytes ≡ sized text ++ rest → (again more : List ℕ) → bytes ≡ sized again ++ more → rest ≡ more
after_text {bytes} {rest} text front again more e = (one_sized text again rest more (sym front ∙ e)).1

-- what follows is no longer than the whole
rest_is_short : {bytes : List ℕ} (front rest : List ℕ) → length bytes < 2 ^ 64 → bytes ≡ front ++ rest → length rest < 2 ^ 64
rest_is_short {bytes} front rest short e = omega (arith, short, ap length e, length-append front rest)

-- where no text is read, there is none
no_text : {bytes : List ℕ} → length bytes < 2 ^ 64 → ReadsSized bytes None → (text more : List ℕ) → bytes ≡ sized text ++ more → ⊥
no_text fits none text more e = none text more (omega (arith, fits, ap length e, length-append {A = ℕ})) e

-- ---- after a tag is a field of its kind

only_name : (bytes more : List ℕ) (field : Field) → FieldFits field → 1 ∷ bytes ≡ field_bytes field ++ more
    → ((name : List ℕ) → IsUtf8 name → bytes ≡ sized name ++ more → ⊥) → ⊥
only_name bytes more (comparator_is name) fits e none = none name fits cc
only_name bytes more (log_is n) fits e none = cc
only_name bytes more (previous_log_is n) fits e none = cc
only_name bytes more (next_file_is n) fits e none = cc
only_name bytes more (last_sequence_is n) fits e none = cc
only_name bytes more (points it) fits e none = cc
only_name bytes more (deletes it) fits e none = cc
only_name bytes more (adds it) fits e none = cc

only_pointer : (bytes more : List ℕ) (field : Field) → FieldFits field → 5 ∷ bytes ≡ field_bytes field ++ more
    → ((it : Pointer) → bytes ≡ varint it.level ++ (sized it.key ++ more) → ⊥) → ⊥
only_pointer bytes more (points it) fits e none =
    let tail : bytes ≡ (varint it.level ++ sized it.key) ++ more = cc in none it (tail ∙ append_assoc (varint it.level) (sized it.key) more)
only_pointer bytes more (comparator_is name) fits e none = cc
only_pointer bytes more (log_is n) fits e none = cc
only_pointer bytes more (previous_log_is n) fits e none = cc
only_pointer bytes more (next_file_is n) fits e none = cc
only_pointer bytes more (last_sequence_is n) fits e none = cc
only_pointer bytes more (deletes it) fits e none = cc
only_pointer bytes more (adds it) fits e none = cc

only_deleted : (bytes more : List ℕ) (field : Field) → FieldFits field → 6 ∷ bytes ≡ field_bytes field ++ more
    → ((it : LevelFile) → it.1 < 2 ^ 64 → bytes ≡ varint it.0 ++ (varint it.1 ++ more) → ⊥) → ⊥
only_deleted bytes more (deletes it) fits e none =
    let tail : bytes ≡ (varint it.0 ++ varint it.1) ++ more = cc in none it fits.1 (tail ∙ append_assoc (varint it.0) (varint it.1) more)
only_deleted bytes more (comparator_is name) fits e none = cc
only_deleted bytes more (log_is n) fits e none = cc
only_deleted bytes more (previous_log_is n) fits e none = cc
only_deleted bytes more (next_file_is n) fits e none = cc
only_deleted bytes more (last_sequence_is n) fits e none = cc
only_deleted bytes more (points it) fits e none = cc
only_deleted bytes more (adds it) fits e none = cc

-- the bytes of a new file after its tag, and what follows
abbrev pub file_then : NewFile → List ℕ → List ℕ
file_then it more = varint it.level ++ (varint it.number ++ (varint it.size ++ (sized it.smallest ++ (sized it.largest ++ more))))

file_parted : (it : NewFile) (more : List ℕ) → (varint it.level ++ (varint it.number ++ (varint it.size ++ (sized it.smallest ++ sized it.largest)))) ++ more ≡ file_then it more
file_parted it more = simp append_assoc

only_file : (bytes more : List ℕ) (field : Field) → FieldFits field → 7 ∷ bytes ≡ field_bytes field ++ more
    → ((it : NewFile) → it.number < 2 ^ 64 → it.size < 2 ^ 64 → bytes ≡ file_then it more → ⊥) → ⊥
only_file bytes more (adds it) fits e none =
    let tail : bytes ≡ (varint it.level ++ (varint it.number ++ (varint it.size ++ (sized it.smallest ++ sized it.largest)))) ++ more = cc in
    none it fits.1 fits.2 (tail ∙ file_parted it more)
only_file bytes more (comparator_is name) fits e none = cc
only_file bytes more (log_is n) fits e none = cc
only_file bytes more (previous_log_is n) fits e none = cc
only_file bytes more (next_file_is n) fits e none = cc
only_file bytes more (last_sequence_is n) fits e none = cc
only_file bytes more (points it) fits e none = cc
only_file bytes more (deletes it) fits e none = cc

-- ---- where a part isn't read there is no field

pub no_level : {bytes : List ℕ} (n : ℕ) (rest : List ℕ) → bytes ≡ varint n ++ rest → 7 ≤ n → ReadsFront (λ level. level < 7) varint bytes None
no_level n rest front large level more small e = omega (arith, large, small, (one_number n level rest more (sym front ∙ e)).0)

pub no_name : {bytes : List ℕ} (name rest : List ℕ) → bytes ≡ sized name ++ rest → (IsUtf8 name → ⊥) → ReadsFront FieldFits field_bytes (1 ∷ bytes) None
no_name {bytes} name rest front bad field more fits e =
    only_name bytes more field fits e (λ again text f. bad (subst IsUtf8 (sym (one_sized name again rest more (sym front ∙ f)).0) text))

pub no_key : {bytes rest : List ℕ} (level : ℕ) → length bytes < 2 ^ 64 → bytes ≡ varint level ++ rest → ReadsSized rest None → ReadsFront FieldFits field_bytes (5 ∷ bytes) None
no_key {bytes} {rest} level short front none field more fits e =
    only_pointer bytes more field fits e (λ it f. no_text (rest_is_short _ rest short front) none it.key more (after_number level front it.level (sized it.key ++ more) f))

pub no_number : {bytes rest : List ℕ} (level : ℕ) → bytes ≡ varint level ++ rest → ReadsFront (λ number. number < 2 ^ 64) varint rest None → ReadsFront FieldFits field_bytes (6 ∷ bytes) None
no_number {bytes} {rest} level front none field more fits e =
    only_deleted bytes more field fits e (λ it small f. none it.1 more small (after_number level front it.0 (varint it.1 ++ more) f))

-- what follows the level of a new file, its number, its size, and its smallest key
module _ {bytes a : List ℕ} (level : ℕ) (first : bytes ≡ varint level ++ a) where
  after_level : (it : NewFile) (more : List ℕ) → bytes ≡ file_then it more → a ≡ varint it.number ++ (varint it.size ++ (sized it.smallest ++ (sized it.largest ++ more)))
  after_level it more e = after_number level first it.level _ e

  pub no_file_number : ReadsFront (λ number. number < 2 ^ 64) varint a None → ReadsFront FieldFits field_bytes (7 ∷ bytes) None
  no_file_number none field more fits e = only_file bytes more field fits e (λ it n s f. none it.number _ n (after_level it more f))

  module _ {b : List ℕ} (number : ℕ) (second : a ≡ varint number ++ b) where
    after_file_number : (it : NewFile) (more : List ℕ) → bytes ≡ file_then it more → b ≡ varint it.size ++ (sized it.smallest ++ (sized it.largest ++ more))
    after_file_number it more e = after_number number second it.number _ (after_level it more e)

    pub no_size : ReadsFront (λ size. size < 2 ^ 64) varint b None → ReadsFront FieldFits field_bytes (7 ∷ bytes) None
    no_size none field more fits e = only_file bytes more field fits e (λ it n s f. none it.size _ s (after_file_number it more f))

    module _ {d : List ℕ} (size : ℕ) (third : b ≡ varint size ++ d) (short : length bytes < 2 ^ 64) where
      after_size : (it : NewFile) (more : List ℕ) → bytes ≡ file_then it more → d ≡ sized it.smallest ++ (sized it.largest ++ more)
      after_size it more e = after_number size third it.size _ (after_file_number it more e)

      pub no_smallest : ReadsSized d None → ReadsFront FieldFits field_bytes (7 ∷ bytes) None
      no_smallest none field more fits e = only_file bytes more field fits e (λ it n s f. no_text (rest_is_short _ d (rest_is_short _ b (rest_is_short _ a short first) second) third) none it.smallest _ (after_size it more f))

      pub no_largest : {rest : List ℕ} (smallest : List ℕ) → d ≡ sized smallest ++ rest → ReadsSized rest None → ReadsFront FieldFits field_bytes (7 ∷ bytes) None
      no_largest smallest fourth none field more fits e =
          only_file bytes more field fits e (λ it n s f. no_text (rest_is_short _ _ (rest_is_short _ d (rest_is_short _ b (rest_is_short _ a short first) second) third) fourth) none it.largest more (after_text smallest fourth it.smallest _ (after_size it more f)))
