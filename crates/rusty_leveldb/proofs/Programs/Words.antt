-- Words: none has a byte that parts words, and the text before the first such byte is one alone.
use Rattle.std.proofs.Common.{◌≡◌, ◌≢◌, ◌<◌, ℕ, zero, suc, true, false, List, [], ◌∷◌, ◌++◌, length, slice_index_or, Result, Ok, Err, is_ok, if◌then◌else◌, refl, sym, ap, subst, ◌∙◌, arith, append-nil, append_assoc, codes}
use Rattle.std.specs.Prelude.{Contains}
use Rattle.std.specs.Result.{result_unwrap_or}
use Rattle.std.specs.declared.alloc.AllocError.{AllocError}
use Rattle.std.proofs.lemmas.List.Elements.{Contains-append_right}
use Rattle.hex.specs.Hex.{IsBytes, is_hex_digit, encode_lower, encode_with, lower_digits, decode_of}
use Rattle.hex.specs.declared.error.FromHexError.{FromHexError}
use Rattle.hex.proofs.HexLemmas.{decode_of-ok, decode_of-encode_lower, length-encode_with}
use Rattle.rusty_leveldb.specs.Programs.Language.{hex_word, OutputGrows}
use Rattle.rusty_leveldb.specs.Programs.Readings.{IsHexWord}

-- a list without its first element
abbrev pub tail_of : List ℕ → List ℕ
tail_of [] = []
tail_of (x ∷ xs) = xs

-- what a list contains, a longer one does
pub later : (separator x : ℕ) (xs : List ℕ) → Contains xs separator → Contains (x ∷ xs) separator
later separator x xs found = let below = found.1 in (suc found.0, omega (arith, below), found.2)

-- a text that has a byte contains it
pub has_middle : (separator : ℕ) (a c d : List ℕ) → a ≡ c ++ separator ∷ d → Contains a separator
has_middle separator a c d e =
    let P : List ℕ → Type 0 = λ xs. Contains xs separator in
    subst P (sym e) (Contains-append_right c (separator ∷ d) separator (0, omega arith, refl))

-- what is before the first of a byte in a text, and after it, is one alone
pub same_front : (separator : ℕ) (a c b d : List ℕ) → (Contains a separator → ⊥) → (Contains c separator → ⊥)
    → a ++ separator ∷ b ≡ c ++ separator ∷ d → (a ≡ c) × (b ≡ d)
same_front separator [] [] b d no_a no_c e = (refl, ap tail_of e)
same_front separator [] (y ∷ c) b d no_a no_c e = absurd (no_c (0, omega arith, ap (λ (xs : List ℕ). slice_index_or xs 0 separator) (sym e)))
same_front separator (x ∷ a) [] b d no_a no_c e = absurd (no_a (0, omega arith, ap (λ (xs : List ℕ). slice_index_or xs 0 separator) e))
same_front separator (x ∷ a) (y ∷ c) b d no_a no_c e =
    let head : x ≡ y = ap (λ (xs : List ℕ). slice_index_or xs 0 separator) e in
    let rest = same_front separator a c b d (λ h. no_a (later separator x a h)) (λ h. no_c (later separator y c h)) (ap tail_of e) in
    (ap (λ (v : ℕ). v ∷ a) head ∙ ap (λ (vs : List ℕ). y ∷ vs) rest.0, rest.1)

-- the one element of a list
single_is : (b separator k : ℕ) → k < 1 → slice_index_or (b ∷ []) k separator ≡ b
single_is b separator zero below = refl
single_is b separator (suc k) below = absurd (omega (arith, below))

-- a list of one element contains no other
pub not_single : (b separator : ℕ) → (separator ≡ b → ⊥) → Contains (b ∷ []) separator → ⊥
not_single b separator other found = other (sym found.2 ∙ single_is b separator found.0 found.1)

-- a word has no byte but digits and full stops
pub no_separator : (separator : ℕ) (bytes : List ℕ) → IsBytes bytes → separator ≢ 46 → is_hex_digit separator ≡ false
    → Contains (hex_word bytes) separator → ⊥
no_separator separator [] h no_dot no_digit found = not_single 46 separator no_dot found
no_separator separator (byte ∷ bytes) h no_dot no_digit found =
    let digits = (decode_of-ok (encode_lower (byte ∷ bytes)) (byte ∷ bytes) (decode_of-encode_lower (byte ∷ bytes) h)).1 in
    let P : ℕ → Type 0 = λ d. is_hex_digit d ≡ true in
    let is : is_hex_digit separator ≡ true = subst P found.2 (digits found.0 separator found.1) in
    cc (sym no_digit ∙ is)

-- a full stop encodes no bytes
pub dot_encodes : (word bytes : List ℕ) → word ≡ codes "." → IsHexWord word bytes → [] ≡ bytes
dot_encodes word [] dot is = refl
dot_encodes word (byte ∷ bytes) dot is =
    let long = ap length (sym dot ∙ is.1) in
    let twice = length-encode_with lower_digits (byte ∷ bytes) in
    absurd (omega (arith, long, twice))

-- what another word encodes is what its digits are
spelled : (word bytes : List ℕ) → word ≢ codes "." → IsHexWord word bytes → decode_of word ≡ Ok bytes
spelled word [] no_dot is = absurd (no_dot is.1)
spelled word (byte ∷ bytes) no_dot is = ap decode_of is.1 ∙ decode_of-encode_lower (byte ∷ bytes) is.0

pub decoded_is : (word read bytes : List ℕ) → word ≢ codes "." → decode_of word ≡ Ok read → IsHexWord word bytes → read ≡ bytes
decoded_is word read bytes no_dot decoded is =
    ap (λ (r : Result (List ℕ) FromHexError). result_unwrap_or r []) (sym decoded ∙ spelled word bytes no_dot is)

pub not_decoded : (word : List ℕ) (error : FromHexError) (bytes : List ℕ) → word ≢ codes "." → decode_of word ≡ Err error → IsHexWord word bytes → ⊥
not_decoded word error bytes no_dot refused is = cc (sym refused ∙ spelled word bytes no_dot is)

-- the digits of bytes, one after another
pub encode_more : (t xs ys : List ℕ) → encode_with t (xs ++ ys) ≡ encode_with t xs ++ encode_with t ys
unfolding encode_with
encode_more t [] ys = refl
encode_more t (x ∷ xs) ys =
    ap (λ (rest : List ℕ). encode_with t (x ∷ []) ++ rest) (encode_more t xs ys)

-- no digits for no bytes
pub encode_none : encode_lower [] ≡ []
unfolding encode_with
encode_none = refl

-- some bytes' word is their digits
pub hex_word_some : (bytes : List ℕ) → 0 < length bytes → hex_word bytes ≡ encode_lower bytes
hex_word_some [] some = absurd (omega (arith, some))
hex_word_some (byte ∷ bytes) some = refl

-- no bytes' word
pub hex_word_none : (bytes : List ℕ) → length bytes ≡ 0 → codes "." ≡ hex_word bytes
hex_word_none [] none = refl
hex_word_none (byte ∷ bytes) none = absurd (omega (arith, none))

-- a text that grew at once
pub appends_one : (before after text : List ℕ) (r : Result (Unit {0}) AllocError) → after ≡ (if is_ok r then before ++ text else before) → OutputGrows before after r text
appends_one before after text (Ok done) e = (text, e, refl)
appends_one before after text (Err error) e = ([], e ∙ sym (append-nil before), tt)

-- a text that grew twice
pub appends_more : (before middle after a b : List ℕ) (r : Result (Unit {0}) AllocError)
    → (middle ≡ before ++ a) → OutputGrows middle after r b → OutputGrows before after r (a ++ b)
appends_more before middle after a b (Ok done) first second =
    (a ++ second.0, second.1 ∙ ap (λ (xs : List ℕ). xs ++ second.0) first ∙ append_assoc before a second.0, ap (λ (xs : List ℕ). a ++ xs) second.2)
appends_more before middle after a b (Err error) first second =
    (a ++ second.0, second.1 ∙ ap (λ (xs : List ℕ). xs ++ second.0) first ∙ append_assoc before a second.0, tt)
