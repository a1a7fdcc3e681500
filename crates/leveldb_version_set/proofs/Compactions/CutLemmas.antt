-- How many files from the first one on end before a key.
use Rattle.std.specs.Prelude.{if◌then◌else◌, min, nat_lt, take_while}
use Rattle.std.proofs.Common.{◌≡◌, ◌∙◌, ℕ, ◌+◌, ◌-◌, ◌*◌, ◌^◌, ◌<◌, ◌≤◌, Bool, true, false, List, arith, ap, drop, drop_of_length-le, get_or, length, map, refl, sym, take, ⊎_elim}
use Rattle.std.proofs.lemmas.Bool.{cases_lt}
use Rattle.std.proofs.lemmas.List.{drop-map, get_or-map, length-map, length-drop, length-take, take-map, take_rest}
use Rattle.std.proofs.lemmas.List.Sums.{prefix_len-drop_all, prefix_len-drop_no, prefix_len-drop_yes, prefix_len-le-length}
use Rattle.std.specs.List.{prefix_len}
use Rattle.std.specs.Ordering.{is_gt}
use Rattle.std.specs.declared.cmp.Ordering.{Ordering}
use Rattle.leveldb_base.specs.KeyTypes.{internal_cmp}
use Rattle.leveldb_base.specs.declared.types.FileMetaData.{FileMetaData}
use Rattle.leveldb_version_set.specs.Compactions.Cut.{PassesFiles, CutValue, newly_passed, size_with}
use Rattle.leveldb_files.specs.Edits.Edit.{NewFile}
use Rattle.leveldb_version.specs.Edits.VersionEdit.{new_file_of}

module _ (p : NewFile → Bool) (files : List (ℕ × FileMetaData)) where
  -- so many files from the first one on pass, and it goes on with those that follow
  abbrev pub AreCounted : ℕ → Type 0
  AreCounted count = prefix_len p (map new_file_of files) ≡ count + prefix_len p (drop count (map new_file_of files))

  at_file : (i : ℕ) (file : ℕ × FileMetaData) (b : Bool) → i < length files → get_or files i file ≡ file → p (new_file_of file) ≡ b
      → p (get_or (map new_file_of files) i (new_file_of file)) ≡ b
  at_file i file b inside is e = ap p (get_or-map new_file_of files i file (new_file_of file) inside ∙ ap new_file_of is) ∙ e

  inside_map : (i : ℕ) → i < length files → i < length (map new_file_of files)
  inside_map i inside = let long = length-map files new_file_of in omega (arith, long, inside)

  -- one file more passes
  pub counted_on : (i : ℕ) (file : ℕ × FileMetaData) → i < length files → get_or files i file ≡ file → p (new_file_of file) ≡ true → AreCounted i → AreCounted (i + 1)
  counted_on i file inside is passes so_far =
      let step = prefix_len-drop_yes p (map new_file_of files) i (new_file_of file) (inside_map i inside) (at_file i file true inside is passes) in
      omega (arith, so_far, step)

  -- the next one doesn't
  pub counted_to : (i : ℕ) (file : ℕ × FileMetaData) → i < length files → get_or files i file ≡ file → p (new_file_of file) ≡ false → AreCounted i
      → i ≡ prefix_len p (map new_file_of files)
  counted_to i file inside is stays so_far =
      let step = prefix_len-drop_no p (map new_file_of files) i (new_file_of file) (inside_map i inside) (at_file i file false inside is stays) in
      omega (arith, so_far, step)

  -- there is no next one
  pub counted_through : (i : ℕ) → length files ≤ i → AreCounted i → i ≡ prefix_len p (map new_file_of files)
  counted_through i out so_far =
      let long = length-map files new_file_of in
      let step = prefix_len-drop_all p (map new_file_of files) i (omega (arith, long, out)) in
      omega (arith, so_far, step)

  pub counted_within : (count : ℕ) → count ≡ prefix_len p (map new_file_of files) → count ≡ length (take count files)
  counted_within count is =
      let long = length-map files new_file_of in
      let le = prefix_len-le-length p (map new_file_of files) in
      let taken = length-take count files in
      omega (arith, is, long, le, taken)

  pub counted_files : (count : ℕ) → count ≡ prefix_len p (map new_file_of files)
      → map new_file_of (take count files) ≡ take_while p (map new_file_of files)
  counted_files count is = sym (take-map new_file_of count files) ∙ ap (λ n. take n (map new_file_of files)) is

-- ---- a step

-- a list has no elements past its end
drop_within : {X : Type 0} (xs : List X) (n m : ℕ) → m ≡ min n (length xs) → drop m xs ≡ drop n xs
drop_within xs n m is = ⊎_elim
    (λ (past : length xs < n). drop_of_length-le xs (omega (arith, is, past)) ∙ sym (drop_of_length-le xs (omega (arith, past))))
    (λ (up : n ≤ length xs). let same : m ≡ n = omega (arith, is, up) in ap (λ k. drop k xs) same)
    (cases_lt (length xs) n)

-- what a slice has from there on
left_from : (files : List (ℕ × FileMetaData)) (n m : ℕ) → m ≡ min n (length files)
    → map new_file_of (take (length files - m) (drop m files)) ≡ drop n (map new_file_of files)
left_from files n m is =
    ap (map new_file_of) (take_rest files m ∙ drop_within files n m is) ∙ sym (drop-map new_file_of n files)

module _ (cmp : List ℕ → List ℕ → Ordering) (files : List (ℕ × FileMetaData)) (key : List ℕ) (old : CutValue) where
  pub passes_files : (file_size m limit size next kept : ℕ) (passed : List (ℕ × FileMetaData)) → limit ≡ 10 * file_size
      → m ≡ min old.passed (length files)
      → map new_file_of passed
      ≡ take_while (λ file. is_gt (internal_cmp cmp key file.largest)) (map new_file_of (take (length files - m) (drop m files)))
      → size ≡ size_with old (map new_file_of passed)
      → next ≡ min (old.passed + length passed) (2 ^ 64 - 1) → old.passed < 2 ^ 64 → length files < 2 ^ 64
      → kept ≡ (if nat_lt limit size then 0 else size)
      → PassesFiles cmp (map new_file_of files) file_size key old (nat_lt limit size) (record { passed = next; overlapped = kept; begun = true })
  passes_files file_size m limit size next kept passed limit_is m_is passed_is size_is next_is fits long kept_is = record {
    stops_is = ap (λ n. nat_lt n size) limit_is ∙ ap (λ n. nat_lt (10 * file_size) n) whole;
    passed = omega (arith, next_is, fits, long, counted, few, sized);
    overlapped = kept_is ∙ ap (λ n. if nat_lt limit size then 0 else n) whole;
    begun = refl;
  }
    where
      before : NewFile → Bool
      before file = is_gt (internal_cmp cmp key file.largest)

      newly : map new_file_of passed ≡ newly_passed cmp (map new_file_of files) old key
      newly = passed_is ∙ ap (take_while before) (left_from files old.passed m m_is)

      whole : size ≡ size_with old (newly_passed cmp (map new_file_of files) old key)
      whole = size_is ∙ ap (size_with old) newly

      counted : length passed ≡ length (newly_passed cmp (map new_file_of files) old key)
      counted = sym (length-map passed new_file_of) ∙ ap length newly

      sized : length (map new_file_of files) ≡ length files
      sized = length-map files new_file_of

      few : length (newly_passed cmp (map new_file_of files) old key) ≤ length (map new_file_of files) - old.passed
      few =
          let left = drop old.passed (map new_file_of files) in
          let taken = length-take (prefix_len before left) left in
          let dropped = length-drop old.passed (map new_file_of files) in
          let le = prefix_len-le-length before left in
          omega (arith, taken, dropped, le)
