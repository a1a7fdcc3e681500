-- A new table can be added to the level that is picked for it.
use Rattle.std.proofs.Common.{◌≡◌, ◌∙◌, ◌∷◌, ◌+◌, ◌<◌, ◌≤◌, ◌==◌, ◌⊎◌, ℕ, zero, suc, Bool, true, false, cond, List, [], ap, arith, inl, inr, leb, length, not, refl, subst, sym, ⊎_elim}
use Rattle.std.proofs.lemmas.Bool.{and_parts, eq-eqb}
use Rattle.std.proofs.lemmas.List.Folds.{list_any-from_Any}
use Rattle.std.proofs.lemmas.List.Sums.{take_while-cons}
use Rattle.std.specs.List.{filter, list_any}
use Rattle.std.specs.Option.{option_map_or}
use Rattle.std.specs.Ordering.{is_lt}
use Rattle.std.specs.Prelude.{◌&&◌, Contains}
use Rattle.std.specs.declared.cmp.Ordering.{Ordering}
use Rattle.leveldb_base.proofs.HistoryLemmas.{in_cases, in_front, in_none, in_rest}
use Rattle.leveldb_base.proofs.OrderLemmas.{both, is_false, lt_less}
use Rattle.leveldb_base.specs.KeyTypes.{user_part}
use Rattle.leveldb_base.specs.Layers.{IsOlder}
use Rattle.leveldb_files.specs.Levels.Levels.{AreDisjoint, CanBeAdded, IsBounded, LiveTable, table_entries}
use Rattle.leveldb_files.specs.Levels.Overlap.{UserRange, file_range, greatest_overlap, is_above, is_below, is_overlapped, may_go_to, named_end, output_level, overlapping, overlaps}
use Rattle.leveldb_files.specs.Levels.Summary.{files_of_level, total_size}
use Rattle.leveldb_files.specs.Edits.Edit.{NewFile}

-- ---- lists

kept_there : {A : Type 0} (p : A → Bool) (y x : A) (ys : List A) (b : Bool) → p y ≡ b → p x ≡ true
    → (y ≡ x) ⊎ Contains (filter p ys) x → Contains (cond b (y ∷ filter p ys) (filter p ys)) x
kept_there p y x ys true e passes (inl same) = subst (Contains (y ∷ filter p ys)) same (in_front y (filter p ys))
kept_there p y x ys true e passes (inr rest) = in_rest y x (filter p ys) rest
kept_there p y x ys false e passes (inl same) = both (p y) (ap p same ∙ passes) e
kept_there p y x ys false e passes (inr rest) = rest

pub kept_in : {A : Type 0} (p : A → Bool) (xs : List A) (x : A) → Contains xs x → p x ≡ true
    → Contains (filter p xs) x
kept_in p [] x c passes = absurd (in_none x c)
kept_in p (y ∷ ys) x c passes =
    kept_there p y x ys (p y) refl passes
    (⊎_elim (λ (same : y ≡ x). inl same) (λ (rest : Contains ys x). inr (kept_in p ys x rest passes)) (in_cases y x ys c))

pub none_passes : {A : Type 0} (p : A → Bool) (xs : List A) → list_any p xs ≡ false → (x : A) → Contains xs x → p x ≡ false
none_passes p xs none x c =
    is_false (p x) (λ t. both (list_any p xs) (list_any-from_Any p xs (c.0, x, c.1, c.2, t)) none)

-- ---- ranges

end_is_named : (end : List ℕ) (test : List ℕ → Bool) → option_map_or test (named_end end) false ≡ true → test end ≡ true
end_is_named [] test e = cc
end_is_named (byte ∷ key) test e = e

not_both : (a b : Bool) → (not a && not b) ≡ false → (a ≡ true) ⊎ (b ≡ true)
not_both true b e = inl refl
not_both false true e = inr refl
not_both false false e = cc

not_true : (b : Bool) → not b ≡ true → b ≡ false
not_true true e = cc
not_true false e = refl

-- ---- the level

three_levels : (k : ℕ) → k ≤ 2 → (k ≡ 0) ⊎ ((k ≡ 1) ⊎ (k ≡ 2))
three_levels zero h = inl refl
three_levels (suc zero) h = inr (inl refl)
three_levels (suc (suc zero)) h = inr (inr refl)
three_levels (suc (suc (suc k))) h = absurd (omega arith)

-- how many of two steps are made in a row, if any may be made
abbrev steps_made : Bool → Bool → Bool → ℕ
steps_made stays first second = cond stays 0 (cond first (cond second 2 1) 0)

at_most_two : (a b c : Bool) → steps_made a b c ≤ 2
at_most_two true b c = omega arith
at_most_two false false c = omega arith
at_most_two false true false = omega arith
at_most_two false true true = omega arith

none_stays : (a b c : Bool) → 0 < steps_made a b c → a ≡ false
none_stays true b c h = absurd (omega arith)
none_stays false b c h = refl

first_made : (a b c : Bool) → 1 ≤ steps_made a b c → b ≡ true
first_made true b c h = absurd (omega arith)
first_made false true c h = refl
first_made false false c h = absurd (omega arith)

second_made : (a b c : Bool) → 2 ≤ steps_made a b c → c ≡ true
second_made true b c h = absurd (omega arith)
second_made false false c h = absurd (omega arith)
second_made false true true h = refl
second_made false true false h = absurd (omega arith)

made_of : (b c : Bool) → length {A = ℕ} (cond b (1 ∷ cond c (2 ∷ []) []) []) ≡ cond {A = ℕ} b (cond c 2 1) 0
made_of true true = refl
made_of true false = refl
made_of false c = refl

module _ (cmp : List ℕ → List ℕ → Ordering) (range : UserRange) (files : List NewFile) where
  abbrev goes : ℕ → Bool
  goes level = may_go_to cmp range files level

  level_is : output_level cmp range files ≡ steps_made (is_overlapped cmp 0 range files) (goes 1) (goes 2)
  level_is = ap (λ n. cond (is_overlapped cmp 0 range files) 0 n)
      (ap length (take_while-cons goes 1 (2 ∷ []) ∙ ap (λ l. cond (goes 1) (1 ∷ l) []) (take_while-cons goes 2 []))
      ∙ made_of (goes 1) (goes 2))

  goes_free : (level : ℕ) → goes level ≡ true → is_overlapped cmp level range files ≡ false
  goes_free level e = not_true (is_overlapped cmp level range files)
      (and_parts (not (is_overlapped cmp level range files))
      (leb (total_size (overlapping cmp (level + 1) range files)) greatest_overlap) e).0

  -- no file overlaps the range in the levels down to the one that is picked, if it isn't level 0
  pub free_down_to : (k : ℕ) → 0 < output_level cmp range files → k ≤ output_level cmp range files
      → is_overlapped cmp k range files ≡ false
  free_down_to k deep within = by (three_levels k (omega (arith, within, level_is, at_most_two over (goes 1) (goes 2))))
    where
      over : Bool
      over = is_overlapped cmp 0 range files

      at : (n : ℕ) → k ≡ n → is_overlapped cmp n range files ≡ false → is_overlapped cmp k range files ≡ false
      at n same free = subst (λ (m : ℕ). is_overlapped cmp m range files ≡ false) (sym same) free

      by : (k ≡ 0) ⊎ ((k ≡ 1) ⊎ (k ≡ 2)) → is_overlapped cmp k range files ≡ false
      by (inl same) = at 0 same (none_stays over (goes 1) (goes 2) (subst (λ (n : ℕ). 0 < n) level_is deep))
      by (inr (inl same)) =
          at 1 same (goes_free 1 (first_made over (goes 1) (goes 2) (omega (arith, same, within, level_is))))
      by (inr (inr same)) =
          at 2 same (goes_free 2 (second_made over (goes 1) (goes 2) (omega (arith, same, within, level_is))))

module _ (cmp : List ℕ → List ℕ → Ordering) where
  -- a file that doesn't overlap the range of another is apart from it
  pub apart_from : (file other : NewFile) → overlaps cmp (file_range other) file ≡ false → AreDisjoint cmp file other
  apart_from file other e =
      ⊎_elim
      (λ (below : is_below cmp (file_range other) (user_part file.largest) ≡ true).
      inl (lt_less (cmp (user_part file.largest) (user_part other.smallest))
      (end_is_named (user_part other.smallest) (λ first. is_lt (cmp (user_part file.largest) first)) below)))
      (λ (above : is_above cmp (file_range other) (user_part file.smallest) ≡ true).
      inr (lt_less (cmp (user_part other.largest) (user_part file.smallest))
      (end_is_named (user_part other.largest) (λ last. is_lt (cmp last (user_part file.smallest))) above)))
      (not_both (is_below cmp (file_range other) (user_part file.largest))
      (is_above cmp (file_range other) (user_part file.smallest)) e)

  pub output_level_is_free : (tables : List LiveTable) (files : List NewFile)
      → ((one : LiveTable) → Contains tables one → Contains files one.file) → (table : LiveTable)
      → table.file.level ≡ output_level cmp (file_range table.file) files → IsBounded cmp table
      → IsOlder (table_entries tables) table.entries
      → ((one : LiveTable) → Contains tables one → one.file.level ≡ 0 → table.file.level ≡ 0
      → one.file.number < table.file.number)
      → CanBeAdded cmp tables table
  output_level_is_free tables files there table level_is bounded newer number = record {
    bounded = bounded;
    newer = newer;
    above = λ a c less. apart a c (omega (arith, less)) (omega (arith, less));
    beside = λ a c same deep. apart a c (omega (arith, same, deep)) (omega (arith, same));
    number = number;
  }
    where
      range : UserRange
      range = file_range table.file

      apart : (a : LiveTable) → Contains tables a → 0 < table.file.level → a.file.level ≤ table.file.level
          → AreDisjoint cmp a.file table.file
      apart a c deep within =
          let free = free_down_to cmp range files a.file.level (omega (arith, deep, level_is)) (omega (arith, within, level_is)) in
          apart_from a.file table.file (none_passes (overlaps cmp range) (files_of_level a.file.level files) free a.file
          (kept_in (λ (file : NewFile). file.level == a.file.level) files a.file (there a c)
          (eq-eqb a.file.level a.file.level refl)))
