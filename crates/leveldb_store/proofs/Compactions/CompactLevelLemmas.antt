-- Compactions of a level, and of the levels down to one.
use Rattle.std.proofs.Common.{◌≡◌, ◌∙◌, ◌⊎◌, ◌+◌, ◌-◌, ◌<◌, ◌≤◌, inl, inr, ℕ, Bool, false, true, cond, List, [], ◌∷◌, Option, None, Some, Result, Ok, Err, ap, arith, get_or, length, refl, subst, sym, take}
use Rattle.std.specs.Prelude.{Contains, IfOk, IfSome, fold, is_some}
use Rattle.std.specs.List.{list_any}
use Rattle.std.proofs.lemmas.Bool.{cases_order}
use Rattle.std.proofs.lemmas.List.Sorted.{Contains-permutation, IsPermutation-sym}
use Rattle.std.proofs.lemmas.List.Sums.{fold_more}
use Rattle.std.specs.declared.cmp.Ordering.{Ordering}
use Rattle.leveldb_base.specs.declared.error.Status.{Status}
use Rattle.leveldb_version_set.specs.Sets.CurrentVersion.{IsCurrent}
use Rattle.leveldb_files.specs.Levels.Overlap.{UserRange, is_overlapped, named_range, overlaps}
use Rattle.leveldb_version_set.specs.Compactions.Picking.{CompactionValue, IsCompactionOf, IsOfRange}
use Rattle.leveldb_files.specs.Levels.Summary.{files_of_level}
use Rattle.leveldb_version.specs.Versions.Version.{VersionValue, new_files_of}
use Rattle.leveldb_files.specs.Edits.Edit.{NewFile}
use Rattle.leveldb_version_set.specs.Sets.VersionSetValue.{VersionSetValue}
use Rattle.leveldb_store.proofs.Keeping.LevelForLemmas.{overlapped_alike}
use Rattle.leveldb_store.proofs.Compactions.ReplacedFilesLemmas.{ReplacesInLevel}
use Rattle.leveldb_store.specs.Compactions.Compact.{KeepsLevelsAbove}

-- ---- levels above

pub keeps_above : (level : ℕ) (files : List NewFile) → KeepsLevelsAbove level files files
keeps_above level files other higher = refl

pub keeps_above_then : (level : ℕ) (before mid after : List NewFile)
    → KeepsLevelsAbove level before mid → KeepsLevelsAbove level mid after
    → KeepsLevelsAbove level before after
keeps_above_then level before mid after first second other higher =
    second other higher ∙ first other higher

module _ (cmp : List ℕ → List ℕ → Ordering) (range : UserRange) where
  -- a level that keeps its files is overlapped as it was
  overlapped_as : (level : ℕ) (before after : List NewFile)
      → files_of_level level after ≡ files_of_level level before
      → is_overlapped cmp level range after ≡ is_overlapped cmp level range before
  overlapped_as level before after same = ap (λ files. list_any (overlaps cmp range) files) same

  -- the version's files are overlapped as the set's are
  pub overlapped_current : {C : Type 0} {order : List ℕ → List ℕ → Ordering} {by : C}
      {set : VersionSetValue} {version : VersionValue C} → IsCurrent order by set version
      → (level : ℕ) → is_overlapped cmp level range (new_files_of version)
      ≡ is_overlapped cmp level range set.full.added
  overlapped_current {set = set} {version = version} is level =
      sym (overlapped_alike cmp range set.full.added (new_files_of version) is.same_files level)

  -- one more level is clear, and those above it stay so
  pub clear_more : (level : ℕ) (before after : List NewFile)
      → ((other : ℕ) → other < level → is_overlapped cmp other range before ≡ false)
      → is_overlapped cmp level range after ≡ false → KeepsLevelsAbove level before after
      → (other : ℕ) → other < level + 1 → is_overlapped cmp other range after ≡ false
  clear_more level before after above here keeps other within = by (cases_order other level)
    where
      by : (other ≡ level) ⊎ ((other < level) ⊎ (level < other))
          → is_overlapped cmp other range after ≡ false
      by (inl same) = subst (λ k. is_overlapped cmp k range after ≡ false) (sym same) here
      by (inr (inl higher)) =
          overlapped_as other before after (keeps other higher) ∙ above other higher
      by (inr (inr lower)) = absurd (omega (arith, within, lower))

  -- ---- the deepest level that is overlapped

  abbrev deeper : List NewFile → ℕ → ℕ → ℕ
  deeper files deepest level = cond (is_overlapped cmp level range files) level deepest

  abbrev levels : List ℕ
  levels = 2 ∷ 3 ∷ 4 ∷ 5 ∷ []

  -- of the levels before this one
  abbrev pub deepest_before : List NewFile → ℕ → ℕ
  deepest_before files level = fold (deeper files) 1 (take (level - 2) levels)

  level_at : (level : ℕ) → 2 ≤ level → level < 6 → get_or levels (level - 2) 0 ≡ level
  level_at level least most = by (cases_order level 2) (cases_order level 3) (cases_order level 4)
    where
      at : (k : ℕ) → get_or levels (k - 2) 0 ≡ k → level ≡ k → get_or levels (level - 2) 0 ≡ level
      at k is same = subst (λ n. get_or levels (n - 2) 0 ≡ n) (sym same) is

      by : (level ≡ 2) ⊎ ((level < 2) ⊎ (2 < level)) → (level ≡ 3) ⊎ ((level < 3) ⊎ (3 < level))
          → (level ≡ 4) ⊎ ((level < 4) ⊎ (4 < level)) → get_or levels (level - 2) 0 ≡ level
      by (inl two) second third = at 2 refl two
      by (inr other) (inl three) third = at 3 refl three
      by (inr other) (inr more) (inl four) = at 4 refl four
      by (inr (inl less)) (inr more) (inr last) = absurd (omega (arith, less, least))
      by (inr (inr most_two)) (inr (inl less)) (inr last) = absurd (omega (arith, less, most_two))
      by (inr (inr most_two)) (inr (inr most_three)) (inr (inl less)) =
          absurd (omega (arith, less, most_three))
      by (inr (inr most_two)) (inr (inr most_three)) (inr (inr five)) =
          at 5 refl (omega (arith, five, most))

  -- it is so with one level more
  deepest_next : (files : List NewFile) (level deepest : ℕ) → 2 ≤ level → level < 6
      → deepest ≡ deepest_before files level
      → deeper files deepest level ≡ deepest_before files (level + 1)
  deepest_next files level deepest least most is =
      let up : level + 1 - 2 ≡ level - 2 + 1 = omega (arith, least) in
      let more = fold_more (deeper files) 1 levels (level - 2) 0 (omega (arith, least, most)) in
      ap (λ d. deeper files d level) is
      ∙ ap (λ k. deeper files (deepest_before files level) k) (sym (level_at level least most))
      ∙ sym more ∙ ap (λ n. fold (deeper files) 1 (take n levels)) (sym up)

  -- whether it is overlapped or not
  pub deepest_here : (files : List NewFile) (level deepest : ℕ) → 2 ≤ level → level < 6
      → deepest ≡ deepest_before files level → is_overlapped cmp level range files ≡ true
      → level ≡ deepest_before files (level + 1)
  deepest_here files level deepest least most is meets =
      ap (λ b. cond b level deepest) (sym meets) ∙ deepest_next files level deepest least most is

  pub deepest_above : (files : List NewFile) (level deepest : ℕ) → 2 ≤ level → level < 6
      → deepest ≡ deepest_before files level → is_overlapped cmp level range files ≡ false
      → deepest ≡ deepest_before files (level + 1)
  deepest_above files level deepest least most is clear =
      ap (λ b. cond b level deepest) (sym clear) ∙ deepest_next files level deepest least most is

-- ---- one level

-- it's the compaction of the set's files, asked for or not
pub compaction_as_manual : {C : Type 0} {cmp : List ℕ → List ℕ → Ordering}
    {version : VersionValue C} {manual : Bool} {size : ℕ} {it : CompactionValue C}
    → IsCompactionOf cmp version manual size it → IsCompactionOf cmp version it.manual size it
compaction_as_manual is = record {
  version_is = is.version_is;
  manual_is = refl;
  size_is = is.size_is;
  may = is.may;
  pointer = is.pointer;
  only = is.only;
}

module _ {C : Type 0} {cmp order : List ℕ → List ℕ → Ordering} {by : C} {set : VersionSetValue}
    {version : VersionValue C} {manual : Bool} {size level : ℕ} {it : CompactionValue C}
    (current : IsCurrent order by set version) (is : IsCompactionOf cmp version manual size it)
    (at : it.level ≡ level) (after : List NewFile)
    (replaces : ReplacesInLevel it set.full.added after) where
  -- its files are the set's
  inputs_live : (file : NewFile) → Contains (new_files_of it.inputs) file
      → Contains set.full.added file
  inputs_live file taken =
      Contains-permutation (new_files_of version) set.full.added file
      (IsPermutation-sym set.full.added (new_files_of version) current.same_files)
      (is.may.there file taken)

  -- so the level has fewer files
  pub level_has_fewer : length (files_of_level level after)
      < length (files_of_level level set.full.added)
  level_has_fewer = subst
      (λ k. length (files_of_level k after) < length (files_of_level k set.full.added)) at
      (replaces.fewer inputs_live)

  -- and those above it are as they were
  pub above_replaced : KeepsLevelsAbove level set.full.added after
  above_replaced = subst (λ k. KeepsLevelsAbove k set.full.added after) at replaces.above

-- ---- the compaction of a level

module _ {C : Type 0} (order : C → List ℕ → List ℕ → Ordering) (set : VersionSetValue)
    (version : VersionValue C) (level size : ℕ) (range : UserRange) {now cmp : C}
    (same : now ≡ cmp) where
  -- it is one of the version, and of the level
  pub picked_each : (result : Result (Option (CompactionValue C)) Status)
      → IfOk result (IsOfRange (order now) version level range size)
      → IfOk result (λ picked. IfSome picked
      (λ it. IsCompactionOf (order cmp) version true size it × (it.level ≡ level)))
  picked_each (Ok None) is = tt
  picked_each (Ok (Some it)) is =
      (subst (λ c. IsCompactionOf (order c) version true size it) same is.each, is.of_level)
  picked_each (Err status) is = tt

  -- there is one where a file of the set overlaps the range
  pub picked_some : IsCurrent (order cmp) cmp set version
      → (result : Result (Option (CompactionValue C)) Status)
      → IfOk result (IsOfRange (order now) version level range size)
      → IfOk result (λ picked. is_some picked
      ≡ is_overlapped (order cmp) level range set.full.added)
  picked_some current (Ok picked) is =
      is.some ∙ ap (λ c. is_overlapped (order c) level range (new_files_of version)) same
      ∙ overlapped_current (order cmp) range current level
  picked_some current (Err status) is = tt

-- an empty level isn't overlapped
none_of : {A : Type 0} (p : A → Bool) (xs : List A) → length xs ≡ 0 → list_any p xs ≡ false
none_of p [] none = refl
none_of p (x ∷ xs) none = absurd (omega (arith, none))

pub empty_level_clear : {C : Type 0} (cmp : List ℕ → List ℕ → Ordering) (range : UserRange)
    {by : C} {set : VersionSetValue} {version : VersionValue C} → IsCurrent cmp by set version
    → (level : ℕ) → length (files_of_level level (new_files_of version)) ≡ 0
    → false ≡ is_overlapped cmp level range set.full.added
empty_level_clear cmp range {version = version} current level none =
    sym (none_of (overlaps cmp range) (files_of_level level (new_files_of version)) none)
    ∙ overlapped_current cmp range current level

-- a level is clear of a range between the same keys, in the same order
pub clear_alike : (level : ℕ) (files : List NewFile) {cmp order : List ℕ → List ℕ → Ordering}
    {begin end from to : List ℕ} → cmp ≡ order → begin ≡ from → end ≡ to
    → is_overlapped cmp level (named_range begin end) files ≡ false
    → is_overlapped order level (named_range from to) files ≡ false
clear_alike level files {cmp} {begin = begin} {from = from} {to = to} same begins ends clear =
    subst (λ c. is_overlapped c level (named_range from to) files ≡ false) same
    (subst (λ key. is_overlapped cmp level (named_range key to) files ≡ false) begins
    (subst (λ key. is_overlapped cmp level (named_range begin key) files ≡ false) ends clear))
