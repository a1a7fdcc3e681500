-- Ranges that a file meets, and the test for keys that are in the range of no deeper file.
use Rattle.std.proofs.Common.{◌≡◌, ◌≢◌, ℕ, ◌<◌, Bool, true, false, not, ◌&&◌, List, refl, ap}
use Rattle.std.specs.Prelude.{Contains, nat_lt}
use Rattle.std.specs.List.{list_any}
use Rattle.std.specs.Ordering.{is_lt}
use Rattle.std.specs.declared.cmp.Ordering.{Ordering}
use Rattle.std.proofs.lemmas.Bool.{and_parts, and_from, lt-ltb, ltb-true}
use Rattle.leveldb_base.specs.KeyTypes.{user_part}
use Rattle.leveldb_base.proofs.OrderLemmas.{not_less, not_lt, both}
use Rattle.leveldb_base.proofs.ThinningLemmas.{finds_it, found_by}
use Rattle.leveldb_files.specs.Edits.Edit.{NewFile}
use Rattle.leveldb_files.specs.Levels.Overlap.{overlaps}
use Rattle.leveldb_version.specs.Versions.DeeperLevels.{IsBaseLevelFor, TestTellsBaseLevel, closed_range, is_base_level_for}

pub not_so : (b : Bool) → not b ≡ true → b ≡ false
not_so true e = cc
not_so false e = refl

module _ (cmp : List ℕ → List ℕ → Ordering) where
  -- what overlaps isn't outside
  pub meets : (low high : List ℕ) (file : NewFile) → overlaps cmp (closed_range low high) file ≡ true
      → (is_lt (cmp (user_part file.largest) low) ≡ false)
      × (is_lt (cmp high (user_part file.smallest)) ≡ false)
  meets low high file e =
      let parts = and_parts (not (is_lt (cmp (user_part file.largest) low)))
      (not (is_lt (cmp high (user_part file.smallest)))) e in
      (not_so _ parts.0, not_so _ parts.1)

-- ---- the test

pub test_tells_base_level : TestTellsBaseLevel
test_tells_base_level cmp level files key = (to, back)
  where
    meets_key : NewFile → Bool
    meets_key file = nat_lt level file.level && overlaps cmp (closed_range key key) file

    to : is_base_level_for cmp level files key ≡ true → IsBaseLevelFor cmp level files key
    to e file there deep range = both (list_any meets_key files)
        (finds_it meets_key files file there
        (and_from (nat_lt level file.level) (overlaps cmp (closed_range key key) file)
        (lt-ltb level file.level deep)
        (and_from (not (is_lt (cmp (user_part file.largest) key)))
        (not (is_lt (cmp key (user_part file.smallest))))
        (ap not (not_less _ range.to)) (ap not (not_less _ range.from)))))
        (not_so (list_any meets_key files) e)

    back : IsBaseLevelFor cmp level files key → is_base_level_for cmp level files key ≡ true
    back out = by (list_any meets_key files) refl
      where
        by : (b : Bool) → list_any meets_key files ≡ b → not b ≡ true
        by false e = refl
        by true e =
            let one = found_by meets_key files e in
            let parts = and_parts (nat_lt level one.0.level)
            (overlaps cmp (closed_range key key) one.0) one.2 in
            let meet = meets cmp key key one.0 parts.1 in
            absurd (out one.0 one.1 (ltb-true level one.0.level parts.0)
            (record { from = not_lt _ meet.1; to = not_lt _ meet.0 }))
