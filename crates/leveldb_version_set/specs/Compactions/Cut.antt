-- Where an output of a compaction is to end, so that it overlaps little of the level after its own.
use Rattle.std.specs.Prelude.{◌≡◌, ◌+◌, ◌-◌, ◌*◌, ◌^◌, true, false, ℕ, Bool, if◌then◌else◌, nat_lt, List, drop, length, min, take_while}
use Rattle.std.specs.Ordering.{is_gt}
use Rattle.std.specs.declared.cmp.Ordering.{Ordering}
use Rattle.leveldb_base.specs.KeyTypes.{internal_cmp}
use Rattle.leveldb_files.specs.Levels.Summary.{total_size}
use Rattle.leveldb_files.specs.Edits.Edit.{NewFile}

-- How far the keys of a compaction have come over the files two levels down: how many of these they
-- have passed, how many bytes the open output has passed, and whether a key came.
pub record CutValue : Type 0 where
  pub passed : ℕ
  pub overlapped : ℕ
  pub begun : Bool

-- before the first key
abbrev pub no_key : CutValue
no_key = record { passed = 0; overlapped = 0; begun = false }

-- how many bytes the open output has passed with files that a key passes, up to 2^64 - 1; those
-- that the first key of all passes aren't overlapped
abbrev pub size_with : CutValue → List NewFile → ℕ
size_with cut passed = if cut.begun
    then min (cut.overlapped + total_size passed) (2 ^ 64 - 1) else cut.overlapped

module _ (cmp : List ℕ → List ℕ → Ordering) (files : List NewFile) where
  -- the files that a key passes: of those that none has passed, the first ones that end before it
  abbrev pub newly_passed : CutValue → List ℕ → List NewFile
  newly_passed cut key =
      take_while (λ file. is_gt (internal_cmp cmp key file.largest)) (drop cut.passed files)

  -- A key passes files. The output is to end before it if it has passed more bytes with it than ten
  -- files may have, and then the next one, which begins with the key, has passed none.
  pub record PassesFiles (file_size : ℕ) (key : List ℕ) (old : CutValue) (stops : Bool)
      (new : CutValue) : Type 0 where
    pub stops_is : stops ≡ nat_lt (10 * file_size) (size_with old (newly_passed old key))
    pub passed : new.passed ≡ old.passed + length (newly_passed old key)
    pub overlapped : new.overlapped
        ≡ (if stops then 0 else size_with old (newly_passed old key))
    pub begun : new.begun ≡ true
