-- Which file is charged with a seek for a sample of the keys that are read.
use Rattle.std.specs.Prelude.{◌≡◌, Bool, List, None, Option, ℕ}
use Rattle.std.specs.declared.cmp.Ordering.{Ordering}
use Rattle.leveldb_version.specs.Versions.Search.{AreAllTried, AreDisjointLevels, AreTriedFirst, file_to_charge}
use Rattle.leveldb_version.specs.Versions.Version.{VersionValue, charged, new_files_of}
use Rattle.leveldb_files.specs.Edits.Edit.{LevelFile, NewFile}

module _ (cmp : List ℕ → List ℕ → Ordering) (key : List ℕ) where
  -- A sample of a user key charges the first file that a look-up of the key tries, if there is a
  -- second.
  pub record ChargesForSample (files : List NewFile) (charge : Option LevelFile) : Type 0 where
    -- some of the files with the key in their range, in the order of a look-up
    pub tried : List NewFile
    pub first : AreTriedFirst cmp key files tried
    pub charged : charge ≡ file_to_charge tried
    -- and all of them where none is charged
    pub all : charge ≡ None → AreAllTried cmp key files tried

  -- the version after a sample, and whether that chooses the file that it charges
  pub record SamplesRead {C : Type 0} (old new : VersionValue C) (chosen : Bool) : Type 0 where
    pub charge : Option LevelFile
    pub charges : (new, chosen) ≡ charged old charge
    -- which file is charged, if the files of each level from 1 on are apart
    pub which : AreDisjointLevels cmp (new_files_of old)
        → ChargesForSample (new_files_of old) charge
