-- Files that are kept to be charged: at most 4096.
use Rattle.std.specs.Prelude.{take}
use Rattle.std.proofs.Common.{◌≡◌, ◌∙◌, ◌<◌, ◌++◌, ◌∷◌, [], ℕ, List, arith, length}
use Rattle.std.proofs.lemmas.List.{length-append, take-append-le, take_all}
use Rattle.leveldb_files.specs.Edits.Edit.{LevelFile}
use Rattle.rusty_leveldb.specs.Walks.ReadSamples.{SamplesValue}

-- one more, where there is room
pub one_more : (files : List LevelFile) (file : LevelFile) → length files < 4096
    → take 4096 (files ++ file ∷ []) ≡ files ++ file ∷ []
one_more files file room =
    let more = length-append files (file ∷ []) in
    take_all 4096 (files ++ file ∷ []) (omega (arith, room, more))

-- and none where there is none
pub no_more : (files : List LevelFile) (file : LevelFile) → length files ≡ 4096
    → take 4096 (files ++ file ∷ []) ≡ files
no_more files file full = take-append-le 4096 files (file ∷ []) (omega (arith, full))
    ∙ take_all 4096 files (omega (arith, full))

-- the samples with these files
abbrev pub samples_of : List ℕ → ℕ → List LevelFile → SamplesValue
samples_of random left files = record { random = random; left = left; charges = files }
