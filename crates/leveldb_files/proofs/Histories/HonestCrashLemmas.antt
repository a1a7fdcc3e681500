-- Two crashes that are honest: one that keeps all bytes, and one that keeps none of those that were
-- appended since.
use Rattle.leveldb_env.specs.Env.{AreBytes, File, FileCrashesTo, Files, FilesCrashTo, bytes_of, file_kept}
use Rattle.leveldb_files.proofs.Stores.ManagedLemmas.{SameBytes}
use Rattle.leveldb_files.proofs.Histories.SafeLemmas.{Honest, cut_honest, cut_leaves, cut_off, front_honest}
use Rattle.leveldb_files.specs.Histories.Holds.{IsHonest}
use Rattle.leveldb_files.specs.Steps.StoreSteps.{AppendedAreBytes}
use Rattle.std.proofs.Common.{◌∙◌, ◌≡◌, List, None, Option, Some, [], ap, append-nil, arith, refl, sym, ℕ}
use Rattle.std.specs.Option.{option_map}

-- ---- all bytes

-- a crash may leave all bytes of a file
pub whole_leaves : (file : File) → AreBytes file.since
    → FileCrashesTo (Some file) (Some (file_kept file))
whole_leaves file bytes = (file.since, bytes, omega arith, refl)

pub whole_honest : (file : File) → Honest (Some file) (Some (file_kept file))
whole_honest file = front_honest file file.since [] (sym (append-nil file.since))

-- a crash may keep everything
abbrev pub all_kept : Files → Files
all_kept files = λ name. option_map file_kept (files name)

pub all_leaves : (files : Files) → AppendedAreBytes files → FilesCrashTo files (all_kept files)
all_leaves files bytes name = by (files name) refl
  where
    by : (file : Option File) → files name ≡ file → FileCrashesTo file (option_map file_kept file)
    by None e = refl
    by (Some file) e = whole_leaves file (bytes name file e)

pub all_honest : (store : List ℕ) (files : Files) → IsHonest store files (all_kept files)
all_honest store files name file left journal there found =
    whole_honest file file left refl (ap (option_map file_kept) (sym there) ∙ found)

pub all_same : (file : Option File) → SameBytes file (option_map file_kept file)
all_same None = refl
all_same (Some file) = ap (λ b. Some b) (append-nil (bytes_of file))

-- ---- none that were appended

-- a crash may leave nothing of what was appended
abbrev pub all_cut : Files → Files
all_cut files = λ name. cut_off (files name)

pub all_cut_left : (files : Files) → FilesCrashTo files (all_cut files)
all_cut_left files name = cut_leaves (files name)

pub all_cut_honest : (store : List ℕ) (files : Files) → IsHonest store files (all_cut files)
all_cut_honest store files name file left journal there found =
    cut_honest (files name) file left there found
