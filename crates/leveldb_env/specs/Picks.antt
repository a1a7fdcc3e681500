-- What a crash leaves of files by choice: which bytes follow those that it keeps.
use Rattle.std.specs.Prelude.{◌≡◌, ◌⊎◌, ◌↔◌, ◌≤◌, ◌<◌, Contains, ℕ, List, [], ◌++◌, length, All, IsSomeAnd, unwrap_or, map, String, string_bytes, Vec}
use Rattle.std.specs.Cmp.Lexicographic.{slice_cmp}
use Rattle.std.specs.List.{IsDistinct}
use Rattle.std.specs.List.Sorted.{IsStrictlySortedBy}
use Rattle.std.specs.Ordering.{nat_cmp}
use Rattle.std.specs.Map.{lookup, keys_of}
use Rattle.std.specs.Option.{option_map}
use Rattle.std.specs.Str.{bytes_eq}
use Rattle.std.specs.declared.alloc.Global.{Global}
use Rattle.leveldb_base.specs.declared.error.Status.{Status}
use Rattle.leveldb_base.specs.declared.error.StatusCode.TheVariants.{InvalidArgument}
use Rattle.leveldb_base.specs.Error.{IsOutOfMemory}
use Rattle.leveldb_env.specs.Env.{Files, kept_file, AreBytes, FilesCrashTo}

-- names, each with the tail that is picked for it
abbrev pub Tails : Type 0
Tails = List (List ℕ × List ℕ)

-- tails as a program gives them
abbrev pub tails_of : List (String Global × Vec ℕ Global) → Tails
tails_of tails = map (λ pick. (string_bytes pick.0, pick.1.items)) tails

-- the tail picked for a name; none where none is picked
abbrev pub tail_for : Tails → List ℕ → List ℕ
tail_for tails name = unwrap_or (lookup (bytes_eq name) tails) []

-- of each file its kept bytes and after them the tail picked for it, all kept
abbrev pub picked : Tails → Files → Files
picked tails files = λ name. option_map
    (λ file. kept_file (file.kept ++ tail_for tails name)) (files name)

-- a tail for a file that is there, no longer than what was appended since
pub record IsTailOf (files : Files) (pick : List ℕ × List ℕ) : Type 0 where
  -- its elements are bytes
  pub bytes : AreBytes pick.1
  -- the file is there, and the tail is no longer than what was appended since
  pub fits : IsSomeAnd (files pick.0) (λ file. length pick.1 ≤ length file.since)

-- tails that a crash may leave, each for another name
pub record IsAllowed (files : Files) (tails : Tails) : Type 0 where
  -- each is a tail of a file that is there
  pub each : All (IsTailOf files) tails
  -- no name has two
  pub once : IsDistinct bytes_eq (keys_of tails)

-- in order of name what the files have past their kept bytes, where they have any
pub record ListsTails (files : Files) (tails : Tails) : Type 0 where
  -- a name is listed with its bytes past the kept ones, exactly if it has some
  pub each : (name tail : List ℕ) → Contains tails (name, tail)
      ↔ IsSomeAnd (files name) (λ file. (file.since ≡ tail) × (0 < length tail))
  -- names rise
  pub in_order : IsStrictlySortedBy (slice_cmp nat_cmp) (keys_of tails)

-- whatever a crash leaves, it leaves by tails that are allowed
abbrev pub CrashesByTails : Files → Type 0
CrashesByTails files = (left : Files) → FilesCrashTo files left → (tails : Tails)
    × IsAllowed files tails × (left ≡ picked tails files)

-- a choice fails where no crash leaves it, and else out of memory alone
abbrev pub IsChoiceError : Files → Tails → Status → Type 0
IsChoiceError files tails e = (IsOutOfMemory e × IsAllowed files tails)
    ⊎ ((e.code ≡ InvalidArgument) × (IsAllowed files tails → ⊥))
