use Rattle.std.proofs.Common.{◌≡◌, ◌-◌, ◌<◌, fold, take, if◌then◌else◌}
use Rattle.leveldb_version.specs.Versions.Version.{new_files_of}
use Rattle.leveldb_version.specs.Versions.Scores.{is_fuller}
use Rattle.leveldb_version.proofs.Versions.ScoresLemmas.{levels_from_one}
use Rattle.leveldb_version.proofs.version.Version.fullest_level.Given as goal

abbrev pub invariant-loop-level : goal.invariant-loop-level
invariant-loop-level g l = record {
  fullest : l.fullest ≡ fold (λ best level. if is_fuller (new_files_of l.self) level best then level else best) 0 (take (l.level - 1) levels_from_one);
  known : l.fullest < 6;
}
