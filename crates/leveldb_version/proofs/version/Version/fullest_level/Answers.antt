use Rattle.std.proofs.Common.{◌∙◌, ℕ, if◌then◌else◌, ap, sym}
use Rattle.leveldb_version.specs.Versions.Version.{new_files_of}
use Rattle.leveldb_version.specs.Versions.Scores.{is_fuller}
use Rattle.leveldb_version.proofs.Versions.ScoresLemmas.{fold_next}
use Rattle.leveldb_version.proofs.version.Version.fullest_level.Goals as goal

pub loop-level-preserved : goal.loop-level-preserved
loop-level-preserved g c =
    let step : ℕ → ℕ → ℕ = λ best level. if is_fuller (new_files_of c.args.self.now) level best then level else best in
    let next = fold_next step c.loop-level.level c.loop-level.auto.level c.loop-level-test.true in
    record {
      fullest = c.fuller-fullest.ensures.level ∙ (ap (λ best. step best c.loop-level.level) c.loop-level.invariant.fullest ∙ sym next);
      known = c.fuller-fullest.ensures.known;
    }
