-- The version asks by its scores as the live files do.
use Rattle.std.specs.Prelude.{◌&&◌, is_some}
use Rattle.std.proofs.Common.{◌∙◌, ap, sym}
use Rattle.leveldb_version.specs.Versions.Scores.{level_by_score}
use Rattle.leveldb_version.specs.Versions.Version.{VersionValue, new_files_of}
use Rattle.leveldb_store.proofs.Writing.DueLemmas.{scores_same}
use Rattle.leveldb_store.specs.Keeping.OpenStore.{OpenStoreValue}
use Rattle.leveldb_store.proofs.open_store.OpenStore.look_for_compaction.Goals as goal

pub returns-clause-due : goal.returns-clause-due
returns-clause-due g c =
    let versions = c.self.inside.versions in
    let same = scores_same versions.set.full.added (new_files_of versions.current)
    c.current.ensures.current.same_files in
    let asks = c.is_some.ensures
    ∙ ap is_some (c.level_by_score.ensures
    ∙ ap (λ (v : VersionValue g.row.C.Denot). level_by_score (new_files_of v))
    c.current.ensures.version ∙ sym same)
    ∙ ap (λ (v : OpenStoreValue g.row.C.Denot). is_some (level_by_score v.set.full.added))
    c.self.view_is in
    asks ∙ ap (λ b. b && is_some (level_by_score c.args.self.now.set.full.added))
    c.if-not-looks_for_compaction.ensures
