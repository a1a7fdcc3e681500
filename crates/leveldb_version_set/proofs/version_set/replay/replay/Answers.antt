use Rattle.std.proofs.Common.{List, ap, refl}
use Rattle.std.proofs.lemmas.Result.{err_from_is_err_and}
use Rattle.leveldb_version_set.specs.Sets.Replay.{with_files}
use Rattle.leveldb_files.specs.Edits.Edit.{NewFile}
use Rattle.leveldb_version_set.proofs.Sets.ReplayFileLemmas.{replay_out, replayed_whole}
use Rattle.leveldb_version_set.proofs.version_set.replay.replay.Goals as goal

pub returns-in_err-left-2-clause-err : goal.returns-in_err-left-2-clause-err
returns-in_err-left-2-clause-err g c =
    let p = err_from_is_err_and c.from_residual-in_err-left-2.result c.from_residual-in_err-left-2.ensures.1 in
    rw (p.1, p.2) (replay_out g.S.Source.gives c.args.source.now c.replay_records.new.source _ c.in_ok-left.left _ c.in_ok-left.ensures.ok
    c.in_err-left-2.field-0.0 c.in_err-left-2.ensures.memory)

pub returns-clause-ok : goal.returns-clause-ok
returns-clause-ok g c =
    replayed_whole g.S.Source.gives c.args.source.now c.replay_records.new.source _ c.in_ok-left.left _ _ c.in_ok-left.ensures.ok
    (ap (λ (files : List NewFile). with_files c.in_ok-left.left.full files) c.in_ok-left-2.ensures.files) refl refl refl refl refl
