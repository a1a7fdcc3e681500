use Rattle.std.proofs.Common.{ap, arith}
use Rattle.std.proofs.lemmas.Result.{err_from_is_err_and}
use Rattle.leveldb_mem.specs.Log.Reader.{ReaderState}
use Rattle.leveldb_version_set.proofs.Sets.ReplayFileLemmas.{replay_refused, replay_stopped, replay_too_long, replayed_clean, replayed_torn, replayed_wrong, replaying_more, replaying_none}
use Rattle.leveldb_version_set.proofs.version_set.replay.replay_records.Goals as goal

pub loop-count-init : goal.loop-count-init
loop-count-init g c = (replaying_none g.S.Source.gives c.args.source.now c.nothing-left.result _ c.new-core.result c.nothing-left.ensures c.new-files.ensures.none c.new-core.ensures, c.new-files.ensures.placed)

pub loop-count-preserved : goal.loop-count-preserved
loop-count-preserved g c =
    let found = rw c.in-Record.is at c.in_ok-next_record.ensures.found in
    (replaying_more g.S.Source.gives _ _ _ _ _ _ c.loop-count.invariant.0 c.next_record.new.self c.next_record.new.source _ _ _ found (rw c.deref.ensures.value at c.in_ok-add_record-in-Record.ensures.ok), c.in_ok-add_record-in-Record.ensures.placed)

pub returns-in_err-next_record-clause-err : goal.returns-in_err-next_record-clause-err
returns-in_err-next_record-clause-err g c =
    let p = err_from_is_err_and c.from_residual.result c.from_residual.ensures.1 in
    let usable = ap (λ (reader : ReaderState). reader.failed) c.loop-count.invariant.0.read.reader in
    rw (p.1, p.2) (replay_stopped g.S.Source.gives _ _ _ _ _ _ c.loop-count.invariant.0 c.next_record.new.self c.next_record.new.source _ (c.in_err-next_record.ensures.err usable).0)

pub returns-in_err-add_record-in-Record-clause-err : goal.returns-in_err-add_record-in-Record-clause-err
returns-in_err-add_record-in-Record-clause-err g c =
    let p = err_from_is_err_and c.from_residual-in_err-add_record-in-Record.result c.from_residual-in_err-add_record-in-Record.ensures.1 in
    let found = rw c.in-Record.is at c.in_ok-next_record.ensures.found in
    rw (p.1, p.2) (replay_refused g.S.Source.gives _ _ _ _ _ _ c.loop-count.invariant.0 c.next_record.new.self c.next_record.new.source _ _ found (rw c.deref.ensures.value at c.in_err-add_record-in-Record.ensures.cause))

pub returns-in-End-clause-ok : goal.returns-in-End-clause-ok
returns-in-End-clause-ok g c =
    let found = rw c.in-End.is at c.in_ok-next_record.ensures.found in
    replayed_clean g.S.Source.gives _ _ _ _ _ _ c.loop-count.invariant.0 c.next_record.new.self c.next_record.new.source found.0

pub returns-in-WrongChecksum-clause-ok : goal.returns-in-WrongChecksum-clause-ok
returns-in-WrongChecksum-clause-ok g c =
    let found = rw c.in-WrongChecksum.is at c.in_ok-next_record.ensures.found in
    replayed_wrong g.S.Source.gives _ _ _ _ _ _ c.loop-count.invariant.0 c.next_record.new.self c.next_record.new.source found

pub returns-in-Damage-clause-ok : goal.returns-in-Damage-clause-ok
returns-in-Damage-clause-ok g c =
    let found = rw c.in-Damage.is at c.in_ok-next_record.ensures.found in
    replayed_torn g.S.Source.gives _ _ _ _ _ _ c.loop-count.invariant.0 c.next_record.new.self c.next_record.new.source found

pub returns-clause-err : goal.returns-clause-err
returns-clause-err g c =
    let p = err_from_is_err_and c.too_many.result c.too_many.ensures in
    rw p.1 (replay_too_long g.S.Source.gives _ _ _ _ _ _ c.loop-count.invariant.0 (omega arith) p.0 p.2)
