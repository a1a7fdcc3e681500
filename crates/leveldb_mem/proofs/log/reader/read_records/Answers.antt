use Rattle.std.proofs.Common.{map, inl, sym, subst, ap, ◌∙◌}
use Rattle.std.proofs.lemmas.List.{map_push}
use Rattle.std.proofs.lemmas.Result.{err_from_is_err_and}
use Rattle.leveldb_mem.specs.Log.{log_block_size}
use Rattle.leveldb_mem.proofs.LawsLemmas.{usual_size}
use Rattle.leveldb_mem.specs.Log.Reader.{ReadSoFar}
use Rattle.leveldb_mem.proofs.ReaderLemmas.{ReadSoFar-none, ReadSoFar-more, ReadSoFar-clean, ReadSoFar-torn, ReadSoFar-wrong, ReadSoFar-stopped, wants_memory}
use Rattle.leveldb_mem.proofs.log.reader.read_records.Goals as goal

pub returns-in_err-next_record-clause-err : goal.returns-in_err-next_record-clause-err
returns-in_err-next_record-clause-err g c =
    let p = err_from_is_err_and c.from_residual.result c.from_residual.ensures.1 in
    let usable = ap (λ r. r.failed) c.loop-record.invariant.reader in
    rw (p.1, p.2) (ReadSoFar-stopped g.S.Source.gives c.args.check_crcs log_block_size usual_size c.args.source.now _ c.loop-record.core c.loop-record.source c.loop-record.invariant c.next_record.new.self c.next_record.new.source _ (c.in_err-next_record.ensures.err usable).0)

pub loop-record-preserved : goal.loop-record-preserved
loop-record-preserved g c =
    let found = rw c.in-Record.is at c.in_ok-next_record.ensures.found in
    let more = ReadSoFar-more g.S.Source.gives c.args.check_crcs log_block_size usual_size c.args.source.now _ c.loop-record.core c.loop-record.source c.loop-record.invariant c.next_record.new.self c.next_record.new.source c.next_record.new.target.items found in
    let texts = ap (map (λ v. v.items)) c.in_ok-push-in-Record.ensures.items ∙ map_push (λ v. v.items) c.loop-record.records.items c.next_record.new.target in
    subst (λ z. ReadSoFar g.S.Source.gives c.args.check_crcs log_block_size c.args.source.now z c.next_record.new.self c.next_record.new.source) (sym texts) more

pub returns-in_err-push-in-Record-clause-err : goal.returns-in_err-push-in-Record-clause-err
returns-in_err-push-in-Record-clause-err g c =
    let p = err_from_is_err_and c.from_residual-in_err-push-in-Record.result c.from_residual-in_err-push-in-Record.ensures.1 in
    let found = rw c.in-Record.is at c.in_ok-next_record.ensures.found in
    let more = ReadSoFar-more g.S.Source.gives c.args.check_crcs log_block_size usual_size c.args.source.now _ c.loop-record.core c.loop-record.source c.loop-record.invariant c.next_record.new.self c.next_record.new.source c.next_record.new.target.items found in
    rw p.1 (ReadSoFar-stopped g.S.Source.gives c.args.check_crcs log_block_size usual_size c.args.source.now _ c.next_record.new.self c.next_record.new.source more c.next_record.new.self c.next_record.new.source p.0
    (inl (wants_memory g.S.Source.gives c.next_record.new.source p.0 p.2)))

pub returns-in-End-clause-log : goal.returns-in-End-clause-log
returns-in-End-clause-log g c =
    let found = rw c.in-End.is at c.in_ok-next_record.ensures.found in
    ReadSoFar-clean g.S.Source.gives c.args.check_crcs log_block_size usual_size c.args.source.now _ c.loop-record.core c.loop-record.source c.loop-record.invariant c.next_record.new.self c.next_record.new.source found.0

pub returns-in-WrongChecksum-clause-log : goal.returns-in-WrongChecksum-clause-log
returns-in-WrongChecksum-clause-log g c =
    let found = rw c.in-WrongChecksum.is at c.in_ok-next_record.ensures.found in
    ReadSoFar-wrong g.S.Source.gives c.args.check_crcs log_block_size usual_size c.args.source.now _ c.loop-record.core c.loop-record.source c.loop-record.invariant c.next_record.new.self c.next_record.new.source found

pub returns-in-Damage-clause-log : goal.returns-in-Damage-clause-log
returns-in-Damage-clause-log g c =
    let found = rw c.in-Damage.is at c.in_ok-next_record.ensures.found in
    ReadSoFar-torn g.S.Source.gives c.args.check_crcs log_block_size usual_size c.args.source.now _ c.loop-record.core c.loop-record.source c.loop-record.invariant c.next_record.new.self c.next_record.new.source found

pub loop-record-init : goal.loop-record-init
loop-record-init g c =
    rw (c.new-core.ensures, c.new-records.ensures.items) (ReadSoFar-none g.S.Source.gives c.args.check_crcs log_block_size usual_size c.args.source.now)
