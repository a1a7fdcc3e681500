use Rattle.leveldb_repair.proofs.ManifestNumbersLemmas.{edits_all, edits_more, edits_never, edits_none}
use Rattle.leveldb_version.specs.Edits.VersionEdit.{edit_of}
use Rattle.leveldb_repair.proofs.numbers.raised_to_records.Goals as goal

pub loop-record-init : goal.loop-record-init
loop-record-init c = edits_none c.args.least

pub loop-record-preserved : goal.loop-record-preserved
loop-record-preserved c =
    edits_more c.args.records.now c.loop-record.record-index c.record-item.result c.loop-record-test.true c.record-item.is c.args.least c.loop-record.greatest _ c.loop-record.invariant (edit_of c.in-Some.edit)
    (rw (c.in-Some.is, c.as_slice.ensures.value) at c.in_ok-edit.ensures.ok) c.raised_to_edit-greatest.ensures

pub returns-in_default-clause-ok : goal.returns-in_default-clause-ok
returns-in_default-clause-ok c =
    edits_never c.args.records.now c.loop-record.record-index c.record-item.result c.args.least c.loop-record-test.true c.record-item.is
    (rw (c.in_default.is, c.as_slice.ensures.value) at c.in_ok-edit.ensures.ok)

pub returns-clause-ok : goal.returns-clause-ok
returns-clause-ok c = edits_all c.args.records.now c.loop-record.record-index c.args.least c.loop-record.greatest c.loop-record-test.false c.loop-record.invariant
