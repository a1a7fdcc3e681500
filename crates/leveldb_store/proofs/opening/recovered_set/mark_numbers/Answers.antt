use Rattle.std.proofs.Common.{string_bytes}
use Rattle.std.proofs.lemmas.Result.{err_from_is_err_and}
use Rattle.leveldb_store.proofs.Openings.OpeningNamesLemmas.{marks_more, marks_none, matches_one, name_is_one}
use Rattle.leveldb_store.proofs.opening.recovered_set.mark_numbers.Goals as goal

pub loop-file-init : goal.loop-file-init
loop-file-init g c = marks_none c.args.versions.now c.args.files.now

pub loop-file-preserved : goal.loop-file-preserved
loop-file-preserved g c = marks_more c.args.versions.now c.loop-file.versions c.mark_file_number_used.new.self c.args.files.now c.loop-file.file-index c.file-item.result c.loop-file-test.true c.file-item.is
    c.loop-file.invariant (matches_one c.args.files.now c.loop-file.file-index c.file-item.result c.loop-file-test.true c.file-item.is c.requires) c.in_ok-mark_file_number_used.ensures.ok

pub returns-in_err-mark_file_number_used-clause-cause : goal.returns-in_err-mark_file_number_used-clause-cause
returns-in_err-mark_file_number_used-clause-cause g c =
    let failed = err_from_is_err_and c.from_residual.result c.from_residual.ensures.1 in
    let file = c.file-item.result in
    rw (failed.1, failed.2) (
      file.number,
      (
        string_bytes file.name,
        file.kind,
        name_is_one c.args.files.now c.loop-file.file-index file c.loop-file-test.true c.file-item.is,
        matches_one c.args.files.now c.loop-file.file-index file c.loop-file-test.true c.file-item.is c.requires,
      ),
      c.in_err-mark_file_number_used.ensures.cause,
    )
