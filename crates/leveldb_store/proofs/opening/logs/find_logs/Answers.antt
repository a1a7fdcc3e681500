use Rattle.std.proofs.Common.{inl, inr, ⊎_elim, string_bytes}
use Rattle.std.proofs.lemmas.Result.{err_from_is_err_and}
use Rattle.leveldb_store.specs.Openings.Listing.{names_of}
use Rattle.leveldb_store.proofs.Openings.OpeningNamesLemmas.{logs_more, matches_one, misnamed_among, name_is_one, no_logs}
use Rattle.leveldb_store.proofs.opening.logs.find_logs.Goals as goal

pub loop-file-init : goal.loop-file-init
loop-file-init c = no_logs c.args.log c.args.previous c.args.files.now _ c.new-logs.ensures.empty

pub add_log-requires : goal.add_log-requires
add_log-requires c = matches_one c.args.files.now c.loop-file.file-index c.file-item.result c.loop-file-test.true c.file-item.is c.requires

pub loop-file-preserved : goal.loop-file-preserved
loop-file-preserved c = logs_more c.args.log c.args.previous c.args.files.now c.loop-file.file-index c.file-item.result c.loop-file-test.true c.file-item.is c.loop-file.logs.keys c.add_log.new.logs.keys
    c.loop-file.invariant c.in_ok-add_log.ensures.ok

pub returns-in_err-add_log-clause-cause : goal.returns-in_err-add_log-clause-cause
returns-in_err-add_log-clause-cause c =
    let failed = err_from_is_err_and c.from_residual.result c.from_residual.ensures.1 in
    rw failed.1 (rw failed.2 (⊎_elim
    (λ memory. inl memory)
    (λ it. inr (
      it.0,
      misnamed_among c.args.log c.args.previous (names_of c.args.files.now) (string_bytes c.file-item.result.name)
          (name_is_one c.args.files.now c.loop-file.file-index c.file-item.result c.loop-file-test.true c.file-item.is) it.1,
    ))
    c.in_err-add_log.ensures.cause))
