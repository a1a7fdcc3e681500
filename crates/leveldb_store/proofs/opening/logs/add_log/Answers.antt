use Rattle.std.proofs.Common.{◌≡◌, ◌∙◌, subst, sym, string_bytes, true, false}
use Rattle.std.proofs.lemmas.Result.{err_from_is_err_and}
use Rattle.leveldb_base.specs.Names.{IsFileName}
use Rattle.leveldb_base.specs.declared.types.FileType.TheVariants.{Log}
use Rattle.leveldb_store.proofs.Openings.OpeningNamesLemmas.{adds_log, adds_none, misnamed_alone}
use Rattle.leveldb_store.proofs.opening.logs.add_log.Goals as goal

pub returns-then-not-is_replayed_log-clause-ok : goal.returns-then-not-is_replayed_log-clause-ok
returns-then-not-is_replayed_log-clause-ok c = adds_none c.args.log c.args.previous c.args.file.now c.args.logs.now.keys c.requires
    (λ kind replayed. let never : true ≡ false = sym (c.is_replayed_log.ensures.1 (kind, replayed)) ∙ c.if-not-is_replayed_log.true in absurd (cc never))

pub returns-in_err-check_log_name-clause-cause : goal.returns-in_err-check_log_name-clause-cause
returns-in_err-check_log_name-clause-cause c =
    let failed = err_from_is_err_and c.from_residual.result c.from_residual.ensures.1 in
    let file = c.args.file.now in
    let it = c.is_replayed_log.ensures.0 c.if-not-is_replayed_log.false in
    let log : IsFileName (string_bytes file.name) file.number Log = subst (IsFileName (string_bytes file.name) file.number) it.0 c.requires in
    rw failed.1 (rw failed.2 (misnamed_alone c.args.log c.args.previous (string_bytes file.name) file.number _ log it.1 (rw c.as_str.ensures.value at c.in_err-check_log_name.ensures.cause)))

pub returns-clause-ok : goal.returns-clause-ok
returns-clause-ok c =
    let file = c.args.file.now in
    let it = c.is_replayed_log.ensures.0 c.if-not-is_replayed_log.false in
    let log : IsFileName (string_bytes file.name) file.number Log = subst (IsFileName (string_bytes file.name) file.number) it.0 c.requires in
    adds_log c.args.log c.args.previous (string_bytes file.name) file.number c.args.logs.now c.insert.new.self log it.1 (rw c.as_str.ensures.value at c.in_ok-check_log_name.ensures.ok)
    log.1.fits c.in_ok-insert.ensures.updates c.insert.ensures.ordered
