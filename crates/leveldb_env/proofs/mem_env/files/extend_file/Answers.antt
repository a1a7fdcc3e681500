use Rattle.std.proofs.lemmas.Result.{err_from_is_err_and}
use Rattle.leveldb_env.specs.Env.{longer_file}
use Rattle.leveldb_env.proofs.MemEnvLemmas.{files_written, files_unwritten}
use Rattle.leveldb_env.proofs.mem_env.files.extend_file.Goals as goal

pub returns-clause-ok : goal.returns-clause-ok
returns-clause-ok c =
    let w = c.append.new.self in
    files_written c.args.name.now c.args.files.now (c.get_mut.follows.lender w) c.in-Some.file.now w (longer_file c.args.bytes.now) c.in-Some.ensures.value (c.get_mut.follows.holds w).3 c.in_ok-append.ensures.ok

pub returns-in_err-append-clause-err : goal.returns-in_err-append-clause-err
returns-in_err-append-clause-err c =
    let w = c.append.new.self in
    let p = err_from_is_err_and c.from_residual.result c.from_residual.ensures.1 in
    rw p.1 (files_unwritten c.args.name.now c.args.files.now (c.get_mut.follows.lender w) c.in-Some.file.now w c.in-Some.ensures.value (c.get_mut.follows.holds w).3 c.in_err-append.ensures.err)
