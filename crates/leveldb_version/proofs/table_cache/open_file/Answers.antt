use Rattle.std.proofs.Common.{◌≡◌, length}
use Rattle.std.proofs.lemmas.Result.{IfOk-at_ok}
use Rattle.std.specs.Prelude.{IfSome, IsSome, IsTrue}
use Rattle.leveldb_env.proofs.WholeFilesLemmas.{found_ok}
use Rattle.leveldb_env.specs.Env.{bytes_of}
use Rattle.leveldb_table.proofs.TableBlockLemmas.{KeepsDisk-call}
use Rattle.leveldb_version.proofs.Tables.TableCacheLemmas.{open_empty, open_lost, open_lost_then, opens_there}
use Rattle.leveldb_version.proofs.table_cache.open_file.Goals as goal

pub returns-in_err-size : goal.returns-in_err-size
returns-in_err-size g c =
    let exit = c.from_residual in
    open_lost g.E.Env c.args.path.now c.args.env.now (KeepsDisk-call g.E.Env c.size_of.ensures.does c.size_of.ensures.locks)
    c.size_of.result c.in_err-size.field-0.0 exit.result exit.ensures.1 c.in_err-size.ensures c.size_of.ensures.cause

pub returns-then-size-eq0 : goal.returns-then-size-eq0
returns-then-size-eq0 g c =
    open_empty g.E.Env c.args.path.now c.args.env.now (KeepsDisk-call g.E.Env c.size_of.ensures.does c.size_of.ensures.locks)
    c.size_of.result c.in_ok-size.size c.err.result c.in_ok-size.ensures c.if-size-eq0.true c.err.ensures.code c.size_of.ensures.ok c.size_of.ensures.cause

pub returns-in_err-file : goal.returns-in_err-file
returns-in_err-file g c =
    let exit = c.from_residual-in_err-file in
    let was = found_ok c.args.path.now c.size_of.result c.in_ok-size.size c.in_ok-size.ensures in
    open_lost_then g.E.Env c.args.path.now (KeepsDisk-call g.E.Env c.size_of.ensures.does c.size_of.ensures.locks)
    (IfOk-at_ok (λ size. g.E.Env.failures c.size_of.new.self ≡ g.E.Env.failures c.args.env.now) was c.size_of.ensures.cause.ok) exit.result
    (open_lost g.E.Env c.args.path.now c.size_of.new.self (KeepsDisk-call g.E.Env c.open_random_access_file.ensures.does c.open_random_access_file.ensures.locks)
    c.open_random_access_file.result c.in_err-file.field-0.0 exit.result exit.ensures.1 c.in_err-file.ensures c.open_random_access_file.ensures.cause) exit.ensures.0

pub returns : goal.returns
returns g c =
    let size = c.in_ok-size.size in
    let was = found_ok c.args.path.now c.size_of.result size c.in_ok-size.ensures in
    let opened = found_ok c.args.path.now c.open_random_access_file.result c.in_ok-file.file c.in_ok-file.ensures in
    let at = c.args.path.now in
    opens_there g.E.Env at (KeepsDisk-call g.E.Env c.size_of.ensures.does c.size_of.ensures.locks)
    (IfOk-at_ok (λ n. g.E.Env.failures c.size_of.new.self ≡ g.E.Env.failures c.args.env.now) was c.size_of.ensures.cause.ok) size c.in_ok-file.file
    (KeepsDisk-call g.E.Env c.open_random_access_file.ensures.does c.open_random_access_file.ensures.locks)
    (IfOk-at_ok (λ file. g.E.Env.failures c.open_random_access_file.new.self ≡ g.E.Env.failures c.size_of.new.self) opened c.open_random_access_file.ensures.cause.ok)
    (IfOk-at_ok (λ file. IsTrue g.E.Env.models_disk → g.E.Env.name_of file ≡ at) opened c.open_random_access_file.ensures.file)
    (IfOk-at_ok (λ n. IsTrue g.E.Env.models_disk → IfSome ((g.E.Env.observed c.args.env.now).disk.files at) (λ f. n ≡ length (bytes_of f))) was c.size_of.ensures.ok)
    (IfOk-at_ok (λ n. IsTrue g.E.Env.models_disk → IsSome ((g.E.Env.observed c.args.env.now).disk.files at)) was c.size_of.ensures.there)
