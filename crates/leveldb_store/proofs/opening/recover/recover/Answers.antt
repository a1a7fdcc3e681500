use Rattle.std.proofs.lemmas.Result.{err_from_is_err_and}
use Rattle.leveldb_store.proofs.Openings.OpeningRecoverLemmas.{all_done, find_refused, set_refused, sync_refused}
use Rattle.leveldb_store.proofs.opening.recover.recover.Goals as goal

pub returns-in_err-listed : goal.returns-in_err-listed
returns-in_err-listed g c =
    let failed = err_from_is_err_and c.from_residual.result c.from_residual.ensures.1 in
    rw (failed.1, failed.2) (find_refused g.E.Env _ c.args.store.now c.args.options.now.create_if_missing c.args.options.now.error_if_exists c.args.env.now c.find_store.new.env _
    c.in_err-listed.ensures.finds)

pub returns-in_err-set : goal.returns-in_err-set
returns-in_err-set g c =
    let failed = err_from_is_err_and c.from_residual-in_err-set.result c.from_residual-in_err-set.ensures.1 in
    rw (failed.1, failed.2) (set_refused g.E.Env _ c.args.store.now c.args.options.now.create_if_missing c.args.options.now.error_if_exists c.args.env.now c.in_ok-listed.listed
    c.find_store.new.env c.in_ok-listed.ensures.finds c.args.options.now.reuse_manifest c.args.options.now.max_file_size c.recover_set.new.env _ c.in_err-set.ensures)

pub returns-in_err-sync_logs : goal.returns-in_err-sync_logs
returns-in_err-sync_logs g c =
    let failed = err_from_is_err_and c.from_residual-in_err-sync_logs.result c.from_residual-in_err-sync_logs.ensures.1 in
    rw (failed.1, failed.2) (sync_refused g.E.Env _ c.args.store.now c.args.options.now.create_if_missing c.args.options.now.error_if_exists c.args.env.now c.in_ok-listed.listed
    c.find_store.new.env c.in_ok-listed.ensures.finds c.args.options.now.reuse_manifest c.args.options.now.max_file_size c.in_ok-set.set c.recover_set.new.env c.in_ok-set.ensures
    c.sync_logs.new.env c.sync_logs.ensures.run c.sync_logs.ensures.locks _ c.in_err-sync_logs.ensures.cause)

pub returns : goal.returns
returns g c =
    all_done g.E.Env _ c.args.store.now c.args.options.now.create_if_missing c.args.options.now.error_if_exists c.args.env.now c.in_ok-listed.listed
    c.find_store.new.env c.in_ok-listed.ensures.finds c.args.options.now.reuse_manifest c.args.options.now.max_file_size c.in_ok-set.set c.recover_set.new.env c.in_ok-set.ensures
    c.sync_logs.new.env c.sync_logs.ensures.run c.sync_logs.ensures.locks c.in_ok-sync_logs.ensures.ok c.in_ok-sync_logs.field-0 c.in_ok-sync_logs.ensures.cause

pub recover_set-requires : goal.recover_set-requires
recover_set-requires g c = c.in_ok-listed.ensures.listed
