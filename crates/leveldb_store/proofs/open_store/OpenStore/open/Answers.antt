use Rattle.std.proofs.lemmas.Result.{err_from_is_err_and}
use Rattle.leveldb_store.proofs.Openings.OpeningOpenLemmas.{recover_caused, recover_refused, recovered_bytes, recovered_caused, recovered_then}
use Rattle.leveldb_store.proofs.open_store.OpenStore.open.Goals as goal

pub returns-in_err-set : goal.returns-in_err-set
returns-in_err-set g c =
    let failed = err_from_is_err_and c.from_residual.result c.from_residual.ensures.1 in
    rw (failed.1, failed.2) (record {
      cause = recover_caused g.E.Env _ c.args.name.now c.args.options.now.create_if_missing c.args.options.now.error_if_exists c.args.env.now c.args.options.now.write_buffer_size c.recover.new.env _ c.in_err-set.ensures;
      opens = recover_refused g.E.Env _ c.args.name.now c.args.options.now.create_if_missing c.args.options.now.error_if_exists c.args.env.now _ c.recover.new.env _ c.in_err-set.ensures;
      bytes = c.in_err-set.ensures.bytes;
      cmp = tt;
      none_waits = tt;
    })

pub open_to_write-requires : goal.open_to_write-requires
open_to_write-requires g c = c.in_ok-set.ensures.ok.may

pub returns : goal.returns
returns g c = record {
  cause = recovered_caused g.E.Env _ c.args.name.now c.args.options.now.create_if_missing c.args.options.now.error_if_exists c.args.env.now c.args.options.now.write_buffer_size c.in_ok-set.set c.recover.new.env c.in_ok-set.ensures
      c.open_to_write.new.env c.open_to_write.result c.open_to_write.ensures.begins;
  opens = recovered_then g.E.Env _ c.args.name.now c.args.options.now.create_if_missing c.args.options.now.error_if_exists c.args.env.now _ c.in_ok-set.set c.recover.new.env c.in_ok-set.ensures
      c.open_to_write.new.env c.open_to_write.result c.open_to_write.ensures.begins;
  bytes = recovered_bytes g.E.Env _ c.args.name.now c.args.options.now.create_if_missing c.args.options.now.error_if_exists c.args.env.now _ c.in_ok-set.set c.recover.new.env c.in_ok-set.ensures
      c.open_to_write.new.env c.open_to_write.result c.open_to_write.ensures.begins;
  cmp = c.open_to_write.ensures.cmp;
  none_waits = c.open_to_write.ensures.none_waits;
}
