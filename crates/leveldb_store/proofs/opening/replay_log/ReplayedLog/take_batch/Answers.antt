use Rattle.std.proofs.Common.{Err, Ok, ap, arith, inl, inr, length}
use Rattle.std.proofs.lemmas.Result.{err_from_is_err_and}
use Rattle.leveldb_store.proofs.Logs.ReplayLogLemmas.{TakesNextBatch-added, TakesNextBatch-refused, TakesNextBatch-tables_made, fails_to_add, none_of_length}
use Rattle.leveldb_store.proofs.opening.replay_log.ReplayedLog.take_batch.Goals as goal
use Rattle.leveldb_store.proofs.opening.replay_log.ReplayedLog.take_batch.Goals.{then-len-gt0+then-approx_mem_usage-options+in_ok-make_table, else-len-gt0, else-len-gt0-via-then-len-gt0+else-approx_mem_usage-options, else-len-gt0-via-else-len-gt0}

pub returns-in_err-check_follows : goal.returns-in_err-check_follows
returns-in_err-check_follows g c =
    let failed = err_from_is_err_and c.from_residual.result c.from_residual.ensures.1 in
    let why = c.in_err-check_follows.ensures.cause in
    record {
      takes = rw (failed.1, failed.2) (TakesNextBatch-refused g.E.Env _ c.args.options.now.write_buffer_size c.args.batch.now c.args.self.now c.args.versions.now c.args.env.now _
          (inr (inr why)) _);
    }

pub returns-in_err-add_batch : goal.returns-in_err-add_batch
returns-in_err-add_batch g c =
    let failed = err_from_is_err_and c.from_residual-in_err-add_batch.result c.from_residual-in_err-add_batch.ensures.1 in
    record {
      takes = rw (failed.1, failed.2) (TakesNextBatch-refused g.E.Env _ c.args.options.now.write_buffer_size c.args.batch.now c.args.self.now c.args.versions.now c.args.env.now _
          (fails_to_add g.E.Env _ c.args.options.now.write_buffer_size c.args.batch.now c.args.self.now c.args.versions.now c.args.env.now _ c.in_err-add_batch.ensures.cause) _);
    }

pub returns-in_err-make_table : goal.returns-in_err-make_table
returns-in_err-make_table g c =
    let failed = err_from_is_err_and c.from_residual-in_err-make_table.result c.from_residual-in_err-make_table.ensures.1 in
    record {
      takes = rw (failed.1, failed.2) (TakesNextBatch-tables_made g.E.Env _ c.args.options.now.write_buffer_size c.args.batch.now c.args.self.now c.args.versions.now
          c.in_ok-check_follows.ensures.ok c.add_batch.new.self c.in_ok-add_batch.ensures.ok
          (λ none. let some = c.if-len-gt0.true in absurd (omega (arith, some, c.len.ensures, ap length none)))
          (omega (arith, c.if-approx_mem_usage-options.true, c.approx_mem_usage.ensures)) (Err _) c.in_err-make_table.ensures.makes);
    }

pub returns : goal.returns
returns g c =
    elim c.if-len-gt0.branch [
      | then-len-gt0+then-approx_mem_usage-options+in_ok-make_table w ↦ record {
        takes = rw (w.self-is, w.env-is, w.versions-is) (TakesNextBatch-tables_made g.E.Env _ c.args.options.now.write_buffer_size c.args.batch.now c.args.self.now c.args.versions.now
            c.in_ok-check_follows.ensures.ok c.add_batch.new.self c.in_ok-add_batch.ensures.ok
            (λ none. let some = w.if-len-gt0 in absurd (omega (arith, some, c.len.ensures, ap length none)))
            (omega (arith, w.if-approx_mem_usage-options, w.approx_mem_usage.ensures)) (Ok _) w.in_ok-make_table.ensures.makes);
      }
      | else-len-gt0 w ↦ record {
        takes = rw (w.self-is, w.env-is, w.versions-is) (TakesNextBatch-added g.E.Env _ c.args.options.now.write_buffer_size c.args.batch.now c.args.self.now c.args.versions.now
            c.in_ok-check_follows.ensures.ok c.add_batch.new.self c.in_ok-add_batch.ensures.ok c.args.env.now
            (elim w.else-len-gt0.branch [
              | else-len-gt0-via-then-len-gt0+else-approx_mem_usage-options v ↦ inr (omega (arith, v.if-approx_mem_usage-options, v.approx_mem_usage.ensures))
              | else-len-gt0-via-else-len-gt0 v ↦ inl (none_of_length c.add_batch.new.self.rest.kept.entries (omega (arith, v.if-len-gt0, c.len.ensures)))
            ]));
      }
    ]
