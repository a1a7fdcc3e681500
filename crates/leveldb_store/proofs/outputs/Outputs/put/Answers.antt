use Rattle.std.specs.Prelude.{is_some}
use Rattle.std.proofs.Common.{◌∙◌, inl, inr, ap, refl, sym}
use Rattle.std.proofs.lemmas.Bool.{false≢true}
use Rattle.std.proofs.lemmas.Result.{err_from_is_err_and}
use Rattle.leveldb_store.proofs.Compactions.MergeLoopLemmas.{may_rise}
use Rattle.leveldb_store.proofs.Tables.OutputsLemmas.{added_is_put, begun_is_put, none_of, unfinished_not_put, unfit_not_put}
use Rattle.leveldb_store.proofs.outputs.Outputs.put.Goals.{else-not-due-via-else-not-due, else-not-due-via-then-not-due+else-is_some}
use Rattle.leveldb_store.proofs.outputs.Outputs.put.Goals as goal

-- the key is unfit
pub returns-then-key-lt-TAG_LEN : goal.returns-then-key-lt-TAG_LEN
returns-then-key-lt-TAG_LEN g c = record {
  puts = λ first tables pairs have. unfit_not_put _ g.E.Env c.args.store.now have c.args.options.now.max_file_size (c.args.key.now, c.args.value.now) c.err.result c.err.ensures.code (inl c.if-key-lt-TAG_LEN.true);
  numbers = inl refl;
  version = refl;
}

pub returns-then-not-follows : goal.returns-then-not-follows
returns-then-not-follows g c = record {
  puts = λ first tables pairs have. unfit_not_put _ g.E.Env c.args.store.now have c.args.options.now.max_file_size (c.args.key.now, c.args.value.now) c.err-then-not-follows.result c.err-then-not-follows.ensures.code
      (inr (λ follows. false≢true (c.if-not-follows.ensures.1 follows)));
  numbers = inl refl;
  version = refl;
}

-- it is put into the open table
pub returns-then-is_some : goal.returns-then-is_some
returns-then-is_some g c = record {
  puts = λ first tables pairs have.
      let some = ap (λ v. is_some v.unfinished) (sym c.self.view_is) ∙ sym c.if-is_some.ensures in
      added_is_put _ g.E.Env c.args.store.now have c.args.options.now.max_file_size (c.args.key.now, c.args.value.now) c.add.result (sym c.if-not-due.ensures) some c.add.ensures.ends
      (c.add.ensures.adds c.args.store.now first c.args.versions.now.set.next_file tables pairs some have);
  numbers = inl refl;
  version = refl;
}

-- that isn't finished
pub returns-in_err-close : goal.returns-in_err-close
returns-in_err-close g c =
    let failed = err_from_is_err_and c.from_residual.result c.from_residual.ensures.1 in
    record {
      puts = λ first tables pairs have.
          rw failed.1 (rw failed.2 (unfinished_not_put _ g.E.Env c.args.store.now have c.args.options.now.max_file_size (c.args.key.now, c.args.value.now)
          (c.in_err-close.ensures.finishes c.args.store.now first c.args.versions.now.set.next_file tables pairs have)));
      numbers = inl refl;
      version = refl;
    }

-- it begins a table
pub returns : goal.returns
returns g c = record {
  puts = λ first tables pairs have.
      let begins = c.begin.ensures.begins in
      begun_is_put _ g.E.Env c.args.store.now have c.args.options.now.max_file_size (c.args.key.now, c.args.value.now) c.close.new.self.done c.begin.result
      (elim c.else-not-due.branch [
        | else-not-due-via-then-not-due+else-is_some w ↦ inr (sym (ap (λ v. v.unfinished) c.self.view_is) ∙ none_of c.self.inside.unfinished w.if-is_some.ensures)
        | else-not-due-via-else-not-due w ↦ inl (sym w.if-not-due.ensures)
      ])
      (c.in_ok-close.ensures.finishes c.args.store.now first c.args.versions.now.set.next_file tables pairs have)
      (λ ready are cut. begins.ok first ready are cut) (may_rise c.begin.ensures.numbers) begins.changes begins.parts begins.cause begins.ends;
  numbers = c.begin.ensures.numbers;
  version = c.begin.ensures.version;
}
