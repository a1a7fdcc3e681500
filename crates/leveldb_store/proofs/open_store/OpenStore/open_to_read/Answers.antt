use Rattle.std.proofs.Common.{◌∙◌, ℕ, ap, arith, inl, refl, sym}
use Rattle.std.specs.Prelude.{max}
use Rattle.std.proofs.lemmas.Result.{err_from_is_err_and}
use Rattle.leveldb_mem.specs.Log.LogFile.{LogFileState}
use Rattle.leveldb_files.specs.Stores.Paths.{log_path}
use Rattle.leveldb_store.proofs.Openings.ReadAloneLemmas.{cause_to_read, given_then, levels_then, made_then, memory_to_read, opened_to_read, own_then, path_then, read_up_to, refused_to_read, why_no_logs, why_no_set}
use Rattle.leveldb_store.proofs.Openings.RecoverSetLemmas.{still_thrice, still_twice}
use Rattle.leveldb_store.proofs.open_store.OpenStore.open_to_read.Goals as goal

pub returns-in_err-check_current : goal.returns-in_err-check_current
returns-in_err-check_current g c =
    let failed = err_from_is_err_and c.from_residual-in_err-check_current.result c.from_residual-in_err-check_current.ensures.1 in
    rw (failed.1, failed.2) (record {
      opens = refused_to_read g.E.Env _ c.args.name.now c.args.env.now c.check_current.new.env _ c.check_current.ensures.still c.check_current.ensures.locks;
      cause = cause_to_read g.E.Env _ c.args.name.now c.args.env.now (g.E.Env.failures c.args.env.now) c.check_current.new.env _ refl (λ why. inl why) c.in_err-check_current.ensures.cause;
      cmp = tt;
    })

pub returns-in_err-files : goal.returns-in_err-files
returns-in_err-files g c =
    let failed = err_from_is_err_and c.from_residual-in_err-files.result c.from_residual-in_err-files.ensures.1 in
    rw (failed.1, failed.2) (record {
      opens = refused_to_read g.E.Env _ c.args.name.now c.args.env.now c.read_set.new.env _ (still_twice g.E.Env _ _ _ c.check_current.ensures.still c.read_set.ensures.still)
          (λ modelled. c.read_set.ensures.locks modelled ∙ c.check_current.ensures.locks modelled);
      cause = cause_to_read g.E.Env _ c.args.name.now c.args.env.now (g.E.Env.failures c.check_current.new.env) c.read_set.new.env _ c.in_ok-check_current.ensures.cause.ok
          (why_no_set g.E.Env _ c.args.name.now c.args.env.now c.check_current.new.env c.check_current.ensures.still c.check_current.ensures.locks c.in_ok-check_current.ensures.there _)
          c.in_err-files.ensures.cause;
      cmp = tt;
    })

pub returns-in_err-logs : goal.returns-in_err-logs
returns-in_err-logs g c =
    let failed = err_from_is_err_and c.from_residual-in_err-logs.result c.from_residual-in_err-logs.ensures.1 in
    rw (failed.1, failed.2) (record {
      opens = refused_to_read g.E.Env _ c.args.name.now c.args.env.now c.read_logs.new.env _ (still_thrice g.E.Env _ _ _ _ c.check_current.ensures.still c.read_set.ensures.still c.read_logs.ensures.still)
          (λ modelled. c.read_logs.ensures.locks modelled ∙ c.read_set.ensures.locks modelled ∙ c.check_current.ensures.locks modelled);
      cause = cause_to_read g.E.Env _ c.args.name.now c.args.env.now (g.E.Env.failures c.read_set.new.env) c.read_logs.new.env _ (c.in_ok-files.ensures.cause.ok ∙ c.in_ok-check_current.ensures.cause.ok)
          (why_no_logs g.E.Env _ c.args.name.now c.args.env.now c.check_current.new.env c.check_current.ensures.still c.check_current.ensures.locks c.in_ok-check_current.ensures.there
          c.in_ok-files.files c.in_ok-files.numbers.keys c.read_set.new.env c.in_ok-files.ensures.ok c.read_set.ensures.still _)
          c.in_err-logs.ensures.cause;
      cmp = tt;
    })

pub returns-in_err-log : goal.returns-in_err-log
returns-in_err-log g c =
    let failed = err_from_is_err_and c.from_residual-in_err-log.result c.from_residual-in_err-log.ensures.1 in
    rw (failed.1, failed.2) (record {
      opens = refused_to_read g.E.Env _ c.args.name.now c.args.env.now c.read_logs.new.env _ (still_thrice g.E.Env _ _ _ _ c.check_current.ensures.still c.read_set.ensures.still c.read_logs.ensures.still)
          (λ modelled. c.read_logs.ensures.locks modelled ∙ c.read_set.ensures.locks modelled ∙ c.check_current.ensures.locks modelled);
      cause = memory_to_read g.E.Env _ c.args.name.now c.args.env.now c.read_logs.new.env _ (c.in_ok-logs.ensures.cause.ok ∙ c.in_ok-files.ensures.cause.ok ∙ c.in_ok-check_current.ensures.cause.ok)
          c.in_err-log.ensures.memory;
      cmp = tt;
    })

pub returns-in_err-versions : goal.returns-in_err-versions
returns-in_err-versions g c =
    let failed = err_from_is_err_and c.from_residual-in_err-versions.result c.from_residual-in_err-versions.ensures.1 in
    rw (failed.1, failed.2) (record {
      opens = refused_to_read g.E.Env _ c.args.name.now c.args.env.now c.read_logs.new.env _ (still_thrice g.E.Env _ _ _ _ c.check_current.ensures.still c.read_set.ensures.still c.read_logs.ensures.still)
          (λ modelled. c.read_logs.ensures.locks modelled ∙ c.read_set.ensures.locks modelled ∙ c.check_current.ensures.locks modelled);
      cause = memory_to_read g.E.Env _ c.args.name.now c.args.env.now c.read_logs.new.env _ (c.in_ok-logs.ensures.cause.ok ∙ c.in_ok-files.ensures.cause.ok ∙ c.in_ok-check_current.ensures.cause.ok)
          c.in_err-versions.ensures.memory;
      cmp = tt;
    })

pub invariant_of-result : goal.invariant_of-result
invariant_of-result g c =
    let set = c.in_ok-files.files in
    let last = c.max.ensures ∙ ap (λ (n : ℕ). max n c.in_ok-logs.logs.last) c.last_seq.ensures in
    let now = c.in_ok-versions.ensures.set ∙ c.set_last_seq.ensures ∙ ap (λ (n : ℕ). record set { last_sequence = n }) last in
    let named = c.in_ok-path.ensures.ok in
    let read = c.in_ok-files.ensures.ok in (
      path_then g.E.Env _ c.args.name.now c.args.env.now c.check_current.new.env c.check_current.ensures.still c.check_current.ensures.locks c.in_ok-check_current.ensures.there
          set c.in_ok-files.numbers.keys c.read_set.new.env read c.read_set.ensures.still _ _ now ∙ sym named,
      (
        ap (λ (f : LogFileState). f.path) c.in_ok-log.ensures.file ∙ ap (log_path c.args.name.now) (sym c.in_ok-log.ensures.number.0) ∙ ap (λ s. log_path s c.in_ok-log.log.number) (sym named),
        (let number = c.in_ok-log.ensures.number in omega (arith, number)),
      ),
      c.in_ok-logs.ensures.cmp_is,
      tt,
      (λ modelled. own_then g.E.Env _ c.args.name.now c.args.env.now c.check_current.new.env c.check_current.ensures.still c.check_current.ensures.locks c.in_ok-check_current.ensures.there
          set c.in_ok-files.numbers.keys c.read_set.new.env read c.read_set.ensures.still _ _ now),
      made_then g.E.Env _ c.args.name.now c.args.env.now c.check_current.new.env c.check_current.ensures.still c.check_current.ensures.locks c.in_ok-check_current.ensures.there
          set c.in_ok-files.numbers.keys c.read_set.new.env read c.read_set.ensures.still _ _ now,
      read_up_to g.E.Env _ c.args.name.now c.args.env.now c.check_current.new.env c.check_current.ensures.still c.check_current.ensures.locks c.in_ok-check_current.ensures.there
          set c.in_ok-files.numbers.keys c.read_set.new.env read c.read_set.ensures.still c.in_ok-logs.logs c.read_logs.new.env c.in_ok-logs.ensures.ok c.read_logs.ensures.still _ now,
      tt,
      c.in_ok-versions.ensures.cmp,
      given_then g.E.Env _ c.args.name.now c.args.env.now c.check_current.new.env c.check_current.ensures.still c.check_current.ensures.locks c.in_ok-check_current.ensures.there
          set c.in_ok-files.numbers.keys c.read_set.new.env read c.read_set.ensures.still _ _ now,
      levels_then g.E.Env _ c.args.name.now c.args.env.now c.check_current.new.env c.check_current.ensures.still c.check_current.ensures.locks c.in_ok-check_current.ensures.there
          set c.in_ok-files.numbers.keys c.read_set.new.env read c.read_set.ensures.still _ _ now,
    )

pub returns : goal.returns
returns g c =
    let set = c.in_ok-files.files in
    let last = c.max.ensures ∙ ap (λ (n : ℕ). max n c.in_ok-logs.logs.last) c.last_seq.ensures in
    let now = c.in_ok-versions.ensures.set ∙ c.set_last_seq.ensures ∙ ap (λ (n : ℕ). record set { last_sequence = n }) last in
    let counted = c.in_ok-logs.ensures.cause.ok ∙ c.in_ok-files.ensures.cause.ok ∙ c.in_ok-check_current.ensures.cause.ok in
    record {
      opens = opened_to_read g.E.Env _ c.args.name.now c.args.env.now c.check_current.new.env c.check_current.ensures.still c.check_current.ensures.locks c.in_ok-check_current.ensures.there
          set c.in_ok-files.numbers.keys c.read_set.new.env c.in_ok-files.ensures.ok c.read_set.ensures.still c.in_ok-logs.logs c.read_logs.new.env c.in_ok-logs.ensures.ok c.read_logs.ensures.still
          _ now refl refl (ap (λ (f : LogFileState). f.writer.broken) c.in_ok-log.ensures.file)
          (λ modelled. c.read_logs.ensures.locks modelled ∙ c.read_set.ensures.locks modelled ∙ c.check_current.ensures.locks modelled);
      cause = record { later = omega (arith, counted); ok = counted; uncounted = tt; cause = tt };
      cmp = refl;
    }
