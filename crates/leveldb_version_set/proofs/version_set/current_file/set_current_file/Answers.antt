use Rattle.std.proofs.Common.{◌∙◌, inl, refl}
use Rattle.leveldb_version.proofs.ExitLemmas.{cause_passed, excused, nothing_done}
use Rattle.leveldb_version_set.proofs.version_set.current_file.set_current_file.Goals as goal

pub returns-in_err-temp : goal.returns-in_err-temp
returns-in_err-temp g c =
    let exit = c.from_residual in
    record {
      does = λ modelled. nothing_done exit.ensures.0 (record { either = inl refl; others = λ other apart apart_too. refl });
      bytes = λ modelled old. old;
      locks = λ modelled. refl;
      cause = excused exit.result exit.ensures.0 (cause_passed _ exit.result _ exit.ensures.1 (inl c.in_err-temp.ensures.cause));
    }

pub returns-in_err-current : goal.returns-in_err-current
returns-in_err-current g c =
    let exit = c.from_residual-in_err-current in
    record {
      does = λ modelled. nothing_done exit.ensures.0 (record { either = inl refl; others = λ other apart apart_too. refl });
      bytes = λ modelled old. old;
      locks = λ modelled. refl;
      cause = excused exit.result exit.ensures.0 (cause_passed _ exit.result _ exit.ensures.1 (inl c.in_err-current.ensures.cause));
    }

pub returns-in_err-text : goal.returns-in_err-text
returns-in_err-text g c =
    let exit = c.from_residual-in_err-text in
    record {
      does = λ modelled. nothing_done exit.ensures.0 (record { either = inl refl; others = λ other apart apart_too. refl });
      bytes = λ modelled old. old;
      locks = λ modelled. refl;
      cause = excused exit.result exit.ensures.0 (cause_passed _ exit.result _ exit.ensures.1 (inl c.in_err-text.ensures.cause));
    }

pub returns : goal.returns
returns g c =
    let temp = c.deref.ensures ∙ c.in_ok-temp.ensures.ok in
    let current = c.deref-2.ensures ∙ c.in_ok-current.ensures.ok in
    let text = c.as_bytes.ensures.value ∙ c.in_ok-text.ensures.ok in
    record {
      does = rw (temp, current, text) at c.replace_file.ensures.does;
      bytes = c.replace_file.ensures.bytes;
      locks = c.replace_file.ensures.locks;
      cause = rw temp at c.replace_file.ensures.cause;
    }
