-- All was answered, or there was a fault.
use Rattle.std.proofs.Common.{◌∙◌, ap}
use Rattle.rusty_leveldb.specs.Programs.Program.{status_of}
use Rattle.rusty_leveldb.proofs.Programs.Answering.{ends_answered, ends_at_fault}
use Rattle.rusty_leveldb.proofs.shell.program.ldb_main.Goals as goal

pub returns-in-Ok-clause-ends : goal.returns-in-Ok-clause-ends
returns-in-Ok-clause-ends g c =
    ends_answered g.E.Env c.args.log g.I.Read g.O.Write c.args.args.now c.args.env.now c.args.input.now c.args.out.now
    c.serve.new.env c.serve.new.input c.serve.new.out c.in-Ok.ensures.answered

pub returns-in-Ok-clause-checks : goal.returns-in-Ok-clause-checks
returns-in-Ok-clause-checks g c = record {
  usage = λ none. absurd (c.in-Ok.ensures.usage none);
  bad = λ asked bad. absurd (c.in-Ok.ensures.bad asked bad);
  unread = c.in-Ok.ensures.unread;
}

pub returns-in-Err-clause-ends : goal.returns-in-Err-clause-ends
returns-in-Err-clause-ends g c =
    ends_at_fault g.E.Env c.args.log g.I.Read g.O.Write c.args.args.now c.args.env.now c.args.input.now c.args.out.now
    c.serve.new.env c.serve.new.input c.serve.new.out c.in-Err.fault c.tell_fault.result c.tell_fault.ensures
    c.in-Err.ensures.fault.1 c.in-Err.ensures.stopped c.in-Err.ensures.fault.0

pub returns-in-Err-clause-checks : goal.returns-in-Err-clause-checks
returns-in-Err-clause-checks g c = record {
  usage = λ none. c.tell_fault.ensures ∙ ap status_of (c.in-Err.ensures.usage none);
  bad = λ asked bad.
      let is = c.in-Err.ensures.bad asked bad in
      (c.in-Err.fault, is.0, c.tell_fault.ensures, is.1, is.2);
  unread = c.in-Err.ensures.unread;
}
