use Rattle.std.proofs.Common.{rules, inl, inr}
use Rattle.rusty_leveldb.proofs.Programs.Playing.{OnErr-always}
use Rattle.rusty_leveldb.specs.Programs.Program.{NamesNoFolder}
use Rattle.rusty_leveldb.specs.declared.shell.program.Task.TheVariants as task
use Rattle.rusty_leveldb.proofs.shell.program.serve.Goals as goal

pub returns-in_ok-play-in-Run-clause-answered : goal.returns-in_ok-play-in-Run-clause-answered
returns-in_ok-play-in-Run-clause-answered g c =
    let named = rw c.in-Run.is at c.in-Some.ensures in
    let all = rw c.deref.ensures.value at c.in_ok-play-in-Run.ensures.played in
    inl (c.in-Run.way, c.in-Some.folder.now, named, c.in_ok-commands-in-Run.commands.items, c.in_ok-commands-in-Run.ensures.ok, all)

pub returns-in_err-play-in-Run-clause-stopped : goal.returns-in_err-play-in-Run-clause-stopped
returns-in_err-play-in-Run-clause-stopped g c =
    let named = rw c.in-Run.is at c.in-Some.ensures in
    let run = rw c.deref.ensures.value at c.in_err-play-in-Run.ensures.run in
    OnErr-always _ (inr (inl (c.in-Run.way, c.in-Some.folder.now, named, c.in_ok-commands-in-Run.commands.items, c.in_ok-commands-in-Run.ensures.ok, run.0, run.1, run.2)))

pub returns-in_default-clause-bad : goal.returns-in_default-clause-bad
returns-in_default-clause-bad g c = λ asked bad.
    let none : NamesNoFolder c.args.args.now = search rules in
    absurd (none (task.Run asked.0) asked.1 asked.2)

pub returns-in_err-play-in-Run-clause-bad : goal.returns-in_err-play-in-Run-clause-bad
returns-in_err-play-in-Run-clause-bad g c = λ asked bad.
    absurd (bad c.in_ok-commands-in-Run.commands.items c.in_ok-commands-in-Run.ensures.ok)
