use Rattle.rusty_leveldb.proofs.shell.program.run_by.Goals as goal

pub returns-in-Whole-clause-calls : goal.returns-in-Whole-clause-calls
returns-in-Whole-clause-calls g c = rw c.in-Whole.is c.run.ensures.calls

pub returns-in-Alone-clause-calls : goal.returns-in-Alone-clause-calls
returns-in-Alone-clause-calls g c = rw c.in-Alone.is tt
