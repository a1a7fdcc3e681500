use Rattle.rusty_leveldb.proofs.Machines.LawsLemmas.{history_is_asked, history_is_placed, more_is_asked}
use Rattle.rusty_leveldb.proofs.promises.histories_are_made_of_writes.Goals as goal

pub returns-clause-all : goal.returns-clause-all
returns-clause-all c = history_is_asked

pub returns-clause-placed : goal.returns-clause-placed
returns-clause-placed c = history_is_placed

pub returns-clause-since : goal.returns-clause-since
returns-clause-since c = more_is_asked
