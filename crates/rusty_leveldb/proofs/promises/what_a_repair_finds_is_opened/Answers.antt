use Rattle.rusty_leveldb.proofs.Repairs.RepairLawsLemmas.{opens_what_repair_found, repair_finds_what_opens}
use Rattle.rusty_leveldb.proofs.promises.what_a_repair_finds_is_opened.Goals as goal

pub returns-clause-opens : goal.returns-clause-opens
returns-clause-opens g c = opens_what_repair_found g.E.Env _ _

pub returns-clause-whole : goal.returns-clause-whole
returns-clause-whole g c = repair_finds_what_opens g.E.Env _ _
