use Rattle.rusty_leveldb.proofs.Openings.ReadAloneLawsLemmas.{reading_keeps_states, reads_what_opens}
use Rattle.rusty_leveldb.proofs.promises.what_is_read_alone_is_what_an_opening_finds.Goals as goal

pub returns-clause-shows : goal.returns-clause-shows
returns-clause-shows g c = reads_what_opens g.E.Env _ _

pub returns-clause-keeps : goal.returns-clause-keeps
returns-clause-keeps g c = reading_keeps_states g.E.Env
