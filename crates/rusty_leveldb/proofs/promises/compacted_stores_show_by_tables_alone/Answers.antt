use Rattle.rusty_leveldb.proofs.Compactions.CompactionLawsLemmas.{views_in_tables}
use Rattle.rusty_leveldb.proofs.promises.compacted_stores_show_by_tables_alone.Goals as goal

pub returns : goal.returns
returns g c = views_in_tables g.row.C.Denot
