use Rattle.leveldb_base.proofs.ViewLemmas.{sorted_has_view}
use Rattle.leveldb_base.proofs.laws.entries.sorted_entries_have_view.Goals as goal

pub returns : goal.returns
returns c = sorted_has_view
