use Rattle.leveldb_base.proofs.BackwardLemmas.{each_scan_steps_back, each_previous_is_last}
use Rattle.leveldb_base.proofs.laws.entries.scans_back_show_view.Goals as goal

pub returns-clause-steps : goal.returns-clause-steps
returns-clause-steps c = each_scan_steps_back

pub returns-clause-previous : goal.returns-clause-previous
returns-clause-previous c = each_previous_is_last
