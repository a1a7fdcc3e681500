use Rattle.leveldb_base.proofs.ScanLemmas.{each_scan_starts, each_scan_steps, each_scan_ends, each_scan_seeks, each_seek_of_pairs, each_scan_resumes}
use Rattle.leveldb_base.proofs.laws.entries.scans_show_view.Goals as goal

pub returns-clause-starts : goal.returns-clause-starts
returns-clause-starts c = each_scan_starts

pub returns-clause-steps : goal.returns-clause-steps
returns-clause-steps c = each_scan_steps

pub returns-clause-ends : goal.returns-clause-ends
returns-clause-ends c = each_scan_ends

pub returns-clause-seeks : goal.returns-clause-seeks
returns-clause-seeks c = each_scan_seeks

pub returns-clause-seeks_pairs : goal.returns-clause-seeks_pairs
returns-clause-seeks_pairs c = each_seek_of_pairs

pub returns-clause-resumes : goal.returns-clause-resumes
returns-clause-resumes c = each_scan_resumes
