use Rattle.leveldb_version_set.proofs.Compactions.ContradictionLemmas.{agree_or_contradict, agreed_files_lie_within, cut_files_are_apart, tables_agree_with_edits}
use Rattle.leveldb_version_set.proofs.laws.compactions.inputs_agree_with_their_edits.Goals as goal

pub returns-clause-one : goal.returns-clause-one
returns-clause-one c = agree_or_contradict

pub returns-clause-tables : goal.returns-clause-tables
returns-clause-tables c = tables_agree_with_edits

pub returns-clause-within : goal.returns-clause-within
returns-clause-within c = agreed_files_lie_within

pub returns-clause-apart : goal.returns-clause-apart
returns-clause-apart c = cut_files_are_apart
