use Rattle.leveldb_files.proofs.Edits.VersionSetLemmas.{full_edit_replaces, full_edit_is_full, numbers_set_later}
use Rattle.leveldb_files.proofs.laws.one_edit_replaces_many.Goals as goal

pub returns : goal.returns
returns c = record {
  files = λ edits more edit is. full_edit_replaces edits edit is more;
  numbers = λ edits others more has. numbers_set_later others edits more has;
  made = full_edit_is_full;
}
