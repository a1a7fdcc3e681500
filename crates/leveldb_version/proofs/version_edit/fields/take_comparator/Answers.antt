use Rattle.leveldb_version.proofs.Edits.FieldsLemmas.{no_name}
use Rattle.leveldb_version.proofs.version_edit.fields.take_comparator.Goals as goal

pub returns-in_default : goal.returns-in_default
returns-in_default c = no_name _ _ c.in_ok-name.ensures c.in_default.ensures.cases.0
