use Rattle.leveldb_version.proofs.Edits.FieldsLemmas.{no_level}
use Rattle.leveldb_version.proofs.version_edit.fields.take_level.Goals as goal

pub returns-then-level : goal.returns-then-level
returns-then-level c = no_level _ _ c.in_ok-level.ensures.1 c.if-level.true
