use Rattle.std.proofs.Common.{length}
use Rattle.leveldb_version.specs.Edits.VersionEdit.{edit_of, HasNoSeeks}
use Rattle.leveldb_version.proofs.Edits.VersionEditLemmas.{HasRead}
use Rattle.leveldb_version.proofs.version_edit.VersionEdit.decode_from.Given as goal

abbrev pub invariant-loop-rest : goal.invariant-loop-rest
invariant-loop-rest l = record { read : HasRead l.src l.rest (edit_of l.edit); seeks : HasNoSeeks l.edit }

abbrev pub decreases-loop-rest : goal.decreases-loop-rest
decreases-loop-rest l = length l.rest
