use Rattle.std.proofs.Common.{take}
use Rattle.leveldb_repair.proofs.ManifestNumbersLemmas.{AreEditsTo, texts}
use Rattle.leveldb_repair.proofs.numbers.raised_to_records.Given as goal

-- the first records are edits, to whose numbers the number is raised
abbrev pub invariant-loop-record : goal.invariant-loop-record
invariant-loop-record l = AreEditsTo (texts (take l.record-index l.records)) l.fn.least l.greatest
