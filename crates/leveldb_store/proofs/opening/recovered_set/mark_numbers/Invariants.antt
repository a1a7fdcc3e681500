use Rattle.std.proofs.Common.{take}
use Rattle.leveldb_store.specs.Openings.Listing.{names_of}
use Rattle.leveldb_store.specs.Openings.OpeningSteps.{MarksNames}
use Rattle.leveldb_store.proofs.opening.recovered_set.mark_numbers.Given as goal

abbrev pub invariant-loop-file : goal.invariant-loop-file
invariant-loop-file g l = MarksNames l.initial.versions (names_of (take l.file-index l.files)) l.versions
