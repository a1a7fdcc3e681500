use Rattle.std.proofs.Common.{take}
use Rattle.leveldb_store.specs.Openings.Listing.{names_of}
use Rattle.leveldb_store.specs.Openings.OpeningSteps.{AreReplayedLogs}
use Rattle.leveldb_store.proofs.opening.logs.find_logs.Given as goal

abbrev pub invariant-loop-file : goal.invariant-loop-file
invariant-loop-file l = AreReplayedLogs (names_of (take l.file-index l.files)) l.log l.previous l.logs.keys
