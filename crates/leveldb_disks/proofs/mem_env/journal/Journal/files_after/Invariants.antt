use Rattle.std.proofs.Common.{◌≡◌, take}
use Rattle.leveldb_disks.specs.Journal.{files_after_calls}
use Rattle.leveldb_env.specs.MemEnv.{files_of}
use Rattle.leveldb_disks.proofs.mem_env.journal.Journal.files_after.Given as goal

abbrev pub invariant-loop-call : goal.invariant-loop-call
invariant-loop-call l = files_of l.files ≡ files_after_calls (files_of l.self.first) (take l.call-index l.self.calls.items) l.n
