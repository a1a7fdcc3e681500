use Rattle.std.proofs.Common.{◌-◌, ◌^◌, map, vec_len}
use Rattle.leveldb_mem.specs.Log.{log_block_size}
use Rattle.leveldb_mem.specs.Log.Reader.{ReadSoFar}
use Rattle.leveldb_mem.proofs.log.reader.read_records.Given as goal

abbrev pub invariant-loop-record : goal.invariant-loop-record
invariant-loop-record g l = ReadSoFar g.S.Source.gives l.check_crcs log_block_size l.initial.source (map (λ v. v.items) l.records.items) l.core l.source

abbrev pub decreases-loop-record : goal.decreases-loop-record
decreases-loop-record g l = 2 ^ 64 - vec_len l.records
