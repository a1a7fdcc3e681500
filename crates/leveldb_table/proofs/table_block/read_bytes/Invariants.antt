use Rattle.std.proofs.Common.{◌≤◌, ◌-◌, length}
use Rattle.leveldb_table.proofs.TableBlockLemmas.{HasRead}
use Rattle.leveldb_table.proofs.table_block.read_bytes.Given as goal

abbrev pub invariant-loop-alloc : goal.invariant-loop-alloc
invariant-loop-alloc g l = record { gathers : HasRead g.E.Env l.initial.env l.file l.offset l.read.items l.env; fits : length l.read.items ≤ l.size }

abbrev pub decreases-loop-alloc : goal.decreases-loop-alloc
decreases-loop-alloc g l = l.size - length l.read.items
