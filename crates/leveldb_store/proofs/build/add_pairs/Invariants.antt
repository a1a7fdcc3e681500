use Rattle.std.proofs.Common.{◌≡◌, ◌-◌, ◌^◌, List}
use Rattle.leveldb_base.specs.Types.{Pair, position_within}
use Rattle.leveldb_env.specs.EnvFile.{opened}
use Rattle.leveldb_env.specs.contracts.compressor.CompressorListCompressors.TheImpl.{ghosts as compressors}
use Rattle.leveldb_iter.specs.Walk.{key_order}
use Rattle.leveldb_table.specs.TableBuilder.{order_of}
use Rattle.leveldb_store.specs.Tables.BuildTable.{StaysOver}
use Rattle.leveldb_store.proofs.Tables.BuildTableLemmas.{AddsSoFar}
use Rattle.leveldb_store.proofs.build.add_pairs.Given as goal

-- the builder has taken the pairs that the walk has passed
abbrev pub invariant-adding : goal.invariant-adding
invariant-adding g l =
    let walk = g.W.Walk in
    let keys = key_order g.C.Cmp (order_of l.fn.table.core) in
    record {
      kept : (l.table.number ≡ l.fn.table.number) × (l.table.smallest ≡ l.fn.table.smallest);
      same : StaysOver walk (l.fn.env, l.fn.tables) l.fn.from (l.env, l.tables) l.from;
      so_far : (pairs : List Pair) → walk.is_at (l.fn.env, l.fn.tables) l.fn.from keys pairs (position_within pairs 0)
          → AddsSoFar walk g.C.Cmp g.FP.FilterPolicy ((compressors g.dyn-1).codings l.compressors) g.E.Env keys pairs l.fn.table.core (opened l.fn.env l.fn.table.file) l.table.core (opened l.env l.table.file) l.tables l.from;
    }

abbrev pub decreases-adding : goal.decreases-adding
decreases-adding g l = 2 ^ 64 - l.table.core.count
