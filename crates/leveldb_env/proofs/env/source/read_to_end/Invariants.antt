use Rattle.std.proofs.Common.{◌≡◌, ◌-◌, ◌^◌, length, vec_len}
use Rattle.leveldb_env.specs.Source.{GivesSome}
use Rattle.leveldb_env.proofs.env.source.read_to_end.Given as goal

abbrev pub invariant-loop-all : goal.invariant-loop-all
invariant-loop-all g l = (length l.target ≡ 4096) × GivesSome g.S.Source.gives l.initial.source l.all.items l.source

abbrev pub decreases-loop-all : goal.decreases-loop-all
decreases-loop-all g l = 2 ^ 64 - vec_len l.all
