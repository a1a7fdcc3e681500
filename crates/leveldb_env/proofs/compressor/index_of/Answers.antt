use Rattle.std.proofs.Common.{rules}
use Rattle.leveldb_env.proofs.CompressorLemmas.{one_farther, first_here}
use Rattle.leveldb_env.proofs.compressor.index_of.Goals as goal

pub returns-then-compressor-id-clause-some : goal.returns-then-compressor-id-clause-some
returns-then-compressor-id-clause-some g c =
    (search rules, first_here (λ listed. listed.id) c.args.id c.args.listed.now c.loop-at.at c.index-listed-at.result (search rules) (search rules) (search rules) c.loop-at.invariant)

pub loop-at-preserved : goal.loop-at-preserved
loop-at-preserved g c =
    one_farther (λ listed. listed.id) c.args.id c.args.listed.now c.loop-at.at c.index-listed-at.result (search rules) (search rules) (search rules) c.loop-at.invariant
