use Rattle.std.proofs.Common.{◌≡◌, false, true}
use Rattle.leveldb_store.proofs.Logs.LogDamageLemmas.{no_end_before}
use Rattle.leveldb_store.proofs.damage.has_end_from.Goals as goal

pub returns : goal.returns
returns c = (
  λ never. absurd (let wrong : false ≡ true = never in cc),
  λ has. absurd (no_end_before c.args.text.now c.args.from c.loop-at.at c.loop-at-test.false c.loop-at.invariant has),
)
