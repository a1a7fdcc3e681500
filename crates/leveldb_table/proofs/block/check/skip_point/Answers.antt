use Rattle.std.proofs.Common.{sym, ap, ◌∙◌}
use Rattle.std.proofs.lemmas.List.{take_rest}
use Rattle.leveldb_table.specs.BlockCheck.{points_after}
use Rattle.leveldb_env.specs.FilterBlock.{numbers_in}
use Rattle.leveldb_table.proofs.BlockCheckLemmas.{numbers_after}
use Rattle.leveldb_table.proofs.block.check.skip_point.Goals as goal

pub returns-then-restart : goal.returns-then-restart
returns-then-restart c =
    ap numbers_in (take_rest c.args.points.now 4) ∙ numbers_after c.args.points.now (c.requires c.if-restart.true)
    ∙ ap (λ z. points_after z (numbers_in c.args.points.now)) (sym c.if-restart.true)
