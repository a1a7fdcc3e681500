use Rattle.std.proofs.Common.{◌∙◌, ap, arith, sym, fold}
use Rattle.std.proofs.lemmas.List.{take_all}
use Rattle.leveldb_base.specs.Crc.{crc_register}
use Rattle.leveldb_base.proofs.crc.register.after_few.Goals as goal

pub returns : goal.returns
returns c =
    let others = c.in-Some.others.now
    in let all = take_all c.loop-block.block-index others (omega arith)
    in c.joined.ensures ∙ c.loop-block.invariant ∙ ap (fold crc_register _) all
    ∙ ap (λ register. fold crc_register register others) c.of-lanes.ensures ∙ ap (fold crc_register c.args.register) (sym c.in-Some.ensures.cases.0)
