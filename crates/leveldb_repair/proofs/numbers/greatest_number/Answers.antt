use Rattle.std.proofs.Common.{◌∙◌}
use Rattle.leveldb_repair.proofs.NumbersLemmas.{max_is, IsGreatestNumber-all, IsGreatestOf-more, IsGreatestOf-none}
use Rattle.leveldb_repair.proofs.numbers.greatest_number.Goals as goal

pub loop-file-init : goal.loop-file-init
loop-file-init c = IsGreatestOf-none c.args.files.now

pub loop-file-preserved : goal.loop-file-preserved
loop-file-preserved c =
    IsGreatestOf-more c.args.files.now c.loop-file.file-index c.file-item.result c.loop-file-test.true c.file-item.is c.loop-file.greatest c.loop-file.invariant _ (c.max-greatest.ensures ∙ max_is c.loop-file.greatest c.file-item.result.number)

pub returns : goal.returns
returns c = IsGreatestNumber-all c.args.files.now c.loop-file.file-index c.loop-file.greatest c.loop-file-test.false c.loop-file.invariant
