use Rattle.std.proofs.Common.{ℕ, Option, subst, codes}
use Rattle.std.specs.Prelude.{Vec}
use Rattle.std.specs.declared.alloc.Global.{Global}
use Rattle.rusty_leveldb.specs.Programs.Readings.{IsPairReading}
use Rattle.rusty_leveldb.proofs.Programs.Lines.{no_put_item, pair_text}
use Rattle.rusty_leveldb.proofs.shell.lines.read_put_item.Goals as goal

pub returns-in_default : goal.returns-in_default
returns-in_default c =
    let P : Option (Vec ℕ Global × Vec ℕ Global) → Type 0 = λ o. IsPairReading 61 c.args.words.now o in
    no_put_item c.args.words.now (subst P c.in_default.is c.in_ok-pair.ensures)

pub returns : goal.returns
returns c =
    let P : Option (Vec ℕ Global × Vec ℕ Global) → Type 0 = λ o. IsPairReading 61 c.args.words.now o in
    let is = subst P c.in-Some.is c.in_ok-pair.ensures in
    ((is.0, is.1), pair_text (codes "+") c.args.words.now c.in-Some.pair.0.items c.in-Some.pair.1.items 61 is.2)
