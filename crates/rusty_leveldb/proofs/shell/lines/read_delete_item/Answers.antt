use Rattle.std.proofs.Common.{ℕ, Option, subst}
use Rattle.std.specs.Prelude.{Vec}
use Rattle.std.specs.declared.alloc.Global.{Global}
use Rattle.rusty_leveldb.specs.Programs.Readings.{IsWordReading}
use Rattle.rusty_leveldb.proofs.Programs.Lines.{no_delete_item}
use Rattle.rusty_leveldb.proofs.shell.lines.read_delete_item.Goals as goal

pub returns-in_default : goal.returns-in_default
returns-in_default c =
    let P : Option (Vec ℕ Global) → Type 0 = λ o. IsWordReading c.args.word.now o in
    no_delete_item c.args.word.now (subst P c.in_default.is c.in_ok-key.ensures)
