use Rattle.std.proofs.Common.{ℕ, List, ◌++◌, Option, subst, ap, ◌∙◌, codes}
use Rattle.std.specs.Prelude.{Vec}
use Rattle.std.specs.declared.alloc.Global.{Global}
use Rattle.rusty_leveldb.specs.declared.shell.commands.Item.{Item}
use Rattle.rusty_leveldb.specs.Programs.Language.{sync_word}
use Rattle.rusty_leveldb.specs.Programs.Readings.{IsItemsReading}
use Rattle.rusty_leveldb.proofs.Programs.Lines.{no_sync, no_items}
use Rattle.rusty_leveldb.proofs.shell.lines.read_write.Goals as goal

pub returns-in_default : goal.returns-in_default
returns-in_default c = no_sync c.args.words.now (rw c.in_default.is at c.read_sync.ensures)

pub returns-in_default-2 : goal.returns-in_default-2
returns-in_default-2 c =
    let found = rw c.in-Some.is at c.read_sync.ensures in
    let P : Option (Vec Item Global) → Type 0 = λ o. IsItemsReading c.in-Some.found.1.now o in
    no_items c.args.words.now c.in-Some.found.1.now c.in-Some.found.0 found (subst P c.in_default-2.is c.in_ok-items.ensures)

pub returns : goal.returns
returns c =
    let found = rw c.in-Some.is at c.read_sync.ensures in
    let P : Option (Vec Item Global) → Type 0 = λ o. IsItemsReading c.in-Some.found.1.now o in
    let items = subst P c.in-Some-2.is c.in_ok-items.ensures in
    (items.0, ap (λ (xs : List ℕ). codes "write " ++ xs) (found ∙ ap (λ (xs : List ℕ). sync_word c.in-Some.found.0 ++ xs) items.1))
