use Rattle.std.proofs.Common.{ℕ, List, Option, subst}
use Rattle.std.specs.Prelude.{Contains, Vec}
use Rattle.std.specs.declared.alloc.Global.{Global}
use Rattle.rusty_leveldb.specs.Programs.Readings.{IsWordReading}
use Rattle.rusty_leveldb.proofs.Programs.Lines.{not_parted, pair_parts}
use Rattle.rusty_leveldb.proofs.shell.lines.read_pair.Goals as goal

pub returns-in_default : goal.returns-in_default
returns-in_default c =
    let whole = rw c.in_default.is at c.split_once.ensures.parts in
    let P : List ℕ → Type 0 = λ xs. Contains xs c.args.separator → ⊥ in
    not_parted c.args.separator c.args.words.now (subst P whole c.split_once.ensures.before)

pub returns-in_default-2 : goal.returns-in_default-2
returns-in_default-2 c left right is =
    let parted = rw c.in-Some.is at c.split_once.ensures.parts in
    let parts = pair_parts c.args.separator c.args.words.now c.split_once.result.0.now c.in-Some.right.now left right c.requires.no_dot c.requires.no_digit c.split_once.ensures.before parted is in
    let P : Option (Vec ℕ Global) → Type 0 = λ o. IsWordReading c.split_once.result.0.now o in
    subst P c.in_default-2.is c.in_ok-left.ensures left (is.0, parts.0)

pub returns-in_default-3 : goal.returns-in_default-3
returns-in_default-3 c left right is =
    let parted = rw c.in-Some.is at c.split_once.ensures.parts in
    let parts = pair_parts c.args.separator c.args.words.now c.split_once.result.0.now c.in-Some.right.now left right c.requires.no_dot c.requires.no_digit c.split_once.ensures.before parted is in
    let P : Option (Vec ℕ Global) → Type 0 = λ o. IsWordReading c.in-Some.right.now o in
    subst P c.in_default-3.is c.in_ok-right.ensures right (is.1, parts.1)
