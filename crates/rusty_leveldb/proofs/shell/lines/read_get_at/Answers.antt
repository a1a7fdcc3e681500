use Rattle.std.proofs.Common.{ℕ, List, Option, subst}
use Rattle.std.specs.Prelude.{Contains, Vec}
use Rattle.std.specs.declared.alloc.Global.{Global}
use Rattle.rusty_leveldb.specs.Programs.Readings.{IsNumberReading, IsWordReading}
use Rattle.rusty_leveldb.proofs.Programs.Lines.{no_get_at_parts, no_get_at_number, no_get_at_key, get_at_text}
use Rattle.rusty_leveldb.proofs.shell.lines.read_get_at.Goals as goal

pub returns-in_default : goal.returns-in_default
returns-in_default c =
    let whole = rw c.in_default.is at c.split_once.ensures.parts in
    let P : List ℕ → Type 0 = λ xs. Contains xs 32 → ⊥ in
    no_get_at_parts c.args.words.now (subst P whole c.split_once.ensures.before)

pub returns-in_default-read_number : goal.returns-in_default-read_number
returns-in_default-read_number c =
    let parted = rw c.in-Some.is at c.split_once.ensures.parts in
    let P : Option ℕ → Type 0 = λ o. IsNumberReading c.split_once.result.0.now o in
    no_get_at_number c.args.words.now c.split_once.result.0.now c.in-Some.word.now c.split_once.ensures.before parted (subst P c.in_default-read_number.is c.read_number.ensures)

pub returns-in_default-2 : goal.returns-in_default-2
returns-in_default-2 c =
    let parted = rw c.in-Some.is at c.split_once.ensures.parts in
    let P : Option (Vec ℕ Global) → Type 0 = λ o. IsWordReading c.in-Some.word.now o in
    no_get_at_key c.args.words.now c.split_once.result.0.now c.in-Some.word.now c.split_once.ensures.before parted (subst P c.in_default-2.is c.in_ok-key.ensures)

pub returns : goal.returns
returns c =
    let parted = rw c.in-Some.is at c.split_once.ensures.parts in
    let N : Option ℕ → Type 0 = λ o. IsNumberReading c.split_once.result.0.now o in
    let number = subst N c.in-Some-read_number.is c.read_number.ensures in
    let P : Option (Vec ℕ Global) → Type 0 = λ o. IsWordReading c.in-Some.word.now o in
    let key = subst P c.in-Some-2.is c.in_ok-key.ensures in
    (key.0, (c.split_once.result.0.now, number, get_at_text c.args.words.now c.split_once.result.0.now c.in-Some.word.now c.in-Some-2.key.items parted key.1))
