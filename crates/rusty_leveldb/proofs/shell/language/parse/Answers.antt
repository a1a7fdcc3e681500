use Rattle.std.proofs.Common.{rules, ◌≡◌, ◌<◌, ◌+◌, ◌∷◌, ◌++◌, [], List, Option, length, sym, subst}
use Rattle.std.specs.Prelude.{All}
use Rattle.std.proofs.lemmas.List.Elements.{All-nil, All-cons, All-append}
use Rattle.rusty_leveldb.specs.declared.shell.commands.Command.{Command}
use Rattle.rusty_leveldb.specs.Programs.Language.{HasBytes}
use Rattle.rusty_leveldb.specs.Programs.Readings.{IsLineReading}
use Rattle.rusty_leveldb.proofs.Programs.Lines.{IsRead, read_more, bad_line}
use Rattle.rusty_leveldb.proofs.shell.language.parse.Goals as goal

pub returns-in_default : goal.returns-in_default
returns-in_default c =
    let some : 0 < length c.loop-rest.rest.now = search rules in
    let counted : c.len.result + 1 ≡ length c.loop-rest.commands.items + 1 = search rules in
    let P : Option Command → Type 0 = λ o. IsLineReading c.next_line.result.0.now o in
    bad_line c.args.text.now c.loop-rest.rest.now c.next_line.result.0.now c.next_line.result.1.now c.loop-rest.commands.items (c.len.result + 1) c.loop-rest.invariant.bytes c.loop-rest.invariant.is_read some
    c.next_line.ensures.parts c.next_line.ensures.one_line (subst P c.in_default.is c.in_ok-command.ensures) counted

pub loop-rest-preserved : goal.loop-rest-preserved
loop-rest-preserved c =
    let so_far = c.loop-rest.invariant in
    let some : 0 < length c.loop-rest.rest.now = search rules in
    let command = c.in-Some.command in
    let P : Option Command → Type 0 = λ o. IsLineReading c.next_line.result.0.now o in
    let has = subst P c.in-Some.is c.in_ok-command.ensures in
    let pushed : c.push.new.self.items ≡ c.loop-rest.commands.items ++ command ∷ [] = search rules in
    let A : List Command → Type 0 = λ commands. All HasBytes commands in
    let B : List Command → Type 0 = λ commands. IsRead c.args.text.now commands c.next_line.result.1.now in
    record {
      bytes = subst A (sym pushed) (All-append HasBytes c.loop-rest.commands.items (command ∷ []) so_far.bytes (All-cons HasBytes command [] has.0 (All-nil HasBytes)));
      is_read = subst B (sym pushed) (read_more c.args.text.now c.loop-rest.rest.now c.next_line.result.0.now c.next_line.result.1.now c.loop-rest.commands.items command so_far.is_read some c.next_line.ensures.parts has.1);
    }
