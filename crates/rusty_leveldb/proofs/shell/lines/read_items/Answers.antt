use Rattle.std.proofs.Common.{rules, ◌<◌, length}
use Rattle.rusty_leveldb.proofs.Programs.Lines.{no_space_first}
use Rattle.rusty_leveldb.proofs.shell.lines.read_items.Goals as goal

pub returns-in-None : goal.returns-in-None
returns-in-None c =
    let some : 0 < length c.args.text.now = search rules in
    no_space_first c.args.text.now some c.in-None.ensures
