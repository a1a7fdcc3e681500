use Rattle.std.proofs.Common.{rules, arith, ◌≡◌, ◌<◌, length}
use Rattle.rusty_leveldb.proofs.Programs.Inputs.{whole_input}
use Rattle.rusty_leveldb.proofs.shell.program.read_input.Goals as goal

pub returns-clause-ok : goal.returns-clause-ok
returns-clause-ok g c =
    let counted : c.len.result ≡ length c.read_to_end.new.buf.items = search rules in
    let short : length c.read_to_end.new.buf.items < c.take.result.limit = omega (arith, counted, c.take.ensures.limit, c.if-len-gt-MOST_INPUT.false) in
    whole_input (g.I.Read.remaining c.args.input.now) c.take.result.limit c.read_to_end.new.buf.items c.new-text.result.items c.new-text.ensures.items
    (rw c.take.ensures.inner at c.in_ok-read_to_end.ensures.bytes) short

pub returns-clause-most : goal.returns-clause-most
returns-clause-most g c =
    let counted : c.len.result ≡ length c.read_to_end.new.buf.items = search rules in
    omega (arith, counted, c.if-len-gt-MOST_INPUT.false)
