use Rattle.std.proofs.Common.{◌∙◌, ap, sym, rules}
use Rattle.leveldb_base.specs.Types.{copied_pair}
use Rattle.leveldb_iter.proofs.MovesLemmas.{led_nowhere, led_to_pair, refuses_copy, refuses_key, refuses_move}
use Rattle.leveldb_iter.proofs.moves.make_move.Goals as goal

pub returns-in-Ok-None : goal.returns-in-Ok-None
returns-in-Ok-None g c = led_nowhere g.W.Walk g.met.W.Walk.laws _ c.apply.result (search rules) (search rules) (search rules) c.apply.ensures

pub returns-in-Ok-Some : goal.returns-in-Ok-Some
returns-in-Ok-Some g c =
    let copied = sym (ap copied_pair c.in-Ok-Some.field-0-is) ∙ c.in-Ok-Some.ensures.ok ∙ c.current.ensures in
    led_to_pair g.W.Walk g.met.W.Walk.laws c.args.one.now c.in_default.ensures.ok (sym copied) c.in_default-apply.ensures

pub returns-in-Err : goal.returns-in-Err
returns-in-Err g c = refuses_key g.W.Walk g.met.W.Walk.laws c.args.one.now (c.args.env.now, c.args.tables.now) c.in-Err.ensures.long c.reset.ensures

pub returns-in-Err-apply : goal.returns-in-Err-apply
returns-in-Err-apply g c = refuses_move g.W.Walk g.met.W.Walk.laws c.args.one.now c.in-Err-apply.ensures

pub returns-in-Err-copy_pair : goal.returns-in-Err-copy_pair
returns-in-Err-copy_pair g c = refuses_copy g.W.Walk g.met.W.Walk.laws c.args.one.now c.in-Err-copy_pair.ensures.cause c.apply.ensures c.reset-in-Err-copy_pair.ensures
