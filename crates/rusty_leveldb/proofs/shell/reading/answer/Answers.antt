-- A look-up, and a walk over the store as it is now.
use Rattle.std.proofs.Common.{[]}
use Rattle.rusty_leveldb.specs.Programs.Views.{steps_or}
use Rattle.rusty_leveldb.proofs.Programs.RunAloneLemmas.{answered_get, answered_walk}
use Rattle.rusty_leveldb.proofs.shell.reading.answer.Goals as goal

pub returns-in-Get : goal.returns-in-Get
returns-in-Get g c = answered_get g.E.Env _ c.args.engine.now c.args.env.now c.args.command.now
    c.looked_up.result c.get.new.self c.get.new.env c.in-Get.key c.in-Get.is c.deref.result.now
    c.deref.ensures.value c.get.result (c.looked_up.ensures []) c.get.ensures

pub returns-in-None : goal.returns-in-None
returns-in-None g c = answered_walk g.E.Env _ c.args.engine.now c.args.env.now c.args.command.now
    c.walked.result c.walk_over.new.engine c.walk_over.new.env c.in-Walk.moves c.in-Walk.at
    c.in-Walk.is c.in-None.is c.deref-in-None.result.now c.deref-in-None.ensures.value
    (steps_or c.walk_over.result) (c.walked.ensures []) c.walk_over.ensures.answers
    c.walk_over.ensures.rest c.walk_over.ensures.later
