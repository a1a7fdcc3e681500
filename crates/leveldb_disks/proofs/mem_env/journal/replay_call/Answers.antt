use Rattle.std.proofs.Common.{◌≡◌, ◌∙◌, true, nat_le, sym, ap, arith}
use Rattle.std.proofs.lemmas.Bool.Decides.{nat_tests}
use Rattle.leveldb_env.specs.Env.{Files}
use Rattle.leveldb_disks.specs.Journal.{after, where_done}
use Rattle.leveldb_env.specs.MemEnv.{files_of}
use Rattle.leveldb_disks.proofs.mem_env.journal.replay_call.Goals as goal

pub returns : goal.returns
returns c =
    let call = c.args.call.now in
    let files = files_of c.args.files.now in
    let among : nat_le call.number c.args.n ≡ true = grind (arith, nat_tests) in
    c.in_ok-make_change.ensures.ok
    ∙ ap (λ (change : Files → Files). where_done call.done change files) c.borrow_change.ensures.change
    ∙ ap (λ b. where_done b (λ files. after files call) files) (sym among)
