use Rattle.std.proofs.Common.{◌≡◌, ◌<◌, ◌∙◌, List, length, get_or, nat_le, ap, rules}
use Rattle.leveldb_disks.specs.declared.mem_env.journal.Call.{Call}
use Rattle.leveldb_disks.specs.Journal.{after, where_done}
use Rattle.leveldb_env.specs.MemEnv.{files_of}
use Rattle.leveldb_disks.proofs.JournalLemmas.{after_more}
use Rattle.leveldb_disks.proofs.mem_env.journal.Journal.files_after.Goals as goal

pub loop-call-preserved : goal.loop-call-preserved
loop-call-preserved c =
    let call = c.call-item.result in
    let calls = c.args.self.now.calls.items in
    let below : c.loop-call.call-index < length calls = search rules in
    let at : call ≡ get_or calls c.loop-call.call-index call = c.call-item.is ∙ ap (λ (all : List Call). get_or all c.loop-call.call-index call) c.deref-call-items.ensures.value in
    c.in_ok-replay_call.ensures
    ∙ ap (where_done (nat_le call.number c.args.n) (λ files. after files call)) c.loop-call.invariant
    ∙ after_more (files_of c.args.self.now.first) calls c.args.n c.loop-call.call-index call below at
