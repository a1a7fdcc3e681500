use Rattle.std.proofs.Common.{◌≡◌, ◌∙◌, ◌/◌, ◌%◌, ◌==◌, ◌||◌, true, Some, None, sym, ap}
use Rattle.std.specs.Option.{option_copied}
use Rattle.leveldb_disks.specs.Journal.{where_done, is_append, may_be_made, requested, call_after, side_of}
use Rattle.leveldb_env.specs.MemEnv.{files_of}
use Rattle.leveldb_disks.proofs.JournalLemmas.{odd_from_test, files_at_odd, done_both}
use Rattle.leveldb_disks.proofs.mem_env.journal.Journal.files_at.Goals as goal
use Rattle.leveldb_disks.proofs.mem_env.journal.Journal.files_at.Goals.{in-Some+in_ok-make_change, in_default}

pub returns : goal.returns
returns c =
    let j = c.args.self.now in
    let first = files_of j.first in
    let side = c.args.side in
    let odd : (c.args.moment % 2 == 1) ≡ true = odd_from_test c.args.moment c.if-moment-eq0.false in
    elim c.match-call_after.branch [
      | in-Some+in_ok-make_change w ↦
          let call = w.in-Some.call.now in
          let asked = w.borrow_change-change.result in
          let before = files_of c.in_ok-files.files in
          let found : Some call ≡ call_after j.calls.items (c.args.moment / 2) = ap option_copied (sym w.in-Some.is) ∙ c.call_after.ensures in
          ap files_of w.files-is ∙ w.in_ok-make_change.ensures.ok
          ∙ ap (λ done. where_done done (requested asked) before) w.is_made_inside.ensures
          ∙ done_both (side || is_append asked) (may_be_made asked) (requested asked) before
          ∙ (λ i. where_done (side || w.borrow_change-change.ensures.append i) (where_done (w.borrow_change-change.ensures.may i) (w.borrow_change-change.ensures.change i)) before)
          ∙ ap (side_of side (Some call)) c.in_ok-files.ensures
          ∙ files_at_odd first j.calls.items c.args.moment side (Some call) odd found
      | in_default w ↦
          ap files_of w.files-is ∙ c.in_ok-files.ensures ∙ files_at_odd first j.calls.items c.args.moment side None odd (ap option_copied (sym w.in_default.is) ∙ c.call_after.ensures)
    ]
