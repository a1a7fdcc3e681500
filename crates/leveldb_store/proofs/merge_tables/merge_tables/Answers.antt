use Rattle.std.proofs.Common.{◌∙◌, None, inl, refl}
use Rattle.std.proofs.lemmas.Result.{IfOk-from_err, err_from_is_err_and}
use Rattle.leveldb_base.proofs.HistoryLemmas.{exact_order}
use Rattle.leveldb_store.proofs.Compactions.CuttingLemmas.{cut_begun, cut_ended, cut_next, cut_none}
use Rattle.leveldb_store.proofs.Compactions.MergeLoopLemmas.{back_may, gives_may, may_give_one, may_rise, merge_endless, merge_finished, merge_unbegun, merge_unmoved, merge_untaken, so_far_begun, so_far_next}
use Rattle.leveldb_store.proofs.Compactions.MergingLemmas.{merged_none}
use Rattle.leveldb_store.proofs.Logs.ReplayFilesLemmas.{GivesNumbers-refl}
use Rattle.leveldb_store.proofs.merge_tables.merge_tables.Goals as goal

-- the walk doesn't come to its first pair
pub returns-in_err-seek_to_first-clause-merges : goal.returns-in_err-seek_to_first-clause-merges
returns-in_err-seek_to_first-clause-merges g c = λ leaves.
    let failed = err_from_is_err_and c.from_residual.result c.from_residual.ensures.1 in
    rw failed.1 (rw failed.2 (merge_unbegun _ g.E.Env g.W.Walk _ _ _ leaves c.seek_to_first.ensures.moves.kept c.in_err-seek_to_first.ensures.moves.cause))

pub returns-in_err-seek_to_first-clause-numbers : goal.returns-in_err-seek_to_first-clause-numbers
returns-in_err-seek_to_first-clause-numbers g c = GivesNumbers-refl c.args.versions.now.set

pub returns-in_err-seek_to_first-clause-back : goal.returns-in_err-seek_to_first-clause-back
returns-in_err-seek_to_first-clause-back g c = λ number is. inl is

pub loop-init : goal.loop-init
loop-init g c =
    let order = c.args.plan.now.options.now.cmp in
    let exact = exact_order (g.C.Cmp.accepts order) (g.C.Cmp.cmp order) (g.met.C.UserCmp.accepts_all order) (g.met.C.Cmp.preorder order) (g.met.C.UserCmp.exact order) in
    record {
      numbers = GivesNumbers-refl c.args.versions.now.set;
      back = λ number is. inl is;
      version = refl;
      so_far = λ leaves. so_far_begun _ g.E.Env g.W.Walk _ _ _ leaves (rw c.new-2.ensures (merged_none _ g.E.Env exact refl c.seek_to_first.new.env c.new.ensures))
          c.seek_to_first.ensures.moves.kept (λ pairs over. c.in_ok-seek_to_first.ensures.moves.ok _ pairs None over) c.seek_to_first.ensures.moves.excuses;
      cut_so_far = λ leaves. cut_begun _ g.E.Env exact refl _ _ _ _ g.W.Walk _ _ (rw c.new-2.ensures (cut_none _ g.E.Env exact refl _ _ _ _ c.seek_to_first.new.env c.new.ensures))
          (λ pairs over. c.in_ok-seek_to_first.ensures.moves.ok _ pairs None over);
    }

-- the walk is at its end
pub returns-in_default-clause-merges : goal.returns-in_default-clause-merges
returns-in_default-clause-merges g c = λ leaves.
    let order = c.args.plan.now.options.now.cmp in
    let exact = exact_order (g.C.Cmp.accepts order) (g.C.Cmp.cmp order) (g.met.C.UserCmp.accepts_all order) (g.met.C.Cmp.preorder order) (g.met.C.UserCmp.exact order) in
    let so_far = c.loop.invariant.so_far leaves in
    let laws = g.met.W.Walk.laws in
    merge_finished _ g.E.Env g.W.Walk _ _ _ leaves so_far _ exact refl
    (λ pairs position here. (laws.in_range (c.loop.env, c.loop.tables) c.loop.walk _ pairs position here, c.in_default.ensures ∙ laws.at_position (c.loop.env, c.loop.tables) c.loop.walk _ pairs position here))
    c.finish.result (c.finish.ensures.finishes c.args.plan.now.store.now c.args.versions.now.set.next_file c.loop.versions.set.next_file so_far.merged.tables so_far.merged.pairs so_far.merged.have)

pub returns-in_default-clause-numbers : goal.returns-in_default-clause-numbers
returns-in_default-clause-numbers g c = c.loop.invariant.numbers

pub returns-in_default-clause-back : goal.returns-in_default-clause-back
returns-in_default-clause-back g c = c.loop.invariant.back

pub returns-in_default-clause-version : goal.returns-in_default-clause-version
returns-in_default-clause-version g c = c.loop.invariant.version

-- a pair isn't taken
pub returns-in_err-take-clause-merges : goal.returns-in_err-take-clause-merges
returns-in_err-take-clause-merges g c = λ leaves.
    let so_far = c.loop.invariant.so_far leaves in
    let laws = g.met.W.Walk.laws in
    let failed = err_from_is_err_and c.from_residual-in_err-take.result c.from_residual-in_err-take.ensures.1 in
    rw failed.1 (rw failed.2 (merge_untaken _ g.E.Env g.W.Walk _ _ _ leaves so_far (may_rise c.take.ensures.numbers) (may_give_one c.take.ensures.numbers)
    (λ pairs position here. c.in-Some.ensures ∙ laws.at_position (c.loop.env, c.loop.tables) c.loop.walk _ pairs position here)
    (c.in_err-take.ensures.takes c.args.versions.now.set.next_file so_far.read so_far.merged)))

pub returns-in_err-take-clause-numbers : goal.returns-in_err-take-clause-numbers
returns-in_err-take-clause-numbers g c = gives_may c.loop.invariant.numbers c.take.ensures.numbers

pub returns-in_err-take-clause-back : goal.returns-in_err-take-clause-back
returns-in_err-take-clause-back g c = back_may c.loop.invariant.numbers c.loop.invariant.back c.take.ensures.numbers

pub returns-in_err-take-clause-version : goal.returns-in_err-take-clause-version
returns-in_err-take-clause-version g c = c.take.ensures.version ∙ c.loop.invariant.version

-- the walk doesn't go on
pub returns-in_err-advance-clause-merges : goal.returns-in_err-advance-clause-merges
returns-in_err-advance-clause-merges g c = λ leaves.
    let so_far = c.loop.invariant.so_far leaves in
    let laws = g.met.W.Walk.laws in
    let failed = err_from_is_err_and c.from_residual-in_err-advance.result c.from_residual-in_err-advance.ensures.1 in
    rw failed.1 (rw failed.2 (merge_unmoved _ g.E.Env g.W.Walk _ _ _ leaves so_far (may_rise c.take.ensures.numbers) (may_give_one c.take.ensures.numbers)
    (λ pairs position here. c.in-Some.ensures ∙ laws.at_position (c.loop.env, c.loop.tables) c.loop.walk _ pairs position here)
    (c.in_ok-take.ensures.takes c.args.versions.now.set.next_file so_far.read so_far.merged) c.advance.ensures.moves.kept c.in_err-advance.ensures.moves.cause))

pub returns-in_err-advance-clause-numbers : goal.returns-in_err-advance-clause-numbers
returns-in_err-advance-clause-numbers g c = gives_may c.loop.invariant.numbers c.take.ensures.numbers

pub returns-in_err-advance-clause-back : goal.returns-in_err-advance-clause-back
returns-in_err-advance-clause-back g c = back_may c.loop.invariant.numbers c.loop.invariant.back c.take.ensures.numbers

pub returns-in_err-advance-clause-version : goal.returns-in_err-advance-clause-version
returns-in_err-advance-clause-version g c = c.take.ensures.version ∙ c.loop.invariant.version

pub loop-preserved : goal.loop-preserved
loop-preserved g c =
    let laws = g.met.W.Walk.laws in
    let order = c.args.plan.now.options.now.cmp in
    let exact = exact_order (g.C.Cmp.accepts order) (g.C.Cmp.cmp order) (g.met.C.UserCmp.accepts_all order) (g.met.C.Cmp.preorder order) (g.met.C.UserCmp.exact order) in
    record {
      numbers = gives_may c.loop.invariant.numbers c.take.ensures.numbers;
      back = back_may c.loop.invariant.numbers c.loop.invariant.back c.take.ensures.numbers;
      version = c.take.ensures.version ∙ c.loop.invariant.version;
      so_far = λ leaves.
          let so_far = c.loop.invariant.so_far leaves in
          so_far_next _ g.E.Env g.W.Walk _ _ _ leaves so_far (may_rise c.take.ensures.numbers) (may_give_one c.take.ensures.numbers)
          (λ pairs position here. c.in-Some.ensures ∙ laws.at_position (c.loop.env, c.loop.tables) c.loop.walk _ pairs position here)
          (c.in_ok-take.ensures.takes c.args.versions.now.set.next_file so_far.read so_far.merged) c.advance.ensures.moves.kept
          (λ pairs position here. c.in_ok-advance.ensures.moves.ok _ pairs position here) c.advance.ensures.moves.excuses;
      cut_so_far = λ leaves.
          let merged = c.loop.invariant.so_far leaves in
          let so_far = c.loop.invariant.cut_so_far leaves in
          cut_next _ g.E.Env exact refl _ _ _ _ g.W.Walk _ _ so_far merged.come (c.in_ok-take.ensures.takes c.args.versions.now.set.next_file merged.read merged.merged).changes
          (leaves _ _ c.advance.ensures.moves.kept) (λ pairs position here. c.in-Some.ensures ∙ laws.at_position (c.loop.env, c.loop.tables) c.loop.walk _ pairs position here)
          (c.in_ok-take.ensures.cuts _ _ so_far.read so_far.has) (λ pairs position here. c.in_ok-advance.ensures.moves.ok _ pairs position here);
    }

-- memory is out
pub returns-clause-merges : goal.returns-clause-merges
returns-clause-merges g c = λ leaves.
    merge_endless _ g.E.Env g.W.Walk _ _ _ leaves (c.loop.invariant.so_far leaves) _ c.from.ensures

pub returns-clause-numbers : goal.returns-clause-numbers
returns-clause-numbers g c = c.loop.invariant.numbers

pub returns-clause-back : goal.returns-clause-back
returns-clause-back g c = c.loop.invariant.back

pub returns-clause-version : goal.returns-clause-version
returns-clause-version g c = c.loop.invariant.version

-- where tables are cut

pub returns-in_err-seek_to_first-clause-cuts : goal.returns-in_err-seek_to_first-clause-cuts
returns-in_err-seek_to_first-clause-cuts g c = λ leaves. IfOk-from_err c.from_residual.result _ c.from_residual.ensures.0

pub returns-in_default-clause-cuts : goal.returns-in_default-clause-cuts
returns-in_default-clause-cuts g c = λ leaves.
    let order = c.args.plan.now.options.now.cmp in
    let exact = exact_order (g.C.Cmp.accepts order) (g.C.Cmp.cmp order) (g.met.C.UserCmp.accepts_all order) (g.met.C.Cmp.preorder order) (g.met.C.UserCmp.exact order) in
    let laws = g.met.W.Walk.laws in
    let so_far = c.loop.invariant.cut_so_far leaves in
    let has = so_far.has in
    let merged = has.merged in
    cut_ended _ g.E.Env exact refl _ _ _ _ g.W.Walk _ _ so_far _
    (λ pairs position here. (laws.in_range (c.loop.env, c.loop.tables) c.loop.walk _ pairs position here, c.in_default.ensures ∙ laws.at_position (c.loop.env, c.loop.tables) c.loop.walk _ pairs position here))
    c.finish.result (c.finish.ensures.finishes c.args.plan.now.store.now c.args.versions.now.set.next_file c.loop.versions.set.next_file merged.tables merged.pairs merged.have)
