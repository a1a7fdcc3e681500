use Rattle.std.proofs.Common.{◌≡◌, ◌∙◌, inr, Some, None, arith, refl, subst, sym, take}
use Rattle.std.proofs.lemmas.Result.{err_from_is_err_and}
use Rattle.leveldb_base.specs.Types.{Pair, pair_at, position_within}
use Rattle.leveldb_env.specs.EnvFile.{opened}
use Rattle.leveldb_env.specs.contracts.compressor.CompressorListCompressors.TheImpl.{ghosts as compressors}
use Rattle.leveldb_iter.specs.Walk.{key_order}
use Rattle.leveldb_table.specs.TableBuilder.{order_of}
use Rattle.leveldb_store.specs.Tables.BuildTable.{passed}
use Rattle.leveldb_store.specs.Tables.TableFile.{AddsAllToFile}
use Rattle.leveldb_store.proofs.Tables.BuildTableLemmas.{added_so_far, adds_all-none, next_accepted, next_rises, not_added_so_far, pair_passed, passed_first, stays_beside, stays_over-none, stays_over-trans, taken_all, walk_failed_so_far}
use Rattle.leveldb_store.proofs.build.add_pairs.Goals as goal

pub adding-init : goal.adding-init
adding-init g c =
    let codings = (compressors g.dyn-1).codings c.args.compressors.now in
    let start = opened c.args.env.now c.args.table.now.file in
    record {
      kept = (refl, refl);
      same = stays_over-none g.W.Walk (c.args.env.now, c.args.tables.now) c.args.from.now;
      so_far = λ pairs here. record {
        position = position_within pairs 0;
        here = here;
        adds = subst (λ n. AddsAllToFile g.C.Cmp g.FP.FilterPolicy codings g.E.Env c.args.table.now.core start (take n pairs) c.args.table.now.core start) (sym (passed_first pairs)) (adds_all-none codings g.E.Env start c.requires.unused);
        count_is = c.requires.unused.none ∙ sym (passed_first pairs);
      };
    }

pub add-requires-clause-accepted : goal.add-requires-clause-accepted
add-requires-clause-accepted g c =
    let first = c.requires.first in
    let s = c.adding.invariant.so_far first.0 first.1 in
    let laws = g.met.W.Walk.laws in
    let keys = key_order g.C.Cmp (order_of c.args.table.now.core) in
    let pair : Pair = (c.in-Some.key.now, c.in-Some.value.now) in
    let here : Some pair ≡ pair_at first.0 s.position = c.in-Some.ensures ∙ laws.at_position (c.adding.env, c.adding.tables) c.adding.from keys first.0 s.position s.here in
    let sorted = laws.sorted (c.adding.env, c.adding.tables) c.adding.from keys first.0 (laws.over_list (c.adding.env, c.adding.tables) c.adding.from keys first.0 s.position s.here) in
    λ unbroken. next_accepted g.C.Cmp first.0 (passed first.0 s.position) pair (record { accepted = sorted.accepted; rising = sorted.rising }) s.adds.taken.choices (pair_passed first.0 s.position pair here)

pub add-requires-clause-rising : goal.add-requires-clause-rising
add-requires-clause-rising g c =
    let first = c.requires.first in
    let s = c.adding.invariant.so_far first.0 first.1 in
    let laws = g.met.W.Walk.laws in
    let keys = key_order g.C.Cmp (order_of c.args.table.now.core) in
    let pair : Pair = (c.in-Some.key.now, c.in-Some.value.now) in
    let here : Some pair ≡ pair_at first.0 s.position = c.in-Some.ensures ∙ laws.at_position (c.adding.env, c.adding.tables) c.adding.from keys first.0 s.position s.here in
    let sorted = laws.sorted (c.adding.env, c.adding.tables) c.adding.from keys first.0 (laws.over_list (c.adding.env, c.adding.tables) c.adding.from keys first.0 s.position s.here) in
    λ unbroken some. next_rises g.C.Cmp first.0 (passed first.0 s.position) pair (record { accepted = sorted.accepted; rising = sorted.rising }) s.adds.taken.choices (pair_passed first.0 s.position pair here) s.adds.last s.count_is some

pub returns-in_err-add-clause-err : goal.returns-in_err-add-clause-err
returns-in_err-add-clause-err g c = λ pairs at.
    let s = c.adding.invariant.so_far pairs at in
    let failed = err_from_is_err_and c.from_residual.result c.from_residual.ensures.1 in
    rw failed.1 (rw failed.2 (λ there. not_added_so_far g.W.Walk g.met.W.Walk.laws g.E.Env s c.in-Some.ensures c.in_err-add.ensures.err there))

pub returns-in_err-add-clause-walk : goal.returns-in_err-add-clause-walk
returns-in_err-add-clause-walk g c =
    stays_over-trans g.W.Walk c.adding.invariant.same (stays_beside g.W.Walk c.requires.reads c.adding.env c.add.new.env c.adding.tables c.adding.from)

pub returns-in_err-advance-clause-err : goal.returns-in_err-advance-clause-err
returns-in_err-advance-clause-err g c = λ pairs at.
    let s = c.adding.invariant.so_far pairs at in
    let moves = c.advance.ensures.moves in
    let failed = err_from_is_err_and c.from_residual-in_err-advance.result c.from_residual-in_err-advance.ensures.1 in
    let why = c.adding.invariant.same.excuses _ _ (c.requires.reads.excuses c.adding.env c.add.new.env c.adding.tables c.adding.from _ _ c.in_err-advance.ensures.moves.cause) in
    rw failed.1 (rw failed.2 (λ there. walk_failed_so_far g.E.Env s.adds c.in_ok-add.ensures.ok (c.requires.reads.still _ _ moves.kept) (inr (_, why))))

pub returns-in_err-advance-clause-walk : goal.returns-in_err-advance-clause-walk
returns-in_err-advance-clause-walk g c =
    let moves = c.advance.ensures.moves in
    stays_over-trans g.W.Walk c.adding.invariant.same (stays_over-trans g.W.Walk (stays_beside g.W.Walk c.requires.reads c.adding.env c.add.new.env c.adding.tables c.adding.from)
    (record { same = moves.same; excuses = moves.excuses }))

pub adding-preserved : goal.adding-preserved
adding-preserved g c =
    let moves = c.advance.ensures.moves in
    let kept = c.adding.invariant.kept in
    record {
      kept = (c.add.ensures.same.0 ∙ kept.0, c.add.ensures.same.1 ∙ kept.1);
      same = stays_over-trans g.W.Walk c.adding.invariant.same (stays_over-trans g.W.Walk (stays_beside g.W.Walk c.requires.reads c.adding.env c.add.new.env c.adding.tables c.adding.from)
          (record { same = moves.same; excuses = moves.excuses }));
      so_far = λ pairs at.
          let s = c.adding.invariant.so_far pairs at in
          added_so_far g.W.Walk g.met.W.Walk.laws g.E.Env s c.in-Some.ensures c.in_ok-add.ensures.ok c.add.ensures.choices (c.requires.reads.still _ _ moves.kept)
          (c.in_ok-advance.ensures.moves.ok _ pairs s.position (c.requires.reads.stays c.adding.env c.add.new.env c.adding.tables c.adding.from _ pairs s.position s.here));
    }

pub adding-smaller : goal.adding-smaller
adding-smaller g c =
    let one = c.in_ok-add.ensures.ok in
    omega (arith, one.count, one.counted)

pub returns-clause-ok : goal.returns-clause-ok
returns-clause-ok g c = λ pairs at.
    let codings = (compressors g.dyn-1).codings c.args.compressors.now in
    let s = c.adding.invariant.so_far pairs at in
    let laws = g.met.W.Walk.laws in
    let keys = key_order g.C.Cmp (order_of c.args.table.now.core) in
    let none : None ≡ pair_at pairs s.position = c.in_default.ensures ∙ laws.at_position (c.adding.env, c.adding.tables) c.adding.from keys pairs s.position s.here in
    subst (λ ps. AddsAllToFile g.C.Cmp g.FP.FilterPolicy codings g.E.Env c.args.table.now.core (opened c.args.env.now c.args.table.now.file) ps c.adding.table.core (opened c.adding.env c.adding.table.file))
    (taken_all pairs s.position (laws.in_range (c.adding.env, c.adding.tables) c.adding.from keys pairs s.position s.here) none) s.adds
