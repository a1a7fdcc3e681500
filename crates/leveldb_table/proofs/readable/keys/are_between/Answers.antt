use Rattle.std.proofs.Common.{ap, ◌∙◌, None, sym}
use Rattle.std.specs.Prelude.{is_some}
use Rattle.std.proofs.lemmas.Result.{IfOk-from_err}
use Rattle.std.proofs.lemmas.Bool.{true≢false}
use Rattle.leveldb_base.specs.Types.{position_within}
use Rattle.leveldb_table.specs.Block.{pairs_of}
use Rattle.leveldb_table.proofs.ReadableFileLemmas.{passing_ends, passing_first, passing_next, passing_smaller, passing_stops}
use Rattle.leveldb_table.proofs.RefusalLemmas.{IfErr-passed}
use Rattle.leveldb_table.proofs.readable.keys.are_between.Goals as goal

pub pairs-init : goal.pairs-init
pairs-init g c =
    passing_first _ _ c.iter-pairs.result _ (ap (λ block. pairs_of None block.entries)
    c.iter-pairs.ensures.block)
    c.in_ok-seek_to_first.ensures.keeps.same_pairs c.in_ok-seek_to_first.ensures.ok

pub pairs-smaller : goal.pairs-smaller
pairs-smaller g c = passing_smaller _ _ c.pairs.invariant c.advance.new.self c.in-Some.ensures
    c.in_ok-advance.ensures.ok

pub pairs-preserved : goal.pairs-preserved
pairs-preserved g c =
    passing_next _ _ c.pairs.invariant c.in-Some.ensures (c.is_between.ensures.0
    c.if-not-is_between.false) c.in_ok-advance.ensures.keeps.same_pairs
    c.in_ok-advance.ensures.ok

pub returns-clause-ok : goal.returns-clause-ok
returns-clause-ok g c =
    let same = ap (λ block. pairs_of None block.entries) c.iter-pairs.ensures.block in
    passing_ends _ _ c.pairs.invariant c.valid-some.result (c.valid-some.ensures ∙ ap is_some
    (c.in_ok-seek_to_first.ensures.ok ∙ ap (λ ps. position_within ps 0) same))
    c.in_default.ensures

pub returns-in_err-seek_to_first-clause-ok : goal.returns-in_err-seek_to_first-clause-ok
returns-in_err-seek_to_first-clause-ok g c = IfOk-from_err _ _ c.from_residual.ensures.0

pub returns-in_err-seek_to_first-clause-memory : goal.returns-in_err-seek_to_first-clause-memory
returns-in_err-seek_to_first-clause-memory g c = IfErr-passed _ c.from_residual.result c.from_residual.ensures.1 c.in_err-seek_to_first.ensures.cause

pub returns-then-not-is_between-clause-ok : goal.returns-then-not-is_between-clause-ok
returns-then-not-is_between-clause-ok g c = passing_stops _ _ c.pairs.invariant c.in-Some.ensures (λ between. true≢false (sym (c.is_between.ensures.1 between) ∙ c.if-not-is_between.true))

pub returns-in_err-advance-clause-ok : goal.returns-in_err-advance-clause-ok
returns-in_err-advance-clause-ok g c = IfOk-from_err _ _ c.from_residual-in_err-advance.ensures.0

pub returns-in_err-advance-clause-memory : goal.returns-in_err-advance-clause-memory
returns-in_err-advance-clause-memory g c = IfErr-passed _ c.from_residual-in_err-advance.result c.from_residual-in_err-advance.ensures.1 c.in_err-advance.ensures.cause
