use Rattle.std.proofs.Common.{◌≡◌, ◌∙◌, false, length, refl, subst, sym, true}
use Rattle.std.proofs.lemmas.Bool.{lt-ltb, ltb-true}
use Rattle.leveldb_store.proofs.Logs.LogDamageLemmas.{if_none, none_checked, none_headed, whole_front}
use Rattle.leveldb_mem.specs.Log.{NoFragment, log_block_size}
use Rattle.leveldb_store.proofs.damage.whole_at.Goals as goal

pub returns-clause-whole : goal.returns-clause-whole
returns-clause-whole c =
    whole_front c.args.offset c.in_ok-body.body.now c.in_ok-fragment.fragment.now
    c.in_ok-fragment.ensures.some c.args.rest.now c.in_ok-body.ensures.some _ refl
    (c.has_right_checksum.ensures.0 c.if-not-has_right_checksum.false) _
    (ltb-true 7 (length c.in_ok-fragment.fragment.now), lt-ltb 7 (length c.in_ok-fragment.fragment.now))

pub returns-in_err-body-clause-none : goal.returns-in_err-body-clause-none
returns-in_err-body-clause-none c = if_none c.from_residual.result
    (none_checked c.args.offset c.args.rest.now c.in_err-body.ensures.none)

pub returns-in_err-fragment-clause-none : goal.returns-in_err-fragment-clause-none
returns-in_err-fragment-clause-none c = if_none c.from_residual-in_err-fragment.result
    (none_checked c.args.offset c.args.rest.now
    (subst (NoFragment false log_block_size c.args.offset) (sym c.in_ok-body.ensures.some)
    c.in_err-fragment.ensures.none))

pub returns-then-not-has_right_checksum-clause-none : goal.returns-then-not-has_right_checksum-clause-none
returns-then-not-has_right_checksum-clause-none c =
    none_headed c.args.offset c.in_ok-body.body.now c.in_ok-fragment.fragment.now
    c.in_ok-fragment.ensures.some c.args.rest.now c.in_ok-body.ensures.some
    (λ right. let never : false ≡ true = sym c.if-not-has_right_checksum.true ∙ c.has_right_checksum.ensures.1 right in cc)
