use Rattle.std.proofs.Common.{◌≡◌, ◌-◌, ◌^◌, [], ◌∷◌, ◌++◌, length, replicate, sym, ap, subst, ◌∙◌, arith}
use Rattle.std.specs.Prelude.{OnOk}
use Rattle.std.proofs.lemmas.Result.{err_from_is_err_and}
use Rattle.leveldb_env.specs.Filter.{keys_at}
use Rattle.leveldb_env.proofs.FilterBlockLemmas.{cut_texts, pushed_size, some_made, not_made, too_many, made_fits, on_ok}
use Rattle.leveldb_env.proofs.filter_block.make_filters.Goals as goal

pub returns-then-len-eq0-clause-fits : goal.returns-then-len-eq0-clause-fits
returns-then-len-eq0-clause-fits g c =
    pushed_size c.push.result c.args.filters.now c.push.new.self [] (c.args.count - 1) (2 ^ 32) c.push.ensures.ok c.push.ensures.err (omega (arith, c.requires.fits))

pub returns-in_err-filter-clause-cause : goal.returns-in_err-filter-clause-cause
returns-in_err-filter-clause-cause g c =
    let again = cut_texts {texts = c.args.keys.now} (record { joined = c.bytes.ensures; placed = c.offsets.ensures }) in
    let p = err_from_is_err_and c.from_residual.result c.from_residual.ensures.1 in
    rw (p.1, p.2)
    (not_made (g.FP.FilterPolicy.too_large c.args.policy.now) (g.FP.FilterPolicy.filter_for c.args.policy.now) c.args.filters.now c.args.keys.now (keys_at c.offsets.result.now c.bytes.result.now) _ (omega (arith, c.len.ensures)) again
    c.in_err-filter.ensures.cause)

pub returns-then-bytes-len-ge-FILTERS_LIMIT-clause-cause : goal.returns-then-bytes-len-ge-FILTERS_LIMIT-clause-cause
returns-then-bytes-len-ge-FILTERS_LIMIT-clause-cause g c =
    let again = cut_texts {texts = c.args.keys.now} (record { joined = c.bytes.ensures; placed = c.offsets.ensures }) in
    let made = c.in_ok-filter.ensures.ok ∙ ap (g.FP.FilterPolicy.filter_for c.args.policy.now) again in
    too_many c.err.result (g.FP.FilterPolicy.too_large c.args.policy.now) (g.FP.FilterPolicy.filter_for c.args.policy.now) c.args.filters.now c.args.keys.now (omega (arith, c.len.ensures)) c.err.ensures.code
    (omega (arith, ap length made, ap length c.bytes-2.ensures, c.len-2.ensures, c.in_ok-filter.filter.ok.0))

pub returns-clause-ok : goal.returns-clause-ok
returns-clause-ok g c =
    let again = cut_texts {texts = c.args.keys.now} (record { joined = c.bytes.ensures; placed = c.offsets.ensures }) in
    let made = c.deref.ensures.value ∙ c.in_ok-filter.ensures.ok ∙ ap (g.FP.FilterPolicy.filter_for c.args.policy.now) again in
    let some = some_made (g.FP.FilterPolicy.filter_for c.args.policy.now) c.args.keys.now (omega (arith, c.len.ensures)) in
    subst (λ z. OnOk c.push-2.result (c.push-2.new.self ≡ c.args.filters.now ++ z ∷ replicate (c.args.count - 1) [])) (made ∙ sym some) c.push-2.ensures.ok

pub returns-clause-fits : goal.returns-clause-fits
returns-clause-fits g c =
    pushed_size c.push-2.result c.args.filters.now c.push-2.new.self c.deref.result.now (c.args.count - 1) (2 ^ 32) c.push-2.ensures.ok c.push-2.ensures.err
    (omega (arith, ap length c.bytes-2.ensures, c.len-2.ensures, c.in_ok-filter.filter.ok.0, ap length c.deref.ensures.value))

pub returns-clause-not_too_large : goal.returns-clause-not_too_large
returns-clause-not_too_large g c =
    let again = cut_texts {texts = c.args.keys.now} (record { joined = c.bytes.ensures; placed = c.offsets.ensures }) in
    let too_large = g.FP.FilterPolicy.too_large c.args.policy.now in
    let make = g.FP.FilterPolicy.filter_for c.args.policy.now in
    let made = c.deref.ensures.value ∙ c.in_ok-filter.ensures.ok ∙ ap make again in
    on_ok c.push-2.result
    (made_fits too_large make c.args.filters.now c.args.keys.now
    (λ h. c.in_ok-filter.ensures.fits (subst too_large (sym again) h))
    (omega (arith, ap length c.bytes-2.ensures, c.len-2.ensures, c.in_ok-filter.filter.ok.0, ap length c.deref.ensures.value, ap length made)))
