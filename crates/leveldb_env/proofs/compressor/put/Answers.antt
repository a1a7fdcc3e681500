use Rattle.std.proofs.Common.{◌==◌, ◌<◌, ◌≤◌, ◌≡◌, length, sym, refl, subst}
use Rattle.std.specs.List.{position_or_len}
use Rattle.leveldb_env.proofs.CompressorLemmas.{replaced, pushed}
use Rattle.leveldb_env.proofs.compressor.put.Goals as goal

pub returns-in-Some-clause-ok : goal.returns-in-Some-clause-ok
returns-in-Some-clause-ok g c otherwise =
    replaced (λ l. l.id) _ otherwise c.args.id c.args.listed.now.items c.in-Some.at _ c.index_mut.result.now
    (subst (λ xs. (c.in-Some.at < length xs) × (c.in-Some.at ≡ position_or_len (λ l. l.id == c.args.id) xs)) c.deref.ensures.value c.in-Some.ensures.some)
    (sym c.index_mut.ensures.value) refl

pub returns-clause-ok : goal.returns-clause-ok
returns-clause-ok g c otherwise =
    rw c.in_ok-push.ensures.items
    (pushed (λ l. l.id) _ otherwise c.args.id c.args.listed.now.items _
    (subst (λ xs. length xs ≤ position_or_len (λ l. l.id == c.args.id) xs) c.deref.ensures.value c.in_default.ensures.none) refl)
