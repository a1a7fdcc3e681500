use Rattle.std.proofs.Common.{◌≡◌, ◌∙◌, Err, List, ap, arith, refl, ℕ}
use Rattle.std.specs.Borrow.{Bor}
use Rattle.std.proofs.lemmas.Result.{err_from_is_err_and}
use Rattle.leveldb_env.proofs.EnvLemmas.{begun}
use Rattle.leveldb_env.specs.Env.{in_folder}
use Rattle.leveldb_repair.proofs.ManifestNumbersLemmas.{RaisesToFile-other, RaisesToFile-out_of_memory, RaisesToFile-raised, RaisesToFile-unread, manifest_ok, read_of_bytes, stops_of_bytes}
use Rattle.leveldb_repair.proofs.numbers.raised_to_file.Goals as goal

pub returns-in_default : goal.returns-in_default
returns-in_default g c =
    RaisesToFile-other g.E.Env c.args.store.now c.args.file.now c.args.least c.args.env.now c.in_default.not-Descriptor

pub returns-in_err-path : goal.returns-in_err-path
returns-in_err-path g c =
    let failed = err_from_is_err_and c.from_residual.result c.from_residual.ensures.1 in
    rw (failed.1, failed.2) (RaisesToFile-out_of_memory g.E.Env c.args.store.now c.args.file.now c.args.least c.args.env.now _ _ (λ modelled. begun (g.E.Env.observed c.args.env.now) refl) (λ modelled. refl) refl c.in_err-path.ensures.memory)

pub returns-in_err-text : goal.returns-in_err-text
returns-in_err-text g c =
    let failed = err_from_is_err_and c.from_residual-in_err-text.result c.from_residual-in_err-text.ensures.1 in
    rw (failed.1, failed.2) (RaisesToFile-unread g.E.Env c.args.store.now c.args.file.now c.args.least c.args.env.now c.in-Descriptor.is _
    (c.deref-2.ensures ∙ c.in_ok-path.ensures.ok ∙ ap (λ name. in_folder c.args.store.now name) c.deref.ensures) c.read_file.ensures.does c.read_file.ensures.locks _ c.in_err-text.ensures.cause)

pub returns-in_err-records : goal.returns-in_err-records
returns-in_err-records g c =
    let failed = err_from_is_err_and c.from_residual-in_err-records.result c.from_residual-in_err-records.ensures.1 in
    rw (failed.1, failed.2) (RaisesToFile-raised g.E.Env c.args.store.now c.args.file.now c.args.least c.args.env.now c.in-Descriptor.is _
    (c.deref-2.ensures ∙ c.in_ok-path.ensures.ok ∙ ap (λ name. in_folder c.args.store.now name) c.deref.ensures) c.read_file.ensures.does c.read_file.ensures.locks c.deref-source.result.now
    (rw c.deref-source.ensures.value c.in_ok-text.ensures.bytes) c.in_ok-text.ensures.cause.ok (Err _) tt (stops_of_bytes (λ (source : Bor (List ℕ)). source.now) c.in_err-records.ensures.err (omega arith)))

pub returns : goal.returns
returns g c =
    RaisesToFile-raised g.E.Env c.args.store.now c.args.file.now c.args.least c.args.env.now c.in-Descriptor.is _
    (c.deref-2.ensures ∙ c.in_ok-path.ensures.ok ∙ ap (λ name. in_folder c.args.store.now name) c.deref.ensures) c.read_file.ensures.does c.read_file.ensures.locks c.deref-source.result.now
    (rw c.deref-source.ensures.value c.in_ok-text.ensures.bytes) c.in_ok-text.ensures.cause.ok c.raised_to_records.result
    (manifest_ok _ _ _ _ (read_of_bytes (λ (source : Bor (List ℕ)). source.now) _ _ c.in_ok-records.ensures.log) c.raised_to_records.result
    (rw c.as_slice.ensures.value at c.raised_to_records.ensures.ok)) c.raised_to_records.ensures.memory
