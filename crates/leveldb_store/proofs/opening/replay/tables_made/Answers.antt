use Rattle.std.proofs.Common.{◌≡◌, ◌≢◌, ⊎_elim, ℕ, List, [], ap, arith, inl, inr, length}
use Rattle.std.proofs.lemmas.Result.{err_from_is_err_and}
use Rattle.leveldb_version_set.proofs.Sets.RecoverLemmas.{cause_of_error}
use Rattle.leveldb_store.proofs.Logs.ReplayAllLemmas.{TablesAll-made, TablesAll-none}
use Rattle.leveldb_store.proofs.Logs.ReplayLogLemmas.{none_of_length}
use Rattle.leveldb_store.proofs.opening.replay.tables_made.Goals as goal

-- a list that hasn't length 0 isn't empty
some_entries : {X : Type 0} (xs : List X) (n : ℕ) → n ≡ length xs → n ≢ 0 → xs ≢ []
some_entries xs n is some none = some (omega (arith, is, ap length none))

pub returns-in_err-make_table-clause-cause : goal.returns-in_err-make_table-clause-cause
returns-in_err-make_table-clause-cause g c =
    let failed = err_from_is_err_and c.from_residual.result c.from_residual.ensures.1 in
    let some = some_entries c.args.log.rest.kept.entries c.len.result c.len.ensures c.if-len-eq0.false in
    rw failed.1 (rw failed.2 (cause_of_error _
    (λ why. ⊎_elim (λ memory. inl memory) (λ it. inr ((some, it.0), it.1)) why)
    (λ why. ⊎_elim (λ memory. inl (inl memory)) (λ it. inr it.1) why)
    c.in_err-make_table.ensures.makes.cause))

pub returns-then-len-eq0-clause-ok : goal.returns-then-len-eq0-clause-ok
returns-then-len-eq0-clause-ok g c = TablesAll-none g.E.Env _ c.args.log c.args.versions.now c.args.env.now (none_of_length c.args.log.rest.kept.entries (omega (arith, c.if-len-eq0.true, c.len.ensures)))

pub returns-clause-ok : goal.returns-clause-ok
returns-clause-ok g c = TablesAll-made g.E.Env _ c.args.log c.args.versions.now (some_entries c.args.log.rest.kept.entries c.len.result c.len.ensures c.if-len-eq0.false) c.make_table.new.self c.make_table.new.versions c.make_table.new.env c.in_ok-make_table.ensures.makes.ok
