use Rattle.std.proofs.Common.{◌≡◌, ◌∙◌, List, ℕ, ap, subst, sym}
use Rattle.leveldb_mem.specs.Log.LogFile.{AppendsRecord}
use Rattle.leveldb_files.proofs.Histories.BatchMatchesLemmas.{batch_some}
use Rattle.leveldb_files.specs.Stores.Paths.{log_path}
use Rattle.leveldb_store.proofs.Writing.WriteLemmas.{appends_to_log}
use Rattle.leveldb_store.proofs.open_store.OpenStore.append.Goals as goal

pub append-requires : goal.append-requires
append-requires g c = batch_some _ _ _ c.contents-text.ensures

pub invariant_of-self : goal.invariant_of-self
invariant_of-self g c =
    let is = c.self.invariant in
    (is.0, (c.append.ensures.path ∙ is.1.0, is.1.1), is.2, is.3, is.4, is.5, is.6, is.7, is.8, is.9, is.10)

pub returns-clause-appends : goal.returns-clause-appends
returns-clause-appends g c =
    let log = c.self.inside.log in
    let path : log.file.path ≡ log_path c.self.inside.versions.set.store log.number = c.self.invariant.1.0 ∙ ap (λ (s : List ℕ). log_path s log.number) (sym c.self.invariant.0) in
    rw (← c.self.view_is, ← c.contents-text.ensures.encoded)
    (appends_to_log g.E.Env _ c.args.env.now c.contents-text.result.now
    (subst (λ p. AppendsRecord g.E.Env (record { path = p; writer = log.file.writer }) c.args.env.now c.contents-text.result.now c.append.result c.append.new.self c.append.new.env) path c.append.ensures))
