use Rattle.std.proofs.Common.{◌≡◌, ◌∙◌, List, ℕ, ap, subst, sym}
use Rattle.leveldb_mem.specs.Log.LogFile.{SyncsRecords}
use Rattle.leveldb_files.specs.Stores.Paths.{log_path}
use Rattle.leveldb_store.proofs.Writing.SwitchLemmas.{sync_spares}
use Rattle.leveldb_store.proofs.Keeping.SoundWriteLemmas.{sync_sound}
use Rattle.leveldb_store.proofs.Writing.SyncBatchLemmas.{syncs_batches}
use Rattle.leveldb_store.proofs.Writing.WriteLemmas.{sync_breaks, syncs_log}
use Rattle.leveldb_store.proofs.open_store.OpenStore.sync.Goals as goal

pub invariant_of-self : goal.invariant_of-self
invariant_of-self g c =
    let is = c.self.invariant in
    (is.0, (c.sync.ensures.path ∙ is.1.0, is.1.1), is.2, is.3, is.4, is.5, is.6, is.7, is.8, is.9, is.10)

pub returns-clause-syncs : goal.returns-clause-syncs
returns-clause-syncs g c =
    let log = c.self.inside.log in
    let path : log.file.path ≡ log_path c.self.inside.versions.set.store log.number = c.self.invariant.1.0 ∙ ap (λ (s : List ℕ). log_path s log.number) (sym c.self.invariant.0) in
    let syncs = subst (λ p. SyncsRecords g.E.Env (record { path = p; writer = log.file.writer }) c.args.env.now c.sync.result c.sync.new.self c.sync.new.env) path c.sync.ensures in
    rw (← c.self.view_is) (syncs_log g.E.Env _ c.args.env.now syncs)

pub returns-clause-breaks : goal.returns-clause-breaks
returns-clause-breaks g c =
    let log = c.self.inside.log in
    let path : log.file.path ≡ log_path c.self.inside.versions.set.store log.number = c.self.invariant.1.0 ∙ ap (λ (s : List ℕ). log_path s log.number) (sym c.self.invariant.0) in
    let syncs = subst (λ p. SyncsRecords g.E.Env (record { path = p; writer = log.file.writer }) c.args.env.now c.sync.result c.sync.new.self c.sync.new.env) path c.sync.ensures in
    rw (← c.self.view_is) (sync_breaks g.E.Env _ c.args.env.now syncs)

pub returns-clause-spares : goal.returns-clause-spares
returns-clause-spares g c =
    let log = c.self.inside.log in
    let path : log.file.path ≡ log_path c.self.inside.versions.set.store log.number = c.self.invariant.1.0 ∙ ap (λ (s : List ℕ). log_path s log.number) (sym c.self.invariant.0) in
    let syncs = subst (λ p. SyncsRecords g.E.Env (record { path = p; writer = log.file.writer }) c.args.env.now c.sync.result c.sync.new.self c.sync.new.env) path c.sync.ensures in
    rw (← c.self.view_is) (sync_spares g.E.Env _ c.args.env.now c.self.invariant.1.1 _ _ _ (syncs_log g.E.Env _ c.args.env.now syncs))

pub returns-clause-batches : goal.returns-clause-batches
returns-clause-batches g c =
    let log = c.self.inside.log in
    let path : log.file.path ≡ log_path c.self.inside.versions.set.store log.number = c.self.invariant.1.0 ∙ ap (λ (s : List ℕ). log_path s log.number) (sym c.self.invariant.0) in
    let syncs = subst (λ p. SyncsRecords g.E.Env (record { path = p; writer = log.file.writer }) c.args.env.now c.sync.result c.sync.new.self c.sync.new.env) path c.sync.ensures in
    rw (← c.self.view_is) (syncs_batches g.E.Env (g.C.Cmp.cmp c.self.inside.cmp) _ c.args.env.now _ _ _ (syncs_log g.E.Env _ c.args.env.now syncs))

pub returns-clause-sound : goal.returns-clause-sound
returns-clause-sound g c =
    let log = c.self.inside.log in
    let path : log.file.path ≡ log_path c.self.inside.versions.set.store log.number = c.self.invariant.1.0 ∙ ap (λ (s : List ℕ). log_path s log.number) (sym c.self.invariant.0) in
    let syncs = subst (λ p. SyncsRecords g.E.Env (record { path = p; writer = log.file.writer }) c.args.env.now c.sync.result c.sync.new.self c.sync.new.env) path c.sync.ensures in
    rw (← c.self.view_is) (sync_sound g.E.Env (g.C.Cmp.cmp c.self.inside.cmp) _ c.args.env.now _ _ _ (syncs_log g.E.Env _ c.args.env.now syncs))
