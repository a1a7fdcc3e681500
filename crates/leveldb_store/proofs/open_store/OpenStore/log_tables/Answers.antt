use Rattle.std.proofs.Common.{◌∙◌, ap, subst, sym}
use Rattle.std.specs.Prelude.{OnOk}
use Rattle.leveldb_base.specs.History.{AreUpTo}
use Rattle.leveldb_version.specs.Versions.Change.{IsVersionAfter}
use Rattle.leveldb_version_set.specs.Sets.LogEdit.{LogEditResult}
use Rattle.leveldb_version.specs.Edits.VersionEdit.{edit_of}
use Rattle.leveldb_store.proofs.Keeping.CurrentVersionLemmas.{current_by, logged_cmp, unlogged_store}
use Rattle.leveldb_store.proofs.Writing.Level0TableLemmas.{KeepsManifest, in_use_of, keeps_manifest, logged_given, logged_levels, own_again}
use Rattle.leveldb_store.proofs.open_store.OpenStore.log_tables.Goals as goal

pub invariant_of-self : goal.invariant_of-self
invariant_of-self g c =
    let old = c.self.inside.versions.set in
    let new = c.log_and_apply.new.self.set in
    let used = in_use_of old.manifest c.self.invariant.5 (λ e. c.requires.usable (ap (λ v. v.set.manifest) (sym c.self.view_is) ∙ e)) in
    let logged : LogEditResult g.E.Env.models_disk old (edit_of c.args.edit) (g.E.Env.observed c.args.env.now) (g.E.Env.failures c.args.env.now) c.log_and_apply.result new (g.E.Env.observed c.log_and_apply.new.env) (g.E.Env.failures c.log_and_apply.new.env) =
    c.log_and_apply.ensures.log in
    let appends = logged.used c.requires.fits used.0 used.1 in
    let levels = rw (← c.self.view_is) at c.requires.levels in
    let kept : KeepsManifest old new = keeps_manifest used.0 used.1 c.log_and_apply.result appends in (
      kept.store ∙ c.self.invariant.0,
      c.self.invariant.1,
      c.self.invariant.2,
      c.self.invariant.3,
      λ modelled. own_again old new kept (c.self.invariant.4 modelled),
      kept.made,
      subst (λ n. AreUpTo n c.self.inside.mem.kept.entries) (sym kept.last) c.self.invariant.6,
      c.self.invariant.7,
      logged_cmp _ _ _ _ c.log_and_apply.result c.log_and_apply.ensures.ok c.log_and_apply.ensures.err ∙ c.self.invariant.8,
      logged_given c.log_and_apply.result appends c.self.invariant.9 (rw (← c.self.view_is) at c.requires.given),
      logged_levels (g.C.Cmp.cmp c.self.inside.cmp) c.log_and_apply.result appends c.self.invariant.10
          (levels (current_by g.C.Cmp c.self.invariant.8 c.log_and_apply.ensures.current)),
    )

pub returns-clause-logs : goal.returns-clause-logs
returns-clause-logs g c =
    let logged = c.log_and_apply.ensures.log in
    rw (← c.self.view_is) (logged.used c.requires.fits)

pub returns-clause-current : goal.returns-clause-current
returns-clause-current g c =
    rw (← c.self.view_is) (subst (λ m. OnOk c.log_and_apply.result
    (IsVersionAfter (g.C.Cmp.cmp m) (edit_of c.args.edit) c.self.inside.versions.current
    c.log_and_apply.new.self.current)) c.self.invariant.8 c.log_and_apply.ensures.ok)

pub returns-clause-err : goal.returns-clause-err
returns-clause-err g c =
    unlogged_store _ c.args.self.now c.self.view_is c.log_and_apply.new.self c.log_and_apply.result c.log_and_apply.ensures.err

pub returns-clause-bytes : goal.returns-clause-bytes
returns-clause-bytes g c = rw (← c.self.view_is) c.log_and_apply.ensures.bytes
