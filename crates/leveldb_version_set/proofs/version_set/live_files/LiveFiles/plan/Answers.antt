use Rattle.std.proofs.Common.{◌≡◌, ◌∙◌, rules, subst, sym}
use Rattle.std.specs.Prelude.{if◌then◌else◌, string_bytes}
use Rattle.std.proofs.lemmas.Result.{IfOk-from_err, err_from_is_err_and}
use Rattle.leveldb_mem.specs.Log.{bad, clean}
use Rattle.leveldb_version_set.specs.Sets.RecoverSteps.{IsManifestAt, IsManifestRead}
use Rattle.leveldb_version.proofs.ExitLemmas.{still_then, uncounted}
use Rattle.leveldb_version_set.proofs.Sets.RecoverLemmas.{current_refused, manifest_read, named_unread, plan_made, plan_unread, plan_unusable, plan_used_up}
use Rattle.leveldb_version_set.proofs.version_set.live_files.LiveFiles.plan.Goals as goal

pub returns-in_err-path-clause-cause : goal.returns-in_err-path-clause-cause
returns-in_err-path-clause-cause g c =
    let p = err_from_is_err_and c.from_residual.result c.from_residual.ensures.1 in
    let store : c.deref.result.now ≡ c.args.self.now.store = search rules in
    let unread = current_refused g.E.Env.models_disk c.deref.result.now (g.E.Env.observed c.args.env.now) {U = Unit {0}} (g.E.Env.failures c.args.env.now) (g.E.Env.failures c.named_manifest.new.env) c.in_err-path.field-0.0 c.in_err-path.ensures.cause in
    rw (p.1, p.2) (plan_unread g.E.Env.models_disk (g.C.Cmp.cmp c.args.options.now.cmp) (g.C.Cmp.name c.args.options.now.cmp) c.args.options.now.reuse_manifest c.args.options.now.max_file_size c.args.self.now
    (g.E.Env.observed c.args.env.now) c.deref.result.now (g.E.Env.failures c.args.env.now) (g.E.Env.failures c.named_manifest.new.env) c.in_err-path.field-0.0 store unread)

pub returns-in_err-left-clause-cause : goal.returns-in_err-left-clause-cause
returns-in_err-left-clause-cause g c =
    let p = err_from_is_err_and c.from_residual-in_err-left.result c.from_residual-in_err-left.ensures.1 in
    let store : c.deref.result.now ≡ c.args.self.now.store = search rules in
    let unread = named_unread g.E.Env.models_disk c.deref.result.now (g.E.Env.observed c.args.env.now) {U = Unit {0}} c.deref-2.result.now c.in_ok-path.ensures.ok.name c.in_ok-path.number (g.E.Env.observed c.named_manifest.new.env)
    (g.E.Env.failures c.args.env.now) (g.E.Env.failures c.named_manifest.new.env) (g.E.Env.failures c.read_manifest.new.env) c.in_err-left.field-0.0 (c.deref-2.ensures ∙ c.in_ok-path.ensures.ok.path_is)
    c.in_ok-path.ensures.ok.named (λ modelled. (c.named_manifest.ensures.still modelled).has) c.in_ok-path.ensures.cause.ok c.in_err-left.ensures.cause in
    rw (p.1, p.2) (plan_unread g.E.Env.models_disk (g.C.Cmp.cmp c.args.options.now.cmp) (g.C.Cmp.name c.args.options.now.cmp) c.args.options.now.reuse_manifest c.args.options.now.max_file_size c.args.self.now
    (g.E.Env.observed c.args.env.now) c.deref.result.now (g.E.Env.failures c.args.env.now) (g.E.Env.failures c.read_manifest.new.env) c.in_err-left.field-0.0 store unread)

pub returns-in_err-check_usable-clause-cause : goal.returns-in_err-check_usable-clause-cause
returns-in_err-check_usable-clause-cause g c =
    let p = err_from_is_err_and c.from_residual-in_err-check_usable.result c.from_residual-in_err-check_usable.ensures.1 in
    let store : c.deref.result.now ≡ c.args.self.now.store = search rules in
    let path = string_bytes c.in_ok-path.path in
    let end = if c.in_ok-left.is_clean then clean else bad in
    let replay = c.in_ok-left.ensures.ok in
    let at : IsManifestAt g.E.Env.models_disk c.args.self.now.store (g.E.Env.observed c.args.env.now).disk.files path c.in_ok-path.number =
    subst (λ s. IsManifestAt g.E.Env.models_disk s (g.E.Env.observed c.args.env.now).disk.files path c.in_ok-path.number) store c.in_ok-path.ensures.ok in
    let read : IsManifestRead g.E.Env.models_disk c.args.self.now.store (g.E.Env.observed c.args.env.now).disk.files path c.in_ok-path.number replay.records end c.in_ok-left.size =
    manifest_read g.E.Env.models_disk c.args.self.now.store (g.E.Env.observed c.args.env.now) (g.E.Env.observed c.named_manifest.new.env) path c.deref-2.result.now c.in_ok-path.number replay.records end c.in_ok-left.size
    at (λ modelled. (c.named_manifest.ensures.still modelled).has) c.deref-2.ensures replay.log in
    let same = c.in_ok-left.ensures.cause.ok ∙ c.in_ok-path.ensures.cause.ok in
    rw (p.1, p.2) (plan_unusable g.E.Env.models_disk (g.C.Cmp.cmp c.args.options.now.cmp) (g.C.Cmp.name c.args.options.now.cmp) c.args.options.now.reuse_manifest c.args.options.now.max_file_size c.args.self.now
    (g.E.Env.observed c.args.env.now) path c.in_ok-path.number replay.records end c.in_ok-left.size read (g.E.Env.failures c.args.env.now) (g.E.Env.failures c.read_manifest.new.env) same c.in_ok-left.left replay.replayed
    c.in_err-check_usable.field-0.0 c.in_err-check_usable.ensures.cause)

pub returns-in_err-next_file-clause-cause : goal.returns-in_err-next_file-clause-cause
returns-in_err-next_file-clause-cause g c =
    let p = err_from_is_err_and c.from_residual-in_err-next_file.result c.from_residual-in_err-next_file.ensures.1 in
    let store : c.deref.result.now ≡ c.args.self.now.store = search rules in
    let next : c.self.inside.next_file ≡ c.args.self.now.next_file = search rules in
    let path = string_bytes c.in_ok-path.path in
    let end = if c.in_ok-left.is_clean then clean else bad in
    let replay = c.in_ok-left.ensures.ok in
    let at : IsManifestAt g.E.Env.models_disk c.args.self.now.store (g.E.Env.observed c.args.env.now).disk.files path c.in_ok-path.number =
    subst (λ s. IsManifestAt g.E.Env.models_disk s (g.E.Env.observed c.args.env.now).disk.files path c.in_ok-path.number) store c.in_ok-path.ensures.ok in
    let read : IsManifestRead g.E.Env.models_disk c.args.self.now.store (g.E.Env.observed c.args.env.now).disk.files path c.in_ok-path.number replay.records end c.in_ok-left.size =
    manifest_read g.E.Env.models_disk c.args.self.now.store (g.E.Env.observed c.args.env.now) (g.E.Env.observed c.named_manifest.new.env) path c.deref-2.result.now c.in_ok-path.number replay.records end c.in_ok-left.size
    at (λ modelled. (c.named_manifest.ensures.still modelled).has) c.deref-2.ensures replay.log in
    let same = c.in_ok-left.ensures.cause.ok ∙ c.in_ok-path.ensures.cause.ok in
    rw (p.1, p.2) (plan_used_up g.E.Env.models_disk (g.C.Cmp.cmp c.args.options.now.cmp) (g.C.Cmp.name c.args.options.now.cmp) c.args.options.now.reuse_manifest c.args.options.now.max_file_size c.args.self.now
    (g.E.Env.observed c.args.env.now) path c.in_ok-path.number replay.records end c.in_ok-left.size read (g.E.Env.failures c.args.env.now) (g.E.Env.failures c.read_manifest.new.env) same c.in_ok-left.left replay.replayed
    c.in_err-next_file.field-0.0 (rw (sym next) c.in_err-next_file.ensures.cause))

pub returns-clause-ok : goal.returns-clause-ok
returns-clause-ok g c =
    let store : c.deref.result.now ≡ c.args.self.now.store = search rules in
    let next : c.self.inside.next_file ≡ c.args.self.now.next_file = search rules in
    let path = string_bytes c.in_ok-path.path in
    let end = if c.in_ok-left.is_clean then clean else bad in
    let replay = c.in_ok-left.ensures.ok in
    let at : IsManifestAt g.E.Env.models_disk c.args.self.now.store (g.E.Env.observed c.args.env.now).disk.files path c.in_ok-path.number =
    subst (λ s. IsManifestAt g.E.Env.models_disk s (g.E.Env.observed c.args.env.now).disk.files path c.in_ok-path.number) store c.in_ok-path.ensures.ok in
    let read : IsManifestRead g.E.Env.models_disk c.args.self.now.store (g.E.Env.observed c.args.env.now).disk.files path c.in_ok-path.number replay.records end c.in_ok-left.size =
    manifest_read g.E.Env.models_disk c.args.self.now.store (g.E.Env.observed c.args.env.now) (g.E.Env.observed c.named_manifest.new.env) path c.deref-2.result.now c.in_ok-path.number replay.records end c.in_ok-left.size
    at (λ modelled. (c.named_manifest.ensures.still modelled).has) c.deref-2.ensures replay.log in
    plan_made g.E.Env.models_disk (g.C.Cmp.cmp c.args.options.now.cmp) (g.C.Cmp.name c.args.options.now.cmp) c.args.options.now.reuse_manifest c.args.options.now.max_file_size c.args.self.now
    (g.E.Env.observed c.args.env.now) _ replay.records c.in_ok-left.is_clean read replay.replayed c.in_ok-check_usable.ensures.ok
    (rw (sym next) c.in_ok-next_file.ensures.ok) c.in_ok-next_file.ensures.fits c.is_reusable-reuses.ensures

pub returns-in_err-path-clause-still : goal.returns-in_err-path-clause-still
returns-in_err-path-clause-still g c = c.named_manifest.ensures.still

pub returns-in_err-path-clause-locks : goal.returns-in_err-path-clause-locks
returns-in_err-path-clause-locks g c = c.named_manifest.ensures.locks

pub returns-in_err-path-clause-ok : goal.returns-in_err-path-clause-ok
returns-in_err-path-clause-ok g c = IfOk-from_err c.from_residual.result _ c.from_residual.ensures.0

pub returns-in_err-left-clause-still : goal.returns-in_err-left-clause-still
returns-in_err-left-clause-still g c = λ modelled. still_then (c.named_manifest.ensures.still modelled) (c.read_manifest.ensures.still modelled)

pub returns-in_err-left-clause-locks : goal.returns-in_err-left-clause-locks
returns-in_err-left-clause-locks g c = λ modelled. c.read_manifest.ensures.locks modelled ∙ c.named_manifest.ensures.locks modelled

pub returns-in_err-left-clause-ok : goal.returns-in_err-left-clause-ok
returns-in_err-left-clause-ok g c = IfOk-from_err c.from_residual-in_err-left.result _ c.from_residual-in_err-left.ensures.0

pub returns-in_err-check_usable-clause-still : goal.returns-in_err-check_usable-clause-still
returns-in_err-check_usable-clause-still g c = λ modelled. still_then (c.named_manifest.ensures.still modelled) (c.read_manifest.ensures.still modelled)

pub returns-in_err-check_usable-clause-locks : goal.returns-in_err-check_usable-clause-locks
returns-in_err-check_usable-clause-locks g c = λ modelled. c.read_manifest.ensures.locks modelled ∙ c.named_manifest.ensures.locks modelled

pub returns-in_err-check_usable-clause-ok : goal.returns-in_err-check_usable-clause-ok
returns-in_err-check_usable-clause-ok g c = IfOk-from_err c.from_residual-in_err-check_usable.result _ c.from_residual-in_err-check_usable.ensures.0

pub returns-in_err-next_file-clause-still : goal.returns-in_err-next_file-clause-still
returns-in_err-next_file-clause-still g c = λ modelled. still_then (c.named_manifest.ensures.still modelled) (c.read_manifest.ensures.still modelled)

pub returns-in_err-next_file-clause-locks : goal.returns-in_err-next_file-clause-locks
returns-in_err-next_file-clause-locks g c = λ modelled. c.read_manifest.ensures.locks modelled ∙ c.named_manifest.ensures.locks modelled

pub returns-in_err-next_file-clause-ok : goal.returns-in_err-next_file-clause-ok
returns-in_err-next_file-clause-ok g c = IfOk-from_err c.from_residual-in_err-next_file.result _ c.from_residual-in_err-next_file.ensures.0

pub returns-clause-still : goal.returns-clause-still
returns-clause-still g c = λ modelled. still_then (c.named_manifest.ensures.still modelled) (c.read_manifest.ensures.still modelled)

pub returns-clause-locks : goal.returns-clause-locks
returns-clause-locks g c = λ modelled. c.read_manifest.ensures.locks modelled ∙ c.named_manifest.ensures.locks modelled

pub returns-clause-cause : goal.returns-clause-cause
returns-clause-cause g c = uncounted (c.in_ok-left.ensures.cause.ok ∙ c.in_ok-path.ensures.cause.ok)
