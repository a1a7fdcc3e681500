use Rattle.std.proofs.Common.{◌≡◌, ◌∙◌, ◌+◌, ◌<◌, ◌^◌, List, ℕ, Ok, Err, Some, ap, arith, subst, sym}
use Rattle.std.specs.Prelude.{IsTrue, string_bytes}
use Rattle.std.proofs.lemmas.Result.{err_from_is_err_and}
use Rattle.leveldb_env.proofs.AppendedLemmas.{emptied_bytes, synced_bytes}
use Rattle.leveldb_base.specs.History.{AreUpTo}
use Rattle.leveldb_env.specs.Env.{BeforeOrAfter, ChangesFiles, emptied}
use Rattle.leveldb_mem.specs.Log.LogFile.{LogFileState}
use Rattle.leveldb_files.specs.Stores.Paths.{log_path}
use Rattle.leveldb_version_set.specs.Sets.CurrentVersion.{VersionsValue}
use Rattle.leveldb_files.specs.Edits.Edit.{Edit}
use Rattle.leveldb_version_set.specs.Sets.VersionSetValue.{VersionSetValue}
use Rattle.leveldb_store.proofs.Keeping.GivenNumbersLemmas.{live_given}
use Rattle.leveldb_store.specs.Keeping.OpenStore.{AreInLevels, HasOwnManifest}
use Rattle.leveldb_store.specs.Writing.Write.{SyncsLog}
use Rattle.leveldb_store.specs.Keeping.Written.{KeepsStore, SparesRest}
use Rattle.leveldb_store.proofs.Writing.SwitchLemmas.{after_giving, keeps_given, keeps_switched, keeps_unmade, spared_by_sync, switched, sync_made, unmade, unsynced, unsynced_keeps}
use Rattle.leveldb_store.proofs.Keeping.SoundLemmas.{call_goes_on, given_unbroken, goes_on_then, nothing_goes_on, sound_ok, sound_unbroken, sound_unsynced}
use Rattle.leveldb_store.specs.Keeping.SoundCall.{IsSoundCall, any_meaning}
use Rattle.leveldb_store.proofs.open_store.OpenStore.switch_log.Goals as goal

pub returns-in_err-path-clause-keeps : goal.returns-in_err-path-clause-keeps
returns-in_err-path-clause-keeps g c = λ modelled meaning allowed w.
    let old = c.args.self.now in
    let at = g.E.Env.observed c.args.env.now in
    let given = after_giving _ old c.self.view_is c.new_file_number.new.self c.in_ok-number.ensures.ok in
    subst (λ v. KeepsStore (g.C.Cmp.cmp old.cmp) meaning (λ store. IsTrue (allowed store)) old at v at) (sym given)
    (keeps_given (g.C.Cmp.cmp old.cmp) meaning (λ store. IsTrue (allowed store)) old at w)

pub returns-in_err-sync-clause-switches : goal.returns-in_err-sync-clause-switches
returns-in_err-sync-clause-switches g c =
    let old = c.args.self.now in
    let from = c.args.env.now in
    let status = c.in_err-sync.field-0.0 in
    let more : old.set.next_file + 1 < 2 ^ 64 = subst (λ v. v.set.next_file + 1 < 2 ^ 64) c.self.view_is c.in_ok-number.ensures.fits in
    let given = after_giving _ old c.self.view_is c.new_file_number.new.self c.in_ok-number.ensures.ok in
    let p = err_from_is_err_and c.from_residual-in_err-sync.result c.from_residual-in_err-sync.ensures.1 in
    rw (p.1, p.2)
    (unsynced g.E.Env old from more c.sync.new.self c.sync.new.env status
    (subst (λ v. SyncsLog g.E.Env v from (Err status) c.sync.new.self c.sync.new.env) given c.in_err-sync.ensures.syncs)
    (subst (λ v. SparesRest g.E.Env.models_disk v (g.E.Env.observed from) c.sync.new.self (g.E.Env.observed c.sync.new.env)) given c.in_err-sync.ensures.spares))

pub returns-in_err-sync-clause-keeps : goal.returns-in_err-sync-clause-keeps
returns-in_err-sync-clause-keeps g c = λ modelled meaning allowed w.
    let old = c.args.self.now in
    let from = c.args.env.now in
    let status = c.in_err-sync.field-0.0 in
    let given = after_giving _ old c.self.view_is c.new_file_number.new.self c.in_ok-number.ensures.ok in
    unsynced_keeps g.E.Env old from modelled (g.C.Cmp.cmp old.cmp) meaning (λ store. IsTrue (allowed store)) w c.sync.new.self c.sync.new.env status
    (subst (λ v. SyncsLog g.E.Env v from (Err status) c.sync.new.self c.sync.new.env) given c.in_err-sync.ensures.syncs)

pub returns-in_err-file-clause-switches : goal.returns-in_err-file-clause-switches
returns-in_err-file-clause-switches g c =
    let old = c.args.self.now in
    let from = c.args.env.now in
    let mid = c.sync.new.env in
    let to = c.make.new.env in
    let more : old.set.next_file + 1 < 2 ^ 64 = subst (λ v. v.set.next_file + 1 < 2 ^ 64) c.self.view_is c.in_ok-number.ensures.fits in
    let given = after_giving _ old c.self.view_is c.new_file_number.new.self c.in_ok-number.ensures.ok in
    let sync = sync_made g.E.Env from c.in_ok-sync.ensures.syncs.ok given mid c.in_ok-sync.ensures.syncs in
    let rest = spared_by_sync g.E.Env from c.in_ok-sync.ensures.syncs.ok given mid c.in_ok-sync.ensures.spares in
    let store = c.self.inside.versions.set.store in
    let number = c.in_ok-number.number in
    let path : string_bytes c.in_ok-path.path ≡ log_path old.set.store old.set.next_file = c.in_ok-path.ensures.ok
    ∙ ap (λ (s : List ℕ). log_path s number) (c.deref.ensures ∙ sym c.self.invariant.0) ∙ ap (log_path store) c.in_ok-number.ensures.number ∙ ap (λ v. log_path v.set.store v.set.next_file) c.self.view_is in
    let status = c.in_err-file.field-0.0 in
    let opening : ChangesFiles g.E.Env.models_disk (emptied (log_path old.set.store old.set.next_file)) (BeforeOrAfter (emptied (log_path old.set.store old.set.next_file))) (g.E.Env.observed mid) (g.E.Env.observed to) (Err status) =
    subst (λ s. ChangesFiles g.E.Env.models_disk (emptied s) (BeforeOrAfter (emptied s)) (g.E.Env.observed mid) (g.E.Env.observed to) (Err status)) path c.in_err-file.ensures.does in
    let p = err_from_is_err_and c.from_residual-in_err-file.result c.from_residual-in_err-file.ensures.1 in
    rw (p.1, p.2, c.in_ok-sync.ensures.syncs.ok ∙ given)
    (unmade g.E.Env old from more mid sync rest to (Err status) opening c.in_err-file.ensures.locks status c.in_err-file.ensures.cause)

pub returns-in_err-file-clause-keeps : goal.returns-in_err-file-clause-keeps
returns-in_err-file-clause-keeps g c = λ modelled meaning allowed w.
    let old = c.args.self.now in
    let from = c.args.env.now in
    let mid = c.sync.new.env in
    let to = c.make.new.env in
    let more : old.set.next_file + 1 < 2 ^ 64 = subst (λ v. v.set.next_file + 1 < 2 ^ 64) c.self.view_is c.in_ok-number.ensures.fits in
    let given = after_giving _ old c.self.view_is c.new_file_number.new.self c.in_ok-number.ensures.ok in
    let sync = sync_made g.E.Env from c.in_ok-sync.ensures.syncs.ok given mid c.in_ok-sync.ensures.syncs in
    let store = c.self.inside.versions.set.store in
    let number = c.in_ok-number.number in
    let path : string_bytes c.in_ok-path.path ≡ log_path old.set.store old.set.next_file = c.in_ok-path.ensures.ok
    ∙ ap (λ (s : List ℕ). log_path s number) (c.deref.ensures ∙ sym c.self.invariant.0) ∙ ap (log_path store) c.in_ok-number.ensures.number ∙ ap (λ v. log_path v.set.store v.set.next_file) c.self.view_is in
    let status = c.in_err-file.field-0.0 in
    let opening : ChangesFiles {T = LogFileState} g.E.Env.models_disk (emptied (log_path old.set.store old.set.next_file)) (BeforeOrAfter (emptied (log_path old.set.store old.set.next_file))) (g.E.Env.observed mid) (g.E.Env.observed to) (Err status) =
    subst (λ s. ChangesFiles {T = LogFileState} g.E.Env.models_disk (emptied s) (BeforeOrAfter (emptied s)) (g.E.Env.observed mid) (g.E.Env.observed to) (Err status)) path c.in_err-file.ensures.does in
    rw (c.in_ok-sync.ensures.syncs.ok ∙ given)
    (keeps_unmade (g.C.Cmp.cmp old.cmp) meaning (λ store. IsTrue (allowed store)) old (g.E.Env.observed from) w modelled (g.E.Env.observed mid) (g.E.Env.observed to) (sync.does modelled) (Err status) opening more)

pub returns-clause-switches : goal.returns-clause-switches
returns-clause-switches g c =
    let old = c.args.self.now in
    let from = c.args.env.now in
    let mid = c.sync.new.env in
    let to = c.make.new.env in
    let more : old.set.next_file + 1 < 2 ^ 64 = subst (λ v. v.set.next_file + 1 < 2 ^ 64) c.self.view_is c.in_ok-number.ensures.fits in
    let given = after_giving _ old c.self.view_is c.new_file_number.new.self c.in_ok-number.ensures.ok in
    let sync = sync_made g.E.Env from c.in_ok-sync.ensures.syncs.ok given mid c.in_ok-sync.ensures.syncs in
    let rest = spared_by_sync g.E.Env from c.in_ok-sync.ensures.syncs.ok given mid c.in_ok-sync.ensures.spares in
    let store = c.self.inside.versions.set.store in
    let number = c.in_ok-number.number in
    let path : string_bytes c.in_ok-path.path ≡ log_path old.set.store old.set.next_file = c.in_ok-path.ensures.ok
    ∙ ap (λ (s : List ℕ). log_path s number) (c.deref.ensures ∙ sym c.self.invariant.0) ∙ ap (log_path store) c.in_ok-number.ensures.number ∙ ap (λ v. log_path v.set.store v.set.next_file) c.self.view_is in
    let opening : ChangesFiles g.E.Env.models_disk (emptied (log_path old.set.store old.set.next_file)) (BeforeOrAfter (emptied (log_path old.set.store old.set.next_file))) (g.E.Env.observed mid) (g.E.Env.observed to) (Ok c.in_ok-file.file) =
    subst (λ s. ChangesFiles g.E.Env.models_disk (emptied s) (BeforeOrAfter (emptied s)) (g.E.Env.observed mid) (g.E.Env.observed to) (Ok c.in_ok-file.file)) path c.in_ok-file.ensures.does in
    let same = c.self-2.view_is ∙ c.in_ok-sync.ensures.syncs.ok ∙ given in
    let number_is = c.in_ok-number.ensures.number ∙ ap (λ v. v.set.next_file) c.self.view_is in
    switched g.E.Env old from more mid sync rest to (Ok c.in_ok-file.file) opening c.in_ok-file.ensures.locks _
    (ap (λ v. v.cmp) same) (ap (λ v. v.kept_to) same) (ap (λ v. v.current) same) (ap (λ v. v.set) same) (λ i. record { number = number_is i; writer = (c.in_ok-file.ensures.log i).writer })
    (ap (λ m. m.kept.entries) c.replace.ensures.after ∙ c.new-fresh.ensures.entries)
    (ap (λ m. m.kept.places) c.replace.ensures.after ∙ c.new-fresh.ensures.places)
    (ap (λ m. Some m.kept) c.replace.ensures.value ∙ ap (λ v. Some v.mem) same) c.in_ok-file.ensures.cause.ok

pub returns-clause-keeps : goal.returns-clause-keeps
returns-clause-keeps g c = λ modelled meaning allowed w.
    let old = c.args.self.now in
    let from = c.args.env.now in
    let mid = c.sync.new.env in
    let to = c.make.new.env in
    let more : old.set.next_file + 1 < 2 ^ 64 = subst (λ v. v.set.next_file + 1 < 2 ^ 64) c.self.view_is c.in_ok-number.ensures.fits in
    let given = after_giving _ old c.self.view_is c.new_file_number.new.self c.in_ok-number.ensures.ok in
    let sync = sync_made g.E.Env from c.in_ok-sync.ensures.syncs.ok given mid c.in_ok-sync.ensures.syncs in
    let store = c.self.inside.versions.set.store in
    let number = c.in_ok-number.number in
    let path : string_bytes c.in_ok-path.path ≡ log_path old.set.store old.set.next_file = c.in_ok-path.ensures.ok
    ∙ ap (λ (s : List ℕ). log_path s number) (c.deref.ensures ∙ sym c.self.invariant.0) ∙ ap (log_path store) c.in_ok-number.ensures.number ∙ ap (λ v. log_path v.set.store v.set.next_file) c.self.view_is in
    let opening : ChangesFiles g.E.Env.models_disk (emptied (log_path old.set.store old.set.next_file)) (BeforeOrAfter (emptied (log_path old.set.store old.set.next_file))) (g.E.Env.observed mid) (g.E.Env.observed to) (Ok c.in_ok-file.file) =
    subst (λ s. ChangesFiles g.E.Env.models_disk (emptied s) (BeforeOrAfter (emptied s)) (g.E.Env.observed mid) (g.E.Env.observed to) (Ok c.in_ok-file.file)) path c.in_ok-file.ensures.does in
    let same = c.self-2.view_is ∙ c.in_ok-sync.ensures.syncs.ok ∙ given in
    let number = c.in_ok-number.ensures.number ∙ ap (λ v. v.set.next_file) c.self.view_is in
    keeps_switched (g.C.Cmp.cmp old.cmp) meaning (λ store. IsTrue (allowed store)) old (g.E.Env.observed from) w modelled (g.E.Env.observed mid) (g.E.Env.observed to) (sync.does modelled) (Ok c.in_ok-file.file) opening more _
    (record {
      set = ap (λ v. v.set) same;
      log = λ i. record { number = number i; writer = (c.in_ok-file.ensures.log i).writer };
      mem = ap (λ m. m.kept.entries) c.replace.ensures.after ∙ c.new-fresh.ensures.entries;
      imm = ap (λ m. Some m.kept) c.replace.ensures.value ∙ ap (λ v. Some v.mem) same;
    })
    c.requires.none_waits (opening.ok modelled)

pub invariant_of-self-in_err-path : goal.invariant_of-self-in_err-path
invariant_of-self-in_err-path g c =
    let versions = c.in_ok-number.ensures.ok in
    let given = ap (λ (v : VersionsValue g.row.C.Denot). v.set) versions in (
      ap (λ set. set.store) given ∙ c.self.invariant.0,
      c.self.invariant.1,
      c.self.invariant.2,
      c.self.invariant.3,
      λ modelled. subst HasOwnManifest (sym given) (c.self.invariant.4 modelled),
      λ e. c.self.invariant.5 (sym (ap (λ set. set.manifest) given) ∙ e),
      subst (λ set. AreUpTo set.last_sequence c.self.inside.mem.kept.entries) (sym given) c.self.invariant.6,
      c.self.invariant.7,
      ap (λ (v : VersionsValue g.row.C.Denot). v.current.cmp) versions ∙ c.self.invariant.8,
      live_given c.self.inside.versions.set c.new_file_number.new.self.set (ap (λ (s : VersionSetValue). s.full) given) (omega (arith, ap (λ (s : VersionSetValue). s.next_file) given)) c.self.invariant.9,
      subst (λ (full : Edit). AreInLevels g.E.Env.models_disk (g.C.Cmp.cmp c.self.inside.cmp) full.added) (sym (ap (λ (s : VersionSetValue). s.full) given)) c.self.invariant.10,
    )

pub invariant_of-self-2 : goal.invariant_of-self-2
invariant_of-self-2 g c =
    let versions = c.in_ok-number.ensures.ok in
    let given = ap (λ (v : VersionsValue g.row.C.Denot). v.set) versions in (
      ap (λ set. set.store) given ∙ c.self.invariant.0,
      c.self.invariant.1,
      c.self.invariant.2,
      c.self.invariant.3,
      λ modelled. subst HasOwnManifest (sym given) (c.self.invariant.4 modelled),
      λ e. c.self.invariant.5 (sym (ap (λ set. set.manifest) given) ∙ e),
      subst (λ set. AreUpTo set.last_sequence c.self.inside.mem.kept.entries) (sym given) c.self.invariant.6,
      c.self.invariant.7,
      ap (λ (v : VersionsValue g.row.C.Denot). v.current.cmp) versions ∙ c.self.invariant.8,
      live_given c.self.inside.versions.set c.new_file_number.new.self.set (ap (λ (s : VersionSetValue). s.full) given) (omega (arith, ap (λ (s : VersionSetValue). s.next_file) given)) c.self.invariant.9,
      subst (λ (full : Edit). AreInLevels g.E.Env.models_disk (g.C.Cmp.cmp c.self.inside.cmp) full.added) (sym (ap (λ (s : VersionSetValue). s.full) given)) c.self.invariant.10,
    )

pub invariant_of-self : goal.invariant_of-self
invariant_of-self g c =
    let versions = c.in_err-number.ensures.err in
    let same = ap (λ (v : VersionsValue g.row.C.Denot). v.set) versions in (
      ap (λ set. set.store) same ∙ c.self.invariant.0,
      c.self.invariant.1,
      c.self.invariant.2,
      c.self.invariant.3,
      λ modelled. subst HasOwnManifest (sym same) (c.self.invariant.4 modelled),
      λ e. c.self.invariant.5 (sym (ap (λ set. set.manifest) same) ∙ e),
      subst (λ set. AreUpTo set.last_sequence c.self.inside.mem.kept.entries) (sym same) c.self.invariant.6,
      c.self.invariant.7,
      ap (λ (v : VersionsValue g.row.C.Denot). v.current.cmp) versions ∙ c.self.invariant.8,
      live_given c.self.inside.versions.set c.new_file_number.new.self.set (ap (λ (s : VersionSetValue). s.full) same) (omega (arith, ap (λ (s : VersionSetValue). s.next_file) same)) c.self.invariant.9,
      subst (λ (full : Edit). AreInLevels g.E.Env.models_disk (g.C.Cmp.cmp c.self.inside.cmp) full.added) (sym (ap (λ (s : VersionSetValue). s.full) same)) c.self.invariant.10,
    )

-- ---- time and bytes, and what breaks the store

pub returns-in_err-path-clause-sound : goal.returns-in_err-path-clause-sound
returns-in_err-path-clause-sound g c =
    let old = c.args.self.now in
    let from = c.args.env.now in
    let given = after_giving _ old c.self.view_is c.new_file_number.new.self c.in_ok-number.ensures.ok in
    let p = err_from_is_err_and c.from_residual-in_err-path.result c.from_residual-in_err-path.ensures.1 in
    rw p.1
    (subst (λ v. IsSoundCall {T = Unit {0}} g.E.Env (g.C.Cmp.cmp old.cmp) any_meaning old from (Err p.0) v from) (sym given)
    (sound_unbroken g.E.Env (g.C.Cmp.cmp old.cmp) any_meaning old from p.0 _ from (nothing_goes_on g.E.Env from) (given_unbroken old)))

pub returns-in_err-sync-clause-sound : goal.returns-in_err-sync-clause-sound
returns-in_err-sync-clause-sound g c =
    let old = c.args.self.now in
    let from = c.args.env.now in
    let status = c.in_err-sync.field-0.0 in
    let given = after_giving _ old c.self.view_is c.new_file_number.new.self c.in_ok-number.ensures.ok in
    let p = err_from_is_err_and c.from_residual-in_err-sync.result c.from_residual-in_err-sync.ensures.1 in
    rw (p.1, p.2)
    (sound_unsynced g.E.Env (g.C.Cmp.cmp old.cmp) any_meaning old from status c.sync.new.self c.sync.new.env
    (subst (λ v. SyncsLog g.E.Env v from (Err status) c.sync.new.self c.sync.new.env) given c.in_err-sync.ensures.syncs))

pub returns-in_err-file-clause-sound : goal.returns-in_err-file-clause-sound
returns-in_err-file-clause-sound g c =
    let old = c.args.self.now in
    let from = c.args.env.now in
    let mid = c.sync.new.env in
    let to = c.make.new.env in
    let status = c.in_err-file.field-0.0 in
    let given = after_giving _ old c.self.view_is c.new_file_number.new.self c.in_ok-number.ensures.ok in
    let sync = sync_made g.E.Env from c.in_ok-sync.ensures.syncs.ok given mid c.in_ok-sync.ensures.syncs in
    let p = err_from_is_err_and c.from_residual-in_err-file.result c.from_residual-in_err-file.ensures.1 in
    rw (p.1, p.2, c.in_ok-sync.ensures.syncs.ok ∙ given)
    (sound_unbroken g.E.Env (g.C.Cmp.cmp old.cmp) any_meaning old from status _ to
    (goes_on_then g.E.Env (call_goes_on g.E.Env from mid sync.does (synced_bytes _))
    (call_goes_on g.E.Env mid to (λ modelled. c.in_err-file.ensures.does) (emptied_bytes _))) (given_unbroken old))

pub returns-clause-sound : goal.returns-clause-sound
returns-clause-sound g c =
    let old = c.args.self.now in
    let from = c.args.env.now in
    let mid = c.sync.new.env in
    let to = c.make.new.env in
    let given = after_giving _ old c.self.view_is c.new_file_number.new.self c.in_ok-number.ensures.ok in
    let sync = sync_made g.E.Env from c.in_ok-sync.ensures.syncs.ok given mid c.in_ok-sync.ensures.syncs in
    sound_ok g.E.Env (g.C.Cmp.cmp old.cmp) any_meaning old from tt _ to
    (goes_on_then g.E.Env (call_goes_on g.E.Env from mid sync.does (synced_bytes _))
    (call_goes_on g.E.Env mid to (λ modelled. c.in_ok-file.ensures.does) (emptied_bytes _)))
