use Rattle.std.proofs.Common.{◌≡◌, ◌∙◌, ◌<◌, ◌^◌, None, false, Some, ⊎_elim, ap, arith, inl, inr, refl, rules, subst, sym}
use Rattle.std.proofs.lemmas.Result.{IfOk-from_err, err_from_is_err_and}
use Rattle.leveldb_base.specs.Error.{IsOutOfMemory}
use Rattle.leveldb_env.proofs.EnvLemmas.{begun}
use Rattle.leveldb_env.specs.Env.{AreBytes}
use Rattle.std.specs.Option.{unwrap_or}
use Rattle.leveldb_mem.specs.Log.Writer.{after_frame}
use Rattle.leveldb_version.specs.Edits.FullEdit.{full_after}
use Rattle.leveldb_version.proofs.ExitLemmas.{cause_passed}
use Rattle.leveldb_version_set.specs.Sets.LogEdit.{BeginsManifest, edit_record, written_edit}
use Rattle.leveldb_files.specs.Edits.Edit.{Edit, edit_bytes}
use Rattle.leveldb_version.specs.Edits.VersionEdit.{edit_of}
use Rattle.leveldb_version_set.specs.Sets.VersionSetValue.{OpenManifest, VersionSetValue, manifest_state}
use Rattle.leveldb_version_set.proofs.Sets.LogEditLemmas.{appended_view, broken_view, has_bytes, is_made, is_so, log_of, none_used, not_appended, not_begun, same_view, state_of, used_one}
use Rattle.leveldb_version_set.proofs.version_set.live_files.LiveFiles.log.Goals as goal

pub append_record-appended-requires-clause-some : goal.append_record-appended-requires-clause-some
append_record-appended-requires-clause-some g c = λ none. has_bytes (edit_of c.args.edit) c.requires.numbered (sym c.in_ok-text.ensures.ok ∙ sym c.deref.ensures.value ∙ none)

pub returns-in_err-appended-clause-used : goal.returns-in_err-appended-clause-used
returns-in_err-appended-clause-used g c = λ logged is manifest used.
    let p = err_from_is_err_and c.from_residual-in_err-appended.result c.from_residual-in_err-appended.ensures.1 in
    let made : c.self.inside.manifest ≡ Some c.in-Some.manifest = search rules in
    let both = used_one c.self.inside.broken c.in-Some.manifest manifest (ap (manifest_state c.self.inside.broken) (sym made) ∙ ap (λ (s : VersionSetValue). s.manifest) c.self.view_is ∙ used) in
    let text : c.deref.result.now ≡ edit_record c.args.self.now logged = c.deref.ensures.value ∙ c.in_ok-text.ensures.ok ∙ ap edit_bytes is in
    let usable : c.in-Some.manifest.writer.broken ≡ false = search rules in
    let held : c.is_broken-self-inside.result ≡ c.append_record-appended.new.manifest.writer.broken = search rules in
    let does = rw (both.1, text) at c.in_err-appended.ensures.does in
    rw (p.1, p.2) (record {
      does = does;
      ok = tt;
      err = ⊎_elim
          (λ memory. inl (
            memory.0,
            same_view _ _ c.self.view_is c.in_ok-reserve.ensures.same
                (state_of c.is_broken-self-inside.result c.append_record-appended.new.manifest c.in-Some.manifest (held ∙ ap (λ (m : OpenManifest). m.writer.broken) memory.1 ∙ usable) memory.1
                ∙ sym (ap (manifest_state c.self.inside.broken) made ∙ state_of c.self.inside.broken c.in-Some.manifest c.in-Some.manifest both.0 refl)),
            memory.2,
          ))
          (λ stops. inr (broken_view _ _ c.self.view_is c.in_ok-reserve.ensures.same (is_so c.is_broken-self-inside.result (Some c.append_record-appended.new.manifest) (held ∙ stops))))
          c.in_err-appended.ensures.err;
      cause = rw both.1 at c.in_err-appended.ensures.cause;
    })

pub returns-in_err-appended-clause-not_made : goal.returns-in_err-appended-clause-not_made
returns-in_err-appended-clause-not_made g c = λ logged is none.
    let made : c.self.inside.manifest ≡ Some c.in-Some.manifest = search rules in
    absurd (is_made c.self.inside.broken c.in-Some.manifest (ap (manifest_state c.self.inside.broken) (sym made) ∙ ap (λ (s : VersionSetValue). s.manifest) c.self.view_is ∙ none))

pub returns-clause-not_made : goal.returns-clause-not_made
returns-clause-not_made g c = λ logged is none.
    let made : c.self.inside.manifest ≡ Some c.in-Some.manifest = search rules in
    absurd (is_made c.self.inside.broken c.in-Some.manifest (ap (manifest_state c.self.inside.broken) (sym made) ∙ ap (λ (s : VersionSetValue). s.manifest) c.self.view_is ∙ none))

pub returns-in_err-text : goal.returns-in_err-text
returns-in_err-text g c =
    let exit = c.from_residual in
    let memory = cause_passed IsOutOfMemory exit.result c.in_err-text.field-0.0 exit.ensures.1 c.in_err-text.ensures.memory in
    record {
      used = λ logged is manifest used. not_appended exit.result exit.ensures.0 memory refl;
      not_made = λ logged is none. not_begun exit.result exit.ensures.0 memory refl;
      bytes = λ logged is manifest used. inr (IfOk-from_err exit.result _ exit.ensures.0, λ modelled. begun (g.E.Env.observed c.args.env.now) refl);
      locks = λ modelled. refl;
    }

pub returns-in_default : goal.returns-in_default
returns-in_default g c =
    let state : manifest_state c.self.inside.broken None ≡ c.args.self.now.manifest =
    ap (manifest_state c.self.inside.broken) (sym c.in_default.is) ∙ ap (λ (s : VersionSetValue). s.manifest) c.self.view_is in
    let Begins : VersionSetValue → Type 0 = λ set. (logged : Edit) → edit_of c.args.edit ≡ written_edit set logged
    → BeginsManifest g.E.Env.models_disk set logged (g.E.Env.observed c.args.env.now) (g.E.Env.failures c.args.env.now) c.begin_manifest.result c.begin_manifest.new.self
    (g.E.Env.observed c.begin_manifest.new.env) (g.E.Env.failures c.begin_manifest.new.env) in
    record {
      used = λ logged is manifest used. absurd (none_used c.self.inside.broken manifest (state ∙ used));
      not_made = λ logged is none. subst Begins c.self.view_is c.begin_manifest.ensures.begins logged is;
      bytes = λ logged is manifest used. absurd (none_used c.self.inside.broken manifest (state ∙ used));
      locks = c.begin_manifest.ensures.locks;
    }

pub returns-in_err-reserve : goal.returns-in_err-reserve
returns-in_err-reserve g c =
    let exit = c.from_residual-in_err-reserve in
    let memory = cause_passed IsOutOfMemory exit.result c.in_err-reserve.field-0.0 exit.ensures.1 c.in_err-reserve.ensures.memory in
    let made : c.self.inside.manifest ≡ Some c.in-Some.manifest = search rules in
    let same = same_view _ _ c.self.view_is c.in_err-reserve.ensures.same (sym (ap (manifest_state c.self.inside.broken) made)) in
    record {
      used = λ logged is manifest used. not_appended exit.result exit.ensures.0 memory same;
      not_made = λ logged is none. not_begun exit.result exit.ensures.0 memory same;
      bytes = λ logged is manifest used. inr (IfOk-from_err exit.result _ exit.ensures.0, λ modelled. begun (g.E.Env.observed c.args.env.now) refl);
      locks = λ modelled. refl;
    }

pub returns-in_err-appended-clause-locks : goal.returns-in_err-appended-clause-locks
returns-in_err-appended-clause-locks g c = c.append_record-appended.ensures.locks

pub returns-in_err-appended-clause-bytes : goal.returns-in_err-appended-clause-bytes
returns-in_err-appended-clause-bytes g c = λ logged is manifest used.
    let text : c.deref.result.now ≡ edit_record c.args.self.now logged = c.deref.ensures.value ∙ c.in_ok-text.ensures.ok ∙ ap edit_bytes is in
    let fits : c.self.inside.next_file < 2 ^ 64 = omega arith in
    inl (subst AreBytes text c.append_record-appended.ensures.bytes, subst (λ n. n < 2 ^ 64) (ap (λ (s : VersionSetValue). s.next_file) c.self.view_is) fits)

pub returns-clause-locks : goal.returns-clause-locks
returns-clause-locks g c = c.append_record-appended.ensures.locks

pub returns-clause-bytes : goal.returns-clause-bytes
returns-clause-bytes g c = λ logged is manifest used.
    let text : c.deref.result.now ≡ edit_record c.args.self.now logged = c.deref.ensures.value ∙ c.in_ok-text.ensures.ok ∙ ap edit_bytes is in
    let fits : c.self.inside.next_file < 2 ^ 64 = omega arith in
    inl (subst AreBytes text c.append_record-appended.ensures.bytes, subst (λ n. n < 2 ^ 64) (ap (λ (s : VersionSetValue). s.next_file) c.self.view_is) fits)

pub returns-clause-used : goal.returns-clause-used
returns-clause-used g c = λ logged is manifest used.
    let set : VersionSetValue = c.args.self.now in
    let made : c.self.inside.manifest ≡ Some c.in-Some.manifest = search rules in
    let both = used_one c.self.inside.broken c.in-Some.manifest manifest (ap (manifest_state c.self.inside.broken) (sym made) ∙ ap (λ (s : VersionSetValue). s.manifest) c.self.view_is ∙ used) in
    let text : c.deref.result.now ≡ edit_record set logged = c.deref.ensures.value ∙ c.in_ok-text.ensures.ok ∙ ap edit_bytes is in
    let usable : c.in-Some.manifest.writer.broken ≡ false = search rules in
    let held : c.is_broken-self-inside.result ≡ c.append_record-appended.new.manifest.writer.broken = search rules in
    let full_is : edit_of c.reserve.new.full ≡ set.full = c.in_ok-reserve.ensures.same ∙ ap (λ (s : VersionSetValue). s.full) c.self.view_is in
    let appended = c.in_ok-appended.ensures.ok in
    let after : c.append_record-appended.new.manifest ≡ record manifest { writer = after_frame manifest.writer (edit_record set logged) } =
    appended ∙ ap (λ (m : OpenManifest). record m { writer = after_frame m.writer c.deref.result.now }) both.1
    ∙ ap (λ t. record manifest { writer = after_frame manifest.writer t }) text in
    record {
      does = rw (both.1, text) at c.in_ok-appended.ensures.does;
      ok = appended_view manifest logged _ _ _ c.self.view_is
          (c.apply_reserved.ensures ∙ ap (λ f. full_after f (edit_of c.args.edit)) full_is ∙ ap (full_after set.full) is)
          (c.unwrap_or-self-inside.ensures ∙ ap (λ n. unwrap_or c.args.edit.log_number n) (ap (λ (s : VersionSetValue). s.log_number) c.self.view_is)
          ∙ ap (λ (e : Edit). unwrap_or e.log_number set.log_number) is ∙ log_of logged.log_number set.log_number)
          (state_of c.is_broken-self-inside.result c.append_record-appended.new.manifest _ (held ∙ ap (λ (m : OpenManifest). m.writer.broken) appended ∙ usable) after);
      err = tt;
      cause = rw both.1 at c.in_ok-appended.ensures.cause;
    }

pub invariant_of-self : goal.invariant_of-self
invariant_of-self g c = c.self.invariant

pub apply_reserved-requires : goal.apply_reserved-requires
apply_reserved-requires g c = c.in_ok-reserve.ensures.room
