use Rattle.std.proofs.Common.{◌≡◌, ◌∙◌, ◌∷◌, List, [], ℕ, ap, false, refl, rules, sym, true}
use Rattle.std.specs.Result.{is_err}
use Rattle.leveldb_base.specs.Error.{IsOutOfMemory}
use Rattle.leveldb_version.proofs.ExitLemmas.{cause_passed}
use Rattle.std.specs.Option.{unwrap_or}
use Rattle.leveldb_mem.specs.Log.{log_block_size}
use Rattle.leveldb_mem.specs.Log.Writer.{after_frame, new_writer}
use Rattle.leveldb_version.specs.Edits.FullEdit.{full_after}
use Rattle.leveldb_version_set.specs.Sets.LogEdit.{edit_record, new_manifest, new_records}
use Rattle.leveldb_version_set.specs.Sets.NewManifest.{manifest_bytes}
use Rattle.leveldb_files.specs.Stores.Paths.{manifest_path}
use Rattle.leveldb_files.specs.Edits.Edit.{Edit, edit_bytes}
use Rattle.leveldb_version.specs.Edits.VersionEdit.{edit_of}
use Rattle.leveldb_version_set.specs.Sets.VersionSetValue.{VersionSetValue}
use Rattle.leveldb_version_set.proofs.Sets.LogEditLemmas.{begun_view, broken_view, is_so, log_of, made_changes, not_begun, not_made, ok_cause, same_view, state_of}
use Rattle.leveldb_version_set.proofs.version_set.live_files.LiveFiles.begin_manifest.Goals as goal

pub returns-clause-begins : goal.returns-clause-begins
returns-clause-begins g c = λ logged is.
    let set : VersionSetValue = c.args.self.now in
    let store : c.deref-2.result.now ≡ set.store = search rules in
    let number : c.self.inside.manifest_number ≡ set.manifest_number = ap (λ (s : VersionSetValue). s.manifest_number) c.self.view_is in
    let full_is : edit_of c.reserve.new.full ≡ set.full = c.in_ok-reserve.ensures.same ∙ ap (λ (s : VersionSetValue). s.full) c.self.view_is in
    let whole : c.in_ok-encode.field-0.items ≡ edit_bytes set.full = c.in_ok-encode.ensures.ok ∙ ap edit_bytes full_is in
    let text : c.args.text.items ≡ edit_record set logged = c.requires.encoded ∙ ap edit_bytes is in
    let bytes : c.in_ok-records.records.bytes.items ≡ manifest_bytes (new_records set logged) =
    c.in_ok-records.ensures.bytes ∙ ap (λ x. manifest_bytes (x ∷ c.args.text.items ∷ [])) whole ∙ ap (λ x. manifest_bytes (edit_bytes set.full ∷ x ∷ [])) text in
    let writer : c.in_ok-records.records.writer ≡ (new_manifest set logged).writer =
    c.in_ok-records.ensures.writer ∙ ap (λ x. after_frame (after_frame (new_writer log_block_size 0) x) c.args.text.items) whole
    ∙ ap (λ x. after_frame (after_frame (new_writer log_block_size 0) (edit_bytes set.full)) x) text in
    let it : c.in_ok-made.field-0 ≡ record { path = manifest_path c.deref-2.result.now c.self.inside.manifest_number; writer = c.in_ok-records.records.writer } = search rules in
    let manifest : c.in_ok-made.field-0 ≡ new_manifest set logged =
    it ∙ ap (λ (s : List ℕ). record { path = manifest_path s c.self.inside.manifest_number; writer = c.in_ok-records.records.writer }) store
    ∙ ap (λ n. record { path = manifest_path set.store n; writer = c.in_ok-records.records.writer }) number
    ∙ ap (λ w. record { path = manifest_path set.store set.manifest_number; writer = w }) writer in
    let usable : c.is_err-self-inside.result ≡ false = search rules in
    record {
      does = λ modelled. made_changes store number bytes c.in_ok-made.was (c.make_manifest-made.ensures.does modelled);
      bytes = c.make_manifest-made.ensures.bytes;
      ok = begun_view logged _ _ _ c.self.view_is
          (c.apply_reserved.ensures ∙ ap (λ f. full_after f (edit_of c.args.edit)) full_is ∙ ap (full_after set.full) is)
          (c.unwrap_or-self-inside.ensures ∙ ap (λ n. unwrap_or c.args.edit.log_number n) (ap (λ (s : VersionSetValue). s.log_number) c.self.view_is)
          ∙ ap (λ (e : Edit). unwrap_or e.log_number set.log_number) is ∙ log_of logged.log_number set.log_number)
          (state_of c.is_err-self-inside.result c.in_ok-made.field-0 (new_manifest set logged) usable manifest);
      err = tt;
      cause = ok_cause c.in_ok-made.was c.make_manifest-made.ensures.cause;
    }

pub returns-in_err-reserve : goal.returns-in_err-reserve
returns-in_err-reserve g c =
    let exit = c.from_residual in
    let memory = cause_passed IsOutOfMemory exit.result c.in_err-reserve.field-0.0 exit.ensures.1 c.in_err-reserve.ensures.memory in
    record {
      begins = λ logged is. not_begun exit.result exit.ensures.0 memory (same_view _ _ c.self.view_is c.in_err-reserve.ensures.same refl);
      locks = λ modelled. refl;
    }

pub returns-in_err-path : goal.returns-in_err-path
returns-in_err-path g c =
    let exit = c.from_residual-in_err-path in
    let memory = cause_passed IsOutOfMemory exit.result c.in_err-path.field-0.0 exit.ensures.1 c.in_err-path.ensures.cause in
    record {
      begins = λ logged is. not_begun exit.result exit.ensures.0 memory (same_view _ _ c.self.view_is c.in_ok-reserve.ensures.same refl);
      locks = λ modelled. refl;
    }

pub returns-in_err-encode : goal.returns-in_err-encode
returns-in_err-encode g c =
    let exit = c.from_residual-in_err-encode in
    let memory = cause_passed IsOutOfMemory exit.result c.in_err-encode.field-0.0 exit.ensures.1 c.in_err-encode.ensures.memory in
    record {
      begins = λ logged is. not_begun exit.result exit.ensures.0 memory (same_view _ _ c.self.view_is c.in_ok-reserve.ensures.same refl);
      locks = λ modelled. refl;
    }

pub returns-in_err-records : goal.returns-in_err-records
returns-in_err-records g c =
    let exit = c.from_residual-in_err-records in
    let memory = cause_passed IsOutOfMemory exit.result c.in_err-records.field-0.0 exit.ensures.1 c.in_err-records.ensures.memory in
    record {
      begins = λ logged is. not_begun exit.result exit.ensures.0 memory (same_view _ _ c.self.view_is c.in_ok-reserve.ensures.same refl);
      locks = λ modelled. refl;
    }

pub returns-in_err-made : goal.returns-in_err-made
returns-in_err-made g c =
    let exit = c.from_residual-in_err-made in
    let set : VersionSetValue = c.args.self.now in
    let store : c.deref-2.result.now ≡ set.store = search rules in
    let number : c.self.inside.manifest_number ≡ set.manifest_number = ap (λ (s : VersionSetValue). s.manifest_number) c.self.view_is in
    let full_is : edit_of c.reserve.new.full ≡ set.full = c.in_ok-reserve.ensures.same ∙ ap (λ (s : VersionSetValue). s.full) c.self.view_is in
    let whole : c.in_ok-encode.field-0.items ≡ edit_bytes set.full = c.in_ok-encode.ensures.ok ∙ ap edit_bytes full_is in
    let fails : c.is_err-self-inside.result ≡ true = c.is_err-self-inside.ensures.value ∙ ap is_err c.in_err-made.was in
    record {
      begins = λ logged is.
          let text : c.args.text.items ≡ edit_record set logged = c.requires.encoded ∙ ap edit_bytes is in
          let bytes : c.in_ok-records.records.bytes.items ≡ manifest_bytes (new_records set logged) =
          c.in_ok-records.ensures.bytes ∙ ap (λ x. manifest_bytes (x ∷ c.args.text.items ∷ [])) whole ∙ ap (λ x. manifest_bytes (edit_bytes set.full ∷ x ∷ [])) text in
          not_made c.make_manifest-made.result c.in_err-made.field-0.0 c.in_err-made.was c.deref-2.result.now c.self.inside.manifest_number c.in_ok-records.records.bytes.items store number bytes
          exit.result exit.ensures.1 c.make_manifest-made.ensures.does c.make_manifest-made.ensures.bytes c.make_manifest-made.ensures.cause
          (broken_view _ _ c.self.view_is c.in_ok-reserve.ensures.same (is_so c.is_err-self-inside.result c.self.inside.manifest fails));
      locks = c.make_manifest-made.ensures.locks;
    }

pub returns-clause-locks : goal.returns-clause-locks
returns-clause-locks g c = c.make_manifest-made.ensures.locks

pub invariant_of-self : goal.invariant_of-self
invariant_of-self g c = c.self.invariant

pub make_manifest-made-requires : goal.make_manifest-made-requires
make_manifest-made-requires g c = c.in_ok-path.ensures.ok ∙ ap (λ (store : List ℕ). manifest_path store c.self.inside.manifest_number) (c.deref.ensures ∙ sym c.deref-2.ensures)

pub apply_reserved-requires : goal.apply_reserved-requires
apply_reserved-requires g c = c.in_ok-reserve.ensures.room
