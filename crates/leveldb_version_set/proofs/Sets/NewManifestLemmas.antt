-- What the files are at each step of making a manifest, and what its bytes are.
use Rattle.std.specs.Prelude.{Err, IfErr, IsErr, IsTrue}
use Rattle.std.proofs.Common.{◌≡◌, ◌++◌, ◌∷◌, ◌^◌, ◌<◌, inl, inr, ⊎_elim, ℕ, Bool, false, List, [], Some, Result, Ok, sym, subst, ◌∙◌, ap, append_assoc, refl}
use Rattle.std.proofs.lemmas.List.{append-nil}
use Rattle.std.proofs.lemmas.Result.{IfErr-weaker}
use Rattle.std.specs.Result.{IsErrAnd}
use Rattle.std.specs.Str.{bytes_eq}
use Rattle.leveldb_base.specs.Error.{IsOutOfMemory}
use Rattle.leveldb_base.specs.declared.error.Status.{Status}
use Rattle.leveldb_base.specs.declared.types.FileType.TheVariants.{Current, Descriptor, Temp}
use Rattle.leveldb_base.proofs.NamesLemmas.{made_paths_apart}
use Rattle.leveldb_env.specs.Env.{AppendedAreBytes, ChangesFiles, Files, HasCause, Observed, Run, SameBut, SameLocks, kept_file, with_file}
use Rattle.leveldb_env.specs.WholeFiles.{IsLostUnobserved}
use Rattle.leveldb_env.specs.Sink.{AppendsBytes}
use Rattle.leveldb_env.proofs.EnvLemmas.{ChangesFiles-refused, cause_refused, Run-call, Run-mono, at_other, at_same, bytes_eq-apart, call}
use Rattle.leveldb_mem.specs.Log.{framed, framed_record, log_block_size, offset_after}
use Rattle.leveldb_mem.specs.Log.Writer.{AddsRecord, WriterState, frame}
use Rattle.leveldb_version_set.specs.Sets.CurrentFile.{SettingCurrent, temp_path, with_current}
use Rattle.leveldb_version_set.specs.Sets.NewManifest.{MakingManifest, manifest_bytes, with_manifest}
use Rattle.leveldb_version_set.specs.Sets.NewStore.{MakesManifest}
use Rattle.leveldb_version.proofs.ExitLemmas.{excused, nothing_done}
use Rattle.leveldb_files.specs.Edits.Edit.{Edit, edit_bytes}
use Rattle.leveldb_files.specs.Stores.Paths.{current_path, manifest_path}

-- ---- framing

module _ {S : Type 0} (items : S → List ℕ) where
  -- what a record adds to bytes in memory
  framing_put : {sink after : S} {old new : WriterState} {count : ℕ} (text : List ℕ) → AddsRecord (λ from bytes result to. AppendsBytes (items from) bytes result (items to)) old sink text count new after
      → items after ≡ items sink ++ frame old text
  unfolding framed_record
  framing_put {sink = sink} [] adds = ap items (adds.none_put refl) ∙ sym (append-nil (items sink))
  framing_put (byte ∷ text) adds = (adds.put (λ none. absurd (cc none))).ok

  -- one record more is framed
  pub framed_more : {sink after : S} {old new : WriterState} {count : ℕ} (all : List ℕ) (text : List ℕ) (texts : List (List ℕ)) → old.size ≡ log_block_size
      → AddsRecord (λ from bytes result to. AppendsBytes (items from) bytes result (items to)) old sink text count new after
      → all ≡ items sink ++ framed log_block_size (text ∷ texts) old.offset → all ≡ items after ++ framed log_block_size texts new.offset
  framed_more {sink = sink} {after = after} {old = old} {new = new} all text texts size adds is =
      let framing : List ℕ = framed_record log_block_size text old.offset in
      let frame_is : frame old text ≡ framing = ap (λ s. framed_record s text old.offset) size in
      let offset_is : new.offset ≡ offset_after log_block_size old.offset framing = ap (λ (w : WriterState). w.offset) adds.writer ∙ ap (λ s. offset_after s old.offset (framed_record s text old.offset)) size in
      let put : items after ≡ items sink ++ framing = framing_put text adds ∙ ap (λ z. items sink ++ z) frame_is in
      is ∙ sym (append_assoc (items sink) framing (framed log_block_size texts (offset_after log_block_size old.offset framing)))
      ∙ ap (λ z. z ++ framed log_block_size texts (offset_after log_block_size old.offset framing)) (sym put)
      ∙ ap (λ o. items after ++ framed log_block_size texts o) (sym offset_is)

-- ---- a manifest

module _ (store : List ℕ) (n : ℕ) (fits : n < 2 ^ 64) (bytes : List ℕ) where
  manifest_not_current : bytes_eq (manifest_path store n) (current_path store) ≡ false
  manifest_not_current = bytes_eq-apart _ _ (λ e. absurd (cc ((made_paths_apart store n 0 Descriptor Current fits refl e).1)))

  current_not_manifest : bytes_eq (current_path store) (manifest_path store n) ≡ false
  current_not_manifest = bytes_eq-apart _ _ (λ e. absurd (cc ((made_paths_apart store 0 n Current Descriptor refl fits e).1)))

  temp_not_manifest : bytes_eq (temp_path store n) (manifest_path store n) ≡ false
  temp_not_manifest = bytes_eq-apart _ _ (λ e. absurd (cc ((made_paths_apart store n n Temp Descriptor fits fits e).1)))

  -- where the manifest alone has changed
  pub beside : (old files : Files) → SameBut (manifest_path store n) old files → MakingManifest store n bytes old files
  beside old files same_but = record { others = λ other a b c. same_but other a; current = inl (same_but (current_path store) manifest_not_current) }

  -- and once it is there
  named : (old files : Files) → SettingCurrent store n (with_file (manifest_path store n) (Some (kept_file bytes)) old) files → MakingManifest store n bytes old files
  named old files setting = record {
    others = λ other a b c. setting.others other b c ∙ at_other (manifest_path store n) (Some (kept_file bytes)) old other a;
    current = ⊎_elim
        (λ still. inl (still ∙ at_other (manifest_path store n) (Some (kept_file bytes)) old (current_path store) manifest_not_current))
        (λ set. inr (set, setting.others (manifest_path store n) temp_not_manifest current_not_manifest ∙ at_same (manifest_path store n) (Some (kept_file bytes)) old))
        setting.either;
  }

  module _ {T : Type 0} {x : T} {models_disk : Bool} {v0 v1 v2 : Observed} {result : Result (Unit {0}) Status} (modelled : IsTrue models_disk)
      (making : ChangesFiles {T = T} models_disk (with_file (manifest_path store n) (Some (kept_file bytes))) (SameBut (manifest_path store n)) v0 v1 (Ok x))
      (setting : ChangesFiles models_disk (with_current store n) (SettingCurrent store n) v1 v2 result) where
    pub at_current : Run (MakingManifest store n bytes v0.disk.files) v0 v2
    at_current = call modelled (Run-mono (beside v0.disk.files) (Run-call modelled making))
        (λ files passes. named v0.disk.files files (subst (λ (f : Files). SettingCurrent store n f files) (making.ok modelled) passes)) setting

  pub manifest_made : {T U : Type 0} {x : T} {y : U} {models_disk : Bool} {v0 v1 v2 : Observed} (modelled : IsTrue models_disk)
      → ChangesFiles {T = T} models_disk (with_file (manifest_path store n) (Some (kept_file bytes))) (SameBut (manifest_path store n)) v0 v1 (Ok x)
      → ChangesFiles {T = Unit {0}} models_disk (with_current store n) (SettingCurrent store n) v1 v2 (Ok tt)
      → ChangesFiles {T = U} models_disk (with_manifest store n bytes) (MakingManifest store n bytes) v0 v2 (Ok y)
  manifest_made modelled making setting =
      let run = at_current modelled making setting in
      record { ok = λ t. setting.ok modelled ∙ ap (with_current store n) (making.ok modelled); now = λ t. run.has; time = run.time }

-- ---- a manifest of one edit

module _ {store : List ℕ} {n : ℕ} {edit : Edit} {models_disk : Bool} where
  -- out of memory before the first call
  pub not_begun : {observed : Observed} {failed : ℕ} (result : Result (Unit {0}) Status) → IsErr result → IfErr result IsOutOfMemory
      → MakesManifest models_disk store n edit observed failed result observed failed
  not_begun result refused memory = record {
    does = λ modelled. nothing_done refused (record { others = λ other a b c. refl; current = inl refl });
    bytes = λ modelled old. old;
    locks = λ modelled. refl;
    cause = excused result refused (IfErr-weaker result IsOutOfMemory _ (λ status why. inl why) memory);
  }

  module _ {T : Type 0} {bytes : List ℕ} {before after : Observed} {failed now_failed : ℕ} (is : bytes ≡ manifest_bytes (edit_bytes edit ∷ [])) where
    -- a call that failed
    pub not_made : (status : Status) (result : Result (Unit {0}) Status) → IsErrAnd result (λ it. it ≡ status)
        → (IsTrue models_disk → ChangesFiles {T = T} models_disk (with_manifest store n bytes) (MakingManifest store n bytes) before after (Err status))
        → (IsTrue models_disk → AppendedAreBytes before.disk.files → AppendedAreBytes after.disk.files) → SameLocks models_disk before after
        → HasCause {T = T} (IsLostUnobserved models_disk (temp_path store n) failed now_failed) failed now_failed (Err status)
        → MakesManifest models_disk store n edit before failed result after now_failed
    not_made status (Ok done) same does appended locks cause = absurd same
    not_made status (Err it) same does appended locks cause = record {
      does = λ modelled. ChangesFiles-refused refl (subst (λ all. Run (MakingManifest store n all before.disk.files) before after) is (Run-call modelled (does modelled)));
      bytes = appended;
      locks = locks;
      cause = cause_refused {T = T} (subst (λ e. HasCause {T = T} (IsLostUnobserved models_disk (temp_path store n) failed now_failed) failed now_failed (Err e)) (sym same) cause);
    }

    -- one that made it
    pub one_made : (x : T) → (IsTrue models_disk → ChangesFiles models_disk (with_manifest store n bytes) (MakingManifest store n bytes) before after (Ok x))
        → (IsTrue models_disk → AppendedAreBytes before.disk.files → AppendedAreBytes after.disk.files) → SameLocks models_disk before after
        → HasCause (IsLostUnobserved models_disk (temp_path store n) failed now_failed) failed now_failed (Ok x)
        → MakesManifest models_disk store n edit before failed (Ok tt) after now_failed
    one_made x does appended locks cause =
        let made = λ (modelled : IsTrue models_disk). subst (λ all. ChangesFiles {T = T} models_disk (with_manifest store n all) (MakingManifest store n all) before after (Ok x)) is (does modelled) in
        record {
          does = λ modelled. record { ok = (made modelled).ok; now = (made modelled).now; time = (made modelled).time };
          bytes = appended;
          locks = locks;
          cause = record { later = cause.later; ok = cause.ok; uncounted = tt; cause = tt };
        }
