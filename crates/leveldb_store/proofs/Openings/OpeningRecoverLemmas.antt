-- What recovering a store returns and leaves, by what its steps do.
use Rattle.std.specs.Prelude.{◌≢◌, Contains, IsTrue, Result, Ok, Err}
use Rattle.std.proofs.Common.{◌≡◌, ◌⊎◌, ◌∙◌, ◌+◌, ◌≤◌, inl, inr, ⊎_elim, ℕ, Bool, List, [], None, Some, ap, arith, refl, subst, sym}
use Rattle.leveldb_base.specs.Error.{IsOutOfMemory}
use Rattle.leveldb_base.specs.declared.error.Status.{Status}
use Rattle.leveldb_env.proofs.EnvLemmas.{Run-mono, Run-trans}
use Rattle.leveldb_env.specs.Env.{Files, FilesUnchanged, HasCause, Run, SameLocks}
use Rattle.leveldb_env.specs.declared.env.Env.{Ghosts}
use Rattle.leveldb_mem.specs.WriteBatch.{Batch}
use Rattle.leveldb_files.proofs.Stores.ManifestLemmas.{managed_of, one_has_edits}
use Rattle.leveldb_files.specs.Stores.Contents.{Contents, made}
use Rattle.leveldb_files.specs.Stores.Paths.{current_path}
use Rattle.leveldb_files.specs.Edits.Edit.{Edit}
use Rattle.leveldb_files.specs.Stores.Store.{HasEdits, HasLog, ReplayedLog as StoreLog}
use Rattle.leveldb_store.proofs.Openings.FoundNumbersLemmas.{found_before, log_before, unsupported_before}
use Rattle.leveldb_store.proofs.Openings.OpeningBytesLemmas.{keeping_bytes, set_bytes}
use Rattle.leveldb_store.proofs.Openings.OpeningFrontLemmas.{IsFoundOrMade, current_is_there, damaged_before, found_is_sound, keeps_found_then, lacking_is_damaged, other_before}
use Rattle.leveldb_store.proofs.Openings.OpeningMadeLemmas.{making_keeps, making_spares}
use Rattle.leveldb_store.proofs.Openings.OpeningNamesLemmas.{sorted_none}
use Rattle.leveldb_store.proofs.Openings.OpeningRecoveredLemmas.{comparator_is, edits_read, have_numbers, in_use_is, is_read, is_recovered, leaving_keeps, log_was, log_was_there, logs_read, logs_there, manifest_below, manifest_there, new_numbers, numbers_after, of_edits, own_is, path_is, tables_there, then_bytes, unbroken_is}
use Rattle.leveldb_store.proofs.Openings.OpeningKeptLemmas.{finding_loses, keeping_loses, setting_loses}
use Rattle.leveldb_store.proofs.Openings.OpeningSameLemmas.{keeping_keeps, keeping_spares, spares_then}
use Rattle.leveldb_store.specs.Logs.FoundLogs.{LogBeginsWith}
use Rattle.leveldb_files.specs.Stores.Format.{Format, IsTableOf, Meaning}
use Rattle.leveldb_store.specs.Keeping.KeptBytes.{HasNewNumbers, LosesNothing}
use Rattle.leveldb_store.specs.Openings.OpeningState.{IsRecoveredWith, with_comparator}
use Rattle.leveldb_store.specs.Openings.OpeningSteps.{AreBeingKept, AreDamagedLogs, ComesAfterFound, FindsStore, IsBeingMade, IsSetOfEdits, IsUnsupported, RecoversSet, RecoversStore, WhyNotFound, WhyNotRecovered, with_logs_kept}
use Rattle.leveldb_store.specs.Openings.OpensStore.{AreTablesThere, HasHugeManifest, HasSharedUserKey, IsDamaged, IsForbidden, IsSound, KeepsFound, LacksCurrent, LacksNumbers, LacksUsableEdits, SameBesideOwn, WhyNotOpenable}
use Rattle.leveldb_store.specs.Logs.ReplayLog.{HasCauseOr}
use Rattle.leveldb_store.specs.Keeping.SoundCall.{BytesAreAppended}
use Rattle.leveldb_store.specs.declared.opening.recovered_set.RecoveredSet.{RecoveredSet}

-- ---- causes

-- an error of a step is one of the whole, where nothing was counted before
pub cause_of_step : {T U : Type 0} {Why Whole : Status → Type 0} (f0 f1 f2 : ℕ) (status : Status) → f1 ≡ f0 → (Why status → IsOutOfMemory status ⊎ Whole status) → HasCauseOr {T = T} Why f1 f2 (Err status)
    → HasCauseOr {T = U} Whole f0 f2 (Err status)
cause_of_step {T} {U} {Why} {Whole} f0 f1 f2 status same to cause = moved (subst (λ f. HasCauseOr {T = T} Why f f2 (Err status)) same cause)
  where
    moved : HasCauseOr {T = T} Why f0 f2 (Err status) → HasCauseOr {T = U} Whole f0 f2 (Err status)
    moved it = record {
      later = it.later;
      ok = tt;
      uncounted = λ why. ⊎_elim (λ (memory : IsOutOfMemory status). it.uncounted (inl memory)) (λ (whole : Whole status × (f2 ≡ f0)). whole.1) why;
      cause = ⊎_elim
          (λ (why : IsOutOfMemory status ⊎ (Why status × (f2 ≡ f0))). inl (⊎_elim (λ (memory : IsOutOfMemory status). inl memory) (λ (is : Why status × (f2 ≡ f0)). ⊎_elim (λ (memory : IsOutOfMemory status). inl memory) (λ (whole : Whole status). inr (whole, is.1)) (to is.0)) why))
          (λ counted. inr counted) it.cause;
    }

-- a step that has no cause of its own
pub memory_cause : {T : Type 0} (f1 f2 : ℕ) (status : Status) → HasCause {T = T} IsOutOfMemory f1 f2 (Err status) → HasCauseOr {T = T} (λ e. ⊥) f1 f2 (Err status)
memory_cause f1 f2 status cause = record {
  later = cause.later;
  ok = tt;
  uncounted = λ why. ⊎_elim (λ (memory : IsOutOfMemory status). cause.uncounted memory) (λ (never : ⊥ × (f2 ≡ f1)). absurd never.0) why;
  cause = ⊎_elim (λ (memory : IsOutOfMemory status). inl (inl memory)) (λ counted. inr counted) cause.cause;
}

-- where `CURRENT` names a manifest, no store is made
found_there : (store comparator : List ℕ) (files now : Files) → IsFoundOrMade store comparator files now
    → (edits : List Edit) → HasEdits store files edits → now ≡ files
found_there store comparator files now (inl same) edits has = same.1
found_there store comparator files now (inr new) edits has = absurd
    (let never : Some has.current ≡ None = sym has.current_there ∙ new.bare.no_current in cc)

module _ {E F : Type 0} (env : Ghosts E F) (format : Format) (store : List ℕ) (create_if_missing error_if_exists : Bool) (from : E) where
  abbrev first : Files
  first = (env.observed from).disk.files

  abbrev Recovers : Result (RecoveredSet E F) Status → E → Type 0
  Recovers = RecoversStore env format store create_if_missing error_if_exists from

  abbrev Why : Status → Type 0
  Why = WhyNotOpenable env store format create_if_missing error_if_exists from

  abbrev Finds : {T : Type 0} → Result T Status → E → Type 0
  Finds result to = FindsStore env store format.order_name create_if_missing error_if_exists from result to

  -- ---- the store is found or made

  why_not_found : (status : Status) → WhyNotFound env store format.order_name create_if_missing error_if_exists from status → Why status
  why_not_found status (inl bare) = inl bare
  why_not_found status (inr (inl forbidden)) = inr (inl forbidden)
  why_not_found status (inr (inr lacks)) = inr (inr (inr (inl (lacks.0, λ modelled. lacking_is_damaged store format first (lacks.1 modelled)))))

  module _ {T : Type 0} (result : Result T Status) (mid : E) (finds : Finds result mid) where
    found_keeps : IsTrue env.models_disk → (meaning : Meaning) (contents : Contents) → IsSound format.order meaning store first contents
        → KeepsFound format.order meaning store format.order_name contents (env.observed from) (env.observed mid)
    found_keeps modelled meaning contents sound allowed there may bound reached =
        Run-mono (λ now passes. making_keeps store format.order_name format.order meaning first sound.bytes allowed may bound now passes) (finds.run modelled)

    found_spares : IsTrue env.models_disk → Run (SameBesideOwn store first) (env.observed from) (env.observed mid)
    found_spares modelled = Run-mono spares (finds.run modelled)
      where
        spares : (now : Files) → (now ≡ first) ⊎ IsBeingMade store format.order_name first now → SameBesideOwn store first now
        spares now (inl same) = λ path other. ap (λ (f : Files). f path) same
        spares now (inr being) = making_spares store format.order_name first now being

    -- a store that is there is left as it is
    found_same : IsTrue env.models_disk → first (current_path store) ≢ None → Run (FilesUnchanged first) (env.observed from) (env.observed mid)
    found_same modelled there = Run-mono same (finds.run modelled)
      where
        same : (now : Files) → (now ≡ first) ⊎ IsBeingMade store format.order_name first now → now ≡ first
        same now (inl is) = is
        same now (inr being) = absurd (there being.bare.no_current)

  pub find_refused : {T : Type 0} (mid : E) (status : Status) → Finds {T = T} (Err status) mid → Recovers (Err status) mid
  find_refused mid status finds = record {
    ok = tt;
    keeps = λ modelled meaning agrees contents sound. found_keeps (Err status) mid finds modelled meaning contents sound;
    stays = λ modelled which. (
      tt,
      ⊎_elim
          (λ (forbidden : IsForbidden store create_if_missing error_if_exists first). (finds.stays modelled (inl forbidden)).1)
          (λ (other : LacksCurrent store first ⊎ LacksUsableEdits store format first). ⊎_elim
          (λ (bare : LacksCurrent store first). (finds.stays modelled (inr bare)).1)
          (λ (lacks : LacksUsableEdits store format first). found_same (Err status) mid finds modelled lacks.0)
          other)
          which,
    );
    others = found_spares (Err status) mid finds;
    kept = λ modelled there. finding_loses env store format.order_name create_if_missing error_if_exists from modelled there (Err status) mid finds;
    bytes = finds.bytes;
    locks = finds.locks;
    cause = cause_of_step (env.failures from) (env.failures from) (env.failures mid) status refl (λ why. inr (why_not_found status why)) finds.cause;
  }

  -- no log is needed for numbers to be too few
  unsupported : (files : Files) → IsUnsupported store format files → HasSharedUserKey store files format.order ⊎ HasHugeManifest store files format.order_name ⊎ LacksNumbers store files
  unsupported files (inl shared) = inl shared
  unsupported files (inr (inl huge)) = inr (inl huge)
  unsupported files (inr (inr few)) = inr (inr (record { logs = []; rising = sorted_none; batches = []; begin = refl; few = few }))

  module _ {T : Type 0} (done : T) (mid : E) (finds : Finds (Ok done) mid) where
    found : IsTrue env.models_disk → IsFoundOrMade store format.order_name first (env.observed mid).disk.files
    found modelled = finds.ok modelled

    -- what the options forbid isn't found, nor tables or logs without `CURRENT`
    not_refused : IsTrue env.models_disk → IsForbidden store create_if_missing error_if_exists first ⊎ LacksCurrent store first → ⊥
    not_refused modelled which = (finds.stays modelled which).0

    -- ---- the set is recovered

    module _ (reuse : Bool) (limit : ℕ) where
      abbrev Sets : Result (RecoveredSet E F) Status → E → Type 0
      Sets = RecoversSet env format reuse limit store mid

      why_not_recovered : (status : Status) → WhyNotRecovered env format reuse limit store mid status → Why status
      why_not_recovered status (inl bare) = inl (bare.0, λ modelled. absurd (current_is_there store format first (env.observed mid).disk.files (found modelled) (bare.1 modelled)))
      why_not_recovered status (inr (inl other)) = inr (inr (inl (other.0, λ modelled. other_before store format first (env.observed mid).disk.files (found modelled) (other.1 modelled))))
      why_not_recovered status (inr (inr (inl damaged))) = inr (inr (inr (inl (damaged.0, λ modelled. damaged_before store format first (env.observed mid).disk.files (found modelled) (damaged.1 modelled)))))
      why_not_recovered status (inr (inr (inr not))) = inr (inr (inr (inr (not.0, λ modelled. unsupported first (unsupported_before store format first (env.observed mid).disk.files (found modelled) (not.1 modelled))))))

      module _ (result : Result (RecoveredSet E F) Status) (then : E) (sets : Sets result then) where
        set_keeps : IsTrue env.models_disk → (meaning : Meaning) (contents : Contents) → IsSound format.order meaning store (env.observed mid).disk.files contents
            → KeepsFound format.order meaning store format.order_name contents (env.observed mid) (env.observed then)
        set_keeps modelled meaning contents sound allowed there may bound reached =
            leaving_keeps env format reuse limit store mid then format.order (IsTableOf format.order meaning) (λ it. IsTrue (allowed it)) bound sound.bytes (sets.files modelled)

        both_spare : IsTrue env.models_disk → Run (SameBesideOwn store first) (env.observed from) (env.observed then)
        both_spare modelled =
            let run = found_spares (Ok done) mid finds modelled in
            Run-trans run (λ now spares. spares_then store first (env.observed mid).disk.files now run.has spares) (sets.others modelled)

        both_bytes : BytesAreAppended env from then
        both_bytes modelled before = set_bytes env store format reuse limit mid result then sets modelled (finds.bytes modelled before)

        -- where the store has no usable edits, all files stay
        both_same : IsTrue env.models_disk → LacksUsableEdits store format first → Run (FilesUnchanged first) (env.observed from) (env.observed then)
        both_same modelled lacks =
            let run = found_same (Ok done) mid finds modelled lacks.0 in
            Run-trans run (λ now same. same ∙ run.has)
            ((sets.files modelled).unusable (λ edits has usable. lacks.1 edits (subst (λ f. HasEdits store f edits) run.has has) usable))

      pub set_refused : (then : E) (status : Status) → Sets (Err status) then → Recovers (Err status) then
      set_refused then status sets = record {
        ok = tt;
        keeps = λ modelled meaning agrees contents sound.
            let it = found_is_sound store format first (env.observed mid).disk.files (found modelled) meaning contents sound in
            keeps_found_then store format.order_name format.order meaning contents it.0 (env.observed from) (env.observed mid) (env.observed then) it.2 (found_keeps (Ok done) mid finds modelled meaning contents sound) (set_keeps (Err status) then sets modelled meaning it.0 it.1);
        stays = λ modelled which. (
          tt,
          ⊎_elim
              (λ (forbidden : IsForbidden store create_if_missing error_if_exists first). absurd (not_refused modelled (inl forbidden)))
              (λ (other : LacksCurrent store first ⊎ LacksUsableEdits store format first). ⊎_elim
              (λ (bare : LacksCurrent store first). absurd (not_refused modelled (inr bare)))
              (λ (lacks : LacksUsableEdits store format first). both_same (Err status) then sets modelled lacks)
              other)
              which,
        );
        others = both_spare (Err status) then sets;
        kept = λ modelled there. setting_loses env store format.order_name create_if_missing error_if_exists from modelled there (Ok done) mid finds (Err status) then sets;
        bytes = both_bytes (Err status) then sets;
        locks = λ modelled. sets.locks modelled ∙ finds.locks modelled;
        cause = cause_of_step (env.failures from) (env.failures mid) (env.failures then) status finds.cause.ok (λ why. inr (why_not_recovered status why)) sets.cause;
      }

      -- ---- its logs are kept

      module _ (it : RecoveredSet E F) (then : E) (sets : Sets (Ok it) then) where
        abbrev logs : List ℕ
        logs = it.logs.keys

        module _ (to : E) (run : IsTrue env.models_disk → Run (AreBeingKept store logs (env.observed then).disk.files) (env.observed then) (env.observed to))
            (locks : SameLocks env.models_disk (env.observed then) (env.observed to)) where
          sync_keeps : (modelled : IsTrue env.models_disk) (meaning : Meaning) (contents : Contents) → IsSound format.order meaning store (env.observed mid).disk.files contents
              → KeepsFound format.order meaning store format.order_name contents (env.observed mid) (env.observed to)
          sync_keeps modelled meaning contents sound =
              keeps_found_then store format.order_name format.order meaning contents contents (env.observed mid) (env.observed then) (env.observed to) (inl refl) (set_keeps (Ok it) then sets modelled meaning contents sound)
              (λ allowed there may bound reached. Run-mono
              (λ now being. keeping_keeps store format.order (IsTableOf format.order meaning) (λ one. IsTrue (allowed one)) bound logs (env.observed then).disk.files now
              (logs_there env format reuse limit store mid then it.needs_new_manifest it.versions logs sets.ok modelled)
              (then_bytes env format reuse limit store mid then it.needs_new_manifest it.versions logs sets.ok modelled meaning contents sound) being)
              (run modelled))

          all_keep : (modelled : IsTrue env.models_disk) (meaning : Meaning) (contents : Contents) → IsSound format.order meaning store first contents
              → KeepsFound format.order meaning store format.order_name contents (env.observed from) (env.observed to)
          all_keep modelled meaning contents sound =
              let there = found_is_sound store format first (env.observed mid).disk.files (found modelled) meaning contents sound in
              keeps_found_then store format.order_name format.order meaning contents there.0 (env.observed from) (env.observed mid) (env.observed to) there.2 (found_keeps (Ok done) mid finds modelled meaning contents sound) (sync_keeps modelled meaning there.0 there.1)

          all_spare : IsTrue env.models_disk → Run (SameBesideOwn store first) (env.observed from) (env.observed to)
          all_spare modelled =
              let both = both_spare (Ok it) then sets modelled in
              Run-trans both
              (λ now being. spares_then store first (env.observed then).disk.files now both.has
              (keeping_spares store logs (have_numbers env format reuse limit store mid then it.needs_new_manifest it.versions logs sets.ok) (env.observed then).disk.files now being))
              (run modelled)

          all_lose : LosesNothing env store from to
          all_lose modelled there = keeping_loses env store format.order_name create_if_missing error_if_exists from modelled there (Ok done) mid finds (Ok it) then sets logs to (run modelled)

          three_bytes : BytesAreAppended env from to
          three_bytes modelled before = keeping_bytes env store logs then to run modelled (both_bytes (Ok it) then sets modelled before)

          -- the options didn't forbid it, no table or log was without `CURRENT`, and there are
          -- usable edits
          is_usable : IsTrue env.models_disk → IsForbidden store create_if_missing error_if_exists first ⊎ LacksCurrent store first ⊎ LacksUsableEdits store format first → ⊥
          is_usable modelled (inl forbidden) = not_refused modelled (inl forbidden)
          is_usable modelled (inr (inl bare)) = not_refused modelled (inr bare)
          is_usable modelled (inr (inr lacks)) =
              let same = (found_same (Ok done) mid finds modelled lacks.0).has in
              let edits = edits_read env format reuse limit store mid then it.needs_new_manifest it.versions logs sets.ok in
              lacks.1 edits (subst (λ f. HasEdits store f edits) same (is_read env format reuse limit store mid then it.needs_new_manifest it.versions logs sets.ok modelled).has_edits) sets.ok.recovers.usable

          all_locks : SameLocks env.models_disk (env.observed from) (env.observed to)
          all_locks modelled = locks modelled ∙ sets.locks modelled ∙ finds.locks modelled

          pub sync_refused : (status : Status) → HasCause {T = Unit {0}} IsOutOfMemory (env.failures then) (env.failures to) (Err status) → Recovers (Err status) to
          sync_refused status cause = record {
            ok = tt;
            keeps = λ modelled meaning agrees contents sound. all_keep modelled meaning contents sound;
            stays = λ modelled which. absurd (is_usable modelled which);
            others = all_spare;
            kept = all_lose;
            bytes = three_bytes;
            locks = all_locks;
            cause = cause_of_step (env.failures from) (env.failures then) (env.failures to) status (sets.cause.ok ∙ finds.cause.ok) (λ never. absurd never)
                (memory_cause (env.failures then) (env.failures to) status cause);
          }

          -- ---- all is done

          module _ (kept : IsTrue env.models_disk → (env.observed to).disk.files ≡ with_logs_kept store logs (env.observed then).disk.files) where
            -- contents whose store has this comparator
            named : (contents : Contents) → contents.store ≡ made (Some format.order_name) → contents ≡ with_comparator format.order_name contents
            named contents is = λ i. record contents { store = is i }

            all_recovered : (modelled : IsTrue env.models_disk) (meaning : Meaning) (contents : Contents) → IsSound format.order meaning store first contents
                → IsRecoveredWith store format.order meaning (with_comparator format.order_name contents) it.versions logs (env.observed to).disk.files
            all_recovered modelled meaning contents sound =
                let there = found_is_sound store format first (env.observed mid).disk.files (found modelled) meaning contents sound in
                let is = comparator_is env format reuse limit store mid then it.needs_new_manifest it.versions logs sets.ok modelled meaning there.0 there.1 in
                let recovered = is_recovered env format reuse limit store mid then it.needs_new_manifest it.versions logs sets.ok modelled meaning there.0 there.1 (sets.files modelled) in
                subst (λ f. IsRecoveredWith store format.order meaning (with_comparator format.order_name contents) it.versions logs f) (sym (kept modelled))
                (subst (λ c. IsRecoveredWith store format.order meaning c it.versions logs (with_logs_kept store logs (env.observed then).disk.files)) (like there.0 is there.2) recovered)
              where
                like : (now : Contents) → now.store ≡ made (Some format.order_name) → (now ≡ contents) ⊎ (now ≡ with_comparator format.order_name contents)
                    → now ≡ with_comparator format.order_name contents
                like now is (inl same) = named now is ∙ ap (with_comparator format.order_name) same
                like now is (inr new) = new

            numbers : IsTrue env.models_disk → (next : ℕ) × ComesAfterFound store first next × (it.versions.next_file ≤ next + 1)
            numbers modelled =
                let after = numbers_after env format reuse limit store mid then it.needs_new_manifest it.versions logs sets.ok modelled in
                (after.0, (after.1.0, found_before store format first (env.observed mid).disk.files (found modelled) after.1.0 after.1.1, after.1.2), after.2)

            logs_were : IsTrue env.models_disk → (n : ℕ) (batches : List Batch) → Contains logs n → LogBeginsWith store (env.observed to).disk.files n batches → LogBeginsWith store first n batches
            logs_were modelled n batches there begins =
                log_before store format first (env.observed mid).disk.files (found modelled) n (have_numbers env format reuse limit store mid then it.needs_new_manifest it.versions logs sets.ok n there) batches
                (log_was env format reuse limit store mid then it.needs_new_manifest it.versions logs sets.ok modelled n batches (subst (λ f. LogBeginsWith store f n batches) (kept modelled) begins))

            -- the edits that the manifest had are those that were read
            edits_were : (modelled : IsTrue env.models_disk) (edits : List Edit) → HasEdits store first edits
                → ((env.observed mid).disk.files ≡ first)
                × (edits_read env format reuse limit store mid then it.needs_new_manifest it.versions logs sets.ok ≡ edits)
            edits_were modelled edits has =
                let same = found_there store format.order_name first (env.observed mid).disk.files (found modelled) edits has in
                let read = edits_read env format reuse limit store mid then it.needs_new_manifest it.versions logs sets.ok in (
                  same,
                  (one_has_edits store first read edits (subst (λ f. HasEdits store f read) same
                      (is_read env format reuse limit store mid then it.needs_new_manifest it.versions logs sets.ok modelled).has_edits) has).1,
                )

            tracks : IsTrue env.models_disk → (edits : List Edit) → HasEdits store first edits → IsSetOfEdits store first edits it.versions logs
            tracks modelled edits has =
                let were = edits_were modelled edits has in
                subst (λ f. IsSetOfEdits store f edits it.versions logs) were.0
                (subst (λ es. IsSetOfEdits store (env.observed mid).disk.files es it.versions logs) were.1
                (of_edits env format reuse limit store mid then it.needs_new_manifest it.versions logs sets.ok modelled))

            same_logs : IsTrue env.models_disk → (edits : List Edit) → HasEdits store first edits → (log : StoreLog)
                → HasLog store (env.observed to).disk.files log → HasLog store first log
            same_logs modelled edits has log there = subst (λ f. HasLog store f log) (edits_were modelled edits has).0
                (log_was_there env format reuse limit store mid then it.needs_new_manifest it.versions logs sets.ok modelled log
                (subst (λ f. HasLog store f log) (kept modelled) there))

            damage : IsTrue env.models_disk → AreDamagedLogs store (env.observed to).disk.files logs → IsDamaged store format first
            damage modelled damaged = damaged_before store format first (env.observed mid).disk.files (found modelled) at_mid
              where
                at_mid : IsDamaged store format (env.observed mid).disk.files
                at_mid meaning order contents fits read =
                    let edits = edits_read env format reuse limit store mid then it.needs_new_manifest it.versions logs sets.ok in
                    logs_read env format reuse limit store mid then it.needs_new_manifest it.versions logs sets.ok modelled order (IsTableOf order meaning) contents
                    (managed_of store order (IsTableOf order meaning) (env.observed mid).disk.files edits contents
                    (is_read env format reuse limit store mid then it.needs_new_manifest it.versions logs sets.ok modelled).has_edits read)
                    (subst (λ f. AreDamagedLogs store f logs) (kept modelled) damaged)

            pub all_done : (last : Unit {0}) → HasCause {T = Unit {0}} IsOutOfMemory (env.failures then) (env.failures to) (Ok last) → Recovers (Ok it) to
            all_done last cause = record {
              ok = record {
                may = record {
                  path = path_is env format reuse limit store mid then it.needs_new_manifest it.versions logs sets.ok;
                  fits = sets.ok.fits;
                  given = sets.ok.given;
                  levels = sets.ok.levels;
                  tables = λ modelled. subst (λ (f : Files). AreTablesThere store f it.versions.full.added) (sym (kept modelled))
                      (tables_there env format reuse limit store mid then it.needs_new_manifest it.versions logs sets.ok modelled);
                  manifest_fits = manifest_below env format reuse limit store mid then it.needs_new_manifest it.versions logs sets.ok;
                  unbroken = unbroken_is env format reuse limit store mid then it.needs_new_manifest it.versions logs sets.ok;
                  goes_on = in_use_is env format reuse limit store mid then it.needs_new_manifest it.versions logs sets.ok;
                  own = own_is env format reuse limit store mid then it.needs_new_manifest it.versions logs sets.ok;
                  there = λ modelled manifest used.
                      subst (λ (f : Files). f manifest.path ≢ None) (sym (kept modelled))
                      (manifest_there env format reuse limit store mid then it.needs_new_manifest it.versions logs sets.ok modelled manifest used);
                };
                recovered = λ modelled meaning agrees contents sound. all_recovered modelled meaning contents sound;
                tracks = tracks;
                same_logs = same_logs;
                new_numbers = λ modelled. subst (HasNewNumbers store it.versions) (sym (kept modelled))
                    (new_numbers env format reuse limit store mid then it.needs_new_manifest it.versions logs sets.ok modelled);
                numbers = numbers;
                logs = logs_were;
                rising = sets.ok.logs_are.rising;
                damage = damage;
              };
              keeps = λ modelled meaning agrees contents sound. all_keep modelled meaning contents sound;
              stays = λ modelled which. absurd (is_usable modelled which);
              others = all_spare;
              kept = all_lose;
              bytes = three_bytes;
              locks = all_locks;
              cause = record {
                later = omega (arith, cause.ok, sets.cause.ok, finds.cause.ok);
                ok = cause.ok ∙ sets.cause.ok ∙ finds.cause.ok;
                uncounted = tt;
                cause = tt;
              };
            }
