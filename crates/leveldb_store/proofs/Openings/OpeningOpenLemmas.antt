-- A store is recovered and then written: what opening it returns and leaves.
use Rattle.std.specs.Prelude.{IsTrue, Result, Ok, Err}
use Rattle.std.proofs.Common.{◌∙◌, inl, inr, ℕ, Bool, List, arith, refl}
use Rattle.leveldb_base.specs.declared.cmp.Cmp.{Ghosts as CmpGhosts}
use Rattle.leveldb_base.specs.declared.error.Status.{Status}
use Rattle.leveldb_env.proofs.EnvLemmas.{Run-trans}
use Rattle.leveldb_env.specs.Env.{Files, HasCause}
use Rattle.leveldb_env.specs.declared.env.Env.{Ghosts}
use Rattle.leveldb_env.specs.declared.filter.FilterPolicy.{Ghosts as FilterGhosts}
use Rattle.leveldb_files.specs.Stores.Contents.{Contents}
use Rattle.leveldb_store.proofs.Openings.OpeningFrontLemmas.{keeps_found_then}
use Rattle.leveldb_store.proofs.Openings.OpeningNumbersLemmas.{found_logs}
use Rattle.leveldb_store.proofs.Openings.OpeningRecoverLemmas.{cause_of_step}
use Rattle.leveldb_store.proofs.Openings.OpeningSameLemmas.{spares_then}
use Rattle.leveldb_store.proofs.Logs.FoundLogsLemmas.{logs_same}
use Rattle.leveldb_store.specs.Tables.BuildTable.{TableChoices}
use Rattle.leveldb_store.specs.Logs.FoundLogs.{LacksNumbersFor}
use Rattle.leveldb_files.specs.Stores.Format.{Agrees, Format, Meaning}
use Rattle.leveldb_store.proofs.Keeping.KeptBytesLemmas.{meanwhile_then}
use Rattle.leveldb_store.specs.Keeping.KeptBytes.{HasNewNumbers, LosesNoBytesMeanwhile, LosesNothing}
use Rattle.leveldb_store.specs.Keeping.OpenStore.{OpenStoreValue}
use Rattle.leveldb_store.specs.Openings.OpeningState.{with_comparator}
use Rattle.leveldb_store.specs.Openings.OpeningSteps.{OpensToWrite, RecoversStore, WasRecovered, WhyNotBegun}
use Rattle.leveldb_store.specs.Openings.OpensStore.{FailsToOpen, IsOpenedAs, IsSound, KeepsFound, LacksNumbers, OpensStore, WhyNotOpened}
use Rattle.leveldb_store.specs.Keeping.SoundCall.{BytesAreAppended}
use Rattle.leveldb_store.specs.declared.opening.recovered_set.RecoveredSet.{RecoveredSet}

module _ {E F C : Type 0} (env : Ghosts E F) (format : Format) (store : List ℕ) (create_if_missing error_if_exists : Bool) (from : E) (limit : ℕ) where
  -- a store that isn't recovered isn't opened
  pub recover_refused : (to : E) (status : Status) → RecoversStore env format store create_if_missing error_if_exists from (Err status) to → OpensStore env store format create_if_missing error_if_exists from {C = C} limit (Err status) to
  recover_refused to status recovers = record {
    path = tt;
    unbroken = tt;
    room = tt;
    tables = tt;
    manifest = tt;
    live = tt;
    replayed = tt;
    keeps = recovers.keeps;
    opens = λ modelled meaning agrees contents sound. tt;
    stays = recovers.stays;
    others = recovers.others;
    kept = recovers.kept;
    numbers = tt;
    locks = recovers.locks;
  }

module _ {E F D FP : Type 0} (env : Ghosts E F) {keys : CmpGhosts D} {filters : FilterGhosts FP} (choices : TableChoices keys filters) (store : List ℕ) (create_if_missing error_if_exists : Bool) (from : E) (limit : ℕ) where
  abbrev format : Format
  format = choices.format

  module _ {C : Type 0} where
    abbrev pub Causes : Result (OpenStoreValue C) Status → E → Type 0
    Causes result to = HasCause (FailsToOpen env store choices create_if_missing error_if_exists from to) (env.failures from) (env.failures to) result

    abbrev pub Opens : Result (OpenStoreValue C) Status → E → Type 0
    Opens = OpensStore env store format create_if_missing error_if_exists from limit

    -- why a store that isn't recovered isn't opened
    pub recover_caused : (to : E) (status : Status) → RecoversStore env format store create_if_missing error_if_exists from (Err status) to → Causes (Err status) to
    recover_caused to status recovers = cause_of_step (env.failures from) (env.failures from) (env.failures to) status refl (λ why. inr (inl why)) recovers.cause

  module _ (it : RecoveredSet E F) (mid : E) (recovers : RecoversStore env format store create_if_missing error_if_exists from (Ok it) mid) (to : E) where
    was_recovered : IsTrue env.models_disk → (meaning : Meaning) → Agrees format meaning → (contents : Contents) → IsSound format.order meaning store (env.observed from).disk.files contents
        → WasRecovered env format store it.versions it.logs.keys mid meaning (with_comparator format.order_name contents)
    was_recovered modelled meaning agrees contents sound = (refl, recovers.ok.recovered modelled meaning agrees contents sound)

    -- after the set that was recovered the numbers are too few
    lacking : IsTrue env.models_disk → (status : Status) → LacksNumbersFor env.models_disk store (env.observed mid).disk.files it.logs.keys it.versions.next_file 1 status → LacksNumbers store (env.observed from).disk.files
    lacking modelled status lacks =
        let after = recovers.ok.numbers modelled in
        record {
          logs = it.logs.keys;
          rising = recovers.ok.rising;
          batches = lacks.batches;
          begin = logs_same store (env.observed mid).disk.files store (env.observed from).disk.files it.logs.keys (λ n batches there begins. recovers.ok.logs modelled n batches there begins) lacks.batches (lacks.begin modelled);
          few = record {
            last = after.1.0;
            is_found = after.1.1;
            too_few = let few = lacks.too_few.too_few in let next = after.2 in let last = after.1.2 in omega (arith, few, next, last);
          };
        }

    why_not_opened : (status : Status) → WhyNotBegun env choices store it.versions it.logs.keys mid status → WhyNotOpened env store choices create_if_missing error_if_exists from status
    why_not_opened status (inl lacks) = inl (inr (inr (inr (inr (lacks.too_few.code, λ modelled. inr (inr (lacking modelled status lacks)))))))
    why_not_opened status (inr (inl (log, there))) = inr (record {
      number = log.number;
      batches = log.batches;
      begins = λ modelled. recovers.ok.logs modelled log.number log.batches there (log.begins modelled);
      fails = log.fails;
    })
    why_not_opened status (inr (inr damaged)) = inl (inr (inr (inr (inl (damaged.0, λ modelled. recovers.ok.damage modelled (damaged.1 modelled))))))

    -- no byte is lost
    all_lose : (IsTrue env.models_disk → HasNewNumbers store it.versions (env.observed mid).disk.files → LosesNoBytesMeanwhile env store mid to) → LosesNothing env store from to
    all_lose later modelled there = meanwhile_then env store (recovers.kept modelled there) (later modelled (recovers.ok.new_numbers modelled))

    module _ {C : Type 0} where
      abbrev Begins : Result (OpenStoreValue C) Status → Type 0
      Begins result = OpensToWrite env choices store it.versions it.logs.keys mid limit result to

      -- open with the contents of the store that it is by now, it is so with those that were there
      opened_as : (meaning : Meaning) (contents : Contents) (value : OpenStoreValue C) (files : Files)
          → IsOpenedAs format.order meaning store format.order_name (with_comparator format.order_name contents) value files
          → IsOpenedAs format.order meaning store format.order_name contents value files
      opened_as meaning contents value files is = record {
        written = is.written;
        last = is.last;
        holds = λ allowed may history m. is.holds allowed may history (record { same = m.same; up_to = m.up_to; reached = m.reached; bounded = m.bounded; store = tt });
      }

      module _ (result : Result (OpenStoreValue C) Status) (begins : Begins result) where
        all_keep : (modelled : IsTrue env.models_disk) (meaning : Meaning) (agrees : Agrees format meaning) (contents : Contents)
            (sound : IsSound format.order meaning store (env.observed from).disk.files contents)
            → KeepsFound format.order meaning store format.order_name contents (env.observed from) (env.observed to)
        all_keep modelled meaning agrees contents sound = keeps_found_then store format.order_name format.order meaning contents (with_comparator format.order_name contents) (env.observed from) (env.observed mid) (env.observed to) (inr refl) (recovers.keeps modelled meaning agrees contents sound)
            (begins.keeps modelled meaning agrees (with_comparator format.order_name contents) (was_recovered modelled meaning agrees contents sound))

      -- what is appended are bytes
      pub recovered_bytes : (result : Result (OpenStoreValue C) Status) → Begins result → BytesAreAppended env from to
      recovered_bytes result begins modelled before = begins.bytes modelled (recovers.bytes modelled before)

      -- one that is recovered is opened, if it is written then
      pub recovered_then : (result : Result (OpenStoreValue C) Status) → Begins result → Opens result to
      recovered_then (Ok value) begins = record {
        path = begins.path;
        unbroken = begins.unbroken;
        room = begins.room;
        tables = begins.tables;
        manifest = begins.manifest;
        live = λ modelled edits has file is_live. begins.live modelled file (((recovers.ok.tracks modelled edits has).live.live file).1 is_live);
        replayed = λ modelled meaning agrees edits has.
            let of = recovers.ok.tracks modelled edits has in
            let logs = begins.replayed modelled meaning agrees in
            record {
              tables = logs.2.tables;
              each = logs.2.each;
              entries = record {
                logs = logs.0;
                found = found_logs store (env.observed from).disk.files (env.observed mid).disk.files edits it.versions it.logs.keys of
                    (recovers.ok.same_logs modelled edits has) logs.0 logs.1;
                same = logs.2.entries;
                manifest_last = it.versions.last_sequence;
                manifest_sets = of.last;
                last_is = logs.2.last_is;
              };
            };
        keeps = all_keep (Ok value) begins;
        opens = λ modelled meaning agrees contents sound. opened_as meaning contents value (env.observed to).disk.files
            (begins.opens modelled meaning agrees (with_comparator format.order_name contents) (was_recovered modelled meaning agrees contents sound));
        stays = λ modelled which. absurd (recovers.stays modelled which).0;
        others = λ modelled. let run = recovers.others modelled in Run-trans run (λ now spares. spares_then store (env.observed from).disk.files (env.observed mid).disk.files now run.has spares) (begins.others modelled);
        kept = all_lose begins.kept;
        numbers = λ modelled. begins.numbers modelled (recovers.ok.new_numbers modelled).below;
        locks = λ modelled. begins.locks modelled ∙ recovers.locks modelled;
      }
      recovered_then (Err status) begins = record {
        path = tt;
        unbroken = tt;
        room = tt;
        tables = tt;
        manifest = tt;
        live = tt;
        replayed = tt;
        keeps = all_keep (Err status) begins;
        opens = λ modelled meaning agrees contents sound. tt;
        stays = λ modelled which. absurd (recovers.stays modelled which).0;
        others = λ modelled. let run = recovers.others modelled in Run-trans run (λ now spares. spares_then store (env.observed from).disk.files (env.observed mid).disk.files now run.has spares) (begins.others modelled);
        kept = all_lose begins.kept;
        numbers = tt;
        locks = λ modelled. begins.locks modelled ∙ recovers.locks modelled;
      }

      -- and why it isn't
      pub recovered_caused : (result : Result (OpenStoreValue C) Status) → Begins result → Causes result to
      recovered_caused (Ok value) begins = record { later = omega (arith, begins.cause.ok, recovers.cause.ok); ok = begins.cause.ok ∙ recovers.cause.ok; uncounted = tt; cause = tt }
      recovered_caused (Err status) begins = cause_of_step (env.failures from) (env.failures mid) (env.failures to) status recovers.cause.ok (λ why. inr (why_not_opened status why)) begins.cause
