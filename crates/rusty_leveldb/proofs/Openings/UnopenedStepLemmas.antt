-- The step of the machine in which a store isn't opened: what is left of its files, and the lock,
-- which is given back.
use Rattle.std.proofs.Common.{◌≡◌, ◌≢◌, ◌<◌, ◌≤◌, ◌+◌, ◌⊎◌, ◌∙◌, ⊎_elim, inl, inr, ℕ, true, List, refl, sym, ap, subst, arith, Option, Some, None}
use Rattle.leveldb_base.specs.History.{Entry, History, count_of, with_batch}
use Rattle.leveldb_base.specs.declared.error.Status.{Status}
use Rattle.leveldb_env.specs.Env.{File, FileCrashesTo, Files, FilesCrashTo, Run}
use Rattle.leveldb_env.specs.Options.{Boxed, OptionsOf}
use Rattle.leveldb_env.specs.declared.env.Env.{Ghosts}
use Rattle.leveldb_files.specs.Stores.Contents.{Contents, Store, made, missing}
use Rattle.leveldb_files.specs.Histories.Holds.{Carries, Holds}
use Rattle.leveldb_files.specs.Stores.Paths.{current_path, lock_path}
use Rattle.leveldb_files.specs.Steps.StoreSteps.{AppendedAreBytes}
use Rattle.leveldb_files.specs.Stores.Format.{Format, Meaning}
use Rattle.leveldb_store.specs.Writing.Room.{HasFailed}
use Rattle.rusty_leveldb.specs.Engines.Boxes.{InternalOrder}
use Rattle.rusty_leveldb.specs.Machines.Causes.{Cause, IsCausedBy, device_failed}
use Rattle.rusty_leveldb.specs.Engines.Engine.{Recalls, scene}
use Rattle.rusty_leveldb.specs.Engines.Frame.{IsOwn, Spares}
use Rattle.rusty_leveldb.specs.Machines.Machine.{IsEarly, IsStoreOf, StaysOr, Step}
use Rattle.rusty_leveldb.specs.Engines.Serves.{TakesStep, IsSpared, Reads, Represents, refusal_of, setting_between}
use Rattle.rusty_leveldb.specs.Machines.State.{Opening, Refusal, Request, State, open_store, refused}
use Rattle.rusty_leveldb.proofs.Machines.MachineLemmas.{risk_opening, step_fits}
use Rattle.rusty_leveldb.proofs.Engines.Others.{opening_spares}

-- ---- which store is left

-- a file that is missing after a crash was missing before it, and one that is there was there
none_left : (file left : Option File) → FileCrashesTo file left → file ≡ None → left ≡ None
none_left None left leaves gone = leaves
none_left (Some file) left leaves gone = absurd (let never : Some file ≡ None = gone in cc)

some_left : (file left : Option File) → FileCrashesTo file left → file ≢ None → left ≢ None
some_left None left leaves there gone = there refl
some_left (Some file) left leaves there gone = let never : None ≡ Some _ = sym gone ∙ leaves.3 in cc

module _ (store : List ℕ) (meaning : Meaning) (opening : Opening) (old : Store) where
  -- a store that stays, or that the opening makes
  abbrev May : Store → Type 0
  May = StaysOr (Some opening) old

  -- without `CURRENT` none is there
  reads_missing : (files : Files) (contents : Contents) → files (current_path store) ≡ None
      → Reads store meaning files contents → contents.store ≡ missing
  reads_missing files contents gone (inl bare) = ap (λ (c : Contents). c.store) bare.1
  reads_missing files contents gone (inr m) = absurd (let never : None ≡ Some m.has_edits.current =
      sym gone ∙ m.has_edits.current_there in cc)

  -- with it one is
  reads_made : (files : Files) (contents : Contents) → files (current_path store) ≢ None
      → Reads store meaning files contents → (name : List ℕ) × (contents.store ≡ made (Some name))
  reads_made files contents there (inl bare) = absurd (there bare.0.no_current)
  reads_made files contents there (inr m) =
      (m.managed.comparator, ap (λ (c : Contents). c.store) m.managed.is)

  -- the store that is made where none was
  new_store : (there : Store) (name : List ℕ) → old ≡ missing → there ≡ made (Some name) → May there
      → there ≡ made (Some opening.format.order_name)
  new_store there name none is (inl same) =
      absurd (let never : missing ≡ made (Some name) = sym none ∙ sym same ∙ is in cc)
  new_store there name none is (inr new) =
      is ∙ ap made (subst (IsStoreOf opening) is new.1)

  -- one store is there, whatever a crash leaves
  pub record Settles (files : Files) (history : History) (last durable : ℕ)
      (pending : Option (List Entry)) : Type 0 where
    pub there : Store
    pub stays : May there
    pub holds : Holds store (Reads store meaning) (λ now. now ≡ there) files history last durable
        pending

  module _ (files : Files) (history : History) (last durable : ℕ) (pending : Option (List Entry))
      (holds : Holds store (Reads store meaning) May files history last durable pending) where
    -- where each store that is read, now or after a crash, is this one
    only : (there : Store)
        → ((now : Files) (contents : Contents) → (now ≡ files) ⊎ FilesCrashTo files now
        → Reads store meaning now contents → May contents.store → contents.store ≡ there)
        → Holds store (Reads store meaning) (λ now. now ≡ there) files history last durable pending
    only there same = record {
      now = ⊎_elim
          (λ (c : Carries store (Reads store meaning) May (last + count_of pending) history files).
          inl (one history files (inl refl) c))
          (λ (c : Carries store (Reads store meaning) May (last + count_of pending)
          (with_batch history pending) files).
          inr (one (with_batch history pending) files (inl refl) c)) holds.now;
      crash = λ left leaves honest.
          let c = holds.crash left leaves honest in
          record {
            part = c.part;
            prefix = c.prefix;
            carries = one c.part left (inr leaves) c.carries;
          };
    }
      where
        one : (part : History) (now : Files) → (now ≡ files) ⊎ FilesCrashTo files now
            → Carries store (Reads store meaning) May (last + count_of pending) part now
            → Carries store (Reads store meaning) (λ s. s ≡ there) (last + count_of pending) part now
        one part now which c = record {
          contents = c.contents;
          read = c.read;
          matches = record {
            same = c.matches.same;
            up_to = c.matches.up_to;
            reached = c.matches.reached;
            bounded = c.matches.bounded;
            store = same now c.contents which c.read c.matches.store;
          };
        }

    gone_still : (now : Files) → (now ≡ files) ⊎ FilesCrashTo files now
        → files (current_path store) ≡ None → now (current_path store) ≡ None
    gone_still now (inl is) gone = ap (λ (f : Files). f (current_path store)) is ∙ gone
    gone_still now (inr leaves) gone = none_left (files (current_path store))
        (now (current_path store)) (leaves (current_path store)) gone

    there_still : (now : Files) → (now ≡ files) ⊎ FilesCrashTo files now
        → files (current_path store) ≢ None → now (current_path store) ≢ None
    there_still now (inl is) there gone =
        there (sym (ap (λ (f : Files). f (current_path store)) is) ∙ gone)
    there_still now (inr leaves) there gone = some_left (files (current_path store))
        (now (current_path store)) (leaves (current_path store)) there gone

    pub settles : Settles files history last durable pending
    settles = by old refl
      where
        kept : (name : Option (List ℕ)) → old ≡ made name → (there : Store) → May there
            → there ≡ old
        kept name is there (inl same) = same
        kept name is there (inr new) =
            absurd (let never : made name ≡ missing = sym is ∙ new.0 in cc)

        by : (s : Store) → old ≡ s → Settles files history last durable pending
        by (made name) is = record {
          there = old;
          stays = inl refl;
          holds = only old (λ now contents which read may. kept name is contents.store may);
        }
        by missing is = at (files (current_path store)) refl
          where
            at : (file : Option File) → files (current_path store) ≡ file
                → Settles files history last durable pending
            at None gone = record {
              there = old;
              stays = inl refl;
              holds = only old (λ now contents which read may.
                  reads_missing now contents (gone_still now which gone) read ∙ sym is);
            }
            at (Some file) there = record {
              there = made (Some opening.format.order_name);
              stays = inr (is, refl);
              holds = only (made (Some opening.format.order_name))
                  (λ now contents which read may.
                  let named = reads_made now contents (there_still now which
                  (λ gone. let never : Some file ≡ None = sym there ∙ gone in cc)) read in
                  new_store contents.store named.0 is named.1 may);
            }

-- ---- the step

-- a cause that had come by a count of failures has come by a greater one
comes_later : (meaning : Meaning) (before mid after : ℕ) (old : State) (request : Request)
    (refusal : Refusal) (cause : Cause) → mid ≤ after
    → IsCausedBy (setting_between meaning before mid) old request refusal cause
    → IsCausedBy (setting_between meaning before after) old request refusal cause
comes_later meaning before mid after old request refusal device_failed more comes = (
  comes.0,
  ⊎_elim (λ (less : before < mid). inl (omega (arith, less, more))) (λ full. inr full) comes.1,
)
comes_later meaning before mid after old request refusal cause more comes = comes

module _ {E C FP F : Type 0} {B : Boxed} {keys : InternalOrder C} (env : Ghosts E F)
    (formats : OptionsOf C FP B → Format)
    (store : List ℕ) (meaning : Meaning) (opening : Opening) (from : E) (old : State)
    (was : Represents store meaning (Recalls keys env formats store meaning) None
    (env.observed from).disk old) (to : E) (e : Status) where
  -- the store is closed, and this one is there
  abbrev left : Store → State
  left there = record old {
    store = there;
    locked = (env.observed to).disk.locked (lock_path store);
  }

  pub unopened_goes : (there : Store) → StaysOr (Some opening) old.store there
      → Holds store (Reads store meaning) (λ now. now ≡ there) (env.observed to).disk.files old.history
      old.last old.durable old.pending
      → AppendedAreBytes (env.observed to).disk.files
      → Run (IsSpared store meaning old (risk_opening opening old)) (env.observed from)
      (env.observed to)
      → Spares store (IsOwn store) (env.observed from).disk (env.observed to).disk
      → (mid : ℕ) → env.failures from ≤ mid → mid ≤ env.failures to
      → ((env.observed to).disk.locked (lock_path store)
      ≡ (env.observed from).disk.locked (lock_path store))
      ⊎ (((env.observed to).disk.locked (lock_path store) ≡ true) × HasFailed mid (env.failures to))
      → (cause : Cause)
      → IsCausedBy (setting_between meaning (env.failures from) mid) old (open_store opening)
      (refusal_of e) cause
      → (IsEarly cause → there ≡ old.store)
      → TakesStep store meaning (Recalls keys env formats store meaning)
      (scene env None from) (open_store opening) (refused (refusal_of e)) (scene env None to) old
  unopened_goes there stays holds bytes run spares mid later ends lock cause comes early =
      let setting = setting_between meaning (env.failures from) (env.failures to) in
      let step : Step old.mode setting old (open_store opening) (refused (refusal_of e)) (left there) =
      subst (λ m. Step m setting old (open_store opening) (refused (refusal_of e)) (left there))
      (sym was.memory_is) (record {
        cause = cause;
        comes = comes_later meaning (env.failures from) mid (env.failures to) old
            (open_store opening) (refusal_of e) cause ends comes;
        leaves = record {
          state = refl;
          durable = inl refl;
          stays = stays;
          early = early;
          lock = ⊎_elim (λ same. inl (same ∙ was.disk_is.locked))
              (λ held. inr (
                held.0,
                record {
                  mid = mid;
                  later = later;
                  comes = comes;
                  failed = held.1;
                },
              )) lock;
        };
      }) in
      record {
        new = left there;
        represents = record {
          disk_is = record {
            is_state = step_fits setting old (left there) (open_store opening)
                (refused (refusal_of e)) was.disk_is.is_state step;
            holds = holds;
            bytes = bytes;
            locked = refl;
            agrees = λ in_use. absurd (in_use was.memory_is);
          };
          memory_is = was.memory_is;
        };
        later = omega (arith, later, ends);
        step = step;
        moments = run;
        spares = opening_spares store old.mode opening (env.observed from).disk
            (env.observed to).disk was.memory_is spares;
        bytes = λ never. absurd never;
      }
