-- The steps of the machine in which a snapshot is given out or released, and what these calls do.
use Rattle.std.specs.Prelude.{◌↔◌, Contains, IsTrue, Result, map}
use Rattle.std.specs.Bool.{OnTrue}
use Rattle.std.proofs.Common.{◌≡◌, ◌≤◌, ◌<◌, ◌-◌, ◌^◌, ◌⊎◌, ◌∙◌, ⊎_elim, inl, inr, ℕ, Bool, true, false, List, [], ◌∷◌, ◌++◌, length, length-append, refl, sym, ap, subst, arith, Some, Ok, Err}
use Rattle.std.proofs.lemmas.List.{map-append}
use Rattle.std.proofs.lemmas.List.Elements.{Contains-append_cases, Contains-append_left, Contains-append_right, Contains-push_cases}
use Rattle.leveldb_base.proofs.EntriesLemmas.{in_map}
use Rattle.leveldb_base.proofs.HistoryLemmas.{in_front, in_rest}
use Rattle.leveldb_base.specs.Error.{IsOutOfMemory, text_of}
use Rattle.leveldb_base.specs.declared.error.Status.{Status}
use Rattle.leveldb_base.specs.declared.error.StatusCode.TheVariants.{InvalidArgument, NotSupported}
use Rattle.leveldb_env.proofs.EnvLemmas.{begun}
use Rattle.leveldb_env.specs.Env.{Disk, Run}
use Rattle.leveldb_env.specs.Options.{Boxed, OptionsOf}
use Rattle.leveldb_env.specs.declared.env.Env.{Ghosts}
use Rattle.leveldb_env.specs.declared.filter.FilterPolicy.{Ghosts as FilterGhosts}
use Rattle.leveldb_iter.specs.Snapshot.{Gives as GivesOut, HeldSnapshots, Releases as LetsGo}
use Rattle.leveldb_iter.specs.declared.snapshot.Snapshot.{Snapshot as HeldSnapshot}
use Rattle.leveldb_store.specs.Tables.BuildTable.{TableChoices}
use Rattle.leveldb_files.specs.Stores.Format.{Format, Meaning}
use Rattle.rusty_leveldb.specs.Engines.Boxes.{EngineOf, InternalOrder}
use Rattle.rusty_leveldb.specs.Engines.Calls.{EngineHolds, EngineReleases, LeavesRest}
use Rattle.rusty_leveldb.specs.Machines.Causes.{IsNotHeld, Setting, bad_operand, out_of_memory, used_up}
use Rattle.rusty_leveldb.specs.Engines.Engine.{Answers, AnswersStill, HasSnapshots, Recalls, RefusedAsClosed, formats_of, held_in, scene}
use Rattle.rusty_leveldb.specs.Engines.Frame.{IsSyncing, MayTouch}
use Rattle.rusty_leveldb.specs.Machines.Machine.{Responds, Step, risk_between, risk_of}
use Rattle.rusty_leveldb.specs.Engines.Serves.{TakesStep, IsSpared, Represents, done_or, refusal_of, setting_between, snapshot_of, snapshot_or}
use Rattle.rusty_leveldb.specs.Machines.State as machine
use Rattle.rusty_leveldb.specs.Machines.State.{Answer, Request, Snapshot, State, done, get_snapshot, refused, release_snapshot}
use Rattle.rusty_leveldb.proofs.Machines.MachineLemmas.{step_fits}
use Rattle.rusty_leveldb.proofs.Engines.Moments.{moments_none}
use Rattle.rusty_leveldb.proofs.Engines.Others.{spares_still}
use Rattle.rusty_leveldb.proofs.Engines.RestLemmas.{rest_still}
use Rattle.rusty_leveldb.proofs.Engines.RowLemmas.{release_row, snapshot_row}

-- ---- snapshots as the machine has them

-- they are one where the list's are
same_snapshot : (a b : HeldSnapshot) → snapshot_of a ≡ snapshot_of b → a ≡ b
same_snapshot a b e = λ i. record { number = (e i).number; sequence = (e i).sequence }

held_by_list : (held : List HeldSnapshot) (one : HeldSnapshot)
    → Contains (map snapshot_of held) (snapshot_of one) → Contains held one
held_by_list held one c =
    let it = in_map snapshot_of held (snapshot_of one) c in
    subst (λ s. Contains held s) (same_snapshot it.0 one it.2) it.1

-- a snapshot of a list that is held is released
pub is_released : (list new : HeldSnapshots) (one : HeldSnapshot) (b : Bool)
    → (IsTrue b ↔ Contains list.held one) → OnTrue b (LetsGo list one new)
    → Contains (map snapshot_of list.held) (snapshot_of one) → LetsGo list one new
is_released list new one true held releases there = releases
is_released list new one false held releases there =
    let never : false ≡ true = held.1 (held_by_list list.held one there) in absurd (cc never)

-- ---- the mode

-- requests for snapshots
abbrev pub IsForSnapshots : Request → Type 0
IsForSnapshots get_snapshot = Unit {0}
IsForSnapshots (release_snapshot one) = Unit {0}
IsForSnapshots request = ⊥

-- a store that isn't closed responds in either mode
responds_for : (request : Request) → IsForSnapshots request → (mode : machine.Mode)
    (setting : Setting) (old : State) (answer : Answer) (new : State)
    → (mode ≡ machine.closed → ⊥) → Responds setting old request answer new
    → Step mode setting old request answer new
responds_for get_snapshot is machine.open_mode setting old answer new usable responds = responds
responds_for get_snapshot is machine.broken setting old answer new usable responds = responds
responds_for get_snapshot is machine.closed setting old answer new usable responds =
    absurd (usable refl)
responds_for (release_snapshot one) is machine.open_mode setting old answer new usable responds =
    responds
responds_for (release_snapshot one) is machine.broken setting old answer new usable responds =
    responds
responds_for (release_snapshot one) is machine.closed setting old answer new usable responds =
    absurd (usable refl)
responds_for request is mode setting old answer new usable responds = absurd is

-- a closed one refuses
refuses_closed : (request : Request) → IsForSnapshots request → (setting : Setting) (old : State)
    (status : Status) → status.code ≡ InvalidArgument
    → Step machine.closed setting old request (refused (refusal_of status)) old
refuses_closed get_snapshot is setting old status code = (code, refl)
refuses_closed (release_snapshot one) is setting old status code = (code, refl)
refuses_closed request is setting old status code = absurd is

syncs_nothing : (request : Request) → IsForSnapshots request → IsSyncing request → ⊥
syncs_nothing get_snapshot is syncs = syncs
syncs_nothing (release_snapshot one) is syncs = syncs
syncs_nothing request is syncs = is

same_risk : (request : Request) → IsForSnapshots request → (old new : State)
    → risk_of request old new ≡ risk_between new
same_risk get_snapshot is old new = refl
same_risk (release_snapshot one) is old new = refl
same_risk request is old new = absurd is

module _ {E C FP F P : Type 0} {B : Boxed} {keys : InternalOrder C} {key_filters : FilterGhosts P}
    (env : Ghosts E F) (choices : OptionsOf C FP B → TableChoices keys key_filters)
    (before : EngineOf E C FP F B) where
  abbrev formats : OptionsOf C FP B → Format
  formats = formats_of choices

  -- ---- a call that is refused

  -- nothing has changed, and the machine responds so
  still : (request : Request) → IsForSnapshots request → (answer : Answer)
      → ((store : List ℕ) (meaning : Meaning) (disk : Disk) (old : State)
      → Recalls keys env formats store meaning before disk old → (setting : Setting)
      → Step old.mode setting old request answer old)
      → AnswersStill keys env formats before request answer
  still request is answer steps at store meaning modelled old was = record {
    new = old;
    represents = was;
    later = omega arith;
    step = steps store meaning (env.observed at).disk old was.memory_is
        (setting_between meaning (env.failures at) (env.failures at));
    moments = moments_none store meaning request old (env.observed at) was.disk_is;
    spares = spares_still store (MayTouch store old.mode request) (env.observed at).disk;
    bytes = λ syncs. absurd (syncs_nothing request is syncs);
  }

  closed_still : (request : Request) → IsForSnapshots request → (status : Status)
      → RefusedAsClosed before.mode status
      → AnswersStill keys env formats before request (refused (refusal_of status))
  closed_still request is status out = still request is (refused (refusal_of status))
      (λ store meaning disk old recalls setting.
      subst (λ m. Step m setting old request (refused (refusal_of status)) old)
      (sym out.0 ∙ recalls.mode) (refuses_closed request is setting old status out.1))

  -- a request is refused for a cause
  caused_still : (request : Request) → IsForSnapshots request → (status : Status)
      → (before.mode ≡ machine.closed → ⊥)
      → ((old : State) → HasSnapshots before.snapshots old → (setting : Setting)
      → Responds setting old request (refused (refusal_of status)) old)
      → AnswersStill keys env formats before request (refused (refusal_of status))
  caused_still request is status usable responds = still request is (refused (refusal_of status))
      (λ store meaning disk old recalls setting.
      let in_use : old.mode ≡ machine.closed → ⊥ = λ closed. usable (recalls.mode ∙ closed) in
      responds_for request is old.mode setting old (refused (refusal_of status)) old in_use
      (responds old (recalls.snapshots in_use) setting))

  -- ---- a call that changes the snapshots

  module _ (request : Request) (is : IsForSnapshots request) (answer : Answer)
      (snapshots : HeldSnapshots) (usable : before.mode ≡ machine.closed → ⊥) (at : E)
      (store : List ℕ) (meaning : Meaning) (old : State)
      (was : Represents store meaning (Recalls keys env formats store meaning) (Some before)
      (env.observed at).disk old) where
    in_use : old.mode ≡ machine.closed → ⊥
    in_use closed = usable (was.memory_is.mode ∙ closed)

    abbrev setting : Setting
    setting = setting_between meaning (env.failures at) (env.failures at)

    goes_with : (held : List Snapshot) (given : List ℕ)
        → HasSnapshots snapshots (record old { held = held; given = given })
        → ((one : Snapshot) → Contains held one
        → (was.memory_is.shows in_use).since ≤ one.sequence)
        → Responds setting old request answer (record old { held = held; given = given })
        → TakesStep store meaning (Recalls keys env formats store meaning) (scene env (Some before) at)
        request answer (scene env (Some (record before { snapshots = snapshots })) at) old
    goes_with held given has within responds =
        let new : State = record old { held = held; given = given } in
        let views = was.memory_is.shows in_use in
        let step : Step old.mode setting old request answer new =
        responds_for request is old.mode setting old answer new in_use responds in
        record {
          new = new;
          represents = record {
            disk_is = record {
              is_state = step_fits setting old new request answer was.disk_is.is_state step;
              holds = was.disk_is.holds;
              bytes = was.disk_is.bytes;
              locked = was.disk_is.locked;
              agrees = was.disk_is.agrees;
            };
            memory_is = record {
              mode = was.memory_is.mode;
              lock = was.memory_is.lock;
              path = was.memory_is.path;
              format = was.memory_is.format;
              named = was.memory_is.named;
              last = was.memory_is.last;
              shows = λ used. record {
                since = views.since;
                shows = views.shows;
                now = views.now;
                held = within;
              };
              snapshots = λ used. has;
              tables = was.memory_is.tables;
              writes = was.memory_is.writes;
            };
          };
          later = omega arith;
          step = step;
          moments = subst (λ risk. Run (IsSpared store meaning old risk) (env.observed at)
              (env.observed at)) (sym (same_risk request is old new))
              (begun (env.observed at) was.disk_is.holds.crash);
          spares = spares_still store (MayTouch store old.mode request) (env.observed at).disk;
          bytes = λ syncs. absurd (syncs_nothing request is syncs);
        }

  -- what such a call leaves alone
  rest_held : {T : Type 0} (request : Request) → IsForSnapshots request → (result : Result T Status)
      (snapshots : HeldSnapshots) (at : E)
      → LeavesRest env before at request result (record before { snapshots = snapshots }) at
  rest_held get_snapshot is result snapshots at =
      let rest = rest_still env before at get_snapshot result (inl (λ held. refl)) in
      record {
        place = (refl, refl);
        others = rest.others;
        lock = rest.lock;
        tables = rest.tables;
        kept = rest.kept;
        stay_kept = rest.stay_kept;
        bytes = rest.bytes;
      }
  rest_held (release_snapshot one) is result snapshots at =
      let rest = rest_still env before at (release_snapshot one) result (inl (λ held. refl)) in
      record {
        place = (refl, refl);
        others = rest.others;
        lock = rest.lock;
        tables = rest.tables;
        kept = rest.kept;
        stay_kept = rest.stay_kept;
        bytes = rest.bytes;
      }
  rest_held request is result snapshots at = absurd is

  -- ---- giving out

  module _ (usable : before.mode ≡ machine.closed → ⊥) (snapshots : HeldSnapshots)
      (one : HeldSnapshot) (fits : one.number < 2 ^ 64)
      (gives : GivesOut before.store.set.last_sequence before.snapshots one snapshots) where
    given_has : (old : State) → HasSnapshots before.snapshots old
        → HasSnapshots snapshots (record old {
          held = old.held ++ snapshot_of one ∷ [];
          given = old.given ++ one.number ∷ [];
        })
    given_has old has = record {
      held = ap (map snapshot_of) gives.held
          ∙ map-append snapshot_of before.snapshots.held (one ∷ [])
          ∙ ap (λ held. held ++ snapshot_of one ∷ []) has.held;
      count = let count = has.count in let next = gives.number in let last = gives.given in
          omega (arith, length-append old.given (one.number ∷ []), count, next, last);
      given = λ number there. ⊎_elim
          (λ (c : Contains old.given number).
          let low = has.given number c in let next = gives.number in let last = gives.given in
          omega (arith, low, next, last))
          (λ (same : one.number ≡ number). let last = gives.given in omega (arith, same, last))
          (Contains-push_cases old.given one.number number there);
    }

    given_responds : (setting : Setting) (old : State) → HasSnapshots before.snapshots old
        → before.store.set.last_sequence ≡ old.last
        → Responds setting old get_snapshot (machine.snapshot (snapshot_of one)) (record old {
          held = old.held ++ snapshot_of one ∷ [];
          given = old.given ++ one.number ∷ [];
        })
    given_responds setting old has last = (
      record {
        operands = λ never. never;
        numbers = λ (used : 2 ^ 64 - 1 ≤ length old.given).
            let count = has.count in let next = gives.number in
            omega (arith, used, count, next, fits);
      },
      record {
        sequence = gives.sequence_is ∙ last;
        fresh = λ there. let low = has.given one.number there in let next = gives.number in
            omega (arith, low, next);
        above = let next = gives.number in omega (arith, next);
        state = refl;
      },
    )

    given_step : (at : E) → Answers keys env formats (Some before) at get_snapshot
        (snapshot_or (Ok one)) (Some (record before { snapshots = snapshots })) at
    given_step at store meaning modelled old was =
        let used = in_use get_snapshot tt (machine.snapshot (snapshot_of one)) snapshots usable at
        store meaning old was in
        let has = was.memory_is.snapshots used in
        let views = was.memory_is.shows used in
        let last = was.memory_is.last used in
        goes_with get_snapshot tt (machine.snapshot (snapshot_of one)) snapshots usable at store
        meaning old was (old.held ++ snapshot_of one ∷ []) (old.given ++ one.number ∷ [])
        (given_has old has)
        (λ other there. ⊎_elim (λ (c : Contains old.held other). views.held other c)
        (λ (same : snapshot_of one ≡ other).
        let least = views.now in let reached = was.disk_is.is_state.reached in
        let its : one.sequence ≡ other.sequence = ap (λ (s : Snapshot). s.sequence) same in
        omega (arith, least, reached, its, gives.sequence_is, last))
        (Contains-push_cases old.held (snapshot_of one) other there))
        (given_responds (setting_between meaning (env.failures at) (env.failures at)) old has last)

    pub gives_serves : (at : E)
        → EngineHolds env choices before at (Ok one) (record before { snapshots = snapshots }) at
    gives_serves at =
        let row = snapshot_row keys env formats before at (record before { snapshots = snapshots }) at
        (Ok one) (given_step at) in
        record {
          ok = row.0;
          err = row.1;
          step = given_step at;
          still = refl;
          refused_by_mode = λ refused_by_mode. absurd (usable refused_by_mode);
          reads = (refl, refl, refl, refl);
          snapshots = gives;
          options = record { rest = refl; sink = refl };
          rest = rest_held get_snapshot tt (Ok one) snapshots at;
          cause = tt;
        }

  -- ---- a call that fails

  -- a closed store gives out none
  pub closed_gives : (status : Status) (at : E) → RefusedAsClosed before.mode status
      → EngineHolds env choices before at (Err status) before at
  closed_gives status at out =
      let step = closed_still get_snapshot tt status out at in
      let row = snapshot_row keys env formats before at before at (Err status) step in
      record {
        ok = row.0;
        err = row.1;
        step = step;
        still = refl;
        refused_by_mode = λ refused_by_mode. (refl, refl, inl out);
        reads = (refl, refl, refl, refl);
        snapshots = refl;
        options = record { rest = refl; sink = refl };
        rest = rest_still env before at get_snapshot (Err status) (inr (status, refl));
        cause = inl out;
      }

  -- there is no memory, or no number
  pub gives_none : (before.mode ≡ machine.closed → ⊥) → (status : Status) (at : E)
      → IsOutOfMemory status
      ⊎ ((status.code ≡ NotSupported) × (before.snapshots.given ≡ 2 ^ 64 - 1))
      → EngineHolds env choices before at (Err status) before at
  gives_none usable status at why =
      let step = caused_still get_snapshot tt status usable (λ old has setting. ⊎_elim
      (λ (memory : IsOutOfMemory status). record {
        cause = out_of_memory;
        comes = (tt, memory.0, ap text_of memory.1);
        leaves = refl;
      })
      (λ (full : (status.code ≡ NotSupported) × (before.snapshots.given ≡ 2 ^ 64 - 1)). record {
        cause = used_up;
        comes = (full.0, let count = has.count in omega (arith, count, full.1));
        leaves = refl;
      }) why) at in
      let row = snapshot_row keys env formats before at before at (Err status) step in
      record {
        ok = row.0;
        err = row.1;
        step = step;
        still = refl;
        refused_by_mode = λ refused_by_mode. absurd (usable refused_by_mode);
        reads = (refl, refl, refl, refl);
        snapshots = refl;
        options = record { rest = refl; sink = refl };
        rest = rest_still env before at get_snapshot (Err status) (inr (status, refl));
        cause = ⊎_elim (λ (memory : IsOutOfMemory status). inr (inl memory))
            (λ (full : (status.code ≡ NotSupported) × (before.snapshots.given ≡ 2 ^ 64 - 1)).
            inr (inr (full.0, omega (arith, full.1)))) why;
      }

  -- a closed store releases none
  pub closed_releases : (one : HeldSnapshot) (status : Status) (at : E)
      → RefusedAsClosed before.mode status
      → EngineReleases env choices before at one (Err status) before at
  closed_releases one status at out =
      let request = release_snapshot (snapshot_of one) in
      let step = closed_still request tt status out at in
      let row = release_row keys env formats before at before at (snapshot_of one) (Err status) step in
      record {
        ok = row.0;
        err = row.1;
        step = step;
        still = refl;
        refused_by_mode = λ refused_by_mode. (refl, refl, inl out);
        reads = (refl, refl, refl, refl);
        snapshots = refl;
        options = record { rest = refl; sink = refl };
        rest = rest_still env before at request (Err status) (inr (status, refl));
        cause = inl out;
      }

  -- the snapshot isn't held
  pub releases_none : (before.mode ≡ machine.closed → ⊥) → (one : HeldSnapshot) (status : Status)
      (at : E)
      → (status.code ≡ InvalidArgument) × IsNotHeld (held_in before) (Some (snapshot_of one))
      → EngineReleases env choices before at one (Err status) before at
  releases_none usable one status at unheld =
      let request = release_snapshot (snapshot_of one) in
      let step = caused_still request tt status usable (λ old has setting. record {
        cause = bad_operand;
        comes = (
          unheld.0,
          subst (λ held. IsNotHeld held (Some (snapshot_of one))) has.held unheld.1,
        );
        leaves = refl;
      }) at in
      let row = release_row keys env formats before at before at (snapshot_of one) (Err status) step in
      record {
        ok = row.0;
        err = row.1;
        step = step;
        still = refl;
        refused_by_mode = λ refused_by_mode. absurd (usable refused_by_mode);
        reads = (refl, refl, refl, refl);
        snapshots = refl;
        options = record { rest = refl; sink = refl };
        rest = rest_still env before at request (Err status) (inr (status, refl));
        cause = inr unheld;
      }

  -- ---- releasing

  module _ (usable : before.mode ≡ machine.closed → ⊥) (snapshots : HeldSnapshots)
      (one : HeldSnapshot) (releases : LetsGo before.snapshots one snapshots) where
    abbrev front : List Snapshot
    front = map snapshot_of releases.before

    abbrev back : List Snapshot
    back = map snapshot_of releases.after

    was_held : (old : State) → HasSnapshots before.snapshots old
        → old.held ≡ front ++ snapshot_of one ∷ back
    was_held old has = sym has.held ∙ ap (map snapshot_of) releases.was
        ∙ map-append snapshot_of releases.before (one ∷ releases.after)

    left_has : (old : State) → HasSnapshots before.snapshots old
        → HasSnapshots snapshots (record old { held = front ++ back; given = old.given })
    left_has old has = record {
      held = ap (map snapshot_of) releases.held
          ∙ map-append snapshot_of releases.before releases.after;
      count = has.count ∙ sym releases.given;
      given = λ number there. let low = has.given number there in let same = releases.given in
          omega (arith, low, same);
    }

    -- those that are left were held
    left_held : (old : State) → HasSnapshots before.snapshots old → (other : Snapshot)
        → Contains (front ++ back) other → Contains old.held other
    left_held old has other there =
        subst (λ held. Contains held other) (sym (was_held old has)) (⊎_elim
        (λ (c : Contains front other).
        Contains-append_left front (snapshot_of one ∷ back) other c)
        (λ (c : Contains back other). Contains-append_right front (snapshot_of one ∷ back) other
        (in_rest (snapshot_of one) other back c))
        (Contains-append_cases front back other there))

    left_responds : (setting : Setting) (old : State) → HasSnapshots before.snapshots old
        → Responds setting old (release_snapshot (snapshot_of one)) done
        (record old { held = front ++ back; given = old.given })
    left_responds setting old has = (
      record {
        operands = λ (unheld : IsNotHeld old.held (Some (snapshot_of one))).
            unheld (subst (λ held. Contains held (snapshot_of one)) (sym (was_held old has))
            (Contains-append_right front (snapshot_of one ∷ back) (snapshot_of one)
            (in_front (snapshot_of one) back)));
        numbers = λ never. never;
      },
      record { before = front; after = back; was = was_held old has; state = refl },
    )

    left_step : (at : E) → Answers keys env formats (Some before) at
        (release_snapshot (snapshot_of one)) (done_or {T = Unit {0}} (Ok tt))
        (Some (record before { snapshots = snapshots })) at
    left_step at store meaning modelled old was =
        let request = release_snapshot (snapshot_of one) in
        let used = in_use request tt done snapshots usable at store meaning old was in
        let has = was.memory_is.snapshots used in
        let views = was.memory_is.shows used in
        goes_with request tt done snapshots usable at store meaning old was (front ++ back)
        old.given (left_has old has)
        (λ other there. views.held other (left_held old has other there))
        (left_responds (setting_between meaning (env.failures at) (env.failures at)) old has)

    pub releases_serves : (at : E) → EngineReleases env choices before at one (Ok tt)
        (record before { snapshots = snapshots }) at
    releases_serves at =
        let row = release_row keys env formats before at (record before { snapshots = snapshots }) at
        (snapshot_of one) (Ok tt) (left_step at) in
        record {
          ok = row.0;
          err = row.1;
          step = left_step at;
          still = refl;
          refused_by_mode = λ refused_by_mode. absurd (usable refused_by_mode);
          reads = (refl, refl, refl, refl);
          snapshots = releases;
          options = record { rest = refl; sink = refl };
          rest = rest_held (release_snapshot (snapshot_of one)) tt (Ok tt) snapshots at;
          cause = tt;
        }
