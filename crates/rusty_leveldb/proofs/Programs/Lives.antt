-- Lives of a store, one after another: they are one run of the machine if each crash was honest.
use Rattle.std.proofs.Common.{◌≡◌, ◌≤◌, ◌+◌, ◌-◌, ◌%◌, ◌/◌, ◌==◌, inl, inr, ℕ, suc, Bool, true, false, List, [], ◌∷◌, ◌++◌, refl, sym, ◌∙◌, ap, subst, arith, Option, Some, None, Ok, Err, IsTrue}
use Rattle.std.specs.Prelude.{◌↔◌, ◌⊎◌, All, map, Vec}
use Rattle.std.specs.declared.alloc.Global.{Global}
use Rattle.std.specs.declared.cmp.Ordering.{Ordering}
use Rattle.leveldb_base.specs.declared.cmp.Cmp.{Ghosts as CmpGhosts}
use Rattle.leveldb_env.specs.declared.compressor.CompressorList.{CompressorList}
use Rattle.leveldb_env.specs.Compressor.{Codings}
use Rattle.leveldb_env.specs.declared.filter.FilterPolicy.{Ghosts as FilterGhosts}
use Rattle.std.proofs.Math.Nat.{mul-mod_right}
use Rattle.std.proofs.lemmas.List.Elements.{All-head, All-tail}
use Rattle.std.specs.Option.{option_map}
use Rattle.leveldb_base.specs.declared.error.Status.{Status}
use Rattle.leveldb_base.specs.declared.error.StatusCode.TheVariants.{InvalidArgument}
use Rattle.leveldb_disks.specs.declared.mem_env.record.RecordEnv.{RecordEnv}
use Rattle.leveldb_env.specs.declared.mem_env.picks.Pick.{Pick}
use Rattle.leveldb_disks.specs.contracts.mem_env.record.RecordEnvEnv.TheImpl.{ghosts}
use Rattle.leveldb_base.specs.Error.{IsOutOfMemory}
use Rattle.leveldb_env.specs.Env.{Files, kept_file}
use Rattle.leveldb_disks.specs.declared.mem_env.journal.Call.{Call}
use Rattle.leveldb_disks.specs.Journal.{FilesWere, files_after_calls}
use Rattle.leveldb_env.specs.MemEnv.{files_of}
use Rattle.leveldb_env.specs.Picks.{picked, tails_of}
use Rattle.leveldb_disks.specs.Record.{record_observed, moment_of, failures_of, files_in, files_then, SameObserved}
use Rattle.rusty_leveldb.specs.declared.shell.crash_runs.Report.{Report}
use Rattle.rusty_leveldb.specs.Machines.State.{State, Opening}
use Rattle.leveldb_files.specs.Histories.Holds.{IsHonest}
use Rattle.leveldb_files.specs.Stores.Store.{HasNoStore}
use Rattle.leveldb_files.specs.Steps.StoreSteps.{AppendedAreBytes}
use Rattle.rusty_leveldb.specs.Machines.Runs as machine
use Rattle.rusty_leveldb.specs.Machines.Runs.{Event, RunsEvents, CrashBefore, last_moment, StopsAt, LifeLeads, Lives, new_state}
use Rattle.rusty_leveldb.specs.Engines.Serves.{StandsFor, Represents, recalls_nothing, IsBetweenCalls, IsConversation}
use Rattle.rusty_leveldb.specs.Engines.Engine.{IsStoreName, opening_of}
use Rattle.rusty_leveldb.specs.Programs.Lives.{IsLife, with_name, ending_of, IsCrash, IsHonestCrash, IsNextDevice, IsReportOf, IsLifeOn, AreReports, AreReportsFromNone, IsLifeOf, AreLivesOf, AreOneRun, HasNoCrash, ReportsLives}
use Rattle.leveldb_files.proofs.Histories.SafeLemmas.{front_honest}
use Rattle.rusty_leveldb.proofs.Engines.ReadsLemmas.{nothing_stands}
use Rattle.rusty_leveldb.specs.Programs.Story.{AreStories, GoesOn, IsLeftAt, IsLifeStory, IsLifeTold, SaysLives}
use Rattle.rusty_leveldb.specs.Engines.Witness.{IsHeldBy, stored}
use Rattle.rusty_leveldb.specs.Headline.{StoryEvent, UserStore, fresh_store, is_closed, IsStory}
use Rattle.rusty_leveldb.specs.Says.{Place}
use Rattle.rusty_leveldb.proofs.Engines.SaysLemmas.{stored_is_showing}
use Rattle.rusty_leveldb.proofs.Programs.StoreNames.{opens_so}
use Rattle.rusty_leveldb.proofs.Programs.Storied.{closed_then, moments_again, says_lived}
use Rattle.leveldb_env.specs.Options.{Boxed, OptionsOf}
use Rattle.rusty_leveldb.specs.Engines.Boxes.{InternalOrder, LifeOf}
use Rattle.leveldb_files.specs.Stores.Format.{Format, Meaning, Agrees, format_of}

-- ---- moments of a device

-- between two calls of a device the files were one
even_files : (first : Files) (calls : List Call) (moment : ℕ) (files : Files) → (moment % 2 == 1) ≡ false
    → FilesWere first calls moment files → files ≡ files_after_calls first calls (moment / 2)
even_files first calls moment files even (inl is) = is
even_files first calls moment files even (inr odd) =
    let never : true ≡ false = subst (λ n. (n == 1) ≡ false) odd.0 even in absurd (cc)

between_calls : (device : RecordEnv) (moment : ℕ) (files : Files) → (record_observed device).at_moment moment files
    → (moment % 2 == 1) ≡ false → IsBetweenCalls true (record_observed device) moment files
between_calls device moment files stood even = record {
  modelled = refl;
  alone = λ others were.
      even_files (files_of device.journal.first) device.journal.calls.items moment others even were
      ∙ sym (even_files (files_of device.journal.first) device.journal.calls.items moment files even stood);
}

-- ---- one life more

module _ {C FP : Type 0} {B : Boxed} (cmp : CmpGhosts C) (filters : FilterGhosts FP) (codings : CompressorList B.compressors B.compressor → Codings) (keys : InternalOrder C) (key_filters : FilterGhosts FP) (store : List ℕ) (Crash : RecordEnv → ℕ → Pick → RecordEnv → Type 0) where
  -- one life after others
  pub reports_more : (device : RecordEnv) (lives : List (LifeOf C FP B)) (reports : List Report) (mid to end : RecordEnv) (life : LifeOf C FP B) (report : Report) → AreReports ghosts cmp filters codings keys key_filters store Crash device lives reports mid
      → IsLifeOn ghosts cmp filters codings keys key_filters store mid life report to → IsNextDevice Crash (moment_of mid) life.moment life.pick to end → AreReports ghosts cmp filters codings keys key_filters store Crash device (lives ++ life ∷ []) (reports ++ report ∷ []) end
  reports_more device [] [] mid to end life report are is next = subst (λ d. AreReports ghosts cmp filters codings keys key_filters store Crash d (life ∷ []) (report ∷ []) end) are (to, is, end, next, refl)
  reports_more device (one ∷ lives) (first ∷ reports) mid to end life report are is next = (are.0, are.1, are.2, are.3, reports_more are.2 lives reports mid to end life report are.4 is next)
  reports_more device [] (first ∷ reports) mid to end life report are is next = absurd are
  reports_more device (one ∷ lives) [] mid to end life report are is next = absurd are

-- ---- a run of the machine

same_disk : (device from : RecordEnv) → SameObserved device from → (record_observed from).disk ≡ (record_observed device).disk
same_disk device from same = λ i. record { files = same.files i; locked = same.locks i }

-- the disk represents a state
abbrev pub Stands : List ℕ → Meaning → RecordEnv → State → Type 0
Stands store meaning device old = Represents store meaning recalls_nothing None (record_observed device).disk old

module _ {C FP : Type 0} {B : Boxed} (cmp : CmpGhosts C) (filters : FilterGhosts FP) (codings : CompressorList B.compressors B.compressor → Codings) (keys : InternalOrder C) (key_filters : FilterGhosts FP) (store : List ℕ) (fits : Bool) (meaning : Meaning) where
  abbrev RunFrom : List (LifeOf C FP B) → List Report → RecordEnv → State → Type 0
  RunFrom lives reports device old = (of_machine : List machine.Life) × AreLivesOf ghosts cmp filters codings keys key_filters store fits lives reports of_machine × (failures : ℕ) × (last : State) × Lives meaning (failures_of device) old of_machine failures last

  -- one life, and what comes after it
  module _ (name_fits : IsTrue fits ↔ IsStoreName store) (device to next : RecordEnv) (life : LifeOf C FP B) (lives : List (LifeOf C FP B)) (report : Report) (reports : List Report) (old : State) (stands : Stands store meaning device old)
      (agrees : Agrees (format_of cmp filters codings life.options) meaning) (is : IsLifeOn ghosts cmp filters codings keys key_filters store device life report to) (rest : (then : State) → Stands store meaning next then → RunFrom lives reports next then) where
    abbrev start : ℕ
    start = moment_of device

    abbrev opening : Opening
    opening = with_name fits (opening_of cmp filters codings life.options)

    stands_from : Stands store meaning is.from old
    stands_from = subst (λ disk. Represents store meaning recalls_nothing None disk old) (sym (same_disk device is.from is.same)) stands

    lived : IsLife ghosts store meaning is.from opening life.commands.items report to old
    lived = is.life_is opening (opens_so store fits (opening_of cmp filters codings life.options) name_fits) meaning agrees old stands_from

    -- the machine's life
    abbrev of_life : machine.Life
    of_life = record { start = start; events = lived.run.events; ending = ending_of start life.moment }

    same_start : (record_observed is.from).moment ≡ start
    same_start = is.same.moment

    again : map (λ m. start + m) (map (λ m. m - start) lived.moments) ≡ lived.moments
    again = subst (λ ms. map (λ m. start + m) (map (λ m. m - start) ms) ≡ ms) lived.run.asked.moments_are
        (moments_again start lived.run.events (subst (λ n. All (λ (event : Event). n ≤ event.moment) lived.run.events) same_start lived.run.since))

    life_of : IsLifeOf ghosts cmp filters codings keys key_filters store fits life report of_life
    life_of = record {
      requests = lived.requests;
      answers = lived.answers;
      moments = map (λ m. m - start) lived.moments;
      reported = subst (λ n. IsReportOf opening life.commands.items report lived.requests lived.answers (map (λ m. m - n) lived.moments)) same_start lived.reported;
      asked = subst (λ ms. IsConversation lived.requests lived.answers ms lived.run.events) (sym again) lived.run.asked;
      ending = refl;
      outside = mul-mod_right 2 device.journal.count;
    }

    join : (then : State) → Stands store meaning next then → LifeLeads meaning start (failures_of device) old lived.run.events (ending_of start life.moment) (failures_of next) then
        → RunFrom (life ∷ lives) (report ∷ reports) device old
    join then stands_then leads =
        let others = rest then stands_then in
        (of_life ∷ others.0, (life_of, others.1), others.2, others.3, (failures_of next, then, leads, others.4))

    by_end : (moment : Option ℕ) → life.moment ≡ moment → IsNextDevice (IsHonestCrash store) start moment life.pick to next → RunFrom (life ∷ lives) (report ∷ reports) device old
    by_end None ends follows = join lived.run.new (subst (λ d. Stands store meaning d lived.run.new) (sym follows) lived.run.represents)
        (subst (λ m. LifeLeads meaning start (failures_of device) old lived.run.events (ending_of start m) (failures_of next) lived.run.new) (sym ends)
        (subst (λ n. RunsEvents meaning n old lived.run.events (failures_of next) lived.run.new) is.same.failures
        (subst (λ (d : RecordEnv). RunsEvents meaning (failures_of is.from) old lived.run.events (failures_of d) lived.run.new) (sym follows) lived.run.run)))
    by_end (Some moment) ends follows =
        let crash = follows.crash in
        let at = start + moment in
        let inside = at % 2 == 1 in
        let stops = lived.run.stops at inside (files_then to at life.pick.after) (record_observed next).disk (omega (arith, is.same.moment))
        (record { come = crash.come; stood = crash.stood; leaves = crash.leaves; honest = follows.honest; free = crash.fresh.free })
        (between_calls to at (files_then to at life.pick.after) crash.stood) in
        let stopped = subst (λ m. StopsAt meaning m (failures_of device) old lived.run.events at inside (failures_of to) lived.run.new stops.0) same_start
        (subst (λ n. StopsAt meaning (record_observed is.from).moment n old lived.run.events at inside (failures_of to) lived.run.new stops.0) is.same.failures stops.1) in
        join stops.0
        (record {
          disk_is = stops.2;
          memory_is = closed_then meaning (last_moment start stopped.done) at inside stopped.failures stopped.state stopped.undone (failures_of to) lived.run.new stops.0 stopped.crash;
        })
        (subst (λ m. LifeLeads meaning start (failures_of device) old lived.run.events (ending_of start m) (failures_of next) stops.0) (sym ends)
        ((failures_of to, lived.run.new, stopped), crash.fresh.failures))

  pub lives_run : (IsTrue fits ↔ IsStoreName store) → (device : RecordEnv) (lives : List (LifeOf C FP B)) (reports : List Report) (end : RecordEnv) (old : State) → All (λ life. Agrees (format_of cmp filters codings life.options) meaning) lives → Stands store meaning device old
      → AreReports ghosts cmp filters codings keys key_filters store (IsHonestCrash store) device lives reports end → RunFrom lives reports device old
  lives_run name_fits device [] [] end old agree stands are = ([], tt, failures_of device, old, (refl, refl))
  lives_run name_fits device (life ∷ lives) (report ∷ reports) end old agree stands are =
      by_end name_fits device are.0 are.2 life lives report reports old stands (All-head (λ (one : LifeOf C FP B). Agrees (format_of cmp filters codings one.options) meaning) life lives agree) are.1
      (λ then stands_then. lives_run name_fits are.2 lives reports end then (All-tail (λ (one : LifeOf C FP B). Agrees (format_of cmp filters codings one.options) meaning) life lives agree) stands_then are.4) life.moment refl are.3
  lives_run name_fits device [] (report ∷ reports) end old agree stands are = absurd are
  lives_run name_fits device (life ∷ lives) [] end old agree stands are = absurd are

-- ---- crashes that leave the kept bytes alone

-- without a tail a crash is honest
kept_honest : (store : List ℕ) (files left : Files) → left ≡ picked [] files → IsHonest store files left
kept_honest store files left is name was crashed journal same_was same_is =
    let here : left name ≡ option_map (λ file. kept_file (file.kept ++ [])) (files name) = ap (λ (f : Files). f name) is in
    front_honest was [] was.since refl was crashed refl (sym (here ∙ ap (option_map (λ file. kept_file (file.kept ++ []))) same_was) ∙ same_is)

honest_next : (store : List ℕ) (start : ℕ) (moment : Option ℕ) (pick : Pick) (to next : RecordEnv) → pick.tails.items ≡ [] → IsNextDevice IsCrash start moment pick to next → IsNextDevice (IsHonestCrash store) start moment pick to next
honest_next store _ None pick to next none follows = follows
honest_next store start (Some moment) pick to next none crash =
    let files = files_then to (start + moment) pick.after in
    record { crash = crash; honest = kept_honest store files (files_in next) (crash.files ∙ ap (λ tails. picked (tails_of tails) files) none) }

-- ---- from an empty device on

module _ {C FP : Type 0} {B : Boxed} (cmp : CmpGhosts C) (filters : FilterGhosts FP) (codings : CompressorList B.compressors B.compressor → Codings) (keys : InternalOrder C) (key_filters : FilterGhosts FP) (store : List ℕ) where
  one_run : (lives : List (LifeOf C FP B)) (reports : List Report) → AreReportsFromNone ghosts cmp filters codings keys key_filters store (IsHonestCrash store) lives reports → AreOneRun ghosts cmp filters codings keys key_filters store lives reports
  one_run lives reports are format fits name_fits meaning agree =
      let first = are.1.first in
      let fresh = are.1.fresh in
      let bare : HasNoStore store (files_in first) = record { no_current = are.1.empty _; no_table = λ name n is. are.1.empty _; no_log = λ name n is. are.1.empty _ } in
      let bytes : AppendedAreBytes (files_in first) = λ name file is. absurd (let never : None ≡ Some file = sym (are.1.empty name) ∙ is in cc) in
      let stands : StandsFor store meaning (record_observed first).disk (new_state format) = nothing_stands store meaning format (record_observed first).disk bare bytes (fresh.free _) in
      let all = lives_run cmp filters codings keys key_filters store fits meaning name_fits first lives reports are.0 (new_state format) agree (record { disk_is = stands; memory_is = refl }) are.1.reports_are in
      (all.0, all.1, all.2, all.3, subst (λ n. Lives meaning n (new_state format) all.0 all.2 all.3) fresh.failures all.4)

  -- so lives without tails are honest
  honest_lives : (device : RecordEnv) (lives : List (LifeOf C FP B)) (reports : List Report) (end : RecordEnv) → All (λ life. life.pick.tails.items ≡ []) lives
      → AreReports ghosts cmp filters codings keys key_filters store IsCrash device lives reports end → AreReports ghosts cmp filters codings keys key_filters store (IsHonestCrash store) device lives reports end
  honest_lives device [] [] end none are = are
  honest_lives device (life ∷ lives) (report ∷ reports) end none are = (
    are.0,
    are.1,
    are.2,
    honest_next store (moment_of device) life.moment life.pick are.0 are.2 (none 0 life (omega arith)) are.3,
    honest_lives are.2 lives reports end (λ k one lt. none (suc k) one (omega (arith, lt))) are.4,
  )
  honest_lives device [] (report ∷ reports) end none are = absurd are
  honest_lives device (life ∷ lives) [] end none are = absurd are

  -- ---- what is returned

  kept : (lives : List (LifeOf C FP B)) (reports : List Report) → AreReportsFromNone ghosts cmp filters codings keys key_filters store IsCrash lives reports → All (λ life. life.pick.tails.items ≡ []) lives → AreReportsFromNone ghosts cmp filters codings keys key_filters store (IsHonestCrash store) lives reports
  kept lives reports are none = (are.0, record { first = are.1.first; empty = are.1.empty; fresh = are.1.fresh; reports_are = honest_lives are.1.first lives reports are.0 none are.1.reports_are })

  pub all_reported : (lives : List (LifeOf C FP B)) (reports : Vec Report Global) → AreReportsFromNone ghosts cmp filters codings keys key_filters store IsCrash lives reports.items → ReportsLives ghosts cmp filters codings keys key_filters store lives (Ok reports)
  all_reported lives reports are = record {
    reports = are;
    run = one_run lives reports.items;
    kept = kept lives reports.items are;
    error = tt;
  }

  pub fails_for : (lives : List (LifeOf C FP B)) (e : Status) → IsOutOfMemory e ⊎ ((e.code ≡ InvalidArgument) × HasNoCrash ghosts cmp filters codings keys key_filters store lives) → ReportsLives ghosts cmp filters codings keys key_filters store lives (Err e)
  fails_for lives e cause = record { reports = tt; run = tt; kept = tt; error = cause }

-- ---- stories

-- where a store of this name is
abbrev place_of : List ℕ → Meaning → Place
place_of name meaning = record { name = name; meaning = meaning }

module _ {C FP : Type 0} {B : Boxed} (cmp : CmpGhosts C) (filters : FilterGhosts FP)
    (codings : CompressorList B.compressors B.compressor → Codings) (keys : InternalOrder C)
    (key_filters : FilterGhosts FP) (store : List ℕ) (meaning : Meaning)
    (order : List ℕ → List ℕ → Ordering) where
  abbrev format : OptionsOf C FP B → Format
  format options = format_of cmp filters codings options

  abbrev Stories : RecordEnv → UserStore → List (LifeOf C FP B) → List Report → Type 0
  Stories device shows lives reports =
      AreStories ghosts stored (place_of store meaning) order device shows lives reports

  -- one life, and what comes after it
  module _ (device to next : RecordEnv) (life : LifeOf C FP B) (report : Report)
      (lives : List (LifeOf C FP B)) (reports : List Report) (shows : UserStore)
      (agrees : Agrees (format life.options) meaning) (ordered : (format life.options).order ≡ order)
      (held : IsHeldBy (place_of store meaning) (record_observed device).disk shows)
      (is : IsLifeOn ghosts cmp filters codings keys key_filters store device life report to)
      (rest : (last : UserStore) → IsHeldBy (place_of store meaning) (record_observed next).disk last
      → Stories next last lives reports) where
    told_from : IsLifeTold ghosts stored (place_of store meaning) order shows life.commands.items is.from report to
    told_from = subst (λ o. IsLifeTold ghosts stored (place_of store meaning) o shows life.commands.items is.from report to)
        ordered
        (says_lived ghosts store (opening_of cmp filters codings life.options) life.commands.items
        is.from report to is.life_is meaning agrees shows
        (subst (λ disk. IsHeldBy (place_of store meaning) disk shows) (sym (same_disk device is.from is.same)) held))

    told : IsLifeTold ghosts stored (place_of store meaning) order shows life.commands.items device report to
    told = record {
      leads = told_from.leads;
      crashes = λ moment left at. told_from.crashes moment left
          (subst (λ m. IsLeftAt stored store (record_observed to) (m + moment) left)
          (sym is.same.moment) at);
    }

    abbrev GoesTo : Option ℕ → RecordEnv → Type 0
    GoesTo moment then = (events : List StoryEvent) × (last : UserStore)
        × IsLifeStory life.commands.items moment report events
        × IsStory order shows events last × Stories then last lives reports

    goes : (moment : Option ℕ) → IsNextDevice IsCrash (moment_of device) moment life.pick to next
        → GoesOn ghosts stored store moment life.pick device to (GoesTo moment)
    goes None follows =
        let all = told.leads in
        let last = all.2.0 in (
          all.0,
          last,
          all.1,
          all.2.1,
          subst (λ d. Stories d last lives reports) follows
              (rest last (subst (λ d. IsHeldBy (place_of store meaning) (record_observed d).disk last) (sym follows)
              all.2.2)),
        )
    goes (Some moment) crash =
        let at = moment_of device + moment in
        let files = files_then to at life.pick.after in (
          files,
          next,
          record {
            come = crash.come;
            stood = crash.stood;
            crashes = crash.leaves;
            picked_are = crash.files;
            free = crash.fresh.free;
          },
          λ honest.
              let one = told.crashes moment (record_observed next).disk (record {
                come = crash.come;
                files = files;
                stood = crash.stood;
                is_left = record {
                  crashes = crash.leaves;
                  honest = honest;
                  free = crash.fresh.free;
                };
              }) in
              let last = one.2.0 in (one.0, last, one.1, one.2.1, rest last one.2.2),
        )

    pub one_story : IsNextDevice IsCrash (moment_of device) life.moment life.pick to next
        → Stories device shows (life ∷ lives) (report ∷ reports)
    one_story follows = (held, to, told, goes life.moment follows)

  stories_on : (device : RecordEnv) (lives : List (LifeOf C FP B)) (reports : List Report)
      (end : RecordEnv) (shows : UserStore) → All (λ life. Agrees (format life.options) meaning) lives
      → All (λ life. (format life.options).order ≡ order) lives
      → IsHeldBy (place_of store meaning) (record_observed device).disk shows
      → AreReports ghosts cmp filters codings keys key_filters store IsCrash device lives reports end
      → Stories device shows lives reports
  stories_on device [] [] end shows agree ordered held are = held
  stories_on device (life ∷ lives) (report ∷ reports) end shows agree ordered held are =
      one_story device are.0 are.2 life report lives reports shows
      (All-head (λ (one : LifeOf C FP B). Agrees (format one.options) meaning) life lives agree)
      (All-head (λ (one : LifeOf C FP B). (format one.options).order ≡ order) life lives ordered)
      held are.1
      (λ last holds. stories_on are.2 lives reports end last
      (All-tail (λ (one : LifeOf C FP B). Agrees (format one.options) meaning) life lives agree)
      (All-tail (λ (one : LifeOf C FP B). (format one.options).order ≡ order) life lives ordered)
      holds are.4) are.3
  stories_on device [] (report ∷ reports) end shows agree ordered held are = absurd are
  stories_on device (life ∷ lives) [] end shows agree ordered held are = absurd are

module _ {C FP : Type 0} {B : Boxed} (cmp : CmpGhosts C) (filters : FilterGhosts FP)
    (codings : CompressorList B.compressors B.compressor → Codings) (keys : InternalOrder C)
    (key_filters : FilterGhosts FP) (store : List ℕ) where
  -- from an empty device on
  pub says_lives : (lives : List (LifeOf C FP B)) (reports : List Report)
      → AreReportsFromNone ghosts cmp filters codings keys key_filters store IsCrash lives reports
      → SaysLives ghosts stored (format_of cmp filters codings) store lives reports
  says_lives lives reports are meaning order agree ordered =
      let first = are.1.first in
      let bytes : AppendedAreBytes (files_in first) = λ name file is.
      absurd (let never : None ≡ Some file = sym (are.1.empty name) ∙ is in cc) in (
        first,
        stories_on cmp filters codings keys key_filters store meaning order first lives reports are.0
            (fresh_store [] 0 is_closed) agree ordered
            (stored_is_showing.fresh (place_of store meaning)
            (record_observed first).disk
            (λ path under. (are.1.empty path, are.1.fresh.free path)) bytes) are.1.reports_are,
      )

-- the device that comes next, by whether the life has a crash
pub next_crash : (Crash : RecordEnv → ℕ → Pick → RecordEnv → Type 0) (start at moment : ℕ) (was : Option ℕ) (pick : Pick) (to left end : RecordEnv) → was ≡ Some moment → at ≡ start → end ≡ left → Crash to (at + moment) pick left → IsNextDevice Crash start was pick to end
next_crash Crash start at moment was pick to left end is begun ends crash = subst (λ m. IsNextDevice Crash start m pick to end) (sym is)
    (subst (λ d. Crash to (start + moment) pick d) (sym ends) (subst (λ n. Crash to (n + moment) pick left) begun crash))

pub next_same : (Crash : RecordEnv → ℕ → Pick → RecordEnv → Type 0) (start : ℕ) (was : Option ℕ) (pick : Pick) (to end : RecordEnv) → was ≡ None → end ≡ to → IsNextDevice Crash start was pick to end
next_same Crash start was pick to end is ends = subst (λ m. IsNextDevice Crash start m pick to end) (sym is) ends
