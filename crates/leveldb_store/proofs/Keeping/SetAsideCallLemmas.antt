-- The calls that set files aside, one after the other.
use Rattle.std.proofs.Common.{◌≡◌, ◌⊎◌, ◌∙◌, ◌++◌, ◌+◌, ◌-◌, ◌^◌, ◌<◌, ◌≤◌, inl, inr, ⊎_elim, ℕ, Bool, true, false, List, [], ◌∷◌, None, Some, Option, Ok, Err, Result, ap, arith, length, refl, subst, sym}
use Rattle.std.specs.Prelude.{Contains, IfErr, IsSome, IsTrue, OnOk}
use Rattle.std.proofs.lemmas.List.Elements.{Contains-append_left, Contains-append_right, Contains-push_cases}
use Rattle.leveldb_base.proofs.HistoryLemmas.{in_front, in_none, in_rest}
use Rattle.leveldb_base.specs.Error.{IsOutOfMemory}
use Rattle.leveldb_base.specs.declared.error.Status.{Status}
use Rattle.leveldb_env.proofs.EnvLemmas.{Run-call, Run-mono, Run-trans, begun}
use Rattle.leveldb_env.specs.Env.{BeforeOrAfter, ChangesFiles, File, Files, FilesUnchanged, HasCause, IsMissing, Run, SameLocks, moved, renamed}
use Rattle.leveldb_env.specs.declared.env.Env.{Ghosts}
use Rattle.leveldb_files.specs.Stores.Paths.{IsJournal}
use Rattle.leveldb_store.proofs.Keeping.SetAsideLemmas.{aside_more, aside_then, gone_aside, none_aside, one_aside, own_gone, taken_aside}
use Rattle.leveldb_store.proofs.Keeping.SoundLemmas.{failed_later, failed_once}
use Rattle.leveldb_store.specs.Keeping.SetAside.{AreSetAside, IsNotSetAside, LeavesUnmoved, SetsAside, SetsOneAside, aside_path}
use Rattle.leveldb_store.specs.Writing.Room.{HasFailed}
use Rattle.leveldb_store.specs.Writing.Switch.{IsFirstError, IsMemoryOut}
use Rattle.leveldb_store.proofs.Keeping.DamageLemmas.{failed_before}
use Rattle.leveldb_version_set.proofs.Sets.UsableLemmas.{if_err_more, on_ok_more}

-- ---- one file

pub none_of : (file : Option File) → (IsSome file → ⊥) → file ≡ None
none_of None never = refl
none_of (Some file) never = absurd (never refl)

module _ {E F : Type 0} (env : Ghosts E F) (path : List ℕ) (from mid : E)
    (still : IsTrue env.models_disk → Run (FilesUnchanged (env.observed from).disk.files)
    (env.observed from) (env.observed mid))
    (locks : SameLocks env.models_disk (env.observed from) (env.observed mid)) where
  abbrev here : Files
  here = (env.observed from).disk.files

  abbrev IsOne : List ℕ → Type 0
  IsOne = λ at. at ≡ path

  -- nothing was done
  pub one_not_aside : (status : Status) → env.failures from ≤ env.failures mid
      → IsNotSetAside env.models_disk path (env.observed mid).disk.files status
      ⊎ HasFailed (env.failures from) (env.failures mid) → SetsOneAside env path from (Err status) mid
  one_not_aside status later why = record {
    run = λ modelled.
        Run-mono (λ files same. none_aside IsOne here files same) (still modelled);
    there = tt;
    files = tt;
    locks = locks;
    cause = record { later = later; cause = why };
  }

  -- it was renamed, or the call failed
  module _ (counted : env.failures mid ≡ env.failures from) (other : List ℕ)
      (is_other : other ≡ aside_path path)
      (free : IsTrue env.models_disk → here other ≡ None)
      (result : Result (Unit {0}) Status) (to : E)
      (does : ChangesFiles env.models_disk (renamed path other) (BeforeOrAfter (renamed path other))
      (env.observed mid) (env.observed to) result)
      (relocks : SameLocks env.models_disk (env.observed mid) (env.observed to))
      (there : OnOk result (IsTrue env.models_disk → IsSome ((env.observed mid).disk.files path)))
      (cause : HasCause (IsMissing env.models_disk path (env.observed mid)) (env.failures mid)
      (env.failures to) result) where
    missing_still : IsTrue env.models_disk → (env.observed mid).disk.files path ≡ None
        → (env.observed to).disk.files path ≡ None
    missing_still modelled none = ⊎_elim (λ same. ap (λ (f : Files). f path) same ∙ none)
        (λ done. ap (λ (f : Files). f path) done
        ∙ ap (λ (m : Option File). moved path other (env.observed mid).disk.files m path) none
        ∙ none) (does.now modelled)

    aside_run : IsTrue env.models_disk → Run (AreSetAside IsOne here) (env.observed from)
        (env.observed to)
    aside_run modelled = Run-trans
        (Run-mono (λ files same. none_aside IsOne here files same) (still modelled))
        (λ files passes. one_aside path here files
        (ap here (sym is_other) ∙ free modelled)
        (subst (λ o. BeforeOrAfter (renamed path o) here files) is_other
        (subst (λ (f : Files). BeforeOrAfter (renamed path other) f files) (still modelled).has passes)))
        (Run-call modelled does)

    pub one_renamed : SetsOneAside env path from result to
    one_renamed = by result refl
      where
        by : (r : Result (Unit {0}) Status) → result ≡ r → SetsOneAside env path from r to
        by (Ok done) is =
            let so = subst (λ r. OnOk r (IsTrue env.models_disk
            → IsSome ((env.observed mid).disk.files path))) is there in
            let ok : IsTrue env.models_disk
            → (env.observed to).disk.files ≡ renamed path other (env.observed mid).disk.files =
            λ modelled. subst (λ r. OnOk r ((env.observed to).disk.files
            ≡ renamed path other (env.observed mid).disk.files)) is (does.ok modelled) in
            record {
              run = aside_run;
              there = λ modelled. subst (λ (f : Files). IsSome (f path)) (still modelled).has
                  (so modelled);
              files = λ modelled. ok modelled
                  ∙ ap (λ o. renamed path o (env.observed mid).disk.files) is_other
                  ∙ ap (renamed path (aside_path path)) (still modelled).has;
              locks = λ modelled. relocks modelled ∙ locks modelled;
              cause = record { later = later; cause = tt };
            }
          where
            later : env.failures from ≤ env.failures to
            later = let after = cause.later in omega (arith, counted, after)
        by (Err status) is = record {
          run = aside_run;
          there = tt;
          files = tt;
          locks = λ modelled. relocks modelled ∙ locks modelled;
          cause = record {
            later = let after = cause.later in omega (arith, counted, after);
            cause = why (subst (λ r. HasCause (IsMissing env.models_disk path (env.observed mid))
                (env.failures mid) (env.failures to) r) is cause);
          };
        }
          where
            why : HasCause {T = Unit {0}} (IsMissing env.models_disk path (env.observed mid))
                (env.failures mid) (env.failures to) (Err status)
                → IsNotSetAside env.models_disk path (env.observed to).disk.files status
                ⊎ HasFailed (env.failures from) (env.failures to)
            why its = ⊎_elim
                (λ missing. inl (⊎_elim (λ memory. inl memory)
                (λ none. inr (inr (none.0, λ modelled. missing_still modelled (none.1 modelled))))
                missing))
                (λ one. inr (subst (λ n. HasFailed n (env.failures to)) counted
                (failed_once (env.failures mid) (env.failures to) one))) its.cause

-- ---- one after the other

-- none is set aside
pub sets_none : {E F : Type 0} (env : Ghosts E F) (from : E)
    → SetsAside env (Contains []) from (Ok tt) from
sets_none env from = record {
  run = λ modelled. begun (env.observed from)
      (none_aside (Contains []) (env.observed from).disk.files (env.observed from).disk.files refl);
  all = λ modelled path never. absurd (in_none path never);
  left = inr (λ modelled. record {
    failed = [];
    left = λ path never. absurd (in_none path never);
    counted = inl (omega arith);
  });
  locks = λ modelled. refl;
  cause = record { later = omega arith; cause = tt };
}

-- the next one is, or can't be
module _ {E F : Type 0} (env : Ghosts E F) (store : List ℕ) (done : List (List ℕ)) (path : List ℕ)
    (journals : IsTrue env.models_disk → (at : List ℕ) → Contains (done ++ path ∷ []) at
    → IsJournal store at) (from mid : E) (first : Result (Unit {0}) Status)
    (so_far : SetsAside env (Contains done) from first mid) (result : Result (Unit {0}) Status)
    (to : E) (sets : SetsOneAside env path mid result to) (both : Result (Unit {0}) Status)
    (joins : IsFirstError first result both) where
  abbrev IsEither : List ℕ → Type 0
  IsEither = Contains (done ++ path ∷ [])

  abbrev at_mid : Files
  at_mid = (env.observed mid).disk.files

  abbrev in_the_end : Files
  in_the_end = (env.observed to).disk.files

  earlier : (at : List ℕ) → Contains done at → IsEither at
  earlier at there = Contains-append_left done (path ∷ []) at there

  last : IsEither path
  last = Contains-append_right done (path ∷ []) path (in_front path [])

  step : IsTrue env.models_disk → (files : Files) → AreSetAside (λ at. at ≡ path) at_mid files
      → AreSetAside IsEither at_mid files
  step modelled files = aside_more (λ at. at ≡ path) IsEither
      (λ at is. subst IsEither (sym is) last) at_mid files

  gone_then : IsTrue env.models_disk → (at : List ℕ) → IsEither at → at_mid at ≡ None
      → in_the_end at ≡ None
  gone_then modelled at one none = gone_aside store IsEither (journals modelled) at_mid in_the_end
      (step modelled in_the_end (sets.run modelled).has) at (journals modelled at one) none

  taken_then : IsTrue env.models_disk → (at : List ℕ) → IsEither at
      → IsSome (at_mid (aside_path at)) → IsSome (in_the_end (aside_path at))
  taken_then modelled at one some = taken_aside store IsEither (journals modelled) at_mid in_the_end
      (step modelled in_the_end (sets.run modelled).has) at (journals modelled at one) some

  was_there : IsTrue env.models_disk → (at : List ℕ) → IsEither at → IsSome (in_the_end at)
      → IsSome (at_mid at)
  was_there modelled at one some = by (at_mid at) refl
    where
      by : (file : Option File) → at_mid at ≡ file → IsSome (at_mid at)
      by None none = absurd (let never : false ≡ true = subst IsSome (gone_then modelled at one none)
          some in cc)
      by (Some file) is = subst IsSome (sym is) refl

  -- ---- which are left

  abbrev Left : E → List (List ℕ) → Type 0
  Left at paths = LeavesUnmoved env (Contains paths) from at

  left_before : IsTrue env.models_disk → (before : Left mid done) → (at : List ℕ)
      → Contains done at → IsSome (in_the_end at)
      → IsSome (in_the_end (aside_path at)) ⊎ Contains before.failed at
  left_before modelled before at there some = ⊎_elim
      (λ taken. inl (taken_then modelled at (earlier at there) taken)) (λ failed. inr failed)
      (before.left at there (was_there modelled at (earlier at there) some))

  -- it isn't left but where a file has its other name
  left_same : IsTrue env.models_disk
      → (IsSome (in_the_end path) → IsSome (in_the_end (aside_path path))) → Left mid done
      → Left to (done ++ path ∷ [])
  left_same modelled so before = record {
    failed = before.failed;
    left = λ at one some. ⊎_elim (λ there. left_before modelled before at there some)
        (λ (same : path ≡ at). inl (subst (λ p. IsSome (in_the_end (aside_path p))) same
        (so (subst (λ p. IsSome (in_the_end p)) (sym same) some))))
        (Contains-push_cases done path at one);
    counted = let later = sets.cause.later in
        ⊎_elim (λ least. inl (omega (arith, least, later)))
        (λ most. inr (omega (arith, most, later))) before.counted;
  }

  left_gone : IsTrue env.models_disk → in_the_end path ≡ None → Left mid done
      → Left to (done ++ path ∷ [])
  left_gone modelled none =
      left_same modelled (λ some. absurd (let never : false ≡ true = subst IsSome none some in cc))

  left_failed : HasFailed (env.failures mid) (env.failures to) → IsTrue env.models_disk
      → Left mid done → Left to (done ++ path ∷ [])
  left_failed counted modelled before = record {
    failed = path ∷ before.failed;
    left = λ at one some. ⊎_elim
        (λ there. ⊎_elim (λ taken. inl taken) (λ failed. inr (in_rest path at before.failed failed))
        (left_before modelled before at there some))
        (λ (same : path ≡ at).
        inr (subst (Contains (path ∷ before.failed)) same (in_front path before.failed)))
        (Contains-push_cases done path at one);
    counted = let later = sets.cause.later in
        ⊎_elim
        (λ rose. ⊎_elim (λ least. inl (one_more before.failed least rose))
        (λ most. inr (omega (arith, most, later))) before.counted)
        (λ most. inr (omega (arith, most, later))) counted;
  }
    where
      one_more : (failed : List (List ℕ)) → env.failures from + length failed ≤ env.failures mid
          → env.failures mid < env.failures to
          → env.failures from + length (path ∷ failed) ≤ env.failures to
      one_more failed least rose = omega (arith, least, rose)

  own_is_gone : result ≡ Ok tt → IsTrue env.models_disk → in_the_end path ≡ None
  own_is_gone is modelled =
      let renames = subst (λ r. OnOk r (IsTrue env.models_disk
      → in_the_end ≡ renamed path (aside_path path) at_mid)) is sets.files in
      let there = subst (λ r. OnOk r (IsTrue env.models_disk → IsSome (at_mid path))) is
      sets.there in
      ap (λ (f : Files). f path) (renames modelled)
      ∙ own_gone store path (journals modelled path last) at_mid (there modelled)

  left_then : (r : Result (Unit {0}) Status) → result ≡ r
      → IsMemoryOut first ⊎ (IsTrue env.models_disk → Left mid done)
      → IsMemoryOut both ⊎ (IsTrue env.models_disk → Left to (done ++ path ∷ []))
  left_then r is (inl memory) = inl (joins.memory (inl memory))
  left_then (Ok x) is (inr before) =
      inr (λ modelled. left_gone modelled (own_is_gone is modelled) (before modelled))
  left_then (Err e) is (inr before) = ⊎_elim
      (λ excused. ⊎_elim
      (λ (memory : IsOutOfMemory e).
      inl (joins.memory (inr (subst IsMemoryOut (sym is) memory.0))))
      (λ other. inr (λ modelled. ⊎_elim
      (λ taken. left_same modelled (λ some. taken.1 modelled) (before modelled))
      (λ none. left_gone modelled (none.1 modelled) (before modelled)) other)) excused)
      (λ counted. inr (λ modelled. left_failed counted modelled (before modelled)))
      (subst (λ r. IfErr r (λ status. IsNotSetAside env.models_disk path in_the_end status
      ⊎ HasFailed (env.failures mid) (env.failures to))) is sets.cause.cause)

  -- ---- why one isn't

  still_not : (at : List ℕ) → IsEither at → (status : Status)
      → IsNotSetAside env.models_disk at at_mid status
      → IsNotSetAside env.models_disk at in_the_end status
  still_not at one status (inl memory) = inl memory
  still_not at one status (inr (inl taken)) =
      inr (inl (taken.0, λ modelled. taken_then modelled at one (taken.1 modelled)))
  still_not at one status (inr (inr none)) =
      inr (inr (none.0, λ modelled. gone_then modelled at one (none.1 modelled)))

  abbrev Why : Status → Type 0
  Why status = ((at : List ℕ) × IsEither at × IsNotSetAside env.models_disk at in_the_end status)
      ⊎ HasFailed (env.failures from) (env.failures to)

  why : IfErr both Why
  why = if_err_more both joins.err (λ e which. ⊎_elim
      (λ is. ⊎_elim
      (λ (it : (at : List ℕ) × Contains done at × IsNotSetAside env.models_disk at at_mid e).
      inl (it.0, earlier it.0 it.1, still_not it.0 (earlier it.0 it.1) e it.2))
      (λ counted. inr (failed_before (env.failures from) (env.failures mid) (env.failures to)
      sets.cause.later counted))
      (subst (λ r. IfErr r (λ status. ((at : List ℕ) × Contains done at
      × IsNotSetAside env.models_disk at at_mid status)
      ⊎ HasFailed (env.failures from) (env.failures mid))) is so_far.cause.cause))
      (λ is. ⊎_elim (λ excused. inl (path, last, excused))
      (λ counted. inr (failed_later (env.failures from) (env.failures mid) (env.failures to)
      so_far.cause.later sets.cause.later counted))
      (subst (λ r. IfErr r (λ status. IsNotSetAside env.models_disk path in_the_end status
      ⊎ HasFailed (env.failures mid) (env.failures to))) is sets.cause.cause)) which)

  pub sets_more : SetsAside env IsEither from both to
  sets_more = record {
    run = λ modelled. Run-trans (Run-mono (aside_more (Contains done) IsEither earlier
        (env.observed from).disk.files) (so_far.run modelled))
        (λ files next. aside_then IsEither store (journals modelled) (env.observed from).disk.files
        at_mid files (aside_more (Contains done) IsEither earlier (env.observed from).disk.files
        at_mid (so_far.run modelled).has) (step modelled files next)) (sets.run modelled);
    all = on_ok_more both joins.ok (λ oks modelled at one. ⊎_elim
        (λ there. gone_then modelled at (earlier at there) (subst (λ r. OnOk r (IsTrue env.models_disk
        → (at : List ℕ) → Contains done at → at_mid at ≡ None)) oks.0 so_far.all modelled at there))
        (λ (same : path ≡ at). subst (λ p. in_the_end p ≡ None) same (own_is_gone oks.1 modelled))
        (Contains-push_cases done path at one));
    left = left_then result refl so_far.left;
    locks = λ modelled. sets.locks modelled ∙ so_far.locks modelled;
    cause = record {
      later = let before = so_far.cause.later in let after = sets.cause.later in
          omega (arith, before, after);
      cause = why;
    };
  }
