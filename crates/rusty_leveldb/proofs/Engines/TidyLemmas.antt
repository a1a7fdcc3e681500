-- What an engine knows of obsolete files after a call of its store, and after a batch.
use Rattle.std.specs.Prelude.{IfOk, OnOk}
use Rattle.std.specs.Option.{option_or}
use Rattle.std.proofs.Common.{◌≡◌, ◌≤◌, ◌∙◌, inl, inr, ℕ, Bool, List, Option, None, Some, Ok, Err, Result, ap, subst, sym}
use Rattle.std.specs.declared.cmp.Ordering.{Ordering}
use Rattle.leveldb_base.specs.History.{Item}
use Rattle.leveldb_base.specs.declared.error.Status.{Status}
use Rattle.leveldb_env.specs.Options.{Boxed}
use Rattle.leveldb_env.specs.declared.env.Env.{Ghosts}
use Rattle.leveldb_version_set.specs.Sets.VersionSetValue.{VersionSetValue}
use Rattle.leveldb_store.proofs.Writing.RemovalLemmas.{at_last_since, leaves_obsolete, leaves_then, tidy_written}
use Rattle.leveldb_store.specs.Keeping.OpenStore.{IsUnbroken, OpenStoreValue}
use Rattle.leveldb_store.specs.Writing.Removal.{EndsByRemoval, IsTidy, LeavesObsolete, but_removal}
use Rattle.leveldb_store.specs.Writing.Switch.{IsObsoletePath, RemovesObsolete}
use Rattle.leveldb_store.specs.Writing.WriteBatch.{WritesBatch}
use Rattle.rusty_leveldb.specs.Engines.Boxes.{EngineOf}
use Rattle.rusty_leveldb.specs.Engines.EngineValue.{removal_after}
use Rattle.rusty_leveldb.specs.Engines.Tidy.{KeepsTidy, TidiesOrKeeps}
use Rattle.rusty_leveldb.specs.Machines.State as machine

on_ok_of : {T P : Type 0} (result : Result T Status) → P → OnOk result P
on_ok_of (Ok value) so = so
on_ok_of (Err status) so = tt

-- of two calls in a row the last removal counts, also where files were charged between them, if the
-- first has changed the store
pub ends_charged : {E F C : Type 0} (env : Ghosts E F) (old mid charged new : OpenStoreValue C)
    (from at to : E) (first next : Option (Result (Unit {0}) Status)) → (mid ≡ old → ⊥)
    → env.failures from ≤ env.failures at → charged.set ≡ mid.set → charged.kept_to ≡ mid.kept_to
    → EndsByRemoval env from old first mid at → EndsByRemoval env at charged next new to
    → EndsByRemoval env from old (option_or next first) new to
ends_charged env old mid charged new from at to first (Some removal) changed later set kept_to ends
    last = at_last_since env later last
ends_charged env old mid charged new from at to None None changed later set kept_to ends still =
    absurd (changed ends.0)
ends_charged {C = C} env old mid charged new from at to (Some removal) None changed later set
    kept_to ends still = record {
      at = ends.at;
      later = ends.later;
      removes = subst (λ e. RemovesObsolete env new.set new.kept_to ends.at removal e) (sym still.1)
          (subst (λ s. RemovesObsolete env s new.kept_to ends.at removal at)
          (sym (ap (λ (v : OpenStoreValue C). v.set) still.0 ∙ set))
          (subst (λ k. RemovesObsolete env mid.set k ends.at removal at)
          (sym (ap (λ (v : OpenStoreValue C). v.kept_to) still.0 ∙ kept_to)) ends.removes));
    }

module _ {E C FP F : Type 0} {B : Boxed} (env : Ghosts E F) (before : EngineOf E C FP F B)
    (from : E) where
  -- nothing was done
  still_tidy : (store : OpenStoreValue C) (after : EngineOf E C FP F B) (to : E)
      → store.set ≡ before.store.set → store.kept_to ≡ before.store.kept_to
      → after.store ≡ store → to ≡ from → KeepsTidy env before from after to
  still_tidy store after to set kept_to same still = record {
    set = sets ∙ ap (λ (n : ℕ). record before.store.set { last_sequence = n })
        (sym (ap (λ (s : VersionSetValue). s.last_sequence) sets));
    kept_to = keeps;
    tidy = λ modelled tidy path obsolete.
        ap (λ (e : E). (env.observed e).disk.files path) still ∙ tidy path
        (subst (λ (s : VersionSetValue). IsObsoletePath s before.store.kept_to path) sets
        (subst (λ (k : Option ℕ). IsObsoletePath after.store.set k path) keeps obsolete));
  }
    where
      sets : after.store.set ≡ before.store.set
      sets = ap (λ (v : OpenStoreValue C). v.set) same ∙ set

      keeps : after.store.kept_to ≡ before.store.kept_to
      keeps = ap (λ (v : OpenStoreValue C). v.kept_to) same ∙ kept_to

  -- by what a call of the store returned
  pub tidied : (done : Result (Option (Result (Unit {0}) Status)) Status)
      (store : OpenStoreValue C) (after : EngineOf E C FP F B) (to : E)
      → store.set ≡ before.store.set → store.kept_to ≡ before.store.kept_to
      → after.removal ≡ removal_after before.removal done
      → OnOk (but_removal done) (IsUnbroken after.store)
      → IfOk done (λ removal. EndsByRemoval env from store removal after.store to)
      → TidiesOrKeeps env before from (but_removal done) after to
  tidied (Ok (Some removal)) store after to set kept_to is unbroken last =
      inl (subst (λ (r : Result (Unit {0}) Status). LeavesObsolete env from after.store r to)
      (sym is) (leaves_obsolete env removal unbroken.manifest last))
  tidied (Ok None) store after to set kept_to is unbroken nothing =
      inr (is, still_tidy store after to set kept_to nothing.0 nothing.1)
  tidied (Err status) store after to set kept_to is unbroken ends = inr (is, tt)

  -- and by a batch that was written then, or wasn't
  pub batch_tidied : (roomy : EngineOf E C FP F B) (mid : E)
      → TidiesOrKeeps env before from {T = Unit {0}} (Ok tt) roomy mid
      → {cmp : List ℕ → List ℕ → Ordering} {items : List Item} {sync : Bool}
      (result : Result (Unit {0}) Status) (value : OpenStoreValue C) (mode : machine.Mode) (to : E)
      → WritesBatch env cmp roomy.store mid items sync result value to
      → TidiesOrKeeps env before from result (record roomy { store = value; mode = mode }) to
  batch_tidied roomy mid (inl leaves) result value mode to writes =
      inl (leaves_then env roomy.store value roomy.removal writes.cause.later
      (λ modelled. tidy_written env writes modelled) leaves)
  batch_tidied roomy mid (inr (same, keeps)) result value mode to writes = inr (
    same,
    on_ok_of result (record {
      set = ap (λ (v : OpenStoreValue C). v.set) writes.rest
          ∙ ap (λ (s : VersionSetValue). record s { last_sequence = value.set.last_sequence })
          keeps.set;
      kept_to = ap (λ (v : OpenStoreValue C). v.kept_to) writes.rest ∙ keeps.kept_to;
      tidy = λ modelled tidy. tidy_written env writes modelled (keeps.tidy modelled tidy);
    }),
  )
