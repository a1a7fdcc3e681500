-- The step of the machine in which a store is opened: its lock is taken, its files are read, and
-- obsolete ones are deleted.
use Rattle.std.specs.Prelude.{map}
use Rattle.std.specs.Str.{bytes_eq}
use Rattle.std.specs.Cmp.Lexicographic.{bytes_decides}
use Rattle.std.specs.declared.cmp.Ordering.{Ordering}
use Rattle.std.proofs.Common.{◌≡◌, ◌≢◌, ◌≤◌, ◌+◌, ◌⊎◌, ◌∙◌, ⊎_elim, inl, inr, ℕ, Bool, true, false, List, [], length, refl, sym, ap, subst, arith, Option, Some, None, IsTrue}
use Rattle.leveldb_base.proofs.HistoryLemmas.{in_none}
use Rattle.leveldb_base.specs.History.{History, count_of, entries_of, greatest, with_batch}
use Rattle.leveldb_env.specs.Env.{Files, Observed, Run, SameBut}
use Rattle.leveldb_env.specs.Options.{Boxed, OptionsOf}
use Rattle.leveldb_env.specs.declared.env.Env.{Ghosts}
use Rattle.leveldb_env.proofs.EnvLemmas.{Run-mono, Run-trans}
use Rattle.leveldb_iter.specs.Snapshot.{HeldSnapshots}
use Rattle.leveldb_files.proofs.Histories.SafeLemmas.{some_is}
use Rattle.leveldb_files.specs.Stores.Contents.{Contents, Store, made, missing}
use Rattle.leveldb_files.specs.Histories.Holds.{Carries, Holds, MatchesHistory}
use Rattle.leveldb_files.specs.Stores.Paths.{current_path, lock_path}
use Rattle.leveldb_files.specs.Stores.Store.{IsStore}
use Rattle.leveldb_files.specs.Steps.StoreSteps.{AppendedAreBytes, KeepsHistory}
use Rattle.leveldb_files.specs.Stores.Format.{Agrees, Format, IsTableOf, Meaning}
use Rattle.leveldb_store.specs.Keeping.OpenStore.{IsUnbroken, OpenStoreValue}
use Rattle.leveldb_store.specs.Openings.OpensStore.{IsForbidden, IsOpenedAs, IsSound, KeepsFound, LacksUsableEdits}
use Rattle.leveldb_store.specs.Writing.WriteBatch.{IsOf}
use Rattle.leveldb_store.specs.Keeping.Written.{HasView}
use Rattle.leveldb_store.specs.Keeping.WrittenFrom.{KeepsStoreFrom, KeepsWrittenFrom}
use Rattle.rusty_leveldb.specs.Engines.Boxes.{EngineOf, InternalOrder}
use Rattle.rusty_leveldb.specs.Machines.Causes.{Disagrees, Misfits, Setting}
use Rattle.rusty_leveldb.specs.Engines.Engine.{HasOwnTables, Recalls, no_engine, engine_options, scene}
use Rattle.rusty_leveldb.specs.Engines.Frame.{IsOwn, Spares}
use Rattle.rusty_leveldb.specs.Machines.Machine.{MayOpen, Opens, StaysOr, Step}
use Rattle.rusty_leveldb.specs.Engines.Serves.{AreReadAs, TakesStep, IsSpared, Reads, Represents, StandsFor, order_of, setting_between, snapshot_of}
use Rattle.rusty_leveldb.specs.Machines.State as machine
use Rattle.rusty_leveldb.specs.Machines.State.{IsState, Opening, State, done, open_mode, open_store}
use Rattle.rusty_leveldb.proofs.Engines.Bounds.{safe_allow}
use Rattle.rusty_leveldb.proofs.Engines.EngineLemmas.{Stays, held_by_state, holds_allow}
use Rattle.rusty_leveldb.proofs.Openings.LockLemmas.{lock_current, lock_edits, lock_keeps, lock_reads}
use Rattle.rusty_leveldb.proofs.Machines.MachineLemmas.{risk_opening, step_fits}
use Rattle.rusty_leveldb.proofs.Engines.Others.{opening_spares}
use Rattle.leveldb_store.proofs.Keeping.HistoryLemmas.{written_shows}
use Rattle.rusty_leveldb.proofs.Openings.UnopenedLemmas.{Found, comparator_there, found_in, missing_if}
use Rattle.rusty_leveldb.proofs.Engines.ReadsLemmas.{IsNamed, if_same, if_stays, keeps_allowed, keeps_holds, keeps_of, may_stay, name_in, reads_in, safe_in, spared_opening, stands_named, stays_if, stays_named}

module _ (store : List ℕ) (meaning : Meaning) (opening : Opening)
    (agrees : Agrees opening.format meaning) (from : Observed) (old : State)
    (was : StandsFor store meaning from.disk old) where
  -- the name of the comparator that is asked for, and the name in the store
  abbrev asked_name : List ℕ
  asked_name = opening.format.order_name

  abbrev own_name : List ℕ
  own_name = name_in opening old.store

  abbrev own : List ℕ → List ℕ → Ordering
  own = meaning.orders own_name

  abbrev bound : ℕ
  bound = old.last + count_of old.pending

  named : IsNamed own_name old.store
  named = stands_named store meaning opening from.disk.files old.store old.history old.last
      old.durable old.pending was.holds

  -- the store that is there has the comparator's name, or another
  pub fits_or_not : IsNamed asked_name old.store
      ⊎ ((other : List ℕ) × (old.store ≡ made (Some other)) × (other ≢ asked_name))
  fits_or_not = by old.store refl named
    where
      by : (s : Store) → old.store ≡ s → IsNamed (name_in opening s) s
          → IsNamed asked_name old.store
          ⊎ ((other : List ℕ) × (old.store ≡ made (Some other)) × (other ≢ asked_name))
      by missing e n = inl (subst (IsNamed asked_name) (sym e) tt)
      by (made None) e n = absurd (let never : None ≡ Some asked_name = n in cc)
      by (made (Some other)) e n = at (bytes_eq other asked_name) refl
        where
          at : (b : Bool) → bytes_eq other asked_name ≡ b → IsNamed asked_name old.store
              ⊎ ((other : List ℕ) × (old.store ≡ made (Some other)) × (other ≢ asked_name))
          at true is = inl (subst (IsNamed asked_name) (sym e)
              (ap (λ (n : List ℕ). Some n) ((bytes_decides other asked_name).0 is)))
          at false is = inr (
            other,
            e,
            λ same. let never : true ≡ false =
                sym ((bytes_decides other asked_name).1 same) ∙ is in cc,
          )

  -- a store of another comparator has no edits that are usable
  pub other_lacks : (files : Files) → SameBut (lock_path store) from.disk.files files
      → (other : List ℕ) → old.store ≡ made (Some other) → other ≢ asked_name
      → LacksUsableEdits store opening.format files
  other_lacks files but other is differs =
      let found = found_in store meaning from.disk old was in
      let back : SameBut (lock_path store) files from.disk.files = λ path apart. sym (but path apart) in (
        λ gone. no_current found (sym (lock_current store from.disk.files files but) ∙ gone),
        λ edits has usable. differs (some_is other asked_name (some_made
            (sym is ∙ comparator_there store meaning from.disk.files old.store found edits
            (lock_edits store files from.disk.files back edits has) asked_name
            usable.comparator_is))),
      )
    where
      some_made : {a b : Option (List ℕ)} → made a ≡ made b → a ≡ b
      some_made e = ap (λ (s : Store). name_of s) e
        where
          name_of : Store → Option (List ℕ)
          name_of (made name) = name
          name_of missing = None

      no_current : (found : Found store meaning from.disk.files old.store)
          → from.disk.files (current_path store) ≡ None → ⊥
      no_current found gone =
          let never : made (Some other) ≡ missing =
          sym is ∙ missing_if store meaning from.disk.files old.store found gone in cc

  own_stays : (there : Store) → Stays old there → IsNamed own_name there
  own_stays there may = subst (IsNamed own_name) (sym (stays_if None old.store there may)) named

  -- ---- the lock is taken

  module _ (taken : Observed) (but : SameBut (lock_path store) from.disk.files taken.disk.files)
    where
      -- what was held is held
      pub taken_holds : Holds store (Reads store meaning) (λ now. now ≡ old.store) taken.disk.files
          old.history old.last old.durable old.pending
      taken_holds = keeps_holds store (Reads store meaning) (λ now. now ≡ old.store) from.disk.files
          taken.disk.files old.history old.last old.durable old.pending
          (keeps_allowed store (Reads store meaning) (Stays old) (λ now. now ≡ old.store)
          (stays_if None old.store) (if_stays None old.store) bound from.disk.files taken.disk.files
          (keeps_of store meaning own_name own refl (Stays old) own_stays bound from.disk.files
          taken.disk.files (lock_keeps store meaning own from.disk.files taken.disk.files but was.bytes
          (Stays old) bound))) was.holds

  -- what was spared is spared, with the lock's file or without it
  pub lock_spares : (files : Files) → SameBut (lock_path store) from.disk.files files
      → IsSpared store meaning old (risk_opening opening old) files
  lock_spares files but = spared_opening store meaning opening old own refl
      (with_batch old.history old.pending) bound from.disk.files files named
      (lock_keeps store meaning own from.disk.files files but was.bytes
      (λ it. IsTrue (may_stay (Some opening) old.store it)) bound)
      (safe_allow store (Reads store meaning) bound old.durable
      (with_batch old.history old.pending) from.disk.files (λ there is. inl is) was.holds.crash)

  -- ---- the files are read in the order that is asked for

  module _ (fits : IsNamed asked_name old.store) (taken : Observed)
      (but : SameBut (lock_path store) from.disk.files taken.disk.files)
      (bytes : AppendedAreBytes taken.disk.files) where
    abbrev order : List ℕ → List ℕ → Ordering
    order = opening.format.order

    asked_stays : (there : Store) → Stays old there → IsNamed asked_name there
    asked_stays there may = subst (IsNamed asked_name) (sym (stays_if None old.store there may)) fits

    same_name : own_name ≡ asked_name
    same_name = by old.store fits
      where
        by : (s : Store) → IsNamed asked_name s → name_in opening s ≡ asked_name
        by missing n = refl
        by (made None) n = refl
        by (made (Some other)) n = some_is other asked_name n

    own_order : order ≡ meaning.orders own_name
    own_order = agrees.order ∙ ap meaning.orders (sym same_name)

    -- the store stays, or is the one that the opening makes
    pub new_stays : StaysOr (Some opening) old.store (made (Some asked_name))
    new_stays = by old.store fits
      where
        by : (s : Store) → IsNamed asked_name s
            → StaysOr (Some opening) s (made (Some asked_name))
        by missing n = inr (refl, refl)
        by (made other) n = inl (ap made (sym n))

    -- contents that are read, and the history that they match
    pub record Finds : Type 0 where
      pub part : History
      pub joins : (part ≡ old.history) ⊎ (part ≡ with_batch old.history old.pending)
      pub carries : Carries store (Reads store meaning) (λ now. now ≡ old.store) bound part
          taken.disk.files

    pub finds : Finds
    finds = ⊎_elim
        (λ (c : Carries store (Reads store meaning) (λ now. now ≡ old.store) bound old.history
        taken.disk.files). record { part = old.history; joins = inl refl; carries = c })
        (λ (c : Carries store (Reads store meaning) (λ now. now ≡ old.store) bound
        (with_batch old.history old.pending) taken.disk.files).
        record { part = with_batch old.history old.pending; joins = inr refl; carries = c })
        (taken_holds taken but).now

    abbrev pub contents : Contents
    contents = finds.carries.contents

    store_is : contents.store ≡ old.store
    store_is = finds.carries.matches.store

    pub is_sound : IsSound order meaning store taken.disk.files contents
    is_sound = record {
      read = reads_in store meaning asked_name order agrees.order taken.disk.files contents
          (subst (IsNamed asked_name) (sym store_is) fits) finds.carries.read;
      bytes = bytes;
      allowed = may_stay None old.store;
      bound = bound;
      durable = old.durable;
      history = with_batch old.history old.pending;
      safe = safe_in store meaning asked_name order agrees.order (Stays old) asked_stays bound
          old.durable (with_batch old.history old.pending) taken.disk.files
          (safe_allow store (Reads store meaning) bound old.durable
          (with_batch old.history old.pending) taken.disk.files (if_stays None old.store)
          (taken_holds taken but).crash);
    }

    -- what was spared is spared at each moment of the opening
    pub opening_run : (opened : Observed)
        → KeepsFound order meaning store asked_name contents taken opened
        → Run (IsSpared store meaning old (risk_opening opening old)) taken opened
    opening_run opened keeps = Run-mono
        (λ files kept. spared_opening store meaning opening old order own_order
        (with_batch old.history old.pending) bound taken.disk.files files named kept
        (lock_spares taken.disk.files but))
        (keeps (may_stay (Some opening) old.store)
        (if_stays (Some opening) old.store contents.store (inl store_is))
        (if_stays (Some opening) old.store (made (Some asked_name)) new_stays) bound
        finds.carries.matches.bounded)

    -- what was held is held in the end, of the store that was there or the one that is made
    pub opening_holds : (opened : Observed)
        → KeepsFound order meaning store asked_name contents taken opened
        → Holds store (Reads store meaning) (StaysOr (Some opening) old.store) opened.disk.files
        old.history old.last old.durable old.pending
    opening_holds opened keeps =
        let may : Store → Type 0 = λ it. IsTrue (may_stay (Some opening) old.store it) in
        let run = keeps (may_stay (Some opening) old.store)
        (if_stays (Some opening) old.store contents.store (inl store_is))
        (if_stays (Some opening) old.store (made (Some asked_name)) new_stays) bound
        finds.carries.matches.bounded in
        let by = keeps_of store meaning own_name order own_order may
        (λ there m. stays_named opening old.store there named
        (stays_if (Some opening) old.store there m)) bound taken.disk.files opened.disk.files
        run.has in
        keeps_holds store (Reads store meaning) (StaysOr (Some opening) old.store) taken.disk.files
        opened.disk.files old.history old.last old.durable old.pending
        (keeps_allowed store (Reads store meaning) may (StaysOr (Some opening) old.store)
        (stays_if (Some opening) old.store) (if_stays (Some opening) old.store) bound
        taken.disk.files opened.disk.files by)
        (holds_allow store (Reads store meaning) (λ now. now ≡ old.store)
        (StaysOr (Some opening) old.store) (λ there is. inl is) taken.disk.files old.history old.last
        old.durable old.pending (taken_holds taken but))

    -- ---- it is opened

    -- as this store, which is then kept from the smallest held number on
    module _ {C : Type 0} (value : OpenStoreValue C) (opened : Observed)
        (path : value.set.store ≡ store)
        (keeps : KeepsFound order meaning store asked_name contents taken opened)
        (is_opened : IsOpenedAs order meaning store asked_name contents value opened.disk.files)
        (final : OpenStoreValue C) (to : Observed) (unbroken : IsUnbroken final)
        (same_path : final.set.store ≡ value.set.store)
        (same_last : final.set.last_sequence ≡ value.set.last_sequence) (smallest : ℕ)
        (ended : KeepsWrittenFrom order meaning smallest value opened final to) where
      abbrev part : History
      part = finds.part

      -- the state in the end
      abbrev pub now : State
      now = record {
        history = part;
        last = contents.last;
        durable = length part;
        held = [];
        given = [];
        pending = None;
        mode = open_mode;
        locked = true;
        store = made (Some asked_name);
        format = opening.format;
      }

      matches : MatchesHistory (λ any. Unit {0}) contents.last contents part
      matches = record {
        same = finds.carries.matches.same;
        up_to = finds.carries.matches.up_to;
        reached = finds.carries.matches.reached;
        bounded = omega arith;
        store = tt;
      }

      opened_holds : Holds store (IsStore store order (IsTableOf order meaning)) (Stays now)
          opened.disk.files part contents.last (length part) None
      opened_holds = is_opened.holds (may_stay None (made (Some asked_name)))
          (if_same (made (Some asked_name)) (made (Some asked_name)) refl) part matches

      kept : KeepsStoreFrom order meaning smallest (Stays now) value opened final to
      kept = ended (may_stay None (made (Some asked_name))) is_opened.written

      last_is : value.set.last_sequence ≡ contents.last
      last_is = is_opened.last

      final_last : final.set.last_sequence ≡ contents.last
      final_last = same_last ∙ last_is

      end_holds : Holds store (IsStore store order (IsTableOf order meaning)) (Stays now)
          to.disk.files part contents.last (length part) None
      end_holds =
          let run = subst (λ p. Run (KeepsHistory p order (IsTableOf order meaning) (Stays now)
          (contents.last + 0) opened.disk.files) opened to) path
          (kept.moments (contents.last + 0) (omega (arith, last_is))) in
          keeps_holds store (IsStore store order (IsTableOf order meaning)) (Stays now)
          opened.disk.files to.disk.files part contents.last (length part) None
          (record { now = run.has.now; crash = run.has.crash }) opened_holds

      pub end_of : IsOf order meaning (Stays now) final to.disk.files part (length part)
      end_of = record {
        written = kept.written unbroken;
        holds =
            subst (λ l. Holds final.set.store (IsStore final.set.store order
            (IsTableOf order meaning)) (Stays now) to.disk.files part l (length part) None)
            (sym final_last)
            (subst (λ p. Holds p (IsStore p order (IsTableOf order meaning)) (Stays now)
            to.disk.files part contents.last (length part) None) (sym (same_path ∙ path)) end_holds);
      }

      pub end_shows : HasView order meaning final to.disk.files part (greatest (entries_of part))
      end_shows = written_shows order meaning (Stays now) final to.disk.files part (length part)
          end_of.written end_of.holds

      pub end_stands : IsState now → AppendedAreBytes to.disk.files
          → to.disk.locked (lock_path store) ≡ true → StandsFor store meaning to.disk now
      end_stands is_state bytes_now locked = record {
        is_state = is_state;
        holds = held_by_state store meaning now agrees refl to.disk.files part contents.last
            (length part) None end_holds;
        bytes = bytes_now;
        locked = locked;
        agrees = λ in_use. agrees;
      }

      -- the moments of the whole
      pub end_run : Run (IsSpared store meaning old (risk_opening opening old)) from taken
          → Run (IsSpared store meaning old (risk_opening opening old)) from to
      end_run early =
          let first = opening_run opened keeps in
          let kept_any = ended (may_stay (Some opening) old.store) is_opened.written in
          Run-trans (Run-trans early (λ files is. is) first) (λ files is. is)
          (Run-mono (λ files k. spared_opening store meaning opening old order own_order
          (with_batch old.history old.pending) bound opened.disk.files files named
          (subst (λ p. KeepsHistory p order (IsTableOf order meaning)
          (λ it. IsTrue (may_stay (Some opening) old.store it)) bound opened.disk.files files) path k)
          first.has)
          (kept_any.moments bound (subst (λ n. n ≤ bound) (sym last_is)
          finds.carries.matches.bounded)))

      -- ---- the step

      module _ (was_free : from.disk.locked (lock_path store) ≡ false)
          (allowed : IsForbidden store opening.create_if_missing opening.error_if_exists
          taken.disk.files → ⊥) where
        -- without `CURRENT` no store is there
        no_current : old.store ≡ missing → taken.disk.files (current_path store) ≡ None
        no_current is = by finds.carries.read
          where
            by : Reads store meaning taken.disk.files contents
                → taken.disk.files (current_path store) ≡ None
            by (inl bare) = bare.0.no_current
            by (inr m) = absurd (let never : made (Some m.managed.comparator) ≡ missing =
                sym (ap (λ (c : Contents). c.store) m.managed.is) ∙ store_is ∙ is in cc)

        -- and where one is there, so is `CURRENT`
        has_current : (name : Option (List ℕ)) → old.store ≡ made name
            → taken.disk.files (current_path store) ≢ None
        has_current name is gone = by finds.carries.read
          where
            by : Reads store meaning taken.disk.files contents → ⊥
            by (inl bare) = let never : missing ≡ made name =
                sym (ap (λ (c : Contents). c.store) bare.1) ∙ store_is ∙ is in cc
            by (inr m) = let never : None ≡ Some m.has_edits.current =
                sym gone ∙ m.has_edits.current_there in cc

        may : MayOpen opening old.store
        may = by old.store refl
          where
            by : (s : Store) → old.store ≡ s → MayOpen opening s
            by missing e = at opening.create_if_missing refl
              where
                at : (b : Bool) → opening.create_if_missing ≡ b → IsTrue opening.create_if_missing
                at true is = is
                at false is = absurd (allowed (inr (is, no_current e)))
            by (made name) e = at opening.error_if_exists refl
              where
                at : (b : Bool) → opening.error_if_exists ≡ b → opening.error_if_exists ≡ false
                at false is = is
                at true is = absurd (allowed (inl (is, has_current name e)))

        pub agrees_so : Disagrees opening old.store → ⊥
        agrees_so = by old.store refl fits
          where
            by : (s : Store) → old.store ≡ s → IsNamed asked_name s → Disagrees opening s → ⊥
            by missing e n none = allowed (inr (none, no_current e))
            by (made name) e n differs = differs n

        pub opens : Opens old opening now
        opens = record {
          free = sym was.locked ∙ was_free;
          may = may;
          stays = new_stays;
          store = refl;
          joins = finds.joins;
          reached = finds.carries.matches.reached;
          bounded = finds.carries.matches.bounded;
          durable = inr refl;
          state = refl;
        }

        pub opened_step : (setting : Setting) → IsTrue opening.fits → IsTrue opening.compresses
            → Step machine.closed setting old (open_store opening) done now
        opened_step setting well set = (
          record {
            operands = misfits;
            numbers = λ (unset : opening.compresses ≡ false).
                let never : true ≡ false = sym set ∙ unset in cc;
          },
          opens,
        )
          where
            misfits : Misfits old (open_store opening) → ⊥
            misfits (inl unfit) = let never : true ≡ false = sym well ∙ unfit in cc
            misfits (inr disagrees) = agrees_so disagrees

-- the engine of a store that was opened
module _ {E C FP F : Type 0} {B : Boxed} {keys : InternalOrder C} (env : Ghosts E F)
    (formats : OptionsOf C FP B → Format)
    (store : List ℕ) (meaning : Meaning) (opening : Opening) (agrees : Agrees opening.format meaning)
    (from : E) (old : State)
    (was : Represents store meaning (Recalls keys env formats store meaning) None
    (env.observed from).disk old)
    (fits : IsNamed opening.format.order_name old.store) (taken : Observed)
    (but : SameBut (lock_path store) (env.observed from).disk.files taken.disk.files)
    (bytes : AppendedAreBytes taken.disk.files) (value : OpenStoreValue C) (opened : Observed)
    (path : value.set.store ≡ store)
    (keeps : KeepsFound opening.format.order meaning store opening.format.order_name
    (contents store meaning opening agrees (env.observed from) old was.disk_is fits taken but bytes)
    taken opened)
    (is_opened : IsOpenedAs opening.format.order meaning store opening.format.order_name
    (contents store meaning opening agrees (env.observed from) old was.disk_is fits taken but bytes)
    value opened.disk.files)
    (engine : EngineOf E C FP F B) (to : E) (unbroken : IsUnbroken engine.store)
    (same_path : engine.store.set.store ≡ value.set.store)
    (same_last : engine.store.set.last_sequence ≡ value.set.last_sequence) (smallest : ℕ)
    (ended : KeepsWrittenFrom opening.format.order meaning smallest value opened engine.store
    (env.observed to))
    (was_free : (env.observed from).disk.locked (lock_path store) ≡ false)
    (allowed : IsForbidden store opening.create_if_missing opening.error_if_exists
    taken.disk.files → ⊥) where
  abbrev new : State
  new = now store meaning opening agrees (env.observed from) old was.disk_is fits taken but bytes
      value opened path keeps is_opened engine.store (env.observed to) unbroken same_path same_last
      smallest ended

  recalled : engine.mode ≡ open_mode → engine.snapshots ≡ record { held = []; given = 0 }
      → engine.lock ≡ lock_path store
      → formats (engine_options engine) ≡ opening.format
      → HasOwnTables keys env formats engine (env.observed to).disk.files
      → Recalls keys env formats store meaning engine (env.observed to).disk new
  recalled mode unheld lock same tables = record {
    mode = mode;
    lock = lock;
    path = same_path ∙ path;
    format = λ in_use. same;
    named = λ in_use. refl;
    last = λ in_use. same_last ∙ is_opened.last;
    shows = λ in_use. record {
      since = greatest (entries_of new.history);
      shows = end_shows store meaning opening agrees (env.observed from) old was.disk_is fits
          taken but bytes value opened path keeps is_opened engine.store (env.observed to) unbroken
          same_path same_last smallest ended;
      now = omega arith;
      held = λ one there. absurd (in_none one there);
    };
    snapshots = λ in_use. record {
      held = ap (λ (s : HeldSnapshots). map snapshot_of s.held) unheld;
      count = sym (ap (λ (s : HeldSnapshots). s.given) unheld);
      given = λ number there. absurd (in_none number there);
    };
    tables = λ in_use. tables;
    writes = λ is. (end_of store meaning opening agrees (env.observed from) old was.disk_is fits taken
        but bytes value opened path keeps is_opened engine.store (env.observed to) unbroken same_path
        same_last smallest ended).written;
  }

  -- the step of the machine
  stepped : IsTrue opening.fits → IsTrue opening.compresses
      → Step old.mode (setting_between meaning (env.failures from) (env.failures to)) old
      (open_store opening) done new
  stepped well set =
      let setting = setting_between meaning (env.failures from) (env.failures to) in
      subst (λ m. Step m setting old (open_store opening) done new) (sym was.memory_is)
      (opened_step store meaning opening agrees (env.observed from) old was.disk_is fits taken but
      bytes value opened path keeps is_opened engine.store (env.observed to) unbroken same_path same_last
      smallest ended was_free allowed setting well set)

  represented : engine.mode ≡ open_mode → engine.snapshots ≡ record { held = []; given = 0 }
      → engine.lock ≡ lock_path store
      → formats (engine_options engine) ≡ opening.format
      → HasOwnTables keys env formats engine (env.observed to).disk.files
      → IsTrue opening.fits → IsTrue opening.compresses
      → AppendedAreBytes (env.observed to).disk.files
      → (env.observed to).disk.locked (lock_path store) ≡ true
      → Represents store meaning (Recalls keys env formats store meaning) (Some engine)
      (env.observed to).disk new
  represented mode unheld lock same tables well set bytes_now locked = record {
    disk_is = end_stands store meaning opening agrees (env.observed from) old was.disk_is fits
        taken but bytes value opened path keeps is_opened engine.store (env.observed to)
        unbroken same_path same_last smallest ended (step_fits
        (setting_between meaning (env.failures from) (env.failures to)) old new (open_store opening)
        done was.disk_is.is_state (stepped well set)) bytes_now locked;
    memory_is = recalled mode unheld lock same tables;
  }

  -- the files were read as the history that it has then
  found_as : AreReadAs store meaning (env.observed from).disk.files new.history new.last
  found_as =
      let found = finds store meaning opening agrees (env.observed from) old was.disk_is fits taken but
      bytes in
      let c = found.carries in
      let back : SameBut (lock_path store) taken.disk.files (env.observed from).disk.files =
      λ path apart. sym (but path apart) in (
        record {
          contents = c.contents;
          read = lock_reads store taken.disk.files (env.observed from).disk.files back meaning
              (order_of meaning c.contents.store) c.contents c.read;
          matches = record {
            same = c.matches.same;
            up_to = c.matches.up_to;
            reached = c.matches.reached;
            bounded = omega arith;
            store = tt;
          };
        },
        refl,
      )

  pub opened_found : engine.mode ≡ open_mode → engine.snapshots ≡ record { held = []; given = 0 }
      → engine.lock ≡ lock_path store
      → formats (engine_options engine) ≡ opening.format
      → HasOwnTables keys env formats engine (env.observed to).disk.files
      → IsTrue opening.fits → IsTrue opening.compresses
      → AppendedAreBytes (env.observed to).disk.files
      → (env.observed to).disk.locked (lock_path store) ≡ true
      → (last : State) × Represents store meaning (Recalls keys env formats store meaning)
      (Some engine) (env.observed to).disk last × Opens old opening last
      × AreReadAs store meaning (env.observed from).disk.files last.history last.last
  opened_found mode unheld lock same tables well set bytes_now locked = (
    new,
    represented mode unheld lock same tables well set bytes_now locked,
    opens store meaning opening agrees (env.observed from) old was.disk_is fits taken but
        bytes value opened path keeps is_opened engine.store (env.observed to) unbroken same_path
        same_last smallest ended was_free allowed,
    found_as,
  )

  pub opened_goes : engine.mode ≡ open_mode → engine.snapshots ≡ record { held = []; given = 0 }
      → engine.lock ≡ lock_path store
      → formats (engine_options engine) ≡ opening.format
      → HasOwnTables keys env formats engine (env.observed to).disk.files
      → IsTrue opening.fits → IsTrue opening.compresses
      → env.failures from ≤ env.failures to
      → Run (IsSpared store meaning old (risk_opening opening old)) (env.observed from) taken
      → AppendedAreBytes (env.observed to).disk.files
      → (env.observed to).disk.locked (lock_path store) ≡ true
      → Spares store (IsOwn store) (env.observed from).disk (env.observed to).disk
      → TakesStep store meaning (Recalls keys env formats store meaning)
      (scene env (no_engine {E = E} {C = C} {FP = FP} {F = F} {B = B}
      engine.options) from)
      (open_store opening) done (scene env (Some engine) to) old
  opened_goes mode unheld lock same tables well set later early bytes_now locked spares =
      record {
        new = new;
        represents = represented mode unheld lock same tables well set bytes_now locked;
        later = later;
        step = stepped well set;
        moments = end_run store meaning opening agrees (env.observed from) old was.disk_is fits taken
            but bytes value opened path keeps is_opened engine.store (env.observed to) unbroken
            same_path same_last smallest ended early;
        spares = opening_spares store old.mode opening (env.observed from).disk
            (env.observed to).disk was.memory_is spares;
        bytes = λ never. absurd never;
      }
