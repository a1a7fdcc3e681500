-- Two lives with a crash between: what was written with a sync is found.
use Rattle.std.proofs.Common.{◌≡◌, ◌≤◌, ◌<◌, ⊎_elim, inl, inr, ℕ, Bool, true, false, List, [], ◌∷◌, refl, arith, Some, None, IsTrue}
use Rattle.std.proofs.lemmas.List.Elements.{All-nil, All-cons}
use Rattle.leveldb_base.specs.History.{Entry, HasValueAt}
use Rattle.leveldb_base.proofs.HistoryLemmas.{in_front}
use Rattle.leveldb_files.specs.Stores.Contents.{made}
use Rattle.leveldb_files.specs.Stores.Format.{Meaning}
use Rattle.rusty_leveldb.specs.Machines.State.{State, Opening, open_store, write, get, done, found, open_mode, closed}
use Rattle.leveldb_base.specs.KeyTypes.{IsLongKey}
use Rattle.rusty_leveldb.specs.Machines.Causes.{Setting, Disagrees, Fits, IsLongBatch}
use Rattle.rusty_leveldb.specs.Machines.Machine.{Step}
use Rattle.rusty_leveldb.specs.Machines.Runs.{Event, StopsAt, Lives, new_state}
use Rattle.rusty_leveldb.specs.Machines.Laws.{SyncedCanBeFound, answered_at, written_and_found}

not_false : (b : Bool) → IsTrue b → b ≡ false → ⊥
not_false true t e = absurd (cc)
not_false false t e = absurd (cc)

module _ (meaning : Meaning) (opening : Opening) (key value : List ℕ) (short : IsLongKey key → ⊥)
    (small : IsLongBatch (record { key = key; value = Some value } ∷ []) → ⊥) (fits : IsTrue opening.fits)
    (compresses : IsTrue opening.compresses) (create : IsTrue opening.create_if_missing)
    (there : opening.error_if_exists ≡ false) where
  abbrev quiet : Setting
  quiet = record { before = 0; after = 0; meaning = meaning }

  abbrev entry : Entry
  entry = record { sequence = 1; key = key; value = Some value }

  abbrev first : State
  first = new_state opening.format

  abbrev opened : State
  opened = record first { mode = open_mode; locked = true; store = made (Some opening.format.order_name) }

  abbrev written : State
  written = record opened { history = (entry ∷ []) ∷ []; last = 1; durable = 1 }

  abbrev left : State
  left = record written { mode = closed; locked = false }

  shown : HasValueAt (entry ∷ []) 1 key value
  shown = record {
    entry = entry;
    newest = record { there = in_front entry []; seen = omega arith; newest = λ other c k seen. seen };
    key_is = refl;
    value_is = refl;
  }

  -- the openings, the batch and the key fit
  fits_first : Fits first (open_store opening)
  fits_first = record {
    operands = λ misfits. ⊎_elim (λ (e : opening.fits ≡ false). not_false opening.fits fits e)
        (λ (e : opening.create_if_missing ≡ false). not_false opening.create_if_missing create e) misfits;
    numbers = not_false opening.compresses compresses;
  }

  fits_again : Fits left (open_store opening)
  fits_again = record {
    operands = λ misfits. ⊎_elim (λ (e : opening.fits ≡ false). not_false opening.fits fits e)
        (λ (other : Disagrees opening left.store). other refl) misfits;
    numbers = not_false opening.compresses compresses;
  }

  opens_first : Step closed quiet first (open_store opening) done opened
  opens_first = (
    fits_first,
    record {
      free = refl;
      may = create;
      stays = inr (refl, refl);
      store = refl;
      joins = inl refl;
      reached = omega arith;
      bounded = omega arith;
      durable = inl refl;
      state = refl;
    },
  )

  writes : Step open_mode quiet opened (write (record { key = key; value = Some value } ∷ []) true) done written
  writes = (
    record { operands = small; numbers = λ up. absurd (let never : ⊥ = omega arith in never) },
    record { state = refl; durable = inr refl; synced = λ t. refl },
  )

  opens_again : Step closed quiet left (open_store opening) done written
  opens_again = (
    fits_again,
    record {
      free = refl;
      may = there;
      stays = inl refl;
      store = refl;
      joins = inl refl;
      reached = omega arith;
      bounded = omega arith;
      durable = inl refl;
      state = refl;
    },
  )

  finds : Step open_mode quiet written (get None key) (found (Some value)) written
  finds = (
    record {
      operands = λ misfits. ⊎_elim (λ (never : ⊥). never) short misfits;
      numbers = λ never. never;
    },
    (record { sequence = 1; at_is = refl; looks = shown }, refl),
  )

  abbrev opening_then : Event
  opening_then = answered_at 1 (open_store opening) done

  abbrev writing_then : Event
  writing_then = answered_at 2 (write (record { key = key; value = Some value } ∷ []) true) done

  abbrev reading_then : Event
  reading_then = answered_at 3 (get None key) (found (Some value))

  stops : StopsAt meaning 0 0 first (opening_then ∷ writing_then ∷ reading_then ∷ []) 2 false 0 written left
  stops = record {
    done = opening_then ∷ writing_then ∷ [];
    undone = reading_then ∷ [];
    split = refl;
    by_then = All-cons (λ event. event.moment ≤ 2) opening_then (writing_then ∷ []) (omega arith)
        (All-cons (λ event. event.moment ≤ 2) writing_then [] (omega arith)
        (All-nil (λ event. event.moment ≤ 2)));
    not_yet = All-cons (λ event. 2 < event.moment) reading_then [] (omega arith)
        (All-nil (λ event. 2 < event.moment));
    failures = 0;
    state = written;
    run = (omega arith, opened, opens_first, (omega arith, written, writes, (refl, refl)));
    crash = (
      omega arith,
      written,
      finds,
      (refl, refl),
      inl (
        refl,
        refl,
        record {
          prefix = record { count = 1; enough = omega arith; there = omega arith; first = refl };
          stays = refl;
          state = refl;
        },
      ),
    );
  }

  lives : Lives meaning 0 first (written_and_found opening key value) 0 written
  lives = (
    0,
    left,
    ((0, written, stops), refl),
    (
      0,
      written,
      (omega arith, written, opens_again, (omega arith, written, finds, (refl, refl))),
      (refl, refl),
    ),
  )

pub synced_can_be_found : SyncedCanBeFound
synced_can_be_found meaning opening key value short small fits compresses create there = (
  written meaning opening key value short small fits compresses create there,
  lives meaning opening key value short small fits compresses create there,
)
