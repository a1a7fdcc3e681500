-- A store that keeps other files is the same store, but for that.
use Rattle.std.proofs.Common.{◌≡◌, ℕ, Bool, List, Option, Ok}
use Rattle.std.specs.declared.cmp.Ordering.{Ordering}
use Rattle.leveldb_env.specs.Env.{Files}
use Rattle.leveldb_env.specs.declared.env.Env.{Ghosts}
use Rattle.leveldb_files.specs.Stores.Format.{Format, Meaning}
use Rattle.leveldb_store.specs.Keeping.OpenStore.{IsUnbroken, OpenStoreValue}
use Rattle.leveldb_store.specs.Openings.OpensStore.{OpensStore}
use Rattle.leveldb_store.specs.Keeping.Written.{IsWritten}

module _ {C : Type 0} (value : OpenStoreValue C) (kept_to : Option ℕ) where
  -- the store that keeps these
  abbrev pub keeping : OpenStoreValue C
  keeping = record value { kept_to = kept_to }

  pub unbroken_keeping : IsUnbroken value → IsUnbroken keeping
  unbroken_keeping is = record { manifest = is.manifest; log = is.log }

  pub written_keeping : (cmp : List ℕ → List ℕ → Ordering) (meaning : Meaning) (files : Files)
      → IsWritten cmp meaning value files → IsWritten cmp meaning keeping files
  written_keeping cmp meaning files w =
      record { edits = w.edits; by = w.by; writer = w.writer }

  -- an opening gave it
  pub opens_keeping : {E F : Type 0} (env : Ghosts E F) (store : List ℕ) (format : Format)
      (create_if_missing error_if_exists : Bool) (from : E) (limit : ℕ) (to : E)
      → OpensStore env store format create_if_missing error_if_exists from limit (Ok value) to
      → OpensStore env store format create_if_missing error_if_exists from limit (Ok keeping) to
  opens_keeping env store format create_if_missing error_if_exists from limit to o = record {
    path = o.path;
    unbroken = unbroken_keeping o.unbroken;
    room = o.room;
    tables = o.tables;
    manifest = o.manifest;
    live = o.live;
    replayed = λ modelled meaning agrees edits has.
        let it = o.replayed modelled meaning agrees edits has in
        record { tables = it.tables; each = it.each; entries = it.entries };
    keeps = o.keeps;
    opens = λ modelled meaning agrees contents sound.
        let it = o.opens modelled meaning agrees contents sound in
        record {
          written = written_keeping format.order meaning (env.observed to).disk.files it.written;
          last = it.last;
          holds = it.holds;
        };
    stays = o.stays;
    others = o.others;
    kept = o.kept;
    numbers = o.numbers;
    locks = o.locks;
  }
