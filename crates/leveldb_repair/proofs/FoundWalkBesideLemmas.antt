-- Walks over found tables stay where they are while tables of numbers that may be made are written.
use Rattle.std.specs.Prelude.{IsSomeAnd}
use Rattle.std.proofs.Common.{◌≡◌, ℕ, List, Option, refl, sym, subst}
use Rattle.leveldb_base.specs.Types.{Pair}
use Rattle.leveldb_base.specs.declared.cmp.Cmp.{Ghosts as CmpGhosts}
use Rattle.leveldb_base.specs.declared.cmp.internal.InternalKeyCmp.{InternalKeyCmp}
use Rattle.leveldb_base.specs.declared.error.Status.{Status}
use Rattle.leveldb_base.specs.declared.types.LdbIterator.{Ghosts as IteratorGhosts}
use Rattle.leveldb_env.specs.Compressor.{Codings}
use Rattle.leveldb_env.specs.Env.{File, bytes_of}
use Rattle.leveldb_env.specs.declared.env.Env.{Ghosts as EnvGhosts}
use Rattle.leveldb_iter.specs.Walk.{KeyOrder}
use Rattle.leveldb_table.specs.OpenTable.{file_of}
use Rattle.leveldb_repair.specs.FoundWalk.{FailsInWalk, IsWalkAt, IsWalkOver}
use Rattle.leveldb_repair.specs.FoundWalkLaws.{found_fails_before}
use Rattle.leveldb_repair.specs.FoundWalkTable.{ChangesBesideFound, FailsInFound, IsFoundAt, IsFoundOver}
use Rattle.leveldb_repair.specs.FoundWalkOf.{FoundWalk}
use Rattle.leveldb_repair.specs.declared.found_walk.FoundWalk.TheVariants.{Memory, Table}
use Rattle.leveldb_repair.specs.declared.found_walk.files.ReadFiles.{ReadFiles}
use Rattle.leveldb_repair.specs.declared.found_walk.table.FoundTable.{FoundTable}

module _ {E C K F : Type 0} (order : CmpGhosts (InternalKeyCmp C)) (env : EnvGhosts E F)
    (codings : K → Codings) (files : ReadFiles K) (from to : E)
    (beside : ChangesBesideFound env files from to) where
  -- over the same list
  unfoldable pub found_over_beside : (it : FoundTable E C F) (keys : KeyOrder) (pairs : List Pair)
      → IsFoundOver order env codings (from, files) it keys pairs
      → IsFoundOver order env codings (to, files) it keys pairs
  found_over_beside it keys pairs over =
      let there = over.there in let has = there.has in
      record {
        bytes = over.bytes;
        parts = over.parts;
        there = record {
          has = record {
            modelled = has.modelled;
            there = subst (λ (o : Option File).
                IsSomeAnd o (λ file. bytes_of file ≡ over.bytes))
                (sym (beside.kept has.modelled (env.name_of (file_of it.table)) over.old))
                has.there;
            fits = has.fits;
          };
          parts_are = there.parts_are;
          holds = there.holds;
          indexed = there.indexed;
          sorted = there.sorted;
        };
        old = over.old;
        keys_are = over.keys_are;
        pairs_are = over.pairs_are;
      }

  -- at the same position
  pub found_at_beside : (it : FoundTable E C F) (keys : KeyOrder) (pairs : List Pair)
      (position : Option ℕ) → IsFoundAt order env codings (from, files) it keys pairs position
      → IsFoundAt order env codings (to, files) it keys pairs position
  unfolding found_over_beside
  found_at_beside it keys pairs position at = record {
    over = found_over_beside it keys pairs at.over;
    at = at.at;
  }

  -- with no new error
  pub found_excuses_beside : (it : FoundTable E C F) (later : E × ReadFiles K) (status : Status)
      → FailsInFound order env codings (to, files) it later status
      → FailsInFound order env codings (from, files) it later status
  found_excuses_beside it =
      found_fails_before (from, files) (to, files) beside.later refl it it (found_over_beside it)

  module _ {M : Type 0} (iterator : IteratorGhosts M) where
    -- so each child of a repair's merge
    pub walk_over_beside : (it : FoundWalk E C M F) (keys : KeyOrder) (pairs : List Pair)
        → IsWalkOver order env codings iterator (from, files) it keys pairs
        → IsWalkOver order env codings iterator (to, files) it keys pairs
    walk_over_beside (Memory it) keys pairs over =
        record { order_is = over.order_is; pairs_are = over.pairs_are; sorted = over.sorted }
    walk_over_beside (Table it) keys pairs over = found_over_beside it keys pairs over

    pub walk_at_beside : (it : FoundWalk E C M F) (keys : KeyOrder) (pairs : List Pair)
        (position : Option ℕ)
        → IsWalkAt order env codings iterator (from, files) it keys pairs position
        → IsWalkAt order env codings iterator (to, files) it keys pairs position
    walk_at_beside (Memory it) keys pairs position at = let over = at.over in record {
      over = record { order_is = over.order_is; pairs_are = over.pairs_are; sorted = over.sorted };
      position_is = at.position_is;
    }
    walk_at_beside (Table it) keys pairs position at = found_at_beside it keys pairs position at

    pub walk_excuses_beside : (it : FoundWalk E C M F) (later : E × ReadFiles K) (status : Status)
        → FailsInWalk order env codings iterator (to, files) it later status
        → FailsInWalk order env codings iterator (from, files) it later status
    walk_excuses_beside (Memory it) later status fails = fails
    walk_excuses_beside (Table it) later status fails = found_excuses_beside it later status fails
