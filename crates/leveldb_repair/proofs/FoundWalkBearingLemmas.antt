-- A repair's merge changes no file, and bears new tables: those leave it where it is.
use Rattle.std.proofs.Common.{◌≡◌, ◌↔◌, ℕ, false, List, Option, subst, sym, arith}
use Rattle.std.specs.Str.{bytes_eq}
use Rattle.leveldb_base.specs.Types.{Pair}
use Rattle.leveldb_base.specs.declared.cmp.Cmp.{Ghosts as CmpGhosts}
use Rattle.leveldb_base.specs.declared.cmp.internal.InternalKeyCmp.{InternalKeyCmp}
use Rattle.leveldb_base.specs.declared.error.Status.{Status}
use Rattle.leveldb_base.specs.declared.types.LdbIterator.{Ghosts as IteratorGhosts}
use Rattle.leveldb_env.specs.Compressor.{Codings}
use Rattle.leveldb_env.specs.declared.env.Env.{Ghosts as EnvGhosts}
use Rattle.leveldb_iter.specs.Walk.{KeyOrder}
use Rattle.leveldb_iter.specs.declared.merging_iter.MergeCore.{MergeCore}
use Rattle.leveldb_iter.specs.declared.walk.Walk.{Ghosts as WalkGhosts}
use Rattle.leveldb_files.specs.Stores.Paths.{table_path}
use Rattle.leveldb_store.proofs.Compactions.BearingLemmas.{IsMergeOf, MovesKeep, NewTablesKeep, bears_new_tables, merge_borne, merge_moves}
use Rattle.leveldb_store.specs.Compactions.Merging.{BearsNewTables, MovesLeaveFiles}
use Rattle.leveldb_repair.proofs.FoundWalkBesideLemmas.{walk_at_beside, walk_excuses_beside, walk_over_beside}
use Rattle.leveldb_repair.specs.FoundWalk.{FailsInWalk, IsWalkAt, IsWalkOver}
use Rattle.leveldb_repair.specs.FoundWalkTable.{ChangesBesideFound, KeepsFound, MakesFrom}
use Rattle.leveldb_repair.specs.FoundWalkOf.{FoundWalk}
use Rattle.leveldb_repair.specs.declared.found_walk.files.ReadFiles.{ReadFiles}

module _ {E C K M F : Type 0} (order : CmpGhosts (InternalKeyCmp C)) (env : EnvGhosts E F)
    (codings : K → Codings) (iterator : IteratorGhosts M) where
  -- a walk is a child of a repair's merge
  pub record IsFoundChild (child : WalkGhosts (FoundWalk E C M F) E (ReadFiles K)) : Type 0 where
    pub over_is : (world : E × ReadFiles K) (it : FoundWalk E C M F) (keys : KeyOrder)
        (pairs : List Pair) → child.over world it keys pairs
        ↔ IsWalkOver order env codings iterator world it keys pairs
    pub at_is : (world : E × ReadFiles K) (it : FoundWalk E C M F) (keys : KeyOrder)
        (pairs : List Pair) (position : Option ℕ) → child.is_at world it keys pairs position
        ↔ IsWalkAt order env codings iterator world it keys pairs position
    pub fails_is : (world : E × ReadFiles K) (it : FoundWalk E C M F) (later : E × ReadFiles K)
        (status : Status) → child.fails world it later status
        ↔ FailsInWalk order env codings iterator world it later status
    pub keeps : (at to : E × ReadFiles K) → child.keeps at to → KeepsFound env at to

  module _ {child : WalkGhosts (FoundWalk E C M F) E (ReadFiles K)} (is : IsFoundChild child) where
    module _ (store : List ℕ) (first : ℕ) where
      found_keep : MovesKeep env child store first (MakesFrom store first)
      found_keep at to was kept = let keeps = is.keeps at to kept in
          subst (λ (files : ReadFiles K). MakesFrom store first (to.0, files))
          (sym keeps.files_stay) (record { below = was.below; store_is = was.store_is })

      found_borne : NewTablesKeep env child store first (MakesFrom store first)
      found_borne at to files next was changes =
          let beside : ChangesBesideFound env files at to = record {
            later = changes.later;
            kept = λ modelled path apart. (changes.run modelled).has path
                (λ n least below_next fits. subst (λ s. bytes_eq (table_path s n) path ≡ false)
                was.store_is (apart n (omega (arith, least, was.below)) fits));
          } in
          record {
            given = record { below = was.below; store_is = was.store_is };
            stays_over = λ it keys pairs over. (is.over_is (to, files) it keys pairs).1
                (walk_over_beside order env codings files at to beside iterator it keys pairs
                ((is.over_is (at, files) it keys pairs).0 over));
            stays_at = λ it keys pairs position here.
                (is.at_is (to, files) it keys pairs position).1
                (walk_at_beside order env codings files at to beside iterator it keys pairs position
                ((is.at_is (at, files) it keys pairs position).0 here));
            excuses = λ it later status failed. (is.fails_is (at, files) it later status).1
                (walk_excuses_beside order env codings files at to beside iterator it later status
                ((is.fails_is (to, files) it later status).0 failed));
          }

    module _ {merge : WalkGhosts (MergeCore (InternalKeyCmp C) (FoundWalk E C M F)) E (ReadFiles K)}
        (merges : IsMergeOf child order merge) where
      -- moves of the merge change no file
      pub merge_leaves_files : MovesLeaveFiles env merge
      merge_leaves_files at to kept =
          let keeps = is.keeps at to (merges.keeps at to kept) in let disk = keeps.disk in
          record { run = disk.disk; locks = disk.locks; later = keeps.later }

      -- tables of new numbers leave it where it is
      pub merge_bears_new_tables : (store : List ℕ) (first : ℕ) (world : E × ReadFiles K)
          → MakesFrom store first world → BearsNewTables env merge store first world
      merge_bears_new_tables store first world makes =
          bears_new_tables env merge store first (MakesFrom store first)
          (merge_moves env store first (MakesFrom store first) merges (found_keep store first))
          (merge_borne env store first (MakesFrom store first) merges (found_borne store first))
          world makes
