-- The walks of a repair's merge: it changes no file, and bears new tables in each world from which
-- these are made.
use Rattle.std.proofs.Common.{ℕ, List, subst, sym}
use Rattle.leveldb_base.specs.declared.cmp.Cmp.{Ghosts as CmpGhosts}
use Rattle.leveldb_base.specs.declared.cmp.internal.InternalKeyCmp.{InternalKeyCmp}
use Rattle.leveldb_base.specs.declared.types.LdbIterator.{Ghosts as IteratorGhosts}
use Rattle.leveldb_env.specs.Compressor.{Codings}
use Rattle.leveldb_env.specs.declared.env.Env.{Ghosts as EnvGhosts}
use Rattle.leveldb_iter.specs.MergingIter.{FailsMerged, IsMergeAt, IsMergeOver, merged_here}
use Rattle.leveldb_iter.specs.declared.merging_iter.MergeCore.{MergeCore}
use Rattle.leveldb_iter.specs.declared.walk.Walk.{Ghosts as WalkGhosts}
use Rattle.leveldb_store.proofs.Compactions.BearingLemmas.{IsMergeOf}
use Rattle.leveldb_store.specs.Compactions.Merging.{BearsNewTables, MovesLeaveFiles}
use Rattle.leveldb_repair.proofs.FoundWalkBearingLemmas.{IsFoundChild, merge_bears_new_tables, merge_leaves_files}
use Rattle.leveldb_repair.specs.FoundWalk.{FailsInWalk, IsWalkAt, IsWalkOver, walk_here}
use Rattle.leveldb_repair.specs.FoundWalkTable.{KeepsFound, MakesFrom}
use Rattle.leveldb_repair.specs.FoundWalkOf.{FoundWalk}
use Rattle.leveldb_repair.specs.declared.found_walk.files.ReadFiles.{ReadFiles}

-- tables are made from a number on in a world that moves leave of one in which they are
pub still_makes : {E K F : Type 0} (env : EnvGhosts E F) (store : List ℕ) (first : ℕ)
    (at to : E × ReadFiles K) → KeepsFound env at to → MakesFrom store first at
    → MakesFrom store first to
still_makes {K = K} env store first at to keeps makes =
    subst (λ (files : ReadFiles K). MakesFrom store first (to.0, files)) (sym keeps.files_stay)
    (record { below = makes.below; store_is = makes.store_is })

module _ {E C K M F : Type 0} (order : CmpGhosts (InternalKeyCmp C)) (env : EnvGhosts E F)
    (codings : K → Codings) (iterator : IteratorGhosts M) where
  -- what the impl of `Walk` for the children of a repair's merge says
  abbrev pub found_child : WalkGhosts (FoundWalk E C M F) E (ReadFiles K)
  found_child = record {
    over = IsWalkOver order env codings iterator;
    is_at = IsWalkAt order env codings iterator;
    here = walk_here iterator;
    fails = FailsInWalk order env codings iterator;
    keeps = KeepsFound env;
  }

  -- and that for the merge
  abbrev pub found_merge :
      WalkGhosts (MergeCore (InternalKeyCmp C) (FoundWalk E C M F)) E (ReadFiles K)
  found_merge = record {
    over = IsMergeOver found_child order;
    is_at = IsMergeAt found_child order;
    here = merged_here found_child;
    fails = FailsMerged found_child order;
    keeps = KeepsFound env;
  }

  pub is_found_child : IsFoundChild order env codings iterator found_child
  is_found_child = record {
    over_is = λ world it keys pairs. (λ is. is, λ is. is);
    at_is = λ world it keys pairs position. (λ is. is, λ is. is);
    fails_is = λ world it later status. (λ is. is, λ is. is);
    keeps = λ at to kept. kept;
  }

  pub is_found_merge : IsMergeOf found_child order found_merge
  is_found_merge = record {
    over_is = λ world it keys pairs. (λ is. is, λ is. is);
    at_is = λ world it keys pairs position. (λ is. is, λ is. is);
    fails_is = λ world it later status. (λ is. is, λ is. is);
    keeps = λ at to kept. kept;
  }

  -- moves of the merge change no file
  pub repair_leaves_files : MovesLeaveFiles env found_merge
  repair_leaves_files =
      merge_leaves_files order env codings iterator is_found_child is_found_merge

  -- tables of new numbers leave it where it is
  pub repair_bears : (store : List ℕ) (first : ℕ) (world : E × ReadFiles K)
      → MakesFrom store first world → BearsNewTables env found_merge store first world
  repair_bears = merge_bears_new_tables order env codings iterator is_found_child is_found_merge
