-- A move of a child of a repair's merge is that of the walk in it, over memory or over a found table; and
-- it is over one list.
use Rattle.std.proofs.Common.{◌≡◌, ℕ, List, Option, Result, sym, ◌∙◌, subst}
use Rattle.leveldb_base.specs.Types.{Pair}
use Rattle.leveldb_base.specs.declared.cmp.Cmp.{Ghosts as CmpGhosts}
use Rattle.leveldb_base.specs.declared.cmp.internal.InternalKeyCmp.{InternalKeyCmp}
use Rattle.leveldb_base.specs.declared.error.Status.{Status}
use Rattle.leveldb_base.specs.declared.types.LdbIterator.{Ghosts as IteratorGhosts}
use Rattle.leveldb_env.specs.Compressor.{Codings}
use Rattle.leveldb_env.specs.declared.env.Env.{Ghosts as EnvGhosts}
use Rattle.leveldb_iter.specs.InMemory.{IsAloneOver, IsAloneAt, FailsAlone, alone_here}
use Rattle.leveldb_iter.specs.Walk.{KeyOrder, MovesWalk, Resets, Way}
use Rattle.leveldb_iter.specs.declared.in_memory.InMemory.{InMemory}
use Rattle.leveldb_repair.proofs.FoundWalkTableLemmas.{found_one_list}
use Rattle.leveldb_repair.specs.FoundWalk.{FailsInWalk, IsWalkAt, IsWalkOver, walk_here}
use Rattle.leveldb_repair.specs.FoundWalkLaws.{found_kept}
use Rattle.leveldb_repair.specs.FoundWalkTable.{FailsInFound, IsFoundAt, IsFoundOver, KeepsFound, found_here}
use Rattle.leveldb_repair.specs.FoundWalkOf.{FoundWalk}
use Rattle.leveldb_repair.specs.declared.found_walk.FoundWalk.TheVariants.{Memory, Table}
use Rattle.leveldb_repair.specs.declared.found_walk.files.ReadFiles.{ReadFiles}
use Rattle.leveldb_repair.specs.declared.found_walk.table.FoundTable.{FoundTable}

module _ {E C K M F : Type 0} (order : CmpGhosts (InternalKeyCmp C)) (env : EnvGhosts E F)
    (codings : K → Codings) (iterator : IteratorGhosts M) where
  -- a move of a child
  abbrev Moves : {R : Type 0}
      → (E × ReadFiles K → FoundWalk E C M F → KeyOrder → List Pair → Option ℕ → Type 0) → Way
      → E × ReadFiles K → FoundWalk E C M F → Result R Status → E × ReadFiles K
      → FoundWalk E C M F → Type 0
  Moves From to old_world old result new_world new =
      MovesWalk (IsWalkOver order env codings iterator) (IsWalkAt order env codings iterator)
      (walk_here iterator) (FailsInWalk order env codings iterator) (KeepsFound env) From to
      old_world old result new_world new

  -- of a walk over memory
  pub memory_moves : {R : Type 0}
      (From : E × ReadFiles K → FoundWalk E C M F → KeyOrder → List Pair → Option ℕ → Type 0)
      (AloneFrom : E × ReadFiles K → InMemory M → KeyOrder → List Pair → Option ℕ → Type 0) (to : Way)
      (world : E × ReadFiles K) (old : InMemory M) (result : Result R Status)
      (later : E × ReadFiles K) (new : InMemory M)
      → ((keys : KeyOrder) (pairs : List Pair) (position : Option ℕ)
      → From world (Memory old) keys pairs position → AloneFrom world old keys pairs position)
      → MovesWalk (IsAloneOver iterator) (IsAloneAt iterator) (alone_here iterator)
      (FailsAlone iterator) (λ first second. second ≡ first) AloneFrom to world old result later new
      → (it : FoundWalk E C M F) → it ≡ Memory old → Moves From to world it result later (Memory new)
  memory_moves From AloneFrom to world old result later new from moves it is =
      subst (λ (walk : FoundWalk E C M F). Moves From to world walk result later (Memory new))
      (sym is) (record {
        ok = λ keys pairs position at. moves.ok keys pairs position (from keys pairs position at);
        same = moves.same;
        err = moves.err;
        none = moves.none;
        kept = subst (λ (w : E × ReadFiles K). KeepsFound env world w) (sym moves.kept)
            (found_kept env world);
        cause = moves.cause;
        excuses = moves.excuses;
      })

  -- of a walk over a table
  pub table_moves : {R : Type 0}
      (From : E × ReadFiles K → FoundWalk E C M F → KeyOrder → List Pair → Option ℕ → Type 0)
      (InFrom : E × ReadFiles K → FoundTable E C F → KeyOrder → List Pair → Option ℕ → Type 0)
      (to : Way) (world : E × ReadFiles K) (old : FoundTable E C F) (result : Result R Status)
      (later : E × ReadFiles K) (new : FoundTable E C F)
      → ((keys : KeyOrder) (pairs : List Pair) (position : Option ℕ)
      → From world (Table old) keys pairs position → InFrom world old keys pairs position)
      → MovesWalk (IsFoundOver order env codings) (IsFoundAt order env codings) found_here
      (FailsInFound order env codings) (KeepsFound env) InFrom to world old result later new
      → (it : FoundWalk E C M F) → it ≡ Table old → Moves From to world it result later (Table new)
  table_moves From InFrom to world old result later new from moves it is =
      subst (λ (walk : FoundWalk E C M F). Moves From to world walk result later (Table new))
      (sym is) (record {
        ok = λ keys pairs position at. moves.ok keys pairs position (from keys pairs position at);
        same = moves.same;
        err = moves.err;
        none = moves.none;
        kept = moves.kept;
        cause = moves.cause;
        excuses = moves.excuses;
      })

  -- a walk over a table that is moved to no position
  pub table_resets : (old new : FoundTable E C F)
      → Resets {W = E × ReadFiles K} (IsFoundOver order env codings) (IsFoundAt order env codings)
      found_here (FailsInFound order env codings) (KeepsFound env) old new
      → (it : FoundWalk E C M F) → it ≡ Table old
      → Resets {W = E × ReadFiles K} (IsWalkOver order env codings iterator)
      (IsWalkAt order env codings iterator) (walk_here iterator)
      (FailsInWalk order env codings iterator) (KeepsFound env) it (Table new)
  table_resets old new resets it is =
      subst (λ (walk : FoundWalk E C M F). Resets {W = E × ReadFiles K}
      (IsWalkOver order env codings iterator) (IsWalkAt order env codings iterator)
      (walk_here iterator) (FailsInWalk order env codings iterator) (KeepsFound env) walk
      (Table new)) (sym is)
      (record { at_none = resets.at_none; none = resets.none; excuses = resets.excuses })

  -- in a world a child is over one list
  pub walk_one_list : (world : E × ReadFiles K) (it : FoundWalk E C M F) (keys others : KeyOrder)
      (these those : List Pair) → IsWalkOver order env codings iterator world it keys these
      → IsWalkOver order env codings iterator world it others those → these ≡ those
  walk_one_list world (Memory it) keys others these those first second =
      first.pairs_are ∙ sym second.pairs_are
  walk_one_list world (Table it) keys others these those first second =
      found_one_list world it keys others these those first second
