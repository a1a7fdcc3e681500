-- What follows of moves of an iterator, one after another.
use Rattle.std.specs.Prelude.{◌≡◌, Bool, true, List, Option, Some, Ok, ℕ}
use Rattle.leveldb_base.specs.Types.{Pair, next_position, previous_position}
use Rattle.leveldb_base.specs.declared.cmp.Cmp.{Ghosts as CmpGhosts}
use Rattle.leveldb_env.specs.Compressor.{Codings}
use Rattle.leveldb_env.specs.declared.env.Env.{Ghosts}
use Rattle.leveldb_env.specs.declared.filter.FilterPolicy.{Ghosts as FilterGhosts}
use Rattle.leveldb_iter.specs.declared.walk.Walk.{Ghosts as WalkGhosts}
use Rattle.leveldb_version.specs.declared.table_cache.moves.ReadTables.{ReadTables}
use Rattle.rusty_leveldb.specs.Engines.Boxes.{InternalOrder}
use Rattle.rusty_leveldb.specs.Walks.Iterator.{IteratesAt, MovesIterator, ShownStore, no_cause, pair_in}
use Rattle.rusty_leveldb.specs.declared.db_iter.StoreIterator.{StoreIterator}

module _ {E F C FP K V : Type 0} (keys : InternalOrder C) (env : Ghosts E F) (cmp : CmpGhosts C)
    (filters : FilterGhosts FP) (codings : K → Codings)
    (walk : WalkGhosts V E (ReadTables E C FP K F)) where
  -- a move forward that leads to a pair, and then one back, lead to where the iterator was, be it
  -- at a pair or at none
  abbrev pub PrevUndoesNext : Type 0
  PrevUndoesNext = (shown : ShownStore C) (pairs : List Pair) (position : Option ℕ) (there : Pair)
      (it next back : StoreIterator E C FP K V F) (is_back : Bool)
      → IteratesAt keys env cmp filters codings walk shown pairs position it
      → MovesIterator keys env cmp filters codings walk no_cause (λ _. next_position) it (Ok true)
      next
      → pair_in walk next ≡ Some there
      → MovesIterator keys env cmp filters codings walk no_cause (λ _ _. previous_position) next
      (Ok is_back) back
      → IteratesAt keys env cmp filters codings walk shown pairs position back
