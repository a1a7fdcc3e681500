-- Moves of an iterator that undo one another.
use Rattle.std.proofs.Common.{◌∙◌, sym, subst}
use Rattle.leveldb_base.specs.Types.{next_position}
use Rattle.leveldb_base.specs.declared.cmp.Cmp.{Ghosts as CmpGhosts}
use Rattle.leveldb_env.specs.Compressor.{Codings}
use Rattle.leveldb_env.specs.declared.env.Env.{Ghosts}
use Rattle.leveldb_env.specs.declared.filter.FilterPolicy.{Ghosts as FilterGhosts}
use Rattle.leveldb_iter.specs.declared.walk.Walk.{Ghosts as WalkGhosts}
use Rattle.leveldb_version.specs.declared.table_cache.moves.ReadTables.{ReadTables}
use Rattle.rusty_leveldb.specs.Engines.Boxes.{InternalOrder}
use Rattle.rusty_leveldb.specs.Walks.Iterator.{IteratesAt}
use Rattle.rusty_leveldb.specs.Walks.IteratorLaws.{PrevUndoesNext}
use Rattle.rusty_leveldb.proofs.Machines.WalkLawsLemmas.{stepped_back}

module _ {E F C FP K V : Type 0} {keys : InternalOrder C} (env : Ghosts E F) (cmp : CmpGhosts C) (filters : FilterGhosts FP) (codings : K → Codings)
    (walk : WalkGhosts V E (ReadTables E C FP K F)) where
  pub prev_undoes_next : PrevUndoesNext keys env cmp filters codings walk
  prev_undoes_next shown pairs position there it next back is_back at first here second =
      let at_next = first.moves shown pairs position at in
      let at_back = second.moves shown pairs (next_position pairs position) at_next in
      let same = stepped_back pairs position there (sym at_next.pair_is ∙ here) in
      subst (λ p. IteratesAt keys env cmp filters codings walk shown pairs p back) same at_back
