use Rattle.std.proofs.Common.{⊎_elim, inl, inr}
use Rattle.leveldb_base.specs.Entries.{entries_of_pairs}
use Rattle.leveldb_base.specs.View.{view_of}
use Rattle.leveldb_iter.specs.DbIterLaws.{view_laws}
use Rattle.leveldb_iter.specs.MergedEntries.{internal_order}
use Rattle.leveldb_iter.specs.MergingIterLaws.{merged_laws}
use Rattle.leveldb_store.proofs.Reading.ViewMergeLemmas.{view_over}
use Rattle.leveldb_store.proofs.open_store.view.view_over.Goals as goal

pub returns : goal.returns
returns g c =
    let at = c.new-merge.ensures.is_at in record {
      over = λ world order below is. c.new.ensures.is_at world order below (view_of c.args.sequence (entries_of_pairs below))
          (view_over g.I.Walk g.C.Cmp world _ c.args.cmp c.args.children.items c.new-merge.result c.args.sequence (λ order pairs over. over) (at world) order below is);
      none = c.new.ensures.none;
      laws = view_laws (merged_laws g.met.I.Walk.laws);
      fails = λ world later status fails. ⊎_elim
          (λ own. ⊎_elim
          (λ any. inl any)
          (λ clash. inr (inr (
            clash.0,
            λ order below is. clash.1 (internal_order order) is.lists below is.merged is.one,
          )))
          (c.new-merge.ensures.fails world later status own))
          (λ rest. inr (⊎_elim
          (λ out. inl out)
          (λ corrupt. inr (
            corrupt.0,
            λ order below is. corrupt.1 order (view_of c.args.sequence (entries_of_pairs below))
                (below, view_over g.I.Walk g.C.Cmp world _ c.args.cmp c.args.children.items c.new-merge.result c.args.sequence (λ order pairs over. over) (at world) order below is),
          ))
          rest))
          (c.new.ensures.fails world later status fails);
    }
