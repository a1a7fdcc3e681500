use Rattle.std.proofs.Common.{[], arith, refl, sym, append-nil}
use Rattle.std.proofs.lemmas.Result.{err_from_is_err_and}
use Rattle.leveldb_table.proofs.TableBlockLemmas.{KeepsDisk-refl}
use Rattle.leveldb_store.proofs.Reading.ViewLemmas.{reference_kept, view_walked}
use Rattle.leveldb_store.proofs.open_store.OpenStore.walk_in.Goals as goal

pub returns-in_err-view-clause-walks : goal.returns-in_err-view-clause-walks
returns-in_err-view-clause-walks g c =
    let failed = err_from_is_err_and c.from_residual.result c.from_residual.ensures.1 in
    rw failed.1 (
      [],
      sym (append-nil c.args.steps.now.items),
      record {
        walks = λ has_open meaning agrees history since low shows. tt;
        refused = tt;
        none = (rw failed.2 c.in_err-view.ensures.memory, refl, refl, refl);
        kept = KeepsDisk-refl g.E.Env c.args.env.now;
        later = omega arith;
        still_open = λ has_open. has_open.are;
      },
    )

pub returns-clause-walks : goal.returns-clause-walks
returns-clause-walks g c =
    let made = c.walk_through.ensures in
    let view = c.in_ok-view.ensures in (
      made.0,
      made.1,
      view_walked g.E.Env g.met.E.Env.counts g.C.Cmp g.FP.FilterPolicy g.K.Compressors.codings _ view.reads c.args.self.now c.args.sequence c.in_ok-view.view view.views c.args.env.now c.walk_through.new.env
          c.args.reading.now c.walk_through.new.tables c.walk_through.result c.requires.order c.requires.below c.args.moves.now made.0 made.2,
    )

pub returns-clause-reference : goal.returns-clause-reference
returns-clause-reference g c =
    let made = c.walk_through.ensures in
    let view = c.in_ok-view.ensures in
    reference_kept g.E.Env g.met.E.Env.counts g.C.Cmp g.FP.FilterPolicy g.K.Compressors.codings _ view.reads c.args.self.now c.args.sequence c.in_ok-view.view view.views c.args.env.now c.walk_through.new.env
    c.args.reading.now c.walk_through.new.tables c.walk_through.result c.requires.order c.requires.below c.args.moves.now made.0 made.2
