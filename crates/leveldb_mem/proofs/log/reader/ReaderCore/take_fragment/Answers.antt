use Rattle.std.proofs.Common.{◌<◌, ◌-◌, arith}
use Rattle.std.proofs.lemmas.Result.{err_from_is_err_and}
use Rattle.leveldb_mem.proofs.ReaderLemmas.{GivesUp-after}
use Rattle.leveldb_mem.proofs.TakingLemmas.{takes_after, no_end_after}
use Rattle.leveldb_mem.proofs.log.reader.ReaderCore.take_fragment.Goals as goal

pub returns-in_err-taken-clause-err : goal.returns-in_err-taken-clause-err
returns-in_err-taken-clause-err g c =
    let p = err_from_is_err_and c.from_residual-in_err-taken.result c.from_residual-in_err-taken.ensures.1 in
    let skips = rw c.in_default.is at c.in_ok-stop.ensures.ok in
    rw (p.1, p.2) (GivesUp-after g.S.Source.gives skips.come.reads c.in_err-taken.ensures.err)

pub returns-in-End-clause-ok : goal.returns-in-End-clause-ok
returns-in-End-clause-ok g c =
    let old = c.args.self.now in
    let skips = rw c.in_default.is at c.in_ok-stop.ensures.ok in
    let narrow : old.size - old.offset < 7 = omega arith in
    let ends = rw c.in-End.is at c.in_ok-taken.ensures.ok in
    no_end_after g.S.Source.gives old c.skip_filler.new.self c.take_in_block-2.new.self c.args.source.now c.skip_filler.new.source c.take_in_block-2.new.source c.space.ensures.size.least narrow c.space.ensures.inside skips ends.0

pub returns-in_default-2 : goal.returns-in_default-2
returns-in_default-2 g c =
    let old = c.args.self.now in
    let skips = rw c.in_default.is at c.in_ok-stop.ensures.ok in
    let narrow : old.size - old.offset < 7 = omega arith in
    record {
      ok = takes_after g.S.Source.gives old c.skip_filler.new.self c.take_in_block-2.new.self c.args.source.now c.skip_filler.new.source c.take_in_block-2.new.source c.space.ensures.size.least narrow c.space.ensures.inside skips
          c.in_ok-taken.taken c.args.target.now.items c.take_in_block-2.new.target.items c.in_default-2.not-End c.in_ok-taken.ensures.ok;
      err = tt;
    }
