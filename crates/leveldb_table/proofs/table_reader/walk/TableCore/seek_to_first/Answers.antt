use Rattle.leveldb_table.proofs.TableReaderMovesLemmas.{moves_first, moves_ok, moves_refused, forward_to_first}
use Rattle.leveldb_env.specs.contracts.compressor.CompressorListCompressors.TheImpl
use Rattle.leveldb_table.proofs.table_reader.walk.TableCore.seek_to_first.Goals as goal

pub returns-in_err-advance : goal.returns-in_err-advance
returns-in_err-advance g c =
    record { moves = moves_refused c.from_residual.result c.from_residual.ensures.1 (moves_first c.args.self.now c.reset.ensures.index c.reset.ensures.position (λ bytes out. forward_to_first g.C.Cmp ((TheImpl.ghosts g.dyn-1).codings c.args.reader.now.compressors.now) (g.C.Cmp.cmp c.args.reader.now.table.now.cmp) bytes c.args.self.now c.reset.new.self out c.reset.ensures.index c.reset.ensures.position) c.in_err-advance.ensures.moves); same = c.in_err-advance.ensures.same }

pub returns : goal.returns
returns g c = record { moves = moves_ok tt (moves_first c.args.self.now c.reset.ensures.index c.reset.ensures.position (λ bytes out. forward_to_first g.C.Cmp ((TheImpl.ghosts g.dyn-1).codings c.args.reader.now.compressors.now) (g.C.Cmp.cmp c.args.reader.now.table.now.cmp) bytes c.args.self.now c.reset.new.self out c.reset.ensures.index c.reset.ensures.position) c.in_ok-advance.ensures.moves); same = c.in_ok-advance.ensures.same }
