use Rattle.std.proofs.Common.{refl}
use Rattle.leveldb_base.specs.Types.{last_position}
use Rattle.leveldb_table.proofs.TableReaderWalkLemmas.{moves_enters}
use Rattle.leveldb_table.proofs.TableReaderMovesLemmas.{moves_ok, moves_refused}
use Rattle.leveldb_table.proofs.table_reader.walk.TableCore.seek_to_last.Goals as goal

pub returns-in_err-to_last_block : goal.returns-in_err-to_last_block
returns-in_err-to_last_block g c =
    record { moves = moves_refused c.from_residual.result c.from_residual.ensures.1 (moves_enters {Fit = λ _. Unit {0}} {to = λ pairs _. last_position pairs} c.args.self.now refl refl (λ parts position fit is_there. refl) (λ bytes out step. step) c.in_err-to_last_block.ensures.enters); same = c.in_err-to_last_block.ensures.same }

pub returns : goal.returns
returns g c =
    record { moves = moves_ok tt (moves_enters {Fit = λ _. Unit {0}} {to = λ pairs _. last_position pairs} c.args.self.now refl refl (λ parts position fit is_there. refl) (λ bytes out step. step) c.in_ok-to_last_block.ensures.enters); same = c.in_ok-to_last_block.ensures.same }
