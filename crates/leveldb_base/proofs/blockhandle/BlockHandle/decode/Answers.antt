use Rattle.std.proofs.lemmas.List.{take_rest}
use Rattle.leveldb_base.proofs.BlockHandleLemmas.{reads_handle, reads_no_size}
use Rattle.leveldb_base.proofs.blockhandle.BlockHandle.decode.Goals as goal

pub returns-in_err-size : goal.returns-in_err-size
returns-in_err-size c =
    rw c.from_residual-in_err-size.ensures
    (reads_no_size c.args.from.now _ c.in_ok-offset.offset c.in_ok-offset.used (take_rest c.args.from.now c.in_ok-offset.used) c.in_ok-offset.ensures c.in_err-size.ensures)

pub returns : goal.returns
returns c =
    rw c.new-handle.ensures.handle
    (reads_handle c.args.from.now _ (record { offset = c.in_ok-offset.offset; size = c.in_ok-size.size }) c.in_ok-offset.used c.in_ok-size.more
    (take_rest c.args.from.now c.in_ok-offset.used) c.in_ok-offset.ensures c.in_ok-size.ensures)
