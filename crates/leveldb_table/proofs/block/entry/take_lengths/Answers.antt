use Rattle.std.proofs.Common.{arith, get_or}
use Rattle.leveldb_table.proofs.BlockCheckLemmas.{too_short, all_small, reads_short}
use Rattle.leveldb_table.proofs.block.entry.take_lengths.Goals as goal

pub returns-in_default : goal.returns-in_default
returns-in_default c = too_short c.args.bytes.now (omega (arith, c.in_default.len_below))

pub returns : goal.returns
returns c =
    let bytes = c.args.bytes.now in
    let small = all_small (get_or bytes 0 0) (get_or bytes 1 0) (get_or bytes 2 0) c.if-all-ge128.false in (
      omega (arith, small.0),
      omega (arith, small.1),
      omega (arith, small.2),
      reads_short bytes c.in-len3-up.len_at_least small.0 small.1 small.2,
    )
