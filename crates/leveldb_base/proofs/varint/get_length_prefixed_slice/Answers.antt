use Rattle.std.proofs.lemmas.List.{take_rest}
use Rattle.leveldb_base.proofs.VarintLemmas.{reads_sized}
use Rattle.leveldb_base.proofs.varint.get_length_prefixed_slice.Goals as goal

pub returns : goal.returns
returns c =
    reads_sized c.args.src.now _ c.in_ok-size.size c.in_ok-size.used c.split_at_checked.result c.in_ok-size.ensures
    (take_rest c.args.src.now c.in_ok-size.used) c.split_at_checked.ensures.cases
