use Rattle.leveldb_table.proofs.BlockCheckLemmas.{reads_no_lengths, reads_no_rest, reads_no_value, reads_entry}
use Rattle.leveldb_table.proofs.block.entry.take_entry.Goals as goal

pub returns-in_err-lengths : goal.returns-in_err-lengths
returns-in_err-lengths c = rw c.from_residual.ensures (reads_no_lengths _ c.in_err-lengths.ensures)

pub returns-in_err-rest : goal.returns-in_err-rest
returns-in_err-rest c =
    let read = c.in_ok-lengths.lengths in
    rw c.from_residual-in_err-rest.ensures
    (reads_no_rest c.args.bytes.now read.shared read.rest read.value c.in_ok-lengths.texts.now c.in_ok-lengths.ensures.3 c.in_err-rest.ensures.cases)

pub returns-in_err-value : goal.returns-in_err-value
returns-in_err-value c =
    let read = c.in_ok-lengths.lengths in
    rw c.from_residual-in_err-value.ensures
    (reads_no_value c.args.bytes.now read.shared read.rest read.value c.in_ok-lengths.texts.now c.in_ok-lengths.ensures.3
    c.in_ok-rest.rest.now c.in_ok-rest.after.now c.in_ok-rest.ensures.cases c.in_err-value.ensures.cases)

pub returns : goal.returns
returns c =
    let read = c.in_ok-lengths.lengths in
    reads_entry c.args.bytes.now read.shared read.rest read.value c.in_ok-lengths.texts.now c.in_ok-lengths.ensures.3
    c.in_ok-rest.rest.now c.in_ok-rest.after.now c.in_ok-rest.ensures.cases
    c.in_ok-value.value.now c.in_ok-value.left.now c.in_ok-value.ensures.cases c.in_ok-lengths.ensures.0 c.in_ok-lengths.ensures.1 c.in_ok-lengths.ensures.2
