use Rattle.std.proofs.Common.{ap, ◌∙◌, ◌++◌}
use Rattle.leveldb_base.specs.Varint.{varint}
use Rattle.leveldb_table.proofs.BlockCheckLemmas.{lacks_shared, lacks_rest, lacks_value}
use Rattle.leveldb_table.proofs.block.entry.take_long_lengths.Goals as goal

pub returns-in_err-shared : goal.returns-in_err-shared
returns-in_err-shared c = rw c.from_residual.ensures (lacks_shared _ c.in_err-shared.ensures)

pub returns-in_err-rest : goal.returns-in_err-rest
returns-in_err-rest c =
    rw c.from_residual-in_err-rest.ensures
    (lacks_rest c.args.bytes.now c.in_ok-shared.shared c.in_ok-shared.after_shared.now c.in_ok-shared.ensures.1 c.in_err-rest.ensures)

pub returns-in_err-value : goal.returns-in_err-value
returns-in_err-value c =
    rw c.from_residual-in_err-value.ensures
    (lacks_value c.args.bytes.now c.in_ok-shared.shared c.in_ok-shared.after_shared.now c.in_ok-shared.ensures.1
    c.in_ok-rest.rest c.in_ok-rest.after_rest.now c.in_ok-rest.ensures.1 c.in_err-value.ensures)

pub returns : goal.returns
returns c = (
  c.in_ok-shared.ensures.0,
  c.in_ok-rest.ensures.0,
  c.in_ok-value.ensures.0,
  c.in_ok-shared.ensures.1 ∙ ap (λ z. varint c.in_ok-shared.shared ++ z) (c.in_ok-rest.ensures.1 ∙ ap (λ z. varint c.in_ok-rest.rest ++ z) c.in_ok-value.ensures.1),
)
