use Rattle.std.proofs.Common.{None, ◌∙◌, ap, rules}
use Rattle.leveldb_table.specs.Block.{pairs_of}
use Rattle.leveldb_table.proofs.table_reader.walk.TableCore.with_key_buffers.Goals as goal

pub returns-clause-ok : goal.returns-clause-ok
returns-clause-ok g c =
    let same = c.with_room.ensures.block ∙ c.in_ok-index.ensures.cases.0 in
    rw (← c.table.view_is) (record {
      lines = ap (λ block. pairs_of None block.entries) same;
      ordered = ap (λ block. block.cmp) same;
      position = search rules;
    })
