use Rattle.leveldb_table.proofs.table_reader.Table+E+InternalKeyCmp+C+InternalFilterPolicy+FP.new.Goals as goal

pub returns : goal.returns
returns g c = rw c.new.ensures at c.open.ensures
