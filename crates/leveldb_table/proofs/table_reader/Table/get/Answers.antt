use Rattle.std.proofs.Common.{sym}
use Rattle.leveldb_table.proofs.table_reader.Table.get.Goals as goal

pub returns : goal.returns
returns g c = rw (c.env-1.given.1 (sym c.get.ensures.same.env), c.cache-1.given.1 (sym c.get.ensures.same.cache)) c.get.ensures.looks_up
