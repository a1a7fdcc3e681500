use Rattle.leveldb_env.specs.Compressor.{Decodes}
use Rattle.leveldb_table.proofs.TableReaderLemmas.{one_table, decodes_one}
use Rattle.leveldb_table.proofs.laws.tables_have_one_list.Goals as goal

pub returns : goal.returns
returns c = record { list = λ codings cmp. one_table (Decodes codings) cmp; decoded = decodes_one }
