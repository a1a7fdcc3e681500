use Rattle.leveldb_env.specs.Compressor.{Decodes}
use Rattle.leveldb_table.proofs.TableMoreLemmas.{tables_by_more}
use Rattle.leveldb_table.proofs.laws.more_compressors_keep_tables.Goals as goal

pub returns : goal.returns
returns c = λ codings more. tables_by_more (Decodes codings) (Decodes more)
