use Rattle.leveldb_table.proofs.TableReaderLemmas.{refused_there}
use Rattle.leveldb_table.proofs.laws.excluded_keys_are_not_there.Goals as goal

pub returns : goal.returns
returns g c order codings user matches filters bytes parts key part together outcome has pass hk named stopped =
    refused_there (g.met.C.Cmp.preorder order) user matches filters together outcome key hk parts part has pass named stopped
