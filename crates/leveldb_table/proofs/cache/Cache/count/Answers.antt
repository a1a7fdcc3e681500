use Rattle.std.proofs.Common.{subst}
use Rattle.std.specs.List.{IsDistinct}
use Rattle.std.specs.Map.{keys_of}
use Rattle.std.specs.Str.{bytes_eq}
use Rattle.leveldb_table.proofs.CacheLemmas.{unused_distinct}
use Rattle.leveldb_table.proofs.cache.Cache.count.Goals as goal

pub returns-else-self-clause-distinct : goal.returns-else-self-clause-distinct
returns-else-self-clause-distinct g c =
    subst (λ cache. IsDistinct bytes_eq (keys_of cache.pairs)) c.self.view_is (unused_distinct c.self.inside.recent c.self.inside.keeps c.self.inside.id c.if-self.false)
