use Rattle.std.proofs.Common.{ap, subst, sym}
use Rattle.std.specs.List.{IsDistinct}
use Rattle.std.specs.Map.{keys_of}
use Rattle.std.specs.Str.{bytes_eq}
use Rattle.leveldb_table.proofs.CacheLemmas.{kept_gone}
use Rattle.leveldb_table.proofs.cache.Cache.remove.Goals as goal

pub returns-clause-gone : goal.returns-clause-gone
returns-clause-gone g c =
    kept_gone c.args.key.now c.self.inside.recent c.self.inside.keeps c.self.inside.id c.pop.new.self.entries (ap (λ map. map.entries) c.pop.ensures.entries)
    (subst (λ cache. IsDistinct bytes_eq (keys_of cache.pairs)) (sym c.self.view_is) c.count.ensures.distinct)
