use Rattle.std.proofs.Common.{ap, ◌∙◌}
use Rattle.std.specs.Str.{bytes_eq}
use Rattle.std.specs.Ordering.{is_eq}
use Rattle.leveldb_table.proofs.CacheKeyLemmas.{equal_bytes}
use Rattle.leveldb_table.proofs.cache.key.KeyPartialEq.eq.Goals as goal

pub returns : goal.returns
returns c =
    c.is_eq.ensures ∙ ap is_eq c.cmp.ensures ∙ equal_bytes c.self.inside.0 c.other.inside.0
    ∙ ap (λ key. bytes_eq key c.other.inside.0) c.self.view_is ∙ ap (bytes_eq c.args.self.now) c.other.view_is
