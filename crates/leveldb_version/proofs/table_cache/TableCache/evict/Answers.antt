use Rattle.std.proofs.Common.{◌∙◌, ap}
use Rattle.std.specs.Prelude.{is_some}
use Rattle.leveldb_table.specs.Cache.{others, value_of}
use Rattle.leveldb_version.specs.Tables.TableCache.{tables_of}
use Rattle.leveldb_version.proofs.Tables.TableCacheCallLemmas.{evicted}
use Rattle.leveldb_version.proofs.table_cache.TableCache.evict.Goals as goal

pub returns : goal.returns
returns g c =
    let old = c.args.self.now in
    let removed = c.remove.ensures in
    evicted old c.args.number c.ranges.number.fits c.remove.new.self
    (removed.pairs ∙ ap (λ key. record (tables_of old) { pairs = others key (tables_of old).pairs }) c.table_key.ensures)
    (rw c.table_key.ensures at removed.gone) c.is_some.result
    (c.is_some.ensures ∙ ap is_some removed.value ∙ ap (λ key. is_some (value_of key (tables_of old).pairs)) c.table_key.ensures)
