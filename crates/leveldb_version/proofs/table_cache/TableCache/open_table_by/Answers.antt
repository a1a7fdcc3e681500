use Rattle.std.proofs.Common.{◌≡◌, ◌∙◌, None, ap, refl}
use Rattle.std.specs.Prelude.{IsSome}
use Rattle.leveldb_base.specs.contracts.cmp.internal.InternalKeyCmpCmp.TheImpl.{ghosts as key_order}
use Rattle.leveldb_env.specs.contracts.compressor.CompressorListCompressors.TheImpl.{ghosts as compressors}
use Rattle.leveldb_table.specs.Cache.{looked_for, value_of}
use Rattle.leveldb_version.specs.Tables.TableCache.{table_at, options_by, tables_of}
use Rattle.leveldb_version.proofs.Tables.TableCacheLemmas.{some_of}
use Rattle.leveldb_version.proofs.Tables.TableCacheCallLemmas.{borrowed_none, borrowed_there, opened_new, opens_before, opens_unopened, stays_open}
use Rattle.leveldb_version.proofs.table_cache.TableCache.open_table_by.Goals as goal

pub returns-then-is_some : goal.returns-then-is_some
returns-then-is_some g c =
    let old = c.args.self.now in
    let number = c.args.number in
    let by = options_by g.C.Cmp g.FP.FilterPolicy ((compressors g.dyn-1).codings c.args.compressors.now) c.args.cmp c.args.policy in
    let keys = key_order g.row.C g.C.UserCmp g.C.UserCmp-dict g.C.Cmp g.C.Cmp-dict in
    let tables = tables_of old in
    let key = c.table_key-name.ensures in
    let found = c.get.ensures.value ∙ ap (λ k. value_of k tables.pairs) key in
    let tables_are = c.get.follows.holds-at-none ∙ ap (λ k. record tables { pairs = looked_for k tables.pairs }) key in
    let open_now : IsSome (table_at old number) = borrowed_there c.get.result found c.is_some.ensures c.if-is_some.true in
    let table = some_of (table_at old number) open_now in
    stays_open keys g.E.Env by refl old c.args.env.now number c.ranges.number.fits table.0 table.1 _ tables_are

pub returns-in_err-table : goal.returns-in_err-table
returns-in_err-table g c =
    let old = c.args.self.now in
    let state = c.args.env.now in
    let number = c.args.number in
    let by = options_by g.C.Cmp g.FP.FilterPolicy ((compressors g.dyn-1).codings c.args.compressors.now) c.args.cmp c.args.policy in
    let keys = key_order g.row.C g.C.UserCmp g.C.UserCmp-dict g.C.Cmp g.C.Cmp-dict in
    let tables = tables_of old in
    let key = c.table_key-name.ensures in
    let found = c.get.ensures.value ∙ ap (λ k. value_of k tables.pairs) key in
    let tables_are = c.get.follows.holds-at-none ∙ ap (λ k. record tables { pairs = looked_for k tables.pairs }) key in
    let none : table_at old number ≡ None = borrowed_none c.get.result found c.is_some.ensures c.if-is_some.false in
    let opens = opens_before keys g.E.Env by refl old state number c.ranges.number.fits none tables_are c.in_err-table.ensures in
    opens_unopened keys g.E.Env by refl old state number c.ranges.number.fits none c.from_residual.result c.from_residual.ensures.1 opens

pub returns : goal.returns
returns g c =
    let old = c.args.self.now in
    let state = c.args.env.now in
    let number = c.args.number in
    let by = options_by g.C.Cmp g.FP.FilterPolicy ((compressors g.dyn-1).codings c.args.compressors.now) c.args.cmp c.args.policy in
    let keys = key_order g.row.C g.C.UserCmp g.C.UserCmp-dict g.C.Cmp g.C.Cmp-dict in
    let tables = tables_of old in
    let key = c.table_key-name.ensures in
    let found = c.get.ensures.value ∙ ap (λ k. value_of k tables.pairs) key in
    let tables_are = c.get.follows.holds-at-none ∙ ap (λ k. record tables { pairs = looked_for k tables.pairs }) key in
    let none : table_at old number ≡ None = borrowed_none c.get.result found c.is_some.ensures c.if-is_some.false in
    let insert = rw key at c.insert.ensures in
    let opens = opens_before keys g.E.Env by refl old state number c.ranges.number.fits none tables_are c.in_ok-table.ensures in
    opened_new keys g.E.Env by refl old state number c.ranges.number.fits none c.in_ok-table.table c.open_by.new.self opens c.insert.new.self c.insert.result insert.ok insert.err insert.memory
