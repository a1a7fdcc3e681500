use Rattle.std.proofs.Common.{◌≡◌, ◌∙◌, None, Some, ap, arith, inl, refl, sym}
use Rattle.std.specs.Prelude.{option_copied}
use Rattle.leveldb_base.specs.contracts.cmp.internal.InternalKeyCmpCmp.TheImpl.{ghosts as key_order}
use Rattle.leveldb_env.specs.contracts.compressor.CompressorListCompressors.TheImpl.{ghosts as compressors}
use Rattle.leveldb_table.specs.Cache.{looked_for, value_of}
use Rattle.leveldb_table.specs.TableReaderMoves.{found_with}
use Rattle.leveldb_table.proofs.TableReaderMovesLemmas.{found_refused}
use Rattle.leveldb_files.specs.Stores.Format.{format_of}
use Rattle.leveldb_version.specs.Tables.TableCache.{table_at, table_key, table_options, tables_of}
use Rattle.leveldb_version.proofs.Tables.TableCacheLemmas.{none_value}
use Rattle.leveldb_version.proofs.Tables.TableCacheCallLemmas.{gets_looked, gets_open, gets_unkept, gets_unopened, in_open, opens_before, put_found, put_none, uses_looked, uses_open, uses_unkept, uses_unopened}
use Rattle.leveldb_version.proofs.table_cache.TableCache.find.Goals as goal

pub returns-in-Some : goal.returns-in-Some
returns-in-Some g c =
    let old = c.args.self.now in
    let state = c.args.env.now in
    let number = c.args.number in
    let options = c.args.options.now in
    let by = table_options (format_of g.C.Cmp g.FP.FilterPolicy (compressors g.dyn-2).codings options) options in
    let keys = key_order g.row.C g.C.UserCmp g.C.UserCmp-dict g.C.Cmp g.C.Cmp-dict in
    let tables = tables_of old in
    let key = c.table_key-name.ensures in
    let found = c.get.ensures.value ∙ ap (λ k. value_of k tables.pairs) key in
    let tables_are = c.get.follows.holds-at-none ∙ ap (λ k. record tables { pairs = looked_for k tables.pairs }) key in
    let there : table_at old number ≡ Some c.in-Some.table.now = sym found ∙ ap option_copied c.in-Some.is in
    let found_pair = found_with c.find.new.key_buffers c.find.result in
    rw (c.env-1.given.1 (sym c.find.ensures.same.env)) (record {
      uses = uses_open keys g.E.Env by refl old state number c.ranges.number.fits c.in-Some.table.now there _ tables_are _ refl c.args.key.now found_pair c.find.new.key_buffers c.find.ensures.looks_up;
      gets = λ modelled was. gets_open keys g.E.Env by refl old state number c.ranges.number.fits c.in-Some.table.now there _ tables_are _ refl c.args.key.now found_pair c.find.new.key_buffers c.find.ensures.looks_up modelled was;
      in_open = in_open (table_at old number) there c.find.ensures.looks_up;
    })

pub returns-in_err-table : goal.returns-in_err-table
returns-in_err-table g c =
    let old = c.args.self.now in
    let state = c.args.env.now in
    let number = c.args.number in
    let options = c.args.options.now in
    let by = table_options (format_of g.C.Cmp g.FP.FilterPolicy (compressors g.dyn-2).codings options) options in
    let keys = key_order g.row.C g.C.UserCmp g.C.UserCmp-dict g.C.Cmp g.C.Cmp-dict in
    let tables = tables_of old in
    let key = c.table_key-name.ensures in
    let found = c.get.ensures.value ∙ ap (λ k. value_of k tables.pairs) key in
    let tables_are = c.get.follows.holds-at-none ∙ ap (λ k. record tables { pairs = looked_for k tables.pairs }) key in
    let none : table_at old number ≡ None = sym found ∙ ap option_copied c.in_default.is in
    let opens = opens_before keys g.E.Env by refl old state number c.ranges.number.fits none tables_are c.in_err-table.ensures in
    let result = found_with c.open.new.self.key_buffers c.from_residual.result in
    let refused = found_refused _ c.open.new.self.key_buffers c.from_residual.result c.from_residual.ensures.1 in
    record {
      uses = uses_unopened keys g.E.Env by refl old state number c.ranges.number.fits none result refused opens _ (λ other why. inl why);
      gets = λ modelled was. gets_unopened keys g.E.Env by refl old state number c.ranges.number.fits none result refused opens modelled was;
      in_open = λ other at. absurd (none_value none at);
    }

pub returns-then-cap-eq0 : goal.returns-then-cap-eq0
returns-then-cap-eq0 g c =
    let old = c.args.self.now in
    let state = c.args.env.now in
    let number = c.args.number in
    let options = c.args.options.now in
    let by = table_options (format_of g.C.Cmp g.FP.FilterPolicy (compressors g.dyn-2).codings options) options in
    let keys = key_order g.row.C g.C.UserCmp g.C.UserCmp-dict g.C.Cmp g.C.Cmp-dict in
    let tables = tables_of old in
    let key = c.table_key-name.ensures in
    let found = c.get.ensures.value ∙ ap (λ k. value_of k tables.pairs) key in
    let tables_are = c.get.follows.holds-at-none ∙ ap (λ k. record tables { pairs = looked_for k tables.pairs }) key in
    let none : table_at old number ≡ None = sym found ∙ ap option_copied c.in_default.is in
    let opens = opens_before keys g.E.Env by refl old state number c.ranges.number.fits none tables_are c.in_ok-table.ensures in
    let table = c.in_ok-table.table in
    let now = c.open.new.self in
    let found_pair = found_with c.find-then-cap-eq0.new.key_buffers c.find-then-cap-eq0.result in
    let put = put_none (table_key number) table (tables_of now) (sym c.cap.ensures ∙ c.if-cap-eq0.true) in
    rw (c.env-then-cap-eq0-1.given.1 (sym c.find-then-cap-eq0.ensures.same.env)) (record {
      uses = uses_looked keys g.E.Env by refl old state number c.ranges.number.fits none table now opens _ refl c.args.key.now found_pair c.find-then-cap-eq0.new.key_buffers table refl c.find-then-cap-eq0.ensures.looks_up _ put;
      gets = λ modelled was. gets_looked keys g.E.Env by refl old state number c.ranges.number.fits none table now opens _ refl c.args.key.now found_pair c.find-then-cap-eq0.new.key_buffers table refl c.find-then-cap-eq0.ensures.looks_up _ put modelled was;
      in_open = λ other at. absurd (none_value none at);
    })

pub returns-in_err-insert : goal.returns-in_err-insert
returns-in_err-insert g c =
    let old = c.args.self.now in
    let state = c.args.env.now in
    let number = c.args.number in
    let options = c.args.options.now in
    let by = table_options (format_of g.C.Cmp g.FP.FilterPolicy (compressors g.dyn-2).codings options) options in
    let keys = key_order g.row.C g.C.UserCmp g.C.UserCmp-dict g.C.Cmp g.C.Cmp-dict in
    let tables = tables_of old in
    let key = c.table_key-name.ensures in
    let found = c.get.ensures.value ∙ ap (λ k. value_of k tables.pairs) key in
    let tables_are = c.get.follows.holds-at-none ∙ ap (λ k. record tables { pairs = looked_for k tables.pairs }) key in
    let none : table_at old number ≡ None = sym found ∙ ap option_copied c.in_default.is in
    let opens = opens_before keys g.E.Env by refl old state number c.ranges.number.fits none tables_are c.in_ok-table.ensures in
    let table = c.in_ok-table.table in
    let now = c.open.new.self in
    let result = found_with now.key_buffers c.from_residual-in_err-insert.result in
    let refused = found_refused _ now.key_buffers c.from_residual-in_err-insert.result c.from_residual-in_err-insert.ensures.1 in
    let insert = c.in_err-insert.ensures in
    record {
      uses = uses_unkept keys g.E.Env by refl old state number c.ranges.number.fits none table now opens result insert.memory refused _ insert.err;
      gets = λ modelled was. gets_unkept keys g.E.Env by refl old state number c.ranges.number.fits none table now opens result insert.memory refused _ insert.err modelled was;
      in_open = λ other at. absurd (none_value none at);
    }

pub returns : goal.returns
returns g c =
    let old = c.args.self.now in
    let state = c.args.env.now in
    let number = c.args.number in
    let options = c.args.options.now in
    let by = table_options (format_of g.C.Cmp g.FP.FilterPolicy (compressors g.dyn-2).codings options) options in
    let keys = key_order g.row.C g.C.UserCmp g.C.UserCmp-dict g.C.Cmp g.C.Cmp-dict in
    let tables = tables_of old in
    let key = c.table_key-name.ensures in
    let found = c.get.ensures.value ∙ ap (λ k. value_of k tables.pairs) key in
    let tables_are = c.get.follows.holds-at-none ∙ ap (λ k. record tables { pairs = looked_for k tables.pairs }) key in
    let none : table_at old number ≡ None = sym found ∙ ap option_copied c.in_default.is in
    let opens = opens_before keys g.E.Env by refl old state number c.ranges.number.fits none tables_are c.in_ok-table.ensures in
    let table = c.in_ok-table.table in
    let now = c.open.new.self in
    let found_pair = found_with c.find-2.new.key_buffers c.find-2.result in
    let put = rw key at c.in_ok-insert.ensures.ok in
    let cap = c.cap.ensures in
    let some = c.if-cap-eq0.false in
    let it = put_found (table_key number) c.table_key-name.result table (tables_of now) c.insert.new.self key put (omega (arith, cap, some)) c.unwrap-table.result.now (sym (ap option_copied c.unwrap-table.ensures) ∙ c.peek.ensures) in
    rw (c.env-2-1.given.1 (sym c.find-2.ensures.same.env)) (record {
      uses = uses_looked keys g.E.Env by refl old state number c.ranges.number.fits none table now opens _ refl c.args.key.now found_pair c.find-2.new.key_buffers c.unwrap-table.result.now it c.find-2.ensures.looks_up _ put;
      gets = λ modelled was. gets_looked keys g.E.Env by refl old state number c.ranges.number.fits none table now opens _ refl c.args.key.now found_pair c.find-2.new.key_buffers c.unwrap-table.result.now it c.find-2.ensures.looks_up _ put modelled was;
      in_open = λ other at. absurd (none_value none at);
    })
