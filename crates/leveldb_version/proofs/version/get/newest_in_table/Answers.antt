use Rattle.std.proofs.Common.{Err, List, Ok, subst, ℕ}
use Rattle.std.specs.Prelude.{IsTrue}
use Rattle.leveldb_base.specs.contracts.cmp.internal.InternalKeyCmpCmp.TheImpl.{ghosts as key_order}
use Rattle.leveldb_env.specs.contracts.compressor.CompressorListCompressors.TheImpl.{ghosts as compressors}
use Rattle.leveldb_table.specs.BlockWalk.{pair_with}
use Rattle.leveldb_files.specs.Stores.Format.{format_of}
use Rattle.leveldb_version.specs.Tables.TableCache.{GetsPair, MatchesFiles, files_at, table_options}
use Rattle.leveldb_version.proofs.Tables.SearchTableLemmas.{search_answers, search_refused}
use Rattle.leveldb_version.proofs.version.get.newest_in_table.Goals as goal

pub returns-in_err-value : goal.returns-in_err-value
returns-in_err-value g c =
    let options = c.args.options.now in
    let keys = key_order g.row.C g.C.UserCmp g.C.UserCmp-dict g.C.Cmp g.C.Cmp-dict in
    let by = table_options (format_of g.C.Cmp g.FP.FilterPolicy (compressors g.dyn-2).codings options) options in
    let status = c.in_err-value.field-0.0 in
    let gets = subst (λ (key : List ℕ). IsTrue g.E.Env.models_disk → MatchesFiles keys g.E.Env by (files_at g.E.Env c.args.env.now) c.args.tables.now
    → GetsPair keys g.E.Env by c.args.number key c.args.env.now c.args.tables.now (Err status) c.find.new.env c.find.new.self) c.internal_key.ensures c.in_err-value.ensures.gets in
    search_refused g.E.Env by c.args.key.now c.args.env.now c.args.tables.now c.args.number status c.from_residual.result c.from_residual.ensures.1 c.in_err-value.ensures.uses gets

pub returns : goal.returns
returns g c =
    let options = c.args.options.now in
    let keys = key_order g.row.C g.C.UserCmp g.C.UserCmp-dict g.C.Cmp g.C.Cmp-dict in
    let by = table_options (format_of g.C.Cmp g.FP.FilterPolicy (compressors g.dyn-2).codings options) options in
    let pair = pair_with c.find.new.self.key_buffers c.in_ok-value.value in
    let gets = subst (λ (key : List ℕ). IsTrue g.E.Env.models_disk → MatchesFiles keys g.E.Env by (files_at g.E.Env c.args.env.now) c.args.tables.now
    → GetsPair keys g.E.Env by c.args.number key c.args.env.now c.args.tables.now (Ok pair) c.find.new.env c.find.new.self) c.internal_key.ensures c.in_ok-value.ensures.gets in
    search_answers g.E.Env by c.args.key.now c.args.env.now c.args.tables.now c.args.number pair c.value_at.result c.in_ok-value.ensures.uses gets
    (rw (c.user_key.ensures, c.found_key.ensures) at c.value_at.ensures.ok) (rw c.found_key.ensures at c.value_at.ensures.damaged)
