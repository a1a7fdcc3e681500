use Rattle.std.proofs.Common.{◌≡◌, ◌∙◌, Err, ap, inr}
use Rattle.leveldb_env.specs.contracts.compressor.CompressorListCompressors.TheImpl.{ghosts as compressors}
use Rattle.leveldb_table.proofs.TableBlockLemmas.{reads_weaker}
use Rattle.leveldb_files.specs.Stores.Paths.{table_path}
use Rattle.leveldb_version.specs.Tables.TableCache.{path_at, store_of, options_by}
use Rattle.leveldb_version.proofs.Tables.TableCacheLemmas.{numbered, numbered_err, renewed_store, unopened_file}
use Rattle.leveldb_version.proofs.table_cache.TableCache.open_by.Goals as goal

pub returns-in_err-file : goal.returns-in_err-file
returns-in_err-file g c =
    let old = c.args.self.now in
    let number = c.args.number in
    let by = options_by g.C.Cmp g.FP.FilterPolicy ((compressors g.dyn-1).codings c.args.compressors.now) c.args.cmp c.args.policy in
    let anew = c.in_ok-renew.ensures.ok in
    let store = c.deref.ensures ∙ ap store_of anew ∙ renewed_store old in
    let path : c.deref-2.result.now ≡ path_at old number = c.deref-2.ensures ∙ c.in_ok-path.ensures.ok ∙ ap (λ s. table_path s number) store in
    let opens = rw path at c.in_err-file.ensures in
    numbered_err g.E.Env by number c.args.env.now old c.from_residual-in_err-file.result c.from_residual-in_err-file.ensures.1
    (reads_weaker g.E.Env (Err _) (unopened_file g.E.Env by.format (path_at old number) c.args.env.now) opens.reads) (inr anew)

pub returns : goal.returns
returns g c =
    let old = c.args.self.now in
    let number = c.args.number in
    let by = options_by g.C.Cmp g.FP.FilterPolicy ((compressors g.dyn-1).codings c.args.compressors.now) c.args.cmp c.args.policy in
    let anew = c.in_ok-renew.ensures.ok in
    let store = c.deref.ensures ∙ ap store_of anew ∙ renewed_store old in
    let path : c.deref-2.result.now ≡ path_at old number = c.deref-2.ensures ∙ c.in_ok-path.ensures.ok ∙ ap (λ s. table_path s number) store in
    let opens = rw path at c.in_ok-file.ensures in
    numbered g.E.Env by number c.args.env.now old c.renew.new.self anew c.in_ok-file.file c.in_ok-file.size opens.ok opens.reads.kept_disk opens.reads.cause.ok c.open.result (rw c.new.ensures at c.open.ensures)
