use Rattle.std.proofs.Common.{None, arith, refl, inl, inr, ◌∙◌}
use Rattle.leveldb_env.specs.contracts.compressor.CompressorListCompressors.TheImpl
use Rattle.leveldb_table.specs.Block.{pairs_of}
use Rattle.leveldb_table.specs.Table.{filter_key}
use Rattle.leveldb_table.specs.TableReader.{IsNoIndex, IsNoTable, not_indexed, no_metaindex, no_filters}
use Rattle.leveldb_table.proofs.TableBlockLemmas.{KeepsDisk-refl, KeepsDisk-trans, FileHas-after, reads_ok, reads_then, reads_passed, reads_weaker, reads_refused}
use Rattle.leveldb_table.proofs.TableReaderLemmas.{lacks, lacks_damaged, opens_not, opens_err}
use Rattle.leveldb_table.proofs.table_reader.Table.open.Goals as goal

pub returns-in_err-footer : goal.returns-in_err-footer
returns-in_err-footer g c =
    opens_err _ c.from_residual.result c.from_residual.ensures.1
    (reads_refused g.E.Env c.from_residual.result c.from_residual.ensures.1
    (reads_weaker g.E.Env _ (λ status why. inr (lacks g.E.Env ((TheImpl.ghosts g.dyn-1).codings c.args.compressors.now) (KeepsDisk-refl g.E.Env c.args.env.now) (IsNoIndex ((TheImpl.ghosts g.dyn-1).codings c.args.compressors.now) (g.C.Cmp.cmp c.args.cmp) c.args.size) {Whole = IsNoTable ((TheImpl.ghosts g.dyn-1).codings c.args.compressors.now) (g.C.Cmp.cmp c.args.cmp) (filter_key (g.FP.FilterPolicy.name c.args.policy)) c.args.size}
    (λ bytes status has none. let part = not_indexed none.1 in (opens_not part, part)) status why)) c.in_err-footer.ensures.reads)) refl

pub returns-in_err-metas : goal.returns-in_err-metas
returns-in_err-metas g c =
    let read = c.in_ok-footer.ensures in
    let kept_disk = read.reads.kept_disk in
    opens_err _ c.from_residual-in_err-metas.result c.from_residual-in_err-metas.ensures.1
    (reads_then g.E.Env c.from_residual-in_err-metas.result kept_disk read.reads.cause.ok
    (λ status why. inr (lacks g.E.Env ((TheImpl.ghosts g.dyn-1).codings c.args.compressors.now) kept_disk _ {Whole = IsNoTable ((TheImpl.ghosts g.dyn-1).codings c.args.compressors.now) (g.C.Cmp.cmp c.args.cmp) (filter_key (g.FP.FilterPolicy.name c.args.policy)) c.args.size} (λ bytes status has none.
    let part = no_metaindex _ _ (read.ok bytes has).footer none in (opens_not part, part)) status why))
    (reads_refused g.E.Env c.from_residual-in_err-metas.result c.from_residual-in_err-metas.ensures.1 c.in_err-metas.ensures.reads)) refl

pub returns-in_err-filters : goal.returns-in_err-filters
returns-in_err-filters g c =
    let read = c.in_ok-footer.ensures in
    let metas = c.in_ok-metas.ensures in
    let kept_disk = KeepsDisk-trans g.E.Env read.reads.kept_disk metas.reads.kept_disk in
    let block = c.in_ok-metas.metas.entries in
    opens_err _ c.from_residual-in_err-filters.result c.from_residual-in_err-filters.ensures.1
    (reads_then g.E.Env c.from_residual-in_err-filters.result kept_disk (metas.reads.cause.ok ∙ read.reads.cause.ok)
    (λ status why. inr (lacks_damaged g.E.Env ((TheImpl.ghosts g.dyn-1).codings c.args.compressors.now) kept_disk _ {Whole = IsNoTable ((TheImpl.ghosts g.dyn-1).codings c.args.compressors.now) (g.C.Cmp.cmp c.args.cmp) (filter_key (g.FP.FilterPolicy.name c.args.policy)) c.args.size} (λ bytes status has none code.
    let part = no_filters _ _ (read.ok bytes has).footer c.in_ok-metas.metas.contents (pairs_of None block) (metas.ok bytes (FileHas-after g.E.Env read.reads.kept_disk has))
    (record { entries = block; encoded = metas.encoded; pairs_are = refl }) none code in (opens_not part, part)) status why))
    (reads_refused g.E.Env c.from_residual-in_err-filters.result c.from_residual-in_err-filters.ensures.1 c.in_err-filters.ensures.reads)) refl

pub returns-in_err-id : goal.returns-in_err-id
returns-in_err-id g c =
    let read = c.in_ok-footer.ensures in
    let metas = c.in_ok-metas.ensures in
    let filters = c.in_ok-filters.ensures in
    let id = c.in_err-id.ensures in
    let kept_disk = KeepsDisk-trans g.E.Env (KeepsDisk-trans g.E.Env read.reads.kept_disk metas.reads.kept_disk) filters.reads.kept_disk in
    opens_err _ c.from_residual-in_err-id.result c.from_residual-in_err-id.ensures.1
    (reads_passed g.E.Env c.from_residual-in_err-id.result kept_disk (filters.reads.cause.ok ∙ metas.reads.cause.ok ∙ read.reads.cause.ok) c.from_residual-in_err-id.ensures.1
    (inr (inl (id.cause, id.used_up.0 id.cause)))) id.err

pub returns : goal.returns
returns g c =
    let read = c.in_ok-footer.ensures in
    let metas = c.in_ok-metas.ensures in
    let kept_disk = KeepsDisk-trans g.E.Env read.reads.kept_disk metas.reads.kept_disk in
    let filters = c.in_ok-filters.ensures in
    let meta = c.in_ok-metas.metas.entries in
    record {
      reads = reads_ok g.E.Env (KeepsDisk-trans g.E.Env kept_disk filters.reads.kept_disk) (filters.reads.cause.ok ∙ metas.reads.cause.ok ∙ read.reads.cause.ok);
      ok = λ bytes has. record {
        indexed = read.ok bytes has;
        meta_text = c.in_ok-metas.metas.contents;
        metas = pairs_of None meta;
        meta_is_there = metas.ok bytes (FileHas-after g.E.Env read.reads.kept_disk has);
        meta_block = record { entries = meta; encoded = metas.encoded; pairs_are = refl };
        filtered = filters.ok bytes (FileHas-after g.E.Env kept_disk has);
      };
      file = refl;
      order = (refl, read.order);
      policy = filters.policy;
      id = (c.in_ok-id.ensures.next, c.in_ok-id.ensures.given);
      id_fits = omega arith;
      err = tt;
    }
