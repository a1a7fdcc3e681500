use Rattle.std.proofs.Common.{refl, ap}
use Rattle.leveldb_env.specs.contracts.compressor.CompressorListCompressors.TheImpl
use Rattle.leveldb_table.specs.TableReader.{no_footer, no_index}
use Rattle.leveldb_table.proofs.TableBlockLemmas.{KeepsDisk-refl, FileHas-after, reads_then, reads_weaker, reads_refused}
use Rattle.leveldb_table.proofs.TableReaderLemmas.{lacks, lacks_damaged, indexed_not}
use Rattle.leveldb_table.proofs.table_reader.open.read_index.Goals as goal

pub returns-in_err-footer-clause-reads : goal.returns-in_err-footer-clause-reads
returns-in_err-footer-clause-reads g c =
    reads_refused g.E.Env c.from_residual.result c.from_residual.ensures.1
    (reads_weaker g.E.Env _ (lacks_damaged g.E.Env ((TheImpl.ghosts g.dyn-1).codings c.args.compressors.now) (KeepsDisk-refl g.E.Env c.args.env.now) _
    (λ bytes status has none code. let why = no_footer none code in (indexed_not why, why))) c.in_err-footer.ensures.reads)

pub returns-in_err-index-clause-reads : goal.returns-in_err-index-clause-reads
returns-in_err-index-clause-reads g c =
    let read = c.in_ok-footer.ensures in
    let kept_disk = read.reads.kept_disk in
    reads_then g.E.Env c.from_residual-in_err-index.result kept_disk read.reads.cause.ok
    (lacks g.E.Env ((TheImpl.ghosts g.dyn-1).codings c.args.compressors.now) kept_disk _ (λ bytes status has none. let why = no_index _ _ (read.ok bytes has) none in (indexed_not why, why)))
    (reads_refused g.E.Env c.from_residual-in_err-index.result c.from_residual-in_err-index.ensures.1 c.in_err-index.ensures.reads)

pub returns-clause-ok : goal.returns-clause-ok
returns-clause-ok g c = λ bytes has.
    let read = c.in_ok-footer.ensures in
    let lines = c.in_ok-index.ensures in
    let index = c.in_ok-index.index.entries in
    record {
      footer = read.ok bytes has;
      index_text = c.in_ok-index.index.contents;
      index_is_there = lines.ok bytes (FileHas-after g.E.Env read.reads.kept_disk has);
      index_block = record { entries = index; encoded = rw (ap g.C.Cmp.cmp lines.order) at lines.encoded; pairs_are = refl };
    }
