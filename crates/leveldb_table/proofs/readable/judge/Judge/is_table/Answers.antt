use Rattle.std.proofs.Common.{None, ap, length, refl, subst, ◌≡◌, ◌∙◌, inl}
use Rattle.std.specs.Prelude.{IfSome, MatchOption}
use Rattle.std.proofs.lemmas.Result.{IfOk-from_err}
use Rattle.leveldb_base.specs.BlockHandle.{Handle}
use Rattle.leveldb_base.specs.Cmp.{bytewise}
use Rattle.leveldb_env.specs.Compressor.{Decodes}
use Rattle.leveldb_env.specs.contracts.compressor.CompressorListCompressors.TheImpl
use Rattle.leveldb_table.specs.Block.{HasEntries, pairs_of}
use Rattle.leveldb_table.specs.ReadableTable.{HasNoBlockByMore, of_index, of_metaindex}
use Rattle.leveldb_table.specs.Table.{HasBlockAt}
use Rattle.leveldb_table.specs.TableReader.{EndsInFooter}
use Rattle.leveldb_table.proofs.ReadableJudgeLemmas.{block_fails, lines_fail, no_test, none_if, some_if, table_judged}
use Rattle.leveldb_table.proofs.ReadableTableLemmas.{no_footer_no_table, no_index_no_table, no_meta_no_table}
use Rattle.leveldb_table.proofs.TableBlockLemmas.{FileHas-after, KeepsDisk-trans, reads_refused, reads_ok, reads_weaker}
use Rattle.leveldb_table.proofs.readable.judge.Judge.is_table.Goals as goal

pub returns-in_default-clause-ok : goal.returns-in_default-clause-ok
returns-in_default-clause-ok g c = λ bytes has same more by.
    no_test (no_footer_no_table
    (subst (λ it. MatchOption it ((meta index : Handle)
    → EndsInFooter bytes (length bytes) meta index → ⊥)
    (λ there. EndsInFooter bytes (length bytes) there.meta_index there.index)) c.in_default.is
    (c.in_ok-footer.ensures.ok bytes has same)))

pub returns-in_err-index-clause-reads : goal.returns-in_err-index-clause-reads
returns-in_err-index-clause-reads g c =
    let self = c.args.self.now in
    let codings = (TheImpl.ghosts g.dyn-1).codings self.compressors.now in
    let cmp = g.C.Cmp.cmp self.cmp in
    let footer = c.in-Some.footer in
    let first = c.in_ok-footer.ensures in
    let result = c.from_residual-in_err-index.result in
    block_fails g.E.Env codings (g.C.Cmp.accepts self.cmp) cmp self.file self.size
    first.reads.kept_disk footer.index result first.reads.cause.ok
    (λ bytes has same. of_index footer.meta_index (subst (λ it. MatchOption it ((meta index :
    Handle) → EndsInFooter bytes (length bytes) meta index → ⊥)
    (λ there. EndsInFooter bytes (length bytes) there.meta_index there.index)) c.in-Some.is
    (first.ok bytes has same)))
    (reads_refused g.E.Env result c.from_residual-in_err-index.ensures.1
    c.in_err-index.ensures.reads)

pub returns-in_default-2-clause-ok : goal.returns-in_default-2-clause-ok
returns-in_default-2-clause-ok g c = λ bytes has same more by.
    let self = c.args.self.now in
    let codings = (TheImpl.ghosts g.dyn-1).codings self.compressors.now in
    let cmp = g.C.Cmp.cmp self.cmp in
    let footer = c.in-Some.footer in
    let first = c.in_ok-footer.ensures in
    let none = subst (λ it. MatchOption it (HasNoBlockByMore codings cmp bytes footer.index) (λ
    block. HasBlockAt (Decodes codings) bytes footer.index block.contents)) c.in_default-2.is
    (c.in_ok-index.ensures.ok bytes (FileHas-after g.E.Env first.reads.kept_disk has) same) in
    no_test (λ table. no_index_no_table codings (subst (λ it. MatchOption it ((meta index : Handle)
    → EndsInFooter bytes (length bytes) meta index → ⊥)
    (λ there. EndsInFooter bytes (length bytes) there.meta_index there.index)) c.in-Some.is
    (first.ok bytes has same)) more by table none)

pub returns-in_err-block-clause-reads : goal.returns-in_err-block-clause-reads
returns-in_err-block-clause-reads g c =
    let self = c.args.self.now in
    let codings = (TheImpl.ghosts g.dyn-1).codings self.compressors.now in
    let cmp = g.C.Cmp.cmp self.cmp in
    let footer = c.in-Some.footer in
    let first = c.in_ok-footer.ensures in
    let second = c.in_ok-index.ensures in
    let kept = KeepsDisk-trans g.E.Env first.reads.kept_disk second.reads.kept_disk in
    let counted = second.reads.cause.ok ∙ first.reads.cause.ok in
    let result = c.from_residual-in_err-block.result in
    block_fails g.E.Env codings (g.C.Cmp.accepts self.cmp) cmp self.file self.size kept
    footer.meta_index result counted
    (λ bytes has same. of_metaindex footer.index (subst (λ it. MatchOption it ((meta index : Handle)
    → EndsInFooter bytes (length bytes) meta index → ⊥)
    (λ there. EndsInFooter bytes (length bytes) there.meta_index there.index)) c.in-Some.is
    (first.ok bytes has same)))
    (reads_refused g.E.Env result c.from_residual-in_err-block.ensures.1
    c.in_err-block.ensures.reads)

pub returns-then-is_none-clause-ok : goal.returns-then-is_none-clause-ok
returns-then-is_none-clause-ok g c = λ bytes has same more by.
    let self = c.args.self.now in
    let codings = (TheImpl.ghosts g.dyn-1).codings self.compressors.now in
    let cmp = g.C.Cmp.cmp self.cmp in
    let footer = c.in-Some.footer in
    let first = c.in_ok-footer.ensures in
    let second = c.in_ok-index.ensures in
    let kept = KeepsDisk-trans g.E.Env first.reads.kept_disk second.reads.kept_disk in
    let counted = second.reads.cause.ok ∙ first.reads.cause.ok in
    let is = none_if c.in_ok-block.field-0 c.is_none.result c.is_none.ensures c.if-is_none.true in
    let none = subst (λ it. MatchOption it (HasNoBlockByMore codings bytewise bytes
    footer.meta_index) (λ block. HasBlockAt (Decodes codings) bytes footer.meta_index
    block.contents)) is
    (c.in_ok-block.ensures.ok bytes (FileHas-after g.E.Env kept has) same) in
    no_test (λ table. no_meta_no_table codings (subst (λ it. MatchOption it ((meta index : Handle)
    → EndsInFooter bytes (length bytes) meta index → ⊥)
    (λ there. EndsInFooter bytes (length bytes) there.meta_index there.index)) c.in-Some.is
    (first.ok bytes has same)) more by table none)

pub returns-clause-reads : goal.returns-clause-reads
returns-clause-reads g c =
    let self = c.args.self.now in
    let codings = (TheImpl.ghosts g.dyn-1).codings self.compressors.now in
    let cmp = g.C.Cmp.cmp self.cmp in
    let footer = c.in-Some.footer in
    let first = c.in_ok-footer.ensures in
    let second = c.in_ok-index.ensures in
    let kept = KeepsDisk-trans g.E.Env first.reads.kept_disk second.reads.kept_disk in
    let counted = second.reads.cause.ok ∙ first.reads.cause.ok in
    let third = c.in_ok-block.ensures in
    let all_kept = KeepsDisk-trans g.E.Env kept third.reads.kept_disk in
    let all_counted = third.reads.cause.ok ∙ counted in
    let index = c.in-Some-2.index in
    lines_fail g.E.Env codings (g.C.Cmp.accepts self.cmp) cmp self.file self.size all_kept (pairs_of
    None index.entries) footer.meta_index footer.index c.lines_hold.result all_counted
    (λ bytes has same.
    let order : index.cmp ≡ self.cmp = subst (λ it. IfSome it (λ block. block.cmp ≡ self.cmp))
    c.in-Some-2.is second.order in
    let encoded : HasEntries (g.C.Cmp.cmp index.cmp) index.contents index.entries =
    subst (λ it. IfSome it (λ block. HasEntries (g.C.Cmp.cmp block.cmp) block.contents
    block.entries)) c.in-Some-2.is second.encoded in
    record {
      footer = (subst (λ it. MatchOption it ((meta index : Handle)
          → EndsInFooter bytes (length bytes) meta index → ⊥)
          (λ there. EndsInFooter bytes (length bytes) there.meta_index there.index)) c.in-Some.is
          (first.ok bytes has same));
      index_text = index.contents;
      index_is_there = subst (λ it. MatchOption it (HasNoBlockByMore codings cmp bytes footer.index)
          (λ block. HasBlockAt (Decodes codings) bytes footer.index block.contents)) c.in-Some-2.is
          (second.ok bytes (FileHas-after g.E.Env first.reads.kept_disk has) same);
      index_block = record {
        entries = index.entries;
        encoded = rw (ap g.C.Cmp.cmp order) at
            encoded;
        pairs_are = refl;
      };
    })
    c.lines_hold.ensures.reads

pub returns-clause-ok : goal.returns-clause-ok
returns-clause-ok g c =
    let self = c.args.self.now in
    let codings = (TheImpl.ghosts g.dyn-1).codings self.compressors.now in
    let cmp = g.C.Cmp.cmp self.cmp in
    let footer = c.in-Some.footer in
    let first = c.in_ok-footer.ensures in
    let second = c.in_ok-index.ensures in
    let kept = KeepsDisk-trans g.E.Env first.reads.kept_disk second.reads.kept_disk in
    let counted = second.reads.cause.ok ∙ first.reads.cause.ok in
    let third = c.in_ok-block.ensures in
    let all_kept = KeepsDisk-trans g.E.Env kept third.reads.kept_disk in
    let all_counted = third.reads.cause.ok ∙ counted in
    let index = c.in-Some-2.index in
    let metas = some_if c.in_ok-block.field-0 c.is_none.result c.is_none.ensures c.if-is_none.false
    in
    table_judged g.E.Env codings (g.C.Cmp.accepts self.cmp) cmp self.file self.size all_kept
    (g.met.C.Cmp.preorder self.cmp) (pairs_of None index.entries) (pairs_of None
    metas.0.entries)
    footer.meta_index footer.index metas.0.contents c.lines_hold.result c.lines_hold.ensures.ok
    (λ bytes has same.
    let order : index.cmp ≡ self.cmp = subst (λ it. IfSome it (λ block. block.cmp ≡ self.cmp))
    c.in-Some-2.is second.order in
    let encoded : HasEntries (g.C.Cmp.cmp index.cmp) index.contents index.entries =
    subst (λ it. IfSome it (λ block. HasEntries (g.C.Cmp.cmp block.cmp) block.contents
    block.entries)) c.in-Some-2.is second.encoded in
    record {
      footer = (subst (λ it. MatchOption it ((meta index : Handle)
          → EndsInFooter bytes (length bytes) meta index → ⊥)
          (λ there. EndsInFooter bytes (length bytes) there.meta_index there.index)) c.in-Some.is
          (first.ok bytes has same));
      index_text = index.contents;
      index_is_there = subst (λ it. MatchOption it (HasNoBlockByMore codings cmp bytes footer.index)
          (λ block. HasBlockAt (Decodes codings) bytes footer.index block.contents)) c.in-Some-2.is
          (second.ok bytes (FileHas-after g.E.Env first.reads.kept_disk has) same);
      index_block = record {
        entries = index.entries;
        encoded = rw (ap g.C.Cmp.cmp order) at
            encoded;
        pairs_are = refl;
      };
    })
    (λ bytes has same. subst (λ it. MatchOption it (HasNoBlockByMore codings bytewise bytes
    footer.meta_index) (λ block. HasBlockAt (Decodes codings) bytes footer.meta_index
    block.contents)) metas.1
    (third.ok bytes (FileHas-after g.E.Env kept has) same))
    (record {
      entries = metas.0.entries;
      encoded = subst (λ it. IfSome it (λ block. HasEntries bytewise block.contents block.entries))
          metas.1 third.encoded;
      pairs_are = refl;
    })

pub returns-in_err-footer-clause-reads : goal.returns-in_err-footer-clause-reads
returns-in_err-footer-clause-reads g c =
    reads_weaker g.E.Env _ (λ status damaged. (inl damaged.0, λ bytes has same. absurd (damaged.1 bytes has same))) (reads_refused g.E.Env c.from_residual.result c.from_residual.ensures.1 c.in_err-footer.ensures.reads)

pub returns-in_err-footer-clause-ok : goal.returns-in_err-footer-clause-ok
returns-in_err-footer-clause-ok g c = IfOk-from_err _ _ c.from_residual.ensures.0

pub returns-in_err-footer-clause-fits : goal.returns-in_err-footer-clause-fits
returns-in_err-footer-clause-fits g c = c.footer.ensures.fits

pub returns-in_default-clause-reads : goal.returns-in_default-clause-reads
returns-in_default-clause-reads g c =
    let first = c.in_ok-footer.ensures.reads in
    reads_ok g.E.Env first.kept_disk first.cause.ok

pub returns-in_default-clause-fits : goal.returns-in_default-clause-fits
returns-in_default-clause-fits g c = c.footer.ensures.fits

pub returns-in_err-index-clause-ok : goal.returns-in_err-index-clause-ok
returns-in_err-index-clause-ok g c = IfOk-from_err _ _ c.from_residual-in_err-index.ensures.0

pub returns-in_err-index-clause-fits : goal.returns-in_err-index-clause-fits
returns-in_err-index-clause-fits g c = c.footer.ensures.fits

pub returns-in_default-2-clause-reads : goal.returns-in_default-2-clause-reads
returns-in_default-2-clause-reads g c =
    let first = c.in_ok-footer.ensures.reads in
    let second = c.in_ok-index.ensures.reads in
    reads_ok g.E.Env (KeepsDisk-trans g.E.Env first.kept_disk second.kept_disk) (second.cause.ok ∙ first.cause.ok)

pub returns-in_default-2-clause-fits : goal.returns-in_default-2-clause-fits
returns-in_default-2-clause-fits g c = c.footer.ensures.fits

pub returns-in_err-block-clause-ok : goal.returns-in_err-block-clause-ok
returns-in_err-block-clause-ok g c = IfOk-from_err _ _ c.from_residual-in_err-block.ensures.0

pub returns-in_err-block-clause-fits : goal.returns-in_err-block-clause-fits
returns-in_err-block-clause-fits g c = c.footer.ensures.fits

pub returns-then-is_none-clause-reads : goal.returns-then-is_none-clause-reads
returns-then-is_none-clause-reads g c =
    let first = c.in_ok-footer.ensures.reads in
    let second = c.in_ok-index.ensures.reads in
    let third = c.in_ok-block.ensures.reads in
    let kept = KeepsDisk-trans g.E.Env first.kept_disk second.kept_disk in
    reads_ok g.E.Env (KeepsDisk-trans g.E.Env kept third.kept_disk) (third.cause.ok ∙ second.cause.ok ∙ first.cause.ok)

pub returns-then-is_none-clause-fits : goal.returns-then-is_none-clause-fits
returns-then-is_none-clause-fits g c = c.footer.ensures.fits

pub returns-clause-fits : goal.returns-clause-fits
returns-clause-fits g c = c.footer.ensures.fits
