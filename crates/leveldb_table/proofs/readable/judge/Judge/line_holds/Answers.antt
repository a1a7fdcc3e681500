use Rattle.std.proofs.Common.{None, ap, subst, sym, refl, ◌≡◌, ◌∙◌, inl}
use Rattle.std.specs.Prelude.{IfSome, MatchOption}
use Rattle.std.proofs.lemmas.Result.{IfOk-from_err, IfErr-weaker}
use Rattle.std.proofs.lemmas.Bool.{true≢false}
use Rattle.leveldb_env.specs.Compressor.{Decodes}
use Rattle.leveldb_env.specs.contracts.compressor.CompressorListCompressors.TheImpl
use Rattle.leveldb_table.specs.Block.{HasEntries, pairs_of}
use Rattle.leveldb_table.specs.BlockCheck.{key_before}
use Rattle.leveldb_table.specs.ReadableTable.{HasNoBlockByMore}
use Rattle.leveldb_table.specs.Table.{HasBlockAt}
use Rattle.leveldb_table.proofs.ReadableFileLemmas.{lacking_line, unnamed_line}
use Rattle.leveldb_table.proofs.ReadableJudgeLemmas.{line_judged, no_test}
use Rattle.leveldb_table.proofs.TableBlockLemmas.{KeepsDisk-refl, reads_ok, reads_ends, reads_refused, reads_weaker}
use Rattle.leveldb_table.proofs.readable.judge.Judge.line_holds.Goals as goal

pub returns-in_default-2-clause-ok : goal.returns-in_default-2-clause-ok
returns-in_default-2-clause-ok g c = λ bytes has same more by.
    let codings = (TheImpl.ghosts g.dyn-1).codings c.args.self.now.compressors.now in
    let handle = c.in-Some.handle in
    let none = subst (λ found. MatchOption found (HasNoBlockByMore codings (g.C.Cmp.cmp
    c.args.self.now.cmp) bytes handle) (λ block. HasBlockAt (Decodes codings) bytes handle
    block.contents))
    c.in_default-2.is (c.in_ok-block.ensures.ok bytes has same) in
    no_test (λ holds. lacking_line codings c.in-Some.ensures.1 more by none holds)

pub returns-clause-ok : goal.returns-clause-ok
returns-clause-ok g c =
    let codings = (TheImpl.ghosts g.dyn-1).codings c.args.self.now.compressors.now in
    let cmp = g.C.Cmp.cmp c.args.self.now.cmp in
    let handle = c.in-Some.handle in
    let found = c.in_ok-block.ensures in
    let block = c.in-Some-2.block in
    let order : block.cmp ≡ c.args.self.now.cmp = subst (λ it. IfSome it (λ block. block.cmp ≡
    c.args.self.now.cmp)) c.in-Some-2.is found.order in
    let encoded : HasEntries (g.C.Cmp.cmp block.cmp) block.contents block.entries =
    subst (λ it. IfSome it (λ block. HasEntries (g.C.Cmp.cmp block.cmp) block.contents
    block.entries)) c.in-Some-2.is found.encoded in
    line_judged g.E.Env codings (g.C.Cmp.accepts c.args.self.now.cmp) cmp c.args.self.now.file
    c.args.self.now.size c.args.env.now (key_before c.args.keys.first c.args.keys.before.now)
    (c.args.keys.here.now, c.args.value.now) handle block.contents (pairs_of None block.entries)
    c.are_between.result c.are_between.ensures.ok c.in-Some.ensures.1
    (λ bytes has same. subst (λ it. MatchOption it (HasNoBlockByMore codings cmp bytes handle) (λ
    block. HasBlockAt (Decodes codings) bytes handle block.contents)) c.in-Some-2.is (found.ok
    bytes has same))
    (record {
      entries = block.entries;
      encoded = rw (ap g.C.Cmp.cmp order) at encoded;
      pairs_are =
          refl;
    })
    (sym c.accepts.ensures ∙ c.if-not-accepts.false)

pub returns-in_default-clause-reads : goal.returns-in_default-clause-reads
returns-in_default-clause-reads g c = reads_ok g.E.Env (KeepsDisk-refl g.E.Env c.args.env.now) refl

pub returns-in_default-clause-ok : goal.returns-in_default-clause-ok
returns-in_default-clause-ok g c = λ bytes has same more by. no_test (unnamed_line c.in_default.ensures more)

pub returns-then-not-accepts-clause-reads : goal.returns-then-not-accepts-clause-reads
returns-then-not-accepts-clause-reads g c = reads_ok g.E.Env (KeepsDisk-refl g.E.Env c.args.env.now) refl

pub returns-then-not-accepts-clause-ok : goal.returns-then-not-accepts-clause-ok
returns-then-not-accepts-clause-ok g c = λ bytes has same more by. no_test (λ holds. true≢false (sym holds.accepted ∙ sym c.accepts.ensures ∙ c.if-not-accepts.true))

pub returns-in_err-block-clause-reads : goal.returns-in_err-block-clause-reads
returns-in_err-block-clause-reads g c =
    reads_weaker g.E.Env _ (λ status lacks. (lacks.0, λ bytes has same. (c.in-Some.handle, c.in-Some.ensures.1, lacks.1 bytes has same)))
    (reads_refused g.E.Env c.from_residual.result c.from_residual.ensures.1 c.in_err-block.ensures.reads)

pub returns-in_err-block-clause-ok : goal.returns-in_err-block-clause-ok
returns-in_err-block-clause-ok g c = IfOk-from_err _ _ c.from_residual.ensures.0

pub returns-in_default-2-clause-reads : goal.returns-in_default-2-clause-reads
returns-in_default-2-clause-reads g c =
    let read = c.in_ok-block.ensures.reads in
    reads_ok g.E.Env read.kept_disk read.cause.ok

pub returns-clause-reads : goal.returns-clause-reads
returns-clause-reads g c =
    let read = c.in_ok-block.ensures.reads in
    reads_ends g.E.Env c.are_between.result read.kept_disk read.cause.ok (IfErr-weaker c.are_between.result _ _ (λ status memory. inl memory) c.are_between.ensures.memory)
