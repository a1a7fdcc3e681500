use Rattle.std.proofs.Common.{rules, ◌≡◌, subst, inl, inr, ⊎_elim, sym}
use Rattle.std.specs.Prelude.{MatchOption}
use Rattle.std.proofs.lemmas.Result.{IfOk-from_err}
use Rattle.leveldb_base.specs.declared.error.StatusCode.TheVariants.{Corruption}
use Rattle.leveldb_env.specs.contracts.compressor.CompressorListCompressors.TheImpl
use Rattle.leveldb_env.specs.Compressor.{Decodes}
use Rattle.leveldb_table.specs.Table.{StoresAt, HasBlockAt}
use Rattle.leveldb_table.specs.TableBlock.{StoresNothing}
use Rattle.leveldb_table.proofs.ReadableTableLemmas.{no_block_by_more, unstored_by_more}
use Rattle.leveldb_table.proofs.TableBlockLemmas.{reads_ok, reads_passed, reads_refused, reads_weaker}
use Rattle.leveldb_table.proofs.ReadableFileLemmas.{undecoded_error}
use Rattle.leveldb_table.proofs.readable.judge.Judge.block.Goals as goal

pub returns-in_default-clause-ok : goal.returns-in_default-clause-ok
returns-in_default-clause-ok g c = λ bytes has same.
    unstored_by_more ((TheImpl.ghosts g.dyn-1).codings c.args.self.now.compressors.now) (g.D.Cmp.cmp
    c.args.cmp)
    (subst (λ found. MatchOption found (StoresNothing bytes c.args.location) (λ there. StoresAt
    bytes c.args.location there.0 there.1.items)) c.in_default.is (c.in_ok-id.ensures.ok bytes
    has same))

pub returns-in-Err-clause-ok : goal.returns-in-Err-clause-ok
returns-in-Err-clause-ok g c = λ bytes has same.
    let code : c.in-Err.status.code ≡ Corruption = search rules in
    let there = subst (λ found. MatchOption found (StoresNothing bytes c.args.location) (λ there.
    StoresAt bytes c.args.location there.0 there.1.items)) c.in-Some.is (c.in_ok-id.ensures.ok
    bytes has same) in
    no_block_by_more ((TheImpl.ghosts g.dyn-1).codings c.args.self.now.compressors.now) (g.D.Cmp.cmp
    c.args.cmp)
    (record {
      id = c.in-Some.id;
      stored = c.in-Some.stored.items;
      is_there = there;
      decoded = c.in_ok-text.ensures.ok;
    })
    (c.in-Err.ensures.damage code)

pub returns-in_err-id-clause-reads : goal.returns-in_err-id-clause-reads
returns-in_err-id-clause-reads g c =
    reads_weaker g.E.Env _ (λ status damaged. (inl damaged.0, λ bytes has same. absurd (damaged.1 bytes has same))) (reads_refused g.E.Env c.from_residual.result c.from_residual.ensures.1 c.in_err-id.ensures.reads)

pub returns-in_err-id-clause-ok : goal.returns-in_err-id-clause-ok
returns-in_err-id-clause-ok g c = IfOk-from_err _ _ c.from_residual.ensures.0

pub returns-in_err-id-clause-order : goal.returns-in_err-id-clause-order
returns-in_err-id-clause-order g c = IfOk-from_err _ _ c.from_residual.ensures.0

pub returns-in_err-id-clause-encoded : goal.returns-in_err-id-clause-encoded
returns-in_err-id-clause-encoded g c = IfOk-from_err _ _ c.from_residual.ensures.0

pub returns-in_default-clause-reads : goal.returns-in_default-clause-reads
returns-in_default-clause-reads g c =
    let before = c.in_ok-id.ensures.reads in
    reads_ok g.E.Env before.kept_disk before.cause.ok

pub returns-in_err-text-clause-reads : goal.returns-in_err-text-clause-reads
returns-in_err-text-clause-reads g c =
    let before = c.in_ok-id.ensures.reads in
    let codings = (TheImpl.ghosts g.dyn-1).codings c.args.self.now.compressors.now in
    reads_passed g.E.Env c.from_residual-in_err-text.result before.kept_disk before.cause.ok c.from_residual-in_err-text.ensures.1 (⊎_elim (λ memory. inl memory) (λ why. inr (undecoded_error g.E.Env codings (λ bytes has same. subst (λ found. MatchOption found (StoresNothing bytes c.args.location) (λ there. StoresAt bytes c.args.location there.0 there.1.items)) c.in-Some.is (c.in_ok-id.ensures.ok bytes has same)) _ why)) c.in_err-text.ensures.cause)

pub returns-in_err-text-clause-ok : goal.returns-in_err-text-clause-ok
returns-in_err-text-clause-ok g c = IfOk-from_err _ _ c.from_residual-in_err-text.ensures.0

pub returns-in_err-text-clause-order : goal.returns-in_err-text-clause-order
returns-in_err-text-clause-order g c = IfOk-from_err _ _ c.from_residual-in_err-text.ensures.0

pub returns-in_err-text-clause-encoded : goal.returns-in_err-text-clause-encoded
returns-in_err-text-clause-encoded g c = IfOk-from_err _ _ c.from_residual-in_err-text.ensures.0

pub returns-in-Ok-clause-reads : goal.returns-in-Ok-clause-reads
returns-in-Ok-clause-reads g c =
    let before = c.in_ok-id.ensures.reads in
    reads_ok g.E.Env before.kept_disk before.cause.ok

pub returns-in-Ok-clause-order : goal.returns-in-Ok-clause-order
returns-in-Ok-clause-order g c = c.in-Ok.ensures.same_order

pub returns-in-Ok-clause-encoded : goal.returns-in-Ok-clause-encoded
returns-in-Ok-clause-encoded g c = c.in-Ok.ensures.encoded

pub returns-in-Err-clause-reads : goal.returns-in-Err-clause-reads
returns-in-Err-clause-reads g c =
    let before = c.in_ok-id.ensures.reads in
    reads_ok g.E.Env before.kept_disk before.cause.ok

pub returns-in-Ok-clause-ok : goal.returns-in-Ok-clause-ok
returns-in-Ok-clause-ok g c =
    λ bytes has same. subst (λ text. HasBlockAt (Decodes ((TheImpl.ghosts g.dyn-1).codings c.args.self.now.compressors.now)) bytes c.args.location text) (sym c.in-Ok.ensures.same_contents)
    (record {
      id = c.in-Some.id;
      stored = c.in-Some.stored.items;
      is_there = subst (λ found. MatchOption found (StoresNothing bytes c.args.location) (λ there. StoresAt bytes c.args.location there.0 there.1.items)) c.in-Some.is (c.in_ok-id.ensures.ok bytes has same);
      decoded = c.in_ok-text.ensures.ok;
    })
