use Rattle.std.proofs.Common.{ℕ, sym, ◌∙◌, subst, Err, inl, inr, ⊎_elim, refl}
use Rattle.std.proofs.lemmas.Result.{IfOk-from_err}
use Rattle.leveldb_env.specs.FilterBlock.{IsFilterBlock}
use Rattle.leveldb_table.proofs.TableBlockLemmas.{damaged_or_memory, located_as, reads_ok, reads_own, reads_weaker, reads_refused, KeepsDisk-refl}
use Rattle.leveldb_table.proofs.TableLemmas.{stores_one}
use Rattle.leveldb_table.proofs.RefusalLemmas.{IfOk-refused}
use Rattle.leveldb_table.proofs.table_block.read_filter_block.Goals as goal

pub returns-in_err-id-clause-reads : goal.returns-in_err-id-clause-reads
returns-in_err-id-clause-reads g c =
    reads_refused g.E.Env c.from_residual.result c.from_residual.ensures.1
    (reads_weaker g.E.Env _ (λ status damaged. inr (damaged.0, λ bytes has text filters there block. damaged.1 bytes has 0 text there)) c.in_err-id.ensures.reads)

pub returns-then-id-ne0-clause-reads : goal.returns-then-id-ne0-clause-reads
returns-then-id-ne0-clause-reads g c =
    let before = c.in_ok-id.ensures.reads in
    reads_own g.E.Env c.corruption.result before.kept_disk before.cause.ok c.corruption.ensures
    (λ status code. inr (inr (code, λ bytes has text filters there block. absurd (c.if-id-ne0.true (stores_one (c.in_ok-id.ensures.ok bytes has) there).0))))

pub returns-in-Ok-clause-reads : goal.returns-in-Ok-clause-reads
returns-in-Ok-clause-reads g c =
    let before = c.in_ok-id.ensures.reads in
    reads_ok g.E.Env before.kept_disk before.cause.ok

pub returns-in-Err-clause-reads : goal.returns-in-Err-clause-reads
returns-in-Err-clause-reads g c =
    let before = c.in_ok-id.ensures.reads in
    let found = damaged_or_memory {T = ℕ} (Err c.in-Err.status) c.in-Err.ensures.damage c.in-Err.ensures.cause in
    reads_own g.E.Env c.located.result before.kept_disk before.cause.ok c.located.ensures (λ status how.
    ⊎_elim (λ memory. inl memory) (λ damaged. inr (inr (
      damaged.0,
      λ bytes has text filters there block.
          damaged.1 filters (subst (λ z. IsFilterBlock z filters) (sym (stores_one (c.in_ok-id.ensures.ok bytes has) there).1 ∙ sym c.in_ok-freeze.ensures.ok) block),
    ))) (located_as how found))

pub returns-then-size-eq0-clause-ok : goal.returns-then-size-eq0-clause-ok
returns-then-size-eq0-clause-ok g c = IfOk-refused _ _ c.err.result c.err.ensures.code

pub returns-then-size-eq0-clause-policy : goal.returns-then-size-eq0-clause-policy
returns-then-size-eq0-clause-policy g c = IfOk-refused _ _ c.err.result c.err.ensures.code

pub returns-in_err-id-clause-ok : goal.returns-in_err-id-clause-ok
returns-in_err-id-clause-ok g c = IfOk-from_err _ _ c.from_residual.ensures.0

pub returns-in_err-id-clause-policy : goal.returns-in_err-id-clause-policy
returns-in_err-id-clause-policy g c = IfOk-from_err _ _ c.from_residual.ensures.0

pub returns-then-id-ne0-clause-ok : goal.returns-then-id-ne0-clause-ok
returns-then-id-ne0-clause-ok g c = IfOk-refused _ _ c.corruption.result c.corruption.ensures

pub returns-then-id-ne0-clause-policy : goal.returns-then-id-ne0-clause-policy
returns-then-id-ne0-clause-policy g c = IfOk-refused _ _ c.corruption.result c.corruption.ensures

pub returns-in-Ok-clause-policy : goal.returns-in-Ok-clause-policy
returns-in-Ok-clause-policy g c = c.in-Ok.ensures.policy

pub returns-in-Err-clause-ok : goal.returns-in-Err-clause-ok
returns-in-Err-clause-ok g c = IfOk-refused _ _ c.located.result c.located.ensures

pub returns-in-Err-clause-policy : goal.returns-in-Err-clause-policy
returns-in-Err-clause-policy g c = IfOk-refused _ _ c.located.result c.located.ensures

pub returns-in_err-id-clause-none : goal.returns-in_err-id-clause-none
returns-in_err-id-clause-none g c = λ none. absurd (c.if-size-eq0.false (c.size.ensures ∙ none))

pub returns-then-id-ne0-clause-none : goal.returns-then-id-ne0-clause-none
returns-then-id-ne0-clause-none g c = λ none. absurd (c.if-size-eq0.false (c.size.ensures ∙ none))

pub returns-in-Ok-clause-none : goal.returns-in-Ok-clause-none
returns-in-Ok-clause-none g c = λ none. absurd (c.if-size-eq0.false (c.size.ensures ∙ none))

pub returns-in-Err-clause-none : goal.returns-in-Err-clause-none
returns-in-Err-clause-none g c = λ none. absurd (c.if-size-eq0.false (c.size.ensures ∙ none))

pub returns-in_err-freeze-clause-none : goal.returns-in_err-freeze-clause-none
returns-in_err-freeze-clause-none g c = λ none. absurd (c.if-size-eq0.false (c.size.ensures ∙ none))

pub returns-then-size-eq0-clause-none : goal.returns-then-size-eq0-clause-none
returns-then-size-eq0-clause-none g c = λ none. c.err.ensures.code

pub returns-then-size-eq0-clause-reads : goal.returns-then-size-eq0-clause-reads
returns-then-size-eq0-clause-reads g c = reads_own g.E.Env c.err.result (KeepsDisk-refl g.E.Env c.args.env.now) refl c.err.ensures.code (λ status code. inr (inl (code, sym c.size.ensures ∙ c.if-size-eq0.true)))

pub returns-in_err-freeze-clause-reads : goal.returns-in_err-freeze-clause-reads
returns-in_err-freeze-clause-reads g c =
    let before = c.in_ok-id.ensures.reads in
    reads_own g.E.Env c.from_residual-in_err-freeze.result before.kept_disk before.cause.ok c.from_residual-in_err-freeze.ensures.1 (λ status memory. inl memory)

pub returns-in_err-freeze-clause-ok : goal.returns-in_err-freeze-clause-ok
returns-in_err-freeze-clause-ok g c = IfOk-from_err _ _ c.from_residual-in_err-freeze.ensures.0

pub returns-in_err-freeze-clause-policy : goal.returns-in_err-freeze-clause-policy
returns-in_err-freeze-clause-policy g c = IfOk-from_err _ _ c.from_residual-in_err-freeze.ensures.0
