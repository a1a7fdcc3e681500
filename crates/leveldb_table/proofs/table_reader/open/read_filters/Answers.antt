use Rattle.std.proofs.Common.{◌≢◌, Some, ap, ◌∙◌, subst, ⊎_elim, arith, refl, inl}
use Rattle.std.proofs.lemmas.Result.{IfOk-from_err}
use Rattle.leveldb_table.specs.Table.{filter_key}
use Rattle.leveldb_table.specs.TableReader.{GivesHandle, value_under}
use Rattle.leveldb_table.proofs.TableReaderLemmas.{filters_lacking}
use Rattle.leveldb_table.proofs.TableBlockLemmas.{reads_weaker, reads_refused, KeepsDisk-refl, reads_own, reads_ok}
use Rattle.leveldb_table.proofs.table_reader.open.read_filters.Goals as goal

pub returns-in_err-read_filter_block-clause-reads : goal.returns-in_err-read_filter_block-clause-reads
returns-in_err-read_filter_block-clause-reads g c =
    let metas = c.args.metas.now in
    let key = c.as_bytes.ensures.value ∙ c.in_ok-key.ensures.ok ∙ ap filter_key c.name-name.ensures in
    let says = subst (λ k. GivesHandle (value_under k metas) (Some c.in-Some.handle)) key
    (subst (λ h. GivesHandle (value_under c.as_bytes.result.now metas) h) c.in-Some.is c.in_ok-handle.ensures.ok) in
    let some : c.in-Some.handle.size ≢ 0 = λ none. omega (arith, none) in
    reads_weaker g.E.Env c.from_residual-in_err-read_filter_block.result (λ status why. ⊎_elim
    (λ none. absurd (some none.1))
    (λ damaged. (damaged.0, λ bytes has. filters_lacking bytes (value_under (filter_key (g.FP.FilterPolicy.name c.args.policy)) metas) c.in-Some.handle says some (damaged.1 bytes has)))
    why)
    (reads_refused g.E.Env c.from_residual-in_err-read_filter_block.result c.from_residual-in_err-read_filter_block.ensures.1 c.in_err-read_filter_block.ensures.reads)

pub returns-in_err-key-clause-reads : goal.returns-in_err-key-clause-reads
returns-in_err-key-clause-reads g c = reads_own g.E.Env c.from_residual.result (KeepsDisk-refl g.E.Env c.args.env.now) refl c.from_residual.ensures.1 (λ status memory. inl memory)

pub returns-in_err-key-clause-ok : goal.returns-in_err-key-clause-ok
returns-in_err-key-clause-ok g c = IfOk-from_err _ _ c.from_residual.ensures.0

pub returns-in_err-key-clause-policy : goal.returns-in_err-key-clause-policy
returns-in_err-key-clause-policy g c = IfOk-from_err _ _ c.from_residual.ensures.0

pub returns-in_err-handle-clause-ok : goal.returns-in_err-handle-clause-ok
returns-in_err-handle-clause-ok g c = IfOk-from_err _ _ c.from_residual-in_err-handle.ensures.0

pub returns-in_err-handle-clause-policy : goal.returns-in_err-handle-clause-policy
returns-in_err-handle-clause-policy g c = IfOk-from_err _ _ c.from_residual-in_err-handle.ensures.0

pub returns-in_default-clause-reads : goal.returns-in_default-clause-reads
returns-in_default-clause-reads g c = reads_ok g.E.Env (KeepsDisk-refl g.E.Env c.args.env.now) refl

pub returns-then-size-eq0-clause-reads : goal.returns-then-size-eq0-clause-reads
returns-then-size-eq0-clause-reads g c = reads_ok g.E.Env (KeepsDisk-refl g.E.Env c.args.env.now) refl

pub returns-in_err-read_filter_block-clause-ok : goal.returns-in_err-read_filter_block-clause-ok
returns-in_err-read_filter_block-clause-ok g c = IfOk-from_err _ _ c.from_residual-in_err-read_filter_block.ensures.0

pub returns-in_err-read_filter_block-clause-policy : goal.returns-in_err-read_filter_block-clause-policy
returns-in_err-read_filter_block-clause-policy g c = IfOk-from_err _ _ c.from_residual-in_err-read_filter_block.ensures.0

pub returns-clause-reads : goal.returns-clause-reads
returns-clause-reads g c =
    let read = c.in_ok-read_filter_block.ensures.reads in
    reads_ok g.E.Env read.kept_disk read.cause.ok

pub returns-clause-policy : goal.returns-clause-policy
returns-clause-policy g c = c.in_ok-read_filter_block.ensures.policy
