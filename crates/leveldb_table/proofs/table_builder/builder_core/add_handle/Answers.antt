use Rattle.std.proofs.Common.{arith, take, ◌≡◌, ◌∙◌, ◌++◌, ◌∷◌, [], None, ap, sym}
use Rattle.std.proofs.lemmas.List.{take_at}
use Rattle.leveldb_base.specs.BlockHandle.{handle_bytes}
use Rattle.leveldb_base.proofs.BlockHandleLemmas.{length-handle_bytes}
use Rattle.leveldb_table.specs.Block.{pairs_of}
use Rattle.leveldb_table.proofs.TableLemmas.{OnOk-with}
use Rattle.leveldb_table.proofs.TableBuilderAddLemmas.{begun_kept}
use Rattle.leveldb_table.proofs.table_builder.builder_core.add_handle.Goals as goal

pub encode_to-used-requires : goal.encode_to-used-requires
encode_to-used-requires g c = λ fits. let n = length-handle_bytes c.args.handle fits in omega (arith, n)

pub returns-clause-ok : goal.returns-clause-ok
returns-clause-ok g c =
    let used = c.encode_to-used.result in
    let text : take used c.encode_to-used.new.dst ≡ handle_bytes c.args.handle =
    ap (take used) c.encode_to-used.ensures.written ∙ take_at (handle_bytes c.args.handle) _ used (sym c.encode_to-used.ensures.used) in
    OnOk-with c.add.result _ _ (λ added. added.0.pairs ∙ ap (λ value. pairs_of None c.args.index.now.entries ++ (c.args.key.now, value) ∷ []) text) c.add.ensures.ok

pub returns-clause-begun : goal.returns-clause-begun
returns-clause-begun g c = begun_kept _ _ c.add.result c.add.ensures.ok c.add.ensures.err
