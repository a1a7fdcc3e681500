use Rattle.std.proofs.Common.{length, ap, ◌∙◌}
use Rattle.leveldb_env.specs.Filter.{keys_at}
use Rattle.leveldb_env.proofs.FilterBlockLemmas.{length-offsets}
use Rattle.leveldb_env.proofs.filter_block.texts.Texts.len.Goals as goal

pub returns : goal.returns
returns c =
    let it = c.self.inside in
    c.len.ensures ∙ it.offsets.ok.0 ∙ ap length c.self.invariant.placed ∙ length-offsets 0 (keys_at it.offsets.items it.bytes.items) ∙ ap length c.self.view_is
