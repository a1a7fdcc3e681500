use Rattle.std.proofs.Common.{◌∙◌, ap, None}
use Rattle.leveldb_table.specs.Block.{pairs_of}
use Rattle.leveldb_table.specs.BlockBuilder.{last_added}
use Rattle.leveldb_table.proofs.BlockBuilderLemmas.{last_there}
use Rattle.leveldb_table.proofs.block_builder.BlockBuilder.last_key.Goals as goal

pub returns-clause-last : goal.returns-clause-last
returns-clause-last g c = c.as_slice.ensures.value ∙ last_there c.self.inside.count c.self.inside.built.1 ∙ ap (λ builder. last_added (pairs_of None builder.entries)) c.self.view_is

pub returns-clause-rising : goal.returns-clause-rising
returns-clause-rising g c = rw (← c.self.view_is) c.self.inside.built.1.sorted
