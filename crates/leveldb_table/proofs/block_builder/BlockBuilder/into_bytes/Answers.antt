use Rattle.std.proofs.Common.{length, ◌∙◌, ap}
use Rattle.leveldb_table.proofs.BlockBuilderLemmas.{built_encoded, built_made, block_size}
use Rattle.leveldb_table.proofs.block_builder.BlockBuilder.into_bytes.Goals as goal

pub returns-clause-ok : goal.returns-clause-ok
returns-clause-ok g c = rw (← c.self.view_is) (built_made c.self.inside.built.1 (built_encoded c.self.inside.built.1 c.put_points.new.buffer.items c.in_ok-put_points.ensures.ok))

pub returns-clause-encoded : goal.returns-clause-encoded
returns-clause-encoded g c = rw (← c.self.view_is) (built_encoded c.self.inside.built.1 c.put_points.new.buffer.items c.in_ok-put_points.ensures.ok)

pub returns-clause-size : goal.returns-clause-size
returns-clause-size g c =
    let encoded = built_encoded c.self.inside.built.1 c.put_points.new.buffer.items c.in_ok-put_points.ensures.ok in
    rw (← c.self.view_is) (ap length encoded.encoded ∙ block_size c.self.inside.built.0)
