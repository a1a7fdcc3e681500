use Rattle.std.proofs.Common.{◌<◌, [], Some, length, sym, ◌∙◌, ap, arith}
use Rattle.leveldb_base.specs.KeyTypes.{front_key}
use Rattle.leveldb_mem.specs.Placed.{rank}
use Rattle.leveldb_mem.specs.MemTable.{inner_value}
use Rattle.leveldb_mem.proofs.MemTableLemmas.{length-walked, walked_at}
use Rattle.leveldb_mem.proofs.memtable.MemTable.pair.Goals as goal

pub split_entry-requires : goal.split_entry-requires
split_entry-requires g c =
    let it = c.self.inside.map in
    let there = rw (← c.self.view_is) at c.requires in
    let pair = c.self.invariant.0 (rank it.nodes c.args.node) ([], []) (omega (arith, there, length-walked it.pairs)) in
    rw c.key.ensures pair.0

pub returns : goal.returns
returns g c =
    let it = c.self.inside.map in
    let there = rw (← c.self.view_is) at c.requires in
    let within : rank it.nodes c.args.node < length it.pairs = omega (arith, there, length-walked it.pairs) in
    let key = ap front_key (sym c.key.ensures) ∙ sym c.split_entry.ensures.internal in
    let value = ap inner_value (sym c.key.ensures) ∙ sym c.split_entry.ensures.value in
    rw (← c.self.view_is) (walked_at it.pairs (rank it.nodes c.args.node) within c.self.invariant.0 ∙ (λ j. Some (key j, value j)))
