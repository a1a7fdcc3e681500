use Rattle.std.proofs.Common.{◌∙◌, sym, arith, ap, length}
use Rattle.leveldb_base.specs.Varint.{sized}
use Rattle.leveldb_base.proofs.KeyTypesLemmas.{front_key-read}
use Rattle.leveldb_mem.proofs.MemTableLemmas.{length-front_key, read_value, first_there, second_there}
use Rattle.leveldb_mem.proofs.memtable.split_entry.Goals as goal

pub front_text-first-requires : goal.front_text-first-requires
front_text-first-requires c = let there = first_there c.args.key.now c.requires in (there.0, sized there.1, there.2)

pub front_text-second-requires : goal.front_text-second-requires
front_text-second-requires c = second_there c.args.key.now c.front_text-first.result.0.now c.front_text-first.result.1.now c.requires c.front_text-first.ensures

pub returns-clause-internal : goal.returns-clause-internal
returns-clause-internal c = sym (front_key-read c.args.key.now c.front_text-first.result.0.now c.front_text-first.result.1.now c.front_text-first.ensures)

pub returns-clause-long : goal.returns-clause-long
returns-clause-long c =
    let inner = front_key-read c.args.key.now c.front_text-first.result.0.now c.front_text-first.result.1.now c.front_text-first.ensures in
    omega (arith, ap length inner, length-front_key c.args.key.now c.requires)

pub returns-clause-value : goal.returns-clause-value
returns-clause-value c =
    sym (read_value c.args.key.now c.front_text-first.result.0.now c.front_text-first.result.1.now c.front_text-first.ensures
    ∙ front_key-read c.front_text-first.result.1.now c.front_text-second.result.0.now c.front_text-second.result.1.now c.front_text-second.ensures)
