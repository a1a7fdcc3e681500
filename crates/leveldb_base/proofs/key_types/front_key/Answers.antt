use Rattle.std.proofs.Common.{arith, sym}
use Rattle.leveldb_base.proofs.KeyTypesLemmas.{front_key-read, front_key-unread}
use Rattle.leveldb_base.proofs.key_types.front_key.Goals as goal

pub returns-in-Some : goal.returns-in-Some
returns-in-Some c = sym (front_key-read c.args.key.now c.in-Some.key.now c.in-Some.field-0-1.now c.in-Some.ensures)

pub returns-in-None : goal.returns-in-None
returns-in-None c = sym (front_key-unread c.args.key.now (omega arith) c.in-None.ensures)
