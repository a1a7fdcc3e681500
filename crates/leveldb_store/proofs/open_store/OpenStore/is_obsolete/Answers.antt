use Rattle.leveldb_store.proofs.Keeping.RemoveLemmas.{lacks}
use Rattle.leveldb_store.proofs.open_store.OpenStore.is_obsolete.Goals as goal

pub returns-in-Table : goal.returns-in-Table
returns-in-Table g c =
    rw c.in-Table.is (lacks c.args.self.now.set.full.added c.args.live.now c.requires c.args.number c.contains.result c.contains.ensures)
