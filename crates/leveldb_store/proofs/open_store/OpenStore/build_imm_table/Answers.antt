use Rattle.std.proofs.Common.{◌≡◌, ◌∙◌, sym}
use Rattle.leveldb_store.proofs.open_store.OpenStore.build_imm_table.Goals as goal

pub returns-clause-makes : goal.returns-clause-makes
returns-clause-makes g c =
    let named : c.deref.result.now ≡ c.self.inside.versions.set.store = c.deref.ensures ∙ sym c.self.invariant.0 in
    rw (← c.self.view_is, c.in-Some.is) (rw named at c.build_memtable.ensures.makes)

pub returns-clause-rising : goal.returns-clause-rising
returns-clause-rising g c = rw (← c.self.view_is, c.in-Some.is) c.build_memtable.ensures.rising
