use Rattle.std.proofs.Common.{◌≡◌, [], List, ℕ, sym, subst, arith}
use Rattle.std.proofs.lemmas.Bool.{iff_false}
use Rattle.leveldb_mem.specs.Placed.{rank}
use Rattle.leveldb_base.specs.Entries.{lookup_of, value_of}
use Rattle.leveldb_base.specs.declared.types.Lookup.{Lookup}
use Rattle.leveldb_mem.specs.MemTable.{entries_of_keys, IsFoundAt}
use Rattle.leveldb_mem.proofs.MemTableLemmas.{length-walked, gives_other, gives_read}
use Rattle.leveldb_mem.proofs.memtable.MemTable.given_at.Goals as goal

pub split_entry-parts-requires : goal.split_entry-parts-requires
split_entry-parts-requires g c =
    let it = c.self.inside.map in
    let there = rw (← c.self.view_is) at c.requires in
    let pair = c.self.invariant.0 (rank it.nodes c.args.node) ([], []) (omega (arith, there, length-walked it.pairs)) in
    rw c.key.ensures pair.0

pub returns-then-is_same : goal.returns-then-is_same
returns-then-is_same g c =
    let it = c.self.inside.map in
    let there = rw (← c.self.view_is) at c.requires in
    let parts = c.split_entry-parts in
    let parsed = c.parse_internal_key-parsed in
    let same : parsed.result.2.now ≡ c.args.key.now = c.is_same.ensures.0 c.if-is_same.true in
    let given = gives_read it.pairs (rank it.nodes c.args.node) (omega (arith, there, length-walked it.pairs)) c.key.result.now c.key.ensures parts.result.0.now parts.ensures.internal parsed.result.2.now parsed.ensures.user
    parts.result.1.now parsed.result.0 parsed.ensures.kind parts.ensures.value in
    rw (← c.self.view_is)
    (subst (λ (found : Lookup (List ℕ)). IsFoundAt (entries_of_keys it.pairs) (rank it.nodes c.args.node) c.args.key.now found) (sym c.said.ensures)
    (subst (λ (k : List ℕ). IsFoundAt (entries_of_keys it.pairs) (rank it.nodes c.args.node) k (lookup_of (value_of parsed.result.0 parts.result.1.now))) same given))

pub returns : goal.returns
returns g c =
    let it = c.self.inside.map in
    let there = rw (← c.self.view_is) at c.requires in
    let parts = c.split_entry-parts in
    let parsed = c.parse_internal_key-parsed in
    rw (← c.self.view_is) (gives_other it.pairs (rank it.nodes c.args.node) (omega (arith, there, length-walked it.pairs)) c.key.result.now c.key.ensures parts.result.0.now parts.ensures.internal parsed.result.2.now
    parsed.ensures.user c.args.key.now (iff_false c.is_same.ensures c.if-is_same.false))
