use Rattle.std.proofs.Common.{◌≡◌, ◌∙◌, ◌++◌, [], List, ap, option_map, subst, sym}
use Rattle.leveldb_base.proofs.EntriesLemmas.{absent_copied, absent_is, finds_after}
use Rattle.leveldb_base.proofs.HistoryLemmas.{in_none}
use Rattle.leveldb_base.proofs.LayersLemmas.{finds_first}
use Rattle.leveldb_base.specs.Entries.{FindsNewest, lookup_copied}
use Rattle.leveldb_base.specs.History.{Entry}
use Rattle.leveldb_base.specs.declared.types.Lookup.TheVariants.{Absent}
use Rattle.leveldb_store.specs.Keeping.Written.{imm_entries}
use Rattle.leveldb_store.proofs.open_store.OpenStore.newest_in_memory.Goals as goal

pub returns-then-not-is_absent : goal.returns-then-not-is_absent
returns-then-not-is_absent g c = λ older.
    let value = c.args.self.now in
    let found = lookup_copied c.newest_up_to-mem.result in
    let here = subst (λ (es : List Entry). FindsNewest es c.args.sequence c.args.key.now found) (ap (λ v. v.mem.entries) c.self.view_is) c.newest_up_to-mem.ensures in
    finds_first value.mem.entries (imm_entries value.imm) c.args.sequence c.args.key.now found
    (absent_copied c.newest_up_to-mem.result ∙ (sym c.is_absent.ensures ∙ c.if-not-is_absent.true)) older here

pub returns-in-Some : goal.returns-in-Some
returns-in-Some g c = λ older.
    let value = c.args.self.now in
    let key = c.args.key.now in
    let mem = lookup_copied c.newest_up_to-mem.result in
    let found = lookup_copied c.newest_up_to.result in
    let absent = absent_is mem (absent_copied c.newest_up_to-mem.result ∙ (sym c.is_absent.ensures ∙ c.if-not-is_absent.false)) in
    let none = subst (λ (es : List Entry). FindsNewest es c.args.sequence key Absent) (ap (λ v. v.mem.entries) c.self.view_is)
    (subst (FindsNewest _ c.args.sequence key) absent c.newest_up_to-mem.ensures) in
    let entries : c.in-Some.imm.kept.entries ≡ imm_entries value.imm =
    ap (λ o. imm_entries (option_map (λ memtable. memtable.kept) o)) (sym c.in-Some.is) ∙ ap (λ v. imm_entries v.imm) c.self.view_is in
    let some = subst (λ (es : List Entry). FindsNewest es c.args.sequence key found) entries c.newest_up_to.ensures in
    finds_after value.mem.entries (imm_entries value.imm) c.args.sequence key found none some

pub returns-in-None : goal.returns-in-None
returns-in-None g c = λ older.
    let value = c.args.self.now in
    let key = c.args.key.now in
    let layer = imm_entries value.imm in
    let mem = lookup_copied c.newest_up_to-mem.result in
    let absent = absent_is mem (absent_copied c.newest_up_to-mem.result ∙ (sym c.is_absent.ensures ∙ c.if-not-is_absent.false)) in
    let none = subst (λ (es : List Entry). FindsNewest es c.args.sequence key Absent) (ap (λ v. v.mem.entries) c.self.view_is)
    (subst (FindsNewest _ c.args.sequence key) absent c.newest_up_to-mem.ensures) in
    let entries : [] ≡ layer = ap (λ o. imm_entries (option_map (λ memtable. memtable.kept) o)) (sym c.in-None.is) ∙ ap (λ v. imm_entries v.imm) c.self.view_is in
    let empty = subst (λ (es : List Entry). FindsNewest es c.args.sequence key Absent) entries (λ entry there named below. in_none entry there) in
    subst (FindsNewest (value.mem.entries ++ layer) c.args.sequence key) (sym absent) (finds_after value.mem.entries layer c.args.sequence key Absent none empty)
