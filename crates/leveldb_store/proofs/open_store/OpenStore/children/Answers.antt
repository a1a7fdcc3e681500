use Rattle.std.proofs.Common.{◌≡◌, ℕ, ◌∷◌, [], ◌++◌, List, Option, Some, None, IfSome, map, refl, sym, ap, subst, ◌∙◌}
use Rattle.std.specs.Option.{option_map}
use Rattle.std.specs.declared.cmp.Ordering.{Ordering}
use Rattle.leveldb_base.specs.Entries.{internal_pair}
use Rattle.leveldb_base.specs.History.{AreRising, AreUpTo, Entry}
use Rattle.leveldb_base.specs.KeyTypes.{greatest_sequence, internal_cmp}
use Rattle.leveldb_base.specs.declared.cmp.Cmp.{Ghosts as CmpGhosts}
use Rattle.leveldb_base.specs.declared.types.LdbIterator.{Ghosts as IteratorGhosts}
use Rattle.leveldb_iter.specs.declared.in_memory.InMemory.{InMemory}
use Rattle.leveldb_mem.specs.MemTable.{Kept, MemTableState}
use Rattle.leveldb_files.specs.Stores.Batches.{Each}
use Rattle.leveldb_version.specs.Walks.VersionIters.{AreVersionIters}
use Rattle.leveldb_version.specs.declared.version_iter.VersionIter.{VersionIter}
use Rattle.leveldb_store.specs.Keeping.OpenStore.{OpenStoreValue}
use Rattle.leveldb_store.specs.Reading.View.{AreChildrenOf, IsOverMemory, imm_layers}
use Rattle.leveldb_store.specs.declared.store_walk.StoreWalk.{StoreWalk}
use Rattle.leveldb_store.specs.declared.store_walk.StoreWalk.TheVariants.{Memory, Tables}
use Rattle.leveldb_store.proofs.Keeping.CurrentVersionLemmas.{current_by}
use Rattle.leveldb_store.proofs.open_store.OpenStore.children.Goals.{in-Some+in_ok-push-2, in_default}
use Rattle.std.proofs.lemmas.Result.{IfOk-from_err}
use Rattle.leveldb_store.proofs.open_store.OpenStore.children.Goals as goal

-- a walk over a memtable of the store's order
over_memtable : {C M : Type 0} (iterator : IteratorGhosts M) (cmp : CmpGhosts C) (it : InMemory M) (own order : C) (entries : List Entry) → own ≡ order
    → iterator.pairs it.0 ≡ map internal_pair entries → iterator.order it.0 ≡ internal_cmp (cmp.cmp own) → AreRising (internal_cmp (cmp.cmp own)) (map internal_pair entries)
    → AreUpTo greatest_sequence entries → IsOverMemory iterator (cmp.cmp order) it entries
over_memtable iterator cmp it own order entries same pairs order_is sorted numbered = subst (λ c. IsOverMemory iterator (cmp.cmp c) it entries) same (record {
  pairs_are = pairs;
  order_is = order_is;
  sorted = sorted;
  numbered = numbered;
})

-- the walks over what is in memory and those over tables
children_are : {C M : Type 0} (iterator : IteratorGhosts M) (cmp : List ℕ → List ℕ → Ordering) (value : OpenStoreValue C)
    (mem : InMemory M) (waits : List (InMemory M)) (iters : List (VersionIter C)) (before children : List (StoreWalk C M))
    → IsOverMemory iterator cmp mem value.mem.entries → Each (IsOverMemory iterator cmp) waits (imm_layers value.imm) → AreVersionIters value.current iters
    → before ≡ Memory mem ∷ map Memory waits → children ≡ before ++ map Tables iters → AreChildrenOf iterator cmp value children
children_are iterator cmp value mem waits iters before children over_mem over_waits over_tables begin is = record {
  memory = mem ∷ waits;
  over_memory = (over_mem, over_waits);
  tables = iters;
  over_tables = over_tables;
  are = is ∙ ap (λ walks. walks ++ map Tables iters) begin;
}

waits_none : {M : Type 0} (iterator : IteratorGhosts M) (cmp : List ℕ → List ℕ → Ordering) (imm : Option Kept) → imm ≡ None → Each (IsOverMemory iterator cmp) [] (imm_layers imm)
waits_none iterator cmp None is = tt
waits_none iterator cmp (Some kept) is = absurd cc

children_alone : {C M : Type 0} (iterator : IteratorGhosts M) (cmp : List ℕ → List ℕ → Ordering) (value : OpenStoreValue C)
    (mem : InMemory M) (iters : List (VersionIter C)) (before children : List (StoreWalk C M))
    → IsOverMemory iterator cmp mem value.mem.entries → value.imm ≡ None → AreVersionIters value.current iters
    → before ≡ Memory mem ∷ [] → children ≡ before ++ map Tables iters → AreChildrenOf iterator cmp value children
children_alone iterator cmp value mem iters before children over_mem none =
    children_are iterator cmp value mem [] iters before children over_mem (waits_none iterator cmp value.imm none)

waits_one : {C M : Type 0} (iterator : IteratorGhosts M) (cmp : CmpGhosts C) (order : C) (it : InMemory M) (imm : Option (MemTableState C)) (memtable : MemTableState C)
    → imm ≡ Some memtable → IfSome imm (λ one. one.cmp ≡ order)
    → iterator.pairs it.0 ≡ map internal_pair memtable.kept.entries → iterator.order it.0 ≡ internal_cmp (cmp.cmp memtable.cmp)
    → AreRising (internal_cmp (cmp.cmp memtable.cmp)) (map internal_pair memtable.kept.entries) → AreUpTo greatest_sequence memtable.kept.entries
    → Each (IsOverMemory iterator (cmp.cmp order)) (it ∷ []) (imm_layers (option_map (λ one. one.kept) imm))
waits_one iterator cmp order it imm memtable is same pairs order_is sorted numbered =
    subst (λ o. IfSome o (λ one. one.cmp ≡ order) → Each (IsOverMemory iterator (cmp.cmp order)) (it ∷ []) (imm_layers (option_map (λ one. one.kept) o))) (sym is)
    (λ own. (over_memtable iterator cmp it memtable.cmp order memtable.kept.entries own pairs order_is sorted numbered, tt)) same

one_more : {A : Type 0} (old new : List A) (x : A) → new ≡ old ++ x ∷ [] → old ≡ [] → new ≡ x ∷ []
one_more old new x more none = more ∙ ap (λ l. l ++ x ∷ []) none

two_more : {A : Type 0} (old mid new : List A) (x y : A) → new ≡ mid ++ y ∷ [] → mid ≡ old ++ x ∷ [] → old ≡ [] → new ≡ x ∷ y ∷ []
two_more old mid new x y more first none = more ∙ ap (λ l. l ++ y ∷ []) (one_more old mid x first none)

pub returns-in_err-push-clause-given : goal.returns-in_err-push-clause-given
returns-in_err-push-clause-given g c = rw (← c.self.view_is) c.self.invariant.9

pub returns-in_err-push-2-clause-given : goal.returns-in_err-push-2-clause-given
returns-in_err-push-2-clause-given g c = rw (← c.self.view_is) c.self.invariant.9

pub returns-in_err-new_iters-clause-given : goal.returns-in_err-new_iters-clause-given
returns-in_err-new_iters-clause-given g c = rw (← c.self.view_is) c.self.invariant.9

pub returns-in_err-push_tables-clause-given : goal.returns-in_err-push_tables-clause-given
returns-in_err-push_tables-clause-given g c = rw (← c.self.view_is) c.self.invariant.9

pub returns-clause-given : goal.returns-clause-given
returns-clause-given g c = rw (← c.self.view_is) c.self.invariant.9

pub returns-in_err-push-clause-current : goal.returns-in_err-push-clause-current
returns-in_err-push-clause-current g c =
    rw (← c.self.view_is) (current_by g.C.Cmp c.self.invariant.8 c.current-version.ensures.current)

pub returns-in_err-push-2-clause-current : goal.returns-in_err-push-2-clause-current
returns-in_err-push-2-clause-current g c =
    rw (← c.self.view_is) (current_by g.C.Cmp c.self.invariant.8 c.current-version.ensures.current)

pub returns-in_err-new_iters-clause-current : goal.returns-in_err-new_iters-clause-current
returns-in_err-new_iters-clause-current g c =
    rw (← c.self.view_is) (current_by g.C.Cmp c.self.invariant.8 c.current-version.ensures.current)

pub returns-in_err-push_tables-clause-current : goal.returns-in_err-push_tables-clause-current
returns-in_err-push_tables-clause-current g c =
    rw (← c.self.view_is) (current_by g.C.Cmp c.self.invariant.8 c.current-version.ensures.current)

pub returns-clause-current : goal.returns-clause-current
returns-clause-current g c =
    rw (← c.self.view_is) (current_by g.C.Cmp c.self.invariant.8 c.current-version.ensures.current)

pub returns-clause-ok : goal.returns-clause-ok
returns-clause-ok g c =
    rw (← c.self.view_is)
    (elim c.match-self.branch [
      | in-Some+in_ok-push-2 w ↦ children_are _ _ _ (record { 0 = c.iter.result }) (record { 0 = w.iter-in-Some.result } ∷ []) c.in_ok-new_iters.field-0.items c.match-self.children.items c.push_tables.new.children.items
          (over_memtable _ g.C.Cmp _ c.self.inside.mem.cmp c.self.inside.cmp c.self.inside.mem.kept.entries c.self.invariant.2 c.iter.ensures.pairs c.iter.ensures.order c.iter.ensures.sorted c.iter.ensures.numbered)
          (waits_one _ g.C.Cmp c.self.inside.cmp _ c.self.inside.imm w.in-Some.imm w.in-Some.is c.self.invariant.3 w.iter-in-Some.ensures.pairs w.iter-in-Some.ensures.order w.iter-in-Some.ensures.sorted w.iter-in-Some.ensures.numbered)
          (rw c.current-version.ensures.version at c.in_ok-new_iters.ensures.ok)
          (two_more c.new-children.result.items c.push.new.self.items c.match-self.children.items _ _ (ap (λ v. v.items) w.children-is ∙ w.in_ok-push-2.ensures.items) c.in_ok-push.ensures.items c.new-children.ensures.items)
          c.in_ok-push_tables.ensures.ok
      | in_default w ↦ children_alone _ _ _ (record { 0 = c.iter.result }) c.in_ok-new_iters.field-0.items c.match-self.children.items c.push_tables.new.children.items
          (over_memtable _ g.C.Cmp _ c.self.inside.mem.cmp c.self.inside.cmp c.self.inside.mem.kept.entries c.self.invariant.2 c.iter.ensures.pairs c.iter.ensures.order c.iter.ensures.sorted c.iter.ensures.numbered)
          (ap (option_map (λ one. one.kept)) w.in_default.is)
          (rw c.current-version.ensures.version at c.in_ok-new_iters.ensures.ok)
          (one_more c.new-children.result.items c.match-self.children.items _ (ap (λ v. v.items) w.children-is ∙ c.in_ok-push.ensures.items) c.new-children.ensures.items)
          c.in_ok-push_tables.ensures.ok
    ])

-- none are returned

pub returns-in_err-push-clause-ok : goal.returns-in_err-push-clause-ok
returns-in_err-push-clause-ok g c = IfOk-from_err c.from_residual.result _ c.from_residual.ensures.0

pub returns-in_err-push-2-clause-ok : goal.returns-in_err-push-2-clause-ok
returns-in_err-push-2-clause-ok g c = IfOk-from_err c.from_residual-in_err-push-2.result _ c.from_residual-in_err-push-2.ensures.0

pub returns-in_err-new_iters-clause-ok : goal.returns-in_err-new_iters-clause-ok
returns-in_err-new_iters-clause-ok g c = IfOk-from_err c.from_residual-in_err-new_iters.result _ c.from_residual-in_err-new_iters.ensures.0

pub returns-in_err-push_tables-clause-ok : goal.returns-in_err-push_tables-clause-ok
returns-in_err-push_tables-clause-ok g c = IfOk-from_err c.from_residual-in_err-push_tables.result _ c.from_residual-in_err-push_tables.ensures.0

pub returns-in_err-push-clause-levels : goal.returns-in_err-push-clause-levels
returns-in_err-push-clause-levels g c = rw (← c.self.view_is) c.self.invariant.10

pub returns-in_err-push-2-clause-levels : goal.returns-in_err-push-2-clause-levels
returns-in_err-push-2-clause-levels g c = rw (← c.self.view_is) c.self.invariant.10

pub returns-in_err-new_iters-clause-levels : goal.returns-in_err-new_iters-clause-levels
returns-in_err-new_iters-clause-levels g c = rw (← c.self.view_is) c.self.invariant.10

pub returns-in_err-push_tables-clause-levels : goal.returns-in_err-push_tables-clause-levels
returns-in_err-push_tables-clause-levels g c = rw (← c.self.view_is) c.self.invariant.10

pub returns-clause-levels : goal.returns-clause-levels
returns-clause-levels g c = rw (← c.self.view_is) c.self.invariant.10
