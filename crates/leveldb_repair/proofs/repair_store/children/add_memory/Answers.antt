use Rattle.std.proofs.Common.{◌≡◌, ◌∷◌, [], ◌++◌, List, map, refl, sym, ap, subst, ◌∙◌, append-nil, take}
use Rattle.std.proofs.lemmas.List.{take_more}
use Rattle.leveldb_mem.specs.contracts.memtable.iterator.MemtableIteratorLdbIterator.TheImpl as iterating
use Rattle.leveldb_files.proofs.Stores.BatchesLemmas.{each_more}
use Rattle.leveldb_repair.specs.RepairSteps.{AreOverMemory}
use Rattle.leveldb_repair.specs.declared.found_walk.FoundWalk.TheVariants.{Memory}
use Rattle.leveldb_repair.proofs.repair_store.children.add_memory.Goals as goal

mapped_one : {X Y : Type 0} (f : X → Y) (old : List Y) (xs : List X) (x : X)
    → (old ++ map f xs) ++ f x ∷ [] ≡ old ++ map f (xs ++ x ∷ [])
mapped_one f [] [] x = refl
mapped_one f [] (y ∷ ys) x = ap (λ l. f y ∷ l) (mapped_one f [] ys x)
mapped_one f (o ∷ os) xs x = ap (λ l. o ∷ l) (mapped_one f os xs x)

pub loop-table-init : goal.loop-table-init
loop-table-init g c = ([], sym (append-nil _), tt)

pub loop-table-preserved : goal.loop-table-preserved
loop-table-preserved g c =
    let at = c.loop-table in
    let more = at.invariant in
    let next = take_more c.args.logs.now at.table-index c.table-item.result c.loop-table-test.true
    ∙ ap (λ f. take at.table-index c.args.logs.now ++ f ∷ []) (sym c.table-item.is) in (
      more.0 ++ (record { 0 = c.iter.result }) ∷ [],
      c.in_ok-push.ensures.items ∙ ap (λ l. l ++ Memory (record { 0 = c.iter.result }) ∷ []) more.1
          ∙ mapped_one Memory c.args.children.now.items more.0 (record { 0 = c.iter.result }),
      subst (λ logs. AreOverMemory (iterating.ghosts g.row.C g.C.UserCmp g.C.UserCmp-dict g.C.Cmp
          g.C.Cmp-dict) g.C.Cmp logs (more.0 ++ (record { 0 = c.iter.result }) ∷ [])) (sym next)
          (each_more _ more.0 (take at.table-index c.args.logs.now) (record { 0 = c.iter.result })
          c.table-item.result more.2 (record {
            pairs_are = c.iter.ensures.pairs;
            order_is = c.iter.ensures.order;
            sorted = c.iter.ensures.sorted;
            numbered = c.iter.ensures.numbered;
          })),
    )
