use Rattle.std.proofs.Common.{inl, refl, subst}
use Rattle.std.proofs.lemmas.Result.{IfOk-weaker, err_from_is_err_and}
use Rattle.leveldb_version_set.specs.Compactions.Picking.{IsAskedByReads}
use Rattle.leveldb_store.proofs.Compactions.AskedCompactionLemmas.{logs_picked, picked_may_be}
use Rattle.leveldb_store.proofs.Compactions.CompactedLemmas.{failed_at_once}
use Rattle.leveldb_store.proofs.Compactions.CompactsOnceLemmas.{none_compacted}
use Rattle.leveldb_store.proofs.Keeping.KeptBytesLemmas.{meanwhile_none}
use Rattle.leveldb_store.proofs.Writing.RemovalLemmas.{on_ok_by}
use Rattle.leveldb_store.specs.Keeping.OpenStore.{OpenStoreValue}
use Rattle.leveldb_store.specs.Writing.Removal.{but_removal}
use Rattle.leveldb_store.proofs.open_store.OpenStore.compact_by_reads.Goals as goal

pub returns-in_err-picked : goal.returns-in_err-picked
returns-in_err-picked g c =
    let p = err_from_is_err_and c.from_residual.result c.from_residual.ensures.1 in
    rw (p.1, p.2)
    (record {
      compacts = record {
        keeps = failed_at_once _ g.E.Env _ c.args.self.now c.args.env.now c.args.tables.now _ _ _ (inl c.in_err-picked.ensures.memory);
        memory = refl;
      };
      asked = tt;
      removes = tt;
      keeps = record {
        once = none_compacted _ g.E.Env.models_disk c.args.self.now (g.E.Env.observed c.args.env.now);
        kept = λ modelled below. meanwhile_none g.E.Env c.args.self.now.set.store c.args.env.now;
        keeps = λ each modelled below. meanwhile_none g.E.Env c.args.self.now.set.store c.args.env.now;
        breaks = λ unbroken. inl unbroken;
      };
      log = refl;
    })

pub compact_picked-requires-clause-chosen : goal.compact_picked-requires-clause-chosen
compact_picked-requires-clause-chosen g c =
    let old = c.args.self.now in
    let size = c.args.options.now.max_file_size in
    let picked = c.in_ok-picked.picked in
    let versions = c.self.inside.versions in
    let asked = subst (λ k. IsAskedByReads (g.C.Cmp.cmp k) versions.current size picked) c.self.invariant.8 c.in_ok-picked.ensures.ok in
    let here = subst (λ (v : OpenStoreValue g.row.C.Denot). IsAskedByReads (g.C.Cmp.cmp v.cmp) v.current size picked) c.self.view_is asked in
    picked_may_be (g.C.Cmp.cmp old.cmp) old.current size picked here.each

pub returns-clause-asked : goal.returns-clause-asked
returns-clause-asked g c =
    let done = c.compact_picked.ensures in
    let size = c.args.options.now.max_file_size in
    let picked = c.in_ok-picked.picked in
    let versions = c.self.inside.versions in
    let asked = subst (λ k. IsAskedByReads (g.C.Cmp.cmp k) versions.current size picked) c.self.invariant.8 c.in_ok-picked.ensures.ok in
    let here = subst (λ (v : OpenStoreValue g.row.C.Denot). IsAskedByReads (g.C.Cmp.cmp v.cmp) v.current size picked) c.self.view_is asked in
    let result = but_removal c.compact_picked.result in
    on_ok_by _ c.compact_picked.result
    (IfOk-weaker result _ _ (λ unit logs. (picked, here, logs))
    (logs_picked (g.C.Cmp.cmp c.args.self.now.cmp) c.args.self.now c.compact_picked.new.self picked result done.does.logged (λ none. (done.does.none none).1)))
