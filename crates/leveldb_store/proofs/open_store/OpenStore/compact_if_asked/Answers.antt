use Rattle.std.proofs.Common.{inl, refl, subst}
use Rattle.std.proofs.lemmas.Result.{err_from_is_err_and}
use Rattle.leveldb_version_set.specs.Sets.CurrentVersion.{IsCurrent}
use Rattle.leveldb_version_set.specs.Compactions.Inputs.{AreOrdered}
use Rattle.leveldb_version_set.specs.Compactions.Picking.{IsAskedFor}
use Rattle.leveldb_store.proofs.Compactions.AskedCompactionLemmas.{compacts_if_asked, picked_may_be}
use Rattle.leveldb_store.proofs.Compactions.CompactedLemmas.{failed_at_once}
use Rattle.leveldb_store.proofs.Compactions.CompactsOnceLemmas.{none_compacted}
use Rattle.leveldb_store.proofs.Keeping.CurrentVersionLemmas.{current_by}
use Rattle.leveldb_store.proofs.Keeping.KeptBytesLemmas.{meanwhile_none}
use Rattle.leveldb_store.specs.Keeping.OpenStore.{OpenStoreValue}
use Rattle.leveldb_store.specs.Writing.Removal.{but_removal}
use Rattle.leveldb_store.proofs.open_store.OpenStore.compact_if_asked.Goals as goal

pub returns-in_err-picked : goal.returns-in_err-picked
returns-in_err-picked g c =
    let p = err_from_is_err_and c.from_residual.result c.from_residual.ensures.1 in
    rw (p.1, p.2)
    (record {
      compacts = record {
        keeps = failed_at_once _ g.E.Env _ c.args.self.now c.args.env.now c.args.tables.now _ _ _ (inl c.in_err-picked.ensures.memory);
        memory = refl;
      };
      asked = record { logged = tt; by_score = tt; err = refl; asks = inl c.in_err-picked.ensures.memory };
      removes = tt;
      keeps = record {
        once = none_compacted _ g.E.Env.models_disk c.args.self.now (g.E.Env.observed c.args.env.now);
        kept = λ modelled below. meanwhile_none g.E.Env c.args.self.now.set.store c.args.env.now;
        keeps = λ each modelled below. meanwhile_none g.E.Env c.args.self.now.set.store c.args.env.now;
        breaks = λ unbroken. inl unbroken;
      };
      log = refl;
    })

pub compact_picked-requires-clause-chosen : goal.compact_picked-requires-clause-chosen
compact_picked-requires-clause-chosen g c =
    let old = c.args.self.now in
    let size = c.args.options.now.max_file_size in
    let picked = c.in_ok-picked.picked in
    let versions = c.self.inside.versions in
    let asked = subst (λ k. IsAskedFor (g.C.Cmp.cmp k) versions.set.full.pointers versions.current size picked) c.self.invariant.8 c.in_ok-picked.ensures.ok in
    let here = subst (λ (v : OpenStoreValue g.row.C.Denot). IsAskedFor (g.C.Cmp.cmp v.cmp) v.set.full.pointers v.current size picked) c.self.view_is asked in
    picked_may_be (g.C.Cmp.cmp old.cmp) old.current size picked here.each

pub returns-clause-asked : goal.returns-clause-asked
returns-clause-asked g c =
    let done = c.compact_picked.ensures.does in
    let size = c.args.options.now.max_file_size in
    let picked = c.in_ok-picked.picked in
    let versions = c.self.inside.versions in
    let asked = subst (λ k. IsAskedFor (g.C.Cmp.cmp k) versions.set.full.pointers versions.current size picked) c.self.invariant.8 c.in_ok-picked.ensures.ok in
    let here = subst (λ (v : OpenStoreValue g.row.C.Denot). IsAskedFor (g.C.Cmp.cmp v.cmp) v.set.full.pointers v.current size picked) c.self.view_is asked in
    let current = subst (λ (v : OpenStoreValue g.row.C.Denot). IsCurrent (g.C.Cmp.cmp v.cmp) v.cmp v.set v.current) c.self.view_is (current_by g.C.Cmp c.self.invariant.8 c.in_ok-picked.ensures.current) in
    let ordered = subst (λ (v : OpenStoreValue g.row.C.Denot). AreOrdered (g.C.Cmp.cmp v.cmp) v.set.full.added) c.self.view_is c.self.invariant.10.ordered in
    compacts_if_asked c.args.self.now c.compact_picked.new.self current size picked (but_removal c.compact_picked.result)
    ordered here done.logged (λ none. ((done.none none).0, (done.none none).1)) done.err done.version

pub returns-clause-removes : goal.returns-clause-removes
returns-clause-removes g c = c.compact_picked.ensures.removes
