use Rattle.std.proofs.Common.{◌∙◌, ◌+◌, ap, refl, subst, sym}
use Rattle.std.specs.Option.{option_map}
use Rattle.leveldb_base.proofs.HistoryLemmas.{exact_order}
use Rattle.leveldb_base.specs.History.{AreUpTo}
use Rattle.leveldb_version.specs.Versions.Search.{AreDisjointLevels}
use Rattle.leveldb_version.specs.Versions.Version.{VersionValue, new_files_of}
use Rattle.leveldb_files.specs.Edits.Edit.{Edit}
use Rattle.leveldb_version_set.specs.Sets.VersionSetValue.{VersionSetValue}
use Rattle.leveldb_store.specs.Compactions.Compact.{IsOfStore}
use Rattle.leveldb_store.specs.Keeping.OpenStore.{AreInLevels, HasOwnManifest, OpenStoreValue}
use Rattle.leveldb_store.proofs.Tables.BuildTableLemmas.{built_of_store}
use Rattle.leveldb_store.proofs.Keeping.GivenNumbersLemmas.{live_given}
use Rattle.leveldb_store.proofs.Compactions.MergeFilesLemmas.{replaced_by_merge, same_merge}
use Rattle.leveldb_store.proofs.Compactions.MergedCausesLemmas.{inputs_leave, inputs_reference, merge_of_store}
use Rattle.leveldb_store.proofs.Compactions.MergedInputsLemmas.{version_apart, version_order}
use Rattle.leveldb_store.proofs.open_store.OpenStore.merge_in.Goals as goal

pub invariant_of-levels : goal.invariant_of-levels
invariant_of-levels g c =
    subst (λ o. AreDisjointLevels o (new_files_of c.args.compaction.now.version)) (sym (version_order g.C.Cmp c.requires.order c.requires.known)) (version_apart c.requires.known)

pub invariant_of-self : goal.invariant_of-self
invariant_of-self g c =
    let is = c.self.invariant in
    let inside = c.self.inside in
    let gives = c.merge_tables.ensures.numbers in
    let full = ap (λ (s : VersionSetValue). s.full) gives.set in (
      ap (λ (s : VersionSetValue). s.store) gives.set ∙ is.0,
      is.1,
      is.2,
      is.3,
      λ modelled. subst HasOwnManifest (sym gives.set) (is.4 modelled),
      λ e. is.5 (sym (ap (λ (s : VersionSetValue). s.manifest) gives.set) ∙ e),
      subst (λ (s : VersionSetValue). AreUpTo s.last_sequence inside.mem.kept.entries) (sym gives.set) is.6,
      is.7,
      ap (λ (v : VersionValue g.row.C.Denot). v.cmp) c.merge_tables.ensures.version ∙ is.8,
      live_given inside.versions.set c.merge_tables.new.versions.set full gives.rises is.9,
      subst (λ (full : Edit). AreInLevels g.E.Env.models_disk (g.C.Cmp.cmp inside.cmp) full.added) (sym full) is.10,
    )

pub returns-clause-makes : goal.returns-clause-makes
returns-clause-makes g c =
    let it = c.args.compaction.now in
    let cmp = c.args.options.now.cmp in
    let exact = exact_order (g.C.Cmp.accepts cmp) (g.C.Cmp.cmp cmp) (g.met.C.UserCmp.accepts_all cmp) (g.met.C.Cmp.preorder cmp) (g.met.C.UserCmp.exact cmp) in
    let merges = rw c.inputs.ensures.inputs at c.in_ok-walk.ensures.merges in
    let known = subst (λ v. IsOfStore g.E.Env.models_disk (g.C.Cmp.cmp cmp) v c.args.compaction.now) (sym c.self.view_is) c.requires.known in
    let order = c.requires.order ∙ ap (λ (v : OpenStoreValue g.row.C.Denot). g.C.Cmp.cmp v.cmp) (sym c.self.view_is) in
    let below = c.requires.below ∙ ap (λ (v : OpenStoreValue g.row.C.Denot). v.set.next_file) (sym c.self.view_is) in
    let m = merge_of_store g.E.Env g.C.Cmp g.FP.FilterPolicy g.K.Compressors.codings g.met.E.Env.counts exact order refl known (c.inputs.ensures.order) c.requires.reads below merges in
    let merged = c.merge_tables.ensures.merges (inputs_leave g.E.Env g.C.Cmp g.FP.FilterPolicy g.K.Compressors.codings merges) in
    let named = c.deref.ensures ∙ sym c.self.invariant.0 in
    rw (← c.self.view_is)
    (replaced_by_merge g.E.Env g.C.Cmp g.FP.FilterPolicy g.K.Compressors.codings _
    (λ pairs bytes built meaning known. built_of_store _ (g.met.C.Cmp.preorder cmp) (g.met.C.UserCmp.accepts_all cmp) (g.met.C.UserCmp.exact cmp) (g.C.Cmp.shortest_sep cmp) (g.met.C.Cmp.separates cmp)
    (g.FP.FilterPolicy.matches c.args.options.now.filter_policy) built meaning known)
    _ m c.args.smallest (λ files. files.items) _ _ c.merge_tables.result
    (same_merge _ g.E.Env (it.level + 1) (new_files_of it.version) (new_files_of it.inputs) named (version_order g.C.Cmp order known) merged)
    c.merge_tables.ensures.numbers c.merge_tables.ensures.back
    (ap (λ (current : VersionValue g.row.C.Denot). record {
      cmp = c.self.inside.cmp;
      set = c.merge_tables.new.versions.set;
      current = current;
      log = record { number = c.self.inside.log.number; writer = c.self.inside.log.file.writer };
      mem = c.self.inside.mem.kept;
      imm = option_map (λ memtable. memtable.kept) c.self.inside.imm;
      kept_to = c.self.inside.kept_to;
    }) c.merge_tables.ensures.version))

pub returns-clause-reference : goal.returns-clause-reference
returns-clause-reference g c =
    let merges = rw c.inputs.ensures.inputs at c.in_ok-walk.ensures.merges in
    let merged = c.merge_tables.ensures.merges (inputs_leave g.E.Env g.C.Cmp g.FP.FilterPolicy g.K.Compressors.codings merges) in
    inputs_reference g.E.Env g.C.Cmp g.FP.FilterPolicy g.K.Compressors.codings merges merged.comes
