use Rattle.std.proofs.Common.{List, ◌∙◌, ap, subst, sym, ℕ}
use Rattle.std.specs.List.Sorted.{IsNonDecreasingBy}
use Rattle.leveldb_base.specs.declared.types.FileMetaData.{FileMetaData}
use Rattle.leveldb_version.specs.Versions.Version.{VersionValue, at_level}
use Rattle.leveldb_version.specs.Walks.VersionIters.{AreWalksOf, each_alone, levels_of_walks}
use Rattle.leveldb_version.proofs.Walks.VersionItersLemmas.{walks_of_version}
use Rattle.leveldb_version.proofs.Versions.VersionLemmas.{levels_rise}
use Rattle.leveldb_version.proofs.version.Version.new_iters.Goals as goal

pub part_of_level-requires : goal.part_of_level-requires
part_of_level-requires g c =
    subst (λ (files : List (ℕ × FileMetaData)). IsNonDecreasingBy (λ (file : ℕ × FileMetaData). file.0) files) (sym c.as_slice-files.ensures.value)
    (levels_rise (g.C.Cmp.cmp c.self.inside.cmp) c.self.inside.files.items c.self.invariant.0)

pub push_levels-requires : goal.push_levels-requires
push_levels-requires g c =
    subst (λ (files : List (ℕ × FileMetaData)). IsNonDecreasingBy (λ (file : ℕ × FileMetaData). file.0) files) (sym c.as_slice-files.ensures.value)
    (levels_rise (g.C.Cmp.cmp c.self.inside.cmp) c.self.inside.files.items c.self.invariant.0)

pub returns-clause-ok : goal.returns-clause-ok
returns-clause-ok g c =
    let version = c.args.self.now in
    let files_are = c.as_slice-files.ensures.value ∙ ap (λ (v : VersionValue g.row.C.Denot). v.files) c.self.view_is in
    let alone = c.push_alone.new.iters.items in
    let iters = c.push_levels.new.iters.items in
    walks_of_version version alone iters
    (subst (λ old. AreWalksOf old (each_alone (at_level 0 version.files)) alone) c.new-iters.ensures.items
    (subst (λ fs. AreWalksOf c.new-iters.result.items (each_alone fs) alone) (c.part_of_level.ensures ∙ ap (at_level 0) files_are) c.in_ok-push_alone.ensures.ok))
    (subst (λ fs. AreWalksOf alone (levels_of_walks fs) iters) files_are c.in_ok-push_levels.ensures.ok)

pub returns-in_err-push_alone-clause-in_order : goal.returns-in_err-push_alone-clause-in_order
returns-in_err-push_alone-clause-in_order g c = rw (← c.self.view_is) c.self.invariant.0

pub returns-in_err-push_levels-clause-in_order : goal.returns-in_err-push_levels-clause-in_order
returns-in_err-push_levels-clause-in_order g c = rw (← c.self.view_is) c.self.invariant.0

pub returns-clause-in_order : goal.returns-clause-in_order
returns-clause-in_order g c = rw (← c.self.view_is) c.self.invariant.0
