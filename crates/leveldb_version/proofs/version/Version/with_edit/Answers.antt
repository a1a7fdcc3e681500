use Rattle.std.proofs.Common.{◌≡◌, ◌<◌, ◌^◌, rules, subst, sym, ℕ}
use Rattle.std.proofs.lemmas.List.Sorted.{All-permutation}
use Rattle.leveldb_base.specs.declared.types.FileMetaData.{FileMetaData}
use Rattle.leveldb_version.specs.Versions.Version.{FilesFit}
use Rattle.leveldb_version.proofs.version.Version.with_edit.Goals as goal

pub returns-clause-fit : goal.returns-clause-fit
returns-clause-fit g c =
    let Fits : ℕ × FileMetaData → Type 0 = λ file. (file.1.num < 2 ^ 64) × (file.1.size < 2 ^ 64) in
    let copied : c.in_ok-files.files.items ≡ c.self.inside.files.items = search rules in
    let before = subst FilesFit (sym copied) c.self.invariant.1 in
    let left = c.in_ok-add_files.ensures.fit (c.remove_files.ensures.fit before) in
    All-permutation Fits c.add_files.new.files.items c.sort_files.new.files.items
    c.in_ok-sort_files.ensures.same_files left

pub invariant_of-result : goal.invariant_of-result
invariant_of-result g c =
    let Fits : ℕ × FileMetaData → Type 0 = λ file. (file.1.num < 2 ^ 64) × (file.1.size < 2 ^ 64) in
    let copied : c.in_ok-files.files.items ≡ c.self.inside.files.items = search rules in
    let before = subst FilesFit (sym copied) c.self.invariant.1 in
    let left = c.in_ok-add_files.ensures.fit (c.remove_files.ensures.fit before) in (
      c.in_ok-sort_files.ensures.in_order,
      All-permutation Fits c.add_files.new.files.items c.sort_files.new.files.items
          c.in_ok-sort_files.ensures.same_files left,
    )
