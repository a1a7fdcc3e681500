use Rattle.std.proofs.Common.{◌≡◌, ◌∙◌, ap, length, sym}
use Rattle.leveldb_base.specs.KeyTypes.{user_part}
use Rattle.leveldb_files.specs.Levels.Overlap.{named_range}
use Rattle.leveldb_files.specs.Levels.Summary.{files_of_level}
use Rattle.leveldb_version.specs.Versions.Version.{VersionValue, new_files_of}
use Rattle.leveldb_store.proofs.Compactions.CompactLevelLemmas.{empty_level_clear, picked_some}
use Rattle.leveldb_store.proofs.Keeping.CurrentVersionLemmas.{current_by}
use Rattle.leveldb_store.proofs.open_store.OpenStore.picked_in_level.Goals as goal

pub returns-then-num_level_files-eq0-clause-some : goal.returns-then-num_level_files-eq0-clause-some
returns-then-num_level_files-eq0-clause-some g c =
    let level = c.args.level in
    let range = named_range (user_part c.args.range.0.now) (user_part c.args.range.1.now) in
    let current = current_by g.C.Cmp c.self.invariant.8 c.current.ensures.current in
    let count = ap (λ (v : VersionValue g.row.C.Denot). length (files_of_level level (new_files_of v))) (sym c.current.ensures.version) in
    let none : length (files_of_level level (new_files_of c.self.inside.versions.current)) ≡ 0 = count ∙ sym c.num_level_files.ensures ∙ c.if-num_level_files-eq0.true in
    rw (← c.self.view_is) (empty_level_clear (g.C.Cmp.cmp c.self.inside.cmp) range current level none)

pub returns-clause-some : goal.returns-clause-some
returns-clause-some g c =
    let range = named_range (user_part c.args.range.0.now) (user_part c.args.range.1.now) in
    let versions = c.self.inside.versions in
    let current = current_by g.C.Cmp c.self.invariant.8 c.current.ensures.current in
    rw (← c.self.view_is)
    (picked_some g.C.Cmp.cmp versions.set versions.current c.args.level _ range c.self.invariant.8 current c.compact_range.result c.compact_range.ensures.ok)
