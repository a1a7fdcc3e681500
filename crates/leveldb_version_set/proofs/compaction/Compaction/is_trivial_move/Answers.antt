use Rattle.std.proofs.Common.{◌≡◌, ◌∙◌, ap, false, sym}
use Rattle.leveldb_version_set.specs.Compactions.Picking.{CompactionValue}
use Rattle.leveldb_version.specs.Versions.Version.{new_files_of}
use Rattle.leveldb_version.specs.Edits.VersionEdit.{new_file_of}
use Rattle.leveldb_version_set.proofs.Compactions.CompactionCallLemmas.{moves_if_small}
use Rattle.leveldb_version_set.proofs.compaction.Compaction.is_trivial_move.Goals as goal

pub returns-in_default : goal.returns-in_default
returns-in_default g c = (
  (λ e. absurd cc),
  (λ it. absurd (c.only_input.ensures.none c.in_default.is it.file it.alone it.at)),
)

pub returns : goal.returns
returns g c =
    let it = c.args.self.now in
    let unasked : it.manual ≡ false = sym (ap (λ (v : CompactionValue g.row.C.Denot). v.manual) c.self.view_is) ∙ c.if-self.false in
    moves_if_small (g.C.Cmp.cmp it.version.cmp) it.max_file_size it.level it.manual (new_files_of it.version) (new_files_of it.inputs) (new_file_of c.in-Some.file.now) c.is_small_two_down.result unasked
    c.in-Some.ensures.some.0 c.in-Some.ensures.some.1 c.is_small_two_down.ensures
