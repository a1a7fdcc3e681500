use Rattle.std.proofs.Common.{◌≡◌, ◌∙◌, ◌+◌, ap, false, leb, map, not, sym, ℕ}
use Rattle.std.specs.Prelude.{◌&&◌}
use Rattle.std.specs.List.{filter}
use Rattle.leveldb_files.specs.Levels.Overlap.{greatest_overlap, is_overlapped, overlapping, overlaps}
use Rattle.leveldb_files.specs.Levels.Summary.{total_size}
use Rattle.leveldb_version.specs.Versions.Version.{VersionValue, new_files_of}
use Rattle.leveldb_version.specs.Edits.VersionEdit.{new_file_of}
use Rattle.leveldb_version.proofs.Versions.VersionLemmas.{at_level_map}
use Rattle.leveldb_version.proofs.version.Version.may_go_to.Goals as goal

pub returns-then-not-is_overlapped : goal.returns-then-not-is_overlapped
returns-then-not-is_overlapped g c =
    let free : is_overlapped (g.C.Cmp.cmp c.args.self.now.cmp) c.args.level c.args.range.now (new_files_of c.args.self.now) ≡ false =
    sym c.is_overlapped.ensures ∙ c.if-not-is_overlapped.true in
    let size : ℕ = total_size (overlapping (g.C.Cmp.cmp c.args.self.now.cmp) (c.args.level + 1) c.args.range.now (new_files_of c.args.self.now)) in
    let size_is : c.overlap_size.result ≡ size =
    c.overlap_size.ensures
    ∙ ap (λ files. total_size (filter (overlaps (g.C.Cmp.cmp c.self.inside.cmp) c.args.range.now) files))
    (ap (map new_file_of) c.files.ensures.files ∙ at_level_map (c.args.level + 1) c.args.self.now.files)
    ∙ ap (λ (v : VersionValue g.row.C.Denot). total_size (overlapping (g.C.Cmp.cmp v.cmp) (c.args.level + 1) c.args.range.now (new_files_of c.args.self.now))) c.self.view_is in
    ap (λ n. leb n 20971520) size_is ∙ sym (ap (λ b. not b && leb size greatest_overlap) free)
