use Rattle.std.proofs.Common.{List, subst, sym, ℕ}
use Rattle.std.specs.List.Sorted.{IsNonDecreasingBy}
use Rattle.leveldb_base.specs.declared.types.FileMetaData.{FileMetaData}
use Rattle.leveldb_version.proofs.Versions.VersionLemmas.{levels_rise}
use Rattle.leveldb_version.proofs.version.Version.part.Goals as goal

pub part_of_level-requires : goal.part_of_level-requires
part_of_level-requires g c =
    subst (λ (files : List (ℕ × FileMetaData)). IsNonDecreasingBy (λ (file : ℕ × FileMetaData). file.0) files) (sym c.as_slice.ensures.value)
    (levels_rise (g.C.Cmp.cmp c.self.inside.cmp) c.self.inside.files.items c.self.invariant.0)
