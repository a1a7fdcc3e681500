use Rattle.std.proofs.Common.{◌≡◌, Bool, arith, false, length, map, rules, subst, sym, true, ℕ}
use Rattle.std.proofs.lemmas.List.{length-map}
use Rattle.std.proofs.lemmas.List.Sorted.{IsPartitionPoint-from_clause}
use Rattle.std.specs.List.{AllWithin}
use Rattle.leveldb_files.specs.Levels.Overlap.{ends_before}
use Rattle.leveldb_files.specs.Edits.Edit.{NewFile}
use Rattle.leveldb_version.specs.Edits.VersionEdit.{new_file_of}
use Rattle.leveldb_version.proofs.Versions.FindFileLemmas.{mapped_within, parted_before}
use Rattle.leveldb_version.proofs.version.find.find_file.Goals as goal

pub returns-clause-parts : goal.returns-clause-parts
returns-clause-parts g c = λ parted.
    let test : NewFile → Bool = ends_before (g.C.Cmp.cmp c.args.ucmp.now) c.args.key.now c.args.sequence in
    let files = c.args.files.now in
    let point = IsPartitionPoint-from_clause (λ file. test (new_file_of file)) files _
    c.partition_point.ensures.partitioned (parted_before test new_file_of files parted) (λ a r q k. search rules) in (
      mapped_within (λ file. test file ≡ true) new_file_of files 0 c.partition_point.result c.partition_point.ensures.bound point.0,
      subst (λ (n : ℕ). AllWithin (λ file. test file ≡ false) (map new_file_of files) c.partition_point.result n) (sym (length-map files new_file_of))
          (mapped_within (λ file. test file ≡ false) new_file_of files c.partition_point.result (length files) (omega arith) point.1),
    )
