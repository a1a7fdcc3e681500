use Rattle.std.proofs.Common.{◌==◌, ◌∙◌, ◌++◌, Bool, ap, drop, map, rules, sym, take, ℕ}
use Rattle.std.proofs.lemmas.List.{map-append, take-append-drop}
use Rattle.std.proofs.lemmas.List.Sorted.{IsPartitionPoint-from_clause}
use Rattle.leveldb_base.specs.declared.types.FileMetaData.{FileMetaData}
use Rattle.leveldb_version.specs.Edits.VersionEdit.{new_file_of}
use Rattle.leveldb_version.proofs.Versions.SearchLemmas.{parted_at, rest_is, zero_first}
use Rattle.leveldb_version.proofs.version.search.FilesLeft.new.Goals as goal

pub invariant_of-result : goal.invariant_of-result
invariant_of-result c =
    let is_zero : ℕ × FileMetaData → Bool = λ file. file.0 == 0 in
    parted_at c.args.files.now c.partition_point-count.result c.partition_point-count.ensures.bound
    (IsPartitionPoint-from_clause is_zero c.args.files.now _ c.partition_point-count.ensures.partitioned (zero_first c.args.files.now c.requires) (λ a r q k. search rules))

pub returns : goal.returns
returns c =
    let files = c.args.files.now in
    let count = c.partition_point-count.result in
    ap (λ l. map new_file_of (take count files) ++ map new_file_of l) (rest_is files count)
    ∙ sym (map-append new_file_of (take count files) (drop count files))
    ∙ ap (map new_file_of) (take-append-drop count files)
