use Rattle.std.proofs.Common.{◌≡◌, ◌∙◌, ◌≤◌, List, ap, drop, false, leb, length, map, rules, subst, sym, true, ℕ}
use Rattle.std.proofs.lemmas.List.Sorted.{IsPartitionPoint-from_clause, IsPartitionedBy-leb}
use Rattle.std.specs.List.Sorted.{IsNonDecreasingBy, IsPartitionPoint}
use Rattle.std.specs.Prelude.{is_some}
use Rattle.std.specs.Option.{option_copied, option_map}
use Rattle.leveldb_base.specs.declared.types.FileMetaData.{FileMetaData}
use Rattle.leveldb_version.proofs.Versions.BaseLevelLemmas.{last_in_order, search_tells, turned_round}
use Rattle.leveldb_version.proofs.Versions.SearchLemmas.{rest_is}
use Rattle.leveldb_version.proofs.Versions.VersionLemmas.{levels_rise}
use Rattle.leveldb_version.specs.Versions.DeeperLevels.{is_base_level_for}
use Rattle.leveldb_version.specs.Versions.Search.{AreDisjointLevels, TakesNextFile, files_left}
use Rattle.leveldb_version.specs.Versions.Version.{AreInVersionOrder, VersionValue, new_files_of}
use Rattle.leveldb_files.specs.Edits.Edit.{NewFile}
use Rattle.leveldb_version.specs.Edits.VersionEdit.{new_file_of}
use Rattle.leveldb_version.proofs.version.Version.is_base_level_for.Goals as goal

pub new-deeper-requires : goal.new-deeper-requires
new-deeper-requires g c =
    let cmp = g.C.Cmp.cmp c.self.inside.cmp in
    let files = c.deref-2.result.now in
    let count = c.partition_point-count.result in
    let sorted : AreInVersionOrder cmp (map new_file_of files) =
    subst (λ (fs : List (ℕ × FileMetaData)). AreInVersionOrder cmp (map new_file_of fs)) (sym c.deref-2.ensures.value) c.self.invariant.0 in
    subst (λ (fs : List (ℕ × FileMetaData)). IsNonDecreasingBy (λ (file : ℕ × FileMetaData). file.0) fs) (sym (rest_is files count))
    (levels_rise cmp (drop count files) (last_in_order cmp files count sorted))

pub next-requires : goal.next-requires
next-requires g c =
    let cmp = g.C.Cmp.cmp c.self.inside.cmp in
    let files = c.deref-2.result.now in
    let count = c.partition_point-count.result in
    let sorted : AreInVersionOrder cmp (map new_file_of files) =
    subst (λ (fs : List (ℕ × FileMetaData)). AreInVersionOrder cmp (map new_file_of fs)) (sym c.deref-2.ensures.value) c.self.invariant.0 in
    subst (AreInVersionOrder cmp) (sym (c.new-deeper.ensures ∙ ap (map new_file_of) (rest_is files count)))
    (last_in_order cmp files count sorted)

pub returns : goal.returns
returns g c =
    let cmp = g.C.Cmp.cmp c.self.inside.cmp in
    let key = c.args.key.now in
    let level = c.args.level in
    let files = c.self.inside.files.items in
    let count = c.partition_point-count.result in
    let is_upper : ℕ × FileMetaData → ℕ = λ file. file.0 in
    let rise : IsNonDecreasingBy (λ (file : ℕ × FileMetaData). file.0) c.deref.result.now =
    subst (λ (fs : List (ℕ × FileMetaData)). IsNonDecreasingBy (λ (file : ℕ × FileMetaData). file.0) fs) (sym c.deref.ensures.value)
    (levels_rise cmp files c.self.invariant.0) in
    let bound : count ≤ length files = subst (λ (fs : List (ℕ × FileMetaData)). count ≤ length fs) c.deref.ensures.value c.partition_point-count.ensures.bound in
    let point : IsPartitionPoint (λ (f : ℕ × FileMetaData). leb f.0 level ≡ true) (λ (f : ℕ × FileMetaData). leb f.0 level ≡ false) files count =
    subst (λ (fs : List (ℕ × FileMetaData)). IsPartitionPoint (λ (f : ℕ × FileMetaData). leb f.0 level ≡ true) (λ (f : ℕ × FileMetaData). leb f.0 level ≡ false) fs count) c.deref.ensures.value
    (IsPartitionPoint-from_clause (λ f. leb (is_upper f) level) _ _ c.partition_point-count.ensures.partitioned
    (IsPartitionedBy-leb is_upper _ level rise) (λ a r q k. search rules)) in
    let old_is : files_left c.new-deeper.result ≡ map new_file_of (drop count files) =
    c.new-deeper.ensures ∙ (ap (map new_file_of) (rest_is c.deref-2.result.now count) ∙ ap (λ (fs : List (ℕ × FileMetaData)). map new_file_of (drop count fs)) c.deref-2.ensures.value) in
    let next = option_map new_file_of (option_copied c.next.result) in
    let takes : TakesNextFile cmp key (map new_file_of (drop count files)) next (files_left c.next.new.self) =
    subst (λ (old : List NewFile). TakesNextFile cmp key old next (files_left c.next.new.self)) old_is c.next.ensures in
    subst (λ (v : VersionValue g.row.C.Denot). AreDisjointLevels (g.C.Cmp.cmp v.cmp) (new_files_of v)
    → c.is_none.result ≡ is_base_level_for (g.C.Cmp.cmp v.cmp) level (new_files_of v) key) c.self.view_is
    (λ apart. turned_round c.is_none.result (is_some c.next.result) (sym c.is_none.ensures) ∙ search_tells level files count bound point cmp key c.next.result (files_left c.next.new.self) takes apart)
