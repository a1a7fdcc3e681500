use Rattle.std.proofs.Common.{◌≡◌, ◌∙◌, List, None, Option, Some, ap, map, subst, sym, ℕ}
use Rattle.std.specs.Borrow.{Bor}
use Rattle.std.specs.List.Sorted.{IsNonDecreasingBy}
use Rattle.std.specs.Option.{option_copied, option_map}
use Rattle.leveldb_base.specs.declared.types.FileMetaData.{FileMetaData}
use Rattle.leveldb_version.proofs.Versions.SamplingLemmas.{one_sampled, two_sampled}
use Rattle.leveldb_version.proofs.Versions.VersionLemmas.{levels_rise}
use Rattle.leveldb_version.specs.Versions.Sampling.{ChargesForSample}
use Rattle.leveldb_version.specs.Versions.Search.{AreDisjointLevels, TakesNextFile, files_left}
use Rattle.leveldb_version.specs.Versions.Version.{VersionValue, new_files_of}
use Rattle.leveldb_files.specs.Edits.Edit.{NewFile}
use Rattle.leveldb_version.specs.Edits.VersionEdit.{new_file_of}
use Rattle.leveldb_version.proofs.version.Version.sampled.Goals as goal

pub new-files-requires : goal.new-files-requires
new-files-requires g c =
    subst (λ (files : List (ℕ × FileMetaData)). IsNonDecreasingBy (λ (file : ℕ × FileMetaData). file.0) files) (sym c.as_slice.ensures.value)
    (levels_rise (g.C.Cmp.cmp c.self.inside.cmp) c.self.inside.files.items c.self.invariant.0)

pub returns-in_err-next : goal.returns-in_err-next
returns-in_err-next g c =
    let cmp = g.C.Cmp.cmp c.self.inside.cmp in
    let key = c.args.key.now in
    let files = map new_file_of c.self.inside.files.items in
    let all : files_left c.new-files.result ≡ files = c.new-files.ensures ∙ ap (map new_file_of) c.as_slice.ensures.value in
    let mid = files_left c.next.new.self in
    let takes : TakesNextFile cmp key files (Some (new_file_of c.in_ok-first.first.now)) mid =
    subst (λ (fs : List NewFile). TakesNextFile cmp key fs (Some (new_file_of c.in_ok-first.first.now)) mid) all
    (subst (λ (o : Option (Bor (ℕ × FileMetaData))). TakesNextFile cmp key (files_left c.new-files.result) (option_map new_file_of (option_copied o)) mid) c.in_ok-first.was c.next.ensures) in
    let left = files_left c.next-2.new.self in
    let more : TakesNextFile cmp key mid None left =
    subst (λ (o : Option (Bor (ℕ × FileMetaData))). TakesNextFile cmp key mid (option_map new_file_of (option_copied o)) left) c.in_err-next.was c.next-2.ensures in
    let none : c.from_residual-in_err-next.result ≡ None = c.from_residual-in_err-next.ensures in
    subst (λ (v : VersionValue g.row.C.Denot). AreDisjointLevels (g.C.Cmp.cmp v.cmp) (new_files_of v)
    → ChargesForSample (g.C.Cmp.cmp v.cmp) key (new_files_of v) c.from_residual-in_err-next.result) c.self.view_is
    (λ apart. subst (ChargesForSample cmp key files) (sym none) (one_sampled cmp key files takes apart more))

pub returns : goal.returns
returns g c =
    let cmp = g.C.Cmp.cmp c.self.inside.cmp in
    let key = c.args.key.now in
    let files = map new_file_of c.self.inside.files.items in
    let all : files_left c.new-files.result ≡ files = c.new-files.ensures ∙ ap (map new_file_of) c.as_slice.ensures.value in
    let mid = files_left c.next.new.self in
    let first = c.in_ok-first.first.now in
    let takes : TakesNextFile cmp key files (Some (new_file_of first)) mid =
    subst (λ (fs : List NewFile). TakesNextFile cmp key fs (Some (new_file_of first)) mid) all
    (subst (λ (o : Option (Bor (ℕ × FileMetaData))). TakesNextFile cmp key (files_left c.new-files.result) (option_map new_file_of (option_copied o)) mid) c.in_ok-first.was c.next.ensures) in
    let second = new_file_of c.in_ok-next.field-0.now in
    let left = files_left c.next-2.new.self in
    let more : TakesNextFile cmp key mid (Some second) left =
    subst (λ (o : Option (Bor (ℕ × FileMetaData))). TakesNextFile cmp key mid (option_map new_file_of (option_copied o)) left) c.in_ok-next.was c.next-2.ensures in
    subst (λ (v : VersionValue g.row.C.Denot). AreDisjointLevels (g.C.Cmp.cmp v.cmp) (new_files_of v)
    → ChargesForSample (g.C.Cmp.cmp v.cmp) key (new_files_of v) (Some (first.0, first.1.num))) c.self.view_is
    (λ apart. two_sampled cmp key files takes apart more)
