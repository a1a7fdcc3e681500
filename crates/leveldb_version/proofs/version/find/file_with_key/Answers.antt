use Rattle.std.proofs.Common.{◌∙◌, ◌<◌, ap, arith, length, map, sym}
use Rattle.std.proofs.lemmas.List.{get_or-map, length-map}
use Rattle.std.specs.Ordering.{is_lt}
use Rattle.leveldb_base.proofs.EntriesLemmas.{map_in}
use Rattle.leveldb_base.specs.CmpLaws.{total_order}
use Rattle.leveldb_base.specs.KeyTypes.{user_part}
use Rattle.leveldb_files.specs.Edits.Edit.{NewFile}
use Rattle.leveldb_version.specs.Edits.VersionEdit.{new_file_of}
use Rattle.leveldb_version.proofs.Versions.FindFileLemmas.{found_here, none_here, none_past, parted}
use Rattle.leveldb_version.proofs.version.find.file_with_key.Goals as goal

pub returns-then-index-files-clause-found : goal.returns-then-index-files-clause-found
returns-then-index-files-clause-found g c = λ rising ranges.
    let total = total_order (g.met.C.Cmp.preorder c.args.ucmp.now) (g.met.C.UserCmp.accepts_all c.args.ucmp.now) in
    let files = c.args.files.now in
    let point = c.find_file-index.ensures.parts (parted total (map new_file_of files) c.args.key.now rising ranges) in
    let long = length-map files new_file_of in
    let at_end = c.if-index-files.true in
    none_past total (map new_file_of files) c.args.key.now rising ranges c.find_file-index.result point.0 point.1 (omega (arith, long, at_end))

pub returns-then-begins_after-clause-found : goal.returns-then-begins_after-clause-found
returns-then-begins_after-clause-found g c = λ rising ranges.
    let total = total_order (g.met.C.Cmp.preorder c.args.ucmp.now) (g.met.C.UserCmp.accepts_all c.args.ucmp.now) in
    let files = c.args.files.now in
    let index = c.find_file-index.result in
    let point = c.find_file-index.ensures.parts (parted total (map new_file_of files) c.args.key.now rising ranges) in
    let inside = c.if-index-files.false in
    let bound = c.find_file-index.ensures.bound in
    let within : index < length files = omega (arith, inside, bound) in
    none_here total (map new_file_of files) c.args.key.now rising ranges index point.0 point.1
    (λ d.
    ap (λ (f : NewFile). is_lt (g.C.Cmp.cmp c.args.ucmp.now c.args.key.now (user_part f.smallest)))
    (get_or-map new_file_of files index c.index-files-index.result d within ∙ ap new_file_of (sym c.index-files-index.is))
    ∙ sym c.begins_after.ensures ∙ c.if-begins_after.true)

pub returns-clause-found : goal.returns-clause-found
returns-clause-found g c = λ rising ranges.
    let total = total_order (g.met.C.Cmp.preorder c.args.ucmp.now) (g.met.C.UserCmp.accepts_all c.args.ucmp.now) in
    let files = c.args.files.now in
    let index = c.find_file-index.result in
    let point = c.find_file-index.ensures.parts (parted total (map new_file_of files) c.args.key.now rising ranges) in
    let long = length-map files new_file_of in
    let inside = c.if-index-files.false in
    let bound = c.find_file-index.ensures.bound in
    let within : index < length files = omega (arith, inside, bound) in
    found_here total (map new_file_of files) c.args.key.now rising ranges index point.0 point.1
    (new_file_of c.index-files-index.result) (omega (arith, long, within))
    (λ d. get_or-map new_file_of files index c.index-files-index.result d within ∙ ap new_file_of (sym c.index-files-index.is))
    (sym c.begins_after.ensures ∙ c.if-begins_after.false)

pub returns-clause-one : goal.returns-clause-one
returns-clause-one g c =
    let index = c.find_file-index.result in
    let inside = c.if-index-files.false in
    let bound = c.find_file-index.ensures.bound in
    map_in new_file_of c.args.files.now c.index-files-index.result (index, omega (arith, inside, bound), sym c.index-files-index.is)
