use Rattle.std.proofs.Common.{◌∙◌, ◌<◌, List, None, ap, arith, length, map, refl, rules, subst, sym, ℕ}
use Rattle.std.proofs.lemmas.List.{length-drop}
use Rattle.std.proofs.lemmas.List.Elements.{All-drop}
use Rattle.std.specs.Option.{option_copied, option_map}
use Rattle.std.specs.Prelude.{All}
use Rattle.leveldb_base.specs.CmpLaws.{total_order}
use Rattle.leveldb_base.specs.declared.types.FileMetaData.{FileMetaData}
use Rattle.leveldb_version.specs.Versions.Search.{FilesLeftValue, TakesNextFile}
use Rattle.leveldb_version.specs.Edits.VersionEdit.{new_file_of}
use Rattle.leveldb_version.proofs.Versions.SearchLemmas.{AreLeft, first_deep, left_all, left_none, level_at, level_passed, level_taken, no_first, rest_is, some_copied}
use Rattle.leveldb_version.proofs.Versions.VersionLemmas.{levels_rise}
use Rattle.leveldb_version.proofs.version.search.FilesLeft.next_of_deeper.Goals as goal

pub loop-first-init : goal.loop-first-init
loop-first-init g c =
    let cmp = g.C.Cmp.cmp c.args.ucmp.now in
    let old = c.args.self.now.deeper in
    record {
      left = subst (AreLeft cmp c.args.key.now old) (sym (ap (λ (v : FilesLeftValue). v.deeper) c.self.view_is)) (left_all cmp c.args.key.now old c.requires);
      deep = c.self.invariant.1;
      newest = refl;
    }

pub part_of_level-level-requires : goal.part_of_level-level-requires
part_of_level-level-requires g c =
    levels_rise (g.C.Cmp.cmp c.args.ucmp.now) c.loop-first.self-inside.deeper.now c.loop-first.invariant.left.in_order

pub slice_bounds-self-count : goal.slice_bounds-self-count
slice_bounds-self-count g c =
    let total = total_order (g.met.C.Cmp.preorder c.args.ucmp.now) (g.met.C.UserCmp.accepts_all c.args.ucmp.now) in
    let files = c.loop-first.self-inside.deeper.now in
    let first = c.in-Some.first.now in
    let deep = first_deep files first c.loop-first.invariant.deep (sym c.in-Some.ensures.value) in
    (level_at total c.args.key.now files c.part_of_level-level.result.now first c.loop-first.invariant.left (sym c.in-Some.ensures.value) c.part_of_level-level.ensures deep).fits

pub slice_bounds-self-start : goal.slice_bounds-self-start
slice_bounds-self-start g c =
    let within = slice_bounds-self-count g c in search rules

pub returns-then-is_some-clause-next : goal.returns-then-is_some-clause-next
returns-then-is_some-clause-next g c =
    let cmp = g.C.Cmp.cmp c.args.ucmp.now in
    let total = total_order (g.met.C.Cmp.preorder c.args.ucmp.now) (g.met.C.UserCmp.accepts_all c.args.ucmp.now) in
    let old = c.args.self.now.deeper in
    let files = c.loop-first.self-inside.deeper.now in
    let part = c.part_of_level-level.result.now in
    let first = c.in-Some.first.now in
    let found = c.file_with_key-found.result in
    let next = option_map new_file_of (option_copied found) in
    let deep = first_deep files first c.loop-first.invariant.deep (sym c.in-Some.ensures.value) in
    subst (λ (left : List (ℕ × FileMetaData)). TakesNextFile cmp c.args.key.now old next (map new_file_of left)) (sym (rest_is files (length part)))
    (level_taken total c.args.key.now files part first c.loop-first.invariant.left (sym c.in-Some.ensures.value) c.part_of_level-level.ensures deep
    next (some_copied found ∙ sym c.is_some.ensures ∙ c.if-is_some.true) c.file_with_key-found.ensures.one c.file_with_key-found.ensures.found)

pub loop-first-smaller : goal.loop-first-smaller
loop-first-smaller g c =
    let total = total_order (g.met.C.Cmp.preorder c.args.ucmp.now) (g.met.C.UserCmp.accepts_all c.args.ucmp.now) in
    let files = c.loop-first.self-inside.deeper.now in
    let part = c.part_of_level-level.result.now in
    let first = c.in-Some.first.now in
    let deep = first_deep files first c.loop-first.invariant.deep (sym c.in-Some.ensures.value) in
    let level = level_at total c.args.key.now files part first c.loop-first.invariant.left (sym c.in-Some.ensures.value) c.part_of_level-level.ensures deep in
    let some = level.some in
    let fits = level.fits in
    let long = ap length (rest_is files (length part)) ∙ length-drop (length part) files in
    omega (arith, some, fits, long)

pub loop-first-preserved : goal.loop-first-preserved
loop-first-preserved g c =
    let cmp = g.C.Cmp.cmp c.args.ucmp.now in
    let total = total_order (g.met.C.Cmp.preorder c.args.ucmp.now) (g.met.C.UserCmp.accepts_all c.args.ucmp.now) in
    let old = c.args.self.now.deeper in
    let files = c.loop-first.self-inside.deeper.now in
    let part = c.part_of_level-level.result.now in
    let first = c.in-Some.first.now in
    let found = c.file_with_key-found.result in
    let next = option_map new_file_of (option_copied found) in
    let deep = first_deep files first c.loop-first.invariant.deep (sym c.in-Some.ensures.value) in
    let Deep : ℕ × FileMetaData → Type 0 = λ file. 0 < file.0 in
    record {
      left = subst (λ (left : List (ℕ × FileMetaData)). AreLeft cmp c.args.key.now old (map new_file_of left)) (sym (rest_is files (length part)))
          (level_passed total c.args.key.now files part first c.loop-first.invariant.left (sym c.in-Some.ensures.value) c.part_of_level-level.ensures deep
          next (some_copied found ∙ sym c.is_some.ensures ∙ c.if-is_some.false) c.file_with_key-found.ensures.found);
      deep = subst (All Deep) (sym (rest_is files (length part))) (All-drop Deep (length part) files c.loop-first.invariant.deep);
      newest = c.loop-first.invariant.newest;
    }

pub returns-clause-next : goal.returns-clause-next
returns-clause-next g c =
    let cmp = g.C.Cmp.cmp c.args.ucmp.now in
    let old = c.args.self.now.deeper in
    let none = no_first c.loop-first.self-inside.deeper.now (sym c.in_default.ensures.value) in
    subst (λ (left : List (ℕ × FileMetaData)). TakesNextFile cmp c.args.key.now old None (map new_file_of left)) (sym none)
    (left_none cmp c.args.key.now (subst (λ (left : List (ℕ × FileMetaData)). AreLeft cmp c.args.key.now old (map new_file_of left)) none c.loop-first.invariant.left))
