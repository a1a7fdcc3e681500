use Rattle.std.proofs.Common.{◌≡◌, ◌++◌, ◌∷◌, ◌∙◌, List, [], ap, map, refl, subst, sym, ℕ, Some}
use Rattle.std.proofs.lemmas.List.{map-append}
use Rattle.std.proofs.lemmas.List.Elements.{All-pop}
use Rattle.std.specs.Borrow.{Bor}
use Rattle.std.specs.Option.{option_copied, option_map}
use Rattle.std.specs.Prelude.{◌<◌, All, Contains, IsTrue}
use Rattle.leveldb_base.specs.CmpLaws.{total_order}
use Rattle.leveldb_base.specs.declared.types.FileMetaData.{FileMetaData}
use Rattle.leveldb_version.specs.Versions.Search.{FilesLeftValue, TakesNextFile, files_left}
use Rattle.leveldb_version.specs.Versions.Version.{AreInVersionOrder}
use Rattle.leveldb_files.specs.Edits.Edit.{NewFile}
use Rattle.leveldb_version.specs.Edits.VersionEdit.{new_file_of}
use Rattle.leveldb_version.proofs.Versions.SearchLemmas.{AreLeft, in_order_back, in_order_front, last_passed, last_taken, left_all, empty, left_none, levels_are, taken_of_deeper, taken_of_newest}
use Rattle.leveldb_version.proofs.version.search.FilesLeft.next.Goals as goal

pub loop-file-init : goal.loop-file-init
loop-file-init g c =
    let cmp = g.C.Cmp.cmp c.args.ucmp.now in
    let old = c.args.self.now.newest in
    record {
      left = subst (AreLeft cmp c.args.key.now old) (sym (ap (λ (v : FilesLeftValue). v.newest) c.self.view_is)) (left_all cmp c.args.key.now old (in_order_front cmp old c.args.self.now.deeper c.requires));
      level_zero = c.self.invariant.0;
      deeper = refl;
    }

pub invariant_of-self : goal.invariant_of-self
invariant_of-self g c =
    let LevelZero : ℕ × FileMetaData → Type 0 = λ file. file.0 ≡ 0 in
    ((All-pop LevelZero c.loop-file.self-inside.newest.now c.in-Some.older.now (Some c.in-Some.file.now) c.in-Some.ensures.cases.0 c.loop-file.invariant.level_zero).0, subst (λ (d : Bor (List (ℕ × FileMetaData))). All (λ file. 0 < file.0) d.now) (sym c.loop-file.invariant.deeper) c.self.invariant.1)

pub returns-then-is_in_range : goal.returns-then-is_in_range
returns-then-is_in_range g c =
    let cmp = g.C.Cmp.cmp c.args.ucmp.now in
    let total = total_order (g.met.C.Cmp.preorder c.args.ucmp.now) (g.met.C.UserCmp.accepts_all c.args.ucmp.now) in
    let old = c.args.self.now.newest in
    let older = map new_file_of c.in-Some.older.now in
    let file = new_file_of c.in-Some.file.now in
    let left : AreLeft cmp c.args.key.now old (older ++ file ∷ []) =
    subst (AreLeft cmp c.args.key.now old) (ap (map new_file_of) c.in-Some.ensures.cases.0 ∙ map-append new_file_of c.in-Some.older.now (c.in-Some.file.now ∷ [])) c.loop-file.invariant.left in
    let level_zero = subst (λ (files : List NewFile). (one : NewFile) → Contains files one → one.level ≡ 0) (ap (λ (v : FilesLeftValue). v.newest) c.self.view_is) (levels_are (λ level. level ≡ 0) c.self.inside.newest.now c.self.invariant.0) in
    let deep = subst (λ (files : List NewFile). (one : NewFile) → Contains files one → 0 < one.level) (ap (λ (v : FilesLeftValue). v.deeper) c.self.view_is) (levels_are (λ level. 0 < level) c.self.inside.deeper.now c.self.invariant.1) in
    let deeper : map new_file_of c.loop-file.self-inside.deeper.now ≡ c.args.self.now.deeper =
    ap (λ (d : Bor (List (ℕ × FileMetaData))). map new_file_of d.now) c.loop-file.invariant.deeper ∙ ap (λ (v : FilesLeftValue). v.deeper) c.self.view_is in
    subst (λ (files : List NewFile). TakesNextFile cmp c.args.key.now (files_left c.args.self.now) (Some file) (older ++ files)) (sym deeper)
    (taken_of_newest cmp c.args.key.now old c.args.self.now.deeper level_zero deep (in_order_back cmp old c.args.self.now.deeper c.requires)
    (last_taken cmp c.args.key.now older file left total level_zero (c.is_in_range.ensures.0 c.if-is_in_range.true)))

pub next_of_deeper-requires : goal.next_of_deeper-requires
next_of_deeper-requires g c =
    let cmp = g.C.Cmp.cmp c.args.ucmp.now in
    let deeper : map new_file_of c.loop-file.self-inside.deeper.now ≡ c.args.self.now.deeper =
    ap (λ (d : Bor (List (ℕ × FileMetaData))). map new_file_of d.now) c.loop-file.invariant.deeper ∙ ap (λ (v : FilesLeftValue). v.deeper) c.self.view_is in
    subst (AreInVersionOrder cmp) (sym deeper) (in_order_back cmp c.args.self.now.newest c.args.self.now.deeper c.requires)

pub returns : goal.returns
returns g c =
    let cmp = g.C.Cmp.cmp c.args.ucmp.now in
    let old = c.args.self.now.newest in
    let files = c.loop-file.self-inside.newest.now in
    let next = option_map new_file_of (option_copied c.next_of_deeper.result) in
    let none : files ≡ [] = empty files c.in_default.ensures.cases in
    let level_zero = subst (λ (files : List NewFile). (one : NewFile) → Contains files one → one.level ≡ 0) (ap (λ (v : FilesLeftValue). v.newest) c.self.view_is) (levels_are (λ level. level ≡ 0) c.self.inside.newest.now c.self.invariant.0) in
    let deep = subst (λ (files : List NewFile). (one : NewFile) → Contains files one → 0 < one.level) (ap (λ (v : FilesLeftValue). v.deeper) c.self.view_is) (levels_are (λ level. 0 < level) c.self.inside.deeper.now c.self.invariant.1) in
    let deeper : map new_file_of c.loop-file.self-inside.deeper.now ≡ c.args.self.now.deeper =
    ap (λ (d : Bor (List (ℕ × FileMetaData))). map new_file_of d.now) c.loop-file.invariant.deeper ∙ ap (λ (v : FilesLeftValue). v.deeper) c.self.view_is in
    let passed = left_none cmp c.args.key.now (subst (λ (left : List (ℕ × FileMetaData)). AreLeft cmp c.args.key.now old (map new_file_of left)) none c.loop-file.invariant.left) in
    let takes = subst (λ (from : List NewFile). TakesNextFile cmp c.args.key.now from next c.next_of_deeper.new.self.deeper) deeper c.next_of_deeper.ensures.next in
    let gone : c.next_of_deeper.new.self.newest ≡ [] = c.next_of_deeper.ensures.newest ∙ ap (map new_file_of) none in
    subst (λ (left : List NewFile). TakesNextFile cmp c.args.key.now (files_left c.args.self.now) next (left ++ c.next_of_deeper.new.self.deeper)) (sym gone)
    (taken_of_deeper cmp c.args.key.now old c.args.self.now.deeper level_zero deep passed takes)

pub loop-file-preserved : goal.loop-file-preserved
loop-file-preserved g c =
    let cmp = g.C.Cmp.cmp c.args.ucmp.now in
    let LevelZero : ℕ × FileMetaData → Type 0 = λ file. file.0 ≡ 0 in
    let old = c.args.self.now.newest in
    let older = map new_file_of c.in-Some.older.now in
    let file = new_file_of c.in-Some.file.now in
    let left : AreLeft cmp c.args.key.now old (older ++ file ∷ []) =
    subst (AreLeft cmp c.args.key.now old) (ap (map new_file_of) c.in-Some.ensures.cases.0 ∙ map-append new_file_of c.in-Some.older.now (c.in-Some.file.now ∷ [])) c.loop-file.invariant.left in
    record {
      left = last_passed cmp c.args.key.now older file left (λ has. let test : IsTrue c.is_in_range.result = c.is_in_range.ensures.1 has in absurd (cc (c.if-is_in_range.false)));
      level_zero = (All-pop LevelZero c.loop-file.self-inside.newest.now c.in-Some.older.now (Some c.in-Some.file.now) c.in-Some.ensures.cases.0 c.loop-file.invariant.level_zero).0;
      deeper = c.loop-file.invariant.deeper;
    }
