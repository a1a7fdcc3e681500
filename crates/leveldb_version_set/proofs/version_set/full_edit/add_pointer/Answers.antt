use Rattle.std.proofs.Common.{◌≡◌, ◌∙◌, ◌++◌, ◌∷◌, ◌==◌, Bool, [], ap, arith, map, not, rules, true, if◌then◌else◌}
use Rattle.std.specs.Prelude.{is_ok}
use Rattle.std.specs.List.{filter}
use Rattle.std.proofs.lemmas.Fn.{filter_same}
use Rattle.leveldb_version.specs.declared.version_edit.CompactionPointer.{CompactionPointer}
use Rattle.leveldb_version.proofs.Edits.FullEditLemmas.{map-filter}
use Rattle.leveldb_files.proofs.Levels.SummaryLemmas.{map-append}
use Rattle.leveldb_version.specs.Edits.VersionEdit.{pointer_of}
use Rattle.leveldb_version_set.proofs.version_set.full_edit.add_pointer.Goals as goal

pub returns-clause-pointers : goal.returns-clause-pointers
returns-clause-pointers c =
    let keeps : CompactionPointer → Bool = λ it. not (it.level == c.args.pointer.level) in
    let kept : c.retain.new.self.items ≡ filter keeps c.args.pointers.now.items = filter_same _ keeps _ (λ x b f' k. search rules) _ _ c.retain.ensures.filtered in
    let ok : is_ok c.push.result ≡ true = c.push.ensures.succeeds (omega (arith, c.requires, c.retain.ensures.bound, c.retain.ensures.capacity)) in
    let pushed : c.push.new.self.items ≡ c.retain.new.self.items ++ c.args.pointer ∷ [] =
    c.push.ensures.items ∙ ap (λ b. if b then c.retain.new.self.items ++ c.args.pointer ∷ [] else c.retain.new.self.items) ok in
    ap (map pointer_of) pushed
    ∙ map-append pointer_of c.retain.new.self.items (c.args.pointer ∷ [])
    ∙ ap (λ z. map pointer_of z ++ pointer_of c.args.pointer ∷ []) kept
    ∙ ap (λ z. z ++ pointer_of c.args.pointer ∷ []) (map-filter pointer_of (λ it. not (it.level == c.args.pointer.level)) c.args.pointers.now.items)
