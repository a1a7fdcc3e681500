use Rattle.std.proofs.Common.{◌≡◌, None, refl, rules, sym}
use Rattle.std.specs.BTreeMap.{get}
use Rattle.leveldb_files.specs.Edits.Edit.{file_order}
use Rattle.leveldb_version_set.specs.declared.version_set.files_in_order.FilesInOrder.{FilesInOrder}
use Rattle.leveldb_version_set.proofs.Sets.FilesInOrderLemmas.{none_removed, one_removed, removed_placed}
use Rattle.leveldb_version_set.proofs.version_set.files_in_order.FilesInOrder.remove.Goals as goal

pub returns-in-Some-clause-files : goal.returns-in-Some-clause-files
returns-in-Some-clause-files c =
    let new : FilesInOrder = record { files = c.remove-in-Some.new.self; places = c.remove.new.self; next = c.args.self.now.next } in
    one_removed c.args.self.now new c.args.removed c.requires.placed c.in-Some.place (sym c.in-Some.ensures.value)
    c.remove-in-Some.ensures.ordered c.remove-in-Some.ensures.entries c.remove.ensures.updates.0 refl

pub returns-in-Some-clause-placed : goal.returns-in-Some-clause-placed
returns-in-Some-clause-placed c =
    let new : FilesInOrder = record { files = c.remove-in-Some.new.self; places = c.remove.new.self; next = c.args.self.now.next } in
    removed_placed c.args.self.now new c.args.removed c.requires.placed c.in-Some.place (sym c.in-Some.ensures.value)
    c.remove-in-Some.ensures.ordered c.remove-in-Some.ensures.entries c.remove.ensures.updates.0 refl

pub returns-in_default-clause-files : goal.returns-in_default-clause-files
returns-in_default-clause-files c =
    let new : FilesInOrder = record { files = c.args.self.now.files; places = c.remove.new.self; next = c.args.self.now.next } in
    let none : get file_order c.args.self.now.places c.args.removed ≡ None = search rules in
    none_removed c.args.self.now new c.args.removed c.requires.placed none (search rules) refl refl
