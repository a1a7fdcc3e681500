use Rattle.std.proofs.Common.{◌+◌, ◌∙◌, ◌∷◌, ◌++◌, [], ap, refl}
use Rattle.leveldb_version.specs.Edits.VersionEdit.{new_file_of}
use Rattle.leveldb_version_set.specs.declared.version_set.files_in_order.FilesInOrder.{FilesInOrder}
use Rattle.leveldb_version_set.proofs.Sets.FilesInOrderLemmas.{added_placed, one_added}
use Rattle.leveldb_version_set.proofs.version_set.files_in_order.FilesInOrder.add.Goals as goal

pub returns-clause-files : goal.returns-clause-files
returns-clause-files c =
    let new : FilesInOrder = record { files = c.insert-2.new.self; places = c.insert.new.self; next = c.remove.new.self.next + 1 } in
    one_added c.remove.new.self new c.args.file c.remove.ensures.placed c.remove.ensures.gone
    c.insert-2.ensures.ordered c.in_ok-insert-2.ensures.entries c.in_ok-insert.ensures.updates.0 refl
    ∙ ap (λ files. files ++ new_file_of c.args.file ∷ []) c.remove.ensures.files

pub returns-clause-placed : goal.returns-clause-placed
returns-clause-placed c =
    let new : FilesInOrder = record { files = c.insert-2.new.self; places = c.insert.new.self; next = c.remove.new.self.next + 1 } in
    added_placed c.remove.new.self new c.args.file c.remove.ensures.placed c.remove.ensures.gone
    c.insert-2.ensures.ordered c.in_ok-insert-2.ensures.entries c.in_ok-insert.ensures.updates.0 refl
