use Rattle.std.proofs.Common.{◌≡◌, ◌<◌, [], subst, sym}
use Rattle.std.specs.Prelude.{All}
use Rattle.std.proofs.lemmas.List.Elements.{All-cons, All-nil}
use Rattle.leveldb_version.specs.Edits.FullEdit.{files_after}
use Rattle.leveldb_files.specs.Edits.Edit.{Edit, NewFile}
use Rattle.leveldb_version.specs.Edits.VersionEdit.{edit_of, new_file_of}
use Rattle.leveldb_version_set.specs.Engines.Writing.{table_edit}
use Rattle.leveldb_store.specs.Keeping.OpenStore.{AreInLevels}
use Rattle.leveldb_store.proofs.Writing.Level0TableLemmas.{table_edit_fits, table_edit_made}
use Rattle.leveldb_store.proofs.open_store.OpenStore.log_table.Goals as goal

pub log_tables-requires-clause-fits : goal.log_tables-requires-clause-fits
log_tables-requires-clause-fits g c =
    let made : edit_of c.add_file.new.self ≡ table_edit c.self.inside.log.number (new_file_of (c.args.level, c.args.file)) = table_edit_made c.new-edit.result c.set_log_num.new.self c.add_file.new.self c.self.inside.log.number c.args.level c.args.file c.new-edit.ensures c.set_log_num.ensures c.in_ok-add_file.ensures.ok c.in_ok-add_file.ensures.others in
    rw made (table_edit_fits c.self.inside.log.number c.args.level c.args.file c.requires.level)

pub log_tables-requires-clause-given : goal.log_tables-requires-clause-given
log_tables-requires-clause-given g c =
    let made : edit_of c.add_file.new.self ≡ table_edit c.self.inside.log.number (new_file_of (c.args.level, c.args.file)) = table_edit_made c.new-edit.result c.set_log_num.new.self c.add_file.new.self c.self.inside.log.number c.args.level c.args.file c.new-edit.ensures c.set_log_num.ensures c.in_ok-add_file.ensures.ok c.in_ok-add_file.ensures.others in
    let Given : NewFile → Type 0 = λ file. file.number < c.args.self.now.set.next_file in
    subst (λ (edit : Edit). All Given edit.added) (sym made)
    (All-cons Given (new_file_of (c.args.level, c.args.file)) [] c.requires.given (All-nil Given))

pub log_tables-requires-clause-levels : goal.log_tables-requires-clause-levels
log_tables-requires-clause-levels g c =
    let made : edit_of c.add_file.new.self ≡ table_edit c.self.inside.log.number (new_file_of (c.args.level, c.args.file)) = table_edit_made c.new-edit.result c.set_log_num.new.self c.add_file.new.self c.self.inside.log.number c.args.level c.args.file c.new-edit.ensures c.set_log_num.ensures c.in_ok-add_file.ensures.ok c.in_ok-add_file.ensures.others in
    λ current. subst (λ (edit : Edit). AreInLevels g.E.Env.models_disk (g.C.Cmp.cmp c.args.self.now.cmp) (files_after edit c.args.self.now.set.full.added))
    (sym made) c.requires.levels

pub returns-clause-logs : goal.returns-clause-logs
returns-clause-logs g c =
    let made : edit_of c.add_file.new.self ≡ table_edit c.self.inside.log.number (new_file_of (c.args.level, c.args.file)) = table_edit_made c.new-edit.result c.set_log_num.new.self c.add_file.new.self c.self.inside.log.number c.args.level c.args.file c.new-edit.ensures c.set_log_num.ensures c.in_ok-add_file.ensures.ok c.in_ok-add_file.ensures.others in
    rw (← c.self.view_is) (rw (made, ← c.self.view_is) at c.log_tables.ensures.logs)

pub returns-clause-current : goal.returns-clause-current
returns-clause-current g c =
    let made : edit_of c.add_file.new.self ≡ table_edit c.self.inside.log.number (new_file_of (c.args.level, c.args.file)) = table_edit_made c.new-edit.result c.set_log_num.new.self c.add_file.new.self c.self.inside.log.number c.args.level c.args.file c.new-edit.ensures c.set_log_num.ensures c.in_ok-add_file.ensures.ok c.in_ok-add_file.ensures.others in
    rw (← c.self.view_is) (rw (made, ← c.self.view_is) at c.log_tables.ensures.current)
