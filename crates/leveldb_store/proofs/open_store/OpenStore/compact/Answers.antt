use Rattle.std.specs.Prelude.{All, IsTrue}
use Rattle.std.proofs.Common.{◌≡◌, ◌∙◌, ◌+◌, ◌<◌, List, ap, map, subst, sym}
use Rattle.std.proofs.lemmas.Result.{err_from_is_err_and}
use Rattle.std.specs.Cmp.{IsTotalOrder}
use Rattle.leveldb_base.specs.CmpLaws.{total_order}
use Rattle.leveldb_base.specs.declared.types.FileMetaData.{FileMetaData}
use Rattle.leveldb_version_set.specs.Compactions.CompactionEdit.{compaction_edit}
use Rattle.leveldb_version.specs.Edits.FullEdit.{files_after}
use Rattle.leveldb_version_set.specs.Sets.LogEdit.{WritesBytes}
use Rattle.leveldb_version_set.specs.Compactions.Picking.{CompactionValue}
use Rattle.leveldb_files.specs.Edits.Edit.{Edit, LevelFile, NewFile}
use Rattle.leveldb_version.specs.Edits.VersionEdit.{edit_of, new_file_of}
use Rattle.leveldb_version_set.specs.Sets.VersionSetValue.{OpenManifest, in_use}
use Rattle.leveldb_store.proofs.Compactions.CompactCallLemmas.{compacts_made, compacts_no_more, compacts_none, edit_is, made_levels, made_levels_fit}
use Rattle.leveldb_store.specs.Keeping.OpenStore.{AreInLevels, HasOwnManifest, OpenStoreValue}
use Rattle.leveldb_store.proofs.open_store.OpenStore.compact.Goals as goal

pub returns-in_err-made : goal.returns-in_err-made
returns-in_err-made g c =
    let p = err_from_is_err_and c.from_residual.result c.from_residual.ensures.1 in
    rw (p.1, p.2) (record {
      compacts = compacts_none _ g.E.Env _ _ c.args.self.now c.args.env.now c.args.tables.now c.args.smallest c.args.compaction _ c.replacements.new.env
          c.replacements.new.tables _ c.replacements.new.self c.in_err-made.ensures.makes;
    })

pub returns-in_err-add_input_deletions : goal.returns-in_err-add_input_deletions
returns-in_err-add_input_deletions g c =
    let p = err_from_is_err_and c.from_residual-in_err-add_input_deletions.result c.from_residual-in_err-add_input_deletions.ensures.1 in
    rw (p.1, p.2) (record {
      compacts = compacts_no_more _ g.E.Env _ _ c.args.self.now c.args.env.now c.args.tables.now c.args.smallest c.args.compaction _ c.replacements.new.env
          c.replacements.new.tables c.in_ok-made.made c.replacements.new.self c.in_ok-made.ensures.makes _ c.in_err-add_input_deletions.ensures.memory;
    })

pub returns-in_err-add_files : goal.returns-in_err-add_files
returns-in_err-add_files g c =
    let p = err_from_is_err_and c.from_residual-in_err-add_files.result c.from_residual-in_err-add_files.ensures.1 in
    rw (p.1, p.2) (record {
      compacts = compacts_no_more _ g.E.Env _ _ c.args.self.now c.args.env.now c.args.tables.now c.args.smallest c.args.compaction _ c.replacements.new.env
          c.replacements.new.tables c.in_ok-made.made c.replacements.new.self c.in_ok-made.ensures.makes _ c.in_err-add_files.ensures.memory;
    })

-- ---- the edit

pub log_tables-requires-clause-fits : goal.log_tables-requires-clause-fits
log_tables-requires-clause-fits g c =
    let it = c.args.compaction in
    let user = g.C.Cmp in
    let m = c.in_ok-made.ensures.makes in
    let D : List LevelFile = c.add_input_deletions.new.self.edit.deleted in
    let deletes : c.add_input_deletions.new.self.edit ≡ record it.edit { deleted = D } = ap (λ (v : CompactionValue g.row.C.Denot). v.edit) c.in_ok-add_input_deletions.ensures.rest in
    let value = c.replacements.new.self in
    let log : c.self.inside.log.number ≡ value.log.number = ap (λ (v : OpenStoreValue g.row.C.Denot). v.log.number) c.self.view_is in
    let files = map (λ (file : FileMetaData). new_file_of (it.level + 1, file)) c.in_ok-made.made.items in
    let edit : edit_of c.add_files.new.edit ≡ compaction_edit value.log.number it.edit.pointers D files = edit_is it D c.into_edit-edit.result c.set_log_num.new.self c.add_files.new.edit c.self.inside.log.number
    c.level-level.result c.in_ok-made.made.items c.requires.chosen.only c.level-level.ensures.level (c.into_edit-edit.ensures ∙ deletes) c.set_log_num.ensures c.in_ok-add_files.ensures.ok c.in_ok-add_files.ensures.others
    ∙ ap (λ k. compaction_edit k it.edit.pointers D files) log in
    let chosen = rw (← c.requires.order) at c.requires.chosen in
    let takes = c.in_ok-add_input_deletions.ensures.ok in
    rw edit (made_levels_fit _ g.E.Env _ _ c.args.self.now c.args.env.now c.args.tables.now c.args.smallest it _ c.replacements.new.env c.replacements.new.tables c.in_ok-made.made value m _ D chosen takes)

pub log_tables-requires-clause-given : goal.log_tables-requires-clause-given
log_tables-requires-clause-given g c =
    let it = c.args.compaction in
    let user = g.C.Cmp in
    let m = c.in_ok-made.ensures.makes in
    let D : List LevelFile = c.add_input_deletions.new.self.edit.deleted in
    let deletes : c.add_input_deletions.new.self.edit ≡ record it.edit { deleted = D } = ap (λ (v : CompactionValue g.row.C.Denot). v.edit) c.in_ok-add_input_deletions.ensures.rest in
    let value = c.replacements.new.self in
    let log : c.self.inside.log.number ≡ value.log.number = ap (λ (v : OpenStoreValue g.row.C.Denot). v.log.number) c.self.view_is in
    let files = map (λ (file : FileMetaData). new_file_of (it.level + 1, file)) c.in_ok-made.made.items in
    let edit : edit_of c.add_files.new.edit ≡ compaction_edit value.log.number it.edit.pointers D files = edit_is it D c.into_edit-edit.result c.set_log_num.new.self c.add_files.new.edit c.self.inside.log.number
    c.level-level.result c.in_ok-made.made.items c.requires.chosen.only c.level-level.ensures.level (c.into_edit-edit.ensures ∙ deletes) c.set_log_num.ensures c.in_ok-add_files.ensures.ok c.in_ok-add_files.ensures.others
    ∙ ap (λ k. compaction_edit k it.edit.pointers D files) log in
    let chosen = rw (← c.requires.order) at c.requires.chosen in
    let takes = c.in_ok-add_input_deletions.ensures.ok in
    subst (λ (e : Edit). All (λ (file : NewFile). file.number < value.set.next_file) e.added) (sym edit) m.fit.1

pub log_tables-requires-clause-levels : goal.log_tables-requires-clause-levels
log_tables-requires-clause-levels g c =
    let it = c.args.compaction in
    let user = g.C.Cmp in
    let m = c.in_ok-made.ensures.makes in
    let D : List LevelFile = c.add_input_deletions.new.self.edit.deleted in
    let deletes : c.add_input_deletions.new.self.edit ≡ record it.edit { deleted = D } = ap (λ (v : CompactionValue g.row.C.Denot). v.edit) c.in_ok-add_input_deletions.ensures.rest in
    let value = c.replacements.new.self in
    let log : c.self.inside.log.number ≡ value.log.number = ap (λ (v : OpenStoreValue g.row.C.Denot). v.log.number) c.self.view_is in
    let files = map (λ (file : FileMetaData). new_file_of (it.level + 1, file)) c.in_ok-made.made.items in
    let edit : edit_of c.add_files.new.edit ≡ compaction_edit value.log.number it.edit.pointers D files = edit_is it D c.into_edit-edit.result c.set_log_num.new.self c.add_files.new.edit c.self.inside.log.number
    c.level-level.result c.in_ok-made.made.items c.requires.chosen.only c.level-level.ensures.level (c.into_edit-edit.ensures ∙ deletes) c.set_log_num.ensures c.in_ok-add_files.ensures.ok c.in_ok-add_files.ensures.others
    ∙ ap (λ k. compaction_edit k it.edit.pointers D files) log in
    let chosen = rw (← c.requires.order) at c.requires.chosen in
    let takes = c.in_ok-add_input_deletions.ensures.ok in
    let cmp = c.args.options.now.cmp in
    let total : IsTotalOrder (g.C.Cmp.cmp cmp) = total_order (g.met.C.Cmp.preorder cmp) (g.met.C.UserCmp.accepts_all cmp) in
    let levels = subst (λ (v : OpenStoreValue g.row.C.Denot). AreInLevels g.E.Env.models_disk (user.cmp v.cmp) v.set.full.added) c.self.view_is c.self.invariant.10 in
    λ current. subst (λ (e : Edit). AreInLevels g.E.Env.models_disk (user.cmp value.cmp) (files_after e value.set.full.added)) (sym edit)
    (made_levels _ g.E.Env _ _ c.args.self.now c.args.env.now c.args.tables.now c.args.smallest it _ c.replacements.new.env c.replacements.new.tables c.in_ok-made.made value m _ D chosen takes total c.requires.none_waits c.requires.usable user c.requires.order levels current)

pub returns : goal.returns
returns g c =
    let it = c.args.compaction in
    let user = g.C.Cmp in
    let m = c.in_ok-made.ensures.makes in
    let D : List LevelFile = c.add_input_deletions.new.self.edit.deleted in
    let deletes : c.add_input_deletions.new.self.edit ≡ record it.edit { deleted = D } = ap (λ (v : CompactionValue g.row.C.Denot). v.edit) c.in_ok-add_input_deletions.ensures.rest in
    let value = c.replacements.new.self in
    let log : c.self.inside.log.number ≡ value.log.number = ap (λ (v : OpenStoreValue g.row.C.Denot). v.log.number) c.self.view_is in
    let files = map (λ (file : FileMetaData). new_file_of (it.level + 1, file)) c.in_ok-made.made.items in
    let edit : edit_of c.add_files.new.edit ≡ compaction_edit value.log.number it.edit.pointers D files = edit_is it D c.into_edit-edit.result c.set_log_num.new.self c.add_files.new.edit c.self.inside.log.number
    c.level-level.result c.in_ok-made.made.items c.requires.chosen.only c.level-level.ensures.level (c.into_edit-edit.ensures ∙ deletes) c.set_log_num.ensures c.in_ok-add_files.ensures.ok c.in_ok-add_files.ensures.others
    ∙ ap (λ k. compaction_edit k it.edit.pointers D files) log in
    let chosen = rw (← c.requires.order) at c.requires.chosen in
    let takes = c.in_ok-add_input_deletions.ensures.ok in
    let cmp = c.args.options.now.cmp in
    let total : IsTotalOrder (g.C.Cmp.cmp cmp) = total_order (g.met.C.Cmp.preorder cmp) (g.met.C.UserCmp.accepts_all cmp) in
    let own = subst (λ (v : OpenStoreValue g.row.C.Denot). IsTrue g.E.Env.models_disk → HasOwnManifest v.set) c.self.view_is c.self.invariant.4 in
    let bytes = subst (λ (e : Edit). (one : OpenManifest) → value.set.manifest ≡ in_use one → WritesBytes g.E.Env.models_disk value.set e (g.E.Env.observed c.replacements.new.env) c.log_tables.result
    (g.E.Env.observed c.log_tables.new.env)) edit c.log_tables.ensures.bytes in
    record {
      compacts = compacts_made _ g.E.Env _ _ c.args.self.now c.args.env.now c.args.tables.now c.args.smallest it _ c.replacements.new.env c.replacements.new.tables c.in_ok-made.made value m _ D chosen takes total c.requires.none_waits c.requires.usable user c.requires.order
          (λ e. c.self.invariant.5 (ap (λ (v : OpenStoreValue g.row.C.Denot). v.set.manifest) c.self.view_is ∙ e)) own c.log_tables.new.env c.log_tables.new.self c.log_tables.result
          (rw edit at c.log_tables.ensures.logs) bytes c.log_tables.ensures.locks c.log_tables.ensures.rest (rw edit at c.log_tables.ensures.current) c.log_tables.ensures.err;
    }
