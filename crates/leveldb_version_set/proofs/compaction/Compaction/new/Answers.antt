use Rattle.std.proofs.Common.{◌≡◌, ◌∙◌, refl, subst, sym}
use Rattle.leveldb_version_set.specs.Compactions.Compaction.{MayCompact}
use Rattle.leveldb_version_set.specs.Compactions.CompactionEdit.{SetsPointer}
use Rattle.leveldb_version_set.specs.Compactions.Inputs.{MayTake, input_files}
use Rattle.leveldb_version.specs.Versions.Version.{VersionValue, new_files_of}
use Rattle.leveldb_version.specs.Edits.VersionEdit.{edit_of}
use Rattle.leveldb_version_set.proofs.Compactions.CompactionCallLemmas.{may_in_any_order, pointer_in_any_order}
use Rattle.leveldb_version_set.proofs.compaction.Compaction.new.Goals as goal

pub invariant_of-result : goal.invariant_of-result
invariant_of-result g c =
    subst (λ (v : VersionValue g.row.C.Denot). (c.in_ok-inputs.inputs.cmp ≡ v.cmp) × MayCompact (g.C.Cmp.cmp v.cmp) (new_files_of v) c.args.level (new_files_of c.in_ok-inputs.inputs))
    (sym c.in_ok-version.ensures.ok) (
      c.in_ok-inputs.ensures.cmp ∙ c.ucmp-2.ensures,
      may_in_any_order (g.C.Cmp.cmp c.args.version.now.cmp) (new_files_of c.args.version.now) c.args.level (input_files c.args.inputs.now) (new_files_of c.in_ok-inputs.inputs)
          c.in_ok-inputs.ensures.files c.requires.may,
    )

pub returns-clause-ok : goal.returns-clause-ok
returns-clause-ok g c =
    let files = new_files_of c.args.version.now in
    let cmp = g.C.Cmp.cmp c.args.version.now.cmp in
    record {
      version_is = c.in_ok-version.ensures.ok;
      manual_is = refl;
      size_is = refl;
      may = may_in_any_order cmp files c.args.level (input_files c.args.inputs.now) (new_files_of c.in_ok-inputs.inputs) c.in_ok-inputs.ensures.files c.requires.may;
      pointer = pointer_in_any_order cmp c.args.level (input_files c.args.inputs.now) (new_files_of c.in_ok-inputs.inputs) (edit_of c.in_ok-edit.edit) c.in_ok-inputs.ensures.files
          (subst (λ (u : g.row.C.Denot). SetsPointer (g.C.Cmp.cmp u) c.args.level (input_files c.args.inputs.now) (edit_of c.in_ok-edit.edit)) c.ucmp.ensures
          (c.in_ok-edit.ensures.pointer files (subst (λ (u : g.row.C.Denot). MayTake (g.C.Cmp.cmp u) files c.args.level c.args.inputs.now) (sym c.ucmp.ensures) c.requires)));
      only = c.in_ok-edit.ensures.only;
    }
