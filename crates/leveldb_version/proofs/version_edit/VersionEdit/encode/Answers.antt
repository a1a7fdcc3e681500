use Rattle.std.proofs.Common.{ℕ, ◌<◌, ◌^◌, List, ◌∙◌, ap, subst, ◌++◌, flat_map, map}
use Rattle.std.proofs.lemmas.List.Elements.{All-map}
use Rattle.std.specs.List.{All}
use Rattle.std.proofs.lemmas.Result.{IfOk-from_err}
use Rattle.leveldb_base.specs.declared.types.FileMetaData.{FileMetaData}
use Rattle.leveldb_version.specs.Edits.VersionEdit.{edit_of, pointer_of, new_file_of}
use Rattle.leveldb_files.specs.Edits.Edit.{NewFile, points, adds, field_bytes}
use Rattle.leveldb_version.proofs.Edits.VersionEditLemmas.{all_put, is_read, name_fits}
use Rattle.leveldb_version.proofs.ExitLemmas.{cause_is, cause_passed}
use Rattle.leveldb_version.proofs.version_edit.VersionEdit.encode.Goals as goal

pub returns-in_err-bytes : goal.returns-in_err-bytes
returns-in_err-bytes c =
    let exit = c.from_residual in
    record {
      ok = IfOk-from_err exit.result _ exit.ensures.0;
      read = IfOk-from_err exit.result _ exit.ensures.0;
      memory = cause_is _ exit.result exit.ensures.1;
    }

pub returns-in_err-put_comparator : goal.returns-in_err-put_comparator
returns-in_err-put_comparator c =
    let exit = c.from_residual-in_err-put_comparator in
    record {
      ok = IfOk-from_err exit.result _ exit.ensures.0;
      read = IfOk-from_err exit.result _ exit.ensures.0;
      memory = cause_passed _ exit.result _ exit.ensures.1 c.in_err-put_comparator.ensures.memory;
    }

pub returns-in_err-put_number : goal.returns-in_err-put_number
returns-in_err-put_number c =
    let exit = c.from_residual-in_err-put_number in
    record {
      ok = IfOk-from_err exit.result _ exit.ensures.0;
      read = IfOk-from_err exit.result _ exit.ensures.0;
      memory = cause_passed _ exit.result _ exit.ensures.1 c.in_err-put_number.ensures.memory;
    }

pub returns-in_err-put_number-2 : goal.returns-in_err-put_number-2
returns-in_err-put_number-2 c =
    let exit = c.from_residual-in_err-put_number-2 in
    record {
      ok = IfOk-from_err exit.result _ exit.ensures.0;
      read = IfOk-from_err exit.result _ exit.ensures.0;
      memory = cause_passed _ exit.result _ exit.ensures.1 c.in_err-put_number-2.ensures.memory;
    }

pub returns-in_err-put_number-3 : goal.returns-in_err-put_number-3
returns-in_err-put_number-3 c =
    let exit = c.from_residual-in_err-put_number-3 in
    record {
      ok = IfOk-from_err exit.result _ exit.ensures.0;
      read = IfOk-from_err exit.result _ exit.ensures.0;
      memory = cause_passed _ exit.result _ exit.ensures.1 c.in_err-put_number-3.ensures.memory;
    }

pub returns-in_err-put_number-4 : goal.returns-in_err-put_number-4
returns-in_err-put_number-4 c =
    let exit = c.from_residual-in_err-put_number-4 in
    record {
      ok = IfOk-from_err exit.result _ exit.ensures.0;
      read = IfOk-from_err exit.result _ exit.ensures.0;
      memory = cause_passed _ exit.result _ exit.ensures.1 c.in_err-put_number-4.ensures.memory;
    }

pub returns-in_err-put_pointers : goal.returns-in_err-put_pointers
returns-in_err-put_pointers c =
    let exit = c.from_residual-in_err-put_pointers in
    record {
      ok = IfOk-from_err exit.result _ exit.ensures.0;
      read = IfOk-from_err exit.result _ exit.ensures.0;
      memory = cause_passed _ exit.result _ exit.ensures.1 c.in_err-put_pointers.ensures.memory;
    }

pub returns-in_err-put_deleted : goal.returns-in_err-put_deleted
returns-in_err-put_deleted c =
    let exit = c.from_residual-in_err-put_deleted in
    record {
      ok = IfOk-from_err exit.result _ exit.ensures.0;
      read = IfOk-from_err exit.result _ exit.ensures.0;
      memory = cause_passed _ exit.result _ exit.ensures.1 c.in_err-put_deleted.ensures.memory;
    }

pub returns-in_err-put_new_files : goal.returns-in_err-put_new_files
returns-in_err-put_new_files c =
    let exit = c.from_residual-in_err-put_new_files in
    record {
      ok = IfOk-from_err exit.result _ exit.ensures.0;
      read = IfOk-from_err exit.result _ exit.ensures.0;
      memory = cause_passed _ exit.result _ exit.ensures.1 c.in_err-put_new_files.ensures.memory;
    }

pub returns-clause-ok : goal.returns-clause-ok
returns-clause-ok c =
    all_put (edit_of c.args.self.now) _ _ _ _ _ _ _ _ _ c.in_ok-bytes.ensures.items c.in_ok-put_comparator.ensures.ok c.in_ok-put_number.ensures.ok c.in_ok-put_number-2.ensures.ok
    c.in_ok-put_number-3.ensures.ok c.in_ok-put_number-4.ensures.ok
    (c.in_ok-put_pointers.ensures.ok ∙ ap (λ z. c.put_number-4.new.dst.items ++ flat_map field_bytes (map points (map pointer_of z))) c.as_slice.ensures.value)
    c.in_ok-put_deleted.ensures.ok
    (c.in_ok-put_new_files.ensures.ok ∙ ap (λ z. c.put_deleted.new.dst.items ++ flat_map field_bytes (map adds (map new_file_of z))) c.as_slice-2.ensures.value)

pub returns-clause-read : goal.returns-clause-read
returns-clause-read c = λ levels.
    let Small : NewFile → Type 0 = λ file. (file.number < 2 ^ 64) × (file.size < 2 ^ 64) in
    let AllSmall : List (ℕ × FileMetaData) → Type 0 = λ files. All Small (map new_file_of files) in
    is_read levels (record {
      comparator = name_fits c.args.self.now.comparator;
      log_number = c.in_ok-put_number.ensures.small;
      previous_log = c.in_ok-put_number-2.ensures.small;
      next_file = c.in_ok-put_number-3.ensures.small;
      last_sequence = c.in_ok-put_number-4.ensures.small;
      deleted = c.in_ok-put_deleted.ensures.small;
      ordered = c.in_ok-put_deleted.ensures.ordered;
      added = subst AllSmall c.as_slice-2.ensures.value (All-map Small new_file_of c.as_slice-2.result.now c.in_ok-put_new_files.ensures.small);
    }) (returns-clause-ok c)
