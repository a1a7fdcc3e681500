use Rattle.std.proofs.Common.{rules, ◌≡◌, ◌<◌, ◌^◌, ◌∙◌, ◌∷◌, ◌++◌, List, [], flat_map, map, ap, subst, sym}
use Rattle.std.proofs.lemmas.List.{map-append}
use Rattle.std.proofs.lemmas.List.Elements.{All-push}
use Rattle.std.proofs.lemmas.Map.Iter.{iter_end}
use Rattle.std.specs.List.{All}
use Rattle.std.specs.Map.Iter.{deref}
use Rattle.std.proofs.lemmas.Result.{IfOk-from_err}
use Rattle.leveldb_files.specs.Edits.Edit.{LevelFile, deletes, field_bytes}
use Rattle.leveldb_version.proofs.Edits.VersionEditLemmas.{put_last}
use Rattle.leveldb_version.proofs.ExitLemmas.{cause_passed}
use Rattle.leveldb_version.proofs.version_edit.fields.put_deleted.Goals as goal

pub returns-in_err-put_deleted_file-clause-ok : goal.returns-in_err-put_deleted_file-clause-ok
returns-in_err-put_deleted_file-clause-ok c = IfOk-from_err c.from_residual.result _ c.from_residual.ensures.0

pub returns-in_err-put_deleted_file-clause-small : goal.returns-in_err-put_deleted_file-clause-small
returns-in_err-put_deleted_file-clause-small c = IfOk-from_err c.from_residual.result _ c.from_residual.ensures.0

pub returns-in_err-put_deleted_file-clause-memory : goal.returns-in_err-put_deleted_file-clause-memory
returns-in_err-put_deleted_file-clause-memory c = cause_passed _ c.from_residual.result _ c.from_residual.ensures.1 c.in_err-put_deleted_file.ensures.memory

pub returns-clause-ok : goal.returns-clause-ok
returns-clause-ok c =
    let all : map deref c.loop-file.yielded ≡ c.args.deleted.now.keys = search (rules, iter_end) in
    c.loop-file.invariant.put ∙ ap (λ z. c.args.dst.now.items ++ flat_map field_bytes (map deletes z)) all

pub returns-clause-small : goal.returns-clause-small
returns-clause-small c =
    let all : map deref c.loop-file.yielded ≡ c.args.deleted.now.keys = search (rules, iter_end) in
    let Small : List LevelFile → Type 0 = All (λ file. file.1 < 2 ^ 64) in
    subst Small all c.loop-file.invariant.small

pub loop-file-preserved : goal.loop-file-preserved
loop-file-preserved c =
    let IsSmall : LevelFile → Type 0 = λ file. file.1 < 2 ^ 64 in
    record {
      put = put_last deletes deref c.loop-file.yielded c.in-Some.file _ _ _ c.loop-file.invariant.put c.in_ok-put_deleted_file.ensures.ok;
      small = subst (λ (files : List LevelFile). All IsSmall files) (sym (map-append deref c.loop-file.yielded (c.in-Some.file ∷ [])))
          (All-push IsSmall (map deref c.loop-file.yielded) c.in-Some.file.now c.loop-file.invariant.small c.in_ok-put_deleted_file.ensures.small);
    }
