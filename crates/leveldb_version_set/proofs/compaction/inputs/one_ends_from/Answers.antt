use Rattle.std.proofs.Common.{◌∙◌, List, ap, false, map, sym, true, ℕ}
use Rattle.std.specs.List.{list_any}
use Rattle.leveldb_base.specs.declared.types.FileMetaData.{FileMetaData}
use Rattle.leveldb_version_set.proofs.Compactions.AmongLemmas.{any_last, or_false, or_true}
use Rattle.leveldb_version_set.specs.Compactions.Contradictions.{ends_from}
use Rattle.leveldb_version.specs.Edits.VersionEdit.{new_file_of}
use Rattle.leveldb_version_set.proofs.compaction.inputs.one_ends_from.Goals as goal

pub returns-then-ends_from : goal.returns-then-ends_from
returns-then-ends_from g c =
    let passes = ends_from (g.C.Cmp.cmp c.args.ucmp.now) c.args.key.now in
    let file = c.in-Some.file.now in
    let rest = c.in-Some.rest.now in
    sym (c.loop-file.invariant
    ∙ (ap (λ (fs : List (ℕ × FileMetaData)). list_any passes (map new_file_of fs)) c.in-Some.ensures.cases.0
    ∙ (any_last passes new_file_of rest file true (sym c.ends_from.ensures ∙ c.if-ends_from.true) ∙ or_true (list_any passes (map new_file_of rest)))))

pub loop-file-preserved : goal.loop-file-preserved
loop-file-preserved g c =
    let passes = ends_from (g.C.Cmp.cmp c.args.ucmp.now) c.args.key.now in
    let file = c.in-Some.file.now in
    let rest = c.in-Some.rest.now in
    c.loop-file.invariant
    ∙ (ap (λ (fs : List (ℕ × FileMetaData)). list_any passes (map new_file_of fs)) c.in-Some.ensures.cases.0
    ∙ (any_last passes new_file_of rest file false (sym c.ends_from.ensures ∙ c.if-ends_from.false) ∙ or_false (list_any passes (map new_file_of rest))))
