use Rattle.std.proofs.Common.{◌≡◌, ◌∙◌, ◌+◌, ◌++◌, ◌∷◌, [], Bor, List, ℕ, append_assoc, ap, map, sym, take}
use Rattle.std.specs.Prelude.{string_bytes}
use Rattle.leveldb_files.proofs.Levels.SummaryLemmas.{lead_after, lead_more, none_more, one_more, text_more}
use Rattle.leveldb_files.specs.Levels.Summary.{file_text, files_of_level, files_text}
use Rattle.leveldb_files.specs.Edits.Edit.{NewFile}
use Rattle.leveldb_version.specs.Edits.VersionEdit.{new_file_of}
use Rattle.leveldb_version.proofs.version.summary.put_files.Goals as goal
use Rattle.leveldb_version.proofs.version.summary.put_files.Goals.{then-file-level+in_ok-put_file, else-file-level}

pub loop-file-preserved : goal.loop-file-preserved
loop-file-preserved c =
    let start : List ℕ = string_bytes c.args.text.now in
    let file : NewFile = new_file_of c.file-item.result in
    let before : List NewFile = files_of_level c.args.level (map new_file_of (take c.loop-file.file-index c.args.files.now)) in
    elim c.if-file-level.branch [
      | then-file-level+in_ok-put_file w ↦
          let more : files_of_level c.args.level (map new_file_of (take (c.loop-file.file-index + 1) c.args.files.now)) ≡ before ++ file ∷ [] =
          one_more new_file_of c.args.level c.args.files.now c.loop-file.file-index c.file-item.result c.loop-file-test.true (sym c.file-item.is) w.if-file-level.true in
          record {
            text = ap string_bytes w.text-is ∙ w.in_ok-put_file.ensures.ok
                ∙ ap (λ z. z ++ (c.loop-file.lead.now ++ file_text file)) c.loop-file.invariant.text
                ∙ append_assoc start (files_text [] before) (c.loop-file.lead.now ++ file_text file)
                ∙ ap (λ z. start ++ (files_text [] before ++ (z ++ file_text file))) c.loop-file.invariant.lead
                ∙ ap (λ z. start ++ z) (sym (text_more before file))
                ∙ ap (λ z. start ++ files_text [] z) (sym more);
            lead = ap (λ (b : Bor (List ℕ)). b.now) w.lead-is ∙ sym (lead_more before file) ∙ ap lead_after (sym more);
          }
      | else-file-level w ↦
          let more : files_of_level c.args.level (map new_file_of (take (c.loop-file.file-index + 1) c.args.files.now)) ≡ before =
          none_more new_file_of c.args.level c.args.files.now c.loop-file.file-index c.file-item.result c.loop-file-test.true (sym c.file-item.is) w.if-file-level.false in
          record {
            text = ap string_bytes w.text-is ∙ c.loop-file.invariant.text ∙ ap (λ z. start ++ files_text [] z) (sym more);
            lead = ap (λ (b : Bor (List ℕ)). b.now) w.lead-is ∙ c.loop-file.invariant.lead ∙ ap lead_after (sym more);
          }
    ]
