use Rattle.std.proofs.Common.{◌≡◌, ◌∙◌, ℕ, List, [], Vec, ap, arith, false, subst, sym, take}
use Rattle.std.specs.Borrow.{Bor}
use Rattle.std.specs.Prelude.{Contains, Some, slice_get}
use Rattle.std.specs.Global.{Global}
use Rattle.leveldb_base.specs.CmpLaws.{total_order}
use Rattle.leveldb_base.specs.KeyTypes.{user_part}
use Rattle.leveldb_base.specs.declared.types.FileMetaData.{FileMetaData}
use Rattle.leveldb_version_set.proofs.Compactions.InputsLemmas.{first_are_chosen}
use Rattle.leveldb_files.proofs.Levels.OverlapLemmas.{if_ok_more}
use Rattle.leveldb_version.proofs.Versions.SearchLemmas.{kept_passes}
use Rattle.leveldb_version_set.proofs.Compactions.PickingLemmas.{borrowed_none, borrowed_taken, first_in, first_taken, none_are_inputs, none_overlaps, none_past, none_taken, of_range, overlapping_is_input, some_exactly, taken_borrowed}
use Rattle.leveldb_version_set.specs.Compactions.Inputs.{AreChosen, IsCountPast}
use Rattle.leveldb_files.specs.Levels.Overlap.{AreInputs, UserRange, is_overlapped, named_range, overlapping, overlaps}
use Rattle.leveldb_files.specs.Levels.Summary.{files_of_level}
use Rattle.leveldb_version.specs.Versions.Version.{borrowed_files, new_files_of}
use Rattle.leveldb_files.specs.Edits.Edit.{NewFile}
use Rattle.leveldb_version_set.proofs.compaction.pick.compact_range.Goals as goal
use Rattle.leveldb_version_set.proofs.compaction.pick.compact_range.Goals.{then-level-gt0, else-level-gt0}

pub compaction_of-requires-clause-chosen : goal.compaction_of-requires-clause-chosen
compaction_of-requires-clause-chosen g c =
    let cmp = g.C.Cmp.cmp c.args.version.now.cmp in
    let files = new_files_of c.args.version.now in
    elim c.if-level-gt0.branch [
      | then-level-gt0 w ↦
          subst (λ (chosen : Vec (Bor (ℕ × FileMetaData)) Global). AreChosen cmp files c.args.level (borrowed_files chosen.items)) (sym w.chosen-is)
          (subst (λ (chosen : List (Bor (ℕ × FileMetaData))). AreChosen cmp files c.args.level (borrowed_files chosen)) (sym w.truncate.ensures.items)
          (first_are_chosen cmp c.args.level (λ (zero_is : c.args.level ≡ 0). absurd (omega (arith, w.if-level-gt0.true, zero_is))) files w.count_past-count.result c.in_ok-chosen.chosen.items c.in_ok-chosen.ensures.chosen))
      | else-level-gt0 w ↦
          subst (λ (chosen : Vec (Bor (ℕ × FileMetaData)) Global). AreChosen cmp files c.args.level (borrowed_files chosen.items)) (sym w.chosen-is) c.in_ok-chosen.ensures.chosen
    ]

pub returns-clause-ok : goal.returns-clause-ok
returns-clause-ok g c =
    let version = c.args.version.now in
    let cmp = g.C.Cmp.cmp version.cmp in
    let total = total_order (g.met.C.Cmp.preorder version.cmp) (g.met.C.UserCmp.accepts_all version.cmp) in
    let files = new_files_of version in
    let narrow = named_range (user_part c.args.begin.now) (user_part c.args.end.now) in
    let asks = is_overlapped cmp c.args.level narrow files in
    let all = c.in_ok-chosen.chosen.items in
    let left = c.if-level-gt0.chosen.items in
    let to : left ≡ [] → asks ≡ false = λ none.
    none_overlaps cmp total c.args.level narrow files
    (subst (λ (fs : List (Bor (ℕ × FileMetaData))). AreInputs cmp c.args.level narrow files (borrowed_files fs))
    (elim c.if-level-gt0.branch [
      | then-level-gt0 w ↦
          let count = w.count_past-count.result in
          let cut : take count all ≡ [] = sym w.truncate.ensures.items ∙ (sym (ap (λ (chosen : Vec (Bor (ℕ × FileMetaData)) Global). chosen.items) w.chosen-is) ∙ none) in
          let past = subst (λ (fs : List (Bor (ℕ × FileMetaData))). IsCountPast c.args.max_file_size (borrowed_files fs) count) w.as_slice.ensures.value w.count_past-count.ensures in
          borrowed_none all (none_past c.args.max_file_size count (borrowed_files all) past (taken_borrowed count all cut))
      | else-level-gt0 w ↦ sym (ap (λ (chosen : Vec (Bor (ℕ × FileMetaData)) Global). chosen.items) w.chosen-is) ∙ none
    ])
    c.in_ok-chosen.ensures.inputs) in
    let back : asks ≡ false → left ≡ [] = λ no.
    let none : all ≡ [] = borrowed_none all (none_are_inputs cmp total c.args.level narrow files (borrowed_files all) c.in_ok-chosen.ensures.inputs no) in
    elim c.if-level-gt0.branch [
      | then-level-gt0 w ↦
          ap (λ (chosen : Vec (Bor (ℕ × FileMetaData)) Global). chosen.items) w.chosen-is ∙ (w.truncate.ensures.items ∙ none_taken w.count_past-count.result all none)
      | else-level-gt0 w ↦ ap (λ (chosen : Vec (Bor (ℕ × FileMetaData)) Global). chosen.items) w.chosen-is ∙ none
    ] in
    let has : (file : NewFile) → slice_get (overlapping cmp c.args.level narrow files) 0 ≡ Some file → Contains (borrowed_files left) file = λ file is.
    let there = kept_passes (overlaps cmp narrow) (files_of_level c.args.level files) file (first_in (overlapping cmp c.args.level narrow files) file is) in
    elim c.if-level-gt0.branch [
      | then-level-gt0 w ↦
          let count = w.count_past-count.result in
          let past = subst (λ (fs : List (Bor (ℕ × FileMetaData))). IsCountPast c.args.max_file_size (borrowed_files fs) count) w.as_slice.ensures.value w.count_past-count.ensures in
          let same : borrowed_files all ≡ overlapping cmp c.args.level narrow files =
          c.in_ok-chosen.ensures.inputs.inputs_are ∙ ap (λ (range : UserRange). overlapping cmp c.args.level range files) (c.in_ok-chosen.ensures.inputs.kept w.if-level-gt0.true) in
          subst (λ (fs : List (Bor (ℕ × FileMetaData))). Contains (borrowed_files fs) file) (sym (ap (λ (chosen : Vec (Bor (ℕ × FileMetaData)) Global). chosen.items) w.chosen-is ∙ w.truncate.ensures.items))
          (subst (λ (fs : List NewFile). Contains fs file) (sym (borrowed_taken count all))
          (first_taken c.args.max_file_size count (borrowed_files all) file past (subst (λ (fs : List NewFile). slice_get fs 0 ≡ Some file) (sym same) is)))
      | else-level-gt0 w ↦
          subst (λ (fs : List (Bor (ℕ × FileMetaData))). Contains (borrowed_files fs) file) (sym (ap (λ (chosen : Vec (Bor (ℕ × FileMetaData)) Global). chosen.items) w.chosen-is))
          (overlapping_is_input cmp total c.args.level narrow files (borrowed_files all) c.in_ok-chosen.ensures.inputs file there.0 there.1)
    ] in
    of_range cmp version c.args.level narrow c.args.max_file_size (borrowed_files left) c.compaction_of.result c.compaction_of.ensures.each c.compaction_of.ensures.level
    (if_ok_more c.compaction_of.result c.compaction_of.ensures.none (λ picked iff. some_exactly picked asks iff to back))
    c.compaction_of.ensures.keeps has
