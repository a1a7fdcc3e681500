use Rattle.std.proofs.Common.{◌≡◌, ◌∙◌, ◌+◌, List, ap, subst, ℕ}
use Rattle.std.specs.Borrow.{Bor}
use Rattle.leveldb_base.specs.KeyTypes.{user_part}
use Rattle.leveldb_base.specs.declared.types.FileMetaData.{FileMetaData}
use Rattle.leveldb_version_set.proofs.Compactions.InputsLemmas.{taken_with_next}
use Rattle.leveldb_version.specs.Versions.DeeperLevels.{closed_range}
use Rattle.leveldb_version_set.specs.Compactions.Inputs.{AreKeyEnds}
use Rattle.leveldb_files.specs.Levels.Overlap.{overlapping}
use Rattle.leveldb_version.specs.Versions.Version.{borrowed_files, new_files_of}
use Rattle.leveldb_version_set.proofs.compaction.inputs.with_next.Goals as goal

pub returns-clause-may : goal.returns-clause-may
returns-clause-may g c =
    let cmp = g.C.Cmp.cmp c.args.version.now.cmp in
    let files = new_files_of c.args.version.now in
    let low = c.in-Some.first.now in
    let high = c.in-Some.last.now in
    let next : borrowed_files c.in_ok-of_next.of_next.items ≡ overlapping cmp (c.args.level + 1) (closed_range (user_part low) (user_part high)) files =
    c.in_ok-of_next.ensures.ok
    ∙ (ap (λ l. overlapping cmp (c.args.level + 1) (closed_range l c.split_sequence-2.result.0.now) files) c.split_sequence.ensures.user
    ∙ ap (λ h. overlapping cmp (c.args.level + 1) (closed_range (user_part low) h) files) c.split_sequence-2.ensures.user) in
    taken_with_next cmp files c.args.level (record { of_level = c.args.chosen; of_next = c.in_ok-of_next.of_next }) low high c.requires.level c.requires.chosen
    (subst (λ (u : g.row.C.Denot). AreKeyEnds (g.C.Cmp.cmp u) (borrowed_files c.args.chosen.items) low high) c.ucmp.ensures
    (subst (λ (all : List (Bor (ℕ × FileMetaData))). AreKeyEnds (g.C.Cmp.cmp c.ucmp.result.now) (borrowed_files all) low high) c.as_slice.ensures.value c.in-Some.ensures.ends)) next
