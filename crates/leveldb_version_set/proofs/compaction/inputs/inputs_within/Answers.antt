use Rattle.std.proofs.Common.{◌≡◌, ◌∙◌, ap, subst}
use Rattle.leveldb_base.specs.CmpLaws.{total_order}
use Rattle.leveldb_base.specs.KeyTypes.{user_part}
use Rattle.leveldb_version_set.proofs.Compactions.InputsLemmas.{inputs_are_chosen}
use Rattle.leveldb_files.proofs.Levels.OverlapLemmas.{if_ok_more}
use Rattle.leveldb_version.specs.Versions.DeeperLevels.{closed_range}
use Rattle.leveldb_files.specs.Levels.Overlap.{AreInputs, UserRange}
use Rattle.leveldb_version.specs.Versions.Version.{borrowed_files, new_files_of}
use Rattle.leveldb_version_set.proofs.compaction.inputs.inputs_within.Goals as goal

pub returns-clause-chosen : goal.returns-clause-chosen
returns-clause-chosen g c =
    let version = c.args.version.now in
    if_ok_more c.inputs_between.result c.inputs_between.ensures.ok (λ chosen are.
    inputs_are_chosen (g.C.Cmp.cmp version.cmp) (total_order (g.met.C.Cmp.preorder version.cmp) (g.met.C.UserCmp.accepts_all version.cmp))
    c.args.level (closed_range c.split_sequence.result.0.now c.split_sequence-2.result.0.now) (new_files_of version) (borrowed_files chosen.items) are)

pub returns-clause-inputs : goal.returns-clause-inputs
returns-clause-inputs g c =
    let version = c.args.version.now in
    let range_is : closed_range c.split_sequence.result.0.now c.split_sequence-2.result.0.now ≡ closed_range (user_part c.args.low.now) (user_part c.args.high.now) =
    ap (λ begin. closed_range begin c.split_sequence-2.result.0.now) c.split_sequence.ensures.user
    ∙ ap (closed_range (user_part c.args.low.now)) c.split_sequence-2.ensures.user in
    if_ok_more c.inputs_between.result c.inputs_between.ensures.ok (λ chosen are.
    subst (λ (range : UserRange). AreInputs (g.C.Cmp.cmp version.cmp) c.args.level range (new_files_of version) (borrowed_files chosen.items)) range_is are)
