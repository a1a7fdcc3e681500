use Rattle.leveldb_base.specs.CmpLaws.{total_order}
use Rattle.leveldb_base.specs.KeyTypes.{user_part}
use Rattle.leveldb_version_set.proofs.Compactions.InputsLemmas.{inputs_are_chosen}
use Rattle.leveldb_files.proofs.Levels.OverlapLemmas.{if_ok_more}
use Rattle.leveldb_files.specs.Levels.Overlap.{named_range}
use Rattle.leveldb_version.specs.Versions.Version.{borrowed_files, new_files_of}
use Rattle.leveldb_version_set.proofs.compaction.inputs.inputs_in.Goals as goal

pub returns-clause-chosen : goal.returns-clause-chosen
returns-clause-chosen g c =
    let version = c.args.version.now in
    if_ok_more c.overlapping_inputs.result c.overlapping_inputs.ensures.ok (λ chosen are.
    inputs_are_chosen (g.C.Cmp.cmp version.cmp) (total_order (g.met.C.Cmp.preorder version.cmp) (g.met.C.UserCmp.accepts_all version.cmp))
    c.args.level (named_range (user_part c.args.begin.now) (user_part c.args.end.now)) (new_files_of version) (borrowed_files chosen.items) are)
