use Rattle.std.proofs.Common.{◌≡◌, ◌∙◌, ap, subst}
use Rattle.leveldb_base.specs.KeyTypes.{user_part}
use Rattle.leveldb_files.specs.Levels.Overlap.{AreInputs, UserRange, named_range}
use Rattle.leveldb_version.specs.Versions.Version.{borrowed_files, new_files_of}
use Rattle.leveldb_files.proofs.Levels.OverlapLemmas.{if_ok_more}
use Rattle.leveldb_version.proofs.version.Version.overlapping_inputs.Goals as goal

pub returns-clause-ok : goal.returns-clause-ok
returns-clause-ok g c =
    let version = c.args.self.now in
    let narrow_is : c.named.result ≡ named_range (user_part c.args.begin.now) (user_part c.args.end.now) =
    c.named.ensures
    ∙ ap (λ begin. named_range begin c.split_sequence-2.result.0.now) c.split_sequence.ensures.user
    ∙ ap (named_range (user_part c.args.begin.now)) c.split_sequence-2.ensures.user in
    if_ok_more c.inputs_of.result c.inputs_of.ensures.ok (λ inputs are.
    subst (λ (range : UserRange). AreInputs (g.C.Cmp.cmp version.cmp) c.args.level range (new_files_of version) (borrowed_files inputs.items)) narrow_is are)
