use Rattle.std.proofs.Common.{◌≡◌, Option, Vec, ap, subst, ℕ}
use Rattle.std.specs.Borrow.{Bor}
use Rattle.std.specs.Global.{Global}
use Rattle.std.specs.Prelude.{IfSome}
use Rattle.leveldb_base.specs.declared.types.FileMetaData.{FileMetaData}
use Rattle.leveldb_version_set.proofs.Compactions.CompactionCallLemmas.{kept_through}
use Rattle.leveldb_version.specs.Versions.Version.{borrowed_files, new_files_of}
use Rattle.leveldb_version_set.specs.declared.compaction.inputs.Inputs.{Inputs}
use Rattle.leveldb_version_set.proofs.compaction.pick.compaction_of.Goals as goal

pub returns-clause-keeps : goal.returns-clause-keeps
returns-clause-keeps g c = λ ordered file d.
    let same = subst (λ (o : Option Inputs). IfSome o (λ it. it.of_level ≡ c.args.chosen)) c.in-Some.is c.in_ok-begun.ensures.same in
    kept_through (borrowed_files c.args.chosen.items) (new_files_of c.in_ok-compaction.compaction.inputs) c.in-Some.narrow c.in_ok-inputs.inputs
    (ap (λ (v : Vec (Bor (ℕ × FileMetaData)) Global). borrowed_files v.items) same)
    (c.in_ok-inputs.ensures.keeps ordered) c.in_ok-compaction.ensures.inputs file d
