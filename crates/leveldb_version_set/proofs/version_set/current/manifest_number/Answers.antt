use Rattle.leveldb_base.specs.declared.types.FileType.TheVariants.{Descriptor}
use Rattle.leveldb_files.proofs.Edits.CurrentLemmas.{other_use}
use Rattle.leveldb_version_set.proofs.version_set.current.manifest_number.Goals as goal

pub returns-in_err-number : goal.returns-in_err-number
returns-in_err-number c = rw c.from_residual.ensures (λ n. c.in_err-number.ensures n Descriptor)

pub returns-in_default : goal.returns-in_default
returns-in_default c =
    λ n. other_use c.args.name.now c.in_ok-number.number n c.in_ok-number.kind c.in_default.not-Descriptor c.in_ok-number.ensures
