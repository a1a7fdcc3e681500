use Rattle.leveldb_env.proofs.AppendedLemmas.{renamed_bytes}
use Rattle.leveldb_env.proofs.EnvLemmas.{ChangesFiles-refused, cause_after}
use Rattle.leveldb_env.proofs.WholeFilesLemmas.{ChangesFiles-found, at_rename, found_cause, there_at_rename, written_aside}
use Rattle.leveldb_env.proofs.env.whole_files.replace_file.Goals as goal

pub returns-in_err-write_file-clause-does : goal.returns-in_err-write_file-clause-does
returns-in_err-write_file-clause-does g c = λ modelled.
    ChangesFiles-refused c.from_residual.ensures.0
    (written_aside c.args.temp.now c.args.name.now c.args.bytes.now c.requires modelled (c.in_err-write_file.ensures.does modelled))

pub returns-clause-does : goal.returns-clause-does
returns-clause-does g c = λ modelled.
    ChangesFiles-found c.args.temp.now c.rename.result c.found.result c.found.ensures
    (at_rename c.args.temp.now c.args.name.now c.args.bytes.now c.requires modelled (c.in_ok-write_file.ensures.does modelled) c.rename.ensures.does)

pub returns-clause-cause : goal.returns-clause-cause
returns-clause-cause g c =
    found_cause c.args.temp.now c.rename.result c.found.result
    (λ gone modelled. there_at_rename c.args.temp.now c.args.name.now c.args.bytes.now c.requires modelled (c.in_ok-write_file.ensures.does modelled) (gone modelled))
    c.found.ensures (cause_after c.in_ok-write_file.ensures.cause.ok c.rename.ensures.cause)

pub returns-clause-bytes : goal.returns-clause-bytes
returns-clause-bytes g c = λ modelled before.
    renamed_bytes c.args.temp.now c.args.name.now _ _ (c.rename.ensures.does.now modelled) (c.in_ok-write_file.ensures.bytes modelled before)
