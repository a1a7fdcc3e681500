-- What an environment over the files of the system reports of the present moment. These are in
-- specs/ since its impl of `Env` proves its laws by them.
use Rattle.std.specs.Prelude.{◌≡◌, false, IsTrue}
use Rattle.std.proofs.lemmas.Bool.{false≢true}
use Rattle.leveldb_env.specs.Env.{Files}
use Rattle.leveldb_disks.specs.DiskEnv.{nothing_observed}

pub disk_only_now : (files : Files) → nothing_observed.at_moment nothing_observed.moment files
    → files ≡ nothing_observed.disk.files
disk_only_now files were = absurd were

pub disk_counts_now : IsTrue false
    → nothing_observed.at_moment nothing_observed.moment nothing_observed.disk.files
disk_counts_now modelled = absurd (false≢true modelled)
