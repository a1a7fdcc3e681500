-- A repair as the program asks for it, whose tables are made by the program's choices.
use Rattle.std.specs.Prelude.{Result}
use Rattle.std.proofs.Common.{◌≡◌, ℕ, List, subst}
use Rattle.leveldb_base.specs.declared.error.Status.{Status}
use Rattle.leveldb_env.specs.Compressor.{Codings, plain_codings}
use Rattle.leveldb_env.specs.declared.env.Env.{Ghosts}
use Rattle.leveldb_store.specs.Tables.BuildTable.{TableChoices}
use Rattle.rusty_leveldb.specs.Programs.Program.{HasRepaired, ldb_choices, ldb_filters, ldb_keys, ldb_opening}
use Rattle.rusty_leveldb.specs.Repairs.Repair.{Repairs}
use Rattle.rusty_leveldb.specs.Machines.State.{Opening}

-- default options with plain blocks make tables by the program's choices
pub chooses_so : {codings : Codings} {policy id size restarts : ℕ} → codings ≡ plain_codings
    → policy ≡ 10 → id ≡ 0 → size ≡ 4096 → restarts ≡ 16
    → (record ldb_choices {
      format = record (ldb_opening.format) { codings = codings };
      policy = policy;
      id = id;
      block_size = size;
      restarts = restarts;
    }) ≡ ldb_choices
chooses_so same policy id size restarts = λ i. record ldb_choices {
  format = record (ldb_opening.format) { codings = same i };
  policy = policy i;
  id = id i;
  block_size = size i;
  restarts = restarts i;
}

pub repaired_folder : {E F : Type 0} (choices : TableChoices ldb_keys ldb_filters)
    (env : Ghosts E F) (folder : List ℕ) (wanted : Opening) (from to : E)
    (result : Result (Unit {0}) Status) → choices ≡ ldb_choices → wanted ≡ ldb_opening
    → Repairs env folder wanted from choices result to
    → HasRepaired env folder ldb_opening from result to
repaired_folder choices env folder wanted from to result so asks repairs =
    subst (λ (o : Opening). HasRepaired env folder o from result to) asks
    (subst (λ (c : TableChoices ldb_keys ldb_filters).
    Repairs env folder wanted from c result to) so repairs)
