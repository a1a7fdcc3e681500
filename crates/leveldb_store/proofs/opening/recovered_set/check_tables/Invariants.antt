use Rattle.std.proofs.Common.{◌≡◌, take}
use Rattle.std.specs.Prelude.{IsTrue}
use Rattle.leveldb_env.specs.Env.{FilesUnchanged, Run, SameLocks}
use Rattle.leveldb_version_set.proofs.Sets.UsableLemmas.{as_new_files}
use Rattle.leveldb_store.specs.Openings.OpensStore.{AreTablesThere}
use Rattle.leveldb_store.proofs.opening.recovered_set.check_tables.Given as goal

abbrev pub invariant-loop-file : goal.invariant-loop-file
invariant-loop-file g l = record {
  still : IsTrue g.E.Env.models_disk → Run (FilesUnchanged (g.E.Env.observed l.initial.env).disk.files) (g.E.Env.observed l.initial.env) (g.E.Env.observed l.env);
  locks : SameLocks g.E.Env.models_disk (g.E.Env.observed l.initial.env) (g.E.Env.observed l.env);
  there : IsTrue g.E.Env.models_disk → AreTablesThere l.store (g.E.Env.observed l.initial.env).disk.files (as_new_files (take l.file-index l.files));
  uncounted : g.E.Env.failures l.env ≡ g.E.Env.failures l.initial.env;
}
