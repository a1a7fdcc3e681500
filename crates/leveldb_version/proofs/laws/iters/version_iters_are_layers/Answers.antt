use Rattle.std.specs.Prelude.{nat_le}
use Rattle.std.proofs.Common.{◌&&◌, ◌∙◌, ap, length, refl}
use Rattle.leveldb_base.specs.KeyTypes.{user_part}
use Rattle.leveldb_version.proofs.Walks.VersionLayersLemmas.{version_iters_are_layers}
use Rattle.leveldb_version.proofs.laws.iters.version_iters_are_layers.Goals as goal

pub returns-clause-layers : goal.returns-clause-layers
returns-clause-layers g c = λ codings. version_iters_are_layers _ g.E.Env g.C.Cmp g.FP.FilterPolicy codings

pub returns-clause-orders : goal.returns-clause-orders
returns-clause-orders g c = λ cmp. record {
  cmp_is = refl;
  accepts = λ key takes. ap (λ b. nat_le 8 (length key) && b) (g.met.C.UserCmp.accepts_all cmp (user_part key)) ∙ takes;
}
