use Rattle.leveldb_files.proofs.Steps.ComposeLemmas.{part_safe, steps_compose as compose}
use Rattle.leveldb_files.proofs.laws.stores.steps_compose.Goals as goal

pub returns : goal.returns
returns g c = record {
  part = λ store. part_safe store _ g.F.StoreFormat.allowed;
  both = λ store least durable later first second whole a b c.
      compose store _ g.F.StoreFormat.allowed least durable later first second whole _ _ _;
}
