use Rattle.std.proofs.Common.{ap}
use Rattle.leveldb_version_set.specs.Sets.VersionSetValue.{VersionSetValue}
use Rattle.leveldb_version_set.proofs.Sets.CurrentVersionLemmas.{still_current}
use Rattle.leveldb_version_set.proofs.version_set.set.VersionSet.set_last_seq.Goals as goal

pub invariant_of-self : goal.invariant_of-self
invariant_of-self g c =
    still_current c.self.inside.current.cmp c.self.inside.files c.set_last_seq.new.self c.self.inside.current
    (ap (λ (s : VersionSetValue). s.full) c.set_last_seq.ensures) c.self.invariant
