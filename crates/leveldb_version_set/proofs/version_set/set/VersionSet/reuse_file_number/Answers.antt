use Rattle.std.proofs.Common.{ap}
use Rattle.leveldb_version_set.specs.Sets.VersionSetValue.{VersionSetValue}
use Rattle.leveldb_version_set.proofs.Sets.CurrentVersionLemmas.{still_current, with_version}
use Rattle.leveldb_version_set.proofs.version_set.set.VersionSet.reuse_file_number.Goals as goal

pub invariant_of-self : goal.invariant_of-self
invariant_of-self g c =
    still_current c.self.inside.current.cmp c.self.inside.files c.reuse_file_number.new.self c.self.inside.current
    c.reuse_file_number.ensures.files c.self.invariant

pub returns-clause-last : goal.returns-clause-last
returns-clause-last g c =
    rw (← c.self.view_is)
    (λ given. ap (λ (s : VersionSetValue). with_version s c.self.inside.current) (c.reuse_file_number.ensures.last given))

pub returns-clause-other : goal.returns-clause-other
returns-clause-other g c =
    rw (← c.self.view_is)
    (λ other. ap (λ (s : VersionSetValue). with_version s c.self.inside.current) (c.reuse_file_number.ensures.other other))
