use Rattle.std.proofs.Common.{refl}
use Rattle.leveldb_version_set.specs.Sets.VersionSetValue.{with_number_given}
use Rattle.leveldb_version_set.proofs.Sets.CurrentVersionLemmas.{only_numbers, still_current, versions_after_err, versions_after_ok}
use Rattle.leveldb_version_set.proofs.version_set.set.VersionSet.new_file_number.Goals as goal

pub invariant_of-self : goal.invariant_of-self
invariant_of-self g c =
    still_current c.self.inside.current.cmp c.self.inside.files c.new_file_number.new.self c.self.inside.current
    (only_numbers c.new_file_number.result c.self.inside.files (with_number_given c.self.inside.files) c.new_file_number.new.self refl c.new_file_number.ensures.ok c.new_file_number.ensures.err) c.self.invariant

pub returns-clause-ok : goal.returns-clause-ok
returns-clause-ok g c =
    rw (← c.self.view_is)
    (versions_after_ok c.self.inside.current c.new_file_number.result (with_number_given c.self.inside.files) c.new_file_number.new.self c.new_file_number.ensures.ok)

pub returns-clause-err : goal.returns-clause-err
returns-clause-err g c =
    rw (← c.self.view_is)
    (versions_after_err c.self.inside.current c.new_file_number.result c.self.inside.files c.new_file_number.new.self c.new_file_number.ensures.err)
