use Rattle.std.proofs.Common.{refl}
use Rattle.leveldb_version_set.specs.Sets.VersionSetValue.{with_numbers_used}
use Rattle.leveldb_version_set.proofs.Sets.CurrentVersionLemmas.{only_numbers, still_current, versions_after_err, versions_after_ok}
use Rattle.leveldb_version_set.proofs.version_set.set.VersionSet.mark_file_number_used.Goals as goal

pub invariant_of-self : goal.invariant_of-self
invariant_of-self g c =
    still_current c.self.inside.current.cmp c.self.inside.files c.mark_file_number_used.new.self c.self.inside.current
    (only_numbers c.mark_file_number_used.result c.self.inside.files (with_numbers_used c.self.inside.files c.args.num) c.mark_file_number_used.new.self refl c.mark_file_number_used.ensures.ok c.mark_file_number_used.ensures.err) c.self.invariant

pub returns-clause-ok : goal.returns-clause-ok
returns-clause-ok g c =
    rw (← c.self.view_is)
    (versions_after_ok c.self.inside.current c.mark_file_number_used.result (with_numbers_used c.self.inside.files c.args.num) c.mark_file_number_used.new.self c.mark_file_number_used.ensures.ok)

pub returns-clause-err : goal.returns-clause-err
returns-clause-err g c =
    rw (← c.self.view_is)
    (versions_after_err c.self.inside.current c.mark_file_number_used.result c.self.inside.files c.mark_file_number_used.new.self c.mark_file_number_used.ensures.err)
