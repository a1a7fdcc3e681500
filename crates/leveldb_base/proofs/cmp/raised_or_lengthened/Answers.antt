use Rattle.std.proofs.Common.{rules}
use Rattle.std.proofs.lemmas.List.{set-set, set-get_or}
use Rattle.leveldb_base.proofs.cmp.raised_or_lengthened.Goals as goal

-- the byte that was raised is put back
pub returns-clause-ok : goal.returns-clause-ok
returns-clause-ok c = search (rules, set-set, set-get_or)
