use Rattle.std.proofs.Common.{rules, ◌≡◌}
use Rattle.leveldb_base.specs.declared.error.StatusCode.TheVariants.{Corruption}
use Rattle.leveldb_repair.proofs.numbers.edit_in.Goals as goal

pub returns-in-Err-clause-ok : goal.returns-in-Err-clause-ok
returns-in-Err-clause-ok c =
    let code : c.in-Err.status.code ≡ Corruption = search rules in
    c.in-Err.ensures.malformed code
