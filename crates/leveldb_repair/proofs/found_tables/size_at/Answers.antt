use Rattle.std.proofs.Common.{rules}
use Rattle.leveldb_repair.proofs.OpenFileLemmas.{Looks, sizes}
use Rattle.leveldb_repair.proofs.found_tables.size_at.Goals as goal

pub returns : goal.returns
returns g c =
    let size = c.size_of.ensures in
    let looked : Looks g.E.Env c.args.path.now c.args.env.now c.size_of.new.self c.size_of.result c.found.result =
    record { does = size.does; locks = size.locks; cause = size.cause; found = c.found.ensures } in
    sizes g.E.Env c.args.path.now c.found.result looked size.ok size.there (search rules)
