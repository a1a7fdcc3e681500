use Rattle.std.proofs.Common.{Err, Ok}
use Rattle.leveldb_repair.proofs.OpenFileLemmas.{Looks, opened, unopened, unsized}
use Rattle.leveldb_repair.proofs.found_walk.open.open_file.Goals as goal

pub returns-in_err-size : goal.returns-in_err-size
returns-in_err-size g c =
    let size = c.size_of.ensures in
    let looked : Looks g.E.Env c.args.path.now c.args.env.now c.size_of.new.self c.size_of.result (Err c.in_err-size.field-0.0) =
    record { does = size.does; locks = size.locks; cause = size.cause; found = c.in_err-size.ensures } in
    unsized g.E.Env c.args.path.now c.from_residual.result c.from_residual.ensures.1 looked

pub returns-in_err-file : goal.returns-in_err-file
returns-in_err-file g c =
    let size = c.size_of.ensures in
    let file = c.open_random_access_file.ensures in
    let sized : Looks g.E.Env c.args.path.now c.args.env.now c.size_of.new.self c.size_of.result (Ok c.in_ok-size.size) =
    record { does = size.does; locks = size.locks; cause = size.cause; found = c.in_ok-size.ensures } in
    let looked : Looks g.E.Env c.args.path.now c.size_of.new.self c.open_random_access_file.new.self c.open_random_access_file.result (Err c.in_err-file.field-0.0) =
    record { does = file.does; locks = file.locks; cause = file.cause; found = c.in_err-file.ensures } in
    unopened g.E.Env c.args.path.now sized c.from_residual-in_err-file.result c.from_residual-in_err-file.ensures.1 looked

pub returns : goal.returns
returns g c =
    let size = c.size_of.ensures in
    let file = c.open_random_access_file.ensures in
    let sized : Looks g.E.Env c.args.path.now c.args.env.now c.size_of.new.self c.size_of.result (Ok c.in_ok-size.size) =
    record { does = size.does; locks = size.locks; cause = size.cause; found = c.in_ok-size.ensures } in
    let looked : Looks g.E.Env c.args.path.now c.size_of.new.self c.open_random_access_file.new.self c.open_random_access_file.result (Ok c.in_ok-file.file) =
    record { does = file.does; locks = file.locks; cause = file.cause; found = c.in_ok-file.ensures } in
    opened g.E.Env c.args.path.now sized looked size.ok size.there file.file
