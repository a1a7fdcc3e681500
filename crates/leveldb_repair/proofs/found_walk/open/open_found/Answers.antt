use Rattle.leveldb_repair.proofs.FoundWalkOpenLemmas.{found_at_path, path_refused}
use Rattle.leveldb_repair.proofs.found_walk.open.open_found.Goals as goal

pub returns-in_err-file : goal.returns-in_err-file
returns-in_err-file g c =
    path_refused _ g.E.Env g.C.Cmp _ c.args.cmp c.args.path.now c.args.env.now c.open_file.new.env c.from_residual.result c.from_residual.ensures.1 c.in_err-file.ensures

pub returns : goal.returns
returns g c =
    found_at_path _ g.E.Env g.C.Cmp _ c.args.cmp c.args.path.now c.args.env.now c.open_file.new.env c.in_ok-file.file c.in_ok-file.size c.open.new.env c.open.result c.in_ok-file.ensures c.open.ensures
