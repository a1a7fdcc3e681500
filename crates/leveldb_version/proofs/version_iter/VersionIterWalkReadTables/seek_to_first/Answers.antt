use Rattle.leveldb_version.proofs.Walks.VersionIterLemmas.{walk_first, walk_refused}
use Rattle.leveldb_version.proofs.version_iter.VersionIterWalkReadTables.seek_to_first.Goals as goal

pub returns-in_err-to_file : goal.returns-in_err-to_file
returns-in_err-to_file g c = record {
  moves = walk_refused _ g.E.Env g.C.Cmp g.FP.FilterPolicy g.K.Compressors.codings _ _ (c.args.env.now, c.args.tables.now) c.args.self.now c.from_residual.result (c.to_file.new.env, c.to_file.new.tables) c.to_file.new.self c.from_residual.ensures.1 c.in_err-to_file.ensures.moves;
}

pub returns : goal.returns
returns g c = record {
  moves = walk_first _ g.E.Env g.C.Cmp g.FP.FilterPolicy g.K.Compressors.codings (c.args.env.now, c.args.tables.now) c.args.self.now (c.to_file.new.env, c.to_file.new.tables) c.to_file.new.self c.in_ok-to_file.ensures;
}
