use Rattle.std.proofs.Common.{ap, arith}
use Rattle.leveldb_version.proofs.Walks.VersionIterLemmas.{walk_last, walk_last_none, walk_refused}
use Rattle.leveldb_version.proofs.version_iter.VersionIterWalkReadTables.seek_to_last.Goals as goal

pub returns-in_default : goal.returns-in_default
returns-in_default g c = record {
  moves = walk_last_none _ g.E.Env g.C.Cmp g.FP.FilterPolicy g.K.Compressors.codings (c.args.env.now, c.args.tables.now) c.args.self.now c.leave.new.self c.leave.ensures.core c.leave.ensures.at (ap (λ f. f.now) c.leave.ensures.files) (omega (arith, c.in_default.ensures));
}

pub returns-in_err-to_file : goal.returns-in_err-to_file
returns-in_err-to_file g c = record {
  moves = walk_refused _ g.E.Env g.C.Cmp g.FP.FilterPolicy g.K.Compressors.codings _ _ (c.args.env.now, c.args.tables.now) c.args.self.now c.from_residual.result (c.to_file.new.env, c.to_file.new.tables) c.to_file.new.self c.from_residual.ensures.1 c.in_err-to_file.ensures.moves;
}

pub returns : goal.returns
returns g c = record {
  moves = walk_last _ g.E.Env g.C.Cmp g.FP.FilterPolicy g.K.Compressors.codings c.in-Some.last (c.args.env.now, c.args.tables.now) c.args.self.now (omega (arith, c.in-Some.ensures)) (c.to_file.new.env, c.to_file.new.tables) c.to_file.new.self c.in_ok-to_file.ensures;
}
