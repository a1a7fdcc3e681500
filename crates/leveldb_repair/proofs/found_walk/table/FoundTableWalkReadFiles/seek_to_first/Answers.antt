use Rattle.std.proofs.Common.{Err, refl}
use Rattle.leveldb_repair.proofs.FoundWalkTableLemmas.{has_moved, internal_laws, seeks_first, walk_refused}
use Rattle.leveldb_repair.specs.declared.found_walk.table.FoundMove.TheVariants.{First}
use Rattle.leveldb_repair.proofs.found_walk.table.FoundTableWalkReadFiles.seek_to_first.Goals as goal

pub returns-in_err-move_in_found : goal.returns-in_err-move_in_found
returns-in_err-move_in_found g c = record {
  moves = walk_refused _ g.E.Env g.K.Compressors.codings _ _ (c.args.env.now, c.args.files.now) c.args.self.now c.from_residual.result (c.move_in_found.new.env, c.args.files.now) c.move_in_found.new.walk c.from_residual.ensures.1
      (has_moved _ g.E.Env g.K.Compressors.codings
      (internal_laws _ g.C.Cmp (λ c. refl) (λ c. refl) g.met.C.Cmp.preorder g.met.C.UserCmp.accepts_all)
      First (c.args.env.now, c.args.files.now) c.args.self.now (Err c.in_err-move_in_found.field-0.0) (c.move_in_found.new.env, c.args.files.now) c.move_in_found.new.walk refl c.in_err-move_in_found.ensures);
}

pub returns : goal.returns
returns g c = record {
  moves = seeks_first _ g.E.Env g.K.Compressors.codings
      (internal_laws _ g.C.Cmp (λ c. refl) (λ c. refl) g.met.C.Cmp.preorder g.met.C.UserCmp.accepts_all)
      (c.args.env.now, c.args.files.now) c.args.self.now (c.move_in_found.new.env, c.args.files.now) c.move_in_found.new.walk refl c.in_ok-move_in_found.field-0 c.in_ok-move_in_found.ensures;
}
