use Rattle.std.proofs.Common.{refl}
use Rattle.leveldb_repair.proofs.FoundWalkTableLemmas.{internal_laws, steps_back}
use Rattle.leveldb_repair.proofs.found_walk.table.FoundTableWalkReadFiles.prev.Goals as goal

pub returns-clause-moves : goal.returns-clause-moves
returns-clause-moves g c =
    steps_back _ g.E.Env g.K.Compressors.codings
    (internal_laws _ g.C.Cmp (λ c. refl) (λ c. refl) g.met.C.Cmp.preorder g.met.C.UserCmp.accepts_all)
    (c.args.env.now, c.args.files.now) c.args.self.now (c.move_in_found.new.env, c.args.files.now) c.move_in_found.new.walk refl c.move_in_found.result c.move_in_found.ensures
