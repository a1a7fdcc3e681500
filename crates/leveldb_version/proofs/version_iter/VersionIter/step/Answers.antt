use Rattle.std.proofs.Common.{ap, get_or, refl}
use Rattle.std.proofs.lemmas.Option.{slice_get-get_or}
use Rattle.leveldb_version.proofs.Walks.VersionIterLemmas.{kept_given, steps_in_file, steps_past, steps_ungiven}
use Rattle.leveldb_version.proofs.version_iter.VersionIter.step.Goals as goal

pub returns-then-at-self : goal.returns-then-at-self
returns-then-at-self g c =
    steps_past _ g.E.Env g.C.Cmp g.FP.FilterPolicy g.K.Compressors.codings c.args.to (c.args.env.now, c.args.tables.now) c.args.self.now c.leave.new.self c.leave.ensures.core c.leave.ensures.at (ap (λ f. f.now) c.leave.ensures.files) c.if-at-self.true

pub returns-then-number-tables : goal.returns-then-number-tables
returns-then-number-tables g c =
    let files = c.args.self.now.files.now in
    let at = c.args.self.now.at in
    let left = c.leave-then-number-tables in
    steps_ungiven _ g.E.Env g.C.Cmp g.FP.FilterPolicy g.K.Compressors.codings c.args.to (c.args.env.now, c.args.tables.now) c.args.self.now left.new.self left.ensures.core left.ensures.at (ap (λ f. f.now) left.ensures.files)
    (get_or files at c.index-self-at.result) (slice_get-get_or files at c.index-self-at.result c.if-at-self.false) c.if-number-tables.true c.err.result c.err.ensures.code

pub returns : goal.returns
returns g c =
    let files = c.args.self.now.files.now in
    let at = c.args.self.now.at in
    steps_in_file _ g.E.Env g.C.Cmp g.FP.FilterPolicy g.K.Compressors.codings (λ cmp. refl) c.args.to (c.args.env.now, c.args.tables.now) c.args.self.now c.move_in_table.result _ c.move_in_table.new.core (get_or files at c.index-self-at.result) (slice_get-get_or files at c.index-self-at.result c.if-at-self.false)
    (kept_given _ g.E.Env g.C.Cmp g.FP.FilterPolicy g.K.Compressors.codings (c.args.env.now, c.args.tables.now) _ c.if-number-tables.false refl refl refl refl refl c.move_in_table.ensures) c.move_in_table.ensures
