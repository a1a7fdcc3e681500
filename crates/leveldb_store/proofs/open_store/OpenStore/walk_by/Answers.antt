use Rattle.std.proofs.Common.{◌≡◌, ◌∙◌, rules, sym}
use Rattle.leveldb_store.proofs.Reading.ViewLemmas.{walked_by}
use Rattle.leveldb_store.proofs.open_store.OpenStore.walk_by.Goals as goal

pub returns : goal.returns
returns g c =
    let made = c.walk_in-walked.ensures.walks in
    let same = sym (c.walk_in-walked.ensures.reference ∙ c.reading-reading.ensures.reference) in (
      made.0,
      made.1,
      walked_by g.E.Env g.C.Cmp g.FP.FilterPolicy g.K.Compressors.codings c.args.self.now c.args.cmp c.args.policy c.args.compressors.now c.args.tables.now c.reading-reading.result c.reading-reading.ensures.reads
          c.args.env.now c.args.sequence c.args.moves.now made.0 c.walk_in-walked.result c.walk_in-walked.new.env c.walk_in-walked.new.reading.cache.now _ (search (rules, same)) made.2,
    )
