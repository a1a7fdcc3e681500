use Rattle.std.proofs.Common.{◌∙◌, rules, sym}
use Rattle.leveldb_store.proofs.Compactions.MergeFilesLemmas.{replaced_in}
use Rattle.leveldb_store.proofs.open_store.OpenStore.merge_by.Goals as goal

pub returns : goal.returns
returns g c =
    let same = sym (c.merge_in-merged.ensures.reference ∙ c.reading-reading.ensures.reference) in
    record {
      makes = replaced_in g.E.Env _ c.reading-reading.ensures.reads.cache_is (search (rules, same)) c.merge_in-merged.ensures.makes;
    }
