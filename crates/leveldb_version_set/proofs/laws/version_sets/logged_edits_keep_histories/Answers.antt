use Rattle.leveldb_version_set.proofs.Sets.LogKeepsLemmas.{appended_edits_keep}
use Rattle.leveldb_version_set.proofs.Sets.NewManifestKeepsLemmas.{begun_edits_keep}
use Rattle.leveldb_version_set.proofs.laws.version_sets.logged_edits_keep_histories.Goals as goal

pub returns : goal.returns
returns g c = record {
  appended = λ store. appended_edits_keep store g.F.StoreFormat.cmp g.F.StoreFormat.is_table
      g.F.StoreFormat.allowed;
  begun = λ store. begun_edits_keep store g.F.StoreFormat.cmp g.F.StoreFormat.is_table
      g.F.StoreFormat.allowed;
}
