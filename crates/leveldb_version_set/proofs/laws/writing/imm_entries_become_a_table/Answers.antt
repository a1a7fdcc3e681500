use Rattle.leveldb_version_set.proofs.Engines.ImmLemmas.{imm_becomes_table, imm_may_go_to_level_zero}
use Rattle.leveldb_version_set.proofs.laws.writing.imm_entries_become_a_table.Goals as goal

pub returns : goal.returns
returns g c = record {
  edit = λ store. imm_becomes_table store g.F.StoreFormat.cmp g.F.StoreFormat.is_table
      g.F.StoreFormat.allowed;
  level = λ store. imm_may_go_to_level_zero store g.F.StoreFormat.cmp g.F.StoreFormat.is_table;
}
