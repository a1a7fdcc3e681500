use Rattle.leveldb_table.proofs.BlockCacheLemmas.{HoldsOnlyOf-new, HoldsOnlyOf-after, HoldsOnlyOf-other, IsNumbered-raised, IsNumbered-after}
use Rattle.leveldb_table.proofs.laws.new_tables_hold_none.Goals as goal

pub returns-clause-none : goal.returns-clause-none
returns-clause-none g c = λ codings cmp id bytes cache numbered new fits. HoldsOnlyOf-new cache fits new numbered

pub returns-clause-numbered : goal.returns-clause-numbered
returns-clause-numbered g c = record {
  empty = λ capacity given key held found. absurd (cc found);
  raised = IsNumbered-raised;
  gathered = λ id old new given gathers numbered. IsNumbered-after given gathers numbered;
}

pub returns-clause-held : goal.returns-clause-held
returns-clause-held g c = record {
  own = λ codings cmp id bytes old new gathers holds. HoldsOnlyOf-after (λ offset held is. is) gathers holds;
  others = λ codings cmp id other bytes old new fits other_fits apart gathers holds. HoldsOnlyOf-other fits other_fits apart gathers holds;
}
