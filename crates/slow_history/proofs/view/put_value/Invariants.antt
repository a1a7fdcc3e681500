use Rattle.std.proofs.Common.{◌≡◌, ◌++◌, drop}
use Rattle.std.specs.Option.{option_map}
use Rattle.leveldb_base.proofs.HistoryLemmas.{with_value}
use Rattle.slow_history.specs.View.{borrowed_pairs}
use Rattle.slow_history.proofs.view.put_value.Given as goal

abbrev pub invariant-loop-pair : goal.invariant-loop-pair
invariant-loop-pair g l =
    borrowed_pairs l.put.items ++ with_value (g.C.Cmp.cmp l.cmp) l.key (option_map (λ bytes. bytes.now) l.waiting) (borrowed_pairs (drop l.pair-index l.pairs))
    ≡ with_value (g.C.Cmp.cmp l.cmp) l.key (option_map (λ bytes. bytes.now) l.initial.waiting) (borrowed_pairs l.pairs)
