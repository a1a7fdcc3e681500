use Rattle.std.proofs.Common.{◌≡◌, drop, None}
use Rattle.std.specs.Option.{option_map}
use Rattle.leveldb_base.proofs.HistoryLemmas.{look_from}
use Rattle.slow_history.specs.View.{borrowed_entries}
use Rattle.slow_history.proofs.view.look_up.Given as goal

abbrev pub invariant-loop-entry : goal.invariant-loop-entry
invariant-loop-entry l =
    look_from l.sequence l.key (option_map (λ bytes. bytes.now) l.found) (borrowed_entries (drop l.entry-index l.entries))
    ≡ look_from l.sequence l.key None (borrowed_entries l.entries)
