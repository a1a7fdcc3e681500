use Rattle.std.proofs.Common.{◌≡◌, None, sym, ◌∙◌, ap, subst}
use Rattle.std.specs.Option.{option_map}
use Rattle.std.proofs.lemmas.List.{drop_all}
use Rattle.leveldb_base.specs.History.{IsValueAt}
use Rattle.leveldb_base.proofs.HistoryLemmas.{look_from, look_from_looks_up}
use Rattle.slow_history.specs.View.{borrowed_entries}
use Rattle.slow_history.proofs.view.look_up.Goals as goal

pub returns : goal.returns
returns c =
    let found = option_map (λ bytes. bytes.now) c.loop-entry.found in
    let none = drop_all c.loop-entry.entry-index c.args.entries.now c.loop-entry-test.false in
    let left = ap (λ rest. look_from c.args.sequence c.args.key.now found (borrowed_entries rest)) (sym none) in
    let is : found ≡ look_from c.args.sequence c.args.key.now None (borrowed_entries c.args.entries.now) = left ∙ c.loop-entry.invariant in
    λ rising. subst (λ value. IsValueAt (borrowed_entries c.args.entries.now) c.args.sequence c.args.key.now value) (sym is) (look_from_looks_up (borrowed_entries c.args.entries.now) c.args.sequence c.args.key.now rising)
