use Rattle.std.proofs.Common.{◌≡◌, ◌∙◌, ◌++◌, sym, ap, subst, append-nil}
use Rattle.leveldb_env.specs.MemEnv.{files_of}
use Rattle.leveldb_env.specs.Picks.{tails_of, ListsTails}
use Rattle.leveldb_env.proofs.MemEnvLemmas.{Entries}
use Rattle.leveldb_env.proofs.PicksLemmas.{tails_in, ListsTails-tails_in}
use Rattle.leveldb_env.proofs.mem_env.picks.list_tails.Goals as goal

pub returns : goal.returns
returns c =
    let map = c.args.files.now in
    let found = tails_of c.loop-name.tails.items in
    let all : found ≡ tails_in map.entries =
    sym (append-nil found) ∙ ap (λ (rest : Entries). found ++ tails_in rest) (sym c.in-None.ensures.steps.0) ∙ c.loop-name.invariant in
    subst (ListsTails (files_of map)) (sym all) (ListsTails-tails_in map c.iter-name-items.ensures.found c.iter-name-items.ensures.ordered)
