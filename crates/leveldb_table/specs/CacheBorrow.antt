-- What a cache is once the value that it lends is given back.
use Rattle.std.specs.Prelude.{◌≡◌, ℕ, List, ⊤}
use Rattle.std.specs.Borrow.{Fml, RattleType, MutBor, follows_so}
use mathlib.Core.Option.{none}
use Rattle.leveldb_table.specs.Cache.{Cached, looked_for}
use Rattle.leveldb_table.specs.contracts.cache.Cache.{the_row}

-- the pair that was looked for comes first, and all else stays
abbrev pub EndsLookedFor : (T : RattleType) → MutBor (Cached T.Denot) → List ℕ → Fml
EndsLookedFor T cache key =
    follows_so (the_row T) (the_row T) cache.ghost_name none (λ _ _. ⊤)
    (λ last. last ≡ record cache.now { pairs = looked_for key cache.now.pairs })
