-- The children of a repair's merge, as the types of a walk over a found table tell.
use Rattle.leveldb_repair.specs.declared.found_walk.FoundWalk.{FoundWalk as WalkOf}
use Rattle.leveldb_repair.specs.declared.found_walk.table.FoundTable.{FoundTable}

-- over a found table or over memory
abbrev pub FoundWalk : Type 0 → Type 0 → Type 0 → Type 0 → Type 0
FoundWalk E C M F = WalkOf (FoundTable E C F) M
