-- Scans: which pairs of a sorted list they give, and what becomes of a walk that is scanned.
use Rattle.std.specs.Prelude.{◌≡◌, ◌⊎◌, ℕ, true, List, [], drop, reverse, take, Option, Some, Result, IfErr, OnOk}
use Rattle.std.specs.Global.{Vec}
use Rattle.std.specs.declared.cmp.Ordering.{Ordering}
use Rattle.leveldb_base.specs.declared.error.Status.{Status}
use Rattle.leveldb_base.specs.Error.{IsOutOfMemory}
use Rattle.leveldb_base.specs.Types.{Pair, count_before, last_position, next_position, position_within, previous_position, seek_position}
use Rattle.leveldb_iter.specs.Walk.{KeyOrder, Way}
use Rattle.leveldb_iter.specs.declared.walk.Walk.{Ghosts as WalkGhosts}
use Rattle.rusty_leveldb.specs.declared.scan.Scan.{Scan}
use Rattle.rusty_leveldb.specs.declared.scan.Scan.TheVariants.{First, From, Before, Last}

-- the key of a scan, or the empty one
abbrev pub scan_key : Scan → List ℕ
scan_key (From key) = key.now
scan_key (Before key) = key.now
scan_key scan = []

-- All pairs that a scan gives of a sorted list, in this order: on from the first, or from the first
-- at or after a key; back from the last before a key, or from the last of all.
abbrev pub scanned : (List ℕ → List ℕ → Ordering) → Scan → List Pair → List Pair
scanned cmp First pairs = pairs
scanned cmp (From key) pairs = drop (count_before cmp key.now pairs) pairs
scanned cmp (Before key) pairs = reverse (take (count_before cmp key.now pairs) pairs)
scanned cmp Last pairs = reverse pairs

-- what a copy of a key and its value holds
abbrev pub bytes_of_copy : Vec ℕ × Vec ℕ → Pair
bytes_of_copy copy = (copy.0.items, copy.1.items)

-- ---- a walk

-- the position of the last pair before a key
abbrev pub before_position : List ℕ → Way
before_position key order pairs position =
    previous_position (Some (count_before order.cmp key pairs))

-- the position where a scan begins
abbrev pub begin_position : Scan → Way
begin_position First order pairs position = position_within pairs 0
begin_position (From key) order pairs position = seek_position order.cmp pairs key.now
begin_position (Before key) order pairs position = before_position key.now order pairs position
begin_position Last order pairs position = last_position pairs

-- the position to which it goes on
abbrev pub next_in_scan : Scan → Way
next_in_scan First order pairs position = next_position pairs position
next_in_scan (From key) order pairs position = next_position pairs position
next_in_scan (Before key) order pairs position = previous_position position
next_in_scan Last order pairs position = previous_position position

module _ {E T W : Type 0} (walk : WalkGhosts W E T) where
  -- a scan may begin: the walk is over this list, in an order that accepts the scan's key
  abbrev pub BeginsScan : Scan → E × T → W → KeyOrder → List Pair → Option ℕ → Type 0
  BeginsScan scan world it order pairs position =
      walk.over world it order pairs × (order.accepts (scan_key scan) ≡ true)

  -- What a scan of a walk comes to that asks for so many pairs: `given` are those that came.
  pub record ScansWalk (scan : Scan) (count : ℕ) (given : List Pair) (old_world : E × T) (old : W)
      (result : Result (Unit {0}) Status) (new_world : E × T) : Type 0 where
    -- Ok: they are the first of the scan, of each list that the walk was over
    pub ok : (order : KeyOrder) (pairs : List Pair) → walk.over old_world old order pairs
        → order.accepts (scan_key scan) ≡ true
        → OnOk result (given ≡ take count (scanned order.cmp scan pairs))
    -- this is left of what walks read from
    pub kept : walk.keeps old_world new_world
    -- it fails as a move may, or out of memory for a copy
    pub cause : IfErr result
        (λ status. walk.fails old_world old new_world status ⊎ IsOutOfMemory status)
