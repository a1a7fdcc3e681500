-- Why a request may be refused.
use Rattle.std.specs.Prelude.{◌≡◌, ◌≢◌, ◌<◌, ◌≤◌, ◌+◌, ◌-◌, ◌^◌, ◌⊎◌, ℕ, false, List, [], Option, Some, None, length, max, Contains, codes, IsTrue}
use Rattle.leveldb_base.specs.declared.error.StatusCode.{StatusCode}
use Rattle.leveldb_base.specs.declared.error.StatusCode.TheVariants.{OutOfMemory, LockError, InvalidArgument, AlreadyExists, NotSupported, IOError}
use Rattle.leveldb_base.specs.History.{Item}
use Rattle.leveldb_base.specs.KeyTypes.{IsLongKey, greatest_sequence}
use Rattle.leveldb_mem.specs.WriteBatch.{batch_bytes, max_length}
use Rattle.leveldb_files.specs.Stores.Contents.{Store, missing, made}
use Rattle.leveldb_files.specs.Stores.Format.{Format, HasCompressorError, LacksCompressor, Meaning}
use Rattle.leveldb_store.specs.Writing.Room.{HasFailed}
use Rattle.rusty_leveldb.specs.Machines.State.{State, Opening, Snapshot, Refusal, Request, open_store, write, get, walk, get_snapshot, release_snapshot, compact_range, abandon, Move, seek, reset}

-- a cause of a refusal, beside the mode of the store
pub data Cause : Type 0 where
  out_of_memory : Cause
  device_failed : Cause
  lock_is_held : Cause
  bad_operand : Cause
  store_exists : Cause
  used_up : Cause
  too_large : Cause
  compressor_failed : Cause
  lacks_compressor : Cause

-- the setting of a request: how many calls of the device had failed before it, and by its end, and
-- what the names and ids in the store's files mean
pub record Setting : Type 0 where
  pub before : ℕ
  pub after : ℕ
  pub meaning : Meaning

-- ---- operands

-- the batch of these items would be too long
abbrev pub IsLongBatch : List Item → Type 0
IsLongBatch items = max_length < length (batch_bytes 0 items)

-- a snapshot is named that isn't one of those that are held
abbrev pub IsNotHeld : List Snapshot → Option Snapshot → Type 0
IsNotHeld held None = ⊥
IsNotHeld held (Some named) = Contains held named → ⊥

-- the store may not be opened so: it is missing and isn't to be made, or its comparator has another
-- name
abbrev pub Disagrees : Opening → Store → Type 0
Disagrees opening missing = opening.create_if_missing ≡ false
Disagrees opening (made name) = name ≢ Some opening.format.order_name

-- an operand, an option or a name is one that is refused
abbrev pub Misfits : State → Request → Type 0
Misfits old (open_store opening) = (opening.fits ≡ false) ⊎ Disagrees opening old.store
Misfits old (write items sync) = IsLongBatch items
Misfits old (get at key) = IsNotHeld old.held at ⊎ IsLongKey key
Misfits old (walk at moves) = IsNotHeld old.held at
Misfits old (release_snapshot one) = IsNotHeld old.held (Some one)
Misfits old (compact_range from to) = IsLongKey from ⊎ IsLongKey to
Misfits old _ = ⊥

-- the operand of a move is one that is refused
abbrev pub MoveMisfits : Move → Type 0
MoveMisfits (seek key) = IsLongKey key
MoveMisfits _ = ⊥

-- a store is there that must not be
abbrev pub Exists : State → Request → Type 0
Exists old (open_store opening) = IsTrue opening.error_if_exists × (old.store ≢ missing)
Exists old _ = ⊥

-- so many numbers of snapshots were given out, which is all of 64 bits
abbrev pub AreSnapshotsUsedUp : ℕ → Type 0
AreSnapshotsUsedUp given = 2 ^ 64 - 1 ≤ given

-- after this last number there are none for so many entries, or not even one for an empty batch
abbrev pub AreUsedUp : ℕ → ℕ → Type 0
AreUsedUp last count = greatest_sequence < last + max 1 count

-- the state has no number left for the request, or the compressor that is asked for isn't set
abbrev pub IsUsedUp : State → Request → Type 0
IsUsedUp old (open_store opening) = opening.compresses ≡ false
IsUsedUp old (write items sync) = AreUsedUp old.last (length items)
IsUsedUp old get_snapshot = AreSnapshotsUsedUp (length old.given)
IsUsedUp old _ = ⊥

-- the request's operands fit, and there are numbers for it
pub record Fits (old : State) (request : Request) : Type 0 where
  pub operands : Misfits old request → ⊥
  pub numbers : IsUsedUp old request → ⊥

-- ---- causes

-- requests that take the store's lock
abbrev pub TakesLock : Request → Type 0
TakesLock (open_store opening) = Unit {0}
TakesLock _ = ⊥

-- requests that take memory
abbrev pub TakesMemory : Request → Type 0
TakesMemory (release_snapshot one) = ⊥
TakesMemory abandon = ⊥
TakesMemory _ = Unit {0}

-- requests that write tables, or fill memory with what is to be in one
abbrev pub WritesTables : Request → Type 0
WritesTables (open_store opening) = Unit {0}
WritesTables (write items sync) = Unit {0}
WritesTables (compact_range from to) = Unit {0}
WritesTables _ = ⊥

-- requests that reach the device
abbrev pub ReachesDevice : Request → Type 0
ReachesDevice get_snapshot = ⊥
ReachesDevice (release_snapshot one) = ⊥
ReachesDevice _ = Unit {0}

-- requests that read blocks of tables, of whatever openings: a write may have to compact some
abbrev pub ReadsTables : Request → Type 0
ReadsTables (write items sync) = Unit {0}
ReadsTables (get at key) = Unit {0}
ReadsTables (walk at moves) = Unit {0}
ReadsTables (compact_range from to) = Unit {0}
ReadsTables _ = ⊥

-- The format in which a request writes blocks of tables, if it does. Of a disk that represents a
-- state its compressors decode each block whose id they have.
abbrev pub block_format : State → Request → Option Format
block_format old (open_store opening) = Some opening.format
block_format old (write items sync) = Some old.format
block_format old (compact_range from to) = Some old.format
block_format old _ = None

-- a compressor of the format fails with the code as it encodes
abbrev pub CompressorFails : Option Format → StatusCode → Type 0
CompressorFails None code = ⊥
CompressorFails (Some format) code = HasCompressorError format code

-- When a cause comes, and which code and text it has; damage is no cause, since the disk is whole.
-- How much memory the entries take that are too large isn't in the state: the engine's clauses say
-- it (`IsFull`, `FailsToPrepare`, `FailsToCompactRange`), and which numbers of files are left.
abbrev pub IsCausedBy : Setting → State → Request → Refusal → Cause → Type 0
IsCausedBy setting old request refusal out_of_memory =
    TakesMemory request × (refusal.code ≡ OutOfMemory) × (refusal.text ≡ [])
IsCausedBy setting old request refusal device_failed =
    ReachesDevice request × HasFailed setting.before setting.after
IsCausedBy setting old request refusal lock_is_held =
    TakesLock request × (refusal.code ≡ LockError) × IsTrue old.locked
IsCausedBy setting old request refusal bad_operand =
    (refusal.code ≡ InvalidArgument) × Misfits old request
IsCausedBy setting old request refusal store_exists =
    (refusal.code ≡ AlreadyExists) × Exists old request
IsCausedBy setting old request refusal used_up =
    (refusal.code ≡ NotSupported) × IsUsedUp old request
IsCausedBy setting old request refusal too_large =
    WritesTables request × (refusal.code ≡ NotSupported)
IsCausedBy setting old request refusal compressor_failed =
    CompressorFails (block_format old request) refusal.code
IsCausedBy setting old request refusal lacks_compressor =
    ReadsTables request × (refusal.code ≡ NotSupported)
    × LacksCompressor old.format setting.meaning

-- the same of a move of a walk, which has an operand of its own; a reset is never refused
abbrev pub IsMoveCausedBy : Setting → State → Request → Move → Refusal → Cause → Type 0
IsMoveCausedBy setting old request reset refusal cause = ⊥
IsMoveCausedBy setting old request move refusal bad_operand =
    (refusal.code ≡ InvalidArgument) × MoveMisfits move
IsMoveCausedBy setting old request move refusal cause = IsCausedBy setting old request refusal cause

-- the refusal of a closed store
abbrev pub IsClosedRefusal : Refusal → Type 0
IsClosedRefusal refusal = refusal.code ≡ InvalidArgument

-- the refusal of a store that broke earlier; there may be no memory for the text
abbrev pub IsBrokenRefusal : Refusal → Type 0
IsBrokenRefusal refusal = (refusal.code ≡ IOError)
    × ((refusal.text ≡ []) ⊎ (refusal.text ≡ codes "IOError: reopen the store"))
