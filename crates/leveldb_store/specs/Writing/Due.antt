-- When a write whose memtable has room does a compaction first: once for each part of a table by
-- which the memtable grows, if a level scores 1 or more.
use Rattle.std.specs.Prelude.{◌≡◌, ◌+◌, ◌/◌, ◌^◌, ◌&&◌, ◌||◌, if◌then◌else◌, ℕ, Bool, is_none, is_some, max, nat_le, nat_lt}
use Rattle.leveldb_mem.specs.MemTable.{Kept, memory_of_entries}
use Rattle.leveldb_version.specs.Versions.Scores.{level_by_score}
use Rattle.leveldb_store.specs.Keeping.OpenStore.{OpenStoreValue}
use Rattle.leveldb_store.specs.Writing.Room.{IsFull}

-- a part of a table: a quarter of its bytes, and 64 KiB at least
abbrev pub part_of : ℕ → ℕ
part_of max_file_size = max (max_file_size / 4) (2 ^ 16)

-- the memtable has grown by a part since it took `looked_at` bytes; or it takes less, and is
-- another
abbrev pub has_grown : ℕ → ℕ → Kept → Bool
has_grown max_file_size looked_at kept = nat_lt (memory_of_entries kept.entries) looked_at
    || nat_le (looked_at + part_of max_file_size) (memory_of_entries kept.entries)

-- A write that finds room looks for a compaction where no memtable waits to become a table, and its
-- own has grown by a part since a write last looked for one, when it took `looked_at` bytes.
abbrev pub looks_for_compaction : {C : Type 0} → ℕ → ℕ → OpenStoreValue C → Bool
looks_for_compaction max_file_size looked_at value =
    is_none value.imm && has_grown max_file_size looked_at value.mem

-- one is due then, if a level scores 1 or more
abbrev pub is_compaction_due : {C : Type 0} → ℕ → ℕ → OpenStoreValue C → Bool
is_compaction_due max_file_size looked_at value =
    looks_for_compaction max_file_size looked_at value
    && is_some (level_by_score value.set.full.added)

-- how much memory the memtable took when a write last looked for one, once this write did or didn't
abbrev pub looked_after : {C : Type 0} → ℕ → ℕ → OpenStoreValue C → ℕ
looked_after max_file_size looked_at value = if looks_for_compaction max_file_size looked_at value
    then memory_of_entries value.mem.entries else looked_at

-- That was `old` before a write and is `new` after it, Ok or Err. In the new memtable that a write
-- makes which finds its memtable full, no write has looked for one.
pub record MovesLookedAt {C : Type 0} (limit max_file_size : ℕ) (value : OpenStoreValue C)
    (old new : ℕ) : Type 0 where
  pub full : IsFull limit value.mem → new ≡ 0
  pub room : (IsFull limit value.mem → ⊥) → new ≡ looked_after max_file_size old value
