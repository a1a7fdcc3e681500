-- Where a write found room, no compaction is due before it when it is made again.
use Rattle.std.specs.Prelude.{◌&&◌, ◌||◌, if◌then◌else◌, is_none, is_some, nat_le, nat_lt}
use Rattle.std.proofs.Common.{◌≡◌, ◌≤◌, ◌+◌, ◌/◌, ◌^◌, ◌∙◌, ℕ, Bool, true, false, ap, arith, refl, sym}
use Rattle.std.proofs.Math.Nat.{le-max_right}
use Rattle.std.proofs.lemmas.Bool.{le-ltb, lt-leb}
use Rattle.leveldb_env.specs.Options.{Boxed, OptionsOf}
use Rattle.leveldb_files.proofs.Levels.OverlapLemmas.{and_false_first, and_false_second}
use Rattle.leveldb_mem.specs.MemTable.{Kept, memory_of_entries}
use Rattle.leveldb_version.specs.Versions.Scores.{level_by_score}
use Rattle.leveldb_store.specs.Keeping.OpenStore.{OpenStoreValue}
use Rattle.leveldb_store.specs.Writing.Due.{has_grown, is_compaction_due, looked_after, looks_for_compaction, part_of}
use Rattle.leveldb_store.specs.Writing.Room.{ChangesLoggerOnly}
use Rattle.rusty_leveldb.specs.Engines.Boxes.{EngineOf}
use Rattle.rusty_leveldb.specs.Engines.Calls.{IsMemtableFull, KeepsMemory}
use Rattle.rusty_leveldb.specs.Engines.Engine.{WriteMovesLookedAt, engine_options, has_compaction_due}

-- a memtable that was looked at just now hasn't grown
not_grown : (max_file_size : ℕ) (kept : Kept)
    → has_grown max_file_size (memory_of_entries kept.entries) kept ≡ false
not_grown max_file_size kept =
    let memory = memory_of_entries kept.entries in
    let least : 2 ^ 16 ≤ part_of max_file_size = le-max_right (max_file_size / 4) (2 ^ 16) in
    let less : nat_lt memory memory ≡ false = le-ltb memory memory (omega arith) in
    let more : nat_le (memory + part_of max_file_size) memory ≡ false =
    lt-leb (memory + part_of max_file_size) memory (omega (arith, least)) in
    ap (λ b. b || nat_le (memory + part_of max_file_size) memory) less ∙ more

module _ {C : Type 0} (max_file_size old new : ℕ) (value left : OpenStoreValue C)
    (same : left.mem.entries ≡ value.mem.entries) (waits : left.imm ≡ value.imm)
    (moves : new ≡ looked_after max_file_size old value) where
  -- none is looked for again before the memtable has grown
  none_looked : looks_for_compaction max_file_size new left ≡ false
  none_looked = by (looks_for_compaction max_file_size old value) refl
    where
      by : (looks : Bool) → looks_for_compaction max_file_size old value ≡ looks
          → looks_for_compaction max_file_size new left ≡ false
      by true looks =
          let now : new ≡ memory_of_entries left.mem.entries = moves
          ∙ ap (λ b. if b then memory_of_entries value.mem.entries else old) looks
          ∙ ap memory_of_entries (sym same) in
          and_false_second (is_none left.imm) (has_grown max_file_size new left.mem)
          (ap (λ n. has_grown max_file_size n left.mem) now ∙ not_grown max_file_size left.mem)
      by false looks =
          let still : new ≡ old = moves
          ∙ ap (λ b. if b then memory_of_entries value.mem.entries else old) looks in
          ap (λ n. looks_for_compaction max_file_size n left) still
          ∙ ap (λ imm. is_none imm && has_grown max_file_size old left.mem) waits
          ∙ ap (λ entries. is_none value.imm && (nat_lt (memory_of_entries entries) old
          || nat_le (old + part_of max_file_size) (memory_of_entries entries))) same
          ∙ looks

  none_due : is_compaction_due max_file_size new left ≡ false
  none_due = and_false_first (looks_for_compaction max_file_size new left)
      (is_some (level_by_score left.set.full.added)) none_looked

-- of an engine
pub none_due_again : {E C FP F : Type 0} {B : Boxed} (before after : EngineOf E C FP F B)
    → WriteMovesLookedAt before after → (IsMemtableFull before → ⊥) → KeepsMemory before after
    → ChangesLoggerOnly (engine_options before) (engine_options after)
    → has_compaction_due after ≡ false
none_due_again {C = C} {FP = FP} {B = B} before after moves room keeps tells =
    let kept = keeps.1 room in
    ap (λ (o : OptionsOf C FP B). is_compaction_due o.max_file_size after.looked_at after.store)
    tells.rest
    ∙ none_due before.options.max_file_size before.looked_at after.looked_at before.store
    after.store kept.0 kept.1 (moves.room room)
