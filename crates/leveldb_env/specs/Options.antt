-- What options may be, and what they are if nothing else is chosen.
use Rattle.std.specs.Prelude.{◌≡◌, ◌≤◌, ◌^◌, ◌*◌, ℕ, true, false, None}
use Rattle.leveldb_base.specs.declared.error.Status.{Status}
use Rattle.leveldb_base.specs.declared.error.StatusCode.TheVariants.{InvalidArgument}
use Rattle.leveldb_env.specs.declared.options.Options.{Options}

-- from the least to 2^30
abbrev pub IsSizeWithin : ℕ → ℕ → Type 0
IsSizeWithin least n = (least ≤ n) × (n ≤ 2 ^ 30)

-- the types of what options own in boxes: the sink of their log, and compressors
pub record Boxed : Type 1 where
  -- the type of the box of the log's sink
  pub sinks : Type 0
  -- the type of the box of each compressor
  pub compressors : Type 0
  -- what holds of the sink in its box
  pub sink : sinks → Type 0
  -- what holds of a compressor in its box
  pub compressor : compressors → Type 0

-- of options that aren't there
abbrev pub nothing_boxed : Boxed
nothing_boxed = record {
  sinks = Unit {0};
  compressors = Unit {0};
  sink = λ unit. Unit {0};
  compressor = λ unit. Unit {0};
}

-- options that own boxes of these types
abbrev pub OptionsOf : Type 0 → Type 0 → Boxed → Type 0
OptionsOf C FP B = Options C FP B.sinks B.compressors B.sink B.compressor

module _ {C FP : Type 0} {B : Boxed} where
  -- the limits of sizes and counts
  pub record AreWithinLimits (options : OptionsOf C FP B) : Type 0 where
    -- of the memtable
    pub write_buffer : IsSizeWithin 1 options.write_buffer_size
    -- ten files beside the tables, and one table at least
    pub open_files : IsSizeWithin 11 options.max_open_files
    -- of a table
    pub file : IsSizeWithin 1 options.max_file_size
    -- of a block in a table
    pub block : IsSizeWithin 1 options.block_size
    -- of entries from one restart point to the next
    pub restart_interval : IsSizeWithin 1 options.block_restart_interval
    -- one block at least
    pub block_cache : IsSizeWithin options.block_size options.block_cache_capacity_bytes

  -- `InvalidArgument` where they aren't kept
  abbrev pub IsLimitError : OptionsOf C FP B → Status → Type 0
  IsLimitError options e = (e.code ≡ InvalidArgument) × (AreWithinLimits options → ⊥)

  -- the choices if nothing else is chosen
  pub record HasDefaultChoices (options : OptionsOf C FP B) : Type 0 where
    -- no information log
    pub log : options.log ≡ None
    -- a missing store is made
    pub create : options.create_if_missing ≡ true
    -- a store that is there is opened
    pub no_error : options.error_if_exists ≡ false
    -- it has no effect
    pub paranoid : options.paranoid_checks ≡ false
    -- 4 MiB
    pub write_buffer : options.write_buffer_size ≡ 4 * 2 ^ 20
    -- 1024 files
    pub open_files : options.max_open_files ≡ 1024
    -- 2 MiB
    pub file : options.max_file_size ≡ 2 * 2 ^ 20
    -- 4 MiB
    pub block_cache : options.block_cache_capacity_bytes ≡ 4096 * 1024
    -- 4 KiB
    pub block : options.block_size ≡ 4096
    -- 16 entries
    pub restart_interval : options.block_restart_interval ≡ 16
    -- the id of blocks that are stored as they are
    pub compressor : options.compressor ≡ 0
    -- the last log is appended to
    pub reuse_logs : options.reuse_logs ≡ true
    -- and so is the manifest
    pub reuse_manifest : options.reuse_manifest ≡ true
