use Rattle.std.proofs.Common.{◌≡◌, ◌++◌, drop, false, fold, map}
use Rattle.leveldb_mem.specs.Log.{framed, log_block_size}
use Rattle.leveldb_mem.specs.Log.Writer.{after_frame, new_writer}
use Rattle.leveldb_version_set.specs.Sets.NewManifest.{manifest_bytes}
use Rattle.leveldb_version_set.proofs.version_set.new_manifest.frame_records.Given as goal

abbrev pub invariant-loop-record : goal.invariant-loop-record
invariant-loop-record l = record {
  bytes : manifest_bytes (map (λ it. it.items) l.records)
      ≡ l.bytes.items ++ framed log_block_size (map (λ it. it.items) (drop l.record-index l.records)) l.writer.offset;
  writer : fold after_frame (new_writer log_block_size 0) (map (λ it. it.items) l.records)
      ≡ fold after_frame l.writer (map (λ it. it.items) (drop l.record-index l.records));
  size : l.writer.size ≡ log_block_size;
  usable : l.writer.broken ≡ false;
}
