use Rattle.std.proofs.Common.{[], ◌∷◌, option_copied, arith}
use Rattle.std.proofs.lemmas.Result.{on_ok_weaker, IfErr-weaker}
use Rattle.leveldb_mem.specs.WriteBatch.{item_of}
use Rattle.leveldb_mem.specs.MemTable.{FailsToPrepare, FailsToNumber, bytes_in}
use Rattle.leveldb_mem.proofs.MemTableLemmas.{prepares, keeps_room}
use Rattle.leveldb_mem.proofs.memtable.MemTable.prepare_entry.Goals as goal

pub returns-clause-kept : goal.returns-clause-kept
returns-clause-kept g c =
    let old = c.args.self.now.kept in
    let bytes = c.byte_count.result in
    let item = item_of c.args.key.now (option_copied c.args.value) in
    let kept = c.reserve.ensures.kept in
    record {
      entries = kept.entries;
      ok = on_ok_weaker c.reserve.result (λ p. record { places = omega (arith, p.0); bytes = omega (arith, p.1, c.byte_count.ensures) }) kept.ok;
      made = on_ok_weaker c.reserve.result (λ p. p.0) kept.ok;
      places = kept.places;
      bytes = kept.kept_bytes;
      cause = IfErr-weaker c.reserve.result (FailsToNumber old 1 bytes) (FailsToPrepare old 1 (bytes_in (item ∷ [])))
          (λ status why. prepares old 1 (bytes_in (item ∷ [])) bytes (omega (arith, c.byte_count.ensures)) status why) kept.cause;
    }

pub returns-clause-room : goal.returns-clause-room
returns-clause-room g c = keeps_room c.args.self.now.kept c.reserve.new.self.kept c.reserve.ensures.kept.room
