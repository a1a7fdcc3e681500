use Rattle.std.proofs.Common.{◌∙◌, ap, inl, refl, rules}
use Rattle.std.proofs.lemmas.Result.{IfOk-from_err}
use Rattle.leveldb_table.specs.BlockCache.{cache_key}
use Rattle.leveldb_table.specs.declared.block_cache.CachedBlock.{CachedBlock}
use Rattle.leveldb_table.proofs.CacheLemmas.{after_put}
use Rattle.leveldb_table.proofs.BlockCacheLemmas.{GainsBlocks-trans, GainsBlocks-look_up, GainsBlocks-room, GainsBlocks-put, IsCachedAt-is_there, IsBlockOfFile-copy}
use Rattle.leveldb_table.proofs.TableBlockLemmas.{KeepsDisk-refl, ok_by_both, reads_ok, reads_own, reads_passed, reads_refused}
use Rattle.leveldb_table.proofs.table_reader.reader.TableReader.read_block.Goals as goal

pub returns-in_err-found : goal.returns-in_err-found
returns-in_err-found g c =
    let result = c.from_residual.result in
    let refused = c.from_residual.ensures in
    record {
      reads = reads_passed g.E.Env result (KeepsDisk-refl g.E.Env c.args.self.now.env.now) refl refused.1 (inl c.in_err-found.ensures.memory);
      ok = IfOk-from_err result _ refused.0;
      encoded = IfOk-from_err result _ refused.0;
      gathers = GainsBlocks-look_up (cache_key c.args.self.now.table.now.id c.args.handle.offset) c.cached_block.ensures.cache;
      same = record { table = refl; compressors = refl; env = refl; cache = refl };
    }

pub returns-in-Some : goal.returns-in-Some
returns-in-Some g c = record {
  reads = reads_ok g.E.Env (KeepsDisk-refl g.E.Env c.args.self.now.env.now) refl;
  ok = λ bytes has holds. IsCachedAt-is_there (rw c.in-Some.is at c.in_ok-found.ensures.ok) holds;
  encoded = search rules;
  gathers = GainsBlocks-look_up (cache_key c.args.self.now.table.now.id c.args.handle.offset) c.cached_block.ensures.cache;
  same = record { table = refl; compressors = refl; env = refl; cache = refl };
}

pub returns-in_err-block : goal.returns-in_err-block
returns-in_err-block g c =
    let result = c.from_residual-in_err-block.result in
    let refused = c.from_residual-in_err-block.ensures in
    record {
      reads = rw (← c.table.view_is) (reads_refused g.E.Env result refused.1 c.in_err-block.ensures.reads);
      ok = IfOk-from_err result _ refused.0;
      encoded = IfOk-from_err result _ refused.0;
      gathers = GainsBlocks-trans (GainsBlocks-look_up (cache_key c.args.self.now.table.now.id c.args.handle.offset) c.cached_block.ensures.cache) (GainsBlocks-room c.buffer_for_next-buffer.ensures);
      same = record { table = refl; compressors = refl; env = refl; cache = refl };
    }

pub returns-then-not-fills : goal.returns-then-not-fills
returns-then-not-fills g c = record {
  reads = rw (← c.table.view_is) c.read_table_block.ensures.reads;
  ok = rw (← c.table.view_is) (ok_by_both c.read_table_block.result (λ block is order bytes has holds. (is bytes has, ap g.C.Cmp.cmp order)) c.read_table_block.ensures.ok c.read_table_block.ensures.order);
  encoded = c.read_table_block.ensures.encoded;
  gathers = GainsBlocks-look_up (cache_key c.args.self.now.table.now.id c.args.handle.offset) c.cached_block.ensures.cache;
  same = record { table = refl; compressors = refl; env = refl; cache = refl };
}

pub returns-in_err-copy : goal.returns-in_err-copy
returns-in_err-copy g c =
    let result = c.from_residual-in_err-copy.result in
    let refused = c.from_residual-in_err-copy.ensures in
    record {
      reads = reads_own g.E.Env result c.in_ok-block.ensures.reads.kept_disk c.in_ok-block.ensures.reads.cause.ok refused.1 (λ status memory. inl memory);
      ok = IfOk-from_err result _ refused.0;
      encoded = IfOk-from_err result _ refused.0;
      gathers = GainsBlocks-trans (GainsBlocks-look_up (cache_key c.args.self.now.table.now.id c.args.handle.offset) c.cached_block.ensures.cache) (GainsBlocks-room c.buffer_for_next-buffer.ensures);
      same = record { table = refl; compressors = refl; env = refl; cache = refl };
    }

pub returns-in_err-insert : goal.returns-in_err-insert
returns-in_err-insert g c =
    let result = c.from_residual-in_err-insert.result in
    let refused = c.from_residual-in_err-insert.ensures in
    record {
      reads = reads_passed g.E.Env result c.in_ok-block.ensures.reads.kept_disk c.in_ok-block.ensures.reads.cause.ok refused.1 (inl c.in_err-insert.ensures.memory);
      ok = IfOk-from_err result _ refused.0;
      encoded = IfOk-from_err result _ refused.0;
      gathers = GainsBlocks-trans (GainsBlocks-look_up (cache_key c.args.self.now.table.now.id c.args.handle.offset) c.cached_block.ensures.cache) (GainsBlocks-room (c.in_err-insert.ensures.err ∙ c.buffer_for_next-buffer.ensures));
      same = record { table = refl; compressors = refl; env = refl; cache = refl };
    }

pub returns : goal.returns
returns g c =
    let id = c.args.self.now.table.now.id in
    let copied = c.in_ok-copy.ensures.cases in
    let held : CachedBlock g.row.C.Denot = record { handle = c.args.handle; block = c.in_ok-copy.copy } in
    let key_is = c.cache_key.ensures ∙ ap (cache_key c.table.inside.id) c.offset.ensures in
    record {
      reads = reads_ok g.E.Env c.in_ok-block.ensures.reads.kept_disk c.in_ok-block.ensures.reads.cause.ok;
      ok = rw (← c.table.view_is) (λ bytes has holds. (c.in_ok-block.ensures.ok bytes has, ap g.C.Cmp.cmp c.in_ok-block.ensures.order));
      encoded = c.in_ok-block.ensures.encoded;
      gathers = rw (← c.table.view_is) (GainsBlocks-trans (GainsBlocks-trans (GainsBlocks-look_up (cache_key id c.args.handle.offset) c.cached_block.ensures.cache) (GainsBlocks-room c.buffer_for_next-buffer.ensures))
          (GainsBlocks-put c.args.handle.offset held (c.in_ok-insert.ensures.ok ∙ ap (λ key. after_put key held c.buffer_for_next-buffer.new.cache) key_is)
          (λ bytes has. IsBlockOfFile-copy c.args.handle c.in_ok-block.block c.in_ok-copy.copy (ap (λ block. block.contents) copied.0) (ap (λ block. block.cmp) copied.0) (ap g.C.Cmp.cmp c.in_ok-block.ensures.order) (c.in_ok-block.ensures.ok bytes has))));
      same = record { table = refl; compressors = refl; env = refl; cache = refl };
    }
