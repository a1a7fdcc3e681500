use Rattle.std.proofs.Common.{◌≡◌, ◌+◌, ◌%◌, drop, arith, sym, subst, ◌<◌, ◌≤◌}
use Rattle.std.proofs.Math.Nat.{mod-eq_of_lt}
use Rattle.leveldb_mem.specs.Log.Reader.{ReaderState}
use Rattle.leveldb_mem.specs.contracts.log.reader.ReaderCore.{the_view}
use Rattle.leveldb_mem.proofs.ReaderLemmas.{drop-range, same_reader}
use Rattle.leveldb_mem.proofs.log.reader.ReaderCore.advance.Goals as goal

pub returns-else-self : goal.returns-else-self
returns-else-self c =
    let core = c.self.inside in
    let offset = core.used + c.args.count in
    let within = subst (λ (r : ReaderState). r.offset + c.args.count ≤ r.size) (sym c.self.view_is) c.requires.within in
    let inside : offset < core.block_size = omega (arith, c.if-self.false) in
    subst (λ (r : ReaderState). the_view record { check_crcs = core.check_crcs; block_size = core.block_size; block = core.block; filled = core.filled; used = offset; failed = core.failed } ≡ record r { offset = (r.offset + c.args.count) % r.size; unread = drop c.args.count r.unread }) c.self.view_is
    (same_reader (the_view core) _ _ _ _ (sym (mod-eq_of_lt inside)) (sym (drop-range core.block.items core.used core.filled c.args.count)))
