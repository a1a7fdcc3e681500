use Rattle.leveldb_mem.specs.Log.{fragment_of}
use Rattle.leveldb_mem.proofs.WriterLemmas.{fragment_put}
use Rattle.leveldb_mem.proofs.log.writer.put_fragment.Goals as goal

pub returns-clause-ok : goal.returns-clause-ok
returns-clause-ok c =
    fragment_put c.args.block_size c.args.offset (fragment_of c.args.kind c.args.part.now) c.args.dst.now.items c.put_filler.new.dst.items c.extend_from_slice.new.self.items c.extend_from_slice-2.new.self.items c.header_of.result
    c.in_ok-put_filler.ensures.ok c.in_ok-extend_from_slice.ensures.items c.in_ok-extend_from_slice-2.ensures.items c.header_of.ensures
