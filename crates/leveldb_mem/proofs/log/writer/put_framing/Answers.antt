use Rattle.std.proofs.Common.{◌<◌, ◌++◌, length, arith, ap, ◌∙◌, take, drop}
use Rattle.leveldb_mem.specs.Log.{room, fragment_at, fragment_of}
use Rattle.leveldb_mem.proofs.WriterLemmas.{begins, goes_on}
use Rattle.leveldb_mem.proofs.log.writer.put_framing.Goals as goal

pub loop-rest-init : goal.loop-rest-init
loop-rest-init c = begins c.args.block_size c.args.dst.now.items c.args.text.now c.args.offset c.requires.inside c.requires.some

pub loop-rest-preserved : goal.loop-rest-preserved
loop-rest-preserved c =
    let rest = c.loop-rest.rest.now in
    let most : room c.args.block_size c.loop-rest.offset < length rest = omega (arith, c.room.ensures, c.loop-rest-test.true) in
    goes_on c.args.block_size _ c.loop-rest.dst.items c.loop-rest.first rest c.loop-rest.offset c.loop-rest.invariant c.requires.size.least
    c.split_at.result.0.now c.split_at.result.1.now c.put_fragment.new.dst.items most
    (c.split_at.ensures.front ∙ ap (λ n. take n rest) c.room-in-loop-rest.ensures) (c.split_at.ensures.back ∙ ap (λ n. drop n rest) c.room-in-loop-rest.ensures)
    (c.in_ok-put_fragment.ensures.ok ∙ ap (λ type. c.loop-rest.dst.items ++ fragment_at c.args.block_size (fragment_of type c.split_at.result.0.now) c.loop-rest.offset) c.type_of.ensures)
