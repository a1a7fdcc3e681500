use Rattle.std.proofs.Common.{[], ◌∷◌, ap, ◌∙◌}
use Rattle.std.specs.Int.{w32, to_le_bytes}
use Rattle.leveldb_mem.proofs.WriterLemmas.{header_is}
use Rattle.leveldb_mem.proofs.log.writer.header_of.Goals as goal

pub returns : goal.returns
returns c =
    let kind = c.args.kind in
    let part = c.args.part.now in
    let read = c.update-2.ensures.text (kind ∷ []) (c.update.ensures.text [] c.digest-digest.ensures.fresh) in
    let sum = c.finalize.ensures.text (kind ∷ part) read in
    header_is c.to_le_bytes.result c.to_le_bytes-2.result c.finalize.result kind part (c.to_le_bytes.ensures ∙ ap (to_le_bytes w32) c.mask_crc.ensures.kept) sum c.to_le_bytes-2.ensures
