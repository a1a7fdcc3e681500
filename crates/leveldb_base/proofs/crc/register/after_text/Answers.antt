use Rattle.std.proofs.Common.{◌∙◌, ap}
use Rattle.leveldb_base.specs.Crc.{crc_register}
use Rattle.leveldb_base.proofs.CrcLemmas.{crc_register-chunks}
use Rattle.leveldb_base.proofs.crc.register.after_text.Goals as goal

pub returns : goal.returns
returns c =
    let rest = c.as_chunks.result.1.now
    in let bytes = c.as_chunks-2.result.1.now
    in c.after_bytes.ensures ∙ ap (λ register. crc_register register bytes) c.after_words.ensures
    ∙ crc_register-chunks 4 c.after_blocks.result rest c.as_chunks-2.result.0.now bytes c.as_chunks-2.ensures.front c.as_chunks-2.ensures.back
    ∙ ap (λ register. crc_register register rest) c.after_blocks.ensures
    ∙ crc_register-chunks 16 c.args.register c.args.text.now c.as_chunks.result.0.now rest c.as_chunks.ensures.front c.as_chunks.ensures.back
