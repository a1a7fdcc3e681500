use Rattle.std.proofs.Common.{◌∙◌, ap}
use Rattle.leveldb_base.specs.Crc.{crc_register}
use Rattle.leveldb_base.proofs.CrcLemmas.{HasRead-append, crc_register-append}
use Rattle.leveldb_base.proofs.crc.register.Digest.update.Goals as goal

pub returns-clause-text : goal.returns-clause-text
returns-clause-text c = λ text read.
    c.after_text-self-inside.ensures ∙ HasRead-append c.self.inside.register text c.args.«data».now (c.self.view_is ∙ read)

pub returns-clause-pieces : goal.returns-clause-pieces
returns-clause-pieces c = λ a b whole.
    c.after_text-self-inside.ensures ∙ ap (crc_register c.self.inside.register) whole ∙ crc_register-append c.self.inside.register a b
    ∙ ap (λ register. crc_register (crc_register register a) b) c.self.view_is
