use Rattle.std.proofs.Common.{rules, arith, ◌≡◌, ◌≢◌, inl, inr, codes}
use Rattle.hex.proofs.HexLemmas.{decode_of-ok}
use Rattle.rusty_leveldb.proofs.Programs.Words.{decoded_is, not_decoded, dot_encodes}
use Rattle.rusty_leveldb.proofs.shell.words.read_digits.Goals as goal

pub returns-then-eq : goal.returns-then-eq
returns-then-eq c =
    let dot : c.args.word.now ≡ codes "." = search rules in
    rw c.new.ensures.items (λ i. omega arith, λ bytes is. dot_encodes c.args.word.now bytes dot is)

pub returns-in-Ok : goal.returns-in-Ok
returns-in-Ok c =
    let no_dot : c.args.word.now ≢ codes "." = λ h. search rules in (
      (decode_of-ok c.args.word.now c.in-Ok.bytes.items c.in-Ok.ensures.ok).3,
      λ bytes is. decoded_is c.args.word.now c.in-Ok.bytes.items bytes no_dot c.in-Ok.ensures.ok is,
    )

pub returns-in_default : goal.returns-in_default
returns-in_default c bytes is =
    let no_dot : c.args.word.now ≢ codes "." = λ h. search rules in
    elim c.in-Err.ensures.err [
      | inl memory ↦ absurd (c.in_default.not-OutOfMemory memory)
      | inr refused ↦ not_decoded c.args.word.now c.in-Err.error bytes no_dot refused is
    ]
