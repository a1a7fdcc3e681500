use Rattle.std.proofs.Common.{◌+◌, ◌++◌, drop, refl, sym, ◌∙◌, ap, arith, append_assoc, length-append}
use Rattle.leveldb_base.specs.Varint.{varint}
use Rattle.leveldb_table.proofs.FooterLemmas.{write_rest}
use Rattle.leveldb_table.proofs.block_builder.encode_lengths.Goals as goal

pub returns-clause-written : goal.returns-clause-written
returns-clause-written c =
    let shared = varint c.args.shared in
    let rest = varint c.args.rest in
    let value = varint c.args.value in
    let old = c.args.dst.now in
    let one = c.encode_varint64-first.ensures in
    let two = c.encode_varint64.ensures in
    let three = c.encode_varint64-2.ensures in
    let at = c.encode_varint64-first.result in
    let front = write_rest shared old rest _ _ at _ (one.written ∙ ap (λ n. shared ++ drop n old) (sym one.used)) (sym one.used) refl two.written in
    write_rest (shared ++ rest) old value _ _ (at + c.encode_varint64.result) _ (front ∙ ap (λ n. (shared ++ rest) ++ drop (at + n) old) (sym two.used)) (omega (arith, length-append shared rest)) refl three.written
    ∙ ap (λ n. ((shared ++ rest) ++ value) ++ drop (at + c.encode_varint64.result + n) old) (sym three.used)
    ∙ ap (λ z. z ++ drop (at + c.encode_varint64.result + c.encode_varint64-2.result) old) (append_assoc shared rest value)
