use Rattle.std.proofs.Common.{◌+◌, get_or, take, refl, sym, ◌∙◌, ap, arith}
use Rattle.std.specs.Int.{w32, to_le_bytes}
use Rattle.std.proofs.lemmas.Bool.{not-false}
use Rattle.std.proofs.lemmas.Bool.Decides.{Decides-eqb}
use Rattle.std.proofs.lemmas.List.{get_or-take}
use Rattle.std.proofs.lemmas.Slice.Eq.{slice_eq-Decides}
use Rattle.leveldb_base.specs.Crc.{masked}
use Rattle.leveldb_table.specs.Table.{with_trailer}
use Rattle.leveldb_table.proofs.TableLemmas.{sum_of, right_sum, trailer_from}
use Rattle.leveldb_table.proofs.table_block.checked_id.Goals as goal

pub returns-then-ne-clause-none : goal.returns-then-ne-clause-none
returns-then-ne-clause-none c = λ id stored long is.
    let right = c.as_slice.ensures ∙ c.to_le_bytes-right.ensures ∙ ap (to_le_bytes w32) (c.mask_crc.ensures.kept ∙ ap masked c.crc32.ensures.sum) in
    let there = right_sum c.args.bytes.now c.args.size id stored long is in
    let same = c.split_at.ensures.back ∙ there ∙ ap sum_of (sym c.split_at.ensures.front) ∙ sym right in
    let yes = (slice_eq-Decides Decides-eqb c.split_at.result.1.now c.as_slice.result.now _ refl).1 same in
    let no = rw yes at c.if-ne.ensures in
    cc

pub returns-clause-some : goal.returns-clause-some
returns-clause-some c =
    let size = c.args.size in
    let bytes = c.args.bytes.now in
    let right = c.as_slice.ensures ∙ c.to_le_bytes-right.ensures ∙ ap (to_le_bytes w32) (c.mask_crc.ensures.kept ∙ ap masked c.crc32.ensures.sum) in
    let same = (slice_eq-Decides Decides-eqb c.split_at.result.1.now c.as_slice.result.now _ refl).0 (not-false _ (sym c.if-ne.ensures)) in
    let is = trailer_from bytes size c.requires (sym c.split_at.ensures.back ∙ same ∙ right ∙ ap sum_of c.split_at.ensures.front) in
    let at = ap (λ z. get_or z size 0) c.split_at.ensures.front ∙ get_or-take (size + 1) bytes size 0 (omega arith) in
    is ∙ ap (λ z. with_trailer z (take size bytes)) (sym at)
