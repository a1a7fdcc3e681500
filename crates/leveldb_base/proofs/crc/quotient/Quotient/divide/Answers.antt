use Rattle.std.proofs.Common.{◌≡◌, ◌<◌, All, ◌≤◌, ◌∙◌, ◌+◌, ◌-◌, ◌*◌, ap, ap₂, subst, sym, refl, arith, take, length, get_or, ◌++◌, []}
use Rattle.std.specs.List.{concat}
use Rattle.std.specs.Simd.Lanes.{chunk, put_chunk}
use Rattle.std.proofs.lemmas.List.{take_all, length-append}
use Rattle.leveldb_base.specs.Crc.{reduced}
use Rattle.leveldb_base.specs.declared.crc.quotient.TheConstants.{TERMS}
use Rattle.std.proofs.lemmas.Simd.{length-put_chunk}
use borrow.Rule.Slice.PartMut.{put_mid, mid_of}
use Rattle.leveldb_base.proofs.crc.quotient.Quotient.divide.Invariants.{Divides}
use Rattle.leveldb_base.proofs.CrcQuotientLemmas.{length-reduced, terms_within, divides_next, small_next, keeps_others, put_rest, concat-more, put_chunk_none, reduced-none}
use Rattle.leveldb_base.proofs.crc.quotient.Quotient.divide.Goals as goal

pub loop-block-init : goal.loop-block-init
loop-block-init c =
    let bytes = c.args.self.now.bytes in
    record { far = refl; count = refl; quotient = sym (reduced-none TERMS bytes 0); small = λ k d lt. absurd (omega arith); same = sym (put_chunk_none 266 bytes) }

pub loop-block-preserved : goal.loop-block-preserved
loop-block-preserved c =
    let so_far = c.loop-block.invariant in
    let bytes = c.loop-block.self.bytes in
    let blocks = c.args.blocks.now in
    let index = c.loop-block.block-index in
    let offset = c.loop-block.offset in
    let done = concat (take index blocks) in
    let block = get_or blocks index [] in
    let wide : length block ≡ 16 = c.told-blocks index c.loop-block-test.true in
    let old = c.args.self.now.bytes in
    let old_long : length old ≡ 4874 = omega arith in
    let long : length bytes ≡ 4874 = ap length so_far.same ∙ length-put_chunk 266 old (chunk 266 offset bytes) ∙ old_long in
    let room : 266 + offset + 16 ≤ length bytes = omega (arith, so_far.far) in
    let next = c.reduced-next.result in
    let next_is : next ≡ reduced TERMS bytes offset block = c.reduced-next.ensures.left in
    let next_long : length next ≡ 16 = ap length next_is ∙ length-reduced TERMS bytes offset block (terms_within (offset + length block) (length bytes) (omega arith)) ∙ wide in
    let all : offset + 266 + (4874 - (offset + 266)) ≡ length bytes = omega arith in
    let stored : put_mid (offset + 266) (4874 - (offset + 266)) bytes (put_chunk 0 (mid_of (offset + 266) (4874 - (offset + 266)) bytes) next)
    ≡ put_chunk (266 + offset) bytes (reduced TERMS bytes offset block) =
    put_rest (offset + 266) (4874 - (offset + 266)) bytes next all (omega arith)
    ∙ (let order : offset + 266 ≡ 266 + offset = omega arith in ap₂ (λ n l. put_chunk n bytes l) order next_is) in
    let more : concat (take (index + 1) blocks) ≡ done ++ block = concat-more blocks index c.loop-block-test.true in
    let divides : Divides old (put_chunk (266 + offset) bytes (reduced TERMS bytes offset block)) (done ++ block) (offset + 16) (index + 1) =
    record {
      far = omega (arith, so_far.far);
      count = length-append done block ∙ ap₂ (λ x y. x + y) so_far.count wide;
      quotient = divides_next old bytes done block offset so_far.count wide room so_far.quotient;
      small = small_next old bytes done block offset so_far.count wide room so_far.small
          (subst (All (λ byte. byte < 256)) next_is c.reduced-next.ensures.bytes);
      same = keeps_others old bytes done block offset so_far.count wide room (omega arith) so_far.same;
    } in
    subst (λ l. Divides old l (concat (take (index + 1) blocks)) (offset + 16) (index + 1)) (sym stored)
    (subst (λ l. Divides old (put_chunk (266 + offset) bytes (reduced TERMS bytes offset block)) l (offset + 16) (index + 1)) (sym more) divides)

pub returns-clause-quotient : goal.returns-clause-quotient
returns-clause-quotient c =
    let so_far = c.loop-block.invariant in
    let all : c.loop-block.block-index ≡ length c.args.blocks.now = omega arith in
    let far : c.loop-block.offset ≡ 16 * length c.args.blocks.now = so_far.far ∙ ap (λ n. 16 * n) all in
    ap (λ n. chunk 266 n c.loop-block.self.bytes) (sym far) ∙ so_far.quotient
    ∙ ap (λ l. reduced TERMS c.loop-block.self.bytes 0 (concat l)) (take_all c.loop-block.block-index c.args.blocks.now (omega arith))

pub returns-clause-same : goal.returns-clause-same
returns-clause-same c =
    let so_far = c.loop-block.invariant in
    let all : c.loop-block.block-index ≡ length c.args.blocks.now = omega arith in
    let far : c.loop-block.offset ≡ 16 * length c.args.blocks.now = so_far.far ∙ ap (λ n. 16 * n) all in
    so_far.same ∙ ap (λ n. put_chunk 266 c.args.self.now.bytes (chunk 266 n c.loop-block.self.bytes)) far

pub returns-clause-bytes : goal.returns-clause-bytes
returns-clause-bytes c =
    let so_far = c.loop-block.invariant in
    let all : c.loop-block.block-index ≡ length c.args.blocks.now = omega arith in
    let far : c.loop-block.offset ≡ 16 * length c.args.blocks.now = so_far.far ∙ ap (λ n. 16 * n) all in
    subst (λ n. All (λ byte. byte < 256) (chunk 266 n c.loop-block.self.bytes)) far so_far.small
