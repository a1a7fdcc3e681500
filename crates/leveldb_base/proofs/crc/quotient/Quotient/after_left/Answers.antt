use Rattle.std.proofs.Common.{◌≡◌, ◌∙◌, ◌+◌, ap, ap₂, sym, refl, arith, take, length, get_or, ◌++◌, []}
use Rattle.std.specs.List.{concat}
use Rattle.std.proofs.lemmas.List.{take_all, length-append}
use Rattle.leveldb_base.specs.Crc.{reduced, crc_register}
use Rattle.leveldb_base.specs.declared.crc.quotient.TheConstants.{TERMS}
use Rattle.leveldb_base.proofs.CrcLemmas.{crc_register-append}
use Rattle.leveldb_base.proofs.CrcQuotientLemmas.{terms_within, reduced-append, concat-more, reduced-none}
use Rattle.leveldb_base.proofs.crc.quotient.Quotient.after_left.Goals as goal

pub loop-block-init : goal.loop-block-init
unfolding crc_register
loop-block-init c =
    record { far = omega arith; count = refl; read = c.zero-lanes.ensures ∙ ap (crc_register 0) (sym (reduced-none TERMS c.args.self.now.bytes c.args.offset)) }

pub loop-block-preserved : goal.loop-block-preserved
loop-block-preserved c =
    let so_far = c.loop-block.invariant in
    let bytes = c.args.self.now.bytes in
    let blocks = c.args.blocks.now in
    let index = c.loop-block.block-index in
    let offset = c.args.offset in
    let done = concat (take index blocks) in
    let block = get_or blocks index [] in
    let wide : length block ≡ 16 = c.told-blocks index c.loop-block-test.true in
    let room : length bytes ≡ 4874 = omega arith in
    let here : c.loop-block.at ≡ offset + length done = so_far.far ∙ ap (λ n. offset + n) (sym so_far.count) in
    let more : concat (take (index + 1) blocks) ≡ done ++ block = concat-more blocks index c.loop-block-test.true in
    let both : reduced TERMS bytes offset (done ++ block) ≡ reduced TERMS bytes offset done ++ reduced TERMS bytes (offset + length done) block =
    reduced-append TERMS bytes offset done block (terms_within (offset + (length done + length block)) (length bytes) (omega (arith, so_far.count))) in
    let next : c.reduced.result ≡ reduced TERMS bytes (offset + length done) block = c.reduced.ensures.left ∙ ap (λ n. reduced TERMS bytes n block) here in
    record {
      far = omega (arith, so_far.far);
      count = ap length more ∙ length-append done block ∙ ap₂ (λ x y. x + y) so_far.count wide ∙ omega arith;
      read = c.after-lanes.ensures ∙ ap₂ crc_register so_far.read next
          ∙ sym (ap (λ l. crc_register 0 (reduced TERMS bytes offset l)) more ∙ ap (crc_register 0) both
          ∙ crc_register-append 0 (reduced TERMS bytes offset done) (reduced TERMS bytes (offset + length done) block));
    }

pub returns : goal.returns
returns c =
    c.joined.ensures ∙ c.loop-block.invariant.read
    ∙ ap (λ l. crc_register 0 (reduced TERMS c.args.self.now.bytes c.args.offset (concat l))) (take_all c.loop-block.block-index c.args.blocks.now (omega arith))
