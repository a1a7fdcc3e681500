use Rattle.std.proofs.Common.{◌≡◌, ◌∙◌, ◌-◌, ◌*◌, ap, ap₂, subst, All, ◌<◌, sym, arith, length, take, drop}
use Rattle.std.specs.List.{concat}
use Rattle.std.specs.Simd.Lanes.{chunk, put_chunk}
use Rattle.leveldb_base.specs.Crc.{reduced, crc_register}
use Rattle.leveldb_base.specs.declared.crc.quotient.TheConstants.{TERMS}
use Rattle.leveldb_base.proofs.CrcQuotientLemmas.{after_divided}
use Rattle.leveldb_base.proofs.crc.quotient.after_division.Goals as goal

pub returns : goal.returns
returns c =
    let blocks = c.args.blocks.now in
    let many = length blocks - 17 in
    let divided = c.split_at.result.0.now in
    let left = c.split_at.result.1.now in
    let bytes = c.divide.new.self.bytes in
    let front : divided ≡ take many blocks = c.split_at.ensures.front in
    let back : left ≡ drop many blocks = c.split_at.ensures.back in
    let some : length divided ≡ many = omega arith in
    let far : length divided * 16 ≡ 16 * many = omega (arith, some) in
    let done : 16 * length divided ≡ 16 * many = omega (arith, some) in
    c.after_left.ensures ∙ ap₂ (λ n l. crc_register 0 (reduced TERMS bytes n (concat l))) far back
    ∙ after_divided c.args.register blocks many c.of-quotient.result.bytes bytes c.ranges.register.fits c.told-blocks (omega arith) (omega arith)
    c.of-quotient.ensures
    (c.divide.ensures.same ∙ ap (λ n. put_chunk 266 c.of-quotient.result.bytes (chunk 266 n bytes)) done)
    (subst (λ n. All (λ byte. byte < 256) (chunk 266 n bytes)) done c.divide.ensures.bytes)
    (ap (λ n. chunk 266 n bytes) (sym done) ∙ c.divide.ensures.quotient ∙ ap (λ l. reduced TERMS bytes 0 (concat l)) front)
