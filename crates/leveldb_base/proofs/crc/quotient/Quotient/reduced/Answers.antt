use Rattle.std.proofs.Common.{◌≡◌, ◌∙◌, ◌+◌, ◌-◌, ◌≤◌, ap, sym, arith, take, drop, length, get_or}
use Rattle.std.specs.Int.Bits.{bit_xor}
use Rattle.std.specs.Simd.Lanes.{zip2}
use Rattle.std.proofs.lemmas.List.{take-take, drop_more, drop_all}
use Rattle.leveldb_base.specs.Crc.{reduced}
use Rattle.leveldb_base.specs.declared.crc.quotient.TheConstants.{TERMS}
use Rattle.leveldb_base.proofs.CrcQuotientLemmas.{low_term, below}
use Rattle.leveldb_base.proofs.crc.quotient.Quotient.reduced.Goals as goal

pub loop-term-preserved : goal.loop-term-preserved
unfolding reduced
loop-term-preserved c =
    let index = c.loop-term.term-index in
    let left = c.loop-term.left in
    let bytes = c.args.self.now.bytes in
    let offset = c.args.offset in
    let term = get_or TERMS index 0 in
    let low : term ≤ 143 = low_term index 0 c.loop-term-test.true in
    let part : take 16 (take (4874 - (offset + term)) (drop (offset + term) bytes)) ≡ take (length left) (drop (offset + term) bytes) =
    take-take 16 (4874 - (offset + term)) (drop (offset + term) bytes) (omega arith)
    ∙ ap (λ n. take n (drop (offset + term) bytes)) (sym c.loop-term.auto.left.0) in
    ap (λ p. reduced (drop (index + 1) TERMS) bytes offset (zip2 bit_xor left p)) part
    ∙ sym (ap (λ terms. reduced terms bytes offset left) (drop_more TERMS index 0 c.loop-term-test.true))
    ∙ c.loop-term.invariant

pub returns-clause-left : goal.returns-clause-left
unfolding reduced
returns-clause-left c =
    sym (ap (λ terms. reduced terms c.args.self.now.bytes c.args.offset c.loop-term.left) (drop_all c.loop-term.term-index TERMS (omega arith)))
    ∙ c.loop-term.invariant

pub returns-clause-bytes : goal.returns-clause-bytes
returns-clause-bytes c = λ k d lt. below c.loop-term.left k d lt c.loop-term.auto.left.1
