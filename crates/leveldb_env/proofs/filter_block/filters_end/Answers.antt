use Rattle.std.proofs.Common.{◌≡◌, ◌+◌, ◌-◌, ◌<◌, length, take, drop, true, false, sym, ap, subst, ◌∙◌, arith}
use Rattle.std.specs.List.{All, concat}
use Rattle.std.proofs.lemmas.List.{take_rest}
use Rattle.std.proofs.lemmas.Grind.{get_or_default_zero}
use Rattle.byteorder.specs.Endian.{little_number}
use Rattle.leveldb_env.specs.FilterBlock.{BeginsAt, RiseFrom, numbers_in}
use Rattle.leveldb_env.proofs.FilterBlockLemmas.{whole_size, end_read, last_read, places_read, places_rise_from, is_held}
use Rattle.leveldb_env.proofs.filter_block.filters_end.Goals as goal
use Rattle.leveldb_env.proofs.filter_block.filters_end.Goals.{then-limit-tail-via-then-limit-tail, then-limit-tail-via-else-limit-tail+then-tail-limit-ne0}

pub returns-in_err-tail : goal.returns-in_err-tail
returns-in_err-tail c = rw c.from_residual.ensures (λ filters block. omega (arith, whole_size block))

pub returns-then-bytes-tail-ne-FILTER_BASE_LOG2 : goal.returns-then-bytes-tail-ne-FILTER_BASE_LOG2
returns-then-bytes-tail-ne-FILTER_BASE_LOG2 c = λ filters block. c.if-bytes-tail-ne-FILTER_BASE_LOG2.true (last_read block (c.in_ok-tail.tail + 4) (omega arith))

pub returns-then-limit-tail : goal.returns-then-limit-tail
returns-then-limit-tail c =
    λ filters block.
    let tail = c.in_ok-tail.tail in
    let limit_is = c.read_u32-limit.ensures ∙ ap (little_number 4) (take_rest c.args.bytes.now tail) ∙ end_read block tail (omega arith) in
    let size = whole_size block in
    elim c.then-limit-tail.branch [
      | then-limit-tail-via-then-limit-tail w ↦ omega (arith, limit_is, size)
      | then-limit-tail-via-else-limit-tail+then-tail-limit-ne0 w ↦ omega (arith, limit_is, size)
    ]

pub returns-then-not-rise_from_zero : goal.returns-then-not-rise_from_zero
returns-then-not-rise_from_zero c =
    λ filters block.
    let tail = c.in_ok-tail.tail in
    let limit = c.read_u32-limit.result in
    let limit_is = c.read_u32-limit.ensures ∙ ap (little_number 4) (take_rest c.args.bytes.now tail) ∙ end_read block tail (omega arith) in
    let read = ap (λ z. numbers_in (take (tail + 4 - z) (drop z c.args.bytes.now))) limit_is
    ∙ places_read block (tail + 4 - length (concat filters)) (omega (arith, whole_size block)) in
    let yes = c.rise_from_zero.ensures.1 (subst (λ z. BeginsAt 0 z × RiseFrom 0 z) (sym read) (places_rise_from filters)) in
    let no : false ≡ true = sym c.if-not-rise_from_zero.true ∙ yes in
    absurd (cc)

pub returns : goal.returns
returns c =
    let tail = c.in_ok-tail.tail in
    let limit = c.read_u32-limit.result in
    let limit_is = sym (c.read_u32-limit.ensures ∙ ap (little_number 4) (take_rest c.args.bytes.now tail)) in
    let small : All (λ b. b < 256) c.args.bytes.now = λ k d h. let byte = c.type_inv.bytes k in omega (arith, byte, get_or_default_zero c.args.bytes.now k d h) in
    let rise = c.rise_from_zero.ensures.0 c.if-not-rise_from_zero.false in
    is_held c.args.bytes.now small tail limit (omega arith) c.if-bytes-tail-ne-FILTER_BASE_LOG2.false limit_is c.if-limit-tail.false c.if-tail-limit-ne0.false rise.0 rise.1
