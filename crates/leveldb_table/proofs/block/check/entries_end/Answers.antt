use Rattle.std.proofs.Common.{◌≡◌, ◌+◌, ◌-◌, ◌*◌, ◌<◌, ◌≤◌, ◌∙◌, ℕ, Option, None, Some, ap, arith, drop, length}
use Rattle.std.specs.Option.{MatchOption, SomeIff}
use Rattle.std.proofs.lemmas.List.{take_rest}
use Rattle.std.proofs.lemmas.Grind.{get_or_default_zero}
use Rattle.byteorder.specs.Endian.{little_number}
use Rattle.leveldb_table.specs.BlockCheck.{count_at_end}
use Rattle.leveldb_table.proofs.block.check.entries_end.Goals as goal

-- a block without a number of restart points
too_short : (long count : ℕ) (result : Option ℕ) → result ≡ None → (4 ≤ long → ⊥) → MatchOption result (long < 4 * count + 4) (λ limit. limit + (4 * count + 4) ≡ long)
too_short long count None none short = omega (arith, short)
too_short long count (Some limit) none short = cc

-- where the restart points of a block begin, if it has room for them
limit_is : (long end read count : ℕ) (result : Option ℕ) → SomeIff result (4 * read ≤ end) (end - 4 * read) → 4 ≤ long → end ≡ long - 4 → read ≡ count
    → MatchOption result (long < 4 * count + 4) (λ limit. limit + (4 * count + 4) ≡ long)
limit_is long end read count None left some at same = omega (arith, left, some, at, same)
limit_is long end read count (Some limit) left some at same = omega (arith, left.0, left.1, some, at, same)

pub returns-in_err-points_end-clause-limit : goal.returns-in_err-points_end-clause-limit
returns-in_err-points_end-clause-limit c = too_short (length c.args.bytes.now) (count_at_end c.args.bytes.now) c.from_residual.result c.from_residual.ensures c.in_err-points_end.ensures

pub returns-clause-limit : goal.returns-clause-limit
returns-clause-limit c =
    let bytes = c.args.bytes.now in
    let end = c.in_ok-points_end.ensures in
    limit_is (length bytes) c.in_ok-points_end.points_end c.read_u32-count.result (count_at_end bytes) c.checked_sub-2.result c.checked_sub-2.ensures end.0 end.1
    (c.read_u32-count.ensures ∙ ap (little_number 4) (take_rest bytes c.in_ok-points_end.points_end ∙ ap (λ n. drop n bytes) end.1))

pub returns-in_err-points_end-clause-bytes : goal.returns-in_err-points_end-clause-bytes
returns-in_err-points_end-clause-bytes c = λ k d inside. let byte = c.type_inv.bytes k in omega (arith, byte, get_or_default_zero c.args.bytes.now k d inside)

pub returns-clause-bytes : goal.returns-clause-bytes
returns-clause-bytes c = λ k d inside. let byte = c.type_inv.bytes k in omega (arith, byte, get_or_default_zero c.args.bytes.now k d inside)
