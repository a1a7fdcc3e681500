use Rattle.std.proofs.Common.{◌≡◌, ◌-◌, ◌/◌, ◌%◌, ◌<◌, ap, arith, drop, length, ◌∙◌}
use Rattle.std.proofs.lemmas.Bool.{lt-ltb, ltb-true}
use Rattle.std.proofs.lemmas.Grind.{get_or_default_zero}
use Rattle.std.proofs.lemmas.List.{take_rest}
use Rattle.std.specs.List.{All}
use Rattle.byteorder.specs.Endian.{little_number}
use Rattle.leveldb_table.proofs.ReadableTableLemmas.{key_numbered, numbered_tag}
use Rattle.leveldb_table.proofs.readable.keys.is_numbered.Goals as goal

pub returns-then-tag-lt2 : goal.returns-then-tag-lt2
returns-then-tag-lt2 c =
    let key = c.args.key.now in
    let tag = c.read_u64-tag.result in
    let at : c.in-Some.at ≡ length key - 8 = omega (arith, c.in-Some.ensures) in
    let is : tag ≡ little_number 8 (drop (length key - 8) key) =
    c.read_u64-tag.ensures ∙ ap (little_number 8) (take_rest key c.in-Some.at) ∙ ap (λ n.
    little_number 8 (drop n key)) at in
    let small : All (λ b. b < 256) key = λ k d h. let byte = c.type_inv.key k in omega (
      arith,
      byte,
      get_or_default_zero key k d h,
    ) in (
      λ e. key_numbered key tag (omega (arith, c.in-Some.ensures)) small is (omega arith)
          c.if-tag-lt2.true (ltb-true 0 (tag / 256) e),
      λ is_key. lt-ltb 0 (tag / 256) (numbered_tag tag is_key is).1,
    )

pub returns-else-tag-lt2 : goal.returns-else-tag-lt2
returns-else-tag-lt2 c =
    let key = c.args.key.now in
    let tag = c.read_u64-tag.result in
    let at : c.in-Some.at ≡ length key - 8 = omega (arith, c.in-Some.ensures) in
    let is : tag ≡ little_number 8 (drop (length key - 8) key) =
    c.read_u64-tag.ensures ∙ ap (little_number 8) (take_rest key c.in-Some.at) ∙ ap (λ n.
    little_number 8 (drop n key)) at in (
      λ e. let below = ltb-true (tag % 256) 2 e in absurd (omega (
        arith,
        below,
        c.if-tag-lt2.false,
      )),
      λ is_key. lt-ltb (tag % 256) 2 (numbered_tag tag is_key is).0,
    )
