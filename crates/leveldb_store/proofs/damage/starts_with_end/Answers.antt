use Rattle.std.proofs.Common.{◌≡◌, ◌∙◌, ◌⊎◌, false, subst, sym, true}
use Rattle.leveldb_mem.specs.Log.{NoFragment, log_block_size}
use Rattle.leveldb_store.proofs.Logs.LogDamageLemmas.{headed_end, headed_starts, headed_type, no_end}
use Rattle.leveldb_store.proofs.damage.starts_with_end.Goals as goal

pub returns-in_default : goal.returns-in_default
returns-in_default c = (
  λ never. absurd (let wrong : false ≡ true = never in cc),
  λ it. absurd (no_end c.args.offset c.args.rest.now c.in_default.ensures.none it),
)

pub returns-in_default-headed : goal.returns-in_default-headed
returns-in_default-headed c = (
  λ never. absurd (let wrong : false ≡ true = never in cc),
  λ it. absurd (no_end c.args.offset c.args.rest.now
      (subst (NoFragment false log_block_size c.args.offset) (sym c.in-Some.ensures.some)
      c.in_default-headed.ensures.none) it),
)

pub returns-then-is_last : goal.returns-then-is_last
returns-then-is_last c =
    let body = c.in-Some.body.now in
    let fragment = c.in-Some-headed.fragment.now in
    let headed = c.in-Some-headed.ensures.some in
    let type = headed_type c.args.offset body fragment headed in (
      λ right. headed_starts c.args.offset body fragment headed c.args.rest.now c.in-Some.ensures.some
          (subst (λ n. (n ≡ 1) ⊎ (n ≡ 4)) type (c.is_last.ensures.0 c.if-is_last.true))
          (c.has_right_checksum.ensures.0 right),
      λ it. c.has_right_checksum.ensures.1
          (headed_end c.args.offset body fragment headed c.args.rest.now c.in-Some.ensures.some it).1,
    )

pub returns-else-is_last : goal.returns-else-is_last
returns-else-is_last c =
    let body = c.in-Some.body.now in
    let fragment = c.in-Some-headed.fragment.now in
    let headed = c.in-Some-headed.ensures.some in
    let type = headed_type c.args.offset body fragment headed in (
      λ last. absurd (let wrong : false ≡ true = sym c.if-is_last.false ∙ last in cc),
      λ it. c.is_last.ensures.1 (subst (λ n. (n ≡ 1) ⊎ (n ≡ 4)) (sym type)
          (headed_end c.args.offset body fragment headed c.args.rest.now c.in-Some.ensures.some it).0),
    )
