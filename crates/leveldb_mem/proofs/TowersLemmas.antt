-- Draws of a tower's height.
use Rattle.std.proofs.Common.{◌≡◌, ◌≢◌, ℕ, zero, suc, ◌+◌, ◌-◌, ◌<◌, ◌≤◌, refl, sym, ◌∙◌, ap, arith}
use Rattle.std.specs.Prelude.{◌%◌}
use Rattle.std.proofs.lemmas.Bool.{cond-true, cond-false, eq-eqb, ne_eqb}
use Rattle.rand_core.specs.Stream.{Stream, next_u64}
use Rattle.leveldb_mem.specs.Towers.{drawn_links}

-- so many links have been drawn, and those to come are drawn from this stream
pub record Draws (start stream : Stream) (height : ℕ) : Type 0 where
  pub low : 0 < height
  pub high : height ≤ 12
  pub links : (drawn_links 11 start).0 + 1 ≡ (drawn_links (12 - height) stream).0 + height
  pub rest : (drawn_links 11 start).1 ≡ (drawn_links (12 - height) stream).1

pub drawn_none : (most : ℕ) (stream : Stream) → most ≡ 0 → drawn_links most stream ≡ (0, stream)
unfolding drawn_links
drawn_none zero stream e = refl
drawn_none (suc most) stream e = absurd (omega (arith, e))

pub drawn_stop : (most : ℕ) (stream : Stream) → 0 < most → (next_u64 stream).0 % 4 ≢ 0 → drawn_links most stream ≡ (0, (next_u64 stream).1)
unfolding drawn_links
drawn_stop zero stream h other = absurd (omega (arith, h))
drawn_stop (suc most) stream h other = cond-false _ _ _ (ne_eqb ((next_u64 stream).0 % 4) 0 other)

pub drawn_more : (most : ℕ) (stream : Stream) → (next_u64 stream).0 % 4 ≡ 0
    → drawn_links (suc most) stream ≡ ((drawn_links most (next_u64 stream).1).0 + 1, (drawn_links most (next_u64 stream).1).1)
unfolding drawn_links
drawn_more most stream e = cond-true _ _ _ (eq-eqb ((next_u64 stream).0 % 4) 0 e)

module _ {start stream : Stream} {height : ℕ} (draws : Draws start stream height) where
  pub draws_more : height < 12 → (number : ℕ) (after : Stream) → (number, after) ≡ next_u64 stream → number % 4 ≡ 0 → Draws start after (height + 1)
  draws_more h number after e multiple =
      let n : number ≡ (next_u64 stream).0 = ap (λ p. p.0) e in
      let s : after ≡ (next_u64 stream).1 = ap (λ p. p.1) e in
      let one : 12 - height ≡ suc (12 - (height + 1)) = omega (arith, h) in
      let more = ap (λ k. drawn_links k stream) one ∙ drawn_more (12 - (height + 1)) stream (ap (λ k. k % 4) (sym n) ∙ multiple) in
      let again = ap (λ z. drawn_links (12 - (height + 1)) z) s in
      record {
        low = omega arith;
        high = omega (arith, h);
        links = omega (arith, draws.links, ap (λ p. p.0) more, ap (λ p. p.0) again);
        rest = draws.rest ∙ ap (λ p. p.1) more ∙ sym (ap (λ p. p.1) again);
      }

  pub stopped : height < 12 → (number : ℕ) (after : Stream) → (number, after) ≡ next_u64 stream → number % 4 ≢ 0
      → (height ≡ (drawn_links 11 start).0 + 1) × (after ≡ (drawn_links 11 start).1)
  stopped h number after e other =
      let n : number ≡ (next_u64 stream).0 = ap (λ p. p.0) e in
      let s : after ≡ (next_u64 stream).1 = ap (λ p. p.1) e in
      let stop = drawn_stop (12 - height) stream (omega (arith, h)) (λ z. other (ap (λ k. k % 4) n ∙ z)) in
      (omega (arith, draws.links, ap (λ p. p.0) stop), s ∙ sym (draws.rest ∙ ap (λ p. p.1) stop))

  pub ended : 12 ≤ height → (height ≡ (drawn_links 11 start).0 + 1) × (stream ≡ (drawn_links 11 start).1)
  ended h =
      let stop = drawn_none (12 - height) stream (omega (arith, h)) in
      (omega (arith, draws.links, ap (λ p. p.0) stop), sym (draws.rest ∙ ap (λ p. p.1) stop))
