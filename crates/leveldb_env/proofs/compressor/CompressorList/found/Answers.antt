use Rattle.std.proofs.Common.{rules, ◌≡◌, ◌∙◌, true, false, sym, inl, inr}
use Rattle.leveldb_env.proofs.CompressorLemmas.{coding_here, coding_beyond, plain_here, plain_not}
use Rattle.leveldb_env.proofs.compressor.CompressorList.found.Goals as goal

pub returns-in-Some : goal.returns-in-Some
returns-in-Some g c =
    rw (sym c.listed-listed.ensures) (sym (coding_here (λ l. l.id) _ _ c.args.id c.listed-listed.result.now c.in-Some.at c.index-listed-at.result c.in-Some.ensures.some))

pub returns-then-id-eq-ID : goal.returns-then-id-eq-ID
returns-then-id-eq-ID g c =
    rw (sym c.listed-listed.ensures) (sym (coding_beyond (λ l. l.id) _ _ c.args.id c.listed-listed.result.now c.in_default.ensures.none
    ∙ plain_here c.args.self.now.plain c.args.id (search rules) (search rules)))

pub returns : goal.returns
returns g c =
    rw (sym c.listed-listed.ensures) (sym (coding_beyond (λ l. l.id) _ _ c.args.id c.listed-listed.result.now c.in_default.ensures.none
    ∙ plain_not c.args.self.now.plain c.args.id (λ is zero_is. elim c.else-self.either [ inl other ↦ other.1 zero_is | inr none ↦ let clash : true ≡ false = sym is ∙ none in cc ])))
