use Rattle.std.proofs.Common.{◌||◌, ap, sym, ◌∙◌}
use Rattle.std.specs.List.{list_all}
use Rattle.leveldb_env.specs.Bloom.{has_bit, probes, bits_of, count_in, bloom_matches}
use Rattle.leveldb_env.proofs.filter.bloom.BloomPolicyFilterPolicy.key_may_match.Goals as goal

pub returns-then-matches_all : goal.returns-then-matches_all
unfolding bloom_matches
returns-then-matches_all c =
    let filter = c.args.filter.now
    in let each = list_all (has_bit filter) (probes (bits_of filter) (count_in filter) c.args.key.now)
    in c.if-matches_all.true ∙ sym (ap (λ b. b || each) (sym c.matches_all.ensures ∙ c.if-matches_all.true))

pub returns-else-matches_all : goal.returns-else-matches_all
unfolding bloom_matches
returns-else-matches_all c =
    let filter = c.args.filter.now
    in let each = list_all (has_bit filter) (probes (bits_of filter) (count_in filter) c.args.key.now)
    in c.has_probes.ensures ∙ sym (ap (λ b. b || each) (sym c.matches_all.ensures ∙ c.if-matches_all.false))
