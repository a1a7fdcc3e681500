use Rattle.std.proofs.Common.{◌≡◌, ◌+◌, ◌<◌, ◌≤◌, [], ◌∷◌, ◌++◌, ap, ap₂, sym, ◌∙◌, arith, length, map, take, get_or}
use Rattle.std.specs.List.{concat}
use Rattle.std.proofs.lemmas.List.{map_more, take_all}
use Rattle.leveldb_base.specs.KeyTypes.{user_part}
use Rattle.leveldb_env.specs.Filter.{keys_at}
use Rattle.leveldb_env.proofs.FilterLemmas.{length-keys_at, starts, starts-more, concat-more, keys_at-starts}
use Rattle.leveldb_env.proofs.filter.internal.user_keys.Goals as goal

pub loop-i-preserved : goal.loop-i-preserved
loop-i-preserved c =
    let keys = keys_at c.args.key_offsets.now c.args.keys.now
    in let there : c.loop-i.i < length keys = omega (arith, length-keys_at c.args.key_offsets.now c.args.keys.now)
    in let users = map user_part (take c.loop-i.i keys)
    in let user = user_part (get_or keys c.loop-i.i [])
    in let more : map user_part (take (c.loop-i.i + 1) keys) ≡ users ++ user ∷ [] = map_more user_part keys c.loop-i.i [] there
    in let key : c.user_key.result.now ≡ user = c.user_key.ensures ∙ ap user_part c.key_at.ensures
    in let begins : c.len.result ≡ 0 + length (concat users) = omega (arith, c.len.ensures, c.loop-i.users.ok, ap length c.loop-i.invariant.0)
    in (
      c.in_ok-extend_from_slice.ensures.items ∙ ap₂ (λ a b. a ++ b) c.loop-i.invariant.0 key ∙ sym (ap concat more ∙ concat-more users user),
      c.in_ok-push.ensures.items ∙ ap₂ (λ a n. a ++ n ∷ []) c.loop-i.invariant.1 begins ∙ sym (ap (starts 0) more ∙ starts-more 0 users user),
    )

pub returns-clause-keys : goal.returns-clause-keys
returns-clause-keys c =
    let keys = keys_at c.args.key_offsets.now c.args.keys.now
    in let users = map user_part (take c.loop-i.i keys)
    in let all : length keys ≤ c.loop-i.i = omega (arith, length-keys_at c.args.key_offsets.now c.args.keys.now)
    in ap₂ keys_at c.loop-i.invariant.1 c.loop-i.invariant.0 ∙ keys_at-starts users ∙ ap (map user_part) (take_all c.loop-i.i keys all)
