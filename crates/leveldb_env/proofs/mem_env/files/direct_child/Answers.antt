use Rattle.std.proofs.Common.{◌∙◌, ap, sym, Some, None, cond, lit<}
use Rattle.std.specs.Option.{option_and_then}
use Rattle.std.proofs.lemmas.Str.Pattern.{contains_char}
use Rattle.leveldb_env.specs.MemEnv.{without_slash}
use Rattle.leveldb_env.proofs.MemEnvLemmas.{has_slash}
use Rattle.leveldb_env.proofs.mem_env.files.direct_child.Goals as goal

pub returns-in-Some : goal.returns-in-Some
returns-in-Some c =
    let child = c.in-Some.child.now in
    let slash = has_slash child c.contains.result (contains_char 47 child c.contains.result c.contains.ensures.cases (lit< tt)) in
    sym (ap (option_and_then without_slash) (sym c.in-Some.ensures) ∙ ap (λ b. cond b None (Some child)) (slash ∙ c.if-not-contains.true))
