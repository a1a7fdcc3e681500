use Rattle.std.proofs.Common.{◌∷◌, ◌++◌, ◌∙◌, ap, sym, lit<}
use Rattle.std.proofs.lemmas.Str.Pattern.{strip_prefix_char}
use Rattle.leveldb_env.proofs.MemEnvLemmas.{child_under-none, child_under-stripped}
use Rattle.leveldb_env.proofs.mem_env.files.child_of.Goals as goal

pub returns-in_err-strip_prefix : goal.returns-in_err-strip_prefix
returns-in_err-strip_prefix c = rw c.from_residual.ensures (sym (child_under-none c.args.folder.now c.args.name.now (λ child. c.in_err-strip_prefix.ensures.cases (47 ∷ child))))

pub returns : goal.returns
returns c =
    let stripped = c.in_ok-strip_prefix.ensures.cases in
    let slash = strip_prefix_char 47 c.in_ok-strip_prefix.field-0.now c.strip_prefix-2.result c.strip_prefix-2.ensures.cases (lit< tt) in
    child_under-stripped c.args.folder.now c.args.name.now c.in_ok-strip_prefix.field-0.now c.strip_prefix-2.result (stripped.1.1 ∙ ap (λ (t : _). c.args.folder.now ++ t) (sym stripped.2)) slash
