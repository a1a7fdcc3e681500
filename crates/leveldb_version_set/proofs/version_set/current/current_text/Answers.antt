use Rattle.std.proofs.Common.{◌∙◌, ap, ◌∷◌, ◌++◌, []}
use Rattle.std.specs.Prelude.{codes}
use Rattle.std.specs.Fmt.{styled_decimal}
use Rattle.leveldb_base.proofs.NamesLemmas.{padded_is_six_digits}
use Rattle.leveldb_version_set.proofs.version_set.current.current_text.Goals as goal

pub returns-clause-ok : goal.returns-clause-ok
returns-clause-ok c =
    let digits = ap (λ spec. styled_decimal spec c.args.manifest) c.laid_out.ensures ∙ padded_is_six_digits c.args.manifest in
    c.in_ok-format.ensures.ok ∙ ap (λ z. codes "MANIFEST-" ++ (z ++ 10 ∷ [])) digits
