use Rattle.std.proofs.Common.{◌∙◌, ap, ◌∷◌, ◌++◌}
use Rattle.std.specs.Prelude.{codes}
use Rattle.std.specs.Fmt.{styled_decimal}
use Rattle.leveldb_base.proofs.NamesLemmas.{padded_is_six_digits}
use Rattle.leveldb_base.proofs.names.temp_file_name.Goals as goal

pub returns-clause-ok : goal.returns-clause-ok
returns-clause-ok c =
    let digits = ap (λ spec. styled_decimal spec c.args.number) c.laid_out.ensures ∙ padded_is_six_digits c.args.number in
    c.in_ok-format.ensures.ok ∙ ap (λ z. c.args.store.now ++ 47 ∷ (z ++ codes ".dbtmp")) digits
