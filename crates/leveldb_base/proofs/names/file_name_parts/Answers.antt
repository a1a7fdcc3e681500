use Rattle.std.proofs.Common.{sym, ◌∙◌, ap, ◌++◌}
use Rattle.std.specs.Prelude.{codes}
use Rattle.leveldb_base.proofs.NamesLemmas.{manifest_without_number, undotted, unknown_extension, unnumbered}
use Rattle.leveldb_base.proofs.names.file_name_parts.Goals as goal

pub returns-in_err-read_number : goal.returns-in_err-read_number
returns-in_err-read_number c =
    let cut = c.in-Some-strip_prefix.ensures.cases in
    rw c.from_residual.ensures
    (manifest_without_number c.args.name.now c.in-Some-strip_prefix.digits.now c.in_default.ensures (cut.1.1 ∙ ap (λ z. codes "MANIFEST-" ++ z) (sym cut.2)) c.in_err-read_number.ensures)

pub returns-in_err-digits : goal.returns-in_err-digits
returns-in_err-digits c =
    rw c.from_residual-in_err-digits.ensures
    (undotted c.args.name.now c.in_default.ensures c.in_default-strip_prefix.ensures.cases c.in_err-digits.ensures.cases)

pub returns-in_err-kind : goal.returns-in_err-kind
returns-in_err-kind c =
    rw c.from_residual-in_err-kind.ensures
    (unknown_extension c.args.name.now (c.in_ok-digits.digits, c.in_ok-digits.extension) c.in_default.ensures c.in_default-strip_prefix.ensures.cases c.in_ok-digits.ensures.cases c.in_err-kind.ensures)

pub returns-in_err-read_number-2 : goal.returns-in_err-read_number-2
returns-in_err-read_number-2 c =
    rw c.from_residual-in_err-read_number-2.ensures
    (unnumbered c.args.name.now (c.in_ok-digits.digits, c.in_ok-digits.extension) c.in_default.ensures c.in_default-strip_prefix.ensures.cases c.in_ok-digits.ensures.cases c.in_err-read_number-2.ensures)
