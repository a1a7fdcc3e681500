use Rattle.std.proofs.Common.{subst, sym, List, ℕ}
use Rattle.leveldb_base.specs.Names.{IsFileName}
use Rattle.leveldb_base.specs.declared.types.FileType.TheVariants.{Descriptor}
use Rattle.leveldb_files.proofs.Edits.CurrentLemmas.{manifest_name_is_utf8, line_is_name, kept_ok, kept_err}
use Rattle.leveldb_version_set.proofs.version_set.current.read_current_text.Goals as goal

pub returns-in_err-name : goal.returns-in_err-name
returns-in_err-name c =
    let refused = kept_err c.from_utf8.result _ _ c.from_utf8.ensures.cases c.in_err-name.ensures.value in
    rw c.from_residual.ensures
    (λ name n h. refused.1.0 (manifest_name_is_utf8 _ n (line_is_name c.args.text.now name n h)))

pub returns-in_err-manifest_number : goal.returns-in_err-manifest_number
returns-in_err-manifest_number c =
    let line = kept_ok c.from_utf8.result _ _ c.in_ok-name.name c.from_utf8.ensures.cases c.in_ok-name.ensures.value in
    rw c.from_residual-in_err-manifest_number.ensures
    (λ name n h. c.in_err-manifest_number.ensures n (let P : List ℕ → Type 0 = λ z. IsFileName z n Descriptor in subst P (sym line.0) (line_is_name c.args.text.now name n h)))
