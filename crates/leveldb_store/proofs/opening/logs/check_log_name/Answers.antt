use Rattle.std.proofs.Common.{◌≡◌, ◌∙◌, ◌∷◌, ◌++◌, ap, drop, sym}
use Rattle.std.specs.Prelude.{codes}
use Rattle.std.proofs.lemmas.Slice.Eq.{bytes_eq-Decides}
use Rattle.std.proofs.lemmas.List.{append_cancel_left}
use Rattle.leveldb_base.specs.Names.{file_name}
use Rattle.leveldb_base.specs.declared.types.FileType.TheVariants.{Log}
use Rattle.leveldb_store.proofs.opening.logs.check_log_name.Goals as goal

pub returns-then-eq-clause-ok : goal.returns-then-eq-clause-ok
returns-then-eq-clause-ok c =
    let same : c.as_str.result.now ≡ c.as_str-2.result.now = (bytes_eq-Decides c.as_str.result.now c.as_str-2.result.now).0 (sym c.eq.ensures ∙ c.if-eq.true) in
    ap (drop 1) (append_cancel_left c.args.store.now (47 ∷ c.args.name.now) (codes "/" ++ file_name Log c.args.number)
    (sym c.in_ok-path.ensures.ok ∙ sym c.as_str.ensures.value ∙ same ∙ c.as_str-2.ensures.value ∙ c.in_ok-log_file_name.ensures.ok))
