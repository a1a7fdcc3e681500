use Rattle.std.proofs.Common.{List, Option, subst, sym, ℕ}
use Rattle.std.specs.Prelude.{string_bytes}
use Rattle.std.specs.Option.{option_map}
use Rattle.std.proofs.lemmas.Result.{err_from_is_err_and}
use Rattle.leveldb_base.specs.declared.types.FileMetaData.{FileMetaData}
use Rattle.leveldb_version_set.specs.Sets.Usable.{AreAllApart, HasClash, IsOtherComparator}
use Rattle.leveldb_files.specs.Edits.VersionSet.{HaveKeyRanges}
use Rattle.leveldb_version_set.proofs.Sets.UsableLemmas.{as_new_files, clash_refused, comparator_refused, edits_usable, if_err_more, number_refused, on_ok_more, ranges_refused, start_refused}
use Rattle.leveldb_version_set.proofs.version_set.usable.check_usable.Goals as goal

pub returns-in_err-check_comparator-clause-cause : goal.returns-in_err-check_comparator-clause-cause
returns-in_err-check_comparator-clause-cause g c =
    let p = err_from_is_err_and c.from_residual.result c.from_residual.ensures.1 in
    let found : Option (List ℕ) = option_map string_bytes c.args.left.now.full.comparator in
    let why : IsOtherComparator (g.C.Cmp.name c.args.ucmp.now) found c.in_err-check_comparator.field-0.0 =
    subst (λ name. IsOtherComparator name found c.in_err-check_comparator.field-0.0) c.id.ensures c.in_err-check_comparator.ensures.cause in
    rw (p.1, p.2) (λ edits is_left. comparator_refused (g.C.Cmp.cmp c.args.ucmp.now) (g.C.Cmp.name c.args.ucmp.now) edits c.args.left.now is_left c.in_err-check_comparator.field-0.0 why)

pub returns-in_err-check_start_numbers-clause-cause : goal.returns-in_err-check_start_numbers-clause-cause
returns-in_err-check_start_numbers-clause-cause g c =
    let p = err_from_is_err_and c.from_residual-in_err-check_start_numbers.result c.from_residual-in_err-check_start_numbers.ensures.1 in
    rw (p.1, p.2) (λ edits is_left. start_refused (g.C.Cmp.cmp c.args.ucmp.now) (g.C.Cmp.name c.args.ucmp.now) edits c.args.left.now is_left c.in_err-check_start_numbers.field-0.0 c.in_err-check_start_numbers.ensures.cause)

pub returns-in_err-check_fit-clause-cause : goal.returns-in_err-check_fit-clause-cause
returns-in_err-check_fit-clause-cause g c =
    let p = err_from_is_err_and c.from_residual-in_err-check_fit.result c.from_residual-in_err-check_fit.ensures.1 in
    rw (p.1, p.2) (λ edits is_left. number_refused (g.C.Cmp.cmp c.args.ucmp.now) (g.C.Cmp.name c.args.ucmp.now) edits c.args.left.now is_left c.in_err-check_fit.field-0.0 c.in_err-check_fit.ensures.cause)

pub returns-in_err-check_key_ranges-clause-cause : goal.returns-in_err-check_key_ranges-clause-cause
returns-in_err-check_key_ranges-clause-cause g c =
    let p = err_from_is_err_and c.from_residual-in_err-check_key_ranges.result c.from_residual-in_err-check_key_ranges.ensures.1 in
    rw (p.1, p.2) (λ edits is_left. ranges_refused (g.C.Cmp.cmp c.args.ucmp.now) (g.C.Cmp.name c.args.ucmp.now) edits c.args.left.now is_left c.in_err-check_key_ranges.field-0.0 (rw (sym c.id.ensures) c.in_ok-check_comparator.ensures.ok)
    (c.in_err-check_key_ranges.ensures.malformed.0, λ all. c.in_err-check_key_ranges.ensures.malformed.1 (rw c.as_slice-files.ensures.value all)))

pub returns-clause-ok : goal.returns-clause-ok
returns-clause-ok g c =
    let cmp = g.C.Cmp.cmp c.args.ucmp.now in
    let Ranges : List (ℕ × FileMetaData) → Type 0 = λ fs. HaveKeyRanges cmp (as_new_files fs) in
    let Apart : List (ℕ × FileMetaData) → Type 0 = λ fs. AreAllApart cmp (as_new_files fs) (as_new_files fs) in
    on_ok_more c.check_apart.result c.check_apart.ensures.ok (λ apart edits is_left.
    edits_usable cmp (g.C.Cmp.name c.args.ucmp.now) edits c.args.left.now is_left (rw (sym c.id.ensures) c.in_ok-check_comparator.ensures.ok) c.in_ok-check_start_numbers.ensures.ok c.in_ok-check_fit.ensures.ok
    (subst Ranges c.as_slice-files.ensures.value c.in_ok-check_key_ranges.ensures.ok) (subst Apart c.as_slice-files.ensures.value apart))

pub returns-clause-cause : goal.returns-clause-cause
returns-clause-cause g c =
    let cmp = g.C.Cmp.cmp c.args.ucmp.now in
    if_err_more c.check_apart.result c.check_apart.ensures.cause (λ status clash edits is_left.
    clash_refused cmp (g.C.Cmp.name c.args.ucmp.now) edits c.args.left.now is_left status (rw (sym c.id.ensures) c.in_ok-check_comparator.ensures.ok)
    (let Clash : List (ℕ × FileMetaData) → Type 0 = λ fs. HasClash cmp (as_new_files fs) status in subst Clash c.as_slice-files.ensures.value clash))
