use Rattle.std.proofs.Common.{◌<◌, ◌^◌, ◌∙◌, List, ap, map, refl, subst, sym, ℕ}
use Rattle.std.proofs.lemmas.List.{take_all}
use Rattle.std.proofs.lemmas.List.Elements.{All-push}
use Rattle.std.specs.Prelude.{IsPermutation}
use Rattle.std.proofs.lemmas.List.Sorted.{All-permutation}
use Rattle.std.proofs.lemmas.Result.{IfOk-from_err}
use Rattle.leveldb_base.specs.declared.types.FileMetaData.{FileMetaData}
use Rattle.leveldb_version.specs.Versions.Version.{FilesFit, with_first_seeks}
use Rattle.leveldb_version.proofs.Versions.VersionLemmas.{made_more}
use Rattle.leveldb_version.proofs.ExitLemmas.{cause_is, cause_passed}
use Rattle.leveldb_version.proofs.version.Version.of_files.Goals as goal

pub returns-in_err-sorted : goal.returns-in_err-sorted
returns-in_err-sorted g c =
    let exit = c.from_residual in
    record {
      ok = IfOk-from_err exit.result _ exit.ensures.0;
      fit = IfOk-from_err exit.result _ exit.ensures.0;
      memory = cause_is _ exit.result exit.ensures.1;
    }

pub returns-in_err-with_first_seeks : goal.returns-in_err-with_first_seeks
returns-in_err-with_first_seeks g c =
    let exit = c.from_residual-in_err-with_first_seeks in
    record {
      ok = IfOk-from_err exit.result _ exit.ensures.0;
      fit = IfOk-from_err exit.result _ exit.ensures.0;
      memory = cause_passed _ exit.result _ exit.ensures.1 c.in_err-with_first_seeks.ensures.memory;
    }

pub returns-in_err-push : goal.returns-in_err-push
returns-in_err-push g c =
    let exit = c.from_residual-in_err-push in
    record {
      ok = IfOk-from_err exit.result _ exit.ensures.0;
      fit = IfOk-from_err exit.result _ exit.ensures.0;
      memory = cause_is _ exit.result exit.ensures.1;
    }

pub returns-in_err-sort_files : goal.returns-in_err-sort_files
returns-in_err-sort_files g c =
    let exit = c.from_residual-in_err-sort_files in
    record {
      ok = IfOk-from_err exit.result _ exit.ensures.0;
      fit = IfOk-from_err exit.result _ exit.ensures.0;
      memory = cause_passed _ exit.result _ exit.ensures.1 c.in_err-sort_files.ensures.memory;
    }

pub invariant_of-result : goal.invariant_of-result
invariant_of-result g c =
    let Fits : ℕ × FileMetaData → Type 0 = λ file. (file.1.num < 2 ^ 64) × (file.1.size < 2 ^ 64) in
    (c.in_ok-sort_files.ensures.in_order, All-permutation Fits c.loop-file.sorted.items c.sort_files.new.files.items c.in_ok-sort_files.ensures.same_files c.loop-file.invariant.fit)

pub returns-clause-fit : goal.returns-clause-fit
returns-clause-fit g c =
    let Fits : ℕ × FileMetaData → Type 0 = λ file. (file.1.num < 2 ^ 64) × (file.1.size < 2 ^ 64) in
    All-permutation Fits c.loop-file.sorted.items c.sort_files.new.files.items c.in_ok-sort_files.ensures.same_files c.loop-file.invariant.fit

pub loop-file-preserved : goal.loop-file-preserved
loop-file-preserved g c =
    let Fits : ℕ × FileMetaData → Type 0 = λ file. (file.1.num < 2 ^ 64) × (file.1.size < 2 ^ 64) in
    let copy = c.in_ok-with_first_seeks in
    record {
      copied = made_more with_first_seeks c.args.files.now c.loop-file.file-index c.file-item.result copy.field-0 c.loop-file.sorted.items c.push.new.self.items
          c.loop-file-test.true c.file-item.is c.loop-file.invariant.copied copy.ensures.ok c.in_ok-push.ensures.items;
      fit = subst FilesFit (sym c.in_ok-push.ensures.items)
          (All-push Fits c.loop-file.sorted.items copy.field-0 c.loop-file.invariant.fit (subst Fits (sym copy.ensures.ok) copy.ensures.fits));
    }

pub returns-clause-ok : goal.returns-clause-ok
returns-clause-ok g c =
    let all = c.loop-file.invariant.copied ∙ ap (map with_first_seeks) (take_all c.loop-file.file-index c.args.files.now c.loop-file-test.false) in
    record {
      cmp_is = refl;
      files_are = subst (λ (fs : List (ℕ × FileMetaData)). IsPermutation fs c.sort_files.new.files.items) all c.in_ok-sort_files.ensures.same_files;
      in_order = c.in_ok-sort_files.ensures.in_order;
      none_chosen = refl;
    }
