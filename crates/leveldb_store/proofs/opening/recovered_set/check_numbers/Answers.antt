use Rattle.std.proofs.Common.{◌≡◌, ◌∙◌, false, sym, true}
use Rattle.std.proofs.lemmas.Result.{err_from_is_err_and}
use Rattle.leveldb_store.proofs.Keeping.GivenNumbersLemmas.{below_of_given, given_of_below}
use Rattle.leveldb_store.proofs.opening.recovered_set.check_numbers.Goals as goal

pub returns-then-are_below-clause-ok : goal.returns-then-are_below-clause-ok
returns-then-are_below-clause-ok g c =
    given_of_below c.args.versions.now c.next_file_num-next.result c.next_file_num-next.ensures c.files.result.now c.files.ensures (c.are_below.ensures.0 c.if-are_below.true)

pub returns-clause-cause : goal.returns-clause-cause
returns-clause-cause g c =
    let failed = err_from_is_err_and c.err.result c.err.ensures.code in
    rw failed.1 (
      failed.2,
      λ given.
          let never : false ≡ true = sym c.if-are_below.false ∙ c.are_below.ensures.1 (below_of_given c.args.versions.now c.next_file_num-next.result c.next_file_num-next.ensures c.files.result.now c.files.ensures given) in cc,
    )
