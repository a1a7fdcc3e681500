use Rattle.std.proofs.Common.{◌<◌, ◌≤◌, ◌+◌, ⊎_elim, arith, length}
use Rattle.std.proofs.lemmas.Bool.{cases_lt, le-leb, leb-true}
use Rattle.leveldb_base.specs.KeyTypes.{greatest_sequence}
use Rattle.leveldb_store.proofs.Logs.ReplayLogLemmas.{fits_all, fits_not}
use Rattle.leveldb_store.proofs.log_replay.next_found.has_entry_numbers.Goals as goal

pub returns-then-first-le-MAX_SEQUENCE_NUMBER : goal.returns-then-first-le-MAX_SEQUENCE_NUMBER
returns-then-first-le-MAX_SEQUENCE_NUMBER c =
    let first = c.args.batch.now.first in
    let items = c.args.batch.now.items in (
      λ is.
          let least = leb-true (c.sequence-first.result + c.from-count.result) 72057594037927936 is in record {
            from_one = omega arith;
            first_fits = omega arith;
            fits = fits_all first items (omega arith) (omega (arith, least, c.count.ensures, c.from-count.ensures, c.sequence-first.ensures));
          },
      λ has. ⊎_elim
          (λ (more : greatest_sequence + 1 < first + length items). absurd (fits_not first items has.first_fits more has.fits))
          (λ (fits : first + length items ≤ greatest_sequence + 1). le-leb (c.sequence-first.result + c.from-count.result) 72057594037927936
          (omega (arith, fits, c.count.ensures, c.from-count.ensures, c.sequence-first.ensures)))
          (cases_lt (greatest_sequence + 1) (first + length items)),
    )
