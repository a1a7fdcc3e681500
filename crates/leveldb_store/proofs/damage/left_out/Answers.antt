use Rattle.std.proofs.Common.{◌≡◌, ◌∙◌, arith, false, sym, true, ⊎_elim}
use Rattle.leveldb_store.proofs.Logs.LogDamageLemmas.{loses_there, lost_later}
use Rattle.leveldb_store.proofs.damage.left_out.Goals as goal

pub returns-then-is_torn-clause-loses : goal.returns-then-is_torn-clause-loses
returns-then-is_torn-clause-loses c = λ loses.
    let scan = c.scan_of-scan.ensures in
    let has = c.has_end_from-has_records.ensures.1
    (lost_later c.args.text.now c.scan_of-scan.result.end c.scan_of-scan.result.is_open c.scan_of-scan.result.has_data scan.within scan.whole loses) in
    let never : false ≡ true = sym c.if-not-has_records.true ∙ has in absurd (cc never)

pub returns-clause-loses : goal.returns-clause-loses
returns-clause-loses c = λ loses.
    let scan = c.scan_of-scan.ensures in
    c.has_end_from-has_records.ensures.1
    (lost_later c.args.text.now c.scan_of-scan.result.end c.scan_of-scan.result.is_open c.scan_of-scan.result.has_data scan.within scan.whole loses)

pub returns-clause-lost : goal.returns-clause-lost
returns-clause-lost c = λ has.
    let scan = c.scan_of-scan.result in
    let found = c.scan_of-scan.ensures in
    ⊎_elim (λ many. absurd (omega (arith, many)))
    (λ none. loses_there c.args.text.now scan.end scan.is_open scan.has_data found.within found.whole none
    (c.has_end_from-has_records.ensures.0 has)) found.stops
