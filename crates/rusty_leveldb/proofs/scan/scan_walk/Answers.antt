-- After an error no pair is left of those that came.
use Rattle.std.proofs.Common.{rules, ◌≡◌, ◌++◌, ◌∙◌, [], append-nil, ap, length, sym, take}
use Rattle.std.proofs.Math.Seq.{take-append_seam}
use Rattle.rusty_leveldb.proofs.Walks.ScanWalkLemmas.{failed_scan}
use Rattle.rusty_leveldb.proofs.scan.scan_walk.Goals as goal

pub returns-then-is_err : goal.returns-then-is_err
returns-then-is_err g c =
    let made = c.append_pairs-scanned.ensures in
    let old = c.args.pairs.now.items in
    let count : c.len-before.result ≡ length old = search rules in
    let before : take c.len-before.result c.append_pairs-scanned.new.pairs.items ≡ old =
    ap (λ n. take n c.append_pairs-scanned.new.pairs.items) count
    ∙ ap (λ items. take (length old) items) made.1 ∙ take-append_seam old made.0 in
    let scan = failed_scan g.W.Walk c.args.scan (c.args.env.now, c.args.tables.now)
    c.args.walk.now c.append_pairs-scanned.result (search rules) made.2 in (
      [],
      c.truncate.ensures.items ∙ before ∙ sym (append-nil old),
      scan.0,
      scan.1,
    )
