use Rattle.std.proofs.Common.{◌≡◌, ◌≤◌, ◌%◌, ◌∙◌, ap, arith, drop, false, inl, inr, length, length-drop, not, subst, sym, true}
use mir.Val.{bool_byte}
use Rattle.std.proofs.lemmas.List.{take_rest}
use Rattle.leveldb_mem.specs.Log.{NoFragment, log_block_size}
use Rattle.leveldb_store.specs.Logs.Damage.{AreWholeUpTo, IsWholeFront}
use Rattle.leveldb_store.proofs.Logs.LogDamageLemmas.{at_most_one, none_goes_on, other_goes_on, whole_on}
use Rattle.leveldb_store.proofs.damage.scan_of.Goals as goal

pub loop-found-preserved : goal.loop-found-preserved
loop-found-preserved c =
    let text = c.args.text.now in
    let scan = c.loop-found.scan in
    let count = c.in-Some.found.count in
    let found = c.in-Some.ensures in
    let inv = c.loop-found.invariant in
    let left = length-drop scan.end text in
    let rest = take_rest text scan.end in
    let rest_length = ap length rest in
    record {
      whole = subst (λ n. AreWholeUpTo text n c.take.new.self.is_open c.take.new.self.has_data) (sym c.take.ensures.end)
          (whole_on text scan.end count c.in-Some.found.kind scan.is_open scan.has_data c.in-Some.found.has_data c.take.new.self.is_open c.take.new.self.has_data inv.within inv.whole
          (subst (λ z. IsWholeFront (scan.end % log_block_size) z count c.in-Some.found.kind c.in-Some.found.has_data) rest found.whole)
          (λ parts begun f is. (c.may_take.ensures parts begun f is).0 c.if-not-may_take.false)
          (λ parts begun f is. c.take.ensures.begun parts begun f is));
      within = omega (arith, c.take.ensures.end, found.within, inv.within, left, rest_length);
      records = c.take.ensures.records;
      count =
          let before = inv.count in
          let one = at_most_one bool_byte (omega arith) (omega arith) (not c.take.new.self.is_open) in
          let less : c.from-left.result ≤ 1 = subst (λ n. n ≤ 1) (sym c.from-left.ensures) one in
          let now = c.take.ensures.end in
          let size = found.some in
          let some = c.if-left-eq0.false in
          omega (arith, before, less, now, size);
    }

pub returns-clause-stops : goal.returns-clause-stops
returns-clause-stops c =
    let scan = c.loop-found.scan in
    let rest = take_rest c.args.text.now scan.end in
    inr (none_goes_on c.args.text.now scan.end scan.is_open scan.has_data
    (subst (NoFragment true log_block_size (scan.end % log_block_size)) rest c.in_default.ensures.none))

pub returns-then-left-eq0-clause-stops : goal.returns-then-left-eq0-clause-stops
returns-then-left-eq0-clause-stops c =
    let inv = c.loop-found.invariant in
    inl (omega (arith, inv.count, inv.within))

pub returns-then-not-may_take-clause-stops : goal.returns-then-not-may_take-clause-stops
returns-then-not-may_take-clause-stops c =
    let scan = c.loop-found.scan in
    let found = c.in-Some.found in
    let rest = take_rest c.args.text.now scan.end in
    inr (other_goes_on c.args.text.now scan.end found.count found.kind scan.is_open scan.has_data found.has_data
    (subst (λ z. IsWholeFront (scan.end % log_block_size) z found.count found.kind found.has_data) rest c.in-Some.ensures.whole)
    (λ parts begun f is continues. let never : false ≡ true = sym c.if-not-may_take.true ∙ (c.may_take.ensures parts begun f is).1 continues in cc))
