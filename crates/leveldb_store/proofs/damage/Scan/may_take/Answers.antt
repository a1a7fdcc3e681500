use Rattle.std.proofs.Common.{◌≡◌, ◌∙◌, inl, inr, ⊎_elim, Bool, arith, false, not, sym, true}
use Rattle.std.specs.Prelude.{IsTrue}
use Rattle.leveldb_store.proofs.Logs.LogDamageLemmas.{continues_if, first_comes, full_comes, last_comes, middle_comes, no_other_comes, not_opened, opened_not}
use Rattle.leveldb_store.proofs.damage.Scan.may_take.Goals as goal

apart : (b : Bool) → b ≡ true → b ≡ false → ⊥
apart b opened closed = let never : true ≡ false = sym opened ∙ closed in cc

pub returns-then-not-self : goal.returns-then-not-self
returns-then-not-self c = λ parts begun f is.
    let it = c.args.self.now in
    let found = c.args.found in
    continues_if parts it.is_open it.has_data begun f found.kind found.has_data is found.has_data
    (λ filled. inl (c.in-1.is, c.if-not-self.true, filled))
    (λ may. (full_comes found.kind it.is_open it.has_data found.has_data may c.in-1.is).1)

pub returns-else-not-self : goal.returns-else-not-self
returns-else-not-self c = λ parts begun f is.
    let it = c.args.self.now in
    let found = c.args.found in
    continues_if parts it.is_open it.has_data begun f found.kind found.has_data is (not it.is_open)
    (λ closed. absurd (apart it.is_open c.if-not-self.false (opened_not it.is_open closed)))
    (λ may. not_opened it.is_open (full_comes found.kind it.is_open it.has_data found.has_data may c.in-1.is).0)

pub returns-in-2 : goal.returns-in-2
returns-in-2 c = λ parts begun f is.
    let it = c.args.self.now in
    let found = c.args.found in
    continues_if parts it.is_open it.has_data begun f found.kind found.has_data is (not it.is_open)
    (λ closed. inr (inl (c.in-2.is, opened_not it.is_open closed)))
    (λ may. not_opened it.is_open (first_comes found.kind it.is_open it.has_data found.has_data may c.in-2.is))

pub returns-in-3 : goal.returns-in-3
returns-in-3 c = λ parts begun f is.
    let it = c.args.self.now in
    let found = c.args.found in
    continues_if parts it.is_open it.has_data begun f found.kind found.has_data is it.is_open
    (λ opened. inr (inr (inl (c.in-3.is, opened))))
    (λ may. middle_comes found.kind it.is_open it.has_data found.has_data may c.in-3.is)

pub returns-then-self-2 : goal.returns-then-self-2
returns-then-self-2 c = λ parts begun f is.
    let it = c.args.self.now in
    let found = c.args.found in
    continues_if parts it.is_open it.has_data begun f found.kind found.has_data is it.has_data
    (λ filled. inr (inr (inr (c.in-4.is, c.if-self.true, inl filled))))
    (λ may. c.if-self-2.true)

pub returns-else-self-2 : goal.returns-else-self-2
returns-else-self-2 c = λ parts begun f is.
    let it = c.args.self.now in
    let found = c.args.found in
    continues_if parts it.is_open it.has_data begun f found.kind found.has_data is found.has_data
    (λ filled. inr (inr (inr (c.in-4.is, c.if-self.true, inr filled))))
    (λ may. ⊎_elim (λ (before : IsTrue it.has_data). absurd (apart it.has_data before c.if-self-2.false))
    (λ (now : IsTrue found.has_data). now)
    (last_comes found.kind it.is_open it.has_data found.has_data may c.in-4.is).1)

pub returns-else-self : goal.returns-else-self
returns-else-self c = λ parts begun f is.
    let it = c.args.self.now in
    let found = c.args.found in
    continues_if parts it.is_open it.has_data begun f found.kind found.has_data is it.is_open
    (λ opened. absurd (apart it.is_open opened c.if-self.false))
    (λ may. (last_comes found.kind it.is_open it.has_data found.has_data may c.in-4.is).0)

pub returns-in_default : goal.returns-in_default
returns-in_default c = λ parts begun f is.
    let it = c.args.self.now in
    let found = c.args.found in
    continues_if parts it.is_open it.has_data begun f found.kind found.has_data is false
    (λ never. absurd (let wrong : false ≡ true = never in cc))
    (λ may. absurd (no_other_comes found.kind it.is_open it.has_data found.has_data may
    (λ one. omega (arith, one)) (λ two. omega (arith, two)) (λ three. omega (arith, three)) (λ four. omega (arith, four))))
