use Rattle.std.proofs.Common.{◌≡◌, ◌==◌, ◌&&◌, ◌||◌, ◌∙◌, not, Bool, true, false, inl, Ok, refl, sym, ap, rules}
use Rattle.std.proofs.lemmas.Result.{err_from_is_err_and, IfErr-weaker}
use Rattle.leveldb_disks.specs.declared.mem_env.record.RecordEnv.{RecordEnv}
use Rattle.leveldb_disks.specs.Journal.{requested, finds_file, may_be_made, where_done, IsChangeError}
use Rattle.leveldb_env.specs.MemEnv.{files_of}
use Rattle.leveldb_disks.specs.Record.{files_in, is_past, is_chosen, is_chosen_made}
use Rattle.leveldb_disks.proofs.RecordLemmas.{journal_after, asks_ok, asks_no_memory, asks_err, turn_taken, chosen_made, not_chosen, counted_once, no_file_found}
use Rattle.leveldb_disks.proofs.mem_env.record.RecordEnv.ask.Goals as goal
use Rattle.leveldb_disks.proofs.mem_env.record.RecordEnv.ask.Goals.{In_ok-there}

and_false : (b : Bool) → (b && false) ≡ false
and_false true = refl
and_false false = refl

abbrev taken : (c : In_ok-there) → (is_past c.args.self.now ≡ false) × (c.in-Some.chosen ≡ (c.args.self.now.fails_in == 1))
taken c = turn_taken (is_past c.args.self.now) (c.args.self.now.fails_in == 1) c.in-Some.chosen c.in-Some.ensures.turn

-- whether the change was made, by the fields as they were
done_is : (c : In_ok-there) → c.is_made-done.result ≡ (not c.in-Some.chosen || (may_be_made c.args.change.now && c.args.self.now.fails_done))
done_is c = c.is_made-done.ensures ∙ ap (λ (env : RecordEnv). not c.in-Some.chosen || (may_be_made c.args.change.now && env.fails_done)) c.turn.ensures.next

pub returns-in_err-there-clause-asks : goal.returns-in_err-there-clause-asks
returns-in_err-there-clause-asks c =
    let p = err_from_is_err_and c.from_residual.result c.from_residual.ensures.1 in
    asks_no_memory c.args.self.now _ c.turn.new.self.journal c.make.new.self (journal_after c.turn.ensures.next) refl (requested c.args.change.now) (may_be_made c.args.change.now) c.make.ensures.time
    c.from_residual.result p.0 p.1 p.2 c.in_err-there.ensures.makes.err

-- ---- the chosen call

pub returns-then-chosen-clause-asks : goal.returns-then-chosen-clause-asks
returns-then-chosen-clause-asks c =
    let d = (goal.at.returns-then-chosen-clause-asks c).In_ok-there in
    let env = c.args.self.now in
    let p = err_from_is_err_and c.refuse_call-then-chosen.result c.refuse_call-then-chosen.ensures.code in
    let is_done = done_is d ∙ chosen_made (is_past env) (env.fails_in == 1) c.in-Some.chosen env.fails_done (may_be_made c.args.change.now) (taken d).0 (taken d).1 c.if-chosen.true in
    let made = c.in_ok-there.ensures.makes.ok ∙ ap (λ done. where_done done (requested c.args.change.now) (files_of c.turn.new.self.journal.files)) is_done in
    asks_err env _ c.turn.new.self.journal c.make.new.self (journal_after c.turn.ensures.next) c.refuse_call-then-chosen.ensures.same.journal (requested c.args.change.now) (may_be_made c.args.change.now) c.make.ensures.time
    c.refuse_call-then-chosen.result p.0 p.1 made c.in_ok-there.ensures.inside

-- ---- another call

is_other : (c : In_ok-there) → c.in-Some.chosen ≡ false → is_chosen c.args.self.now ≡ false
is_other c other = not_chosen (is_past c.args.self.now) (c.args.self.now.fails_in == 1) c.in-Some.chosen (taken c).0 (taken c).1 other

-- its change was made
is_made : (c : In_ok-there) → c.in-Some.chosen ≡ false → c.is_made-done.result ≡ true
is_made c other = done_is c ∙ ap (λ b. not b || (may_be_made c.args.change.now && c.args.self.now.fails_done)) other

-- the name was there where that is returned
found : (c : In_ok-there) → c.in-Some.chosen ≡ false → c.in_ok-there.there ≡ finds_file c.args.change.now (files_in c.args.self.now)
found c other = c.in_ok-there.ensures.makes.there (is_made c other) ∙ ap (λ (env : RecordEnv). finds_file c.args.change.now (files_in env)) c.turn.ensures.next

pub returns-then-not-there-clause-asks : goal.returns-then-not-there-clause-asks
returns-then-not-there-clause-asks c =
    let d = (goal.at.returns-then-not-there-clause-asks c).In_ok-there in
    let env = c.args.self.now in
    let p = err_from_is_err_and c.missing.result c.missing.ensures.code in
    let same = c.in_ok-there.ensures.makes.missing (ap Ok c.if-not-there.true) in
    let none : (may_be_made c.args.change.now && is_chosen_made env) ≡ false = ap (λ b. may_be_made c.args.change.now && (b && env.fails_done)) (is_other d c.if-chosen.false) ∙ and_false (may_be_made c.args.change.now) in
    let made = same ∙ ap (λ is_chosen_made. where_done is_chosen_made (requested c.args.change.now) (files_of c.turn.new.self.journal.files)) (sym none) in
    asks_err env _ c.turn.new.self.journal c.make.new.self (journal_after c.turn.ensures.next) refl (requested c.args.change.now) (may_be_made c.args.change.now) c.make.ensures.time
    c.missing.result p.0 p.1 made c.in_ok-there.ensures.inside

pub returns-then-not-there-clause-turns : goal.returns-then-not-there-clause-turns
returns-then-not-there-clause-turns c =
    let d = (goal.at.returns-then-not-there-clause-turns c).In_ok-there in
    let env = c.args.self.now in
    let other = is_other d c.if-chosen.false in
    let gone = sym (found d c.if-chosen.false) ∙ c.if-not-there.true in
    let why = no_file_found c.args.change.now (files_in env) c.name_in.result.now c.missing.result c.name_in.ensures gone c.missing.ensures.code c.missing.ensures.text in
    record {
      moment = counted_once c.turn.new.self.journal c.make.new.self env (journal_after c.turn.ensures.next) c.make.ensures.counted (taken d).0;
      fails_in = ap (λ (env : RecordEnv). env.fails_in) c.turn.ensures.next;
      fails_done = ap (λ (env : RecordEnv). env.fails_done) c.turn.ensures.next;
      ok = search rules;
      err = IfErr-weaker c.missing.result (IsChangeError c.args.change.now (files_in env)) _ (λ e cause. inl (record {
        cause = cause;
        counted = (taken d).0;
        chosen = λ chosen. absurd (cc (sym other ∙ chosen));
        failures = ap (λ (env : RecordEnv). env.failures) c.turn.ensures.next;
      })) why;
    }

pub returns-clause-asks : goal.returns-clause-asks
returns-clause-asks c =
    let d = (goal.at.returns-clause-asks c).In_ok-there in
    let env = c.args.self.now in
    let made = c.in_ok-there.ensures.makes.ok ∙ ap (λ done. where_done done (requested c.args.change.now) (files_of c.turn.new.self.journal.files)) (is_made d c.if-chosen.false) in
    asks_ok env _ c.turn.new.self.journal c.make.new.self (journal_after c.turn.ensures.next) refl (requested c.args.change.now) (may_be_made c.args.change.now) c.make.ensures.time
    _ made c.in_ok-there.ensures.inside
