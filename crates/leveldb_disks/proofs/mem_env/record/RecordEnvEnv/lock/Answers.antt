use Rattle.std.proofs.Common.{◌≡◌, ◌∙◌, true, false, is_ok, if◌then◌else◌, sym, ap, rules}
use Rattle.std.specs.BTreeSet.{contains_text}
use Rattle.leveldb_env.specs.Env.{created, lock_set}
use Rattle.leveldb_env.proofs.MemEnvLemmas.{lock_undone}
use Rattle.leveldb_disks.proofs.mem_env.record.RecordEnvEnv.lock.Goals as goal

pub returns-then-is_err-clause-asks : goal.returns-then-is_err-clause-asks
returns-then-is_err-clause-asks c = λ free.
    let asks = c.find_no_memory.ensures.asks (created c.args.name.now) true in
    record {
      ok = asks.ok;
      err = asks.err;
      time = record { later = asks.time.later; before = asks.time.before; meanwhile = asks.time.meanwhile; kept = asks.time.kept };
      inside = asks.inside;
    }

pub returns-then-is_err-2-clause-locks : goal.returns-then-is_err-2-clause-locks
returns-then-is_err-2-clause-locks c =
    let name = c.args.name.now in
    let locked = contains_text c.args.self.now.locks in
    let free : locked name ≡ false = search rules in
    let refused : is_ok c.ask-answer.result ≡ false = search rules in
    let taken : contains_text c.put_lock.new.locks ≡ lock_set name true locked = search rules in
    c.take_lock.ensures.freed
    ∙ ap (lock_set name false) (ap contains_text c.ask-answer.ensures.locks ∙ taken)
    ∙ lock_undone name locked free
    ∙ ap (λ b. if b then lock_set name true locked else locked) (sym refused)
