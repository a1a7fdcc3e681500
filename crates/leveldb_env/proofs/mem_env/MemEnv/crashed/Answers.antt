use Rattle.std.proofs.Common.{◌≡◌, ◌∙◌, sym, ap, subst, rules}
use Rattle.leveldb_env.specs.Env.{FilesCrashTo}
use Rattle.leveldb_env.specs.MemEnv.{files_of}
use Rattle.leveldb_env.specs.Picks.{IsAllowed, picked, tails_of}
use Rattle.leveldb_env.proofs.PicksLemmas.{FilesCrashTo-picked, leaves_by_tails}
use Rattle.leveldb_env.proofs.mem_env.MemEnv.crashed.Goals as goal

pub returns-then-not-is_allowed-clause-every : goal.returns-then-not-is_allowed-clause-every
returns-then-not-is_allowed-clause-every c = leaves_by_tails c.args.self.now.files

pub returns-in_err-left_files-clause-every : goal.returns-in_err-left_files-clause-every
returns-in_err-left_files-clause-every c = leaves_by_tails c.args.self.now.files

pub returns-clause-leaves : goal.returns-clause-leaves
returns-clause-leaves c =
    let files = files_of c.args.self.now.files in
    let tails = tails_of c.args.pick.now.tails.items in
    let allowed : IsAllowed files tails = subst (λ given. IsAllowed files (tails_of given)) c.as_slice.ensures.value (c.is_allowed.ensures.0 c.if-not-is_allowed.false) in
    let left : files_of c.in_ok-left_files.field-0 ≡ picked tails files = c.in_ok-left_files.ensures ∙ ap (λ given. picked (tails_of given) files) c.as_slice-2.ensures.value in
    record { files = subst (FilesCrashTo files) (sym left) (FilesCrashTo-picked files tails allowed); free = λ name. search rules }

pub returns-clause-every : goal.returns-clause-every
returns-clause-every c = leaves_by_tails c.args.self.now.files
