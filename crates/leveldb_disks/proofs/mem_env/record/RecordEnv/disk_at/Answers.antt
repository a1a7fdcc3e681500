use Rattle.std.proofs.Common.{◌≡◌, sym, subst, rules}
use Rattle.leveldb_env.specs.Env.{FilesCrashTo}
use Rattle.leveldb_env.specs.MemEnv.{files_of}
use Rattle.leveldb_env.specs.Picks.{IsAllowed, picked, tails_of}
use Rattle.leveldb_disks.specs.Record.{files_then}
use Rattle.leveldb_disks.proofs.RecordLemmas.{leaves_by_choice}
use Rattle.leveldb_env.proofs.PicksLemmas.{FilesCrashTo-picked}
use Rattle.leveldb_disks.proofs.mem_env.record.RecordEnv.disk_at.Goals as goal

pub returns-in_err-files-clause-every : goal.returns-in_err-files-clause-every
returns-in_err-files-clause-every c = leaves_by_choice c.args.self.now c.args.moment

pub returns-then-not-is_allowed-clause-every : goal.returns-then-not-is_allowed-clause-every
returns-then-not-is_allowed-clause-every c = leaves_by_choice c.args.self.now c.args.moment

pub returns-in_err-left-clause-every : goal.returns-in_err-left-clause-every
returns-in_err-left-clause-every c = leaves_by_choice c.args.self.now c.args.moment

pub returns-in_err-begin-clause-every : goal.returns-in_err-begin-clause-every
returns-in_err-begin-clause-every c = leaves_by_choice c.args.self.now c.args.moment

pub returns-clause-left : goal.returns-clause-left
returns-clause-left c =
    let files = files_then c.args.self.now c.args.moment c.args.pick.now.after in
    let tails = tails_of c.args.pick.now.tails.items in
    let allowed : IsAllowed files tails = search rules in
    let left : files_of c.in_ok-begin.field-0.files ≡ picked tails files = search rules in
    record {
      allowed = search rules;
      observed = search rules;
      files = left;
      crashed = subst (FilesCrashTo files) (sym left) (FilesCrashTo-picked files tails allowed);
      fresh = search rules;
    }

pub returns-clause-every : goal.returns-clause-every
returns-clause-every c = leaves_by_choice c.args.self.now c.args.moment
