-- Which entries the logs below a number have: those of the files.
use Rattle.std.proofs.Common.{◌≡◌, ◌<◌, ◌^◌, ◌∙◌, ℕ, List, None, Some, ap, subst, sym}
use Rattle.std.specs.Prelude.{◌↔◌, Contains}
use Rattle.std.specs.declared.cmp.Ordering.{Ordering}
use Rattle.leveldb_base.proofs.NamesLemmas.{made_name}
use Rattle.leveldb_base.specs.History.{Entry}
use Rattle.leveldb_base.specs.Names.{file_name}
use Rattle.leveldb_base.specs.Types.{Pair}
use Rattle.leveldb_base.specs.declared.types.FileType.TheVariants.{Log}
use Rattle.leveldb_env.specs.Env.{Files}
use Rattle.leveldb_files.proofs.Stores.ManagedLemmas.{SameBytes, log_on}
use Rattle.leveldb_files.proofs.Stores.OneStoreLemmas.{flat_in, in_flat, one_log}
use Rattle.leveldb_files.proofs.Histories.SafeLemmas.{some_is}
use Rattle.leveldb_files.specs.Stores.Batches.{all_entries, batch_entries}
use Rattle.leveldb_files.specs.Stores.Paths.{log_path}
use Rattle.leveldb_files.specs.Stores.Store.{HasLog, HasLogs, IsLog, LogIsReplayed, ReplayedLog, log_batches, log_entries}
use Rattle.leveldb_files.specs.Edits.VersionSet.{FileSet}
use Rattle.leveldb_version_set.specs.Engines.Writing.{IsInLogBelow}

-- an entry of a log is one of all of them
pub in_logs : (logs : List ReplayedLog) (log : ReplayedLog) (entry : Entry) → Contains logs log
    → Contains (all_entries log.batches) entry → Contains (log_entries logs) entry
in_logs logs log entry there c =
    let b = in_flat batch_entries log.batches entry c in
    flat_in batch_entries (log_batches logs) b.0 entry
    (flat_in (λ (l : ReplayedLog). l.batches) logs log b.0 there b.1) b.2

-- and each of those is one of a log
pub log_of : (logs : List ReplayedLog) (entry : Entry) → Contains (log_entries logs) entry
    → (log : ReplayedLog) × Contains logs log × Contains (all_entries log.batches) entry
log_of logs entry c =
    let b = in_flat batch_entries (log_batches logs) entry c in
    let l = in_flat (λ (l : ReplayedLog). l.batches) logs b.0 b.1 in
    (l.0, l.1, flat_in batch_entries l.0.batches b.0 entry l.2 b.2)

-- an entry of a log that is there and is replayed, and whose number is below this one
pub record IsInFileBelow (store : List ℕ) (files : Files) (set : FileSet) (n : ℕ) (entry : Entry)
    : Type 0 where
  pub log : ReplayedLog
  pub has : HasLog store files log
  pub replayed : LogIsReplayed set log.number
  pub less : log.number < n
  pub fits : log.number < 2 ^ 64
  pub is_entry : Contains (all_entries log.batches) entry

-- of one number there is one log
pub one_there : (store : List ℕ) (files : Files) (a b : ReplayedLog) → a.number ≡ b.number
    → HasLog store files a → HasLog store files b → a ≡ b
one_there store files a b number p q =
    let file = some_is p.0 q.0
    (sym p.1 ∙ ap (λ n. files (log_path store n)) number ∙ q.1) in
    one_log q.0 a b number (subst (λ f. IsLog f a) file p.2) q.2

pub below_in_files : (store : List ℕ) (files : Files) (set : FileSet) (logs : List ReplayedLog)
    (n : ℕ) (entry : Entry) → HasLogs store files set logs → IsInLogBelow logs n entry
    → IsInFileBelow store files set n entry
below_in_files store files set logs n entry has i =
    let h = has.each i.0 i.1 in
    record {
      log = i.0;
      has = h.0;
      replayed = h.1;
      less = i.2;
      fits = h.2;
      is_entry = i.3;
    }

pub below_in_logs : (store : List ℕ) (files : Files) (set : FileSet) (logs : List ReplayedLog)
    (n : ℕ) (entry : Entry) → HasLogs store files set logs
    → IsInFileBelow store files set n entry → IsInLogBelow logs n entry
below_in_logs store files set logs n entry has i =
    let k = i.log.number in
    let h = has.all (file_name Log k) k (made_name Log k i.fits) i.replayed
    (λ gone. let never : Some i.has.0 ≡ None = sym i.has.1 ∙ gone in absurd (cc)) in
    let same = one_there store files h.1.0 i.log h.1.2 (has.each h.1.0 h.1.1).0 i.has in
    (i.log, subst (λ log. Contains logs log) same h.1.1, i.less, i.is_entry)

-- where the logs below a number have the same bytes, they have the same entries
pub below_on : (store : List ℕ) (cmp : List ℕ → List ℕ → Ordering)
    (IsTableOf : List ℕ → List Pair → Type 0) (old new : Files) (set : FileSet)
    (logs others : List ReplayedLog) (n : ℕ) → HasLogs store old set logs
    → HasLogs store new set others
    → ((k : ℕ) → k < n → k < 2 ^ 64
    → SameBytes (old (log_path store k)) (new (log_path store k)))
    → (entry : Entry) → IsInLogBelow logs n entry → IsInLogBelow others n entry
below_on store cmp IsTableOf old new set logs others n has has_others same entry i =
    let f = below_in_files store old set logs n entry has i in
    below_in_logs store new set others n entry has_others (record {
      log = f.log;
      has = log_on store cmp IsTableOf old new f.log (same f.log.number f.less f.fits) f.has;
      replayed = f.replayed;
      less = f.less;
      fits = f.fits;
      is_entry = f.is_entry;
    })

-- so the entries that wait are those of the same logs
pub waiting_on : (store : List ℕ) (cmp : List ℕ → List ℕ → Ordering)
    (IsTableOf : List ℕ → List Pair → Type 0) (old new : Files) (set : FileSet)
    (logs others : List ReplayedLog) (n : ℕ) → HasLogs store old set logs
    → HasLogs store new set others
    → ((k : ℕ) → k < n → k < 2 ^ 64
    → SameBytes (old (log_path store k)) (new (log_path store k)))
    → (imm : List Entry)
    → ((entry : Entry) → Contains imm entry ↔ IsInLogBelow logs n entry)
    → (entry : Entry) → Contains imm entry ↔ IsInLogBelow others n entry
waiting_on store cmp IsTableOf old new set logs others n has has_others same imm is entry = (
  λ c. below_on store cmp IsTableOf old new set logs others n has has_others same entry
      ((is entry).0 c),
  λ i. (is entry).1 (below_on store cmp IsTableOf new old set others logs n has_others has
      (λ k less fits. sym (same k less fits)) entry i),
)
