-- The logs of numbers in order: there is one list of them, and no list where one is damaged.
use Rattle.std.specs.Prelude.{◌≢◌, Contains, codes, get_or, max, reverse}
use Rattle.std.proofs.Common.{◌≡◌, ◌∙◌, ⊎_elim, ◌<◌, ℕ, List, [], ◌∷◌, ◌++◌, ap, append-nil, append_assoc, arith, drop, map, refl, subst, sym}
use Rattle.std.proofs.lemmas.List.{append_cancel_left, reverse-append}
use Rattle.std.proofs.lemmas.List.Elements.{Contains-append_right, Contains-push_cases}
use Rattle.leveldb_base.proofs.HistoryLemmas.{in_front, in_none, in_rest}
use Rattle.leveldb_base.specs.History.{greatest}
use Rattle.leveldb_base.specs.Names.{file_name, six_digits}
use Rattle.leveldb_base.specs.declared.types.FileType.TheVariants.{Log, Table}
use Rattle.leveldb_env.specs.Env.{Files}
use Rattle.leveldb_mem.specs.Log.{bad}
use Rattle.leveldb_mem.specs.WriteBatch.{Batch}
use Rattle.leveldb_version_set.proofs.Engines.LogsBelowLemmas.{one_there}
use Rattle.leveldb_files.proofs.Stores.LogsLemmas.{batches_parts, order_after, order_low, split_at, splits_at}
use Rattle.leveldb_files.specs.Stores.Batches.{AreInOrder, batch_entries}
use Rattle.leveldb_files.specs.Stores.Paths.{log_path, table_path}
use Rattle.leveldb_files.specs.Stores.Store.{HasLog, ReplayedLog as StoreLog, log_batches, log_entries}
use Rattle.leveldb_version_set.specs.Sets.VersionSetValue.{VersionSetValue}
use Rattle.leveldb_store.specs.Openings.Opening.{SameButTables}
use Rattle.leveldb_store.specs.Openings.OpeningSteps.{AreDamagedLogs, AreLogs, BadEndsEnd}

-- ---- paths

-- no log's path is a table's
log_no_table : (store : List ℕ) (m n : ℕ) → log_path store m ≢ table_path store n
log_no_table store m n same =
    let names : (codes "/" ++ six_digits m) ++ codes ".log"
    ≡ (codes "/" ++ six_digits n) ++ codes ".ldb" =
    append_cancel_left store (codes "/" ++ file_name Log m) (codes "/" ++ file_name Table n) same in
    let turned : reverse (codes ".log") ++ reverse (codes "/" ++ six_digits m)
    ≡ reverse (codes ".ldb") ++ reverse (codes "/" ++ six_digits n) =
    sym (reverse-append (codes "/" ++ six_digits m) (codes ".log")) ∙ ap reverse names
    ∙ reverse-append (codes "/" ++ six_digits n) (codes ".ldb") in
    let ends : 103 ≡ 98 = ap (λ bytes. get_or bytes 0 0) turned in
    absurd (omega (arith, ends))

-- a log stays where tables alone are made
pub log_stays : (set now : VersionSetValue) (before after : Files)
    → SameButTables set now before after → (n : ℕ)
    → after (log_path set.store n) ≡ before (log_path set.store n)
log_stays set now before after same n =
    same (log_path set.store n) (λ k least below fits. log_no_table set.store n k)

-- ---- bad ends

-- one log more, which is empty where one before it ends badly
pub BadEndsEnd-push : (logs : List StoreLog) (log : StoreLog) → BadEndsEnd logs
    → ((one : StoreLog) → Contains logs one → one.end ≡ bad → log.size ≡ 0)
    → (front : List StoreLog) (one : StoreLog) (later : List StoreLog)
    → logs ++ log ∷ [] ≡ front ++ one ∷ later → one.end ≡ bad → (other : StoreLog)
    → Contains later other → other.size ≡ 0
BadEndsEnd-push [] log ends next [] one later parts is_bad other c =
    absurd (in_none other (subst (λ ls. Contains ls other) (sym (ap (drop 1) parts)) c))
BadEndsEnd-push [] log ends next (first ∷ front) one later parts is_bad other c =
    absurd (in_none one (subst (λ ls. Contains ls one) (sym (ap (drop 1) parts))
    (split_at front one later)))
BadEndsEnd-push (first ∷ logs) log ends next [] one later parts is_bad other c =
    let head : first ≡ one = ap (λ ls. get_or ls 0 one) parts in
    let tail : logs ++ log ∷ [] ≡ later = ap (drop 1) parts in
    let was_bad : first.end ≡ bad = ap (λ (x : StoreLog). x.end) head ∙ is_bad in
    ⊎_elim
    (λ (there : Contains logs other). ends [] first logs refl was_bad other there)
    (λ (e : log ≡ other). subst (λ (x : StoreLog). x.size ≡ 0) e
    (next first (in_front first logs) was_bad))
    (Contains-push_cases logs log other (subst (λ ls. Contains ls other) (sym tail) c))
BadEndsEnd-push (first ∷ logs) log ends next (same ∷ front) one later parts is_bad other c =
    BadEndsEnd-push logs log
    (λ before it after is. ends (first ∷ before) it after (ap (λ ls. first ∷ ls) is))
    (λ it there. next it (in_rest first it logs there)) front one later (ap (drop 1) parts) is_bad
    other c

-- ---- one list of logs

-- the first of these logs are those, and the others have these numbers
record BeginWith (logs all : List StoreLog) (more : List ℕ) : Type 0 where
  pub rest : List StoreLog
  pub is : all ≡ logs ++ rest
  pub numbers : map (λ (log : StoreLog). log.number) rest ≡ more

begin_with : (store : List ℕ) (files : Files) (logs all : List StoreLog) (more : List ℕ)
    → map (λ (log : StoreLog). log.number) all
    ≡ map (λ (log : StoreLog). log.number) logs ++ more
    → ((log : StoreLog) → Contains logs log → HasLog store files log)
    → ((log : StoreLog) → Contains all log → HasLog store files log) → BeginWith logs all more
begin_with store files [] all more numbers each every =
    record { rest = all; is = refl; numbers = numbers }
begin_with store files (log ∷ logs) [] more numbers each every = absurd (cc)
begin_with store files (log ∷ logs) (other ∷ all) more numbers each every =
    let head : other.number ≡ log.number = ap (λ ns. get_or ns 0 0) numbers in
    let same : other ≡ log = one_there store files other log head
    (every other (in_front other all)) (each log (in_front log logs)) in
    let more_of = begin_with store files logs all more (ap (drop 1) numbers)
    (λ l c. each l (in_rest log l logs c)) (λ l c. every l (in_rest other l all c)) in
    record {
      rest = more_of.rest;
      is = ap (λ l. l ∷ all) same ∙ ap (λ ls. log ∷ ls) more_of.is;
      numbers = more_of.numbers;
    }

-- logs of the same numbers are the same
pub one_list : (store : List ℕ) (files : Files) (numbers : List ℕ) (logs others : List StoreLog)
    → AreLogs store files numbers logs → AreLogs store files numbers others → others ≡ logs
one_list store files numbers logs others these those = begun.is ∙ ap (λ rest. logs ++ rest) (none begun.rest begun.numbers) ∙ append-nil logs
  where
    begun : BeginWith logs others []
    begun = begin_with store files logs others []
        (those.numbers_are ∙ sym these.numbers_are
        ∙ sym (append-nil (map (λ (log : StoreLog). log.number) logs))) these.each those.each

    none : (rest : List StoreLog) → map (λ (log : StoreLog). log.number) rest ≡ [] → rest ≡ []
    none [] is = refl
    none (log ∷ rest) is = absurd (cc)

order_front : (low : ℕ) (batches more : List Batch) → AreInOrder low (batches ++ more)
    → AreInOrder low batches
order_front low [] more order = tt
order_front low (batch ∷ batches) more order = (
  order.0,
  order.1,
  order.2,
  order_front (max low (greatest (batch_entries batch))) batches more order.3,
)

-- ---- damage

module _ (store : List ℕ) (files : Files) (numbers : List ℕ) (logs : List StoreLog)
    (are : AreLogs store files numbers logs) (number : ℕ) (later : List ℕ) where
  -- the log after them, among all of a store
  record IsNextOf (all : List StoreLog) : Type 0 where
    pub log : StoreLog
    pub rest : List StoreLog
    pub all_is : all ≡ logs ++ log ∷ rest
    pub number_is : log.number ≡ number
    pub has_log : HasLog store files log
    pub in_order : AreInOrder (greatest (log_entries logs)) log.batches

  next_of : (all : List StoreLog) → AreLogs store files (numbers ++ number ∷ later) all → IsNextOf all
  next_of all every = by begun.rest begun.is begun.numbers
    where
      begun : BeginWith logs all (number ∷ later)
      begun = begin_with store files logs all (number ∷ later)
          (every.numbers_are ∙ ap (λ ns. ns ++ number ∷ later) (sym are.numbers_are))
          are.each every.each

      by : (rest : List StoreLog) → all ≡ logs ++ rest
          → map (λ (log : StoreLog). log.number) rest ≡ number ∷ later → IsNextOf all
      by [] is these = absurd (cc)
      by (log ∷ rest) is these =
          let order : AreInOrder 0 (log_batches logs ++ (log.batches ++ log_batches rest)) =
          subst (AreInOrder 0) (ap log_batches is ∙ batches_parts logs (log ∷ rest)) every.in_order in
          let low = greatest (log_entries logs) in
          record {
            log = log;
            rest = rest;
            all_is = is;
            number_is = ap (λ ns. get_or ns 0 0) these;
            has_log = every.each log
                (subst (λ ls. Contains ls log) (sym is) (split_at logs log rest));
            in_order = order_front low log.batches (log_batches rest)
                (order_low low (max 0 low) (log.batches ++ log_batches rest) (omega arith)
                (order_after 0 (log_batches logs) (log.batches ++ log_batches rest) order));
          }

  -- no log of the number has batches in order after theirs
  pub damaged_next : ((log : StoreLog) → log.number ≡ number → HasLog store files log
      → AreInOrder (greatest (log_entries logs)) log.batches → ⊥)
      → AreDamagedLogs store files (numbers ++ number ∷ later)
  damaged_next never all every =
      let next = next_of all every in
      never next.log next.number_is next.has_log next.in_order

  -- one of them ends badly, and the next one isn't empty
  pub filled_after_bad_end : (one : StoreLog) → Contains logs one → one.end ≡ bad
      → ((log : StoreLog) → log.number ≡ number → HasLog store files log → 0 < log.size)
      → AreDamagedLogs store files (numbers ++ number ∷ later)
  filled_after_bad_end one there is_bad some all every =
      let next = next_of all every in
      let split = splits_at logs one there in
      let parts : all ≡ split.earlier ++ one ∷ (split.later ++ next.log ∷ next.rest) =
      next.all_is ∙ ap (λ ls. ls ++ next.log ∷ next.rest) split.parts
      ∙ append_assoc split.earlier (one ∷ split.later) (next.log ∷ next.rest) in
      let none = every.ends split.earlier one (split.later ++ next.log ∷ next.rest) parts is_bad
      next.log (Contains-append_right split.later (next.log ∷ next.rest) next.log
      (in_front next.log next.rest)) in
      let size = some next.log next.number_is next.has_log in
      omega (arith, none, size)

  pub after_bad_end : (one : StoreLog) → Contains logs one → one.end ≡ bad → (log : StoreLog)
      → log.number ≡ number → HasLog store files log → 0 < log.size
      → AreDamagedLogs store files (numbers ++ number ∷ later)
  after_bad_end one there is_bad log number_is has some = filled_after_bad_end one there is_bad
      (λ other other_is has_other.
      let same = ap (λ (l : StoreLog). l.size)
      (one_there store files other log (other_is ∙ sym number_is) has_other has) in
      omega (arith, some, same))
