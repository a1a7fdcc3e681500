-- How a store's files are read: each comparator's name has one order of keys, so the machine's
-- reading is that of the laws of a store's files, by the order of the store's comparator.
use Rattle.std.specs.Prelude.{◌||◌}
use Rattle.std.specs.Str.{bytes_eq}
use Rattle.std.specs.Cmp.Lexicographic.{bytes_decides}
use Rattle.std.specs.declared.cmp.Ordering.{Ordering}
use Rattle.std.proofs.Common.{◌≡◌, ◌+◌, ◌++◌, ◌⊎◌, ◌∙◌, ⊎_elim, inl, inr, ℕ, Bool, true, false, List, [], refl, sym, ap, subst, arith, Option, Some, None, IsTrue}
use Rattle.leveldb_base.proofs.HistoryLemmas.{in_none}
use Rattle.leveldb_base.specs.Cmp.{bytewise}
use Rattle.leveldb_base.specs.History.{Entry, History, count_of, with_batch}
use Rattle.leveldb_base.specs.KeyTypes.{internal_cmp}
use Rattle.leveldb_env.specs.Compressor.{Decodes}
use Rattle.leveldb_env.specs.Env.{AreBytes, File, FileCrashesTo, Files, FilesCrashTo}
use Rattle.leveldb_table.proofs.TableReaderLemmas.{decodes_one, one_table}
use Rattle.leveldb_env.proofs.AppendedLemmas.{fine_kept}
use Rattle.leveldb_files.proofs.Steps.FirstCurrentLemmas.{no_store_safe}
use Rattle.leveldb_files.proofs.Histories.HistoriesLemmas.{matches_nothing}
use Rattle.leveldb_files.proofs.Stores.ManifestLemmas.{managed_of}
use Rattle.leveldb_files.proofs.Stores.OneStoreLemmas.{one_store}
use Rattle.leveldb_files.proofs.Histories.SafeLemmas.{some_is}
use Rattle.leveldb_files.proofs.Levels.TablesLemmas.{one_store_table}
use Rattle.leveldb_files.specs.Stores.Contents.{Contents, Store, made, missing, no_contents}
use Rattle.leveldb_files.specs.Histories.Holds.{Carries, Holds, IsSafe}
use Rattle.leveldb_files.specs.Stores.Store.{IsManaged, IsStore, OneTableReading, SameContents}
use Rattle.leveldb_files.specs.Steps.StoreSteps.{AppendedAreBytes, KeepsHistory}
use Rattle.leveldb_files.specs.Stores.Format.{IsTableOf, Meaning}
use Rattle.rusty_leveldb.specs.Machines.Laws.{NothingStands, OneReading}
use Rattle.rusty_leveldb.specs.Machines.Machine.{IsStoreOf, Risk, StaysOr}
use Rattle.rusty_leveldb.specs.Engines.Serves.{IsSpared, Reads, order_of}
use Rattle.rusty_leveldb.specs.Machines.State.{Opening, State}

-- ---- two readings

-- whatever history the old files carry by this reading the new ones do too, now and after an honest
-- crash
pub record KeepsBy (store : List ℕ) (reads : Files → Contents → Type 0) (allowed : Store → Type 0)
    (bound : ℕ) (old new : Files) : Type 0 where
  pub now : (history : History) → Carries store reads allowed bound history old
      → Carries store reads allowed bound history new
  pub crash : (durable : ℕ) (history : History)
      → IsSafe store reads allowed bound durable history old
      → IsSafe store reads allowed bound durable history new

-- where the second reading has all that the first one has, for each store that may be there
module _ (store : List ℕ) (reads others : Files → Contents → Type 0) (allowed : Store → Type 0)
    (same : (files : Files) (contents : Contents) → allowed contents.store → reads files contents
    → others files contents) where
  pub carries_as : (bound : ℕ) (history : History) (files : Files)
      → Carries store reads allowed bound history files
      → Carries store others allowed bound history files
  carries_as bound history files c = record {
    contents = c.contents;
    read = same files c.contents c.matches.store c.read;
    matches = c.matches;
  }

  pub safe_as : (bound durable : ℕ) (history : History) (files : Files)
      → IsSafe store reads allowed bound durable history files
      → IsSafe store others allowed bound durable history files
  safe_as bound durable history files safe left leaves honest =
      let c = safe left leaves honest in
      record {
        part = c.part;
        prefix = c.prefix;
        carries = carries_as bound c.part left c.carries;
      }

  pub holds_as : (files : Files) (history : History) (last durable : ℕ)
      (pending : Option (List Entry))
      → Holds store reads allowed files history last durable pending
      → Holds store others allowed files history last durable pending
  holds_as files history last durable pending holds =
      let bound = last + count_of pending in
      let more = with_batch history pending in
      record {
        now = ⊎_elim
            (λ (c : Carries store reads allowed bound history files).
            inl (carries_as bound history files c))
            (λ (c : Carries store reads allowed bound more files).
            inr (carries_as bound more files c))
            holds.now;
        crash = safe_as bound durable more files holds.crash;
      }

-- where each has what the other has
module _ (store : List ℕ) (reads others : Files → Contents → Type 0) (allowed : Store → Type 0)
    (to : (files : Files) (contents : Contents) → allowed contents.store → reads files contents
    → others files contents)
    (from : (files : Files) (contents : Contents) → allowed contents.store → others files contents
    → reads files contents) where
  pub keeps_as : (bound : ℕ) (old new : Files) → KeepsBy store reads allowed bound old new
      → KeepsBy store others allowed bound old new
  keeps_as bound old new keeps = record {
    now = λ history c.
        carries_as store reads others allowed to bound history new
        (keeps.now history (carries_as store others reads allowed from bound history old c));
    crash = λ durable history safe.
        safe_as store reads others allowed to bound durable history new
        (keeps.crash durable history
        (safe_as store others reads allowed from bound durable history old safe));
  }

-- what keeps each history keeps what the files hold
pub keeps_holds : (store : List ℕ) (reads : Files → Contents → Type 0) (allowed : Store → Type 0)
    (old new : Files) (history : History) (last durable : ℕ) (pending : Option (List Entry))
    → KeepsBy store reads allowed (last + count_of pending) old new
    → Holds store reads allowed old history last durable pending
    → Holds store reads allowed new history last durable pending
keeps_holds store reads allowed old new history last durable pending keeps holds =
    let bound = last + count_of pending in
    let more = with_batch history pending in
    record {
      now = ⊎_elim
          (λ (c : Carries store reads allowed bound history old). inl (keeps.now history c))
          (λ (c : Carries store reads allowed bound more old). inr (keeps.now more c))
          holds.now;
      crash = keeps.crash durable more holds.crash;
    }

-- ---- the stores that may be there

-- where the same stores may be there
module _ (store : List ℕ) (reads : Files → Contents → Type 0) (allowed other : Store → Type 0)
    (to : (there : Store) → allowed there → other there)
    (from : (there : Store) → other there → allowed there) where
  carries_to : (some more : Store → Type 0) → ((there : Store) → some there → more there)
      → (bound : ℕ) (history : History) (files : Files)
      → Carries store reads some bound history files → Carries store reads more bound history files
  carries_to some more may bound history files c = record {
    contents = c.contents;
    read = c.read;
    matches = record {
      same = c.matches.same;
      up_to = c.matches.up_to;
      reached = c.matches.reached;
      bounded = c.matches.bounded;
      store = may c.contents.store c.matches.store;
    };
  }

  safe_to : (some more : Store → Type 0) → ((there : Store) → some there → more there)
      → (bound durable : ℕ) (history : History) (files : Files)
      → IsSafe store reads some bound durable history files
      → IsSafe store reads more bound durable history files
  safe_to some more may bound durable history files safe left leaves honest =
      let c = safe left leaves honest in
      record {
        part = c.part;
        prefix = c.prefix;
        carries = carries_to some more may bound c.part left c.carries;
      }

  pub keeps_allowed : (bound : ℕ) (old new : Files) → KeepsBy store reads allowed bound old new
      → KeepsBy store reads other bound old new
  keeps_allowed bound old new keeps = record {
    now = λ history c.
        carries_to allowed other to bound history new
        (keeps.now history (carries_to other allowed from bound history old c));
    crash = λ durable history safe.
        safe_to allowed other to bound durable history new
        (keeps.crash durable history (safe_to other allowed from bound durable history old safe));
  }

-- the two are one store
abbrev pub is_same_store : Store → Store → Bool
is_same_store missing missing = true
is_same_store (made None) (made None) = true
is_same_store (made (Some name)) (made (Some other)) = bytes_eq name other
is_same_store these those = false

pub same_if : (these those : Store) → IsTrue (is_same_store these those) → those ≡ these
same_if missing missing is = refl
same_if (made None) (made None) is = refl
same_if (made (Some name)) (made (Some other)) is =
    ap (λ (n : List ℕ). made (Some n)) (sym ((bytes_decides name other).0 is))
same_if missing (made name) is = absurd (let never : false ≡ true = is in cc)
same_if (made None) missing is = absurd (let never : false ≡ true = is in cc)
same_if (made None) (made (Some other)) is = absurd (let never : false ≡ true = is in cc)
same_if (made (Some name)) missing is = absurd (let never : false ≡ true = is in cc)
same_if (made (Some name)) (made None) is = absurd (let never : false ≡ true = is in cc)

pub if_same : (these those : Store) → those ≡ these → IsTrue (is_same_store these those)
if_same these those is =
    subst (λ (s : Store). IsTrue (is_same_store these s)) (sym is) (itself these)
  where
    itself : (s : Store) → IsTrue (is_same_store s s)
    itself missing = refl
    itself (made None) = refl
    itself (made (Some name)) = (bytes_decides name name).1 refl

-- one of two
some_of : (a b : Bool) → IsTrue (a || b) → IsTrue a ⊎ IsTrue b
some_of true b is = inl refl
some_of false b is = inr is

of_first : (a b : Bool) → IsTrue a → IsTrue (a || b)
of_first true b is = refl
of_first false b is = absurd (let never : false ≡ true = is in cc)

of_second : (a b : Bool) → IsTrue b → IsTrue (a || b)
of_second true b is = refl
of_second false b is = is

-- a test of the stores that may be there
abbrev pub may_stay : Option Opening → Store → Store → Bool
may_stay (Some opening) missing now =
    is_same_store missing now || is_same_store (made (Some opening.format.order_name)) now
may_stay opening old now = is_same_store old now

pub stays_if : (opening : Option Opening) (old now : Store) → IsTrue (may_stay opening old now)
    → StaysOr opening old now
stays_if None missing now may = same_if missing now may
stays_if None (made name) now may = same_if (made name) now may
stays_if (Some opening) (made name) now may = inl (same_if (made name) now may)
stays_if (Some opening) missing now may =
    let new = made (Some opening.format.order_name) in
    ⊎_elim
    (λ (a : IsTrue (is_same_store missing now)). inl (same_if missing now a))
    (λ (b : IsTrue (is_same_store new now)).
    inr (refl, subst (IsStoreOf opening) (sym (same_if new now b)) refl))
    (some_of (is_same_store missing now) (is_same_store new now) may)

pub if_stays : (opening : Option Opening) (old now : Store) → StaysOr opening old now
    → IsTrue (may_stay opening old now)
if_stays None missing now is = if_same missing now is
if_stays None (made name) now is = if_same (made name) now is
if_stays (Some opening) (made name) now (inl is) = if_same (made name) now is
if_stays (Some opening) (made name) now (inr new) =
    absurd (let never : made name ≡ missing = new.0 in cc)
if_stays (Some opening) missing now (inl is) =
    of_first (is_same_store missing now)
    (is_same_store (made (Some opening.format.order_name)) now) (if_same missing now is)
if_stays (Some opening) missing now (inr new) =
    of_second (is_same_store missing now)
    (is_same_store (made (Some opening.format.order_name)) now) (of_opening now new.1)
  where
    of_opening : (there : Store) → IsStoreOf opening there
        → IsTrue (is_same_store (made (Some opening.format.order_name)) there)
    of_opening missing never = absurd never
    of_opening (made name) is =
        if_same (made (Some opening.format.order_name)) (made name) (ap made is)

-- ---- a comparator's name

-- no store is there, or one whose comparator has this name
abbrev pub IsNamed : List ℕ → Store → Type 0
IsNamed name missing = Unit {0}
IsNamed name (made other) = other ≡ Some name

-- the name of the store's comparator, or of that which an opening gives a new one
abbrev pub name_in : Opening → Store → List ℕ
name_in opening (made (Some name)) = name
name_in opening there = opening.format.order_name

-- a store that is read has a comparator's name
pub read_named : (store : List ℕ) (meaning : Meaning) (opening : Opening) (files : Files)
    (contents : Contents) → Reads store meaning files contents
    → IsNamed (name_in opening contents.store) contents.store
read_named store meaning opening files contents (inl bare) =
    subst (λ (there : Store). IsNamed (name_in opening there) there)
    (sym (ap (λ (c : Contents). c.store) bare.1)) tt
read_named store meaning opening files contents (inr m) =
    subst (λ (there : Store). IsNamed (name_in opening there) there)
    (sym (ap (λ (c : Contents). c.store) m.managed.is)) refl

-- so has the store of a state that a disk represents
pub stands_named : (store : List ℕ) (meaning : Meaning) (opening : Opening) (files : Files)
    (old : Store) (history : History) (last durable : ℕ) (pending : Option (List Entry))
    → Holds store (Reads store meaning) (λ now. now ≡ old) files history last durable pending
    → IsNamed (name_in opening old) old
stands_named store meaning opening files old history last durable pending holds = ⊎_elim
    (λ (c : Carries store (Reads store meaning) (λ now. now ≡ old) (last + count_of pending) history
    files). of c.contents c.read c.matches.store)
    (λ (c : Carries store (Reads store meaning) (λ now. now ≡ old) (last + count_of pending)
    (with_batch history pending) files). of c.contents c.read c.matches.store)
    holds.now
  where
    of : (contents : Contents) → Reads store meaning files contents → contents.store ≡ old
        → IsNamed (name_in opening old) old
    of contents read is = subst (λ (there : Store). IsNamed (name_in opening there) there) is
        (read_named store meaning opening files contents read)

-- the store that stays, or that an opening makes, has the name
pub stays_named : (opening : Opening) (old now : Store) → IsNamed (name_in opening old) old
    → StaysOr (Some opening) old now → IsNamed (name_in opening old) now
stays_named opening old now named (inl is) =
    subst (IsNamed (name_in opening old)) (sym is) named
stays_named opening old now named (inr new) =
    subst (λ (s : Store). IsNamed (name_in opening s) now) (sym new.0) (of_opening now new.1)
  where
    of_opening : (there : Store) → IsStoreOf opening there
        → IsNamed opening.format.order_name there
    of_opening missing never = absurd never
    of_opening (made name) is = is

-- ---- one order of keys

-- `cmp` is the order that the name means
module _ (store : List ℕ) (meaning : Meaning) (name : List ℕ)
    (cmp : List ℕ → List ℕ → Ordering) (is : cmp ≡ meaning.orders name) where
  -- how the laws of a store's files read them
  abbrev pub ReadsIn : Files → Contents → Type 0
  ReadsIn = IsStore store cmp (IsTableOf cmp meaning)

  order_named : (there : Store) (other : Option (List ℕ)) → there ≡ made other
      → IsNamed name there → order_of meaning there ≡ cmp
  order_named there other e named =
      let here : other ≡ Some name = subst (IsNamed name) e named in
      ap (order_of meaning) (e ∙ ap made here) ∙ sym is

  pub reads_of : (files : Files) (contents : Contents) → IsNamed name contents.store
      → ReadsIn files contents → Reads store meaning files contents
  reads_of files contents named (inl bare) = inl bare
  reads_of files contents named (inr m) =
      let order = order_named contents.store (Some m.managed.comparator)
      (ap (λ (c : Contents). c.store) m.managed.is) named in
      inr (subst (λ (o : List ℕ → List ℕ → Ordering).
      IsManaged store o (IsTableOf o meaning) files contents) (sym order) m)

  pub reads_in : (files : Files) (contents : Contents) → IsNamed name contents.store
      → Reads store meaning files contents → ReadsIn files contents
  reads_in files contents named (inl bare) = inl bare
  reads_in files contents named (inr m) =
      let order = order_named contents.store (Some m.managed.comparator)
      (ap (λ (c : Contents). c.store) m.managed.is) named in
      inr (subst (λ (o : List ℕ → List ℕ → Ordering).
      IsManaged store o (IsTableOf o meaning) files contents) order m)

  -- each store that may be there has the name, if one is there
  module _ (allowed : Store → Type 0)
      (named : (there : Store) → allowed there → IsNamed name there) where
    of_in : (files : Files) (contents : Contents) → allowed contents.store
        → ReadsIn files contents → Reads store meaning files contents
    of_in files contents may read = reads_of files contents (named contents.store may) read

    in_of : (files : Files) (contents : Contents) → allowed contents.store
        → Reads store meaning files contents → ReadsIn files contents
    in_of files contents may read = reads_in files contents (named contents.store may) read

    -- from the laws to the machine
    pub carries_of : (bound : ℕ) (history : History) (files : Files)
        → Carries store ReadsIn allowed bound history files
        → Carries store (Reads store meaning) allowed bound history files
    carries_of = carries_as store ReadsIn (Reads store meaning) allowed of_in

    pub safe_of : (bound durable : ℕ) (history : History) (files : Files)
        → IsSafe store ReadsIn allowed bound durable history files
        → IsSafe store (Reads store meaning) allowed bound durable history files
    safe_of = safe_as store ReadsIn (Reads store meaning) allowed of_in

    pub holds_of : (files : Files) (history : History) (last durable : ℕ)
        (pending : Option (List Entry))
        → Holds store ReadsIn allowed files history last durable pending
        → Holds store (Reads store meaning) allowed files history last durable pending
    holds_of = holds_as store ReadsIn (Reads store meaning) allowed of_in

    -- and from the machine to the laws
    pub carries_in : (bound : ℕ) (history : History) (files : Files)
        → Carries store (Reads store meaning) allowed bound history files
        → Carries store ReadsIn allowed bound history files
    carries_in = carries_as store (Reads store meaning) ReadsIn allowed in_of

    pub safe_in : (bound durable : ℕ) (history : History) (files : Files)
        → IsSafe store (Reads store meaning) allowed bound durable history files
        → IsSafe store ReadsIn allowed bound durable history files
    safe_in = safe_as store (Reads store meaning) ReadsIn allowed in_of

    pub holds_in : (files : Files) (history : History) (last durable : ℕ)
        (pending : Option (List Entry))
        → Holds store (Reads store meaning) allowed files history last durable pending
        → Holds store ReadsIn allowed files history last durable pending
    holds_in = holds_as store (Reads store meaning) ReadsIn allowed in_of

    -- a step that keeps each history
    pub keeps_of : (bound : ℕ) (old new : Files)
        → KeepsHistory store cmp (IsTableOf cmp meaning) allowed bound old new
        → KeepsBy store (Reads store meaning) allowed bound old new
    keeps_of bound old new keeps =
        keeps_as store ReadsIn (Reads store meaning) allowed of_in in_of bound old new
        (record { now = keeps.now; crash = keeps.crash })

    pub keeps_in : (bound : ℕ) (old new : Files)
        → KeepsBy store (Reads store meaning) allowed bound old new
        → KeepsHistory store cmp (IsTableOf cmp meaning) allowed bound old new
    keeps_in bound old new keeps =
        let by = keeps_as store (Reads store meaning) ReadsIn allowed in_of of_in bound old new
        keeps in
        record { now = by.now; crash = by.crash }

  -- A step that keeps each history where these stores may be there, by a test of them, keeps what
  -- is spared: outside an opening, of a store with the name,
  pub spared_keeps : (old : State) (risk : Risk) (files now : Files)
      → risk.opening ≡ None → IsNamed name old.store
      → KeepsHistory store cmp (IsTableOf cmp meaning)
      (λ it. IsTrue (may_stay None old.store it)) risk.bound files now
      → IsSpared store meaning old risk files → IsSpared store meaning old risk now
  spared_keeps old risk files now none named keeps =
      let may : Store → Type 0 = λ it. IsTrue (may_stay None old.store it) in
      let by = keeps_of may
      (λ there is. subst (IsNamed name) (sym (stays_if None old.store there is)) named)
      risk.bound files now keeps in
      let all = keeps_allowed store (Reads store meaning) may (StaysOr None old.store)
      (stays_if None old.store) (if_stays None old.store) risk.bound files now by in
      subst (λ (o : Option Opening).
      IsSafe store (Reads store meaning) (StaysOr o old.store) risk.bound old.durable risk.history
      files
      → IsSafe store (Reads store meaning) (StaysOr o old.store) risk.bound old.durable risk.history
      now) (sym none) (all.crash old.durable risk.history)

-- and in an opening of the store, whose order is that of the name in it
pub spared_opening : (store : List ℕ) (meaning : Meaning) (opening : Opening) (old : State)
    (cmp : List ℕ → List ℕ → Ordering)
    (is : cmp ≡ meaning.orders (name_in opening old.store)) (history : History) (bound : ℕ)
    (files now : Files) → IsNamed (name_in opening old.store) old.store
    → KeepsHistory store cmp (IsTableOf cmp meaning)
    (λ it. IsTrue (may_stay (Some opening) old.store it)) bound files now
    → IsSpared store meaning old
    (record { history = history; bound = bound; opening = Some opening }) files
    → IsSpared store meaning old
    (record { history = history; bound = bound; opening = Some opening }) now
spared_opening store meaning opening old cmp is history bound files now named keeps =
    let may : Store → Type 0 = λ it. IsTrue (may_stay (Some opening) old.store it) in
    let by = keeps_of store meaning (name_in opening old.store) cmp is may
    (λ there m. stays_named opening old.store there named
    (stays_if (Some opening) old.store there m))
    bound files now keeps in
    let all = keeps_allowed store (Reads store meaning) may (StaysOr (Some opening) old.store)
    (stays_if (Some opening) old.store) (if_stays (Some opening) old.store) bound files now by in
    all.crash old.durable history

-- ---- one reading

one_tables : (cmp : List ℕ → List ℕ → Ordering) (meaning : Meaning)
    → OneTableReading (IsTableOf cmp meaning)
one_tables cmp meaning = one_store_table (Decodes meaning.codings) cmp meaning.filters
    (decodes_one meaning.codings) (one_table (Decodes meaning.codings) (internal_cmp cmp))

-- by any order
one_in : (store : List ℕ) (cmp : List ℕ → List ℕ → Ordering) (meaning : Meaning) (files : Files)
    (these those : Contents) → IsStore store cmp (IsTableOf cmp meaning) files these
    → IsStore store cmp (IsTableOf cmp meaning) files those → SameContents these those
one_in store cmp meaning files these those a b =
    one_store store cmp (IsTableOf cmp meaning) (one_tables cmp meaning) files these those a b

pub one_reading : OneReading
one_reading store meaning files these those (inl a) (inl b) =
    one_in store bytewise meaning files these those (inl a) (inl b)
one_reading store meaning files these those (inl a) (inr b) =
    one_in store (order_of meaning those.store) meaning files these those (inl a) (inr b)
one_reading store meaning files these those (inr a) (inl b) =
    one_in store (order_of meaning these.store) meaning files these those (inr a) (inl b)
one_reading store meaning files these those (inr a) (inr b) =
    let cmp = order_of meaning these.store in
    let by = managed_of store cmp (IsTableOf cmp meaning) files b.edits these b.has_edits (inr a) in
    let name = some_is by.comparator b.managed.comparator
    (sym by.comparator_is ∙ b.managed.comparator_is) in
    let same : these.store ≡ those.store = ap (λ (c : Contents). c.store) by.is
    ∙ ap (λ (n : List ℕ). made (Some n)) name
    ∙ sym (ap (λ (c : Contents). c.store) b.managed.is) in
    one_in store (order_of meaning those.store) meaning files these those
    (subst (λ (s : Store).
    IsStore store (order_of meaning s) (IsTableOf (order_of meaning s) meaning) files these) same
    (inr a)) (inr b)

-- ---- bytes after a crash

file_bytes : (file left : Option File) → FileCrashesTo file left → (f : File) → left ≡ Some f
    → AreBytes f.since
file_bytes None left leaves f is = absurd (let never : None ≡ Some f = sym leaves ∙ is in cc)
file_bytes (Some file) left leaves f is =
    fine_kept (file.kept ++ leaves.0) f (sym leaves.3 ∙ is)

-- what a crash left has nothing appended
pub crash_bytes : (files left : Files) → FilesCrashTo files left → AppendedAreBytes left
crash_bytes files left leaves name file is =
    file_bytes (files name) (left name) (leaves name) file is

-- ---- where no store is

-- it is read so by any order
missing_reads : (store : List ℕ) (meaning : Meaning) (files : Files) (contents : Contents)
    → contents.store ≡ missing → IsStore store bytewise (IsTableOf bytewise meaning) files contents
    → Reads store meaning files contents
missing_reads store meaning files contents is (inl bare) = inl bare
missing_reads store meaning files contents is (inr m) =
    absurd (let never : made (Some m.managed.comparator) ≡ missing =
    sym (ap (λ (c : Contents). c.store) m.managed.is) ∙ is in cc)

pub nothing_stands : NothingStands
nothing_stands store meaning format disk bare bytes free =
    let is_missing : Store → Type 0 = λ now. now ≡ missing in
    let nothing = matches_nothing is_missing refl 0 in
    record {
      is_state = record {
        history = tt;
        reached = omega arith;
        pending = omega arith;
        durable = omega arith;
        held = λ one c. absurd (in_none one c);
        mode = record { held = refl; given = refl };
      };
      holds = record {
        now = inl (record { contents = no_contents; read = inl (bare, refl); matches = nothing });
        crash = safe_as store (IsStore store bytewise (IsTableOf bytewise meaning))
            (Reads store meaning) is_missing (missing_reads store meaning) 0 0 [] disk.files
            (no_store_safe store bytewise (IsTableOf bytewise meaning) disk.files bare is_missing 0
            [] nothing);
      };
      bytes = bytes;
      locked = free;
      agrees = λ never. absurd (never refl);
    }
