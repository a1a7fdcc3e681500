-- How a builder gets the pairs of a walk, what its table is to a store, and what the file's calls
-- leave.
use Rattle.std.proofs.Common.{◌≡◌, ◌≢◌, ◌⊎◌, inl, inr, ⊎_elim, ℕ, zero, suc, ◌+◌, ◌^◌, ◌<◌, ◌≤◌, Bool, true, false, List, [], ◌∷◌, ◌++◌, length, take, map, flat_map, nat_lt, Option, None, Some, Result, Ok, Err, refl, sym, ◌∙◌, ap, subst, append_assoc, arith}
use Rattle.std.specs.Prelude.{All, IfOk, IsTrue, slice_get, slice_index_or, if◌then◌else◌, ◌&&◌}
use Rattle.std.specs.List.{concat}
use Rattle.std.proofs.lemmas.Bool.{cases_lt, le-leb, lt-ltb}
use Rattle.std.proofs.lemmas.List.{nil_from_length, length-append, append-nil, take_all}
use Rattle.std.proofs.lemmas.List.Elements.{All-cons, All-head, All-nil, All-tail}
use Rattle.std.specs.declared.cmp.Ordering.{Ordering}
use Rattle.std.specs.declared.cmp.Ordering.TheVariants.{Equal, Greater, Less}
use Rattle.leveldb_base.proofs.HistoryLemmas.{in_front, in_rest}
use Rattle.leveldb_base.specs.Cmp.{IsPreorderOn, IsSeparator, internal_accepts, internal_separator}
use Rattle.leveldb_base.specs.CmpLaws.{length-internal_key}
use Rattle.leveldb_base.specs.Entries.{bytes_of_value, internal_pair, type_of, value_of}
use Rattle.leveldb_base.specs.Error.{IsOutOfMemory}
use Rattle.leveldb_base.specs.History.{AreRising, AreUpTo, Entry, IsBeforeAll}
use Rattle.leveldb_base.specs.KeyTypes.{greatest_sequence, internal_cmp, user_part}
use Rattle.leveldb_base.specs.Types.{IsPosition, Pair, next_position, pair_at, position_within}
use Rattle.leveldb_base.specs.declared.cmp.Cmp.{Ghosts as CmpGhosts}
use Rattle.leveldb_base.specs.declared.error.Status.{Status}
use Rattle.leveldb_base.specs.declared.types.FileMetaData.{FileMetaData}
use Rattle.leveldb_env.proofs.AppendedLemmas.{no_bytes}
use Rattle.leveldb_env.proofs.EnvFileLemmas.{IsLonger-none, IsLonger-trans}
use Rattle.leveldb_env.proofs.EnvLemmas.{SameBut-refl, begun, cause_same}
use Rattle.leveldb_env.proofs.SinkLemmas.{PutsAll-none, PutsAll-one, PutsAll-trans}
use Rattle.leveldb_env.specs.Env.{AreBytes, Files, kept_file}
use Rattle.leveldb_env.specs.EnvFile.{Opened, opened, opened_file}
use Rattle.leveldb_env.specs.Sink.{PutsAll, PutsEach}
use Rattle.leveldb_env.specs.Compressor.{Codings, Decodes}
use Rattle.leveldb_env.specs.declared.env.Env.{Ghosts as EnvGhosts}
use Rattle.leveldb_env.specs.declared.filter.FilterPolicy.{Ghosts as FilterGhosts}
use Rattle.leveldb_iter.specs.Walk.{KeyOrder, WalkLaws}
use Rattle.leveldb_iter.specs.declared.walk.Walk.{Ghosts as WalkGhosts}
use Rattle.leveldb_table.proofs.TableBuilderLemmas.{internal_separated}
use Rattle.leveldb_table.specs.BlockBuilder.{last_added}
use Rattle.leveldb_table.specs.Table.{IsTable}
use Rattle.leveldb_table.specs.TableBuilder.{TableBuilt, AddsPair, stage, IsBegun, IsBuiltTable, IsMeaningOf, IsNewBuilder, KeepsChoices, last_of, order_of, policy_of}
use Rattle.leveldb_files.specs.Stores.Batches.{Each}
use Rattle.leveldb_files.specs.Stores.Paths.{table_path}
use Rattle.leveldb_files.specs.Stores.Store.{IsFirstKey, IsInternalPair, IsLastKey, IsStoreTable, any_user_key}
use Rattle.leveldb_store.specs.Tables.BuildTable.{AddsPairs, CanBeBuilt, HasTaken, IsNotBuilt, IsTableBuilt, IsTableFile, IsTableOfStore, IsTableUnder, IsUnused, MakesTable, ReadsNoFile, StaysOver, StopsAtPair, StopsBuilding, TableChoices, passed, puts_all}
use Rattle.leveldb_store.specs.Tables.TableFile.{AddsAllToFile, AddsToFile, ChangesOneFile, FailsToWrite, FinishesFile, IsAddFault, IsFinishFault, IsMetadataOf, IsThere, StopsWriting, WritesTable}
use Rattle.leveldb_store.proofs.Tables.TableFileLemmas.{fails_later, longer_file_is, longer_there, own_stops, stops_after, stops_so, synced_file_is}

-- ---- pairs in turn

some_none : {X : Type 0} {x : X} → Some x ≡ None → ⊥
some_none e = cc

same_Some : {X : Type 0} {x y : X} → Some x ≡ Some y → x ≡ y
same_Some e = cc

-- the next pair
pub taken_next : (pairs : List Pair) (i : ℕ) (pair : Pair) → slice_get pairs i ≡ Some pair → take (i + 1) pairs ≡ take i pairs ++ pair ∷ []
taken_next [] i pair there = absurd (some_none (sym there))
taken_next (first ∷ pairs) zero pair there = ap (λ p. p ∷ []) (same_Some there)
taken_next (first ∷ pairs) (suc i) pair there =
    let more : suc i + 1 ≡ suc (i + 1) = omega arith in
    ap (λ n. take n (first ∷ pairs)) more ∙ ap (λ ps. first ∷ ps) (taken_next pairs i pair there)

pub within : (pairs : List Pair) (i : ℕ) (pair : Pair) → slice_get pairs i ≡ Some pair → i < length pairs
within [] i pair there = absurd (some_none (sym there))
within (first ∷ pairs) zero pair there = omega arith
within (first ∷ pairs) (suc i) pair there = let rest = within pairs i pair there in omega (arith, rest)

pub last_pushed : (pairs : List Pair) (pair : Pair) → last_added (pairs ++ pair ∷ []) ≡ pair.0
last_pushed [] pair = refl
last_pushed (first ∷ []) pair = refl
last_pushed (first ∷ next ∷ pairs) pair = last_pushed (next ∷ pairs) pair

pub accepted_at : (P : Pair → Type 0) (pairs : List Pair) (i : ℕ) (pair : Pair) → All P pairs → slice_get pairs i ≡ Some pair → P pair
accepted_at P [] i pair all there = absurd (some_none (sym there))
accepted_at P (first ∷ pairs) zero pair all there = subst P (same_Some there) (All-head P first pairs all)
accepted_at P (first ∷ pairs) (suc i) pair all there = accepted_at P pairs i pair (All-tail P first pairs all) there

module _ (cmp : List ℕ → List ℕ → Ordering) where
  before_at : (key : List ℕ) (pairs : List Pair) (i : ℕ) (pair : Pair) → IsBeforeAll cmp key pairs → slice_get pairs i ≡ Some pair → cmp key pair.0 ≡ Less
  before_at key [] i pair all there = absurd (some_none (sym there))
  before_at key (first ∷ pairs) zero pair all there = subst (λ (p : Pair). cmp key p.0 ≡ Less) (same_Some there) all.0
  before_at key (first ∷ pairs) (suc i) pair all there = before_at key pairs i pair all.1 there

  -- the key after those that were taken is after the last of them
  pub rises_next : (pairs : List Pair) (i : ℕ) (pair : Pair) → AreRising cmp pairs → slice_get pairs i ≡ Some pair → 0 < i → cmp (last_added (take i pairs)) pair.0 ≡ Less
  rises_next [] i pair rising there some = absurd (some_none (sym there))
  rises_next (first ∷ pairs) zero pair rising there some = absurd (omega (arith, some))
  rises_next (first ∷ []) (suc i) pair rising there some = absurd (some_none (sym there))
  rises_next (first ∷ next ∷ pairs) (suc zero) pair rising there some = before_at first.0 (next ∷ pairs) zero pair rising.0 there
  rises_next (first ∷ next ∷ pairs) (suc (suc i)) pair rising there some = rises_next (next ∷ pairs) (suc i) pair rising.1 there (omega arith)

-- ---- the positions of a walk

at_within : (pairs : List Pair) (n : ℕ) → n ≤ length pairs → passed pairs (position_within pairs n) ≡ n
at_within pairs n fits = by (nat_lt n (length pairs)) refl
  where
    by : (b : Bool) → nat_lt n (length pairs) ≡ b → passed pairs (if b then Some n else None) ≡ n
    by true e = refl
    by false e = ⊎_elim
        (λ (less : n < length pairs). let lt = lt-ltb n (length pairs) less in absurd (cc (sym lt ∙ e)))
        (λ (all : length pairs ≤ n). omega (arith, fits, all))
        (cases_lt n (length pairs))

pub passed_first : (pairs : List Pair) → passed pairs (position_within pairs 0) ≡ 0
passed_first pairs = at_within pairs 0 (omega arith)

pub pair_passed : (pairs : List Pair) (position : Option ℕ) (pair : Pair) → Some pair ≡ pair_at pairs position → slice_get pairs (passed pairs position) ≡ Some pair
pair_passed pairs None pair there = absurd (some_none there)
pair_passed pairs (Some i) pair there = sym there

pub passed_next : (pairs : List Pair) (position : Option ℕ) (pair : Pair) → Some pair ≡ pair_at pairs position → passed pairs (next_position pairs position) ≡ passed pairs position + 1
passed_next pairs None pair there = absurd (some_none there)
passed_next pairs (Some i) pair there = let here = within pairs i pair (sym there) in at_within pairs (i + 1) (omega (arith, here))

some_there : (pairs : List Pair) (i : ℕ) → i < length pairs → slice_get pairs i ≡ None → ⊥
some_there [] i here none = omega (arith, here)
some_there (first ∷ pairs) zero here none = some_none none
some_there (first ∷ pairs) (suc i) here none = some_there pairs i (omega (arith, here)) none

-- at no pair the walk has passed all
pub passed_all : (pairs : List Pair) (position : Option ℕ) → IsPosition pairs position → None ≡ pair_at pairs position → passed pairs position ≡ length pairs
passed_all pairs None here none = refl
passed_all pairs (Some i) here none = absurd (some_there pairs i here (sym none))

-- so all pairs were taken
pub taken_all : (pairs : List Pair) (position : Option ℕ) → IsPosition pairs position → None ≡ pair_at pairs position → take (passed pairs position) pairs ≡ pairs
taken_all pairs position here none = ap (λ n. take n pairs) (passed_all pairs position here none) ∙ take_all (length pairs) pairs (omega arith)

at_first : (first : Pair) (pairs : List Pair) → pair_at (first ∷ pairs) (position_within (first ∷ pairs) 0) ≡ Some first
at_first first pairs = ap (λ b. pair_at (first ∷ pairs) (if b then Some 0 else None)) (lt-ltb 0 (length (first ∷ pairs)) (omega arith))

pub none_first : (pairs : List Pair) → None ≡ pair_at pairs (position_within pairs 0) → pairs ≡ []
none_first [] none = refl
none_first (first ∷ pairs) none = absurd (some_none (sym (at_first first pairs) ∙ sym none))

-- the first key, and the last
pub first_key_is : (pairs : List Pair) (pair : Pair) → Some pair ≡ pair_at pairs (position_within pairs 0) → IsFirstKey pair.0 pairs
first_key_is [] pair there = absurd (some_none there)
first_key_is (first ∷ pairs) pair there = (pair.1, pairs, ap (λ (p : Pair). p ∷ pairs) (same_Some (sym (at_first first pairs) ∙ sym there)))

last_of_more : (first : Pair) (pairs : List Pair) → IsLastKey (last_added (first ∷ pairs)) (first ∷ pairs)
last_of_more first [] = ([], first.1, refl)
last_of_more first (next ∷ pairs) =
    let later = last_of_more next pairs in
    (first ∷ later.0, later.1, ap (λ ps. first ∷ ps) later.2)

pub last_key_of : {key : List ℕ} {pairs : List Pair} → IsFirstKey key pairs → IsLastKey (last_added pairs) pairs
last_key_of {key} {pairs} first = subst (λ ps. IsLastKey (last_added ps) ps) (sym first.2) (last_of_more (key, first.0) first.1)

module _ {E T W : Type 0} (walk : WalkGhosts W E T) where
  pub stays_over-none : (world : E × T) (it : W) → StaysOver walk world it world it
  stays_over-none world it = record {
    same = λ keys pairs over. over;
    excuses = λ later status failed. failed;
  }

  pub stays_over-trans : {first second third : E × T} {old mid new : W}
      → StaysOver walk first old second mid → StaysOver walk second mid third new
      → StaysOver walk first old third new
  stays_over-trans before after = record {
    same = λ keys pairs over. after.same keys pairs (before.same keys pairs over);
    excuses = λ later status failed.
        before.excuses later status (after.excuses later status failed);
  }

  -- beside an environment that changes
  pub stays_beside : ReadsNoFile walk → (from to : E) (tables : T) (it : W)
      → StaysOver walk (from, tables) it (to, tables) it
  stays_beside reads from to tables it = record {
    same = reads.stays_over from to tables it;
    excuses = reads.excuses from to tables it;
  }

-- where the walk is, how far the builder and its file are
pub record AddsSoFar {E F T W C FP : Type 0} (walk : WalkGhosts W E T) (order : CmpGhosts C)
    (filters : FilterGhosts FP) (codings : Codings) (env : EnvGhosts E F) (keys : KeyOrder)
    (pairs : List Pair) (core : TableBuilt C FP) (from : Opened E F) (mid : TableBuilt C FP)
    (to : Opened E F) (tables : T) (it : W) : Type 0 where
  pub position : Option ℕ
  pub here : walk.is_at (to.env, tables) it keys pairs position
  pub adds : AddsAllToFile order filters codings env core from (take (passed pairs position) pairs)
      mid to
  pub count_is : mid.count ≡ passed pairs position

-- ---- into a sink

-- what a sink has that takes all
each_put : (from : List ℕ) (pieces : List (List ℕ)) (to : List ℕ) → PutsEach puts_all from pieces to → to ≡ from ++ concat pieces
each_put from [] to put = put ∙ sym (append-nil from)
each_put from (piece ∷ pieces) to put = each_put put.0 pieces to put.2 ∙ ap (λ b. b ++ concat pieces) put.1.1 ∙ append_assoc from piece (concat pieces)

all_put : {bytes to : List ℕ} → PutsAll puts_all [] bytes to → to ≡ bytes
all_put {to = to} put = each_put [] put.pieces to put.put ∙ sym put.joined

module _ {S : Type 0} (puts : S → List ℕ → Result (Unit {0}) Status → S → Type 0) where
  -- no pair yet
  pub AddsPairs-none : (begun : List ℕ → List Pair → Type 0) (from : S) → AddsPairs puts begun begun from [] from
  AddsPairs-none begun from = record {
    bytes = [];
    put = PutsAll-none puts from;
    begun = λ written before so_far. subst (λ w. begun w (before ++ [])) (sym (append-nil written)) (subst (begun written) (sym (append-nil before)) so_far);
  }

  -- one more
  pub AddsPairs-more : {old mid new : List ℕ → List Pair → Type 0} {from to end : S} {pairs : List Pair} {pair : Pair} → AddsPairs puts old mid from pairs to → AddsPair puts mid new to pair end
      → AddsPairs puts old new from (pairs ++ pair ∷ []) end
  AddsPairs-more {new = new} {pairs = pairs} {pair = pair} all one = record {
    bytes = all.bytes ++ one.bytes;
    put = PutsAll-trans puts all.put one.put;
    begun = λ written before so_far.
        subst (λ w. new w (before ++ (pairs ++ pair ∷ []))) (append_assoc written all.bytes one.bytes)
        (subst (new ((written ++ all.bytes) ++ one.bytes)) (append_assoc before pairs (pair ∷ [])) (one.begun (written ++ all.bytes) (before ++ pairs) (all.begun written before so_far)));
  }

KeepsChoices-trans : {C FP : Type 0} {old mid new : TableBuilt C FP} → KeepsChoices old mid → KeepsChoices mid new → KeepsChoices old new
KeepsChoices-trans first second = record {
  same_order = second.same_order ∙ first.same_order;
  same_policy = second.same_policy ∙ first.same_policy;
  same_compressor = second.same_compressor ∙ first.same_compressor;
  same_size = second.same_size ∙ first.same_size;
  same_intervals = (second.same_intervals.0 ∙ first.same_intervals.0, second.same_intervals.1 ∙ first.same_intervals.1);
}

module _ {C FP : Type 0} (order : CmpGhosts C) where
  -- the next pair may be added
  pub next_accepted : {core mid : TableBuilt C FP} (pairs : List Pair) (count : ℕ) (pair : Pair) → CanBeBuilt (order.accepts (order_of core)) (order.cmp (order_of core)) pairs → KeepsChoices core mid
      → slice_get pairs count ≡ Some pair → order.accepts (order_of mid) pair.0 ≡ true
  next_accepted {core} {mid} pairs count pair can kept there =
      subst (λ c. order.accepts c pair.0 ≡ true) (sym kept.same_order) (accepted_at (λ (p : Pair). order.accepts (order_of core) p.0 ≡ true) pairs count pair can.accepted there)

  pub next_rises : {core mid : TableBuilt C FP} (pairs : List Pair) (count : ℕ) (pair : Pair) → CanBeBuilt (order.accepts (order_of core)) (order.cmp (order_of core)) pairs → KeepsChoices core mid
      → slice_get pairs count ≡ Some pair → last_of mid ≡ last_added (take count pairs) → mid.count ≡ count → 0 < mid.count → order.cmp (order_of mid) (last_of mid) pair.0 ≡ Less
  next_rises {core} {mid} pairs count pair can kept there last counted some =
      let less = rises_next (order.cmp (order_of core)) pairs count pair can.rising there (omega (arith, counted, some)) in
      ap (λ c. order.cmp c (last_of mid) pair.0) kept.same_order ∙ ap (λ k. order.cmp (order_of core) k pair.0) last ∙ less

-- the table of a builder is one under its choices, in other words
pub IsTableUnder-same : {C FP : Type 0} (order : CmpGhosts C) (filters : FilterGhosts FP) (codings : Codings) {c d : C} {p q : FP} {id other interval spacing index_interval index_spacing : ℕ} {bytes : List ℕ} {pairs : List Pair} → c ≡ d → p ≡ q → id ≡ other → interval ≡ spacing → index_interval ≡ index_spacing
    → IsTableUnder order filters codings c p id interval index_interval bytes pairs → IsTableUnder order filters codings d q other spacing index_spacing bytes pairs
IsTableUnder-same order filters codings {c = c} {d = d} {p = p} {q = q} {id = id} {other = other} {interval = interval} {spacing = spacing} {index_interval = index_interval} {bytes = bytes} {pairs = pairs} same_order same_policy same_id same_interval same_index built =
    subst (λ z. IsTableUnder order filters codings d q other spacing z bytes pairs) same_index
    (subst (λ z. IsTableUnder order filters codings d q other z index_interval bytes pairs) same_interval
    (subst (λ z. IsTableUnder order filters codings d q z interval index_interval bytes pairs) same_id
    (subst (λ z. IsTableUnder order filters codings d z id interval index_interval bytes pairs) same_policy
    (subst (λ z. IsTableUnder order filters codings z p id interval index_interval bytes pairs) same_order built))))

-- the key that was added last
last_taken : {key : List ℕ} (pairs : List Pair) (count : ℕ) (pair : Pair) → slice_get pairs count ≡ Some pair → key ≡ pair.0 → key ≡ last_added (take (count + 1) pairs)
last_taken pairs count pair there last = last ∙ sym (ap last_added (taken_next pairs count pair there) ∙ last_pushed (take count pairs) pair)

module _ {C FP : Type 0} {order : CmpGhosts C} {filters : FilterGhosts FP} (codings : Codings) where
  -- no key was added to a builder that is unused
  pub unused_last : {core : TableBuilt C FP} → IsUnused order filters codings core → last_of core ≡ []
  unused_last {core} unused =
      let laid = unused.begun in
      let none = ap length laid.pairs_are ∙ length-append (flat_map (λ part. part.pairs) laid.parts) (stage core).open_pairs in
      ap last_added (nil_from_length (stage core).open_pairs (omega (arith, none)))

  module _ {S : Type 0} (puts : S → List ℕ → Result (Unit {0}) Status → S → Type 0) where
    -- a builder that has taken no pair yet
    pub HasTaken-none : (core : TableBuilt C FP) (from : S) → core.broken ≡ false → HasTaken order filters codings puts core from [] core from
    HasTaken-none core from unbroken = record {
      adds = AddsPairs-none puts _ from;
      choices = record { same_order = refl; same_policy = refl; same_compressor = refl; same_size = refl; same_intervals = (refl, refl) };
      unbroken = unbroken;
    }

    -- and one that takes one pair more
    HasTaken-more : {core mid new : TableBuilt C FP} {from at to : S} {pairs : List Pair} {pair : Pair}
        → HasTaken order filters codings puts core from pairs mid at → AddsPair puts (IsBegun codings order filters mid) (IsBegun codings order filters new) at pair to → KeepsChoices mid new → new.broken ≡ false
        → HasTaken order filters codings puts core from (pairs ++ pair ∷ []) new to
    HasTaken-more taken added kept unbroken =
        record { adds = AddsPairs-more puts taken.adds added; choices = KeepsChoices-trans taken.choices kept; unbroken = unbroken }

  -- what a new builder has put is what it is begun with
  pub taken_begun : {core mid : TableBuilt C FP} {written : List ℕ} {pairs : List Pair}
      → IsBegun codings order filters core [] []
      → HasTaken order filters codings puts_all core [] pairs mid written
      → IsBegun codings order filters mid written pairs
  taken_begun {mid = mid} {pairs = pairs} begun taken =
      subst (λ bytes. IsBegun codings order filters mid bytes pairs)
      (sym (all_put taken.adds.put)) (taken.adds.begun [] [] begun)

  module _ {E F : Type 0} (env : EnvGhosts E F) where
    -- nothing is in the file yet
    pub adds_all-none : {core : TableBuilt C FP} (from : Opened E F) → IsUnused order filters codings core → AddsAllToFile order filters codings env core from [] core from
    adds_all-none {core} from unused = record {
      bytes = [];
      longer = IsLonger-none env from;
      taken = HasTaken-none puts_all core [] unused.unbroken;
      last = unused_last unused;
    }

    -- one more
    pub taken_added : {core mid new : TableBuilt C FP} {from to : Opened E F} {written : List ℕ}
        {pairs : List Pair} {pair : Pair}
        → HasTaken order filters codings puts_all core [] pairs mid written
        → (one : AddsToFile order filters codings env mid from pair new to) → KeepsChoices mid new
        → HasTaken order filters codings puts_all core [] (pairs ++ pair ∷ []) new
        (written ++ one.bytes)
    taken_added taken one kept = HasTaken-more puts_all taken (record {
      bytes = one.bytes;
      put = PutsAll-one puts_all (refl, refl);
      begun = one.begun;
    }) kept one.unbroken

    pub adds_all-more : {core mid new : TableBuilt C FP} {from at to : Opened E F} (pairs : List Pair) (count : ℕ) (pair : Pair) → slice_get pairs count ≡ Some pair
        → AddsAllToFile order filters codings env core from (take count pairs) mid at → AddsToFile order filters codings env mid at pair new to → KeepsChoices mid new
        → AddsAllToFile order filters codings env core from (take (count + 1) pairs) new to
    adds_all-more {core} {new = new} pairs count pair there all one kept = record {
      bytes = all.bytes ++ one.bytes;
      longer = IsLonger-trans env all.longer one.longer;
      taken = subst (λ ps. HasTaken order filters codings puts_all core [] ps new
          (all.bytes ++ one.bytes)) (sym (taken_next pairs count pair there))
          (taken_added all.taken one kept);
      last = last_taken pairs count pair there one.last;
    }

    -- the builder doesn't take the next
    pub stops_at_next : {core mid : TableBuilt C FP} {from at : Opened E F} (pairs : List Pair) (count : ℕ) (pair : Pair) (status : Status) → slice_get pairs count ≡ Some pair
        → AddsAllToFile order filters codings env core from (take count pairs) mid at → IsAddFault order filters codings mid pair status → StopsAtPair order filters codings puts_all core [] pairs status
    stops_at_next {mid = mid} pairs count pair status there all fault =
        let failed = fault all.bytes in
        record { count = count; pair = pair; next = there; mid = mid; at = all.bytes; taken = all.taken; to = failed.0; cause = failed.1 }

    -- nor finishes
    pub stops_at_end : {core mid : TableBuilt C FP} {from at : Opened E F} (pairs : List Pair) (status : Status) → AddsAllToFile order filters codings env core from pairs mid at → IsFinishFault order filters codings mid status
        → StopsBuilding order filters codings core pairs status
    stops_at_end {mid = mid} pairs status all fault =
        let failed = fault all.bytes in
        inr (record { mid = mid; at = all.bytes; taken = all.taken; to = failed.0; cause = failed.1 })

    -- from an empty file the builder makes the table
    pub table_written : {core mid : TableBuilt C FP} {from to : E} {start at : Opened E F}
        {path smallest : List ℕ} {number : ℕ} {pairs : List Pair} (made : FileMetaData)
        → (IsTrue env.models_disk → env.name_of start.file ≡ path)
        → (IsTrue env.models_disk → opened_file env start ≡ Some (kept_file []))
        → IsBegun codings order filters core [] []
        → AddsAllToFile order filters codings env core start pairs mid at
        → FinishesFile order filters codings env mid at made.size to
        → IsMetadataOf number smallest (last_of mid) made
        → env.failures start.env ≡ env.failures from
        → WritesTable order filters codings env core path number smallest pairs made from to
    table_written {core} {mid} {from} {to} {start} {at} {path} {smallest} {number} {pairs} made
        named empty begun all finishes known counted =
        let table = finishes.made all.taken.adds.bytes pairs (all.taken.adds.begun [] [] begun) in
        let put = all_put all.taken.adds.put in
        let kept = all.taken.choices in
        record {
          bytes = all.bytes ++ finishes.bytes;
          built = subst (λ b. IsTableUnder order filters codings (order_of core) (policy_of core)
              core.compressor core.block.interval core.index.interval (b ++ finishes.bytes) pairs)
              (sym put)
              (IsTableUnder-same order filters codings kept.same_order kept.same_policy
              kept.same_compressor kept.same_intervals.0 kept.same_intervals.1 table.0);
          kept = λ modelled.
              let first = longer_file_is env (kept_file []) all.longer modelled (empty modelled) in
              let second = longer_file_is env (record { kept = []; since = all.bytes })
              finishes.longer modelled first in
              let last = synced_file_is env
              (record { kept = []; since = all.bytes ++ finishes.bytes }) finishes.synced modelled
              second in
              ap (env.observed to).disk.files (sym (finishes.synced.file modelled
              ∙ finishes.longer.file modelled ∙ all.longer.file modelled ∙ named modelled)) ∙ last;
          size_is = table.1 ∙ ap (λ b. length (b ++ finishes.bytes)) (sym put);
          known = subst (λ key. IsMetadataOf number smallest key made) all.last known;
          counted = finishes.synced.cause.ok ∙ finishes.longer.counted ∙ all.longer.counted
              ∙ counted;
        }

-- ---- beside a walk

module _ {E F T W C FP : Type 0} (walk : WalkGhosts W E T) (laws : WalkLaws walk.over walk.is_at walk.here walk.fails walk.keeps) {order : CmpGhosts C} {filters : FilterGhosts FP} {codings : Codings} (env : EnvGhosts E F) {keys : KeyOrder} {pairs : List Pair}
    {core mid : TableBuilt C FP} {from at : Opened E F} {tables : T} {it : W} (s : AddsSoFar walk order filters codings env keys pairs core from mid at tables it) where
  there_so_far : {pair : Pair} → Some pair ≡ walk.here it → slice_get pairs (passed pairs s.position) ≡ Some pair
  there_so_far {pair} here = pair_passed pairs s.position pair (here ∙ laws.at_position (at.env, tables) it keys pairs s.position s.here)

  -- one pair more
  pub added_so_far : {new : TableBuilt C FP} {to : Opened E F} {last : E} {more : T} {moved : W} {pair : Pair} → Some pair ≡ walk.here it → AddsToFile order filters codings env mid at pair new to → KeepsChoices mid new → last ≡ to.env
      → walk.is_at (last, more) moved keys pairs (next_position pairs s.position) → AddsSoFar walk order filters codings env keys pairs core from new (opened last to.file) more moved
  added_so_far {new} {to} {last} {more} {moved} {pair} here one kept same next =
      let position = s.position in
      let count = passed_next pairs position pair (here ∙ laws.at_position (at.env, tables) it keys pairs position s.here) in
      let all = adds_all-more codings env pairs (passed pairs position) pair (there_so_far here) s.adds one kept in
      record {
        position = next_position pairs position;
        here = next;
        adds = subst (λ e. AddsAllToFile order filters codings env core from (take (passed pairs (next_position pairs position)) pairs) new (opened e to.file)) (sym same)
            (subst (λ n. AddsAllToFile order filters codings env core from (take n pairs) new to) (sym count) all);
        count_is = one.count ∙ ap (λ n. n + 1) s.count_is ∙ sym count;
      }

  -- the next one wasn't added
  pub not_added_so_far : {Other : Status → Type 0} {to : E} {pair : Pair} {status : Status} → Some pair ≡ walk.here it → (IsThere env at → StopsWriting env (IsAddFault order filters codings mid pair) at status to) → IsThere env from
      → StopsWriting env (λ why. StopsAtPair order filters codings puts_all core [] pairs why ⊎ Other why) from status to
  not_added_so_far {pair = pair} {status = status} here stops there =
      stops_so env (λ own. inl (stops_at_next codings env pairs (passed pairs s.position) pair status (there_so_far here) s.adds own)) (stops_after env s.adds.longer (stops (longer_there env s.adds.longer there)))

-- the walk failed, which changed nothing
pub walk_failed_so_far : {E F C FP : Type 0} (env : EnvGhosts E F) {order : CmpGhosts C} {filters : FilterGhosts FP} {codings : Codings} {Own : Status → Type 0} {core mid new : TableBuilt C FP} {from at to : Opened E F} {last : E} {pairs : List Pair} {pair : Pair} {status : Status}
    → AddsAllToFile order filters codings env core from pairs mid at → AddsToFile order filters codings env mid at pair new to → last ≡ to.env → Own status → StopsWriting env Own from status last
walk_failed_so_far env {Own = Own} {from = from} {to = to} {status = status} all one same own =
    subst (λ e. StopsWriting env Own from status e) (sym same) (own_stops env (IsLonger-trans env all.longer one.longer) own)

-- ---- a table of the store

-- whatever other policies' names mean, what a builder makes of internal keys is a table of the
-- store
pub built_of_store : (codings : Codings) {accepts : List ℕ → Bool} {cmp : List ℕ → List ℕ → Ordering} → IsPreorderOn accepts cmp → ((key : List ℕ) → accepts key ≡ true) → ((a b : List ℕ) → cmp a b ≡ Equal → a ≡ b)
    → (sep : List ℕ → List ℕ → List ℕ) → ((a b : List ℕ) → accepts a ≡ true → accepts b ≡ true → cmp a b ≢ Greater → IsSeparator accepts cmp a b (sep a b))
    → {succ : List ℕ → List ℕ} (matches : List ℕ → List ℕ → Bool) {make : List (List ℕ) → List ℕ} {id : ℕ} {name : List ℕ} {interval index_interval : ℕ} {bytes : List ℕ} {pairs : List Pair}
    → IsBuiltTable codings (internal_accepts accepts) (internal_cmp cmp) (internal_separator cmp sep) succ (λ key. matches (user_part key)) make id name interval index_interval bytes pairs
    → (meaning : List ℕ → Option (List ℕ → List ℕ → Bool)) → IsMeaningOf meaning name (λ key. matches (user_part key)) → IsStoreTable (Decodes codings) cmp meaning bytes pairs
built_of_store codings {accepts} {cmp} preorder all exact sep separates matches {bytes = bytes} {pairs = pairs} built meaning known =
    let made = built meaning user_part (internal_separated preorder sep separates exact) (λ key other filter same. ap (λ z. matches z filter) same) known in
    let anything : accepts ≡ any_user_key = λ i key. all key i in
    subst (λ a. IsTable (Decodes codings) (internal_accepts a) (internal_cmp cmp) meaning user_part bytes pairs) anything made.table

module _ {C FP : Type 0} {order : CmpGhosts C} {filters : FilterGhosts FP} (choices : TableChoices order filters) (pairs : List Pair) where
  pub file_of_store : {models_disk : Bool} {store : List ℕ} {files : Files} {file : FileMetaData} → IsTrue models_disk → IsTableFile choices pairs models_disk store files file
      → ((bytes : List ℕ) → IsTableBuilt choices pairs bytes → (meaning : List ℕ → Option (List ℕ → List ℕ → Bool)) → IsMeaningOf meaning choices.format.policy_name (λ key. choices.format.matches (user_part key))
      → IsStoreTable (Decodes choices.format.codings) choices.format.order meaning bytes pairs)
      → IsTableOfStore choices pairs store files file
  file_of_store modelled made reads meaning level entries known each = record {
    file = kept_file made.bytes;
    there = made.kept modelled;
    pairs = pairs;
    read = subst (λ b. IsStoreTable (Decodes choices.format.codings) choices.format.order meaning b pairs) (sym (append-nil made.bytes)) (reads made.bytes made.built meaning known);
    each = each;
    size = ap length (append-nil made.bytes) ∙ sym made.size;
    smallest = made.smallest;
    largest = made.largest;
  }

-- the entries of a memtable as pairs
pub Each-internal : (entries : List Entry) → AreUpTo greatest_sequence entries → Each IsInternalPair (map internal_pair entries) entries
Each-internal [] numbered = tt
Each-internal (entry ∷ entries) numbered = (
  record { kind = type_of entry.value; key = refl; value = value_again entry.value; fits = let fits = numbered entry (in_front entry entries) in omega (arith, fits) },
  Each-internal entries (λ other there. numbered other (in_rest entry other entries there)),
)
  where
    value_again : (value : Option (List ℕ)) → value ≡ value_of (type_of value) (bytes_of_value value)
    value_again None = refl
    value_again (Some bytes) = refl

pub tagged_internal : (entries : List Entry) → All (λ (pair : Pair). 8 ≤ length pair.0) (map internal_pair entries)
tagged_internal [] = All-nil (λ (pair : Pair). 8 ≤ length pair.0)
tagged_internal (entry ∷ entries) =
    All-cons (λ (pair : Pair). 8 ≤ length pair.0) (internal_pair entry) (map internal_pair entries)
    (let long = length-internal_key entry.key entry.sequence (type_of entry.value) in omega (arith, long)) (tagged_internal entries)

-- keys with a tag are accepted, as all users' keys are
pub tagged_accepted : {accepts : List ℕ → Bool} → ((key : List ℕ) → accepts key ≡ true) → (pairs : List Pair) → All (λ (pair : Pair). 8 ≤ length pair.0) pairs → All (λ (pair : Pair). internal_accepts accepts pair.0 ≡ true) pairs
tagged_accepted {accepts} all pairs tagged k d here =
    let key = (slice_index_or pairs k d).0 in
    ap (λ b. b && accepts (user_part key)) (le-leb 8 (length key) (tagged k d here)) ∙ all (user_part key)

-- ---- the ends of `build_table`

module _ {C FP : Type 0} {order : CmpGhosts C} {filters : FilterGhosts FP} (choices : TableChoices order filters) (pairs : List Pair) {E F : Type 0} (env : EnvGhosts E F) (Fails : Status → Type 0) (store : List ℕ) (number : ℕ) where
  abbrev Why : Status → Type 0
  Why status = IsNotBuilt choices pairs status ⊎ Fails status

  -- an error before any call of the device
  pub MakesTable-before : {old new : E} {status : Status} → new ≡ old → IsOutOfMemory status ⊎ Fails status → MakesTable choices pairs env Fails store number old (Err status) new
  MakesTable-before {old} {status = status} same why = subst (MakesTable choices pairs env Fails store number old (Err status)) (sym same) (record {
    number_is = tt;
    fits = tt;
    none = λ empty. (refl, tt);
    made = λ some. tt;
    has = λ some modelled. tt;
    bytes = λ modelled were. were;
    run = λ modelled. begun (env.observed old) (SameBut-refl (table_path store number) (env.observed old).disk.files);
    locks = λ modelled. refl;
    cause = record { later = omega arith; ok = tt; uncounted = λ excused. refl; cause = inl (⊎_elim (λ memory. inl memory) (λ failed. inr (inr failed, refl)) why) };
  })

  -- no pair
  pub MakesTable-none : {old new : E} (file : FileMetaData) → new ≡ old → pairs ≡ [] → number < 2 ^ 64 → file.num ≡ number → file.allowed_seeks ≡ 0 → file.size ≡ 0 → file.smallest ≡ [] → file.largest ≡ []
      → MakesTable choices pairs env Fails store number old (Ok file) new
  MakesTable-none {old} file same empty number_fits number_is seeks size smallest largest = subst (MakesTable choices pairs env Fails store number old (Ok file)) (sym same) (record {
    number_is = (number_is, seeks);
    fits = λ level. record {
      number = omega (arith, number_is, number_fits);
      size = omega (arith, size);
      smallest = subst AreBytes (sym smallest) no_bytes;
      largest = subst AreBytes (sym largest) no_bytes;
    };
    bytes = λ modelled were. were;
    none = λ none. (refl, size);
    made = λ some. absurd (some empty);
    has = λ some modelled. absurd (some empty);
    run = λ modelled. begun (env.observed old) (SameBut-refl (table_path store number) (env.observed old).disk.files);
    locks = λ modelled. refl;
    cause = record { later = omega arith; ok = refl; uncounted = tt; cause = tt };
  })

  module _ (some : pairs ≢ []) (path : List ℕ) (named : path ≡ table_path store number) {old mid new : E} (same : mid ≡ old) (changes : ChangesOneFile env path mid new) where
    here : ChangesOneFile env (table_path store number) old new
    here = subst (λ p. ChangesOneFile env p old new) named (subst (λ e. ChangesOneFile env path e new) same changes)

    -- the table wasn't written, or not all of it
    pub MakesTable-failed : (status : Status) → FailsToWrite {T = FileMetaData} Why (env.failures mid) (env.failures new) (Err status) → MakesTable choices pairs env Fails store number old (Err status) new
    MakesTable-failed status cause =
        let since = subst (λ e. FailsToWrite {T = FileMetaData} Why (env.failures e) (env.failures new) (Err status)) same cause in
        record {
          number_is = tt;
          fits = tt;
          bytes = here.bytes;
          none = λ empty. absurd (some empty);
          made = λ more. tt;
          has = λ more modelled. tt;
          run = here.run;
          locks = here.locks;
          cause = since;
        }

    -- the file was made
    pub MakesTable-done : {core : TableBuilt C FP} {smallest : List ℕ} (file : FileMetaData)
        → number < 2 ^ 64 → AreBytes smallest
        → IsNewBuilder order filters choices.cmp choices.policy choices.id choices.block_size
        choices.restarts core
        → WritesTable order filters choices.format.codings env core path number smallest pairs file
        mid new
        → IsFirstKey smallest pairs
        → ((read : List ℕ) → IsTableBuilt choices pairs read
        → (meaning : List ℕ → Option (List ℕ → List ℕ → Bool))
        → IsMeaningOf meaning choices.format.policy_name
        (λ key. choices.format.matches (user_part key))
        → IsStoreTable (Decodes choices.format.codings) choices.format.order meaning read pairs)
        → MakesTable choices pairs env Fails store number old (Ok file) new
    MakesTable-done {core} {smallest} file number_fits key is_new writes first reads =
        let known = writes.known in
        let built : IsTableBuilt choices pairs writes.bytes
        = IsTableUnder-same order filters choices.format.codings is_new.order is_new.policy
        is_new.compressor is_new.interval.0 is_new.interval.1 writes.built in
        let made : IsTableFile choices pairs env.models_disk store (env.observed new).disk.files
        file = record {
          bytes = writes.bytes;
          built = built;
          kept = λ modelled. ap (λ n. (env.observed new).disk.files (table_path store n))
              known.number_is ∙ ap (env.observed new).disk.files (sym named)
              ∙ writes.kept modelled;
          size = writes.size_is;
          smallest = subst (λ k. IsFirstKey k pairs) (sym known.smallest_is) first;
          largest = subst (λ k. IsLastKey k pairs) (sym known.largest_is) (last_key_of first);
        } in
        record {
          number_is = (known.number_is, known.seeks);
          fits = λ level. record {
            number = omega (arith, known.number_is, number_fits);
            size = known.fits;
            smallest = subst AreBytes (sym known.smallest_is) key;
            largest = subst AreBytes (sym known.largest_is) known.bytes;
          };
          bytes = here.bytes;
          none = λ empty. absurd (some empty);
          made = λ more. made;
          has = λ more modelled. file_of_store choices pairs modelled made reads;
          run = here.run;
          locks = here.locks;
          cause = record {
            later = here.later;
            ok = writes.counted ∙ ap env.failures same;
            uncounted = tt;
            cause = tt;
          };
        }

    -- what came of it
    pub MakesTable-written : {core : TableBuilt C FP} {smallest : List ℕ}
        (result : Result FileMetaData Status) → number < 2 ^ 64 → AreBytes smallest
        → IsNewBuilder order filters choices.cmp choices.policy choices.id choices.block_size
        choices.restarts core
        → IfOk result (λ file. WritesTable order filters choices.format.codings env core path number
        smallest pairs file mid new)
        → FailsToWrite Why (env.failures mid) (env.failures new) result → IsFirstKey smallest pairs
        → ((read : List ℕ) → IsTableBuilt choices pairs read
        → (meaning : List ℕ → Option (List ℕ → List ℕ → Bool))
        → IsMeaningOf meaning choices.format.policy_name
        (λ key. choices.format.matches (user_part key))
        → IsStoreTable (Decodes choices.format.codings) choices.format.order meaning read pairs)
        → MakesTable choices pairs env Fails store number old result new
    MakesTable-written (Ok file) fits key is_new writes cause first reads =
        MakesTable-done file fits key is_new writes first reads
    MakesTable-written (Err status) fits key is_new writes cause first reads =
        MakesTable-failed status cause

-- a walk that never fails is no cause
pub MakesTable-never : {C FP : Type 0} {order : CmpGhosts C} {filters : FilterGhosts FP} {choices : TableChoices order filters} {pairs : List Pair} {E F : Type 0} {env : EnvGhosts E F} {Fails : Status → Type 0} {store : List ℕ} {number : ℕ} {old new : E} (result : Result FileMetaData Status)
    → ((status : Status) → Fails status → ⊥) → MakesTable choices pairs env Fails store number old result new → MakesTable choices pairs env (λ status. ⊥) store number old result new
MakesTable-never {choices = choices} {pairs} {env = env} {Fails} {old = old} {new} result never m = record {
  number_is = m.number_is;
  fits = m.fits;
  none = m.none;
  made = m.made;
  has = m.has;
  run = m.run;
  bytes = m.bytes;
  locks = m.locks;
  cause = cause_same result
      (λ status. ⊎_elim (λ memory. inl memory) (λ other. inr (⊎_elim (λ not. inl not) (λ failed. inr (never status failed)) other.0, other.1)))
      (λ status. ⊎_elim (λ memory. inl memory) (λ other. inr (⊎_elim (λ not. inl not) (λ failed. absurd failed) other.0, other.1))) m.cause;
}

-- why a new builder's table isn't written
pub written_why : {C FP : Type 0} {order : CmpGhosts C} {filters : FilterGhosts FP}
    (choices : TableChoices order filters) (pairs : List Pair) {core : TableBuilt C FP}
    {Others Fails : Status → Type 0} {T : Type 0} {before now : ℕ} (result : Result T Status)
    → IsNewBuilder order filters choices.cmp choices.policy choices.id choices.block_size
    choices.restarts core → ((s : Status) → Others s → Fails s)
    → FailsToWrite (λ s. StopsBuilding order filters choices.format.codings core pairs s
    ⊎ Others s) before now result
    → FailsToWrite (λ s. IsNotBuilt choices pairs s ⊎ Fails s) before now result
written_why choices pairs (Ok made) is_new so cause =
    record { later = cause.later; ok = cause.ok; uncounted = tt; cause = tt }
written_why choices pairs {core} (Err status) is_new so cause =
    fails_later refl (⊎_elim (λ stops. inl (inr (core, is_new, stops)))
    (λ other. inr (so status other))) cause

-- where there is a first key, there is a pair
pub first_some : {key : List ℕ} {pairs : List Pair} → IsFirstKey key pairs → pairs ≢ []
first_some first empty = cc (sym first.2 ∙ empty)
