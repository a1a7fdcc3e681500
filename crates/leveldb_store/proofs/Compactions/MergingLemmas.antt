-- Pairs of a merge, one after another.
use Rattle.std.specs.Prelude.{Contains, IfErr, IfSome, IsErrAnd, OnOk, if◌then◌else◌, not}
use Rattle.std.proofs.Common.{◌≡◌, ◌⊎◌, ◌∙◌, inl, inr, ⊎_elim, ℕ, ◌<◌, ◌≤◌, Bool, true, false, List, [], ◌∷◌, ◌++◌, length, Option, None, Some, Result, Ok, Err, refl, sym, ap, subst, arith, append_assoc}
use Rattle.std.proofs.lemmas.Bool.{lt-ltb, ltb-true}
use Rattle.std.proofs.lemmas.List.{append-nil, map-append}
use Rattle.std.proofs.lemmas.List.Elements.{Contains-append_cases, Contains-append_left, Contains-append_right, Contains-push, Contains-push_cases}
use Rattle.std.specs.Cmp.{IsTotalOrder, nat_cmp_is, ranked}
use Rattle.std.specs.List.{filter}
use Rattle.std.specs.Ordering.{nat_cmp, ordering_then}
use Rattle.std.specs.declared.cmp.Ordering.{Ordering}
use Rattle.std.specs.declared.cmp.Ordering.TheVariants.{Equal, Greater, Less}
use Rattle.leveldb_base.proofs.EntriesLemmas.{internal_is_total, rising_is_sorted}
use Rattle.leveldb_base.proofs.HistoryLemmas.{in_cases, in_front, in_none, in_rest}
use Rattle.leveldb_base.proofs.ThinningLemmas.{entry_before_tells, of_filter}
use Rattle.leveldb_base.specs.Cmp.{IsExactOrder}
use Rattle.leveldb_base.specs.Entries.{AreSorted, entries_of_pairs, entry_of_pair}
use Rattle.leveldb_base.specs.Error.{IsOutOfMemory}
use Rattle.leveldb_base.specs.History.{AreRising, Entry, IsBeforeAll}
use Rattle.leveldb_base.specs.KeyTypes.{internal_cmp, sequence_part, user_part}
use Rattle.leveldb_base.specs.Thinning.{goes, goes_after, thinned}
use Rattle.leveldb_base.specs.Types.{Pair}
use Rattle.leveldb_base.specs.declared.cmp.Cmp.{Ghosts as CmpGhosts}
use Rattle.leveldb_base.specs.declared.error.Status.{Status}
use Rattle.leveldb_base.specs.declared.error.StatusCode.TheVariants.{Corruption}
use Rattle.leveldb_base.specs.declared.types.FileMetaData.{FileMetaData}
use Rattle.leveldb_env.specs.declared.env.Env.{Ghosts as EnvGhosts}
use Rattle.leveldb_env.specs.declared.filter.FilterPolicy.{Ghosts as FilterGhosts}
use Rattle.leveldb_table.specs.BlockBuilder.{last_added}
use Rattle.leveldb_table.specs.TableBuilder.{last_of, order_of}
use Rattle.leveldb_store.specs.Compactions.Merging.{AreInPlace, AreRead, HasMerged, Merge, MergesInto, TakesPair, all_pairs, last_entry, pairs_left, stays}
use Rattle.leveldb_store.specs.Tables.Outputs.{AreFinished, AreNextNumbers, AreTables, HaveOutputs, IsOpenAfter, IsOpenTable, IsUnfit, OutputsValue, PutsPair, is_due, no_outputs, numbers_of, pairs_after, tables_after, with_table}
use Rattle.leveldb_store.specs.Compactions.Passing.{IsJustBefore, may_come, may_follow}
use Rattle.leveldb_store.specs.declared.passing.Passing.{Passing}
use Rattle.leveldb_store.specs.declared.table_file.TableFile.{TableFile}
use Rattle.leveldb_store.proofs.Tables.NotBuiltLemmas.{more_not_built}
use Rattle.leveldb_store.proofs.Tables.OutputsLemmas.{new-none}
use Rattle.leveldb_store.proofs.Tables.PartsLemmas.{parts_none, parts_so}
use Rattle.leveldb_store.proofs.Tables.TableFileLemmas.{all_written, fails_later, own_fails}

-- what holds after an Ok gives this
pub ok_map : {T P Q : Type 0} (result : Result T Status) → OnOk result P → (P → Q) → OnOk result Q
ok_map (Ok x) is so = so is
ok_map (Err status) is so = tt

-- ---- the pairs of tables

all_pairs_last : (tables : List (List Pair)) (pairs : List Pair)
    → all_pairs (tables ++ pairs ∷ []) ≡ all_pairs tables ++ pairs
all_pairs_last [] pairs = append-nil pairs
all_pairs_last (table ∷ tables) pairs =
    ap (λ ps. table ++ ps) (all_pairs_last tables pairs)
    ∙ sym (append_assoc table (all_pairs tables) pairs)

pub all_pairs_with : (tables : List (List Pair)) (pairs : List Pair)
    → all_pairs (with_table tables pairs) ≡ all_pairs tables ++ pairs
all_pairs_with tables [] = sym (append-nil (all_pairs tables))
all_pairs_with tables (pair ∷ pairs) = all_pairs_last tables (pair ∷ pairs)

-- one pair more, in the open table or in a new one
pub all_pairs_put : (due : Bool) (tables : List (List Pair)) (pairs : List Pair) (pair : Pair)
    → all_pairs (tables_after due tables pairs) ++ pairs_after due pairs pair
    ≡ (all_pairs tables ++ pairs) ++ pair ∷ []
all_pairs_put true tables pairs pair = ap (λ ps. ps ++ pair ∷ []) (all_pairs_with tables pairs)
all_pairs_put false tables pairs pair = sym (append_assoc (all_pairs tables) pairs (pair ∷ []))

-- ---- which entries stay

pub last_entry_pushed : (before : Option Entry) (pairs : List Pair) (pair : Pair)
    → last_entry before (pairs ++ pair ∷ []) ≡ Some (entry_of_pair pair)
last_entry_pushed before [] pair = refl
last_entry_pushed before (first ∷ pairs) pair =
    last_entry_pushed (Some (entry_of_pair first)) pairs pair

-- the last of some pairs
record IsLastOf (pairs : List Pair) : Type 0 where
  pub front : List Pair
  pub last : Pair
  pub are : pairs ≡ front ++ last ∷ []

last_of_pairs : (pair : Pair) (pairs : List Pair) → IsLastOf (pair ∷ pairs)
last_of_pairs pair [] = record { front = []; last = pair; are = refl }
last_of_pairs pair (next ∷ pairs) =
    let rest = last_of_pairs next pairs in
    record { front = pair ∷ rest.front; last = rest.last; are = ap (λ ps. pair ∷ ps) rest.are }

entry_of_last : {pairs : List Pair} (before : Option Entry) (is : IsLastOf pairs)
    → last_entry before pairs ≡ Some (entry_of_pair is.last)
entry_of_last before is = ap (last_entry before) is.are ∙ last_entry_pushed before is.front is.last

-- a pair, if its entry doesn't go after another
abbrev left_one : ℕ → (List ℕ → Bool) → Option Entry → Pair → List Pair
left_one smallest is_base before pair =
    if goes_after smallest is_base before (entry_of_pair pair) then [] else pair ∷ []

-- what is left of pairs, by the entry before each
abbrev left_after : ℕ → (List ℕ → Bool) → Option Entry → List Pair → List Pair
left_after smallest is_base before [] = []
left_after smallest is_base before (pair ∷ pairs) = left_one smallest is_base before pair
    ++ left_after smallest is_base (Some (entry_of_pair pair)) pairs

left_after_pushed : (smallest : ℕ) (is_base : List ℕ → Bool) (before : Option Entry)
    (pairs : List Pair) (pair : Pair)
    → left_after smallest is_base before (pairs ++ pair ∷ [])
    ≡ left_after smallest is_base before pairs
    ++ left_one smallest is_base (last_entry before pairs) pair
left_after_pushed smallest is_base before [] pair =
    append-nil (left_one smallest is_base before pair)
left_after_pushed smallest is_base before (first ∷ pairs) pair =
    ap (λ ps. left_one smallest is_base before first ++ ps)
    (left_after_pushed smallest is_base (Some (entry_of_pair first)) pairs pair)
    ∙ sym (append_assoc (left_one smallest is_base before first)
    (left_after smallest is_base (Some (entry_of_pair first)) pairs)
    (left_one smallest is_base (last_entry (Some (entry_of_pair first)) pairs) pair))

filter_first : (test : Pair → Bool) (pair : Pair) (pairs : List Pair) (b : Bool)
    → test pair ≡ not b
    → filter test (pair ∷ pairs) ≡ (if b then [] else pair ∷ []) ++ filter test pairs
filter_first test pair pairs true is =
    ap (λ t. if t then pair ∷ filter test pairs else filter test pairs) is
filter_first test pair pairs false is =
    ap (λ t. if t then pair ∷ filter test pairs else filter test pairs) is

module _ (cmp : List ℕ → List ℕ → Ordering) (exact : IsExactOrder cmp) (smallest : ℕ)
    (is_base : List ℕ → Bool) where
  -- the entry of the pair before tells whether a pair's entry goes
  pair_before_tells : (front : List Pair) (pair : Pair) (rest : List Pair)
      → AreSorted cmp (entries_of_pairs (front ++ pair ∷ rest))
      → goes smallest is_base (entries_of_pairs (front ++ pair ∷ rest)) (entry_of_pair pair)
      ≡ goes_after smallest is_base (last_entry None front) (entry_of_pair pair)
  pair_before_tells [] pair rest sorted =
      entry_before_tells.first cmp exact smallest is_base (entry_of_pair pair)
      (entries_of_pairs rest) sorted
  pair_before_tells (first ∷ front) pair rest sorted =
      let last = last_of_pairs first front in
      let all : entries_of_pairs ((first ∷ front) ++ pair ∷ rest)
      ≡ (entries_of_pairs last.front ++ entry_of_pair last.last ∷ [])
      ++ entry_of_pair pair ∷ entries_of_pairs rest
      = map-append entry_of_pair (first ∷ front) (pair ∷ rest)
      ∙ ap (λ es. es ++ entry_of_pair pair ∷ entries_of_pairs rest)
      (ap entries_of_pairs last.are ∙ map-append entry_of_pair last.front (last.last ∷ [])) in
      ap (λ es. goes smallest is_base es (entry_of_pair pair)) all
      ∙ entry_before_tells.next cmp exact smallest is_base (entries_of_pairs last.front)
      (entry_of_pair last.last) (entry_of_pair pair) (entries_of_pairs rest)
      (subst (AreSorted cmp) all sorted)
      ∙ ap (λ before. goes_after smallest is_base before (entry_of_pair pair))
      (sym (entry_of_last None last))

  -- so a walk through pairs leaves what is left of them
  left_in_turn : (front rest : List Pair) → AreSorted cmp (entries_of_pairs (front ++ rest))
      → filter (stays smallest is_base (front ++ rest)) rest
      ≡ left_after smallest is_base (last_entry None front) rest
  left_in_turn front [] sorted = refl
  left_in_turn front (pair ∷ rest) sorted =
      let all = front ++ pair ∷ rest in
      let again : (front ++ pair ∷ []) ++ rest ≡ all = append_assoc front (pair ∷ []) rest in
      let later = left_in_turn (front ++ pair ∷ []) rest
      (subst (λ ps. AreSorted cmp (entries_of_pairs ps)) (sym again) sorted) in
      filter_first (stays smallest is_base all) pair rest
      (goes_after smallest is_base (last_entry None front) (entry_of_pair pair))
      (ap not (pair_before_tells front pair rest sorted))
      ∙ ap (λ ps. left_one smallest is_base (last_entry None front) pair ++ ps)
      (ap (λ ps. filter (stays smallest is_base ps) rest) (sym again) ∙ later
      ∙ ap (λ before. left_after smallest is_base before rest)
      (last_entry_pushed None front pair))

  left_of_rising : (pairs : List Pair) → AreRising (internal_cmp cmp) pairs
      → pairs_left smallest is_base pairs ≡ left_after smallest is_base None pairs
  left_of_rising pairs rising = left_in_turn [] pairs (rising_is_sorted cmp exact pairs rising)

  -- one pair more
  pub left_pushed : (read : List Pair) (pair : Pair)
      → AreRising (internal_cmp cmp) read → AreRising (internal_cmp cmp) (read ++ pair ∷ [])
      → pairs_left smallest is_base (read ++ pair ∷ [])
      ≡ pairs_left smallest is_base read
      ++ left_one smallest is_base (last_entry None read) pair
  left_pushed read pair rising more = left_of_rising (read ++ pair ∷ []) more
      ∙ left_after_pushed smallest is_base None read pair
      ∙ ap (λ ps. ps ++ left_one smallest is_base (last_entry None read) pair)
      (sym (left_of_rising read rising))

-- what is left of pairs is what is left of their entries
entries_filtered : (test : Entry → Bool) (pairs : List Pair)
    → entries_of_pairs (filter (λ pair. test (entry_of_pair pair)) pairs)
    ≡ filter test (entries_of_pairs pairs)
entries_filtered test [] = refl
entries_filtered test (pair ∷ pairs) =
    by (test (entry_of_pair pair)) (entries_filtered test pairs)
  where
    by : (b : Bool) → entries_of_pairs (filter (λ p. test (entry_of_pair p)) pairs)
        ≡ filter test (entries_of_pairs pairs)
        → entries_of_pairs
        (if b then pair ∷ filter (λ p. test (entry_of_pair p)) pairs
        else filter (λ p. test (entry_of_pair p)) pairs)
        ≡ (if b then entry_of_pair pair ∷ filter test (entries_of_pairs pairs)
        else filter test (entries_of_pairs pairs))
    by true rest = ap (λ es. entry_of_pair pair ∷ es) rest
    by false rest = rest

pub entries_left : (smallest : ℕ) (is_base : List ℕ → Bool) (pairs : List Pair)
    → entries_of_pairs (pairs_left smallest is_base pairs)
    ≡ thinned smallest is_base (entries_of_pairs pairs)
entries_left smallest is_base pairs = entries_filtered
    (λ entry. not (goes smallest is_base (entries_of_pairs pairs) entry)) pairs

-- ---- pairs that rise

-- by their keys a pair comes after another exactly where its entry may
come_less : (order : Ordering) (newer sequence : ℕ) → may_come order newer sequence ≡ true
    → ordering_then order (nat_cmp sequence newer) ≡ Less
come_less Less newer sequence is = refl
come_less Equal newer sequence is =
    sym (nat_cmp_is sequence newer Less (ltb-true sequence newer is))
come_less Greater newer sequence is = absurd (cc is)

less_come : (order : Ordering) (newer sequence : ℕ)
    → ordering_then order (nat_cmp sequence newer) ≡ Less → may_come order newer sequence ≡ true
less_come Less newer sequence is = refl
less_come Equal newer sequence is = lt-ltb sequence newer (ranked sequence newer Less (sym is))
less_come Greater newer sequence is = absurd (cc is)

module _ (cmp : List ℕ → List ℕ → Ordering) where
  before_pushed : (key : List ℕ) (pairs : List Pair) (pair : Pair) → IsBeforeAll cmp key pairs
      → cmp key pair.0 ≡ Less → IsBeforeAll cmp key (pairs ++ pair ∷ [])
  before_pushed key [] pair all less = (less, tt)
  before_pushed key (first ∷ pairs) pair all less =
      (all.0, before_pushed key pairs pair all.1 less)

  -- those at the front
  before_front : (key : List ℕ) (front rest : List Pair) → IsBeforeAll cmp key (front ++ rest)
      → IsBeforeAll cmp key front
  before_front key [] rest all = tt
  before_front key (first ∷ front) rest all = (all.0, before_front key front rest all.1)

  rising_front : (front rest : List Pair) → AreRising cmp (front ++ rest) → AreRising cmp front
  rising_front [] rest rising = tt
  rising_front (first ∷ front) rest rising =
      (before_front first.0 front rest rising.0, rising_front front rest rising.1)

  before_last : (key : List ℕ) (front : List Pair) (last : Pair)
      → IsBeforeAll cmp key (front ++ last ∷ []) → cmp key last.0 ≡ Less
  before_last key [] last all = all.0
  before_last key (first ∷ front) last all = before_last key front last all.1

  -- one pair more, after the last
  rising_pushed : IsTotalOrder cmp → (front : List Pair) (last pair : Pair)
      → AreRising cmp (front ++ last ∷ []) → cmp last.0 pair.0 ≡ Less
      → AreRising cmp ((front ++ last ∷ []) ++ pair ∷ [])
  rising_pushed total [] last pair rising less = ((less, tt), (tt, tt))
  rising_pushed total (first ∷ front) last pair rising less = (
    before_pushed first.0 (front ++ last ∷ []) pair rising.0
        (total.trans first.0 last.0 pair.0 (before_last first.0 front last rising.0) less),
    rising_pushed total front last pair rising.1 less,
  )

  -- then it is after the last
  last_rises : (front : List Pair) (last pair : Pair)
      → AreRising cmp ((front ++ last ∷ []) ++ pair ∷ []) → cmp last.0 pair.0 ≡ Less
  last_rises [] last pair rising = rising.0.0
  last_rises (first ∷ front) last pair rising = last_rises front last pair rising.1

module _ (cmp : List ℕ → List ℕ → Ordering) (exact : IsExactOrder cmp) where
  -- a pair that may follow rises
  pub follows_rising : (read : List Pair) (pair : Pair) → AreRising (internal_cmp cmp) read
      → may_follow cmp (last_entry None read) (entry_of_pair pair) ≡ true
      → AreRising (internal_cmp cmp) (read ++ pair ∷ [])
  follows_rising [] pair rising may = (tt, tt)
  follows_rising (first ∷ read) pair rising may =
      let last = last_of_pairs first read in
      let so : may_follow cmp (Some (entry_of_pair last.last)) (entry_of_pair pair) ≡ true
      = subst (λ before. may_follow cmp before (entry_of_pair pair) ≡ true)
      (entry_of_last None last) may in
      let less : internal_cmp cmp last.last.0 pair.0 ≡ Less
      = come_less (cmp (user_part last.last.0) (user_part pair.0)) (sequence_part last.last.0)
      (sequence_part pair.0) so in
      subst (λ ps. AreRising (internal_cmp cmp) (ps ++ pair ∷ [])) (sym last.are)
      (rising_pushed (internal_cmp cmp) (internal_is_total cmp exact) last.front last.last pair
      (subst (AreRising (internal_cmp cmp)) last.are rising) less)

  -- and one that rises may follow
  pub rising_follows : (read : List Pair) (pair : Pair)
      → AreRising (internal_cmp cmp) (read ++ pair ∷ [])
      → may_follow cmp (last_entry None read) (entry_of_pair pair) ≡ true
  rising_follows [] pair rising = refl
  rising_follows (first ∷ read) pair rising =
      let last = last_of_pairs first read in
      let less = last_rises (internal_cmp cmp) last.front last.last pair
      (subst (λ ps. AreRising (internal_cmp cmp) (ps ++ pair ∷ [])) last.are rising) in
      subst (λ before. may_follow cmp before (entry_of_pair pair) ≡ true)
      (sym (entry_of_last None last))
      (less_come (cmp (user_part last.last.0) (user_part pair.0)) (sequence_part last.last.0)
      (sequence_part pair.0) less)

  -- the last of those that are left is before one that rises
  pub rises_to : (front : List Pair) (pair : Pair) → AreRising (internal_cmp cmp) (front ++ pair ∷ [])
      → (other : Pair) → Contains front other → internal_cmp cmp other.0 pair.0 ≡ Less
  rises_to [] pair rising other there = absurd (in_none other there)
  rises_to (first ∷ front) pair rising other there = ⊎_elim
      (λ (is : first ≡ other). subst (λ (p : Pair). internal_cmp cmp p.0 pair.0 ≡ Less) is
      (before_last (internal_cmp cmp) first.0 front pair rising.0))
      (λ later. rises_to front pair rising.1 other later)
      (in_cases first other front there)

-- the last key is that of one of the pairs
last_added_in : (pair : Pair) (pairs : List Pair)
    → (other : Pair) × Contains (pair ∷ pairs) other × (other.0 ≡ last_added (pair ∷ pairs))
last_added_in pair [] = (pair, in_front pair [], refl)
last_added_in pair (next ∷ pairs) =
    let rest = last_added_in next pairs in
    (rest.0, in_rest pair rest.0 (next ∷ pairs) rest.1, rest.2)

-- ---- pairs in place

module _ {cmp : List ℕ → List ℕ → Ordering} {is_among : List ℕ → Bool} where
  pub in_place_none : AreInPlace cmp is_among []
  in_place_none = record {
    tagged = λ pair there. absurd (in_none pair there);
    rising = tt;
    among = λ pair there. absurd (in_none pair there);
  }

  pub in_place_pushed : (exact : IsExactOrder cmp) (read : List Pair) (pair : Pair)
      → AreInPlace cmp is_among read → 8 ≤ length pair.0
      → may_follow cmp (last_entry None read) (entry_of_pair pair) ≡ true
      → is_among (user_part pair.0) ≡ true → AreInPlace cmp is_among (read ++ pair ∷ [])
  in_place_pushed exact read pair are tagged may among = record {
    tagged = λ other there. ⊎_elim (λ was. are.tagged other was)
        (λ (is : pair ≡ other). subst (λ (p : Pair). 8 ≤ length p.0) is tagged)
        (Contains-push_cases read pair other there);
    rising = follows_rising cmp exact read pair are.rising may;
    among = λ other there. ⊎_elim (λ was. are.among other was)
        (λ (is : pair ≡ other). subst (λ (p : Pair). is_among (user_part p.0) ≡ true) is among)
        (Contains-push_cases read pair other there);
  }

  pub in_place_front : (front rest : List Pair) → AreInPlace cmp is_among (front ++ rest)
      → AreInPlace cmp is_among front
  in_place_front front rest are = record {
    tagged = λ pair there. are.tagged pair (Contains-append_left front rest pair there);
    rising = rising_front (internal_cmp cmp) front rest are.rising;
    among = λ pair there. are.among pair (Contains-append_left front rest pair there);
  }

-- ---- steps

module _ {C FP : Type 0} {order : CmpGhosts C} {filters : FilterGhosts FP}
    (merge : Merge order filters) {E F : Type 0} (env : EnvGhosts E F)
    (exact : IsExactOrder merge.choices.format.order)
    (cmp_is : order.cmp merge.choices.cmp ≡ internal_cmp merge.choices.format.order) {first : ℕ}
  where
    -- before the first pair
    unfoldable pub merged_none : (at : E) {passing : Passing} → IsJustBefore passing None
        → HasMerged merge env first [] first at passing no_outputs
    merged_none at just = record {
      are_read = in_place_none;
      passed = just;
      tables = [];
      pairs = [];
      have = record { finished = tt; opened = (refl, refl); numbers = refl; cut = tt };
      left = refl;
    }

    -- the pairs that the open table has were read
    pub open_read : {read : List Pair} {next : ℕ} {from : E} {passing : Passing}
        {outputs : OutputsValue E C FP F}
        (merged : HasMerged merge env first read next from passing outputs) (put : Pair)
        → Contains merged.pairs put → Contains read put
    open_read {read} merged put there =
        (of_filter (stays merge.smallest merge.is_base read) read put
        (subst (λ ps. Contains ps put) merged.left
        (Contains-append_right (all_pairs merged.tables) merged.pairs put there))).0

    module _ {read : List Pair} {next : ℕ} {from : E} {passing : Passing}
        {outputs : OutputsValue E C FP F}
        (merged : HasMerged merge env first read next from passing outputs) (pair : Pair) where
      -- the outputs that differ in whether the open one is to end have the same tables
      pub have_same : {now : OutputsValue E C FP F}
          → (now.unfinished ≡ outputs.unfinished) × (now.done ≡ outputs.done)
          → HaveOutputs merge.choices env merge.store first next from now merged.tables merged.pairs
      have_same {now} same = record {
        finished = subst (λ fs. AreFinished merge.choices env merge.store from fs merged.tables)
            (sym same.1) merged.have.finished;
        opened = subst (λ o. IsOpenAfter merge.choices env merge.store from merged.tables o
            merged.pairs) (sym same.0) merged.have.opened;
        numbers = subst (λ o. AreNextNumbers first next (numbers_of now.done o)) (sym same.0)
            (subst (λ fs. AreNextNumbers first next (numbers_of fs outputs.unfinished))
            (sym same.1) merged.have.numbers);
        cut = merged.have.cut;
      }

      -- a pair that isn't in place is refused
      pub misplaced : {later : ℕ} {left : Passing} {new : OutputsValue E C FP F}
          (result : Result (Unit {0}) Status) → IsErrAnd result (λ status. status.code ≡ Corruption)
          → (AreRead merge (read ++ pair ∷ []) → ⊥)
          → TakesPair merge env first read pair next from result later from left new
      misplaced (Ok x) never why = absurd never
      misplaced (Err status) code why = record {
        ok = tt;
        changes = new-none env merge.store first from;
        parts = parts_none merge.choices env (read ++ pair ∷ []) from;
        cause = own_fails refl (inr (inr (inr (code, why)), refl));
      }

      pub untagged : length pair.0 < 8 → AreRead merge (read ++ pair ∷ []) → ⊥
      untagged short are =
          let tagged = are.tagged pair (Contains-push read pair) in omega (arith, short, tagged)

      pub not_following : may_follow merge.choices.format.order (last_entry None read)
          (entry_of_pair pair) ≡ false → AreRead merge (read ++ pair ∷ []) → ⊥
      not_following not are =
          let may = rising_follows merge.choices.format.order exact read pair are.rising in
          let never : false ≡ true = sym not ∙ may in absurd (cc never)

      pub not_among : merge.is_among (user_part pair.0) ≡ false
          → AreRead merge (read ++ pair ∷ []) → ⊥
      not_among not are =
          let is = are.among pair (Contains-push read pair) in
          let never : false ≡ true = sym not ∙ is in absurd (cc never)

      module _ (are : AreRead merge (read ++ pair ∷ [])) where
        -- the last pair that was put is before it
        put_before : (put : Pair) (puts : List Pair) → merged.pairs ≡ put ∷ puts
            → internal_cmp merge.choices.format.order (last_added merged.pairs) pair.0 ≡ Less
        put_before put puts is =
            let cmp = merge.choices.format.order in
            let last = last_added_in put puts in
            let was_read = open_read merged last.0
            (subst (λ ps. Contains ps last.0) (sym is) last.1) in
            subst (λ k. internal_cmp cmp k pair.0 ≡ Less) (last.2 ∙ ap last_added (sym is))
            (rises_to cmp exact read pair are.rising last.0 was_read)

        follows_open : (one : Option (TableFile E C FP F)) → outputs.unfinished ≡ one
            → IfSome one (λ table. 0 < table.core.count
            → order.cmp (order_of table.core) (last_of table.core) pair.0 ≡ Less)
        follows_open None e = tt
        follows_open (Some table) e = λ some.
            let cmp = merge.choices.format.order in
            let is : IsOpenTable merge.choices env merge.store from table merged.pairs
            = subst (λ o. IsOpenAfter merge.choices env merge.store from merged.tables o
            merged.pairs) e merged.have.opened in
            ap (λ c. order.cmp c (last_of table.core) pair.0)
            (is.taken.choices.same_order ∙ is.is_new.order)
            ∙ ap (λ (by : List ℕ → List ℕ → Ordering). by (last_of table.core) pair.0) cmp_is
            ∙ ap (λ k. internal_cmp cmp k pair.0) is.last
            ∙ put_before (table.smallest, is.first.0) is.first.1 is.first.2

        never_unfit : IsUnfit order outputs.unfinished pair.0 → ⊥
        never_unfit (inl short) = untagged short are
        never_unfit (inr unfit) = unfit (follows_open outputs.unfinished refl)

        pub pushed_left : pairs_left merge.smallest merge.is_base (read ++ pair ∷ [])
            ≡ pairs_left merge.smallest merge.is_base read
            ++ left_one merge.smallest merge.is_base (last_entry None read) pair
        pushed_left = left_pushed merge.choices.format.order exact merge.smallest merge.is_base read
            pair merged.are_read.rising are.rising

        pub pushed_passed : (new : Passing) → IsJustBefore new (Some (entry_of_pair pair))
            → IsJustBefore new (last_entry None (read ++ pair ∷ []))
        pushed_passed new just =
            subst (IsJustBefore new) (sym (last_entry_pushed None read pair)) just

        -- its entry goes
        unfoldable pub taken_gone : {left : Passing} {now : OutputsValue E C FP F}
            (result : Result (Unit {0}) Status)
            → (now.unfinished ≡ outputs.unfinished) × (now.done ≡ outputs.done)
            → goes_after merge.smallest merge.is_base (last_entry None read) (entry_of_pair pair)
            ≡ true
            → OnOk result (IsJustBefore left (Some (entry_of_pair pair)))
            → IfErr result IsOutOfMemory
            → TakesPair merge env first read pair next from result next from left now
        taken_gone {left} {now} (Ok x) same went just memory = record {
          ok = record {
            are_read = are;
            passed = pushed_passed left just;
            tables = merged.tables;
            pairs = merged.pairs;
            have = have_same same;
            left = merged.left
                ∙ sym (append-nil (pairs_left merge.smallest merge.is_base read))
                ∙ ap (λ b. pairs_left merge.smallest merge.is_base read
                ++ (if b then [] else pair ∷ [])) (sym went)
                ∙ sym pushed_left;
          };
          changes = new-none env merge.store first from;
          parts = parts_none merge.choices env (read ++ pair ∷ []) from;
          cause = all_written refl;
        }
        taken_gone (Err status) same went just memory = record {
          ok = tt;
          changes = new-none env merge.store first from;
          parts = parts_none merge.choices env (read ++ pair ∷ []) from;
          cause = own_fails refl (inl memory);
        }

        -- the open table's pairs and this one were read
        pub put_read : (put : Pair) → Contains (merged.pairs ++ pair ∷ []) put
            → Contains (read ++ pair ∷ []) put
        put_read put there = ⊎_elim
            (λ were. Contains-append_left read (pair ∷ []) put (open_read merged put were))
            (λ last. Contains-append_right read (pair ∷ []) put last)
            (Contains-append_cases merged.pairs (pair ∷ []) put there)

        -- it isn't put
        pub not_put : {told now : OutputsValue E C FP F} {limit later : ℕ} {to : E} {left : Passing}
            {status : Status} → told.unfinished ≡ outputs.unfinished
            → PutsPair merge.choices env merge.store first merged.tables merged.pairs limit pair from
            told (Err status) later to now
            → TakesPair merge env first read pair next from (Err status) later to left now
        not_put same puts = record {
          ok = tt;
          changes = puts.changes;
          parts = parts_so merge.choices env _ _ put_read puts.parts;
          cause = fails_later refl (⊎_elim (λ not. inl (more_not_built merge.choices put_read not))
              (⊎_elim (λ used_up. inr (inl used_up))
              (λ unfit. absurd (never_unfit (subst (λ o. IsUnfit order o pair.0) same unfit.1)))))
              puts.cause;
        }

        -- it is put
        unfoldable pub taken_put : {told now : OutputsValue E C FP F} {limit later : ℕ} {to : E}
            {left : Passing} {u : Unit {0}} (result : Result (Unit {0}) Status)
            → goes_after merge.smallest merge.is_base (last_entry None read) (entry_of_pair pair)
            ≡ false
            → PutsPair merge.choices env merge.store first merged.tables merged.pairs limit pair from
            told (Ok u) later to now
            → OnOk result (IsJustBefore left (Some (entry_of_pair pair)))
            → IfErr result IsOutOfMemory
            → TakesPair merge env first read pair next from result later to left now
        taken_put {told} {now} {limit} {left = left} (Ok x) stayed puts just memory =
            let due = is_due limit pair.0 told in
            record {
              ok = record {
                are_read = are;
                passed = pushed_passed left just;
                tables = tables_after due merged.tables merged.pairs;
                pairs = pairs_after due merged.pairs pair;
                have = puts.ok;
                left = all_pairs_put due merged.tables merged.pairs pair
                    ∙ ap (λ ps. ps ++ pair ∷ []) merged.left
                    ∙ ap (λ b. pairs_left merge.smallest merge.is_base read
                    ++ (if b then [] else pair ∷ [])) (sym stayed)
                    ∙ sym pushed_left;
              };
              changes = puts.changes;
              parts = parts_so merge.choices env _ _ put_read puts.parts;
              cause = all_written puts.cause.ok;
            }
        taken_put (Err status) stayed puts just memory = record {
          ok = tt;
          changes = puts.changes;
          parts = parts_so merge.choices env _ _ put_read puts.parts;
          cause = own_fails puts.cause.ok (inl memory);
        }

    -- the last table is finished
    unfoldable pub merged_all : {read : List Pair} {next : ℕ} {from to : E} {passing : Passing}
        {outputs : OutputsValue E C FP F}
        (merged : HasMerged merge env first read next from passing outputs)
        {files : List FileMetaData}
        → AreTables merge.choices env merge.store first next to files
        (with_table merged.tables merged.pairs)
        → MergesInto merge env first read next files to
    merged_all {read} merged are =
        let left = all_pairs_with merged.tables merged.pairs ∙ merged.left in
        record {
          are_read = merged.are_read;
          tables = with_table merged.tables merged.pairs;
          are_tables = are;
          left = left;
          entries = ap entries_of_pairs left ∙ entries_left merge.smallest merge.is_base read;
        }
