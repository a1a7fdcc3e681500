-- What each step of a replay makes of what was replayed before it, and why it fails.
use Rattle.std.specs.Prelude.{◌↔◌, AllPairs, Contains, IfErr, IfSome, IsErrAnd, IsTrue, max}
use Rattle.std.proofs.Common.{◌≡◌, ◌≢◌, ◌∙◌, ◌⊎◌, inl, inr, ⊎_elim, ℕ, zero, suc, ◌+◌, ◌-◌, ◌<◌, ◌≤◌, ◌^◌, ◌*◌, List, [], ◌∷◌, ◌++◌, Option, None, Result, Ok, Err, Some, ap, append-nil, append_assoc, arith, length, length-append, map, refl, subst, sym}
use Rattle.std.proofs.lemmas.List.{map_push}
use Rattle.std.proofs.lemmas.List.Sums.{sum_by-append}
use Rattle.std.proofs.lemmas.List.Elements.{All-push, Contains-append_cases, Contains-append_left, Contains-append_right, Contains-push_cases}
use Rattle.std.proofs.lemmas.List.Kept.{AllPairs-cons}
use Rattle.std.proofs.lemmas.List.Concat.{flat_map-append}
use Rattle.std.specs.Global.{Vec}
use Rattle.std.specs.Cmp.{IsTotalOrder}
use Rattle.std.specs.declared.cmp.Ordering.{Ordering}
use Rattle.leveldb_base.proofs.HistoryLemmas.{in_front, in_none, in_rest}
use Rattle.leveldb_base.proofs.NamesLemmas.{made_paths_apart}
use Rattle.leveldb_base.specs.Entries.{internal_pair}
use Rattle.leveldb_base.specs.Error.{IsOutOfMemory}
use Rattle.leveldb_base.specs.History.{AreRising, AreUpTo, Entry, Item, greatest, placed}
use Rattle.leveldb_base.specs.KeyTypes.{greatest_sequence, internal_cmp, user_part}
use Rattle.leveldb_base.specs.Types.{Pair}
use Rattle.leveldb_base.specs.declared.cmp.Cmp.{Ghosts as CmpGhosts}
use Rattle.leveldb_base.specs.declared.error.Status.{Status}
use Rattle.leveldb_base.specs.declared.error.StatusCode.TheVariants.{Corruption, NotSupported}
use Rattle.leveldb_base.specs.declared.types.FileMetaData.{FileMetaData}
use Rattle.leveldb_base.specs.declared.types.FileType.TheVariants.{Table}
use Rattle.leveldb_env.specs.Compressor.{Coding, Decodes, decoded_under}
use Rattle.leveldb_env.specs.Env.{Files}
use Rattle.leveldb_env.specs.declared.env.Env.{Ghosts}
use Rattle.leveldb_env.specs.declared.filter.FilterPolicy.{Ghosts as FilterGhosts}
use Rattle.leveldb_mem.proofs.EntryLemmas.{all_fit, none_fit, placed_from}
use Rattle.leveldb_mem.specs.MemTable.{FailsToPrepare, GrowsByAll, IsUnion, MemTableState, bytes_in, entry_key, memory_of_entries}
use Rattle.leveldb_mem.specs.WriteBatch.{Batch}
use Rattle.leveldb_files.proofs.Stores.LogsLemmas.{all_append, order_append}
use Rattle.leveldb_files.proofs.Stores.ManagedLemmas.{same_bytes, table_on}
use Rattle.leveldb_files.proofs.Histories.NumbersLemmas.{greatest_append, up_to_greatest}
use Rattle.leveldb_files.proofs.Stores.OneStoreLemmas.{flat_in}
use Rattle.leveldb_files.proofs.Stores.StoreTablesLemmas.{held_tables_by_more}
use Rattle.leveldb_files.specs.Stores.Batches.{Each, all_entries, batch_entries}
use Rattle.leveldb_files.specs.Levels.Levels.{LiveTable, table_entries}
use Rattle.leveldb_version_set.specs.Engines.Opening.{IsMadeBefore}
use Rattle.leveldb_files.specs.Stores.Paths.{table_path}
use Rattle.leveldb_files.specs.Stores.Store.{IsInternalPair}
use Rattle.leveldb_files.specs.Steps.StoreSteps.{IsKept}
use Rattle.leveldb_files.specs.Edits.Edit.{NewFile}
use Rattle.leveldb_version_set.specs.Compactions.Inputs.{AreOrdered}
use Rattle.leveldb_version.specs.Edits.VersionEdit.{new_file_of}
use Rattle.leveldb_version_set.specs.Sets.VersionSetValue.{AreFileNumbersUsedUp, VersionSetValue, with_number_given}
use Rattle.leveldb_store.specs.Tables.BuildTable.{IsNotBuilt, MakesTable, TableChoices}
use Rattle.leveldb_files.specs.Stores.Format.{Agrees, Format, IsTableOf, Meaning}
use Rattle.leveldb_store.specs.Logs.FoundLogs.{AreLastEntries, FailsToKeep, FailsToTable}
use Rattle.leveldb_store.specs.Openings.Opening.{IsMadeTable, SameButTables}
use Rattle.leveldb_store.specs.Logs.ReplayLog.{TakesBatch, FailsAtBatch, FailsToBuildRest, Follows, HasReplayed, IsNotFull, MakesRestTable, MakesTablesOnly, TablesRest, TakesNextBatch, table_files}
use Rattle.leveldb_store.specs.Writing.Room.{AreFull}
use Rattle.leveldb_store.specs.declared.opening.replay_log.ReplayedLog.{ReplayedLog}
use Rattle.leveldb_store.specs.Keeping.OpenStore.{AreNumbersGiven}
use Rattle.leveldb_store.proofs.Keeping.GivenNumbersLemmas.{none_given, one_more_given}
use Rattle.leveldb_store.proofs.Keeping.LevelsApartLemmas.{range_in_order}
use Rattle.leveldb_store.proofs.Keeping.OrderedFilesLemmas.{none_ordered, ordered_push}
use Rattle.leveldb_store.proofs.Logs.ReplayFilesLemmas.{GivesNumbers-refl, GivesNumbers-trans, MakesTablesOnly-made, MakesTablesOnly-none, same_store}

-- ---- lists

pub AllPairs-push : {X : Type 0} (R : X → X → Type 0) (xs : List X) (y : X) → AllPairs R xs
    → ((x : X) → Contains xs x → R x y) → AllPairs R (xs ++ y ∷ [])
AllPairs-push R [] y pairs all = λ i j d less within. absurd (omega (arith, less, within))
AllPairs-push R (x ∷ xs) y pairs all =
    AllPairs-cons R x (xs ++ y ∷ [])
    (All-push (R x) xs y (λ k d within. pairs zero (suc k) d (omega arith) (omega (arith, within)))
    (all x (in_front x xs)))
    (AllPairs-push R xs y
    (λ i j d less within. pairs (suc i) (suc j) d (omega (arith, less)) (omega (arith, within)))
    (λ z c. all z (in_rest x z xs c)))

-- ---- the numbers of a batch

-- an error for a batch that doesn't follow
pub corrupt : (P : Type 0) (result : Result (Unit {0}) Status)
    → IsErrAnd result (λ status. status.code ≡ Corruption) → (P → ⊥)
    → IfErr result (λ status. (status.code ≡ Corruption) × (P → ⊥))
corrupt P (Ok value) code never = tt
corrupt P (Err status) code never = (code, never)

pub fits_all : (first : ℕ) (items : List Item) → first ≤ greatest_sequence
    → first + length items ≤ greatest_sequence + 1
    → greatest (placed first items) ≤ greatest_sequence
fits_all first items least fits =
    let below = all_fit first items (omega (arith, least, fits)) in omega (arith, below)

pub fits_not : (first : ℕ) (items : List Item) → first ≤ greatest_sequence
    → greatest_sequence + 1 < first + length items
    → greatest (placed first items) ≤ greatest_sequence → ⊥
fits_not first items least more all =
    let above = none_fit first items (omega (arith, least, more)) in omega (arith, above, all)

greatest_placed : (first : ℕ) (item : Item) (items : List Item)
    → greatest (placed first (item ∷ items)) ≡ first + length items
greatest_placed first item [] = omega arith
greatest_placed first item (next ∷ items) =
    let rest = greatest_placed (first + 1) next items in omega (arith, rest)

last_of_some : (low first : ℕ) (items : List Item) → low < first → 0 < length items
    → first + (length items - 1) ≡ max low (greatest (placed first items))
last_of_some low first [] above some = absurd (omega (arith, some))
last_of_some low first (item ∷ items) above some =
    let is = greatest_placed first item items in omega (arith, is, above)

last_of_none : (low first : ℕ) (items : List Item) → length items ≤ 0
    → low ≡ max low (greatest (placed first items))
last_of_none low first [] none = omega arith
last_of_none low first (item ∷ items) none = absurd (omega (arith, none))

-- ---- a batch is added

length-placed : (first : ℕ) (items : List Item) → length (placed first items) ≡ length items
length-placed first [] = refl
length-placed first (item ∷ items) = ap (λ n. suc n) (length-placed (first + 1) items)

-- room that was taken for a batch is used up by it, where there was none before
pub no_room_left : (before mid after first : ℕ) (items : List Item)
    → mid ≡ max before (length items) → mid ≡ after + length (placed first items) → before ≡ 0
    → after ≡ 0
no_room_left before mid after first items made taken none =
    let same = length-placed first items in omega (arith, made, taken, none, same)

module _ {C : Type 0} (old : ReplayedLog C) (batch : Batch) (rest : MemTableState C)
    (mid : List Entry) (first : ℕ) (follows : Follows old.last batch) (is_first : first ≡ batch.first)
    (same : mid ≡ old.rest.kept.entries)
    (gains : IsUnion mid (placed first batch.items) rest.kept.entries)
    (grows : GrowsByAll mid (placed first batch.items) rest.kept.entries)
    (places : old.rest.kept.places ≡ 0 → rest.kept.places ≡ 0)
    (cmp : rest.cmp ≡ old.rest.cmp) where
  gained : IsUnion old.rest.kept.entries (batch_entries batch) rest.kept.entries
  gained = subst (λ es. IsUnion es (batch_entries batch) rest.kept.entries) same
      (subst (λ n. IsUnion mid (placed n batch.items) rest.kept.entries) is_first gains)

  grown : GrowsByAll old.rest.kept.entries (batch_entries batch) rest.kept.entries
  grown = subst (λ es. GrowsByAll es (batch_entries batch) rest.kept.entries) same
      (subst (λ n. GrowsByAll mid (placed n batch.items) rest.kept.entries) is_first grows)

  pub TakesBatch-some : (last : ℕ) → 0 < length batch.items
      → last ≡ batch.first + (length batch.items - 1)
      → TakesBatch old batch (record old { rest = rest; last = last })
  TakesBatch-some last some is = record {
    gains = gained;
    grows = grown;
    places = places;
    last = is ∙ last_of_some old.last batch.first batch.items follows.above some;
    rest = refl;
    cmp = cmp;
  }

  pub TakesBatch-none : length batch.items ≤ 0 → TakesBatch old batch (record old { rest = rest })
  TakesBatch-none none = record {
    gains = gained;
    grows = grown;
    places = places;
    last = last_of_none old.last batch.first batch.items none;
    rest = refl;
    cmp = cmp;
  }

-- ---- tables

tables_more : (tables : List LiveTable) (table : LiveTable)
    → table_entries (tables ++ table ∷ []) ≡ table_entries tables ++ table.entries
tables_more tables table = flat_map-append (λ (t : LiveTable). t.entries) tables (table ∷ [])
    ∙ ap (λ es. table_entries tables ++ es) (append-nil table.entries)

-- a table that was made stays, since those that are made then have other numbers
pub IsMadeTable-stays : (cmp : List ℕ → List ℕ → Ordering) (meaning : Meaning) (store : List ℕ)
    (set now : VersionSetValue) (before after : Files) (table : LiveTable) → set.store ≡ store
    → table.file.number < set.next_file → SameButTables set now before after
    → IsMadeTable cmp meaning store before table → IsMadeTable cmp meaning store after table
IsMadeTable-stays cmp meaning store set now before after table is_store below same made =
    let path = table_path store table.file.number in
    let still : after path ≡ before path = same path
    (λ n least most fits is.
    let number : table.file.number ≡ n =
    (made_paths_apart store table.file.number n Table Table made.3.number fits
    (is ∙ ap (λ s. table_path s n) is_store)).0 in
    omega (arith, number, below, least)) in (
      table_on store cmp (IsTableOf cmp meaning) before after table
          (same_bytes (before path) (after path) still) made.0,
      made.1,
      subst IsKept (sym still) made.2,
      made.3,
    )

-- ---- batches

pub all_more : (batches : List Batch) (batch : Batch)
    → all_entries (batches ++ batch ∷ []) ≡ all_entries batches ++ batch_entries batch
all_more batches batch = all_append batches (batch ∷ [])
    ∙ ap (λ es. all_entries batches ++ es) (append-nil (batch_entries batch))

-- ---- the entries of the last batches

-- of no batch there is none
pub last_none : (batches : List Batch) (entries : List Entry) → entries ≡ []
    → AreLastEntries batches entries
last_none batches entries none = record {
  front = batches;
  last = [];
  parts = sym (append-nil batches);
  are = subst (λ es. IsUnion [] [] es) (sym none) (λ entry. (λ c. c, λ c. c));
  grows = subst (λ es. GrowsByAll [] [] es) (sym none) (record { count = refl; memory = refl });
}

-- one batch more
pub last_more : (batches : List Batch) (old new : List Entry) (batch : Batch)
    → AreLastEntries batches old → IsUnion old (batch_entries batch) new
    → GrowsByAll old (batch_entries batch) new → AreLastEntries (batches ++ batch ∷ []) new
last_more batches old new batch was gains grows = record {
  front = was.front;
  last = was.last ++ batch ∷ [];
  parts = ap (λ bs. bs ++ batch ∷ []) was.parts ∙ append_assoc was.front was.last (batch ∷ []);
  are = λ entry. (
    λ c. subst (λ es. Contains es entry) (sym (all_more was.last batch)) (⊎_elim
        (λ (before : Contains old entry). Contains-append_left (all_entries was.last)
        (batch_entries batch) entry ((was.are entry).0 before))
        (λ (come : Contains (batch_entries batch) entry). Contains-append_right
        (all_entries was.last) (batch_entries batch) entry come)
        (Contains-append_cases old (batch_entries batch) entry ((gains entry).0 c))),
    λ c. (gains entry).1 (⊎_elim
        (λ (before : Contains (all_entries was.last) entry). Contains-append_left old
        (batch_entries batch) entry ((was.are entry).1 before))
        (λ (come : Contains (batch_entries batch) entry). Contains-append_right old
        (batch_entries batch) entry come)
        (Contains-append_cases (all_entries was.last) (batch_entries batch) entry
        (subst (λ es. Contains es entry) (all_more was.last batch) c))),
  );
  grows = subst (λ es. GrowsByAll [] es new) (sym (all_more was.last batch))
      (record {
        count =
            let long = length-append (all_entries was.last) (batch_entries batch) in
            omega (arith, long, grows.count, was.grows.count);
        memory =
            let long = length-append (all_entries was.last) (batch_entries batch) in
            let size = sum_by-append (λ entry. length (entry_key entry)) (all_entries was.last)
            (batch_entries batch) in
            omega (arith, long, size, grows.memory, was.grows.memory);
      });
}

-- entries of all batches: of none, and with a batch more
pub all_of_none : (entries : List Entry) → entries ≡ [] → IsUnion [] [] entries × GrowsByAll [] [] entries
all_of_none entries none = (
  subst (λ es. IsUnion [] [] es) (sym none) (λ entry. (λ c. c, λ c. c)),
  subst (λ es. GrowsByAll [] [] es) (sym none) (record { count = refl; memory = refl }),
)

pub all_of_more : (batches : List Batch) (old new : List Entry) (batch : Batch)
    → IsUnion [] (all_entries batches) old → GrowsByAll [] (all_entries batches) old
    → IsUnion old (batch_entries batch) new → GrowsByAll old (batch_entries batch) new
    → IsUnion [] (all_entries (batches ++ batch ∷ [])) new
    × GrowsByAll [] (all_entries (batches ++ batch ∷ [])) new
unfolding last_more
all_of_more batches old new batch are all gains grows =
    let more = last_more batches old new batch
    (record { front = []; last = batches; parts = refl; are = are; grows = all }) gains grows in
    (more.are, more.grows)

-- entries are full with others before or after them, if they are by themselves
full_before : (limit : ℕ) (xs ys : List Entry) → AreFull limit xs → AreFull limit (xs ++ ys)
full_before limit xs ys full = (λ none. full.0 (empty xs none), more)
  where
    empty : (zs : List Entry) → zs ++ ys ≡ [] → zs ≡ []
    empty [] none = refl
    empty (z ∷ zs) none = absurd (cc)

    more : limit ≤ memory_of_entries (xs ++ ys)
    more = let long = length-append xs ys in
        let size = sum_by-append (λ entry. length (entry_key entry)) xs ys in
        let least = full.1 in omega (arith, long, size, least)

full_after : (limit : ℕ) (xs ys : List Entry) → AreFull limit ys → AreFull limit (xs ++ ys)
full_after limit xs ys full = (λ none. full.0 (empty xs none), more)
  where
    empty : (zs : List Entry) → zs ++ ys ≡ [] → ys ≡ []
    empty [] none = none
    empty (z ∷ zs) none = absurd (cc)

    more : limit ≤ memory_of_entries (xs ++ ys)
    more = let long = length-append xs ys in
        let size = sum_by-append (λ entry. length (entry_key entry)) xs ys in
        let least = full.1 in omega (arith, long, size, least)

-- so are those of batches, with one more
pub full_more : (limit : ℕ) (batches : List Batch) (batch : Batch)
    → AreFull limit (all_entries batches) → AreFull limit (all_entries (batches ++ batch ∷ []))
full_more limit batches batch full = subst (AreFull limit) (sym (all_more batches batch))
    (full_before limit (all_entries batches) (batch_entries batch) full)

-- and if those of the last batches are
full_of_last : (limit : ℕ) (batches : List Batch) (entries : List Entry)
    → AreLastEntries batches entries → AreFull limit entries → AreFull limit (all_entries batches)
full_of_last limit batches entries are full = subst (λ bs. AreFull limit (all_entries bs))
    (sym are.parts) (subst (AreFull limit) (sym (all_append are.front are.last))
    (full_after limit (all_entries are.front) (all_entries are.last) (some, more)))
  where
    empty : (es : List Entry) → length es ≡ 0 → es ≡ []
    empty [] none = refl
    empty (e ∷ es) none = absurd (omega (arith, none))

    some : all_entries are.last ≡ [] → ⊥
    some none = full.0 (empty entries
        (let count = are.grows.count in let long = ap length none in omega (arith, count, long)))

    more : limit ≤ memory_of_entries (all_entries are.last)
    more = let grows = are.grows.memory in let least = full.1 in omega (arith, grows, least)

-- the memory that counts for them
last_memory : (batches : List Batch) (entries : List Entry) (are : AreLastEntries batches entries)
    → memory_of_entries entries ≡ memory_of_entries (all_entries are.last)
last_memory batches entries are = let grows = are.grows.memory in omega (arith, grows)

-- some entries are of some batch
pub some_last : (batches : List Batch) (entries : List Entry) (are : AreLastEntries batches entries)
    → entries ≢ [] → length are.front + 1 ≤ length batches
some_last batches entries are some = by are.last refl
  where
    empty : (es : List Entry) → length es ≡ 0 → es ≡ []
    empty [] none = refl
    empty (e ∷ es) none = absurd (omega (arith, none))

    by : (last : List Batch) → are.last ≡ last → length are.front + 1 ≤ length batches
    by [] is = absurd (some (empty entries
        (are.grows.count ∙ ap (λ bs. 0 + length (all_entries bs)) is)))
    by (batch ∷ more) is =
        let long = ap length are.parts ∙ length-append are.front are.last in
        let least = ap length is in
        omega (arith, long, least)

module _ {D FP : Type 0} {order : CmpGhosts D} {filters : FilterGhosts FP}
    (choices : TableChoices order filters) (batches : List Batch) (entries : List Entry)
    (are : AreLastEntries batches entries) where
  -- the next batch isn't taken
  pub fails_with : (places : ℕ) (batch : Batch) (status : Status) → places ≡ 0
      → (status.code ≡ NotSupported) × (2 ^ 31 ≤ memory_of_entries entries
      + (64 * (places + length batch.items) + bytes_in batch.items))
      → FailsToKeep choices (batches ++ batch ∷ []) status
  fails_with places batch status none large = inl (record {
    code = large.0;
    front = are.front;
    kept = are.last;
    batch = batch;
    parts = ap (λ bs. bs ++ batch ∷ []) are.parts ∙ append_assoc are.front are.last (batch ∷ []);
    too_large = let same = last_memory batches entries are in let most = large.1 in
        omega (arith, most, same, none);
  })

  -- no table is made of them
  pub fails_of_rest : (first now : ℕ) → now ≤ first + length are.front → entries ≢ []
      → (status : Status)
      → AreFileNumbersUsedUp now status ⊎ IsNotBuilt choices (map internal_pair entries) status
      → FailsToTable choices first batches status
  fails_of_rest first now few some status (inl used) = inl (record {
    code = used.code;
    too_few = let more = some_last batches entries are some in let last = used.last in
        omega (arith, few, more, last);
  })
  fails_of_rest first now few some status (inr not) = inr (inr (entries, are, not))

module _ {E F : Type 0} (env : Ghosts E F) (format : Format) {C : Type 0} where
  -- nothing is replayed yet
  pub HasReplayed-none : (set : VersionSetValue) (last : ℕ) (log : ReplayedLog C) (at : E)
      → log.tables.items ≡ [] → log.rest.kept.entries ≡ [] → log.rest.kept.places ≡ 0
      → log.last ≡ last → HasReplayed env format set last [] log set at
  unfolding last_none
  HasReplayed-none set last log at no_tables none places is = record {
    in_order = tt;
    last_is = omega (arith, is);
    numbers = GivesNumbers-refl set;
    tables = [];
    files_are = sym (ap (map (λ (file : FileMetaData). new_file_of (0, file))) no_tables);
    made_tables = λ modelled meaning agrees. record {
      each = λ table c. absurd (in_none table c);
      numbers = λ table c. absurd (in_none table c);
      rising = λ i j d less within. absurd (omega (arith, within));
    };
    entries = λ entry. (
      λ c. subst (λ es. Contains es entry) none c,
      λ c. absurd (in_none entry c),
    );
    newer = λ a b c d. absurd (in_none a c);
    given = none_given set log no_tables;
    ordered = none_ordered format.order log.tables.items no_tables;
    in_memory = last_none [] log.rest.kept.entries none;
    places = places;
    few = omega arith;
  }

  -- no entry is past the last number
  pub replayed_up_to : {first set : VersionSetValue} {last : ℕ} {batches : List Batch}
      {log : ReplayedLog C} {at : E} → HasReplayed env format first last batches log set at
      → AreUpTo log.last log.rest.kept.entries
  replayed_up_to {batches = batches} {log = log} was entry c =
      let there = (was.entries entry).0
      (Contains-append_right (table_entries was.tables) log.rest.kept.entries entry c) in
      let most = up_to_greatest (all_entries batches) entry there in
      let is = was.last_is in omega (arith, most, is)

  -- one batch more
  pub HasReplayed-added : {first set : VersionSetValue} {last : ℕ} {batches : List Batch}
      {old new : ReplayedLog C} {at : E} → HasReplayed env format first last batches old set at
      → (batch : Batch) → Follows old.last batch → TakesBatch old batch new
      → HasReplayed env format first last (batches ++ batch ∷ []) new set at
  unfolding last_more
  HasReplayed-added {first} {set} {last} {batches} {old} {new} {at} was batch follows adds = record {
    in_order = order_append last old.last batches (batch ∷ []) (omega (arith, was.last_is))
        (omega (arith, was.last_is)) was.in_order
        (follows.above, follows.first_fits, follows.all_fit, tt);
    last_is =
        let both = greatest_append (all_entries batches) (batch_entries batch) in
        let more = ap greatest (all_more batches batch) in
        omega (arith, adds.last, was.last_is, both, more);
    numbers = was.numbers;
    tables = was.tables;
    files_are = was.files_are ∙ sym (ap (λ (log : ReplayedLog C). table_files log) adds.rest);
    made_tables = was.made_tables;
    entries = λ entry. (
      λ c. subst (λ es. Contains es entry) (sym (all_more batches batch)) (⊎_elim
          (λ (tables_made : Contains (table_entries was.tables) entry).
          Contains-append_left (all_entries batches) (batch_entries batch) entry
          ((was.entries entry).0
          (Contains-append_left (table_entries was.tables) old.rest.kept.entries entry tables_made)))
          (λ (rest : Contains new.rest.kept.entries entry). ⊎_elim
          (λ (before : Contains old.rest.kept.entries entry).
          Contains-append_left (all_entries batches) (batch_entries batch) entry
          ((was.entries entry).0
          (Contains-append_right (table_entries was.tables) old.rest.kept.entries entry before)))
          (λ (come : Contains (batch_entries batch) entry).
          Contains-append_right (all_entries batches) (batch_entries batch) entry come)
          (Contains-append_cases old.rest.kept.entries (batch_entries batch) entry
          ((adds.gains entry).0 rest)))
          (Contains-append_cases (table_entries was.tables) new.rest.kept.entries entry c)),
      λ c. ⊎_elim
          (λ (before : Contains (all_entries batches) entry). ⊎_elim
          (λ (tables_made : Contains (table_entries was.tables) entry).
          Contains-append_left (table_entries was.tables) new.rest.kept.entries entry tables_made)
          (λ (rest : Contains old.rest.kept.entries entry).
          Contains-append_right (table_entries was.tables) new.rest.kept.entries entry
          ((adds.gains entry).1
          (Contains-append_left old.rest.kept.entries (batch_entries batch) entry rest)))
          (Contains-append_cases (table_entries was.tables) old.rest.kept.entries entry
          ((was.entries entry).1 before)))
          (λ (come : Contains (batch_entries batch) entry).
          Contains-append_right (table_entries was.tables) new.rest.kept.entries entry
          ((adds.gains entry).1
          (Contains-append_right old.rest.kept.entries (batch_entries batch) entry come)))
          (Contains-append_cases (all_entries batches) (batch_entries batch) entry
          (subst (λ es. Contains es entry) (all_more batches batch) c)),
    );
    newer = λ a b c d. ⊎_elim
        (λ (before : Contains old.rest.kept.entries b). was.newer a b c before)
        (λ (come : Contains (batch_entries batch) b).
        let there = (was.entries a).0
        (Contains-append_left (table_entries was.tables) old.rest.kept.entries a c) in
        let most = up_to_greatest (all_entries batches) a there in
        let least = placed_from batch.first batch.items b come in
        let is = was.last_is in let above = follows.above in
        omega (arith, most, least, is, above))
        (Contains-append_cases old.rest.kept.entries (batch_entries batch) b ((adds.gains b).0 d));
    given = subst (λ (log : ReplayedLog C). AreNumbersGiven set (table_files log)) (sym adds.rest)
        was.given;
    ordered = subst (λ (log : ReplayedLog C). AreOrdered format.order (table_files log))
        (sym adds.rest) was.ordered;
    in_memory = last_more batches old.rest.kept.entries new.rest.kept.entries batch was.in_memory
        adds.gains adds.grows;
    places = adds.places was.places;
    few = was.few;
  }

  -- ---- a table is made

  pub HasReplayed-tables_made : {first set now : VersionSetValue} {last : ℕ} {batches : List Batch}
      {old new : ReplayedLog C} {at to : E} → HasReplayed env format first last batches old set at
      → old.rest.kept.entries ≢ [] → MakesTablesOnly env set at now to
      → TablesRest env format old set new now to
      → HasReplayed env format first last batches new now to
  unfolding last_none
  HasReplayed-tables_made {first} {set} {now} {last} {batches} {old} {new} {at} {to} was some spares made = record {
    in_order = was.in_order;
    last_is = ap (λ (log : ReplayedLog C). log.last) made.rest ∙ was.last_is;
    numbers = GivesNumbers-trans was.numbers spares.numbers;
    tables = was.tables ++ made.table ∷ [];
    files_are = map_push (λ (table : LiveTable). table.file) was.tables made.table
        ∙ ap (λ (files : List NewFile). files ++ made.table.file ∷ []) was.files_are ∙ sym made.files;
    made_tables = λ modelled meaning agrees.
        let before = was.made_tables modelled meaning agrees in
        let store_is = same_store was.numbers in
        let next : now.next_file ≡ set.next_file + 1 =
        ap (λ (v : VersionSetValue). v.next_file) made.given in
        let this : IsMadeTable format.order meaning first.store (env.observed to).disk.files
        made.table = subst (λ s. IsMadeTable format.order meaning s (env.observed to).disk.files
        made.table) store_is (made.made modelled meaning agrees) in
        record {
          each = λ table c. ⊎_elim
              (λ (earlier : Contains was.tables table).
              IsMadeTable-stays format.order meaning first.store set now
              (env.observed at).disk.files (env.observed to).disk.files table store_is
              (before.numbers table earlier).1 (spares.run modelled).has
              (before.each table earlier))
              (λ (e : made.table ≡ table). subst
              (IsMadeTable format.order meaning first.store (env.observed to).disk.files) e this)
              (Contains-push_cases was.tables made.table table c);
          numbers = λ table c. ⊎_elim
              (λ (earlier : Contains was.tables table).
              let n = before.numbers table earlier in
              (n.0, omega (arith, n.1, next)))
              (λ (e : made.table ≡ table).
              let number : table.file.number ≡ set.next_file =
              sym (ap (λ (t : LiveTable). t.file.number) e) ∙ made.number in
              let rises = was.numbers.rises in
              (omega (arith, number, rises), omega (arith, number, next)))
              (Contains-push_cases was.tables made.table table c);
          rising = AllPairs-push IsMadeBefore was.tables made.table before.rising
              (λ table c. record {
                number = let n = before.numbers table c in let is = made.number in
                    omega (arith, n.1, is);
                older = λ a b in_a in_b same. was.newer a b
                    (flat_in (λ (t : LiveTable). t.entries) was.tables table a c in_a)
                    (subst (λ es. Contains es b) made.entries in_b);
              });
        };
    entries = subst
        (λ es. (entry : Entry) → Contains es entry ↔ Contains (all_entries batches) entry)
        (sym (ap (λ es. table_entries (was.tables ++ made.table ∷ []) ++ es) made.none_left
        ∙ append-nil (table_entries (was.tables ++ made.table ∷ []))
        ∙ tables_more was.tables made.table
        ∙ ap (λ es. table_entries was.tables ++ es) made.entries))
        was.entries;
    newer = λ a b c d. absurd (in_none b (subst (λ es. Contains es b) made.none_left d));
    given = one_more_given env format old set new now to made was.given;
    ordered = subst (AreOrdered format.order) (sym made.files)
        (ordered_push format.order (table_files old) made.table.file made.ordered was.ordered);
    in_memory = last_none batches new.rest.kept.entries made.none_left;
    places = made.places;
    few =
        let next : now.next_file ≡ set.next_file + 1 =
        ap (λ (v : VersionSetValue). v.next_file) made.given in
        let more = some_last batches old.rest.kept.entries was.in_memory some in
        let few = was.few in
        omega (arith, next, more, few);
  }

-- ---- a table of the entries in memory

-- what the compressors of a format decode, those of the files do
decodes_more : (format : Format) (meaning : Meaning) → Agrees format meaning → (id : ℕ)
    (stored text : List ℕ) → Decodes format.codings id stored text
    → Decodes meaning.codings id stored text
decodes_more format meaning agrees id stored text decodes = by (format.codings id) refl decodes
  where
    by : (o : Option Coding) → format.codings id ≡ o → decoded_under o stored ≡ Some text
        → Decodes meaning.codings id stored text
    by None e d = absurd (let never : None ≡ Some text = d in cc)
    by (Some coding) e d = subst (λ o. decoded_under o stored ≡ Some text)
        (sym (agrees.codings id coding e)) d

module _ {E F D FP C : Type 0} (env : Ghosts E F) {order : CmpGhosts D} {filters : FilterGhosts FP}
    (choices : TableChoices order filters) (old : ReplayedLog C) (set : VersionSetValue) where
  abbrev pairs : List Pair
  pairs = map internal_pair old.rest.kept.entries

  -- the numbers of files are used up
  pub MakesRestTable-unnumbered : (at : E) (status : Status) → AreFileNumbersUsedUp set.next_file status
      → (new : ReplayedLog C) → MakesRestTable env choices old set at (Err status) new set at
  MakesRestTable-unnumbered at status used new = record {
    spares = MakesTablesOnly-none env set at;
    ok = tt;
    cause = record {
      later = omega arith;
      ok = tt;
      uncounted = λ excused. refl;
      cause = inl (inr (inl used, refl));
    };
  }

  module _ (fits : set.next_file + 1 < 2 ^ 64) {from to : E} (store : List ℕ) (number : ℕ)
      (is_store : store ≡ set.store) (is_number : number ≡ set.next_file) where
    made_only : {result : Result FileMetaData Status}
        → MakesTable choices pairs env (λ status. ⊥) store number from result to
        → MakesTablesOnly env set from (with_number_given set) to
    made_only {result} makes =
        let here : MakesTable choices pairs env (λ status. ⊥) set.store set.next_file from result to =
        subst (λ s. MakesTable choices pairs env (λ status. ⊥) s set.next_file from result to) is_store
        (subst (λ n. MakesTable choices pairs env (λ status. ⊥) store n from result to) is_number
        makes) in
        MakesTablesOnly-made env set fits here.run here.bytes here.locks

    -- no table was built, or the device failed
    pub MakesRestTable-unbuilt : (status : Status)
        → MakesTable choices pairs env (λ status. ⊥) store number from (Err status) to
        → (new : ReplayedLog C)
        → MakesRestTable env choices old set from (Err status) new (with_number_given set) to
    MakesRestTable-unbuilt status makes new = record {
      spares = made_only makes;
      ok = tt;
      cause = record {
        later = makes.cause.later;
        ok = tt;
        uncounted = λ excused. ⊎_elim (λ (memory : IsOutOfMemory status).
            makes.cause.uncounted (inl memory)) (λ other. other.1) excused;
        cause = ⊎_elim
            (λ excused. ⊎_elim (λ (memory : IsOutOfMemory status). inl (inl memory))
            (λ other. inl (inr (
              inr (⊎_elim (λ not. not) (λ never. absurd never) other.0),
              other.1,
            ))) excused)
            (λ counted. inr counted) makes.cause.cause;
      };
    }

    -- there was no memory for one file more in the list
    pub MakesRestTable-unlisted : (file : FileMetaData) (status : Status)
        → MakesTable choices pairs env (λ status. ⊥) store number from (Ok file) to
        → IsOutOfMemory status → (new : ReplayedLog C)
        → MakesRestTable env choices old set from (Err status) new (with_number_given set) to
    MakesRestTable-unlisted file status makes memory new = record {
      spares = made_only makes;
      ok = tt;
      cause = record {
        later = makes.cause.later;
        ok = tt;
        uncounted = λ excused. makes.cause.ok;
        cause = inl (inl memory);
      };
    }

    -- the table is there
    module _ (file : FileMetaData)
        (makes : MakesTable choices pairs env (λ status. ⊥) store number from (Ok file) to)
        (some : old.rest.kept.entries ≢ [])
        (each : Each IsInternalPair pairs old.rest.kept.entries) where
      some_pairs : pairs ≢ []
      some_pairs = by old.rest.kept.entries some
        where
          by : (entries : List Entry) → entries ≢ [] → map internal_pair entries ≢ []
          by [] some is = some refl
          by (entry ∷ entries) some is = cc

      abbrev table : LiveTable
      table = record { file = new_file_of (0, file); entries = old.rest.kept.entries }

      is_made : IsTrue env.models_disk → (meaning : Meaning) → Agrees choices.format meaning
          → IsMadeTable choices.format.order meaning store (env.observed to).disk.files table
      is_made modelled meaning agrees =
          let held = makes.has some_pairs modelled meaning.filters 0 old.rest.kept.entries
          (subst
          (λ known. IfSome known (λ found. found ≡ (λ key. choices.format.matches (user_part key))))
          (sym agrees.filters) refl) each in (
            held_tables_by_more (Decodes choices.format.codings) (Decodes meaning.codings)
                (decodes_more choices.format meaning agrees) store choices.format.order
                meaning.filters (env.observed to).disk.files table held,
            refl,
            subst IsKept (sym ((makes.made some_pairs).kept modelled)) refl,
            makes.fits 0,
          )

      pub MakesRestTable-done : (tables : Vec FileMetaData) (rest : MemTableState C)
          → tables.items ≡ old.tables.items ++ file ∷ [] → rest.kept.entries ≡ []
          → rest.kept.places ≡ 0 → rest.cmp ≡ old.rest.cmp → IsTotalOrder choices.format.order
          → AreRising (internal_cmp choices.format.order) pairs
          → MakesRestTable env choices old set from (Ok tt)
          (record old { tables = tables; rest = rest }) (with_number_given set) to
      MakesRestTable-done tables rest items none places cmp total rising = record {
        spares = made_only makes;
        ok = record {
          table = table;
          number = makes.number_is.0 ∙ is_number;
          given = refl;
          ordered =
              let made = makes.made some_pairs in
              range_in_order choices.format.order total pairs rising file.smallest file.largest
              made.smallest made.largest;
          made = λ modelled meaning agrees. subst (λ s. IsMadeTable choices.format.order meaning s
              (env.observed to).disk.files table) is_store (is_made modelled meaning agrees);
          entries = refl;
          files = ap (map (λ (f : FileMetaData). new_file_of (0, f))) items
              ∙ map_push (λ (f : FileMetaData). new_file_of (0, f)) old.tables.items file;
          none_left = none;
          places = places;
          rest = refl;
          cmp = cmp;
        };
        cause = record { later = makes.cause.later; ok = makes.cause.ok; uncounted = tt; cause = tt };
      }

-- ---- a record is taken

pub none_of_length : {X : Type 0} (xs : List X) → length xs ≤ 0 → xs ≡ []
none_of_length [] none = refl
none_of_length (x ∷ xs) none = absurd (omega (arith, none))

module _ {E F D FP C : Type 0} (env : Ghosts E F) {order : CmpGhosts D} {filters : FilterGhosts FP}
    (choices : TableChoices order filters) (limit : ℕ) (batch : Batch) (old : ReplayedLog C)
    (set : VersionSetValue) where
  -- before a table is made
  pub TakesNextBatch-refused : (at : E) (status : Status)
      → IsOutOfMemory status ⊎ (FailsAtBatch env choices batch old set at status
      ⊎ ((status.code ≡ Corruption) × (Follows old.last batch → ⊥))) → (new : ReplayedLog C)
      → TakesNextBatch env choices limit batch old set at (Err status) new set at
  TakesNextBatch-refused at status why new = record {
    spares = MakesTablesOnly-none env set at;
    ok = tt;
    room = tt;
    cmp = tt;
    size = tt;
    bad = tt;
    cause = record {
      later = omega arith;
      ok = tt;
      uncounted = λ excused. refl;
      cause = inl (⊎_elim (λ memory. inl memory) (λ other. inr (other, refl)) why);
    };
  }

  -- a batch is too large for the memtable
  pub fails_to_add : (at : E) (status : Status)
      → FailsToPrepare old.rest.kept (length batch.items) (bytes_in batch.items) status
      → IsOutOfMemory status ⊎ (FailsAtBatch env choices batch old set at status
      ⊎ ((status.code ≡ Corruption) × (Follows old.last batch → ⊥)))
  fails_to_add at status (inl large) = inr (inl (λ first last batches was.
      inr (fails_with choices batches old.rest.kept.entries was.in_memory old.rest.kept.places batch
      status was.places large)))
  fails_to_add at status (inr memory) = inl memory

  module _ (follows : Follows old.last batch) (mid : ReplayedLog C) (adds : TakesBatch old batch mid) where
    -- no table is made
    pub TakesNextBatch-added : (at : E) → IsNotFull limit mid
        → TakesNextBatch env choices limit batch old set at (Ok tt) mid set at
    TakesNextBatch-added at room = record {
      spares = MakesTablesOnly-none env set at;
      ok = λ first last batches was. (
        HasReplayed-added env choices.format was batch follows adds,
        inl (ap (λ (log : ReplayedLog C). log.tables.items) adds.rest),
      );
      room = room;
      cmp = adds.cmp;
      size = ap (λ (log : ReplayedLog C). log.size) adds.rest;
      bad = ap (λ (log : ReplayedLog C). log.is_clean) adds.rest;
      cause = record { later = omega arith; ok = refl; uncounted = tt; cause = tt };
    }

    -- none can be made
    fails_to_make : mid.rest.kept.entries ≢ [] → (at : E) (status : Status)
        → FailsToBuildRest env choices mid set status
        → FailsAtBatch env choices batch old set at status
    fails_to_make some at status why = λ first last batches was.
        let added = HasReplayed-added env choices.format was batch follows adds in
        fails_of_rest choices (batches ++ batch ∷ []) mid.rest.kept.entries added.in_memory
        first.next_file set.next_file added.few some status why

    -- one is made, or an error comes of it
    pub TakesNextBatch-tables_made : mid.rest.kept.entries ≢ []
        → limit ≤ memory_of_entries mid.rest.kept.entries → {from to : E} {new : ReplayedLog C}
        {now : VersionSetValue} (result : Result (Unit {0}) Status)
        → MakesRestTable env choices mid set from result new now to
        → TakesNextBatch env choices limit batch old set from result new now to
    TakesNextBatch-tables_made some full {new = new} (Ok done) makes = record {
      spares = makes.spares;
      ok = λ first last batches was. (
        HasReplayed-tables_made env choices.format
            (HasReplayed-added env choices.format was batch follows adds) some makes.spares makes.ok,
        inr (full_of_last limit (batches ++ batch ∷ []) mid.rest.kept.entries
            (HasReplayed-added env choices.format was batch follows adds).in_memory (some, full)),
      );
      room = inl makes.ok.none_left;
      cmp = makes.ok.cmp ∙ adds.cmp;
      size = ap (λ (log : ReplayedLog C). log.size) makes.ok.rest
          ∙ ap (λ (log : ReplayedLog C). log.size) adds.rest;
      bad = ap (λ (log : ReplayedLog C). log.is_clean) makes.ok.rest
          ∙ ap (λ (log : ReplayedLog C). log.is_clean) adds.rest;
      cause = record {
        later = makes.cause.later;
        ok = makes.cause.ok;
        uncounted = tt;
        cause = tt;
      };
    }
    TakesNextBatch-tables_made some full {from = from} (Err status) makes = record {
      spares = makes.spares;
      ok = tt;
      room = tt;
      cmp = tt;
      size = tt;
      bad = tt;
      cause = record {
        later = makes.cause.later;
        ok = tt;
        uncounted = λ excused. ⊎_elim
            (λ (memory : IsOutOfMemory status). makes.cause.uncounted (inl memory))
            (λ other. other.1) excused;
        cause = ⊎_elim
            (λ excused. inl (⊎_elim (λ (memory : IsOutOfMemory status). inl memory)
            (λ other. inr (inl (fails_to_make some from status other.0), other.1)) excused))
            (λ counted. inr counted) makes.cause.cause;
      };
    }
