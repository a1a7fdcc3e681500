-- What is found stays while a repair is made and after a crash, if no cut table is readable; and of
-- a store with no other file it is its contents.
use Rattle.leveldb_base.proofs.HistoryLemmas.{in_cases, in_front, in_none, in_rest, same_sets}
use Rattle.leveldb_base.proofs.NamesLemmas.{made_name}
use Rattle.leveldb_base.specs.History.{Entry, greatest}
use Rattle.leveldb_base.specs.KeyTypes.{greatest_sequence, internal_cmp, user_part}
use Rattle.leveldb_base.specs.Names.{IsFileName, file_name}
use Rattle.leveldb_base.specs.Types.{Pair}
use Rattle.leveldb_base.specs.declared.types.FileType.TheVariants.{Current, DBLock, Descriptor, Log, Table, Temp}
use Rattle.leveldb_env.specs.Compressor.{Decodes}
use Rattle.leveldb_env.specs.Env.{File, FileCrashesTo, Files, FilesCrashTo, bytes_of, in_folder}
use Rattle.leveldb_mem.specs.Log.{IsLogFile}
use Rattle.leveldb_mem.specs.WriteBatch.{Batch}
use Rattle.leveldb_table.proofs.TableReaderLemmas.{decodes_one, one_table}
use Rattle.leveldb_table.specs.Table.{FiltersHold, Part}
use Rattle.leveldb_files.proofs.Stores.BatchesLemmas.{each_one}
use Rattle.leveldb_version_set.proofs.Repairs.FoundLemmas.{Has, found_in, one_found_log, one_found_set, one_readable}
use Rattle.leveldb_files.proofs.Stores.KeptLemmas.{kept_left}
use Rattle.leveldb_files.proofs.Stores.ManagedLemmas.{SameBytes, kinds_apart, numbers_apart, same_bytes}
use Rattle.leveldb_files.proofs.Stores.OneStoreLemmas.{flat_in, in_flat, one_entry}
use Rattle.leveldb_version_set.proofs.Repairs.RepairingKeepsLemmas.{manifest_fits, same_log, still_there}
use Rattle.leveldb_files.proofs.Histories.SafeLemmas.{some_is}
use Rattle.leveldb_files.proofs.Levels.TablesLemmas.{one_store_table}
use Rattle.leveldb_files.specs.Stores.Batches.{AreInOrder, Each, IsRecordOf, all_entries, batch_entries}
use Rattle.leveldb_files.specs.Stores.Contents.{Contents}
use Rattle.leveldb_files.specs.Stores.Format.{IsTableOf, Meaning}
use Rattle.leveldb_version_set.specs.Repairs.Found.{AreFound, IsAnyTable, IsFound, IsFoundLog, IsNumberedBatch, IsReadable, LogHas, TableHas}
use Rattle.leveldb_files.specs.Levels.Levels.{LiveTable, table_entries}
use Rattle.leveldb_files.specs.Stores.Paths.{current_path, log_path, table_path}
use Rattle.leveldb_version_set.specs.Repairs.Repairing.{FiltersAreIgnored, FoundShowsTheSame, HasNoOtherFile, IsAmidRepair, MeantHaveFound, NoCutTableIsReadable, SameFound, StoresAreFound, TablesAreReadable}
use Rattle.leveldb_files.specs.Stores.Store.{IsInternalPair, IsLog, IsManaged, IsManagedBy, OneTableReading, ReplayedLog, log_batches, log_entries}
use Rattle.leveldb_files.specs.Steps.StoreSteps.{IsKept}
use Rattle.leveldb_files.specs.Edits.Edit.{NewFile}
use Rattle.leveldb_files.specs.Edits.VersionSet.{live_after}
use Rattle.std.proofs.Common.{◌+◌, ◌<◌, ◌^◌, ◌∙◌, ◌∷◌, ◌≡◌, ◌≤◌, ◌⊎◌, Bool, List, None, Some, [], ap, append-nil, arith, false, inl, inr, max, refl, subst, sym, true, ℕ, ⊎_elim}
use Rattle.std.proofs.lemmas.Bool.{cases_lt}
use Rattle.std.proofs.lemmas.List.Elements.{Contains-append_cases, Contains-append_left, Contains-append_right}
use Rattle.std.specs.Cmp.Lexicographic.{bytes_decides}
use Rattle.std.specs.List.{AllByRecursion}
use Rattle.std.specs.Prelude.{◌≢◌, Contains}
use Rattle.std.specs.Str.{bytes_eq}
use Rattle.std.specs.declared.cmp.Ordering.{Ordering}

-- ---- new tables

module _ (store : List ℕ) (first next : ℕ) where
  -- the path of a new table
  pub record IsNewTable (path : List ℕ) : Type 0 where
    pub number : ℕ
    pub from : first ≤ number
    pub below : number < next
    pub is : table_path store number ≡ path

  -- no new table has the path
  abbrev pub IsNoNewTable : List ℕ → Type 0
  IsNoNewTable path = (n : ℕ) → first ≤ n → n < next → bytes_eq (table_path store n) path ≡ false

  module _ (fits : next < 2 ^ 64) (name : List ℕ) (k : ℕ) (is : IsFileName name k Table) where
    abbrev path : List ℕ
    path = in_folder store name

    apart_unless : (n : ℕ) → n < next → (n ≡ k → bytes_eq (table_path store n) path ≡ false)
        → bytes_eq (table_path store n) path ≡ false
    apart_unless n below same = ⊎_elim
        (λ (less : n < k). differ (λ e. omega (arith, less, e)))
        (λ (more : k ≤ n). ⊎_elim
        (λ (greater : k < n). differ (λ e. omega (arith, greater, e)))
        (λ (most : n ≤ k). same (omega (arith, more, most)))
        (cases_lt k n))
        (cases_lt n k)
      where
        differ : n ≢ k → bytes_eq (table_path store n) path ≡ false
        differ other = numbers_apart store (file_name Table n) name n k Table Table
            (made_name Table n (omega (arith, below, fits))) is other

    by_path : (b : Bool) → bytes_eq (table_path store k) path ≡ b → (k < first) ⊎ (first ≤ k)
        → (k < next) ⊎ (next ≤ k) → IsNewTable path ⊎ IsNoNewTable path
    by_path false e low high = inr (λ n from below. apart_unless n below
        (λ same. subst (λ m. bytes_eq (table_path store m) path ≡ false) (sym same) e))
    by_path true e (inl low) high = inr (λ n from below. apart_unless n below
        (λ same. absurd (omega (arith, low, from, same))))
    by_path true e (inr low) (inr high) = inr (λ n from below. apart_unless n below
        (λ same. absurd (omega (arith, high, below, same))))
    by_path true e (inr low) (inl high) = inl (record {
      number = k;
      from = low;
      below = high;
      is = (bytes_decides (table_path store k) path).0 e;
    })

    pub new_or_not : IsNewTable path ⊎ IsNoNewTable path
    new_or_not = by_path (bytes_eq (table_path store k) path) refl (cases_lt k first)
        (cases_lt k next)

-- ---- while a repair is made

module _ (store : List ℕ) (IsTableOf : List ℕ → List Pair → Type 0) (taken next : ℕ)
    (old now : Files) (r : IsAmidRepair store taken next old now) where
  abbrev manifest : ℕ
  manifest = taken + 1

  abbrev first : ℕ
  first = taken + 2

  -- `CURRENT` is no table and no log
  no_current : (name : List ℕ) (file : File) (entry : Entry) → Has store IsTableOf name file entry
      → bytes_eq (current_path store) (in_folder store name) ≡ false
  no_current name file entry (inl table) =
      kinds_apart store (file_name Current 0) name 0 table.0 Current Table
      (made_name Current 0 refl) table.1 (λ d. cc)
  no_current name file entry (inr log) =
      kinds_apart store (file_name Current 0) name 0 log.0 Current Log
      (made_name Current 0 refl) log.1 (λ d. cc)

  -- a table that isn't new is as it was
  old_table : (name : List ℕ) (k : ℕ) → IsFileName name k Table
      → IsNoNewTable store first next (in_folder store name)
      → now (in_folder store name) ≡ old (in_folder store name)
  old_table name k is none = r.others (in_folder store name) none
      (kinds_apart store (file_name Descriptor manifest) name manifest k Descriptor Table
      (made_name Descriptor manifest (manifest_fits store taken next old now r)) is (λ d. cc))
      (kinds_apart store (file_name Temp manifest) name manifest k Temp Table
      (made_name Temp manifest (manifest_fits store taken next old now r)) is (λ d. cc))
      (kinds_apart store (file_name Current 0) name 0 k Current Table (made_name Current 0 refl) is
      (λ d. cc))
      (kinds_apart store (file_name DBLock 0) name 0 k DBLock Table (made_name DBLock 0 refl) is
      (λ d. cc))

  -- other files in which all that is as it was has the same bytes, and no cut table is readable
  module _ (meant : ℕ → List ℕ) (have : MeantHaveFound store IsTableOf first next meant old)
      (other : Files)
      (same : (path : List ℕ) → now path ≡ old path → SameBytes (old path) (other path))
      (whole : NoCutTableIsReadable store IsTableOf first next meant other) where
    found_then : (entry : Entry) → IsFound store IsTableOf old entry
        → IsFound store IsTableOf other entry
    found_then entry is =
        let path = in_folder store is.0 in
        let e = still_there store taken next old now r path is.1 is.2
        (no_current is.0 is.1 entry is.3) in
        found_in store IsTableOf old other is.0 is.1 entry is.2 (same path e) is.3

    found_before : (entry : Entry) → IsFound store IsTableOf other entry
        → IsFound store IsTableOf old entry
    found_before entry (name, file, there, inr log) =
        found_in store IsTableOf other old name file entry there
        (sym (same (in_folder store name)
        (same_log store taken next old now r name log.0 log.1))) (inr log)
    found_before entry (name, file, there, inl table) = ⊎_elim
        (λ (new : IsNewTable store first next (in_folder store name)).
        let bytes = whole new.number file table.2 new.from new.below (ap other new.is ∙ there)
        table.3 in
        have new.number table.2 entry new.from new.below
        (subst (λ b. IsReadable IsTableOf b table.2) bytes table.3) table.4)
        (λ (none : IsNoNewTable store first next (in_folder store name)).
        found_in store IsTableOf other old name file entry there
        (sym (same (in_folder store name) (old_table name table.0 table.1 none))) (inl table))
        (new_or_not store first next r.fits name table.0 table.1)

    found_other : SameFound store IsTableOf old other
    found_other entry = (found_then entry, found_before entry)

  pub found_stays : (meant : ℕ → List ℕ) → MeantHaveFound store IsTableOf first next meant old
      → NoCutTableIsReadable store IsTableOf first next meant now
      → SameFound store IsTableOf old now
  found_stays meant have = found_other meant have now (λ path e. same_bytes (old path) (now path) e)

  -- after a crash
  pub crash_leaves_found : (meant : ℕ → List ℕ) (left : Files)
      → MeantHaveFound store IsTableOf first next meant old
      → ((path : List ℕ) → IsKept (old path)) → FilesCrashTo now left
      → NoCutTableIsReadable store IsTableOf first next meant left
      → SameFound store IsTableOf old left
  crash_leaves_found meant left have kept leaves = found_other meant have left
      (λ path e. kept_left (old path) (left path) (kept path)
      (subst (λ f. FileCrashesTo f (left path)) e (leaves path)))

-- ---- batches with numbers

-- the batch's numbers are those that entries may have
abbrev HasNumbersFrom1 : Batch → Type 0
HasNumbersFrom1 batch = (0 < batch.first) × (batch.first ≤ greatest_sequence)
    × (greatest (batch_entries batch) ≤ greatest_sequence)

in_order : (low : ℕ) (batches : List Batch) → AreInOrder low batches → (batch : Batch)
    → Contains batches batch → HasNumbersFrom1 batch
in_order low [] are batch c = absurd (in_none batch c)
in_order low (first ∷ batches) are batch c = ⊎_elim
    (λ (e : first ≡ batch).
    let low_is = are.0 in
    subst HasNumbersFrom1 e ((omega (arith, low_is)), are.1, are.2))
    (λ (rest : Contains batches batch). in_order (max low (greatest (batch_entries first))) batches
    are.3 batch rest)
    (in_cases first batch batches c)

each_numbered : (records : List (List ℕ)) (batches : List Batch) → Each IsRecordOf records batches
    → ((batch : Batch) → Contains batches batch → HasNumbersFrom1 batch)
    → Each IsNumberedBatch records batches
each_numbered [] [] each all = tt
each_numbered (text ∷ records) (batch ∷ batches) each all =
    let here = all batch (in_front batch batches) in (
      record {
        record_is = each.0;
        from_one = here.0;
        first_fits = here.1;
        fits = here.2;
      },
      each_numbered records batches each.1 (λ b c. all b (in_rest batch b batches c)),
    )
each_numbered [] (batch ∷ batches) each all = absurd each
each_numbered (text ∷ records) [] each all = absurd each

-- a whole log is read to its end
whole_log : (file : File) (log : ReplayedLog) → IsLog file log
    → ((batch : Batch) → Contains log.batches batch → HasNumbersFrom1 batch)
    → IsFoundLog (bytes_of file) log.batches
whole_log file log is all = record {
  front = is.records;
  rest = [];
  end = log.end;
  read = subst (λ rs. IsLogFile (bytes_of file) rs log.end) (sym (append-nil is.records)) is.read;
  each = each_numbered is.records log.batches is.each all;
  stops = tt;
}

-- ---- tables whatever their filters are

-- the bytes of tables are tables of the same pairs where their filters aren't looked at, and of no
-- other ones
pub record IgnoresFilters (IsTable IsAnyTableOf : List ℕ → List Pair → Type 0) : Type 0 where
  pub same : (bytes : List ℕ) (pairs : List Pair) → IsTable bytes pairs → IsAnyTableOf bytes pairs
  pub one : OneTableReading IsAnyTableOf

no_filters : (file : List ℕ) (parts : List Part) (metas : List Pair)
    → AllByRecursion (FiltersHold (λ name. None) user_part file parts) metas
no_filters file parts [] = tt
no_filters file parts (meta ∷ metas) = (λ policy is. tt, no_filters file parts metas)

module _ (cmp : List ℕ → List ℕ → Ordering) (meaning : Meaning) where
  pub ignoring : IgnoresFilters (IsTableOf cmp meaning) (IsAnyTable cmp meaning)
  ignoring = record {
    same = λ bytes pairs table. record {
      parts = table.parts;
      metas = table.metas;
      meta = table.meta;
      index = table.index;
      tabled = table.tabled;
      accepted = table.accepted;
      sorted = table.sorted;
      pairs_are = table.pairs_are;
      filters = no_filters bytes table.parts table.metas;
    };
    one = one_store_table (Decodes meaning.codings) cmp (λ name. None)
        (decodes_one meaning.codings) (one_table (Decodes meaning.codings) (internal_cmp cmp));
  }

  pub one_readable_table : (bytes : List ℕ) (these those : List Entry)
      → IsReadable (IsAnyTable cmp meaning) bytes these
      → IsReadable (IsAnyTable cmp meaning) bytes those → these ≡ those
  one_readable_table = one_readable (IsAnyTable cmp meaning) ignoring.one

pub filters_are_ignored : FiltersAreIgnored
filters_are_ignored cmp meaning bytes pairs others table = (
  λ any. (ignoring cmp meaning).one bytes others pairs any
      ((ignoring cmp meaning).same bytes pairs table),
  λ same. subst (IsAnyTable cmp meaning bytes) (sym same)
      ((ignoring cmp meaning).same bytes pairs table),
)

pub table_is_readable : (store : List ℕ) → TablesAreReadable store
table_is_readable store cmp meaning files table h entries =
    let any = (ignoring cmp meaning).same (bytes_of h.file) h.pairs h.read in (
      λ read.
          let pairs = (ignoring cmp meaning).one (bytes_of h.file) read.pairs h.pairs read.read any
          in
          let same : entries ≡ table.entries = each_one IsInternalPair one_entry h.pairs entries
          table.entries (subst (λ ps. Each IsInternalPair ps entries) pairs read.each) h.each in (
            same,
            λ entry c. read.numbered entry (subst (λ es. Contains es entry) (sym same) c),
          ),
      λ both. subst (IsReadable (IsAnyTable cmp meaning) (bytes_of h.file)) (sym both.0) (record {
        pairs = h.pairs;
        read = any;
        each = h.each;
        numbered = both.1;
      }),
    )

-- ---- a store

module _ (store : List ℕ) (cmp : List ℕ → List ℕ → Ordering)
    (IsTable IsAnyTableOf : List ℕ → List Pair → Type 0)
    (ignores : IgnoresFilters IsTable IsAnyTableOf) (files : Files) (contents : Contents)
    (m : IsManaged store cmp IsTable files contents)
    (alone : HasNoOtherFile store (live_after m.edits) files) where
  abbrev by : IsManagedBy store cmp IsTable files m.edits contents
  by = m.managed

  there_is : {file : File} (path : List ℕ) → files path ≡ Some file → files path ≢ None
  there_is {file} path there none = let never : Some file ≡ None = sym there ∙ none in cc

  -- ---- its tables

  readable : (table : LiveTable) (c : Contains by.tables table)
      → IsReadable IsAnyTableOf (bytes_of (by.has_tables.each table c).0.file) table.entries
  readable table c = let h = (by.has_tables.each table c).0 in record {
    pairs = h.pairs;
    read = ignores.same (bytes_of h.file) h.pairs h.read;
    each = h.each;
    numbered = λ entry there.
        (by.fit.numbered entry
        (flat_in (λ (t : LiveTable). t.entries) by.tables table entry c there)).0;
  }

  of_table : (entry : Entry) → Contains (table_entries by.tables) entry
      → IsFound store IsAnyTableOf files entry
  of_table entry c =
      let t = in_flat (λ (table : LiveTable). table.entries) by.tables entry c in
      let h = by.has_tables.each t.0 t.1 in
      let n = t.0.file.number in (
        file_name Table n,
        h.0.file,
        h.0.there,
        inl (n, made_name Table n h.2, t.0.entries, readable t.0 t.1, t.2),
      )

  in_table : (name : List ℕ) (file : File) (entry : Entry)
      → files (in_folder store name) ≡ Some file
      → TableHas store IsAnyTableOf name (bytes_of file) entry
      → Contains (table_entries by.tables) entry
  in_table name file entry there table =
      let live = alone.tables name table.0 table.1 (there_is (in_folder store name) there) in
      let t = by.has_tables.all live.0 live.1 in
      let h = (by.has_tables.each t.0 t.1).0 in
      let same = some_is file h.file
      (sym there ∙ ap (λ z. files (in_folder store z)) live.2
      ∙ ap (λ (f : NewFile). files (table_path store f.number)) (sym t.2) ∙ h.there) in
      let entries = one_readable IsAnyTableOf ignores.one (bytes_of h.file) table.2 t.0.entries
      (subst (λ f. IsReadable IsAnyTableOf (bytes_of f) table.2) same table.3)
      (readable t.0 t.1) in
      flat_in (λ (one : LiveTable). one.entries) by.tables t.0 entry t.1
      (subst (λ es. Contains es entry) entries table.4)

  -- ---- its logs

  log_found : (log : ReplayedLog) (c : Contains by.logs log)
      → IsFoundLog (bytes_of (by.has_logs.each log c).0.0) log.batches
  log_found log c = let h = (by.has_logs.each log c).0 in
      whole_log h.0 log h.2
      (λ batch there. in_order 0 (log_batches by.logs) by.fit.rise batch
      (flat_in (λ (l : ReplayedLog). l.batches) by.logs log batch c there))

  of_log : (entry : Entry) → Contains (log_entries by.logs) entry
      → IsFound store IsAnyTableOf files entry
  of_log entry c =
      let b = in_flat batch_entries (log_batches by.logs) entry c in
      let l = in_flat (λ (log : ReplayedLog). log.batches) by.logs b.0 b.1 in
      let h = by.has_logs.each l.0 l.1 in
      let n = l.0.number in (
        file_name Log n,
        h.0.0,
        h.0.1,
        inr (
          n,
          made_name Log n h.2,
          l.0.batches,
          log_found l.0 l.1,
          flat_in batch_entries l.0.batches b.0 entry l.2 b.2,
        ),
      )

  in_log : (name : List ℕ) (file : File) (entry : Entry)
      → files (in_folder store name) ≡ Some file
      → LogHas name (bytes_of file) entry
      → Contains (log_entries by.logs) entry
  in_log name file entry there log =
      let some = there_is (in_folder store name) there in
      let u = by.has_logs.all name log.0 log.1 (alone.logs name log.0 log.1 some) some in
      let one = u.1.0 in
      let h = (by.has_logs.each one u.1.1).0 in
      let same = some_is file h.0
      (sym there ∙ ap (λ z. files (in_folder store z)) u.0
      ∙ ap (λ n. files (log_path store n)) (sym u.1.2) ∙ h.1) in
      let batches = one_found_log (bytes_of h.0) log.2 one.batches
      (subst (λ f. IsFoundLog (bytes_of f) log.2) same log.3) (log_found one u.1.1) in
      let b = in_flat batch_entries one.batches entry
      (subst (λ bs. Contains (all_entries bs) entry) batches log.4) in
      flat_in batch_entries (log_batches by.logs) b.0 entry
      (flat_in (λ (l : ReplayedLog). l.batches) by.logs one b.0 u.1.1 b.1) b.2

  -- ---- all of it

  contents_found : (entry : Entry) → Contains contents.entries entry
      → IsFound store IsAnyTableOf files entry
  contents_found entry c = ⊎_elim (of_table entry) (of_log entry)
      (Contains-append_cases (table_entries by.tables) (log_entries by.logs) entry
      (subst (λ (x : Contents). Contains x.entries entry) by.is c))

  found_in_contents : (entry : Entry) → IsFound store IsAnyTableOf files entry
      → Contains contents.entries entry
  found_in_contents entry is =
      subst (λ (x : Contents). Contains x.entries entry) (sym by.is) (⊎_elim
      (λ (table : TableHas store IsAnyTableOf is.0 (bytes_of is.1) entry).
      Contains-append_left (table_entries by.tables) (log_entries by.logs) entry
      (in_table is.0 is.1 entry is.2 table))
      (λ (log : LogHas is.0 (bytes_of is.1) entry).
      Contains-append_right (table_entries by.tables) (log_entries by.logs) entry
      (in_log is.0 is.1 entry is.2 log))
      is.3)

  pub store_is_found : AreFound store IsAnyTableOf files contents.entries
  store_is_found entry = (contents_found entry, found_in_contents entry)

pub stores_are_found : (store : List ℕ) → StoresAreFound store
stores_are_found store cmp meaning files contents m alone =
    store_is_found store cmp (IsTableOf cmp meaning) (IsAnyTable cmp meaning)
    (ignoring cmp meaning) files contents m alone

pub found_shows_the_same : (store : List ℕ) → FoundShowsTheSame store
found_shows_the_same store cmp meaning files contents m alone found are =
    same_sets found contents.entries
    ((one_found_set store (IsAnyTable cmp meaning) files found contents.entries are).0
    (stores_are_found store cmp meaning files contents m alone))
