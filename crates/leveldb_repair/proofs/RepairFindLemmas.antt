-- What is found in a store's folder: walks over its tables and memtables of its logs, or why it isn't.
use Rattle.std.specs.Prelude.{◌↔◌, Any, Contains, IsSome, IsTrue, Result, Vec, string_bytes}
use Rattle.std.specs.Global.{Global}
use Rattle.std.proofs.Common.{◌≡◌, ◌+◌, ◌-◌, ◌^◌, ◌⊎◌, ◌∙◌, inl, inr, ⊎_elim, ℕ, true, false, List, [], ◌∷◌, Option, None, Some, Ok, Err, refl, sym, ap, subst, arith}
use Rattle.std.proofs.lemmas.List.Elements.{All-contains}
use Rattle.std.specs.declared.cmp.Ordering.{Ordering}
use Rattle.leveldb_base.proofs.EntriesLemmas.{map_in}
use Rattle.leveldb_base.specs.Error.{IsOutOfMemory}
use Rattle.leveldb_base.specs.KeyTypes.{internal_cmp}
use Rattle.leveldb_base.specs.Names.{IsFileName}
use Rattle.leveldb_base.specs.Types.{Pair}
use Rattle.leveldb_base.specs.declared.cmp.Cmp.{Ghosts as CmpGhosts}
use Rattle.leveldb_base.specs.declared.cmp.internal.InternalKeyCmp.{InternalKeyCmp}
use Rattle.leveldb_base.specs.declared.error.Status.{Status}
use Rattle.leveldb_base.specs.declared.error.StatusCode.TheVariants.{Corruption, InvalidArgument}
use Rattle.leveldb_base.specs.declared.types.FileType.TheVariants.{Log, Table}
use Rattle.leveldb_env.specs.Compressor.{Codings, Decodes}
use Rattle.leveldb_env.specs.Env.{File, Files, FilesUnchanged, ListsChildren, Run, SameLocks, bytes_of, in_folder}
use Rattle.leveldb_env.specs.declared.env.Env.{Ghosts as EnvGhosts}
use Rattle.leveldb_env.specs.declared.filter.FilterPolicy.{Ghosts as FilterGhosts}
use Rattle.leveldb_iter.specs.Walk.{key_order}
use Rattle.leveldb_mem.specs.MemTable.{MemTableState}
use Rattle.leveldb_table.specs.ReadableTable.{HasUndecodedBlock}
use Rattle.leveldb_table.specs.TableBlock.{HasLackCode}
use Rattle.leveldb_table.specs.TableLaws.{DecodesMore}
use Rattle.leveldb_files.specs.Stores.Batches.{Each}
use Rattle.leveldb_files.specs.Stores.Format.{Meaning}
use Rattle.leveldb_version_set.specs.Repairs.Found.{HasNoTableNorLog, IsAnyTable}
use Rattle.leveldb_version_set.specs.Repairs.Repairing.{IsGreatestInFolder}
use Rattle.leveldb_store.proofs.Openings.ListingLemmas.{entries_listed}
use Rattle.leveldb_store.proofs.Openings.OpeningFindLemmas.{listed as named, no_slash_in_name}
use Rattle.leveldb_store.specs.Tables.BuildTable.{TableChoices}
use Rattle.leveldb_store.specs.Openings.Listing.{AreFilesIn, MatchesName}
use Rattle.leveldb_store.specs.Compactions.Merging.{LeavesFiles}
use Rattle.leveldb_store.specs.Openings.OpensStore.{IsBareFolder}
use Rattle.leveldb_store.specs.Logs.ReplayLog.{HasCauseOr}
use Rattle.leveldb_store.specs.declared.opening.listing.ListedFile.{ListedFile}
use Rattle.leveldb_repair.proofs.RepairFailsLemmas.{fails_earlier, fails_weaker}
use Rattle.leveldb_repair.proofs.RepairStoreLemmas.{decodes_by, leaves_then, why_before}
use Rattle.leveldb_repair.specs.FoundLogs.{FindsLogs, HaveEntry, IsInLog, WhyNotFound}
use Rattle.leveldb_repair.specs.FoundTables.{AreFoundTables, FindsTables, IsInTable, IsNewWalkOver, IsTablePair, WhyNoTables, entries_of_lists}
use Rattle.leveldb_repair.specs.FoundWalkLaws.{found_laws}
use Rattle.leveldb_repair.specs.FoundWalkTable.{FailsBetweenOr, KeepsFound}
use Rattle.leveldb_repair.specs.Numbers.{FindsGreatest, WhyNoNumbers}
use Rattle.leveldb_repair.specs.RepairSteps.{AreFoundIn, FindsAll}
use Rattle.leveldb_repair.specs.RepairStore.{WhyNotBegun}
use Rattle.leveldb_repair.specs.declared.found_walk.files.ReadFiles.{ReadFiles}
use Rattle.leveldb_repair.specs.declared.found_walk.table.FoundTable.{FoundTable}
use Rattle.leveldb_repair.specs.declared.repair_store.find.Found.{Found}

-- ---- why a call failed

module _ {E F : Type 0} (env : EnvGhosts E F) where
  -- the cause of a call that failed
  pub cause_between : {T : Type 0} {Why : Status → Type 0} {from to : E} {status : Status}
      → HasCauseOr {T = T} Why (env.failures from) (env.failures to) (Err status)
      → FailsBetweenOr env (Why status) from to status
  cause_between {Why = Why} {from = from} {to = to} {status = status} fails = by fails.cause
    where
      by : (IsOutOfMemory status ⊎ (Why status × (env.failures to ≡ env.failures from)))
          ⊎ (env.failures to ≡ env.failures from + 1)
          ⊎ ((env.failures from ≡ 2 ^ 64 - 1) × (env.failures to ≡ env.failures from))
          → FailsBetweenOr env (Why status) from to status
      by (inl (inl memory)) = inl memory
      by (inl (inr (why, same))) = inr (inr (inr why))
      by (inr (inl more)) = inr (inl (omega (arith, more)))
      by (inr (inr (most, same))) = inr (inr (inl (same ∙ most)))

  -- a call that changes no file
  pub leaves_files : {T : Type 0} {Why : Status → Type 0} {from to : E} {result : Result T Status}
      → (IsTrue env.models_disk → Run (FilesUnchanged (env.observed from).disk.files)
      (env.observed from) (env.observed to))
      → SameLocks env.models_disk (env.observed from) (env.observed to)
      → HasCauseOr {T = T} Why (env.failures from) (env.failures to) result
      → LeavesFiles env from to
  leaves_files still locks cause = record { run = still; locks = locks; later = cause.later }

-- ---- the listed files

module _ {E F : Type 0} (env : EnvGhosts E F) (store : List ℕ) {from : E} {listed : List ListedFile}
    (modelled : IsTrue env.models_disk) (in_folder_are : AreFilesIn env store from listed) where
  abbrev files : Files
  files = (env.observed from).disk.files

  -- a listed file is there
  listed_there : (file : ListedFile) → Contains listed file
      → files (in_folder store (string_bytes file.name)) ≡ None → ⊥
  listed_there file there none =
      let lists = in_folder_are.1 modelled in
      let are = in_folder_are.2 in
      let name = string_bytes file.name in
      let some : IsSome (files (in_folder store name)) = ((lists.each name).0 (are.there name
      (map_in (λ (one : ListedFile). string_bytes one.name) listed file there))).1 in
      let never : false ≡ true = subst IsSome none some in cc

  -- a table or a log is listed, or neither is in the folder
  pub listed_some : Any (λ (file : ListedFile). (file.kind ≡ Table) ⊎ (file.kind ≡ Log)) listed
      → HasNoTableNorLog store files → ⊥
  listed_some some none = ⊎_elim
      (λ (table : some.1.kind ≡ Table). there (none.no_table name some.1.number
      (subst (IsFileName name some.1.number) table is)))
      (λ (log : some.1.kind ≡ Log). there (none.no_log name some.1.number
      (subst (IsFileName name some.1.number) log is)))
      some.4
    where
      name : List ℕ
      name = string_bytes some.1.name

      among : Contains listed some.1
      among = (some.0, some.2, some.3)

      is : IsFileName name some.1.number some.1.kind
      is = All-contains MatchesName listed some.1 in_folder_are.2.named among

      there : files (in_folder store name) ≡ None → ⊥
      there = listed_there some.1 among

  pub listed_none :
      (Any (λ (file : ListedFile). (file.kind ≡ Table) ⊎ (file.kind ≡ Log)) listed → ⊥)
      → HasNoTableNorLog store files
  listed_none none = record {
    no_table = λ name n is. none_there name n (inl is);
    no_log = λ name n is. none_there name n (inr is);
  }
    where
      no_slash : (name : List ℕ) (n : ℕ) → (IsFileName name n Table ⊎ IsFileName name n Log)
          → Contains name 47 → ⊥
      no_slash name n (inl is) = no_slash_in_name name n Table is
      no_slash name n (inr is) = no_slash_in_name name n Log is

      none_there : (name : List ℕ) (n : ℕ) → (IsFileName name n Table ⊎ IsFileName name n Log)
          → files (in_folder store name) ≡ None
      none_there name n either = by (files (in_folder store name)) refl
        where
          by : (o : Option File) → files (in_folder store name) ≡ o
              → files (in_folder store name) ≡ None
          by None is = is
          by (Some file) is = absurd (none
              ((entries_listed in_folder_are.0 listed in_folder_are.2).1 (
                name,
                named store files in_folder_are.0 (in_folder_are.1 modelled) name
                    (no_slash name n either)
                    (λ e. let never : Some file ≡ None = sym is ∙ e in cc),
                (n, either),
              )))

-- ---- finding

module _ {E C K F FP : Type 0} {order : CmpGhosts (InternalKeyCmp C)} {filters : FilterGhosts FP}
    (choices : TableChoices order filters) (env : EnvGhosts E F) (cmp : CmpGhosts C)
    (codings : K → Codings) (compressors : K) (compares : C) (store : List ℕ) (from : E) where
  abbrev old : Files
  old = (env.observed from).disk.files

  abbrev Why : Status → Type 0
  Why = WhyNotBegun env choices.format store from

  abbrev Finds : Result (Found E C F) Status → E → Type 0
  Finds = FindsAll choices env cmp codings compressors compares store from

  -- nothing is found
  not_found : {to : E} {status : Status} → LeavesFiles env from to
      → FailsBetweenOr env (Why status) from to status → Finds (Err status) to
  not_found leaves cause = record { leaves = leaves; ok = tt; cause = cause }

  -- the folder isn't listed
  pub not_listed : {T : Type 0} {to : E} {status : Status}
      → (IsTrue env.models_disk → Run (FilesUnchanged old) (env.observed from) (env.observed to))
      → SameLocks env.models_disk (env.observed from) (env.observed to)
      → HasCauseOr {T = T} (λ e. (e.code ≡ Corruption) × (IsTrue env.models_disk
      → IsBareFolder store old)) (env.failures from) (env.failures to) (Err status)
      → Finds (Err status) to
  not_listed {T} {to} {status} still locks cause =
      not_found (leaves_files env {T = T} still locks cause)
      (fails_weaker env from to status
      (λ (bare : (status.code ≡ Corruption) × (IsTrue env.models_disk
      → IsBareFolder store old)). inl bare)
      (cause_between env {T = T} cause))

  module _ {listed : List ListedFile} {at : E} (leaves : LeavesFiles env from at)
      (are : AreFilesIn env store from listed) where
    same_at : IsTrue env.models_disk → (env.observed at).disk.files ≡ old
    same_at modelled = (leaves.run modelled).has

    -- neither a table nor a log is there
    pub none_found : {status : Status} → status.code ≡ InvalidArgument
        → (Any (λ (file : ListedFile). (file.kind ≡ Table) ⊎ (file.kind ≡ Log)) listed → ⊥)
        → Finds (Err status) at
    none_found code none = not_found leaves (inr (inr (inr (inr (inl (
      code,
      λ modelled. listed_none env store modelled are none,
    ))))))

    -- the same files are listed later
    are_at : AreFilesIn env store at listed
    are_at = (
      are.0,
      λ modelled. subst (λ (fs : Files). ListsChildren fs store are.0)
          (sym (same_at modelled)) (are.1 modelled),
      are.2,
    )

    -- a listed file isn't missing
    not_missing : IsTrue env.models_disk → (file : ListedFile) → Contains listed file
        → (env.observed at).disk.files (in_folder store (string_bytes file.name)) ≡ None → ⊥
    not_missing modelled file there none =
        listed_there env store modelled are file there
        (ap (λ (fs : Files). fs (in_folder store (string_bytes file.name)))
        (sym (same_at modelled)) ∙ none)

    matches : (file : ListedFile) → Contains listed file → MatchesName file
    matches file there = All-contains MatchesName listed file are.2.named there

    abbrev WhyAt : Status → Type 0
    WhyAt = WhyNotBegun env choices.format store at

    why_at : {to : E} {status : Status} → LeavesFiles env at to
        → FailsBetweenOr env (WhyAt status) at to status → Finds (Err status) to
    why_at {to} {status} after cause = not_found (leaves_then env leaves after)
        (fails_earlier env from at to status leaves.later
        (fails_weaker env at to status (why_before choices env store from at status same_at)
        cause))

    -- the numbers aren't found
    why_no_greatest : (status : Status) → WhyNoNumbers env store at listed status → WhyAt status
    why_no_greatest status (code, missing) = inr (inr (inr (inr (
      inl code,
      λ modelled.
          let one = missing modelled in
          absurd (not_missing modelled one.1 (one.0, one.2, one.3) one.4.1),
    ))))

    pub no_greatest : {to : E} {status : Status}
        → FindsGreatest env store listed at (Err status) to → Finds (Err status) to
    no_greatest {to} {status} finds =
        why_at (leaves_files env {T = ℕ} finds.still finds.locks finds.cause)
        (fails_weaker env at to status (why_no_greatest status)
        (cause_between env {T = ℕ} finds.cause))

    -- nor the tables
    why_no_tables : (codings_are : codings compressors ≡ choices.format.codings)
        → (order_is : cmp.cmp compares ≡ choices.format.order) → (status : Status)
        → WhyNoTables env (codings compressors) (cmp.cmp compares) store
        (env.observed at).disk.files listed status → WhyAt status
    why_no_tables codings_are order_is status (inl (code, missing)) = inr (inr (inr (inr (
      inl code,
      λ modelled.
          let one = missing modelled in
          absurd (not_missing modelled one.1 (one.0, one.2, one.3) one.4.1),
    ))))
    why_no_tables codings_are order_is status (inr (lacks, undecoded)) = inr (inr (inr (inr (
      subst (λ (by : Codings). HasLackCode env by status) codings_are lacks,
      λ modelled.
          let found = undecoded modelled in
          let file = found.1 in
          let one = found.4 in (
            string_bytes file.name,
            file.number,
            subst (λ kind. IsFileName (string_bytes file.name) file.number kind) one.0
                (matches file (found.0, found.2, found.3)),
            one.1,
            one.2,
            subst (λ (by : List ℕ → List ℕ → Ordering).
                HasUndecodedBlock choices.format.codings (internal_cmp by) (bytes_of one.1)
                status) order_is
                (subst (λ (by : Codings). HasUndecodedBlock by
                (internal_cmp (cmp.cmp compares)) (bytes_of one.1) status) codings_are one.3),
          ),
    ))))

    pub no_tables : (codings_are : codings compressors ≡ choices.format.codings)
        → (order_is : cmp.cmp compares ≡ choices.format.order) → {to : E} {status : Status}
        → FindsTables order env cmp codings compressors compares store listed at (Err status) to
        → Finds (Err status) to
    no_tables codings_are order_is {to} {status} finds =
        why_at (leaves_files env {T = Vec (FoundTable E C F) Global} finds.still finds.locks
        finds.cause)
        (fails_weaker env at to status (why_no_tables codings_are order_is status)
        (cause_between env {T = Vec (FoundTable E C F) Global} finds.cause))

    -- nor the logs
    why_no_logs : (status : Status)
        → WhyNotFound env.models_disk store (env.observed at).disk.files listed status
        → WhyAt status
    why_no_logs status (inl (code, missing)) = inr (inr (inr (inr (
      inl code,
      λ modelled.
          let one = missing modelled in
          absurd (not_missing modelled one.1 (one.0, one.2, one.3) one.4.1),
    ))))
    why_no_logs status (inr (code, large)) = inr (inr (inr (inl (
      code,
      λ modelled.
          let one = large modelled in
          inl (one.1, matches one.1 (one.0, one.2, one.3), one.4),
    ))))

    pub no_logs : {to : E} {status : Status}
        → FindsLogs env store compares listed at (Err status) to → Finds (Err status) to
    no_logs {to} {status} finds =
        why_at (leaves_files env {T = Vec (MemTableState C) Global} finds.still finds.locks
        finds.cause)
        (fails_weaker env at to status (why_no_logs status)
        (cause_between env {T = Vec (MemTableState C) Global} finds.cause))

  -- ---- all is found

  module _ (codings_are : codings compressors ≡ choices.format.codings)
      (order_is : cmp.cmp compares ≡ choices.format.order) {listed : List ListedFile}
      {at first : E} (listing : LeavesFiles env from at)
      (are : AreFilesIn env store from listed)
      (some : Any (λ (file : ListedFile). (file.kind ≡ Table) ⊎ (file.kind ≡ Log)) listed)
      {greatest : ℕ} (numbers : FindsGreatest env store listed at (Ok greatest) first)
      {tables : Vec (FoundTable E C F) Global} {second : E}
      (finds : FindsTables order env cmp codings compressors compares store listed first (Ok tables)
      second) {logs : Vec (MemTableState C) Global} {to : E}
      (finds_logs : FindsLogs env store compares listed second (Ok logs) to) where
    leaves : LeavesFiles env from first
    leaves = leaves_then env listing
        (leaves_files env {T = ℕ} numbers.still numbers.locks numbers.cause)

    after_tables : LeavesFiles env from second
    after_tables = leaves_then env leaves (leaves_files env {T = Vec (FoundTable E C F) Global}
        finds.still finds.locks finds.cause)

    after_logs : LeavesFiles env second to
    after_logs = leaves_files env {T = Vec (MemTableState C) Global} finds_logs.still
        finds_logs.locks finds_logs.cause

    kept : (files : ReadFiles K) → KeepsFound env (second, files) (to, files)
    kept files = record {
      files_stay = refl;
      disk = record { disk = finds_logs.still; locks = finds_logs.locks };
      later = after_logs.later;
    }

    -- the walks are where they were
    walks_later : (walks : List (FoundTable E C F)) (lists : List (List Pair))
        → Each (IsNewWalkOver order env cmp codings compressors compares store listed second)
        walks lists
        → Each (IsNewWalkOver order env cmp codings compressors compares store listed to) walks
        lists
    walks_later [] [] each = tt
    walks_later [] (list ∷ lists) each = absurd each
    walks_later (walk ∷ walks) [] each = absurd each
    walks_later (walk ∷ walks) (list ∷ lists) each = (
      λ files by same below.
          (found_laws {order = order} {env = env} {codings = codings}).stays (second, files)
          (to, files) (kept files) walk (key_order order (record { 0 = compares })) list None
          (each.0 files by same below),
      walks_later walks lists each.1,
    )

    found_tables_are : IsTrue env.models_disk
        → AreFoundTables order env cmp codings compressors compares store listed first second
        tables.items
    found_tables_are modelled = finds.finds modelled are.2.named

    are_in : IsTrue env.models_disk
        → AreFoundIn choices env cmp codings compressors compares store listed old to tables.items
        logs.items
    are_in modelled =
        let found = found_tables_are modelled in
        record {
          lists = found.lists;
          over = walks_later tables.items found.lists found.over;
          numbered = found.numbered;
          pairs = λ meaning agrees pair there.
              subst (λ (fs : Files). IsTablePair store fs
              (IsAnyTable choices.format.order meaning) pair) (same_at leaves are modelled)
              (subst (λ (by : List ℕ → List ℕ → Ordering). IsTablePair store
              (env.observed first).disk.files (IsAnyTable by meaning) pair) order_is
              (found.pairs (are_at leaves are) meaning (more meaning (decodes_by agrees)) pair
              there));
          in_tables = λ meaning decodes entry.
              subst (λ (fs : Files). Contains (entries_of_lists found.lists) entry
              ↔ IsInTable store fs (IsAnyTable choices.format.order meaning) entry)
              (same_at leaves are modelled)
              (subst (λ (by : List ℕ → List ℕ → Ordering).
              Contains (entries_of_lists found.lists) entry
              ↔ IsInTable store (env.observed first).disk.files (IsAnyTable by meaning) entry)
              order_is (found.exactly (are_at leaves are) meaning (more meaning decodes) entry));
          in_logs = λ entry.
              subst (λ (fs : Files). HaveEntry logs.items entry ↔ IsInLog store fs entry)
              (same_at after_tables are modelled)
              (finds_logs.exactly modelled (are_at after_tables are) entry);
        }
      where
        more : (meaning : Meaning)
            → DecodesMore (Decodes choices.format.codings) (Decodes meaning.codings)
            → DecodesMore (Decodes (codings compressors)) (Decodes meaning.codings)
        more meaning decodes = subst (λ (by : Codings).
            DecodesMore (Decodes by) (Decodes meaning.codings)) (sym codings_are) decodes

    pub all_found : Finds (Ok (record { greatest = greatest; tables = tables; logs = logs })) to
    all_found = record {
      leaves = leaves_then env after_tables after_logs;
      ok = record {
        listed = listed;
        above = numbers.above;
        ordered = finds_logs.order;
        repairs = λ modelled. record {
          taken_is = subst (λ (fs : Files). IsGreatestInFolder store fs greatest)
              (same_at listing are modelled) (numbers.greatest modelled (are_at listing are));
          some = listed_some env store modelled are some;
        };
        are = are_in;
      };
      cause = tt;
    }
