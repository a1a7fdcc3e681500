-- The numbers of a repair's tables, and that these are the tables of a repaired store; and a number
-- that a listed file has.
use Rattle.std.proofs.Common.{◌≡◌, ◌∙◌, ⊎_elim, inl, inr, ◌<◌, ◌≤◌, ◌+◌, ℕ, false, true, List, [], ◌∷◌, None, ap, arith, map, refl, subst, sym}
use Rattle.std.proofs.lemmas.Bool.{cases_lt}
use Rattle.std.proofs.lemmas.List.Elements.{All-contains}
use Rattle.std.specs.Prelude.{◌↔◌, ◌≢◌, Any, Contains, IsSome, IsTrue, string_bytes}
use Rattle.leveldb_base.proofs.EntriesLemmas.{map_in}
use Rattle.leveldb_base.proofs.HistoryLemmas.{in_cases, in_front, in_none, in_rest}
use Rattle.leveldb_base.proofs.NamesLemmas.{made_name}
use Rattle.leveldb_base.specs.Entries.{entries_of_pairs}
use Rattle.leveldb_base.specs.History.{AreAbove, greatest}
use Rattle.leveldb_base.specs.Names.{IsFileName, file_name}
use Rattle.leveldb_base.specs.Types.{Pair}
use Rattle.leveldb_base.specs.declared.cmp.Cmp.{Ghosts as CmpGhosts}
use Rattle.leveldb_base.specs.declared.types.FileMetaData.{FileMetaData}
use Rattle.leveldb_base.specs.declared.types.FileType.{FileType}
use Rattle.leveldb_base.specs.declared.types.FileType.TheVariants.{Log, Table}
use Rattle.leveldb_env.specs.Env.{Files, in_folder}
use Rattle.leveldb_env.specs.declared.env.Env.{Ghosts as EnvGhosts}
use Rattle.leveldb_env.specs.declared.filter.FilterPolicy.{Ghosts as FilterGhosts}
use Rattle.leveldb_files.proofs.Stores.ManagedLemmas.{kinds_apart}
use Rattle.leveldb_files.specs.Stores.Batches.{Each}
use Rattle.leveldb_version_set.specs.Compactions.Compaction.{files_of_tables}
use Rattle.leveldb_files.specs.Stores.Format.{Agrees, IsTableOf, Meaning}
use Rattle.leveldb_files.specs.Levels.Levels.{LiveTable, table_entries}
use Rattle.leveldb_version_set.specs.Repairs.Repairing.{HasRepairedTables, IsGreatestInFolder, IsNumberOfName}
use Rattle.leveldb_files.specs.Stores.Store.{IsInternalPair}
use Rattle.leveldb_files.specs.Steps.StoreSteps.{IsAboveLogs}
use Rattle.leveldb_files.specs.Edits.Edit.{NewFile}
use Rattle.leveldb_store.specs.Tables.BuildTable.{TableChoices}
use Rattle.leveldb_store.specs.Openings.Listing.{AreFilesIn, MatchesName}
use Rattle.leveldb_store.specs.Tables.Outputs.{AreNextNumbers, SameButNewTables}
use Rattle.leveldb_store.specs.declared.opening.listing.ListedFile.{ListedFile}
use Rattle.leveldb_repair.specs.LookOver.{AreLookedOver}
use Rattle.leveldb_repair.specs.WriteFound.{HasWritten, files_of_level_one}
use Rattle.leveldb_repair.specs.declared.look_over.LookedOver.{LookedOver}

-- ---- numbers one after another

-- numbers from the first on and below the next, one after another, are these
pub next_numbers : (first next : ℕ) (numbers : List ℕ) → AreNextNumbers first next numbers
    → (first ≤ next)
    × ((n : ℕ) → Contains numbers n ↔ ((first ≤ n) × (n < next)))
next_numbers first next [] are = (
  omega (arith, are),
  λ n. (λ c. absurd (in_none n c), λ range. absurd (omega (arith, are, range.0, range.1))),
)
next_numbers first next (number ∷ numbers) are =
    let rest = next_numbers (first + 1) next numbers are.1 in
    let least = rest.0 in (
      omega (arith, least),
      λ n. (
        λ c. ⊎_elim
            (λ (same : number ≡ n). (
              omega (arith, same, are.0),
              omega (arith, same, are.0, least),
            ))
            (λ (later : Contains numbers n).
            let range = (rest.1 n).0 later in (omega (arith, range.0), range.1))
            (in_cases number n numbers c),
        λ range. ⊎_elim
            (λ (past : first < n).
            in_rest number n numbers ((rest.1 n).1 (omega (arith, past), range.1)))
            (λ (most : n ≤ first).
            let same : number ≡ n = omega (arith, are.0, most, range.0) in
            subst (Contains (number ∷ numbers)) same (in_front number numbers))
            (cases_lt first n),
      ),
    )

-- the numbers of tables whose files are these
pub numbers_of_level_one : (tables : List LiveTable) (files : List FileMetaData)
    → files_of_tables tables ≡ files_of_level_one files
    → map (λ (table : LiveTable). table.file.number) tables
    ≡ map (λ (file : FileMetaData). file.num) files
numbers_of_level_one tables files same = sym (of_tables tables)
    ∙ ap (λ (fs : List NewFile). map (λ (file : NewFile). file.number) fs) same ∙ of_files files
  where
    of_tables : (those : List LiveTable)
        → map (λ (file : NewFile). file.number) (files_of_tables those)
        ≡ map (λ (table : LiveTable). table.file.number) those
    of_tables [] = refl
    of_tables (table ∷ those) = ap (λ ns. table.file.number ∷ ns) (of_tables those)

    of_files : (those : List FileMetaData)
        → map (λ (file : NewFile). file.number) (files_of_level_one those)
        ≡ map (λ (file : FileMetaData). file.num) those
    of_files [] = refl
    of_files (file ∷ those) = ap (λ ns. file.num ∷ ns) (of_files those)

-- tables whose files have the numbers after the manifest's and below the next, one after another,
-- have exactly these numbers
pub repaired_numbers : (manifest next : ℕ) (tables : List LiveTable) (files : List FileMetaData)
    → AreNextNumbers (manifest + 1) next (map (λ (file : FileMetaData). file.num) files)
    → files_of_tables tables ≡ files_of_level_one files → (n : ℕ)
    → Contains (map (λ (table : LiveTable). table.file.number) tables) n
    ↔ ((manifest < n) × (n < next))
repaired_numbers manifest next tables files are same n =
    let within = (next_numbers (manifest + 1) next (map (λ (file : FileMetaData). file.num) files)
    are).1 n in
    let numbers = numbers_of_level_one tables files same in (
      λ c.
          let range = within.0 (subst (λ ns. Contains ns n) numbers c) in
          (omega (arith, range.0), range.1),
      λ range. subst (λ ns. Contains ns n) (sym numbers)
          (within.1 (omega (arith, range.0), range.1)),
    )

-- ---- logs

-- new tables leave each log as it was
pub log_stays : (store : List ℕ) (first next : ℕ) (before after : Files)
    → SameButNewTables store first next before after → (name : List ℕ) (k : ℕ)
    → IsFileName name k Log → after (in_folder store name) ≡ before (in_folder store name)
log_stays store first next before after same name k is = same (in_folder store name)
    (λ n from below fits. kinds_apart store (file_name Table n) name n k Table Log
    (made_name Table n fits) is (λ d. cc))

-- so no log has the next number or a greater one, where the greatest number of all is below it
pub above_all_logs : (store : List ℕ) (taken first next : ℕ) (before after : Files)
    → IsGreatestInFolder store before taken → taken < next
    → SameButNewTables store first next before after → IsAboveLogs store after next
above_all_logs store taken first next before after is less same name k is_log some =
    let below = is.below name k Log is_log (λ none.
    some (log_stays store first next before after same name k is_log ∙ none)) in
    omega (arith, below, less)

-- ---- the tables of a repair

-- What was written to new tables, from the second number above the greatest on, is the tables of a
-- repaired store: what was looked over is what was written, pairs of entries of numbers from 1 on.
module _ {C FP : Type 0} {order : CmpGhosts C} {filters : FilterGhosts FP}
    (choices : TableChoices order filters) {E F : Type 0} (env : EnvGhosts E F) (store : List ℕ)
    (meaning : Meaning) where
  -- tables of these pairs, with these files, are those of a repaired store
  pub record AreRepairedOf (manifest next last : ℕ) (read : List Pair) (files : List FileMetaData)
      (to : E) : Type 0 where
    pub tables : List LiveTable
    pub files_are : files_of_tables tables ≡ files_of_level_one files
    pub entries_are : table_entries tables ≡ entries_of_pairs read
    pub has : HasRepairedTables store choices.format.order (IsTableOf choices.format.order meaning)
        manifest next last tables (env.observed to).disk.files

  pub tables_repaired : {read : List Pair} {next : ℕ} {files : List FileMetaData} {to : E}
      {found : LookedOver} (taken : ℕ) (before : Files) → IsTrue env.models_disk
      → Agrees choices.format meaning
      → HasWritten choices env store (taken + 2) read next files to → AreLookedOver read found
      → Each IsInternalPair read (entries_of_pairs read) → AreAbove 0 (entries_of_pairs read)
      → IsGreatestInFolder store before taken
      → SameButNewTables store (taken + 2) next before (env.observed to).disk.files
      → AreRepairedOf (taken + 1) next found.last read files to
  tables_repaired {read} {next} {files} {to} {found} taken before modelled agrees written looked
      internal numbered is same =
      let live = written.live modelled meaning agrees internal in
      let tables = live.0 in
      let numbers : AreNextNumbers (taken + 1 + 1) next
      (map (λ (file : FileMetaData). file.num) files) =
      subst (λ n. AreNextNumbers n next (map (λ (file : FileMetaData). file.num) files))
      (omega arith) written.are_tables.numbers in
      let least = (next_numbers (taken + 1 + 1) next
      (map (λ (file : FileMetaData). file.num) files) numbers).0 in
      record {
        tables = tables;
        files_are = live.2;
        entries_are = live.3;
        has = record {
          level_one = live.1;
          past = omega (arith, least);
          numbers = repaired_numbers (taken + 1) next tables files numbers live.2;
          last_is = looked.last ∙ ap greatest (sym live.3);
          numbered = subst (AreAbove 0) (sym live.3) numbered;
          above_logs = above_all_logs store taken (taken + 2) next before
              (env.observed to).disk.files is (omega (arith, least)) same;
        };
      }

-- ---- a number that a listed file has

-- a number of a file that a folder lists is one that a name there has
pub number_of_name : {E F : Type 0} (env : EnvGhosts E F) (store : List ℕ) (from : E)
    (listed : List ListedFile) (number : ℕ) → IsTrue env.models_disk
    → AreFilesIn env store from listed
    → Any (λ (file : ListedFile). file.number ≡ number) listed
    → IsNumberOfName store (env.observed from).disk.files number
number_of_name env store from listed number modelled in_folder_are some = (
  name,
  file.kind,
  subst (λ n. IsFileName name n file.kind) some.4
      (All-contains MatchesName listed file in_folder_are.2.named there),
  λ none.
      let some_there : IsSome ((env.observed from).disk.files (in_folder store name)) =
      (((in_folder_are.1 modelled).each name).0 (in_folder_are.2.there name
      (map_in (λ (one : ListedFile). string_bytes one.name) listed file there))).1 in
      let never : false ≡ true = subst IsSome none some_there in cc,
)
  where
    file : ListedFile
    file = some.1

    there : Contains listed file
    there = (some.0, some.2, some.3)

    name : List ℕ
    name = string_bytes file.name
