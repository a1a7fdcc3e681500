-- New tables of all that is found, and a manifest that names them: at each moment a repair is being made,
-- and at its end it is.
use Rattle.std.specs.Prelude.{All, Contains, IsTrue, IsUtf8, Result}
use Rattle.std.specs.List.Sorted.{IsStrictlySortedBy}
use Rattle.std.proofs.Common.{◌≡◌, ◌≤◌, ◌<◌, ◌+◌, ◌-◌, ◌^◌, ◌⊎◌, ◌∙◌, inl, inr, ⊎_elim, ℕ, List, [], ◌∷◌, ◌++◌, Option, Ok, Err, refl, sym, ap, subst, arith, length}
use Rattle.std.proofs.lemmas.List.Elements.{All-contains, All-nil, Contains-append_left}
use Rattle.std.specs.declared.cmp.Ordering.{Ordering}
use Rattle.std.proofs.Math.Arith.{lt_of_le-ne}
use Rattle.leveldb_base.proofs.EntriesLemmas.{in_map, map_in}
use Rattle.leveldb_base.proofs.NamesLemmas.{made_name}
use Rattle.leveldb_base.specs.Entries.{entries_of_pairs, entry_of_pair}
use Rattle.leveldb_base.specs.Error.{IsOutOfMemory}
use Rattle.leveldb_base.specs.History.{AreRising, IsBeforeAll}
use Rattle.leveldb_base.specs.KeyTypes.{internal_cmp}
use Rattle.leveldb_base.specs.Names.{file_name}
use Rattle.leveldb_base.specs.Types.{Pair}
use Rattle.leveldb_base.specs.declared.cmp.Cmp.{Ghosts as CmpGhosts}
use Rattle.leveldb_base.specs.declared.error.Status.{Status}
use Rattle.leveldb_base.specs.declared.error.StatusCode.TheVariants.{NotSupported}
use Rattle.leveldb_base.specs.declared.types.FileMetaData.{FileMetaData}
use Rattle.leveldb_base.specs.declared.types.FileType.TheVariants.{Current, DBLock, Descriptor, Table, Temp}
use Rattle.leveldb_env.proofs.EnvLemmas.{Run-call, Run-mono, Run-trans}
use Rattle.leveldb_env.specs.Env.{AppendedAreBytes, ChangesFiles, File, Files, FilesUnchanged, Observed, Run, bytes_of}
use Rattle.leveldb_env.specs.EnvFile.{failed}
use Rattle.leveldb_env.specs.WholeFiles.{IsLostUnobserved}
use Rattle.leveldb_env.specs.declared.env.Env.{Ghosts as EnvGhosts}
use Rattle.leveldb_env.specs.declared.filter.FilterPolicy.{Ghosts as FilterGhosts}
use Rattle.leveldb_iter.specs.Walk.{key_order}
use Rattle.leveldb_iter.specs.declared.walk.Walk.{Ghosts as WalkGhosts}
use Rattle.leveldb_table.specs.TableBlock.{HasLackCode}
use Rattle.leveldb_files.proofs.Stores.ManagedLemmas.{kinds_apart}
use Rattle.leveldb_version_set.proofs.Repairs.RepairingKeepsLemmas.{manifests_go_on}
use Rattle.leveldb_version_set.proofs.Repairs.RepairingLemmas.{manifest_repairs}
use Rattle.leveldb_version.proofs.Versions.SearchLemmas.{all_from_contains}
use Rattle.leveldb_version.proofs.Edits.VersionEditLemmas.{is_encodable}
use Rattle.leveldb_version_set.specs.Compactions.Compaction.{files_of_tables}
use Rattle.leveldb_version_set.specs.Sets.CurrentFile.{temp_path}
use Rattle.leveldb_files.specs.Stores.Format.{Agrees, IsTableOf, Meaning}
use Rattle.leveldb_version_set.specs.Repairs.Found.{AreFound, IsAnyTable}
use Rattle.leveldb_version_set.specs.Sets.NewManifest.{MakingManifest, with_manifest}
use Rattle.leveldb_version_set.specs.Sets.NewStore.{MakesManifest}
use Rattle.leveldb_version_set.specs.Engines.Opening.{FitsEdit}
use Rattle.leveldb_files.specs.Stores.Paths.{current_path, lock_path, table_path}
use Rattle.leveldb_version_set.specs.Repairs.Repairing.{IsGreatestInFolder, IsRepairedStore, IsAmidRepair, ManifestRepairs, repaired_edit, repaired_manifest}
use Rattle.leveldb_files.specs.Edits.Edit.{Edit, IsEncodable, NewFile, file_order}
use Rattle.leveldb_version.specs.Edits.VersionEdit.{new_file_of}
use Rattle.leveldb_store.specs.Tables.BuildTable.{TableChoices}
use Rattle.leveldb_store.specs.Compactions.Merging.{AreRead, BearsNewTables, FailsOnWay, IsMergeFault, LeavesFiles}
use Rattle.leveldb_store.specs.Tables.Outputs.{ChangesNewTables, SameButNewTables}
use Rattle.leveldb_store.specs.Tables.TableFile.{FailsToWrite}
use Rattle.leveldb_store.specs.Tables.TableParts.{HaveTableParts, IsSameOrPart}
use Rattle.leveldb_repair.proofs.RepairFailsLemmas.{fails_weaker}
use Rattle.leveldb_repair.proofs.RepairNumbersLemmas.{AreRepairedOf, tables_repaired}
use Rattle.leveldb_repair.proofs.RepairStoreLemmas.{decodes_by}
use Rattle.leveldb_repair.proofs.TablePartsLemmas.{part_weaker}
use Rattle.leveldb_repair.specs.FoundWalkTable.{FailsBetweenOr}
use Rattle.leveldb_repair.specs.RepairSteps.{AreAllFound, IsOverAll, IsToRepair}
use Rattle.leveldb_repair.specs.RepairStore.{ArePairsFound, AreTooManyFound, HasFoundEntry, IsMomentOfRepair, IsOldOrPartlyRepaired, HoldsAllFound, RepairsStore, WhyNotEnded, WhyNotBegun}
use Rattle.leveldb_repair.specs.WriteFound.{HasWritten, WritesFound, files_of_level_one, merge_of_all}
use Rattle.leveldb_repair.specs.declared.look_over.LookedOver.{LookedOver}

-- ---- files

module _ (store : List ℕ) (taken next : ℕ) (old now : Files)
    (same : SameButNewTables store (taken + 2) next old now) where
  -- `CURRENT` is no table, and the lock's file neither
  pub current_stays : now (current_path store) ≡ old (current_path store)
  current_stays = same (current_path store) (λ n from below small.
      kinds_apart store (file_name Table n) (file_name Current 0) n 0 Table Current
      (made_name Table n small) (made_name Current 0 refl) (λ d. cc))

  lock_stays : now (lock_path store) ≡ old (lock_path store)
  lock_stays = same (lock_path store) (λ n from below small.
      kinds_apart store (file_name Table n) (file_name DBLock 0) n 0 Table DBLock
      (made_name Table n small) (made_name DBLock 0 refl) (λ d. cc))

  -- new tables alone are a part of a repair
  pub tables_repair : IsGreatestInFolder store old taken → taken + 2 ≤ next → next < 2 ^ 64
      → IsAmidRepair store taken next old now
  tables_repair is begun fits = record {
    taken_is = is;
    others = λ path tables manifest temp current lock.
        same path (λ n from below small. tables n from below);
    current = inl current_stays;
    lock = inl lock_stays;
    begun = begun;
    fits = fits;
  }

-- the files of a run have both at each moment
run_both : {P Q : Files → Type 0} {first now : Observed} → Run P first now → Run Q first now
    → Run (λ files. P files × Q files) first now
run_both one other = record {
  has = (one.has, other.has);
  time = record {
    later = one.time.later;
    before = one.time.before;
    meanwhile = λ m files from until was.
        (one.time.meanwhile m files from until was, other.time.meanwhile m files from until was);
    kept = one.time.kept;
  };
}

-- a file of two later moments between which it is the same
same_or_part : {C FP : Type 0} {order : CmpGhosts C} {filters : FilterGhosts FP}
    (choices : TableChoices order filters) (Has : Pair → Type 0) {old mid now : Option File}
    → now ≡ mid → IsSameOrPart choices Has old mid → IsSameOrPart choices Has old now
same_or_part choices Has same (inl still) = inl (same ∙ still)
same_or_part choices Has same (inr (file, there, part)) = inr (file, same ∙ there, part)

-- ---- the edit

no_deleted : IsStrictlySortedBy file_order []
unfolding IsStrictlySortedBy
no_deleted = tt

-- a next number that isn't the last one of 64 bits has one after it
pub next_has_one : {next set : ℕ} → next ≡ set → set < 2 ^ 64 → (next ≡ 2 ^ 64 - 1 → ⊥)
    → set + 1 < 2 ^ 64
next_has_one same fits not_last =
    let below = lt_of_le-ne (omega (arith, same, fits)) not_last in omega (arith, same, below)

-- what fits an edit may be the tables of a repair's edit
pub repaired_encodable : (comparator : List ℕ) (next last : ℕ) (files : List FileMetaData)
    → IsUtf8 comparator → next + 1 < 2 ^ 64 → last < 2 ^ 64
    → All FitsEdit (files_of_level_one files)
    → IsEncodable (repaired_edit comparator next last (files_of_level_one files))
repaired_encodable comparator next last files text fits small all = is_encodable
    (record {
      pointers = All-nil (λ it. it.level < 7);
      deleted = All-nil (λ it. it.0 < 7);
      added = all_from_contains (λ (file : NewFile). file.level < 7) (files_of_level_one files)
          (λ file there.
          let from = in_map (λ (one : FileMetaData). new_file_of (1, one)) files file there in
          subst (λ (one : NewFile). one.level < 7) from.2 (omega arith));
    })
    (record {
      comparator = text;
      log_number = omega (arith, fits);
      previous_log = omega arith;
      next_file = fits;
      last_sequence = small;
      deleted = All-nil (λ it. it.1 < 2 ^ 64);
      ordered = no_deleted;
      added = all_from_contains (λ (file : NewFile). (file.number < 2 ^ 64) × (file.size < 2 ^ 64))
          (files_of_level_one files) (λ file there.
          let fitting = All-contains FitsEdit (files_of_level_one files) file all there in
          (fitting.number, fitting.size));
    })

-- ---- pairs that rise

before_front : (cmp : List ℕ → List ℕ → Ordering) (key : List ℕ) (front rest : List Pair)
    → IsBeforeAll cmp key (front ++ rest) → IsBeforeAll cmp key front
before_front cmp key [] rest all = tt
before_front cmp key (first ∷ front) rest all = (all.0, before_front cmp key front rest all.1)

-- those at the front of pairs that rise
rising_front : (cmp : List ℕ → List ℕ → Ordering) (front rest : List Pair)
    → AreRising cmp (front ++ rest) → AreRising cmp front
rising_front cmp [] rest rising = tt
rising_front cmp (first ∷ front) rest rising =
    (before_front cmp first.0 front rest rising.0, rising_front cmp front rest rising.1)

-- ---- a repair that was begun

module _ {C FP : Type 0} {order : CmpGhosts C} {filters : FilterGhosts FP}
    (choices : TableChoices order filters) {E F : Type 0} (env : EnvGhosts E F) (store : List ℕ)
    (taken : ℕ) (from : E) where
  abbrev old : Files
  old = (env.observed from).disk.files

  -- while tables are written
  abbrev TablesChange : ℕ → E → Type 0
  TablesChange next to = Run (SameButNewTables store (taken + 2) next old) (env.observed from)
      (env.observed to)

  module _ (meaning : Meaning) (is : IsToRepair store old taken) {next : ℕ}
      (begun : taken + 2 ≤ next) (fits : next < 2 ^ 64) where
    at_tables : (now : Files) → SameButNewTables store (taken + 2) next old now
        → IsMomentOfRepair store choices.format meaning old now
    at_tables now same = inr (record {
      taken = taken;
      next = next;
      repairing = tables_repair store taken next old now same is.taken_is begun fits;
      some = is.some;
      current = inl (current_stays store taken next old now same);
    })

    -- each new table is a part of one of found entries
    abbrev ArePartsOfFound : Files → Type 0
    ArePartsOfFound = HaveTableParts choices (HasFoundEntry choices store meaning old) store
        (taken + 2) next old

    tables_parts : {to : E} → TablesChange next to
        → Run ArePartsOfFound (env.observed from) (env.observed to)
        → Run (IsOldOrPartlyRepaired choices store meaning old) (env.observed from)
        (env.observed to)
    tables_parts tables parts = Run-mono
        (λ now (both : SameButNewTables store (taken + 2) next old now × ArePartsOfFound now).
        inr (record {
          taken = taken;
          next = next;
          repairing = tables_repair store taken next old now both.0 is.taken_is begun fits;
          parts = both.1;
        })) (run_both tables parts)

    -- ---- the manifest

    module _ (modelled : IsTrue env.models_disk) (agrees : Agrees choices.format meaning)
        {pairs : List Pair} {found : LookedOver}
        (all : AreAllFound store choices.format old pairs found)
        {files : List FileMetaData} {end : E}
        (written : HasWritten choices env store (taken + 2) pairs next files end)
        (tables : TablesChange next end)
        (can : IsEncodable (repaired_edit choices.format.order_name next found.last
        (files_of_level_one files))) where
      abbrev name : List ℕ
      name = choices.format.order_name

      abbrev these : List NewFile
      these = files_of_level_one files

      abbrev at_end : Files
      at_end = (env.observed end).disk.files

      repaired : AreRepairedOf choices env store meaning (taken + 1) next found.last pairs files end
      repaired = let numbered = all.numbered in
          tables_repaired choices env store meaning taken old modelled agrees written all.looked
          numbered.each numbered.numbered is.taken_is tables.has

      manifest : ManifestRepairs store choices.format.order (IsTableOf choices.format.order meaning)
          name (taken + 1) next found.last repaired.tables at_end
      manifest = manifest_repairs store choices.format.order (IsTableOf choices.format.order meaning)
          name (taken + 1) next found.last repaired.tables (omega (arith, begun, fits)) at_end
          repaired.has
          (subst (λ (added : List NewFile). IsEncodable (repaired_edit name next found.last added))
          (sym repaired.files_are) can)

      abbrev bytes : List ℕ
      bytes = repaired_manifest name next found.last these

      -- the files are repaired
      unfoldable is_repair : (now : Files) → IsAmidRepair store taken next old now
          → IsRepairedStore store choices.format.order (IsTableOf choices.format.order meaning) name
          (taken + 1) next found.last repaired.tables now
          → HoldsAllFound store choices.format meaning old now
      is_repair now repairing done = record {
        taken = taken;
        next = next;
        last = found.last;
        tables = repaired.tables;
        repairing = repairing;
        repaired = done;
        found = λ more decodes. subst (AreFound store (IsAnyTable choices.format.order more) old)
            (sym repaired.entries_are) (all.found_is more decodes);
      }

      manifest_same : with_manifest store (taken + 1) bytes at_end
          ≡ with_manifest store (taken + 1)
          (repaired_manifest name next found.last (files_of_tables repaired.tables)) at_end
      manifest_same = ap (λ (added : List NewFile). with_manifest store (taken + 1)
          (repaired_manifest name next found.last added) at_end) (sym repaired.files_are)

      while_named : (now : Files) → MakingManifest store (taken + 1) bytes at_end now
          → IsAmidRepair store taken next old now
      while_named now making = manifests_go_on store taken next bytes old at_end now
          (tables_repair store taken next old at_end tables.has is.taken_is begun fits) making

      at_named : (now : Files) → MakingManifest store (taken + 1) bytes at_end now
          → IsMomentOfRepair store choices.format meaning old now
      at_named now making = inr (record {
        taken = taken;
        next = next;
        repairing = while_named now making;
        some = is.some;
        current = ⊎_elim
            (λ (same : now (current_path store) ≡ at_end (current_path store)).
            inl (same ∙ current_stays store taken next old at_end tables.has))
            (λ (done : IsRepairedStore store choices.format.order
            (IsTableOf choices.format.order meaning) name (taken + 1) next found.last
            repaired.tables now). inr (is_repair now (while_named now making) done))
            (manifest.meanwhile now (subst (λ (added : List NewFile).
            MakingManifest store (taken + 1) (repaired_manifest name next found.last added)
            at_end now) (sym repaired.files_are) making));
      })

      -- no table is the manifest or its temporary file
      table_stays : (now : Files) → MakingManifest store (taken + 1) bytes at_end now → (n : ℕ)
          → n < next → now (table_path store n) ≡ at_end (table_path store n)
      table_stays now making n below =
          let small : taken + 1 < 2 ^ 64 = omega (arith, begun, fits) in
          let table = made_name Table n (omega (arith, below, fits)) in
          making.others (table_path store n)
          (kinds_apart store (file_name Descriptor (taken + 1)) (file_name Table n) (taken + 1) n
          Descriptor Table (made_name Descriptor (taken + 1) small) table (λ d. cc))
          (kinds_apart store (file_name Temp (taken + 1)) (file_name Table n) (taken + 1) n Temp
          Table (made_name Temp (taken + 1) small) table (λ d. cc))
          (kinds_apart store (file_name Current 0) (file_name Table n) 0 n Current Table
          (made_name Current 0 refl) table (λ d. cc))

      module _ {to : E} {result : Result (Unit {0}) Status}
          (makes : ChangesFiles env.models_disk (with_manifest store (taken + 1) bytes)
          (MakingManifest store (taken + 1) bytes) (env.observed end) (env.observed to) result)
        where
          named_moments : Run (IsMomentOfRepair store choices.format meaning old) (env.observed from)
              (env.observed to)
          named_moments = Run-trans (Run-mono at_tables tables) at_named (Run-call modelled makes)

          named_parts : Run ArePartsOfFound (env.observed from) (env.observed end)
              → Run (IsOldOrPartlyRepaired choices store meaning old) (env.observed from)
              (env.observed to)
          named_parts parts = Run-trans (tables_parts tables parts)
              (λ now (making : MakingManifest store (taken + 1) bytes at_end now). inr (record {
                taken = taken;
                next = next;
                repairing = while_named now making;
                parts = λ n first below. same_or_part choices
                    (HasFoundEntry choices store meaning old) (table_stays now making n below)
                    (parts.has n first below);
              })) (Run-call modelled makes)

          named_run : Run (IsAmidRepair store taken next old) (env.observed from) (env.observed to)
          named_run = Run-trans (Run-mono (λ now same.
              tables_repair store taken next old now same is.taken_is begun fits) tables)
              while_named (Run-call modelled makes)

          -- once it is named, all is repaired
          named_repair : (env.observed to).disk.files
              ≡ with_manifest store (taken + 1) bytes at_end
              → (it : HoldsAllFound store choices.format meaning old (env.observed to).disk.files)
              × Run (IsAmidRepair store it.taken it.next old) (env.observed from)
              (env.observed to)
          unfolding is_repair
          named_repair done = (
            is_repair (env.observed to).disk.files named_run.has (subst (IsRepairedStore store
                choices.format.order (IsTableOf choices.format.order meaning) name (taken + 1) next
                found.last repaired.tables) (sym (done ∙ manifest_same)) manifest.after),
            named_run,
          )

-- ---- the walk that is written

module _ {C FP : Type 0} {order : CmpGhosts C} {filters : FilterGhosts FP}
    (choices : TableChoices order filters) {E F T W : Type 0} (env : EnvGhosts E F)
    (store : List ℕ) (taken : ℕ) (walk : WalkGhosts W E T) (start : E × T) (it : W) (from : E)
    (found : LookedOver) (leaves : LeavesFiles env from start.0)
    (is : IsOverAll choices env store taken walk start it from found) where
  abbrev before : Files
  before = (env.observed from).disk.files

  tables_change : {next : ℕ} {end : E} → IsTrue env.models_disk
      → ChangesNewTables env store (taken + 2) next start.0 end
      → TablesChange choices env store taken from next end
  tables_change {next} modelled changes =
      let first = leaves.run modelled in
      Run-trans (Run-mono (λ now same path apart. ap (λ (files : Files). files path) same) first)
      (λ now (same : SameButNewTables store (taken + 2) next (env.observed start.0).disk.files now)
      path apart. same path apart ∙ ap (λ (files : Files). files path) first.has)
      (changes.run modelled)

  -- at each moment new tables are parts of such as have some of the walk's pairs
  abbrev HasParts : ℕ → E → Type 0
  HasParts next end = BearsNewTables env walk store (taken + 2) start → (pairs : List Pair)
      → walk.over start it (key_order order choices.cmp) pairs → IsTrue env.models_disk
      → Run (HaveTableParts choices (Contains pairs) store (taken + 2) next
      (env.observed start.0).disk.files) (env.observed start.0) (env.observed end)

  -- so they are parts of such as have found entries
  found_parts : {next : ℕ} {end : E} → HasParts next end → IsTrue env.models_disk
      → (meaning : Meaning) → Agrees choices.format meaning
      → Run (HaveTableParts choices (HasFoundEntry choices store meaning before) store (taken + 2)
      next before) (env.observed from) (env.observed end)
  found_parts {next} {end} parts modelled meaning agrees =
      let all = is.over modelled in
      let first = leaves.run modelled in
      Run-trans (Run-mono (λ now same n low high.
      inl (ap (λ (files : Files). files (table_path store n)) same)) first)
      (λ now (its : HaveTableParts choices (Contains all.1) store (taken + 2) next
      (env.observed start.0).disk.files now) n low high.
      by all.1 all.3 (ap (λ (files : Files). files (table_path store n)) first.has)
      (its n low high))
      (parts is.bears all.1 all.2 modelled)
    where
      by : (pairs : List Pair) → AreAllFound store choices.format before pairs found
          → {old mid now : Option File} → mid ≡ old → IsSameOrPart choices (Contains pairs) mid now
          → IsSameOrPart choices (HasFoundEntry choices store meaning before) old now
      by pairs all same (inl still) = inl (still ∙ same)
      by pairs all same (inr (file, there, part)) = inr (
        file,
        there,
        part_weaker choices (bytes_of file) (λ pair c.
            (all.found_is meaning (decodes_by agrees) (entry_of_pair pair)).0
            (map_in entry_of_pair pairs pair c)) part,
      )

  -- it isn't ended
  not_ended : {next : ℕ} {end : E} {status : Status} → taken + 2 ≤ next → next < 2 ^ 64
      → ChangesNewTables env store (taken + 2) next start.0 end → HasParts next end
      → FailsBetweenOr env (WhyNotEnded choices env store from status) from end status
      → RepairsStore choices env store from (Err status) end
  not_ended {end = end} {status = status} begun fits changes parts cause = record {
    ok = tt;
    moments = λ modelled meaning agrees. Run-mono
        (at_tables choices env store taken from meaning (is.over modelled).0 begun fits)
        (tables_change modelled changes);
    parts = λ modelled meaning agrees.
        tables_parts choices env store taken from meaning (is.over modelled).0 begun fits
        (tables_change modelled changes) (found_parts parts modelled meaning agrees);
    bytes = λ modelled appended. changes.bytes modelled
        (subst AppendedAreBytes (sym (leaves.run modelled).has) appended);
    locks = λ modelled. changes.locks modelled ∙ leaves.locks modelled;
    later = let one = leaves.later in let other = changes.later in omega (arith, one, other);
    cause = fails_weaker env from end status (λ (why : WhyNotEnded choices env store from status). inr why)
        cause;
  }

  -- what is read is in place
  read_in_place : IsTrue env.models_disk → (read : List Pair)
      → (BearsNewTables env walk store (taken + 2) start → (pairs : List Pair)
      → walk.over start it (key_order order choices.cmp) pairs
      → (rest : List Pair) × (pairs ≡ read ++ rest))
      → AreRead (merge_of_all choices store) read
  read_in_place modelled read begins =
      let all = is.over modelled in
      let front = begins is.bears all.1 all.2 in
      let found_is = all.3 in
      let looked = found_is.looked in
      record {
        tagged = λ pair there. looked.tagged pair
            (subst (λ (ps : List Pair). Contains ps pair) (sym front.1)
            (Contains-append_left read front.0 pair there));
        rising = rising_front (internal_cmp choices.format.order) read front.0
            (subst (AreRising (internal_cmp choices.format.order)) front.1 found_is.rising);
        among = λ pair there. refl;
      }

  -- and found
  read_found : IsTrue env.models_disk → (read : List Pair)
      → (BearsNewTables env walk store (taken + 2) start → (pairs : List Pair)
      → walk.over start it (key_order order choices.cmp) pairs
      → (rest : List Pair) × (pairs ≡ read ++ rest))
      → ArePairsFound store before choices.format read
  read_found modelled read begins =
      let all = is.over modelled in
      let front = begins is.bears all.1 all.2 in
      let found_is = all.3 in
      record {
        rising = (read_in_place modelled read begins).rising;
        found = λ meaning agrees entry there.
            let from_pair = in_map entry_of_pair read entry there in
            (found_is.found_is meaning (decodes_by agrees) entry).0
            (subst (Contains (entries_of_pairs all.1)) from_pair.2
            (map_in entry_of_pair all.1 from_pair.0
            (subst (λ (ps : List Pair). Contains ps from_pair.0) (sym front.1)
            (Contains-append_left read front.0 from_pair.0 from_pair.1))));
      }

  -- if the numbers are used up, too many pairs are found
  many_found : {later : ℕ} → later ≡ 2 ^ 64 - 1
      → (BearsNewTables env walk store (taken + 2) start → (pairs : List Pair)
      → walk.over start it (key_order order choices.cmp) pairs
      → later ≤ taken + 2 + length pairs)
      → IsTrue env.models_disk → AreTooManyFound store before choices.format
  many_found most few modelled =
      let all = is.over modelled in
      let found_is = all.3 in
      let repairs = all.0 in
      let given = few is.bears all.1 all.2 in
      record {
        taken = taken;
        taken_is = repairs.taken_is;
        pairs = all.1;
        found = record {
          rising = found_is.rising;
          found = λ meaning agrees entry there.
              (found_is.found_is meaning (decodes_by agrees) entry).0 there;
        };
        too_many = omega (arith, most, given);
      }

  -- why writing stopped
  write_cause : {later : ℕ} {end : E × T} {status : Status}
      → env.failures from ≤ env.failures start.0
      → (BearsNewTables env walk store (taken + 2) start → (pairs : List Pair)
      → walk.over start it (key_order order choices.cmp) pairs
      → later ≤ taken + 2 + length pairs)
      → FailsOnWay env walk store (taken + 2) start it end status
      ⊎ ((mid : ℕ) × (env.failures start.0 ≤ mid) × (read : List Pair)
      × (BearsNewTables env walk store (taken + 2) start → (pairs : List Pair)
      → walk.over start it (key_order order choices.cmp) pairs
      → (rest : List Pair) × (pairs ≡ read ++ rest))
      × FailsToWrite (IsMergeFault (merge_of_all choices store) later read) mid
      (env.failures end.0) (failed status))
      → FailsBetweenOr env (WhyNotEnded choices env store from status) from end.0 status
  write_cause {end = end} {status = status} counted few (inl way) =
      fails_weaker env from end.0 status (λ (why : HasLackCode env choices.format.codings status
      × (IsTrue env.models_disk → ⊥)). inr (inr why))
      (is.fails end status (way.from_start is.bears))
  write_cause {later} {end} {status} counted few (inr (mid, least, read, begins, fails)) =
      by fails.cause
    where
      by : (IsOutOfMemory status ⊎ (IsMergeFault (merge_of_all choices store) later read status
          × (env.failures end.0 ≡ mid)))
          ⊎ (env.failures end.0 ≡ mid + 1)
          ⊎ ((mid ≡ 2 ^ 64 - 1) × (env.failures end.0 ≡ mid))
          → FailsBetweenOr env (WhyNotEnded choices env store from status) from end.0 status
      by (inl (inl memory)) = inl memory
      by (inl (inr (inl not_built, same))) = inr (inr (inr (inl (
        read,
        λ modelled. read_found modelled read begins,
        not_built,
      ))))
      by (inl (inr (inr (inl used_up), same))) =
          inr (inr (inr (inr (inl (used_up.code, many_found used_up.last few)))))
      by (inl (inr (inr (inr (code, misplaced)), same))) = inr (inr (inr (inr (inr (
        inl code,
        λ modelled. misplaced (read_in_place modelled read begins),
      )))))
      by (inr (inl more)) = inr (inl (omega (arith, counted, least, more)))
      by (inr (inr (most, same))) = inr (inr (inl (same ∙ most)))

  pub unwritten : {later : ℕ} {end : E × T} {status : Status} {X : Type 0}
      (items : X → List FileMetaData) → taken + 2 ≤ later → later < 2 ^ 64
      → WritesFound choices env store (taken + 2) walk items start it (Err status) later end
      → RepairsStore choices env store from (Err status) end.0
  unwritten items begun fits writes =
      not_ended begun fits writes.changes writes.parts
      (write_cause leaves.later writes.few writes.cause)

  -- the numbers are used up
  pub used_up : {later : ℕ} {end : E} {status : Status} → taken + 2 ≤ later
      → later ≡ 2 ^ 64 - 1 → ChangesNewTables env store (taken + 2) later start.0 end
      → HasParts later end
      → (BearsNewTables env walk store (taken + 2) start → (pairs : List Pair)
      → walk.over start it (key_order order choices.cmp) pairs
      → later ≤ taken + 2 + length pairs)
      → status.code ≡ NotSupported → RepairsStore choices env store from (Err status) end
  used_up begun most changes parts few code = not_ended begun (omega (arith, most)) changes parts
      (inr (inr (inr (inr (inl (code, many_found most few))))))

  -- memory is out
  pub no_memory : {later : ℕ} {end : E} {status : Status} → taken + 2 ≤ later
      → later < 2 ^ 64 → ChangesNewTables env store (taken + 2) later start.0 end
      → HasParts later end → IsOutOfMemory status
      → RepairsStore choices env store from (Err status) end
  no_memory begun fits changes parts memory = not_ended begun fits changes parts (inl memory)

  module _ {next : ℕ} {end : E} {files : List FileMetaData} {read : List Pair}
      (begun : taken + 2 ≤ next) (fits : next + 1 < 2 ^ 64)
      (changes : ChangesNewTables env store (taken + 2) next start.0 end) (parts : HasParts next end)
      (written : HasWritten choices env store (taken + 2) read next files end)
      (all : BearsNewTables env walk store (taken + 2) start → (pairs : List Pair)
      → walk.over start it (key_order order choices.cmp) pairs → pairs ≡ read)
      (text : IsUtf8 choices.format.order_name) where
    can : IsEncodable (repaired_edit choices.format.order_name next found.last
        (files_of_level_one files))
    can = repaired_encodable choices.format.order_name next found.last files text fits is.fits
        written.fit

    small_next : next < 2 ^ 64
    small_next = omega (arith, fits)

    all_read : IsTrue env.models_disk → AreAllFound store choices.format before read found
    all_read modelled =
        let over = is.over modelled in
        subst (λ (pairs : List Pair). AreAllFound store choices.format before pairs found)
        (all is.bears over.1 over.2) over.3

    abbrev edit : Edit
    edit = repaired_edit choices.format.order_name next found.last (files_of_level_one files)

    module _ {to : E} {result : Result (Unit {0}) Status}
        (makes : MakesManifest env.models_disk store (taken + 1) edit (env.observed end)
        (env.failures end) result (env.observed to) (env.failures to)) where
      ended_moments : IsTrue env.models_disk → (meaning : Meaning)
          → Agrees choices.format meaning
          → Run (IsMomentOfRepair store choices.format meaning before) (env.observed from)
          (env.observed to)
      ended_moments modelled meaning agrees = named_moments choices env store taken from meaning
          (is.over modelled).0 begun small_next modelled agrees (all_read modelled) written
          (tables_change modelled changes) can (makes.does modelled)

      ended_parts : IsTrue env.models_disk → (meaning : Meaning) → Agrees choices.format meaning
          → Run (IsOldOrPartlyRepaired choices store meaning before) (env.observed from)
          (env.observed to)
      ended_parts modelled meaning agrees = named_parts choices env store taken from meaning
          (is.over modelled).0 begun small_next modelled agrees (all_read modelled) written
          (tables_change modelled changes) can (makes.does modelled)
          (found_parts parts modelled meaning agrees)

      ended_bytes : IsTrue env.models_disk → AppendedAreBytes before
          → AppendedAreBytes (env.observed to).disk.files
      ended_bytes modelled appended = makes.bytes modelled (changes.bytes modelled
          (subst AppendedAreBytes (sym (leaves.run modelled).has) appended))

      counted : env.failures from ≤ env.failures end
      counted = let one = leaves.later in let other = changes.later in omega (arith, one, other)

    -- why it isn't named
    ended_cause : {to : E} {status : Status} → env.failures from ≤ env.failures end
        → IsLostUnobserved env.models_disk (temp_path store (taken + 1)) (env.failures end)
        (env.failures to) status ⊎ (env.failures to ≡ env.failures end + 1)
        ⊎ ((env.failures end ≡ 2 ^ 64 - 1) × (env.failures to ≡ env.failures end))
        → FailsBetweenOr env ((WhyNotBegun env choices.format store from status
        × (IsTrue env.models_disk → Run (FilesUnchanged before) (env.observed from)
        (env.observed to))) ⊎ WhyNotEnded choices env store from status) from to status
    ended_cause least (inl (inl memory)) = inl memory
    ended_cause least (inl (inr (missing, none, same))) =
        inr (inr (inr (inr (inr (inr (inl missing.code, none))))))
    ended_cause least (inr (inl more)) = inr (inl (omega (arith, least, more)))
    ended_cause least (inr (inr (most, same))) = inr (inr (inl (same ∙ most)))

    -- the manifest is made, or it isn't
    pub ended : {to : E} (result : Result (Unit {0}) Status)
        → MakesManifest env.models_disk store (taken + 1) edit (env.observed end)
        (env.failures end) result (env.observed to) (env.failures to)
        → RepairsStore choices env store from result to
    ended (Ok done) makes = record {
      ok = λ modelled meaning agrees.
          let does = makes.does modelled in
          named_repair choices env store taken from meaning (is.over modelled).0 begun small_next
          modelled agrees (all_read modelled) written (tables_change modelled changes) can does
          (does.ok modelled);
      moments = ended_moments makes;
      parts = ended_parts makes;
      bytes = ended_bytes makes;
      locks = λ modelled. makes.locks modelled ∙ changes.locks modelled ∙ leaves.locks modelled;
      later = let one = counted makes in let other = makes.cause in
          let least = other.later in omega (arith, one, least);
      cause = tt;
    }
    ended (Err status) makes = record {
      ok = tt;
      moments = ended_moments makes;
      parts = ended_parts makes;
      bytes = ended_bytes makes;
      locks = λ modelled. makes.locks modelled ∙ changes.locks modelled ∙ leaves.locks modelled;
      later = let one = counted makes in let other = makes.cause in
          let least = other.later in omega (arith, one, least);
      cause = ended_cause (counted makes) makes.cause.cause;
    }
