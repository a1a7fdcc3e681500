-- What is found of the files that a repair left: its tables have what was found before, and no other
-- table or log is new.
use Rattle.std.specs.Option.{option_map}
use Rattle.std.specs.Prelude.{Contains}
use Rattle.std.proofs.Common.{◌≡◌, ◌≤◌, ◌<◌, ◌+◌, ◌∙◌, ℕ, List, [], Option, None, Some, sym, ap, subst, arith}
use Rattle.leveldb_base.proofs.EntriesLemmas.{in_map}
use Rattle.leveldb_base.proofs.HistoryLemmas.{same_sets}
use Rattle.leveldb_base.specs.History.{Entry}
use Rattle.leveldb_base.specs.Types.{Pair}
use Rattle.leveldb_env.specs.Env.{File, Files, FilesCrashTo, bytes_of}
use Rattle.leveldb_files.proofs.Stores.KeptLemmas.{kept_left}
use Rattle.leveldb_files.proofs.Stores.OneStoreLemmas.{flat_in}
use Rattle.leveldb_version_set.proofs.Repairs.RepairingFoundLemmas.{crash_leaves_found, found_stays, table_is_readable}
use Rattle.leveldb_files.proofs.Histories.SafeLemmas.{some_is}
use Rattle.leveldb_files.specs.Stores.Format.{Agrees, Format, IsTableOf, Meaning}
use Rattle.leveldb_version_set.specs.Repairs.Found.{IsAnyTable, IsFound, IsReadable}
use Rattle.leveldb_files.specs.Levels.Levels.{LiveTable, table_entries}
use Rattle.leveldb_files.specs.Stores.Paths.{table_path}
use Rattle.leveldb_version_set.specs.Repairs.Repairing.{SameFound}
use Rattle.leveldb_files.specs.Stores.Store.{HasTable, SameEntries}
use Rattle.leveldb_files.specs.Steps.StoreSteps.{IsKept}
use Rattle.leveldb_repair.proofs.RepairStoreLemmas.{decodes_by}
use Rattle.leveldb_repair.specs.RepairLaws.{AnotherRepairChangesNothing, CrashLeavesFound, RepairLeavesFound}
use Rattle.leveldb_repair.specs.RepairStore.{HoldsAllFound}

-- the bytes of a file, none where it is missing
abbrev pub bytes_at : Option File → List ℕ
bytes_at None = []
bytes_at (Some file) = bytes_of file

bytes_there : (file : Option File) (bytes : List ℕ) → option_map bytes_of file ≡ Some bytes
    → bytes_at file ≡ bytes
bytes_there None bytes is = absurd (let never : None ≡ Some bytes = is in cc)
bytes_there (Some file) bytes is = some_is (bytes_of file) bytes is

module _ (store : List ℕ) (format : Format) (meaning : Meaning) (old new : Files)
    (agrees : Agrees format meaning) (it : HoldsAllFound store format meaning old new) where
  abbrev IsAny : List ℕ → List Pair → Type 0
  IsAny = IsAnyTable format.order meaning

  -- the bytes of a table that the repair made
  abbrev meant : ℕ → List ℕ
  meant n = bytes_at (new (table_path store n))

  -- a table of the repair has found entries alone
  table_found : (table : LiveTable) → Contains it.tables table
      → HasTable store format.order (IsTableOf format.order meaning) new table
      → (entries : List Entry) (entry : Entry)
      → IsReadable IsAny (meant table.file.number) entries → Contains entries entry
      → IsFound store IsAny old entry
  table_found table there has entries entry readable c =
      let bytes : meant table.file.number ≡ bytes_of has.file = ap bytes_at has.there in
      let same = ((table_is_readable store format.order meaning new table has entries).0
      (subst (λ b. IsReadable IsAny b entries) bytes readable)).0 in
      (it.found meaning (decodes_by agrees) entry).0
      (flat_in (λ (one : LiveTable). one.entries) it.tables table entry there
      (subst (λ es. Contains es entry) same c))

  -- each number that the repair gave is that of one of its tables
  new_table : (n : ℕ) → it.taken + 2 ≤ n → n < it.next
      → (table : LiveTable) × Contains it.tables table × (table.file.number ≡ n)
  new_table n from below =
      let has = it.repaired.has in
      in_map (λ (table : LiveTable). table.file.number) it.tables n
      ((has.numbers n).1 (omega (arith, from), below))

  new_found : (n : ℕ) (entries : List Entry) (entry : Entry) → it.taken + 2 ≤ n → n < it.next
      → IsReadable IsAny (meant n) entries → Contains entries entry
      → IsFound store IsAny old entry
  new_found n entries entry from below readable c =
      let has = it.repaired.has in
      let at = new_table n from below in
      table_found at.0 at.1 (has.level_one.each at.0 at.1).0 entries entry
      (subst (λ m. IsReadable IsAny (meant m) entries) (sym at.2) readable) c

  new_kept : (n : ℕ) → it.taken + 2 ≤ n → n < it.next → IsKept (new (table_path store n))
  new_kept n from below =
      let has = it.repaired.has in
      let at = new_table n from below in
      subst (λ m. IsKept (new (table_path store m))) at.2 (has.level_one.each at.0 at.1).1

  pub repair_leaves_found : SameFound store IsAny old new
  repair_leaves_found = found_stays store IsAny it.taken it.next old new it.repairing meant new_found
      (λ n file entries from below there readable. sym (ap bytes_at there))

  pub repair_left_found : ((path : List ℕ) → IsKept (old path)) → (left : Files)
      → FilesCrashTo new left → SameFound store IsAny old left
  repair_left_found kept left leaves = crash_leaves_found store IsAny it.taken it.next old new
      it.repairing meant left new_found kept leaves
      (λ n file entries from below there readable.
      let path = table_path store n in
      sym (bytes_there (new path) (bytes_of file)
      (sym (kept_left (new path) (left path) (new_kept n from below) (leaves path))
      ∙ ap (option_map bytes_of) there)))

pub leaves_found : (store : List ℕ) → RepairLeavesFound store
leaves_found store format meaning old new agrees it =
    repair_leaves_found store format meaning old new agrees it

pub crash_leaves : (store : List ℕ) → CrashLeavesFound store
crash_leaves store format meaning old new left agrees it kept leaves =
    repair_left_found store format meaning old new agrees it kept left leaves

pub another_changes_nothing : (store : List ℕ) → AnotherRepairChangesNothing store
another_changes_nothing store format meaning old mid new agrees first second =
    (same, same_sets (table_entries first.tables) (table_entries second.tables) same)
  where
    stays : SameFound store (IsAnyTable format.order meaning) old mid
    stays = repair_leaves_found store format meaning old mid agrees first

    same : SameEntries (table_entries first.tables) (table_entries second.tables)
    same entry =
        let one = first.found meaning (decodes_by agrees) entry in
        let other = second.found meaning (decodes_by agrees) entry in (
          λ c. other.1 ((stays entry).0 (one.0 c)),
          λ c. one.1 ((stays entry).1 (other.0 c)),
        )
