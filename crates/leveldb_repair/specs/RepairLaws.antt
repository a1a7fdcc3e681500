-- What holds of a repair and of another one after it. These are the statements that the contracts
-- of module `laws` name.
use Rattle.std.specs.Prelude.{◌≡◌, ◌++◌, ℕ, List, None, Some}
use Rattle.leveldb_base.specs.History.{Entry, SameView}
use Rattle.leveldb_base.specs.Types.{Pair}
use Rattle.leveldb_base.specs.declared.cmp.Cmp.{Ghosts as CmpGhosts}
use Rattle.leveldb_env.specs.Env.{File, Files, FilesCrashTo, bytes_of}
use Rattle.leveldb_env.specs.declared.filter.FilterPolicy.{Ghosts as FilterGhosts}
use Rattle.leveldb_files.specs.Stores.Format.{Agrees, Format, Meaning}
use Rattle.leveldb_version_set.specs.Repairs.Found.{IsAnyTable, IsReadable}
use Rattle.leveldb_files.specs.Levels.Levels.{table_entries}
use Rattle.leveldb_files.specs.Stores.Paths.{table_path}
use Rattle.leveldb_version_set.specs.Repairs.Repairing.{SameFound}
use Rattle.leveldb_files.specs.Stores.Store.{SameEntries}
use Rattle.leveldb_files.specs.Steps.StoreSteps.{IsKept}
use Rattle.leveldb_store.specs.Tables.BuildTable.{TableChoices}
use Rattle.leveldb_store.specs.Tables.TableParts.{IsBuiltOf, IsTablePart}
use Rattle.leveldb_repair.specs.RepairStore.{HasFoundEntry, HoldsAllFound, IsPartlyRepaired}

-- of the files that a repair left the same entries are found as of the old ones
abbrev pub RepairLeavesFound : List ℕ → Type 0
RepairLeavesFound store = (format : Format) (meaning : Meaning) (old new : Files)
    → Agrees format meaning → HoldsAllFound store format meaning old new
    → SameFound store (IsAnyTable format.order meaning) old new

-- So they are of what a crash leaves of them, where all bytes of the old files were kept.
abbrev pub CrashLeavesFound : List ℕ → Type 0
CrashLeavesFound store = (format : Format) (meaning : Meaning) (old new left : Files)
    → Agrees format meaning → HoldsAllFound store format meaning old new
    → ((path : List ℕ) → IsKept (old path)) → FilesCrashTo new left
    → SameFound store (IsAnyTable format.order meaning) old left

-- Another repair, of the files that the first one left, makes tables of the same entries, which
-- show the same at every number.
abbrev pub AnotherRepairChangesNothing : List ℕ → Type 0
AnotherRepairChangesNothing store = (format : Format) (meaning : Meaning) (old mid new : Files)
    → Agrees format meaning → (first : HoldsAllFound store format meaning old mid)
    → (second : HoldsAllFound store format meaning mid new)
    → SameEntries (table_entries first.tables) (table_entries second.tables)
    × ((t : ℕ) → SameView (table_entries first.tables) (table_entries second.tables) t)

-- ---- a repair that goes on, or didn't end

module _ {C FP : Type 0} {order : CmpGhosts C} {filters : FilterGhosts FP}
    (choices : TableChoices order filters) (store : List ℕ) (meaning : Meaning) (old : Files) where
  abbrev IsAny : List ℕ → List Pair → Type 0
  IsAny = IsAnyTable choices.format.order meaning

  -- of the tables that weren't there before, one of which there is a part alone isn't readable: it
  -- is only if it is whole
  abbrev pub OnlyWholeIsReadable : Files → Type 0
  OnlyWholeIsReadable now = (n : ℕ) (file : File) (entries : List Entry)
      → old (table_path store n) ≡ None → now (table_path store n) ≡ Some file
      → IsTablePart choices (HasFoundEntry choices store meaning old) (bytes_of file)
      → IsReadable IsAny (bytes_of file) entries
      → IsBuiltOf choices (HasFoundEntry choices store meaning old) (bytes_of file)

  -- Of such a table a crash leaves a prefix of what was there, or bytes that aren't readable.
  abbrev pub MakesUpNoTable : Files → Files → Type 0
  MakesUpNoTable now left = (n : ℕ) (was file : File) (entries : List Entry)
      → old (table_path store n) ≡ None → now (table_path store n) ≡ Some was
      → left (table_path store n) ≡ Some file → IsReadable IsAny (bytes_of file) entries
      → (rest : List ℕ) × (bytes_of was ≡ bytes_of file ++ rest)

-- So far as a repair has come, the same entries are found, if no part of a table is readable that
-- isn't whole.
abbrev pub MomentsLeaveFound : {C FP : Type 0} {order : CmpGhosts C} {filters : FilterGhosts FP}
    → TableChoices order filters → List ℕ → Type 0
MomentsLeaveFound choices store = (meaning : Meaning) (old now : Files)
    → Agrees choices.format meaning → IsPartlyRepaired choices store meaning old now
    → OnlyWholeIsReadable choices store meaning old now
    → SameFound store (IsAnyTable choices.format.order meaning) old now

-- So they are of what a crash leaves then, where all bytes of the old files were kept, if it makes
-- up no table.
abbrev pub CrashesInsideLeaveFound : {C FP : Type 0} {order : CmpGhosts C}
    {filters : FilterGhosts FP} → TableChoices order filters → List ℕ → Type 0
CrashesInsideLeaveFound choices store = (meaning : Meaning) (old now left : Files)
    → Agrees choices.format meaning → IsPartlyRepaired choices store meaning old now
    → ((path : List ℕ) → IsKept (old path)) → FilesCrashTo now left
    → MakesUpNoTable choices store meaning old now left
    → OnlyWholeIsReadable choices store meaning old left
    → SameFound store (IsAnyTable choices.format.order meaning) old left
