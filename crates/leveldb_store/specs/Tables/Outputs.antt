-- Tables that are written one after another: which pairs each has, where one ends, what their
-- writing leaves of the disk, and why it fails.
use Rattle.std.specs.Prelude.{◌≡◌, ◌≢◌, ◌⊎◌, ◌≤◌, ◌<◌, ◌+◌, ◌-◌, ◌^◌, ◌&&◌, ◌||◌, ℕ, Bool, true, false, not, nat_lt, min, is_some, length, List, [], ◌∷◌, ◌++◌, map, Option, None, Some, Result, IfOk, IfSome, IsTrue, OnOk}
use Rattle.std.specs.Str.{bytes_eq}
use Rattle.std.specs.declared.cmp.Ordering.TheVariants.{Less}
use Rattle.leveldb_base.specs.KeyTypes.{user_part}
use Rattle.leveldb_base.specs.Types.{Pair}
use Rattle.leveldb_base.specs.declared.cmp.Cmp.{Ghosts as CmpGhosts}
use Rattle.leveldb_base.specs.declared.error.Status.{Status}
use Rattle.leveldb_base.specs.declared.error.StatusCode.TheVariants.{Corruption}
use Rattle.leveldb_base.specs.declared.types.FileMetaData.{FileMetaData}
use Rattle.leveldb_env.specs.Env.{AreBytes, Files, Run, SameLocks}
use Rattle.leveldb_env.specs.declared.env.Env.{Ghosts as EnvGhosts}
use Rattle.leveldb_env.specs.declared.filter.FilterPolicy.{Ghosts as FilterGhosts}
use Rattle.leveldb_table.specs.BlockBuilder.{last_added}
use Rattle.leveldb_table.specs.TableBuilder.{IsNewBuilder, TableBuilt, last_of, order_of, table_estimate}
use Rattle.leveldb_files.specs.Stores.Paths.{table_path}
use Rattle.leveldb_files.specs.Stores.Store.{IsFirstKey}
use Rattle.leveldb_files.specs.Steps.StoreSteps.{AppendedAreBytes}
use Rattle.leveldb_version_set.specs.Sets.VersionSetValue.{AreFileNumbersUsedUp}
use Rattle.leveldb_store.specs.Tables.BuildTable.{AreSomeNotBuilt, HasTaken, IsNotBuilt, IsTableFile, TableChoices, puts_all}
use Rattle.leveldb_store.specs.Tables.TableFile.{FailsToWrite}
use Rattle.leveldb_store.specs.Tables.TableParts.{WritesParts}
use Rattle.leveldb_store.specs.declared.table_file.TableFile.{TableFile}

-- ---- what the outputs are

-- the table that is open, whether it ends before the next user key, and the metadata of those that
-- are finished
pub record OutputsValue (E C FP F : Type 0) : Type 0 where
  pub unfinished : Option (TableFile E C FP F)
  pub ends : Bool
  pub done : List FileMetaData

-- no table
abbrev pub no_outputs : {E C FP F : Type 0} → OutputsValue E C FP F
no_outputs = record { unfinished = None; ends = false; done = [] }

-- The open table is to end before this key: it is past the limit, or `end_table` asked for its end,
-- and its last key is of another user key.
abbrev pub is_due_in : {E C FP F : Type 0} → ℕ → List ℕ → Bool → Option (TableFile E C FP F) → Bool
is_due_in limit key ends None = false
is_due_in limit key ends (Some table) =
    (ends || nat_lt limit (min (table_estimate table.core) (2 ^ 64 - 1)))
    && not (bytes_eq (user_part (last_of table.core)) (user_part key))

-- the same of all outputs
abbrev pub is_due : {E C FP F : Type 0} → ℕ → List ℕ → OutputsValue E C FP F → Bool
is_due limit key outputs = is_due_in limit key outputs.ends outputs.unfinished

-- whether the open table is to end, after a pair was put into it or into a new one
abbrev pub ends_after : {E C FP F : Type 0} → Bool → OutputsValue E C FP F → Bool
ends_after true outputs = false
ends_after false outputs = is_some outputs.unfinished && outputs.ends

-- ---- which pairs the tables have

-- one table more, if it has pairs
abbrev pub with_table : List (List Pair) → List Pair → List (List Pair)
with_table tables [] = tables
with_table tables (pair ∷ pairs) = tables ++ (pair ∷ pairs) ∷ []

-- the finished tables, after the open one ended or not
abbrev pub tables_after : Bool → List (List Pair) → List Pair → List (List Pair)
tables_after true tables pairs = with_table tables pairs
tables_after false tables pairs = tables

-- the pairs of the open one, after a pair was put into it or into a new one
abbrev pub pairs_after : Bool → List Pair → Pair → List Pair
pairs_after true pairs pair = pair ∷ []
pairs_after false pairs pair = pairs ++ pair ∷ []

-- the user key of a table's last pair isn't that of the first pair that follows, where there is one
abbrev pub IsCutBefore : List Pair → List Pair → Type 0
IsCutBefore table [] = Unit {0}
IsCutBefore table (next ∷ pairs) = user_part (last_added table) ≢ user_part next.0

-- each table and the one after it are cut between two user keys, and so are the last one and these
-- pairs
abbrev pub AreCutBefore : List Pair → List (List Pair) → Type 0
AreCutBefore pairs [] = Unit {0}
AreCutBefore pairs (table ∷ []) = IsCutBefore table pairs
AreCutBefore pairs (table ∷ next ∷ tables) =
    IsCutBefore table next × AreCutBefore pairs (next ∷ tables)

-- the numbers from the first on and below the next, one after another
abbrev pub AreNextNumbers : ℕ → ℕ → List ℕ → Type 0
AreNextNumbers first next [] = first ≡ next
AreNextNumbers first next (number ∷ numbers) =
    (number ≡ first) × AreNextNumbers (first + 1) next numbers

-- the numbers of the finished tables, and that of the open one
abbrev pub numbers_of : {E C FP F : Type 0} → List FileMetaData → Option (TableFile E C FP F)
    → List ℕ
numbers_of done None = map (λ file. file.num) done
numbers_of done (Some table) = map (λ file. file.num) done ++ table.number ∷ []

module _ {C FP : Type 0} {order : CmpGhosts C} {filters : FilterGhosts FP}
    (choices : TableChoices order filters) {E F : Type 0} (env : EnvGhosts E F)
    (store : List ℕ) where
  -- The table is open under its number, and its builder has taken these pairs since it was a new
  -- one of the choices: what it put is in its file, and a crash keeps none of it yet.
  pub record IsOpenTable (at : E) (table : TableFile E C FP F) (pairs : List Pair) : Type 0 where
    pub start : TableBuilt C FP
    pub is_new : IsNewBuilder order filters choices.cmp choices.policy choices.id
        choices.block_size choices.restarts start
    pub written : List ℕ
    pub taken : HasTaken order filters choices.format.codings puts_all start [] pairs table.core
        written
    pub there : IsTrue env.models_disk → (env.observed at).disk.files (env.name_of table.file)
        ≡ Some (record { kept = []; since = written })
    pub named : IsTrue env.models_disk → env.name_of table.file ≡ table_path store table.number
    pub fits : table.number < 2 ^ 64
    pub first : IsFirstKey table.smallest pairs
    pub bytes : AreBytes table.smallest
    pub last : last_of table.core ≡ last_added pairs

  -- a table is open and has these pairs; or none is, and there is no pair and no other table
  abbrev pub IsOpenAfter : E → List (List Pair) → Option (TableFile E C FP F) → List Pair
      → Type 0
  IsOpenAfter at tables None pairs = (tables ≡ []) × (pairs ≡ [])
  IsOpenAfter at tables (Some table) pairs = IsOpenTable at table pairs

  -- the files are tables of these pairs, in turn, all of them kept, and an edit may have them
  abbrev pub AreFinished : E → List FileMetaData → List (List Pair) → Type 0
  AreFinished at [] [] = Unit {0}
  AreFinished at (file ∷ files) (pairs ∷ tables) =
      IsTableFile choices pairs env.models_disk store (env.observed at).disk.files file
      × (file.num < 2 ^ 64) × (file.size < 2 ^ 64) × (file.allowed_seeks ≡ 0)
      × AreBytes file.smallest × AreBytes file.largest × AreFinished at files tables
  AreFinished at files tables = ⊥

  -- These files are tables of these pairs, cut between user keys, and each number from the first
  -- on and below the next is that of one, in their order.
  pub record AreTables (first next : ℕ) (at : E) (files : List FileMetaData)
      (tables : List (List Pair)) : Type 0 where
    pub finished : AreFinished at files tables
    pub numbers : AreNextNumbers first next (map (λ file. file.num) files)
    pub cut : AreCutBefore [] tables

  -- The finished tables have these pairs, in turn, and the open one has these.
  pub record HaveOutputs (first next : ℕ) (at : E) (outputs : OutputsValue E C FP F)
      (tables : List (List Pair)) (pairs : List Pair) : Type 0 where
    pub finished : AreFinished at outputs.done tables
    pub opened : IsOpenAfter at tables outputs.unfinished pairs
    pub numbers : AreNextNumbers first next (numbers_of outputs.done outputs.unfinished)
    pub cut : AreCutBefore pairs tables

-- ---- the disk

-- the same but under the names of tables of numbers from the first on and below the next
abbrev pub SameButNewTables : List ℕ → ℕ → ℕ → Files → Files → Type 0
SameButNewTables store first next before after = (path : List ℕ)
    → ((n : ℕ) → first ≤ n → n < next → n < 2 ^ 64
    → bytes_eq (table_path store n) path ≡ false) → after path ≡ before path

module _ {E F : Type 0} (env : EnvGhosts E F) where
  -- Now and at each moment on the way no file changes but tables of numbers from the first on and
  -- below the next, nor does a lock; what is appended are bytes; and no failure is forgotten.
  pub record ChangesNewTables (store : List ℕ) (first next : ℕ) (from to : E) : Type 0 where
    pub run : IsTrue env.models_disk
        → Run (SameButNewTables store first next (env.observed from).disk.files)
        (env.observed from) (env.observed to)
    pub bytes : IsTrue env.models_disk → AppendedAreBytes (env.observed from).disk.files
        → AppendedAreBytes (env.observed to).disk.files
    pub locks : SameLocks env.models_disk (env.observed from) (env.observed to)
    pub later : env.failures from ≤ env.failures to

-- ---- why a pair isn't put

-- the key has no tag, or isn't after the last key of the open table
abbrev pub IsUnfit : {E C FP F : Type 0} → CmpGhosts C → Option (TableFile E C FP F) → List ℕ
    → Type 0
IsUnfit order unfinished key = (length key < 8) ⊎ (IfSome unfinished (λ table. 0 < table.core.count
    → order.cmp (order_of table.core) (last_of table.core) key ≡ Less) → ⊥)

module _ {C FP : Type 0} {order : CmpGhosts C} {filters : FilterGhosts FP}
    (choices : TableChoices order filters) where
  -- Why a pair isn't put into outputs whose open table has these pairs, where the numbers of files
  -- come to this one: no table is built of some of them and it, the numbers are used up, or its key
  -- is unfit.
  abbrev pub IsPutFault : {E F : Type 0} → List Pair → Option (TableFile E C FP F) → Pair
      → (later : ℕ) → Status → Type 0
  IsPutFault pairs unfinished pair later status =
      AreSomeNotBuilt choices (pairs ++ pair ∷ []) status ⊎ AreFileNumbersUsedUp later status
      ⊎ ((status.code ≡ Corruption) × IsUnfit order unfinished pair.0)

  -- why no table is begun with a pair: none is built of it, or the numbers of files are used up
  abbrev pub IsBeginFault : Pair → (later : ℕ) → Status → Type 0
  IsBeginFault pair later status =
      IsNotBuilt choices (pair ∷ []) status ⊎ AreFileNumbersUsedUp later status

-- ---- calls

module _ {C FP : Type 0} {order : CmpGhosts C} {filters : FilterGhosts FP}
    (choices : TableChoices order filters) {E F : Type 0} (env : EnvGhosts E F)
    (store : List ℕ) where
  -- what beginning a table with a pair leaves of outputs that have these files and no open table
  pub record BeginsTable (done : List FileMetaData) (pair : Pair) (next : ℕ) (from : E)
      (result : Result (Unit {0}) Status) (later : ℕ) (to : E) (new : OutputsValue E C FP F)
      : Type 0 where
    pub ok : (first : ℕ) (tables : List (List Pair))
        → AreTables choices env store first next from done tables
        → AreCutBefore (pair ∷ []) tables
        → OnOk result (HaveOutputs choices env store first later to new tables (pair ∷ []))
    -- it isn't to end before it was told to
    pub ends : OnOk result (new.ends ≡ false)
    pub changes : ChangesNewTables env store next later from to
    pub parts : WritesParts choices env (pair ∷ []) from to
    pub cause : FailsToWrite (IsBeginFault choices pair later) (env.failures from)
        (env.failures to) result

module _ {C FP : Type 0} {order : CmpGhosts C} {filters : FilterGhosts FP}
    (choices : TableChoices order filters) {E F : Type 0} (env : EnvGhosts E F) (store : List ℕ)
    (first : ℕ) (tables : List (List Pair)) (pairs : List Pair) where
  -- What putting a pair leaves of outputs that have these pairs: it is in the open table, or that
  -- one ended and it is the first of a new one.
  pub record PutsPair (limit : ℕ) (pair : Pair) (from : E) (old : OutputsValue E C FP F)
      (result : Result (Unit {0}) Status) (later : ℕ) (to : E) (new : OutputsValue E C FP F)
      : Type 0 where
    pub ok : let due = is_due limit pair.0 old in
        OnOk result (HaveOutputs choices env store first later to new
        (tables_after due tables pairs) (pairs_after due pairs pair))
    -- a new table isn't to end before it was told to
    pub ends : OnOk result (new.ends ≡ ends_after (is_due limit pair.0 old) old)
    pub changes : ChangesNewTables env store first later from to
    pub parts : WritesParts choices env (pairs ++ pair ∷ []) from to
    pub cause : FailsToWrite (IsPutFault choices pairs old.unfinished pair later)
        (env.failures from) (env.failures to) result

  -- what adding a pair to the open table leaves of them
  pub record AddsPair (pair : Pair) (next : ℕ) (from : E) (result : Result (Unit {0}) Status)
      (to : E) (new : OutputsValue E C FP F) : Type 0 where
    pub ok : OnOk result
        (HaveOutputs choices env store first next to new tables (pairs ++ pair ∷ []))
    pub changes : ChangesNewTables env store first next from to
    pub parts : WritesParts choices env (pairs ++ pair ∷ []) from to
    pub cause : FailsToWrite (IsNotBuilt choices (pairs ++ pair ∷ [])) (env.failures from)
        (env.failures to) result

  -- what finishing the open table leaves of them
  pub record FinishesOpen {T : Type 0} (next : ℕ) (from : E) (result : Result T Status)
      (files : T → List FileMetaData) (to : E) : Type 0 where
    pub ok : IfOk result (λ made. AreTables choices env store first next to (files made)
        (with_table tables pairs))
    pub changes : ChangesNewTables env store first next from to
    pub parts : WritesParts choices env pairs from to
    pub cause : FailsToWrite (IsNotBuilt choices pairs) (env.failures from) (env.failures to)
        result
