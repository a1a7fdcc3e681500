-- Tables that are written one after another.
use Rattle.std.specs.Prelude.{Contains, IfErr, IsErrAnd, IsOk, IsTrue, OnErr, OnOk, if◌then◌else◌, is_ok, is_some, ◌&&◌, not}
use Rattle.std.proofs.Common.{◌≡◌, ◌≢◌, ◌⊎◌, ◌∙◌, inl, inr, ⊎_elim, ℕ, ◌+◌, ◌<◌, ◌≤◌, ◌^◌, Bool, false, true, List, [], ◌∷◌, ◌++◌, length, map, Option, None, Some, Result, Ok, Err, refl, sym, ap, subst, arith}
use Rattle.std.proofs.lemmas.Bool.{le-leb}
use Rattle.std.proofs.lemmas.List.{map-append}
use Rattle.std.proofs.lemmas.List.Elements.{Contains-append_left, Contains-append_right}
use Rattle.std.specs.Cmp.Lexicographic.{bytes_decides}
use Rattle.std.specs.Str.{bytes_eq}
use Rattle.leveldb_base.proofs.EntriesLemmas.{map_in}
use Rattle.leveldb_base.proofs.HistoryLemmas.{in_cases, in_none}
use Rattle.leveldb_base.proofs.NamesLemmas.{made_paths_apart}
use Rattle.leveldb_base.specs.Cmp.{internal_accepts}
use Rattle.leveldb_base.specs.KeyTypes.{user_part}
use Rattle.leveldb_base.specs.Types.{Pair}
use Rattle.leveldb_base.specs.declared.cmp.Cmp.{Ghosts as CmpGhosts}
use Rattle.leveldb_base.specs.Error.{IsOutOfMemory}
use Rattle.leveldb_base.specs.declared.error.Status.{Status}
use Rattle.leveldb_base.specs.declared.error.StatusCode.TheVariants.{Corruption}
use Rattle.leveldb_base.specs.declared.types.FileMetaData.{FileMetaData}
use Rattle.leveldb_base.specs.declared.types.FileType.TheVariants.{Table}
use Rattle.leveldb_env.proofs.EnvLemmas.{Run-mono, Run-trans, begun, bytes_eq-apart}
use Rattle.leveldb_env.specs.Env.{AreBytes, BeforeOrAfter, ChangesFiles, HasCause, SameLocks, emptied, kept_file}
use Rattle.leveldb_env.specs.EnvFile.{IsLonger, opened, opened_file}
use Rattle.leveldb_env.specs.declared.env.Env.{Ghosts as EnvGhosts}
use Rattle.leveldb_env.specs.declared.filter.FilterPolicy.{Ghosts as FilterGhosts}
use Rattle.leveldb_table.specs.TableBuilder.{IsNewBuilder, KeepsChoices, TableBuilt, last_of}
use Rattle.leveldb_files.specs.Stores.Paths.{table_path}
use Rattle.leveldb_files.specs.Stores.Store.{IsFirstKey, IsLastKey}
use Rattle.leveldb_store.specs.Tables.BuildTable.{IsNotBuilt, IsTableBuilt, TableChoices, puts_all}
use Rattle.leveldb_store.specs.Tables.Outputs.{AddsPair, AreCutBefore, AreFinished, AreNextNumbers, AreTables, ChangesNewTables, FinishesOpen, HaveOutputs, IsBeginFault, IsCutBefore, IsOpenAfter, IsOpenTable, IsUnfit, OutputsValue, PutsPair, ends_after, is_due, is_due_in, numbers_of, pairs_after, tables_after, with_table}
use Rattle.leveldb_store.specs.Tables.TableFile.{AddsToFile, ChangesOneFile, FailsToWrite, FinishesFile, IsAddFault, IsFinishFault, GrowsBy, IsMetadataOf, IsThere, LeavesPart, MayPut, StopsWriting}
use Rattle.leveldb_store.specs.Tables.TableParts.{WritesParts}
use Rattle.leveldb_store.specs.declared.table_file.TableFile.{TableFile}
use Rattle.leveldb_store.proofs.Tables.BuildTableLemmas.{HasTaken-none, last_key_of, last_pushed, taken_added, taken_begun}
use Rattle.leveldb_store.proofs.Tables.GrowsLemmas.{grows_finish, grows_longer}
use Rattle.leveldb_store.proofs.Tables.NotBuiltLemmas.{not_built_end, not_built_next, some_not_built}
use Rattle.leveldb_store.proofs.Tables.PartsLemmas.{IsWhole, built_by, file_parts, left_whole, parts_none, parts_so, parts_then, taken_whole}
use Rattle.leveldb_store.proofs.Tables.TableFileLemmas.{all_written, changes-trans, changes_named, fails_later, fails_so, longer_changes, longer_file_is, opened_is, opening_changes, own_fails, sync_changes, synced_file_is}

-- ---- numbers

-- one is between the first and the next for each number
pub next_is : (first next : ℕ) (numbers : List ℕ) → AreNextNumbers first next numbers
    → next ≡ first + length numbers
next_is first next [] are = omega (arith, are)
next_is first next (number ∷ numbers) are =
    let rest = next_is (first + 1) next numbers are.1 in omega (arith, rest)

-- the first is at most the next
pub next_range : (first next : ℕ) (numbers : List ℕ) → AreNextNumbers first next numbers
    → first ≤ next
next_range first next numbers are = let is = next_is first next numbers are in omega (arith, is)

-- one number more
pub next_pushed : (first next later number : ℕ) (numbers : List ℕ) → number ≡ next
    → later ≡ number + 1 → AreNextNumbers first next numbers
    → AreNextNumbers first later (numbers ++ number ∷ [])
next_pushed first next later number [] is later_is are =
    (omega (arith, is, are), omega (arith, is, later_is, are))
next_pushed first next later number (other ∷ numbers) is later_is are =
    (are.0, next_pushed (first + 1) next later number numbers is later_is are.1)

-- the last number is the next after the others
pub next_last : (first next number : ℕ) (numbers : List ℕ)
    → AreNextNumbers first next (numbers ++ number ∷ [])
    → AreNextNumbers first number numbers × (next ≡ number + 1)
next_last first next number [] are = (sym are.0, omega (arith, are.0, are.1))
next_last first next number (other ∷ numbers) are =
    let rest = next_last (first + 1) next number numbers are.1 in ((are.0, rest.0), rest.1)

-- each number is from the first on and below the next
pub next_within : (first next : ℕ) (numbers : List ℕ) → AreNextNumbers first next numbers
    → (number : ℕ) → Contains numbers number → (first ≤ number) × (number < next)
next_within first next [] are number there = absurd (in_none number there)
next_within first next (other ∷ numbers) are number there = ⊎_elim
    (λ (is : other ≡ number).
    let up = next_range (first + 1) next numbers are.1 in
    (omega (arith, is, are.0), omega (arith, is, are.0, up)))
    (λ later.
    let rest = next_within (first + 1) next numbers are.1 number later in
    (omega (arith, rest.0), rest.1))
    (in_cases other number numbers there)

-- so each file has a number of its own, of those that were given
pub file_numbers_within : (first next : ℕ) (files : List FileMetaData)
    → AreNextNumbers first next (map (λ (file : FileMetaData). file.num) files)
    → (file : FileMetaData) → Contains files file → (first ≤ file.num) × (file.num < next)
file_numbers_within first next files are file there = next_within first next
    (map (λ (f : FileMetaData). f.num) files) are file.num
    (map_in (λ (f : FileMetaData). f.num) files file there)

pub known_by_number : (first next : ℕ) (files : List FileMetaData)
    → AreNextNumbers first next (map (λ (file : FileMetaData). file.num) files)
    → (a b : FileMetaData) → Contains files a → Contains files b → a.num ≡ b.num → a ≡ b
known_by_number first next [] are a b a_there b_there same = absurd (in_none a a_there)
known_by_number first next (file ∷ files) are a b a_there b_there same = ⊎_elim
    (λ (a_is : file ≡ a). ⊎_elim
    (λ (b_is : file ≡ b). sym a_is ∙ b_is)
    (λ b_later.
    let above = file_numbers_within (first + 1) next files are.1 b b_later in
    let a_num = ap (λ (f : FileMetaData). f.num) a_is in
    absurd (omega (arith, above.0, same, a_num, are.0)))
    (in_cases file b files b_there))
    (λ a_later. ⊎_elim
    (λ (b_is : file ≡ b).
    let above = file_numbers_within (first + 1) next files are.1 a a_later in
    let b_num = ap (λ (f : FileMetaData). f.num) b_is in
    absurd (omega (arith, above.0, same, b_num, are.0)))
    (λ b_later. known_by_number (first + 1) next files are.1 a b a_later b_later same)
    (in_cases file b files b_there))
    (in_cases file a files a_there)

-- ---- cuts

-- before these pairs, where the tables are cut before others that begin with the same
pub cut_same : (pairs others : List Pair)
    → ((table : List Pair) → IsCutBefore table pairs → IsCutBefore table others)
    → (tables : List (List Pair)) → AreCutBefore pairs tables → AreCutBefore others tables
cut_same pairs others so [] cut = tt
cut_same pairs others so (table ∷ []) cut = so table cut
cut_same pairs others so (table ∷ next ∷ tables) cut =
    (cut.0, cut_same pairs others so (next ∷ tables) cut.1)

-- one table more
pub cut_push : (pairs more : List Pair) (tables : List (List Pair)) → AreCutBefore pairs tables
    → IsCutBefore pairs more → AreCutBefore more (tables ++ pairs ∷ [])
cut_push pairs more [] cut last = last
cut_push pairs more (table ∷ []) cut last = (cut, last)
cut_push pairs more (table ∷ next ∷ tables) cut last =
    (cut.0, cut_push pairs more (next ∷ tables) cut.1 last)

-- the first pair stays where one is added after it
pub cut_longer : {key : List ℕ} (pairs more : List Pair) → IsFirstKey key pairs
    → (table : List Pair) → IsCutBefore table pairs → IsCutBefore table (pairs ++ more)
cut_longer [] more first table cut = absurd (cc (sym first.2))
cut_longer (pair ∷ pairs) more first table cut = cut

-- these pairs have a first one, and their last is of another user key than this pair
record EndsBefore (pairs : List Pair) (pair : Pair) : Type 0 where
  pub key : List ℕ
  pub first : IsFirstKey key pairs
  pub cut : IsCutBefore pairs (pair ∷ [])

-- where the user keys differ
not_same : (one other : List ℕ) (b : Bool) → (b && not (bytes_eq one other)) ≡ true → one ≡ other
    → ⊥
not_same one other true is same =
    let equal = (bytes_decides one other).1 same in
    let never : false ≡ true = sym (ap not equal) ∙ is in absurd (cc never)
not_same one other false is same = absurd (cc is)

-- ---- paths of tables

pub tables_apart : (store : List ℕ) (m n : ℕ) → m < 2 ^ 64 → n < 2 ^ 64 → m ≢ n
    → bytes_eq (table_path store m) (table_path store n) ≡ false
tables_apart store m n fits other_fits differ = bytes_eq-apart _ _
    (λ e. differ (made_paths_apart store m n Table Table fits other_fits e).0)

-- ---- the disk

module _ {E F : Type 0} (env : EnvGhosts E F) (store : List ℕ) where
  pub new-none : {next : ℕ} (first : ℕ) (at : E) → ChangesNewTables env store first next at at
  new-none first at = record {
    run = λ modelled. begun (env.observed at) (λ path apart. refl);
    bytes = λ modelled were. were;
    locks = λ modelled. refl;
    later = omega arith;
  }

  pub new-trans : {first next : ℕ} {from mid to : E}
      → ChangesNewTables env store first next from mid
      → ChangesNewTables env store first next mid to
      → ChangesNewTables env store first next from to
  new-trans one two = record {
    run = λ modelled. Run-trans (one.run modelled)
        (λ files after path apart. after path apart ∙ (one.run modelled).has path apart)
        (two.run modelled);
    bytes = λ modelled were. two.bytes modelled (one.bytes modelled were);
    locks = λ modelled. two.locks modelled ∙ one.locks modelled;
    later = omega (arith, one.later, two.later);
  }

  -- from a number on, and so from a smaller one on
  pub new-wider : {first least next : ℕ} {from to : E} → least ≤ first
      → ChangesNewTables env store first next from to
      → ChangesNewTables env store least next from to
  new-wider up changes = record {
    run = λ modelled. Run-mono (λ files same path apart. same path
        (λ n from_first. apart n (omega (arith, from_first, up)))) (changes.run modelled);
    bytes = changes.bytes;
    locks = changes.locks;
    later = changes.later;
  }

  -- below a number, and so below a greater one
  pub new-rise : {first next later : ℕ} {from to : E} → next ≤ later
      → ChangesNewTables env store first next from to
      → ChangesNewTables env store first later from to
  new-rise up changes = record {
    run = λ modelled. Run-mono (λ files same path apart. same path
        (λ n from_first below. apart n from_first (omega (arith, below, up))))
        (changes.run modelled);
    bytes = changes.bytes;
    locks = changes.locks;
    later = changes.later;
  }

  -- one table of such a number
  pub new-one : {first next number : ℕ} {from to : E} → first ≤ number → number < next
      → number < 2 ^ 64 → ChangesOneFile env (table_path store number) from to
      → ChangesNewTables env store first next from to
  new-one {number = number} least below fits changes = record {
    run = λ modelled. Run-mono
        (λ files same path apart. same path (apart number least below fits))
        (changes.run modelled);
    bytes = changes.bytes;
    locks = changes.locks;
    later = changes.later;
  }

-- ---- lists and options

-- what a push makes of a list, if it succeeds
pub pushed_is : {A T X : Type 0} {now more : List A} (same : List A) (result : Result T X)
    → IsOk result → now ≡ (if is_ok result then more else same) → now ≡ more
pushed_is same (Ok x) ok is = is
pushed_is same (Err x) never is = absurd (cc never)

-- what holds holds of an Ok
on_any : {T P : Type 0} (result : Result T Status) → P → OnOk result P
on_any (Ok x) is = is
on_any (Err status) is = tt

on_weaker : {T P Q : Type 0} (result : Result T Status) → (P → Q) → OnOk result P → OnOk result Q
on_weaker (Ok x) so is = so is
on_weaker (Err status) so is = tt

-- there is none
pub none_of : {A : Type 0} (option : Option A) → false ≡ is_some option → option ≡ None
none_of None e = refl
none_of (Some x) e = absurd (cc e)

-- ---- finished tables

module _ {C FP : Type 0} {order : CmpGhosts C} {filters : FilterGhosts FP}
    (choices : TableChoices order filters) {E F : Type 0} (env : EnvGhosts E F) (store : List ℕ) where
  finished_pushed : (at : E) (files : List FileMetaData) (tables : List (List Pair))
      (file : FileMetaData) (pairs : List Pair) → AreFinished choices env store at files tables
      → AreFinished choices env store at (file ∷ []) (pairs ∷ [])
      → AreFinished choices env store at (files ++ file ∷ []) (tables ++ pairs ∷ [])
  finished_pushed at [] [] file pairs were is = is
  finished_pushed at (other ∷ files) (more ∷ tables) file pairs were is = (
    were.0,
    were.1,
    were.2,
    were.3,
    were.4,
    were.5,
    finished_pushed at files tables file pairs were.6 is,
  )
  finished_pushed at [] (more ∷ tables) file pairs were is = absurd were
  finished_pushed at (other ∷ files) [] file pairs were is = absurd were

  -- they stay while a table of a later number is written
  finished_stay : {number : ℕ} {from to : E} → number < 2 ^ 64
      → ChangesOneFile env (table_path store number) from to → (first : ℕ)
      (files : List FileMetaData) (tables : List (List Pair))
      → AreNextNumbers first number (map (λ (file : FileMetaData). file.num) files)
      → AreFinished choices env store from files tables
      → AreFinished choices env store to files tables
  finished_stay fits changes first [] [] are were = tt
  finished_stay {number} {from} {to} fits changes first (file ∷ files) (pairs ∷ tables) are were =
      let above = next_range (first + 1) number
      (map (λ (file : FileMetaData). file.num) files) are.1 in (
        record {
          bytes = were.0.bytes;
          built = were.0.built;
          kept = λ modelled. (changes.run modelled).has (table_path store file.num)
              (tables_apart store number file.num fits were.1 (λ e. omega (arith, e, above, are.0)))
              ∙ were.0.kept modelled;
          size = were.0.size;
          smallest = were.0.smallest;
          largest = were.0.largest;
        },
        were.1,
        were.2,
        were.3,
        were.4,
        were.5,
        finished_stay fits changes (first + 1) files tables are.1 were.6,
      )
  finished_stay fits changes first [] (pairs ∷ tables) are were = absurd were
  finished_stay fits changes first (file ∷ files) [] are were = absurd were

  module _ {first next : ℕ} {at : E} {outputs : OutputsValue E C FP F} {table : TableFile E C FP F}
      {tables : List (List Pair)} {pairs : List Pair}
      (have : HaveOutputs choices env store first next at outputs tables pairs)
      (is : outputs.unfinished ≡ Some table) where
    open_is : IsOpenTable choices env store at table pairs
    open_is = subst (λ o. IsOpenAfter choices env store at tables o pairs) is have.opened

    open_numbers : AreNextNumbers first table.number
        (map (λ (file : FileMetaData). file.num) outputs.done) × (next ≡ table.number + 1)
    open_numbers = next_last first next table.number
        (map (λ (file : FileMetaData). file.num) outputs.done)
        (subst (λ o. AreNextNumbers first next (numbers_of outputs.done o)) is have.numbers)

    open_from : first ≤ table.number
    open_from = next_range first table.number
        (map (λ (file : FileMetaData). file.num) outputs.done) open_numbers.0

    open_changes : {to : E} → ChangesOneFile env (env.name_of table.file) at to
        → ChangesNewTables env store first next at to
    open_changes changes = new-one env store open_from (omega (arith, open_numbers.1)) open_is.fits
        (changes_named env open_is.named changes)

    -- the finished tables stay while the open one is written
    still_finished : {to : E} → ChangesOneFile env (env.name_of table.file) at to
        → AreFinished choices env store to outputs.done tables
    still_finished changes = finished_stay open_is.fits (changes_named env open_is.named changes)
        first outputs.done tables open_numbers.0 have.finished

    -- what there is of the open one while it is written
    open_parts : (more : List Pair) {to : E} (bytes : List ℕ)
        → IsWhole choices (Contains more) (open_is.written ++ bytes)
        → ChangesOneFile env (env.name_of table.file) at to
        → GrowsBy env (opened at table.file) bytes to → WritesParts choices env more at to
    open_parts more bytes whole changes grows = file_parts choices env more
        {from = opened at table.file} (record { kept = []; since = open_is.written }) bytes
        open_is.there whole changes grows

    open_left : {to : E}
        → LeavesPart env (MayPut order filters choices.format.codings table.core)
        (opened at table.file) to
        → ChangesOneFile env (env.name_of table.file) at to → WritesParts choices env pairs at to
    open_left left changes = open_parts pairs left.bytes
        (left_whole choices open_is.is_new open_is.taken left.bytes left.may) changes left.grows

    open_there : IsThere env (opened at table.file)
    open_there modelled =
        (record { kept = []; since = open_is.written }, open_is.there modelled)

  -- ---- a table is begun

  -- its first pair isn't taken
  pub not_begun : {core made : TableBuilt C FP} (pair : Pair) {status : Status}
      → IsNewBuilder order filters choices.cmp choices.policy choices.id choices.block_size
      choices.restarts core
      → made ≡ core → IsAddFault order filters choices.format.codings made pair status
      → IsNotBuilt choices (pair ∷ []) status
  not_begun {core} pair {status} is_new made_is fault = not_built_next choices is_new
      (HasTaken-none choices.format.codings puts_all core [] is_new.unbroken) pair
      (subst (λ (b : TableBuilt C FP). IsAddFault order filters choices.format.codings b pair
      status) made_is fault)

  -- a new builder's table has its first pair
  pub table_begun : {number : ℕ} {mid to : E} {core : TableBuilt C FP}
      {made after : TableFile E C FP F} (pair : Pair)
      → IsNewBuilder order filters choices.cmp choices.policy choices.id choices.block_size
      choices.restarts core
      → made.core ≡ core → made.number ≡ number → made.smallest ≡ pair.0 → number < 2 ^ 64
      → (IsTrue env.models_disk → opened_file env (opened mid made.file) ≡ Some (kept_file []))
      → (IsTrue env.models_disk → env.name_of made.file ≡ table_path store number)
      → AreBytes pair.0
      → AddsToFile order filters choices.format.codings env made.core (opened mid made.file) pair
      after.core (opened to after.file)
      → KeepsChoices made.core after.core → after.number ≡ made.number
      → after.smallest ≡ made.smallest
      → IsOpenTable choices env store to after (pair ∷ [])
  table_begun {made = made} pair is_new core_is number_is smallest_is fits empty named bytes adds kept
      same_number same_smallest =
      let start = subst (IsNewBuilder order filters choices.cmp choices.policy choices.id
      choices.block_size choices.restarts) (sym core_is) is_new in
      record {
        start = made.core;
        is_new = start;
        written = adds.bytes;
        taken = taken_added choices.format.codings env
            (HasTaken-none choices.format.codings puts_all made.core [] start.unbroken) adds kept;
        there = λ modelled. longer_file_is env (kept_file []) adds.longer modelled (empty modelled);
        named = λ modelled. adds.longer.file modelled ∙ named modelled
            ∙ ap (table_path store) (sym (same_number ∙ number_is));
        fits = omega (arith, fits, same_number, number_is);
        first = (
          pair.1,
          [],
          ap (λ (k : List ℕ). (k, pair.1) ∷ []) (sym (same_smallest ∙ smallest_is)),
        );
        bytes = subst AreBytes (sym (same_smallest ∙ smallest_is)) bytes;
        last = adds.last;
      }

  -- and is the open one
  pub outputs_begun : {first next later number : ℕ} {from to : E} {done : List FileMetaData}
      {after : TableFile E C FP F} {new : OutputsValue E C FP F} {tables : List (List Pair)}
      {pair : Pair} → new.unfinished ≡ Some after → new.done ≡ done
      → AreTables choices env store first next from done tables → AreCutBefore (pair ∷ []) tables
      → number ≡ next → later ≡ next + 1 → number < 2 ^ 64 → after.number ≡ number
      → ChangesOneFile env (table_path store number) from to
      → IsOpenTable choices env store to after (pair ∷ [])
      → HaveOutputs choices env store first later to new tables (pair ∷ [])
  outputs_begun {first} {next} {later} {number} {to = to} {done = done} {after = after} {new = new}
      {tables = tables} {pair = pair} now done_is are cut number_is later_is fits named changes
      opened =
      let numbers = map (λ (file : FileMetaData). file.num) done in
      record {
        finished = subst (λ fs. AreFinished choices env store to fs tables) (sym done_is)
            (finished_stay fits changes first done tables
            (subst (λ n. AreNextNumbers first n numbers) (sym number_is) are.numbers)
            are.finished);
        opened = subst (λ o. IsOpenAfter choices env store to tables o (pair ∷ [])) (sym now)
            opened;
        numbers = subst (λ o. AreNextNumbers first later (numbers_of new.done o)) (sym now)
            (subst (λ fs. AreNextNumbers first later
            (map (λ (file : FileMetaData). file.num) fs ++ after.number ∷ [])) (sym done_is)
            (next_pushed first next later after.number numbers (omega (arith, named, number_is))
            (omega (arith, named, number_is, later_is)) are.numbers));
        cut = cut;
      }

  -- ---- a pair is added

  table_added : {at to : E} {table after : TableFile E C FP F} {pairs : List Pair} (pair : Pair)
      → IsOpenTable choices env store at table pairs
      → AddsToFile order filters choices.format.codings env table.core (opened at table.file) pair
      after.core (opened to after.file)
      → KeepsChoices table.core after.core → after.number ≡ table.number
      → after.smallest ≡ table.smallest
      → IsOpenTable choices env store to after (pairs ++ pair ∷ [])
  table_added {pairs = pairs} pair is adds kept same_number same_smallest = record {
    start = is.start;
    is_new = is.is_new;
    written = is.written ++ adds.bytes;
    taken = taken_added choices.format.codings env is.taken adds kept;
    there = λ modelled. longer_file_is env (record { kept = []; since = is.written }) adds.longer
        modelled (is.there modelled);
    named = λ modelled. adds.longer.file modelled ∙ is.named modelled
        ∙ ap (table_path store) (sym same_number);
    fits = omega (arith, is.fits, same_number);
    first = (
      is.first.0,
      is.first.1 ++ pair ∷ [],
      ap (λ ps. ps ++ pair ∷ []) is.first.2
          ∙ ap (λ (k : List ℕ). (k, is.first.0) ∷ (is.first.1 ++ pair ∷ [])) (sym same_smallest),
    );
    bytes = subst AreBytes (sym same_smallest) is.bytes;
    last = adds.last ∙ sym (last_pushed pairs pair);
  }

  -- a pair was added to the open table, or not
  pub pair_added : {first next : ℕ} {from to : E} {old new : OutputsValue E C FP F}
      {table after : TableFile E C FP F} {tables : List (List Pair)} {pairs : List Pair} (pair : Pair)
      → HaveOutputs choices env store first next from old tables pairs → old.unfinished ≡ Some table
      → new.unfinished ≡ Some after → new.done ≡ old.done → KeepsChoices table.core after.core
      → after.number ≡ table.number → after.smallest ≡ table.smallest
      → (result : Result (Unit {0}) Status)
      → OnOk result (AddsToFile order filters choices.format.codings env table.core
      (opened from table.file) pair after.core (opened to after.file))
      → IfErr result (λ status. IsThere env (opened from table.file) → StopsWriting env
      (IsAddFault order filters choices.format.codings table.core pair) (opened from table.file)
      status to)
      → OnErr result (LeavesPart env (MayPut order filters choices.format.codings table.core)
      (opened from table.file) to)
      → AddsPair choices env store first tables pairs pair next from result to new
  pair_added {first} {next} {from} {to} {old} {new} {table} {after} {tables} {pairs} pair have is now
      done kept same_number same_smallest (Ok x) adds none part =
      let changes = longer_changes env adds.longer in
      let more : IsOpenTable choices env store to after (pairs ++ pair ∷ [])
      = table_added pair (open_is have is) adds kept same_number same_smallest in
      let numbers = open_numbers have is in
      let list = map (λ (file : FileMetaData). file.num) old.done in
      record {
        ok = record {
          finished = subst (λ fs. AreFinished choices env store to fs tables) (sym done)
              (still_finished have is changes);
          opened = subst (λ o. IsOpenAfter choices env store to tables o (pairs ++ pair ∷ []))
              (sym now) more;
          numbers = subst (λ o. AreNextNumbers first next (numbers_of new.done o)) (sym now)
              (subst (λ fs. AreNextNumbers first next
              (map (λ (file : FileMetaData). file.num) fs ++ after.number ∷ [])) (sym done)
              (next_pushed first table.number next after.number list same_number
              (omega (arith, same_number, numbers.1)) numbers.0));
          cut = cut_same pairs (pairs ++ pair ∷ [])
              (cut_longer pairs (pair ∷ []) (open_is have is).first) tables have.cut;
        };
        changes = open_changes have is changes;
        parts = open_parts have is (pairs ++ pair ∷ []) adds.bytes (taken_whole choices
            (open_is have is).is_new (taken_added choices.format.codings env
            (open_is have is).taken adds kept)) changes (grows_longer env adds.longer);
        cause = all_written adds.longer.counted;
      }
  pair_added {table = table} {pairs = pairs} pair have is now done kept same_number same_smallest
      (Err status) none stops left =
      let stopped = stops (open_there have is) in
      let opened = open_is have is in
      record {
        ok = tt;
        changes = open_changes have is stopped.changes;
        parts = parts_so choices env pairs _ (Contains-append_left pairs (pair ∷ []))
            (open_left have is left stopped.changes);
        cause = fails_later refl (not_built_next choices opened.is_new opened.taken pair)
            stopped.cause;
      }

  -- ---- the open table is finished

  more_tables : {key : List ℕ} (tables : List (List Pair)) (pairs : List Pair)
      → IsFirstKey key pairs → with_table tables pairs ≡ tables ++ pairs ∷ []
  more_tables tables [] first = absurd (cc (sym first.2))
  more_tables tables (pair ∷ pairs) first = refl

  finished_built : {from to : E} {table : TableFile E C FP F} {pairs : List Pair} {size : ℕ}
      (is : IsOpenTable choices env store from table pairs)
      (finishes : FinishesFile order filters choices.format.codings env table.core
      (opened from table.file) size to)
      → IsTableBuilt choices pairs (is.written ++ finishes.bytes)
      × (size ≡ length (is.written ++ finishes.bytes))
  finished_built {pairs = pairs} is finishes =
      let built = finishes.made is.written pairs (taken_begun choices.format.codings
      (is.is_new.begun choices.format.codings) is.taken) in
      (built_by choices is.is_new is.taken built.0, built.1)

  table_finished : {from to : E} {table : TableFile E C FP F} {pairs : List Pair}
      (made : FileMetaData) → IsOpenTable choices env store from table pairs
      → FinishesFile order filters choices.format.codings env table.core (opened from table.file)
      made.size to
      → IsMetadataOf table.number table.smallest (last_of table.core) made
      → AreFinished choices env store to (made ∷ []) (pairs ∷ [])
  table_finished {from} {to} {table} {pairs} made is finishes known =
      let built = finished_built is finishes in (
        record {
          bytes = is.written ++ finishes.bytes;
          built = built.0;
          kept = λ modelled.
              let was = longer_file_is env (record { kept = []; since = is.written })
              finishes.longer modelled (is.there modelled) in
              let now = synced_file_is env
              (record { kept = []; since = is.written ++ finishes.bytes }) finishes.synced modelled
              was in
              ap (λ n. (env.observed to).disk.files (table_path store n)) known.number_is
              ∙ ap (env.observed to).disk.files (sym (finishes.synced.file modelled
              ∙ finishes.longer.file modelled ∙ is.named modelled)) ∙ now;
          size = built.1;
          smallest = subst (λ k. IsFirstKey k pairs) (sym known.smallest_is) is.first;
          largest = subst (λ k. IsLastKey k pairs) (sym (known.largest_is ∙ is.last))
              (last_key_of is.first);
        },
        omega (arith, known.number_is, is.fits),
        known.fits,
        known.seeks,
        subst AreBytes (sym known.smallest_is) is.bytes,
        subst AreBytes (sym known.largest_is) known.bytes,
        tt,
      )

  finish_changes : {from to : E} (table : TableFile E C FP F) {size : ℕ}
      → FinishesFile order filters choices.format.codings env table.core (opened from table.file)
      size to → ChangesOneFile env (env.name_of table.file) from to
  finish_changes table finishes = changes-trans env (longer_changes env finishes.longer)
      (changes_named env finishes.longer.file (sync_changes env finishes.synced))

  module _ {first next : ℕ} {from to : E} {old : OutputsValue E C FP F}
      {table : TableFile E C FP F} {tables : List (List Pair)} {pairs : List Pair}
      (have : HaveOutputs choices env store first next from old tables pairs)
      (is : old.unfinished ≡ Some table) where
    -- the open table was finished
    pub open_finished : {T : Type 0} (x : T) (files : T → List FileMetaData) (made : FileMetaData)
        → files x ≡ old.done ++ made ∷ []
        → FinishesFile order filters choices.format.codings env table.core
        (opened from table.file) made.size to
        → IsMetadataOf table.number table.smallest (last_of table.core) made
        → FinishesOpen choices env store first tables pairs next from (Ok x) files to
    open_finished x files made files_are finishes known =
        let changes = finish_changes table finishes in
        let opened = open_is have is in
        let numbers = open_numbers have is in
        let list = map (λ (file : FileMetaData). file.num) old.done in
        let more : AreNextNumbers first next (list ++ made.num ∷ [])
        = next_pushed first table.number next made.num list known.number_is
        (omega (arith, known.number_is, numbers.1)) numbers.0 in
        let all : AreTables choices env store first next to (old.done ++ made ∷ [])
        (tables ++ pairs ∷ []) = record {
          finished = finished_pushed to old.done tables made pairs (still_finished have is changes)
              (table_finished made opened finishes known);
          numbers = subst (AreNextNumbers first next)
              (sym (map-append (λ (file : FileMetaData). file.num) old.done (made ∷ []))) more;
          cut = cut_push pairs [] tables have.cut tt;
        } in
        record {
          ok = subst (λ fs. AreTables choices env store first next to fs (with_table tables pairs))
              (sym files_are) (subst (AreTables choices env store first next to
              (old.done ++ made ∷ [])) (sym (more_tables tables pairs opened.first)) all);
          changes = open_changes have is changes;
          parts = open_parts have is pairs finishes.bytes (inr (record {
            pairs = pairs;
            each = λ pair there. there;
            built = (finished_built opened finishes).0;
          })) changes (grows_finish env finishes);
          cause = all_written (finishes.synced.cause.ok ∙ finishes.longer.counted);
        }

    -- it wasn't
    pub open_unfinished : {T : Type 0} (files : T → List FileMetaData) (status : Status)
        → (IsThere env (opened from table.file) → StopsWriting env
        (IsFinishFault order filters choices.format.codings table.core) (opened from table.file)
        status to)
        → LeavesPart env (MayPut order filters choices.format.codings table.core)
        (opened from table.file) to
        → FinishesOpen choices env store first tables pairs {T = T} next from (Err status) files to
    open_unfinished files status stops left =
        let stopped = stops (open_there have is) in
        let opened = open_is have is in
        record {
          ok = tt;
          changes = open_changes have is stopped.changes;
          parts = open_left have is left stopped.changes;
          cause = fails_later refl (not_built_end choices opened.is_new opened.taken)
              stopped.cause;
        }

  -- of another type
  pub unfinished_so : {first next : ℕ} {from to : E} {tables : List (List Pair)}
      {pairs : List Pair} {T U : Type 0} {status : Status} {files : T → List FileMetaData}
      (others : U → List FileMetaData)
      → FinishesOpen choices env store first tables pairs {T = T} next from (Err status) files to
      → FinishesOpen choices env store first tables pairs {T = U} next from (Err status) others to
  unfinished_so others finishes = record {
    ok = tt;
    changes = finishes.changes;
    parts = finishes.parts;
    cause = fails_later refl (λ own. own) finishes.cause;
  }

  pub finished_so : {first next : ℕ} {from to : E} {tables : List (List Pair)}
      {pairs : List Pair} {T U : Type 0} {x : T} {files : T → List FileMetaData} (y : U)
      (others : U → List FileMetaData) → others y ≡ files x
      → FinishesOpen choices env store first tables pairs {T = T} next from (Ok x) files to
      → FinishesOpen choices env store first tables pairs {T = U} next from (Ok y) others to
  finished_so {first} {next} {to = to} {tables} {pairs} y others same finishes = record {
    ok = subst (λ fs. AreTables choices env store first next to fs (with_table tables pairs))
        (sym same) finishes.ok;
    changes = finishes.changes;
    parts = finishes.parts;
    cause = all_written finishes.cause.ok;
  }

  -- none is open
  pub none_finished : {first next : ℕ} {at : E} {old : OutputsValue E C FP F}
      {tables : List (List Pair)} {pairs : List Pair} {T : Type 0} (x : T)
      (files : T → List FileMetaData)
      → HaveOutputs choices env store first next at old tables pairs → old.unfinished ≡ None
      → files x ≡ old.done
      → FinishesOpen choices env store first tables pairs next at (Ok x) files at
  none_finished {first} {next} {at} {old} {tables} {pairs} x files have none files_are =
      let empty : (tables ≡ []) × (pairs ≡ [])
      = subst (λ o. IsOpenAfter choices env store at tables o pairs) none have.opened in
      let all : AreTables choices env store first next at old.done tables = record {
        finished = have.finished;
        numbers = subst (λ o. AreNextNumbers first next (numbers_of old.done o)) none have.numbers;
        cut = cut_same pairs [] (λ table cut. tt) tables have.cut;
      } in
      record {
        ok = subst (λ fs. AreTables choices env store first next at fs (with_table tables pairs))
            (sym files_are) (subst (λ ps. AreTables choices env store first next at old.done
            (with_table tables ps)) (sym empty.1) all);
        changes = new-none env store first at;
        parts = parts_none choices env pairs at;
        cause = all_written refl;
      }

  -- ---- a pair is put

  module _ {first next : ℕ} {from : E} {old : OutputsValue E C FP F} {tables : List (List Pair)}
      {pairs : List Pair} (have : HaveOutputs choices env store first next from old tables pairs)
      (limit : ℕ) (pair : Pair) where
    -- an unfit key is refused
    pub unfit_not_put : {later : ℕ} {new : OutputsValue E C FP F}
        (result : Result (Unit {0}) Status) → IsErrAnd result (λ status. status.code ≡ Corruption)
        → IsUnfit order old.unfinished pair.0
        → PutsPair choices env store first tables pairs limit pair from old result later from new
    unfit_not_put (Ok x) never unfit = absurd never
    unfit_not_put (Err status) code unfit = record {
      ok = tt;
      ends = tt;
      changes = new-none env store first from;
      parts = parts_none choices env (pairs ++ pair ∷ []) from;
      cause = own_fails refl (inr (inr (inr (code, unfit)), refl));
    }

    -- it was added to the open table
    pub added_is_put : {to : E} {new : OutputsValue E C FP F} (result : Result (Unit {0}) Status)
        → is_due limit pair.0 old ≡ false → is_some old.unfinished ≡ true → new.ends ≡ old.ends
        → AddsPair choices env store first tables pairs pair next from result to new
        → PutsPair choices env store first tables pairs limit pair from old result next to new
    added_is_put {to} {new} result due some same adds = record {
      ok = subst (λ b. OnOk result (HaveOutputs choices env store first next to new
          (tables_after b tables pairs) (pairs_after b pairs pair))) (sym due) adds.ok;
      ends = on_any result (same ∙ sym (ap (λ (b : Bool). b && old.ends) some)
          ∙ sym (ap (λ (b : Bool). ends_after b old) due));
      changes = adds.changes;
      parts = adds.parts;
      cause = fails_so result refl
          (λ status not. inl (some_not_built choices (λ other there. there) not)) adds.cause;
    }

    -- the open table wasn't finished before it
    pub unfinished_not_put : {T : Type 0} {to : E} {new : OutputsValue E C FP F}
        {files : T → List FileMetaData} {status : Status}
        → FinishesOpen choices env store first tables pairs {T = T} next from (Err status) files to
        → PutsPair choices env store first tables pairs limit pair from old (Err status) next to new
    unfinished_not_put {status = status} finishes = record {
      ok = tt;
      ends = tt;
      changes = finishes.changes;
      parts = parts_so choices env pairs _ (Contains-append_left pairs (pair ∷ [])) finishes.parts;
      cause = fails_later refl (λ not. inl (some_not_built choices
          (Contains-append_left pairs (pair ∷ [])) not)) finishes.cause;
    }

    -- an open table that is due has a pair, and the user key changes after its last
    due_ends : is_due limit pair.0 old ≡ true → EndsBefore pairs pair
    due_ends due = by old.unfinished refl
      where
        by : (o : Option (TableFile E C FP F)) → old.unfinished ≡ o → EndsBefore pairs pair
        by None e =
            let never : false ≡ true
            = subst (λ o. is_due_in limit pair.0 old.ends o ≡ true) e due in absurd (cc never)
        by (Some table) e =
            let is = subst (λ o. is_due_in limit pair.0 old.ends o ≡ true) e due in
            let opened = open_is have e in
            record {
              key = table.smallest;
              first = opened.first;
              cut = λ same. not_same (user_part (last_of table.core)) (user_part pair.0) _ is
                  (ap user_part opened.last ∙ same);
            }

    -- the outputs after it, if the open table ended before it or not
    abbrev IsPutAs : ℕ → E → OutputsValue E C FP F → Result (Unit {0}) Status → Bool → Type 0
    IsPutAs later to new result due = OnOk result (HaveOutputs choices env store first later to new
        (tables_after due tables pairs) (pairs_after due pairs pair))

    -- it is the first of a new table
    pub begun_is_put : {mid to : E} {new : OutputsValue E C FP F} {later : ℕ}
        (done : List FileMetaData) (result : Result (Unit {0}) Status)
        → (is_due limit pair.0 old ≡ true) ⊎ (old.unfinished ≡ None)
        → FinishesOpen choices env store first tables pairs {T = Unit {0}} next from (Ok tt)
        (λ x. done) mid
        → ((ready : List (List Pair))
        → AreTables choices env store first next mid done ready
        → AreCutBefore (pair ∷ []) ready
        → OnOk result (HaveOutputs choices env store first later to new ready (pair ∷ [])))
        → next ≤ later → ChangesNewTables env store next later mid to
        → WritesParts choices env (pair ∷ []) mid to
        → FailsToWrite (IsBeginFault choices pair later) (env.failures mid) (env.failures to) result
        → OnOk result (new.ends ≡ false)
        → PutsPair choices env store first tables pairs limit pair from old result later to new
    begun_is_put {mid} {to} {new} {later} done result why finishes begins up changes parts cause
        anew = record {
          ok = by why;
          ends = on_weaker result (λ is. is ∙ sym (none_ends why)) anew;
          changes = new-trans env store (new-rise env store up finishes.changes)
              (new-wider env store (next_range first next _ have.numbers) changes);
          parts = parts_then choices env _
              (parts_so choices env pairs _ (Contains-append_left pairs (pair ∷ [])) finishes.parts)
              (parts_so choices env (pair ∷ []) _ (Contains-append_right pairs (pair ∷ [])) parts);
          cause = fails_so result finishes.cause.ok
              (λ status. ⊎_elim (λ not. inl (some_not_built choices
              (Contains-append_right pairs (pair ∷ [])) not)) (λ used_up. inr (inl used_up))) cause;
        }
      where
        none_ends : (is_due limit pair.0 old ≡ true) ⊎ (old.unfinished ≡ None)
            → ends_after (is_due limit pair.0 old) old ≡ false
        none_ends (inl due) = ap (λ (b : Bool). ends_after b old) due
        none_ends (inr none) =
            ap (λ (b : Bool). ends_after b old) (ap (is_due_in limit pair.0 old.ends) none)
            ∙ ap (λ (o : Option (TableFile E C FP F)). is_some o && old.ends) none

        by : (is_due limit pair.0 old ≡ true) ⊎ (old.unfinished ≡ None)
            → IsPutAs later to new result (is_due limit pair.0 old)
        by (inl due) =
            let ends = due_ends due in
            subst (IsPutAs later to new result) (sym due) (begins (with_table tables pairs) finishes.ok
            (subst (AreCutBefore (pair ∷ [])) (sym (more_tables tables pairs ends.first))
            (cut_push pairs (pair ∷ []) tables have.cut ends.cut)))
        by (inr none) =
            let empty : (tables ≡ []) × (pairs ≡ [])
            = subst (λ o. IsOpenAfter choices env store from tables o pairs) none have.opened in
            let due : is_due limit pair.0 old ≡ false
            = ap (is_due_in limit pair.0 old.ends) none in
            let ready : AreTables choices env store first next mid done []
            = subst (λ ts. AreTables choices env store first next mid done ts)
            (ap (λ ps. with_table tables ps) empty.1 ∙ empty.0) finishes.ok in
            subst (IsPutAs later to new result) (sym due) (subst (λ ts. OnOk result (HaveOutputs choices env store first later
            to new ts (pairs ++ pair ∷ []))) (sym empty.0)
            (subst (λ ps. OnOk result (HaveOutputs choices env store first later to new []
            (ps ++ pair ∷ []))) (sym empty.1) (begins [] ready tt)))
