-- What an opening keeps of the files that it finds: files that are added to live ones leave these
-- live, and the entries of logs that were replayed are in memory and in tables.
use Rattle.std.specs.Prelude.{Contains, fold}
use Rattle.std.proofs.Common.{◌≡◌, ◌∙◌, ◌<◌, ◌≤◌, ◌&&◌, ◌==◌, ⊎_elim, ℕ, Bool, true, false, List, [], ◌∷◌, ◌++◌, Option, None, Some, ap, append-nil, arith, map, not, refl, subst, sym}
use Rattle.std.proofs.lemmas.Bool.{eqb-true}
use Rattle.std.proofs.lemmas.List.Elements.{Contains-append_cases, Contains-append_left, Contains-append_right, Contains-push}
use Rattle.leveldb_base.proofs.EntriesLemmas.{in_map}
use Rattle.leveldb_base.proofs.HistoryLemmas.{in_cases, in_front, in_none, in_rest}
use Rattle.leveldb_base.specs.History.{Entry}
use Rattle.leveldb_files.proofs.Stores.LogsLemmas.{entries_parts}
use Rattle.leveldb_files.specs.Edits.Edit.{NewFile}
use Rattle.leveldb_files.specs.Edits.VersionSet.{is_same_file, level_file}
use Rattle.leveldb_files.specs.Levels.Levels.{LiveTable, table_entries}
use Rattle.leveldb_files.specs.Stores.Batches.{all_entries}
use Rattle.leveldb_files.specs.Stores.Store.{ReplayedLog, SameEntries, log_entries}
use Rattle.leveldb_version.proofs.Versions.PairwiseLemmas.{Pairwise}
use Rattle.leveldb_version.proofs.Versions.SearchLemmas.{passes_kept}
use Rattle.leveldb_version.specs.Edits.FullEdit.{files_with, files_without}
use Rattle.leveldb_version_set.specs.Engines.Opening.{IsMadeBefore}
use Rattle.leveldb_store.specs.Openings.OpeningSteps.{AreInTablesBut, entries_to_write}
use Rattle.leveldb_store.specs.declared.opening.replay.UsedLog.{UsedLog}

-- ---- live files

and_never : (a b : Bool) → b ≡ false → (a && b) ≡ false
and_never true b e = e
and_never false b e = refl

number_apart : (m n : ℕ) → (m ≡ n → ⊥) → (m == n) ≡ false
number_apart m n differ = by (m == n) refl
  where
    by : (k : Bool) → (m == n) ≡ k → (m == n) ≡ false
    by true e = absurd (differ (eqb-true m n e))
    by false e = e

-- files of two numbers aren't one
other_number : (a b : NewFile) → (a.number ≡ b.number → ⊥)
    → is_same_file (level_file a) (level_file b) ≡ false
other_number a b never =
    and_never (a.level == b.level) (a.number == b.number) (number_apart a.number b.number never)

-- a file stays where one of another number is added
still_with : (files : List NewFile) (one file : NewFile) → (file.number ≡ one.number → ⊥)
    → Contains files file → Contains (files_with files one) file
still_with files one file never c =
    Contains-append_left (files_without files (level_file one)) (one ∷ []) file
    (passes_kept (λ (it : NewFile). not (is_same_file (level_file it) (level_file one))) files file c
    (ap not (other_number file one never)))

-- and where several are
pub still_with_each : (added files : List NewFile) (file : NewFile)
    → ((one : NewFile) → Contains added one → file.number ≡ one.number → ⊥)
    → Contains files file → Contains (fold files_with files added) file
still_with_each [] files file never c = c
still_with_each (one ∷ added) files file never c =
    still_with_each added (files_with files one) file
    (λ other there. never other (in_rest one other added there))
    (still_with files one file (never one (in_front one added)) c)

abbrev files_of : List LiveTable → List NewFile
files_of tables = map (λ (table : LiveTable). table.file) tables

-- files that are added are there, each of which has a number above those before it
pub made_with_each : (tables : List LiveTable) (files : List NewFile)
    → Pairwise IsMadeBefore tables → (table : LiveTable) → Contains tables table
    → Contains (fold files_with files (files_of tables)) table.file
made_with_each [] files rising table c = absurd (in_none table c)
made_with_each (first ∷ tables) files rising table c = ⊎_elim
    (λ (e : first ≡ table). subst
    (λ (it : LiveTable). Contains (fold files_with files (files_of (first ∷ tables))) it.file) e
    (still_with_each (files_of tables) (files_with files first.file) first.file
    (λ one there same.
    let it = in_map (λ (t : LiveTable). t.file) tables one there in
    let less = (rising.0 it.0 it.1).number in
    let number = ap (λ (f : NewFile). f.number) it.2 in
    omega (arith, less, number, same))
    (Contains-push (files_without files (level_file first.file)) first.file)))
    (λ (rest : Contains tables table).
    made_with_each tables (files_with files first.file) rising.1 table rest)
    (in_cases first table tables c)

-- ---- logs

-- the entries of one log
one_log : (log : ReplayedLog) → log_entries (log ∷ []) ≡ all_entries log.batches
one_log log = ap all_entries (append-nil log.batches)

-- The entries of logs that were replayed are in the tables that were made and in memory.
pub held_entries : {C : Type 0} (used : Option (UsedLog C)) (logs : List ReplayedLog)
    (tables : List LiveTable) (mem : List Entry) → mem ≡ entries_to_write used
    → AreInTablesBut used logs tables → SameEntries (table_entries tables ++ mem) (log_entries logs)
held_entries None logs tables mem is same entry = (
  λ c. ⊎_elim (λ (t : Contains (table_entries tables) entry). (same entry).0 t)
      (λ (m : Contains mem entry).
      absurd (in_none entry (subst (λ es. Contains es entry) is m)))
      (Contains-append_cases (table_entries tables) mem entry c),
  λ c. Contains-append_left (table_entries tables) mem entry ((same entry).1 c),
)
held_entries (Some used) logs tables mem is
    (front, last, logs_are, number, end, size, kept, made) entry = (
      λ c. subst (λ es. Contains es entry) (sym parts) (⊎_elim
          (λ (t : Contains (table_entries tables) entry). Contains-append_left (log_entries front)
          (all_entries last.batches) entry ((made entry).0 t))
          (λ (m : Contains mem entry). Contains-append_right (log_entries front)
          (all_entries last.batches) entry
          ((kept entry).0 (subst (λ es. Contains es entry) is m)))
          (Contains-append_cases (table_entries tables) mem entry c)),
      λ c. ⊎_elim
          (λ (t : Contains (log_entries front) entry).
          Contains-append_left (table_entries tables) mem entry ((made entry).1 t))
          (λ (m : Contains (all_entries last.batches) entry). Contains-append_right
          (table_entries tables) mem entry
          (subst (λ es. Contains es entry) (sym is) ((kept entry).1 m)))
          (Contains-append_cases (log_entries front) (all_entries last.batches) entry
          (subst (λ es. Contains es entry) parts c)),
    )
  where
    parts : log_entries logs ≡ log_entries front ++ all_entries last.batches
    parts = ap log_entries logs_are ∙ entries_parts front (last ∷ [])
        ∙ ap (λ (es : List Entry). log_entries front ++ es) (one_log last)
