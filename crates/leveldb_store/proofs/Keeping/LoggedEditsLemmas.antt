-- Edits that are logged one after another, and those of memtables' tables.
use Rattle.std.proofs.Common.{◌≡◌, ◌++◌, ◌+◌, ℕ, List, [], ◌∷◌, arith, refl, subst, sym}
use Rattle.std.proofs.lemmas.List.{length-append}
use Rattle.std.proofs.lemmas.List.Elements.{All-append, All-cons, All-nil}
use Rattle.std.specs.declared.cmp.Ordering.{Ordering}
use Rattle.leveldb_version_set.specs.Sets.LogEdit.{set_appended}
use Rattle.leveldb_files.specs.Edits.Edit.{Edit}
use Rattle.leveldb_version_set.specs.Sets.VersionSetValue.{VersionSetValue, with_number_given}
use Rattle.leveldb_version_set.specs.Engines.Writing.{table_edit}
use Rattle.leveldb_store.proofs.Logs.ReplayFilesLemmas.{GivesNumbers-refl, GivesNumbers-trans}
use Rattle.leveldb_store.specs.Keeping.LoggedEdits.{IsTableEdit, LogsEdits, LogsTableEdits}
use Rattle.leveldb_store.specs.Openings.Opening.{GivesNumbers}
use Rattle.leveldb_store.specs.Writing.Switch.{LogsTable}

-- ---- edits

-- numbers that were given before the first edit are numbers given
edits_after : (old mid new : VersionSetValue) (edits : List Edit) → GivesNumbers old mid
    → LogsEdits mid edits new → LogsEdits old edits new
edits_after old mid new [] gives logs = GivesNumbers-trans gives logs
edits_after old mid new (edit ∷ edits) gives logs =
    (logs.0, GivesNumbers-trans gives logs.1, logs.2, logs.3, logs.4)

pub edits_then : (old mid new : VersionSetValue) (these those : List Edit)
    → LogsEdits old these mid → LogsEdits mid those new → LogsEdits old (these ++ those) new
edits_then old mid new [] those first second = edits_after old mid new those first second
edits_then old mid new (edit ∷ these) those first second = (
  first.0,
  first.1,
  first.2,
  first.3,
  edits_then (set_appended first.2 first.0 edit) mid new these those first.4 second,
)

-- ---- tables of memtables

pub given_once : (set : VersionSetValue) → GivesNumbers set (with_number_given set)
given_once set = record { set = refl; rises = omega arith }

-- none is logged where numbers are given alone
pub no_tables : {old new : VersionSetValue} (count : ℕ) → GivesNumbers old new
    → LogsTableEdits count old new
no_tables count gives = record {
  edits = [];
  each = All-nil IsTableEdit;
  at_most = omega arith;
  logs = gives;
}

pub tables_then : {old mid new : VersionSetValue} (first second : ℕ) → LogsTableEdits first old mid
    → LogsTableEdits second mid new → LogsTableEdits (first + second) old new
tables_then {old} {mid} {new} first second these those = record {
  edits = these.edits ++ those.edits;
  each = All-append IsTableEdit these.edits those.edits these.each those.each;
  at_most = omega (arith, length-append these.edits those.edits, these.at_most, those.at_most);
  logs = edits_then old mid new these.edits those.edits these.logs those.logs;
}

-- fewer than that many, too
pub more_tables : {old new : VersionSetValue} {count : ℕ} (more : ℕ) → LogsTableEdits count old new
    → LogsTableEdits (count + more) old new
more_tables more these = record {
  edits = these.edits;
  each = these.each;
  at_most = omega (arith, these.at_most);
  logs = these.logs;
}

-- the edit of one
pub one_table : {cmp : List ℕ → List ℕ → Ordering} {old : VersionSetValue} {log : ℕ}
    {new : VersionSetValue} → LogsTable cmp old log new → LogsTableEdits 1 old new
one_table {old = old} {log = log} {new = new} logs = record {
  edits = table_edit log logs.file ∷ [];
  each = All-cons IsTableEdit (table_edit log logs.file) [] (log, logs.file, refl) (All-nil IsTableEdit);
  at_most = omega arith;
  logs = (
    with_number_given old,
    given_once old,
    logs.manifest,
    logs.was_in_use,
    subst (GivesNumbers (set_appended logs.manifest (with_number_given old) (table_edit log logs.file)))
        (sym logs.set)
        (GivesNumbers-refl (set_appended logs.manifest (with_number_given old) (table_edit log logs.file))),
  );
}

-- two, with a log's number between them
pub two_tables : {old mid switched new : VersionSetValue} → LogsTableEdits 1 old mid
    → switched ≡ with_number_given mid → LogsTableEdits 1 switched new → LogsTableEdits 2 old new
two_tables {mid = mid} first given second =
    tables_then 1 1 first
    (tables_then 0 1 (no_tables 0 (subst (GivesNumbers mid) (sym given) (given_once mid))) second)
