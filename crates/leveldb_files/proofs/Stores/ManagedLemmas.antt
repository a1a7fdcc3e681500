-- What of its files a store of a manifest depends on.
use Rattle.leveldb_base.proofs.NamesLemmas.{made_name, one_reading}
use Rattle.leveldb_base.specs.Names.{IsFileName, file_name}
use Rattle.leveldb_base.specs.Types.{Pair}
use Rattle.leveldb_base.specs.declared.types.FileType.{FileType}
use Rattle.leveldb_base.specs.declared.types.FileType.TheVariants.{Log, Table}
use Rattle.leveldb_env.proofs.EnvLemmas.{bytes_eq-apart}
use Rattle.leveldb_env.specs.Env.{File, Files, SameBut, bytes_of, in_folder}
use Rattle.leveldb_mem.specs.Log.{IsLogFile}
use Rattle.leveldb_files.proofs.Histories.SafeLemmas.{some_is}
use Rattle.leveldb_files.specs.Stores.Contents.{Contents}
use Rattle.leveldb_files.specs.Levels.Levels.{LiveTable}
use Rattle.leveldb_files.specs.Stores.Paths.{log_path, table_path}
use Rattle.leveldb_files.specs.Stores.Store.{HasLog, HasTable, HasTables, IsManagedBy, LogIsReplayed, ReplayedLog}
use Rattle.leveldb_files.specs.Edits.Edit.{Edit, NewFile}
use Rattle.leveldb_files.specs.Edits.VersionSet.{FileSet, level_file, live_after}
use Rattle.std.proofs.Common.{◌<◌, ◌^◌, ◌∙◌, ◌∷◌, ◌≡◌, List, None, Option, Some, ap, false, length, refl, subst, sym, ℕ}
use Rattle.std.proofs.lemmas.List.{append_cancel_left}
use Rattle.std.specs.Option.{option_map}
use Rattle.std.specs.Prelude.{◌≢◌}
use Rattle.std.specs.Str.{bytes_eq}
use Rattle.std.specs.declared.cmp.Ordering.{Ordering}

-- ---- names

pub same_name : (store name other : List ℕ) → in_folder store name ≡ in_folder store other
    → name ≡ other
same_name store name other e =
    let tail : 47 ∷ name ≡ 47 ∷ other = append_cancel_left store (47 ∷ name) (47 ∷ other) e in cc

-- names of different types, or with different numbers, are apart
pub kinds_apart : (store name other : List ℕ) (m n : ℕ) (k l : FileType) → IsFileName name m k
    → IsFileName other n l → k ≢ l → bytes_eq (in_folder store name) (in_folder store other) ≡ false
kinds_apart store name other m n k l is_name is_other differ =
    bytes_eq-apart (in_folder store name) (in_folder store other)
    (λ e.
    differ
    (one_reading name m n k l is_name
    (subst (λ z. IsFileName z n l) (sym (same_name store name other e)) is_other)).1)

pub numbers_apart : (store name other : List ℕ) (m n : ℕ) (k l : FileType) → IsFileName name m k
    → IsFileName other n l → m ≢ n → bytes_eq (in_folder store name) (in_folder store other) ≡ false
numbers_apart store name other m n k l is_name is_other differ =
    bytes_eq-apart (in_folder store name) (in_folder store other)
    (λ e.
    differ
    (one_reading name m n k l is_name
    (subst (λ z. IsFileName z n l) (sym (same_name store name other e)) is_other)).0)

-- ---- the files that are read

-- what is there before and after has the same bytes
abbrev pub SameBytes : Option File → Option File → Type 0
SameBytes old new = option_map bytes_of new ≡ option_map bytes_of old

pub same_bytes : (old new : Option File) → new ≡ old → SameBytes old new
same_bytes old new e = ap (option_map bytes_of) e

-- a file of the same bytes
pub record IsFoundAgain (file : File) (new : Option File) : Type 0 where
  pub now : File
  pub there : new ≡ Some now
  pub bytes : bytes_of now ≡ bytes_of file

pub found_again : (old new : Option File) (file : File) → SameBytes old new → old ≡ Some file
    → IsFoundAgain file new
found_again old new file same there = by new (same ∙ ap (option_map bytes_of) there)
  where
    by : (new : Option File) → option_map bytes_of new ≡ Some (bytes_of file)
        → IsFoundAgain file new
    by None e = absurd (cc)
    by (Some now) e =
        record { now = now; there = refl; bytes = some_is (bytes_of now) (bytes_of file) e }

-- what isn't there has no bytes
pub gone_again : (old new : Option File) → SameBytes old new → new ≢ None → old ≢ None
gone_again None None same some = some
gone_again None (Some file) same some =
    absurd (let never : Some (bytes_of file) ≡ None = same in cc)
gone_again (Some file) new same some = λ e. let never : Some file ≡ None = e in cc

-- the live tables and the logs that are replayed have the same bytes
pub record SameFor (store : List ℕ) (set : FileSet) (old new : Files) : Type 0 where
  pub tables : (file : NewFile) → file.number < 2 ^ 64 → set.file (level_file file) ≡ Some file
      → SameBytes (old (table_path store file.number)) (new (table_path store file.number))
  pub logs : (name : List ℕ) (n : ℕ) → IsFileName name n Log → LogIsReplayed set n
      → SameBytes (old (in_folder store name)) (new (in_folder store name))

module _ (store : List ℕ) (cmp : List ℕ → List ℕ → Ordering)
    (IsTableOf : List ℕ → List Pair → Type 0) where
  pub table_on : (old new : Files) (table : LiveTable)
      → SameBytes (old (table_path store table.file.number))
      (new (table_path store table.file.number))
      → HasTable store cmp IsTableOf old table → HasTable store cmp IsTableOf new table
  table_on old new table same has =
      let f = found_again (old (table_path store table.file.number))
      (new (table_path store table.file.number)) has.file same has.there in
      record {
        file = f.now;
        there = f.there;
        pairs = has.pairs;
        read = subst (λ b. IsTableOf b has.pairs) (sym f.bytes) has.read;
        each = has.each;
        size = ap length f.bytes ∙ has.size;
        smallest = has.smallest;
        largest = has.largest;
      }

  pub tables_on : (set : FileSet) (old new : Files) (tables : List LiveTable)
      → ((file : NewFile) → file.number < 2 ^ 64 → set.file (level_file file) ≡ Some file
      → SameBytes (old (table_path store file.number)) (new (table_path store file.number)))
      → HasTables store cmp IsTableOf old set tables → HasTables store cmp IsTableOf new set tables
  tables_on set old new tables same has = record {
    each = λ table there. let h = has.each table there in
        (table_on old new table (same table.file h.2 h.1) h.0, h.1, h.2);
    all = has.all;
  }

  pub log_on : (old new : Files) (log : ReplayedLog)
      → SameBytes (old (log_path store log.number)) (new (log_path store log.number))
      → HasLog store old log → HasLog store new log
  log_on old new log same has =
      let f = found_again (old (log_path store log.number))
      (new (log_path store log.number)) has.0 same has.1 in (
        f.now,
        f.there,
        record {
          records = has.2.records;
          read = subst (λ b. IsLogFile b has.2.records log.end) (sym f.bytes) has.2.read;
          each = has.2.each;
          size = has.2.size ∙ sym (ap length f.bytes);
        },
      )

  -- tables and logs that are the same are the same store
  pub managed_on : (old new : Files) (edits : List Edit) (contents : Contents)
      → SameFor store (live_after edits) old new
      → IsManagedBy store cmp IsTableOf old edits contents
      → IsManagedBy store cmp IsTableOf new edits contents
  managed_on old new edits contents same m = record {
    comparator = m.comparator;
    comparator_is = m.comparator_is;
    log_is = m.log_is;
    next_file_is = m.next_file_is;
    last = m.last;
    last_is = m.last_is;
    numbers_fit = m.numbers_fit;
    tables = m.tables;
    has_tables = tables_on (live_after edits) old new m.tables same.tables m.has_tables;
    logs = m.logs;
    has_logs = record {
      each = λ log there. let h = m.has_logs.each log there in (
        log_on old new log
            (same.logs (file_name Log log.number) log.number (made_name Log log.number h.2) h.1)
            h.0,
        h.1,
        h.2,
      );
      all =
          λ name n is replayed some.
          m.has_logs.all name n is replayed
          (gone_again (old (in_folder store name)) (new (in_folder store name))
          (same.logs name n is replayed) some);
      rising = m.has_logs.rising;
    };
    fit = m.fit;
    is = m.is;
  }

  -- where a file of another type changes, each table has the bytes that it had
  pub tables_same : (set : FileSet) (name : List ℕ) (n : ℕ) (kind : FileType) (old new : Files)
      → IsFileName name n kind → kind ≢ Table → SameBut (in_folder store name) old new
      → (file : NewFile) → file.number < 2 ^ 64 → set.file (level_file file) ≡ Some file
      → SameBytes (old (table_path store file.number)) (new (table_path store file.number))
  tables_same set name n kind old new is no_table same file fits live =
      same_bytes (old (table_path store file.number)) (new (table_path store file.number))
      (same (table_path store file.number)
      (kinds_apart store name (file_name Table file.number) n file.number kind Table is
      (made_name Table file.number fits) no_table))

  -- a file of another type than a table or a log may change
  pub same_for_others : (set : FileSet) (name : List ℕ) (n : ℕ) (kind : FileType) (old new : Files)
      → IsFileName name n kind → kind ≢ Table → kind ≢ Log
      → SameBut (in_folder store name) old new → SameFor store set old new
  same_for_others set name n kind old new is no_table no_log same = record {
    tables = tables_same set name n kind old new is no_table same;
    logs =
        λ other m is_other replayed.
        same_bytes (old (in_folder store other)) (new (in_folder store other))
        (same (in_folder store other)
        (kinds_apart store name other n m kind Log is is_other no_log));
  }
