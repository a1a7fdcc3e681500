-- The file of a store's lock isn't read: whether it is made or not, a store's files hold what they
-- held.
use Rattle.std.specs.Str.{bytes_eq}
use Rattle.std.specs.Prelude.{IsSomeAnd, codes, get_or, reverse}
use Rattle.std.proofs.Common.{◌≡◌, ◌≢◌, ◌∙◌, ◌<◌, ◌≤◌, ◌^◌, ◌++◌, ⊎_elim, inl, inr, ℕ, List, Option, None, Some, ap, arith, false, length, refl, subst, sym}
use Rattle.std.proofs.lemmas.Bool.{cases_lt}
use Rattle.std.proofs.lemmas.List.{append_cancel_left, reverse-append}
use Rattle.std.specs.declared.cmp.Ordering.{Ordering}
use Rattle.leveldb_base.specs.Cmp.{bytewise}
use Rattle.leveldb_base.specs.Names.{IsFileName, file_name, six_digits}
use Rattle.leveldb_base.specs.declared.types.FileType.{FileType}
use Rattle.leveldb_base.specs.declared.types.FileType.TheVariants.{Current, DBLock, Descriptor, Log, Table}
use Rattle.leveldb_env.proofs.EnvLemmas.{bytes_eq-apart}
use Rattle.leveldb_env.specs.Env.{File, Files, SameBut, bytes_of, in_folder}
use Rattle.leveldb_mem.specs.WriteBatch.{Batch}
use Rattle.leveldb_files.proofs.Steps.KeepsLemmas.{unread_keeps}
use Rattle.leveldb_files.proofs.Stores.ManagedLemmas.{managed_on, numbers_apart}
use Rattle.leveldb_files.proofs.Stores.ManifestLemmas.{edits_on}
use Rattle.leveldb_files.proofs.Steps.UnreadLemmas.{other_unread, unnamed_on}
use Rattle.leveldb_files.specs.Stores.Contents.{Contents, Store}
use Rattle.leveldb_files.specs.Edits.Current.{IsCurrentText}
use Rattle.leveldb_files.specs.Stores.Paths.{IsFilePath, current_path, lock_path, log_path}
use Rattle.leveldb_files.specs.Stores.Store.{HasEdits, IsStore}
use Rattle.leveldb_files.specs.Steps.StoreSteps.{AppendedAreBytes, IsUnnamed, KeepsHistory}
use Rattle.leveldb_files.specs.Edits.Edit.{Edit}
use Rattle.leveldb_files.specs.Edits.VersionSet.{FileSet, live_after}
use Rattle.leveldb_store.proofs.Keeping.TableKeepsLemmas.{is_table_path, types_apart}
use Rattle.leveldb_files.specs.Stores.Format.{IsTableOf, Meaning}
use Rattle.leveldb_store.proofs.Logs.FoundLogsLemmas.{logs_same}
use Rattle.leveldb_store.specs.Logs.FoundLogs.{LogBeginsWith}
use Rattle.leveldb_store.specs.Openings.OpensStore.{HasHugeManifest, HasSharedUserKey, IsNumberFound, LacksCurrent, LacksNumbers}

-- the name in `CURRENT` is a manifest's
named_in : (file : Option File) (name : List ℕ) (n : ℕ)
    → IsSomeAnd file (λ f. IsCurrentText (bytes_of f) name n) → IsFileName name n Descriptor
named_in None name n none = absurd none
named_in (Some file) name n text = text.0

-- no log has the lock's path
log_not_lock : (store : List ℕ) (n : ℕ) → log_path store n ≢ lock_path store
log_not_lock store n same =
    let names : (codes "/" ++ six_digits n) ++ codes ".log" ≡ codes "/LOCK" =
    append_cancel_left store (codes "/" ++ file_name Log n) (codes "/LOCK") same in
    let turned : reverse (codes ".log") ++ reverse (codes "/" ++ six_digits n)
    ≡ reverse (codes "/LOCK") =
    sym (reverse-append (codes "/" ++ six_digits n) (codes ".log")) ∙ ap reverse names in
    let ends : 103 ≡ 75 = ap (λ bytes. get_or bytes 0 0) turned in
    absurd (omega (arith, ends))

module _ (store : List ℕ) where
  -- the path of a file of another type is another
  apart : (path : List ℕ) (kind : FileType) → IsFilePath kind store path → DBLock ≢ kind
      → bytes_eq (lock_path store) path ≡ false
  apart path kind is differs = types_apart store (lock_path store) path DBLock kind
      (file_name DBLock 0, 0, (refl, refl), refl) is differs

  apart_current : bytes_eq (lock_path store) (current_path store) ≡ false
  apart_current = apart (current_path store) Current (file_name Current 0, 0, (refl, refl), refl)
      (λ e. let never : DBLock ≡ Current = e in cc)

  apart_log : (name : List ℕ) (n : ℕ) → IsFilePath Log store (in_folder store name)
      → bytes_eq (lock_path store) (in_folder store name) ≡ false
  apart_log name n is = apart (in_folder store name) Log is
      (λ e. let never : DBLock ≡ Log = e in cc)

  unnamed : (set : FileSet) → IsUnnamed store set (lock_path store)
  unnamed set = record {
    tables = λ file fits live. apart _ Table (is_table_path store file.number fits)
        (λ e. let never : DBLock ≡ Table = e in cc);
    logs = λ name n is replayed. apart_log name n (name, n, is, refl);
  }

  module _ (files now : Files) (same : SameBut (lock_path store) files now) where
    pub lock_current : now (current_path store) ≡ files (current_path store)
    lock_current = same (current_path store) apart_current

    -- the same edits are read
    pub lock_edits : (edits : List Edit) → HasEdits store files edits → HasEdits store now edits
    lock_edits edits e = edits_on store bytewise (λ bytes pairs. ⊥) (lock_path store) files now edits e same apart_current
        (apart (in_folder store e.name) Descriptor (e.name, e.number, e.named.0, refl)
        (λ d. let never : DBLock ≡ Descriptor = d in cc))

    -- tables or logs without `CURRENT` are so still
    pub lock_lacks : LacksCurrent store files → LacksCurrent store now
    lock_lacks lacks = record {
      no_current = lock_current ∙ lacks.no_current;
      name = lacks.name;
      is = lacks.is;
      there = λ gone. lacks.there (sym (same (in_folder store lacks.name) differs) ∙ gone);
    }
      where
        differs : bytes_eq (lock_path store) (in_folder store lacks.name) ≡ false
        differs = ⊎_elim
            (λ (is : IsFileName lacks.name lacks.is.0 Table). apart (in_folder store lacks.name) Table
            (lacks.name, lacks.is.0, is, refl) (λ e. let never : DBLock ≡ Table = e in cc))
            (λ (is : IsFileName lacks.name lacks.is.0 Log). apart_log lacks.name lacks.is.0
            (lacks.name, lacks.is.0, is, refl))
            lacks.is.1

    -- two tables that share a user key do so still
    pub lock_shared : (cmp : List ℕ → List ℕ → Ordering) → HasSharedUserKey store files cmp
        → HasSharedUserKey store now cmp
    lock_shared cmp it = record {
      edits = it.edits;
      has_edits = lock_edits it.edits it.has_edits;
      a = it.a;
      b = it.b;
      beside = it.beside;
      share = it.share;
    }

    -- a manifest that is huge is so still
    pub lock_huge : (comparator : List ℕ) → HasHugeManifest store files comparator
        → HasHugeManifest store now comparator
    lock_huge comparator (inl (name, number, named, huge)) = inl (
      name,
      number,
      subst (λ file. IsSomeAnd file (λ f. IsCurrentText (bytes_of f) name number))
          (sym lock_current) named,
      subst (λ file. IsSomeAnd file (λ f. 2 ^ 64 ≤ length (bytes_of f)))
          (sym (same (in_folder store name) (apart (in_folder store name) Descriptor
          (name, number, named_in (files (current_path store)) name number named, refl)
          (λ d. let never : DBLock ≡ Descriptor = d in cc)))) huge,
    )
    lock_huge comparator (inr none) = inr (lock_current ∙ none.0, none.1)

    -- a number that is found is so still: that of the lock's file is 0
    pub lock_number : (n : ℕ) → IsNumberFound store files n → IsNumberFound store now n
    lock_number n (inl few) = inl few
    lock_number n (inr (inl (name, kind, is, there))) = ⊎_elim
        (λ (more : 2 < n). inr (inl (
          name,
          kind,
          is,
          λ gone. there (sym (same (in_folder store name)
              (numbers_apart store (file_name DBLock 0) name 0 n DBLock kind (refl, refl) is
              (λ e. omega (arith, e, more)))) ∙ gone),
        )))
        (λ (few : n ≤ 2). inl few)
        (cases_lt 2 n)
    lock_number n (inr (inr (edits, has, is))) = inr (inr (edits, lock_edits edits has, is))

    -- a log begins with the same batches
    pub lock_log : (n : ℕ) (batches : List Batch) → LogBeginsWith store files n batches
        → LogBeginsWith store now n batches
    lock_log n batches begins = (
      begins.0,
      same (log_path store n) (bytes_eq-apart (lock_path store) (log_path store n)
          (λ e. log_not_lock store n (sym e)))
          ∙ begins.1,
      begins.2,
    )

    -- and numbers are too few for as many
    pub lock_numbers : LacksNumbers store files → LacksNumbers store now
    lock_numbers lacks = record {
      logs = lacks.logs;
      rising = lacks.rising;
      batches = lacks.batches;
      begin = logs_same store files store now lacks.logs
          (λ n batches there begins. lock_log n batches begins) lacks.batches lacks.begin;
      few = record {
        last = lacks.few.last;
        is_found = lock_number lacks.few.last lacks.few.is_found;
        too_few = lacks.few.too_few;
      };
    }

    module _ (meaning : Meaning) (cmp : List ℕ → List ℕ → Ordering) where
      -- and the same contents
      pub lock_reads : (contents : Contents)
          → IsStore store cmp (IsTableOf cmp meaning) files contents
          → IsStore store cmp (IsTableOf cmp meaning) now contents
      lock_reads contents (inr m) = inr (record {
        edits = m.edits;
        has_edits = lock_edits m.edits m.has_edits;
        managed = managed_on store cmp (IsTableOf cmp meaning) files now m.edits contents
            (unnamed_on store cmp (IsTableOf cmp meaning) (lock_path store) files now
            (live_after m.edits) same (unnamed (live_after m.edits))) m.managed;
      })
      lock_reads contents (inl bare) = inl (
        record {
          no_current = lock_current ∙ bare.0.no_current;
          no_table = λ name n is. same (in_folder store name)
              (apart (in_folder store name) Table (name, n, is, refl)
              (λ e. let never : DBLock ≡ Table = e in cc)) ∙ bare.0.no_table name n is;
          no_log = λ name n is. same (in_folder store name)
              (apart_log name n (name, n, is, refl)) ∙ bare.0.no_log name n is;
        },
        bare.1,
      )

-- each history is kept
pub lock_keeps : (store : List ℕ) (meaning : Meaning) (cmp : List ℕ → List ℕ → Ordering)
    (files now : Files) → SameBut (lock_path store) files now → AppendedAreBytes files
    → (allowed : Store → Type 0) (bound : ℕ)
    → KeepsHistory store cmp (IsTableOf cmp meaning) allowed bound files now
lock_keeps store meaning cmp files now same bytes allowed bound =
    unread_keeps store cmp (IsTableOf cmp meaning) allowed (lock_path store) files now same bytes
    (other_unread store cmp (IsTableOf cmp meaning) files (file_name DBLock 0) 0 DBLock
    (refl, refl) (λ e. let never : DBLock ≡ Current = e in cc)
    (λ e. let never : DBLock ≡ Descriptor = e in cc) (λ e. let never : DBLock ≡ Table = e in cc)
    (λ e. let never : DBLock ≡ Log = e in cc)) bound
