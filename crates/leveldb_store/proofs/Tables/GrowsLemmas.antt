-- How a table's file grows while it is written, also where a call fails.
use Rattle.std.specs.Prelude.{IsTrue}
use Rattle.std.proofs.Common.{◌≡◌, ◌∙◌, inl, inr, ⊎_elim, ℕ, List, [], ◌++◌, Option, None, Some, Result, Ok, Err, refl, sym, ap, subst, take, drop, append_assoc}
use Rattle.std.proofs.lemmas.List.{append-nil, take-append-drop}
use Rattle.leveldb_base.specs.Types.{Pair}
use Rattle.leveldb_base.specs.declared.cmp.Cmp.{Ghosts as CmpGhosts}
use Rattle.leveldb_base.specs.declared.error.Status.{Status}
use Rattle.leveldb_env.specs.Compressor.{Codings}
use Rattle.leveldb_env.specs.Env.{BeforeOrAfter, File, Files, PrefixAppended, Run, bytes_of, extended, file_kept, longer_file, synced}
use Rattle.leveldb_env.specs.EnvFile.{Appends, AppendsBorrowed, ChangesBorrowedFile, IsLonger, Opened, Syncs, SyncsBorrowed, opened, opened_file}
use Rattle.leveldb_env.specs.declared.env.Env.{Ghosts as EnvGhosts}
use Rattle.leveldb_env.specs.declared.env.env_file.EnvFile.{EnvFile}
use Rattle.leveldb_env.specs.declared.filter.FilterPolicy.{Ghosts as FilterGhosts}
use Rattle.leveldb_env.proofs.EnvFileLemmas.{IsLonger-borrowed}
use Rattle.leveldb_env.proofs.EnvLemmas.{Run-call, Run-mono, Run-trans, begun, extended-same, synced-same}
use Rattle.leveldb_table.specs.TableBuilder.{TableBuilt}
use Rattle.leveldb_table.specs.TableBuilderAdd.{IsAddError}
use Rattle.leveldb_table.specs.TableBuilderFinish.{IsFinishError, RestMakesTable}
use Rattle.leveldb_store.specs.Tables.TableFile.{FinishesFile, GrowsBy, LeavesPart, MayPut}
use Rattle.leveldb_store.proofs.Tables.TableFileLemmas.{longer_file_is}
use Rattle.leveldb_store.proofs.Tables.TriesLemmas.{Leaves, PutsPrefix, add_leaves, finish_leaves}

-- the file is there and its bytes are a prefix of these
abbrev pub HasPrefixOf : List ℕ → Option File → Type 0
HasPrefixOf whole now =
    (file : File) × (now ≡ Some file) × (rest : List ℕ) × (whole ≡ bytes_of file ++ rest)

prefix_more : (whole more : List ℕ) (now : Option File) → HasPrefixOf whole now
    → HasPrefixOf (whole ++ more) now
prefix_more whole more now (file, is, rest, split) = (
  file,
  is,
  rest ++ more,
  ap (λ b. b ++ more) split ∙ append_assoc (bytes_of file) rest more,
)

-- the bytes of a file that is longer
longer_bytes : (bytes : List ℕ) (file : File)
    → bytes_of (longer_file bytes file) ≡ bytes_of file ++ bytes
longer_bytes bytes file = sym (append_assoc file.kept file.since bytes)

-- a prefix of bytes was appended
appended_prefix : (name bytes : List ℕ) (old files : Files) (file : File)
    → old name ≡ Some file → PrefixAppended name bytes old files
    → HasPrefixOf (bytes_of file ++ bytes) (files name)
appended_prefix name bytes old files file there (inl same) =
    (file, ap (λ (f : Files). f name) same ∙ there, bytes, refl)
appended_prefix name bytes old files file there (inr (n, is)) = (
  longer_file (take n bytes) file,
  ap (λ (f : Files). f name) is ∙ extended-same name (take n bytes) old file there,
  drop n bytes,
  ap (λ b. bytes_of file ++ b) (sym (take-append-drop n bytes))
      ∙ sym (append_assoc (bytes_of file) (take n bytes) (drop n bytes))
      ∙ ap (λ b. b ++ drop n bytes) (sym (longer_bytes (take n bytes) file)),
)

-- a file was synced, or not yet
synced_prefix : (name : List ℕ) (old files : Files) (file : File) → old name ≡ Some file
    → BeforeOrAfter (synced name) old files → HasPrefixOf (bytes_of file ++ []) (files name)
synced_prefix name old files file there (inl same) =
    (file, ap (λ (f : Files). f name) same ∙ there, [], refl)
synced_prefix name old files file there (inr is) = (
  file_kept file,
  ap (λ (f : Files). f name) is ∙ synced-same name old file there,
  [],
  ap (λ b. b ++ []) (sym (append-nil (bytes_of file))),
)

module _ {E F : Type 0} (env : EnvGhosts E F) where
  pub grows_none : (from : Opened E F) (bytes : List ℕ) → GrowsBy env from bytes from.env
  grows_none from bytes modelled was there =
      begun (env.observed from.env) (was, there, bytes, refl)

  pub grows_longer : {from to : Opened E F} {bytes : List ℕ} → IsLonger env from bytes to
      → GrowsBy env from bytes to.env
  grows_longer {from} {to} {bytes} longer modelled was there =
      let name = env.name_of from.file in
      let old = (env.observed from.env).disk.files in
      Run-mono (λ files. appended_prefix name bytes old files was there)
      (Run-call modelled (longer.does modelled))

  grows_append : {from to : Opened E F} {bytes : List ℕ} {result : Result (Unit {0}) Status}
      → Appends env from bytes result to → GrowsBy env from bytes to.env
  grows_append {from} {to} {bytes} put modelled was there =
      let name = env.name_of from.file in
      let old = (env.observed from.env).disk.files in
      Run-mono (λ files. appended_prefix name bytes old files was there)
      (Run-call modelled put.does)

  pub grows_sync : {from to : Opened E F} {result : Result (Unit {0}) Status}
      → Syncs env from result to → GrowsBy env from [] to.env
  grows_sync {from} flushed modelled was there =
      let name = env.name_of from.file in
      let old = (env.observed from.env).disk.files in
      Run-mono (λ files. synced_prefix name old files was there)
      (Run-call modelled flushed.does)

  -- by more bytes
  pub grows_more : {from : Opened E F} {to : E} {bytes : List ℕ} (more : List ℕ)
      → GrowsBy env from bytes to → GrowsBy env from (bytes ++ more) to
  grows_more {from} {to} {bytes} more grows modelled was there =
      Run-mono (λ files is. subst (λ b. HasPrefixOf b (files (env.name_of from.file)))
      (append_assoc (bytes_of was) bytes more)
      (prefix_more (bytes_of was ++ bytes) more (files (env.name_of from.file)) is))
      (grows modelled was there)

  -- after an append
  pub grows_then : {from mid : Opened E F} {to : E} {bytes more : List ℕ}
      → IsLonger env from bytes mid → GrowsBy env mid more to
      → GrowsBy env from (bytes ++ more) to
  grows_then {from} {mid} {to} {bytes} {more} longer grows modelled was there =
      let name = env.name_of from.file in
      Run-trans (grows_more more (grows_longer longer) modelled was there)
      (λ files is. subst (λ b. HasPrefixOf b (files name))
      (ap (λ b. b ++ more) (longer_bytes bytes was) ∙ append_assoc (bytes_of was) bytes more)
      (subst (λ n. HasPrefixOf (bytes_of (longer_file bytes was) ++ more) (files n))
      (longer.file modelled) is))
      (grows modelled (longer_file bytes was) (longer_file_is env was longer modelled there))

  -- the rest of a table was appended, and all was synced
  pub grows_finish : {C FP : Type 0} {order : CmpGhosts C} {filters : FilterGhosts FP}
      {codings : Codings} {core : TableBuilt C FP} {from : Opened E F} {size : ℕ} {to : E}
      (finishes : FinishesFile order filters codings env core from size to)
      → GrowsBy env from finishes.bytes to
  grows_finish {from = from} {to = to} finishes =
      subst (λ b. GrowsBy env from b to) (append-nil finishes.bytes)
      (grows_then finishes.longer (grows_sync finishes.synced))

  -- of bytes a prefix was put
  prefix_grows : (status : Status) (whole : List ℕ) {from to : EnvFile E F}
      → PutsPrefix (AppendsBorrowed env) (SyncsBorrowed env) status whole from to
      → ChangesBorrowedFile (λ before after. GrowsBy env before whole after.env) from to
  prefix_grows status whole {from} {to} prefix =
      let longer = IsLonger-borrowed env prefix.put in
      let at = opened from.env.now from.file.now in
      let mid = opened prefix.mid.env.now prefix.mid.file.now in
      let whole_is = sym prefix.split in
      ⊎_elim
      (λ (same : to ≡ prefix.mid). subst (λ s. ChangesBorrowedFile
      (λ before after. GrowsBy env before whole after.env) from s) (sym same)
      (record {
        changes = subst (λ b. GrowsBy env at b mid.env) whole_is
            (grows_more {from = at} prefix.rest (grows_longer {from = at} {to = mid}
            longer.changes));
        same_env = longer.same_env;
        same_file = longer.same_file;
      }))
      (⊎_elim
      (λ put.
      let failed = grows_append {from = mid} put.3.changes in
      record {
        changes = subst (λ b. GrowsBy env at b to.env.now) whole_is
            (grows_then {from = at} {mid = mid} longer.changes
            (subst (λ b. GrowsBy env mid b to.env.now) (sym put.2)
            (grows_more {from = mid} put.1 failed)));
        same_env = put.3.same_env ∙ longer.same_env;
        same_file = put.3.same_file ∙ longer.same_file;
      })
      (λ flushed.
      let synced_is = grows_sync {from = mid} flushed.changes in
      record {
        changes = subst (λ b. GrowsBy env at b to.env.now) whole_is
            (grows_then {from = at} {mid = mid} longer.changes
            (grows_more {from = mid} prefix.rest synced_is));
        same_env = flushed.same_env ∙ longer.same_env;
        same_file = flushed.same_file ∙ longer.same_file;
      })) prefix.after

  leaves_borrowed : (status : Status) {May : List ℕ → Type 0} {from to : EnvFile E F}
      → Leaves (AppendsBorrowed env) (SyncsBorrowed env) status May from to
      → ChangesBorrowedFile (λ before after. LeavesPart env May before after.env) from to
  leaves_borrowed status {May} {from} {to} (bytes, may, prefix) =
      let grows = prefix_grows status bytes prefix in
      record {
        changes = record { bytes = bytes; may = may; grows = grows.changes };
        same_env = grows.same_env;
        same_file = grows.same_file;
      }

  module _ {C FP : Type 0} (order : CmpGhosts C) (filters : FilterGhosts FP) (codings : Codings)
      (core : TableBuilt C FP) {from to : EnvFile E F} {status : Status} where
    pub add_left : (pair : Pair)
        → IsAddError order filters codings core (AppendsBorrowed env) pair from status to
        → ChangesBorrowedFile (λ before after.
        LeavesPart env (MayPut order filters codings core) before after.env) from to
    add_left pair failed = leaves_borrowed status
        (add_leaves order filters codings core (AppendsBorrowed env) (SyncsBorrowed env) status
        pair from to failed)

    pub finish_left : RestMakesTable order filters codings core
        → IsFinishError order filters codings core (AppendsBorrowed env) (SyncsBorrowed env) from
        status to
        → ChangesBorrowedFile (λ before after.
        LeavesPart env (MayPut order filters codings core) before after.env) from to
    finish_left makes failed = leaves_borrowed status
        (finish_leaves order filters codings core (AppendsBorrowed env) (SyncsBorrowed env) status
        makes from to failed)
