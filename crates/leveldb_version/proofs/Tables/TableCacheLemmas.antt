-- What a cache of open tables has after each call, and that each table is its file's.
use Rattle.std.specs.Prelude.{IfOk, IfSome, IsErr, IsErrAnd, IsSome, IsSomeAnd, IsTrue, OnOk, if◌then◌else◌, ◌==◌}
use Rattle.std.proofs.Common.{◌≡◌, ◌≢◌, ◌⊎◌, inl, inr, ⊎_elim, ℕ, zero, suc, ◌+◌, ◌<◌, ◌≤◌, ◌^◌, true, false, List, [], ◌∷◌, length, Option, None, Some, Result, Ok, Err, refl, sym, ◌∙◌, ap, subst, arith, length-append}
use Rattle.std.proofs.lemmas.Bool.{true≢false}
use Rattle.std.proofs.lemmas.Bool.Decides.{eqb_tells}
use Rattle.std.proofs.lemmas.Result.{IfOk-at_ok, IfOk-from_err}
use Rattle.leveldb_base.specs.BlockHandle.{Handle}
use Rattle.leveldb_base.specs.declared.cmp.Cmp.{Ghosts as CmpGhosts}
use Rattle.leveldb_base.specs.declared.cmp.internal.InternalKeyCmp.{InternalKeyCmp}
use Rattle.leveldb_base.specs.declared.error.Status.{Status}
use Rattle.leveldb_base.specs.declared.error.StatusCode.TheVariants.{Corruption, NotSupported}
use Rattle.leveldb_base.specs.Error.{IsOutOfMemory}
use Rattle.leveldb_env.specs.Env.{File, Files, HasCause, IsMissing, bytes_of}
use Rattle.leveldb_env.specs.WholeFiles.{IsFoundOr, IsMissingFile}
use Rattle.leveldb_env.proofs.EnvLemmas.{bytes_eq-same}
use Rattle.leveldb_env.proofs.WholeFilesLemmas.{found_cause, found_ok}
use Rattle.leveldb_env.specs.declared.env.Env.{Ghosts as EnvGhosts}
use Rattle.leveldb_table.proofs.BlockCacheLemmas.{looked_for_same, one_id, put_finds}
use Rattle.leveldb_table.proofs.FooterLemmas.{length-footer_bytes}
use Rattle.leveldb_table.proofs.TableBlockLemmas.{KeepsDisk-trans, fails_refused, reads_ok, reads_own, reads_refused, reads_then, same_files}
use Rattle.leveldb_table.proofs.TableReaderLemmas.{opens_not}
use Rattle.leveldb_table.specs.BlockCache.{HoldsOnlyOf, IsNumbered}
use Rattle.leveldb_table.specs.Cache.{Cached, looked_for, put_first, value_of}
use Rattle.leveldb_table.specs.Footer.{footer_bytes}
use Rattle.leveldb_table.specs.OpenTable.{id_of}
use Rattle.leveldb_table.specs.Table.{filter_key}
use Rattle.leveldb_table.specs.TableBlock.{FailsFor, FileHas, IsLackError, KeepsDisk, ReadsFile}
use Rattle.leveldb_table.specs.TableReader.{AreOfPolicy, EndsInFooter, IsNoTable, IsOpenedAs, LacksPart, OpensTable, no_footer, not_indexed}
use Rattle.leveldb_table.specs.declared.block_cache.CachedBlock.{CachedBlock}
use Rattle.leveldb_files.specs.Stores.Format.{Format}
use Rattle.leveldb_files.specs.Stores.Paths.{table_path}
use Rattle.leveldb_version.specs.Tables.TableCache.{AreSameOrGone, ClosesTables, ForBytesAt, HasBytesAt, IsNoStoreTable, IsOpenedWith, IsSameOrClosed, IsSameOrGone, IsTableUnopened, IsThereAt, IsUnopened, MatchesFile, MatchesFiles, NoneOpened, OpensNumbered, OpensTableFile, StoreTable, TableOptions, blocks_of, empty_cache, files_at, key_order, missing, no_table, path_at, renewed, store_of, table_at, table_key, tables_of}
use Rattle.leveldb_version.specs.declared.table_cache.TableCache.{TableCache}

-- ---- empty files

-- no bytes end in a footer
ends_none : (bytes : List ℕ) (meta index : Handle) → bytes ≡ [] → EndsInFooter bytes (length bytes) meta index → ⊥
ends_none [] meta index none ends =
    let long = ap length ends.ends ∙ length-append ends.front (footer_bytes meta index) in
    let footer = length-footer_bytes meta index ends.meta_fits ends.index_fits in
    absurd (omega (arith, long, footer))
ends_none (b ∷ bytes) meta index none ends = cc

-- so they are no table
pub no_bytes : (format : Format) (bytes : List ℕ) (status : Status) → bytes ≡ [] → status.code ≡ Corruption → IsNoStoreTable format bytes status
no_bytes format bytes status none code = (opens_not part, part)
  where
    part : LacksPart format.codings (key_order format) (filter_key format.policy_name) bytes (length bytes) status
    part = not_indexed (no_footer (λ meta index ends. ends_none bytes meta index none ends) code)

-- ---- opening

-- the size that a file was found to have
size_there : (o : Option File) (size : ℕ) (bytes : List ℕ) → IsSomeAnd o (λ file. size ≡ length (bytes_of file)) → IsSomeAnd o (λ file. bytes_of file ≡ bytes) → size ≡ length bytes
size_there None size bytes sized there = absurd there
size_there (Some file) size bytes sized there = sized ∙ ap length there

some_there : (P : File → Type 0) (o : Option File) → IsSomeAnd o P → IsSome o
some_there P None there = absurd there
some_there P (Some file) there = refl

module _ {E F : Type 0} (env : EnvGhosts E F) where
  -- an open file has the bytes that are at its path
  pub FileHas-at : {old new : E} {file : F} {path bytes : List ℕ} → IsTrue env.models_disk → env.name_of file ≡ path → KeepsDisk env old new → HasBytesAt (files_at env old) path bytes → FileHas env new file bytes
  FileHas-at {old} {new} {file} {path} {bytes} modelled named kept has = record {
    modelled = modelled;
    there = subst (λ (o : Option File). IsSomeAnd o (λ f. bytes_of f ≡ bytes))
        (sym (ap (λ files. files (env.name_of file)) (same_files env kept modelled) ∙ ap (files_at env old) named)) has.there;
    fits = has.fits;
  }

  -- a file that isn't opened is missing, or it is empty and no table
  module _ (format : Format) (path : List ℕ) (state : E) where
    pub unopened_file : (status : Status) → (status.code ≡ Corruption) × (IsTrue env.models_disk → IfSome (files_at env state path) (λ file. bytes_of file ≡ [])) → IsUnopened env format state path status
    unopened_file status why = record { code = inl why.0; cause = λ modelled. go (files_at env state path) refl (why.1 modelled) }
      where
        go : (o : Option File) → files_at env state path ≡ o → IfSome (files_at env state path) (λ file. bytes_of file ≡ []) → IsTableUnopened format (files_at env state) path status
        go None is empty = missing is why.0
        go (Some file) is empty = no_table (subst (λ (o : Option File). IsSome o) (sym is) refl)
            (λ bytes has. no_bytes format bytes status
            (let there : bytes_of file ≡ bytes = subst (λ (o : Option File). IsSomeAnd o (λ f. bytes_of f ≡ bytes)) is has.there in
            let none : bytes_of file ≡ [] = subst (λ (o : Option File). IfSome o (λ f. bytes_of f ≡ [])) is empty in
            sym there ∙ none) why.0)

-- ---- a table's file

is_refused : {T : Type 0} (Q : Status → Type 0) (result : Result T Status) → IsErrAnd result Q → IsErr result
is_refused Q (Ok value) refused = absurd refused
is_refused Q (Err status) refused = refl

module _ {E F : Type 0} (env : EnvGhosts E F) (path : List ℕ) where
  -- the file is empty, as far as the disk is observed
  abbrev IsEmptyAt : E → Type 0
  IsEmptyAt state = IsTrue env.models_disk → IfSome (files_at env state path) (λ file. bytes_of file ≡ [])

  module _ (old : E) {new : E} (kept : KeepsDisk env old new) where
    lost_fails : {T : Type 0} (status : Status) → HasCause {T = T} (λ e. IsOutOfMemory e ⊎ (IsMissingFile path e × IsEmptyAt old × (env.failures new ≡ env.failures old))) (env.failures old) (env.failures new) (Err status)
        → FailsFor env {T = T} (λ e. (e.code ≡ Corruption) × IsEmptyAt old) old new (Err status)
    lost_fails status cause = record {
      later = cause.later;
      ok = tt;
      uncounted = λ excused. ⊎_elim (λ memory. cause.uncounted (inl memory)) (λ lost. lost.0) excused;
      cause = ⊎_elim (λ excused. inl (⊎_elim (λ memory. inl memory) (λ lost. inr (lost.2, (lost.0.code, lost.1))) excused)) (λ counted. inr counted) cause.cause;
    }

    -- it isn't there
    pub open_lost : {T : Type 0} (answer : Result T Status) (status : Status) (result : Result (F × ℕ) Status) → IsErrAnd result (λ it. it ≡ status)
        → IsFoundOr path answer (Err status) → HasCause (IsMissing env.models_disk path (env.observed old)) (env.failures old) (env.failures new) answer
        → OpensTableFile env path old result new
    open_lost answer status (Ok opened) same is cause = absurd same
    open_lost {T = T} answer status (Err it) same is cause = record {
      ok = tt;
      reads = record {
        kept_disk = kept;
        cause = fails_refused env {T = T} (Err it) same (lost_fails status
            (found_cause path answer (Err status) (λ gone modelled. subst (λ (o : Option File). IfSome o (λ file. bytes_of file ≡ [])) (sym (gone modelled)) tt) is cause));
      };
    }

    -- it is empty
    pub open_empty : (answer : Result ℕ Status) (size : ℕ) (result : Result (F × ℕ) Status) → IsFoundOr path answer (Ok size) → size ≡ 0
        → IsErrAnd result (λ status. status.code ≡ Corruption)
        → IfOk answer (λ n. IsTrue env.models_disk → IfSome (files_at env old path) (λ file. n ≡ length (bytes_of file)))
        → HasCause (IsMissing env.models_disk path (env.observed old)) (env.failures old) (env.failures new) answer
        → OpensTableFile env path old result new
    open_empty answer size result is none refused sized cause =
        let was = found_ok path answer size is in
        record {
          ok = IfOk-from_err result _ (is_refused (λ status. status.code ≡ Corruption) result refused);
          reads = reads_own env result kept (IfOk-at_ok (λ n. env.failures new ≡ env.failures old) was cause.ok) refused
              (λ status code. inr (code, λ modelled. by (files_at env old path) (IfOk-at_ok (λ n. IsTrue env.models_disk → IfSome (files_at env old path) (λ file. n ≡ length (bytes_of file))) was sized modelled)));
        }
      where
        nothing : (bytes : List ℕ) → size ≡ length bytes → bytes ≡ []
        nothing [] long = refl
        nothing (byte ∷ bytes) long = absurd (omega (arith, none, long))

        by : (o : Option File) → IfSome o (λ file. size ≡ length (bytes_of file)) → IfSome o (λ file. bytes_of file ≡ [])
        by None long = tt
        by (Some file) long = nothing (bytes_of file) long

  module _ {old mid new : E} (kept : KeepsDisk env old mid) (counted : env.failures mid ≡ env.failures old) where
    -- it was there before, and isn't opened now
    pub open_lost_then : (result : Result (F × ℕ) Status) → OpensTableFile env path mid result new → IsErr result → OpensTableFile env path old result new
    open_lost_then result opens refused = record {
      ok = IfOk-from_err result _ refused;
      reads = reads_then env result kept counted
          (λ status why. (why.0, λ modelled. subst (λ (files : Files). IfSome (files path) (λ file. bytes_of file ≡ [])) (same_files env kept modelled) (why.1 modelled))) opens.reads;
    }

    -- it is opened
    pub opens_there : (size : ℕ) (file : F) → KeepsDisk env mid new → env.failures new ≡ env.failures mid → (IsTrue env.models_disk → env.name_of file ≡ path)
        → (IsTrue env.models_disk → IfSome (files_at env old path) (λ found. size ≡ length (bytes_of found))) → (IsTrue env.models_disk → IsSome (files_at env old path))
        → OpensTableFile env path old (Ok (file, size)) new
    opens_there size file kept_on counted_on named sized there = record {
      ok = λ modelled. (named modelled, by (files_at env old path) (sized modelled) (there modelled));
      reads = reads_ok env (KeepsDisk-trans env kept kept_on) (counted_on ∙ counted);
    }
      where
        by : (o : Option File) → IfSome o (λ found. size ≡ length (bytes_of found)) → IsSome o → IsSomeAnd o (λ found. size ≡ length (bytes_of found))
        by None long is = absurd (true≢false (sym is))
        by (Some found) long is = long

-- ---- a cache that is renewed

module _ {E C FP F : Type 0} where
  -- what holds of a cache and of one that is empty holds of a renewed one
  renewed_has : (P : TableCache E C FP F → Type 0) (cache : TableCache E C FP F) → P cache → P (record cache { tables = empty_cache (tables_of cache).capacity; blocks = empty_cache (blocks_of cache).capacity }) → P (renewed cache)
  renewed_has P cache same empty =
      elim ((blocks_of cache).given + 1 == 2 ^ 64) as (λ b. P (if b then record cache { tables = empty_cache (tables_of cache).capacity; blocks = empty_cache (blocks_of cache).capacity } else cache)) [
        | true ↦ empty
        | false ↦ same
      ]

  pub renewed_store : (cache : TableCache E C FP F) → store_of (renewed cache) ≡ store_of cache
  renewed_store cache = renewed_has (λ new. store_of new ≡ store_of cache) cache refl refl

  pub renewed_room : (cache : TableCache E C FP F) → (tables_of (renewed cache)).capacity ≡ (tables_of cache).capacity
  renewed_room cache = renewed_has (λ new. (tables_of new).capacity ≡ (tables_of cache).capacity) cache refl refl

  pub renewed_closes : (cache : TableCache E C FP F) (number : ℕ) → IsSameOrClosed number cache (renewed cache)
  renewed_closes cache number = renewed_has (λ new. IsSameOrClosed number cache new) cache (inr refl) (inl refl)

  pub renewed_none : (cache : TableCache E C FP F) (number : ℕ) → table_at cache number ≡ None → table_at (renewed cache) number ≡ None
  renewed_none cache number none = renewed_has (λ new. table_at new number ≡ None) cache none refl

  -- it gives a next id
  pub renewed_gives : (cache : TableCache E C FP F) → (blocks_of (renewed cache)).given + 1 ≢ 2 ^ 64
  renewed_gives cache = ⊎_elim
      (λ full. rw full.0 (λ e. absurd (omega (arith, e))))
      (λ some. rw some.0 some.1)
      (eqb_tells ((blocks_of cache).given + 1) (2 ^ 64))

-- ---- opening in a cache

module _ {E C FP F : Type 0} (env : EnvGhosts E F) (by : TableOptions C FP) (number : ℕ) (from : E) (old : TableCache E C FP F) where
  -- no table is opened
  pub numbered_err : {T : Type 0} {to : E} {new : TableCache E C FP F} (result : Result (StoreTable C FP F) Status) {status : Status} → IsErrAnd result (λ other. other ≡ status)
      → ReadsFile env {T = T} (IsUnopened env by.format from (path_at old number)) from to (Err status) → NoneOpened old new → OpensNumbered env by number from old result to new
  numbered_err (Ok table) same reads left = absurd same
  numbered_err {T = T} (Err other) same reads left = record {
    reads = reads_refused env {T = T} (Err other) same reads;
    there = tt;
    path = tt;
    opened = tt;
    id = tt;
    cache = tt;
    err = left;
  }

  -- a file is, and then the table in it
  module _ (now : TableCache E C FP F) (now_is : now ≡ renewed old) {mid : E} (file : F) (size : ℕ) (named : IsTrue env.models_disk → (env.name_of file ≡ path_at old number)
      × IsSomeAnd (files_at env from (path_at old number)) (λ f. size ≡ length (bytes_of f))) (kept : KeepsDisk env from mid) (counted : env.failures mid ≡ env.failures from) where
    has_mid : {bytes : List ℕ} → IsTrue env.models_disk → HasBytesAt (files_at env from) (path_at old number) bytes → FileHas env mid file bytes
    has_mid modelled has = FileHas-at env modelled (named modelled).0 kept has

    sized : {bytes : List ℕ} → IsTrue env.models_disk → HasBytesAt (files_at env from) (path_at old number) bytes → size ≡ length bytes
    sized {bytes} modelled has = size_there (files_at env from (path_at old number)) size bytes (named modelled).1 has.there

    is_there : IsThereAt env from (path_at old number)
    is_there modelled = some_there (λ f. size ≡ length (bytes_of f)) (files_at env from (path_at old number)) (named modelled).1

    more_ids : (blocks_of now).given + 1 ≢ 2 ^ 64
    more_ids = subst (λ (c : TableCache E C FP F). (blocks_of c).given + 1 ≢ 2 ^ 64) (sym now_is) (renewed_gives old)

    why : (status : Status) → ((status.code ≡ NotSupported) × ((blocks_of now).given + 1 ≡ 2 ^ 64))
        ⊎ IsLackError env by.format.codings (IsNoTable by.format.codings (key_order by.format) (filter_key by.format.policy_name) size) mid file status → IsUnopened env by.format from (path_at old number) status
    why status (inl full) = absurd (more_ids full.1)
    why status (inr lack) = record {
      code = lack.0;
      cause = λ modelled. no_table (is_there modelled)
          (λ bytes has. subst (λ n. IsNoTable by.format.codings (key_order by.format) (filter_key by.format.policy_name) n bytes status) (sized modelled has) (lack.1 bytes (has_mid modelled has)));
    }

    pub numbered : {to : E} {after : Cached (CachedBlock (InternalKeyCmp C))} (result : Result (StoreTable C FP F) Status)
        → OpensTable env by.format.codings (IsOpenedAs by.format.codings (key_order by.format) (filter_key by.format.policy_name) size) (AreOfPolicy by.policy) (IsNoTable by.format.codings (key_order by.format) (filter_key by.format.policy_name) size)
        (record { 0 = by.cmp }) file mid (blocks_of now) result to after
        → OpensNumbered env by number from old result to (record now { blocks = after })
    numbered {after = after} (Ok table) opens = record {
      reads = reads_then env (Ok table) kept counted why opens.reads;
      there = is_there;
      path = λ modelled. ap env.name_of opens.file ∙ (named modelled).0;
      opened = λ modelled bytes has. record {
        opened = subst (λ n. IsOpenedAs by.format.codings (key_order by.format) (filter_key by.format.policy_name) n table bytes) (sized modelled has) (opens.ok bytes (has_mid modelled has));
        ordered = opens.order;
        filtered = opens.policy;
      };
      id = (opens.id.0 ∙ ap (λ (c : TableCache E C FP F). (blocks_of c).given + 1) now_is, opens.id_fits);
      cache = ap (λ b. record now { blocks = b }) opens.id.1 ∙ ap (λ (c : TableCache E C FP F). record c { blocks = record (blocks_of c) { given = id_of table } }) now_is;
      err = tt;
    }
    numbered {after = after} (Err status) opens = record {
      reads = reads_then env (Err status) kept counted why opens.reads;
      there = tt;
      path = tt;
      opened = tt;
      id = tt;
      cache = tt;
      err = inr (ap (λ b. record now { blocks = b }) opens.err ∙ now_is);
    }

-- ---- the open tables

-- numbers of 64 bits have keys of their own
pub one_number : (m n : ℕ) → m < 2 ^ 64 → n < 2 ^ 64 → table_key m ≡ table_key n → m ≡ n
one_number m n m_fits n_fits same = one_id m n 0 0 m_fits n_fits same

-- where there is none, a look-up leaves all pairs as they are
pub looked_none : {T : Type 0} (key : List ℕ) (pairs : List (List ℕ × T)) → value_of key pairs ≡ None → looked_for key pairs ≡ pairs
looked_none key pairs none = rw (none, looked_for)

-- what was put is there, where there is room for it
pub put_there : {T : Type 0} (capacity : ℕ) (key : List ℕ) (value : T) (pairs : List (List ℕ × T)) → 0 < capacity → value_of key (put_first capacity key value pairs) ≡ Some value
put_there zero key value pairs room = absurd (omega (arith, room))
put_there (suc room) key value pairs some = rw (bytes_eq-same key)

pub some_of : {T : Type 0} (o : Option T) → IsSome o → (value : T) × (o ≡ Some value)
some_of None there = absurd (cc there)
some_of (Some value) there = (value, refl)

pub some_is : {T : Type 0} {o : Option T} {value : T} → o ≡ Some value → IsSome o
some_is {o = o} is = subst IsSome (sym is) refl

pub same_value : {T : Type 0} {o : Option T} {a b : T} → o ≡ Some a → o ≡ Some b → a ≡ b
same_value p q = cc

pub none_value : {T : Type 0} {o : Option T} {a : T} → o ≡ None → o ≡ Some a → ⊥
none_value p q = cc

pub on_ok : {T : Type 0} {P : Type 0} (result : Result T Status) → P → OnOk result P
on_ok (Ok value) is = is
on_ok (Err status) is = tt

-- what holds of an error holds of no success
pub refused_ok : {T : Type 0} (Q : Status → Type 0) (P : Type 0) (result : Result T Status) → IsErrAnd result Q → OnOk result P
refused_ok Q P (Ok value) refused = absurd refused
refused_ok Q P (Err status) refused = tt

-- a file that has its bytes had them
same_bytes : (old new : Option File) (bytes : List ℕ) → IsSameOrGone old new → IsSomeAnd new (λ file. bytes_of file ≡ bytes) → IsSomeAnd old (λ file. bytes_of file ≡ bytes)
same_bytes old None bytes same there = absurd there
same_bytes None (Some file) bytes same there = absurd same
same_bytes (Some before) (Some file) bytes same there = same ∙ there

not_changed : (o : Option File) → IsSameOrGone o o
not_changed None = tt
not_changed (Some file) = refl

-- ---- files that change, and tables that are closed

same_or_gone : (old mid new : Option File) → IsSameOrGone old mid → IsSameOrGone mid new → IsSameOrGone old new
same_or_gone old mid None first second = tt
same_or_gone old None (Some file) first second = absurd second
same_or_gone None (Some between) (Some file) first second = absurd first
same_or_gone (Some before) (Some between) (Some file) first second = first ∙ second

module _ {E C FP F : Type 0} where
  -- no file changes, and one change after another
  pub AreSameOrGone-refl : (cache : TableCache E C FP F) (files : Files) → AreSameOrGone cache files files
  AreSameOrGone-refl cache files number fits there = not_changed (files (path_at cache number))

  pub AreSameOrGone-trans : (cache : TableCache E C FP F) (old mid new : Files) → AreSameOrGone cache old mid → AreSameOrGone cache mid new → AreSameOrGone cache old new
  AreSameOrGone-trans cache old mid new first second number fits there =
      same_or_gone (old (path_at cache number)) (mid (path_at cache number)) (new (path_at cache number)) (first number fits there) (second number fits there)

  -- no table is closed, and some and then others
  pub ClosesTables-refl : (cache : TableCache E C FP F) → ClosesTables cache cache
  ClosesTables-refl cache = record { path = refl; blocks = refl; room = refl; found = refl; each = λ number fits. inr refl }

  pub ClosesTables-trans : {old mid new : TableCache E C FP F} → ClosesTables old mid → ClosesTables mid new → ClosesTables old new
  ClosesTables-trans first second = record {
    path = second.path ∙ first.path;
    blocks = second.blocks ∙ first.blocks;
    room = second.room ∙ first.room;
    found = second.found ∙ first.found;
    each = λ number fits. ⊎_elim inl (λ same. ⊎_elim (λ none. inl (same ∙ none)) (λ before. inr (same ∙ before)) (first.each number fits)) (second.each number fits);
  }

  -- what is open was open
  pub was_there : (old new : TableCache E C FP F) (number : ℕ) {table : StoreTable C FP F} → IsSameOrClosed number old new → table_at new number ≡ Some table → table_at old number ≡ Some table
  was_there old new number closed there = ⊎_elim (λ none. absurd (none_value none there)) (λ same. sym same ∙ there) closed

  -- so fewer files are those of open tables
  pub AreSameOrGone-fewer : {old new : TableCache E C FP F} (before after : Files) → ClosesTables old new → AreSameOrGone old before after → AreSameOrGone new before after
  AreSameOrGone-fewer {old} {new} before after closes kept number fits there =
      let table = some_of (table_at new number) there in
      subst (λ store. IsSameOrGone (before (table_path store number)) (after (table_path store number))) (sym closes.path)
      (kept number fits (some_is (was_there old new number (closes.each number fits) table.1)))

module _ {E C FP F : Type 0} {order : CmpGhosts (InternalKeyCmp C)} (env : EnvGhosts E F) (by : TableOptions C FP) where
  pub matches_changed : (cache : TableCache E C FP F) {old new : Files} → AreSameOrGone cache old new → MatchesFiles order env by old cache → MatchesFiles order env by new cache
  matches_changed cache {old} {new} kept was = record {
    each = λ number table fits there.
        (let is = was.each number table fits there in
        let before : (bytes : List ℕ) → HasBytesAt new (path_at cache number) bytes → HasBytesAt old (path_at cache number) bytes = λ bytes has. record {
          there = same_bytes (old (path_at cache number)) (new (path_at cache number)) bytes (kept number fits (some_is there)) has.there;
          fits = has.fits;
        } in record {
          path = is.path;
          opened = λ bytes has. is.opened bytes (before bytes has);
          blocks = λ bytes has. is.blocks bytes (before bytes has);
          given = is.given;
        });
    apart = was.apart;
    ids = was.ids;
    numbered = was.numbered;
  }

  -- a call that only reads changes no file
  pub matches_later : (cache : TableCache E C FP F) {old new : E} → IsTrue env.models_disk → KeepsDisk env old new → MatchesFiles order env by (files_at env old) cache → MatchesFiles order env by (files_at env new) cache
  matches_later cache {old} {new} modelled kept was = subst (λ files. MatchesFiles order env by files cache) (sym (same_files env kept modelled)) was

  pub matches_closed : {old new : TableCache E C FP F} (files : Files) → ClosesTables old new → MatchesFiles order env by files old → MatchesFiles order env by files new
  matches_closed {old} {new} files closes was = record {
    each = λ number table fits there.
        (let is = was.each number table fits (was_there old new number (closes.each number fits) there) in record {
          path = λ modelled. is.path modelled ∙ ap (λ store. table_path store number) (sym closes.path);
          opened = subst (λ store. ForBytesAt files (table_path store number) (IsOpenedWith by table)) (sym closes.path) is.opened;
          blocks = subst (λ store. ForBytesAt files (table_path store number) (λ bytes. HoldsOnlyOf order by.format.codings (key_order by.format) (id_of table) bytes (blocks_of new))) (sym closes.path)
              (subst (λ b. ForBytesAt files (path_at old number) (λ bytes. HoldsOnlyOf order by.format.codings (key_order by.format) (id_of table) bytes b)) (sym closes.blocks) is.blocks);
          given = subst (λ (b : Cached (CachedBlock (InternalKeyCmp C))). id_of table ≤ b.given) (sym closes.blocks) is.given;
        });
    apart = λ m n a b m_fits n_fits at_m at_n same.
        was.apart m n a b m_fits n_fits (was_there old new m (closes.each m m_fits) at_m) (was_there old new n (closes.each n n_fits) at_n) same;
    ids = subst (λ (b : Cached (CachedBlock (InternalKeyCmp C))). b.given < 2 ^ 64) (sym closes.blocks) was.ids;
    numbered = subst IsNumbered (sym closes.blocks) was.numbered;
  }

  -- a renewed cache matches too, since it has less
  pub matches_renewed : (cache : TableCache E C FP F) (files : Files) → MatchesFiles order env by files cache → MatchesFiles order env by files (renewed cache)
  matches_renewed cache files was = renewed_has (λ new. MatchesFiles order env by files new) cache was (record {
    each = λ number table fits there. absurd (none_value refl there);
    apart = λ m n a b m_fits n_fits at_m at_n same. absurd (none_value refl at_m);
    ids = omega arith;
    numbered = λ key held found. absurd (none_value refl found);
  })

  -- which key was found last says nothing of the tables
  pub matches_found : (cache : TableCache E C FP F) (found : List ℕ) (files : Files) → MatchesFiles order env by files cache → MatchesFiles order env by files (record cache { key_buffers = found })
  matches_found cache found files was = record {
    each = λ number table fits there.
        (let is = was.each number table fits there in record { path = is.path; opened = is.opened; blocks = is.blocks; given = is.given });
    apart = was.apart;
    ids = was.ids;
    numbered = was.numbered;
  }

  -- ---- other tables

  -- the tables that are left are those that were there
  pub matches_left : (cache : TableCache E C FP F) (tables : Cached (StoreTable C FP F)) (files : Files)
      → ((number : ℕ) (table : StoreTable C FP F) → number < 2 ^ 64 → value_of (table_key number) tables.pairs ≡ Some table → table_at cache number ≡ Some table)
      → MatchesFiles order env by files cache → MatchesFiles order env by files (record cache { tables = tables })
  matches_left cache tables files left was = record {
    each = λ number table fits there.
        (let is = was.each number table fits (left number table fits there) in record { path = is.path; opened = is.opened; blocks = is.blocks; given = is.given });
    apart = λ m n a b m_fits n_fits at_m at_n same. was.apart m n a b m_fits n_fits (left m a m_fits at_m) (left n b n_fits at_n) same;
    ids = was.ids;
    numbered = was.numbered;
  }

  -- a look-up leaves all
  pub matches_looked : (cache : TableCache E C FP F) (tables : Cached (StoreTable C FP F)) (files : Files) (number : ℕ) → tables ≡ record (tables_of cache) { pairs = looked_for (table_key number) (tables_of cache).pairs }
      → MatchesFiles order env by files cache → MatchesFiles order env by files (record cache { tables = tables })
  matches_looked cache tables files number is was =
      matches_left cache tables files
      (λ n table fits there. sym (looked_for_same (table_key n) (table_key number) (tables_of cache).pairs) ∙ ap (λ (c : Cached (StoreTable C FP F)). value_of (table_key n) c.pairs) (sym is) ∙ there) was

  -- one more table, which matches and has an id of its own
  pub matches_put : (cache : TableCache E C FP F) (tables : Cached (StoreTable C FP F)) (files : Files) (number : ℕ) (table : StoreTable C FP F) → number < 2 ^ 64
      → tables ≡ record (tables_of cache) { pairs = put_first (tables_of cache).capacity (table_key number) table (tables_of cache).pairs }
      → MatchesFile order env by files cache number table → ((n : ℕ) (other : StoreTable C FP F) → n < 2 ^ 64 → table_at cache n ≡ Some other → id_of other ≢ id_of table)
      → MatchesFiles order env by files cache → MatchesFiles order env by files (record cache { tables = tables })
  matches_put cache tables files number table fits is it apart was = record {
    each = λ n other n_fits there. ⊎_elim
        (λ before. (let m = was.each n other n_fits before in record { path = m.path; opened = m.opened; blocks = m.blocks; given = m.given }))
        (λ own. subst (λ k. MatchesFile order env by files (record cache { tables = tables }) k other) (sym own.0)
        (subst (MatchesFile order env by files (record cache { tables = tables }) number) own.1 (record { path = it.path; opened = it.opened; blocks = it.blocks; given = it.given })))
        (found n other n_fits there);
    apart = λ m n a b m_fits n_fits at_m at_n same.
        ⊎_elim
        (λ a_before. ⊎_elim (λ b_before. was.apart m n a b m_fits n_fits a_before b_before same)
        (λ b_own. absurd (apart m a m_fits a_before (same ∙ ap id_of (sym b_own.1)))) (found n b n_fits at_n))
        (λ a_own. ⊎_elim (λ b_before. absurd (apart n b n_fits b_before (sym same ∙ ap id_of (sym a_own.1))))
        (λ b_own. a_own.0 ∙ sym b_own.0) (found n b n_fits at_n))
        (found m a m_fits at_m);
    ids = was.ids;
    numbered = was.numbered;
  }
    where
      found : (n : ℕ) (other : StoreTable C FP F) → n < 2 ^ 64 → value_of (table_key n) tables.pairs ≡ Some other → (table_at cache n ≡ Some other) ⊎ ((n ≡ number) × (table ≡ other))
      found n other n_fits there =
          ⊎_elim (λ before. inl before) (λ own. inr (one_number n number n_fits fits own.0, own.1))
          (put_finds (table_key n) (tables_of cache).capacity (table_key number) table other (tables_of cache).pairs (ap (λ (c : Cached (StoreTable C FP F)). value_of (table_key n) c.pairs) (sym is) ∙ there))

  -- ---- other blocks

  -- what blocks are in memory of an open table are its file's still
  pub matches_blocks : (cache : TableCache E C FP F) (blocks : Cached (CachedBlock (InternalKeyCmp C))) (files : Files) → MatchesFiles order env by files cache → blocks.given < 2 ^ 64 → (blocks_of cache).given ≤ blocks.given → IsNumbered blocks
      → ((number : ℕ) (table : StoreTable C FP F) → number < 2 ^ 64 → table_at cache number ≡ Some table → (bytes : List ℕ) → HasBytesAt files (path_at cache number) bytes
      → HoldsOnlyOf order by.format.codings (key_order by.format) (id_of table) bytes blocks)
      → MatchesFiles order env by files (record cache { blocks = blocks })
  matches_blocks cache blocks files was ids given numbered holds = record {
    each = λ number table fits there.
        (let is = was.each number table fits there in record { path = is.path; opened = is.opened; blocks = λ bytes has. holds number table fits there bytes has; given = le_trans is.given given });
    apart = was.apart;
    ids = ids;
    numbered = numbered;
  }
    where
      le_trans : {a b c : ℕ} → a ≤ b → b ≤ c → a ≤ c
      le_trans p q = omega (arith, p, q)
