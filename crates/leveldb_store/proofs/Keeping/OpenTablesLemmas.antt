-- The open tables of a store: which of them calls close, and that they stay those of its files.
use Rattle.std.specs.Prelude.{Contains, IsSome, IsTrue, map}
use Rattle.std.proofs.Common.{◌≡◌, ◌∙◌, ◌≤◌, ◌<◌, ◌^◌, ⊎_elim, ℕ, Bool, true, false, List, [], ◌∷◌, Option, None, Result, ap, arith, refl, subst, sym}
use Rattle.std.specs.declared.cmp.Ordering.{Ordering}
use Rattle.leveldb_base.proofs.HistoryLemmas.{in_cases, in_front, in_none, in_rest}
use Rattle.leveldb_base.proofs.NamesLemmas.{made_name}
use Rattle.leveldb_base.specs.History.{Item}
use Rattle.leveldb_base.specs.Names.{IsFileName, file_name}
use Rattle.leveldb_base.specs.declared.cmp.Cmp.{Ghosts as CmpGhosts}
use Rattle.leveldb_base.specs.declared.cmp.internal.InternalKeyCmp.{InternalKeyCmp}
use Rattle.leveldb_base.specs.declared.error.Status.{Status}
use Rattle.leveldb_base.specs.declared.types.FileType.{FileType}
use Rattle.leveldb_base.specs.declared.types.FileType.TheVariants.{Table}
use Rattle.leveldb_env.specs.Env.{Files, SameBut, in_folder}
use Rattle.leveldb_env.specs.declared.env.Env.{Ghosts}
use Rattle.leveldb_files.proofs.Stores.ManagedLemmas.{kinds_apart, numbers_apart}
use Rattle.leveldb_version.proofs.Tables.TableCacheLemmas.{ClosesTables-refl, ClosesTables-trans, matches_changed, matches_closed}
use Rattle.leveldb_files.specs.Stores.Paths.{table_path}
use Rattle.leveldb_version.specs.Tables.TableCache.{ClosesTables, EvictsTable, IsSameOrGone, TableOptions, files_at, table_at}
use Rattle.leveldb_files.specs.Edits.Edit.{NewFile}
use Rattle.leveldb_version_set.specs.Sets.VersionSetValue.{VersionSetValue}
use Rattle.leveldb_version_set.specs.Engines.Writing.{IsObsolete}
use Rattle.leveldb_version.specs.declared.table_cache.TableCache.{TableCache}
use Rattle.leveldb_store.proofs.Keeping.GivenTablesLemmas.{given_removed, given_same}
use Rattle.leveldb_store.proofs.Writing.SwitchLemmas.{tables_same}
use Rattle.leveldb_store.specs.Keeping.OpenStore.{OpenStoreValue}
use Rattle.leveldb_store.specs.Keeping.OpenTables.{AreOpenTablesOf, ClosesObsolete}
use Rattle.leveldb_store.specs.Writing.Switch.{RemovesNoOther}
use Rattle.leveldb_store.specs.Writing.WriteBatch.{WritesBatch}
use Rattle.leveldb_store.specs.Keeping.Written.{KeepsGivenTables, KeepsTables, SparesRest}

-- ---- which tables are closed

-- the number of each file is among those of the files
pub number_in : (file : NewFile) (files : List NewFile) → Contains files file
    → Contains (map (λ (it : NewFile). it.number) files) file.number
number_in file [] there = absurd (in_none file there)
number_in file (first ∷ files) there = ⊎_elim
    (λ (same : first ≡ file). subst
    (λ (it : NewFile). Contains (first.number ∷ map (λ (f : NewFile). f.number) files) it.number)
    same (in_front first.number (map (λ (f : NewFile). f.number) files)))
    (λ (rest : Contains files file). in_rest first.number file.number
    (map (λ (f : NewFile). f.number) files) (number_in file files rest))
    (in_cases first file files there)

module _ {E C FP F : Type 0} where
  -- what is open was so before
  pub open_before : {old new : TableCache E C FP F} → ClosesTables old new → (number : ℕ) → number < 2 ^ 64
      → IsSome (table_at new number) → IsSome (table_at old number)
  open_before {old} {new} closes number fits is_open = ⊎_elim
      (λ (none : table_at new number ≡ None).
      let never : false ≡ true = subst IsSome none is_open in absurd (cc never))
      (λ (same : table_at new number ≡ table_at old number). subst IsSome same is_open)
      (closes.each number fits)

-- ---- a removal of obsolete files

module _ {E C FP F : Type 0} (env : Ghosts E F)
    (set : VersionSetValue) where
  -- no table is closed, and no file changes
  pub no_removal : (from to : E) (cache : TableCache E C FP F)
      → (IsTrue env.models_disk → files_at env to ≡ files_at env from)
      → ClosesObsolete env set from cache to cache
  no_removal from to cache same = record {
    closes = ClosesTables-refl cache;
    live = λ file is_live fits. refl;
    files = λ modelled number fits given is_open.
        ap (λ (f : Files). f (table_path set.store number)) (same modelled);
  }

  -- one removal after another
  pub removal_then : {e0 e1 e2 : E} {c0 c1 c2 : TableCache E C FP F}
      → ClosesObsolete env set e0 c0 e1 c1 → ClosesObsolete env set e1 c1 e2 c2
      → ClosesObsolete env set e0 c0 e2 c2
  removal_then first second = record {
    closes = ClosesTables-trans first.closes second.closes;
    live = λ file is_live fits. second.live file is_live fits ∙ first.live file is_live fits;
    files = λ modelled number fits given is_open. second.files modelled number fits given is_open
        ∙ first.files modelled number fits given (open_before second.closes number fits is_open);
  }

  module _ (name : List ℕ) (n : ℕ) (kind : FileType) (is : IsFileName name n kind)
      (gone : IsObsolete set kind n) (from to : E)
      (change : IsTrue env.models_disk
      → SameBut (in_folder set.store name) (files_at env from) (files_at env to)) where
    -- a file that is no table
    pub other_removed : (kind ≡ Table → ⊥) → (cache : TableCache E C FP F)
        → ClosesObsolete env set from cache to cache
    other_removed other cache = record {
      closes = ClosesTables-refl cache;
      live = λ file is_live fits. refl;
      files = λ modelled number fits given is_open. change modelled (table_path set.store number)
          (kinds_apart set.store name (file_name Table number) n number kind Table is
          (made_name Table number fits) other);
    }

    -- a table, which is closed before that
    pub table_removed : kind ≡ Table → {result : Bool} {old new : TableCache E C FP F}
        → EvictsTable n old result new → ClosesObsolete env set from old to new
    table_removed table {result} {old} {new} evicts = record {
      closes = evicts.closes;
      live = λ file is_live fits. evicts.others_stay file.number fits (λ same.
          not_live (subst (Contains (map (λ (it : NewFile). it.number) set.full.added)) same
          (number_in file set.full.added is_live)));
      files = λ modelled number fits given is_open. change modelled (table_path set.store number)
          (numbers_apart set.store name (file_name Table number) n number kind Table is
          (made_name Table number fits) (λ same.
          let never : false ≡ true = subst IsSome
          (ap (λ k. table_at new k) (sym same) ∙ evicts.closed) is_open in cc));
    }
      where
        not_live : Contains (map (λ (it : NewFile). it.number) set.full.added) n → ⊥
        not_live = subst (λ k. IsObsolete set k n) table gone

-- ---- several calls, of which each gives numbers

module _ {E C FP F : Type 0} (env : Ghosts E F)
    (old new : VersionSetValue) where
  -- what deletes no table closes none
  pub closes_none : {e0 e1 : E}
      → KeepsTables env.models_disk old (env.observed e0) new (env.observed e1)
      → (cache : TableCache E C FP F) → ClosesObsolete env old e0 cache e1 cache
  closes_none kept cache = record {
    closes = ClosesTables-refl cache;
    live = λ file is_live fits. refl;
    files = λ modelled number fits given is_open. kept.files modelled number fits given;
  }

  -- one call after another
  pub closes_then : new.store ≡ old.store → old.next_file ≤ new.next_file
      → ((file : NewFile) → Contains old.full.added file → Contains new.full.added file)
      → {e0 e1 e2 : E} {c0 c1 c2 : TableCache E C FP F}
      → ClosesObsolete env old e0 c0 e1 c1 → ClosesObsolete env new e1 c1 e2 c2
      → ClosesObsolete env old e0 c0 e2 c2
  closes_then store least live {e1 = e1} {e2 = e2} first second = record {
    closes = ClosesTables-trans first.closes second.closes;
    live = λ file is_live fits. second.live file (live file is_live) fits
        ∙ first.live file is_live fits;
    files = λ modelled number fits given is_open.
        subst (λ s. files_at env e2 (table_path s number) ≡ files_at env e1 (table_path s number))
        store (second.files modelled number fits (omega (arith, given, least)) is_open)
        ∙ first.files modelled number fits given (open_before second.closes number fits is_open);
  }

  -- tables are closed after a call that deletes none
  pub closes_after : new.store ≡ old.store → old.next_file ≤ new.next_file → {e0 e1 e2 : E}
      → KeepsTables env.models_disk old (env.observed e0) new (env.observed e1)
      → {c1 c2 : TableCache E C FP F} → ClosesObsolete env new e1 c1 e2 c2
      → ClosesObsolete env old e0 c1 e2 c2
  closes_after store least kept {c1 = c1} second =
      closes_then store least kept.live (closes_none kept c1) second

-- ---- the open tables of a store

module _ {E C FP F : Type 0} {order : CmpGhosts (InternalKeyCmp C)} (env : Ghosts E F)
    (by : TableOptions C FP) where
  -- Tables are closed, and no table changes whose number was given, while numbers are given.
  pub stay_open : (set later : VersionSetValue) → later.store ≡ set.store
      → set.next_file ≤ later.next_file → (before after : Files)
      → KeepsGivenTables set before after → (old new : TableCache E C FP F)
      → ClosesTables old new → AreOpenTablesOf order env by set before old
      → AreOpenTablesOf order env by later after new
  stay_open set later store least before after keeps old new closes are = record {
    path = closes.path ∙ are.path ∙ sym store;
    given = λ number fits is_open.
        let given = are.given number fits (open_before closes number fits is_open) in
        omega (arith, given, least);
    matches = matches_closed env by after closes (matches_changed env by old
        (λ number fits is_open. subst
        (λ s. IsSameOrGone (before (table_path s number)) (after (table_path s number)))
        (sym are.path) (keeps number fits (are.given number fits is_open))) are.matches);
  }

  -- so they are those of the store after a call that adds no batch
  pub open_after_call : {D : Type 0} (old new : OpenStoreValue D) (from to : E)
      → SparesRest env.models_disk old (env.observed from) new (env.observed to)
      → (before after : TableCache E C FP F) → ClosesTables before after
      → IsTrue env.models_disk → AreOpenTablesOf order env by old.set (files_at env from) before
      → AreOpenTablesOf order env by new.set (files_at env to) after
  open_after_call old new from to rest before after closes modelled =
      stay_open old.set new.set rest.store rest.numbers (files_at env from) (files_at env to)
      (rest.tables modelled) before after closes

  -- after one that removes obsolete files
  pub open_after_removal : (set : VersionSetValue) (kept_to : Option ℕ) (before after : Files)
      → RemovesNoOther set kept_to before after → (old new : TableCache E C FP F)
      → ClosesTables old new → AreOpenTablesOf order env by set before old
      → AreOpenTablesOf order env by set after new
  open_after_removal set kept_to before after removes =
      stay_open set set refl (omega arith) before after
      (given_removed set kept_to before after removes)

  -- and after a batch is written
  pub open_after_batch : {D : Type 0} (cmp : List ℕ → List ℕ → Ordering)
      (old new : OpenStoreValue D) (from to : E) (items : List Item) (sync : Bool)
      (result : Result (Unit {0}) Status)
      → WritesBatch env cmp old from items sync result new to → IsTrue env.models_disk
      → (cache : TableCache E C FP F)
      → AreOpenTablesOf order env by old.set (files_at env from) cache
      → AreOpenTablesOf order env by new.set (files_at env to) cache
  open_after_batch cmp old new from to items sync result writes modelled cache =
      let store = ap (λ v. v.set.store) writes.rest in
      let next = ap (λ v. v.set.next_file) writes.rest in
      stay_open old.set new.set store (omega (arith, next)) (files_at env from) (files_at env to)
      (given_same old.set (files_at env from) (files_at env to) (λ number fits given.
      tables_same old.set.store old.log.number (files_at env from) (files_at env to)
      (writes.others modelled) number)) cache cache (ClosesTables-refl cache)
