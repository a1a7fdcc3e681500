-- Calls after which no entry is new that is in memory or in the live tables of a store.
use Rattle.std.proofs.Common.{◌≡◌, ◌≢◌, ◌∙◌, ◌++◌, ◌+◌, ◌<◌, ◌^◌, ⊎_elim, ℕ, List, [], ◌∷◌, Option, None, Some, Ok, ap, arith, map, refl, subst, sym}
use Rattle.std.specs.Prelude.{All, Contains, IsTrue}
use Rattle.std.proofs.lemmas.List.Elements.{All-push, Contains-append_cases, Contains-append_left, Contains-append_right}
use Rattle.std.specs.declared.cmp.Ordering.{Ordering}
use Rattle.leveldb_base.proofs.HistoryLemmas.{in_cases, in_none}
use Rattle.leveldb_base.proofs.NamesLemmas.{made_name, one_reading}
use Rattle.leveldb_base.specs.History.{Entry}
use Rattle.leveldb_base.specs.Names.{IsFileName, file_name}
use Rattle.leveldb_base.specs.declared.error.Status.{Status}
use Rattle.leveldb_base.specs.declared.types.FileType.TheVariants.{Table}
use Rattle.leveldb_env.specs.Env.{Files}
use Rattle.leveldb_env.specs.declared.env.Env.{Ghosts}
use Rattle.leveldb_files.proofs.Stores.ManagedLemmas.{same_name}
use Rattle.leveldb_files.proofs.Stores.OneStoreLemmas.{flat_in, in_flat}
use Rattle.leveldb_files.specs.Stores.Format.{Agrees, Format, IsTableOf, Meaning}
use Rattle.leveldb_files.specs.Levels.Levels.{LiveTable, table_entries}
use Rattle.leveldb_files.specs.Stores.Paths.{table_path}
use Rattle.leveldb_files.specs.Stores.Store.{HasTable}
use Rattle.leveldb_version.specs.Tables.TableCache.{files_at}
use Rattle.leveldb_files.specs.Edits.Edit.{NewFile}
use Rattle.leveldb_version_set.specs.Sets.VersionSetValue.{VersionSetValue}
use Rattle.leveldb_version_set.specs.Engines.Writing.{IsObsolete}
use Rattle.leveldb_store.proofs.Keeping.GivenTablesLemmas.{SameGiven}
use Rattle.leveldb_store.proofs.Keeping.OpenTablesLemmas.{number_in}
use Rattle.leveldb_store.proofs.Writing.RoomLemmas.{written_on}
use Rattle.leveldb_store.proofs.Writing.SwitchLemmas.{tables_stay}
use Rattle.leveldb_store.proofs.Keeping.TableKeepsLemmas.{live_below}
use Rattle.leveldb_store.specs.Keeping.OpenStore.{OpenStoreValue}
use Rattle.leveldb_store.specs.Reading.Read.{in_memory}
use Rattle.leveldb_store.specs.Writing.RoomSteps.{AddsNone, IsStepToRoom}
use Rattle.leveldb_store.specs.Writing.Switch.{IsObsoletePath, RemovesNoOther, SwitchesLog}
use Rattle.leveldb_store.specs.Keeping.Written.{HasLiveTables, IsWritten, memory_of, imm_entries}
use Rattle.leveldb_store.specs.Keeping.WrittenFrom.{AddsNoEntry}

-- ---- live tables where obsolete files are removed

module _ (set : VersionSetValue) (file : NewFile) (live : Contains set.full.added file)
    (fits : file.number < 2 ^ 64) where
  abbrev its_path : List ℕ
  its_path = table_path set.store file.number

  -- its path is none of an obsolete file
  not_obsolete : (kept_to : Option ℕ) → IsObsoletePath set kept_to its_path → ⊥
  not_obsolete kept_to gone =
      let named = gone.1 in
      let same = one_reading gone.0 named.0 file.number named.1 Table named.2
      (subst (λ name. IsFileName name file.number Table)
      (same_name set.store (file_name Table file.number) gone.0 gone.2)
      (made_name Table file.number fits)) in
      subst (λ kind. IsObsolete set kind file.number) same.1
      (subst (IsObsolete set named.1) same.0 named.3)
      (number_in file set.full.added live)

  -- so it is left
  pub live_table_left : (kept_to : Option ℕ) (before after : Files)
      → RemovesNoOther set kept_to before after → after its_path ≡ before its_path
  live_table_left kept_to before after removes = ⊎_elim (λ same. same)
      (λ gone. absurd (not_obsolete kept_to gone.0)) (removes its_path)

module _ {C : Type 0} (cmp : List ℕ → List ℕ → Ordering) (meaning : Meaning) where
  -- ---- calls in a row

  -- a call that changes nothing
  pub adds_none : (value : OpenStoreValue C) (files : Files)
      → AddsNoEntry cmp meaning value files value files
  adds_none value files live has = (live, has, λ entry c. c)

  -- one call after another
  pub adds_none_then : (old mid new : OpenStoreValue C) (f0 f1 f2 : Files)
      → AddsNoEntry cmp meaning old f0 mid f1 → AddsNoEntry cmp meaning mid f1 new f2
      → AddsNoEntry cmp meaning old f0 new f2
  adds_none_then old mid new f0 f1 f2 first second live has =
      let one = first live has in
      let two = second one.0 one.1 in
      (two.0, two.1, λ entry c. one.2 entry (two.2 entry c))

  -- ---- one call

  -- obsolete files are removed
  pub adds_none_removed : (value : OpenStoreValue C) (before after : Files)
      → IsWritten cmp meaning value before → RemovesNoOther value.set value.kept_to before after
      → AddsNoEntry cmp meaning value before value after
  adds_none_removed value before after w removes live has = (
    live,
    tables_stay cmp meaning value value before after live refl refl
        (λ file c.
        let l = live_below cmp meaning value.set.store before w.edits (memory_of value) w.by file c in
        live_table_left value.set file c l.0 value.kept_to before after removes) has,
    λ entry c. c,
  )

  -- no live table changes, and entries in memory only move on
  pub adds_none_moved : (old new : OpenStoreValue C) (before after : Files)
      → IsWritten cmp meaning old before → new.set.store ≡ old.set.store
      → new.set.full ≡ old.set.full → SameGiven old.set before after
      → ((entry : Entry) → Contains (in_memory new) entry → Contains (in_memory old) entry)
      → AddsNoEntry cmp meaning old before new after
  adds_none_moved old new before after w store full same moved live has = (
    live,
    tables_stay cmp meaning old new before after live store full
        (λ file c.
        let l = live_below cmp meaning old.set.store before w.edits (memory_of old) w.by file c in
        same file.number l.0 l.1) has,
    λ entry c. ⊎_elim
        (λ (here : Contains (in_memory new) entry).
        Contains-append_left (in_memory old) (table_entries live) entry (moved entry here))
        (λ (there : Contains (table_entries live) entry).
        Contains-append_right (in_memory old) (table_entries live) entry there)
        (Contains-append_cases (in_memory new) (table_entries live) entry c),
  )

  -- a table is made of the entries that waited, and added at the end
  pub adds_none_tables_made : (old new : OpenStoreValue C) (before after : Files) (table : LiveTable)
      → IsWritten cmp meaning old before → new.set.store ≡ old.set.store
      → new.set.full.added ≡ old.set.full.added ++ table.file ∷ []
      → SameGiven old.set before after
      → HasTable old.set.store cmp (IsTableOf cmp meaning) after table
      → table.entries ≡ imm_entries old.imm → new.mem.entries ≡ old.mem.entries
      → imm_entries new.imm ≡ []
      → AddsNoEntry cmp meaning old before new after
  adds_none_tables_made old new before after table w store added same made entries mem none live has =
      (all, record { files_are = files_are; each = each }, from)
    where
      all : List LiveTable
      all = live ++ table ∷ []

      pushed : (tables : List LiveTable)
          → map (λ (t : LiveTable). t.file) (tables ++ table ∷ [])
          ≡ map (λ (t : LiveTable). t.file) tables ++ table.file ∷ []
      pushed [] = refl
      pushed (t ∷ tables) = ap (λ fs. t.file ∷ fs) (pushed tables)

      files_are : map (λ (t : LiveTable). t.file) all ≡ new.set.full.added
      files_are = pushed live ∙ ap (λ fs. fs ++ table.file ∷ []) has.files_are ∙ sym added

      stay : HasLiveTables cmp meaning old after live
      stay = tables_stay cmp meaning old old before after live refl refl
          (λ file c.
          let l = live_below cmp meaning old.set.store before w.edits (memory_of old) w.by file c in
          same file.number l.0 l.1) has

      each : All (HasTable new.set.store cmp (IsTableOf cmp meaning) after) all
      each = subst (λ s. All (HasTable s cmp (IsTableOf cmp meaning) after) all) (sym store)
          (All-push (HasTable old.set.store cmp (IsTableOf cmp meaning) after) live table stay.each
          made)

      there : List Entry
      there = in_memory old ++ table_entries live

      of_mem : (entry : Entry) → Contains old.mem.entries entry → Contains there entry
      of_mem entry c = Contains-append_left (in_memory old) (table_entries live) entry
          (Contains-append_left old.mem.entries (imm_entries old.imm) entry c)

      of_imm : (entry : Entry) → Contains (imm_entries old.imm) entry
          → Contains there entry
      of_imm entry c = Contains-append_left (in_memory old) (table_entries live) entry
          (Contains-append_right old.mem.entries (imm_entries old.imm) entry c)

      of_memory : (entry : Entry) → Contains (in_memory new) entry → Contains there entry
      of_memory entry c = ⊎_elim
          (λ (here : Contains new.mem.entries entry).
          of_mem entry (subst (λ es. Contains es entry) mem here))
          (λ (here : Contains (imm_entries new.imm) entry).
          absurd (in_none entry (subst (λ es. Contains es entry) none here)))
          (Contains-append_cases new.mem.entries (imm_entries new.imm) entry c)

      of_table : (entry : Entry) (t : LiveTable) → Contains t.entries entry → Contains all t
          → Contains there entry
      of_table entry t c here = ⊎_elim
          (λ (old_one : Contains live t). Contains-append_right (in_memory old)
          (table_entries live) entry (flat_in (λ (x : LiveTable). x.entries) live t entry old_one c))
          (λ (is_new : Contains (table ∷ []) t). ⊎_elim
          (λ (e : table ≡ t). of_imm entry
          (subst (λ es. Contains es entry) (ap (λ (x : LiveTable). x.entries) (sym e) ∙ entries) c))
          (λ (none_there : Contains [] t). absurd (in_none t none_there))
          (in_cases table t [] is_new))
          (Contains-append_cases live (table ∷ []) t here)

      from : (entry : Entry) → Contains (in_memory new ++ table_entries all) entry
          → Contains there entry
      from entry c = ⊎_elim (of_memory entry)
          (λ (in_tables : Contains (table_entries all) entry).
          let t = in_flat (λ (x : LiveTable). x.entries) all entry in_tables in
          of_table entry t.0 t.2 t.1)
          (Contains-append_cases (in_memory new) (table_entries all) entry c)

-- the log is switched
pub adds_none_switched : {E F C : Type 0} (env : Ghosts E F) (cmp : List ℕ → List ℕ → Ordering)
    (meaning : Meaning) (old : OpenStoreValue C) (from : E) (new : OpenStoreValue C) (to : E)
    → IsTrue env.models_disk → IsWritten cmp meaning old (files_at env from)
    → SwitchesLog env old from (Ok tt) new to
    → AddsNoEntry cmp meaning old (files_at env from) new (files_at env to)
adds_none_switched env cmp meaning old from new to modelled w s =
    adds_none_moved cmp meaning old new (files_at env from) (files_at env to) w
    (ap (λ (set : VersionSetValue). set.store) s.set)
    (ap (λ (set : VersionSetValue). set.full) s.set) (s.tables.files modelled)
    (λ entry c. ⊎_elim
    (λ (here : Contains new.mem.entries entry).
    absurd (in_none entry (subst (λ es. Contains es entry) s.empty here)))
    (λ (here : Contains (imm_entries new.imm) entry).
    Contains-append_left old.mem.entries (imm_entries old.imm) entry
    (subst (λ imm. Contains (imm_entries imm) entry) s.waits here))
    (Contains-append_cases new.mem.entries (imm_entries new.imm) entry c))

-- ---- steps in a row

module _ {E F C : Type 0} (env : Ghosts E F) (format : Format) where
  module _ (cmp : List ℕ → List ℕ → Ordering) where
    -- a switch of the log adds none
    pub switch_adds_none : (old : OpenStoreValue C) (from : E) (new : OpenStoreValue C) (to : E)
        → SwitchesLog env old from (Ok tt) new to → AddsNone env cmp format old from new to
    switch_adds_none old from new to s modelled meaning agrees w =
        adds_none_switched env cmp meaning old from new to modelled w s

    -- nor do two steps in a row
    pub steps_add_none : {O : Status → Type 0} (old mid new : OpenStoreValue C) (from at to : E)
        → IsStepToRoom env cmp format O old from (Ok tt) mid at
        → AddsNone env cmp format old from mid at → AddsNone env cmp format mid at new to
        → AddsNone env cmp format old from new to
    steps_add_none old mid new from at to step first second modelled meaning agrees w =
        adds_none_then cmp meaning old mid new (files_at env from) (files_at env at)
        (files_at env to) (first modelled meaning agrees w)
        (second modelled meaning agrees
        (written_on env cmp format old mid from at step modelled meaning agrees w))

  -- in the order of a comparator that stays
  pub adds_none_in_order : (order : C → List ℕ → List ℕ → Ordering) (old : OpenStoreValue C)
      (from : E) (new : OpenStoreValue C) (to : E) {before now : C} → before ≡ now
      → AddsNone env (order before) format old from new to
      → AddsNone env (order now) format old from new to
  adds_none_in_order order old from new to same =
      subst (λ cmp. AddsNone env (order cmp) format old from new to) same
