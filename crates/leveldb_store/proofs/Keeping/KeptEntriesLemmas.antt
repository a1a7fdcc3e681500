-- That no entry of memory and no live table is lost, in each call on the way to room.
use Rattle.std.specs.Prelude.{Contains, OnOk}
use Rattle.std.proofs.Common.{◌≡◌, ◌⊎◌, ◌∙◌, ◌∷◌, ◌++◌, ◌≤◌, inl, inr, ⊎_elim, ℕ, Bool, List, [], None, Ok, Err, Result, ap, append-nil, arith, refl, subst, sym}
use Rattle.std.proofs.lemmas.Grind.{flat_map-append}
use Rattle.std.proofs.lemmas.List.{map-append}
use Rattle.std.proofs.lemmas.List.Elements.{Contains-append_cases, Contains-append_left, Contains-append_right}
use Rattle.std.specs.declared.cmp.Ordering.{Ordering}
use Rattle.leveldb_base.proofs.HistoryLemmas.{in_cases, in_none}
use Rattle.leveldb_base.specs.History.{Entry}
use Rattle.leveldb_base.specs.Types.{Pair}
use Rattle.leveldb_base.specs.declared.cmp.Cmp.{Ghosts as CmpGhosts}
use Rattle.leveldb_base.specs.declared.error.Status.{Status}
use Rattle.leveldb_env.specs.Env.{Observed}
use Rattle.leveldb_env.specs.declared.env.Env.{Ghosts}
use Rattle.leveldb_env.specs.declared.filter.FilterPolicy.{Ghosts as FilterGhosts}
use Rattle.leveldb_mem.specs.MemTable.{Kept}
use Rattle.leveldb_files.proofs.Stores.ManagedLemmas.{same_bytes, table_on}
use Rattle.leveldb_version_set.specs.Compactions.Compaction.{files_of_tables}
use Rattle.leveldb_files.specs.Stores.Format.{Format, IsTableOf}
use Rattle.leveldb_files.specs.Levels.Levels.{LiveTable, table_entries}
use Rattle.leveldb_files.specs.Stores.Paths.{table_path}
use Rattle.leveldb_files.specs.Stores.Store.{HasTable, SameEntries}
use Rattle.leveldb_files.specs.Edits.Edit.{Edit, NewFile}
use Rattle.leveldb_version_set.specs.Sets.VersionSetValue.{VersionSetValue, broken, with_number_given}
use Rattle.leveldb_store.proofs.Compactions.CompactsOnceLemmas.{none_compacted}
use Rattle.leveldb_store.proofs.Keeping.NoNewEntriesLemmas.{live_table_left}
use Rattle.leveldb_store.specs.Tables.BuildTable.{TableChoices}
use Rattle.leveldb_store.specs.Keeping.KeptEntries.{AddsNoOther, AddsTableOf, CompactsInTurn, CompactsThrough, IsAddedTable, KeepsEntries, KeepsLiveTables, CompactsMemtables}
use Rattle.leveldb_store.specs.Keeping.OpenStore.{OpenStoreValue}
use Rattle.leveldb_store.specs.Reading.Read.{in_memory}
use Rattle.leveldb_store.specs.Writing.Room.{TidiesUp}
use Rattle.leveldb_store.specs.Writing.Switch.{MayGiveNumber, SwitchesLog, WritesLevel0Table}
use Rattle.leveldb_store.specs.Keeping.Written.{KeepsTables, imm_entries}

-- equal lists have the same entries
pub equal_entries : (these those : List Entry) → these ≡ those → SameEntries these those
equal_entries these those e =
    λ entry. (subst (λ es. Contains es entry) e, subst (λ es. Contains es entry) (sym e))

-- ---- live tables

module _ (models_disk : Bool) where
  -- no file changes
  live_still : (set : VersionSetValue) (at : Observed) → KeepsLiveTables models_disk set at set at
  live_still set at = record {
    live = λ file there. there;
    files = λ file there modelled fits given. refl;
  }

  -- no table changes whose number was given
  live_kept : (old : VersionSetValue) (from : Observed) (new : VersionSetValue) (to : Observed)
      → KeepsTables models_disk old from new to → KeepsLiveTables models_disk old from new to
  live_kept old from new to kept = record {
    live = kept.live;
    files = λ file there modelled fits given. kept.files modelled file.number fits given;
  }

  -- one call after another
  pub live_then : {old mid new : VersionSetValue} {v0 v1 v2 : Observed}
      → mid.store ≡ old.store → old.next_file ≤ mid.next_file
      → KeepsLiveTables models_disk old v0 mid v1 → KeepsLiveTables models_disk mid v1 new v2
      → KeepsLiveTables models_disk old v0 new v2
  live_then {v1 = v1} {v2 = v2} store least first second = record {
    live = λ file there. second.live file (first.live file there);
    files = λ file there modelled fits given.
        subst (λ s. v2.disk.files (table_path s file.number)
        ≡ v1.disk.files (table_path s file.number)) store
        (second.files file (first.live file there) modelled fits (omega (arith, given, least)))
        ∙ first.files file there modelled fits given;
  }

-- ---- no other table

-- no file is added to the set
adds_nothing : (old new : VersionSetValue) (files : List NewFile) → new.full ≡ old.full
    → AddsNoOther old new files
adds_nothing old new files same = λ file there.
    inl (subst (λ (e : Edit). Contains e.added file) same there)

-- one call after another
others_then : (old mid new : VersionSetValue) (first second : List LiveTable)
    → AddsNoOther old mid (files_of_tables first) → AddsNoOther mid new (files_of_tables second)
    → AddsNoOther old new (files_of_tables (second ++ first))
others_then old mid new first second before later = λ file there.
    let are : files_of_tables (second ++ first) ≡ files_of_tables second ++ files_of_tables first
    = map-append (λ (table : LiveTable). table.file) second first in
    let among : Contains (files_of_tables second ++ files_of_tables first) file
    → Contains old.full.added file ⊎ Contains (files_of_tables (second ++ first)) file
    = λ one. inr (subst (λ files. Contains files file) (sym are) one) in
    ⊎_elim
    (λ (was : Contains mid.full.added file). ⊎_elim
    (λ (at_first : Contains old.full.added file). inl at_first)
    (λ (made : Contains (files_of_tables first) file).
    among (Contains-append_right (files_of_tables second) (files_of_tables first) file made))
    (before file was))
    (λ (made : Contains (files_of_tables second) file).
    among (Contains-append_left (files_of_tables second) (files_of_tables first) file made))
    (later file there)

-- numbers of files may have been given
full_given : (old new : VersionSetValue) → MayGiveNumber old new → new.full ≡ old.full
full_given old new may = ⊎_elim
    (λ (same : new ≡ old). ap (λ (s : VersionSetValue). s.full) same)
    (λ (given : new ≡ with_number_given old). ap (λ (s : VersionSetValue). s.full) given) may

-- ---- tables that were added

module _ {E F : Type 0} (env : Ghosts E F) (format : Format) where
  -- one that was added stays there
  added_still : (old mid new : VersionSetValue) (at to : E) (table : LiveTable)
      → new.store ≡ mid.store → mid.next_file ≤ new.next_file
      → KeepsLiveTables env.models_disk mid (env.observed at) new (env.observed to)
      → IsAddedTable env format old mid at table → IsAddedTable env format old new to table
  added_still old mid new at to table store least keeps is = record {
    live = keeps.live table.file is.live;
    fresh = is.fresh;
    given = let given = is.given in omega (arith, given, least);
    fits = is.fits;
    there = λ modelled meaning agrees.
        subst (λ s. HasTable s format.order (IsTableOf format.order meaning)
        (env.observed to).disk.files table) (sym store)
        (table_on mid.store format.order (IsTableOf format.order meaning)
        (env.observed at).disk.files (env.observed to).disk.files table
        (same_bytes ((env.observed at).disk.files (table_path mid.store table.file.number))
        ((env.observed to).disk.files (table_path mid.store table.file.number))
        (keeps.files table.file is.live modelled is.fits is.given))
        (is.there modelled meaning agrees));
  }

  -- one that is added later wasn't given before
  added_later : (old mid new : VersionSetValue) (to : E) (table : LiveTable)
      → old.next_file ≤ mid.next_file → IsAddedTable env format mid new to table
      → IsAddedTable env format old new to table
  added_later old mid new to table least is = record {
    live = is.live;
    fresh = let fresh = is.fresh in omega (arith, fresh, least);
    given = is.given;
    fits = is.fits;
    there = is.there;
  }

  module _ {C : Type 0} where
    -- ---- one call

    -- memory stays
    entries_stay : (old : OpenStoreValue C) (from : E) (new : OpenStoreValue C) (to : E)
        → in_memory new ≡ in_memory old → new.set.full ≡ old.set.full
        → KeepsLiveTables env.models_disk old.set (env.observed from) new.set (env.observed to)
        → KeepsEntries env format old from new to
    entries_stay old from new to same full live = record {
      added = [];
      each = λ table there. absurd (in_none table there);
      same = equal_entries (in_memory old) (in_memory new ++ [])
          (sym (append-nil (in_memory new) ∙ same));
      live = live;
      others = adds_nothing old.set new.set [] full;
    }

    -- nothing is done
    pub entries_same : (old : OpenStoreValue C) (from : E)
        → KeepsEntries env format old from old from
    entries_same old from = entries_stay old from old from refl refl
        (live_still env.models_disk old.set (env.observed from))

    -- another version of the same files is there
    pub entries_charged : (old : OpenStoreValue C) (from : E) (mid new : OpenStoreValue C) (to : E)
        → new ≡ record mid { current = new.current } → KeepsEntries env format old from mid to
        → KeepsEntries env format old from new to
    entries_charged old from mid new to charged kept =
        subst (λ (v : OpenStoreValue C). KeepsEntries env format old from v to) (sym charged)
        (record {
          added = kept.added;
          each = kept.each;
          same = kept.same;
          live = kept.live;
          others = kept.others;
        })

    -- so it may have been before
    pub entries_of_charged : (old charged : OpenStoreValue C) (from : E) (new : OpenStoreValue C)
        (to : E) → charged ≡ record old { current = charged.current }
        → KeepsEntries env format charged from new to → KeepsEntries env format old from new to
    entries_of_charged old charged from new to only kept =
        let its : KeepsEntries env format (record old { current = charged.current }) from new to =
        subst (λ (v : OpenStoreValue C). KeepsEntries env format v from new to) only kept in
        record {
          added = its.added;
          each = its.each;
          same = its.same;
          live = its.live;
          others = its.others;
        }

    -- the memtables stay
    memory_stays : (old : OpenStoreValue C) (from : E) (new : OpenStoreValue C) (to : E)
        → new.mem ≡ old.mem → new.imm ≡ old.imm → new.set.full ≡ old.set.full
        → KeepsTables env.models_disk old.set (env.observed from) new.set (env.observed to)
        → KeepsEntries env format old from new to
    memory_stays old from new to mem imm full kept = entries_stay old from new to
        (ap (λ (kept : Kept). kept.entries ++ imm_entries new.imm) mem
        ∙ ap (λ w. old.mem.entries ++ imm_entries w) imm) full
        (live_kept env.models_disk old.set (env.observed from) new.set (env.observed to) kept)

    -- the entries that waited are in a table
    entries_in_tables : (old : OpenStoreValue C) (from : E) (new : OpenStoreValue C) (to : E)
        → new.mem ≡ old.mem → new.imm ≡ None
        → KeepsTables env.models_disk old.set (env.observed from) new.set (env.observed to)
        → AddsTableOf env format (imm_entries old.imm) old.set new.set to
        → KeepsEntries env format old from new to
    entries_in_tables old from new to mem none kept adds = record {
      added = table ∷ [];
      each = λ other there. ⊎_elim
          (λ (same : table ≡ other). subst (IsAddedTable env format old.set new.set to) same
          adds.1)
          (λ no_other. absurd (in_none other no_other)) (in_cases table other [] there);
      same = equal_entries (in_memory old) (in_memory new ++ (waited ++ [])) (sym now);
      live = live_kept env.models_disk old.set (env.observed from) new.set (env.observed to) kept;
      others = adds.2;
    }
      where
        waited : List Entry
        waited = imm_entries old.imm

        table : LiveTable
        table = record { file = adds.0; entries = waited }

        memory : in_memory new ≡ old.mem.entries
        memory = ap (λ (kept : Kept). kept.entries ++ imm_entries new.imm) mem
            ∙ ap (λ w. old.mem.entries ++ imm_entries w) none
            ∙ append-nil old.mem.entries

        now : in_memory new ++ (waited ++ []) ≡ in_memory old
        now = ap (λ (es : List Entry). es ++ (waited ++ [])) memory
            ∙ ap (λ (es : List Entry). old.mem.entries ++ es) (append-nil waited)

    -- the log was switched, where no entries waited
    pub entries_switched : (old : OpenStoreValue C) (from : E) → old.imm ≡ None
        → (result : Result (Unit {0}) Status) (new : OpenStoreValue C) (to : E)
        → SwitchesLog env old from result new to → KeepsEntries env format old from new to
    entries_switched old from none (Ok unit) new to switched = entries_stay old from new to (
        ap (λ (es : List Entry). es ++ imm_entries new.imm) switched.empty
        ∙ ap imm_entries switched.waits
        ∙ sym (append-nil old.mem.entries)
        ∙ sym (ap (λ w. old.mem.entries ++ imm_entries w) none)
        )
        (ap (λ (s : VersionSetValue). s.full) switched.set)
        (live_kept env.models_disk old.set (env.observed from) new.set (env.observed to)
        switched.tables)
    entries_switched old from none (Err status) new to switched =
        memory_stays old from new to switched.err.2 switched.err.3
        (full_given old.set new.set switched.err.0) switched.tables

    -- obsolete files were deleted
    pub entries_tidied : (cmp : List ℕ → List ℕ → Ordering) (old : OpenStoreValue C) (from to : E)
        → TidiesUp env cmp old from to → KeepsEntries env format old from old to
    entries_tidied cmp old from to tidied = entries_stay old from old to refl refl (record {
      live = λ file there. there;
      files = λ file there modelled fits given. live_table_left old.set file there fits
          old.kept_to (env.observed from).disk.files (env.observed to).disk.files (tidied.run modelled).has;
    })

    -- ---- one call after another

    pub entries_then : {old mid new : OpenStoreValue C} {from at to : E}
        → mid.set.store ≡ old.set.store → old.set.next_file ≤ mid.set.next_file
        → new.set.store ≡ mid.set.store → mid.set.next_file ≤ new.set.next_file
        → KeepsEntries env format old from mid at → KeepsEntries env format mid at new to
        → KeepsEntries env format old from new to
    entries_then {old} {mid} {new} {from} {at} {to} store least later_store more first second =
        record {
          added = second.added ++ first.added;
          each = λ table there. ⊎_elim
              (λ later. added_later old.set mid.set new.set to table least
              (second.each table later))
              (λ before. added_still old.set mid.set new.set at to table later_store more
              second.live (first.each table before))
              (Contains-append_cases second.added first.added table there);
          same = λ entry.
              subst (λ all. (Contains (in_memory old) entry → Contains (in_memory new ++ all) entry)
              × (Contains (in_memory new ++ all) entry → Contains (in_memory old) entry))
              (sym (flat_map-append (λ (table : LiveTable). table.entries) second.added
              first.added))
              (forth entry, back entry);
          live = live_then env.models_disk store least first.live second.live;
          others = others_then old.set mid.set new.set first.added second.added first.others
              second.others;
        }
      where
        made : List Entry
        made = table_entries first.added

        tables_made : List Entry
        tables_made = table_entries second.added

        forth : (entry : Entry) → Contains (in_memory old) entry
            → Contains (in_memory new ++ (tables_made ++ made)) entry
        forth entry there = ⊎_elim
            (λ stays. ⊎_elim
            (λ now. Contains-append_left (in_memory new) (tables_made ++ made) entry now)
            (λ later. Contains-append_right (in_memory new) (tables_made ++ made) entry
            (Contains-append_left tables_made made entry later))
            (Contains-append_cases (in_memory new) tables_made entry ((second.same entry).0 stays)))
            (λ in_table. Contains-append_right (in_memory new) (tables_made ++ made) entry
            (Contains-append_right tables_made made entry in_table))
            (Contains-append_cases (in_memory mid) made entry ((first.same entry).0 there))

        from_middle : (entry : Entry) → Contains (in_memory new ++ tables_made) entry
            → Contains (in_memory old) entry
        from_middle entry there = (first.same entry).1
            (Contains-append_left (in_memory mid) made entry ((second.same entry).1 there))

        back : (entry : Entry) → Contains (in_memory new ++ (tables_made ++ made)) entry
            → Contains (in_memory old) entry
        back entry there = ⊎_elim
            (λ now. from_middle entry (Contains-append_left (in_memory new) tables_made entry now))
            (λ in_tables. ⊎_elim
            (λ later. from_middle entry (Contains-append_right (in_memory new) tables_made entry later))
            (λ before. (first.same entry).1
            (Contains-append_right (in_memory mid) made entry before))
            (Contains-append_cases tables_made made entry in_tables))
            (Contains-append_cases (in_memory new) (tables_made ++ made) entry there)

-- ---- compactions

module _ {E F C : Type 0} (env : Ghosts E F) (cmp : List ℕ → List ℕ → Ordering) where
  -- more are logged after these
  through_then : (old : OpenStoreValue C) (from : E) (before : List (OpenStoreValue C × E))
      (mid : OpenStoreValue C) (at : E) (after : List (OpenStoreValue C × E))
      (new : OpenStoreValue C) (to : E) → CompactsThrough env cmp old from before mid at
      → CompactsThrough env cmp mid at after new to
      → CompactsThrough env cmp old from (before ++ (mid, at) ∷ after) new to
  through_then old from [] mid at after new to first more = (first, more)
  through_then old from (next ∷ before) mid at after new to first more =
      (first.0, through_then next.0 next.1 before mid at after new to first.1 more)

  pub in_turn_then : (old mid new : OpenStoreValue C) (from at to : E)
      → CompactsInTurn env cmp old from mid at → CompactsInTurn env cmp mid at new to
      → CompactsInTurn env cmp old from new to
  in_turn_then old mid new from at to first more = (
    first.0 ++ (mid, at) ∷ more.0,
    through_then old from first.0 mid at more.0 new to first.1 more.1,
  )

-- ---- memory, where something may be compacted

module _ {E F C : Type 0} (env : Ghosts E F) (format : Format) (old : OpenStoreValue C)
    (from : E) where
  -- tables were made
  pub memory_in_tables : {mid : OpenStoreValue C} (at : E) → mid.set.store ≡ old.set.store
      → KeepsEntries env format old from mid at → CompactsMemtables env format old from mid at
  memory_in_tables {mid} at path kept = record {
    tables_made = mid;
    at = at;
    path = path;
    tables = kept;
    compacts = ([], none_compacted format.order env.models_disk mid (env.observed at));
    memory = refl;
  }

  -- nothing is done
  pub memory_same : CompactsMemtables env format old from old from
  memory_same = memory_in_tables from refl (entries_same env format old from)

  -- and then compactions are logged, or none
  pub memory_compacts : {mid new : OpenStoreValue C} {at to : E}
      → CompactsMemtables env format old from mid at
      → new ≡ record mid { set = new.set; current = new.current }
      → CompactsInTurn env format.order mid at new to → CompactsMemtables env format old from new to
  memory_compacts {mid} {new} {at} {to} first rest more = record {
    tables_made = first.tables_made;
    at = first.at;
    path = first.path;
    tables = first.tables;
    compacts = in_turn_then env format.order first.tables_made mid new first.at at to first.compacts
        more;
    memory = ap (λ (v : OpenStoreValue C). in_memory v) rest ∙ first.memory;
  }

  -- the version of the files before doesn't count
  pub memory_of_charged : (charged new : OpenStoreValue C) (to : E)
      → charged ≡ record old { current = charged.current }
      → CompactsMemtables env format charged from new to → CompactsMemtables env format old from new to
  memory_of_charged charged new to only its = record {
    tables_made = its.tables_made;
    at = its.at;
    path = its.path ∙ ap (λ (v : OpenStoreValue C). v.set.store) only;
    tables = entries_of_charged env format old charged from its.tables_made its.at only its.tables;
    compacts = its.compacts;
    memory = its.memory;
  }

-- ---- a table of the entries that wait

module _ {E F C D FP : Type 0} {order : CmpGhosts D} {filters : FilterGhosts FP} (env : Ghosts E F)
    (choices : TableChoices order filters) (old : OpenStoreValue C) (from : E)
    (pairs : List Pair) where
  -- it is made, or they wait still
  pub entries_of_table : (result : Result (Unit {0}) Status) (new : OpenStoreValue C) (to : E)
      → WritesLevel0Table env old from choices pairs result new to
      → OnOk result (AddsTableOf env choices.format (imm_entries old.imm) old.set new.set
      to)
      → KeepsEntries env choices.format old from new to
  entries_of_table (Ok unit) new to t adds =
      entries_in_tables env choices.format old from new to t.mem t.none_waits t.tables adds
  entries_of_table (Err status) new to t adds =
      memory_stays env choices.format old from new to t.mem t.waits (⊎_elim
      (λ (may : MayGiveNumber old.set new.set). full_given old.set new.set may)
      (λ (broke : new.set ≡ record (with_number_given old.set) { manifest = broken }).
      ap (λ (s : VersionSetValue). s.full) broke) t.err) t.tables
