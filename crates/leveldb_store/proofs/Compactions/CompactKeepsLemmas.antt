-- What a compaction keeps of a store that is written: while its new tables are made, and while its
-- edit is logged.
use Rattle.std.specs.Prelude.{Contains, IsTrue}
use Rattle.std.proofs.Common.{◌≡◌, ◌⊎◌, ◌∷◌, ◌++◌, ◌≤◌, ◌<◌, ◌^◌, inr, ⊎_elim, ℕ, Bool, List, [], map, Option, None, Some, Ok, Err, Result, ap, arith, refl, subst, sym}
use Rattle.std.specs.Cmp.{IsTotalOrder}
use Rattle.std.specs.declared.cmp.Ordering.{Ordering}
use Rattle.leveldb_base.proofs.EntriesLemmas.{in_map, map_in}
use Rattle.leveldb_base.proofs.NamesLemmas.{made_name}
use Rattle.leveldb_base.specs.Names.{file_name}
use Rattle.leveldb_base.specs.Types.{Pair}
use Rattle.leveldb_base.specs.declared.error.Status.{Status}
use Rattle.leveldb_base.specs.declared.types.FileType.{FileType}
use Rattle.leveldb_base.specs.declared.types.FileType.TheVariants.{Descriptor, Log, Table}
use Rattle.leveldb_env.proofs.EnvLemmas.{Run-call, Run-mono, Run-trans}
use Rattle.leveldb_env.specs.Env.{AreBytes, Files, Observed, Run}
use Rattle.leveldb_mem.specs.Log.Writer.{frame}
use Rattle.leveldb_version_set.proofs.Compactions.CompactionEditLemmas.{compactions_are_logged, live_tables_are_known, made_outputs_compact}
use Rattle.leveldb_version_set.proofs.Compactions.CompactionOutputsLemmas.{inputs_are_tables, replaced_tables_exist}
use Rattle.leveldb_files.proofs.Stores.ManagedLemmas.{numbers_apart}
use Rattle.leveldb_version.proofs.Versions.SearchLemmas.{all_from_contains}
use Rattle.leveldb_version_set.proofs.Compactions.ShownFromLemmas.{compactions_keep_shown}
use Rattle.leveldb_version_set.specs.Compactions.Compaction.{AreKnownByNumber, Compacts, ReplacesInputs, files_of_tables}
use Rattle.leveldb_version_set.specs.Compactions.CompactionEdit.{CompactionIsLogged, HasMadeOutputs, IsCompactionEdit}
use Rattle.leveldb_files.specs.Stores.Contents.{Store}
use Rattle.leveldb_files.specs.Levels.Levels.{LiveTable}
use Rattle.leveldb_version_set.specs.Sets.LogEdit.{AppendingAndSyncing, AppendsEdit, WritesBytes, edit_record, set_appended, with_bytes_kept, written_edit}
use Rattle.leveldb_files.specs.Stores.Paths.{IsFilePath, log_path, table_path}
use Rattle.leveldb_files.specs.Stores.Store.{HasTable, HasTables, OneTableReading}
use Rattle.leveldb_files.specs.Steps.StoreSteps.{AppendedAreBytes, KeepsHistory}
use Rattle.leveldb_version.specs.Versions.Version.{VersionValue}
use Rattle.leveldb_files.specs.Edits.Edit.{Edit, IsEncodable, NewFile}
use Rattle.leveldb_files.specs.Edits.VersionSet.{live_after}
use Rattle.leveldb_version_set.specs.Sets.VersionSetValue.{OpenManifest, VersionSetValue, in_use}
use Rattle.leveldb_version_set.specs.Engines.Writing.{IsWrittenBy}
use Rattle.leveldb_version_set.specs.Engines.WritingLaws.{TablesAreInRange}
use Rattle.leveldb_files.specs.Stores.Format.{IsTableOf, Meaning}
use Rattle.leveldb_store.proofs.Tables.NewTablesLemmas.{new_tables_keep, written_new}
use Rattle.leveldb_store.proofs.Keeping.TableKeepsLemmas.{KeepsHistory-refl, KeepsHistory-trans, appending_and_syncing, in_range_of, is_log_path, is_table_path, live_below, live_on, live_tables, one_reading_of, shows_again, types_apart, written_again}
use Rattle.leveldb_store.specs.Keeping.OpenStore.{OpenStoreValue}
use Rattle.leveldb_store.specs.Tables.Outputs.{SameButNewTables}
use Rattle.leveldb_store.specs.Keeping.Written.{HasLiveTables, IsWritten, KeepsStore, KeepsWritten, memory_of, imm_entries}
use Rattle.leveldb_store.specs.Keeping.WrittenFrom.{KeepsStoreFrom}

-- a store with these numbers of files given
abbrev pub with_numbers : {C : Type 0} → OpenStoreValue C → ℕ → Option ℕ → OpenStoreValue C
with_numbers old next given =
    record old { set = record old.set { next_file = next; given = given } }

module _ {C : Type 0} (cmp : List ℕ → List ℕ → Ordering) (meaning : Meaning)
    (old : OpenStoreValue C) (next : ℕ) (given : Option ℕ) where
  abbrev numbered : OpenStoreValue C
  numbered = with_numbers old next given

  abbrev store : List ℕ
  store = old.set.store

  abbrev T : List ℕ → List Pair → Type 0
  T = IsTableOf cmp meaning

  -- ---- a store that is written has live tables

  pub tables_there : (files : Files) → IsWritten cmp meaning old files
      → (tables : List LiveTable) × HasLiveTables cmp meaning old files tables
  tables_there files is =
      let m = is.by.tracked.managed in
      let among : (file : NewFile) → Contains old.set.full.added file
      → Contains (files_of_tables m.tables) file = λ file c.
      let found = m.has_tables.all file ((is.by.tracked.tracks.left.full.added.live file).0 c) in
      subst (Contains (files_of_tables m.tables)) found.2
      (map_in (λ (t : LiveTable). t.file) m.tables found.0 found.1) in
      let some = inputs_are_tables m.tables old.set.full.added among in (
        some.0,
        record {
          files_are = some.1;
          each = all_from_contains (HasTable store cmp T files) some.0
              (λ t c. (m.has_tables.each t (some.2 t c)).0);
        },
      )

  -- ---- new tables

  module _ (up : old.set.next_file ≤ next)
      (back : (number : ℕ) → given ≡ Some number
      → (old.set.given ≡ Some number) ⊎ (old.set.next_file ≤ number))
      (v0 v1 : Observed)
      (run : Run (SameButNewTables store old.set.next_file next v0.disk.files) v0 v1)
      (bytes : AppendedAreBytes v0.disk.files → AppendedAreBytes v1.disk.files) where
    -- a file of another type stays
    pub other_stays : (k : FileType) (path : List ℕ) → IsFilePath k store path → (Table ≡ k → ⊥)
        → v1.disk.files path ≡ v0.disk.files path
    other_stays k path its differ = run.has path (λ n from below fits.
        types_apart store (table_path store n) path Table k (is_table_path store n fits) its differ)

    module _ (is : IsWritten cmp meaning old v0.disk.files) where
      -- and so does a live table
      live_stays : (tables : List LiveTable)
          → map (λ (table : LiveTable). table.file) tables ≡ old.set.full.added
          → (table : LiveTable) → Contains tables table
          → v1.disk.files (table_path store table.file.number)
          ≡ v0.disk.files (table_path store table.file.number)
      live_stays tables files_are table c =
          let file = table.file in
          let there = subst (λ fs. Contains fs file) files_are
          (map_in (λ (t : LiveTable). t.file) tables table c) in
          let l = live_below cmp meaning store v0.disk.files is.edits (memory_of old) is.by file
          there in
          run.has (table_path store file.number) (λ n from below fits.
          numbers_apart store (file_name Table n) (file_name Table file.number) n file.number Table
          Table (made_name Table n fits) (made_name Table file.number l.0)
          (λ e. omega (arith, l.1, e, from)))

      pub live_numbered : (tables : List LiveTable)
          → HasLiveTables cmp meaning old v0.disk.files tables
          → HasLiveTables cmp meaning numbered v1.disk.files tables
      live_numbered tables has = live_on cmp meaning old numbered v0.disk.files v1.disk.files tables
          refl refl (live_stays tables has.files_are) has

      pub by_now : IsWrittenBy store cmp T v1.disk.files is.edits (memory_of numbered)
      by_now = written_new store cmp T v0.disk.files is.edits (memory_of old) is.by next
          v1.disk.files run.has up given back (bytes is.by.tracked.bytes)

      log_fits : old.log.number < 2 ^ 64
      log_fits = omega (arith, is.by.writable.log.fits, is.by.log_is)

      pub written_numbered : IsWritten cmp meaning numbered v1.disk.files
      written_numbered = written_again cmp meaning old numbered v0.disk.files v1.disk.files is.edits
          is by_now refl refl
          (other_stays Log (log_path store old.log.number)
          (is_log_path store old.log.number log_fits) (λ e. cc))

      moments_new : (allowed : Store → Type 0) (bound : ℕ)
          → Run (KeepsHistory store cmp T allowed bound v0.disk.files) v0 v1
      moments_new allowed bound = Run-mono
          (λ files same. new_tables_keep store cmp T v0.disk.files is.edits (memory_of old) is.by
          next files same allowed bound) run

    -- all is kept while new tables are made
    pub keeps_new : KeepsWritten cmp meaning old v0 numbered v1
    keeps_new allowed is = record {
      moments = λ bound late. moments_new is (λ s. IsTrue (allowed s)) bound;
      written = λ unbroken. written_numbered is;
      shows = λ history since s. record {
        tables = s.tables;
        has = live_numbered is s.tables s.has;
        shows = shows_again cmp (memory_of old) (memory_of numbered) s.tables s.tables history
            since refl refl (λ t c. c) (λ t c. c) s.shows;
      };
    }

    -- ---- the edit

    module _ (smallest level : ℕ) (edit : Edit) where
      -- of these live tables a compaction takes some, and has made others, as the edit says
      pub record HasMade (before : List LiveTable) : Type 0 where
        pub inputs : List LiveTable
        pub outputs : List LiveTable
        pub made : HasMadeOutputs store cmp T v1.disk.files smallest level before inputs outputs
        pub edit_is : IsCompactionEdit old.log.number inputs outputs edit
        pub can : numbered.set.next_file < 2 ^ 64 → IsEncodable (written_edit numbered.set edit)

      module _ (total : IsTotalOrder cmp) (none : old.imm ≡ None)
          (is : IsWritten cmp meaning old v0.disk.files) where
        abbrev w : IsWrittenBy store cmp T v1.disk.files is.edits (memory_of numbered)
        w = by_now is

        one : OneTableReading T
        one = one_reading_of cmp meaning

        range : TablesAreInRange store cmp T
        range = in_range_of cmp meaning total store

        abbrev manifest : OpenManifest
        manifest = w.manifest

        abbrev framed : List ℕ
        framed = frame manifest.writer (edit_record numbered.set edit)

        abbrev edits_then : List Edit
        edits_then = is.edits ++ written_edit numbered.set edit ∷ []

        is_manifest : IsFilePath Descriptor store manifest.path
        is_manifest =
            let used = w.tracked.tracks.used manifest w.is_in_use in (
              used.opened.has_edits.name,
              used.opened.has_edits.number,
              used.opened.has_edits.named.0,
              used.path,
            )

        -- files of other types than manifests stay while it is logged
        others : (now : Files) → AppendingAndSyncing manifest.path framed v1.disk.files now
            → (k : FileType) (other : List ℕ) → IsFilePath k store other → (Descriptor ≡ k → ⊥)
            → now other ≡ v1.disk.files other
        others now passes k other its differ =
            appending_and_syncing manifest.path framed v1.disk.files now passes other
            (types_apart store manifest.path other Descriptor k is_manifest its differ)

        tables_stay : (now : Files) → AppendingAndSyncing manifest.path framed v1.disk.files now
            → (tables : List LiveTable)
            → map (λ (t : LiveTable). t.file) tables ≡ old.set.full.added
            → (t : LiveTable) → Contains tables t
            → now (table_path store t.file.number) ≡ v1.disk.files (table_path store t.file.number)
        tables_stay now passes tables files_are t c =
            let there = subst (λ fs. Contains fs t.file) files_are
            (map_in (λ (table : LiveTable). table.file) tables t c) in
            let l = live_below cmp meaning store v0.disk.files is.edits (memory_of old) is.by t.file
            there in
            others now passes Table (table_path store t.file.number)
            (is_table_path store t.file.number l.0) (λ e. cc)

        module _ (before : List LiveTable)
            (live : HasLiveTables cmp meaning old v0.disk.files before) (h : HasMade before)
            (fits : numbered.set.next_file < 2 ^ 64)
            (are_bytes : AreBytes (edit_record numbered.set edit)) where
          has : HasTables store cmp T v1.disk.files (live_after is.edits) before
          has = let l = live_numbered is before live in
              live_tables cmp meaning store v1.disk.files is.edits (memory_of numbered) w before
              l.files_are l.each

          known : AreKnownByNumber before
          known = live_tables_are_known store cmp T one v1.disk.files (live_after is.edits) before
              has

          pub replaced : (after : List LiveTable) × ReplacesInputs before h.inputs h.outputs after
          replaced = replaced_tables_exist before h.inputs h.outputs known h.made.there

          abbrev after : List LiveTable
          after = replaced.0

          logged : (allowed : Store → Type 0)
              → CompactionIsLogged store cmp T allowed v1.disk.files is.edits (memory_of numbered) w
              edit after
          logged allowed = compactions_are_logged store cmp T allowed one total range v1.disk.files
              is.edits (memory_of numbered) w (ap imm_entries none) smallest level before
              h.inputs h.outputs after has h.made replaced.1 edit h.edit_is (h.can fits) are_bytes

          moments_logged : (allowed : Store → Type 0) (bound : ℕ) → old.set.last_sequence ≤ bound
              → (now : Files) → AppendingAndSyncing manifest.path framed v1.disk.files now
              → KeepsHistory store cmp T allowed bound v1.disk.files now
          moments_logged allowed bound late = (logged allowed).keeps bound late

          -- ---- after it

          module _ (current : VersionValue C) (now : Files)
              (now_is : now ≡ with_bytes_kept manifest.path framed v1.disk.files) where
            abbrev done : OpenStoreValue C
            done = record numbered {
              set = set_appended manifest numbered.set edit;
              current = current;
            }

            passes : AppendingAndSyncing manifest.path framed v1.disk.files now
            passes = inr now_is

            by_then : IsWrittenBy store cmp T now edits_then (memory_of done)
            by_then = subst (λ f. IsWrittenBy store cmp T f edits_then (memory_of done))
                (sym now_is) (logged (λ any. Unit {0})).written

            tables_then : HasTables store cmp T now (live_after edits_then) after
            tables_then = subst (λ f. HasTables store cmp T f (live_after edits_then) after)
                (sym now_is) (logged (λ any. Unit {0})).tables

            -- the store is written on
            pub written_done : IsWritten cmp meaning done now
            written_done = written_again cmp meaning numbered done v1.disk.files now edits_then
                (written_numbered is) by_then refl refl
                (others now passes Log (log_path store old.log.number)
                (is_log_path store old.log.number (log_fits is)) (λ e. cc))

            -- the tables in the order of the set's files
            pub ordered : (tables : List LiveTable) × (files_of_tables tables ≡ done.set.full.added)
                × ((table : LiveTable) → Contains tables table → Contains after table)
            ordered = inputs_are_tables after done.set.full.added (λ file c.
                let found = tables_then.all file
                ((by_then.tracked.tracks.left.full.added.live file).0 c) in
                subst (Contains (files_of_tables after)) found.2
                (map_in (λ (t : LiveTable). t.file) after found.0 found.1))

            abbrev pub tables_done : List LiveTable
            tables_done = ordered.0

            all_ordered : (table : LiveTable) → Contains after table → Contains tables_done table
            all_ordered table c =
                let e = tables_then.each table c in
                let there = (by_then.tracked.tracks.left.full.added.live table.file).1 e.1 in
                let it = in_map (λ (t : LiveTable). t.file) tables_done table.file
                (subst (λ fs. Contains fs table.file) (sym ordered.1) there) in
                let same = live_tables_are_known store cmp T one now (live_after edits_then) after
                tables_then it.0 table (ordered.2 it.0 it.1) c
                (ap (λ (f : NewFile). f.level) it.2) (ap (λ (f : NewFile). f.number) it.2) in
                subst (Contains tables_done) same it.1

            pub live_done : HasLiveTables cmp meaning done now tables_done
            live_done = record {
              files_are = ordered.1;
              each = all_from_contains (HasTable store cmp T now) tables_done
                  (λ t c. (tables_then.each t (ordered.2 t c)).0);
            }

            pub compacts_done : Compacts cmp smallest level before h.inputs h.outputs tables_done
            compacts_done = made_outputs_compact store cmp T range v1.disk.files smallest level
                before h.inputs h.outputs tables_done h.made (λ t. (
                  λ c. (replaced.1 t).0 (ordered.2 t c),
                  λ either. all_ordered t ((replaced.1 t).1 either),
                ))

        -- ---- what is kept

        module _ (made : (before : List LiveTable)
            → HasLiveTables cmp meaning old v0.disk.files before → HasMade before)
            (models_disk : Bool) (modelled : IsTrue models_disk) (v2 : Observed)
            (failed now_failed : ℕ) (set : VersionSetValue) where
          abbrev pub Logs : Result (Unit {0}) Status → Type 0
          Logs result = (used : OpenManifest) → old.set.manifest ≡ in_use used
              → AppendsEdit models_disk used numbered.set edit v1 failed result set v2 now_failed

          abbrev pub Writes : Result (Unit {0}) Status → Type 0
          Writes result = (used : OpenManifest) → old.set.manifest ≡ in_use used
              → WritesBytes models_disk numbered.set edit v1 result v2

          -- at each moment each history is kept
          moments_all : (result : Result (Unit {0}) Status) → Logs result → Writes result
              → (allowed : Store → Type 0) (bound : ℕ) → old.set.last_sequence ≤ bound
              → Run (KeepsHistory store cmp T allowed bound v0.disk.files) v0 v2
          moments_all result logs writes allowed bound late =
              let first = moments_new is allowed bound in
              Run-trans first (λ files second. KeepsHistory-trans first.has second)
              (⊎_elim
              (λ (are : AreBytes (edit_record numbered.set edit)
              × (numbered.set.next_file < 2 ^ 64)).
              let t = tables_there v0.disk.files is in
              Run-mono
              (λ files passes. moments_logged t.0 t.1 (made t.0 t.1) are.1 are.0 allowed bound late
              files passes)
              (Run-call modelled ((logs manifest w.is_in_use).does modelled)))
              (λ nothing. Run-mono
              (λ files same. subst (KeepsHistory store cmp T allowed bound v1.disk.files) (sym same)
              (KeepsHistory-refl v1.disk.files))
              (nothing.1 modelled))
              (writes manifest w.is_in_use))

          -- where its edit isn't logged
          pub keeps_unlogged : (status : Status) → Logs (Err status) → Writes (Err status)
              → (allowed : Store → Bool)
              → KeepsStore cmp meaning (λ s. IsTrue (allowed s)) old v0
              (record numbered { set = set }) v2
          keeps_unlogged status logs writes allowed = record {
            moments = moments_all (Err status) logs writes (λ s. IsTrue (allowed s));
            written = λ unbroken. ⊎_elim
                (λ memory.
                subst (λ f. IsWritten cmp meaning (record numbered { set = set }) f)
                (sym (memory.2 modelled))
                (subst (λ x. IsWritten cmp meaning (record numbered { set = x }) v1.disk.files)
                (sym memory.1) (written_numbered is)))
                (λ broke. absurd
                (unbroken.manifest (ap (λ (s : VersionSetValue). s.manifest) broke)))
                l.err;
            shows = λ history since s. record {
              tables = s.tables;
              has = live_on cmp meaning numbered (record numbered { set = set }) v1.disk.files
                  v2.disk.files s.tables
                  (⊎_elim (λ memory. ap (λ (x : VersionSetValue). x.store) memory.1)
                  (λ broke. ap (λ (x : VersionSetValue). x.store) broke) l.err)
                  (⊎_elim (λ memory. ap (λ (x : VersionSetValue). x.full) memory.1)
                  (λ broke. ap (λ (x : VersionSetValue). x.full) broke) l.err)
                  (tables_stay v2.disk.files ((l.does modelled).now modelled) s.tables
                  s.has.files_are)
                  (live_numbered is s.tables s.has);
              shows = shows_again cmp (memory_of old) (memory_of (record numbered { set = set }))
                  s.tables s.tables history since refl refl (λ t c. c) (λ t c. c) s.shows;
            };
          }
            where
              l : AppendsEdit models_disk manifest numbered.set edit v1 failed (Err status) set v2
                  now_failed
              l = logs manifest w.is_in_use

          -- where it is: `current` is the version then
          module _ (current : VersionValue C) (logs : Logs (Ok tt)) (writes : Writes (Ok tt)) where
            abbrev final : OpenStoreValue C
            final = record numbered { set = set; current = current }

            l_ok : AppendsEdit models_disk manifest numbered.set edit v1 failed (Ok tt) set v2
                now_failed
            l_ok = logs manifest w.is_in_use

            set_is : set ≡ set_appended manifest numbered.set edit
            set_is = l_ok.ok

            files_are_then : v2.disk.files ≡ with_bytes_kept manifest.path framed v1.disk.files
            files_are_then = (l_ok.does modelled).ok modelled

            all_written : AreBytes (edit_record numbered.set edit)
                × (numbered.set.next_file < 2 ^ 64)
            all_written = ⊎_elim
                (λ (are : AreBytes (edit_record numbered.set edit)
                × (numbered.set.next_file < 2 ^ 64)). are)
                (λ nothing. absurd nothing.0) (writes manifest w.is_in_use)

            pub keeps_logged : (allowed : Store → Bool)
                → KeepsStoreFrom cmp meaning smallest (λ s. IsTrue (allowed s)) old v0 final v2
            keeps_logged allowed = record {
              moments = moments_all (Ok tt) logs writes (λ s. IsTrue (allowed s));
              written = λ unbroken.
                  let t = tables_there v0.disk.files is in
                  subst (λ x. IsWritten cmp meaning
                  (record numbered { set = x; current = current }) v2.disk.files) (sym set_is)
                  (written_done t.0 t.1 (made t.0 t.1) all_written.1 all_written.0 current
                  v2.disk.files files_are_then);
              shows = λ history since from s late is_from.
                  let h = made s.tables s.has in
                  let fits = all_written.1 in
                  let are = all_written.0 in
                  let then = tables_done s.tables s.has h fits are current v2.disk.files
                  files_are_then in
                  record {
                    tables = then;
                    has = subst (λ x. HasLiveTables cmp meaning
                        (record numbered { set = x; current = current }) v2.disk.files then)
                        (sym set_is)
                        (live_done s.tables s.has h fits are current v2.disk.files files_are_then);
                    shows = shows_again cmp (memory_of old) (memory_of final) then then history from
                        refl refl (λ t c. c) (λ t c. c)
                        (compactions_keep_shown cmp (memory_of old) smallest level s.tables
                        h.inputs h.outputs then history total
                        (λ t c. range v1.disk.files t ((has s.tables s.has h fits are).each t c).0)
                        (known s.tables s.has h fits are)
                        (compacts_done s.tables s.has h fits are current v2.disk.files
                        files_are_then)
                        since from s.shows late is_from);
                  };
            }

            -- of these live tables it is a compaction in full
            pub full_then : (before : List LiveTable)
                (live : HasLiveTables cmp meaning old v0.disk.files before)
                → (after : List LiveTable) × HasLiveTables cmp meaning final v2.disk.files after
                × Compacts cmp smallest level before (made before live).inputs
                (made before live).outputs after
            full_then before live =
                let h = made before live in
                let fits = all_written.1 in
                let are = all_written.0 in
                let then = tables_done before live h fits are current v2.disk.files files_are_then
                in (
                  then,
                  subst (λ x. HasLiveTables cmp meaning
                      (record numbered { set = x; current = current }) v2.disk.files then)
                      (sym set_is)
                      (live_done before live h fits are current v2.disk.files files_are_then),
                  compacts_done before live h fits are current v2.disk.files files_are_then,
                )
