-- A store that an engine writes: which changes keep it so, and which of its files aren't read.
use Rattle.leveldb_base.proofs.EntriesLemmas.{map_in}
use Rattle.leveldb_base.proofs.NamesLemmas.{made_name, one_reading}
use Rattle.leveldb_base.specs.Names.{IsFileName, file_name}
use Rattle.leveldb_base.specs.Types.{Pair}
use Rattle.leveldb_base.specs.declared.types.FileType.{FileType}
use Rattle.leveldb_base.specs.declared.types.FileType.TheVariants.{Current, Descriptor, InfoLog, DBLock, Log, Table, Temp}
use Rattle.leveldb_env.proofs.EnvLemmas.{bytes_eq-apart}
use Rattle.leveldb_env.specs.Env.{File, Files, SameBut, bytes_of, in_folder, synced}
use Rattle.leveldb_files.proofs.Stores.ManagedLemmas.{kinds_apart, same_name}
use Rattle.leveldb_files.proofs.Steps.ObsoleteLemmas.{obsolete_unread}
use Rattle.leveldb_files.proofs.Histories.SafeLemmas.{some_is}
use Rattle.leveldb_version_set.proofs.Sets.TrackedLemmas.{tracked_given, tracked_synced, tracked_unread, unread_no_manifest, unread_unnamed}
use Rattle.leveldb_files.proofs.Steps.WritableLemmas.{sync_stays_writable}
use Rattle.leveldb_files.specs.Edits.Current.{IsCurrentText}
use Rattle.leveldb_files.specs.Stores.Paths.{current_path, log_path, table_path}
use Rattle.leveldb_files.specs.Stores.Store.{LogIsReplayed}
use Rattle.leveldb_files.specs.Steps.StoreSteps.{AppendedAreBytes, IsKept, IsUnnamed, IsUnread, IsWritable}
use Rattle.leveldb_files.specs.Edits.Edit.{Edit, NewFile}
use Rattle.leveldb_files.specs.Edits.VersionSet.{level_file, live_after}
use Rattle.leveldb_version_set.specs.Sets.VersionSetValue.{with_number_given}
use Rattle.leveldb_version_set.specs.Engines.Writing.{EngineMemory, IsNumberedUpTo, IsObsolete, IsWrittenBy}
use Rattle.std.proofs.Common.{◌<◌, ◌^◌, ◌∙◌, ◌≡◌, List, None, Option, Some, ap, arith, false, inl, inr, map, refl, subst, sym, ℕ}
use Rattle.std.specs.Option.{unwrap_or}
use Rattle.std.specs.Prelude.{◌≢◌, Contains, IsSomeAnd}
use Rattle.std.specs.Str.{bytes_eq}
use Rattle.std.specs.declared.cmp.Ordering.{Ordering}

module _ (store : List ℕ) (cmp : List ℕ → List ℕ → Ordering)
    (IsTableOf : List ℕ → List Pair → Type 0) where
  abbrev Written : Files → List Edit → EngineMemory → Type 0
  Written = IsWrittenBy store cmp IsTableOf

  -- ---- a number is given

  abbrev pub written_given : (files : Files) (edits : List Edit) (memory : EngineMemory)
      → Written files edits memory
      → Written files edits (record memory { set = with_number_given memory.set })
  written_given files edits memory w = record {
    tracked = tracked_given store cmp IsTableOf files edits memory.set w.tracked;
    manifest = w.manifest;
    is_in_use = w.is_in_use;
    writable = w.writable;
    log_is = w.log_is;
    from_log = w.from_log;
    mem_is = w.mem_is;
    imm_is = w.imm_is;
    reached = w.reached;
    last_fits = w.last_fits;
  }

  -- ---- the log is synced

  written_synced_there : (files : Files) (edits : List Edit) (memory : EngineMemory)
      (w : Written files edits memory)
      → Written (synced (log_path store w.writable.log.number) files) edits memory
  written_synced_there files edits memory w = record {
    tracked = tracked_synced store cmp IsTableOf files edits memory.set w.tracked
        w.writable.log.number w.writable.log.fits;
    manifest = w.manifest;
    is_in_use = w.is_in_use;
    writable = sync_stays_writable store cmp IsTableOf files edits w.writable;
    log_is = w.log_is;
    from_log = w.from_log;
    mem_is = w.mem_is;
    imm_is = w.imm_is;
    reached = w.reached;
    last_fits = w.last_fits;
  }

  pub written_synced : (files : Files) (edits : List Edit) (memory : EngineMemory)
      → Written files edits memory
      → Written (synced (log_path store memory.log) files) edits memory
  written_synced files edits memory w =
      subst (λ n. Written (synced (log_path store n) files) edits memory) w.log_is
      (written_synced_there files edits memory w)

  -- ---- a file changes that isn't read

  -- the same batch may be appended to the same log
  abbrev pub writable_unread : (path : List ℕ) (old new : Files) (edits : List Edit)
      → SameBut path old new → IsUnread store old path → AppendedAreBytes old
      → IsWritable store old edits → IsWritable store new edits
  writable_unread path old new edits same un bytes w =
      let named : IsUnnamed store (live_after edits) path =
      unread_unnamed store cmp IsTableOf path old edits w.has_edits bytes un in
      record {
        has_edits = record {
          current = w.has_edits.current;
          current_there = same (current_path store) un.not_current ∙ w.has_edits.current_there;
          name = w.has_edits.name;
          number = w.has_edits.number;
          named = w.has_edits.named;
          manifest = w.has_edits.manifest;
          there = same (in_folder store w.has_edits.name)
              (unread_no_manifest store cmp IsTableOf path old edits w.has_edits bytes un)
              ∙ w.has_edits.there;
          is = w.has_edits.is;
        };
        current = w.current;
        manifest = w.manifest;
        tables = λ one fits live.
            subst IsKept (sym (same (table_path store one.number) (named.tables one fits live)))
            (w.tables one fits live);
        log = record {
          number = w.log.number;
          fits = w.log.fits;
          last = record {
            replayed = w.log.last.replayed;
            empty_after = λ name n other is replayed less found.
                w.log.last.empty_after name n other is replayed less
                (sym (same (in_folder store name) (named.logs name n is replayed)) ∙ found);
            others_kept = λ name n is replayed differ.
                subst IsKept
                (sym (same (in_folder store name) (named.logs name n is replayed)))
                (w.log.last.others_kept name n is replayed differ);
          };
          clean_before = λ n other less replayed found.
              w.log.clean_before n other less replayed
              (sym (same (log_path store n)
              (named.logs (file_name Log n) n
              (made_name Log n (omega (arith, less, w.log.fits))) replayed)) ∙ found);
          file = w.log.file;
          there = same (log_path store w.log.number)
              (named.logs (file_name Log w.log.number) w.log.number
              (made_name Log w.log.number w.log.fits) w.log.last.replayed) ∙ w.log.there;
          records = w.log.records;
          clean_end = w.log.clean_end;
          batches = w.log.batches;
          each = w.log.each;
        };
        bytes = w.bytes;
      }

  pub written_unread : (files : Files) (edits : List Edit) (memory : EngineMemory)
      → Written files edits memory → (path : List ℕ) → IsUnread store files path
      → IsNumberedUpTo store path memory.set.next_file → (now : Files) → SameBut path files now
      → AppendedAreBytes now → Written now edits memory
  written_unread files edits memory w path un numbered now same bytes = record {
    tracked = tracked_unread store cmp IsTableOf files edits memory.set w.tracked path un numbered
        now same bytes;
    manifest = w.manifest;
    is_in_use = w.is_in_use;
    writable = writable_unread path files now edits same un w.tracked.bytes w.writable;
    log_is = w.log_is;
    from_log = w.from_log;
    mem_is = w.mem_is;
    imm_is = w.imm_is;
    reached = w.reached;
    last_fits = w.last_fits;
  }

  -- ---- which files aren't read

  pub new_table_unread : (files : Files) (edits : List Edit) (memory : EngineMemory)
      → Written files edits memory → (n : ℕ) → n < 2 ^ 64
      → files (table_path store n) ≡ None → IsUnread store files (table_path store n)
  new_table_unread files edits memory w n fits gone =
      let e = w.writable.has_edits in
      obsolete_unread store cmp IsTableOf files edits e w.writable.current w.writable.manifest
      (table_path store n)
      (kinds_apart store (file_name Table n) (file_name Current 0) n 0 Table Current named
      (made_name Current 0 refl) (λ d. cc))
      (kinds_apart store (file_name Table n) e.name n e.number Table Descriptor named e.named.0
      (λ d. cc))
      (record {
        tables = λ file file_fits live.
            bytes_eq-apart (table_path store n) (table_path store file.number)
            (λ is. live_there file live (ap files (sym is) ∙ gone));
        logs = λ name k is replayed.
            kinds_apart store (file_name Table n) name n k Table Log named is (λ d. cc);
      })
    where
      named : IsFileName (file_name Table n) n Table
      named = made_name Table n fits

      live_there : (file : NewFile) → (live_after edits).file (level_file file) ≡ Some file
          → files (table_path store file.number) ≢ None
      live_there file live none =
          let found = w.tracked.managed.has_tables.all file live in
          let has = (w.tracked.managed.has_tables.each found.0 found.1).0 in
          let never : Some has.file ≡ None = sym has.there
          ∙ ap (λ (x : NewFile). files (table_path store x.number)) found.2 ∙ none in cc

  -- names of two types, or of two numbers, are apart
  names_apart : (name other : List ℕ) (m n : ℕ) (k l : FileType) → IsFileName name m k
      → IsFileName other n l → (k ≡ l → m ≢ n)
      → bytes_eq (in_folder store name) (in_folder store other) ≡ false
  names_apart name other m n k l is_name is_other differ =
      bytes_eq-apart (in_folder store name) (in_folder store other)
      (λ e.
      let one = one_reading name m n k l is_name
      (subst (λ z. IsFileName z n l) (sym (same_name store name other e)) is_other) in
      differ one.1 one.0)

  module _ (files : Files) (edits : List Edit) (memory : EngineMemory)
      (w : Written files edits memory) where
    -- A file isn't read whose name is neither that of `CURRENT` nor has the number of the manifest,
    -- of a live table or of a log that is replayed, where it is of their type.
    not_in_use : (name : List ℕ) (n : ℕ) (kind : FileType) → IsFileName name n kind
        → kind ≢ Current → (kind ≡ Descriptor → n ≢ memory.set.manifest_number)
        → (kind ≡ Table → (file : NewFile)
        → (live_after edits).file (level_file file) ≡ Some file → n ≢ file.number)
        → (kind ≡ Log → (k : ℕ) → LogIsReplayed (live_after edits) k → n ≢ k)
        → IsUnread store files (in_folder store name)
    not_in_use name n kind is no_current no_manifest no_table no_log =
        let e = w.writable.has_edits in
        let number : e.number ≡ memory.set.manifest_number =
        w.tracked.number_is w.manifest w.is_in_use e.name e.number
        (subst (λ o. IsSomeAnd o (λ (file : File). IsCurrentText (bytes_of file) e.name e.number))
        (sym e.current_there) e.named) in
        obsolete_unread store cmp IsTableOf files edits e w.writable.current w.writable.manifest
        (in_folder store name)
        (kinds_apart store name (file_name Current 0) n 0 kind Current is
        (made_name Current 0 refl) no_current)
        (names_apart name e.name n e.number kind Descriptor is e.named.0
        (λ same is_number. no_manifest same (is_number ∙ number)))
        (record {
          tables = λ file fits live.
              names_apart name (file_name Table file.number) n file.number kind Table is
              (made_name Table file.number fits) (λ same. no_table same file live);
          logs = λ other k is_other replayed.
              names_apart name other n k kind Log is is_other (λ same. no_log same k replayed);
        })

    -- a log below the log number isn't replayed, if it is the previous one only where that is 0
    not_replayed : (n : ℕ) → n < memory.set.log_number
        → (n ≡ memory.set.previous_log → n ≡ 0) → (k : ℕ)
        → LogIsReplayed (live_after edits) k → n ≢ k
    not_replayed n less no_previous k (inl from) same =
        let log : from.0 ≡ memory.set.log_number =
        some_is from.0 memory.set.log_number (sym from.1 ∙ w.tracked.tracks.left.log_number) in
        let most = from.2 in
        omega (arith, less, log, most, same)
    not_replayed n less no_previous k (inr previous) same =
        let zero = no_previous
        (same ∙ sym (ap (λ (o : Option ℕ). unwrap_or o 0) previous.0)
        ∙ w.tracked.tracks.left.previous_log) in
        let pos = previous.1 in
        omega (arith, zero, same, pos)

    -- the number of a live table is one of the set's
    live_number : (file : NewFile) → (live_after edits).file (level_file file) ≡ Some file
        → Contains (map (λ (it : NewFile). it.number) memory.set.full.added) file.number
    live_number file live =
        map_in (λ (it : NewFile). it.number) memory.set.full.added file
        ((w.tracked.tracks.left.full.added.live file).1 live)

    pub obsolete_is_unread : (name : List ℕ) (n : ℕ) (kind : FileType) → IsFileName name n kind
        → IsObsolete memory.set kind n → IsUnread store files (in_folder store name)
    obsolete_is_unread name n Log is gone =
        not_in_use name n Log is (λ d. cc) (λ d. absurd cc) (λ d. absurd cc)
        (λ d. not_replayed n gone.0 gone.1)
    obsolete_is_unread name n Descriptor is gone =
        not_in_use name n Descriptor is (λ d. cc) (λ d same. omega (arith, gone, same))
        (λ d. absurd cc) (λ d. absurd cc)
    obsolete_is_unread name n Table is gone =
        not_in_use name n Table is (λ d. cc) (λ d. absurd cc)
        (λ d file live same.
        gone (subst
        (Contains (map (λ (it : NewFile). it.number) memory.set.full.added)) (sym same)
        (live_number file live)))
        (λ d. absurd cc)
    obsolete_is_unread name n Temp is gone =
        not_in_use name n Temp is (λ d. cc) (λ d. absurd cc) (λ d. absurd cc) (λ d. absurd cc)
    obsolete_is_unread name n DBLock is gone = absurd gone
    obsolete_is_unread name n Current is gone = absurd gone
    obsolete_is_unread name n InfoLog is gone = absurd gone
