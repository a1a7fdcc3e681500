-- A store that a version set tracks: which numbers its files have, and after which changes the set
-- tracks it still.
use Rattle.leveldb_base.proofs.NamesLemmas.{made_name, one_reading}
use Rattle.leveldb_base.specs.Names.{IsFileName, MayHaveNumber, file_name, file_path}
use Rattle.leveldb_base.specs.Types.{Pair}
use Rattle.leveldb_base.specs.declared.types.FileType.{FileType}
use Rattle.leveldb_base.specs.declared.types.FileType.TheVariants.{Current, Descriptor, Log, Table}
use Rattle.leveldb_env.proofs.EnvLemmas.{SameBut-synced}
use Rattle.leveldb_env.specs.Env.{File, Files, SameBut, bytes_of, file_kept, in_folder, synced}
use Rattle.leveldb_files.proofs.Steps.BytesLemmas.{bytes_stay}
use Rattle.leveldb_files.proofs.Edits.CurrentLemmas.{one_current}
use Rattle.leveldb_files.proofs.Histories.HonestCrashLemmas.{all_honest, all_kept, all_leaves, all_same}
use Rattle.leveldb_files.proofs.Stores.ManagedLemmas.{SameBytes, SameFor, gone_again, kinds_apart, log_on, same_name, tables_on}
use Rattle.leveldb_files.proofs.Stores.ManifestLemmas.{edits_on, edits_same}
use Rattle.leveldb_files.proofs.Steps.StaysLemmas.{synced_same}
use Rattle.leveldb_version_set.proofs.Sets.TracksLemmas.{stays_tracked}
use Rattle.leveldb_files.proofs.Steps.UnreadLemmas.{unnamed_on}
use Rattle.leveldb_files.specs.Stores.Contents.{Contents}
use Rattle.leveldb_files.specs.Edits.Current.{IsCurrentText}
use Rattle.leveldb_files.specs.Stores.Paths.{current_path, log_path, table_path}
use Rattle.leveldb_version_set.specs.Sets.Recover.{IsNamed}
use Rattle.leveldb_files.specs.Stores.Store.{HasEdits, HasLogs, IsManagedBy, LogIsReplayed, ReplayedLog}
use Rattle.leveldb_files.specs.Steps.StoreSteps.{AppendedAreBytes, IsUnnamed, IsUnread}
use Rattle.leveldb_version_set.specs.Sets.Tracks.{Tracks}
use Rattle.leveldb_files.specs.Edits.Edit.{Edit, NewFile}
use Rattle.leveldb_files.specs.Edits.VersionSet.{FileSet, level_file, live_after}
use Rattle.leveldb_version_set.specs.Sets.VersionSetLaws.{NamesManifest}
use Rattle.leveldb_version_set.specs.Sets.VersionSetValue.{VersionSetValue, with_number_given}
use Rattle.leveldb_version_set.specs.Engines.Writing.{IsNumberedUpTo, IsTrackedBy, NumbersAreBelow}
use Rattle.std.proofs.Common.{◌<◌, ◌≤◌, ◌^◌, ◌∙◌, ◌≡◌, Bool, List, None, Option, Some, ap, append-nil, arith, false, inr, refl, subst, sym, true, ℕ}
use Rattle.std.specs.Cmp.Lexicographic.{bytes_decides}
use Rattle.std.specs.Option.{option_map}
use Rattle.std.specs.Prelude.{IsSomeAnd}
use Rattle.std.specs.Str.{bytes_eq}
use Rattle.std.specs.declared.cmp.Ordering.{Ordering}

module _ (store : List ℕ) (cmp : List ℕ → List ℕ → Ordering)
    (IsTableOf : List ℕ → List Pair → Type 0) where
  abbrev Tracked : Files → List Edit → VersionSetValue → Type 0
  Tracked = IsTrackedBy store cmp IsTableOf

  -- ---- numbers

  pub next_is_free : (files : Files) (edits : List Edit) (set : VersionSetValue)
      → Tracked files edits set → (kind : FileType) (n : ℕ) → set.next_file ≤ n
      → MayHaveNumber kind n → files (file_path store kind n) ≡ None
  next_is_free files edits set t kind n most may = by (files (file_path store kind n)) refl
    where
      by : (f : Option File) → files (file_path store kind n) ≡ f
          → files (file_path store kind n) ≡ None
      by None e = e
      by (Some f) e =
          let less : n < set.next_file = t.numbers (file_name kind n) n kind
          (made_name kind n may)
          (λ gone. let never : Some f ≡ None = sym e ∙ gone in cc) in
          absurd (omega (arith, less, most))

  pub live_is_below : (files : Files) (edits : List Edit) (set : VersionSetValue)
      → Tracked files edits set → (file : NewFile) → file.number < 2 ^ 64
      → (live_after edits).file (level_file file) ≡ Some file → file.number < set.next_file
  live_is_below files edits set t file fits live =
      let found = t.managed.has_tables.all file live in
      let has = (t.managed.has_tables.each found.0 found.1).0 in
      t.numbers (file_name Table file.number) file.number Table (made_name Table file.number fits)
      (λ gone. let never : Some has.file ≡ None = sym has.there
      ∙ ap (λ (x : NewFile). files (table_path store x.number)) found.2 ∙ gone in cc)

  -- a path has the number of its name alone
  pub numbered_up_to : (name : List ℕ) (n : ℕ) (kind : FileType) → IsFileName name n kind
      → (next : ℕ) → n < next → IsNumberedUpTo store (in_folder store name) next
  numbered_up_to name n kind is next less other k its_kind path its =
      subst (λ i. i < next)
      (one_reading name n k kind its_kind is
      (subst (λ z. IsFileName z k its_kind) (sym (same_name store name other path)) its)).0 less

  -- ---- what is read

  pub logs_still : (old new : Files) (set : FileSet) (logs : List ReplayedLog)
      → ((name : List ℕ) (n : ℕ) → IsFileName name n Log → LogIsReplayed set n
      → SameBytes (old (in_folder store name)) (new (in_folder store name)))
      → HasLogs store old set logs → HasLogs store new set logs
  logs_still old new set logs same has = record {
    each = λ log there. let h = has.each log there in (
      log_on store cmp IsTableOf old new log
          (same (file_name Log log.number) log.number (made_name Log log.number h.2) h.1) h.0,
      h.1,
      h.2,
    );
    all = λ name n is replayed some.
        has.all name n is replayed
        (gone_again (old (in_folder store name)) (new (in_folder store name))
        (same name n is replayed) some);
    rising = has.rising;
  }

  -- the same store, with the same logs
  abbrev pub managed_still : (old new : Files) (edits : List Edit) (contents : Contents)
      → SameFor store (live_after edits) old new
      → IsManagedBy store cmp IsTableOf old edits contents
      → IsManagedBy store cmp IsTableOf new edits contents
  managed_still old new edits contents same m = record {
    comparator = m.comparator;
    comparator_is = m.comparator_is;
    log_is = m.log_is;
    next_file_is = m.next_file_is;
    last = m.last;
    last_is = m.last_is;
    numbers_fit = m.numbers_fit;
    tables = m.tables;
    has_tables = tables_on store cmp IsTableOf (live_after edits) old new m.tables same.tables
        m.has_tables;
    logs = m.logs;
    has_logs = logs_still old new (live_after edits) m.logs same.logs m.has_logs;
    fit = m.fit;
    is = m.is;
  }

  -- ---- a number is given

  abbrev pub tracked_given : (files : Files) (edits : List Edit) (set : VersionSetValue)
      → Tracked files edits set → Tracked files edits (with_number_given set)
  tracked_given files edits set t = record {
    tracks = (stays_tracked files edits set t.tracks).given;
    store_is = t.store_is;
    has_edits = t.has_edits;
    contents = t.contents;
    managed = t.managed;
    numbers = λ name n kind is some. omega (arith, t.numbers name n kind is some);
    manifest_below = omega (arith, t.manifest_below);
    number_is = t.number_is;
    bytes = t.bytes;
  }

  -- ---- one file changes

  -- `CURRENT` names the manifest that it named
  pub number_still : (path : List ℕ) (old new : Files) (number : ℕ) → SameBut path old new
      → bytes_eq path (current_path store) ≡ false
      → ((name : List ℕ) (n : ℕ) → IsNamed store old name n → n ≡ number)
      → (name : List ℕ) (n : ℕ) → IsNamed store new name n → n ≡ number
  number_still path old new number same no_current is name n named =
      is name n
      (subst (λ o. IsSomeAnd o (λ (file : File). IsCurrentText (bytes_of file) name n))
      (same (current_path store) no_current) named)

  module _ (path : List ℕ) (old new : Files) (edits : List Edit) (set : VersionSetValue)
      (t : Tracked old edits set) (same : SameBut path old new)
      (no_current : bytes_eq path (current_path store) ≡ false)
      (no_manifest : bytes_eq path (in_folder store t.has_edits.name) ≡ false) where
    -- `CURRENT` names one manifest
    named_once : (name : List ℕ) → NamesManifest store old name → t.has_edits.name ≡ name
    named_once name named =
        (one_current (bytes_of t.has_edits.current) t.has_edits.name name t.has_edits.number
        named.0 t.has_edits.named
        (subst (λ o. IsSomeAnd o (λ (file : File). IsCurrentText (bytes_of file) name named.0))
        t.has_edits.current_there named.1)).0

    -- where that is neither `CURRENT` nor the manifest, the set tracks them still
    pub tracks_still : Tracks new edits set
    tracks_still = (stays_tracked old edits set t.tracks).others new
        (subst (λ s. new (current_path s) ≡ old (current_path s)) (sym t.store_is)
        (same (current_path store) no_current))
        (λ name named. subst (λ s. new (in_folder s name) ≡ old (in_folder s name))
        (sym t.store_is)
        (same (in_folder store name)
        (subst (λ z. bytes_eq path (in_folder store z) ≡ false)
        (named_once name (subst (λ s. NamesManifest s old name) t.store_is named))
        no_manifest)))

    -- and where no table or log that is read has other bytes, the store is the same
    abbrev pub tracked_still : SameFor store (live_after edits) old new
        → NumbersAreBelow store new set.next_file → AppendedAreBytes new
        → Tracked new edits set
    tracked_still reads numbers bytes = record {
      tracks = tracks_still;
      store_is = t.store_is;
      has_edits = edits_on store cmp IsTableOf path old new edits t.has_edits same no_current
          no_manifest;
      contents = t.contents;
      managed = managed_still old new edits t.contents reads t.managed;
      numbers = numbers;
      manifest_below = t.manifest_below;
      number_is = λ manifest used.
          number_still path old new set.manifest_number same no_current
          (t.number_is manifest used);
      bytes = bytes;
    }

  -- ---- a log is synced

  pub log_is_not_current : (n : ℕ) → n < 2 ^ 64
      → bytes_eq (log_path store n) (current_path store) ≡ false
  log_is_not_current n fits =
      kinds_apart store (file_name Log n) (file_name Current 0) n 0 Log Current
      (made_name Log n fits) (made_name Current 0 refl) (λ d. cc)

  pub log_is_no_manifest : (n : ℕ) → n < 2 ^ 64 → (name : List ℕ) (k : ℕ)
      → IsFileName name k Descriptor → bytes_eq (log_path store n) (in_folder store name) ≡ false
  log_is_no_manifest n fits name k is = kinds_apart store (file_name Log n) name n k Log Descriptor
      (made_name Log n fits) is (λ d. cc)

  abbrev pub tracked_synced : (files : Files) (edits : List Edit) (set : VersionSetValue)
      → Tracked files edits set → (n : ℕ) → n < 2 ^ 64
      → Tracked (synced (log_path store n) files) edits set
  tracked_synced files edits set t n fits =
      tracked_still (log_path store n) files (synced (log_path store n) files) edits set t
      (SameBut-synced (log_path store n) files (synced (log_path store n) files) (inr refl))
      (log_is_not_current n fits)
      (log_is_no_manifest n fits t.has_edits.name t.has_edits.number t.has_edits.named.0)
      (record {
        tables = λ file file_fits live.
            synced_same store cmp IsTableOf (log_path store n) files
            (table_path store file.number);
        logs = λ name k is replayed.
            synced_same store cmp IsTableOf (log_path store n) files (in_folder store name);
      })
      (λ name k kind is some. t.numbers name k kind is
      (gone_again (files (in_folder store name))
      (synced (log_path store n) files (in_folder store name))
      (synced_same store cmp IsTableOf (log_path store n) files (in_folder store name)) some))
      ((bytes_stay files t.bytes).sync (log_path store n))

  -- ---- a file changes that isn't read

  module _ (path : List ℕ) (files : Files) (edits : List Edit) (e : HasEdits store files edits)
      (bytes : AppendedAreBytes files) (un : IsUnread store files path) where
    pub unread_no_manifest : bytes_eq path (in_folder store e.name) ≡ false
    unread_no_manifest =
        un.not_manifest (all_kept files) (file_kept e.current) e.name e.number
        (all_leaves files bytes) (all_honest store files)
        (ap (option_map file_kept) e.current_there)
        (subst (λ b. IsCurrentText b e.name e.number) (sym (append-nil (bytes_of e.current)))
        e.named)

    pub unread_unnamed : IsUnnamed store (live_after edits) path
    unread_unnamed =
        un.unnamed (all_kept files) edits (all_leaves files bytes) (all_honest store files)
        (edits_same store files (all_kept files) edits (λ p. all_same (files p)) e)

  pub numbers_still : (path : List ℕ) (old new : Files) (next : ℕ) → SameBut path old new
      → IsNumberedUpTo store path next → NumbersAreBelow store old next
      → NumbersAreBelow store new next
  numbers_still path old new next same numbered below name n kind is some =
      by (bytes_eq path (in_folder store name)) refl
    where
      by : (b : Bool) → bytes_eq path (in_folder store name) ≡ b → n < next
      by true e = numbered name n kind ((bytes_decides path (in_folder store name)).0 e) is
      by false e = below name n kind is (λ gone. some (same (in_folder store name) e ∙ gone))

  abbrev pub tracked_unread : (files : Files) (edits : List Edit) (set : VersionSetValue)
      → Tracked files edits set → (path : List ℕ) → IsUnread store files path
      → IsNumberedUpTo store path set.next_file → (now : Files) → SameBut path files now
      → AppendedAreBytes now → Tracked now edits set
  tracked_unread files edits set t path un numbered now same bytes =
      tracked_still path files now edits set t same un.not_current
      (unread_no_manifest path files edits t.has_edits t.bytes un)
      (unnamed_on store cmp IsTableOf path files now (live_after edits) same
      (unread_unnamed path files edits t.has_edits t.bytes un))
      (numbers_still path files now set.next_file same numbered t.numbers) bytes
