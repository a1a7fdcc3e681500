-- What calls leave of a store that is recovered, which make tables alone, one after another.
use Rattle.std.specs.Prelude.{◌≢◌, IsTrue}
use Rattle.std.proofs.Common.{◌≡◌, ◌∙◌, inr, ℕ, ◌+◌, ◌<◌, ◌≤◌, ◌^◌, Bool, false, List, None, Some, ap, arith, refl, subst, sym}
use Rattle.std.specs.Str.{bytes_eq}
use Rattle.std.specs.declared.cmp.Ordering.{Ordering}
use Rattle.leveldb_base.proofs.NamesLemmas.{made_name}
use Rattle.leveldb_base.specs.Names.{IsFileName, file_name}
use Rattle.leveldb_base.specs.Types.{Pair}
use Rattle.leveldb_base.specs.declared.types.FileType.TheVariants.{Current, Descriptor, Log, Table}
use Rattle.leveldb_env.proofs.EnvLemmas.{Run-mono, Run-trans, begun, bytes_eq-apart}
use Rattle.leveldb_env.specs.Env.{Files, FilesUnchanged, Observed, Run, SameBut, SameLocks, in_folder}
use Rattle.leveldb_env.specs.declared.env.Env.{Ghosts}
use Rattle.leveldb_files.proofs.Stores.ManagedLemmas.{kinds_apart, managed_on}
use Rattle.leveldb_files.proofs.Stores.ManifestLemmas.{edits_on, managed_of}
use Rattle.leveldb_files.proofs.Steps.ObsoleteLemmas.{missing_unread}
use Rattle.leveldb_version_set.proofs.Engines.RecoveringLemmas.{recovered_given}
use Rattle.leveldb_version_set.proofs.Sets.TrackedLemmas.{next_is_free, numbered_up_to, numbers_still, tracked_still}
use Rattle.leveldb_files.proofs.Steps.UnreadLemmas.{unnamed_on, unread_stays_safe}
use Rattle.leveldb_files.specs.Stores.Contents.{Contents, Store}
use Rattle.leveldb_files.specs.Stores.Paths.{current_path, table_path}
use Rattle.leveldb_files.specs.Stores.Store.{IsStore}
use Rattle.leveldb_files.specs.Steps.StoreSteps.{AppendedAreBytes, IsKept, IsUnnamed, KeepsHistory}
use Rattle.leveldb_files.specs.Edits.Edit.{Edit, NewFile}
use Rattle.leveldb_files.specs.Edits.VersionSet.{live_after}
use Rattle.leveldb_version_set.specs.Sets.VersionSetValue.{VersionSetValue, with_number_given}
use Rattle.leveldb_version_set.specs.Engines.Writing.{IsRecoveredBy}
use Rattle.leveldb_files.specs.Stores.Format.{IsTableOf, Meaning}
use Rattle.leveldb_store.specs.Openings.Opening.{GivesNumbers, SameButTables}
use Rattle.leveldb_store.specs.Logs.ReplayLog.{MakesTablesOnly}
use Rattle.leveldb_store.specs.Keeping.SoundCall.{BytesAreAppended}

-- ---- a new table in a store that is recovered

module _ (store : List ℕ) (cmp : List ℕ → List ℕ → Ordering)
    (IsTable : List ℕ → List Pair → Type 0) where
  KeepsHistory-refl : (allowed : Store → Type 0) (bound : ℕ) (files : Files)
      → KeepsHistory store cmp IsTable allowed bound files files
  KeepsHistory-refl allowed bound files =
      record { now = λ history carries. carries; crash = λ durable history safe. safe }

  KeepsHistory-trans : {allowed : Store → Type 0} {bound : ℕ} {old mid new : Files}
      → KeepsHistory store cmp IsTable allowed bound old mid
      → KeepsHistory store cmp IsTable allowed bound mid new
      → KeepsHistory store cmp IsTable allowed bound old new
  KeepsHistory-trans first second = record {
    now = λ history carries. second.now history (first.now history carries);
    crash = λ durable history safe. second.crash durable history (first.crash durable history safe);
  }

  -- the file of a number that wasn't given yet changes; where the manifest isn't kept, a crash
  -- could leave one that names it, but then its table is missing
  module _ (files : Files) (edits : List Edit) (set : VersionSetValue)
      (r : IsRecoveredBy store cmp IsTable files edits set) (n : ℕ) (fits : n < 2 ^ 64)
      (gone : files (table_path store n) ≡ None) (now : Files)
      (same : SameBut (table_path store n) files now) where
    named : IsFileName (file_name Table n) n Table
    named = made_name Table n fits

    not_current : bytes_eq (table_path store n) (current_path store) ≡ false
    not_current = kinds_apart store (file_name Table n) (file_name Current 0) n 0 Table Current named
        (made_name Current 0 refl) (λ d. cc)

    no_log : (name : List ℕ) (k : ℕ) → IsFileName name k Log
        → bytes_eq (table_path store n) (in_folder store name) ≡ false
    no_log name k is = kinds_apart store (file_name Table n) name n k Table Log named is (λ d. cc)

    no_manifest : bytes_eq (table_path store n) (in_folder store r.tracked.has_edits.name) ≡ false
    no_manifest = kinds_apart store (file_name Table n) r.tracked.has_edits.name n
        r.tracked.has_edits.number Table Descriptor named r.tracked.has_edits.named.0 (λ d. cc)

    unnamed : IsUnnamed store (live_after edits) (table_path store n)
    unnamed = record {
      tables = λ file file_fits live.
          let found = r.tracked.managed.has_tables.all file live in
          let has = (r.tracked.managed.has_tables.each found.0 found.1).0 in
          bytes_eq-apart (table_path store n) (table_path store file.number)
          (λ is. let never : Some has.file ≡ None = sym has.there
          ∙ ap (λ (f : NewFile). files (table_path store f.number)) found.2 ∙ ap files (sym is)
          ∙ gone in cc);
      logs = λ name k is replayed. no_log name k is;
    }

    new_table_recovered : n < set.next_file → AppendedAreBytes now
        → IsRecoveredBy store cmp IsTable now edits set
    new_table_recovered below bytes = record {
      tracked = tracked_still store cmp IsTable (table_path store n) files now edits set r.tracked
          same not_current no_manifest
          (unnamed_on store cmp IsTable (table_path store n) files now (live_after edits) same
          unnamed)
          (numbers_still store cmp IsTable (table_path store n) files now set.next_file same
          (numbered_up_to store cmp IsTable (file_name Table n) n Table named set.next_file below)
          r.tracked.numbers)
          bytes;
      kept = record {
        tables = λ file file_fits live. subst IsKept
            (sym (same (table_path store file.number) (unnamed.tables file file_fits live)))
            (r.kept.tables file file_fits live);
        logs = λ name k is replayed. subst IsKept
            (sym (same (in_folder store name) (no_log name k is)))
            (r.kept.logs name k is replayed);
      };
    }

    has_current : files (current_path store) ≢ None
    has_current none =
        let never : Some r.tracked.has_edits.current ≡ None =
        sym r.tracked.has_edits.current_there ∙ none in cc

    still_read : (contents : Contents) → IsStore store cmp IsTable files contents
        → IsStore store cmp IsTable now contents
    still_read contents read = inr (record {
      edits = edits;
      has_edits = edits_on store cmp IsTable (table_path store n) files now edits
          r.tracked.has_edits same not_current no_manifest;
      managed = managed_on store cmp IsTable files now edits contents
          (unnamed_on store cmp IsTable (table_path store n) files now (live_after edits) same
          unnamed)
          (managed_of store cmp IsTable files edits contents r.tracked.has_edits read);
    })

    new_table_keeps : (allowed : Store → Type 0) (bound : ℕ)
        → KeepsHistory store cmp IsTable allowed bound files now
    new_table_keeps allowed bound = record {
      now = λ history carries. record {
        contents = carries.contents;
        read = still_read carries.contents carries.read;
        matches = carries.matches;
      };
      crash = λ durable history safe. unread_stays_safe store cmp IsTable (table_path store n) files
          now same
          (missing_unread store cmp IsTable files (file_name Table n) n Table named (λ d. cc)
          (λ d. cc) gone has_current allowed bound durable history safe)
          allowed bound durable history safe;
    }

-- ---- numbers

pub GivesNumbers-refl : (set : VersionSetValue) → GivesNumbers set set
GivesNumbers-refl set = record { set = refl; rises = omega arith }

pub GivesNumbers-trans : {old mid new : VersionSetValue} → GivesNumbers old mid → GivesNumbers mid new
    → GivesNumbers old new
GivesNumbers-trans {new = new} first second = record {
  set = second.set
      ∙ ap (λ (v : VersionSetValue). let w : VersionSetValue = record v { next_file = new.next_file; given = new.given } in w) first.set;
  rises = omega (arith, first.rises, second.rises);
}

pub same_store : {old new : VersionSetValue} → GivesNumbers old new → new.store ≡ old.store
same_store gives = ap (λ (v : VersionSetValue). v.store) gives.set

-- ---- calls one after another

SameButTables-wider : (old mid new : VersionSetValue) → mid.next_file ≤ new.next_file
    → (before after : Files) → SameButTables old mid before after → SameButTables old new before after
SameButTables-wider old mid new rises before after same path others =
    same path (λ n least below. others n least (omega (arith, rises, below)))

pub SameButTables-trans : {old mid new : VersionSetValue} → GivesNumbers old mid → GivesNumbers mid new
    → (before between after : Files) → SameButTables old mid before between
    → SameButTables mid new between after → SameButTables old new before after
SameButTables-trans first_gives second_gives before between after first second path others =
    second path (λ n least below fits. λ is. others n (omega (arith, least, first_gives.rises)) below fits
    (is ∙ ap (λ s. table_path s n) (same_store first_gives)))
    ∙ first path (λ n least below. others n least (omega (arith, below, second_gives.rises)))

-- what is kept of a store under this path
abbrev KeepsAt : List ℕ → (List ℕ → List ℕ → Ordering) → Meaning → VersionSetValue → Observed → VersionSetValue
    → Observed → Type 0
KeepsAt store cmp meaning old from new to = (edits : List Edit)
    → IsRecoveredBy store cmp (IsTableOf cmp meaning) from.disk.files edits old
    → IsRecoveredBy store cmp (IsTableOf cmp meaning) to.disk.files edits new
    × ((allowed : Store → Bool) (bound : ℕ)
    → Run (KeepsHistory store cmp (IsTableOf cmp meaning) (λ it. IsTrue (allowed it)) bound
    from.disk.files) from to)

module _ {E F : Type 0} (env : Ghosts E F) where
  -- no call
  pub MakesTablesOnly-none : (set : VersionSetValue) (at : E) → MakesTablesOnly env set at set at
  MakesTablesOnly-none set at = record {
    numbers = GivesNumbers-refl set;
    fits = λ fits. fits;
    run = λ modelled. begun (env.observed at) (λ path others. refl);
    locks = λ modelled. refl;
    keeps = λ modelled cmp meaning edits r. (
      r,
      λ allowed bound. begun (env.observed at)
          (KeepsHistory-refl set.store cmp (IsTableOf cmp meaning) (λ it. IsTrue (allowed it)) bound
          (env.observed at).disk.files),
    );
    bytes = λ modelled are. are;
  }

  -- calls that leave the files
  pub MakesTablesOnly-still : (set : VersionSetValue) {from to : E} → (IsTrue env.models_disk
      → Run (FilesUnchanged (env.observed from).disk.files) (env.observed from) (env.observed to))
      → SameLocks env.models_disk (env.observed from) (env.observed to)
      → MakesTablesOnly env set from set to
  MakesTablesOnly-still set {from} {to} run locks = record {
    numbers = GivesNumbers-refl set;
    fits = λ fits. fits;
    run = λ modelled. Run-mono (λ files is path others. ap (λ (f : Files). f path) is) (run modelled);
    locks = locks;
    keeps = λ modelled cmp meaning edits r. (
      subst (λ files. IsRecoveredBy set.store cmp (IsTableOf cmp meaning) files edits set)
          (sym (run modelled).has) r,
      λ allowed bound. Run-mono
          (λ files is. subst
          (KeepsHistory set.store cmp (IsTableOf cmp meaning) (λ it. IsTrue (allowed it)) bound
          (env.observed from).disk.files) (sym is)
          (KeepsHistory-refl set.store cmp (IsTableOf cmp meaning) (λ it. IsTrue (allowed it)) bound
          (env.observed from).disk.files))
          (run modelled),
    );
    bytes = λ modelled are. subst AppendedAreBytes (sym (run modelled).has) are;
  }

  -- a number is given
  pub MakesTablesOnly-given : (set : VersionSetValue) (at : E) → set.next_file + 1 < 2 ^ 64
      → MakesTablesOnly env set at (with_number_given set) at
  MakesTablesOnly-given set at next_fits = record {
    numbers = record { set = refl; rises = omega arith };
    fits = λ fits. next_fits;
    run = λ modelled. begun (env.observed at) (λ path others. refl);
    locks = λ modelled. refl;
    keeps = λ modelled cmp meaning edits r. (
      recovered_given set.store cmp (IsTableOf cmp meaning) (env.observed at).disk.files edits set r,
      λ allowed bound. begun (env.observed at)
          (KeepsHistory-refl set.store cmp (IsTableOf cmp meaning) (λ it. IsTrue (allowed it)) bound
          (env.observed at).disk.files),
    );
    bytes = λ modelled are. are;
  }

  -- the file of the next number is made, in whole or in part
  pub MakesTablesOnly-made : (set : VersionSetValue) {from to : E} → set.next_file + 1 < 2 ^ 64
      → (IsTrue env.models_disk
      → Run (SameBut (table_path set.store set.next_file) (env.observed from).disk.files)
      (env.observed from) (env.observed to))
      → BytesAreAppended env from to
      → SameLocks env.models_disk (env.observed from) (env.observed to)
      → MakesTablesOnly env set from (with_number_given set) to
  MakesTablesOnly-made set {from} {to} fits run bytes locks = record {
    numbers = record { set = refl; rises = omega arith };
    fits = λ before. fits;
    run = λ modelled. Run-mono
        (λ files same path others. same path
        (bytes_eq-apart (table_path set.store set.next_file) path
        (λ is. others set.next_file (omega arith) (omega arith) (omega (arith, fits)) (sym is))))
        (run modelled);
    locks = locks;
    keeps = λ modelled cmp meaning edits r.
        let before = (env.observed from).disk.files in
        let gone = next_is_free set.store cmp (IsTableOf cmp meaning) before edits set r.tracked Table
        set.next_file (omega arith) (omega (arith, fits)) in
        let given = recovered_given set.store cmp (IsTableOf cmp meaning) before edits set r in (
          new_table_recovered set.store cmp (IsTableOf cmp meaning) before edits
              (with_number_given set) given set.next_file (omega (arith, fits)) gone
              (env.observed to).disk.files (run modelled).has (omega arith)
              (bytes modelled r.tracked.bytes),
          λ allowed bound. Run-mono
              (λ files same. new_table_keeps set.store cmp (IsTableOf cmp meaning) before edits set r
              set.next_file (omega (arith, fits)) gone files same (λ it. IsTrue (allowed it)) bound)
              (run modelled),
        );
    bytes = bytes;
  }

  -- one call after another
  pub MakesTablesOnly-trans : {old mid new : VersionSetValue} {from at to : E}
      → MakesTablesOnly env old from mid at → MakesTablesOnly env mid at new to
      → MakesTablesOnly env old from new to
  MakesTablesOnly-trans {old} {mid} {new} {from} {at} {to} first second = record {
    numbers = GivesNumbers-trans first.numbers second.numbers;
    fits = λ fits. second.fits (first.fits fits);
    run = λ modelled. Run-trans
        (Run-mono (λ files same. SameButTables-wider old mid new second.numbers.rises
        (env.observed from).disk.files files same)
        (first.run modelled))
        (λ files same. SameButTables-trans first.numbers second.numbers
        (env.observed from).disk.files (env.observed at).disk.files files (first.run modelled).has
        same)
        (second.run modelled);
    locks = λ modelled. second.locks modelled ∙ first.locks modelled;
    keeps = λ modelled cmp meaning edits r.
        let one = first.keeps modelled cmp meaning edits r in
        let more : KeepsAt old.store cmp meaning mid (env.observed at) new (env.observed to) =
        subst (λ s. KeepsAt s cmp meaning mid (env.observed at) new (env.observed to))
        (same_store first.numbers) (second.keeps modelled cmp meaning) in
        let two = more edits one.0 in (
          two.0,
          λ allowed bound. Run-trans (one.1 allowed bound)
              (λ files keeps. KeepsHistory-trans old.store cmp (IsTableOf cmp meaning)
              (one.1 allowed bound).has keeps)
              (two.1 allowed bound),
        );
    bytes = λ modelled are. second.bytes modelled (first.bytes modelled are);
  }
