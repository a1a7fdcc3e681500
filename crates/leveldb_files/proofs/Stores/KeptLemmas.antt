-- Files of which all that is read is kept: a crash leaves the same store.
use Rattle.leveldb_base.specs.History.{History}
use Rattle.leveldb_base.specs.Types.{Pair}
use Rattle.leveldb_env.specs.Env.{File, FileCrashesTo, Files, FilesCrashTo, bytes_of, in_folder}
use Rattle.leveldb_files.proofs.Stores.ManagedLemmas.{SameBytes, SameFor, managed_on, tables_on}
use Rattle.leveldb_files.proofs.Stores.ManifestLemmas.{edits_again, left_whole}
use Rattle.leveldb_files.specs.Stores.Contents.{Contents, Store}
use Rattle.leveldb_files.specs.Histories.Holds.{Holds, IsSafe, MatchesHistory}
use Rattle.leveldb_files.specs.Levels.Levels.{LiveTable}
use Rattle.leveldb_files.specs.Stores.Paths.{current_path, table_path}
use Rattle.leveldb_files.specs.Stores.Store.{HasEdits, HasTables, IsStore}
use Rattle.leveldb_files.specs.Steps.StoreSteps.{AreKept, IsAllKept, IsKept, TablesAreKept}
use Rattle.leveldb_files.specs.Edits.Edit.{Edit}
use Rattle.leveldb_files.specs.Edits.VersionSet.{FileSet, live_after}
use Rattle.std.proofs.Common.{◌+◌, ◌∙◌, ◌≡◌, List, None, Option, Some, [], ap, arith, inl, inr, length, subst, sym, ℕ}
use Rattle.std.proofs.lemmas.List.{take_all}
use Rattle.std.specs.Option.{option_map}
use Rattle.std.specs.declared.cmp.Ordering.{Ordering}

-- a crash leaves the bytes of what is kept
pub kept_left : (file left : Option File) → IsKept file → FileCrashesTo file left
    → SameBytes file left
kept_left None left is leaves = ap (option_map bytes_of) leaves
kept_left (Some file) left is leaves =
    let w = left_whole file left is leaves in
    ap (option_map bytes_of) w.there ∙ ap (λ b. Some b) w.bytes

pub same_left : (store : List ℕ) (set : FileSet) (files left : Files) → AreKept store set files
    → FilesCrashTo files left → SameFor store set files left
same_left store set files left kept leaves = record {
  tables =
      λ file fits live.
      kept_left (files (table_path store file.number)) (left (table_path store file.number))
      (kept.tables file fits live) (leaves (table_path store file.number));
  logs =
      λ name n is replayed.
      kept_left (files (in_folder store name)) (left (in_folder store name))
      (kept.logs name n is replayed) (leaves (in_folder store name));
}

-- `CURRENT` and the manifest too
pub edits_left :
    (store : List ℕ) (files left : Files) (edits : List Edit) (e : HasEdits store files edits)
    → e.current.since ≡ [] → e.manifest.since ≡ [] → FilesCrashTo files left
    → HasEdits store left edits
edits_left store files left edits e kept_current kept_manifest leaves =
    let c = left_whole e.current (left (current_path store)) kept_current
    (subst (λ f. FileCrashesTo f (left (current_path store))) e.current_there
    (leaves (current_path store))) in
    let m = left_whole e.manifest (left (in_folder store e.name)) kept_manifest
    (subst (λ f. FileCrashesTo f (left (in_folder store e.name))) e.there
    (leaves (in_folder store e.name))) in
    edits_again store files left edits e
    (record { now = c.now; there = c.there; bytes = c.bytes })
    (record { now = m.now; there = m.there; bytes = m.bytes })

module _ (store : List ℕ) (cmp : List ℕ → List ℕ → Ordering)
    (IsTableOf : List ℕ → List Pair → Type 0) where
  -- kept tables are there after a crash
  pub tables_left : (files left : Files) (set : FileSet) (tables : List LiveTable)
      → TablesAreKept store files set → FilesCrashTo files left
      → HasTables store cmp IsTableOf files set tables
      → HasTables store cmp IsTableOf left set tables
  tables_left files left set tables kept leaves has =
      tables_on store cmp IsTableOf set files left tables
      (λ file fits live.
      kept_left (files (table_path store file.number)) (left (table_path store file.number))
      (kept file fits live) (leaves (table_path store file.number))) has

  abbrev AllKept : Files → Contents → Type 0
  AllKept = IsAllKept store cmp IsTableOf

  -- so a crash leaves a store with the same contents
  pub kept_stays : (files left : Files) (contents : Contents) → AllKept files contents
      → FilesCrashTo files left → IsStore store cmp IsTableOf left contents
  kept_stays files left contents k leaves =
      let m = k.managed in
      inr (record {
        edits = m.edits;
        has_edits = edits_left store files left m.edits m.has_edits k.current k.manifest leaves;
        managed =
            managed_on store cmp IsTableOf files left m.edits contents
            (same_left store (live_after m.edits) files left k.kept leaves) m.managed;
      })

  -- and they are safe with all that they carry
  pub kept_safe :
      (allowed : Store → Type 0) (bound : ℕ) (history : History) (files : Files)
      (contents : Contents) → AllKept files contents
      → MatchesHistory allowed bound contents history
      → IsSafe store (IsStore store cmp IsTableOf) allowed bound (length history) history files
  kept_safe allowed bound history files contents kept matches left leaves honest = record {
    part = history;
    prefix = record {
      count = length history;
      enough = omega arith;
      there = omega arith;
      first = sym (take_all (length history) history (omega arith));
    };
    carries = record {
      contents = contents;
      read = kept_stays files left contents kept leaves;
      matches = matches;
    };
  }

  -- so the files hold it, up to the greatest number that their contents know of
  pub kept_holds :
      (allowed : Store → Type 0) (bound : ℕ) (history : History) (files : Files)
      (contents : Contents) → AllKept files contents
      → MatchesHistory allowed bound contents history
      → Holds store (IsStore store cmp IsTableOf) allowed files history contents.last
      (length history) None
  kept_holds allowed bound history files contents kept t =
      let matches : MatchesHistory allowed (contents.last + 0) contents history =
      record {
        same = t.same;
        up_to = t.up_to;
        reached = t.reached;
        bounded = omega arith;
        store = t.store;
      } in
      record {
        now = inl (record { contents = contents; read = inr kept.managed; matches = matches });
        crash = kept_safe allowed (contents.last + 0) history files contents kept matches;
      }
