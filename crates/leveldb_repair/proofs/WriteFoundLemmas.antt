-- The tables to which what was found goes: they are a store's, all in level 1.
use Rattle.std.specs.Prelude.{All, IsTrue, Result}
use Rattle.std.proofs.Common.{◌≡◌, ◌∙◌, ℕ, List, [], ◌∷◌, ◌++◌, Ok, Err, refl, sym, ap, subst}
use Rattle.std.specs.declared.cmp.Ordering.{Ordering}
use Rattle.leveldb_base.proofs.EntriesLemmas.{in_map}
use Rattle.leveldb_base.specs.Cmp.{IsExactOrder}
use Rattle.leveldb_base.specs.Entries.{entries_of_pairs}
use Rattle.leveldb_base.specs.Types.{Pair}
use Rattle.leveldb_base.specs.declared.cmp.Cmp.{Ghosts as CmpGhosts}
use Rattle.leveldb_base.specs.declared.error.Status.{Status}
use Rattle.leveldb_base.specs.declared.types.FileMetaData.{FileMetaData}
use Rattle.leveldb_env.specs.declared.env.Env.{Ghosts as EnvGhosts}
use Rattle.leveldb_env.specs.declared.filter.FilterPolicy.{Ghosts as FilterGhosts}
use Rattle.leveldb_iter.specs.declared.walk.Walk.{Ghosts as WalkGhosts}
use Rattle.leveldb_version.proofs.Versions.PairwiseLemmas.{each_first}
use Rattle.leveldb_version.proofs.Versions.SearchLemmas.{all_from_contains}
use Rattle.leveldb_files.specs.Stores.Batches.{Each}
use Rattle.leveldb_files.specs.Stores.Format.{Agrees, IsTableOf, Meaning}
use Rattle.leveldb_files.specs.Levels.Levels.{LiveTable}
use Rattle.leveldb_version_set.specs.Engines.Opening.{FitsEdit}
use Rattle.leveldb_files.specs.Stores.Store.{IsInternalPair}
use Rattle.leveldb_version.specs.Edits.VersionEdit.{new_file_of}
use Rattle.leveldb_store.specs.Tables.BuildTable.{TableChoices}
use Rattle.leveldb_store.specs.Compactions.Merging.{MergesInto, MergesTables, all_pairs}
use Rattle.leveldb_store.proofs.Compactions.MergedFilesLemmas.{IsFinished, tables_finished}
use Rattle.leveldb_store.proofs.Compactions.MergedMadeLemmas.{BuildsForStore, each_output, entries_of_outputs, merged_outputs, outputs_apart, outputs_files, outputs_known}
use Rattle.leveldb_repair.specs.WriteFound.{AreLevelOne, HasWritten, WritesFound, files_of_level_one, merge_of_all}
use Rattle.leveldb_repair.proofs.NoneGoesLemmas.{all_left}

module _ {C FP : Type 0} {order : CmpGhosts C} {filters : FilterGhosts FP}
    (choices : TableChoices order filters) {E F : Type 0} (env : EnvGhosts E F) (store : List ℕ)
    (first : ℕ) (exact : IsExactOrder choices.format.order) (builds : BuildsForStore choices) where
  module _ {read : List Pair} {next : ℕ} {files : List FileMetaData} {to : E}
      (into : MergesInto (merge_of_all choices store) env first read next files to) where
    abbrev cmp : List ℕ → List ℕ → Ordering
    cmp = choices.format.order

    abbrev Is : FileMetaData → List Pair → Type 0
    Is = IsFinished choices env store to

    finished : Each Is files into.tables
    finished = tables_finished (merge_of_all choices store) env exact into

    all_read : all_pairs into.tables ≡ read
    all_read = into.left ∙ all_left read

    -- without a pair there is no table
    none_written : (them : List FileMetaData) (tables : List (List Pair)) → Each Is them tables
        → all_pairs tables ≡ [] → them ≡ []
    none_written [] tables each none = refl
    none_written (file ∷ them) [] each none = absurd each
    none_written (file ∷ them) (pairs ∷ tables) each none =
        let begins = each.0.is.smallest in
        absurd (some (begins.1 ++ all_pairs tables)
        (ap (λ ps. ps ++ all_pairs tables) (sym begins.2) ∙ none))
      where
        some : {pair : Pair} (rest : List Pair) → pair ∷ rest ≡ [] → ⊥
        some rest e = cc

    -- an edit may have them
    files_fit : All FitsEdit (files_of_level_one files)
    files_fit = all_from_contains FitsEdit (files_of_level_one files) (λ file there.
        let made = λ (f : FileMetaData). new_file_of (1, f) in
        let from = in_map made files file there in
        let its = each_first Is files into.tables from.0 finished from.1 in
        let fits : FitsEdit (made from.0) = record {
          number = its.2.number;
          size = its.2.size;
          smallest = its.2.smallest;
          largest = its.2.largest;
        } in
        subst FitsEdit from.2 fits)

    module _ (modelled : IsTrue env.models_disk) (meaning : Meaning)
        (agrees : Agrees choices.format meaning)
        (internal : Each IsInternalPair read (entries_of_pairs read)) where
      abbrev live : List LiveTable
      live = merged_outputs (merge_of_all choices store) env exact builds modelled meaning agrees
          into internal 0

      live_level_one : AreLevelOne store cmp (IsTableOf cmp meaning) (env.observed to).disk.files live
      live_level_one = record {
        each = each_output (merge_of_all choices store) env exact builds modelled meaning agrees
            into internal 0;
        known = λ a b a_there b_there levels numbers. outputs_known 1 Is first next files
            into.tables finished into.are_tables.numbers a b a_there b_there numbers;
        apart = outputs_apart (merge_of_all choices store) env exact builds modelled meaning agrees
            into internal 0;
      }

    pub written : HasWritten choices env store first read next files to
    written = record {
      tagged = into.are_read.tagged;
      rising = into.are_read.rising;
      tables = into.tables;
      are_tables = into.are_tables;
      all = all_read;
      none = λ is. none_written files into.tables finished (all_read ∙ is);
      fit = files_fit;
      live = λ modelled meaning agrees internal. (
        live modelled meaning agrees internal,
        live_level_one modelled meaning agrees internal,
        outputs_files (merge_of_all choices store) env exact builds modelled meaning agrees into
            internal 0,
        entries_of_outputs 1 Is files into.tables finished ∙ ap entries_of_pairs all_read,
      );
    }

  -- what merging does so is what writing all does
  pub all_written : {T W X : Type 0} (walk : WalkGhosts W E T) (items : X → List FileMetaData)
      {start : E × T} {it : W} (result : Result X Status) {later : ℕ} {end : E × T}
      → MergesTables (merge_of_all choices store) env first walk items start it result later end
      → WritesFound choices env store first walk items start it result later end
  all_written walk items (Ok files) merged = record {
    ok = (merged.ok.0, written merged.ok.1, merged.ok.2);
    changes = merged.changes;
    few = merged.few;
    parts = merged.parts;
    comes = merged.comes;
    cause = tt;
  }
  all_written walk items (Err status) merged = record {
    ok = tt;
    changes = merged.changes;
    few = merged.few;
    parts = merged.parts;
    comes = merged.comes;
    cause = merged.cause;
  }
