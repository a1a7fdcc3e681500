-- An edit that is appended to the manifest: the files carry what they carried.
use Rattle.leveldb_base.proofs.NamesLemmas.{made_name}
use Rattle.leveldb_base.specs.History.{History}
use Rattle.leveldb_base.specs.Names.{file_name}
use Rattle.leveldb_base.specs.Types.{Pair}
use Rattle.leveldb_base.specs.declared.types.FileType.TheVariants.{Current, Descriptor}
use Rattle.leveldb_env.proofs.EnvLemmas.{SameBut-appending, extended-same}
use Rattle.leveldb_env.specs.Env.{Files, PrefixAppended, bytes_of, extended, in_folder, longer_file}
use Rattle.leveldb_mem.proofs.LawsLemmas.{log_laws}
use Rattle.leveldb_mem.specs.Log.{End, IsLogFile, frame_at}
use Rattle.leveldb_files.proofs.Stores.BatchesLemmas.{each_more}
use Rattle.leveldb_files.proofs.Histories.HonestCrashLemmas.{all_honest, all_kept, all_leaves, all_same}
use Rattle.leveldb_files.proofs.Stores.ManagedLemmas.{SameFor, kinds_apart, managed_on, same_for_others}
use Rattle.leveldb_files.proofs.Stores.ManifestLemmas.{has_edits}
use Rattle.leveldb_files.proofs.Histories.MatchesLemmas.{matches_refined}
use Rattle.leveldb_files.specs.Stores.Contents.{Contents, Store}
use Rattle.leveldb_files.specs.Histories.Holds.{Carries, MatchesHistory}
use Rattle.leveldb_files.specs.Stores.Paths.{current_path, table_path}
use Rattle.leveldb_files.specs.Stores.Store.{IsManaged, IsManagedBy, IsStore}
use Rattle.leveldb_files.specs.Steps.StoreSteps.{EditRefines, EditsRefine, AppendedAreBytes, IsManifestOpen, Refines}
use Rattle.leveldb_files.specs.Edits.Edit.{Edit, IsEdit}
use Rattle.leveldb_files.specs.Edits.VersionSet.{FileSet, live_after}
use Rattle.std.proofs.Common.{◌++◌, ◌<◌, ◌∙◌, ◌∷◌, ◌≡◌, ◌≤◌, ◌⊎◌, List, Some, [], append_assoc, inl, inr, length, refl, subst, sym, take, ℕ, ⊎_elim}
use Rattle.std.specs.Prelude.{◌≢◌}
use Rattle.std.specs.declared.cmp.Ordering.{Ordering}

module _ (store : List ℕ) (cmp : List ℕ → List ℕ → Ordering)
    (IsTableOf : List ℕ → List Pair → Type 0) where
  -- edits that refine others after each crash do so now
  pub refine_now : (bound : ℕ) (files : Files) (edits others : List Edit) (contents : Contents)
      → AppendedAreBytes files → EditsRefine store cmp IsTableOf bound files edits others
      → contents.last ≤ bound
      → IsManagedBy store cmp IsTableOf files edits contents
      → (now : Contents) × IsManagedBy store cmp IsTableOf files others now
      × Refines bound contents now
  refine_now bound files edits others contents bytes refines most m =
      let there = managed_on store cmp IsTableOf files (all_kept files) edits contents
      (to (live_after edits)) m in
      let found = refines (all_kept files) contents (all_leaves files bytes)
      (all_honest store files) most there in (
        found.0,
        managed_on store cmp IsTableOf (all_kept files) files others found.0
            (from (live_after others)) found.1,
        found.2,
      )
    where
      to : (set : FileSet) → SameFor store set files (all_kept files)
      to set =
          record {
            tables = λ file fits live. all_same (files (table_path store file.number));
            logs = λ name n is replayed. all_same (files (in_folder store name));
          }

      from : (set : FileSet) → SameFor store set (all_kept files) files
      from set =
          record {
            tables = λ file fits live. sym (all_same (files (table_path store file.number)));
            logs = λ name n is replayed. sym (all_same (files (in_folder store name)));
          }

  abbrev reads : Files → Contents → Type 0
  reads = IsStore store cmp IsTableOf

  module _ (files : Files) (edits : List Edit) (m : IsManifestOpen store files edits)
      (bytes : AppendedAreBytes files) (allowed : Store → Type 0) (bound : ℕ) (history : History)
      (contents : Contents)
      (managed : IsManagedBy store cmp IsTableOf files edits contents)
      (matches : MatchesHistory allowed bound contents history)
      (text : List ℕ)
      (some : text ≢ []) (edit : Edit) (is_edit : IsEdit text edit)
      (keeps : EditRefines store cmp IsTableOf bound files edits edit) where
    abbrev path : List ℕ
    path = in_folder store m.has_edits.name

    abbrev frame : List ℕ
    frame = frame_at (length (bytes_of m.has_edits.manifest)) text

    abbrev longer : ℕ → Files
    longer n = extended path (take n frame) files

    -- the contents with the edit
    pub then : (now : Contents) × IsManagedBy store cmp IsTableOf files (edits ++ edit ∷ []) now
        × Refines bound contents now
    then = refine_now bound files edits
        (edits ++ edit ∷ []) contents bytes keeps matches.bounded managed

    on : (n : ℕ) (es : List Edit) (c : Contents) → IsManagedBy store cmp IsTableOf files es c
        → IsManagedBy store cmp IsTableOf (longer n) es c
    on n es c is = managed_on store cmp IsTableOf files (longer n) es c
        (same_for_others store cmp IsTableOf (live_after es) m.has_edits.name m.has_edits.number Descriptor files
        (longer n) m.has_edits.named.0 (λ e. cc) (λ e. cc)
        (SameBut-appending path frame files (longer n) (inr (n, refl)))) is

    current_there : (n : ℕ) → longer n (current_path store) ≡ Some m.has_edits.current
    current_there n =
        SameBut-appending path frame files (longer n) (inr (n, refl)) (current_path store)
        (kinds_apart store m.has_edits.name (file_name Current 0) m.has_edits.number 0 Descriptor Current m.has_edits.named.0
        (made_name Current 0 refl) (λ e. cc)) ∙ m.has_edits.current_there

    -- with any part of the frame the files are the store by the old edits, or by these and the new
    -- one
    pub is_either : (n : ℕ)
        → IsManaged store cmp IsTableOf (longer n) contents
        ⊎ IsManaged store cmp IsTableOf (longer n) then.0
    is_either n = ⊎_elim
        (λ (none : part.0 ≡ m.has_edits.is.records). inl
        (record {
          edits = edits;
          has_edits =
              has_edits store cmp IsTableOf m.has_edits.name m.has_edits.number m.has_edits.current m.has_edits.named (longer n)
              (longer_file (take n frame) m.has_edits.manifest) m.has_edits.is.records part.1 edits (current_there n)
              (extended-same path (take n frame) files m.has_edits.manifest m.has_edits.there)
              (subst
              (λ rs. IsLogFile (bytes_of (longer_file (take n frame) m.has_edits.manifest)) rs part.1) none read)
              m.has_edits.is.each;
          managed = on n edits contents managed;
        }))
        (λ (more : part.0 ≡ m.has_edits.is.records ++ text ∷ []). inr
        (record {
          edits = edits ++ edit ∷ [];
          has_edits =
              has_edits store cmp IsTableOf m.has_edits.name m.has_edits.number m.has_edits.current m.has_edits.named (longer n)
              (longer_file (take n frame) m.has_edits.manifest) (m.has_edits.is.records ++ text ∷ []) part.1
              (edits ++ edit ∷ []) (current_there n)
              (extended-same path (take n frame) files m.has_edits.manifest m.has_edits.there)
              (subst
              (λ rs. IsLogFile (bytes_of (longer_file (take n frame) m.has_edits.manifest)) rs part.1) more read)
              (each_more IsEdit m.has_edits.is.records edits text edit m.has_edits.is.each is_edit);
          managed = on n (edits ++ edit ∷ []) then.0 then.1;
        }))
        part.3
      where
        part : (found : List (List ℕ)) × (e : End)
            × IsLogFile (bytes_of m.has_edits.manifest ++ take n frame) found e
            × ((found ≡ m.has_edits.is.records) ⊎ (found ≡ m.has_edits.is.records ++ text ∷ []))
            × (n < length frame → found ≡ m.has_edits.is.records)
        part = log_laws.part (bytes_of m.has_edits.manifest) m.has_edits.is.records text n some m.clean_end

        read : IsLogFile (bytes_of (longer_file (take n frame) m.has_edits.manifest)) part.0 part.1
        read = subst (λ b. IsLogFile b part.0 part.1)
            (append_assoc m.has_edits.manifest.kept m.has_edits.manifest.since (take n frame)) part.2

    -- so they carry what they carried
    pub edit_carries : (now : Files) → PrefixAppended path frame files now
        → Carries store reads allowed bound history now
    edit_carries now (inl is) = record {
      contents = contents;
      read = subst (λ f. reads f contents) (sym is)
          (inr
          (record {
            edits = edits;
            has_edits =
                has_edits store cmp IsTableOf m.has_edits.name m.has_edits.number m.has_edits.current m.has_edits.named files m.has_edits.manifest
                m.has_edits.is.records _ edits m.has_edits.current_there m.has_edits.there m.clean_end m.has_edits.is.each;
            managed = managed;
          }));
      matches = matches;
    }
    edit_carries now (inr part) = ⊎_elim
        (λ (same : IsManaged store cmp IsTableOf (longer part.0) contents). record {
          contents = contents;
          read = subst (λ f. reads f contents) (sym part.1) (inr same);
          matches = matches;
        })
        (λ (more : IsManaged store cmp IsTableOf (longer part.0) then.0). record {
          contents = then.0;
          read = subst (λ f. reads f then.0) (sym part.1) (inr more);
          matches = matches_refined allowed bound contents then.0 history then.2 matches;
        })
        (is_either part.0)
