-- A new manifest in place of the old one: a temporary file is renamed to `CURRENT`, and either side
-- is safe.
use Rattle.leveldb_files.proofs.Steps.EditNowLemmas.{refine_now}
use Rattle.leveldb_base.proofs.NamesLemmas.{made_name}
use Rattle.leveldb_base.specs.History.{History}
use Rattle.leveldb_base.specs.Names.{IsFileName, file_name}
use Rattle.leveldb_base.specs.Types.{Pair}
use Rattle.leveldb_base.specs.declared.types.FileType.TheVariants.{Current, Descriptor, Temp}
use Rattle.leveldb_env.proofs.EnvLemmas.{at_other, at_same, bytes_eq-sym, renamed-there}
use Rattle.leveldb_env.specs.Env.{AreBytes, BeforeOrAfter, FileCrashesTo, Files, FilesCrashTo, bytes_of, deleted, file_kept, in_folder, renamed, with_file}
use Rattle.leveldb_mem.specs.Log.{IsLogFile}
use Rattle.leveldb_files.proofs.Histories.HonestCrashLemmas.{whole_honest, whole_leaves}
use Rattle.leveldb_files.proofs.Stores.ManagedLemmas.{SameFor, kinds_apart, managed_on, same_for_others}
use Rattle.leveldb_files.proofs.Stores.ManifestLemmas.{left_whole, managed_of}
use Rattle.leveldb_files.proofs.Histories.MatchesLemmas.{matches_refined}
use Rattle.leveldb_files.proofs.Histories.SafeLemmas.{Honest, honest_with, leaves_with}
use Rattle.leveldb_files.specs.Stores.Contents.{Contents, Store}
use Rattle.leveldb_files.specs.Edits.Current.{IsCurrentText}
use Rattle.leveldb_files.specs.Histories.Holds.{Carries, CarriesPrefix, IsHonest, IsSafe}
use Rattle.leveldb_files.specs.Stores.Paths.{current_path}
use Rattle.leveldb_files.specs.Stores.Store.{HasEdits, IsStore}
use Rattle.leveldb_files.specs.Steps.StoreSteps.{EditsRefine, AppendedAreBytes, HasNextCurrent}
use Rattle.leveldb_files.specs.Edits.Edit.{Edit}
use Rattle.leveldb_files.specs.Edits.VersionSet.{FileSet, live_after}
use Rattle.std.proofs.Common.{◌∙◌, ◌≡◌, List, None, Some, append-nil, arith, false, inl, inr, refl, subst, sym, ℕ}
use Rattle.std.specs.Str.{bytes_eq}
use Rattle.std.specs.declared.cmp.Ordering.{Ordering}

module _ (store : List ℕ) (cmp : List ℕ → List ℕ → Ordering)
    (IsTableOf : List ℕ → List Pair → Type 0) where
  abbrev reads : Files → Contents → Type 0
  reads = IsStore store cmp IsTableOf

  -- files that differ in no table and no log
  same_trans : (set : FileSet) (a b c : Files) → SameFor store set a b → SameFor store set b c
      → SameFor store set a c
  same_trans set a b c p q = record {
    tables = λ file fits live. q.tables file fits live ∙ p.tables file fits live;
    logs = λ name n is replayed. q.logs name n is replayed ∙ p.logs name n is replayed;
  }

  -- The store has these edits, and another manifest is ready whose edits refine them.
  module _ (files : Files) (edits : List Edit) (e : HasEdits store files edits)
      (bytes : AppendedAreBytes files) (temp : List ℕ) (others : List Edit)
      (h : HasNextCurrent store files temp others) (allowed : Store → Type 0) (bound : ℕ)
      (refines : EditsRefine store cmp IsTableOf bound files edits others) where
    abbrev from : List ℕ
    from = in_folder store temp

    abbrev to : List ℕ
    to = current_path store

    abbrev old_path : List ℕ
    old_path = in_folder store e.name

    abbrev new_path : List ℕ
    new_path = in_folder store h.name

    abbrev moved_files : Files
    moved_files = with_file to (Some h.text) (deleted from files)

    current_named : IsFileName (file_name Current 0) 0 Current
    current_named = made_name Current 0 refl

    from_to : bytes_eq from to ≡ false
    from_to = kinds_apart store temp
        (file_name Current 0) h.temp_number 0 Temp Current h.temp_name current_named (λ d. cc)

    from_new : bytes_eq from new_path ≡ false
    from_new =
        kinds_apart store temp h.name h.temp_number h.number Temp Descriptor h.temp_name h.named.0
        (λ d. cc)

    to_new : bytes_eq to new_path ≡ false
    to_new = kinds_apart store
        (file_name Current 0) h.name 0 h.number Current Descriptor current_named h.named.0 (λ d. cc)

    to_from : bytes_eq to from ≡ false
    to_from = bytes_eq-sym to from ∙ from_to

    old_to : bytes_eq old_path to ≡ false
    old_to = kinds_apart store e.name
        (file_name Current 0) e.number 0 Descriptor Current e.named.0 current_named (λ d. cc)

    from_old : bytes_eq from old_path ≡ false
    from_old =
        kinds_apart store temp e.name h.temp_number e.number Temp Descriptor h.temp_name e.named.0
        (λ d. cc)

    module _ (left : Files) (leaves : FilesCrashTo moved_files left)
        (honest : IsHonest store moved_files left) where
      -- what a crash before leaves, with all bytes of `CURRENT`, of the temporary file and of the
      -- old manifest
      abbrev first : Files
      first = with_file to (Some (file_kept e.current)) left

      abbrev second : Files
      second = with_file from (Some (file_kept h.text)) first

      abbrev before : Files
      before = with_file old_path (Some (file_kept e.manifest)) second

      deleted_to : deleted from files to ≡ Some e.current
      deleted_to = at_other from None files to from_to ∙ e.current_there

      text_bytes : AreBytes h.text.since
      text_bytes = subst AreBytes (sym h.text_kept) (λ i. omega arith)

      first_leaves : FilesCrashTo (deleted from files) first
      first_leaves =
          leaves_with to (deleted from files) moved_files left (Some (file_kept e.current))
          (λ other away. at_other to (Some h.text) (deleted from files) other away) leaves
          (subst (λ f. FileCrashesTo f (Some (file_kept e.current))) (sym deleted_to)
          (whole_leaves e.current (bytes to e.current e.current_there)))

      first_honest : IsHonest store (deleted from files) first
      first_honest =
          honest_with store to (deleted from files) moved_files left (Some (file_kept e.current))
          (λ other away. at_other to (Some h.text) (deleted from files) other away) honest
          (subst (λ f. Honest f (Some (file_kept e.current))) (sym deleted_to)
          (whole_honest e.current))

      second_leaves : FilesCrashTo files second
      second_leaves = leaves_with from files (deleted from files) first (Some (file_kept h.text))
          (λ other away. at_other from None files other away) first_leaves
          (subst (λ f. FileCrashesTo f (Some (file_kept h.text))) (sym h.text_there)
          (whole_leaves h.text text_bytes))

      second_honest : IsHonest store files second
      second_honest =
          honest_with store from files (deleted from files) first (Some (file_kept h.text))
          (λ other away. at_other from None files other away) first_honest
          (subst (λ f. Honest f (Some (file_kept h.text))) (sym h.text_there) (whole_honest h.text))

      before_leaves : FilesCrashTo files before
      before_leaves = leaves_with old_path files files second (Some (file_kept e.manifest))
          (λ other away. refl) second_leaves
          (subst (λ f. FileCrashesTo f (Some (file_kept e.manifest))) (sym e.there)
          (whole_leaves e.manifest (bytes old_path e.manifest e.there)))

      before_honest : IsHonest store files before
      before_honest = honest_with store old_path files files second (Some (file_kept e.manifest))
          (λ other away. refl) second_honest
          (subst (λ f. Honest f (Some (file_kept e.manifest))) (sym e.there)
          (whole_honest e.manifest))

      before_edits : HasEdits store before edits
      before_edits = record {
        current = file_kept e.current;
        current_there = at_other old_path (Some (file_kept e.manifest)) second to old_to
            ∙ at_other from (Some (file_kept h.text)) first to from_to
            ∙ at_same to (Some (file_kept e.current)) left;
        name = e.name;
        number = e.number;
        named =
            subst (λ b. IsCurrentText b e.name e.number)
            (sym (append-nil (bytes_of e.current))) e.named;
        manifest = file_kept e.manifest;
        there = at_same old_path (Some (file_kept e.manifest)) second;
        is = record {
          records = e.is.records;
          end = e.is.end;
          read =
              subst (λ b. IsLogFile b e.is.records e.is.end)
              (sym (append-nil (bytes_of e.manifest))) e.is.read;
          each = e.is.each;
        };
      }

      -- no table and no log is another
      same_here : (set : FileSet) → SameFor store set before left
      same_here set = same_trans set before second left
          (same_for_others store cmp IsTableOf set e.name e.number Descriptor before second
          e.named.0 (λ d. cc) (λ d. cc)
          (λ other away.
          sym (at_other old_path (Some (file_kept e.manifest)) second other away)))
          (same_trans set second first left
          (same_for_others store cmp IsTableOf set temp h.temp_number Temp second first h.temp_name
          (λ d. cc) (λ d. cc)
          (λ other away. sym (at_other from (Some (file_kept h.text)) first other away)))
          (same_for_others store cmp IsTableOf set
          (file_name Current 0) 0 Current first left current_named (λ d. cc) (λ d. cc)
          (λ other away. sym (at_other to (Some (file_kept e.current)) left other away))))

      left_edits : HasEdits store left others
      left_edits = let c =
          left_whole h.text (left to) h.text_kept
          (subst (λ f. FileCrashesTo f (left to)) (at_same to (Some h.text) (deleted from files))
          (leaves to)) in
          let there = at_other to (Some h.text) (deleted from files) new_path to_new
          ∙ at_other from None files new_path from_new ∙ h.manifest_there in
          let m = left_whole h.manifest (left new_path) h.manifest_kept
          (subst (λ f. FileCrashesTo f (left new_path)) there (leaves new_path)) in
          record {
            current = c.now;
            current_there = c.there;
            name = h.name;
            number = h.number;
            named = subst (λ b. IsCurrentText b h.name h.number) (sym c.bytes) h.named;
            manifest = m.now;
            there = m.there;
            is = record {
              records = h.is.records;
              end = h.is.end;
              read = subst (λ b. IsLogFile b h.is.records h.is.end) (sym m.bytes) h.is.read;
              each = h.is.each;
            };
          }

      moved_safe : (durable : ℕ) (history : History)
          → IsSafe store reads allowed bound durable history files
          → CarriesPrefix store reads allowed bound durable history left
      moved_safe durable history safe =
          let c = safe before before_leaves before_honest in
          let managed = managed_of store cmp IsTableOf before edits c.carries.contents before_edits
          c.carries.read in
          let now = refines before c.carries.contents before_leaves before_honest
          c.carries.matches.bounded managed in
          record {
            part = c.part;
            prefix = c.prefix;
            carries = record {
              contents = now.0;
              read = inr (record {
                edits = others;
                has_edits = left_edits;
                managed =
                    managed_on store cmp IsTableOf before left others now.0
                    (same_here (live_after others)) now.1;
              });
              matches =
                  matches_refined allowed bound c.carries.contents now.0 c.part now.2
                  c.carries.matches;
            };
          }

    -- either side of the rename is safe
    pub renaming_safe : (durable : ℕ) (history : History)
        → IsSafe store reads allowed bound durable history files
        → (now : Files) → BeforeOrAfter (renamed from to) files now
        → IsSafe store reads allowed bound durable history now
    renaming_safe durable history safe now (inl same) =
        subst (IsSafe store reads allowed bound durable history) (sym same) safe
    renaming_safe durable history safe now (inr moved) =
        subst (IsSafe store reads allowed bound durable history)
        (sym (moved ∙ renamed-there from to files h.text h.text_there))
        (λ left leaves honest. moved_safe left leaves honest durable history safe)

    -- ---- what the files carry after it

    moved_edits : HasEdits store moved_files others
    moved_edits = record {
      current = h.text;
      current_there = at_same to (Some h.text) (deleted from files);
      name = h.name;
      number = h.number;
      named = h.named;
      manifest = h.manifest;
      there = at_other to (Some h.text) (deleted from files) new_path to_new
          ∙ at_other from None files new_path from_new ∙ h.manifest_there;
      is = h.is;
    }

    moved_same : (set : FileSet) → SameFor store set files moved_files
    moved_same set = same_trans set files (deleted from files) moved_files
        (same_for_others store cmp IsTableOf set temp h.temp_number Temp files
        (deleted from files) h.temp_name (λ d. cc) (λ d. cc)
        (λ other away. at_other from None files other away))
        (same_for_others store cmp IsTableOf set (file_name Current 0) 0 Current
        (deleted from files) moved_files current_named (λ d. cc) (λ d. cc)
        (λ other away. at_other to (Some h.text) (deleted from files) other away))

    moved_carries : (history : History) → Carries store reads allowed bound history files
        → Carries store reads allowed bound history moved_files
    moved_carries history c =
        let managed = managed_of store cmp IsTableOf files edits c.contents e c.read in
        let then = refine_now store cmp IsTableOf bound files edits others c.contents bytes
        refines c.matches.bounded managed in
        record {
          contents = then.0;
          read = inr (record {
            edits = others;
            has_edits = moved_edits;
            managed = managed_on store cmp IsTableOf files moved_files others then.0
                (moved_same (live_after others)) then.1;
          });
          matches = matches_refined allowed bound c.contents then.0 history then.2 c.matches;
        }

    pub rename_carries : (history : History) → Carries store reads allowed bound history files
        → (now : Files) → BeforeOrAfter (renamed from to) files now
        → Carries store reads allowed bound history now
    rename_carries history c now (inl same) =
        subst (Carries store reads allowed bound history) (sym same) c
    rename_carries history c now (inr moved) =
        subst (Carries store reads allowed bound history)
        (sym (moved ∙ renamed-there from to files h.text h.text_there)) (moved_carries history c)
