-- An edit that is appended to the manifest: with any part of its frame the files are safe.
use Rattle.leveldb_base.proofs.NamesLemmas.{made_name}
use Rattle.leveldb_base.specs.History.{History}
use Rattle.leveldb_base.specs.Names.{file_name}
use Rattle.leveldb_base.specs.Types.{Pair}
use Rattle.leveldb_base.specs.declared.types.FileType.TheVariants.{Current, Descriptor}
use Rattle.leveldb_env.proofs.AppendedLemmas.{bytes_take}
use Rattle.leveldb_env.proofs.EnvLemmas.{SameBut-appending, at_other, at_same, extended-same}
use Rattle.leveldb_env.specs.Env.{AreBytes, File, FileCrashesTo, Files, FilesCrashTo, PrefixAppended, SameBut, bytes_of, extended, in_folder, kept_file, longer_file, with_file}
use Rattle.leveldb_mem.proofs.LawsLemmas.{cut_reads, each_reads, log_laws, usual_size}
use Rattle.leveldb_mem.specs.Laws.{AreFirst}
use Rattle.leveldb_mem.specs.Log.{End, HonestTail, IsLogFile, clean, frame_at, log_block_size}
use Rattle.leveldb_files.proofs.Stores.BatchesLemmas.{each_more, each_one}
use Rattle.leveldb_files.proofs.Stores.ManagedLemmas.{kinds_apart, managed_on, same_for_others}
use Rattle.leveldb_files.proofs.Stores.ManifestLemmas.{IsLeftWhole, has_edits, left_whole, read_by}
use Rattle.leveldb_files.proofs.Histories.MatchesLemmas.{matches_refined}
use Rattle.leveldb_files.proofs.Histories.SafeLemmas.{Honest, front_honest, honest_with, leaves_with}
use Rattle.leveldb_files.proofs.Edits.EditLemmas.{one_edit}
use Rattle.leveldb_files.specs.Stores.Contents.{Contents, Store}
use Rattle.leveldb_files.specs.Edits.Current.{IsCurrentText}
use Rattle.leveldb_files.specs.Histories.Holds.{CarriesPrefix, IsHonest, IsSafe}
use Rattle.leveldb_files.specs.Stores.Paths.{current_path}
use Rattle.leveldb_files.specs.Stores.Store.{IsManagedBy, IsStore}
use Rattle.leveldb_files.specs.Steps.StoreSteps.{EditRefines, IsManifestOpen}
use Rattle.leveldb_files.specs.Edits.Edit.{Edit, IsEdit}
use Rattle.leveldb_files.specs.Edits.VersionSet.{live_after}
use Rattle.std.proofs.Common.{◌++◌, ◌<◌, ◌∙◌, ◌∷◌, ◌≡◌, ◌≤◌, ◌⊎◌, List, Some, [], ap, append-nil, append_assoc, arith, drop, false, inl, inr, length, length-append, refl, subst, sym, take, true, ℕ, ⊎_elim}
use Rattle.std.proofs.lemmas.Bool.{cases_lt}
use Rattle.std.proofs.lemmas.List.{length-take, take-append-drop, take-append-le, take_all}
use Rattle.std.specs.Prelude.{◌≢◌}
use Rattle.std.specs.Str.{bytes_eq}
use Rattle.std.specs.declared.cmp.Ordering.{Ordering}

module _ (store : List ℕ) (cmp : List ℕ → List ℕ → Ordering)
    (IsTableOf : List ℕ → List Pair → Type 0) where
  abbrev reads : Files → Contents → Type 0
  reads = IsStore store cmp IsTableOf

  module _ (files : Files) (edits : List Edit) (m : IsManifestOpen store files edits)
      (since : AreBytes m.has_edits.manifest.since) (allowed : Store → Type 0) (bound durable : ℕ)
      (history : History)
      (safe : IsSafe store reads allowed bound durable history files) (text : List ℕ)
      (some : text ≢ []) (edit : Edit) (is_edit : IsEdit text edit)
      (keeps : EditRefines store cmp IsTableOf bound files edits edit) where
    abbrev path : List ℕ
    path = in_folder store m.has_edits.name

    abbrev frame : List ℕ
    frame = frame_at (length (bytes_of m.has_edits.manifest)) text

    abbrev longer : ℕ → Files
    longer n = extended path (take n frame) files

    module _ (n : ℕ) (left : Files) (leaves : FilesCrashTo (longer n) left)
        (honest : IsHonest store (longer n) left) where
      same : SameBut path files (longer n)
      same = SameBut-appending path frame files (longer n) (inr (n, refl))

      abbrev grown : File
      grown = longer_file (take n frame) m.has_edits.manifest

      there_then : longer n path ≡ Some grown
      there_then = extended-same path (take n frame) files m.has_edits.manifest m.has_edits.there

      manifest_left : FileCrashesTo (Some grown) (left path)
      manifest_left = subst (λ f. FileCrashesTo f (left path)) there_then (leaves path)

      abbrev tail : List ℕ
      tail = manifest_left.0

      abbrev found_file : File
      found_file = kept_file (m.has_edits.manifest.kept ++ tail)

      found_there : left path ≡ Some found_file
      found_there = manifest_left.3

      apart : bytes_eq path (current_path store) ≡ false
      apart = kinds_apart store m.has_edits.name (file_name Current 0) m.has_edits.number 0 Descriptor Current m.has_edits.named.0
          (made_name Current 0 refl) (λ e. cc)

      current_left : IsLeftWhole m.has_edits.current (left (current_path store))
      current_left = left_whole m.has_edits.current (left (current_path store)) m.current_kept
          (subst (λ f. FileCrashesTo f (left (current_path store)))
          (same (current_path store) apart ∙ m.has_edits.current_there) (leaves (current_path store)))

      named_left : IsCurrentText (bytes_of current_left.now) m.has_edits.name m.has_edits.number
      named_left = subst (λ b. IsCurrentText b m.has_edits.name m.has_edits.number) (sym current_left.bytes) m.has_edits.named

      -- what a crash before the append leaves, with the first k of the bytes appended since
      abbrev before : ℕ → Files
      before k = with_file path (Some (kept_file (m.has_edits.manifest.kept ++ take k m.has_edits.manifest.since))) left

      before_there : (k : ℕ) → before k path ≡ Some (kept_file (m.has_edits.manifest.kept ++ take k m.has_edits.manifest.since))
      before_there k = at_same path (Some (kept_file (m.has_edits.manifest.kept ++ take k m.has_edits.manifest.since))) left

      before_leaves : (k : ℕ) → FilesCrashTo files (before k)
      before_leaves k =
          leaves_with path files (longer n) left
          (Some (kept_file (m.has_edits.manifest.kept ++ take k m.has_edits.manifest.since))) same leaves
          (subst (λ f. FileCrashesTo f (Some (kept_file (m.has_edits.manifest.kept ++ take k m.has_edits.manifest.since))))
          (sym m.has_edits.there) (
            take k m.has_edits.manifest.since,
            bytes_take k m.has_edits.manifest.since since,
            omega (arith, length-take k m.has_edits.manifest.since),
            refl,
          ))

      before_honest : (k : ℕ) → IsHonest store files (before k)
      before_honest k =
          honest_with store path files (longer n) left
          (Some (kept_file (m.has_edits.manifest.kept ++ take k m.has_edits.manifest.since))) same honest
          (subst (λ f. Honest f (Some (kept_file (m.has_edits.manifest.kept ++ take k m.has_edits.manifest.since))))
          (sym m.has_edits.there)
          (front_honest m.has_edits.manifest (take k m.has_edits.manifest.since) (drop k m.has_edits.manifest.since)
          (sym (take-append-drop k m.has_edits.manifest.since))))

      back : (k : ℕ) (edits : List Edit) (contents : Contents)
          → IsManagedBy store cmp IsTableOf (before k) edits contents
          → IsManagedBy store cmp IsTableOf left edits contents
      back k es contents managed = managed_on store cmp IsTableOf (before k) left es contents
          (same_for_others store cmp IsTableOf (live_after es) m.has_edits.name m.has_edits.number Descriptor
          (before k) left m.has_edits.named.0 (λ e. cc) (λ e. cc)
          (λ other away.
          sym (at_other path
          (Some (kept_file (m.has_edits.manifest.kept ++ take k m.has_edits.manifest.since))) left other away))) managed

      -- the first records are left, without the edit
      fewer : (count k : ℕ) (e1 e2 : End)
          → IsLogFile (m.has_edits.manifest.kept ++ take k m.has_edits.manifest.since) (take count m.has_edits.is.records) e1
          → IsLogFile (bytes_of found_file) (take count m.has_edits.is.records) e2
          → CarriesPrefix store reads allowed bound durable history left
      fewer count k e1 e2 read found =
          let c = safe (before k) (before_leaves k) (before_honest k) in
          let by =
          read_by store cmp IsTableOf m.has_edits.name m.has_edits.number current_left.now named_left (before k)
          (kept_file (m.has_edits.manifest.kept ++ take k m.has_edits.manifest.since))
          (take count m.has_edits.is.records) e1 c.carries.contents
          (at_other path (Some (kept_file (m.has_edits.manifest.kept ++ take k m.has_edits.manifest.since))) left
          (current_path store) apart ∙ current_left.there) (before_there k)
          (subst (λ b. IsLogFile b (take count m.has_edits.is.records) e1)
          (sym (append-nil (m.has_edits.manifest.kept ++ take k m.has_edits.manifest.since))) read) c.carries.read in
          record {
            part = c.part;
            prefix = c.prefix;
            carries = record {
              contents = c.carries.contents;
              read = inr (record {
                edits = by.edits;
                has_edits =
                    has_edits store cmp IsTableOf m.has_edits.name m.has_edits.number current_left.now named_left left
                    found_file
                    (take count m.has_edits.is.records) e2 by.edits current_left.there found_there found by.each;
                managed = back k by.edits c.carries.contents by.managed;
              });
              matches = c.carries.matches;
            };
          }

      -- the edit is left too
      all : (k : ℕ) (e1 e2 : End) → IsLogFile (m.has_edits.manifest.kept ++ take k m.has_edits.manifest.since) m.has_edits.is.records e1
          → IsLogFile (bytes_of found_file) (m.has_edits.is.records ++ text ∷ []) e2
          → CarriesPrefix store reads allowed bound durable history left
      all k e1 e2 read found =
          let c = safe (before k) (before_leaves k) (before_honest k) in
          let by =
          read_by store cmp IsTableOf m.has_edits.name m.has_edits.number current_left.now named_left (before k)
          (kept_file (m.has_edits.manifest.kept ++ take k m.has_edits.manifest.since)) m.has_edits.is.records e1 c.carries.contents
          (at_other path (Some (kept_file (m.has_edits.manifest.kept ++ take k m.has_edits.manifest.since))) left
          (current_path store) apart ∙ current_left.there) (before_there k)
          (subst (λ b. IsLogFile b m.has_edits.is.records e1)
          (sym (append-nil (m.has_edits.manifest.kept ++ take k m.has_edits.manifest.since))) read) c.carries.read in
          let same_edits : by.edits
          ≡ edits =
          each_one IsEdit
          (λ t x y p q. one_edit t x y p q) m.has_edits.is.records by.edits edits by.each m.has_edits.is.each in
          let now = keeps (before k) c.carries.contents (before_leaves k)
          (before_honest k) c.carries.matches.bounded
          (subst
          (λ es. IsManagedBy store cmp IsTableOf (before k) es c.carries.contents) same_edits
          by.managed) in
          record {
            part = c.part;
            prefix = c.prefix;
            carries = record {
              contents = now.0;
              read = inr (record {
                edits = edits ++ edit ∷ [];
                has_edits =
                    has_edits store cmp IsTableOf m.has_edits.name m.has_edits.number current_left.now named_left left
                    found_file
                    (m.has_edits.is.records ++ text ∷ []) e2
                    (edits ++ edit ∷ []) current_left.there found_there found
                    (each_more IsEdit m.has_edits.is.records edits text edit m.has_edits.is.each is_edit);
                managed = back k (edits ++ edit ∷ []) now.0 now.1;
              });
              matches =
                  matches_refined allowed bound c.carries.contents now.0 c.part now.2
                  c.carries.matches;
            };
          }

      regrouped : bytes_of grown ≡ bytes_of m.has_edits.manifest ++ take n frame
      regrouped = sym (append_assoc m.has_edits.manifest.kept m.has_edits.manifest.since (take n frame))

      grown_safe : CarriesPrefix store reads allowed bound durable history left
      grown_safe = from
          (log_laws.torn m.has_edits.manifest.kept m.has_edits.manifest.since tail first.0 m.has_edits.is.records written.0 text n first.1
          written.1 some first.2 m.clean_end written_read no_longer honest_here)
        where
          first : (records : List (List ℕ)) × (end : End) × IsLogFile m.has_edits.manifest.kept records end
          first = each_reads true log_block_size 0 m.has_edits.manifest.kept usual_size

          written : (found : List (List ℕ)) × (e : End)
              × IsLogFile (bytes_of m.has_edits.manifest ++ take n frame) found e
              × ((found ≡ m.has_edits.is.records) ⊎ (found ≡ m.has_edits.is.records ++ text ∷ []))
              × (n < length frame → found ≡ m.has_edits.is.records)
          written = log_laws.part (bytes_of m.has_edits.manifest) m.has_edits.is.records text n some m.clean_end

          written_read : IsLogFile (m.has_edits.manifest.kept ++ m.has_edits.manifest.since ++ take n frame) written.0 written.1
          written_read = written.2

          no_longer :
              length (m.has_edits.manifest.kept ++ tail) ≤ length (m.has_edits.manifest.kept ++ m.has_edits.manifest.since ++ take n frame)
          no_longer = let e = ap length regrouped in
              omega (
                arith,
                manifest_left.2,
                e,
                length-append m.has_edits.manifest.kept tail,
                length-append m.has_edits.manifest.kept (m.has_edits.manifest.since ++ take n frame),
              )

          honest_here :
              HonestTail log_block_size (m.has_edits.manifest.kept ++ m.has_edits.manifest.since ++ take n frame)
              (m.has_edits.manifest.kept ++ tail)
          honest_here = subst (λ b. HonestTail log_block_size b (m.has_edits.manifest.kept ++ tail)) regrouped
              (subst (λ b. HonestTail log_block_size (bytes_of grown) b)
              (append-nil (m.has_edits.manifest.kept ++ tail))
              (honest path grown found_file
              (inr (m.has_edits.name, m.has_edits.number, m.has_edits.named.0, refl)) there_then found_there))

          low_first : length first.0 ≤ length m.has_edits.is.records
          low_first = let a =
              cut_reads true log_block_size 0 m.has_edits.manifest.kept m.has_edits.manifest.since [] first.0 m.has_edits.is.records
              m.has_edits.is.records first.1 clean clean usual_size first.2 m.clean_end
              (subst (λ b. IsLogFile b m.has_edits.is.records clean)
              (sym (append-nil (m.has_edits.manifest.kept ++ m.has_edits.manifest.since))) m.clean_end) in
              omega (arith, a.enough, a.there)

          from : (found : List (List ℕ)) × (e : End) × IsLogFile (m.has_edits.manifest.kept ++ tail) found e
              × AreFirst (length first.0) written.0 found
              → CarriesPrefix store reads allowed bound durable history left
          from (found, e, read, some_of) = ⊎_elim none one written.3
            where
              here : (records : List (List ℕ)) → found ≡ records
                  → IsLogFile (bytes_of found_file) records e
              here records same_records =
                  subst (λ b. IsLogFile b records e) (sym (append-nil (m.has_edits.manifest.kept ++ tail)))
                  (subst (λ rs. IsLogFile (m.has_edits.manifest.kept ++ tail) rs e) same_records read)

              few : (count : ℕ) → length first.0 ≤ count → count ≤ length m.has_edits.is.records
                  → found ≡ take count m.has_edits.is.records
                  → CarriesPrefix store reads allowed bound durable history left
              few count low high is =
                  let c = log_laws.cut m.has_edits.manifest.kept m.has_edits.manifest.since first.0 m.has_edits.is.records first.1 clean
                  count first.2 m.clean_end low high in
                  fewer count c.0 c.1 e c.2 (here (take count m.has_edits.is.records) is)

              whole : length first.0 ≤ length m.has_edits.is.records → found ≡ m.has_edits.is.records ++ text ∷ []
                  → CarriesPrefix store reads allowed bound durable history left
              whole low is =
                  let c = log_laws.cut m.has_edits.manifest.kept m.has_edits.manifest.since first.0 m.has_edits.is.records first.1 clean
                  (length m.has_edits.is.records) first.2 m.clean_end low (omega arith) in
                  all c.0 c.1 e
                  (subst (λ rs. IsLogFile (m.has_edits.manifest.kept ++ take c.0 m.has_edits.manifest.since) rs c.1)
                  (take_all (length m.has_edits.is.records) m.has_edits.is.records (omega arith)) c.2)
                  (here (m.has_edits.is.records ++ text ∷ []) is)

              none : written.0 ≡ m.has_edits.is.records
                  → CarriesPrefix store reads allowed bound durable history left
              none is =
                  let l = ap length is in
                  few some_of.count some_of.enough (omega (arith, some_of.there, l))
                  (some_of.first ∙ ap (take some_of.count) is)

              one : written.0 ≡ m.has_edits.is.records ++ text ∷ []
                  → CarriesPrefix store reads allowed bound durable history left
              one is =
                  let l = ap length is in
                  ⊎_elim (λ (past : length m.has_edits.is.records < some_of.count).
                  whole low_first
                  (some_of.first ∙ ap (take some_of.count) is
                  ∙ take_all some_of.count (m.has_edits.is.records ++ text ∷ [])
                  (omega (arith, past, length-append m.has_edits.is.records (text ∷ [])))))
                  (λ (within : some_of.count ≤ length m.has_edits.is.records).
                  few some_of.count some_of.enough within
                  (some_of.first ∙ ap (take some_of.count) is
                  ∙ take-append-le some_of.count m.has_edits.is.records (text ∷ []) within))
                  (cases_lt (length m.has_edits.is.records) some_of.count)

    -- with any part of the frame the files are safe
    pub append_safe : (now : Files) → PrefixAppended path frame files now
        → IsSafe store reads allowed bound durable history now
    append_safe now (inl is) =
        subst (IsSafe store reads allowed bound durable history) (sym is) safe
    append_safe now (inr part) =
        subst (IsSafe store reads allowed bound durable history) (sym part.1)
        (λ left leaves honest. grown_safe part.0 left leaves honest)
