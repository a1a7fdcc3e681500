-- A batch that is appended to the last log: the files hold it as pending at each moment of the
-- append, and have it after the whole of it.
use Rattle.leveldb_base.proofs.NamesLemmas.{made_name}
use Rattle.leveldb_base.specs.History.{Entry, History, Item, placed}
use Rattle.leveldb_base.specs.KeyTypes.{greatest_sequence}
use Rattle.leveldb_base.specs.Names.{IsFileName, file_name}
use Rattle.leveldb_base.specs.Types.{Pair}
use Rattle.leveldb_base.specs.declared.types.FileType.TheVariants.{Current, Descriptor, Log}
use Rattle.leveldb_env.proofs.EnvLemmas.{SameBut-appending, extended-same}
use Rattle.leveldb_env.specs.Env.{AreBytes, Files, PrefixAppended, bytes_of, extended, in_folder, longer_file}
use Rattle.leveldb_mem.proofs.LawsLemmas.{log_laws}
use Rattle.leveldb_mem.specs.Log.{End, IsLogFile, clean, frame_at}
use Rattle.leveldb_mem.specs.WriteBatch.{BatchOf, batch_of}
use Rattle.leveldb_files.proofs.Steps.BatchCrashLemmas.{grown_safe}
use Rattle.leveldb_files.proofs.Histories.BatchMatchesLemmas.{batch_some, matches_batch}
use Rattle.leveldb_files.proofs.Stores.BatchesLemmas.{each_more}
use Rattle.leveldb_files.proofs.Stores.LastLogLemmas.{with_batches, with_more, with_none}
use Rattle.leveldb_files.proofs.Stores.ManagedLemmas.{kinds_apart}
use Rattle.leveldb_files.proofs.Stores.ManifestLemmas.{edits_on}
use Rattle.leveldb_files.proofs.Histories.NumbersLemmas.{placed_greatest, placed_length}
use Rattle.leveldb_files.specs.Stores.Batches.{Each, IsRecordOf}
use Rattle.leveldb_files.specs.Stores.Contents.{Contents, Store}
use Rattle.leveldb_files.specs.Histories.Holds.{Carries, Holds, IsSafe, MatchesHistory}
use Rattle.leveldb_files.specs.Stores.Paths.{current_path, log_path}
use Rattle.leveldb_files.specs.Stores.Store.{HasEdits, IsManaged, IsManagedBy, IsStore, ReplayedLog}
use Rattle.leveldb_files.specs.Steps.StoreSteps.{IsLogOpen, TablesAreKept}
use Rattle.leveldb_files.specs.Edits.VersionSet.{live_after}
use Rattle.std.proofs.Common.{◌++◌, ◌+◌, ◌<◌, ◌∙◌, ◌∷◌, ◌≡◌, ◌≤◌, ◌⊎◌, List, None, Some, [], ap, append-nil, append_assoc, arith, false, inl, inr, length, length-append, refl, subst, sym, take, ℕ, ⊎_elim}
use Rattle.std.proofs.lemmas.List.{take-append-le, take_all}
use Rattle.std.specs.Prelude.{◌≢◌, Contains}
use Rattle.std.specs.Str.{bytes_eq}
use Rattle.std.specs.declared.cmp.Ordering.{Ordering}

module _ (store : List ℕ) (cmp : List ℕ → List ℕ → Ordering)
    (IsTableOf : List ℕ → List Pair → Type 0) where
  abbrev reads : Files → Contents → Type 0
  reads = IsStore store cmp IsTableOf

  module _ (files : Files) (contents : Contents) (m : IsManaged store cmp IsTableOf files contents)
      (current_kept : m.has_edits.current.since ≡ [])
      (manifest_kept : m.has_edits.manifest.since ≡ [])
      (tables_kept : TablesAreKept store files (live_after m.edits))
      (log : IsLogOpen store files (live_after m.edits)) (since : AreBytes log.file.since)
      (allowed : Store → Type 0) (last durable : ℕ) (history : History)
      (matches : MatchesHistory allowed last contents history)
      (safe : IsSafe store reads allowed last durable history files)
      (durable_there : durable ≤ length history)
      (items : List Item) (text : List ℕ) (is_batch : BatchOf text (last + 1) items)
      (first_fits : last + 1 ≤ greatest_sequence)
      (all_fit : last + length items ≤ greatest_sequence) where
    abbrev path : List ℕ
    path = log_path store log.number

    abbrev frame : List ℕ
    frame = frame_at (length (bytes_of log.file)) text

    abbrev longer : ℕ → Files
    longer n = extended path (take n frame) files

    abbrev batch : List Entry
    batch = placed (last + 1) items

    abbrev more_history : History
    more_history = history ++ batch ∷ []

    abbrev bound : ℕ
    bound = last + length items

    some : text ≢ []
    some = batch_some text (last + 1) items is_batch

    named : IsFileName (file_name Log log.number) log.number Log
    named = made_name Log log.number log.fits

    no_current : bytes_eq path (current_path store) ≡ false
    no_current = kinds_apart store (file_name Log log.number)
        (file_name Current 0) log.number 0 Log Current named (made_name Current 0 refl) (λ e. cc)

    not_manifest : (name : List ℕ) (n : ℕ) → IsFileName name n Descriptor
        → bytes_eq path (in_folder store name) ≡ false
    not_manifest name n is =
        kinds_apart store (file_name Log log.number) name log.number n Log Descriptor named is
        (λ e. cc)

    -- with any part of the frame the files are safe, the batch being at risk
    pub append_safe : (now : Files) → PrefixAppended path frame files now
        → IsSafe store reads allowed bound durable more_history now
    append_safe now (inl is) =
        subst (IsSafe store reads allowed bound durable more_history) (sym is)
        (λ left leaves honest.
        let c = safe left leaves honest in
        record {
          part = c.part;
          prefix = record {
            count = c.prefix.count;
            enough = c.prefix.enough;
            there = omega (arith, c.prefix.there, length-append history (batch ∷ []));
            first = c.prefix.first
                ∙ sym (take-append-le c.prefix.count history (batch ∷ []) c.prefix.there);
          };
          carries = record {
            contents = c.carries.contents;
            read = c.carries.read;
            matches = record {
              same = c.carries.matches.same;
              up_to = c.carries.matches.up_to;
              reached = c.carries.matches.reached;
              bounded = omega (arith, c.carries.matches.bounded);
              store = c.carries.matches.store;
            };
          };
        })
    append_safe now (inr part) =
        subst (IsSafe store reads allowed bound durable more_history) (sym part.1)
        (λ left leaves honest.
        grown_safe store cmp IsTableOf files contents m current_kept manifest_kept tables_kept
        log since allowed last durable history matches safe durable_there items text is_batch
        first_fits all_fit part.0 left leaves honest)

    -- ---- what the files are then

    empty_now : (other : ReplayedLog) → Contains m.managed.logs other → log.number < other.number
        → other.size ≡ 0
    empty_now other there less =
        let h = m.managed.has_logs.each other there in
        h.0.2.size ∙ ap length (log.last.empty_after (file_name Log other.number) other.number h.0.0
        (made_name Log other.number h.2) h.1 less h.0.1)

    clean_now : (other : ReplayedLog) → Contains m.managed.logs other → other.number < log.number
        → other.end ≡ clean
    clean_now other there less =
        let h = m.managed.has_logs.each other there in
        let read = log.clean_before other.number h.0.0 less h.1 h.0.1 in
        (log_laws.one (bytes_of h.0.0) h.0.2.records read.0 other.end clean h.0.2.read read.1).1

    now_edits : (n : ℕ) → HasEdits store (longer n) m.edits
    now_edits n =
        edits_on store cmp IsTableOf path files (longer n) m.edits m.has_edits
        (SameBut-appending path frame files (longer n) (inr (n, refl))) no_current
        (not_manifest m.has_edits.name m.has_edits.number m.has_edits.named.0)

    -- where the record is read, the files are the store with the batch
    with_record : (n : ℕ) (end : End)
        → IsLogFile (bytes_of (longer_file (take n frame) log.file)) (log.records ++ text ∷ []) end
        → IsManaged store cmp IsTableOf (longer n)
        (with_batches contents (batch_of (last + 1) items ∷ []))
    with_record n end read = record {
      edits = m.edits;
      has_edits = now_edits n;
      managed = with_more store cmp IsTableOf files (longer n) m.edits contents m.managed
          log.number log.fits log.last.replayed empty_now
          (SameBut-appending path frame files (longer n) (inr (n, refl))) log.file
          (longer_file (take n frame) log.file) (λ other c less. inl (clean_now other c less))
          log.there
          (extended-same path (take n frame) files log.file log.there) log.records
          (log.records ++ text ∷ []) clean end log.clean_end read log.batches
          (batch_of (last + 1) items ∷ []) log.each
          (each_more IsRecordOf log.records log.batches text (batch_of (last + 1) items) log.each
          is_batch) (
            omega (arith, matches.bounded),
            first_fits,
            omega (arith, placed_greatest last items, all_fit),
            tt,
          );
    }

    -- and where it isn't, they are the store that they were
    without_record : (n : ℕ) (end : End)
        → IsLogFile (bytes_of (longer_file (take n frame) log.file)) log.records end
        → IsManaged store cmp IsTableOf (longer n) contents
    without_record n end read = record {
      edits = m.edits;
      has_edits = now_edits n;
      managed = subst (IsManagedBy store cmp IsTableOf (longer n) m.edits) (with_none contents)
          (with_more store cmp IsTableOf files (longer n) m.edits contents m.managed log.number
          log.fits log.last.replayed empty_now
          (SameBut-appending path frame files (longer n) (inr (n, refl))) log.file
          (longer_file (take n frame) log.file) (λ other c less. inl (clean_now other c less))
          log.there
          (extended-same path (take n frame) files log.file log.there) log.records log.records
          clean end log.clean_end read log.batches [] log.each
          (subst (Each IsRecordOf log.records) (sym (append-nil log.batches)) log.each) tt);
    }

    -- with any part of the frame they are one of the two
    is_either : (n : ℕ)
        → IsManaged store cmp IsTableOf (longer n) contents
        ⊎ IsManaged store cmp IsTableOf (longer n)
        (with_batches contents (batch_of (last + 1) items ∷ []))
    is_either n = ⊎_elim
        (λ (none : found ≡ log.records). inl (without_record n part.1 (reads_as none)))
        (λ (more : found ≡ log.records ++ text ∷ []). inr (with_record n part.1 (reads_as more)))
        part.3
      where
        part : (found : List (List ℕ)) × (e : End)
            × IsLogFile (bytes_of log.file ++ take n frame) found e
            × ((found ≡ log.records) ⊎ (found ≡ log.records ++ text ∷ []))
            × (n < length frame → found ≡ log.records)
        part = log_laws.part (bytes_of log.file) log.records text n some log.clean_end

        found : List (List ℕ)
        found = part.0

        reads_as : {records : List (List ℕ)} → found ≡ records
            → IsLogFile (bytes_of (longer_file (take n frame) log.file)) records part.1
        reads_as same =
            subst (λ rs. IsLogFile (bytes_of (longer_file (take n frame) log.file)) rs part.1)
            same (subst (λ b. IsLogFile b part.0 part.1)
            (append_assoc log.file.kept log.file.since (take n frame)) part.2)

    -- after all of it the history has the batch
    pub whole_holds : Holds store reads allowed (extended path frame files) more_history bound
        durable None
    whole_holds = record {
      now = inl (record {
        contents = with_batches contents (batch_of (last + 1) items ∷ []);
        read = subst (λ f. reads f (with_batches contents (batch_of (last + 1) items ∷ [])))
            same_files (inr (with_record (length frame) clean whole_read));
        matches = subst
            (λ b. MatchesHistory allowed b (with_batches contents (batch_of (last + 1) items ∷ []))
            more_history) no_more (matches_batch allowed last contents history items matches);
      });
      crash = subst
          (λ b. IsSafe store reads allowed b durable more_history (extended path frame files))
          no_more (append_safe (extended path frame files) (inr (length frame, sym same_files)));
    }
      where
        no_more : bound ≡ bound + 0
        no_more = omega arith

        all_of_it : take (length frame) frame ≡ frame
        all_of_it = take_all (length frame) frame (omega arith)

        same_files : longer (length frame) ≡ extended path frame files
        same_files = ap (λ bytes. extended path bytes files) all_of_it

        whole_read : IsLogFile (bytes_of (longer_file (take (length frame) frame) log.file))
            (log.records ++ text ∷ []) clean
        whole_read = subst (λ b. IsLogFile b (log.records ++ text ∷ []) clean)
            (append_assoc log.file.kept log.file.since frame
            ∙ ap (λ f. log.file.kept ++ (log.file.since ++ f)) (sym all_of_it))
            (log_laws.more (bytes_of log.file) log.records text some log.clean_end)

    -- so with any part of it they hold the history with the batch pending
    pub append_holds : (now : Files) → PrefixAppended path frame files now
        → Holds store reads allowed now history last durable (Some batch)
    append_holds now passes =
        record {
          now = now_of passes;
          crash =
              subst (λ b. IsSafe store reads allowed b durable more_history now) counted
              (append_safe now passes);
        }
      where
        counted : last + length items ≡ last + length batch
        counted = ap (λ n. last + n) (sym (placed_length (last + 1) items))

        alone : (c : Contents) → MatchesHistory allowed last c history
            → MatchesHistory allowed (last + length batch) c history
        alone c t =
            record {
              same = t.same;
              up_to = t.up_to;
              reached = t.reached;
              bounded = omega (arith, t.bounded);
              store = t.store;
            }

        now_of : PrefixAppended path frame files now
            → Carries store reads allowed (last + length batch) history now
            ⊎ Carries store reads allowed (last + length batch) more_history now
        now_of (inl is) =
            inl (record {
              contents = contents;
              read = subst (λ f. reads f contents) (sym is) (inr m);
              matches = alone contents matches;
            })
        now_of (inr part) = ⊎_elim
            (λ (same : IsManaged store cmp IsTableOf (longer part.0) contents). inl
            (record {
              contents = contents;
              read = subst (λ f. reads f contents) (sym part.1) (inr same);
              matches = alone contents matches;
            }))
            (λ (more :
            IsManaged store cmp IsTableOf (longer part.0)
            (with_batches contents (batch_of (last + 1) items ∷ []))). inr (record {
              contents = with_batches contents (batch_of (last + 1) items ∷ []);
              read =
                  subst (λ f. reads f (with_batches contents (batch_of (last + 1) items ∷ [])))
                  (sym part.1) (inr more);
              matches =
                  subst
                  (λ b.
                  MatchesHistory allowed b
                  (with_batches contents (batch_of (last + 1) items ∷ [])) more_history) counted
                  (matches_batch allowed last contents history items matches);
            }))
            (is_either part.0)
