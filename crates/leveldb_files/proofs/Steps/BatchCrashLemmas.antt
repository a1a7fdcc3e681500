-- A batch that is appended to the last log: what a crash leaves of any part of its frame.
use Rattle.leveldb_base.proofs.NamesLemmas.{made_name, one_reading}
use Rattle.leveldb_base.specs.History.{Entry, History, Item, placed}
use Rattle.leveldb_base.specs.KeyTypes.{greatest_sequence}
use Rattle.leveldb_base.specs.Names.{IsFileName, file_name}
use Rattle.leveldb_base.specs.Types.{Pair}
use Rattle.leveldb_base.specs.declared.types.FileType.TheVariants.{Current, Descriptor, Log}
use Rattle.leveldb_env.proofs.AppendedLemmas.{bytes_take}
use Rattle.leveldb_env.proofs.EnvLemmas.{SameBut-appending, at_other, at_same, extended-same}
use Rattle.leveldb_env.specs.Env.{AreBytes, File, FileCrashesTo, Files, FilesCrashTo, SameBut, bytes_of, extended, in_folder, kept_file, longer_file, with_file}
use Rattle.leveldb_mem.proofs.LawsLemmas.{cut_reads, each_reads, log_laws, usual_size}
use Rattle.leveldb_mem.specs.Laws.{AreFirst}
use Rattle.leveldb_mem.specs.Log.{End, HonestTail, IsLogFile, clean, frame_at, log_block_size}
use Rattle.leveldb_mem.specs.WriteBatch.{BatchOf, batch_of}
use Rattle.leveldb_files.proofs.Histories.BatchMatchesLemmas.{batch_some, matches_batch}
use Rattle.leveldb_files.proofs.Stores.BatchesLemmas.{each_more, each_take}
use Rattle.leveldb_files.proofs.Stores.KeptLemmas.{edits_left, kept_left}
use Rattle.leveldb_files.proofs.Stores.LastLogLemmas.{with_batches, with_more, with_none}
use Rattle.leveldb_files.proofs.Stores.ManagedLemmas.{IsFoundAgain, SameBytes, found_again, kinds_apart, managed_on}
use Rattle.leveldb_files.proofs.Stores.ManifestLemmas.{edits_on, managed_of}
use Rattle.leveldb_files.proofs.Histories.NumbersLemmas.{placed_greatest}
use Rattle.leveldb_files.proofs.Histories.SafeLemmas.{Honest, front_honest, honest_with, leaves_with}
use Rattle.leveldb_files.specs.Stores.Batches.{Each, IsRecordOf}
use Rattle.leveldb_files.specs.Stores.Contents.{Contents, Store}
use Rattle.leveldb_files.specs.Histories.Holds.{CarriesPrefix, IsHonest, IsSafe, MatchesHistory}
use Rattle.leveldb_files.specs.Stores.Paths.{current_path, log_path, table_path}
use Rattle.leveldb_files.specs.Stores.Store.{HasEdits, IsManaged, IsManagedBy, LogIsReplayed, IsStore, ReplayedLog}
use Rattle.leveldb_files.specs.Steps.StoreSteps.{IsLogOpen, TablesAreKept}
use Rattle.leveldb_files.specs.Edits.VersionSet.{live_after}
use Rattle.std.proofs.Common.{◌++◌, ◌+◌, ◌<◌, ◌∙◌, ◌∷◌, ◌≡◌, ◌≤◌, ◌⊎◌, Bool, List, Some, [], ap, append-nil, append_assoc, arith, drop, false, inl, inr, length, length-append, refl, subst, sym, take, true, ℕ, ⊎_elim}
use Rattle.std.proofs.lemmas.Bool.{cases_lt}
use Rattle.std.proofs.lemmas.List.{length-take, take-append-drop, take-append-le, take_all}
use Rattle.std.specs.Cmp.Lexicographic.{bytes_decides}
use Rattle.std.specs.Option.{option_map}
use Rattle.std.specs.Prelude.{◌≢◌, Contains}
use Rattle.std.specs.Str.{bytes_eq}
use Rattle.std.specs.declared.cmp.Ordering.{Ordering}

module _ (store : List ℕ) (cmp : List ℕ → List ℕ → Ordering)
    (IsTableOf : List ℕ → List Pair → Type 0) where
  abbrev reads : Files → Contents → Type 0
  reads = IsStore store cmp IsTableOf

  module _ (files : Files) (contents : Contents) (m : IsManaged store cmp IsTableOf files contents)
      (current_kept : m.has_edits.current.since ≡ [])
      (manifest_kept : m.has_edits.manifest.since ≡ [])
      (tables_kept : TablesAreKept store files (live_after m.edits))
      (log : IsLogOpen store files (live_after m.edits)) (since : AreBytes log.file.since)
      (allowed : Store → Type 0) (last durable : ℕ) (history : History)
      (matches : MatchesHistory allowed last contents history)
      (safe : IsSafe store reads allowed last durable history files)
      (durable_there : durable ≤ length history)
      (items : List Item) (text : List ℕ) (is_batch : BatchOf text (last + 1) items)
      (first_fits : last + 1 ≤ greatest_sequence)
      (all_fit : last + length items ≤ greatest_sequence) where
    abbrev path : List ℕ
    path = log_path store log.number

    abbrev frame : List ℕ
    frame = frame_at (length (bytes_of log.file)) text

    abbrev longer : ℕ → Files
    longer n = extended path (take n frame) files

    abbrev batch : List Entry
    batch = placed (last + 1) items

    abbrev more_history : History
    more_history = history ++ batch ∷ []

    abbrev bound : ℕ
    bound = last + length items

    some : text ≢ []
    some = batch_some text (last + 1) items is_batch

    named : IsFileName (file_name Log log.number) log.number Log
    named = made_name Log log.number log.fits

    no_current : bytes_eq path (current_path store) ≡ false
    no_current = kinds_apart store (file_name Log log.number)
        (file_name Current 0) log.number 0 Log Current named (made_name Current 0 refl) (λ e. cc)

    not_manifest : (name : List ℕ) (n : ℕ) → IsFileName name n Descriptor
        → bytes_eq path (in_folder store name) ≡ false
    not_manifest name n is =
        kinds_apart store (file_name Log log.number) name log.number n Log Descriptor named is
        (λ e. cc)

    module _ (n : ℕ) (left : Files) (leaves : FilesCrashTo (longer n) left)
        (honest : IsHonest store (longer n) left) where
      same : SameBut path files (longer n)
      same = SameBut-appending path frame files (longer n) (inr (n, refl))

      abbrev grown : File
      grown = longer_file (take n frame) log.file

      there_then : longer n path ≡ Some grown
      there_then = extended-same path (take n frame) files log.file log.there

      log_left : FileCrashesTo (Some grown) (left path)
      log_left = subst (λ f. FileCrashesTo f (left path)) there_then (leaves path)

      abbrev tail : List ℕ
      tail = log_left.0

      abbrev found_file : File
      found_file = kept_file (log.file.kept ++ tail)

      found_there : left path ≡ Some found_file
      found_there = log_left.3

      -- what a crash before the append leaves, with the first k of the bytes appended since
      abbrev cut_file : ℕ → File
      cut_file k = kept_file (log.file.kept ++ take k log.file.since)

      abbrev before : ℕ → Files
      before k = with_file path (Some (cut_file k)) left

      before_there : (k : ℕ) → before k path ≡ Some (cut_file k)
      before_there k = at_same path (Some (cut_file k)) left

      before_same : (k : ℕ) → SameBut path (before k) left
      before_same k other away = sym (at_other path (Some (cut_file k)) left other away)

      before_leaves : (k : ℕ) → FilesCrashTo files (before k)
      before_leaves k = leaves_with path files (longer n) left (Some (cut_file k)) same leaves
          (subst (λ f. FileCrashesTo f (Some (cut_file k))) (sym log.there) (
            take k log.file.since,
            bytes_take k log.file.since since,
            omega (arith, length-take k log.file.since),
            refl,
          ))

      before_honest : (k : ℕ) → IsHonest store files (before k)
      before_honest k = honest_with store path files (longer n) left (Some (cut_file k)) same honest
          (subst (λ f. Honest f (Some (cut_file k))) (sym log.there)
          (front_honest log.file (take k log.file.since) (drop k log.file.since)
          (sym (take-append-drop k log.file.since))))

      before_edits : (k : ℕ) → HasEdits store (before k) m.edits
      before_edits k =
          edits_left store files (before k) m.edits m.has_edits current_kept manifest_kept
          (before_leaves k)

      left_edits : (k : ℕ) → HasEdits store left m.edits
      left_edits k =
          edits_on store cmp IsTableOf path (before k) left m.edits (before_edits k)
          (before_same k) no_current
          (not_manifest (before_edits k).name (before_edits k).number (before_edits k).named.0)

      -- the bytes of the other logs are those that were kept
      other_bytes : (k : ℕ) (name : List ℕ) (number : ℕ) → IsFileName name number Log
          → LogIsReplayed (live_after m.edits) number → name ≢ file_name Log log.number
          → SameBytes (files (in_folder store name)) (before k (in_folder store name))
      other_bytes k name number is replayed differ =
          kept_left (files (in_folder store name)) (before k (in_folder store name))
          (log.last.others_kept name number is replayed differ)
          (before_leaves k (in_folder store name))

      -- a log of another number has the bytes that it had
      found_other :
          (k : ℕ) (c : Contents) (managed : IsManagedBy store cmp IsTableOf (before k) m.edits c)
          (other : ReplayedLog) (there : Contains managed.logs other) → other.number ≢ log.number
          → IsFoundAgain (managed.has_logs.each other there).0.0
          (files (log_path store other.number))
      found_other k c managed other there differ =
          let h = managed.has_logs.each other there in
          let name = file_name Log other.number in
          let is = made_name Log other.number h.2 in
          let bytes = other_bytes k name other.number is h.1
          (λ e. differ
          (one_reading name other.number log.number Log Log is
          (subst (λ z. IsFileName z log.number Log) (sym e) named)).0) in
          found_again (before k (in_folder store name))
          (files (in_folder store name)) h.0.0 (sym bytes) h.0.1

      empty_before :
          (k : ℕ) (c : Contents) (managed : IsManagedBy store cmp IsTableOf (before k) m.edits c)
          (other : ReplayedLog) → Contains managed.logs other → log.number < other.number
          → other.size ≡ 0
      empty_before k c managed other there less =
          let h = managed.has_logs.each other there in
          let again = found_other k c managed other there (λ e. omega (arith, e, less)) in
          let none = log.last.empty_after (file_name Log other.number) other.number again.now
          (made_name Log other.number h.2) h.1 less again.there in
          h.0.2.size ∙ ap length (sym again.bytes ∙ none)

      clean_earlier :
          (k : ℕ) (c : Contents) (managed : IsManagedBy store cmp IsTableOf (before k) m.edits c)
          (other : ReplayedLog) → Contains managed.logs other → other.number < log.number
          → other.end ≡ clean
      clean_earlier k c managed other there less =
          let h = managed.has_logs.each other there in
          let again = found_other k c managed other there (λ e. omega (arith, e, less)) in
          let read = log.clean_before other.number again.now less h.1 again.there in
          (log_laws.one (bytes_of h.0.0) h.0.2.records read.0 other.end clean h.0.2.read
          (subst (λ b. IsLogFile b read.0 clean) again.bytes read.1)).1

      -- the first records are left, without the batch
      fewer : (count k : ℕ) (e1 e2 : End)
          → IsLogFile (log.file.kept ++ take k log.file.since) (take count log.records) e1
          → IsLogFile (bytes_of found_file) (take count log.records) e2
          → CarriesPrefix store reads allowed bound durable more_history left
      fewer count k e1 e2 read found =
          let c = safe (before k) (before_leaves k) (before_honest k) in
          let it = c.carries.contents in
          let managed =
          managed_of store cmp IsTableOf (before k) m.edits it
          (before_edits k) c.carries.read in
          let batches = take count log.batches in
          let each = each_take IsRecordOf count log.records log.batches log.each in
          let now = with_more store cmp IsTableOf
          (before k) left m.edits it managed log.number log.fits log.last.replayed
          (empty_before k it managed) (before_same k) (cut_file k) found_file
          (λ other o less. inl (clean_earlier k it managed other o less))
          (before_there k) found_there (take count log.records)
          (take count log.records) e1 e2
          (subst (λ b. IsLogFile b (take count log.records) e1)
          (sym (append-nil (log.file.kept ++ take k log.file.since))) read) found batches []
          each
          (subst (Each IsRecordOf (take count log.records)) (sym (append-nil batches)) each) tt
          in
          record {
            part = c.part;
            prefix = record {
              count = c.prefix.count;
              enough = c.prefix.enough;
              there = omega (arith, c.prefix.there, length-append history (batch ∷ []));
              first = c.prefix.first
                  ∙ sym (take-append-le c.prefix.count history (batch ∷ []) c.prefix.there);
            };
            carries = record {
              contents = it;
              read = inr (record {
                edits = m.edits;
                has_edits = left_edits k;
                managed =
                    subst (IsManagedBy store cmp IsTableOf left m.edits) (with_none it) now;
              });
              matches = record {
                same = c.carries.matches.same;
                up_to = c.carries.matches.up_to;
                reached = c.carries.matches.reached;
                bounded = omega (arith, c.carries.matches.bounded);
                store = c.carries.matches.store;
              };
            };
          }

      -- all bytes that were there before
      abbrev all_there : ℕ
      all_there = length log.file.since

      all_bytes : bytes_of (cut_file all_there) ≡ bytes_of log.file
      all_bytes = append-nil (log.file.kept ++ take all_there log.file.since)
          ∙ ap (λ b. log.file.kept ++ b) (take_all all_there log.file.since (omega arith))

      whole_before : IsManagedBy store cmp IsTableOf (before all_there) m.edits contents
      whole_before =
          managed_on store cmp IsTableOf files (before all_there) m.edits contents (record {
            tables =
                λ file fits live.
                kept_left (files (table_path store file.number))
                (before all_there (table_path store file.number)) (tables_kept file fits live)
                (before_leaves all_there (table_path store file.number));
            logs = logs;
          }) m.managed
        where
          at_log : SameBytes (files path) (before all_there path)
          at_log = ap (option_map bytes_of) (before_there all_there) ∙ ap (λ b. Some b) all_bytes
              ∙ sym (ap (option_map bytes_of) log.there)

          logs : (name : List ℕ) (number : ℕ) → IsFileName name number Log
              → LogIsReplayed (live_after m.edits) number
              → SameBytes (files (in_folder store name)) (before all_there (in_folder store name))
          logs name number is replayed = by (bytes_eq path (in_folder store name)) refl
            where
              by : (b : Bool) → bytes_eq path (in_folder store name) ≡ b
                  → SameBytes (files (in_folder store name))
                  (before all_there (in_folder store name))
              by true e =
                  subst (λ p. SameBytes (files p) (before all_there p))
                  ((bytes_decides path (in_folder store name)).0 e) at_log
              by false e =
                  other_bytes all_there name number is replayed
                  (λ same_name. let is_it : false ≡ true = sym e
                  ∙ (bytes_decides path (in_folder store name)).1
                  (ap (in_folder store) (sym same_name)) in cc)

      -- the batch is left too
      all : (e2 : End) → IsLogFile (bytes_of found_file) (log.records ++ text ∷ []) e2
          → CarriesPrefix store reads allowed bound durable more_history left
      all e2 found =
          let now = with_more store cmp IsTableOf
          (before all_there) left m.edits contents whole_before log.number log.fits
          log.last.replayed (empty_before all_there contents whole_before)
          (before_same all_there) (cut_file all_there) found_file
          (λ other o less. inl (clean_earlier all_there contents whole_before other o less))
          (before_there all_there) found_there log.records
          (log.records ++ text ∷ []) clean e2
          (subst (λ b. IsLogFile b log.records clean) (sym all_bytes) log.clean_end) found
          log.batches (batch_of (last + 1) items ∷ []) log.each
          (each_more IsRecordOf log.records log.batches text
          (batch_of (last + 1) items) log.each is_batch) (
            omega (arith, matches.bounded),
            first_fits,
            omega (arith, placed_greatest last items, all_fit),
            tt,
          ) in
          record {
            part = more_history;
            prefix = record {
              count = length more_history;
              enough = omega (arith, durable_there, length-append history (batch ∷ []));
              there = omega arith;
              first = sym (take_all (length more_history) more_history (omega arith));
            };
            carries = record {
              contents = with_batches contents (batch_of (last + 1) items ∷ []);
              read =
                  inr (record { edits = m.edits; has_edits = left_edits all_there; managed = now });
              matches = matches_batch allowed last contents history items matches;
            };
          }

      regrouped : bytes_of grown ≡ bytes_of log.file ++ take n frame
      regrouped = sym (append_assoc log.file.kept log.file.since (take n frame))

      pub grown_safe : CarriesPrefix store reads allowed bound durable more_history left
      grown_safe = from
          (log_laws.torn log.file.kept log.file.since tail first.0 log.records written.0 text n
          first.1 written.1 some first.2 log.clean_end written.2 no_longer honest_here)
        where
          first : (records : List (List ℕ)) × (end : End) × IsLogFile log.file.kept records end
          first = each_reads true log_block_size 0 log.file.kept usual_size

          written : (found : List (List ℕ)) × (e : End)
              × IsLogFile (bytes_of log.file ++ take n frame) found e
              × ((found ≡ log.records) ⊎ (found ≡ log.records ++ text ∷ []))
              × (n < length frame → found ≡ log.records)
          written = log_laws.part (bytes_of log.file) log.records text n some log.clean_end

          no_longer :
              length (log.file.kept ++ tail)
              ≤ length (log.file.kept ++ log.file.since ++ take n frame)
          no_longer = let e = ap length regrouped in
              omega (
                arith,
                log_left.2,
                e,
                length-append log.file.kept tail,
                length-append log.file.kept (log.file.since ++ take n frame),
              )

          honest_here :
              HonestTail log_block_size (log.file.kept ++ log.file.since ++ take n frame)
              (log.file.kept ++ tail)
          honest_here = subst (λ b. HonestTail log_block_size b (log.file.kept ++ tail)) regrouped
              (subst (λ b. HonestTail log_block_size (bytes_of grown) b)
              (append-nil (log.file.kept ++ tail))
              (honest path grown found_file
              (inl (file_name Log log.number, log.number, named, refl)) there_then found_there))

          low_first : length first.0 ≤ length log.records
          low_first = let a =
              cut_reads true log_block_size 0 log.file.kept log.file.since [] first.0
              log.records log.records first.1 clean clean usual_size first.2 log.clean_end
              (subst (λ b. IsLogFile b log.records clean)
              (sym (append-nil (log.file.kept ++ log.file.since))) log.clean_end) in
              omega (arith, a.enough, a.there)

          from : (found : List (List ℕ)) × (e : End) × IsLogFile (log.file.kept ++ tail) found e
              × AreFirst (length first.0) written.0 found
              → CarriesPrefix store reads allowed bound durable more_history left
          from (found, e, read, some_of) = ⊎_elim none one written.3
            where
              here : (records : List (List ℕ)) → found ≡ records
                  → IsLogFile (bytes_of found_file) records e
              here records same_records =
                  subst (λ b. IsLogFile b records e) (sym (append-nil (log.file.kept ++ tail)))
                  (subst (λ rs. IsLogFile (log.file.kept ++ tail) rs e) same_records read)

              few : (count : ℕ) → length first.0 ≤ count → count ≤ length log.records
                  → found ≡ take count log.records
                  → CarriesPrefix store reads allowed bound durable more_history left
              few count low high is =
                  let c = log_laws.cut log.file.kept log.file.since first.0 log.records first.1
                  clean count first.2 log.clean_end low high in
                  fewer count c.0 c.1 e c.2 (here (take count log.records) is)

              none : written.0 ≡ log.records
                  → CarriesPrefix store reads allowed bound durable more_history left
              none is =
                  let l = ap length is in
                  few some_of.count some_of.enough (omega (arith, some_of.there, l))
                  (some_of.first ∙ ap (take some_of.count) is)

              one : written.0 ≡ log.records ++ text ∷ []
                  → CarriesPrefix store reads allowed bound durable more_history left
              one is =
                  let l = ap length is in
                  ⊎_elim (λ (past : length log.records < some_of.count).
                  all e
                  (here (log.records ++ text ∷ [])
                  (some_of.first ∙ ap (take some_of.count) is
                  ∙ take_all some_of.count (log.records ++ text ∷ [])
                  (omega (arith, past, length-append log.records (text ∷ []))))))
                  (λ (within : some_of.count ≤ length log.records).
                  few some_of.count some_of.enough within
                  (some_of.first ∙ ap (take some_of.count) is
                  ∙ take-append-le some_of.count log.records (text ∷ []) within))
                  (cases_lt (length log.records) some_of.count)
