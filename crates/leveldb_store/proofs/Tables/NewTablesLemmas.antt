-- New tables, several of them: no edit names them, so that a store that is written is so with them,
-- and each history stays at each moment while they are made.
use Rattle.std.specs.Prelude.{IfSome, IsSomeAnd}
use Rattle.std.proofs.Common.{◌≡◌, ◌⊎◌, ◌∙◌, ◌+◌, ◌-◌, ◌≤◌, ◌<◌, ◌^◌, inl, inr, ⊎_elim, ℕ, zero, suc, Bool, true, false, List, Option, None, Some, arith, refl, subst, sym}
use Rattle.std.proofs.lemmas.Bool.{cases_lt}
use Rattle.std.proofs.lemmas.Option.{IfSome_then}
use Rattle.std.specs.Cmp.Lexicographic.{bytes_decides}
use Rattle.std.specs.Str.{bytes_eq}
use Rattle.std.specs.declared.cmp.Ordering.{Ordering}
use Rattle.leveldb_base.proofs.NamesLemmas.{made_name}
use Rattle.leveldb_base.specs.History.{History}
use Rattle.leveldb_base.specs.Names.{file_name}
use Rattle.leveldb_base.specs.Types.{Pair}
use Rattle.leveldb_base.specs.declared.types.FileType.TheVariants.{Log, Table}
use Rattle.leveldb_env.proofs.EnvLemmas.{at_other, at_same}
use Rattle.leveldb_env.specs.Env.{File, Files, bytes_of, in_folder, with_file}
use Rattle.leveldb_files.proofs.Edits.CurrentLemmas.{one_current}
use Rattle.leveldb_files.proofs.Stores.ManagedLemmas.{SameFor, managed_on, same_bytes}
use Rattle.leveldb_files.proofs.Steps.ObsoleteLemmas.{unread_again}
use Rattle.leveldb_version_set.proofs.Sets.TrackedLemmas.{managed_still, next_is_free, unread_no_manifest, unread_unnamed}
use Rattle.leveldb_version_set.proofs.Sets.TracksLemmas.{stays_tracked}
use Rattle.leveldb_files.proofs.Steps.UnreadLemmas.{unread_stays_safe}
use Rattle.leveldb_version_set.proofs.Engines.WrittenLemmas.{new_table_unread}
use Rattle.leveldb_files.specs.Stores.Contents.{Contents, Store}
use Rattle.leveldb_files.specs.Edits.Current.{IsCurrentText}
use Rattle.leveldb_files.specs.Histories.Holds.{IsSafe}
use Rattle.leveldb_files.specs.Stores.Paths.{current_path, log_path, table_path}
use Rattle.leveldb_files.specs.Stores.Store.{HasEdits, IsStore}
use Rattle.leveldb_files.specs.Steps.StoreSteps.{AppendedAreBytes, IsKept, IsUnnamed, IsUnread, IsWritable, KeepsHistory}
use Rattle.leveldb_version_set.specs.Sets.Tracks.{IsLeftBy, Tracks}
use Rattle.leveldb_files.specs.Edits.Edit.{Edit}
use Rattle.leveldb_files.specs.Edits.VersionSet.{live_after}
use Rattle.leveldb_version_set.specs.Sets.VersionSetLaws.{NamesManifest}
use Rattle.leveldb_version_set.specs.Sets.VersionSetValue.{VersionSetValue}
use Rattle.leveldb_version_set.specs.Engines.Writing.{EngineMemory, IsTrackedBy, IsWrittenBy}
use Rattle.leveldb_store.proofs.Tables.NewNumbersLemmas.{numbers_below_new}
use Rattle.leveldb_store.specs.Tables.Outputs.{SameButNewTables}

-- a number isn't above the one that may be taken back, if it was so before, and if that one is the
-- same or was given since
taken_back : (least old now : Option ℕ) (next : ℕ) → IfSome least (λ n. n ≤ next)
    → IfSome least (λ n. IfSome old (λ number. n ≤ number))
    → ((number : ℕ) → now ≡ Some number → (old ≡ Some number) ⊎ (next ≤ number))
    → IfSome least (λ n. IfSome now (λ number. n ≤ number))
taken_back None old now next below were back = tt
taken_back (Some n) old None next below were back = tt
taken_back (Some n) old (Some number) next below were back = ⊎_elim
    (λ (same : old ≡ Some number). subst (λ o. IfSome o (λ k. n ≤ k)) same were)
    (λ (up : next ≤ number). let most : n ≤ next = below in omega (arith, most, up))
    (back number refl)

module _ (store : List ℕ) (cmp : List ℕ → List ℕ → Ordering)
    (IsTableOf : List ℕ → List Pair → Type 0) (files : Files) (edits : List Edit)
    (memory : EngineMemory) (w : IsWrittenBy store cmp IsTableOf files edits memory) where
  abbrev first : ℕ
  first = memory.set.next_file

  abbrev reads : Files → Contents → Type 0
  reads = IsStore store cmp IsTableOf

  -- nothing is under the paths of new tables
  unread_new : (n : ℕ) → first ≤ n → n < 2 ^ 64 → IsUnread store files (table_path store n)
  unread_new n from fits = new_table_unread store cmp IsTableOf files edits memory w n fits
      (next_is_free store cmp IsTableOf files edits memory.set w.tracked Table n from fits)

  module _ (next : ℕ) (now : Files) (same : SameButNewTables store first next files now) where
    -- a path that is that of no new table
    at : (path : List ℕ)
        → ((n : ℕ) → first ≤ n → n < 2 ^ 64 → bytes_eq (table_path store n) path ≡ false)
        → now path ≡ files path
    at path apart = same path (λ n from below fits. apart n from fits)

    -- ---- what is read

    current_at : now (current_path store) ≡ files (current_path store)
    current_at = at (current_path store) (λ n from fits. (unread_new n from fits).not_current)

    manifest_at : (others : List Edit) (e : HasEdits store files others)
        → now (in_folder store e.name) ≡ files (in_folder store e.name)
    manifest_at others e = at (in_folder store e.name) (λ n from fits.
        unread_no_manifest store cmp IsTableOf (table_path store n) files others e w.tracked.bytes
        (unread_new n from fits))

    abbrev edits_now : (others : List Edit) → HasEdits store files others
        → HasEdits store now others
    edits_now others e = record {
      current = e.current;
      current_there = current_at ∙ e.current_there;
      name = e.name;
      number = e.number;
      named = e.named;
      manifest = e.manifest;
      there = manifest_at others e ∙ e.there;
      is = e.is;
    }

    unnamed : (others : List Edit) → HasEdits store files others → (n : ℕ) → first ≤ n
        → n < 2 ^ 64 → IsUnnamed store (live_after others) (table_path store n)
    unnamed others e n from fits = unread_unnamed store cmp IsTableOf (table_path store n) files
        others e w.tracked.bytes (unread_new n from fits)

    same_for : (others : List Edit) → HasEdits store files others
        → SameFor store (live_after others) files now
    same_for others e = record {
      tables = λ file file_fits live.
          same_bytes (files (table_path store file.number)) (now (table_path store file.number))
          (at (table_path store file.number) (λ n from fits.
          (unnamed others e n from fits).tables file file_fits live));
      logs = λ name k is replayed.
          same_bytes (files (in_folder store name)) (now (in_folder store name))
          (at (in_folder store name) (λ n from fits.
          (unnamed others e n from fits).logs name k is replayed));
    }

    read_now : (contents : Contents) → reads files contents → reads now contents
    read_now contents (inl bare) = absurd
        (let never : None ≡ Some w.writable.has_edits.current =
        sym bare.0.no_current ∙ w.writable.has_edits.current_there in cc)
    read_now contents (inr m) = inr (record {
      edits = m.edits;
      has_edits = edits_now m.edits m.has_edits;
      managed = managed_on store cmp IsTableOf files now m.edits contents
          (same_for m.edits m.has_edits) m.managed;
    })

    -- ---- one after another

    -- the files of now under the paths of the first tables, and those from before
    abbrev mixed : ℕ → Files
    mixed zero = files
    mixed (suc k) = with_file (table_path store (first + k)) (now (table_path store (first + k)))
        (mixed k)

    -- so many numbers fit
    abbrev FitIn : ℕ → Type 0
    FitIn k = (j : ℕ) → j < k → first + j < 2 ^ 64

    unread_mixed : (k : ℕ) → FitIn k → (n : ℕ) → first ≤ n → n < 2 ^ 64
        → IsUnread store (mixed k) (table_path store n)
    unread_mixed zero fit n from fits = unread_new n from fits
    unread_mixed (suc k) fit n from fits =
        let less : FitIn k = λ j below. fit j (omega (arith, below)) in
        unread_again store cmp IsTableOf (table_path store (first + k)) (table_path store n)
        (mixed k) (mixed (suc k))
        (λ other away. at_other (table_path store (first + k))
        (now (table_path store (first + k))) (mixed k) other away)
        (unread_mixed k less (first + k) (omega arith) (fit k (omega arith)))
        (unread_mixed k less n from fits)

    safe_mixed : (allowed : Store → Type 0) (bound durable : ℕ) (history : History) (k : ℕ)
        → FitIn k → IsSafe store reads allowed bound durable history files
        → IsSafe store reads allowed bound durable history (mixed k)
    safe_mixed allowed bound durable history zero fit safe = safe
    safe_mixed allowed bound durable history (suc k) fit safe =
        let less : FitIn k = λ j below. fit j (omega (arith, below)) in
        unread_stays_safe store cmp IsTableOf (table_path store (first + k)) (mixed k)
        (mixed (suc k))
        (λ other away. at_other (table_path store (first + k))
        (now (table_path store (first + k))) (mixed k) other away)
        (unread_mixed k less (first + k) (omega arith) (fit k (omega arith))) allowed bound durable
        history (safe_mixed allowed bound durable history k less safe)

    -- what is under a path is that of now, or from before and the path is none of these tables'
    mixed_at : (k : ℕ) (path : List ℕ) → (mixed k path ≡ now path)
        ⊎ ((mixed k path ≡ files path) × ((n : ℕ) → first ≤ n → n < first + k
        → bytes_eq (table_path store n) path ≡ false))
    mixed_at zero path = inr (refl, λ n from below. absurd (omega (arith, from, below)))
    mixed_at (suc k) path = by (mixed_at k path) (bytes_eq (table_path store (first + k)) path) refl
      where
        by : (mixed k path ≡ now path)
            ⊎ ((mixed k path ≡ files path) × ((n : ℕ) → first ≤ n → n < first + k
            → bytes_eq (table_path store n) path ≡ false))
            → (b : Bool) → bytes_eq (table_path store (first + k)) path ≡ b
            → (mixed (suc k) path ≡ now path)
            ⊎ ((mixed (suc k) path ≡ files path) × ((n : ℕ) → first ≤ n → n < first + suc k
            → bytes_eq (table_path store n) path ≡ false))
        by rest true e = inl (subst (λ p. mixed (suc k) p ≡ now p)
            ((bytes_decides (table_path store (first + k)) path).0 e)
            (at_same (table_path store (first + k)) (now (table_path store (first + k))) (mixed k)))
        by rest false e =
            let other : mixed (suc k) path ≡ mixed k path = at_other (table_path store (first + k))
            (now (table_path store (first + k))) (mixed k) path e in
            ⊎_elim
            (λ (is : mixed k path ≡ now path). inl (other ∙ is))
            (λ (is : (mixed k path ≡ files path) × ((n : ℕ) → first ≤ n → n < first + k
            → bytes_eq (table_path store n) path ≡ false)). inr (
              other ∙ is.0,
              λ n from below. ⊎_elim
                  (λ (less : n < first + k). is.1 n from less)
                  (λ (most : first + k ≤ n).
                  let last : first + k ≡ n = omega (arith, most, below) in
                  subst (λ m. bytes_eq (table_path store m) path ≡ false) last e)
                  (cases_lt n (first + k)),
            ))
            rest

    all_mixed : (k : ℕ) → ((n : ℕ) → first ≤ n → n < 2 ^ 64 → n < first + k) → (path : List ℕ)
        → mixed k path ≡ now path
    all_mixed k all path = ⊎_elim
        (λ (is : mixed k path ≡ now path). is)
        (λ (is : (mixed k path ≡ files path) × ((n : ℕ) → first ≤ n → n < first + k
        → bytes_eq (table_path store n) path ≡ false)).
        is.0 ∙ sym (at path (λ n from fits. is.1 n from (all n from fits))))
        (mixed_at k path)

    safe_now : (allowed : Store → Type 0) (bound durable : ℕ) (history : History) (k : ℕ)
        → FitIn k → ((n : ℕ) → first ≤ n → n < 2 ^ 64 → n < first + k)
        → IsSafe store reads allowed bound durable history files
        → IsSafe store reads allowed bound durable history now
    safe_now allowed bound durable history k fit all safe =
        let whole : mixed k ≡ now = λ i path. all_mixed k all path i in
        subst (IsSafe store reads allowed bound durable history) whole
        (safe_mixed allowed bound durable history k fit safe)

    -- each history is kept
    pub new_tables_keep : (allowed : Store → Type 0) (bound : ℕ)
        → KeepsHistory store cmp IsTableOf allowed bound files now
    new_tables_keep allowed bound = record {
      now = λ history c. record {
        contents = c.contents;
        read = read_now c.contents c.read;
        matches = c.matches;
      };
      crash = λ durable history safe. safe_now allowed bound durable history (2 ^ 64 - first)
          (λ j below. omega (arith, below)) (λ n from fits. omega (arith, from, fits)) safe;
    }

    -- ---- the store is written on

    module _ (up : first ≤ next) (given : Option ℕ)
        (back : (number : ℕ) → given ≡ Some number
        → (memory.set.given ≡ Some number) ⊎ (first ≤ number))
        (bytes : AppendedAreBytes now) where
      -- the set with these numbers given
      abbrev later : VersionSetValue
      later = record memory.set { next_file = next; given = given }

      left : IsLeftBy edits memory.set → IsLeftBy edits later
      left l = record {
        full = l.full;
        writable = l.writable;
        no_numbers = l.no_numbers;
        comparator = l.comparator;
        log_number = l.log_number;
        previous_log = l.previous_log;
        next_file = IfSome_then (live_after edits).next_file l.next_file
            (λ n most. omega (arith, most, up));
        given = taken_back (live_after edits).next_file memory.set.given given first l.next_file
            l.given back;
        last_sequence = l.last_sequence;
      }

      abbrev t : IsTrackedBy store cmp IsTableOf files edits memory.set
      t = w.tracked

      named_at : (name : List ℕ) → NamesManifest store files name
          → now (in_folder store name) ≡ files (in_folder store name)
      named_at name named =
          subst (λ z. now (in_folder store z) ≡ files (in_folder store z))
          (one_current (bytes_of t.has_edits.current) t.has_edits.name name t.has_edits.number
          named.0 t.has_edits.named
          (subst (λ o. IsSomeAnd o (λ (file : File). IsCurrentText (bytes_of file) name named.0))
          t.has_edits.current_there named.1)).0
          (manifest_at edits t.has_edits)

      tracks_now : Tracks now edits memory.set
      tracks_now = (stays_tracked files edits memory.set t.tracks).others now
          (subst (λ s. now (current_path s) ≡ files (current_path s)) (sym t.store_is) current_at)
          (λ name named. subst (λ s. now (in_folder s name) ≡ files (in_folder s name))
          (sym t.store_is)
          (named_at name (subst (λ s. NamesManifest s files name) t.store_is named)))

      abbrev tracked_now : IsTrackedBy store cmp IsTableOf now edits later
      tracked_now = record {
        tracks = record {
          left = left tracks_now.left;
          used = tracks_now.used;
          not_made = tracks_now.not_made;
        };
        store_is = t.store_is;
        has_edits = edits_now edits t.has_edits;
        contents = t.contents;
        managed = managed_still store cmp IsTableOf files now edits t.contents
            (same_for edits t.has_edits) t.managed;
        numbers = numbers_below_new store first first next files now up same t.numbers;
        manifest_below = omega (arith, t.manifest_below, up);
        number_is = λ manifest used name n is. t.number_is manifest used name n
            (subst (λ o. IsSomeAnd o (λ (file : File). IsCurrentText (bytes_of file) name n))
            current_at is);
        bytes = bytes;
      }

      abbrev writable_now : IsWritable store now edits
      writable_now =
          let v = w.writable in
          record {
            has_edits = edits_now edits v.has_edits;
            current = v.current;
            manifest = v.manifest;
            tables = λ one fits live. subst IsKept
                (sym (at (table_path store one.number) (λ n from n_fits.
                (unnamed edits v.has_edits n from n_fits).tables one fits live)))
                (v.tables one fits live);
            log = record {
              number = v.log.number;
              fits = v.log.fits;
              last = record {
                replayed = v.log.last.replayed;
                empty_after = λ name k other is replayed less found.
                    v.log.last.empty_after name k other is replayed less
                    (sym (at (in_folder store name) (λ n from fits.
                    (unnamed edits v.has_edits n from fits).logs name k is replayed)) ∙ found);
                others_kept = λ name k is replayed differ. subst IsKept
                    (sym (at (in_folder store name) (λ n from fits.
                    (unnamed edits v.has_edits n from fits).logs name k is replayed)))
                    (v.log.last.others_kept name k is replayed differ);
              };
              clean_before = λ k other less replayed found.
                  v.log.clean_before k other less replayed
                  (sym (at (log_path store k) (λ n from fits.
                  (unnamed edits v.has_edits n from fits).logs (file_name Log k) k
                  (made_name Log k (omega (arith, less, v.log.fits))) replayed)) ∙ found);
              file = v.log.file;
              there = at (log_path store v.log.number) (λ n from fits.
                  (unnamed edits v.has_edits n from fits).logs (file_name Log v.log.number)
                  v.log.number (made_name Log v.log.number v.log.fits) v.log.last.replayed)
                  ∙ v.log.there;
              records = v.log.records;
              clean_end = v.log.clean_end;
              batches = v.log.batches;
              each = v.log.each;
            };
            bytes = v.bytes;
          }

      pub written_new : IsWrittenBy store cmp IsTableOf now edits (record memory { set = later })
      written_new = record {
        tracked = tracked_now;
        manifest = w.manifest;
        is_in_use = w.is_in_use;
        writable = writable_now;
        log_is = w.log_is;
        from_log = w.from_log;
        mem_is = w.mem_is;
        imm_is = w.imm_is;
        reached = w.reached;
        last_fits = w.last_fits;
      }
