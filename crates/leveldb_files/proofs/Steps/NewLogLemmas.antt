-- A new log is made, empty, with a number above those of all logs: what is read stays.
use Rattle.leveldb_base.proofs.NamesLemmas.{made_name, one_reading}
use Rattle.leveldb_base.specs.History.{History, greatest}
use Rattle.leveldb_base.specs.Names.{IsFileName, file_name}
use Rattle.leveldb_base.specs.Types.{Pair}
use Rattle.leveldb_base.specs.declared.types.FileType.TheVariants.{Current, Descriptor, Log}
use Rattle.leveldb_env.proofs.EnvLemmas.{FileCrashesTo-kept, SameBut-created, at_other, at_same}
use Rattle.leveldb_env.specs.Env.{BeforeOrAfter, File, FileCrashesTo, Files, FilesCrashTo, SameBut, created, in_folder, kept_file, or_empty, with_file}
use Rattle.leveldb_mem.specs.Log.{clean}
use Rattle.leveldb_files.proofs.Stores.LogsLemmas.{batches_last, rising_last}
use Rattle.leveldb_files.proofs.Stores.ManagedLemmas.{SameBytes, kinds_apart, log_on, managed_on, numbers_apart, same_bytes, same_name, tables_on, tables_same}
use Rattle.leveldb_files.proofs.Stores.ManifestLemmas.{edits_on}
use Rattle.leveldb_files.proofs.Histories.SafeLemmas.{unread_safe}
use Rattle.leveldb_files.specs.Stores.Batches.{AreInOrder, all_entries}
use Rattle.leveldb_files.specs.Stores.Contents.{Contents, Store, made}
use Rattle.leveldb_files.specs.Histories.Holds.{IsHonest, IsSafe}
use Rattle.leveldb_files.specs.Levels.Levels.{table_entries}
use Rattle.leveldb_files.specs.Stores.Paths.{current_path, log_path, table_path}
use Rattle.leveldb_files.specs.Stores.Store.{HasLog, IsManagedBy, LogIsReplayed, IsStore, ReplayedLog, log_batches}
use Rattle.leveldb_files.specs.Steps.StoreSteps.{IsAboveLogs}
use Rattle.leveldb_files.specs.Edits.Edit.{Edit, NewFile}
use Rattle.leveldb_files.specs.Edits.VersionSet.{FileSet, level_file, live_after}
use Rattle.std.proofs.Common.{◌++◌, ◌<◌, ◌^◌, ◌∙◌, ◌∷◌, ◌≡◌, ◌≤◌, ◌⊎◌, Bool, List, None, Option, Some, [], ap, append-nil, arith, false, inl, inr, refl, subst, sym, true, ℕ, ⊎_elim}
use Rattle.std.proofs.lemmas.Bool.{cases_lt}
use Rattle.std.proofs.lemmas.List.Elements.{Contains-append_left, Contains-push, Contains-push_cases}
use Rattle.std.specs.Cmp.Lexicographic.{bytes_decides}
use Rattle.std.specs.Prelude.{◌≢◌, Contains, IsSome, max}
use Rattle.std.specs.Str.{bytes_eq}
use Rattle.std.specs.declared.cmp.Ordering.{Ordering}

-- a number is replayed or not
pub is_replayed : (set : FileSet) (n : ℕ) → IsSome set.log_number
    → LogIsReplayed set n ⊎ (LogIsReplayed set n → ⊥)
is_replayed set n there = by_log set.log_number refl there
  where
    by_previous : (log : ℕ) → set.log_number ≡ Some log → n < log → (previous : Option ℕ)
        → set.previous_log ≡ previous → LogIsReplayed set n ⊎ (LogIsReplayed set n → ⊥)
    by_previous log is less None e = inr (λ r. ⊎_elim
        (λ (h : (l : ℕ) × (set.log_number ≡ Some l) × (l ≤ n)). let same : Some log ≡ Some h.0 =
        sym is ∙ h.1 in
        let le : log ≡ h.0 = ap (λ o. elim o [ Some x ↦ x | None ↦ log ]) same in
        omega (arith, h.2, le, less))
        (λ (h : (set.previous_log ≡ Some n) × (0 < n)). let never : None ≡ Some n = sym e ∙ h.0 in
        cc) r)
    by_previous log is less (Some p) e = ⊎_elim
        (λ (h : (p ≡ n) × (0 < n)). inl (inr (e ∙ ap (λ x. Some x) h.0, h.1)))
        (λ (no : (p ≡ n) × (0 < n) → ⊥). inr (λ r. ⊎_elim
        (λ (h : (l : ℕ) × (set.log_number ≡ Some l) × (l ≤ n)). let same : Some log ≡ Some h.0 =
        sym is ∙ h.1 in
        let le : log ≡ h.0 = ap (λ o. elim o [ Some x ↦ x | None ↦ log ]) same in
        omega (arith, h.2, le, less))
        (λ (h : (set.previous_log ≡ Some n) × (0 < n)). let same : Some p ≡ Some n = sym e
        ∙ h.0 in no (ap (λ o. elim o [ Some x ↦ x | None ↦ p ]) same, h.1)) r))
        (decide p)
      where
        decide : (p : ℕ) → ((p ≡ n) × (0 < n)) ⊎ ((p ≡ n) × (0 < n) → ⊥)
        decide p =
            ⊎_elim (λ (l : p < n). inr (λ h. let e = h.0 in omega (arith, e, l)))
            (λ (ge : n ≤ p). ⊎_elim
            (λ (m : n < p). inr (λ h. let e = h.0 in omega (arith, e, m)))
            (λ (le : p ≤ n). ⊎_elim (λ (pos : 0 < n). inl (omega (arith, ge, le), pos))
            (λ (zero : n ≤ 0). inr (λ h. let q = h.1 in omega (arith, q, zero))) (cases_lt 0 n))
            (cases_lt n p)) (cases_lt p n)

    by_log : (log : Option ℕ) → set.log_number ≡ log → IsSome log
        → LogIsReplayed set n ⊎ (LogIsReplayed set n → ⊥)
    by_log None e some = absurd (let never : false ≡ true = some in cc)
    by_log (Some log) e some =
        ⊎_elim (λ (less : n < log). by_previous log e less set.previous_log refl)
        (λ (le : log ≤ n). inl (inl (log, e, le))) (cases_lt n log)

-- the empty log
abbrev pub empty_log : ℕ → ReplayedLog
empty_log n = record { number = n; batches = []; end = clean; size = 0 }

module _ (store : List ℕ) (cmp : List ℕ → List ℕ → Ordering)
    (IsTableOf : List ℕ → List Pair → Type 0) where
  module _ (left : Files) (edits : List Edit) (contents : Contents)
      (m : IsManagedBy store cmp IsTableOf left edits contents) (n : ℕ) (fits : n < 2 ^ 64)
      (newest : IsAboveLogs store left n) where
    abbrev path : List ℕ
    path = log_path store n

    abbrev new : Files
    new = with_file path (Some (kept_file [])) left

    named : IsFileName (file_name Log n) n Log
    named = made_name Log n fits

    same : SameBut path left new
    same other away = at_other path (Some (kept_file [])) left other away

    tables_stay : (file : NewFile) → file.number < 2 ^ 64
        → (live_after edits).file (level_file file) ≡ Some file
        → SameBytes (left (table_path store file.number)) (new (table_path store file.number))
    tables_stay = tables_same store cmp IsTableOf (live_after edits) (file_name Log n) n Log left new
        named (λ e. cc) same

    below : (log : ReplayedLog) → Contains m.logs log → log.number < n
    below log c =
        let h = m.has_logs.each log c in
        newest (file_name Log log.number) log.number (made_name Log log.number h.2)
        (λ gone. let never : Some h.0.0 ≡ None = sym h.0.1 ∙ gone in cc)

    abbrev logs : List ReplayedLog
    logs = m.logs ++ empty_log n ∷ []

    batches_same : log_batches logs ≡ log_batches m.logs
    batches_same = batches_last m.logs (empty_log n) ∙ append-nil (log_batches m.logs)

    with_it : LogIsReplayed (live_after edits) n → IsManagedBy store cmp IsTableOf new edits contents
    with_it replayed = record {
      comparator = m.comparator;
      comparator_is = m.comparator_is;
      log_is = m.log_is;
      next_file_is = m.next_file_is;
      last = m.last;
      last_is = m.last_is;
      numbers_fit = m.numbers_fit;
      tables = m.tables;
      has_tables = tables_on store cmp IsTableOf (live_after edits) left new m.tables tables_stay
          m.has_tables;
      logs = logs;
      has_logs = record {
        each = λ log c. ⊎_elim
            (λ (early : Contains m.logs log).
            let h = m.has_logs.each log early in
            let apart = numbers_apart store (file_name Log n)
            (file_name Log log.number) n log.number Log Log named (made_name Log log.number h.2)
            (λ e. let l = below log early in omega (arith, l, e)) in (
              log_on store cmp IsTableOf left new log
                  (same_bytes (left (log_path store log.number)) (new (log_path store log.number))
                  (same (log_path store log.number) apart)) h.0,
              h.1,
              h.2,
            ))
            (λ (e : empty_log n ≡ log). subst
            (λ (l : ReplayedLog). HasLog store new l × LogIsReplayed (live_after edits) l.number
            × (l.number < 2 ^ 64)) e (
              (
                kept_file [],
                at_same path (Some (kept_file [])) left,
                record { records = []; read = refl; each = tt; size = refl },
              ),
              replayed,
              fits,
            ))
            (Contains-push_cases m.logs (empty_log n) log c);
        all = all;
        rising = rising_last m.logs (empty_log n) m.has_logs.rising below;
      };
      fit = record {
        rise = subst (AreInOrder 0) (sym batches_same) m.fit.rise;
        ends = λ a b in_a in_b less is_bad. ⊎_elim
            (λ (b_old : Contains m.logs b). ⊎_elim
            (λ (a_old : Contains m.logs a). m.fit.ends a b a_old b_old less is_bad)
            (λ (e : empty_log n ≡ a). let number = ap (λ (x : ReplayedLog). x.number) e in
            let l = below b b_old in absurd (omega (arith, number, l, less)))
            (Contains-push_cases m.logs (empty_log n) a in_a))
            (λ (e : empty_log n ≡ b). sym (ap (λ (x : ReplayedLog). x.size) e))
            (Contains-push_cases m.logs (empty_log n) b in_b);
        numbered = m.fit.numbered;
        below =
            λ entry later t l.
            m.fit.below entry later t
            (subst (λ bs. Contains (all_entries bs) later) batches_same l);
        levels = m.fit.levels;
      };
      is = m.is
          ∙ sym
          (ap (λ bs.
          record {
            store = made (Some m.comparator);
            entries = table_entries m.tables ++ all_entries bs;
            last = max m.last (greatest (all_entries bs));
          }) batches_same);
    }
      where
        all : (name : List ℕ) (k : ℕ) → IsFileName name k Log → LogIsReplayed (live_after edits) k
            → new (in_folder store name) ≢ None
            → (name ≡ file_name Log k)
            × ((log : ReplayedLog) × Contains logs log × (log.number ≡ k))
        all name k is is_replayed some = by (bytes_eq path (in_folder store name)) refl
          where
            by : (b : Bool) → bytes_eq path (in_folder store name) ≡ b
                → (name ≡ file_name Log k)
                × ((log : ReplayedLog) × Contains logs log × (log.number ≡ k))
            by true e =
                let same_path = same_name store (file_name Log n) name
                ((bytes_decides path (in_folder store name)).0 e) in
                let number = (one_reading name n k Log Log
                (subst (λ z. IsFileName z n Log) same_path named) is).0 in (
                  sym same_path ∙ ap (file_name Log) number,
                  (empty_log n, Contains-push m.logs (empty_log n), number),
                )
            by false e =
                let h = m.has_logs.all name k is is_replayed
                (λ gone. some (same (in_folder store name) e ∙ gone)) in
                (h.0, (h.1.0, Contains-append_left m.logs (empty_log n ∷ []) h.1.0 h.1.1, h.1.2))

    without_it : (LogIsReplayed (live_after edits) n → ⊥)
        → IsManagedBy store cmp IsTableOf new edits contents
    without_it never = managed_on store cmp IsTableOf left new edits contents (record {
      tables = tables_stay;
      logs =
          λ name k is replayed.
          same_bytes (left (in_folder store name)) (new (in_folder store name))
          (same (in_folder store name)
          (numbers_apart store (file_name Log n) name n k Log Log named is
          (λ e. never (subst (LogIsReplayed (live_after edits)) (sym e) replayed))));
    }) m

    pub with_new_log : IsManagedBy store cmp IsTableOf new edits contents
    with_new_log = ⊎_elim with_it without_it (is_replayed (live_after edits) n m.log_is)

  -- ---- the step

  -- a crash leaves no other logs
  pub newest_left : (files left : Files) (n : ℕ) → IsAboveLogs store files n
      → FilesCrashTo files left → IsAboveLogs store left n
  newest_left files left n newest leaves name k is some =
      newest name k is
      (λ gone.
      some
      (subst (λ f. FileCrashesTo f (left (in_folder store name))) gone
      (leaves (in_folder store name))))

  pub create_log_safe : (files : Files) (n : ℕ) → n < 2 ^ 64 → IsAboveLogs store files n
      → files (current_path store) ≢ None → files (log_path store n) ≡ None
      → (allowed : Store → Type 0) (bound durable : ℕ) (history : History)
      → IsSafe store (IsStore store cmp IsTableOf) allowed bound durable history files
      → (now : Files) → BeforeOrAfter (created (log_path store n)) files now
      → IsSafe store (IsStore store cmp IsTableOf) allowed bound durable history now
  create_log_safe files n fits newest has_current gone allowed bound durable history safe now
      (inl is) =
      subst (IsSafe store (IsStore store cmp IsTableOf) allowed bound durable history) (sym is) safe
  create_log_safe files n fits newest has_current gone allowed bound durable history safe now
      (inr is) =
      subst (IsSafe store (IsStore store cmp IsTableOf) allowed bound durable history) (sym is)
      (unread_safe store (IsStore store cmp IsTableOf) allowed bound durable history
      (log_path store n) files (created (log_path store n) files)
      (SameBut-created (log_path store n) files (created (log_path store n) files) (inr refl))
      still safe)
    where
      there : created (log_path store n) files (log_path store n) ≡ Some (kept_file [])
      there = at_same (log_path store n) (or_empty (files (log_path store n))) files
          ∙ ap or_empty gone

      still : (left : Files) (contents : Contents) (file : Option File) → FilesCrashTo files left
          → IsHonest store files left
          → FileCrashesTo (created (log_path store n) files (log_path store n)) file
          → IsStore store cmp IsTableOf left contents
          → IsStore store cmp IsTableOf (with_file (log_path store n) file left) contents
      still left contents file leaves honest here (inl bare) =
          absurd
          (has_current (missing_left (files (current_path store)) (leaves (current_path store))))
        where
          missing_left : (f : Option File) → FileCrashesTo f (left (current_path store)) → f ≡ None
          missing_left None l = refl
          missing_left (Some f) l =
              absurd
              (let never : Some (kept_file (f.kept ++ l.0)) ≡ None = sym l.3 ∙ bare.0.no_current in
              cc)
      still left contents file leaves honest here (inr m) =
          let is_empty : file
          ≡ Some (kept_file []) =
          FileCrashesTo-kept [] file (subst (λ f. FileCrashesTo f file) there here) in
          let named = made_name Log n fits in
          inr (record {
            edits = m.edits;
            has_edits =
                edits_on store cmp IsTableOf (log_path store n) left
                (with_file (log_path store n) file left) m.edits m.has_edits
                (λ other away. at_other (log_path store n) file left other away)
                (kinds_apart store (file_name Log n) (file_name Current 0) n 0 Log Current named
                (made_name Current 0 refl) (λ e. cc))
                (kinds_apart store
                (file_name Log n) m.has_edits.name n m.has_edits.number Log Descriptor named
                m.has_edits.named.0 (λ e. cc));
            managed =
                subst
                (λ f.
                IsManagedBy store cmp IsTableOf
                (with_file (log_path store n) f left) m.edits contents) (sym is_empty)
                (with_new_log left m.edits contents m.managed n fits
                (newest_left files left n newest leaves));
          })
