-- Files are a store with one contents.
use Rattle.leveldb_base.proofs.HistoryLemmas.{in_cases, in_front, in_none, in_rest}
use Rattle.leveldb_base.proofs.KeyTypesLemmas.{type_part-internal_key}
use Rattle.leveldb_base.proofs.NamesLemmas.{made_name}
use Rattle.leveldb_base.specs.CmpLaws.{sequence_part-internal_key, user_part-internal_key}
use Rattle.leveldb_base.specs.History.{Entry, greatest}
use Rattle.leveldb_base.specs.KeyTypes.{internal_key, sequence_part, type_part, user_part}
use Rattle.leveldb_base.specs.Names.{file_name}
use Rattle.leveldb_base.specs.Types.{Pair}
use Rattle.leveldb_base.specs.declared.types.FileType.TheVariants.{Log}
use Rattle.leveldb_env.specs.Env.{File, Files, bytes_of}
use Rattle.leveldb_mem.proofs.LawsLemmas.{log_laws}
use Rattle.leveldb_base.specs.Entries.{value_of}
use Rattle.leveldb_files.proofs.Stores.BatchesLemmas.{each_one, one_batches}
use Rattle.leveldb_files.proofs.Stores.ManifestLemmas.{read_by}
use Rattle.leveldb_files.proofs.Histories.SafeLemmas.{some_is}
use Rattle.leveldb_files.proofs.Edits.EditLemmas.{one_edit}
use Rattle.leveldb_files.specs.Stores.Batches.{Each, IsRecordOf}
use Rattle.leveldb_files.specs.Stores.Contents.{Contents, made}
use Rattle.leveldb_files.specs.Levels.Levels.{LiveTable, table_entries}
use Rattle.leveldb_files.specs.Stores.Paths.{log_path, table_path}
use Rattle.leveldb_files.specs.Stores.Store.{HasLogs, HasTable, HasTables, IsInternalPair, IsLog, IsManagedBy, IsStore, LogsRise, OneTableReading, ReplayedLog, SameContents, log_entries}
use Rattle.leveldb_files.specs.Edits.Edit.{Edit, IsEdit}
use Rattle.leveldb_files.specs.Edits.VersionSet.{FileSet, live_after}
use Rattle.std.proofs.Common.{◌++◌, ◌∙◌, ◌∷◌, ◌≡◌, List, None, Some, [], ap, arith, inl, inr, refl, subst, sym, ℕ, ⊎_elim}
use Rattle.std.proofs.lemmas.List.Elements.{Contains-append_cases, Contains-append_left, Contains-append_right}
use Rattle.std.specs.Prelude.{Contains, flat_map, max}
use Rattle.std.specs.declared.cmp.Ordering.{Ordering}

-- ---- lists of lists

pub in_flat : {A B : Type 0} (f : A → List B) (xs : List A) (y : B) → Contains (flat_map f xs) y
    → (x : A) × Contains xs x × Contains (f x) y
in_flat f [] y c = absurd (in_none y c)
in_flat f (x ∷ xs) y c = ⊎_elim
    (λ (here : Contains (f x) y). (x, in_front x xs, here))
    (λ (there : Contains (flat_map f xs) y). let r = in_flat f xs y there in
    (r.0, in_rest x r.0 xs r.1, r.2))
    (Contains-append_cases (f x) (flat_map f xs) y c)

pub flat_in : {A B : Type 0} (f : A → List B) (xs : List A) (x : A) (y : B) → Contains xs x
    → Contains (f x) y → Contains (flat_map f xs) y
flat_in f [] x y c there = absurd (in_none x c)
flat_in f (first ∷ xs) x y c there = ⊎_elim
    (λ (e : first ≡ x). Contains-append_left (f first) (flat_map f xs) y
    (subst (λ z. Contains (f z) y) (sym e) there))
    (λ (rest : Contains xs x). Contains-append_right (f first) (flat_map f xs) y
    (flat_in f xs x y rest there))
    (in_cases first x xs c)

-- ---- one pair is one entry

pub one_entry : (pair : Pair) (a b : Entry) → IsInternalPair pair a → IsInternalPair pair b → a ≡ b
one_entry pair a b p q =
    let same : internal_key a.key a.sequence p.kind
    ≡ internal_key b.key b.sequence q.kind = sym p.key ∙ q.key in
    let key = sym (user_part-internal_key a.key a.sequence p.kind) ∙ ap user_part same
    ∙ user_part-internal_key b.key b.sequence q.kind in
    let number = sym (sequence_part-internal_key a.key a.sequence p.kind p.fits)
    ∙ ap sequence_part same ∙ sequence_part-internal_key b.key b.sequence q.kind q.fits in
    let kind = sym (type_part-internal_key a.key a.sequence p.kind p.fits) ∙ ap type_part same
    ∙ type_part-internal_key b.key b.sequence q.kind q.fits in
    let value = p.value ∙ ap (λ k. value_of k pair.1) kind ∙ sym q.value in
    λ i. record { sequence = number i; key = key i; value = value i }

-- ---- one file is one log

pub one_log : (file : File) (a b : ReplayedLog) → a.number ≡ b.number → IsLog file a → IsLog file b
    → a ≡ b
one_log file a b number p q =
    let same = log_laws.one (bytes_of file) p.records q.records a.end b.end p.read q.read in
    let batches = one_batches q.records a.batches b.batches
    (subst (λ rs. Each IsRecordOf rs a.batches) same.0 p.each) q.each in
    let size = p.size ∙ sym q.size in
    λ i. record { number = number i; batches = batches i; end = same.1 i; size = size i }

-- rising logs that have each other's are the same
pub one_rising : (these those : List ReplayedLog) → LogsRise these → LogsRise those
    → ((log : ReplayedLog) → Contains these log → Contains those log)
    → ((log : ReplayedLog) → Contains those log → Contains these log) → these ≡ those
one_rising [] [] r s to from = refl
one_rising [] (b ∷ those) r s to from = absurd (in_none b (from b (in_front b those)))
one_rising (a ∷ these) [] r s to from = absurd (in_none a (to a (in_front a these)))
one_rising (a ∷ these) (b ∷ those) r s to from =
    joined heads (one_rising these those r.1 s.1 to_rest from_rest)
  where
    heads : a ≡ b
    heads = ⊎_elim
        (λ (e : b ≡ a). sym e)
        (λ (there : Contains those a). ⊎_elim
        (λ (e : a ≡ b). e)
        (λ (back : Contains these b). let l = s.0 a there in let m = r.0 b back in
        absurd (omega (arith, l, m)))
        (in_cases a b these (from b (in_front b those))))
        (in_cases b a those (to a (in_front a these)))

    to_rest : (log : ReplayedLog) → Contains these log → Contains those log
    to_rest log c = ⊎_elim
        (λ (e : b ≡ log). let l = r.0 log c in
        let n = ap (λ (x : ReplayedLog). x.number) (heads ∙ e) in absurd (omega (arith, l, n)))
        (λ (rest : Contains those log). rest)
        (in_cases b log those (to log (in_rest a log these c)))

    from_rest : (log : ReplayedLog) → Contains those log → Contains these log
    from_rest log c = ⊎_elim
        (λ (e : a ≡ log). let l = s.0 log c in
        let n = ap (λ (x : ReplayedLog). x.number) (sym heads ∙ e) in
        absurd (omega (arith, l, n)))
        (λ (rest : Contains these log). rest)
        (in_cases a log these (from log (in_rest b log those c)))

    joined : a ≡ b → these ≡ those → a ∷ these ≡ b ∷ those
    joined e es = λ i. e i ∷ es i

-- ---- one reading

module _ (store : List ℕ) (cmp : List ℕ → List ℕ → Ordering)
    (IsTableOf : List ℕ → List Pair → Type 0) (one : OneTableReading IsTableOf) where
  pub one_table : (files : Files) (a b : LiveTable) → a.file ≡ b.file
      → HasTable store cmp IsTableOf files a → HasTable store cmp IsTableOf files b
      → a.entries ≡ b.entries
  one_table files a b same p q =
      let file = some_is p.file q.file
      (sym p.there ∙ ap (λ (f : _). files (table_path store f.number)) same ∙ q.there) in
      let pairs = one (bytes_of q.file) p.pairs q.pairs
      (subst (λ f. IsTableOf (bytes_of f) p.pairs) file p.read) q.read in
      each_one IsInternalPair one_entry q.pairs a.entries b.entries
      (subst (λ ps. Each IsInternalPair ps a.entries) pairs p.each) q.each

  pub tables_in : (files : Files) (set : FileSet) (these those : List LiveTable)
      → HasTables store cmp IsTableOf files set these
      → HasTables store cmp IsTableOf files set those
      → (entry : Entry) → Contains (table_entries these) entry
      → Contains (table_entries those) entry
  tables_in files set these those p q entry c =
      let t = in_flat (λ (table : LiveTable). table.entries) these entry c in
      let h = p.each t.0 t.1 in
      let u = q.all t.0.file h.1 in
      let same = one_table files t.0 u.0 (sym u.2) h.0 (q.each u.0 u.1).0 in
      flat_in (λ (table : LiveTable). table.entries) those u.0 entry u.1
      (subst (λ es. Contains es entry) same t.2)

  pub logs_in : (files : Files) (set : FileSet) (these those : List ReplayedLog)
      → HasLogs store files set these → HasLogs store files set those → (log : ReplayedLog)
      → Contains these log → Contains those log
  logs_in files set these those p q log c =
      let h = p.each log c in
      let u = q.all (file_name Log log.number) log.number (made_name Log log.number h.2) h.1
      (λ gone. let never : Some h.0.0 ≡ None = sym h.0.1 ∙ gone in absurd (cc)) in
      let other = u.1.0 in
      let has = (q.each other u.1.1).0 in
      let file = some_is h.0.0 has.0
      (sym h.0.1 ∙ ap (λ n. files (log_path store n)) (sym u.1.2) ∙ has.1) in
      let same = one_log has.0 log other (sym u.1.2) (subst (λ f. IsLog f log) file h.0.2) has.2 in
      subst (λ l. Contains those l) (sym same) u.1.1

  one_managed : (files : Files) (edits : List Edit) (a b : Contents)
      → IsManagedBy store cmp IsTableOf files edits a
      → IsManagedBy store cmp IsTableOf files edits b → SameContents a b
  one_managed files edits a b p q =
      let set = live_after edits in
      let name = some_is p.comparator q.comparator (sym p.comparator_is ∙ q.comparator_is) in
      let last = some_is p.last q.last (sym p.last_is ∙ q.last_is) in
      let logs = one_rising p.logs q.logs p.has_logs.rising q.has_logs.rising
      (logs_in files set p.logs q.logs p.has_logs q.has_logs)
      (logs_in files set q.logs p.logs q.has_logs p.has_logs) in
      let to = tables_in files set p.tables q.tables p.has_tables q.has_tables in
      let from = tables_in files set q.tables p.tables q.has_tables p.has_tables in
      record {
        store = ap (λ (c : Contents). c.store) p.is ∙ ap (λ n. made (Some n)) name
            ∙ sym (ap (λ (c : Contents). c.store) q.is);
        entries = λ entry. (
          λ c.
              subst (λ (x : Contents). Contains x.entries entry) (sym q.is)
              (both p.tables p.logs q.tables q.logs to logs entry
              (subst (λ (x : Contents). Contains x.entries entry) p.is c)),
          λ c.
              subst (λ (x : Contents). Contains x.entries entry) (sym p.is)
              (both q.tables q.logs p.tables p.logs from (sym logs) entry
              (subst (λ (x : Contents). Contains x.entries entry) q.is c)),
        );
        last = ap (λ (c : Contents). c.last) p.is
            ∙ ap (λ n. max n (greatest (log_entries p.logs))) last
            ∙ ap (λ ls. max q.last (greatest (log_entries ls))) logs
            ∙ sym (ap (λ (c : Contents). c.last) q.is);
      }
    where
      both :
          (ts : List LiveTable) (ls : List ReplayedLog) (us : List LiveTable)
          (ms : List ReplayedLog)
          → ((entry : Entry) → Contains (table_entries ts) entry
          → Contains (table_entries us) entry) → ls ≡ ms
          → (entry : Entry) → Contains (table_entries ts ++ log_entries ls) entry
          → Contains (table_entries us ++ log_entries ms) entry
      both ts ls us ms so same entry c = ⊎_elim
          (λ (t : Contains (table_entries ts) entry). Contains-append_left (table_entries us)
          (log_entries ms) entry (so entry t))
          (λ (l : Contains (log_entries ls) entry). Contains-append_right (table_entries us)
          (log_entries ms) entry (subst (λ x. Contains (log_entries x) entry) same l))
          (Contains-append_cases (table_entries ts) (log_entries ls) entry c)

  pub one_store : (files : Files) (these those : Contents) → IsStore store cmp IsTableOf files these
      → IsStore store cmp IsTableOf files those → SameContents these those
  one_store files these those (inl a) (inl b) =
      let same = a.1 ∙ sym b.1 in
      record {
        store = ap (λ (c : Contents). c.store) same;
        entries =
            λ entry. (
              λ c. subst (λ (x : Contents). Contains x.entries entry) same c,
              λ c. subst (λ (x : Contents). Contains x.entries entry) (sym same) c,
            );
        last = ap (λ (c : Contents). c.last) same;
      }
  one_store files these those (inl a) (inr b) =
      absurd
      (let never : None ≡ Some b.has_edits.current = sym a.0.no_current
      ∙ b.has_edits.current_there in cc)
  one_store files these those (inr a) (inl b) =
      absurd
      (let never : None ≡ Some a.has_edits.current = sym b.0.no_current
      ∙ a.has_edits.current_there in cc)
  one_store files these those (inr a) (inr b) =
      let e = b.has_edits in
      let by = read_by store cmp IsTableOf e.name e.number e.current e.named files e.manifest
      e.is.records e.is.end these e.current_there e.there e.is.read (inr a) in
      let same : by.edits
      ≡ b.edits =
      each_one IsEdit
      (λ t x y p q. one_edit t x y p q) e.is.records by.edits b.edits by.each e.is.each in
      one_managed files b.edits these those
      (subst (λ es. IsManagedBy store cmp IsTableOf files es these) same by.managed) b.managed
