-- Which files are obsolete, and what their removal keeps of an open store.
use Rattle.std.proofs.Common.{◌≡◌, ◌⊎◌, ◌∙◌, ◌++◌, ◌+◌, ◌-◌, ◌^◌, ◌<◌, ◌≤◌, inl, inr, ⊎_elim, ℕ, Bool, true, false, cond, drop, eqb, List, [], ◌∷◌, None, Option, Some, Ok, Err, Result, ap, arith, fold, get_or, length, map, refl, subst, suc, sym, take, zero}
use Rattle.std.specs.Prelude.{◌↔◌, ◌≢◌, All, Contains, IfErr, IsSome, IsTrue, OnOk, codes, not}
use Rattle.std.specs.BTreeMap.{is_at}
use Rattle.std.specs.BTreeSet.{BTreeSet, contains, insert_key}
use Rattle.std.specs.Cmp.Lexicographic.{bytes_decides}
use Rattle.std.specs.List.{IsDistinct}
use Rattle.std.specs.Ordering.{match_ordering, nat_cmp}
use Rattle.std.specs.Str.{bytes_eq}
use Rattle.std.specs.Str.Parse.{AllDigits, digits_value}
use Rattle.std.specs.declared.cmp.Ordering.{Ordering}
use Rattle.std.specs.declared.cmp.Ordering.TheVariants.{Equal, Greater, Less}
use Rattle.std.proofs.lemmas.Bool.{cases_lt}
use Rattle.std.proofs.lemmas.Cmp.{nat_cmp_total}
use Rattle.std.proofs.lemmas.List.{get_or_default}
use Rattle.std.proofs.lemmas.List.Elements.{All-cons, All-contains, All-contains_itself, All-from_recursion, All-head, All-nil, All-tail, All-weaker, Contains-append_cases, Contains-push_cases}
use Rattle.std.proofs.lemmas.Map.Keys.{IsDistinct-head, IsDistinct-tail}
use Rattle.std.proofs.lemmas.Map.Lookups.{exact_unsigned}
use Rattle.std.proofs.lemmas.Map.Views.{All-insert_key, All-set_contains, Contains-from_any}
use Rattle.std.proofs.lemmas.Str.Parse.{IsNumeralModel, not_in_digits, numerals_by_value, tells_digits}
use Rattle.leveldb_base.proofs.HistoryLemmas.{in_cases, in_front, in_none, in_rest}
use Rattle.leveldb_base.proofs.NamesLemmas.{made_name, one_reading}
use Rattle.leveldb_base.specs.Error.{IsOutOfMemory}
use Rattle.leveldb_base.specs.History.{History}
use Rattle.leveldb_base.specs.Names.{IsFileName, IsNumber, IsNumbered, file_name}
use Rattle.leveldb_base.specs.declared.error.Status.{Status}
use Rattle.leveldb_base.specs.declared.error.StatusCode.TheVariants.{NotFound}
use Rattle.leveldb_base.specs.declared.types.FileType.{FileType}
use Rattle.leveldb_base.specs.declared.types.FileType.TheVariants.{Current, DBLock, Descriptor, InfoLog, Log, Table, Temp}
use Rattle.leveldb_env.proofs.EnvLemmas.{Run-mono, Run-trans, SameBut-deleted, at_other, at_same, begun, bytes_eq-apart, call, with_file-itself}
use Rattle.leveldb_env.specs.Env.{BeforeOrAfter, ChangesFiles, File, Files, FilesUnchanged, HasCause, IsEmptyFolder, IsMissing, ListsChildren, Observed, Run, SameBut, SameLocks, deleted, in_folder, same, with_file}
use Rattle.leveldb_env.specs.declared.env.Env.{Ghosts}
use Rattle.leveldb_files.proofs.Steps.BytesLemmas.{bytes_stay}
use Rattle.leveldb_files.proofs.Steps.KeepsLemmas.{unread_keeps}
use Rattle.leveldb_version_set.proofs.Sets.LogKeepsLemmas.{keeps_then}
use Rattle.leveldb_files.proofs.Stores.ManagedLemmas.{same_name}
use Rattle.leveldb_version_set.proofs.Sets.TrackedLemmas.{numbered_up_to, unread_unnamed}
use Rattle.leveldb_version_set.proofs.Sets.UsableLemmas.{if_err_more, on_ok_more}
use Rattle.leveldb_version_set.proofs.Engines.WrittenLemmas.{obsolete_is_unread, written_unread}
use Rattle.leveldb_files.specs.Stores.Contents.{Store}
use Rattle.leveldb_files.specs.Stores.Paths.{log_path, table_path}
use Rattle.leveldb_files.specs.Steps.StoreSteps.{IsUnnamed, IsUnread}
use Rattle.leveldb_files.specs.Edits.Edit.{NewFile}
use Rattle.leveldb_files.specs.Edits.VersionSet.{live_after}
use Rattle.leveldb_version_set.specs.Sets.VersionSetValue.{VersionSetValue, broken, numbers_in_order}
use Rattle.leveldb_version_set.specs.Engines.Writing.{IsObsolete}
use Rattle.leveldb_files.specs.Stores.Format.{IsTableOf, Meaning}
use Rattle.leveldb_store.specs.Keeping.KeptBytes.{IsKept}
use Rattle.leveldb_store.specs.Keeping.OpenStore.{OpenStoreValue}
use Rattle.leveldb_store.specs.Writing.Switch.{AreRemoved, DeletesFile, HasFirstCause, IsFirstError, IsMemoryOut, IsObsoleteName, IsObsoletePath, LeavesFailed, RemovesName, RemovesNames, RemovesNoOther, RemovesObsolete, without_files}
use Rattle.leveldb_store.specs.Keeping.Written.{IsWritten, KeepsShown, KeepsStore, HasView, memory_of}
use Rattle.leveldb_store.proofs.Writing.SwitchLemmas.{Keeps, keeps_same, shows_stay, written_as}

-- ---- the numbers of live files

inserted_here : (keys : List ℕ) (key : ℕ) → Contains (insert_key nat_cmp keys key) key
inserted_here [] key = in_front key []
inserted_here (x ∷ keys) key = by (nat_cmp key x) refl (inserted_here keys key)
  where
    by : (o : Ordering) → nat_cmp key x ≡ o → Contains (insert_key nat_cmp keys key) key → Contains (match_ordering o (key ∷ x ∷ keys) (x ∷ keys) (x ∷ insert_key nat_cmp keys key)) key
    by Less e later = in_front key (x ∷ keys)
    by Equal e later = subst (Contains (x ∷ keys)) (sym (exact_unsigned key x e)) (in_front x keys)
    by Greater e later = in_rest x key (insert_key nat_cmp keys key) later

inserted_still : (keys : List ℕ) (key q : ℕ) → Contains keys q → Contains (insert_key nat_cmp keys key) q
inserted_still [] key q c = absurd (in_none q c)
inserted_still (x ∷ keys) key q c = by (nat_cmp key x) (inserted_still keys key q)
  where
    by : (o : Ordering) → (Contains keys q → Contains (insert_key nat_cmp keys key) q) → Contains (match_ordering o (key ∷ x ∷ keys) (x ∷ keys) (x ∷ insert_key nat_cmp keys key)) q
    by Less later = in_rest key q (x ∷ keys) c
    by Equal later = c
    by Greater later = ⊎_elim
        (λ (same : x ≡ q). subst (Contains (x ∷ insert_key nat_cmp keys key)) same (in_front x (insert_key nat_cmp keys key)))
        (λ (rest : Contains keys q). in_rest x q (insert_key nat_cmp keys key) (later rest))
        (in_cases x q keys c)

inserted_only : (keys : List ℕ) (key q : ℕ) → Contains (insert_key nat_cmp keys key) q → Contains keys q ⊎ (key ≡ q)
inserted_only keys key q c =
    All-contains (λ x. Contains keys x ⊎ (key ≡ x)) (insert_key nat_cmp keys key) q
    (All-insert_key nat_cmp key (λ x. Contains keys x ⊎ (key ≡ x)) keys (All-weaker (Contains keys) (λ x. Contains keys x ⊎ (key ≡ x)) (λ x here. inl here) keys (All-contains_itself keys)) (inr refl)) c

folded_in : (xs keys : List ℕ) (q : ℕ) → Contains keys q ⊎ Contains xs q → Contains (fold (insert_key nat_cmp) keys xs) q
folded_in [] keys q (inl c) = c
folded_in [] keys q (inr c) = absurd (in_none q c)
folded_in (x ∷ xs) keys q (inl c) = folded_in xs (insert_key nat_cmp keys x) q (inl (inserted_still keys x q c))
folded_in (x ∷ xs) keys q (inr c) = ⊎_elim
    (λ (same : x ≡ q). folded_in xs (insert_key nat_cmp keys x) q (inl (subst (Contains (insert_key nat_cmp keys x)) same (inserted_here keys x))))
    (λ (rest : Contains xs q). folded_in xs (insert_key nat_cmp keys x) q (inr rest))
    (in_cases x q xs c)

folded_only : (xs keys : List ℕ) (q : ℕ) → Contains (fold (insert_key nat_cmp) keys xs) q → Contains keys q ⊎ Contains xs q
folded_only [] keys q c = inl c
folded_only (x ∷ xs) keys q c = ⊎_elim
    (λ (before : Contains (insert_key nat_cmp keys x) q). ⊎_elim
    (λ (there : Contains keys q). inl there)
    (λ (same : x ≡ q). inr (subst (Contains (x ∷ xs)) same (in_front x xs)))
    (inserted_only keys x q before))
    (λ (rest : Contains xs q). inr (in_rest x q xs rest))
    (folded_only xs (insert_key nat_cmp keys x) q c)

-- the numbers in order are those of the files
pub in_order : (files : List NewFile) (q : ℕ) → Contains (numbers_in_order files) q ↔ Contains (map (λ (file : NewFile). file.number) files) q
in_order files q = (
  λ c. ⊎_elim (λ (none : Contains [] q). absurd (in_none q none)) (λ there. there) (folded_only (map (λ (file : NewFile). file.number) files) [] q c),
  λ c. folded_in (map (λ (file : NewFile). file.number) files) [] q (inr c),
)

-- a set of these numbers lacks a number exactly if no file has it
pub lacks : (files : List NewFile) (live : BTreeSet ℕ) → live.keys ≡ numbers_in_order files → (q : ℕ) (found : Bool) → found ≡ contains nat_cmp live q
    → IsTrue (not found) ↔ (Contains (map (λ (file : NewFile). file.number) files) q → ⊥)
lacks files live is q true same = (
  λ never. let wrong : false ≡ true = never in absurd (cc wrong),
  λ none. absurd (none ((in_order files q).0 (subst (λ keys. Contains keys q) is (Contains-from_any {eq = λ x y. is_at (nat_cmp x) y} found_is q live.keys (sym same))))),
)
  where
    found_is : (x y : ℕ) → is_at (nat_cmp x) y ≡ true → x ≡ y
    found_is x y e = by (nat_cmp x y) refl e
      where
        by : (o : Ordering) → nat_cmp x y ≡ o → is_at (λ key. o) y ≡ true → x ≡ y
        by Equal e at = exact_unsigned x y e
        by Less e at = let never : false ≡ true = at in absurd (cc never)
        by Greater e at = let never : false ≡ true = at in absurd (cc never)
lacks files live is q false same = (
  λ yes has. let there : contains nat_cmp live q ≡ true = All-contains (λ k. contains nat_cmp live k ≡ true) live.keys q (All-set_contains nat_cmp_total live) (subst (λ keys. Contains keys q) (sym is) ((in_order files q).1 has)) in
      let never : false ≡ true = same ∙ there in absurd (cc never),
  λ none. refl,
)

-- ---- names

-- a name has one reading, so that it is obsolete only if its file is
pub not_obsolete_name : (set : VersionSetValue) (kept_to : Option ℕ) (name : List ℕ) (n : ℕ) (kind : FileType) → IsFileName name n kind → (IsObsolete set kind n → ⊥)
    → IsObsoleteName set kept_to name → ⊥
not_obsolete_name set kept_to name n kind is wanted it =
    let one = one_reading name it.0 n it.1 kind it.2 is in
    wanted (subst (λ k. IsObsolete set k n) one.1 (subst (IsObsolete set it.1) one.0 it.3))

-- nor is one that is kept
pub kept_name : (set : VersionSetValue) (kept_to : Option ℕ) (name : List ℕ) (n : ℕ) (kind : FileType) → IsFileName name n kind → IsKept kept_to n
    → IsObsoleteName set kept_to name → ⊥
kept_name set kept_to name n kind is kept it = it.4 (subst (IsKept kept_to) (sym (one_reading name it.0 n it.1 kind it.2 is).0) kept)

own : IsNumeralModel (AllDigits 10) (digits_value 10)
own = numerals_by_value (AllDigits 10) tells_digits

-- digits have no `/`
digits_unslashed : (text : List ℕ) (n : ℕ) → IsNumber text n → Contains text 47 → ⊥
digits_unslashed text n number c = not_in_digits own text 47 number.digits.1 (λ h. omega (arith, h)) c.0 c.1 (get_or_default text c.0 0 47 c.1 ∙ c.2)

-- whether a text has a `/`
has_slash : List ℕ → Bool
has_slash [] = false
has_slash (x ∷ text) = cond (eqb x 47) true (has_slash text)

unslashed : (text : List ℕ) → has_slash text ≡ false → Contains text 47 → ⊥
unfolding has_slash
unslashed [] e c = in_none 47 c
unslashed (x ∷ text) e c = by (eqb x 47) refl e (λ rest. unslashed text rest)
  where
    by : (b : Bool) → eqb x 47 ≡ b → cond b true (has_slash text) ≡ false → (has_slash text ≡ false → Contains text 47 → ⊥) → ⊥
    by true is never later = let wrong : true ≡ false = never in absurd (cc wrong)
    by false is rest later = ⊎_elim
        (λ (same : x ≡ 47). let wrong : true ≡ false = sym (ap (λ y. eqb y 47) same) ∙ is in absurd (cc wrong))
        (λ (more : Contains text 47). later rest more)
        (in_cases x 47 text c)

numbered_unslashed : (front back name : List ℕ) (n : ℕ) → has_slash front ≡ false → has_slash back ≡ false → IsNumbered front back name n → Contains name 47 → ⊥
numbered_unslashed front back name n plain_front plain_back is c = ⊎_elim
    (λ (there : Contains (front ++ is.0) 47). ⊎_elim
    (λ (before : Contains front 47). unslashed front plain_front before)
    (λ (digit : Contains is.0 47). digits_unslashed is.0 n is.1 digit)
    (Contains-append_cases front is.0 47 there))
    (λ (after : Contains back 47). unslashed back plain_back after)
    (Contains-append_cases (front ++ is.0) back 47 (subst (λ z. Contains z 47) is.2 c))

-- a store's file has no `/` in its name
pub name_unslashed : (name : List ℕ) (n : ℕ) (kind : FileType) → IsFileName name n kind → Contains name 47 → ⊥
unfolding has_slash
name_unslashed name n Log is c = numbered_unslashed [] (codes ".log") name n refl refl is c
name_unslashed name n DBLock is c = unslashed (codes "LOCK") refl (subst (λ z. Contains z 47) is.0 c)
name_unslashed name n Table (inl is) c = numbered_unslashed [] (codes ".ldb") name n refl refl is c
name_unslashed name n Table (inr is) c = numbered_unslashed [] (codes ".sst") name n refl refl is c
name_unslashed name n Descriptor is c = numbered_unslashed (codes "MANIFEST-") [] name n refl refl is c
name_unslashed name n Current is c = unslashed (codes "CURRENT") refl (subst (λ z. Contains z 47) is.0 c)
name_unslashed name n Temp is c = numbered_unslashed [] (codes ".dbtmp") name n refl refl is c
name_unslashed name n InfoLog (inl is, none) c = unslashed (codes "LOG") refl (subst (λ z. Contains z 47) is c)
name_unslashed name n InfoLog (inr is, none) c = unslashed (codes "LOG.old") refl (subst (λ z. Contains z 47) is c)

-- ---- one file is removed

module _ {C : Type 0} (cmp : List ℕ → List ℕ → Ordering) (meaning : Meaning) (allowed : Store → Type 0) (old : OpenStoreValue C) where
  abbrev store : List ℕ
  store = old.set.store

  -- what a removal keeps of the store's files
  pub record KeepsFiles (before after : Files) : Type 0 where
    pub moments : (bound : ℕ) → Keeps cmp meaning allowed store bound before after
    pub written : IsWritten cmp meaning old after
    pub shows : (history : History) → KeepsShown cmp meaning old before history old after history

  none_kept : (files now : Files) → now ≡ files → IsWritten cmp meaning old files → KeepsFiles files now
  none_kept files now is w = record {
    moments = λ bound. keeps_same cmp meaning allowed store bound files now is;
    written = subst (IsWritten cmp meaning old) (sym is) w;
    shows = λ history since s. subst (λ f. HasView cmp meaning old f history since) (sym is) s;
  }

  module _ (files : Files) (w : IsWritten cmp meaning old files) (name : List ℕ) (n : ℕ) (kind : FileType) (is : IsFileName name n kind) (gone : IsObsolete old.set kind n) where
    abbrev path : List ℕ
    path = in_folder store name

    abbrev after : Files
    after = deleted path files

    abbrev log_file : File
    log_file = w.by.writable.log.file

    unread : IsUnread store files path
    unread = obsolete_is_unread store cmp (IsTableOf cmp meaning) files w.edits (memory_of old) w.by name n kind is gone

    unnamed : IsUnnamed store (live_after w.edits) path
    unnamed = unread_unnamed store cmp (IsTableOf cmp meaning) path files w.edits w.by.tracked.has_edits w.by.tracked.bytes unread

    same_but : SameBut path files after
    same_but = SameBut-deleted path files after (inr refl)

    table_there : (file : NewFile) → Contains old.set.full.added file → after (table_path store file.number) ≡ files (table_path store file.number)
    table_there file added =
        let live = (w.by.tracked.tracks.left.full.added.live file).0 added in
        let found = w.by.tracked.managed.has_tables.all file live in
        let fits : file.number < 2 ^ 64 = subst (λ (f : NewFile). f.number < 2 ^ 64) found.2 (w.by.tracked.managed.has_tables.each found.0 found.1).2 in
        same_but (table_path store file.number) (unnamed.tables file fits live)

    log_there : after (log_path store w.by.writable.log.number) ≡ Some log_file
    log_there = same_but (log_path store w.by.writable.log.number)
        (unnamed.logs (file_name Log w.by.writable.log.number) w.by.writable.log.number (made_name Log w.by.writable.log.number w.by.writable.log.fits) w.by.writable.log.last.replayed) ∙ w.by.writable.log.there

    there_removed : files path ≢ None → KeepsFiles files after
    there_removed there = record {
      moments = λ bound. unread_keeps store cmp (IsTableOf cmp meaning) allowed path files after same_but w.by.tracked.bytes unread bound;
      written = written_as cmp meaning old after w.edits
          (written_unread store cmp (IsTableOf cmp meaning) files w.edits (memory_of old) w.by path unread
          (numbered_up_to store cmp (IsTableOf cmp meaning) name n kind is old.set.next_file (w.by.tracked.numbers name n kind is there)) after same_but
          ((bytes_stay files w.by.tracked.bytes).delete path))
          log_file (subst (λ k. after (log_path store k) ≡ Some log_file) w.by.log_is log_there) w.writer;
      shows = λ history since s. shows_stay cmp meaning old old files after history since refl refl refl refl table_there s;
    }

    pub one_removed : KeepsFiles files after
    one_removed = by (files path) refl
      where
        by : (file : Option File) → files path ≡ file → KeepsFiles files after
        by None none = none_kept files after (ap (λ (f : Option File). with_file path f files) (sym none) ∙ with_file-itself path files) w
        by (Some file) some = there_removed (λ none. let never : Some file ≡ None = sym some ∙ none in cc)

  -- one after the other
  all_removed : (paths : List (List ℕ)) → All (IsObsoletePath old.set old.kept_to) paths → (files : Files) → IsWritten cmp meaning old files → KeepsFiles files (without_files paths files)
  all_removed [] obsolete files w = none_kept files files refl w
  all_removed (path ∷ paths) obsolete files w =
      let first = all_removed paths (All-tail (IsObsoletePath old.set old.kept_to) path paths obsolete) files w in
      let it = All-head (IsObsoletePath old.set old.kept_to) path paths obsolete in
      let name = it.1 in
      let second = one_removed (without_files paths files) first.written it.0 name.0 name.1 name.2 name.3 in
      let mid = without_files paths files in
      subst (λ p. KeepsFiles files (deleted p mid)) (sym it.2) (record {
        moments = λ bound. keeps_then store cmp (IsTableOf cmp meaning) allowed bound files mid (deleted (in_folder store it.0) mid) (first.moments bound) (second.moments bound);
        written = second.written;
        shows = λ history since s. second.shows history since (first.shows history since s);
      })

  -- a removal keeps the store
  pub removal_keeps : (from to : Observed) → Run (AreRemoved old.set old.kept_to from.disk.files) from to → IsWritten cmp meaning old from.disk.files → KeepsStore cmp meaning allowed old from old to
  removal_keeps from to run w = record {
    moments = λ bound reached. Run-mono (λ files removed. (kept files removed).moments bound) run;
    written = λ unbroken. (kept to.disk.files run.has).written;
    shows = (kept to.disk.files run.has).shows;
  }
    where
      kept : (files : Files) → AreRemoved old.set old.kept_to from.disk.files files → KeepsFiles from.disk.files files
      kept files removed = subst (KeepsFiles from.disk.files) (sym removed.2) (all_removed removed.0 removed.1 from.disk.files w)

-- ---- what is removed

module _ (set : VersionSetValue) (kept_to : Option ℕ) where
  pub none_removed : (files now : Files) → now ≡ files → AreRemoved set kept_to files now
  none_removed files now is = ([], All-nil (IsObsoletePath set kept_to), is)

  pub one_more_removed : (files mid now : Files) (name : List ℕ) → IsObsoleteName set kept_to name → AreRemoved set kept_to files mid → BeforeOrAfter (deleted (in_folder set.store name)) mid now → AreRemoved set kept_to files now
  one_more_removed files mid now name obsolete removed (inl is) = subst (AreRemoved set kept_to files) (sym is) removed
  one_more_removed files mid now name obsolete removed (inr is) = (
    in_folder set.store name ∷ removed.0,
    All-cons (IsObsoletePath set kept_to) (in_folder set.store name) removed.0 (name, obsolete, refl) removed.1,
    is ∙ ap (deleted (in_folder set.store name)) removed.2,
  )

  without_no_other : (paths : List (List ℕ)) → All (IsObsoletePath set kept_to) paths → (files : Files) → RemovesNoOther set kept_to files (without_files paths files)
  without_no_other [] obsolete files other = inl refl
  without_no_other (first ∷ paths) obsolete files other = by (bytes_eq first other) refl (without_no_other paths (All-tail (IsObsoletePath set kept_to) first paths obsolete) files other)
    where
      by : (b : Bool) → bytes_eq first other ≡ b → (without_files paths files other ≡ files other) ⊎ (IsObsoletePath set kept_to other × (without_files paths files other ≡ None))
          → (deleted first (without_files paths files) other ≡ files other) ⊎ (IsObsoletePath set kept_to other × (deleted first (without_files paths files) other ≡ None))
      by true e before =
          let same = (bytes_decides first other).0 e in
          inr (
            subst (IsObsoletePath set kept_to) same (All-head (IsObsoletePath set kept_to) first paths obsolete),
            subst (λ p. deleted first (without_files paths files) p ≡ None) same (at_same first None (without_files paths files)),
          )
      by false e before = ⊎_elim (λ stays. inl (at_other first None (without_files paths files) other e ∙ stays))
          (λ gone. inr (gone.0, at_other first None (without_files paths files) other e ∙ gone.1)) before

  -- no other file is
  pub removes_no_other : (files now : Files) → AreRemoved set kept_to files now → RemovesNoOther set kept_to files now
  removes_no_other files now removed = subst (RemovesNoOther set kept_to files) (sym removed.2) (without_no_other removed.0 removed.1 files)

-- what is gone stays so
gone_stays : (gone other : List ℕ) (mid now : Files) → BeforeOrAfter (deleted gone) mid now → mid other ≡ None → now other ≡ None
gone_stays gone other mid now (inl is) none = ap (λ (f : Files). f other) is ∙ none
gone_stays gone other mid now (inr is) none = ap (λ (f : Files). f other) is ∙ by (bytes_eq gone other) refl
  where
    by : (b : Bool) → bytes_eq gone other ≡ b → deleted gone mid other ≡ None
    by true e = subst (λ p. deleted gone mid p ≡ None) ((bytes_decides gone other).0 e) (at_same gone None mid)
    by false e = at_other gone None mid other e ∙ none

-- ---- why

-- one more call
first_cause : {Excused Missing : Status → Type 0} {before mid now : ℕ} (first next both : Result (Unit {0}) Status) → IsFirstError first next both → ((e : Status) → Missing e → Excused e)
    → HasFirstCause Excused before mid first → HasCause Missing mid now next → HasFirstCause Excused before now both
first_cause {Excused} {Missing} {before} {mid} {now} first next both joins excused so_far cause = record {
  later = least;
  ok = on_ok_more both joins.ok (λ oks. subst (λ r. OnOk r (now ≡ mid)) oks.1 cause.ok ∙ subst (λ r. OnOk r (mid ≡ before)) oks.0 so_far.ok);
  cause = if_err_more both joins.err (λ e which. ⊎_elim
      (λ is. ⊎_elim (λ it. inl it) (λ counted. inr (⊎_elim (λ (rose : before < mid). let later = cause.later in inl (omega (arith, rose, later)))
      (λ (most : (before ≡ 2 ^ 64 - 1) × (mid ≡ before)). or_most most.0) counted))
      (subst (λ r. IfErr r (λ status. Excused status ⊎ (before < mid) ⊎ ((before ≡ 2 ^ 64 - 1) × (mid ≡ before)))) is so_far.cause))
      (λ is. ⊎_elim (λ missing. inl (excused e missing)) (λ counted. inr (⊎_elim (λ (one : now ≡ mid + 1). let later = so_far.later in inl (omega (arith, one, later)))
      (λ (most : (mid ≡ 2 ^ 64 - 1) × (now ≡ mid)). after_most most.0 most.1) counted))
      (subst (λ r. IfErr r (λ status. Missing status ⊎ (now ≡ mid + 1) ⊎ ((mid ≡ 2 ^ 64 - 1) × (now ≡ mid)))) is cause.cause))
      which);
}
  where
    least : before ≤ now
    least = omega (arith, so_far.later, cause.later)

    or_most : before ≡ 2 ^ 64 - 1 → (before < now) ⊎ ((before ≡ 2 ^ 64 - 1) × (now ≡ before))
    or_most most = ⊎_elim (λ (rose : before < now). inl rose) (λ (stays : now ≤ before). inr (most, omega (arith, stays, least))) (cases_lt before now)

    after_most : mid ≡ 2 ^ 64 - 1 → now ≡ mid → (before < now) ⊎ ((before ≡ 2 ^ 64 - 1) × (now ≡ before))
    after_most most same = ⊎_elim (λ (rose : before < now). inl rose)
        (λ (stays : now ≤ before). let later = so_far.later in let none : now ≡ before = omega (arith, stays, least) in inr (omega (arith, most, same, none), none)) (cases_lt before now)

-- where the later one is Ok, the first is what both return
first_stays : (first both : Result (Unit {0}) Status) → IsFirstError first (Ok tt) both → both ≡ first
first_stays first (Ok x) joins = sym joins.ok.0
first_stays first (Err e) joins = ⊎_elim (λ is. sym is) (λ never. absurd (cc)) joins.err

-- ---- one name after the other

module _ {E F : Type 0} (env : Ghosts E F) (set : VersionSetValue) (kept_to : Option ℕ) (from : E) where
  pub no_names : RemovesNames env set kept_to from [] (Ok tt) from
  no_names = record {
    run = λ modelled. begun (env.observed from) (none_removed set kept_to (env.observed from).disk.files (env.observed from).disk.files refl);
    all = λ modelled name c. absurd (in_none name c);
    left = inr (λ modelled. record { failed = []; left = λ name one some. absurd (in_none name one.0); counted = inl (omega arith) });
    locks = λ modelled. refl;
    cause = record { later = omega arith; ok = refl; cause = tt };
  }

  module _ (done : List (List ℕ)) (first : Result (Unit {0}) Status) (mid : E) (so_far : RemovesNames env set kept_to from done first mid) (name : List ℕ)
      (there : IsTrue env.models_disk → (env.observed mid).disk.files (in_folder set.store name) ≢ None) (result : Result (Unit {0}) Status) (to : E)
      (both : Result (Unit {0}) Status) (joins : IsFirstError first result both) where
    abbrev name_path : List ℕ
    name_path = in_folder set.store name

    abbrev Gone : E → List (List ℕ) → Type 0
    Gone at names = IsTrue env.models_disk → (other : List ℕ) → Contains names other → IsObsoleteName set kept_to other → (env.observed at).disk.files (in_folder set.store other) ≡ None

    abbrev Left : E → List (List ℕ) → Type 0
    Left at names = LeavesFailed env set from (λ other. Contains names other × IsObsoleteName set kept_to other) at

    module _ (obsolete : IsObsoleteName set kept_to name) (it : DeletesFile env mid name_path result to) where
      -- what is gone stays so
      stays_gone : IsTrue env.models_disk → (other : List ℕ) → (env.observed mid).disk.files (in_folder set.store other) ≡ None → (env.observed to).disk.files (in_folder set.store other) ≡ None
      stays_gone modelled other none = gone_stays name_path (in_folder set.store other) (env.observed mid).disk.files (env.observed to).disk.files ((it.does modelled).now modelled) none

      -- and what is there was so before
      was_there : IsTrue env.models_disk → (other : List ℕ) → IsSome ((env.observed to).disk.files (in_folder set.store other)) → IsSome ((env.observed mid).disk.files (in_folder set.store other))
      was_there modelled other some = by ((env.observed mid).disk.files (in_folder set.store other)) refl
        where
          by : (file : Option File) → (env.observed mid).disk.files (in_folder set.store other) ≡ file → IsSome ((env.observed mid).disk.files (in_folder set.store other))
          by None none = absurd (let never : false ≡ true = subst IsSome (stays_gone modelled other none) some in cc)
          by (Some file) is = subst IsSome (sym is) refl

      -- one that was deleted is gone
      name_gone : result ≡ Ok tt → IsTrue env.models_disk → (env.observed to).disk.files name_path ≡ None
      name_gone is modelled = ap (λ (f : Files). f name_path) (subst (λ r. OnOk r ((env.observed to).disk.files ≡ deleted name_path (env.observed mid).disk.files)) is ((it.does modelled).ok modelled))
          ∙ at_same name_path None (env.observed mid).disk.files

      all_then : result ≡ Ok tt → Gone mid done → Gone to (done ++ name ∷ [])
      all_then is before modelled other c wanted = ⊎_elim
          (λ (earlier : Contains done other). stays_gone modelled other (before modelled other earlier wanted))
          (λ (same : name ≡ other). subst (λ z. (env.observed to).disk.files (in_folder set.store z) ≡ None) same (name_gone is modelled))
          (Contains-push_cases done name other c)

      -- one more deletion that is Ok leaves no more
      left_ok : result ≡ Ok tt → IsTrue env.models_disk → Left mid done → Left to (done ++ name ∷ [])
      left_ok is modelled before = record {
        failed = before.failed;
        left = λ other one some. ⊎_elim
            (λ (earlier : Contains done other). before.left other (earlier, one.1) (was_there modelled other some))
            (λ (same : name ≡ other). absurd (let never : false ≡ true = subst IsSome (subst (λ z. (env.observed to).disk.files (in_folder set.store z) ≡ None) same (name_gone is modelled)) some in cc))
            (Contains-push_cases done name other one.0);
        counted =
            let same : env.failures to ≡ env.failures mid = subst (λ r. OnOk r (env.failures to ≡ env.failures mid)) is it.cause.ok in
            ⊎_elim (λ least. inl (omega (arith, least, same))) (λ most. inr (omega (arith, most, same))) before.counted;
      }

      -- one that fails leaves its file
      left_err : (env.failures to ≡ env.failures mid + 1) ⊎ ((env.failures mid ≡ 2 ^ 64 - 1) × (env.failures to ≡ env.failures mid)) → IsTrue env.models_disk → Left mid done → Left to (done ++ name ∷ [])
      left_err counted modelled before = record {
        failed = name ∷ before.failed;
        left = λ other one some. ⊎_elim
            (λ (earlier : Contains done other). in_rest name other before.failed (before.left other (earlier, one.1) (was_there modelled other some)))
            (λ (same : name ≡ other). subst (Contains (name ∷ before.failed)) same (in_front name before.failed))
            (Contains-push_cases done name other one.0);
        counted = ⊎_elim
            (λ one. ⊎_elim (λ least. inl (one_more before.failed least one)) (λ most. inr (omega (arith, most, one))) before.counted)
            (λ most. inr (omega (arith, most.0, most.1))) counted;
      }
        where
          one_more : (failed : List (List ℕ)) → env.failures from + length failed ≤ env.failures mid → env.failures to ≡ env.failures mid + 1 → env.failures from + length (name ∷ failed) ≤ env.failures to
          one_more failed least one = omega (arith, least, one)

      left_then : (result' : Result (Unit {0}) Status) → result ≡ result' → IsMemoryOut first ⊎ (IsTrue env.models_disk → Left mid done) → IsMemoryOut both ⊎ (IsTrue env.models_disk → Left to (done ++ name ∷ []))
      left_then result' is (inl memory) = inl (joins.memory (inl memory))
      left_then (Ok x) is (inr before) = inr (λ modelled. left_ok is modelled (before modelled))
      left_then (Err e) is (inr before) = ⊎_elim
          (λ missing. ⊎_elim (λ (memory : IsOutOfMemory e). inl (joins.memory (inr (subst IsMemoryOut (sym is) memory.0))))
          (λ gone. inr (λ modelled. absurd (there modelled (gone.1 modelled)))) missing)
          (λ counted. inr (λ modelled. left_err counted modelled (before modelled)))
          (subst (λ r. IfErr r (λ status. IsMissing env.models_disk name_path (env.observed mid) status ⊎ (env.failures to ≡ env.failures mid + 1)
          ⊎ ((env.failures mid ≡ 2 ^ 64 - 1) × (env.failures to ≡ env.failures mid)))) is it.cause.cause)

      deleted_one : RemovesNames env set kept_to from (done ++ name ∷ []) both to
      deleted_one = record {
        run = λ modelled. call modelled (so_far.run modelled)
            (λ files passes. one_more_removed set kept_to (env.observed from).disk.files (env.observed mid).disk.files files name obsolete (so_far.run modelled).has passes) (it.does modelled);
        all = on_ok_more both joins.ok (λ oks. all_then oks.1 (subst (λ r. OnOk r (Gone mid done)) oks.0 so_far.all));
        left = left_then result refl so_far.left;
        locks = λ modelled. it.locks modelled ∙ so_far.locks modelled;
        cause = first_cause first result both joins
            (λ e missing. ⊎_elim (λ memory. inl memory) (λ (gone : (e.code ≡ NotFound) × (IsTrue env.models_disk → (env.observed mid).disk.files name_path ≡ None)). inr (gone.0, λ modelled. there modelled (gone.1 modelled))) missing)
            so_far.cause it.cause;
      }

    skipped_one : (IsObsoleteName set kept_to name → ⊥) → RemovesNames env set kept_to from (done ++ name ∷ []) first mid
    skipped_one wanted = record {
      run = so_far.run;
      all = on_ok_more first so_far.all (λ before modelled other c obsolete. ⊎_elim
          (λ (earlier : Contains done other). before modelled other earlier obsolete)
          (λ (same : name ≡ other). absurd (wanted (subst (IsObsoleteName set kept_to) (sym same) obsolete)))
          (Contains-push_cases done name other c));
      left = ⊎_elim (λ memory. inl memory)
          (λ before. inr (λ modelled. let it = before modelled in
          record {
            failed = it.failed;
            left = λ other one some. ⊎_elim
                (λ (earlier : Contains done other). it.left other (earlier, one.1) some)
                (λ (same : name ≡ other). absurd (wanted (subst (IsObsoleteName set kept_to) (sym same) one.1)))
                (Contains-push_cases done name other one.0);
            counted = it.counted;
          })) so_far.left;
      locks = so_far.locks;
      cause = so_far.cause;
    }

    -- one more name
    pub one_more_name : RemovesName env set kept_to mid name result to → RemovesNames env set kept_to from (done ++ name ∷ []) both to
    one_more_name removes = ⊎_elim
        (λ (it : IsObsoleteName set kept_to name × DeletesFile env mid name_path result to). deleted_one it.0 it.1)
        (λ (skip : (IsObsoleteName set kept_to name → ⊥) × (result ≡ Ok tt) × (to ≡ mid)).
        subst (λ r. RemovesNames env set kept_to from (done ++ name ∷ []) r to) (sym (first_stays first both (subst (λ r. IsFirstError first r both) skip.1 joins)))
        (subst (RemovesNames env set kept_to from (done ++ name ∷ []) first) (sym skip.2) (skipped_one skip.0))) removes

    -- which leaves the others alone
    pub others_left : RemovesName env set kept_to mid name result to → (other : List ℕ) → bytes_eq name other ≡ false → IsTrue env.models_disk
        → (env.observed to).disk.files (in_folder set.store other) ≡ (env.observed mid).disk.files (in_folder set.store other)
    others_left removes other apart modelled = ⊎_elim
        (λ (it : IsObsoleteName set kept_to name × DeletesFile env mid name_path result to).
        SameBut-deleted name_path (env.observed mid).disk.files (env.observed to).disk.files ((it.1.does modelled).now modelled) (in_folder set.store other)
        (bytes_eq-apart name_path (in_folder set.store other) (λ same. let same_name' = same_name set.store name other same in
        let wrong : true ≡ false = sym ((bytes_decides name other).1 same_name') ∙ apart in cc)))
        (λ (skip : (IsObsoleteName set kept_to name → ⊥) × (result ≡ Ok tt) × (to ≡ mid)). ap (λ e. (env.observed e).disk.files (in_folder set.store other)) skip.2) removes

-- ---- a list of names

-- the next item, in what is done and in what is left
pub next_item : {A B : Type 0} (f : A → B) (items : List A) (i : ℕ) (item : A) → i < length items → item ≡ get_or items i item
    → (take (i + 1) (map f items) ≡ take i (map f items) ++ f item ∷ []) × (drop i (map f items) ≡ f item ∷ drop (i + 1) (map f items))
next_item f [] i item within is = absurd (omega (arith, within))
next_item f (first ∷ items) zero item within is = (ap (λ x. f x ∷ []) (sym is), ap (λ x. f x ∷ map f items) (sym is))
next_item f (first ∷ items) (suc i) item within is =
    let rest = next_item f items i item (omega (arith, within)) is in
    let more : suc i + 1 ≡ suc (i + 1) = omega arith in
    (ap (λ n. take n (map f (first ∷ items))) more ∙ ap (λ xs. f first ∷ xs) rest.0, rest.1 ∙ sym (ap (λ n. f item ∷ drop n (map f (first ∷ items))) more))

distinct_rest : (i : ℕ) (names : List (List ℕ)) → IsDistinct bytes_eq names → IsDistinct bytes_eq (drop i names)
distinct_rest zero names distinct = distinct
distinct_rest (suc i) [] distinct = distinct
distinct_rest (suc i) (first ∷ names) distinct = distinct_rest i names (IsDistinct-tail bytes_eq first names distinct)

pub in_rest_of : (i : ℕ) (names : List (List ℕ)) (name : List ℕ) → Contains (drop i names) name → Contains names name
in_rest_of zero names name c = c
in_rest_of (suc i) [] name c = c
in_rest_of (suc i) (first ∷ names) name c = in_rest first name names (in_rest_of i names name c)

pub in_first_of : (i : ℕ) (names : List (List ℕ)) (name : List ℕ) → Contains (take i names) name → Contains names name
in_first_of zero names name c = absurd (in_none name c)
in_first_of (suc i) [] name c = absurd (in_none name c)
in_first_of (suc i) (first ∷ names) name c = ⊎_elim (λ (same : first ≡ name). subst (Contains (first ∷ names)) same (in_front first names))
    (λ (later : Contains (take i names) name). in_rest first name names (in_first_of i names name later)) (in_cases first name (take i names) c)

module _ {E F : Type 0} (env : Ghosts E F) (set : VersionSetValue) (kept_to : Option ℕ) (from : E) where
  -- the files of the names after the first ones are as they were
  abbrev RestThere : List (List ℕ) → ℕ → E → Type 0
  RestThere names i at = IsTrue env.models_disk → (name : List ℕ) → Contains (drop i names) name
      → (env.observed at).disk.files (in_folder set.store name) ≡ (env.observed from).disk.files (in_folder set.store name)

  pub names_step : {A : Type 0} (f : A → List ℕ) (items : List A) (i : ℕ) (item : A) → i < length items → item ≡ get_or items i item
      → (IsTrue env.models_disk → ListsChildren (env.observed from).disk.files set.store (map f items)) → (first : Result (Unit {0}) Status) (mid : E)
      → RemovesNames env set kept_to from (take i (map f items)) first mid → RestThere (map f items) i mid
      → (name : List ℕ) → name ≡ f item → (result : Result (Unit {0}) Status) (to : E) → RemovesName env set kept_to mid name result to → (both : Result (Unit {0}) Status) → IsFirstError first result both
      → RemovesNames env set kept_to from (take (i + 1) (map f items)) both to × RestThere (map f items) (i + 1) to
  names_step f items i item within is listed first mid so_far rest name named result to removes both joins =
      let next = next_item f items i item within is in
      let names = map f items in
      let it : RemovesName env set kept_to mid (f item) result to = subst (λ z. RemovesName env set kept_to mid z result to) named removes in
      let here : Contains (drop i names) (f item) = subst (λ xs. Contains xs (f item)) (sym next.1) (in_front (f item) (drop (i + 1) names)) in
      let there : IsTrue env.models_disk → (env.observed mid).disk.files (in_folder set.store (f item)) ≢ None = λ modelled none.
      let wrong : false ≡ true = subst (λ o. IsSome o) (sym (rest modelled (f item) here) ∙ none) (((listed modelled).each (f item)).0 (in_rest_of i names (f item) here)).1 in cc in
      let apart : IsTrue env.models_disk → (other : List ℕ) → Contains (drop (i + 1) names) other → bytes_eq (f item) other ≡ false = λ modelled other c.
      All-contains (λ y. bytes_eq (f item) y ≡ false) (drop (i + 1) names) other
      (All-from_recursion (λ y. bytes_eq (f item) y ≡ false) (drop (i + 1) names)
      (IsDistinct-head bytes_eq (f item) (drop (i + 1) names) (subst (IsDistinct bytes_eq) next.1 (distinct_rest i names (listed modelled).once)))) c in (
        subst (λ xs. RemovesNames env set kept_to from xs both to) (sym next.0)
            (one_more_name env set kept_to from (take i names) first mid so_far (f item) there result to both joins it),
        λ modelled other c.
            others_left env set kept_to from (take i names) first mid so_far (f item) there result to both joins it other (apart modelled other c) modelled
            ∙ rest modelled other (subst (λ xs. Contains xs other) (sym next.1) (in_rest (f item) other (drop (i + 1) names) c)),
      )

-- ---- the whole call

-- where nothing changed before, files were removed alone from the start on
pub removing_after : (set : VersionSetValue) (kept_to : Option ℕ) (from mid to : Observed) → Run (FilesUnchanged from.disk.files) from mid → Run (AreRemoved set kept_to mid.disk.files) mid to → Run (AreRemoved set kept_to from.disk.files) from to
removing_after set kept_to from mid to listing removing = Run-trans (Run-mono (λ files same. none_removed set kept_to from.disk.files files same) listing)
    (λ files removed. subst (λ f. AreRemoved set kept_to f files) listing.has removed) removing

module _ {E F : Type 0} (env : Ghosts E F) (set : VersionSetValue) (kept_to : Option ℕ) (from : E) where
  -- the folder isn't listed
  pub RemovesObsolete-unlisted : {T : Type 0} (usable : set.manifest ≢ broken) (mid : E) (status : Status) → (IsTrue env.models_disk → Run (FilesUnchanged (env.observed from).disk.files) (env.observed from) (env.observed mid))
      → SameLocks env.models_disk (env.observed from) (env.observed mid) → HasCause {T = T} (IsEmptyFolder env.models_disk set.store (env.observed from)) (env.failures from) (env.failures mid) (Err status)
      → RemovesObsolete env set kept_to from (Err status) mid
  RemovesObsolete-unlisted usable mid status still locks cause = record {
    run = λ modelled. Run-mono (λ files same path. inl (ap (λ (f : Files). f path) same)) (still modelled);
    all = λ again. tt;
    left = λ again. inr (inl (tt, λ modelled. (still modelled).has));
    broken_keeps = λ is. absurd (usable is);
    locks = locks;
    cause = record {
      later = cause.later;
      ok = tt;
      cause = ⊎_elim (λ excused. inl excused)
          (λ counted. inr (⊎_elim (λ one. inl (omega (arith, one))) (λ most. inr most) counted)) cause.cause;
    };
  }

  module _ (usable : set.manifest ≢ broken) (mid : E) (listing : IsTrue env.models_disk → Run (FilesUnchanged (env.observed from).disk.files) (env.observed from) (env.observed mid)) (counted : env.failures mid ≡ env.failures from)
      (names : List (List ℕ)) (listed : IsTrue env.models_disk → ListsChildren (env.observed from).disk.files set.store names) (result : Result (Unit {0}) Status) (to : E)
      (removes : RemovesNames env set kept_to mid names result to) where
    abbrev first_files : Files
    first_files = (env.observed from).disk.files

    removing : IsTrue env.models_disk → Run (AreRemoved set kept_to first_files) (env.observed from) (env.observed to)
    removing modelled = removing_after set kept_to (env.observed from) (env.observed mid) (env.observed to) (listing modelled) (removes.run modelled)

    gone_at : IsTrue env.models_disk → (path : List ℕ) → first_files path ≡ None → (env.observed to).disk.files path ≡ None
    gone_at modelled path none = ⊎_elim (λ stays. stays ∙ none) (λ removed. removed.1) (removes_no_other set kept_to first_files (env.observed to).disk.files (removing modelled).has path)

    all_gone : (result' : Result (Unit {0}) Status) → OnOk result' (IsTrue env.models_disk → (name : List ℕ) → Contains names name → IsObsoleteName set kept_to name → (env.observed to).disk.files (in_folder set.store name) ≡ None)
        → OnOk result' (IsTrue env.models_disk → (path : List ℕ) → IsObsoletePath set kept_to path → (env.observed to).disk.files path ≡ None)
    all_gone (Err e) each = tt
    all_gone (Ok x) each = λ modelled path obsolete.
        subst (λ p. (env.observed to).disk.files p ≡ None) (sym obsolete.2) (by modelled obsolete.0 obsolete.1 (first_files (in_folder set.store obsolete.0)) refl)
      where
        by : IsTrue env.models_disk → (name : List ℕ) → IsObsoleteName set kept_to name → (file : Option File) → first_files (in_folder set.store name) ≡ file → (env.observed to).disk.files (in_folder set.store name) ≡ None
        by modelled name obsolete None none = gone_at modelled (in_folder set.store name) none
        by modelled name obsolete (Some file) some = each modelled name
            (((listed modelled).each name).1 (name_unslashed name obsolete.0 obsolete.1 obsolete.2, subst (λ o. IsSome o) (sym some) refl)) obsolete

    left_here : IsTrue env.models_disk → LeavesFailed env set mid (λ name. Contains names name × IsObsoleteName set kept_to name) to → LeavesFailed env set from (IsObsoleteName set kept_to) to
    left_here modelled it = record {
      failed = it.failed;
      left = λ name obsolete some. it.left name (
        ((listed modelled).each name).1 (name_unslashed name obsolete.0 obsolete.1 obsolete.2, was name some),
        obsolete,
      ) some;
      counted = subst (λ n. (n + length it.failed ≤ env.failures to) ⊎ (2 ^ 64 - 1 ≤ env.failures to)) counted it.counted;
    }
      where
        was : (name : List ℕ) → IsSome ((env.observed to).disk.files (in_folder set.store name)) → IsSome (first_files (in_folder set.store name))
        was name some = by (first_files (in_folder set.store name)) refl
          where
            by : (file : Option File) → first_files (in_folder set.store name) ≡ file → IsSome (first_files (in_folder set.store name))
            by None none = absurd (let never : false ≡ true = subst IsSome (gone_at modelled (in_folder set.store name) none) some in cc)
            by (Some file) is = subst IsSome (sym is) refl

    pub RemovesObsolete-after : SameLocks env.models_disk (env.observed from) (env.observed mid) → RemovesObsolete env set kept_to from result to
    RemovesObsolete-after locks = record {
      run = λ modelled. Run-mono (removes_no_other set kept_to first_files) (removing modelled);
      all = λ again. all_gone result removes.all;
      left = λ again. ⊎_elim (λ memory. inl memory) (λ before. inr (inr (λ modelled. left_here modelled (before modelled)))) removes.left;
      broken_keeps = λ is. absurd (usable is);
      locks = λ modelled. removes.locks modelled ∙ locks modelled;
      cause = widened result (subst (λ n. HasFirstCause (λ status. IsOutOfMemory status ⊎ ((status.code ≡ NotFound) × (IsTrue env.models_disk → ⊥))) n (env.failures to) result) counted removes.cause);
    }
      where
        widened : {before now : ℕ} (result' : Result (Unit {0}) Status) → HasFirstCause (λ status. IsOutOfMemory status ⊎ ((status.code ≡ NotFound) × (IsTrue env.models_disk → ⊥))) before now result'
            → HasFirstCause (IsEmptyFolder env.models_disk set.store (env.observed from)) before now result'
        widened (Ok x) cause = record { later = cause.later; ok = cause.ok; cause = tt }
        widened (Err e) cause = record {
          later = cause.later;
          ok = tt;
          cause = ⊎_elim (λ excused. inl (⊎_elim (λ memory. inl memory)
              (λ (missing : (e.code ≡ NotFound) × (IsTrue env.models_disk → ⊥)). inr (missing.0, λ modelled. absurd (missing.1 modelled))) excused)) (λ counted'. inr counted') cause.cause;
        }
