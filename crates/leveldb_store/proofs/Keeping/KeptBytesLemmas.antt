-- That files which are made, appended to and synced lose no byte, nor others by new tables, nor kept
-- ones by removals.
use Rattle.std.specs.Option.{option_map}
use Rattle.std.proofs.Common.{◌≡◌, ◌≢◌, ◌⊎◌, ◌∙◌, ◌++◌, ◌≤◌, ◌<◌, ◌^◌, inl, inr, ⊎_elim, ℕ, Bool, true, false, List, [], Option, None, Some, ap, append-nil, append_assoc, arith, refl, subst, sym, take}
use Rattle.std.proofs.lemmas.Bool.{cases_lt}
use Rattle.std.specs.Cmp.Lexicographic.{bytes_decides}
use Rattle.std.specs.Str.{bytes_eq}
use Rattle.leveldb_base.proofs.NamesLemmas.{made_name, one_reading}
use Rattle.leveldb_base.specs.Names.{IsFileName, MayHaveNumber, file_name, file_path}
use Rattle.leveldb_base.specs.declared.types.FileType.{FileType}
use Rattle.leveldb_base.specs.declared.types.FileType.TheVariants.{Table}
use Rattle.leveldb_env.proofs.EnvLemmas.{Run-trans, at_other, at_same, begun, bytes_eq-apart}
use Rattle.leveldb_env.specs.Env.{BeforeOrAfter, File, Files, Observed, Run, SameBut, bytes_of, created, extended, file_kept, in_folder, longer_file, or_empty, synced, with_file}
use Rattle.leveldb_env.specs.declared.env.Env.{Ghosts}
use Rattle.leveldb_files.proofs.Stores.ManagedLemmas.{same_name}
use Rattle.leveldb_version_set.specs.Sets.LogEdit.{AppendingAndSyncing}
use Rattle.leveldb_files.specs.Stores.Paths.{table_path}
use Rattle.leveldb_version_set.specs.Engines.Writing.{IsNumberedUpTo, NumbersAreBelow}
use Rattle.leveldb_version_set.specs.Sets.VersionSetValue.{VersionSetValue}
use Rattle.leveldb_store.specs.Keeping.KeptBytes.{AreKept, BeginWith, IsKept, IsKeptPath, IsNotReplaced, KeepsItsBytes, LosesNoBytes, LosesNoBytesAt, LosesNoBytesMeanwhile, SparesKept, TableNumbersAreBelow}
use Rattle.leveldb_store.specs.Openings.Opening.{SameButTables}
use Rattle.leveldb_store.specs.Tables.Outputs.{SameButNewTables}
use Rattle.leveldb_store.specs.Writing.Switch.{IsObsoletePath, RemovesNoOther}

-- ---- one file

begin_with_all : (bytes : List ℕ) → BeginWith bytes bytes
begin_with_all bytes = ([], sym (append-nil bytes))

begin_with_then : (first second third : List ℕ) → BeginWith first second → BeginWith second third
    → BeginWith first third
begin_with_then first second third a b =
    (a.0 ++ b.0, b.1 ∙ ap (λ (bytes : List ℕ). bytes ++ b.0) a.1 ∙ append_assoc first a.0 b.0)

pub keeps_still : (file : File) (now : Option File) → now ≡ Some file → KeepsItsBytes file now
keeps_still file now is =
    subst (KeepsItsBytes file) (sym is) (begin_with_all (bytes_of file), begin_with_all file.kept)

-- a file keeps what one kept whose bytes it keeps
keeps_on : (file at : File) → KeepsItsBytes file (Some at) → (now : Option File)
    → KeepsItsBytes at now → KeepsItsBytes file now
keeps_on file at first None second = absurd second
keeps_on file at first (Some now) second = (
  begin_with_then (bytes_of file) (bytes_of at) (bytes_of now) first.0 second.0,
  begin_with_then file.kept at.kept now.kept first.1 second.1,
)

keeps_longer : (bytes : List ℕ) (file : File) → KeepsItsBytes file (Some (longer_file bytes file))
keeps_longer bytes file =
    ((bytes, sym (append_assoc file.kept file.since bytes)), begin_with_all file.kept)

keeps_synced : (file : File) → KeepsItsBytes file (Some (file_kept file))
keeps_synced file = (([], refl), (file.since, refl))

-- ---- files

-- `IsOne` says which paths are looked at.
module _ (IsOne : List ℕ → Type 0) where
  abbrev Loses : Files → Files → Type 0
  Loses = LosesNoBytesAt IsOne

  pub loses_none : (old now : Files) → now ≡ old → Loses old now
  loses_none old now same path one file there =
      keeps_still file (now path) (ap (λ (f : Files). f path) same ∙ there)

  pub loses_then : (old mid now : Files) → Loses old mid → Loses mid now → Loses old now
  loses_then old mid now first second path one file there =
      by (mid path) refl (first path one file there)
    where
      by : (at : Option File) → mid path ≡ at → KeepsItsBytes file at
          → KeepsItsBytes file (now path)
      by None is begins = absurd begins
      by (Some at) is begins = keeps_on file at begins (now path) (second path one at is)

  -- a file alone changes, and has its bytes still
  loses_at : (name : List ℕ) (change : Option File → Option File)
      → ((file : File) → KeepsItsBytes file (change (Some file))) → (old : Files)
      → Loses old (with_file name (change (old name)) old)
  loses_at name change keeps old path one file there = by (bytes_eq name path) refl
    where
      by : (b : Bool) → bytes_eq name path ≡ b
          → KeepsItsBytes file (with_file name (change (old name)) old path)
      by true e =
          let same = (bytes_decides name path).0 e in
          subst (λ p. KeepsItsBytes file (with_file name (change (old name)) old p)) same
          (subst (KeepsItsBytes file) (sym (at_same name (change (old name)) old
          ∙ ap change (ap old same ∙ there))) (keeps file))
      by false e = keeps_still file (with_file name (change (old name)) old path)
          (at_other name (change (old name)) old path e ∙ there)

  pub loses_synced : (name : List ℕ) (old : Files) → Loses old (synced name old)
  loses_synced name old = loses_at name (option_map file_kept) keeps_synced old

  pub loses_syncing : (name : List ℕ) (old now : Files) → BeforeOrAfter (synced name) old now
      → Loses old now
  loses_syncing name old now (inl same) = loses_none old now same
  loses_syncing name old now (inr done) = subst (Loses old) (sym done) (loses_synced name old)

  pub loses_created : (name : List ℕ) (old : Files) → Loses old (created name old)
  loses_created name old =
      loses_at name or_empty (λ file. keeps_still file (Some file) refl) old

  -- a missing file is made
  pub loses_made : (name : List ℕ) (old now : Files) → BeforeOrAfter (created name) old now
      → Loses old now
  loses_made name old now (inl same) = loses_none old now same
  loses_made name old now (inr made) = subst (Loses old) (sym made) (loses_created name old)

  loses_extended : (name bytes : List ℕ) (old : Files) → Loses old (extended name bytes old)
  loses_extended name bytes old =
      loses_at name (option_map (longer_file bytes)) (keeps_longer bytes) old

  pub loses_appending : (name bytes : List ℕ) (old now : Files)
      → AppendingAndSyncing name bytes old now → Loses old now
  loses_appending name bytes old now (inl (inl same)) = loses_none old now same
  loses_appending name bytes old now (inl (inr part)) =
      subst (Loses old) (sym part.1) (loses_extended name (take part.0 bytes) old)
  loses_appending name bytes old now (inr done) = subst (Loses old) (sym done)
      (loses_then old (extended name bytes old) (synced name (extended name bytes old))
      (loses_extended name bytes old) (loses_synced name (extended name bytes old)))

  -- a file alone changes, at none of these paths
  pub loses_beside : (name : List ℕ) (old now : Files) → SameBut name old now
      → ((path : List ℕ) → IsOne path → bytes_eq name path ≡ false) → Loses old now
  loses_beside name old now same apart path one file there =
      keeps_still file (now path) (same path (apart path one) ∙ there)

  -- a file alone changes that wasn't there
  pub loses_new : (name : List ℕ) (old now : Files) → SameBut name old now → old name ≡ None
      → Loses old now
  loses_new name old now same none path one file there = by (bytes_eq name path) refl
    where
      by : (b : Bool) → bytes_eq name path ≡ b → KeepsItsBytes file (now path)
      by true e =
          let is = (bytes_decides name path).0 e in
          let never : Some file ≡ None = sym there ∙ ap old (sym is) ∙ none in absurd (cc)
      by false e = keeps_still file (now path) (same path e ∙ there)

module _ (store : List ℕ) where
  -- ---- new tables

  -- a path with a file isn't that of a new table
  no_new_table : (next : ℕ) (old : Files) → TableNumbersAreBelow store old next
      → (path : List ℕ) (file : File) → old path ≡ Some file
      → (n : ℕ) → next ≤ n → n < 2 ^ 64 → path ≢ table_path store n
  no_new_table next old below path file there n least fits is =
      let less = below n fits (λ gone. let never : Some file ≡ None = sym there ∙ ap old is ∙ gone in
      cc) in omega (arith, less, least)

  pub loses_by_tables : (first next : ℕ) (old now : Files) → TableNumbersAreBelow store old first
      → SameButNewTables store first next old now → LosesNoBytes store old now
  loses_by_tables first next old now below same path kept file there =
      keeps_still file (now path) (same path
      (λ n least less fits. bytes_eq-apart (table_path store n) path
      (λ is. no_new_table first old below path file there n least fits (sym is))) ∙ there)

  pub loses_at_tables : (set later : VersionSetValue) → set.store ≡ store → (old now : Files)
      → TableNumbersAreBelow store old set.next_file → SameButTables set later old now
      → LosesNoBytes store old now
  loses_at_tables set later path_is old now below same path kept file there =
      keeps_still file (now path) (same path
      (λ n least less fits is. no_new_table set.next_file old below path file there n least fits
      (is ∙ ap (λ s. table_path s n) path_is)) ∙ there)

  -- ---- numbers

  -- where all files have a number below this one, so do tables
  pub table_numbers_below : (files : Files) (next : ℕ) → NumbersAreBelow store files next
      → TableNumbersAreBelow store files next
  table_numbers_below files next below n fits some =
      below (file_name Table n) n Table (made_name Table n fits) some

  -- the number of each file is below the next one of the set that gave those of the new tables
  pub numbers_at_tables : (set later : VersionSetValue) → set.store ≡ store → (old now : Files)
      → set.next_file ≤ later.next_file → SameButTables set later old now
      → NumbersAreBelow store old set.next_file → NumbersAreBelow store now later.next_file
  numbers_at_tables set later path_is old now rises same below name n kind is some = ⊎_elim
      (λ (less : n < later.next_file). less)
      (λ (above : later.next_file ≤ n).
      let was = below name n kind is (λ gone. some (same (in_folder store name)
      (λ k least less k_fits at.
      let its = same_name store name (file_name Table k) (at ∙ ap (λ s. table_path s k) path_is) in
      let one = (one_reading name n k kind Table is
      (subst (λ z. IsFileName z k Table) (sym its) (made_name Table k k_fits))).0 in
      omega (arith, one, less, above)) ∙ gone)) in
      omega (arith, was, rises, above))
      (cases_lt n later.next_file)

  -- so it is where a file comes to be only at paths of such numbers
  pub numbers_then : (old now : Files) (next later : ℕ) → next ≤ later
      → ((path : List ℕ) → now path ≢ None → (old path ≢ None) ⊎ IsNumberedUpTo store path later)
      → NumbersAreBelow store old next → NumbersAreBelow store now later
  numbers_then old now next later rises so below name n kind is some = ⊎_elim
      (λ was. let less = below name n kind is was in omega (arith, less, rises))
      (λ numbered. numbered name n kind refl is) (so (in_folder store name) some)

  -- the path of a file of a number
  pub numbered_below : (kind : FileType) (n : ℕ) → MayHaveNumber kind n → (next : ℕ) → n < next
      → IsNumberedUpTo store (file_path store kind n) next
  numbered_below kind n fits next less name m k at is =
      let its = same_name store (file_name kind n) name at in
      let one = (one_reading name m n k kind is
      (subst (λ z. IsFileName z n kind) its (made_name kind n fits))).0 in
      omega (arith, one, less)

  -- a file alone changes
  pub numbered_beside : (path : List ℕ) (old now : Files) → SameBut path old now → (later : ℕ)
      → IsNumberedUpTo store path later → (at : List ℕ) → now at ≢ None
      → (old at ≢ None) ⊎ IsNumberedUpTo store at later
  numbered_beside path old now same later numbered at some = by (bytes_eq path at) refl
    where
      by : (b : Bool) → bytes_eq path at ≡ b → (old at ≢ None) ⊎ IsNumberedUpTo store at later
      by true e =
          inr (subst (λ p. IsNumberedUpTo store p later) ((bytes_decides path at).0 e) numbered)
      by false e = inl (λ gone. some (same at e ∙ gone))

-- what is missing is so after bytes were appended or synced
missing_still : (name : List ℕ) (change : Option File → Option File) → change None ≡ None
    → (old : Files) (at : List ℕ) → old at ≡ None → with_file name (change (old name)) old at ≡ None
missing_still name change makes_none old at none = by (bytes_eq name at) refl
  where
    by : (b : Bool) → bytes_eq name at ≡ b → with_file name (change (old name)) old at ≡ None
    by true e =
        let same = (bytes_decides name at).0 e in
        subst (λ p. with_file name (change (old name)) old p ≡ None) same
        (at_same name (change (old name)) old ∙ ap change (ap old same ∙ none) ∙ makes_none)
    by false e = at_other name (change (old name)) old at e ∙ none

pub missing_appending : (name bytes : List ℕ) (old now : Files)
    → AppendingAndSyncing name bytes old now → (at : List ℕ) → old at ≡ None → now at ≡ None
missing_appending name bytes old now (inl (inl same)) at none = ap (λ (f : Files). f at) same ∙ none
missing_appending name bytes old now (inl (inr part)) at none =
    ap (λ (f : Files). f at) part.1
    ∙ missing_still name (option_map (longer_file (take part.0 bytes))) refl old at none
missing_appending name bytes old now (inr done) at none = ap (λ (f : Files). f at) done
    ∙ missing_still name (option_map file_kept) refl (extended name bytes old) at
    (missing_still name (option_map (longer_file bytes)) refl old at none)

-- ---- calls

module _ {E F : Type 0} (env : Ghosts E F) (store : List ℕ) where
  pub meanwhile_none : (at : E) → LosesNoBytesMeanwhile env store at at
  meanwhile_none at = begun (env.observed at)
      (loses_none (IsNotReplaced store) (env.observed at).disk.files (env.observed at).disk.files
      refl)

  pub meanwhile_then : {from mid to : E} → LosesNoBytesMeanwhile env store from mid
      → LosesNoBytesMeanwhile env store mid to → LosesNoBytesMeanwhile env store from to
  meanwhile_then {from} {mid} {to} first second = Run-trans first
      (λ now loses. loses_then (IsNotReplaced store) (env.observed from).disk.files
      (env.observed mid).disk.files now first.has loses) second

-- ---- removals

-- what is kept is there still where others are removed
module _ (set : VersionSetValue) (kept_to : Option ℕ) where
  loses_by_removal : (first old now : Files) → AreKept set.store first kept_to
      → LosesNoBytes set.store first old → RemovesNoOther set kept_to old now
      → LosesNoBytes set.store first now
  loses_by_removal first old now are loses removes path kept file there = ⊎_elim
      (λ (stays : now path ≡ old path).
      subst (KeepsItsBytes file) (sym stays) (loses path kept file there))
      (λ (gone : IsObsoletePath set kept_to path × (now path ≡ None)).
      let name = gone.0.1 in
      absurd (name.4 (are gone.0.0 name.0 name.1 name.2
      (λ none. let never : Some file ≡ None = sym there ∙ ap first gone.0.2 ∙ none in cc))))
      (removes path)

  -- a removal after a call
  pub meanwhile_removed : {E F : Type 0} (env : Ghosts E F) (from mid to : E)
      → AreKept set.store (env.observed from).disk.files kept_to
      → LosesNoBytesMeanwhile env set.store from mid
      → Run (RemovesNoOther set kept_to (env.observed mid).disk.files) (env.observed mid)
      (env.observed to) → LosesNoBytesMeanwhile env set.store from to
  meanwhile_removed env from mid to are loses removes = Run-trans loses
      (λ now removed. loses_by_removal (env.observed from).disk.files
      (env.observed mid).disk.files now are loses.has removed) removes

-- ---- kept files

module _ (set : VersionSetValue) (kept_to : Option ℕ) where
  -- a file of a number that is given from now on has none of their paths
  pub kept_apart : (kind : FileType) (n : ℕ) → MayHaveNumber kind n → set.next_file ≤ n
      → (path : List ℕ) → IsKeptPath set kept_to path
      → bytes_eq (file_path set.store kind n) path ≡ false
  kept_apart kind n fits least path (name, m, k, named, given, kept, is) =
      bytes_eq-apart (file_path set.store kind n) path (λ same.
      let its = same_name set.store (file_name kind n) name (same ∙ is) in
      let one = (one_reading name m n k kind named
      (subst (λ z. IsFileName z n kind) its (made_name kind n fits))).0 in
      omega (arith, one, given, least))

  -- tables of such numbers are made
  pub kept_by_tables : (next : ℕ) (old now : Files)
      → SameButNewTables set.store set.next_file next old now
      → LosesNoBytesAt (IsKeptPath set kept_to) old now
  kept_by_tables next old now same path one file there = keeps_still file (now path)
      (same path (λ n least less fits. kept_apart Table n fits least path one) ∙ there)

  -- a file of one is made
  pub kept_by_new : (kind : FileType) (n : ℕ) → MayHaveNumber kind n → set.next_file ≤ n
      → (old now : Files) → SameBut (file_path set.store kind n) old now
      → LosesNoBytesAt (IsKeptPath set kept_to) old now
  kept_by_new kind n fits least old now same = loses_beside (IsKeptPath set kept_to)
      (file_path set.store kind n) old now same (kept_apart kind n fits least)

  -- files are deleted that aren't kept
  pub kept_by_removal : (old now : Files) → RemovesNoOther set kept_to old now
      → LosesNoBytesAt (IsKeptPath set kept_to) old now
  kept_by_removal old now removes path (name, n, kind, named, given, kept, is) file there = ⊎_elim
      (λ (stays : now path ≡ old path). keeps_still file (now path) (stays ∙ there))
      (λ (gone : IsObsoletePath set kept_to path × (now path ≡ None)).
      let other = gone.0.1 in
      let same = same_name set.store name gone.0.0 (sym is ∙ gone.0.2) in
      let one = (one_reading name n other.0 kind other.1 named
      (subst (λ z. IsFileName z other.0 other.1) (sym same) other.2)).0 in
      absurd (other.4 (subst (IsKept kept_to) one kept)))
      (removes path)

module _ {models_disk : Bool} where
  -- nothing is done
  pub spares_kept_none : (set : VersionSetValue) (kept_to : Option ℕ) (at : Observed)
      → SparesKept models_disk set kept_to at at
  spares_kept_none set kept_to at modelled =
      begun at (loses_none (IsKeptPath set kept_to) at.disk.files at.disk.files refl)

  -- one call after another, while numbers are given
  pub spares_kept_then : (old mid : VersionSetValue) {kept_to later : Option ℕ}
      → mid.store ≡ old.store → old.next_file ≤ mid.next_file → later ≡ kept_to
      → {v0 v1 v2 : Observed} → SparesKept models_disk old kept_to v0 v1
      → SparesKept models_disk mid later v1 v2 → SparesKept models_disk old kept_to v0 v2
  spares_kept_then old mid {kept_to} {later} store least same {v0} {v1} first second modelled =
      Run-trans (first modelled)
      (λ now passes. loses_then (IsKeptPath old kept_to) v0.disk.files v1.disk.files now
      (first modelled).has (λ path one. passes path (later_path path one))) (second modelled)
    where
      later_path : (path : List ℕ) → IsKeptPath old kept_to path → IsKeptPath mid later path
      later_path path (name, n, kind, named, given, kept, is) = (
        name,
        n,
        kind,
        named,
        omega (arith, given, least),
        subst (λ k. IsKept k n) (sym same) kept,
        is ∙ ap (λ s. in_folder s name) (sym store),
      )
