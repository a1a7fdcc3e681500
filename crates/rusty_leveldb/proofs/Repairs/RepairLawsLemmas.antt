-- What an opening finds after a repair, and what a repair of a whole store finds.
use Rattle.std.specs.declared.cmp.Ordering.{Ordering}
use Rattle.std.proofs.Common.{◌≡◌, ◌≤◌, ◌+◌, ◌∙◌, ⊎_elim, inl, inr, ℕ, List, [], ◌∷◌, refl, sym, ap, subst, arith, append-nil, Option, None, Some}
use Rattle.leveldb_base.proofs.HistoryLemmas.{in_front}
use Rattle.leveldb_base.specs.declared.cmp.Cmp.{Ghosts as CmpGhosts}
use Rattle.leveldb_base.specs.History.{Entry, History, SameView, count_of, entries_of, greatest}
use Rattle.std.specs.Option.{option_map}
use Rattle.leveldb_env.specs.Env.{BeforeOrAfter, File, FileCrashesTo, Files, bytes_of, created, in_folder}
use Rattle.leveldb_env.specs.Options.{Boxed, OptionsOf}
use Rattle.leveldb_env.specs.declared.env.Env.{Ghosts}
use Rattle.leveldb_env.specs.declared.filter.FilterPolicy.{Ghosts as FilterGhosts}
use Rattle.leveldb_env.proofs.EnvLemmas.{since_start}
use Rattle.leveldb_store.specs.Tables.BuildTable.{TableChoices}
use Rattle.leveldb_version_set.proofs.Repairs.FoundLemmas.{found_goes_by_bytes}
use Rattle.leveldb_version_set.proofs.Repairs.RepairingFoundLemmas.{found_shows_the_same}
use Rattle.leveldb_files.proofs.Stores.KeptLemmas.{kept_left}
use Rattle.leveldb_files.specs.Stores.Paths.{lock_path}
use Rattle.leveldb_store.proofs.Compactions.MergedMadeLemmas.{BuildsForStore}
use Rattle.leveldb_files.proofs.Histories.SafeLemmas.{some_is}
use Rattle.leveldb_files.specs.Stores.Contents.{Contents, Store, made, missing}
use Rattle.leveldb_files.specs.Stores.Format.{Agrees, Meaning}
use Rattle.leveldb_version_set.specs.Repairs.Found.{AreFound, IsAnyTable, IsFound}
use Rattle.leveldb_files.specs.Stores.Store.{HasNoStore}
use Rattle.leveldb_repair.proofs.RepairAgainLemmas.{leaves_found}
use Rattle.leveldb_repair.proofs.RepairPartsLemmas.{crashes_leave_found, moments_leave_found}
use Rattle.leveldb_repair.specs.RepairStore.{IsPartlyRepaired}
use Rattle.rusty_leveldb.proofs.Repairs.RepairFilesLemmas.{lock_leaves}
use Rattle.rusty_leveldb.specs.Engines.Boxes.{InternalOrder}
use Rattle.rusty_leveldb.specs.Machines.Machine.{IsStoreOf, Opens, StaysOr, risk_between}
use Rattle.rusty_leveldb.specs.Repairs.Repair.{AreFoundIn, repaired_state}
use Rattle.rusty_leveldb.specs.Repairs.RepairLaws.{AnotherRepairFindsTheSame, CrashSinceRepair, CrashesOfRepairsLoseNothing, HasNothingElse, OpensWhatRepairFound, RepairFindsWhatOpens, RepairsLoseNothing}
use Rattle.rusty_leveldb.specs.Engines.Serves.{AreReadAs, IsSpared, Reads, StandsFor, order_of}
use Rattle.rusty_leveldb.specs.Machines.State.{IsState, Opening, State, flush}
use Rattle.rusty_leveldb.proofs.Engines.Crashes.{crash_inside}
use Rattle.rusty_leveldb.proofs.Openings.UnopenedLemmas.{comparator_there, found_in}

-- ---- what is opened after a repair

opened_last : (opening : Opening) (old new : State) (found : List Entry)
    → old.last ≡ greatest found → old.pending ≡ None → Opens old opening new
    → new.history ≡ found ∷ [] → new.last ≡ greatest found
opened_last opening old new found last none row history =
    let same : greatest (entries_of new.history) ≡ greatest found =
    ap (λ (h : History). greatest (entries_of h)) history ∙ ap greatest (append-nil found) in
    let reached = row.reached in
    let bounded = subst (λ p. new.last ≤ old.last + count_of p) none row.bounded in
    omega (arith, same, reached, bounded, last)

module _ {E C FP F P : Type 0} {B : Boxed} {keys : InternalOrder C} {key_filters : FilterGhosts P}
    (env : Ghosts E F) (choices : OptionsOf C FP B → TableChoices keys key_filters)
    (options : OptionsOf C FP B) where
  pub opens_what_repair_found : OpensWhatRepairFound env choices options
  opens_what_repair_found name given asked wanted opening from mid to engine meaning found
      repairs opens modelled is agrees agree bytes are =
      let after = opens.ok opening is meaning agree modelled (repaired_state asked.format found)
      (record {
        disk_is = repairs.becomes modelled meaning agrees bytes found are;
        memory_is = refl;
      }) in
      let history : after.0.history ≡ found ∷ [] = ⊎_elim
      (λ (same : after.0.history ≡ found ∷ []). same)
      (λ (same : after.0.history ≡ found ∷ []). same) after.2.joins in (
        after.0,
        after.1,
        history,
        opened_last opening (repaired_state asked.format found) after.0 found refl refl after.2
            history,
      )

-- ---- another repair

module _ {E F D P : Type 0} {keys : CmpGhosts D} {key_filters : FilterGhosts P}
    (env : Ghosts E F) (choices : TableChoices keys key_filters) where
  pub another_finds_the_same : AnotherRepairFindsTheSame env choices
  another_finds_the_same name asked from mid to meaning found first second modelled agrees bytes
      are =
      let same = leaves_found name asked.format meaning (env.observed from).disk.files
      (env.observed mid).disk.files agrees (first.ok modelled meaning agrees) in
      let again : AreFoundIn name asked.format meaning (env.observed mid).disk.files found
      = λ entry. (
        λ c. (same entry).0 ((are entry).0 c),
        λ is. (are entry).1 ((same entry).1 is),
      ) in (
        again,
        first.becomes modelled meaning agrees bytes found are,
        second.becomes modelled meaning agrees (first.bytes modelled bytes) found again,
      )

-- ---- a crash

module _ {E F D P : Type 0} {keys : CmpGhosts D} {key_filters : FilterGhosts P}
    (env : Ghosts E F) (choices : TableChoices keys key_filters) (only : (at : E) (files : Files)
    → (env.observed at).at_moment (env.observed at).moment files
    → files ≡ (env.observed at).disk.files) where
  pub crash_since_repair : CrashSinceRepair env choices
  crash_since_repair name asked from to result meaning old found files left repairs modelled agrees
      was are since honest free =
      let repaired = repaired_state asked.format found in ⊎_elim
      (λ (spared : IsSpared name meaning old (risk_between old) files).
      let c = crash_inside name meaning old old flush files left was.is_state was.is_state spared
      since.4 honest free in (c.0, inl c.1, c.2))
      (λ (spared : IsState repaired
      × IsSpared name meaning repaired (risk_between repaired) files).
      let c = crash_inside name meaning repaired repaired flush files left spared.0 spared.0 spared.1
      since.4 honest free in (c.0, inr c.1, c.2))
      (since_start (repairs.moments modelled meaning agrees old was found are) (only to) since.0
      files since.1 since.2 since.3)

-- ---- what is found after it

module _ {E F D P : Type 0} {keys : CmpGhosts D} {key_filters : FilterGhosts P}
    (env : Ghosts E F) (choices : TableChoices keys key_filters) (builds : BuildsForStore choices)
  where
    pub nothing_lost : RepairsLoseNothing env choices
    nothing_lost name asked from to result meaning repairs modelled agrees whole =
        let old = (env.observed from).disk.files in
        let end = (env.observed to).disk.files in ⊎_elim
        (λ (made : BeforeOrAfter (created (lock_path name)) old end).
        found_goes_by_bytes name (IsAnyTable choices.format.order meaning) old end
        (λ path n kind. ap (option_map bytes_of) (lock_leaves name old end made path n kind)))
        (λ (it : IsPartlyRepaired choices name meaning old end).
        moments_leave_found choices builds name meaning old end agrees it whole)
        (repairs.parts modelled meaning agrees).has

    module _ (only : (at : E) (files : Files)
        → (env.observed at).at_moment (env.observed at).moment files
        → files ≡ (env.observed at).disk.files) where
      pub crash_loses_nothing : CrashesOfRepairsLoseNothing env choices
      crash_loses_nothing name asked from to result meaning files left repairs modelled agrees kept
          since no_other whole =
          let old = (env.observed from).disk.files in ⊎_elim
          (λ (made : BeforeOrAfter (created (lock_path name)) old files).
          found_goes_by_bytes name (IsAnyTable choices.format.order meaning) old left
          (λ path n kind. kept_left (old (in_folder name path)) (left (in_folder name path))
          (kept (in_folder name path))
          (subst (λ (f : Option File). FileCrashesTo f (left (in_folder name path)))
          (lock_leaves name old files made path n kind) (since.4 (in_folder name path)))))
          (λ (it : IsPartlyRepaired choices name meaning old files).
          crashes_leave_found choices builds name meaning old files left agrees it kept since.4
          no_other whole)
          (since_start (repairs.parts modelled meaning agrees) (only to) since.0 files since.1 since.2
          since.3)

-- ---- what is found of a whole store

same_then : (a b c : List Entry) (t : ℕ) → SameView a b t → SameView b c t → SameView a c t
same_then a b c t first second key value = (
  λ has. (second key value).0 ((first key value).0 has),
  λ has. (first key value).1 ((second key value).1 has),
)

-- where no store is nothing is found
none_found : (store : List ℕ) (cmp : List ℕ → List ℕ → Ordering) (meaning : Meaning)
    (files : Files) → HasNoStore store files → (found : List Entry)
    → AreFound store (IsAnyTable cmp meaning) files found → found ≡ []
none_found store cmp meaning files bare [] are = refl
none_found store cmp meaning files bare (entry ∷ found) are =
    absurd (never ((are entry).0 (in_front entry found)))
  where
    never : IsFound store (IsAnyTable cmp meaning) files entry → ⊥
    never (name, file, there, inl table) =
        let no : None ≡ Some file = sym (bare.no_table name table.0 table.1) ∙ there in cc
    never (name, file, there, inr log) =
        let no : None ≡ Some file = sym (bare.no_log name log.0 log.1) ∙ there in cc

named_same : (a b : List ℕ) → made (Some a) ≡ made (Some b) → a ≡ b
named_same a b e = some_is a b (ap name_of e)
  where
    name_of : Store → Option (List ℕ)
    name_of (made name) = name
    name_of missing = None

-- the comparator of the files is the one that is asked for
asked_comparator : (opening : Opening) (old new : Store) (name : List ℕ) → old ≡ made (Some name)
    → StaysOr (Some opening) old new → IsStoreOf opening new → name ≡ opening.format.order_name
asked_comparator opening old new name is (inl same) of = some_is name opening.format.order_name
    (subst (IsStoreOf opening) (same ∙ is) of)
asked_comparator opening old new name is (inr none) of =
    absurd (let never : made (Some name) ≡ missing = sym is ∙ none.0 in cc)

module _ (store : List ℕ) (opening : Opening) (meaning : Meaning)
    (agrees : Agrees opening.format meaning) (files : Files) (found : List Entry)
    (are : AreFoundIn store opening.format meaning files found)
    (nothing : HasNothingElse store files) where
  -- contents that are read, in the order that is asked for, are what is found
  found_is_read : (contents : Contents) → Reads store meaning files contents
      → ((name : List ℕ) → contents.store ≡ made (Some name) → name ≡ opening.format.order_name)
      → (t : ℕ) → SameView found contents.entries t
  found_is_read contents (inl bare) asked t =
      let none = none_found store opening.format.order meaning files bare.0 found are in
      subst (λ (list : List Entry). SameView found list t)
      (none ∙ sym (ap (λ (c : Contents). c.entries) bare.1)) (λ key value. (λ has. has, λ has. has))
  found_is_read contents (inr m) asked t =
      let is = ap (λ (c : Contents). c.store) m.managed.is in
      let cmp : order_of meaning contents.store ≡ opening.format.order =
      ap (order_of meaning) is
      ∙ ap meaning.orders (asked m.managed.comparator is) ∙ sym agrees.order in
      found_shows_the_same store (order_of meaning contents.store) meaning files contents m
      (nothing m.edits m.has_edits) found
      (subst (λ (o : List ℕ → List ℕ → Ordering). AreFound store (IsAnyTable o meaning) files found)
      (sym cmp) are) t

  found_is_history : (history : History) (last : ℕ)
      → (c : AreReadAs store meaning files history last)
      → ((name : List ℕ) → c.0.contents.store ≡ made (Some name)
      → name ≡ opening.format.order_name)
      → (t : ℕ) → greatest (entries_of history) ≤ t → SameView found (entries_of history) t
  found_is_history history last c asked t from = same_then found c.0.contents.entries
      (entries_of history) t (found_is_read c.0.contents c.0.read asked t) (c.0.matches.same t from)

module _ {E C FP F P : Type 0} {B : Boxed} {keys : InternalOrder C} {key_filters : FilterGhosts P}
    (env : Ghosts E F) (choices : OptionsOf C FP B → TableChoices keys key_filters)
    (options : OptionsOf C FP B) where
  pub repair_finds_what_opens : RepairFindsWhatOpens env choices options
  repair_finds_what_opens name wanted opening from to engine meaning old found opens modelled is
      agrees was nothing are =
      let after = opens.found opening is meaning agrees modelled old was in
      let disk = (env.observed from).disk in (
        after.0,
        after.1,
        after.2,
        found_is_history name opening meaning agrees disk.files found are nothing after.0.history
            after.0.last after.3
            (asked disk old was.disk_is after.0 after.2 after.3.0.contents after.3.0.read),
      )
    where
      asked : (disk : _) (old : State) → StandsFor name meaning disk old → (new : State)
          → Opens old opening new → (contents : Contents)
          → Reads name meaning disk.files contents → (comparator : List ℕ)
          → contents.store ≡ made (Some comparator) → comparator ≡ opening.format.order_name
      asked disk old stands new row contents (inl bare) comparator is =
          absurd (let never : missing ≡ made (Some comparator) =
          sym (ap (λ (c : Contents). c.store) bare.1) ∙ is in cc)
      asked disk old stands new row contents (inr m) comparator is =
          let own : old.store ≡ made (Some m.managed.comparator) =
          comparator_there name meaning disk.files old.store (found_in name meaning disk old stands)
          m.edits m.has_edits m.managed.comparator m.managed.comparator_is in
          let same : made (Some m.managed.comparator) ≡ made (Some comparator) =
          sym (ap (λ (c : Contents). c.store) m.managed.is) ∙ is in
          sym (named_same m.managed.comparator comparator same)
          ∙ asked_comparator opening old.store new.store m.managed.comparator own row.stays row.store
