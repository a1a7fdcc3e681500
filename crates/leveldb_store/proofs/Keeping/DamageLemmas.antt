-- Files that were left aside and are damaged, and what a removal of obsolete files leaves where
-- files were only read before it.
use Rattle.std.specs.Prelude.{◌↔◌, Contains, IfErr, IfOk, IsSome, IsSomeAnd, IsTrue}
use Rattle.std.specs.Bool.{then_some}
use Rattle.std.specs.Option.{option_map, option_to_list}
use Rattle.std.specs.Result.{result_unwrap_or}
use Rattle.std.proofs.Common.{◌≡◌, ◌≢◌, ◌∙◌, ◌⊎◌, inl, inr, ⊎_elim, ◌++◌, ◌≤◌, ◌<◌, ◌-◌, ◌^◌, ℕ, Bool, List, [], ◌∷◌, None, Option, Some, Ok, Err, Result, ap, append-nil, arith, false, length, map, refl, subst, sym, true}
use Rattle.std.proofs.lemmas.Bool.{cases_lt}
use Rattle.std.proofs.lemmas.List.Elements.{Contains-append_left, Contains-append_right, Contains-push_cases}
use Rattle.std.specs.declared.cmp.Ordering.{Ordering}
use Rattle.leveldb_base.proofs.HistoryLemmas.{in_cases, in_front, in_none}
use Rattle.leveldb_base.proofs.NamesLemmas.{one_reading}
use Rattle.leveldb_base.specs.Error.{IsOutOfMemory}
use Rattle.leveldb_base.specs.Names.{IsFileName}
use Rattle.leveldb_base.specs.declared.error.Status.{Status}
use Rattle.leveldb_base.specs.declared.types.FileType.{FileType}
use Rattle.leveldb_base.specs.declared.types.FileType.TheVariants.{Current, DBLock, Descriptor, InfoLog, Log, Table, Temp}
use Rattle.leveldb_env.proofs.EnvLemmas.{Run-mono}
use Rattle.leveldb_env.specs.Env.{File, Files, HasCause, IsEmptyFolder, ListsChildren, bytes_of, in_folder}
use Rattle.leveldb_env.specs.declared.env.Env.{Ghosts}
use Rattle.leveldb_table.specs.TableBlock.{KeepsDisk}
use Rattle.leveldb_files.specs.Stores.Format.{Meaning}
use Rattle.leveldb_store.proofs.Keeping.RemoveLemmas.{name_unslashed, none_removed, removal_keeps}
use Rattle.leveldb_store.proofs.Keeping.SoundLemmas.{failed_later, failed_once}
use Rattle.leveldb_store.specs.Logs.Damage.{HasDamagedFile, IsDamagedFile, IsDamagedPath, IsLeftAside, IsPathIfDamaged, LosesRecords}
use Rattle.leveldb_version_set.specs.Sets.VersionSetValue.{VersionSetValue}
use Rattle.leveldb_store.specs.Keeping.KeptBytes.{AreKept, HasNumberThere}
use Rattle.leveldb_store.specs.Keeping.OpenStore.{OpenStoreValue}
use Rattle.leveldb_store.specs.Keeping.Written.{KeepsWritten}
use Rattle.leveldb_store.specs.Openings.DamageSteps.{IsNameLost, LooksAtName, LooksAtNames}
use Rattle.leveldb_store.specs.Openings.EndsOpening.{LooksForDamage}
use Rattle.leveldb_store.specs.Writing.Room.{HasFailed}

module _ {E F C : Type 0} (env : Ghosts E F) (cmp : List ℕ → List ℕ → Ordering)
    (value : OpenStoreValue C) (from mid to : E) (keeps : KeepsDisk env from mid) where
  -- a store that is written is so still where nothing was done but reads
  pub still_written : IsTrue env.models_disk → (meaning : Meaning)
      → KeepsWritten cmp meaning value (env.observed from) value (env.observed mid)
  still_written modelled meaning allowed w = removal_keeps cmp meaning
      (λ store. IsTrue (allowed store)) value (env.observed from) (env.observed mid)
      (Run-mono (λ files same. none_removed value.set value.kept_to
      (env.observed from).disk.files files same)
      (keeps.disk modelled)) w

-- ---- damaged files

-- the name is a damaged file's only if its number and type are those of one that is left aside
pub not_aside : (set : VersionSetValue) (files : Files) (name : List ℕ) (n : ℕ) (kind : FileType)
    → IsFileName name n kind → (IsLeftAside set kind n → ⊥) → IsDamagedFile set files name → ⊥
not_aside set files name n kind is aside it =
    let one = one_reading name it.number n it.kind kind it.named is in
    aside (subst (λ k. IsLeftAside set k n) one.1
    (subst (λ m. IsLeftAside set it.kind m) one.0 it.aside))

-- a file of these bytes, which is left aside, is damaged exactly if they lose records
pub damaged_by : (set : VersionSetValue) (files : Files) (name bytes : List ℕ) (n : ℕ)
    (kind : FileType) → IsFileName name n kind → IsLeftAside set kind n
    → IsSomeAnd (files (in_folder set.store name)) (λ file. bytes ≡ bytes_of file)
    → LosesRecords bytes → IsDamagedFile set files name
damaged_by set files name bytes n kind named aside there loses = record {
  number = n;
  kind = kind;
  named = named;
  aside = aside;
  loses = by (files (in_folder set.store name)) there;
}
  where
    by : (found : Option File) → IsSomeAnd found (λ file. bytes ≡ bytes_of file)
        → IsSomeAnd found (λ file. LosesRecords (bytes_of file))
    by None is = is
    by (Some file) is = subst LosesRecords is loses

pub lost_by : (set : VersionSetValue) (files : Files) (name bytes : List ℕ)
    → IsSomeAnd (files (in_folder set.store name)) (λ file. bytes ≡ bytes_of file)
    → IsDamagedFile set files name → LosesRecords bytes
lost_by set files name bytes there it = by (files (in_folder set.store name)) there it.loses
  where
    by : (found : Option File) → IsSomeAnd found (λ file. bytes ≡ bytes_of file)
        → IsSomeAnd found (λ file. LosesRecords (bytes_of file)) → LosesRecords bytes
    by None is loses = absurd is
    by (Some file) is loses = subst LosesRecords (sym is) loses

-- a damaged file is among those that are listed
pub listed_damaged : (set : VersionSetValue) (files : Files) (names : List (List ℕ))
    → ListsChildren files set.store names → (name : List ℕ) → IsDamagedFile set files name
    → Contains names name
listed_damaged set files names lists name it = (lists.each name).1
    (name_unslashed name it.number it.kind it.named, by (files (in_folder set.store name)) it.loses)
  where
    by : (found : Option File) → IsSomeAnd found (λ file. LosesRecords (bytes_of file))
        → IsSome found
    by None loses = absurd loses
    by (Some file) loses = refl

-- none of which something is made is none
pub map_empty : {A B : Type 0} (f : A → B) (xs : List A) → map f xs ≡ [] → xs ≡ []
map_empty f [] none = refl
map_empty f (x ∷ xs) none = let long = ap length none in absurd (omega (arith, long))

-- the greatest number of these names
abbrev pub MostOf : List (List ℕ) → ℕ → Type 0
MostOf names greatest = ((name : List ℕ) → Contains names name → (n : ℕ) (kind : FileType)
    → IsFileName name n kind → n ≤ greatest)
    × ((greatest ≡ 0) ⊎ ((name : List ℕ) × (kind : FileType) × Contains names name
    × IsFileName name greatest kind))

pub most_none : MostOf [] 0
most_none = (λ name never. absurd (in_none name never), inl refl)

module _ (done : List (List ℕ)) (name : List ℕ) (greatest : ℕ) (so_far : MostOf done greatest) where
  -- one more name of a file
  pub most_more : (n : ℕ) (kind : FileType) → IsFileName name n kind → (now : ℕ) → n ≤ now
      → greatest ≤ now → (now ≡ n) ⊎ (now ≡ greatest) → MostOf (done ++ name ∷ []) now
  most_more n kind is now most more which = (
    λ other there m its_kind its. ⊎_elim
        (λ (before : Contains done other).
        let least = so_far.0 other before m its_kind its in omega (arith, least, more))
        (λ (same : name ≡ other).
        let one = (one_reading other m n its_kind kind its
        (subst (λ z. IsFileName z n kind) same is)).0 in omega (arith, one, most))
        (Contains-push_cases done name other there),
    ⊎_elim
        (λ (is_n : now ≡ n). inr (
          name,
          kind,
          Contains-append_right done (name ∷ []) name (in_front name []),
          subst (λ m. IsFileName name m kind) (sym is_n) is,
        ))
        (λ (is_before : now ≡ greatest). ⊎_elim
        (λ (none : greatest ≡ 0). inl (is_before ∙ none))
        (λ (one : (other : List ℕ) × (its_kind : FileType) × Contains done other
        × IsFileName other greatest its_kind). inr (
          one.0,
          one.1,
          Contains-append_left done (name ∷ []) one.0 one.2,
          subst (λ m. IsFileName one.0 m one.1) (sym is_before) one.3,
        )) so_far.1) which,
  )

  -- or of none
  pub most_same : ((n : ℕ) (kind : FileType) → IsFileName name n kind → ⊥)
      → MostOf (done ++ name ∷ []) greatest
  most_same none = (
    λ other there m its_kind its. ⊎_elim
        (λ (before : Contains done other). so_far.0 other before m its_kind its)
        (λ (same : name ≡ other).
        absurd (none m its_kind (subst (λ z. IsFileName z m its_kind) (sym same) its)))
        (Contains-push_cases done name other there),
    ⊎_elim (λ (zero : greatest ≡ 0). inl zero)
        (λ (one : (other : List ℕ) × (its_kind : FileType) × Contains done other
        × IsFileName other greatest its_kind).
        inr (one.0, one.1, Contains-append_left done (name ∷ []) one.0 one.2, one.3)) so_far.1,
  )

-- ---- one name after the other

-- a failure that was counted before is counted later
pub failed_before : (from at to : ℕ) → at ≤ to → HasFailed from at → HasFailed from to
failed_before from at to later (inl less) = inl (omega (arith, less, later))
failed_before from at to later (inr most) = inr most

module _ {E F : Type 0} (env : Ghosts E F) (set : VersionSetValue) (from : E) where
  abbrev here : Files
  here = (env.observed from).disk.files

  -- a file that isn't damaged
  pub looks_at_sound : {A : Type 0} (f : A → List ℕ) (name : List ℕ) (to : E)
      → env.failures from ≤ env.failures to
      → (IsTrue env.models_disk → IsDamagedFile set here name → ⊥)
      → LooksAtName env set from name (option_map f) (Ok None) to
  looks_at_sound f name to later none =
      record { damaged = none; cause = record { later = later; cause = tt } }

  -- one that is or isn't
  pub looks_at_name : {A : Type 0} (f : A → List ℕ) (name : List ℕ) (path : A)
      → f path ≡ in_folder set.store name → (has : Bool) (to : E)
      → env.failures from ≤ env.failures to
      → (IsTrue env.models_disk → IsTrue has → IsDamagedFile set here name)
      → (IsTrue env.models_disk → IsDamagedFile set here name → IsTrue has)
      → LooksAtName env set from name (option_map f) (Ok (then_some has path)) to
  looks_at_name f name path at true to later found is = record {
    damaged = λ modelled. (found modelled refl, at);
    cause = record { later = later; cause = tt };
  }
  looks_at_name f name path at false to later found is = record {
    damaged = λ modelled it. let never : false ≡ true = is modelled it in absurd (cc never);
    cause = record { later = later; cause = tt };
  }

  -- one that can't be looked at
  pub looks_in_vain : {X : Type 0} (path_of : X → Option (List ℕ)) (name : List ℕ) (status : Status)
      (to : E) → env.failures from ≤ env.failures to
      → IsNameLost env set from name status ⊎ HasFailed (env.failures from) (env.failures to)
      → LooksAtName env set from name path_of (Err status) to
  looks_in_vain path_of name status to later why =
      record { damaged = tt; cause = record { later = later; cause = why } }

  -- the paths are those of the damaged files of these names
  abbrev pub AreAmong : List (List ℕ) → List (List ℕ) → Type 0
  AreAmong names paths = (path : List ℕ) → Contains paths path ↔ ((name : List ℕ)
      × Contains names name × IsDamagedFile set here name × (path ≡ in_folder set.store name))

  pub among_none : AreAmong [] []
  among_none path =
      (λ never. absurd (in_none path never), λ its. absurd (in_none its.0 its.1))

  -- one more
  module _ (done paths : List (List ℕ)) (name : List ℕ) (mid : Files) (same : mid ≡ here)
      (so_far : AreAmong done paths) where
    abbrev both_names : List (List ℕ)
    both_names = done ++ name ∷ []

    abbrev One : List (List ℕ) → List ℕ → Type 0
    One names path = (at : List ℕ) × Contains names at × IsDamagedFile set here at
        × (path ≡ in_folder set.store at)

    earlier_one : (path : List ℕ) → One done path → One both_names path
    earlier_one path its =
        (its.0, Contains-append_left done (name ∷ []) its.0 its.1, its.2, its.3)

    pub among_more : (found : Option (List ℕ)) → IsPathIfDamaged set mid name found
        → AreAmong both_names (paths ++ option_to_list found)
    among_more None none path = (
      λ there. earlier_one path ((so_far path).0 (subst (λ (ps : List (List ℕ)). Contains ps path)
          (append-nil paths) there)),
      λ its. subst (λ (ps : List (List ℕ)). Contains ps path) (sym (append-nil paths)) (⊎_elim
          (λ (before : Contains done its.0). (so_far path).1 (its.0, before, its.2, its.3))
          (λ (is : name ≡ its.0). absurd (none (subst (IsDamagedFile set mid) (sym is)
          (subst (λ (f : Files). IsDamagedFile set f its.0) (sym same) its.2))))
          (Contains-push_cases done name its.0 its.1)),
    )
    among_more (Some at) damaged path = (
      λ there. ⊎_elim (λ (before : Contains paths path). earlier_one path ((so_far path).0 before))
          (λ (is : at ≡ path). (
            name,
            Contains-append_right done (name ∷ []) name (in_front name []),
            subst (λ (f : Files). IsDamagedFile set f name) same damaged.0,
            sym is ∙ damaged.1,
          )) (Contains-push_cases paths at path there),
      λ its. ⊎_elim
          (λ (before : Contains done its.0). Contains-append_left paths (at ∷ []) path
          ((so_far path).1 (its.0, before, its.2, its.3)))
          (λ (is : name ≡ its.0). Contains-append_right paths (at ∷ []) path
          (subst (Contains (at ∷ [])) (damaged.1 ∙ ap (in_folder set.store) is ∙ sym its.3)
          (in_front at [])))
          (Contains-push_cases done name its.0 its.1),
    )

  -- one that can't be looked at is one of them
  pub looks_up_to : {X Y : Type 0} (paths_of : Y → List (List ℕ)) (path_of : X → Option (List ℕ))
      (names : List (List ℕ)) (name : List ℕ) → Contains names name → (mid : E)
      → env.failures from ≤ env.failures mid
      → (IsTrue env.models_disk → (env.observed mid).disk.files ≡ here) → (status : Status) (to : E)
      → LooksAtName env set mid name path_of (Err status) to
      → LooksAtNames env set from names paths_of (Err status) to
  looks_up_to paths_of path_of names name there mid first same status to one = record {
    damaged = tt;
    cause = record {
      later = let second = one.cause.later in omega (arith, first, second);
      cause = ⊎_elim
          (λ excused. inl (
            name,
            there,
            ⊎_elim (λ memory. inl memory)
                (λ missing. inr (
                  missing.0,
                  λ modelled. sym (ap (λ (f : Files). f (in_folder set.store name)) (same modelled))
                      ∙ missing.1 modelled,
                )) excused,
          ))
          (λ counted. inr (failed_later (env.failures from) (env.failures mid) (env.failures to)
          first one.cause.later counted)) one.cause.cause;
    };
  }

  -- ---- the whole look

  -- the folder isn't listed, and all files are kept
  pub looks_nowhere : {T : Type 0} (status : Status) (to : E)
      → HasCause {T = T} (IsEmptyFolder env.models_disk set.store (env.observed from))
      (env.failures from) (env.failures to) (Err status)
      → (last : ℕ) → last ≡ set.next_file - 1 → LooksForDamage env set from (Some last) [] (Err status) to
  looks_nowhere status to cause last is = record {
    found = λ modelled path never. absurd (in_none path never);
    each = tt;
    damaged = λ modelled has below name n kind named there.
        let less = below name n kind named there in omega (arith, less, is);
    bounded = λ modelled. ⊎_elim (λ (less : last < set.next_file). inl less)
        (λ (most : set.next_file ≤ last). inr (inl (omega (arith, most, is))))
        (cases_lt last set.next_file);
    undamaged = tt;
    cause = record {
      later = cause.later;
      cause = ⊎_elim (λ excused. inl (inl excused))
          (λ counted. inr (failed_once (env.failures from) (env.failures to) counted)) cause.cause;
    };
  }

  module _ (names : List (List ℕ))
      (listed : IsTrue env.models_disk → ListsChildren here set.store names) (mid to : E)
      (same : IsTrue env.models_disk → (env.observed mid).disk.files ≡ here)
      (counted : env.failures mid ≡ env.failures from) (greatest : ℕ)
      (least : (name : List ℕ) → Contains names name
      → (n : ℕ) (kind : FileType) → IsFileName name n kind → n ≤ greatest)
      (is_one : (greatest ≡ 0) ⊎ ((name : List ℕ) × (kind : FileType) × Contains names name
      × IsFileName name greatest kind)) where
    -- it is one of a file that is there
    bounded_so : IsTrue env.models_disk → (greatest < set.next_file) ⊎ (greatest ≡ 0)
        ⊎ HasNumberThere set.store here greatest
    bounded_so modelled = ⊎_elim (λ (none : greatest ≡ 0). inr (inl none))
        (λ (one : (name : List ℕ) × (kind : FileType) × Contains names name
        × IsFileName name greatest kind). inr (inr (
          one.0,
          one.1,
          one.3,
          λ gone. let there : IsSome (here (in_folder set.store one.0)) =
              (((listed modelled).each one.0).0 one.2).1 in
              let never : false ≡ true = subst (λ o. IsSome o) gone there in absurd (cc never),
        ))) is_one

    -- each file that is there is listed, and its number is up to the greatest
    all_kept : IsTrue env.models_disk → AreKept set.store here (Some greatest)
    all_kept modelled name n kind is there = least name
        (((listed modelled).each name).1 (
          name_unslashed name n kind is,
          by (here (in_folder set.store name)) there,
        )) n kind is
      where
        by : (found : Option File) → found ≢ None → IsSome found
        by None some = absurd (some refl)
        by (Some file) some = refl

    module _ {X : Type 0} (paths_of : X → List (List ℕ)) where
      module _ (x : X) (looks : LooksAtNames env set mid names paths_of (Ok x) to) where
        later_on : env.failures from ≤ env.failures to
        later_on = let late = looks.cause.later in omega (arith, counted, late)

        in_time : (name : List ℕ) → IsTrue env.models_disk
            → IsDamagedFile set (env.observed mid).disk.files name → IsDamagedFile set here name
        in_time name modelled =
            subst (λ (f : Files). IsDamagedFile set f name) (same modelled)

        each_found : IsTrue env.models_disk → (path : List ℕ) → IsDamagedPath set here path
            → Contains (paths_of x) path
        each_found modelled path its = (looks.damaged modelled path).1 (
          its.0,
          listed_damaged set here names (listed modelled) its.0 its.1,
          subst (λ (f : Files). IsDamagedFile set f its.0) (sym (same modelled)) its.1,
          its.2,
        )

        found_each : IsTrue env.models_disk → (path : List ℕ) → Contains (paths_of x) path
            → IsDamagedPath set here path
        found_each modelled path there = let its = (looks.damaged modelled path).0 there in
            (its.0, in_time its.0 modelled its.2, its.3)

        -- none is damaged
        pub none_damaged : paths_of x ≡ [] → LooksForDamage env set from None (paths_of x) (Ok tt) to
        none_damaged none = record {
          found = found_each;
          each = each_found;
          damaged = λ modelled has below. absurd (in_none (in_folder set.store has.0)
              (subst (λ (ps : List (List ℕ)). Contains ps (in_folder set.store has.0)) none
              (each_found modelled (in_folder set.store has.0) (has.0, has.1, refl))));
          bounded = λ modelled. tt;
          undamaged = λ modelled kept. absurd (kept refl);
          cause = record { later = later_on; cause = tt };
        }

        -- one is
        pub some_damaged : (paths_of x ≡ [] → ⊥)
            → LooksForDamage env set from (Some greatest) (paths_of x) (Ok tt) to
        some_damaged some = record {
          found = found_each;
          each = each_found;
          damaged = λ modelled has below. all_kept modelled;
          bounded = bounded_so;
          undamaged = λ modelled kept. has_one modelled (paths_of x) refl;
          cause = record { later = later_on; cause = tt };
        }
          where
            has_one : IsTrue env.models_disk → (ps : List (List ℕ)) → paths_of x ≡ ps
                → HasDamagedFile set here
            has_one modelled [] is = absurd (some is)
            has_one modelled (path ∷ rest) is =
                let its = found_each modelled path
                (subst (λ (ps : List (List ℕ)). Contains ps path) (sym is) (in_front path rest)) in
                (its.0, its.1)

      -- one can't be looked at
      pub looks_past : (status : Status) → LooksAtNames env set mid names paths_of (Err status) to
          → LooksForDamage env set from (Some greatest) [] (Err status) to
      looks_past status looks = record {
        found = λ modelled path never. absurd (in_none path never);
        each = tt;
        damaged = λ modelled has below. all_kept modelled;
        bounded = bounded_so;
        undamaged = tt;
        cause = record {
          later = let late = looks.cause.later in omega (arith, counted, late);
          cause = ⊎_elim (λ excused. inl (⊎_elim (λ out. inl (inl out))
              (λ missing. inr (
                λ modelled. listed_here modelled excused.0 excused.1 (missing.1 modelled),
                excused.0,
                missing.0,
              )) excused.2))
              (λ failed. inr (subst (λ n. HasFailed n (env.failures to)) counted failed))
              looks.cause.cause;
        };
      }
        where
          listed_here : IsTrue env.models_disk → (name : List ℕ) → Contains names name
              → (env.observed mid).disk.files (in_folder set.store name) ≡ None → ⊥
          listed_here modelled name in_names none =
              let there : IsSome (here (in_folder set.store name)) =
              (((listed modelled).each name).0 in_names).1 in
              let gone : here (in_folder set.store name) ≡ None =
              sym (ap (λ (f : Files). f (in_folder set.store name)) (same modelled)) ∙ none in
              let never : false ≡ true = subst (λ o. IsSome o) gone there in absurd (cc never)

-- ---- what it returned

-- the paths that were found, none after an Err
abbrev pub found_paths : {X : Type 0} → (X → List (List ℕ)) → Result X Status → List (List ℕ)
found_paths paths_of (Ok x) = paths_of x
found_paths paths_of (Err status) = []

abbrev pub found_result : {X : Type 0} → Result X Status → Result (Unit {0}) Status
found_result (Ok x) = Ok tt
found_result (Err status) = Err status

pub looked_for : {E F X : Type 0} (env : Ghosts E F) (set : VersionSetValue) (from : E)
    (kept_to : Option ℕ) (paths_of : X → List (List ℕ)) (to : E) (found : Result X Status)
    → IfOk found (λ x. LooksForDamage env set from kept_to (paths_of x) (Ok tt) to)
    → IfErr found (λ status. LooksForDamage env set from kept_to [] (Err status) to)
    → LooksForDamage env set from kept_to (found_paths paths_of found) (found_result found) to
looked_for env set from kept_to paths_of to (Ok x) ok err = ok
looked_for env set from kept_to paths_of to (Err status) ok err = err

pub found_or_none : {X : Type 0} (paths_of : X → List (List ℕ)) (rest : X) → paths_of rest ≡ []
    → (found : Result X Status) → paths_of (result_unwrap_or found rest) ≡ found_paths paths_of found
found_or_none paths_of rest none (Ok x) = refl
found_or_none paths_of rest none (Err status) = none
