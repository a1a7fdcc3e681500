-- The numbers of files that an opening finds, and the next one.
use Rattle.std.specs.Prelude.{◌≢◌, IsSome, IsSomeAnd, max}
use Rattle.std.proofs.Common.{◌≡◌, ◌⊎◌, ◌∙◌, ◌+◌, ◌-◌, ◌<◌, ◌≤◌, ◌^◌, inl, inr, ⊎_elim, ℕ, List, [], ◌∷◌, Option, None, Some, append-nil, arith, length, refl, subst, sym}
use Rattle.std.proofs.lemmas.Bool.{cases_lt}
use Rattle.std.specs.Option.{unwrap_or}
use Rattle.std.specs.declared.cmp.Ordering.{Ordering}
use Rattle.leveldb_base.proofs.NamesLemmas.{made_name}
use Rattle.leveldb_base.specs.Names.{IsFileName, file_name}
use Rattle.leveldb_base.specs.declared.types.FileType.TheVariants.{Descriptor, Log}
use Rattle.leveldb_env.specs.Env.{File, Files, ListsChildren, bytes_of, in_folder}
use Rattle.leveldb_mem.specs.WriteBatch.{Batch}
use Rattle.leveldb_files.proofs.Stores.ManifestLemmas.{one_has_edits}
use Rattle.leveldb_files.proofs.Histories.SafeLemmas.{some_is}
use Rattle.leveldb_files.proofs.Edits.VersionSetLemmas.{none_is_some}
use Rattle.leveldb_version_set.specs.Sets.NewStore.{first_edit, first_manifest}
use Rattle.leveldb_files.specs.Stores.Paths.{current_path, log_path}
use Rattle.leveldb_version_set.specs.Sets.Recover.{next_number_after}
use Rattle.leveldb_files.specs.Stores.Store.{HasEdits}
use Rattle.leveldb_files.specs.Edits.Edit.{Edit}
use Rattle.leveldb_files.specs.Edits.VersionSet.{level_file, live_after}
use Rattle.leveldb_version_set.specs.Sets.VersionSetValue.{VersionSetValue, new_version_set}
use Rattle.leveldb_store.proofs.Openings.OpeningFrontLemmas.{IsFoundOrMade}
use Rattle.leveldb_store.proofs.Openings.OpeningMadeLemmas.{made_edits, made_edits_there, made_no_log_there, named_manifest, there_before}
use Rattle.leveldb_store.specs.Logs.FoundLogs.{LogBeginsWith}
use Rattle.leveldb_files.specs.Stores.Format.{Format}
use Rattle.leveldb_store.specs.Openings.OpeningSteps.{ComesAfterFound, HasNumber, IsMade, IsUnsupported, MarksNames}
use Rattle.leveldb_store.specs.Openings.OpensStore.{HasHugeManifest, HasSharedUserKey, IsNumberFound, IsNumberOf, LeavesFewNumbers}

-- ---- the next number

module _ (store : List ℕ) (files : Files) where
  greater_found : (a b : ℕ) → ComesAfterFound store files a → ComesAfterFound store files b
      → ComesAfterFound store files (max a b)
  greater_found a b first second = ⊎_elim
      (λ (less : a < b). (second.0, second.1, let after = second.2 in omega (arith, less, after)))
      (λ (more : b ≤ a). (first.0, first.1, let after = first.2 in omega (arith, more, after)))
      (cases_lt a b)

  -- a number of the edits, if they have it
  edits_found : (edits : List Edit) → HasEdits store files edits → (number : Option ℕ)
      → ((n : ℕ) → number ≡ Some n → IsNumberOf (live_after edits) n)
      → ComesAfterFound store files (unwrap_or number 0 + 1)
  edits_found edits has None is = (0, inl (omega arith), omega arith)
  edits_found edits has (Some n) is = (n, inr (inr (edits, has, is n refl)), omega arith)

  there_is : (file : Option File) (it : File) → file ≡ Some it → file ≢ None
  there_is file it there none = let never : Some it ≡ None = sym there ∙ none in absurd (cc)

  -- after names, edits are read
  pub edits_after : (old : VersionSetValue) (edits : List Edit) (number : ℕ)
      (has : HasEdits store files edits) → has.number ≡ number
      → ComesAfterFound store files old.next_file
      → ComesAfterFound store files (next_number_after old edits number)
  edits_after old edits number has same before =
      let set = live_after edits in
      let next = edits_found edits has set.next_file (λ n is. inl is) in
      let log = edits_found edits has set.log_number (λ n is. inr (inl is)) in
      let previous = edits_found edits has set.previous_log (λ n is. inr (inr is)) in
      let manifest : ComesAfterFound store files (number + 1) = (
        number,
        inr (inl (
          has.name,
          Descriptor,
          subst (λ n. IsFileName has.name n Descriptor) same has.named.0,
          there_is (files (in_folder store has.name)) has.manifest has.there,
        )),
        omega arith,
      ) in
      let all = greater_found old.next_file
      (max (unwrap_or set.next_file 0 + 1) (max (number + 1) (max (unwrap_or set.log_number 0 + 1)
      (unwrap_or set.previous_log 0 + 1)))) before
      (greater_found (unwrap_or set.next_file 0 + 1) (max (number + 1)
      (max (unwrap_or set.log_number 0 + 1) (unwrap_or set.previous_log 0 + 1))) next
      (greater_found (number + 1)
      (max (unwrap_or set.log_number 0 + 1) (unwrap_or set.previous_log 0 + 1)) manifest
      (greater_found (unwrap_or set.log_number 0 + 1) (unwrap_or set.previous_log 0 + 1) log
      previous))) in
      (all.0, all.1, let after = all.2 in omega (arith, after))

  -- a number of a listed name is found
  name_found : (names : List (List ℕ)) → ListsChildren files store names → (n : ℕ)
      → HasNumber names n → IsNumberFound store files n
  name_found names lists n (name, kind, there, is) = inr (inl (
    name,
    kind,
    is,
    some_there (files (in_folder store name)) ((lists.each name).0 there).1,
  ))
    where
      some_there : (file : Option File) → IsSome file → file ≢ None
      some_there None some none = absurd (cc)
      some_there (Some file) some none = absurd (cc)

  -- the names of a new set are marked
  pub names_after : (comparator : List ℕ) (names : List (List ℕ))
      → ListsChildren files store names → (marked : VersionSetValue)
      → MarksNames (new_version_set store comparator) names marked
      → ComesAfterFound store files marked.next_file
  names_after comparator names lists marked marks = ⊎_elim
      (λ (same : marked.next_file ≡ 2). (1, inl (omega arith), omega (arith, same)))
      (λ (it : (n : ℕ) × HasNumber names n × (marked.next_file ≡ n + 1)).
      (it.0, name_found names lists it.0 it.1, let next = it.2 in omega (arith, next)))
      marks.reached

  -- ---- too few numbers

  -- the number of a name is the last one
  pub few_after_name : (names : List (List ℕ)) → ListsChildren files store names → (n : ℕ)
      → HasNumber names n → n ≡ 2 ^ 64 - 1 → LeavesFewNumbers store files 2
  few_after_name names lists n has is_last = record {
    last = n;
    is_found = name_found names lists n has;
    too_few = omega (arith, is_last);
  }

  -- there is none after the next one
  pub few_after_next : (next : ℕ) → ComesAfterFound store files next → 2 ^ 64 ≤ next + 1
      → LeavesFewNumbers store files 2
  few_after_next next found many = record {
    last = found.0;
    is_found = found.1;
    too_few = let after = found.2 in omega (arith, many, after);
  }

-- ---- a store that is made

module _ (store comparator : List ℕ) (files now : Files)
    (new : IsMade store comparator files now) where
  -- what is found in a new store was found before, or is one of its first numbers
  pub number_before : (n : ℕ) → IsNumberFound store now n → IsNumberFound store files n
  number_before n (inl few) = inl few
  number_before n (inr (inl (name, kind, is, there))) = ⊎_elim
      (λ (few : n ≤ 2). inl few)
      (λ (more : 2 < n). inr (inl (
        name,
        kind,
        is,
        λ gone. there (there_before store comparator files now new name n kind is more ∙ gone),
      )))
      (few_or_more n)
    where
      few_or_more : (n : ℕ) → (n ≤ 2) ⊎ (2 < n)
      few_or_more n = ⊎_elim (λ (more : 2 < n). inr more) (λ (few : n ≤ 2). inl few) (cases_lt 2 n)
  number_before n (inr (inr (edits, has, is))) =
      let same : edits ≡ made_edits store comparator files now new
      = (one_has_edits store now edits (made_edits store comparator files now new) has
      (made_edits_there store comparator files now new)).1 in
      inl (few n (subst (λ es. IsNumberOf (live_after es) n) same is))
    where
      few : (n : ℕ) → IsNumberOf (live_after (first_edit comparator ∷ [])) n → n ≤ 2
      few n (inl next) = let same : 2 ≡ n = some_is 2 n next in omega (arith, same)
      few n (inr (inl log)) = let same : 0 ≡ n = some_is 0 n log in omega (arith, same)
      few n (inr (inr previous)) = absurd (let never : None ≡ Some n = previous in cc)

  -- its tables share no user key, since there is none
  none_shared : (cmp : List ℕ → List ℕ → Ordering) → HasSharedUserKey store now cmp → ⊥
  none_shared cmp shared =
      let same : shared.edits ≡ made_edits store comparator files now new
      = (one_has_edits store now shared.edits (made_edits store comparator files now new)
      shared.has_edits (made_edits_there store comparator files now new)).1 in
      none_is_some (subst (λ es. (live_after es).file (level_file shared.a) ≡ Some shared.a) same
      shared.beside.a_live)

  -- and its manifest is huge only if that is
  huge_before : HasHugeManifest store now comparator → HasHugeManifest store files comparator
  huge_before (inr none) = absurd
      (there_is store now (now (current_path store))
      (made_edits_there store comparator files now new).current
      (made_edits_there store comparator files now new).current_there none.0)
  huge_before (inl (name, number, named, huge)) =
      let size = subst (λ file. IsSomeAnd file (λ f. 2 ^ 64 ≤ length (bytes_of f)))
      (named_manifest store comparator files now new name number named) huge in
      inr (
        new.bare.no_current,
        subst (λ bytes. 2 ^ 64 ≤ length bytes) (append-nil (first_manifest comparator)) size,
      )

  pub unsupported_new : (format : Format) → format.order_name ≡ comparator
      → IsUnsupported store format now → IsUnsupported store format files
  unsupported_new format same (inl shared) = absurd (none_shared format.order shared)
  unsupported_new format same (inr (inl huge)) = inr (inl
      (subst (HasHugeManifest store files) (sym same)
      (huge_before (subst (HasHugeManifest store now) same huge))))
  unsupported_new format same (inr (inr few)) = inr (inr (record {
    last = few.last;
    is_found = number_before few.last few.is_found;
    too_few = few.too_few;
  }))

-- ---- a store that is found or made

module _ (store : List ℕ) (format : Format) (files now : Files)
    (found : IsFoundOrMade store format.order_name files now) where
  -- what isn't supported wasn't before
  pub unsupported_before : IsUnsupported store format now → IsUnsupported store format files
  unsupported_before not = ⊎_elim
      (λ (same : (files (current_path store) ≢ None) × (now ≡ files)).
      subst (IsUnsupported store format) same.1 not)
      (λ (new : IsMade store format.order_name files now).
      unsupported_new store format.order_name files now new format refl not)
      found

  -- a number that is found was so before
  pub found_before : (n : ℕ) → IsNumberFound store now n → IsNumberFound store files n
  found_before n is = ⊎_elim
      (λ (same : (files (current_path store) ≢ None) × (now ≡ files)).
      subst (λ f. IsNumberFound store f n) same.1 is)
      (λ (new : IsMade store format.order_name files now).
      number_before store format.order_name files now new n is)
      found

  -- a log began with the same batches
  pub log_before : (n : ℕ) → n < 2 ^ 64 → (batches : List Batch)
      → LogBeginsWith store now n batches → LogBeginsWith store files n batches
  log_before n fits batches begins = ⊎_elim
      (λ (same : (files (current_path store) ≢ None) × (now ≡ files)).
      subst (λ f. LogBeginsWith store f n batches) same.1 begins)
      (λ (new : IsMade store format.order_name files now). absurd
      (there_is store now (now (log_path store n)) begins.0 begins.1
      (made_no_log_there store format.order_name files now new (file_name Log n) n
      (made_name Log n fits))))
      found
