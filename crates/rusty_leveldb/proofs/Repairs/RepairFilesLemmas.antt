-- A repair under the store's lock, whose file was made for it: what it says of the files with that
-- file it says of them as they were before.
use Rattle.std.specs.Prelude.{string_bytes}
use Rattle.std.proofs.Common.{◌≡◌, ◌⊎◌, ◌<◌, ◌≤◌, ◌++◌, ◌∷◌, ◌∙◌, ⊎_elim, inl, inr, ℕ, List, [], false, refl, sym, ap, subst, arith, Option, None, Some}
use Rattle.std.proofs.lemmas.Bool.{cases_lt}
use Rattle.std.specs.Str.{bytes_eq}
use Rattle.leveldb_base.proofs.NamesLemmas.{made_name}
use Rattle.leveldb_base.specs.Entries.{entry_of_pair}
use Rattle.leveldb_base.specs.History.{Entry}
use Rattle.leveldb_base.specs.Names.{IsFileName, file_name}
use Rattle.leveldb_base.specs.Types.{Pair}
use Rattle.leveldb_base.specs.declared.cmp.Cmp.{Ghosts as CmpGhosts}
use Rattle.leveldb_base.specs.declared.error.Status.{Status}
use Rattle.leveldb_base.specs.declared.types.FileType.{FileType}
use Rattle.leveldb_base.specs.declared.types.FileType.TheVariants.{DBLock, Descriptor, Log, Table}
use Rattle.std.specs.Option.{option_map}
use Rattle.leveldb_env.specs.Env.{BeforeOrAfter, File, Files, SameBut, bytes_of, created, in_folder, or_empty}
use Rattle.leveldb_env.specs.declared.filter.FilterPolicy.{Ghosts as FilterGhosts}
use Rattle.leveldb_env.proofs.EnvLemmas.{SameBut-created}
use Rattle.leveldb_version_set.proofs.Repairs.FoundLemmas.{found_goes_by_bytes}
use Rattle.leveldb_files.proofs.Stores.ManagedLemmas.{kinds_apart, numbers_apart}
use Rattle.leveldb_files.specs.Stores.Format.{Format, Meaning}
use Rattle.leveldb_version_set.specs.Repairs.Found.{AreFound, HasNoTableNorLog, IsAnyTable, IsFound}
use Rattle.leveldb_files.specs.Stores.Paths.{current_path, lock_path}
use Rattle.leveldb_version_set.specs.Repairs.Repairing.{IsAmidRepair, IsGreatestInFolder, IsNumberInManifest, IsNumberOfName, SameTablesAndLogs}
use Rattle.leveldb_store.proofs.Keeping.TableKeepsLemmas.{types_apart}
use Rattle.leveldb_store.specs.Logs.NextFound.{BeginsAt}
use Rattle.leveldb_store.specs.Tables.BuildTable.{TableChoices}
use Rattle.leveldb_store.specs.Tables.TableParts.{IsSameOrPart}
use Rattle.leveldb_repair.proofs.TablePartsLemmas.{part_weaker}
use Rattle.leveldb_repair.specs.RepairStore.{ArePairsFound, AreTooManyFound, HasClash, HasLargeBatchInLog, HasTooFewNumbers, HasUndecodedTable, HasFoundEntry, HasUnlikeDeletions, IsFoundPair, IsPartlyRepaired, HoldsOldOrAllFound, HoldsAllFound}
use Rattle.rusty_leveldb.proofs.Openings.LockLemmas.{lock_current}

empty_twice : (file : Option File) → or_empty (or_empty file) ≡ or_empty file
empty_twice None = refl
empty_twice (Some file) = refl

-- the lock's file is no table and no log
lock_apart : (store name : List ℕ) (n : ℕ) → (IsFileName name n Table ⊎ IsFileName name n Log)
    → bytes_eq (lock_path store) (in_folder store name) ≡ false
lock_apart store name n (inl is) = types_apart store (lock_path store) (in_folder store name) DBLock
    Table (file_name DBLock 0, 0, (refl, refl), refl) (name, n, is, refl)
    (λ e. let never : DBLock ≡ Table = e in cc)
lock_apart store name n (inr is) = types_apart store (lock_path store) (in_folder store name) DBLock
    Log (file_name DBLock 0, 0, (refl, refl), refl) (name, n, is, refl)
    (λ e. let never : DBLock ≡ Log = e in cc)

-- making it leaves each of these
pub lock_leaves : (store : List ℕ) (old now : Files)
    → BeforeOrAfter (created (lock_path store)) old now → (name : List ℕ) (n : ℕ)
    → (IsFileName name n Table ⊎ IsFileName name n Log)
    → now (in_folder store name) ≡ old (in_folder store name)
lock_leaves store old now passes name n kind =
    SameBut-created (lock_path store) old now passes (in_folder store name)
    (lock_apart store name n kind)

-- the lock's file is there, made if it was missing; all others are as they were
module _ (store : List ℕ) (old mid : Files) (but : SameBut (lock_path store) old mid)
    (made : mid (lock_path store) ≡ or_empty (old (lock_path store))) where
  -- ---- single files

  same_table : (name : List ℕ) (n : ℕ) → IsFileName name n Table
      → mid (in_folder store name) ≡ old (in_folder store name)
  same_table name n is = but (in_folder store name) (lock_apart store name n (inl is))

  same_log : (name : List ℕ) (n : ℕ) → IsFileName name n Log
      → mid (in_folder store name) ≡ old (in_folder store name)
  same_log name n is = but (in_folder store name) (lock_apart store name n (inr is))

  same_manifest : (name : List ℕ) (n : ℕ) → IsFileName name n Descriptor
      → mid (in_folder store name) ≡ old (in_folder store name)
  same_manifest name n is = but (in_folder store name)
      (kinds_apart store (file_name DBLock 0) name 0 n DBLock Descriptor (refl, refl) is
      (λ e. let never : DBLock ≡ Descriptor = e in cc))

  same_numbered : (name : List ℕ) (n : ℕ) (kind : FileType) → IsFileName name n kind → 0 < n
      → mid (in_folder store name) ≡ old (in_folder store name)
  same_numbered name n kind is more = but (in_folder store name)
      (numbers_apart store (file_name DBLock 0) name 0 n DBLock kind (refl, refl) is
      (λ e. omega (arith, e, more)))

  -- ---- numbers

  greatest_back : (n : ℕ) → IsGreatestInFolder store mid n → IsGreatestInFolder store old n
  greatest_back n g = record {
    below = λ name k kind is some. ⊎_elim
        (λ (more : 0 < k). g.below name k kind is
        (λ none. some (sym (same_numbered name k kind is more) ∙ none)))
        (λ (few : k ≤ 0). omega (arith, few))
        (cases_lt 0 k);
    named = λ k has.
        g.named k (has.0, has.1, has.2, has.3, same_manifest has.0 has.1 has.2 ∙ has.4, has.5);
    is = ⊎_elim
        (λ (zero : n ≡ 0). inl zero)
        (λ (one : IsNumberOfName store mid n ⊎ IsNumberInManifest store mid n). ⊎_elim
        (λ (found : IsNumberOfName store mid n). ⊎_elim
        (λ (more : 0 < n). inr (inl (
          found.0,
          found.1,
          found.2,
          λ none.
              found.3 (same_numbered found.0 n found.1 found.2 more ∙ none),
        )))
        (λ (few : n ≤ 0). inl (omega (arith, few)))
        (cases_lt 0 n))
        (λ (has : IsNumberInManifest store mid n). inr (inr (
          has.0,
          has.1,
          has.2,
          has.3,
          sym (same_manifest has.0 has.1 has.2) ∙ has.4,
          has.5,
        )))
        one)
        g.is;
  }

  pub few_back : HasTooFewNumbers store mid → HasTooFewNumbers store old
  few_back few = (few.0, greatest_back few.0 few.1, few.2)

  -- ---- tables and logs

  pub bare_back : HasNoTableNorLog store mid → HasNoTableNorLog store old
  bare_back bare = record {
    no_table = λ name n is. sym (same_table name n is) ∙ bare.no_table name n is;
    no_log = λ name n is. sym (same_log name n is) ∙ bare.no_log name n is;
  }

  pub bare_on : HasNoTableNorLog store old → HasNoTableNorLog store mid
  bare_on bare = record {
    no_table = λ name n is. same_table name n is ∙ bare.no_table name n is;
    no_log = λ name n is. same_log name n is ∙ bare.no_log name n is;
  }

  same_bytes : SameTablesAndLogs store old mid
  same_bytes name n kind = ap (option_map bytes_of) (⊎_elim
      (λ (is : IsFileName name n Table). same_table name n is)
      (λ (is : IsFileName name n Log). same_log name n is) kind)

  module _ (IsTableOf : List ℕ → List Pair → Type 0) where
    found_back : (entry : Entry) → IsFound store IsTableOf mid entry
        → IsFound store IsTableOf old entry
    found_back entry found = (found_goes_by_bytes store IsTableOf old mid same_bytes entry).1 found

    pub are_found_back : (found : List Entry) → AreFound store IsTableOf mid found
        → AreFound store IsTableOf old found
    are_found_back found are entry = (
      λ c. found_back entry ((are entry).0 c),
      λ is. (are entry).1
          ((found_goes_by_bytes store IsTableOf old mid same_bytes entry).0 is),
    )

    pub clash_back : HasClash store mid IsTableOf → HasClash store old IsTableOf
    clash_back clash = record {
      one = clash.one;
      other = clash.other;
      one_found = found_back clash.one clash.one_found;
      other_found = found_back clash.other clash.other_found;
      key = clash.key;
      sequence = clash.sequence;
      differ = clash.differ;
    }

    found_pair_back : (pair : Pair) → IsFoundPair store mid IsTableOf pair
        → IsFoundPair store old IsTableOf pair
    found_pair_back pair (inl (name, n, is, file, there, readable, c)) =
        inl (name, n, is, file, sym (same_table name n is) ∙ there, readable, c)
    found_pair_back pair (inr (entry, (name, file, there, has), pair_is)) =
        inr (entry, (name, file, sym (same_log name has.0 has.1) ∙ there, has), pair_is)

    pub unlike_back : HasUnlikeDeletions store mid IsTableOf → HasUnlikeDeletions store old IsTableOf
    unlike_back unlike = record {
      one = unlike.one;
      other = unlike.other;
      one_found = found_pair_back unlike.one unlike.one_found;
      other_found = found_pair_back unlike.other unlike.other_found;
      same = unlike.same;
      deletes = unlike.deletes;
      differ = unlike.differ;
    }

  pub pairs_back : (format : Format) (pairs : List Pair) → ArePairsFound store mid format pairs
      → ArePairsFound store old format pairs
  pairs_back format pairs are = record {
    rising = are.rising;
    found = λ meaning agrees entry c. found_back (IsAnyTable format.order meaning) entry
        (are.found meaning agrees entry c);
  }

  pub many_back : (format : Format) → AreTooManyFound store mid format
      → AreTooManyFound store old format
  many_back format many = record {
    taken = many.taken;
    taken_is = greatest_back many.taken many.taken_is;
    pairs = many.pairs;
    found = pairs_back format many.pairs many.found;
    too_many = many.too_many;
  }

  pub large_back : HasLargeBatchInLog store mid → HasLargeBatchInLog store old
  large_back (file, matches, (kind, batches, batch, begins, numbered, large)) = (
    file,
    matches,
    (
      kind,
      batches,
      batch,
      subst (λ at. BeginsAt at (batches ++ batch ∷ []))
          (same_log (string_bytes file.name) file.number
          (subst (IsFileName (string_bytes file.name) file.number) kind matches)) begins,
      numbered,
      large,
    ),
  )

  pub undecoded_back : (format : Format) (status : Status)
      → HasUndecodedTable store mid format status → HasUndecodedTable store old format status
  undecoded_back format status (name, n, is, file, there, block) =
      (name, n, is, file, sym (same_table name n is) ∙ there, block)

  -- ---- the repair

  pub repairing_back : (taken next : ℕ) (now : Files) → IsAmidRepair store taken next mid now
      → IsAmidRepair store taken next old now
  repairing_back taken next now r = record {
    taken_is = greatest_back taken r.taken_is;
    others = λ path tables away apart far free.
        r.others path tables away apart far free ∙ but path free;
    current = ⊎_elim
        (λ (same : now (current_path store) ≡ mid (current_path store)).
        inl (same ∙ lock_current store old mid but))
        (λ named. inr named) r.current;
    lock = inr (⊎_elim
        (λ (same : now (lock_path store) ≡ mid (lock_path store)). same ∙ made)
        (λ (again : now (lock_path store) ≡ or_empty (mid (lock_path store))).
        again ∙ ap or_empty made ∙ empty_twice (old (lock_path store))) r.lock);
    begun = r.begun;
    fits = r.fits;
  }

  -- a part of a table is one of the same entries
  part_back : {C FP : Type 0} {order : CmpGhosts C} {filters : FilterGhosts FP}
      (choices : TableChoices order filters) (meaning : Meaning) {was stood now : Option File}
      → stood ≡ was → IsSameOrPart choices (HasFoundEntry choices store meaning mid) stood now
      → IsSameOrPart choices (HasFoundEntry choices store meaning old) was now
  part_back choices meaning same (inl still) = inl (still ∙ same)
  part_back choices meaning same (inr (file, there, part)) = inr (
    file,
    there,
    part_weaker choices (bytes_of file) (λ pair is.
        found_back (IsAnyTable choices.format.order meaning) (entry_of_pair pair) is) part,
  )

  pub partly_back : {C FP : Type 0} {order : CmpGhosts C} {filters : FilterGhosts FP}
      (choices : TableChoices order filters) (meaning : Meaning) (now : Files)
      → IsPartlyRepaired choices store meaning mid now
      → IsPartlyRepaired choices store meaning old now
  partly_back choices meaning now it = record {
    taken = it.taken;
    next = it.next;
    repairing = repairing_back it.taken it.next now it.repairing;
    parts = λ n from below.
        let fits = it.repairing.fits in
        part_back choices meaning (same_table (file_name Table n) n
        (made_name Table n (omega (arith, below, fits)))) (it.parts n from below);
  }

  module _ (format : Format) (meaning : Meaning) where
    pub repair_back : (now : Files) → HoldsAllFound store format meaning mid now
        → HoldsAllFound store format meaning old now
    repair_back now it = record {
      taken = it.taken;
      next = it.next;
      last = it.last;
      tables = it.tables;
      repairing = repairing_back it.taken it.next now it.repairing;
      repaired = it.repaired;
      found = λ more decodes. are_found_back (IsAnyTable format.order more) _
          (it.found more decodes);
    }

    pub in_repair_back : (now : Files) → HoldsOldOrAllFound store format meaning mid now
        → HoldsOldOrAllFound store format meaning old now
    in_repair_back now it = record {
      taken = it.taken;
      next = it.next;
      repairing = repairing_back it.taken it.next now it.repairing;
      some = λ bare. it.some (bare_on bare);
      current = ⊎_elim
          (λ (same : now (current_path store) ≡ mid (current_path store)).
          inl (same ∙ lock_current store old mid but))
          (λ (done : HoldsAllFound store format meaning mid now). inr (repair_back now done))
          it.current;
    }
