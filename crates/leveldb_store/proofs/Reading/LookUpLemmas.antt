-- That a look-up in an open store passes over no table that can't be read.
use Rattle.std.specs.Prelude.{IfOk, min}
use Rattle.std.proofs.Common.{◌≡◌, ◌⊎◌, inl, inr, ℕ, List, Option, Result, Ok, Err, false, refl, subst, sym}
use Rattle.leveldb_base.specs.CmpLaws.{user_part-internal_key}
use Rattle.leveldb_base.specs.Entries.{is_absent, value_found}
use Rattle.leveldb_base.specs.declared.types.Lookup.{Lookup}
use Rattle.leveldb_base.specs.KeyTypes.{greatest_sequence, user_part}
use Rattle.leveldb_base.specs.declared.cmp.Cmp.{Ghosts as CmpGhosts}
use Rattle.leveldb_base.specs.declared.cmp.internal.InternalKeyCmp.{InternalKeyCmp}
use Rattle.leveldb_base.specs.declared.error.Status.{Status}
use Rattle.leveldb_base.specs.declared.key_types.ValueType.TheVariants.{TypeValue}
use Rattle.leveldb_env.specs.declared.env.Env.{Ghosts as EnvGhosts}
use Rattle.leveldb_version.specs.Versions.Search.{AreAllTried, AreTriedFirst, SearchesFiles}
use Rattle.leveldb_version.specs.Tables.TableCache.{TableOptions}
use Rattle.leveldb_version.specs.Versions.Version.{new_files_of}
use Rattle.leveldb_version.specs.declared.table_cache.TableCache.{TableCache}
use Rattle.leveldb_version.specs.declared.version.GetStats.{GetStats}
use Rattle.leveldb_store.specs.Keeping.OpenStore.{OpenStoreValue}
use Rattle.leveldb_store.specs.Reading.Read.{FindsInMemory, GetsFromMemory, GetsFromTables, LooksUpKey, PassesOverNone, sought_key, value_searched}

module _ {E F C FP : Type 0} (order : CmpGhosts (InternalKeyCmp C)) (env : EnvGhosts E F)
    (by : TableOptions C FP) (old : OpenStoreValue C) (from : E) (tables : TableCache E C FP F)
    (sequence : ℕ) (key : List ℕ) where
  -- memory has an entry of the key that says so
  pub record IsInMemory (value : Option (List ℕ)) : Type 0 where
    pub found : Lookup (List ℕ)
    pub there : is_absent found ≡ false
    pub value_is : value ≡ value_found found
    pub finds : FindsInMemory old sequence key found

  -- the value is in memory, or none was passed over
  abbrev pub IsOnTheWay : Option (List ℕ) → Type 0
  IsOnTheWay value = IsInMemory value
      ⊎ PassesOverNone order env by old from tables sequence key value

  key_is : user_part (sought_key sequence key) ≡ key
  key_is = user_part-internal_key key (min sequence greatest_sequence) TypeValue

  in_tables : (searched : Result (Lookup (List ℕ) × GetStats) Status) {to : E}
      {now : TableCache E C FP F} {new : OpenStoreValue C} {result : Result (Option (List ℕ)) Status}
      (it : GetsFromTables order env by old from tables sequence key result new to now)
      → it.searched ≡ searched → IfOk (value_searched searched) IsOnTheWay
  in_tables (Err status) it is = tt
  in_tables (Ok searched) it is =
      let goes = subst (λ r. IfOk r (λ found. SearchesFiles order env by (sought_key sequence key) from
      tables old.current found.0 found.1.file)) is (it.searches.goes it.apart) in
      inr (record {
        looked = goes.looked;
        first = subst (λ k. AreTriedFirst by.format.order k (new_files_of old.current) goes.looked)
            key_is goes.first;
        found = searched.0;
        value_is = refl;
        finds = λ opened. goes.finds
            (record { modelled = opened.modelled; matches = opened.are.matches });
        all = λ none. subst
            (λ k. AreAllTried by.format.order k (new_files_of old.current) goes.looked) key_is
            (goes.all none);
      })

  -- a look-up passes over no table
  pub passes_over_none : {result : Result (Option (List ℕ)) Status} {new : OpenStoreValue C} {to : E}
      {now : TableCache E C FP F}
      → LooksUpKey order env by old from tables sequence key result new to now
      → IfOk result IsOnTheWay
  passes_over_none {result} {new} {to} {now} looks = by_way looks.way
    where
      in_memory : (copied : Result (Option (List ℕ)) Status) (found : Lookup (List ℕ))
          → is_absent found ≡ false → FindsInMemory old sequence key found
          → IfOk copied (λ copy. copy ≡ value_found found) → IfOk copied IsOnTheWay
      in_memory (Ok copy) found there finds is =
          inl (record { found = found; there = there; value_is = is; finds = finds })
      in_memory (Err status) found there finds is = tt

      by_way : GetsFromMemory order env by old from tables sequence key result new to now
          ⊎ GetsFromTables order env by old from tables sequence key result new to now
          → IfOk result IsOnTheWay
      by_way (inl it) = in_memory result it.found it.there it.finds it.copy
      by_way (inr it) = subst (λ r. IfOk r IsOnTheWay) (sym it.result_is) (in_tables it.searched it refl)
