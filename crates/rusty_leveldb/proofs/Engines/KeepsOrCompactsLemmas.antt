-- Where entries are once room was made and a batch was written, whatever the files are.
use Rattle.std.specs.Prelude.{Contains, IfSome, IsTrue, Result}
use Rattle.std.proofs.Common.{◌≡◌, ◌∙◌, ◌++◌, inl, inr, ⊎_elim, ℕ, Bool, List, [], Option, None, Some, Ok, Err, ap, append-nil, refl, subst, sym}
use Rattle.std.proofs.lemmas.List.Elements.{Contains-append_cases, Contains-append_left, Contains-append_right}
use Rattle.std.specs.declared.cmp.Ordering.{Ordering}
use Rattle.leveldb_base.specs.History.{Entry, Item}
use Rattle.leveldb_base.specs.declared.error.Status.{Status}
use Rattle.leveldb_env.specs.declared.env.Env.{Ghosts}
use Rattle.leveldb_mem.specs.MemTable.{IsUnion}
use Rattle.leveldb_version.specs.Versions.Change.{IsVersionAfter}
use Rattle.leveldb_files.specs.Stores.Format.{Format}
use Rattle.leveldb_files.specs.Stores.Paths.{table_path}
use Rattle.leveldb_version_set.specs.Compactions.Picking.{CompactionValue}
use Rattle.leveldb_files.specs.Stores.Store.{SameEntries}
use Rattle.leveldb_version_set.specs.Sets.VersionSetValue.{VersionSetValue}
use Rattle.leveldb_store.proofs.Compactions.CompactsOnceLemmas.{none_compacted}
use Rattle.leveldb_store.proofs.Keeping.KeptEntriesLemmas.{entries_charged, entries_same, equal_entries}
use Rattle.leveldb_store.proofs.Writing.SwitchLemmas.{tables_same}
use Rattle.leveldb_store.specs.Compactions.Compact.{GivesNumbersOrBreaks, LogsCompaction}
use Rattle.leveldb_store.specs.Keeping.KeptEntries.{CompactsOnceAtMost, KeepsEntries, file_numbers}
use Rattle.leveldb_store.specs.Keeping.OpenStore.{OpenStoreValue}
use Rattle.leveldb_store.specs.Reading.Read.{in_memory}
use Rattle.leveldb_store.specs.Writing.WriteBatch.{WritesBatch, next_batch}
use Rattle.leveldb_store.specs.Keeping.Written.{imm_entries}
use Rattle.rusty_leveldb.specs.Engines.Room.{KeepsOrCompacts, entries_added, with_last}

-- ---- lists

-- what is beside the same entries
beside_same : (these those batch : List Entry) → SameEntries these those
    → SameEntries (these ++ batch) (those ++ batch)
beside_same these those batch same = λ entry. (to entry, back entry)
  where
    to : (entry : Entry) → Contains (these ++ batch) entry → Contains (those ++ batch) entry
    to entry there = ⊎_elim
        (λ here. Contains-append_left those batch entry ((same entry).0 here))
        (λ its. Contains-append_right those batch entry its)
        (Contains-append_cases these batch entry there)

    back : (entry : Entry) → Contains (those ++ batch) entry → Contains (these ++ batch) entry
    back entry there = ⊎_elim
        (λ here. Contains-append_left these batch entry ((same entry).1 here))
        (λ its. Contains-append_right these batch entry its)
        (Contains-append_cases those batch entry there)

same_then : (a b c : List Entry) → SameEntries a b → SameEntries b c → SameEntries a c
same_then a b c first second = λ entry. (
  λ there. (second entry).0 ((first entry).0 there),
  λ there. (first entry).1 ((second entry).1 there),
)

-- a batch comes in among the first entries
union_beside : (mem batch now waited : List Entry) → IsUnion mem batch now
    → SameEntries ((mem ++ waited) ++ batch) (now ++ waited)
union_beside mem batch now waited gains = λ entry. (forth entry, back entry)
  where
    forth : (entry : Entry) → Contains ((mem ++ waited) ++ batch) entry
        → Contains (now ++ waited) entry
    forth entry there = ⊎_elim
        (λ was. ⊎_elim
        (λ first. Contains-append_left now waited entry
        ((gains entry).1 (Contains-append_left mem batch entry first)))
        (λ waits. Contains-append_right now waited entry waits)
        (Contains-append_cases mem waited entry was))
        (λ its. Contains-append_left now waited entry
        ((gains entry).1 (Contains-append_right mem batch entry its)))
        (Contains-append_cases (mem ++ waited) batch entry there)

    back : (entry : Entry) → Contains (now ++ waited) entry
        → Contains ((mem ++ waited) ++ batch) entry
    back entry there = ⊎_elim
        (λ first. ⊎_elim
        (λ was. Contains-append_left (mem ++ waited) batch entry
        (Contains-append_left mem waited entry was))
        (λ its. Contains-append_right (mem ++ waited) batch entry its)
        (Contains-append_cases mem batch entry ((gains entry).0 first)))
        (λ waits. Contains-append_left (mem ++ waited) batch entry
        (Contains-append_right mem waited entry waits))
        (Contains-append_cases now waited entry there)

module _ {E F C : Type 0} (env : Ghosts E F) (format : Format) where
  -- ---- room

  -- the last number is its own
  own_last : (value : OpenStoreValue C) (n : ℕ) → value.set.last_sequence ≡ n
      → value ≡ with_last n value
  own_last value n same = ap (λ k. with_last k value) same

  -- tables are made, and no compaction
  pub kept_in_tables : (old : OpenStoreValue C) (from : E) (new : OpenStoreValue C) (to : E)
      → new.set.store ≡ old.set.store → KeepsEntries env format old from new to
      → KeepsOrCompacts env format [] old from new to
  kept_in_tables old from new to path kept = record {
    tables_made = new;
    at = to;
    path = path;
    tables = kept;
    compacts = none_compacted format.order env.models_disk new (env.observed to);
    memory = equal_entries (in_memory new ++ []) (in_memory new) (append-nil (in_memory new));
  }

  -- nothing is done
  pub kept_as_they_are : (value : OpenStoreValue C) (at : E)
      → KeepsOrCompacts env format [] value at value at
  kept_as_they_are value at = kept_in_tables value at value at refl
      (entries_same env format value at)

  -- tables are made, and then what the store asks for is compacted, or not
  pub kept_or_compacted : (old : OpenStoreValue C) (from : E) (mid : OpenStoreValue C) (at : E)
      → mid.set.store ≡ old.set.store → KeepsEntries env format old from mid at
      → (charged : OpenStoreValue C) → charged ≡ record mid { current = charged.current }
      → (new : OpenStoreValue C) (to : E)
      → new ≡ record mid { set = new.set; current = new.current }
      → new.set.last_sequence ≡ mid.set.last_sequence
      → CompactsOnceAtMost format.order env.models_disk charged (env.observed at) new
      (env.observed to)
      → KeepsOrCompacts env format [] old from new to
  kept_or_compacted old from mid at path kept charged only new to rest last once = record {
    tables_made = charged;
    at = at;
    path = ap (λ (v : OpenStoreValue C). v.set.store) only ∙ path;
    tables = entries_charged env format old from mid charged at only kept;
    compacts = subst (λ (v : OpenStoreValue C). CompactsOnceAtMost format.order env.models_disk
        charged (env.observed at) v (env.observed to))
        (own_last new charged.set.last_sequence
        (last ∙ sym (ap (λ (v : OpenStoreValue C). v.set.last_sequence) only))) once;
    memory = equal_entries (in_memory charged ++ []) (in_memory new)
        (append-nil (in_memory charged)
        ∙ ap (λ (v : OpenStoreValue C). in_memory v) only
        ∙ sym (ap (λ (v : OpenStoreValue C). in_memory v) rest));
  }

  -- ---- a batch

  -- a compaction was logged, of which this is all
  logged_still : (cmp : List ℕ → List ℕ → Ordering) (picked : Option (CompactionValue C))
      (old new later : OpenStoreValue C) → later.set ≡ new.set → later.current ≡ new.current
      → IfSome picked (λ it. LogsCompaction cmp it old new)
      → IfSome picked (λ it. LogsCompaction cmp it old later)
  logged_still cmp None old new later set current logged = tt
  logged_still cmp (Some it) old new later set current logged = record {
    given = logged.given;
    gives = logged.gives;
    manifest = logged.manifest;
    was_in_use = logged.was_in_use;
    edit = logged.edit;
    replaces = logged.replaces;
    set = set ∙ logged.set;
    current = subst (λ v. IsVersionAfter cmp logged.edit old.current v) (sym current)
        logged.current;
  }

  module _ (old : OpenStoreValue C) (from : E) (mid : OpenStoreValue C) (at : E)
      (same_path : mid.set.store ≡ old.set.store)
      (room : KeepsOrCompacts env format [] old from mid at) (cmp : List ℕ → List ℕ → Ordering)
      (items : List Item) (sync : Bool) (result : Result (Unit {0}) Status)
      (new : OpenStoreValue C) (to : E)
      (writes : WritesBatch env cmp mid at items sync result new to) where
    abbrev n : ℕ
    n = room.tables_made.set.last_sequence

    tables_still : (number : ℕ) → IsTrue env.models_disk
        → (env.observed to).disk.files (table_path room.tables_made.set.store number)
        ≡ (env.observed at).disk.files (table_path room.tables_made.set.store number)
    tables_still number modelled =
        subst (λ store. (env.observed to).disk.files (table_path store number)
        ≡ (env.observed at).disk.files (table_path store number)) (same_path ∙ sym room.path)
        (tables_same mid.set.store mid.log.number (env.observed at).disk.files
        (env.observed to).disk.files (writes.others modelled) number)

    compacts_still : CompactsOnceAtMost format.order env.models_disk room.tables_made
        (env.observed room.at) (with_last n new) (env.observed to)
    compacts_still = record {
      picked = room.compacts.picked;
      none = λ is.
          let before = room.compacts.none is in
          record {
            set = subst (GivesNumbersOrBreaks room.tables_made.set) (sym set) before.set;
            current = ap (λ (v : OpenStoreValue C). v.current) writes.rest ∙ before.current;
            tables = λ number modelled fits given.
                tables_still number modelled ∙ before.tables number modelled fits given;
          };
      logged = logged_still format.order room.compacts.picked room.tables_made (with_last n mid)
          (with_last n new) set (ap (λ (v : OpenStoreValue C). v.current) writes.rest)
          room.compacts.logged;
      live = λ number there. ⊎_elim (λ taken. inl taken)
          (λ stays. inr (
            subst (λ (s : VersionSetValue). Contains (file_numbers s.full.added) number) (sym set)
                stays.0,
            λ modelled fits given. tables_still number modelled ∙ stays.1 modelled fits given,
          ))
          (room.compacts.live number there);
    }
      where
        set : (with_last n new).set ≡ (with_last n mid).set
        set = ap (λ (v : OpenStoreValue C). (with_last n v).set) writes.rest

    -- those of a batch that was written are in memory
    pub kept_beside_batch : KeepsOrCompacts env format
        (entries_added result (next_batch mid items)) old from new to
    kept_beside_batch = record {
      tables_made = room.tables_made;
      at = room.at;
      path = room.path;
      tables = room.tables;
      compacts = compacts_still;
      memory = same_then (in_memory room.tables_made ++ entries_added result (next_batch mid items))
          (in_memory mid ++ entries_added result (next_batch mid items)) (in_memory new)
          (beside_same (in_memory room.tables_made) (in_memory mid)
          (entries_added result (next_batch mid items))
          (subst (λ es. SameEntries es (in_memory mid)) (append-nil (in_memory room.tables_made))
          room.memory))
          (in_end result new writes);
    }
      where
        in_end : (result : Result (Unit {0}) Status) (new : OpenStoreValue C)
            → WritesBatch env cmp mid at items sync result new to
            → SameEntries (in_memory mid ++ entries_added result (next_batch mid items))
            (in_memory new)
        in_end (Ok nothing) new writes = subst (λ w.
            SameEntries (in_memory mid ++ next_batch mid items)
            (new.mem.entries ++ imm_entries w))
            (sym (ap (λ (v : OpenStoreValue C). v.imm) writes.rest))
            (union_beside mid.mem.entries (next_batch mid items) new.mem.entries
            (imm_entries mid.imm) writes.gains)
        in_end (Err status) new writes = equal_entries (in_memory mid ++ []) (in_memory new)
            (append-nil (in_memory mid)
            ∙ sym (ap (λ es. es ++ imm_entries new.imm) writes.err.0
            ∙ ap (λ w. mid.mem.entries ++ imm_entries w)
            (ap (λ (v : OpenStoreValue C). v.imm) writes.rest)))
