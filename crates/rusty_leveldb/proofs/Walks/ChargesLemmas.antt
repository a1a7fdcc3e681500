-- Files of a store that are charged with seeks: nothing of the store changes but its version, so
-- all stays that compactions keep.
use Rattle.std.proofs.Common.{◌≡◌, ◌∙◌, ℕ, List, [], ◌∷◌, Some, Ok, Result, ap, arith, inl, inr, refl, subst, sym}
use Rattle.leveldb_base.specs.declared.cmp.Cmp.{Ghosts as CmpGhosts}
use Rattle.leveldb_base.specs.declared.cmp.internal.InternalKeyCmp.{InternalKeyCmp}
use Rattle.leveldb_base.specs.declared.error.Status.{Status}
use Rattle.leveldb_env.proofs.EnvLemmas.{begun}
use Rattle.leveldb_env.specs.declared.env.Env.{Ghosts}
use Rattle.leveldb_env.specs.declared.filter.FilterPolicy.{Ghosts as FilterGhosts}
use Rattle.leveldb_files.specs.Stores.Format.{Agrees}
use Rattle.leveldb_files.specs.Levels.Overlap.{UserRange}
use Rattle.leveldb_version.specs.Tables.TableCache.{TableOptions}
use Rattle.leveldb_version.specs.Versions.Version.{VersionValue}
use Rattle.leveldb_files.specs.Edits.Edit.{LevelFile}
use Rattle.leveldb_version.specs.declared.table_cache.TableCache.{TableCache}
use Rattle.leveldb_store.proofs.Keeping.TableKeepsLemmas.{KeepsHistory-refl}
use Rattle.leveldb_store.proofs.Compactions.CompactedLemmas.{compacted_then, merge_between}
use Rattle.leveldb_store.proofs.Keeping.GivenTablesLemmas.{given_same}
use Rattle.leveldb_store.proofs.Keeping.KeptBytesLemmas.{spares_kept_none}
use Rattle.leveldb_store.proofs.Keeping.SoundLemmas.{nothing_goes_on, sound_ok}
use Rattle.leveldb_store.proofs.Keeping.WrittenFromLemmas.{keeps_from}
use Rattle.leveldb_store.specs.Tables.BuildTable.{TableChoices}
use Rattle.leveldb_store.specs.Compactions.Compact.{CompactsRange, CompactsTables, FailsToCompactRange, KeepsCompacted}
use Rattle.leveldb_store.specs.Keeping.OpenStore.{IsUnbroken, OpenStoreValue}
use Rattle.leveldb_store.specs.Reading.Read.{HasOpenTables, with_charge}
use Rattle.rusty_leveldb.specs.Walks.ReadSamples.{after_charges}

-- only the version changes
pub charges_version : {C : Type 0} (files : List LevelFile) (store : OpenStoreValue C)
    → (version : VersionValue C) × (after_charges files store ≡ record store { current = version })
charges_version [] store = (store.current, refl)
charges_version (file ∷ files) store = charges_version files (with_charge store (Some file))

-- in other words
pub charged_version : {C : Type 0} (files : List LevelFile) (store : OpenStoreValue C)
    → after_charges files store
    ≡ record store { current = (after_charges files store).current }
charged_version {C} files store =
    let it = charges_version files store in
    it.1 ∙ ap (λ (v : VersionValue C). record store { current = v })
    (sym (ap (λ (s : OpenStoreValue C). s.current) it.1))

module _ {E F C FP : Type 0} (order : CmpGhosts (InternalKeyCmp C)) (env : Ghosts E F)
    (by : TableOptions C FP) (old : OpenStoreValue C) (from : E) (tables : TableCache E C FP F)
    (smallest : ℕ) (unbroken : IsUnbroken old) where
  module _ (version : VersionValue C) where
    abbrev charged : OpenStoreValue C
    charged = record old { current = version }

    -- it keeps what compactions keep
    charged_keeps : KeepsCompacted order env by old from tables smallest (λ value status. ⊥) (Ok tt)
        charged from tables
    charged_keeps = record {
      keeps = λ has meaning agrees. keeps_from by.format.order meaning smallest old
          (env.observed from) charged (env.observed from) (λ allowed is. record {
            moments = λ bound late. begun (env.observed from)
                (KeepsHistory-refl (env.observed from).disk.files);
            written = λ still. record { edits = is.edits; by = is.by; writer = is.writer };
            shows = λ history since s. record {
              tables = s.tables;
              has = record { files_are = s.has.files_are; each = s.has.each };
              shows = s.shows;
            };
          });
      usable = record { manifest = unbroken.manifest; log = unbroken.log };
      rest = record {
        store = refl;
        cmp = refl;
        last = refl;
        kept_to = refl;
        files = λ modelled path spared. refl;
        numbers = omega arith;
        tables = λ modelled. given_same old.set (env.observed from).disk.files
            (env.observed from).disk.files (λ number fits given. refl);
        kept = spares_kept_none old.set old.kept_to (env.observed from);
        locks = λ modelled. refl;
      };
      still_open = λ has. has.are;
      none_new = λ has meaning agrees w live there.
          (live, record { files_are = there.files_are; each = there.each }, λ entry c. c);
      sound = sound_ok env by.format.order
          (λ meaning. HasOpenTables order env by old from tables × Agrees by.format meaning) old
          from tt charged from (nothing_goes_on env from);
      cause = record { later = omega arith; cause = tt };
    }

    module _ {D P : Type 0} {keys : CmpGhosts D} {filters : FilterGhosts P}
        (choices : TableChoices keys filters) (result : Result (Unit {0}) Status)
        (new : OpenStoreValue C) (to : E) (now : TableCache E C FP F) where
      -- and so do compactions then
      tables_of_charged : CompactsTables order env by charged from tables choices smallest result
          new to now → CompactsTables order env by old from tables choices smallest result new to now
      tables_of_charged it = record {
        keeps = compacted_then charged_keeps result new to now
            (merge_between charged_keeps choices new) it.keeps;
        memory = it.memory;
      }

      fails_charged : (status : Status)
          → FailsToCompactRange order env by charged from tables choices new status
          → FailsToCompactRange order env by old from tables choices new status
      fails_charged status (inl unmerged) =
          inl (merge_between charged_keeps choices new status unmerged)
      fails_charged status (inr rest) = inr rest

      range_of_charged : (range : UserRange)
          → CompactsRange order env by charged from tables choices smallest range result new to now
          → CompactsRange order env by old from tables choices smallest range result new to now
      range_of_charged range it = record {
        keeps = compacted_then charged_keeps result new to now fails_charged it.keeps;
        tables_made = it.tables_made;
        clear = it.clear;
      }

  module _ {D P : Type 0} {keys : CmpGhosts D} {filters : FilterGhosts P}
      (choices : TableChoices keys filters) (charged : OpenStoreValue C)
      (same : charged ≡ record old { current = charged.current })
      (result : Result (Unit {0}) Status) (new : OpenStoreValue C) (to : E)
      (now : TableCache E C FP F) where
    -- of a store that is charged tables are compacted, and so of the store before
    pub charged_tables : CompactsTables order env by charged from tables choices smallest result new
        to now → CompactsTables order env by old from tables choices smallest result new to now
    charged_tables it = tables_of_charged charged.current choices result new to now
        (subst (λ (s : OpenStoreValue C).
        CompactsTables order env by s from tables choices smallest result new to now) same it)

    -- or a range
    pub charged_range : (range : UserRange)
        → CompactsRange order env by charged from tables choices smallest range result new to now
        → CompactsRange order env by old from tables choices smallest range result new to now
    charged_range range it = range_of_charged charged.current choices result new to now range
        (subst (λ (s : OpenStoreValue C).
        CompactsRange order env by s from tables choices smallest range result new to now) same it)
