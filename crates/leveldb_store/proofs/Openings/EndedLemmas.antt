-- What the whole end of an opening keeps, the last step too, which sets damaged files aside.
use Rattle.std.specs.Prelude.{Contains, IsTrue, OnErr, OnOk}
use Rattle.std.proofs.Common.{◌≡◌, ◌≢◌, ◌∙◌, ◌⊎◌, ◌≤◌, ◌<◌, ◌^◌, inl, inr, ⊎_elim, ℕ, List, None, Ok, Err, Result, ap, arith, refl, subst, sym}
use Rattle.leveldb_base.proofs.NamesLemmas.{made_name, one_reading}
use Rattle.leveldb_base.specs.Names.{IsFileName, file_name}
use Rattle.leveldb_base.specs.declared.cmp.Cmp.{Ghosts as CmpGhosts}
use Rattle.leveldb_base.specs.declared.cmp.internal.InternalKeyCmp.{InternalKeyCmp}
use Rattle.leveldb_base.specs.declared.error.Status.{Status}
use Rattle.leveldb_base.specs.declared.types.FileType.{FileType}
use Rattle.leveldb_base.specs.declared.types.FileType.TheVariants.{Descriptor, Log, Table}
use Rattle.leveldb_env.proofs.EnvLemmas.{begun}
use Rattle.leveldb_env.specs.Env.{Files, Run, SameLocks, in_folder}
use Rattle.leveldb_env.specs.declared.env.Env.{Ghosts}
use Rattle.leveldb_env.specs.declared.filter.FilterPolicy.{Ghosts as FilterGhosts}
use Rattle.leveldb_files.proofs.Stores.ManagedLemmas.{same_name}
use Rattle.leveldb_files.specs.Stores.Format.{Meaning}
use Rattle.leveldb_files.specs.Stores.Paths.{IsJournal, table_path}
use Rattle.leveldb_version.proofs.Tables.TableCacheLemmas.{ClosesTables-refl}
use Rattle.leveldb_version.specs.Tables.TableCache.{TableOptions, files_at}
use Rattle.leveldb_version.specs.declared.table_cache.TableCache.{TableCache}
use Rattle.leveldb_version_set.specs.Sets.VersionSetValue.{VersionSetValue}
use Rattle.leveldb_store.proofs.Keeping.GivenTablesLemmas.{given_same}
use Rattle.leveldb_store.proofs.Keeping.KeptFilesLemmas.{keeping}
use Rattle.leveldb_store.proofs.Keeping.OpenTablesLemmas.{stay_open}
use Rattle.leveldb_store.proofs.Keeping.SetAsideLemmas.{aside_bytes, aside_is_none, aside_keeps, aside_stays, journal_not_aside, none_aside, others_aside}
use Rattle.leveldb_store.proofs.Keeping.WrittenFromLemmas.{keeps_from, keeps_from_then}
use Rattle.leveldb_store.specs.Compactions.Compact.{KeepsOpenTables, KeepsTablesFrom}
use Rattle.leveldb_store.specs.Keeping.OpenStore.{IsUnbroken, OpenStoreValue}
use Rattle.leveldb_store.specs.Keeping.SetAside.{AreSetAside, IsAsidePath, SetsAside, aside_path}
use Rattle.leveldb_store.specs.Keeping.SoundCall.{BytesAreAppended, TimeGoesOn}
use Rattle.leveldb_store.specs.Keeping.Written.{IsDataPath, IsWritten}
use Rattle.leveldb_store.specs.Keeping.WrittenFrom.{KeepsWrittenFrom}
use Rattle.leveldb_store.specs.Logs.Damage.{IsDamagedPath}
use Rattle.leveldb_store.specs.Openings.EndsOpening.{EndsOpening}
use Rattle.leveldb_store.specs.Tables.BuildTable.{TableChoices}

-- a damaged file is a log or a manifest
pub damaged_journal : (set : VersionSetValue) (files : Files) (path : List ℕ)
    → IsDamagedPath set files path → IsJournal set.store path
damaged_journal set files path (name, it, is) = ⊎_elim
    (λ (log : it.kind ≡ Log). inl (name, it.number, subst (IsFileName name it.number) log it.named, is))
    (λ (manifest : it.kind ≡ Descriptor).
    inr (name, it.number, subst (IsFileName name it.number) manifest it.named, is))
    it.aside.0

journal_data : (store path : List ℕ) → IsJournal store path → IsDataPath store path
journal_data store path (inl log) = (Log, tt, log)
journal_data store path (inr manifest) = (Descriptor, tt, manifest)

-- nor has it the path of a table
damaged_no_table : (set : VersionSetValue) (files : Files) (number : ℕ) → number < 2 ^ 64
    → IsDamagedPath set files (table_path set.store number) → ⊥
damaged_no_table set files number fits (name, it, is) =
    let same = same_name set.store (file_name Table number) name is in
    let kinds = (one_reading name it.number number it.kind Table it.named
    (subst (λ z. IsFileName z number Table) same (made_name Table number fits))).1 in
    ⊎_elim (λ (log : it.kind ≡ Log). let never : Log ≡ Table = sym log ∙ kinds in absurd (cc never))
    (λ (manifest : it.kind ≡ Descriptor).
    let never : Descriptor ≡ Table = sym manifest ∙ kinds in absurd (cc never)) it.aside.0

module _ {E F C FP D P : Type 0} {order : CmpGhosts (InternalKeyCmp C)} {env : Ghosts E F}
    {by : TableOptions C FP} {keys : CmpGhosts D} {filters : FilterGhosts P}
    {choices : TableChoices keys filters} {old : OpenStoreValue C} {from : E}
    {tables : TableCache E C FP F} {result : Result (Unit {0}) Status} {new : OpenStoreValue C}
    {to : E} {now : TableCache E C FP F}
    (ends : EndsOpening order env by old from tables choices result new to now) where
  abbrev kept : OpenStoreValue C
  kept = keeping old new.kept_to

  abbrev at : E
  at = ends.at

  abbrev IsOne : List ℕ → Type 0
  IsOne = Contains ends.first.paths

  damaged : IsTrue env.models_disk → (path : List ℕ) → IsOne path
      → IsDamagedPath old.set (files_at env from) path
  damaged modelled path one = ends.first.looks.found modelled path one

  journal : IsTrue env.models_disk → (path : List ℕ) → IsOne path → IsJournal old.set.store path
  journal modelled path one =
      damaged_journal old.set (files_at env from) path (damaged modelled path one)

  -- ---- the last step

  -- what it does, whatever came of it
  record Moves : Type 0 where
    run : IsTrue env.models_disk
        → Run (AreSetAside IsOne (files_at env at)) (env.observed at) (env.observed to)
    locks : SameLocks env.models_disk (env.observed at) (env.observed to)
    later : env.failures at ≤ env.failures to

  moves_none : to ≡ at → Moves
  moves_none is = record {
    run = λ modelled. subst (λ (s : E). Run (AreSetAside IsOne (files_at env at)) (env.observed at)
        (env.observed s)) (sym is)
        (begun (env.observed at) (none_aside IsOne (files_at env at) (files_at env at) refl));
    locks = λ modelled. ap (λ (s : E). (env.observed s).disk.locked) is;
    later = let same = ap env.failures is in omega (arith, same);
  }

  moves : Moves
  moves = each result ends.aside ends.unmoved
    where
      each : (r : Result (Unit {0}) Status) → OnOk r ((moved : Result (Unit {0}) Status)
          × SetsAside env IsOne at moved to) → OnErr r (to ≡ at) → Moves
      each (Ok done) (moved, sets) unmoved =
          record { run = sets.run; locks = sets.locks; later = sets.cause.later }
      each (Err status) aside unmoved = moves_none unmoved

  -- ---- what the whole keeps

  pub ended_later : env.failures from ≤ env.failures to
  ended_later =
      let first = ends.first.compacts.keeps.cause.later in
      let second = moves.later in omega (arith, first, second)

  pub ended_locks : SameLocks env.models_disk (env.observed from) (env.observed to)
  ended_locks modelled = moves.locks modelled ∙ ends.first.compacts.keeps.rest.locks modelled

  pub ended_time : TimeGoesOn env from to
  ended_time modelled =
      let first = ends.first.compacts.keeps.sound.time modelled in
      let second = (moves.run modelled).time.later in omega (arith, first, second)

  pub ended_bytes : BytesAreAppended env from to
  ended_bytes modelled bytes = aside_bytes IsOne (files_at env at) (files_at env to)
      (moves.run modelled).has (ends.first.compacts.keeps.sound.bytes modelled bytes)

  -- other files stay but those that are set aside
  pub ended_files : IsTrue env.models_disk → (path : List ℕ)
      → (IsDataPath old.set.store path → ⊥) → (IsAsidePath old.set.store path → ⊥)
      → files_at env to path ≡ files_at env from path
  ended_files modelled path no_data no_aside =
      others_aside IsOne (files_at env at) (files_at env to) (moves.run modelled).has path
      (λ one. no_data (journal_data old.set.store path (journal modelled path one)))
      (λ other one is. no_aside (other, journal modelled other one, sym is))
      ∙ ends.first.compacts.keeps.rest.files modelled path no_data

  -- a file that was set aside before stays
  pub ended_aside : IsTrue env.models_disk → (path : List ℕ) → IsAsidePath old.set.store path
      → files_at env from path ≢ None → files_at env to path ≡ files_at env from path
  ended_aside modelled path is some =
      let first = ends.first.compacts.keeps.rest.files modelled path
      (λ its. aside_is_none old.set.store path is its.2.0 its.2.1 its.0 its.2.2 its.2.3) in
      aside_stays IsOne (files_at env at) (files_at env to) (moves.run modelled).has path
      (λ one. journal_not_aside old.set.store path (journal modelled path one) is)
      (λ none. some (sym first ∙ none)) ∙ first

  -- the open tables stay the store's own
  pub ended_open : KeepsOpenTables order env by kept from tables new to now
  ended_open has = stay_open env by new.set new.set refl (omega arith) (files_at env at)
      (files_at env to) (given_same new.set (files_at env at) (files_at env to)
      (λ number fits given. table_stays number fits)) now now (ClosesTables-refl now)
      (ends.first.compacts.keeps.still_open has)
    where
      table_stays : (number : ℕ) → number < 2 ^ 64
          → files_at env to (table_path new.set.store number)
          ≡ files_at env at (table_path new.set.store number)
      table_stays number fits = subst (λ (s : List ℕ).
          files_at env to (table_path s number) ≡ files_at env at (table_path s number))
          (sym ends.first.compacts.keeps.rest.store)
          (others_aside IsOne (files_at env at) (files_at env to) (moves.run has.modelled).has
          (table_path old.set.store number)
          (λ one. damaged_no_table old.set (files_at env from) number fits
          (damaged has.modelled (table_path old.set.store number) one))
          (λ other one is. aside_is_none old.set.store (aside_path other)
          (other, journal has.modelled other one, refl)
          (file_name Table number) number Table (made_name Table number fits) is))

  -- and each history stays at each moment
  pub ended_keeps : KeepsTablesFrom order env by kept from tables old.set.last_sequence new to
  ended_keeps has meaning agrees = each result ends.first.ok ends.unmoved
    where
      first : KeepsTablesFrom order env by kept from tables old.set.last_sequence new at
      first = ends.first.compacts.keeps.keeps

      each : (r : Result (Unit {0}) Status) → OnOk r (IsUnbroken new) → OnErr r (to ≡ at)
          → KeepsWrittenFrom by.format.order meaning old.set.last_sequence kept (env.observed from)
          new (env.observed to)
      each (Ok done) unbroken unmoved = λ allowed w.
          keeps_from_then by.format.order meaning old.set.last_sequence kept new new
          (env.observed from) (env.observed at) (env.observed to) (first has meaning agrees) unbroken
          ends.first.compacts.keeps.rest.store ends.first.compacts.keeps.rest.last
          (keeps_from by.format.order meaning old.set.last_sequence new (env.observed at) new
          (env.observed to) (λ tests there. aside_keeps by.format.order meaning
          (λ store. IsTrue (tests store)) new IsOne
          (λ path there. let one = damaged has.modelled path there in (
            one.0,
            one.1.number,
            one.1.kind,
            one.1.named,
            ends.first.aside w.by.from_log one.1.kind one.1.number one.1.aside,
            one.2 ∙ ap (λ (s : List ℕ). in_folder s one.0)
                (sym ends.first.compacts.keeps.rest.store),
          ))
          (env.observed at) (env.observed to) (moves.run has.modelled) there))
          allowed w
      each (Err status) unbroken unmoved = subst (λ (s : E).
          KeepsWrittenFrom by.format.order meaning old.set.last_sequence kept (env.observed from) new
          (env.observed s)) (sym unmoved) (first has meaning agrees)
