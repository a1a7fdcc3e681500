-- An opening under its lock: what is spared, and why the store isn't opened.
use Rattle.std.specs.Prelude.{cond}
use Rattle.std.specs.Str.{bytes_eq}
use Rattle.std.proofs.Common.{◌≡◌, ◌≢◌, ◌⊎◌, ◌∙◌, ⊎_elim, inl, inr, ℕ, Bool, true, false, List, refl, sym, ap, subst, Option, Some, None, Ok, Err, IsTrue}
use Rattle.leveldb_base.specs.Names.{file_name}
use Rattle.leveldb_base.specs.declared.cmp.Cmp.{Ghosts as CmpGhosts}
use Rattle.leveldb_base.specs.declared.error.Status.{Status}
use Rattle.leveldb_base.specs.declared.types.FileType.{FileType}
use Rattle.leveldb_base.specs.declared.types.FileType.TheVariants.{Current, DBLock, InfoLog}
use Rattle.leveldb_env.specs.Env.{BeforeOrAfter, ChangesFiles, ChangesLocks, File, Files, FilesUnchanged, HasCause, Observed, Run, SameBut, created, lock_set, or_empty, same}
use Rattle.leveldb_env.specs.declared.env.Env.{Ghosts}
use Rattle.leveldb_env.specs.declared.filter.FilterPolicy.{Ghosts as FilterGhosts}
use Rattle.leveldb_env.proofs.EnvLemmas.{Run-call, SameBut-created, at_same, bytes_eq-apart, bytes_eq-same}
use Rattle.leveldb_files.specs.Stores.Paths.{current_path, lock_path}
use Rattle.leveldb_store.proofs.Keeping.SetAsideLemmas.{aside_is_none}
use Rattle.leveldb_store.proofs.Keeping.SoundLemmas.{failed_once}
use Rattle.leveldb_store.proofs.Keeping.TableKeepsLemmas.{types_apart}
use Rattle.leveldb_store.specs.Tables.BuildTable.{TableChoices}
use Rattle.leveldb_store.specs.Openings.OpensStore.{FailsToOpen, IsForbidden, IsForbiddenAs, IsOwnPath, LacksCurrent, LacksUsableEdits, WhyNotOpenable}
use Rattle.leveldb_store.specs.Writing.Room.{HasFailed}
use Rattle.leveldb_store.specs.Keeping.SetAside.{IsAsidePath}
use Rattle.leveldb_store.specs.Keeping.Written.{IsData}
use Rattle.rusty_leveldb.specs.Engines.Frame.{IsOwn, IsOwned, KeepsAside, Spares}
use Rattle.rusty_leveldb.specs.Machines.State.{Opening}
use Rattle.rusty_leveldb.specs.Openings.Unopened.{FailsToUnlock, NeverOpens, OpenExcused}
use Rattle.rusty_leveldb.proofs.Openings.LockLemmas.{lock_current, lock_edits, lock_huge, lock_lacks, lock_log, lock_numbers, lock_reads, lock_shared}
use Rattle.rusty_leveldb.proofs.Engines.Others.{others_made, others_then, spares_made}
use Rattle.rusty_leveldb.proofs.Engines.SyncLemmas.{lock_is_no_data}

-- ---- locks

pub set_same : (name : List ℕ) (b : Bool) (locked : List ℕ → Bool) → lock_set name b locked name ≡ b
set_same name b locked = ap (λ x. cond x b (locked name)) (bytes_eq-same name)

pub set_other : (name : List ℕ) (b : Bool) (locked : List ℕ → Bool) (other : List ℕ) → other ≢ name
    → lock_set name b locked other ≡ locked other
set_other name b locked other apart =
    ap (λ x. cond x b (locked other)) (bytes_eq-apart name other (λ e. apart (sym e)))

-- the lock was free and is taken, its file is there, and all other files are as they were
pub record IsTaken (store : List ℕ) (from taken : Observed) : Type 0 where
  pub run : Run (BeforeOrAfter (created (lock_path store)) from.disk.files) from taken
  pub there : taken.disk.files (lock_path store) ≢ None
  pub was_free : from.disk.locked (lock_path store) ≡ false
  pub held : taken.disk.locked (lock_path store) ≡ true
  pub others : (path : List ℕ) → path ≢ lock_path store
      → taken.disk.locked path ≡ from.disk.locked path

some_made : (file : Option File) → or_empty file ≢ None
some_made None gone = let never : Some _ ≡ None = gone in cc
some_made (Some file) gone = let never : Some file ≡ None = gone in cc

pub lock_taken : {T : Type 0} {models_disk : Bool} {value : T} (store lock : List ℕ)
    (from folder taken : Observed) → IsTrue models_disk → lock ≡ lock_path store
    → Run (BeforeOrAfter (created (lock_path store)) from.disk.files) from taken
    → folder.disk.locked ≡ from.disk.locked
    → ChangesFiles models_disk (created lock) (BeforeOrAfter (created lock)) folder taken (Ok value)
    → ChangesLocks models_disk (lock_set lock true) folder taken (Ok value)
    → folder.disk.locked lock ≡ false → IsTaken store from taken
lock_taken store lock from folder taken modelled is run locks does relocks was_free =
    let set : taken.disk.locked ≡ lock_set (lock_path store) true folder.disk.locked =
    subst (λ l. taken.disk.locked ≡ lock_set l true folder.disk.locked) is (relocks modelled) in
    let made : taken.disk.files ≡ created (lock_path store) folder.disk.files =
    subst (λ l. taken.disk.files ≡ created l folder.disk.files) is (does.ok modelled) in
    record {
      run = run;
      there = λ gone. some_made (folder.disk.files (lock_path store))
          (sym (ap (λ (f : Files). f (lock_path store)) made
          ∙ at_same (lock_path store) (or_empty (folder.disk.files (lock_path store)))
          folder.disk.files) ∙ gone);
      was_free = sym (ap (λ (l : List ℕ → Bool). l (lock_path store)) locks)
          ∙ subst (λ l. folder.disk.locked l ≡ false) is was_free;
      held = ap (λ (l : List ℕ → Bool). l (lock_path store)) set
          ∙ set_same (lock_path store) true folder.disk.locked;
      others = λ path apart. ap (λ (l : List ℕ → Bool). l path) set
          ∙ set_other (lock_path store) true folder.disk.locked path apart
          ∙ ap (λ (l : List ℕ → Bool). l path) locks;
    }

-- ---- files that aren't the store's

data_is_own : (kind : FileType) → IsData kind → IsOwned kind
data_is_own InfoLog never = absurd never
data_is_own kind is = tt

path_is_own : (store path : List ℕ) → IsOwnPath store path → IsOwn store path
path_is_own store path (inl data_path) =
    inl (data_path.0, data_is_own data_path.0 data_path.1, data_path.2)
path_is_own store path (inr is) =
    inl (Current, tt, (file_name Current 0, 0, (refl, refl), is))

lock_not_own : (store : List ℕ) → IsOwnPath store (lock_path store) → ⊥
lock_not_own store (inl data_path) = lock_is_no_data store data_path.0 data_path.1 data_path.2
lock_not_own store (inr is) =
    let apart = types_apart store (lock_path store) (current_path store) DBLock Current
    (file_name DBLock 0, 0, (refl, refl), refl) (file_name Current 0, 0, (refl, refl), refl)
    (λ e. let never : DBLock ≡ Current = e in cc) in
    let same_path = subst (λ p. bytes_eq (lock_path store) p ≡ true) is
    (bytes_eq-same (lock_path store)) in
    let never : true ≡ false = sym same_path ∙ apart in cc

lock_not_aside : (store : List ℕ) → IsAsidePath store (lock_path store) → ⊥
lock_not_aside store is = aside_is_none store (lock_path store) is (file_name DBLock 0) 0 DBLock
    (refl, refl) refl

lock_apart : (store path : List ℕ) → IsAsidePath store path → bytes_eq (lock_path store) path ≡ false
lock_apart store path is = bytes_eq-apart (lock_path store) path
    (λ same. lock_not_aside store (subst (IsAsidePath store) (sym same) is))

-- what was set aside isn't the lock's file
pub made_aside : (store : List ℕ) (old new : Files) → BeforeOrAfter (created (lock_path store)) old new
    → KeepsAside store old new
made_aside store old new passes path is some =
    SameBut-created (lock_path store) old new passes path (lock_apart store path is)

-- nor is it any that the store makes
pub own_not_aside : (store path : List ℕ) → IsAsidePath store path → IsOwnPath store path → ⊥
own_not_aside store path is (inl (kind, holds, (name, n, named, there))) =
    aside_is_none store path is name n kind named there
own_not_aside store path is (inr there) =
    aside_is_none store path is (file_name Current 0) 0 Current (refl, refl) there

-- files that are the same but at paths of the store, and where it sets files aside
abbrev pub SameElsewhere : List ℕ → Files → Files → Type 0
SameElsewhere store old new = (path : List ℕ) → (IsOwnPath store path → ⊥)
    → (IsAsidePath store path → ⊥) → new path ≡ old path

-- an opening under the lock spares what isn't the store's, whatever becomes of the lock
pub late_spares : (store : List ℕ) (from taken to : Observed) → IsTaken store from taken
    → SameElsewhere store taken.disk.files to.disk.files
    → ((path : List ℕ) → path ≢ lock_path store → to.disk.locked path ≡ taken.disk.locked path)
    → Spares store (IsOwn store) from.disk to.disk
late_spares store from taken to took others locks = others_then store from.disk taken.disk to.disk
    (spares_made store from.disk taken.disk
    (others_made store from.disk taken.disk took.run.has took.others))
    (record {
      files = λ path foreign. others path (λ own. foreign (path_is_own store path own))
          (λ aside. foreign (inr aside));
      lock_file = inl (others (lock_path store) (lock_not_own store) (lock_not_aside store));
      locks = locks;
    })

-- ---- why a store isn't opened

-- files at which an opening under the lock looks no further
abbrev pub LooksNoFurther : List ℕ → Opening → Files → Type 0
LooksNoFurther store asked files =
    IsForbidden store asked.create_if_missing asked.error_if_exists files
    ⊎ LacksCurrent store files ⊎ LacksUsableEdits store asked.format files

module _ {E F : Type 0} (env : Ghosts E F) (store : List ℕ) (asked : Opening) (from taken : E)
    (took : IsTrue env.models_disk → IsTaken store (env.observed from) (env.observed taken)) where
  abbrev was : Files
  was = (env.observed from).disk.files

  abbrev here : Files
  here = (env.observed taken).disk.files

  pub but : IsTrue env.models_disk → SameBut (lock_path store) was here
  but modelled = SameBut-created (lock_path store) was here (took modelled).run.has

  but_back : IsTrue env.models_disk → SameBut (lock_path store) here was
  but_back modelled path apart = sym (but modelled path apart)

  pub same_current : IsTrue env.models_disk → here (current_path store) ≡ was (current_path store)
  same_current modelled = lock_current store was here (but modelled)

  -- what was forbidden is, and what had no `CURRENT` or no usable edits has none
  pub no_further : IsTrue env.models_disk → LooksNoFurther store asked was
      → LooksNoFurther store asked here
  no_further modelled (inl (inl there)) =
      inl (inl (there.0, λ gone. there.1 (sym (same_current modelled) ∙ gone)))
  no_further modelled (inl (inr none)) = inl (inr (none.0, same_current modelled ∙ none.1))
  no_further modelled (inr (inl lacks)) =
      inr (inl (lock_lacks store was here (but modelled) lacks))
  no_further modelled (inr (inr lacks)) = inr (inr (
    λ gone. lacks.0 (sym (same_current modelled) ∙ gone),
    λ edits has. lacks.1 edits (lock_edits store here was (but_back modelled) edits has),
  ))

  -- where the lock is held already, or the opening looks no further, it does so under the lock
  pub never_here : IsTrue env.models_disk → NeverOpens store asked (env.observed from).disk
      → LooksNoFurther store asked here
  never_here modelled (inl (inl held)) =
      absurd (let never : true ≡ false = sym held ∙ (took modelled).was_free in cc)
  never_here modelled (inl (inr forbidden)) = no_further modelled (inl forbidden)
  never_here modelled (inr lacks) = no_further modelled (inr lacks)

  excused_forbidden : (e : Status) → IsForbiddenAs env.models_disk store asked.create_if_missing
      asked.error_if_exists here e
      → IsForbiddenAs env.models_disk store asked.create_if_missing asked.error_if_exists was e
  excused_forbidden e (inl there) = inl (
    there.0,
    there.1,
    λ modelled gone. there.2 modelled (same_current modelled ∙ gone),
  )
  excused_forbidden e (inr none) = inr (
    none.0,
    none.1,
    λ modelled. sym (same_current modelled) ∙ none.2 modelled,
  )

  module _ {D P : Type 0} {keys : CmpGhosts D} {key_filters : FilterGhosts P}
      (choices : TableChoices keys key_filters) where
    openable_why : (e : Status) → WhyNotOpenable env store asked.format asked.create_if_missing
        asked.error_if_exists taken e → OpenExcused env store choices asked from e
    openable_why e (inl bare) = inr (inr (inr (inr (inr (inl (
      bare.0,
      λ modelled. absurd ((took modelled).there (bare.1 modelled (file_name DBLock 0))),
    ))))))
    openable_why e (inr (inl forbidden)) = inr (inr (inr (inl (excused_forbidden e forbidden))))
    openable_why e (inr (inr (inl other))) = inr (inr (inr (inr (inl (
      other.0,
      λ modelled.
          let one = other.1 modelled in
          record {
            edits = one.edits;
            has_edits = lock_edits store here was (but_back modelled) one.edits one.has_edits;
            name = one.name;
            named = one.named;
            other = one.other;
          },
    )))))
    openable_why e (inr (inr (inr (inl damage)))) = inr (inr (inr (inr (inr (inl (
      damage.0,
      λ modelled meaning order contents for read. damage.1 modelled meaning order contents for
          (lock_reads store was here (but modelled) meaning order contents read),
    ))))))
    openable_why e (inr (inr (inr (inr not)))) = inr (inr (inr (inr (inr (inr (inr (inl (
      not.0,
      λ modelled. ⊎_elim
          (λ shared. inl
          (lock_shared store here was (but_back modelled) asked.format.order shared))
          (λ other. ⊎_elim
          (λ huge. inr (inl
          (lock_huge store here was (but_back modelled) asked.format.order_name huge)))
          (λ few. inr (inr (lock_numbers store here was (but_back modelled) few))) other)
          (not.1 modelled),
    ))))))))

    -- why it isn't opened, by the files as they were before the lock was taken
    pub excused_late : choices.format ≡ asked.format → (opened : E) (e : Status)
        → FailsToOpen env store choices asked.create_if_missing asked.error_if_exists taken opened e
        → OpenExcused env store choices asked from e
    excused_late same opened e (inl memory) = inl memory
    excused_late same opened e (inr (inl why, still)) = openable_why e
        (subst (λ f. WhyNotOpenable env store f asked.create_if_missing asked.error_if_exists taken e)
        same why)
    excused_late same opened e (inr (inr log, still)) =
        inr (inr (inr (inr (inr (inr (inr (inr (record {
          number = log.number;
          batches = log.batches;
          begins = λ modelled. lock_log store here was (but_back modelled) log.number log.batches
              (log.begins modelled);
          fails = log.fails;
        }))))))))

-- where giving back a lock failed, the device did
pub unlock_failed : {E F : Type 0} (env : Ghosts E F) (from to : E) → FailsToUnlock env from to
    → HasFailed (env.failures from) (env.failures to)
unlock_failed env from to fails =
    failed_once (env.failures from) (env.failures to) fails.counted

-- a call that gives back a lock, and returned an Err, failed so
pub unlock_fails : {E F : Type 0} (env : Ghosts E F) (change : (List ℕ → Bool) → List ℕ → Bool)
    (from to : E) (status : Status)
    → ChangesFiles {T = Unit {0}} env.models_disk same FilesUnchanged (env.observed from)
    (env.observed to) (Err status)
    → ChangesLocks {T = Unit {0}} env.models_disk change (env.observed from) (env.observed to)
    (Err status)
    → HasCause {T = Unit {0}} (λ _. ⊥) (env.failures from) (env.failures to) (Err status)
    → FailsToUnlock env from to
unlock_fails env change from to status does locks cause = record {
  still = record { disk = λ modelled. Run-call modelled does; locks = locks };
  counted = ⊎_elim (λ (never : ⊥). absurd never) (λ counted. counted) cause.cause;
}
