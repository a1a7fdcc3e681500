-- What the last removal of obsolete files says of those that are left, and calls in a row that end
-- by removals.
use Rattle.std.specs.Prelude.{◌≢◌, Contains, IfOk, IsTrue, OnErr, OnOk}
use Rattle.std.specs.Cmp.Lexicographic.{bytes_decides}
use Rattle.std.specs.Option.{option_or}
use Rattle.std.specs.Result.{result_and}
use Rattle.std.specs.Str.{bytes_eq}
use Rattle.std.proofs.Common.{◌≡◌, ◌∙◌, ◌⊎◌, ◌-◌, ◌^◌, ◌≤◌, ◌<◌, inl, inr, ⊎_elim, ℕ, Bool, true, false, List, [], ◌∷◌, Option, None, Some, Ok, Err, Result, ap, arith, refl, subst, sym}
use Rattle.std.specs.declared.cmp.Ordering.{Ordering}
use Rattle.std.proofs.lemmas.Result.{on_err_weaker, on_ok_weaker}
use Rattle.leveldb_base.proofs.HistoryLemmas.{in_front, in_rest}
use Rattle.leveldb_base.specs.History.{Item}
use Rattle.leveldb_base.specs.declared.error.Status.{Status}
use Rattle.leveldb_base.specs.declared.types.FileType.{FileType}
use Rattle.leveldb_base.specs.declared.types.FileType.TheVariants.{Current, DBLock, Descriptor, InfoLog, Log, Table, Temp}
use Rattle.leveldb_env.proofs.EnvLemmas.{at_other, at_same}
use Rattle.leveldb_env.specs.Env.{File, Files, IsEmptyFolder, deleted, moved, renamed}
use Rattle.leveldb_env.specs.declared.env.Env.{Ghosts}
use Rattle.leveldb_files.specs.Stores.Paths.{IsJournal}
use Rattle.leveldb_mem.specs.MemTable.{Kept}
use Rattle.leveldb_version_set.specs.Engines.Writing.{IsObsolete}
use Rattle.leveldb_version_set.specs.Sets.VersionSetValue.{VersionSetValue, broken}
use Rattle.leveldb_store.proofs.Keeping.DamageLemmas.{failed_before}
use Rattle.leveldb_store.proofs.Keeping.SetAsideLemmas.{aside_apart}
use Rattle.leveldb_store.proofs.Keeping.SoundLemmas.{failed_later}
use Rattle.leveldb_store.specs.Keeping.OpenStore.{OpenStoreValue}
use Rattle.leveldb_store.specs.Keeping.SetAside.{AreSetAside, aside_path, with_aside}
use Rattle.leveldb_store.specs.Writing.Removal.{EndsByRemoval, IsTidy, LeavesObsolete, RemovesAtLast, but_removal}
use Rattle.leveldb_store.specs.Writing.Room.{HasFailed}
use Rattle.leveldb_store.specs.Writing.Switch.{IsMemoryOut, IsObsoletePath}
use Rattle.leveldb_store.specs.Writing.Write.{open_log_path}
use Rattle.leveldb_store.specs.Writing.WriteBatch.{WritesBatch}

-- what an Ok says, whatever the removal returned
pub on_ok_by : {T : Type 0} (P : Type 0) (result : Result T Status)
    → OnOk (but_removal result) P → OnOk result P
on_ok_by P (Ok removal) so = so
on_ok_by P (Err status) so = tt

-- an Ok in the place of another
pub and_is : {T X : Type 0} (result : Result T Status) (other : X)
    → but_removal (result_and result (Ok other)) ≡ but_removal result
and_is (Ok value) other = refl
and_is (Err status) other = refl

-- nothing is owed of an Ok that there isn't
pub none_done : {T X : Type 0} (P : X → Type 0) (Usable : Type 0) (result : Result T Status)
    (other : X) → OnOk (but_removal result) Usable → (Usable → ⊥)
    → IfOk (result_and result (Ok other)) P
none_done P Usable (Ok value) other usable never = absurd (never usable)
none_done P Usable (Err status) other usable never = tt

-- where an immutable memtable became a table, the store has changed
pub table_changes : {C : Type 0} (old new : OpenStoreValue C) (mem : Kept)
    (result : Result (Unit {0}) Status) → old.imm ≡ Some mem → OnOk result (new.imm ≡ None)
    → OnOk result (new ≡ old → ⊥)
table_changes {C} old new mem result waits none = on_ok_weaker result (λ is still.
    let never : Some mem ≡ None = sym waits
    ∙ sym (ap (λ (v : OpenStoreValue C). v.imm) still) ∙ is in cc) none

module _ {E F C : Type 0} (env : Ghosts E F) where
  -- ---- calls in a row

  -- a removal that was done since a later moment
  pub at_last_since : {from mid to : E} {value : OpenStoreValue C}
      {removal : Result (Unit {0}) Status} → env.failures from ≤ env.failures mid
      → RemovesAtLast env mid value removal to → RemovesAtLast env from value removal to
  at_last_since later last = record {
    at = last.at;
    later = omega (arith, later, last.later);
    removes = last.removes;
  }

  -- of two calls in a row the last removal counts
  pub ends_then : (old mid new : OpenStoreValue C) (from at to : E)
      (first next : Option (Result (Unit {0}) Status)) → env.failures from ≤ env.failures at
      → EndsByRemoval env from old first mid at → EndsByRemoval env at mid next new to
      → EndsByRemoval env from old (option_or next first) new to
  ends_then old mid new from at to first (Some removal) later ends last = at_last_since later last
  ends_then old mid new from at to first None later ends still =
      subst (λ (e : E). EndsByRemoval env from old first new e) (sym still.1)
      (subst (λ (v : OpenStoreValue C). EndsByRemoval env from old first v at) (sym still.0) ends)

  -- a call that changes the store ends by a removal, whatever was done before
  pub ends_after : (old mid new : OpenStoreValue C) (from at to : E)
      (result : Result (Option (Result (Unit {0}) Status)) Status)
      → env.failures from ≤ env.failures at → OnOk (but_removal result) (new ≡ mid → ⊥)
      → IfOk result (λ removal. EndsByRemoval env at mid removal new to)
      → IfOk result (λ removal. EndsByRemoval env from old removal new to)
  ends_after old mid new from at to (Ok None) later changed still = absurd (changed still.0)
  ends_after old mid new from at to (Ok (Some removal)) later changed last =
      at_last_since later last
  ends_after old mid new from at to (Err status) later changed ends = tt

  -- ---- what is left

  -- by the removal itself
  pub leaves_obsolete : {from to : E} {value : OpenStoreValue C}
      (removal : Result (Unit {0}) Status) → value.set.manifest ≢ broken
      → RemovesAtLast env from value removal to → LeavesObsolete env from value removal to
  leaves_obsolete (Ok done) usable last = record { ok = last.removes.all usable; err = tt }
  leaves_obsolete {from} {to} {value} (Err status) usable last =
      record { ok = tt; err = by last.removes.cause.cause }
    where
      before : ℕ
      before = env.failures last.at

      by : IsEmptyFolder env.models_disk value.set.store (env.observed last.at) status
          ⊎ (before < env.failures to) ⊎ ((before ≡ 2 ^ 64 - 1) × (env.failures to ≡ before))
          → IsMemoryOut (Err status) ⊎ HasFailed (env.failures from) (env.failures to)
          ⊎ (IsTrue env.models_disk → IsTidy value (env.observed to).disk.files)
      by (inl (inl memory)) = inl memory.0
      by (inl (inr empty)) = inr (inr (λ modelled path obsolete. ⊎_elim
          (λ stays. stays ∙ ap (env.observed last.at).disk.files obsolete.2
          ∙ empty.1 modelled obsolete.0)
          (λ gone. gone.1) ((last.removes.run modelled).has path)))
      by (inr counted) = inr (inl (failed_later (env.failures from) before (env.failures to)
          last.later last.removes.cause.later
          (⊎_elim (λ one. inl one) (λ most. inr most.0) counted)))

  -- since an earlier moment, when no more had failed
  pub leaves_since : {from mid to : E} {value : OpenStoreValue C}
      {removal : Result (Unit {0}) Status} → env.failures mid ≡ env.failures from
      → LeavesObsolete env mid value removal to → LeavesObsolete env from value removal to
  leaves_since {to = to} {removal = removal} same leaves = record {
    ok = leaves.ok;
    err = on_err_weaker removal
        (⊎_elim (λ memory. inl memory) (⊎_elim
        (λ failed. inr (inl (subst (λ (n : ℕ). HasFailed n (env.failures to)) same failed)))
        (λ is. inr (inr is)))) leaves.err;
  }

  -- what is done after it makes no obsolete file
  pub leaves_then : {from mid to : E} (value new : OpenStoreValue C)
      (removal : Result (Unit {0}) Status) → env.failures mid ≤ env.failures to
      → (IsTrue env.models_disk → IsTidy value (env.observed mid).disk.files
      → IsTidy new (env.observed to).disk.files)
      → LeavesObsolete env from value removal mid → LeavesObsolete env from new removal to
  leaves_then {from} {mid} {to} value new removal later tidy leaves = record {
    ok = on_ok_weaker removal (λ is modelled. tidy modelled (is modelled)) leaves.ok;
    err = on_err_weaker removal
        (⊎_elim (λ memory. inl memory)
        (⊎_elim
        (λ failed. inr (inl (failed_before (env.failures from) (env.failures mid)
        (env.failures to) later failed)))
        (λ is. inr (inr (λ modelled. tidy modelled (is modelled))))))
        leaves.err;
  }

-- ---- files that are set aside

-- a file that is missing stays so, where none is set aside to its path
missing_renamed : (path other : List ℕ) (files : Files) → bytes_eq (aside_path path) other ≡ false
    → files other ≡ None → renamed path (aside_path path) files other ≡ None
missing_renamed path other files apart none = by (files path)
  where
    gone : (b : Bool) → bytes_eq path other ≡ b → deleted path files other ≡ None
    gone true is = subst (λ (at : List ℕ). deleted path files at ≡ None)
        ((bytes_decides path other).0 is) (at_same path None files)
    gone false is = at_other path None files other is ∙ none

    by : (file : Option File) → moved path (aside_path path) files file other ≡ None
    by None = none
    by (Some file) = at_other (aside_path path) (Some file) (deleted path files) other apart
        ∙ gone (bytes_eq path other) refl

missing_aside : (paths : List (List ℕ)) (other : List ℕ) (files : Files)
    → ((path : List ℕ) → Contains paths path → bytes_eq (aside_path path) other ≡ false)
    → files other ≡ None → with_aside paths files other ≡ None
missing_aside [] other files apart none = none
missing_aside (path ∷ paths) other files apart none =
    missing_renamed path other (with_aside paths files) (apart path (in_front path paths))
    (missing_aside paths other files (λ at there. apart at (in_rest path at paths there)) none)

-- no file of a store has the name of one that is set aside
pub tidy_aside : {C : Type 0} (value : OpenStoreValue C) (IsOne : List ℕ → Type 0)
    → ((path : List ℕ) → IsOne path → IsJournal value.set.store path) → (before after : Files)
    → AreSetAside IsOne before after → IsTidy value before → IsTidy value after
tidy_aside value IsOne journals before after aside tidy path obsolete =
    ap (λ (f : Files). f path) aside.files
    ∙ missing_aside aside.paths path before
    (λ own there. subst (λ (at : List ℕ). bytes_eq (aside_path own) at ≡ false) (sym obsolete.2)
    (aside_apart value.set.store (aside_path own) (own, journals own (aside.each own there), refl)
    obsolete.0 obsolete.1.0 obsolete.1.1 obsolete.1.2))
    (tidy path obsolete)

-- ---- a batch that is written

-- another last number makes nothing obsolete
obsolete_alike : (set : VersionSetValue) (last n : ℕ) (kind : FileType)
    → IsObsolete (record set { last_sequence = last }) kind n → IsObsolete set kind n
obsolete_alike set last n Log is = is
obsolete_alike set last n DBLock is = is
obsolete_alike set last n Table is = is
obsolete_alike set last n Descriptor is = is
obsolete_alike set last n Current is = is
obsolete_alike set last n Temp is = is
obsolete_alike set last n InfoLog is = is

-- it makes no file, and nothing obsolete
pub tidy_written : {E F C : Type 0} (env : Ghosts E F) {cmp : List ℕ → List ℕ → Ordering}
    {old new : OpenStoreValue C} {from to : E} {items : List Item} {sync : Bool}
    {result : Result (Unit {0}) Status} → WritesBatch env cmp old from items sync result new to
    → IsTrue env.models_disk → IsTidy old (env.observed from).disk.files
    → IsTidy new (env.observed to).disk.files
tidy_written {C = C} env {old = old} {new = new} {from = from} {to = to} writes modelled tidy path
    obsolete = by (bytes_eq (open_log_path old) path) refl
  where
    here : IsObsoletePath (record old.set { last_sequence = new.set.last_sequence }) old.kept_to path
    here = subst (λ (v : OpenStoreValue C). IsObsoletePath v.set v.kept_to path) writes.rest obsolete

    gone : (env.observed from).disk.files path ≡ None
    gone = tidy path (
      here.0,
      (
        here.1.0,
        here.1.1,
        here.1.2,
        obsolete_alike old.set new.set.last_sequence here.1.0 here.1.1 here.1.3,
        here.1.4,
      ),
      here.2,
    )

    by : (b : Bool) → bytes_eq (open_log_path old) path ≡ b
        → (env.observed to).disk.files path ≡ None
    by true is =
        let same = (bytes_decides (open_log_path old) path).0 is in
        subst (λ (at : List ℕ). (env.observed to).disk.files at ≡ None) same
        (writes.makes_none modelled
        (subst (λ (at : List ℕ). (env.observed from).disk.files at ≡ None) (sym same) gone))
    by false is = writes.others modelled path is ∙ gone
