-- What the calls of a store leave alone: what isn't the store's, and the bytes of its files.
use Rattle.std.proofs.Common.{◌≡◌, ◌≢◌, inl, inr, ⊎_elim, ℕ, Bool, true, false, List, refl, sym, ◌∙◌, ap, subst, append-nil, Option, Some, None}
use Rattle.std.specs.Prelude.{codes}
use Rattle.std.specs.Option.{option_map}
use Rattle.std.specs.Str.{bytes_eq}
use Rattle.std.specs.Cmp.Lexicographic.{bytes_decides}
use Rattle.leveldb_env.specs.Env.{File, Files, Disk, bytes_of, or_empty, file_kept, created, synced, BeforeOrAfter, SameBut}
use Rattle.leveldb_env.proofs.EnvLemmas.{SameBut-created, bytes_eq-apart, at_same, at_other}
use Rattle.leveldb_files.specs.Stores.Paths.{lock_path}
use Rattle.leveldb_files.specs.Stores.Paths.{IsFilePath}
use Rattle.leveldb_store.specs.Keeping.Written.{IsData}
use Rattle.leveldb_base.specs.declared.types.FileType.{FileType}
use Rattle.leveldb_base.specs.declared.types.FileType.TheVariants.{DBLock, InfoLog}
use Rattle.rusty_leveldb.specs.Machines.State.{Mode, open_mode, closed, Opening, Request, open_store, write, flush, compact_range, close}
use Rattle.rusty_leveldb.specs.Engines.Frame.{IsOwned, IsLogType, Touches, IsStorePath, IsOwn, MayTouch, IsKeptOrMade, Spares, SameBytes}

-- a name that is another
pub apart : (name path : List ℕ) → path ≢ name → bytes_eq name path ≡ false
apart name path differs = bytes_eq-apart name path (λ e. differs (sym e))

-- ---- a file that is kept or made

made_twice : (was : Option File) → or_empty (or_empty was) ≡ or_empty was
made_twice None = refl
made_twice (Some file) = refl

kept_then : (was mid now : Option File) → IsKeptOrMade was mid → IsKeptOrMade mid now → IsKeptOrMade was now
kept_then was mid now first second = ⊎_elim
    (λ (kept : mid ≡ was). ⊎_elim (λ (same : now ≡ mid). inl (same ∙ kept)) (λ (made : now ≡ or_empty mid). inr (made ∙ ap or_empty kept)) second)
    (λ (made : mid ≡ or_empty was). ⊎_elim (λ (same : now ≡ mid). inr (same ∙ made)) (λ (again : now ≡ or_empty mid). inr (again ∙ ap or_empty made ∙ made_twice was)) second) first

-- ---- the store's files

lock_is : (store : List ℕ) → IsFilePath DBLock store (lock_path store)
lock_is store = (codes "LOCK", 0, (refl, refl), refl)

-- what isn't the store's is not its lock's
module _ (store path : List ℕ) (foreign : IsStorePath store path → ⊥) where
  no_lock : path ≢ lock_path store
  no_lock e = foreign (subst (IsStorePath store) (sym e) (DBLock, tt, lock_is store))

-- what a request touches is the store's
data_owned : (kind : FileType) → IsData kind → IsOwned kind
data_owned InfoLog never = absurd never
data_owned kind touched = tt

log_owned : (kind : FileType) → IsLogType kind → IsOwned kind
log_owned InfoLog never = absurd never
log_owned kind touched = tt

touched_owned : (mode : Mode) (request : Request) (kind : FileType) → Touches mode request kind → IsOwned kind
touched_owned closed (open_store opening) kind touched = touched
touched_owned open_mode (write items sync) kind touched = data_owned kind touched
touched_owned open_mode (compact_range from to) kind touched = data_owned kind touched
touched_owned open_mode flush kind touched = log_owned kind touched
touched_owned open_mode close kind touched = log_owned kind touched
touched_owned mode request kind touched = absurd touched

touched_own : (store : List ℕ) (mode : Mode) (request : Request) (path : List ℕ) → MayTouch store mode request path → IsOwn store path
touched_own store closed (open_store opening) path may = may
touched_own store mode request path may = inl (may.0, touched_owned mode request may.0 may.1, may.2)

pub spares_own : (store : List ℕ) (mode : Mode) (request : Request) (old new : Disk) → Spares store (MayTouch store mode request) old new → Spares store (IsOwn store) old new
spares_own store mode request old new spares = record {
  files = λ path foreign. spares.files path (λ may. foreign (touched_own store mode request path may));
  lock_file = spares.lock_file;
  locks = spares.locks;
}

-- so is what it makes
pub spares_made : (store : List ℕ) (old new : Disk) → Spares store (IsStorePath store) old new → Spares store (IsOwn store) old new
spares_made store old new spares = record {
  files = λ path foreign. spares.files path (λ made. foreign (inl made));
  lock_file = spares.lock_file;
  locks = spares.locks;
}

-- files that are as they were are so but for a name
pub but_same : (name : List ℕ) (old files : Files) → files ≡ old → SameBut name old files
but_same name old files is other differs = ap (λ (f : Files). f other) is

module _ (store : List ℕ) (old new : Disk) where
  -- no file has changed
  pub spares_same : (May : List ℕ → Type 0) → new.files ≡ old.files → ((path : List ℕ) → path ≢ lock_path store → new.locked path ≡ old.locked path) → Spares store May old new
  spares_same May same locks = record {
    files = λ path foreign. ap (λ (f : Files). f path) same;
    lock_file = inl (ap (λ (f : Files). f (lock_path store)) same);
    locks = locks;
  }

  -- the lock's file may have been made
  pub others_made : BeforeOrAfter (created (lock_path store)) old.files new.files → ((path : List ℕ) → path ≢ lock_path store → new.locked path ≡ old.locked path) → Spares store (IsStorePath store) old new
  others_made passes locks = record {
    files = λ path foreign. SameBut-created (lock_path store) old.files new.files passes path (apart (lock_path store) path (no_lock store path foreign));
    lock_file = ⊎_elim (λ same. inl (ap (λ (f : Files). f (lock_path store)) same))
        (λ made. inr (ap (λ (f : Files). f (lock_path store)) made ∙ at_same (lock_path store) (or_empty (old.files (lock_path store))) old.files)) passes;
    locks = locks;
  }

-- nothing has changed
pub spares_still : (store : List ℕ) (May : List ℕ → Type 0) (disk : Disk) → Spares store May disk disk
spares_still store May disk = record { files = λ path foreign. refl; lock_file = inl refl; locks = λ path differs. refl }

pub others_then : (store : List ℕ) (old mid new : Disk) → Spares store (IsOwn store) old mid → Spares store (IsOwn store) mid new → Spares store (IsOwn store) old new
others_then store old mid new first second = record {
  files = λ path foreign. second.files path foreign ∙ first.files path foreign;
  lock_file = kept_then (old.files (lock_path store)) (mid.files (lock_path store)) (new.files (lock_path store)) first.lock_file second.lock_file;
  locks = λ path differs. second.locks path differs ∙ first.locks path differs;
}

-- an opening touches what is the store's
pub opening_spares : (store : List ℕ) (mode : Mode) (opening : Opening) (old new : Disk) → mode ≡ closed → Spares store (IsOwn store) old new → Spares store (MayTouch store mode (open_store opening)) old new
opening_spares store mode opening old new is spares = subst (λ m. Spares store (MayTouch store m (open_store opening)) old new) (sym is) spares

-- ---- bytes

pub bytes_same : (old files : Files) → files ≡ old → SameBytes old files
bytes_same old files is path = ap (λ (f : Files). option_map bytes_of (f path)) is

kept_bytes : (file : Option File) → option_map bytes_of (option_map file_kept file) ≡ option_map bytes_of file
kept_bytes None = refl
kept_bytes (Some file) = ap (λ (b : List ℕ). Some b) (append-nil (bytes_of file))

-- a sync leaves all bytes
pub bytes_synced : (name : List ℕ) (old files : Files) → files ≡ synced name old → SameBytes old files
bytes_synced name old files is path = ap (λ (f : Files). option_map bytes_of (f path)) is ∙ at (bytes_eq name path) refl
  where
    at : (b : Bool) → bytes_eq name path ≡ b → option_map bytes_of (synced name old path) ≡ option_map bytes_of (old path)
    at true e = subst (λ p. option_map bytes_of (synced name old p) ≡ option_map bytes_of (old p)) ((bytes_decides name path).0 e)
        (ap (option_map bytes_of) (at_same name (option_map file_kept (old name)) old) ∙ kept_bytes (old name))
    at false e = ap (option_map bytes_of) (at_other name (option_map file_kept (old name)) old path e)
