-- What files carry, with greater bounds and where other stores may be there.
use Rattle.std.proofs.Common.{◌≡◌, ◌≤◌, ℕ, List, refl, arith}
use Rattle.leveldb_base.specs.History.{History}
use Rattle.leveldb_env.specs.Env.{Files}
use Rattle.leveldb_files.specs.Stores.Contents.{Store, Contents}
use Rattle.leveldb_files.specs.Histories.Holds.{Carries, IsSafe}

module _ (store : List ℕ) (reads : Files → Contents → Type 0) where
  -- ---- greater bounds

  pub carries_more : {allowed : Store → Type 0} (bound more : ℕ) → bound ≤ more → (history : History) (files : Files) → Carries store reads allowed bound history files → Carries store reads allowed more history files
  carries_more bound more le history files c =
      let low = c.matches.bounded in
      record { contents = c.contents; read = c.read; matches = record { same = c.matches.same; up_to = c.matches.up_to; reached = c.matches.reached; bounded = omega arith; store = c.matches.store } }

  pub safe_more : {allowed : Store → Type 0} (bound more durable : ℕ) → bound ≤ more → (history : History) (files : Files) → IsSafe store reads allowed bound durable history files → IsSafe store reads allowed more durable history files
  safe_more bound more durable le history files safe left leaves honest =
      let c = safe left leaves honest in
      record { part = c.part; prefix = c.prefix; carries = carries_more bound more le c.part left c.carries }

  -- ---- other stores that may be there

  pub carries_allow : {allowed other : Store → Type 0} (bound : ℕ) (history : History) (files : Files) → ((there : Store) → allowed there → other there)
      → Carries store reads allowed bound history files → Carries store reads other bound history files
  carries_allow bound history files may c = record {
    contents = c.contents;
    read = c.read;
    matches = record { same = c.matches.same; up_to = c.matches.up_to; reached = c.matches.reached; bounded = c.matches.bounded; store = may c.contents.store c.matches.store };
  }

  -- the store that is read is there
  pub carries_just : {allowed : Store → Type 0} (bound : ℕ) (history : History) (files : Files) (c : Carries store reads allowed bound history files) → Carries store reads (λ now. now ≡ c.contents.store) bound history files
  carries_just bound history files c = record {
    contents = c.contents;
    read = c.read;
    matches = record { same = c.matches.same; up_to = c.matches.up_to; reached = c.matches.reached; bounded = c.matches.bounded; store = refl };
  }

  pub safe_allow : {allowed other : Store → Type 0} (bound durable : ℕ) (history : History) (files : Files) → ((there : Store) → allowed there → other there)
      → IsSafe store reads allowed bound durable history files → IsSafe store reads other bound durable history files
  safe_allow bound durable history files may safe left leaves honest =
      let c = safe left leaves honest in
      record { part = c.part; prefix = c.prefix; carries = carries_allow bound c.part left may c.carries }
