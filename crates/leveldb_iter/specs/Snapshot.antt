-- The snapshots that are held of a store: what giving one out and releasing one changes, and the
-- oldest and newest of them.
use Rattle.std.specs.Prelude.{◌≡◌, ◌≢◌, ◌≤◌, ◌+◌, ℕ, List, [], ◌∷◌, ◌++◌, Contains}
use Rattle.leveldb_iter.specs.declared.snapshot.Snapshot.{Snapshot}

-- the snapshots that are held, in the order in which they were given out, and the number of the one
-- that was given out last, or 0
pub record HeldSnapshots : Type 0 where
  -- those that are held
  pub held : List Snapshot
  -- the number that was given out last
  pub given : ℕ

-- one more snapshot is held, of this sequence number, under the next number
pub record Gives (sequence : ℕ) (old : HeldSnapshots) (one : Snapshot) (new : HeldSnapshots)
    : Type 0 where
  -- the next number
  pub number : one.number ≡ old.given + 1
  -- this sequence number
  pub sequence_is : one.sequence ≡ sequence
  -- it is held after all others
  pub held : new.held ≡ old.held ++ one ∷ []
  -- its number is the last that was given out
  pub given : new.given ≡ one.number

-- a snapshot that was held isn't any more, and the others are
pub record Releases (old : HeldSnapshots) (one : Snapshot) (new : HeldSnapshots) : Type 0 where
  -- those that were given out before it
  pub before : List Snapshot
  -- and those that were given out after it
  pub after : List Snapshot
  -- it was held
  pub was : old.held ≡ before ++ one ∷ after
  -- only the others are
  pub held : new.held ≡ before ++ after
  -- no number is given out again
  pub given : new.given ≡ old.given

-- one of these snapshots reads at this sequence number
abbrev pub HasSequence : List Snapshot → ℕ → Type 0
HasSequence held sequence =
    (one : Snapshot) × Contains held one × (one.sequence ≡ sequence)

-- the least sequence number of these snapshots, or 0 if there are none
pub record IsOldest (held : List Snapshot) (sequence : ℕ) : Type 0 where
  -- 0 if there are none
  pub none : held ≡ [] → sequence ≡ 0
  -- else one of them reads at it
  pub there : held ≢ [] → HasSequence held sequence
  -- and none at a lesser number
  pub least : (one : Snapshot) → Contains held one → sequence ≤ one.sequence

-- the greatest sequence number of these snapshots, or 0 if there are none
pub record IsNewest (held : List Snapshot) (sequence : ℕ) : Type 0 where
  -- 0 if there are none
  pub none : held ≡ [] → sequence ≡ 0
  -- else one of them reads at it
  pub there : held ≢ [] → HasSequence held sequence
  -- and none at a greater number
  pub greatest : (one : Snapshot) → Contains held one → one.sequence ≤ sequence

-- The smallest number at which a store is read, where this is its last one: the oldest snapshot's
-- or, where none is held, the last.
pub record IsSmallestHeld (held : List Snapshot) (last sequence : ℕ) : Type 0 where
  -- the last number if there are none
  pub none : held ≡ [] → sequence ≡ last
  -- else the oldest one's
  pub some : held ≢ [] → IsOldest held sequence
