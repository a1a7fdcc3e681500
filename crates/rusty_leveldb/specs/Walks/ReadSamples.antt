-- Samples of the keys that iterators read: when one is taken, and which file it charges with a
-- seek.
use Rattle.std.specs.Prelude.{◌≡◌, ◌≤◌, ◌<◌, ◌-◌, ◌%◌, ◌++◌, ◌∷◌, [], ℕ, Bool, List, Option, None, Some, Result, IfErr, OnErr, OnOk, false, true, fold, take}
use Rattle.std.specs.declared.cmp.Ordering.{Ordering}
use Rattle.leveldb_base.specs.Error.{IsOutOfMemory}
use Rattle.leveldb_base.specs.Types.{Pair}
use Rattle.leveldb_base.specs.declared.error.Status.{Status}
use Rattle.leveldb_store.specs.Keeping.OpenStore.{OpenStoreValue}
use Rattle.leveldb_store.specs.Reading.Read.{with_charge}
use Rattle.leveldb_version.specs.Versions.Sampling.{ChargesForSample}
use Rattle.leveldb_version.specs.Versions.Version.{new_files_of}
use Rattle.leveldb_files.specs.Edits.Edit.{LevelFile}
use Rattle.rand_core.specs.Steps.{steps_u64_high, stream_of}
use Rattle.rand_core.specs.Stream.{Stream, next_u64}
use Rattle.rand_xoshiro.specs.SplitMix64.{splitmix_seed}
use Rattle.rand_xoshiro.specs.Xoshiro256.{of_seed, plus_plus}

-- the samples of a store's iterators
pub record SamplesValue : Type 0 where
  -- the state of the generator that the periods are drawn from
  pub random : List ℕ
  -- how many bytes are read until a key is sampled
  pub left : ℕ
  -- the files to be charged with a seek
  pub charges : List LevelFile

-- what the periods are drawn from
abbrev pub stream_in : SamplesValue → Stream
stream_in it = stream_of (steps_u64_high plus_plus) it.random

-- a new period is drawn: one number of the stream
pub record DrawsPeriod (old new : SamplesValue) : Type 0 where
  pub left : new.left ≡ (next_u64 (stream_in old)).0 % 2097152
  pub rest : stream_in new ≡ (next_u64 (stream_in old)).1
  pub charges : new.charges ≡ old.charges

-- no sample, and no period yet of the generator with this seed
abbrev pub seeded : SamplesValue
seeded = record { random = of_seed (splitmix_seed 32 0xdeadbeef); left = 0; charges = [] }

-- Bytes that were read are counted: they are taken off those that are left until a key is sampled.
-- If they are more, one is to be sampled now, and a new period is drawn.
pub record TakesBytes (bytes : ℕ) (old : SamplesValue) (due : Bool) (new : SamplesValue)
    : Type 0 where
  pub goes_on : bytes ≤ old.left
      → (due ≡ false) × (new ≡ record old { left = old.left - bytes })
  pub ends : old.left < bytes → (due ≡ true) × DrawsPeriod old new

-- the samples once this file is kept to be charged, if there is one and fewer than 4096 are kept
abbrev pub with_charge_of : Option LevelFile → SamplesValue → SamplesValue
with_charge_of None it = it
with_charge_of (Some file) it = record it { charges = take 4096 (it.charges ++ file ∷ []) }

module _ {C : Type 0} (cmp : List ℕ → List ℕ → Ordering) (store : OpenStoreValue C) where
  -- A user key is sampled: the file that this charges in the store is kept. Without memory for it
  -- the sample is lost.
  pub record SamplesKey (key : List ℕ) (old : SamplesValue) (result : Result (Unit {0}) Status)
      (new : SamplesValue) : Type 0 where
    pub charge : Option LevelFile
    pub which : ChargesForSample cmp key (new_files_of store.current) charge
    pub kept : OnOk result (new ≡ with_charge_of charge old)
    pub lost : OnErr result (new ≡ old)
    pub memory : IfErr result IsOutOfMemory

  -- An iterator that is at this pair, or at none, has read bytes: they are counted, and where a key
  -- is to be sampled it is the pair's.
  pub record CountsRead (bytes : ℕ) (at : Option Pair) (old new : SamplesValue) : Type 0 where
    pub counted : SamplesValue
    pub due : Bool
    pub takes : TakesBytes bytes old due counted
    pub samples : due ≡ true → (pair : Pair) → at ≡ Some pair
        → (result : Result (Unit {0}) Status) × SamplesKey pair.0 counted result new
    pub none : (due ≡ true → at ≡ None) → new ≡ counted

-- a store once files of its version are charged, each with a seek
abbrev pub after_charges : {C : Type 0} → List LevelFile → OpenStoreValue C → OpenStoreValue C
after_charges files store = fold (λ value file. with_charge value (Some file)) store files
