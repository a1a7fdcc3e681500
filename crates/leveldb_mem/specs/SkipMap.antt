-- A map's pairs, and what comes of an insertion.
use Rattle.std.specs.Prelude.{◌≡◌, ◌≤◌, ◌<◌, ◌+◌, ◌⊎◌, ◌↔◌, ◌≢◌, ℕ, Bool, true, false, List, []}
use Rattle.std.specs.Prelude.{◌∷◌, ◌++◌, length, nat_eq}
use Rattle.std.specs.Prelude.{Option, Some, None, Result, OnOk, OnErr, IfErr, IsErrAnd, All}
use Rattle.std.specs.Prelude.{Contains, refl}
use Rattle.std.specs.List.{insert, starts_with}
use Rattle.std.specs.Bool.{OnTrue, OnFalse}
use Rattle.std.specs.Option.{option_map}
use Rattle.std.specs.Coded.{Coded, code_by, coded×, coded_list, coded_ℕ}
use Rattle.std.specs.declared.cmp.Ordering.{Ordering}
use Rattle.std.specs.declared.cmp.Ordering.TheVariants.{Equal}
use Rattle.leveldb_base.specs.declared.error.Status.{Status}
use Rattle.leveldb_base.specs.declared.error.StatusCode.TheVariants.{InvalidArgument, AlreadyExists}
use Rattle.leveldb_base.specs.Types.{Pair}
use Rattle.leveldb_base.specs.History.{AreRising}
use Rattle.leveldb_mem.specs.Placed.{rank, FailsToReserve}

-- a comparator, the pairs with their nodes, and room for `places` more with `bytes` bytes
pub record Held (C : Type 0) : Type 0 where
  -- the comparator
  pub cmp : C
  -- the pairs, in its order
  pub pairs : List Pair
  -- the node of each pair
  pub nodes : List ℕ
  -- for how many more pairs there is room
  pub places : ℕ
  -- and for how many bytes of keys and values
  pub bytes : ℕ

-- a map, as nested pairs of encodable parts
abbrev pub held_code : {C : Type 0} → Coded C → Coded (Held C)
held_code {C} c =
    code_by (C × (List Pair × (List ℕ × (ℕ × ℕ))))
    (coded× c (coded× (coded_list (coded× (coded_list coded_ℕ) (coded_list coded_ℕ)))
    (coded× (coded_list coded_ℕ) (coded× coded_ℕ coded_ℕ))))
    (λ m. (m.cmp, (m.pairs, (m.nodes, (m.places, m.bytes)))))
    (λ p. record {
      cmp = p.0;
      pairs = p.1.0;
      nodes = p.1.1.0;
      places = p.1.1.1.0;
      bytes = p.1.1.1.1;
    }) (λ _. refl)

-- keys are accepted and rise strictly
pub record IsSorted (accepts : List ℕ → Bool) (cmp : List ℕ → List ℕ → Ordering)
    (pairs : List Pair) : Type 0 where
  -- they rise strictly
  pub rising : AreRising cmp pairs
  -- and each is accepted
  pub accepted : All (λ pair. accepts pair.0 ≡ true) pairs

-- the node of one of the pairs
abbrev pub HasNode : List ℕ → List Pair → ℕ → Type 0
HasNode nodes pairs node = rank nodes node < length pairs

-- the index of the pair of a node
abbrev pub position_of_node : List ℕ → Option ℕ → Option ℕ
position_of_node nodes place = option_map (rank nodes) place

-- the pair has come between the others, which are as they were
pub record InsertsPair (old : List Pair) (pair : Pair) (new : List Pair) : Type 0 where
  -- the pairs before it
  pub front : List Pair
  -- the pairs after it
  pub back : List Pair
  -- both were there
  pub before : old ≡ front ++ back
  -- and it is between them
  pub after : new ≡ front ++ pair ∷ back

-- some key is Equal to this one
abbrev pub HasKey : (List ℕ → List ℕ → Ordering) → List Pair → List ℕ → Type 0
HasKey cmp pairs key = (pair : Pair) × Contains pairs pair × (cmp pair.0 key ≡ Equal)

-- an index at which the key, with any value, comes between the others, and no key is Equal to it
pub record IsGap (accepts : List ℕ → Bool) (cmp : List ℕ → List ℕ → Ordering) (pairs : List Pair)
    (key : List ℕ) (at : ℕ) : Type 0 where
  -- the index is one of the list, or its end
  pub within : at ≤ length pairs
  -- with the key there, keys are sorted
  pub sorted : (value : List ℕ) → IsSorted accepts cmp (insert pairs at (key, value))
  -- no key is Equal to it
  pub alone : HasKey cmp pairs key → ⊥

-- whether there is a pair, and its key begins with this
abbrev pub key_begins : Option Pair → List ℕ → Bool
key_begins None key = false
key_begins (Some pair) key = starts_with nat_eq pair.0 key

-- what inserting a pair into a map returns and leaves
pub record InsertResult {C : Type 0} (accepts : List ℕ → Bool) (order : List ℕ → List ℕ → Ordering)
    (old : Held C) (pair : Pair) (result : Result (Unit {0}) Status) (new : Held C) : Type 0 where
  -- the comparator stays
  pub cmp : new.cmp ≡ old.cmp
  -- an Ok has the pair between the others
  pub ok : OnOk result (InsertsPair old.pairs pair new.pairs)
  -- keys are sorted, whatever the result is
  pub sorted : IsSorted accepts order new.pairs
  -- an error leaves the pairs, and their room
  pub err : OnErr result (new.pairs ≡ old.pairs)
  -- the room for pairs
  pub places : OnErr result (new.places ≡ old.places)
  -- and for bytes
  pub bytes : OnErr result (old.bytes ≤ new.bytes)
  -- the key is empty, or a key that is there is Equal to it
  pub empty : IsErrAnd result (λ status. status.code ≡ InvalidArgument) ↔ (pair.0 ≡ [])
  -- a key that is there is `AlreadyExists`, and nothing else is
  pub present : IsErrAnd result (λ status. status.code ≡ AlreadyExists)
      ↔ ((pair.0 ≢ []) × HasKey order old.pairs pair.0)
  -- these two, or no room was made
  pub cause : IfErr result (λ status. (status.code ≡ InvalidArgument)
      ⊎ (status.code ≡ AlreadyExists)
      ⊎ FailsToReserve old.pairs 1 (length pair.0 + length pair.1) status)

-- what putting a key with no value leaves, for which there is room, and whether it has come
pub record PutKeyResult {C : Type 0} (order : List ℕ → List ℕ → Ordering) (old : Held C)
    (key : List ℕ) (has_come : Bool) (new : Held C) : Type 0 where
  -- the comparator stays
  pub cmp : new.cmp ≡ old.cmp
  -- no more room was taken than the key's bytes
  pub bytes : old.bytes ≤ new.bytes + length key
  -- no key was Equal to it
  pub absent : OnTrue has_come (HasKey order old.pairs key → ⊥)
  -- it has come between the others
  pub put : OnTrue has_come (InsertsPair old.pairs (key, []) new.pairs)
  -- and took one place
  pub place : OnTrue has_come (new.places + 1 ≡ old.places)
  -- one was, and all stays
  pub present : OnFalse has_come (HasKey order old.pairs key)
  -- the pairs
  pub left : OnFalse has_come (new.pairs ≡ old.pairs)
  -- the room for pairs
  pub places : OnFalse has_come (new.places ≡ old.places)
  -- and for bytes
  pub unused : OnFalse has_come (old.bytes ≤ new.bytes)
