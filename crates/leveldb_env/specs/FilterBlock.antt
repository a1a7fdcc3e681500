-- A filter block: one filter for each 2048 bytes of a table, made of the keys of the blocks that
-- begin in them. What a filter is made of and what it matches is its policy's.
use Rattle.std.specs.Prelude.{◌≡◌, ℕ, zero, suc, ◌+◌, ◌-◌, ◌*◌, ◌/◌, ◌^◌, ◌<◌, ◌≤◌, ◌⊎◌, Bool, true, List, [], ◌∷◌, ◌++◌, length, flat_map, replicate, slice_get, IsSomeAnd, Contains, refl, Option, None, Some, Result, OnErr, drop}
use Rattle.std.specs.List.{concat}
use Rattle.std.specs.Option.{option_map_or}
use Rattle.std.specs.Coded.{Coded, code_by, coded×, coded_list, coded_ℕ}
use Rattle.leveldb_base.specs.Varint.{little}
use Rattle.leveldb_base.specs.Error.{IsOutOfMemory}
use Rattle.leveldb_base.specs.declared.error.Status.{Status}
use Rattle.leveldb_base.specs.declared.error.StatusCode.TheVariants.{NotSupported}
use Rattle.byteorder.specs.Endian.{little_number}

-- ---- bytes

-- where each text begins, the first beginning at this offset
abbrev pub offsets_from : ℕ → List (List ℕ) → List ℕ
offsets_from at [] = []
offsets_from at (text ∷ texts) = at ∷ offsets_from (at + length text) texts

-- the filters one after another, where each begins, where these offsets begin, and that 2^11 bytes
-- of a table have one filter
unfoldable pub filter_block : List (List ℕ) → List ℕ
filter_block filters = concat filters ++
    (flat_map (little 4) (offsets_from 0 filters) ++
    (little 4 (length (concat filters)) ++ 11 ∷ []))

-- the bytes are the filter block of these filters
pub record IsFilterBlock (bytes : List ℕ) (filters : List (List ℕ)) : Type 0 where
  -- they are its encoding
  pub encoded : bytes ≡ filter_block filters
  -- and each offset in it has 32 bits
  pub fits : length (concat filters) < 2 ^ 32

-- the bytes are no filter block
abbrev pub IsNoFilterBlock : List ℕ → Type 0
IsNoFilterBlock bytes = (filters : List (List ℕ)) → IsFilterBlock bytes filters → ⊥

-- bytes are a filter block in one way
abbrev pub FilterBlocksAreInjective : Type 0
FilterBlocksAreInjective = (bytes : List ℕ) (filters others : List (List ℕ))
    → IsFilterBlock bytes filters → IsFilterBlock bytes others → filters ≡ others

-- filters have one filter block
abbrev pub FilterBlocksAreUnique : Type 0
FilterBlocksAreUnique = (bytes others : List ℕ) (filters : List (List ℕ))
    → IsFilterBlock bytes filters → IsFilterBlock others filters → bytes ≡ others

-- ---- looking for a key

-- a policy, and the filters of a block
pub record FiltersRead (FP : Type 0) : Type 0 where
  -- what made them
  pub policy : FP
  -- one for each 2048 bytes of the table
  pub filters : List (List ℕ)

-- The filter for a block's offset is put to the policy, an empty one too; where there is none for
-- it, each key passes.
abbrev pub passes : (List ℕ → List ℕ → Bool) → List (List ℕ) → ℕ → List ℕ → Bool
passes matches filters offset key = option_map_or (matches key)
    (slice_get filters (offset / 2048)) true

-- ---- building

-- a policy, the filters that are made, and the keys of the filter that is still open
pub record FiltersBuilt (FP : Type 0) : Type 0 where
  -- what makes filters
  pub policy : FP
  -- those that are made
  pub filters : List (List ℕ)
  -- the keys for the next one
  pub keys : List (List ℕ)

-- the filter of some keys; no keys have an empty one, for which the policy isn't asked
abbrev pub filter_of : (List (List ℕ) → List ℕ) → List (List ℕ) → List ℕ
filter_of make [] = []
filter_of make (key ∷ keys) = make (key ∷ keys)

-- one more key for the open filter
abbrev pub with_key : {FP : Type 0} → List ℕ → FiltersBuilt FP → FiltersBuilt FP
with_key key building = record building { keys = building.keys ++ key ∷ [] }

-- `count` filters are missing: the first of them is made of the keys, and the others are empty
abbrev pub with_filters : {FP : Type 0} → (List (List ℕ) → List ℕ) → ℕ → FiltersBuilt FP
    → FiltersBuilt FP
with_filters make zero building = building
with_filters make (suc others) building = record building {
  filters = building.filters ++ filter_of make building.keys ∷ replicate others [];
  keys = [];
}

-- a block begins at this offset: the filters before its own are made
abbrev pub started : {FP : Type 0} → (List (List ℕ) → List ℕ) → ℕ → FiltersBuilt FP
    → FiltersBuilt FP
started make offset building = with_filters make (offset / 2048 - length building.filters) building

-- the policy stays, and at an Err all
pub record KeepsPolicy {FP T : Type 0} (old : FiltersBuilt FP) (result : Result T Status)
    (new : FiltersBuilt FP) : Type 0 where
  -- the policy is the same
  pub policy : new.policy ≡ old.policy
  -- an Err changes nothing
  pub err : OnErr result (new ≡ old)

-- the filters at the end: keys that are left make one more
abbrev pub finished : (List (List ℕ) → List ℕ) → List (List ℕ) → List (List ℕ) → List (List ℕ)
finished make filters [] = filters
finished make filters (key ∷ keys) = filters ++ make (key ∷ keys) ∷ []

-- The policy finds the keys' filter too large, or with it the filters would have 2^32 bytes or
-- more. No keys have no such filter.
abbrev pub IsFilterTooLarge : (List (List ℕ) → Type 0) → (List (List ℕ) → List ℕ) → List (List ℕ)
    → List (List ℕ) → Type 0
IsFilterTooLarge too_large make filters [] = ⊥
IsFilterTooLarge too_large make filters (key ∷ keys) = too_large (key ∷ keys)
    ⊎ (2 ^ 32 ≤ length (concat filters) + length (make (key ∷ keys)))

-- why no filter was made of the keys: out of memory, or it would be too large
abbrev pub IsFilterNotMade : (List (List ℕ) → Type 0) → (List (List ℕ) → List ℕ) → List (List ℕ)
    → List (List ℕ) → Status → Type 0
IsFilterNotMade too_large make filters keys status = IsOutOfMemory status
    ⊎ ((status.code ≡ NotSupported) × IsFilterTooLarge too_large make filters keys)

-- ---- what was added is found

-- A key of a block at this offset is kept: its filter is still open and has the key, or is made and
-- matches it.
abbrev pub IsKeyKept : (List ℕ → List ℕ → Bool) → List (List ℕ) → List (List ℕ) → ℕ → List ℕ
    → Type 0
IsKeyKept matches filters keys offset key = ((offset / 2048 ≡ length filters) × Contains keys key)
    ⊎ IsSomeAnd (slice_get filters (offset / 2048)) (λ filter. matches key filter ≡ true)

-- Under a policy that finds what it made a filter of, a key that is added while its block's filter
-- is open is kept, stays so whatever key is added and whatever block begins, and passes at the end.
pub record KeepsKeys (FP : Type 0) (make : FP → List (List ℕ) → List ℕ)
    (matches : FP → List ℕ → List ℕ → Bool) : Type 0 where
  -- after a block begins, the filter for its offset is the open one
  pub opens : (building : FiltersBuilt FP) (offset : ℕ) → 2048 * length building.filters ≤ offset
      → offset / 2048 ≡ length (started (make building.policy) offset building).filters
  -- a key that is added then is kept
  pub adds : (building : FiltersBuilt FP) (offset : ℕ) (key : List ℕ)
      → offset / 2048 ≡ length building.filters
      → IsKeyKept (matches building.policy) building.filters (with_key key building).keys offset key
  -- it stays so whatever key is added
  pub goes_on : (building : FiltersBuilt FP) (offset : ℕ) (key other : List ℕ)
      → IsKeyKept (matches building.policy) building.filters building.keys offset key
      → IsKeyKept (matches building.policy) building.filters
      (with_key other building).keys offset key
  -- and whatever block begins
  pub starts : (building : FiltersBuilt FP) (offset next : ℕ) (key : List ℕ)
      → IsKeyKept (matches building.policy) building.filters building.keys offset key
      → (let more = started (make building.policy) next building in IsKeyKept
      (matches more.policy) more.filters more.keys offset key)
  -- and passes when all filters are made
  pub finishes : (building : FiltersBuilt FP) (offset : ℕ) (key : List ℕ)
      → IsKeyKept (matches building.policy) building.filters building.keys offset key
      → passes (matches building.policy)
      (finished (make building.policy) building.filters building.keys) offset key ≡ true

-- ---- codes of the records above, which a proof needs of a type's model

-- a filter block that is read, as nested pairs of encodable parts
abbrev pub filters_read_code : {FP : Type 0} → Coded FP → Coded (FiltersRead FP)
filters_read_code {FP} c =
    code_by (FP × List (List ℕ)) (coded× c (coded_list (coded_list coded_ℕ)))
    (λ m. (m.policy, m.filters)) (λ p. record { policy = p.0; filters = p.1 }) (λ _. refl)

-- a filter block that is built, as nested pairs of encodable parts
abbrev pub filters_built_code : {FP : Type 0} → Coded FP → Coded (FiltersBuilt FP)
filters_built_code {FP} c =
    code_by (FP × (List (List ℕ) × List (List ℕ)))
    (coded× c (coded× (coded_list (coded_list coded_ℕ)) (coded_list (coded_list coded_ℕ))))
    (λ m. (m.policy, (m.filters, m.keys)))
    (λ p. record { policy = p.0; filters = p.1.0; keys = p.1.1 }) (λ _. refl)

-- the bytes are these texts one after another, each beginning at its offset
pub record AreTexts (bytes offsets : List ℕ) (texts : List (List ℕ)) : Type 0 where
  -- the bytes are the texts one after another
  pub joined : bytes ≡ concat texts
  -- and the offsets are where each begins
  pub placed : offsets ≡ offsets_from 0 texts

-- where each text begins, and where the last one ends
abbrev pub places_from : ℕ → List (List ℕ) → List ℕ
places_from at [] = at ∷ []
places_from at (text ∷ texts) = at ∷ places_from (at + length text) texts

-- the first number is this one
abbrev pub BeginsAt : ℕ → List ℕ → Type 0
BeginsAt at [] = ⊥
BeginsAt at (n ∷ ns) = n ≡ at

-- no number is below the one before it, nor the first below this one
abbrev pub RiseFrom : ℕ → List ℕ → Type 0
RiseFrom at [] = Unit {0}
RiseFrom at (n ∷ ns) = (at ≤ n) × RiseFrom n ns

-- the bytes are the block of these filters, which end at the limit
pub record IsBlockEndingAt (bytes : List ℕ) (limit : ℕ) (filters : List (List ℕ)) : Type 0 where
  -- the bytes are their block
  pub block : IsFilterBlock bytes filters
  -- and the limit is where the offsets follow them
  pub ends : limit ≡ length (concat filters)

-- some filters are held
abbrev pub HasFiltersEndingAt : List ℕ → ℕ → Type 0
HasFiltersEndingAt bytes limit = (filters : List (List ℕ)) × IsBlockEndingAt bytes limit filters

-- what checking a filter block finds: where its filters end, or that it is none
abbrev pub FindsFiltersEnd : List ℕ → Option ℕ → Type 0
FindsFiltersEnd bytes (Some limit) = HasFiltersEndingAt bytes limit
FindsFiltersEnd bytes None = IsNoFilterBlock bytes

-- `count` numbers of four bytes each
abbrev pub numbers : ℕ → List ℕ → List ℕ
numbers zero bytes = []
numbers (suc count) bytes = little_number 4 bytes ∷ numbers count (drop 4 bytes)

-- all numbers of four bytes each
unfoldable pub numbers_in : List ℕ → List ℕ
numbers_in bytes = numbers (length bytes / 4) bytes
