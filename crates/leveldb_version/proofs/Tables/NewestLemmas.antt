-- What the pair that a look-up finds in a table of internal keys says of the key's newest entry.
use Rattle.std.specs.Prelude.{IfSome}
use Rattle.std.proofs.Common.{◌≡◌, ◌⊎◌, inl, inr, ⊎_elim, ℕ, ◌≤◌, Bool, true, false, List, [], ◌∷◌, ◌&&◌, length, Option, None, Some, refl, sym, ◌∙◌, ap, subst, arith, map, nat_le, if◌then◌else◌}
use Rattle.std.proofs.lemmas.Bool.{and_parts}
use Rattle.std.proofs.lemmas.Bool.Decides.{nat_tests}
use Rattle.std.proofs.lemmas.Option.{slice_get_cases}
use Rattle.std.specs.List.{AllByRecursion}
use Rattle.std.specs.Cmp.{IsTotalOrder}
use Rattle.std.specs.Option.{option_map}
use Rattle.std.specs.Ordering.{is_lt}
use Rattle.std.specs.Str.{bytes_eq}
use Rattle.std.specs.declared.cmp.Ordering.{Ordering}
use Rattle.std.specs.declared.cmp.Ordering.TheVariants.{Less}
use Rattle.leveldb_base.proofs.EntriesLemmas.{first_is_newest, internal_is_total}
use Rattle.leveldb_base.proofs.KeyTypesLemmas.{type_part-internal_key}
use Rattle.leveldb_base.proofs.OrderLemmas.{not_lt, same_bytes}
use Rattle.leveldb_base.specs.Cmp.{IsExactOrder, IsPreorderOn, internal_accepts}
use Rattle.leveldb_base.specs.CmpLaws.{internal_preorder, sequence_part-internal_key, user_part-internal_key}
use Rattle.leveldb_base.specs.Entries.{FindsNewest, entries_of_pairs, entry_of_pair, found_at, lookup_of, value_of}
use Rattle.leveldb_base.specs.declared.types.Lookup.{Lookup}
use Rattle.leveldb_base.specs.declared.types.Lookup.TheVariants.{Absent}
use Rattle.leveldb_base.specs.History.{AreRising, Entry, IsBeforeAll}
use Rattle.leveldb_base.specs.KeyTypes.{internal_cmp, sequence_part, type_part, user_part}
use Rattle.leveldb_base.specs.Types.{Pair, count_before, pair_at, position_within}
use Rattle.leveldb_env.specs.Compressor.{Codings}
use Rattle.leveldb_env.specs.FilterBlock.{FiltersRead, passes}
use Rattle.leveldb_table.proofs.TableReaderLemmas.{internal_together, named_line, refused_there}
use Rattle.leveldb_table.proofs.TableReaderWalkLemmas.{first_is, position_in, position_out, seek_none, some_none}
use Rattle.leveldb_table.specs.Block.{KeysRise, RiseAfter}
use Rattle.leveldb_table.specs.Table.{AllPass, Part, first_from, index_pair, named_part}
use Rattle.leveldb_table.specs.TableBuilder.{MatchesByUser}
use Rattle.leveldb_table.specs.TableReader.{HasNoneFrom, HasParts, KeepsUsersTogether, filters_in, found_in, pairs_in}
use Rattle.leveldb_files.specs.Stores.Batches.{Each}
use Rattle.leveldb_files.specs.Stores.Store.{IsInternalPair, any_user_key}

-- A pair that was found, or none, says what pairs have of the user's key of an internal key, at its
-- number. Where there is one, its key has a tag.
pub record SaysNewest (pairs : List Pair) (key : List ℕ) (found : Option Pair) : Type 0 where
  pub newest : FindsNewest (entries_of_pairs pairs) (sequence_part key) (user_part key) (found_at (user_part key) found)
  pub tagged : IfSome found (λ pair. 8 ≤ length pair.0)

-- ---- the first pair, or filters that rule the key out

-- it is the first pair at or after the key; or none, and no pair there has the key's user's key
abbrev pub FindsFirst : (List ℕ → List ℕ → Ordering) → (List ℕ → List ℕ) → List ℕ → List Pair → Option Pair → Type 0
FindsFirst cmp user key pairs found = (found ≡ first_from cmp key pairs) ⊎ ((found ≡ None) × HasNoneFrom cmp user key pairs)

-- where a position within a list has no pair, it is none
no_pair : (pairs : List Pair) (n : ℕ) → pair_at pairs (position_within pairs n) ≡ None → position_within pairs n ≡ None
no_pair pairs n none = ⊎_elim
    (λ there. absurd (some_none (sym there.2 ∙ sym (ap (pair_at pairs) (position_in pairs n there.1)) ∙ none)))
    (λ past. position_out pairs n past.0) (slice_get_cases pairs n).1

module _ {accepts : List ℕ → Bool} {cmp : List ℕ → List ℕ → Ordering} (order : IsPreorderOn accepts cmp) {codings : Codings} {bytes : List ℕ} {parts : List Part} (has : HasParts codings accepts cmp bytes parts) (key : List ℕ)
    (fit : accepts key ≡ true) where
  -- where the index names no block for the key, no pair is at or after it
  none_named : named_part cmp key parts ≡ None → first_from cmp key (pairs_in parts) ≡ None
  none_named none =
      let lines = map index_pair parts in
      let position = seek_none order has.parted has.accepted key fit (no_pair lines (count_before cmp key lines) (named_line cmp key lines parts refl ∙ ap (option_map index_pair) none)) in
      first_is cmp key (pairs_in parts) ∙ ap (pair_at (pairs_in parts)) position

  module _ (user : List ℕ → List ℕ) (lets : ℕ → List ℕ → Bool) (found : Option Pair) (ruled : (part : Part) → named_part cmp key parts ≡ Some part → lets part.handle.offset key ≡ false → HasNoneFrom cmp user key (pairs_in parts)) where
    by_filter : (part : Part) (b : Bool) → named_part cmp key parts ≡ Some part → lets part.handle.offset key ≡ b → found ≡ (if b then first_from cmp key (pairs_in parts) else None) → FindsFirst cmp user key (pairs_in parts) found
    by_filter part true named passed is = inl is
    by_filter part false named passed is = inr (is, ruled part named passed)

    by_name : (named : Option Part) → named_part cmp key parts ≡ named
        → found ≡ elim named [ None ↦ None | Some part ↦ if lets part.handle.offset key then first_from cmp key (pairs_in parts) else None ] → FindsFirst cmp user key (pairs_in parts) found
    by_name None named is = inl (is ∙ sym (none_named named))
    by_name (Some part) named is = by_filter part (lets part.handle.offset key) named refl is

    -- what a look-up finds is the first, or the filters rule the key out
    pub found_first : found ≡ found_in cmp lets key parts → FindsFirst cmp user key (pairs_in parts) found
    found_first is = by_name (named_part cmp key parts) refl is

  -- filters that let pass what they must rule a key out only where it isn't
  pub ruled_out : {FP : Type 0} (user : List ℕ → List ℕ) (matches : FP → List ℕ → List ℕ → Bool) (policy : FP) (filters : Option (FiltersRead FP)) → KeepsUsersTogether accepts cmp user → MatchesByUser user (matches policy)
      → IfSome filters (λ reader. reader.policy ≡ policy) → IfSome (filters_in filters) (λ texts. AllPass (matches policy) user texts parts) → (part : Part) → named_part cmp key parts ≡ Some part
      → elim filters [ None ↦ true | Some reader ↦ passes (matches reader.policy) reader.filters part.handle.offset key ] ≡ false → HasNoneFrom cmp user key (pairs_in parts)
  ruled_out user matches policy None together matched same pass part named stopped = absurd cc
  ruled_out user matches policy (Some reader) together matched same pass part named stopped =
      refused_there order user (matches policy) reader.filters together matched key fit parts part has pass named (subst (λ p. passes (matches p) reader.filters part.handle.offset key ≡ false) same stopped)

-- ---- the newest entry

module _ {cmp : List ℕ → List ℕ → Ordering} (total : IsTotalOrder cmp) where
  before_after : (key last : List ℕ) (pairs : List Pair) → cmp key last ≡ Less → RiseAfter cmp (Some last) pairs → IsBeforeAll cmp key pairs
  before_after key last [] less rise = tt
  before_after key last (pair ∷ pairs) less rise =
      let next = total.trans key last pair.0 less rise.0 in
      (next, before_after key pair.0 pairs next rise.1)

  rising_after : (last : List ℕ) (pairs : List Pair) → RiseAfter cmp (Some last) pairs → IsBeforeAll cmp last pairs × AreRising cmp pairs
  rising_after last [] rise = (tt, tt)
  rising_after last (pair ∷ pairs) rise = ((rise.0, before_after last pair.0 pairs rise.0 rise.1), rising_after pair.0 pairs rise.1)

  -- keys of which each is after the one before it are after all before
  rising_all : (pairs : List Pair) → KeysRise cmp pairs → AreRising cmp pairs
  rising_all [] rise = tt
  rising_all (pair ∷ pairs) rise = rising_after pair.0 pairs rise

-- where no pair at or after the key has its user's key, the first there hasn't
other_user : (cmp : List ℕ → List ℕ → Ordering) (user : List ℕ → List ℕ) (key : List ℕ) (pairs : List Pair) (first : Pair) → HasNoneFrom cmp user key pairs → first_from cmp key pairs ≡ Some first → user first.0 ≡ user key → ⊥
other_user cmp user key [] first none is same = some_none (sym is)
other_user cmp user key (pair ∷ pairs) first none is same = by (λ later. other_user cmp user key pairs first none.1 later same) (is_lt (cmp pair.0 key)) refl is
  where
    by : (first_from cmp key pairs ≡ Some first → ⊥) → (b : Bool) → is_lt (cmp pair.0 key) ≡ b → elim b [ true ↦ first_from cmp key pairs | false ↦ Some pair ] ≡ Some first → ⊥
    by later true less there = later there
    by later false least there = none.0 (not_lt (cmp pair.0 key) least) (ap (λ (z : Pair). user z.0) (let e : pair ≡ first = cc in e) ∙ same)

no_entry : (cmp : List ℕ → List ℕ → Ordering) (key : List ℕ) (pairs : List Pair) (at : Option Pair) → HasNoneFrom cmp user_part key pairs → first_from cmp key pairs ≡ at → found_at (user_part key) at ≡ Absent
no_entry cmp key pairs None none is = refl
no_entry cmp key pairs (Some pair) none is = by (bytes_eq (user_part pair.0) (user_part key)) refl
  where
    by : (b : Bool) → bytes_eq (user_part pair.0) (user_part key) ≡ b → (if b then lookup_of (value_of (type_part pair.0) pair.1) else Absent) ≡ Absent
    by true same = absurd (other_user cmp user_part key pairs pair none is (same_bytes (user_part pair.0) (user_part key) same))
    by false other = refl

-- what a look-up of an internal key finds is what the newest entry of its user's key says
finds_newest : (cmp : List ℕ → List ℕ → Ordering) → IsExactOrder cmp → (key : List ℕ) (pairs : List Pair) (found : Option Pair) → KeysRise (internal_cmp cmp) pairs → FindsFirst (internal_cmp cmp) user_part key pairs found
    → FindsNewest (entries_of_pairs pairs) (sequence_part key) (user_part key) (found_at (user_part key) found)
finds_newest cmp exact key pairs found rise finds =
    let order = internal_cmp cmp in
    let newest = first_is_newest cmp exact pairs (rising_all (internal_is_total cmp exact) pairs rise) key in
    ⊎_elim
    (λ (is : found ≡ first_from order key pairs). says (ap (found_at (user_part key)) (is ∙ first_is order key pairs)) newest)
    (λ (none : (found ≡ None) × HasNoneFrom order user_part key pairs).
    says (ap (found_at (user_part key)) none.0 ∙ sym (no_entry order key pairs (first_from order key pairs) none.1 refl) ∙ ap (found_at (user_part key)) (first_is order key pairs)) newest)
    finds
  where
    says : {these those : Lookup (List ℕ)} → these ≡ those → FindsNewest (entries_of_pairs pairs) (sequence_part key) (user_part key) those → FindsNewest (entries_of_pairs pairs) (sequence_part key) (user_part key) these
    says same newest = subst (FindsNewest (entries_of_pairs pairs) (sequence_part key) (user_part key)) (sym same) newest

-- ---- a key with its tag

tagged_key : (key : List ℕ) → internal_accepts any_user_key key ≡ true → 8 ≤ length key
tagged_key key accepted = let long = (and_parts (nat_le 8 (length key)) (any_user_key (user_part key)) accepted).0 in grind (arith, nat_tests)

pub accepted_key : (key : List ℕ) → 8 ≤ length key → internal_accepts any_user_key key ≡ true
accepted_key key long = let test : nat_le 8 (length key) ≡ true = grind (arith, nat_tests) in ap (λ b. b && true) test

-- the first pair is one of them
first_holds : (cmp : List ℕ → List ℕ → Ordering) (P : Pair → Type 0) (key : List ℕ) (pairs : List Pair) → AllByRecursion P pairs → IfSome (first_from cmp key pairs) P
first_holds cmp P key [] all = tt
first_holds cmp P key (pair ∷ pairs) all = by (is_lt (cmp pair.0 key)) (first_holds cmp P key pairs all.1)
  where
    by : (b : Bool) → IfSome (first_from cmp key pairs) P → IfSome (elim b [ true ↦ first_from cmp key pairs | false ↦ Some pair ]) P
    by true later = later
    by false later = all.0

some_holds : (P Q : Pair → Type 0) → ((pair : Pair) → P pair → Q pair) → (found : Option Pair) → IfSome found P → IfSome found Q
some_holds P Q so None is = tt
some_holds P Q so (Some pair) is = so pair is

tagged_found : (cmp : List ℕ → List ℕ → Ordering) (key : List ℕ) (pairs : List Pair) (found : Option Pair) → AllByRecursion (λ pair. internal_accepts any_user_key pair.0 ≡ true) pairs → FindsFirst cmp user_part key pairs found
    → IfSome found (λ pair. 8 ≤ length pair.0)
tagged_found cmp key pairs found all (inl is) =
    let Accepted : Pair → Type 0 = λ pair. internal_accepts any_user_key pair.0 ≡ true in
    some_holds Accepted (λ pair. 8 ≤ length pair.0) (λ pair accepted. tagged_key pair.0 accepted) found (subst (λ o. IfSome o Accepted) (sym is) (first_holds cmp Accepted key pairs all))
tagged_found cmp key pairs found all (inr none) = subst (λ o. IfSome o (λ (pair : Pair). 8 ≤ length pair.0)) (sym none.0) tt

module _ {cmp : List ℕ → List ℕ → Ordering} (exact : IsExactOrder cmp) where
  pub store_order : IsPreorderOn (internal_accepts any_user_key) (internal_cmp cmp)
  store_order = internal_preorder exact.preorder

  -- what is found in the parts of a store's table
  pub says_newest : {codings : Codings} {bytes : List ℕ} {parts : List Part} → HasParts codings (internal_accepts any_user_key) (internal_cmp cmp) bytes parts → {FP : Type 0} (matches : FP → List ℕ → List ℕ → Bool) (policy : FP)
      (filters : Option (FiltersRead FP)) → IfSome filters (λ reader. reader.policy ≡ policy) → IfSome (filters_in filters) (λ texts. AllPass (λ key. matches policy (user_part key)) user_part texts parts) → (key : List ℕ) → 8 ≤ length key → (found : Option Pair)
      → found ≡ found_in (internal_cmp cmp) (λ offset sought. elim filters [ None ↦ true | Some reader ↦ passes (λ key. matches reader.policy (user_part key)) reader.filters offset sought ]) key parts
      → SaysNewest (pairs_in parts) key found
  says_newest {parts = parts} has {FP} matches policy filters same pass key long found is =
      let fit = accepted_key key long in
      let lets : ℕ → List ℕ → Bool = λ offset sought. elim filters [ None ↦ true | Some reader ↦ passes (λ key. matches reader.policy (user_part key)) reader.filters offset sought ] in
      let together : KeepsUsersTogether (internal_accepts any_user_key) (internal_cmp cmp) user_part = internal_together exact.preorder exact.exact in
      let first = found_first store_order has key fit user_part lets found
      (λ part named stopped. ruled_out store_order has key fit user_part (λ (p : FP) key. matches p (user_part key)) policy filters together (λ one other filter e. ap (λ z. matches policy z filter) e) same pass part named stopped) is in
      record {
        newest = finds_newest cmp exact key (pairs_in parts) found has.sorted first;
        tagged = tagged_found (internal_cmp cmp) key (pairs_in parts) found has.accepted.pairs first;
      }

-- ---- the entries of pairs

entry_is : (pair : Pair) (entry : Entry) → IsInternalPair pair entry → entry_of_pair pair ≡ entry
entry_is pair entry is =
    let number = ap sequence_part is.key ∙ sequence_part-internal_key entry.key entry.sequence is.kind is.fits in
    let key = ap user_part is.key ∙ user_part-internal_key entry.key entry.sequence is.kind in
    let kind = ap type_part is.key ∙ type_part-internal_key entry.key entry.sequence is.kind is.fits in
    let value = ap (λ k. value_of k pair.1) kind ∙ sym is.value in
    λ i. record { sequence = number i; key = key i; value = value i }

pub entries_are : (pairs : List Pair) (entries : List Entry) → Each IsInternalPair pairs entries → entries_of_pairs pairs ≡ entries
entries_are [] [] each = refl
entries_are [] (entry ∷ entries) each = absurd each
entries_are (pair ∷ pairs) [] each = absurd each
entries_are (pair ∷ pairs) (entry ∷ entries) each =
    let head = entry_is pair entry each.0 in
    let rest = entries_are pairs entries each.1 in
    λ i. head i ∷ rest i
