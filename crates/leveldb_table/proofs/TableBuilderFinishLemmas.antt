-- The data blocks of a table that ends: each index key parts its block's keys from the next
-- block's, and each key passes the filters.
use Rattle.std.proofs.Common.{◌≡◌, ◌≢◌, ℕ, zero, suc, Bool, true, List, [], ◌∷◌, ◌++◌, flat_map, Option, codes, refl, sym, ◌∙◌, ap, subst, None, Some, ◌+◌, length, map, arith, append_assoc, length-append, ◌⊎◌, ⊎_elim, Result, Ok, Err, inl, inr}
use Rattle.std.proofs.lemmas.List.{append-nil, append_cancel_left}
use Rattle.std.specs.List.{AllByRecursion}
use Rattle.std.specs.Option.{option_map_or}
use Rattle.std.specs.declared.cmp.Ordering.{Ordering}
use Rattle.std.specs.declared.cmp.Ordering.TheVariants.{Less, Equal, Greater}
use Rattle.std.specs.Prelude.{IfSome, ◌/◌, IfErr, IsErr, IsErrAnd, IsSomeAnd}
use Rattle.leveldb_base.specs.Cmp.{IsPreorderOn, IsSeparator, IsSuccessor}
use Rattle.leveldb_base.specs.CmpLaws.{itself_equal}
use Rattle.leveldb_base.specs.Types.{Pair}
use Rattle.leveldb_base.specs.BlockHandle.{Handle, handle_bytes}
use Rattle.leveldb_base.specs.declared.cmp.Cmp.{Ghosts as CmpGhosts}
use Rattle.leveldb_base.specs.declared.error.Status.{Status}
use Rattle.leveldb_env.specs.FilterBlock.{FiltersBuilt, with_filters, IsKeyKept, KeepsKeys, finished, passes}
use Rattle.leveldb_env.specs.Compressor.{Codings, Decodes, Coding, IsEncodeError, IsUnset, decoded_under}
use Rattle.leveldb_env.specs.Sink.{PutsAll}
use Rattle.leveldb_env.specs.declared.filter.FilterPolicy.{Ghosts as PolicyGhosts}
use Rattle.leveldb_table.specs.Block.{RiseAfter, KeysRise, IsBlock}
use Rattle.leveldb_table.specs.BlockBuilder.{last_added, block_made}
use Rattle.leveldb_table.specs.Table.{Part, IsPart, IsAtOrAfterAll, IsBeforeAll, AreParted, PartPasses, AllPass, filter_key, StoresAt, IsStoredUnder, with_trailer, index_pair, AreLinked, blocks_len, keys_for, filters_before, filters_for, HasFiltersAt, FiltersHold, HasTableBlocks, IsWritten}
use Rattle.leveldb_table.specs.TableBuilderStage.{Stage, first_key, AreSeparated, KeepsAll, IsLaidOut, IsSound}
use Rattle.leveldb_table.specs.TableBuilder.{TableBuilt, stage, last_of, IsBegun, PutsEnd, SeparatesUsers, MatchesByUser, IsEnd, IsPlaced, IsMeaningOf, AreMade, BuildsTable, IsBuiltTable, IsLast}
use Rattle.leveldb_table.specs.Footer.{footer_bytes}
use Rattle.leveldb_table.specs.PutBlock.{PutsBlock, IsNoMetaindex, StopsFrom}
use Rattle.leveldb_table.specs.TableBuilderFinish.{IsRest, StopsFromFilters, StopsFromMetaindex, StopsFromIndex, StopsUnset}
use Rattle.leveldb_table.proofs.TableLemmas.{all_left, all_right, all_with, last_after, last_holds, reaches, all_append, turned_from}
use Rattle.leveldb_table.proofs.FooterLemmas.{length-footer_bytes}
use Rattle.leveldb_table.proofs.TableBuilderStageLemmas.{laid_closed, last_open, part_more, made_more, under_more}

-- ---- some pairs, and more of them

some_left : (xs ys : List Pair) → xs ≢ [] → xs ++ ys ≢ []
some_left [] ys some e = absurd (some refl)
some_left (x ∷ xs) ys some e = cc

last_right : (xs ys : List Pair) → ys ≢ [] → last_added (xs ++ ys) ≡ last_added ys
last_right xs [] some = absurd (some refl)
last_right xs (first ∷ ys) some = last_after xs first ys

last_has : (P : List ℕ → Type 0) (pairs : List Pair) → pairs ≢ [] → AllByRecursion (λ pair. P pair.0) pairs → P (last_added pairs)
last_has P [] some h = absurd (some refl)
last_has P (first ∷ pairs) some h = last_holds P first pairs h

first_has : (P : List ℕ → Type 0) (pairs : List Pair) → pairs ≢ [] → AllByRecursion (λ pair. P pair.0) pairs → P (first_key pairs)
first_has P [] some h = absurd (some refl)
first_has P (first ∷ pairs) some h = h.0

-- ---- keys that rise

module _ (cmp : List ℕ → List ℕ → Ordering) where
  rise_free : (key : List ℕ) (pairs : List Pair) → RiseAfter cmp (Some key) pairs → KeysRise cmp pairs
  rise_free key [] h = tt
  rise_free key (pair ∷ pairs) h = h.1

  rise_right : (xs ys : List Pair) → KeysRise cmp (xs ++ ys) → KeysRise cmp ys
  rise_right [] ys h = h
  rise_right (x ∷ xs) ys h = rise_right xs ys (rise_free x.0 (xs ++ ys) h)

  left_after : (key : List ℕ) (xs ys : List Pair) → RiseAfter cmp (Some key) (xs ++ ys) → RiseAfter cmp (Some key) xs
  left_after key [] ys h = tt
  left_after key (x ∷ xs) ys h = (h.0, left_after x.0 xs ys h.1)

  rise_left : (xs ys : List Pair) → KeysRise cmp (xs ++ ys) → KeysRise cmp xs
  rise_left [] ys h = tt
  rise_left (x ∷ xs) ys h = left_after x.0 xs ys h

  next_after : (first : Pair) (xs : List Pair) (next : Pair) (ys : List Pair) → RiseAfter cmp (Some first.0) (xs ++ next ∷ ys) → cmp (last_added (first ∷ xs)) next.0 ≡ Less
  next_after first [] next ys h = h.0
  next_after first (x ∷ xs) next ys h = next_after x xs next ys h.1

  -- the last of some keys is before the first of those that follow
  rise_between : (xs ys zs : List Pair) → xs ≢ [] → ys ≢ [] → KeysRise cmp (xs ++ (ys ++ zs)) → cmp (last_added xs) (first_key ys) ≡ Less
  rise_between [] ys zs some others h = absurd (some refl)
  rise_between (first ∷ xs) [] zs some others h = absurd (others refl)
  rise_between (first ∷ xs) (next ∷ ys) zs some others h = next_after first xs next (ys ++ zs) h

module _ {accepts : List ℕ → Bool} {cmp : List ℕ → List ℕ → Ordering} (order : IsPreorderOn accepts cmp) where
  up_to_after : (key : List ℕ) (first : Pair) (pairs : List Pair) → accepts key ≡ true → AllByRecursion (λ pair. accepts pair.0 ≡ true) (first ∷ pairs) → RiseAfter cmp (Some first.0) pairs
      → cmp key (last_added (first ∷ pairs)) ≢ Less → IsAtOrAfterAll cmp key (first ∷ pairs)
  up_to_after key first [] hk all h e = (e, tt)
  up_to_after key first (next ∷ pairs) hk all h e = (
    (λ less. e (order.less key first.0 (last_added (next ∷ pairs)) hk all.0 (last_holds (λ k. accepts k ≡ true) next pairs all.1) less (reaches order first.0 next pairs all.0 all.1 h))),
    up_to_after key next pairs hk all.1 h.1 e,
  )

  -- what isn't before the last of keys that rise isn't before any
  pub up_to : (key : List ℕ) (pairs : List Pair) → accepts key ≡ true → AllByRecursion (λ pair. accepts pair.0 ≡ true) pairs → KeysRise cmp pairs → cmp key (last_added pairs) ≢ Less → IsAtOrAfterAll cmp key pairs
  up_to key [] hk all h e = tt
  up_to key (first ∷ pairs) hk all h e = up_to_after key first pairs hk all h e

  before_all_rest : (key : List ℕ) (first : Pair) (pairs : List Pair) → accepts key ≡ true → AllByRecursion (λ pair. accepts pair.0 ≡ true) (first ∷ pairs) → RiseAfter cmp (Some first.0) pairs
      → cmp key first.0 ≡ Less → IsBeforeAll cmp key (first ∷ pairs)
  before_all_rest key first [] hk all h e = (e, tt)
  before_all_rest key first (next ∷ pairs) hk all h e = (e, before_all_rest key next pairs hk all.1 h.1 (order.less key first.0 next.0 hk all.0 all.1.0 e h.0))

  -- what is before the first of keys that rise is before all
  pub before_all : (key : List ℕ) (pairs : List Pair) → accepts key ≡ true → AllByRecursion (λ pair. accepts pair.0 ≡ true) pairs → KeysRise cmp pairs → cmp key (first_key pairs) ≡ Less → IsBeforeAll cmp key pairs
  before_all key [] hk all h e = tt
  before_all key (first ∷ pairs) hk all h e = before_all_rest key first pairs hk all h e

less_not_greater : (r : Ordering) → r ≡ Less → r ≢ Greater
less_not_greater r e f = cc

-- ---- data blocks

-- Data blocks with keys that rise: each index key is a separator of what is at both sides of it,
-- where a key at or after all is after the last.
pub record AreClosed (accepts : List ℕ → Bool) (cmp : List ℕ → List ℕ → Ordering) (sep : List ℕ → List ℕ → List ℕ) (parts : List Part) (next : List ℕ) : Type 0 where
  pub separated : AreSeparated sep parts next
  pub some : AllByRecursion (λ part. part.pairs ≢ []) parts
  pub rise : KeysRise cmp (flat_map (λ part. part.pairs) parts)
  pub accepted : AllByRecursion (λ pair. accepts pair.0 ≡ true) (flat_map (λ part. part.pairs) parts)
  pub next_accepted : parts ≢ [] → accepts next ≡ true
  pub after : parts ≢ [] → cmp (last_added (flat_map (λ part. part.pairs) parts)) next ≢ Greater

some_parts : (part : Part) (parts : List Part) → part ∷ parts ≢ []
some_parts part parts e = cc

-- after the first block
closed_rest : {accepts : List ℕ → Bool} {cmp : List ℕ → List ℕ → Ordering} {sep : List ℕ → List ℕ → List ℕ} (part other : Part) (parts : List Part) (next : List ℕ)
    → AreClosed accepts cmp sep (part ∷ other ∷ parts) next → AreClosed accepts cmp sep (other ∷ parts) next
closed_rest {accepts} {cmp} part other parts next closed =
    let rest = flat_map (λ (part : Part). part.pairs) (other ∷ parts) in
    let last : last_added (part.pairs ++ rest) ≡ last_added rest = last_right part.pairs rest (some_left other.pairs (flat_map (λ (part : Part). part.pairs) parts) closed.some.1.0) in
    record {
      separated = closed.separated.1;
      some = closed.some.1;
      rise = rise_right cmp part.pairs rest closed.rise;
      accepted = all_right (λ pair. accepts pair.0 ≡ true) part.pairs rest closed.accepted;
      next_accepted = λ _. closed.next_accepted (some_parts part (other ∷ parts));
      after = λ _. subst (λ key. cmp key next ≢ Greater) last (closed.after (some_parts part (other ∷ parts)));
    }

parts_some : (parts : List Part) → parts ≢ [] → AllByRecursion (λ part. part.pairs ≢ []) parts → flat_map (λ (part : Part). part.pairs) parts ≢ []
parts_some [] some each = absurd (some refl)
parts_some (part ∷ parts) some each = some_left part.pairs (flat_map (λ (part : Part). part.pairs) parts) each.0

-- what is laid out with no block open is all in the blocks
module _ {FP : Type 0} (Decodes : ℕ → List ℕ → List ℕ → Type 0) (accepts : List ℕ → Bool) (cmp : List ℕ → List ℕ → Ordering) (sep : List ℕ → List ℕ → List ℕ) (matches : List ℕ → List ℕ → Bool)
    (make : List (List ℕ) → List ℕ) (id : ℕ) (stage : Stage FP) (next written : List ℕ) (pairs : List Pair) (none : stage.open_pairs ≡ []) (laid : IsLaidOut Decodes accepts cmp sep matches make id stage next written pairs) where
  pub laid_pairs : pairs ≡ flat_map (λ (part : Part). part.pairs) laid.parts
  laid_pairs = laid.pairs_are ∙ ap (λ z. flat_map (λ (part : Part). part.pairs) laid.parts ++ z) none ∙ append-nil (flat_map (λ (part : Part). part.pairs) laid.parts)

  pub laid_closed_parts : (pairs ≢ [] → accepts next ≡ true) → (pairs ≢ [] → cmp (last_added pairs) next ≢ Greater) → AreClosed accepts cmp sep laid.parts next
  laid_closed_parts accepted after =
      let each = all_with (IsPart Decodes cmp written) (λ part. part.pairs ≢ []) (λ part there. there.some) laid.parts laid.each in
      let some : laid.parts ≢ [] → pairs ≢ [] = λ more e. parts_some laid.parts more each (sym laid_pairs ∙ e) in
      record {
        separated = laid.separated;
        some = each;
        rise = subst (KeysRise cmp) laid_pairs laid.sorted;
        accepted = subst (AllByRecursion (λ pair. accepts pair.0 ≡ true)) laid_pairs laid.accepted;
        next_accepted = λ more. accepted (some more);
        after = λ more. subst (λ all. cmp (last_added all) next ≢ Greater) laid_pairs (after (some more));
      }

module _ {accepts : List ℕ → Bool} {cmp : List ℕ → List ℕ → Ordering} (order : IsPreorderOn accepts cmp) (sep : List ℕ → List ℕ → List ℕ)
    (separates : (a b : List ℕ) → accepts a ≡ true → accepts b ≡ true → cmp a b ≢ Greater → IsSeparator accepts cmp a b (sep a b)) where
  -- a block's keys are up to the separator of its last key and what isn't before that
  line_from : (pairs : List Pair) (next key : List ℕ) → pairs ≢ [] → KeysRise cmp pairs → AllByRecursion (λ pair. accepts pair.0 ≡ true) pairs → accepts next ≡ true → cmp (last_added pairs) next ≢ Greater
      → key ≡ sep (last_added pairs) next → IsAtOrAfterAll cmp key pairs
  line_from pairs next key some rise all hn after e =
      let between = separates (last_added pairs) next (last_has (λ k. accepts k ≡ true) pairs some all) hn after in
      subst (λ k. IsAtOrAfterAll cmp k pairs) (sym e) (up_to order (sep (last_added pairs) next) pairs between.accepted all rise between.from)

  -- the keys after are after it
  line_before : (last key : List ℕ) (pairs : List Pair) → accepts last ≡ true → pairs ≢ [] → KeysRise cmp pairs → AllByRecursion (λ pair. accepts pair.0 ≡ true) pairs → cmp last (first_key pairs) ≡ Less
      → key ≡ sep last (first_key pairs) → IsBeforeAll cmp key pairs
  line_before last key pairs hl some rise all less e =
      let between = separates last (first_key pairs) hl (first_has (λ k. accepts k ≡ true) pairs some all) (less_not_greater (cmp last (first_key pairs)) less) in
      subst (λ k. IsBeforeAll cmp k pairs) (sym e) (before_all order (sep last (first_key pairs)) pairs between.accepted all rise (between.before less))

  -- index keys that are separators part the blocks
  pub parted : (parts : List Part) (next : List ℕ) → AreClosed accepts cmp sep parts next → AreParted cmp parts
  parted [] next closed = tt
  parted (part ∷ []) next closed =
      line_from part.pairs next part.index_key closed.some.0 (rise_left cmp part.pairs [] closed.rise) (all_left (λ pair. accepts pair.0 ≡ true) part.pairs [] closed.accepted)
      (closed.next_accepted (some_parts part [])) (subst (λ pairs. cmp (last_added pairs) next ≢ Greater) (append-nil part.pairs) (closed.after (some_parts part []))) closed.separated
  parted (part ∷ other ∷ parts) next closed =
      let P : Pair → Type 0 = λ pair. accepts pair.0 ≡ true in
      let after = flat_map (λ (part : Part). part.pairs) parts in
      let own = all_left P part.pairs (other.pairs ++ after) closed.accepted in
      let others = all_left P other.pairs after (all_right P part.pairs (other.pairs ++ after) closed.accepted) in
      let less = rise_between cmp part.pairs other.pairs after closed.some.0 closed.some.1.0 closed.rise in (
        line_from part.pairs (first_key other.pairs) part.index_key closed.some.0 (rise_left cmp part.pairs (other.pairs ++ after) closed.rise) own
            (first_has (λ k. accepts k ≡ true) other.pairs closed.some.1.0 others) (less_not_greater (cmp (last_added part.pairs) (first_key other.pairs)) less) closed.separated.0,
        line_before (last_added part.pairs) part.index_key other.pairs (last_has (λ k. accepts k ≡ true) part.pairs closed.some.0 own) closed.some.1.0
            (rise_left cmp other.pairs after (rise_right cmp part.pairs (other.pairs ++ after) closed.rise)) others less closed.separated.0,
        parted (other ∷ parts) next (closed_rest part other parts next closed),
      )

  line_accepted : (pairs : List Pair) (next key : List ℕ) → pairs ≢ [] → AllByRecursion (λ pair. accepts pair.0 ≡ true) pairs → accepts next ≡ true → cmp (last_added pairs) next ≢ Greater → key ≡ sep (last_added pairs) next
      → accepts key ≡ true
  line_accepted pairs next key some all hn after e =
      subst (λ k. accepts k ≡ true) (sym e) (separates (last_added pairs) next (last_has (λ k. accepts k ≡ true) pairs some all) hn after).accepted

  -- and are accepted
  pub lines_accepted : (parts : List Part) (next : List ℕ) → AreClosed accepts cmp sep parts next → AllByRecursion (λ part. accepts part.index_key ≡ true) parts
  lines_accepted [] next closed = tt
  lines_accepted (part ∷ []) next closed = (
    line_accepted part.pairs next part.index_key closed.some.0 (all_left (λ pair. accepts pair.0 ≡ true) part.pairs [] closed.accepted) (closed.next_accepted (some_parts part []))
        (subst (λ pairs. cmp (last_added pairs) next ≢ Greater) (append-nil part.pairs) (closed.after (some_parts part []))) closed.separated,
    tt,
  )
  lines_accepted (part ∷ other ∷ parts) next closed =
      let P : Pair → Type 0 = λ pair. accepts pair.0 ≡ true in
      let after = flat_map (λ (part : Part). part.pairs) parts in
      let others = all_left P other.pairs after (all_right P part.pairs (other.pairs ++ after) closed.accepted) in (
        line_accepted part.pairs (first_key other.pairs) part.index_key closed.some.0 (all_left P part.pairs (other.pairs ++ after) closed.accepted)
            (first_has (λ k. accepts k ≡ true) other.pairs closed.some.1.0 others)
            (less_not_greater (cmp (last_added part.pairs) (first_key other.pairs)) (rise_between cmp part.pairs other.pairs after closed.some.0 closed.some.1.0 closed.rise)) closed.separated.0,
        lines_accepted (other ∷ parts) next (closed_rest part other parts next closed),
      )

-- the key after the last block may be told otherwise where there is a block
pub separated_last : (sep : List ℕ → List ℕ → List ℕ) (parts : List Part) (next other : List ℕ) → (parts ≢ [] → next ≡ other) → AreSeparated sep parts next → AreSeparated sep parts other
separated_last sep [] next other e h = tt
separated_last sep (part ∷ parts) next other e h = subst (AreSeparated sep (part ∷ parts)) (e (some_parts part parts)) h

-- ---- filters

-- what is kept for an offset passes there at the end
module _ {FP : Type 0} (make : FP → List (List ℕ) → List ℕ) (matches : FP → List ℕ → List ℕ → Bool) (keeps : KeepsKeys FP make matches) (building : FiltersBuilt FP) where
  pub part_passes : (offset : ℕ) (pairs : List Pair) → KeepsAll (matches building.policy) building offset pairs
      → PartPasses (matches building.policy) (finished (make building.policy) building.filters building.keys) offset pairs
  part_passes offset pairs =
      all_with (λ pair. IsKeyKept (matches building.policy) building.filters building.keys offset pair.0)
      (λ pair. passes (matches building.policy) (finished (make building.policy) building.filters building.keys) offset pair.0 ≡ true) (λ pair. keeps.finishes building offset pair.0) pairs

  pub parts_pass : (parts : List Part) → AllByRecursion (λ part. KeepsAll (matches building.policy) building part.handle.offset part.pairs) parts
      → AllByRecursion (λ part. PartPasses (matches building.policy) (finished (make building.policy) building.filters building.keys) part.handle.offset part.pairs) parts
  parts_pass parts =
      all_with (λ part. KeepsAll (matches building.policy) building part.handle.offset part.pairs)
      (λ part. PartPasses (matches building.policy) (finished (make building.policy) building.filters building.keys) part.handle.offset part.pairs) (λ part. part_passes part.handle.offset part.pairs) parts

-- policies have names of their own in the metaindex
pub filter_key_injective : (a b : List ℕ) → filter_key a ≡ filter_key b → a ≡ b
filter_key_injective a b = append_cancel_left (codes "filter.") a b

all_both : {X : Type 0} (P Q R : X → Type 0) → ((x : X) → P x → Q x → R x) → (xs : List X) → AllByRecursion P xs → AllByRecursion Q xs → AllByRecursion R xs
all_both P Q R f [] h k = tt
all_both P Q R f (x ∷ xs) h k = (f x h.0 k.0, all_both P Q R f xs h.1 k.1)

known_alike : (test other : List ℕ → Bool) → ((filter : List ℕ) → test filter ≡ other filter) → (found : Option (List ℕ)) → option_map_or test found true ≡ option_map_or other found true
known_alike test other same None = refl
known_alike test other same (Some filter) = same filter

equal_not_greater : (r : Ordering) → r ≡ Equal → r ≢ Greater
equal_not_greater r e f = cc

module _ {accepts : List ℕ → Bool} {cmp : List ℕ → List ℕ → Ordering} (order : IsPreorderOn accepts cmp) where
  -- of keys that rise none is before the first
  from_first : (pairs : List Pair) → AllByRecursion (λ pair. accepts pair.0 ≡ true) pairs → KeysRise cmp pairs → AllByRecursion (λ pair. cmp (first_key pairs) pair.0 ≢ Greater) pairs
  from_first [] all h = tt
  from_first (first ∷ []) all h = (equal_not_greater (cmp first.0 first.0) (itself_equal order first.0 all.0), tt)
  from_first (first ∷ next ∷ pairs) all h = (
    equal_not_greater (cmp first.0 first.0) (itself_equal order first.0 all.0),
    all_with (λ pair. cmp first.0 pair.0 ≡ Less) (λ pair. cmp first.0 pair.0 ≢ Greater) (λ pair. less_not_greater (cmp first.0 pair.0)) (next ∷ pairs) (before_all_rest order first.0 next pairs all.0 all.1 h.1 h.0),
  )

  module _ (sep : List ℕ → List ℕ → List ℕ) (user : List ℕ → List ℕ) (matches : List ℕ → List ℕ → Bool) (filters : List (List ℕ)) (separates : SeparatesUsers accepts cmp sep user) (outcome : MatchesByUser user matches) where
    -- where a key after the separator has its user's key, it passes as the last key before does
    next_passes : (offset : ℕ) (last key : List ℕ) (pairs : List Pair) → accepts last ≡ true → pairs ≢ [] → AllByRecursion (λ pair. accepts pair.0 ≡ true) pairs → KeysRise cmp pairs → cmp last (first_key pairs) ≡ Less
        → key ≡ sep last (first_key pairs) → passes matches filters offset last ≡ true → AllByRecursion (λ pair. user pair.0 ≡ user key → passes matches filters offset pair.0 ≡ true) pairs
    next_passes offset last key pairs hl some all rise less e passed =
        all_both (λ pair. accepts pair.0 ≡ true) (λ pair. cmp (first_key pairs) pair.0 ≢ Greater) (λ pair. user pair.0 ≡ user key → passes matches filters offset pair.0 ≡ true)
        (λ pair hp after same.
        let own = separates last (first_key pairs) pair.0 hl (first_has (λ k. accepts k ≡ true) pairs some all) hp less after (same ∙ ap user e) in
        known_alike (matches pair.0) (matches last) (λ filter. outcome pair.0 last filter (sym own)) _ ∙ passed) pairs all (from_first pairs all rise)

    -- each key passes where a look-up may be led
    pub all_pass : (parts : List Part) (next : List ℕ) → AreClosed accepts cmp sep parts next → AllByRecursion (λ part. PartPasses matches filters part.handle.offset part.pairs) parts → AllPass matches user filters parts
    all_pass [] next closed pass = tt
    all_pass (part ∷ []) next closed pass = pass.0
    all_pass (part ∷ other ∷ parts) next closed pass =
        let P : Pair → Type 0 = λ pair. accepts pair.0 ≡ true in
        let after = flat_map (λ (part : Part). part.pairs) parts in (
          pass.0,
          next_passes part.handle.offset (last_added part.pairs) part.index_key other.pairs
              (last_has (λ k. accepts k ≡ true) part.pairs closed.some.0 (all_left P part.pairs (other.pairs ++ after) closed.accepted)) closed.some.1.0
              (all_left P other.pairs after (all_right P part.pairs (other.pairs ++ after) closed.accepted)) (rise_left cmp other.pairs after (rise_right cmp part.pairs (other.pairs ++ after) closed.rise))
              (rise_between cmp part.pairs other.pairs after closed.some.0 closed.some.1.0 closed.rise) closed.separated.0
              (last_has (λ k. passes matches filters part.handle.offset k ≡ true) part.pairs closed.some.0 pass.0),
          all_pass (other ∷ parts) next (closed_rest part other parts next closed) pass.1,
        )

-- A table's end: what is put after the data blocks makes a table of them.

-- ---- blocks one after the other

linked_append : (offset : ℕ) (handles others : List Handle) → AreLinked offset handles → AreLinked (offset + blocks_len handles) others → AreLinked offset (handles ++ others)
linked_append offset [] others h k = subst (λ at. AreLinked at others) (let none : offset + 0 ≡ offset = omega arith in none) k
linked_append offset (handle ∷ handles) others h k =
    let same : offset + (handle.size + 5 + blocks_len handles) ≡ offset + handle.size + 5 + blocks_len handles = omega arith in
    (h.0, linked_append (offset + handle.size + 5) handles others h.1 (subst (λ at. AreLinked at others) same k))

blocks_append : (handles others : List Handle) → blocks_len (handles ++ others) ≡ blocks_len handles + blocks_len others
blocks_append [] others = omega arith
blocks_append (handle ∷ handles) others = let rest = blocks_append handles others in omega (arith, rest)

-- ---- a block at its position

stores_at : (file front after stored : List ℕ) (handle : Handle) (id offset : ℕ) → file ≡ front ++ (with_trailer id stored ++ after) → length front ≡ offset → IsPlaced offset stored handle → StoresAt file handle id stored
stores_at file front after stored handle id offset whole here placed = record {
  before = front;
  after = after;
  whole = whole;
  offset = here ∙ sym placed.0;
  size = sym placed.1;
  fits = placed.2;
}

after_block : (front stored : List ℕ) (handle : Handle) (id offset : ℕ) → length front ≡ offset → IsPlaced offset stored handle → length (front ++ with_trailer id stored) ≡ handle.offset + handle.size + 5
after_block front stored handle id offset here placed =
    let size : length (with_trailer id stored) ≡ length stored + 5 = length-append stored _ in
    omega (arith, length-append front (with_trailer id stored), size, here, placed.0, placed.1)

some_lines : (lines : List Pair) (parts : List Part) (pairs : List Pair) → lines ≡ map index_pair parts → pairs ≡ flat_map (λ part. part.pairs) parts → pairs ≢ [] → lines ≢ []
some_lines lines [] pairs e f some g = absurd (some f)
some_lines lines (part ∷ parts) pairs e f some g = absurd (omega (arith, ap length (sym g ∙ e)))

lines_some : (lines : List Pair) (parts : List Part) → lines ≡ map index_pair parts → parts ≢ [] → lines ≢ []
lines_some lines [] e some g = absurd (some refl)
lines_some lines (part ∷ parts) e some g = absurd (omega (arith, ap length (sym g ∙ e)))

all_map : {X Y : Type 0} (f : X → Y) (P : Y → Type 0) (xs : List X) → AllByRecursion (λ x. P (f x)) xs → AllByRecursion P (map f xs)
all_map f P [] h = tt
all_map f P (x ∷ xs) h = (h.0, all_map f P xs h.1)

IfSome-with : {X : Type 0} (found : Option X) (P Q : X → Type 0) → ((x : X) → P x → Q x) → IfSome found P → IfSome found Q
IfSome-with None P Q f h = tt
IfSome-with (Some x) P Q f h = f x h

-- a successor of the last of some keys is at or after them
pub succeeds_last : {accepts : List ℕ → Bool} {cmp : List ℕ → List ℕ → Ordering} → IsPreorderOn accepts cmp → (succ : List ℕ → List ℕ) → ((key : List ℕ) → accepts key ≡ true → IsSuccessor accepts cmp key (succ key))
    → (lines open_pairs : List Pair) → open_pairs ≢ [] → AllByRecursion (λ pair. accepts pair.0 ≡ true) (lines ++ open_pairs)
    → (accepts (succ (last_added open_pairs)) ≡ true) × (cmp (last_added open_pairs) (succ (last_added open_pairs)) ≢ Greater)
succeeds_last order succ succeeds lines [] some all = absurd (some refl)
succeeds_last {accepts} order succ succeeds lines (first ∷ pairs) some all =
    let last = last_added (first ∷ pairs) in
    let own = last_holds (λ key. accepts key ≡ true) first pairs (all_right (λ pair. accepts pair.0 ≡ true) lines (first ∷ pairs) all) in
    let is = succeeds last own in
    (is.accepted, turned_from order last (succ last) own is.accepted is.from)

-- ---- the table

module _ {FP : Type 0} (codings : Codings) (accepts : List ℕ → Bool) (cmp : List ℕ → List ℕ → Ordering) (sep : List ℕ → List ℕ → List ℕ) (make : FP → List (List ℕ) → List ℕ) (matches : FP → List ℕ → List ℕ → Bool)
    (policy : FP) (id : ℕ) (name : List ℕ) (stage : Stage FP) (next written bytes : List ℕ) (pairs : List Pair) (size : ℕ)
    (laid : IsLaidOut (Decodes codings) accepts cmp sep (matches policy) (make policy) id stage next written pairs) (end : IsEnd (Decodes codings) cmp (make policy) id name stage bytes size) where
  abbrev filters_end : List ℕ
  filters_end = written ++ with_trailer 0 end.filters

  abbrev meta_end : List ℕ
  meta_end = filters_end ++ with_trailer id end.meta_stored

  abbrev index_end : List ℕ
  index_end = meta_end ++ with_trailer id end.index_stored

  abbrev footer : List ℕ
  footer = footer_bytes end.meta end.index

  -- the file in parts
  from_filters : written ++ bytes ≡ written ++ (with_trailer 0 end.filters ++ (with_trailer id end.meta_stored ++ (with_trailer id end.index_stored ++ footer)))
  from_filters = ap (λ z. written ++ z) end.encoded

  from_meta : written ++ bytes ≡ filters_end ++ (with_trailer id end.meta_stored ++ (with_trailer id end.index_stored ++ footer))
  from_meta = from_filters ∙ sym (append_assoc written (with_trailer 0 end.filters) (with_trailer id end.meta_stored ++ (with_trailer id end.index_stored ++ footer)))

  from_index : written ++ bytes ≡ meta_end ++ (with_trailer id end.index_stored ++ footer)
  from_index = from_meta ∙ sym (append_assoc filters_end (with_trailer id end.meta_stored) (with_trailer id end.index_stored ++ footer))

  from_footer : written ++ bytes ≡ index_end ++ footer
  from_footer = from_index ∙ sym (append_assoc meta_end (with_trailer id end.index_stored) footer)

  length-filters_end : length filters_end ≡ end.filter.offset + end.filter.size + 5
  length-filters_end = after_block written end.filters end.filter 0 stage.offset laid.whole end.filter_placed

  length-meta_end : length meta_end ≡ end.meta.offset + end.meta.size + 5
  length-meta_end = after_block filters_end end.meta_stored end.meta id (end.filter.offset + end.filter.size + 5) length-filters_end end.meta_placed

  length-index_end : length index_end ≡ end.index.offset + end.index.size + 5
  length-index_end = after_block meta_end end.index_stored end.index id (end.meta.offset + end.meta.size + 5) length-meta_end end.index_placed

  length-whole : length (written ++ bytes) ≡ end.index.offset + end.index.size + 5 + 48
  length-whole = omega (arith, ap length from_footer, length-append index_end footer, length-index_end, length-footer_bytes end.meta end.index end.meta_placed.2 end.index_placed.2)

  meta_is_there : StoresAt (written ++ bytes) end.meta id end.meta_stored
  meta_is_there =
      stores_at (written ++ bytes) filters_end (with_trailer id end.index_stored ++ footer) end.meta_stored end.meta id (end.filter.offset + end.filter.size + 5) from_meta length-filters_end end.meta_placed

  index_is_there : StoresAt (written ++ bytes) end.index id end.index_stored
  index_is_there = stores_at (written ++ bytes) meta_end footer end.index_stored end.index id (end.meta.offset + end.meta.size + 5) from_index length-meta_end end.index_placed

  abbrev handles : List Handle
  handles = map (λ part. part.handle) laid.parts

  is_written : IsWritten (written ++ bytes) id name laid.parts ((filter_key name, handle_bytes end.filter) ∷ []) end.filter end.meta end.index
  is_written =
      let after = end.filter ∷ end.meta ∷ end.index ∷ [] in
      let blocks = blocks_append handles after in
      record {
        linked = linked_append 0 handles after laid.linked (
          omega (arith, end.filter_placed.0, laid.placed),
          (omega (arith, end.meta_placed.0, end.filter_placed.0, laid.placed), (omega (arith, end.index_placed.0, end.meta_placed.0, end.filter_placed.0, laid.placed), tt)),
        );
        whole = omega (arith, length-whole, blocks, end.index_placed.0, end.meta_placed.0, end.filter_placed.0, laid.placed);
        under = all_append (IsStoredUnder (written ++ bytes) id) handles (end.meta ∷ end.index ∷ [])
            (all_map (λ (part : Part). part.handle) (IsStoredUnder (written ++ bytes) id) laid.parts
            (all_with (λ (part : Part). IsStoredUnder written id part.handle) (λ (part : Part). IsStoredUnder (written ++ bytes) id part.handle) (under_more id written bytes) laid.parts laid.under))
            ((end.meta_stored, meta_is_there), ((end.index_stored, index_is_there), tt));
        named = refl;
      }

  are_made : AreMade (Decodes codings) stage.interval stage.index_interval (written ++ bytes) laid.parts ((filter_key name, handle_bytes end.filter) ∷ []) end.meta end.index
  are_made = record {
    each = made_more (Decodes codings) stage.interval written bytes laid.parts laid.exact;
    of_metas = record { id = id; stored = end.meta_stored; is_there = meta_is_there; decoded = subst (Decodes codings id end.meta_stored) end.meta_made.exact end.meta_decoded };
    of_lines = record { id = id; stored = end.index_stored; is_there = index_is_there; decoded = subst (Decodes codings id end.index_stored) (end.index_made.exact ∙ ap (block_made stage.index_interval) laid.lined) end.index_decoded };
  }

  module _ (order : IsPreorderOn accepts cmp) (separates : (a b : List ℕ) → accepts a ≡ true → accepts b ≡ true → cmp a b ≢ Greater → IsSeparator accepts cmp a b (sep a b)) (keeps : KeepsKeys FP make matches)
      (same : stage.filter.policy ≡ policy) (succ : List ℕ → List ℕ) (last : IsLast accepts cmp succ stage next pairs) where
    in_parts : pairs ≡ flat_map (λ (part : Part). part.pairs) laid.parts
    in_parts = laid_pairs (Decodes codings) accepts cmp sep (matches policy) (make policy) id stage next written pairs last.none_open laid

    closed : AreClosed accepts cmp sep laid.parts next
    closed =
        let some = some_lines stage.lines laid.parts pairs laid.lined in_parts in
        laid_closed_parts (Decodes codings) accepts cmp sep (matches policy) (make policy) id stage next written pairs last.none_open laid (λ more. last.accepted (some more)) (λ more. last.after (some more))

    is_tabled : HasTableBlocks (Decodes codings) cmp (written ++ bytes) laid.parts ((filter_key name, handle_bytes end.filter) ∷ []) end.meta end.index
    is_tabled = record {
      front = index_end;
      ends = from_footer;
      index_text = end.index_text;
      index_is_there = record { id = id; stored = end.index_stored; is_there = index_is_there; decoded = end.index_decoded };
      index_block = subst (IsBlock cmp end.index_text) laid.lined end.index_made.block;
      each = all_with (IsPart (Decodes codings) cmp written) (IsPart (Decodes codings) cmp (written ++ bytes)) (part_more (Decodes codings) cmp written bytes) laid.parts laid.each;
      parted = parted order sep separates laid.parts next closed;
      meta_text = end.meta_text;
      meta_is_there = record { id = id; stored = end.meta_stored; is_there = meta_is_there; decoded = end.meta_decoded };
      meta_block = end.meta_made.block;
    }

    abbrev filters : List (List ℕ)
    filters = finished (make policy) stage.filter.filters stage.filter.keys

    exact_filters : filters ≡ filters_for (make policy) laid.parts end.filter.offset
    exact_filters =
        let keys = keys_for (stage.offset / 2048) laid.parts in
        ap (λ z. finished (make policy) z stage.filter.keys) laid.made
        ∙ ap (finished (make policy) (filters_before (make policy) laid.parts (stage.offset / 2048))) (laid.open_keys ∙ ap (λ z. keys ++ map (λ (pair : Pair). pair.0) z) last.none_open ∙ append-nil keys)
        ∙ ap (filters_for (make policy) laid.parts) (sym end.filter_placed.0)

    pass_parts : AllByRecursion (λ part. PartPasses (matches policy) filters part.handle.offset part.pairs) laid.parts
    pass_parts =
        subst (λ p. AllByRecursion (λ (part : Part). KeepsAll (matches p) stage.filter part.handle.offset part.pairs) laid.parts
        → AllByRecursion (λ (part : Part). PartPasses (matches p) (finished (make p) stage.filter.filters stage.filter.keys) part.handle.offset part.pairs) laid.parts) same
        (parts_pass make matches keeps stage.filter laid.parts) laid.kept

    module _ (meaning : List ℕ → Option (List ℕ → List ℕ → Bool)) (user : List ℕ → List ℕ) (separates_users : SeparatesUsers accepts cmp sep user) (outcome : MatchesByUser user (matches policy)) (knows : IsMeaningOf meaning name (matches policy)) where
      has_filters : HasFiltersAt (matches policy) user (written ++ bytes) laid.parts end.filter
      has_filters = record {
        text = end.filters;
        filters = filters;
        is_there = stores_at (written ++ bytes) written (with_trailer id end.meta_stored ++ (with_trailer id end.index_stored ++ footer)) end.filters end.filter 0 stage.offset from_filters laid.whole end.filter_placed;
        block = end.filter_block;
        pass = all_pass order sep user (matches policy) filters separates_users outcome laid.parts next closed pass_parts;
      }

      filters_hold : FiltersHold meaning user (written ++ bytes) laid.parts (filter_key name, handle_bytes end.filter)
      filters_hold other e =
          IfSome-with (meaning other) (λ known. known ≡ matches policy) _ (λ known is. (
            end.filter,
            end.filter_placed.2,
            refl,
            λ _. subst (λ m. HasFiltersAt m user (written ++ bytes) laid.parts end.filter) (sym is) has_filters,
          ))
          (subst (λ n. IsMeaningOf meaning n (matches policy)) (filter_key_injective name other e) knows)

      builds : BuildsTable codings accepts cmp sep succ meaning user (matches policy) (make policy) id name stage.interval stage.index_interval (written ++ bytes) pairs
      unfolding has_filters
      builds = record {
        table = record {
          parts = laid.parts;
          metas = (filter_key name, handle_bytes end.filter) ∷ [];
          meta = end.meta;
          index = end.index;
          tabled = is_tabled;
          accepted = record { pairs = closed.accepted; lines = lines_accepted order sep separates laid.parts next closed };
          sorted = laid.sorted;
          pairs_are = in_parts;
          filters = (filters_hold, tt);
        };
        filter = end.filter;
        written = is_written;
        exact = are_made;
        separated = separated_last sep laid.parts next (succ (last_added pairs)) (λ some. last.successor (lines_some stage.lines laid.parts laid.lined some)) laid.separated;
        filtered = has_filters;
        exactly = exact_filters;
      }

    -- the whole is a table of the pairs, and has so many bytes
    made : IsBuiltTable codings accepts cmp sep succ (matches policy) (make policy) id name stage.interval stage.index_interval (written ++ bytes) pairs × (size ≡ length (written ++ bytes))
    made = (builds, end.ends ∙ sym length-whole)

-- The same, where what was put after the data blocks is told by the order of the index and the
-- policy of the filters, which are those of the table, and the intervals are told otherwise.
pub table_made : {FP : Type 0} (codings : Codings) {accepts : List ℕ → Bool} {cmp : List ℕ → List ℕ → Ordering} (order : IsPreorderOn accepts cmp) (sep : List ℕ → List ℕ → List ℕ)
    (separates : (a b : List ℕ) → accepts a ≡ true → accepts b ≡ true → cmp a b ≢ Greater → IsSeparator accepts cmp a b (sep a b)) (make : FP → List (List ℕ) → List ℕ) (matches : FP → List ℕ → List ℕ → Bool)
    (keeps : KeepsKeys FP make matches) (name : FP → List ℕ) (policy : FP) (index_cmp : List ℕ → List ℕ → Ordering) (succ : List ℕ → List ℕ) (id : ℕ) (stage : Stage FP) (next written bytes : List ℕ) (pairs : List Pair) (size interval index_interval : ℕ)
    → index_cmp ≡ cmp → stage.filter.policy ≡ policy → (stage.interval ≡ interval) × (stage.index_interval ≡ index_interval) → IsLaidOut (Decodes codings) accepts cmp sep (matches policy) (make policy) id stage next written pairs → IsLast accepts cmp succ stage next pairs
    → IsEnd (Decodes codings) index_cmp (make stage.filter.policy) id (name stage.filter.policy) stage bytes size
    → IsBuiltTable codings accepts cmp sep succ (matches policy) (make policy) id (name policy) interval index_interval (written ++ bytes) pairs × (size ≡ length (written ++ bytes))
table_made codings {accepts} {cmp} order sep separates make matches keeps name policy index_cmp succ id stage next written bytes pairs size interval index_interval ordered same intervals laid last end =
    let HasEntriesBuilt : ℕ → ℕ → Type 0 = λ n m. IsBuiltTable codings accepts cmp sep succ (matches policy) (make policy) id (name policy) n m (written ++ bytes) pairs × (size ≡ length (written ++ bytes)) in
    subst (λ n. HasEntriesBuilt n index_interval) intervals.0 (subst (HasEntriesBuilt stage.interval) intervals.1 (made codings accepts cmp sep make matches policy id (name policy) stage next written bytes pairs size laid
    (subst (λ p. IsEnd (Decodes codings) cmp (make p) id (name p) stage bytes size) same (subst (λ o. IsEnd (Decodes codings) o (make stage.filter.policy) id (name stage.filter.policy) stage bytes size) ordered end))
    order separates keeps same succ last))

-- Where the blocks of a table were put, and what isn't put under an id without a compressor.

pub refused_with : {T E : Type 0} (result : Result T E) (P Q : E → Type 0) → ((error : E) → P error → Q error) → IsErr result → IfErr result P → IsErrAnd result Q
refused_with (Ok value) P Q f is h = let clash = is in cc
refused_with (Err error) P Q f is h = f error h

pub refused_so : {T E : Type 0} (result : Result T E) (P Q : E → Type 0) → ((error : E) → P error → Q error) → IsErrAnd result P → IsErrAnd result Q
refused_so (Ok value) P Q f h = absurd h
refused_so (Err error) P Q f h = f error h

no_compressor : (coding : Option Coding) (text : List ℕ) (status : Status) → coding ≡ None → IsSomeAnd coding (λ coding. IsEncodeError coding text status) → ⊥
no_compressor None text status unset h = h
no_compressor (Some coding) text status unset h = let clash = unset in cc

no_text : (coding : Option Coding) (stored text : List ℕ) → coding ≡ None → decoded_under coding stored ≡ Some text → ⊥
no_text None stored text unset h = cc
no_text (Some coding) stored text unset h = let clash = unset in cc

module _ {FP : Type 0} (codings : Codings) (cmp : List ℕ → List ℕ → Ordering) (too_large : List (List ℕ) → Type 0) (make : List (List ℕ) → List ℕ) (id : ℕ) (name : List ℕ) (last : Stage FP)
    {S : Type 0} (puts : S → List ℕ → Result (Unit {0}) Status → S → Type 0) (flushes : S → Result (Unit {0}) Status → S → Type 0) (unset : codings id ≡ None) where
  unset_block : (text : List ℕ) (offset : ℕ) (Rest : Handle → ℕ → S → Status → S → Type 0) (filters : Handle) (from : S) (status : Status) (to : S) → StopsFrom puts codings id text offset Rest from status to
      → (to ≡ from) × (IsNoMetaindex name filters status ⊎ IsUnset id status)
  unset_block text offset Rest filters from status to (inl (inl (same, none, is))) = (same, inr is)
  unset_block text offset Rest filters from status to (inl (inr (inl (same, inl memory)))) = (same, inl (inl memory))
  unset_block text offset Rest filters from status to (inl (inr (inl (same, inr compressor)))) = absurd (no_compressor (codings id) text status unset compressor)
  unset_block text offset Rest filters from status to (inl (inr (inr (stored, decoded, refused)))) = absurd (no_text (codings id) stored text unset decoded)
  unset_block text offset Rest filters from status to (inr (stored, decoded, handle, end, mid, put, after)) = absurd (no_text (codings id) stored text unset decoded)

  unset_meta : (filters : Handle) (offset : ℕ) (from : S) (status : Status) (to : S) → StopsFromMetaindex codings cmp too_large make id name last puts flushes filters offset from status to
      → (to ≡ from) × (IsNoMetaindex name filters status ⊎ IsUnset id status)
  unset_meta filters offset from status to (inl (same, none)) = (same, inl none)
  unset_meta filters offset from status to (inr (text, block, stops)) =
      unset_block text offset (StopsFromIndex codings cmp too_large make id name last puts flushes) filters from status to stops

  stops_unset : (from : S) (status : Status) (to : S) → StopsFromFilters codings cmp too_large make id name last puts flushes from status to → StopsUnset too_large make id name last puts from status to
  stops_unset from status to (inl none) = inl none
  stops_unset from status to (inr (filters, block, inl refused)) = inr (filters, block, inl refused)
  stops_unset from status to (inr (filters, block, inr (handle, end, mid, put, stops))) = inr (filters, block, inr (handle, end, mid, put, unset_meta handle end mid status to stops))

  -- no block was closed before
  pub stops_unset_at : (same_last : Stage FP) (mid from : S) (status : Status) (to : S) → last ≡ same_last → mid ≡ from
      → StopsFromFilters codings cmp too_large make id name last puts flushes mid status to → StopsUnset too_large make id name same_last puts from status to
  stops_unset_at same_last mid from status to e f stops =
      subst (λ at. StopsUnset too_large make id name at puts from status to) e (subst (λ at. StopsUnset too_large make id name last puts at status to) f (stops_unset mid status to stops))

module _ {S : Type 0} (puts : S → List ℕ → Result (Unit {0}) Status → S → Type 0) where
  -- where a block was put, and where it ends
  pub block_placed : {id : ℕ} {stored : List ℕ} {from : S} {offset : ℕ} {handle : Handle} {end : ℕ} {to : S} → PutsBlock puts id stored from offset handle end to → IsPlaced offset stored handle
  block_placed put = (put.begins, put.size, put.fits)

  pub block_ends : {id : ℕ} {stored : List ℕ} {from : S} {offset : ℕ} {handle : Handle} {end : ℕ} {to : S} → PutsBlock puts id stored from offset handle end to → end ≡ handle.offset + handle.size + 5
  block_ends put = omega (arith, put.ends, put.begins, put.size)

-- what was put after the data blocks, whatever its pieces are
pub PutsEnd-all : {FP S : Type 0} (puts : S → List ℕ → Result (Unit {0}) Status → S → Type 0) (flushes : S → Result (Unit {0}) Status → S → Type 0) {Decodes : ℕ → List ℕ → List ℕ → Type 0}
    {cmp : List ℕ → List ℕ → Ordering} {make : List (List ℕ) → List ℕ} {id : ℕ} {name : List ℕ} {stage : Stage FP} {from : S} {size : ℕ} {to : S}
    → (end : PutsEnd puts flushes Decodes cmp make id name stage from size to) → PutsAll puts from end.bytes end.mid
PutsEnd-all puts flushes {id = id} end =
    let is = end.ended in
    record {
      pieces = with_trailer 0 is.filters ∷ with_trailer id is.meta_stored ∷ with_trailer id is.index_stored ∷ footer_bytes is.meta is.index ∷ [];
      put = end.put;
      joined = is.encoded ∙ ap (λ z. with_trailer 0 is.filters ++ (with_trailer id is.meta_stored ++ (with_trailer id is.index_stored ++ z))) (sym (append-nil (footer_bytes is.meta is.index)));
    }

-- and by whatever equal choices it was put
pub PutsEnd-same : {FP S : Type 0} (puts : S → List ℕ → Result (Unit {0}) Status → S → Type 0) (flushes : S → Result (Unit {0}) Status → S → Type 0) {Decodes : ℕ → List ℕ → List ℕ → Type 0}
    {cmp other : List ℕ → List ℕ → Ordering} (make : FP → List (List ℕ) → List ℕ) (name : FP → List ℕ) {id other_id : ℕ} {policy other_policy : FP} {stage : Stage FP} {from : S} {size : ℕ} {to : S}
    → cmp ≡ other → policy ≡ other_policy → id ≡ other_id → PutsEnd puts flushes Decodes cmp (make policy) id (name policy) stage from size to
    → PutsEnd puts flushes Decodes other (make other_policy) other_id (name other_policy) stage from size to
PutsEnd-same puts flushes {Decodes} {cmp} {other} make name {id} {other_id} {policy} {other_policy} {stage} {from} {size} {to} ordered same_policy same_id end =
    subst (λ n. PutsEnd puts flushes Decodes other (make other_policy) n (name other_policy) stage from size to) same_id
    (subst (λ p. PutsEnd puts flushes Decodes other (make p) id (name p) stage from size to) same_policy
    (subst (λ o. PutsEnd puts flushes Decodes o (make policy) id (name policy) stage from size to) ordered end))

-- ---- the rest of a table

-- filters that are made leave the policy
policy_with : {FP : Type 0} (make : List (List ℕ) → List ℕ) (count : ℕ)
    (building : FiltersBuilt FP) → (with_filters make count building).policy ≡ building.policy
policy_with make zero building = refl
policy_with make (suc others) building = refl

module _ {C FP : Type 0} (ordered : CmpGhosts C) (filters : PolicyGhosts FP) (codings : Codings)
    (core : TableBuilt C FP)
    (order : IsPreorderOn (ordered.accepts core.block.cmp) (ordered.cmp core.block.cmp))
    (separates : (a b : List ℕ) → ordered.accepts core.block.cmp a ≡ true
    → ordered.accepts core.block.cmp b ≡ true → ordered.cmp core.block.cmp a b ≢ Greater
    → IsSeparator (ordered.accepts core.block.cmp) (ordered.cmp core.block.cmp) a b
    (ordered.shortest_sep core.block.cmp a b))
    (succeeds : (key : List ℕ) → ordered.accepts core.block.cmp key ≡ true
    → IsSuccessor (ordered.accepts core.block.cmp) (ordered.cmp core.block.cmp) key
    (ordered.short_succ core.block.cmp key))
    (keeps : KeepsKeys FP filters.filter_for filters.matches) where
  abbrev succ : List ℕ → List ℕ
  succ = ordered.short_succ core.block.cmp

  abbrev LaidOut : Stage FP → List ℕ → List ℕ → List Pair → Type 0
  LaidOut = IsLaidOut (Decodes codings) (ordered.accepts core.block.cmp)
      (ordered.cmp core.block.cmp) (ordered.shortest_sep core.block.cmp)
      (filters.matches core.filter.policy) (filters.filter_for core.filter.policy) core.compressor

  -- what is put after blocks that are all closed
  rest_after : (last : Stage FP) (next written bytes : List ℕ) (pairs : List Pair) (size : ℕ)
      → last.filter.policy ≡ core.filter.policy
      → (last.interval ≡ core.block.interval) × (last.index_interval ≡ core.index.interval)
      → LaidOut last next written pairs
      → IsLast (ordered.accepts core.block.cmp) (ordered.cmp core.block.cmp) succ last next pairs
      → IsEnd (Decodes codings) (ordered.cmp core.block.cmp)
      (filters.filter_for core.filter.policy) core.compressor (filters.name core.filter.policy)
      last bytes size
      → IsBuiltTable codings (ordered.accepts core.block.cmp) (ordered.cmp core.block.cmp)
      (ordered.shortest_sep core.block.cmp) succ (filters.matches core.filter.policy)
      (filters.filter_for core.filter.policy) core.compressor (filters.name core.filter.policy)
      core.block.interval core.index.interval (written ++ bytes) pairs
  rest_after last next written bytes pairs size same intervals laid is_last end =
      (table_made codings order (ordered.shortest_sep core.block.cmp) separates
      filters.filter_for filters.matches keeps filters.name core.filter.policy
      (ordered.cmp core.block.cmp) succ core.compressor last next written bytes pairs size
      core.block.interval core.index.interval refl same intervals laid is_last
      (subst (λ p. IsEnd (Decodes codings) (ordered.cmp core.block.cmp) (filters.filter_for p)
      core.compressor (filters.name p) last bytes size) (sym same) end)).0

  -- the rest makes the table, if a block is open where a pair was added
  pub rest_makes : ((stage core).open_pairs ≡ [] → (stage core).lines ≡ [])
      → (written bytes : List ℕ) (pairs : List Pair)
      → IsBegun codings ordered filters core written pairs
      → IsRest ordered filters codings core bytes
      → IsBuiltTable codings (ordered.accepts core.block.cmp) (ordered.cmp core.block.cmp)
      (ordered.shortest_sep core.block.cmp) succ (filters.matches core.filter.policy)
      (filters.filter_for core.filter.policy) core.compressor (filters.name core.filter.policy)
      core.block.interval core.index.interval (written ++ bytes) pairs
  rest_makes unlined written bytes pairs begun rest = ⊎_elim
      (λ none.
      let is : bytes ≡ rest.ended = rest.joined ∙ ap (λ b. b ++ rest.ended) none.2 in
      let none_lined = unlined none.0 in
      subst (λ b. Table (written ++ b)) (sym is)
      (rest_after (stage core) (first_key (stage core).open_pairs) written rest.ended pairs
      rest.size refl (refl, refl) begun
      (record {
        none_open = none.0;
        accepted = λ some. absurd (some none_lined);
        after = λ some. absurd (some none_lined);
        successor = λ some. absurd (some none_lined);
      })
      (subst (λ l. End l) none.1 rest.ends)))
      (λ some.
      let same : rest.last.filter.policy ≡ core.filter.policy =
      ap (λ (f : FiltersBuilt FP). f.policy) some.1.started
      ∙ policy_with (filters.filter_for core.filter.policy) _ core.filter in
      let open_pairs = (stage core).open_pairs in
      let opened = all_right (λ pair. ordered.accepts core.block.cmp pair.0 ≡ true)
      (flat_map (λ (part : Part). part.pairs) begun.parts) open_pairs
      (subst (AllByRecursion (λ pair. ordered.accepts core.block.cmp pair.0 ≡ true))
      begun.pairs_are begun.accepted) in
      let is = succeeds_last order succ succeeds [] open_pairs some.0 opened in
      let last = last_open pairs _ open_pairs begun.pairs_are some.0 in
      let laid = laid_closed (Decodes codings) (ordered.accepts core.block.cmp)
      (ordered.cmp core.block.cmp) (ordered.shortest_sep core.block.cmp) filters.filter_for
      filters.matches keeps (stage core) rest.last core.compressor (succ (last_of core))
      rest.closed written pairs some.0 same some.1 begun in
      subst Table (append_assoc written rest.closed rest.ended
      ∙ ap (λ b. written ++ b) (sym rest.joined))
      (rest_after rest.last (succ (last_of core)) (written ++ rest.closed) rest.ended pairs
      rest.size same some.1.same_intervals laid
      (record {
        none_open = some.1.none_open;
        accepted = λ lines. is.0;
        after = λ lines. subst (λ k. ordered.cmp core.block.cmp k (succ (last_of core)) ≢ Greater)
            (sym last) is.1;
        successor = λ lines. ap succ (sym last);
      }) rest.ends))
      rest.closes
    where
      Table : List ℕ → Type 0
      Table whole = IsBuiltTable codings (ordered.accepts core.block.cmp)
          (ordered.cmp core.block.cmp) (ordered.shortest_sep core.block.cmp) succ
          (filters.matches core.filter.policy) (filters.filter_for core.filter.policy)
          core.compressor (filters.name core.filter.policy) core.block.interval
          core.index.interval whole pairs

      End : Stage FP → Type 0
      End last = IsEnd (Decodes codings) (ordered.cmp core.block.cmp)
          (filters.filter_for core.filter.policy) core.compressor
          (filters.name core.filter.policy) last rest.ended rest.size

-- a sound builder has lines only with an open block
pub sound_unlined : {FP : Type 0} {accepts : List ℕ → Bool}
    {cmp index_cmp : List ℕ → List ℕ → Ordering} (stage : Stage FP)
    → IsSound accepts cmp index_cmp stage → stage.open_pairs ≡ [] → stage.lines ≡ []
sound_unlined stage sound none = by_count stage.count refl
  where
    by_count : (n : ℕ) → stage.count ≡ n → stage.lines ≡ []
    by_count zero is =
        sym (append-nil stage.lines) ∙ ap (λ z. stage.lines ++ z) (sym none) ∙ sound.none is
    by_count (suc n) is = absurd (sound.some (omega (arith, is)) none)
