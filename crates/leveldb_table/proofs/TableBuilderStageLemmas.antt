-- The filters of a table's blocks: those that are made are of the blocks before, and the keys that
-- are kept are of the last blocks.
use Rattle.std.proofs.Common.{◌≡◌, ◌≢◌, ◌<◌, ◌≤◌, ℕ, zero, suc, ◌+◌, ◌-◌, Bool, true, false, List, [], ◌∷◌, ◌++◌, length, map, replicate, refl, sym, ◌∙◌, ap, arith, append_assoc, length-append, inl, inr, ◌⊎◌, None, flat_map, subst}
use Rattle.std.specs.Prelude.{◌/◌, ◌==◌, if◌then◌else◌}
use Rattle.std.proofs.lemmas.Bool.{eq-eqb}
use Rattle.std.proofs.lemmas.Bool.Decides.{eqb_tells}
use Rattle.std.proofs.lemmas.List.{append-nil, map-append, length_push}
use Rattle.std.proofs.lemmas.List.Concat.{flat_map-append}
use Rattle.std.specs.List.{AllByRecursion}
use Rattle.std.specs.declared.cmp.Ordering.{Ordering}
use Rattle.std.specs.declared.cmp.Ordering.TheVariants.{Less}
use Rattle.leveldb_base.specs.Types.{Pair}
use Rattle.leveldb_base.specs.BlockHandle.{Handle, handle_bytes}
use Rattle.leveldb_env.specs.FilterBlock.{FiltersBuilt, filter_of, with_filters, started, with_key, IsKeyKept, KeepsKeys}
use Rattle.leveldb_table.specs.Table.{Part, AreLinked, blocks_len, keys_for, filters_before, IsPart, HasBlockAt, StoresAt, IsStoredUnder, with_trailer, index_pair}
use Rattle.leveldb_table.specs.Block.{BlockEntry, pairs_of, KeysRise}
use Rattle.leveldb_table.specs.BlockBuilder.{last_added, block_made}
use Rattle.leveldb_table.specs.TableBuilderStage.{Follows, AreReady, IsSound, Stage, with_pair, first_key, AreSeparated, KeepsAll, IsLaidOut, Closes}
use Rattle.leveldb_table.proofs.TableLemmas.{all_append, all_with, last_after, last_pushed, rise_push, rise_right}
use Rattle.leveldb_table.proofs.BlockLemmas.{length-pairs_of}

abbrev keys_of : List Pair → List (List ℕ)
keys_of pairs = map (λ (pair : Pair). pair.0) pairs

abbrev own_keys : ℕ → Part → List (List ℕ)
own_keys n part = if part.handle.offset / 2048 == n then keys_of part.pairs else []

keys_append : (n : ℕ) (parts others : List Part) → keys_for n (parts ++ others) ≡ keys_for n parts ++ keys_for n others
keys_append n parts others = flat_map-append (own_keys n) parts others

own_known : (n : ℕ) (part : Part) → part.handle.offset / 2048 ≡ n → own_keys n part ≡ keys_of part.pairs
own_known n part e = ap (λ (b : Bool). if b then keys_of part.pairs else []) (eq-eqb (part.handle.offset / 2048) n e)

known_other : (b : Bool) (keys : List (List ℕ)) (n m : ℕ) → (b ≡ true) × (n ≡ m) ⊎ (b ≡ false) × (n ≢ m) → n ≢ m → (if b then keys else []) ≡ []
known_other b keys n m (inl same) other = absurd (other same.1)
known_other b keys n m (inr e) other = ap (λ (b : Bool). if b then keys else []) e.0

none_known : (n : ℕ) (part : Part) → part.handle.offset / 2048 ≢ n → own_keys n part ≡ []
none_known n part = known_other (part.handle.offset / 2048 == n) (keys_of part.pairs) (part.handle.offset / 2048) n (eqb_tells (part.handle.offset / 2048) n)

none_of : (n : ℕ) (parts : List Part) → AllByRecursion (λ part. part.handle.offset / 2048 ≢ n) parts → keys_for n parts ≡ []
none_of n [] h = refl
none_of n (part ∷ parts) h = ap (λ z. z ++ keys_for n parts) (none_known n part h.0) ∙ none_of n parts h.1

-- blocks one after the other begin at or before where they end
pub begin_before : (at limit : ℕ) (parts : List Part) → AreLinked at (map (λ part. part.handle) parts) → at + blocks_len (map (λ part. part.handle) parts) ≤ limit → AllByRecursion (λ part. part.handle.offset ≤ limit) parts
begin_before at limit [] h fits = tt
begin_before at limit (part ∷ parts) h fits = (omega (arith, h.0, fits), begin_before (at + part.handle.size + 5) limit parts h.1 (omega (arith, fits)))

module _ (make : List (List ℕ) → List ℕ) where
  length-filters_before : (parts : List Part) (n : ℕ) → length (filters_before make parts n) ≡ n
  length-filters_before parts zero = refl
  length-filters_before parts (suc n) =
      let rest = length-filters_before parts n in
      omega (arith, rest, length-append (filters_before make parts n) (filter_of make (keys_for n parts) ∷ []))

  one_more : (parts : List Part) (part : Part) (n : ℕ) → part.handle.offset / 2048 ≢ n → keys_for n (parts ++ part ∷ []) ≡ keys_for n parts
  one_more parts part n other = keys_append n parts (part ∷ []) ∙ ap (λ z. keys_for n parts ++ (z ++ [])) (none_known n part other) ∙ append-nil (keys_for n parts)

  -- a block after others changes no filter before its own
  before_same : (parts : List Part) (part : Part) (n : ℕ) → n ≤ part.handle.offset / 2048 → filters_before make (parts ++ part ∷ []) n ≡ filters_before make parts n
  before_same parts part zero h = refl
  before_same parts part (suc n) h =
      ap (λ z. z ++ filter_of make (keys_for n (parts ++ part ∷ [])) ∷ []) (before_same parts part n (omega (arith, h)))
      ∙ ap (λ z. filters_before make parts n ++ filter_of make z ∷ []) (one_more parts part n (λ e. absurd (omega (arith, h, e))))

  replicate_push : (n : ℕ) → replicate n (let none : List ℕ = [] in none) ++ [] ∷ [] ≡ [] ∷ replicate n []
  replicate_push zero = refl
  replicate_push (suc n) = ap (λ z. [] ∷ z) (replicate_push n)

  -- where no block begins the filters are empty
  before_more : (parts : List Part) (n others all : ℕ) → all ≡ n + suc others → ((m : ℕ) → n < m → keys_for m parts ≡ []) → filters_before make parts all ≡ filters_before make parts n ++ filter_of make (keys_for n parts) ∷ replicate others []
  before_more parts n others zero e later = absurd (omega (arith, e))
  before_more parts n zero (suc m) e later = let same : m ≡ n = omega (arith, e) in ap (λ k. filters_before make parts k ++ filter_of make (keys_for k parts) ∷ []) same
  before_more parts n (suc others) (suc m) e later =
      ap (λ z. z ++ filter_of make (keys_for m parts) ∷ []) (before_more parts n others m (omega (arith, e)) later)
      ∙ ap (λ z. (filters_before make parts n ++ filter_of make (keys_for n parts) ∷ replicate others []) ++ filter_of make z ∷ []) (later m (omega (arith, e)))
      ∙ append_assoc (filters_before make parts n) (filter_of make (keys_for n parts) ∷ replicate others []) ([] ∷ [])
      ∙ ap (λ z. filters_before make parts n ++ filter_of make (keys_for n parts) ∷ z) (replicate_push others)

  module _ {FP : Type 0} (old : FiltersBuilt FP) (parts : List Part) (part : Part) (end : ℕ) (filters : old.filters ≡ filters_before make parts (part.handle.offset / 2048))
      (keys : old.keys ≡ keys_for (part.handle.offset / 2048) parts ++ keys_of part.pairs) (reaches : part.handle.offset ≤ end) (before : AllByRecursion (λ p. p.handle.offset ≤ part.handle.offset) parts) where
    abbrev all_parts : List Part
    all_parts = parts ++ part ∷ []

    abbrev own : ℕ
    own = part.handle.offset / 2048

    later : (m : ℕ) → own < m → keys_for m all_parts ≡ []
    later m h =
        none_of m all_parts (all_append (λ p. p.handle.offset / 2048 ≢ m) parts (part ∷ [])
        (all_with (λ p. p.handle.offset ≤ part.handle.offset) (λ p. p.handle.offset / 2048 ≢ m) (λ p le e. absurd (omega (arith, h, le, e))) parts before) ((λ e. absurd (omega (arith, h, e))), tt))

    all_filters : old.filters ≡ filters_before make all_parts own
    all_filters = filters ∙ sym (before_same parts part own (omega arith))

    all_keys : old.keys ≡ keys_for own all_parts
    all_keys = keys ∙ sym (keys_append own parts (part ∷ []) ∙ ap (λ z. keys_for own parts ++ z) (append-nil (own_keys own part) ∙ own_known own part refl))

    by_count : (count : ℕ) → end / 2048 ≡ own + count
        → ((with_filters make count old).filters ≡ filters_before make all_parts (end / 2048)) × ((with_filters make count old).keys ≡ keys_for (end / 2048) all_parts)
    by_count zero e =
        let same : own ≡ end / 2048 = omega (arith, e) in
        (all_filters ∙ ap (filters_before make all_parts) same, all_keys ∙ ap (λ n. keys_for n all_parts) same)
    by_count (suc others) e = (
      ap (λ z. z ++ filter_of make old.keys ∷ replicate others []) all_filters ∙ ap (λ z. filters_before make all_parts own ++ filter_of make z ∷ replicate others []) all_keys
          ∙ sym (before_more all_parts own others (end / 2048) e later),
      sym (later (end / 2048) (omega (arith, e))),
    )

    -- a block is closed, and the next one begins at its end
    pub filters_closed : ((started make end old).filters ≡ filters_before make all_parts (end / 2048)) × ((started make end old).keys ≡ keys_for (end / 2048) all_parts)
    filters_closed = by_count (end / 2048 - length old.filters) (omega (arith, ap length filters, length-filters_before parts own, reaches))

-- A table's file that grows: a block is put after it, and a pair is added.

-- what is in a file is in it where more is put after it
stores_more : {file : List ℕ} {handle : Handle} {id : ℕ} {stored : List ℕ} (more : List ℕ) → StoresAt file handle id stored → StoresAt (file ++ more) handle id stored
stores_more {file} {handle} {id} {stored} more there = record {
  before = there.before;
  after = there.after ++ more;
  whole =
      ap (λ z. z ++ more) there.whole ∙ append_assoc there.before (with_trailer id stored ++ there.after) more
      ∙ ap (λ z. there.before ++ z) (append_assoc (with_trailer id stored) there.after more);
  offset = there.offset;
  size = there.size;
  fits = there.fits;
}

pub block_more : {Decodes : ℕ → List ℕ → List ℕ → Type 0} {file : List ℕ} {handle : Handle} {text : List ℕ} (more : List ℕ) → HasBlockAt Decodes file handle text → HasBlockAt Decodes (file ++ more) handle text
block_more more there = record { id = there.id; stored = there.stored; is_there = stores_more more there.is_there; decoded = there.decoded }

pub part_more : (Decodes : ℕ → List ℕ → List ℕ → Type 0) (cmp : List ℕ → List ℕ → Ordering) (file more : List ℕ) (part : Part) → IsPart Decodes cmp file part → IsPart Decodes cmp (file ++ more) part
part_more Decodes cmp file more part there = record { text = there.text; is_there = block_more more there.is_there; block = there.block; some = there.some }

pub made_more : (Decodes : ℕ → List ℕ → List ℕ → Type 0) (interval : ℕ) (file more : List ℕ) (parts : List Part) → AllByRecursion (λ part. HasBlockAt Decodes file part.handle (block_made interval part.pairs)) parts
    → AllByRecursion (λ part. HasBlockAt Decodes (file ++ more) part.handle (block_made interval part.pairs)) parts
made_more Decodes interval file more =
    all_with (λ part. HasBlockAt Decodes file part.handle (block_made interval part.pairs)) (λ part. HasBlockAt Decodes (file ++ more) part.handle (block_made interval part.pairs)) (λ part there. block_more more there)

pub under_more : (id : ℕ) (file more : List ℕ) (part : Part) → IsStoredUnder file id part.handle → IsStoredUnder (file ++ more) id part.handle
under_more id file more part there = (there.0, stores_more more there.1)

-- blocks one after the other, and one more
pub linked_push : (offset : ℕ) (handles : List Handle) (handle : Handle) → AreLinked offset handles → handle.offset ≡ offset + blocks_len handles → AreLinked offset (handles ++ handle ∷ [])
linked_push offset [] handle h e = (e ∙ (let none : offset + 0 ≡ offset = omega arith in none), tt)
linked_push offset (first ∷ handles) handle h e =
    (h.0, linked_push (offset + first.size + 5) handles handle h.1 (e ∙ (let same : offset + (first.size + 5 + blocks_len handles) ≡ (offset + first.size + 5) + blocks_len handles = omega arith in same)))

pub blocks_push : (handles : List Handle) (handle : Handle) → blocks_len (handles ++ handle ∷ []) ≡ blocks_len handles + handle.size + 5
blocks_push [] handle = omega arith
blocks_push (first ∷ handles) handle = let rest = blocks_push handles handle in omega (arith, rest)

-- one more data block after others
separated_push : (sep : List ℕ → List ℕ → List ℕ) (parts : List Part) (part : Part) (next : List ℕ) → AreSeparated sep parts (first_key part.pairs) → part.index_key ≡ sep (last_added part.pairs) next → AreSeparated sep (parts ++ part ∷ []) next
separated_push sep [] part next h e = e
separated_push sep (first ∷ []) part next h e = (h, e)
separated_push sep (first ∷ other ∷ parts) part next h e = (h.0, separated_push sep (other ∷ parts) part next h.1 e)

some_append : (lines : List Pair) (first : Pair) (pairs : List Pair) → lines ++ first ∷ pairs ≢ []
some_append lines first pairs e = absurd (omega (arith, ap length e, length-append lines (first ∷ pairs)))

-- a key after all that is kept is after the open block's last
pub after_open : (cmp : List ℕ → List ℕ → Ordering) (lines open_pairs : List Pair) (next : List ℕ) → open_pairs ≢ [] → (lines ++ open_pairs ≢ [] → cmp (last_added (lines ++ open_pairs)) next ≡ Less) → cmp (last_added open_pairs) next ≡ Less
after_open cmp lines [] next some h = absurd (some refl)
after_open cmp lines (first ∷ pairs) next some h = sym (ap (λ z. cmp z next) (last_after lines first pairs)) ∙ h (some_append lines first pairs)

-- a key after the last one that was added is after all that is kept
pub after_all : (cmp : List ℕ → List ℕ → Ordering) (lines open_pairs : List Pair) (next : List ℕ) (count : ℕ) → (0 < count → open_pairs ≢ []) → (count ≡ 0 → lines ++ open_pairs ≡ []) → (0 < count → cmp (last_added open_pairs) next ≡ Less)
    → lines ++ open_pairs ≢ [] → cmp (last_added (lines ++ open_pairs)) next ≡ Less
after_all cmp lines open_pairs next zero some none less there = absurd (there (none refl))
after_all cmp lines [] next (suc count) some none less there = absurd (some (omega arith) refl)
after_all cmp lines (first ∷ pairs) next (suc count) some none less there = ap (λ z. cmp z next) (last_after lines first pairs) ∙ less (omega arith)

-- the pair that is added rises after the open block's
pub open_rises : {FP : Type 0} {accepts : List ℕ → Bool} {cmp index_cmp : List ℕ → List ℕ → Ordering} (stage : Stage FP) (key value : List ℕ) → AreReady accepts cmp index_cmp stage → Follows accepts cmp stage key
    → KeysRise cmp (stage.open_pairs ++ (key, value) ∷ [])
open_rises {cmp = cmp} stage key value ready follows =
    rise_push cmp stage.open_pairs (key, value) (rise_right cmp stage.lines stage.open_pairs ready.rise) (λ some. after_open cmp stage.lines stage.open_pairs key some follows.after)

-- a builder to which a pair was added is sound
pub sound_added : {FP : Type 0} {accepts : List ℕ → Bool} {cmp index_cmp : List ℕ → List ℕ → Ordering} (stage : Stage FP) (key value : List ℕ) → AreReady accepts cmp index_cmp stage → Follows accepts cmp stage key
    → IsSound accepts cmp index_cmp (with_pair (key, value) stage)
sound_added {accepts = accepts} {cmp = cmp} stage key value ready follows =
    let seam = append_assoc stage.lines stage.open_pairs ((key, value) ∷ []) in
    record {
      ready = record {
        order = ready.order;
        rise = subst (KeysRise cmp) seam (rise_push cmp (stage.lines ++ stage.open_pairs) (key, value) ready.rise follows.after);
        accepted = subst (AllByRecursion (λ pair. accepts pair.0 ≡ true)) seam (all_append (λ pair. accepts pair.0 ≡ true) (stage.lines ++ stage.open_pairs) ((key, value) ∷ []) ready.accepted (follows.accepted, tt));
        filtered = ready.filtered;
      };
      some = λ _. some_append stage.open_pairs (key, value) [];
      none = λ e. absurd (omega (arith, e));
    }

module _ {FP : Type 0} (Decodes : ℕ → List ℕ → List ℕ → Type 0) (accepts : List ℕ → Bool) (cmp : List ℕ → List ℕ → Ordering) (sep : List ℕ → List ℕ → List ℕ) (make : FP → List (List ℕ) → List ℕ) (matches : FP → List ℕ → List ℕ → Bool)
    (keeps : KeepsKeys FP make matches) where
  kept_started : (filter new : FiltersBuilt FP) (next offset : ℕ) (pairs : List Pair) → new ≡ started (make filter.policy) next filter → new.policy ≡ filter.policy → KeepsAll (matches filter.policy) filter offset pairs → KeepsAll (matches filter.policy) new offset pairs
  kept_started filter new next offset pairs e same kept =
      all_with (λ pair. IsKeyKept (matches filter.policy) filter.filters filter.keys offset pair.0) (λ pair. IsKeyKept (matches filter.policy) new.filters new.keys offset pair.0)
      (λ pair h. subst (λ policy. IsKeyKept (matches policy) new.filters new.keys offset pair.0) same
      (subst (λ (more : FiltersBuilt FP). IsKeyKept (matches more.policy) more.filters more.keys offset pair.0) (sym e) (keeps.starts filter offset next pair.0 h))) pairs kept

  -- the open block is put after the file
  pub laid_closed : (old new : Stage FP) (id : ℕ) (next bytes written : List ℕ) (pairs : List Pair) → old.open_pairs ≢ [] → new.filter.policy ≡ old.filter.policy
      → Closes Decodes cmp sep (make old.filter.policy) id next old bytes new → IsLaidOut Decodes accepts cmp sep (matches old.filter.policy) (make old.filter.policy) id old (first_key old.open_pairs) written pairs
      → IsLaidOut Decodes accepts cmp sep (matches old.filter.policy) (make old.filter.policy) id new next (written ++ bytes) pairs
  laid_closed old new id next bytes written pairs some same closes laid =
      let part : Part = record { handle = closes.handle; index_key = sep (last_added old.open_pairs) next; pairs = old.open_pairs } in
      let handles = map-append {A = Part} (λ part. part.handle) laid.parts (part ∷ []) in
      let size : length bytes ≡ length closes.stored + 5 = ap length closes.encoded ∙ length-append closes.stored _ in
      let is_there : StoresAt (written ++ bytes) closes.handle id closes.stored = record {
        before = written;
        after = [];
        whole = ap (λ z. written ++ z) (closes.encoded ∙ sym (append-nil (with_trailer id closes.stored)));
        offset = laid.whole ∙ sym closes.begins;
        size = sym closes.size;
        fits = closes.fits;
      } in
      let begins = ap (λ n. n / 2048) (sym closes.begins) in
      let filters = filters_closed (make old.filter.policy) old.filter laid.parts part new.offset (laid.made ∙ ap (filters_before (make old.filter.policy) laid.parts) begins)
      (laid.open_keys ∙ ap (λ n. keys_for n laid.parts ++ map (λ (pair : Pair). pair.0) old.open_pairs) begins) (omega (arith, closes.begins, closes.ends))
      (begin_before 0 closes.handle.offset laid.parts laid.linked (omega (arith, closes.begins, laid.placed))) in
      record {
        parts = laid.parts ++ part ∷ [];
        each = all_append (IsPart Decodes cmp (written ++ bytes)) laid.parts (part ∷ []) (all_with (IsPart Decodes cmp written) (IsPart Decodes cmp (written ++ bytes)) (part_more Decodes cmp written bytes) laid.parts laid.each) (
          record {
            text = closes.text;
            is_there = record { id = id; stored = closes.stored; is_there = is_there; decoded = closes.decoded };
            block = closes.made.block;
            some = some;
          },
          tt,
        );
        exact = subst (λ n. AllByRecursion (λ part. HasBlockAt Decodes (written ++ bytes) part.handle (block_made n part.pairs)) (laid.parts ++ part ∷ [])) (sym closes.same_intervals.0)
            (all_append (λ part. HasBlockAt Decodes (written ++ bytes) part.handle (block_made old.interval part.pairs)) laid.parts (part ∷ []) (made_more Decodes old.interval written bytes laid.parts laid.exact) (
              record { id = id; stored = closes.stored; is_there = is_there; decoded = subst (Decodes id closes.stored) closes.made.exact closes.decoded },
              tt,
            ));
        under = all_append (λ part. IsStoredUnder (written ++ bytes) id part.handle) laid.parts (part ∷ [])
            (all_with (λ part. IsStoredUnder written id part.handle) (λ part. IsStoredUnder (written ++ bytes) id part.handle) (under_more id written bytes) laid.parts laid.under) ((closes.stored, is_there), tt);
        lined = closes.line ∙ ap (λ z. z ++ (sep (last_added old.open_pairs) next, handle_bytes closes.handle) ∷ []) laid.lined ∙ sym (map-append index_pair laid.parts (part ∷ []));
        separated = separated_push sep laid.parts part next laid.separated refl;
        linked = subst (AreLinked 0) (sym handles) (linked_push 0 (map (λ part. part.handle) laid.parts) closes.handle laid.linked (closes.begins ∙ laid.placed ∙ (let same : blocks_len (map (λ part. part.handle) laid.parts) ≡ 0 + blocks_len (map (λ part. part.handle) laid.parts) = omega arith in same)));
        placed = (let more = blocks_push (map (λ part. part.handle) laid.parts) closes.handle in let is = ap blocks_len handles in omega (arith, more, is, closes.ends, laid.placed, closes.size));
        whole = omega (arith, size, laid.whole, closes.ends, length-append written bytes);
        pairs_are =
            laid.pairs_are
            ∙ sym (ap (λ z. flat_map (λ (part : Part). part.pairs) (laid.parts ++ part ∷ []) ++ z) closes.none_open ∙ append-nil (flat_map (λ (part : Part). part.pairs) (laid.parts ++ part ∷ []))
            ∙ flat_map-append (λ (part : Part). part.pairs) laid.parts (part ∷ []) ∙ ap (λ z. flat_map (λ (part : Part). part.pairs) laid.parts ++ z) (append-nil old.open_pairs));
        sorted = laid.sorted;
        accepted = laid.accepted;
        kept = all_append (λ part. KeepsAll (matches old.filter.policy) new.filter part.handle.offset part.pairs) laid.parts (part ∷ [])
            (all_with (λ part. KeepsAll (matches old.filter.policy) old.filter part.handle.offset part.pairs) (λ part. KeepsAll (matches old.filter.policy) new.filter part.handle.offset part.pairs)
            (λ part h. kept_started old.filter new.filter new.offset part.handle.offset part.pairs closes.started same h) laid.parts laid.kept) (
              kept_started old.filter new.filter new.offset closes.handle.offset old.open_pairs closes.started same
                  (subst (λ offset. KeepsAll (matches old.filter.policy) old.filter offset old.open_pairs) (sym closes.begins) laid.open_kept),
              tt,
            );
        open_kept = subst (KeepsAll (matches old.filter.policy) new.filter new.offset) (sym closes.none_open) tt;
        made = ap (λ (more : FiltersBuilt FP). more.filters) closes.started ∙ filters.0;
        open_keys = ap (λ (more : FiltersBuilt FP). more.keys) closes.started ∙ filters.1
            ∙ sym (ap (λ z. keys_for (new.offset / 2048) (laid.parts ++ part ∷ []) ++ map (λ (pair : Pair). pair.0) z) closes.none_open ∙ append-nil (keys_for (new.offset / 2048) (laid.parts ++ part ∷ [])));
        counted = closes.count ∙ laid.counted;
      }

  -- and the next key goes into an empty block
  pub laid_anew : (old new : Stage FP) (id : ℕ) (next bytes written : List ℕ) (pairs : List Pair) → old.open_pairs ≢ [] → new.filter.policy ≡ old.filter.policy
      → Closes Decodes cmp sep (make old.filter.policy) id next old bytes new → IsLaidOut Decodes accepts cmp sep (matches old.filter.policy) (make old.filter.policy) id old (first_key old.open_pairs) written pairs
      → IsLaidOut Decodes accepts cmp sep (matches old.filter.policy) (make old.filter.policy) id new (first_key (new.open_pairs ++ (next, []) ∷ [])) (written ++ bytes) pairs
  laid_anew old new id next bytes written pairs some same closes laid =
      subst (λ z. IsLaidOut Decodes accepts cmp sep (matches old.filter.policy) (make old.filter.policy) id new (first_key (z ++ (next, []) ∷ [])) (written ++ bytes) pairs) (sym closes.none_open)
      (laid_closed old new id next bytes written pairs some same closes laid)

  pub follows_closed : (old new : Stage FP) (id : ℕ) (next bytes : List ℕ) → Closes Decodes cmp sep (make old.filter.policy) id next old bytes new → accepts next ≡ true → cmp (sep (last_added old.open_pairs) next) next ≡ Less
      → Follows accepts cmp new next
  follows_closed old new id next bytes closes accepted less =
      let line : Pair = (sep (last_added old.open_pairs) next, handle_bytes closes.handle) in
      record {
        accepted = accepted;
        after = λ _. ap (λ z. cmp (last_added z) next) (ap (λ z. new.lines ++ z) closes.none_open ∙ append-nil new.lines ∙ closes.line) ∙ ap (λ z. cmp z next) (last_pushed old.lines line) ∙ less;
      }

  first_same : (open_pairs : List Pair) (key value : List ℕ) → first_key (open_pairs ++ (key, []) ∷ []) ≡ first_key (open_pairs ++ (key, value) ∷ [])
  first_same [] key value = refl
  first_same (pair ∷ pairs) key value = refl

  -- a pair is added to the open block
  pub laid_added : {id : ℕ} (mid : Stage FP) (key value written : List ℕ) (pairs : List Pair) → accepts key ≡ true → (pairs ≢ [] → cmp (last_added pairs) key ≡ Less) → mid.offset / 2048 ≡ length mid.filter.filters
      → IsLaidOut Decodes accepts cmp sep (matches mid.filter.policy) (make mid.filter.policy) id mid (first_key (mid.open_pairs ++ (key, []) ∷ [])) written pairs
      → IsLaidOut Decodes accepts cmp sep (matches mid.filter.policy) (make mid.filter.policy) id (with_pair (key, value) mid)
      (first_key (mid.open_pairs ++ (key, value) ∷ [])) written (pairs ++ (key, value) ∷ [])
  laid_added mid key value written pairs accepted after opened laid =
      let Kept : ℕ → List Pair → Type 0 = KeepsAll (matches mid.filter.policy) mid.filter in
      let More : ℕ → List Pair → Type 0 = KeepsAll (matches mid.filter.policy) (with_key key mid.filter) in
      let more : (offset : ℕ) (others : List Pair) → Kept offset others → More offset others =
      λ offset others. all_with (λ pair. IsKeyKept (matches mid.filter.policy) mid.filter.filters mid.filter.keys offset pair.0) (λ pair. IsKeyKept (matches mid.filter.policy) mid.filter.filters (with_key key mid.filter).keys offset pair.0)
      (λ pair h. keeps.goes_on mid.filter offset pair.0 key h) others in
      record {
        parts = laid.parts;
        each = laid.each;
        exact = laid.exact;
        under = laid.under;
        lined = laid.lined;
        separated = subst (AreSeparated sep laid.parts) (first_same mid.open_pairs key value) laid.separated;
        linked = laid.linked;
        placed = laid.placed;
        whole = laid.whole;
        pairs_are = ap (λ z. z ++ (key, value) ∷ []) laid.pairs_are ∙ append_assoc (flat_map (λ (part : Part). part.pairs) laid.parts) mid.open_pairs ((key, value) ∷ []);
        sorted = rise_push cmp pairs (key, value) laid.sorted after;
        accepted = all_append (λ (pair : Pair). accepts pair.0 ≡ true) pairs ((key, value) ∷ []) laid.accepted (accepted, tt);
        kept = all_with (λ (part : Part). Kept part.handle.offset part.pairs) (λ (part : Part). More part.handle.offset part.pairs) (λ part h. more part.handle.offset part.pairs h) laid.parts laid.kept;
        open_kept = all_append (λ (pair : Pair). IsKeyKept (matches mid.filter.policy) mid.filter.filters (with_key key mid.filter).keys mid.offset pair.0) mid.open_pairs ((key, value) ∷ []) (more mid.offset mid.open_pairs laid.open_kept)
            (keeps.adds mid.filter mid.offset key opened, tt);
        made = laid.made;
        open_keys = ap (λ z. z ++ key ∷ []) laid.open_keys ∙ append_assoc (keys_for (mid.offset / 2048) laid.parts) (map (λ (pair : Pair). pair.0) mid.open_pairs) (key ∷ [])
            ∙ ap (λ z. keys_for (mid.offset / 2048) laid.parts ++ z) (sym (map-append (λ (pair : Pair). pair.0) mid.open_pairs ((key, value) ∷ [])));
        counted = let n = length_push pairs (key, value) in omega (arith, n, laid.counted);
      }

  none_parts : (lines : List Pair) (parts : List Part) → lines ≡ [] → lines ≡ map index_pair parts → parts ≡ []
  none_parts lines [] e f = refl
  none_parts lines (part ∷ parts) e f = absurd (omega (arith, ap length (sym e ∙ f)))

  separated_none : (parts : List Part) (next : List ℕ) → parts ≡ [] → AreSeparated sep parts next
  separated_none parts next e = subst (λ z. AreSeparated sep z next) (sym e) tt

  same_next : (lines : List Pair) (parts : List Part) (open_pairs : List Pair) (next : List ℕ) → (open_pairs ≡ [] → lines ≡ []) → lines ≡ map index_pair parts → AreSeparated sep parts (first_key open_pairs)
      → AreSeparated sep parts (first_key (open_pairs ++ (next, []) ∷ []))
  same_next lines parts [] next none lined h = separated_none parts next (none_parts lines parts (none refl) lined)
  same_next lines parts (first ∷ pairs) next none lined h = h

  -- the open block has room: what was laid out stays so
  pub laid_room : {k : List (List ℕ) → List ℕ} {id : ℕ} (m : List ℕ → List ℕ → Bool) (stage : Stage FP) (next written : List ℕ) (pairs : List Pair) → (stage.open_pairs ≡ [] → stage.lines ≡ [])
      → IsLaidOut Decodes accepts cmp sep m k id stage (first_key stage.open_pairs) written pairs → IsLaidOut Decodes accepts cmp sep m k id stage (first_key (stage.open_pairs ++ (next, []) ∷ [])) (written ++ []) pairs
  laid_room {k} {id} m stage next written pairs none laid = subst (λ z. IsLaidOut Decodes accepts cmp sep m k id stage (first_key (stage.open_pairs ++ (next, []) ∷ [])) z pairs) (sym (append-nil written))
      (record {
        parts = laid.parts;
        each = laid.each;
        exact = laid.exact;
        under = laid.under;
        lined = laid.lined;
        separated = same_next stage.lines laid.parts stage.open_pairs next none laid.lined laid.separated;
        linked = laid.linked;
        placed = laid.placed;
        whole = laid.whole;
        pairs_are = laid.pairs_are;
        sorted = laid.sorted;
        accepted = laid.accepted;
        kept = laid.kept;
        open_kept = laid.open_kept;
        made = laid.made;
        open_keys = laid.open_keys;
        counted = laid.counted;
      })

  follows_by : (lines : List Pair) (parts : List Part) (open_pairs pairs : List Pair) (next : List ℕ) → (open_pairs ≡ [] → lines ≡ []) → lines ≡ map index_pair parts → pairs ≡ flat_map (λ (part : Part). part.pairs) parts ++ open_pairs
      → (lines ++ open_pairs ≢ [] → cmp (last_added (lines ++ open_pairs)) next ≡ Less) → pairs ≢ [] → cmp (last_added pairs) next ≡ Less
  follows_by lines parts [] pairs next none lined e h some =
      absurd (some (e ∙ ap (λ z. flat_map (λ (part : Part). part.pairs) z ++ []) (none_parts lines parts (none refl) lined)))
  follows_by lines parts (first ∷ others) pairs next none lined e h some =
      ap (λ z. cmp z next) (ap last_added e ∙ last_after (flat_map (λ (part : Part). part.pairs) parts) first others) ∙ after_open cmp lines (first ∷ others) next (some_append [] first others) h

  -- the next key is after all pairs
  pub follows_all : {k : List (List ℕ) → List ℕ} {id : ℕ} (m : List ℕ → List ℕ → Bool) (stage : Stage FP) (after next written : List ℕ) (pairs : List Pair) → (stage.open_pairs ≡ [] → stage.lines ≡ []) → Follows accepts cmp stage next
      → IsLaidOut Decodes accepts cmp sep m k id stage after written pairs → pairs ≢ [] → cmp (last_added pairs) next ≡ Less
  follows_all m stage after next written pairs none follows laid = follows_by stage.lines laid.parts stage.open_pairs pairs next none laid.lined laid.pairs_are follows.after

-- the pairs of some entries are some
pub some_pairs : (entries : List BlockEntry) → 0 < length entries → pairs_of None entries ≢ []
some_pairs entries h e = absurd (omega (arith, h, ap length e, length-pairs_of None entries))

-- the last of all keys is the open block's
pub last_open : (all parts open_pairs : List Pair) → all ≡ parts ++ open_pairs → open_pairs ≢ [] → last_added all ≡ last_added open_pairs
last_open all parts [] e some = absurd (some refl)
last_open all parts (first ∷ pairs) e some = ap last_added e ∙ last_after parts first pairs
