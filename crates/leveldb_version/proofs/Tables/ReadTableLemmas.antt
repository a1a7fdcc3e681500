-- What a look-up by the compressors of a format finds in a table that is one by what its ids mean,
-- and why it fails there.
use Rattle.std.specs.Prelude.{◌≢◌, IsSome, IsSomeAnd, slice_get}
use Rattle.std.proofs.Common.{◌≡◌, inl, inr, ℕ, ◌+◌, ◌<◌, Bool, true, false, List, [], ◌∷◌, ◌++◌, length, map, Option, None, Some, Ok, Err, refl, sym, ◌∙◌, ap, subst, arith, if◌then◌else◌}
use Rattle.std.proofs.lemmas.List.{length-append, length-map}
use Rattle.std.specs.Map.{lookup}
use Rattle.std.specs.Str.{bytes_eq}
use Rattle.std.specs.declared.cmp.Ordering.{Ordering}
use Rattle.leveldb_base.specs.BlockHandle.{Handle, HandleFits, handle_bytes}
use Rattle.leveldb_base.specs.Cmp.{IsPreorderOn}
use Rattle.leveldb_base.specs.Types.{Pair, next_position, pair_at, position_within, seek_position}
use Rattle.leveldb_base.specs.declared.error.Status.{Status}
use Rattle.leveldb_base.specs.declared.error.StatusCode.TheVariants.{NotSupported}
use Rattle.leveldb_env.specs.Compressor.{Coding, Decodes, decoded_by, decoded_under}
use Rattle.leveldb_table.proofs.TableLemmas.{has_one_block, stores_one}
use Rattle.leveldb_table.proofs.TableReaderLemmas.{blocks_one, ends_one}
use Rattle.leveldb_table.proofs.TableReaderMovesLemmas.{let_none}
use Rattle.leveldb_table.proofs.TableReaderWalkLemmas.{all_at, current_at, first_is, found_at, lacks_some, named_at, pairs_cut, part_at, parts_some, position_in, position_none, position_out, same_handle, seek_after, seek_in, to_block}
use Rattle.leveldb_table.specs.Block.{IsBlock}
use Rattle.leveldb_table.specs.Table.{HasBlockAt, IsPart, Part, first_from, index_pair}
use Rattle.leveldb_table.specs.TableBlock.{IsUndecodedBy, LacksBlock, LacksLine, lacking, no_block, undecoded, unnamed, unstored}
use Rattle.leveldb_table.specs.TableLaws.{DecodesMore}
use Rattle.leveldb_table.specs.TableReader.{EndsInFooter, HasFiltersBy, HasParts, LacksPart, OpensAs, found_in, no_filters, no_footer, no_index, no_metaindex, not_indexed, pairs_in}
use Rattle.leveldb_table.specs.TableReaderBlocks.{IsAfterLine}
use Rattle.leveldb_table.specs.TableReaderMoves.{HasLine, InsideOr, LookUpFromLine, ToFirstPair, ToKeyByLineIfLet, ToKeyInBlock}
use Rattle.leveldb_table.specs.TableReaderWalk.{Outcome, TablePosition}
use Rattle.leveldb_files.specs.Stores.Format.{Agrees, Format, LacksCompressor, Meaning}

-- ---- options

decoded_some : {T : Type 0} {x : T} → None ≡ Some x → ⊥
decoded_some e = cc

some_by : (coding : Option Coding) (stored text : List ℕ) → decoded_under coding stored ≡ Some text → IsSome coding
some_by None stored text decoded = absurd (decoded_some decoded)
some_by (Some coding) stored text decoded = refl

same_some : {T : Type 0} {x y : T} → Some x ≡ Some y → x ≡ y
same_some e = cc

-- what holds of a value that is there
pub value_of : {T : Type 0} (P : T → Type 0) (o : Option T) → IsSomeAnd o P → (x : T) × (o ≡ Some x) × P x
value_of P None some = absurd some
value_of P (Some x) some = (x, refl, some)

-- a step comes to one position
pub same_outcome : {x y : TablePosition} (out : Outcome) → out ≡ Ok y → out ≡ Ok x → x ≡ y
same_outcome out p q = cc

-- or fails
no_outcome : {x : TablePosition} {status : Status} (out : Outcome) → out ≡ Ok x → out ≡ Err status → ⊥
no_outcome out p q = cc

-- ---- blocks

module _ {format : Format} {meaning : Meaning} (agrees : Agrees format meaning) where
  -- what the format decodes means the same
  decodes_more : DecodesMore (Decodes format.codings) (Decodes meaning.codings)
  decodes_more id stored text decoded = by (format.codings id) refl decoded
    where
      by : (o : Option Coding) → format.codings id ≡ o → decoded_under o stored ≡ Some text → decoded_by meaning.codings id stored ≡ Some text
      by None is none = absurd (decoded_some none)
      by (Some coding) is some = ap (λ o. decoded_under o stored) (agrees.codings id coding is) ∙ some

  pub block_more : {bytes : List ℕ} {handle : Handle} {text : List ℕ} → HasBlockAt (Decodes format.codings) bytes handle text → HasBlockAt (Decodes meaning.codings) bytes handle text
  block_more {text = text} has = record { id = has.id; stored = has.stored; is_there = has.is_there; decoded = decodes_more has.id has.stored text has.decoded }

  -- what is said where a compressor is wanting
  abbrev pub Wants : Status → Type 0
  Wants status = (status.code ≡ NotSupported) × LacksCompressor format meaning

  -- stored bytes with a meaning aren't decoded by the format only where it lacks their compressor
  wants_coding : (id : ℕ) (stored text : List ℕ) (status : Status) (o : Option Coding) → decoded_by meaning.codings id stored ≡ Some text → format.codings id ≡ o → IsUndecodedBy o id stored status → Wants status
  wants_coding id stored text status None means none why = (why.0, (id, some_by (meaning.codings id) stored text means, none))
  wants_coding id stored text status (Some coding) means some why =
      absurd (decoded_some (sym why.0 ∙ sym (ap (λ o. decoded_under o stored) (agrees.codings id coding some)) ∙ means))

  -- nor is a block lacking that is there
  pub lacks_block : {cmp : List ℕ → List ℕ → Ordering} {bytes : List ℕ} {handle : Handle} {status : Status} {text : List ℕ} {pairs : List Pair} → HasBlockAt (Decodes meaning.codings) bytes handle text → IsBlock cmp text pairs
      → LacksBlock format.codings cmp bytes handle status → Wants status
  lacks_block there block (unstored none code) = absurd (none there.id there.stored there.is_there)
  lacks_block {status = status} {text = text} there block (undecoded id stored is_there why) =
      let same = stores_one there.is_there is_there in
      let means : decoded_by meaning.codings id stored ≡ Some text =
      ap (λ z. decoded_by meaning.codings z stored) (sym same.0) ∙ ap (decoded_by meaning.codings there.id) (sym same.1) ∙ there.decoded in
      wants_coding id stored text status (format.codings id) means refl why
  lacks_block {cmp} {pairs = pairs} there block (no_block found is_there none code) =
      absurd (none pairs (subst (λ z. IsBlock cmp z pairs) (has_one_block meaning.codings there (block_more is_there)) block))

  -- ---- opening

  pub opens_more : {cmp : List ℕ → List ℕ → Ordering} {key bytes : List ℕ} {size : ℕ} {lines : List Pair} {meta index : Handle} {filters : Option (List (List ℕ))} → OpensAs format.codings cmp key bytes size lines meta index filters
      → OpensAs meaning.codings cmp key bytes size lines meta index filters
  opens_more opens = record {
    indexed = record {
      footer = opens.indexed.footer;
      index_text = opens.indexed.index_text;
      index_is_there = block_more opens.indexed.index_is_there;
      index_block = opens.indexed.index_block;
    };
    meta_text = opens.meta_text;
    metas = opens.metas;
    meta_is_there = block_more opens.meta_is_there;
    meta_block = opens.meta_block;
    filtered = opens.filtered;
  }

  -- a file that can be opened by what its ids mean can't by the format only where that lacks a
  -- compressor
  module _ {cmp : List ℕ → List ℕ → Ordering} {key bytes : List ℕ} {lines : List Pair} {meta index : Handle} {filters : Option (List (List ℕ))} (opens : OpensAs meaning.codings cmp key bytes (length bytes) lines meta index filters) where
    same_ends : {other_meta other_index : Handle} → EndsInFooter bytes (length bytes) other_meta other_index → (meta ≡ other_meta) × (index ≡ other_index)
    same_ends ends =
        let footer = opens.indexed.footer in
        ends_one footer.front ends.front footer.meta_fits footer.index_fits ends.meta_fits ends.index_fits footer.ends ends.ends

    pub lacks_part : {status : Status} → LacksPart format.codings cmp key bytes (length bytes) status → Wants status
    lacks_part (not_indexed (no_footer none code)) = absurd (none meta index opens.indexed.footer)
    lacks_part (not_indexed (no_index at_meta at_index ends lacks)) =
        lacks_block (subst (λ h. HasBlockAt (Decodes meaning.codings) bytes h opens.indexed.index_text) (same_ends ends).1 opens.indexed.index_is_there) opens.indexed.index_block lacks
    lacks_part (no_metaindex at_meta at_index ends lacks) =
        lacks_block (subst (λ h. HasBlockAt (Decodes meaning.codings) bytes h opens.meta_text) (same_ends ends).0 opens.meta_is_there) opens.meta_block lacks
    lacks_part (no_filters at_meta at_index ends text metas there block none code) =
        let is_there = subst (λ h. HasBlockAt (Decodes meaning.codings) bytes h opens.meta_text) (same_ends ends).0 opens.meta_is_there in
        let same = blocks_one (has_one_block meaning.codings is_there (block_more there)) opens.meta_block block in
        absurd (none filters (subst (λ ms. HasFiltersBy bytes (lookup (bytes_eq key) ms) filters) same opens.filtered))

  -- ---- the data blocks by their lines

  module _ {accepts : List ℕ → Bool} {cmp : List ℕ → List ℕ → Ordering} {bytes : List ℕ}
      {parts : List Part} (has : HasParts meaning.codings accepts cmp bytes parts) where
    -- a data block with the line of this number
    pub record AtLine (i : ℕ) : Type 0 where
      pub part : Part
      pub there : slice_get parts i ≡ Some part
      pub is : IsPart (Decodes meaning.codings) cmp bytes part

    pub at_line : (i : ℕ) (line : Pair) → pair_at (map index_pair parts) (Some i) ≡ Some line → (at : AtLine i) × (line ≡ index_pair at.part)
    at_line i line is =
        let part = part_at parts i line is in
        (record { part = part.0; there = part.1; is = all_at (IsPart (Decodes meaning.codings) cmp bytes) parts i part.0 part.1 has.each }, part.2)

    pub named_handle : (i : ℕ) (handle : Handle) → IsSomeAnd (pair_at (map index_pair parts) (Some i)) (λ pair. pair.1 ≡ handle_bytes handle) → (at : AtLine i) × (handle ≡ at.part.handle)
    named_handle i handle names =
        let line = value_of (λ (pair : Pair). pair.1 ≡ handle_bytes handle) (pair_at (map index_pair parts) (Some i)) names in
        let at = at_line i line.0 line.1 in
        (at.0, same_handle handle at.0.part.handle (sym line.2 ∙ ap (λ (z : Pair). z.1) at.1))

    -- the block that a line leads to is that data block
    pub line_pairs : (i : ℕ) (pairs : List Pair) → HasLine format.codings cmp bytes (map index_pair parts) i pairs → (at : AtLine i) × (pairs ≡ at.part.pairs)
    line_pairs i pairs line =
        let at = at_line i (line.named.key, handle_bytes line.named.handle) line.named.names in
        let handle = same_handle line.named.handle at.0.part.handle (ap (λ (z : Pair). z.1) at.1) in
        let text = has_one_block meaning.codings (subst (λ h. HasBlockAt (Decodes meaning.codings) bytes h line.text) handle (block_more line.named.is_there)) at.0.is.is_there in
        (at.0, blocks_one text line.block at.0.is.block)

  -- ---- a look-up

  module _ {accepts : List ℕ → Bool} {cmp : List ℕ → List ℕ → Ordering} (order : IsPreorderOn accepts cmp) {bytes : List ℕ} {parts : List Part} (has : HasParts meaning.codings accepts cmp bytes parts)
      (may_contain : ℕ → List ℕ → Bool) (key : List ℕ) (fit : accepts key ≡ true) where
    abbrev lines : List Pair
    lines = map index_pair parts

    -- ---- what is found

    -- the pair at the key's position
    abbrev sought : Option Pair
    sought = pair_at (pairs_in parts) (seek_position cmp (pairs_in parts) key)

    -- where no line follows, no pair does
    after_end : {line position : Option ℕ} → IsAfterLine parts line position → next_position lines line ≡ None → position ≡ None
    after_end after none =
        let past = position_none lines (length after.before) (sym after.next ∙ none) in
        let all : length parts ≡ length after.before + length after.after = ap length after.parted ∙ length-append after.before after.after in
        let rest : after.after ≡ [] = empty after.after (omega (arith, past, all, length-map parts index_pair)) in
        let pairs : pairs_in parts ≡ pairs_in after.before ++ pairs_in after.after = ap pairs_in after.parted ∙ pairs_cut after.before after.after in
        let last : length (pairs_in after.after) ≡ 0 = ap (λ z. length (pairs_in z)) rest in
        after.to ∙ position_out (pairs_in parts) (length (pairs_in after.before)) (omega (arith, ap length pairs, length-append (pairs_in after.before) (pairs_in after.after), last))
      where
        empty : (xs : List Part) → length xs ≡ 0 → xs ≡ []
        empty [] e = refl
        empty (x ∷ xs) e = absurd (omega (arith, e))

    -- the first pair of the line after
    found_after : {i : ℕ} {position : Option ℕ} (new : TablePosition) (next : Option ℕ) → IsAfterLine parts (Some i) position → next_position lines (Some i) ≡ next → ToFirstPair format.codings cmp bytes lines next (Ok new)
        → pair_at new.pairs new.inner ≡ pair_at (pairs_in parts) position
    found_after new None after is nowhere = ap (pair_at new.pairs) nowhere.1 ∙ sym (ap (pair_at (pairs_in parts)) (after_end after is))
    found_after {position = position} new (Some k) after is into =
        let at = line_pairs has k new.pairs into.block in
        let first : position_within new.pairs 0 ≡ Some 0 = position_in new.pairs 0 (some_long new.pairs into.some) in
        ap (pair_at new.pairs) (into.position ∙ first) ∙ ap (λ ps. pair_at ps (Some 0)) at.1
        ∙ current_at parts (Some k) at.0.part.pairs (Some 0) position (to_block after k at.0.part is at.0.there at.0.is.some)
      where
        some_long : (xs : List Pair) → xs ≢ [] → 0 < length xs
        some_long [] some = absurd (some refl)
        some_long (x ∷ xs) some = omega arith

    -- the first pair at or after the key in this line's block, or that of the line after
    found_in_block : (i : ℕ) (at : AtLine has i) (new : TablePosition) → seek_position cmp lines key ≡ Some i → ToKeyInBlock format.codings cmp bytes lines key i (Ok new) → pair_at new.pairs new.inner ≡ sought
    found_in_block i at new named to = by (seek_position cmp to.pairs key) refl to.outcome
      where
        other : (at : AtLine has i) × (to.pairs ≡ at.part.pairs)
        other = line_pairs has i to.pairs to.block

        by : (o : Option ℕ) → seek_position cmp to.pairs key ≡ o
            → InsideOr o (record { line = Some i; pairs = to.pairs; inner = None }) (Ok new) (ToFirstPair format.codings cmp bytes lines (next_position lines (Some i)) (Ok new)) → pair_at new.pairs new.inner ≡ sought
        by (Some j) found inside =
            let pairs = other.1 in
            let same = same_outcome (Ok new) inside refl in
            ap (λ (p : TablePosition). pair_at p.pairs p.inner) same ∙ ap (λ ps. pair_at ps (Some j)) pairs
            ∙ current_at parts (Some i) other.0.part.pairs (Some j) (seek_position cmp (pairs_in parts) key)
            (seek_in order has.parted has.accepted key fit i other.0.part j named other.0.there (ap (λ ps. seek_position cmp ps key) (sym pairs) ∙ found))
        by None none after =
            found_after new (next_position lines (Some i))
            (seek_after order has.parted has.accepted key fit (parts_some has) i other.0.part named other.0.there (ap (λ ps. seek_position cmp ps key) (sym other.1) ∙ none)) refl after

    -- as the filters let the key pass
    found_if_let : (i : ℕ) (at : AtLine has i) (new : TablePosition) (b : Bool) → seek_position cmp lines key ≡ Some i → may_contain at.part.handle.offset key ≡ b → ToKeyByLineIfLet format.codings cmp bytes lines b key i (Ok new)
        → pair_at new.pairs new.inner ≡ found_in cmp may_contain key parts
    found_if_let i at new b named is to = by b is to
      where
        found_is : (b : Bool) → may_contain at.part.handle.offset key ≡ b → found_in cmp may_contain key parts ≡ (if b then first_from cmp key (pairs_in parts) else None)
        found_is b is =
            ap (λ (o : Option Part). elim o [ None ↦ None | Some part ↦ if may_contain part.handle.offset key then first_from cmp key (pairs_in parts) else None ]) (named_at cmp key parts i at.part named at.there)
            ∙ ap (λ z. if z then first_from cmp key (pairs_in parts) else None) is

        by : (b : Bool) → may_contain at.part.handle.offset key ≡ b → ToKeyByLineIfLet format.codings cmp bytes lines b key i (Ok new) → pair_at new.pairs new.inner ≡ found_in cmp may_contain key parts
        by true is to = found_in_block i at new named to ∙ sym (first_is cmp key (pairs_in parts)) ∙ sym (found_is true is)
        by false is to = ap (pair_at new.pairs) to ∙ sym (found_is false is)

    -- by the line that the index has for the key
    pub look_up_finds : (new : TablePosition) → LookUpFromLine format.codings cmp bytes lines may_contain key (seek_position cmp lines key) (Ok new) → pair_at new.pairs new.inner ≡ found_in cmp may_contain key parts
    look_up_finds new look_up = by (seek_position cmp lines key) refl look_up
      where
        by : (o : Option ℕ) → seek_position cmp lines key ≡ o → LookUpFromLine format.codings cmp bytes lines may_contain key o (Ok new) → pair_at new.pairs new.inner ≡ found_in cmp may_contain key parts
        by None none nowhere =
            ap (pair_at new.pairs) nowhere.1 ∙ sym (ap (pair_at (pairs_in parts)) (let_none cmp may_contain key parts none)) ∙ found_at cmp may_contain key parts
        by (Some i) named line =
            let at = named_handle has i line.handle line.names in
            found_if_let i at.0 new (may_contain at.0.part.handle.offset key) named refl
            (subst (λ (h : Handle). ToKeyByLineIfLet format.codings cmp bytes lines (may_contain h.offset key) key i (Ok new)) at.1 line.outcome)

    -- ---- why it fails

    lacks_line : (i : ℕ) (status : Status) → LacksLine format.codings cmp bytes (pair_at lines (Some i)) status → Wants status
    lacks_line i status lacks = by (pair_at lines (Some i)) refl lacks
      where
        by : (o : Option Pair) → pair_at lines (Some i) ≡ o → LacksLine format.codings cmp bytes o status → Wants status
        by None is none = absurd (lacks_some none)
        by (Some line) is (unnamed none code) =
            let at = at_line has i line is in
            absurd (none at.0.part.handle at.0.is.is_there.is_there.fits (ap (λ (z : Pair). z.1) at.1))
        by (Some line) is (lacking handle names block) =
            let at = at_line has i line is in
            let same = same_handle handle at.0.part.handle (sym names ∙ ap (λ (z : Pair). z.1) at.1) in
            lacks_block at.0.is.is_there at.0.is.block (subst (λ h. LacksBlock format.codings cmp bytes h status) same block)

    lacks_after : (status : Status) (next : Option ℕ) → ToFirstPair format.codings cmp bytes lines next (Err status) → Wants status
    lacks_after status None nowhere = absurd nowhere
    lacks_after status (Some k) (inl line) = lacks_line k status line
    lacks_after status (Some k) (inr empty) = let at = line_pairs has k [] empty.0 in absurd (at.0.is.some (sym at.1))

    lacks_in_block : (i : ℕ) (status : Status) → ToKeyInBlock format.codings cmp bytes lines key i (Err status) → Wants status
    lacks_in_block i status to = by (seek_position cmp to.pairs key) to.outcome
      where
        by : (o : Option ℕ) → InsideOr o (record { line = Some i; pairs = to.pairs; inner = None }) (Err status) (ToFirstPair format.codings cmp bytes lines (next_position lines (Some i)) (Err status)) → Wants status
        by (Some j) inside = absurd (no_outcome (Err status) inside refl)
        by None after = lacks_after status (next_position lines (Some i)) after

    -- a look-up fails only where the format lacks a compressor
    pub look_up_lacks : (status : Status) → LookUpFromLine format.codings cmp bytes lines may_contain key (seek_position cmp lines key) (Err status) → Wants status
    look_up_lacks status look_up = by (seek_position cmp lines key) look_up
      where
        by_let : (i : ℕ) (b : Bool) → ToKeyByLineIfLet format.codings cmp bytes lines b key i (Err status) → Wants status
        by_let i true (inl line) = lacks_line i status line
        by_let i true (inr to) = lacks_in_block i status to
        by_let i false to = absurd to

        by : (o : Option ℕ) → LookUpFromLine format.codings cmp bytes lines may_contain key o (Err status) → Wants status
        by None nowhere = absurd nowhere
        by (Some i) (inl none) =
            let line = value_of (λ (pair : Pair). (handle : Handle) → HandleFits handle → pair.1 ≡ handle_bytes handle → ⊥) (pair_at lines (Some i)) none.0 in
            let at = at_line has i line.0 line.1 in
            absurd (line.2 at.0.part.handle at.0.is.is_there.is_there.fits (ap (λ (z : Pair). z.1) at.1))
        by (Some i) (inr line) = by_let i (may_contain line.handle.offset key) line.outcome
