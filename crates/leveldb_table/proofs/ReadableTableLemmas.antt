-- Readable tables: by their keys, their blocks and the lines of their index.
use Rattle.std.proofs.Common.{◌≡◌, ◌≢◌, ◌+◌, ◌-◌, ◌/◌, ◌%◌, ◌<◌, ◌≤◌, ◌^◌, ℕ, zero, suc, Bool, true, false, cond, nat_le, nat_lt, List, [], ◌∷◌, ◌++◌, length, map, drop, Option, None, Some, slice_get, refl, sym, ◌∙◌, ap, subst, arith, length-append, add-one}
use Rattle.std.specs.Prelude.{◌↔◌, Contains, IfSome}
use Rattle.std.specs.List.{All, AllByRecursion}
use Rattle.std.specs.declared.cmp.Ordering.{Ordering}
use Rattle.std.specs.declared.cmp.Ordering.TheVariants.{Less}
use Rattle.std.proofs.Math.ListN.{drop_of_length-le}
use Rattle.std.proofs.lemmas.Bool.{le-leb}
use Rattle.std.proofs.lemmas.Bool.Decides.{nat_tests}
use Rattle.std.proofs.lemmas.List.{take_all}
use Rattle.byteorder.specs.Endian.{little_number}
use Rattle.leveldb_base.proofs.HistoryLemmas.{in_front, in_rest}
use Rattle.leveldb_base.proofs.KeyTypesLemmas.{internal_key-parts}
use Rattle.leveldb_base.specs.BlockHandle.{Handle}
use Rattle.leveldb_base.specs.Cmp.{IsPreorderOn, bytewise}
use Rattle.leveldb_base.specs.CmpLaws.{length-internal_key, tag_part-internal_key, type_number-le}
use Rattle.leveldb_base.specs.KeyTypes.{sequence_part, tag, tag_part, type_part, user_part}
use Rattle.leveldb_base.specs.Types.{Pair, next_position, pair_at, position_within}
use Rattle.leveldb_env.specs.Compressor.{Codings, Decodes}
use Rattle.leveldb_table.specs.Block.{IsBlock, IsNoBlock, KeysRise, RiseAfter}
use Rattle.leveldb_table.specs.ReadableTable.{HasNoBlockByMore, IsKeyBetween, IsNumberedKey, IsNumberedTable, LinesHold, TestsByMore}
use Rattle.leveldb_table.specs.Table.{AreParted, FiltersHold, HasBlockAt, IsAtOrAfterAll, IsBeforeAll, IsPart, Part, StoresAt, index_pair, with_trailer}
use Rattle.leveldb_table.specs.TableBlock.{StoresNothing}
use Rattle.leveldb_table.specs.TableLaws.{DecodesMore}
use Rattle.leveldb_table.specs.TableReader.{EndsInFooter, HasIndex, pairs_in}
use Rattle.leveldb_table.proofs.TableLemmas.{all_append, all_left, all_right, all_with, has_one_block, length-with_trailer, then_less, turned_from}
use Rattle.leveldb_table.proofs.TableMoreLemmas.{block_by_more}
use Rattle.leveldb_table.proofs.TableReaderLemmas.{ends_one, index_read}

-- ---- tests

-- the same of what follows from one another
pub tests_same : (codings : Codings) (Holds Others : (ℕ → List ℕ → List ℕ → Type 0)
    → Type 0) (test : Bool)
    → ((more : Codings) → DecodesMore (Decodes codings) (Decodes more)
    → Holds (Decodes more) ↔ Others (Decodes more))
    → TestsByMore codings Holds test → TestsByMore codings Others test
tests_same codings Holds Others test same tests more by =
    let here = tests more by in
    let there = same more by in
    (λ e. there.0 (here.0 e), λ h. here.1 (there.1 h))

-- ---- the pairs from a position on

abbrev pub rest_from : List Pair → Option ℕ → List Pair
rest_from pairs None = []
rest_from pairs (Some i) = drop i pairs

pub rest_within : (pairs : List Pair) (n : ℕ)
    → rest_from pairs (position_within pairs n) ≡ drop n pairs
rest_within pairs n = by (nat_lt n (length pairs)) refl
  where
    by : (b : Bool) → nat_lt n (length pairs) ≡ b
        → rest_from pairs (cond b (Some n) None) ≡ drop n pairs
    by true e = refl
    by false e = let h : length pairs ≤ n = grind (arith, nat_tests) in sym (drop_of_length-le pairs
        h)

none_at : (pairs : List Pair) (i : ℕ) → None ≡ slice_get pairs i → drop i pairs ≡ []
none_at [] zero e = refl
none_at [] (suc i) e = refl
none_at (pair ∷ pairs) zero e = cc
none_at (pair ∷ pairs) (suc i) e = none_at pairs i e

pub rest_none : (pairs : List Pair) (position : Option ℕ) → None ≡ pair_at pairs position
    → rest_from pairs position ≡ []
rest_none pairs None e = refl
rest_none pairs (Some i) e = none_at pairs i e

some_at : (pairs : List Pair) (i : ℕ) (pair : Pair) → Some pair ≡ slice_get pairs i
    → drop i pairs ≡ pair ∷ drop (suc i) pairs
some_at [] i pair e = cc
some_at (first ∷ pairs) zero pair e = let same : pair ≡ first = cc in ap (λ z. z ∷ pairs) (sym same)
some_at (first ∷ pairs) (suc i) pair e = some_at pairs i pair e

pub rest_some : (pairs : List Pair) (position : Option ℕ) (pair : Pair)
    → Some pair ≡ pair_at pairs position
    → rest_from pairs position ≡ pair ∷ rest_from pairs (next_position pairs position)
rest_some pairs None pair e = cc
rest_some pairs (Some i) pair e =
    some_at pairs i pair e ∙ ap (λ z. pair ∷ z) (ap (λ n. drop n pairs) (sym (add-one i)) ∙ sym
    (rest_within pairs (i + 1)))

-- a pair there is one of them
contains_at : (pairs : List Pair) (i : ℕ) (pair : Pair) → Some pair ≡ slice_get pairs i
    → Contains pairs pair
contains_at [] i pair e = cc
contains_at (first ∷ pairs) zero pair e = let same : pair ≡ first = cc in subst (Contains (first ∷
    pairs)) (sym same) (in_front first pairs)
contains_at (first ∷ pairs) (suc i) pair e = in_rest first pair pairs (contains_at pairs i pair e)

pub rest_contains : (pairs : List Pair) (position : Option ℕ) (pair : Pair)
    → Some pair ≡ pair_at pairs position → Contains pairs pair
rest_contains pairs None pair e = cc
rest_contains pairs (Some i) pair e = contains_at pairs i pair e

-- ---- keys

-- what the last eight bytes say of a key
pub key_numbered : (key : List ℕ) (number : ℕ) → 8 ≤ length key → All (λ b. b < 256) key
    → number ≡ little_number 8 (drop (length key - 8) key) → number < 2 ^ 64 → number % 256 < 2
    → 0 < number / 256 → IsNumberedKey key
key_numbered key number long small is fits kind from =
    let eight : nat_le 8 (length key) ≡ true = le-leb 8 (length key) long in
    let at : tag_part key ≡ number = rw eight (sym is) in
    let sequence : sequence_part key ≡ number / 256 = ap (λ n. n / 256 % 2 ^ 56) at ∙ omega (
      arith,
      fits,
    ) in
    record {
      user = user_part key;
      sequence = sequence_part key;
      kind = type_part key;
      key_is = sym (internal_key-parts key long small (omega (arith, at, kind)));
      from_one = omega (arith, sequence, from);
      fits = omega (arith, sequence, fits);
    }

pub numbered_long : {key : List ℕ} → IsNumberedKey key → 8 ≤ length key
numbered_long is = omega (
  arith,
  ap length is.key_is,
  length-internal_key is.user is.sequence
      is.kind,
)

pub numbered_tag : {key : List ℕ} (number : ℕ) → IsNumberedKey key
    → number ≡ little_number 8 (drop (length key - 8) key) → (number % 256 < 2) × (0 < number / 256)
numbered_tag {key} number is at =
    let eight : nat_le 8 (length key) ≡ true = le-leb 8 (length key) (numbered_long is) in
    let here : tag_part key ≡ number = rw eight (sym at) in
    let there : number ≡ tag is.sequence is.kind = sym here ∙ ap tag_part is.key_is ∙
    tag_part-internal_key is.user is.sequence is.kind is.fits in
    let kind = type_number-le is.kind in
    (omega (arith, there, kind), omega (arith, there, kind, is.from_one))

-- ---- keys between lines

module _ (accepts : List ℕ → Bool) (cmp : List ℕ → List ℕ → Ordering) where
  afters : (before : Option (List ℕ)) (pairs : List Pair) → ((last : List ℕ) → before ≡ Some last
      → IsBeforeAll cmp last pairs)
      → AllByRecursion (λ pair. IfSome before (λ last. cmp last pair.0 ≡ Less)) pairs
  afters before [] h = tt
  afters None (pair ∷ pairs) h = (tt, afters None pairs (λ last e. cc))
  afters (Some last) (pair ∷ pairs) h = h last refl

  betweens : (before : Option (List ℕ)) (line : List ℕ) (pairs : List Pair)
      → AllByRecursion (λ pair. accepts pair.0 ≡ true) pairs
      → AllByRecursion (λ pair. IsNumberedKey pair.0) pairs
      → AllByRecursion (λ pair. IfSome before (λ last. cmp last pair.0 ≡ Less)) pairs
      → IsAtOrAfterAll cmp line pairs
      → AllByRecursion (λ pair. IsKeyBetween accepts cmp before line pair.0) pairs
  betweens before line [] accepted numbered after upto = tt
  betweens before line (pair ∷ pairs) accepted numbered after upto = (
    record { accepted = accepted.0; numbered = numbered.0; after = after.0; upto = upto.0 },
    betweens before line pairs accepted.1 numbered.1 after.1 upto.1,
  )

-- ---- keys of blocks that rise from one to the next

module _ (cmp : List ℕ → List ℕ → Ordering) where
  -- the first of the pairs is after a key
  abbrev StartsAfter : List ℕ → List Pair → Type 0
  StartsAfter key [] = Unit {0}
  StartsAfter key (pair ∷ pairs) = cmp key pair.0 ≡ Less

  -- the first of the blocks is after a key
  abbrev HeadIsAfter : List ℕ → List Part → Type 0
  HeadIsAfter key [] = Unit {0}
  HeadIsAfter key (part ∷ parts) = IsBeforeAll cmp key part.pairs

  starts_on : (key : List ℕ) (pairs others : List Pair) → pairs ≢ [] → IsBeforeAll cmp key pairs
      → StartsAfter key (pairs ++ others)
  starts_on key [] others some after = absurd (some refl)
  starts_on key (pair ∷ pairs) others some after = after.0

  starts_after : (Decodes : ℕ → List ℕ → List ℕ
      → Type 0) (bytes : List ℕ) (key : List ℕ) (parts : List Part)
      → AllByRecursion (IsPart Decodes cmp bytes) parts → HeadIsAfter key parts
      → StartsAfter key (pairs_in parts)
  starts_after Decodes bytes key [] each after = tt
  starts_after Decodes bytes key (part ∷ parts) each after = starts_on key part.pairs (pairs_in
      parts) each.0.some after

  parted_cons : (part : Part) (parts : List Part) → IsAtOrAfterAll cmp part.index_key part.pairs
      → HeadIsAfter part.index_key parts → AreParted cmp parts → AreParted cmp (part ∷ parts)
  parted_cons part [] upto after parted = upto
  parted_cons part (next ∷ parts) upto after parted = (upto, after, parted)

  parted_upto : (part : Part) (parts : List Part) → AreParted cmp (part ∷ parts)
      → IsAtOrAfterAll cmp part.index_key part.pairs
  parted_upto part [] parted = parted
  parted_upto part (next ∷ parts) parted = parted.0

  parted_next : (part : Part) (parts : List Part) → AreParted cmp (part ∷ parts)
      → HeadIsAfter part.index_key parts
  parted_next part [] parted = tt
  parted_next part (next ∷ parts) parted = parted.1

  parted_rest : (part : Part) (parts : List Part) → AreParted cmp (part ∷ parts)
      → AreParted cmp parts
  parted_rest part [] parted = tt
  parted_rest part (next ∷ parts) parted = parted.2

module _ {accepts : List ℕ → Bool} {cmp : List ℕ → List ℕ
    → Ordering} (order : IsPreorderOn accepts cmp) (line : List ℕ) (line_accepted : accepts line ≡
    true) where
  first_joins : (first : Pair) (ys : List Pair) → accepts first.0 ≡ true
      → AllByRecursion (λ pair. accepts pair.0 ≡ true) ys → KeysRise cmp ys
      → cmp line first.0 ≢ Less → StartsAfter cmp line ys → RiseAfter cmp (Some first.0) ys
  first_joins first [] hf all rise upto after = tt
  first_joins first (next ∷ ys) hf all rise upto after = (
    then_less order first.0 line next.0 hf line_accepted all.0 (turned_from order first.0 line hf
        line_accepted upto) after,
    rise,
  )

  joins_after : (first : Pair) (xs ys : List Pair)
      → AllByRecursion (λ pair. accepts pair.0 ≡ true) (first ∷ xs)
      → AllByRecursion (λ pair. accepts pair.0 ≡ true) ys → RiseAfter cmp (Some first.0) xs
      → KeysRise cmp ys
      → IsAtOrAfterAll cmp line (first ∷ xs) → StartsAfter cmp line ys
      → RiseAfter cmp (Some first.0) (xs ++ ys)
  joins_after first [] ys xall yall xrise yrise upto after = first_joins first ys xall.0 yall yrise
      upto.0 after
  joins_after first (next ∷ xs) ys xall yall xrise yrise upto after = (
    xrise.0,
    joins_after next xs
        ys xall.1 yall xrise.1 yrise upto.1 after,
  )

  -- keys up to a line, and keys after it
  joins : (xs ys : List Pair) → AllByRecursion (λ pair. accepts pair.0 ≡ true) xs
      → AllByRecursion (λ pair. accepts pair.0 ≡ true) ys → KeysRise cmp xs → KeysRise cmp ys
      → IsAtOrAfterAll cmp line xs → StartsAfter cmp line ys → KeysRise cmp (xs ++ ys)
  joins [] ys xall yall xrise yrise upto after = yrise
  joins (first ∷ xs) ys xall yall xrise yrise upto after = joins_after first xs ys xall yall xrise
      yrise upto after

-- ---- lines of an index

block_rises : {cmp : List ℕ → List ℕ → Ordering} {text : List ℕ} {pairs : List Pair}
    → IsBlock cmp text pairs → KeysRise cmp pairs
block_rises {cmp} block = subst (KeysRise cmp) (sym block.pairs_are) block.encoded.sorted

module _ (Decodes : ℕ → List ℕ → List ℕ → Type 0) (accepts : List ℕ → Bool) (cmp : List ℕ → List ℕ
    → Ordering) (bytes : List ℕ) where
  -- data blocks of these lines, as those of a table
  record AreLinesParts (before : Option (List ℕ)) (lines : List Pair) : Type 0 where
    parts : List Part
    lines_are : map index_pair parts ≡ lines
    each : AllByRecursion (IsPart Decodes cmp bytes) parts
    parted : AreParted cmp parts
    pairs_accepted : AllByRecursion (λ pair. accepts pair.0 ≡ true) (pairs_in parts)
    lines_accepted : AllByRecursion (λ part. accepts part.index_key ≡ true) parts
    rise : KeysRise cmp (pairs_in parts)
    numbered : AllByRecursion (λ pair. IsNumberedKey pair.0) (pairs_in parts)
    after : (last : List ℕ) → before ≡ Some last → HeadIsAfter cmp last parts

  parts_of : IsPreorderOn accepts cmp → (before : Option (List ℕ)) (lines : List Pair)
      → LinesHold Decodes accepts cmp bytes before lines → AreLinesParts before lines
  parts_of order before [] holds = record {
    parts = [];
    lines_are = refl;
    each = tt;
    parted = tt;
    pairs_accepted = tt;
    lines_accepted = tt;
    rise = tt;
    numbered = tt;
    after = λ last e. tt;
  }
  parts_of order before (line ∷ lines) holds =
      let here = holds.0 in
      let rest = parts_of order (Some line.0) lines holds.1 in
      let part : Part = record { handle = here.handle; index_key = line.0; pairs = here.pairs } in
      let Between : Pair → Type 0 = λ pair. IsKeyBetween accepts cmp before line.0 pair.0 in
      let accepted = all_with Between (λ pair. accepts pair.0 ≡ true) (λ pair is. is.accepted)
      here.pairs here.between.1 in
      let upto = all_with Between (λ pair. cmp line.0 pair.0 ≢ Less) (λ pair is. is.upto) here.pairs
      here.between.1 in
      let numbered = all_with Between (λ pair. IsNumberedKey pair.0) (λ pair is. is.numbered)
      here.pairs here.between.1 in
      let next = rest.after line.0 refl in
      record {
        parts = part ∷ rest.parts;
        lines_are = ap (λ value. (line.0, value) ∷ map index_pair rest.parts) (sym here.named) ∙ ap
            (λ z. line ∷ z) rest.lines_are;
        each = (
          record {
            text = here.text;
            is_there = here.is_there;
            block = here.block;
            some =
                here.between.0;
          },
          rest.each,
        );
        parted = parted_cons cmp part rest.parts upto next rest.parted;
        pairs_accepted = all_append (λ pair. accepts pair.0 ≡ true) here.pairs (pairs_in rest.parts)
            accepted rest.pairs_accepted;
        lines_accepted = (here.accepted, rest.lines_accepted);
        rise = joins order line.0 here.accepted here.pairs (pairs_in rest.parts) accepted
            rest.pairs_accepted (block_rises here.block) rest.rise upto
            (starts_after cmp Decodes bytes line.0 rest.parts rest.each next);
        numbered = all_append (λ pair. IsNumberedKey pair.0) here.pairs (pairs_in rest.parts)
            numbered rest.numbered;
        after = λ last e. all_with Between (λ pair. cmp last pair.0 ≡ Less) (λ pair is. subst (λ o.
            IfSome o (λ key. cmp key pair.0 ≡ Less)) e is.after) here.pairs here.between.1;
      }

  lines_of : (before : Option (List ℕ)) (parts : List Part)
      → AllByRecursion (IsPart Decodes cmp bytes) parts → AreParted cmp parts
      → AllByRecursion (λ pair. accepts pair.0 ≡ true) (pairs_in parts)
      → AllByRecursion (λ part. accepts part.index_key ≡ true) parts
      → AllByRecursion (λ pair. IsNumberedKey pair.0) (pairs_in parts) → ((last : List ℕ)
      → before ≡ Some last → HeadIsAfter cmp last parts)
      → LinesHold Decodes accepts cmp bytes before (map index_pair parts)
  lines_of before [] each parted accepted lines numbered after = tt
  lines_of before (part ∷ parts) each parted accepted lines numbered after =
      let Accepted : Pair → Type 0 = λ pair. accepts pair.0 ≡ true in
      let Numbered : Pair → Type 0 = λ pair. IsNumberedKey pair.0 in (
        record {
          handle = part.handle;
          named = refl;
          text = each.0.text;
          is_there = each.0.is_there;
          pairs = part.pairs;
          block = each.0.block;
          accepted = lines.0;
          between = (
            each.0.some,
            betweens accepts cmp before part.index_key part.pairs
                (all_left Accepted part.pairs (pairs_in parts) accepted)
                (all_left Numbered part.pairs (pairs_in parts) numbered)
                (afters accepts cmp before part.pairs after) (parted_upto cmp part parts parted),
          );
        },
        lines_of (Some part.index_key) parts each.1 (parted_rest cmp part parts parted) (all_right
            Accepted part.pairs (pairs_in parts) accepted) lines.1
            (all_right Numbered part.pairs (pairs_in parts) numbered)
            (λ last e. subst (λ key. HeadIsAfter cmp key parts) (some_key e) (parted_next cmp part
            parts parted)),
      )
    where
      some_key : {a b : List ℕ} → Some a ≡ Some b → a ≡ b
      some_key e = cc

-- ---- tables

filters_any : (file : List ℕ) (parts : List Part) (metas : List Pair)
    → AllByRecursion (FiltersHold (λ name. None) user_part file parts) metas
filters_any file parts [] = tt
filters_any file parts (meta ∷ metas) = (λ policy is. tt, filters_any file parts metas)

-- The lines of a file's index hold exactly if it is a table.
module _ {accepts : List ℕ → Bool} {cmp : List ℕ → List ℕ
    → Ordering} (order : IsPreorderOn accepts cmp) {codings : Codings} {bytes : List ℕ} {lines metas
    : List Pair} {meta index : Handle} {text : List ℕ}
    (indexed : HasIndex codings cmp bytes (length bytes) lines meta index) (is_there : HasBlockAt
    (Decodes codings) bytes meta text) (block : IsBlock bytewise text metas) where
  table_of_lines : LinesHold (Decodes codings) accepts cmp bytes None lines
      → (pairs : List Pair) × IsNumberedTable (Decodes codings) accepts cmp bytes pairs
  table_of_lines holds =
      let made = parts_of (Decodes codings) accepts cmp bytes order None lines holds in
      let ends = indexed.footer in (
        pairs_in made.parts,
        record {
          table = record {
            parts = made.parts;
            metas = metas;
            meta = meta;
            index = index;
            tabled = record {
              front = ends.front;
              ends = sym (take_all (length bytes) bytes (omega arith)) ∙ ends.ends;
              index_text = indexed.index_text;
              index_is_there = indexed.index_is_there;
              index_block = subst (IsBlock cmp indexed.index_text) (sym made.lines_are)
                  indexed.index_block;
              each = made.each;
              parted = made.parted;
              meta_text = text;
              meta_is_there = is_there;
              meta_block = block;
            };
            accepted = record { pairs = made.pairs_accepted; lines = made.lines_accepted };
            sorted = made.rise;
            pairs_are = refl;
            filters = filters_any bytes made.parts metas;
          };
          numbered = made.numbered;
        },
      )

  lines_of_table : (pairs : List Pair) × IsNumberedTable (Decodes codings) accepts cmp bytes pairs
      → LinesHold (Decodes codings) accepts cmp bytes None lines
  lines_of_table has =
      let table = has.1.table in
      let numbered = subst (λ ps. AllByRecursion (λ pair. IsNumberedKey pair.0) ps) table.pairs_are
      has.1.numbered in
      subst (LinesHold (Decodes codings) accepts cmp bytes None) (sym (index_read table.tabled
      indexed).0)
      (lines_of (Decodes codings) accepts cmp bytes None table.parts table.tabled.each
      table.tabled.parted table.accepted.pairs table.accepted.lines numbered (λ last e. cc))

  pub lines_are_tables : LinesHold (Decodes codings) accepts cmp bytes None lines ↔ ((pairs : List
      Pair) × IsNumberedTable (Decodes codings) accepts cmp bytes pairs)
  lines_are_tables = (table_of_lines, lines_of_table)

-- ---- blocks by more codings

module _ (codings more : Codings) (by : DecodesMore (Decodes codings) (Decodes more)) where
  pub index_by_more : {cmp : List ℕ → List ℕ
      → Ordering} {bytes : List ℕ} {size : ℕ} {lines : List Pair} {meta index : Handle}
      → HasIndex codings cmp bytes size lines meta index
      → HasIndex more cmp bytes size lines meta index
  index_by_more {bytes = bytes} {index = index} indexed = record {
    footer = indexed.footer;
    index_text = indexed.index_text;
    index_is_there = block_by_more (Decodes codings) (Decodes more) by bytes index
        indexed.index_text indexed.index_is_there;
    index_block = indexed.index_block;
  }

-- a file without a footer is no table
pub no_footer_no_table : {Decodes : ℕ → List ℕ → List ℕ → Type 0} {accepts : List ℕ
    → Bool} {cmp : List ℕ → List ℕ → Ordering} {bytes : List ℕ}
    → ((meta index : Handle) → EndsInFooter bytes (length bytes) meta index → ⊥)
    → (pairs : List Pair) × IsNumberedTable Decodes accepts cmp bytes pairs → ⊥
no_footer_no_table {bytes = bytes} none has =
    let tabled = has.1.table.tabled in
    none has.1.table.meta has.1.table.index (record {
      within = omega arith;
      front = tabled.front;
      ends = take_all (length bytes) bytes (omega arith) ∙ tabled.ends;
      meta_fits = tabled.meta_is_there.is_there.fits;
      index_fits = tabled.index_is_there.is_there.fits;
    })

module _ (codings : Codings) {accepts : List ℕ → Bool} {cmp : List ℕ → List ℕ
    → Ordering} {bytes : List ℕ} {meta index : Handle} (ends : EndsInFooter bytes (length bytes)
    meta index)
    (more : Codings) (by : DecodesMore (Decodes codings) (Decodes more)) (has : (pairs : List Pair)
    × IsNumberedTable (Decodes more) accepts cmp bytes pairs) where
  same_handles : (meta ≡ has.1.table.meta) × (index ≡ has.1.table.index)
  same_handles =
      let tabled = has.1.table.tabled in
      ends_one ends.front tabled.front ends.meta_fits ends.index_fits
      tabled.meta_is_there.is_there.fits tabled.index_is_there.is_there.fits
      (sym (take_all (length bytes) bytes (omega arith)) ∙ ends.ends) tabled.ends

  -- nor is one without its index
  pub no_index_no_table : HasNoBlockByMore codings cmp bytes index → ⊥
  no_index_no_table none =
      let tabled = has.1.table.tabled in
      none more by tabled.index_text (map index_pair has.1.table.parts) (subst (λ h. HasBlockAt
      (Decodes more) bytes h tabled.index_text) (sym same_handles.1) tabled.index_is_there)
      tabled.index_block

  -- or its metaindex
  pub no_meta_no_table : HasNoBlockByMore codings bytewise bytes meta → ⊥
  no_meta_no_table none =
      let tabled = has.1.table.tabled in
      none more by tabled.meta_text has.1.table.metas (subst (λ h. HasBlockAt (Decodes more) bytes h
      tabled.meta_text) (sym same_handles.0) tabled.meta_is_there) tabled.meta_block

-- nothing is stored at a handle
pub unstored_by_more : (codings : Codings) (cmp : List ℕ → List ℕ
    → Ordering) {bytes : List ℕ} {handle : Handle} → StoresNothing bytes handle
    → HasNoBlockByMore codings cmp bytes handle
unstored_by_more codings cmp none more by text pairs there block = none there.id there.stored
    there.is_there

-- what is stored there is decoded to what is no block
pub no_block_by_more : (codings : Codings) (cmp : List ℕ → List ℕ
    → Ordering) {bytes : List ℕ} {handle : Handle} {text : List ℕ}
    → HasBlockAt (Decodes codings) bytes handle text → IsNoBlock cmp text
    → HasNoBlockByMore codings cmp bytes handle
no_block_by_more codings cmp {bytes} {handle} {text} has none more by other pairs there block =
    none pairs (subst (λ z. IsBlock cmp z pairs) (has_one_block more there (block_by_more (Decodes
    codings) (Decodes more) by bytes handle text has)) block)

-- what is stored at a handle is within the file, with its trailer
pub stored_within : {bytes : List ℕ} {handle : Handle} {id : ℕ} {stored : List ℕ}
    → StoresAt bytes handle id stored → handle.offset + handle.size + 5 ≤ length bytes
stored_within {id = id} {stored = stored} is =
    omega (
      arith,
      ap length is.whole,
      is.offset,
      is.size,
      length-append is.before (with_trailer id
          stored ++ is.after),
      length-append (with_trailer id stored) is.after,
      length-with_trailer id
          stored,
    )
