-- What a metaindex says of the filters.
use Rattle.std.proofs.Common.{◌≡◌, ◌≢◌, ℕ, ◌+◌, ◌^◌, Bool, true, false, cond, Result, Ok, Err, List, [], ◌∷◌, ◌++◌, length, Option, None, Some, slice_get, nat_lt, if◌then◌else◌, refl, sym, ◌∙◌, ap, subst, ◌⊎◌, map, inl, ⊎_elim, arith, nat_le, ◌/◌, ◌≤◌, add-one, append-nil}
use Rattle.std.specs.Map.{lookup}
use Rattle.std.specs.Str.{bytes_eq}
use Rattle.std.specs.declared.cmp.Ordering.{Ordering}
use Rattle.std.specs.declared.cmp.Ordering.TheVariants.{Less, Equal, Greater}
use Rattle.std.specs.Ordering.{is_lt, ordering_reverse, ordering_then, nat_cmp}
use Rattle.std.proofs.lemmas.Bool.{false_from_ne_true, ltb-false, cases_eq, and_parts}
use Rattle.std.proofs.lemmas.Option.{slice_get_past}
use Rattle.std.proofs.lemmas.Slice.Eq.{bytes_eq-Decides}
use Rattle.std.specs.Prelude.{IfSome, IsErrAnd, option_map}
use Rattle.std.specs.List.{AllByRecursion}
use Rattle.std.proofs.lemmas.List.{take_all}
use Rattle.std.specs.Option.{option_map_or}
use Rattle.std.proofs.lemmas.Bool.Decides.{nat_tests}
use Rattle.leveldb_base.specs.Cmp.{bytewise, internal_accepts, IsPreorderOn}
use Rattle.leveldb_base.specs.CmpLaws.{bytewise_preorder, bytewise_exact, itself_equal}
use Rattle.leveldb_base.specs.BlockHandle.{Handle, handle_bytes, HandleFits}
use Rattle.leveldb_base.proofs.BlockHandleLemmas.{one_handle}
use Rattle.leveldb_base.specs.Types.{Pair, count_before, seek_position, pair_at, position_within}
use Rattle.leveldb_base.proofs.VarintLemmas.{apart_right}
use Rattle.leveldb_base.specs.declared.error.Status.{Status}
use Rattle.leveldb_base.specs.declared.error.StatusCode.TheVariants.{Corruption, NotSupported}
use Rattle.leveldb_base.specs.KeyTypes.{internal_cmp, sequence_part, user_part}
use Rattle.leveldb_base.specs.declared.cmp.Cmp.{Ghosts as CmpGhosts}
use Rattle.leveldb_env.specs.declared.env.Env.{Ghosts}
use Rattle.leveldb_env.specs.Compressor.{Codings, Decodes}
use Rattle.leveldb_env.specs.FilterBlock.{IsFilterBlock, FiltersRead, passes}
use Rattle.leveldb_env.specs.FilterBlockLaws.{one_reading}
use Rattle.leveldb_table.specs.Block.{BlockRead, RiseAfter, KeysRise, IsBlock, HasEntries, pairs_of}
use Rattle.leveldb_table.specs.Table.{first_from, Part, IsPart, StoresAt, HasBlockAt, HasFiltersAt, FiltersHold, AllPass, HasTableBlocks, IsTable, DecodesOne, OneTable, index_pair, filter_key, IsAtOrAfterAll, IsBeforeAll, AreParted, PartPasses, named_part, offset_for}
use Rattle.leveldb_table.specs.TableReader.{OpenTable, GivesHandle, HasFiltersBy, IsFiltersAt, EndsInFooter, HasIndex, LacksIndex, no_footer, no_index, HasNoIndex, OpensTable, OpensAs, LacksPart, not_indexed, no_metaindex, no_filters, CannotOpen, CanOpen, HasParts, HandlesFit, pairs_in, KeepsUsersTogether, HasNoneFrom}
use Rattle.leveldb_table.specs.TableBlock.{HasNoFilters, KeepsDisk, FileHas, IsDamaged, IsLackError, ReadsFile}
use Rattle.leveldb_table.specs.BlockLaws.{one_block}
use Rattle.leveldb_table.specs.Footer.{footer_bytes}
use Rattle.leveldb_table.specs.TableBuilder.{MatchesByUser}
use Rattle.leveldb_table.specs.Cache.{Cached}
use Rattle.leveldb_table.specs.declared.block_cache.CachedBlock.{CachedBlock}
use Rattle.leveldb_table.proofs.FooterLemmas.{one_footer, length-footer_bytes}
use Rattle.leveldb_table.proofs.TableBlockLemmas.{HasNoBlock, lacks_none, FileHas-after}
use Rattle.leveldb_table.proofs.TableLemmas.{all_with, has_one_block, stores_one, all_append, all_left, all_right, rise_right, then_less, turned_from}

-- ---- the pair that a seek finds

at_within : (pairs : List Pair) (n : ℕ) (t : Bool) → nat_lt n (length pairs) ≡ t → pair_at pairs (cond t (Some n) None) ≡ slice_get pairs n
at_within pairs n true e = refl
at_within pairs n false e = sym (slice_get_past pairs n (ltb-false n (length pairs) e))

counted : (cmp : List ℕ → List ℕ → Ordering) (key : List ℕ) (pairs : List Pair) → slice_get pairs (count_before cmp key pairs) ≡ first_from cmp key pairs
counted cmp key [] = refl
counted cmp key (pair ∷ pairs) =
    elim (is_lt (cmp pair.0 key)) as (λ t. slice_get (pair ∷ pairs) (cond t (count_before cmp key pairs + 1) 0) ≡ elim t [ true ↦ first_from cmp key pairs | false ↦ Some pair ])
    [ true ↦ ap (slice_get (pair ∷ pairs)) (add-one (count_before cmp key pairs)) ∙ counted cmp key pairs | false ↦ refl ]

-- it is the first at or after the key
pub sought : (cmp : List ℕ → List ℕ → Ordering) (key : List ℕ) (pairs : List Pair) → pair_at pairs (seek_position cmp pairs key) ≡ first_from cmp key pairs
sought cmp key pairs = at_within pairs (count_before cmp key pairs) (nat_lt (count_before cmp key pairs) (length pairs)) refl ∙ counted cmp key pairs

-- ---- the value under a key

other_key : (key other : List ℕ) → (key ≡ other → ⊥) → bytes_eq key other ≡ false
other_key key other apart = false_from_ne_true (bytes_eq key other) (λ e. apart ((bytes_eq-Decides key other).0 e))

before_other : (key other : List ℕ) → bytewise key other ≡ Less → key ≡ other → ⊥
before_other key other less same =
    let e : bytewise other other ≡ Equal = itself_equal bytewise_preorder other refl in
    let f : bytewise other other ≡ Less = subst (λ z. bytewise z other ≡ Less) same less in
    cc

turned_less : (a b : List ℕ) → bytewise a b ≡ Greater → bytewise b a ≡ Less
turned_less a b e = bytewise_preorder.turned b a refl refl ∙ ap ordering_reverse e

-- no key is one that is before all
none_after : (key last : List ℕ) (pairs : List Pair) → bytewise key last ≡ Less → RiseAfter bytewise (Some last) pairs → lookup (bytes_eq key) pairs ≡ None
none_after key last [] less rise = refl
none_after key last (pair ∷ pairs) less rise =
    let more = bytewise_preorder.less key last pair.0 refl refl refl less rise.0 in
    rw (other_key key pair.0 (before_other key pair.0 more)) (none_after key pair.0 pairs more rise.1)

-- the value of a pair with this key
abbrev pub value_if : List ℕ → Option Pair → Option (List ℕ)
value_if key None = None
value_if key (Some pair) = if bytes_eq key pair.0 then Some pair.1 else None

rise_on : (last : List ℕ) (pairs : List Pair) → RiseAfter bytewise (Some last) pairs → KeysRise bytewise pairs
rise_on last [] rise = tt
rise_on last (pair ∷ pairs) rise = rise.1

-- the value under a key is that of the first pair at or after it, where that has the key
pub value_found : (key : List ℕ) (pairs : List Pair) → KeysRise bytewise pairs → lookup (bytes_eq key) pairs ≡ value_if key (first_from bytewise key pairs)
value_found key [] rise = refl
value_found key (pair ∷ pairs) rise = by (bytewise pair.0 key) refl (value_found key pairs (rise_on pair.0 pairs rise))
  where
    by : (o : Ordering) → bytewise pair.0 key ≡ o → lookup (bytes_eq key) pairs ≡ value_if key (first_from bytewise key pairs)
        → lookup (bytes_eq key) (pair ∷ pairs) ≡ value_if key (elim (is_lt o) [ true ↦ first_from bytewise key pairs | false ↦ Some pair ])
    by Less e more = rw (other_key key pair.0 (λ same. before_other pair.0 key e (sym same))) more
    by Equal e more = rw ((bytes_eq-Decides key pair.0).1 (sym (bytewise_exact pair.0 key e))) refl
    by Greater e more =
        let less = turned_less pair.0 key e in
        rw (other_key key pair.0 (before_other key pair.0 less)) (none_after key pair.0 pairs less rise)

pub value_here : (key : List ℕ) (found : Option Pair) (name value : List ℕ) → found ≡ Some (name, value) → name ≡ key → value_if key found ≡ Some value
value_here key found name value is same = rw (is, (bytes_eq-Decides key name).1 (sym same)) refl

pub value_other : (key : List ℕ) (found : Option Pair) (name value : List ℕ) → found ≡ Some (name, value) → (name ≡ key → ⊥) → value_if key found ≡ None
value_other key found name value is apart = rw (is, other_key key name (λ same. apart (sym same))) refl

-- ---- filters

pub one_encoded : (handle other : Handle) → handle_bytes handle ≡ handle_bytes other → handle ≡ other
one_encoded handle other e = (one_handle handle other [] [] (ap (λ z. z ++ []) e)).0

module _ (bytes : List ℕ) where
  lacking_at : (handle : Handle) (filters : Option (List (List ℕ))) → handle.size ≢ 0 → HasNoFilters bytes handle → IsFiltersAt bytes handle filters → ⊥
  lacking_at handle None some none is = some is
  lacking_at handle (Some filters) some none is = none is.1 filters is.2 is.3

  -- what the metaindex names is no filter block
  pub filters_lacking : (value : Option (List ℕ)) (handle : Handle) → GivesHandle value (Some handle) → handle.size ≢ 0 → HasNoFilters bytes handle → (filters : Option (List (List ℕ))) → HasFiltersBy bytes value filters → ⊥
  filters_lacking None handle says some none filters has = cc
  filters_lacking (Some value) handle says some none filters has =
      lacking_at handle filters some none (subst (λ h. IsFiltersAt bytes h filters) (one_encoded has.0 handle (sym has.2 ∙ says.1)) has.3)

-- Which tables can be opened, and as what.

-- ---- one reading

-- a file ends in one footer
pub ends_one : {bytes : List ℕ} (front other : List ℕ) {meta index other_meta other_index : Handle} → HandleFits meta → HandleFits index → HandleFits other_meta → HandleFits other_index
    → bytes ≡ front ++ footer_bytes meta index → bytes ≡ other ++ footer_bytes other_meta other_index → (meta ≡ other_meta) × (index ≡ other_index)
ends_one front other {meta} {index} {other_meta} {other_index} mf jf nf kf e f =
    one_footer meta index other_meta other_index
    (apart_right front other (footer_bytes meta index) (footer_bytes other_meta other_index) (length-footer_bytes meta index mf jf ∙ sym (length-footer_bytes other_meta other_index nf kf)) (sym e ∙ f)).1

-- all of them are read as that
ends_read : {bytes : List ℕ} (front : List ℕ) {meta index read_meta read_index : Handle} → HandleFits meta → HandleFits index → bytes ≡ front ++ footer_bytes meta index → EndsInFooter bytes (length bytes) read_meta read_index
    → (read_meta ≡ meta) × (read_index ≡ index)
ends_read {bytes} front meta_fits index_fits ends read =
    ends_one read.front front read.meta_fits read.index_fits meta_fits index_fits (sym (take_all (length bytes) bytes (omega arith)) ∙ read.ends) ends

-- a block is of one list of pairs
pub blocks_one : {cmp : List ℕ → List ℕ → Ordering} {text other : List ℕ} {pairs others : List Pair} → text ≡ other → IsBlock cmp text pairs → IsBlock cmp other others → pairs ≡ others
blocks_one {cmp} same first second =
    first.pairs_are ∙ ap (pairs_of None) (one_block (subst (λ z. HasEntries cmp z first.entries) same first.encoded) second.encoded) ∙ sym second.pairs_are

-- ---- why a table isn't opened

module _ {codings : Codings} {cmp : List ℕ → List ℕ → Ordering} {bytes : List ℕ} {size : ℕ} {meta index : Handle} (ends : EndsInFooter bytes size meta index) where
  -- a file that has an index ends in these handles
  indexed_at : {lines : List Pair} {other_meta other_index : Handle} → HasIndex codings cmp bytes size lines other_meta other_index → (meta ≡ other_meta) × (index ≡ other_index)
  indexed_at indexed =
      let other = indexed.footer in
      ends_one ends.front other.front ends.meta_fits ends.index_fits other.meta_fits other.index_fits ends.ends other.ends

  indexed_no_block : HasNoBlock codings cmp bytes index → HasNoIndex codings cmp bytes size
  indexed_no_block none lines other_meta other_index indexed =
      none indexed.index_text lines (subst (λ h. HasBlockAt (Decodes codings) bytes h indexed.index_text) (sym (indexed_at indexed).1) indexed.index_is_there) indexed.index_block

  opens_no_meta : {key : List ℕ} → HasNoBlock codings bytewise bytes meta → CannotOpen codings cmp key bytes size
  opens_no_meta none lines other_meta other_index read opens =
      none opens.meta_text opens.metas (subst (λ h. HasBlockAt (Decodes codings) bytes h opens.meta_text) (sym (indexed_at opens.indexed).0) opens.meta_is_there) opens.meta_block

  -- no filters where the metaindex names some
  opens_no_filters : {key : List ℕ} (text : List ℕ) (metas : List Pair) → HasBlockAt (Decodes codings) bytes meta text → IsBlock bytewise text metas
      → ((read : Option (List (List ℕ))) → HasFiltersBy bytes (lookup (bytes_eq key) metas) read → ⊥) → CannotOpen codings cmp key bytes size
  opens_no_filters {key} text metas there block none lines other_meta other_index read opens =
      let is_there = subst (λ h. HasBlockAt (Decodes codings) bytes h opens.meta_text) (sym (indexed_at opens.indexed).0) opens.meta_is_there in
      let pairs = blocks_one (has_one_block codings there is_there) block opens.meta_block in
      none read (subst (λ ms. HasFiltersBy bytes (lookup (bytes_eq key) ms) read) (sym pairs) opens.filtered)

-- a file that lacks its index has none
pub indexed_not : {codings : Codings} {cmp : List ℕ → List ℕ → Ordering} {bytes : List ℕ} {size : ℕ} {status : Status} → LacksIndex codings cmp bytes size status → HasNoIndex codings cmp bytes size
indexed_not (no_footer none code) = λ lines meta at indexed. none meta at indexed.footer
indexed_not (no_index meta at ends why) = indexed_no_block ends (lacks_none why)

pub opens_not : {codings : Codings} {cmp : List ℕ → List ℕ → Ordering} {key bytes : List ℕ} {size : ℕ} {status : Status} → LacksPart codings cmp key bytes size status → CannotOpen codings cmp key bytes size
opens_not (not_indexed why) = λ lines meta at read opens. indexed_not why lines meta at opens.indexed
opens_not (no_metaindex meta at ends why) = opens_no_meta ends (lacks_none why)
opens_not (no_filters meta at ends text metas there block none code) = opens_no_filters ends text metas there block none

module _ {E F : Type 0} (env : Ghosts E F) (codings : Codings) {old mid : E} {file : F} (kept_disk : KeepsDisk env old mid) where
  -- what is lacking after Ok calls was lacking before
  pub lacks : (Part : List ℕ → Status → Type 0) {Whole : List ℕ → Status → Type 0}
      → ((bytes : List ℕ) (status : Status) → FileHas env old file bytes → Part bytes status → Whole bytes status)
      → (status : Status) → IsLackError env codings Part mid file status → IsLackError env codings Whole old file status
  lacks Part part status why = (why.0, λ bytes has. part bytes status has (why.1 bytes (FileHas-after env kept_disk has)))

  -- what is damaged after them is
  pub lacks_damaged : (Missing : List ℕ → Type 0) {Whole : List ℕ → Status → Type 0}
      → ((bytes : List ℕ) (status : Status) → FileHas env old file bytes → Missing bytes → status.code ≡ Corruption → Whole bytes status)
      → (status : Status) → IsDamaged env Missing mid file status → IsLackError env codings Whole old file status
  lacks_damaged Missing part status why =
      lacks (λ bytes other. Missing bytes × (other.code ≡ Corruption)) (λ bytes other has none. part bytes other has none.0 none.1) status
      (inl why.0, λ bytes has. (why.1 bytes has, why.0))

module _ {E C FP F : Type 0} {env : Ghosts E F} {codings : Codings} {Is : OpenTable C FP F → List ℕ → Type 0} {Filters : Option (FiltersRead FP) → Type 0} {Lacks : List ℕ → Status → Type 0} {cmp : C} {from : F} {old_env new_env : E} {old_cache new_cache : Cached (CachedBlock C)} where
  -- a call that opens no table
  pub opens_err : (P : Status → Type 0) (result : Result (OpenTable C FP F) Status) → IsErrAnd result P
      → ReadsFile env (λ status. ((status.code ≡ NotSupported) × (old_cache.given + 1 ≡ 2 ^ 64)) ⊎ IsLackError env codings Lacks old_env from status) old_env new_env result
      → new_cache ≡ old_cache → OpensTable env codings Is Filters Lacks cmp from old_env old_cache result new_env new_cache
  opens_err P (Ok table) none reads same = absurd none
  opens_err P (Err status) some reads same = record { reads = reads; ok = tt; file = tt; order = tt; policy = tt; id = tt; id_fits = tt; err = same }

-- ---- a table that is opened

-- what is said of a policy's filters where its name's meaning is known
abbrev pub GivesFilters : (List ℕ → List ℕ → Bool) → (List ℕ → List ℕ) → List ℕ → List Part → Option (List ℕ) → Type 0
GivesFilters matches user bytes parts value =
    IfSome value (λ encoded. (handle : Handle) × HandleFits handle × (encoded ≡ handle_bytes handle) × (handle.size ≢ 0 → HasFiltersAt matches user bytes parts handle))

pub says_of : (meaning : List ℕ → Option (List ℕ → List ℕ → Bool)) (matches : List ℕ → List ℕ → Bool) (user : List ℕ → List ℕ) (name bytes : List ℕ) (parts : List Part) (metas : List Pair)
    → meaning name ≡ Some matches → AllByRecursion (FiltersHold meaning user bytes parts) metas → GivesFilters matches user bytes parts (lookup (bytes_eq (filter_key name)) metas)
says_of meaning matches user name bytes parts [] known hold = tt
says_of meaning matches user name bytes parts (meta ∷ metas) known hold =
    let P : Option (List ℕ) → Type 0 = GivesFilters matches user bytes parts in
    let more = says_of meaning matches user name bytes parts metas known hold.1 in
    elim (bytes_eq (filter_key name) meta.0) as (λ t. bytes_eq (filter_key name) meta.0 ≡ t → P (cond t (Some meta.1) (lookup (bytes_eq (filter_key name)) metas))) [
      | true ↦ (λ e.
          subst (λ o. IfSome o (λ m. (handle : Handle) × HandleFits handle × (meta.1 ≡ handle_bytes handle) × (handle.size ≢ 0 → HasFiltersAt m user bytes parts handle))) known
          (hold.0 name (sym ((bytes_eq-Decides (filter_key name) meta.0).0 e))))
      | false ↦ (λ e. more)
    ] refl

module _ (matches : List ℕ → List ℕ → Bool) (user : List ℕ → List ℕ) (bytes : List ℕ) (parts : List Part) where
  -- there are filters, or none, as it is said
  pub filters_said : (value : Option (List ℕ)) → GivesFilters matches user bytes parts value → (filters : Option (List (List ℕ))) × HasFiltersBy bytes value filters × IfSome filters (λ texts. AllPass matches user texts parts)
  filters_said None says = (None, refl, tt)
  filters_said (Some value) says = ⊎_elim
      (λ none. (None, (says.0, says.1, says.2, none), tt))
      (λ some. let has = says.3 some in (Some has.filters, (says.0, says.1, says.2, (some, has.text, has.is_there, has.block)), has.pass))
      (cases_eq says.0.size 0)

  -- and filters that are there let pass what they must
  pub filters_pass : (value : Option (List ℕ)) (filters : Option (List (List ℕ))) → GivesFilters matches user bytes parts value → HasFiltersBy bytes value filters → IfSome filters (λ texts. AllPass matches user texts parts)
  filters_pass value None says has = tt
  filters_pass None (Some texts) says has = cc
  filters_pass (Some value) (Some texts) says has =
      let same = one_encoded says.0 has.0 (sym says.2 ∙ has.2) in
      let meant = says.3 (subst (λ h. h.size ≢ 0) (sym same) has.3.0) in
      let is_there = subst (λ h. StoresAt bytes h 0 meant.text) same meant.is_there in
      let text = (stores_one is_there has.3.2).1 in
      subst (λ t. AllPass matches user t parts) (one_reading has.3.1 meant.filters texts (subst (λ t. IsFilterBlock t meant.filters) text meant.block) has.3.3) meant.pass

module _ {codings : Codings} {cmp : List ℕ → List ℕ → Ordering} {bytes : List ℕ} {parts : List Part} {metas : List Pair} {meta index : Handle} (tabled : HasTableBlocks (Decodes codings) cmp bytes parts metas meta index) where
  -- its metaindex and its index are what is read
  pub index_read : {lines : List Pair} {read_meta read_index : Handle} → HasIndex codings cmp bytes (length bytes) lines read_meta read_index
      → (lines ≡ map index_pair parts) × (read_meta ≡ meta) × (read_index ≡ index) × HandlesFit parts
  index_read indexed =
      let same = ends_read tabled.front tabled.meta_is_there.is_there.fits tabled.index_is_there.is_there.fits tabled.ends indexed.footer in
      let text = has_one_block codings indexed.index_is_there (subst (λ h. HasBlockAt (Decodes codings) bytes h tabled.index_text) (sym same.1) tabled.index_is_there) in
      (blocks_one text indexed.index_block tabled.index_block, same.0, same.1, all_with (IsPart (Decodes codings) cmp bytes) (λ part. HandleFits part.handle) (λ part is. is.is_there.is_there.fits) parts tabled.each)

  -- its index is there
  pub tables_indexed : HasIndex codings cmp bytes (length bytes) (map index_pair parts) meta index
  tables_indexed = record {
    footer = record {
      within = omega arith;
      front = tabled.front;
      ends = take_all (length bytes) bytes (omega arith) ∙ tabled.ends;
      meta_fits = tabled.meta_is_there.is_there.fits;
      index_fits = tabled.index_is_there.is_there.fits;
    };
    index_text = tabled.index_text;
    index_is_there = tabled.index_is_there;
    index_block = tabled.index_block;
  }

  pub metas_read : {key : List ℕ} {lines : List Pair} {read_meta read_index : Handle} {filters : Option (List (List ℕ))} → (opens : OpensAs codings cmp key bytes (length bytes) lines read_meta read_index filters) → opens.metas ≡ metas
  metas_read opens =
      let same = ends_read tabled.front tabled.meta_is_there.is_there.fits tabled.index_is_there.is_there.fits tabled.ends opens.indexed.footer in
      blocks_one (has_one_block codings opens.meta_is_there (subst (λ h. HasBlockAt (Decodes codings) bytes h tabled.meta_text) (sym same.0) tabled.meta_is_there)) opens.meta_block tabled.meta_block

module _ {codings : Codings} {accepts : List ℕ → Bool} {cmp : List ℕ → List ℕ → Ordering} {meaning : List ℕ → Option (List ℕ → List ℕ → Bool)} {user : List ℕ → List ℕ} {bytes : List ℕ} {pairs : List Pair} (table : IsTable (Decodes codings) accepts cmp meaning user bytes pairs) where
  pub parts_there : HasParts codings accepts cmp bytes table.parts
  parts_there = record { each = table.tabled.each; parted = table.tabled.parted; sorted = subst (KeysRise cmp) table.pairs_are table.sorted; accepted = table.accepted }

  pub opened_pass : {name : List ℕ} {matches : List ℕ → List ℕ → Bool} {lines : List Pair} {meta index : Handle} {filters : Option (List (List ℕ))} → OpensAs codings cmp (filter_key name) bytes (length bytes) lines meta index filters → meaning name ≡ Some matches
      → IfSome filters (λ texts. AllPass matches user texts table.parts)
  opened_pass {name} {matches} {filters = read} opens known =
      filters_pass matches user bytes table.parts (lookup (bytes_eq (filter_key name)) table.metas) read
      (says_of meaning matches user name bytes table.parts table.metas known table.filters)
      (subst (λ ms. HasFiltersBy bytes (lookup (bytes_eq (filter_key name)) ms) read) (metas_read table.tabled opens) opens.filtered)

  pub opens_well : (name : List ℕ) (matches : List ℕ → List ℕ → Bool) → meaning name ≡ Some matches → CanOpen codings cmp matches user name bytes table.parts
  opens_well name matches known =
      let tabled = table.tabled in
      let said = filters_said matches user bytes table.parts (lookup (bytes_eq (filter_key name)) table.metas) (says_of meaning matches user name bytes table.parts table.metas known table.filters) in
      record {
        lines = map index_pair table.parts;
        meta = table.meta;
        index = table.index;
        filters = said.0;
        opens = record {
          indexed = tables_indexed tabled;
          meta_text = tabled.meta_text;
          metas = table.metas;
          meta_is_there = tabled.meta_is_there;
          meta_block = tabled.meta_block;
          filtered = said.1;
        };
        pass = said.2;
      }

-- ---- one list of pairs

some_one : {X : Type 0} {x y : X} → Some x ≡ Some y → x ≡ y
some_one e = cc

pub decodes_one : (codings : Codings) → DecodesOne (Decodes codings)
decodes_one codings id stored text other first second = some_one (sym first ∙ second)

module _ {Decodes : ℕ → List ℕ → List ℕ → Type 0} (one : DecodesOne Decodes) (file : List ℕ) where
  texts_one : {handle other : Handle} {text found : List ℕ} → handle ≡ other → HasBlockAt Decodes file handle text → HasBlockAt Decodes file other found → text ≡ found
  texts_one {handle} {other} {text} {found} e first second =
      let there = subst (λ h. HasBlockAt Decodes file h found) (sym e) second in
      let same = stores_one first.is_there there.is_there in
      one first.id first.stored text found first.decoded
      (subst (λ z. Decodes first.id z found) (sym same.1) (subst (λ z. Decodes z there.stored found) (sym same.0) there.decoded))

  pairs_one : (cmp : List ℕ → List ℕ → Ordering) (parts others : List Part) → map index_pair parts ≡ map index_pair others → AllByRecursion (IsPart Decodes cmp file) parts → AllByRecursion (IsPart Decodes cmp file) others → pairs_in parts ≡ pairs_in others
  pairs_one cmp [] [] e first second = refl
  pairs_one cmp [] (other ∷ others) e first second = cc
  pairs_one cmp (part ∷ parts) [] e first second = cc
  pairs_one cmp (part ∷ parts) (other ∷ others) e first second =
      let line : index_pair part ≡ index_pair other = cc in
      let rest : map index_pair parts ≡ map index_pair others = cc in
      let handles = one_encoded part.handle other.handle (ap (λ p. p.1) line) in
      let here = blocks_one (texts_one handles first.0.is_there second.0.is_there) first.0.block second.0.block in
      ap (λ z. z ++ pairs_in parts) here ∙ ap (λ z. other.pairs ++ z) (pairs_one cmp parts others rest first.1 second.1)

pub one_table : (Decodes : ℕ → List ℕ → List ℕ → Type 0) (cmp : List ℕ → List ℕ → Ordering) → OneTable Decodes cmp
one_table Decodes cmp one accepts others_accept meaning other user part file pairs others first second =
    let f = first.tabled in
    let g = second.tabled in
    let same = ends_one f.front g.front f.meta_is_there.is_there.fits f.index_is_there.is_there.fits g.meta_is_there.is_there.fits g.index_is_there.is_there.fits f.ends g.ends in
    let lines = blocks_one (texts_one one file same.1 f.index_is_there g.index_is_there) f.index_block g.index_block in
    first.pairs_are ∙ pairs_one one file cmp first.parts second.parts lines f.each g.each ∙ sym second.pairs_are

-- Keys that filters refuse are not there.

-- ---- one block and those after

up_to_here : (cmp : List ℕ → List ℕ → Ordering) (part : Part) (parts : List Part) → AreParted cmp (part ∷ parts) → IsAtOrAfterAll cmp part.index_key part.pairs
up_to_here cmp part [] parted = parted
up_to_here cmp part (next ∷ parts) parted = parted.0

parted_after : (cmp : List ℕ → List ℕ → Ordering) (part : Part) (parts : List Part) → AreParted cmp (part ∷ parts) → AreParted cmp parts
parted_after cmp part [] parted = tt
parted_after cmp part (next ∷ parts) parted = parted.2

pass_here : (matches : List ℕ → List ℕ → Bool) (user : List ℕ → List ℕ) (filters : List (List ℕ)) (part : Part) (parts : List Part) → AllPass matches user filters (part ∷ parts) → PartPasses matches filters part.handle.offset part.pairs
pass_here matches user filters part [] pass = pass
pass_here matches user filters part (next ∷ parts) pass = pass.0

pass_after : (matches : List ℕ → List ℕ → Bool) (user : List ℕ → List ℕ) (filters : List (List ℕ)) (part : Part) (parts : List Part) → AllPass matches user filters (part ∷ parts) → AllPass matches user filters parts
pass_after matches user filters part [] pass = tt
pass_after matches user filters part (next ∷ parts) pass = pass.2

passes_by : (matches : List ℕ → List ℕ → Bool) (user : List ℕ → List ℕ) → MatchesByUser user matches → (key other : List ℕ) → user key ≡ user other → (filter : Option (List ℕ)) → option_map_or (matches key) filter true ≡ option_map_or (matches other) filter true
passes_by matches user outcome key other same None = refl
passes_by matches user outcome key other same (Some filter) = outcome key other filter same

-- two facts of each element
all_both : {X : Type 0} (P Q R : X → Type 0) → ((x : X) → P x → Q x → R x) → (xs : List X) → AllByRecursion P xs → AllByRecursion Q xs → AllByRecursion R xs
all_both P Q R f [] h k = tt
all_both P Q R f (x ∷ xs) h k = (f x h.0 k.0, all_both P Q R f xs h.1 k.1)

known_less : (o : Ordering) → is_lt o ≡ true → o ≡ Less
known_less Less e = refl
known_less Equal e = cc
known_less Greater e = cc

user_accepted : (accepts : List ℕ → Bool) (a : List ℕ) → internal_accepts accepts a ≡ true → accepts (user_part a) ≡ true
user_accepted accepts a h = (and_parts (nat_le 8 (length a)) (accepts (user_part a)) h).1

less_not_greater : (o : Ordering) → o ≡ Less → o ≢ Greater
less_not_greater o e f = cc

module _ {accepts : List ℕ → Bool} {cmp : List ℕ → List ℕ → Ordering} (order : IsPreorderOn accepts cmp) where
  -- the first of keys that rise is at or before each
  from_first : (first : List ℕ) (pairs : List Pair) → accepts first ≡ true → AllByRecursion (λ pair. accepts pair.0 ≡ true) pairs → RiseAfter cmp (Some first) pairs → AllByRecursion (λ pair. cmp first pair.0 ≡ Less) pairs
  from_first first [] hf all rise = tt
  from_first first (pair ∷ pairs) hf all rise =
      (rise.0, all_both (λ p. accepts p.0 ≡ true) (λ p. cmp pair.0 p.0 ≡ Less) (λ p. cmp first p.0 ≡ Less) (λ p hp less. order.less first pair.0 p.0 hf all.0 hp rise.0 less) pairs all.1 (from_first pair.0 pairs all.0 all.1 rise.1))

  module _ (user : List ℕ → List ℕ) (matches : List ℕ → List ℕ → Bool) (filters : List (List ℕ)) (together : KeepsUsersTogether accepts cmp user) (outcome : MatchesByUser user matches) (key : List ℕ) (hk : accepts key ≡ true) where
    abbrev None_for : Pair → Type 0
    None_for pair = cmp pair.0 key ≢ Less → user pair.0 ≡ user key → ⊥

    passes_alike : (offset : ℕ) (other : List ℕ) → user other ≡ user key → passes matches filters offset other ≡ true → passes matches filters offset key ≡ false → ⊥
    passes_alike offset other same let_pass stopped = let e = passes_by matches user outcome other key same (slice_get filters (offset / 2048)) in cc

    -- what passes isn't of the user's key that is refused
    refused_here : (offset : ℕ) (pairs : List Pair) → PartPasses matches filters offset pairs → passes matches filters offset key ≡ false → AllByRecursion None_for pairs
    refused_here offset pairs pass stopped = all_with (λ pair. passes matches filters offset pair.0 ≡ true) None_for (λ pair let_pass here same. passes_alike offset pair.0 same let_pass stopped) pairs pass

    -- nor is any pair after
    refused_after : (part : Part) (first : Pair) (pairs : List Pair) → accepts part.index_key ≡ true → AllByRecursion (λ pair. accepts pair.0 ≡ true) (first ∷ pairs) → RiseAfter cmp (Some first.0) pairs
        → cmp part.index_key key ≢ Less → cmp part.index_key first.0 ≡ Less → (user first.0 ≡ user part.index_key → passes matches filters part.handle.offset first.0 ≡ true)
        → passes matches filters part.handle.offset key ≡ false → AllByRecursion None_for (first ∷ pairs)
    refused_after part first pairs hi all rise named beyond pass stopped =
        let line = part.index_key in
        let upto = turned_from order key line hk hi named in
        let less = then_less order key line first.0 hk hi all.0 upto beyond in
        let none : user first.0 ≡ user key → ⊥ = λ same.
        let own = together key line first.0 hk hi all.0 upto (less_not_greater (cmp line first.0) beyond) (sym same) in
        passes_alike part.handle.offset first.0 same (pass (same ∙ sym own)) stopped in (
          λ here same. none same,
          all_both (λ p. accepts p.0 ≡ true) (λ p. cmp first.0 p.0 ≡ Less) None_for
              (λ p hp after here same. none (together key first.0 p.0 hk all.0 hp (less_not_greater (cmp key first.0) less) (less_not_greater (cmp first.0 p.0) after) (sym same)))
              pairs all.1 (from_first first.0 pairs all.0 all.1 rise),
        )

    after_block : (part next : Part) (parts : List Part) (pairs : List Pair) → next.pairs ≡ pairs → pairs ≢ [] → accepts part.index_key ≡ true → AllByRecursion (λ pair. accepts pair.0 ≡ true) (pairs ++ pairs_in parts)
        → KeysRise cmp (pairs ++ pairs_in parts) → cmp part.index_key key ≢ Less → IsBeforeAll cmp part.index_key pairs
        → AllByRecursion (λ pair. user pair.0 ≡ user part.index_key → passes matches filters part.handle.offset pair.0 ≡ true) pairs
        → passes matches filters part.handle.offset key ≡ false → AllByRecursion None_for (pairs ++ pairs_in parts)
    after_block part next parts [] is some hi all rise named beyond pass stopped = absurd (some refl)
    after_block part next parts (first ∷ pairs) is some hi all rise named beyond pass stopped = refused_after part first (pairs ++ pairs_in parts) hi all rise named beyond.0 pass.0 stopped

    after : (part : Part) (parts : List Part) → accepts part.index_key ≡ true → AllByRecursion (λ other. other.pairs ≢ []) parts → AllByRecursion (λ pair. accepts pair.0 ≡ true) (pairs_in parts) → KeysRise cmp (pairs_in parts)
        → AreParted cmp (part ∷ parts) → AllPass matches user filters (part ∷ parts) → cmp part.index_key key ≢ Less → passes matches filters part.handle.offset key ≡ false → AllByRecursion None_for (pairs_in parts)
    after part [] hi some all rise parted pass named stopped = tt
    after part (next ∷ parts) hi some all rise parted pass named stopped = after_block part next parts next.pairs refl some.0 hi all rise named parted.1 pass.1 stopped

    -- what is up to a key that is before this one is before it
    before : (line : List ℕ) (pairs : List Pair) → accepts line ≡ true → cmp line key ≡ Less → AllByRecursion (λ pair. accepts pair.0 ≡ true) pairs → IsAtOrAfterAll cmp line pairs → AllByRecursion None_for pairs
    before line pairs hl less all upto =
        all_both (λ p. accepts p.0 ≡ true) (λ p. cmp line p.0 ≢ Less) None_for (λ p hp to here same. here (then_less order p.0 line key hp hl hk (turned_from order p.0 line hp hl to) less)) pairs all upto

    not_less : (o : Ordering) → is_lt o ≡ false → o ≢ Less
    not_less o e f = let g : is_lt o ≡ true = ap is_lt f in cc

    pub refused : (parts : List Part) (part : Part) → AllByRecursion (λ other. other.pairs ≢ []) parts → AllByRecursion (λ pair. accepts pair.0 ≡ true) (pairs_in parts) → AllByRecursion (λ other. accepts other.index_key ≡ true) parts
        → KeysRise cmp (pairs_in parts) → AreParted cmp parts → AllPass matches user filters parts → named_part cmp key parts ≡ Some part → passes matches filters part.handle.offset key ≡ false → HasNoneFrom cmp user key (pairs_in parts)
    refused [] part some all lines rise parted pass named stopped = tt
    refused (first ∷ parts) part some all lines rise parted pass named stopped =
        let here = all_left (λ pair. accepts pair.0 ≡ true) first.pairs (pairs_in parts) all in
        let rest = all_right (λ pair. accepts pair.0 ≡ true) first.pairs (pairs_in parts) all in
        let later = rise_right cmp first.pairs (pairs_in parts) rise in
        let more = refused parts part some.1 rest lines.1 later (parted_after cmp first parts parted) (pass_after matches user filters first parts pass) in
        all_append None_for first.pairs (pairs_in parts)
        (elim (is_lt (cmp first.index_key key)) as (λ t. is_lt (cmp first.index_key key) ≡ t → elim t [ true ↦ named_part cmp key parts | false ↦ Some first ] ≡ Some part → AllByRecursion None_for first.pairs) [
          | true ↦ (λ e n. before first.index_key first.pairs lines.0 (known_less (cmp first.index_key key) e) here (up_to_here cmp first parts parted))
          | false ↦ (λ e n. let same : first ≡ part = cc in
              refused_here first.handle.offset first.pairs (pass_here matches user filters first parts pass) (subst (λ p. passes matches filters p.handle.offset key ≡ false) (sym same) stopped))
        ] refl named)
        (elim (is_lt (cmp first.index_key key)) as (λ t. is_lt (cmp first.index_key key) ≡ t → elim t [ true ↦ named_part cmp key parts | false ↦ Some first ] ≡ Some part → AllByRecursion None_for (pairs_in parts)) [
          | true ↦ (λ e n. more n stopped)
          | false ↦ (λ e n. let same : first ≡ part = cc in
              after first parts lines.0 some.1 rest later parted pass (not_less (cmp first.index_key key) e) (subst (λ p. passes matches filters p.handle.offset key ≡ false) (sym same) stopped))
        ] refl named)

    pub refused_there : {codings : Codings} {bytes : List ℕ} (parts : List Part) (part : Part) → HasParts codings accepts cmp bytes parts → AllPass matches user filters parts → named_part cmp key parts ≡ Some part
        → passes matches filters part.handle.offset key ≡ false → HasNoneFrom cmp user key (pairs_in parts)
    refused_there parts part has pass named stopped =
        refused parts part (all_with _ (λ other. other.pairs ≢ []) (λ other is. is.some) parts has.each) has.accepted.pairs has.accepted.lines has.sorted has.parted pass named stopped

-- ---- users' keys that are together

module _ {accepts : List ℕ → Bool} {cmp : List ℕ → List ℕ → Ordering} (order : IsPreorderOn accepts cmp) (exact : (a b : List ℕ) → cmp a b ≡ Equal → a ≡ b) where
  tied : (o : Ordering) → o ≢ Greater → ordering_reverse o ≢ Greater → o ≡ Equal
  tied Less h k = absurd (k refl)
  tied Equal h k = refl
  tied Greater h k = absurd (h refl)

  -- a key between a key and itself is that key
  between : (a b : List ℕ) → accepts a ≡ true → accepts b ≡ true → cmp a b ≢ Greater → cmp b a ≢ Greater → b ≡ a
  between a b ha hb ab ba = exact b a (tied (cmp b a) ba (λ e. ab (order.turned a b ha hb ∙ e)))

  pub raw_together : KeepsUsersTogether accepts cmp (λ key. key)
  raw_together a b c ha hb hc ab bc same = between a b ha hb ab (λ e. bc (ap (cmp b) (sym same) ∙ e))

  then_not_greater : (r s : Ordering) → ordering_then r s ≢ Greater → r ≢ Greater
  then_not_greater r s h e = h (ap (λ z. ordering_then z s) e)

  pub internal_together : KeepsUsersTogether (internal_accepts accepts) (internal_cmp cmp) user_part
  internal_together a b c ha hb hc ab bc same =
      between (user_part a) (user_part b) (user_accepted accepts a ha) (user_accepted accepts b hb)
      (then_not_greater (cmp (user_part a) (user_part b)) (nat_cmp (sequence_part b) (sequence_part a)) ab)
      (λ e. then_not_greater (cmp (user_part b) (user_part c)) (nat_cmp (sequence_part c) (sequence_part b)) bc (ap (cmp (user_part b)) (sym same) ∙ e))

-- Which data block an index names for a key.

-- a position that the list may have
pair_within : (pairs : List Pair) (i : ℕ) → pair_at pairs (position_within pairs i) ≡ slice_get pairs i
pair_within pairs i = (elim (nat_lt i (length pairs)) as (λ b. nat_lt i (length pairs) ≡ b → pair_at pairs (if b then Some i else None) ≡ slice_get pairs i) [
  | true ↦ λ here. refl
  | false ↦ λ none. (let past : length pairs ≤ i = grind (arith, nat_tests) in sym (slice_get_past pairs i past))
]) refl

module _ (cmp : List ℕ → List ℕ → Ordering) (key : List ℕ) where
  lines_counted : (parts : List Part) → slice_get (map index_pair parts) (count_before cmp key (map index_pair parts)) ≡ option_map index_pair (named_part cmp key parts)
  lines_counted [] = refl
  lines_counted (part ∷ parts) =
      elim (is_lt (cmp part.index_key key)) as (λ b. slice_get (index_pair part ∷ map index_pair parts) (if b then count_before cmp key (map index_pair parts) + 1 else 0)
      ≡ option_map index_pair (elim b [ true ↦ named_part cmp key parts | false ↦ Some part ])) [
        | true ↦ rw add-one (lines_counted parts)
        | false ↦ refl
      ]

  -- a search moves to the named block's line
  pub named_line : (lines : List Pair) (parts : List Part) → lines ≡ map index_pair parts → pair_at lines (seek_position cmp lines key) ≡ option_map index_pair (named_part cmp key parts)
  named_line lines parts e =
      ap (λ pairs. pair_at pairs (seek_position cmp pairs key)) e ∙ pair_within (map index_pair parts) (count_before cmp key (map index_pair parts)) ∙ lines_counted parts

  -- what all blocks have, the named one has
  pub named_has : (P : Part → Type 0) (parts : List Part) → AllByRecursion P parts → IfSome (named_part cmp key parts) P
  named_has P [] all = tt
  named_has P (part ∷ parts) all = elim (is_lt (cmp part.index_key key)) as (λ b. IfSome (elim b [ true ↦ named_part cmp key parts | false ↦ Some part ]) P) [
    | true ↦ named_has P parts all.1
    | false ↦ all.0
  ]

  pub named_one : (P : Part → Type 0) (parts : List Part) {part : Part} → AllByRecursion P parts → named_part cmp key parts ≡ Some part → P part
  named_one P parts all there = subst (λ named. IfSome named P) there (named_has P parts all)

  -- no line is found
  pub names_none : (lines : List Pair) (parts : List Part) → lines ≡ map index_pair parts → pair_at lines (seek_position cmp lines key) ≡ None → named_part cmp key parts ≡ None
  names_none lines parts e none = (elim (named_part cmp key parts) as (λ named. option_map index_pair named ≡ None → named ≡ None) [
    | None ↦ λ same. refl
    | Some part ↦ λ same. cc
  ]) (sym (named_line lines parts e) ∙ none)

  -- a line is found
  pub record IsNamedPart (parts : List Part) (line : Pair) : Type 0 where
    pub part : Part
    pub named : named_part cmp key parts ≡ Some part
    pub encoded : index_pair part ≡ line

  pub names_some : (lines : List Pair) (parts : List Part) (line : Pair) → lines ≡ map index_pair parts → pair_at lines (seek_position cmp lines key) ≡ Some line → IsNamedPart parts line
  names_some lines parts line e found = (elim (named_part cmp key parts) as (λ named. named_part cmp key parts ≡ named → option_map index_pair named ≡ Some line → IsNamedPart parts line) [
    | None ↦ λ none same. absurd (cc)
    | Some part ↦ λ there same. record { part = part; named = there; encoded = cc }
  ]) refl (sym (named_line lines parts e) ∙ found)

  -- its offset, and that of the metaindex
  pub offset_none : (parts : List Part) (meta : Handle) → named_part cmp key parts ≡ None → meta.offset ≡ offset_for cmp key parts meta
  offset_none parts meta none = sym (ap (λ named. elim named [ Some part ↦ part.handle.offset | None ↦ meta.offset ]) none)

  pub offset_some : (parts : List Part) (meta : Handle) {part : Part} → named_part cmp key parts ≡ Some part → part.handle.offset ≡ offset_for cmp key parts meta
  offset_some parts meta there = sym (ap (λ named. elim named [ Some part ↦ part.handle.offset | None ↦ meta.offset ]) there)

-- a whole handle is read from its bytes
pub whole_is : (g h : Handle) → handle_bytes g ≡ handle_bytes h → g ≡ h
whole_is g h e = (one_handle g h [] [] (append-nil (handle_bytes g) ∙ e ∙ sym (append-nil (handle_bytes h)))).0

module _ {C : Type 0} (order : CmpGhosts C) where
  -- what a walk over an index finds, as a search in its lines
  pub index_sought : {block index : BlockRead C} {pairs : List Pair} {position : Option ℕ} (key : List ℕ) → block ≡ index → pairs ≡ pairs_of None block.entries
      → position ≡ seek_position (order.cmp block.cmp) (pairs_of None block.entries) key → pair_at pairs position ≡ pair_at (pairs_of None index.entries) (seek_position (order.cmp index.cmp) (pairs_of None index.entries) key)
  index_sought {block} {position = position} key e same at =
      ap (λ lines. pair_at lines position) same ∙ ap (pair_at (pairs_of None block.entries)) at
      ∙ ap (λ (there : BlockRead C). pair_at (pairs_of None there.entries) (seek_position (order.cmp there.cmp) (pairs_of None there.entries) key)) e
