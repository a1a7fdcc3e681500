-- What a cache of blocks holds after a look-up, after a put, and after one call and another, and
-- whose blocks those are.
use Rattle.std.proofs.Common.{◌≡◌, ◌≢◌, ◌⊎◌, ℕ, zero, suc, ◌-◌, ◌^◌, ◌<◌, ◌≤◌, true, false, cond, List, [], ◌∷◌, ◌++◌, take, None, Some, refl, sym, ◌∙◌, ap, subst, inl, inr, ⊎_elim, arith}
use Rattle.std.specs.Str.{bytes_eq}
use Rattle.std.specs.Cmp.Lexicographic.{same_text}
use Rattle.std.specs.declared.cmp.Ordering.{Ordering}
use Rattle.byteorder.specs.Endian.{little_number}
use Rattle.byteorder.specs.Numbers.{length-bytes_low_first, little_number-reads_back}
use Rattle.leveldb_base.specs.BlockHandle.{Handle}
use Rattle.leveldb_base.specs.Varint.{little}
use Rattle.leveldb_base.proofs.VarintLemmas.{apart}
use Rattle.leveldb_base.specs.declared.cmp.Cmp.{Ghosts as CmpGhosts}
use Rattle.leveldb_env.specs.Compressor.{Codings, Decodes}
use Rattle.leveldb_table.specs.Cache.{Cached, value_of, others, looked_for, put_first}
use Rattle.leveldb_table.specs.Table.{HasBlockAt}
use Rattle.leveldb_table.specs.BlockCache.{cache_key, IsBlockOfFile, HoldsOnlyOf, GainsBlocks, IsCachedAt, IsNumbered}
use Rattle.leveldb_table.specs.Block.{BlockRead}
use Rattle.leveldb_table.specs.declared.block_cache.CachedBlock.{CachedBlock}
use Rattle.leveldb_table.proofs.CacheLemmas.{after_look_up, after_put, after_room}

-- ---- what is found

module _ {T : Type 0} (q : List ℕ) where
  -- what is under another key isn't lost
  pub others_keep : (key : List ℕ) → bytes_eq q key ≡ false → (pairs : List (List ℕ × T)) → value_of q (others key pairs) ≡ value_of q pairs
  others_keep key other [] = refl
  others_keep key other (pair ∷ pairs) =
      (elim (bytes_eq key pair.0) as (λ b. bytes_eq key pair.0 ≡ b → value_of q (others key (pair ∷ pairs)) ≡ value_of q (pair ∷ pairs)) [
        | true ↦ λ same. (let apart : bytes_eq q pair.0 ≡ false = subst (λ k. bytes_eq q k ≡ false) (same_text key pair.0 (sym same)) other in rw (same, apart))
        | false ↦ λ there. rw there (ap (cond (bytes_eq q pair.0) (Some pair.1)) (others_keep key other pairs))
      ]) refl

  -- what a front of the pairs has, they have
  front_finds : (held : T) (n : ℕ) (pairs : List (List ℕ × T)) → value_of q (take n pairs) ≡ Some held → value_of q pairs ≡ Some held
  front_finds held zero pairs found = cc
  front_finds held (suc n) [] found = found
  front_finds held (suc n) (pair ∷ pairs) found =
      (elim (bytes_eq q pair.0) as (λ b. cond b (Some pair.1) (value_of q (take n pairs)) ≡ Some held → cond b (Some pair.1) (value_of q pairs) ≡ Some held) [
        | true ↦ λ same. same
        | false ↦ front_finds held n pairs
      ]) found

  -- a look-up leaves what is found
  pub looked_for_same : (key : List ℕ) (pairs : List (List ℕ × T)) → value_of q (looked_for key pairs) ≡ value_of q pairs
  looked_for_same key pairs =
      (elim (value_of key pairs) as (λ found. value_of key pairs ≡ found → value_of q (elim found [ None ↦ pairs | Some value ↦ (key, value) ∷ others key pairs ]) ≡ value_of q pairs) [
        | None ↦ λ none. refl
        | Some value ↦ λ there. (elim (bytes_eq q key) as (λ b. bytes_eq q key ≡ b → cond b (Some value) (value_of q (others key pairs)) ≡ value_of q pairs) [
          | true ↦ λ same. sym there ∙ ap (λ k. value_of k pairs) (sym (same_text q key (sym same)))
          | false ↦ λ other. others_keep key other pairs
        ]) refl
      ]) refl

  -- what is found after a put was found before, or is what was put
  pub put_finds : (capacity : ℕ) (key : List ℕ) (value held : T) (pairs : List (List ℕ × T)) → value_of q (put_first capacity key value pairs) ≡ Some held
      → (value_of q pairs ≡ Some held) ⊎ ((q ≡ key) × (value ≡ held))
  put_finds zero key value held pairs found = inl found
  put_finds (suc room) key value held pairs found =
      (elim (bytes_eq q key) as (λ b. bytes_eq q key ≡ b
      → cond b (Some value) (value_of q (elim (value_of key pairs) [ None ↦ take room pairs | Some old ↦ others key pairs ])) ≡ Some held
      → (value_of q pairs ≡ Some held) ⊎ ((q ≡ key) × (value ≡ held))) [
        | true ↦ λ same new. inr (same_text q key (sym same), cc)
        | false ↦ λ other. elim (value_of key pairs) as (λ old. value_of q (elim old [ None ↦ take room pairs | Some old ↦ others key pairs ]) ≡ Some held
            → (value_of q pairs ≡ Some held) ⊎ ((q ≡ key) × (value ≡ held))) [
              | None ↦ λ there. inl (front_finds held room pairs there)
              | Some old ↦ λ there. inl (sym (others_keep key other pairs) ∙ there)
            ]
      ]) refl found

-- ---- keys

-- a number of 64 bits has bytes of its own
one_little : (m n : ℕ) → m < 2 ^ 64 → n < 2 ^ 64 → little 8 m ≡ little 8 n → m ≡ n
one_little m n m_fits n_fits e =
    sym (little_number-reads_back 8 m [] m_fits) ∙ ap (λ z. little_number 8 (z ++ [])) e ∙ little_number-reads_back 8 n [] n_fits

-- the parts of one key
key_parts : (id other offset other_offset : ℕ) → cache_key id offset ≡ cache_key other other_offset → (little 8 id ≡ little 8 other) × (little 8 offset ≡ little 8 other_offset)
key_parts id other offset other_offset e = apart (little 8 id) (little 8 other) (little 8 offset) (little 8 other_offset) (length-bytes_low_first 0 8 id ∙ sym (length-bytes_low_first 0 8 other)) e

-- numbers of 64 bits are told from their key
pub one_id : (id other offset other_offset : ℕ) → id < 2 ^ 64 → other < 2 ^ 64 → cache_key id offset ≡ cache_key other other_offset → id ≡ other
one_id id other offset other_offset id_fits other_fits e = one_little id other id_fits other_fits (key_parts id other offset other_offset e).0

pub one_offset : (id other offset other_offset : ℕ) → offset < 2 ^ 64 → other_offset < 2 ^ 64 → cache_key id offset ≡ cache_key other other_offset → offset ≡ other_offset
one_offset id other offset other_offset offset_fits other_offset_fits e = one_little offset other_offset offset_fits other_offset_fits (key_parts id other offset other_offset e).1

-- ---- blocks

abbrev handle_at : ℕ → ℕ → Handle
handle_at offset size = record { offset = offset; size = size }

same_handle : (g h : Handle) → g.offset ≡ h.offset → g.size ≡ h.size → g ≡ h
same_handle g h offset size = ap (λ n. handle_at n g.size) offset ∙ ap (handle_at h.offset) size

module _ {C : Type 0} where
  -- no call
  pub GainsBlocks-refl : (id : ℕ) (Right : ℕ → CachedBlock C → Type 0) (cache : Cached (CachedBlock C)) → GainsBlocks id Right cache cache
  GainsBlocks-refl id Right cache = record { capacity = refl; given = refl; each = λ key held found. inl found }

  -- one after another
  pub GainsBlocks-trans : {id : ℕ} {Right : ℕ → CachedBlock C → Type 0} {old mid new : Cached (CachedBlock C)} → GainsBlocks id Right old mid → GainsBlocks id Right mid new → GainsBlocks id Right old new
  GainsBlocks-trans first second =
      record { capacity = second.capacity ∙ first.capacity; given = second.given ∙ first.given; each = λ key held found. ⊎_elim (first.each key held) inr (second.each key held found) }

  -- a weaker property
  pub GainsBlocks-weaker : {id : ℕ} {Right More : ℕ → CachedBlock C → Type 0} {old new : Cached (CachedBlock C)} → ((offset : ℕ) (held : CachedBlock C) → Right offset held → More offset held)
      → GainsBlocks id Right old new → GainsBlocks id More old new
  GainsBlocks-weaker weaker gathers =
      record { capacity = gathers.capacity; given = gathers.given; each = λ key held found. ⊎_elim inl (λ new. inr (new.0, new.1, weaker new.0 held new.2)) (gathers.each key held found) }

  -- a look-up
  pub GainsBlocks-look_up : {id : ℕ} {Right : ℕ → CachedBlock C → Type 0} {old new : Cached (CachedBlock C)} (key : List ℕ) → new ≡ after_look_up key old → GainsBlocks id Right old new
  GainsBlocks-look_up {id} {Right} {old} key e =
      subst (GainsBlocks id Right old) (sym e) (record { capacity = refl; given = refl; each = λ q held found. inl (sym (looked_for_same q key old.pairs) ∙ found) })

  -- a put
  pub GainsBlocks-put : {id : ℕ} {Right : ℕ → CachedBlock C → Type 0} {old new : Cached (CachedBlock C)} (offset : ℕ) (held : CachedBlock C) → new ≡ after_put (cache_key id offset) held old → Right offset held
      → GainsBlocks id Right old new
  GainsBlocks-put {id} {Right} {old} offset held e right = subst (GainsBlocks id Right old) (sym e) (record {
    capacity = refl;
    given = refl;
    each = λ q other found. ⊎_elim inl (λ new. inr (offset, new.0, subst (Right offset) new.1 right)) (put_finds q old.capacity (cache_key id offset) held other old.pairs found);
  })

  -- room that is made
  pub GainsBlocks-room : {id : ℕ} {Right : ℕ → CachedBlock C → Type 0} {old new : Cached (CachedBlock C)} → new ≡ after_room old → GainsBlocks id Right old new
  GainsBlocks-room {id} {Right} {old} e =
      subst (GainsBlocks id Right old) (sym e) (record { capacity = refl; given = refl; each = λ q held found. inl (front_finds q held (old.capacity - 1) old.pairs found) })

  -- a block's offset has 64 bits
  IsBlockOfFile-fits : {order : CmpGhosts C} {codings : Codings} {cmp : List ℕ → List ℕ → Ordering} {bytes : List ℕ} {offset : ℕ} {held : CachedBlock C} → IsBlockOfFile order codings cmp bytes offset held → offset < 2 ^ 64
  IsBlockOfFile-fits right = subst (λ n. n < 2 ^ 64) right.begins right.is_there.is_there.fits.offset

  -- what is held of a file stays so
  pub HoldsOnlyOf-after : {order : CmpGhosts C} {codings : Codings} {cmp : List ℕ → List ℕ → Ordering} {id : ℕ} {bytes : List ℕ} {Right : ℕ → CachedBlock C → Type 0} {old new : Cached (CachedBlock C)}
      → ((offset : ℕ) (held : CachedBlock C) → Right offset held → IsBlockOfFile order codings cmp bytes offset held) → GainsBlocks id Right old new → HoldsOnlyOf order codings cmp id bytes old → HoldsOnlyOf order codings cmp id bytes new
  HoldsOnlyOf-after {order} {codings} {cmp} {id} {bytes} right gathers holds offset held fits found =
      ⊎_elim (holds offset held fits)
      (λ new. (let is = right new.0 held new.2 in subst (λ n. IsBlockOfFile order codings cmp bytes n held) (one_offset id id new.0 offset (IsBlockOfFile-fits is) fits (sym new.1)) is))
      (gathers.each (cache_key id offset) held found)

  -- of another table's file too
  pub HoldsOnlyOf-other : {order : CmpGhosts C} {codings : Codings} {cmp : List ℕ → List ℕ → Ordering} {id other : ℕ} {bytes : List ℕ} {Right : ℕ → CachedBlock C → Type 0} {old new : Cached (CachedBlock C)}
      → id < 2 ^ 64 → other < 2 ^ 64 → id ≢ other → GainsBlocks id Right old new → HoldsOnlyOf order codings cmp other bytes old → HoldsOnlyOf order codings cmp other bytes new
  HoldsOnlyOf-other {id = id} {other = other} id_fits other_fits apart gathers holds offset held fits found =
      ⊎_elim (holds offset held fits) (λ new. absurd (apart (sym (one_id other id offset new.0 other_fits id_fits new.1)))) (gathers.each (cache_key other offset) held found)

  -- under a number that wasn't given nothing is held
  pub HoldsOnlyOf-new : {order : CmpGhosts C} {codings : Codings} {cmp : List ℕ → List ℕ → Ordering} {id : ℕ} {bytes : List ℕ} (cache : Cached (CachedBlock C)) → id < 2 ^ 64 → cache.given < id → IsNumbered cache → HoldsOnlyOf order codings cmp id bytes cache
  HoldsOnlyOf-new {id = id} cache id_fits new numbered offset held fits found =
      let old = numbered (cache_key id offset) held found in
      let same : id ≡ old.0 = one_id id old.0 offset old.1 id_fits (omega (arith, old.3)) old.2 in
      absurd (omega (arith, old.3))

  -- numbers stay given
  pub IsNumbered-after : {id : ℕ} {Right : ℕ → CachedBlock C → Type 0} {old new : Cached (CachedBlock C)} → id ≤ old.given → GainsBlocks id Right old new → IsNumbered old → IsNumbered new
  IsNumbered-after {id} {old = old} {new = new} given gathers numbered key held found =
      let same = gathers.given in
      ⊎_elim (λ (there : value_of key old.pairs ≡ Some held). (let is = numbered key held there in (is.0, is.1, is.2, omega (arith, is.3))))
      (λ fresh. (id, fresh.0, fresh.1, omega arith)) (gathers.each key held found)

  pub IsNumbered-raised : (cache : Cached (CachedBlock C)) (n : ℕ) → cache.given ≤ n → IsNumbered cache → IsNumbered (record cache { given = n })
  IsNumbered-raised cache n raised numbered key held found =
      let is = numbered key held found in
      (is.0, is.1, is.2, omega (arith, is.3))

  -- ---- a block that is asked for

  -- what is held at a handle is the file's block there
  pub IsCachedAt-is_there : {order : CmpGhosts C} {codings : Codings} {cmp : List ℕ → List ℕ → Ordering} {id : ℕ} {handle : Handle} {bytes : List ℕ} {cache : Cached (CachedBlock C)} {block : BlockRead C}
      → IsCachedAt id handle cache block → HoldsOnlyOf order codings cmp id bytes cache → HasBlockAt (Decodes codings) bytes handle block.contents × (order.cmp block.cmp ≡ cmp)
  IsCachedAt-is_there {order} {codings} {handle = handle} {bytes = bytes} {block = block} here holds =
      let is = holds handle.offset here.held here.fits here.found in
      let same = same_handle here.held.handle handle is.begins here.size in (
        subst (λ z. HasBlockAt (Decodes codings) bytes z block.contents) same (subst (HasBlockAt (Decodes codings) bytes here.held.handle) (sym here.contents) is.is_there),
        ap order.cmp here.ordered ∙ is.ordered,
      )

  -- a copy of a block that was read is the file's
  pub IsBlockOfFile-copy : {order : CmpGhosts C} {codings : Codings} {cmp : List ℕ → List ℕ → Ordering} {bytes : List ℕ} (handle : Handle) (block copy : BlockRead C) → copy.contents ≡ block.contents → copy.cmp ≡ block.cmp
      → order.cmp block.cmp ≡ cmp → HasBlockAt (Decodes codings) bytes handle block.contents → IsBlockOfFile order codings cmp bytes handle.offset (record { handle = handle; block = copy })
  IsBlockOfFile-copy {order} {codings} {bytes = bytes} handle block copy contents orders ordered is_there =
      record { begins = refl; is_there = subst (HasBlockAt (Decodes codings) bytes handle) (sym contents) is_there; ordered = ap order.cmp orders ∙ ordered }
