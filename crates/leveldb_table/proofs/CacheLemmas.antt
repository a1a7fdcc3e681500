-- What a cache's pairs are after a put and a look-up, from the words of the map below it.
use Rattle.std.proofs.Common.{◌≡◌, ◌∙◌, ◌<◌, ◌-◌, take, Bool, cond, if◌then◌else◌, ℕ, zero, suc, arith, true, false, ◌⊎◌, List, [], ◌∷◌, None, Some, refl, sym, ap, inl, inr}
use Rattle.std.specs.Str.{bytes_eq}
use Rattle.std.specs.List.{IsDistinct}
use Rattle.std.specs.Map.{keys_of, lookup, lookup_entry}
use Rattle.std.specs.Cmp.Lexicographic.{nat_list_eq_equiv, same_text}
use Rattle.std.proofs.lemmas.Map.{lookup-remove_entry}
use Rattle.lru.specs.LruCache.{LruCache, lru_cache, promoted, put_entries}
use Rattle.leveldb_table.specs.Cache.{Cached, value_of, others, looked_for, put_first, leaving_room}

-- a cache over a map that is used or isn't, with the number that was given last
abbrev pub cached_of : {T : Type 0} → LruCache (List ℕ) T → Bool → ℕ → Cached T
cached_of map keeps given =
    record { pairs = if keeps then map.entries else []; capacity = if keeps then map.cap else 0; given = given }

-- the cache after a look-up, and after a put
abbrev pub after_look_up : {T : Type 0} → List ℕ → Cached T → Cached T
after_look_up key cache = record cache { pairs = looked_for key cache.pairs }

abbrev pub after_put : {T : Type 0} → List ℕ → T → Cached T → Cached T
after_put key value cache = record cache { pairs = put_first cache.capacity key value cache.pairs }

-- the cache with room for one more
abbrev pub after_room : {T : Type 0} → Cached T → Cached T
after_room cache = record cache { pairs = leaving_room cache.capacity cache.pairs }

module _ {T : Type 0} (key : List ℕ) where
  -- there is a pair of the key, or none
  abbrev IsFound : List (List ℕ × T) → Type 0
  IsFound pairs = ((lookup_entry (bytes_eq key) pairs ≡ None) × (lookup (bytes_eq key) pairs ≡ None))
      ⊎ ((value : T) × (lookup_entry (bytes_eq key) pairs ≡ Some (key, value)) × (lookup (bytes_eq key) pairs ≡ Some value))

  found : (pairs : List (List ℕ × T)) → IsFound pairs
  found [] = inl (refl, refl)
  found (pair ∷ pairs) = (elim (bytes_eq key pair.0) as (λ b. bytes_eq key pair.0 ≡ b → IsFound (pair ∷ pairs)) [
    | true ↦ λ same. (let own : key ≡ pair.0 = same_text key pair.0 (sym same) in
        inr (pair.1, rw same (ap (λ k. Some (k, pair.1)) (sym own)), rw same))
    | false ↦ λ other. elim (found pairs) [
      | inl none ↦ inl (rw other none.0, rw other none.1)
      | inr there ↦ inr (there.0, rw other there.1, rw other there.2)
    ]
  ]) refl

  -- a put into a map with some room
  put_in : (cap : ℕ) (pairs : List (List ℕ × T)) (value : T) → 0 < cap → put_entries bytes_eq (record { entries = pairs; cap = cap }) key value ≡ put_first cap key value pairs
  put_in zero pairs value some = absurd (omega (arith, some))
  put_in (suc room) pairs value some =
      let less : suc room - 1 ≡ room = omega arith in elim (found pairs) [
        | inl none ↦ rw (none.0, none.1) (ap (λ n. (key, value) ∷ take n pairs) less)
        | inr there ↦ rw (there.1, there.2)
      ]

  -- after a look-up
  pub promoted_is : (pairs : List (List ℕ × T)) → promoted (bytes_eq key) pairs ≡ looked_for key pairs
  promoted_is pairs = elim (found pairs) [
    | inl none ↦ rw (none.0, none.1, looked_for)
    | inr there ↦ rw (there.1, there.2, looked_for)
  ]

  -- after a put
  pub put_is : (cache : LruCache (List ℕ) T) (value : T) → 0 < cache.cap → put_entries bytes_eq cache key value ≡ put_first cache.cap key value cache.entries
  put_is cache value some = put_in cache.cap cache.entries value some

  -- nothing is put where there is room for none
  pub put_none : (capacity : ℕ) (pairs : List (List ℕ × T)) (value : T) → capacity ≡ 0 → pairs ≡ put_first capacity key value pairs
  put_none zero pairs value none = refl
  put_none (suc room) pairs value none = absurd (omega (arith, none))

  -- a map that is used is the cache
  pub kept_put : (map : LruCache (List ℕ) T) (keeps : Bool) (given : ℕ) (value : T) → keeps ≡ true
      → cached_of (lru_cache (put_first map.cap key value map.entries) map.cap) keeps given ≡ after_put key value (cached_of map keeps given)
  kept_put map true given value is = refl
  kept_put map false given value is = cc

  pub kept_look_up : (map : LruCache (List ℕ) T) (keeps : Bool) (given : ℕ) → keeps ≡ true
      → cached_of (lru_cache (looked_for key map.entries) map.cap) keeps given ≡ after_look_up key (cached_of map keeps given)
  kept_look_up map true given is = refl
  kept_look_up map false given is = cc

  pub kept_value : (map : LruCache (List ℕ) T) (keeps : Bool) (given : ℕ) → keeps ≡ true → value_of key map.entries ≡ value_of key (cached_of map keeps given).pairs
  kept_value map true given is = refl
  kept_value map false given is = cc

  -- a map that isn't used has nothing
  pub unused_look_up : (map : LruCache (List ℕ) T) (keeps : Bool) (given : ℕ) → keeps ≡ false → cached_of map keeps given ≡ after_look_up key (cached_of map keeps given)
  unused_look_up map true given is = cc
  unused_look_up map false given is = refl

  pub unused_value : (map : LruCache (List ℕ) T) (keeps : Bool) (given : ℕ) → keeps ≡ false → None ≡ value_of key (cached_of map keeps given).pairs
  unused_value map true given is = cc
  unused_value map false given is = refl

-- under a key that was taken out there is nothing
removed_gone : {T : Type 0} (key : List ℕ) (pairs : List (List ℕ × T)) → IsDistinct bytes_eq (keys_of pairs) → value_of key (others key pairs) ≡ None
removed_gone key pairs distinct =
    let one : (x y : List ℕ) → bytes_eq key x ≡ true → bytes_eq key y ≡ bytes_eq x y = nat_list_eq_equiv.congr key in
    lookup-remove_entry nat_list_eq_equiv (bytes_eq key) one key pairs distinct ∙ ap (λ b. cond b None (value_of key pairs)) (nat_list_eq_equiv.refl key)

pub kept_gone : {T : Type 0} (key : List ℕ) (map : LruCache (List ℕ) T) (keeps : Bool) (given : ℕ) (left : List (List ℕ × T)) → left ≡ others key map.entries → IsDistinct bytes_eq (keys_of (cached_of map keeps given).pairs)
    → value_of key (if keeps then left else []) ≡ None
kept_gone key map true given left is distinct = ap (value_of key) is ∙ removed_gone key map.entries distinct
kept_gone key map false given left is distinct = refl

-- there is room only in a map that is used
pub room_kept : (keeps : Bool) (room : ℕ) → ((if keeps then room else 0) ≡ 0 → ⊥) → (keeps ≡ true) × (0 < room)
room_kept true zero some = absurd (some refl)
room_kept true (suc room) some = (refl, omega arith)
room_kept false room some = absurd (some refl)

-- no keys are distinct
pub unused_distinct : {T : Type 0} (map : LruCache (List ℕ) T) (keeps : Bool) (given : ℕ) → keeps ≡ false → IsDistinct bytes_eq (keys_of (cached_of map keeps given).pairs)
unfolding IsDistinct
unused_distinct map true given is = cc
unused_distinct map false given is = tt
