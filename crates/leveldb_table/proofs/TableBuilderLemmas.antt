-- Separators keep the order of the parts of keys that filters go by.
use Rattle.std.proofs.Common.{◌≡◌, ◌≢◌, ℕ, Bool, true, false, cond, List, length, nat_le, nat_lt, ◌&&◌, sym, ◌∙◌, ap, refl}
use Rattle.std.proofs.lemmas.Bool.{and_parts}
use Rattle.std.specs.declared.cmp.Ordering.{Ordering}
use Rattle.std.specs.declared.cmp.Ordering.TheVariants.{Less, Equal, Greater}
use Rattle.std.specs.Ordering.{ordering_reverse, ordering_then, nat_cmp, is_lt}
use Rattle.std.specs.Str.{bytes_eq}
use Rattle.leveldb_base.specs.declared.key_types.ValueType.TheVariants.{TypeValue}
use Rattle.leveldb_base.specs.Cmp.{IsPreorderOn, IsSeparator, internal_accepts, internal_separator}
use Rattle.leveldb_base.specs.KeyTypes.{internal_key, user_part, sequence_part, internal_cmp, greatest_sequence}
use Rattle.leveldb_base.specs.CmpLaws.{user_part-internal_key}
use Rattle.leveldb_table.specs.TableBuilder.{SeparatesUsers}

-- where two equal keys separate themselves, else a key of this user's key
by_known : (same : Bool) (a s key : List ℕ) (number : ℕ) → user_part key ≡ user_part (cond same a (internal_key s number TypeValue)) → (user_part key ≡ s → user_part a ≡ user_part key) → user_part a ≡ user_part key
by_known true a s key number e f = sym e
by_known false a s key number e f = f (e ∙ user_part-internal_key s number TypeValue)

module _ {accepts : List ℕ → Bool} {cmp : List ℕ → List ℕ → Ordering} (order : IsPreorderOn accepts cmp) (sep : List ℕ → List ℕ → List ℕ)
    (separates : (a b : List ℕ) → accepts a ≡ true → accepts b ≡ true → cmp a b ≢ Greater → IsSeparator accepts cmp a b (sep a b)) where
  -- what is the separator of a key and one after it is before the latter
  turned_before : (a b key : List ℕ) → accepts a ≡ true → accepts b ≡ true → accepts key ≡ true → cmp a b ≡ Less → key ≡ sep a b → cmp b key ≡ Greater
  turned_before a b key ha hb hk less same =
      let between = separates a b ha hb (λ e. let l = less in cc) in
      order.turned b key hb hk ∙ ap (λ k. ordering_reverse (cmp k b)) same ∙ ap ordering_reverse (between.before less)

  pub raw_separated : SeparatesUsers accepts cmp sep (λ key. key)
  raw_separated a b key ha hb hk less after same = absurd (after (turned_before a b key ha hb hk less same))

  user_accepted : (a : List ℕ) → internal_accepts accepts a ≡ true → accepts (user_part a) ≡ true
  user_accepted a h = (and_parts (nat_le 8 (length a)) (accepts (user_part a)) h).1

  module _ (exact : (a b : List ℕ) → cmp a b ≡ Equal → a ≡ b) where
    by_users : (a b key : List ℕ) (r s t : Ordering) → accepts a ≡ true → accepts b ≡ true → accepts key ≡ true → cmp a b ≡ r → ordering_then r s ≡ Less → ordering_then (cmp b key) t ≢ Greater → key ≡ sep a b → a ≡ key
    by_users a b key Less s t ha hb hk e less after same = absurd (after (ap (λ r. ordering_then r t) (turned_before a b key ha hb hk e same)))
    by_users a b key Equal s t ha hb hk e less after same =
        let between = separates a b ha hb (λ greater. cc) in
        sym (same ∙ between.same (exact a b e))
    by_users a b key Greater s t ha hb hk e less after same = cc

    pub internal_separated : SeparatesUsers (internal_accepts accepts) (internal_cmp cmp) (internal_separator cmp sep) user_part
    internal_separated a b key ha hb hk less after same =
        let user = sep (user_part a) (user_part b) in
        let moved = nat_lt (length user) (length (user_part a)) && is_lt (cmp (user_part a) user) in
        by_known (bytes_eq a b) a user key (cond moved greatest_sequence (sequence_part a)) same
        (by_users (user_part a) (user_part b) (user_part key) (cmp (user_part a) (user_part b)) (nat_cmp (sequence_part b) (sequence_part a)) (nat_cmp (sequence_part key) (sequence_part b))
        (user_accepted a ha) (user_accepted b hb) (user_accepted key hk) refl less after)
