-- Keys of a cache are the same where the order of bytes says so.
use Rattle.std.proofs.Common.{◌≡◌, ℕ, List, true, false, refl, sym, ap, subst}
use Rattle.std.specs.declared.cmp.Ordering.TheVariants.{Less, Equal, Greater}
use Rattle.std.specs.Ordering.{is_eq}
use Rattle.std.specs.Cmp.{tied_itself}
use Rattle.std.specs.Cmp.Lexicographic.{nat_list_cmp_total, nat_list_eq_equiv, same_text}
use Rattle.std.specs.Str.{bytes_eq}
use Rattle.leveldb_base.specs.Cmp.{bytewise}
use Rattle.leveldb_base.specs.CmpLaws.{bytewise_exact}

-- keys that aren't the same aren't `Equal`
apart : (a b : List ℕ) → bytes_eq a b ≡ false → is_eq (bytewise a b) ≡ false
apart a b other = (elim (bytewise a b) as (λ r. bytewise a b ≡ r → is_eq r ≡ false) [
  | Less ↦ λ _. refl
  | Equal ↦ λ equal.
      let same : bytes_eq a b ≡ true = subst (λ c. bytes_eq a c ≡ true) (bytewise_exact a b equal) (nat_list_eq_equiv.refl a) in
      cc
  | Greater ↦ λ _. refl
]) refl

-- the order of bytes finds the same keys
pub equal_bytes : (a b : List ℕ) → is_eq (bytewise a b) ≡ bytes_eq a b
equal_bytes a b = (elim (bytes_eq a b) as (λ e. bytes_eq a b ≡ e → is_eq (bytewise a b) ≡ e) [
  | true ↦ λ same. subst (λ c. is_eq (bytewise a c) ≡ true) (same_text a b (sym same)) (ap is_eq (tied_itself nat_list_cmp_total a))
  | false ↦ λ other. apart a b other
]) refl
