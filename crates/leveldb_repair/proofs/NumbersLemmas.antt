-- The greatest number of files that are listed.
use Rattle.std.specs.Cmp.{nat_cmp_is}
use Rattle.std.specs.Ordering.{is_lt, nat_cmp, ord_max}
use Rattle.std.specs.Prelude.{All, Any}
use Rattle.std.specs.declared.cmp.Ordering.{Ordering}
use Rattle.std.specs.declared.cmp.Ordering.TheVariants.{Equal, Greater, Less}
use Rattle.std.proofs.Common.{◌≡◌, ◌∙◌, ◌⊎◌, inl, inr, ⊎_elim, ◌<◌, ◌≤◌, ◌+◌, ℕ, List, ap, arith, cond, get_or, length, max, refl, subst, sym, take, string_bytes}
use Rattle.std.proofs.lemmas.Bool.{cases_lt}
use Rattle.std.proofs.lemmas.List.{take_all}
use Rattle.std.proofs.lemmas.List.Elements.{All-contains, All-nil}
use Rattle.leveldb_base.proofs.EntriesLemmas.{in_map}
use Rattle.leveldb_base.proofs.NamesLemmas.{one_reading}
use Rattle.leveldb_base.specs.Names.{IsFileName}
use Rattle.leveldb_store.proofs.Openings.ListingLemmas.{all_more}
use Rattle.leveldb_store.proofs.Openings.OpeningFindLemmas.{listed, no_slash_in_name}
use Rattle.leveldb_store.specs.Openings.Listing.{MatchesName}
use Rattle.leveldb_store.specs.declared.opening.listing.ListedFile.{ListedFile}
use Rattle.leveldb_repair.specs.Numbers.{IsGreatestNumber}

-- ---- the greater of two numbers

by_order : (order : Ordering) (a b : ℕ) → order ≡ nat_cmp b a → cond (is_lt order) a b ≡ max a b
    → ord_max nat_cmp a b ≡ max a b
by_order order a b is so = ap (λ o. cond (is_lt o) a b) (sym is) ∙ so

pub max_is : (a b : ℕ) → ord_max nat_cmp a b ≡ max a b
max_is a b = ⊎_elim
    (λ (less : b < a). let top : a ≡ max a b = omega (arith, less) in
    by_order Less a b (nat_cmp_is b a Less less) top)
    (λ (most : a ≤ b). let top : b ≡ max a b = omega (arith, most) in ⊎_elim
    (λ (below : a < b). by_order Greater a b (nat_cmp_is b a Greater below) top)
    (λ (least : b ≤ a). let same : b ≡ a = omega (arith, most, least) in
    by_order Equal a b (nat_cmp_is b a Equal same) top)
    (cases_lt a b))
    (cases_lt b a)

-- ---- the greatest number

-- this number is the greatest of the first files
pub record IsGreatestOf (listing : List ListedFile) (count greatest : ℕ) : Type 0 where
  pub above : All (λ (file : ListedFile). file.number ≤ greatest) (take count listing)
  pub some : (greatest ≡ 0) ⊎ Any (λ (file : ListedFile). file.number ≡ greatest) listing

pub IsGreatestOf-none : (listing : List ListedFile) → IsGreatestOf listing 0 0
IsGreatestOf-none listing = record {
  above = All-nil (λ (file : ListedFile). file.number ≤ 0);
  some = inl refl;
}

pub IsGreatestOf-more : (listing : List ListedFile) (i : ℕ) (file : ListedFile)
    → i < length listing → file ≡ get_or listing i file → (before : ℕ)
    → IsGreatestOf listing i before → (now : ℕ) → now ≡ max before file.number
    → IsGreatestOf listing (i + 1) now
IsGreatestOf-more listing i file inside is before has now now_is = record {
  above = all_more (λ (file : ListedFile). file.number ≤ now) listing i file inside is
      (λ k d lt. let least = has.above k d lt in omega (arith, least, now_is))
      (omega (arith, now_is));
  some = ⊎_elim
      (λ (here : now ≡ file.number). inr (i, file, inside, sym is, sym here))
      (λ (old : now ≡ before). ⊎_elim
      (λ (zero : before ≡ 0). inl (omega (arith, old, zero)))
      (λ (one : Any (λ (f : ListedFile). f.number ≡ before) listing).
      inr (one.0, one.1, one.2, one.3, omega (arith, old, one.4)))
      has.some)
      either;
}
  where
    either : (now ≡ file.number) ⊎ (now ≡ before)
    either = ⊎_elim
        (λ (less : before < file.number). inl (omega (arith, less, now_is)))
        (λ (more : file.number ≤ before). inr (omega (arith, more, now_is)))
        (cases_lt before file.number)

pub IsGreatestNumber-all : (listing : List ListedFile) (i greatest : ℕ) → length listing ≤ i
    → IsGreatestOf listing i greatest → IsGreatestNumber listing greatest
IsGreatestNumber-all listing i greatest past has = record {
  above = above;
  some = has.some;
  below = λ store files names lists are name n kind is there.
      let c = listed store files names lists name (no_slash_in_name name n kind is) there in
      let at = in_map (λ (file : ListedFile). string_bytes file.name) listing name
      (are.all name n kind c is) in
      let reads : IsFileName name at.0.number at.0.kind =
      subst (λ t. IsFileName t at.0.number at.0.kind) at.2
      (All-contains MatchesName listing at.0 are.named at.1) in
      let same = (one_reading name at.0.number n at.0.kind kind reads is).0 in
      let least = All-contains (λ (file : ListedFile). file.number ≤ greatest) listing at.0 above
      at.1 in
      omega (arith, same, least);
}
  where
    above : All (λ (file : ListedFile). file.number ≤ greatest) listing
    above = subst (All (λ (file : ListedFile). file.number ≤ greatest)) (take_all i listing past)
        has.above
