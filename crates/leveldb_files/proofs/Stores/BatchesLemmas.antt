-- The records of a log are one list of batches.
use Rattle.leveldb_mem.specs.WriteBatch.{Batch}
use Rattle.leveldb_mem.specs.WriteBatchLaws.{BatchOf-one}
use Rattle.leveldb_files.specs.Stores.Batches.{Each, IsRecordOf}
use Rattle.std.proofs.Common.{◌++◌, ◌∷◌, ◌≡◌, List, [], refl, suc, take, zero, ℕ}

-- ---- lists that are related one by one

pub each_take : {A B : Type 0} (R : A → B → Type 0) (n : ℕ) (xs : List A) (ys : List B)
    → Each R xs ys → Each R (take n xs) (take n ys)
each_take R zero xs ys e = tt
each_take R (suc n) [] [] e = tt
each_take R (suc n) (x ∷ xs) (y ∷ ys) e = (e.0, each_take R n xs ys e.1)
each_take R (suc n) [] (y ∷ ys) e = absurd e
each_take R (suc n) (x ∷ xs) [] e = absurd e

pub each_more : {A B : Type 0} (R : A → B → Type 0) (xs : List A) (ys : List B) (x : A) (y : B)
    → Each R xs ys → R x y → Each R (xs ++ x ∷ []) (ys ++ y ∷ [])
each_more R [] [] x y e r = (r, tt)
each_more R (a ∷ xs) (b ∷ ys) x y e r = (e.0, each_more R xs ys x y e.1 r)
each_more R [] (b ∷ ys) x y e r = absurd e
each_more R (a ∷ xs) [] x y e r = absurd e

-- where each has one partner, two lists of partners are one
pub each_one : {A B : Type 0} (R : A → B → Type 0) → ((a : A) (b c : B) → R a b → R a c → b ≡ c)
    → (xs : List A) (ys zs : List B) → Each R xs ys → Each R xs zs → ys ≡ zs
each_one R one [] [] [] e f = refl
each_one R one (x ∷ xs) (y ∷ ys) (z ∷ zs) e f =
    let head = one x y z e.0 f.0 in
    let rest = each_one R one xs ys zs e.1 f.1 in
    λ i. head i ∷ rest i
each_one R one [] (y ∷ ys) zs e f = absurd e
each_one R one [] [] (z ∷ zs) e f = absurd f
each_one R one (x ∷ xs) [] zs e f = absurd e
each_one R one (x ∷ xs) (y ∷ ys) [] e f = absurd f

-- ---- one reading

one_batch : (record' : List ℕ) (these those : Batch) → IsRecordOf record' these
    → IsRecordOf record' those → these ≡ those
one_batch record' these those p q =
    let same = BatchOf-one record' these.first those.first these.items those.items p q in
    λ i. record { first = same.0 i; items = same.1 i }

-- records are one list of batches
pub one_batches : (records : List (List ℕ)) (these those : List Batch)
    → Each IsRecordOf records these → Each IsRecordOf records those → these ≡ those
one_batches records these those p q = each_one IsRecordOf one_batch records these those p q
