-- Live tables that are there, as long as their edits say.
use Rattle.std.specs.Prelude.{IfSome, IsSome, IsSomeAnd, length}
use Rattle.std.proofs.Common.{◌≡◌, ◌∙◌, ℕ, Option, None, Some, ap, sym}
use Rattle.leveldb_env.specs.Env.{File, bytes_of}
use Rattle.leveldb_files.proofs.Stores.ManagedLemmas.{SameBytes}

-- a file of this many bytes is there
abbrev pub IsSized : ℕ → Option File → Type 0
IsSized size file = IsSomeAnd file (λ there. length (bytes_of there) ≡ size)

-- it is there still where the bytes are the same
pub sized_still : (old new : Option File) (size : ℕ) → SameBytes old new → IsSized size old → IsSized size new
sized_still None new size same there = absurd there
sized_still (Some file) None size same there = absurd (let never : None ≡ Some (bytes_of file) = same in cc)
sized_still (Some file) (Some other) size same there =
    let both : Some (bytes_of other) ≡ Some (bytes_of file) = same in
    let bytes : bytes_of other ≡ bytes_of file = cc in
    ap length bytes ∙ there

-- the size that was found is the one that is said
pub sized_as_found : (file : Option File) (found size : ℕ) → IsSome file → IfSome file (λ there. found ≡ length (bytes_of there)) → found ≡ size → IsSized size file
sized_as_found None found size some is same = absurd (cc)
sized_as_found (Some file) found size some is same = sym is ∙ same

-- or it isn't
pub sized_otherwise : (file : Option File) (found size : ℕ) → IfSome file (λ there. found ≡ length (bytes_of there)) → (found ≡ size → ⊥) → IsSized size file → ⊥
sized_otherwise None found size is other there = there
sized_otherwise (Some file) found size is other there = other (is ∙ there)

-- what is missing has no size
pub missing_unsized : (file : Option File) (size : ℕ) → file ≡ None → IsSized size file → ⊥
missing_unsized None size gone there = there
missing_unsized (Some file) size gone there = absurd (cc)
