-- Parts of tables: a prefix of one is one, and one of some pairs is one of any more.
use Rattle.std.proofs.Common.{◌≡◌, ◌++◌, ◌∙◌, ap, append_assoc, inl, inr, ℕ, List}
use Rattle.leveldb_base.specs.Types.{Pair}
use Rattle.leveldb_base.specs.declared.cmp.Cmp.{Ghosts as CmpGhosts}
use Rattle.leveldb_env.specs.declared.filter.FilterPolicy.{Ghosts as FilterGhosts}
use Rattle.leveldb_store.specs.Tables.BuildTable.{TableChoices}
use Rattle.leveldb_store.specs.Tables.TableParts.{IsTablePart}

-- a prefix of a part is one
pub part_front : {C FP : Type 0} {order : CmpGhosts C} {filters : FilterGhosts FP}
    (choices : TableChoices order filters) (Has : Pair → Type 0) (bytes front rest : List ℕ)
    → bytes ≡ front ++ rest → IsTablePart choices Has bytes → IsTablePart choices Has front
part_front choices Has bytes front rest is (whole, after, begins, either) = (
  whole,
  rest ++ after,
  begins ∙ ap (λ b. b ++ after) is ∙ append_assoc front rest after,
  either,
)

-- and one of pairs that are of another kind too
pub part_weaker : {C FP : Type 0} {order : CmpGhosts C} {filters : FilterGhosts FP}
    (choices : TableChoices order filters) {Has More : Pair → Type 0} (bytes : List ℕ)
    → ((pair : Pair) → Has pair → More pair) → IsTablePart choices Has bytes
    → IsTablePart choices More bytes
part_weaker choices bytes so (whole, rest, is, inl put) = (
  whole,
  rest,
  is,
  inl (record {
    pairs = put.pairs;
    each = λ pair c. so pair (put.each pair c);
    core = put.core;
    is_new = put.is_new;
    status = put.status;
    stops = put.stops;
    put = put.put;
  }),
)
part_weaker choices bytes so (whole, rest, is, inr built) = (
  whole,
  rest,
  is,
  inr (record {
    pairs = built.pairs;
    each = λ pair c. so pair (built.each pair c);
    built = built.built;
  }),
)
