use Rattle.std.proofs.Common.{ℕ, List, [], ◌∷◌, Some, arith, ◌∙◌}
use Rattle.leveldb_base.specs.declared.key_types.ValueType.TheVariants.{TypeValue}
use Rattle.leveldb_base.specs.KeyTypes.{tag}
use Rattle.leveldb_base.proofs.KeyTypesLemmas.{SplitsInto-memtable_key}
use Rattle.layer_uses.proofs.words.entries.Goals as goal

pub parse_memtable_key-requires : goal.parse_memtable_key-requires
parse_memtable_key-requires g c =
    let user : List ℕ = 97 ∷ 98 ∷ 99 ∷ [] in
    let value : List ℕ = 49 ∷ 50 ∷ 51 ∷ [] in
    let parts = SplitsInto-memtable_key user 231 TypeValue value (omega arith) in
    (user, Some (tag 231 TypeValue, value), (c.as_slice.ensures.value ∙ c.in_ok-entry.ensures.ok ∙ parts.0, parts.1))
