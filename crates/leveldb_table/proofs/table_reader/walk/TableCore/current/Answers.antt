use Rattle.std.proofs.Common.{rules, ◌≡◌, Some, sym, ap, ◌∙◌}
use Rattle.leveldb_base.specs.Types.{pair_at}
use Rattle.leveldb_table.specs.BlockWalk.{position_over}
use Rattle.leveldb_table.specs.TableReaderWalk.{inner_position, inner_pairs}
use Rattle.leveldb_table.proofs.TableReaderWalkLemmas.{current_at}
use Rattle.leveldb_table.proofs.table_reader.walk.TableCore.current.Goals as goal

pub returns-clause-position : goal.returns-clause-position
returns-clause-position g c = λ cmp parts position is_there.
    let core = c.args.self.now in
    let inner : core.inner ≡ Some c.in_ok-as_ref.field-0.now = search rules in
    c.current.ensures ∙ ap (λ o. pair_at (inner_pairs o) (inner_position o)) (sym inner) ∙ current_at parts (position_over core.index) (inner_pairs core.inner) (inner_position core.inner) position is_there.at
