use Rattle.std.proofs.Common.{◌∙◌, [], map, None, refl, sym, ap, rules}
use Rattle.leveldb_base.specs.Types.{Pair}
use Rattle.leveldb_table.specs.Block.{pairs_of}
use Rattle.leveldb_table.proofs.table_builder.builder_core.BuilderCore.under.Goals as goal

pub returns : goal.returns
returns g c = record {
  begun = λ codings. record {
    parts = [];
    each = tt;
    exact = tt;
    under = tt;
    lined = ap (pairs_of None) c.spaced-2.ensures.none;
    separated = tt;
    linked = tt;
    placed = refl;
    whole = refl;
    pairs_are = sym (ap (pairs_of None) c.spaced.ensures.none);
    sorted = tt;
    accepted = tt;
    kept = tt;
    open_kept = rw c.spaced.ensures.none tt;
    made = c.new.ensures.filters;
    open_keys = c.new.ensures.keys ∙ sym (ap (λ z. map (λ (pair : Pair). pair.0) (pairs_of None z)) c.spaced.ensures.none);
    counted = refl;
  };
  unbroken = refl;
  none = refl;
  order = search rules;
  policy = search rules;
  compressor = search rules;
  size = search rules;
  interval = search rules;
}
