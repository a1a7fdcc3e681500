use Rattle.std.proofs.Common.{◌≡◌, ap, sym, ◌∙◌, drop, get_or, length, slice_range, ◌+◌, arith}
use Rattle.leveldb_env.specs.Filter.{first_offset}
use Rattle.leveldb_env.proofs.FilterLemmas.{get_or-keys_at, first_offset-drop, first_offset-end, slice_range-clamped}
use Rattle.leveldb_env.proofs.filter.key_at.Goals as goal
use Rattle.leveldb_env.proofs.filter.key_at.Goals.{then-index-key_offsets, else-index-key_offsets}

pub returns : goal.returns
returns c =
    let keys = c.args.keys.now
    in let offsets = c.args.key_offsets.now
    in let i = c.args.index
    in let end : c.if-index-key_offsets.end ≡ first_offset (drop (i + 1) offsets) (length keys) =
    elim c.if-index-key_offsets.branch [
      | then-index-key_offsets w ↦ w.end-is ∙ sym (first_offset-drop offsets (i + 1) (length keys) (omega arith))
      | else-index-key_offsets w ↦ w.end-is ∙ sym (first_offset-end offsets (i + 1) (length keys) (omega arith))
    ]
    in let last = c.if-index-key_offsets.end
    in let cut : slice_range keys c.min-begin.result c.max.result ≡ slice_range keys (get_or offsets i 0) last =
    slice_range-clamped keys (get_or offsets i 0) last c.min-begin.result c.max.result (omega (arith, c.min-begin.ensures)) (omega (arith, c.max.ensures, c.min.ensures, c.min-begin.ensures))
    in cut ∙ ap (λ e. slice_range keys (get_or offsets i 0) e) end ∙ sym (get_or-keys_at offsets keys i c.requires.there)
