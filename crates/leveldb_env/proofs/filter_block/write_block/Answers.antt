use Rattle.std.proofs.Common.{◌≡◌, ◌^◌, ◌<◌, ◌++◌, ◌∷◌, [], length, flat_map, sym, ap, subst, ◌∙◌, arith}
use Rattle.std.specs.List.{All, concat}
use Rattle.leveldb_base.specs.Varint.{little}
use Rattle.leveldb_env.specs.FilterBlock.{offsets_from}
use Rattle.leveldb_env.proofs.FilterBlockLemmas.{offsets_small, put_block}
use Rattle.leveldb_env.proofs.filter_block.write_block.Goals as goal

pub put_offsets-requires : goal.put_offsets-requires
put_offsets-requires c =
    subst (λ z. All (λ offset. offset < 2 ^ 32) z) (sym (c.deref.ensures.value ∙ c.into_parts-block.ensures.offsets)) (offsets_small 0 (2 ^ 32) c.args.filters (omega (arith, c.requires.fits)))

pub returns-clause-ok : goal.returns-clause-ok
returns-clause-ok c =
    let offsets = c.deref.ensures.value ∙ c.into_parts-block.ensures.offsets in
    let front = c.reserve.ensures.items ∙ c.into_parts-block.ensures.bytes in
    let end : c.len-end.result ≡ length (concat c.args.filters) = omega (arith, c.len-end.ensures, ap length c.into_parts-block.ensures.bytes, c.into_parts-block.result.0.ok.0) in
    put_block c.push.new.self.items c.args.filters
    (c.in_ok-push.ensures.items ∙ ap (λ z. z ++ 11 ∷ []) (c.in_ok-put_number.ensures.ok
    ∙ ap (λ z. z ++ little 4 c.len-end.result) (c.in_ok-put_offsets.ensures.ok
    ∙ ap (λ z. z ++ flat_map (little 4) c.deref.result.now) front
    ∙ ap (λ z. concat c.args.filters ++ flat_map (little 4) z) offsets)
    ∙ ap (λ z. (concat c.args.filters ++ flat_map (little 4) (offsets_from 0 c.args.filters)) ++ little 4 z) end))
    c.requires.fits
