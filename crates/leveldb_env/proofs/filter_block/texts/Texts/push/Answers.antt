use Rattle.std.proofs.Common.{◌-◌, ◌++◌, ◌∷◌, [], length, replicate, ap, ◌∙◌, arith}
use Rattle.leveldb_env.specs.Filter.{keys_at}
use Rattle.leveldb_env.specs.FilterBlock.{AreTexts}
use Rattle.leveldb_env.proofs.FilterBlockLemmas.{more_texts, more_offsets, cut_again, cut_texts}
use Rattle.leveldb_env.proofs.filter_block.texts.Texts.push.Goals as goal

-- the texts with the new ones
more_here : (c : goal.After-unwrap-2)
    → AreTexts c.extend_from_slice.new.self.items c.resize.new.self.items (keys_at c.self.inside.offsets.items c.self.inside.bytes.items ++ c.args.text.now ∷ replicate (c.args.count - 1) [])
more_here c =
    let it = c.self.inside in
    let pushed = (rw c.unwrap.ensures at c.push.ensures.items)
    ∙ ap (λ z. z ++ c.len-begin.result ∷ []) c.reserve.ensures.items
    ∙ ap (λ z. it.offsets.items ++ z ∷ []) (c.len-begin.ensures ∙ it.bytes.ok.0) in
    let resized = (rw c.unwrap-2.ensures at c.resize.ensures.items) in
    let end = c.len-2.ensures ∙ c.extend_from_slice.new.self.ok.0 in
    let places = more_offsets it.offsets.items (length it.bytes.items) c.len-2.result c.args.count c.push.new.self.items c.resize.new.self.items _ _ c.requires
    (omega (arith, c.len.ensures, c.reserve.ensures.len, it.offsets.ok.0)) c.push.new.self.ok.0 pushed resized in
    more_texts c.self.invariant c.args.text.now (c.args.count - 1) c.extend_from_slice.new.self.items c.resize.new.self.items c.in_ok-extend_from_slice.ensures.items
    (places ∙ ap (λ z. (it.offsets.items ++ length it.bytes.items ∷ []) ++ replicate (c.args.count - 1) z) end)

pub invariant_of-self-2 : goal.invariant_of-self-2
invariant_of-self-2 c = cut_again (more_here c)

pub returns-clause-ok : goal.returns-clause-ok
returns-clause-ok c = cut_texts (more_here c) ∙ ap (λ z. z ++ c.args.text.now ∷ replicate (c.args.count - 1) []) c.self.view_is
