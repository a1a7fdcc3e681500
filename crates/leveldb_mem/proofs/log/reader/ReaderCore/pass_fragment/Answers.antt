use Rattle.std.proofs.Common.{◌≡◌, inl, inr, true, false, ◌+◌, ◌++◌, take, sym, ap, ◌∙◌, refl}
use Rattle.std.proofs.lemmas.List.{take_rest}
use Rattle.leveldb_mem.proofs.TakingLemmas.{passes_part, passes_damaged}
use Rattle.leveldb_mem.proofs.log.reader.ReaderCore.pass_fragment.Goals as goal
use Rattle.leveldb_mem.proofs.log.reader.ReaderCore.pass_fragment.Goals.{else-self-via-then-self+else-not-has_right_checksum, else-self-via-else-self}

pub returns-then-not-has_right_checksum-clause-ok : goal.returns-then-not-has_right_checksum-clause-ok
returns-then-not-has_right_checksum-clause-ok c =
    let asked = ap (λ r. r.checked) c.self.view_is in
    passes_damaged c.args.self.now c.args.count c.requires.header c.requires.stated c.requires.bytes c.requires.within c.requires.there c.advance.new.self c.advance.ensures
    c.split_at.result.0.now (c.split_at.ensures.front ∙ ap (take (7 + c.args.count)) c.unread.ensures.value) (sym asked ∙ c.if-self.true)
    (λ right. (let wrong : false ≡ true = c.if-not-has_right_checksum.ensures.1 right in cc))

pub returns-clause-ok : goal.returns-clause-ok
returns-clause-ok c =
    let asked = ap (λ r. r.checked) c.self.view_is in
    passes_part c.args.self.now c.args.count c.requires.header c.requires.stated c.requires.bytes c.requires.within c.requires.there c.advance-2.new.self c.advance-2.ensures
    c.split_at.result.0.now (c.split_at.ensures.front ∙ ap (take (7 + c.args.count)) c.unread.ensures.value) c.args.target.now.items c.extend_from_slice.new.self.items
    (elim c.else-self.branch [ else-self-via-then-self+else-not-has_right_checksum w ↦ inr (w.if-not-has_right_checksum.ensures.0 refl) | else-self-via-else-self w ↦ inl (sym asked ∙ w.if-self.false) ])
    (c.in_ok-extend_from_slice.ensures.items ∙ ap (λ z. c.args.target.now.items ++ z) (take_rest c.split_at.result.0.now 7))
