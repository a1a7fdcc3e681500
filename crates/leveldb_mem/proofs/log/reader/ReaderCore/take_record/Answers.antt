use Rattle.std.proofs.Common.{◌≢◌, true, [], length, vec_len, inl, inr, ap, sym, subst, ◌∙◌, arith}
use Rattle.std.proofs.lemmas.List.{nil_from_length}
use Rattle.std.proofs.lemmas.Bool.{eqb-true, eqb-false}
use Rattle.std.proofs.lemmas.Result.{err_from_is_err_and}
use Rattle.leveldb_mem.proofs.ReaderLemmas.{GivesUp-after}
use Rattle.leveldb_mem.proofs.JoiningLemmas.{Joins, joins_none, joins_more, ends_clean, ends_torn, damage_torn, breaks_off, record_ends, record_empty, part_torn, stops_long}
use Rattle.leveldb_mem.proofs.log.reader.ReaderCore.take_record.Goals as goal

pub loop-taken-init : goal.loop-taken-init
loop-taken-init g c =
    let old = c.args.self.now in
    let source = c.args.source.now in
    (subst (λ text. Joins g.S.Source.gives old source true old source text) (sym c.requires.empty) (joins_none g.S.Source.gives old source c.requires.inside), omega arith)

pub returns-in_err-kind-clause-err : goal.returns-in_err-kind-clause-err
returns-in_err-kind-clause-err g c =
    let p = err_from_is_err_and c.from_residual.result c.from_residual.ensures.1 in
    rw (p.1, p.2) (inl (GivesUp-after g.S.Source.gives c.loop-taken.invariant.0.come.reads c.in_err-kind.ensures.err))

pub returns-in-End-clause-ok : goal.returns-in-End-clause-ok
returns-in-End-clause-ok g c =
    let takes = rw c.in-End.is at c.in_ok-kind.ensures.ok in
    let ends = ends_clean g.S.Source.gives c.args.self.now c.args.source.now c.requires.inside c.requires.block c.loop-taken.first c.loop-taken.self c.loop-taken.source c.loop-taken.target.items c.loop-taken.invariant.0 c.take_fragment.new.self c.take_fragment.new.source c.if-first.true takes.0 in
    (ends.0, takes.1 ∙ ends.1)

pub returns-in-End-2-clause-ok : goal.returns-in-End-2-clause-ok
returns-in-End-2-clause-ok g c =
    let takes = rw c.in-End-2.is at c.in_ok-kind.ensures.ok in
    ends_torn g.S.Source.gives c.args.self.now c.args.source.now c.requires.inside c.requires.block c.loop-taken.first c.loop-taken.self c.loop-taken.source c.loop-taken.target.items c.loop-taken.invariant.0 c.take_fragment.new.self c.take_fragment.new.source c.if-first.false takes.0

pub returns-in-WrongChecksum-clause-ok : goal.returns-in-WrongChecksum-clause-ok
returns-in-WrongChecksum-clause-ok g c =
    let takes = rw c.in-WrongChecksum.is at c.in_ok-kind.ensures.ok in
    breaks_off g.S.Source.gives c.args.self.now c.args.source.now c.requires.inside c.requires.block c.loop-taken.first c.loop-taken.self c.loop-taken.source c.loop-taken.target.items c.loop-taken.invariant.0 c.take_fragment.new.self c.take_fragment.new.source takes

pub returns-in-Damage-clause-ok : goal.returns-in-Damage-clause-ok
returns-in-Damage-clause-ok g c =
    let takes = rw c.in-Damage.is at c.in_ok-kind.ensures.ok in
    damage_torn g.S.Source.gives c.args.self.now c.args.source.now c.requires.inside c.requires.block c.loop-taken.first c.loop-taken.self c.loop-taken.source c.loop-taken.target.items c.loop-taken.invariant.0 c.take_fragment.new.self c.take_fragment.new.source takes

pub returns-then-is_empty-clause-ok : goal.returns-then-is_empty-clause-ok
returns-then-is_empty-clause-ok g c =
    let takes = rw c.in-Part.is at c.in_ok-kind.ensures.ok in
    let text = c.take_fragment.new.target in
    let none = nil_from_length text.items (sym text.ok.0 ∙ eqb-true (vec_len text) 0 (sym c.if-is_empty.ensures)) in
    record_empty g.S.Source.gives c.args.self.now c.args.source.now c.requires.inside c.requires.block c.loop-taken.first c.loop-taken.self c.loop-taken.source c.loop-taken.target.items c.loop-taken.invariant.0 c.take_fragment.new.self c.take_fragment.new.source c.in-Part.kind c.take_fragment.new.target.items takes (c.if-kind-type_of.true ∙ c.type_of.ensures) none

pub returns-then-kind-type_of-clause-ok : goal.returns-then-kind-type_of-clause-ok
returns-then-kind-type_of-clause-ok g c =
    let takes = rw c.in-Part.is at c.in_ok-kind.ensures.ok in
    let text = c.take_fragment.new.target in
    let some : text.items ≢ [] = λ none. eqb-false (vec_len text) 0 (sym c.if-is_empty.ensures) (text.ok.0 ∙ ap length none) in
    record_ends g.S.Source.gives c.args.self.now c.args.source.now c.requires.inside c.requires.block c.loop-taken.first c.loop-taken.self c.loop-taken.source c.loop-taken.target.items c.loop-taken.invariant.0 c.take_fragment.new.self c.take_fragment.new.source c.in-Part.kind c.take_fragment.new.target.items takes (c.if-kind-type_of.true ∙ c.type_of.ensures) some

pub returns-then-kind-type_of-2-clause-ok : goal.returns-then-kind-type_of-2-clause-ok
returns-then-kind-type_of-2-clause-ok g c =
    let takes = rw c.in-Part.is at c.in_ok-kind.ensures.ok in
    part_torn g.S.Source.gives c.args.self.now c.args.source.now c.requires.inside c.requires.block c.loop-taken.first c.loop-taken.self c.loop-taken.source c.loop-taken.target.items c.loop-taken.invariant.0 c.take_fragment.new.self c.take_fragment.new.source c.in-Part.kind c.take_fragment.new.target.items takes
    (λ last. c.if-kind-type_of.false (last ∙ sym c.type_of.ensures)) (λ more. c.if-kind-type_of-2.true (more ∙ sym c.type_of-in-loop-taken.ensures))

pub loop-taken-preserved : goal.loop-taken-preserved
loop-taken-preserved g c =
    let takes = rw c.in-Part.is at c.in_ok-kind.ensures.ok in
    let more = joins_more g.S.Source.gives c.args.self.now c.args.source.now c.requires.inside c.requires.block c.loop-taken.first c.loop-taken.self c.loop-taken.source c.loop-taken.target.items c.loop-taken.invariant.0 c.take_fragment.new.self c.take_fragment.new.source c.in-Part.kind c.take_fragment.new.target.items takes (c.if-kind-type_of-2.false ∙ c.type_of-in-loop-taken.ensures) in
    (more.0, omega (arith, more.1, c.loop-taken.invariant.1))

pub returns-clause-err : goal.returns-clause-err
returns-clause-err g c =
    let p = err_from_is_err_and c.too_long.result c.too_long.ensures in
    rw p.1 (inr (stops_long g.S.Source.gives c.args.self.now c.args.source.now c.requires.inside c.requires.block c.loop-taken.first c.loop-taken.self c.loop-taken.source c.loop-taken.target.items c.loop-taken.invariant.0 c.loop-taken.self c.loop-taken.source
    (omega (arith, c.loop-taken.invariant.1)) c.requires.unread p.0 p.2))
