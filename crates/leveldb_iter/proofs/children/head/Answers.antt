use Rattle.std.proofs.Common.{◌∙◌, ap, sym, refl, arith, length}
use Rattle.std.specs.Prelude.{option_and_then, slice_get}
use Rattle.std.proofs.lemmas.Option.{slice_get_past, slice_get_read}
use Rattle.leveldb_base.specs.Types.{pair_of}
use Rattle.leveldb_iter.proofs.children.head.Goals as goal

pub returns-in_err-get : goal.returns-in_err-get
returns-in_err-get g c =
    let past = slice_get_past c.args.children.now.items c.args.k (omega (arith, ap length c.deref.ensures.value, c.in_err-get.ensures.lookup.3)) in
    ap pair_of c.from_residual.ensures ∙ ap (option_and_then g.I.Walk.here) (sym past)

pub returns : goal.returns
returns g c =
    let there = c.in_ok-get.ensures.lookup in
    let got = slice_get_read c.deref.result.now (length c.deref.result.now) c.args.k c.in_ok-get.field-0.now refl there.3.0 there.1 in
    c.current.ensures ∙ ap (option_and_then g.I.Walk.here) (sym got ∙ ap (λ children. slice_get children c.args.k) c.deref.ensures.value)
