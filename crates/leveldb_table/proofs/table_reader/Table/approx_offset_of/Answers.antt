use Rattle.std.proofs.Common.{◌≡◌, Result, Ok, Err, sym, ◌∙◌, ap, subst, inr}
use Rattle.std.specs.Prelude.{IfErr, IsErrAnd}
use Rattle.leveldb_base.specs.BlockHandle.{Handle}
use Rattle.leveldb_base.specs.Types.{Pair, pair_of}
use Rattle.leveldb_base.specs.declared.error.Status.{Status}
use Rattle.leveldb_table.specs.TableReader.{IsOffsetBy}
use Rattle.leveldb_table.specs.TableBlock.{NamesNone}
use Rattle.leveldb_table.proofs.TableReaderLemmas.{offset_none, offset_some, names_none, names_some, whole_is, index_sought}
use Rattle.leveldb_table.proofs.table_reader.Table.approx_offset_of.Goals as goal

refused : {T : Type 0} (P : Status → Type 0) {status : Status} (result : Result T Status) → IsErrAnd result (λ other. other ≡ status) → P status → IfErr result P
refused P (Ok answer) same p = absurd same
refused P (Err status) same p = subst P (sym same) p

pub returns-in_default-clause-ok : goal.returns-in_default-clause-ok
returns-in_default-clause-ok g c = rw (← c.self.view_is) (λ parts lines fit.
    let cmp = g.C.Cmp.cmp c.self.inside.index.cmp in
    let found = sym (index_sought g.C.Cmp c.args.key.now c.iter-lines.ensures.block c.in_ok-seek.ensures.keeps.same_pairs c.in_ok-seek.ensures.ok) ∙ sym c.current.ensures ∙ ap pair_of c.in_default.is in
    c.offset.ensures ∙ offset_none cmp c.args.key.now parts c.self.inside.footer.meta_index (names_none cmp c.args.key.now _ parts lines found))

pub returns-in_default-clause-line : goal.returns-in_default-clause-line
returns-in_default-clause-line g c =
    let found = sym (index_sought g.C.Cmp c.args.key.now c.iter-lines.ensures.block c.in_ok-seek.ensures.keeps.same_pairs c.in_ok-seek.ensures.ok) ∙ sym c.current.ensures ∙ ap pair_of c.in_default.is in
    rw (← c.self.view_is) (subst (λ line. IsOffsetBy line c.self.inside.footer.meta_index.offset c.offset.result) (sym found) c.offset.ensures)

pub returns-in_err-line_handle-clause-cause : goal.returns-in_err-line_handle-clause-cause
returns-in_err-line_handle-clause-cause g c =
    let found = sym (index_sought g.C.Cmp c.args.key.now c.iter-lines.ensures.block c.in_ok-seek.ensures.keeps.same_pairs c.in_ok-seek.ensures.ok) ∙ sym c.current.ensures ∙ ap pair_of c.in-Some.is in
    rw (← c.self.view_is) (refused _ c.from_residual-in_err-line_handle.result c.from_residual-in_err-line_handle.ensures.1
    (inr (c.in_err-line_handle.ensures.err.0, subst NamesNone (sym found) c.in_err-line_handle.ensures.err.1)))

pub returns-clause-line : goal.returns-clause-line
returns-clause-line g c =
    let found = sym (index_sought g.C.Cmp c.args.key.now c.iter-lines.ensures.block c.in_ok-seek.ensures.keeps.same_pairs c.in_ok-seek.ensures.ok) ∙ sym c.current.ensures ∙ ap pair_of c.in-Some.is in
    rw (← c.self.view_is) (subst (λ line. IsOffsetBy line c.self.inside.footer.meta_index.offset c.offset-2.result) (sym found) (c.in_ok-line_handle.field-0, c.in_ok-line_handle.ensures.ok.0, c.in_ok-line_handle.ensures.ok.1, c.offset-2.ensures))

pub returns-clause-ok : goal.returns-clause-ok
returns-clause-ok g c = rw (← c.self.view_is) (λ parts lines fit.
    let cmp = g.C.Cmp.cmp c.self.inside.index.cmp in
    let found = sym (index_sought g.C.Cmp c.args.key.now c.iter-lines.ensures.block c.in_ok-seek.ensures.keeps.same_pairs c.in_ok-seek.ensures.ok) ∙ sym c.current.ensures ∙ ap pair_of c.in-Some.is in
    let there = names_some cmp c.args.key.now _ parts _ lines found in
    let same = whole_is c.in_ok-line_handle.field-0 there.part.handle (sym c.in_ok-line_handle.ensures.ok.1 ∙ sym (ap (λ (line : Pair). line.1) there.encoded)) in
    c.offset-2.ensures ∙ ap (λ (handle : Handle). handle.offset) same ∙ offset_some cmp c.args.key.now parts c.self.inside.footer.meta_index there.named)
