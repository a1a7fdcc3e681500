use Rattle.std.proofs.Common.{◌≡◌, ◌∙◌, ap, false, refl, sym, true}
use Rattle.leveldb_env.specs.Env.{in_folder}
use Rattle.leveldb_repair.proofs.FindTableLemmas.{FindsTable-left_out, FindsTable-opened, FindsTable-other, FindsTable-out_of_memory, FindsTable-unjudged, FindsTable-unopened, FindsTable-unsized}
use Rattle.leveldb_repair.proofs.found_tables.find_table.Goals as goal

pub returns-then-not-is_table : goal.returns-then-not-is_table
returns-then-not-is_table g c =
    FindsTable-other _ g.E.Env g.C.Cmp _ c.args.cmp c.args.store.now c.args.file.now c.args.env.now (λ it. let never : true ≡ false = sym (c.is_table.ensures.1 it) ∙ c.if-not-is_table.true in cc)

pub returns-in_err-path : goal.returns-in_err-path
returns-in_err-path g c =
    FindsTable-out_of_memory _ g.E.Env g.C.Cmp _ c.args.cmp c.args.store.now c.args.file.now c.args.env.now c.from_residual.result c.from_residual.ensures.1 c.in_err-path.ensures.memory

pub returns-in_err-size : goal.returns-in_err-size
returns-in_err-size g c =
    FindsTable-unsized _ g.E.Env g.C.Cmp _ c.args.cmp c.args.store.now c.args.file.now c.args.env.now (c.is_table.ensures.0 c.if-not-is_table.false) _ (c.deref-2.ensures ∙ c.in_ok-path.ensures.ok ∙ ap (λ name. in_folder c.args.store.now name) c.deref.ensures) c.from_residual-in_err-size.result _ c.from_residual-in_err-size.ensures.1 c.in_err-size.ensures

pub returns-in_err-is_readable_table : goal.returns-in_err-is_readable_table
returns-in_err-is_readable_table g c =
    FindsTable-unjudged _ g.E.Env g.C.Cmp _ c.args.cmp c.args.store.now c.args.file.now c.args.env.now (c.is_table.ensures.0 c.if-not-is_table.false) _ (c.deref-2.ensures ∙ c.in_ok-path.ensures.ok ∙ ap (λ name. in_folder c.args.store.now name) c.deref.ensures) c.in_ok-size.ensures c.from_residual-in_err-is_readable_table.result _ _ (c.deref-3.ensures ∙ sym c.deref-2.ensures) c.from_residual-in_err-is_readable_table.ensures.1 c.in_err-is_readable_table.ensures

pub returns-then-not-branch : goal.returns-then-not-branch
returns-then-not-branch g c =
    FindsTable-left_out _ g.E.Env g.C.Cmp _ c.args.cmp c.args.store.now c.args.file.now c.args.env.now (c.is_table.ensures.0 c.if-not-is_table.false) _ (c.deref-2.ensures ∙ c.in_ok-path.ensures.ok ∙ ap (λ name. in_folder c.args.store.now name) c.deref.ensures) c.in_ok-size.ensures _ (c.deref-3.ensures ∙ sym c.deref-2.ensures) c.in_ok-is_readable_table.ensures c.if-not-branch.true

pub returns-in_err-table : goal.returns-in_err-table
returns-in_err-table g c =
    FindsTable-unopened _ g.E.Env g.C.Cmp _ c.args.cmp c.args.store.now c.args.file.now c.args.env.now (c.is_table.ensures.0 c.if-not-is_table.false) _ (c.deref-2.ensures ∙ c.in_ok-path.ensures.ok ∙ ap (λ name. in_folder c.args.store.now name) c.deref.ensures) c.in_ok-size.ensures _ (c.deref-3.ensures ∙ sym c.deref-2.ensures) c.in_ok-is_readable_table.ensures c.if-not-branch.false refl c.from_residual-in_err-table.result _ _ (c.deref-4.ensures ∙ sym c.deref-2.ensures) c.from_residual-in_err-table.ensures.1 c.in_err-table.ensures

pub returns : goal.returns
returns g c =
    FindsTable-opened _ g.E.Env g.C.Cmp _ c.args.cmp c.args.store.now c.args.file.now c.args.env.now (c.is_table.ensures.0 c.if-not-is_table.false) _ (c.deref-2.ensures ∙ c.in_ok-path.ensures.ok ∙ ap (λ name. in_folder c.args.store.now name) c.deref.ensures) c.in_ok-size.ensures _ (c.deref-3.ensures ∙ sym c.deref-2.ensures) c.in_ok-is_readable_table.ensures c.if-not-branch.false _ _ (c.deref-4.ensures ∙ sym c.deref-2.ensures) c.in_ok-table.ensures
