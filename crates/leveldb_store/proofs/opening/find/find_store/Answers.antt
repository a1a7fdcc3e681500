use Rattle.std.proofs.Common.{◌≡◌, ◌⊎◌, ◌∙◌, inl, inr, subst, sym, true, false}
use Rattle.std.specs.Prelude.{Any, Contains, codes}
use Rattle.std.proofs.lemmas.Result.{err_from_is_err_and, IfOk-from_err}
use Rattle.leveldb_env.specs.Env.{ListsChildren}
use Rattle.leveldb_base.specs.declared.types.FileType.TheVariants.{Current, Log, Table}
use Rattle.leveldb_store.specs.Openings.OpeningSteps.{HasTableOrLog}
use Rattle.leveldb_store.specs.declared.opening.listing.ListedFile.{ListedFile}
use Rattle.leveldb_store.proofs.Openings.ListingLemmas.{current_listed, entries_listed}
use Rattle.leveldb_store.proofs.Openings.OpeningFindLemmas.{is_found, lacks_current, made, must_not_be, no_current, not_made, refused, unlisted}
use Rattle.leveldb_store.proofs.ExitLemmas.{none_ok}
use Rattle.leveldb_store.proofs.opening.find.find_store.Goals as goal

pub returns-in_err-files-clause-finds : goal.returns-in_err-files-clause-finds
returns-in_err-files-clause-finds g c =
    let failed = err_from_is_err_and c.from_residual.result c.from_residual.ensures.1 in
    rw (failed.1, failed.2) (unlisted g.E.Env c.args.store.now (g.C.Cmp.name c.args.options.now.cmp) c.args.options.now.create_if_missing c.args.options.now.error_if_exists c.args.env.now c.list_files.new.env
    c.list_files.ensures.still c.list_files.ensures.locks _ c.in_err-files.ensures.cause)

pub returns-then-options-clause-finds : goal.returns-then-options-clause-finds
returns-then-options-clause-finds g c =
    let failed = err_from_is_err_and c.err.result c.err.ensures.code in
    let listed = c.in_ok-files.ensures.lists in
    let files = c.in_ok-files.files.items in
    let has : Contains listed.0 (codes "CURRENT") = (current_listed listed.0 files listed.2).0 (subst (Any (λ (file : ListedFile). file.kind ≡ Current)) c.as_slice.ensures.value (c.has_current.ensures.0 c.if-has_current.true)) in
    rw failed.1 (must_not_be g.E.Env c.args.store.now (g.C.Cmp.name c.args.options.now.cmp) c.args.options.now.create_if_missing c.args.options.now.error_if_exists c.args.env.now c.list_files.new.env
    c.list_files.ensures.still c.list_files.ensures.locks c.in_ok-files.ensures.cause.ok listed.0 listed.1 has c.if-options.true failed.0 failed.2)

pub returns-then-has_current-clause-finds : goal.returns-then-has_current-clause-finds
returns-then-has_current-clause-finds g c =
    let listed = c.in_ok-files.ensures.lists in
    let files = c.in_ok-files.files.items in
    let has : Contains listed.0 (codes "CURRENT") = (current_listed listed.0 files listed.2).0 (subst (Any (λ (file : ListedFile). file.kind ≡ Current)) c.as_slice.ensures.value (c.has_current.ensures.0 c.if-has_current.true)) in
    is_found g.E.Env c.args.store.now (g.C.Cmp.name c.args.options.now.cmp) c.args.options.now.create_if_missing c.args.options.now.error_if_exists c.args.env.now c.list_files.new.env
    c.list_files.ensures.still c.list_files.ensures.locks c.in_ok-files.ensures.cause.ok listed.0 listed.1 has _ c.if-options.false

pub returns-then-has_table_or_log-clause-finds : goal.returns-then-has_table_or_log-clause-finds
returns-then-has_table_or_log-clause-finds g c =
    let failed = err_from_is_err_and c.err-then-has_table_or_log.result c.err-then-has_table_or_log.ensures.code in
    let listed = c.in_ok-files.ensures.lists in
    let files = c.in_ok-files.files.items in
    let not : Contains listed.0 (codes "CURRENT") → ⊥ = λ has.
    let never : true ≡ false = sym (c.has_current.ensures.1 (subst (Any (λ (file : ListedFile). file.kind ≡ Current)) (sym c.as_slice.ensures.value) ((current_listed listed.0 files listed.2).1 has))) ∙ c.if-has_current.false in
    absurd (cc never) in
    let has : HasTableOrLog listed.0 = (entries_listed listed.0 files listed.2).0 (subst (Any (λ (file : ListedFile). (file.kind ≡ Table) ⊎ (file.kind ≡ Log))) c.as_slice-2.ensures.value (c.has_table_or_log.ensures.0 c.if-has_table_or_log.true)) in
    rw failed.1 (refused g.E.Env c.args.store.now (g.C.Cmp.name c.args.options.now.cmp) c.args.options.now.create_if_missing c.args.options.now.error_if_exists c.args.env.now c.list_files.new.env
    c.list_files.ensures.still c.list_files.ensures.locks c.in_ok-files.ensures.cause.ok failed.0 (inr (inr (failed.2, λ modelled. lacks_current c.args.store.now _ listed.0 (listed.1 modelled) not has))))

pub returns-then-not-options-clause-finds : goal.returns-then-not-options-clause-finds
returns-then-not-options-clause-finds g c =
    let failed = err_from_is_err_and c.err-then-not-options.result c.err-then-not-options.ensures.code in
    let listed = c.in_ok-files.ensures.lists in
    let files = c.in_ok-files.files.items in
    let not : Contains listed.0 (codes "CURRENT") → ⊥ = λ has.
    let never : true ≡ false = sym (c.has_current.ensures.1 (subst (Any (λ (file : ListedFile). file.kind ≡ Current)) (sym c.as_slice.ensures.value) ((current_listed listed.0 files listed.2).1 has))) ∙ c.if-has_current.false in
    absurd (cc never) in
    rw failed.1 (refused g.E.Env c.args.store.now (g.C.Cmp.name c.args.options.now.cmp) c.args.options.now.create_if_missing c.args.options.now.error_if_exists c.args.env.now c.list_files.new.env
    c.list_files.ensures.still c.list_files.ensures.locks c.in_ok-files.ensures.cause.ok failed.0 (inr (inl (inr (failed.2, c.if-not-options.true, λ modelled. no_current c.args.store.now _ listed.0 (listed.1 modelled) not)))))

pub returns-in_err-make_store-clause-finds : goal.returns-in_err-make_store-clause-finds
returns-in_err-make_store-clause-finds g c =
    let failed = err_from_is_err_and c.from_residual-in_err-make_store.result c.from_residual-in_err-make_store.ensures.1 in
    let listed = c.in_ok-files.ensures.lists in
    let files = c.in_ok-files.files.items in
    let not : Contains listed.0 (codes "CURRENT") → ⊥ = λ has.
    let never : true ≡ false = sym (c.has_current.ensures.1 (subst (Any (λ (file : ListedFile). file.kind ≡ Current)) (sym c.as_slice.ensures.value) ((current_listed listed.0 files listed.2).1 has))) ∙ c.if-has_current.false in
    absurd (cc never) in
    let none : HasTableOrLog listed.0 → ⊥ = λ has.
    let never : true ≡ false = sym (c.has_table_or_log.ensures.1 (subst (Any (λ (file : ListedFile). (file.kind ≡ Table) ⊎ (file.kind ≡ Log))) (sym c.as_slice-2.ensures.value) ((entries_listed listed.0 files listed.2).1 has))) ∙ c.if-has_table_or_log.false in
    absurd (cc never) in
    rw (failed.1, failed.2) (not_made g.E.Env c.args.store.now (g.C.Cmp.name c.args.options.now.cmp) c.args.options.now.create_if_missing c.args.options.now.error_if_exists c.args.env.now c.list_files.new.env
    c.list_files.ensures.still c.list_files.ensures.locks c.in_ok-files.ensures.cause.ok listed.0 listed.1 not (rw c.id.ensures at c.id.utf8) none c.if-not-options.false c.make_store.new.env _ c.in_err-make_store.ensures)

pub returns-clause-finds : goal.returns-clause-finds
returns-clause-finds g c =
    let listed = c.in_ok-files.ensures.lists in
    let files = c.in_ok-files.files.items in
    let not : Contains listed.0 (codes "CURRENT") → ⊥ = λ has.
    let never : true ≡ false = sym (c.has_current.ensures.1 (subst (Any (λ (file : ListedFile). file.kind ≡ Current)) (sym c.as_slice.ensures.value) ((current_listed listed.0 files listed.2).1 has))) ∙ c.if-has_current.false in
    absurd (cc never) in
    let none : HasTableOrLog listed.0 → ⊥ = λ has.
    let never : true ≡ false = sym (c.has_table_or_log.ensures.1 (subst (Any (λ (file : ListedFile). (file.kind ≡ Table) ⊎ (file.kind ≡ Log))) (sym c.as_slice-2.ensures.value) ((entries_listed listed.0 files listed.2).1 has))) ∙ c.if-has_table_or_log.false in
    absurd (cc never) in
    made g.E.Env c.args.store.now (g.C.Cmp.name c.args.options.now.cmp) c.args.options.now.create_if_missing c.args.options.now.error_if_exists c.args.env.now c.list_files.new.env
    c.list_files.ensures.still c.list_files.ensures.locks c.in_ok-files.ensures.cause.ok listed.0 listed.1 not (rw c.id.ensures at c.id.utf8) none c.if-not-options.false c.make_store.new.env _ c.in_ok-make_store.field-0 c.in_ok-make_store.ensures

pub returns-then-has_current-clause-listed : goal.returns-then-has_current-clause-listed
returns-then-has_current-clause-listed g c =
    let listed = c.in_ok-files.ensures.lists in
    let files = c.in_ok-files.files.items in
    (listed.0, (λ modelled. subst (λ at. ListsChildren at c.args.store.now listed.0) (sym ((c.list_files.ensures.still modelled).has)) (listed.1 modelled)), listed.2)

-- what is listed

pub returns-in_err-files-clause-listed : goal.returns-in_err-files-clause-listed
returns-in_err-files-clause-listed g c = IfOk-from_err c.from_residual.result _ c.from_residual.ensures.0

pub returns-then-options-clause-listed : goal.returns-then-options-clause-listed
returns-then-options-clause-listed g c = none_ok _ _ c.err.result c.err.ensures.code

pub returns-then-has_table_or_log-clause-listed : goal.returns-then-has_table_or_log-clause-listed
returns-then-has_table_or_log-clause-listed g c = none_ok _ _ c.err-then-has_table_or_log.result c.err-then-has_table_or_log.ensures.code

pub returns-then-not-options-clause-listed : goal.returns-then-not-options-clause-listed
returns-then-not-options-clause-listed g c = none_ok _ _ c.err-then-not-options.result c.err-then-not-options.ensures.code

pub returns-in_err-make_store-clause-listed : goal.returns-in_err-make_store-clause-listed
returns-in_err-make_store-clause-listed g c = IfOk-from_err c.from_residual-in_err-make_store.result _ c.from_residual-in_err-make_store.ensures.0
