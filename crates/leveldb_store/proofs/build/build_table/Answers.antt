use Rattle.std.proofs.Common.{◌≡◌, ◌∙◌, ⊎_elim, ap, inl, inr, subst, sym, refl, None, Some}
use Rattle.std.proofs.lemmas.Result.{err_from_is_err_and}
use Rattle.leveldb_base.specs.Types.{pair_at, position_within}
use Rattle.leveldb_base.specs.contracts.cmp.internal.InternalKeyCmpCmp.TheImpl.{ghosts as key_cmp}
use Rattle.leveldb_env.specs.Env.{AreBytes}
use Rattle.leveldb_env.specs.contracts.compressor.CompressorListCompressors.TheImpl.{ghosts as compressors}
use Rattle.leveldb_env.specs.contracts.filter.internal.InternalFilterPolicyFilterPolicy.TheImpl.{ghosts as key_policy}
use Rattle.leveldb_iter.specs.Walk.{key_order}
use Rattle.leveldb_table.specs.TableBuilder.{IsNewBuilder, order_of}
use Rattle.leveldb_version_set.proofs.Sets.RecoverLemmas.{cause_of_error}
use Rattle.leveldb_files.specs.Stores.Store.{IsFirstKey}
use Rattle.leveldb_store.specs.Tables.BuildTable.{choices_of}
use Rattle.leveldb_store.proofs.Tables.BuildTableLemmas.{MakesTable-before, MakesTable-failed, MakesTable-none, MakesTable-written, built_of_store, first_key_is, first_some, none_first, stays_beside, stays_over-none, stays_over-trans, written_why}
use Rattle.leveldb_store.proofs.Tables.TableFileLemmas.{opening_changes}
use Rattle.leveldb_store.proofs.Tables.WriteTableLemmas.{failed_adding, table_ended, table_made}
use Rattle.leveldb_store.proofs.build.build_table.Goals as goal

-- there is no path
pub returns-in_err-path-clause-makes : goal.returns-in_err-path-clause-makes
returns-in_err-path-clause-makes g c = λ pairs over.
    let failed = err_from_is_err_and c.from_residual.result c.from_residual.ensures.1 in
    rw failed.1 (rw failed.2 (MakesTable-before _ pairs g.E.Env _ c.args.store.now c.args.number refl (inl c.in_err-path.ensures.cause)))

pub returns-in_err-path-clause-walk : goal.returns-in_err-path-clause-walk
returns-in_err-path-clause-walk g c = stays_over-none g.W.Walk (c.args.env.now, c.args.tables.now) c.args.from.now

-- the walk isn't at its first pair, or has none
pub returns-in_err-seek_to_first-clause-makes : goal.returns-in_err-seek_to_first-clause-makes
returns-in_err-seek_to_first-clause-makes g c = λ pairs over.
    let moves = c.seek_to_first.ensures.moves in
    let failed = err_from_is_err_and c.from_residual-in_err-seek_to_first.result c.from_residual-in_err-seek_to_first.ensures.1 in
    rw failed.1 (rw failed.2 (MakesTable-before _ pairs g.E.Env _ c.args.store.now c.args.number (c.requires.reads.still _ _ moves.kept) (inr (_, c.in_err-seek_to_first.ensures.moves.cause))))

pub returns-in_err-seek_to_first-clause-walk : goal.returns-in_err-seek_to_first-clause-walk
returns-in_err-seek_to_first-clause-walk g c = let moves = c.seek_to_first.ensures.moves in record { same = moves.same; excuses = moves.excuses }

pub returns-in_default-clause-makes : goal.returns-in_default-clause-makes
returns-in_default-clause-makes g c = λ pairs over.
    let moves = c.seek_to_first.ensures.moves in
    let keys = key_order (key_cmp g.row.C g.C.UserCmp g.C.UserCmp-dict g.C.Cmp g.C.Cmp-dict) (record { 0 = c.args.options.now.cmp }) in
    let at = c.in_ok-seek_to_first.ensures.moves.ok keys pairs None over in
    let none = none_first pairs (c.in_default.ensures ∙ g.met.W.Walk.laws.at_position (c.seek_to_first.new.env, c.seek_to_first.new.tables) c.seek_to_first.new.self keys pairs (position_within pairs 0) at) in
    MakesTable-none _ pairs g.E.Env _ c.args.store.now c.args.number _ (c.requires.reads.still _ _ moves.kept) none c.ranges.number.fits refl c.default.ensures.0 c.default.ensures.2 c.default.ensures.3 c.default.ensures.4

pub returns-in_default-clause-walk : goal.returns-in_default-clause-walk
returns-in_default-clause-walk g c = let moves = c.seek_to_first.ensures.moves in record { same = moves.same; excuses = moves.excuses }

pub returns-in_err-smallest-clause-makes : goal.returns-in_err-smallest-clause-makes
returns-in_err-smallest-clause-makes g c = λ pairs over.
    let moves = c.seek_to_first.ensures.moves in
    let failed = err_from_is_err_and c.from_residual-in_err-smallest.result c.from_residual-in_err-smallest.ensures.1 in
    rw failed.1 (rw failed.2 (MakesTable-before _ pairs g.E.Env _ c.args.store.now c.args.number (c.requires.reads.still _ _ moves.kept) (inl c.in_err-smallest.ensures.memory)))

pub returns-in_err-smallest-clause-walk : goal.returns-in_err-smallest-clause-walk
returns-in_err-smallest-clause-walk g c = let moves = c.seek_to_first.ensures.moves in record { same = moves.same; excuses = moves.excuses }

-- the builder is new, and the walk is where it was, at its first pair
pub add_pairs-requires-clause-unused : goal.add_pairs-requires-clause-unused
add_pairs-requires-clause-unused g c =
    let keys = key_cmp g.row.C g.C.UserCmp g.C.UserCmp-dict g.C.Cmp g.C.Cmp-dict in
    let key_filters = key_policy g.row.FP g.FP.FilterPolicy g.FP.FilterPolicy-dict in
    let options = c.args.options.now in
    let new = subst (λ core. IsNewBuilder keys key_filters (record { 0 = options.cmp }) options.filter_policy options.compressor options.block_size options.block_restart_interval core)
    (sym c.in_ok-table.ensures.is.1) c.new_builder-core.ensures in
    record { begun = new.begun ((compressors g.dyn-2).codings options.compressor_list); unbroken = new.unbroken; none = new.none }

pub add_pairs-requires-clause-first : goal.add_pairs-requires-clause-first
add_pairs-requires-clause-first g c =
    let keys = key_cmp g.row.C g.C.UserCmp g.C.UserCmp-dict g.C.Cmp g.C.Cmp-dict in
    let over = c.requires.over in
    let mid = c.seek_to_first.new.env in
    let tables = c.seek_to_first.new.tables in
    let walk = c.seek_to_first.new.self in
    let ordered = ap order_of c.in_ok-table.ensures.is.1 ∙ c.new_builder-core.ensures.order in
    let here = c.in_ok-seek_to_first.ensures.moves.ok (key_order keys (record { 0 = c.args.options.now.cmp })) over.0 None over.1 in (
      over.0,
      c.requires.reads.stays mid c.create.new.env tables walk _ over.0 _
          (subst (λ k. g.W.Walk.is_at (mid, tables) walk (key_order keys k) over.0 (position_within over.0 0)) (sym ordered) here),
    )

-- the file isn't created
pub returns-in_err-table-clause-makes : goal.returns-in_err-table-clause-makes
returns-in_err-table-clause-makes g c = λ pairs over.
    let cmp = c.args.options.now.cmp in
    let keys = key_cmp g.row.C g.C.UserCmp g.C.UserCmp-dict g.C.Cmp g.C.Cmp-dict in
    let key_filters = key_policy g.row.FP g.FP.FilterPolicy g.FP.FilterPolicy-dict in
    let choices = choices_of g.C.Cmp g.FP.FilterPolicy keys key_filters (compressors g.dyn-2).codings c.args.options.now in
    let moves = c.seek_to_first.ensures.moves in
    let here = c.in_ok-seek_to_first.ensures.moves.ok (key_order keys (record { 0 = cmp })) pairs None over in
    let first : Some (c.in-Some.first.now, c.in-Some.field-0-1.now) ≡ pair_at pairs (position_within pairs 0) = c.in-Some.ensures ∙ g.met.W.Walk.laws.at_position (c.seek_to_first.new.env, c.seek_to_first.new.tables) c.seek_to_first.new.self (key_order keys (record { 0 = cmp })) pairs (position_within pairs 0) here in
    let o = c.in_err-table.ensures in
    let failed = err_from_is_err_and c.from_residual-in_err-table.result c.from_residual-in_err-table.ensures.1 in
    let named = c.deref.ensures ∙ c.in_ok-path.ensures.ok in
    rw (failed.1, failed.2) (MakesTable-failed choices pairs g.E.Env _ c.args.store.now c.args.number (first_some (first_key_is pairs _ first)) _ named (c.requires.reads.still _ _ moves.kept)
    (opening_changes g.E.Env o.does o.locks o.cause.later) _
    (cause_of_error _ (λ memory. inl memory) (λ why. ⊎_elim (λ memory. inl memory) (λ own. inr own.1) why) o.cause))

pub returns-in_err-table-clause-walk : goal.returns-in_err-table-clause-walk
returns-in_err-table-clause-walk g c =
    let moves = c.seek_to_first.ensures.moves in
    stays_over-trans g.W.Walk (record { same = moves.same; excuses = moves.excuses })
    (stays_beside g.W.Walk c.requires.reads c.seek_to_first.new.env c.create.new.env c.seek_to_first.new.tables c.seek_to_first.new.self)

-- not all pairs are added
pub returns-in_err-add_pairs-clause-makes : goal.returns-in_err-add_pairs-clause-makes
returns-in_err-add_pairs-clause-makes g c = λ pairs over.
    let cmp = c.args.options.now.cmp in
    let options = c.args.options.now in
    let keys = key_cmp g.row.C g.C.UserCmp g.C.UserCmp-dict g.C.Cmp g.C.Cmp-dict in
    let key_filters = key_policy g.row.FP g.FP.FilterPolicy g.FP.FilterPolicy-dict in
    let choices = choices_of g.C.Cmp g.FP.FilterPolicy keys key_filters (compressors g.dyn-2).codings options in
    let mid = c.seek_to_first.new.env in
    let tables = c.seek_to_first.new.tables in
    let walk = c.seek_to_first.new.self in
    let moves = c.seek_to_first.ensures.moves in
    let here = c.in_ok-seek_to_first.ensures.moves.ok (key_order keys (record { 0 = cmp })) pairs None over in
    let first : Some (c.in-Some.first.now, c.in-Some.field-0-1.now) ≡ pair_at pairs (position_within pairs 0) = c.in-Some.ensures ∙ g.met.W.Walk.laws.at_position (mid, tables) walk (key_order keys (record { 0 = cmp })) pairs (position_within pairs 0) here in
    let o = c.in_ok-table.ensures in
    let new = subst (λ core. IsNewBuilder keys key_filters (record { 0 = cmp }) options.filter_policy options.compressor options.block_size options.block_restart_interval core) (sym o.is.1) c.new_builder-core.ensures in
    let at = c.requires.reads.stays mid c.create.new.env tables walk _ pairs _ (subst (λ k. g.W.Walk.is_at (mid, tables) walk (key_order keys k) pairs (position_within pairs 0)) (sym new.order) here) in
    let ended = failed_adding g.W.Walk c.requires.reads keys key_filters choices.format.codings g.E.Env tables walk c.in_ok-table.table.core o.does o.locks o.cause o.file pairs _ (c.in_err-add_pairs.ensures.err pairs at) in
    let failed = err_from_is_err_and c.from_residual-in_err-add_pairs.result c.from_residual-in_err-add_pairs.ensures.1 in
    let named = c.deref.ensures ∙ c.in_ok-path.ensures.ok in
    rw (failed.1, failed.2) (MakesTable-failed choices pairs g.E.Env _ c.args.store.now c.args.number (first_some (first_key_is pairs _ first)) _ named (c.requires.reads.still _ _ moves.kept) ended.0 _
    (written_why choices pairs _ new (λ status fails. (fails.0, moves.excuses fails.0 status fails.1)) ended.1))

pub returns-in_err-add_pairs-clause-walk : goal.returns-in_err-add_pairs-clause-walk
returns-in_err-add_pairs-clause-walk g c =
    let moves = c.seek_to_first.ensures.moves in
    stays_over-trans g.W.Walk (stays_over-trans g.W.Walk (record { same = moves.same; excuses = moves.excuses })
    (stays_beside g.W.Walk c.requires.reads c.seek_to_first.new.env c.create.new.env c.seek_to_first.new.tables c.seek_to_first.new.self)) c.add_pairs.ensures.walk

-- the table is there, or isn't finished
pub returns-clause-makes : goal.returns-clause-makes
returns-clause-makes g c = λ pairs over.
    let cmp = c.args.options.now.cmp in
    let options = c.args.options.now in
    let keys = key_cmp g.row.C g.C.UserCmp g.C.UserCmp-dict g.C.Cmp g.C.Cmp-dict in
    let key_filters = key_policy g.row.FP g.FP.FilterPolicy g.FP.FilterPolicy-dict in
    let choices = choices_of g.C.Cmp g.FP.FilterPolicy keys key_filters (compressors g.dyn-2).codings options in
    let mid = c.seek_to_first.new.env in
    let tables = c.seek_to_first.new.tables in
    let walk = c.seek_to_first.new.self in
    let moves = c.seek_to_first.ensures.moves in
    let here = c.in_ok-seek_to_first.ensures.moves.ok (key_order keys (record { 0 = cmp })) pairs None over in
    let first : Some (c.in-Some.first.now, c.in-Some.field-0-1.now) ≡ pair_at pairs (position_within pairs 0) = c.in-Some.ensures ∙ g.met.W.Walk.laws.at_position (mid, tables) walk (key_order keys (record { 0 = cmp })) pairs (position_within pairs 0) here in
    let smallest = subst (λ k. IsFirstKey k pairs) (sym c.in_ok-smallest.ensures.ok) (first_key_is pairs _ first) in
    let o = c.in_ok-table.ensures in
    let new = subst (λ core. IsNewBuilder keys key_filters (record { 0 = cmp }) options.filter_policy options.compressor options.block_size options.block_restart_interval core) (sym o.is.1) c.new_builder-core.ensures in
    let at = c.requires.reads.stays mid c.create.new.env tables walk _ pairs _ (subst (λ k. g.W.Walk.is_at (mid, tables) walk (key_order keys k) pairs (position_within pairs 0)) (sym new.order) here) in
    let adds = c.in_ok-add_pairs.ensures.ok pairs at in
    let same = c.add_pairs.ensures.same in
    let ended = table_ended g.W.Walk c.requires.reads keys key_filters choices.format.codings g.E.Env tables walk c.in_ok-table.table.core o.does o.locks o.cause o.file adds c.finish.result c.finish.ensures.ok c.finish.ensures.err in
    let writes = table_made g.W.Walk c.requires.reads keys key_filters choices.format.codings g.E.Env tables walk c.in_ok-table.table.core o.does o.locks o.cause o.file adds
    c.args.number c.in_ok-smallest.smallest _ _ (same.0 ∙ o.is.0) (same.1 ∙ o.is.2) c.finish.result c.finish.new.env (new.begun choices.format.codings) c.finish.ensures.ok c.finish.ensures.made in
    let named = c.deref.ensures ∙ c.in_ok-path.ensures.ok in
    MakesTable-written choices pairs g.E.Env _ c.args.store.now c.args.number (first_some smallest) _ named (c.requires.reads.still _ _ moves.kept) ended.0
    c.finish.result c.ranges.number.fits (subst AreBytes (sym c.in_ok-smallest.ensures.ok) c.in_ok-smallest.ensures.bytes) new writes
    (written_why choices pairs c.finish.result new (λ status fails. (fails.0, moves.excuses fails.0 status fails.1)) ended.1) smallest
    (λ read is_built meaning known. built_of_store _ (g.met.C.Cmp.preorder cmp) (g.met.C.UserCmp.accepts_all cmp) (g.met.C.UserCmp.exact cmp) (g.C.Cmp.shortest_sep cmp) (g.met.C.Cmp.separates cmp)
    (g.FP.FilterPolicy.matches options.filter_policy) is_built meaning known)

pub returns-clause-walk : goal.returns-clause-walk
returns-clause-walk g c =
    let moves = c.seek_to_first.ensures.moves in
    stays_over-trans g.W.Walk (stays_over-trans g.W.Walk (stays_over-trans g.W.Walk (record { same = moves.same; excuses = moves.excuses })
    (stays_beside g.W.Walk c.requires.reads c.seek_to_first.new.env c.create.new.env c.seek_to_first.new.tables c.seek_to_first.new.self)) c.add_pairs.ensures.walk)
    (stays_beside g.W.Walk c.requires.reads c.add_pairs.new.env c.finish.new.env c.add_pairs.new.tables c.add_pairs.new.from)
