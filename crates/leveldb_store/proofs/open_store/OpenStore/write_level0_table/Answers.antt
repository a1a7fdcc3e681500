use Rattle.std.proofs.Common.{◌≡◌, ◌≢◌, ◌∙◌, Bool, true, false, None, ap, map, arith, subst, sym}
use Rattle.std.specs.Cmp.{IsTotalOrder}
use Rattle.std.specs.Option.{option_map}
use Rattle.leveldb_base.specs.Entries.{internal_pair}
use Rattle.leveldb_version.specs.Edits.VersionEdit.{new_file_of}
use Rattle.leveldb_version.specs.Tables.TableCache.{files_at}
use Rattle.leveldb_store.specs.Keeping.Written.{imm_entries}
use Rattle.leveldb_store.specs.Keeping.WrittenFrom.{AddsNoEntry}
use Rattle.std.proofs.lemmas.Result.{err_from_is_err_and, IfOk-from_err}
use Rattle.leveldb_base.specs.CmpLaws.{total_order}
use Rattle.leveldb_version_set.specs.Sets.CurrentVersion.{VersionsValue}
use Rattle.leveldb_files.specs.Edits.Edit.{Edit}
use Rattle.leveldb_version_set.specs.Sets.VersionSetValue.{VersionSetValue, broken}
use Rattle.leveldb_base.specs.History.{AreUpTo}
use Rattle.leveldb_store.proofs.Keeping.GivenNumbersLemmas.{live_given}
use Rattle.leveldb_store.specs.Keeping.OpenStore.{AreInLevels, HasOwnManifest, OpenStoreValue}
use Rattle.leveldb_store.proofs.Keeping.LevelsApartLemmas.{levels_with_picked, range_in_order}
use Rattle.leveldb_store.proofs.Writing.AddedTableLemmas.{imm_added}
use Rattle.leveldb_store.proofs.Writing.TableEntriesLemmas.{table_adds_none}
use Rattle.leveldb_store.proofs.Writing.Level0TableLemmas.{in_use_of, keeps_done, keeps_failed, keeps_unmade, keeps_with_current, some_pairs, tables_logged, tables_unbuilt, tables_unlogged, unlogged_sound, imm_has_entries}
use Rattle.leveldb_store.proofs.Keeping.SoundLemmas.{edit_goes_on, given_unbroken, goes_on_then, sound_ok, sound_unbroken, table_goes_on}
use Rattle.leveldb_store.proofs.ExitLemmas.{none_ok}
use Rattle.leveldb_store.proofs.open_store.OpenStore.write_level0_table.Goals as goal

not_broken : (set : VersionSetValue) (b : Bool) → (set.manifest ≡ broken → b ≡ true) → b ≡ false → set.manifest ≢ broken
not_broken set b says is e = let never : false ≡ true = sym is ∙ says e in cc

pub returns-in_err-file-clause-tables : goal.returns-in_err-file-clause-tables
returns-in_err-file-clause-tables g c =
    let p = err_from_is_err_and c.from_residual-in_err-file.result c.from_residual-in_err-file.ensures.1 in
    let usable = not_broken c.self.inside.versions.set c.is_broken.result c.is_broken.ensures.1 c.if-is_broken.false in
    let made = rw (c.in_ok-number.ensures.number, c.in_ok-number.ensures.ok) at c.in_err-file.ensures.makes in
    rw (← c.self.view_is, c.in_ok-number.ensures.ok, p.1, p.2)
    (tables_unbuilt g.E.Env _ _ c.args.env.now usable c.in_ok-number.ensures.fits c.build_imm_table.new.env _ made)

pub returns-in_err-file-clause-keeps : goal.returns-in_err-file-clause-keeps
returns-in_err-file-clause-keeps g c =
    let made = rw (c.in_ok-number.ensures.number, c.in_ok-number.ensures.ok) at c.in_err-file.ensures.makes in
    rw (← c.self.view_is, c.in_ok-number.ensures.ok)
    (λ modelled meaning agrees. keeps_unmade (g.C.Cmp.cmp c.self.inside.cmp) meaning _ c.in_ok-number.ensures.fits (g.E.Env.observed c.args.env.now) (g.E.Env.observed c.build_imm_table.new.env)
    (made.run modelled) (made.bytes modelled))

pub returns-in_err-log_table-clause-tables : goal.returns-in_err-log_table-clause-tables
returns-in_err-log_table-clause-tables g c =
    let p = err_from_is_err_and c.from_residual-in_err-log_table.result c.from_residual-in_err-log_table.ensures.1 in
    let usable = not_broken c.self.inside.versions.set c.is_broken.result c.is_broken.ensures.1 c.if-is_broken.false in
    let made = rw (c.in_ok-number.ensures.number, c.in_ok-number.ensures.ok) at c.in_ok-file.ensures.makes in
    let logs = rw c.in_ok-number.ensures.ok at c.in_err-log_table.ensures.logs in
    let used = in_use_of c.self.inside.versions.set.manifest c.self.invariant.5 usable in
    rw (← c.self.view_is, c.in_err-log_table.ensures.err, c.in_ok-number.ensures.ok, p.1, p.2)
    (tables_unlogged g.E.Env _ _ c.args.env.now usable c.in_ok-number.ensures.fits c.build_imm_table.new.env c.level_for-level.result c.in_ok-file.file made used.0 used.1 c.self.invariant.4 c.log_table.ensures.locks
    c.log_table.new.self.set _ (logs used.0 used.1))

pub returns-in_err-log_table-clause-keeps : goal.returns-in_err-log_table-clause-keeps
returns-in_err-log_table-clause-keeps g c =
    let cmp = c.self.inside.cmp in
    let made = rw (c.in_ok-number.ensures.number, c.in_ok-number.ensures.ok) at c.in_ok-file.ensures.makes in
    let logs = rw c.in_ok-number.ensures.ok at c.in_err-log_table.ensures.logs in
    let some = imm_has_entries c.self.inside.imm (rw (← c.self.view_is) at c.requires.waits) c.self.invariant.7 in
    let order = rw (← c.self.view_is) at c.requires.order in
    let total : IsTotalOrder (g.C.Cmp.cmp cmp) = total_order (g.met.C.Cmp.preorder cmp) (g.met.C.UserCmp.accepts_all cmp) in
    let picked = rw c.in_ok-number.ensures.ok at c.level_for-level.ensures.level in
    rw (← c.self.view_is, c.in_err-log_table.ensures.err, c.in_ok-number.ensures.ok)
    (λ modelled meaning agrees. keeps_failed g.E.Env _ _ c.args.env.now c.build_imm_table.new.env c.level_for-level.result c.in_ok-file.file some c.build_imm_table.ensures.entries made modelled (g.C.Cmp.cmp cmp) order meaning agrees
    c.in_ok-number.ensures.fits total picked c.log_table.new.env c.log_table.new.self.set _ logs)

pub returns-clause-tables : goal.returns-clause-tables
returns-clause-tables g c =
    let usable = not_broken c.self.inside.versions.set c.is_broken.result c.is_broken.ensures.1 c.if-is_broken.false in
    let made = rw (c.in_ok-number.ensures.number, c.in_ok-number.ensures.ok) at c.in_ok-file.ensures.makes in
    let logs = rw c.in_ok-number.ensures.ok at c.in_ok-log_table.ensures.logs in
    let used = in_use_of c.self.inside.versions.set.manifest c.self.invariant.5 usable in
    let gone = ap (λ (v : OpenStoreValue g.row.C.Denot). record v { imm = None }) (c.self-2.view_is ∙ c.log_table.ensures.rest) in
    let order = rw (← c.self.view_is) at c.requires.order in
    let picked = rw (c.in_ok-number.ensures.ok, ← order) at c.level_for-level.ensures.level in
    let gains = rw (c.in_ok-number.ensures.ok, ← order) at c.in_ok-log_table.ensures.current in
    let old : OpenStoreValue g.row.C.Denot = record {
      cmp = c.self.inside.cmp;
      set = c.self.inside.versions.set;
      current = c.self.inside.versions.current;
      log = record { number = c.self.inside.log.number; writer = c.self.inside.log.file.writer };
      mem = c.self.inside.mem.kept;
      imm = option_map (λ memtable. memtable.kept) c.self.inside.imm;
      kept_to = c.self.inside.kept_to;
    } in
    rw (← c.self.view_is, gone)
    (tables_logged g.E.Env _ old c.args.env.now usable c.in_ok-number.ensures.fits c.build_imm_table.new.env c.level_for-level.result c.in_ok-file.file made used.0 used.1 c.self.invariant.4 c.log_table.ensures.locks
    c.log_table.new.self.set c.self.invariant.9 c.log_table.new.self.current gains picked (logs used.0 used.1))

pub returns-clause-keeps : goal.returns-clause-keeps
returns-clause-keeps g c =
    let cmp = c.self.inside.cmp in
    let made = rw (c.in_ok-number.ensures.number, c.in_ok-number.ensures.ok) at c.in_ok-file.ensures.makes in
    let logs = rw c.in_ok-number.ensures.ok at c.in_ok-log_table.ensures.logs in
    let some = imm_has_entries c.self.inside.imm (rw (← c.self.view_is) at c.requires.waits) c.self.invariant.7 in
    let order = rw (← c.self.view_is) at c.requires.order in
    let total : IsTotalOrder (g.C.Cmp.cmp cmp) = total_order (g.met.C.Cmp.preorder cmp) (g.met.C.UserCmp.accepts_all cmp) in
    let picked = rw c.in_ok-number.ensures.ok at c.level_for-level.ensures.level in
    let gone = ap (λ (v : OpenStoreValue g.row.C.Denot). record v { imm = None }) (c.self-2.view_is ∙ c.log_table.ensures.rest) in
    rw (← c.self.view_is, gone)
    (λ modelled meaning agrees. keeps_with_current c.log_table.new.self.current (g.C.Cmp.cmp cmp) meaning _ (g.E.Env.observed c.args.env.now) _ (g.E.Env.observed c.log_table.new.env) (keeps_done g.E.Env _ _ c.args.env.now c.build_imm_table.new.env c.level_for-level.result c.in_ok-file.file some c.build_imm_table.ensures.entries made modelled (g.C.Cmp.cmp cmp) order meaning agrees
    c.in_ok-number.ensures.fits total picked c.log_table.new.env c.log_table.new.self.set logs))

pub invariant_of-self : goal.invariant_of-self
invariant_of-self g c =
    let versions = c.in_err-number.ensures.err in
    let same = ap (λ (v : VersionsValue g.row.C.Denot). v.set) versions in (
      ap (λ (set : VersionSetValue). set.store) same ∙ c.self.invariant.0,
      c.self.invariant.1,
      c.self.invariant.2,
      c.self.invariant.3,
      λ modelled. subst HasOwnManifest (sym same) (c.self.invariant.4 modelled),
      λ e. c.self.invariant.5 (sym (ap (λ (set : VersionSetValue). set.manifest) same) ∙ e),
      subst (λ (set : VersionSetValue). AreUpTo set.last_sequence c.self.inside.mem.kept.entries) (sym same) c.self.invariant.6,
      c.self.invariant.7,
      ap (λ (v : VersionsValue g.row.C.Denot). v.current.cmp) versions ∙ c.self.invariant.8,
      live_given c.self.inside.versions.set c.new_file_number.new.self.set (ap (λ (s : VersionSetValue). s.full) same) (omega (arith, ap (λ (s : VersionSetValue). s.next_file) same)) c.self.invariant.9,
      subst (λ (full : Edit). AreInLevels g.E.Env.models_disk (g.C.Cmp.cmp c.self.inside.cmp) full.added) (sym (ap (λ (s : VersionSetValue). s.full) same)) c.self.invariant.10,
    )

pub invariant_of-self-2 : goal.invariant_of-self-2
invariant_of-self-2 g c =
    let versions = c.in_ok-number.ensures.ok in
    let given = ap (λ (v : VersionsValue g.row.C.Denot). v.set) versions in (
      ap (λ (set : VersionSetValue). set.store) given ∙ c.self.invariant.0,
      c.self.invariant.1,
      c.self.invariant.2,
      c.self.invariant.3,
      λ modelled. subst HasOwnManifest (sym given) (c.self.invariant.4 modelled),
      λ e. c.self.invariant.5 (sym (ap (λ (set : VersionSetValue). set.manifest) given) ∙ e),
      subst (λ (set : VersionSetValue). AreUpTo set.last_sequence c.self.inside.mem.kept.entries) (sym given) c.self.invariant.6,
      c.self.invariant.7,
      ap (λ (v : VersionsValue g.row.C.Denot). v.current.cmp) versions ∙ c.self.invariant.8,
      live_given c.self.inside.versions.set c.new_file_number.new.self.set (ap (λ (s : VersionSetValue). s.full) given) (omega (arith, ap (λ (s : VersionSetValue). s.next_file) given)) c.self.invariant.9,
      subst (λ (full : Edit). AreInLevels g.E.Env.models_disk (g.C.Cmp.cmp c.self.inside.cmp) full.added) (sym (ap (λ (s : VersionSetValue). s.full) given)) c.self.invariant.10,
    )

-- ---- time and bytes, and what breaks the store

pub returns-in_err-file-clause-sound : goal.returns-in_err-file-clause-sound
returns-in_err-file-clause-sound g c =
    let p = err_from_is_err_and c.from_residual-in_err-file.result c.from_residual-in_err-file.ensures.1 in
    rw (← c.self.view_is, c.in_ok-number.ensures.ok, p.1)
    (sound_unbroken g.E.Env _ _ _ c.args.env.now _ _ c.build_imm_table.new.env (table_goes_on g.E.Env c.in_err-file.ensures.makes) (given_unbroken _))

pub returns-in_err-log_table-clause-sound : goal.returns-in_err-log_table-clause-sound
returns-in_err-log_table-clause-sound g c =
    let p = err_from_is_err_and c.from_residual-in_err-log_table.result c.from_residual-in_err-log_table.ensures.1 in
    let usable = not_broken c.self.inside.versions.set c.is_broken.result c.is_broken.ensures.1 c.if-is_broken.false in
    let made = rw (c.in_ok-number.ensures.number, c.in_ok-number.ensures.ok) at c.in_ok-file.ensures.makes in
    let logs = rw c.in_ok-number.ensures.ok at c.in_err-log_table.ensures.logs in
    let used = in_use_of c.self.inside.versions.set.manifest c.self.invariant.5 usable in
    rw (← c.self.view_is, c.in_err-log_table.ensures.err, c.in_ok-number.ensures.ok, p.1, p.2)
    (unlogged_sound g.E.Env _ _ c.args.env.now usable c.in_ok-number.ensures.fits c.build_imm_table.new.env c.level_for-level.result c.in_ok-file.file made used.0 used.1 c.self.invariant.4 c.log_table.ensures.locks
    c.log_table.new.self.set _ _ _ _ (logs used.0 used.1))

pub returns-clause-sound : goal.returns-clause-sound
returns-clause-sound g c =
    let mid = c.build_imm_table.new.env in
    let to = c.log_table.new.env in
    let usable = not_broken c.self.inside.versions.set c.is_broken.result c.is_broken.ensures.1 c.if-is_broken.false in
    let logs = rw c.in_ok-number.ensures.ok at c.in_ok-log_table.ensures.logs in
    let used = in_use_of c.self.inside.versions.set.manifest c.self.invariant.5 usable in
    let logged = logs used.0 used.1 in
    sound_ok g.E.Env _ _ _ c.args.env.now tt _ to
    (goes_on_then g.E.Env (table_goes_on g.E.Env c.in_ok-file.ensures.makes)
    (edit_goes_on g.E.Env used.0 _ _ _ (c.in_ok-file.ensures.makes.fits c.level_for-level.result) mid to _ _ logged))

-- ---- the levels

pub log_table-requires-clause-levels : goal.log_table-requires-clause-levels
log_table-requires-clause-levels g c =
    let cmp = g.C.Cmp.cmp c.self.inside.cmp in
    let entries = imm_entries (option_map (λ memtable. memtable.kept) c.self.inside.imm) in
    let total : IsTotalOrder cmp = total_order (g.met.C.Cmp.preorder c.self.inside.cmp) (g.met.C.UserCmp.accepts_all c.self.inside.cmp) in
    let some = some_pairs entries (imm_has_entries c.self.inside.imm (rw (← c.self.view_is) at c.requires.waits) c.self.invariant.7) in
    let order = rw (← c.self.view_is) at c.requires.order in
    let made = c.in_ok-file.ensures.makes.made some in
    let rising = rw order at c.in_ok-file.ensures.rising in
    let in_order = range_in_order cmp total (map internal_pair entries) rising c.in_ok-file.file.smallest c.in_ok-file.file.largest made.smallest made.largest in
    let picked = rw c.in_ok-number.ensures.ok at c.level_for-level.ensures.level in
    rw c.in_ok-number.ensures.ok
    (levels_with_picked g.E.Env.models_disk cmp c.self.inside.versions.set.full.added (new_file_of (c.level_for-level.result, c.in_ok-file.file)) picked (let deepest = c.level_for-level.ensures.deepest in omega (arith, deepest)) in_order c.self.invariant.10)

-- ---- no entry is new

pub returns-clause-none_new : goal.returns-clause-none_new
returns-clause-none_new g c =
    let usable = not_broken c.self.inside.versions.set c.is_broken.result c.is_broken.ensures.1 c.if-is_broken.false in
    let cmp = c.self.inside.cmp in
    let made = rw (c.in_ok-number.ensures.number, c.in_ok-number.ensures.ok) at c.in_ok-file.ensures.makes in
    let logs = rw c.in_ok-number.ensures.ok at c.in_ok-log_table.ensures.logs in
    let used = in_use_of c.self.inside.versions.set.manifest c.self.invariant.5 usable in
    let some = imm_has_entries c.self.inside.imm (rw (← c.self.view_is) at c.requires.waits) c.self.invariant.7 in
    let order = rw (← c.self.view_is) at c.requires.order in
    let gone = ap (λ (v : OpenStoreValue g.row.C.Denot). record v { imm = None }) (c.self-2.view_is ∙ c.log_table.ensures.rest) in
    let old : OpenStoreValue g.row.C.Denot = record {
      cmp = c.self.inside.cmp;
      set = c.self.inside.versions.set;
      current = c.self.inside.versions.current;
      log = record { number = c.self.inside.log.number; writer = c.self.inside.log.file.writer };
      mem = c.self.inside.mem.kept;
      imm = option_map (λ memtable. memtable.kept) c.self.inside.imm;
      kept_to = c.self.inside.kept_to;
    } in
    rw (← c.self.view_is)
    (λ modelled meaning agrees w. subst (λ (v : OpenStoreValue g.row.C.Denot). AddsNoEntry (g.C.Cmp.cmp cmp) meaning old (files_at g.E.Env c.args.env.now) v (files_at g.E.Env c.log_table.new.env)) (sym gone)
    (table_adds_none g.E.Env _ old c.args.env.now c.build_imm_table.new.env c.level_for-level.result c.in_ok-file.file some c.build_imm_table.ensures.entries made modelled (g.C.Cmp.cmp cmp) order meaning agrees
    usable c.in_ok-number.ensures.fits used.0 used.1 c.self.invariant.4 c.log_table.new.env c.log_table.ensures.locks c.log_table.new.self.set c.self.invariant.9 (logs used.0 used.1) c.log_table.new.self.current w))

-- ---- the table that is added

pub returns-clause-added : goal.returns-clause-added
returns-clause-added g c =
    let usable = not_broken c.self.inside.versions.set c.is_broken.result c.is_broken.ensures.1 c.if-is_broken.false in
    let made = rw (c.in_ok-number.ensures.number, c.in_ok-number.ensures.ok) at c.in_ok-file.ensures.makes in
    let logs = rw c.in_ok-number.ensures.ok at c.in_ok-log_table.ensures.logs in
    let used = in_use_of c.self.inside.versions.set.manifest c.self.invariant.5 usable in
    let some = imm_has_entries c.self.inside.imm (rw (← c.self.view_is) at c.requires.waits) c.self.invariant.7 in
    let gone = ap (λ (v : OpenStoreValue g.row.C.Denot). record v { imm = None }) (c.self-2.view_is ∙ c.log_table.ensures.rest) in
    let old : OpenStoreValue g.row.C.Denot = record {
      cmp = c.self.inside.cmp;
      set = c.self.inside.versions.set;
      current = c.self.inside.versions.current;
      log = record { number = c.self.inside.log.number; writer = c.self.inside.log.file.writer };
      mem = c.self.inside.mem.kept;
      imm = option_map (λ memtable. memtable.kept) c.self.inside.imm;
      kept_to = c.self.inside.kept_to;
    } in
    rw (← c.self.view_is)
    (imm_added g.E.Env _ old c.args.env.now c.build_imm_table.new.env c.level_for-level.result c.in_ok-file.file some c.build_imm_table.ensures.entries made
    c.in_ok-number.ensures.fits c.self.invariant.9 used.0 used.1 c.self.invariant.4 c.log_table.new.self.set c.log_table.new.env (logs used.0 used.1) _ (ap (λ (v : OpenStoreValue g.row.C.Denot). v.set) gone))

-- a call that fails says nothing of entries

pub returns-then-is_broken-clause-none_new : goal.returns-then-is_broken-clause-none_new
returns-then-is_broken-clause-none_new g c = none_ok _ _ c.err.result c.err.ensures.code

pub returns-then-is_broken-clause-added : goal.returns-then-is_broken-clause-added
returns-then-is_broken-clause-added g c = none_ok _ _ c.err.result c.err.ensures.code

pub returns-in_err-number-clause-none_new : goal.returns-in_err-number-clause-none_new
returns-in_err-number-clause-none_new g c = IfOk-from_err c.from_residual.result _ c.from_residual.ensures.0

pub returns-in_err-number-clause-added : goal.returns-in_err-number-clause-added
returns-in_err-number-clause-added g c = IfOk-from_err c.from_residual.result _ c.from_residual.ensures.0

pub returns-in_err-file-clause-none_new : goal.returns-in_err-file-clause-none_new
returns-in_err-file-clause-none_new g c = IfOk-from_err c.from_residual-in_err-file.result _ c.from_residual-in_err-file.ensures.0

pub returns-in_err-file-clause-added : goal.returns-in_err-file-clause-added
returns-in_err-file-clause-added g c = IfOk-from_err c.from_residual-in_err-file.result _ c.from_residual-in_err-file.ensures.0

pub returns-in_err-log_table-clause-none_new : goal.returns-in_err-log_table-clause-none_new
returns-in_err-log_table-clause-none_new g c = IfOk-from_err c.from_residual-in_err-log_table.result _ c.from_residual-in_err-log_table.ensures.0

pub returns-in_err-log_table-clause-added : goal.returns-in_err-log_table-clause-added
returns-in_err-log_table-clause-added g c = IfOk-from_err c.from_residual-in_err-log_table.result _ c.from_residual-in_err-log_table.ensures.0
