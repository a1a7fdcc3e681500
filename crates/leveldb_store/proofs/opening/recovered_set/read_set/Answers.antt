use Rattle.std.proofs.Common.{Err, Ok, ◌∙◌, ap, false, subst, sym, true}
use Rattle.std.specs.Prelude.{All, IsTrue}
use Rattle.std.proofs.lemmas.Result.{err_from_is_err_and}
use Rattle.leveldb_base.proofs.HistoryLemmas.{exact_order}
use Rattle.leveldb_env.specs.Env.{FilesUnchanged, Run}
use Rattle.leveldb_version_set.proofs.Sets.RecoveredLemmas.{read_is_recovered, unread_is_unrecovered}
use Rattle.leveldb_version_set.specs.Sets.VersionSetValue.{VersionSetValue, new_version_set, unmade}
use Rattle.leveldb_store.specs.Openings.Listing.{MatchesName, names_of}
use Rattle.leveldb_store.specs.Openings.OpeningSteps.{ChecksSet, MarksNames}
use Rattle.leveldb_store.proofs.Openings.ListingLemmas.{checks_listed, marks_listed, numbers_listed}
use Rattle.leveldb_store.proofs.Openings.RecoverSetLemmas.{is_recovered, not_recovered, set_read, set_unread, still_thrice, still_twice, unchecked, unlisted, unnumbered}
use Rattle.leveldb_store.proofs.opening.recovered_set.read_set.Goals as goal

pub returns-in_err-files : goal.returns-in_err-files
returns-in_err-files g c =
    let failed = err_from_is_err_and c.from_residual.result c.from_residual.ensures.1 in
    let order = c.args.options.now.cmp in
    let exact = exact_order (g.C.Cmp.accepts order) (g.C.Cmp.cmp order) (g.met.C.UserCmp.accepts_all order) (g.met.C.Cmp.preorder order) (g.met.C.UserCmp.exact order) in
    rw (failed.1, failed.2) (set_unread g.E.Env _ exact c.args.store.now c.args.env.now c.list_files.new.env _ c.list_files.ensures.still c.list_files.ensures.locks
    (unlisted g.E.Env _ exact false 0 c.args.store.now c.args.env.now c.list_files.new.env c.list_files.ensures.still c.list_files.ensures.locks _ c.in_err-files.ensures.cause))

pub returns-in_err-versions : goal.returns-in_err-versions
returns-in_err-versions g c =
    let failed = err_from_is_err_and c.from_residual-in_err-versions.result c.from_residual-in_err-versions.ensures.1 in
    let order = c.args.options.now.cmp in
    let exact = exact_order (g.C.Cmp.accepts order) (g.C.Cmp.cmp order) (g.met.C.UserCmp.accepts_all order) (g.met.C.Cmp.preorder order) (g.met.C.UserCmp.exact order) in
    let listed = c.in_ok-files.ensures.lists in
    rw (failed.1, failed.2) (set_unread g.E.Env _ exact c.args.store.now c.args.env.now c.list_files.new.env _ c.list_files.ensures.still c.list_files.ensures.locks
    (unnumbered g.E.Env _ exact false 0 c.args.store.now c.args.env.now c.list_files.new.env c.list_files.ensures.still c.list_files.ensures.locks c.in_ok-files.ensures.cause.ok
    listed.0 listed.1 _ (numbers_listed listed.0 c.in_ok-files.files.items listed.2 _ _ c.as_slice.ensures.value c.in_err-versions.ensures.cause)))

pub returns-in_err-read : goal.returns-in_err-read
returns-in_err-read g c =
    let failed = err_from_is_err_and c.from_residual-in_err-read.result c.from_residual-in_err-read.ensures.1 in
    let order = c.args.options.now.cmp in
    let exact = exact_order (g.C.Cmp.accepts order) (g.C.Cmp.cmp order) (g.met.C.UserCmp.accepts_all order) (g.met.C.Cmp.preorder order) (g.met.C.UserCmp.exact order) in
    let listed = c.in_ok-files.ensures.lists in
    let marks = marks_listed listed.0 c.in_ok-files.files.items listed.2 (new_version_set c.args.store.now (g.C.Cmp.name order)) c.in_ok-versions.versions
    (subst (λ fs. MarksNames (new_version_set c.args.store.now (g.C.Cmp.name order)) (names_of fs) c.in_ok-versions.versions) c.as_slice.ensures.value c.in_ok-versions.ensures.ok) in
    let still : IsTrue g.E.Env.models_disk → Run (FilesUnchanged (g.E.Env.observed c.args.env.now).disk.files) (g.E.Env.observed c.args.env.now) (g.E.Env.observed c.read.new.env)
    = still_twice g.E.Env _ _ _ c.list_files.ensures.still c.read.ensures.still in
    rw (failed.1, failed.2) (set_unread g.E.Env _ exact c.args.store.now c.args.env.now c.read.new.env _ still (λ modelled. c.read.ensures.locks modelled ∙ c.list_files.ensures.locks modelled)
    (not_recovered g.E.Env _ exact false 0 c.args.store.now c.args.env.now c.list_files.new.env c.list_files.ensures.still c.list_files.ensures.locks c.in_ok-files.ensures.cause.ok
    listed.0 listed.1 c.in_ok-versions.versions marks c.read.new.env _ c.in_ok-versions.versions
    (unread_is_unrecovered _ _ _ _ _ _ _ c.read.new.self _ _ c.in_err-read.ensures)))

pub returns-in_err-logs : goal.returns-in_err-logs
returns-in_err-logs g c =
    let failed = err_from_is_err_and c.from_residual-in_err-logs.result c.from_residual-in_err-logs.ensures.1 in
    let order = c.args.options.now.cmp in
    let exact = exact_order (g.C.Cmp.accepts order) (g.C.Cmp.cmp order) (g.met.C.UserCmp.accepts_all order) (g.met.C.Cmp.preorder order) (g.met.C.UserCmp.exact order) in
    let listed = c.in_ok-files.ensures.lists in
    let marks = marks_listed listed.0 c.in_ok-files.files.items listed.2 (new_version_set c.args.store.now (g.C.Cmp.name order)) c.in_ok-versions.versions
    (subst (λ fs. MarksNames (new_version_set c.args.store.now (g.C.Cmp.name order)) (names_of fs) c.in_ok-versions.versions) c.as_slice.ensures.value c.in_ok-versions.ensures.ok) in
    let checks = checks_listed g.E.Env c.args.store.now listed.0 c.in_ok-files.files.items listed.2 c.read.new.self c.read.new.env (Err c.in_err-logs.field-0.0) c.logs_to_replay.new.env
    (subst (λ fs. ChecksSet g.E.Env c.args.store.now c.read.new.self (names_of fs) c.read.new.env (Err c.in_err-logs.field-0.0) c.logs_to_replay.new.env) c.as_slice-2.ensures.value c.in_err-logs.ensures) in
    let still : IsTrue g.E.Env.models_disk → Run (FilesUnchanged (g.E.Env.observed c.args.env.now).disk.files) (g.E.Env.observed c.args.env.now) (g.E.Env.observed c.logs_to_replay.new.env)
    = still_thrice g.E.Env _ _ _ _ c.list_files.ensures.still c.read.ensures.still checks.still in
    rw (failed.1, failed.2) (set_unread g.E.Env _ exact c.args.store.now c.args.env.now c.logs_to_replay.new.env _ still
    (λ modelled. checks.locks modelled ∙ c.read.ensures.locks modelled ∙ c.list_files.ensures.locks modelled)
    (unchecked g.E.Env _ exact false 0 c.args.store.now c.args.env.now c.list_files.new.env c.list_files.ensures.still c.list_files.ensures.locks c.in_ok-files.ensures.cause.ok
    listed.0 listed.1 c.in_ok-versions.versions marks c.read.new.env true (record c.read.new.self { manifest = unmade })
    (read_is_recovered _ _ _ _ _ _ c.read.new.self _ _ c.in_ok-read.ensures) c.logs_to_replay.new.env checks.still checks.locks _ checks.cause))

pub returns : goal.returns
returns g c =
    let order = c.args.options.now.cmp in
    let exact = exact_order (g.C.Cmp.accepts order) (g.C.Cmp.cmp order) (g.met.C.UserCmp.accepts_all order) (g.met.C.Cmp.preorder order) (g.met.C.UserCmp.exact order) in
    let listed = c.in_ok-files.ensures.lists in
    let marks = marks_listed listed.0 c.in_ok-files.files.items listed.2 (new_version_set c.args.store.now (g.C.Cmp.name order)) c.in_ok-versions.versions
    (subst (λ fs. MarksNames (new_version_set c.args.store.now (g.C.Cmp.name order)) (names_of fs) c.in_ok-versions.versions) c.as_slice.ensures.value c.in_ok-versions.ensures.ok) in
    let checks = checks_listed g.E.Env c.args.store.now listed.0 c.in_ok-files.files.items listed.2 c.read.new.self c.read.new.env (Ok c.in_ok-logs.logs) c.logs_to_replay.new.env
    (subst (λ fs. ChecksSet g.E.Env c.args.store.now c.read.new.self (names_of fs) c.read.new.env (Ok c.in_ok-logs.logs) c.logs_to_replay.new.env) c.as_slice-2.ensures.value c.in_ok-logs.ensures) in
    let still : IsTrue g.E.Env.models_disk → Run (FilesUnchanged (g.E.Env.observed c.args.env.now).disk.files) (g.E.Env.observed c.args.env.now) (g.E.Env.observed c.logs_to_replay.new.env)
    = still_thrice g.E.Env _ _ _ _ c.list_files.ensures.still c.read.ensures.still checks.still in
    set_read g.E.Env _ exact c.args.store.now c.args.env.now c.logs_to_replay.new.env c.read.new.self c.in_ok-logs.logs still
    (λ modelled. checks.locks modelled ∙ c.read.ensures.locks modelled ∙ c.list_files.ensures.locks modelled)
    (ap (λ (s : VersionSetValue). s.manifest) c.in_ok-read.ensures.ok.set)
    (is_recovered g.E.Env _ exact false 0 c.args.store.now c.args.env.now c.list_files.new.env c.list_files.ensures.still c.list_files.ensures.locks c.in_ok-files.ensures.cause.ok
    listed.0 listed.1 c.in_ok-versions.versions marks c.read.new.env true (record c.read.new.self { manifest = unmade })
    (read_is_recovered _ _ _ _ _ _ c.read.new.self _ _ c.in_ok-read.ensures) c.logs_to_replay.new.env checks.still checks.locks checks.cause.ok c.in_ok-logs.logs
    (record { tables = checks.ok.tables; given = checks.ok.given; fits = checks.ok.fits; logs_are = checks.ok.logs_are }))

pub numbered_set-requires : goal.numbered_set-requires
numbered_set-requires g c = subst (All MatchesName) (sym c.as_slice.ensures.value) c.in_ok-files.ensures.lists.2.named

pub logs_to_replay-requires : goal.logs_to_replay-requires
logs_to_replay-requires g c = subst (All MatchesName) (sym c.as_slice-2.ensures.value) c.in_ok-files.ensures.lists.2.named
