use Rattle.std.proofs.Common.{Err, Ok, subst, sym}
use Rattle.std.specs.Prelude.{All}
use Rattle.std.proofs.lemmas.Result.{err_from_is_err_and}
use Rattle.leveldb_base.proofs.HistoryLemmas.{exact_order}
use Rattle.leveldb_version_set.specs.Sets.VersionSetValue.{new_version_set}
use Rattle.leveldb_store.specs.Openings.Listing.{MatchesName, names_of}
use Rattle.leveldb_store.specs.Openings.OpeningSteps.{ChecksSet, MarksNames}
use Rattle.leveldb_store.proofs.Openings.ListingLemmas.{checks_listed, marks_listed, numbers_listed}
use Rattle.leveldb_store.proofs.Openings.RecoverSetLemmas.{is_recovered, not_recovered, unchecked, unlisted, unnumbered}
use Rattle.leveldb_store.proofs.opening.recovered_set.recover_set.Goals as goal

pub returns-in_err-files : goal.returns-in_err-files
returns-in_err-files g c =
    let failed = err_from_is_err_and c.from_residual.result c.from_residual.ensures.1 in
    let order = c.args.options.now.cmp in
    let exact = exact_order (g.C.Cmp.accepts order) (g.C.Cmp.cmp order) (g.met.C.UserCmp.accepts_all order) (g.met.C.Cmp.preorder order) (g.met.C.UserCmp.exact order) in
    rw (failed.1, failed.2) (unlisted g.E.Env _ exact c.args.options.now.reuse_manifest c.args.options.now.max_file_size c.args.store.now c.args.env.now c.files_in.new.env
    c.files_in.ensures.still c.files_in.ensures.locks _ c.in_err-files.ensures.cause)

pub returns-in_err-versions : goal.returns-in_err-versions
returns-in_err-versions g c =
    let failed = err_from_is_err_and c.from_residual-in_err-versions.result c.from_residual-in_err-versions.ensures.1 in
    let order = c.args.options.now.cmp in
    let exact = exact_order (g.C.Cmp.accepts order) (g.C.Cmp.cmp order) (g.met.C.UserCmp.accepts_all order) (g.met.C.Cmp.preorder order) (g.met.C.UserCmp.exact order) in
    let listed = c.in_ok-files.ensures.lists in
    rw (failed.1, failed.2) (unnumbered g.E.Env _ exact c.args.options.now.reuse_manifest c.args.options.now.max_file_size c.args.store.now c.args.env.now c.files_in.new.env
    c.files_in.ensures.still c.files_in.ensures.locks c.in_ok-files.ensures.cause.ok listed.0 listed.1 _
    (numbers_listed listed.0 c.in_ok-files.files.items listed.2 _ _ c.as_slice.ensures.value c.in_err-versions.ensures.cause))

pub returns-in_err-needs_new_manifest : goal.returns-in_err-needs_new_manifest
returns-in_err-needs_new_manifest g c =
    let failed = err_from_is_err_and c.from_residual-in_err-needs_new_manifest.result c.from_residual-in_err-needs_new_manifest.ensures.1 in
    let order = c.args.options.now.cmp in
    let exact = exact_order (g.C.Cmp.accepts order) (g.C.Cmp.cmp order) (g.met.C.UserCmp.accepts_all order) (g.met.C.Cmp.preorder order) (g.met.C.UserCmp.exact order) in
    let listed = c.in_ok-files.ensures.lists in
    let marks = marks_listed listed.0 c.in_ok-files.files.items listed.2 (new_version_set c.args.store.now (g.C.Cmp.name order)) c.in_ok-versions.versions
    (subst (λ fs. MarksNames (new_version_set c.args.store.now (g.C.Cmp.name order)) (names_of fs) c.in_ok-versions.versions) c.as_slice.ensures.value c.in_ok-versions.ensures.ok) in
    rw (failed.1, failed.2) (not_recovered g.E.Env _ exact c.args.options.now.reuse_manifest c.args.options.now.max_file_size c.args.store.now c.args.env.now c.files_in.new.env
    c.files_in.ensures.still c.files_in.ensures.locks c.in_ok-files.ensures.cause.ok listed.0 listed.1 c.in_ok-versions.versions marks c.recover.new.env _ c.recover.new.self c.in_err-needs_new_manifest.ensures)

pub returns-in_err-logs : goal.returns-in_err-logs
returns-in_err-logs g c =
    let failed = err_from_is_err_and c.from_residual-in_err-logs.result c.from_residual-in_err-logs.ensures.1 in
    let order = c.args.options.now.cmp in
    let exact = exact_order (g.C.Cmp.accepts order) (g.C.Cmp.cmp order) (g.met.C.UserCmp.accepts_all order) (g.met.C.Cmp.preorder order) (g.met.C.UserCmp.exact order) in
    let listed = c.in_ok-files.ensures.lists in
    let marks = marks_listed listed.0 c.in_ok-files.files.items listed.2 (new_version_set c.args.store.now (g.C.Cmp.name order)) c.in_ok-versions.versions
    (subst (λ fs. MarksNames (new_version_set c.args.store.now (g.C.Cmp.name order)) (names_of fs) c.in_ok-versions.versions) c.as_slice.ensures.value c.in_ok-versions.ensures.ok) in
    let checks = checks_listed g.E.Env c.args.store.now listed.0 c.in_ok-files.files.items listed.2 c.recover.new.self c.recover.new.env (Err c.in_err-logs.field-0.0) c.logs_to_replay.new.env
    (subst (λ fs. ChecksSet g.E.Env c.args.store.now c.recover.new.self (names_of fs) c.recover.new.env (Err c.in_err-logs.field-0.0) c.logs_to_replay.new.env) c.as_slice-2.ensures.value c.in_err-logs.ensures) in
    rw (failed.1, failed.2) (unchecked g.E.Env _ exact c.args.options.now.reuse_manifest c.args.options.now.max_file_size c.args.store.now c.args.env.now c.files_in.new.env
    c.files_in.ensures.still c.files_in.ensures.locks c.in_ok-files.ensures.cause.ok listed.0 listed.1 c.in_ok-versions.versions marks c.recover.new.env
    c.in_ok-needs_new_manifest.needs_new_manifest c.recover.new.self c.in_ok-needs_new_manifest.ensures c.logs_to_replay.new.env checks.still checks.locks _ checks.cause)

pub returns : goal.returns
returns g c =
    let order = c.args.options.now.cmp in
    let exact = exact_order (g.C.Cmp.accepts order) (g.C.Cmp.cmp order) (g.met.C.UserCmp.accepts_all order) (g.met.C.Cmp.preorder order) (g.met.C.UserCmp.exact order) in
    let listed = c.in_ok-files.ensures.lists in
    let marks = marks_listed listed.0 c.in_ok-files.files.items listed.2 (new_version_set c.args.store.now (g.C.Cmp.name order)) c.in_ok-versions.versions
    (subst (λ fs. MarksNames (new_version_set c.args.store.now (g.C.Cmp.name order)) (names_of fs) c.in_ok-versions.versions) c.as_slice.ensures.value c.in_ok-versions.ensures.ok) in
    let checks = checks_listed g.E.Env c.args.store.now listed.0 c.in_ok-files.files.items listed.2 c.recover.new.self c.recover.new.env (Ok c.in_ok-logs.logs) c.logs_to_replay.new.env
    (subst (λ fs. ChecksSet g.E.Env c.args.store.now c.recover.new.self (names_of fs) c.recover.new.env (Ok c.in_ok-logs.logs) c.logs_to_replay.new.env) c.as_slice-2.ensures.value c.in_ok-logs.ensures) in
    is_recovered g.E.Env _ exact c.args.options.now.reuse_manifest c.args.options.now.max_file_size c.args.store.now c.args.env.now c.files_in.new.env
    c.files_in.ensures.still c.files_in.ensures.locks c.in_ok-files.ensures.cause.ok listed.0 listed.1 c.in_ok-versions.versions marks c.recover.new.env
    c.in_ok-needs_new_manifest.needs_new_manifest c.recover.new.self c.in_ok-needs_new_manifest.ensures c.logs_to_replay.new.env checks.still checks.locks checks.cause.ok c.in_ok-logs.logs checks.ok

pub numbered_set-requires : goal.numbered_set-requires
numbered_set-requires g c = subst (All MatchesName) (sym c.as_slice.ensures.value) c.in_ok-files.ensures.lists.2.named

pub logs_to_replay-requires : goal.logs_to_replay-requires
logs_to_replay-requires g c = subst (All MatchesName) (sym c.as_slice-2.ensures.value) c.in_ok-files.ensures.lists.2.named
