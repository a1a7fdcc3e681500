use Rattle.std.proofs.Common.{map, string_bytes}
use Rattle.std.specs.Prelude.{IsTrue}
use Rattle.std.proofs.lemmas.Result.{err_from_is_err_and}
use Rattle.leveldb_env.proofs.EnvLemmas.{Run-call}
use Rattle.leveldb_env.specs.Env.{ListsChildren}
use Rattle.leveldb_store.proofs.Openings.ListingLemmas.{lists_of, uncounted_memory}
use Rattle.leveldb_store.proofs.Openings.OpeningCausesLemmas.{folder_bare, listing_found}
use Rattle.leveldb_store.proofs.opening.listing.list_files.Goals as goal

pub returns-in_err-names-clause-still : goal.returns-in_err-names-clause-still
returns-in_err-names-clause-still g c = λ modelled. Run-call modelled c.children.ensures.does

pub returns-in_err-names-clause-cause : goal.returns-in_err-names-clause-cause
returns-in_err-names-clause-cause g c =
    let failed = err_from_is_err_and c.from_residual.result c.from_residual.ensures.1 in
    rw (failed.1, failed.2) (folder_bare g.E.Env.models_disk c.args.store.now (g.E.Env.observed c.args.env.now) (g.E.Env.failures c.args.env.now) (g.E.Env.failures c.children.new.self) c.children.result _
    (λ code bare. (code, bare)) c.in_err-names.ensures c.children.ensures.cause)

pub returns-clause-still : goal.returns-clause-still
returns-clause-still g c = λ modelled. Run-call modelled c.children.ensures.does

pub returns-clause-lists : goal.returns-clause-lists
returns-clause-lists g c =
    let listed = listing_found (λ names. IsTrue g.E.Env.models_disk → ListsChildren (g.E.Env.observed c.args.env.now).disk.files c.args.store.now (map string_bytes names.items)) c.args.store.now c.children.result
    c.in_ok-names.names c.in_ok-names.ensures c.children.ensures.ok c.children.ensures.cause in
    lists_of g.E.Env c.args.store.now c.args.env.now c.files_of.result (map string_bytes c.in_ok-names.names.items) listed.0 c.files_of.ensures.ok

pub returns-clause-cause : goal.returns-clause-cause
returns-clause-cause g c =
    let listed = listing_found (λ names. IsTrue g.E.Env.models_disk → ListsChildren (g.E.Env.observed c.args.env.now).disk.files c.args.store.now (map string_bytes names.items)) c.args.store.now c.children.result
    c.in_ok-names.names c.in_ok-names.ensures c.children.ensures.ok c.children.ensures.cause in
    uncounted_memory c.files_of.result listed.1 c.files_of.ensures.memory
