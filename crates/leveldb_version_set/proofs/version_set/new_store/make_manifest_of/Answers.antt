use Rattle.std.proofs.Common.{◌≡◌, ◌∙◌, ◌∷◌, [], ap}
use Rattle.leveldb_files.specs.Edits.Edit.{edit_bytes}
use Rattle.leveldb_version.proofs.ExitLemmas.{cause_passed}
use Rattle.leveldb_version_set.proofs.Sets.NewManifestLemmas.{not_begun, not_made, one_made}
use Rattle.leveldb_version.specs.Edits.VersionEdit.{edit_of}
use Rattle.leveldb_version_set.specs.Sets.NewManifest.{manifest_bytes}
use Rattle.leveldb_version_set.proofs.version_set.new_store.make_manifest_of.Goals as goal

pub returns-in_err-path : goal.returns-in_err-path
returns-in_err-path g c =
    not_begun c.from_residual.result c.from_residual.ensures.0 (cause_passed _ c.from_residual.result _ c.from_residual.ensures.1 c.in_err-path.ensures.cause)

pub returns-in_err-record : goal.returns-in_err-record
returns-in_err-record g c =
    let exit = c.from_residual-in_err-record in
    not_begun exit.result exit.ensures.0 (cause_passed _ exit.result _ exit.ensures.1 c.in_err-record.ensures.memory)

pub returns-in_err-records : goal.returns-in_err-records
returns-in_err-records g c =
    let exit = c.from_residual-in_err-records in
    not_begun exit.result exit.ensures.0 (cause_passed _ exit.result _ exit.ensures.1 c.in_err-records.ensures.memory)

pub returns-in_err-make_manifest : goal.returns-in_err-make_manifest
returns-in_err-make_manifest g c =
    let is : c.in_ok-records.records.bytes.items ≡ manifest_bytes (edit_bytes (edit_of c.args.edit.now) ∷ []) =
    c.in_ok-records.ensures.bytes ∙ ap (λ text. manifest_bytes (text ∷ [])) c.in_ok-record.ensures.ok in
    let exit = c.from_residual-in_err-make_manifest in
    let why = c.in_err-make_manifest.ensures in
    not_made is c.in_err-make_manifest.field-0.0 exit.result exit.ensures.1 why.does why.bytes why.locks why.cause

pub returns : goal.returns
returns g c =
    let is : c.in_ok-records.records.bytes.items ≡ manifest_bytes (edit_bytes (edit_of c.args.edit.now) ∷ []) =
    c.in_ok-records.ensures.bytes ∙ ap (λ text. manifest_bytes (text ∷ [])) c.in_ok-record.ensures.ok in
    let made = c.in_ok-make_manifest.ensures in
    one_made is c.in_ok-make_manifest.field-0 made.does made.bytes made.locks made.cause
