use Rattle.std.proofs.Common.{◌≡◌, ◌∙◌, Ok, arith}
use Rattle.leveldb_env.proofs.AppendedLemmas.{appended_bytes, emptied_bytes, synced_bytes}
use Rattle.leveldb_env.proofs.WholeFilesLemmas.{found_ok}
use Rattle.leveldb_env.proofs.WholeFilesLemmas.{file_made}
use Rattle.leveldb_env.proofs.env.whole_files.write_file.Goals as goal

pub returns-clause-does : goal.returns-clause-does
returns-clause-does g c = λ modelled.
    let appended : c.append.result ≡ Ok _ = found_ok c.args.path.now c.append.result _ c.in_ok-found.ensures in
    let is_synced : c.sync.result ≡ Ok _ = found_ok c.args.path.now c.sync.result _ c.in_ok-found-2.ensures in
    let append = rw (c.in_ok-file.ensures.file modelled, appended) at c.append.ensures.does in
    let sync = rw (c.append.ensures.file modelled ∙ c.in_ok-file.ensures.file modelled, is_synced) at c.sync.ensures.does in
    file_made c.args.path.now c.args.bytes.now modelled c.in_ok-file.ensures.does append sync

pub returns-in_err-found-clause-bytes : goal.returns-in_err-found-clause-bytes
returns-in_err-found-clause-bytes g c = λ modelled before.
    let opened = emptied_bytes c.args.path.now _ _ (c.in_ok-file.ensures.does.now modelled) before in
    appended_bytes _ c.args.bytes.now (λ k. omega (arith, c.type_inv.bytes k)) _ _ (c.append.ensures.does.now modelled) opened

pub returns-in_err-found-2-clause-bytes : goal.returns-in_err-found-2-clause-bytes
returns-in_err-found-2-clause-bytes g c = λ modelled before.
    let opened = emptied_bytes c.args.path.now _ _ (c.in_ok-file.ensures.does.now modelled) before in
    let put = appended_bytes _ c.args.bytes.now (λ k. omega (arith, c.type_inv.bytes k)) _ _ (c.append.ensures.does.now modelled) opened in
    synced_bytes _ _ _ (c.sync.ensures.does.now modelled) put

pub returns-clause-bytes : goal.returns-clause-bytes
returns-clause-bytes g c = λ modelled before.
    let opened = emptied_bytes c.args.path.now _ _ (c.in_ok-file.ensures.does.now modelled) before in
    let put = appended_bytes _ c.args.bytes.now (λ k. omega (arith, c.type_inv.bytes k)) _ _ (c.append.ensures.does.now modelled) opened in
    synced_bytes _ _ _ (c.sync.ensures.does.now modelled) put
