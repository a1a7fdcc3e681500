use Rattle.std.specs.Prelude.{IfOk, IfSome, IsSome, IsTrue, OnOk}
use Rattle.std.proofs.Common.{◌≡◌, Ok, arith, length, refl, subst}
use Rattle.leveldb_env.specs.Env.{bytes_of}
use Rattle.leveldb_env.proofs.WholeFilesLemmas.{found_ok}
use Rattle.leveldb_store.proofs.Logs.LogReplayLemmas.{has_read_none, sized_there}
use Rattle.std.proofs.lemmas.Result.{IfOk-from_err}
use Rattle.leveldb_store.proofs.log_replay.LogReplay.open_path.Goals as goal

pub returns-clause-opens : goal.returns-clause-opens
returns-clause-opens g c =
    let files = (g.E.Env.observed c.args.env.now).disk.files in
    let sized : c.size_of.result ≡ Ok c.in_ok-size.size = found_ok _ c.size_of.result _ c.in_ok-size.ensures in
    let is_open : c.open_sequential_file.result ≡ Ok c.in_ok-file.file = found_ok _ c.open_sequential_file.result _ c.in_ok-file.ensures in
    let opened = subst (λ r. IfOk r (λ f. IsTrue g.E.Env.models_disk → (g.E.Env.name_of f ≡ c.deref-4.result.now) × (g.E.Env.offset_of f ≡ 0))) is_open c.open_sequential_file.ensures.file in
    record {
      number_is = refl;
      path_is = refl;
      none_read = has_read_none g.E.Env.models_disk files _ c.new.ensures refl (omega arith)
          (λ modelled.
          let there = subst (λ r. OnOk r (IsTrue g.E.Env.models_disk → IsSome (files c.deref-2.result.now))) sized c.size_of.ensures.there modelled in
          let size = subst (λ r. IfOk r (λ n. IsTrue g.E.Env.models_disk → IfSome (files c.deref-2.result.now) (λ f. n ≡ length (bytes_of f)))) sized c.size_of.ensures.ok modelled in
          let file = sized_there (files c.deref-2.result.now) c.in_ok-size.size there size in
          (file.0, rw (← c.deref-2.ensures) file.1, file.2, (opened modelled).1));
    }

pub returns-in_err-size-clause-opens : goal.returns-in_err-size-clause-opens
returns-in_err-size-clause-opens g c = IfOk-from_err c.from_residual.result _ c.from_residual.ensures.0

pub returns-in_err-file-clause-opens : goal.returns-in_err-file-clause-opens
returns-in_err-file-clause-opens g c = IfOk-from_err c.from_residual-in_err-file.result _ c.from_residual-in_err-file.ensures.0
