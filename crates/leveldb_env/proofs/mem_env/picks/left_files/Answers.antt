use Rattle.std.proofs.Common.{◌≡◌, ◌++◌, List, ℕ, Some, string_bytes, sym, ◌∙◌, ap, subst}
use Rattle.leveldb_env.specs.Env.{with_file, kept_file}
use Rattle.leveldb_env.specs.MemEnv.{files_of}
use Rattle.leveldb_env.specs.Picks.{tails_of, tail_for}
use Rattle.leveldb_env.proofs.MemEnvLemmas.{Entries}
use Rattle.leveldb_env.proofs.PicksLemmas.{Leaving, left_file, leaving_begins, leaving_goes_on}
use Rattle.leveldb_env.proofs.mem_env.picks.left_files.Goals as goal

pub loop-name-init : goal.loop-name-init
loop-name-init c =
    let tails = tails_of c.args.tails.now in
    subst (λ (rest : Entries). Leaving c.args.files.now tails rest c.new-left.result)
    (sym (c.into_iter-name-iterator.ensures.into_iter_gives ∙ c.iter-name-items.ensures.rest))
    (leaving_begins c.args.files.now tails c.new-left.result c.new-left.ensures.empty c.iter-name-items.ensures.found)

pub loop-name-preserved : goal.loop-name-preserved
loop-name-preserved c =
    let tails = tails_of c.args.tails.now in
    let name = string_bytes c.in-Some.name.now in
    let tail : c.tail_for.result.now ≡ tail_for tails name = c.tail_for.ensures ∙ ap (tail_for tails) c.as_str-name.ensures.value in
    let file : c.in_ok-file.file ≡ left_file c.args.files.now tails name c.in-Some.file.now =
    c.in_ok-file.ensures ∙ ap (λ (t : List ℕ). kept_file (c.in-Some.file.now.kept ++ t)) tail in
    let put : files_of c.put_file.new.files ≡ with_file name (Some (left_file c.args.files.now tails name c.in-Some.file.now)) (files_of c.loop-name.left) =
    c.in_ok-put_file.ensures.ok ∙ (λ i. with_file (c.as_str-name.ensures.value i) (Some (file i)) (files_of c.loop-name.left)) in
    leaving_goes_on c.args.files.now tails c.in-Some.name.now c.in-Some.file.now c.next.new.self c.loop-name.left c.put_file.new.files put
    (subst (λ (rest : Entries). Leaving c.args.files.now tails rest c.loop-name.left) c.in-Some.ensures.steps c.loop-name.invariant)
