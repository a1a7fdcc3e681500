use Rattle.std.proofs.Common.{◌≡◌, ◌∙◌, true, false, is_some, Some, None, IsSome, ap, refl, subst, sym, rules}
use Rattle.std.specs.Str.{bytes_eq}
use Rattle.leveldb_env.specs.Env.{Files, with_file, created, deleted}
use Rattle.leveldb_env.specs.MemEnv.{files_of}
use Rattle.leveldb_env.proofs.MemEnvLemmas.{files_updated, source_stays, target_stands, renamed_by_steps}
use Rattle.leveldb_env.proofs.mem_env.files.rename_file.Goals as goal
use Rattle.leveldb_env.proofs.mem_env.files.rename_file.Goals.{After-remove}

-- the names differ
apart : (c : After-remove) → bytes_eq c.args.from.now c.args.to.now ≡ false
apart c = search rules

-- the old name was there
there : (c : After-remove) → is_some (files_of c.args.files.now c.args.from.now) ≡ true
there c = search rules

-- what is left without the old name
taken : (c : After-remove) → files_of c.remove.new.self ≡ deleted c.args.from.now (created c.args.to.now (files_of c.args.files.now))
taken c =
    files_updated c.args.from.now c.create_file.new.files c.remove.new.self None c.remove.ensures.updates
    ∙ ap (deleted c.args.from.now) c.in_ok-create_file.ensures.ok

-- what was removed is the file of the old name
moved : (c : After-remove) → c.remove.result ≡ files_of c.args.files.now c.args.from.now
moved c =
    c.remove.ensures.value
    ∙ ap (λ (files : Files). files c.args.from.now) c.in_ok-create_file.ensures.ok
    ∙ source_stays (files_of c.args.files.now) c.args.from.now c.args.to.now _ (apart c)

pub replace_file-requires : goal.replace_file-requires
replace_file-requires c =
    let there = target_stands (files_of c.args.files.now) c.args.from.now c.args.to.now (apart (goal.at.replace_file-requires c).After-remove) in
    subst (λ (files : Files). IsSome (files c.args.to.now)) (sym (taken (goal.at.replace_file-requires c).After-remove)) there

pub returns-in-Some-clause-ok : goal.returns-in-Some-clause-ok
returns-in-Some-clause-ok c =
    let after = (goal.at.returns-in-Some-clause-ok c).After-remove in
    c.replace_file.ensures
    ∙ ap (with_file c.args.to.now (Some c.in-Some.moved)) (taken after)
    ∙ renamed_by_steps (files_of c.args.files.now) c.args.from.now c.args.to.now (Some c.in-Some.moved) refl (sym c.in-Some.is ∙ moved after)

pub returns-in_default-clause-ok : goal.returns-in_default-clause-ok
returns-in_default-clause-ok c =
    let after = (goal.at.returns-in_default-clause-ok c).After-remove in
    absurd (cc (ap is_some (sym c.in_default.is ∙ moved after) ∙ there after))
