use Rattle.std.proofs.Common.{◌≡◌, ◌++◌, List, map, string_bytes, sym, ◌∙◌, ap, subst, append-nil}
use Rattle.leveldb_env.specs.Env.{ListsChildren}
use Rattle.leveldb_env.specs.MemEnv.{files_of}
use Rattle.leveldb_env.proofs.MemEnvLemmas.{children_in, ListsChildren-children_in, names_of, are_names}
use Rattle.leveldb_env.proofs.mem_env.files.list_children.Goals as goal

pub returns : goal.returns
returns c =
    let files = c.args.files.now in
    let folder = c.args.folder.now in
    let found = map string_bytes c.loop-name.children.items in
    let all : found ≡ children_in folder (names_of files) =
    sym (append-nil found) ∙ ap (λ (rest : List _). found ++ children_in folder (map string_bytes rest)) (sym c.in-None.ensures.steps.0) ∙ c.loop-name.invariant in
    subst (ListsChildren (files_of files) folder) (sym all) (ListsChildren-children_in (files_of files) folder (names_of files) (are_names files c.keys-name-items.ensures.ordered))
