use Rattle.std.proofs.Common.{◌∙◌, not, string_bytes, rules}
use Rattle.std.proofs.lemmas.Map.Made.{filter_same_pairs}
use Rattle.leveldb_env.specs.Env.{is_under}
use Rattle.leveldb_env.specs.MemEnv.{files_of}
use Rattle.leveldb_env.proofs.MemEnvLemmas.{files_filtered, without_under}
use Rattle.leveldb_env.proofs.mem_env.files.remove_folder.Goals as goal

pub returns : goal.returns
returns c =
    let folder = c.args.folder.now in
    let kept = filter_same_pairs _ (λ (e : _). not (is_under folder (string_bytes e.0))) _ (λ k v b w g t. search rules) _ _ c.retain.ensures.filtered in
    files_filtered (λ name. not (is_under folder name)) c.args.files.now c.retain.new.self kept
    ∙ without_under folder (files_of c.args.files.now)
