use Rattle.std.proofs.Common.{◌≡◌, ◌∙◌, ap, fold, map, rules, sym}
use Rattle.std.proofs.lemmas.Map.Iter.{iter_end}
use Rattle.std.specs.Map.Iter.{deref}
use Rattle.leveldb_version.proofs.Versions.ChangeLemmas.{mapped_push}
use Rattle.leveldb_version.specs.Versions.Change.{version_files_without}
use Rattle.leveldb_version.proofs.version.change.remove_files.Goals as goal

pub loop-file-preserved : goal.loop-file-preserved
loop-file-preserved c = record {
  files = c.remove_file.ensures.files ∙ (ap (λ files. version_files_without files c.in-Some.file.now) c.loop-file.invariant.files
      ∙ sym (mapped_push version_files_without deref c.args.files.now.items c.loop-file.yielded c.in-Some.file));
  fit = λ old. c.remove_file.ensures.fit (c.loop-file.invariant.fit old);
}

pub returns : goal.returns
returns c =
    let all : map deref c.loop-file.yielded ≡ c.args.deleted.now.keys = search (rules, iter_end) in
    record {
      files = c.loop-file.invariant.files ∙ ap (fold version_files_without c.args.files.now.items) all;
      fit = c.loop-file.invariant.fit;
    }
