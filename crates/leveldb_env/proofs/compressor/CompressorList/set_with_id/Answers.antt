use Rattle.std.proofs.Common.{rules}
use Rattle.std.proofs.lemmas.Result.{on_ok_weaker}
use Rattle.leveldb_env.proofs.compressor.CompressorList.set_with_id.Goals as goal

pub returns : goal.returns
returns g c = record {
  ok = rw c.in-Some.is (on_ok_weaker c.put.result (λ changes. changes _) c.put.ensures.ok);
  err = search rules;
  memory = search rules;
}
