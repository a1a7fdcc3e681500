use Rattle.std.proofs.Common.{refl, rules}
use Rattle.std.proofs.lemmas.Result.{MatchResult-weaker}
use Rattle.leveldb_env.proofs.EnvFileLemmas.{ends_as}
use Rattle.leveldb_env.specs.contracts.compressor.CompressorListCompressors.TheImpl.{ghosts as compressors}
use Rattle.leveldb_store.proofs.Tables.GrowsLemmas.{finish_left}
use Rattle.leveldb_store.proofs.Tables.TableFileLemmas.{finished_borrowed, not_finished_borrowed}
use Rattle.leveldb_store.proofs.table_file.finish_table.Goals as goal

pub returns-clause-ok : goal.returns-clause-ok
returns-clause-ok g c = MatchResult-weaker c.finish.result c.finish.ensures.ok
    (λ size finished. ends_as {file = c.finish.new.sink.file.now} (finished_borrowed g.C.Cmp g.FP.FilterPolicy ((compressors g.dyn-1).codings c.args.compressors.now) g.E.Env finished) (search rules) (λ same. refl))
    (λ status none. tt)

pub returns-clause-err : goal.returns-clause-err
returns-clause-err g c = MatchResult-weaker c.finish.result c.finish.ensures.cause (λ size none. tt)
    (λ status failed. ends_as {file = c.finish.new.sink.file.now} (not_finished_borrowed g.C.Cmp g.FP.FilterPolicy ((compressors g.dyn-1).codings c.args.compressors.now) g.E.Env c.args.core failed) (search rules) (λ same. refl))

pub returns-clause-left : goal.returns-clause-left
returns-clause-left g c = MatchResult-weaker c.finish.result c.finish.ensures.cause (λ size none. tt)
    (λ status failed. ends_as {file = c.finish.new.sink.file.now} (finish_left g.E.Env g.C.Cmp g.FP.FilterPolicy ((compressors g.dyn-1).codings c.args.compressors.now) c.args.core c.finish.ensures.rest failed) (search rules) (λ same. refl))
