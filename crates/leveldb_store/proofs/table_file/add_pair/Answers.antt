use Rattle.std.proofs.Common.{refl, rules}
use Rattle.std.proofs.lemmas.Result.{MatchResult-weaker}
use Rattle.leveldb_env.proofs.EnvFileLemmas.{ends_as}
use Rattle.leveldb_env.specs.contracts.compressor.CompressorListCompressors.TheImpl.{ghosts as compressors}
use Rattle.leveldb_store.proofs.Tables.GrowsLemmas.{add_left}
use Rattle.leveldb_store.proofs.Tables.TableFileLemmas.{added_borrowed, not_added_borrowed}
use Rattle.leveldb_store.proofs.table_file.add_pair.Goals as goal

pub returns-clause-ok : goal.returns-clause-ok
returns-clause-ok g c = MatchResult-weaker c.add.result c.add.ensures.ok
    (λ done takes. ends_as (added_borrowed g.C.Cmp g.FP.FilterPolicy ((compressors g.dyn-1).codings c.args.compressors.now) g.E.Env takes) (search rules) (search rules))
    (λ status none. tt)

pub returns-clause-err : goal.returns-clause-err
returns-clause-err g c = MatchResult-weaker c.add.result c.add.ensures.err (λ done none. tt)
    (λ status none. ends_as {file = c.add.new.sink.file.now} (not_added_borrowed g.C.Cmp g.FP.FilterPolicy ((compressors g.dyn-1).codings c.args.compressors.now) g.E.Env none) (search rules) (λ same. refl))

pub returns-clause-left : goal.returns-clause-left
returns-clause-left g c = MatchResult-weaker c.add.result c.add.ensures.err (λ done none. tt)
    (λ status none. ends_as {file = c.add.new.sink.file.now} (add_left g.E.Env g.C.Cmp g.FP.FilterPolicy ((compressors g.dyn-1).codings c.args.compressors.now) c.args.core.now (c.args.key.now, c.args.value.now) none.cause) (search rules) (λ same. refl))
