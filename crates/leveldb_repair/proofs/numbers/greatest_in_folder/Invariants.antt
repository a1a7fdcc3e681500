use Rattle.leveldb_repair.proofs.ManifestNumbersLemmas.{RaisedSoFar}
use Rattle.leveldb_repair.proofs.numbers.greatest_in_folder.Given as goal

-- the number is raised to those of the first files
abbrev pub invariant-loop-file : goal.invariant-loop-file
invariant-loop-file g l = RaisedSoFar g.E.Env l.fn.store l.files l.initial.greatest l.fn.env l.file-index l.greatest l.env
