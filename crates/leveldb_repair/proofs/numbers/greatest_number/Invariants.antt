use Rattle.leveldb_repair.proofs.NumbersLemmas.{IsGreatestOf}
use Rattle.leveldb_repair.proofs.numbers.greatest_number.Given as goal

abbrev pub invariant-loop-file : goal.invariant-loop-file
invariant-loop-file l = IsGreatestOf l.files l.file-index l.greatest
