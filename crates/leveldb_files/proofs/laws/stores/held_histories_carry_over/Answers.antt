use Rattle.leveldb_files.proofs.Histories.HoldsLemmas.{crashes_hold, narrower_holds, wider_holds}
use Rattle.leveldb_files.proofs.laws.stores.held_histories_carry_over.Goals as goal

pub returns : goal.returns
returns g c = record {
  crash = λ store. crashes_hold store g.R.Reading.reads g.R.Reading.allowed;
  wider = λ store. wider_holds store g.R.Reading.reads g.R.Reading.allowed g.R.Reading.others;
  narrower = λ store. narrower_holds store g.R.Reading.reads g.R.Reading.allowed g.R.Reading.others;
}
