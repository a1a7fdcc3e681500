use Rattle.rusty_leveldb.proofs.Repairs.RepairLawsLemmas.{another_finds_the_same}
use Rattle.rusty_leveldb.proofs.promises.another_repair_finds_the_same.Goals as goal

pub returns : goal.returns
returns g c = another_finds_the_same g.E.Env _
