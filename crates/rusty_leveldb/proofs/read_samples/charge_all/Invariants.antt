use Rattle.std.proofs.Common.{◌≡◌, take}
use Rattle.rusty_leveldb.specs.Walks.ReadSamples.{after_charges}
use Rattle.rusty_leveldb.proofs.read_samples.charge_all.Given as goal

-- the files before this one are charged
abbrev pub invariant-loop-file : goal.invariant-loop-file
invariant-loop-file g l = l.store ≡ after_charges (take l.file-index l.files) l.fn.store
