use Rattle.std.proofs.Common.{subst}
use Rattle.std.specs.Prelude.{IfSome}
use Rattle.leveldb_store.specs.Openings.Listing.{AreFilesIn}
use Rattle.leveldb_store.proofs.opening.recovered_set.files_in.Goals as goal

pub returns-in-Some-clause-lists : goal.returns-in-Some-clause-lists
returns-in-Some-clause-lists g c =
    subst (λ listed. IfSome listed (λ files. AreFilesIn g.E.Env c.args.store.now c.args.env.now files.items)) c.in-Some.is c.requires
