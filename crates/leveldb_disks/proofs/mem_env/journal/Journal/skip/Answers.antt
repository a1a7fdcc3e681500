use Rattle.std.proofs.Common.{refl}
use Rattle.leveldb_env.specs.Env.{FilesUnchanged}
use Rattle.leveldb_env.specs.MemEnv.{files_of}
use Rattle.leveldb_disks.proofs.JournalLemmas.{skipped_within, skipped_replayed, skipped_passes}
use Rattle.leveldb_disks.proofs.mem_env.journal.Journal.skip.Goals as goal

pub invariant_of-self : goal.invariant_of-self
invariant_of-self c =
    let j = c.args.self.now in
    record {
      few = c.requires;
      numbered = skipped_within (files_of j.first) (files_of j.files) j.calls.items j.count j.numbered j.replayed j.calls.items refl;
      replayed = skipped_replayed (files_of j.first) (files_of j.files) j.calls.items j.count j.numbered j.replayed j.calls.items refl _ refl;
    }

pub returns-clause-time : goal.returns-clause-time
returns-clause-time c =
    let j = c.args.self.now in
    λ was now. skipped_passes (files_of j.first) (files_of j.files) j.calls.items j.count j.numbered j.replayed j.calls.items refl (FilesUnchanged (files_of j.files)) refl _ _
