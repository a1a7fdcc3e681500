use Rattle.std.proofs.Common.{◌∙◌, sym, ap, lit<, List}
use Rattle.leveldb_disks.specs.declared.mem_env.journal.Call.{Call}
use Rattle.leveldb_disks.specs.Journal.{files_after_calls, are_within}
use Rattle.leveldb_env.specs.MemEnv.{files_of}
use Rattle.leveldb_disks.proofs.mem_env.journal.Journal.begin.Goals as goal

pub invariant_of-result : goal.invariant_of-result
invariant_of-result c = record {
  few = lit< tt;
  numbered = ap (are_within 0) c.new.ensures.items;
  replayed = sym c.in_ok-copy_files.ensures ∙ ap (λ (calls : List Call). files_after_calls (files_of c.in_ok-copy_files.field-0) calls 0) (sym c.new.ensures.items);
}
