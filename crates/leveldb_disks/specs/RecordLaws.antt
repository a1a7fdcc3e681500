-- What the recording environment reports of the present moment. Its impl of `Env` cites these as its
-- laws, where the checker takes no term of proofs/; the rest is what they stand on.
use Rattle.std.specs.Prelude.{◌≡◌, ◌<◌, ◌^◌, true, IsTrue, ℕ, ◌/◌, ◌%◌, ◌*◌}
use Rattle.std.proofs.Common.{inl, inr, arith, sym, ap, ◌∙◌}
use Rattle.leveldb_env.specs.Env.{Files}
use Rattle.leveldb_env.specs.MemEnv.{files_of}
use Rattle.leveldb_disks.specs.declared.mem_env.journal.Journal.{Journal}
use Rattle.leveldb_disks.specs.declared.mem_env.record.RecordEnv.{RecordEnv}
use Rattle.leveldb_disks.specs.Journal.{files_after_calls}
use Rattle.leveldb_disks.specs.Record.{files_were, record_observed}

halved : (n : ℕ) → (2 * n) / 2 ≡ n
halved n = omega arith

even : (n : ℕ) → (2 * n) % 2 ≡ 1 → ⊥
even n odd = absurd (omega arith)

replayed_now : (journal : Journal)
    → files_of journal.files ≡ files_after_calls (files_of journal.first) journal.calls.items
    ((2 * journal.count) / 2)
replayed_now journal = journal.replayed
    ∙ ap (files_after_calls (files_of journal.first) journal.calls.items)
    (sym (halved journal.count))

only_last : (journal : Journal) (files : Files) → files_were journal (2 * journal.count) files
    → files ≡ files_of journal.files
only_last journal files (inl is) = is ∙ sym (replayed_now journal)
only_last journal files (inr inside) = absurd (even journal.count inside.0)

pub record_only_now : (env : RecordEnv) (files : Files)
    → (record_observed env).at_moment (record_observed env).moment files
    → files ≡ (record_observed env).disk.files
record_only_now env files were = only_last env.journal files were

pub record_counts_now : (env : RecordEnv) → IsTrue true
    → (record_observed env).at_moment (record_observed env).moment (record_observed env).disk.files
record_counts_now env modelled = inl (replayed_now env.journal)

pub record_failures_below : (env : RecordEnv) → env.failures < 2 ^ 64
record_failures_below env = env.counted
