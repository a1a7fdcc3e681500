-- Batches that are appended to the last log, and its sync, from what the files hold to what they
-- hold then.
use Rattle.std.proofs.Common.{◌≡◌, ◌≤◌, ◌+◌, ⊎_elim, ℕ, List, length, subst, arith, None}
use Rattle.std.specs.declared.cmp.Ordering.{Ordering}
use Rattle.leveldb_base.specs.History.{History, Item}
use Rattle.leveldb_base.specs.KeyTypes.{greatest_sequence}
use Rattle.leveldb_base.specs.Types.{Pair}
use Rattle.leveldb_env.specs.Env.{Files, synced}
use Rattle.leveldb_mem.specs.WriteBatch.{BatchOf}
use Rattle.leveldb_files.proofs.Steps.BatchAppendLemmas.{append_holds, whole_holds}
use Rattle.leveldb_files.proofs.Histories.HonestCrashLemmas.{all_cut, all_cut_left, all_cut_honest}
use Rattle.leveldb_files.proofs.Stores.ManifestLemmas.{managed_of}
use Rattle.leveldb_files.proofs.Steps.SyncLemmas.{sync_makes_durable}
use Rattle.leveldb_files.proofs.Steps.WritableLemmas.{append_stays_writable}
use Rattle.leveldb_files.specs.Stores.Contents.{Contents, Store}
use Rattle.leveldb_files.specs.Histories.Holds.{Carries, Holds, IsSafe, MatchesHistory}
use Rattle.leveldb_files.specs.Stores.Paths.{log_path}
use Rattle.leveldb_files.specs.Stores.Store.{IsManaged, IsStore}
use Rattle.leveldb_files.specs.Steps.StoreLaws.{BatchAppends}
use Rattle.leveldb_files.specs.Steps.StoreSteps.{IsWritable}
use Rattle.leveldb_files.specs.Edits.Edit.{Edit}

module _ (store : List ℕ) (cmp : List ℕ → List ℕ → Ordering)
    (IsTableOf : List ℕ → List Pair → Type 0) (allowed : Store → Type 0) where
  abbrev reads : Files → Contents → Type 0
  reads = IsStore store cmp IsTableOf

  module _ (files : Files) (edits : List Edit) (w : IsWritable store files edits)
      (history : History) (last durable : ℕ)
      (holds : Holds store reads allowed files history last durable None) where
    no_more : last + 0 ≡ last
    no_more = omega arith

    abbrev held : Carries store reads allowed (last + 0) history files
    held = ⊎_elim
        (λ (c : Carries store reads allowed (last + 0) history files). c)
        (λ (c : Carries store reads allowed (last + 0) history files). c)
        holds.now

    abbrev contents : Contents
    contents = held.contents

    abbrev managed : IsManaged store cmp IsTableOf files contents
    managed = record {
      edits = edits;
      has_edits = w.has_edits;
      managed = managed_of store cmp IsTableOf files edits contents w.has_edits held.read;
    }

    matches : MatchesHistory allowed last contents history
    matches = subst (λ b. MatchesHistory allowed b contents history) no_more held.matches

    safe : IsSafe store reads allowed last durable history files
    safe = subst (λ b. IsSafe store reads allowed b durable history files) no_more holds.crash

    durable_there : durable ≤ length history
    durable_there =
        let c = safe (all_cut files) (all_cut_left files) (all_cut_honest store files) in
        omega (arith, c.prefix.enough, c.prefix.there)

    pub batches_append : (items : List Item) (text : List ℕ) → BatchOf text (last + 1) items
        → last + 1 ≤ greatest_sequence → last + length items ≤ greatest_sequence
        → BatchAppends store cmp IsTableOf allowed files edits w history last durable items text
    batches_append items text is_batch first_fits all_fit = record {
      meanwhile = λ now passes. append_holds store cmp IsTableOf files contents managed w.current
          w.manifest w.tables w.log w.bytes allowed last durable history matches safe
          durable_there items text is_batch first_fits all_fit now passes;
      after = whole_holds store cmp IsTableOf files contents managed w.current w.manifest w.tables
          w.log w.bytes allowed last durable history matches safe durable_there items text is_batch
          first_fits all_fit;
      writable = append_stays_writable store cmp IsTableOf files edits w
          (last + 1) items text is_batch;
    }

    pub log_sync_holds : Holds store reads allowed (synced (log_path store w.log.number) files)
        history last (length history) None
    log_sync_holds = sync_makes_durable store cmp IsTableOf files contents managed w.current
        w.manifest w.tables w.log.number w.log.fits w.log.last allowed last history matches
