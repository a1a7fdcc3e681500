-- A log that ends between two records loses none.
use Rattle.std.proofs.Common.{◌≡◌, ◌≢◌, ◌∙◌, ℕ, ◌≤◌, false, true, List, [], ◌∷◌, ◌++◌, ap, arith, length, refl, subst, sym, take}
use Rattle.std.proofs.lemmas.List.{take_all}
use Rattle.std.specs.Prelude.{IfOk, IsSomeAnd, IsTrue, Ok, Option, None, Result, Some}
use Rattle.leveldb_base.specs.declared.error.Status.{Status}
use Rattle.leveldb_env.proofs.EnvLemmas.{Run-trans}
use Rattle.leveldb_env.specs.Env.{File, Files, FilesUnchanged, HasCause, Run, SameLocks, bytes_of, in_folder}
use Rattle.leveldb_env.specs.declared.env.Env.{Ghosts}
use Rattle.leveldb_mem.specs.Log.{AreFragments, IsLogFile, clean, log_block_size}
use Rattle.leveldb_mem.specs.WriteBatch.{Batch}
use Rattle.leveldb_table.specs.TableBlock.{KeepsDisk}
use Rattle.leveldb_files.specs.Stores.Paths.{log_path}
use Rattle.leveldb_version_set.specs.Sets.VersionSetValue.{VersionSetValue}
use Rattle.leveldb_store.specs.Logs.Damage.{AreWholeUpTo, IsDamagedFile, LosesRecords}
use Rattle.leveldb_store.specs.Logs.LogReplay.{EndsCleanly, FindsBatch, HasReadBatches, IsLogToRead, LogReplayState, ReadsBatch}
use Rattle.leveldb_store.specs.declared.log_replay.NextBatch.{NextBatch}
use Rattle.leveldb_store.specs.declared.log_replay.NextBatch.TheVariants.{CleanEnd, More}
use Rattle.leveldb_store.proofs.Logs.LogReplayLemmas.{has_read_same}
use Rattle.leveldb_store.proofs.Logs.LogDamageLemmas.{lost_later, no_end_past, none_begun}
use Rattle.leveldb_store.proofs.Logs.PlacedFragmentsLemmas.{log_placed}

-- it is whole fragments in their places
pub clean_loses_none : (records : List (List ℕ)) (bytes : List ℕ) → IsLogFile bytes records clean
    → LosesRecords bytes → ⊥
clean_loses_none records bytes log loses =
    let all = log_placed 0 (omega arith) records bytes log in
    let whole : AreWholeUpTo bytes (length bytes) false false = record {
      fragments = all.fragments;
      whole = subst (AreFragments true log_block_size all.fragments 0)
          (sym (take_all (length bytes) bytes (omega arith))) all.whole;
      parts = [];
      placed = all.placed;
      begun = none_begun;
    } in
    let later = lost_later bytes (length bytes) false false (omega arith) whole loses in
    no_end_past bytes later.0 later.1 later.2

-- ---- a log that is read to its end

-- the log of a file that is there loses none
pub clean_undamaged : (set : VersionSetValue) (files : Files) (name path : List ℕ)
    → path ≡ in_folder set.store name → EndsCleanly (files path) → IsDamagedFile set files name → ⊥
clean_undamaged set files name path is (log, clean_end, (file, there, is_log)) it =
    by (files (in_folder set.store name)) (sym (ap files is) ∙ there) it.loses
  where
    by : (at : Option File) → at ≡ Some file → IsSomeAnd at (λ found. LosesRecords (bytes_of found))
        → ⊥
    by None none loses = loses
    by (Some found) same loses =
        let here : found ≡ file = cc in
        clean_loses_none is_log.records (bytes_of file)
        (subst (IsLogFile (bytes_of file) is_log.records) clean_end is_log.read)
        (subst (λ (f : File). LosesRecords (bytes_of f)) here loses)

module _ {E F : Type 0} (env : Ghosts E F) (path : List ℕ) (from : E) where
  -- batches were read of the log of this path, and nothing else was done
  pub record IsLooking (read : LogReplayState) (at : E) : Type 0 where
    pub keeps : KeepsDisk env from at
    pub later : env.failures from ≤ env.failures at
    pub path_is : read.path ≡ path
    pub batches : List Batch
    pub has_read : HasReadBatches env.models_disk (env.observed at).disk.files read batches

  module _ {read : LogReplayState} {at : E} (so_far : IsLooking read at)
      {result : Result NextBatch Status} {batch : Batch} {next : LogReplayState} {to : E}
      (reads : ReadsBatch env read at result batch next to) where
    -- nothing else is done
    pub looked_keeps : KeepsDisk env from to
    looked_keeps = record {
      disk = λ modelled. Run-trans (so_far.keeps.disk modelled)
          (λ files same. same ∙ (so_far.keeps.disk modelled).has) (reads.run modelled);
      locks = λ modelled. reads.locks modelled ∙ so_far.keeps.locks modelled;
    }

    pub looked_later : env.failures from ≤ env.failures to
    looked_later =
        let first = so_far.later in
        let second = (reads.cause so_far.batches so_far.has_read).later in
        omega (arith, first, second)

    -- one batch more
    pub looking_more : result ≡ Ok More → IsLooking next to
    looking_more more = record {
      keeps = looked_keeps;
      later = looked_later;
      path_is = ap (λ (r : LogReplayState). r.path) reads.same ∙ so_far.path_is;
      batches = so_far.batches ++ batch ∷ [];
      has_read = has_read_same env.models_disk (env.observed at).disk.files
          (env.observed to).disk.files next (so_far.batches ++ batch ∷ [])
          (λ modelled. ap (λ (files : Files). files next.path) (reads.run modelled).has)
          (subst (λ r. IfOk r (λ found. FindsBatch env.models_disk (env.observed at).disk.files read
          so_far.batches found batch next)) more (reads.finds so_far.batches so_far.has_read));
    }

    -- the end between two records
    pub looked_clean : result ≡ Ok CleanEnd → IsTrue env.models_disk
        → EndsCleanly ((env.observed from).disk.files path)
    looked_clean ended modelled =
        let is = subst (λ r. IfOk r (λ found. FindsBatch env.models_disk
        (env.observed at).disk.files read so_far.batches found batch next)) ended
        (reads.finds so_far.batches so_far.has_read) modelled in
        subst EndsCleanly (ap (λ (files : Files). files read.path)
        (so_far.keeps.disk modelled).has ∙ ap (env.observed from).disk.files so_far.path_is) (
          record {
            number = read.number;
            batches = so_far.batches;
            end = clean;
            size = read.size;
          },
          refl,
          is,
        )
