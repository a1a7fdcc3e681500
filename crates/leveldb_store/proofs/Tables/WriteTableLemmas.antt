-- A table that is written into a file which was created for it: the ends of the call.
use Rattle.std.specs.Prelude.{IfErr, IfOk, IsTrue}
use Rattle.std.proofs.Common.{◌≡◌, ◌⊎◌, ◌∙◌, inl, inr, List, ℕ, [], Result, Ok, Err, subst}
use Rattle.leveldb_base.specs.Error.{IsOutOfMemory}
use Rattle.leveldb_base.specs.Types.{Pair}
use Rattle.leveldb_base.specs.declared.cmp.Cmp.{Ghosts as CmpGhosts}
use Rattle.leveldb_base.specs.declared.error.Status.{Status}
use Rattle.leveldb_base.specs.declared.types.FileMetaData.{FileMetaData}
use Rattle.leveldb_env.specs.Compressor.{Codings}
use Rattle.leveldb_env.specs.Env.{BeforeOrAfter, ChangesFiles, HasCause, SameLocks, emptied, kept_file}
use Rattle.leveldb_env.specs.EnvFile.{Opened, opened}
use Rattle.leveldb_env.specs.declared.env.Env.{Ghosts as EnvGhosts}
use Rattle.leveldb_env.specs.declared.filter.FilterPolicy.{Ghosts as FilterGhosts}
use Rattle.leveldb_iter.specs.declared.walk.Walk.{Ghosts as WalkGhosts}
use Rattle.leveldb_table.specs.TableBuilder.{IsBegun, TableBuilt, last_of}
use Rattle.leveldb_store.specs.Tables.BuildTable.{ReadsNoFile, StopsAtPair, StopsBuilding, WalkFails, puts_all}
use Rattle.leveldb_store.specs.Tables.TableFile.{AddsAllToFile, ChangesOneFile, FailsToWrite, FinishesFile, IsFinishFault, IsMetadataOf, IsThere, StopsWriting, WritesTable}
use Rattle.leveldb_store.proofs.Tables.BuildTableLemmas.{stops_at_end, table_written}
use Rattle.leveldb_store.proofs.Tables.TableFileLemmas.{all_written, changes-trans, changes_named, fails_later, longer_changes, longer_there, opened_is, opening_changes, sync_changes}

module _ {E F T W C FP : Type 0} (walk : WalkGhosts W E T) (reads : ReadsNoFile walk)
    (order : CmpGhosts C) (filters : FilterGhosts FP) (codings : Codings) (env : EnvGhosts E F)
    {path : List ℕ} {from mid : E} (tables : T) (it : W) {file : F} (core : TableBuilt C FP)
    {X : Type 0} {x : X}
    (opening : ChangesFiles {T = X} env.models_disk (emptied path) (BeforeOrAfter (emptied path))
    (env.observed from) (env.observed mid) (Ok x))
    (locks : SameLocks env.models_disk (env.observed from) (env.observed mid))
    (cause : HasCause {T = X} IsOutOfMemory (env.failures from) (env.failures mid) (Ok x))
    (named : IsTrue env.models_disk → env.name_of file ≡ path) where
  -- why the table isn't written
  abbrev Why : List Pair → Status → Type 0
  Why pairs why = StopsBuilding order filters codings core pairs why
      ⊎ WalkFails walk (from, tables) it why

  abbrev Fails : List Pair → E → Status → Type 0
  Fails pairs to status = ChangesOneFile env path from to
      × FailsToWrite {T = FileMetaData} (Why pairs) (env.failures from) (env.failures to) (Err status)

  begins : ChangesOneFile env path from mid
  begins = opening_changes env opening locks cause.later

  there : IsThere env (opened mid file)
  there modelled = (kept_file [], opened_is env opening named modelled)

  pub failed_adding : (pairs : List Pair) (status : Status) {to : E}
      → (IsThere env (opened mid file) → StopsWriting env
      (λ why. StopsAtPair order filters codings puts_all core [] pairs why
      ⊎ WalkFails walk (mid, tables) it why) (opened mid file) status to)
      → Fails pairs to status
  failed_adding pairs status stops =
      let stopped = stops there in (
        changes-trans env begins (changes_named env named stopped.changes),
        fails_later cause.ok so stopped.cause,
      )
    where
      so : StopsAtPair order filters codings puts_all core [] pairs status
          ⊎ WalkFails walk (mid, tables) it status → Why pairs status
      so (inl at_pair) = inl (inl at_pair)
      so (inr failed) = inr (failed.0, reads.excuses from mid tables it failed.0 status failed.1)

  module _ {pairs : List Pair} {new : TableBuilt C FP} {at : Opened E F}
      (adds : AddsAllToFile order filters codings env core (opened mid file) pairs new at) where
    added : ChangesOneFile env path from at.env
    added = changes-trans env begins (changes_named env named (longer_changes env adds.longer))

    still_named : IsTrue env.models_disk → env.name_of at.file ≡ path
    still_named modelled = adds.longer.file modelled ∙ named modelled

    failed_finishing : (status : Status) {to : E}
        → (IsThere env at
        → StopsWriting env (IsFinishFault order filters codings new) at status to)
        → Fails pairs to status
    failed_finishing status stops =
        let stopped = stops (longer_there env adds.longer there) in (
          changes-trans env added (changes_named env still_named stopped.changes),
          fails_later (adds.longer.counted ∙ cause.ok)
              (λ own. inl (stops_at_end codings env pairs status adds own)) stopped.cause,
        )

    finished_changes : {size : ℕ} {to : E}
        → FinishesFile order filters codings env new at size to → ChangesOneFile env path from to
    finished_changes finishes =
        let at_end : IsTrue env.models_disk → env.name_of finishes.mid.file ≡ path
        = λ modelled. finishes.longer.file modelled ∙ still_named modelled in
        changes-trans env added (changes-trans env
        (changes_named env still_named (longer_changes env finishes.longer))
        (changes_named env at_end (sync_changes env finishes.synced)))

    -- whether it was finished or not
    pub table_ended : (result : Result FileMetaData Status) {to : E}
        → IfOk result (λ made. FinishesFile order filters codings env new at made.size to)
        → IfErr result (λ status. IsThere env at
        → StopsWriting env (IsFinishFault order filters codings new) at status to)
        → ChangesOneFile env path from to
        × FailsToWrite (Why pairs) (env.failures from) (env.failures to) result
    table_ended (Ok made) finishes none = (
      finished_changes finishes,
      all_written (finishes.synced.cause.ok ∙ finishes.longer.counted ∙ adds.longer.counted
          ∙ cause.ok),
    )
    table_ended (Err status) none stops = failed_finishing status stops

    -- the table is there
    pub table_made : (number : ℕ) (smallest : List ℕ) (given : ℕ) (first : List ℕ) → given ≡ number
        → first ≡ smallest → (result : Result FileMetaData Status) (to : E)
        → IsBegun codings order filters core [] []
        → IfOk result (λ made. FinishesFile order filters codings env new at made.size to)
        → IfOk result (IsMetadataOf given first (last_of new))
        → IfOk result (λ made. WritesTable order filters codings env core path number smallest
        pairs made from to)
    table_made number smallest given first number_is first_is (Ok made) to begun finishes known =
        table_written codings env made named (opened_is env opening named) begun adds finishes
        (subst (λ n. IsMetadataOf n smallest (last_of new) made) number_is
        (subst (λ k. IsMetadataOf given k (last_of new) made) first_is known)) cause.ok
    table_made number smallest given first number_is first_is (Err status) to begun none known = tt
