-- Repairs that are stopped before they begin, and those that come after calls that change no file.
use Rattle.std.specs.Prelude.{IsTrue, Result}
use Rattle.std.proofs.Common.{◌≡◌, ◌⊎◌, ◌∙◌, inl, inr, ⊎_elim, ℕ, List, Option, None, Some, Ok, Err, refl, sym, ap, subst, arith}
use Rattle.leveldb_base.specs.declared.cmp.Cmp.{Ghosts as CmpGhosts}
use Rattle.leveldb_base.specs.declared.error.Status.{Status}
use Rattle.leveldb_env.proofs.EnvLemmas.{Run-mono, Run-trans, begun}
use Rattle.leveldb_env.specs.Compressor.{Coding, Decodes, decoded_under}
use Rattle.leveldb_env.specs.Env.{AppendedAreBytes, Files, FilesUnchanged, Run}
use Rattle.leveldb_env.specs.declared.env.Env.{Ghosts as EnvGhosts}
use Rattle.leveldb_env.specs.declared.filter.FilterPolicy.{Ghosts as FilterGhosts}
use Rattle.leveldb_table.specs.TableLaws.{DecodesMore}
use Rattle.leveldb_files.specs.Stores.Format.{Agrees, Format, Meaning}
use Rattle.leveldb_version_set.specs.Repairs.Found.{HasNoTableNorLog, IsAnyTable}
use Rattle.leveldb_version_set.specs.Repairs.Repairing.{IsAmidRepair}
use Rattle.leveldb_store.specs.Tables.BuildTable.{TableChoices}
use Rattle.leveldb_store.specs.Compactions.Merging.{LeavesFiles}
use Rattle.leveldb_store.specs.Openings.OpensStore.{IsBareFolder}
use Rattle.leveldb_repair.proofs.RepairFailsLemmas.{fails_earlier, fails_weaker}
use Rattle.leveldb_repair.specs.FoundWalkTable.{FailsBetweenOr, KeepsFound}
use Rattle.leveldb_repair.specs.RepairStore.{ArePairsFound, AreTooManyFound, HasClash, HasLargeBatchInLog, HasTooFewNumbers, HasUndecodedTable, HasUnlikeDeletions, IsMomentOfRepair, IsOldOrPartlyRepaired, HoldsAllFound, RepairsStore, WhyNotEnded, WhyNotBegun}
use Rattle.leveldb_repair.specs.declared.found_walk.files.ReadFiles.{ReadFiles}

-- what the compressors of a format decode means the same
pub decodes_by : {format : Format} {meaning : Meaning} → Agrees format meaning
    → DecodesMore (Decodes format.codings) (Decodes meaning.codings)
decodes_by {format} {meaning} agrees id stored text decoded =
    by (format.codings id) refl decoded
  where
    by : (o : Option Coding) → format.codings id ≡ o → decoded_under o stored ≡ Some text
        → Decodes meaning.codings id stored text
    by None e found = absurd (let never : None ≡ Some text = found in cc)
    by (Some coding) e found =
        ap (λ (o : Option Coding). decoded_under o stored) (agrees.codings id coding e) ∙ found

-- where nothing was made yet
pub repairing_none : (store : List ℕ) {taken next : ℕ} {old now : Files}
    → IsAmidRepair store taken next old now → IsAmidRepair store taken next old old
repairing_none store r = record {
  taken_is = r.taken_is;
  others = λ path tables manifest temp current lock. refl;
  current = inl refl;
  lock = inl refl;
  begun = r.begun;
  fits = r.fits;
}

-- calls that change no file, one after another
pub leaves_then : {E F : Type 0} (env : EnvGhosts E F) {from mid to : E} → LeavesFiles env from mid
    → LeavesFiles env mid to → LeavesFiles env from to
leaves_then env first second = record {
  run = λ modelled. Run-trans (first.run modelled)
      (λ files same. same ∙ (first.run modelled).has) (second.run modelled);
  locks = λ modelled. second.locks modelled ∙ first.locks modelled;
  later = let one = first.later in let other = second.later in omega (arith, one, other);
}

-- no call changes none
pub leaves_none : {E F : Type 0} (env : EnvGhosts E F) (at : E) → LeavesFiles env at at
leaves_none env at = record {
  run = λ modelled. begun (env.observed at) refl;
  locks = λ modelled. refl;
  later = omega arith;
}

-- nor do moves of found walks
pub leaves_kept : {E F K : Type 0} (env : EnvGhosts E F) {first second : E × ReadFiles K}
    → KeepsFound env first second → LeavesFiles env first.0 second.0
leaves_kept env kept =
    record { run = kept.disk.disk; locks = kept.disk.locks; later = kept.later }

module _ {C FP : Type 0} {order : CmpGhosts C} {filters : FilterGhosts FP}
    (choices : TableChoices order filters) {E F : Type 0} (env : EnvGhosts E F) (store : List ℕ) where
  -- where the files are the same, so is why nothing is repaired
  pub why_before : (from at : E) (status : Status) → (IsTrue env.models_disk
      → (env.observed at).disk.files ≡ (env.observed from).disk.files)
      → WhyNotBegun env choices.format store at status
      → WhyNotBegun env choices.format store from status
  why_before from at status same (inl (code, bare)) =
      inl (code, λ m. subst (IsBareFolder store) (same m) (bare m))
  why_before from at status same (inr (inl (code, none))) =
      inr (inl (code, λ m. subst (HasNoTableNorLog store) (same m) (none m)))
  why_before from at status same (inr (inr (inl (code, clash)))) =
      inr (inr (inl (
        code,
        λ m. subst (λ (files : Files). (meaning : Meaning)
            → Agrees choices.format meaning
            → HasClash store files (IsAnyTable choices.format.order meaning)
            ⊎ HasUnlikeDeletions store files (IsAnyTable choices.format.order meaning))
            (same m) (clash m),
      )))
  why_before from at status same (inr (inr (inr (inl (code, large))))) =
      inr (inr (inr (inl (
        code,
        λ m. subst (λ (files : Files).
            HasLargeBatchInLog store files ⊎ HasTooFewNumbers store files) (same m) (large m),
      ))))
  why_before from at status same (inr (inr (inr (inr (code, undecoded))))) =
      inr (inr (inr (inr (
        code,
        λ m. subst (λ (files : Files).
            HasUndecodedTable store files choices.format status) (same m) (undecoded m),
      ))))

  -- calls that change no file failed: nothing is repaired
  pub not_repaired : {from to : E} {status : Status} → LeavesFiles env from to
      → FailsBetweenOr env (WhyNotBegun env choices.format store from status) from to status
      → RepairsStore choices env store from (Err status) to
  not_repaired {from} {to} {status} leaves cause = record {
    ok = tt;
    moments = λ modelled meaning agrees. Run-mono (λ files same. inl same) (leaves.run modelled);
    parts = λ modelled meaning agrees. Run-mono (λ files same. inl same) (leaves.run modelled);
    bytes = λ modelled appended.
        subst AppendedAreBytes (sym (leaves.run modelled).has) appended;
    locks = leaves.locks;
    later = leaves.later;
    cause = fails_weaker env from to status (λ why. inl (why, leaves.run)) cause;
  }

  module _ {from mid : E} (leaves : LeavesFiles env from mid) where
    same_files : IsTrue env.models_disk
        → (env.observed mid).disk.files ≡ (env.observed from).disk.files
    same_files modelled = (leaves.run modelled).has

    ok_after : {to : E} → IsTrue env.models_disk → (meaning : Meaning)
        → ((it : HoldsAllFound store choices.format meaning (env.observed mid).disk.files
        (env.observed to).disk.files)
        × Run (IsAmidRepair store it.taken it.next (env.observed mid).disk.files)
        (env.observed mid) (env.observed to))
        → (it : HoldsAllFound store choices.format meaning (env.observed from).disk.files
        (env.observed to).disk.files)
        × Run (IsAmidRepair store it.taken it.next (env.observed from).disk.files)
        (env.observed from) (env.observed to)
    ok_after {to} modelled meaning (it, run) =
        let files : Files = (env.observed mid).disk.files in
        let before : Run (IsAmidRepair store it.taken it.next files) (env.observed from)
        (env.observed mid) =
        Run-mono (λ now same. subst (IsAmidRepair store it.taken it.next files)
        (same_files modelled ∙ sym same) (repairing_none store it.repairing))
        (leaves.run modelled) in
        subst (λ (old : Files).
        (made : HoldsAllFound store choices.format meaning old (env.observed to).disk.files)
        × Run (IsAmidRepair store made.taken made.next old) (env.observed from)
        (env.observed to)) (same_files modelled)
        (it, Run-trans before (λ now is. is) run)

    -- the moments of a repair of the same files
    moments_after : {to : E} → IsTrue env.models_disk → (Moment : Files → Files → Type 0)
        → ((old now : Files) → now ≡ old → Moment old now)
        → Run (Moment (env.observed mid).disk.files) (env.observed mid) (env.observed to)
        → Run (Moment (env.observed from).disk.files) (env.observed from) (env.observed to)
    moments_after {to} modelled Moment still run =
        let files : Files = (env.observed mid).disk.files in
        let before : Run (Moment files) (env.observed from) (env.observed mid) =
        Run-mono (λ now same. still files now (same ∙ sym (same_files modelled)))
        (leaves.run modelled) in
        subst (λ (old : Files). Run (Moment old) (env.observed from) (env.observed to))
        (same_files modelled) (Run-trans before (λ now is. is) run)

    -- so is why it isn't ended
    ended_after : {status : Status} → WhyNotEnded choices env store mid status
        → WhyNotEnded choices env store from status
    ended_after (inl (pairs, found, not_built)) = inl (
      pairs,
      λ modelled. subst (λ (files : Files). ArePairsFound store files choices.format pairs)
          (same_files modelled) (found modelled),
      not_built,
    )
    ended_after (inr (inl (code, many))) = inr (inl (
      code,
      λ modelled. subst (λ (files : Files). AreTooManyFound store files choices.format)
          (same_files modelled) (many modelled),
    ))
    ended_after (inr (inr lacking)) = inr (inr lacking)

    cause_after : {to : E} {status : Status} → FailsBetweenOr env
        ((WhyNotBegun env choices.format store mid status × (IsTrue env.models_disk
        → Run (FilesUnchanged (env.observed mid).disk.files) (env.observed mid)
        (env.observed to))) ⊎ WhyNotEnded choices env store mid status) mid to status
        → FailsBetweenOr env
        ((WhyNotBegun env choices.format store from status × (IsTrue env.models_disk
        → Run (FilesUnchanged (env.observed from).disk.files) (env.observed from)
        (env.observed to))) ⊎ WhyNotEnded choices env store from status) from to status
    cause_after {to} {status} cause = fails_earlier env from mid to status leaves.later
        (fails_weaker env mid to status (⊎_elim
        (λ (why : WhyNotBegun env choices.format store mid status × (IsTrue env.models_disk
        → Run (FilesUnchanged (env.observed mid).disk.files) (env.observed mid)
        (env.observed to))).
        inl (
          why_before from mid status same_files why.0,
          λ m. Run-trans (leaves.run m)
              (λ now same. same ∙ same_files m) (why.1 m),
        ))
        (λ (why : WhyNotEnded choices env store mid status). inr (ended_after why))) cause)

    -- a repair of the same files
    pub repairs_after : {to : E} (result : Result (Unit {0}) Status)
        → RepairsStore choices env store mid result to
        → RepairsStore choices env store from result to
    repairs_after (Ok done) r = record {
      ok = λ modelled meaning agrees. ok_after modelled meaning (r.ok modelled meaning agrees);
      moments = λ modelled meaning agrees. moments_after modelled
          (IsMomentOfRepair store choices.format meaning) (λ old now same. inl same)
          (r.moments modelled meaning agrees);
      parts = λ modelled meaning agrees. moments_after modelled
          (IsOldOrPartlyRepaired choices store meaning) (λ old now same. inl same)
          (r.parts modelled meaning agrees);
      bytes = λ modelled appended.
          r.bytes modelled (subst AppendedAreBytes (sym (same_files modelled)) appended);
      locks = λ modelled. r.locks modelled ∙ leaves.locks modelled;
      later = let one = leaves.later in let other = r.later in omega (arith, one, other);
      cause = tt;
    }
    repairs_after (Err status) r = record {
      ok = tt;
      moments = λ modelled meaning agrees. moments_after modelled
          (IsMomentOfRepair store choices.format meaning) (λ old now same. inl same)
          (r.moments modelled meaning agrees);
      parts = λ modelled meaning agrees. moments_after modelled
          (IsOldOrPartlyRepaired choices store meaning) (λ old now same. inl same)
          (r.parts modelled meaning agrees);
      bytes = λ modelled appended.
          r.bytes modelled (subst AppendedAreBytes (sym (same_files modelled)) appended);
      locks = λ modelled. r.locks modelled ∙ leaves.locks modelled;
      later = let one = leaves.later in let other = r.later in omega (arith, one, other);
      cause = cause_after r.cause;
    }
