-- The reasons of refused calls, by their records.
use Rattle.std.proofs.Common.{◌≡◌, ◌⊎◌, inl, inr}
use Rattle.leveldb_base.specs.declared.error.Status.{Status}
use Rattle.leveldb_env.specs.Options.{Boxed, OptionsOf}
use Rattle.leveldb_env.specs.declared.env.Env.{Ghosts}
use Rattle.leveldb_env.specs.declared.filter.FilterPolicy.{Ghosts as FilterGhosts}
use Rattle.leveldb_store.specs.Tables.BuildTable.{TableChoices}
use Rattle.leveldb_store.specs.Writing.Room.{HasFailed}
use Rattle.rusty_leveldb.specs.Engines.Boxes.{InternalOrder}
use Rattle.rusty_leveldb.specs.Engines.CallLaws.{IsExplained, RefusalsAreExplained}
use Rattle.rusty_leveldb.specs.Engines.Engine.{CompactExcused, WriteExcused}
use Rattle.rusty_leveldb.specs.Engines.Serves.{refusal_of, setting_between}
use Rattle.rusty_leveldb.specs.Machines.Causes.{Cause, IsBrokenRefusal, IsCausedBy, IsClosedRefusal, ReachesDevice, Setting, device_failed, too_large}
use Rattle.rusty_leveldb.specs.Machines.Machine.{Step}
use Rattle.rusty_leveldb.specs.Machines.State.{Request, State, broken, closed, compact_range, open_store, refused, write}
use Rattle.rusty_leveldb.specs.Openings.Unopened.{OpenExcused}
use Rattle.rusty_leveldb.proofs.Machines.Causes.{refusal_has_cause}

module _ (setting : Setting) (old new : State) (request : Request) (e : Status)
    (Reason : Status → Type 0) (reaches : ReachesDevice request)
    (step : Step old.mode setting old request (refused (refusal_of e)) new) where
  by_reason : Reason e
      → ((cause : Cause) × IsCausedBy setting old request (refusal_of e) cause)
      ⊎ ((old.mode ≡ closed) × IsClosedRefusal (refusal_of e))
      ⊎ ((old.mode ≡ broken) × IsBrokenRefusal (refusal_of e))
      → IsExplained setting old request e Reason
  by_reason why (inl (cause, comes)) = inl (cause, comes, λ large. why)
  by_reason why (inr by_mode) = inr by_mode

  explained : Reason e ⊎ HasFailed setting.before setting.after
      → IsExplained setting old request e Reason
  explained (inl why) =
      by_reason why (refusal_has_cause setting old new request (refusal_of e) step)
  explained (inr failed) = inl (
    device_failed,
    (reaches, failed),
    λ large. absurd (let never : device_failed ≡ too_large = large in cc),
  )

pub refusals_are_explained : {E C FP F P : Type 0} {B : Boxed} {keys : InternalOrder C}
    {key_filters : FilterGhosts P} (env : Ghosts E F)
    (choices : OptionsOf C FP B → TableChoices keys key_filters) (options : OptionsOf C FP B)
    → RefusalsAreExplained env choices options
refusals_are_explained env choices options = record {
  writes = λ items sync e before after from to call modelled store meaning old was.
      let taken = call.step store meaning modelled old was in
      explained (setting_between meaning (env.failures from) (env.failures to)) old taken.new
      (write items sync) e (WriteExcused env choices before from items after.store) tt taken.step
      call.cause.cause;
  compactions = λ low high e before after from to call modelled store meaning old was.
      let taken = call.step store meaning modelled old was in
      explained (setting_between meaning (env.failures from) (env.failures to)) old taken.new
      (compact_range low high) e (CompactExcused env choices before from low high after.store) tt
      taken.step call.cause.cause;
  openings = λ name asked opening e from to call modelled is meaning agrees old was.
      let taken = call.step opening is meaning agrees modelled old was in
      explained (setting_between meaning (env.failures from) (env.failures to)) old taken.new
      (open_store opening) e (OpenExcused env name (choices options) asked from) tt taken.step
      call.cause.cause;
}
