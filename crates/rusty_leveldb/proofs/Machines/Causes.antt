-- Each refusal has a cause.
use Rattle.std.proofs.Common.{◌≡◌, ◌⊎◌, inl, inr, refl}
use Rattle.rusty_leveldb.specs.Machines.State.{State, Mode, broken, closed, Request, open_store, write, flush, compact_range, close, abandon, Refusal, refused}
use Rattle.rusty_leveldb.specs.Machines.Causes.{Setting, Cause, IsCausedBy, IsClosedRefusal, IsBrokenRefusal}
use Rattle.rusty_leveldb.specs.Machines.Machine.{Step}
use Rattle.rusty_leveldb.specs.Machines.Laws.{RefusalHasCause}

module _ (setting : Setting) (old new : State) (refusal : Refusal) where
  abbrev HasReason : Mode → Request → Type 0
  HasReason mode request = ((cause : Cause) × IsCausedBy setting old request refusal cause) ⊎ ((mode ≡ closed) × IsClosedRefusal refusal) ⊎ ((mode ≡ broken) × IsBrokenRefusal refusal)

  reason : (mode : Mode) (request : Request) → Step mode setting old request (refused refusal) new → HasReason mode request
  reason closed (open_store opening) step = inl (step.cause, step.comes)
  reason closed abandon step = absurd (cc)
  reason closed request step = inr (inl (refl, step.0))
  reason mode (open_store opening) step = absurd step
  reason broken (write items sync) step = inr (inr (refl, step.0))
  reason broken flush step = inr (inr (refl, step.0))
  reason broken (compact_range from to) step = inr (inr (refl, step.0))
  reason broken close step = inr (inr (refl, step.0))
  reason mode request step = inl (step.cause, step.comes)

pub refusal_has_cause : RefusalHasCause
refusal_has_cause setting old new request refusal step = reason setting old new refusal old.mode request step
