-- A job was done, or it wasn't.
use Rattle.std.proofs.Common.{◌≢◌, ℕ, inl, inr, subst, sym}
use Rattle.orc_run.proofs.Coming.{checked_status, done_as_asked, done_sound}
use Rattle.orc_run.proofs.commands.perform.Goals as goal

pub returns-in-Ok-clause-done : goal.returns-in-Ok-clause-done
returns-in-Ok-clause-done g c = inl (done_as_asked _ c.args.asked c.new-explained.result _ _ _ c.new-explained.ensures c.in-Ok.ensures.done)

pub returns-clause-done : goal.returns-clause-done
returns-clause-done g c = inr (c.in-Err.failure, c.in-Err.ensures.cause, c.in-Err.ensures.undone, c.status.ensures)

-- its status isn't one of a fault of the engine
pub returns-in-Ok-clause-sound : goal.returns-in-Ok-clause-sound
returns-in-Ok-clause-sound g c = λ within. done_sound _ _ _ _ _ _ c.in-Ok.ensures.done

pub returns-clause-sound : goal.returns-clause-sound
returns-clause-sound g c = λ within. subst (λ (n : ℕ). n ≢ 7) (sym c.status.ensures) (c.in-Err.ensures.sound within)

-- the journal of a run is accepted, or refused for a cause
pub returns-in-Ok-clause-accepted : goal.returns-in-Ok-clause-accepted
returns-in-Ok-clause-accepted g c = λ s checks. inl (checked_status _ _ c.args.asked.job s _ _ _ checks c.in-Ok.ensures.done, c.in-Ok.ensures.accepted s checks)

pub returns-clause-accepted : goal.returns-clause-accepted
returns-clause-accepted g c = λ s checks. inr (c.in-Err.failure, c.in-Err.ensures.beyond s checks, c.status.ensures)

-- and drawn or judged
pub returns-in-Ok-clause-taken : goal.returns-in-Ok-clause-taken
returns-in-Ok-clause-taken g c = λ s takes. inl (done_as_asked _ c.args.asked c.new-explained.result _ _ _ c.new-explained.ensures c.in-Ok.ensures.done)

pub returns-clause-taken : goal.returns-clause-taken
returns-clause-taken g c = λ s takes. inr (c.in-Err.failure, c.in-Err.ensures.untaken s takes, c.status.ensures)
