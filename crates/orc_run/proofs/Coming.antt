-- What the status that a command line comes to tells of standard output.
use Rattle.std.proofs.Common.{◌≡◌, ◌<◌, ◌≢◌, ◌∙◌, ◌⊎◌, ℕ, Bool, true, false, List, Option, ap, arith, inl, inr, refl, subst, sym}
use Rattle.std.specs.Prelude.{if◌then◌else◌}
use Rattle.std.specs.Io.KnownBytes.{Keeps}
use Rattle.orc_outcome.specs.declared.end.End.TheVariants as ends
use Rattle.orc_cli.specs.declared.job.Asked.{Asked}
use Rattle.orc_outcome.specs.declared.end.Summary.{Summary}
use Rattle.orc_cli.specs.declared.job.Job.{Job}
use Rattle.orc_cli.specs.declared.job.Job.TheVariants as job
use Rattle.orc_run.specs.Causes.{ComesTo, HasCause}
use Rattle.orc_run.specs.Commands.{ChecksRun, HasEnded, IsDone, TellsNotAll, TellsOfFailures, WasCut}
use Rattle.orc_run.specs.Failures.{is_asked}
use Rattle.orc_run.specs.declared.explained.Explained.{Explained}
use Rattle.orc_run.specs.declared.explained.Explained.TheVariants as explained
use Rattle.orc_run.proofs.Statuses as statuses

-- before anything is explained, explanations are asked for where the command line asks for them
asked_is : (b : Bool) → is_asked (if b then explained.Nothing else explained.Unasked) ≡ b
asked_is true = refl
asked_is false = refl

pub done_as_asked : (holds : List ℕ → Option (List ℕ)) (a : Asked) (e : Explained) (old new : Option (List ℕ)) (status : ℕ) → e ≡ (if a.explain then explained.Nothing else explained.Unasked)
    → IsDone holds (is_asked e) a.job old new status → IsDone holds a.explain a.job old new status
done_as_asked holds a e old new status is done = subst (λ (b : Bool). IsDone holds b a.job old new status) (ap is_asked is ∙ asked_is a.explain) done

-- what was done has no status of a fault of the engine
pub done_sound : (holds : List ℕ → Option (List ℕ)) (explains : Bool) (j : Job) (old new : Option (List ℕ)) (status : ℕ) → IsDone holds explains j old new status → status ≢ 7
done_sound holds explains j old new status done = (statuses.faultless holds explains j old new status done).2

-- a check that was done has status 0
pub checked_status : (holds : List ℕ → Option (List ℕ)) (explains : Bool) (j : Job) (s : Summary) (old new : Option (List ℕ)) (status : ℕ) → ChecksRun holds j s → IsDone holds explains j old new status → status ≡ 0
checked_status holds explains (job.Check program journal) s old new status checks (source, text, read, held, told, said, judges, is) = is
checked_status holds explains (job.Run program options) s old new status none done = absurd none
checked_status holds explains (job.Outcomes program options) s old new status none done = absurd none
checked_status holds explains (job.Search program options) s old new status none done = absurd none
checked_status holds explains (job.Show program options) s old new status none done = absurd none
checked_status holds explains (job.Claims program journal test) s old new status none done = absurd none
checked_status holds explains (job.Draw program journal options) s old new status none done = absurd none
checked_status holds explains (job.DrawRun program options) s old new status none done = absurd none
checked_status holds explains (job.Print file) s old new status none done = absurd none
checked_status holds explains (job.Test program test options) s old new status none done = absurd none

below_not : (n : ℕ) → n < 8 → n ≢ 7 → n < 7
below_not n below not_seven = omega (arith, below, not_seven)

module _ (holds : List ℕ → Option (List ℕ)) (a : Asked) (old new : Option (List ℕ)) (status : ℕ) where
  below_eight : ComesTo holds a old new status → status < 8
  below_eight (inl done) = (statuses.faultless holds a.explain a.job old new status done).0
  below_eight (inr (f, cause, left, is)) = subst (λ (n : ℕ). n < 8) (sym is) (statuses.failure_below f)

  pub below_seven : ComesTo holds a old new status → status ≢ 7 → status < 7
  below_seven comes not_seven = below_not status (below_eight comes) not_seven

  -- a status that nothing has that was done is that of a failure, which left the output as it was
  kept_at : (n : ℕ) → n ≢ 6 → (IsDone holds a.explain a.job old new status → status ≡ n → ⊥) → ComesTo holds a old new status → status ≡ n → Keeps old new
  kept_at n not_six undone (inl done) here = absurd (undone done here)
  kept_at n not_six undone (inr (f, cause, left, is)) here = statuses.kept f old new n (sym is ∙ here) not_six left

  pub kept_at_two : ComesTo holds a old new status → status ≡ 2 → Keeps old new
  kept_at_two comes two = kept_at 2 (λ h. omega (arith, h)) (λ done. (statuses.faultless holds a.explain a.job old new status done).1) comes two

  pub failed_or_kept : ComesTo holds a old new status → status ≡ 1 → (Keeps old new × HasCause holds 1) ⊎ TellsOfFailures old new
  failed_or_kept (inl done) one = inr (statuses.failed holds a.explain a.job old new status done one)
  failed_or_kept (inr (f, cause, left, is)) one = inl (statuses.kept f old new 1 (sym is ∙ one) (λ h. omega (arith, h)) left, (a.job, f, cause, sym one ∙ is))

  pub ended_quiet : ComesTo holds a old new status → status ≡ 3 → HasEnded ends.Quiet old new
  ended_quiet (inl done) three = statuses.ended_quiet holds a.explain a.job old new status done three
  ended_quiet (inr (f, cause, left, is)) three = absurd (statuses.not_quiet f (sym is ∙ three))

  pub ended_cut : ComesTo holds a old new status → status ≡ 4 → WasCut old new ⊎ TellsNotAll old new
  ended_cut (inl done) four = statuses.ended_cut holds a.explain a.job old new status done four
  ended_cut (inr (f, cause, left, is)) four = absurd (statuses.not_cut f (sym is ∙ four))
