-- The picture is of the run's journal.
use Rattle.std.proofs.Common.{inr, refl, subst}
use Rattle.orc_run.specs.Checked.{IsOfRun}
use Rattle.orc_run.specs.Drawn.{Draws, IsBeyondDrawing, IsUndrawnFor, with_journal}
use Rattle.orc_run.proofs.picture.draw_run.Goals as goal

pub returns-in-Ok-draw_text-clause-drawn : goal.returns-in-Ok-draw_text-clause-drawn
returns-in-Ok-draw_text-clause-drawn g c =
    let (s, runs) = c.in-Ok.ensures.ran in
    (c.in-Ok.journal.items, s, runs, subst (λ t. Draws c.args.source.now c.args.script.now t (g.W.Write.contents c.args.out.now) (g.W.Write.contents c.draw_text.new.out)) c.as_slice.ensures.value c.in-Ok-draw_text.ensures.drawn)

-- it isn't drawn only where it is beyond a limit
pub returns-clause-cause : goal.returns-clause-cause
returns-clause-cause g c =
    let (s, runs) = c.in-Ok.ensures.ran in
    let u = c.in-Err-draw_text.undrawn in
    let (cause, beyond) = subst (λ t. IsUndrawnFor c.args.source.now c.args.script.now t u × (IsOfRun c.args.source.now c.args.script.now t s → IsBeyondDrawing u)) c.as_slice.ensures.value (c.in-Err-draw_text.ensures.cause, λ of. c.in-Err-draw_text.ensures.beyond s of) in
    inr (c.in-Ok.journal.items, s, runs, cause, beyond (with_journal c.args.options.now.run, refl, runs))
