use Rattle.std.proofs.Common.{◌∙◌, ◌++◌, ◌∷◌, [], refl, ap}
use Rattle.std.specs.Prelude.{slice_get}
use Rattle.orc_rules.specs.declared.entry.Entry.TheVariants as entry
use Rattle.orc_checker.specs.Checker.{State}
use Rattle.orc_journal_text.proofs.Stripping.{count_more}
use Rattle.orc_reference.proofs.Stories.{none_due}
use Rattle.orc_reference.proofs.reference.settle.Goals as goal

pub loop-turn-init : goal.loop-turn-init
loop-turn-init c = λ es p told. (es, p, told, refl)

pub loop-turn-preserved : goal.loop-turn-preserved
loop-turn-preserved c = λ es p told.
    let (fs, q, so_far, same) = c.loop-turn.invariant es p told in
    let (r, leads, next) = c.in-Ok.ensures.grows fs q so_far in
    (fs ++ entry.Cancel c.in-Some.call ∷ [], r, next, count_more fs (entry.Cancel c.in-Some.call) ∙ same)

-- no cancel is due where none is next
pub returns-in-None : goal.returns-in-None
returns-in-None c = λ es p told.
    let (fs, q, so_far, same) = c.loop-turn.invariant es p told in
    record { journal = fs; place = q; told = so_far; paid = none_due c.args.program.now c.args.answers.now c.loop-turn.history fs q so_far (c.in-None.ensures ∙ ap (λ (m : State). slice_get m.rest.to_cancel 0) c.marked-in-loop-turn.ensures); turns_are = same }
