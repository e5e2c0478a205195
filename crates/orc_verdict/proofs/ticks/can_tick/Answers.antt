use Rattle.std.proofs.Common.{◌<◌, ◌∙◌, sym, subst}
use Rattle.orc_rules.specs.Journal.{moment}
use Rattle.orc_rules.specs.Nodes.{code}
use Rattle.orc_checker.specs.Checker.{Spells}
use Rattle.orc_verdict.proofs.ticks.can_tick.Goals as goal

pub returns-clause-tick : goal.returns-clause-tick
returns-clause-tick c x p defs sp =
    let l = c.args.program.now in
    let t = c.args.t in
    let by = c.tests_are_right.ensures.tick x (moment p) c.next_due-due.result (c.next_due-due.ensures.next x l p sp) t in
    let then = subst (λ z. Spells x (code l) z p) (sym c.next_due-due.ensures.same) sp in
    let moves = c.can_move-moves.ensures.moves x p defs then in
    let now = c.now-now.ensures x l p then in
    let test = c.may_tick.ensures in (
      λ h. let d = test.0 h in by.1 (sym moves ∙ d.0, d.1, subst (λ z. z < t) now d.2),
      λ h. let d = by.0 h in test.1 (moves ∙ d.0, d.1, subst (λ z. z < t) (sym now) d.2),
    )
